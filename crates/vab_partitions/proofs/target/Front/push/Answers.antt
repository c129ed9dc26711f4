use Rattle.std.proofs.Common.{◌≡◌, ◌++◌, ℕ, Bool, true, false, List, [], ◌∷◌, length, ap, sym}
use Rattle.std.proofs.Common.{◌∙◌, arith, refl}
use Rattle.vab_names.specs.Names.{is_of_slot}
use Rattle.vab_layout.specs.declared.layout.Part.{Part}
use Rattle.vab_layout.specs.Slots.{own_parts, IsDistinct}
use Rattle.vab_blocks.specs.Blocks.{is_distinct}
use Rattle.vab_blocks.proofs.Distinct.{distinct_pairs, pairs_distinct}
use Rattle.vab_partitions.proofs.target.Front.push.Goals as goal

pub returns-then-not-branch-clause-room : goal.returns-then-not-branch-clause-room
returns-then-not-branch-clause-room c = (
  λ t. absurd (let wrong : false ≡ true = t in cc),
  λ j. sym c.if-not-branch.true ∙ c.in_ok-is_once.ensures
      ∙ ap is_distinct c.in_ok-append.ensures
      ∙ pairs_distinct (c.args.self.now.seen ++ c.args.part.now.blocks) j.once,
)

pub is_once-requires : goal.is_once-requires
is_once-requires c = λ apart.
    ap is_distinct c.in_ok-append.ensures ∙ c.requires.apart apart

-- no block stands twice in what was seen and the next
once : (seen more : List ℕ) (blocks : List ℕ) (told : Bool)
    → more ≡ seen ++ blocks
    → told ≡ is_distinct more
    → told ≡ true
    → IsDistinct (seen ++ blocks)
once seen more blocks told is same t =
    distinct_pairs (seen ++ blocks) (ap is_distinct (sym is) ∙ sym same ∙ t)

pub returns-else-self-most-clause-room
    : goal.returns-else-self-most-clause-room
returns-else-self-most-clause-room c =
    let p : Part = c.args.part.now in
    let slot = c.args.slot in
    let named = ap (is_of_slot slot) (sym c.text.ensures.value) ∙ sym c.is_of_slot.ensures in
    let own : own_parts slot (p ∷ []) ≡ p ∷ [] = rw (named ∙ c.if-is_of_slot.true) refl in (
      λ t. record {
        once = once c.args.self.now.seen _ p.blocks _ c.in_ok-append.ensures
            c.in_ok-is_once.ensures c.if-not-branch.false;
        few = omega (arith, ap length own, c.if-self-most.false);
      },
      λ room. refl,
    )

pub returns-else-is_of_slot-clause-room : goal.returns-else-is_of_slot-clause-room
returns-else-is_of_slot-clause-room c =
    let p : Part = c.args.part.now in
    let slot = c.args.slot in
    let named = ap (is_of_slot slot) (sym c.text.ensures.value) ∙ sym c.is_of_slot.ensures in
    let none : own_parts slot (p ∷ []) ≡ [] = rw (named ∙ c.if-is_of_slot.false) refl in (
      λ t. record {
        once = once c.args.self.now.seen _ p.blocks _ c.in_ok-append.ensures
            c.in_ok-is_once.ensures c.if-not-branch.false;
        few = omega (arith, ap length none, c.requires.few);
      },
      λ room. refl,
    )

-- Targets without twins, and what their edits make.
use Rattle.std.proofs.Common.{◌≡◌, ℕ, ◌+◌, ◌-◌, List, [], ◌∷◌, ◌++◌, length, map, take, sum_by}
use Rattle.std.proofs.Common.{refl, sym, ap, ◌∙◌, inl, inr, arith}
use Rattle.std.proofs.Math.Seq.{take-nil}
use Rattle.std.proofs.lemmas.List.{length-take}
use Rattle.std.proofs.lemmas.List.Sums.{sum_by-cons}
use Rattle.vab_names.specs.Names.{store_of}
use Rattle.vab_space.specs.declared.Want.{Want}
use Rattle.vab_space.specs.Space.{growth_of}
use Rattle.vab_layout.specs.declared.layout.Part.{Part}
use Rattle.vab_layout.specs.Slots.{own_parts, blocks_named}
use Rattle.vab_builder.specs.Edits.{free_of, kept_blocks}
use Rattle.vab_builder.specs.Sizes.{want_of}
use Rattle.vab_targets.specs.Apart.{CreatesLowest, ResizesItself, UsesAll, IsApartAndUpdated}

whole : (n : ℕ) → n - 0 ≡ n
whole n = omega arith

pub created_lowest : CreatesLowest
created_lowest slot source target name n =
    let free : List ℕ = free_of slot source target in
    ap (λ (l : List ℕ). l ++ take (n - 0) free) (take-nil n)
    ∙ ap (λ (k : ℕ). take k free) (whole n)

-- what a partition without a twin keeps at another size
kept_itself : (blocks : List ℕ) (n : ℕ) → kept_blocks [] blocks n ≡ take n blocks
kept_itself blocks n =
    ap (λ (l : List ℕ). l ++ take (n - 0) blocks) (take-nil n)
    ∙ ap (λ (k : ℕ). take k blocks) (whole n)

pub resized_itself : ResizesItself
resized_itself slot source target p n =
    let free : List ℕ = free_of slot source target in
    let rest : n - length (take n p.blocks) ≡ n - length p.blocks =
    omega (arith, length-take n p.blocks) in
    ap (λ (l : List ℕ). l ++ take (n - length l) free) (kept_itself p.blocks n)
    ∙ ap (λ (k : ℕ). take n p.blocks ++ take k free) rest

-- what these partitions without twins take
all_taken : (slot : ℕ) (target parts : List Part)
    → sum_by growth_of (map (want_of slot [] target) parts)
    + sum_by (λ v. v.store) (map (want_of slot [] target) parts)
    ≡ sum_by (λ p. length p.blocks + length (blocks_named (store_of p.name) target)) parts
all_taken slot target [] = refl
all_taken slot target (p ∷ ps) =
    let w : Part → Want = want_of slot [] target in
    let store : Part → ℕ = λ q. length (blocks_named (store_of q.name) target) in
    omega (
      arith,
      sum_by-cons growth_of (w p) (map w ps),
      sum_by-cons (λ v. v.store) (w p) (map w ps),
      sum_by-cons (λ q. length q.blocks + store q) p ps,
      whole (length p.blocks),
      all_taken slot target ps,
    )

pub uses_all : UsesAll
uses_all slot source target = omega (arith, all_taken slot target (own_parts slot target))

pub apart_updated : IsApartAndUpdated
apart_updated slot source target p = (
  λ is. (
    is.fresh,
    elim is.kept [
      | inl updated ↦ updated
      | inr k ↦ absurd (omega (arith, k.0.2))
    ],
  ),
  λ h. record { begins = sym (take-nil (length p.blocks)); fresh = h.0; kept = inl h.1 },
)

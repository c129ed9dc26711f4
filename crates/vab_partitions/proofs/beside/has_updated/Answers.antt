use Rattle.std.proofs.Common.{◌≡◌, ◌-◌, ◌++◌, ℕ, List, length, take, ap, arith, sym, subst, ◌∙◌}
use Rattle.std.proofs.Common.{length-append}
use Rattle.std.specs.Prelude.{Any, IsTrue}
use Rattle.std.specs.List.{list_any}
use Rattle.std.proofs.lemmas.List.{take_at}
use Rattle.vab_names.specs.Names.{store_suffix, store_of}
use Rattle.vab_layout.specs.Slots.{is_updated, own_parts}
use Rattle.vab_names.proofs.NameCases.{store_ends}
use Rattle.vab_partitions.proofs.PartCases.{is_its, its_then, then_its}
use Rattle.vab_partitions.proofs.beside.has_updated.Goals as goal

store_is : (front name : List ℕ) → name ≡ front ++ store_suffix → name ≡ store_of front
unfolding store_of
store_is front name is = is

-- what stands in front of the last four bytes
front_is : (text name front : List ℕ)
    → text ≡ name
    → name ≡ front ++ store_suffix
    → take (length text - 4) text ≡ front
front_is text name front same is =
    let whole = same ∙ is in
    let count : length front ≡ length text - 4 =
    omega (arith, ap length whole, length-append front store_suffix) in
    ap (λ (l : List ℕ). take (length text - 4) l) whole
    ∙ take_at front store_suffix (length text - 4) count

pub slice_bounds-has_its-count : goal.slice_bounds-has_its-count
slice_bounds-has_its-count c =
    let e = store_ends c.args.slot c.args.name.now c.requires.store in
    omega (
      arith,
      ap length c.text-text.ensures.value,
      ap length e.1,
      length-append e.0
          store_suffix,
    )

pub returns : goal.returns
returns c =
    let slot = c.args.slot in
    let name = c.args.name.now in
    let target = c.args.target.now in
    let e = store_ends slot name c.requires.store in
    let base : List ℕ = e.0 in
    let whole : name ≡ store_of base = store_is base name e.1 in
    let front = front_is c.text-text.result.now name base c.text-text.ensures.value e.1 in
    let told : c.has_its.result ≡ list_any (is_its slot base) target =
    c.has_its.ensures ∙ ap (λ (b : List ℕ). list_any (is_its slot b) target) front in
    let There : List ℕ → Type 0 = λ n. Any (λ p. (n ≡ store_of p.name) × IsTrue (is_updated p))
    (own_parts slot target) in (
      λ t. subst There (sym whole) (its_then slot base target (sym told ∙ t)),
      λ a. told ∙ then_its slot base target (subst There whole a),
    )

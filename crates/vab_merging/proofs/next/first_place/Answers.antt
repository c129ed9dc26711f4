use Rattle.std.proofs.Common.{◌≡◌, ◌∙◌, ℕ, List, Some, length, get_or, sym, ap, subst, arith}
use Rattle.std.proofs.lemmas.List.{at_drop_all}
use Rattle.vab_tables.specs.declared.entries.Partition.{Partition}
use Rattle.vab_merging.proofs.PlaceLaws.{place_by, first_by, by_here, first_is}
use Rattle.vab_merging.proofs.next.first_place.Goals as goal

pub returns-in-Some : goal.returns-in-Some
returns-in-Some c =
    let slot : ℕ = c.args.slot in
    let table = c.args.table.now in
    let parts = c.args.parts.now in
    let i : ℕ = c.loop-partition.partition-index in
    let p : Partition = c.partition-item.result in
    let there : place_by slot parts p.name ≡ Some c.in-Some.place =
    subst (λ (n : List ℕ). place_by slot parts n ≡ Some c.in-Some.place) c.text.ensures.value
    (sym c.place_by.ensures ∙ c.in-Some.is) in
    sym (first_is slot table parts
    ∙ sym c.loop-partition.invariant
    ∙ by_here slot parts table.partitions i p c.in-Some.place
    (omega (arith, ap length c.as_slice-partition-items.ensures, c.loop-partition-test.true))
    (c.partition-item.is
    ∙ ap (λ (ps : List Partition). get_or ps i p) c.as_slice-partition-items.ensures) there)

pub returns : goal.returns
returns c =
    let slot : ℕ = c.args.slot in
    let table = c.args.table.now in
    let parts = c.args.parts.now in
    sym (first_is slot table parts
    ∙ sym c.loop-partition.invariant
    ∙ at_drop_all (first_by slot parts) table.partitions c.loop-partition.partition-index
    (omega (arith, ap length c.as_slice-partition-items.ensures, c.loop-partition-test.false)))

use Rattle.std.proofs.Common.{◌≡◌, ℕ, ◌<◌, ◌≤◌, ◌&&◌, true, false, List, length, get_or, sym, ap}
use Rattle.std.proofs.Common.{arith, ◌∙◌}
use Rattle.std.specs.Str.{bytes_eq}
use Rattle.vab_names.specs.Names.{is_of_slot}
use Rattle.vab_tables.specs.declared.entries.Partition.{Partition}
use Rattle.vab_layout.specs.declared.layout.Part.{Part}
use Rattle.vab_layout.specs.Layout.{part_of}
use Rattle.vab_partitions.specs.Overlay.{own_of}
use Rattle.vab_partitions.proofs.OverlayLaws.{of_no_store, other_part, this_part, last_part}
use Rattle.vab_partitions.proofs.OverlayLaws.{first_part}
use Rattle.vab_partitions.proofs.overlay.part_of_store.Goals as goal

pub returns-in_err-name-clause-is : goal.returns-in_err-name-clause-is
returns-in_err-name-clause-is c =
    let t = c.args.table.now in
    let s : Part = part_of t c.args.store.now in
    rw c.from_residual.ensures
    (of_no_store (own_of c.args.slot t) s c.in_err-name.ensures.none)

pub loop-partition-init : goal.loop-partition-init
loop-partition-init c =
    first_part c.args.slot c.args.table.now (part_of c.args.table.now c.args.store.now)

pub returns-then-is_named-clause-is : goal.returns-then-is_named-clause-is
returns-then-is_named-clause-is c =
    let t = c.args.table.now in
    let s : Part = part_of t c.args.store.now in
    let i : ℕ = c.loop-partition.partition-index in
    let p : Partition = c.partition-item.result in
    let items = c.as_slice-partition-items.ensures in
    let at : p ≡ get_or t.partitions i p =
    c.partition-item.is ∙ ap (λ (l : List Partition). get_or l i p) items in
    let lt : i < length t.partitions =
    omega (arith, ap length items, c.loop-partition-test.true) in
    let passes : is_of_slot c.args.slot p.name && bytes_eq p.name c.in_ok-name.name.now ≡ true =
    sym c.is_named.ensures ∙ c.if-is_named.true in
    c.loop-partition.invariant
    ∙ this_part c.args.slot t i p s c.in_ok-name.name.now lt at c.in_ok-name.ensures.some passes

pub loop-partition-preserved : goal.loop-partition-preserved
loop-partition-preserved c =
    let t = c.args.table.now in
    let s : Part = part_of t c.args.store.now in
    let i : ℕ = c.loop-partition.partition-index in
    let p : Partition = c.partition-item.result in
    let items = c.as_slice-partition-items.ensures in
    let at : p ≡ get_or t.partitions i p =
    c.partition-item.is ∙ ap (λ (l : List Partition). get_or l i p) items in
    let lt : i < length t.partitions =
    omega (arith, ap length items, c.loop-partition-test.true) in
    let fails : is_of_slot c.args.slot p.name && bytes_eq p.name c.in_ok-name.name.now ≡ false =
    sym c.is_named.ensures ∙ c.if-is_named.false in
    c.loop-partition.invariant
    ∙ other_part c.args.slot t i p s c.in_ok-name.name.now lt at c.in_ok-name.ensures.some fails

pub returns-clause-is : goal.returns-clause-is
returns-clause-is c =
    let t = c.args.table.now in
    let i : ℕ = c.loop-partition.partition-index in
    let done : length t.partitions ≤ i =
    omega (arith, ap length c.as_slice-partition-items.ensures, c.loop-partition-test.false) in
    c.loop-partition.invariant
    ∙ last_part c.args.slot t i (part_of t c.args.store.now) done

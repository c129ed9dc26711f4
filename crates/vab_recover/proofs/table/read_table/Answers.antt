use Rattle.std.proofs.Common.{◌≡◌, ℕ, sym, ◌∙◌, ap, true, false}
use Rattle.vab_layout.specs.Layout.{layout_of}
use Rattle.vab_device.specs.Kept.{lies_in}
use Rattle.vab_device.proofs.PlaceLaws.{table_is}
use Rattle.vab_recover.proofs.ReadLaws.{table_lies_not}
use Rattle.vab_recover.proofs.table.read_table.Goals as goal

pub returns-then-not-lies_in-clause-fault : goal.returns-then-not-lies_in-clause-fault
returns-then-not-lies_in-clause-fault g c = λ told kind.
    let super_end : ℕ = c.args.super_end in
    let t = c.in_ok-loaded.loaded.table in
    let lies : lies_in super_end c.args.geometry.now (layout_of t).device ≡ false =
    sym c.lies_in.ensures
    ∙ c.if-not-lies_in.true in
    table_lies_not super_end c.args.geometry.now c.args.slot (g.D.Disk.seen c.args.d.now) t
    (c.in_ok-loaded.ensures.table told) lies

pub returns-clause-ok : goal.returns-clause-ok
returns-clause-ok g c = λ told.
    let super_end : ℕ = c.args.super_end in
    let t = c.in_ok-loaded.loaded.table in
    let lies : lies_in super_end c.args.geometry.now (layout_of t).device ≡ true =
    sym c.lies_in.ensures
    ∙ c.if-not-lies_in.false in
    table_is super_end c.args.geometry.now c.args.slot (g.D.Disk.seen c.args.d.now) t
    (c.in_ok-loaded.ensures.table told) lies

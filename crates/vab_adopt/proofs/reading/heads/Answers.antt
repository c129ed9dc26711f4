use Rattle.std.proofs.Common.{◌∙◌, ◌≤◌, ℕ, List, [], Option, Err, sym, ap, subst, arith}
use Rattle.vab_disk.specs.Disk.{IsSector}
use Rattle.vab_bootctl.specs.declared.slots.Control.{Control}
use Rattle.vab_marks.specs.declared.mark.UpdateMark.{UpdateMark}
use Rattle.vab_marks.specs.declared.version.MarkVersion.TheVariants.{Two}
use Rattle.vab_device.specs.declared.fault.StartFault.TheVariants.{TooSmall}
use Rattle.vab_physical.specs.declared.tail.Tail.{Tail}
use Rattle.vab_device.specs.Reading.{whole_disk, geometry_at}
use Rattle.vab_recover.specs.Opened.{IsHeaded}
use Rattle.vab_marks.specs.Mark.{idle_mark}
use Rattle.vab_marks.specs.declared.status.PartStatus.{PartStatus}
use Rattle.vab_adopt.specs.Adopted.{adopted_control, with_heads}
use Rattle.vab_adopt.proofs.HeadLaws.{heads_read, none_read, small_read}
use Rattle.vab_adopt.proofs.reading.heads.Goals as goal

pub returns-then-sectors-lt-MIN_SECTORS-clause-fault :
    goal.returns-then-sectors-lt-MIN_SECTORS-clause-fault
returns-then-sectors-lt-MIN_SECTORS-clause-fault g c = λ t kind.
    let size : ℕ = g.D.Disk.size c.args.d.now in
    small_read size c.args.slot (g.D.Disk.seen c.args.d.now)
    (omega (arith, c.sectors-sectors.ensures, c.if-sectors-lt-MIN_SECTORS.true))
    ∙ ap (λ (n : ℕ). Err (TooSmall 4120 n)) (sym c.sectors-sectors.ensures)

pub returns-in-Err-clause-fault : goal.returns-in-Err-clause-fault
returns-in-Err-clause-fault g c = λ t kind.
    let size : ℕ = g.D.Disk.size c.args.d.now in
    let old = g.D.Disk.seen c.args.d.now in
    let enough : 4120 ≤ size =
    omega (arith, c.sectors-sectors.ensures, c.if-sectors-lt-MIN_SECTORS.false) in
    let sector : IsSector (old 4) =
    g.met.D.Disk.whole c.args.d.now 4 (old 4) (omega (arith, enough))
    (g.met.D.Disk.seen_held c.args.d.now 4) in
    none_read size c.args.slot old c.requires.slot sector enough _
    (ap (λ n. geometry_at n old) (sym c.sectors-sectors.ensures) ∙ c.in-Err.ensures.answers t kind)

pub returns-in-Ok-clause-headed : goal.returns-in-Ok-clause-headed
returns-in-Ok-clause-headed g c = λ t.
    let size : ℕ = g.D.Disk.size c.args.d.now in
    let old = g.D.Disk.seen c.args.d.now in
    let enough : 4120 ≤ size =
    omega (arith, c.sectors-sectors.ensures, c.if-sectors-lt-MIN_SECTORS.false) in
    let sector : IsSector (old 4) =
    g.met.D.Disk.whole c.args.d.now 4 (old 4) (omega (arith, enough))
    (g.met.D.Disk.seen_held c.args.d.now 4) in
    let is = heads_read size c.args.slot old c.requires.slot sector enough c.in-Ok.geometry
    (ap (λ n. geometry_at n old) (sym c.sectors-sectors.ensures) ∙ c.in-Ok.ensures.answers t) in
    let with = with_heads c.args.slot old in
    subst
    (λ (m : UpdateMark). IsHeaded size with m Two c.new.result.items c.adopted_control.result
    c.whole_disk.result c.in-Ok.geometry)
    (sym c.idle_mark.ensures)
    (subst
    (λ (x : Control). IsHeaded size with (idle_mark c.args.slot) Two c.new.result.items x
    c.whole_disk.result c.in-Ok.geometry)
    (sym c.adopted_control.ensures.is)
    (subst
    (λ (ss : List (Option PartStatus)). IsHeaded size with (idle_mark c.args.slot) Two ss
    (adopted_control c.args.slot) c.whole_disk.result c.in-Ok.geometry)
    (sym c.new.ensures)
    (subst
    (λ (tail : Tail). IsHeaded size with (idle_mark c.args.slot) Two []
    (adopted_control c.args.slot) tail c.in-Ok.geometry)
    (sym (c.whole_disk.ensures ∙ ap whole_disk c.sectors-sectors.ensures)) is)))

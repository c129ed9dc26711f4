use Rattle.std.proofs.Common.{Some, sym, subst}
use Rattle.vab_disk.specs.Disk.{Image}
use Rattle.vab_disk.proofs.CallLaws.{touches_reads}
use Rattle.vab_statuses.specs.Statuses.{IsFirstFree}
use Rattle.vab_model.specs.Commands.{Flash}
use Rattle.vab_device.proofs.DoesLaws.{does_later, fails_reading}
use Rattle.vab_flash.specs.Touched.{IsOfFlash}
use Rattle.vab_flash.proofs.FreeLaws.{free_there}
use Rattle.vab_flash.proofs.TakenLaws.{taken_later}
use Rattle.vab_flash.proofs.in_place.flash_in_place.Goals as goal

pub place_image-requires-clause-free : goal.place_image-requires-clause-free
place_image-requires-clause-free g c = λ t.
    let old = g.D.Disk.seen c.args.d.now in
    subst (λ (i : Image). IsFirstFree i (Some c.in-Ok.free))
    (sym (c.free_or_last.ensures.reads.seen t))
    (free_there c.args.device (g.D.Disk.size c.args.d.now) old c.requires.kept
    (c.requires.represents t) c.args.name.now (Some c.args.bytes.now) c.args.place c.args.bytes.now
    c.requires.chosen c.in-Ok.free (c.in-Ok.ensures.first t))

pub returns-in-Ok-clause-does : goal.returns-in-Ok-clause-does
returns-in-Ok-clause-does g c = λ chunk.
    let d = c.args.device in
    let name = c.args.name.now in
    does_later g.D.Disk d (Some c.args.bytes.now) (Flash name chunk) (IsOfFlash d name) _ _ _ _
    c.free_or_last.ensures.reads c.in-Ok.ensures.faults.steady (c.place_image.ensures.does chunk)

pub returns-in-Err-clause-does : goal.returns-in-Err-clause-does
returns-in-Err-clause-does g c = λ chunk.
    let d = c.args.device in
    let name = c.args.name.now in
    fails_reading g.D.Disk d (Some c.args.bytes.now) (Flash name chunk) (IsOfFlash d name)
    c.in-Err.fault _ _ c.free_or_last.ensures.reads c.in-Err.ensures.faults.cause

pub returns-in-Ok-clause-free : goal.returns-in-Ok-clause-free
returns-in-Ok-clause-free g c = λ t.
    taken_later g.D.Disk _ _ _ t c.free_or_last.ensures.reads (c.place_image.ensures.free t)

pub returns-in-Err-clause-free : goal.returns-in-Err-clause-free
returns-in-Err-clause-free g c = λ t.
    touches_reads g.D.Disk _ _ _ c.free_or_last.ensures.reads

use Rattle.std.specs.Prelude.{Some}
use Rattle.vab_disk.proofs.CallLaws.{touches_reads}
use Rattle.vab_model.specs.Commands.{Flash}
use Rattle.vab_flash.specs.Touched.{IsOfFlash}
use Rattle.vab_device.proofs.DoesLaws.{does_later, fails_reading}
use Rattle.vab_flash.proofs.FlashLaws.{base_on_disk}
use Rattle.vab_flash.proofs.TakenLaws.{taken_later}
use Rattle.vab_flash.proofs.flashing.flash_in_store.Goals as goal

pub find_differing-requires-clause-on_disk : goal.find_differing-requires-clause-on_disk
find_differing-requires-clause-on_disk g c =
    base_on_disk c.args.device (g.D.Disk.size c.args.d.now) c.args.place c.requires.kept

pub returns-in-Ok-clause-does : goal.returns-in-Ok-clause-does
returns-in-Ok-clause-does g c =
    let d = c.args.device in
    let name = c.args.name.now in
    does_later g.D.Disk d (Some c.args.bytes.now) (Flash name c.args.chunk) (IsOfFlash d name) _ _ _
    _ c.find_differing.ensures.reads c.in-Ok.ensures.faults.steady c.flash_found.ensures.does

pub returns-in-Err-clause-does : goal.returns-in-Err-clause-does
returns-in-Err-clause-does g c =
    let d = c.args.device in
    let name = c.args.name.now in
    fails_reading g.D.Disk d (Some c.args.bytes.now) (Flash name c.args.chunk) (IsOfFlash d name)
    c.in-Err.fault _ _ c.find_differing.ensures.reads c.in-Err.ensures.faults.cause

pub returns-in-Ok-clause-free : goal.returns-in-Ok-clause-free
returns-in-Ok-clause-free g c = λ t.
    taken_later g.D.Disk _ _ _ t c.find_differing.ensures.reads (c.flash_found.ensures.free t)

pub returns-in-Err-clause-free : goal.returns-in-Err-clause-free
returns-in-Err-clause-free g c = λ t.
    touches_reads g.D.Disk _ _ _ c.find_differing.ensures.reads

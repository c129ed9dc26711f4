use Rattle.std.proofs.Common.{ℕ, ◌≤◌, List, Some, true, length, subst}
use Rattle.vab_disk.proofs.CallLaws.{touches_reads}
use Rattle.vab_space.specs.Chunks.{need_at}
use Rattle.vab_model.specs.Commands.{Flash}
use Rattle.vab_flash.specs.Chosen.{store_long}
use Rattle.vab_flash.specs.Touched.{IsOfFlash}
use Rattle.vab_device.proofs.DoesLaws.{does_nothing, does_later, fails_reading}
use Rattle.vab_flash.proofs.FlashLaws.{base_all}
use Rattle.vab_flash.proofs.ReadyLaws.{no_memory}
use Rattle.vab_flash.proofs.TakenLaws.{taken_later}
use Rattle.vab_flash.proofs.flashing.flash_place.Goals as goal

pub returns-in-Ok-Some-clause-does : goal.returns-in-Ok-Some-clause-does
returns-in-Ok-Some-clause-does g c =
    let d = c.args.device in
    let name = c.args.name.now in
    does_later g.D.Disk d (Some c.args.bytes.now) (Flash name c.args.chunk) (IsOfFlash d name) _ _
    _ _ c.first_free.ensures.reads c.in-Ok-Some.ensures.faults.steady c.store_image.ensures.does

pub returns-in-Ok-None-clause-does : goal.returns-in-Ok-None-clause-does
returns-in-Ok-None-clause-does g c =
    let d = c.args.device in
    let name = c.args.name.now in
    let disk = c.args.d.now in
    does_nothing g.D.Disk d (Some c.args.bytes.now) (Flash name c.args.chunk) (IsOfFlash d name)
    true _ _ _ c.requires.kept c.requires.represents
    (λ t.
    no_memory d (g.D.Disk.size disk) (g.D.Disk.seen disk) c.requires.kept (c.requires.represents t)
    name (Some c.args.bytes.now) c.args.place c.args.bytes.now c.requires.chosen c.args.chunk
    (λ s lt. (g.met.D.Disk.whole disk s (g.D.Disk.seen disk s) lt
    (g.met.D.Disk.seen_held disk s)).long)
    (base_all d (g.D.Disk.size disk) c.args.place c.requires.kept)
    (subst (λ (l : List ℕ). need_at (length l) c.args.chunk ≤ store_long d c.args.place)
    (c.requires.exact t) c.requires.listed.room))
    c.first_free.ensures.reads c.in-Ok-None.ensures.faults.steady

pub returns-in-Err-clause-does : goal.returns-in-Err-clause-does
returns-in-Err-clause-does g c =
    let d = c.args.device in
    let name = c.args.name.now in
    fails_reading g.D.Disk d (Some c.args.bytes.now) (Flash name c.args.chunk) (IsOfFlash d name)
    c.in-Err.fault _ _
    c.first_free.ensures.reads c.in-Err.ensures.faults.cause

pub returns-in-Ok-Some-clause-free : goal.returns-in-Ok-Some-clause-free
returns-in-Ok-Some-clause-free g c = λ t.
    taken_later g.D.Disk _ _ _ t c.first_free.ensures.reads (c.store_image.ensures.free t)

pub returns-in-Ok-None-clause-free : goal.returns-in-Ok-None-clause-free
returns-in-Ok-None-clause-free g c = λ t.
    touches_reads g.D.Disk _ _ _ c.first_free.ensures.reads

pub returns-in-Err-clause-free : goal.returns-in-Err-clause-free
returns-in-Err-clause-free g c = λ t.
    touches_reads g.D.Disk _ _ _ c.first_free.ensures.reads

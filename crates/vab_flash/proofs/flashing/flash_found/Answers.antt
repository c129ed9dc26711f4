use Rattle.std.proofs.Common.{◌≡◌, ℕ, ◌≤◌, ◌<◌, List, length, Some, IfSome, false, true, refl, sym}
use Rattle.std.proofs.Common.{ap, ◌∙◌, subst, arith}
use Rattle.vab_disk.proofs.CallLaws.{reads_none, touches_none}
use Rattle.vab_space.specs.Chunks.{chunks_for, need_at}
use Rattle.vab_install.specs.Differing.{AscendsBelow}
use Rattle.vab_model.specs.Commands.{Flash}
use Rattle.vab_model.specs.Effects.{refuses}
use Rattle.vab_model.specs.declared.command.Refusal.TheVariants.{StoreFull}
use Rattle.vab_device.proofs.DoesLaws.{does_nothing}
use Rattle.vab_flash.specs.Chosen.{store_long, differing_at, IsListed}
use Rattle.vab_flash.specs.Place.{planned_at}
use Rattle.vab_flash.specs.Touched.{IsOfFlash}
use Rattle.vab_flash.proofs.FlashLaws.{base_all}
use Rattle.vab_flash.proofs.ReadyLaws.{no_memory, full_refused}
use Rattle.vab_flash.proofs.flashing.flash_found.Goals as goal

pub returns-then-needed-have-clause-does : goal.returns-then-needed-have-clause-does
returns-then-needed-have-clause-does g c =
    let d = c.args.device in
    let k = c.args.chunk in
    let name = c.args.name.now in
    let disk = c.args.d.now in
    let place : ℕ = c.args.place in
    let count : ℕ = c.args.found.count in
    let needed : need_at count k ≡ c.need_at-needed.result = sym c.need_at-needed.ensures in
    let have : store_long d place ≡ c.store_blocks-have.result = sym c.store_blocks-have.ensures in
    let more : store_long d place < need_at count k =
    omega (arith, needed, have, c.if-needed-have.true) in
    does_nothing g.D.Disk d (Some c.args.bytes.now) (Flash name k) (IsOfFlash d name) false _ disk
    disk c.requires.kept c.requires.represents
    (λ t.
    full_refused d (g.D.Disk.size disk) (g.D.Disk.seen disk) c.requires.kept
    (c.requires.represents t) name (Some c.args.bytes.now) place c.args.bytes.now c.requires.chosen
    k
    (λ s lt. (g.met.D.Disk.whole disk s (g.D.Disk.seen disk s) lt
    (g.met.D.Disk.seen_held disk s)).long)
    (base_all d (g.D.Disk.size disk) place c.requires.kept) count (c.requires.count t) more
    ∙ (λ j. refuses (StoreFull (needed j) (have j))))
    (reads_none g.D.Disk disk) refl

pub flash_place-requires-clause-listed : goal.flash_place-requires-clause-listed
flash_place-requires-clause-listed g c =
    let d = c.args.device in
    let k = c.args.chunk in
    let place : ℕ = c.args.place in
    let olds : List ℕ = c.in-Some.olds.items in
    let is : AscendsBelow (chunks_for k (length (planned_at d place).map)) (store_long d place)
    c.args.found.count olds =
    subst (λ o. IfSome o (λ v. AscendsBelow (chunks_for k (length (planned_at d place).map))
    (store_long d place) c.args.found.count v.items)) c.in-Some.is c.requires.lists in
    let needed : need_at (length olds) k ≡ c.need_at-needed.result =
    ap (λ (n : ℕ). need_at n k) is.counted ∙ sym c.need_at-needed.ensures in
    subst (IsListed k d place) (sym c.as_slice.ensures.value) (record {
      ascend = is.ascend;
      below = is.below;
      room = omega (arith, needed, c.store_blocks-have.ensures, c.if-needed-have.false);
    })

pub flash_place-requires-clause-exact : goal.flash_place-requires-clause-exact
flash_place-requires-clause-exact g c = λ t.
    let listed : List ℕ =
    differing_at c.args.chunk c.args.device c.args.place (g.D.Disk.seen c.args.d.now)
    c.args.bytes.now in
    c.as_slice.ensures.value
    ∙ subst (λ o. IfSome o (λ v. v.items ≡ listed)) c.in-Some.is (c.requires.exact t)

pub returns-in-None-clause-does : goal.returns-in-None-clause-does
returns-in-None-clause-does g c =
    let d = c.args.device in
    let k = c.args.chunk in
    let name = c.args.name.now in
    let disk = c.args.d.now in
    let place : ℕ = c.args.place in
    let room : need_at c.args.found.count k ≤ store_long d place =
    omega (arith, c.need_at-needed.ensures, c.store_blocks-have.ensures, c.if-needed-have.false) in
    does_nothing g.D.Disk d (Some c.args.bytes.now) (Flash name k) (IsOfFlash d name) true _ disk
    disk c.requires.kept c.requires.represents
    (λ t.
    no_memory d (g.D.Disk.size disk) (g.D.Disk.seen disk) c.requires.kept (c.requires.represents t)
    name (Some c.args.bytes.now) place c.args.bytes.now c.requires.chosen k
    (λ s lt. (g.met.D.Disk.whole disk s (g.D.Disk.seen disk s) lt
    (g.met.D.Disk.seen_held disk s)).long)
    (base_all d (g.D.Disk.size disk) place c.requires.kept)
    (subst (λ (n : ℕ). need_at n k ≤ store_long d place) (c.requires.count t) room))
    (reads_none g.D.Disk disk) refl

pub returns-then-needed-have-clause-free : goal.returns-then-needed-have-clause-free
returns-then-needed-have-clause-free g c = λ t. touches_none g.D.Disk _ _

pub returns-in-None-clause-free : goal.returns-in-None-clause-free
returns-in-None-clause-free g c = λ t. touches_none g.D.Disk _ _

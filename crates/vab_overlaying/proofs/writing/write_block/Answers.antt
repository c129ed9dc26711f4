use Rattle.std.proofs.Common.{◌≡◌, ℕ, ◌<◌, List, length, Result, Ok, Err, Some, refl, sym, ap}
use Rattle.std.proofs.Common.{◌∙◌, subst}
use Rattle.vab_disk.specs.declared.disk.Disk.{Ghosts}
use Rattle.vab_disk.specs.Calls.{InSectors}
use Rattle.vab_exceptions.specs.declared.area.Exception.{Exception}
use Rattle.vab_overlay.specs.declared.fault.OverlayFault.{OverlayFault}
use Rattle.vab_overlay.specs.declared.fault.OverlayFault.TheVariants as faults
use Rattle.vab_model.specs.declared.command.Reply.{Reply}
use Rattle.vab_store.specs.Layout.{IsApart}
use Rattle.vab_model.specs.declared.command.Reply.TheVariants as replies
use Rattle.vab_model.specs.declared.command.Refusal.TheVariants as refusals
use Rattle.vab_model.specs.Commands.{OverlayWrite}
use Rattle.vab_device.specs.declared.device.Part.{Part}
use Rattle.vab_device.specs.declared.device.Device.{Device}
use Rattle.vab_device.specs.Does.{Does}
use Rattle.vab_device.specs.Mounted.{blocks_there}
use Rattle.vab_overlaying.specs.Over.{with_list, with_over, PutsOver}
use Rattle.vab_device.specs.Mounted.{exceptions_in}
use Rattle.vab_overlaying.specs.Writes.{IsOfOverlaid}
use Rattle.vab_overlaying.proofs.DoneLaws.{does_over, fails_over, full_over, refused_over}
use Rattle.vab_overlaying.proofs.NextLaws.{apart}
use Rattle.vab_overlaying.proofs.WriteRowLaws.{overlaid_on, may_over}
use Rattle.vab_overlaying.proofs.ShapeLaws.{over_of}
use Rattle.vab_overlaying.proofs.writing.write_block.Goals as goal

-- the block is one of the overlaid partition's
inside_of : (d : Device) (p q : Part) (block : ℕ)
    → d.overlay ≡ Some p
    → d.overlay ≡ Some q
    → block < length p.map
    → block < length q.map
inside_of d p q block one two inside =
    let both : Some p ≡ Some q = sym one ∙ two in
    let same : p ≡ q = cc in
    subst (λ (x : Part). block < length x.map) same inside

pub put_over-requires-clause-may : goal.put_over-requires-clause-may
put_over-requires-clause-may g c =
    let d = c.args.device in
    let p = c.in-Some.part in
    let size = g.D.Disk.size c.args.d.now in
    let staged = c.requires.staged in
    let on = overlaid_on d size p c.requires.kept c.in-Some.is in
    may_over d.tail.super_end on.0 p on.2 size c.requires.kept.ends c.args.block
    (inside_of d staged.part p c.args.block staged.is c.in-Some.is staged.inside)

pub put_over-requires-clause-apart : goal.put_over-requires-clause-apart
put_over-requires-clause-apart g c = λ t.
    let d = c.args.device in
    let p = c.in-Some.part in
    let old = c.args.d.now in
    let size = g.D.Disk.size old in
    let image = g.D.Disk.seen old in
    let is = c.requires.represents t in
    let i = over_of d size image c.requires.kept is p c.in-Some.is in
    subst (λ (x : Part). IsApart (blocks_there x.store)) (sym i.part)
    (apart d size image c.requires.kept is p c.in-Some.is i)

-- where the bytes that were copied are those, and it is this answer
said : {D A : Type 0} (g : Ghosts D) (p : Part) (now : List Exception) (block : ℕ)
    (from bytes : List ℕ) (old new : D) (r k : Result A OverlayFault)
    → from ≡ bytes
    → r ≡ k
    → PutsOver g (blocks_there p.store) (exceptions_in p.image) now block from old new r
    → PutsOver g (blocks_there p.store) (exceptions_in p.image) now block bytes old new k
said {D} {A} g p now block from bytes old new r k same is puts =
    subst
    (λ (b : List ℕ).
    PutsOver g (blocks_there p.store) (exceptions_in p.image) now block b old new k)
    same
    (subst
    (λ (x : Result A OverlayFault).
    PutsOver g (blocks_there p.store) (exceptions_in p.image) now block from old new x)
    is puts)

-- with the partition that it then has
with_part : {D : Type 0} (g : Ghosts D) (d : Device) (p x : Part) (now : List Exception)
    (block : ℕ) (bytes : List ℕ) (old new : D) (reply : Reply)
    → x ≡ with_list p now
    → Does g d (Some bytes) (OverlayWrite block) (InSectors (IsOfOverlaid d)) old new
    (Ok (with_over d p now, reply))
    → Does g d (Some bytes) (OverlayWrite block) (InSectors (IsOfOverlaid d)) old new
    (Ok (record d { overlay = Some x }, reply))
with_part g d p x now block bytes old new reply is does =
    subst
    (λ (q : Part). Does g d (Some bytes) (OverlayWrite block) (InSectors (IsOfOverlaid d)) old new
    (Ok (record d { overlay = Some q }, reply)))
    (sym is) does

pub returns-in-Ok : goal.returns-in-Ok
returns-in-Ok g c =
    let d = c.args.device in
    let p = c.in-Some.part in
    let old = c.args.d.now in
    let staged = c.requires.staged in
    let now = exceptions_in c.put_over.new.part.image in
    let e = c.in-Ok.ensures in
    with_part g.D.Disk d p c.put_over.new.part now c.args.block c.args.bytes.now old
    c.put_over.new.d replies.Done e.part
    (does_over g.D.Disk d p c.in-Some.is c.args.block c.args.bytes.now
    (inside_of d staged.part p c.args.block staged.is c.in-Some.is staged.inside) staged.long old
    c.put_over.new.d now c.requires.kept c.requires.represents
    (λ t s lt.
    (g.met.D.Disk.whole old s (g.D.Disk.seen old s) lt (g.met.D.Disk.seen_held old s)).long)
    c.in-Ok.field-0
    (said g.D.Disk p now c.args.block c.copy_from_slice.new.self c.args.bytes.now old
    c.put_over.new.d (Ok c.in-Ok.field-0) (Ok c.in-Ok.field-0) c.copy_from_slice.ensures.after
    refl e.puts))

pub returns-in-Err-Full : goal.returns-in-Err-Full
returns-in-Err-Full g c =
    let d = c.args.device in
    let p = c.in-Some.part in
    let old = c.args.d.now in
    let staged = c.requires.staged in
    let now = exceptions_in c.put_over.new.part.image in
    let e = c.in-Err-Full.ensures in
    with_part g.D.Disk d p c.put_over.new.part now c.args.block c.args.bytes.now old
    c.put_over.new.d
    (replies.Refused (refusals.StoreFull c.in-Err-Full.needed c.in-Err-Full.have)) e.part
    (full_over g.D.Disk d p c.in-Some.is c.args.block c.args.bytes.now
    (inside_of d staged.part p c.args.block staged.is c.in-Some.is staged.inside) staged.long old
    c.put_over.new.d now c.requires.kept c.requires.represents
    (λ t s lt.
    (g.met.D.Disk.whole old s (g.D.Disk.seen old s) lt (g.met.D.Disk.seen_held old s)).long)
    c.in-Err-Full.needed c.in-Err-Full.have
    (said g.D.Disk p now c.args.block c.copy_from_slice.new.self c.args.bytes.now old
    c.put_over.new.d (Err c.in-Err-Full.field-0)
    (Err (faults.Full c.in-Err-Full.needed c.in-Err-Full.have))
    c.copy_from_slice.ensures.after (ap (λ (f : OverlayFault). Err f) c.in-Err-Full.field-0-is)
    e.puts))

pub returns-in-Err-NoMemory : goal.returns-in-Err-NoMemory
returns-in-Err-NoMemory g c =
    let d = c.args.device in
    let p = c.in-Some.part in
    let old = c.args.d.now in
    let staged = c.requires.staged in
    let now = exceptions_in c.put_over.new.part.image in
    let e = c.in-Err-NoMemory.ensures in
    with_part g.D.Disk d p c.put_over.new.part now c.args.block c.args.bytes.now old
    c.put_over.new.d (replies.Refused refusals.NoMemory) e.part
    (refused_over g.D.Disk d p c.in-Some.is c.args.block c.args.bytes.now
    (inside_of d staged.part p c.args.block staged.is c.in-Some.is staged.inside) staged.long old
    c.put_over.new.d now c.requires.kept c.requires.represents
    (λ t s lt.
    (g.met.D.Disk.whole old s (g.D.Disk.seen old s) lt (g.met.D.Disk.seen_held old s)).long)
    (said g.D.Disk p now c.args.block c.copy_from_slice.new.self c.args.bytes.now old
    c.put_over.new.d (Err c.in-Err-NoMemory.field-0) (Err faults.NoMemory)
    c.copy_from_slice.ensures.after (ap (λ (f : OverlayFault). Err f) c.in-Err-NoMemory.field-0-is)
    e.puts))

pub returns-in-Err-DiskFault : goal.returns-in-Err-DiskFault
returns-in-Err-DiskFault g c =
    let d = c.args.device in
    let p = c.in-Some.part in
    let old = c.args.d.now in
    let staged = c.requires.staged in
    let now = exceptions_in c.put_over.new.part.image in
    let e = c.in-Err-DiskFault.ensures in
    fails_over g.D.Disk d p c.in-Some.is c.args.block c.args.bytes.now
    (inside_of d staged.part p c.args.block staged.is c.in-Some.is staged.inside) staged.long old
    c.put_over.new.d now c.requires.kept c.requires.represents
    (λ t s lt.
    (g.met.D.Disk.whole old s (g.D.Disk.seen old s) lt (g.met.D.Disk.seen_held old s)).long)
    _
    (said g.D.Disk p now c.args.block c.copy_from_slice.new.self c.args.bytes.now old
    c.put_over.new.d (Err c.in-Err-DiskFault.field-0) (Err faults.DiskFault)
    c.copy_from_slice.ensures.after (ap (λ (f : OverlayFault). Err f) c.in-Err-DiskFault.field-0-is)
    e.puts)

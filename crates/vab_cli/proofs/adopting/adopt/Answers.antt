use Rattle.std.proofs.Common.{◌≡◌, ◌⊎◌, ◌∙◌, inl, inr, ⊎_elim, ℕ, List, true, false, Some}
use Rattle.std.proofs.Common.{sym, ap, subst}
use Rattle.vab_disk.proofs.CallLaws.{changes_touches, changes_then, changes_telling}
use Rattle.vab_device.specs.Mounted.{Mounted}
use Rattle.vab_device.specs.Reading.{IsIn}
use Rattle.vab_adopt.specs.declared.fault.AdoptFault.{AdoptFault}
use Rattle.vab_adopt.specs.Adopted.{adopt_refusal}
use Rattle.vab_adopt.specs.Adopting.{LeavesAdopting}
use Rattle.vab_cli.specs.declared.status.Status.TheVariants.{Done, Port}
use Rattle.vab_cli.specs.Adopting.{adopt_line, done_adopting, is_silent}
use Rattle.vab_cli.specs.Causes.{dropped_cause}
use Rattle.vab_cli.specs.Codes.{adopt_status}
use Rattle.vab_cli.specs.Runs.{IsEarly}
use Rattle.vab_cli.specs.Telling.{Tells}
use Rattle.vab_cli.proofs.Adoptings.{counted_line, same_device, silent_early, memory_of_none}
use Rattle.vab_cli.proofs.Adoptings.{disk_fault, early_untold, failed_line, loud_held}
use Rattle.vab_cli.proofs.Adoptings.{loud_refusal, memory_line, unadopted_yet}
use Rattle.vab_cli.proofs.Causing.{made_read, made_unmade, memory_held}
use Rattle.vab_cli.proofs.Makings.{giving_told, giving_untold, refused_told, refused_unheard}
use Rattle.vab_cli.proofs.adopting.adopt.Goals as goal

pub returns-in-Ok-clause-adopts : goal.returns-in-Ok-clause-adopts
returns-in-Ok-clause-adopts g c = λ t first is none.
    let old = c.args.port.now in
    let mid = c.adopt_device.new.d in
    let new = c.tell_adopted.new.port in
    let size = g.P.Disk.size old in
    let slot = c.args.slot in
    let found = c.in-Ok.ensures.adopted t in
    let same : found.mounted ≡ first =
    same_device size slot (g.P.Disk.seen old) found.mounted first found.is is in
    let line = counted_line size slot (g.P.Disk.seen old) found.mounted first c.in-Ok.adopted
    found.is is found.counted in
    giving_told g.P.Disk g.met.P.Disk.only_now size first (done_adopting slot first)
    (λ image. Unit {0})
    (LeavesAdopting (g.P.Disk.told old) size slot (g.P.Disk.seen old)) old mid new
    c.tell_adopted.result
    (unadopted_yet g.P.Disk g.met.P.Disk.only_now size slot old)
    (c.adopt_device.ensures.quiet.told t)
    (subst (λ (m : Mounted). IsIn size m (g.P.Disk.seen mid)) same found.stands)
    tt (c.in-Ok.ensures.settled t) (c.adopt_device.ensures.time t) c.tell_adopted.ensures.either
    (subst (λ (l : List ℕ). Tells g.P.Disk l Done mid new c.tell_adopted.result) line
    (c.tell_adopted.ensures.tells t))

pub returns-in-Ok-clause-refused : goal.returns-in-Ok-clause-refused
returns-in-Ok-clause-refused g c = λ t fault is.
    let both = sym (c.in-Ok.ensures.exact t) ∙ is in cc

pub returns-in-Ok-clause-changes : goal.returns-in-Ok-clause-changes
returns-in-Ok-clause-changes g c = λ t.
    let tells = c.tell_adopted.ensures.tells t in
    changes_then g.P.Disk _ c.args.port.now c.adopt_device.new.d c.tell_adopted.new.port
    (changes_touches g.P.Disk _ _ _ (c.adopt_device.ensures.touches t))
    (changes_telling g.P.Disk _ _ c.adopt_device.new.d c.tell_adopted.new.port
    c.tell_adopted.ensures.size
    (λ t. tells.seen) (λ t. tells.crash) (λ t. tells.time))

pub returns-in-Ok-clause-unadopted : goal.returns-in-Ok-clause-unadopted
returns-in-Ok-clause-unadopted g c = λ t none. made_unmade c.tell_adopted.ensures.either none

pub returns-in-Ok-clause-read : goal.returns-in-Ok-clause-read
returns-in-Ok-clause-read g c = λ bad. made_read c.tell_adopted.ensures.either bad

pub returns-in-Ok-clause-dropped : goal.returns-in-Ok-clause-dropped
returns-in-Ok-clause-dropped g c = λ t done.
    let found = c.in-Ok.ensures.adopted t in
    c.note_dropped.ensures ∙ ap dropped_cause found.dropped

pub returns-then-is_silent-clause-adopts : goal.returns-then-is_silent-clause-adopts
returns-then-is_silent-clause-adopts g c = λ t first is none.
    let old = c.args.port.now in
    let new = c.adopt_device.new.d in
    let size = g.P.Disk.size old in
    let slot = c.args.slot in
    let fault = c.in-Err.fault in
    let silent : is_silent fault ≡ true = sym c.is_silent.ensures ∙ c.if-is_silent.true in
    let early : IsEarly c.from.result =
    subst IsEarly (sym c.from.ensures) (silent_early fault silent) in
    giving_untold g.P.Disk g.met.P.Disk.only_now size first (done_adopting slot first)
    (λ image. Unit {0})
    (LeavesAdopting (g.P.Disk.told old) size slot (g.P.Disk.seen old)) old new c.from.result
    (unadopted_yet g.P.Disk g.met.P.Disk.only_now size slot old)
    (c.adopt_device.ensures.quiet.told t) t
    (λ memory. c.in-Err.ensures.unwritten (memory_of_none fault (sym c.from.ensures ∙ memory)))
    (c.adopt_device.ensures.time t)
    (⊎_elim (λ disk. inl (inl disk)) (λ memory. inr memory) early)

pub returns-then-is_silent-clause-refused : goal.returns-then-is_silent-clause-refused
returns-then-is_silent-clause-refused g c = λ t said is.
    let old = c.args.port.now in
    let new = c.adopt_device.new.d in
    let fault = c.in-Err.fault in
    let silent : is_silent fault ≡ true = sym c.is_silent.ensures ∙ c.if-is_silent.true in
    let early : IsEarly c.from.result =
    subst IsEarly (sym c.from.ensures) (silent_early fault silent) in
    let reads = c.adopt_device.ensures.refused t said is in
    refused_unheard g.P.Disk g.met.P.Disk.only_now (g.P.Disk.size old) (adopt_line said)
    (adopt_status said) old new c.from.result
    (c.adopt_device.ensures.quiet.told t) (reads.seen t) (reads.time t)
    (memory_line said) (failed_line said)
    (inr (⊎_elim (λ disk. inl (inl disk)) (λ memory. inr memory) early))

pub returns-then-is_silent-clause-changes : goal.returns-then-is_silent-clause-changes
returns-then-is_silent-clause-changes g c = λ t.
    changes_touches g.P.Disk _ _ _ (c.adopt_device.ensures.touches t)

pub returns-then-is_silent-clause-disk : goal.returns-then-is_silent-clause-disk
returns-then-is_silent-clause-disk g c = λ disk.
    c.in-Err.ensures.counts.cause (disk_fault c.in-Err.fault (sym c.from.ensures ∙ disk))

pub returns-then-is_silent-clause-unadopted : goal.returns-then-is_silent-clause-unadopted
returns-then-is_silent-clause-unadopted g c = λ t none.
    let silent : is_silent c.in-Err.fault ≡ true =
    sym c.is_silent.ensures ∙ c.if-is_silent.true in
    early_untold c.from.result
    (subst IsEarly (sym c.from.ensures) (silent_early c.in-Err.fault silent)) none

pub returns-clause-adopts : goal.returns-clause-adopts
returns-clause-adopts g c = λ t first is none.
    let loud : is_silent c.in-Err.fault ≡ false =
    sym c.is_silent.ensures ∙ c.if-is_silent.false in
    let refusal = adopt_refusal (g.P.Disk.size c.args.port.now) c.args.slot
    (g.P.Disk.seen c.args.port.now) in
    let said = loud_refusal c.in-Err.fault refusal (c.in-Err.ensures.exact t) loud in
    let both = sym none ∙ said in cc

pub returns-clause-refused : goal.returns-clause-refused
returns-clause-refused g c = λ t said is.
    let old = c.args.port.now in
    let mid = c.adopt_device.new.d in
    let new = c.tell_unadopted.new.port in
    let size = g.P.Disk.size old in
    let fault = c.in-Err.fault in
    let loud : is_silent fault ≡ false = sym c.is_silent.ensures ∙ c.if-is_silent.false in
    let both : Some said ≡ Some fault =
    sym is ∙ loud_refusal fault (adopt_refusal size c.args.slot (g.P.Disk.seen old))
    (c.in-Err.ensures.exact t) loud in
    let same : fault ≡ said = cc in
    let reads = c.in-Err.ensures.unwritten (loud_held fault loud) in
    let tells = subst
    (λ (f : AdoptFault).
    Tells g.P.Disk (adopt_line f) (adopt_status f) mid new c.tell_unadopted.result)
    same (c.tell_unadopted.ensures.tells t loud) in
    let either = subst
    (λ (f : AdoptFault).
    (c.tell_unadopted.result ≡ adopt_status f) ⊎ (c.tell_unadopted.result ≡ Port))
    same c.tell_unadopted.ensures.either in
    refused_told g.P.Disk g.met.P.Disk.only_now size (adopt_line said) (adopt_status said) old
    mid new c.tell_unadopted.result (c.adopt_device.ensures.quiet.told t) (reads.seen t)
    (reads.crash t) (reads.time t)
    (memory_line said) memory_held
    (⊎_elim (λ is. inl is) (λ port. inr (inr port)) either) tells

pub returns-clause-changes : goal.returns-clause-changes
returns-clause-changes g c = λ t.
    let loud : is_silent c.in-Err.fault ≡ false =
    sym c.is_silent.ensures ∙ c.if-is_silent.false in
    let tells = c.tell_unadopted.ensures.tells t loud in
    changes_then g.P.Disk _ c.args.port.now c.adopt_device.new.d c.tell_unadopted.new.port
    (changes_touches g.P.Disk _ _ _ (c.adopt_device.ensures.touches t))
    (changes_telling g.P.Disk _ _ c.adopt_device.new.d c.tell_unadopted.new.port
    c.tell_unadopted.ensures.size
    (λ t. tells.seen) (λ t. tells.crash) (λ t. tells.time))

use Rattle.vab_disk.proofs.CallLaws.{changes_touches, changes_then, changes_telling}
use Rattle.std.proofs.Common.{◌≡◌, ◌⊎◌, ◌∙◌, inl, inr, ⊎_elim, ℕ, true, false, Err, Some, sym, ap}
use Rattle.std.proofs.Common.{subst, arith}
use Rattle.vab_disk.specs.Calls.{OnlyReads}
use Rattle.vab_disk.proofs.CallLaws.{reads_none}
use Rattle.vab_make.specs.declared.fault.MakeFault.{MakeFault}
use Rattle.vab_make.specs.Made.{made_device_of}
use Rattle.vab_make.specs.Making.{Gives, LeavesMaking}
use Rattle.vab_cli.specs.declared.status.Status.TheVariants.{Done, Port, NoMemory}
use Rattle.vab_cli.specs.Codes.{make_status}
use Rattle.vab_cli.specs.Telling.{Tells}
use Rattle.vab_cli.specs.Verbs.{make_line, done_making, is_silent}
use Rattle.vab_cli.specs.Runs.{IsFailed}
use Rattle.vab_cli.specs.MadeDisk.{HoldsMade}
use Rattle.vab_cli.proofs.Makings.{not_of_disk, silent_early, memory_of_none, silent_memory}
use Rattle.vab_cli.proofs.Makings.{loud_refusal, silent_line, enough_sectors, status_not_port}
use Rattle.vab_cli.proofs.Makings.{giving_told, giving_untold, refused_told, refused_unheard}
use Rattle.vab_cli.proofs.Makings.{loud_memory, small_made, unmade_yet}
use Rattle.std.proofs.Common.{refl}
use Rattle.vab_cli.proofs.Causing.{made_read, made_unmade, unmade_read, unmade_told}
use Rattle.vab_cli.proofs.making.make_of.Goals as goal

pub tell_made-requires-clause-size : goal.tell_made-requires-clause-size
tell_made-requires-clause-size g c =
    let enough = enough_sectors c.args.set.now c.args.limit c.args.max
    (g.P.Disk.size c.args.port.now)
    c.in-Ok.ensures.exact in
    omega (arith, enough, c.make_device.ensures.touches.quiet.size)

pub returns-in-Ok-clause-made : goal.returns-in-Ok-clause-made
returns-in-Ok-clause-made g c = λ t none.
    let old = c.args.port.now in
    let mid = c.make_device.new.d in
    let new = c.tell_made.new.port in
    let size = g.P.Disk.size old in
    let tells = subst
    (λ (n : ℕ). Tells g.P.Disk (done_making c.args.set.now n) Done mid new c.tell_made.result)
    c.make_device.ensures.touches.quiet.size (c.tell_made.ensures.tells t) in
    let copies = c.in-Ok.ensures.copies t in
    let holds : HoldsMade c.args.max (g.P.Disk.seen old) (g.P.Disk.seen mid) = record {
      text = copies.0;
      copies = copies.1;
      control = c.in-Ok.ensures.control t;
      rest = c.in-Ok.ensures.rest t;
    } in
    giving_told g.P.Disk g.met.P.Disk.only_now size
    (made_device_of c.args.set.now c.args.limit c.args.max size)
    (done_making c.args.set.now size) (HoldsMade c.args.max (g.P.Disk.seen old))
    (LeavesMaking (g.P.Disk.told old) c.args.set.now c.args.limit c.args.max size
    (g.P.Disk.seen old))
    old mid new c.tell_made.result
    (unmade_yet g.P.Disk g.met.P.Disk.only_now size c.args.set.now c.args.limit c.args.max old)
    (c.make_device.ensures.touches.quiet.told t) (c.in-Ok.ensures.made t) holds
    (c.in-Ok.ensures.settled t) (c.make_device.ensures.time t) c.tell_made.ensures.either tells

pub returns-then-is_silent-clause-made : goal.returns-then-is_silent-clause-made
returns-then-is_silent-clause-made g c = λ t none.
    let old = c.args.port.now in
    let new = c.make_device.new.d in
    let size = g.P.Disk.size old in
    let fault = c.in-Err.fault in
    let is : is_silent fault ≡ true = sym c.is_silent.ensures ∙ c.if-is_silent.true in
    let either : IsFailed c.from.result ⊎ (c.from.result ≡ NoMemory) = ⊎_elim
    (λ disk. inl (inl (c.from.ensures ∙ disk)))
    (λ memory. inr (c.from.ensures ∙ ap make_status memory))
    (silent_early fault is) in
    giving_untold g.P.Disk g.met.P.Disk.only_now size
    (made_device_of c.args.set.now c.args.limit c.args.max size)
    (done_making c.args.set.now size) (HoldsMade c.args.max (g.P.Disk.seen old))
    (LeavesMaking (g.P.Disk.told old) c.args.set.now c.args.limit c.args.max size
    (g.P.Disk.seen old))
    old new c.from.result
    (unmade_yet g.P.Disk g.met.P.Disk.only_now size c.args.set.now c.args.limit c.args.max old)
    (c.make_device.ensures.touches.quiet.told t) t
    (λ memory.
    subst (λ (x : g.row.P.Denot). OnlyReads g.P.Disk old x)
    (sym (c.in-Err.ensures.untouched (memory_of_none fault (sym c.from.ensures ∙ memory))))
    (reads_none g.P.Disk old))
    (c.make_device.ensures.time t) either

pub returns-then-is_silent-clause-refused : goal.returns-then-is_silent-clause-refused
returns-then-is_silent-clause-refused g c = λ t fault refused.
    let old = c.args.port.now in
    let new = c.make_device.new.d in
    let size = g.P.Disk.size old in
    let gives : Gives {A = Unit {0}} (Err c.in-Err.fault) (Some fault) =
    subst (λ said. Gives {A = Unit {0}} (Err c.in-Err.fault) said) refused c.in-Err.ensures.exact in
    let is : is_silent c.in-Err.fault ≡ true = sym c.is_silent.ensures ∙ c.if-is_silent.true in
    let memory : c.from.result ≡ NoMemory =
    c.from.ensures ∙ silent_memory c.in-Err.fault fault gives is in
    let no_disk = not_of_disk c.in-Err.fault fault gives in
    let reads = subst (λ (x : g.row.P.Denot). OnlyReads g.P.Disk old x)
    (sym (c.in-Err.ensures.untouched no_disk)) (reads_none g.P.Disk old) in
    refused_unheard g.P.Disk g.met.P.Disk.only_now size (make_line fault) (make_status fault) old
    new
    c.from.result (c.make_device.ensures.touches.quiet.told t) (reads.seen t) (reads.time t)
    (silent_line fault) (λ port. absurd (status_not_port fault port)) (inr (inr memory))

pub returns-clause-refused : goal.returns-clause-refused
returns-clause-refused g c = λ t fault refused.
    let old = c.args.port.now in
    let mid = c.make_device.new.d in
    let new = c.tell_fault.new.port in
    let size = g.P.Disk.size old in
    let gives : Gives {A = Unit {0}} (Err c.in-Err.fault) (Some fault) =
    subst (λ said. Gives {A = Unit {0}} (Err c.in-Err.fault) said) refused c.in-Err.ensures.exact in
    let loud : is_silent c.in-Err.fault ≡ false = sym c.is_silent.ensures ∙ c.if-is_silent.false in
    let same : c.in-Err.fault ≡ fault = loud_refusal c.in-Err.fault fault gives loud in
    let no_disk = not_of_disk c.in-Err.fault fault gives in
    let reads = subst (λ (x : g.row.P.Denot). OnlyReads g.P.Disk old x)
    (sym (c.in-Err.ensures.untouched no_disk)) (reads_none g.P.Disk old) in
    let tells = subst
    (λ (f : MakeFault).
    Tells g.P.Disk (make_line f) (make_status f) mid new c.tell_fault.result)
    same (c.tell_fault.ensures.tells t) in
    let either = subst
    (λ (f : MakeFault). (c.tell_fault.result ≡ make_status f) ⊎ (c.tell_fault.result ≡ Port))
    same c.tell_fault.ensures.either in
    refused_told g.P.Disk g.met.P.Disk.only_now size (make_line fault) (make_status fault) old mid
    new
    c.tell_fault.result (c.make_device.ensures.touches.quiet.told t) (reads.seen t) (reads.crash t)
    (reads.time t) (silent_line fault) (λ port. cc) either tells

pub returns-in-Ok-clause-changes : goal.returns-in-Ok-clause-changes
returns-in-Ok-clause-changes g c = λ t.
    let tells = c.tell_made.ensures.tells t in
    changes_then g.P.Disk _ c.args.port.now c.make_device.new.d c.tell_made.new.port
    (changes_touches g.P.Disk _ _ _ c.make_device.ensures.touches)
    (changes_telling g.P.Disk _ _ c.make_device.new.d c.tell_made.new.port c.tell_made.ensures.size
    (λ t. tells.seen) (λ t. tells.crash) (λ t. tells.time))

pub returns-then-is_silent-clause-changes : goal.returns-then-is_silent-clause-changes
returns-then-is_silent-clause-changes g c = λ t.
    changes_touches g.P.Disk _ _ _ c.make_device.ensures.touches

pub returns-clause-changes : goal.returns-clause-changes
returns-clause-changes g c = λ t.
    let tells = c.tell_fault.ensures.tells t in
    changes_then g.P.Disk _ c.args.port.now c.make_device.new.d c.tell_fault.new.port
    (changes_touches g.P.Disk _ _ _ c.make_device.ensures.touches)
    (changes_telling g.P.Disk _ _ c.make_device.new.d c.tell_fault.new.port
    c.tell_fault.ensures.size
    (λ t. tells.seen) (λ t. tells.crash) (λ t. tells.time))

pub returns-in-Ok-clause-unmade : goal.returns-in-Ok-clause-unmade
returns-in-Ok-clause-unmade g c = λ none. made_unmade c.tell_made.ensures.either none

pub returns-in-Ok-clause-read : goal.returns-in-Ok-clause-read
returns-in-Ok-clause-read g c = λ bad. made_read c.tell_made.ensures.either bad

pub returns-then-is_silent-clause-unmade : goal.returns-then-is_silent-clause-unmade
returns-then-is_silent-clause-unmade g c = λ none.
    unmade_told g.P.Disk c.args.port.now c.args.set.now c.args.limit c.args.max c.in-Err.fault _
    c.from.result c.in-Err.ensures.exact refl (inl c.from.ensures) none

pub returns-then-is_silent-clause-read : goal.returns-then-is_silent-clause-read
returns-then-is_silent-clause-read g c = λ bad.
    unmade_read c.in-Err.fault (inl c.from.ensures) bad

pub returns-clause-unmade : goal.returns-clause-unmade
returns-clause-unmade g c = λ none.
    unmade_told g.P.Disk c.args.port.now c.args.set.now c.args.limit c.args.max c.in-Err.fault _
    c.tell_fault.result c.in-Err.ensures.exact refl c.tell_fault.ensures.either none

pub returns-clause-read : goal.returns-clause-read
returns-clause-read g c = λ bad. unmade_read c.in-Err.fault c.tell_fault.ensures.either bad

pub returns-in-Ok-clause-memory : goal.returns-in-Ok-clause-memory
returns-in-Ok-clause-memory g c = λ memory.
    ⊎_elim (λ done. let both = sym done ∙ memory in cc)
    (λ port. let both = sym port ∙ memory in cc) c.tell_made.ensures.either

pub returns-then-is_silent-clause-memory : goal.returns-then-is_silent-clause-memory
returns-then-is_silent-clause-memory g c = λ memory.
    c.in-Err.ensures.untouched (memory_of_none c.in-Err.fault (sym c.from.ensures ∙ memory))

pub returns-clause-memory : goal.returns-clause-memory
returns-clause-memory g c = λ memory.
    let loud : is_silent c.in-Err.fault ≡ false =
    sym c.is_silent.ensures ∙ c.if-is_silent.false in
    ⊎_elim
    (λ is. absurd (loud_memory c.in-Err.fault loud (sym is ∙ memory)))
    (λ port. let both = sym port ∙ memory in cc) c.tell_fault.ensures.either

pub returns-in-Ok-clause-small : goal.returns-in-Ok-clause-small
returns-in-Ok-clause-small g c = λ none. made_unmade c.tell_made.ensures.either (inl none)

pub returns-then-is_silent-clause-small : goal.returns-then-is_silent-clause-small
returns-then-is_silent-clause-small g c = λ none.
    small_made c.args.set.now c.args.limit c.args.max (g.P.Disk.size c.args.port.now) c.in-Err.fault
    c.in-Err.ensures.exact (sym c.from.ensures ∙ none)

pub returns-clause-small : goal.returns-clause-small
returns-clause-small g c = λ none.
    ⊎_elim
    (λ is.
    small_made c.args.set.now c.args.limit c.args.max (g.P.Disk.size c.args.port.now) c.in-Err.fault
    c.in-Err.ensures.exact (sym is ∙ none))
    (λ port. let both = sym port ∙ none in cc) c.tell_fault.ensures.either

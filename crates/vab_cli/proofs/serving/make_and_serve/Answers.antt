use Rattle.std.proofs.Common.{◌≡◌, ◌≢◌, ◌<◌, ◌⊎◌, ◌∙◌, ⊎_elim, inl, inr, ℕ, List, [], Ok, Err, None}
use Rattle.std.proofs.Common.{Some}
use Rattle.std.proofs.Common.{refl, sym, ap, subst, ◌^◌, rules}
use Rattle.vab_disk.specs.Disk.{Adds}
use Rattle.vab_disk.specs.declared.disk.Disk.{Ghosts}
use Rattle.vab_disk.specs.Calls.{IsAtRest, OnlyReads, Touches, Changes, InSectors}
use Rattle.vab_disk.proofs.CallLaws.{reads_none, changes_touches}
use Rattle.vab_device.specs.Reading.{device, Represents, version_at}
use Rattle.vab_marks.specs.declared.version.MarkVersion.TheVariants.{Two}
use Rattle.vab_device.proofs.ReadingLaws.{device_stands}
use Rattle.vab_recover.specs.Opening.{LeavesSame, IsOfOpening}
use Rattle.vab_make.specs.Touched.{IsOfMaking}
use Rattle.vab_set.specs.declared.set.SetImage.{SetImage}
use Rattle.vab_make.specs.declared.fault.MakeFault.TheVariants as make
use Rattle.vab_make.specs.Made.{refusal_of, made_device_of}
use Rattle.vab_make.specs.Making.{Gives, IsMade, LeavesMaking}
use Rattle.vab_session.specs.Served.{ServesDevice}
use Rattle.vab_cli.specs.declared.status.Status.{Status}
use Rattle.vab_cli.specs.declared.status.Status.TheVariants.{Done, Malformed}
use Rattle.vab_cli.specs.declared.status.Status.TheVariants.{NotADevice, NoMemory}
use Rattle.vab_cli.specs.Codes.{start_status}
use Rattle.vab_cli.specs.Opening.{Opens}
use Rattle.vab_cli.specs.Runs.{IsEarly, RunsSession}
use Rattle.vab_cli.proofs.Makings.{memory_of_none, refused_unheard}
use Rattle.vab_cli.proofs.Running.{contents_of, early_of, is_one, memory_other, not_of_disk_by}
use Rattle.vab_cli.proofs.Running.{untouched_stays}
use Rattle.vab_cli.proofs.Sessions.{fresh_enough, fresh_small, made_early, made_small}
use Rattle.vab_cli.proofs.Sessions.{small_unwritten}
use Rattle.vab_cli.proofs.Writing.{changes_as, writes_opened}
use Rattle.vab_cli.proofs.Sessions.{making_failed, opening_failed, made_runs, opens_sized}
use Rattle.vab_device.specs.declared.device.Device.{Device}
use Rattle.vab_commands.specs.Touched.{IsOfAll, IsOfCommands}
use Rattle.vab_session.specs.Sparing.{SparesSource}
use Rattle.vab_cli.specs.Touched.{IsOfFresh}
use Rattle.vab_cli.proofs.Touching.{served_changes}
use Rattle.vab_cli.proofs.FreshTouching.{made_opened, making_fresh, made_served}
use Rattle.vab_causes.specs.declared.cause.Cause.TheVariants as causes
use Rattle.vab_cli.specs.Causes.{IsUnmade}
use Rattle.vab_cli.proofs.Causing.{make_read, session_broken, session_opened, start_read}
use Rattle.vab_cli.proofs.Causing.{unmade_told}
use Rattle.vab_commands.specs.Copies.{HasBothCopies}
use Rattle.vab_cli.specs.Copies.{IsAnswered}
use Rattle.vab_cli.proofs.CopiesLeft.{ended_answers, making_unended, session_held}
use Rattle.vab_cli.proofs.CopiesLeft.{start_unanswered}
use Rattle.vab_cli.proofs.serving.make_and_serve.Goals as goal

pub returns-in-Err-clause-runs : goal.returns-in-Err-clause-runs
returns-in-Err-clause-runs g c = λ t enough.
    let old = c.args.port.now in
    let size = g.P.Disk.size old in
    let set : c.from_vec-set.result ≡ [] = search rules in
    let gives : Gives {A = Unit {0}} (Err c.in-Err.fault) None =
    subst (λ said. Gives {A = Unit {0}} (Err c.in-Err.fault) said)
    (ap (λ (x : List SetImage). refusal_of x 0 65536 size) set ∙ fresh_enough size enough)
    c.in-Err.ensures.exact in
    let early : IsEarly c.from.result =
    subst IsEarly (sym c.from.ensures) (made_early c.in-Err.fault gives) in
    inr (making_failed g.P.Disk g.met.P.Disk.only_now size c.args.turns [] 0 65536 old
    c.make_device.new.d
    c.from.result early (c.make_device.ensures.touches.quiet.told t)
    (λ memory. inl (untouched_stays g.P.Disk g.met.P.Disk.only_now size old c.make_device.new.d
    (c.in-Err.ensures.untouched
    (memory_of_none c.in-Err.fault (sym c.from.ensures ∙ memory)))))
    (subst
    (λ (x : List SetImage).
    IsAtRest g.P.Disk old
    → Adds g.P.Disk.moment g.P.Disk.outcomes old c.make_device.new.d
    (LeavesMaking (g.P.Disk.told old) x 0 65536 size (g.P.Disk.seen old)))
    set (c.make_device.ensures.time t)))

pub returns-in-Err-clause-small : goal.returns-in-Err-clause-small
returns-in-Err-clause-small g c = λ t small.
    let old = c.args.port.now in
    let new = c.make_device.new.d in
    let size = g.P.Disk.size old in
    let set : c.from_vec-set.result ≡ [] = search rules in
    let gives : Gives {A = Unit {0}} (Err c.in-Err.fault) (Some (make.TooSmall 6152 size)) =
    subst (λ said. Gives {A = Unit {0}} (Err c.in-Err.fault) said)
    (ap (λ (x : List SetImage). refusal_of x 0 65536 size) set ∙ fresh_small size small)
    c.in-Err.ensures.exact in
    let reads = subst (λ (x : g.row.P.Denot). OnlyReads g.P.Disk old x)
    (sym (c.in-Err.ensures.untouched (small_unwritten c.in-Err.fault 6152 size gives)))
    (reads_none g.P.Disk old) in
    refused_unheard g.P.Disk g.met.P.Disk.only_now size [] NotADevice old new c.from.result
    (c.make_device.ensures.touches.quiet.told t) (reads.seen t) (reads.time t) (λ memory. refl)
    (λ port. refl)
    (⊎_elim
    (λ none. inl (c.from.ensures ∙ none, refl))
    (λ memory. inr (inr (c.from.ensures ∙ memory)))
    (made_small c.in-Err.fault 6152 size gives))

pub returns-in-Err-clause-too_small : goal.returns-in-Err-clause-too_small
returns-in-Err-clause-too_small g c = λ small.
    let size = g.P.Disk.size c.args.port.now in
    let set : c.from_vec-set.result ≡ [] = search rules in
    let gives : Gives {A = Unit {0}} (Err c.in-Err.fault) (Some (make.TooSmall 6152 size)) =
    subst (λ said. Gives {A = Unit {0}} (Err c.in-Err.fault) said)
    (ap (λ (x : List SetImage). refusal_of x 0 65536 size) set ∙ fresh_small size small)
    c.in-Err.ensures.exact in
    subst (λ (x : Status). (x ≡ NotADevice) ⊎ (x ≡ NoMemory)) (sym c.from.ensures)
    (made_small c.in-Err.fault 6152 size gives)

-- a device isn't made where there are too few sectors
not_small : {R : Type 0} (size : ℕ) (set : List SetImage)
    → set ≡ []
    → Gives {A = Unit {0}} (Ok tt) (refusal_of set 0 65536 size)
    → size < 6152
    → R
not_small size set is gives small =
    let refused = ap (λ (x : List SetImage). refusal_of x 0 65536 size) is
    ∙ fresh_small size small in
    cc

pub returns-in-Err-start-clause-small : goal.returns-in-Err-start-clause-small
returns-in-Err-start-clause-small g c = λ t small.
    not_small (g.P.Disk.size c.args.port.now) c.from_vec-set.result (search rules)
    c.in-Ok.ensures.exact small

pub returns-in-Err-start-clause-too_small : goal.returns-in-Err-start-clause-too_small
returns-in-Err-start-clause-too_small g c = λ small.
    not_small (g.P.Disk.size c.args.port.now) c.from_vec-set.result (search rules)
    c.in-Ok.ensures.exact small

pub returns-clause-small : goal.returns-clause-small
returns-clause-small g c = λ t small.
    not_small (g.P.Disk.size c.args.port.now) c.from_vec-set.result (search rules)
    c.in-Ok.ensures.exact small

pub returns-clause-too_small : goal.returns-clause-too_small
returns-clause-too_small g c = λ small.
    not_small (g.P.Disk.size c.args.port.now) c.from_vec-set.result (search rules)
    c.in-Ok.ensures.exact small

pub returns-in-Err-start-clause-runs : goal.returns-in-Err-start-clause-runs
returns-in-Err-start-clause-runs g c = λ t enough.
    let old = c.args.port.now in
    let mid = c.make_device.new.d in
    let size = g.P.Disk.size old in
    let sized : g.P.Disk.size mid ≡ size = c.make_device.ensures.touches.quiet.size in
    let set : c.from_vec-set.result ≡ [] = search rules in
    let made : IsMade [] 0 65536 size (g.P.Disk.seen mid) =
    subst (λ (x : List SetImage). IsMade x 0 65536 size (g.P.Disk.seen mid)) set
    (c.in-Ok.ensures.made t) in
    let other : start_status c.in-Err-start.fault ≢ NotADevice = λ is.
    is_one size (made_device_of [] 0 65536 size) (g.P.Disk.seen mid) c.in-Err-start.fault made
    (subst (λ (n : ℕ). device n (g.P.Disk.seen mid) ≡ Err c.in-Err-start.fault) sized
    (c.in-Err-start.ensures.fault t (contents_of c.in-Err-start.fault is))) in
    let early : IsEarly c.from-in-Err-start.result =
    subst IsEarly (sym c.from-in-Err-start.ensures) (early_of c.in-Err-start.fault other) in
    inr (opening_failed g.P.Disk g.met.P.Disk.only_now size c.args.turns [] 0 65536 old mid
    c.start.new.d
    c.from-in-Err-start.result early (c.make_device.ensures.touches.quiet.told t)
    (c.start.ensures.quiet.told t)
    (λ memory.
    (c.in-Err-start.ensures.unwritten
    (not_of_disk_by c.in-Err-start.fault
    (memory_other (sym c.from-in-Err-start.ensures ∙ memory)))).seen t)
    made (c.in-Ok.ensures.settled t)
    (subst
    (λ (x : List SetImage).
    IsAtRest g.P.Disk old
    → Adds g.P.Disk.moment g.P.Disk.outcomes old mid
    (LeavesMaking (g.P.Disk.told old) x 0 65536 size (g.P.Disk.seen old)))
    set (c.make_device.ensures.time t))
    (subst
    (λ (n : ℕ).
    IsAtRest g.P.Disk mid
    → Adds g.P.Disk.moment g.P.Disk.outcomes mid c.start.new.d
    (LeavesSame (g.P.Disk.told mid) n (g.P.Disk.seen mid)))
    sized (c.start.ensures.time t)))

pub returns-clause-runs : goal.returns-clause-runs
returns-clause-runs g c = λ t enough.
    let old = c.args.port.now in
    let mid = c.make_device.new.d in
    let now = c.start.new.d in
    let new = c.serve_with-answer.new.p in
    let size = g.P.Disk.size old in
    let first = made_device_of [] 0 65536 size in
    let sized : g.P.Disk.size mid ≡ size = c.make_device.ensures.touches.quiet.size in
    let sized_now : g.P.Disk.size now ≡ size = c.start.ensures.quiet.size ∙ sized in
    let set : c.from_vec-set.result ≡ [] = search rules in
    let d = c.in-Ok-start.device in
    let made : IsMade [] 0 65536 size (g.P.Disk.seen mid) =
    subst (λ (x : List SetImage). IsMade x 0 65536 size (g.P.Disk.seen mid)) set
    (c.in-Ok.ensures.made t) in
    let opens : Opens g.P.Disk size mid now = opens_sized g.P.Disk (g.P.Disk.size mid) size mid now
    sized
    (record {
      told = c.start.ensures.quiet.told t;
      left = c.start.ensures.quiet.left t;
      heard = c.start.ensures.quiet.heard t;
      device = device_stands d _ _ (c.in-Ok-start.ensures.represents t)
          ∙ sym (c.in-Ok-start.ensures.device t);
      settled = c.in-Ok-start.ensures.settled t;
      time = c.start.ensures.time t;
    }) in
    let represents : Represents d size (g.P.Disk.seen now) =
    subst (λ (n : ℕ). Represents d n (g.P.Disk.seen now)) sized
    (c.in-Ok-start.ensures.represents t) in
    let serves = subst
    (λ (n : ℕ). ServesDevice n g.P.Disk d (2 ^ 44) c.args.turns now new c.serve_with-answer.result)
    sized_now (c.serve_with-answer.ensures.serves t) in
    let runs = made_runs g.P.Disk g.met.P.Disk.only_now size c.args.turns [] 0 65536 d old mid now
    new
    c.serve_with-answer.result
    (c.make_device.ensures.touches.quiet.told t) (c.make_device.ensures.touches.quiet.left t)
    (c.make_device.ensures.touches.quiet.heard t) made (c.in-Ok.ensures.settled t)
    (subst
    (λ (x : List SetImage).
    IsAtRest g.P.Disk old
    → Adds g.P.Disk.moment g.P.Disk.outcomes old mid
    (LeavesMaking (g.P.Disk.told old) x 0 65536 size (g.P.Disk.seen old)))
    set (c.make_device.ensures.time t))
    opens represents serves in
    inl (subst
    (λ (x : Status).
    RunsSession g.P.Disk size
    (LeavesMaking (g.P.Disk.told old) [] 0 65536 size (g.P.Disk.seen old)) c.args.turns first old
    new x)
    (sym c.session_status.ensures) runs)

-- no device is made
unmade : {D : Type 0} (g : Ghosts D) (set : List SetImage) (old mid : D)
    → set ≡ []
    → (W : Device → List ℕ → ℕ → List ℕ → Type 0)
    → Touches g (InSectors (IsOfMaking set 65536)) old mid
    → Changes g (IsOfFresh W (g.size old)) old mid
unmade g set old mid is W makes =
    making_fresh g [] (g.size old) W old mid
    (subst (λ (x : List SetImage). Changes g (InSectors (IsOfMaking x 65536)) old mid) is
    (changes_touches g _ old mid makes))

pub returns-in-Err-clause-changes : goal.returns-in-Err-clause-changes
returns-in-Err-clause-changes g c = λ t.
    let set : c.from_vec-set.result ≡ [] = search rules in
    unmade g.P.Disk c.from_vec-set.result c.args.port.now c.make_device.new.d set IsOfAll
    c.make_device.ensures.touches

pub returns-in-Err-clause-spared : goal.returns-in-Err-clause-spared
returns-in-Err-clause-spared g c = λ t none.
    let set : c.from_vec-set.result ≡ [] = search rules in
    unmade g.P.Disk c.from_vec-set.result c.args.port.now c.make_device.new.d set IsOfCommands
    c.make_device.ensures.touches

-- the device is made, and what is there is opened
module _ {D : Type 0} (g : Ghosts D) (set : List SetImage) (old mid new : D)
    (is : set ≡ [])
    (sized : g.size mid ≡ g.size old)
    (made : IsMade set 0 65536 (g.size old) (g.seen mid))
    (version : version_at (g.seen mid) ≡ Two)
    (makes : Touches g (InSectors (IsOfMaking set 65536)) old mid)
    (opens : Touches g (IsOfOpening (g.size mid) (g.seen mid)) mid new)
    (W : Device → List ℕ → ℕ → List ℕ → Type 0) where
  here : IsMade [] 0 65536 (g.size old) (g.seen mid)
  here = subst (λ (x : List SetImage). IsMade x 0 65536 (g.size old) (g.seen mid)) is made

  making : Changes g (InSectors (IsOfMaking [] 65536)) old mid
  making =
      subst (λ (x : List SetImage). Changes g (InSectors (IsOfMaking x 65536)) old mid) is
      (changes_touches g _ old mid makes)

  opening : Changes g (IsOfOpening (g.size old) (g.seen mid)) mid new
  opening =
      subst (λ (n : ℕ). Changes g (IsOfOpening n (g.seen mid)) mid new) sized
      (changes_touches g _ mid new opens)

  opens_made : Changes g (IsOfFresh W (g.size old)) old new
  opens_made =
      making_fresh g [] (g.size old) W old new
      (made_opened g [] (g.size old) old mid new here version making opening)

  made_all : Changes g (InSectors (IsOfMaking [] 65536)) old new
  made_all = made_opened g [] (g.size old) old mid new here version making opening

  serves_made : (t : g.is_modelled) (d : Device) (last : D)
      → Represents d (g.size old) (g.seen new)
      → Changes g (W d (g.seen new 4)) new last
      → Changes g (IsOfFresh W (g.size old)) old last
  serves_made t d last is serves =
      made_served g [] (g.size old) W old mid last here version making
      (served_changes g (g.size old) W d mid new last t is opening serves)

pub returns-in-Err-start-clause-changes : goal.returns-in-Err-start-clause-changes
returns-in-Err-start-clause-changes g c = λ t.
    opens_made g.P.Disk c.from_vec-set.result c.args.port.now c.make_device.new.d c.start.new.d
    (search rules) c.make_device.ensures.touches.quiet.size (c.in-Ok.ensures.made t)
    (c.in-Ok.ensures.version t) c.make_device.ensures.touches (c.start.ensures.touches t) IsOfAll

pub returns-in-Err-start-clause-spared : goal.returns-in-Err-start-clause-spared
returns-in-Err-start-clause-spared g c = λ t none.
    opens_made g.P.Disk c.from_vec-set.result c.args.port.now c.make_device.new.d c.start.new.d
    (search rules) c.make_device.ensures.touches.quiet.size (c.in-Ok.ensures.made t)
    (c.in-Ok.ensures.version t) c.make_device.ensures.touches (c.start.ensures.touches t)
    IsOfCommands

pub returns-clause-changes : goal.returns-clause-changes
returns-clause-changes g c = λ t.
    let sized : g.P.Disk.size c.make_device.new.d ≡ g.P.Disk.size c.args.port.now =
    c.make_device.ensures.touches.quiet.size in
    let by = c.serve_with-answer.ensures.changes t in
    serves_made g.P.Disk c.from_vec-set.result c.args.port.now c.make_device.new.d c.start.new.d
    (search rules) sized (c.in-Ok.ensures.made t) (c.in-Ok.ensures.version t)
    c.make_device.ensures.touches
    (c.start.ensures.touches t) IsOfAll t c.in-Ok-start.device c.serve_with-answer.new.p
    (subst
    (λ (n : ℕ). Represents c.in-Ok-start.device n (g.P.Disk.seen c.start.new.d)) sized
    (c.in-Ok-start.ensures.represents t))
    by.all

pub returns-clause-spared : goal.returns-clause-spared
returns-clause-spared g c = λ t none.
    let sized : g.P.Disk.size c.make_device.new.d ≡ g.P.Disk.size c.args.port.now =
    c.make_device.ensures.touches.quiet.size in
    let by = c.serve_with-answer.ensures.changes t in
    let left : g.P.Disk.input_left c.start.new.d ≡ g.P.Disk.input_left c.args.port.now =
    c.start.ensures.quiet.left t ∙ c.make_device.ensures.touches.quiet.left t in
    serves_made g.P.Disk c.from_vec-set.result c.args.port.now c.make_device.new.d c.start.new.d
    (search rules) sized (c.in-Ok.ensures.made t) (c.in-Ok.ensures.version t)
    c.make_device.ensures.touches
    (c.start.ensures.touches t) IsOfCommands t c.in-Ok-start.device c.serve_with-answer.new.p
    (subst
    (λ (n : ℕ). Represents c.in-Ok-start.device n (g.P.Disk.seen c.start.new.d)) sized
    (c.in-Ok-start.ensures.represents t))
    (by.plain (subst (SparesSource (2 ^ 44) c.args.turns) (sym left) none))

pub returns-in-Err-clause-unmade : goal.returns-in-Err-clause-unmade
returns-in-Err-clause-unmade g c = λ t none.
    let set : c.from_vec-set.result ≡ [] = search rules in
    subst
    (λ (x : List SetImage).
    IsUnmade g.P.Disk c.args.port.now x 0 65536 (Some (causes.Making c.in-Err.fault)))
    set
    (unmade_told g.P.Disk c.args.port.now c.from_vec-set.result 0 65536 c.in-Err.fault _
    c.from.result c.in-Err.ensures.exact refl (inl c.from.ensures) (inl none))

pub returns-in-Err-clause-broken_off : goal.returns-in-Err-clause-broken_off
returns-in-Err-clause-broken_off g c = λ t bad.
    make_read c.in-Err.fault (sym c.from.ensures ∙ bad)

pub returns-in-Err-start-clause-unmade : goal.returns-in-Err-start-clause-unmade
returns-in-Err-start-clause-unmade g c = λ t none.
    let mid = c.make_device.new.d in
    let size = g.P.Disk.size c.args.port.now in
    let sized : g.P.Disk.size mid ≡ size = c.make_device.ensures.touches.quiet.size in
    is_one size (made_device_of c.from_vec-set.result 0 65536 size) (g.P.Disk.seen mid)
    c.in-Err-start.fault (c.in-Ok.ensures.made t)
    (subst (λ (n : ℕ). device n (g.P.Disk.seen mid) ≡ Err c.in-Err-start.fault) sized
    (c.in-Err-start.ensures.fault t
    (contents_of c.in-Err-start.fault (sym c.from-in-Err-start.ensures ∙ none))))

pub returns-in-Err-start-clause-broken_off : goal.returns-in-Err-start-clause-broken_off
returns-in-Err-start-clause-broken_off g c = λ t bad.
    start_read c.in-Err-start.fault (sym c.from-in-Err-start.ensures ∙ bad)

pub returns-clause-unmade : goal.returns-clause-unmade
returns-clause-unmade g c = λ t none.
    session_opened c.serve_with-answer.result (sym c.session_status.ensures ∙ none)

pub returns-clause-broken_off : goal.returns-clause-broken_off
returns-clause-broken_off g c = λ t bad.
    session_broken c.args.turns g.P.Disk (g.P.Disk.size c.start.new.d) c.in-Ok-start.device
    c.args.port.now
    c.start.new.d c.serve_with-answer.new.p c.serve_with-answer.result c.session_cause.result
    (c.start.ensures.quiet.left t ∙ c.make_device.ensures.touches.quiet.left t)
    (c.serve_with-answer.ensures.serves t) c.session_cause.ensures
    (sym c.session_status.ensures ∙ bad)

pub returns-in-Err-clause-copies : goal.returns-in-Err-clause-copies
returns-in-Err-clause-copies g c = λ t ends.
    absurd
    (making_unended c.in-Err.fault
    (subst (λ (s : Status). (s ≡ Done) ⊎ (s ≡ Malformed)) c.from.ensures ends))

pub returns-in-Err-start-clause-copies : goal.returns-in-Err-start-clause-copies
returns-in-Err-start-clause-copies g c = λ t ends.
    absurd
    (start_unanswered c.in-Err-start.fault
    (subst IsAnswered c.from-in-Err-start.ensures (ended_answers _ ends)))

pub returns-clause-copies : goal.returns-clause-copies
returns-clause-copies g c = λ t ends.
    subst (λ (n : ℕ). HasBothCopies n (g.P.Disk.seen c.serve_with-answer.new.p))
    (c.start.ensures.quiet.size ∙ c.make_device.ensures.touches.quiet.size)
    (c.serve_with-answer.ensures.copies t
    (session_held c.serve_with-answer.result
    (subst IsAnswered c.session_status.ensures (ended_answers _ ends))))

pub returns-in-Err-clause-writes : goal.returns-in-Err-clause-writes
returns-in-Err-clause-writes g c = λ t.
    let set : c.from_vec-set.result ≡ [] = search rules in
    inr (changes_as g.P.Disk _ c.args.port.now c.make_device.new.d t
    (subst
    (λ (x : List SetImage).
    Changes g.P.Disk (InSectors (IsOfMaking x 65536)) c.args.port.now c.make_device.new.d) set
    (changes_touches g.P.Disk _ c.args.port.now c.make_device.new.d
    c.make_device.ensures.touches)))

pub returns-in-Err-start-clause-writes : goal.returns-in-Err-start-clause-writes
returns-in-Err-start-clause-writes g c = λ t.
    inr (changes_as g.P.Disk _ c.args.port.now c.start.new.d t
    (made_all g.P.Disk c.from_vec-set.result c.args.port.now c.make_device.new.d c.start.new.d
    (search rules) c.make_device.ensures.touches.quiet.size (c.in-Ok.ensures.made t)
    (c.in-Ok.ensures.version t) c.make_device.ensures.touches (c.start.ensures.touches t)
    IsOfAll))

pub returns-clause-writes : goal.returns-clause-writes
returns-clause-writes g c = λ t.
    let size = g.P.Disk.size c.args.port.now in
    let mid = c.make_device.new.d in
    let sized : g.P.Disk.size mid ≡ size = c.make_device.ensures.touches.quiet.size in
    writes_opened c.args.turns g.P.Disk (InSectors (IsOfMaking [] 65536)) size c.in-Ok-start.device
    c.args.port.now c.start.new.d c.serve_with-answer.new.p t
    (c.start.ensures.quiet.size ∙ sized)
    (c.start.ensures.quiet.left t ∙ c.make_device.ensures.touches.quiet.left t)
    (subst
    (λ (n : ℕ). Represents c.in-Ok-start.device n (g.P.Disk.seen c.start.new.d)) sized
    (c.in-Ok-start.ensures.represents t))
    (made_all g.P.Disk c.from_vec-set.result c.args.port.now mid c.start.new.d
    (search rules) sized (c.in-Ok.ensures.made t)
    (c.in-Ok.ensures.version t) c.make_device.ensures.touches (c.start.ensures.touches t)
    IsOfAll)
    (λ rest. c.in-Ok-start.ensures.settled t (c.in-Ok.ensures.settled t))
    (c.serve_with-answer.ensures.writes t)

use Rattle.std.proofs.Common.{◌≡◌, inl, inr, true, false, ℕ, zero, suc, ◌<◌, List, ◌++◌, Some, Err}
use Rattle.std.proofs.Common.{take, refl, sym, ◌∙◌, ap, subst, arith}
use Rattle.vab_disk.specs.Disk.{Image, Adds, Nothing}
use Rattle.vab_disk.specs.declared.disk.Disk.{Ghosts}
use Rattle.vab_disk.specs.Port.{LeavesSaying}
use Rattle.vab_disk.proofs.Moments.{adds_still}
use Rattle.vab_disk.proofs.CallLaws.{changes_telling, changes_then}
use Rattle.vab_device.specs.Mounted.{Mounted}
use Rattle.vab_device.specs.Reading.{IsIn}
use Rattle.vab_device.proofs.DoesLaws.{keeps_all}
use Rattle.vab_device.proofs.ReadingLaws.{device_stands}
use Rattle.vab_exchanges.specs.Session.{packet, IsAwaited}
use Rattle.vab_exchanges.specs.Hearing.{HearsWhere, IsHeardFor}
use Rattle.vab_exchanges.specs.Items.{Kept, data_text}
use Rattle.vab_exchanges.specs.Reading.{rest_of, beyond_of, all_of, total_of, count_of, most_of}
use Rattle.vab_exchanges.specs.Reading.{StopsBy, IsBroken, HasData}
use Rattle.vab_exchanges.specs.Runs.{Answers}
use Rattle.vab_exchanges.proofs.Answering.{answers_large, fails_large, answers_refused}
use Rattle.vab_exchanges.proofs.Answering.{fails_refused, fails_data, answers_download, fails_okay}
use Rattle.vab_exchanges.proofs.Listening.{hears_at, hears_same}
use Rattle.vab_exchanges.proofs.Progress.{still_settled}
use Rattle.vab_session.specs.Written.{WritesAs}
use Rattle.vab_session.specs.declared.kept.KeptDevice.{KeptDevice}
use Rattle.vab_session.specs.Responses.{response}
use Rattle.vab_session.specs.Served.{kept_on, Fails, HasCause}
use Rattle.vab_session.specs.declared.fault.SessionFault.{SessionFault}
use Rattle.vab_session.proofs.Data.{data_fails, same_holds, read_cause}
use Rattle.vab_session.proofs.Changing.{changes_listening}
use Rattle.vab_commands.proofs.CopiesLaws.{both_copies, copies_stay}
use Rattle.vab_session.proofs.WrittenLaws.{writes_telling, writes_told}
use Rattle.vab_session.proofs.answer.download.Goals as goal

some_wanted : (n : ℕ) → (n ≡ 0 → false ≡ true) → 0 < n
some_wanted zero none = let is = none refl in cc
some_wanted (suc n) none = omega arith

-- an answer, with what is left and the disk by other names
by_names : {D : Type 0} (size : ℕ) (g : Ghosts D) (k : Kept Mounted) (kept : KeptDevice)
    (command before beyond : List ℕ)
    (rest : List ℕ → List ℕ)
    (left left' : List ℕ)
    (image image' : Image)
    (old new : D)
    → left' ≡ left
    → image' ≡ image
    → Answers response (IsIn size) g k (kept_on kept image) command before (rest left) beyond old
    new
    → Answers response (IsIn size) g k (kept_on kept image') command before (rest left') beyond
    old new
by_names size g k kept command before beyond rest left left' image image' old new same same' a =
    subst
    (λ (l : List ℕ).
    Answers response (IsIn size) g k (kept_on kept image') command before (rest l) beyond old new)
    (sym same)
    (subst
    (λ (x : Image).
    Answers response (IsIn size) g k (kept_on kept x) command before (rest left) beyond old new)
    (sym same') a)

pub returns-in-Ok-clause-does : goal.returns-in-Ok-clause-does
returns-in-Ok-clause-does g c = λ t command is.
    let old = c.args.p.now in
    let new = c.tell_reply.new.p in
    let size = g.P.Disk.size old in
    let kept = c.args.kept in
    let r = c.args.reader.now in
    let left = g.P.Disk.input_left old in
    let image = g.P.Disk.seen old in
    let k = kept_on kept image in
    by_names size g.P.Disk k kept command (rest_of r left) (beyond_of r left) (rest_of r)
    left (g.P.Disk.input_left new) image (g.P.Disk.seen new) old new
    (c.tell_reply.ensures.left t) (c.tell_reply.ensures.seen t)
    (answers_large response (IsIn size) g.P.Disk k command (rest_of r left) (beyond_of r left)
    c.args.size is old new
    (device_stands kept.device size image (c.requires.stands t))
    (c.tell_reply.ensures.seen t) (c.tell_reply.ensures.crash t)
    c.if-size-gt-MAX_DATA.true (c.tell_reply.ensures.heard t) (c.tell_reply.ensures.time t)
    (c.in-Ok.ensures.told t))

pub returns-in-Err-clause-does : goal.returns-in-Err-clause-does
returns-in-Err-clause-does g c = λ t command is.
    let old = c.args.p.now in
    let new = c.tell_reply.new.p in
    let size = g.P.Disk.size old in
    let kept = c.args.kept in
    let r = c.args.reader.now in
    let left = g.P.Disk.input_left old in
    let image = g.P.Disk.seen old in
    inl (fails_large response (IsIn size) g.P.Disk (kept_on kept image) command
    (rest_of r left) (beyond_of r left) c.args.size is old new
    (device_stands kept.device size image (c.requires.stands t))
    (c.tell_reply.ensures.seen t) (c.tell_reply.ensures.crash t)
    c.if-size-gt-MAX_DATA.true (c.tell_reply.ensures.heard t) (c.tell_reply.ensures.time t)
    (c.tell_reply.ensures.front t))

pub returns-in-Ok-tell_reply-clause-does : goal.returns-in-Ok-tell_reply-clause-does
returns-in-Ok-tell_reply-clause-does g c = λ t command is.
    let said = c.tell_reply-in-Err-with_capacity.ensures in
    let old = c.args.p.now in
    let new = c.tell_reply-in-Err-with_capacity.new.p in
    let size = g.P.Disk.size old in
    let kept = c.args.kept in
    let r = c.args.reader.now in
    let left = g.P.Disk.input_left old in
    let image = g.P.Disk.seen old in
    let k = kept_on kept image in
    let some : 0 < c.args.size =
    some_wanted c.args.size c.in-Err-with_capacity.ensures.succeeds in
    by_names size g.P.Disk k kept command (rest_of r left) (beyond_of r left) (rest_of r)
    left (g.P.Disk.input_left new) image (g.P.Disk.seen new) old new (said.left t) (said.seen t)
    (answers_refused response (IsIn size) g.P.Disk k command (rest_of r left) (beyond_of r left)
    c.args.size is old new
    (device_stands kept.device size image (c.requires.stands t))
    (said.seen t) (said.crash t) c.if-size-gt-MAX_DATA.false some (said.heard t) (said.time t)
    (c.in-Ok-tell_reply.ensures.told t))

pub returns-in-Err-tell_reply-clause-does : goal.returns-in-Err-tell_reply-clause-does
returns-in-Err-tell_reply-clause-does g c = λ t command is.
    let said = c.tell_reply-in-Err-with_capacity.ensures in
    let old = c.args.p.now in
    let new = c.tell_reply-in-Err-with_capacity.new.p in
    let size = g.P.Disk.size old in
    let kept = c.args.kept in
    let r = c.args.reader.now in
    let left = g.P.Disk.input_left old in
    let image = g.P.Disk.seen old in
    let some : 0 < c.args.size =
    some_wanted c.args.size c.in-Err-with_capacity.ensures.succeeds in
    inl (fails_refused response (IsIn size) g.P.Disk (kept_on kept image) command
    (rest_of r left) (beyond_of r left) c.args.size is old new
    (device_stands kept.device size image (c.requires.stands t))
    (said.seen t) (said.crash t) c.if-size-gt-MAX_DATA.false some (said.heard t) (said.time t)
    (said.front t))

-- what is told of a download that is accepted
data_time : {D : Type 0} (g : Ghosts D) (old mid : D) (text : List ℕ) (size : ℕ)
    → text ≡ data_text size
    → Adds g.moment g.outcomes old mid
    (LeavesSaying (g.told old) (packet text) (g.may_leave old))
    → Adds g.moment g.outcomes old mid
    (LeavesSaying (g.told old) (packet (data_text size)) (g.may_leave old))
data_time g old mid text size same time =
    subst
    (λ (l : List ℕ).
    Adds g.moment g.outcomes old mid (LeavesSaying (g.told old) (packet l) (g.may_leave old)))
    same time

-- what is heard behind it
data_hears : {D : Type 0} (g : Ghosts D) (old mid new : D) (size : ℕ) (bytes bytes' : List ℕ)
    → g.told mid ≡ g.told old ++ packet (data_text size)
    → g.heard mid ≡ g.heard old
    → bytes' ≡ bytes
    → HearsWhere (IsHeardFor (g.told mid) bytes' (IsAwaited size)) (g.heard mid) (g.heard new)
    → HearsWhere
    (IsHeardFor (g.told old ++ packet (data_text size)) bytes (IsAwaited size))
    (g.heard old)
    (g.heard new)
data_hears g old mid new size bytes bytes' told heard same hears =
    hears_at (g.told old ++ packet (data_text size)) (g.told mid) bytes (IsAwaited size)
    (g.heard old) (g.heard mid) (g.heard new) told heard
    (subst
    (λ (l : List ℕ).
    HearsWhere (IsHeardFor (g.told mid) l (IsAwaited size)) (g.heard mid) (g.heard new))
    same hears)

pub returns-in-Err-tell_reply-2-clause-does : goal.returns-in-Err-tell_reply-2-clause-does
returns-in-Err-tell_reply-2-clause-does g c = λ t command is.
    let said = c.tell_reply-2.ensures in
    let old = c.args.p.now in
    let new = c.tell_reply-2.new.p in
    let size = g.P.Disk.size old in
    let kept = c.args.kept in
    let r = c.args.reader.now in
    let left = g.P.Disk.input_left old in
    let image = g.P.Disk.seen old in
    let text = c.as_slice.ensures.value ∙ c.data_text.ensures.text in
    let front = said.front t in
    let bytes = rest_of r left ++ beyond_of r left in
    inr (fails_data response (IsIn size) g.P.Disk (kept_on kept image) command
    (rest_of r left) (beyond_of r left) c.args.size is old new
    (device_stands kept.device size image (c.requires.stands t))
    (said.seen t) (said.crash t) c.if-size-gt-MAX_DATA.false
    (front.0, front.1 ∙ ap (λ (l : List ℕ). g.P.Disk.told old ++ take front.0 (packet l)) text)
    (hears_same
    (IsHeardFor (g.P.Disk.told old ++ packet (data_text c.args.size)) bytes (IsAwaited c.args.size))
    (g.P.Disk.heard old) (g.P.Disk.heard new) (said.heard t))
    (data_time g.P.Disk old new c.as_slice.result.now c.args.size text (said.time t)))

pub returns-in-Err-data-clause-does : goal.returns-in-Err-data-clause-does
returns-in-Err-data-clause-does g c = λ t command is.
    let said = c.tell_reply-2.ensures in
    let listens = c.data.ensures.listens in
    let old = c.args.p.now in
    let mid = c.tell_reply-2.new.p in
    let new = c.data.new.p in
    let sectors = g.P.Disk.size old in
    let size = c.args.size in
    let kept = c.args.kept in
    let r = c.args.reader.now in
    let left = g.P.Disk.input_left old in
    let image = g.P.Disk.seen old in
    let k = kept_on kept image in
    let text = c.as_slice.ensures.value ∙ c.data_text.ensures.text in
    let told : g.P.Disk.told mid ≡ g.P.Disk.told old ++ packet (data_text size) =
    c.in-Ok-tell_reply-2.ensures.told t ∙ ap (λ (l : List ℕ). g.P.Disk.told old ++ packet l) text in
    let why =
    subst
    (λ (l : List ℕ).
    StopsBy (IsBroken (count_of r l) size (rest_of r l)) (total_of r l) (most_of r)
    c.in-Err-data.fault)
    (said.left t) (c.in-Err-data.ensures.fault t) in
    subst
    (λ (e : SessionFault).
    Fails sectors g.P.Disk k command (rest_of r left) (beyond_of r left)
    (count_of r left) (total_of r left) (most_of r) old new e)
    (sym c.from.ensures)
    (data_fails sectors g.P.Disk k command (rest_of r left) (beyond_of r left) size is
    c.if-size-gt-MAX_DATA.false old mid new
    (device_stands kept.device sectors image (c.requires.stands t))
    (listens.seen t ∙ said.seen t)
    (same_holds _ _ _ (said.crash t) (listens.crash t))
    told (listens.told t)
    (data_hears g.P.Disk old mid new size (all_of r left) (all_of r (g.P.Disk.input_left mid))
    told (said.heard t) (ap (all_of r) (said.left t)) (listens.heard t))
    (data_time g.P.Disk old mid c.as_slice.result.now size text (said.time t)) (listens.time t)
    (count_of r left) (total_of r left) (most_of r) c.in-Err-data.fault why)

pub returns-in-Err-data-clause-cause : goal.returns-in-Err-data-clause-cause
returns-in-Err-data-clause-cause g c =
    subst
    (λ (e : SessionFault).
    HasCause {A = KeptDevice} g.P.Disk c.args.p.now c.data.new.p (Err e))
    (sym c.from.ensures)
    (read_cause g.P.Disk c.args.p.now c.tell_reply-2.new.p c.data.new.p c.in-Err-data.fault
    c.in-Ok-tell_reply-2.ensures.steady
    c.data.ensures.listens.counts
    c.in-Err-data.ensures.steady
    (λ is. c.in-Err-data.ensures.cause (ap Err is)))

-- the data were heard, and nothing was told meanwhile
heard_time : {D : Type 0} (g : Ghosts D) (old mid heard : D) (text : List ℕ)
    → Adds g.moment g.outcomes old mid (LeavesSaying (g.told old) text (g.may_leave old))
    → Adds g.moment g.outcomes mid heard Nothing
    → Adds g.moment g.outcomes old heard (LeavesSaying (g.told old) text (g.may_leave old))
heard_time g old mid heard text time still =
    adds_still g.moment g.outcomes old mid heard
    (LeavesSaying (g.told old) text (g.may_leave old)) time still

pub returns-in-Err-tell_reply-3-clause-does : goal.returns-in-Err-tell_reply-3-clause-does
returns-in-Err-tell_reply-3-clause-does g c = λ t command is.
    let said = c.tell_reply-2.ensures in
    let listens = c.data.ensures.listens in
    let last = c.tell_reply-3.ensures in
    let old = c.args.p.now in
    let mid = c.tell_reply-2.new.p in
    let heard = c.data.new.p in
    let sectors = g.P.Disk.size old in
    let size = c.args.size in
    let kept = c.args.kept in
    let r = c.args.reader.now in
    let left = g.P.Disk.input_left old in
    let image = g.P.Disk.seen old in
    let after = rest_of c.data.new.self (g.P.Disk.input_left heard) in
    let text = c.as_slice.ensures.value ∙ c.data_text.ensures.text in
    let told : g.P.Disk.told mid ≡ g.P.Disk.told old ++ packet (data_text size) =
    c.in-Ok-tell_reply-2.ensures.told t ∙ ap (λ (l : List ℕ). g.P.Disk.told old ++ packet l) text in
    let came =
    subst (λ (l : List ℕ). HasData size (rest_of r l) after c.data.new.staged.items)
    (said.left t) (c.in-Ok-data.ensures.data t) in
    inl (fails_okay response (IsIn sectors) g.P.Disk (kept_on kept image) command
    (rest_of r left) after (beyond_of r left) c.data.new.staged.items size is
    c.if-size-gt-MAX_DATA.false came old heard c.tell_reply-3.new.p
    (device_stands kept.device sectors image (c.requires.stands t))
    (listens.seen t ∙ said.seen t)
    (same_holds _ _ _ (said.crash t) (listens.crash t))
    (last.seen t) (last.crash t) (listens.told t ∙ told)
    (data_hears g.P.Disk old mid heard size (all_of r left) (all_of r (g.P.Disk.input_left mid))
    told (said.heard t) (ap (all_of r) (said.left t)) (listens.heard t))
    (last.heard t)
    (heard_time g.P.Disk old mid heard (packet (data_text size))
    (data_time g.P.Disk old mid c.as_slice.result.now size text (said.time t)) (listens.time t))
    (last.time t) (last.front t))

pub returns-clause-does : goal.returns-clause-does
returns-clause-does g c = λ t command is.
    let said = c.tell_reply-2.ensures in
    let listens = c.data.ensures.listens in
    let last = c.tell_reply-3.ensures in
    let old = c.args.p.now in
    let mid = c.tell_reply-2.new.p in
    let heard = c.data.new.p in
    let new = c.tell_reply-3.new.p in
    let sectors = g.P.Disk.size old in
    let size = c.args.size in
    let kept = c.args.kept in
    let r = c.args.reader.now in
    let left = g.P.Disk.input_left old in
    let image = g.P.Disk.seen old in
    let k = kept_on kept image in
    let kept' : KeptDevice = record { device = kept.device; staged = Some c.data.new.staged } in
    let after = rest_of c.data.new.self (g.P.Disk.input_left heard) in
    let text = c.as_slice.ensures.value ∙ c.data_text.ensures.text in
    let told : g.P.Disk.told mid ≡ g.P.Disk.told old ++ packet (data_text size) =
    c.in-Ok-tell_reply-2.ensures.told t ∙ ap (λ (l : List ℕ). g.P.Disk.told old ++ packet l) text in
    let came =
    subst (λ (l : List ℕ). HasData size (rest_of r l) after c.data.new.staged.items)
    (said.left t) (c.in-Ok-data.ensures.data t) in
    by_names sectors g.P.Disk k kept' command (rest_of r left) (beyond_of r left)
    (rest_of c.data.new.self)
    (g.P.Disk.input_left heard) (g.P.Disk.input_left new) image (g.P.Disk.seen new) old new
    (last.left t) (last.seen t ∙ listens.seen t ∙ said.seen t)
    (answers_download response (IsIn sectors) g.P.Disk k command
    (rest_of r left) after (beyond_of r left) c.data.new.staged.items size is
    c.if-size-gt-MAX_DATA.false came old heard new
    (device_stands kept.device sectors image (c.requires.stands t))
    (listens.seen t ∙ said.seen t)
    (same_holds _ _ _ (said.crash t) (listens.crash t))
    (last.seen t) (last.crash t) (listens.told t ∙ told)
    (data_hears g.P.Disk old mid heard size (all_of r left) (all_of r (g.P.Disk.input_left mid))
    told (said.heard t) (ap (all_of r) (said.left t)) (listens.heard t))
    (last.heard t)
    (heard_time g.P.Disk old mid heard (packet (data_text size))
    (data_time g.P.Disk old mid c.as_slice.result.now size text (said.time t)) (listens.time t))
    (last.time t) (kept_on kept' image) refl (c.in-Ok-tell_reply-3.ensures.told t))

pub returns-in-Ok-clause-changes : goal.returns-in-Ok-clause-changes
returns-in-Ok-clause-changes g c = λ t.
    let said = c.tell_reply.ensures in
    changes_telling g.P.Disk _ _ c.args.p.now c.tell_reply.new.p
    said.size said.seen said.crash said.time

pub returns-in-Err-clause-changes : goal.returns-in-Err-clause-changes
returns-in-Err-clause-changes g c = λ t.
    let said = c.tell_reply.ensures in
    changes_telling g.P.Disk _ _ c.args.p.now c.tell_reply.new.p
    said.size said.seen said.crash said.time

pub returns-in-Ok-tell_reply-clause-changes : goal.returns-in-Ok-tell_reply-clause-changes
returns-in-Ok-tell_reply-clause-changes g c = λ t.
    let said = c.tell_reply-in-Err-with_capacity.ensures in
    changes_telling g.P.Disk _ _ c.args.p.now c.tell_reply-in-Err-with_capacity.new.p
    said.size said.seen said.crash said.time

pub returns-in-Err-tell_reply-clause-changes : goal.returns-in-Err-tell_reply-clause-changes
returns-in-Err-tell_reply-clause-changes g c = λ t.
    let said = c.tell_reply-in-Err-with_capacity.ensures in
    changes_telling g.P.Disk _ _ c.args.p.now c.tell_reply-in-Err-with_capacity.new.p
    said.size said.seen said.crash said.time

pub returns-in-Err-tell_reply-2-clause-changes : goal.returns-in-Err-tell_reply-2-clause-changes
returns-in-Err-tell_reply-2-clause-changes g c = λ t.
    let said = c.tell_reply-2.ensures in
    changes_telling g.P.Disk _ _ c.args.p.now c.tell_reply-2.new.p
    said.size said.seen said.crash said.time

pub returns-in-Err-data-clause-changes : goal.returns-in-Err-data-clause-changes
returns-in-Err-data-clause-changes g c = λ t.
    let said = c.tell_reply-2.ensures in
    changes_then g.P.Disk _ c.args.p.now c.tell_reply-2.new.p c.data.new.p
    (changes_telling g.P.Disk _ _ c.args.p.now c.tell_reply-2.new.p
    said.size said.seen said.crash said.time)
    (changes_listening g.P.Disk _ _ _ c.tell_reply-2.new.p c.data.new.p c.data.ensures.listens)

pub returns-in-Err-tell_reply-3-clause-changes : goal.returns-in-Err-tell_reply-3-clause-changes
returns-in-Err-tell_reply-3-clause-changes g c = λ t.
    let said = c.tell_reply-2.ensures in
    let last = c.tell_reply-3.ensures in
    changes_then g.P.Disk _ c.args.p.now c.data.new.p c.tell_reply-3.new.p
    (changes_then g.P.Disk _ c.args.p.now c.tell_reply-2.new.p c.data.new.p
    (changes_telling g.P.Disk _ _ c.args.p.now c.tell_reply-2.new.p
    said.size said.seen said.crash said.time)
    (changes_listening g.P.Disk _ _ _ c.tell_reply-2.new.p c.data.new.p c.data.ensures.listens))
    (changes_telling g.P.Disk _ _ c.data.new.p c.tell_reply-3.new.p
    last.size last.seen last.crash last.time)

pub returns-clause-changes : goal.returns-clause-changes
returns-clause-changes g c = λ t.
    let said = c.tell_reply-2.ensures in
    let last = c.tell_reply-3.ensures in
    changes_then g.P.Disk _ c.args.p.now c.data.new.p c.tell_reply-3.new.p
    (changes_then g.P.Disk _ c.args.p.now c.tell_reply-2.new.p c.data.new.p
    (changes_telling g.P.Disk _ _ c.args.p.now c.tell_reply-2.new.p
    said.size said.seen said.crash said.time)
    (changes_listening g.P.Disk _ _ _ c.tell_reply-2.new.p c.data.new.p c.data.ensures.listens))
    (changes_telling g.P.Disk _ _ c.data.new.p c.tell_reply-3.new.p
    last.size last.seen last.crash last.time)

pub returns-in-Ok-clause-source : goal.returns-in-Ok-clause-source
returns-in-Ok-clause-source g c = keeps_all c.args.kept.device

pub returns-in-Ok-tell_reply-clause-source : goal.returns-in-Ok-tell_reply-clause-source
returns-in-Ok-tell_reply-clause-source g c = keeps_all c.args.kept.device

pub returns-clause-source : goal.returns-clause-source
returns-clause-source g c = keeps_all c.args.kept.device

pub returns-in-Ok-clause-copies : goal.returns-in-Ok-clause-copies
returns-in-Ok-clause-copies g c = λ t held.
    copies_stay (g.P.Disk.size c.args.p.now) (g.P.Disk.seen c.args.p.now)
    (g.P.Disk.seen c.tell_reply.new.p)
    (c.tell_reply.ensures.seen t)
    (both_copies c.args.kept.device _ _ (c.requires.stands t))

pub returns-in-Err-clause-copies : goal.returns-in-Err-clause-copies
returns-in-Err-clause-copies g c = λ t held.
    absurd held

pub returns-in-Ok-tell_reply-clause-copies : goal.returns-in-Ok-tell_reply-clause-copies
returns-in-Ok-tell_reply-clause-copies g c = λ t held.
    copies_stay (g.P.Disk.size c.args.p.now) (g.P.Disk.seen c.args.p.now)
    (g.P.Disk.seen c.tell_reply-in-Err-with_capacity.new.p)
    (c.tell_reply-in-Err-with_capacity.ensures.seen t)
    (both_copies c.args.kept.device _ _ (c.requires.stands t))

pub returns-in-Err-tell_reply-clause-copies : goal.returns-in-Err-tell_reply-clause-copies
returns-in-Err-tell_reply-clause-copies g c = λ t held.
    absurd held

pub returns-in-Err-tell_reply-2-clause-copies : goal.returns-in-Err-tell_reply-2-clause-copies
returns-in-Err-tell_reply-2-clause-copies g c = λ t held.
    absurd held

pub returns-in-Err-data-clause-copies : goal.returns-in-Err-data-clause-copies
returns-in-Err-data-clause-copies g c = λ t held.
    copies_stay (g.P.Disk.size c.args.p.now) (g.P.Disk.seen c.args.p.now)
    (g.P.Disk.seen c.data.new.p)
    (c.data.ensures.listens.seen t ∙ c.tell_reply-2.ensures.seen t)
    (both_copies c.args.kept.device _ _ (c.requires.stands t))

pub returns-in-Err-tell_reply-3-clause-copies : goal.returns-in-Err-tell_reply-3-clause-copies
returns-in-Err-tell_reply-3-clause-copies g c = λ t held.
    absurd held

pub returns-clause-copies : goal.returns-clause-copies
returns-clause-copies g c = λ t held.
    copies_stay (g.P.Disk.size c.args.p.now) (g.P.Disk.seen c.args.p.now)
    (g.P.Disk.seen c.tell_reply-3.new.p)
    (c.tell_reply-3.ensures.seen t ∙ c.data.ensures.listens.seen t ∙ c.tell_reply-2.ensures.seen t)
    (both_copies c.args.kept.device _ _ (c.requires.stands t))

pub returns-in-Ok-clause-writes : goal.returns-in-Ok-clause-writes
returns-in-Ok-clause-writes g c = λ t.
    writes_telling g.P.Disk (λ s b. ⊥) c.args.p.now c.tell_reply.new.p _
    (c.tell_reply.ensures.seen t)
    (c.tell_reply.ensures.time t)

pub returns-in-Err-clause-writes : goal.returns-in-Err-clause-writes
returns-in-Err-clause-writes g c = λ t.
    writes_telling g.P.Disk (λ s b. ⊥) c.args.p.now c.tell_reply.new.p _
    (c.tell_reply.ensures.seen t)
    (c.tell_reply.ensures.time t)

pub returns-in-Ok-tell_reply-clause-writes : goal.returns-in-Ok-tell_reply-clause-writes
returns-in-Ok-tell_reply-clause-writes g c = λ t.
    writes_telling g.P.Disk (λ s b. ⊥) c.args.p.now c.tell_reply-in-Err-with_capacity.new.p _
    (c.tell_reply-in-Err-with_capacity.ensures.seen t)
    (c.tell_reply-in-Err-with_capacity.ensures.time t)

pub returns-in-Err-tell_reply-clause-writes : goal.returns-in-Err-tell_reply-clause-writes
returns-in-Err-tell_reply-clause-writes g c = λ t.
    writes_telling g.P.Disk (λ s b. ⊥) c.args.p.now c.tell_reply-in-Err-with_capacity.new.p _
    (c.tell_reply-in-Err-with_capacity.ensures.seen t)
    (c.tell_reply-in-Err-with_capacity.ensures.time t)

pub returns-in-Err-tell_reply-2-clause-writes : goal.returns-in-Err-tell_reply-2-clause-writes
returns-in-Err-tell_reply-2-clause-writes g c = λ t.
    writes_telling g.P.Disk (λ s b. ⊥) c.args.p.now c.tell_reply-2.new.p _
    (c.tell_reply-2.ensures.seen t)
    (c.tell_reply-2.ensures.time t)

-- `DATA` was told, and data were heard
data_writes : {D : Type 0} (g : Ghosts D) (old mid heard : D) (text : List ℕ)
    → g.seen mid ≡ g.seen old
    → Adds g.moment g.outcomes old mid (LeavesSaying (g.told old) text (g.may_leave old))
    → g.seen heard ≡ g.seen mid
    → Adds g.moment g.outcomes mid heard Nothing
    → WritesAs g (λ s b. ⊥) old heard
data_writes g old mid heard text same time seen still =
    writes_telling g (λ s b. ⊥) old heard text (seen ∙ same)
    (heard_time g old mid heard text time still)

pub returns-in-Err-data-clause-writes : goal.returns-in-Err-data-clause-writes
returns-in-Err-data-clause-writes g c = λ t.
    data_writes g.P.Disk c.args.p.now c.tell_reply-2.new.p c.data.new.p _
    (c.tell_reply-2.ensures.seen t) (c.tell_reply-2.ensures.time t)
    (c.data.ensures.listens.seen t) (c.data.ensures.listens.time t)

pub returns-in-Err-tell_reply-3-clause-writes : goal.returns-in-Err-tell_reply-3-clause-writes
returns-in-Err-tell_reply-3-clause-writes g c = λ t.
    let said = c.tell_reply-2.ensures in
    let listens = c.data.ensures.listens in
    let last = c.tell_reply-3.ensures in
    writes_told g.P.Disk (λ s b. ⊥) c.args.p.now c.data.new.p c.tell_reply-3.new.p _
    (data_writes g.P.Disk c.args.p.now c.tell_reply-2.new.p c.data.new.p _
    (said.seen t) (said.time t) (listens.seen t) (listens.time t))
    (λ rest.
    still_settled response (IsIn (g.P.Disk.size c.args.p.now)) g.P.Disk c.tell_reply-2.new.p
    c.data.new.p (listens.seen t) (listens.crash t)
    (still_settled response (IsIn (g.P.Disk.size c.args.p.now)) g.P.Disk c.args.p.now
    c.tell_reply-2.new.p (said.seen t) (said.crash t) rest))
    (last.seen t) (last.time t)

pub returns-clause-writes : goal.returns-clause-writes
returns-clause-writes g c = λ t.
    let said = c.tell_reply-2.ensures in
    let listens = c.data.ensures.listens in
    let last = c.tell_reply-3.ensures in
    writes_told g.P.Disk (λ s b. ⊥) c.args.p.now c.data.new.p c.tell_reply-3.new.p _
    (data_writes g.P.Disk c.args.p.now c.tell_reply-2.new.p c.data.new.p _
    (said.seen t) (said.time t) (listens.seen t) (listens.time t))
    (λ rest.
    still_settled response (IsIn (g.P.Disk.size c.args.p.now)) g.P.Disk c.tell_reply-2.new.p
    c.data.new.p (listens.seen t) (listens.crash t)
    (still_settled response (IsIn (g.P.Disk.size c.args.p.now)) g.P.Disk c.args.p.now
    c.tell_reply-2.new.p (said.seen t) (said.crash t) rest))
    (last.seen t) (last.time t)

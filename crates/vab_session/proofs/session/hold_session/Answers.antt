use Rattle.std.proofs.Common.{◌≡◌, ℕ, ◌+◌, ◌++◌, ◌∙◌, min, true, List, None, Err, length, take}
use Rattle.std.proofs.Common.{drop, codes, sym, ap, subst, arith, length-take, get_or}
use Rattle.std.proofs.Common.{get_or-drop, take-append-drop, Result, Ok, false}
use Rattle.std.specs.Prelude.{is_err, OnOk}
use Rattle.vab_disk.specs.Disk.{Image, Outcome, Leaves, Adds, Nothing}
use Rattle.vab_disk.proofs.Moments.{adds_still}
use Rattle.vab_disk.specs.declared.disk.Disk.{Ghosts}
use Rattle.vab_disk.proofs.CallLaws.{changes_telling, changes_then}
use Rattle.vab_fbtcp.specs.Hello.{is_hello}
use Rattle.vab_device.specs.declared.device.Device.{Device}
use Rattle.vab_device.specs.Mounted.{Mounted, mounted_on}
use Rattle.vab_device.specs.Reading.{IsIn}
use Rattle.vab_device.proofs.ReadingLaws.{device_stands}
use Rattle.vab_exchanges.specs.Session.{HasNoHello}
use Rattle.vab_exchanges.specs.Hearing.{HearsWhere, IsHeardFor}
use Rattle.vab_exchanges.specs.Reading.{rest_of, beyond_of, all_of, total_of, count_of, most_of}
use Rattle.vab_exchanges.specs.Reading.{StopsBy, IsFewerThan}
use Rattle.vab_exchanges.specs.Items.{Kept}
use Rattle.vab_exchanges.specs.Runs.{CrashesWithin, Ran, Serves}
use Rattle.vab_exchanges.proofs.Progress.{still_settled}
use Rattle.vab_exchanges.proofs.Packets.{AreBytes, taken_byte}
use Rattle.vab_exchanges.proofs.Listening.{hears_at, hears_same}
use Rattle.vab_exchanges.proofs.Serving.{Begins, served, failed_early, greeting}
use Rattle.vab_session.specs.declared.fault.Ended.{Ended}
use Rattle.vab_session.specs.declared.fault.SessionFault.{SessionFault}
use Rattle.vab_session.specs.Sparing.{AsksNoSource, SparesSource}
use Rattle.vab_session.specs.Responses.{response, machine}
use Rattle.vab_session.specs.Served.{nothing_staged, Held, HeldBy, Says, HasCause, reached}
use Rattle.vab_session.proofs.Data.{read_cause}
use Rattle.vab_session.proofs.Endings.{moved, hello_fails}
use Rattle.vab_session.proofs.Changing.{changes_listening, changes_still, changes_behind}
use Rattle.vab_commands.proofs.CopiesLaws.{both_copies, copies_stay}
use Rattle.vab_commands.specs.Copies.{HasBothCopies}
use Rattle.vab_session.proofs.WrittenLaws.{saying_same, written_before, written_nothing}
use Rattle.vab_session.proofs.session.hold_session.Goals as goal

-- what is promised of an Ok
where_ok : {A E : Type 0} (r : Result A E) (P : Type 0) → is_err r ≡ false → OnOk r P → P
where_ok (Ok x) P okay is = is
where_ok (Err e) P okay is = absurd (let bad : true ≡ false = okay in cc)

pub returns-then-is_err-clause-serves : goal.returns-then-is_err-clause-serves
returns-then-is_err-clause-serves g c = λ t.
    let old = c.args.p.now in
    let new = c.say_all.new.p in
    let N = g.P.Disk.size old in
    let m = mounted_on c.args.device (g.P.Disk.seen old) in
    let there = device_stands c.args.device N (g.P.Disk.seen old) (c.requires.stands t) in
    failed_early (machine c.args.turns) (IsIn N) g.P.Disk g.met.P.Disk.only_now c.args.most
    (nothing_staged m)
    old new (g.met.P.Disk.bytes old) (c.say_all.ensures.front t) there
    (hears_same
    (IsHeardFor (g.P.Disk.told old ++ codes "FB01") (g.P.Disk.input_left old) (IsFewerThan 4))
    (g.P.Disk.heard old) (g.P.Disk.heard new) (c.say_all.ensures.heard t))
    (greeting (machine c.args.turns) (IsIn N) g.P.Disk g.met.P.Disk.only_now old new
    (nothing_staged m) there
    (c.say_all.ensures.time t))

-- the greeting was told, and then nothing
still_greeting : {D : Type 0} (turns size : ℕ) (g : Ghosts D)
    (only_now : (d : D) (o : Outcome)
    → g.outcomes d (g.moment d) o
    → Leaves (g.told d) (g.may_leave d) o)
    (old mid new : D) (first : Kept Mounted)
    → Begins (machine turns) (IsIn size) g only_now first old mid
    → Adds g.moment g.outcomes mid new Nothing
    → Begins (machine turns) (IsIn size) g only_now first old new
still_greeting turns size g only_now old mid new first time still rest closing later chain =
    adds_still g.moment g.outcomes old mid new
    (CrashesWithin (IsIn size) (codes "FB01") first.now later closing (g.told old))
    (time rest closing later chain) still

-- what was heard for the hello, said from before the greeting
hello_hears : {D : Type 0} (g : Ghosts D) (old mid new : D) (bytes input : List ℕ)
    → g.told mid ≡ g.told old ++ codes "FB01"
    → g.heard mid ≡ g.heard old
    → bytes ≡ input
    → HearsWhere (IsHeardFor (g.told mid) bytes (IsFewerThan 4)) (g.heard mid) (g.heard new)
    → HearsWhere
    (IsHeardFor (g.told old ++ codes "FB01") input (IsFewerThan 4))
    (g.heard old)
    (g.heard new)
hello_hears g old mid new bytes input told heard same hears =
    hears_at (g.told old ++ codes "FB01") (g.told mid) input (IsFewerThan 4)
    (g.heard old) (g.heard mid) (g.heard new) told heard
    (subst
    (λ (l : List ℕ).
    HearsWhere (IsHeardFor (g.told mid) l (IsFewerThan 4)) (g.heard mid) (g.heard new))
    same hears)

all_input : (most : ℕ) (rest beyond input : List ℕ)
    → rest ≡ take most input
    → beyond ≡ drop most input
    → rest ++ beyond ≡ input
all_input most rest beyond input is is' = (λ i. is i ++ is' i) ∙ take-append-drop most input

pub returns-in-Err-clause-serves : goal.returns-in-Err-clause-serves
returns-in-Err-clause-serves g c = λ t.
    let old = c.args.p.now in
    let mid = c.say_all.new.p in
    let new = c.hello.new.p in
    let N = g.P.Disk.size old in
    let image = g.P.Disk.seen old in
    let m = mounted_on c.args.device image in
    let input = g.P.Disk.input_left old in
    let most = c.args.most in
    let r = c.new-reader.result in
    let lp = g.P.Disk.input_left mid in
    let fault = c.in-Err.fault in
    let listens = c.hello.ensures.listens in
    let left = c.say_all.ensures.left t in
    let there = device_stands c.args.device N image (c.requires.stands t) in
    let said : g.P.Disk.told mid ≡ g.P.Disk.told old ++ codes "FB01" =
    where_ok c.say_all.result (g.P.Disk.told mid ≡ g.P.Disk.told old ++ codes "FB01")
    (sym c.is_err.ensures.value ∙ c.if-is_err.false) (c.say_all.ensures.told t) in
    let rest : rest_of r lp ≡ take most input =
    c.new-reader.ensures.rest lp ∙ ap (take most) left in
    let beyond : beyond_of r lp ≡ drop most input =
    c.new-reader.ensures.beyond lp ∙ ap (drop most) left in
    let total : total_of r lp ≡ length input =
    omega (arith, c.new-reader.ensures.taken, ap length left) in
    let count : min most (length input) ≡ length (take most input) =
    omega (arith, length-take most input) in
    let why =
    subst (λ (n : ℕ). StopsBy (HasNoHello n (take most input)) (length input) most fault) count
    (subst
    (λ (l : List ℕ). StopsBy (HasNoHello (min most (length input)) l) (length input) most fault)
    rest
    (moved (λ m n. StopsBy (HasNoHello (min m n) (rest_of r lp)) n m fault)
    most (most_of r) (length input) (total_of r lp) c.new-reader.ensures.most total
    (c.in-Err.ensures.fault t))) in
    subst
    (λ (e : SessionFault).
    Serves (machine c.args.turns) (IsIn N) g.P.Disk (HeldBy e) (Says (Err e)) None most
    (nothing_staged m) old
    new)
    (sym c.from.ensures)
    (hello_fails c.args.turns N g.P.Disk g.met.P.Disk.only_now most (nothing_staged m) old new
    (g.met.P.Disk.bytes old) (listens.told t ∙ said) there
    (subst (λ (x : Image). IsIn N m x) (sym (listens.seen t ∙ c.say_all.ensures.seen t)) there)
    (hello_hears g.P.Disk old mid new (all_of r lp) input said (c.say_all.ensures.heard t)
    (all_input most (rest_of r lp) (beyond_of r lp) input rest beyond) (listens.heard t))
    (λ rest.
    still_settled response (IsIn N) g.P.Disk mid new (listens.seen t) (listens.crash t)
    (still_settled response (IsIn N) g.P.Disk old mid
    (c.say_all.ensures.seen t) (c.say_all.ensures.crash t) rest))
    (still_greeting c.args.turns N g.P.Disk g.met.P.Disk.only_now old mid new (nothing_staged m)
    (greeting (machine c.args.turns) (IsIn N) g.P.Disk g.met.P.Disk.only_now old mid
    (nothing_staged m) there
    (c.say_all.ensures.time t))
    (listens.time t))
    fault why)

pub returns-in-Err-clause-cause : goal.returns-in-Err-clause-cause
returns-in-Err-clause-cause g c =
    let steady : g.P.Disk.faults c.say_all.new.p ≡ g.P.Disk.faults c.args.p.now =
    where_ok c.say_all.result (g.P.Disk.faults c.say_all.new.p ≡ g.P.Disk.faults c.args.p.now)
    (sym c.is_err.ensures.value ∙ c.if-is_err.false) c.say_all.ensures.steady in
    subst
    (λ (e : SessionFault).
    HasCause {A = Ended × Device} g.P.Disk c.args.p.now c.hello.new.p (Err e))
    (sym c.from.ensures)
    (read_cause g.P.Disk c.args.p.now c.say_all.new.p c.hello.new.p c.in-Err.fault
    steady
    c.hello.ensures.listens.counts
    c.in-Err.ensures.steady
    (λ is. c.in-Err.ensures.cause (ap Err is)))

-- what is left behind the hello is bytes
dropped_byte : (l : List ℕ) (n : ℕ) → AreBytes l → AreBytes (drop n l)
dropped_byte l n are k =
    let at : get_or (drop n l) k 0 ≡ get_or l (n + k) 0 = get_or-drop n l k 0 in
    omega (arith, are (n + k), at)

pub returns-clause-serves : goal.returns-clause-serves
returns-clause-serves g c = λ t.
    let old = c.args.p.now in
    let said_to = c.say_all.new.p in
    let mid = c.hello.new.p in
    let new = c.answer_all.new.p in
    let N = g.P.Disk.size old in
    let image = g.P.Disk.seen old in
    let device = c.args.device in
    let m = mounted_on device image in
    let input = g.P.Disk.input_left old in
    let most = c.args.most in
    let ok = c.in-Ok.ensures in
    let listens = c.hello.ensures.listens in
    let r0 = c.new-reader.result in
    let r = c.hello.new.self in
    let l0 = g.P.Disk.input_left said_to in
    let lp = g.P.Disk.input_left mid in
    let left = c.say_all.ensures.left t in
    let there = device_stands device N image (c.requires.stands t) in
    let said : g.P.Disk.told said_to ≡ g.P.Disk.told old ++ codes "FB01" =
    where_ok c.say_all.result (g.P.Disk.told said_to ≡ g.P.Disk.told old ++ codes "FB01")
    (sym c.is_err.ensures.value ∙ c.if-is_err.false) (c.say_all.ensures.told t) in
    let rest0 : rest_of r0 l0 ≡ take most input =
    c.new-reader.ensures.rest l0 ∙ ap (take most) left in
    let beyond0 : beyond_of r0 l0 ≡ drop most input =
    c.new-reader.ensures.beyond l0 ∙ ap (drop most) left in
    let rest : rest_of r lp ≡ drop 4 (take most input) =
    ok.rest t ∙ ap (λ (l : List ℕ). drop 4 l) rest0 in
    let beyond : beyond_of r lp ≡ drop most input = ok.beyond t ∙ beyond0 in
    let total : total_of r lp ≡ length input =
    omega (arith, ok.count t, c.new-reader.ensures.taken, ap length left) in
    let room : most_of r ≡ most = c.hello.ensures.most ∙ c.new-reader.ensures.most in
    let count : count_of r lp ≡ min most (length input) = λ i. min (room i) (total i) in
    let tested = ok.hello t in
    let hello : is_hello (take 4 (take most input)) ≡ true =
    subst (λ (l : List ℕ). is_hello (take 4 l) ≡ true) rest0 tested.1 in
    let are : AreBytes (rest_of r lp) =
    subst AreBytes (sym rest)
    (dropped_byte (take most input) 4 (λ k. taken_byte input most k (g.met.P.Disk.bytes old))) in
    let ran = c.answer_all.ensures.ran t are (g.P.Disk.told old) (listens.told t ∙ said) in
    let sizes : g.P.Disk.size mid ≡ N = listens.size ∙ c.say_all.ensures.size in
    let seen : g.P.Disk.seen mid ≡ image = listens.seen t ∙ c.say_all.ensures.seen t in
    let result = c.answer_all.result in
    served (machine c.args.turns) (IsIn N) g.P.Disk g.met.P.Disk.only_now
    (Held result) (Says result) (reached result (g.P.Disk.seen new))
    (count_of r lp) (total_of r lp) most (rest_of r lp) (beyond_of r lp) (nothing_staged m)
    old mid new there hello count total rest beyond
    (hello_hears g.P.Disk old said_to mid (all_of r0 l0) input said (c.say_all.ensures.heard t)
    (all_input most (rest_of r0 l0) (beyond_of r0 l0) input rest0 beyond0) (listens.heard t))
    (still_greeting c.args.turns N g.P.Disk g.met.P.Disk.only_now old said_to mid (nothing_staged m)
    (greeting (machine c.args.turns) (IsIn N) g.P.Disk g.met.P.Disk.only_now old said_to
    (nothing_staged m) there
    (c.say_all.ensures.time t))
    (listens.time t))
    (λ rest.
    still_settled response (IsIn N) g.P.Disk said_to mid (listens.seen t) (listens.crash t)
    (still_settled response (IsIn N) g.P.Disk old said_to
    (c.say_all.ensures.seen t) (c.say_all.ensures.crash t) rest))
    (subst
    (λ (q : ℕ × ℕ × Image).
    Ran (machine c.args.turns) (IsIn q.0) g.P.Disk
    (Held result) (Says result) (reached result (g.P.Disk.seen new))
    (count_of r lp) (total_of r lp) q.1 (rest_of r lp) (beyond_of r lp)
    (nothing_staged (mounted_on device q.2)) (g.P.Disk.told old) mid new)
    (λ i. (sizes i, room i, seen i))
    ran)

pub returns-then-is_err-clause-changes : goal.returns-then-is_err-clause-changes
returns-then-is_err-clause-changes g c = λ t.
    let said = c.say_all.ensures in
    changes_still g.P.Disk c.args.device _ c.args.p.now c.say_all.new.p
    (λ W.
    changes_telling g.P.Disk W _ c.args.p.now c.say_all.new.p
    said.size said.seen said.crash said.time)

pub returns-in-Err-clause-changes : goal.returns-in-Err-clause-changes
returns-in-Err-clause-changes g c = λ t.
    let said = c.say_all.ensures in
    changes_still g.P.Disk c.args.device _ c.args.p.now c.hello.new.p
    (λ W.
    changes_then g.P.Disk W c.args.p.now c.say_all.new.p c.hello.new.p
    (changes_telling g.P.Disk W _ c.args.p.now c.say_all.new.p
    said.size said.seen said.crash said.time)
    (changes_listening g.P.Disk W _ _ c.say_all.new.p c.hello.new.p c.hello.ensures.listens))

pub returns-clause-changes : goal.returns-clause-changes
returns-clause-changes g c = λ t.
    let said = c.say_all.ensures in
    let listens = c.hello.ensures.listens in
    let ok = c.in-Ok.ensures in
    let d = c.args.device in
    let old = c.args.p.now in
    let said_to = c.say_all.new.p in
    let mid = c.hello.new.p in
    let new = c.answer_all.new.p in
    let most = c.args.most in
    let input = g.P.Disk.input_left old in
    let seen : g.P.Disk.seen mid ≡ g.P.Disk.seen old = listens.seen t ∙ said.seen t in
    let told : g.P.Disk.told said_to ≡ g.P.Disk.told old ++ codes "FB01" =
    where_ok c.say_all.result (g.P.Disk.told said_to ≡ g.P.Disk.told old ++ codes "FB01")
    (sym c.is_err.ensures.value ∙ c.if-is_err.false) (said.told t) in
    let rest : rest_of c.hello.new.self (g.P.Disk.input_left mid) ≡ drop 4 (take most input) =
    ok.rest t
    ∙ ap (λ (l : List ℕ). drop 4 l)
    (c.new-reader.ensures.rest (g.P.Disk.input_left said_to) ∙ ap (take most) (said.left t)) in
    changes_behind g.P.Disk d _ (SparesSource most c.args.turns input) old mid new seen
    (λ W.
    changes_then g.P.Disk W old said_to mid
    (changes_telling g.P.Disk W _ old said_to said.size said.seen said.crash said.time)
    (changes_listening g.P.Disk W _ _ said_to mid listens))
    (λ none.
    ((g.P.Disk.told old, listens.told t ∙ told), subst AsksNoSource (sym rest) none.0, none.1))
    (c.answer_all.ensures.changes t)

pub returns-then-is_err-clause-copies : goal.returns-then-is_err-clause-copies
returns-then-is_err-clause-copies g c = λ t held.
    absurd held

pub returns-in-Err-clause-copies : goal.returns-in-Err-clause-copies
returns-in-Err-clause-copies g c = λ t held.
    copies_stay (g.P.Disk.size c.args.p.now) (g.P.Disk.seen c.args.p.now)
    (g.P.Disk.seen c.hello.new.p)
    (c.hello.ensures.listens.seen t ∙ c.say_all.ensures.seen t)
    (both_copies c.args.device _ _ (c.requires.stands t))

pub returns-clause-copies : goal.returns-clause-copies
returns-clause-copies g c = λ t held.
    subst (λ (n : ℕ). HasBothCopies n (g.P.Disk.seen c.answer_all.new.p))
    (c.hello.ensures.listens.size ∙ c.say_all.ensures.size)
    (c.answer_all.ensures.copies t held)

pub returns-then-is_err-clause-writes : goal.returns-then-is_err-clause-writes
returns-then-is_err-clause-writes g c = λ t.
    written_nothing g.P.Disk c.args.turns (g.P.Disk.size c.args.p.now) c.args.device _ _
    c.args.p.now
    c.say_all.new.p (c.say_all.ensures.seen t)
    (saying_same g.P.Disk c.args.p.now c.say_all.new.p _ (c.say_all.ensures.time t))

pub returns-in-Err-clause-writes : goal.returns-in-Err-clause-writes
returns-in-Err-clause-writes g c = λ t.
    written_nothing g.P.Disk c.args.turns (g.P.Disk.size c.args.p.now) c.args.device _ _
    c.args.p.now
    c.hello.new.p (c.hello.ensures.listens.seen t ∙ c.say_all.ensures.seen t)
    (λ rest.
    adds_still g.P.Disk.moment g.P.Disk.outcomes c.args.p.now c.say_all.new.p c.hello.new.p _
    (saying_same g.P.Disk c.args.p.now c.say_all.new.p _ (c.say_all.ensures.time t) rest)
    (c.hello.ensures.listens.time t))

pub returns-clause-writes : goal.returns-clause-writes
returns-clause-writes g c = λ t.
    let said = c.say_all.ensures in
    let listens = c.hello.ensures.listens in
    let ok = c.in-Ok.ensures in
    let d = c.args.device in
    let old = c.args.p.now in
    let said_to = c.say_all.new.p in
    let mid = c.hello.new.p in
    let new = c.answer_all.new.p in
    let most = c.args.most in
    let input = g.P.Disk.input_left old in
    let N = g.P.Disk.size old in
    let told : g.P.Disk.told said_to ≡ g.P.Disk.told old ++ codes "FB01" =
    where_ok c.say_all.result (g.P.Disk.told said_to ≡ g.P.Disk.told old ++ codes "FB01")
    (sym c.is_err.ensures.value ∙ c.if-is_err.false) (said.told t) in
    let rest : rest_of c.hello.new.self (g.P.Disk.input_left mid) ≡ drop 4 (take most input) =
    ok.rest t
    ∙ ap (λ (l : List ℕ). drop 4 l)
    (c.new-reader.ensures.rest (g.P.Disk.input_left said_to) ∙ ap (take most) (said.left t)) in
    written_before g.P.Disk c.args.turns N (g.P.Disk.size mid) d (drop 4 (take most input))
    (rest_of c.hello.new.self (g.P.Disk.input_left mid)) old mid new
    (listens.size ∙ said.size) rest (listens.seen t ∙ said.seen t)
    (λ rests.
    still_settled response (IsIn N) g.P.Disk said_to mid (listens.seen t) (listens.crash t)
    (still_settled response (IsIn N) g.P.Disk old said_to (said.seen t) (said.crash t) rests))
    (λ rests.
    adds_still g.P.Disk.moment g.P.Disk.outcomes old said_to mid _
    (saying_same g.P.Disk old said_to _ (said.time t) rests) (listens.time t))
    (c.answer_all.ensures.writes t (g.P.Disk.told old) (listens.told t ∙ told))

-- What answering a packet leaves of a device.
use Rattle.std.proofs.Common.{◌≡◌, ℕ, ◌≤◌, true, false, List, [], ◌++◌, Ok, length}
use Rattle.std.proofs.Common.{length-append, take, sym, ◌∙◌, ap, subst, refl, arith}
use Rattle.std.proofs.lemmas.List.{append-nil, take_at}
use Rattle.vab_disk.specs.Disk.{Outcome, SameHoldings, Adds, Nothing}
use Rattle.vab_disk.specs.Disk.{Faults, NoFewer, SourceFailed}
use Rattle.std.proofs.Common.{Err}
use Rattle.vab_exchanges.specs.Reading.{IfNotSource}
use Rattle.vab_disk.specs.Calls.{IsAtRest}
use Rattle.vab_disk.specs.Port.{LeavesSaying}
use Rattle.vab_disk.specs.declared.disk.Disk.{Ghosts}
use Rattle.vab_disk.proofs.Moments.{adds_still, adds_wider}
use Rattle.vab_model.specs.Commands.{Command}
use Rattle.vab_model.specs.declared.command.Refusal.TheVariants.{NoMemory}
use Rattle.vab_model.specs.Effects.{Effect, refuses, steps_of, after_of}
use Rattle.vab_model.specs.Effects.{unless_refused as unless}
use Rattle.vab_device.specs.Mounted.{Mounted}
use Rattle.vab_device.specs.Does.{LeavesStep}
use Rattle.vab_device.specs.Updates.{effect_on}
use Rattle.vab_device.specs.Reading.{IsIn}
use Rattle.vab_fbproto.specs.Requests.{Asked, Do, Download, request_of}
use Rattle.vab_fbproto.specs.Texts.{reply_text, refusal_text}
use Rattle.vab_fbproto.specs.declared.request.BadCommand.{BadCommand}
use Rattle.std.specs.Prelude.{Bool, ◌&&◌, if◌then◌else◌, Result}
use Rattle.vab_exchanges.specs.Session.{packet, most_data, End, IsAwaited}
use Rattle.vab_exchanges.specs.Session as session
use Rattle.vab_exchanges.specs.Hearing.{HearsWhere, IsHeardFor}
use Rattle.vab_exchanges.specs.Reading.{EndsAs, IsBroken, StopsBy}
use Rattle.vab_exchanges.specs.Items.{Response, AsksNoData, Kept, Item, item_by, data_text}
use Rattle.vab_exchanges.specs.Items.{no_memory, unless_refused, staged_after}
use Rattle.vab_exchanges.specs.Runs.{LeavesItem, Answers, FailsWhole, FailsOpen, BreaksOff}
use Rattle.vab_exchanges.specs.declared.fault.ReadFault.{ReadFault}
use Rattle.vab_exchanges.specs.declared.fault.ReadFault.TheVariants as reads
use Rattle.vab_exchanges.proofs.Answering.{fails_before, answers_done, fails_done, answers_plain}
use Rattle.vab_exchanges.proofs.Answering.{fails_plain, fails_data, breaks_off}
use Rattle.vab_exchanges.proofs.RunLaws.{packet_some}
use Rattle.vab_session.specs.Fault.{fault_of_read}
use Rattle.vab_session.specs.Responses.{response, still, by_effect, takes_staged}
use Rattle.vab_session.specs.Served.{Fails, HasCause}

take_whole : (l : List ℕ) → take (length l) l ≡ l
take_whole l = ap (take (length l)) (sym (append-nil l)) ∙ take_at l [] (length l) refl

pub same_holds : (old mid new : ℕ → List ℕ → Type 0)
    → SameHoldings old mid
    → SameHoldings mid new
    → SameHoldings old new
same_holds old mid new a b = record {
  keeps = λ s x h. b.keeps s x (a.keeps s x h);
  no_more = λ s x h. a.no_more s x (b.no_more s x h);
}

-- ---- nothing changes

module _ {D : Type 0}
    (size : ℕ)
    (g : Ghosts D)
    (k : Kept Mounted)
    (asking before beyond : List ℕ)
    (asked : Result Asked BadCommand)
    (is : request_of asking ≡ asked)
    (none : AsksNoData asked)
    (text : List ℕ)
    (same : response k.now k.staged asked ≡ still text)
    (old new : D)
    (stands : IsIn size k.now (g.seen old))
    (seen : g.seen new ≡ g.seen old)
    (holds : SameHoldings (g.may_leave old) (g.may_leave new))
    (deaf : g.heard new ≡ g.heard old)
    (time : Adds g.moment g.outcomes old new
    (LeavesSaying (g.told old) (packet text) (g.may_leave old))) where
  last_is : k ≡ (item_by k (response k.now k.staged asked)).last
  last_is = ap (λ (r : Response Mounted). (item_by k r).last) (sym same)

  there : IsIn size (item_by k (response k.now k.staged asked)).last.now (g.seen old)
  there = subst (λ (q : Kept Mounted). IsIn size q.now (g.seen old)) last_is stands

  text_is : text ≡ (response k.now k.staged asked).text
  text_is = ap (λ (r : Response Mounted). r.text) (sym same)

  pub still_answers : g.told new ≡ g.told old ++ packet text
      → Answers response (IsIn size) g k k asking before before beyond old new
  still_answers told =
      answers_plain response (IsIn size) g k asking before beyond false asked is none text text_is
      old new there seen holds deaf time k last_is told

  pub still_fails : (n : ℕ) × (g.told new ≡ g.told old ++ take n (packet text))
      → FailsWhole response (IsIn size) g k asking before beyond old new
  still_fails front =
      fails_plain response (IsIn size) g k asking before beyond false asked is none text text_is
      old new there seen holds deaf time front

-- ---- a command

text_or : (b : Bool) (c : Command) (e : Effect Mounted)
    → (let r : Response Mounted = if b then no_memory else by_effect c e in r.text)
    ≡ (let f : Effect Mounted = if b then refuses NoMemory else e in reply_text f.reply)
unfolding reply_text refusal_text
text_or true c e = refl
text_or false c e = refl

-- the text of what a command does, where memory is refused to it or not
text_refused : (refused : Bool) (c : Command) (e : Effect Mounted)
    → (unless_refused refused (by_effect c e)).text ≡ reply_text (unless refused e).reply
text_refused refused c e = text_or (refused && e.wants) c e

item_or : (k : Kept Mounted) (b : Bool) (c : Command) (e : Effect Mounted)
    → (let r : Response Mounted = if b then no_memory else by_effect c e in item_by k r)
    ≡ (let f : Effect Mounted = if b then refuses NoMemory else e in item_by k (by_effect c f))
unfolding reply_text refusal_text
item_or k true c e = refl
item_or k false c e = refl

-- and its item
item_refused : (k : Kept Mounted) (refused : Bool) (c : Command) (e : Effect Mounted)
    → item_by k (unless_refused refused (by_effect c e))
    ≡ item_by k (by_effect c (unless refused e))
item_refused k refused c e = item_or k (refused && e.wants) c e

-- a step of a command, with nothing told of it
leaves_step : (size : ℕ) (k : Kept Mounted) (c : Command) (e : Effect Mounted) (told : List ℕ)
    (o : Outcome)
    → LeavesStep told size (steps_of k.now e) o
    → LeavesItem (IsIn size) told (item_by k (by_effect c e)) o
leaves_step size k c e told o leaves = record {
  front = (0, leaves.told_so_far ∙ sym (append-nil told));
  step = (leaves.mounted, leaves.step, leaves.means);
  whole = λ all.
      let text = reply_text e.reply in
      let some = packet_some text in
      absurd (omega (
        arith,
        some,
        ap length (sym leaves.told_so_far ∙ all),
        length-append told (packet text),
      ));
}

module _ {D : Type 0}
    (size : ℕ)
    (g : Ghosts D)
    (k : Kept Mounted)
    (asking before beyond : List ℕ)
    (refused : Bool)
    (asked : Result Asked BadCommand)
    (is : request_of asking ≡ asked)
    (none : AsksNoData asked)
    (c : Command)
    (same : response k.now k.staged asked ≡ response k.now k.staged (Ok (Do c)))
    (old mid : D)
    (quiet : g.told mid ≡ g.told old)
    (deaf : g.heard mid ≡ g.heard old)
    (time : IsAtRest g old
    → Adds g.moment g.outcomes old mid
    (LeavesStep (g.told old) size
    (steps_of k.now (unless refused (effect_on k.now k.staged c))))) where
  abbrev done : Effect Mounted
  done = unless refused (effect_on k.now k.staged c)

  abbrev answer : Response Mounted
  answer = unless_refused refused (response k.now k.staged asked)

  item_is : item_by k answer ≡ item_by k (by_effect c done)
  item_is =
      ap (λ (r : Response Mounted). item_by k (unless_refused refused r)) same
      ∙ item_refused k refused c (effect_on k.now k.staged c)

  answer_text : answer.text ≡ reply_text done.reply
  answer_text =
      ap (λ (r : Response Mounted). (unless_refused refused r).text) same
      ∙ text_refused refused c (effect_on k.now k.staged c)

  during : IsAtRest g old
      → Adds g.moment g.outcomes old mid
      (LeavesItem (IsIn size) (g.told old) (item_by k answer))
  during rest =
      subst
      (λ (i : Item Mounted).
      Adds g.moment g.outcomes old mid (LeavesItem (IsIn size) (g.told old) i))
      (sym item_is)
      (adds_wider g.moment g.outcomes old mid
      (LeavesStep (g.told old) size (steps_of k.now done))
      (LeavesItem (IsIn size) (g.told old) (item_by k (by_effect c done)))
      (time rest) (leaves_step size k c done (g.told old)))

  -- the disk failed
  pub command_before : FailsWhole response (IsIn size) g k asking before beyond old mid
  command_before =
      fails_before response (IsIn size) g k asking before beyond refused asked is none
      answer.text refl old mid quiet deaf during

  module _ (new : D)
      (text : List ℕ)
      (text_is : text ≡ reply_text done.reply)
      (stands : IsIn size (after_of k.now done) (g.seen mid))
      (settled : IsAtRest g old → IsAtRest g mid)
      (seen : g.seen new ≡ g.seen mid)
      (holds : SameHoldings (g.may_leave mid) (g.may_leave new))
      (deaf' : g.heard new ≡ g.heard mid)
      (telling : Adds g.moment g.outcomes mid new
      (LeavesSaying (g.told mid) (packet text) (g.may_leave mid))) where
    text_there : text ≡ answer.text
    text_there = text_is ∙ sym answer_text

    last_there : (item_by k (by_effect c done)).last ≡ (item_by k answer).last
    last_there = ap (λ (i : Item Mounted). i.last) (sym item_is)

    there_then : IsIn size (item_by k answer).last.now (g.seen mid)
    there_then = subst (λ (q : Kept Mounted). IsIn size q.now (g.seen mid)) last_there stands

    pub command_done : (k' : Kept Mounted)
        → k'
        ≡ record {
          now = after_of k.now done;
          staged = staged_after (takes_staged c done.reply) k.staged;
        }
        → g.told new ≡ g.told mid ++ packet text
        → Answers response (IsIn size) g k k' asking before before beyond old new
    command_done k' kept told =
        answers_done response (IsIn size) g k asking before beyond refused asked is none
        text text_there old mid quiet deaf during new there_then settled seen holds deaf' telling
        k' (kept ∙ last_there) told

    -- telling failed
    pub command_told : (n : ℕ) × (g.told new ≡ g.told mid ++ take n (packet text))
        → FailsWhole response (IsIn size) g k asking before beyond old new
    command_told front =
        fails_done response (IsIn size) g k asking before beyond refused asked is none
        text text_there old mid quiet deaf during new there_then settled seen holds deaf' telling
        front

-- ---- a download whose data break off

module _ {D : Type 0}
    (sectors : ℕ)
    (g : Ghosts D)
    (k : Kept Mounted)
    (command before beyond : List ℕ)
    (size : ℕ)
    (is : request_of command ≡ Ok (Download size))
    (fits : size ≤ most_data)
    (old mid new : D)
    (stands : IsIn sectors k.now (g.seen old))
    (seen : g.seen new ≡ g.seen old)
    (holds : SameHoldings (g.may_leave old) (g.may_leave new))
    (told : g.told mid ≡ g.told old ++ packet (data_text size))
    (quiet : g.told new ≡ g.told mid)
    (hears : HearsWhere
    (IsHeardFor (g.told old ++ packet (data_text size)) (before ++ beyond) (IsAwaited size))
    (g.heard old)
    (g.heard new))
    (time : Adds g.moment g.outcomes old mid
    (LeavesSaying (g.told old) (packet (data_text size)) (g.may_leave old)))
    (after : Adds g.moment g.outcomes mid new Nothing) where
  all_time : Adds g.moment g.outcomes old new
      (LeavesSaying (g.told old) (packet (data_text size)) (g.may_leave old))
  all_time =
      adds_still g.moment g.outcomes old mid new
      (LeavesSaying (g.told old) (packet (data_text size)) (g.may_leave old)) time after

  failed : FailsOpen response (IsIn sectors) g k command before beyond old new
  failed =
      let text = packet (data_text size) in
      fails_data response (IsIn sectors) g k command before beyond size is old new stands seen holds
      fits
      (length text, quiet ∙ told ∙ ap (λ (l : List ℕ). g.told old ++ l) (sym (take_whole text)))
      hears all_time

  broken : (count total most : ℕ) (end : End)
      → EndsAs (IsBroken count size before) total most end
      → BreaksOff response (IsIn sectors) g k command before beyond count total most end old new
  broken count total most end ends =
      breaks_off response (IsIn sectors) g k command before beyond size is old new stands seen holds
      fits count total most end ends (quiet ∙ told) hears all_time

  pub data_fails : (count total most : ℕ) (fault : ReadFault)
      → StopsBy (IsBroken count size before) total most fault
      → Fails sectors g k command before beyond count total most old new (fault_of_read fault)
  data_fails count total most reads.Source why = failed
  data_fails count total most reads.BadHello why = broken count total most session.BadHello why
  data_fails count total most (reads.TooLong n) why =
      broken count total most (session.TooLong n) why
  data_fails count total most (reads.Overrun due came) why =
      broken count total most (session.Overrun due came) why
  data_fails count total most (reads.Cut at) why = broken count total most (session.Cut at) why
  data_fails count total most reads.Spent why = broken count total most session.Spent why

-- ---- counts

-- a reader's fault has its cause, where nothing failed before
pub read_cause : {D A : Type 0} (g : Ghosts D) (old mid new : D) (fault : ReadFault)
    → g.faults mid ≡ g.faults old
    → NoFewer (g.faults mid) (g.faults new)
    → IfNotSource (g.faults new ≡ g.faults mid) fault
    → (fault ≡ reads.Source → SourceFailed (g.faults mid) (g.faults new))
    → HasCause {A = A} g old new (Err (fault_of_read fault))
read_cause g old mid new reads.Source same counts steady rose = record {
  counts = subst (λ (f : Faults). NoFewer f (g.faults new)) same counts;
  steady = λ held. absurd held;
  disk = λ is. cc;
  source = λ is. subst (λ (f : Faults). SourceFailed f (g.faults new)) same (rose refl);
  sink = λ is. cc;
}
read_cause g old mid new reads.BadHello same counts steady rose = record {
  counts = subst (λ (f : Faults). NoFewer f (g.faults new)) same counts;
  steady = λ held. steady ∙ same;
  disk = λ is. cc;
  source = λ is. cc;
  sink = λ is. cc;
}
read_cause g old mid new (reads.TooLong n) same counts steady rose = record {
  counts = subst (λ (f : Faults). NoFewer f (g.faults new)) same counts;
  steady = λ held. steady ∙ same;
  disk = λ is. cc;
  source = λ is. cc;
  sink = λ is. cc;
}
read_cause g old mid new (reads.Overrun due came) same counts steady rose = record {
  counts = subst (λ (f : Faults). NoFewer f (g.faults new)) same counts;
  steady = λ held. steady ∙ same;
  disk = λ is. cc;
  source = λ is. cc;
  sink = λ is. cc;
}
read_cause g old mid new (reads.Cut at) same counts steady rose = record {
  counts = subst (λ (f : Faults). NoFewer f (g.faults new)) same counts;
  steady = λ held. steady ∙ same;
  disk = λ is. cc;
  source = λ is. cc;
  sink = λ is. cc;
}
read_cause g old mid new reads.Spent same counts steady rose = record {
  counts = subst (λ (f : Faults). NoFewer f (g.faults new)) same counts;
  steady = λ held. steady ∙ same;
  disk = λ is. cc;
  source = λ is. cc;
  sink = λ is. cc;
}

-- How a session over a device ends.
use Rattle.std.proofs.Common.{inl, inr, ℕ, ◌≤◌, List, [], ◌++◌, Some, None, Err, length, take}
use Rattle.std.proofs.Common.{codes, subst, sym, ap, ◌∙◌, ◌≡◌, Ok, refl}
use Rattle.std.proofs.Common.{min, Result}
use Rattle.vab_disk.specs.Disk.{Outcome, Leaves}
use Rattle.vab_disk.specs.Calls.{IsAtRest}
use Rattle.vab_disk.specs.declared.disk.Disk.{Ghosts}
use Rattle.vab_device.specs.Mounted.{Mounted, mounted_on}
use Rattle.vab_device.specs.Reading.{IsIn, Represents}
use Rattle.vab_device.proofs.ReadingLaws.{device_stands}
use Rattle.vab_exchanges.specs.Session.{packet, Stops, HasNoHello, IsCutShort}
use Rattle.vab_exchanges.specs.Session as session
use Rattle.vab_exchanges.specs.Hearing.{HearsWhere, IsHeardFor, Listens}
use Rattle.vab_exchanges.specs.Reading.{EndsAs, StopsBy, end_of, IsFewerThan, rest_of, beyond_of}
use Rattle.vab_exchanges.specs.Reading.{all_of}
use Rattle.vab_exchanges.specs.declared.reader.Reader.{Reader}
use Rattle.vab_session.specs.Between.{GoesOn}
use Rattle.vab_exchanges.specs.Items.{Kept, passed}
use Rattle.vab_exchanges.specs.Runs.{Passes, FailsWhole, FailsOpen, BreaksOff, Ran, Serves}
use Rattle.vab_exchanges.specs.declared.fault.ReadFault.{ReadFault}
use Rattle.vab_exchanges.specs.declared.fault.ReadFault.TheVariants as reads
use Rattle.vab_exchanges.proofs.Packets.{AreBytes}
use Rattle.vab_exchanges.proofs.Serving.{Begins, stopped_early, failed_early}
use Rattle.vab_exchanges.proofs.Progress.{Progress, stopped, failed_nowhere, failed_whole}
use Rattle.vab_exchanges.proofs.Progress.{failed_open, broke_off, passed_on}
use Rattle.vab_session.specs.declared.fault.SessionFault.{SessionFault}
use Rattle.vab_session.specs.declared.fault.SessionFault.TheVariants.{BadHello, TooLong, Overrun}
use Rattle.vab_session.specs.declared.fault.SessionFault.TheVariants.{Cut, Spent, Disk, Source}
use Rattle.vab_session.specs.declared.fault.SessionFault.TheVariants.{Sink}
use Rattle.vab_session.specs.Fault.{fault_of_read}
use Rattle.vab_session.specs.Responses.{response, turns_between, machine}
use Rattle.vab_session.specs.Served.{HeldBy, Says, Fails, AnswersOrFails, kept_on}
use Rattle.vab_session.specs.declared.kept.KeptDevice.{KeptDevice}
use Rattle.vab_exchanges.proofs.Progress.{heard}

-- what was said of two numbers, of others that are the same
pub moved : (F : ℕ → ℕ → Type 0) (m m' n n' : ℕ) → m' ≡ m → n' ≡ n → F m' n' → F m n
moved F m m' n n' a b h =
    subst (λ (k : ℕ). F k n) a (subst (λ (k : ℕ). F m' k) b h)

pub some_is : (n s : Mounted) → Some n ≡ Some s → s ≡ n
some_is n s is = cc

pub none_is : (n s : Mounted) → None ≡ Some s → s ≡ n
none_is n s is = cc

module _ {D : Type 0}
    (turns size : ℕ)
    (g : Ghosts D)
    (bytes beyond : List ℕ)
    (first : Kept Mounted)
    (told : List ℕ)
    (old mid : D)
    (left : List ℕ)
    (base : Kept Mounted)
    (so_far : Progress (machine turns) (IsIn size) g bytes beyond first told old mid left
    (turns_between turns base.now) base)
    (count total most : ℕ)
    (are : AreBytes bytes) where
  abbrev next : Kept Mounted
  next = passed (machine turns) base

  stops : (fault : ReadFault)
      → EndsAs (Stops count left) total most (end_of fault)
      → Ran (machine turns) (IsIn size) g (Unit {0}) (λ e. end_of fault
      ≡ e) None count total most bytes
      beyond first told old mid
  stops fault ends =
      stopped (machine turns) (IsIn size) g bytes beyond first told old mid left
      (turns_between turns base.now) base so_far refl
      (Unit {0}) None count total most (end_of fault) ends (λ s is. none_is next.now s is)

  pub read_fails : (fault : ReadFault)
      → StopsBy (Stops count left) total most fault
      → (let e : SessionFault = fault_of_read fault in
      Ran (machine turns) (IsIn size) g
      (HeldBy e) (Says (Err e)) None count total most bytes
      beyond first told old mid)
  read_fails reads.Source why =
      failed_nowhere (machine turns) (IsIn size) g bytes beyond first told old mid left
      (turns_between turns base.now) base so_far refl
      count total most are
  read_fails reads.BadHello why = stops reads.BadHello why
  read_fails (reads.TooLong n) why = stops (reads.TooLong n) why
  read_fails (reads.Overrun due came) why = stops (reads.Overrun due came) why
  read_fails (reads.Cut at) why = stops (reads.Cut at) why
  read_fails reads.Spent why = stops reads.Spent why

  module _ (command before : List ℕ)
      (short : length command ≤ 4096)
      (is : left ≡ packet command ++ before)
      (now : D) where
    breaks : (end : session.End)
        → BreaksOff response (IsIn size) g next command before beyond count total most end mid now
        → Ran (machine turns) (IsIn size) g (Unit {0}) (λ e. end ≡ e) None count total most bytes
        beyond first told old now
    breaks end why =
        broke_off (machine turns) (IsIn size) g bytes beyond first told old mid left
        (turns_between turns base.now) base so_far refl
        command before short is (Unit {0}) count total most end now why

    whole : FailsWhole response (IsIn size) g next command before beyond mid now
        → Ran (machine turns) (IsIn size) g ⊥ (λ e. Unit {0}) None count total most bytes
        beyond first told old now
    whole why =
        failed_whole (machine turns) (IsIn size) g bytes beyond first told old mid left
        (turns_between turns base.now) base so_far refl
        command before short is count total most now are why

    open_one : FailsOpen response (IsIn size) g next command before beyond mid now
        → Ran (machine turns) (IsIn size) g ⊥ (λ e. Unit {0}) None count total most bytes
        beyond first told old now
    open_one why =
        failed_open (machine turns) (IsIn size) g bytes beyond first told old mid left
        (turns_between turns base.now) base so_far refl
        command before short is count total most now are why

    pub answer_fails : (fault : SessionFault)
        → Fails size g next command before beyond count total most mid now fault
        → Ran (machine turns) (IsIn size) g
        (HeldBy fault) (Says (Err fault)) None count total most bytes
        beyond first told old now
    answer_fails Disk why = whole why
    answer_fails Sink (inl why) = whole why
    answer_fails Sink (inr why) = open_one why
    answer_fails Source why = open_one why
    answer_fails BadHello why = breaks session.BadHello why
    answer_fails (TooLong n) why = breaks (session.TooLong n) why
    answer_fails (Overrun due came) why = breaks (session.Overrun due came) why
    answer_fails (Cut at) why = breaks (session.Cut at) why
    answer_fails Spent why = breaks session.Spent why

-- ---- before the first exchange

module _ {D : Type 0}
    (turns size : ℕ)
    (g : Ghosts D)
    (only_now : (d : D) (o : Outcome)
    → g.outcomes d (g.moment d) o
    → Leaves (g.told d) (g.may_leave d) o)
    (most : ℕ)
    (first : Kept Mounted)
    (old new : D)
    (are : AreBytes (g.input_left old))
    (told : g.told new ≡ g.told old ++ codes "FB01")
    (there : IsIn size first.now (g.seen old))
    (stands : IsIn size first.now (g.seen new))
    (hears : HearsWhere
    (IsHeardFor (g.told old ++ codes "FB01") (g.input_left old) (IsFewerThan 4))
    (g.heard old)
    (g.heard new))
    (rests : IsAtRest g old → IsAtRest g new)
    (time : Begins (machine turns) (IsIn size) g only_now first old new) where
  early : (end : session.End)
      → EndsAs
      (HasNoHello (length (take most (g.input_left old))) (take most (g.input_left old)))
      (length (g.input_left old)) most end
      → Serves (machine turns) (IsIn size) g (Unit {0}) (λ e. end ≡ e) None most first old new
  early end ends =
      stopped_early (machine turns) (IsIn size) g only_now (Unit {0}) None most first old new end
      ends (λ s is. none_is first.now s is) told there stands hears rests time

  pub hello_fails : (fault : ReadFault)
      → StopsBy
      (HasNoHello (length (take most (g.input_left old))) (take most (g.input_left old)))
      (length (g.input_left old)) most fault
      → (let e : SessionFault = fault_of_read fault in
      Serves (machine turns) (IsIn size) g (HeldBy e) (Says (Err e)) None most first old new)
  hello_fails reads.Source why =
      failed_early (machine turns) (IsIn size) g only_now most first old new are (4, told) there
      hears time
  hello_fails reads.BadHello why = early session.BadHello why
  hello_fails (reads.TooLong n) why = early (session.TooLong n) why
  hello_fails (reads.Overrun due came) why = early (session.Overrun due came) why
  hello_fails (reads.Cut at) why = early (session.Cut at) why
  hello_fails reads.Spent why = early session.Spent why

-- ---- by other names

-- what answering a packet left, of numbers and bytes that are the same
pub does_moved : {D : Type 0} (g : Ghosts D) (k k' : Kept Mounted) (before after : List ℕ)
    (n n' total total' most most' : ℕ)
    (command command' b b' : List ℕ)
    (old new : D)
    (result : Result KeptDevice SessionFault)
    → k ≡ k'
    → n ≡ n'
    → command ≡ command'
    → b ≡ b'
    → total ≡ total'
    → most ≡ most'
    → AnswersOrFails n g k command before after b (min most total) total most old new result
    → AnswersOrFails n' g k' command' before after b' (min most' total') total' most' old new result
does_moved g k k' before after n n' total total' most most' command command' b b' old new result
    kepts sizes commands beyonds totals mosts does =
    subst
    (λ (q : ℕ × List ℕ × List ℕ × ℕ × ℕ × Kept Mounted).
    AnswersOrFails q.0 g q.5 q.1 before after q.2 (min q.4 q.3) q.3 q.4 old new result)
    (λ i. (sizes i, commands i, beyonds i, totals i, mosts i, kepts i))
    does

module _ {D : Type 0}
    (turns size : ℕ)
    (g : Ghosts D)
    (bytes beyond : List ℕ)
    (first : Kept Mounted)
    (told : List ℕ)
    (old mid now : D)
    (left : List ℕ)
    (base : Kept Mounted) where
  -- a command packet was heard, behind the turns of a merge
  pub heard_on : (b : List ℕ)
      → Progress (machine turns) (IsIn size) g bytes beyond first told old mid left
      (turns_between turns base.now) base
      → b ≡ beyond
      → g.is_modelled
      → Listens g (left ++ b) (IsCutShort 4096) mid now
      → Progress (machine turns) (IsIn size) g bytes beyond first told old now left
      (turns_between turns base.now) base
  heard_on b so_far same t listens =
      heard (machine turns) (IsIn size) g bytes beyond first told old mid left
      (turns_between turns base.now) base so_far now (listens.told t) (listens.seen t)
      (listens.crash t)
      (subst
      (λ (l : List ℕ).
      HearsWhere (IsHeardFor (g.told mid) (left ++ l) (IsCutShort 4096)) (g.heard mid)
      (g.heard now))
      same (listens.heard t))
      (listens.time t)

-- The turns of a merge were made behind some exchanges.
pub went_on : {D : Type 0} (turns n size : ℕ) (g : Ghosts D) (bytes beyond : List ℕ)
    (first : Kept Mounted) (told : List ℕ) (old mid now : D) (left : List ℕ)
    (kept next : KeptDevice)
    → n ≡ size
    → g.is_modelled
    → Progress (machine turns) (IsIn size) g bytes beyond first told old mid left []
    (kept_on kept (g.seen mid))
    → Passes (IsIn n) g (turns_between turns (mounted_on kept.device (g.seen mid)))
    (mounted_on kept.device (g.seen mid)) mid now
    → kept_on next (g.seen now) ≡ passed (machine turns) (kept_on kept (g.seen mid))
    → IsIn size (mounted_on next.device (g.seen now)) (g.seen now)
    → (IsAtRest g mid → IsAtRest g now)
    → Progress (machine turns) (IsIn size) g bytes beyond first told old now left
    (turns_between turns (mounted_on kept.device (g.seen mid))) (kept_on kept (g.seen mid))
went_on turns n size g bytes beyond first told old mid now left kept later sized t so_far passes
    after stands settled =
    let base = kept_on kept (g.seen mid) in
    passed_on (machine turns) (IsIn size) g bytes beyond first told old mid left base so_far now
    (turns_between turns base.now)
    (subst (λ (k : ℕ). Passes (IsIn k) g (turns_between turns base.now) base.now mid now) sized
    passes)
    (subst (λ (k : Kept Mounted). IsIn size k.now (g.seen now)) after stands)
    settled

-- The turns of a merge were made, and a command packet was heard.
pub came_on : {D : Type 0} (turns size : ℕ) (g : Ghosts D) (bytes beyond : List ℕ)
    (first : Kept Mounted) (told : List ℕ) (old start mid now : D) (r : Reader)
    (kept next : KeptDevice)
    → g.size start ≡ size
    → g.is_modelled
    → Progress (machine turns) (IsIn size) g bytes beyond first told old start
    (rest_of r (g.input_left start)) [] (kept_on kept (g.seen start))
    → GoesOn g kept turns start mid (Ok next)
    → beyond_of r (g.input_left start) ≡ beyond
    → Listens g (all_of r (g.input_left mid)) (IsCutShort 4096) mid now
    → Progress (machine turns) (IsIn size) g bytes beyond first told old now
    (rest_of r (g.input_left mid)) (turns_between turns (mounted_on kept.device (g.seen start)))
    (kept_on kept (g.seen start))
came_on turns size g bytes beyond first told old start mid now r kept next sized t so_far on apart
    listens =
    let base : Kept Mounted = kept_on kept (g.seen start) in
    let same : g.input_left mid ≡ g.input_left start = on.quiet.left t in
    let begun : Progress (machine turns) (IsIn size) g bytes beyond first told old start
    (rest_of r (g.input_left mid)) [] base =
    subst
    (λ (l : List ℕ).
    Progress (machine turns) (IsIn size) g bytes beyond first told old start (rest_of r l) [] base)
    (sym same) so_far in
    let stands : Represents next.device size (g.seen mid) =
    subst (λ (n : ℕ). Represents next.device n (g.seen mid)) sized (on.stands t) in
    heard_on turns size g bytes beyond first told old mid now (rest_of r (g.input_left mid)) base
    (beyond_of r (g.input_left mid))
    (went_on turns (g.size start) size g bytes beyond first told old start mid
    (rest_of r (g.input_left mid)) kept next sized t begun (on.passes t) (on.after t)
    (device_stands next.device size (g.seen mid) stands) (on.rest t))
    (ap (beyond_of r) same ∙ apart) t listens

-- what is kept then
pub kept_now : {D : Type 0} (turns : ℕ) (g : Ghosts D) (start mid now : D) (kept next : KeptDevice)
    → g.is_modelled
    → GoesOn g kept turns start mid (Ok next)
    → g.seen now ≡ g.seen mid
    → kept_on next (g.seen now) ≡ passed (machine turns) (kept_on kept (g.seen start))
kept_now turns g start mid now kept next t on same = ap (kept_on next) same ∙ on.after t

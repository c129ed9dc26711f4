-- A command whose reply was told.
use Rattle.std.proofs.Common.{◌≡◌, inl, inr, ℕ, ◌+◌, ◌<◌, ◌≤◌, Bool, true, false, ◌&&◌, ◌||◌, cond}
use Rattle.std.proofs.Common.{List, [], ◌∷◌, ◌++◌, Option, Some, Result, Ok, Err, length, take}
use Rattle.std.proofs.Common.{refl, sym, ◌∙◌, ap, subst, append_assoc, codes, ltb}
use Rattle.std.proofs.lemmas.List.{append-nil}
use Rattle.std.proofs.lemmas.Bool.{lt-ltb, le-ltb}
use Rattle.vab_disk.specs.Disk.{Image, Outcome, SameHoldings, Adds}
use Rattle.vab_disk.specs.Written.{same_image}
use Rattle.vab_disk.proofs.Moments.{adds_wider, adds_on}
use Rattle.vab_disk.specs.Port.{LeavesSaying}
use Rattle.vab_disk.specs.declared.disk.Disk.{Ghosts}
use Rattle.vab_fbproto.specs.Requests.{Asked, Getvar, Download, Do, MergeAll, BootAndEnd}
use Rattle.vab_fbproto.specs.Requests.{request_of}
use Rattle.vab_fbproto.specs.declared.request.BadCommand.{BadCommand}
use Rattle.vab_exchanges.specs.Session.{packet, most_data, wanted, due_of, Exchange, Leaves, End}
use Rattle.vab_exchanges.specs.Session.{IsAwaited}
use Rattle.vab_exchanges.specs.Reading.{HasData, IsBroken, EndsAs}
use Rattle.vab_exchanges.specs.Items.{Response, AsksNoData, unless_refused, Kept, Item, item_by}
use Rattle.vab_exchanges.specs.Items.{item_still, item_asked, item_of, item_open, data_text}
use Rattle.vab_exchanges.specs.Items.{asked_size}
use Rattle.vab_disk.specs.Calls.{IsAtRest}
use Rattle.vab_model.specs.Effects.{IsOneOf, last_of}
use Rattle.vab_exchanges.specs.Hearing.{HearsWhere, IsHeardFor}
use Rattle.vab_exchanges.proofs.Listening.{hears_same, hears_still}
use Rattle.vab_exchanges.specs.Runs.{LeavesItem, HearsData, Answers, FailsWhole, StartsAs}
use Rattle.vab_exchanges.specs.Runs.{FailsOpen, BreaksOff}
use Rattle.vab_exchanges.proofs.RunLaws.{telling}
use Rattle.vab_exchanges.proofs.Choices.{chosen}
use Rattle.vab_exchanges.proofs.Progress.{opens, started_by, still_settled}
use Rattle.std.proofs.Math.Seq.{take-append-add}

-- the last situation is one of an item's steps
pub last_one : {S : Type 0} (s : S) (xs : List S) → IsOneOf (s ∷ xs) (last_of s xs)
last_one s [] = inl refl
last_one s (x ∷ xs) = inr (last_one x xs)

pub none_wanted : (refused : Bool) (asked : Result Asked BadCommand)
    → AsksNoData asked
    → 0 ≡ wanted refused asked
none_wanted refused (Ok (Download size)) none = absurd none
none_wanted refused (Ok BootAndEnd) none = refl
none_wanted refused (Ok MergeAll) none = refl
none_wanted refused (Ok (Getvar variable)) none = refl
none_wanted refused (Ok (Do command)) none = refl
none_wanted refused (Err bad) none = refl

module _ {S D : Type 0} (effect : S → Option (List ℕ) → Result Asked BadCommand → Response S)
    (IsIn : S → Image → Type 0) (g : Ghosts D) where
  plain_asked : (k : Kept S) (refused : Bool) (asked : Result Asked BadCommand)
      → AsksNoData asked
      → item_asked effect k refused [] asked
      ≡ item_by k (unless_refused refused (effect k.now k.staged asked))
  plain_asked k refused (Ok (Download size)) none = absurd none
  plain_asked k refused (Ok BootAndEnd) none = refl
  plain_asked k refused (Ok MergeAll) none = refl
  plain_asked k refused (Ok (Getvar variable)) none = refl
  plain_asked k refused (Ok (Do command)) none = refl
  plain_asked k refused (Err bad) none = refl

  abbrev plain_exchange : List ℕ → Bool → Exchange
  plain_exchange command refused = record { command = command; refused = refused; parts = [] }

  plain_item : (k : Kept S) (command : List ℕ) (refused : Bool) (asked : Result Asked BadCommand)
      → request_of command ≡ asked
      → AsksNoData asked
      → item_of effect k (plain_exchange command refused)
      ≡ item_by k (unless_refused refused (effect k.now k.staged asked))
  unfolding item_of
  plain_item k command refused asked is none =
      ap (item_asked effect k refused []) is ∙ plain_asked k refused asked none

  plain_due : (command : List ℕ) (refused : Bool) (asked : Result Asked BadCommand)
      → request_of command ≡ asked
      → AsksNoData asked
      → 0 ≡ due_of refused command
  unfolding due_of
  plain_due command refused asked is none =
      none_wanted refused asked none ∙ ap (wanted refused) (sym is)

  -- while something is told the disk stays where it is
  calm : (x : S) (old : D) (told d : List ℕ)
      → IsIn x (g.seen old)
      → IsAtRest g old
      → (o : Outcome)
      → LeavesSaying told d (g.may_leave old) o
      → IsIn x o.image
  calm x old told d stands rest o leaves =
      subst (λ (image : Image). IsIn x image)
      (sym (same_image o.image (g.seen old) (λ s. rest s (o.image s) (leaves.each_sector s))))
      stands

  -- the whole of an item's reply is told as one text
  pub saying : (i : Item S) (text : List ℕ) (old new : D)
      → i.reply ≡ packet text
      → IsOneOf i.steps i.last.now
      → IsIn i.last.now (g.seen old)
      → Adds g.moment g.outcomes old new
      (LeavesSaying (g.told old) (packet text) (g.may_leave old))
      → IsAtRest g old
      → Adds g.moment g.outcomes old new (LeavesItem IsIn (g.told old) i)
  saying i text old new is one stands time rest =
      adds_wider g.moment g.outcomes old new
      (LeavesSaying (g.told old) (packet text) (g.may_leave old))
      (LeavesItem IsIn (g.told old) i) time
      (telling IsIn (g.told old) (g.told old) i [] (packet text) [] (g.may_leave old)
      (is ∙ sym (append-nil (packet text))) (sym (append-nil (g.told old))) one
      (calm i.last.now old (g.told old) (packet text) stands rest))

  module _ (k : Kept S) (command before beyond : List ℕ) (refused : Bool) (i : Item S)
      (text : List ℕ) (item_is : item_of effect k (plain_exchange command refused) ≡ i)
      (reply_is : i.reply ≡ packet text) (one : IsOneOf i.steps i.last.now)
      (due : 0 ≡ due_of refused command)
      (old new : D) (stands : IsIn i.last.now (g.seen old)) (seen : g.seen new ≡ g.seen old)
      (holds : SameHoldings (g.may_leave old) (g.may_leave new))
      (deaf : g.heard new ≡ g.heard old)
      (time : Adds g.moment g.outcomes old new
      (LeavesSaying (g.told old) (packet text) (g.may_leave old))) where
    item_time : IsAtRest g old
        → Adds g.moment g.outcomes old new
        (LeavesItem IsIn (g.told old) (item_of effect k (plain_exchange command refused)))
    item_time rest =
        subst (λ (i : Item S). Adds g.moment g.outcomes old new (LeavesItem IsIn (g.told old) i))
        (sym item_is) (saying i text old new reply_is one stands time rest)

    reply_there : packet text ≡ (item_of effect k (plain_exchange command refused)).reply
    reply_there = sym reply_is ∙ ap (λ (i : Item S). i.reply) (sym item_is)

    answers_by : (k' : Kept S)
        → k' ≡ i.last
        → g.told new ≡ g.told old ++ packet text
        → Answers effect IsIn g k k' command before before beyond old new
    answers_by k' kept told = record {
      exchange = plain_exchange command refused;
      command_is = refl;
      all = due;
      is = refl;
      kept = kept ∙ ap (λ (i : Item S). i.last) (sym item_is);
      told = told ∙ ap (λ (l : List ℕ). g.told old ++ l) reply_there;
      stands =
          subst (λ (x : S). IsIn x (g.seen new)) (sym (ap (λ (q : Kept S). q.now) kept))
          (subst (λ (image : Image). IsIn i.last.now image) (sym seen) stands);
      settled = still_settled effect IsIn g old new seen holds;
      heard =
          hears_same
          (IsHeardFor (g.told old ++ (item_open effect k command).reply) (before ++ beyond)
          (IsAwaited (due_of false command))) (g.heard old) (g.heard new) deaf;
      time = item_time;
    }

    fails_by : (n : ℕ) × (g.told new ≡ g.told old ++ take n (packet text))
        → FailsWhole effect IsIn g k command before beyond old new
    fails_by front = record {
      exchange = plain_exchange command refused;
      after = before;
      command_is = refl;
      all = due;
      is = refl;
      front = (front.0, front.1 ∙ ap (λ (l : List ℕ). g.told old ++ take front.0 l) reply_there);
      heard =
          hears_same
          (IsHeardFor (g.told old ++ (item_open effect k command).reply) (before ++ beyond)
          (IsAwaited (due_of false command))) (g.heard old) (g.heard new) deaf;
      time = item_time;
    }

  -- A command that asks for no data is carried out on the disk, and then its reply is told: what
  -- the outcomes of carrying it out are is given.
  module _ (k : Kept S) (command before beyond : List ℕ) (refused : Bool)
      (asked : Result Asked BadCommand) (is : request_of command ≡ asked)
      (none : AsksNoData asked) (text : List ℕ)
      (text_is : text ≡ (unless_refused refused (effect k.now k.staged asked)).text)
      (old mid : D) (quiet : g.told mid ≡ g.told old) (deaf : g.heard mid ≡ g.heard old)
      (during : IsAtRest g old
      → Adds g.moment g.outcomes old mid
      (LeavesItem IsIn (g.told old)
      (item_by k (unless_refused refused (effect k.now k.staged asked))))) where
    abbrev done_item : Item S
    done_item = item_by k (unless_refused refused (effect k.now k.staged asked))

    done_is : item_of effect k (plain_exchange command refused) ≡ done_item
    done_is = plain_item k command refused asked is none

    done_reply : packet text ≡ (item_of effect k (plain_exchange command refused)).reply
    done_reply = ap packet text_is ∙ ap (λ (i : Item S). i.reply) (sym done_is)

    -- the disk failed
    pub fails_before : FailsWhole effect IsIn g k command before beyond old mid
    fails_before = record {
      exchange = plain_exchange command refused;
      after = before;
      command_is = refl;
      all = plain_due command refused asked is none;
      is = refl;
      front = (0, quiet ∙ sym (append-nil (g.told old)));
      heard =
          hears_same
          (IsHeardFor (g.told old ++ (item_open effect k command).reply) (before ++ beyond)
          (IsAwaited (due_of false command))) (g.heard old) (g.heard mid) deaf;
      time =
          λ rest. subst
          (λ (i : Item S). Adds g.moment g.outcomes old mid (LeavesItem IsIn (g.told old) i))
          (sym done_is) (during rest);
    }

    module _ (new : D) (stands : IsIn done_item.last.now (g.seen mid))
        (settled : IsAtRest g old → IsAtRest g mid) (seen : g.seen new ≡ g.seen mid)
        (holds : SameHoldings (g.may_leave mid) (g.may_leave new))
        (deaf' : g.heard new ≡ g.heard mid)
        (time : Adds g.moment g.outcomes mid new
        (LeavesSaying (g.told mid) (packet text) (g.may_leave mid))) where
      done_time : IsAtRest g old
          → Adds g.moment g.outcomes old new
          (LeavesItem IsIn (g.told old) (item_of effect k (plain_exchange command refused)))
      done_time rest =
          subst
          (λ (i : Item S). Adds g.moment g.outcomes old new (LeavesItem IsIn (g.told old) i))
          (sym done_is)
          (adds_on g.moment g.outcomes old mid new (LeavesItem IsIn (g.told old) done_item)
          (LeavesSaying (g.told mid) (packet text) (g.may_leave mid)) (during rest) time
          (telling IsIn (g.told old) (g.told mid) done_item [] (packet text) [] (g.may_leave mid)
          (ap packet (sym text_is) ∙ sym (append-nil (packet text)))
          (quiet ∙ sym (append-nil (g.told old)))
          (last_one k.now (unless_refused refused (effect k.now k.staged asked)).later)
          (calm done_item.last.now mid (g.told mid) (packet text) stands (settled rest))))

      pub answers_done : (k' : Kept S)
          → k' ≡ done_item.last
          → g.told new ≡ g.told mid ++ packet text
          → Answers effect IsIn g k k' command before before beyond old new
      answers_done k' kept told = record {
        exchange = plain_exchange command refused;
        command_is = refl;
        all = plain_due command refused asked is none;
        is = refl;
        kept = kept ∙ ap (λ (i : Item S). i.last) (sym done_is);
        told = told ∙ (λ i. quiet i ++ done_reply i);
        stands =
            subst (λ (x : S). IsIn x (g.seen new)) (sym (ap (λ (q : Kept S). q.now) kept))
            (subst (λ (image : Image). IsIn done_item.last.now image) (sym seen) stands);
        settled = λ rest. still_settled effect IsIn g mid new seen holds (settled rest);
        heard =
            hears_same
            (IsHeardFor (g.told old ++ (item_open effect k command).reply) (before ++ beyond)
            (IsAwaited (due_of false command))) (g.heard old) (g.heard new) (deaf' ∙ deaf);
        time = done_time;
      }

      -- telling failed
      pub fails_done : (n : ℕ) × (g.told new ≡ g.told mid ++ take n (packet text))
          → FailsWhole effect IsIn g k command before beyond old new
      fails_done front = record {
        exchange = plain_exchange command refused;
        after = before;
        command_is = refl;
        all = plain_due command refused asked is none;
        is = refl;
        front = (front.0, front.1 ∙ (λ i. quiet i ++ take front.0 (done_reply i)));
        heard =
            hears_same
            (IsHeardFor (g.told old ++ (item_open effect k command).reply) (before ++ beyond)
            (IsAwaited (due_of false command))) (g.heard old) (g.heard new) (deaf' ∙ deaf);
        time = done_time;
      }

  -- a command that asks for no data
  module _ (k : Kept S) (command before beyond : List ℕ) (refused : Bool)
      (asked : Result Asked BadCommand) (is : request_of command ≡ asked)
      (none : AsksNoData asked) (text : List ℕ)
      (text_is : text ≡ (unless_refused refused (effect k.now k.staged asked)).text)
      (old new : D)
      (stands : IsIn (last_of k.now (unless_refused refused (effect k.now k.staged asked)).later)
      (g.seen old)) (seen : g.seen new ≡ g.seen old)
      (holds : SameHoldings (g.may_leave old) (g.may_leave new))
      (deaf : g.heard new ≡ g.heard old)
      (time : Adds g.moment g.outcomes old new
      (LeavesSaying (g.told old) (packet text) (g.may_leave old))) where
    pub answers_plain : (k' : Kept S)
        → k' ≡ (item_by k (unless_refused refused (effect k.now k.staged asked))).last
        → g.told new ≡ g.told old ++ packet text
        → Answers effect IsIn g k k' command before before beyond old new
    answers_plain k' kept told =
        let e = unless_refused refused (effect k.now k.staged asked) in
        answers_by k command before beyond refused (item_by k e) text
        (plain_item k command refused asked is none) (ap packet (sym text_is))
        (last_one k.now e.later) (plain_due command refused asked is none) old new stands
        seen holds deaf time k' kept told

    pub fails_plain : (n : ℕ) × (g.told new ≡ g.told old ++ take n (packet text))
        → FailsWhole effect IsIn g k command before beyond old new
    fails_plain front =
        let e = unless_refused refused (effect k.now k.staged asked) in
        fails_by k command before beyond refused (item_by k e) text
        (plain_item k command refused asked is none) (ap packet (sym text_is))
        (last_one k.now e.later) (plain_due command refused asked is none) old new stands
        seen holds deaf time front

  -- ---- a download

  download_item : (k : Kept S) (command : List ℕ) (size : ℕ) (refused big some : Bool)
      (parts : List (List ℕ))
      → request_of command ≡ Ok (Download size)
      → ltb most_data size ≡ big
      → (refused && ltb 0 size) ≡ some
      → item_of effect k (record { command = command; refused = refused; parts = parts })
      ≡ chosen k size big some parts
  unfolding item_of
  download_item k command size refused big some parts is above few =
      ap (item_asked effect k refused parts) is ∙ (λ i. chosen k size (above i) (few i) parts)

  download_due : (command : List ℕ) (size : ℕ) (refused big : Bool)
      → request_of command ≡ Ok (Download size)
      → ltb most_data size ≡ big
      → due_of refused command ≡ cond (refused || big) 0 size
  unfolding due_of
  download_due command size refused big is above =
      ap (wanted refused) is ∙ ap (λ b. cond (refused || b) 0 size) above

  -- what is heard while data are due
  data_hears : (k : Kept S) (command bytes : List ℕ) (size : ℕ)
      → request_of command ≡ Ok (Download size)
      → size ≤ most_data
      → (old new : D)
      → HearsWhere (IsHeardFor (g.told old ++ packet (data_text size)) bytes (IsAwaited size))
      (g.heard old) (g.heard new)
      → HearsData effect IsIn g k command bytes old new
  unfolding item_open
  data_hears k command bytes size is fits old new hears =
      let told_is : g.told old ++ packet (data_text size)
      ≡ g.told old ++ (item_open effect k command).reply =
      ap (λ (r : Result Asked BadCommand). g.told old ++ packet (data_text (asked_size r)))
      (sym is) in
      let due : size ≡ due_of false command =
      sym (download_due command size false false is (le-ltb most_data size fits)) in
      subst
      (λ (n : ℕ). HearsWhere
      (IsHeardFor (g.told old ++ (item_open effect k command).reply) bytes (IsAwaited n))
      (g.heard old) (g.heard new)) due
      (subst
      (λ (l : List ℕ). HearsWhere (IsHeardFor l bytes (IsAwaited size)) (g.heard old)
      (g.heard new)) told_is hears)

  module _ (k : Kept S) (command before beyond : List ℕ) (size : ℕ)
      (is : request_of command ≡ Ok (Download size)) (old new : D)
      (stands : IsIn k.now (g.seen old)) (seen : g.seen new ≡ g.seen old)
      (holds : SameHoldings (g.may_leave old) (g.may_leave new)) where
    -- one that is too large
    module _ (above : most_data < size) (deaf : g.heard new ≡ g.heard old)
        (time : Adds g.moment g.outcomes old new
        (LeavesSaying (g.told old) (packet (codes "FAILtoo large")) (g.may_leave old))) where
      pub answers_large : g.told new ≡ g.told old ++ packet (codes "FAILtoo large")
          → Answers effect IsIn g k k command before before beyond old new
      answers_large told =
          answers_by k command before beyond false
          (item_still k (packet (codes "FAILtoo large"))) (codes "FAILtoo large")
          (download_item k command size false true false [] is (lt-ltb most_data size above) refl)
          refl (inl refl)
          (sym (download_due command size false true is (lt-ltb most_data size above))) old new
          stands seen holds deaf time k refl told

      pub fails_large : (n : ℕ)
          × (g.told new ≡ g.told old ++ take n (packet (codes "FAILtoo large")))
          → FailsWhole effect IsIn g k command before beyond old new
      fails_large front =
          fails_by k command before beyond false (item_still k (packet (codes "FAILtoo large")))
          (codes "FAILtoo large")
          (download_item k command size false true false [] is (lt-ltb most_data size above) refl)
          refl (inl refl)
          (sym (download_due command size false true is (lt-ltb most_data size above))) old new
          stands seen holds deaf time front

    -- one to which memory is refused
    module _ (fits : size ≤ most_data) (some : 0 < size) (deaf : g.heard new ≡ g.heard old)
        (time : Adds g.moment g.outcomes old new
        (LeavesSaying (g.told old) (packet (codes "FAILout of memory")) (g.may_leave old))) where
      pub answers_refused : g.told new ≡ g.told old ++ packet (codes "FAILout of memory")
          → Answers effect IsIn g k k command before before beyond old new
      answers_refused told =
          answers_by k command before beyond true
          (item_still k (packet (codes "FAILout of memory"))) (codes "FAILout of memory")
          (download_item k command size true false true [] is (le-ltb most_data size fits)
          (lt-ltb 0 size some)) refl (inl refl)
          (sym (download_due command size true false is (le-ltb most_data size fits))) old new
          stands seen holds deaf time k refl told

      pub fails_refused : (n : ℕ)
          × (g.told new ≡ g.told old ++ take n (packet (codes "FAILout of memory")))
          → FailsWhole effect IsIn g k command before beyond old new
      fails_refused front =
          fails_by k command before beyond true
          (item_still k (packet (codes "FAILout of memory"))) (codes "FAILout of memory")
          (download_item k command size true false true [] is (le-ltb most_data size fits)
          (lt-ltb 0 size some)) refl (inl refl)
          (sym (download_due command size true false is (le-ltb most_data size fits))) old new
          stands seen holds deaf time front

    -- one that is accepted
    module _ (fits : size ≤ most_data) where
      pub due_there : due_of false command ≡ size
      due_there = download_due command size false false is (le-ltb most_data size fits)

      data_there : packet (data_text (asked_size (request_of command))) ≡ packet (data_text size)
      data_there = ap (λ (r : Result Asked BadCommand). packet (data_text (asked_size r))) is

      starts : (parts : List (List ℕ))
          → StartsAs effect IsIn g k command
          (item_of effect k (record { command = command; refused = false; parts = parts }))
      starts parts =
          let at = started_by k size parts in
          subst (λ (i : Item S). StartsAs effect IsIn g k command i)
          (sym
          (download_item k command size false false false parts is
          (le-ltb most_data size fits) refl))
          (record {
            more = at.more;
            reply = at.reply ∙ ap (λ (l : List ℕ). l ++ at.more) (sym data_there);
            steps = at.steps;
            last = at.last;
          })

      started_time : (i : Item S)
          → StartsAs effect IsIn g k command i
          → Adds g.moment g.outcomes old new
          (LeavesSaying (g.told old) (packet (data_text size)) (g.may_leave old))
          → IsAtRest g old
          → Adds g.moment g.outcomes old new (LeavesItem IsIn (g.told old) i)
      started_time i at time rest =
          adds_wider g.moment g.outcomes old new
          (LeavesSaying (g.told old) (packet (data_text size)) (g.may_leave old))
          (LeavesItem IsIn (g.told old) i) time
          (telling IsIn (g.told old) (g.told old) i [] (packet (data_text size)) at.more
          (g.may_leave old) (at.reply ∙ ap (λ (l : List ℕ). l ++ at.more) data_there)
          (sym (append-nil (g.told old)))
          (subst (λ (l : List S). IsOneOf l i.last.now) (sym at.steps) (inl at.last))
          (calm i.last.now old (g.told old) (packet (data_text size))
          (subst (λ (x : S). IsIn x (g.seen old)) (sym at.last) stands) rest))

      open_reply : packet (data_text (asked_size (request_of command)))
          ≡ (item_open effect k command).reply
      unfolding item_open
      open_reply = refl

      -- `DATA` was told in part, or the port failed behind it
      pub fails_data : (n : ℕ) × (g.told new ≡ g.told old ++ take n (packet (data_text size)))
          → HearsWhere
          (IsHeardFor (g.told old ++ packet (data_text size)) (before ++ beyond) (IsAwaited size))
          (g.heard old) (g.heard new)
          → Adds g.moment g.outcomes old new
          (LeavesSaying (g.told old) (packet (data_text size)) (g.may_leave old))
          → FailsOpen effect IsIn g k command before beyond old new
      fails_data front hears time = record {
        starts = starts;
        front =
            (front.0, front.1 ∙ ap (λ (l : List ℕ). g.told old ++ take front.0 l) (sym data_there));
        heard = data_hears k command (before ++ beyond) size is fits old new hears;
        time = λ rest i at. started_time i at time rest;
      }

      pub breaks_off : (count total most : ℕ) (end : End)
          → EndsAs (IsBroken count size before) total most end
          → g.told new ≡ g.told old ++ packet (data_text size)
          → HearsWhere
          (IsHeardFor (g.told old ++ packet (data_text size)) (before ++ beyond) (IsAwaited size))
          (g.heard old) (g.heard new)
          → Adds g.moment g.outcomes old new
          (LeavesSaying (g.told old) (packet (data_text size)) (g.may_leave old))
          → BreaksOff effect IsIn g k command before beyond count total most end old new
      breaks_off count total most end ends told hears time =
          let at = opens effect IsIn g k command in
          record {
            ends =
                subst (λ (n : ℕ). EndsAs (IsBroken count n before) total most end)
                (sym due_there) ends;
            told = told ∙ ap (λ (l : List ℕ). g.told old ++ l) (sym data_there ∙ open_reply);
            stands = subst (λ (image : Image). IsIn k.now image) (sym seen) stands;
            settled = still_settled effect IsIn g old new seen holds;
            heard = data_hears k command (before ++ beyond) size is fits old new hears;
            time = started_time (item_open effect k command) at time;
          }

  -- all of it came
  module _ (k : Kept S) (command before after beyond bytes : List ℕ) (size : ℕ)
      (is : request_of command ≡ Ok (Download size)) (fits : size ≤ most_data)
      (came : HasData size before after bytes) (old mid new : D)
      (stands : IsIn k.now (g.seen old)) (seen : g.seen mid ≡ g.seen old)
      (holds : SameHoldings (g.may_leave old) (g.may_leave mid))
      (seen' : g.seen new ≡ g.seen mid)
      (holds' : SameHoldings (g.may_leave mid) (g.may_leave new))
      (told : g.told mid ≡ g.told old ++ packet (data_text size))
      (hears : HearsWhere
      (IsHeardFor (g.told old ++ packet (data_text size)) (before ++ beyond) (IsAwaited size))
      (g.heard old) (g.heard mid)) (deaf : g.heard new ≡ g.heard mid)
      (time : Adds g.moment g.outcomes old mid
      (LeavesSaying (g.told old) (packet (data_text size)) (g.may_leave old)))
      (time' : Adds g.moment g.outcomes mid new
      (LeavesSaying (g.told mid) (packet (codes "OKAY")) (g.may_leave mid))) where
    abbrev came_exchange : Exchange
    came_exchange = record { command = command; refused = false; parts = came.parts }

    came_item : item_of effect k came_exchange ≡ chosen k size false false came.parts
    came_item =
        download_item k command size false false false came.parts is (le-ltb most_data size fits)
        refl

    came_all : Leaves (due_of false command) came.parts 0
    came_all =
        subst (λ (n : ℕ). Leaves n came.parts 0)
        (sym (due_there k command before beyond size is old mid stands seen holds fits)) came.all

    came_mid : IsIn k.now (g.seen mid)
    came_mid = subst (λ (image : Image). IsIn k.now image) (sym seen) stands

    came_time : IsAtRest g old
        → Adds g.moment g.outcomes old new
        (LeavesItem IsIn (g.told old) (item_of effect k came_exchange))
    came_time rest =
        let i = chosen k size false false came.parts in
        let D1 = packet (data_text size) in
        let D2 = packet (codes "OKAY") in
        subst (λ (i : Item S). Adds g.moment g.outcomes old new (LeavesItem IsIn (g.told old) i))
        (sym came_item)
        (adds_on g.moment g.outcomes old mid new (LeavesItem IsIn (g.told old) i)
        (LeavesSaying (g.told mid) D2 (g.may_leave mid))
        (adds_wider g.moment g.outcomes old mid (LeavesSaying (g.told old) D1 (g.may_leave old))
        (LeavesItem IsIn (g.told old) i) time
        (telling IsIn (g.told old) (g.told old) i [] D1 D2 (g.may_leave old) refl
        (sym (append-nil (g.told old))) (inl refl) (calm k.now old (g.told old) D1 stands rest)))
        time'
        (telling IsIn (g.told old) (g.told mid) i D1 D2 [] (g.may_leave mid)
        (ap (λ (l : List ℕ). D1 ++ l) (sym (append-nil D2))) told (inl refl)
        (calm k.now mid (g.told mid) D2 came_mid
        (still_settled effect IsIn g old mid seen holds rest))))

    pub answers_download : (k' : Kept S)
        → k' ≡ record { now = k.now; staged = Some bytes }
        → g.told new ≡ g.told mid ++ packet (codes "OKAY")
        → Answers effect IsIn g k k' command before after beyond old new
    answers_download k' kept told' = record {
      exchange = came_exchange;
      command_is = refl;
      all = came_all;
      is = came.is;
      kept =
          kept
          ∙ ap (λ (l : List ℕ). record { now = k.now; staged = Some l }) came.bytes_are
          ∙ ap (λ (i : Item S). i.last) (sym came_item);
      told =
          told'
          ∙ ap (λ (l : List ℕ). l ++ packet (codes "OKAY")) told
          ∙ append_assoc (g.told old) (packet (data_text size)) (packet (codes "OKAY"))
          ∙ ap (λ (i : Item S). g.told old ++ i.reply) (sym came_item);
      stands =
          subst (λ (x : S). IsIn x (g.seen new)) (sym (ap (λ (q : Kept S). q.now) kept))
          (subst (λ (image : Image). IsIn k.now image) (sym seen') came_mid);
      settled =
          λ rest. still_settled effect IsIn g mid new seen' holds'
          (still_settled effect IsIn g old mid seen holds rest);
      heard =
          data_hears k command (before ++ beyond) size is fits old new
          (hears_still
          (IsHeardFor (g.told old ++ packet (data_text size)) (before ++ beyond) (IsAwaited size))
          (g.heard old) (g.heard mid) (g.heard new) deaf hears);
      time = came_time;
    }

    pub fails_okay : (n : ℕ) × (g.told new ≡ g.told mid ++ take n (packet (codes "OKAY")))
        → FailsWhole effect IsIn g k command before beyond old new
    fails_okay front =
        let D1 = packet (data_text size) in
        let D2 = packet (codes "OKAY") in
        let n = length D1 + front.0 in
        record {
          exchange = came_exchange;
          after = after;
          command_is = refl;
          all = came_all;
          is = came.is;
          front = (
            n,
            front.1
                ∙ ap (λ (l : List ℕ). l ++ take front.0 D2) told
                ∙ append_assoc (g.told old) D1 (take front.0 D2)
                ∙ ap (λ (l : List ℕ). g.told old ++ l) (sym (take-append-add D1 D2 front.0))
                ∙ ap (λ (i : Item S). g.told old ++ take n i.reply) (sym came_item),
          );
          heard =
              data_hears k command (before ++ beyond) size is fits old new
              (hears_still
              (IsHeardFor (g.told old ++ packet (data_text size)) (before ++ beyond)
              (IsAwaited size)) (g.heard old) (g.heard mid) (g.heard new) deaf hears);
          time = came_time;
        }

-- How far a session has come, and how it ends from there.
use Rattle.std.proofs.Common.{◌≡◌, inl, inr, ⊎_elim, ℕ, ◌+◌, ◌<◌, ◌≤◌, min, Bool, true, false, cond}
use Rattle.std.proofs.Common.{nat_le, if◌then◌else◌, List, [], ◌∷◌, ◌++◌, Option, Some, None}
use Rattle.std.proofs.Common.{Result, length, take, codes, refl, sym, ◌∙◌, ap, subst, arith}
use Rattle.std.proofs.Common.{append_assoc}
use Rattle.std.proofs.lemmas.List.{append-nil, take_at, take-append-le, take_min}
use Rattle.std.proofs.lemmas.Bool.{cases_Bool}
use Rattle.std.proofs.Math.Seq.{take-append-add}
use Rattle.std.specs.List.{flat_map}
use Rattle.vab_disk.specs.Disk.{Image, SameHoldings, Adds, Nothing, Hearing}
use Rattle.vab_exchanges.specs.Hearing.{HearsWhere, IsHeardFor}
use Rattle.vab_exchanges.proofs.Listening.{hears_none, hears_same, hears_still, hears_then}
use Rattle.vab_exchanges.proofs.Listening.{hears_wider}
use Rattle.vab_disk.proofs.Moments.{adds_none, adds_on, adds_still, adds_wider}
use Rattle.vab_disk.specs.declared.disk.Disk.{Ghosts}
use Rattle.vab_fbproto.specs.Requests.{Asked, request_of}
use Rattle.vab_fbproto.specs.declared.request.BadCommand.{BadCommand}
use Rattle.vab_exchanges.specs.Session.{packet, ends_session, due_of, Exchange, spelled, Leaves}
use Rattle.vab_exchanges.specs.Session.{IsExchange, End, Closed, Rebooted, Cut, Stops, IsCutShort}
use Rattle.vab_exchanges.specs.Session.{IsUnfinished, IsRead, IsWaiting, IsAwaited, spent}
use Rattle.vab_exchanges.specs.Session.{BadHello, TooLong, Overrun, Spent, waits_behind}
use Rattle.vab_exchanges.specs.Reading.{EndsAs, IsBroken}
use Rattle.vab_exchanges.specs.Items.{Response, Kept, Item, data_text, asked_size, joined, item_of}
use Rattle.vab_exchanges.specs.Items.{item_open, behind, Machine, passed, item_behind, open_behind}
use Rattle.vab_exchanges.specs.Items.{items_of, kept_after, closing_of, final_of, output_of}
use Rattle.vab_disk.specs.Calls.{IsAtRest}
use Rattle.vab_model.specs.Effects.{last_of}
use Rattle.vab_exchanges.specs.Runs.{StandsForOne, CrashesWithin, LeavesItem, Passes, IsPrompt}
use Rattle.vab_exchanges.specs.Runs.{HearsData, Ran, Answers, FailsWhole, StartsAs, FailsOpen}
use Rattle.vab_exchanges.specs.Runs.{BreaksOff}
use Rattle.vab_exchanges.proofs.Packets.{AreBytes, later_byte, split_of, data_of, due_fits}
use Rattle.vab_exchanges.proofs.Choices.{chosen}
use Rattle.vab_exchanges.proofs.RunLaws.{HasAll, IsChain, closes, item_chain, open_chain}
use Rattle.vab_exchanges.proofs.RunLaws.{item_begins, open_begins, leaves_behind, behind_chain}
use Rattle.vab_exchanges.proofs.RunLaws.{chain_less, items_chain, passed_chain, items_append}
use Rattle.vab_exchanges.proofs.RunLaws.{items_last, after_append, joined_append, within_item}
use Rattle.vab_exchanges.proofs.RunLaws.{within_passing}

-- these exchanges are whole, and the session goes on behind them
abbrev pub AreDone : List Exchange → Type 0
AreDone [] = Unit {0}
AreDone (s ∷ ss) = IsExchange s × (ends_session s.command ≡ false) × AreDone ss

are_more : (ss : List Exchange) (s : Exchange)
    → AreDone ss
    → IsExchange s
    → ends_session s.command ≡ false
    → AreDone (ss ++ s ∷ [])
are_more [] s are one on = (one, on, tt)
are_more (t ∷ ts) s are one on = (are.0, are.1, are_more ts s are.2 one on)

spelled_more : (ss : List Exchange) (s : Exchange) (later : List ℕ)
    → flat_map spelled (ss ++ s ∷ []) ++ later ≡ flat_map spelled ss ++ (spelled s ++ later)
spelled_more [] s later = ap (λ (l : List ℕ). l ++ later) (append-nil (spelled s))
spelled_more (t ∷ ts) s later =
    append_assoc (spelled t) (flat_map spelled (ts ++ s ∷ [])) later
    ∙ ap (λ (l : List ℕ). spelled t ++ l) (spelled_more ts s later)
    ∙ sym (append_assoc (spelled t) (flat_map spelled ts) (spelled s ++ later))

read_on : (count : ℕ) (ss ts : List Exchange) (left : List ℕ) (u : Option (List ℕ)) (e : End)
    → AreDone ss
    → IsRead count left ts u e
    → IsRead count (flat_map spelled ss ++ left) (ss ++ ts) u e
read_on count [] ts left u e are read = read
read_on count (s ∷ ss) ts left u e are read = (
  flat_map spelled ss ++ left,
  append_assoc (spelled s) (flat_map spelled ss) left,
  are.0,
  inr (are.1, read_on count ss ts left u e are.2 read),
)

take_whole : (l : List ℕ) → take (length l) l ≡ l
take_whole l = ap (take (length l)) (sym (append-nil l)) ∙ take_at l [] (length l) refl

-- a front of what comes first is a front of all
front_of : (n : ℕ) (reply rest : List ℕ) → (m : ℕ) × (take n reply ≡ take m (reply ++ rest))
front_of n reply rest = (
  min n (length reply),
  sym (take-append-le (min n (length reply)) reply rest (omega arith) ∙ take_min n reply),
)

-- where a command is to come, and no whole packet has come
stop_here : (count : ℕ) (came : List ℕ)
    → IsCutShort 4096 came
    → (end : End) × Stops count came end × IsWaiting count end
stop_here count [] cut = (Closed, refl, inl refl)
stop_here count (x ∷ xs) cut = (Cut count, (refl, omega arith, cut), inr refl)

prompt_more : {S : Type 0} (machine : Machine S)
    (first : Kept S) (all more : List Exchange) (bytes told : List ℕ) (h : Hearing)
    → IsPrompt machine first all bytes told h
    → IsPrompt machine first (all ++ more) bytes told h
prompt_more machine first all more bytes told h p = record {
  came = p.came;
  is = p.is;
  exchanges = p.exchanges;
  others = p.others ++ more;
  first_ones =
      ap (λ (l : List Exchange). l ++ more) p.first_ones
      ∙ append_assoc p.exchanges p.others more;
  unfinished = p.unfinished;
  waits = p.waits;
  told_then = p.told_then;
}

-- ---- what is told of a download that is accepted begins with `DATA`

pub record Started {S : Type 0} (k : Kept S) (size : ℕ) (i : Item S) : Type 0 where
  pub more : List ℕ
  pub reply : i.reply ≡ packet (data_text size) ++ more
  pub steps : i.steps ≡ k.now ∷ []
  pub last : i.last.now ≡ k.now

pub started_by : {S : Type 0} (k : Kept S) (size : ℕ) (parts : List (List ℕ))
    → Started k size (chosen k size false false parts)
started_by k size parts =
    record { more = packet (codes "OKAY"); reply = refl; steps = refl; last = refl }

module _ {S D : Type 0} (effect : S → Option (List ℕ) → Result Asked BadCommand → Response S)
    (IsIn : S → Image → Type 0) (g : Ghosts D) where
  -- what only hears or tells leaves nothing pending
  pub still_settled : (old new : D)
      → g.seen new ≡ g.seen old
      → SameHoldings (g.may_leave old) (g.may_leave new)
      → IsAtRest g old
      → IsAtRest g new
  still_settled old new seen holds settled k b held =
      settled k b (holds.no_more k b held) ∙ ap (λ (x : Image). x k) (sym seen)

  pub opens : (k : Kept S) (command : List ℕ)
      → StartsAs effect IsIn g k command (item_open effect k command)
  unfolding item_open
  opens k command =
      record {
        more = [];
        reply = sym (append-nil (packet (data_text (asked_size (request_of command)))));
        steps = refl;
        last = refl;
      }

-- where a command packet is to come and none does, one is waited for
stops_wait : (count : ℕ) (rest : List ℕ) (end : End)
    → Stops count rest end
    → waits_behind end ≡ true
stops_wait count rest Closed stops = refl
stops_wait count rest (Cut at) stops = refl
stops_wait count rest (TooLong n) stops = refl
stops_wait count rest Rebooted stops = absurd stops
stops_wait count rest BadHello stops = absurd stops
stops_wait count rest (Overrun due came) stops = absurd stops
stops_wait count rest Spent stops = absurd stops

-- what is left is read so, where the device has gone on by itself
read_chain : {S : Type 0} (machine : Machine S) (k : Kept S) (count : ℕ) (bytes : List ℕ)
    (ss : List Exchange) (u : Option (List ℕ)) (end : End)
    → IsRead count bytes ss u end
    → IsChain (closing_of machine u (waits_behind end) (kept_after machine k ss)) k.now
    (machine.between k.now) (items_of machine k ss u)
read_chain machine k count bytes [] None end read =
    passed_chain machine (closing_of machine None (waits_behind end) k) k [] None
    (λ none none'. ap (λ b. closing_of machine None b k) (stops_wait count bytes end read))
read_chain machine k count bytes [] (Some p) end read =
    passed_chain machine (closing_of machine (Some p) (waits_behind end) k) k [] (Some p)
    (λ none some. let bad : None ≡ Some p = sym some in cc)
read_chain machine k count bytes (s ∷ ss) u end read =
    passed_chain machine
    (closing_of machine u (waits_behind end) (kept_after machine k (s ∷ ss))) k (s ∷ ss) u
    (λ some none. let bad : [] ≡ s ∷ ss = sym some in cc)

module _ {S D : Type 0} (machine : Machine S)
    (IsIn : S → Image → Type 0) (g : Ghosts D) where
  -- Some exchanges are answered, and the device has gone through these situations behind them; and
  -- whatever comes behind that, no cut of power left anything else.
  pub record Progress (bytes beyond : List ℕ) (first : Kept S) (told : List ℕ) (old now : D)
      (left : List ℕ) (here : List S) (kept : Kept S) : Type 0 where
    pub done : List Exchange
    pub are : AreDone done
    pub is : bytes ≡ flat_map spelled done ++ left
    pub kept_is : kept ≡ kept_after machine first done
    pub told_is : g.told now ≡ told ++ (codes "FB01" ++ joined (items_of machine first done None))
    pub stands : IsIn (last_of kept.now here) (g.seen now)
    pub settled : IsAtRest g old → IsAtRest g now
    pub heard : HearsWhere (IsPrompt machine first done (bytes ++ beyond) told) (g.heard old)
        (g.heard now)
    pub time : IsAtRest g old
        → (closing : List S)
        → (later : List (Item S))
        → IsChain closing kept.now here later
        → Adds g.moment g.outcomes old now
        (CrashesWithin IsIn (codes "FB01") first.now (items_of machine first done None ++ later)
        closing told)

  pub begun : (bytes beyond : List ℕ) (first : Kept S) (told : List ℕ) (old : D)
      → g.told old ≡ told ++ codes "FB01"
      → IsIn first.now (g.seen old)
      → Progress bytes beyond first told old old bytes [] first
  begun bytes beyond first told old greeted stands = record {
    done = [];
    are = tt;
    is = refl;
    kept_is = refl;
    told_is = greeted;
    stands = stands;
    settled = λ rest. rest;
    heard = hears_none (IsPrompt machine first [] (bytes ++ beyond) told) (g.heard old);
    time =
        λ rest closing later chain. adds_none g.moment g.outcomes old
        (CrashesWithin IsIn (codes "FB01") first.now later closing told);
  }

  module _ (bytes beyond : List ℕ) (first : Kept S) (told : List ℕ) (old mid : D) (left : List ℕ)
      (kept : Kept S) (so_far : Progress bytes beyond first told old mid left [] kept) where
    -- The device goes on by itself.
    passing : (now : D) (front : List S) (closing : List S) (later : List (Item S))
        → Passes IsIn g front kept.now mid now
        → IsChain closing kept.now front later
        → IsAtRest g old
        → Adds g.moment g.outcomes old now
        (CrashesWithin IsIn (codes "FB01") first.now
        (items_of machine first so_far.done None ++ later) closing told)
    passing now front closing later passes chain rest =
        let items = items_of machine first so_far.done None in
        adds_on g.moment g.outcomes old mid now
        (CrashesWithin IsIn (codes "FB01") first.now (items ++ later) closing told)
        (λ o. (o.told ≡ g.told mid) × StandsForOne IsIn (kept.now ∷ front) o.image)
        (so_far.time rest closing later (chain_less machine closing kept.now front later chain))
        (passes.time (so_far.settled rest))
        (λ o left.
        within_passing IsIn (codes "FB01") closing first.now items later kept.now front told o
        (items_last machine first so_far.done ∙ ap (λ (k : Kept S). k.now) (sym so_far.kept_is))
        chain (left.0 ∙ so_far.told_is) left.1)

    pub passed_on : (now : D) (front : List S)
        → Passes IsIn g front kept.now mid now
        → IsIn (last_of kept.now front) (g.seen now)
        → (IsAtRest g mid → IsAtRest g now)
        → Progress bytes beyond first told old now left front kept
    passed_on now front passes stands settled = record {
      done = so_far.done;
      are = so_far.are;
      is = so_far.is;
      kept_is = so_far.kept_is;
      told_is = passes.told ∙ so_far.told_is;
      stands = stands;
      settled = λ rest. settled (so_far.settled rest);
      heard =
          hears_still (IsPrompt machine first so_far.done (bytes ++ beyond) told) (g.heard old)
          (g.heard mid) (g.heard now) passes.heard so_far.heard;
      time = λ rest closing later chain. passing now front closing later passes chain rest;
    }

  module _ (bytes beyond : List ℕ) (first : Kept S) (told : List ℕ) (old mid : D) (left : List ℕ)
      (here : List S) (kept : Kept S)
      (so_far : Progress bytes beyond first told old mid left here kept) where
    -- a hearing between two exchanges
    listening : (h : Hearing)
        → IsHeardFor (g.told mid) (left ++ beyond) (IsCutShort 4096) h
        → IsPrompt machine first so_far.done (bytes ++ beyond) told h
    listening h hears =
        let before = flat_map spelled so_far.done in
        let came = hears.wants.came in
        record {
          came = before ++ came;
          is =
              ap (λ (l : List ℕ). l ++ beyond) so_far.is
              ∙ append_assoc before left beyond
              ∙ ap (λ (l : List ℕ). before ++ l) hears.wants.is
              ∙ sym (append_assoc before came h.input_left);
          exchanges = so_far.done;
          others = [];
          first_ones = sym (append-nil so_far.done);
          unfinished = None;
          waits = λ count.
              let stop = stop_here count came hears.wants.too_few in (
                stop.0,
                subst (λ (l : List Exchange). IsRead count (before ++ came) l None stop.0)
                    (append-nil so_far.done)
                    (read_on count so_far.done [] came None stop.0 so_far.are stop.1),
                stop.2,
              );
          told_then = hears.told_then ∙ so_far.told_is;
        }

    pub heard : (now : D)
        → g.told now ≡ g.told mid
        → g.seen now ≡ g.seen mid
        → SameHoldings (g.may_leave mid) (g.may_leave now)
        → HearsWhere (IsHeardFor (g.told mid) (left ++ beyond) (IsCutShort 4096)) (g.heard mid)
        (g.heard now)
        → Adds g.moment g.outcomes mid now Nothing
        → Progress bytes beyond first told old now left here kept
    heard now same seen holds hears time = record {
      done = so_far.done;
      are = so_far.are;
      is = so_far.is;
      kept_is = so_far.kept_is;
      told_is = same ∙ so_far.told_is;
      stands = subst (λ (x : Image). IsIn (last_of kept.now here) x) (sym seen) so_far.stands;
      settled = λ rest. still_settled machine.effect IsIn g mid now seen holds
          (so_far.settled rest);
      heard =
          hears_then (IsPrompt machine first so_far.done (bytes ++ beyond) told) (g.heard old)
          (g.heard mid) (g.heard now) so_far.heard
          (hears_wider (IsHeardFor (g.told mid) (left ++ beyond) (IsCutShort 4096))
          (IsPrompt machine first so_far.done (bytes ++ beyond) told) (g.heard mid) (g.heard now)
          listening hears);
      time =
          λ rest closing later chain. adds_still g.moment g.outcomes old mid now
          (CrashesWithin IsIn (codes "FB01") first.now
          (items_of machine first so_far.done None ++ later) closing told)
          (so_far.time rest closing later chain) time;
    }

    -- one item more is being answered
    during : (now : D) (i : Item S) (closing : List S) (js : List (Item S))
        → HasAll (kept.now ∷ here) i.steps
        → 0 < length i.reply
        → IsChain closing i.last.now [] js
        → (IsAtRest g mid → Adds g.moment g.outcomes mid now (LeavesItem IsIn (g.told mid) i))
        → IsAtRest g old
        → Adds g.moment g.outcomes old now
        (CrashesWithin IsIn (codes "FB01") first.now
        (items_of machine first so_far.done None ++ i ∷ js) closing told)
    during now i closing js all some chain time rest =
        adds_on g.moment g.outcomes old mid now
        (CrashesWithin IsIn (codes "FB01") first.now
        (items_of machine first so_far.done None ++ i ∷ js) closing told)
        (LeavesItem IsIn (g.told mid) i) (so_far.time rest closing (i ∷ js) (all, some, chain))
        (time (so_far.settled rest))
        (λ o leaves. within_item IsIn (codes "FB01") closing first.now
        (items_of machine first so_far.done None) js i told (g.told mid) chain so_far.told_is o
        leaves)

    -- the items of the whole session, where those behind what is done are known
    all_items : (ts : List Exchange) (u : Option (List ℕ))
        → items_of machine first (so_far.done ++ ts) u
        ≡ items_of machine first so_far.done None ++ items_of machine kept ts u
    all_items ts u =
        items_append machine first so_far.done ts u
        ∙ ap (λ (k : Kept S). items_of machine first so_far.done None ++ items_of machine k ts u)
        (sym so_far.kept_is)

    all_told : (ts : List Exchange) (u : Option (List ℕ))
        → output_of machine first (so_far.done ++ ts) u
        ≡ (codes "FB01" ++ joined (items_of machine first so_far.done None))
        ++ joined (items_of machine kept ts u)
    all_told ts u =
        ap (λ (l : List (Item S)). codes "FB01" ++ joined l) (all_items ts u)
        ∙ ap (λ (l : List ℕ). codes "FB01" ++ l)
        (joined_append IsIn (items_of machine first so_far.done None)
        (items_of machine kept ts u))
        ∙ sym
        (append_assoc (codes "FB01") (joined (items_of machine first so_far.done None))
        (joined (items_of machine kept ts u)))

    -- what is left was read so, and this was told of it
    finish : (Held : Type 0) (Says : End → Type 0) (reached : Option S) (count total most : ℕ)
        (now : D) (ts : List Exchange) (u : Option (List ℕ)) (end : End)
        → IsRead count left ts u end
        → Says (if nat_le most total then spent end else end)
        → (n : ℕ)
        → g.told now ≡ g.told mid ++ take n (joined (items_of machine kept ts u))
        → (Held → g.told now ≡ g.told mid ++ joined (items_of machine kept ts u))
        → ((s : S)
        → reached ≡ Some s
        → s ≡ final_of machine u (waits_behind end) (kept_after machine kept ts))
        → (Held
        → IsIn (final_of machine u (waits_behind end) (kept_after machine kept ts)) (g.seen now))
        → (Held → IsAtRest g mid → IsAtRest g now)
        → HearsWhere (IsPrompt machine first so_far.done (bytes ++ beyond) told) (g.heard mid)
        (g.heard now)
        →
        (IsAtRest g old
        → Adds g.moment g.outcomes old now
        (CrashesWithin IsIn (codes "FB01") first.now
        (items_of machine first so_far.done None ++ items_of machine kept ts u)
        (closing_of machine u (waits_behind end) (kept_after machine kept ts)) told))
        → Ran machine IsIn g Held Says reached count total most bytes beyond first told old now
    finish Held Says reached count total most now ts u end read says n front whole at stands
        settled hears time =
        let before = codes "FB01" ++ joined (items_of machine first so_far.done None) in
        let rest = joined (items_of machine kept ts u) in
        let after : kept_after machine kept ts ≡ kept_after machine first (so_far.done ++ ts) =
        ap (λ (k : Kept S). kept_after machine k ts) so_far.kept_is
        ∙ sym (after_append machine first so_far.done ts) in
        record {
          exchanges = so_far.done ++ ts;
          unfinished = u;
          end = end;
          read =
              subst (λ (l : List ℕ). IsRead count l (so_far.done ++ ts) u end) (sym so_far.is)
              (read_on count so_far.done ts left u end so_far.are read);
          ends = says;
          front = (
            length before + n,
            front
                ∙ ap (λ (l : List ℕ). l ++ take n rest) so_far.told_is
                ∙ append_assoc told before (take n rest)
                ∙ ap (λ (l : List ℕ). told ++ l)
                (sym
                (ap (take (length before + n)) (all_told ts u) ∙ take-append-add before rest n)),
          );
          whole =
              λ held. whole held
              ∙ ap (λ (l : List ℕ). l ++ rest) so_far.told_is
              ∙ append_assoc told before rest
              ∙ ap (λ (l : List ℕ). told ++ l) (sym (all_told ts u));
          reached =
              λ s is. at s is ∙ ap (final_of machine u (waits_behind end)) after;
          stands =
              λ held. subst
              (λ (k : Kept S). IsIn (final_of machine u (waits_behind end) k) (g.seen now))
              after (stands held);
          settled = λ held rest. settled held (so_far.settled rest);
          heard =
              hears_wider (IsPrompt machine first so_far.done (bytes ++ beyond) told)
              (IsPrompt machine first (so_far.done ++ ts) (bytes ++ beyond) told) (g.heard old)
              (g.heard now) (prompt_more machine first so_far.done ts (bytes ++ beyond) told)
              (hears_then (IsPrompt machine first so_far.done (bytes ++ beyond) told) (g.heard old)
              (g.heard mid) (g.heard now) so_far.heard hears);
          time =
              λ rest. subst
              (λ (x : List (Item S) × Kept S). Adds g.moment g.outcomes old now
              (CrashesWithin IsIn (codes "FB01") first.now x.0
              (closing_of machine u (waits_behind end) x.1) told))
              (λ i. (sym (all_items ts u) i, after i))
              (time rest);
        }

    -- ---- the device has gone on by itself

    module _ (gone : here ≡ machine.between kept.now) where
      -- what the device has gone through is in front of the next item
      all_of : (i : Item S)
          → HasAll (kept.now ∷ here) (behind kept.now (machine.between kept.now) i).steps
      all_of i =
          subst
          (λ (l : List S).
          HasAll (kept.now ∷ l) (behind kept.now (machine.between kept.now) i).steps)
          (sym gone) (behind_chain machine kept i)

      exchange_time : (s : Exchange) (now : D)
          → Adds g.moment g.outcomes mid now
          (LeavesItem IsIn (g.told mid) (item_of machine.effect (passed machine kept) s))
          → Adds g.moment g.outcomes mid now
          (LeavesItem IsIn (g.told mid) (item_behind machine kept s))
      exchange_time s now time =
          adds_wider g.moment g.outcomes mid now
          (LeavesItem IsIn (g.told mid) (item_of machine.effect (passed machine kept) s))
          (LeavesItem IsIn (g.told mid) (item_behind machine kept s)) time
          (leaves_behind IsIn (g.told mid) kept.now (machine.between kept.now)
          (item_of machine.effect (passed machine kept) s)
          (item_begins machine.effect (passed machine kept) s))

      open_time : (command : List ℕ) (now : D)
          → Adds g.moment g.outcomes mid now
          (LeavesItem IsIn (g.told mid) (item_open machine.effect (passed machine kept) command))
          → Adds g.moment g.outcomes mid now
          (LeavesItem IsIn (g.told mid) (open_behind machine kept command))
      open_time command now time =
          adds_wider g.moment g.outcomes mid now
          (LeavesItem IsIn (g.told mid) (item_open machine.effect (passed machine kept) command))
          (LeavesItem IsIn (g.told mid) (open_behind machine kept command)) time
          (leaves_behind IsIn (g.told mid) kept.now (machine.between kept.now)
          (item_open machine.effect (passed machine kept) command)
          (open_begins machine.effect (passed machine kept) command))

      -- nothing more is left
      pub stopped : (Held : Type 0) (reached : Option S) (count total most : ℕ) (end : End)
          → EndsAs (Stops count left) total most end
          → ((s : S) → reached ≡ Some s → s ≡ (passed machine kept).now)
          → Ran machine IsIn g Held (λ e. end ≡ e) reached count total most bytes beyond first told
          old mid
      stopped Held reached count total most end ends at =
          let waits = stops_wait count left ends.first ends.stops in
          let gone_on : machine.between kept.now
          ≡ closing_of machine None (waits_behind ends.first) kept =
          ap (λ b. closing_of machine None b kept) (sym waits) in
          let left_is : (passed machine kept).now
          ≡ final_of machine None (waits_behind ends.first) kept =
          ap (last_of kept.now) gone_on in
          finish Held (λ e. end ≡ e) reached count total most mid [] None ends.first ends.stops
          ends.is 0 (sym (append-nil (g.told mid))) (λ held. sym (append-nil (g.told mid)))
          (λ s is. at s is ∙ left_is)
          (λ held.
          subst (λ (x : S). IsIn x (g.seen mid))
          (ap (last_of kept.now) gone ∙ left_is) so_far.stands)
          (λ held rest. rest)
          (hears_none (IsPrompt machine first so_far.done (bytes ++ beyond) told) (g.heard mid))
          (λ rest.
          so_far.time rest (closing_of machine None (waits_behind ends.first) kept) []
          (subst
          (λ (l : List S).
          IsChain (closing_of machine None (waits_behind ends.first) kept) kept.now l [])
          (sym (gone ∙ gone_on)) (λ x at. at)))

      module _ (command before : List ℕ) (short : length command ≤ 4096)
          (is : left ≡ packet command ++ before) where
        exchange_is : (s : Exchange) (after : List ℕ)
            → s.command ≡ command
            → before ≡ flat_map packet s.parts ++ after
            → left ≡ spelled s ++ after
        exchange_is s after same behind =
            is
            ∙ (λ i. packet (sym same i) ++ behind i)
            ∙ sym (append_assoc (packet s.command) (flat_map packet s.parts) after)

        exchange_whole : (s : Exchange)
            → s.command ≡ command
            → Leaves (due_of s.refused s.command) s.parts 0
            → IsExchange s
        exchange_whole s same all =
            record { short = subst (λ (l : List ℕ). length l ≤ 4096) (sym same) short; all = all }

        -- a hearing while data are due
        within_data : (h : Hearing)
            → IsHeardFor (g.told mid
            ++ (item_open machine.effect (passed machine kept) command).reply) (before ++ beyond)
            (IsAwaited (due_of false command)) h
            → IsPrompt machine first so_far.done (bytes ++ beyond) told h
        within_data h hears =
            let done = flat_map spelled so_far.done in
            let awaited = hears.wants.too_few in
            let came = packet command ++ hears.wants.came in
            let reply = (item_open machine.effect (passed machine kept) command).reply in
            let before_it = codes "FB01" ++ joined (items_of machine first so_far.done None) in
            let there : left ++ beyond ≡ came ++ h.input_left =
            ap (λ (l : List ℕ). l ++ beyond) is
            ∙ append_assoc (packet command) before beyond
            ∙ ap (λ (l : List ℕ). packet command ++ l) hears.wants.is
            ∙ sym (append_assoc (packet command) hears.wants.came h.input_left) in
            let output : before_it ++ reply ≡ output_of machine first so_far.done (Some command) =
            ap (λ (l : List ℕ). before_it ++ l) (sym (append-nil reply))
            ∙ sym (all_told [] (Some command))
            ∙ ap (λ (l : List Exchange). output_of machine first l (Some command))
            (append-nil so_far.done) in
            let opened : (count : ℕ) → IsUnfinished count command came (Cut count) =
            λ count. record {
              parts = awaited.parts;
              rest = awaited.rest;
              still = awaited.still;
              is = ap (λ (l : List ℕ). packet command ++ l) awaited.is;
              short = short;
              some = awaited.some;
              leaves = awaited.leaves;
              breaks = (refl, awaited.cut);
            } in
            record {
              came = done ++ came;
              is =
                  ap (λ (l : List ℕ). l ++ beyond) so_far.is
                  ∙ append_assoc done left beyond
                  ∙ ap (λ (l : List ℕ). done ++ l) there
                  ∙ sym (append_assoc done came h.input_left);
              exchanges = so_far.done;
              others = [];
              first_ones = sym (append-nil so_far.done);
              unfinished = Some command;
              waits =
                  λ count. (
                    Cut count,
                    subst
                        (λ (l : List Exchange).
                        IsRead count (done ++ came) l (Some command) (Cut count))
                        (append-nil so_far.done)
                        (read_on count so_far.done [] came (Some command) (Cut count) so_far.are
                        (opened count)),
                    inr refl,
                  );
              told_then =
                  hears.told_then
                  ∙ ap (λ (l : List ℕ). l ++ reply) so_far.told_is
                  ∙ append_assoc told before_it reply
                  ∙ ap (λ (l : List ℕ). told ++ l) output;
            }

        data_heard : (now : D)
            → HearsData machine.effect IsIn g (passed machine kept) command (before ++ beyond) mid
            now
            → HearsWhere (IsPrompt machine first so_far.done (bytes ++ beyond) told) (g.heard mid)
            (g.heard now)
        data_heard now hears =
            hears_wider
            (IsHeardFor (g.told mid
            ++ (item_open machine.effect (passed machine kept) command).reply) (before ++ beyond)
            (IsAwaited (due_of false command)))
            (IsPrompt machine first so_far.done (bytes ++ beyond) told) (g.heard mid) (g.heard now)
            within_data hears

        -- the exchange is answered, and the session goes on
        pub answered : (after : List ℕ) (now : D) (k' : Kept S)
            → ends_session command ≡ false
            → Answers machine.effect IsIn g (passed machine kept) k' command before after beyond mid
            now
            → Progress bytes beyond first told old now after [] k'
        answered after now k' on a =
            let i = item_behind machine kept a.exchange in
            let items = items_of machine first so_far.done None in
            let all : items_of machine first (so_far.done ++ a.exchange ∷ []) None
            ≡ items ++ i ∷ [] =
            all_items (a.exchange ∷ []) None in
            record {
              done = so_far.done ++ a.exchange ∷ [];
              are =
                  are_more so_far.done a.exchange so_far.are
                  (exchange_whole a.exchange a.command_is a.all)
                  (ap ends_session a.command_is ∙ on);
              is =
                  so_far.is
                  ∙ ap (λ (l : List ℕ). flat_map spelled so_far.done ++ l)
                  (exchange_is a.exchange after a.command_is a.is)
                  ∙ sym (spelled_more so_far.done a.exchange after);
              kept_is =
                  a.kept
                  ∙ ap (λ (k : Kept S). (item_behind machine k a.exchange).last) so_far.kept_is
                  ∙ sym (after_append machine first so_far.done (a.exchange ∷ []));
              told_is =
                  a.told
                  ∙ ap (λ (l : List ℕ). l ++ i.reply) so_far.told_is
                  ∙ append_assoc told (codes "FB01" ++ joined items) i.reply
                  ∙ ap (λ (l : List ℕ). told ++ l)
                  (ap (λ (l : List ℕ). (codes "FB01" ++ joined items) ++ l)
                  (sym (append-nil i.reply))
                  ∙ sym (all_told (a.exchange ∷ []) None));
              stands = a.stands;
              settled = λ rest. a.settled (so_far.settled rest);
              heard =
                  hears_wider (IsPrompt machine first so_far.done (bytes ++ beyond) told)
                  (IsPrompt machine first (so_far.done ++ a.exchange ∷ []) (bytes ++ beyond) told)
                  (g.heard old) (g.heard now)
                  (prompt_more machine first so_far.done (a.exchange ∷ []) (bytes ++ beyond) told)
                  (hears_then (IsPrompt machine first so_far.done (bytes ++ beyond) told)
                  (g.heard old) (g.heard mid) (g.heard now) so_far.heard (data_heard now a.heard));
              time = λ rest closing later chain.
                  let first_of = item_chain machine.effect (passed machine kept) a.exchange in
                  let joined_later : items_of machine first (so_far.done ++ a.exchange ∷ []) None
                  ++ later
                  ≡ items ++ i ∷ later =
                  ap (λ (l : List (Item S)). l ++ later) all
                  ∙ append_assoc items (i ∷ []) later in
                  subst
                  (λ (l : List (Item S)). Adds g.moment g.outcomes old now
                  (CrashesWithin IsIn (codes "FB01") first.now l closing told)) (sym joined_later)
                  (during now i closing later
                  (all_of (item_of machine.effect (passed machine kept) a.exchange))
                  first_of.1
                  (subst (λ (k : Kept S). IsChain closing k.now [] later) a.kept chain)
                  (λ rests. exchange_time a.exchange now (a.time rests)) rest);
            }

        -- the exchange is answered, and the session ends behind it
        pub rebooted : (Held : Type 0) (reached : Option S) (count total most : ℕ) (after : List ℕ)
            (now : D) (k' : Kept S)
            → ends_session command ≡ true
            → Answers machine.effect IsIn g (passed machine kept) k' command before after beyond mid
            now
            → ((s : S) → reached ≡ Some s → s ≡ k'.now)
            → Ran machine IsIn g Held (λ e. Rebooted ≡ e) reached count total most bytes beyond
            first told old now
        rebooted Held reached count total most after now k' last a at =
            let i = item_behind machine kept a.exchange in
            let first_of = item_chain machine.effect (passed machine kept) a.exchange in
            let one : i.reply ≡ joined (items_of machine kept (a.exchange ∷ []) None) =
            sym (append-nil i.reply) in
            finish Held (λ e. Rebooted ≡ e) reached count total most now (a.exchange ∷ []) None
            Rebooted (
              after,
              exchange_is a.exchange after a.command_is a.is,
              exchange_whole a.exchange a.command_is a.all,
              inl (ap ends_session a.command_is ∙ last, (refl, refl, refl)),
            )
            (either (nat_le most total))
            (length (joined (items_of machine kept (a.exchange ∷ []) None)))
            (a.told
            ∙ ap (λ (l : List ℕ). g.told mid ++ l)
            (one ∙ sym (take_all_of (joined (items_of machine kept (a.exchange ∷ []) None)))))
            (λ held. a.told ∙ ap (λ (l : List ℕ). g.told mid ++ l) one)
            (λ s is. at s is ∙ ap (λ (k : Kept S). k.now) a.kept)
            (λ held. subst (λ (k : Kept S). IsIn k.now (g.seen now)) a.kept a.stands)
            (λ held. a.settled)
            (data_heard now a.heard)
            (during now i [] [] (all_of (item_of machine.effect (passed machine kept) a.exchange))
            first_of.1
            (closes [] i.last.now) (λ rests. exchange_time a.exchange now (a.time rests)))
          where
            either : (b : Bool) → Rebooted ≡ cond b Rebooted Rebooted
            either true = refl
            either false = refl

            take_all_of : (l : List ℕ) → take (length l) l ≡ l
            take_all_of l = ap (take (length l)) (sym (append-nil l)) ∙ take_at l [] (length l) refl

        -- the data of a download break off
        unfinished_is : (count : ℕ) (end : End)
            → IsBroken count (due_of false command) before end
            → IsUnfinished count command left end
        unfinished_is count end b = record {
          parts = b.parts;
          rest = b.rest;
          still = b.still;
          is = is ∙ ap (λ (l : List ℕ). packet command ++ l) b.is;
          short = short;
          some = b.some;
          leaves = b.leaves;
          breaks = b.breaks;
        }

        pub broke_off : (Held : Type 0) (count total most : ℕ) (end : End) (now : D)
            → BreaksOff machine.effect IsIn g (passed machine kept) command before beyond count
            total most end mid now
            → Ran machine IsIn g Held (λ e. end ≡ e) None count total most bytes beyond first told
            old now
        broke_off Held count total most end now b =
            let i = open_behind machine kept command in
            let first_of = open_chain machine.effect (passed machine kept) command in
            let one : i.reply ≡ joined (i ∷ []) = sym (append-nil i.reply) in
            finish Held (λ e. end ≡ e) None count total most now [] (Some command) b.ends.first
            (unfinished_is count b.ends.first b.ends.stops) b.ends.is
            (length (joined (i ∷ [])))
            (b.told
            ∙ ap (λ (l : List ℕ). g.told mid ++ l) (one ∙ sym (take_whole (joined (i ∷ [])))))
            (λ held. b.told ∙ ap (λ (l : List ℕ). g.told mid ++ l) one)
            (λ s is. cc)
            (λ held. b.stands) (λ held. b.settled)
            (data_heard now b.heard)
            (during now i [] [] (all_of (item_open machine.effect (passed machine kept) command))
            first_of.1
            (closes [] i.last.now) (λ rests. open_time command now (b.time rests)))

        -- the port failed while an exchange was answered
        pub failed_whole : (count total most : ℕ) (now : D)
            → AreBytes bytes
            → FailsWhole machine.effect IsIn g (passed machine kept) command before beyond mid now
            → Ran machine IsIn g ⊥ (λ e. Unit {0}) None count total most bytes beyond first told old
            now
        failed_whole count total most now bytes_are f =
            let i = item_behind machine kept f.exchange in
            let first_of = item_chain machine.effect (passed machine kept) f.exchange in
            let here = exchange_is f.exchange f.after f.command_is f.is in
            let whole = exchange_whole f.exchange f.command_is f.all in
            let after_are : AreBytes f.after =
            later_byte left (spelled f.exchange) f.after here
            (later_byte bytes (flat_map spelled so_far.done) left so_far.is bytes_are) in
            let front = front_of f.front.0 i.reply in
            ⊎_elim
            (λ last.
            finish ⊥ (λ e. Unit {0}) None count total most now (f.exchange ∷ []) None Rebooted
            (f.after, here, whole, inl (last, (refl, refl, refl))) tt
            (front []).0 (f.front.1 ∙ ap (λ (l : List ℕ). g.told mid ++ l) (front []).1)
            (λ held. absurd held) (λ s is. cc) (λ held. absurd held) (λ held. absurd held)
            (data_heard now f.heard)
            (during now i [] [] (all_of (item_of machine.effect (passed machine kept) f.exchange))
            first_of.1
            (closes [] i.last.now) (λ rests. exchange_time f.exchange now (f.time rests))))
            (λ on.
            let more =
            split_of (length f.after) count (λ k. false) 0 f.after (omega arith) after_are in
            let js = items_of machine i.last more.exchanges more.unfinished in
            let closing =
            closing_of machine more.unfinished (waits_behind more.end)
            (kept_after machine i.last more.exchanges) in
            finish ⊥ (λ e. Unit {0}) None count total most now (f.exchange ∷ more.exchanges)
            more.unfinished more.end (f.after, here, whole, inr (on, more.read)) tt
            (front (joined js)).0
            (f.front.1 ∙ ap (λ (l : List ℕ). g.told mid ++ l) (front (joined js)).1)
            (λ held. absurd held) (λ s is. cc) (λ held. absurd held) (λ held. absurd held)
            (data_heard now f.heard)
            (during now i closing js
            (all_of (item_of machine.effect (passed machine kept) f.exchange)) first_of.1
            (items_chain machine closing i.last more.exchanges more.unfinished)
            (λ rests. exchange_time f.exchange now (f.time rests))))
            (cases_Bool (ends_session f.exchange.command))

        pub failed_open : (count total most : ℕ) (now : D)
            → AreBytes bytes
            → FailsOpen machine.effect IsIn g (passed machine kept) command before beyond mid now
            → Ran machine IsIn g ⊥ (λ e. Unit {0}) None count total most bytes beyond first told old
            now
        failed_open count total most now bytes_are f =
            let before_are : AreBytes before =
            later_byte left (packet command) before is
            (later_byte bytes (flat_map spelled so_far.done) left so_far.is bytes_are) in
            let told_data = packet (data_text (asked_size (request_of command))) in
            ⊎_elim
            (λ came.
            let exchange : Exchange =
            record { command = command; refused = false; parts = came.parts } in
            let starts = f.starts came.parts in
            let front = front_of f.front.0 told_data starts.more in
            failed_whole count total most now bytes_are (record {
              exchange = exchange;
              after = came.later;
              command_is = refl;
              all = came.all;
              is = came.is;
              front = (
                front.0,
                f.front.1
                    ∙ ap (λ (l : List ℕ). g.told mid ++ l)
                    (front.1 ∙ ap (take front.0) (sym starts.reply)),
              );
              heard = f.heard;
              time = λ rest. f.time rest (item_of machine.effect (passed machine kept) exchange)
                  starts;
            }))
            (λ broken.
            let i = open_behind machine kept command in
            let first_of = open_chain machine.effect (passed machine kept) command in
            let starts = opens machine.effect IsIn g (passed machine kept) command in
            let front = front_of f.front.0 told_data starts.more in
            let one : i.reply ≡ joined (i ∷ []) = sym (append-nil i.reply) in
            finish ⊥ (λ e. Unit {0}) None count total most now [] (Some command) broken.end
            (unfinished_is count broken.end
            (record {
              parts = broken.parts;
              rest = broken.rest;
              still = broken.still;
              is = broken.is;
              some = broken.some;
              leaves = broken.leaves;
              breaks = broken.breaks;
            })) tt
            front.0
            (f.front.1
            ∙ ap (λ (l : List ℕ). g.told mid ++ l)
            (front.1 ∙ ap (take front.0) (sym starts.reply ∙ one))) (λ held. absurd held)
            (λ s is. cc) (λ held. absurd held) (λ held. absurd held)
            (data_heard now f.heard)
            (during now i [] [] (all_of (item_open machine.effect (passed machine kept) command))
            first_of.1
            (closes [] i.last.now)
            (λ rests.
            open_time command now
            (f.time rests (item_open machine.effect (passed machine kept) command) starts))))
            (data_of (length before) count (due_of false command) before (omega arith)
            (due_fits false command) before_are)

      -- the port failed while a command was heard
      pub failed_nowhere : (count total most : ℕ)
          → AreBytes bytes
          → Ran machine IsIn g ⊥ (λ e. Unit {0}) None count total most bytes beyond first told old
          mid
      failed_nowhere count total most bytes_are =
          let left_are : AreBytes left =
          later_byte bytes (flat_map spelled so_far.done) left so_far.is bytes_are in
          let more = split_of (length left) count (λ k. false) 0 left (omega arith) left_are in
          let closing =
          closing_of machine more.unfinished (waits_behind more.end)
          (kept_after machine kept more.exchanges) in
          finish ⊥ (λ e. Unit {0}) None count total most mid more.exchanges more.unfinished
          more.end more.read tt 0 (sym (append-nil (g.told mid))) (λ held. absurd held)
          (λ s is. cc) (λ held. absurd held) (λ held. absurd held)
          (hears_none (IsPrompt machine first so_far.done (bytes ++ beyond) told) (g.heard mid))
          (λ rest.
          so_far.time rest closing (items_of machine kept more.exchanges more.unfinished)
          (subst
          (λ (l : List S).
          IsChain closing kept.now l (items_of machine kept more.exchanges more.unfinished))
          (sym gone)
          (read_chain machine kept count left more.exchanges more.unfinished more.end more.read)))

  -- the disk failed while the device went on by itself
  pub failed_passing : (bytes beyond : List ℕ) (first : Kept S) (told : List ℕ) (old mid : D)
      (left : List ℕ) (kept : Kept S) (count total most : ℕ) (now : D)
      → Progress bytes beyond first told old mid left [] kept
      → AreBytes bytes
      → Passes IsIn g (machine.between kept.now) kept.now mid now
      → Ran machine IsIn g ⊥ (λ e. Unit {0}) None count total most bytes beyond first told old now
  failed_passing bytes beyond first told old mid left kept count total most now so_far bytes_are
      passes =
      let left_are : AreBytes left =
      later_byte bytes (flat_map spelled so_far.done) left so_far.is bytes_are in
      let more = split_of (length left) count (λ k. false) 0 left (omega arith) left_are in
      let closing =
      closing_of machine more.unfinished (waits_behind more.end)
      (kept_after machine kept more.exchanges) in
      finish bytes beyond first told old mid left [] kept so_far ⊥ (λ e. Unit {0}) None count total
      most now more.exchanges more.unfinished more.end more.read tt 0
      (passes.told ∙ sym (append-nil (g.told mid))) (λ held. absurd held)
      (λ s is. cc) (λ held. absurd held) (λ held. absurd held)
      (hears_same (IsPrompt machine first so_far.done (bytes ++ beyond) told) (g.heard mid)
      (g.heard now) passes.heard)
      (passing bytes beyond first told old mid left kept so_far now (machine.between kept.now)
      closing (items_of machine kept more.exchanges more.unfinished) passes
      (read_chain machine kept count left more.exchanges more.unfinished more.end more.read))

-- A whole session, from its hello on, and the choices that it shows.
use Rattle.std.proofs.Common.{append_assoc, IsTrue, ◌≡◌, inl, inr, ℕ, zero, suc, ◌+◌, ◌≤◌, min}
use Rattle.std.proofs.Common.{Bool, true, false, nat_le, if◌then◌else◌, List, [], ◌∷◌, ◌++◌, Option}
use Rattle.std.proofs.Common.{Some, None, length, take, drop, codes, refl, sym, ◌∙◌, ap, ◌&&◌, not}
use Rattle.std.proofs.Common.{cond, ◌<◌}
use Rattle.std.proofs.Common.{subst, arith, length-take, take-append-drop}
use Rattle.std.proofs.lemmas.Bool.Decides.{nat_tests}
use Rattle.std.proofs.lemmas.List.{take-append-le, take_min, take_at, append-nil}
use Rattle.vab_disk.specs.Disk.{Image, Outcome, Leaves, Adds, Hearing}
use Rattle.vab_disk.specs.Written.{same_image}
use Rattle.vab_disk.proofs.Moments.{adds_wider, adds_on, all_since}
use Rattle.vab_exchanges.specs.Hearing.{HearsWhere, IsHeardFor}
use Rattle.vab_exchanges.proofs.Listening.{hears_then, hears_wider}
use Rattle.vab_disk.specs.Port.{LeavesSaying}
use Rattle.vab_disk.specs.declared.disk.Disk.{Ghosts}
use Rattle.vab_fbtcp.specs.Hello.{is_hello}
use Rattle.vab_exchanges.specs.Session.{Exchange, End, Closed, Rebooted, BadHello, TooLong, Overrun}
use Rattle.vab_exchanges.specs.Session.{Cut, Spent, IsRead, Follows, HasNoHello, IsSession, spent}
use Rattle.vab_exchanges.specs.Session.{is_boot, waits_behind, waits_in}
use Rattle.vab_exchanges.specs.Reading.{EndsAs, IsFewerThan}
use Rattle.vab_exchanges.specs.Items.{Kept, Item, Machine, items_of, kept_after, closing_of}
use Rattle.vab_exchanges.specs.Items.{final_of, joined}
use Rattle.vab_disk.specs.Calls.{IsAtRest}
use Rattle.vab_exchanges.specs.Runs.{CrashesWithin, IsPrompt, IsTold, Ran, Serves}
use Rattle.vab_exchanges.proofs.RunLaws.{IsChain, closes, items_chain, within_greeting}
use Rattle.vab_exchanges.proofs.Packets.{AreBytes}
use Rattle.vab_exchanges.proofs.Sessions.{any_session, only_one}

-- the choices that exchanges show
abbrev pub choices_of : List Exchange → ℕ → Bool
choices_of [] k = false
choices_of (s ∷ ss) zero = s.refused
choices_of (s ∷ ss) (suc k) = choices_of ss k

follows_from : (ss : List Exchange) (u : Option (List ℕ)) (refused : ℕ → Bool) (k : ℕ)
    → ((i : ℕ) → choices_of ss i ≡ refused (i + k))
    → Follows refused k ss u
follows_from [] None refused k are = tt
follows_from [] (Some p) refused k are = ap refused (zero_add k) ∙ sym (are 0)
  where
    zero_add : (n : ℕ) → n ≡ 0 + n
    zero_add n = omega arith
follows_from (s ∷ ss) u refused k are = (
  are 0 ∙ ap refused (zero_add k),
  follows_from ss u refused (suc k) (λ i. are (suc i) ∙ ap refused (add_suc i k)),
)
  where
    zero_add : (n : ℕ) → 0 + n ≡ n
    zero_add n = omega arith

    add_suc : (i n : ℕ) → suc i + n ≡ i + suc n
    add_suc i n = omega arith

pub follows : (ss : List Exchange) (u : Option (List ℕ)) → Follows (choices_of ss) 0 ss u
follows ss u = follows_from ss u (choices_of ss) 0 (λ i. ap (choices_of ss) (add_zero i))
  where
    add_zero : (n : ℕ) → n ≡ n + 0
    add_zero n = omega arith

-- bytes that begin with a hello are longer than it
hello_long : (bytes : List ℕ) → is_hello (take 4 bytes) ≡ true → length (take 4 bytes) ≡ 4
hello_long bytes tested =
    let found : IsTrue (is_hello (take 4 bytes)) = tested in grind (arith, nat_tests)

-- all the input: the hello, the rest of what the session may have, and what it may not have
hello_apart : (most : ℕ) (input bytes beyond : List ℕ)
    → bytes ≡ drop 4 (take most input)
    → beyond ≡ drop most input
    → input ≡ take 4 (take most input) ++ (bytes ++ beyond)
hello_apart most input bytes beyond are are' =
    let heard = take most input in
    sym (take-append-drop most input)
    ∙ ap (λ (l : List ℕ). l ++ drop most input) (sym (take-append-drop 4 heard))
    ∙ append_assoc (take 4 heard) (drop 4 heard) (drop most input)
    ∙ (λ i. take 4 heard ++ (sym are i ++ sym are' i))

-- whether a command is waited for doesn't depend on how many bytes the session may have
spent_boots : (end : End) → is_boot (spent end) ≡ is_boot end
spent_boots Closed = refl
spent_boots Rebooted = refl
spent_boots BadHello = refl
spent_boots (TooLong n) = refl
spent_boots (Overrun due came) = refl
spent_boots (Cut at) = refl
spent_boots Spent = refl

same_waits : (end : End) (b : Bool) → waits_behind end ≡ waits_behind (cond b (spent end) end)
same_waits end false = refl
same_waits end true = ap not (sym (spent_boots end))

waits_there : (end : End) (b hello : Bool)
    → hello ≡ true
    → waits_behind end ≡ (hello && waits_behind (cond b (spent end) end))
waits_there end b true is = same_waits end b
waits_there end b false is = absurd (let bad : false ≡ true = is in cc)

-- where there is no hello, none is waited for
short_hello : (bytes : List ℕ) (b : Bool) → length bytes < 4 → is_hello (take 4 bytes) ≡ b → b
    ≡ false
short_hello bytes false few is = refl
short_hello bytes true few is =
    absurd (let long = hello_long bytes is in omega (arith, few, long, length-take 4 bytes))

no_wait : (bytes : List ℕ) (count : ℕ) (end : End) (b : Bool)
    → HasNoHello count bytes end
    → false ≡ (is_hello (take 4 bytes) && b)
no_wait bytes count (Cut at) b none =
    ap (λ (x : Bool). x && b) (sym (short_hello bytes (is_hello (take 4 bytes)) none.1 refl))
no_wait bytes count BadHello b none = ap (λ (x : Bool). x && b) (sym none.1)
no_wait bytes count Closed b none = absurd none
no_wait bytes count Rebooted b none = absurd none
no_wait bytes count (TooLong n) b none = absurd none
no_wait bytes count (Overrun due came) b none = absurd none
no_wait bytes count Spent b none = absurd none

module _ {S : Type 0} (machine : Machine S) where
  -- a hearing before the hello has come
  pub told_early : (first : Kept S) (all : List Exchange) (input told : List ℕ) (h : Hearing)
      → IsHeardFor (told ++ codes "FB01") input (IsFewerThan 4) h
      → IsTold machine first all input told h
  told_early first all input told h hears = record {
    came = hears.wants.came;
    is = hears.wants.is;
    exchanges = [];
    others = all;
    first_ones = refl;
    unfinished = None;
    end = Cut (length hears.wants.came);
    reads = inr (refl, refl, (refl, hears.wants.too_few));
    waits = inr refl;
    told_then = hears.told_then;
  }

  -- a hearing behind it
  pub told_later : (most : ℕ) (first : Kept S) (all : List Exchange)
      (input bytes beyond told : List ℕ) (h : Hearing)
      → is_hello (take 4 (take most input)) ≡ true
      → bytes ≡ drop 4 (take most input)
      → beyond ≡ drop most input
      → IsPrompt machine first all (bytes ++ beyond) told h → IsTold machine first all input told h
  told_later most first all input bytes beyond told h hello are are' p =
      let front = take 4 (take most input) in
      let came = front ++ p.came in
      let at : take 4 came ≡ front = take_at front p.came 4 (hello_long (take most input) hello) in
      let stop = p.waits (length came) in
      record {
        came = came;
        is =
            hello_apart most input bytes beyond are are'
            ∙ ap (λ (l : List ℕ). front ++ l) p.is
            ∙ sym (append_assoc front p.came h.input_left);
        exchanges = p.exchanges;
        others = p.others;
        first_ones = p.first_ones;
        unfinished = p.unfinished;
        end = stop.0;
        reads = inl (record {
          hello = ap is_hello at ∙ hello;
          later = p.came;
          whole = ap (λ (l : List ℕ). l ++ p.came) (sym at);
          read = stop.1;
        });
        waits = stop.2;
        told_then = p.told_then;
      }

module _ {S D : Type 0} (machine : Machine S)
    (IsIn : S → Image → Type 0) (g : Ghosts D)
    (only_now : (d : D) (o : Outcome)
    → g.outcomes d (g.moment d) o
    → Leaves (g.told d) (g.may_leave d) o) where
  -- what is said of the time since is said of each cut since
  every_one : (closing : List S) (first : S) (items : List (Item S)) (old new : D)
      → IsIn first (g.seen old)
      → IsChain closing first [] items
      →
      (IsAtRest g old
      → Adds g.moment g.outcomes old new
      (CrashesWithin IsIn (codes "FB01") first items closing (g.told old)))
      → IsAtRest g old
      → (o : Outcome)
      → g.outcomes new (g.moment old) o
      → CrashesWithin IsIn (codes "FB01") first items closing (g.told old) o
  every_one closing first items old new stands chain time rest o out =
      all_since g.moment g.outcomes old new
      (CrashesWithin IsIn (codes "FB01") first items closing (g.told old))
      (Leaves (g.told old) (g.may_leave old)) (time rest) (only_now old)
      (λ o leaves. within_greeting IsIn (codes "FB01") closing first items (g.told old) o 0 chain
      (omega arith) (leaves.told_so_far ∙ sym (append-nil (g.told old)))
      (subst (λ (image : Image). IsIn first image)
      (sym (same_image o.image (g.seen old) (λ s. rest s (o.image s) (leaves.each_sector s))))
      stands))
      o out

  -- while nothing but the greeting is told, and nothing more is done
  abbrev pub Begins : Kept S → (old mid : D) → Type 0
  Begins first old mid =
      IsAtRest g old
      → (closing : List S)
      → (later : List (Item S))
      → IsChain closing first.now [] later
      → Adds g.moment g.outcomes old mid
      (CrashesWithin IsIn (codes "FB01") first.now later closing (g.told old))

  -- the exchanges behind the hello were answered
  pub served : (Held : Type 0) (Says : End → Type 0) (left : Option S) (count total most : ℕ)
      (bytes beyond : List ℕ) (first : Kept S) (old mid new : D)
      → IsIn first.now (g.seen old)
      → is_hello (take 4 (take most (g.input_left old))) ≡ true
      → count ≡ min most (length (g.input_left old))
      → total ≡ length (g.input_left old)
      → bytes ≡ drop 4 (take most (g.input_left old))
      → beyond ≡ drop most (g.input_left old)
      → HearsWhere (IsHeardFor (g.told old ++ codes "FB01") (g.input_left old) (IsFewerThan 4))
      (g.heard old) (g.heard mid)
      → Begins first old mid
      → (IsAtRest g old → IsAtRest g mid)
      → Ran machine IsIn g Held Says left count total most bytes beyond first (g.told old) mid new
      → Serves machine IsIn g Held Says left most first old new
  served Held Says left count total most bytes beyond first old mid new there hello counted sum
      are are' hears time rests r =
      let input = g.input_left old in
      let heard = take most input in
      let session : IsSession most (choices_of r.exchanges) input r.exchanges r.unfinished
      (if nat_le most (length input) then spent r.end else r.end) =
      record {
        first = r.end;
        reads = inl (record {
          hello = hello;
          later = drop 4 heard;
          whole = sym (take-append-drop 4 heard);
          read =
              subst (λ (n : ℕ). IsRead n (drop 4 heard) r.exchanges r.unfinished r.end)
              (counted ∙ sym (length-take most input))
              (subst (λ (l : List ℕ). IsRead count l r.exchanges r.unfinished r.end) are r.read);
        });
        follows = follows r.exchanges r.unfinished;
        ends = refl;
      } in
      let items = items_of machine first r.exchanges r.unfinished in
      let after = kept_after machine first r.exchanges in
      let end = if nat_le most (length input) then spent r.end else r.end in
      let waits : waits_behind r.end ≡ waits_in most input end =
      waits_there r.end (nat_le most (length input))
      (is_hello (take 4 (take most input))) hello in
      let closing = closing_of machine r.unfinished (waits_in most input end) after in
      let P = CrashesWithin IsIn (codes "FB01") first.now items closing (g.told old) in
      let within : IsAtRest g old → Adds g.moment g.outcomes old new P =
      λ rest. adds_on g.moment g.outcomes old mid new P P
      (time rest closing items (items_chain machine closing first r.exchanges r.unfinished))
      (subst
      (λ b. Adds g.moment g.outcomes mid new
      (CrashesWithin IsIn (codes "FB01") first.now items (closing_of machine r.unfinished b after)
      (g.told old)))
      waits (r.time (rests rest))) (λ o w. w) in
      record {
        refused = choices_of r.exchanges;
        exchanges = r.exchanges;
        unfinished = r.unfinished;
        end = if nat_le most (length input) then spent r.end else r.end;
        session = session;
        only =
            λ others v other is. only_one most (choices_of r.exchanges) input others r.exchanges
            v r.unfinished other (if nat_le most (length input) then spent r.end else r.end) is
            session;
        ends = subst (λ (n : ℕ). Says (if nat_le most n then spent r.end else r.end)) sum r.ends;
        front = r.front;
        whole = r.whole;
        reached = λ s is.
            r.reached s is ∙ ap (λ b. final_of machine r.unfinished b after) waits;
        stands = λ held.
            subst (λ b. IsIn (final_of machine r.unfinished b after) (g.seen new)) waits
            (r.stands held);
        settled = λ held rest. r.settled held (rests rest);
        heard =
            hears_then (IsTold machine first r.exchanges input (g.told old)) (g.heard old)
            (g.heard mid) (g.heard new)
            (hears_wider (IsHeardFor (g.told old ++ codes "FB01") input (IsFewerThan 4))
            (IsTold machine first r.exchanges input (g.told old)) (g.heard old) (g.heard mid)
            (told_early machine first r.exchanges input (g.told old)) hears)
            (hears_wider (IsPrompt machine first r.exchanges (bytes ++ beyond) (g.told old))
            (IsTold machine first r.exchanges input (g.told old)) (g.heard mid) (g.heard new)
            (λ h p. told_later machine most first r.exchanges input bytes beyond (g.told old) h
            hello are are' p) r.heard);
        time = within;
        every_cut =
            every_one closing first.now items old new there
            (items_chain machine closing first r.exchanges r.unfinished) within;
      }

  -- there is no hello
  pub stopped_early : (Held : Type 0) (left : Option S) (most : ℕ) (first : Kept S) (old new : D)
      (end : End)
      → EndsAs
      (HasNoHello (length (take most (g.input_left old))) (take most (g.input_left old)))
      (length (g.input_left old)) most end
      → ((s : S) → left ≡ Some s → s ≡ first.now)
      → g.told new ≡ g.told old ++ codes "FB01"
      → IsIn first.now (g.seen old)
      → IsIn first.now (g.seen new)
      → HearsWhere
      (IsHeardFor (g.told old ++ codes "FB01") (g.input_left old) (IsFewerThan 4))
      (g.heard old) (g.heard new)
      → (IsAtRest g old → IsAtRest g new)
      → Begins first old new
      → Serves machine IsIn g Held (λ e. end ≡ e) left most first old new
  stopped_early Held left most first old new end ends at told there stands hears rests time =
      let input = g.input_left old in
      let session : IsSession most (λ k. false) input [] None end =
      record {
        first = ends.first;
        reads = inr (refl, refl, ends.stops);
        follows = tt;
        ends = ends.is;
      } in
      let none : false ≡ waits_in most input end =
      no_wait (take most input) (length (take most input)) ends.first (not (is_boot end))
      ends.stops in
      let closing = closing_of machine None (waits_in most input end) first in
      let within : IsAtRest g old
      → Adds g.moment g.outcomes old new
      (CrashesWithin IsIn (codes "FB01") first.now [] closing (g.told old)) =
      λ rest. time rest closing [] (closes closing first.now) in
      record {
        refused = λ k. false;
        exchanges = [];
        unfinished = None;
        end = end;
        session = session;
        only =
            λ others v other is. only_one most (λ k. false) (g.input_left old) others [] v None
            other end is session;
        ends = refl;
        front = (4, told);
        whole = λ held. told;
        reached = λ s is. at s is ∙ ap (λ b. final_of machine None b first) none;
        stands = λ held.
            subst (λ b. IsIn (final_of machine None b first) (g.seen new)) none stands;
        settled = λ held. rests;
        heard =
            hears_wider
            (IsHeardFor (g.told old ++ codes "FB01") (g.input_left old) (IsFewerThan 4))
            (IsTold machine first [] (g.input_left old) (g.told old)) (g.heard old) (g.heard new)
            (told_early machine first [] (g.input_left old) (g.told old)) hears;
        time = within;
        every_cut =
            every_one closing first.now [] old new there (closes closing first.now) within;
      }

  -- the port failed before the first exchange
  pub failed_early : (most : ℕ) (first : Kept S) (old new : D)
      → AreBytes (g.input_left old)
      → (n : ℕ) × (g.told new ≡ g.told old ++ take n (codes "FB01"))
      → IsIn first.now (g.seen old)
      → HearsWhere (IsHeardFor (g.told old ++ codes "FB01") (g.input_left old) (IsFewerThan 4))
      (g.heard old) (g.heard new)
      → Begins first old new
      → Serves machine IsIn g ⊥ (λ e. Unit {0}) None most first old new
  failed_early most first old new are front there hears time =
      let any = any_session most (λ k. false) (g.input_left old) are in
      let n = min front.0 4 in
      let fits : n ≤ length (codes "FB01") = omega arith in
      let items = items_of machine first any.exchanges any.unfinished in
      let closing =
      closing_of machine any.unfinished (waits_in most (g.input_left old) any.end)
      (kept_after machine first any.exchanges) in
      let chain = items_chain machine closing first any.exchanges any.unfinished in
      record {
        refused = λ k. false;
        exchanges = any.exchanges;
        unfinished = any.unfinished;
        end = any.end;
        session = any.session;
        only =
            λ others v other is. only_one most (λ k. false) (g.input_left old) others
            any.exchanges v any.unfinished other any.end is any.session;
        ends = tt;
        front = (
          n,
          front.1
              ∙ ap (λ (l : List ℕ). g.told old ++ l)
              (sym (take_min front.0 (codes "FB01"))
              ∙ sym
              (take-append-le n (codes "FB01")
              (joined (items_of machine first any.exchanges any.unfinished)) fits)),
        );
        whole = λ held. absurd held;
        reached = λ s is. cc;
        stands = λ held. absurd held;
        settled = λ held. absurd held;
        heard =
            hears_wider
            (IsHeardFor (g.told old ++ codes "FB01") (g.input_left old) (IsFewerThan 4))
            (IsTold machine first any.exchanges (g.input_left old) (g.told old)) (g.heard old)
            (g.heard new) (told_early machine first any.exchanges (g.input_left old) (g.told old))
            hears;
        time = λ rest. time rest closing items chain;
        every_cut =
            every_one closing first.now items old new there chain
            (λ rest. time rest closing items chain);
      }

  -- while the greeting is told
  pub greeting : (old mid : D) (first : Kept S)
      → IsIn first.now (g.seen old)
      → Adds g.moment g.outcomes old mid
      (LeavesSaying (g.told old) (codes "FB01") (g.may_leave old))
      → Begins first old mid
  greeting old mid first stands time rest closing later chain =
      adds_wider g.moment g.outcomes old mid
      (LeavesSaying (g.told old) (codes "FB01") (g.may_leave old))
      (CrashesWithin IsIn (codes "FB01") first.now later closing (g.told old)) time
      (λ o leaves.
      let n = leaves.front.0 in
      within_greeting IsIn (codes "FB01") closing first.now later (g.told old) o (min n 4) chain
      (omega arith)
      (leaves.front.1 ∙ ap (λ (l : List ℕ). g.told old ++ l) (sym (take_min n (codes "FB01"))))
      (subst (λ (image : Image). IsIn first.now image)
      (sym (same_image o.image (g.seen old) (λ s. rest s (o.image s) (leaves.each_sector s))))
      stands))

-- While a merge is under way no command begins or ends an installation, or wipes a slot, and each
-- turn that was asked for is taken: so at some moment it has ended.
use Rattle.std.proofs.Common.{◌≡◌, ◌⊎◌, inl, inr, ℕ, zero, suc, ◌+◌, ◌<◌, ◌≤◌, Bool, true}
use Rattle.std.proofs.Common.{false, cond, List, [], ◌∷◌, ◌++◌, length, take, drop, Option, Some}
use Rattle.std.proofs.Common.{None, Result, Ok, refl, sym, ap, subst, arith, add-zero}
use Rattle.std.proofs.lemmas.Bool.{cases_Bool}
use Rattle.std.specs.List.{flat_map}
use Rattle.vab_layout.specs.Slots.{other_slot}
use Rattle.vab_set.specs.declared.set.SetImage.{SetImage}
use Rattle.vab_model.specs.declared.state.Image.{Image as ImageOfSlot}
use Rattle.vab_model.specs.declared.state.Phase.{Phase}
use Rattle.vab_model.specs.declared.state.Phase.TheVariants.{Idle, Installing, Staged, Merging}
use Rattle.vab_model.specs.declared.command.Refusal.TheVariants.{NotIdle}
use Rattle.vab_model.specs.Commands.{Command, Begin, Factory, Finish, SetActive, Merge, UpdateSuper}
use Rattle.vab_model.specs.Effects.{Effect, IsOneOf, refuses, if_plain, last_of, after_of}
use Rattle.vab_model.specs.Kinds.{is_of_installation, ends_alone, turns_of}
use Rattle.vab_device.specs.Mounted.{Mounted}
use Rattle.vab_device.specs.Updates.{effect_on, begin_effect, finish_effect, update_super}
use Rattle.vab_fbproto.specs.Requests.{Asked, Do}
use Rattle.vab_fbproto.specs.Requests.{request_of}
use Rattle.vab_fbproto.specs.declared.request.BadCommand.{BadCommand}
use Rattle.vab_exchanges.specs.Session.{Exchange}
use Rattle.vab_exchanges.specs.Items.{Response, Kept, Item, item_by, item_of, item_open, items_of}
use Rattle.vab_exchanges.specs.Items.{item_asked, kept_after, unless_refused, no_memory, later_of}
use Rattle.vab_exchanges.specs.Items.{passed, item_behind, open_behind, closing_of}
use Rattle.vab_exchanges.proofs.RunLaws.{item_begins, open_begins}
use Rattle.vab_exchanges.specs.Runs.{steps_at}
use Rattle.vab_session.specs.Alone.{IsAlone}
use Rattle.vab_session.specs.Responses.{response, turns_between, machine}
use Rattle.vab_session.specs.Served.{nothing_staged}
use Rattle.vab_session.proofs.AloneLaws.{asks_end, alone_effect, last_alone, item_alone}
use Rattle.vab_session.proofs.OverlayLaws.{if_either}
use Rattle.vab_session.proofs.WipeLaws.{wipe_refused}
use Rattle.vab_update.specs.Install.{image_orders, order}
use Rattle.vab_update.specs.Orders.{Order, effect_all, followed}
use Rattle.vab_cli.specs.Acts.{Act, course}
use Rattle.vab_cli.specs.Acts as acts
use Rattle.vab_cli.specs.Codes.{reply_status}
use Rattle.vab_cli.specs.Demo.{update_acts}
use Rattle.vab_update.specs.Install.{install_effect}
use Rattle.vab_cli.specs.Installing.{install_item, left_behind}
use Rattle.vab_cli.specs.Verbs.{line_item, verb_item}
use Rattle.vab_rounds.specs.Rounds.{Run, Serves, Carries, Installs, Tells, Lives, items_in}
use Rattle.vab_rounds.specs.Rounds.{closing_in}
use Rattle.vab_rounds.specs.Folds.{Cut, after_items, after_cut}
use Rattle.vab_rounds.specs.Merges.{asks_update, turns_before, turns_asked, turns_in, turns_by}
use Rattle.vab_rounds.specs.Merges.{turns_done}
use Rattle.vab_rounds.specs.Merges.{turns_by_all, IsMerged}
use Rattle.vab_rounds.specs.Ended.{IsMoment, turns_behind, front_in, EndsIn, HasEnded}
use Rattle.vab_rounds.proofs.Folding.{last_taken}
use Rattle.vab_rounds.proofs.Merging.{IsDue, command_steps, command_last, exchange_due, less_due}
use Rattle.vab_rounds.proofs.Merging.{before_last, passed_alone}

-- ---- what begins or ends an installation, or wipes a slot, does nothing while a merge goes on

abbrev IsUnderWay : Phase → Type 0
IsUnderWay (Merging target still) = Unit {0}
IsUnderWay _ = ⊥

begin_refused : (m : Mounted) (apart : Bool) (phase : Phase)
    → IsUnderWay phase
    → begin_effect m apart phase ≡ refuses NotIdle
begin_refused m apart (Merging target still) is = refl
begin_refused m apart _ is = absurd is

-- with an overlay it is refused so too
plain_refused : (m : Mounted) (apart : Bool)
    → IsUnderWay m.state.phase
    → if_plain m.state.overlay (begin_effect m apart m.state.phase) ≡ refuses NotIdle
plain_refused m apart is =
    let e : Effect Mounted = begin_effect m apart m.state.phase in
    if_either (λ (f : Effect Mounted). f ≡ refuses NotIdle) m.state.overlay e refl
    (begin_refused m apart m.state.phase is)

finish_none : (m : Mounted) (phase : Phase) → IsUnderWay phase → (finish_effect m phase).later ≡ []
finish_none m (Merging target still) is = refl
finish_none m _ is = absurd is

not_idle : (phase : Phase) → IsUnderWay phase → phase ≡ Idle → ⊥
not_idle phase is idle = subst IsUnderWay idle is

-- these are refused then
abbrev is_refused : Command → Bool
is_refused UpdateSuper = true
is_refused c = is_of_installation c

refused_none : (m : Mounted) (staged : Option (List ℕ)) (c : Command)
    → is_refused c ≡ true
    → IsUnderWay m.state.phase
    → (effect_on m staged c).later ≡ []
refused_none m staged Begin of is =
    ap (λ (e : Effect Mounted). e.later) (plain_refused m false is)
refused_none m staged Factory of is =
    ap (λ (e : Effect Mounted). e.later) (plain_refused m true is)
refused_none m staged Finish of is = finish_none m m.state.phase is
refused_none m staged UpdateSuper of is =
    let slot : ℕ = m.state.control.current in
    if_either (λ e. e.later ≡ []) m.state.overlay (update_super m slot staged m.state.phase) refl
    (wipe_refused m slot staged m.state.phase (not_idle m.state.phase is))
refused_none m staged _ of is = absurd cc

no_turns : (c : Command) → is_refused c ≡ true → turns_of c ≡ 0
no_turns Begin of = refl
no_turns Factory of = refl
no_turns Finish of = refl
no_turns UpdateSuper of = refl
no_turns _ of = absurd cc

-- the others neither begin nor end an installation, nor wipe a slot
begins_nothing : (c : Command) → is_refused c ≡ false → is_of_installation c ≡ false
begins_nothing UpdateSuper other = refl
begins_nothing _ other = other

ends_nothing : (c : Command) → is_refused c ≡ false → ends_alone c ≡ false
ends_nothing UpdateSuper other = other
ends_nothing Finish other = other
ends_nothing _ other = refl

-- the same of packets
abbrev asks_refused : Result Asked BadCommand → Bool
asks_refused (Ok (Do command)) = is_refused command
asks_refused _ = false

asks_no_update : (asks : Result Asked BadCommand)
    → asks_refused asks ≡ false
    → asks_update asks ≡ false
asks_no_update (Ok (Do c)) other = begins_nothing c other
asks_no_update _ other = refl

asks_no_end : (asks : Result Asked BadCommand)
    → asks_refused asks ≡ false
    → asks_end asks ≡ false
asks_no_end (Ok (Do c)) other = ends_nothing c other
asks_no_end _ other = refl

-- a set isn't installed
install_refused : (m : Mounted) (set : List SetImage)
    → IsUnderWay m.state.phase
    → install_effect m set ≡ refuses NotIdle
unfolding effect_all
install_refused m set is =
    let source : ℕ = m.state.control.current in
    let rest : List Order =
    flat_map (image_orders source) set
    ++ order Finish
    ∷ order (SetActive (other_slot source))
    ∷ [] in
    ap (λ (e : Effect Mounted). followed e (effect_all rest (after_of m e)))
    (plain_refused m false is)

-- and a life ends there
life_items : (m : Mounted) (made : List ℕ) (next : List SetImage)
    → IsUnderWay m.state.phase
    → items_in m (Lives made next) ≡ line_item m made ∷ install_item m next ∷ []
unfolding course
life_items m made next is =
    let left : ℕ = left_behind m next in
    let rest : List Act = drop 1 (update_acts next left) in
    ap (λ (e : Effect Mounted).
    line_item m made
    ∷ (acts.followed (install_item m next) (reply_status e.reply)
    (course rest (install_item m next).last.now)).items)
    (install_refused m next is)

-- ---- items

after_none : (m : Mounted) (items : List (Item Mounted)) → after_items m items 0 ≡ m
after_none m [] = refl
after_none m (i ∷ is) = refl

module _ (target : ℕ) (images : List ImageOfSlot) (left : ℕ) where
  -- so many turns were asked for, and the blocks that are left fit beside them
  abbrev IsLeft : ℕ → Phase → Type 0
  IsLeft asked (Merging slot still) = still + asked ≤ left
  IsLeft asked _ = ⊥

  -- the merge is under way
  record Merges (asked : ℕ) (m : Mounted) : Type 0 where
    alone : IsAlone target images m
    still : IsLeft asked m.state.phase

  -- it is, or has ended
  record Goes (asked : ℕ) (m : Mounted) : Type 0 where
    alone : IsAlone target images m
    due : IsDue left asked m.state.phase

  left_due : (asked : ℕ) (phase : Phase) → IsLeft asked phase → IsDue left asked phase
  left_due asked (Merging slot still) is = is
  left_due asked _ is = absurd is

  under_way : (asked : ℕ) (phase : Phase) → IsLeft asked phase → IsUnderWay phase
  under_way asked (Merging slot still) is = tt
  under_way asked _ is = absurd is

  goes : (asked : ℕ) (m : Mounted) → Merges asked m → Goes asked m
  goes asked m is =
      record { alone = is.alone; due = left_due asked m.state.phase is.still }

  -- which of both
  either : (asked : ℕ) (m : Mounted) (phase : Phase)
      → m.state.phase ≡ phase
      → Goes asked m
      → IsMerged target images m ⊎ Merges asked m
  either asked m Idle at is = inl (record { idle = at; alone = is.alone })
  either asked m (Installing source plan) at is =
      absurd (subst (IsDue left asked) at is.due)
  either asked m (Staged source still) at is =
      absurd (subst (IsDue left asked) at is.due)
  either asked m (Merging slot still) at is = inr (record {
    alone = is.alone;
    still = subst (IsLeft asked) (sym at) (subst (IsDue left asked) at is.due);
  })

  either_of : (asked : ℕ) (m : Mounted) → Goes asked m → IsMerged target images m ⊎ Merges asked m
  either_of asked m is = either asked m m.state.phase refl is

  too_many : (asked : ℕ) (phase : Phase) → IsLeft asked phase → left < asked → ⊥
  too_many asked (Merging slot still) is many = omega (arith, is, many)
  too_many asked _ is many = is

  merges_at : (n k : ℕ) (m : Mounted) → n ≡ k → Merges n m → Merges k m
  merges_at n k m same is = subst (λ (j : ℕ). Merges j m) same is

  goes_at : (n k : ℕ) (m : Mounted) → n ≡ k → Goes n m → Goes k m
  goes_at n k m same is = subst (λ (j : ℕ). Goes j m) same is

  merges_plain : (asked : ℕ) (m : Mounted) → Merges asked m → Merges (asked + 0) m
  merges_plain asked m is = merges_at asked (asked + 0) m (sym (add-zero asked)) is

  goes_plain : (asked : ℕ) (m : Mounted) → Goes asked m → Goes (asked + 0) m
  goes_plain asked m is = goes_at asked (asked + 0) m (sym (add-zero asked)) is

  abbrev AllGo : ℕ → List Mounted → Type 0
  AllGo asked ms = (x : Mounted) → IsOneOf ms x → Goes asked x

  none_go : (asked : ℕ) (m : Mounted) (ms : List Mounted)
      → ms ≡ []
      → Goes asked m
      → AllGo asked (m ∷ ms)
  none_go asked m ms none is x (inl here) = subst (Goes asked) (sym here) is
  none_go asked m ms none is x (inr there) =
      absurd (subst (λ (l : List Mounted). IsOneOf l x) none there)

  one_goes : (asked : ℕ) (m : Mounted) → Goes asked m → AllGo asked (m ∷ [])
  one_goes asked m is = none_go asked m [] refl is

  -- ---- a command

  command_goes : (asked : ℕ) (m : Mounted) (staged : Option (List ℕ)) (c : Command)
      → Merges asked m
      → AllGo asked (effect_on m staged c).later
  command_goes asked m staged c is x at = elim (cases_Bool (is_refused c)) [
    | inl of ↦
        let none = refused_none m staged c of (under_way asked m.state.phase is.still) in
        absurd (subst (λ (l : List Mounted). IsOneOf l x) none at)
    | inr not ↦
        record {
          alone =
              alone_effect target images m staged c (ends_nothing c not) is.alone x at;
          due =
              command_steps left asked m staged c (begins_nothing c not)
              (left_due asked m.state.phase is.still) x at;
        }
  ]

  command_lasts : (asked : ℕ) (m : Mounted) (staged : Option (List ℕ)) (c : Command)
      → Merges asked m
      → Goes (asked + turns_of c) (last_of m (effect_on m staged c).later)
  command_lasts asked m staged c is = elim (cases_Bool (is_refused c)) [
    | inl of ↦
        let none = refused_none m staged c of (under_way asked m.state.phase is.still) in
        let same : asked + 0 ≡ asked + turns_of c =
        ap (λ (n : ℕ). asked + n) (sym (no_turns c of)) in
        subst (λ (l : List Mounted). Goes (asked + turns_of c) (last_of m l)) (sym none)
        (goes_at (asked + 0) (asked + turns_of c) m same
        (goes_plain asked m (goes asked m is)))
    | inr not ↦
        record {
          alone =
              last_alone target images m (effect_on m staged c).later is.alone
              (alone_effect target images m staged c (ends_nothing c not) is.alone);
          due =
              command_last left asked m staged c (begins_nothing c not)
              (left_due asked m.state.phase is.still);
        }
  ]

  -- ---- an exchange

  record ItemGoes (asked turns : ℕ) (item : Item Mounted) : Type 0 where
    steps : AllGo asked item.steps
    last : Goes (asked + turns) item.last.now

  -- a packet that begins or ends an installation, or wipes a slot
  asks_none : (k : Kept Mounted) (asks : Result Asked BadCommand)
      → asks_refused asks ≡ true
      → IsUnderWay k.now.state.phase
      → ((response k.now k.staged asks).later ≡ [])
      × (turns_asked k.now.state.phase asks ≡ 0)
  asks_none k (Ok (Do c)) of is = (refused_none k.now k.staged c of is, no_turns c of)
  asks_none k _ of is = absurd cc

  unless_none : (refused : Bool) (e : Response Mounted)
      → e.later ≡ []
      → (unless_refused refused e).later ≡ []
  unless_none false e none = none
  unless_none true e none = by_want e.may_want
    where
      by_want : (b : Bool)
          → (let r : Response Mounted = cond b no_memory e in r.later) ≡ []
      by_want true = refl
      by_want false = none

  done_is : (k : Kept Mounted) (refused : Bool) (parts : List (List ℕ))
      (asks : Result Asked BadCommand)
      → asks_refused asks ≡ true
      → item_asked response k refused parts asks
      ≡ item_by k (unless_refused refused (response k.now k.staged asks))
  done_is k refused parts (Ok (Do c)) of = refl
  done_is k refused parts _ of = absurd cc

  exchange_goes : (asked : ℕ) (k : Kept Mounted) (s : Exchange)
      → Merges asked k.now
      → ItemGoes asked (turns_asked k.now.state.phase (request_of s.command))
      (item_of response k s)
  unfolding item_of
  exchange_goes asked k s is = elim (cases_Bool (asks_refused (request_of s.command))) [
    | inl of ↦
        let asks : Result Asked BadCommand = request_of s.command in
        let t : ℕ = turns_asked k.now.state.phase asks in
        let none = asks_none k asks of (under_way asked k.now.state.phase is.still) in
        let e : Response Mounted = unless_refused s.refused (response k.now k.staged asks) in
        let still = unless_none s.refused (response k.now k.staged asks) none.0 in
        let same : asked + 0 ≡ asked + t = ap (λ (n : ℕ). asked + n) (sym none.1) in
        subst (ItemGoes asked t) (sym (done_is k s.refused s.parts asks of))
        (record {
          steps = none_go asked k.now e.later still (goes asked k.now is);
          last =
              subst (λ (l : List Mounted). Goes (asked + t) (last_of k.now l)) (sym still)
              (goes_at (asked + 0) (asked + t) k.now same
              (goes_plain asked k.now (goes asked k.now is)));
        })
    | inr not ↦
        let asks : Result Asked BadCommand = request_of s.command in
        let due = exchange_due left asked k s (asks_no_update asks not)
        (left_due asked k.now.state.phase is.still) in
        let alone = item_alone target images k s (asks_no_end asks not) is.alone in
        record {
          steps = λ x at. record { alone = alone.steps x at; due = due.steps x at };
          last = record { alone = alone.last; due = due.last };
        }
  ]

  -- ---- turns between two packets

  less_goes : (asked n : ℕ) (m : Mounted) → Goes (asked + n) m → Goes asked m
  less_goes asked n m is =
      record { alone = is.alone; due = less_due left asked n m.state.phase is.due }

  less_left : (asked n : ℕ) (phase : Phase) → IsLeft (asked + n) phase → IsLeft asked phase
  less_left asked n (Merging slot still) is = omega (arith, is)
  less_left asked n _ is = absurd is

  merges_less : (asked n : ℕ) (m : Mounted) → Merges (asked + n) m → Merges asked m
  merges_less asked n m is =
      record { alone = is.alone; still = less_left asked n m.state.phase is.still }

  -- each of the turns, and what they leave
  between_goes : (asked turns : ℕ) (m : Mounted)
      → Merges asked m
      → AllGo asked (m ∷ turns_between turns m)
  between_goes asked turns m is x (inl here) = subst (Goes asked) (sym here) (goes asked m is)
  between_goes asked turns m is x (inr there) = command_goes asked m None (Merge turns) is x there

  passed_goes : (asked turns : ℕ) (k : Kept Mounted)
      → Merges asked k.now
      → Goes (asked + turns_before turns k.now.state.phase) (passed (machine turns) k).now
  passed_goes asked turns k is = record {
    alone = passed_alone target images turns k is.alone;
    due =
        before_last left asked turns k.now k.now.state.phase refl
        (left_due asked k.now.state.phase is.still);
  }

  -- some first ones of some and of others behind them
  taken : (s : Mounted) (xs ys : List Mounted) (j : ℕ)
      → IsOneOf (s ∷ xs) (last_of s (take j (xs ++ ys)))
      ⊎ ((length xs ≤ j) × IsOneOf (last_of s xs ∷ ys) (last_of s (take j (xs ++ ys))))
  taken s [] ys j = inr (omega arith, last_taken s ys j)
  taken s (x ∷ xs) ys zero = inl (inl refl)
  taken s (x ∷ xs) ys (suc j) = elim (taken x xs ys j) [
    | inl at ↦ inl (inr at)
    | inr beyond ↦ inr (omega (arith, beyond.0), beyond.1)
  ]

  -- ---- items behind a moment

  -- It had ended behind some of the first `whole` items, not before so many of them, or behind the
  -- turns before the next one of these.
  abbrev EndsBehind : (front : Mounted → List Mounted)
      → Mounted
      → List (Item Mounted)
      → (from whole : ℕ)
      → Type 0
  EndsBehind front m items from whole =
      ((n : ℕ) × (from ≤ n) × (n ≤ whole) × IsMerged target images (after_items m items n))
      ⊎ ((n : ℕ)
      × (from ≤ n)
      × (n < whole)
      × IsMerged target images
      (last_of (after_items m items n) (front (after_items m items n))))

  -- A step of the next item: it goes on, or it had ended behind the turns before that.
  abbrev StepGoes : (front : Mounted → List Mounted) → ℕ → Mounted → List Mounted → ℕ → Type 0
  StepGoes front asked m later j =
      Goes asked (last_of m (take j later))
      ⊎ ((length (front m) ≤ j) × IsMerged target images (last_of m (front m)))

  -- it goes on behind them, and in each step of the next one
  record GoesOn (front : Mounted → List Mounted) (closing : List Mounted) (asked : ℕ) (m : Mounted)
      (items : List (Item Mounted)) (whole : ℕ) : Type 0 where
    at : Merges asked (after_items m items whole)
    steps : (j : ℕ)
        → StepGoes front asked (after_items m items whole)
        (later_of (steps_at closing m items whole)) j

  abbrev Ends : (front : Mounted → List Mounted)
      → (closing : List Mounted)
      → ℕ
      → Mounted
      → List (Item Mounted)
      → (from whole : ℕ)
      → Type 0
  Ends front closing asked m items from whole =
      EndsBehind front m items from whole ⊎ GoesOn front closing asked m items whole

  module _ (front : Mounted → List Mounted) (closing : List Mounted) where
    -- all of its steps go on
    all_go : (asked : ℕ) (m : Mounted) (later : List Mounted)
        → AllGo asked (m ∷ later)
        → (j : ℕ)
        → StepGoes front asked m later j
    all_go asked m later go j = inl (go (last_of m (take j later)) (last_taken m later j))

    -- the same number
    ends_at : (n k : ℕ) (m : Mounted) (items : List (Item Mounted)) (from whole : ℕ)
        → n ≡ k
        → Ends front closing n m items from whole
        → Ends front closing k m items from whole
    ends_at n k m items from whole same is =
        subst (λ (j : ℕ). Ends front closing j m items from whole) same is

    -- nothing more is done
    rests : (asked : ℕ) (m : Mounted) (from whole : ℕ)
        → Merges asked m
        → AllGo asked (m ∷ closing)
        → Ends front closing asked m [] from whole
    rests asked m from whole is go =
        inr (record { at = is; steps = all_go asked m closing go })

    -- behind one item more
    behind_one : (asked : ℕ) (m : Mounted) (i : Item Mounted) (items : List (Item Mounted))
        (from whole : ℕ)
        → Ends front closing asked i.last.now items from whole
        → Ends front closing asked m (i ∷ items) (suc from) (suc whole)
    behind_one asked m i items from whole (inl (inl ends)) =
        inl (inl (suc ends.0, omega (arith, ends.1), omega (arith, ends.2), ends.3))
    behind_one asked m i items from whole (inl (inr ends)) =
        inl (inr (suc ends.0, omega (arith, ends.1), omega (arith, ends.2), ends.3))
    behind_one asked m i items from whole (inr on) =
        inr (record { at = on.at; steps = on.steps })

    -- from before it on
    from_before : (asked : ℕ) (m : Mounted) (items : List (Item Mounted)) (from whole : ℕ)
        → Ends front closing asked m items from whole
        → Ends front closing asked m items 0 whole
    from_before asked m items from whole (inl (inl ends)) =
        inl (inl (ends.0, omega arith, ends.2, ends.3))
    from_before asked m items from whole (inl (inr ends)) =
        inl (inr (ends.0, omega arith, ends.2, ends.3))
    from_before asked m items from whole (inr on) = inr on

    -- the first item, and those behind it
    one_more : (asked t : ℕ) (m : Mounted) (i : Item Mounted) (items : List (Item Mounted))
        (whole : ℕ)
        → Goes (asked + t) i.last.now
        → (u : ℕ)
        → (Merges (asked + t) i.last.now
        → Ends front closing (asked + t + u) i.last.now items 0 whole)
        → Ends front closing (asked + (t + u)) m (i ∷ items) 0 (suc whole)
    one_more asked t m i items whole last u rest = elim (either_of (asked + t) i.last.now last) [
      | inl ended ↦
          inl (inl (
            1,
            omega arith,
            omega arith,
            subst (IsMerged target images) (sym (after_none i.last.now items)) ended,
          ))
      | inr still ↦
          let same : asked + t + u ≡ asked + (t + u) = omega arith in
          ends_at (asked + t + u) (asked + (t + u)) m (i ∷ items) 0 (suc whole) same
          (from_before (asked + t + u) m (i ∷ items) 1 (suc whole)
          (behind_one (asked + t + u) m i items 0 whole (rest still)))
    ]

  -- ---- sessions

  open_all : (asked : ℕ) (k : Kept Mounted) (command : List ℕ)
      → Goes asked k.now
      → AllGo asked (item_open response k command).steps
  unfolding item_open
  open_all asked k command is = one_goes asked k.now is

  open_last : (k : Kept Mounted) (command : List ℕ)
      → (item_open response k command).last.now ≡ k.now
  unfolding item_open
  open_last k command = refl

  -- the steps of an item behind the turns
  behind_steps : (asked turns : ℕ) (k : Kept Mounted) (i : Item Mounted)
      → i.steps ≡ (passed (machine turns) k).now ∷ later_of i.steps
      → Merges asked k.now
      → (Merges (asked + turns_before turns k.now.state.phase) (passed (machine turns) k).now
      → AllGo (asked + turns_before turns k.now.state.phase) i.steps)
      → (j : ℕ)
      → StepGoes (turns_between turns) asked k.now
      (turns_between turns k.now ++ later_of i.steps) j
  behind_steps asked turns k i begins is go j =
      let b : ℕ = turns_before turns k.now.state.phase in
      let front : List Mounted = turns_between turns k.now in
      let x : Mounted = last_of k.now (take j (front ++ later_of i.steps)) in
      elim (taken k.now front (later_of i.steps) j) [
        | inl at ↦ inl (between_goes asked turns k.now is x at)
        | inr beyond ↦
            elim
            (either_of (asked + b) (passed (machine turns) k).now (passed_goes asked turns k is)) [
              | inl ended ↦ inr (beyond.0, ended)
              | inr still ↦
                  inl (less_goes asked b x
                  (go still x
                  (subst (λ (l : List Mounted). IsOneOf l x) (sym begins) beyond.1)))
            ]
      ]

  closing_goes : (asked turns : ℕ) (k : Kept Mounted) (waits : Bool)
      → Merges asked k.now
      → AllGo asked (k.now ∷ closing_of (machine turns) None waits k)
  closing_goes asked turns k true is = between_goes asked turns k.now is
  closing_goes asked turns k false is = one_goes asked k.now (goes asked k.now is)

  all_plain : (asked : ℕ) (ms : List Mounted) → AllGo asked ms → AllGo (asked + 0) ms
  all_plain asked ms go x at = goes_plain asked x (go x at)

  session_ends : (asked turns : ℕ) (k : Kept Mounted) (exchanges : List Exchange)
      (unfinished : Option (List ℕ)) (waits : Bool) (whole : ℕ)
      → Merges asked k.now
      → Ends (turns_between turns)
      (closing_of (machine turns) unfinished waits (kept_after (machine turns) k exchanges))
      (asked + turns_in turns k (take whole exchanges)) k.now
      (items_of (machine turns) k exchanges unfinished) 0 whole
  session_ends asked turns k [] None waits zero is =
      rests (turns_between turns) (closing_of (machine turns) None waits k) (asked + 0) k.now 0 0
      (merges_plain asked k.now is)
      (all_plain asked (k.now ∷ closing_of (machine turns) None waits k)
      (closing_goes asked turns k waits is))
  session_ends asked turns k [] None waits (suc n) is =
      rests (turns_between turns) (closing_of (machine turns) None waits k) (asked + 0) k.now 0
      (suc n) (merges_plain asked k.now is)
      (all_plain asked (k.now ∷ closing_of (machine turns) None waits k)
      (closing_goes asked turns k waits is))
  session_ends asked turns k [] (Some command) waits zero is =
      let next : Kept Mounted = passed (machine turns) k in
      let same : asked ≡ asked + 0 = sym (add-zero asked) in
      inr (record {
        at = merges_plain asked k.now is;
        steps = λ j.
            subst
            (λ (n : ℕ).
            StepGoes (turns_between turns) n k.now
            (turns_between turns k.now ++ later_of (item_open response next command).steps) j)
            same
            (behind_steps asked turns k (item_open response next command)
            (open_begins response next command) is
            (λ still.
            open_all (asked + turns_before turns k.now.state.phase) next command
            (goes (asked + turns_before turns k.now.state.phase) next.now still)) j);
      })
  session_ends asked turns k [] (Some command) waits (suc n) is =
      let next : Kept Mounted = passed (machine turns) k in
      let b : ℕ = turns_before turns k.now.state.phase in
      let i : Item Mounted = open_behind (machine turns) k command in
      let last : Goes (asked + b) i.last.now =
      subst (Goes (asked + b)) (sym (open_last next command)) (passed_goes asked turns k is) in
      let same : asked + 0 ≡ asked + (0 + 0) = omega arith in
      let back : asked + (0 + 0) ≡ asked + 0 = omega arith in
      ends_at (turns_between turns) [] (asked + (0 + 0)) (asked + 0) k.now (i ∷ []) 0 (suc n) back
      (one_more (turns_between turns) [] asked 0 k.now i [] n
      (goes_plain asked i.last.now (less_goes asked b i.last.now last)) 0
      (λ still.
      rests (turns_between turns) [] (asked + 0 + 0) i.last.now 0 n
      (merges_plain (asked + 0) i.last.now still)
      (one_goes (asked + 0 + 0) i.last.now
      (goes (asked + 0 + 0) i.last.now (merges_plain (asked + 0) i.last.now still)))))
  session_ends asked turns k (s ∷ ss) unfinished waits zero is =
      let next : Kept Mounted = passed (machine turns) k in
      let same : asked ≡ asked + 0 = sym (add-zero asked) in
      inr (record {
        at = merges_plain asked k.now is;
        steps = λ j.
            subst
            (λ (n : ℕ).
            StepGoes (turns_between turns) n k.now
            (turns_between turns k.now ++ later_of (item_of response next s).steps) j)
            same
            (behind_steps asked turns k (item_of response next s) (item_begins response next s) is
            (λ still.
            (exchange_goes (asked + turns_before turns k.now.state.phase) next s still).steps) j);
      })
  session_ends asked turns k (s ∷ ss) unfinished waits (suc n) is =
      let next : Kept Mounted = passed (machine turns) k in
      let b : ℕ = turns_before turns k.now.state.phase in
      let i : Item Mounted = item_behind (machine turns) k s in
      let t : ℕ = turns_asked next.now.state.phase (request_of s.command) in
      let u : ℕ = turns_in turns i.last (take n ss) in
      let closing : List Mounted =
      closing_of (machine turns) unfinished waits (kept_after (machine turns) i.last ss) in
      let same : asked + b + (t + u) ≡ asked + (b + (t + u)) = omega arith in
      elim (either_of (asked + b) next.now (passed_goes asked turns k is)) [
        | inl ended ↦ inl (inr (0, omega arith, omega arith, ended))
        | inr still ↦
            ends_at (turns_between turns) closing (asked + b + (t + u)) (asked + (b + (t + u)))
            k.now (i ∷ items_of (machine turns) i.last ss unfinished) 0 (suc n) same
            (one_more (turns_between turns) closing (asked + b) t k.now i
            (items_of (machine turns) i.last ss unfinished) n
            (exchange_goes (asked + b) next s still).last u
            (λ more. session_ends (asked + b + t) turns i.last ss unfinished waits n more))
      ]

  session_from : (asked turns : ℕ) (k : Kept Mounted) (exchanges : List Exchange)
      (unfinished : Option (List ℕ)) (waits : Bool) (from whole : ℕ)
      → from ≤ length exchanges
      → from ≤ whole
      → Merges asked (after_items k.now (items_of (machine turns) k exchanges unfinished) from)
      → Ends (turns_between turns)
      (closing_of (machine turns) unfinished waits (kept_after (machine turns) k exchanges))
      (asked + turns_in turns (kept_after (machine turns) k (take from exchanges))
      (drop from (take whole exchanges)))
      k.now (items_of (machine turns) k exchanges unfinished) from whole
  session_from asked turns k exchanges unfinished waits zero whole few some is =
      session_ends asked turns k exchanges unfinished waits whole
      (subst (Merges asked)
      (after_none k.now (items_of (machine turns) k exchanges unfinished)) is)
  session_from asked turns k [] unfinished waits (suc n) whole few some is =
      absurd (omega (arith, few))
  session_from asked turns k (s ∷ ss) unfinished waits (suc n) zero few some is =
      absurd (omega (arith, some))
  session_from asked turns k (s ∷ ss) unfinished waits (suc n) (suc w) few some is =
      let i : Item Mounted = item_behind (machine turns) k s in
      behind_one (turns_between turns)
      (closing_of (machine turns) unfinished waits (kept_after (machine turns) i.last ss))
      (asked + turns_in turns (kept_after (machine turns) i.last (take n ss)) (drop n (take w ss)))
      k.now i (items_of (machine turns) i.last ss unfinished) n w
      (session_from asked turns i.last ss unfinished waits n w (omega (arith, few))
      (omega (arith, some)) is)

  -- ---- runs

  abbrev no_front : Mounted → List Mounted
  no_front m = []

  -- an item that changes nothing, and those behind it
  still_item : (asked : ℕ) (m : Mounted) (i : Item Mounted) (items : List (Item Mounted))
      (whole : ℕ)
      → i.steps ≡ m ∷ []
      → i.last.now ≡ m
      → Merges asked m
      → ((n : ℕ) → Ends no_front [] asked m items 0 n)
      → Ends no_front [] asked m (i ∷ items) 0 whole
  still_item asked m i items zero steps last is rest = inr (record {
    at = is;
    steps =
        subst
        (λ (l : List Mounted). (j : ℕ) → StepGoes no_front asked m (later_of l) j) (sym steps)
        (all_go no_front [] asked m [] (one_goes asked m (goes asked m is)));
  })
  still_item asked m i items (suc n) steps last is rest =
      from_before no_front [] asked m (i ∷ items) 1 (suc n)
      (behind_one no_front [] asked m i items 0 n
      (subst (λ (x : Mounted). Ends no_front [] asked x items 0 n) (sym last) (rest n)))

  rests_here : (asked : ℕ) (m : Mounted) (from whole : ℕ)
      → Merges asked m
      → Ends no_front [] asked m [] from whole
  rests_here asked m from whole is =
      rests no_front [] asked m from whole is (one_goes asked m (goes asked m is))

  carried : (asked : ℕ) (m : Mounted) (c : Command) (whole : ℕ)
      → Merges asked m
      → Ends no_front [] (asked + turns_done whole c) m (verb_item m c ∷ []) 0 whole
  carried asked m c zero is = inr (record {
    at = merges_plain asked m is;
    steps =
        all_go no_front [] (asked + 0) m (effect_on m None c).later
        (all_plain asked (m ∷ (effect_on m None c).later) carried_step);
  })
    where
      carried_step : AllGo asked (m ∷ (effect_on m None c).later)
      carried_step x (inl here) = subst (Goes asked) (sym here) (goes asked m is)
      carried_step x (inr there) = command_goes asked m None c is x there
  carried asked m c (suc n) is =
      let t : ℕ = turns_of c in
      let same : asked + (t + 0) ≡ asked + t = omega arith in
      ends_at no_front [] (asked + (t + 0)) (asked + t) m (verb_item m c ∷ []) 0 (suc n) same
      (one_more no_front [] asked t m (verb_item m c) [] n (command_lasts asked m None c is) 0
      (λ still.
      rests_here (asked + t + 0) (verb_item m c).last.now 0 n
      (merges_plain (asked + t) (verb_item m c).last.now still)))

  installed : (asked : ℕ) (m : Mounted) (set : List SetImage) (whole : ℕ)
      → Merges asked m
      → Ends no_front [] asked m (install_item m set ∷ []) 0 whole
  installed asked m set whole is =
      let none : (install_effect m set).later ≡ [] =
      ap (λ (e : Effect Mounted). e.later)
      (install_refused m set (under_way asked m.state.phase is.still)) in
      still_item asked m (install_item m set) [] whole
      (ap (λ (l : List Mounted). m ∷ l) none)
      (ap (λ (l : List Mounted). last_of m l) none)
      is (λ n. rests_here asked m 0 n is)

  run_ends : (asked : ℕ) (m : Mounted) (run : Run) (from whole : ℕ)
      → IsMoment from run
      → from ≤ whole
      → Merges asked (after_items m (items_in m run) from)
      → Ends (front_in run) (closing_in m run) (asked + turns_behind m from whole run) m
      (items_in m run) from whole
  run_ends asked m (Serves turns exchanges unfinished waits) from whole moment some is =
      session_from asked turns (nothing_staged m) exchanges unfinished waits from whole moment some
      is
  run_ends asked m (Carries c) zero whole moment some is = carried asked m c whole is
  run_ends asked m (Carries c) (suc n) zero moment some is = absurd (omega (arith, some))
  run_ends asked m (Carries c) (suc n) (suc w) moment some is =
      let last : Mounted = (verb_item m c).last.now in
      behind_one no_front [] (asked + 0) m (verb_item m c) [] n w
      (rests_here (asked + 0) last n w (merges_plain asked last is))
  run_ends asked m (Installs set) zero whole moment some is =
      ends_at no_front [] asked (asked + 0) m (install_item m set ∷ []) 0 whole
      (sym (add-zero asked)) (installed asked m set whole is)
  run_ends asked m (Installs set) (suc n) whole moment some is = absurd (omega (arith, moment))
  run_ends asked m (Tells text) zero whole moment some is =
      ends_at no_front [] asked (asked + 0) m (line_item m text ∷ []) 0 whole
      (sym (add-zero asked))
      (still_item asked m (line_item m text) [] whole refl refl is
      (λ n. rests_here asked m 0 n is))
  run_ends asked m (Tells text) (suc n) whole moment some is = absurd (omega (arith, moment))
  run_ends asked m (Lives made next) zero whole moment some is =
      let begun : Merges asked m =
      subst (Merges asked) (after_none m (items_in m (Lives made next))) is in
      let same = life_items m made next (under_way asked m.state.phase begun.still) in
      subst (λ (l : List (Item Mounted)). Ends no_front [] (asked + 0) m l 0 whole) (sym same)
      (ends_at no_front [] asked (asked + 0) m (line_item m made ∷ install_item m next ∷ []) 0
      whole (sym (add-zero asked))
      (still_item asked m (line_item m made) (install_item m next ∷ []) whole refl refl begun
      (λ n. installed asked m next n begun)))
  run_ends asked m (Lives made next) (suc n) whole moment some is = absurd (omega (arith, moment))

  -- ---- runs one after another

  from_first : (m : Mounted) (run : Run) (whole : ℕ)
      → turns_behind m 0 whole run ≡ turns_by m whole run
  from_first m (Serves turns exchanges unfinished waits) whole = refl
  from_first m (Carries c) whole = refl
  from_first m (Installs set) whole = refl
  from_first m (Tells text) whole = refl
  from_first m (Lives made next) whole = refl

  first_moment : (run : Run) → IsMoment 0 run
  first_moment (Serves turns exchanges unfinished waits) = omega arith
  first_moment (Carries c) = omega arith
  first_moment _ = refl

  ends_in : (m : Mounted) (c : Cut) (from : ℕ)
      → EndsBehind (front_in c.run) m (items_in m c.run) from c.whole
      → EndsIn target images m from c
  ends_in m c from (inl ends) = inl ends
  ends_in m c from (inr ends) = inr (ends.0, ends.1, inl ends.2, ends.3)

  cuts_end : (asked : ℕ) (m : Mounted) (c : Cut) (cs : List Cut) (from : ℕ)
      → IsMoment from c.run
      → from ≤ c.whole
      → Merges asked (after_items m (items_in m c.run) from)
      → left < asked + (turns_behind m from c.whole c.run + turns_by_all (after_cut m c) cs)
      → HasEnded target images m from (c ∷ cs)
  cuts_end asked m c [] from moment some is many =
      let t : ℕ = turns_behind m from c.whole c.run in
      elim (run_ends asked m c.run from c.whole moment some is) [
        | inl ends ↦ inl (ends_in m c from ends)
        | inr on ↦
            let at = on.at in
            absurd (too_many (asked + t) (after_items m (items_in m c.run) c.whole).state.phase
            at.still (omega (arith, many)))
      ]
  cuts_end asked m c (d ∷ ds) from moment some is many =
      let t : ℕ = turns_behind m from c.whole c.run in
      let next : Mounted = after_cut m c in
      elim (run_ends asked m c.run from c.whole moment some is) [
        | inl ends ↦ inl (ends_in m c from ends)
        | inr on ↦
            elim (on.steps c.steps) [
              | inr beyond ↦ inl (inr (c.whole, some, inr (refl, beyond.0), beyond.1))
              | inl goes_on ↦
                  elim (either_of (asked + t) next goes_on) [
                    | inl ended ↦
                        inr (inl (inl (
                          0,
                          omega arith,
                          omega arith,
                          subst (IsMerged target images)
                              (sym (after_none next (items_in next d.run))) ended,
                        )))
                    | inr still ↦
                        inr (cuts_end (asked + t) next d ds 0 (first_moment d.run) (omega arith)
                        (subst (Merges (asked + t))
                        (sym (after_none next (items_in next d.run))) still)
                        (omega (arith, many, from_first next d.run d.whole)))
                  ]
            ]
      ]

pub merges_have_ended : (first : Mounted) (c : Cut) (cs : List Cut) (from : ℕ)
    → IsMoment from c.run
    → from ≤ c.whole
    → (target left : ℕ)
    → (images : List ImageOfSlot)
    → (after_items first (items_in first c.run) from).state.phase ≡ Merging target left
    → IsAlone target images (after_items first (items_in first c.run) from)
    → left < turns_behind first from c.whole c.run + turns_by_all (after_cut first c) cs
    → HasEnded target images first from (c ∷ cs)
merges_have_ended first c cs from moment some target left images phase alone many =
    let whole : left + 0 ≤ left = omega arith in
    cuts_end target images left 0 first c cs from moment some
    (record {
      alone = alone;
      still = subst (IsLeft target images left 0) (sym phase) whole;
    })
    (omega (arith, many))

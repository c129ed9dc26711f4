-- Rounds are a fold of their items.
use Rattle.std.proofs.Common.{◌≡◌, ◌∙◌, inl, inr, ℕ, zero, suc, ◌≤◌, Bool, true, false}
use Rattle.std.proofs.Common.{List, []}
use Rattle.std.proofs.Common.{◌∷◌, ◌++◌, length, take, drop, map, replicate, Option, Some}
use Rattle.std.proofs.Common.{None, Ok, if◌then◌else◌}
use Rattle.std.proofs.Common.{refl, sym, ap, subst, append_assoc, arith}
use Rattle.std.specs.List.{flat_map}
use Rattle.std.proofs.lemmas.List.{drop_at}
use Rattle.std.proofs.Common.{◌⊎◌}
use Rattle.vab_disk.specs.Disk.{Image}
use Rattle.vab_model.specs.Effects.{IsOneOf, last_of}
use Rattle.vab_model.specs.Machine.{turns as machine_turns}
use Rattle.vab_device.specs.Mounted.{Mounted}
use Rattle.vab_device.specs.Reading.{IsIn}
use Rattle.vab_exchanges.specs.Session.{Exchange}
use Rattle.vab_exchanges.specs.Items.{Kept, Item, later_of, item_open, item_behind, open_behind}
use Rattle.vab_exchanges.specs.Items.{items_of, kept_after}
use Rattle.vab_model.specs.declared.state.Phase.{Phase}
use Rattle.vab_model.specs.declared.state.Phase.TheVariants.{Idle, Installing, Staged, Merging}
use Rattle.vab_device.specs.Updates.{merge_effect, turns}
use Rattle.vab_exchanges.specs.Runs.{acknowledged, steps_at}
use Rattle.vab_session.specs.Responses.{turns_between, machine}
use Rattle.vab_session.specs.Served.{nothing_staged}
use Rattle.vab_set.specs.declared.set.SetImage.{SetImage}
use Rattle.vab_model.specs.Commands.{Merge}
use Rattle.vab_cli.specs.declared.status.Status.{Status}
use Rattle.vab_cli.specs.Acts.{Act, Course, command_act, course, followed, is_done}
use Rattle.vab_cli.specs.Demo.{digest_act, life, sevens, take_over}
use Rattle.vab_cli.specs.Installing.{left_behind}
use Rattle.vab_boots.specs.Boots.{Boots}
use Rattle.vab_boots.proofs.Booting.{boots}
use Rattle.vab_rounds.specs.Rounds.{Run, Serves, Carries, Installs, Tells, Lives, items_in}
use Rattle.vab_rounds.specs.Rounds.{greeting_of, closing_in, Round, IsRound, AreRounds}
use Rattle.vab_rounds.specs.Alone.{reached}
use Rattle.vab_rounds.specs.Folds.{after_items, Cut, done_by, further, after_cut, folded}
use Rattle.vab_rounds.specs.Folds.{whole_in, IsCut, AreCuts}

-- ---- items begin where the ones before them end

abbrev pub BeginsAt : {S : Type 0} → S → Item S → Type 0
BeginsAt s i = i.steps ≡ s ∷ later_of i.steps

abbrev pub AreLinked : {S : Type 0} → S → List (Item S) → Type 0
AreLinked s [] = Unit {0}
AreLinked s (i ∷ is) = BeginsAt s i × AreLinked i.last.now is

-- the steps behind n items begin with what they have left
steps_begin : {S : Type 0} (closing : List S) (s : S) (is : List (Item S)) (n : ℕ)
    → AreLinked s is
    → steps_at closing s is n ≡ after_items s is n ∷ later_of (steps_at closing s is n)
steps_begin closing s [] n linked = refl
steps_begin closing s (i ∷ is) zero linked = linked.0
steps_begin closing s (i ∷ is) (suc n) linked = steps_begin closing i.last.now is n linked.1

session_linked : (turns : ℕ) (k : Kept Mounted) (exchanges : List Exchange)
    (unfinished : Option (List ℕ))
    → AreLinked k.now (items_of (machine turns) k exchanges unfinished)
session_linked turns k [] None = tt
session_linked turns k [] (Some command) = (refl, tt)
session_linked turns k (s ∷ ss) unfinished =
    (refl, session_linked turns (item_behind (machine turns) k s).last ss unfinished)

-- ---- what is done one behind another

abbrev EachBegins : List Act → Type 0
EachBegins [] = Unit {0}
EachBegins (a ∷ xs) = ((m : Mounted) → BeginsAt m (a.item m)) × EachBegins xs

each_begins : (xs ys : List Act) → EachBegins xs → EachBegins ys → EachBegins (xs ++ ys)
each_begins [] ys are others = others
each_begins (a ∷ xs) ys are others = (are.0, each_begins xs ys are.1 others)

repeats_begin : (n : ℕ) (a : Act)
    → ((m : Mounted) → BeginsAt m (a.item m))
    → EachBegins (replicate n a)
repeats_begin zero a begins = tt
repeats_begin (suc n) a begins = (begins, repeats_begin n a begins)

digests_begin : (set : List SetImage) → EachBegins (map digest_act set)
digests_begin [] = tt
digests_begin (image ∷ set) = ((λ m. refl), digests_begin set)

life_begins : (made : List ℕ) (next : List SetImage) (left : ℕ) → EachBegins (life made next left)
life_begins made next left =
    let merges : List Act = replicate (sevens left) (command_act [] (Merge 7)) in
    let digests : List Act = map digest_act next in (
      (λ m. refl),
      (
        (λ m. refl),
        each_begins take_over (merges ++ digests)
            ((λ m. refl), ((λ m. refl), ((λ m. refl), tt)))
            (each_begins merges digests
            (repeats_begin (sevens left) (command_act [] (Merge 7)) (λ m. refl))
            (digests_begin next)),
      ),
    )

either_linked : (m : Mounted) (done : Bool) (b c : Course)
    → AreLinked m b.items
    → AreLinked m c.items
    → AreLinked m (if done then b else c).items
either_linked m true b c are others = are
either_linked m false b c are others = others

followed_linked : (m : Mounted) (i : Item Mounted) (ends : Status) (rest : Course)
    → BeginsAt m i
    → AreLinked i.last.now rest.items
    → AreLinked m (followed i ends rest).items
followed_linked m i ends rest begins others =
    either_linked m (is_done ends)
    (record { items = i ∷ rest.items; last = rest.last; ends = rest.ends })
    (record { items = i ∷ []; last = i.last.now; ends = ends })
    (begins, others)
    (begins, tt)

course_linked : (m : Mounted) (xs : List Act)
    → EachBegins xs
    → AreLinked m (course xs m).items
unfolding course
course_linked m [] are = tt
course_linked m (a ∷ xs) are =
    followed_linked m (a.item m) (a.ends m) (course xs (a.item m).last.now)
    (are.0 m) (course_linked (a.item m).last.now xs are.1)

pub run_linked : (m : Mounted) (run : Run) → AreLinked m (items_in m run)
run_linked m (Serves turns exchanges unfinished waits) =
    session_linked turns (nothing_staged m) exchanges unfinished
run_linked m (Carries command) = (refl, tt)
run_linked m (Installs set) = (refl, tt)
run_linked m (Tells text) = (refl, tt)
run_linked m (Lives made next) =
    let left : ℕ = left_behind m next in
    course_linked m (life made next left) (life_begins made next left)

-- ---- a step is some steps

pub some_steps : {S : Type 0} (s : S) (ss : List S) (x : S)
    → IsOneOf (s ∷ ss) x
    → (n : ℕ) × (n ≤ length ss) × (x ≡ last_of s (take n ss))
some_steps s ss x (inl same) = (0, omega arith, same)
some_steps s [] x (inr later) = absurd later
some_steps s (y ∷ ys) x (inr later) =
    let more = some_steps y ys x later in
    (suc more.0, omega (arith, more.1), more.2)

-- some steps are one of them
pub last_taken : {S : Type 0} (s : S) (ss : List S) (n : ℕ)
    → IsOneOf (s ∷ ss) (last_of s (take n ss))
last_taken s ss zero = inl refl
last_taken s [] (suc n) = inl refl
last_taken s (y ∷ ys) (suc n) = inr (last_taken y ys n)

pub cut_steps : (m : Mounted) (c : Cut)
    → IsOneOf (steps_at (closing_in m c.run) m (items_in m c.run) c.whole) (after_cut m c)
cut_steps m c =
    subst (λ (l : List Mounted). IsOneOf l (after_cut m c))
    (sym (steps_begin (closing_in m c.run) m (items_in m c.run) c.whole (run_linked m c.run)))
    (last_taken (done_by m c) (further m c) c.steps)

-- ---- a device that is reached is in a step of some item

of_some : {S : Type 0} (xs ys : List S) (x : S)
    → IsOneOf (xs ++ ys) x
    → IsOneOf xs x ⊎ IsOneOf ys x
of_some [] ys x at = inr at
of_some (s ∷ ss) ys x (inl here) = inl (inl here)
of_some (s ∷ ss) ys x (inr there) = elim (of_some ss ys x there) [
  | inl front ↦ inl (inr front)
  | inr behind ↦ inr behind
]

of_taken : {S : Type 0} (n : ℕ) (xs : List S) (x : S) → IsOneOf (take n xs) x → IsOneOf xs x
of_taken zero xs x at = absurd at
of_taken (suc n) [] x at = absurd at
of_taken (suc n) (s ∷ ss) x (inl here) = inl here
of_taken (suc n) (s ∷ ss) x (inr there) = inr (of_taken n ss x there)

of_later : {S : Type 0} (xs : List S) (x : S) → IsOneOf (later_of xs) x → IsOneOf xs x
of_later [] x at = absurd at
of_later (s ∷ ss) x at = inr at

items_steps : {S : Type 0} (closing : List S) (s : S) (items : List (Item S)) (whole steps : ℕ)
    (x : S)
    → IsOneOf
    (flat_map (λ (i : Item S). i.steps) (take whole items)
    ++ take steps (later_of (steps_at closing s items whole))) x
    → (n : ℕ) × IsOneOf (steps_at closing s items n) x
items_steps closing s [] zero steps x at = (0, inr (of_taken steps closing x at))
items_steps closing s [] (suc whole) steps x at = (0, inr (of_taken steps closing x at))
items_steps closing s (i ∷ is) zero steps x at =
    (0, of_later i.steps x (of_taken steps (later_of i.steps) x at))
items_steps {S} closing s (i ∷ is) (suc whole) steps x at =
    let rest : List S = flat_map (λ (j : Item S). j.steps) (take whole is) in
    let more : List S = take steps (later_of (steps_at closing i.last.now is whole)) in
    let joined : IsOneOf (i.steps ++ (rest ++ more)) x =
    subst (λ (l : List S). IsOneOf l x) (append_assoc i.steps rest more) at in
    elim (of_some i.steps (rest ++ more) x joined) [
      | inl here ↦ (0, here)
      | inr behind ↦
          let there = items_steps closing i.last.now is whole steps x behind in
          (suc there.0, there.1)
    ]

pub reached_steps : (m : Mounted) (c : Cut) (x : Mounted)
    → IsOneOf (reached m c) x
    → (n : ℕ) × IsOneOf (steps_at (closing_in m c.run) m (items_in m c.run) n) x
reached_steps m c x at =
    items_steps (closing_in m c.run) m (items_in m c.run) c.whole c.steps x at

-- ---- one round

same_device : (size : ℕ) (image : Image) (m n : Mounted)
    → IsIn size m image
    → IsIn size n image
    → m ≡ n
same_device size image m n is other =
    let both : Ok m ≡ Ok n = sym is ∙ other in
    cc

since_is : (told since all : List ℕ) → all ≡ told ++ since → drop (length told) all ≡ since
since_is told since all is =
    ap (λ (l : List ℕ). drop (length told) l) is ∙ drop_at told since (length told) refl

-- what was told and left of it is that of a cut
round_cut : (size : ℕ) (first : Mounted) (round : Round) (next : Mounted)
    → IsRound size first round next
    → (c : Cut) × IsCut first round c × (next ≡ after_cut first c)
round_cut size first round next is =
    let items : List (Item Mounted) = items_in first round.run in
    let closing : List Mounted = closing_in first round.run in
    let whole : ℕ = whole_in first round in
    let since : drop (length round.told) round.outcome.told ≡ is.crashes.since =
    since_is round.told is.crashes.since round.outcome.told is.crashes.told_since in
    let x : Mounted = is.crashes.step.0 in
    let same : x ≡ next =
    same_device size round.outcome.image x next is.crashes.step.2 is.leaves in
    let there : IsOneOf (steps_at closing first items whole) x =
    subst
    (λ (l : List ℕ). IsOneOf
    (steps_at closing first items (acknowledged items (drop (length (greeting_of round.run)) l))) x)
    (sym since) is.crashes.step.1 in
    let begun = steps_begin closing first items whole (run_linked first round.run) in
    let step = some_steps (after_items first items whole)
    (later_of (steps_at closing first items whole)) x
    (subst (λ (l : List Mounted). IsOneOf l x) begun there) in (
      record { run = round.run; whole = whole; steps = step.0 },
      record { run = refl; whole = refl; steps = step.1 },
      sym same ∙ step.2,
    )

-- ---- many

pub rounds_fold : (size : ℕ) (first last : Mounted) (rounds : List Round)
    → AreRounds size first rounds last
    → (cuts : List Cut) × AreCuts first rounds cuts × (last ≡ folded first cuts)
rounds_fold size first last [] are = ([], tt, are)
rounds_fold size first last (round ∷ rounds) are =
    let next : Mounted = are.0 in
    let cut = round_cut size first round next are.1 in
    let c : Cut = cut.0 in
    let more = rounds_fold size next last rounds are.2 in (
      c ∷ more.0,
      (cut.1, subst (λ (m : Mounted). AreCuts m rounds more.0) cut.2 more.1),
      more.2 ∙ ap (λ (m : Mounted). folded m more.0) cut.2,
    )

-- ---- sessions

-- no turn is made between two packets
none_merged : (m : Mounted) (phase : Phase) → (merge_effect m 0 phase).later ≡ []
unfolding machine_turns
none_merged m Idle = refl
none_merged m (Installing source plan) = refl
none_merged m (Staged source left) = refl
none_merged m (Merging target left) = refl

none_between : (n : ℕ) (m : Mounted) → n ≡ 0 → turns_between n m ≡ []
none_between n m none =
    ap (λ (k : ℕ). turns_between k m) none ∙ none_merged m m.state.phase

open_last : (turns : ℕ) (k : Kept Mounted) (command : List ℕ)
    → turns ≡ 0
    → (open_behind (machine turns) k command).last.now ≡ k.now
unfolding item_open
open_last turns k command none =
    ap (λ (l : List Mounted). last_of k.now l) (none_between turns k.now none)

-- a front of the exchanges, or nothing behind them that makes turns
abbrev Folds : (turns : ℕ) → List Exchange → Option (List ℕ) → ℕ → Type 0
Folds turns exchanges unfinished n =
    (n ≤ length exchanges) ⊎ (unfinished ≡ None) ⊎ (turns ≡ 0)

kept_fold : (turns : ℕ) (k : Kept Mounted) (exchanges : List Exchange)
    (unfinished : Option (List ℕ)) (n : ℕ)
    → Folds turns exchanges unfinished n
    → after_items k.now (items_of (machine turns) k exchanges unfinished) n
    ≡ (kept_after (machine turns) k (take n exchanges)).now
kept_fold turns k [] None zero of = refl
kept_fold turns k [] None (suc n) of = refl
kept_fold turns k [] (Some command) zero of = refl
kept_fold turns k [] (Some command) (suc n) (inl few) = absurd (omega (arith, few))
kept_fold turns k [] (Some command) (suc n) (inr (inl none)) = absurd (let is = none in cc)
kept_fold turns k [] (Some command) (suc n) (inr (inr none)) = open_last turns k command none
kept_fold turns k (s ∷ ss) unfinished zero of = refl
kept_fold turns k (s ∷ ss) unfinished (suc n) (inl few) =
    kept_fold turns (item_behind (machine turns) k s).last ss unfinished n
    (inl (omega (arith, few)))
kept_fold turns k (s ∷ ss) unfinished (suc n) (inr other) =
    kept_fold turns (item_behind (machine turns) k s).last ss unfinished n (inr other)

pub sessions_fold : (turns : ℕ) (m : Mounted) (exchanges : List Exchange)
    (unfinished : Option (List ℕ)) (n : ℕ)
    → Folds turns exchanges unfinished n
    → after_items m (items_of (machine turns) (nothing_staged m) exchanges unfinished) n
    ≡ (kept_after (machine turns) (nothing_staged m) (take n exchanges)).now
sessions_fold turns m exchanges unfinished n of =
    kept_fold turns (nothing_staged m) exchanges unfinished n of

-- ---- what boots

pub rounds_boot : (size : ℕ) (first last : Mounted) (round : Round) (rounds : List Round)
    → AreRounds size first (round ∷ rounds) last
    → Boots last
rounds_boot size first last round [] are =
    boots size round.outcome.image last
    (subst (λ (m : Mounted). IsIn size m round.outcome.image) (sym are.2) are.1.leaves)
rounds_boot size first last round (second ∷ rounds) are =
    rounds_boot size are.0 last second rounds are.2

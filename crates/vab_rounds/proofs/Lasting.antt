-- What holds of a device lasts through runs, until a device is reached on which it stops.
use Rattle.std.proofs.Common.{◌≡◌, ◌∙◌, ◌⊎◌, inl, inr, ℕ, zero, suc, ◌-◌, ◌≤◌, Bool, true, false}
use Rattle.std.proofs.Common.{cond, List, [], ◌∷◌, ◌++◌, take, drop, map, replicate, Option, None}
use Rattle.std.proofs.Common.{refl, sym, ap, subst, append_assoc, arith}
use Rattle.std.proofs.lemmas.Bool.{cases_Bool}
use Rattle.std.specs.List.{flat_map}
use Rattle.vab_set.specs.declared.set.SetImage.{SetImage}
use Rattle.vab_model.specs.Commands.{Command, Merge, Boot, Mark, BeginMerge, Digest}
use Rattle.vab_model.specs.Effects.{Effect, last_of, after_of}
use Rattle.vab_device.specs.Mounted.{Mounted}
use Rattle.vab_device.specs.Updates.{effect_on}
use Rattle.vab_exchanges.specs.Items.{Item, later_of}
use Rattle.vab_exchanges.proofs.RunLaws.{last_in}
use Rattle.vab_exchanges.specs.Runs.{steps_at}
use Rattle.vab_session.specs.Served.{nothing_staged}
use Rattle.vab_session.proofs.UntilLaws.{found_left, found_right, last_append}
use Rattle.vab_session.proofs.UntilLaws as until
use Rattle.vab_update.specs.Orders.{Order, effect_all, effect_one, followed, is_refused}
use Rattle.vab_update.specs.Install.{target_name}
use Rattle.vab_cli.specs.declared.status.Status.{Status}
use Rattle.vab_cli.specs.Acts.{Act, Course, command_act, course, install_act, line_act, is_done}
use Rattle.vab_cli.specs.Acts as acts
use Rattle.vab_cli.specs.Demo.{digest_act, digest_front, life, sevens, take_over}
use Rattle.vab_cli.specs.Installing.{install_item, left_behind}
use Rattle.vab_cli.specs.Verbs.{line_item, verb_item}
use Rattle.vab_rounds.specs.Rounds.{Run, Serves, Carries, Installs, Tells, Lives, items_in}
use Rattle.vab_rounds.specs.Rounds.{closing_in}
use Rattle.vab_rounds.specs.Folds.{Cut, after_items, after_cut, folded}
use Rattle.vab_rounds.specs.Alone.{Meets, MeetsBehind}
use Rattle.vab_rounds.proofs.Folding.{AreLinked, run_linked}

-- ---- behind the first items

all_left : (n : ℕ) → n - 0 ≡ n
all_left n = omega arith

-- the items behind the first of some
after_from : (m : Mounted) (items : List (Item Mounted)) (from whole : ℕ)
    → from ≤ whole
    → after_items (after_items m items from) (drop from items) (whole - from)
    ≡ after_items m items whole
after_from m [] zero whole below = refl
after_from m [] (suc from) whole below = refl
after_from m (i ∷ is) zero whole below = ap (after_items m (i ∷ is)) (all_left whole)
after_from m (i ∷ is) (suc from) zero below = absurd (omega (arith, below))
after_from m (i ∷ is) (suc from) (suc whole) below =
    ap (after_items (after_items i.last.now is from) (drop from is)) (less from whole)
    ∙ after_from i.last.now is from whole (omega (arith, below))
  where
    less : (a b : ℕ) → suc b - suc a ≡ b - a
    less a b = omega arith

steps_from : (closing : List Mounted) (m : Mounted) (items : List (Item Mounted)) (from whole : ℕ)
    → from ≤ whole
    → steps_at closing (after_items m items from) (drop from items) (whole - from)
    ≡ steps_at closing m items whole
steps_from closing m [] zero whole below = refl
steps_from closing m [] (suc from) whole below = refl
steps_from closing m (i ∷ is) zero whole below = ap (steps_at closing m (i ∷ is)) (all_left whole)
steps_from closing m (i ∷ is) (suc from) zero below = absurd (omega (arith, below))
steps_from closing m (i ∷ is) (suc from) (suc whole) below =
    ap (steps_at closing (after_items i.last.now is from) (drop from is)) (less from whole)
    ∙ steps_from closing i.last.now is from whole (omega (arith, below))
  where
    less : (a b : ℕ) → suc b - suc a ≡ b - a
    less a b = omega arith

last_from : (m : Mounted) (items : List (Item Mounted)) (from : ℕ)
    → last_in (after_items m items from) (drop from items) ≡ last_in m items
last_from m [] zero = refl
last_from m [] (suc from) = refl
last_from m (i ∷ is) zero = refl
last_from m (i ∷ is) (suc from) = last_from i.last.now is from

linked_from : (m : Mounted) (items : List (Item Mounted)) (from : ℕ)
    → AreLinked m items
    → AreLinked (after_items m items from) (drop from items)
linked_from m [] zero linked = linked
linked_from m [] (suc from) linked = linked
linked_from m (i ∷ is) zero linked = linked
linked_from m (i ∷ is) (suc from) linked = linked_from i.last.now is from linked.1

module _ (Stops Stands : Mounted → Type 0) (apart : (m : Mounted) → Stands m → Stops m → ⊥)
    (commands : (m : Mounted) (staged : Option (List ℕ)) (c : Command)
    → Stands m
    → until.Makes Stops Stands apart m (effect_on m staged c).later) where
  abbrev Until : List Mounted → Type 0
  Until ms = until.Until Stops Stands apart ms

  abbrev Good : Mounted → List Mounted → Type 0
  Good m ms = until.Good Stops Stands apart m ms

  abbrev Makes : Mounted → List Mounted → Type 0
  Makes m later = until.Makes Stops Stands apart m later

  abbrev ItemMakes : Mounted → Item Mounted → Type 0
  ItemMakes m i = until.ItemMakes Stops Stands apart m i

  abbrev EachMakes : Mounted → List (Item Mounted) → Type 0
  EachMakes m items = until.EachMakes Stops Stands apart m items

  nothing : (m : Mounted) → Stands m → Makes m []
  nothing m stands = until.made_nothing Stops Stands apart m stands

  -- ---- commands one after another

  then_makes : (m : Mounted) (xs ys : List Mounted)
      → Makes m xs
      → (Stands (last_of m xs) → Makes (last_of m xs) ys)
      → Makes m (xs ++ ys)
  then_makes m xs ys first rest = by first.last
    where
      by : Good (last_of m xs) xs → Makes m (xs ++ ys)
      by (inl stands) = record {
        until = until.until_append Stops Stands apart xs ys first.until (rest stands).until;
        last =
            elim (rest stands).last [
              | inl last ↦ inl (subst Stands (sym (last_append m xs ys)) last)
              | inr found ↦ inr (found_right Stops xs ys found)
            ];
      }
      by (inr found) = record {
        until = until.until_found Stops Stands apart xs ys first.until found;
        last = inr (found_left Stops xs ys found);
      }

  followed_makes : (m : Mounted) (e rest : Effect Mounted)
      → Makes m e.later
      → (Stands (last_of m e.later) → Makes (last_of m e.later) rest.later)
      → Makes m (followed e rest).later
  followed_makes m e rest first others = elim (cases_Bool (is_refused e.reply)) [
    | inl refused ↦ rw refused first
    | inr done ↦ rw done (then_makes m e.later rest.later first others)
  ]

  orders_make : (os : List Order) (m : Mounted) → Stands m → Makes m (effect_all os m).later
  unfolding effect_all
  orders_make [] m stands = nothing m stands
  orders_make (o ∷ os) m stands =
      let e : Effect Mounted = effect_one o m in
      followed_makes m e (effect_all os (after_of m e))
      (commands m o.staged (o.command m) stands)
      (λ last. orders_make os (after_of m e) last)

  -- ---- a life

  abbrev ActMakes : Act → Type 0
  ActMakes a = (m : Mounted) → Stands m → ItemMakes m (a.item m)

  abbrev EachActMakes : List Act → Type 0
  EachActMakes [] = Unit {0}
  EachActMakes (a ∷ xs) = ActMakes a × EachActMakes xs

  line_makes : (text : List ℕ) → ActMakes (line_act text)
  line_makes text m stands =
      until.item_makes Stops Stands apart m (line_item m text) [] refl refl stands
      (nothing m stands)

  install_makes : (set : List SetImage) → ActMakes (install_act set)
  install_makes set m stands =
      until.item_makes Stops Stands apart m (install_item m set) _ refl refl stands
      (orders_make _ m stands)

  act_makes : (front : List ℕ) (c : Command) → ActMakes (command_act front c)
  act_makes front c m stands =
      until.item_makes Stops Stands apart m ((command_act front c).item m)
      (effect_on m None c).later refl refl stands (commands m None c stands)

  acts_append : (xs ys : List Act) → EachActMakes xs → EachActMakes ys → EachActMakes (xs ++ ys)
  acts_append [] ys are others = others
  acts_append (a ∷ xs) ys are others = (are.0, acts_append xs ys are.1 others)

  repeats_make : (n : ℕ) (a : Act) → ActMakes a → EachActMakes (replicate n a)
  repeats_make zero a makes = tt
  repeats_make (suc n) a makes = (makes, repeats_make n a makes)

  digests_make : (set : List SetImage) → EachActMakes (map digest_act set)
  digests_make [] = tt
  digests_make (image ∷ set) =
      (act_makes (digest_front image) (Digest (target_name 0 image)), digests_make set)

  life_makes : (made : List ℕ) (next : List SetImage) (left : ℕ)
      → EachActMakes (life made next left)
  life_makes made next left =
      let merges : List Act = replicate (sevens left) (command_act [] (Merge 7)) in
      let digests : List Act = map digest_act next in (
        line_makes made,
        (
          install_makes next,
          acts_append take_over (merges ++ digests)
              (act_makes [] Boot, (act_makes [] Mark, (act_makes [] BeginMerge, tt)))
              (acts_append merges digests
              (repeats_make (sevens left) (command_act [] (Merge 7)) (act_makes [] (Merge 7)))
              (digests_make next)),
        ),
      )

  followed_each : (m : Mounted) (i : Item Mounted) (ends : Status) (rest : Course)
      → (Stands m → ItemMakes m i)
      → EachMakes i.last.now rest.items
      → EachMakes m (acts.followed i ends rest).items
  followed_each m i ends rest first others = by (is_done ends)
    where
      by : (done : Bool)
          → EachMakes m
          (cond {A = Course} done
          (record { items = i ∷ rest.items; last = rest.last; ends = rest.ends })
          (record { items = i ∷ []; last = i.last.now; ends = ends })).items
      by true = (first, others)
      by false = (first, tt)

  course_makes : (xs : List Act) (m : Mounted)
      → EachActMakes xs
      → EachMakes m (course xs m).items
  unfolding course
  course_makes [] m are = tt
  course_makes (a ∷ xs) m are =
      followed_each m (a.item m) (a.ends m) (course xs (a.item m).last.now)
      (are.0 m)
      (course_makes xs (a.item m).last.now are.1)

  -- ---- runs

  run_makes : (m : Mounted) (run : Run) → EachMakes m (items_in m run)
  run_makes m (Serves turns exchanges unfinished waits) =
      until.session_makes Stops Stands apart commands turns (nothing_staged m) exchanges unfinished
  run_makes m (Carries c) = (
    λ stands.
        until.item_makes Stops Stands apart m (verb_item m c) (effect_on m None c).later refl
        refl stands (commands m None c stands),
    tt,
  )
  run_makes m (Installs set) = (install_makes set m, tt)
  run_makes m (Tells text) = (line_makes text m, tt)
  run_makes m (Lives made next) =
      let left : ℕ = left_behind m next in
      course_makes (life made next left) m (life_makes made next left)

  -- what closes a run
  run_closes : (m : Mounted) (run : Run)
      → Stands (last_in m (items_in m run))
      → Makes (last_in m (items_in m run)) (closing_in m run)
  run_closes m (Serves turns exchanges unfinished waits) stands =
      until.closing_makes Stops Stands apart commands turns unfinished waits (nothing_staged m)
      exchanges stands
  run_closes m (Carries c) stands = nothing _ stands
  run_closes m (Installs set) stands = nothing _ stands
  run_closes m (Tells text) stands = nothing _ stands
  run_closes m (Lives made next) stands = nothing _ stands

  -- the steps behind the first of an item
  behind_first : (m : Mounted) (ms : List Mounted)
      → ms ≡ m ∷ later_of ms
      → Stands m
      → Until ms
      → Until (later_of ms)
  behind_first m ms same stands until = by (subst Until same until)
    where
      by : Until (m ∷ later_of ms) → Until (later_of ms)
      by (inl stops) = absurd (apart m stands stops)
      by (inr (here, rest)) = rest

  makes_from : (m : Mounted) (items : List (Item Mounted)) (from : ℕ)
      → EachMakes m items
      → EachMakes (after_items m items from) (drop from items)
  makes_from m [] zero makes = makes
  makes_from m [] (suc from) makes = makes
  makes_from m (i ∷ is) zero makes = makes
  makes_from m (i ∷ is) (suc from) makes = makes_from i.last.now is from makes.1

  -- the devices behind some items, and behind some steps of one more
  items_taken : (closing : List Mounted) (m : Mounted) (items : List (Item Mounted))
      (whole steps : ℕ)
      → AreLinked m items
      → EachMakes m items
      → (Stands (last_in m items) → Makes (last_in m items) closing)
      → Stands m
      → Good
      (last_of (after_items m items whole) (take steps (later_of (steps_at closing m items whole))))
      (flat_map (λ (i : Item Mounted). i.steps) (take whole items)
      ++ take steps (later_of (steps_at closing m items whole)))
  items_taken closing m [] zero steps linked makes closes stands =
      until.until_taken Stops Stands apart m closing steps stands (closes stands).until
  items_taken closing m [] (suc n) steps linked makes closes stands =
      until.until_taken Stops Stands apart m closing steps stands (closes stands).until
  items_taken closing m (i ∷ is) zero steps linked makes closes stands =
      until.until_taken Stops Stands apart m (later_of i.steps) steps stands
      (behind_first m i.steps linked.0 stands (makes.0 stands).until)
  items_taken closing m (i ∷ is) (suc n) steps linked makes closes stands =
      let rest : List Mounted = flat_map (λ (j : Item Mounted). j.steps) (take n is) in
      let more : List Mounted = take steps (later_of (steps_at closing i.last.now is n)) in
      let last : Mounted = last_of (after_items i.last.now is n) more in
      subst (Good last) (sym (append_assoc i.steps rest more))
      (elim (makes.0 stands).last [
        | inl next ↦
            elim (items_taken closing i.last.now is n steps linked.1 makes.1 closes next) [
              | inl at ↦ inl at
              | inr found ↦ inr (found_right Stops i.steps (rest ++ more) found)
            ]
        | inr found ↦ inr (found_left Stops i.steps (rest ++ more) found)
      ])

  pub lasts : (first : Mounted) (cuts : List Cut)
      → Stands first
      → Stands (folded first cuts) ⊎ Meets Stops first cuts
  lasts first [] stands = inl stands
  lasts first (c ∷ cs) stands =
      elim
      (items_taken (closing_in first c.run) first (items_in first c.run) c.whole c.steps
      (run_linked first c.run) (run_makes first c.run) (run_closes first c.run) stands) [
        | inl next ↦
            elim (lasts (after_cut first c) cs next) [
              | inl last ↦ inl last
              | inr some ↦ inr (inr some)
            ]
        | inr found ↦ inr (inl found)
      ]

  -- behind a moment of the first run
  first_from : (first : Mounted) (c : Cut) (from : ℕ)
      → from ≤ c.whole
      → Stands (after_items first (items_in first c.run) from)
      → Good (after_cut first c)
      (flat_map (λ (i : Item Mounted). i.steps)
      (take (c.whole - from) (drop from (items_in first c.run)))
      ++ take c.steps
      (later_of (steps_at (closing_in first c.run) first (items_in first c.run) c.whole)))
  first_from first c from below stands =
      let items : List (Item Mounted) = items_in first c.run in
      let m : Mounted = after_items first items from in
      let n : ℕ = c.whole - from in
      let some : List Mounted =
      flat_map (λ (i : Item Mounted). i.steps) (take n (drop from items)) in
      subst
      (λ (x : Mounted × List Mounted).
      Good (last_of x.0 (take c.steps (later_of x.1))) (some ++ take c.steps (later_of x.1)))
      (λ i. (
        after_from first items from c.whole below i,
        steps_from (closing_in first c.run) first items from c.whole below i,
      ))
      (items_taken (closing_in first c.run) m (drop from items) n c.steps
      (linked_from first items from (run_linked first c.run))
      (makes_from first items from (run_makes first c.run))
      (subst
      (λ (x : Mounted). Stands x → Makes x (closing_in first c.run))
      (sym (last_from first items from)) (run_closes first c.run)) stands)

  pub lasts_from : (first : Mounted) (c : Cut) (cs : List Cut) (from : ℕ)
      → from ≤ c.whole
      → Stands (after_items first (items_in first c.run) from)
      → Stands (folded first (c ∷ cs)) ⊎ MeetsBehind Stops first from (c ∷ cs)
  lasts_from first c cs from below stands =
      elim (first_from first c from below stands) [
        | inl next ↦
            elim (lasts (after_cut first c) cs next) [
              | inl last ↦ inl last
              | inr some ↦ inr (inr some)
            ]
        | inr found ↦ inr (inl found)
      ]

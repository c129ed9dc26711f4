-- What holds of a device, through the items of a session, until a device is reached on which it
-- stops.
use Rattle.std.proofs.Common.{◌≡◌, ◌⊎◌, inl, inr, ℕ, zero, suc, ◌-◌, ◌≤◌, ◌+◌, Bool, true, false}
use Rattle.std.proofs.Common.{cond, List, [], ◌∷◌, ◌++◌, length, take, drop, codes, Option, Some}
use Rattle.std.proofs.Common.{◌∙◌, None, Result, Ok, Err, refl, sym, subst, arith, append_assoc}
use Rattle.std.proofs.lemmas.List.{append_cancel_left}
use Rattle.std.specs.Prelude.{◌&&◌, nat_lt}
use Rattle.std.specs.List.{flat_map}
use Rattle.vab_disk.specs.Disk.{Outcome}
use Rattle.vab_model.specs.Commands.{Command, Boot, Merge}
use Rattle.vab_model.specs.Effects.{IsOneOf, last_of}
use Rattle.vab_device.specs.Mounted.{Mounted}
use Rattle.vab_device.specs.Reading.{IsIn}
use Rattle.vab_device.specs.Updates.{effect_on}
use Rattle.vab_fbproto.specs.Requests.{Asked, Getvar, Download, Do, MergeAll, BootAndEnd}
use Rattle.vab_fbproto.specs.Requests.{request_of}
use Rattle.vab_fbproto.specs.declared.request.BadCommand.{BadCommand}
use Rattle.vab_exchanges.specs.Session.{Exchange, packet, most_data}
use Rattle.vab_exchanges.specs.Items.{Response, Kept, Item, item_by, item_of, item_open, items_of}
use Rattle.vab_exchanges.specs.Items.{later_of, behind, passed, item_behind, open_behind}
use Rattle.vab_exchanges.specs.Items.{closing_of}
use Rattle.vab_exchanges.specs.Items.{item_asked, item_still, item_staged, item_download, item_done}
use Rattle.vab_exchanges.specs.Items.{kept_after, unless_refused, no_memory}
use Rattle.vab_exchanges.specs.Runs.{acknowledged, steps_at, CrashesWithin}
use Rattle.vab_session.specs.Alone.{Finds, reached_in}
use Rattle.vab_exchanges.proofs.RunLaws.{last_in, item_begins, open_begins}
use Rattle.vab_session.specs.Responses.{response, left_of, turns_between, machine}

-- the last of some and of others behind them
pub last_append : (m : Mounted) (xs ys : List Mounted)
    → last_of m (xs ++ ys) ≡ last_of (last_of m xs) ys
last_append m [] ys = refl
last_append m (x ∷ xs) ys = last_append x xs ys

module _ (Stops : Mounted → Type 0) where
  found_here : (x : Mounted) (xs : List Mounted) → Stops x → Finds Stops (x ∷ xs)
  found_here x xs stops = record { mounted = x; reached = inl refl; is = stops }

  pub found_later : (x : Mounted) (xs : List Mounted) → Finds Stops xs → Finds Stops (x ∷ xs)
  found_later x xs found =
      record { mounted = found.mounted; reached = inr found.reached; is = found.is }

  pub found_left : (xs ys : List Mounted) → Finds Stops xs → Finds Stops (xs ++ ys)
  found_left xs ys found =
      record { mounted = found.mounted; reached = left xs found.reached; is = found.is }
    where
      left : (zs : List Mounted) → IsOneOf zs found.mounted → IsOneOf (zs ++ ys) found.mounted
      left [] none = absurd none
      left (z ∷ zs) (inl here) = inl here
      left (z ∷ zs) (inr there) = inr (left zs there)

  pub found_right : (xs ys : List Mounted) → Finds Stops ys → Finds Stops (xs ++ ys)
  found_right [] ys found = found
  found_right (x ∷ xs) ys found = found_later x (xs ++ ys) (found_right xs ys found)

  module _ (Stands : Mounted → Type 0) (apart : (m : Mounted) → Stands m → Stops m → ⊥) where
    -- it holds of each of these, until on one it stops
    abbrev pub Until : List Mounted → Type 0
    Until [] = Unit {0}
    Until (x ∷ xs) = Stops x ⊎ (Stands x × Until xs)

    -- it holds of this one, or stopped before
    abbrev pub Good : Mounted → List Mounted → Type 0
    Good m ms = Stands m ⊎ Finds Stops ms

    until_all : (ms : List Mounted)
        → ((x : Mounted) → IsOneOf ms x → Stands x)
        → Until ms
    until_all [] are = tt
    until_all (x ∷ xs) are =
        inr (are x (inl refl), until_all xs (λ y later. are y (inr later)))

    pub until_append : (xs ys : List Mounted) → Until xs → Until ys → Until (xs ++ ys)
    until_append [] ys until more = more
    until_append (x ∷ xs) ys (inl stops) more = inl stops
    until_append (x ∷ xs) ys (inr (stands, until)) more =
        inr (stands, until_append xs ys until more)

    pub until_found : (xs ys : List Mounted) → Until xs → Finds Stops xs → Until (xs ++ ys)
    until_found [] ys until found = absurd found.reached
    until_found (x ∷ xs) ys (inl stops) found = inl stops
    until_found (x ∷ xs) ys (inr (stands, until)) found =
        elim found.reached [
          | inl here ↦ absurd (apart x stands (subst Stops here found.is))
          | inr there ↦
              inr (
                stands,
                until_found xs ys until
                    (record { mounted = found.mounted; reached = there; is = found.is }),
              )
        ]

    -- one of them
    until_one : (ms : List Mounted) (x : Mounted) → Until ms → IsOneOf ms x → Good x ms
    until_one [] x until at = absurd at
    until_one (y ∷ ys) x (inl stops) at = inr (found_here y ys stops)
    until_one (y ∷ ys) x (inr (stands, until)) (inl here) = inl (subst Stands (sym here) stands)
    until_one (y ∷ ys) x (inr (stands, until)) (inr there) =
        elim (until_one ys x until there) [
          | inl stays ↦ inl stays
          | inr found ↦ inr (found_later y ys found)
        ]

    -- the only one
    only : (m x : Mounted) → Stands m → IsOneOf (m ∷ []) x → Stands x
    only m x stands (inl here) = subst Stands (sym here) stands
    only m x stands (inr there) = absurd there

    -- some first ones of them
    pub until_taken : (m : Mounted) (ms : List Mounted) (n : ℕ)
        → Stands m
        → Until ms
        → Good (last_of m (take n ms)) (take n ms)
    until_taken m ms zero stands until = inl stands
    until_taken m [] (suc n) stands until = inl stands
    until_taken m (x ∷ xs) (suc n) stands (inl stops) = inr (found_here x (take n xs) stops)
    until_taken m (x ∷ xs) (suc n) stands (inr (next, until)) =
        elim (until_taken x xs n next until) [
          | inl last ↦ inl last
          | inr found ↦ inr (found_later x (take n xs) found)
        ]

    -- ---- a command

    -- what is made of this device
    pub record Makes (m : Mounted) (later : List Mounted) : Type 0 where
      pub until : Until later
      pub last : Good (last_of m later) later

    -- it stops behind it
    pub made_stop : (m x : Mounted) → Stops x → Makes m (x ∷ [])
    made_stop m x stops = record { until = inl stops; last = inr (found_here x [] stops) }

    -- nothing is done
    pub made_nothing : (m : Mounted) → Stands m → Makes m []
    made_nothing m stands = record { until = tt; last = inl stands }

    last_stands : (m : Mounted) (ms : List Mounted)
        → Stands m
        → ((x : Mounted) → IsOneOf ms x → Stands x)
        → Stands (last_of m ms)
    last_stands m [] is are = is
    last_stands m (x ∷ xs) is are =
        last_stands x xs (are x (inl refl)) (λ y later. are y (inr later))

    -- it holds all along
    pub made_all : (m : Mounted) (ms : List Mounted)
        → Stands m
        → ((x : Mounted) → IsOneOf ms x → Stands x)
        → Makes m ms
    made_all m ms stands are = record {
      until = until_all ms are;
      last = inl (last_stands m ms stands are);
    }

    -- ---- items

    -- what an item makes of this device
    pub record ItemMakes (m : Mounted) (i : Item Mounted) : Type 0 where
      pub until : Until i.steps
      pub last : Good i.last.now i.steps

    -- its steps are this device and those behind it
    pub item_makes : (m : Mounted) (i : Item Mounted) (later : List Mounted)
        → i.steps ≡ m ∷ later
        → i.last.now ≡ last_of m later
        → Stands m
        → Makes m later
        → ItemMakes m i
    item_makes m i later steps last stands makes = record {
      until = subst Until (sym steps) (inr (stands, makes.until));
      last =
          elim makes.last [
            | inl at ↦ inl (subst Stands (sym last) at)
            | inr found ↦ inr (subst (Finds Stops) (sym steps) (found_later m later found))
          ];
    }

    -- a step of one item alone
    pub item_step : (m : Mounted) (i : Item Mounted) (n : ℕ) (x : Mounted)
        → ItemMakes m i
        → IsOneOf (steps_at [] m (i ∷ []) n) x
        → Good x i.steps
    item_step m i zero x makes at = until_one i.steps x makes.until at
    item_step m i (suc n) x makes at = by makes.last
      where
        by : Good i.last.now i.steps → Good x i.steps
        by (inl stands) = inl (only i.last.now x stands (behind n at))
          where
            behind : (k : ℕ)
                → IsOneOf (steps_at [] i.last.now [] k) x
                → IsOneOf (i.last.now ∷ []) x
            behind zero is = is
            behind (suc k) is = is
        by (inr found) = inr found

    -- each item, where it holds before it
    abbrev pub EachMakes : Mounted → List (Item Mounted) → Type 0
    EachMakes m [] = Unit {0}
    EachMakes m (i ∷ is) = (Stands m → ItemMakes m i) × EachMakes i.last.now is

    unless_makes : (m : Mounted) (refused : Bool) (e : Response Mounted)
        → Stands m
        → Makes m e.later
        → Makes m (unless_refused refused e).later
    unless_makes m false e stands makes = makes
    unless_makes m true e stands makes = by_want e.may_want
      where
        by_want : (b : Bool)
            → (let r : Response Mounted = cond b no_memory e in Makes m r.later)
        by_want true = made_nothing m stands
        by_want false = makes

    still_makes : (k : Kept Mounted) (told : List ℕ)
        → Stands k.now
        → ItemMakes k.now (item_still k told)
    still_makes k told stands =
        item_makes k.now (item_still k told) [] refl refl stands (made_nothing k.now stands)

    either_item : (m : Mounted) (b : Bool) (i j : Item Mounted)
        → ItemMakes m i
        → ItemMakes m j
        → ItemMakes m (cond b i j)
    either_item m true i j is other = is
    either_item m false i j is other = other

    downloads : (k : Kept Mounted) (size : ℕ) (refused : Bool) (parts : List (List ℕ))
        → Stands k.now
        → ItemMakes k.now (item_download k size refused parts)
    downloads k size refused parts stands =
        let large : List ℕ = packet (codes "FAILtoo large") in
        let wanting : List ℕ = packet (codes "FAILout of memory") in
        let is_refused : Bool = refused && nat_lt 0 size in
        let whole : Item Mounted = item_staged k size parts in
        either_item k.now (nat_lt most_data size)
        (item_still k large)
        (cond is_refused (item_still k wanting) whole)
        (still_makes k large stands)
        (either_item k.now is_refused (item_still k wanting) whole
        (still_makes k wanting stands)
        (item_makes k.now whole [] refl refl stands (made_nothing k.now stands)))

    -- ---- a session, where each command makes it so

    module _ (commands : (m : Mounted) (staged : Option (List ℕ)) (c : Command)
        → Stands m
        → Makes m (effect_on m staged c).later) where
      responds : (m : Mounted) (staged : Option (List ℕ)) (asked : Result Asked BadCommand)
          → Stands m
          → Makes m (response m staged asked).later
      responds m staged (Ok (Getvar variable)) stands = made_nothing m stands
      responds m staged (Ok (Download size)) stands = made_nothing m stands
      responds m staged (Ok (Do c)) stands = commands m staged c stands
      responds m staged (Ok MergeAll) stands =
          commands m staged (Merge (left_of m.state.phase + 1)) stands
      responds m staged (Ok BootAndEnd) stands = commands m staged Boot stands
      responds m staged (Err bad) stands = made_nothing m stands

      dones : (k : Kept Mounted) (refused : Bool) (asked : Result Asked BadCommand)
          → Stands k.now
          → ItemMakes k.now (item_done response k refused asked)
      dones k refused asked stands =
          let e : Response Mounted = unless_refused refused (response k.now k.staged asked) in
          item_makes k.now (item_by k e) e.later refl refl stands
          (unless_makes k.now refused (response k.now k.staged asked) stands
          (responds k.now k.staged asked stands))

      asks : (k : Kept Mounted) (refused : Bool) (parts : List (List ℕ))
          (asked : Result Asked BadCommand)
          → Stands k.now
          → ItemMakes k.now (item_asked response k refused parts asked)
      asks k refused parts (Ok (Download size)) stands = downloads k size refused parts stands
      asks k refused parts (Ok BootAndEnd) stands = dones k refused (Ok BootAndEnd) stands
      asks k refused parts (Ok MergeAll) stands = dones k refused (Ok MergeAll) stands
      asks k refused parts (Ok (Getvar variable)) stands =
          dones k refused (Ok (Getvar variable)) stands
      asks k refused parts (Ok (Do command)) stands = dones k refused (Ok (Do command)) stands
      asks k refused parts (Err bad) stands = dones k refused (Err bad) stands

      exchanged : (k : Kept Mounted) (s : Exchange)
          → Stands k.now
          → ItemMakes k.now (item_of response k s)
      unfolding item_of
      exchanged k s stands = asks k s.refused s.parts (request_of s.command) stands

      opened : (k : Kept Mounted) (command : List ℕ)
          → Stands k.now
          → ItemMakes k.now (item_open response k command)
      unfolding item_open
      opened k command stands = still_makes k _ stands

      -- the turns of a merge between two packets
      pub goes_on : (turns : ℕ) (m : Mounted) → Stands m → Makes m (turns_between turns m)
      goes_on turns m stands = commands m None (Merge turns) stands

      -- an item with them in front of it
      behind_makes : (m : Mounted) (front : List Mounted) (i : Item Mounted)
          → i.steps ≡ last_of m front ∷ later_of i.steps
          → Stands m
          → Makes m front
          → (Stands (last_of m front) → ItemMakes (last_of m front) i)
          → ItemMakes m (behind m front i)
      behind_makes m front i begins stands made makes = by made.last
        where
          later : List Mounted
          later = later_of i.steps

          rest : Stands (last_of m front) → Until i.steps → Until later
          rest at is = unfirst (subst Until begins is)
            where
              unfirst : Until (last_of m front ∷ later) → Until later
              unfirst (inl stops) = absurd (apart (last_of m front) at stops)
              unfirst (inr (here, until)) = until

          further : Stands (last_of m front)
              → Finds Stops i.steps
              → Finds Stops (m ∷ (front ++ later))
          further at found =
              let there : Finds Stops (last_of m front ∷ later) =
              subst (Finds Stops) begins found in
              elim there.reached [
                | inl here ↦
                    absurd (apart (last_of m front) at (subst Stops here there.is))
                | inr behind ↦
                    found_later m (front ++ later)
                    (found_right front later
                    (record { mounted = there.mounted; reached = behind; is = there.is }))
              ]

          by : Good (last_of m front) front → ItemMakes m (behind m front i)
          by (inl at) = record {
            until =
                inr (stands, until_append front later made.until (rest at (makes at).until));
            last =
                elim (makes at).last [
                  | inl last ↦ inl last
                  | inr found ↦ inr (further at found)
                ];
          }
          by (inr found) = record {
            until = inr (stands, until_found front later made.until found);
            last = inr (found_later m (front ++ later) (found_left front later found));
          }

      module _ (turns : ℕ) where
        exchange_makes : (k : Kept Mounted) (s : Exchange)
            → Stands k.now
            → ItemMakes k.now (item_behind (machine turns) k s)
        exchange_makes k s stands =
            let k' : Kept Mounted = passed (machine turns) k in
            behind_makes k.now (turns_between turns k.now) (item_of response k' s)
            (item_begins response k' s) stands (goes_on turns k.now stands)
            (λ at. exchanged k' s at)

        open_makes : (k : Kept Mounted) (command : List ℕ)
            → Stands k.now
            → ItemMakes k.now (open_behind (machine turns) k command)
        open_makes k command stands =
            let k' : Kept Mounted = passed (machine turns) k in
            behind_makes k.now (turns_between turns k.now) (item_open response k' command)
            (open_begins response k' command) stands (goes_on turns k.now stands)
            (λ at. opened k' command at)

        pub session_makes : (k : Kept Mounted) (exchanges : List Exchange)
            (unfinished : Option (List ℕ))
            → EachMakes k.now (items_of (machine turns) k exchanges unfinished)
        session_makes k [] None = tt
        session_makes k [] (Some command) = (open_makes k command, tt)
        session_makes k (s ∷ ss) unfinished = (
          exchange_makes k s,
          session_makes (item_behind (machine turns) k s).last ss unfinished,
        )

        -- what closes a session
        pub closing_makes : (unfinished : Option (List ℕ)) (waits : Bool) (k : Kept Mounted)
            (exchanges : List Exchange)
            → Stands (last_in k.now (items_of (machine turns) k exchanges unfinished))
            → Makes (last_in k.now (items_of (machine turns) k exchanges unfinished))
            (closing_of (machine turns) unfinished waits (kept_after (machine turns) k exchanges))
        closing_makes None true k [] stands = goes_on turns k.now stands
        closing_makes None false k [] stands = made_nothing k.now stands
        closing_makes (Some command) waits k [] stands =
            made_nothing (open_behind (machine turns) k command).last.now stands
        closing_makes unfinished waits k (s ∷ ss) stands =
            closing_makes unfinished waits (item_behind (machine turns) k s).last ss stands

        -- ---- the steps of a session

        -- a step of the item behind the first n of some
        pub items_step : (closing : List Mounted) (m : Mounted) (items : List (Item Mounted))
            (n : ℕ) (x : Mounted)
            → EachMakes m items
            → (Stands (last_in m items) → Makes (last_in m items) closing)
            → Stands m
            → IsOneOf (steps_at closing m items n) x
            → Good x
            (flat_map (λ (i : Item Mounted). i.steps) (take n items)
            ++ steps_at closing m items n)
        items_step closing m [] zero x makes closes stands at =
            until_one (m ∷ closing) x (inr (stands, (closes stands).until)) at
        items_step closing m [] (suc n) x makes closes stands at =
            until_one (m ∷ closing) x (inr (stands, (closes stands).until)) at
        items_step closing m (i ∷ is) zero x makes closes stands at =
            until_one i.steps x (makes.0 stands).until at
        items_step closing m (i ∷ is) (suc n) x makes closes stands at =
            let rest : List Mounted = flat_map (λ (j : Item Mounted). j.steps) (take n is) in
            let more : List Mounted = steps_at closing i.last.now is n in
            subst (Good x) (sym (append_assoc i.steps rest more))
            (elim (makes.0 stands).last [
              | inl next ↦
                  elim (items_step closing i.last.now is n x makes.1 closes next at) [
                    | inl stays ↦ inl stays
                    | inr found ↦ inr (found_right i.steps (rest ++ more) found)
                  ]
              | inr found ↦ inr (found_left i.steps (rest ++ more) found)
            ])

        -- the same behind some exchanges
        session_step : (first : Kept Mounted) (done later : List Exchange)
            (unfinished : Option (List ℕ)) (waits : Bool) (n : ℕ) (x : Mounted)
            → Stands (kept_after (machine turns) first done).now
            → length done ≤ n
            → IsOneOf
            (steps_at
            (closing_of (machine turns) unfinished waits
            (kept_after (machine turns) first (done ++ later)))
            first.now (items_of (machine turns) first (done ++ later) unfinished) n) x
            → Good x
            (reached_in turns (kept_after (machine turns) first done) later unfinished waits
            (n - length done))
        session_step first [] later unfinished waits n x stands behind at =
            let same : n ≡ n - 0 = omega arith in
            subst (λ (j : ℕ). Good x (reached_in turns first later unfinished waits j)) same
            (items_step
            (closing_of (machine turns) unfinished waits (kept_after (machine turns) first later))
            first.now (items_of (machine turns) first later unfinished) n x
            (session_makes first later unfinished) (closing_makes unfinished waits first later)
            stands at)
        session_step first (s ∷ done) later unfinished waits zero x stands behind at =
            absurd (omega (arith, behind))
        session_step first (s ∷ done) later unfinished waits (suc n) x stands behind at =
            let k : Kept Mounted =
            kept_after (machine turns) (item_behind (machine turns) first s).last done in
            let same : n - length done ≡ suc n - length (s ∷ done) = omega arith in
            subst (λ (j : ℕ). Good x (reached_in turns k later unfinished waits j)) same
            (session_step (item_behind (machine turns) first s).last done later unfinished waits n
            x stands (omega (arith, behind)) at)

        -- Where that much was told, each cut of power leaves a device of which it holds, or it had
        -- stopped.
        pub holds_at_cut : (size : ℕ) (first : Kept Mounted) (exchanges done later : List Exchange)
            (unfinished : Option (List ℕ)) (waits : Bool) (told : List ℕ) (o : Outcome)
            → CrashesWithin (IsIn size) (codes "FB01") first.now
            (items_of (machine turns) first exchanges unfinished)
            (closing_of (machine turns) unfinished waits
            (kept_after (machine turns) first exchanges))
            told o
            → exchanges ≡ done ++ later
            → Stands (kept_after (machine turns) first done).now
            → (since : List ℕ)
            → o.told ≡ told ++ since
            → length done
            ≤ acknowledged (items_of (machine turns) first exchanges unfinished) (drop 4 since)
            → ((x : Mounted) × Stands x × IsIn size x o.image)
            ⊎ Finds Stops
            (reached_in turns (kept_after (machine turns) first done) later unfinished waits
            (acknowledged (items_of (machine turns) first exchanges unfinished) (drop 4 since)
            - length done))
        holds_at_cut size first exchanges done later unfinished waits told o crash is stands since
            told_is behind =
            let same : crash.since ≡ since =
            append_cancel_left told crash.since since (sym crash.told_since ∙ told_is) in
            let items : List (Item Mounted) = items_of (machine turns) first exchanges unfinished in
            let closing : List Exchange → List Mounted =
            λ l. closing_of (machine turns) unfinished waits (kept_after (machine turns) first l) in
            let n : ℕ = acknowledged items (drop 4 since) in
            let x : Mounted = crash.step.0 in
            let step : IsOneOf (steps_at (closing exchanges) first.now items n) x =
            subst
            (λ (l : List ℕ).
            IsOneOf (steps_at (closing exchanges) first.now items (acknowledged items (drop 4 l)))
            x)
            same crash.step.1 in
            elim
            (session_step first done later unfinished waits n x stands behind
            (subst
            (λ (l : List Exchange). IsOneOf
            (steps_at (closing l) first.now (items_of (machine turns) first l unfinished) n) x)
            is step)) [
              | inl stays ↦ inl (x, stays, crash.step.2)
              | inr found ↦ inr found
            ]

-- An item that is done, and the items that stand whole after it.
use Rattle.std.proofs.Common.{◌≡◌, ◌⊎◌, inl, inr, ⊎_elim, ℕ, suc, min, ◌+◌, ◌-◌, ◌<◌, ◌≤◌, Bool}
use Rattle.std.proofs.Common.{true, false, cond, List, [], ◌∷◌, ◌++◌, Option, Some, None, Result}
use Rattle.std.proofs.Common.{Ok, Err, length, take, drop, refl, sym, ◌∙◌, ap, subst, arith, codes}
use Rattle.std.proofs.Common.{append_assoc, length-append, length-take, take-append-drop}
use Rattle.std.proofs.lemmas.List.{take_at, drop_at, take_all, drop_all, take-append-le, append-nil}
use Rattle.std.proofs.lemmas.List.{take_min}
use Rattle.std.proofs.Math.Seq.{take-append-add}
use Rattle.std.proofs.lemmas.Bool.{cases_eq}
use Rattle.std.proofs.lemmas.Bool.Decides.{nat_tests}
use Rattle.std.specs.Prelude.{◌&&◌, nat_lt}
use Rattle.std.specs.Int.{w64, to_be_bytes}
use Rattle.vab_disk.specs.Disk.{Image, Outcome}
use Rattle.vab_disk.specs.Port.{LeavesSaying}
use Rattle.vab_fbproto.specs.Requests.{Asked, Getvar, Download, Do, MergeAll, BootAndEnd}
use Rattle.vab_fbproto.specs.Requests.{request_of}
use Rattle.vab_fbproto.specs.declared.request.BadCommand.{BadCommand}
use Rattle.vab_model.specs.Effects.{IsOneOf, last_of}
use Rattle.vab_exchanges.specs.Session.{packet, most_data, Exchange}
use Rattle.vab_exchanges.specs.Items.{Response, Kept, Item, joined, item_by, item_still, item_asked}
use Rattle.vab_exchanges.specs.Items.{item_of, item_open, items_of, kept_after, unless_refused}
use Rattle.vab_exchanges.specs.Items.{data_text, later_of, behind, Machine, passed, item_behind}
use Rattle.vab_exchanges.specs.Items.{open_behind, item_staged}
use Rattle.vab_exchanges.specs.Runs.{acknowledged, steps_at, StandsForOne, CrashesWithin}
use Rattle.vab_exchanges.specs.Runs.{LeavesItem}

-- all of these are among those
abbrev pub HasAll : {S : Type 0} → (some all : List S) → Type 0
HasAll {S} some all = (x : S) → IsOneOf some x → IsOneOf all x

-- Each item begins with the situation before it, the first one with all of these, and something is
-- told of it; where there is none, these are what closes the run.
abbrev pub IsChain : {S : Type 0}
    → (closing : List S)
    → S
    → (here : List S)
    → List (Item S)
    → Type 0
IsChain closing s here [] = HasAll (s ∷ here) (s ∷ closing)
IsChain closing s here (i ∷ is) =
    HasAll (s ∷ here) i.steps × (0 < length i.reply) × IsChain closing i.last.now [] is

only_first : {S : Type 0} (s : S) (all : List S) → IsOneOf all s → HasAll (s ∷ []) all
only_first s all at x (inl same) = subst (IsOneOf all) (sym same) at
only_first s all at x (inr none) = absurd none

-- the situation behind some items
abbrev pub last_in : {S : Type 0} → S → List (Item S) → S
last_in s [] = s
last_in s (i ∷ is) = last_in i.last.now is

-- nothing has come behind the last item
pub closes : {S : Type 0} (closing : List S) (s : S) → IsChain closing s [] []
closes closing s = only_first s (s ∷ closing) (inl refl)

pub packet_some : (b : List ℕ) → 0 < length (packet b)
unfolding packet
packet_some b = omega (arith, length-append (to_be_bytes w64 (length b)) b)

module _ {S : Type 0} (IsIn : S → Image → Type 0) where
  -- ---- what stands whole

  none_told : (closing : List S) (s : S) (here : List S) (is : List (Item S))
      → IsChain closing s here is
      → acknowledged is [] ≡ 0
  none_told closing s here [] chain = refl
  none_told closing s here (i ∷ is) chain =
      let some : 0 < length i.reply = chain.1 in grind (arith, nat_tests)

  one_told : (i : Item S) (is : List (Item S)) (rest : List ℕ)
      → acknowledged (i ∷ is) (i.reply ++ rest) ≡ suc (acknowledged is rest)
  one_told i is rest =
      let le : length i.reply ≤ length (i.reply ++ rest) =
      omega (arith, length-append i.reply rest) in
      let yes : acknowledged (i ∷ is) (i.reply ++ rest)
      ≡ suc (acknowledged is (drop (length i.reply) (i.reply ++ rest))) =
      grind (arith, nat_tests) in
      yes
      ∙ ap (λ (l : List ℕ). suc (acknowledged is l))
      (drop_at i.reply rest (length i.reply) refl)

  -- in the middle of an item, or at its end
  told_up_to : (closing : List S) (done later : List (Item S)) (i : Item S)
      → IsChain closing i.last.now [] later
      → (m : ℕ)
      → (acknowledged (done ++ i ∷ later) (joined done ++ take m i.reply) ≡ length done)
      ⊎
      ((acknowledged (done ++ i ∷ later) (joined done ++ take m i.reply) ≡ suc (length done))
      × (take m i.reply ≡ i.reply))
  told_up_to closing [] later i chain m =
      elim (cases_eq (length i.reply - length (take m i.reply)) 0) [
        | inl all ↦
            let whole : take m i.reply ≡ i.reply =
            take_all m i.reply (omega (arith, all, length-take m i.reply)) in
            let one : acknowledged (i ∷ later) (i.reply ++ []) ≡ suc (acknowledged later []) =
            one_told i later [] in
            let same : take m i.reply ≡ i.reply ++ [] = whole ∙ sym (append-nil i.reply) in
            inr (
              ap (λ (l : List ℕ). acknowledged (i ∷ later) l) same
                  ∙ one
                  ∙ ap suc (none_told closing i.last.now [] later chain),
              whole,
            )
        | inr part ↦ let short : length (take m i.reply) < length i.reply =
            omega (arith, part) in inl (grind (arith, nat_tests))
      ]
  told_up_to closing (j ∷ done) later i chain m =
      let rest = joined done ++ take m i.reply in
      let one : acknowledged ((j ∷ done) ++ i ∷ later)
      ((j.reply ++ joined done) ++ take m i.reply)
      ≡ suc (acknowledged (done ++ i ∷ later) rest) =
      ap (λ (l : List ℕ). acknowledged (j ∷ (done ++ i ∷ later)) l)
      (append_assoc j.reply (joined done) (take m i.reply))
      ∙ one_told j (done ++ i ∷ later) rest in
      ⊎_elim (λ was. inl (one ∙ ap suc was)) (λ now. inr (one ∙ ap suc now.0, now.1))
      (told_up_to closing done later i chain m)

  -- ---- items behind one another

  pub joined_append : (is js : List (Item S)) → joined (is ++ js) ≡ joined is ++ joined js
  joined_append [] js = refl
  joined_append (i ∷ is) js =
      ap (λ (l : List ℕ). i.reply ++ l) (joined_append is js)
      ∙ sym (append_assoc i.reply (joined is) (joined js))

  steps_first : (closing : List S) (s : S) (here : List S) (is : List (Item S))
      → IsChain closing s here is
      → HasAll (s ∷ here) (steps_at closing s is 0)
  steps_first closing s here [] chain = chain
  steps_first closing s here (i ∷ is) chain = chain.0

  -- the steps of the item behind the first ones, and those of the next begin with its last
  steps_here : (closing : List S) (s : S) (done : List (Item S)) (i : Item S)
      (later : List (Item S))
      → steps_at closing s (done ++ i ∷ later) (length done) ≡ i.steps
  steps_here closing s [] i later = refl
  steps_here closing s (j ∷ done) i later = steps_here closing j.last.now done i later

  steps_next : (closing : List S) (s : S) (done : List (Item S)) (i : Item S)
      (later : List (Item S))
      → IsChain closing i.last.now [] later
      → IsOneOf (steps_at closing s (done ++ i ∷ later) (suc (length done))) i.last.now
  steps_next closing s [] i later chain =
      steps_first closing i.last.now [] later chain i.last.now (inl refl)
  steps_next closing s (j ∷ done) i later chain = steps_next closing j.last.now done i later chain

  -- what was told so far, in the middle of an item, is a front of all
  pub front_at : (greeting : List ℕ) (done later : List (Item S)) (i : Item S) (m : ℕ)
      → (k : ℕ)
      ×
      (greeting ++ (joined done ++ take m i.reply)
      ≡ take k (greeting ++ joined (done ++ i ∷ later)))
  front_at greeting done later i m =
      let r = i.reply in
      let front = greeting ++ (joined done ++ take m r) in
      let all : greeting ++ joined (done ++ i ∷ later) ≡ front ++ (drop m r ++ joined later) =
      ap (λ (l : List ℕ). greeting ++ l)
      (joined_append done (i ∷ later)
      ∙ ap (λ (l : List ℕ). joined done ++ (l ++ joined later)) (sym (take-append-drop m r)))
      ∙ ap (λ (l : List ℕ). greeting ++ (joined done ++ l))
      (append_assoc (take m r) (drop m r) (joined later))
      ∙ ap (λ (l : List ℕ). greeting ++ l)
      (sym (append_assoc (joined done) (take m r) (drop m r ++ joined later)))
      ∙ sym (append_assoc greeting (joined done ++ take m r) (drop m r ++ joined later)) in (
        length front,
        sym (take_at front (drop m r ++ joined later) (length front) refl)
            ∙ ap (λ (l : List ℕ). take (length front) l) (sym all),
      )

  -- One item more of a run: what its outcomes are in the run.
  pub within_item : (greeting : List ℕ) (closing : List S) (first : S)
      (done later : List (Item S)) (i : Item S) (told told' : List ℕ)
      → IsChain closing i.last.now [] later
      → told' ≡ told ++ (greeting ++ joined done)
      → (o : Outcome)
      → LeavesItem IsIn told' i o
      → CrashesWithin IsIn greeting first (done ++ i ∷ later) closing told o
  within_item greeting closing first done later i told told' chain so_far o leaves =
      let all = done ++ i ∷ later in
      let m = leaves.front.0 in
      let part = joined done ++ take m i.reply in
      let since = greeting ++ part in
      let told_is : o.told ≡ told ++ since =
      leaves.front.1
      ∙ ap (λ (l : List ℕ). l ++ take m i.reply) so_far
      ∙ append_assoc told (greeting ++ joined done) (take m i.reply)
      ∙ ap (λ (l : List ℕ). told ++ l) (append_assoc greeting (joined done) (take m i.reply))
      in
      let behind : drop (length greeting) since ≡ part =
      drop_at greeting part (length greeting) refl in
      let at : (n : ℕ)
      → acknowledged all part ≡ n
      → StandsForOne IsIn (steps_at closing first all n) o.image
      → StandsForOne IsIn
      (steps_at closing first all (acknowledged all (drop (length greeting) since))) o.image =
      λ n is stands. subst (λ (k : ℕ). StandsForOne IsIn (steps_at closing first all k) o.image)
      (sym (ap (acknowledged all) behind ∙ is)) stands in
      record {
        since = since;
        told_since = told_is;
        front = front_at greeting done later i m;
        step = ⊎_elim
            (λ none. at (length done) none
            (subst (λ (l : List S). StandsForOne IsIn l o.image)
            (sym (steps_here closing first done i later)) leaves.step))
            (λ one. at (suc (length done)) one.0 (
              i.last.now,
              steps_next closing first done i later chain,
              leaves.whole (leaves.front.1 ∙ ap (λ (l : List ℕ). told' ++ l) one.1),
            ))
            (told_up_to closing done later i chain m);
      }

  -- Before the first item: a front of the greeting is told.
  pub within_greeting : (greeting : List ℕ) (closing : List S) (first : S) (is : List (Item S))
      (told : List ℕ) (o : Outcome) (n : ℕ)
      → IsChain closing first [] is
      → n ≤ length greeting
      → o.told ≡ told ++ take n greeting
      → IsIn first o.image
      → CrashesWithin IsIn greeting first is closing told o
  within_greeting greeting closing first is told o n chain fits told_is stands =
      let none : drop (length greeting) (take n greeting) ≡ [] =
      drop_all (length greeting) (take n greeting) (omega (arith, length-take n greeting)) in
      let count : acknowledged is (drop (length greeting) (take n greeting)) ≡ 0 =
      ap (λ (l : List ℕ). acknowledged is l) none ∙ none_told closing first [] is chain in
      record {
        since = take n greeting;
        told_since = told_is;
        front = (n, sym (take-append-le n greeting (joined is) fits));
        step =
            subst (λ (k : ℕ). StandsForOne IsIn (steps_at closing first is k) o.image) (sym count)
            (first, steps_first closing first [] is chain first (inl refl), stands);
      }

  -- ---- between two items

  steps_between : (closing : List S) (s : S) (done later : List (Item S))
      → steps_at closing s (done ++ later) (length done)
      ≡ steps_at closing (last_in s done) later 0
  steps_between closing s [] later = refl
  steps_between closing s (j ∷ done) later = steps_between closing j.last.now done later

  told_between : (closing : List S) (done later : List (Item S)) (s : S) (here : List S)
      → IsChain closing s here later
      → acknowledged (done ++ later) (joined done) ≡ length done
  told_between closing [] later s here chain = none_told closing s here later chain
  told_between closing (j ∷ done) later s here chain =
      one_told j (done ++ later) (joined done)
      ∙ ap suc (told_between closing done later s here chain)

  -- what was told so far, between two items, is a front of all
  front_between : (greeting : List ℕ) (done later : List (Item S))
      → greeting ++ joined done
      ≡ take (length (greeting ++ joined done)) (greeting ++ joined (done ++ later))
  front_between greeting done later =
      let front = greeting ++ joined done in
      sym (take_at front (joined later) (length front) refl)
      ∙ ap (take (length front))
      (append_assoc greeting (joined done) (joined later)
      ∙ ap (λ (l : List ℕ). greeting ++ l) (sym (joined_append done later)))

  -- All that is told of the first items stands, and the disk is in one of the situations that the
  -- next one begins with.
  pub within_passing : (greeting : List ℕ) (closing : List S) (first : S)
      (done later : List (Item S)) (s : S) (here : List S) (told : List ℕ) (o : Outcome)
      → last_in first done ≡ s
      → IsChain closing s here later
      → o.told ≡ told ++ (greeting ++ joined done)
      → StandsForOne IsIn (s ∷ here) o.image
      → CrashesWithin IsIn greeting first (done ++ later) closing told o
  within_passing greeting closing first done later s here told o ends chain told_is stands =
      let all = done ++ later in
      let since = greeting ++ joined done in
      let count : acknowledged all (drop (length greeting) since) ≡ length done =
      ap (acknowledged all) (drop_at greeting (joined done) (length greeting) refl)
      ∙ told_between closing done later s here chain in
      let steps : steps_at closing first all (acknowledged all (drop (length greeting) since))
      ≡ steps_at closing s later 0 =
      ap (steps_at closing first all) count
      ∙ steps_between closing first done later
      ∙ ap (λ (x : S). steps_at closing x later 0) ends in
      record {
        since = since;
        told_since = told_is;
        front = (length since, front_between greeting done later);
        step =
            subst (λ (l : List S). StandsForOne IsIn l o.image) (sym steps) (
              stands.0,
              steps_first closing s here later chain stands.0 stands.1,
              stands.2,
            );
      }

  -- ---- telling

  -- a piece of what is told of an item is told, with the disk in its last situation
  pub telling : (told told' : List ℕ) (i : Item S) (a d b : List ℕ) (hold : ℕ → List ℕ → Type 0)
      → i.reply ≡ a ++ (d ++ b)
      → told' ≡ told ++ a
      → IsOneOf i.steps i.last.now
      → ((o : Outcome) → LeavesSaying told' d hold o → IsIn i.last.now o.image)
      → (o : Outcome) → LeavesSaying told' d hold o → LeavesItem IsIn told i o
  telling told told' i a d b hold is so_far one calm o leaves =
      let n = leaves.front.0 in
      let m = min n (length d) in
      let piece : take (length a + m) i.reply ≡ a ++ take n d =
      ap (take (length a + m)) is
      ∙ take-append-add a (d ++ b) m
      ∙ ap (λ (l : List ℕ). a ++ l) (take-append-le m d b (omega arith) ∙ take_min n d) in
      record {
        front = (
          length a + m,
          leaves.front.1
              ∙ ap (λ (l : List ℕ). l ++ take n d) so_far
              ∙ append_assoc told a (take n d)
              ∙ ap (λ (l : List ℕ). told ++ l) (sym piece),
        );
        step = (i.last.now, one, calm o leaves);
        whole = λ all. calm o leaves;
      }

-- ---- exchanges

module _ {S : Type 0} (effect : S → Option (List ℕ) → Result Asked BadCommand → Response S) where
  still_chain : (k : Kept S) (text : List ℕ)
      → IsOneOf (item_still k (packet text)).steps k.now
      × (0 < length (item_still k (packet text)).reply)
  still_chain k text = (inl refl, packet_some text)

  by_chain : (k : Kept S) (e : Response S)
      → IsOneOf (item_by k e).steps k.now × (0 < length (item_by k e).reply)
  by_chain k e = (inl refl, packet_some e.text)

  both_some : (a b : List ℕ) → 0 < length (packet a ++ packet b)
  both_some a b =
      let some = packet_some a in omega (arith, some, length-append (packet a) (packet b))

  chosen_chain : (k : Kept S) (big some : Bool) (i j l : Item S)
      → IsOneOf i.steps k.now × (0 < length i.reply)
      → IsOneOf j.steps k.now × (0 < length j.reply)
      → IsOneOf l.steps k.now × (0 < length l.reply)
      → IsOneOf (cond big i (cond some j l)).steps k.now
      × (0 < length (cond big i (cond some j l)).reply)
  chosen_chain k true some i j l a b c = a
  chosen_chain k false true i j l a b c = b
  chosen_chain k false false i j l a b c = c

  asked_chain : (k : Kept S) (refused : Bool) (parts : List (List ℕ))
      (asked : Result Asked BadCommand)
      → IsOneOf (item_asked effect k refused parts asked).steps k.now
      × (0 < length (item_asked effect k refused parts asked).reply)
  asked_chain k refused parts (Ok (Download size)) =
      chosen_chain k _ _ _ _ _ (still_chain k (codes "FAILtoo large"))
      (still_chain k (codes "FAILout of memory"))
      (inl refl, both_some (data_text size) (codes "OKAY"))
  asked_chain k refused parts (Ok BootAndEnd) =
      by_chain k (unless_refused refused (effect k.now k.staged (Ok BootAndEnd)))
  asked_chain k refused parts (Ok MergeAll) =
      by_chain k (unless_refused refused (effect k.now k.staged (Ok MergeAll)))
  asked_chain k refused parts (Ok (Getvar variable)) =
      by_chain k (unless_refused refused (effect k.now k.staged (Ok (Getvar variable))))
  asked_chain k refused parts (Ok (Do command)) =
      by_chain k (unless_refused refused (effect k.now k.staged (Ok (Do command))))
  asked_chain k refused parts (Err bad) =
      by_chain k (unless_refused refused (effect k.now k.staged (Err bad)))

  pub item_chain : (k : Kept S) (s : Exchange)
      → IsOneOf (item_of effect k s).steps k.now × (0 < length (item_of effect k s).reply)
  unfolding item_of
  item_chain k s = asked_chain k s.refused s.parts (request_of s.command)

  pub open_chain : (k : Kept S) (p : List ℕ)
      → IsOneOf (item_open effect k p).steps k.now × (0 < length (item_open effect k p).reply)
  unfolding item_open
  open_chain k p = (inl refl, packet_some _)

  -- the first step of an item is where its packet is heard
  chosen_begins : (k : Kept S) (big some : Bool) (i j l : Item S)
      → i.steps ≡ k.now ∷ later_of i.steps
      → j.steps ≡ k.now ∷ later_of j.steps
      → l.steps ≡ k.now ∷ later_of l.steps
      → (cond big i (cond some j l)).steps
      ≡ k.now ∷ later_of (cond big i (cond some j l)).steps
  chosen_begins k true some i j l a b c = a
  chosen_begins k false true i j l a b c = b
  chosen_begins k false false i j l a b c = c

  asked_begins : (k : Kept S) (refused : Bool) (parts : List (List ℕ))
      (asked : Result Asked BadCommand)
      → (item_asked effect k refused parts asked).steps
      ≡ k.now ∷ later_of (item_asked effect k refused parts asked).steps
  asked_begins k refused parts (Ok (Download size)) =
      chosen_begins k (nat_lt most_data size) (refused && nat_lt 0 size)
      (item_still k (packet (codes "FAILtoo large")))
      (item_still k (packet (codes "FAILout of memory"))) (item_staged k size parts) refl refl refl
  asked_begins k refused parts (Ok BootAndEnd) = refl
  asked_begins k refused parts (Ok MergeAll) = refl
  asked_begins k refused parts (Ok (Getvar variable)) = refl
  asked_begins k refused parts (Ok (Do command)) = refl
  asked_begins k refused parts (Err bad) = refl

  pub item_begins : (k : Kept S) (s : Exchange)
      → (item_of effect k s).steps ≡ k.now ∷ later_of (item_of effect k s).steps
  unfolding item_of
  item_begins k s = asked_begins k s.refused s.parts (request_of s.command)

  pub open_begins : (k : Kept S) (p : List ℕ)
      → (item_open effect k p).steps ≡ k.now ∷ later_of (item_open effect k p).steps
  unfolding item_open
  open_begins k p = refl

-- ---- what the device goes through by itself

one_left : {S : Type 0} (xs ys : List S) (x : S) → IsOneOf xs x → IsOneOf (xs ++ ys) x
one_left [] ys x none = absurd none
one_left (z ∷ zs) ys x (inl here) = inl here
one_left (z ∷ zs) ys x (inr there) = inr (one_left zs ys x there)

one_right : {S : Type 0} (xs ys : List S) (x : S) → IsOneOf ys x → IsOneOf (xs ++ ys) x
one_right [] ys x at = at
one_right (z ∷ zs) ys x at = inr (one_right zs ys x at)

pub last_here : {S : Type 0} (s : S) (xs : List S) → IsOneOf (s ∷ xs) (last_of s xs)
last_here s [] = inl refl
last_here s (x ∷ xs) = inr (last_here x xs)

-- an item with situations in front of it has these, and its own steps
front_has : {S : Type 0} (s : S) (front : List S) (i : Item S)
    → HasAll (s ∷ front) (behind s front i).steps
front_has s front i x (inl here) = inl here
front_has s front i x (inr there) = inr (one_left front (later_of i.steps) x there)

steps_have : {S : Type 0} (s : S) (front : List S) (i : Item S)
    → i.steps ≡ last_of s front ∷ later_of i.steps
    → HasAll i.steps (behind s front i).steps
steps_have {S} s front i begins x at = by (subst (λ (l : List S). IsOneOf l x) begins at)
  where
    by : IsOneOf (last_of s front ∷ later_of i.steps) x → IsOneOf (behind s front i).steps x
    by (inl here) =
        front_has s front i x
        (subst (IsOneOf (s ∷ front)) (sym here) (last_here s front))
    by (inr there) = inr (one_right front (later_of i.steps) x there)

-- what is left of an item, said of it with the situations in front of it
pub leaves_behind : {S : Type 0} (IsIn : S → Image → Type 0) (told : List ℕ) (s : S)
    (front : List S) (i : Item S)
    → i.steps ≡ last_of s front ∷ later_of i.steps
    → (o : Outcome)
    → LeavesItem IsIn told i o
    → LeavesItem IsIn told (behind s front i) o
leaves_behind IsIn told s front i begins o leaves = record {
  front = leaves.front;
  step = (leaves.step.0, steps_have s front i begins leaves.step.0 leaves.step.1, leaves.step.2);
  whole = leaves.whole;
}

module _ {S : Type 0} (machine : Machine S) where
  -- what there is to say of the first of some items
  pub behind_chain : (k : Kept S) (i : Item S)
      → HasAll (k.now ∷ machine.between k.now) (behind k.now (machine.between k.now) i).steps
  behind_chain k i = front_has k.now (machine.between k.now) i

  -- where less has come so far
  pub chain_less : (closing : List S) (s : S) (here : List S) (is : List (Item S))
      → IsChain closing s here is
      → IsChain closing s [] is
  chain_less closing s here [] chain = closes closing s
  chain_less closing s here (i ∷ is) chain =
      (only_first s i.steps (chain.0 s (inl refl)), chain.1, chain.2)

  -- the items of exchanges, whatever closes the run
  pub items_chain : (closing : List S) (k : Kept S) (ss : List Exchange) (u : Option (List ℕ))
      → IsChain closing k.now [] (items_of machine k ss u)
  items_chain closing k [] None = closes closing k.now
  items_chain closing k [] (Some p) =
      let first = open_chain machine.effect (passed machine k) p in (
        only_first k.now (open_behind machine k p).steps (inl refl),
        first.1,
        closes closing (open_behind machine k p).last.now,
      )
  items_chain closing k (s ∷ ss) u =
      let first = item_chain machine.effect (passed machine k) s in (
        only_first k.now (item_behind machine k s).steps (inl refl),
        first.1,
        items_chain closing (item_behind machine k s).last ss u,
      )

  -- The same where the device has gone on by itself: there are exchanges, or a download, or what
  -- it has gone through closes the run.
  pub passed_chain : (closing : List S) (k : Kept S) (ss : List Exchange) (u : Option (List ℕ))
      → (ss ≡ [] → u ≡ None → closing ≡ machine.between k.now)
      → IsChain closing k.now (machine.between k.now) (items_of machine k ss u)
  passed_chain closing k [] None same =
      λ x at. subst (λ (l : List S). IsOneOf (k.now ∷ l) x) (sym (same refl refl)) at
  passed_chain closing k [] (Some p) same =
      let first = open_chain machine.effect (passed machine k) p in (
        behind_chain k (item_open machine.effect (passed machine k) p),
        first.1,
        closes closing (open_behind machine k p).last.now,
      )
  passed_chain closing k (s ∷ ss) u same =
      let first = item_chain machine.effect (passed machine k) s in (
        behind_chain k (item_of machine.effect (passed machine k) s),
        first.1,
        items_chain closing (item_behind machine k s).last ss u,
      )

  pub items_append : (k : Kept S) (ss ts : List Exchange) (u : Option (List ℕ))
      → items_of machine k (ss ++ ts) u
      ≡ items_of machine k ss None ++ items_of machine (kept_after machine k ss) ts u
  items_append k [] ts u = refl
  items_append k (s ∷ ss) ts u =
      ap (λ (l : List (Item S)). item_behind machine k s ∷ l)
      (items_append (item_behind machine k s).last ss ts u)

  pub after_append : (k : Kept S) (ss ts : List Exchange)
      → kept_after machine k (ss ++ ts) ≡ kept_after machine (kept_after machine k ss) ts
  after_append k [] ts = refl
  after_append k (s ∷ ss) ts = after_append (item_behind machine k s).last ss ts

  pub items_last : (k : Kept S) (ss : List Exchange)
      → last_in k.now (items_of machine k ss None) ≡ (kept_after machine k ss).now
  items_last k [] = refl
  items_last k (s ∷ ss) = items_last (item_behind machine k s).last ss

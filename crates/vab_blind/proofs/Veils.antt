-- Two devices that differ in how far a merge is tell the same of what may not show it.
use Rattle.std.proofs.Common.{◌≡◌, ◌∙◌, ℕ, zero, suc, Bool, true, false, cond, List, [], ◌∷◌, ◌++◌}
use Rattle.std.proofs.Common.{map, Option, Some, None, Result, Ok, Err, refl, sym, ap, subst, codes}
use Rattle.std.specs.Prelude.{◌&&◌, ◌==◌, is_some, nat_lt}
use Rattle.vab_bootctl.specs.declared.slots.Control.{Control}
use Rattle.vab_bootctl.specs.Boot.{activated_of}
use Rattle.vab_model.specs.declared.state.Phase.{Phase}
use Rattle.vab_model.specs.declared.state.Phase.TheVariants.{Idle, Installing, Staged, Merging}
use Rattle.vab_model.specs.declared.state.State.{State}
use Rattle.vab_model.specs.Commands.{Command, SetActive, Boot, Mark, Print, Digest, Merge}
use Rattle.vab_model.specs.State.{images_at}
use Rattle.vab_model.specs.Effects.{Effect, Found, Image_is, Refused_by, found_of, print_effect}
use Rattle.vab_model.specs.Effects.{digest_effect, active_effect, effect_map, last_of}
use Rattle.vab_model.specs.Machine.{machine_effect}
use Rattle.vab_model.specs.Machine.{turns as turns_of}
use Rattle.vab_device.specs.Mounted.{Mounted, in_state}
use Rattle.vab_device.specs.Updates.{effect_on, merge_effect, turns}
use Rattle.vab_fbproto.specs.Requests.{Asked, Getvar, Download, Do, MergeAll, BootAndEnd, Variable}
use Rattle.vab_fbproto.specs.Requests.{SnapshotUpdateStatus, request_of}
use Rattle.vab_fbproto.specs.declared.request.BadCommand.{BadCommand}
use Rattle.vab_fbvars.specs.Variables.{variable_text}
use Rattle.vab_exchanges.specs.Session.{Exchange, most_data, packet}
use Rattle.vab_exchanges.specs.Items.{Response, Kept, Item, item_by, item_still, item_staged}
use Rattle.vab_exchanges.specs.Items.{item_download, item_asked, item_of, item_open, item_behind}
use Rattle.vab_exchanges.specs.Items.{open_behind, items_of, joined, passed, unless_refused}
use Rattle.vab_exchanges.specs.Items.{no_memory, staged_after}
use Rattle.vab_session.specs.Responses.{response, by_effect, turns_between, machine}
use Rattle.vab_blind.specs.Blind.{is_status, is_of_update, may_show_a_merge, ShowNothing, HidesIt}
use Rattle.vab_blind.specs.Blind.{IfMerging, HidesTheMerge}

-- ---- devices that differ in how far a merge is

-- an update is being merged, or there is none
abbrev IsVeiled : Phase → Type 0
IsVeiled (Merging target left) = Unit {0}
IsVeiled Idle = Unit {0}
IsVeiled _ = ⊥

abbrev at_phase : State → Phase → State
at_phase s p = record s { phase = p }

abbrev in_phase : Mounted → Phase → Mounted
in_phase m p = in_state m (at_phase m.state p)

-- they are the same but for that
record Alike (m n : Mounted) : Type 0 where
  base : Mounted
  one : Phase
  other : Phase
  one_veiled : IsVeiled one
  other_veiled : IsVeiled other
  is : m ≡ in_phase base one
  other_is : n ≡ in_phase base other

alike_self : (m : Mounted) (p q : Phase) → IsVeiled p → IsVeiled q
    → Alike (in_phase m p) (in_phase m q)
alike_self m p q a b =
    record {
      base = m;
      one = p;
      other = q;
      one_veiled = a;
      other_veiled = b;
      is = refl;
      other_is =
          refl;
    }

-- ---- turns

-- the device behind some turns
record Turned (m : Mounted) (n : Mounted) : Type 0 where
  phase : Phase
  veiled : IsVeiled phase
  is : n ≡ in_phase m phase

made : (n : ℕ) (m x : Mounted) (target left : ℕ)
    → Turned m x
    → Turned m (last_of x (turns n m target left))
unfolding turns_of
made zero m x target left at = at
made (suc n) m x target zero at = record { phase = Idle; veiled = tt; is = refl }
made (suc n) m x target (suc left) at =
    made n m _ target left (record { phase = Merging target left; veiled = tt; is = refl })

made_in : (n : ℕ) (m : Mounted) (p : Phase)
    → m.state.phase ≡ p
    → IsVeiled p
    → Turned m (last_of m (merge_effect m n p).later)
made_in n m Idle at veiled = record { phase = Idle; veiled = tt; is = λ i. in_phase m (at i) }
made_in n m (Installing source plan) at veiled = absurd veiled
made_in n m (Staged source left) at veiled = absurd veiled
made_in n m (Merging target left) at veiled =
    made n m m target left
    (record { phase = Merging target left; veiled = tt; is = λ i. in_phase m (at i) })

turned_in : (n : ℕ) (m : Mounted) (p : Phase)
    → IsVeiled p
    → Turned m (last_of (in_phase m p) (turns_between n (in_phase m p)))
turned_in n m p veiled =
    let t = made_in n (in_phase m p) p refl veiled in
    record { phase = t.phase; veiled = t.veiled; is = t.is }

turned_alike : (a b : ℕ) (m n : Mounted)
    → Alike m n
    → Alike (last_of m (turns_between a m)) (last_of n (turns_between b n))
turned_alike a b m n alike =
    let x = turned_in a alike.base alike.one alike.one_veiled in
    let y = turned_in b alike.base alike.other alike.other_veiled in
    record {
      base = alike.base;
      one = x.phase;
      other = y.phase;
      one_veiled = x.veiled;
      other_veiled = y.veiled;
      is = ap (λ (m : Mounted). last_of m (turns_between a m)) alike.is ∙ x.is;
      other_is = ap (λ (m : Mounted). last_of m (turns_between b m)) alike.other_is ∙ y.is;
    }

-- ---- what is told

record Told (m n : Mounted) (r t : Response Mounted) : Type 0 where
  text : r.text ≡ t.text
  takes : r.takes ≡ t.takes
  may_want : r.may_want ≡ t.may_want
  last : Alike (last_of m r.later) (last_of n t.later)

variable_hides : (s : State) (p : Phase) (v : Variable)
    → IsVeiled p
    → is_status v ≡ false
    → variable_text (at_phase s p) v ≡ variable_text (at_phase s Idle) v
unfolding variable_text
variable_hides s Idle v veiled other = refl
variable_hides s (Installing source plan) v veiled other = absurd veiled
variable_hides s (Staged source left) v veiled other = absurd veiled
variable_hides s (Merging target left) SnapshotUpdateStatus veiled other = absurd cc
variable_hides s (Merging target left) _ veiled other = refl

module _ (base : Mounted) (p q : Phase) (a : IsVeiled p) (b : IsVeiled q) where
  abbrev m : Mounted
  m = in_phase base p

  abbrev n : Mounted
  n = in_phase base q

  still : (text : List ℕ) (other : List ℕ) → text ≡ other
      → Told m n (record { text = text; later = []; takes = false; may_want = false })
      (record { text = other; later = []; takes = false; may_want = false })
  still text other same =
      record { text = same; takes = refl; may_want = refl; last = alike_self base p q a b }

  activates : (slot : ℕ) (has : Bool) (c : Control)
      → Told m n
      (by_effect (SetActive slot) (effect_map (in_state m) (active_effect has m.state c)))
      (by_effect (SetActive slot) (effect_map (in_state n) (active_effect has n.state c)))
  activates slot true c = record {
    text = refl;
    takes = refl;
    may_want = refl;
    last = alike_self (in_state base (record base.state { control = c })) p q a b;
  }
  activates slot false c =
      record { text = refl; takes = refl; may_want = refl; last = alike_self base p q a b }

  prints : (name : List ℕ) (f : Found)
      → Told m n
      (by_effect (Print name) (effect_map (in_state m) (print_effect name f)))
      (by_effect (Print name) (effect_map (in_state n) (print_effect name f)))
  prints name (Image_is image) =
      record { text = refl; takes = refl; may_want = refl; last = alike_self base p q a b }
  prints name (Refused_by refusal) =
      record { text = refl; takes = refl; may_want = refl; last = alike_self base p q a b }

  digests : (name : List ℕ) (f : Found)
      → Told m n
      (by_effect (Digest name) (effect_map (in_state m) (digest_effect f)))
      (by_effect (Digest name) (effect_map (in_state n) (digest_effect f)))
  digests name (Image_is image) =
      record { text = refl; takes = refl; may_want = refl; last = alike_self base p q a b }
  digests name (Refused_by refusal) =
      record { text = refl; takes = refl; may_want = refl; last = alike_self base p q a b }

  commands : (staged : Option (List ℕ)) (c : Command)
      → is_of_update c ≡ false
      → Told m n (by_effect c (effect_on m staged c)) (by_effect c (effect_on n staged c))
  unfolding machine_effect
  commands staged (SetActive slot) other =
      activates slot (is_some (images_at base.state slot)) (activated_of base.state.control slot)
  commands staged Boot other = record {
    text = refl;
    takes = refl;
    may_want = refl;
    last = alike_self (in_state base (record base.state { control = _ })) p q a b;
  }
  commands staged Mark other = record {
    text = refl;
    takes = refl;
    may_want = refl;
    last = alike_self (in_state base (record base.state { control = _ })) p q a b;
  }
  commands staged (Print name) other = prints name (found_of base.state name)
  commands staged (Digest name) other = digests name (found_of base.state name)
  commands staged _ other = absurd cc

  responds : (staged : Option (List ℕ)) (asked : Result Asked BadCommand)
      → may_show_a_merge asked ≡ false
      → Told m n (response m staged asked) (response n staged asked)
  responds staged (Ok (Getvar variable)) other =
      still (variable_text m.state variable) (variable_text n.state variable)
      (variable_hides base.state p variable a other
      ∙ sym (variable_hides base.state q variable b other))
  responds staged (Ok (Download size)) other = still (codes "OKAY") (codes "OKAY") refl
  responds staged (Ok (Do c)) other = commands staged c other
  responds staged (Ok MergeAll) other = absurd cc
  responds staged (Ok BootAndEnd) other = commands staged Boot refl
  responds staged (Err bad) other = still _ _ refl

-- ---- items

record Same (i j : Item Mounted) : Type 0 where
  reply : i.reply ≡ j.reply
  now : Alike i.last.now j.last.now
  staged : i.last.staged ≡ j.last.staged

either : (b : Bool) (i j k l : Item Mounted)
    → Same i k
    → Same j l
    → Same (cond b i j) (cond b k l)
either true i j k l is other = is
either false i j k l is other = other

by_both : (m n : Mounted) (staged : Option (List ℕ)) (r t : Response Mounted)
    → Told m n r t
    → Same (item_by (record { now = m; staged = staged }) r)
    (item_by (record { now = n; staged = staged }) t)
by_both m n staged r t told = record {
  reply = ap packet told.text;
  now = told.last;
  staged = ap (λ b. staged_after b staged) told.takes;
}

refused_both : (m n : Mounted) (refused : Bool) (r t : Response Mounted)
    → Alike m n
    → Told m n r t
    → Told m n (unless_refused refused r) (unless_refused refused t)
refused_both m n false r t alike told = told
refused_both m n true r t alike told = by r.may_want t.may_want told.may_want
  where
    by : (b d : Bool) → b ≡ d → Told m n (cond b no_memory r) (cond d no_memory t)
    by true true same =
        record { text = refl; takes = refl; may_want = refl; last = alike }
    by false false same = told
    by true false same = absurd (let bad : true ≡ false = same in cc)
    by false true same = absurd (let bad : false ≡ true = same in cc)

module _ (base : Mounted) (p q : Phase) (a : IsVeiled p) (b : IsVeiled q)
    (staged : Option (List ℕ)) where
  abbrev k : Kept Mounted
  k = record { now = in_phase base p; staged = staged }

  abbrev l : Kept Mounted
  l = record { now = in_phase base q; staged = staged }

  dones : (refused : Bool) (asked : Result Asked BadCommand)
      → may_show_a_merge asked ≡ false
      → Same (item_by k (unless_refused refused (response k.now staged asked)))
      (item_by l (unless_refused refused (response l.now staged asked)))
  dones refused asked other =
      by_both k.now l.now staged _ _
      (refused_both k.now l.now refused (response k.now staged asked)
      (response l.now staged asked) (alike_self base p q a b)
      (responds base p q a b staged asked other))

  stills : (told : List ℕ) → Same (item_still k told) (item_still l told)
  stills told = record { reply = refl; now = alike_self base p q a b; staged = refl }

  asks : (refused : Bool) (parts : List (List ℕ)) (asked : Result Asked BadCommand)
      → may_show_a_merge asked ≡ false
      → Same (item_asked response k refused parts asked) (item_asked response l refused parts asked)
  asks refused parts (Ok (Download size)) other =
      either (nat_lt most_data size) _ _ _ _ (stills (packet (codes "FAILtoo large")))
      (either (refused && nat_lt 0 size) _ _ _ _ (stills (packet (codes "FAILout of memory")))
      (record { reply = refl; now = alike_self base p q a b; staged = refl }))
  asks refused parts (Ok BootAndEnd) other = dones refused (Ok BootAndEnd) other
  asks refused parts (Ok MergeAll) other = dones refused (Ok MergeAll) other
  asks refused parts (Ok (Getvar variable)) other = dones refused (Ok (Getvar variable)) other
  asks refused parts (Ok (Do c)) other = dones refused (Ok (Do c)) other
  asks refused parts (Err bad) other = dones refused (Err bad) other

  exchanged : (s : Exchange)
      → may_show_a_merge (request_of s.command) ≡ false
      → Same (item_of response k s) (item_of response l s)
  unfolding item_of
  exchanged s other = asks s.refused s.parts (request_of s.command) other

-- from devices that are alike
record AlikeKept (k l : Kept Mounted) : Type 0 where
  now : Alike k.now l.now
  staged : k.staged ≡ l.staged

same_item : (k l : Kept Mounted) (s : Exchange)
    → AlikeKept k l
    → may_show_a_merge (request_of s.command) ≡ false
    → Same (item_of response k s) (item_of response l s)
same_item k l s alike other =
    let one : Kept Mounted =
    record { now = in_phase alike.now.base alike.now.one; staged = k.staged } in
    let two : Kept Mounted =
    record { now = in_phase alike.now.base alike.now.other; staged = k.staged } in
    subst (λ (x : Kept Mounted × Kept Mounted). Same (item_of response x.0 s)
    (item_of response x.1 s))
    (λ i. (
      record { now = sym alike.now.is i; staged = k.staged },
      record { now = sym alike.now.other_is i; staged = alike.staged i },
    ))
    (exchanged alike.now.base alike.now.one alike.now.other alike.now.one_veiled
    alike.now.other_veiled k.staged s other)

-- ---- sessions

abbrev replies : List (Item Mounted) → List (List ℕ)
replies is = map (λ (i : Item Mounted). i.reply) is

open_reply : (k l : Kept Mounted) (command : List ℕ)
    → (item_open response k command).reply ≡ (item_open response l command).reply
unfolding item_open
open_reply k l command = refl

module _ (one other : ℕ) where
  -- while it is merged
  veiled : (k l : Kept Mounted) (ss : List Exchange) (u : Option (List ℕ))
      → AlikeKept k l
      → ShowNothing ss
      → replies (items_of (machine one) k ss u) ≡ replies (items_of (machine other) l ss u)
  veiled k l [] None alike none = refl
  veiled k l [] (Some command) alike none =
      ap (λ (r : List ℕ). r ∷ [])
      (open_reply (passed (machine one) k) (passed (machine other) l) command)
  veiled k l (s ∷ ss) u alike none =
      let here : AlikeKept (passed (machine one) k) (passed (machine other) l) =
      record { now = turned_alike one other k.now l.now alike.now; staged = alike.staged } in
      let same = same_item (passed (machine one) k) (passed (machine other) l) s here none.0 in
      let rest =
      veiled (item_behind (machine one) k s).last (item_behind (machine other) l s).last ss u
      (record { now = same.now; staged = same.staged }) none.1 in
      λ i. same.reply i ∷ rest i

  -- before it is merged
  module _ (k : Kept Mounted) (s : Exchange) (ss : List Exchange) (u : Option (List ℕ))
      (rest : HidesIt one (item_behind (machine one) k s).last ss
      → replies (items_of (machine one) (item_behind (machine one) k s).last ss u)
      ≡ replies (items_of (machine other) (item_behind (machine one) k s).last ss u)) where
    stays : (p : Phase)
        → k.now.state.phase ≡ p
        → (merge_effect k.now one p).later ≡ []
        → (merge_effect k.now other p).later ≡ []
        → HidesIt one (item_behind (machine one) k s).last ss
        → replies (items_of (machine one) k (s ∷ ss) u)
        ≡ replies (items_of (machine other) k (s ∷ ss) u)
    stays p at none none' hides =
        let a : turns_between one k.now ≡ [] =
        ap (λ (x : Phase). (merge_effect k.now one x).later) at ∙ none in
        let b : turns_between other k.now ≡ [] =
        ap (λ (x : Phase). (merge_effect k.now other x).later) at ∙ none' in
        let same : passed (machine one) k ≡ passed (machine other) k =
        ap (λ (l : List Mounted). record { now = last_of k.now l; staged = k.staged })
        (a ∙ sym b) in
        let later =
        rest hides
        ∙ ap
        (λ (x : Kept Mounted).
        replies (items_of (machine other) (item_of response x s).last ss u))
        same in
        λ i. (item_of response (same i) s).reply ∷ later i

    by_phase : (p : Phase)
        → k.now.state.phase ≡ p
        → IfMerging p (ShowNothing (s ∷ ss)) (HidesIt one (item_behind (machine one) k s).last ss)
        → replies (items_of (machine one) k (s ∷ ss) u)
        ≡ replies (items_of (machine other) k (s ∷ ss) u)
    by_phase (Merging target left) at hides =
        veiled k k (s ∷ ss) u
        (record {
          now = record {
            base = k.now;
            one = Merging target left;
            other = Merging target left;
            one_veiled = tt;
            other_veiled = tt;
            is = λ i. in_phase k.now (at i);
            other_is = λ i. in_phase k.now (at i);
          };
          staged = refl;
        })
        hides
    by_phase Idle at hides = stays Idle at refl refl hides
    by_phase (Installing source plan) at hides = stays (Installing source plan) at refl refl hides
    by_phase (Staged source left) at hides = stays (Staged source left) at refl refl hides

  all : (k : Kept Mounted) (ss : List Exchange) (u : Option (List ℕ))
      → HidesIt one k ss
      → replies (items_of (machine one) k ss u) ≡ replies (items_of (machine other) k ss u)
  all k [] None hides = refl
  all k [] (Some command) hides =
      ap (λ (r : List ℕ). r ∷ [])
      (open_reply (passed (machine one) k) (passed (machine other) k) command)
  all k (s ∷ ss) u hides =
      by_phase k s ss u (all (item_behind (machine one) k s).last ss u) k.now.state.phase refl hides

-- ---- all that is told

glued : List (List ℕ) → List ℕ
glued [] = []
glued (r ∷ rs) = r ++ glued rs

joined_is : (is : List (Item Mounted)) → joined is ≡ glued (replies is)
unfolding glued
joined_is [] = refl
joined_is (i ∷ is) = ap (λ (l : List ℕ). i.reply ++ l) (joined_is is)

pub hidden : HidesTheMerge
hidden one other k ss u hides =
    let same = all one other k ss u hides in (
      same,
      ap (λ (l : List ℕ). codes "FB01" ++ l)
          (joined_is (items_of (machine one) k ss u)
          ∙ ap glued same
          ∙ sym (joined_is (items_of (machine other) k ss u))),
    )

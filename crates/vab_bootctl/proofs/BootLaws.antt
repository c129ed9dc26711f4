-- What callers need of boots.
use Rattle.std.proofs.Common.{ap, ◌∙◌, ◌≡◌, ℕ, zero, suc, ◌-◌, ◌<◌, ◌≤◌, ◌⊎◌, Bool, true, false}
use Rattle.std.proofs.Common.{not, ◌&&◌, ◌||◌, cond, eqb, leb, List, get_or, Option, Some, None}
use Rattle.std.proofs.Common.{refl, subst, arith, lit<, lit≤, inl, inr}
use Rattle.std.proofs.lemmas.Bool.{eqb-false, leb-true, leb-false, le-leb, lt-leb, cases_Bool}
use Rattle.std.proofs.lemmas.Bool.{or_right, and_from, cond-true}
use Rattle.vab_bootctl.specs.declared.slots.Info.{Info}
use Rattle.vab_bootctl.specs.declared.slots.Control.{Control}
use Rattle.vab_bootctl.specs.Control.{FitsInfo, Fits}
use Rattle.vab_bootctl.specs.Boot.{info_at, is_bootable, IsBootable, IsChosen, chosen_of, after_try}
use Rattle.vab_bootctl.specs.Boot.{booted_at, booted_of, active, demoted, activated_of, proven}
use Rattle.vab_bootctl.specs.Boot.{marked_of}

-- ---- the slot that is chosen

pick : (a b t : Bool) (slot : ℕ)
    → cond (a && (not b || t)) (Some 0) (cond b (Some 1) None) ≡ Some slot
    → ((0 ≡ slot) × (a ≡ true) × ((b ≡ false) ⊎ (t ≡ true)))
    ⊎ ((1 ≡ slot) × (b ≡ true) × ((a ≡ false) ⊎ (t ≡ false)))
pick true true true slot h = inl (cc, refl, inr refl)
pick true true false slot h = inr (cc, refl, inr refl)
pick true false t slot h = inl (cc, refl, inl refl)
pick false true t slot h = inr (cc, refl, inl refl)
pick false false t slot h = absurd cc

pick_none : (a b t : Bool)
    → cond {A = Option ℕ} (a && (not b || t)) (Some 0) (cond b (Some 1) None) ≡ None
    → (a ≡ false) × (b ≡ false)
pick_none true true true h = absurd cc
pick_none true true false h = absurd cc
pick_none true false t h = absurd cc
pick_none false true t h = absurd cc
pick_none false false t h = (refl, refl)

not_both : (t : Bool) → t ≡ false → t ≡ true → ⊥
not_both t f g = cc

highest_a : (c : Control) (has : List Bool)
    → (is_bootable (get_or has 1 false) c.b ≡ false) ⊎ (leb c.b.priority c.a.priority ≡ true)
    → (k : ℕ)
    → IsBootable c has k
    → (info_at c k).priority ≤ c.a.priority
highest_a c has other zero h = omega arith
highest_a c has (inl off) (suc zero) h = absurd (not_both _ off h.1)
highest_a c has (inr le) (suc zero) h = leb-true _ _ le
highest_a c has other (suc (suc k)) h = absurd (omega (arith, h.0))

chosen_a : (c : Control) (has : List Bool)
    → is_bootable (get_or has 0 false) c.a ≡ true
    → (is_bootable (get_or has 1 false) c.b ≡ false) ⊎ (leb c.b.priority c.a.priority ≡ true)
    → IsChosen c has 0
chosen_a c has here other = record {
  bootable = (lit< tt, here);
  highest = highest_a c has other;
  first = λ k _ lt. absurd (omega (arith, lt));
}

first_b : (c : Control) (has : List Bool)
    → (is_bootable (get_or has 0 false) c.a ≡ false) ⊎ (leb c.b.priority c.a.priority ≡ false)
    → (k : ℕ)
    → IsBootable c has k
    → k < 1
    → (info_at c k).priority < c.b.priority
first_b c has (inl off) zero h lt = absurd (not_both _ off h.1)
first_b c has (inr gt) zero h lt = leb-false _ _ gt
first_b c has other (suc k) h lt = absurd (omega (arith, lt))

highest_b : (c : Control) (has : List Bool)
    → (is_bootable (get_or has 0 false) c.a ≡ false) ⊎ (leb c.b.priority c.a.priority ≡ false)
    → (k : ℕ)
    → IsBootable c has k
    → (info_at c k).priority ≤ c.b.priority
highest_b c has other zero h = omega (arith, first_b c has other zero h (lit< tt))
highest_b c has other (suc zero) h = omega arith
highest_b c has other (suc (suc k)) h = absurd (omega (arith, h.0))

chosen_b : (c : Control) (has : List Bool)
    → is_bootable (get_or has 1 false) c.b ≡ true
    → (is_bootable (get_or has 0 false) c.a ≡ false) ⊎ (leb c.b.priority c.a.priority ≡ false)
    → IsChosen c has 1
chosen_b c has here other = record {
  bootable = (lit< tt, here);
  highest = highest_b c has other;
  first = first_b c has other;
}

-- the slot that is chosen is bootable, and no other comes before it
pub chosen_is : (c : Control) (has : List Bool) (slot : ℕ)
    → chosen_of c has ≡ Some slot
    → IsChosen c has slot
unfolding chosen_of
chosen_is c has slot h =
    let a : Bool = is_bootable (get_or has 0 false) c.a in
    let b : Bool = is_bootable (get_or has 1 false) c.b in
    let P : ℕ → Type 0 = λ s. IsChosen c has s in
    elim (pick a b (leb c.b.priority c.a.priority) slot h) [
      | inl first ↦ subst P first.0 (chosen_a c has first.1 first.2)
      | inr second ↦ subst P second.0 (chosen_b c has second.1 second.2)
    ]

-- where none is chosen none is bootable
pub chosen_none : (c : Control) (has : List Bool)
    → chosen_of c has ≡ None
    → (slot : ℕ)
    → IsBootable c has slot
    → ⊥
unfolding chosen_of
chosen_none c has h zero k =
    let a : Bool = is_bootable (get_or has 0 false) c.a in
    let b : Bool = is_bootable (get_or has 1 false) c.b in
    not_both a (pick_none a b (leb c.b.priority c.a.priority) h).0 k.1
chosen_none c has h (suc zero) k =
    let a : Bool = is_bootable (get_or has 0 false) c.a in
    let b : Bool = is_bootable (get_or has 1 false) c.b in
    not_both b (pick_none a b (leb c.b.priority c.a.priority) h).1 k.1
chosen_none c has h (suc (suc slot)) k = absurd (omega (arith, k.0))

current : (c : Control) (slot : ℕ) → slot < 2 → (booted_at c (Some slot)).current ≡ slot
current c zero lt = refl
current c (suc zero) lt = refl
current c (suc (suc slot)) lt = absurd (omega (arith, lt))

-- the slot that is chosen becomes current, and where none is nothing changes
pub booted_current : (c : Control) (has : List Bool) (slot : ℕ)
    → chosen_of c has ≡ Some slot
    → (booted_of c has).current ≡ slot
unfolding booted_of
booted_current c has slot h =
    ap (λ (o : Option ℕ). (booted_at c o).current) h
    ∙ current c slot (chosen_is c has slot h).bootable.0

pub booted_none : (c : Control) (has : List Bool) → chosen_of c has ≡ None → booted_of c has ≡ c
unfolding booted_of
booted_none c has h = ap (booted_at c) h

-- ---- what fits still fits

tried_fits : (i : Info) → FitsInfo i → FitsInfo (after_try i)
tried_fits i h =
    elim i.successful as (λ s. FitsInfo (cond s i (record i { tries = i.tries - 1 }))) [
      | true ↦ h
      | false ↦ record { priority = h.priority; tries = omega (arith, h.tries) }
    ]

booted_at_fits : (c : Control) (o : Option ℕ) → Fits c → Fits (booted_at c o)
booted_at_fits c None h = h
booted_at_fits c (Some slot) h =
    elim (eqb slot 0) as (λ z. Fits (cond z (record c { current = 0; a = after_try c.a })
    (record c { current = 1; b = after_try c.b }))) [
      | true ↦ record { current = lit< tt; a = tried_fits c.a h.a; b = h.b }
      | false ↦ record { current = lit< tt; a = h.a; b = tried_fits c.b h.b }
    ]

pub booted_fits : (c : Control) (has : List Bool) → Fits c → Fits (booted_of c has)
unfolding booted_of
booted_fits c has h = booted_at_fits c (chosen_of c has) h

yielding_fits : (i : Info) → FitsInfo i → FitsInfo (demoted i)
yielding_fits i h =
    elim (eqb i.priority 15) as (λ z. FitsInfo (cond z (record i { priority = 14 }) i)) [
      | true ↦ record { priority = lit≤ tt; tries = h.tries }
      | false ↦ h
    ]

active_fits : (i : Info) → FitsInfo (active i)
active_fits i = record { priority = lit≤ tt; tries = lit≤ tt }

pub activated_fits : (c : Control) (slot : ℕ) → Fits c → Fits (activated_of c slot)
unfolding activated_of
activated_fits c slot h =
    elim (eqb slot 0) as (λ z. Fits (cond z (record c { a = active c.a; b = demoted c.b })
    (record c { a = demoted c.a; b = active c.b }))) [
      | true ↦ record { current = h.current; a = active_fits c.a; b = yielding_fits c.b h.b }
      | false ↦ record { current = h.current; a = yielding_fits c.a h.a; b = active_fits c.b }
    ]

proven_fits : (i : Info) → FitsInfo i → FitsInfo (proven i)
proven_fits i h = record { priority = h.priority; tries = lit≤ tt }

pub marked_fits : (c : Control) → Fits c → Fits (marked_of c)
unfolding marked_of
marked_fits c h =
    elim (eqb c.current 0) as (λ z. Fits
    (cond z (record c { a = proven c.a }) (record c { b = proven c.b }))) [
      | true ↦ record { current = h.current; a = proven_fits c.a h.a; b = h.b }
      | false ↦ record { current = h.current; a = h.a; b = proven_fits c.b h.b }
    ]

-- ---- a slot that was set active is the next to boot

yields : (i : Info) → FitsInfo i → (demoted i).priority < 15
yields i h =
    elim (cases_Bool (eqb i.priority 15)) [
      | inl top ↦ rw top (lit< tt)
      | inr low ↦ let apart = eqb-false i.priority 15 low in
          rw low (let le = h.priority in omega (arith, apart))
    ]

starts : (has : Bool) (i : Info) → has ≡ true → is_bootable has (active i) ≡ true
starts has i h = rw h (or_right i.successful true refl)

pub activated_chosen : (c : Control) (has : List Bool) (slot : ℕ)
    → Fits c
    → slot < 2
    → get_or has slot false ≡ true
    → chosen_of (activated_of c slot) has ≡ Some slot
unfolding chosen_of activated_of
activated_chosen c has zero h lt images =
    let b : Bool = is_bootable (get_or has 1 false) (demoted c.b) in
    let top : leb (demoted c.b).priority 15 ≡ true = le-leb _ 15 (omega (arith, yields c.b h.b)) in
    cond-true _ (Some 0) (cond b (Some 1) None)
    (and_from _ _ (starts (get_or has 0 false) c.a images) (or_right (not b) _ top))
activated_chosen c has (suc zero) h lt images =
    let a : Bool = is_bootable (get_or has 0 false) (demoted c.a) in
    let here : is_bootable (get_or has 1 false) (active c.b) ≡ true =
    starts (get_or has 1 false) c.b images in
    let below : leb 15 (demoted c.a).priority ≡ false = lt-leb 15 _ (yields c.a h.a) in
    rw (here, below) (elim a as (λ t. cond {A = Option ℕ} (t && false) (Some 0) (Some 1) ≡ Some 1)
    [ true ↦ refl | false ↦ refl ])
activated_chosen c has (suc (suc slot)) h lt images = absurd (omega (arith, lt))

pub activated_current : (c : Control) (slot : ℕ) → (activated_of c slot).current ≡ c.current
unfolding activated_of
activated_current c slot = elim (cases_Bool (eqb slot 0)) [
  | inl h ↦ rw h refl
  | inr h ↦ rw h refl
]

pub marked_current : (c : Control) → (marked_of c).current ≡ c.current
unfolding marked_of
marked_current c = elim (cases_Bool (eqb c.current 0)) [ inl h ↦ rw h refl | inr h ↦ rw h refl ]

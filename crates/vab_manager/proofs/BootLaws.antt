-- The boot controls that commands make of a device's own keep its rules.
use Rattle.std.proofs.Common.{◌≡◌, ◌∙◌, ℕ, zero, suc, ◌<◌, inl, inr, Bool, true, false, ◌==◌, not}
use Rattle.std.proofs.Common.{eqb, List, Option, Some, None, refl, sym, ap, subst, arith}
use Rattle.std.specs.Prelude.{is_some, ◌&&◌, ◌||◌, if◌then◌else◌, nat_lt, slice_index_or}
use Rattle.std.proofs.lemmas.Bool.{cases_Bool, and_parts, and_from, or_left, or_right, eqb-false}
use Rattle.std.proofs.lemmas.Bool.{ltb-true, ne_eqb}
use Rattle.vab_bootctl.specs.declared.slots.Info.{Info}
use Rattle.vab_bootctl.specs.declared.slots.Control.{Control}
use Rattle.vab_bootctl.specs.Control.{Fits}
use Rattle.vab_bootctl.specs.Boot.{info_at, activated_of, marked_of, booted_of, chosen_of, active}
use Rattle.vab_bootctl.specs.Boot.{demoted, proven, after_try, booted_at, is_bootable, IsBootable}
use Rattle.vab_bootctl.proofs.BootLaws.{chosen_is, booted_current, booted_none}
use Rattle.vab_layout.specs.Slots.{other_slot}
use Rattle.vab_device.specs.declared.device.Device.{Device}
use Rattle.vab_device.specs.Kept.{IsDevice, has_slot}
use Rattle.vab_device.specs.Phases.{is_good, may_run}
use Rattle.vab_device.proofs.ControlLaws.{with_boot}
use Rattle.vab_manager.specs.Controls.{slots_with_images}
use Rattle.vab_bootctl.proofs.BootLaws.{activated_current, marked_current}

pub kept_device : (d : Device) (size : ℕ) (c : Control)
    → IsDevice d size
    → Fits c
    → has_slot d.mark.phase d.mark.slot c.current ≡ true
    → IsDevice (with_boot c d) size
kept_device d size c is fits current = record {
  enough = is.enough;
  ends = is.ends;
  geometry = is.geometry;
  control = fits;
  phase = is.phase;
  slot = is.slot;
  flags = is.flags;
  current = current;
  has_a = is.has_a;
  has_b = is.has_b;
  copies_on = is.copies_on;
  parts_a = is.parts_a;
  parts_b = is.parts_b;
  table_a = is.table_a;
  table_b = is.table_b;
  source = is.source;
  target = is.target;
  planned = is.planned;
  plan = is.plan;
  update = is.update;
  overlaid = is.overlaid;
  overlay = is.overlay;
}

-- ---- what the rules ask of one slot

-- a slot that has a priority
abbrev is_ranked : Info → Bool
is_ranked info = not (info.priority == 0)

active_good : (i : Info) → is_good i ≡ true → is_good (active i) ≡ true
active_good i good = and_from _ _ refl (and_parts _ _ good).1

demoted_ranked : (i : Info) → is_ranked i ≡ true → is_ranked (demoted i) ≡ true
demoted_ranked i ranked = elim (cases_Bool (eqb i.priority 15)) [
  | inl h ↦ rw h refl
  | inr h ↦ rw h ranked
]

demoted_works : (i : Info) → (demoted i).successful ≡ i.successful
demoted_works i = elim (cases_Bool (eqb i.priority 15)) [ inl h ↦ rw h refl | inr h ↦ rw h refl ]

demoted_good : (i : Info) → is_good i ≡ true → is_good (demoted i) ≡ true
demoted_good i good =
    let parts = and_parts (is_ranked i) i.successful good in
    and_from _ _ (demoted_ranked i parts.0) (demoted_works i ∙ parts.1)

proven_good : (i : Info) → is_good i ≡ true → is_good (proven i) ≡ true
proven_good i good = and_from _ _ (and_parts _ _ good).0 refl

tried_ranked : (i : Info) → is_ranked i ≡ true → is_ranked (after_try i) ≡ true
tried_ranked i ranked = elim (cases_Bool i.successful) [
  | inl h ↦ rw h ranked
  | inr h ↦ rw h ranked
]

tried_good : (i : Info) → is_good i ≡ true → is_good (after_try i) ≡ true
tried_good i good =
    let parts = and_parts (is_ranked i) i.successful good in
    rw parts.1 (and_from _ _ parts.0 refl)

bootable_parts : (has : Bool) (i : Info)
    → is_bootable has i ≡ true
    → (has ≡ true) × (is_ranked i ≡ true)
bootable_parts has i bootable =
    let first = (and_parts (has && nat_lt 0 i.priority) (i.successful || nat_lt 0 i.tries)
    bootable).0 in
    let parts = and_parts has (nat_lt 0 i.priority) first in
    let above : 0 < i.priority = ltb-true 0 i.priority parts.1 in
    (parts.0, ap not (ne_eqb i.priority 0 (omega (arith, above))))

-- ---- a slot of the new boot control

-- What holds of a slot's info holds of it in the new boot control, if it holds of what each command
-- makes of an info.
abbrev Keeps : (Info → Bool) → (Info → Info) → Type 0
Keeps p f = (i : Info) → p i ≡ true → p (f i) ≡ true

module _ (p : Info → Bool) (c : Control) (own : ℕ) (holds : p (info_at c own) ≡ true) where
  activated_keeps : (slot : ℕ)
      → Keeps p active
      → Keeps p demoted
      → p (info_at (activated_of c slot) own) ≡ true
  unfolding activated_of
  activated_keeps slot raised lowered = elim (cases_Bool (eqb own 0)) [
    | inl h ↦
        let here : p c.a ≡ true = rw h at holds in
        elim (cases_Bool (eqb slot 0)) [
          | inl k ↦ rw (k, h) (raised c.a here)
          | inr k ↦ rw (k, h) (lowered c.a here)
        ]
    | inr h ↦
        let here : p c.b ≡ true = rw h at holds in
        elim (cases_Bool (eqb slot 0)) [
          | inl k ↦ rw (k, h) (lowered c.b here)
          | inr k ↦ rw (k, h) (raised c.b here)
        ]
  ]

  marked_keeps : Keeps p proven → p (info_at (marked_of c) own) ≡ true
  unfolding marked_of
  marked_keeps better = elim (cases_Bool (eqb own 0)) [
    | inl h ↦
        let here : p c.a ≡ true = rw h at holds in
        elim (cases_Bool (eqb c.current 0)) [
          | inl k ↦ rw (k, h) (better c.a here)
          | inr k ↦ rw (k, h) here
        ]
    | inr h ↦
        let here : p c.b ≡ true = rw h at holds in
        elim (cases_Bool (eqb c.current 0)) [
          | inl k ↦ rw (k, h) here
          | inr k ↦ rw (k, h) (better c.b here)
        ]
  ]

  -- of the slot that is booted a try may be taken
  tried_keeps : (o : Option ℕ) → Keeps p after_try → p (info_at (booted_at c o) own) ≡ true
  tried_keeps None tried = holds
  tried_keeps (Some slot) tried = elim (cases_Bool (eqb own 0)) [
    | inl h ↦
        let here : p c.a ≡ true = rw h at holds in
        elim (cases_Bool (eqb slot 0)) [
          | inl k ↦ rw (k, h) (tried c.a here)
          | inr k ↦ rw (k, h) here
        ]
    | inr h ↦
        let here : p c.b ≡ true = rw h at holds in
        elim (cases_Bool (eqb slot 0)) [
          | inl k ↦ rw (k, h) here
          | inr k ↦ rw (k, h) (tried c.b here)
        ]
  ]

  booted_keeps : (has : List Bool)
      → Keeps p after_try
      → p (info_at (booted_of c has) own) ≡ true
  unfolding booted_of
  booted_keeps has tried = tried_keeps (chosen_of c has) tried

-- ---- the slot that was booted last may be booted again

or_more : (x y z : Bool) → (y ≡ true → z ≡ true) → (x || y) ≡ true → (x || z) ≡ true
or_more true y z more is = refl
or_more false y z more is = more is

-- The source works still, and where the other slot is current that has a priority still.
runs_by : (own : ℕ) (c next : Control)
    → (is_good (info_at c own) ≡ true → is_good (info_at next own) ≡ true)
    → ((c.current == own || is_ranked (info_at c (other_slot own))) ≡ true
    → (next.current == own || is_ranked (info_at next (other_slot own))) ≡ true)
    → may_run own c ≡ true
    → may_run own next ≡ true
runs_by own c next good ranked runs =
    let parts = and_parts (is_good (info_at c own))
    (c.current == own || is_ranked (info_at c (other_slot own))) runs in
    and_from _ _ (good parts.0) (ranked parts.1)

same_current : (own : ℕ) (c next : Control)
    → next.current ≡ c.current
    → (is_ranked (info_at c (other_slot own)) ≡ true
    → is_ranked (info_at next (other_slot own)) ≡ true)
    → (c.current == own || is_ranked (info_at c (other_slot own))) ≡ true
    → (next.current == own || is_ranked (info_at next (other_slot own))) ≡ true
same_current own c next same more is =
    ap (λ (n : ℕ). n == own || is_ranked (info_at next (other_slot own))) same
    ∙ or_more (c.current == own) _ _ more is

pub activated_runs : (c : Control) (slot own : ℕ)
    → may_run own c ≡ true
    → may_run own (activated_of c slot) ≡ true
activated_runs c slot own runs =
    runs_by own c (activated_of c slot)
    (λ good. activated_keeps is_good c own good slot active_good demoted_good)
    (same_current own c (activated_of c slot) (activated_current c slot)
    (λ ranked.
    activated_keeps is_ranked c (other_slot own) ranked slot (λ i was. refl) demoted_ranked))
    runs

pub marked_runs : (c : Control) (own : ℕ)
    → may_run own c ≡ true
    → may_run own (marked_of c) ≡ true
marked_runs c own runs =
    runs_by own c (marked_of c)
    (λ good. marked_keeps is_good c own good proven_good)
    (same_current own c (marked_of c) (marked_current c)
    (λ ranked. marked_keeps is_ranked c (other_slot own) ranked (λ i was. was)))
    runs

-- a slot that is booted is the source, or has a priority
chosen_ranked : (c : Control) (has : List Bool) (own : ℕ) (o : Option ℕ)
    → own < 2
    → chosen_of c has ≡ o
    → (c.current == own || is_ranked (info_at c (other_slot own))) ≡ true
    → ((booted_of c has).current == own || is_ranked (info_at (booted_of c has) (other_slot own)))
    ≡ true
chosen_ranked c has own None below none was =
    ap (λ (k : Control). k.current == own || is_ranked (info_at k (other_slot own)))
    (booted_none c has none)
    ∙ was
chosen_ranked c has own (Some slot) below is was =
    let bootable = (chosen_is c has slot is).bootable in
    let now = booted_current c has slot is in
    elim (cases_Bool (eqb slot own)) [
      | inl same ↦ or_left _ _ (ap (λ (n : ℕ). eqb n own) now ∙ same)
      | inr other ↦
          let apart = eqb-false slot own other in
          let at : slot ≡ other_slot own = omega (arith, apart, below, bootable.0) in
          let ranked : is_ranked (info_at c slot) ≡ true =
          (bootable_parts (slice_index_or has slot false) (info_at c slot) bootable.1).1 in
          or_right _ _
          (booted_keeps is_ranked c (other_slot own)
          (subst (λ (n : ℕ). is_ranked (info_at c n) ≡ true) at ranked)
          has tried_ranked)
    ]

pub booted_runs : (c : Control) (has : List Bool) (own : ℕ)
    → own < 2
    → may_run own c ≡ true
    → may_run own (booted_of c has) ≡ true
booted_runs c has own below runs =
    runs_by own c (booted_of c has)
    (λ good. booted_keeps is_good c own good has tried_good)
    (chosen_ranked c has own (chosen_of c has) below refl)
    runs

-- ---- the current slot has images

-- the slot that is booted has images, or is the current one
pub booted_has : (d : Device) (size : ℕ)
    → IsDevice d size
    → has_slot d.mark.phase d.mark.slot (booted_of d.control (slots_with_images d)).current ≡ true
booted_has d size is = by_chosen (chosen_of d.control (slots_with_images d)) refl
  where
    images : (slot : ℕ)
        → IsBootable d.control (slots_with_images d) slot
        → has_slot d.mark.phase d.mark.slot slot ≡ true
    images zero bootable =
        sym is.has_a ∙ (bootable_parts (is_some d.a) d.control.a bootable.1).0
    images (suc zero) bootable =
        sym is.has_b ∙ (bootable_parts (is_some d.b) d.control.b bootable.1).0
    images (suc (suc n)) bootable = absurd (omega (arith, bootable.0))

    by_chosen : (o : Option ℕ)
        → chosen_of d.control (slots_with_images d) ≡ o
        → has_slot d.mark.phase d.mark.slot
        (booted_of d.control (slots_with_images d)).current
        ≡ true
    by_chosen None none =
        ap (λ (k : Control). has_slot d.mark.phase d.mark.slot k.current)
        (booted_none d.control (slots_with_images d) none)
        ∙ is.current
    by_chosen (Some slot) chosen =
        ap (λ (n : ℕ). has_slot d.mark.phase d.mark.slot n)
        (booted_current d.control (slots_with_images d) slot chosen)
        ∙ images slot (chosen_is d.control (slots_with_images d) slot chosen).bootable

-- the current slot has images
pub current_has : (d : Device) (size : ℕ)
    → IsDevice d size
    → (if d.control.current == 0 then is_some d.a else is_some d.b) ≡ true
current_has d size is = at d.control.current is.control.current is.current
  where
    at : (slot : ℕ)
        → slot < 2
        → has_slot d.mark.phase d.mark.slot slot ≡ true
        → (if slot == 0 then is_some d.a else is_some d.b) ≡ true
    at zero below has = is.has_a ∙ has
    at (suc zero) below has = is.has_b ∙ has
    at (suc (suc n)) below has = absurd (omega (arith, below))

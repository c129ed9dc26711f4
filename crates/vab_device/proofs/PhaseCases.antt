-- What is known of a kept device by its phase.
use Rattle.std.proofs.Common.{◌≡◌, ◌∙◌, ◌⊎◌, inl, inr, ℕ, zero, suc, ◌<◌, List, refl}
use Rattle.std.proofs.Common.{ap}
use Rattle.std.proofs.Common.{arith, Bool, true, false}
use Rattle.std.specs.Prelude.{Option, Some, None, is_some}
use Rattle.vab_marks.specs.declared.mark.MarkPhase.{MarkPhase}
use Rattle.vab_marks.specs.declared.mark.MarkPhase.TheVariants as marks
use Rattle.vab_tables.specs.declared.table.Table.{Table}
use Rattle.vab_device.specs.declared.device.Part.{Part}
use Rattle.vab_device.specs.declared.device.PhaseKind.TheVariants as kinds
use Rattle.vab_device.specs.declared.device.Device.{Device}
use Rattle.vab_device.specs.Kept.{IsDevice, IsPhase, IsUpdate}
use Rattle.vab_device.specs.Kept.{is_installing}
use Rattle.vab_device.specs.Kept.{kind_of, phase_kind}

pub cases_slot : (n : ℕ) → n < 2 → (n ≡ 0) ⊎ (n ≡ 1)
cases_slot zero below = inl refl
cases_slot (suc zero) below = inr refl
cases_slot (suc (suc n)) below = absurd (omega (arith, below))

no_completed : IsPhase marks.Completed → ⊥
no_completed (inl e) = absurd (let no : marks.Completed ≡ marks.Idle = e in cc)
no_completed (inr (inl e)) = absurd (let no : marks.Completed ≡ marks.Installing = e in cc)
no_completed (inr (inr (inl e))) = absurd (let no : marks.Completed ≡ marks.Staged = e in cc)
no_completed (inr (inr (inr e))) = absurd (let no : marks.Completed ≡ marks.Merging = e in cc)

idle_kind : (p : MarkPhase) (slot : ℕ) → IsPhase p → kinds.Idle ≡ kind_of p slot → p ≡ marks.Idle
idle_kind marks.Idle slot known is = refl
idle_kind marks.Installing slot known is = absurd cc
idle_kind marks.Staged slot known is = absurd cc
idle_kind marks.Merging slot known is = absurd cc
idle_kind marks.Completed slot known is = absurd (no_completed known)

installing_kind : (p : MarkPhase) (slot k : ℕ)
    → kinds.Installing k ≡ kind_of p slot
    → p ≡ marks.Installing
installing_kind marks.Idle slot k is = absurd cc
installing_kind marks.Installing slot k is = refl
installing_kind marks.Staged slot k is = absurd cc
installing_kind marks.Merging slot k is = absurd cc
installing_kind marks.Completed slot k is = absurd cc

staged_kind : (p : MarkPhase) (slot k : ℕ)
    → kinds.Staged k ≡ kind_of p slot
    → (p ≡ marks.Staged) × (k ≡ slot)
staged_kind marks.Idle slot k is = absurd cc
staged_kind marks.Installing slot k is = absurd cc
staged_kind marks.Staged slot k is = (refl, cc)
staged_kind marks.Merging slot k is = absurd cc
staged_kind marks.Completed slot k is = absurd cc

merging_kind : (p : MarkPhase) (slot k : ℕ)
    → kinds.Merging k ≡ kind_of p slot
    → p ≡ marks.Merging
merging_kind marks.Idle slot k is = absurd cc
merging_kind marks.Installing slot k is = absurd cc
merging_kind marks.Staged slot k is = absurd cc
merging_kind marks.Merging slot k is = refl
merging_kind marks.Completed slot k is = absurd cc

pub idle_of : (d : Device) (size : ℕ)
    → IsDevice d size
    → kinds.Idle ≡ phase_kind d
    → d.mark.phase ≡ marks.Idle
idle_of d size is said = idle_kind d.mark.phase d.mark.slot is.phase said

pub installing_of : (d : Device) (k : ℕ)
    → kinds.Installing k ≡ phase_kind d
    → d.mark.phase ≡ marks.Installing
installing_of d k said = installing_kind d.mark.phase d.mark.slot k said

pub staged_of : (d : Device) (k : ℕ)
    → kinds.Staged k ≡ phase_kind d
    → (d.mark.phase ≡ marks.Staged) × (k ≡ d.mark.slot)
staged_of d k said = staged_kind d.mark.phase d.mark.slot k said

pub merging_of : (d : Device) (k : ℕ)
    → kinds.Merging k ≡ phase_kind d
    → d.mark.phase ≡ marks.Merging
merging_of d k said = merging_kind d.mark.phase d.mark.slot k said

pub some_of : {X : Type 0} (x : Option X) → is_some x ≡ true → (y : X) × (x ≡ Some y)
some_of None is = absurd (let no : false ≡ true = is in cc)
some_of (Some y) is = (y, refl)

pub none_of : {X : Type 0} (x : Option X) → is_some x ≡ false → x ≡ None
none_of None is = refl
none_of (Some y) is = absurd (let no : true ≡ false = is in cc)

-- what an update that is installed has planned
pub planned_of : (d : Device) (size : ℕ)
    → IsDevice d size
    → d.mark.phase ≡ marks.Installing
    → (plan : List Part) × (d.plan ≡ Some plan)
planned_of d size is installing =
    some_of d.plan (is.planned ∙ ap is_installing installing)

-- in the other phases nothing is planned
pub unplanned_of : (d : Device) (size : ℕ) (p : MarkPhase)
    → IsDevice d size
    → is_installing p ≡ false
    → d.mark.phase ≡ p
    → d.plan ≡ None
unplanned_of d size p is none phase =
    none_of d.plan (is.planned ∙ ap is_installing phase ∙ none)

pub no_target : (apart : Bool) (source : ℕ) (s : Option Table) → IsUpdate apart source s None
no_target apart source None = tt
no_target apart source (Some s) = tt

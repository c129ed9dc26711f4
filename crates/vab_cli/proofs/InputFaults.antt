-- Runs that end by their input, or by want of memory for it, behind the opening of a device.
use Rattle.std.proofs.Common.{◌≡◌, ◌∙◌, ◌⊎◌, inl, inr, ◌<◌, ◌≤◌, ◌^◌, ℕ, List, [], length, refl}
use Rattle.std.proofs.Common.{sym, ap, subst, arith, Result, Ok, Err}
use Rattle.vab_disk.specs.declared.disk.Disk.{Ghosts}
use Rattle.vab_disk.specs.Disk.{Image, Outcome, Leaves, Hearing}
use Rattle.vab_set.specs.declared.set.SetImage.{SetImage}
use Rattle.vab_set.specs.declared.fault.SetFault.{SetFault}
use Rattle.vab_set.specs.declared.fault.SetFault.TheVariants as faults
use Rattle.vab_set.specs.Reading.{Gives, set_of}
use Rattle.vab_input.specs.declared.input.InputFault.{InputFault}
use Rattle.vab_input.specs.declared.input.InputFault.TheVariants as input
use Rattle.vab_model.specs.Effects.{IsOneOf}
use Rattle.vab_device.specs.Mounted.{Mounted}
use Rattle.vab_device.specs.declared.fault.StartFault.{StartFault}
use Rattle.vab_device.specs.Reading.{device, IsIn}
use Rattle.vab_exchanges.specs.Items.{Item}
use Rattle.vab_cli.specs.declared.status.Status.{Status}
use Rattle.vab_cli.specs.declared.status.Status.TheVariants.{Done, Malformed, NotADevice, Port}
use Rattle.vab_cli.specs.declared.status.Status.TheVariants.{NoMemory}
use Rattle.vab_cli.specs.Codes.{input_status, set_status}
use Rattle.vab_exchanges.specs.Hearing.{HearsWhere}
use Rattle.vab_input.specs.HearsToEnd.{FindsSome, HearsToEnd}
use Rattle.vab_cli.specs.Counts.{HearsUnless, HearsWhole}
use Rattle.vab_cli.specs.Installing.{RunsOrFails}
use Rattle.vab_cli.specs.Runs.{Held, IsEarly, IsFailed, FailsBefore, RunsNone}
use Rattle.vab_cli.specs.Verbs.{line_item}
use Rattle.vab_cli.proofs.Items.{none_done, none_told as nothing_told}
use Rattle.vab_cli.proofs.Lines.{not_failed}
use Rattle.vab_cli.proofs.Running.{MeansSame, runs_done, runs_failed, runs_short}

-- ---- how it is heard

-- an input that isn't had was too long, or nothing is owed
pub unheard_whole : (f : InputFault) (left : List ℕ) (old new : List Hearing) (status : Status)
    → status ≡ input_status f
    → (f ≡ input.TooLong → 2 ^ 32 < length left)
    → (f ≡ input.TooLong → HearsWhere FindsSome old new)
    → HearsUnless left old new status
unheard_whole input.TooLong left old new status is long over = λ port memory. record {
  whole = λ fits. absurd (omega (arith, fits, long refl));
  over = λ more. over refl;
}
unheard_whole input.Source left old new status is long over = λ port memory. absurd (port is)
unheard_whole input.NoMemory left old new status is long over = λ port memory. absurd (memory is)

-- one that is had was heard to its end
pub heard_whole : (left bytes : List ℕ) (old new : List Hearing)
    → bytes ≡ left
    → length bytes ≤ 2 ^ 32
    → HearsToEnd old new
    → HearsWhole left old new
heard_whole left bytes old new same fits end = record {
  whole = λ few. end;
  over = λ more. absurd (omega (arith, more, fits, ap length same));
}

-- a call before it heard nothing
pub heard_from : (left mid : List ℕ) (old between new : List Hearing) (status : Status)
    → mid ≡ left
    → between ≡ old
    → HearsUnless mid between new status
    → HearsUnless left old new status
heard_from left mid old between new status same none unless =
    subst (λ (l : List ℕ). HearsUnless l old new status) same
    (subst (λ (h : List Hearing). HearsUnless mid h new status) none unless)

-- where a device isn't opened, the disk failed or memory was refused
pub early_unheld : {R : Type 0} {status : Status}
    → IsEarly status
    → Held status
    → (status ≡ NoMemory → ⊥)
    → R
early_unheld (inl disk) held memory = absurd (subst Held disk held)
early_unheld (inr none) held memory = absurd (memory none)

-- ---- why it isn't read

-- a set that isn't read is malformed, or memory was refused
pub set_kind : (f : SetFault) → (set_status f ≡ Malformed) ⊎ (set_status f ≡ NoMemory)
set_kind faults.BadMagic = inl refl
set_kind (faults.TooMany count) = inl refl
set_kind (faults.BadName image) = inl refl
set_kind (faults.Repeated first image) = inl refl
set_kind (faults.TooBig image) = inl refl
set_kind (faults.Cut image) = inl refl
set_kind faults.Trailing = inl refl
set_kind faults.NoMemory = inr refl

-- where it is a set, memory was refused
pub set_memory : (f : SetFault) (set : List SetImage)
    → Gives {X = List SetImage} {Y = List SetImage} (λ v. v) (Err f) (Ok set)
    → set_status f ≡ NoMemory
set_memory faults.BadMagic set is = absurd cc
set_memory (faults.TooMany count) set is = absurd cc
set_memory (faults.BadName image) set is = absurd cc
set_memory (faults.Repeated first image) set is = absurd cc
set_memory (faults.TooBig image) set is = absurd cc
set_memory (faults.Cut image) set is = absurd cc
set_memory faults.Trailing set is = absurd cc
set_memory faults.NoMemory set is = refl

-- the set that is read is that of the input
pub same_set : (text left : List ℕ) (set set' : List SetImage)
    → text ≡ left
    → set_of text ≡ Ok set'
    → set_of left ≡ Ok set
    → set' ≡ set
same_set text left set set' same is was =
    let both : Ok set' ≡ Ok set = sym is ∙ ap set_of same ∙ was in cc

-- and where there is one, the input spells no other
pub not_both : {R : Type 0} (text left : List ℕ) (set : List SetImage) (f : SetFault)
    → text ≡ left
    → set_of text ≡ Ok set
    → set_of left ≡ Err f
    → R
not_both text left set f same is bad =
    let both : Ok set ≡ Err f = sym is ∙ ap set_of same ∙ bad in cc

-- ---- runs that aren't done

pub input_undone : (f : InputFault) → input_status f ≡ Done → ⊥
input_undone input.TooLong is = cc
input_undone input.Source is = cc
input_undone input.NoMemory is = cc

pub set_undone : (f : SetFault) → set_status f ≡ Done → ⊥
set_undone f is = elim (set_kind f) [
  | inl bad ↦ let no : Malformed ≡ Done = sym bad ∙ is in cc
  | inr memory ↦ let no : NoMemory ≡ Done = sym memory ∙ is in cc
]

pub failed_undone : {status : Status} → IsFailed status → status ≡ Done → ⊥
failed_undone (inl disk) is = cc
failed_undone (inr port) is = cc

early_undone : {status : Status} → IsEarly status → status ≡ Done → ⊥
early_undone (inl disk) is = cc
early_undone (inr memory) is = cc

none_undone : {status : Status}
    → (status ≡ NotADevice) ⊎ (IsFailed status ⊎ (status ≡ NoMemory))
    → status ≡ Done
    → ⊥
none_undone (inl none) is = cc
none_undone (inr (inl failed)) is = failed_undone failed is
none_undone (inr (inr memory)) is = cc

-- where opening failed
pub opening_undone : {D : Type 0} (g : Ghosts D) (line : List ℕ) (old new : D) (status : Status)
    → ((s : Mounted)
    → IsIn (g.size old) s (g.seen old)
    → FailsBefore g (g.size old) s old new status)
    → ((f : StartFault)
    → device (g.size old) (g.seen old) ≡ Err f
    → RunsNone g (g.size old) line old new status)
    → status ≡ Done
    → ⊥
opening_undone g line old new status early none done =
    go (device (g.size old) (g.seen old)) refl
  where
    go : (r : Result Mounted StartFault) → device (g.size old) (g.seen old) ≡ r → ⊥
    go (Ok s) is = early_undone (early s is).early done
    go (Err f) is = none_undone (none f is).status_is done

module _ {D : Type 0}
    (g : Ghosts D)
    (only_now : (d : D) (o : Outcome)
    → g.outcomes d (g.moment d) o
    → Leaves (g.told d) (g.may_leave d) o)
    (old mid : D)
    (s : Mounted)
    (stands : IsIn (g.size old) s (g.seen old))
    (same : MeansSame g (g.size old) old mid) where
  here : IsIn (g.size old) s (g.seen mid)
  here = same.device ∙ stands

  -- nothing of an item is done
  module _ (item : Item Mounted)
      (first : IsOneOf item.steps s)
      (some : (0 < length item.reply)
      ⊎ ((image : Image) → IsIn (g.size old) s image → IsIn (g.size old) item.last.now image))
      (ends : Status) where
    -- memory was refused
    pub short_before : (status : Status)
        → status ≡ NoMemory
        → RunsOrFails g old mid status s item ends
    short_before status is =
        inr (inl (runs_short g only_now (g.size old) s item first some old mid mid same stands
        (record { told = refl; step = (s, first, here); settled = λ rest. rest }) status is
        (none_done g (g.size old) item mid status)))

    -- the port failed
    pub failed_before : (status : Status)
        → status ≡ Port
        → Held ends
        → RunsOrFails g old mid status s item ends
    failed_before status is held =
        inl (runs_failed g only_now (g.size old) s item first some ends old mid mid same stands
        status (inr is) (not_failed ends held) (none_done g (g.size old) item mid status))

    -- the input is a set, but wasn't heard whole
    pub unheard_before : (f : InputFault) (status : Status)
        → status ≡ input_status f
        → (f ≡ input.TooLong → ⊥)
        → Held ends
        → RunsOrFails g old mid status s item ends
    unheard_before input.TooLong status is other held = absurd (other refl)
    unheard_before input.Source status is other held = failed_before status is held
    unheard_before input.NoMemory status is other held = short_before status is

  -- the input is no set
  pub malformed_before : (status : Status)
      → status ≡ Malformed
      → RunsOrFails g old mid status s (line_item s []) Malformed
  malformed_before status is =
      inl (runs_done g only_now (g.size old) s (line_item s []) (inl refl) (inr (λ image at. at))
      Malformed old mid mid same stands status is (nothing_told g (g.size old) s mid status here))

  pub unread_before : (f : SetFault) (status : Status)
      → status ≡ set_status f
      → RunsOrFails g old mid status s (line_item s []) Malformed
  unread_before f status is = elim (set_kind f) [
    | inl bad ↦ malformed_before status (is ∙ bad)
    | inr memory ↦
        short_before (line_item s []) (inl refl) (inr (λ image at. at)) Malformed status
        (is ∙ memory)
  ]

  pub unheard_malformed : (f : InputFault) (status : Status)
      → status ≡ input_status f
      → RunsOrFails g old mid status s (line_item s []) Malformed
  unheard_malformed input.TooLong status is = malformed_before status is
  unheard_malformed input.Source status is =
      failed_before (line_item s []) (inl refl) (inr (λ image at. at)) Malformed status is tt
  unheard_malformed input.NoMemory status is =
      short_before (line_item s []) (inl refl) (inr (λ image at. at)) Malformed status is

-- What verbs touch, by what their functions touch.
use Rattle.std.proofs.Common.{◌≡◌, ◌⊎◌, ◌∙◌, inl, inr, ⊎_elim, ℕ, List, Ok, refl, sym, ap, subst}
use Rattle.std.proofs.Common.{arith}
use Rattle.std.specs.Prelude.{◌==◌, Bool, true, Some, None, is_some}
use Rattle.std.proofs.lemmas.Bool.{eq-eqb}
use Rattle.vab_disk.specs.declared.disk.Disk.{Ghosts}
use Rattle.vab_disk.specs.Disk.{Image}
use Rattle.vab_disk.specs.Calls.{Changes, SameBut, Touches}
use Rattle.vab_disk.proofs.CallLaws.{changes_then, changes_wider, changes_touches}
use Rattle.vab_bootctl.specs.declared.slots.Control.{Control}
use Rattle.vab_bootctl.specs.Control.{control_of}
use Rattle.vab_model.specs.Commands.{Command, SetActive, Boot, Mark, Print, Digest}
use Rattle.vab_model.specs.Commands.{Cancel, BeginMerge}
use Rattle.vab_model.specs.Commands.{Merge}
use Rattle.vab_marks.specs.declared.mark.MarkPhase.TheVariants as marks
use Rattle.vab_device.specs.declared.device.Part.{Part}
use Rattle.vab_device.specs.declared.device.Device.{Device}
use Rattle.vab_device.specs.Kept.{IsDevice}
use Rattle.vab_device.specs.Mounted.{Mounted, state_on, mounted_on}
use Rattle.vab_device.specs.Reading.{IsIn, Represents}
use Rattle.vab_recover.specs.Opening.{IsOfOpening}
use Rattle.vab_recover.proofs.MendLaws.{opening_misses}
use Rattle.vab_manager.specs.Controls.{IsOfSlots, IsOfCommand}
use Rattle.vab_begin.specs.Writes.{MayEnd, IsOfCancelled}
use Rattle.vab_device.proofs.PhaseCases.{planned_of, unplanned_of}
use Rattle.vab_commands.specs.Writes as writes
use Rattle.vab_cli.specs.Touched.{IsOfServing, IsOfItem, IsOfMerging, IsOfDone, IsMergedThere}
use Rattle.vab_cli.specs.Touched.{IsOfVerb, IsDropped, dropped_from}
use Rattle.vab_model.specs.Kinds.{IsVerb}
use Rattle.vab_manager.proofs.EffectLaws.{some_images}
use Rattle.vab_cli.proofs.Items.{mounted_is}

-- ---- opening leaves the boot control

pub opening_leaves : (size : ℕ) (old new : Image)
    → SameBut (IsOfOpening size old) old new
    → new 4 ≡ old 4
opening_leaves size old new but =
    ⊎_elim (λ same. same)
    (λ w. opening_misses size 4 old (new 4) (omega arith) w)
    (but 4)

-- ---- a command on the device of a disk

has_a : (d : Device) (image : Image) → is_some (state_on d image).a ≡ is_some d.a
unfolding state_on
has_a d image = some_images image d.a

has_b : (d : Device) (image : Image) → is_some (state_on d image).b ≡ is_some d.b
unfolding state_on
has_b d image = some_images image d.b

-- What is said of a device's boot control and slots is said of the disk's.
said_by : (W : Control → Bool → Bool → Type 0) (d : Device) (size : ℕ) (image : Image) (m : Mounted)
    (boot : Control)
    → Represents d size image
    → IsIn size m image
    → control_of (image 4) ≡ Ok boot
    → W d.control (is_some d.a) (is_some d.b)
    → W boot (is_some m.state.a) (is_some m.state.b)
said_by W d size image m boot represents is there w =
    let same = mounted_is d size image m represents is in
    let a : is_some d.a ≡ is_some m.state.a =
    sym (has_a d image) ∙ ap (λ (x : Mounted). is_some x.state.a) same in
    let b : is_some d.b ≡ is_some m.state.b =
    sym (has_b d image) ∙ ap (λ (x : Mounted). is_some x.state.b) same in
    let both : Ok d.control ≡ Ok boot = sym represents.control ∙ there in
    let control : d.control ≡ boot = cc in
    subst (λ (k : Control). W k (is_some m.state.a) (is_some m.state.b)) control
    (subst (λ (x : Bool). W d.control x (is_some m.state.b)) a
    (subst (λ (x : Bool). W d.control (is_some d.a) x) b w))

slots_are : (d : Device) (size : ℕ) (image : Image) (m : Mounted) (boot : Control) (c : Command)
    (s : ℕ) (bytes : List ℕ)
    → Represents d size image
    → IsIn size m image
    → control_of (image 4) ≡ Ok boot
    → IsOfCommand d (image 4) c s bytes
    → IsOfSlots boot (is_some m.state.a) (is_some m.state.b) (image 4) c s bytes
slots_are d size image m boot c s bytes =
    said_by (λ k a b. IsOfSlots k a b (image 4) c s bytes) d size image m boot

-- ---- an update that is dropped

dropped_installed : (d : Device) (image : Image) (plan : List Part)
    → d.plan ≡ Some plan
    → dropped_from (state_on d image).control.current (state_on d image).phase ≡ Some d.mark.slot
unfolding state_on
dropped_installed d image plan is = rw is refl

dropped_ready : (d : Device) (image : Image)
    → d.plan ≡ None
    → d.mark.phase ≡ marks.Staged
    → (d.control.current == d.mark.slot) ≡ true
    → dropped_from (state_on d image).control.current (state_on d image).phase ≡ Some d.mark.slot
unfolding state_on
dropped_ready d image plan phase at = rw (plan, phase, at) refl

source_is : (d : Device) (size : ℕ) (image : Image)
    → IsDevice d size
    → MayEnd d
    → dropped_from (state_on d image).control.current (state_on d image).phase ≡ Some d.mark.slot
source_is d size image kept (inl installing) =
    let plan = planned_of d size kept installing in
    dropped_installed d image plan.0 plan.1
source_is d size image kept (inr ready) =
    dropped_ready d image (unplanned_of d size marks.Staged kept refl ready.0) ready.0
    (eq-eqb d.control.current d.mark.slot ready.1)

dropped_is : (d : Device) (size : ℕ) (image : Image) (m : Mounted) (s : ℕ) (bytes : List ℕ)
    → IsDevice d size
    → mounted_on d image ≡ m
    → IsOfCancelled d s bytes
    → IsDropped m s bytes
dropped_is d size image m s bytes kept same w = record {
  source = d.mark.slot;
  is =
      ap (λ (x : Mounted). dropped_from x.state.control.current x.state.phase) (sym same)
      ∙ source_is d size image kept w.ends;
  kept = d.mark;
  of = refl;
  mark = w.mark;
}

-- ---- a verb writes what a command on slots does, or a cancel, or one of a merge

abbrev pub IsOfEither : Device → List ℕ → Command → ℕ → List ℕ → Type 0
IsOfEither d old c s b =
    IsOfCommand d old c s b ⊎ ((c ≡ Cancel) × IsOfCancelled d s b) ⊎ IsOfMerging d c s b

pub item_is : (d : Device) (size : ℕ) (image : Image) (m : Mounted) (boot : Control) (c : Command)
    (s : ℕ) (bytes : List ℕ)
    → IsDevice d size
    → Represents d size image
    → IsIn size m image
    → control_of (image 4) ≡ Ok boot
    → IsOfEither d (image 4) c s bytes
    → IsOfDone d m boot c (image 4) s bytes
item_is d size image m boot c s bytes kept represents is there (inl w) =
    inl (inl (slots_are d size image m boot c s bytes represents is there w))
item_is d size image m boot c s bytes kept represents is there (inr (inl w)) =
    inl (inr (
      w.0,
      dropped_is d size image m s bytes kept (mounted_is d size image m represents is) w.1,
    ))
item_is d size image m boot c s bytes kept represents is there (inr (inr w)) = inr w

verb_writes : (told : Type 0) (d : Device) (old : List ℕ) (c : Command)
    → IsVerb c
    → (s : ℕ) (b : List ℕ)
    → writes.IsOfCommand told d old c s b
    → IsOfEither d old c s b
verb_writes told d old (SetActive slot) verb s b w = inl w
verb_writes told d old Boot verb s b w = inl w
verb_writes told d old Mark verb s b w = inl w
verb_writes told d old (Print name) verb s b w = absurd w
verb_writes told d old (Digest name) verb s b w = absurd w
verb_writes told d old Cancel verb s b w = inr (inl (refl, w))
verb_writes told d old BeginMerge verb s b w = inr (inr w)
verb_writes told d old (Merge blocks) verb s b w = inr (inr w)
verb_writes told d old _ verb s b w = absurd cc

-- what a verb's command touches
pub verb_changes : {D : Type 0}
    (g : Ghosts D)
    (d : Device) (size : ℕ) (old new : D) (m : Mounted) (boot : Control) (c : Command)
    → IsVerb c
    → IsDevice d size
    → Represents d size (g.seen old)
    → IsIn size m (g.seen old)
    → control_of (g.seen old 4) ≡ Ok boot
    → Touches g (writes.IsOfCommand g.is_modelled d (g.seen old 4) c) old new
    → Changes g (IsOfDone d m boot c (g.seen old 4)) old new
verb_changes g d size old new m boot c verb kept represents is there touches =
    changes_wider g _ _ old new (changes_touches g _ _ _ touches)
    (λ n x w.
    item_is d size (g.seen old) m boot c n x kept represents is there
    (verb_writes g.is_modelled d (g.seen old 4) c verb n x w))

-- ---- opening, and then what writes so, where the boot control's sector has these bytes

module _ {D : Type 0} (g : Ghosts D) (size : ℕ) (W : List ℕ → ℕ → List ℕ → Type 0) where
  -- both
  abbrev pub IsOfBoth : Image → ℕ → List ℕ → Type 0
  IsOfBoth image s bytes = IsOfOpening size image s bytes ⊎ W (image 4) s bytes

  -- opening alone
  pub opening_changes : (old new : D)
      → Changes g (IsOfOpening size (g.seen old)) old new
      → Changes g (IsOfBoth (g.seen old)) old new
  opening_changes old new opens =
      changes_wider g (IsOfBoth (g.seen old)) (IsOfOpening size (g.seen old)) old new opens
      (λ s x w. inl w)

  pub opened_changes : (boot : Control) (old mid new : D)
      → (t : g.is_modelled)
      → Changes g (IsOfOpening size (g.seen old)) old mid
      → (control_of (g.seen mid 4) ≡ Ok boot → Changes g (W (g.seen mid 4)) mid new)
      → control_of (g.seen old 4) ≡ Ok boot
      → Changes g (IsOfBoth (g.seen old)) old new
  opened_changes boot old mid new t opens does there =
      let same = opening_leaves size (g.seen old) (g.seen mid) (opens.seen t) in
      changes_then g (IsOfBoth (g.seen old)) old mid new
      (opening_changes old mid opens)
      (changes_wider g (IsOfBoth (g.seen old)) (W (g.seen mid 4)) mid new
      (does (ap control_of same ∙ there))
      (λ s x w. inr (subst (λ (l : List ℕ). W l s x) same w)))

-- ---- opening, and then the command of a verb

module _ {D : Type 0} (g : Ghosts D) (size : ℕ) where
  -- what a verb writes behind its opening, where the disk was this one before it
  abbrev pub Behind : Image → Mounted → Control → Command → List ℕ → ℕ → List ℕ → Type 0
  Behind image m boot c old s bytes =
      IsOfItem m boot c old s bytes ⊎ IsMergedThere size image c s bytes

  pub verb_opened : (d : Device) (m : Mounted) (boot : Control) (c : Command) (old mid new : D)
      → (t : g.is_modelled)
      → Represents d size (g.seen mid)
      → Changes g (IsOfOpening size (g.seen old)) old mid
      → (control_of (g.seen mid 4) ≡ Ok boot
      → Changes g (IsOfDone d m boot c (g.seen mid 4)) mid new)
      → control_of (g.seen old 4) ≡ Ok boot
      → Changes g (IsOfVerb size (g.seen old) m boot c) old new
  verb_opened d m boot c old mid new t is opens does there =
      opened_changes g size (Behind (g.seen old) m boot c) boot old mid new t opens
      (λ here.
      changes_wider g
      (Behind (g.seen old) m boot c (g.seen mid 4))
      (IsOfDone d m boot c (g.seen mid 4))
      mid new (does here)
      (λ s x w.
      ⊎_elim {C = Behind (g.seen old) m boot c (g.seen mid 4) s x}
      (λ item. inl item)
      (λ merging.
      inr (record {
        device = d;
        opened = g.seen mid;
        opens = opens.seen t;
        represents = is;
        writes = merging;
      }))
      w))
      there

-- ---- opening, and then a session

module _ {D : Type 0} (g : Ghosts D) (size : ℕ) (W : Device → List ℕ → ℕ → List ℕ → Type 0) where
  pub served_changes : (d : Device) (old mid new : D)
      → (t : g.is_modelled)
      → Represents d size (g.seen mid)
      → Changes g (IsOfOpening size (g.seen old)) old mid
      → Changes g (W d (g.seen mid 4)) mid new
      → Changes g (IsOfServing W size (g.seen old)) old new
  served_changes d old mid new t is opens serves =
      changes_then g (IsOfServing W size (g.seen old)) old mid new
      (changes_wider g (IsOfServing W size (g.seen old)) (IsOfOpening size (g.seen old)) old mid
      opens
      (λ s x w. inl w))
      (changes_wider g (IsOfServing W size (g.seen old)) (W d (g.seen mid 4)) mid new serves
      (λ s x w.
      inr (record {
        device = d;
        opened = g.seen mid;
        opens = opens.seen t;
        represents = is;
        writes =
            subst (λ (l : List ℕ). W d l s x)
            (opening_leaves size (g.seen old) (g.seen mid) (opens.seen t)) w;
      })))

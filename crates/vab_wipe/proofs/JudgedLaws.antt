-- What is decided of a wipe is what the table of effects says of it.
use Rattle.std.proofs.Common.{◌≡◌, ◌≢◌, ◌∙◌, inl, inr, ⊎_elim, ℕ, ◌+◌, ◌≤◌, true, false, List, refl}
use Rattle.std.proofs.Common.{sym, ap, subst}
use Rattle.std.specs.Prelude.{Bool, Option, Some, None, is_some, if◌then◌else◌}
use Rattle.std.specs.Prelude.{Result, Ok, Err, IfErr}
use Rattle.std.proofs.lemmas.Bool.{eqb-true, le-leb, cases_Bool}
use Rattle.vab_disk.specs.Disk.{Image}
use Rattle.vab_marks.specs.declared.mark.MarkPhase.{MarkPhase}
use Rattle.vab_marks.specs.declared.mark.MarkPhase.TheVariants as marks
use Rattle.vab_marks.specs.declared.mark.UpdateMark.{UpdateMark}
use Rattle.vab_tables.specs.declared.table.Table.{Table}
use Rattle.vab_tables.specs.Spelling.{table_size_of, as_minor_2}
use Rattle.vab_super_image.specs.declared.image.SuperImage.{SuperImage}
use Rattle.vab_super_image.specs.SuperImage.{super_image_of, first_filled, wiped as wiped_table}
use Rattle.vab_model.specs.declared.state.PlanEntry.{PlanEntry}
use Rattle.vab_model.specs.declared.state.Phase.TheVariants.{Idle}
use Rattle.vab_model.specs.declared.command.Refusal.{Refusal}
use Rattle.vab_model.specs.declared.command.Refusal.TheVariants as refusals
use Rattle.vab_model.specs.declared.command.Reply.TheVariants as replies
use Rattle.vab_model.specs.Commands.{UpdateSuper}
use Rattle.vab_model.specs.Effects.{Effect, refuses, does, wanting, effect_map, unless_refused}
use Rattle.vab_model.specs.Effects.{if_plain}
use Rattle.vab_model.specs.Wipe.{filled_refusal, if_passing, judged_effect, wipe_effect}
use Rattle.vab_device.specs.declared.device.Part.{Part}
use Rattle.vab_device.specs.declared.device.Device.{Device}
use Rattle.vab_device.specs.Kept.{IsDevice, IsPhase, has_slot, is_installing}
use Rattle.vab_device.specs.Mounted.{Mounted, places_on, entries_on, count_at, unplanned}
use Rattle.vab_device.specs.Mounted.{phase_by, phase_on, state_on, mounted_on, overlay_on}
use Rattle.vab_device.proofs.OverlayLaws.{plain_none}
use Rattle.vab_device.specs.Updates.{other_super, full_super, wiped, update_super, effect_on}
use Rattle.vab_wipe.specs.Prepared.{other, full, judged, or_later, refused_image, Refuses}
use Rattle.vab_wipe.specs.Prepared.{AreTaken}
use Rattle.vab_wipe.proofs.RowLaws.{wipe_map, refused_map, IsBusy, busy_refuses}

-- ---- the phase

none_of : {X : Type 0} (x : Option X) → is_some x ≡ false → x ≡ None
none_of None is = refl
none_of (Some x) is = absurd (let no : true ≡ false = is in cc)

idle_phase : (d : Device) (size : ℕ) (image : Image)
    → IsDevice d size
    → d.mark.phase ≡ marks.Idle
    → phase_on d image ≡ Idle
idle_phase d size image kept idle =
    let none : d.plan ≡ None = none_of d.plan (kept.planned ∙ ap is_installing idle) in
    ap
    (λ (x : Option (List Part)).
    phase_by d.mark (count_at d.a + count_at d.b) (entries_on image x)) none
    ∙ ap (λ (p : MarkPhase). unplanned p d.mark.slot (count_at d.a + count_at d.b)) idle

busy_by : (m : UpdateMark) (left : ℕ) (x : Option (List PlanEntry))
    → IsPhase m.phase
    → m.phase ≢ marks.Idle
    → is_some x ≡ is_installing m.phase
    → IsBusy (phase_by m left x)
busy_by m left (Some entries) phase not is = tt
busy_by m left None (inl idle) not is = absurd (not idle)
busy_by m left None (inr (inl installing)) not is =
    absurd (let bad : false ≡ true = is ∙ ap is_installing installing in cc)
busy_by m left None (inr (inr (inl staged))) not is =
    subst (λ (p : MarkPhase). IsBusy (unplanned p m.slot left)) (sym staged) tt
busy_by m left None (inr (inr (inr merging))) not is =
    subst (λ (p : MarkPhase). IsBusy (unplanned p m.slot left)) (sym merging) tt

some_entries : (image : Image) (plan : Option (List Part))
    → is_some (entries_on image plan) ≡ is_some plan
some_entries image None = refl
some_entries image (Some plan) = refl

busy_phase : (d : Device) (size : ℕ) (image : Image)
    → IsDevice d size
    → d.mark.phase ≢ marks.Idle
    → IsBusy (phase_on d image)
busy_phase d size image kept not =
    busy_by d.mark (count_at d.a + count_at d.b) (entries_on image d.plan) kept.phase not
    (some_entries image d.plan ∙ kept.planned)

-- ---- the table of effects

-- without an update the slot of the mark is current
current_is : (d : Device) (size : ℕ)
    → IsDevice d size
    → d.mark.phase ≡ marks.Idle
    → d.control.current ≡ d.mark.slot
current_is d size kept idle =
    sym
    (eqb-true d.mark.slot d.control.current
    (subst
    (λ (p : MarkPhase). has_slot p d.mark.slot d.control.current ≡ true) idle kept.current))

-- with an overlay nothing but an idle device without one is wiped
if_overlaid : {S : Type 0} (image : Image) (o : Option Part) (next : Effect S)
    → is_some o ≡ true
    → if_plain (overlay_on image o) next ≡ refuses refusals.NotIdle
if_overlaid image None next is = absurd (let no : false ≡ true = is in cc)
if_overlaid image (Some p) next is = refl

module _ (d : Device) (size : ℕ) (image : Image) (staged : Option (List ℕ))
    (kept : IsDevice d size) where
  abbrev m : Mounted
  m = mounted_on d image

  by_current : effect_on m staged UpdateSuper
      ≡ if_plain (overlay_on image d.overlay)
      (update_super m d.control.current staged (phase_on d image))
  unfolding state_on
  by_current = refl

  -- without an overlay it is the row of the phase
  by_bare : d.mark.overlaid ≡ false
      → effect_on m staged UpdateSuper
      ≡ update_super m d.control.current staged (phase_on d image)
  by_bare bare =
      by_current
      ∙ ap
      (λ (o : Option Part).
      if_plain (overlay_on image o)
      (update_super m d.control.current staged (phase_on d image)))
      (plain_none d size kept bare)

  bare_row : d.mark.overlaid ≡ false
      → judged d staged (phase_on d image)
      ≡ wipe_effect (other d) (full d) (λ i. i) d.mark.slot staged (phase_on d image)
  bare_row bare = λ k.
      if bare k then refuses refusals.NotIdle
      else wipe_effect (other d) (full d) (λ i. i) d.mark.slot staged (phase_on d image)

  -- an overlay refuses it
  effect_overlaid : d.mark.overlaid ≡ true
      → effect_on m staged UpdateSuper
      ≡ effect_map (wiped m d.mark.slot) (judged d staged (phase_on d image))
  effect_overlaid overlaid =
      by_current
      ∙ if_overlaid image d.overlay
      (update_super m d.control.current staged (phase_on d image))
      (kept.overlaid ∙ overlaid)
      ∙ ap (effect_map (wiped m d.mark.slot))
      (λ k.
      if sym overlaid k then refuses refusals.NotIdle
      else wipe_effect (other d) (full d) (λ i. i) d.mark.slot staged (phase_on d image))

  effect_busy : d.mark.overlaid ≡ false
      → d.mark.phase ≢ marks.Idle
      → effect_on m staged UpdateSuper
      ≡ effect_map (wiped m d.mark.slot) (judged d staged (phase_on d image))
  effect_busy bare not =
      let busy = busy_phase d size image kept not in
      by_bare bare
      ∙ busy_refuses (other_super (places_on d) d.control.current) (full_super (places_on d))
      (wiped m d.control.current) d.control.current staged (phase_on d image) busy
      ∙ ap (effect_map (wiped m d.mark.slot))
      (sym
      (bare_row bare
      ∙ busy_refuses (other d) (full d) (λ i. i) d.mark.slot staged (phase_on d image) busy))

  effect_idle : d.mark.overlaid ≡ false
      → d.mark.phase ≡ marks.Idle
      → effect_on m staged UpdateSuper
      ≡ effect_map (wiped m d.mark.slot) (judged d staged (phase_on d image))
  effect_idle bare idle =
      by_bare bare
      ∙ ap (λ (n : ℕ). update_super m n staged (phase_on d image)) (current_is d size kept idle)
      ∙ wipe_map (wiped m d.mark.slot) (other d) (full d) (λ i. i) d.mark.slot staged
      (phase_on d image)
      ∙ ap (effect_map (wiped m d.mark.slot)) (sym (bare_row bare))

  -- A wipe of the device makes of the image that is taken what the table of effects says.
  pub effect_judged : effect_on m staged UpdateSuper
      ≡ effect_map (wiped m d.mark.slot) (judged d staged (phase_on d image))
  effect_judged = ⊎_elim effect_overlaid (λ bare. by_phase bare kept.phase)
      (cases_Bool d.mark.overlaid)
    where
      by_phase : d.mark.overlaid ≡ false
          → IsPhase d.mark.phase
          → effect_on m staged UpdateSuper
          ≡ effect_map (wiped m d.mark.slot) (judged d staged (phase_on d image))
      by_phase bare (inl idle) = effect_idle bare idle
      by_phase bare (inr (inl is)) =
          effect_busy bare (λ e. let both : marks.Idle ≡ marks.Installing = sym e ∙ is in cc)
      by_phase bare (inr (inr (inl is))) =
          effect_busy bare (λ e. let both : marks.Idle ≡ marks.Staged = sym e ∙ is in cc)
      by_phase bare (inr (inr (inr is))) =
          effect_busy bare (λ e. let both : marks.Idle ≡ marks.Merging = sym e ∙ is in cc)

  -- what is refused there is refused by it
  pub effect_refused : (r : Refusal) (is : Refuses d staged r)
      → unless_refused is.refused (effect_on m staged UpdateSuper) ≡ wanting is.wants (refuses r)
  effect_refused r is =
      ap (unless_refused is.refused) effect_judged
      ∙ refused_map (wiped m d.mark.slot) is.refused (judged d staged (phase_on d image))
      ∙ ap (effect_map (wiped m d.mark.slot)) (is.is image)

-- ---- behind the staged bytes

module _ (d : Device) (size : ℕ) (staged : Option (List ℕ)) (bytes : List ℕ)
    (kept : IsDevice d size)
    (are : AreTaken d staged bytes) where
  abbrev row : Option SuperImage → Effect SuperImage
  row o = judged_effect (other d) (full d) (λ i. i) o

  taken_row : (image : Image)
      → judged d staged (phase_on d image)
      ≡ wanting true (row (super_image_of d.mark.slot bytes))
  taken_row image =
      bare_row d size image staged kept are.bare
      ∙ (λ k.
      wipe_effect (other d) (full d) (λ i. i) d.mark.slot (are.are_staged k)
      (idle_phase d size image kept are.idle k))
      ∙ (λ k.
      if are.plain k then refuses refusals.Sparse
      else wanting true
      (judged_effect (other d) (full d) (λ i. i) (super_image_of d.mark.slot bytes)))

  -- memory is refused
  pub no_memory : Refuses d staged refusals.NoMemory
  no_memory = record {
    refused = true;
    wants = false;
    is = λ image. ap (unless_refused true) (taken_row image);
  }

  later_passes : (a b : Option Refusal) (e : Effect SuperImage)
      → if_passing a (if_passing b e) ≡ if_passing (or_later a b) e
  later_passes None b e = refl
  later_passes (Some r) b e = refl

  module _ (i : SuperImage) (is : super_image_of d.mark.slot bytes ≡ Some i) where
    image_row : (image : Image)
        → judged d staged (phase_on d image)
        ≡ wanting true
        (if_passing (refused_image d i) (if_passing (full d i) (does replies.Done i)))
    image_row image =
        taken_row image
        ∙ ap (λ (o : Option SuperImage). wanting true (row o)) is
        ∙ ap (wanting true)
        (later_passes (other d i) (filled_refusal (first_filled i.table.partitions))
        (if_passing (full d i) (does replies.Done i)))

    pub image_refused : (r : Refusal) → refused_image d i ≡ Some r → Refuses d staged r
    image_refused r not = record {
      refused = false;
      wants = true;
      is = λ image.
          image_row image
          ∙ ap
          (λ (o : Option Refusal).
          wanting true (if_passing o (if_passing (full d i) (does replies.Done i))))
          not;
    }

    pub image_full : (r : Refusal)
        → refused_image d i ≡ None
        → full d i ≡ Some r
        → Refuses d staged r
    image_full r free not = record {
      refused = false;
      wants = true;
      is = λ image.
          image_row image
          ∙ (λ k.
          wanting true (if_passing (free k) (if_passing (not k) (does replies.Done i))));
    }

    pub image_done : (image : Image)
        → refused_image d i ≡ None
        → full d i ≡ None
        → judged d staged (phase_on d image) ≡ wanting true (does replies.Done i)
    image_done image free fits =
        image_row image
        ∙ (λ k. wanting true (if_passing (free k) (if_passing (fits k) (does replies.Done i))))

-- ---- the size

pub fits_full : (d : Device) (i : SuperImage)
    → table_size_of (wiped_table i.table) ≤ d.geometry.max
    → full d i ≡ None
fits_full d i fits =
    ap
    (λ (b : Bool).
    if b then None
    else Some (refusals.TableFull (table_size_of (wiped_table i.table)) d.geometry.max))
    (le-leb (table_size_of (wiped_table i.table)) d.geometry.max fits)

-- ---- the table that is left

pub minor_of_wiped : (t u : Table) → u ≡ wiped_table t → u.minor ≡ 2
unfolding wiped_table
minor_of_wiped t u is = ap (λ (x : Table). x.minor) is

pub same_minor : (t : Table) → t.minor ≡ 2 → as_minor_2 t ≡ t
same_minor t is = (λ k. record t { minor = sym is k })

-- ---- what a call refuses

pub none_refused : (x : Option Refusal) → ((r : Refusal) → x ≡ Some r → ⊥) → x ≡ None
none_refused None not = refl
none_refused (Some r) not = absurd (not r refl)

pub where_refused : {X : Type 0} (x : Result X Refusal) (P : Refusal → Type 0)
    → P refusals.NoMemory
    → IfErr x (λ r. r ≡ refusals.NoMemory)
    → IfErr x P
where_refused (Ok v) P memory is = tt
where_refused (Err r) P memory is = subst P (sym is) memory

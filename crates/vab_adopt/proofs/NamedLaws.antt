-- With the heads of the adopted device nothing is wrong with a disk but its size and its `super`.
use Rattle.std.proofs.Common.{◌≡◌, ◌∙◌, inl, inr, ℕ, ◌<◌, ◌==◌, Bool, true, false, List, [], ◌∷◌}
use Rattle.std.proofs.Common.{Option, Some, None, Result, Ok, Err, refl, sym, ap, subst, arith}
use Rattle.std.specs.Prelude.{nat_le}
use Rattle.std.proofs.lemmas.Bool.{cases_eq, cases_lt}
use Rattle.vab_disk.specs.Disk.{Image, IsSector}
use Rattle.vab_bootctl.specs.declared.slots.Control.{Control}
use Rattle.vab_marks.specs.declared.mark.UpdateMark.{UpdateMark}
use Rattle.vab_marks.specs.declared.status.PartStatus.{PartStatus}
use Rattle.vab_marks.specs.Mark.{idle_mark}
use Rattle.vab_geometry.specs.declared.geometry.Geometry.{Geometry}
use Rattle.vab_geometry.specs.declared.geometry.GeometryFault.{GeometryFault}
use Rattle.vab_geometry.specs.Loading.{geometry_in}
use Rattle.vab_tables.specs.declared.table.Table.{Table}
use Rattle.vab_tables.specs.declared.fault.TableFault.{TableFault}
use Rattle.vab_lpstore.specs.Loading.{slot_table}
use Rattle.vab_layout.specs.Layout.{layout_of}
use Rattle.vab_model.specs.State.{control_seen}
use Rattle.vab_device.specs.declared.fault.StartFault.{StartFault}
use Rattle.vab_device.specs.declared.fault.StartFault.TheVariants as faults
use Rattle.vab_device.specs.Checks.{◌>>=◌, first_fault, names_none, passing, unless}
use Rattle.vab_device.specs.Kept.{copies_end, lies_in, super_bytes}
use Rattle.vab_device.specs.Mounted.{Mounted}
use Rattle.vab_device.specs.Phases.{idle, phase_at, slot_checks}
use Rattle.vab_device.specs.Reading.{Read, control_in, device, frame, framed, geometry_at}
use Rattle.vab_device.specs.Reading.{geometry_read, judged, mark_in, most_at, part_fault}
use Rattle.vab_device.specs.Reading.{scanned_in, state_fault, stated, statuses_at, stores_of}
use Rattle.vab_device.specs.Reading.{table_at, tail_at}
use Rattle.vab_device.specs.Stores.{Wanted, scans_in}
use Rattle.vab_statuses.specs.Statuses.{written_in}
use Rattle.vab_device.specs.Reading.{table_read, tables_in}
use Rattle.vab_device.proofs.OpeningLaws.{control_seen_in}
use Rattle.vab_adopt.specs.declared.fault.AdoptFault.{AdoptFault}
use Rattle.vab_adopt.specs.declared.fault.AdoptFault.TheVariants.{AlreadyDevice, NoDevice}
use Rattle.vab_adopt.specs.Adopted.{adopted, adopted_control, adopt_refusal, refusal_by, with_heads}
use Rattle.vab_adopt.specs.Adopting.{Says}
use Rattle.vab_adopt.specs.Named.{IsNamed, IsOfSuper}
use Rattle.vab_adopt.proofs.HeadLaws.{has_heads, mark_means, small_read}

-- ---- what comes, or the fault

abbrev Comes : {A : Type 0} → (StartFault → Type 0) → (A → Type 0) → Result A StartFault → Type 0
Comes P Q (Ok x) = Q x
Comes P Q (Err fault) = P fault

behind : {A B : Type 0} (P : StartFault → Type 0) (Q : A → Type 0) (R : B → Type 0)
    (x : Result A StartFault) (f : A → Result B StartFault)
    → Comes P Q x
    → ((a : A) → Q a → Comes P R (f a))
    → Comes P R (x >>= f)
behind P Q R (Ok a) f is later = later a is
behind P Q R (Err fault) f is later = is

passed : {A : Type 0} (P : StartFault → Type 0) (Q : A → Type 0) (o : Option StartFault) (x : A)
    → ((f : StartFault) → o ≡ Some f → P f)
    → Q x
    → Comes P Q (passing o x)
passed P Q None x bad is = is
passed P Q (Some f) x bad is = bad f refl

comes_err : {A : Type 0} (P : StartFault → Type 0) (Q : A → Type 0) (r : Result A StartFault)
    (f : StartFault)
    → Comes P Q r
    → r ≡ Err f
    → P f
comes_err P Q (Ok x) f is same = cc
comes_err P Q (Err e) f is same = let one : e ≡ f = cc in subst P one is

-- ---- the parts

module _ (size slot : ℕ) where
  abbrev Any : {A : Type 0} → A → Type 0
  Any x = Unit {0}

  table_comes : (b : Bool) (t : Table)
      → Comes (IsOfSuper slot) Any (unless b (faults.BadTable slot) (Ok t))
  table_comes true t = tt
  table_comes false t = refl

  slot_comes : (g : Geometry) (r : Result Table (TableFault × TableFault))
      → Comes (IsOfSuper slot) Any (table_read size g slot r)
  slot_comes g (Ok t) = table_comes (lies_in size g (layout_of t).device) t
  slot_comes g (Err e) = refl

  tables_come : (g : Geometry) (image : Image)
      → Comes (IsOfSuper slot) Any (tables_in size g (slot ∷ []) image)
  unfolding table_at
  tables_come g image =
      behind (IsOfSuper slot) Any Any (table_at size g slot image) _
      (slot_comes g (slot_table g slot image)) (λ t any. tt)

  end_comes : (b : Bool) (g : Geometry)
      → Comes (IsOfSuper slot) Any (unless b faults.BadGeometry (Ok g))
  end_comes true g = tt
  end_comes false g = tt

  read_comes : (r : Result Geometry (GeometryFault × GeometryFault))
      → Comes (IsOfSuper slot) Any (geometry_read size r)
  read_comes (Ok g) = end_comes (nat_le (copies_end g) (super_bytes size)) g
  read_comes (Err e) = tt

  geometry_comes : (image : Image) → Comes (IsOfSuper slot) Any (geometry_at size image)
  unfolding geometry_at
  geometry_comes image = read_comes (geometry_in image)

  -- ---- the links

  abbrev seen : Control
  seen = control_seen (slot == 0) (slot == 1) (adopted_control slot)

  -- the mark and the boot control are those of the heads
  record IsHeadRead (r : Read) : Type 0 where
    mark : r.mark ≡ idle_mark slot
    control : r.control ≡ seen

  framed_comes : (image : Image)
      → control_in (slot == 0) (slot == 1) image ≡ Ok seen
      → Comes (IsOfSuper slot) IsHeadRead
      (framed size (idle_mark slot) (idle (idle_mark slot)) image)
  unfolding statuses_at tail_at
  framed_comes image control =
      rw control
      (behind (IsOfSuper slot) Any IsHeadRead (geometry_at size image) _ (geometry_comes image)
      (λ g any.
      behind (IsOfSuper slot) Any IsHeadRead (tables_in size g (slot ∷ []) image) _
      (tables_come g image)
      (λ ts any. record { mark = refl; control = refl })))

  marked : (b : Bool) (image : Image)
      → mark_in image ≡ Ok (idle_mark slot)
      → Comes (IsOfSuper slot) (λ m. m ≡ idle_mark slot)
      (unless b (faults.TooSmall 4120 size) (mark_in image))
  marked true image is = rw is refl
  marked false image is = tt

  frame_comes : (image : Image)
      → mark_in image ≡ Ok (idle_mark slot)
      → control_in (slot == 0) (slot == 1) image ≡ Ok seen
      → Comes (IsOfSuper slot) IsHeadRead (frame size image)
  unfolding frame
  frame_comes image mark control =
      behind (IsOfSuper slot) (λ m. m ≡ idle_mark slot) IsHeadRead
      (unless (nat_le 4120 size) (faults.TooSmall 4120 size) (mark_in image)) _
      (marked (nat_le 4120 size) image mark)
      (λ m is.
      subst
      (λ (m : UpdateMark).
      Comes (IsOfSuper slot) IsHeadRead (framed size m (phase_at m) image)) (sym is)
      (framed_comes image control))

  -- a partition that breaks a rule
  part_named : (o : Option (List ℕ)) (f : StartFault)
      → first_fault (names_none o ∷ []) ≡ Some f
      → IsOfSuper slot f
  part_named None f is = cc
  part_named (Some name) f is =
      let one : faults.BadPartition name ≡ f = cc in subst (IsOfSuper slot) one tt

  parts_named : (most : ℕ) (ts : List Table) (f : StartFault)
      → first_fault ((idle (idle_mark slot)).part_checks most ts) ≡ Some f
      → IsOfSuper slot f
  parts_named most [] f is =
      let one : faults.BadTable slot ≡ f = cc in subst (IsOfSuper slot) one refl
  parts_named most (t ∷ ts) f is = part_named _ f is

  judged_comes : (most : ℕ) (r : Read)
      → IsHeadRead r
      → Comes (IsOfSuper slot) IsHeadRead (judged most r)
  unfolding judged
  judged_comes most r is =
      passed (IsOfSuper slot) IsHeadRead (part_fault most r) r
      (λ f some.
      parts_named most r.tables f
      (ap (λ (m : UpdateMark).
      first_fault ((phase_at m).part_checks most r.tables)) (sym is.mark) ∙ some))
      is

  scanned_comes : (image : Image) (r : Read)
      → IsHeadRead r
      → Comes (IsOfSuper slot) IsHeadRead (scanned_in image r)
  unfolding scanned_in
  scanned_comes image r is =
      go (stores_of r)
      (ap (λ (m : UpdateMark).
      (phase_at m).stores r.tables (written_in r.statuses)) is.mark
      ∙ none_read r.tables (written_in r.statuses))
    where
      -- no slot is overlaid
      none_read : (ts : List Table) (sts : List PartStatus)
          → (idle (idle_mark slot)).stores ts sts ≡ []
      none_read [] sts = refl
      none_read (t ∷ ts) sts = refl

      go : (ws : List (Result Wanted StartFault))
          → ws ≡ []
          → Comes (IsOfSuper slot) IsHeadRead
          (scans_in ws image >>= λ ss. Ok (record r { scanned = ss }))
      go ws none = rw none (record { mark = is.mark; control = is.control })

  -- the slot is current and good
  slot_passes : slot < 2 → first_fault (slot_checks slot seen) ≡ None
  slot_passes below = elim (cases_eq slot 0) [
    | inl zero ↦ rw zero refl
    | inr other ↦ let one : slot ≡ 1 = omega (arith, below, other) in rw one refl
  ]

  stated_comes : (r : Read)
      → slot < 2
      → IsHeadRead r
      → Comes (IsOfSuper slot) IsHeadRead (stated r)
  unfolding stated
  stated_comes r below is =
      passed (IsOfSuper slot) IsHeadRead (state_fault r) r
      (λ f some.
      let none : state_fault r ≡ None =
      (λ i. first_fault
      ((phase_at (is.mark i)).state_checks (is.control i) r.tables
      r.scanned))
      ∙ slot_passes below in
      let both = sym none ∙ some in cc)
      is

  device_comes : (image : Image)
      → slot < 2
      → mark_in image ≡ Ok (idle_mark slot)
      → control_in (slot == 0) (slot == 1) image ≡ Ok seen
      → Comes (IsOfSuper slot) Any (device size image)
  unfolding device
  device_comes image below mark control =
      behind (IsOfSuper slot) IsHeadRead Any _ _
      (behind (IsOfSuper slot) IsHeadRead IsHeadRead _ _
      (behind (IsOfSuper slot) IsHeadRead IsHeadRead _ _
      (behind (IsOfSuper slot) IsHeadRead IsHeadRead _ _ (frame_comes image mark control)
      (λ r is. judged_comes (most_at image) r is))
      (λ r is. scanned_comes image r is))
      (λ r is. stated_comes r below is))
      (λ r is. tt)

-- ---- the refusal

wide_named : (size slot : ℕ) (image : Image) (f : StartFault)
    → slot < 2
    → IsSector (image 4)
    → adopted size slot image ≡ Err f
    → IsOfSuper slot f
unfolding adopted
wide_named size slot image f below sector is =
    let heads = has_heads slot image below sector in
    let there = with_heads slot image in
    comes_err (IsOfSuper slot) (λ m. Unit {0}) (device size there) f
    (device_comes size slot there below (mark_means slot there heads.mark)
    (control_seen_in (slot == 0) (slot == 1) there (adopted_control slot) heads.control.control))
    is

pub adopted_named : (size slot : ℕ) (image : Image) (f : StartFault)
    → slot < 2
    → (4 < size → IsSector (image 4))
    → adopted size slot image ≡ Err f
    → IsOfSuper slot f
adopted_named size slot image f below sector is = elim (cases_lt size 4120) [
  | inl few ↦
      let both = sym (small_read size slot image few) ∙ is in
      let one : faults.TooSmall 4120 size ≡ f = cc in subst (IsOfSuper slot) one tt
  | inr enough ↦ wide_named size slot image f below (sector (omega (arith, enough))) is
]

-- the second of two that are refused
later_named : (size slot : ℕ) (image : Image) (f : StartFault)
    → adopt_refusal size slot image ≡ Some (NoDevice f)
    → adopted size slot image ≡ Err f
unfolding adopt_refusal
later_named size slot image f is = go (device size image) (adopted size slot image) is
  where
    go : (a b : Result Mounted StartFault) → refusal_by a b ≡ Some (NoDevice f) → b ≡ Err f
    go (Ok m) b same = cc
    go (Err e) (Ok m) same = cc
    go (Err e) (Err later) same =
        let one : NoDevice later ≡ NoDevice f = cc in
        let two : later ≡ f = cc in ap Err two

pub refusal_named : (size slot : ℕ) (image : Image) (f : AdoptFault)
    → slot < 2
    → (4 < size → IsSector (image 4))
    → Says f (adopt_refusal size slot image)
    → IsNamed slot f
refusal_named size slot image AlreadyDevice below sector says = tt
refusal_named size slot image (NoDevice fault) below sector says = go fault says
  where
    named : (fault : StartFault)
        → adopt_refusal size slot image ≡ Some (NoDevice fault)
        → IsOfSuper slot fault
    named fault is =
        adopted_named size slot image fault below sector (later_named size slot image fault is)

    go : (fault : StartFault)
        → Says (NoDevice fault) (adopt_refusal size slot image)
        → IsOfSuper slot fault
    go (faults.TooSmall need have) says = tt
    go (faults.BadMark s) says = named (faults.BadMark s) (says tt)
    go (faults.BadControl f) says = named (faults.BadControl f) (says tt)
    go faults.BadPhysical says = named faults.BadPhysical (says tt)
    go faults.BadGeometry says = tt
    go (faults.BadTable of) says = named (faults.BadTable of) (says tt)
    go (faults.BadPartition name) says = tt
    go (faults.BadStore name) says = named (faults.BadStore name) (says tt)
    go (faults.BadState rule) says = named (faults.BadState rule) (says tt)
    go faults.NoMemory says = tt
    go (faults.Disk f) says = tt

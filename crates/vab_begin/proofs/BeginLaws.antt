-- What a begin writes before its mark is dead, and with the mark the disk is the device with the
-- update: of a device in the form in which it is read.
use Rattle.std.proofs.Common.{◌≡◌, ◌≢◌, ◌⊎◌, ◌∙◌, inl, inr, ℕ, zero, suc, ◌-◌, ◌*◌, ◌≤◌, ◌<◌, List}
use Rattle.std.proofs.Common.{[], ◌∷◌, length, Ok, refl, sym, ap, arith}
use Rattle.std.specs.Prelude.{Bool, true, false, Option, None, ◌==◌}
use Rattle.vab_disk.specs.Disk.{Image}
use Rattle.vab_disk.specs.Written.{set_here, set_there}
use Rattle.vab_disk.specs.Calls.{SameBut}
use Rattle.vab_bootctl.specs.declared.slots.Control.{Control}
use Rattle.vab_bootctl.specs.Control.{control_of}
use Rattle.vab_marks.specs.declared.mark.MarkPhase.TheVariants as marks
use Rattle.vab_marks.specs.declared.mark.UpdateMark.{UpdateMark}
use Rattle.vab_marks.specs.declared.status.PartStatus.{PartStatus}
use Rattle.vab_marks.specs.Mark.{mark_of, mark_spelling, rephased, resloted, begun}
use Rattle.vab_statuses.specs.Statuses.{statuses_in, no_statuses, IsOfStatuses}
use Rattle.vab_statuses.proofs.StatusesLaws.{statuses_same}
use Rattle.vab_geometry.specs.declared.geometry.Geometry.{Geometry}
use Rattle.vab_geometry.specs.Geometry.{IsGeometry}
use Rattle.vab_lpstore.specs.Layout.{backup_of, BothHold}
use Rattle.vab_lpstore.specs.Loading.{slot_table}
use Rattle.vab_lpstore.proofs.StoreLaws.{both_table}
use Rattle.vab_tables.specs.declared.table.Table.{Table}
use Rattle.vab_tables.specs.Text.{IsTableText}
use Rattle.vab_layout.specs.Layout.{layout_of, first_device}
use Rattle.vab_physical.specs.declared.tail.Tail.{Tail}
use Rattle.vab_layout.specs.Slots.{other_slot, twins_by, IsTargetBeside, groups_of_slot}
use Rattle.vab_partitions.specs.Twins.{are_twins, are_devices}
use Rattle.vab_partitions.proofs.TwinLaws.{twins_are, devices_are}
use Rattle.vab_partitions.proofs.BadTarget.{target_not_bad}
use Rattle.vab_install.specs.Control.{cleared_of}
use Rattle.vab_device.specs.declared.device.Device.{Device}
use Rattle.vab_device.specs.Checks.{Check, names_none, first_fault}
use Rattle.vab_device.specs.Idle.{control_read_of}
use Rattle.vab_device.specs.Kept.{copies_end, lies_in, HasNoStores}
use Rattle.vab_device.specs.Mounted.{images_on}
use Rattle.vab_device.specs.Phases.{own_check, twin_check, target_check, no_store_check}
use Rattle.vab_device.specs.Phases.{slot_checks}
use Rattle.vab_device.specs.Reading.{Read, statuses_read, statuses_at, control_in}
use Rattle.vab_device.specs.Reading.{tail_at, geometry_at, table_at, tables_in}
use Rattle.vab_device.specs.Reading.{stores_of, kept, Reads, AgreeCopies}
use Rattle.vab_device.specs.Reading.{SameRead, IsOfTables}
use Rattle.vab_device.specs.Stores.{Scanned, scans_in}
use Rattle.vab_device.proofs.Behind.{images_behind}
use Rattle.vab_device.proofs.CheckLaws.{first_kept}
use Rattle.vab_device.proofs.OpeningLaws.{control_seen_in}
use Rattle.vab_device.proofs.ReadingLaws.{control_is_seen}
use Rattle.vab_device.proofs.RepairLaws.{end_of}
use Rattle.vab_device.proofs.SameLaws.{mark_same, control_same, tail_kept, geometry_same}
use Rattle.vab_device.proofs.SameLaws.{tables_agree, images_same}
use Rattle.vab_device.proofs.StoreLaws.{statuses_kept}
use Rattle.vab_begin.specs.Writes.{IsOfPlaces}
use Rattle.vab_device.proofs.Steps.{marked}
use Rattle.vab_device.proofs.StayLaws.{mark_there, copy_stays, copies_from, one_of}
use Rattle.vab_device.proofs.UpdateLaws.{update_read, kept_with}
use Rattle.vab_plan.proofs.NoStoreLaws.{no_store_kept}
use Rattle.vab_begin.proofs.CopiesApart.{table_in, tables_apart, ends_behind}
use Rattle.vab_device.proofs.RepairLaws.{ends_within}
use Rattle.vab_names.specs.Names.{most_partitions}
use Rattle.vab_marks.specs.declared.version.MarkVersion.TheVariants.{Two}
use Rattle.vab_statuses.specs.Statuses.{statuses_under}
use Rattle.vab_device.specs.Reading.{version_at}
use Rattle.vab_device.proofs.MostLaws.{parts_all, parts_two}
use Rattle.vab_device.proofs.SameLaws.{version_same, most_same}
use Rattle.vab_device.proofs.StayLaws.{version_there}
use Rattle.vab_device.proofs.ReadingLaws.{bare_known}

-- what is read without an update
abbrev pub idle_shape : UpdateMark
    → ℕ
    → List (Option PartStatus)
    → Control
    → Tail
    → Geometry
    → Table
    → List Scanned
    → Read
idle_shape base slot ss c tail g t scanned = record {
  mark = rephased marks.Idle (resloted slot base);
  statuses = ss;
  control = c;
  tail = tail;
  geometry = g;
  tables = t ∷ [];
  scanned = scanned;
}

-- of a slot without images nothing is read of boot control
pub cleared_seen : (slot : ℕ) (c : Control)
    → slot < 2
    → control_read_of slot (cleared_of c (other_slot slot)) ≡ control_read_of slot c
unfolding cleared_of
cleared_seen zero c below = refl
cleared_seen (suc zero) c below = refl
cleared_seen (suc (suc n)) c below = absurd (omega (arith, below))

-- What stands on the disk before the mark.
pub record IsPrepared (d : Device) (text : List ℕ) (mid : Image) : Type 0 where
  pub control : control_of (mid 4) ≡ Ok (cleared_of d.control (other_slot d.mark.slot))
  pub statuses : statuses_in mid ≡ Ok no_statuses
  pub stored : BothHold d.geometry (other_slot d.mark.slot) text mid

module _
    (base : UpdateMark) (slot : ℕ) (ss : List (Option PartStatus)) (seen : Control) (tail : Tail)
    (g : Geometry) (s : Table)
    (scanned : List Scanned) (c : Control)
    (told : Type 0) (text : List ℕ) (size : ℕ) (old mid : Image)
    (below : slot < 2)
    (rules : IsGeometry g)
    (short : length text ≤ g.max)
    (same : SameBut
    (IsOfPlaces told (kept_with (idle_shape base slot ss seen tail g s scanned) c) text (old 4))
    old mid)
    (reads : Reads size (idle_shape base slot ss seen tail g s scanned) old)
    (whole : control_of (old 4) ≡ Ok c) where
  abbrev r : Read
  r = idle_shape base slot ss seen tail g s scanned

  abbrev k : ℕ
  k = other_slot slot

  stay : (at : ℕ)
      → at ≢ 4
      → (IsOfStatuses at → ⊥)
      → (IsOfTables g (other_slot slot ∷ []) at → ⊥)
      → mid at ≡ old at
  stay at control statuses table = by_write (same at)
    where
      by_write : (mid at ≡ old at)
          ⊎ IsOfPlaces told (kept_with (idle_shape base slot ss seen tail g s scanned) c) text
          (old 4) at (mid at)
          → mid at ≡ old at
      by_write (inl is) = is
      by_write (inr (inl (inl w))) = absurd (control w.at)
      by_write (inr (inl (inr w))) = absurd (statuses w)
      by_write (inr (inr w)) = absurd
          (table (table_in g (other_slot slot) text at (mid at) rules short w))

  low : (at : ℕ) → at ≢ 4 → (IsOfStatuses at → ⊥) → at < 4120 → mid at ≡ old at
  low at control statuses lt =
      stay at control statuses
      (λ w. omega (arith, lt, copies_from g (other_slot slot ∷ []) at w))

  pub own_table : (at : ℕ) → IsOfTables g (slot ∷ []) at → mid at ≡ old at
  own_table at is =
      let from = copies_from g (slot ∷ []) at is in
      stay at (λ e. omega (arith, e, from)) (λ w. omega (arith, w.below, from))
      (λ w. tables_apart g slot (other_slot slot) rules.two below (omega arith)
      (λ e. omega (arith, e, below)) at is w)

  behind : (at : ℕ) → end_of g (other_slot slot) ≤ at → mid at ≡ old at
  unfolding backup_of
  behind at le =
      stay at (λ e. omega (arith, e, le)) (λ w. omega (arith, w.below, le))
      (λ w. omega (arith, le, ends_behind g (other_slot slot) at rules (omega arith) w))

  within : 512 * (end_of g (other_slot slot) - 4096) ≤ copies_end g
  within = ends_within g (other_slot slot) rules (omega arith)

  seen_same : control_in (slot == 0) (slot == 1) mid ≡ control_in (slot == 0) (slot == 1) old
  seen_same = by_write (same 4)
    where
      by_control : control_of (mid 4) ≡ Ok (cleared_of c (other_slot slot))
          → control_in (slot == 0) (slot == 1) mid ≡ control_in (slot == 0) (slot == 1) old
      by_control is =
          control_seen_in (slot == 0) (slot == 1) mid (cleared_of c (other_slot slot)) is
          ∙ ap Ok (cleared_seen slot c below)
          ∙ sym (control_seen_in (slot == 0) (slot == 1) old c whole)

      by_write : (mid 4 ≡ old 4)
          ⊎ IsOfPlaces told (kept_with (idle_shape base slot ss seen tail g s scanned) c) text
          (old 4) 4 (mid 4)
          → control_in (slot == 0) (slot == 1) mid ≡ control_in (slot == 0) (slot == 1) old
      by_write (inl is) = control_same (slot == 0) (slot == 1) old mid is
      by_write (inr (inl (inl w))) = by_control w.control
      by_write (inr (inl (inr w))) = absurd (omega (arith, w.from))
      by_write (inr (inr w)) =
          absurd (let from = copies_from g (other_slot slot ∷ []) 4
          (table_in g (other_slot slot) text 4 (mid 4) rules short w) in omega (arith, from))

  tail_stays : tail_at base.physical size mid ≡ tail_at base.physical size old
  tail_stays =
      tail_kept base.physical size old mid
      (λ some. low 2113 (λ e. omega (arith, e)) (λ w. omega (arith, w.below)) (omega arith))

  geometry_stays : geometry_at tail.super_end mid ≡ geometry_at tail.super_end old
  geometry_stays =
      geometry_same tail.super_end old mid
      (low 4104 (λ e. omega (arith, e)) (λ w. omega (arith, w.below)) (omega arith))
      (low 4112 (λ e. omega (arith, e)) (λ w. omega (arith, w.below)) (omega arith))

  pub images_a : images_on mid (kept r).a ≡ images_on old (kept r).a
  images_a =
      images_same old mid (kept r).a
      (λ at is. behind at
      (images_behind size (end_of g (other_slot slot)) 0 _ _ r old at reads within is))

  pub images_b : images_on mid (kept r).b ≡ images_on old (kept r).b
  images_b =
      images_same old mid (kept r).b
      (λ at is. behind at
      (images_behind size (end_of g (other_slot slot)) 1 _ _ r old at reads within is))

  mark_stays : mid 2048 ≡ old 2048
  mark_stays = low 2048 (λ e. omega (arith, e)) (λ w. omega (arith, w.from)) (omega arith)

  pub same_read : SameRead size (idle_shape base slot ss seen tail g s scanned) old mid
  same_read = record {
    most = most_same old mid mark_stays;
    mark = mark_same old mid mark_stays;
    statuses = statuses_kept false old mid (version_same old mid mark_stays)
        (λ no. absurd (let e : false ≡ true = no in cc));
    control = seen_same;
    tail = tail_stays;
    geometry = geometry_stays;
    tables = tables_agree tail.super_end g (slot ∷ []) old mid own_table;
    stores = refl;
    images_a = images_a;
    images_b = images_b;
    plan = refl;
    overlay = refl;
  }

  -- ---- with the mark

  module _
      (apart : Bool)
      (u : Table)
      (target : IsTargetBeside (other_slot slot) (twins_by apart (layout_of s).parts)
      (layout_of s).parts (layout_of u).parts)
      (none_stored : HasNoStores apart (layout_of u).parts)
      (device : u.devices ≡ s.devices)
      (groups : groups_of_slot (other_slot slot) u.groups ≡ groups_of_slot slot s.groups)
      (stands : IsTableText g.max text u)
      (lies : lies_in tail.super_end g (layout_of s).device ≡ true)
      (prepared : IsPrepared (kept_with (idle_shape base slot ss seen tail g s scanned) c) text mid)
      (copies : AgreeCopies g (slot ∷ []) (s ∷ []) old)
      (read : mark_of (mark_spelling (begun apart (resloted slot base)))
      ≡ Ok (begun apart (resloted slot base))) where
    abbrev new : Image
    new = marked mid (mark_spelling (begun apart (resloted slot base)))

    abbrev after : Read
    after = update_read (begun apart (resloted slot base)) no_statuses
        (control_read_of slot c) tail g s u []

    elsewhere : (at : ℕ) → at ≢ 2048 → new at ≡ mid at
    elsewhere at other = set_there mid 2048
        (mark_spelling (begun apart (resloted slot base))) at other

    device_same : (layout_of u).device ≡ (layout_of s).device
    unfolding layout_of
    device_same = ap first_device device

    -- ---- the tables

    table_there : (image : Image)
        → slot_table g (other_slot slot) image ≡ Ok u
        → table_at tail.super_end g (other_slot slot) image ≡ Ok u
    unfolding table_at
    table_there image is =
        let inside : lies_in tail.super_end g (layout_of u).device ≡ true =
        ap (lies_in tail.super_end g) device_same ∙ lies in
        rw (is, inside) refl

    own_new : (at : ℕ) → IsOfTables g (slot ∷ []) at → new at ≡ old at
    own_new at is =
        elsewhere at (λ e. omega (arith, e, copies_from g (slot ∷ []) at is)) ∙ own_table at is

    other_new : (at : ℕ) → IsOfTables g (other_slot slot ∷ []) at → new at ≡ mid at
    other_new at is =
        elsewhere at (λ e. omega (arith, e, copies_from g (other_slot slot ∷ []) at is))

    stored_new : BothHold g (other_slot slot) text new
    stored_new = copy_stays g (other_slot slot) text mid new other_new prepared.stored

    source_new : table_at tail.super_end g slot new ≡ Ok s
    source_new =
        let one = one_of tail.super_end g slot new (s ∷ [])
        (tables_agree tail.super_end g (slot ∷ []) old new own_new ∙ reads.tables) in
        let both : s ∷ [] ≡ one.0 ∷ [] = one.1 in
        one.2 ∙ (let e : one.0 ≡ s = cc in ap Ok e)

    target_new : table_at tail.super_end g (other_slot slot) new ≡ Ok u
    target_new =
        table_there new (both_table g (other_slot slot) text u new stored_new stands)

    tables_new : tables_in tail.super_end g (slot ∷ other_slot slot ∷ []) new ≡ Ok (s ∷ u ∷ [])
    tables_new = rw (source_new, target_new) refl

    -- ---- the sectors with places of their own

    pub version_new : version_at new ≡ Two
    version_new =
        version_there (begun apart (resloted slot base)) new
        (set_here mid 2048 (mark_spelling (begun apart (resloted slot base))) 2048
        refl)

    statuses_new : statuses_at true new ≡ Ok no_statuses
    unfolding statuses_at
    statuses_new =
        ap (λ v. statuses_read (statuses_under v new)) version_new
        ∙ ap statuses_read
        (statuses_same mid new (λ at is. elsewhere at (λ e. omega (arith, e, is.from)))
        ∙ prepared.statuses)

    pub control_new : control_of (new 4) ≡ Ok (cleared_of c (other_slot slot))
    control_new = ap control_of (elsewhere 4 (λ e. omega (arith, e))) ∙ prepared.control

    seen_new : control_in (slot == 0) (slot == 1) new ≡ Ok (control_read_of slot c)
    seen_new =
        control_seen_in (slot == 0) (slot == 1) new (cleared_of c (other_slot slot)) control_new
        ∙ ap Ok (cleared_seen slot c below)

    tail_new : tail_at base.physical size new ≡ Ok tail
    tail_new =
        tail_kept base.physical size mid new
        (λ some. elsewhere 2113 (λ e. omega (arith, e)))
        ∙ tail_stays ∙ reads.tail

    geometry_new : geometry_at tail.super_end new ≡ Ok g
    geometry_new =
        geometry_same tail.super_end mid new
        (elsewhere 4104 (λ e. omega (arith, e)))
        (elsewhere 4112 (λ e. omega (arith, e)))
        ∙ geometry_stays ∙ reads.geometry

    -- ---- the rules

    twins : twin_check (other_slot slot) s u ≡ None
    twins =
        let here : other_slot (other_slot slot) ≡ slot = omega (arith, below) in
        let devices : are_devices s.devices u.devices ≡ true =
        (devices_are s.devices u.devices).1 (sym device) in
        let pairs : are_twins (other_slot slot) s.groups u.groups ≡ true =
        (twins_are (other_slot slot) s.groups u.groups).1
        (ap (λ (n : ℕ). groups_of_slot n s.groups) here ∙ sym groups) in
        rw (devices, pairs) refl

    target_rules : target_check apart most_partitions (other_slot slot) s u ≡ None
    target_rules =
        ap names_none
        (target_not_bad most_partitions (other_slot slot) (twins_by apart (layout_of s).parts)
        (layout_of s).parts
        (layout_of u).parts
        (record { is = target; few = target.own.few }))

    own_rules : own_check most_partitions slot s ≡ None
    own_rules =
        (first_kept (own_check most_partitions slot s) [] (parts_all r old reads.parts)).0

    four_kept : (x y z w : Check)
        → x ≡ None
        → y ≡ None
        → z ≡ None
        → w ≡ None
        → first_fault (x ∷ y ∷ z ∷ w ∷ []) ≡ None
    four_kept x y z w first second third fourth = rw (first, second, third, fourth) refl

    seen_is : seen ≡ control_read_of slot c
    seen_is = control_is_seen (slot == 0) (slot == 1) old c seen reads.control whole

    no_stores : scans_in (stores_of after) new ≡ Ok []
    unfolding no_statuses
    no_stores = refl

    bare : base.physical ≡ false
    bare = bare_known old (rephased marks.Idle (resloted slot base)) reads.mark

    pub reads_new : Reads size after new
    reads_new = record {
      enough = reads.enough;
      mark = mark_there (begun apart (resloted slot base)) new refl bare read
          (set_here mid 2048 (mark_spelling (begun apart (resloted slot base))) 2048
          refl);
      statuses = statuses_new;
      control = seen_new;
      tail = tail_new;
      geometry = geometry_new;
      tables = tables_new;
      parts = parts_two after new version_new
          (four_kept (twin_check (other_slot slot) s u) (own_check most_partitions slot s)
          (target_check apart most_partitions (other_slot slot) s u) (no_store_check apart u)
          twins own_rules target_rules (no_store_kept apart u none_stored));
      stores = no_stores;
      state = ap (λ (x : Control). first_fault (slot_checks slot x)) (sym seen_is) ∙ reads.state;
    }

    from_behind : (at : ℕ) → 4096 ≤ at → new at ≡ mid at
    from_behind at le = elsewhere at (λ e. omega (arith, e, le))

    pub images_new_a : images_on new (kept r).a ≡ images_on old (kept r).a
    images_new_a =
        images_same mid new (kept r).a
        (λ at is. from_behind at (images_behind size 4096 0 _ _ r old at reads (omega arith) is))
        ∙ images_a

    pub images_new_b : images_on new (kept r).b ≡ images_on old (kept r).b
    images_new_b =
        images_same mid new (kept r).b
        (λ at is. from_behind at (images_behind size 4096 1 _ _ r old at reads (omega arith) is))
        ∙ images_b

    pub copies_new : AgreeCopies g (slot ∷ other_slot slot ∷ []) (s ∷ u ∷ []) new
    copies_new = (
      (copies.0.0, copies.0.1, copy_stays g slot copies.0.0 old new own_new copies.0.2),
      ((text, stands, stored_new), tt),
    )

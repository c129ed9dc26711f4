-- With the mark that an update is ready the disk is the device whose installation has ended.
use Rattle.std.proofs.Common.{◌≡◌, ◌≢◌, ◌∙◌, ◌⊎◌, inl, inr, ℕ, zero, suc, ◌+◌, ◌≤◌, ◌<◌, true, List}
use Rattle.std.proofs.Common.{[], ◌∷◌, Ok, refl, sym, ap, arith}
use Rattle.std.specs.Prelude.{Option, None, ◌==◌, map}
use Rattle.vab_disk.specs.Disk.{Image}
use Rattle.vab_disk.specs.Calls.{SameBut}
use Rattle.vab_disk.specs.Written.{set_here, set_there}
use Rattle.vab_bootctl.specs.declared.slots.Control.{Control}
use Rattle.vab_bootctl.specs.Control.{control_of}
use Rattle.vab_marks.specs.declared.mark.MarkPhase.TheVariants as marks
use Rattle.vab_marks.specs.declared.status.PartStatus.{PartStatus}
use Rattle.vab_marks.specs.declared.mark.UpdateMark.{UpdateMark}
use Rattle.vab_marks.specs.Mark.{mark_of, mark_spelling, rephased, resloted}
use Rattle.vab_geometry.specs.declared.geometry.Geometry.{Geometry}
use Rattle.vab_physical.specs.declared.tail.Tail.{Tail}
use Rattle.vab_tables.specs.declared.table.Table.{Table}
use Rattle.vab_layout.specs.Layout.{layout_of}
use Rattle.vab_layout.specs.Slots.{other_slot, own_parts}
use Rattle.vab_install.specs.Control.{cleared_of, IsControl}
use Rattle.vab_device.specs.declared.device.Part.{Part}
use Rattle.vab_device.specs.declared.device.Device.{Device}
use Rattle.vab_device.specs.declared.fault.StartFault.TheVariants.{BadState}
use Rattle.vab_device.specs.Checks.{check, first_fault}
use Rattle.vab_device.specs.Idle.{control_read_of}
use Rattle.vab_device.specs.Kept.{parts_of}
use Rattle.vab_device.specs.Mounted.{mounted_on, state_on, images_on, image_on, entry_on}
use Rattle.vab_device.specs.Mounted.{count_in}
use Rattle.vab_device.specs.Phases.{slot_checks, is_good, may_run, are_ready}
use Rattle.vab_device.specs.Phases.{plan_of}
use Rattle.vab_device.specs.Reading.{Read, kept, Reads, AgreeCopies, SameRead}
use Rattle.vab_device.specs.Reading.{control_in, stores_of, IsOfTables}
use Rattle.vab_device.specs.Stores.{Scanned}
use Rattle.vab_device.specs.Updates.{finished, final_image}
use Rattle.vab_device.proofs.Behind.{images_behind, stores_behind, plan_behind}
use Rattle.vab_device.proofs.CheckLaws.{first_kept, check_kept}
use Rattle.vab_device.proofs.OpeningLaws.{control_seen_in}
use Rattle.vab_device.proofs.ReadingLaws.{control_is_seen}
use Rattle.vab_device.proofs.SameLaws.{mark_same, control_same, tail_kept, geometry_same}
use Rattle.vab_device.proofs.SameLaws.{tables_agree, images_same}
use Rattle.vab_device.proofs.StoreLaws.{statuses_kept, stores_kept, plan_kept}
use Rattle.vab_begin.proofs.BeginLaws.{cleared_seen}
use Rattle.vab_device.proofs.UpdateLaws.{update_read, kept_with}
use Rattle.vab_device.proofs.StayLaws.{mark_there, copy_stays, copies_from}
use Rattle.vab_device.proofs.Steps.{marked}
use Rattle.vab_finish.specs.Finished.{finished_device}
use Rattle.vab_finish.proofs.FinalLaws.{count_plain, count_planned}
use Rattle.vab_marks.specs.declared.version.MarkVersion.TheVariants.{Two}
use Rattle.vab_device.specs.Reading.{version_at}
use Rattle.vab_device.proofs.MostLaws.{parts_under}
use Rattle.vab_device.proofs.SameLaws.{version_same, most_same}
use Rattle.vab_device.proofs.StayLaws.{version_there}
use Rattle.vab_device.proofs.ReadingLaws.{bare_known}

-- the source's boot control lets it be booted, also with nothing said of the target
runs_of : (slot : ℕ) (c : Control)
    → slot < 2
    → first_fault (slot_checks slot (control_read_of slot c)) ≡ None
    → may_run slot (cleared_of c (other_slot slot)) ≡ true
unfolding cleared_of
runs_of zero c below passed =
    let first = first_kept (check (c.current == 0) (BadState 1))
    (check (is_good c.a) (BadState 2) ∷ []) passed in
    let at : (c.current == 0) ≡ true = check_kept (c.current == 0) (BadState 1) first.0 in
    let works : is_good c.a ≡ true =
    check_kept (is_good c.a) (BadState 2)
    (first_kept (check (is_good c.a) (BadState 2)) [] first.1).0 in
    rw (works, at) refl
runs_of (suc zero) c below passed =
    let first = first_kept (check (c.current == 1) (BadState 1))
    (check (is_good c.b) (BadState 2) ∷ []) passed in
    let at : (c.current == 1) ≡ true = check_kept (c.current == 1) (BadState 1) first.0 in
    let works : is_good c.b ≡ true =
    check_kept (is_good c.b) (BadState 2)
    (first_kept (check (is_good c.b) (BadState 2)) [] first.1).0 in
    rw (works, at) refl
runs_of (suc (suc n)) c below passed = absurd (omega (arith, below))

module _
    (base : UpdateMark) (slot : ℕ) (ss : List (Option PartStatus)) (seen : Control)
    (tail : Tail) (g : Geometry)
    (t u : Table)
    (scanned : List Scanned) (c : Control)
    (told : Type 0) (size : ℕ) (old mid : Image)
    (below : slot < 2)
    (reads : Reads size (update_read (rephased marks.Installing (resloted slot base)) ss seen tail g
    t u scanned) old)
    (whole : control_of (old 4) ≡ Ok c)
    (same : SameBut (IsControl told (cleared_of c (other_slot slot)) (old 4)) old mid) where
  abbrev before : Read
  before = update_read (rephased marks.Installing (resloted slot base)) ss seen tail g t u scanned

  stays : (s : ℕ) → s ≢ 4 → mid s ≡ old s
  stays s other = by_write (same s)
    where
      by_write : (mid s ≡ old s) ⊎ IsControl told (cleared_of c (other_slot slot)) (old 4) s (mid s)
          → mid s ≡ old s
      by_write (inl is) = is
      by_write (inr w) = absurd (other w.at)

  seen_same : control_in (slot == 0) (slot == 1) mid ≡ control_in (slot == 0) (slot == 1) old
  seen_same = by_write (same 4)
    where
      by_write : (mid 4 ≡ old 4) ⊎ IsControl told (cleared_of c (other_slot slot)) (old 4) 4 (mid 4)
          → control_in (slot == 0) (slot == 1) mid ≡ control_in (slot == 0) (slot == 1) old
      by_write (inl is) = control_same (slot == 0) (slot == 1) old mid is
      by_write (inr w) =
          control_seen_in (slot == 0) (slot == 1) mid (cleared_of c (other_slot slot)) w.control
          ∙ ap Ok (cleared_seen slot c below)
          ∙ sym (control_seen_in (slot == 0) (slot == 1) old c whole)

  -- nothing is said of the target, of which nothing is read
  pub same_read : SameRead size before old mid
  same_read = record {
    most = most_same old mid (stays 2048 (λ e. omega (arith, e)));
    mark = mark_same old mid (stays 2048 (λ e. omega (arith, e)));
    statuses =
        statuses_kept true old mid (version_same old mid (stays 2048 (λ e. omega (arith, e))))
        (λ read s is. stays s (λ e. omega (arith, e, is.from)));
    control = seen_same;
    tail =
        tail_kept base.physical size old mid (λ some. stays 2113 (λ e. omega (arith, e)));
    geometry =
        geometry_same tail.super_end old mid
        (stays 4104 (λ e. omega (arith, e)))
        (stays 4112 (λ e. omega (arith, e)));
    tables =
        tables_agree tail.super_end g (slot ∷ other_slot slot ∷ []) old mid
        (λ s is.
        stays s (λ e. omega (arith, e, copies_from g (slot ∷ other_slot slot ∷ []) s is)));
    stores =
        stores_kept (stores_of before) old mid scanned
        (λ s is.
        stays s (λ e. omega (
          arith,
          e,
          stores_behind size 4096 before old s reads (omega arith)
              is,
        )))
        reads.stores;
    images_a =
        images_same old mid (kept before).a
        (λ s is.
        stays s (λ e. omega (
          arith,
          e,
          images_behind size 4096 0 _ _ before old s reads
              (omega arith) is,
        )));
    images_b =
        images_same old mid (kept before).b
        (λ s is.
        stays s (λ e. omega (
          arith,
          e,
          images_behind size 4096 1 _ _ before old s reads
              (omega arith) is,
        )));
    plan =
        plan_kept (kept before).plan old mid
        (λ s is.
        stays s (λ e. omega (arith, e, plan_behind size 4096 before old s reads (omega arith) is)));
    overlay = refl;
  }

  -- ---- with the mark

  module _
      (prepared : control_of (mid 4) ≡ Ok (cleared_of c (other_slot slot)))
      (copies : AgreeCopies g (slot ∷ other_slot slot ∷ []) (t ∷ u ∷ []) old)
      (version : version_at old ≡ Two)
      (read : mark_of (mark_spelling (rephased marks.Staged (resloted slot base)))
      ≡ Ok (rephased marks.Staged (resloted slot base)))
      (ready : are_ready (plan_of (other_slot slot) (layout_of u) scanned) ≡ true) where
    abbrev new : Image
    new = marked mid (mark_spelling (rephased marks.Staged (resloted slot base)))

    abbrev after : Read
    after =
        update_read (rephased marks.Staged (resloted slot base)) ss (cleared_of c (other_slot slot))
        tail g t u scanned

    elsewhere : (s : ℕ) → s ≢ 4 → s ≢ 2048 → new s ≡ old s
    elsewhere s other not_mark =
        set_there mid 2048 (mark_spelling (rephased marks.Staged (resloted slot base))) s not_mark
        ∙ stays s other

    from_behind : (s : ℕ) → 4096 ≤ s → new s ≡ old s
    from_behind s le = elsewhere s (λ e. omega (arith, e, le)) (λ e. omega (arith, e, le))

    table_sectors : (slots : List ℕ) (s : ℕ) → IsOfTables g slots s → new s ≡ old s
    table_sectors slots s is =
        let from = copies_from g slots s is in
        elsewhere s (λ e. omega (arith, e, from)) (λ e. omega (arith, e, from))

    pub control_new : control_of (new 4) ≡ Ok (cleared_of c (other_slot slot))
    control_new =
        ap control_of
        (set_there mid 2048 (mark_spelling (rephased marks.Staged (resloted slot base))) 4
        (λ e. omega (arith, e)))
        ∙ prepared

    seen_is : seen ≡ control_read_of slot c
    seen_is = control_is_seen (slot == 0) (slot == 1) old c seen reads.control whole

    runs : may_run slot (cleared_of c (other_slot slot)) ≡ true
    runs =
        runs_of slot c below
        (ap (λ (x : Control). first_fault (slot_checks slot x)) (sym seen_is) ∙ reads.state)

    state_new : first_fault
        (check (may_run slot (cleared_of c (other_slot slot))) (BadState 2)
        ∷ check (are_ready (plan_of (other_slot slot) (layout_of u) scanned)) (BadState 3)
        ∷ [])
        ≡ None
    state_new = rw (runs, ready) refl

    pub version_new : version_at new ≡ Two
    version_new =
        version_there (rephased marks.Staged (resloted slot base)) new
        (set_here mid 2048 (mark_spelling (rephased marks.Staged (resloted slot base))) 2048 refl)

    pub reads_new : Reads size after new
    reads_new = record {
      enough = reads.enough;
      mark = mark_there (rephased marks.Staged (resloted slot base)) new refl
          (bare_known old (rephased marks.Installing (resloted slot base)) reads.mark) read
          (set_here mid 2048 (mark_spelling (rephased marks.Staged (resloted slot base))) 2048
          refl);
      statuses =
          statuses_kept true old new (version_new ∙ sym version)
          (λ read s is.
          elsewhere s (λ e. omega (arith, e, is.from)) (λ e. omega (arith, e, is.from)))
          ∙ reads.statuses;
      control = control_seen_in true true new (cleared_of c (other_slot slot)) control_new;
      tail =
          tail_kept base.physical size old new
          (λ some. elsewhere 2113 (λ e. omega (arith, e)) (λ e. omega (arith, e)))
          ∙ reads.tail;
      geometry =
          geometry_same tail.super_end old new
          (elsewhere 4104 (λ e. omega (arith, e)) (λ e. omega (arith, e)))
          (elsewhere 4112 (λ e. omega (arith, e)) (λ e. omega (arith, e)))
          ∙ reads.geometry;
      tables =
          tables_agree tail.super_end g (slot ∷ other_slot slot ∷ []) old new
          (table_sectors (slot ∷ other_slot slot ∷ []))
          ∙ reads.tables;
      parts = parts_under before old new (version_new ∙ sym version) reads.parts;
      stores =
          stores_kept (stores_of before) old new scanned
          (λ s is. from_behind s (stores_behind size 4096 before old s reads (omega arith) is))
          reads.stores
          ∙ reads.stores;
      state = state_new;
    }

    pub copies_new : AgreeCopies g (slot ∷ other_slot slot ∷ []) (t ∷ u ∷ []) new
    copies_new = (
      (
        copies.0.0,
        copies.0.1,
        copy_stays g slot copies.0.0 old new (table_sectors (slot ∷ [])) copies.0.2,
      ),
      (
        (
          copies.1.0.0,
          copies.1.0.1,
          copy_stays g (other_slot slot) copies.1.0.0 old new (table_sectors (other_slot slot ∷ []))
              copies.1.0.2,
        ),
        tt,
      ),
    )

    -- the images of both slots are where they were
    pub images_a : images_on new (kept after).a ≡ images_on old (kept after).a
    images_a =
        images_same old new (kept after).a
        (λ s is. from_behind s
        (images_behind size 4096 0 true (other_slot slot == 0) after new s reads_new (omega arith)
        is))

    pub images_b : images_on new (kept after).b ≡ images_on old (kept after).b
    images_b =
        images_same old new (kept after).b
        (λ s is. from_behind s
        (images_behind size 4096 1 true (other_slot slot == 1) after new s reads_new (omega arith)
        is))

-- ---- what is kept

pub kept_finished : (base : UpdateMark) (slot : ℕ) (ss : List (Option PartStatus)) (seen : Control)
    (tail : Tail) (g : Geometry) (t u : Table) (scanned : List Scanned) (c : Control)
    → slot < 2
    → finished_device (kept_with
    (update_read (rephased marks.Installing (resloted slot base)) ss seen tail g t u scanned) c)
    ≡ kept_with (update_read (rephased marks.Staged (resloted slot base)) ss
    (cleared_of c (other_slot slot)) tail g t u scanned)
    (cleared_of c (other_slot slot))
kept_finished base zero ss seen tail g t u scanned c below = refl
kept_finished base (suc zero) ss seen tail g t u scanned c below = refl
kept_finished base (suc (suc n)) ss seen tail g t u scanned c below = absurd (omega (arith, below))

-- ---- what it means

module _
    (base : UpdateMark) (ss : List (Option PartStatus)) (seen : Control)
    (tail : Tail) (g : Geometry)
    (t u : Table)
    (scanned : List Scanned) (c : Control) (old new : Image) where
  abbrev was : ℕ → Device
  was slot = kept_with (update_read (rephased marks.Installing (resloted slot base)) ss seen tail g
      t u scanned) c

  abbrev now : ℕ → Device
  now slot =
      kept_with (update_read (rephased marks.Staged (resloted slot base)) ss
      (cleared_of c (other_slot slot)) tail g t u scanned)
      (cleared_of c (other_slot slot))

  abbrev planned : ℕ → List Part
  planned slot = plan_of (other_slot slot) (layout_of u) scanned

  abbrev own : ℕ → List Part
  own slot = parts_of slot (layout_of t)

  abbrev Means : ℕ → Type 0
  Means slot =
      map (image_on new) (own slot) ≡ map (image_on old) (own slot)
      → map (image_on new) (planned slot)
      ≡ map (final_image (state_on (was slot) old) slot) (map (entry_on old) (planned slot))
      → mounted_on (now slot) new
      ≡ finished (mounted_on (was slot) old) slot
      (record { apart = base.apart; entries = map (entry_on old) (planned slot) })

  none_left : (slot : ℕ) → count_in (own slot) ≡ 0
  none_left slot =
      count_plain (layout_of t).device.first_logical_sector (own_parts slot (layout_of t).parts)

  left_a : count_in (own 0) + count_in (planned 0)
      ≡ Rattle.vab_model.specs.Machine.exceptions_in (map (entry_on old) (planned 0))
  left_a = omega (arith, none_left 0, count_planned old (planned 0))

  left_b : count_in (planned 1) + count_in (own 1)
      ≡ Rattle.vab_model.specs.Machine.exceptions_in (map (entry_on old) (planned 1))
  left_b = omega (arith, none_left 1, count_planned old (planned 1))

  pub means_a : Means 0
  unfolding state_on cleared_of
  means_a own_same final = rw (own_same, final, left_a) refl

  pub means_b : Means 1
  unfolding state_on cleared_of
  means_b own_same final = rw (own_same, final, left_b) refl

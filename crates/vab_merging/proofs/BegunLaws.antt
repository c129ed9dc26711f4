-- With the mark that the target is merged the disk is read as the device whose source is given up.
use Rattle.std.proofs.Common.{◌≡◌, ◌≢◌, ◌∙◌, inl, inr, ℕ, zero, suc, ◌≤◌, ◌<◌, eqb, true}
use Rattle.std.proofs.Common.{List, [], ◌∷◌, Ok, refl, sym, ap, arith, eq-eqb}
use Rattle.std.specs.Prelude.{Option, Some, None, ◌==◌, ◌||◌, not}
use Rattle.std.proofs.lemmas.Bool.{cases_Bool, and_parts, eqb-true}
use Rattle.vab_disk.specs.Disk.{Image}
use Rattle.vab_disk.specs.Written.{set_here, set_there}
use Rattle.vab_bootctl.specs.declared.slots.Control.{Control}
use Rattle.vab_bootctl.specs.Boot.{info_at}
use Rattle.vab_bootctl.specs.Control.{control_of}
use Rattle.vab_marks.specs.declared.mark.MarkPhase.TheVariants as marks
use Rattle.vab_marks.specs.declared.mark.UpdateMark.{UpdateMark}
use Rattle.vab_marks.specs.declared.status.PartStatus.{PartStatus}
use Rattle.vab_marks.specs.Mark.{mark_of, mark_spelling, rephased, resloted}
use Rattle.vab_statuses.specs.Statuses.{written_in}
use Rattle.vab_geometry.specs.declared.geometry.Geometry.{Geometry}
use Rattle.vab_tables.specs.declared.table.Table.{Table}
use Rattle.vab_physical.specs.declared.tail.Tail.{Tail}
use Rattle.vab_layout.specs.declared.layout.Part.{Part as PartOfLayout}
use Rattle.vab_layout.specs.Layout.{layout_of}
use Rattle.vab_layout.specs.Slots.{other_slot, twins_by}
use Rattle.vab_partitions.specs.TargetRules.{bad_beside}
use Rattle.vab_partitions.proofs.MergingLaws.{merging_of_target}
use Rattle.vab_device.specs.declared.fault.StartFault.TheVariants.{BadState}
use Rattle.vab_device.specs.Checks.{Check, check, first_fault, names_none, ◌>>=◌}
use Rattle.vab_device.specs.Idle.{control_read_of}
use Rattle.vab_device.specs.Kept.{limits_of}
use Rattle.vab_device.specs.Mounted.{images_on}
use Rattle.vab_device.specs.Phases.{is_good, may_run, are_ready, plan_of, target_ready, slot_ready}
use Rattle.vab_device.specs.Phases.{own_check, twin_check, target_check, no_store_check}
use Rattle.vab_device.specs.Phases.{merging_check, merging_checks}
use Rattle.vab_device.specs.Reading.{Read, table_at, tables_in, kept, stores_of, Reads, AgreeCopies}
use Rattle.vab_device.specs.Reading.{IsOfTables}
use Rattle.vab_device.specs.Stores.{Scanned, scans_in}
use Rattle.vab_device.proofs.Behind.{images_behind, stores_behind}
use Rattle.vab_device.proofs.CheckLaws.{bound, first_kept, check_kept}
use Rattle.vab_device.proofs.OpeningLaws.{control_seen_in}
use Rattle.vab_device.proofs.ReadingLaws.{control_is_seen}
use Rattle.vab_device.proofs.SameLaws.{tail_kept, geometry_same, tables_agree, images_same}
use Rattle.vab_device.proofs.StayLaws.{mark_there, copy_stays, copies_from}
use Rattle.vab_device.proofs.Steps.{marked}
use Rattle.vab_device.proofs.StoreLaws.{statuses_kept, stores_kept}
use Rattle.vab_device.proofs.UpdateLaws.{update_read, kept_with}
use Rattle.vab_merging.specs.Kept.{merging_device}
use Rattle.vab_merging.proofs.FewerLaws.{scans_fewer}
use Rattle.vab_merging.proofs.TwinLaws.{same_device, same_limits}
use Rattle.vab_marks.specs.declared.version.MarkVersion.TheVariants.{Two}
use Rattle.vab_names.specs.Names.{most_partitions}
use Rattle.vab_device.specs.Reading.{version_at}
use Rattle.vab_device.proofs.MostLaws.{parts_all, parts_two}
use Rattle.vab_device.proofs.StayLaws.{version_there}
use Rattle.vab_device.proofs.ReadingLaws.{bare_known}

-- a mark while the stores of this slot are merged
abbrev pub begun_mark : UpdateMark → ℕ → UpdateMark
begun_mark base slot = rephased marks.Merging (resloted slot base)

-- what is read while the stores of a slot are merged
abbrev pub merging_read : UpdateMark
    → ℕ
    → List (Option PartStatus)
    → Control
    → Tail
    → Geometry
    → Table
    → List Scanned
    → Read
merging_read base slot ss c tail g t scanned = record {
  mark = begun_mark base slot;
  statuses = ss;
  control = c;
  tail = tail;
  geometry = g;
  tables = t ∷ [];
  scanned = scanned;
}

-- of one slot's images the boot control of that slot is read
seen_at : (slot : ℕ) (c : Control)
    → slot < 2
    → info_at (control_read_of slot c) slot ≡ info_at c slot
seen_at zero c below = refl
seen_at (suc zero) c below = refl
seen_at (suc (suc n)) c below = absurd (omega (arith, below))

-- a target that was booted last and is marked as one that works may be booted alone
target_works : (slot : ℕ) (c : Control)
    → slot < 2
    → may_run slot c ≡ true
    → c.current ≡ other_slot slot
    → (info_at c (other_slot slot)).successful ≡ true
    → is_good (info_at c (other_slot slot)) ≡ true
target_works slot c below runs running successful =
    let parts = and_parts (is_good (info_at c slot))
    (c.current == slot || not ((info_at c (other_slot slot)).priority == 0)) runs in
    elim (cases_Bool (c.current == slot)) [
      | inl same ↦
          let e : c.current ≡ slot = eqb-true c.current slot same in
          absurd (omega (arith, e, running, below))
      | inr other ↦
          let wanted : not ((info_at c (other_slot slot)).priority == 0) ≡ true =
          rw other at parts.1 in
          rw (wanted, successful) refl
    ]

pub none_named : (x : Option (List ℕ)) → names_none x ≡ None → x ≡ None
none_named None is = refl
none_named (Some name) is = absurd cc

module _
    (base : UpdateMark) (slot : ℕ) (ss : List (Option PartStatus)) (seen : Control) (tail : Tail)
    (g : Geometry) (t u : Table)
    (scanned : List Scanned) (c : Control) (size : ℕ) (old : Image)
    (below : slot < 2)
    (reads : Reads size (update_read (rephased marks.Staged (resloted slot base)) ss seen tail g t u
    scanned) old)
    (whole : control_of (old 4) ≡ Ok c)
    (copies : AgreeCopies g (slot ∷ other_slot slot ∷ []) (t ∷ u ∷ []) old)
    (version : version_at old ≡ Two)
    (read : mark_of (mark_spelling (begun_mark base (other_slot slot)))
    ≡ Ok (begun_mark base (other_slot slot)))
    (running : c.current ≡ other_slot slot)
    (successful : (info_at c (other_slot slot)).successful ≡ true) where
  abbrev before : Read
  before = update_read (rephased marks.Staged (resloted slot base)) ss seen tail g t u scanned

  abbrev target : ℕ
  target = other_slot slot

  abbrev new : Image
  new = marked old (mark_spelling (begun_mark base (other_slot slot)))

  abbrev after : Read
  after =
      merging_read base (other_slot slot) ss (control_read_of (other_slot slot) c) tail g u
      scanned

  elsewhere : (s : ℕ) → s ≢ 2048 → new s ≡ old s
  elsewhere s other = set_there old 2048 (mark_spelling (begun_mark base (other_slot slot))) s other

  from_behind : (s : ℕ) → 4096 ≤ s → new s ≡ old s
  from_behind s le = elsewhere s (λ e. omega (arith, e, le))

  table_sectors : (slots : List ℕ) (s : ℕ) → IsOfTables g slots s → new s ≡ old s
  table_sectors slots s is = elsewhere s (λ e. omega (arith, e, copies_from g slots s is))

  -- ---- the rules

  abbrev most : ℕ
  most = most_partitions

  abbrev later_checks : List Check
  later_checks = target_check base.apart most target t u ∷ no_store_check base.apart u ∷ []

  checks : (twin_check target t u ≡ None)
      × (first_fault (own_check most slot t ∷ later_checks) ≡ None)
  checks =
      first_kept (twin_check target t u) (own_check most slot t ∷ later_checks)
      (parts_all before old reads.parts)

  rules : merging_check most target u ≡ None
  rules =
      let later = (first_kept (own_check most slot t) later_checks checks.1).1 in
      let named : target_check base.apart most target t u ≡ None =
      (first_kept (target_check base.apart most target t u) (no_store_check base.apart u ∷ [])
      later).0 in
      let twins : List PartOfLayout = twins_by base.apart (layout_of t).parts in
      let none : bad_beside most target twins (layout_of t).parts (layout_of u).parts ≡ None =
      none_named (bad_beside most target twins (layout_of t).parts (layout_of u).parts) named in
      ap names_none
      (merging_of_target most target twins (layout_of t).parts (layout_of u).parts (omega arith)
      none)

  states : (check (may_run slot seen) (BadState 2) ≡ None)
      × (first_fault (check (target_ready slot (t ∷ u ∷ []) scanned) (BadState 3) ∷ []) ≡ None)
  states =
      first_kept (check (may_run slot seen) (BadState 2))
      (check (target_ready slot (t ∷ u ∷ []) scanned) (BadState 3) ∷ []) reads.state

  ready : are_ready (plan_of target (layout_of u) scanned) ≡ true
  ready =
      check_kept (target_ready slot (t ∷ u ∷ []) scanned) (BadState 3)
      (first_kept (check (target_ready slot (t ∷ u ∷ []) scanned) (BadState 3)) [] states.1).0

  seen_is : seen ≡ c
  seen_is = control_is_seen true true old c seen reads.control whole

  works : is_good (info_at (control_read_of target c) target) ≡ true
  works =
      let runs : may_run slot c ≡ true =
      ap (may_run slot) (sym seen_is)
      ∙ check_kept (may_run slot seen) (BadState 2) states.0 in
      ap is_good (seen_at target c (omega arith))
      ∙ target_works slot c below runs running successful

  three_kept : (x y z : Check)
      → x ≡ None
      → y ≡ None
      → z ≡ None
      → first_fault (x ∷ y ∷ z ∷ []) ≡ None
  three_kept x y z first second third = rw (first, second, third) refl

  state : first_fault (merging_checks target (control_read_of target c) (u ∷ []) scanned) ≡ None
  state =
      three_kept (check (eqb c.current target) (BadState 1))
      (check (is_good (info_at (control_read_of target c) target)) (BadState 2))
      (check (slot_ready target (u ∷ []) scanned) (BadState 3))
      (rw (eq-eqb c.current target running) refl) (rw works refl) (rw ready refl)

  -- ---- what is read

  table_old : tables_in tail.super_end g (target ∷ []) old ≡ Ok (u ∷ [])
  table_old =
      let first = bound (table_at tail.super_end g slot old)
      (λ t. tables_in tail.super_end g (target ∷ []) old >>= λ ts. Ok (t ∷ ts))
      (t ∷ u ∷ []) reads.tables in
      let rest = bound (tables_in tail.super_end g (target ∷ []) old)
      (λ ts. Ok (first.0 ∷ ts)) (t ∷ u ∷ []) first.2 in
      let both : Ok (first.0 ∷ rest.0) ≡ Ok (t ∷ u ∷ []) = rest.2 in
      let e : rest.0 ≡ u ∷ [] = cc in
      rest.1 ∙ ap Ok e

  pub control_new : control_of (new 4) ≡ Ok c
  control_new = ap control_of (elsewhere 4 (λ e. omega (arith, e))) ∙ whole

  stores : scans_in (stores_of after) new ≡ Ok scanned
  stores =
      scans_fewer base.apart target (layout_of u) (written_in ss) new scanned
      (stores_kept (stores_of before) old new scanned
      (λ s is. from_behind s (stores_behind size 4096 before old s reads (omega arith) is))
      reads.stores
      ∙ reads.stores)

  pub version_new : version_at new ≡ Two
  version_new =
      version_there (begun_mark base target) new
      (set_here old 2048 (mark_spelling (begun_mark base target)) 2048 refl)

  pub reads_new : Reads size after new
  reads_new = record {
    enough = reads.enough;
    mark = mark_there (begun_mark base target) new refl
        (bare_known old (rephased marks.Staged (resloted slot base)) reads.mark) read
        (set_here old 2048 (mark_spelling (begun_mark base target)) 2048 refl);
    statuses =
        statuses_kept true old new (version_new ∙ sym version)
        (λ read s is. elsewhere s (λ e. omega (arith, e, is.from)))
        ∙ reads.statuses;
    control = control_seen_in (target == 0) (target == 1) new c control_new;
    tail =
        tail_kept base.physical size old new (λ some. elsewhere 2113 (λ e. omega (arith, e)))
        ∙ reads.tail;
    geometry =
        geometry_same tail.super_end old new
        (elsewhere 4104 (λ e. omega (arith, e)))
        (elsewhere 4112 (λ e. omega (arith, e)))
        ∙ reads.geometry;
    tables =
        tables_agree tail.super_end g (target ∷ []) old new (table_sectors (target ∷ []))
        ∙ table_old;
    parts = parts_two after new version_new (rw rules refl);
    stores = stores;
    state = state;
  }

  pub copies_new : AgreeCopies g (target ∷ []) (u ∷ []) new
  copies_new = (
    (
      copies.1.0.0,
      copies.1.0.1,
      copy_stays g target copies.1.0.0 old new (table_sectors (target ∷ [])) copies.1.0.2,
    ),
    tt,
  )

  -- the images of both slots are where they were
  pub images_a : images_on new (kept before).a ≡ images_on old (kept before).a
  images_a =
      images_same old new (kept before).a
      (λ s is. from_behind s
      (images_behind size 4096 0 true (target == 0) before old s reads (omega arith) is))

  pub images_b : images_on new (kept before).b ≡ images_on old (kept before).b
  images_b =
      images_same old new (kept before).b
      (λ s is. from_behind s
      (images_behind size 4096 1 true (target == 1) before old s reads (omega arith) is))

  -- ---- what is kept

  pub device_same : (layout_of t).device ≡ (layout_of u).device
  device_same = same_device slot t u below checks.0

  pub limits_same : limits_of slot t.groups ≡ limits_of (other_slot slot) u.groups
  limits_same = same_limits slot t u below checks.0

-- with the target's table alone, which has the same blocks and groups
pub kept_begun : (base : UpdateMark) (slot : ℕ) (ss : List (Option PartStatus)) (seen : Control)
    (tail : Tail) (g : Geometry) (t u : Table) (scanned : List Scanned) (c : Control)
    → slot < 2
    → (layout_of t).device ≡ (layout_of u).device
    → limits_of slot t.groups ≡ limits_of (other_slot slot) u.groups
    → merging_device (kept_with
    (update_read (rephased marks.Staged (resloted slot base)) ss seen tail g t u scanned) c)
    ≡ kept_with
    (merging_read base (other_slot slot) ss (control_read_of (other_slot slot) c) tail g u scanned)
    c
kept_begun base zero ss seen tail g t u scanned c below device limits =
    rw (device, limits) refl
kept_begun base (suc zero) ss seen tail g t u scanned c below device limits =
    rw (device, limits) refl
kept_begun base (suc (suc n)) ss seen tail g t u scanned c below device limits =
    absurd (omega (arith, below))

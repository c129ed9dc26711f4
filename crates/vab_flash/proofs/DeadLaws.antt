-- What is written for an image that no status names is read by nothing.
use Rattle.std.proofs.Common.{◌≡◌, ◌⊎◌, ◌∙◌, inl, inr, ⊎_elim, ℕ, zero, suc, ◌+◌, ◌-◌, ◌*◌}
use Rattle.std.proofs.Common.{◌≤◌, ◌<◌}
use Rattle.std.proofs.Common.{true, List, [], ◌∷◌, length, take, refl, ap, subst}
use Rattle.std.proofs.Common.{arith}
use Rattle.std.specs.Prelude.{Bool, Option, None, ◌==◌, if◌then◌else◌}
use Rattle.std.proofs.lemmas.Bool.{and_parts, leb-true}
use Rattle.vab_disk.specs.Disk.{Image}
use Rattle.vab_disk.specs.Calls.{IsBetween, InSectors}
use Rattle.vab_gate.proofs.Blocks.{sectors_same}
use Rattle.vab_statuses.specs.Statuses.{IsOfStatuses, written_in, status_named}
use Rattle.vab_geometry.specs.declared.geometry.Geometry.{Geometry}
use Rattle.vab_geometry.specs.Geometry.{IsGeometry}
use Rattle.vab_lpstore.specs.Layout.{copy_sectors, primary_of, backup_of, primary_bytes}
use Rattle.vab_lpstore.specs.Layout.{backup_bytes}
use Rattle.vab_lpstore.proofs.StoreLaws.{copies_apart}
use Rattle.vab_tables.specs.declared.table.Table.{Table}
use Rattle.vab_tables.specs.declared.entries.BlockDevice.{BlockDevice}
use Rattle.vab_layout.specs.Layout.{layout_of, first_device}
use Rattle.vab_layout.specs.Slots.{other_slot, own_parts, twins_by, IsTargetBeside}
use Rattle.vab_device.specs.declared.device.Device.{Device}
use Rattle.vab_device.specs.Kept.{copies_end, sectors_of, IsDevice, IsTableOf}
use Rattle.vab_device.specs.Kept.{IsKeptTable, HasNoStores, AreOfUpdate, IsUpdate}
use Rattle.vab_device.specs.Mounted.{images_on, entries_on}
use Rattle.vab_device.specs.Reading.{Read, kept, AgreeCopies, Dead, IsOfTables}
use Rattle.vab_device.specs.Reading.{IsOfBlocks, IsOfImages, IsOfPlan, mark_in, control_in}
use Rattle.vab_device.specs.Reading.{tail_at, geometry_at, tables_in, stores_of, table_for}
use Rattle.vab_device.specs.Stores.{scans_in, scanned_named}
use Rattle.vab_device.proofs.SameLaws.{mark_same, control_same, geometry_same, tables_agree}
use Rattle.vab_device.proofs.SameLaws.{tail_kept, images_same}
use Rattle.vab_device.proofs.StoreLaws.{statuses_kept, stores_kept, plan_kept}
use Rattle.vab_device.proofs.Behind.{images_behind, stores_behind, plan_behind}
use Rattle.vab_device.proofs.InStores.{in_stores}
use Rattle.vab_flash.proofs.JoinLaws.{unread_unnamed}
use Rattle.vab_flash.proofs.InstallingLaws.{installing_read, Installs}
use Rattle.vab_flash.proofs.ApartLaws.{BelongTo, stores_miss, planned_miss, images_miss}
use Rattle.vab_device.proofs.PartBlocks.{block_behind}
use Rattle.vab_device.proofs.RepairLaws.{ends_within}
use Rattle.vab_device.specs.Reading.{version_at, most_at}
use Rattle.vab_device.proofs.SameLaws.{version_same, most_same}

-- ---- the tables of a device

abbrev tables_of : ℕ → Table → Table → List Table → ℕ → Option Table
tables_of slot s t others k = table_for k (slot ∷ other_slot slot ∷ []) (s ∷ t ∷ others)

target_of : (super_end slot : ℕ) (g : Geometry) (s t : Table) (others : List Table)
    → slot < 2
    → IsKeptTable super_end g 0 (tables_of slot s t others 0)
    → IsKeptTable super_end g 1 (tables_of slot s t others 1)
    → IsTableOf super_end g (other_slot slot) t
target_of super_end zero g s t others below a b = b
target_of super_end (suc zero) g s t others below a b = a
target_of super_end (suc (suc n)) g s t others below a b = absurd (omega (arith, below))

pub update_of : (apart : Bool) (slot : ℕ) (s t : Table) (others : List Table)
    → slot < 2
    → IsUpdate apart slot
    (if slot == 0 then tables_of slot s t others 0 else tables_of slot s t others 1)
    (if other_slot slot == 0 then tables_of slot s t others 0 else tables_of slot s t others 1)
    → AreOfUpdate apart slot s t
update_of apart zero s t others below is = is
update_of apart (suc zero) s t others below is = is
update_of apart (suc (suc n)) s t others below is = absurd (omega (arith, below))

-- what holds of the tables of an update
pub record Tables (d : Device) (size : ℕ) (image : Image) (i : Installs d size image) : Type 0 where
  pub below : i.slot < 2
  pub geometry : IsGeometry i.geometry
  pub table : IsTableOf i.tail.super_end i.geometry (other_slot i.slot) i.target
  pub target : IsTargetBeside (other_slot i.slot)
      (twins_by i.base.apart (layout_of i.source).parts)
      (layout_of i.source).parts
      (layout_of i.target).parts
  pub no_stores : HasNoStores i.base.apart (layout_of i.target).parts
  pub begins : (layout_of i.source).device.first_logical_sector
      ≡ (layout_of i.target).device.first_logical_sector

pub tables_kept : (d : Device) (size : ℕ) (image : Image) (i : Installs d size image)
    → IsDevice d size
    → Tables d size image i
unfolding layout_of
tables_kept d size image i is =
    let r : Read =
    installing_read i.base i.slot i.statuses i.seen i.tail i.geometry i.source i.target
    i.others i.scanned in
    let form : Device = record (kept r) { control = d.control } in
    let of : IsDevice form size = subst (λ (k : Device). IsDevice k size) i.is is in
    let update = update_of i.base.apart i.slot i.source i.target i.others of.slot of.update in
    record {
      below = of.slot;
      geometry = of.geometry;
      table = target_of i.tail.super_end i.slot i.geometry i.source i.target i.others of.slot
          of.table_a of.table_b;
      target = update.target;
      no_stores = update.no_stores;
      begins = ap (λ (ds : List BlockDevice). (first_device ds).first_logical_sector) update.device;
    }

-- ---- copies of tables

-- a sector of a copy of the two tables
pub record InCopies (g : Geometry) (s : ℕ) : Type 0 where
  pub from : 4120 ≤ s
  pub below : 512 * (s + 1 - 4096) ≤ copies_end g

in_copies : (g : Geometry) (slot s : ℕ) → IsGeometry g → slot < 2
    → IsBetween (primary_of g slot) (primary_of g slot + copy_sectors g) s
    ⊎ IsBetween (backup_of g slot) (backup_of g slot + copy_sectors g) s
    → InCopies g s
unfolding primary_of backup_of
in_copies g slot s is below (inl primary) =
    let apart : primary_of g slot + copy_sectors g ≤ backup_of g slot =
    copies_apart g slot (omega (arith, is.two, below)) in
    let end = ends_within g slot is below in
    record { from = omega (arith, primary.from); below = omega (arith, primary.below, apart, end) }
in_copies g slot s is below (inr backup) =
    let end = ends_within g slot is below in
    record { from = omega (arith, backup.from); below = omega (arith, backup.below, end) }

of_tables : (g : Geometry) (slot s : ℕ) → IsGeometry g → slot < 2
    → IsOfTables g (slot ∷ other_slot slot ∷ []) s
    → InCopies g s
of_tables g slot s is below (inl here) = in_copies g slot s is below (inl here)
of_tables g slot s is below (inr (inl here)) = in_copies g slot s is below (inr here)
of_tables g slot s is below (inr (inr (inl here))) =
    in_copies g (other_slot slot) s is (omega arith) (inl here)
of_tables g slot s is below (inr (inr (inr (inl here)))) =
    in_copies g (other_slot slot) s is (omega arith) (inr here)
of_tables g slot s is below (inr (inr (inr (inr none)))) = absurd none

copies_stay : (g : Geometry) (slots : List ℕ) (ts : List Table) (old new : Image)
    → ((s : ℕ) → IsOfTables g slots s → new s ≡ old s)
    → AgreeCopies g slots ts old
    → AgreeCopies g slots ts new
copies_stay g [] ts old new same agree = tt
copies_stay g (slot ∷ slots) [] old new same agree = agree
copies_stay g (slot ∷ slots) (t ∷ ts) old new same agree =
    let n = copy_sectors g in
    let primary : primary_bytes g slot new ≡ primary_bytes g slot old =
    sectors_same n (primary_of g slot) old new
    (λ k below. same (primary_of g slot + k) (inl (record {
      from = omega arith;
      below = omega (arith, below);
    }))) in
    let backup : backup_bytes g slot new ≡ backup_bytes g slot old =
    sectors_same n (backup_of g slot) old new
    (λ k below. same (backup_of g slot + k) (inr (inl (record {
      from = omega arith;
      below = omega (arith, below);
    })))) in
    let text = agree.0.0 in (
      (
        text,
        agree.0.1,
        record {
          primary = ap (λ (l : List ℕ). take (length text) l) primary ∙ agree.0.2.primary;
          backup = ap (λ (l : List ℕ). take (length text) l) backup ∙ agree.0.2.backup;
        },
      ),
      copies_stay g slots ts old new (λ s is. same s (inr (inr is))) agree.1,
    )

-- ---- blocks for an image that isn't read

module _
    (d : Device) (size : ℕ) (old : Image) (i : Installs d size old) (device : IsDevice d size)
    (name blocks : List ℕ)
    (belong : BelongTo i.slot (layout_of i.source).parts (layout_of i.target).parts name blocks)
    (unread : scanned_named name i.scanned ≡ None) where
  abbrev first : ℕ
  first = (layout_of i.target).device.first_logical_sector

  abbrev pub read : Read
  read =
      installing_read i.base i.slot i.statuses i.seen i.tail i.geometry i.source i.target
      i.others i.scanned

  -- a sector of these blocks
  abbrev pub InThese : ℕ → Type 0
  InThese s = IsOfBlocks (sectors_of first blocks) s

  tables : Tables d size old i
  tables = tables_kept d size old i device

  behind_copies : copies_end i.geometry ≤ 512 * first
  behind_copies =
      let both = and_parts _ _ tables.table.lies in leb-true _ _ both.1

  -- they stand behind the copies of the tables
  pub not_low : (s : ℕ) → s < 4120 → InThese s → ⊥
  not_low s low is =
      omega (arith, low, block_behind first blocks s is, behind_copies)

  not_copies : (s : ℕ) → InCopies i.geometry s → InThese s → ⊥
  not_copies s copies is =
      omega (arith, copies.below, block_behind first blocks s is, behind_copies)

  pub unnamed : status_named name (written_in i.statuses) ≡ None
  unnamed =
      unread_unnamed i.base.apart name (other_slot i.slot) (layout_of i.target)
      (written_in i.statuses) old i.scanned i.reads.stores unread

  -- Where all sectors stay but for those of these blocks and of the statuses.
  module _ (new : Image)
      (same : (s : ℕ) → (IsOfStatuses s → ⊥) → (InThese s → ⊥) → new s ≡ old s) where
    low : (s : ℕ) → s < 2049 ⊎ 2113 ≤ s → s < 4120 → new s ≡ old s
    low s (inl before) below =
        same s (λ st. omega (arith, st.from, before)) (not_low s below)
    low s (inr behind) below =
        same s (λ st. omega (arith, st.below, behind)) (not_low s below)

    high : (s : ℕ) → 4096 ≤ s → (InThese s → ⊥) → new s ≡ old s
    high s from not = same s (λ st. omega (arith, st.below, from)) not

    copies : (s : ℕ) → IsOfTables i.geometry (i.slot ∷ other_slot i.slot ∷ []) s → new s ≡ old s
    copies s is =
        let in_these : InCopies i.geometry s =
        of_tables i.geometry i.slot s tables.geometry tables.below is in
        high s (omega (arith, in_these.from)) (not_copies s in_these)

    pub mark_stays : mark_in new ≡ mark_in old
    mark_stays = mark_same old new (low 2048 (inl (omega arith)) (omega arith))

    pub version_stays : version_at new ≡ version_at old
    version_stays = version_same old new (low 2048 (inl (omega arith)) (omega arith))

    pub most_stays : most_at old ≤ most_at new
    most_stays = most_same old new (low 2048 (inl (omega arith)) (omega arith))

    pub control_stays : (a b : Bool) → control_in a b new ≡ control_in a b old
    control_stays a b = control_same a b old new (low 4 (inl (omega arith)) (omega arith))

    pub control_sector : new 4 ≡ old 4
    control_sector = low 4 (inl (omega arith)) (omega arith)

    pub tail_stays : tail_at i.base.physical size new ≡ tail_at i.base.physical size old
    tail_stays =
        tail_kept i.base.physical size old new (λ some. low 2113 (inr (omega arith)) (omega arith))

    pub geometry_stays : geometry_at i.tail.super_end new ≡ geometry_at i.tail.super_end old
    geometry_stays =
        geometry_same i.tail.super_end old new
        (low 4104 (inr (omega arith)) (omega arith))
        (low 4112 (inr (omega arith)) (omega arith))

    pub tables_stay : tables_in i.tail.super_end i.geometry (i.slot ∷ other_slot i.slot ∷ []) new
        ≡ tables_in i.tail.super_end i.geometry (i.slot ∷ other_slot i.slot ∷ []) old
    tables_stay =
        tables_agree i.tail.super_end i.geometry (i.slot ∷ other_slot i.slot ∷ []) old new copies

    pub copies_agree : AgreeCopies i.geometry (i.slot ∷ other_slot i.slot ∷ [])
        (i.source ∷ i.target ∷ i.others) new
    copies_agree =
        copies_stay i.geometry (i.slot ∷ other_slot i.slot ∷ []) (i.source ∷ i.target ∷ i.others)
        old new copies i.copies

    pub stores_stay : scans_in (stores_of read) new ≡ scans_in (stores_of read) old
    stores_stay =
        stores_kept (stores_of read) old new i.scanned
        (λ s is.
        high s (stores_behind size 4096 read old s i.reads (omega arith) is)
        (λ here.
        stores_miss i.slot (layout_of i.source).parts (layout_of i.target).parts name blocks belong
        first s here i.base.apart (layout_of i.target) (written_in i.statuses) refl refl unnamed
        (in_stores (stores_of read) i.scanned old s i.reads.stores is)))
        i.reads.stores

    images_a : (s : ℕ) → IsOfImages (kept read).a s → new s ≡ old s
    images_a s is =
        high s (images_behind size 4096 0 _ _ read old s i.reads (omega arith) is)
        (λ here.
        images_miss i.slot (layout_of i.source).parts (layout_of i.target).parts name blocks belong
        first s here 0 i.scanned i.source i.target i.others refl tables.begins is)

    images_b : (s : ℕ) → IsOfImages (kept read).b s → new s ≡ old s
    images_b s is =
        high s (images_behind size 4096 1 _ _ read old s i.reads (omega arith) is)
        (λ here.
        images_miss i.slot (layout_of i.source).parts (layout_of i.target).parts name blocks belong
        first s here 1 i.scanned i.source i.target i.others refl tables.begins is)

    pub images_a_stay : images_on new (kept read).a ≡ images_on old (kept read).a
    images_a_stay = images_same old new (kept read).a images_a

    pub images_b_stay : images_on new (kept read).b ≡ images_on old (kept read).b
    images_b_stay = images_same old new (kept read).b images_b

    pub plan_sectors : (s : ℕ) → IsOfPlan (kept read).plan s → new s ≡ old s
    plan_sectors s is =
        high s (plan_behind size 4096 read old s i.reads (omega arith) is)
        (λ here.
        planned_miss i.slot (layout_of i.source).parts (layout_of i.target).parts name blocks belong
        first s here (layout_of i.target) i.scanned
        (own_parts (other_slot i.slot) (layout_of i.target).parts) refl refl (λ p c. c) unread is)

    pub plan_stays : entries_on new (kept read).plan ≡ entries_on old (kept read).plan
    plan_stays = plan_kept (kept read).plan old new plan_sectors

  -- Writes into them are dead.
  pub these_dead : Dead size read old (InSectors InThese)
  these_dead new but =
      let stay : (s : ℕ) → (IsOfStatuses s → ⊥) → (InThese s → ⊥) → new s ≡ old s =
      λ s status not. ⊎_elim (λ is. is) (λ w. absurd (not w)) (but s) in
      record {
        most = most_stays new stay;
        mark = mark_stays new stay;
        statuses =
            statuses_kept true old new (version_stays new stay)
            (λ reads s is.
            ⊎_elim (λ same. same) (λ w. absurd (not_low s (omega (arith, is.below)) w)) (but s));
        control = control_stays new stay _ _;
        tail = tail_stays new stay;
        geometry = geometry_stays new stay;
        tables = tables_stay new stay;
        stores = stores_stay new stay;
        images_a = images_a_stay new stay;
        images_b = images_b_stay new stay;
        plan = plan_stays new stay;
        overlay = refl;
      }

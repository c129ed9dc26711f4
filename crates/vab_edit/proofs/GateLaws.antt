-- Another table of the target in its copies: what is read then is the device with that table.
use Rattle.std.proofs.Common.{◌≡◌, ◌≢◌, ◌∙◌, inl, inr, ℕ, ◌+◌, ◌-◌, ◌*◌, ◌≤◌, ◌<◌}
use Rattle.std.proofs.Common.{Bool, true, List, [], ◌∷◌, Ok, refl, sym, ap}
use Rattle.std.proofs.Common.{arith, subst, ◌&&◌}
use Rattle.std.specs.Prelude.{Option, Some, None, map, Contains, is_some}
use Rattle.std.proofs.lemmas.Bool.{and_parts, and_from}
use Rattle.vab_disk.specs.Disk.{Image}
use Rattle.vab_bootctl.specs.declared.slots.Control.{Control}
use Rattle.vab_bootctl.specs.Control.{control_of}
use Rattle.vab_marks.specs.declared.mark.UpdateMark.{UpdateMark}
use Rattle.vab_marks.specs.declared.status.PartStatus.{PartStatus}
use Rattle.vab_names.specs.Names.{store_of}
use Rattle.vab_statuses.specs.Statuses.{written_in}
use Rattle.vab_tables.specs.declared.table.Table.{Table}
use Rattle.vab_tables.specs.Text.{IsTableText}
use Rattle.vab_geometry.specs.declared.geometry.Geometry.{Geometry}
use Rattle.vab_geometry.specs.Geometry.{IsGeometry}
use Rattle.vab_lpstore.specs.Layout.{copy_sectors, primary_of, backup_of, BothHold}
use Rattle.vab_lpstore.specs.Loading.{slot_table}
use Rattle.vab_lpstore.specs.Storing.{SameElsewhere}
use Rattle.vab_lpstore.proofs.StoreLaws.{copies_apart, both_table}
use Rattle.vab_layout.specs.declared.layout.Part.{Part}
use Rattle.vab_layout.specs.Layout.{layout_of, first_device}
use Rattle.vab_layout.specs.Slots.{other_slot, own_parts, twins_by, is_updated, IsTargetBeside}
use Rattle.vab_layout.proofs.LayoutLaws.{layout_keeps}
use Rattle.vab_partitions.specs.Twins.{are_twins, are_devices}
use Rattle.vab_partitions.proofs.BadTarget.{target_not_bad}
use Rattle.vab_partitions.proofs.TwinLaws.{twins_are, devices_are}
use Rattle.vab_builder.specs.declared.edit.Edit.{Edit}
use Rattle.vab_physical.specs.declared.tail.Tail.{Tail}
use Rattle.vab_device.specs.declared.fault.StartFault.TheVariants.{BadTable}
use Rattle.vab_device.specs.Checks.{Check, check, names_none, first_fault, unless, ◌>>=◌}
use Rattle.vab_device.specs.Kept.{copies_end, lies_in, HasNoStores}
use Rattle.vab_device.specs.Mounted.{images_on, entry_on, mounted_on}
use Rattle.vab_device.specs.Phases.{own_check, twin_check, target_check, no_store_check, plan_of}
use Rattle.vab_device.specs.Reading.{Read, table_read, table_at, tables_in, part_fault, stores_of}
use Rattle.vab_device.specs.Reading.{kept, device, Reads, Represents, AgreeCopies}
use Rattle.vab_device.specs.Stores.{Scanned, first_named, scans_in, scanned_named}
use Rattle.vab_device.specs.Updates.{plan_by, installing_with}
use Rattle.vab_device.proofs.Behind.{images_behind, stores_behind, plan_behind}
use Rattle.vab_device.proofs.CheckLaws.{first_kept, check_kept}
use Rattle.vab_device.proofs.RepairLaws.{end_of, other_table}
use Rattle.vab_device.proofs.SameLaws.{mark_same, control_same, tail_kept, geometry_same}
use Rattle.vab_device.proofs.SameLaws.{table_same, images_same}
use Rattle.vab_device.proofs.StoreLaws.{statuses_kept, stores_kept, plan_kept}
use Rattle.vab_edit.specs.Carried.{carried}
use Rattle.vab_edit.specs.Guards.{kept_from}
use Rattle.vab_edit.specs.Prepared.{IsEdited}
use Rattle.vab_edit.proofs.CopiesLaws.{ends_within, both_kept}
use Rattle.vab_edit.proofs.InstallingLaws.{read_at, two_tables, device_reads}
use Rattle.vab_plan.proofs.NoStoreLaws.{no_store_kept}
use Rattle.vab_edit.proofs.NamedLaws.{first_is, first_own, own_named, HasImage, LeavesImages}
use Rattle.vab_edit.proofs.NamedLaws.{has_still}
use Rattle.vab_edit.specs.Writes.{plan_at}
use Rattle.vab_edit.proofs.NextLaws.{device_at, mounted_next}
use Rattle.vab_edit.proofs.NoStoresLaws.{edited_no_stores}
use Rattle.vab_edit.proofs.PlanLaws.{image_updated, settled_there, plan_carried, plan_means}
use Rattle.vab_edit.proofs.SparedLaws.{IsSpared, spared, settled_spared}
use Rattle.vab_edit.proofs.WantedLaws.{scanned_both, wanted_still}
use Rattle.vab_names.specs.Names.{most_partitions}
use Rattle.vab_marks.specs.declared.version.MarkVersion.TheVariants.{Two}
use Rattle.vab_device.specs.Reading.{version_at, most_at}
use Rattle.vab_device.proofs.MostLaws.{parts_all, parts_two}
use Rattle.vab_device.proofs.SameLaws.{version_same}

-- ---- slots

pub other_below : (k : ℕ) → other_slot k < 2
other_below k = omega arith

pub other_not : (k : ℕ) → k < 2 → k ≢ other_slot k
other_not k below e = omega (arith, below, e)

-- ---- rules

four_none : (a b c e : Check)
    → a ≡ None
    → b ≡ None
    → c ≡ None
    → e ≡ None
    → first_fault (a ∷ b ∷ c ∷ e ∷ []) ≡ None
four_none a b c e ea eb ec ee = (λ i. first_fault (ea i ∷ eb i ∷ ec i ∷ ee i ∷ []))

pub device_of_layout : (t u : Table) → u.devices ≡ t.devices → (layout_of u).device ≡
    (layout_of t).device
unfolding layout_of
device_of_layout t u e = ap first_device e

-- ---- the disk

module _
    (size : ℕ) (base : UpdateMark) (k n : ℕ) (statuses : List (Option PartStatus))
    (seen : Control) (tail : Tail) (g : Geometry)
    (s t u : Table) (scanned : List Scanned) (edit : Edit) (old image : Image)
    (rules : IsGeometry g)
    (below : k < 2)
    (fits : n ≤ copy_sectors g)
    (reads : Reads size (read_at base k statuses seen tail g s t scanned) old)
    (was : IsTargetBeside (other_slot k) (twins_by base.apart (layout_of s).parts)
    (layout_of s).parts (layout_of t).parts)
    (stores_were : HasNoStores base.apart (layout_of t).parts)
    (edited : IsEdited base.apart g.max k edit s t u)
    (free : kept_from base.apart (other_slot k) (plan_of (other_slot k) (layout_of t) scanned) edit
    ≡ None)
    (lies : lies_in tail.super_end g (layout_of u).device ≡ true)
    (two : version_at old ≡ Two)
    (others : SameElsewhere g (other_slot k) n old image) where
  abbrev o : ℕ
  o = other_slot k

  abbrev r : Read
  r = read_at base k statuses seen tail g s t scanned

  before : (a : ℕ) → a < 4120 → image a ≡ old a
  unfolding primary_of backup_of
  before a lt = others a (inl (omega (arith, lt))) (inl (omega (arith, lt)))

  behind : (a : ℕ) → end_of g o ≤ a → image a ≡ old a
  behind a le =
      let apart : primary_of g o + copy_sectors g ≤ backup_of g o =
      copies_apart g o (omega (arith, rules.two)) in
      others a (inr (omega (arith, le, apart, fits))) (inr (omega (arith, le, fits)))

  within : 512 * (end_of g o - 4096) ≤ copies_end g
  within = ends_within g o rules (other_below k)

  -- the partitions and stores keep their rules

  abbrev most : ℕ
  most = most_partitions

  old_rules : (twin_check o s t ≡ None) × (own_check most k s ≡ None)
  old_rules =
      let first = first_kept (twin_check o s t)
      (own_check most k s ∷ target_check base.apart most o s t ∷ no_store_check base.apart t ∷ [])
      (parts_all r old reads.parts) in
      let second = first_kept (own_check most k s)
      (target_check base.apart most o s t ∷ no_store_check base.apart t ∷ []) first.1 in
      (first.0, second.0)

  twins : twin_check o s u ≡ None
  twins =
      let both = and_parts (are_devices s.devices t.devices) (are_twins o s.groups t.groups)
      (check_kept (are_devices s.devices t.devices && are_twins o s.groups t.groups)
      (BadTable o) old_rules.0) in
      let devices = (devices_are s.devices u.devices).1
      ((devices_are s.devices t.devices).0 both.0 ∙ sym edited.device) in
      let groups = (twins_are o s.groups u.groups).1
      ((twins_are o s.groups t.groups).0 both.1 ∙ sym edited.groups) in
      ap (λ (b : Bool). check b (BadTable o)) (and_from _ _ devices groups)

  version : version_at image ≡ version_at old
  version = version_same old image (before 2048 (omega arith))

  parts : part_fault (most_at image) (read_at base k statuses seen tail g s u scanned) ≡ None
  parts =
      parts_two (read_at base k statuses seen tail g s u scanned) image (version ∙ two)
      (four_none (twin_check o s u) (own_check most k s) (target_check base.apart most o s u)
      (no_store_check base.apart u) twins
      old_rules.1
      (ap names_none
      (target_not_bad most o (twins_by base.apart (layout_of s).parts) (layout_of s).parts
      (layout_of u).parts
      (record { is = edited.target; few = edited.target.own.few })))
      (no_store_kept base.apart u
      (edited_no_stores base.apart o (twins_by base.apart (layout_of s).parts) (layout_of s)
      (layout_of t) (layout_of u) (plan_of o (layout_of t) scanned) edit (other_below k)
      edited.layout free stores_were)))

  -- ---- an edit leaves partitions whose images were read

  has_image : (name : List ℕ)
      → is_some (scanned_named name scanned) ≡ true
      → HasImage base.apart o (layout_of t) name
  has_image name found =
      scanned_both base.apart o (layout_of t) (written_in statuses) old scanned name reads.stores
      found

  -- such a partition is updated
  was_updated : (q : Part)
      → Contains (own_parts o (layout_of t).parts) q
      → is_some (scanned_named q.name scanned) ≡ true
      → is_updated q ≡ true
  was_updated q c found =
      image_updated base.apart o (layout_of s).parts (layout_of t) q was c (has_image q.name found)

  leaves : LeavesImages scanned (layout_of t) (layout_of u)
  leaves name found =
      let b = has_image name found in
      let sp = by_store b.store b.stored b.placed in
      record { part = edited.others name sp.part; store = edited.others (store_of name) sp.store }
    where
      by_store : (x : Option Part)
          → first_named (store_of name) (layout_of t).parts ≡ x
          → (x ≡ None → base.apart ≡ true)
          → IsSpared edit name
      by_store (Some q) stored placed =
          let b = has_image name found in
          let own = own_named o name (layout_of t).parts b.part b.named in
          let there = first_is name (layout_of t).parts b.part
          (sym (first_own o name (layout_of t).parts own) ∙ b.named) in
          spared o (twins_by base.apart (layout_of s).parts) (layout_of s) (layout_of t)
          (layout_of u) edit name edited.layout own there.there
          (first_is (store_of name) (layout_of t).parts q stored).there
      by_store None stored placed =
          let b = has_image name found in
          let own = own_named o name (layout_of t).parts b.part b.named in
          let there = first_is name (layout_of t).parts b.part
          (sym (first_own o name (layout_of t).parts own) ∙ b.named) in
          let mine = first_is name (own_parts o (layout_of t).parts) b.part b.named in
          let updated = was_updated b.part mine.among
          (ap (λ (n : List ℕ). is_some (scanned_named n scanned)) mine.named ∙ found) in
          settled_spared o (twins_by base.apart (layout_of s).parts) (layout_of s) (layout_of t)
          (layout_of u) (plan_of o (layout_of t) scanned) edit name edited.layout there.there
          (subst (λ (x : Bool).
          kept_from x o (plan_of o (layout_of t) scanned) edit ≡ None) (placed refl) free)
          (settled_there o (layout_of t) scanned name b.part own b.named stored updated found)

  -- the tables

  module _ (table : slot_table g o image ≡ Ok u) where
    source_read : table_at tail.super_end g k image ≡ Ok s
    source_read =
        let two = two_tables tail.super_end g k o old (s ∷ t ∷ []) reads.tables in
        let are : s ∷ t ∷ [] ≡ two.source ∷ two.target ∷ [] = two.are in
        let same : s ≡ two.source = cc in
        table_same tail.super_end g k old image
        (other_table g k o n old image rules.two below (other_below k)
        (other_not k below) fits others)
        ∙ two.source_read ∙ ap Ok (sym same)

    target_read : table_at tail.super_end g o image ≡ Ok u
    unfolding table_at
    target_read =
        ap (table_read tail.super_end g o) table
        ∙ ap (λ (b : Bool). unless b (BadTable o) (Ok u)) lies

    tables : tables_in tail.super_end g (k ∷ o ∷ []) image ≡ Ok (s ∷ u ∷ [])
    tables = (λ i.
        source_read i >>= λ a.
        (target_read i >>= λ b. Ok (b ∷ [])) >>= λ bs.
        Ok (a ∷ bs))

    -- the stores

    device_same : (layout_of u).device ≡ (layout_of t).device
    device_same = device_of_layout t u edited.device

    stores : scans_in (stores_of (read_at base k statuses seen tail g s u scanned)) image
        ≡ Ok scanned
    stores =
        ap (λ ws. scans_in ws image)
        (wanted_still base.apart o (layout_of t) (layout_of u) (written_in statuses) old scanned
        device_same leaves reads.stores)
        ∙ stores_kept (stores_of r) old image scanned
        (λ a there. behind a (stores_behind size (end_of g o) r old a reads within there))
        reads.stores
        ∙ reads.stores

    -- The disk is read as before, but for the target's table.
    pub reads_edited : Reads size (read_at base k statuses seen tail g s u scanned) image
    reads_edited = record {
      enough = reads.enough;
      mark = mark_same old image (before 2048 (omega arith)) ∙ reads.mark;
      statuses =
          statuses_kept true old image version (λ read a is. before a (omega (arith, is.below)))
          ∙ reads.statuses;
      control = control_same _ _ old image (before 4 (omega arith)) ∙ reads.control;
      tail =
          tail_kept base.physical size old image (λ some. before 2113 (omega arith)) ∙ reads.tail;
      geometry =
          geometry_same tail.super_end old image (before 4104 (omega arith))
          (before 4112 (omega arith))
          ∙ reads.geometry;
      tables = tables;
      parts = parts;
      stores = stores;
      state = reads.state;
    }

  -- ---- what it means

  images_a : images_on image (kept r).a ≡ images_on old (kept r).a
  images_a =
      images_same old image (kept r).a
      (λ a is. behind a (images_behind size (end_of g o) 0 _ _ r old a reads within is))

  images_b : images_on image (kept r).b ≡ images_on old (kept r).b
  images_b =
      images_same old image (kept r).b
      (λ a is. behind a (images_behind size (end_of g o) 1 _ _ r old a reads within is))

  now_updated : (q : Part)
      → Contains (own_parts o (layout_of u).parts) q
      → is_some (scanned_named q.name scanned) ≡ true
      → is_updated q ≡ true
  now_updated q c found =
      image_updated base.apart o (layout_of s).parts (layout_of u) q edited.target c
      (has_still base.apart o (layout_of t) (layout_of u) q.name (leaves q.name found)
      (has_image q.name found)).both

  pub carried_plan : map (carried (plan_of o (layout_of t) scanned)) (plan_of o (layout_of u) [])
      ≡ plan_of o (layout_of u) scanned
  carried_plan =
      plan_carried base.apart o (layout_of t) (layout_of u) scanned image
      (device_of_layout t u edited.device)
      leaves has_image was_updated now_updated (layout_keeps u edited.rules).part_names

  old_entries : map (entry_on image) (plan_of o (layout_of t) scanned)
      ≡ map (entry_on old) (plan_of o (layout_of t) scanned)
  old_entries =
      let same = plan_kept (Some (plan_of o (layout_of t) scanned)) old image
      (λ a is. behind a (plan_behind size (end_of g o) r old a reads within is)) in
      cc

  entries : map (entry_on image) (plan_of o (layout_of u) scanned)
      ≡ plan_by o (layout_of u) (map (entry_on old) (plan_of o (layout_of t) scanned))
  entries =
      plan_means base.apart o (layout_of t) (layout_of u) scanned image
      (device_of_layout t u edited.device)
      leaves has_image was_updated now_updated (layout_keeps u edited.rules).part_names
      ∙ ap (plan_by o (layout_of u)) old_entries

  pub mounted_edited : (c : Control)
      → mounted_on (device_at base k statuses seen tail g s u scanned c) image
      ≡ installing_with (mounted_on (device_at base k statuses seen tail g s t scanned c) old) k
      (plan_at base.apart old (plan_of o (layout_of t) scanned))
      (layout_of u)
  mounted_edited c =
      mounted_next base k statuses seen tail g s t u scanned c old image below images_a images_b
      entries

  -- The disk means the device with the new table, where the boot control is whole.
  pub device_edited : (c : Control)
      → control_of (old 4) ≡ Ok c
      → slot_table g o image ≡ Ok u
      → device size image
      ≡ Ok (mounted_on (device_at base k statuses seen tail g s u scanned c) image)
  device_edited c control table =
      device_reads size (read_at base k statuses seen tail g s u scanned) c image
      (reads_edited table) (ap control_of (before 4 (omega arith)) ∙ control)

  -- And where both copies are written it is the device's.
  pub represents_edited : (c : Control) (text : List ℕ)
      → control_of (old 4) ≡ Ok c
      → AgreeCopies g (k ∷ o ∷ []) (s ∷ t ∷ []) old
      → IsTableText g.max text u
      → BothHold g o text image
      → Represents (device_at base k statuses seen tail g s u scanned c) size image
  represents_edited c text control copies is held = record {
    read = read_at base k statuses seen tail g s u scanned;
    reads = reads_edited (both_table g o text u image held is);
    is = refl;
    control = ap control_of (before 4 (omega arith)) ∙ control;
    copies = (
      (
        copies.0.0,
        copies.0.1,
        both_kept g k o n old image rules.two below (other_below k) (other_not k below) fits others
            copies.0.0 copies.0.2,
      ),
      ((text, is, held), tt),
    );
    version = version ∙ two;
  }

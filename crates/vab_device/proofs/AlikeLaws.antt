-- Tables of a slot that are the same without stores: what a device is read of stays.
use Rattle.std.proofs.Common.{◌≡◌, ◌∙◌, inl, inr, ℕ, zero, suc, ◌+◌, ◌≤◌, ◌<◌, true, List, [], ◌∷◌}
use Rattle.std.proofs.Common.{Ok, sym, ap, refl, arith}
use Rattle.std.specs.Prelude.{Some, None, map}
use Rattle.vab_disk.specs.Disk.{Image}
use Rattle.vab_names.specs.Names.{base_of}
use Rattle.vab_bootctl.specs.declared.slots.Control.{Control}
use Rattle.vab_bootctl.specs.Control.{control_of}
use Rattle.vab_marks.specs.declared.mark.MarkPhase.TheVariants as marks
use Rattle.vab_marks.specs.declared.mark.UpdateMark.{UpdateMark}
use Rattle.vab_marks.specs.Mark.{rephased, resloted}
use Rattle.vab_geometry.specs.declared.geometry.Geometry.{Geometry}
use Rattle.vab_geometry.specs.Geometry.{IsGeometry}
use Rattle.vab_tables.specs.declared.entries.Group.{Group}
use Rattle.vab_tables.specs.declared.table.Table.{Table}
use Rattle.vab_physical.specs.declared.tail.Tail.{Tail}
use Rattle.vab_tables.specs.Rules.{cap_of}
use Rattle.vab_lpstore.specs.Layout.{copy_sectors, primary_of, backup_of}
use Rattle.vab_lpstore.specs.Loading.{slot_table}
use Rattle.vab_lpstore.specs.Storing.{SameElsewhere}
use Rattle.vab_lpstore.proofs.StoreLaws.{copies_apart}
use Rattle.vab_layout.specs.declared.layout.Layout.{Layout}
use Rattle.vab_layout.specs.Layout.{layout_of}
use Rattle.vab_layout.specs.Slots.{own_parts}
use Rattle.vab_layout.specs.Plain.{plain, default_group, own_groups}
use Rattle.vab_partitions.specs.Rules.{bad_part}
use Rattle.vab_builder.proofs.ImportLaws.{plain_parts}
use Rattle.vab_builder.proofs.TableLaws.{layout_groups, plain_device}
use Rattle.vab_device.specs.declared.device.Device.{Device}
use Rattle.vab_device.specs.Checks.{names_none}
use Rattle.vab_device.specs.Kept.{lies_in, part_on, parts_of, limits_of}
use Rattle.vab_device.specs.Mounted.{images_on, mounted_on, state_on}
use Rattle.vab_device.specs.Phases.{own_check}
use Rattle.vab_device.specs.Reading.{Read, kept, device, Reads, table_at, version_at, most_at}
use Rattle.vab_device.proofs.Behind.{images_behind}
use Rattle.vab_device.proofs.CheckLaws.{first_kept}
use Rattle.vab_device.proofs.IdleLaws.{reads_idle}
use Rattle.vab_device.proofs.OpeningLaws.{control_seen_in}
use Rattle.vab_device.proofs.PlaceLaws.{table_is}
use Rattle.vab_device.proofs.ReadingLaws.{device_of, single_works}
use Rattle.vab_device.proofs.RepairLaws.{end_of, ends_within}
use Rattle.vab_device.proofs.MostLaws.{parts_under}
use Rattle.vab_device.proofs.SameLaws.{mark_same, tail_kept, geometry_same, images_same}
use Rattle.vab_device.proofs.SameLaws.{version_same}
use Rattle.vab_device.proofs.StandsLaws.{StandsIdle, read_at}

-- ---- the tables

plain_groups : (slot : ℕ) (l : Layout)
    → (plain slot l).groups ≡ default_group ∷ own_groups slot l.groups
unfolding plain
plain_groups slot l = refl

module _ (slot : ℕ) (t u : Table) (is : plain slot (layout_of u) ≡ plain slot (layout_of t)) where
  pub device_is : (layout_of u).device ≡ (layout_of t).device
  device_is =
      sym (plain_device slot (layout_of u))
      ∙ ap (λ (l : Layout). l.device) is
      ∙ plain_device slot (layout_of t)

  pub own_is : own_parts slot (layout_of u).parts ≡ own_parts slot (layout_of t).parts
  own_is =
      sym (plain_parts slot (layout_of u))
      ∙ ap (λ (l : Layout). l.parts) is
      ∙ plain_parts slot (layout_of t)

  pub parts_are : parts_of slot (layout_of u) ≡ parts_of slot (layout_of t)
  parts_are = (λ i. map (part_on (device_is i).first_logical_sector) (own_is i))

  pub cap_is : cap_of (layout_of u).device ≡ cap_of (layout_of t).device
  cap_is = ap cap_of device_is

  groups_are : own_groups slot u.groups ≡ own_groups slot t.groups
  groups_are =
      let both : default_group ∷ own_groups slot u.groups
      ≡ default_group ∷ own_groups slot t.groups =
      ap (λ (gs : List Group). default_group ∷ own_groups slot gs) (sym (layout_groups u))
      ∙ sym (plain_groups slot (layout_of u))
      ∙ ap (λ (l : Layout). l.groups) is
      ∙ plain_groups slot (layout_of t)
      ∙ ap (λ (gs : List Group). default_group ∷ own_groups slot gs) (layout_groups t) in
      cc

  pub limits_are : limits_of slot u.groups ≡ limits_of slot t.groups
  limits_are =
      (λ i. map (λ g. record { name = base_of g.name; limit = g.maximum_size }) (groups_are i))

-- ---- the disk

-- the images and the places are the same
mounted_alike : (m : UpdateMark) (slot : ℕ) (seen : Control) (tail : Tail) (g : Geometry)
    (t u : Table)
    (old image : Image)
    → slot < 2
    → plain slot (layout_of u) ≡ plain slot (layout_of t)
    → images_on image (kept (read_at (resloted slot m) seen tail g t)).a
    ≡ images_on old (kept (read_at (resloted slot m) seen tail g t)).a
    → images_on image (kept (read_at (resloted slot m) seen tail g t)).b
    ≡ images_on old (kept (read_at (resloted slot m) seen tail g t)).b
    → mounted_on (kept (read_at (resloted slot m) seen tail g u)) image
    ≡ mounted_on (kept (read_at (resloted slot m) seen tail g t)) old
unfolding state_on
mounted_alike m zero seen tail g t u old image below is a b =
    let blocks : images_on image (Some (parts_of 0 (layout_of u)))
    ≡ images_on old (Some (parts_of 0 (layout_of t))) =
    ap (λ ps. images_on image (Some ps)) (parts_are 0 t u is) ∙ a in
    (λ i. record (mounted_on (kept (read_at (resloted 0 m) seen tail g u)) image) {
      state = record (state_on (kept (read_at (resloted 0 m) seen tail g u)) image) {
        cap = cap_is 0 t u is i;
        groups = limits_are 0 t u is i;
        a = blocks i;
      };
      places = record (mounted_on (kept (read_at (resloted 0 m) seen tail g u)) image).places {
        a = Some (is i);
      };
    })
mounted_alike m (suc zero) seen tail g t u old image below is a b =
    let blocks : images_on image (Some (parts_of 1 (layout_of u)))
    ≡ images_on old (Some (parts_of 1 (layout_of t))) =
    ap (λ ps. images_on image (Some ps)) (parts_are 1 t u is) ∙ b in
    (λ i. record (mounted_on (kept (read_at (resloted 1 m) seen tail g u)) image) {
      state = record (state_on (kept (read_at (resloted 1 m) seen tail g u)) image) {
        cap = cap_is 1 t u is i;
        groups = limits_are 1 t u is i;
        b = blocks i;
      };
      places = record (mounted_on (kept (read_at (resloted 1 m) seen tail g u)) image).places {
        b = Some (is i);
      };
    })
mounted_alike m (suc (suc n)) seen tail g t u old image below is a b = absurd (omega (arith, below))

module _
    (d : Device) (size n : ℕ) (old image : Image) (t u : Table)
    (st : StandsIdle d size old t)
    (below : d.mark.slot < 2)
    (geometry : IsGeometry d.geometry)
    (lies : lies_in d.tail.super_end d.geometry (layout_of t).device ≡ true)
    (is : plain d.mark.slot (layout_of u) ≡ plain d.mark.slot (layout_of t))
    (fits : n ≤ copy_sectors d.geometry)
    (others : SameElsewhere d.geometry d.mark.slot n old image) where
  abbrev k : ℕ
  k = d.mark.slot

  abbrev g : Geometry
  g = d.geometry

  abbrev r : Read
  r = read_at d.mark d.control d.tail d.geometry t

  before : (s : ℕ) → s < 4120 → image s ≡ old s
  unfolding primary_of backup_of
  before s lt = others s (inl (omega (arith, lt))) (inl (omega (arith, lt)))

  behind : (s : ℕ) → end_of g k ≤ s → image s ≡ old s
  behind s le =
      let apart : primary_of g k + copy_sectors g ≤ backup_of g k =
      copies_apart g k (omega (arith, geometry.two, below)) in
      others s (inr (omega (arith, le, apart, fits))) (inr (omega (arith, le, fits)))

  pub control_alike : control_of (image 4) ≡ Ok d.control
  control_alike = ap control_of (before 4 (omega arith)) ∙ st.control

  pub version_alike : version_at image ≡ version_at old
  version_alike = version_same old image (before 2048 (omega arith))

  -- the slot's own partitions are the same
  rules : own_check (most_at image) k u ≡ None
  rules =
      ap (λ ps. names_none (bad_part (most_at image) k [] ps)) (own_is k t u is)
      ∙ (first_kept (own_check (most_at image) k t) []
      (parts_under r old image version_alike st.reads.parts)).0

  module _ (there : slot_table d.geometry d.mark.slot image ≡ Ok u) where
    table : table_at d.tail.super_end g k image ≡ Ok u
    table =
        table_is d.tail.super_end g k image u there
        (ap (lies_in d.tail.super_end g) (device_is k t u is) ∙ lies)

    pub reads_alike : Reads size (read_at d.mark d.control d.tail d.geometry u) image
    reads_alike =
        reads_idle size image (rephased marks.Idle d.mark) st.reads.enough
        (mark_same old image (before 2048 (omega arith)) ∙ st.reads.mark)
        refl d.control d.tail g u refl
        (control_seen_in _ _ image d.control control_alike)
        (tail_kept d.mark.physical size old image (λ some. before 2113 (omega arith))
        ∙ st.reads.tail)
        (geometry_same d.tail.super_end old image (before 4104 (omega arith))
        (before 4112 (omega arith))
        ∙ st.reads.geometry)
        table rules (single_works r refl st.reads.state)

    pub means_alike : device size image ≡ device size old
    means_alike =
        let within = ends_within g k geometry below in
        device_of size (read_at d.mark d.control d.tail g u) image reads_alike
        ∙ ap Ok
        (mounted_alike d.mark k d.control d.tail g t u old image below is
        (images_same old image (kept r).a
        (λ s of. behind s (images_behind size (end_of g k) 0 _ _ r old s st.reads within of)))
        (images_same old image (kept r).b
        (λ s of. behind s (images_behind size (end_of g k) 1 _ _ r old s st.reads within of))))
        ∙ sym (device_of size r old st.reads)

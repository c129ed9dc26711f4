-- The table that is left of the image in place of the slot's: what a disk means then.
use Rattle.std.proofs.Common.{◌≡◌, ◌∙◌, inl, inr, ℕ, zero, suc, ◌<◌}
use Rattle.std.proofs.Common.{true, false, List, [], ◌∷◌, Ok, refl, sym, ap, arith}
use Rattle.std.specs.Prelude.{Some, None, map}
use Rattle.std.proofs.lemmas.Bool.{cases_Bool}
use Rattle.vab_disk.specs.Disk.{Image}
use Rattle.vab_bootctl.specs.declared.slots.Control.{Control}
use Rattle.vab_bootctl.specs.Control.{control_of}
use Rattle.vab_names.specs.Names.{is_of_slot, base_of, most_partitions}
use Rattle.vab_marks.specs.declared.mark.MarkPhase.TheVariants as marks
use Rattle.vab_marks.specs.declared.mark.UpdateMark.{UpdateMark}
use Rattle.vab_marks.specs.Mark.{rephased, resloted}
use Rattle.vab_marks.specs.Version.{partitions_under}
use Rattle.vab_geometry.specs.declared.geometry.Geometry.{Geometry}
use Rattle.vab_tables.specs.declared.table.Table.{Table}
use Rattle.vab_tables.specs.Rules.{cap_of}
use Rattle.vab_tables.specs.Text.{IsTableText}
use Rattle.vab_lpstore.specs.Layout.{primary_of, backup_of, BothHold}
use Rattle.vab_lpstore.specs.Loading.{slot_table}
use Rattle.vab_lpstore.specs.Storing.{SameElsewhere}
use Rattle.vab_lpstore.proofs.StoreLaws.{both_table}
use Rattle.vab_layout.specs.declared.layout.Part.{Part as PartOfLayout}
use Rattle.vab_layout.specs.declared.layout.Layout.{Layout}
use Rattle.vab_layout.specs.Layout.{layout_of}
use Rattle.vab_layout.specs.Plain.{plain}
use Rattle.vab_layout.specs.Slots.{own_parts, IsOwn}
use Rattle.vab_partitions.proofs.OwnRules.{none_bad}
use Rattle.vab_super_image.specs.declared.image.SuperImage.{SuperImage}
use Rattle.vab_super_image.specs.SuperImage.{emptied_part, wiped_layout}
use Rattle.vab_physical.specs.declared.tail.Tail.{Tail}
use Rattle.vab_model.specs.Groups.{group_of}
use Rattle.vab_model.specs.Wipe.{empty_image, empty_images}
use Rattle.vab_model.proofs.SeenLaws.{seen_again}
use Rattle.vab_device.specs.declared.device.Device.{Device}
use Rattle.vab_device.specs.Checks.{names_none}
use Rattle.vab_device.specs.Kept.{lies_in, sectors_of, part_on, parts_of, limits_of}
use Rattle.vab_device.specs.Mounted.{bytes_at, image_on, mounted_on, state_on}
use Rattle.vab_device.specs.Phases.{own_check}
use Rattle.vab_device.specs.Reading.{kept, device, Reads, Represents, table_at, version_at}
use Rattle.vab_device.specs.Reading.{most_at}
use Rattle.vab_device.specs.Updates.{wiped}
use Rattle.vab_device.proofs.IdleLaws.{reads_idle}
use Rattle.vab_device.proofs.OpeningLaws.{control_seen_in}
use Rattle.vab_device.proofs.ReadingLaws.{device_of, single_works}
use Rattle.vab_device.proofs.SameLaws.{mark_same, tail_kept, geometry_same, version_same}
use Rattle.vab_device.proofs.UpdateLaws.{kept_with}
use Rattle.vab_device.proofs.PlaceLaws.{table_is}
use Rattle.vab_device.proofs.StandsLaws.{StandsIdle, read_at}
use Rattle.vab_wipe.specs.Kept.{with_wiped}
use Rattle.vab_wipe.proofs.KeptLaws.{control_stays}

-- ---- images without blocks

no_bytes : (image : Image) (first : ℕ) → bytes_at image (sectors_of first []) ≡ []
unfolding bytes_at sectors_of
no_bytes image first = refl

one_empty : (image : Image) (first : ℕ) (p : PartOfLayout)
    → image_on image (part_on first (emptied_part p)) ≡ empty_image p
one_empty image first p =
    (λ k. record {
      name = base_of p.name;
      group = group_of p.group;
      bytes = no_bytes image first k;
    })

all_empty : (image : Image) (first slot : ℕ) (ps : List PartOfLayout)
    → map (image_on image) (map (part_on first) (own_parts slot (map emptied_part ps)))
    ≡ map empty_image (own_parts slot ps)
all_empty image first slot [] = refl
all_empty image first slot (p ∷ ps) = elim (cases_Bool (is_of_slot slot p.name)) [
  | inl own ↦
      rw own (λ k. one_empty image first p k ∷ all_empty image first slot ps k)
  | inr not ↦ rw not (all_empty image first slot ps)
]

-- the images of a table without blocks are empty
images_empty : (image : Image) (slot : ℕ) (t u : Table)
    → layout_of u ≡ wiped_layout (layout_of t)
    → map (image_on image) (parts_of slot (layout_of u)) ≡ empty_images slot t
images_empty image slot t u is =
    ap (λ (l : Layout). map (image_on image) (parts_of slot l)) is
    ∙ all_empty image (layout_of t).device.first_logical_sector slot (layout_of t).parts

-- ---- what is kept

kept_wiped : (m : UpdateMark) (slot : ℕ) (seen c : Control) (tail : Tail) (g : Geometry)
    (t u : Table)
    → slot < 2
    → (layout_of u).device ≡ (layout_of t).device
    → with_wiped (kept_with (read_at (resloted slot m) seen tail g t) c) u
    ≡ kept_with (read_at (resloted slot m) seen tail g u) c
kept_wiped m zero seen c tail g t u below same =
    (λ k. record (kept_with (read_at (resloted 0 m) seen tail g u) c) {
      cap = cap_of (sym same k);
    })
kept_wiped m (suc zero) seen c tail g t u below same =
    (λ k. record (kept_with (read_at (resloted 1 m) seen tail g u) c) {
      cap = cap_of (sym same k);
    })
kept_wiped m (suc (suc n)) seen c tail g t u below same = absurd (omega (arith, below))

-- ---- what it means

mounted_wiped : (m : UpdateMark) (slot : ℕ) (c : Control) (tail : Tail) (g : Geometry)
    (t u : Table) (i : SuperImage) (old image : Image)
    → slot < 2
    → layout_of u ≡ wiped_layout (layout_of i.table)
    → u.groups ≡ i.table.groups
    → (layout_of u).device ≡ (layout_of t).device
    → mounted_on (kept (read_at (resloted slot m) c tail g u)) image
    ≡ wiped (mounted_on (kept_with (read_at (resloted slot m) c tail g t) c) old) slot i
unfolding state_on
mounted_wiped m zero c tail g t u i old image below is groups same =
    let images = images_empty image 0 i.table u is in
    (λ k. record {
      state = record (state_on (kept (read_at (resloted 0 m) c tail g u)) image) {
        cap = cap_of (same k);
        groups = limits_of 0 (groups k);
        control = seen_again true false c k;
        a = Some (images k);
      };
      places = record (mounted_on (kept (read_at (resloted 0 m) c tail g u)) image).places {
        a = Some (plain 0 (is k));
      };
    })
mounted_wiped m (suc zero) c tail g t u i old image below is groups same =
    let images = images_empty image 1 i.table u is in
    (λ k. record {
      state = record (state_on (kept (read_at (resloted 1 m) c tail g u)) image) {
        cap = cap_of (same k);
        groups = limits_of 1 (groups k);
        control = seen_again false true c k;
        b = Some (images k);
      };
      places = record (mounted_on (kept (read_at (resloted 1 m) c tail g u)) image).places {
        b = Some (plain 1 (is k));
      };
    })
mounted_wiped m (suc (suc n)) c tail g t u i old image below is groups same =
    absurd (omega (arith, below))

-- ---- the disk

module _
    (d : Device) (size n : ℕ) (old image : Image) (t u : Table) (i : SuperImage)
    (st : StandsIdle d size old t)
    (below : d.mark.slot < 2)
    (lies : lies_in d.tail.super_end d.geometry (layout_of u).device ≡ true)
    (own : IsOwn d.mark.slot (layout_of u).parts)
    (is : layout_of u ≡ wiped_layout (layout_of i.table))
    (groups : u.groups ≡ i.table.groups)
    (same : (layout_of u).device ≡ (layout_of t).device)
    (others : SameElsewhere d.geometry d.mark.slot n old image) where
  abbrev k : ℕ
  k = d.mark.slot

  abbrev g : Geometry
  g = d.geometry

  before : (s : ℕ) → s < 4120 → image s ≡ old s
  unfolding primary_of backup_of
  before s lt = others s (inl (omega (arith, lt))) (inl (omega (arith, lt)))

  control : control_of (image 4) ≡ Ok d.control
  control = ap control_of (before 4 (omega arith)) ∙ st.control

  version : version_at image ≡ version_at old
  version = version_same old image (before 2048 (omega arith))

  -- the slot's own partitions keep their rules
  rules : own_check (most_at image) d.mark.slot u ≡ None
  rules =
      ap (λ v. own_check (partitions_under v) d.mark.slot u) (version ∙ st.version)
      ∙ ap names_none (none_bad most_partitions d.mark.slot (layout_of u).parts own own.few)

  module _ (there : slot_table d.geometry d.mark.slot image ≡ Ok u) where
    table : table_at d.tail.super_end d.geometry d.mark.slot image ≡ Ok u
    table = table_is d.tail.super_end d.geometry d.mark.slot image u there lies

    pub reads_wiped : Reads size (read_at d.mark d.control d.tail d.geometry u) image
    reads_wiped =
        reads_idle size image (rephased marks.Idle d.mark) st.reads.enough
        (mark_same old image (before 2048 (omega arith)) ∙ st.reads.mark)
        refl d.control d.tail d.geometry u refl
        (control_seen_in _ _ image d.control control)
        (tail_kept d.mark.physical size old image (λ some. before 2113 (omega arith))
        ∙ st.reads.tail)
        (geometry_same d.tail.super_end old image (before 4104 (omega arith))
        (before 4112 (omega arith))
        ∙ st.reads.geometry)
        table rules
        (single_works (read_at d.mark d.control d.tail d.geometry t) refl st.reads.state)

    -- it means the device without images
    pub means_wiped : device size image ≡ Ok (wiped (mounted_on d old) d.mark.slot i)
    means_wiped =
        device_of size (read_at d.mark d.control d.tail d.geometry u) image reads_wiped
        ∙ ap Ok
        (mounted_wiped d.mark d.mark.slot d.control d.tail d.geometry t u i old image below is
        groups same)
        ∙ ap (λ (x : Device). Ok (wiped (mounted_on x old) d.mark.slot i)) (sym st.is)

  -- where both copies hold the text, the kept device is that of the disk
  pub represents_wiped : (text : List ℕ)
      → IsTableText d.geometry.max text u
      → BothHold d.geometry d.mark.slot text image
      → Represents (with_wiped d u) size image
  represents_wiped text of_text held = record {
    read = read_at d.mark d.control d.tail d.geometry u;
    reads = reads_wiped (both_table d.geometry d.mark.slot text u image held of_text);
    is =
        ap (λ (x : Device). with_wiped x u) st.is
        ∙ kept_wiped d.mark d.mark.slot d.control d.control d.tail d.geometry t u below same
        ∙ ap (kept_with (read_at d.mark d.control d.tail d.geometry u)) (sym (control_stays d u));
    control = control ∙ ap Ok (sym (control_stays d u));
    copies = ((text, of_text, held), tt);
    version = version ∙ st.version;
  }

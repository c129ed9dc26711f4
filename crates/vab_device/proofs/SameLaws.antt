-- What is read the same: where live sectors stay, where copies of tables are written, and where
-- boot
-- control is.
use Rattle.std.proofs.Common.{◌≡◌, ◌∙◌, inl, inr, ⊎_elim, ℕ, ◌+◌, ◌≤◌}
use Rattle.std.proofs.Common.{List, [], ◌∷◌, Ok, refl, ap}
use Rattle.std.proofs.Common.{arith}
use Rattle.std.specs.Prelude.{Bool, true, false, Option, Some, None, map}
use Rattle.vab_disk.specs.Disk.{Image}
use Rattle.vab_disk.specs.Calls.{InSectors}
use Rattle.vab_gate.proofs.Blocks.{sectors_same}
use Rattle.vab_bootctl.specs.Control.{control_of}
use Rattle.vab_marks.specs.Mark.{mark_of}
use Rattle.vab_marks.specs.Physical.{physical_of}
use Rattle.vab_geometry.specs.declared.geometry.Geometry.{Geometry}
use Rattle.vab_geometry.specs.Reading.{geometry_of}
use Rattle.vab_geometry.specs.Loading.{geometry_in, first_of}
use Rattle.vab_lpstore.specs.Layout.{copy_sectors, primary_of, backup_of, primary_bytes}
use Rattle.vab_lpstore.specs.Layout.{backup_bytes}
use Rattle.vab_lpstore.specs.Loading.{slot_table}
use Rattle.vab_lpstore.specs.Loading as loading
use Rattle.vab_tables.specs.Reading.{table_of}
use Rattle.vab_physical.specs.Tail.{tail_read}
use Rattle.vab_device.specs.declared.device.Part.{Part}
use Rattle.vab_device.specs.Checks.{◌>>=◌}
use Rattle.vab_device.specs.Mounted.{bytes_at, sectors_read, image_on, images_on}
use Rattle.vab_device.specs.Phases.{phase_at}
use Rattle.vab_device.specs.Reading.{Read, mark_read, mark_in, version_at, most_at, control_read}
use Rattle.vab_device.specs.Reading.{control_in}
use Rattle.vab_marks.specs.Version.{version_in, partitions_under}
use Rattle.vab_device.specs.Reading.{geometry_read, geometry_at, table_read, table_at, tables_in}
use Rattle.vab_device.specs.Reading.{kept, Reads, SameRead, Dead, tail_there, tail_at}
use Rattle.vab_device.specs.Reading.{stores_of, IsOfTables, IsOfParts, IsOfImages}
use Rattle.vab_device.specs.Reading.{Live, Agrees, Misses}
use Rattle.vab_device.proofs.BlockLaws.{bytes_same}
use Rattle.vab_device.proofs.StoreLaws.{statuses_kept, stores_kept, plan_kept, overlay_kept}

-- ---- single parts

pub mark_same : (old new : Image) → new 2048 ≡ old 2048 → mark_in new ≡ mark_in old
unfolding mark_in
mark_same old new same = ap (λ b. mark_read (mark_of b)) same

pub version_same : (old new : Image) → new 2048 ≡ old 2048 → version_at new ≡ version_at old
version_same old new same = ap version_in same

-- so as many partitions may be there, or more
pub most_same : (old new : Image) → new 2048 ≡ old 2048 → most_at old ≤ most_at new
most_same old new same =
    omega (arith, ap partitions_under (version_same old new same))

pub control_same : (a b : Bool) (old new : Image)
    → new 4 ≡ old 4
    → control_in a b new ≡ control_in a b old
unfolding control_in
control_same a b old new same = ap (λ x. control_read a b (control_of x)) same

-- where the mark says that there are none, sector 2113 isn't read
pub tail_kept : (physical : Bool) (size : ℕ) (old new : Image)
    → (physical ≡ true → new 2113 ≡ old 2113)
    → tail_at physical size new ≡ tail_at physical size old
unfolding tail_at
tail_kept false size old new same = refl
tail_kept true size old new same =
    ap (λ b. tail_there (tail_read size (physical_of b))) (same refl)

pub geometry_same : (super_end : ℕ) (old new : Image)
    → new 4104 ≡ old 4104
    → new 4112 ≡ old 4112
    → geometry_at super_end new ≡ geometry_at super_end old
unfolding geometry_at geometry_in
geometry_same super_end old new first second =
    ap (λ b. geometry_read super_end (first_of (geometry_of b) (geometry_of (new 4112)))) first
    ∙ ap (λ b. geometry_read super_end (first_of (geometry_of (old 4104)) (geometry_of b))) second

slot_table_same : (g : Geometry) (slot : ℕ) (old new : Image)
    → primary_bytes g slot new ≡ primary_bytes g slot old
    → backup_bytes g slot new ≡ backup_bytes g slot old
    → slot_table g slot new ≡ slot_table g slot old
unfolding slot_table
slot_table_same g slot old new primary backup =
    (λ i. loading.first_of (table_of g.max (primary i)) (table_of g.max (backup i)))

pub table_same : (size : ℕ) (g : Geometry) (slot : ℕ) (old new : Image)
    → slot_table g slot new ≡ slot_table g slot old
    → table_at size g slot new ≡ table_at size g slot old
unfolding table_at
table_same size g slot old new same = ap (table_read size g slot) same

-- ---- the images

parts_same : (old new : Image) (parts : List Part)
    → ((s : ℕ) → IsOfParts parts s → new s ≡ old s)
    → map (image_on new) parts ≡ map (image_on old) parts
parts_same old new [] same = refl
parts_same old new (p ∷ ps) same =
    let bytes : bytes_at new (sectors_read p) ≡ bytes_at old (sectors_read p) =
    bytes_same old new (sectors_read p) (λ s is. same s (inl is)) in
    let here : image_on new p ≡ image_on old p = rw bytes refl in
    let rest = parts_same old new ps (λ s is. same s (inr is)) in
    (λ i. here i ∷ rest i)

pub images_same : (old new : Image) (parts : Option (List Part))
    → ((s : ℕ) → IsOfImages parts s → new s ≡ old s)
    → images_on new parts ≡ images_on old parts
images_same old new None same = refl
images_same old new (Some parts) same = ap Some (parts_same old new parts same)

-- ---- live sectors

pub tables_agree : (size : ℕ) (g : Geometry) (slots : List ℕ) (old new : Image)
    → ((s : ℕ) → IsOfTables g slots s → new s ≡ old s)
    → tables_in size g slots new ≡ tables_in size g slots old
tables_agree size g [] old new same = refl
tables_agree size g (slot ∷ slots) old new same =
    let n = copy_sectors g in
    let primary : primary_bytes g slot new ≡ primary_bytes g slot old =
    sectors_same n (primary_of g slot) old new
    (λ k below. same (primary_of g slot + k) (inl (record {
      from = omega arith;
      below = omega (arith, below);
    }))) in
    let backup : backup_bytes g slot new ≡ backup_bytes g slot old =
    sectors_same n (backup_of g slot) old new
    (λ k below. same (backup_of g slot + k) (inr (inl (record {
      from = omega arith;
      below = omega (arith, below);
    })))) in
    let here = table_same size g slot old new (slot_table_same g slot old new primary backup) in
    let rest = tables_agree size g slots old new (λ s is. same s (inr (inr is))) in
    (λ i. here i >>= λ t. rest i >>= λ ts. Ok (t ∷ ts))

-- The first law of live sectors: where they stay, all is read the same.
pub agrees_same : (size : ℕ) (r : Read) (old new : Image)
    → Reads size r old
    → Agrees r old new
    → SameRead size r old new
agrees_same size r old new reads agrees = record {
  most = most_same old new (agrees 2048 (Live.of_mark refl));
  mark = mark_same old new (agrees 2048 (Live.of_mark refl));
  statuses = statuses_kept (phase_at r.mark).reads_statuses old new
      (version_same old new (agrees 2048 (Live.of_mark refl)))
      (λ read s is. agrees s (Live.of_statuses read is));
  control = control_same _ _ old new (agrees 4 (Live.of_control refl));
  tail = tail_kept r.mark.physical size old new
      (λ some. agrees 2113 (Live.of_sizes some refl));
  geometry = geometry_same r.tail.super_end old new
      (agrees 4104 (Live.of_geometry (inl refl)))
      (agrees 4112 (Live.of_geometry (inr refl)));
  tables = tables_agree r.tail.super_end r.geometry (phase_at r.mark).tables old new
      (λ s is. agrees s (Live.of_tables is));
  stores = stores_kept (stores_of r) old new r.scanned (λ s is. agrees s (Live.of_stores is))
      reads.stores;
  images_a = images_same old new (kept r).a (λ s is. agrees s (Live.of_images_a is));
  images_b = images_same old new (kept r).b (λ s is. agrees s (Live.of_images_b is));
  plan = plan_kept (kept r).plan old new (λ s is. agrees s (Live.of_plan is));
  overlay = overlay_kept (kept r).overlay old new (λ s is. agrees s (Live.of_overlay is));
}

-- The second: writes that miss them are dead.
pub dead_of : (size : ℕ) (r : Read) (old : Image) (W : ℕ → Type 0)
    → Reads size r old
    → Misses r W
    → Dead size r old (InSectors W)
dead_of size r old W reads misses new but =
    agrees_same size r old new reads
    (λ s live. ⊎_elim (λ same. same) (λ w. absurd (misses s live w)) (but s))

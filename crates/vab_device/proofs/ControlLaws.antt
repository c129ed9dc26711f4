-- Another boot control in its sector: all else is read as before.
use Rattle.std.proofs.Common.{◌≡◌, ◌≢◌, ◌∙◌, inl, inr, ℕ, ◌+◌, ◌≤◌, List, []}
use Rattle.std.proofs.Common.{◌∷◌, length, take, Ok, refl, ap, subst, arith}
use Rattle.std.specs.Prelude.{Bool, Option, None, is_some}
use Rattle.vab_disk.specs.Disk.{Image, set_sector}
use Rattle.vab_disk.specs.Written.{set_here, set_there}
use Rattle.vab_gate.proofs.Blocks.{sectors_same}
use Rattle.vab_bootctl.specs.declared.slots.Control.{Control}
use Rattle.vab_bootctl.specs.Control.{control_of}
use Rattle.vab_geometry.specs.declared.geometry.Geometry.{Geometry}
use Rattle.vab_lpstore.specs.Layout.{copy_sectors, primary_of, backup_of, primary_bytes}
use Rattle.vab_lpstore.specs.Layout.{backup_bytes}
use Rattle.vab_tables.specs.declared.table.Table.{Table}
use Rattle.vab_model.specs.State.{control_seen, with_control}
use Rattle.vab_device.specs.declared.device.Part.{Part}
use Rattle.vab_device.specs.declared.device.Device.{Device}
use Rattle.vab_device.specs.Mounted.{images_on, state_on, mounted_on, in_state, overlay_on}
use Rattle.vab_device.specs.Phases.{phase_at}
use Rattle.vab_device.specs.Reading.{Read, control_read, control_in, version_at, IsOfOverlay}
use Rattle.vab_device.specs.Reading.{state_fault, stores_of, Reads, AgreeCopies}
use Rattle.vab_device.specs.Reading.{Represents, IsOfTables, IsOfImages, IsOfPlan}
use Rattle.vab_device.specs.Mounted.{entries_on}
use Rattle.vab_device.proofs.MostLaws.{parts_under}
use Rattle.vab_device.proofs.SameLaws.{mark_same, tail_kept, geometry_same, tables_agree}
use Rattle.vab_device.proofs.SameLaws.{images_same, version_same}
use Rattle.vab_device.proofs.StoreLaws.{statuses_kept, stores_kept, plan_kept, overlay_kept}
use Rattle.vab_device.proofs.Behind.{images_behind, stores_behind, plan_behind, overlay_behind}

-- the copies of tables stand behind the geometries
tables_from : (g : Geometry) (slots : List ℕ) (s : ℕ) → IsOfTables g slots s → 4120 ≤ s
unfolding primary_of backup_of
tables_from g [] s is = absurd is
tables_from g (slot ∷ slots) s (inl is) = omega (arith, is.from)
tables_from g (slot ∷ slots) s (inr (inl is)) = omega (arith, is.from)
tables_from g (slot ∷ slots) s (inr (inr is)) = tables_from g slots s is

pub copies_kept : (g : Geometry) (slots : List ℕ) (ts : List Table) (old new : Image)
    → ((s : ℕ) → IsOfTables g slots s → new s ≡ old s)
    → AgreeCopies g slots ts old
    → AgreeCopies g slots ts new
copies_kept g [] ts old new same agree = tt
copies_kept g (slot ∷ slots) [] old new same agree = agree
copies_kept g (slot ∷ slots) (t ∷ ts) old new same agree =
    let n = copy_sectors g in
    let primary : primary_bytes g slot new ≡ primary_bytes g slot old =
    sectors_same n (primary_of g slot) old new
    (λ k below. same (primary_of g slot + k) (inl (record {
      from = omega arith;
      below = omega (arith, below);
    }))) in
    let backup : backup_bytes g slot new ≡ backup_bytes g slot old =
    sectors_same n (backup_of g slot) old new
    (λ k below. same (backup_of g slot + k) (inr (inl (record {
      from = omega arith;
      below = omega (arith, below);
    })))) in
    let text = agree.0.0 in (
      (
        text,
        agree.0.1,
        record {
          primary = ap (λ (l : List ℕ). take (length text) l) primary ∙ agree.0.2.primary;
          backup = ap (λ (l : List ℕ). take (length text) l) backup ∙ agree.0.2.backup;
        },
      ),
      copies_kept g slots ts old new (λ s is. same s (inr (inr is))) agree.1,
    )

-- what is read with another boot control
abbrev pub read_with : Read → Control → Read
read_with r c = record r {
  control = control_seen
      (phase_at r.mark).has_a (phase_at r.mark).has_b c;
}

abbrev pub with_boot : Control → Device → Device
with_boot c d = record d { control = c }

-- the rules of the slots hold with this boot control
abbrev pub KeepsState : Read → Control → Type 0
KeepsState r c = state_fault (read_with r c) ≡ None

module _
    (d : Device) (size : ℕ) (old : Image) (is : Represents d size old)
    (bytes : List ℕ) (c : Control)
    (decoded : control_of bytes ≡ Ok c) where
  abbrev pub gated : Image
  gated = set_sector old 4 bytes

  elsewhere : (s : ℕ) → s ≢ 4 → gated s ≡ old s
  elsewhere s other = set_there old 4 bytes s other

  of_tables : (s : ℕ)
      → IsOfTables is.read.geometry (phase_at is.read.mark).tables s
      → gated s ≡ old s
  of_tables s there =
      elsewhere s (λ e. omega (
        arith,
        e,
        tables_from is.read.geometry (phase_at is.read.mark).tables s
            there,
      ))

  of_images : (slot : ℕ) (parts : Option (List Part))
      → ((s : ℕ) → IsOfImages parts s → 4096 ≤ s)
      → images_on gated parts ≡ images_on old parts
  of_images slot parts behind =
      images_same old gated parts (λ s there. elsewhere s (λ e. omega (arith, e, behind s there)))

  control_there : (a b : Bool) → control_in a b gated ≡ Ok (control_seen a b c)
  unfolding control_in
  control_there a b =
      ap (λ x. control_read a b (control_of x)) (set_here old 4 bytes 4 refl)
      ∙ ap (control_read a b) decoded

  version_gated : version_at gated ≡ version_at old
  version_gated = version_same old gated (elsewhere 2048 (λ e. omega (arith, e)))

  reads_gated : KeepsState is.read c → Reads size (read_with is.read c) gated
  reads_gated state = record {
    enough = is.reads.enough;
    mark = mark_same old gated (elsewhere 2048 (λ e. omega (arith, e))) ∙ is.reads.mark;
    statuses =
        statuses_kept (phase_at is.read.mark).reads_statuses old gated version_gated
        (λ read s there. elsewhere s (λ e. omega (arith, e, there.from)))
        ∙ is.reads.statuses;
    control = control_there _ _;
    tail =
        tail_kept is.read.mark.physical size old gated
        (λ some. elsewhere 2113 (λ e. omega (arith, e)))
        ∙ is.reads.tail;
    geometry =
        geometry_same is.read.tail.super_end old gated
        (elsewhere 4104 (λ e. omega (arith, e)))
        (elsewhere 4112 (λ e. omega (arith, e)))
        ∙ is.reads.geometry;
    tables =
        tables_agree is.read.tail.super_end is.read.geometry (phase_at is.read.mark).tables
        old gated
        of_tables
        ∙ is.reads.tables;
    parts = parts_under is.read old gated version_gated is.reads.parts;
    stores =
        stores_kept (stores_of is.read) old gated is.read.scanned
        (λ s there.
        elsewhere s (λ e. omega (
          arith,
          e,
          stores_behind size 4096 is.read old s is.reads (omega arith) there,
        )))
        is.reads.stores
        ∙ is.reads.stores;
    state = state;
  }

  -- the device with this boot control is that of the disk with the sector
  pub represents_gated : KeepsState is.read c → Represents (with_boot c d) size gated
  represents_gated state = record {
    read = read_with is.read c;
    reads = reads_gated state;
    is = ap (with_boot c) is.is;
    control = ap control_of (set_here old 4 bytes 4 refl) ∙ decoded;
    copies = copies_kept is.read.geometry (phase_at is.read.mark).tables
        is.read.tables old gated of_tables is.copies;
    version = version_gated ∙ is.version;
  }

  images_a : images_on gated d.a ≡ images_on old d.a
  images_a =
      of_images 0 d.a (λ s there.
      images_behind size 4096 0 _ _ is.read old s is.reads (omega arith)
      (subst (λ (k : Device). IsOfImages k.a s) is.is there))

  images_b : images_on gated d.b ≡ images_on old d.b
  images_b =
      of_images 1 d.b (λ s there.
      images_behind size 4096 1 _ _ is.read old s is.reads (omega arith)
      (subst (λ (k : Device). IsOfImages k.b s) is.is there))

  plan : entries_on gated d.plan ≡ entries_on old d.plan
  plan =
      plan_kept d.plan old gated
      (λ s there.
      elsewhere s (λ e. omega (
        arith,
        e,
        plan_behind size 4096 is.read old s is.reads (omega arith)
            (subst (λ (k : Device). IsOfPlan k.plan s) is.is there),
      )))

  overlay : overlay_on gated d.overlay ≡ overlay_on old d.overlay
  overlay =
      overlay_kept d.overlay old gated
      (λ s there.
      elsewhere s (λ e. omega (
        arith,
        e,
        overlay_behind size 4096 is.read old s is.reads (omega arith)
            (subst (λ (k : Device). IsOfOverlay k.overlay s) is.is there),
      )))

  -- and it means the state with that boot control, as far as slots have images
  pub mounted_gated : mounted_on (with_boot c d) gated
      ≡ in_state (mounted_on d old)
      (with_control (control_seen (is_some d.a) (is_some d.b) c) (state_on d old))
  unfolding state_on
  mounted_gated = rw (images_a, images_b, plan, overlay) refl

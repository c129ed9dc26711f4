-- What stays of a disk as the phase changes.
use Rattle.std.proofs.Common.{◌≡◌, ◌∙◌, inl, inr, ℕ, ◌+◌, ◌≤◌, List, [], ◌∷◌}
use Rattle.std.proofs.Common.{length, take, Ok, sym, ap, arith, Bool, false, not}
use Rattle.vab_disk.specs.Disk.{Image}
use Rattle.vab_gate.proofs.Blocks.{sectors_same}
use Rattle.vab_marks.specs.declared.mark.MarkPhase.{MarkPhase}
use Rattle.vab_marks.specs.declared.mark.UpdateMark.{UpdateMark}
use Rattle.vab_marks.specs.declared.version.MarkVersion.TheVariants.{Two}
use Rattle.vab_marks.specs.Mark.{mark_of, mark_spelling}
use Rattle.vab_marks.specs.Version.{version_in}
use Rattle.vab_marks.proofs.MarkLaws.{version_spelled}
use Rattle.vab_geometry.specs.declared.geometry.Geometry.{Geometry}
use Rattle.vab_lpstore.specs.Layout.{copy_sectors, primary_of, backup_of, primary_bytes}
use Rattle.vab_lpstore.specs.Layout.{backup_bytes, BothHold}
use Rattle.vab_tables.specs.declared.table.Table.{Table}
use Rattle.vab_device.specs.declared.fault.StartFault.TheVariants.{BadMark}
use Rattle.vab_device.specs.Checks.{unless, ◌>>=◌}
use Rattle.vab_device.specs.Reading.{settled, mark_read, mark_in, version_at, table_at, tables_in}
use Rattle.vab_device.specs.Reading.{IsOfTables}
use Rattle.vab_device.proofs.CheckLaws.{bound}

-- ---- the mark

-- a mark without physical partitions is read
pub bare_read : (m : UpdateMark)
    → m.physical ≡ false
    → mark_read (Ok m) ≡ Ok (record m { phase = settled m.phase })
bare_read m bare =
    ap (λ (b : Bool). unless (not b) (BadMark 2048) (Ok (record m { phase = settled m.phase })))
    bare

pub mark_there : (m : UpdateMark) (image : Image)
    → settled m.phase ≡ m.phase
    → m.physical ≡ false
    → mark_of (mark_spelling m) ≡ Ok m
    → image 2048 ≡ mark_spelling m
    → mark_in image ≡ Ok m
unfolding mark_in
mark_there m image stays bare read same =
    ap (λ (b : List ℕ). mark_read (mark_of b)) same
    ∙ ap mark_read read
    ∙ bare_read m bare
    ∙ ap (λ (p : MarkPhase). Ok (record m { phase = p })) stays

pub version_there : (m : UpdateMark) (image : Image)
    → image 2048 ≡ mark_spelling m
    → version_at image ≡ Two
version_there m image same = ap version_in same ∙ version_spelled Two m

-- ---- copies of a table

pub copy_stays : (g : Geometry) (slot : ℕ) (text : List ℕ) (old new : Image)
    → ((s : ℕ) → IsOfTables g (slot ∷ []) s → new s ≡ old s)
    → BothHold g slot text old
    → BothHold g slot text new
copy_stays g slot text old new same holds =
    let n = copy_sectors g in
    let primary : primary_bytes g slot new ≡ primary_bytes g slot old =
    sectors_same n (primary_of g slot) old new
    (λ k below. same (primary_of g slot + k) (inl (record {
      from = omega arith;
      below = omega (arith, below);
    }))) in
    let backup : backup_bytes g slot new ≡ backup_bytes g slot old =
    sectors_same n (backup_of g slot) old new
    (λ k below. same (backup_of g slot + k) (inr (inl (record {
      from = omega arith;
      below = omega (arith, below);
    })))) in
    record {
      primary = ap (λ (l : List ℕ). take (length text) l) primary ∙ holds.primary;
      backup = ap (λ (l : List ℕ). take (length text) l) backup ∙ holds.backup;
    }

-- the copies of tables stand behind the geometries
pub copies_from : (g : Geometry) (slots : List ℕ) (s : ℕ) → IsOfTables g slots s → 4120 ≤ s
unfolding primary_of backup_of
copies_from g [] s is = absurd is
copies_from g (slot ∷ slots) s (inl is) = omega (arith, is.from)
copies_from g (slot ∷ slots) s (inr (inl is)) = omega (arith, is.from)
copies_from g (slot ∷ slots) s (inr (inr is)) = copies_from g slots s is

-- ---- the tables that are read

pub one_of : (size : ℕ) (g : Geometry) (slot : ℕ) (image : Image) (ts : List Table)
    → tables_in size g (slot ∷ []) image ≡ Ok ts
    → (t : Table) × (ts ≡ t ∷ []) × (table_at size g slot image ≡ Ok t)
one_of size g slot image ts is =
    let t = bound (table_at size g slot image)
    (λ t. tables_in size g [] image >>= λ ts. Ok (t ∷ ts)) ts is in
    let whole : Ok (t.0 ∷ []) ≡ Ok ts = t.2 in
    (t.0, (let same : t.0 ∷ [] ≡ ts = cc in sym same), t.1)

pub two_of : (size : ℕ) (g : Geometry) (slot other : ℕ) (image : Image) (ts : List Table)
    → tables_in size g (slot ∷ other ∷ []) image ≡ Ok ts
    → (t : Table) × (u : Table) × (ts ≡ t ∷ u ∷ []) × (table_at size g slot image ≡ Ok t)
two_of size g slot other image ts is =
    let t = bound (table_at size g slot image)
    (λ t. tables_in size g (other ∷ []) image >>= λ ts. Ok (t ∷ ts)) ts is in
    let u = bound (tables_in size g (other ∷ []) image) (λ us. Ok (t.0 ∷ us)) ts t.2 in
    let one = one_of size g other image u.0 u.1 in
    let whole : Ok (t.0 ∷ u.0) ≡ Ok ts = u.2 in
    let same : t.0 ∷ u.0 ≡ ts = cc in
    (t.0, one.0, sym same ∙ ap (λ (l : List Table). t.0 ∷ l) one.1, t.1)

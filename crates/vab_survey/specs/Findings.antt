-- What is found of the parts of a disk, each by itself.
use Rattle.std.specs.Prelude.{◌≡◌, Bool, Option, Some, None, Result, Ok, Err, IsOk}
use Rattle.vab_disk.specs.Disk.{Image}
use Rattle.arrayvec.specs.ArrayVec.{ArrayVec}
use Rattle.vab_marks.specs.declared.mark.UpdateMark.{UpdateMark}
use Rattle.vab_marks.specs.declared.status.PartStatus.{PartStatus}
use Rattle.vab_statuses.specs.Statuses.{written_in}
use Rattle.vab_tables.specs.declared.table.Table.{Table}
use Rattle.std.specs.Prelude.{ℕ, List}
use Rattle.vab_geometry.specs.declared.geometry.Geometry.{Geometry}
use Rattle.vab_device.specs.declared.fault.StartFault.{StartFault}
use Rattle.vab_device.specs.Phases.{phase_at}
use Rattle.vab_device.specs.Stores.{scans_in}
use Rattle.vab_device.specs.Reading.{mark_in, statuses_at, control_in, geometry_at, tables_in}
use Rattle.vab_recover.specs.Opened.{reads_statuses, tables_of, fault_of, stores_at}
use Rattle.vab_recover.specs.declared.table.Tables.{Tables}
use Rattle.vab_survey.specs.declared.found.Behind.{Behind}
use Rattle.vab_survey.specs.declared.finding.Finding.{Finding}
use Rattle.vab_survey.specs.declared.finding.Finding.TheVariants.{Fine, Wrong, Unread}
use Rattle.vab_survey.specs.declared.parts.Parts.{Parts}
use Rattle.vab_device.specs.Reading.{most_at}

-- ---- one part

-- It is fine where it is read, and else the fault is what is read.
abbrev pub Finds : {A : Type 0} → Finding → Result A StartFault → Type 0
Finds Fine read = IsOk read
Finds (Wrong fault) read = read ≡ Err fault
Finds Unread read = ⊥

-- ---- parts that rest on others

-- the statuses that are kept, as a list
abbrev pub listed : Result (ArrayVec (Option PartStatus)) StartFault
    → Result (List (Option PartStatus)) StartFault
listed (Ok ss) = Ok ss.items
listed (Err fault) = Err fault

-- the statuses that the mark asks for, and anything where there is no mark
abbrev pub AreStatuses : Result UpdateMark StartFault
    → Result (List (Option PartStatus)) StartFault
    → Image
    → Type 0
AreStatuses (Ok m) said image = statuses_at (reads_statuses m.phase) image ≡ said
AreStatuses (Err fault) said image = Unit {0}

-- The statuses are found by the mark, and unread where there is none.
abbrev pub FindsStatuses : Finding
    → Result UpdateMark StartFault
    → Result (List (Option PartStatus)) StartFault
    → Type 0
FindsStatuses f (Ok m) said = Finds f said
FindsStatuses f (Err fault) said = f ≡ Unread

-- the tables that the mark asks for
abbrev pub tables_asked : ℕ → Geometry → UpdateMark → Image → Result (List Table) StartFault
tables_asked size g m image = tables_in size g (phase_at m).tables image

-- The stores that the statuses name, or without an update the one of an overlay, unread where the
-- statuses are wrong.
abbrev pub FindsScans : Finding
    → Tables
    → UpdateMark
    → Result (List (Option PartStatus)) StartFault
    → Image
    → Type 0
FindsScans f t m (Ok ss) image =
    Finds f
    (scans_in (stores_at m t.source t.target (written_in ss)) image)
FindsScans f t m (Err fault) image = f ≡ Unread

-- The rules of the partitions, and the stores, which are unread where a rule is broken.
abbrev pub FindsParts : (partitions stores : Finding)
    → Tables
    → UpdateMark
    → Result (List (Option PartStatus)) StartFault
    → Image
    → Type 0
FindsParts Fine s t m said image =
    (fault_of (most_at image) m t.source.table t.target ≡ None)
    × FindsScans s t m said image
FindsParts (Wrong fault) s t m said image =
    (fault_of (most_at image) m t.source.table t.target ≡ Some fault) × (s ≡ Unread)
FindsParts Unread s t m said image = ⊥

-- The tables, and what stands on them, which is unread where they are wrong.
abbrev pub FindsThere : (tables partitions stores : Finding)
    → UpdateMark
    → Result (List (Option PartStatus)) StartFault
    → Result (List Table) StartFault
    → Image
    → Type 0
FindsThere Fine p s m said read image =
    (t : Tables) × (read ≡ Ok (tables_of t)) × FindsParts p s t m said image
FindsThere (Wrong fault) p s m said read image =
    (read ≡ Err fault) × (p ≡ Unread) × (s ≡ Unread)
FindsThere Unread p s m said read image = ⊥

abbrev pub FindsBehind : Behind
    → UpdateMark
    → Result (List (Option PartStatus)) StartFault
    → Result (List Table) StartFault
    → Image
    → Type 0
FindsBehind r m said read image =
    FindsThere r.tables r.partitions r.stores m said read image

-- nothing of that
abbrev pub IsUnread : Behind → Type 0
IsUnread r = (r.tables ≡ Unread) × (r.partitions ≡ Unread) × (r.stores ≡ Unread)

-- The tables are found by mark and geometry, and unread where one of them is wrong.
abbrev pub FindsTables : Behind
    → ℕ
    → Result UpdateMark StartFault
    → Result (List (Option PartStatus)) StartFault
    → Result Geometry StartFault
    → Image
    → Type 0
FindsTables r size (Ok m) said (Ok g) image =
    FindsBehind r m said (tables_asked size g m image) image
FindsTables r size (Ok m) said (Err fault) image = IsUnread r
FindsTables r size (Err fault) said (Ok g) image = IsUnread r
FindsTables r size (Err fault) said (Err other) image = IsUnread r

-- what is found of the tables, of the partitions and of the stores
abbrev pub behind_of : Parts → Behind
behind_of p = record { tables = p.tables; partitions = p.partitions; stores = p.stores }

-- Each part of a disk of so many sectors, whatever the parts in front of it are. The statuses are
-- those that the mark asks for.
pub record AreFound (size : ℕ) (image : Image) (p : Parts) : Type 0 where
  pub said : Result (List (Option PartStatus)) StartFault
  pub are : AreStatuses (mark_in image) said image
  pub mark : Finds p.mark (mark_in image)
  pub statuses : FindsStatuses p.statuses (mark_in image) said
  pub control : (a b : Bool) → Finds p.control (control_in a b image)
  pub geometry : Finds p.geometry (geometry_at size image)
  pub tables : FindsTables (behind_of p) size (mark_in image) said (geometry_at size image) image

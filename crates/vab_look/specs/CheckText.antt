-- The page of what is wrong with a disk: a line for each part, in the order of opening.
use Rattle.std.specs.Prelude.{◌≡◌, ℕ, ◌==◌, nat_lt, Bool, true, false, ◌||◌, if◌then◌else◌}
use Rattle.std.specs.Prelude.{List, []}
use Rattle.std.specs.Prelude.{◌++◌, codes, Option, Some, None, Result, Ok, Err}
use Rattle.vab_marks.specs.declared.version.MarkVersion.{MarkVersion}
use Rattle.vab_marks.specs.declared.version.MarkVersion.TheVariants as versions
use Rattle.vab_marks.specs.declared.mark.MarkPhase.{MarkPhase}
use Rattle.vab_marks.specs.declared.mark.MarkPhase.TheVariants as marks
use Rattle.vab_marks.specs.declared.mark.UpdateMark.{UpdateMark}
use Rattle.vab_marks.specs.declared.sector.MarkFault.{MarkFault}
use Rattle.vab_geometry.specs.declared.geometry.Geometry.{Geometry}
use Rattle.vab_geometry.specs.declared.geometry.GeometryFault.{GeometryFault}
use Rattle.vab_device.specs.Kept.{reads_both}
use Rattle.vab_device.specs.declared.fault.StartFault.{StartFault}
use Rattle.vab_device.specs.declared.fault.StartFault.TheVariants as faults
use Rattle.vab_fbproto.specs.Texts.{slot_letter}
use Rattle.vab_survey.specs.declared.copies.SlotTable.{SlotTable}
use Rattle.vab_survey.specs.declared.copies.SlotTable.TheVariants.{Read, Bad}
use Rattle.vab_survey.specs.declared.finding.Finding.{Finding}
use Rattle.vab_survey.specs.declared.finding.Finding.TheVariants.{Fine, Wrong, Unread}
use Rattle.vab_survey.specs.declared.parts.Parts.{Parts}
use Rattle.vab_survey.specs.declared.survey.Details.{Details}
use Rattle.vab_survey.specs.declared.survey.Survey.{Survey}
use Rattle.vab_survey.specs.declared.tables.TablesPage.{TablesPage}
use Rattle.vab_look.specs.declared.form.Form.{Form}
use Rattle.vab_look.specs.declared.place.Place.{Place}
use Rattle.vab_look.specs.declared.place.Place.TheVariants as places
use Rattle.vab_look.specs.Faults.{fault_words, geometry_word}
use Rattle.vab_look.specs.Form.{begun, word_in, keyed_in, ended}
use Rattle.vab_look.specs.TablesText.{copy_lines, copy_name}

-- ---- the parts

-- the part of a fault
abbrev pub place_of : StartFault → Place
place_of (faults.TooSmall need have) = places.Size
place_of (faults.BadMark sector) = if sector == 2048 then places.Mark else places.Statuses
place_of (faults.BadControl fault) = places.Control
place_of faults.BadPhysical = places.Geometry
place_of faults.BadGeometry = places.Geometry
place_of (faults.BadTable slot) = places.Tables
place_of (faults.BadPartition name) = places.Partitions
place_of (faults.BadStore name) = places.Stores
place_of (faults.BadState rule) = places.States
place_of faults.NoMemory = places.Size
place_of (faults.Disk fault) = places.Size

-- its number in the order of opening
abbrev pub rank_of : Place → ℕ
rank_of places.Size = 0
rank_of places.Mark = 1
rank_of places.Statuses = 2
rank_of places.Control = 3
rank_of places.Geometry = 4
rank_of places.Tables = 5
rank_of places.Partitions = 6
rank_of places.Stores = 7
rank_of places.States = 8

abbrev pub place_words : Place → List ℕ
place_words places.Size = codes "size"
place_words places.Mark = codes "mark"
place_words places.Statuses = codes "statuses"
place_words places.Control = codes "control"
place_words places.Geometry = codes "geometry"
place_words places.Tables = codes "tables"
place_words places.Partitions = codes "partitions"
place_words places.Stores = codes "stores"
place_words places.States = codes "states"

-- What is said of a part: those in front of the first fault are fine, the fault is of its part, and
-- of those behind it what is found of them by themselves.
abbrev pub shown : Place → Option StartFault → Finding → Finding
shown p None own = Fine
shown p (Some f) own =
    if nat_lt (rank_of p) (rank_of (place_of f))
    then Fine
    else (if rank_of p == rank_of (place_of f) then Wrong f else own)

abbrev pub finding_words : Finding → List ℕ
finding_words Fine = codes "ok"
finding_words (Wrong f) = fault_words f
finding_words Unread = codes "not judged"

abbrev pub words_line : Form → Place → List ℕ → List ℕ
words_line form p words =
    begun form (place_words p) ++ word_in form (codes "says") words ++ ended form

abbrev pub part_line : Form → Place → Option StartFault → Finding → List ℕ
part_line form p first own = words_line form p (finding_words (shown p first own))

-- ---- what is found by itself

-- nothing, where the disk is too small
abbrev pub nothing_read : Parts
nothing_read = record {
  mark = Unread;
  statuses = Unread;
  control = Unread;
  geometry = Unread;
  tables = Unread;
  partitions = Unread;
  stores = Unread;
}

abbrev pub parts_read : Option Details → Parts
parts_read None = nothing_read
parts_read (Some x) = x.parts

-- ---- copies

abbrev pub geometry_words : Result Geometry GeometryFault → List ℕ
geometry_words (Ok g) = codes "ok"
geometry_words (Err f) = geometry_word f

abbrev pub geometry_copy : Form → Bool → Result Geometry GeometryFault → List ℕ
geometry_copy form primary g =
    begun form (codes "geometry")
    ++ word_in form (codes "copy") (copy_name primary)
    ++ word_in form (codes "says") (geometry_words g)
    ++ ended form

abbrev pub geometry_copies : Form → Option Details → List ℕ
geometry_copies form None = []
geometry_copies form (Some x) =
    geometry_copy form true x.geometries.primary ++ geometry_copy form false x.geometries.backup

-- the table of a slot is read with this mark
abbrev pub is_asked : Result UpdateMark MarkFault → ℕ → Bool
is_asked (Err f) slot = false
is_asked (Ok m) slot = m.slot == slot || reads_both m.phase

abbrev pub copies_if : Form → Bool → ℕ → SlotTable → List ℕ
copies_if form false slot t = []
copies_if form true slot t = copy_lines form slot t

abbrev pub copies_in : Form → Result UpdateMark MarkFault → Option TablesPage → List ℕ
copies_in form m None = []
copies_in form m (Some p) =
    copies_if form (is_asked m 0) 0 p.a ++ copies_if form (is_asked m 1) 1 p.b

abbrev pub table_copies : Form → Option Details → List ℕ
table_copies form None = []
table_copies form (Some x) = copies_in form x.mark x.tables

-- ---- what the next opening writes

abbrev pub repair_line : Form → ℕ → Bool → List ℕ
repair_line form slot primary =
    begun form (codes "opening")
    ++ keyed_in form (codes "repairs") (slot_letter slot)
    ++ word_in form (codes "copy") (copy_name primary)
    ++ ended form

abbrev pub repair_if : Form → Bool → ℕ → Bool → List ℕ
repair_if form true slot primary = []
repair_if form false slot primary = repair_line form slot primary

abbrev pub repairs_of : Form → ℕ → SlotTable → List ℕ
repairs_of form slot (Read l) =
    repair_if form l.primary slot true ++ repair_if form l.backup slot false
repairs_of form slot (Bad first second) = []

abbrev pub repairs_if : Form → Bool → ℕ → SlotTable → List ℕ
repairs_if form false slot t = []
repairs_if form true slot t = repairs_of form slot t

abbrev pub repairs_in : Form → Result UpdateMark MarkFault → Option TablesPage → List ℕ
repairs_in form m None = []
repairs_in form m (Some p) =
    repairs_if form (is_asked m 0) 0 p.a ++ repairs_if form (is_asked m 1) 1 p.b

abbrev pub raise_words : Form → List ℕ
raise_words form =
    begun form (codes "opening") ++ keyed_in form (codes "raises") (codes "mark") ++ ended form

-- the mark has version 1
abbrev pub raise_line : Form → MarkVersion → List ℕ
raise_line form versions.One = raise_words form
raise_line form versions.Two = []

-- a merge has ended
abbrev pub has_ended : MarkPhase → Bool
has_ended marks.Idle = false
has_ended marks.Installing = false
has_ended marks.Staged = false
has_ended marks.Merging = false
has_ended marks.Completed = true

abbrev pub tidy_words : Form → List ℕ
tidy_words form =
    begun form (codes "opening") ++ keyed_in form (codes "tidies") (codes "merge") ++ ended form

abbrev pub tidy_line : Form → Result UpdateMark MarkFault → List ℕ
tidy_line form (Err f) = []
tidy_line form (Ok m) = if has_ended m.phase then tidy_words form else []

abbrev pub opening_writes : Form → Option StartFault → Option Details → List ℕ
opening_writes form (Some f) x = []
opening_writes form None None = []
opening_writes form None (Some x) =
    repairs_in form x.mark x.tables ++ (raise_line form x.version ++ tidy_line form x.mark)

-- ---- the page

-- the lines in front of the tables
abbrev pub front_lines : Form → Option StartFault → Option Details → List ℕ
front_lines form first x =
    part_line form places.Size first Fine
    ++ part_line form places.Mark first (parts_read x).mark
    ++ part_line form places.Statuses first (parts_read x).statuses
    ++ part_line form places.Control first (parts_read x).control
    ++ geometry_copies form x
    ++ part_line form places.Geometry first (parts_read x).geometry

-- those of the tables and behind them
abbrev pub back_lines : Form → Option StartFault → Option Details → List ℕ
back_lines form first x =
    table_copies form x
    ++ part_line form places.Tables first (parts_read x).tables
    ++ part_line form places.Partitions first (parts_read x).partitions
    ++ part_line form places.Stores first (parts_read x).stores
    ++ part_line form places.States first Unread
    ++ opening_writes form first x

abbrev pub check_text : Form → Survey → List ℕ
check_text form s = front_lines form s.first s.details ++ back_lines form s.first s.details

-- ---- what the page has

-- a text has this piece
abbrev pub Has : List ℕ → List ℕ → Type 0
Has text piece = (before : List ℕ) × (behind : List ℕ) × (text ≡ before ++ (piece ++ behind))

-- the line of a fault, at its part
abbrev pub fault_line : Form → StartFault → List ℕ
fault_line form f = words_line form (place_of f) (fault_words f)

-- a whole disk's parts are each said to be so
abbrev pub fine_line : Form → Place → List ℕ
fine_line form p = words_line form p (codes "ok")

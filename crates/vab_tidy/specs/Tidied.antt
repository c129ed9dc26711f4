-- What is left of a slot's table behind a merge that has ended.
use Rattle.std.specs.Prelude.{◌≡◌, ℕ, Bool, true, false, not, ◌&&◌, ◌||◌, nat_le}
use Rattle.std.specs.Prelude.{if◌then◌else◌, Result, Ok, Err}
use Rattle.std.specs.List.{list_any}
use Rattle.std.specs.Str.{bytes_eq}
use Rattle.vab_disk.specs.Disk.{Image}
use Rattle.vab_names.specs.Names.{is_of_slot, default_name}
use Rattle.vab_marks.specs.declared.mark.MarkPhase.{MarkPhase}
use Rattle.vab_marks.specs.declared.mark.MarkPhase.TheVariants as marks
use Rattle.vab_marks.specs.declared.mark.UpdateMark.{UpdateMark}
use Rattle.vab_marks.specs.declared.sector.MarkFault.{MarkFault}
use Rattle.vab_marks.specs.Mark.{mark_of, rephased}
use Rattle.vab_tables.specs.declared.entries.Group.{Group}
use Rattle.vab_tables.specs.declared.entries.Partition.{Partition}
use Rattle.vab_tables.specs.declared.table.Table.{Table}
use Rattle.vab_tables.specs.Spelling.{table_size_of}
use Rattle.vab_layout.specs.Layout.{layout_of, table_of}
use Rattle.vab_layout.specs.Plain.{plain}

-- ---- the mark

-- the mark on the disk is this one, whatever its phase, of a merge that has ended
abbrev pub HasCompleted : UpdateMark → Image → Type 0
HasCompleted m image = mark_of (image 2048) ≡ Ok (rephased marks.Completed m)

abbrev pub is_completed : MarkPhase → Bool
is_completed marks.Completed = true
is_completed _ = false

abbrev pub says_completed : Result UpdateMark MarkFault → Bool
says_completed (Ok m) = is_completed m.phase
says_completed (Err fault) = false

-- ---- the table

-- a partition that isn't one of the slot
abbrev pub is_other_part : ℕ → Partition → Bool
is_other_part slot p = not (is_of_slot slot p.name)

-- a group that is neither one of the slot nor that of no slot
abbrev pub is_other_group : ℕ → Group → Bool
is_other_group slot g = not (is_of_slot slot g.name) && not (bytes_eq g.name default_name)

abbrev pub has_other_parts : ℕ → Table → Bool
has_other_parts slot t = list_any (is_other_part slot) t.partitions

abbrev pub has_other_groups : ℕ → Table → Bool
has_other_groups slot t = list_any (is_other_group slot) t.groups

-- a partition or a group goes where the table is that of the slot alone
abbrev pub has_others : ℕ → Table → Bool
has_others slot t = has_other_parts slot t || has_other_groups slot t

-- the table of the slot alone, without stores
abbrev pub alone : ℕ → Table → Table
alone slot t = table_of (plain slot (layout_of t))

-- it has less, and its text is no longer than a copy may be
abbrev pub may_be_alone : (max slot : ℕ) → Table → Bool
may_be_alone max slot t = has_others slot t && nat_le (table_size_of (alone slot t)) max

-- the table that is left: that one, or the same
abbrev pub tidy_table : (max slot : ℕ) → Table → Table
tidy_table max slot t = if may_be_alone max slot t then alone slot t else t

-- A line for each store.
use Rattle.std.specs.Prelude.{ℕ, List, ◌++◌, codes}
use Rattle.vab_survey.specs.declared.stores.StoreRow.{StoreRow}
use Rattle.vab_look.specs.declared.form.Form.{Form}
use Rattle.vab_look.specs.Form.{word_in, counted_in, ended}
use Rattle.vab_look.specs.TablesText.{of_slot}

-- the partition's slot and base name, how many exceptions its store has, its blocks, and those that
-- are used
abbrev pub store_line : Form → StoreRow → List ℕ
store_line form row =
    of_slot form (codes "store") row.slot
    ++ word_in form (codes "name") row.name
    ++ counted_in form (codes "exceptions") row.exceptions
    ++ counted_in form (codes "blocks") row.blocks
    ++ counted_in form (codes "used") row.used
    ++ ended form

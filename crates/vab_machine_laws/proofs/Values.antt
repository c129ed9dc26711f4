-- Edits, by their values.
use Rattle.std.proofs.Common.{ℕ, List}
use Rattle.vab_builder.specs.declared.edit.Edit.{Edit}
use Rattle.vab_builder.specs.declared.edit.Edit.TheVariants as edits

abbrev pub create_of : List ℕ → ℕ → Edit
create_of name bytes = edits.Create (record { ref_ptr = (0, 0); now = name }) bytes

abbrev pub resize_of : List ℕ → ℕ → Edit
resize_of name bytes = edits.Resize (record { ref_ptr = (0, 0); now = name }) bytes

abbrev pub delete_of : List ℕ → Edit
delete_of name = edits.Delete (record { ref_ptr = (0, 0); now = name })

abbrev pub store_edit_of : List ℕ → ℕ → Edit
store_edit_of name bytes = edits.AddStore (record { ref_ptr = (0, 0); now = name }) bytes

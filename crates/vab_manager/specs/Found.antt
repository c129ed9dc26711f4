-- The partition under a name.
use Rattle.std.specs.Prelude.{ℕ, if◌then◌else◌, List, Option, Some, None, ok_or, Result, Ok, Err}
use Rattle.std.specs.Str.{bytes_eq}
use Rattle.vab_names.specs.Names.{is_full, base_of}
use Rattle.vab_model.specs.declared.command.Refusal.{Refusal}
use Rattle.vab_model.specs.declared.command.Refusal.TheVariants.{BadName, Unknown, NoImages}
use Rattle.vab_device.specs.declared.device.Part.{Part}
use Rattle.vab_device.specs.declared.device.Device.{Device}
pub use Rattle.vab_device.specs.Kept.{part_named}

-- a partition as it is read: the overlaid one, where it is that
abbrev pub as_read : Option Part → Part → Part
as_read None p = p
as_read (Some o) p = if bytes_eq o.name p.name then o else p

abbrev pub part_in : List ℕ → Option (List Part) → Result Part Refusal
part_in name None = Err NoImages
part_in name (Some parts) = ok_or (part_named (base_of name) parts) Unknown

-- the partition of a name with a slot's suffix, or why there is none
abbrev pub part_under : Device → List ℕ → Result Part Refusal
part_under d name =
    if is_full 0 name then part_in name d.a
    else (if is_full 1 name then part_in name d.b else Err BadName)

abbrev pub found_over : Option Part → Result Part Refusal → Result Part Refusal
found_over overlay (Ok p) = Ok (as_read overlay p)
found_over overlay (Err refusal) = Err refusal

-- the same as it is read
abbrev pub found_part : Device → List ℕ → Result Part Refusal
found_part d name = found_over d.overlay (part_under d name)

-- Laws of a slot's own partitions.
use Rattle.std.proofs.Common.{◌≡◌, ℕ, ◌≤◌, true, List, length}
use Rattle.std.specs.Prelude.{Contains}
use Rattle.std.proofs.lemmas.List.Elements.{All-contains}
use Rattle.vab_names.specs.Names.{is_of_slot}
use Rattle.vab_names.proofs.NameLaws.{of_slot_long}
use Rattle.vab_layout.specs.declared.layout.Part.{Part}
use Rattle.vab_layout.specs.Slots.{own_parts, IsOwn, IsOwnPart}
use Rattle.vab_blocks.proofs.Contained.{in_filter}

pub own_rules : (slot : ℕ) (parts : List Part) (p : Part) → IsOwn slot parts → Contains parts p
    → is_of_slot slot p.name ≡ true → IsOwnPart slot p
own_rules slot parts p own c of =
    All-contains (IsOwnPart slot) (own_parts slot parts) p own.each
    (in_filter (λ q. is_of_slot slot q.name) parts p c of)

pub own_long : (slot : ℕ) (name : List ℕ) → is_of_slot slot name ≡ true → 2 ≤ length name
own_long slot name of = of_slot_long slot name of

-- The names of a slot's partitions are names.
use Rattle.std.proofs.Common.{◌≡◌, ℕ, ◌≤◌, true, List, length, subst, sym, arith}
use Rattle.std.proofs.lemmas.Bool.{and_parts, leb-true}
use Rattle.vab_bytes.specs.Name.{is_name, IsName}
use Rattle.vab_bytes.proofs.NameLaws.{name_bytes}
use Rattle.vab_names.specs.Names.{is_base, is_short, is_of_slot, base_of, is_full}
use Rattle.vab_names.proofs.NameLaws.{of_slot, of_slot_long, full_is_name}

-- a full name has a suffix, and a base name before it
full_parts : (slot : ℕ) (name : List ℕ)
    → is_full slot name ≡ true
    → (is_of_slot slot name ≡ true) × (is_base (base_of name) ≡ true)
unfolding is_full
full_parts slot name h = and_parts (is_of_slot slot name) (is_base (base_of name)) h

pub full_long : (slot : ℕ) (name : List ℕ) → is_full slot name ≡ true → 2 ≤ length name
full_long slot name h = of_slot_long slot name (full_parts slot name h).0

base_parts : (text : List ℕ) → is_base text ≡ true → (is_name text ≡ true) × (is_short text ≡ true)
unfolding is_base
base_parts text h = and_parts (is_name text) (is_short text) h

pub full_is : (slot : ℕ) (name : List ℕ) → is_full slot name ≡ true → IsName name
full_is slot name h =
    let parts = full_parts slot name h in
    let base = base_parts (base_of name) parts.1 in
    let short : length (base_of name) ≤ 30 = leb-true _ _ (and_parts _ _ base.1).0 in
    subst IsName (sym (of_slot slot name parts.0))
    (full_is_name slot (base_of name) (name_bytes (base_of name) base.0) (omega arith))

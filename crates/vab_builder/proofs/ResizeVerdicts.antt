-- What another size of a partition answers.
use Rattle.std.proofs.Common.{◌≡◌, ℕ, ◌^◌, ◌<◌, ◌≤◌, true, false, cond, leb, List, [], ◌∷◌, refl}
use Rattle.std.proofs.Common.{sym, ap, ◌∙◌, inl, inr, Ok, Err}
use Rattle.std.specs.Str.{bytes_eq}
use Rattle.std.proofs.lemmas.Bool.{cases_Bool, both_ways, le-leb, lt-leb, leb-true, not-true}
use Rattle.vab_names.specs.Names.{is_full, is_of_slot, store_of}
use Rattle.vab_space.specs.Space.{blocks_of}
use Rattle.vab_tables.specs.Rules.{cap_of}
use Rattle.vab_layout.specs.declared.layout.Part.{Part}
use Rattle.vab_layout.specs.declared.layout.Layout.{Layout}
use Rattle.vab_layout.specs.Slots.{own_parts}
use Rattle.vab_builder.specs.declared.fault.EditFault.TheVariants.{BadName, BadSize, Unknown}
use Rattle.vab_builder.specs.declared.fault.EditFault.TheVariants.{HasStore, GroupLimit, NoRoom}
use Rattle.vab_builder.specs.Sizes.{has_part, is_within}
use Rattle.vab_builder.specs.Edits.{group_named, with_resized, resized}
use Rattle.vab_names.proofs.NameCases.{full_slot, ne_name}
use Rattle.vab_builder.proofs.PartLaws.{has_own}
use Rattle.vab_builder.proofs.Verdicts.{unless_ok, ok_same}
use Rattle.vab_builder.specs.Passes.{resized_group_sum, resized_group_limit, resized_in_use}
use Rattle.vab_builder.specs.Passes.{IsResized}

group_own : (slot : ℕ) (name : List ℕ) (parts : List Part) → is_of_slot slot name ≡ true
    → group_named name (own_parts slot parts) ≡ group_named name parts
group_own slot name [] h = refl
group_own slot name (p ∷ ps) h = elim (cases_Bool (is_of_slot slot p.name)) [
  | inl own ↦
      rw own (ap (λ (l : List ℕ). cond (bytes_eq p.name name) p.group l) (group_own slot name ps h))
  | inr other ↦
      let no : bytes_eq p.name name ≡ false =
      ne_name p.name name
      (λ e. both_ways (is_of_slot slot p.name) other (ap (is_of_slot slot) e ∙ h)) in
      rw (other, no) (group_own slot name ps h)
]

pub resized-bad_name : (slot : ℕ) (twins : List Part) (source target : Layout) (name : List ℕ)
    (bytes : ℕ)
    → is_full slot name ≡ false → resized slot twins source target name bytes ≡ Err BadName
unfolding resized
resized-bad_name slot twins source target name bytes full = rw full refl

pub resized-bad_size : (slot : ℕ) (twins : List Part) (source target : Layout) (name : List ℕ)
    (bytes : ℕ)
    → is_full slot name ≡ true → 2 ^ 40 < bytes
    → resized slot twins source target name bytes ≡ Err BadSize
unfolding resized
resized-bad_size slot twins source target name bytes full long = let size : leb bytes (2 ^ 40)
    ≡ false =
    lt-leb bytes (2 ^ 40) long in rw (full, size) refl

pub resized-unknown : (slot : ℕ) (twins : List Part) (source target : Layout) (name : List ℕ)
    (bytes : ℕ)
    → is_full slot name ≡ true → bytes ≤ 2 ^ 40 → has_part name target.parts ≡ false
    → resized slot twins source target name bytes ≡ Err Unknown
unfolding resized
resized-unknown slot twins source target name bytes full short absent =
    let size : leb bytes (2 ^ 40) ≡ true = le-leb bytes (2 ^ 40) short in
    let known : has_part name (own_parts slot target.parts) ≡ false =
    has_own slot name target.parts (full_slot slot name full) ∙ absent in
    rw (full, size, known) refl

pub resized-has_store : (slot : ℕ) (twins : List Part) (source target : Layout) (name : List ℕ)
    (bytes : ℕ)
    → is_full slot name ≡ true → bytes ≤ 2 ^ 40 → has_part name target.parts ≡ true
    → has_part (store_of name) target.parts ≡ true
    → resized slot twins source target name bytes ≡ Err HasStore
unfolding resized
resized-has_store slot twins source target name bytes full short there store =
    let size : leb bytes (2 ^ 40) ≡ true = le-leb bytes (2 ^ 40) short in
    let known : has_part name (own_parts slot target.parts) ≡ true =
    has_own slot name target.parts (full_slot slot name full) ∙ there in
    rw (full, size, known, store) refl

pub resized-group_limit : (slot : ℕ) (twins : List Part) (source target : Layout) (name : List ℕ)
    (bytes sum limit : ℕ)
    → is_full slot name ≡ true → bytes ≤ 2 ^ 40 → has_part name target.parts ≡ true
    → has_part (store_of name) target.parts ≡ false
    → sum ≡ resized_group_sum slot target name (blocks_of bytes)
    → limit ≡ resized_group_limit target name → is_within sum limit ≡ false
    → resized slot twins source target name bytes ≡ Err (GroupLimit sum limit)
unfolding resized
resized-group_limit slot twins source target name bytes sum limit full short there plain sum-is
    limit-is
    outside =
    let size : leb bytes (2 ^ 40) ≡ true = le-leb bytes (2 ^ 40) short in
    let known : has_part name (own_parts slot target.parts) ≡ true =
    has_own slot name target.parts (full_slot slot name full) ∙ there in
    let group = group_own slot name target.parts (full_slot slot name full) in
    let over : is_within (resized_group_sum slot target name (blocks_of bytes))
    (resized_group_limit target name) ≡ false = rw (← sum-is, ← limit-is) outside in
    rw (sum-is, limit-is) (rw (full, size, known, plain, group, over) refl)

pub resized-no_room : (slot : ℕ) (twins : List Part) (source target : Layout) (name : List ℕ)
    (bytes used cap : ℕ)
    → is_full slot name ≡ true → bytes ≤ 2 ^ 40 → has_part name target.parts ≡ true
    → has_part (store_of name) target.parts ≡ false
    → is_within (resized_group_sum slot target name (blocks_of bytes))
    (resized_group_limit target name) ≡ true
    → used ≡ resized_in_use slot twins source target name (blocks_of bytes)
    → cap ≡ cap_of target.device
    → cap < used → resized slot twins source target name bytes ≡ Err (NoRoom used cap)
unfolding resized
resized-no_room slot twins source target name bytes used cap full short there plain within used-is
    cap-is
    over =
    let size : leb bytes (2 ^ 40) ≡ true = le-leb bytes (2 ^ 40) short in
    let known : has_part name (own_parts slot target.parts) ≡ true =
    has_own slot name target.parts (full_slot slot name full) ∙ there in
    let group = group_own slot name target.parts (full_slot slot name full) in
    let more : cap_of target.device < resized_in_use slot twins source target name
    (blocks_of bytes) =
    rw (← used-is, ← cap-is) over in
    let room : leb (resized_in_use slot twins source target name (blocks_of bytes))
    (cap_of target.device)
    ≡ false =
    lt-leb (resized_in_use slot twins source target name (blocks_of bytes)) (cap_of target.device)
    more in
    rw (used-is, cap-is) (rw (full, size, known, plain, group, within, room) refl)

pub resized-ok : (slot : ℕ) (twins : List Part) (source target : Layout) (name : List ℕ) (bytes : ℕ)
    → IsResized slot twins source target name bytes
    → resized slot twins source target name bytes
    ≡ Ok (with_resized slot twins source target name (blocks_of bytes))
unfolding resized
resized-ok slot twins source target name bytes h =
    let full = h.full in
    let size : leb bytes (2 ^ 40) ≡ true = le-leb bytes (2 ^ 40) h.size in
    let known : has_part name (own_parts slot target.parts) ≡ true =
    has_own slot name target.parts (full_slot slot name full) ∙ h.known in
    let plain = h.plain in
    let group = group_own slot name target.parts (full_slot slot name full) in
    let within = h.within in
    let room : leb (resized_in_use slot twins source target name (blocks_of bytes))
    (cap_of target.device)
    ≡ true =
    le-leb (resized_in_use slot twins source target name (blocks_of bytes)) (cap_of target.device)
    h.room in
    rw (full, size, known, plain, group, within, room) refl

pub resized_passes : (slot : ℕ) (twins : List Part) (source target : Layout) (name : List ℕ)
    (bytes : ℕ) (l : Layout)
    → resized slot twins source target name bytes ≡ Ok l
    → IsResized slot twins source target name bytes
    × (l ≡ with_resized slot twins source target name (blocks_of bytes))
unfolding resized
resized_passes slot twins source target name bytes l h =
    let own : List Part = own_parts slot target.parts in
    let a = unless_ok _ _ _ l h in
    let b = unless_ok _ _ _ l a.1 in
    let c = unless_ok _ _ _ l b.1 in
    let d = unless_ok _ _ _ l c.1 in
    let e = unless_ok _ _ _ l d.1 in
    let f = unless_ok _ _ _ l e.1 in
    let group = group_own slot name target.parts (full_slot slot name a.0) in
    let is =
    ok_same (with_resized slot twins source target name (blocks_of bytes)) l
    (Ok (with_resized slot twins source target name (blocks_of bytes))) refl f.1 in (
      record {
        full = a.0;
        size = leb-true bytes (2 ^ 40) b.0;
        known = sym (has_own slot name target.parts (full_slot slot name a.0)) ∙ c.0;
        plain = not-true (has_part (store_of name) target.parts) d.0;
        within = rw (← group) e.0;
        room = leb-true (resized_in_use slot twins source target name (blocks_of bytes))
            (cap_of target.device) f.0;
      },
      is,
    )

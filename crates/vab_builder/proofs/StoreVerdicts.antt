-- What a store more answers.
use Rattle.std.proofs.Common.{◌≡◌, ℕ, ◌<◌, true, false, leb}
use Rattle.std.proofs.Common.{List, refl, sym, ◌∙◌, Ok, Err}
use Rattle.std.proofs.lemmas.Bool.{le-leb, lt-leb, leb-true, not-true}
use Rattle.vab_names.specs.Names.{is_full, store_of}
use Rattle.vab_tables.specs.Rules.{cap_of}
use Rattle.vab_layout.specs.declared.layout.Part.{Part}
use Rattle.vab_layout.specs.declared.layout.Layout.{Layout}
use Rattle.vab_layout.specs.Slots.{own_parts}
use Rattle.vab_builder.specs.declared.fault.EditFault.TheVariants.{BadName, BadSize, Unknown}
use Rattle.vab_builder.specs.declared.fault.EditFault.TheVariants.{HasStore, NoRoom}
use Rattle.vab_builder.specs.Sizes.{has_part}
use Rattle.vab_builder.specs.Edits.{store_blocks, with_store, stored}
use Rattle.vab_names.proofs.NameCases.{full_slot}
use Rattle.vab_builder.proofs.PartLaws.{has_own}
use Rattle.vab_builder.proofs.Verdicts.{unless_ok, ok_same}
use Rattle.vab_builder.specs.Passes.{store_size, stored_in_use, IsStored}

pub stored-bad_name : (slot : ℕ) (twins : List Part) (source target : Layout) (name : List ℕ)
    (bytes : ℕ)
    → is_full slot name ≡ false → stored slot twins source target name bytes ≡ Err BadName
unfolding stored
stored-bad_name slot twins source target name bytes full = rw full refl

pub stored-bad_size : (slot : ℕ) (twins : List Part) (source target : Layout) (name : List ℕ)
    (bytes : ℕ)
    → is_full slot name ≡ true → store_size bytes ≡ false
    → stored slot twins source target name bytes ≡ Err BadSize
unfolding stored
stored-bad_size slot twins source target name bytes full size = rw (full, size) refl

pub stored-unknown : (slot : ℕ) (twins : List Part) (source target : Layout) (name : List ℕ)
    (bytes : ℕ)
    → is_full slot name ≡ true → store_size bytes ≡ true → has_part name target.parts ≡ false
    → stored slot twins source target name bytes ≡ Err Unknown
unfolding stored
stored-unknown slot twins source target name bytes full size absent =
    let known : has_part name (own_parts slot target.parts) ≡ false =
    has_own slot name target.parts (full_slot slot name full) ∙ absent in
    rw (full, size, known) refl

pub stored-has_store : (slot : ℕ) (twins : List Part) (source target : Layout) (name : List ℕ)
    (bytes : ℕ)
    → is_full slot name ≡ true → store_size bytes ≡ true → has_part name target.parts ≡ true
    → has_part (store_of name) target.parts ≡ true
    → stored slot twins source target name bytes ≡ Err HasStore
unfolding stored
stored-has_store slot twins source target name bytes full size there store =
    let known : has_part name (own_parts slot target.parts) ≡ true =
    has_own slot name target.parts (full_slot slot name full) ∙ there in
    rw (full, size, known, store) refl

pub stored-no_room : (slot : ℕ) (twins : List Part) (source target : Layout) (name : List ℕ)
    (bytes used cap : ℕ)
    → is_full slot name ≡ true → store_size bytes ≡ true → has_part name target.parts ≡ true
    → has_part (store_of name) target.parts ≡ false
    → used ≡ stored_in_use slot twins source target name (store_blocks target name bytes)
    → cap ≡ cap_of target.device → cap < used
    → stored slot twins source target name bytes ≡ Err (NoRoom used cap)
unfolding stored
stored-no_room slot twins source target name bytes used cap full size there plain used-is cap-is
    over =
    let known : has_part name (own_parts slot target.parts) ≡ true =
    has_own slot name target.parts (full_slot slot name full) ∙ there in
    let more : cap_of target.device < stored_in_use slot twins source target name
    (store_blocks target name bytes) = rw (← used-is, ← cap-is) over in
    let room : leb (stored_in_use slot twins source target name (store_blocks target name bytes))
    (cap_of target.device) ≡ false =
    lt-leb (stored_in_use slot twins source target name (store_blocks target name bytes))
    (cap_of target.device) more in
    rw (used-is, cap-is) (rw (full, size, known, plain, room) refl)

pub stored-ok : (slot : ℕ) (twins : List Part) (source target : Layout) (name : List ℕ) (bytes : ℕ)
    → IsStored slot twins source target name bytes
    → stored slot twins source target name bytes
    ≡ Ok (with_store slot source target name (store_blocks target name bytes))
unfolding stored
stored-ok slot twins source target name bytes h =
    let full = h.full in
    let size = h.size in
    let known : has_part name (own_parts slot target.parts) ≡ true =
    has_own slot name target.parts (full_slot slot name full) ∙ h.known in
    let plain = h.plain in
    let room : leb (stored_in_use slot twins source target name (store_blocks target name bytes))
    (cap_of target.device) ≡ true =
    le-leb (stored_in_use slot twins source target name (store_blocks target name bytes))
    (cap_of target.device) h.room in
    rw (full, size, known, plain, room) refl

pub stored_passes : (slot : ℕ) (twins : List Part) (source target : Layout) (name : List ℕ)
    (bytes : ℕ) (l : Layout)
    → stored slot twins source target name bytes ≡ Ok l
    → IsStored slot twins source target name bytes
    × (l ≡ with_store slot source target name (store_blocks target name bytes))
unfolding stored
stored_passes slot twins source target name bytes l h =
    let a = unless_ok _ _ _ l h in
    let b = unless_ok _ _ _ l a.1 in
    let c = unless_ok _ _ _ l b.1 in
    let d = unless_ok _ _ _ l c.1 in
    let e = unless_ok _ _ _ l d.1 in
    let is =
    ok_same (with_store slot source target name (store_blocks target name bytes)) l
    (Ok (with_store slot source target name (store_blocks target name bytes))) refl e.1 in (
      record {
        full = a.0;
        size = b.0;
        known = sym (has_own slot name target.parts (full_slot slot name a.0)) ∙ c.0;
        plain = not-true (has_part (store_of name) target.parts) d.0;
        room = leb-true (stored_in_use slot twins source target name
            (store_blocks target name bytes))
            (cap_of target.device) e.0;
      },
      is,
    )

-- What an edit answers: the refusals in their order, and what stands where there is none.
use Rattle.std.proofs.Common.{◌≡◌, ℕ, ◌+◌, ◌^◌, ◌<◌, ◌≤◌, Bool, true, false, leb, ltb, List}
use Rattle.std.proofs.Common.{length, refl, sym, ◌∙◌, Result, Ok, Err}
use Rattle.std.proofs.lemmas.Bool.{le-leb, lt-leb, lt-ltb, le-ltb, leb-true, ltb-true, not-true}
use Rattle.vab_names.specs.Names.{is_full, most_partitions}
use Rattle.vab_space.specs.Space.{blocks_of}
use Rattle.vab_tables.specs.declared.table.Table.{Table}
use Rattle.vab_tables.specs.Rules.{cap_of}
use Rattle.vab_layout.specs.declared.layout.Part.{Part}
use Rattle.vab_layout.specs.declared.layout.Layout.{Layout}
use Rattle.vab_layout.specs.Slots.{own_parts}
use Rattle.vab_builder.specs.declared.fault.EditFault.{EditFault}
use Rattle.vab_builder.specs.declared.fault.EditFault.TheVariants.{BadName, BadSize, Unknown}
use Rattle.vab_builder.specs.declared.fault.EditFault.TheVariants.{Exists, HasStore, TooMany}
use Rattle.vab_builder.specs.declared.fault.EditFault.TheVariants.{GroupLimit, NoRoom, TableFull}
use Rattle.vab_builder.specs.declared.fault.EditFault.TheVariants.{NoMemory}
use Rattle.vab_builder.specs.Sizes.{has_part, is_within}
use Rattle.vab_builder.specs.Edits.{unless, with_created, created}
use Rattle.vab_builder.specs.Gives.{GivesTable}
use Rattle.vab_names.proofs.NameCases.{full_slot}
use Rattle.vab_builder.proofs.PartLaws.{has_own}
use Rattle.vab_builder.specs.Passes.{created_group_sum, created_group_limit}
use Rattle.vab_builder.specs.Passes.{created_in_use, IsCreated}

pub unless_ok : (t : Bool) (fault : EditFault) (next : Result Layout EditFault) (l : Layout)
    → unless t fault next ≡ Ok l → (t ≡ true) × (next ≡ Ok l)
unless_ok true fault next l h = (refl, h)
unless_ok false fault next l h = absurd (cc)

pub ok_same : (a l : Layout) (said : Result Layout EditFault) → said ≡ Ok a → said ≡ Ok l → l ≡ a
ok_same a l said e h = cc

-- a refusal before the table's text is measured
pub gives_refusal : (fault : EditFault) (said : Result Layout EditFault)
    → said ≡ Err fault
    → (let r : Result Table EditFault = Err fault in GivesTable r said)
gives_refusal NoMemory said h = tt
gives_refusal BadName said h = h
gives_refusal BadSize said h = h
gives_refusal Unknown said h = h
gives_refusal Exists said h = h
gives_refusal HasStore said h = h
gives_refusal (TooMany n) said h = h
gives_refusal (GroupLimit u l) said h = h
gives_refusal (NoRoom u c) said h = h
gives_refusal (TableFull s m) said h = h

-- ---- a partition more

pub created-bad_name : (slot : ℕ) (twins : List Part) (source target : Layout) (name : List ℕ)
    (bytes : ℕ)
    → is_full slot name ≡ false → created slot twins source target name bytes ≡ Err BadName
unfolding created
created-bad_name slot twins source target name bytes full = rw full refl

pub created-bad_size : (slot : ℕ) (twins : List Part) (source target : Layout) (name : List ℕ)
    (bytes : ℕ)
    → is_full slot name ≡ true → 2 ^ 40 < bytes
    → created slot twins source target name bytes ≡ Err BadSize
unfolding created
created-bad_size slot twins source target name bytes full long = let size : leb bytes (2 ^ 40)
    ≡ false =
    lt-leb bytes (2 ^ 40) long in rw (full, size) refl

pub created-exists : (slot : ℕ) (twins : List Part) (source target : Layout) (name : List ℕ)
    (bytes : ℕ)
    → is_full slot name ≡ true → bytes ≤ 2 ^ 40 → has_part name target.parts ≡ true
    → created slot twins source target name bytes ≡ Err Exists
unfolding created
created-exists slot twins source target name bytes full short there =
    let size : leb bytes (2 ^ 40) ≡ true = le-leb bytes (2 ^ 40) short in
    let known : has_part name (own_parts slot target.parts) ≡ true =
    has_own slot name target.parts (full_slot slot name full) ∙ there in
    rw (full, size, known) refl

pub created-too_many : (slot : ℕ) (twins : List Part) (source target : Layout) (name : List ℕ)
    (bytes : ℕ)
    → is_full slot name ≡ true → bytes ≤ 2 ^ 40 → has_part name target.parts ≡ false
    → most_partitions ≤ length (own_parts slot target.parts)
    → created slot twins source target name bytes
    ≡ Err (TooMany (length (own_parts slot target.parts) + 1))
unfolding created
created-too_many slot twins source target name bytes full short absent many =
    let size : leb bytes (2 ^ 40) ≡ true = le-leb bytes (2 ^ 40) short in
    let known : has_part name (own_parts slot target.parts) ≡ false =
    has_own slot name target.parts (full_slot slot name full) ∙ absent in
    let few : ltb (length (own_parts slot target.parts)) most_partitions ≡ false =
    le-ltb (length (own_parts slot target.parts)) most_partitions many in
    rw (full, size, known, few) refl

pub created-group_limit : (slot : ℕ) (twins : List Part) (source target : Layout) (name : List ℕ)
    (bytes sum limit : ℕ)
    → is_full slot name ≡ true → bytes ≤ 2 ^ 40 → has_part name target.parts ≡ false
    → length (own_parts slot target.parts) < most_partitions
    → sum ≡ created_group_sum slot target name (blocks_of bytes)
    → limit ≡ created_group_limit slot target → is_within sum limit ≡ false
    → created slot twins source target name bytes ≡ Err (GroupLimit sum limit)
unfolding created
created-group_limit slot twins source target name bytes sum limit full short absent small sum-is
    limit-is
    outside =
    let size : leb bytes (2 ^ 40) ≡ true = le-leb bytes (2 ^ 40) short in
    let known : has_part name (own_parts slot target.parts) ≡ false =
    has_own slot name target.parts (full_slot slot name full) ∙ absent in
    let few : ltb (length (own_parts slot target.parts)) most_partitions ≡ true =
    lt-ltb (length (own_parts slot target.parts)) most_partitions small in
    let over : is_within (created_group_sum slot target name (blocks_of bytes))
    (created_group_limit slot target) ≡ false = rw (← sum-is, ← limit-is) outside in
    rw (sum-is, limit-is) (rw (full, size, known, few, over) refl)

pub created-no_room : (slot : ℕ) (twins : List Part) (source target : Layout) (name : List ℕ)
    (bytes used cap : ℕ)
    → is_full slot name ≡ true → bytes ≤ 2 ^ 40 → has_part name target.parts ≡ false
    → length (own_parts slot target.parts) < most_partitions
    → is_within (created_group_sum slot target name (blocks_of bytes))
    (created_group_limit slot target) ≡ true
    → used ≡ created_in_use slot twins source target name (blocks_of bytes)
    → cap ≡ cap_of target.device
    → cap < used → created slot twins source target name bytes ≡ Err (NoRoom used cap)
unfolding created
created-no_room slot twins source target name bytes used cap full short absent small within used-is
    cap-is
    over =
    let size : leb bytes (2 ^ 40) ≡ true = le-leb bytes (2 ^ 40) short in
    let known : has_part name (own_parts slot target.parts) ≡ false =
    has_own slot name target.parts (full_slot slot name full) ∙ absent in
    let few : ltb (length (own_parts slot target.parts)) most_partitions ≡ true =
    lt-ltb (length (own_parts slot target.parts)) most_partitions small in
    let more : cap_of target.device < created_in_use slot twins source target name
    (blocks_of bytes) =
    rw (← used-is, ← cap-is) over in
    let room : leb (created_in_use slot twins source target name (blocks_of bytes))
    (cap_of target.device)
    ≡ false =
    lt-leb (created_in_use slot twins source target name (blocks_of bytes)) (cap_of target.device)
    more in
    rw (used-is, cap-is) (rw (full, size, known, few, within, room) refl)

pub created-ok : (slot : ℕ) (twins : List Part) (source target : Layout) (name : List ℕ) (bytes : ℕ)
    → IsCreated slot twins source target name bytes
    → created slot twins source target name bytes
    ≡ Ok (with_created slot twins source target name (blocks_of bytes))
unfolding created
created-ok slot twins source target name bytes h =
    let full = h.full in
    let size : leb bytes (2 ^ 40) ≡ true = le-leb bytes (2 ^ 40) h.size in
    let known : has_part name (own_parts slot target.parts) ≡ false =
    has_own slot name target.parts (full_slot slot name full) ∙ h.absent in
    let few : ltb (length (own_parts slot target.parts)) most_partitions ≡ true =
    lt-ltb (length (own_parts slot target.parts)) most_partitions h.few in
    let within = h.within in
    let room : leb (created_in_use slot twins source target name (blocks_of bytes))
    (cap_of target.device)
    ≡ true =
    le-leb (created_in_use slot twins source target name (blocks_of bytes)) (cap_of target.device)
    h.room in
    rw (full, size, known, few, within, room) refl

pub created_passes : (slot : ℕ) (twins : List Part) (source target : Layout) (name : List ℕ)
    (bytes : ℕ) (l : Layout)
    → created slot twins source target name bytes ≡ Ok l
    → IsCreated slot twins source target name bytes
    × (l ≡ with_created slot twins source target name (blocks_of bytes))
unfolding created
created_passes slot twins source target name bytes l h =
    let own : List Part = own_parts slot target.parts in
    let a = unless_ok _ _ _ l h in
    let b = unless_ok _ _ _ l a.1 in
    let c = unless_ok _ _ _ l b.1 in
    let d = unless_ok _ _ _ l c.1 in
    let e = unless_ok _ _ _ l d.1 in
    let f = unless_ok _ _ _ l e.1 in
    let is =
    ok_same (with_created slot twins source target name (blocks_of bytes)) l
    (Ok (with_created slot twins source target name (blocks_of bytes))) refl f.1 in (
      record {
        full = a.0;
        size = leb-true bytes (2 ^ 40) b.0;
        absent = sym (has_own slot name target.parts (full_slot slot name a.0))
            ∙ not-true (has_part name own) c.0;
        few = ltb-true (length own) most_partitions d.0;
        within = e.0;
        room = leb-true (created_in_use slot twins source target name (blocks_of bytes))
            (cap_of target.device) f.0;
      },
      is,
    )

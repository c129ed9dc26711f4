-- The layouts that the edits give, by what the code makes of the target.
use Rattle.std.proofs.Common.{◌≡◌, ℕ, ◌-◌, ◌^◌, ◌≤◌, true, false, eqb, List, [], ◌∷◌}
use Rattle.std.proofs.Common.{length, refl, ap, ◌∙◌, inl, inr, arith}
use Rattle.std.specs.Prelude.{Contains}
use Rattle.std.specs.Str.{bytes_eq}
use Rattle.std.proofs.lemmas.Bool.{cases_Bool, eq-eqb, ne_eqb, and_parts, leb-true}
use Rattle.vab_names.specs.Names.{is_full, is_of_slot, store_of}
use Rattle.vab_space.specs.Space.{need_of, blocks_of}
use Rattle.vab_tables.specs.Rules.{NamesDiffer, cap_of}
use Rattle.vab_layout.specs.declared.layout.Part.{Part}
use Rattle.vab_layout.specs.declared.layout.Layout.{Layout}
use Rattle.vab_layout.specs.Slots.{blocks_named, before_of, own_parts, IsOwn}
use Rattle.vab_builder.specs.Edits.{free_of, kept_blocks, resized_blocks, resized_part, updated}
use Rattle.vab_builder.specs.Edits.{changed, store_blocks, with_resized}
use Rattle.vab_blocks.proofs.Contained.{first, later, of_filter}
use Rattle.vab_names.proofs.NameCases.{same_name, full_slot}
use Rattle.vab_builder.proofs.OwnLaws.{own_rules}
use Rattle.vab_builder.proofs.PartLaws.{named_cases, named_is, part_there, has_own}
use Rattle.vab_builder.proofs.RoomLaws.{resize_room, store_room}
use Rattle.vab_builder.specs.Sizes.{has_part, used_by, wants_resized, wants_stored}
use Rattle.vab_builder.specs.Update.{IsUpdateBeside}
use Rattle.vab_builder.specs.Passes.{store_size}
use Rattle.vab_builder.specs.Edits.{resized_to}
use Rattle.vab_builder.proofs.Bounds.{either_small}

pub changed_same : (name : List ℕ) (f g : Part → Part) (parts : List Part)
    → ((p : Part) → Contains parts p → p.name ≡ name → f p ≡ g p)
    → changed name f parts ≡ changed name g parts
changed_same name f g [] h = refl
changed_same name f g (p ∷ ps) h =
    let rest = changed_same name f g ps (λ q c e. h q (later p ps q c) e) in
    elim (cases_Bool (bytes_eq p.name name)) [
      | inl named ↦
          let here = h p (first p ps) (same_name p.name name named) in
          rw named (ap (λ (q : Part). q ∷ changed name f ps) here
          ∙ ap (λ (l : List Part). g p ∷ l) rest)
      | inr other ↦ rw other (ap (λ (l : List Part). p ∷ l) rest)
    ]

pub resized_alike : (slot : ℕ) (twins : List Part) (source target : Layout) (name : List ℕ) (n : ℕ)
    → NamesDiffer (λ q. q.name) target.parts
    → changed name (λ p. record (updated p) { blocks = resized_to slot twins source target name n })
    target.parts ≡ changed name (resized_part slot twins source target n) target.parts
resized_alike slot twins source target name n differ =
    changed_same name (λ p. record (updated p)
    { blocks = resized_to slot twins source target name n })
    (resized_part slot twins source target n) target.parts (λ p c e.
    let blocks : blocks_named name target.parts ≡ p.blocks =
    named_is name target.parts p differ c e in
    let a : resized_to slot twins source target name n
    ≡ resized_blocks slot twins source target p n =
    rw (blocks, ← e) refl in
    ap (λ (bs : List ℕ). let q : Part =
    record { name = p.name; attributes = (updated p).attributes; group = p.group; blocks = bs }
    in q) a)

pub named_small : (slot : ℕ) (name : List ℕ) (parts : List Part) → IsOwn slot parts
    → is_of_slot slot name ≡ true → length (blocks_named name parts) ≤ 2 ^ 28
named_small slot name parts own of = elim (named_cases name parts) [
  | inl none ↦ omega (arith, ap length none)
  | inr r ↦ let is = own_rules slot parts r.0 own r.1 (ap (is_of_slot slot) r.2 ∙ of) in
      omega (arith, ap length r.3, is.size)
]

-- a store has few blocks
pub store_few : (slot : ℕ) (target : Layout) (name : List ℕ) (bytes : ℕ) → IsOwn slot target.parts
    → is_of_slot slot name ≡ true → store_size bytes ≡ true
    → store_blocks target name bytes ≤ 2 ^ 29
store_few slot target name bytes own of size =
    let all = named_small slot name target.parts own of in
    let short : bytes ≤ 2 ^ 40 = leb-true bytes (2 ^ 40) (and_parts _ _ size).0 in
    either_small (eqb bytes 0) (need_of (length (blocks_named name target.parts))) (blocks_of bytes)
    (2 ^ 29) (omega (arith, all)) (omega (arith, short))

pub same_size : (slot : ℕ) (twins : List Part) (source target : Layout) (name : List ℕ) (n : ℕ)
    → length (blocks_named name target.parts) ≡ n
    → with_resized slot twins source target name n ≡ target
same_size slot twins source target name n e =
    let test : eqb (length (blocks_named name target.parts)) n ≡ true =
    eq-eqb (length (blocks_named name target.parts)) n e in rw test refl

pub other_size : (slot : ℕ) (twins : List Part) (source target : Layout) (name : List ℕ) (n : ℕ)
    → (length (blocks_named name target.parts) ≡ n → ⊥)
    → with_resized slot twins source target name n
    ≡ record target { parts = changed name (resized_part slot twins source target n) target.parts }
other_size slot twins source target name n ne =
    let test : eqb (length (blocks_named name target.parts)) n ≡ false =
    ne_eqb (length (blocks_named name target.parts)) n ne in rw test refl

-- the target's partition of a name that it has
pub own_there : (slot : ℕ) (target : Layout) (name : List ℕ) → is_full slot name ≡ true
    → has_part name target.parts ≡ true
    → (p : Part) × Contains (own_parts slot target.parts) p × (p.name ≡ name)
own_there slot target name full there =
    let of = full_slot slot name full in
    part_there name (own_parts slot target.parts) (has_own slot name target.parts of ∙ there)

pub named_room : (slot : ℕ) (twins : List Part) (source target : Layout) (name : List ℕ) (n : ℕ)
    → IsUpdateBeside slot twins source target → is_full slot name ≡ true
    → has_part name target.parts ≡ true
    → used_by slot source.parts (wants_resized slot twins target.parts name n)
    ≤ cap_of target.device
    → n - length (kept_blocks (before_of slot twins name) (blocks_named name target.parts) n)
    ≤ length (free_of slot source target)
named_room slot twins source target name n update full there used =
    let r = own_there slot target name full there in
    let p : Part = r.0 in
    let in-target = (of_filter (λ q. is_of_slot slot q.name) target.parts p r.1).0 in
    let blocks = named_is name target.parts p update.target_rules.part_names in-target r.2 in
    let enough = rw r.2 at (resize_room slot twins source target name n p update r.1 r.2 used) in
    rw blocks enough

pub stored_room : (slot : ℕ) (twins : List Part) (source target : Layout) (name : List ℕ) (n : ℕ)
    → IsUpdateBeside slot twins source target → is_full slot name ≡ true
    → has_part name target.parts ≡ true
    → has_part (store_of name) target.parts ≡ false
    → used_by slot source.parts (wants_stored slot twins target.parts name n)
    ≤ cap_of target.device → n ≤ length (free_of slot source target)
stored_room slot twins source target name n update full there plain used =
    let r = own_there slot target name full there in
    store_room slot twins source target name n r.0 update r.1 r.2 plain used

-- The partition that an edit speaks of has the blocks that were asked for, and the others stay.
use Rattle.std.proofs.Common.{◌≡◌, ◌≢◌, ℕ, Bool, true, false, cond, ◌||◌, List, [], ◌∷◌, ◌++◌}
use Rattle.std.proofs.Common.{length, refl, sym, ◌∙◌, ap, subst, inl, inr, Ok}
use Rattle.std.specs.Prelude.{not, Contains}
use Rattle.std.specs.List.{filter}
use Rattle.std.specs.Str.{bytes_eq}
use Rattle.std.proofs.lemmas.Bool.{cases_Bool, cases_eq, or_parts}
use Rattle.vab_names.specs.Names.{is_of_slot, store_of}
use Rattle.vab_space.specs.Space.{blocks_of}
use Rattle.vab_tables.specs.Rules.{NamesDiffer}
use Rattle.vab_layout.specs.declared.layout.Part.{Part}
use Rattle.vab_layout.specs.declared.layout.Layout.{Layout}
use Rattle.vab_layout.specs.Slots.{blocks_named}
use Rattle.vab_builder.specs.declared.edit.Edit.{Edit}
use Rattle.vab_builder.specs.declared.edit.Edit.TheVariants.{Create, Resize, Delete, AddStore}
use Rattle.vab_builder.specs.Asked.{edited_name, HasBlocks, HasAsked, KeepsOthers}
use Rattle.vab_builder.specs.Edits.{changed, changed_beside, created_part, resized_part, updated}
use Rattle.vab_builder.specs.Edits.{store_part, store_blocks, with_created, with_resized}
use Rattle.vab_builder.specs.Edits.{with_deleted, with_store}
use Rattle.vab_builder.specs.Passes.{IsCreated, IsResized, IsStored}
use Rattle.vab_builder.specs.Sizes.{has_part}
use Rattle.vab_builder.specs.Update.{IsUpdateBeside}
use Rattle.vab_builder.proofs.ChangedTarget.{KeepsNames, either, either_name, changed_differ}
use Rattle.vab_blocks.proofs.Contained.{in_map, of_filter}
use Rattle.vab_builder.proofs.DeleteVerdicts.{deleted_passes}
use Rattle.vab_builder.proofs.EditLaws.{same_size, other_size, own_there}
use Rattle.vab_names.proofs.NameCases.{same_name, eq_name, ne_name}
use Rattle.vab_builder.proofs.PartLaws.{named_is}
use Rattle.vab_builder.proofs.ResizeVerdicts.{resized_passes}
use Rattle.vab_builder.proofs.RoomLaws.{created_size, resized_size, stored_size}
use Rattle.vab_builder.proofs.StoreVerdicts.{stored_passes}
use Rattle.vab_builder.proofs.Verdicts.{created_passes}

-- ---- a partition at the end

has_pushed : (name : List ℕ) (parts : List Part) (p : Part)
    → bytes_eq p.name name ≡ true
    → has_part name (parts ++ p ∷ []) ≡ true
has_pushed name [] p h = rw h refl
has_pushed name (q ∷ qs) p h = elim (cases_Bool (bytes_eq q.name name)) [
  | inl t ↦ rw t refl
  | inr f ↦ rw f (has_pushed name qs p h)
]

named_pushed : (name : List ℕ) (parts : List Part) (p : Part)
    → has_part name parts ≡ false
    → bytes_eq p.name name ≡ true
    → blocks_named name (parts ++ p ∷ []) ≡ p.blocks
named_pushed name [] p none h = rw h refl
named_pushed name (q ∷ qs) p none h =
    let parts = or_parts (bytes_eq q.name name) (has_part name qs) none in
    rw parts.0 (named_pushed name qs p parts.1 h)

others_pushed : (name : List ℕ) (parts : List Part) (p : Part)
    → bytes_eq p.name name ≡ false
    → (has_part name (parts ++ p ∷ []) ≡ has_part name parts)
    × (blocks_named name (parts ++ p ∷ []) ≡ blocks_named name parts)
others_pushed name [] p h = (rw h refl, rw h refl)
others_pushed name (q ∷ qs) p h =
    let rest = others_pushed name qs p h in (
      ap (λ (b : Bool). bytes_eq q.name name || b) rest.0,
      ap (λ (l : List ℕ). cond (bytes_eq q.name name) q.blocks l) rest.1,
    )

-- ---- a partition that is changed

has_changed : (name : List ℕ) (f : Part → Part) (other : List ℕ) (parts : List Part)
    → KeepsNames f
    → has_part other (changed name f parts) ≡ has_part other parts
has_changed name f other [] names = refl
has_changed name f other (p ∷ ps) names =
    ap (λ (n : List ℕ). bytes_eq n other || has_part other (changed name f ps))
    (either_name name f p names)
    ∙ ap (λ (b : Bool). bytes_eq p.name other || b) (has_changed name f other ps names)

-- the blocks of another name stay, and those of each name where the change leaves blocks as they
-- are
others_changed : (name : List ℕ) (f : Part → Part) (other : List ℕ) (parts : List Part)
    → KeepsNames f
    → ((p : Part) → p.name ≡ name → bytes_eq p.name other ≡ true → (f p).blocks ≡ p.blocks)
    → blocks_named other (changed name f parts) ≡ blocks_named other parts
others_changed name f other [] names keeps = refl
others_changed name f other (p ∷ ps) names keeps =
    let rest = others_changed name f other ps names keeps in
    let told = ap (λ (n : List ℕ). bytes_eq n other) (either_name name f p names) in
    elim (cases_Bool (bytes_eq p.name other)) [
      | inl here ↦
          let same : (either name f p).blocks ≡ p.blocks =
          elim (cases_Bool (bytes_eq p.name name)) [
            | inl e ↦ rw e (keeps p (same_name p.name name e) here)
            | inr ne ↦ rw ne refl
          ] in
          rw (told, here) same
      | inr there ↦ rw (told, there) rest
    ]

named_changed : (name : List ℕ) (f : Part → Part) (parts : List Part) (p : Part)
    → KeepsNames f
    → NamesDiffer (λ q. q.name) parts
    → Contains parts p
    → p.name ≡ name
    → blocks_named name (changed name f parts) ≡ (f p).blocks
named_changed name f parts p names differ c e =
    let is : either name f p ≡ f p = rw (eq_name p.name name e) refl in
    named_is name (changed name f parts) (either name f p)
    (changed_differ name f parts names differ)
    (in_map (either name f) parts p c) (either_name name f p names ∙ e)
    ∙ ap (λ (q : Part). q.blocks) is

-- ---- a partition that is taken out

gone : (name : List ℕ) (parts : List Part)
    → has_part name (filter (λ p. not (bytes_eq p.name name)) parts) ≡ false
gone name [] = refl
gone name (p ∷ ps) = elim (cases_Bool (bytes_eq p.name name)) [
  | inl t ↦ rw t (gone name ps)
  | inr f ↦ rw f (rw f (gone name ps))
]

others_left : (name other : List ℕ) (parts : List Part)
    → other ≢ name
    → (has_part other (filter (λ p. not (bytes_eq p.name name)) parts) ≡ has_part other parts)
    × (blocks_named other (filter (λ p. not (bytes_eq p.name name)) parts)
    ≡ blocks_named other parts)
others_left name other [] ne = (refl, refl)
others_left name other (p ∷ ps) ne =
    let rest = others_left name other ps ne in
    elim (cases_Bool (bytes_eq p.name name)) [
      | inl t ↦
          let no : bytes_eq p.name other ≡ false =
          ne_name p.name other (λ e. ne (sym e ∙ same_name p.name name t)) in
          (rw (t, no) rest.0, rw (t, no) rest.1)
      | inr f ↦ (
        rw f (ap (λ (b : Bool). bytes_eq p.name other || b) rest.0),
        rw f (ap (λ (l : List ℕ). cond (bytes_eq p.name other) p.blocks l) rest.1),
      )
    ]

-- ---- each edit

pub record IsDone (edit : Edit) (old new : Layout) : Type 0 where
  pub asked : HasAsked edit old new
  pub others : KeepsOthers (edited_name edit) old new

not_this : (name other : List ℕ) → other ≢ name → bytes_eq name other ≡ false
not_this name other ne = ne_name name other (λ e. ne (sym e))

created_done : (slot : ℕ) (twins : List Part) (source target : Layout) (name : List ℕ) (bytes : ℕ)
    → IsUpdateBeside slot twins source target
    → IsCreated slot twins source target name bytes
    → HasBlocks (with_created slot twins source target name (blocks_of bytes)) name
    (blocks_of bytes)
    × KeepsOthers name target (with_created slot twins source target name (blocks_of bytes))
created_done slot twins source target name bytes update is =
    let p : Part = created_part slot twins source target name (blocks_of bytes) in
    let this : bytes_eq p.name name ≡ true = eq_name p.name name refl in (
      record {
        there = has_pushed name target.parts p this;
        count = ap length (named_pushed name target.parts p is.absent this)
            ∙ created_size slot twins source target name (blocks_of bytes) update is.room;
      },
      λ other ne.
          let stay = others_pushed other target.parts p (not_this name other ne) in
          record { there = stay.0; blocks = stay.1 },
    )

resized_done : (slot : ℕ) (twins : List Part) (source target : Layout) (name : List ℕ) (bytes : ℕ)
    → IsUpdateBeside slot twins source target
    → IsResized slot twins source target name bytes
    → HasBlocks (with_resized slot twins source target name (blocks_of bytes)) name
    (blocks_of bytes)
    × KeepsOthers name target (with_resized slot twins source target name (blocks_of bytes))
resized_done slot twins source target name bytes update is =
    let n : ℕ = blocks_of bytes in
    let Done : Layout → Type 0 = λ l. HasBlocks l name n × KeepsOthers name target l in
    elim (cases_eq (length (blocks_named name target.parts)) n) [
      | inl same ↦ subst Done (sym (same_size slot twins source target name n same)) (
        record { there = is.known; count = same },
        λ other ne. record { there = refl; blocks = refl },
      )
      | inr new ↦
          let f : Part → Part = resized_part slot twins source target n in
          let names : KeepsNames f = λ p. refl in
          let r = own_there slot target name is.full is.known in
          let p : Part = r.0 in
          let c = (of_filter (λ q. is_of_slot slot q.name) target.parts p r.1).0 in
          subst Done (sym (other_size slot twins source target name n new)) (
            record {
              there = has_changed name f name target.parts names ∙ is.known;
              count = ap length
                  (named_changed name f target.parts p names update.target_rules.part_names c r.2)
                  ∙ resized_size slot twins source target name n p update r.1 r.2 is.room;
            },
            λ other ne. record {
              there = has_changed name f other target.parts names;
              blocks = others_changed name f other target.parts names
                  (λ q e here. absurd (ne (sym (same_name q.name other here) ∙ e)));
            },
          )
    ]

deleted_done : (target : Layout) (name : List ℕ)
    → (has_part name (with_deleted target name).parts ≡ false)
    × KeepsOthers name target (with_deleted target name)
deleted_done target name = (
  gone name target.parts,
  λ other ne.
      let stay = others_left name other target.parts ne in
      record { there = stay.0; blocks = stay.1 },
)

stored_done : (slot : ℕ) (twins : List Part) (source target : Layout) (name : List ℕ) (bytes : ℕ)
    → IsUpdateBeside slot twins source target
    → IsStored slot twins source target name bytes
    → HasBlocks (with_store slot source target name (store_blocks target name bytes))
    (store_of name) (store_blocks target name bytes)
    × KeepsOthers (store_of name) target
    (with_store slot source target name (store_blocks target name bytes))
stored_done slot twins source target name bytes update is =
    let n : ℕ = store_blocks target name bytes in
    let s : Part = store_part slot source target name n in
    let names : KeepsNames updated = λ p. refl in
    let marked : List Part = changed name updated target.parts in
    let this : bytes_eq s.name (store_of name) ≡ true = eq_name s.name (store_of name) refl in
    let absent : has_part (store_of name) marked ≡ false =
    has_changed name updated (store_of name) target.parts names ∙ is.plain in
    let r = own_there slot target name is.full is.known in (
      record {
        there = has_pushed (store_of name) marked s this;
        count = ap length (named_pushed (store_of name) marked s absent this)
            ∙ stored_size slot twins source target name n r.0 update r.1 r.2 is.plain is.room;
      },
      λ other ne.
          let stay = others_pushed other marked s (not_this (store_of name) other ne) in
          record {
            there = stay.0 ∙ has_changed name updated other target.parts names;
            blocks = stay.1
                ∙ others_changed name updated other target.parts names (λ q e here. refl);
          },
    )

pub edit_done : (slot : ℕ) (twins : List Part) (source target : Layout) (edit : Edit) (l : Layout)
    → IsUpdateBeside slot twins source target
    → changed_beside slot twins source target edit ≡ Ok l
    → IsDone edit target l
edit_done slot twins source target (Create name bytes) l update h =
    let r = created_passes slot twins source target name.now bytes l h in
    let done = created_done slot twins source target name.now bytes update r.0 in
    subst (IsDone (Create name bytes) target) (sym r.1) (record { asked = done.0; others = done.1 })
edit_done slot twins source target (Resize name bytes) l update h =
    let r = resized_passes slot twins source target name.now bytes l h in
    let done = resized_done slot twins source target name.now bytes update r.0 in
    subst (IsDone (Resize name bytes) target) (sym r.1) (record { asked = done.0; others = done.1 })
edit_done slot twins source target (Delete name) l update h =
    let r = deleted_passes slot target name.now l h in
    let done = deleted_done target name.now in
    subst (IsDone (Delete name) target) (sym r.1) (record { asked = done.0; others = done.1 })
edit_done slot twins source target (AddStore name bytes) l update h =
    let r = stored_passes slot twins source target name.now bytes l h in
    let done = stored_done slot twins source target name.now bytes update r.0 in
    subst (IsDone (AddStore name bytes) target) (sym r.1)
    (record { asked = done.0; others = done.1 })

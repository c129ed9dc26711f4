-- What a partition less answers.
use Rattle.std.proofs.Common.{◌≡◌, ℕ, true, false, List, refl, sym, ◌∙◌, Ok, Err}
use Rattle.std.proofs.lemmas.Bool.{not-true}
use Rattle.vab_names.specs.Names.{is_full, store_of}
use Rattle.vab_layout.specs.declared.layout.Layout.{Layout}
use Rattle.vab_layout.specs.Slots.{own_parts}
use Rattle.vab_builder.specs.declared.fault.EditFault.TheVariants.{BadName, Unknown, HasStore}
use Rattle.vab_builder.specs.Sizes.{has_part}
use Rattle.vab_builder.specs.Edits.{with_deleted, deleted}
use Rattle.vab_names.proofs.NameCases.{full_slot}
use Rattle.vab_builder.proofs.PartLaws.{has_own}
use Rattle.vab_builder.proofs.Verdicts.{unless_ok, ok_same}
use Rattle.vab_builder.specs.Passes.{IsDeleted}

pub deleted-bad_name : (slot : ℕ) (target : Layout) (name : List ℕ) → is_full slot name ≡ false
    → deleted slot target name ≡ Err BadName
unfolding deleted
deleted-bad_name slot target name full = rw full refl

pub deleted-unknown : (slot : ℕ) (target : Layout) (name : List ℕ) → is_full slot name ≡ true
    → has_part name target.parts ≡ false → deleted slot target name ≡ Err Unknown
unfolding deleted
deleted-unknown slot target name full absent =
    let known : has_part name (own_parts slot target.parts) ≡ false =
    has_own slot name target.parts (full_slot slot name full) ∙ absent in
    rw (full, known) refl

pub deleted-has_store : (slot : ℕ) (target : Layout) (name : List ℕ) → is_full slot name ≡ true
    → has_part name target.parts ≡ true → has_part (store_of name) target.parts ≡ true
    → deleted slot target name ≡ Err HasStore
unfolding deleted
deleted-has_store slot target name full there store =
    let known : has_part name (own_parts slot target.parts) ≡ true =
    has_own slot name target.parts (full_slot slot name full) ∙ there in
    rw (full, known, store) refl

pub deleted-ok : (slot : ℕ) (target : Layout) (name : List ℕ) → IsDeleted slot target name
    → deleted slot target name ≡ Ok (with_deleted target name)
unfolding deleted
deleted-ok slot target name h =
    let full = h.full in
    let known : has_part name (own_parts slot target.parts) ≡ true =
    has_own slot name target.parts (full_slot slot name full) ∙ h.known in
    let plain = h.plain in
    rw (full, known, plain) refl

pub deleted_passes : (slot : ℕ) (target : Layout) (name : List ℕ) (l : Layout)
    → deleted slot target name ≡ Ok l → IsDeleted slot target name × (l ≡ with_deleted target name)
unfolding deleted
deleted_passes slot target name l h =
    let a = unless_ok _ _ _ l h in
    let b = unless_ok _ _ _ l a.1 in
    let c = unless_ok _ _ _ l b.1 in
    let is = ok_same (with_deleted target name) l (Ok (with_deleted target name)) refl c.1 in (
      record {
        full = a.0;
        known = sym (has_own slot name target.parts (full_slot slot name a.0)) ∙ b.0;
        plain = not-true (has_part (store_of name) target.parts) c.0;
      },
      is,
    )

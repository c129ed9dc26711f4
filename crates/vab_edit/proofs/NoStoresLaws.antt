-- An edit that nothing keeps from the plan of a target that stands apart adds no partition to the
-- stores' group.
use Rattle.std.proofs.Common.{◌≡◌, ℕ, ◌<◌, inl, inr, Bool, true, false, List, [], ◌∷◌, length, Ok}
use Rattle.std.proofs.Common.{refl, sym, subst}
use Rattle.std.specs.Prelude.{◌==◌, ◌||◌, not, if◌then◌else◌, Option, Some, None, All, IsTrue}
use Rattle.std.specs.Str.{bytes_eq}
use Rattle.std.proofs.lemmas.Bool.{cases_Bool}
use Rattle.std.proofs.lemmas.List.Elements.{All-head, All-push, All-map, All-weaker, All-filter}
use Rattle.std.proofs.lemmas.List.Elements.{filter_passes}
use Rattle.vab_names.specs.Names.{is_of_slot, default_name, store_group_name}
use Rattle.vab_space.specs.Space.{blocks_of}
use Rattle.vab_tables.specs.declared.entries.Group.{Group}
use Rattle.vab_layout.specs.declared.layout.Part.{Part}
use Rattle.vab_layout.specs.declared.layout.Layout.{Layout}
use Rattle.vab_layout.specs.Plain.{own_groups}
use Rattle.vab_layout.specs.Slots.{blocks_named}
use Rattle.vab_builder.specs.declared.edit.Edit.{Edit}
use Rattle.vab_builder.specs.declared.edit.Edit.TheVariants.{Create, Resize, Delete, AddStore}
use Rattle.vab_builder.specs.Edits.{first_group, created_part, resized_part, with_resized}
use Rattle.vab_builder.specs.Edits.{changed_beside}
use Rattle.vab_builder.proofs.Verdicts.{created_passes}
use Rattle.vab_builder.proofs.ResizeVerdicts.{resized_passes}
use Rattle.vab_builder.proofs.DeleteVerdicts.{deleted_passes}
use Rattle.vab_model.specs.declared.command.Refusal.{Refusal}
use Rattle.vab_model.specs.declared.command.Refusal.TheVariants as refusals
use Rattle.vab_device.specs.declared.device.Part.{Part as PartOfDevice}
use Rattle.vab_device.specs.Kept.{is_no_store, HasNoStores}
use Rattle.vab_plan.proofs.NoStoreLaws.{no_store_group}
use Rattle.vab_edit.specs.Guards.{kept_from}

-- the first group of a slot is one of the slot, or that of no slot
first_is_own : (slot : ℕ) (gs : List Group)
    → All (λ g. is_of_slot slot g.name ≡ true) gs
    → (bytes_eq (first_group gs) default_name || is_of_slot slot (first_group gs)) ≡ true
first_is_own slot [] are = refl
first_is_own slot (g ∷ gs) are =
    let own = All-head (λ (h : Group). is_of_slot slot h.name ≡ true) g gs are in
    elim (cases_Bool (bytes_eq g.name default_name)) [
      | inl here ↦ rw here refl
      | inr other ↦ rw (other, own) refl
    ]

first_no_store : (slot : ℕ) (groups : List Group)
    → slot < 2
    → not (bytes_eq (first_group (own_groups slot groups)) store_group_name) ≡ true
first_no_store slot groups below =
    no_store_group slot (first_group (own_groups slot groups)) below
    (first_is_own slot (own_groups slot groups)
    (filter_passes (λ (g : Group). is_of_slot slot g.name) groups))

resized_no_stores : (slot : ℕ) (twins : List Part) (source target : Layout) (name : List ℕ) (n : ℕ)
    → All (λ p. IsTrue (is_no_store p)) target.parts
    → All (λ p. IsTrue (is_no_store p)) (with_resized slot twins source target name n).parts
resized_no_stores slot twins source target name n are =
    elim (cases_Bool (length (blocks_named name target.parts) == n)) [
      | inl same ↦ rw same are
      | inr other ↦
          rw other
          (All-map (λ (p : Part). IsTrue (is_no_store p))
          (λ (p : Part).
          if bytes_eq p.name name then resized_part slot twins source target n p else p)
          target.parts
          (All-weaker (λ (p : Part). IsTrue (is_no_store p))
          (λ (p : Part). IsTrue (is_no_store
          (if bytes_eq p.name name then resized_part slot twins source target n p else p)))
          one target.parts are))
    ]
  where
    one : (p : Part)
        → IsTrue (is_no_store p)
        → IsTrue (is_no_store
        (if bytes_eq p.name name then resized_part slot twins source target n p else p))
    one p of = elim (cases_Bool (bytes_eq p.name name)) [
      | inl here ↦ rw here of
      | inr other ↦ rw other of
    ]

pub edited_no_stores : (apart : Bool) (slot : ℕ) (twins : List Part)
    (source target after : Layout) (plan : List PartOfDevice) (edit : Edit)
    → slot < 2
    → changed_beside slot twins source target edit ≡ Ok after
    → kept_from apart slot plan edit ≡ None
    → HasNoStores apart target.parts
    → HasNoStores apart after.parts
edited_no_stores false slot twins source target after plan edit below h free are = tt
edited_no_stores true slot twins source target after plan (Create n bytes) below h free are =
    let is = created_passes slot twins source target n.now bytes after h in
    subst (λ (l : Layout). All (λ p. IsTrue (is_no_store p)) l.parts) (sym is.1)
    (All-push (λ (p : Part). IsTrue (is_no_store p)) target.parts
    (created_part slot twins source target n.now (blocks_of bytes)) are
    (first_no_store slot target.groups below))
edited_no_stores true slot twins source target after plan (Resize n bytes) below h free are =
    let is = resized_passes slot twins source target n.now bytes after h in
    subst (λ (l : Layout). All (λ p. IsTrue (is_no_store p)) l.parts) (sym is.1)
    (resized_no_stores slot twins source target n.now (blocks_of bytes) are)
edited_no_stores true slot twins source target after plan (Delete n) below h free are =
    let is = deleted_passes slot target n.now after h in
    subst (λ (l : Layout). All (λ p. IsTrue (is_no_store p)) l.parts) (sym is.1)
    (All-filter (λ (p : Part). not (bytes_eq p.name n.now))
    (λ (p : Part). IsTrue (is_no_store p)) target.parts are)
edited_no_stores true slot twins source target after plan (AddStore n bytes) below h free are =
    absurd (let bad : (let x : Option Refusal = Some refusals.InPlace in x ≡ None) = free in cc)

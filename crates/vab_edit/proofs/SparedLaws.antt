-- An edit leaves partitions alone that have stores, and those that are written in place.
use Rattle.std.proofs.Common.{◌≡◌, ◌≢◌, ℕ, ◌^◌, Bool, true, false, List, Ok, refl, sym, subst}
use Rattle.std.specs.Prelude.{Option, Some, None, nat_le}
use Rattle.std.proofs.lemmas.Bool.{both_ways, le-leb}
use Rattle.vab_names.specs.Names.{is_full, is_of_slot, base_of, store_of}
use Rattle.vab_model.specs.declared.command.Refusal.{Refusal}
use Rattle.vab_model.specs.declared.command.Refusal.TheVariants as refusals
use Rattle.vab_layout.specs.declared.layout.Part.{Part}
use Rattle.vab_layout.specs.declared.layout.Layout.{Layout}
use Rattle.vab_builder.specs.declared.edit.Edit.{Edit}
use Rattle.vab_builder.specs.declared.edit.Edit.TheVariants.{Create, Resize, Delete, AddStore}
use Rattle.vab_builder.specs.Asked.{edited_name}
use Rattle.vab_builder.specs.Edits.{changed_beside}
use Rattle.vab_builder.specs.Sizes.{has_part}
use Rattle.vab_builder.proofs.DeleteVerdicts.{deleted_passes}
use Rattle.vab_names.proofs.NameCases.{full_slot, store_not_own, store_of_same}
use Rattle.vab_builder.proofs.ResizeVerdicts.{resized_passes}
use Rattle.vab_builder.proofs.StoreVerdicts.{stored_passes}
use Rattle.vab_builder.proofs.Verdicts.{created_passes}
use Rattle.vab_device.specs.declared.device.Part.{Part as PartOfDevice}
use Rattle.vab_edit.specs.Carried.{planned_named}
use Rattle.vab_edit.specs.Guards.{is_settled, unless_settled, kept_from}

-- the edit is of no partition of this name, and not of its store
pub record IsSpared (edit : Edit) (name : List ℕ) : Type 0 where
  pub part : name ≢ edited_name edit
  pub store : store_of name ≢ edited_name edit

not_store : (slot : ℕ) (name full : List ℕ)
    → is_of_slot slot full ≡ true
    → store_of name ≢ full
not_store slot name full own e =
    store_not_own slot name (subst (λ (x : List ℕ). is_of_slot slot x ≡ true) (sym e) own)

not_plain : (target : Layout) (name plain : List ℕ)
    → has_part (store_of plain) target.parts ≡ false
    → has_part (store_of name) target.parts ≡ true
    → name ≢ plain
not_plain target name plain none there e =
    both_ways (has_part (store_of plain) target.parts) none
    (subst (λ (x : List ℕ). has_part (store_of x) target.parts ≡ true) e there)

pub spared : (slot : ℕ) (twins : List Part) (source target after : Layout) (edit : Edit)
    (name : List ℕ)
    → changed_beside slot twins source target edit ≡ Ok after
    → is_of_slot slot name ≡ true
    → has_part name target.parts ≡ true
    → has_part (store_of name) target.parts ≡ true
    → IsSpared edit name
spared slot twins source target after (Create n bytes) name h own there stored =
    let is = (created_passes slot twins source target n.now bytes after h).0 in
    record {
      part = λ e. both_ways (has_part n.now target.parts) is.absent
          (subst (λ (x : List ℕ). has_part x target.parts ≡ true) e there);
      store = not_store slot name n.now (full_slot slot n.now is.full);
    }
spared slot twins source target after (Resize n bytes) name h own there stored =
    let is = (resized_passes slot twins source target n.now bytes after h).0 in
    record {
      part = not_plain target name n.now is.plain stored;
      store = not_store slot name n.now (full_slot slot n.now is.full);
    }
spared slot twins source target after (Delete n) name h own there stored =
    let is = (deleted_passes slot target n.now after h).0 in
    record {
      part = not_plain target name n.now is.plain stored;
      store = not_store slot name n.now (full_slot slot n.now is.full);
    }
spared slot twins source target after (AddStore n bytes) name h own there stored =
    let is = (stored_passes slot twins source target n.now bytes after h).0 in
    record {
      part = λ e. store_not_own slot n.now
          (subst (λ (x : List ℕ). is_of_slot slot x ≡ true) e own);
      store = λ e. not_plain target name n.now is.plain stored (store_of_same name n.now e);
    }

-- ---- written in place

-- an edit that nothing keeps from the plan is of no partition that is written in place
not_settled : (apart passes : Bool) (slot : ℕ) (name n : List ℕ) (plan : List PartOfDevice)
    → is_full slot n ≡ true
    → passes ≡ true
    → is_settled apart (planned_named (base_of name) plan) ≡ true
    → unless_settled apart passes slot n plan ≡ None
    → name ≢ n
not_settled apart passes slot name n plan full pass settled free same =
    let here : is_settled apart (planned_named (base_of n) plan) ≡ true =
    subst (λ (x : List ℕ). is_settled apart (planned_named (base_of x) plan) ≡ true) same settled in
    let bad : (let x : Option Refusal = Some refusals.Written in x ≡ None) =
    rw (full, pass, here) at free in
    cc

pub settled_spared : (slot : ℕ) (twins : List Part) (source target after : Layout)
    (plan : List PartOfDevice) (edit : Edit) (name : List ℕ)
    → changed_beside slot twins source target edit ≡ Ok after
    → has_part name target.parts ≡ true
    → kept_from true slot plan edit ≡ None
    → is_settled true (planned_named (base_of name) plan) ≡ true
    → IsSpared edit name
settled_spared slot twins source target after plan (Create n bytes) name h there free settled =
    let is = (created_passes slot twins source target n.now bytes after h).0 in
    record {
      part = λ e. both_ways (has_part n.now target.parts) is.absent
          (subst (λ (x : List ℕ). has_part x target.parts ≡ true) e there);
      store = not_store slot name n.now (full_slot slot n.now is.full);
    }
settled_spared slot twins source target after plan (Resize n bytes) name h there free settled =
    let is = (resized_passes slot twins source target n.now bytes after h).0 in
    record {
      part = not_settled true (nat_le bytes (2 ^ 40)) slot name n.now plan is.full
          (le-leb bytes (2 ^ 40) is.size) settled free;
      store = not_store slot name n.now (full_slot slot n.now is.full);
    }
settled_spared slot twins source target after plan (Delete n) name h there free settled =
    let is = (deleted_passes slot target n.now after h).0 in
    record {
      part = not_settled true true slot name n.now plan is.full refl settled free;
      store = not_store slot name n.now (full_slot slot n.now is.full);
    }
settled_spared slot twins source target after plan (AddStore n bytes) name h there free settled =
    absurd (let bad : (let x : Option Refusal = Some refusals.InPlace in x ≡ None) = free in cc)

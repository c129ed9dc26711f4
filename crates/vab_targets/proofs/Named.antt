-- The entry of a name in the plan of a table.
use Rattle.std.proofs.Common.{◌≡◌, ◌∙◌, ℕ, true, false, List, [], ◌∷◌, inl, inr, refl}
use Rattle.std.proofs.Common.{ap}
use Rattle.std.proofs.Common.{length}
use Rattle.std.specs.Prelude.{Option, Some, None, is_some, map, option_map, Contains}
use Rattle.std.specs.Str.{bytes_eq}
use Rattle.std.proofs.lemmas.Bool.{cases_Bool}
use Rattle.vab_names.specs.Names.{is_of_slot, base_of, store_of}
use Rattle.vab_names.proofs.NameCases.{same_name}
use Rattle.vab_blocks.proofs.Contained.{first, later, of_filter}
use Rattle.vab_layout.specs.declared.layout.Part.{Part}
use Rattle.vab_layout.specs.declared.layout.Layout.{Layout}
use Rattle.vab_layout.specs.Slots.{own_parts}
use Rattle.vab_builder.specs.Sizes.{has_part}
use Rattle.vab_builder.proofs.PartLaws.{has_own}
use Rattle.vab_model.specs.declared.state.PlanEntry.{PlanEntry}
use Rattle.vab_model.specs.Plans.{entry_named}
use Rattle.vab_device.specs.Stores.{first_named}
use Rattle.vab_device.specs.Updates.{entry_by, plan_by}
use Rattle.vab_edit.proofs.NamedLaws.{base_eq}

-- the entry is that of the first partition of the name
pub first_entry : (o : ℕ) (f : Part → PlanEntry) (name : List ℕ) (ps : List Part)
    → ((p : Part) → (f p).name ≡ base_of p.name)
    → is_of_slot o name ≡ true
    → ((p : Part) → Contains ps p → is_of_slot o p.name ≡ true)
    → entry_named (base_of name) (map f ps) ≡ option_map f (first_named name ps)
first_entry o f name [] named of each = refl
first_entry o f name (p ∷ ps) named of each =
    let same : bytes_eq (f p).name (base_of name) ≡ bytes_eq p.name name =
    ap (λ (n : List ℕ). bytes_eq n (base_of name)) (named p)
    ∙ base_eq o p.name name (each p (first p ps)) of in
    elim (cases_Bool (bytes_eq p.name name)) [
      | inl t ↦ rw (same, t) refl
      | inr n ↦
          rw (same, n) (first_entry o f name ps named of (λ q c. each q (later p ps q c)))
    ]

-- a partition of the name
pub record IsFound (name : List ℕ) (ps : List Part) : Type 0 where
  pub part : Part
  pub among : Contains ps part
  pub named : part.name ≡ name
  pub first_is : first_named name ps ≡ Some part

pub found : (name : List ℕ) (ps : List Part) → has_part name ps ≡ true → IsFound name ps
found name [] there = absurd cc
found name (p ∷ ps) there = elim (cases_Bool (bytes_eq p.name name)) [
  | inl t ↦ record {
    part = p;
    among = first p ps;
    named = same_name p.name name t;
    first_is = rw t refl;
  }
  | inr n ↦
      let rest : has_part name ps ≡ true = rw n at there in
      let r = found name ps rest in
      record {
        part = r.part;
        among = later p ps r.part r.among;
        named = r.named;
        first_is = rw n r.first_is;
      }
]

pub first_none : (name : List ℕ) (ps : List Part)
    → has_part name ps ≡ false
    → first_named name ps ≡ None
first_none name [] absent = refl
first_none name (p ∷ ps) absent = elim (cases_Bool (bytes_eq p.name name)) [
  | inl t ↦ let bad : true ≡ false = rw t at absent in absurd cc
  | inr n ↦ let rest : has_part name ps ≡ false = rw n at absent in rw n (first_none name ps rest)
]

first_some : (name : List ℕ) (ps : List Part) → is_some (first_named name ps) ≡ has_part name ps
first_some name [] = refl
first_some name (p ∷ ps) = elim (cases_Bool (bytes_eq p.name name)) [
  | inl t ↦ rw t refl
  | inr n ↦ rw n (first_some name ps)
]

some_map : {X Y : Type 0} (f : X → Y) (x : Option X) → is_some (option_map f x) ≡ is_some x
some_map f None = refl
some_map f (Some x) = refl

module _ (o : ℕ) (t : Layout) (plan : List PlanEntry) (again : plan ≡ plan_by o t plan) where
  own_each : (p : Part) → Contains (own_parts o t.parts) p → is_of_slot o p.name ≡ true
  own_each p c = (of_filter (λ (x : Part). is_of_slot o x.name) t.parts p c).1

  entry_is : (name : List ℕ)
      → is_of_slot o name ≡ true
      → entry_named (base_of name) plan
      ≡ option_map (entry_by t plan) (first_named name (own_parts o t.parts))
  entry_is name of =
      ap (entry_named (base_of name)) again
      ∙ first_entry o (entry_by t plan) name (own_parts o t.parts) (λ p. refl) of own_each

  -- no entry where there is no partition
  pub entry_absent : (name : List ℕ)
      → is_of_slot o name ≡ true
      → has_part name t.parts ≡ false
      → entry_named (base_of name) plan ≡ None
  entry_absent name of absent =
      entry_is name of
      ∙ ap (option_map (entry_by t plan))
      (first_none name (own_parts o t.parts) (has_own o name t.parts of ∙ absent))

  -- the entry where there is one
  pub entry_there : (name : List ℕ)
      → is_of_slot o name ≡ true
      → has_part name t.parts ≡ true
      → (f : IsFound name (own_parts o t.parts))
      × (entry_named (base_of name) plan ≡ Some (entry_by t plan f.part))
  entry_there name of there =
      let f = found name (own_parts o t.parts) (has_own o name t.parts of ∙ there) in
      (f, entry_is name of ∙ ap (option_map (entry_by t plan)) f.first_is)

  -- it has a store where the table has it
  pub store_there : (name : List ℕ) (p : Part)
      → p.name ≡ name
      → is_some (entry_by t plan p).store ≡ has_part (store_of name) t.parts
  store_there name p named =
      some_map (λ (s : Part). length s.blocks) (first_named (store_of p.name) t.parts)
      ∙ first_some (store_of p.name) t.parts
      ∙ ap (λ (n : List ℕ). has_part (store_of n) t.parts) named

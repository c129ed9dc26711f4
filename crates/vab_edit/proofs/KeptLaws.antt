-- What holds of a kept device with another table and plan of the target.
use Rattle.std.proofs.Common.{◌≡◌, inl, inr, ℕ, ◌+◌, ◌*◌, ◌≤◌, ◌<◌}
use Rattle.std.proofs.Common.{Bool, true, false, List, [], ◌∷◌, ◌++◌, get_or, refl}
use Rattle.std.proofs.Common.{subst, arith}
use Rattle.std.specs.Prelude.{map, All, Contains, Option, Some, None}
use Rattle.std.specs.Prelude.{option_map}
use Rattle.std.specs.Str.{bytes_eq}
use Rattle.std.proofs.lemmas.Bool.{cases_Bool}
use Rattle.std.proofs.lemmas.List.{length-map}
use Rattle.std.proofs.lemmas.List.Elements.{All-map, All-head, All-tail, All-contains}
use Rattle.vab_names.specs.Names.{is_of_slot, store_of}
use Rattle.vab_geometry.specs.declared.geometry.Geometry.{Geometry}
use Rattle.vab_tables.specs.Rules.{cap_of}
use Rattle.vab_layout.specs.declared.layout.Part.{Part as PartOfLayout}
use Rattle.vab_layout.specs.declared.layout.Layout.{Layout}
use Rattle.vab_layout.specs.Rules.{IsPart as IsPartOfLayout, IsLayout}
use Rattle.vab_layout.specs.Slots.{own_parts, store_parts, is_updated, IsDistinct}
use Rattle.vab_layout.specs.Slots.{IsTargetBeside, IsOwnPart}
use Rattle.vab_builder.proofs.Counting.{pieces_once}
use Rattle.vab_blocks.proofs.Contained.{of_filter}
use Rattle.std.proofs.lemmas.List.Elements.{Contains-append_left}
use Rattle.std.proofs.lemmas.List.Elements.{Contains-get_or}
use Rattle.vab_device.specs.declared.device.Part.{Part}
use Rattle.vab_device.specs.declared.device.PartImage.{PartImage}
use Rattle.vab_device.specs.declared.device.PartImage.TheVariants.{Kept, Declared, Written}
use Rattle.vab_device.specs.Kept.{lies_in, sectors_of, IsStore, IsStored}
use Rattle.vab_device.specs.Kept.{IsPart, AreParts}
use Rattle.vab_device.specs.Phases.{planned_image, planned_on, plan_of}
use Rattle.vab_device.specs.Stores.{first_named}
use Rattle.vab_edit.specs.Carried.{planned_named, written_by, with_written, carried}
use Rattle.vab_device.proofs.StoreParts.{store_is}
use Rattle.vab_device.proofs.OwnParts.{length-sectors_of, sectors_distinct, sectors_on, blocks_on}

-- ---- a plan with nothing written

nothing_stored : (size first : ℕ) (base : List ℕ) (o : Option PartOfLayout) (b : Bool)
    → ((q : PartOfLayout) → o ≡ Some q → IsStore size base (sectors_of first q.blocks))
    → IsStored size base (option_map (λ (q : PartOfLayout). sectors_of first q.blocks) o)
    (planned_image b None)
nothing_stored size first base None false is = tt
nothing_stored size first base None true is = tt
nothing_stored size first base (Some q) false is = is q refl
nothing_stored size first base (Some q) true is = is q refl

module _
    (size slot : ℕ) (g : Geometry) (l : Layout) (twins source : List PartOfLayout)
    (enough : 4120 ≤ size)
    (rules : IsLayout l)
    (target : IsTargetBeside slot twins source l.parts)
    (lies : lies_in size g l.device ≡ true) where
  first : ℕ
  first = l.device.first_logical_sector

  on : 4096 + l.device.first_logical_sector + 8 * cap_of l.device ≤ size
  on = blocks_on size g l.device enough rules.device lies

  once : All (λ p. IsDistinct p.blocks) (own_parts slot l.parts ++ store_parts slot l.parts)
  once =
      pieces_once (λ (p : PartOfLayout). p.blocks)
      (own_parts slot l.parts ++ store_parts slot l.parts)
      target.once

  in_cap : (p : PartOfLayout) → Contains l.parts p → All (λ b. b < cap_of l.device) p.blocks
  in_cap p c =
      (All-contains (IsPartOfLayout (cap_of l.device) l.groups) l.parts p rules.parts c).blocks

  fresh_is : (p : PartOfLayout)
      → Contains (own_parts slot l.parts) p
      → IsPart size (planned_on l [] p)
  fresh_is p c =
      let among = of_filter (λ (q : PartOfLayout). is_of_slot slot q.name) l.parts p c in
      let own = All-contains (IsOwnPart slot) (own_parts slot l.parts) p target.own.each c in
      let twice : Contains (own_parts slot l.parts ++ store_parts slot l.parts) p =
      Contains-append_left (own_parts slot l.parts) (store_parts slot l.parts) p c in
      record {
        name = own.base;
        on_disk = sectors_on l.device.first_logical_sector (cap_of l.device) size p.blocks on
            (in_cap p among.0);
        once = sectors_distinct l.device.first_logical_sector p.blocks
            (All-contains (λ (q : PartOfLayout). IsDistinct q.blocks)
            (own_parts slot l.parts ++ store_parts slot l.parts) p once twice);
        small = omega (arith, own.size, length-sectors_of l.device.first_logical_sector p.blocks);
        store = nothing_stored size l.device.first_logical_sector
            (sectors_of l.device.first_logical_sector p.blocks)
            (first_named (store_of p.name) l.parts) (is_updated p)
            (λ q is. store_is size slot g l enough rules target.once lies p q c is);
      }

  pub fresh_planned : AreParts size (plan_of slot l [])
  fresh_planned = record {
    each = All-map (IsPart size) (planned_on l []) (own_parts slot l.parts)
        (λ k d lt. fresh_is (get_or (own_parts slot l.parts) k d)
        (Contains-get_or (own_parts slot l.parts) k d lt));
    few = omega (arith, target.own.few, length-map (own_parts slot l.parts) (planned_on l []));
  }

-- ---- with what was written

named_planned : (size : ℕ) (name : List ℕ) (olds : List Part) (p : Part)
    → All (IsPart size) olds
    → planned_named name olds ≡ Some p
    → IsPart size p
named_planned size name [] p each is =
    absurd (let bad : (let x : Option Part = None in x ≡ Some p) = is in cc)
named_planned size name (q ∷ qs) p each is = elim (cases_Bool (bytes_eq q.name name)) [
  | inl t ↦
      let found : (let x : Option Part = Some q in x ≡ Some p) = rw t at is in
      let same : q ≡ p = cc in
      subst (IsPart size) same (All-head (IsPart size) q qs each)
  | inr f ↦ named_planned size name qs p (All-tail (IsPart size) q qs each) (rw f at is)
]

written_is : (size : ℕ) (p o : Part) (image : PartImage)
    → IsPart size p
    → IsPart size o
    → o.image ≡ image
    → IsPart size (written_by p o image)
written_is size p o Kept of_p of_o is = of_p
written_is size p o Declared of_p of_o is = of_p
written_is size p o (Written k es) of_p of_o is = record {
  name = of_p.name;
  on_disk = of_o.on_disk;
  once = of_o.once;
  small = of_o.small;
  store = subst (λ (i : PartImage). IsStored size o.map o.store i) is of_o.store;
}

carried_planned : (size : ℕ) (olds : List Part) (p : Part)
    → All (IsPart size) olds
    → IsPart size p
    → IsPart size (carried olds p)
carried_planned size olds p each of_p = go (planned_named p.name olds) refl
  where
    go : (x : Option Part) → planned_named p.name olds ≡ x → IsPart size (with_written p x)
    go None is = of_p
    go (Some o) is =
        written_is size p o o.image of_p (named_planned size p.name olds o each is) refl

pub all_carried : (size : ℕ) (olds plan : List Part)
    → AreParts size olds
    → AreParts size plan
    → AreParts size (map (carried olds) plan)
all_carried size olds plan of_olds of_plan = record {
  each = All-map (IsPart size) (carried olds) plan
      (λ k d lt. carried_planned size olds (get_or plan k d) of_olds.each (of_plan.each k d lt));
  few = omega (arith, of_plan.few, length-map plan (carried olds));
}

-- The partitions that are planned of a target's table keep the rules of a plan.
use Rattle.std.proofs.Common.{◌≡◌, ℕ, ◌≤◌, true}
use Rattle.std.proofs.Common.{false, List, [], get_or, Option, Some, None, refl}
use Rattle.std.proofs.Common.{subst, arith}
use Rattle.std.specs.Prelude.{Bool, Contains, option_map}
use Rattle.std.proofs.lemmas.List.{length-map, get_or-map}
use Rattle.std.proofs.lemmas.List.Elements.{All-map, Contains-get_or}
use Rattle.vab_names.specs.Names.{store_of}
use Rattle.vab_geometry.specs.declared.geometry.Geometry.{Geometry}
use Rattle.vab_tables.specs.declared.table.Table.{Table}
use Rattle.vab_tables.specs.Rules.{KeepsRules}
use Rattle.vab_layout.specs.declared.layout.Part.{Part as PartOfLayout}
use Rattle.vab_layout.specs.declared.layout.Layout.{Layout}
use Rattle.vab_layout.specs.Layout.{layout_of}
use Rattle.vab_layout.specs.Rules.{IsLayout}
use Rattle.vab_layout.proofs.LayoutLaws.{layout_keeps}
use Rattle.vab_layout.specs.Slots.{own_parts, is_updated, IsTargetBeside}
use Rattle.vab_device.specs.Kept.{lies_in, sectors_of, part_on}
use Rattle.vab_device.specs.Kept.{IsPart, AreParts, IsStore, IsStored}
use Rattle.vab_device.specs.Phases.{planned_image, planned_on, plan_of}
use Rattle.vab_device.specs.Stores.{first_named}
use Rattle.vab_plan.specs.Scans.{IsTargetTable}
use Rattle.vab_device.proofs.OwnParts.{parts_kept}
use Rattle.vab_device.proofs.StoreParts.{store_is}

-- ---- the partitions that are planned, with nothing written

stored : (size first : ℕ) (base : List ℕ) (x : Option PartOfLayout) (updated : Bool)
    → ((q : PartOfLayout) → x ≡ Some q → IsStore size base (sectors_of first q.blocks))
    → IsStored size base (option_map (λ q. sectors_of first q.blocks) x)
    (planned_image updated None)
stored size first base None false store = tt
stored size first base None true store = tt
stored size first base (Some q) false store = store q refl
stored size first base (Some q) true store = store q refl

module _
    (size slot : ℕ) (g : Geometry) (t : Table)
    (enough : 4120 ≤ size)
    (target : IsTargetTable slot t)
    (lies : lies_in size g (layout_of t).device ≡ true) where
  abbrev l : Layout
  l = layout_of t

  abbrev first : ℕ
  first = (layout_of t).device.first_logical_sector

  layout : IsLayout (layout_of t)
  layout = layout_keeps t target.rules

  planned_is : (p : PartOfLayout)
      → Contains (own_parts slot l.parts) p
      → IsPart size (part_on first p)
      → IsPart size (planned_on l [] p)
  planned_is p own part = record {
    name = part.name;
    on_disk = part.on_disk;
    once = part.once;
    small = part.small;
    store =
        stored size first (sectors_of first p.blocks) (first_named (store_of p.name) l.parts)
        (is_updated p)
        (λ q is. store_is size slot g l enough layout target.once lies p q own is);
  }

  pub plan_keeps : AreParts size (plan_of slot l [])
  plan_keeps =
      let mine : List PartOfLayout = own_parts slot l.parts in
      let parts = parts_kept size slot g l enough layout target.own lies in
      let long = length-map mine (part_on first) in
      record {
        each = All-map (IsPart size) (planned_on l []) mine
            (λ k d lt. planned_is (get_or mine k d) (Contains-get_or mine k d lt)
            (subst (IsPart size) (get_or-map (part_on first) mine k d (part_on first d) lt)
            (parts.each k (part_on first d) (omega (arith, lt, long)))));
        few = omega (arith, target.own.few, length-map mine (planned_on l []));
      }

-- the table of a target
pub target_table : (slot : ℕ) (twins source : List PartOfLayout) (t : Table)
    → KeepsRules t
    → IsTargetBeside slot twins source (layout_of t).parts
    → IsTargetTable slot t
target_table slot twins source t rules is = record {
  rules = rules;
  own = is.own;
  once = is.once;
}

-- What two tables of an update have in common: the blocks of the device, and the groups.
use Rattle.std.proofs.Common.{◌≡◌, ◌∙◌, ℕ, ◌<◌, true, List, [], ◌∷◌, refl, sym, ap, arith}
use Rattle.std.specs.Prelude.{None, map, ◌&&◌}
use Rattle.std.proofs.lemmas.Bool.{and_parts}
use Rattle.vab_names.specs.Names.{base_of}
use Rattle.vab_tables.specs.declared.entries.Group.{Group}
use Rattle.vab_tables.specs.declared.table.Table.{Table}
use Rattle.vab_layout.specs.Layout.{layout_of, first_device}
use Rattle.vab_layout.specs.Plain.{own_groups}
use Rattle.vab_layout.specs.Slots.{other_slot, groups_of_slot}
use Rattle.vab_partitions.specs.Twins.{are_twins, are_devices}
use Rattle.vab_partitions.proofs.TwinLaws.{twins_are, devices_are}
use Rattle.vab_model.specs.declared.state.GroupLimit.{GroupLimit}
use Rattle.vab_device.specs.declared.fault.StartFault.TheVariants.{BadTable}
use Rattle.vab_device.specs.Kept.{limits_of}
use Rattle.vab_device.specs.Phases.{twin_check}
use Rattle.vab_device.proofs.CheckLaws.{check_kept}

limit_of : List ℕ × ℕ → GroupLimit
limit_of p = record { name = p.0; limit = p.1 }

limits_map : (gs : List Group)
    → map
    (λ g.
    (let l : GroupLimit = record { name = base_of g.name; limit = g.maximum_size } in l))
    gs
    ≡ map limit_of (map (λ g. (base_of g.name, g.maximum_size)) gs)
unfolding limit_of
limits_map [] = refl
limits_map (g ∷ gs) =
    let here : GroupLimit = record { name = base_of g.name; limit = g.maximum_size } in
    ap (λ (ls : List GroupLimit). here ∷ ls) (limits_map gs)

limits_by : (slot : ℕ) (groups : List Group)
    → limits_of slot groups ≡ map limit_of (groups_of_slot slot groups)
limits_by slot groups = limits_map (own_groups slot groups)

module _ (slot : ℕ) (t u : Table) (below : slot < 2)
    (kept : twin_check (other_slot slot) t u ≡ None) where
  tests : (are_devices t.devices u.devices && are_twins (other_slot slot) t.groups u.groups) ≡ true
  tests =
      check_kept (are_devices t.devices u.devices && are_twins (other_slot slot) t.groups u.groups)
      (BadTable (other_slot slot)) kept

  both : (are_devices t.devices u.devices ≡ true)
      × (are_twins (other_slot slot) t.groups u.groups ≡ true)
  both =
      and_parts (are_devices t.devices u.devices)
      (are_twins (other_slot slot) t.groups u.groups) tests

  pub same_device : (layout_of t).device ≡ (layout_of u).device
  unfolding layout_of
  same_device = ap first_device ((devices_are t.devices u.devices).0 both.0)

  pub same_limits : limits_of slot t.groups ≡ limits_of (other_slot slot) u.groups
  same_limits =
      let back : other_slot (other_slot slot) ≡ slot = omega (arith, below) in
      limits_by slot t.groups
      ∙ ap (λ (n : ℕ). map limit_of (groups_of_slot n t.groups)) (sym back)
      ∙ ap (map limit_of) ((twins_are (other_slot slot) t.groups u.groups).0 both.1)
      ∙ sym (limits_by (other_slot slot) u.groups)

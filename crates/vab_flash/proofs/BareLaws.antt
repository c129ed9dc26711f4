-- No partition of a target that stands apart has a store.
use Rattle.std.proofs.Common.{◌≡◌, ◌∙◌, ℕ, List, get_or, refl, sym, true, false}
use Rattle.std.specs.Prelude.{Option, Some, None, All, Contains}
use Rattle.std.proofs.lemmas.List.Elements.{Contains-get_or}
use Rattle.vab_disk.specs.Disk.{Image}
use Rattle.vab_names.specs.Names.{is_of_slot, store_of}
use Rattle.vab_blocks.proofs.Contained.{of_filter}
use Rattle.vab_layout.specs.declared.layout.Part.{Part as PartOfLayout}
use Rattle.vab_layout.specs.Layout.{layout_of}
use Rattle.vab_layout.specs.Slots.{other_slot, own_parts, twins_by}
use Rattle.vab_device.specs.declared.device.Device.{Device}
use Rattle.vab_device.specs.Kept.{IsDevice}
use Rattle.vab_device.specs.Stores.{first_named}
use Rattle.vab_device.proofs.NamedParts.{named_in}
use Rattle.vab_flash.proofs.ApartLaws.{store_rule}
use Rattle.vab_flash.proofs.DeadLaws.{Tables, tables_kept}
use Rattle.vab_flash.proofs.InstallingLaws.{Installs}
use Rattle.vab_flash.proofs.PlacedLaws.{store_group}

module _ (d : Device) (size : ℕ) (image : Image) (i : Installs d size image)
    (dev : IsDevice d size) (apart : i.base.apart ≡ true) where
  abbrev parts : List PartOfLayout
  parts = (layout_of i.target).parts

  abbrev owns : List PartOfLayout
  owns = own_parts (other_slot i.slot) parts

  t : Tables d size image i
  t = tables_kept d size image i dev

  none_found : (p : PartOfLayout) (o : Option PartOfLayout)
      → Contains owns p
      → first_named (store_of p.name) parts ≡ o
      → o ≡ None
  none_found p None c found = refl
  none_found p (Some q) c found =
      let own : is_of_slot (other_slot i.slot) p.name ≡ true =
      (of_filter (λ r. is_of_slot (other_slot i.slot) r.name) parts p c).1 in
      let beside : i.base.apart ≡ false =
      store_group i.base.apart parts q t.no_stores
      (named_in (store_of p.name) parts q found).0
      (store_rule i.slot (twins_by i.base.apart (layout_of i.source).parts)
      (layout_of i.source).parts parts p.name q t.below t.target own found).group in
      absurd (let no : true ≡ false = sym apart ∙ beside in cc)

  pub all_bare : All (λ p. first_named (store_of p.name) parts ≡ None) owns
  all_bare k x lt =
      let p : PartOfLayout = get_or owns k x in
      none_found p (first_named (store_of p.name) parts) (Contains-get_or owns k x lt) refl

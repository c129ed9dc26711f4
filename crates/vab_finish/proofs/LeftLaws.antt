-- Of a target that stands apart nothing is left to merge: no store has an exception.
use Rattle.std.proofs.Common.{◌≡◌, ◌∙◌, ℕ, List, [], ◌∷◌, length, refl, sym, ap, subst, true, arith}
use Rattle.std.specs.Prelude.{Option, Some, None, option_map, map, All}
use Rattle.std.proofs.lemmas.List.Elements.{All-head, All-tail}
use Rattle.vab_disk.specs.Disk.{Image}
use Rattle.vab_names.specs.Names.{store_of}
use Rattle.vab_layout.specs.declared.layout.Part.{Part as PartOfLayout}
use Rattle.vab_layout.specs.Layout.{layout_of}
use Rattle.vab_layout.specs.Slots.{other_slot, own_parts}
use Rattle.vab_model.specs.Machine.{exceptions_in}
use Rattle.vab_device.specs.declared.device.Part.{Part}
use Rattle.vab_device.specs.declared.device.PartImage.{PartImage}
use Rattle.vab_device.specs.declared.device.PartImage.TheVariants.{Kept, Declared, Written}
use Rattle.vab_device.specs.declared.device.Device.{Device}
use Rattle.vab_device.specs.Kept.{IsDevice, IsPart, IsStored, ArePresent, AreParts, sectors_of}
use Rattle.vab_device.specs.Mounted.{count_of, count_in, entry_on}
use Rattle.vab_device.specs.Phases.{planned_on, plan_of}
use Rattle.vab_device.specs.Reading.{Represents}
use Rattle.vab_device.specs.Stores.{first_named}
use Rattle.vab_flash.proofs.BareLaws.{all_bare}
use Rattle.vab_flash.proofs.InstallingLaws.{Installs, installs_of}
use Rattle.vab_finish.proofs.FinalLaws.{count_planned}

-- without a store an image has no exceptions
bare_count : (size : ℕ) (base : List ℕ) (x : PartImage)
    → IsStored size base None x
    → count_of x ≡ 0
bare_count size base Kept is = refl
bare_count size base Declared is = refl
bare_count size base (Written k es) is = ap length is

bare_part : (size : ℕ) (p : Part) → IsPart size p → p.store ≡ None → count_of p.image ≡ 0
bare_part size p is none =
    bare_count size p.map p.image
    (subst (λ (o : Option (List ℕ)). IsStored size p.map o p.image) none is.store)

no_store : (at : ℕ) (o : Option PartOfLayout)
    → o ≡ None
    → option_map (λ q. sectors_of at q.blocks) o ≡ None
no_store at o none = ap (option_map (λ (q : PartOfLayout). sectors_of at q.blocks)) none

module _ (d : Device) (size : ℕ) (image : Image) (dev : IsDevice d size)
    (is : Represents d size image) (plan : List Part) (plan_is : d.plan ≡ Some plan)
    (apart : d.mark.apart ≡ true) where
  i : Installs d size image
  i = installs_of d size image plan is plan_is

  abbrev Bare : PartOfLayout → Type 0
  Bare p = first_named (store_of p.name) (layout_of i.target).parts ≡ None

  count_bare : (ps : List PartOfLayout)
      → All Bare ps
      → All (IsPart d.tail.super_end) (map (planned_on (layout_of i.target) i.scanned) ps)
      → count_in (map (planned_on (layout_of i.target) i.scanned) ps) ≡ 0
  count_bare [] bare all = refl
  count_bare (p ∷ ps) bare all =
      let x : Part = planned_on (layout_of i.target) i.scanned p in
      let xs : List Part = map (planned_on (layout_of i.target) i.scanned) ps in
      let here : count_of x.image ≡ 0 =
      bare_part d.tail.super_end x (All-head (IsPart d.tail.super_end) x xs all)
      (no_store (layout_of i.target).device.first_logical_sector
      (first_named (store_of p.name) (layout_of i.target).parts)
      (All-head Bare p ps bare)) in
      let rest : count_in xs ≡ 0 =
      count_bare ps (All-tail Bare p ps bare) (All-tail (IsPart d.tail.super_end) x xs all) in
      omega (arith, here, rest)

  -- so a finish leaves nothing to merge
  pub nothing_left : exceptions_in (map (entry_on image) plan) ≡ 0
  nothing_left =
      let planned : List Part = plan_of (other_slot i.slot) (layout_of i.target) i.scanned in
      let both : Some plan ≡ Some planned =
      sym plan_is ∙ ap (λ (k : Device). k.plan) i.is in
      let same : plan ≡ planned = cc in
      let all : AreParts d.tail.super_end planned =
      subst (AreParts d.tail.super_end) same
      (subst (λ (o : Option (List Part)). ArePresent d.tail.super_end o) plan_is dev.plan) in
      count_planned image plan
      ∙ ap count_in same
      ∙ count_bare (own_parts (other_slot i.slot) (layout_of i.target).parts)
      (all_bare d size image i dev (sym (ap (λ (k : Device). k.mark.apart) i.is) ∙ apart)) all.each

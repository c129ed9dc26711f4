use Rattle.std.proofs.Common.{◌≡◌, ◌<◌, ℕ, List, Ok, ap, sym, subst, ◌∙◌, refl}
use Rattle.vab_names.specs.Names.{base_of}
use Rattle.vab_device.specs.declared.device.Part.{Part}
use Rattle.vab_device.specs.declared.device.Device.{Device}
use Rattle.vab_device.specs.Mounted.{image_on}
use Rattle.vab_manager.specs.Found.{found_part}
use Rattle.vab_manager.specs.Blocks.{slot_named, KeepsPart}
use Rattle.vab_manager.proofs.BlockLaws.{found_keeps, found_full, slot_below}
use Rattle.vab_model.proofs.Names.{full_long}
use Rattle.vab_manager.proofs.FoundLaws.{found_by, found_is}
use Rattle.vab_manager.proofs.blocks.locate.Goals as goal

keeps : (d : Device) (slot : ℕ) (name : List ℕ) (p : Part)
    → slot ≡ slot_named name
    → found_part d name ≡ Ok p
    → KeepsPart d slot (base_of name) p
keeps d slot name p is found = subst (λ (s : ℕ). KeepsPart d s (base_of name) p) (sym is)
    (found_keeps d name p found)

pub returns-in-Ok-clause-part : goal.returns-in-Ok-clause-part
returns-in-Ok-clause-part c =
    let d = c.args.device.now in
    let name = c.args.name.now in
    let p = c.in-Ok.part.now in
    let is = c.slot_named.ensures in (
      subst (λ (s : ℕ). s < 2) (sym is) (slot_below name),
      full_long (slot_named name) name
          (found_full d name p c.in-Ok.ensures),
      p,
      keeps d c.slot_named.result name p is
          c.in-Ok.ensures,
      c.len.ensures.count,
    )

pub returns-in-Ok-clause-image : goal.returns-in-Ok-clause-image
returns-in-Ok-clause-image c = λ seen.
    let d = c.args.device.now in
    let name = c.args.name.now in
    let p = c.in-Ok.part.now in (
      image_on seen p,
      found_is d c.requires.kept.0 seen name c.requires.kept.1 ∙ ap (found_by seen) c.in-Ok.ensures,
      p,
      keeps d
          c.slot_named.result name p c.slot_named.ensures c.in-Ok.ensures,
      refl,
    )

pub returns-in-Err-clause-refused : goal.returns-in-Err-clause-refused
returns-in-Err-clause-refused c = λ seen.
    found_is c.args.device.now c.requires.kept.0 seen c.args.name.now c.requires.kept.1
    ∙ ap (found_by seen) c.in-Err.ensures

use Rattle.std.proofs.Common.{◌∙◌, ℕ, ◌*◌, Some, length, sym, ap, arith}
use Rattle.vab_names.specs.Names.{base_of}
use Rattle.vab_device.specs.declared.device.Part.{Part}
use Rattle.vab_manager.proofs.BlockLaws.{kept_once, part_kept}
use Rattle.vab_manager.proofs.SeenLaws.{read_long, read_on_disk}
use Rattle.vab_model.specs.Effects.{Found}
use Rattle.vab_device.specs.Mounted.{state_on, sectors_read}
use Rattle.vab_fbvars.specs.Variables.{size_found, size_planned, or_else}
use Rattle.vab_fbvars.proofs.OnDevice.{bytes_long}
use Rattle.vab_fbvars.proofs.images.size_of.Goals as goal

pub overflow_mul-result : goal.overflow_mul-result
overflow_mul-result c =
    let part = c.in-Ok.ensures.part in
    let kept = part_kept c.args.device.now c.requires.0 c.in-Ok.field-0-0 (base_of c.args.name.now)
    part.2 c.requires.1 part.3 in
    omega (arith, kept.small, part.4)

pub returns-in-Ok : goal.returns-in-Ok
returns-in-Ok c = λ size image is sectors.
    let d = c.args.device.now in
    let slot = c.in-Ok.field-0-0 in
    let base = base_of c.args.name.now in
    let part = c.in-Ok.ensures.part in
    let found = c.in-Ok.ensures.image image in
    let kept = part_kept d size slot base found.2 is found.3 in
    let same = kept_once d slot base found.2 part.2 found.3 part.3 in
    ap (λ (f : Found). or_else (size_found f)
    (size_planned (state_on d image).phase c.args.name.now))
    found.1
    ∙ ap (λ (n : ℕ). Some n)
    (ap length found.4
    ∙ bytes_long image size (sectors_read found.2) sectors (read_on_disk size found.2 kept)
    ∙ ap (λ (n : ℕ). 4096 * n) (read_long found.2)
    ∙ ap (λ (p : Part). 4096 * length p.map) same
    ∙ ap (λ (n : ℕ). 4096 * n) (sym part.4))

pub returns-in-Err : goal.returns-in-Err
returns-in-Err c = λ size image is sectors.
    let d = c.args.device.now in
    ap (λ (f : Found). or_else (size_found f)
    (size_planned (state_on d image).phase c.args.name.now))
    (c.in-Err.ensures.refused image)
    ∙ c.planned_size.ensures image

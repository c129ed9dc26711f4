use Rattle.std.proofs.Common.{◌∙◌, ◌*◌, ℕ, List, Some, sym, ap}
use Rattle.std.proofs.Common.{arith}
use Rattle.std.specs.Option.{option_copied}
use Rattle.vab_model.proofs.Names.{full_long}
use Rattle.vab_device.specs.Mounted.{state_on}
use Rattle.vab_fbvars.specs.Planned.{kept_planned, bytes_planned}
use Rattle.vab_fbvars.proofs.OnDevice.{none_planned, some_planned, kept_small}
use Rattle.vab_fbvars.proofs.images.planned_size.Goals as goal

pub returns-then-not-is_full : goal.returns-then-not-is_full
unfolding state_on
returns-then-not-is_full c = λ image.
    let d = c.args.device.now in
    none_planned d image c.args.name.now
    (sym c.is_full.ensures ∙ c.if-not-is_full.true)

pub base_of-requires : goal.base_of-requires
base_of-requires c =
    full_long _ c.args.name.now (sym c.is_full.ensures ∙ c.if-not-is_full.false)

pub overflow_mul-result : goal.overflow_mul-result
overflow_mul-result c =
    let d = c.args.device.now in
    let found = sym c.planned.ensures ∙ ap option_copied c.in-Some.is in
    let small = kept_small d.tail.super_end c.base_of.result.now d.plan c.in-Some.part.now
    c.requires.1.plan found in
    omega (arith, small, c.len.ensures.count)

pub returns-in-Some : goal.returns-in-Some
unfolding state_on
returns-in-Some c = λ image.
    let d = c.args.device.now in
    let found = sym c.planned.ensures ∙ ap option_copied c.in-Some.is in
    some_planned d image c.args.name.now
    (sym c.is_full.ensures ∙ c.if-not-is_full.false)
    ∙ ap (λ (b : List ℕ). bytes_planned (kept_planned b d.plan)) (sym c.base_of.ensures)
    ∙ ap bytes_planned found
    ∙ ap (λ (n : ℕ). Some (4096 * n)) (sym c.len.ensures.count)

pub returns-in-None : goal.returns-in-None
unfolding state_on
returns-in-None c = λ image.
    let d = c.args.device.now in
    let found = sym c.planned.ensures ∙ ap option_copied c.in-None.is in
    some_planned d image c.args.name.now
    (sym c.is_full.ensures ∙ c.if-not-is_full.false)
    ∙ ap (λ (b : List ℕ). bytes_planned (kept_planned b d.plan)) (sym c.base_of.ensures)
    ∙ ap bytes_planned found

use Rattle.std.proofs.Common.{◌≡◌, ◌∙◌, length, arith, ap, sym, subst}
use Rattle.vab_bytes.specs.Name.{IsName}
use Rattle.vab_names.specs.Names.{base_of}
use Rattle.vab_layout.proofs.OwnNames.{base_is_name}
use Rattle.vab_machine.proofs.wipe.base.Goals as goal

pub base_of-requires : goal.base_of-requires
base_of-requires c = omega (arith, ap length c.text.ensures.value, c.requires)

pub unreachable-requires : goal.unreachable-requires
unreachable-requires c =
    let is : IsName (base_of c.args.name.now) =
    base_is_name c.args.name.now c.text.ensures.name c.requires in
    let same : c.base_of.result.now ≡ base_of c.args.name.now =
    c.base_of.ensures ∙ ap base_of c.text.ensures.value in
    absurd (cc ((c.in-Err.ensures).exact.1 (subst IsName (sym same) is)))

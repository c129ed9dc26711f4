use Rattle.std.proofs.Common.{◌∙◌, sym}
use Rattle.vab_bytes.proofs.NameLaws.{holds_name}
use Rattle.vab_bytes.proofs.name.Name36.parse.Goals as goal

pub invariant_of-result : goal.invariant_of-result
invariant_of-result c =
    rw c.field_of.ensures (holds_name c.args.text.now
    (sym c.is_name.ensures ∙ c.if-not-is_name.false))

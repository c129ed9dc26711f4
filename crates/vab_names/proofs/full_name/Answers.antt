use Rattle.vab_bytes.proofs.NameLaws.{name_bytes}
use Rattle.vab_names.proofs.NameLaws.{full_is_name}
use Rattle.vab_names.proofs.full_name.Goals as goal

pub joined-requires-clause-name : goal.joined-requires-clause-name
joined-requires-clause-name c = rw (c.text.ensures.value, c.suffix.ensures)
    (full_is_name c.args.slot c.args.base.now (name_bytes c.args.base.now c.text.ensures.name)
    c.requires.short)

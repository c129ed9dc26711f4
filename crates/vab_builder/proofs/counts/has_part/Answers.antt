use Rattle.std.proofs.Common.{sym, ap, ◌∙◌}
use Rattle.std.specs.List.{list_any}
use Rattle.std.specs.Str.{bytes_eq}
use Rattle.vab_builder.proofs.PartitionLaws.{named_by}
use Rattle.vab_builder.proofs.counts.has_part.Goals as goal

pub returns : goal.returns
returns c =
    let name = c.args.name.now in
    c.is_named.ensures
    ∙ ap (list_any (λ p. bytes_eq p.name name)) c.as_slice.ensures
    ∙ sym (named_by name c.args.table.now)

use Rattle.std.proofs.Common.{sym, ◌∙◌}
use Rattle.vab_builder.proofs.ChangeLaws.{removed_at, removed_none}
use Rattle.vab_builder.proofs.parts.remove_part.Goals as goal

pub returns-in-Some : goal.returns-in-Some
returns-in-Some c =
    let found = rw c.deref.ensures.value at c.in-Some.ensures in
    c.remove.ensures.items
    ∙ removed_at c.args.name.now c.args.parts.now.items c.in-Some.at c.remove.result c.requires
    (sym found)

pub returns-in-None : goal.returns-in-None
returns-in-None c =
    let none = rw c.deref.ensures.value at c.in-None.ensures in
    removed_none c.args.name.now c.args.parts.now.items (sym none)

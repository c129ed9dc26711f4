use Rattle.std.proofs.Common.{sym}
use Rattle.vab_builder.specs.Edits.{updated}
use Rattle.vab_builder.proofs.ChangeLaws.{changed_at, changed_none}
use Rattle.vab_builder.proofs.parts.mark_updated.Goals as goal

pub returns-in-Some : goal.returns-in-Some
returns-in-Some c =
    let found = rw c.deref.ensures.value at c.in-Some.ensures in
    changed_at c.args.name.now updated c.args.parts.now.items c.in-Some.at
    c.index_mut-part.result.now c.requires (sym found) c.index_mut-part.ensures.value

pub returns-in-None : goal.returns-in-None
returns-in-None c =
    let none = rw c.deref.ensures.value at c.in-None.ensures in
    changed_none c.args.name.now updated c.args.parts.now.items (sym none)

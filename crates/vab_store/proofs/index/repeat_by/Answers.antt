use Rattle.std.proofs.Common.{List, length, subst}
use Rattle.vab_store.specs.declared.index.Place.{Place}
use Rattle.vab_store.specs.Index.{TellsTie}
use Rattle.vab_store.proofs.SortLaws.{tells_of}
use Rattle.vab_store.proofs.index.repeat_by.Goals as goal

pub returns : goal.returns
returns c =
    tells_of c.args.key c.args.items.now c.in_ok-places.places.items c.first_tie.result
    c.in_ok-places.ensures
    (subst (λ (l : List Place). TellsTie l (length l) c.first_tie.result) c.deref.ensures.value
    c.first_tie.ensures)

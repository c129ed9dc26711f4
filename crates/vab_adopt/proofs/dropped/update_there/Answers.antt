use Rattle.std.proofs.Common.{◌∙◌, ℕ, List, ap}
use Rattle.vab_marks.specs.Mark.{mark_of}
use Rattle.vab_adopt.specs.Dropped.{dropped, update_of}
use Rattle.vab_adopt.proofs.dropped.update_there.Goals as goal

pub returns-clause-is : goal.returns-clause-is
unfolding dropped
returns-clause-is g c = λ t enough.
    c.update_in.ensures
    ∙ ap (λ (b : List ℕ). update_of (mark_of b)) (c.in_ok-get_sector.ensures.bytes t)

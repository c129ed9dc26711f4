use Rattle.std.proofs.Common.{◌≡◌, Ok, arith}
use Rattle.std.proofs.lemmas.Result.{on_ok_weaker}
use Rattle.vab_statuses.specs.Statuses.{statuses_in, no_statuses}
use Rattle.vab_statuses.proofs.StatusesLaws.{statuses_blank}
use Rattle.vab_statuses.proofs.writing.clear_statuses.Goals as goal

pub returns-clause-none : goal.returns-clause-none
returns-clause-none g c = λ t.
    on_ok_weaker {Q = statuses_in (g.D.Disk.seen c.zero_sectors.new.d) ≡ Ok no_statuses}
    c.zero_sectors.result
    (λ zeros.
    statuses_blank (g.D.Disk.seen c.zero_sectors.new.d)
    (λ s is. zeros s (record { from = omega (arith, is.from); below = omega (arith, is.below) })))
    (c.zero_sectors.ensures.zeros t)

use Rattle.vab_session.proofs.AloneLaws.{alone_effect}
use Rattle.vab_boots.proofs.Begins.{begins_alone}
use Rattle.vab_boots.proofs.boots.begun_merge_stands_alone.Goals as goal

pub returns-clause-begun : goal.returns-clause-begun
returns-clause-begun c = begins_alone

pub returns-clause-stays : goal.returns-clause-stays
returns-clause-stays c =
    λ m next staged command other slot images is later.
    alone_effect slot images m staged command other is next later

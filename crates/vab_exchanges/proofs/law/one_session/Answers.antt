use Rattle.vab_exchanges.proofs.Sessions.{any_session, only_one}
use Rattle.vab_exchanges.proofs.law.one_session.Goals as goal

pub returns-clause-some : goal.returns-clause-some
returns-clause-some c =
    λ most refused input are. let s =
    any_session most refused input are in (s.exchanges, s.unfinished, s.end, s.session)

pub returns-clause-only : goal.returns-clause-only
returns-clause-only c = only_one

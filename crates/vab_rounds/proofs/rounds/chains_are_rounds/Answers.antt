use Rattle.vab_rounds.proofs.Chains.{adopting_chain, chain, making_chain}
use Rattle.vab_rounds.proofs.rounds.chains_are_rounds.Goals as goal

pub returns-clause-runs : goal.returns-clause-runs
returns-clause-runs g c =
    λ modelled size first image runs is are none.
    chain g.P.Disk g.met.P.Disk.only_now modelled size first image runs is are none

pub returns-clause-making : goal.returns-clause-making
returns-clause-making g c =
    λ modelled size image r rs are none m words set limit max makes.
    making_chain g.P.Disk g.met.P.Disk.only_now modelled size image r rs are none m words set
    limit max makes

pub returns-clause-adopting : goal.returns-clause-adopting
returns-clause-adopting g c =
    λ modelled size image r rs are none slot words first is unrefused.
    adopting_chain g.P.Disk g.met.P.Disk.only_now modelled size image r rs are none slot words
    first is unrefused

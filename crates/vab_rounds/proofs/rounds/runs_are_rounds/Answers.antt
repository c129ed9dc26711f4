use Rattle.vab_rounds.proofs.Running.{adopting_is_round, making_is_round, run_is_round}
use Rattle.vab_rounds.proofs.rounds.runs_are_rounds.Goals as goal

pub returns-clause-runs : goal.returns-clause-runs
returns-clause-runs g c =
    λ modelled m old new status runs rest none first is o at.
    run_is_round g.P.Disk g.met.P.Disk.only_now modelled m old new status rest o at runs
    none first is

pub returns-clause-making : goal.returns-clause-making
returns-clause-making g c =
    λ modelled m old new status runs rest set limit max is o at.
    making_is_round g.P.Disk g.met.P.Disk.only_now modelled m old new status rest o at runs
    set limit max is

pub returns-clause-adopting : goal.returns-clause-adopting
returns-clause-adopting g c =
    λ modelled m old new status runs rest slot words first is none o at.
    adopting_is_round g.P.Disk g.met.P.Disk.only_now modelled m old new status rest o at runs
    slot words first is none

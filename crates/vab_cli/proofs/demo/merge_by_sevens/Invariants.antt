use Rattle.std.proofs.Common.{[], Ok, replicate}
use Rattle.vab_model.specs.Commands.{Merge}
use Rattle.vab_update.specs.Install.{order}
use Rattle.vab_cli.specs.Acts.{DoesActs, command_act}
use Rattle.vab_cli.proofs.demo.merge_by_sevens.Given as goal

abbrev pub invariant-loop-time : goal.invariant-loop-time
invariant-loop-time g l =
    DoesActs g.P.Disk l.fn.device (replicate l._time (command_act [] (Merge 7)))
    (replicate l._time (order (Merge 7))) l.fn.port l.port (Ok l.next)

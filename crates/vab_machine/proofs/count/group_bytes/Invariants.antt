use Rattle.std.proofs.Common.{◌≡◌, ◌+◌, ◌*◌, drop}
use Rattle.vab_model.specs.Plans.{group_bytes}
use Rattle.vab_machine.proofs.count.group_bytes.Given as goal

abbrev pub invariant-loop-entry : goal.invariant-loop-entry
invariant-loop-entry l = 4096 * l.blocks + group_bytes l.group (drop l.entry-index l.plan)
    ≡ group_bytes l.group l.plan

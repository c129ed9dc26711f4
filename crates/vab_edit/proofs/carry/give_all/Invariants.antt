use Rattle.std.proofs.Common.{◌≡◌, ◌≤◌, ◌<◌, ◌++◌, ℕ, length, get_or, map, take, drop}
use Rattle.vab_device.specs.declared.device.Part.{Part}
use Rattle.vab_edit.specs.Carried.{carried, planned_named}
use Rattle.vab_edit.proofs.carry.give_all.Given as goal

abbrev pub invariant-loop-i : goal.invariant-loop-i
invariant-loop-i l = record {
  plan : l.plan.items
      ≡ map (carried l.fn.olds.items) (take l.i l.fn.plan.items) ++ drop l.i l.fn.plan.items;
  left : (k : ℕ) (d : Part)
      → l.i ≤ k
      → k < length l.fn.plan.items
      → planned_named (get_or l.fn.plan.items k d).name l.left.items
      ≡ planned_named (get_or l.fn.plan.items k d).name l.fn.olds.items;
}

use Rattle.std.proofs.Common.{◌≡◌, suc, ◌+◌, ◌-◌, arith}
use Rattle.vab_bytes.specs.Crc.{crc_steps}
use Rattle.vab_bytes.proofs.crc.with_byte.Goals as goal

pub loop-preserved : goal.loop-preserved
unfolding crc_steps
loop-preserved c =
    let left : 8 - c.loop.counter ≡ suc (8 - (c.loop.counter + 1)) = omega arith in
    let before = rw left at c.loop.invariant in
    rw c.step-sum.ensures before

use Rattle.std.proofs.Common.{◌≡◌, ◌*◌, ◌-◌, ◌^◌, take}
use Rattle.std.specs.Prelude.{min, sum_by}
use Rattle.vab_tables.specs.declared.entries.Extent.{Extent}
use Rattle.vab_look.proofs.entries.bytes_of.Given as goal

abbrev pub invariant-loop-extent : goal.invariant-loop-extent
invariant-loop-extent l =
    l.bytes
    ≡ min (512 * sum_by (λ (e : Extent). e.sectors) (take l.extent-index l.extents)) (2 ^ 64 - 1)

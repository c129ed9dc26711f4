use Rattle.std.proofs.Common.{◌≡◌, ◌*◌, ◌<◌, length, arith, length-take}
use Rattle.vab_tables.proofs.decode.read_device.Goals as goal

pub slice_bounds-first-end : goal.slice_bounds-first-end
slice_bounds-first-end c =
    let len : length c.args.entries.bytes.now ≡ c.args.entries.count * 64 = c.requires in
    let some : 0 < c.args.entries.count = omega (arith, c.if-entries-eq0.false) in
    omega (arith, length-take 64 c.args.entries.bytes.now)

pub read_next-requires : goal.read_next-requires
read_next-requires c =
    let len : length c.args.entries.bytes.now ≡ c.args.entries.count * 64 = c.requires in
    let some : 0 < c.args.entries.count = omega (arith, c.if-entries-eq0.false) in
    omega (arith, length-take 64 c.args.entries.bytes.now)

use Rattle.std.proofs.Common.{◌≡◌, ◌-◌, ◌*◌, min, length, take, drop, refl, arith}
use Rattle.std.proofs.lemmas.List.{take_rest}
use Rattle.vab_gen.proofs.BlockLaws.{filled_up}
use Rattle.vab_gen.proofs.bytes.block_of.Goals as goal

pub returns : goal.returns
returns c =
    let text = c.args.bytes.now in
    let from = c.min-start.result in
    let rest = take (length text - from) (drop from text) in
    let start : from ≡ min (4096 * c.args.index) (length text) =
    omega (arith, c.min-start.ensures) in
    let size : c.min.result ≡ min 4096 (length rest) = omega (arith, c.min.ensures) in
    filled_up text rest c.args.index from c.min.result (length (take c.min.result rest))
    c.copy_from_slice.new.self start (take_rest text from) size c.copy_from_slice.ensures.after refl

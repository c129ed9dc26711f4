use Rattle.std.proofs.Common.{◌≡◌, ◌-◌, ◌*◌, min, length, take, drop, refl, arith}
use Rattle.std.proofs.lemmas.List.{take_rest}
use Rattle.vab_copies.proofs.Texts.{filled}
use Rattle.vab_copies.proofs.text.sector_of.Goals as goal

pub returns : goal.returns
returns c =
    let text = c.args.text.now in
    let start : c.min-start.result ≡ min (512 * c.args.k) (length c.args.text.now) =
    omega (arith, c.min-start.ensures) in
    let size : c.min.result ≡ min 512 (length
    (take (length c.args.text.now - c.min-start.result)
    (drop c.min-start.result c.args.text.now))) = omega (arith, c.min.ensures) in
    filled c.args.text.now (take (length c.args.text.now - c.min-start.result)
    (drop c.min-start.result c.args.text.now)) c.args.k c.min-start.result c.min.result
    (length (take c.min.result (take (length c.args.text.now - c.min-start.result)
    (drop c.min-start.result c.args.text.now)))) c.copy_from_slice.new.self
    start (take_rest c.args.text.now c.min-start.result) size c.copy_from_slice.ensures.after refl

use Rattle.std.proofs.Common.{◌≡◌, ◌∙◌, ℕ, ◌+◌, ◌*◌, ◌^◌, ◌<◌, ◌≤◌, List, length, get_or, take, ap}
use Rattle.std.proofs.Common.{arith}
use Rattle.std.proofs.lemmas.List.Elements.{All-weaker}
use Rattle.std.proofs.lemmas.List.Sums.{sum_by_more_le, sum_by-le}
use Rattle.vab_device.specs.declared.device.Part.{Part}
use Rattle.vab_device.specs.Kept.{IsPart}
use Rattle.vab_adopt.specs.Counting.{blocks_over}
use Rattle.vab_adopt.proofs.count.blocks_over.Goals as goal

pub overflow_add-sum : goal.overflow_add-sum
overflow_add-sum c =
    let parts : List Part = c.args.parts.now in
    let i : ℕ = c.loop-part.part-index in
    let part : Part = c.part-item.result in
    let lt : i < length parts = omega arith in
    let size : ℕ = c.requires.0 in
    let long : c.len-sum.result ≡ length (get_or parts i part).map =
    c.len-sum.ensures.count ∙ ap (λ (p : Part). length p.map) c.part-item.is in
    let fits : blocks_over (take i parts) + length (get_or parts i part).map ≤ blocks_over parts =
    sum_by_more_le (λ (p : Part). length p.map) parts i part lt in
    let most : blocks_over parts ≤ length parts * 2 ^ 28 =
    sum_by-le (λ (p : Part). length p.map) (2 ^ 28) parts
    (All-weaker (IsPart size) (λ (p : Part). length p.map ≤ 2 ^ 28) (λ p is. is.small) parts
    c.requires.1.each) in
    omega (arith, long, fits, most, c.loop-part.invariant, c.requires.1.few)

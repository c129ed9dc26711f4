use Rattle.std.proofs.Common.{◌≡◌, ◌⊎◌, inl, inr, ⊎_elim, ℕ, List, ◌+◌, ◌-◌, ◌*◌, ◌≤◌, ◌<◌, length}
use Rattle.std.proofs.Common.{refl, ap, ◌∙◌, arith, rules}
use borrow.Rule.Slice.PartMut.{put_mid}
use Rattle.std.specs.Vec.{with_items}
use Rattle.vab_gate.specs.Gate.{part}
use Rattle.vab_gate.proofs.Blocks.{length-put_mid}
use Rattle.vab_buffer.proofs.Parts.{part_put_before, part_put_here, more_over, more_kept, refilled}
use Rattle.vab_buffer.proofs.run.Run.push.Goals as goal

pub returns-clause-gains : goal.returns-clause-gains
returns-clause-gains c =
    let run = c.args.self.now in
    let n = run.count in
    let k = 512 * n + 512 - 512 * n in
    let bytes = c.deref_mut.result.now in
    let from = c.copy_from_slice.new.self in
    let same : bytes ≡ run.bytes.items = search rules in
    let is : from ≡ c.args.from.now = search rules in
    let long : length from ≡ 512 = search rules in
    let room : 512 * n + 512 ≤ length bytes = search rules in
    let put = put_mid (512 * n) k bytes from in
    let whole : length put ≡ run.bytes.len =
    length-put_mid (512 * n) k bytes from (omega (arith, room)) (omega (arith, long))
    ∙ ap (λ (b : List ℕ). length b) same
    ∙ omega (arith, run.bytes.ok.0) in
    let put_is : (with_items run.bytes put).items ≡ put = refilled run.bytes.len put _ whole in
    let takes : (n ≡ 0) ⊎ (c.args.at ≡ run.first + n) =
    ⊎_elim (λ none. inl none) (λ next. inr next.0) c.requires in
    let fits : n ≤ c.args.at =
    ⊎_elim (λ none. omega (arith, none)) (λ next. omega (arith, next)) takes in
    let front = λ (j : ℕ) (lt : j < n).
    ap (λ (b : List ℕ). part j b) put_is
    ∙ part_put_before j (512 * n) k bytes from (omega (arith, lt)) (omega (arith, room))
    ∙ ap (λ (b : List ℕ). part j b) same in
    let last : part n (with_items run.bytes put).items ≡ c.args.from.now =
    ap (λ (b : List ℕ). part n b) put_is
    ∙ part_put_here n k bytes from long (omega (arith, room))
    ∙ is in
    record {
      kept = more_kept n run.first _ c.args.at run.bytes.items c.args.from.now
          (with_items run.bytes put).items takes refl fits front last;
      over = more_over n run.first _ c.args.at run.bytes.items c.args.from.now
          (with_items run.bytes put).items takes refl fits front last;
    }

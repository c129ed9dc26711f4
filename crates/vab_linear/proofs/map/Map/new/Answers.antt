use Rattle.std.proofs.Common.{ℕ, ◌<◌, ◌+◌, ◌*◌, ◌/◌, ◌^◌, List, length, get_or, All, refl, sym}
use Rattle.std.proofs.Common.{subst, ap, ◌∙◌, arith, rules}
use Rattle.std.proofs.lemmas.List.Elements.{All-push}
use Rattle.std.proofs.lemmas.List.Sums.{sum_by_more}
use Rattle.vab_linear.specs.declared.map.Run.{Run}
use Rattle.vab_linear.specs.Map.{blocks_of}
use Rattle.vab_linear.specs.Held.{held_of}
use Rattle.vab_linear.proofs.Runs.{held_more, length-held_of-push}
use Rattle.vab_linear.proofs.map.Map.new.Goals as goal

pub loop-run-init : goal.loop-run-init
unfolding blocks_of held_of
loop-run-init c = search rules

pub loop-run-preserved : goal.loop-run-preserved
loop-run-preserved c =
    let i = c.loop-run.invariant in
    let pushed = c.in_ok-push.ensures in
    let run : ℕ × ℕ = get_or c.args.runs.now c.loop-run.run-index (0, 0) in
    let below : c.loop-run.run-index < length c.args.runs.now = omega arith in
    let r : Run = record { first = run.0; blocks = run.1 / 8 } in
    let fits : run.0 + run.1 < 2 ^ 63 = c.requires.ends c.loop-run.run-index (0, 0) below in
    record {
      counted = omega (
        arith,
        i.counted,
        ap (λ (l : List Run). length (held_of l)) pushed.items,
        length-held_of-push c.loop-run.held.items r,
      );
      ends = subst (All (λ (r : Run). r.first + 8 * r.blocks < 2 ^ 63))
          (sym {A = List Run} pushed.items)
          (All-push (λ (r : Run). r.first + 8 * r.blocks < 2 ^ 63) c.loop-run.held.items r i.ends
          (omega arith));
      same = ap held_of pushed.items ∙ held_more c.loop-run.held.items r c.args.runs.now
          c.loop-run.run-index (0, 0) below i.same refl refl;
      sum = omega (
        arith,
        i.sum,
        sum_by_more (λ (r : ℕ × ℕ). r.1) c.args.runs.now
            c.loop-run.run-index (0, 0) below,
      );
    }

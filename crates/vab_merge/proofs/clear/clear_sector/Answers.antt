use Rattle.std.proofs.Common.{◌≡◌, ◌∙◌, ◌+◌, ◌*◌, ap, ℕ, List, length, arith, rules, subst}
use Rattle.std.specs.Int.{w64, to_le_bytes}
use Rattle.vab_bytes.specs.Number.{put_at}
use Rattle.vab_merge.specs.Cleared.{IsCleared}
use Rattle.vab_merge.proofs.ClearLaws.{cleared_none, cleared_more}
use Rattle.vab_merge.proofs.clear.clear_sector.Goals as goal

pub loop-i-init : goal.loop-i-init
loop-i-init c = cleared_none c.args.from c.args.sector.now

pub loop-i-preserved : goal.loop-i-preserved
loop-i-preserved c =
    let i : ℕ = c.loop-i.i in
    let long : length c.args.sector.now ≡ 512 = search rules in
    cleared_more c.args.from i c.args.sector.now c.loop-i.sector c.put_le64-in-loop-i.new.b long
    (omega (arith, c.loop-i-test.true, c.requires.within)) (omega arith) c.loop-i.invariant
    (c.put_le64-in-loop-i.ensures
    ∙ ap (λ (b : List ℕ). put_at b (16 * i + 8) (to_le_bytes w64 0)) c.put_le64.ensures)

pub returns : goal.returns
returns c =
    let ends : c.loop-i.i ≡ c.args.to = omega
    (arith, c.loop-i-test.false, c.loop-i.auto.i-end, c.requires.order) in
    subst (λ (n : ℕ). IsCleared c.args.from n c.args.sector.now c.loop-i.sector) ends
    c.loop-i.invariant

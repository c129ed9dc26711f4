use Rattle.std.proofs.Common.{◌≡◌, ◌+◌, ◌-◌, ◌/◌, ◌<◌, ℕ, length, inl, inr, subst, arith}
use Rattle.std.proofs.lemmas.Bool.{cases_lt}
use Rattle.vab_store.specs.Index.{place_at}
use Rattle.vab_store.proofs.IndexLaws.{less_of, greater_of, halves_more, cost_more}
use Rattle.vab_store.proofs.index.place_of.Goals as goal

pub loop-low-preserved-in-Less : goal.loop-low-preserved-in-Less
loop-low-preserved-in-Less g c =
    let i = c.loop-low.invariant in
    let ps = c.args.index.now in
    let low = c.loop-low.low in
    let m = c.loop-low.high - low in
    let mid = low + m / 2 in
    let s = c.loop-low.steps - c.args.steps.now in
    let t = c.compare.new.self - c.args.steps.now in
    let some : low < c.loop-low.high = c.loop-low-test.true in
    let less : (place_at ps mid).key < c.args.key =
    less_of (place_at ps mid).key c.args.key c.in-Less.ensures.value in
    let more : t ≡ s + 1 = omega (arith, c.compare.ensures.step, i.grows) in
    let within : mid < length ps = omega (arith, some, i.within) in
    record {
      order = omega (arith, some);
      within = i.within;
      below = λ k lt. elim (cases_lt k mid) [
        | inl before ↦
            let under : (place_at ps k).key < (place_at ps mid).key =
            c.requires k mid before within in
            omega (arith, under, less)
        | inr last ↦
            let is : mid ≡ k = omega (arith, last, lt) in
            subst (λ (j : ℕ). (place_at ps j).key < c.args.key) is less
      ];
      above = i.above;
      grows = omega (arith, i.grows, c.compare.ensures.step);
      halves = halves_more s t m (c.loop-low.high - (mid + 1)) (length ps) more i.halves
          (omega (arith, some));
      cost = cost_more s t m (length ps) more i.halves (omega (arith, some));
    }

pub loop-low-preserved : goal.loop-low-preserved
loop-low-preserved g c =
    let i = c.loop-low.invariant in
    let ps = c.args.index.now in
    let low = c.loop-low.low in
    let m = c.loop-low.high - low in
    let mid = low + m / 2 in
    let s = c.loop-low.steps - c.args.steps.now in
    let t = c.compare.new.self - c.args.steps.now in
    let some : low < c.loop-low.high = c.loop-low-test.true in
    let more_key : c.args.key < (place_at ps mid).key =
    greater_of (place_at ps mid).key c.args.key c.in-Greater.ensures.value in
    let more : t ≡ s + 1 = omega (arith, c.compare.ensures.step, i.grows) in
    record {
      order = omega arith;
      within = omega (arith, some, i.within);
      below = i.below;
      above = λ k le lt. elim (cases_lt mid k) [
        | inl behind ↦
            let over : (place_at ps mid).key < (place_at ps k).key = c.requires mid k behind lt in
            omega (arith, over, more_key)
        | inr first ↦
            let is : mid ≡ k = omega (arith, first, le) in
            subst (λ (j : ℕ). c.args.key < (place_at ps j).key) is more_key
      ];
      grows = omega (arith, i.grows, c.compare.ensures.step);
      halves = halves_more s t m (mid - low) (length ps) more i.halves (omega (arith, some));
      cost = cost_more s t m (length ps) more i.halves (omega (arith, some));
    }

pub returns-in-Equal-clause-cost : goal.returns-in-Equal-clause-cost
returns-in-Equal-clause-cost g c =
    let i = c.loop-low.invariant in
    let s = c.loop-low.steps - c.args.steps.now in
    let t = c.compare.new.self - c.args.steps.now in
    let more : t ≡ s + 1 = omega (arith, c.compare.ensures.step, i.grows) in
    cost_more s t (c.loop-low.high - c.loop-low.low) (length c.args.index.now) more i.halves
    (omega (arith, c.loop-low-test.true))

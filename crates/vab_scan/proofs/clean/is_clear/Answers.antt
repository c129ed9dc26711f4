use Rattle.std.proofs.Common.{◌≡◌, ◌∙◌, inl, inr, sym, ap, arith}
use Rattle.std.proofs.lemmas.Bool.{cases_lt}
use Rattle.vab_exceptions.specs.Entries.{entry_at}
use Rattle.vab_store.proofs.CleanLaws.{clear_of, clear_fails}
use Rattle.vab_scan.proofs.clean.is_clear.Goals as goal

pub returns-then-le64_at-ne0 : goal.returns-then-le64_at-ne0
unfolding entry_at
returns-then-le64_at-ne0 c =
    sym (clear_fails c.args.page.now c.args.from c.loop-i.i c.loop-i.auto.i c.loop-i-test.true
    (λ zero. c.if-le64_at-ne0.true (c.le64_at.ensures ∙ zero)))

pub loop-i-preserved : goal.loop-i-preserved
unfolding entry_at
loop-i-preserved c k behind below =
    elim (cases_lt k c.loop-i.i) [
      | inl before ↦ c.loop-i.invariant k behind before
      | inr last ↦
          let here : k ≡ c.loop-i.i = omega (arith, below, last) in
          ap (λ i. (entry_at c.args.page.now i).new_chunk) here
          ∙ sym c.le64_at.ensures ∙ c.if-le64_at-ne0.false
    ]

pub returns : goal.returns
returns c =
    sym (clear_of c.args.page.now c.args.from
    (λ i behind below. c.loop-i.invariant i behind (omega (arith, below, c.loop-i-test.false))))

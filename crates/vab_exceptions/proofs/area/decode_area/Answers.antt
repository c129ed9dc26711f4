use Rattle.std.proofs.Common.{◌≡◌, ◌/◌, ℕ, ◌∷◌, ◌++◌, [], length, sym, ap, ◌∙◌, subst, arith, inl}
use Rattle.std.proofs.Common.{inr}
use Rattle.std.proofs.lemmas.Bool.{cases_lt}
use Rattle.vab_exceptions.specs.Entries.{firsts, entry_at, IsListed}
use Rattle.vab_exceptions.proofs.EntryLaws.{EndsAt, listed_is, length-firsts, firsts-more}
use Rattle.vab_exceptions.proofs.area.decode_area.Goals as goal

pub loop-i-init : goal.loop-i-init
unfolding firsts
loop-i-init c = record {
  read = c.new-area.ensures;
  listed = λ k below. absurd (omega (arith, below));
}

pub push-requires : goal.push-requires
push-requires c =
    let so_far : length c.loop-i.area.items ≡ c.loop-i.i =
    ap length c.loop-i.invariant.read ∙ length-firsts (entry_at c.args.bytes.now) c.loop-i.i in
    omega (arith, so_far, c.loop-i-test.true)

pub loop-i-preserved : goal.loop-i-preserved
loop-i-preserved c =
    let i = c.loop-i.invariant in
    let f = entry_at c.args.bytes.now in
    record {
      read =
          c.push.ensures.items
          ∙ ap (λ l. l ++ c.entry_at-entry.result ∷ []) i.read
          ∙ ap (λ e. firsts f c.loop-i.i ++ e ∷ []) c.entry_at-entry.ensures
          ∙ sym (firsts-more f c.loop-i.i);
      listed = λ k below. elim (cases_lt k c.loop-i.i) [
        | inl before ↦ i.listed k before
        | inr last ↦
            let is : c.loop-i.i ≡ k = omega (arith, last, below) in
            let here : IsListed (f c.loop-i.i) =
            subst IsListed c.entry_at-entry.ensures c.if-entry-eq0.false in
            subst (λ (j : ℕ). IsListed (f j)) is here
      ];
    }

pub returns-then-entry-eq0 : goal.returns-then-entry-eq0
returns-then-entry-eq0 c =
    let i = c.loop-i.invariant in
    let f = entry_at c.args.bytes.now in
    let ends : EndsAt f c.loop-i.i (length c.args.bytes.now / 16) = record {
      within = omega arith;
      before = i.listed;
      here = λ below. ap (λ e. e.new_chunk) (sym c.entry_at-entry.ensures) ∙ c.if-entry-eq0.true;
    } in
    i.read ∙ sym (listed_is f c.loop-i.i (length c.args.bytes.now / 16) ends)

pub returns : goal.returns
returns c =
    let i = c.loop-i.invariant in
    let f = entry_at c.args.bytes.now in
    let ends : EndsAt f c.loop-i.i (length c.args.bytes.now / 16) = record {
      within = omega arith;
      before = i.listed;
      here = λ below. absurd (omega (arith, below, c.loop-i-test.false));
    } in
    i.read ∙ sym (listed_is f c.loop-i.i (length c.args.bytes.now / 16) ends)

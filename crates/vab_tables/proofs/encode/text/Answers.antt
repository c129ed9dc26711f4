use Rattle.std.proofs.Common.{◌≡◌, ℕ, List, ◌++◌, length, arith, refl, ap, ◌∙◌}
use Rattle.vab_tables.specs.declared.table.Table.{Table}
use Rattle.vab_tables.specs.Text.{sum_of, no_sum}
use Rattle.vab_tables.specs.Spelling.{tables_text, header_front, header_back, header_sum_of}
use Rattle.vab_tables.specs.Spelling.{table_text}
use Rattle.vab_tables.proofs.SpellingLaws.{length-tables_text}
use Rattle.vab_tables.proofs.encode.text.Goals as goal

pub back-requires-clause-len : goal.back-requires-clause-len
back-requires-clause-len c =
    let t = c.args.table.now in
    let is : c.in_ok-tables.tables.items ≡ tables_text t = c.in_ok-tables.ensures in
    let value = c.deref.ensures.value in
    omega (
      arith,
      ap length is,
      ap length value,
      length-tables_text t c.requires.keeps,
      c.requires.small,
    )

made : (t : Table) (text sum b c tables : List ℕ) → text ≡ header_front ++ sum ++ c ++ tables
    → sum ≡ sum_of (header_front ++ no_sum ++ b) → b ≡ header_back t → c ≡ header_back t
    → tables ≡ tables_text t → text ≡ table_text t
unfolding table_text header_sum_of
made t text sum b c tables e s eb ec et = rw (e, s, eb, ec, et) refl

pub returns : goal.returns
unfolding header_front
returns c =
    let back = c.in_ok-back.ensures in
    made c.args.table.now c.in_ok-text.text.items c.sum_around-sum.result c.deref-2.result.now
    c.deref-3.result.now c.deref-4.result.now
    c.in_ok-text.ensures c.sum_around-sum.ensures (c.deref-2.ensures.value
    ∙ back) (c.deref-3.ensures.value ∙ back) (c.deref-4.ensures.value ∙ c.in_ok-tables.ensures)

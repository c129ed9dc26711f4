use Rattle.std.proofs.Common.{◌≡◌, ℕ, ◌<◌, ◌≤◌, ◌^◌, List, [], ◌++◌, length, subst, ap, sym, ◌∙◌}
use Rattle.std.proofs.lemmas.List.{append-nil}
use Rattle.std.proofs.lemmas.Result.{IfOk-weaker}
use Rattle.vab_tables.specs.declared.table.Table.{Table}
use Rattle.vab_tables.specs.Rules.{KeepsRules}
use Rattle.vab_tables.specs.Text.{IsTableText}
use Rattle.vab_tables.specs.Spelling.{table_size_of, as_minor_2, table_text}
use Rattle.vab_tables.proofs.SpellingLaws.{length-table_text, text_stands, text_read}
use Rattle.vab_tables.specs.Reading.{table_of}
use Rattle.vab_tables.proofs.encode.encode_table.Goals as goal

pub returns-clause-size : goal.returns-clause-size
returns-clause-size c =
    IfOk-weaker c.text.result _ _ (λ v e. ap length e
    ∙ length-table_text c.args.table.now c.requires.keeps) c.text.ensures

exactly : (max : ℕ) (t : Table) (text : List ℕ) → text ≡ table_text t → KeepsRules t
    → table_size_of t < 2 ^ 32 → table_size_of t ≤ max → IsTableText max text (as_minor_2 t)
exactly max t text e r small fits =
    let same : table_text t ++ [] ≡ text = append-nil (table_text t) ∙ sym e in
    subst (λ (x : List ℕ). IsTableText max x (as_minor_2 t)) same
    (text_stands max t [] r small fits)

pub returns-clause-stands : goal.returns-clause-stands
returns-clause-stands c =
    IfOk-weaker c.text.result _ _
    (λ v e max fits. exactly max c.args.table.now v.items e c.requires.keeps c.requires.small fits)
    c.text.ensures

pub returns-clause-read : goal.returns-clause-read
returns-clause-read c =
    IfOk-weaker c.text.result _ _
    (λ v e max fits. ap (table_of max) (e ∙ sym (append-nil (table_text c.args.table.now)))
    ∙ text_read max c.args.table.now [] c.requires.keeps c.requires.small fits) c.text.ensures

pub returns-clause-padded : goal.returns-clause-padded
returns-clause-padded c =
    IfOk-weaker c.text.result _ _
    (λ v e max rest fits. ap (λ (t : List ℕ). table_of max (t ++ rest)) e
    ∙ text_read max c.args.table.now rest c.requires.keeps c.requires.small fits) c.text.ensures

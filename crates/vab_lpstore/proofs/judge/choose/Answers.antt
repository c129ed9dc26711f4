use Rattle.std.proofs.Common.{◌≢◌, List, ℕ, subst, rules}
use Rattle.std.specs.Prelude.{IsTrue, ◌↔◌}
use Rattle.vab_tables.specs.declared.fault.TableFault.TheVariants as faults
use Rattle.vab_tables.specs.Text.{IsTableText}
use Rattle.vab_tables.specs.Reading.{table_of, Fails}
use Rattle.vab_lpstore.specs.Layout.{Begins}
use Rattle.vab_lpstore.proofs.Judging.{from_primary, from_backup, known_fault}
use Rattle.vab_lpstore.proofs.judge.choose.Goals as goal

pub returns-in-Ok-clause-loaded : goal.returns-in-Ok-clause-loaded
returns-in-Ok-clause-loaded c =
    from_primary c.args.max c.args.primary.items c.args.backup.items c.in-Ok.table
    c.text_of-text.result c.begins-backup.result
    (subst (λ (bytes : List ℕ). IsTableText c.args.max bytes c.in-Ok.table) c.deref.ensures.value
    c.in-Ok.ensures.found)
    c.text_of-text.ensures
    (subst (λ (bytes : List ℕ). IsTrue c.begins-backup.result ↔ Begins bytes c.text_of-text.result)
    c.deref-in-Ok.ensures.value c.begins-backup.ensures)

pub returns-in-Ok-decode_table-clause-loaded : goal.returns-in-Ok-decode_table-clause-loaded
returns-in-Ok-decode_table-clause-loaded c =
    let known : c.in-Err.fault ≢ faults.NoMemory = search rules in
    let fails : Fails c.in-Err.fault (table_of c.args.max c.args.primary.items) =
    subst (λ (bytes : List ℕ). Fails c.in-Err.fault (table_of c.args.max bytes))
    c.deref.ensures.value c.in-Err.ensures.exact in
    from_backup c.args.max c.args.primary.items c.args.backup.items c.in-Ok-decode_table.table
    c.text_of.result
    (known_fault c.args.max c.args.primary.items c.in-Err.fault known fails)
    (subst (λ (bytes : List ℕ). IsTableText c.args.max bytes c.in-Ok-decode_table.table)
    c.deref-2.ensures.value c.in-Ok-decode_table.ensures.found)
    c.text_of.ensures

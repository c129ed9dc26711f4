use Rattle.std.proofs.Common.{ℕ, List, Result, Ok, Err, arith, subst}
use Rattle.std.specs.Prelude.{IfOk}
use Rattle.vab_bytes.specs.Number.{IsBytes}
use Rattle.vab_tables.specs.declared.table.Table.{Table}
use Rattle.vab_tables.specs.declared.fault.TableFault.{TableFault}
use Rattle.vab_tables.specs.Text.{IsTableText}
use Rattle.vab_tables.proofs.TextLaws.{text_found, text_only}
use Rattle.vab_tables.specs.Reading.{Gives, table_of}
use Rattle.vab_tables.proofs.decode.decode_table.Goals as goal

found_by : (max : ℕ) (text : List ℕ) (r : Result Table TableFault) → IsBytes text
    → Gives (λ (t : Table). t) r (table_of max text) → IfOk r (λ t. IsTableText max text t)
found_by max text (Ok t) bytes h = text_found max text t bytes h
found_by max text (Err e) bytes h = tt

pub returns-clause-found : goal.returns-clause-found
returns-clause-found c =
    found_by c.args.max c.args.text.now c.read_table.result (λ i. omega (arith, c.type_inv.text i))
    c.read_table.ensures

pub returns-clause-only : goal.returns-clause-only
returns-clause-only c =
    λ t h. subst (λ (x : Result Table TableFault). Gives (λ (v : Table). v) c.read_table.result x)
    (text_only c.args.max c.args.text.now t h) c.read_table.ensures

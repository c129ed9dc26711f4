use Rattle.std.proofs.Common.{◌≡◌, ◌≢◌, ℕ, List, Ok, subst, rules}
use Rattle.vab_tables.specs.declared.fault.TableFault.TheVariants as faults
use Rattle.vab_tables.specs.Reading.{table_of, Fails}
use Rattle.vab_tables.specs.Text.{IsTableText}
use Rattle.vab_super_image.proofs.ReadLaws.{known_fault, rest_is}
use Rattle.vab_super_image.proofs.image.table_behind.Goals as goal

pub returns-in-Ok : goal.returns-in-Ok
returns-in-Ok c =
    subst
    (λ (text : List ℕ).
    (table_of c.args.max text ≡ Ok c.in-Ok.table) × IsTableText c.args.max text c.in-Ok.table)
    (rest_is 4096 c.args.bytes.now)
    (c.in-Ok.ensures.exact, c.in-Ok.ensures.found)

pub returns-in-Err : goal.returns-in-Err
returns-in-Err c =
    let known : c.in-Err.field-0 ≢ faults.NoMemory = search rules in
    let fails = subst (λ (text : List ℕ). Fails c.in-Err.field-0 (table_of c.args.max text))
    (rest_is 4096 c.args.bytes.now)
    c.in-Err.ensures.exact in
    (c.in-Err.field-0, known_fault c.in-Err.field-0 _ known fails)

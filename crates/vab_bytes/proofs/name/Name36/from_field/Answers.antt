use Rattle.std.proofs.Common.{◌≡◌, ℕ, List, length, Option, Some, None, refl, sym}
use Rattle.std.specs.Prelude.{IfOk, ok_or}
use Rattle.vab_bytes.specs.Name.{IsName, name_field, name_of_field}
use Rattle.vab_bytes.proofs.NameLaws.{found_name, only_name}
use Rattle.vab_bytes.proofs.name.Name36.from_field.Goals as goal

found : {E : Type 0} (o : Option (List ℕ)) (e : E) (bytes : List ℕ)
    → length bytes ≡ 36
    → o ≡ name_of_field bytes
    → IfOk (ok_or o e) (λ n. IsName n × (bytes ≡ name_field n))
found None e bytes len h = tt
found (Some n) e bytes len h = found_name bytes n len (sym h)

pub returns-clause-found : goal.returns-clause-found
returns-clause-found c =
    let h = found c.name_in.result (record {}) c.args.field.now c.told-field c.name_in.ensures in
    rw c.ok_or.ensures.value h

pub returns-clause-only : goal.returns-clause-only
returns-clause-only c n named spelled =
    rw (c.ok_or.ensures.value, c.name_in.ensures, only_name c.args.field.now n named spelled) refl

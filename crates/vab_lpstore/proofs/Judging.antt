-- What the front of a copy is loaded as.
use Rattle.std.proofs.Common.{◌≡◌, ◌≢◌, inl, inr, ℕ, ◌+◌, Bool, subst, List, length, take, Result}
use Rattle.std.proofs.Common.{Ok, Err, true, false, refl, sym, ◌∙◌, ap, arith}
use Rattle.std.specs.Prelude.{IsTrue, ◌↔◌, IfOk}
use Rattle.std.proofs.lemmas.Bool.{false≢true}
use Rattle.std.proofs.lemmas.List.{length-take-le, take-take}
use Rattle.vab_tables.specs.declared.table.Table.{Table}
use Rattle.std.specs.Int.{w32, from_le_bytes}
use Rattle.vab_bytes.specs.Number.{field}
use Rattle.vab_bytes.proofs.NumberLaws.{field-field}
use Rattle.vab_tables.specs.Text.{IsTableText, text_size_of, header_size_at, tables_size_at}
use Rattle.vab_tables.specs.declared.fault.TableFault.{TableFault}
use Rattle.vab_tables.specs.declared.fault.TableFault.TheVariants as faults
use Rattle.vab_tables.specs.Reading.{table_of, Fails}
use Rattle.vab_tables.proofs.FrontLaws.{text_same_front, text_size_fits}
use Rattle.vab_lpstore.specs.Layout.{Begins}
use Rattle.vab_lpstore.specs.Loading.{IsLoaded, IsNoTable}
use Rattle.vab_lpstore.proofs.StoreLaws.{begins_read}

module _ (max : ℕ) (bytes : List ℕ) (t : Table) (is : IsTableText max bytes t) where
  abbrev pub front : List ℕ
  front = take (text_size_of bytes) bytes

  pub front_long : length front ≡ text_size_of bytes
  front_long = length-take-le (text_size_of bytes) bytes (text_size_fits max bytes t is).2

  pub front_text : IsTableText max front t
  front_text = text_same_front max front bytes t is
      (take-take (text_size_of bytes) (text_size_of bytes) bytes (omega arith))

  pub front_size : length front ≡ text_size_of front
  unfolding text_size_of header_size_at tables_size_at
  front_size =
      let long = (text_size_fits max bytes t is).0 in
      let header : field front 8 4 ≡ field bytes 8 4 =
      field-field bytes 0 (text_size_of bytes) 8 4 (omega (arith, long)) in
      let tables : field front 44 4 ≡ field bytes 44 4 =
      field-field bytes 0 (text_size_of bytes) 44 4 (omega (arith, long)) in
      front_long ∙ (λ i. from_le_bytes w32 (sym header i) + from_le_bytes w32 (sym tables i))

  pub front_begins : Begins bytes front
  front_begins = ap (λ (k : ℕ). take k bytes) front_long

pub from_primary : (max : ℕ) (primary backup : List ℕ) (t : Table) (text : List ℕ) (flag : Bool)
    → IsTableText max primary t
    → text ≡ take (text_size_of primary) primary
    → IsTrue flag ↔ Begins backup text
    → IsLoaded max primary backup (record { table = t; text = text; primary = true; backup = flag })
from_primary max primary backup t text flag is e holds =
    let begins : Begins primary text = subst (λ (x : List ℕ). Begins primary x) (sym e)
    (front_begins max primary t is) in
    record {
      text = subst (λ (x : List ℕ). IsTableText max x t) (sym e) (front_text max primary t is);
      whole = subst (λ (x : List ℕ). length x ≡ text_size_of x) (sym e)
          (front_size max primary t is);
      in_primary = (λ yes. begins, λ held. refl);
      in_backup = holds;
      first = inl begins;
    }

pub from_backup : (max : ℕ) (primary backup : List ℕ) (t : Table) (text : List ℕ)
    → IsNoTable max primary
    → IsTableText max backup t
    → text ≡ take (text_size_of backup) backup
    → IsLoaded max primary backup (record {
      table = t;
      text = text;
      primary = false;
      backup =
          true;
    })
from_backup max primary backup t text none is e =
    let begins : Begins backup text = subst (λ (x : List ℕ). Begins backup x) (sym e)
    (front_begins max backup t is) in
    let whole : IsTableText max text t =
    subst (λ (x : List ℕ). IsTableText max x t) (sym e) (front_text max backup t is) in
    record {
      text = whole;
      whole = subst (λ (x : List ℕ). length x ≡ text_size_of x) (sym e)
          (front_size max backup t is);
      in_primary = (
        λ no. absurd (false≢true no),
        λ held. let read =
            begins_read max primary text t whole held in let fault = none.1 in absurd cc,
      );
      in_backup = (λ yes. begins, λ held. refl);
      first = inr (begins, none);
    }

pub known_fault : (max : ℕ) (bytes : List ℕ) (f : TableFault)
    → f ≢ faults.NoMemory
    → Fails f (table_of max bytes)
    → IsNoTable max bytes
known_fault max bytes faults.NoHeader known fails = (faults.NoHeader, fails)
known_fault max bytes faults.BadVersion known fails = (faults.BadVersion, fails)
known_fault max bytes faults.BadHeaderSum known fails = (faults.BadHeaderSum, fails)
known_fault max bytes faults.BadSize known fails = (faults.BadSize, fails)
known_fault max bytes faults.BadTablesSum known fails = (faults.BadTablesSum, fails)
known_fault max bytes faults.BadBounds known fails = (faults.BadBounds, fails)
known_fault max bytes (faults.BadEntry kind index) known fails = (faults.BadEntry kind index, fails)
known_fault max bytes faults.NoMemory known fails = absurd (known refl)

pub if_ok_map : {A E : Type 0} (r : Result A E) (P Q : A → Type 0)
    → ((x : A) → P x → Q x)
    → IfOk r P
    → IfOk r Q
if_ok_map (Ok x) P Q f is = f x is
if_ok_map (Err e) P Q f is = tt

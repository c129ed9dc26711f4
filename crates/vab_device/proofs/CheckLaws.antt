-- How rules and links join.
use Rattle.std.proofs.Common.{◌≡◌, refl, Result, Ok, Err, Bool, true, false}
use Rattle.std.specs.Prelude.{Option, Some, None, List, ◌∷◌}
use Rattle.vab_device.specs.declared.fault.StartFault.{StartFault}
use Rattle.vab_device.specs.Checks.{Check, check, first_fault, passing, ◌>>=◌}

-- a link whose result is known
pub bound : {A B : Type 0} (x : Result A StartFault) (f : A → Result B StartFault) (b : B)
    → x >>= f ≡ Ok b
    → (a : A) × (x ≡ Ok a) × (f a ≡ Ok b)
bound (Ok a) f b is = (a, refl, is)
bound (Err e) f b is = absurd (let same : Err e ≡ Ok b = is in cc)

pub passed : {A : Type 0} (fault : Option StartFault) (x y : A)
    → passing fault x ≡ Ok y
    → (fault ≡ None) × (x ≡ y)
passed None x y is = (refl, let same : Ok x ≡ Ok y = is in cc)
passed (Some e) x y is = absurd (let same : Err e ≡ Ok y = is in cc)

-- where no rule is broken none of the list is
pub first_kept : (c : Check) (cs : List Check)
    → first_fault (c ∷ cs) ≡ None
    → (c ≡ None) × (first_fault cs ≡ None)
first_kept None cs is = (refl, is)
first_kept (Some fault) cs is = absurd (let same : Some fault ≡ None = is in cc)

pub check_kept : (b : Bool) (fault : StartFault) → check b fault ≡ None → b ≡ true
check_kept true fault is = refl
check_kept false fault is = absurd (let same : Some fault ≡ None = is in cc)

-- Rules, one after another: each has the fault of breaking it.
use Rattle.std.specs.Prelude.{Bool, true, false, List, [], ◌∷◌, ℕ, Option, Some, None, Result, Ok}
use Rattle.std.specs.Prelude.{Err}
use Rattle.vab_device.specs.declared.fault.StartFault.{StartFault}
use Rattle.vab_device.specs.declared.fault.StartFault.TheVariants.{BadPartition}

-- the fault of a rule that is broken
abbrev pub Check : Type 0
Check = Option StartFault

abbrev pub check : Bool → StartFault → Check
check true fault = None
check false fault = Some fault

-- the first partition that breaks a rule, by its name
abbrev pub names_none : Option (List ℕ) → Check
names_none None = None
names_none (Some name) = Some (BadPartition name)

abbrev pub or_else : Check → Check → Check
or_else None later = later
or_else (Some fault) later = Some fault

-- the first fault of these rules
abbrev pub first_fault : List Check → Option StartFault
first_fault [] = None
first_fault (c ∷ cs) = or_else c (first_fault cs)

-- a value whose rules are kept, or the first fault
abbrev pub passing : {A : Type 0} → Option StartFault → A → Result A StartFault
passing None x = Ok x
passing (Some fault) x = Err fault

-- this fault, where a test fails
abbrev pub unless : {A : Type 0} → Bool → StartFault → Result A StartFault → Result A StartFault
unless true fault next = next
unless false fault next = Err fault

infixl 10 ◌>>=◌
abbrev pub ◌>>=◌ : {A B : Type 0}
    → Result A StartFault
    → (A → Result B StartFault)
    → Result B StartFault
(Ok x) >>= f = f x
(Err e) >>= f = Err e

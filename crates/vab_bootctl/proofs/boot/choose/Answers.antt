use Rattle.std.proofs.Common.{◌≡◌, ℕ, List, Bool, Option, Some, None, sym}
use Rattle.std.specs.Prelude.{IfSome, IfNone}
use Rattle.vab_bootctl.specs.declared.slots.Control.{Control}
use Rattle.vab_bootctl.specs.Boot.{IsBootable, IsChosen, chosen_of}
use Rattle.vab_bootctl.proofs.BootLaws.{chosen_is, chosen_none}
use Rattle.vab_bootctl.proofs.boot.choose.Goals as goal

some : (c : Control) (has : List Bool) (o : Option ℕ)
    → o ≡ chosen_of c has
    → IfSome o (λ slot. IsChosen c has slot)
some c has None h = tt
some c has (Some slot) h = chosen_is c has slot (sym h)

none : (c : Control) (has : List Bool) (o : Option ℕ)
    → o ≡ chosen_of c has
    → IfNone o ((slot : ℕ) → IsBootable c has slot → ⊥)
none c has None h = chosen_none c has (sym h)
none c has (Some slot) h = tt

pub returns-clause-some : goal.returns-clause-some
returns-clause-some c = some c.args.control.now c.args.has c.chosen.result c.chosen.ensures

pub returns-clause-none : goal.returns-clause-none
returns-clause-none c = none c.args.control.now c.args.has c.chosen.result c.chosen.ensures

-- A run of calls whose writes are known where the contents are told.
use Rattle.std.proofs.Common.{ℕ, List, Result, Ok, Err}
use Rattle.std.specs.Prelude.{OnOk}
use Rattle.vab_disk.specs.declared.disk.Disk.{Ghosts}
use Rattle.vab_disk.specs.Calls.{IsQuiet, Touches}

pub ok_anyway : {A E P : Type 0} (r : Result A E) → P → OnOk r P
ok_anyway (Ok a) h = h
ok_anyway (Err e) h = tt

module _ {D : Type 0} (g : Ghosts D) where
  pub touches_told : (W : ℕ → List ℕ → Type 0) (a b : D)
      → IsQuiet g a b
      → (g.is_modelled → Touches g W a b)
      → Touches g W a b
  touches_told W a b quiet told = record {
    quiet = quiet;
    seen = λ t. (told t).seen t;
    crash = λ t. (told t).crash t;
    time = λ t. (told t).time t;
  }

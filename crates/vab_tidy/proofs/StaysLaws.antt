-- Writes that leave what a disk means, one behind the other.
use Rattle.std.proofs.Common.{⊎_elim, ◌≡◌, ◌∙◌, ℕ, List, Result, Ok, Err, refl, sym, ap, subst}
use Rattle.std.specs.Prelude.{IfOk, OnOk, OnErr}
use Rattle.vab_disk.specs.declared.disk.Disk.{Ghosts}
use Rattle.vab_disk.specs.Disk.{Image, Outcome, Adds, DiskFailed}
use Rattle.vab_disk.specs.Calls.{IsAtRest, IsQuiet, Touches}
use Rattle.vab_disk.proofs.CallLaws.{quiet_none, quiet_then, touches_none, touches_on, failed_then}
use Rattle.vab_disk.proofs.CallLaws.{touches_wider}
use Rattle.vab_disk.proofs.Moments.{adds_none, adds_on, adds_wider}
use Rattle.vab_gate.specs.declared.gate.DiskFault.{DiskFault}
use Rattle.vab_device.specs.declared.device.Device.{Device}
use Rattle.vab_device.specs.Kept.{IsDevice}
use Rattle.vab_device.specs.Reading.{device, Represents}
use Rattle.vab_tidy.specs.Stays.{LeavesSame, IsInOrder, Stays}
use Rattle.vab_tidy.specs.Tidied.{HasCompleted}

-- what means the same as a disk that means the same as before
pub leaves_before : (told told' : List ℕ) (size size' : ℕ) (old mid : Image) (o : Outcome)
    → told' ≡ told
    → size' ≡ size
    → device size mid ≡ device size old
    → LeavesSame told' size' mid o
    → LeavesSame told size old o
leaves_before told told' size size' old mid o t n s leaves = record {
  told_so_far = leaves.told_so_far ∙ t;
  same =
      ap (λ (k : ℕ). device k o.image) (sym n)
      ∙ leaves.same
      ∙ ap (λ (k : ℕ). device k mid) n
      ∙ s;
}

module _ {D : Type 0} (g : Ghosts D) where
  -- nothing is written
  pub stays_none : (W : ℕ → List ℕ → Type 0) (d : Device) (old : D)
      → IsDevice d (g.size old)
      → (g.is_modelled → Represents d (g.size old) (g.seen old))
      → Stays g W d old old (Ok d)
  stays_none W d old kept is = record {
    is = refl;
    kept = kept;
    represents = is;
    same = λ t. refl;
    settled = λ t rest. rest;
    quiet = quiet_none g old;
    touches = touches_none g W old;
    time = λ t rest. adds_none g.moment g.outcomes old _;
    order = λ t rest has. adds_none g.moment g.outcomes old _;
    faults = record { steady = refl; cause = tt };
  }

  -- the same, where more may be touched
  pub stays_wider : (W V : ℕ → List ℕ → Type 0) (next : Device) (old new : D)
      (r : Result Device DiskFault)
      → Stays g V next old new r
      → ((s : ℕ) (b : List ℕ) → V s b → W s b)
      → Stays g W next old new r
  stays_wider W V next old new r stays wider = record {
    is = stays.is;
    kept = stays.kept;
    represents = stays.represents;
    same = stays.same;
    settled = stays.settled;
    quiet = stays.quiet;
    touches = touches_wider g W V old new stays.touches wider;
    time = stays.time;
    order = stays.order;
    faults = stays.faults;
  }

  -- a sector in which no other bytes are written
  pub sector_stays : (W : ℕ → List ℕ → Type 0) (at : ℕ) (old new : D)
      → Touches g W old new
      → g.is_modelled
      → ((b : List ℕ) → W at b → b ≡ g.seen old at)
      → IsAtRest g old
      → Adds g.moment g.outcomes old new (λ o. o.image at ≡ g.seen old at)
  sector_stays W at old new touches t misses rest =
      adds_wider g.moment g.outcomes old new _ _ (touches.time t)
      (λ o leaves.
      ⊎_elim
      (λ was. rest at (o.image at) was)
      (λ wrote. misses (o.image at) wrote)
      (leaves.each_sector at))

  -- what is touched of a disk that is modelled
  pub touches_if : (W : ℕ → List ℕ → Type 0) (old new : D)
      → IsQuiet g old new
      → (g.is_modelled → Touches g W old new)
      → Touches g W old new
  touches_if W old new quiet touches = record {
    quiet = quiet;
    seen = λ t. (touches t).seen t;
    crash = λ t. (touches t).crash t;
    time = λ t. (touches t).time t;
  }

  module _ (V W U : ℕ → List ℕ → Type 0) (d mid_is next : Device) (old mid new : D)
      (r : Result Device DiskFault)
      (first : Stays g V mid_is old mid (Ok d))
      (then_ : Stays g W next mid new r)
      (of_v : g.is_modelled → (s : ℕ) (b : List ℕ) → V s b → U s b)
      (of_w : g.is_modelled → (s : ℕ) (b : List ℕ) → W s b → U s b)
      (still : g.is_modelled
      → HasCompleted next.mark (g.seen old)
      → HasCompleted next.mark (g.seen mid))
      (order : g.is_modelled
      → IsAtRest g old
      → HasCompleted next.mark (g.seen old)
      → Adds g.moment g.outcomes old mid (λ o. IsInOrder next o.image)) where
    pub stays_then : Stays g U next old new r
    stays_then =
        let size : g.size mid ≡ g.size old = first.quiet.size in
        record {
          is = then_.is;
          kept = subst (λ (n : ℕ). IfOk r (λ x. IsDevice x n)) size then_.kept;
          represents = λ t.
              subst (λ (n : ℕ). IfOk r (λ x. Represents x n (g.seen new))) size
              (then_.represents t);
          same = λ t.
              same_on r
              (device (g.size mid) (g.seen new) ≡ device (g.size mid) (g.seen mid))
              (device (g.size old) (g.seen new) ≡ device (g.size old) (g.seen old))
              (λ e.
              subst (λ (n : ℕ). device n (g.seen new) ≡ device n (g.seen mid)) size e
              ∙ first.same t)
              (then_.same t);
          settled = λ t rest. then_.settled t (first.settled t rest);
          quiet = quiet_then g old mid new first.quiet then_.quiet;
          touches =
              touches_if U old new (quiet_then g old mid new first.quiet then_.quiet)
              (λ t.
              touches_on g V W U old mid new first.touches then_.touches (of_v t) (of_w t));
          time = λ t rest.
              adds_on g.moment g.outcomes old mid new _ _ (first.time t rest)
              (then_.time t (first.settled t rest))
              (λ o. leaves_before (g.told old) (g.told mid) (g.size old) (g.size mid) (g.seen old)
              (g.seen mid) o (first.quiet.told t) size (first.same t));
          order = λ t rest has.
              adds_on g.moment g.outcomes old mid new _ _ (order t rest has)
              (then_.order t (first.settled t rest) (still t has))
              (λ o is. is);
          faults = record {
            steady = steady_on r then_.faults.steady;
            cause = cause_on r then_.faults.cause;
          };
        }
      where
        same_on : (x : Result Device DiskFault) (P Q : Type 0) → (P → Q) → OnOk x P → OnOk x Q
        same_on (Ok y) P Q f p = f p
        same_on (Err e) P Q f p = tt

        steady_on : (x : Result Device DiskFault)
            → OnOk x (g.faults new ≡ g.faults mid)
            → OnOk x (g.faults new ≡ g.faults old)
        steady_on (Ok y) e = e ∙ first.faults.steady
        steady_on (Err f) e = tt

        cause_on : (x : Result Device DiskFault)
            → OnErr x (DiskFailed (g.faults mid) (g.faults new))
            → OnErr x (DiskFailed (g.faults old) (g.faults new))
        cause_on (Ok y) failed = tt
        cause_on (Err f) failed =
            failed_then (g.faults old) (g.faults mid) (g.faults new) first.faults.steady failed

-- How calls join.
use Rattle.std.proofs.Common.{◌≡◌, ◌≢◌, ◌⊎◌, inl, inr, ⊎_elim, ℕ, List, refl, sym, ◌∙◌}
use Rattle.std.proofs.Common.{ap, subst, arith}
use Rattle.std.proofs.lemmas.Bool.{cases_eq}
use Rattle.vab_disk.specs.declared.disk.Disk.{Ghosts}
use Rattle.vab_disk.specs.Disk.{Image, Leaves, LeavesWith, LeavesEither, Adds, Nothing}
use Rattle.vab_disk.specs.Disk.{Writes, NoFewer, Faults, SameHoldings, IsAt, MayBeSet, DiskFailed}
use Rattle.vab_disk.specs.Disk.{set_sector}
use Rattle.vab_disk.specs.Calls.{IsQuiet, OnlyReads, OnlySyncs, SameBut, Touches}
use Rattle.vab_disk.specs.Calls.{Changes, IsAtRest}
use Rattle.vab_disk.specs.Port.{LeavesSaying}
use Rattle.vab_disk.specs.Written.{set_here, set_there}
use Rattle.vab_disk.proofs.Moments.{adds_none, adds_wider, adds_on, adds_still, writes_with}
use Rattle.vab_disk.proofs.Moments.{with_wider, with_then, settled_either}

pub fewer_then : (a b c : Faults) → NoFewer a b → NoFewer b c → NoFewer a c
fewer_then a b c ab bc = record {
  disk = omega (arith, ab.disk, bc.disk);
  source = omega (arith, ab.source, bc.source);
  sink = omega (arith, ab.sink, bc.sink);
}

-- a call that failed behind others that didn't
pub failed_then : (a b c : Faults) → b ≡ a → DiskFailed b c → DiskFailed a c
failed_then a b c same failed = subst (λ (f : Faults). DiskFailed f c) same failed

pub same_then : (W : ℕ → List ℕ → Type 0) (a b c : Image)
    → SameBut W a b
    → SameBut W b c
    → SameBut W a c
same_then W a b c ab bc s =
    ⊎_elim
    (λ second.
    ⊎_elim (λ first. inl (second ∙ first)) (λ w. inr (subst (W s) (sym second) w)) (ab s))
    (λ w. inr w)
    (bc s)

pub wrote_here : (old new : Image) (at : ℕ) (bytes : List ℕ)
    → new ≡ set_sector old at bytes
    → (s : ℕ)
    → s ≡ at
    → new s ≡ bytes
wrote_here old new at bytes is s here =
    ap (λ (f : Image). f s) is ∙ set_here old at bytes s here

pub wrote_there : (old new : Image) (at : ℕ) (bytes : List ℕ)
    → new ≡ set_sector old at bytes
    → (s : ℕ)
    → s ≢ at
    → new s ≡ old s
wrote_there old new at bytes is s other =
    ap (λ (f : Image). f s) is ∙ set_there old at bytes s other

-- a write that may have failed
pub set_same_but : (old new : Image) (at : ℕ) (bytes : List ℕ)
    → MayBeSet at bytes old new
    → SameBut (IsAt at bytes) old new
set_same_but old new at bytes (inl same) s = inl (ap (λ (f : Image). f s) same)
set_same_but old new at bytes (inr is) s =
    let either : (set_sector old at bytes s ≡ old s) ⊎ IsAt at bytes s (set_sector old at bytes s) =
    elim (cases_eq s at) [
      | inl here ↦ inr (here, set_here old at bytes s here)
      | inr other ↦ inl (set_there old at bytes s other)
    ] in
    subst (λ (f : Image). (f s ≡ old s) ⊎ IsAt at bytes s (f s)) (sym is) either

module _ {D : Type 0} (g : Ghosts D) where
  pub quiet_none : (d : D) → IsQuiet g d d
  quiet_none d = record {
    size = refl;
    told = λ t. refl;
    left = λ t. refl;
    heard = λ t. refl;
    counts = record { disk = omega arith; source = omega arith; sink = omega arith };
  }

  pub quiet_then : (a b c : D) → IsQuiet g a b → IsQuiet g b c → IsQuiet g a c
  quiet_then a b c ab bc = record {
    size = bc.size ∙ ab.size;
    told = λ t. bc.told t ∙ ab.told t;
    left = λ t. bc.left t ∙ ab.left t;
    heard = λ t. bc.heard t ∙ ab.heard t;
    counts = fewer_then (g.faults a) (g.faults b) (g.faults c) ab.counts bc.counts;
  }

  pub reads_none : (d : D) → OnlyReads g d d
  reads_none d = record {
    quiet = quiet_none d;
    seen = λ t. refl;
    crash = λ t. record { keeps = λ s b held. held; no_more = λ s b held. held };
    time = λ t. adds_none g.moment g.outcomes d Nothing;
  }

  pub reads_then : (a b c : D) → OnlyReads g a b → OnlyReads g b c → OnlyReads g a c
  reads_then a b c ab bc = record {
    quiet = quiet_then a b c ab.quiet bc.quiet;
    seen = λ t. bc.seen t ∙ ab.seen t;
    crash = λ t. record {
      keeps = λ s x held. (bc.crash t).keeps s x ((ab.crash t).keeps s x held);
      no_more = λ s x held. (ab.crash t).no_more s x ((bc.crash t).no_more s x held);
    };
    time = λ t. adds_still g.moment g.outcomes a b c _ (ab.time t) (bc.time t);
  }

  pub touches_none : (W : ℕ → List ℕ → Type 0) (d : D) → Touches g W d d
  touches_none W d = record {
    quiet = quiet_none d;
    seen = λ t s. inl refl;
    crash = λ t s b now. inl now;
    time = λ t. adds_none g.moment g.outcomes d (LeavesWith W (g.told d) (g.may_leave d));
  }

  pub touches_then : (W : ℕ → List ℕ → Type 0) (a b c : D)
      → Touches g W a b
      → Touches g W b c
      → Touches g W a c
  touches_then W a b c ab bc = record {
    quiet = quiet_then a b c ab.quiet bc.quiet;
    seen = λ t. same_then W (g.seen a) (g.seen b) (g.seen c) (ab.seen t) (bc.seen t);
    crash = λ t s x now. ⊎_elim (λ was. ab.crash t s x was) (λ w. inr w) (bc.crash t s x now);
    time = λ t. adds_on g.moment g.outcomes a b c _ _ (ab.time t) (bc.time t)
        (with_then W W (g.may_leave a) (g.may_leave b) (g.told a) (g.told b)
        (ab.quiet.told t) (ab.crash t) (λ s x w. w));
  }

  pub touches_wider : (V W : ℕ → List ℕ → Type 0) (a b : D)
      → Touches g W a b
      → ((s : ℕ) (x : List ℕ) → W s x → V s x)
      → Touches g V a b
  touches_wider V W a b ab wider = record {
    quiet = ab.quiet;
    seen = λ t s. ⊎_elim (λ same. inl same) (λ w. inr (wider s (g.seen b s) w)) (ab.seen t s);
    crash = λ t s x now. ⊎_elim (λ was. inl was) (λ w. inr (wider s x w)) (ab.crash t s x now);
    time = λ t. adds_wider g.moment g.outcomes a b _ _ (ab.time t)
        (with_wider V W (g.may_leave a) (g.told a) wider);
  }

  -- one run of writes after another, in other sectors
  pub touches_on : (V W U : ℕ → List ℕ → Type 0) (a b c : D)
      → Touches g V a b
      → Touches g W b c
      → ((s : ℕ) (x : List ℕ) → V s x → U s x)
      → ((s : ℕ) (x : List ℕ) → W s x → U s x)
      → Touches g U a c
  touches_on V W U a b c ab bc first second =
      touches_then U a b c (touches_wider U V a b ab first) (touches_wider U W b c bc second)

  pub touches_reads : (W : ℕ → List ℕ → Type 0) (a b : D) → OnlyReads g a b → Touches g W a b
  touches_reads W a b ab = record {
    quiet = ab.quiet;
    seen = λ t s. inl (ap (λ (i : Image). i s) (ab.seen t));
    crash = λ t s x now. inl ((ab.crash t).no_more s x now);
    time = λ t. adds_wider g.moment g.outcomes a b _ _ (ab.time t) (λ o none. absurd none);
  }

  -- a write of one sector
  pub touches_write : (at : ℕ) (bytes : List ℕ) (a b : D)
      → IsQuiet g a b
      → (g.is_modelled → SameBut (IsAt at bytes) (g.seen a) (g.seen b))
      → (g.is_modelled → Writes (IsAt at bytes) (g.may_leave a) (g.may_leave b))
      → (g.is_modelled
      → Adds g.moment g.outcomes a b (Leaves (g.told a) (g.may_leave b)))
      → Touches g (IsAt at bytes) a b
  touches_write at bytes a b quiet seen crash time = record {
    quiet = quiet;
    seen = seen;
    crash = λ t. (crash t).adds;
    time = λ t. adds_wider g.moment g.outcomes a b _ _ (time t)
        (writes_with (IsAt at bytes) (g.may_leave a) (g.may_leave b) (g.told a) (crash t));
  }

  -- a sync
  pub touches_sync : (W : ℕ → List ℕ → Type 0) (a b : D) → OnlySyncs g a b → Touches g W a b
  touches_sync W a b syncs = record {
    quiet = syncs.quiet;
    seen = λ t s. inl (ap (λ (i : Image). i s) (syncs.seen t));
    crash = λ t s x now. inl (syncs.crash t s x now);
    time = λ t. adds_wider g.moment g.outcomes a b _ _ (syncs.time t) (λ o none. absurd none);
  }

  -- Where nothing was pending, one sector's writes leave the old disk or the new one.
  pub time_either : (at : ℕ) (bytes : List ℕ) (a b : D)
      → g.is_modelled
      → Touches g (IsAt at bytes) a b
      → IsAtRest g a
      → Adds g.moment g.outcomes a b
      (LeavesEither (g.told a) (g.seen a) (set_sector (g.seen a) at bytes))
  time_either at bytes a b t touches rest =
      adds_wider g.moment g.outcomes a b _ _ (touches.time t)
      (settled_either (g.may_leave a) (g.told a) (g.seen a) at bytes rest)

  -- ---- runs of calls that hear and tell

  pub changes_none : (W : ℕ → List ℕ → Type 0) (d : D) → Changes g W d d
  changes_none W d = record {
    size = refl;
    seen = λ t s. inl refl;
    crash = λ t s b now. inl now;
    time = λ t. adds_none g.moment g.outcomes d _;
  }

  pub changes_touches : (W : ℕ → List ℕ → Type 0) (a b : D) → Touches g W a b → Changes g W a b
  changes_touches W a b ab = record {
    size = ab.quiet.size;
    seen = ab.seen;
    crash = ab.crash;
    time = λ t. adds_wider g.moment g.outcomes a b _ _ (ab.time t) (λ o leaves. leaves.each_sector);
  }

  -- what is told alone
  pub changes_telling : (W : ℕ → List ℕ → Type 0) (piece : List ℕ) (a b : D)
      → g.size b ≡ g.size a
      → (g.is_modelled → g.seen b ≡ g.seen a)
      → (g.is_modelled → SameHoldings (g.may_leave a) (g.may_leave b))
      → (g.is_modelled
      → Adds g.moment g.outcomes a b (LeavesSaying (g.told a) piece (g.may_leave a)))
      → Changes g W a b
  changes_telling W piece a b size seen crash time = record {
    size = size;
    seen = λ t s. inl (ap (λ (i : Image). i s) (seen t));
    crash = λ t s x now. inl ((crash t).no_more s x now);
    time = λ t. adds_wider g.moment g.outcomes a b _ _ (time t)
        (λ o leaves s. inl (leaves.each_sector s));
  }

  -- what is heard alone
  pub changes_hearing : (W : ℕ → List ℕ → Type 0) (a b : D)
      → g.size b ≡ g.size a
      → (g.is_modelled → g.seen b ≡ g.seen a)
      → (g.is_modelled → SameHoldings (g.may_leave a) (g.may_leave b))
      → (g.is_modelled → Adds g.moment g.outcomes a b Nothing)
      → Changes g W a b
  changes_hearing W a b size seen crash time = record {
    size = size;
    seen = λ t s. inl (ap (λ (i : Image). i s) (seen t));
    crash = λ t s x now. inl ((crash t).no_more s x now);
    time = λ t. adds_wider g.moment g.outcomes a b _ _ (time t) (λ o none. absurd none);
  }

  pub changes_then : (W : ℕ → List ℕ → Type 0) (a b c : D)
      → Changes g W a b
      → Changes g W b c
      → Changes g W a c
  changes_then W a b c ab bc = record {
    size = bc.size ∙ ab.size;
    seen = λ t. same_then W (g.seen a) (g.seen b) (g.seen c) (ab.seen t) (bc.seen t);
    crash = λ t s x now. ⊎_elim (λ was. ab.crash t s x was) (λ w. inr w) (bc.crash t s x now);
    time = λ t. adds_on g.moment g.outcomes a b c _ _ (ab.time t) (bc.time t)
        (λ o leaves s.
        ⊎_elim (λ was. ab.crash t s (o.image s) was) (λ w. inr w) (leaves s));
  }

  pub changes_wider : (V W : ℕ → List ℕ → Type 0) (a b : D)
      → Changes g W a b
      → ((s : ℕ) (x : List ℕ) → W s x → V s x)
      → Changes g V a b
  changes_wider V W a b ab wider = record {
    size = ab.size;
    seen = λ t s. ⊎_elim (λ same. inl same) (λ w. inr (wider s (g.seen b s) w)) (ab.seen t s);
    crash = λ t s x now. ⊎_elim (λ was. inl was) (λ w. inr (wider s x w)) (ab.crash t s x now);
    time = λ t. adds_wider g.moment g.outcomes a b _ _ (ab.time t)
        (λ o leaves s. ⊎_elim (λ was. inl was) (λ w. inr (wider s (o.image s) w)) (leaves s));
  }

  -- Where nothing was pending, each sector is in each outcome as it was, or as one of these says.
  pub changes_cuts : (W : ℕ → List ℕ → Type 0) (a b : D)
      → g.is_modelled
      → Changes g W a b
      → IsAtRest g a
      → Adds g.moment g.outcomes a b (λ o. SameBut W (g.seen a) o.image)
  changes_cuts W a b t ab rest =
      adds_wider g.moment g.outcomes a b _ _ (ab.time t)
      (λ o leaves s.
      ⊎_elim (λ was. inl (rest s (o.image s) was)) (λ w. inr w) (leaves s))

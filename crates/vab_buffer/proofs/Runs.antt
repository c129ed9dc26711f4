-- How writes of sectors join.
use Rattle.std.proofs.Common.{◌≡◌, inl, inr, ⊎_elim, ℕ, List, refl, ap, ◌∙◌}
use Rattle.vab_disk.specs.declared.disk.Disk.{Ghosts}
use Rattle.vab_disk.specs.Disk.{Image, Writes}
use Rattle.vab_disk.specs.Calls.{SameBut, OnlyReads, OnlySyncs}
use Rattle.vab_disk.proofs.Moments.{adds_none, adds_wider, adds_on, adds_still}
use Rattle.vab_disk.proofs.CallLaws.{quiet_none, quiet_then, same_then}
use Rattle.vab_gate.specs.Gate.{set_sectors, IsAmong}
use Rattle.vab_buffer.specs.DiskLaws.{leaves_more, set_inside, set_outside, cases_among}
use Rattle.vab_buffer.specs.Store.{OnlyWrites}

pub writes_wider : (V W old new : ℕ → List ℕ → Type 0)
    → Writes W old new
    → ((s : ℕ) (b : List ℕ) → W s b → V s b)
    → Writes V old new
writes_wider V W old new writes wider = record {
  keeps = writes.keeps;
  adds = λ s b now. ⊎_elim (λ was. inl was) (λ w. inr (wider s b w)) (writes.adds s b now);
}

pub writes_then : (V old mid new : ℕ → List ℕ → Type 0)
    → Writes V old mid
    → Writes V mid new
    → Writes V old new
writes_then V old mid new first second = record {
  keeps = λ s b was. second.keeps s b (first.keeps s b was);
  adds = λ s b now. ⊎_elim (λ was. first.adds s b was) (λ w. inr w) (second.adds s b now);
}

pub same_but_wider : (V W : ℕ → List ℕ → Type 0) (old new : ℕ → List ℕ)
    → SameBut W old new
    → ((s : ℕ) (b : List ℕ) → W s b → V s b)
    → SameBut V old new
same_but_wider V W old new same wider s =
    ⊎_elim (λ was. inl was) (λ w. inr (wider s (new s) w)) (same s)

-- sectors that were written
pub set_same_among : (n at : ℕ) (old new : Image) (bytes : List ℕ)
    → new ≡ set_sectors n old at bytes
    → SameBut (IsAmong n at bytes) old new
set_same_among n at old new bytes is s =
    ⊎_elim
    (λ here.
    inr (record {
      first = here.0;
      last = here.1;
      here = ap (λ (i : Image). i s) is ∙ set_inside n old at bytes s here.0 here.1;
    }))
    (λ out. inl (ap (λ (i : Image). i s) is ∙ set_outside n old at bytes s out))
    (cases_among at n s)

module _ {D : Type 0} (g : Ghosts D) where
  pub writes_none : (W : ℕ → List ℕ → Type 0) (d : D) → OnlyWrites g W d d
  writes_none W d = record {
    quiet = quiet_none g d;
    seen = λ t s. inl refl;
    crash = λ t. record { keeps = λ s b was. was; adds = λ s b now. inl now };
    time = λ t. adds_none g.moment g.outcomes d _;
  }

  pub writes_on : (V W U : ℕ → List ℕ → Type 0) (a b c : D)
      → OnlyWrites g V a b
      → OnlyWrites g W b c
      → ((s : ℕ) (x : List ℕ) → V s x → U s x)
      → ((s : ℕ) (x : List ℕ) → W s x → U s x)
      → OnlyWrites g U a c
  writes_on V W U a b c ab bc first second = record {
    quiet = quiet_then g a b c ab.quiet bc.quiet;
    seen = λ t. same_then U (g.seen a) (g.seen b) (g.seen c)
        (same_but_wider U V (g.seen a) (g.seen b) (ab.seen t) first)
        (same_but_wider U W (g.seen b) (g.seen c) (bc.seen t) second);
    crash = λ t. writes_then U (g.may_leave a) (g.may_leave b) (g.may_leave c)
        (writes_wider U V (g.may_leave a) (g.may_leave b) (ab.crash t) first)
        (writes_wider U W (g.may_leave b) (g.may_leave c) (bc.crash t) second);
    time = λ t. adds_on g.moment g.outcomes a b c _ _
        (adds_wider g.moment g.outcomes a b _ _ (ab.time t)
        (leaves_more (g.told a) (g.told a) (g.may_leave b) (g.may_leave c) refl
        (bc.crash t).keeps))
        (bc.time t)
        (leaves_more (g.told a) (g.told b) (g.may_leave c) (g.may_leave c)
        (ab.quiet.told t) (λ s x held. held));
  }

  -- reads write nothing
  pub writes_reads : (W : ℕ → List ℕ → Type 0) (a b : D) → OnlyReads g a b → OnlyWrites g W a b
  writes_reads W a b ab = record {
    quiet = ab.quiet;
    seen = λ t s. inl (ap (λ (i : Image). i s) (ab.seen t));
    crash = λ t. record {
      keeps = (ab.crash t).keeps;
      adds = λ s x now. inl ((ab.crash t).no_more s x now);
    };
    time = λ t. adds_wider g.moment g.outcomes a b _ _ (ab.time t) (λ o none. absurd none);
  }

  -- writes after reads
  pub writes_after : (W : ℕ → List ℕ → Type 0) (a b c : D)
      → OnlyReads g a b
      → OnlyWrites g W b c
      → OnlyWrites g W a c
  writes_after W a b c ab bc =
      writes_on W W W a b c (writes_reads W a b ab) bc (λ s x w. w) (λ s x w. w)

  -- a sync after reads
  pub syncs_after : (a b c : D) → OnlyReads g a b → OnlySyncs g b c → OnlySyncs g a c
  syncs_after a b c ab bc = record {
    quiet = quiet_then g a b c ab.quiet bc.quiet;
    seen = λ t. bc.seen t ∙ ab.seen t;
    crash = λ t s x now. (ab.crash t).no_more s x (bc.crash t s x now);
    time = λ t. adds_still g.moment g.outcomes a b c _ (ab.time t) (bc.time t);
  }

-- How a run of disk calls goes on, and what its outcomes are.
use Rattle.std.specs.Prelude.{◌≡◌, ◌⊎◌, ℕ, List}
use Rattle.std.proofs.Common.{inl, inr, ⊎_elim, arith, sym, ◌∙◌, subst}
use Rattle.std.proofs.lemmas.Bool.{cases_eq}
use Rattle.vab_disk.specs.Written.{same_image, set_here, set_there}
use Rattle.vab_disk.specs.Disk.{Image, set_sector, Outcome, Leaves, LeavesWith, LeavesEither}
use Rattle.vab_disk.specs.Disk.{LeavesBlend, IsBlend, IsSettled, Adds, Nothing, IsAt, NoMoreBut}
use Rattle.vab_disk.specs.Disk.{Writes}

-- a blend of a disk with itself after one write is the one or the other
pub blend_one : (old image : Image) (at : ℕ) (bytes : List ℕ)
    → IsBlend old (set_sector old at bytes) image
    → (image ≡ old) ⊎ (image ≡ set_sector old at bytes)
blend_one old image at bytes blend = ⊎_elim
    (λ was. inl (same_image image old (λ s. elim (cases_eq s at) [
      | inl here ↦ subst (λ (k : ℕ). image k ≡ old k) (sym here) was
      | inr other ↦ ⊎_elim (λ old_one. old_one)
          (λ new_one. new_one ∙ set_there old at bytes s other) (blend s)
    ])))
    (λ new. inr (same_image image (set_sector old at bytes) (λ s. elim (cases_eq s at) [
      | inl here ↦ subst (λ (k : ℕ). image k ≡ set_sector old at bytes k) (sym here) new
      | inr other ↦ ⊎_elim (λ old_one. old_one ∙ sym (set_there old at bytes s other))
          (λ new_one. new_one) (blend s)
    ])))
    (blend at)

module _ {D : Type 0} (moment : D → ℕ) (outcomes : D → ℕ → Outcome → Type 0) where
  -- no call yet
  pub adds_none : (d : D) (P : Outcome → Type 0) → Adds moment outcomes d d P
  adds_none d P = record {
    later = omega arith;
    keeps = λ t o le was. was;
    adds = λ t o le was.
        inl was;
  }

  -- a weaker fact
  pub adds_wider : (old new : D) (P Q : Outcome → Type 0)
      → Adds moment outcomes old new P
      → ((o : Outcome) → P o → Q o)
      → Adds moment outcomes old new Q
  adds_wider old new P Q so_far wider = record {
    later = so_far.later;
    keeps = so_far.keeps;
    adds = λ t o le left. ⊎_elim (λ was. inl was) (λ now. inr (wider o now))
        (so_far.adds t o le left);
  }

  -- one call more
  pub adds_on : (old mid new : D) (P Q : Outcome → Type 0)
      → Adds moment outcomes old mid P
      → Adds moment outcomes mid new Q
      → ((o : Outcome) → Q o → P o)
      → Adds moment outcomes old new P
  adds_on old mid new P Q so_far time here = record {
    later = omega (arith, so_far.later, time.later);
    keeps = λ t o le was. time.keeps t o (omega (arith, le, so_far.later))
        (so_far.keeps t o le was);
    adds = λ t o le left. ⊎_elim (so_far.adds t o le) (λ now. inr (here o now))
        (time.adds t o (omega (arith, le, so_far.later)) left);
  }

  -- a call that adds nothing: a read, a sync
  pub adds_still : (old mid new : D) (P : Outcome → Type 0)
      → Adds moment outcomes old mid P
      → Adds moment outcomes mid new Nothing
      → Adds moment outcomes old new P
  adds_still old mid new P so_far time =
      adds_on old mid new P Nothing so_far time (λ o none. absurd none)

  -- every outcome since the first moment, where those of that moment have P too
  pub all_since : (old new : D) (P Q : Outcome → Type 0)
      → Adds moment outcomes old new P
      → ((o : Outcome) → outcomes old (moment old) o → Q o)
      → ((o : Outcome) → Q o → P o)
      → (o : Outcome)
      → outcomes new (moment old) o
      → P o
  all_since old new P Q adds only first o left =
      ⊎_elim (λ was. first o (only o was)) (λ now. now)
      (adds.adds (moment old) o (omega arith) left)

-- what a write leaves, by the values from before
pub writes_with : (W old new : ℕ → List ℕ → Type 0) (told : List ℕ)
    → Writes W old new
    → (o : Outcome)
    → Leaves told new o
    → LeavesWith W told old o
writes_with W old new told writes o leaves =
    record {
      told_so_far = leaves.told_so_far;
      each_sector = λ s.
          writes.adds s (o.image s) (leaves.each_sector s);
    }

-- where nothing was pending, writes leave a blend of the disk from before and the written one
pub settled_blend : (W hold : ℕ → List ℕ → Type 0) (told : List ℕ) (seen new : Image)
    → IsSettled seen hold
    → ((s : ℕ) (b : List ℕ) → W s b → b ≡ new s)
    → (o : Outcome)
    → LeavesWith W told hold o
    → LeavesBlend told seen new o
settled_blend W hold told seen new settled is_new o leaves = record {
  told_so_far = leaves.told_so_far;
  blend = λ s. ⊎_elim (λ was. inl (settled s (o.image s) was))
      (λ wrote. inr (is_new s (o.image s) wrote)) (leaves.each_sector s);
}

-- and one write the one or the other
pub settled_either : (hold : ℕ → List ℕ → Type 0) (told : List ℕ) (seen : Image) (at : ℕ)
    (bytes : List ℕ)
    → IsSettled seen hold
    → (o : Outcome)
    → LeavesWith (IsAt at bytes) told hold o
    → LeavesEither told seen (set_sector seen at bytes) o
settled_either hold told seen at bytes settled o leaves =
    let blend = settled_blend (IsAt at bytes) hold told seen (set_sector seen at bytes) settled
    (λ s b is. is.1 ∙ sym (set_here seen at bytes s is.0)) o leaves in
    record { told_so_far = blend.told_so_far; either = blend_one seen o.image at bytes blend.blend }

-- The writes of two runs, one after the other, with what either may leave.
pub no_more_then : (V W hold mid new : ℕ → List ℕ → Type 0)
    → NoMoreBut V hold mid
    → NoMoreBut W mid new
    → ((s : ℕ) (b : List ℕ) → W s b → V s b)
    → NoMoreBut V hold new
no_more_then V W hold mid new so_far more wider s b now =
    ⊎_elim (λ was. so_far s b was) (λ wrote. inr (wider s b wrote)) (more s b now)

pub with_wider : (V W hold : ℕ → List ℕ → Type 0) (told : List ℕ)
    → ((s : ℕ) (b : List ℕ) → W s b → V s b)
    → (o : Outcome)
    → LeavesWith W told hold o
    → LeavesWith V told hold o
with_wider V W hold told wider o leaves = record {
  told_so_far = leaves.told_so_far;
  each_sector = λ s. ⊎_elim (λ was. inl was) (λ wrote. inr (wider s (o.image s) wrote))
      (leaves.each_sector s);
}

pub with_then : (V W hold mid : ℕ → List ℕ → Type 0) (told told' : List ℕ)
    → told' ≡ told
    → NoMoreBut V hold mid
    → ((s : ℕ) (b : List ℕ) → W s b → V s b)
    → (o : Outcome)
    → LeavesWith W told' mid o
    → LeavesWith V told hold o
with_then V W hold mid told told' same so_far wider o leaves = record {
  told_so_far = leaves.told_so_far ∙ same;
  each_sector = λ s. ⊎_elim (λ was. so_far s (o.image s) was)
      (λ wrote. inr (wider s (o.image s) wrote)) (leaves.each_sector s);
}

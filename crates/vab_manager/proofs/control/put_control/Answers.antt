use Rattle.std.proofs.Common.{◌≡◌, inl, inr, ⊎_elim, ℕ, List, Ok, Err, Result, sym, ◌∙◌, ap, subst}
use Rattle.std.specs.Prelude.{OnOk}
use Rattle.vab_disk.specs.Disk.{Image, Outcome, IsSettled, SameHoldings, Adds, Nothing}
use Rattle.vab_disk.specs.Disk.{LeavesEither, set_sector}
use Rattle.vab_disk.proofs.CallLaws.{touches_reads, touches_then, touches_wider}
use Rattle.vab_disk.proofs.Moments.{adds_wider, adds_on}
use Rattle.vab_bootctl.specs.Control.{control_of, KeepsRest}
use Rattle.vab_bootctl.specs.declared.slots.Control.{Control}
use Rattle.vab_manager.specs.Controls.{HasControl, LeavesControl}
use Rattle.vab_manager.proofs.control.put_control.Goals as goal

module _ {D : Type 0} (moment : D → ℕ) (outcomes : D → ℕ → Outcome → Type 0) where
  gated : (old mid new : D) (state : Control) (seen seen' : Image) (hold hold' : ℕ → List ℕ
      → Type 0)
      (told told' sector : List ℕ)
      → seen' ≡ seen
      → told' ≡ told
      → SameHoldings hold hold'
      → control_of sector ≡ Ok state
      → KeepsRest (seen 4) sector
      → Adds moment outcomes old mid Nothing
      → (IsSettled seen' hold'
      → Adds moment outcomes mid new (LeavesEither told' seen' (set_sector seen' 4 sector)))
      → IsSettled seen hold
      → Adds moment outcomes old new (LeavesControl told state seen)
  gated old mid new state seen seen' hold hold' told told' sector same same_told holds decoded keeps
      read gate
      settled =
      adds_on moment outcomes old mid new (LeavesControl told state seen)
      (LeavesEither told' seen' (set_sector seen' 4 sector))
      (adds_wider moment outcomes old mid Nothing (LeavesControl told state seen) read
      (λ o none. absurd none))
      (gate
      (λ s b held. settled s b (holds.no_more s b held)
      ∙ ap (λ (image : Image). image s) (sym same)))
      (λ o leaves. record {
        told_so_far = leaves.told_so_far ∙ same_told;
        either =
            ⊎_elim (λ was. inl (was ∙ same))
            (λ now.
            inr (
              sector,
              decoded,
              keeps,
              now ∙ ap (λ (image : Image). set_sector image 4 sector)
                  same,
            ))
            leaves.either;
      })

-- the sector is written over what was read
written : {A E : Type 0} (r : Result A E) (control : Control) (old mid new : Image)
    (sector : List ℕ)
    → control_of sector ≡ Ok control
    → KeepsRest (old 4) sector
    → mid ≡ old
    → OnOk r (new ≡ set_sector mid 4 sector)
    → OnOk r (HasControl control old new)
written (Ok x) control old mid new sector decoded keeps same is =
    (sector, decoded, keeps, is ∙ ap (λ (image : Image). set_sector image 4 sector) same)
written (Err e) control old mid new sector decoded keeps same is = tt

pub returns-in_err-get_sector-clause-touches : goal.returns-in_err-get_sector-clause-touches
returns-in_err-get_sector-clause-touches g c = λ t.
    touches_reads g.D.Disk _ _ _ c.get_sector.ensures.reads

pub returns-in_err-get_sector-clause-gate : goal.returns-in_err-get_sector-clause-gate
returns-in_err-get_sector-clause-gate g c = λ t rest.
    adds_wider g.D.Disk.moment g.D.Disk.outcomes _ _ Nothing _ (c.get_sector.ensures.reads.time t)
    (λ o none. absurd none)

pub returns-clause-sector : goal.returns-clause-sector
returns-clause-sector g c = λ t.
    let bytes = c.encode_control_into.new.bytes in
    written c.put_gate.result c.args.control.now _ _ _ bytes c.encode_control_into.ensures.decoded
    (subst (λ (l : List ℕ). KeepsRest l bytes) (c.in_ok-get_sector.ensures.bytes t)
    c.encode_control_into.ensures.rest)
    (c.get_sector.ensures.reads.seen t) (c.put_gate.ensures.written t)

pub returns-clause-touches : goal.returns-clause-touches
returns-clause-touches g c = λ t.
    let bytes = c.encode_control_into.new.bytes in
    let keeps = subst (λ (l : List ℕ). KeepsRest l bytes) (c.in_ok-get_sector.ensures.bytes t)
    c.encode_control_into.ensures.rest in
    touches_then g.D.Disk _ _ _ _ (touches_reads g.D.Disk _ _ _ c.get_sector.ensures.reads)
    (touches_wider g.D.Disk _ _ _ _ c.put_gate.ensures.touches
    (λ s b is. record {
      at = is.0;
      control = ap control_of is.1 ∙ c.encode_control_into.ensures.decoded;
      rest = subst (λ (l : List ℕ). KeepsRest (g.D.Disk.seen c.args.d.now 4) l) (sym is.1) keeps;
    }))

pub returns-clause-gate : goal.returns-clause-gate
returns-clause-gate g c = λ t rest.
    let bytes = c.encode_control_into.new.bytes in
    let keeps = subst (λ (l : List ℕ). KeepsRest l bytes) (c.in_ok-get_sector.ensures.bytes t)
    c.encode_control_into.ensures.rest in
    gated g.D.Disk.moment g.D.Disk.outcomes _ _ _ c.args.control.now _ _ _ _ _ _ bytes
    (c.get_sector.ensures.reads.seen t) (c.get_sector.ensures.reads.quiet.told t)
    (c.get_sector.ensures.reads.crash t) c.encode_control_into.ensures.decoded keeps
    (c.get_sector.ensures.reads.time t) (c.put_gate.ensures.gate t) rest

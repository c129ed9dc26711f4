use Rattle.std.proofs.Common.{◌≡◌, ◌≢◌, ◌*◌, ◌<◌, ◌∙◌, inl, inr, ap, ℕ, List, refl, sym, arith}
use Rattle.std.proofs.Common.{subst}
use Rattle.std.proofs.lemmas.Bool.{cases_lt}
use Rattle.vab_disk.specs.Calls.{Touches}
use Rattle.vab_disk.specs.Disk.{Image}
use Rattle.vab_disk.proofs.CallLaws.{touches_none, touches_reads, touches_then}
use Rattle.vab_space.specs.declared.Chunk.{Chunk}
use Rattle.vab_store.specs.Sectors.{page_sector}
use Rattle.vab_store.proofs.SlotLaws.{sector_other}
use Rattle.vab_merge.specs.Cleared.{IsClearedAt, IsClearing, IsOfThem}
use Rattle.vab_merge.proofs.ClearLaws.{cleared_at, there_is, here_is}
use Rattle.vab_merge.proofs.ClearLaws.{touches_clearing}
use Rattle.vab_merge.proofs.clear.clear_entries.Goals as goal

pub loop-i-init : goal.loop-i-init
loop-i-init g c = record {
  done = λ t i them below. absurd (omega (arith, them.from, below));
  left = λ t i over below. refl;
  touches = touches_none g.D.Disk _ _;
  steady = refl;
}

pub loop-i-preserved : goal.loop-i-preserved
loop-i-preserved g c =
    let inv = c.loop-i.invariant in
    let k : Chunk = c.args.chunk in
    let store : List ℕ = c.args.store.now in
    let first : ℕ = c.args.first in
    let end : ℕ = c.args.end in
    let n : ℕ = c.loop-i.i in
    let at : ℕ = c.sector_at-at.result in
    let at_is : at ≡ page_sector k store n = c.sector_at-at.ensures in
    let bytes : List ℕ = c.clear_sector.new.sector in
    let now : Image = g.D.Disk.seen c.args.d.now in
    let them : IsOfThem first end n = record {
      from = omega arith;
      below = omega (arith, c.loop-i-test.true, c.div_ceil-i-end.ensures);
    } in
    let cleared : IsClearedAt first end n c.get_sector.new.out bytes =
    cleared_at first end n c.saturating_sub.result c.min.result c.get_sector.new.out bytes
    c.saturating_sub.ensures c.min.ensures c.clear_sector.ensures in
    let read_touches : Touches g.D.Disk
    (IsClearing k store first end now) c.args.d.now c.get_sector.new.d =
    touches_then g.D.Disk _ _ _ _ inv.touches
    (touches_reads g.D.Disk _ _ _ c.get_sector.ensures.reads) in
    let mid : Image = g.D.Disk.seen c.get_sector.new.d in
    let new : Image = g.D.Disk.seen c.put_sector.new.d in
    let other : g.D.Disk.is_modelled → (i : ℕ) → 32 * i < end → i ≢ n → page_sector k store i ≢ at =
    λ t i below differs same.
    sector_other k store i n (c.requires.apart t)
    (omega (arith, below, c.requires.there))
    (omega (arith, them.below, c.requires.there))
    differs (same ∙ at_is) in
    record {
      done = λ t i is below.
          let was : c.get_sector.new.out ≡ now (page_sector k store n) =
          c.in_ok-get_sector.ensures.bytes t
          ∙ ap (g.D.Disk.seen c.loop-i.d) at_is
          ∙ inv.left t n (omega arith) them.below in
          elim (cases_lt i n) [
            | inl before ↦
                subst (IsClearedAt first end i (now (page_sector k store i)))
                (sym (there_is mid new at (page_sector k store i) bytes
                (other t i is.below (λ same. omega (arith, same, before)))
                (c.in_ok-put_sector.ensures.written t)
                ∙ ap (λ (o : Image). o (page_sector k store i))
                (c.get_sector.ensures.reads.seen t)))
                (inv.done t i is before)
            | inr behind ↦
                let one : n ≡ i = omega (arith, behind, below) in
                subst (λ (j : ℕ). IsClearedAt first end j (now (page_sector k store j))
                (new (page_sector k store j))) one
                (subst (λ (b : List ℕ). IsClearedAt first end n b
                (new (page_sector k store n))) was
                (subst (IsClearedAt first end n c.get_sector.new.out)
                (sym (here_is mid new at (page_sector k store n) bytes at_is
                (c.in_ok-put_sector.ensures.written t)))
                cleared))
          ];
      left = λ t i over below.
          there_is mid new at (page_sector k store i) bytes
          (other t i below (λ same. omega (arith, same, over)))
          (c.in_ok-put_sector.ensures.written t)
          ∙ ap (λ (o : Image). o (page_sector k store i)) (c.get_sector.ensures.reads.seen t)
          ∙ inv.left t i (omega (arith, over)) below;
      touches = touches_clearing g.D.Disk k store first end n at c.get_sector.new.out bytes
          c.args.d.now c.loop-i.d c.get_sector.new.d c.put_sector.new.d read_touches
          (λ t. c.in_ok-get_sector.ensures.bytes t)
          (λ t. inv.left t n (omega arith) them.below)
          c.put_sector.ensures.touches at_is them cleared;
      steady = c.in_ok-put_sector.ensures.faults.steady ∙ c.in_ok-get_sector.ensures.faults.steady
          ∙ inv.steady;
    }

pub returns-clause-cleared : goal.returns-clause-cleared
returns-clause-cleared g c = λ t i them.
    c.loop-i.invariant.done t i them
    (omega (arith, c.loop-i-test.false, them.below, c.div_ceil-i-end.ensures))

pub returns-in_err-get_sector-clause-touches : goal.returns-in_err-get_sector-clause-touches
returns-in_err-get_sector-clause-touches g c =
    touches_then g.D.Disk _ _ _ _ c.loop-i.invariant.touches
    (touches_reads g.D.Disk _ _ _ c.get_sector.ensures.reads)

pub returns-in_err-put_sector-clause-touches : goal.returns-in_err-put_sector-clause-touches
returns-in_err-put_sector-clause-touches g c =
    let inv = c.loop-i.invariant in
    let k : Chunk = c.args.chunk in
    let store : List ℕ = c.args.store.now in
    let first : ℕ = c.args.first in
    let end : ℕ = c.args.end in
    let n : ℕ = c.loop-i.i in
    let at : ℕ = c.sector_at-at.result in
    let at_is : at ≡ page_sector k store n = c.sector_at-at.ensures in
    let bytes : List ℕ = c.clear_sector.new.sector in
    let now : Image = g.D.Disk.seen c.args.d.now in
    let them : IsOfThem first end n = record {
      from = omega arith;
      below = omega (arith, c.loop-i-test.true, c.div_ceil-i-end.ensures);
    } in
    let cleared : IsClearedAt first end n c.get_sector.new.out bytes =
    cleared_at first end n c.saturating_sub.result c.min.result c.get_sector.new.out bytes
    c.saturating_sub.ensures c.min.ensures c.clear_sector.ensures in
    let read_touches : Touches g.D.Disk
    (IsClearing k store first end now) c.args.d.now c.get_sector.new.d =
    touches_then g.D.Disk _ _ _ _ inv.touches
    (touches_reads g.D.Disk _ _ _ c.get_sector.ensures.reads) in
    touches_clearing g.D.Disk k store first end n at c.get_sector.new.out bytes
    c.args.d.now c.loop-i.d c.get_sector.new.d c.put_sector.new.d read_touches
    (λ t. c.in_ok-get_sector.ensures.bytes t)
    (λ t. inv.left t n (omega arith) them.below)
    c.put_sector.ensures.touches at_is them cleared

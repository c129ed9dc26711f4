use Rattle.std.proofs.Common.{◌≡◌, ℕ, true, Some, None, sym, ◌∙◌, ap, arith}
use Rattle.vab_disk.specs.Disk.{Image}
use Rattle.vab_marks.specs.Sector.{are_zeros}
use Rattle.vab_statuses.specs.Statuses.{IsFirstFree}
use Rattle.vab_statuses.proofs.StatusesLaws.{first_is_free}
use Rattle.vab_statuses.proofs.reading.first_free.Goals as goal

pub returns-then-is_blank-clause-free : goal.returns-then-is_blank-clause-free
returns-then-is_blank-clause-free g c = λ t statuses read.
    let image : Image = g.D.Disk.seen c.args.d.now in
    let at : ℕ = c.loop-at.at in
    let bytes = c.in_ok-get_sector.ensures.bytes t in
    let same = c.loop-at.invariant.reads.seen t in
    let zeros : are_zeros (image at) ≡ true =
    ap (λ (i : Image). are_zeros (i at)) (sym same)
    ∙ ap are_zeros (sym bytes)
    ∙ sym c.is_blank.ensures
    ∙ c.if-is_blank.true in
    let first : IsFirstFree image (Some at) =
    (record { from = omega arith; below = omega arith }, zeros, c.loop-at.invariant.before t) in
    first_is_free image statuses (Some at) read first

pub returns-clause-free : goal.returns-clause-free
returns-clause-free g c = λ t statuses read.
    let first : IsFirstFree (g.D.Disk.seen c.args.d.now) None =
    λ s is. c.loop-at.invariant.before t s (record {
      from = is.from;
      below = omega (arith, is.below, c.loop-at-test.false);
    }) in
    first_is_free (g.D.Disk.seen c.args.d.now) statuses None read first

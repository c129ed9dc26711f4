-- A disk of version 1 is read the same while it goes on with version 2.
use Rattle.std.proofs.Common.{◌≡◌, ◌≢◌, ◌∙◌, ℕ, zero, suc, ◌+◌, ◌≤◌, ◌<◌}
use Rattle.std.proofs.Common.{true, false, Bool, List, Result, Ok, Err, refl, sym, ap, arith}
use Rattle.std.proofs.Common.{replicate}
use Rattle.std.specs.Prelude.{Option}
use Rattle.vab_disk.specs.Disk.{Image}
use Rattle.vab_marks.specs.declared.status.PartStatus.{PartStatus}
use Rattle.vab_marks.specs.declared.version.MarkVersion.TheVariants.{One, Two}
use Rattle.vab_marks.specs.Mark.{mark_of}
use Rattle.vab_marks.specs.Sector.{are_zeros}
use Rattle.vab_marks.specs.Version.{partitions_under}
use Rattle.vab_statuses.specs.Statuses.{statuses_under}
use Rattle.vab_statuses.proofs.UnderLaws.{under_first, under_zeroed}
use Rattle.vab_device.specs.declared.fault.StartFault.{StartFault}
use Rattle.vab_device.specs.declared.fault.StartFault.TheVariants.{BadMark}
use Rattle.vab_device.specs.Phases.{phase_at}
use Rattle.vab_device.specs.Reading.{Read, Reads, SameRead, kept, stores_of, mark_read, mark_in}
use Rattle.vab_device.specs.Reading.{version_at, most_at, statuses_read, statuses_at}
use Rattle.vab_device.proofs.Behind.{images_behind, stores_behind, plan_behind, overlay_behind}
use Rattle.vab_device.proofs.SameLaws.{control_same, tail_kept, geometry_same, tables_agree}
use Rattle.vab_device.proofs.SameLaws.{images_same}
use Rattle.vab_device.proofs.StayLaws.{copies_from}
use Rattle.vab_device.proofs.StoreLaws.{stores_kept, plan_kept, overlay_kept}
use Rattle.vab_tidy.specs.Migration.{IsOfAdded}

-- one same reading behind the other
pub same_then : (size : ℕ) (r : Read) (old mid new : Image)
    → SameRead size r old mid
    → SameRead size r mid new
    → SameRead size r old new
same_then size r old mid new first then_ = record {
  most = omega (arith, first.most, then_.most);
  mark = then_.mark ∙ first.mark;
  statuses = then_.statuses ∙ first.statuses;
  control = then_.control ∙ first.control;
  tail = then_.tail ∙ first.tail;
  geometry = then_.geometry ∙ first.geometry;
  tables = then_.tables ∙ first.tables;
  stores = then_.stores ∙ first.stores;
  images_a = then_.images_a ∙ first.images_a;
  images_b = then_.images_b ∙ first.images_b;
  plan = then_.plan ∙ first.plan;
  overlay = then_.overlay ∙ first.overlay;
}

marks_same : (old new : Image)
    → mark_of (new 2048) ≡ mark_of (old 2048)
    → mark_in new ≡ mark_in old
unfolding mark_in
marks_same old new same = ap mark_read same

module _
    (size : ℕ) (r : Read) (old new : Image)
    (reads : Reads size r old)
    (others : (s : ℕ) → (IsOfAdded s → ⊥) → s ≢ 2048 → new s ≡ old s)
    (mark : mark_of (new 2048) ≡ mark_of (old 2048)) where
  low : (s : ℕ) → s < 2048 → new s ≡ old s
  low s below = others s (λ w. omega (arith, w.from, below)) (λ e. omega (arith, e, below))

  high : (s : ℕ) → 2113 ≤ s → new s ≡ old s
  high s from = others s (λ w. omega (arith, w.below, from)) (λ e. omega (arith, e, from))

  first_statuses : (k : ℕ) → k < 32 → new (2049 + k) ≡ old (2049 + k)
  first_statuses k below =
      others (2049 + k) (λ w. omega (arith, w.from, below)) (λ e. omega (arith, e))

  same_with : most_at old ≤ most_at new
      → statuses_at (phase_at r.mark).reads_statuses new
      ≡ statuses_at (phase_at r.mark).reads_statuses old
      → SameRead size r old new
  same_with most statuses = record {
    most = most;
    mark = marks_same old new mark;
    statuses = statuses;
    control = control_same _ _ old new (low 4 (omega arith));
    tail = tail_kept r.mark.physical size old new (λ some. high 2113 (omega arith));
    geometry =
        geometry_same r.tail.super_end old new (high 4104 (omega arith)) (high 4112 (omega arith));
    tables =
        tables_agree r.tail.super_end r.geometry (phase_at r.mark).tables old new
        (λ s is.
        high s (omega (
          arith,
          copies_from r.geometry (phase_at r.mark).tables s is,
        )));
    stores =
        stores_kept (stores_of r) old new r.scanned
        (λ s is. high s (omega (arith, stores_behind size 4096 r old s reads (omega arith) is)))
        reads.stores;
    images_a =
        images_same old new (kept r).a
        (λ s is.
        high s (omega (arith, images_behind size 4096 0 _ _ r old s reads (omega arith) is)));
    images_b =
        images_same old new (kept r).b
        (λ s is.
        high s (omega (arith, images_behind size 4096 1 _ _ r old s reads (omega arith) is)));
    plan =
        plan_kept (kept r).plan old new
        (λ s is. high s (omega (arith, plan_behind size 4096 r old s reads (omega arith) is)));
    overlay =
        overlay_kept (kept r).overlay old new
        (λ s is. high s (omega (arith, overlay_behind size 4096 r old s reads (omega arith) is)));
  }

  -- ---- before the mark is written

  one_statuses : (b : Bool)
      → version_at old ≡ One
      → version_at new ≡ One
      → statuses_at b new ≡ statuses_at b old
  unfolding statuses_at
  one_statuses false was is = refl
  one_statuses true was is =
      ap (λ v. statuses_read (statuses_under v new)) is
      ∙ ap statuses_read (under_first old new first_statuses)
      ∙ ap (λ v. statuses_read (statuses_under v old)) (sym was)

  pub same_before : version_at old ≡ One → version_at new ≡ One → SameRead size r old new
  same_before was is =
      same_with
      (omega (arith, ap partitions_under was, ap partitions_under is))
      (one_statuses (phase_at r.mark).reads_statuses was is)

  -- ---- with the mark of version 2

  read_ok : (x : Result (List (Option PartStatus)) ℕ) (l : List (Option PartStatus))
      → statuses_read x ≡ Ok l
      → x ≡ Ok l
  read_ok (Ok m) l h = let same : m ≡ l = cc in ap Ok same
  read_ok (Err at) l h =
      absurd (let bad : (let x : Result (List (Option PartStatus)) StartFault = Err (BadMark at)
      in x ≡ Ok l) = h in cc)

  two_statuses : (b : Bool) (l : List (Option PartStatus))
      → version_at old ≡ One
      → version_at new ≡ Two
      → ((k : ℕ) → 32 ≤ k → k < 64 → are_zeros (new (2049 + k)) ≡ true)
      → statuses_at b old ≡ Ok l
      → statuses_at b new ≡ Ok l
  unfolding statuses_at
  two_statuses false l was is blank read = read
  two_statuses true l was is blank read =
      ap (λ v. statuses_read (statuses_under v new)) is
      ∙ ap statuses_read
      (under_zeroed old new l
      (read_ok (statuses_under One old) l
      (ap (λ v. statuses_read (statuses_under v old)) (sym was) ∙ read))
      first_statuses blank)

  pub same_behind : version_at old ≡ One
      → version_at new ≡ Two
      → ((k : ℕ) → 32 ≤ k → k < 64 → are_zeros (new (2049 + k)) ≡ true)
      → SameRead size r old new
  same_behind was is blank =
      same_with
      (omega (arith, ap partitions_under was, ap partitions_under is))
      (two_statuses (phase_at r.mark).reads_statuses r.statuses was is blank reads.statuses
      ∙ sym reads.statuses)

zeros_are : (n : ℕ) → are_zeros (replicate n 0) ≡ true
zeros_are zero = refl
zeros_are (suc n) = zeros_are n

-- zeros in the sectors that version 2 adds
pub blank_of : (image : Image)
    → ((s : ℕ) → IsOfAdded s → image s ≡ replicate 512 0)
    → (k : ℕ)
    → 32 ≤ k
    → k < 64
    → are_zeros (image (2049 + k)) ≡ true
blank_of image zeros k from below =
    ap are_zeros
    (zeros (2049 + k) (record { from = omega (arith, from); below = omega (arith, below) }))
    ∙ zeros_are 512

-- The statuses that are read where the mark has a version.
use Rattle.std.proofs.Common.{◌≡◌, ℕ, zero, suc, ◌+◌, ◌-◌, ◌<◌}
use Rattle.std.proofs.Common.{◌≤◌, true, List, [], ◌∷◌, ◌++◌, length}
use Rattle.std.proofs.Common.{replicate, Option, None, Result, Ok, Err, refl, sym, ap, ◌∙◌}
use Rattle.std.proofs.Common.{subst, arith, append_assoc, append-nil}
use Rattle.std.proofs.lemmas.List.Elements.{All-push}
use Rattle.vab_disk.specs.Disk.{Image}
use Rattle.vab_marks.specs.declared.status.PartStatus.{PartStatus}
use Rattle.vab_marks.specs.declared.version.MarkVersion.{MarkVersion}
use Rattle.vab_marks.specs.declared.version.MarkVersion.TheVariants.{One, Two}
use Rattle.vab_marks.specs.Version.{partitions_under}
use Rattle.vab_marks.specs.Sector.{are_zeros}
use Rattle.vab_statuses.specs.declared.fault.StatusFault.{StatusFault}
use Rattle.vab_statuses.specs.declared.fault.StatusFault.TheVariants.{Bad, Disk}
use Rattle.vab_statuses.specs.Statuses.{AreFitting, FitsEntry, NamesDiffer, IsOfStatuses, filled}
use Rattle.vab_statuses.specs.Statuses.{statuses_of, statuses_under}
use Rattle.vab_statuses.specs.Answers.{TellsBad}
use Rattle.vab_statuses.proofs.ReadLaws.{differ_more}
use Rattle.vab_statuses.proofs.StatusesLaws.{statuses_longer, statuses_first, statuses_same}

-- ---- none behind the others

pub differ_filled : (n : ℕ) (l : List (Option PartStatus))
    → NamesDiffer l
    → NamesDiffer (l ++ replicate n None)
differ_filled zero l h = subst NamesDiffer (sym (append-nil l)) h
differ_filled (suc n) l h =
    subst NamesDiffer (append_assoc l (None ∷ []) (replicate n None))
    (differ_filled n (l ++ None ∷ []) (differ_more None l refl h))

pub fits_filled : (n : ℕ) (l : List (Option PartStatus))
    → AreFitting l
    → AreFitting (l ++ replicate n None)
fits_filled zero l h = subst AreFitting (sym (append-nil l)) h
fits_filled (suc n) l h =
    subst AreFitting (append_assoc l (None ∷ []) (replicate n None))
    (fits_filled n (l ++ None ∷ []) (All-push FitsEntry l None h tt))

-- ---- under a version

pub under_ok : (v : MarkVersion) (image : Image) (l : List (Option PartStatus))
    → statuses_of (partitions_under v) image ≡ Ok l
    → length l ≡ partitions_under v
    → statuses_under v image ≡ Ok (l ++ replicate (64 - length l) None)
under_ok One image l h all =
    let left : 32 ≡ 64 - length l = omega (arith, all) in
    ap filled h ∙ ap (λ (n : ℕ). Ok (l ++ replicate n None)) left
under_ok Two image l h all =
    let left : 0 ≡ 64 - length l = omega (arith, all) in
    h
    ∙ ap (λ (t : List (Option PartStatus)). Ok t) (sym (append-nil l))
    ∙ ap (λ (n : ℕ). Ok (l ++ replicate n None)) left

bad_at : (v : MarkVersion) (image : Image) (at : ℕ)
    → statuses_of (partitions_under v) image ≡ Err at
    → statuses_under v image ≡ Err at
bad_at One image at h = ap filled h
bad_at Two image at h = h

pub under_bad : (v : MarkVersion) (image : Image) (f : StatusFault)
    → TellsBad (statuses_of (partitions_under v) image) f
    → TellsBad (statuses_under v image) f
under_bad v image (Bad at) h = bad_at v image at h
under_bad v image (Disk fault) h = tt

-- ---- other sectors don't matter

-- under version 1 those of the sectors that version 2 adds
pub under_first : (old new : Image)
    → ((k : ℕ) → k < 32 → new (2049 + k) ≡ old (2049 + k))
    → statuses_under One new ≡ statuses_under One old
under_first old new same = ap filled (statuses_first 32 old new same)

pub under_same : (v : MarkVersion) (old new : Image)
    → ((s : ℕ) → IsOfStatuses s → new s ≡ old s)
    → statuses_under v new ≡ statuses_under v old
under_same One old new same =
    under_first old new
    (λ k below. same (2049 + k) (record { from = omega arith; below = omega (arith, below) }))
under_same Two old new same = statuses_same old new same

-- ---- from the one version to the other

found_filled : (r : Result (List (Option PartStatus)) ℕ) (l : List (Option PartStatus))
    → filled r ≡ Ok l
    → (k : List (Option PartStatus)) × (r ≡ Ok k) × (k ++ replicate 32 None ≡ l)
found_filled (Ok k) l h = (k, refl, cc)
found_filled (Err at) l h = absurd cc

-- what is read under version 1 is read under version 2, once the sectors behind are zeros
pub under_zeroed : (old new : Image) (l : List (Option PartStatus))
    → statuses_under One old ≡ Ok l
    → ((k : ℕ) → k < 32 → new (2049 + k) ≡ old (2049 + k))
    → ((k : ℕ) → 32 ≤ k → k < 64 → are_zeros (new (2049 + k)) ≡ true)
    → statuses_under Two new ≡ Ok l
under_zeroed old new l h same blank =
    let f = found_filled (statuses_of 32 old) l h in
    statuses_longer old new f.0 f.1 same blank
    ∙ ap (λ (t : List (Option PartStatus)). Ok t) f.2

-- Under either version of a mark: statuses in all sectors are as many as a slot has partitions.
use Rattle.std.proofs.Common.{◌≡◌, ℕ, ◌+◌, ◌<◌, ◌≤◌, true, List, [], length, cond, ltb}
use Rattle.std.proofs.Common.{Option, Some, None, Ok, sym, ap, ◌∙◌, arith}
use Rattle.std.proofs.lemmas.Bool.{cond-true, cond-false, lt-ltb, le-ltb}
use Rattle.vab_disk.specs.Disk.{Image}
use Rattle.vab_marks.specs.declared.status.PartStatus.{PartStatus}
use Rattle.vab_marks.specs.declared.version.MarkVersion.{MarkVersion}
use Rattle.vab_marks.specs.declared.version.MarkVersion.TheVariants.{One, Two}
use Rattle.vab_marks.specs.Sector.{are_zeros}
use Rattle.vab_marks.specs.Version.{partitions_under}
use Rattle.vab_statuses.specs.Statuses.{statuses_in, statuses_under, written_in, NamesDiffer}
use Rattle.vab_statuses.specs.Statuses.{IsFirstFree}
use Rattle.vab_statuses.proofs.ReadLaws.{statuses_found}
use Rattle.vab_statuses.proofs.StatusesLaws.{first_is_free}
use Rattle.vab_statuses.proofs.UnderLaws.{under_zeroed}
use Rattle.vab_flash.proofs.FewLaws.{all_written}
use Rattle.vab_targets.proofs.FirstFree.{NoneFree, IsFree, first_free, none_first, before_free}

pub few_under : (v : MarkVersion) → partitions_under v ≤ 64
few_under One = omega arith
few_under Two = omega arith

-- ---- under version 1

-- this image, with no bytes behind the first 32 sectors of statuses
abbrev blanked : Image → Image
blanked image = λ s. cond (ltb s 2081) (image s) []

same_first : (image : Image) (k : ℕ) → k < 32 → blanked image (2049 + k) ≡ image (2049 + k)
same_first image k below =
    cond-true (ltb (2049 + k) 2081) (image (2049 + k)) []
    (lt-ltb (2049 + k) 2081 (omega (arith, below)))

none_behind : (image : Image) (k : ℕ) → 32 ≤ k → blanked image (2049 + k) ≡ []
none_behind image k from =
    cond-false (ltb (2049 + k) 2081) (image (2049 + k)) []
    (le-ltb (2049 + k) 2081 (omega (arith, from)))

zeros_behind : (image : Image) (k : ℕ) → 32 ≤ k → are_zeros (blanked image (2049 + k)) ≡ true
zeros_behind image k from = ap are_zeros (none_behind image k from)

-- what is read of it under version 2
blanked_read : (image : Image) (l : List (Option PartStatus))
    → statuses_under One image ≡ Ok l
    → statuses_in (blanked image) ≡ Ok l
blanked_read image l read =
    under_zeroed image (blanked image) l read (same_first image)
    (λ k from below. zeros_behind image k from)

-- where none of the first 32 is free, the sector behind them is the first free one of it
behind_free : (image : Image) → NoneFree image 32 → IsFirstFree (blanked image) (Some 2081)
behind_free image none =
    let free : IsFree (blanked image) 64 = record {
      place = 32;
      below = omega arith;
      zeros = zeros_behind image 32 (omega arith);
      before = λ k lt. ap are_zeros (same_first image k lt) ∙ none k lt;
    } in
    first_free (blanked image) 64 free (omega arith)

-- ---- under either version

pub differ_under : (v : MarkVersion) (image : Image) (l : List (Option PartStatus))
    → statuses_under v image ≡ Ok l
    → NamesDiffer l
differ_under One image l read =
    (statuses_found 64 (blanked image) l (blanked_read image l read)).differ
differ_under Two image l read = (statuses_found 64 image l read).differ

-- where none of the sectors is free there are as many statuses as sectors
pub filled : (v : MarkVersion) (image : Image) (l : List (Option PartStatus))
    → statuses_under v image ≡ Ok l
    → NoneFree image (partitions_under v)
    → partitions_under v ≤ length (written_in l)
filled One image l read none =
    before_free 2049 l 32
    (sym
    (first_is_free (blanked image) l (Some 2081) (blanked_read image l read)
    (behind_free image none)))
filled Two image l read none =
    let written =
    all_written 2049 l (sym (first_is_free image l None read (none_first image none))) in
    omega (arith, written, (statuses_found 64 image l read).all)

-- What the rules of a slot that is merged follow from, and what follows from them.
use Rattle.std.proofs.Common.{◌≡◌, ℕ, ◌≤◌, List, [], None}
use Rattle.vab_names.specs.Names.{most_partitions}
use Rattle.vab_layout.specs.declared.layout.Part.{Part}
use Rattle.vab_layout.specs.Slots.{own_parts}
use Rattle.vab_partitions.specs.Rules.{bad_part}
use Rattle.vab_partitions.specs.Merging.{FitsMerging}
use Rattle.vab_partitions.specs.TargetRules.{bad_beside}
use Rattle.vab_partitions.specs.MergingRules.{bad_merging_of}
use Rattle.vab_partitions.proofs.OwnRules.{none_bad}
use Rattle.vab_partitions.proofs.TargetLaws.{target_merging}
use Rattle.vab_partitions.proofs.BadTarget.{no_bad_target, no_bad_merging, merging_not_bad}

-- a target that keeps its rules beside a source keeps those of a slot that is merged
pub merging_of_target : (most slot : ℕ) (twins source target : List Part)
    → most ≤ most_partitions
    → bad_beside most slot twins source target ≡ None
    → bad_merging_of most slot target ≡ None
merging_of_target most slot twins source target small none =
    let fits = no_bad_target most slot twins source target small none in
    merging_not_bad most slot target
    (record { is = target_merging slot twins source target fits.is; few = fits.few })

-- where none is bad, the slot keeps the rules
pub is_merging : (most slot : ℕ) (target : List Part)
    → most ≤ most_partitions
    → bad_merging_of most slot target ≡ None
    → FitsMerging most slot target
is_merging most slot target small none = no_bad_merging most slot target small none

-- and its own partitions keep theirs
pub own_of_merging : (most slot : ℕ) (target : List Part)
    → most ≤ most_partitions
    → bad_merging_of most slot target ≡ None
    → bad_part most slot [] (own_parts slot target) ≡ None
own_of_merging most slot target small none =
    let fits = is_merging most slot target small none in
    none_bad most slot target fits.is.own fits.few

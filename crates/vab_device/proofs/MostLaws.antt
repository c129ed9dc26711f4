-- Where a slot may have more partitions, the rules that are kept stay kept.
use Rattle.std.proofs.Common.{◌≡◌, ℕ, ◌≤◌, List, [], ◌∷◌, refl, ap, sym, subst, arith, ◌∙◌}
use Rattle.std.specs.Prelude.{Option, Some, None, Bool, false}
use Rattle.vab_disk.specs.Disk.{Image}
use Rattle.vab_marks.specs.declared.mark.MarkPhase.{MarkPhase}
use Rattle.vab_marks.specs.declared.mark.MarkPhase.TheVariants as marks
use Rattle.vab_marks.specs.declared.mark.UpdateMark.{UpdateMark}
use Rattle.vab_marks.specs.declared.version.MarkVersion.{MarkVersion}
use Rattle.vab_marks.specs.declared.version.MarkVersion.TheVariants.{One, Two}
use Rattle.vab_marks.specs.Version.{partitions_under}
use Rattle.vab_names.specs.Names.{most_partitions}
use Rattle.vab_tables.specs.declared.table.Table.{Table}
use Rattle.vab_layout.specs.Layout.{layout_of}
use Rattle.vab_layout.specs.Slots.{other_slot, own_parts, twins_by}
use Rattle.vab_partitions.proofs.MostLaws.{more_partitions, more_target, more_merging}
use Rattle.vab_device.specs.declared.fault.StartFault.TheVariants.{BadTable}
use Rattle.vab_device.specs.Checks.{Check, check, names_none, or_else, first_fault}
use Rattle.vab_device.specs.Phases.{phase_in, idle, merging, own_check, twin_check, target_check}
use Rattle.vab_device.specs.Phases.{no_store_check, merging_check, of_both, update_checks, single}
use Rattle.vab_device.specs.Reading.{Read, version_at, most_at, part_fault}
use Rattle.vab_device.specs.Phases.{overlay_checks}

named_none : (o : Option (List ℕ)) → names_none o ≡ None → o ≡ None
named_none None is = refl
named_none (Some name) is = absurd cc

parts_of : (x y : Check) → or_else x y ≡ None → (x ≡ None) × (y ≡ None)
parts_of None y is = (refl, is)
parts_of (Some fault) y is = absurd cc

own_more : (few most slot : ℕ) (t : Table)
    → few ≤ most
    → own_check few slot t ≡ None
    → own_check most slot t ≡ None
own_more few most slot t le is =
    ap names_none
    (more_partitions few most slot [] (own_parts slot (layout_of t).parts) le
    (named_none _ is))

target_more : (apart : Bool) (few most target : ℕ) (s t : Table)
    → few ≤ most
    → target_check apart few target s t ≡ None
    → target_check apart most target s t ≡ None
target_more apart few most target s t le is =
    ap names_none
    (more_target few most target (twins_by apart (layout_of s).parts) (layout_of s).parts
    (layout_of t).parts le
    (named_none _ is))

merging_more : (few most slot : ℕ) (t : Table)
    → few ≤ most
    → merging_check few slot t ≡ None
    → merging_check most slot t ≡ None
merging_more few most slot t le is =
    ap names_none
    (more_merging few most slot (layout_of t).parts le (named_none _ is))

update_more : (apart : Bool) (few most slot : ℕ) (ts : List Table)
    → few ≤ most
    → first_fault
    (of_both (check false (BadTable slot) ∷ []) (λ s t. update_checks apart few slot s t) ts)
    ≡ None
    → first_fault
    (of_both (check false (BadTable slot) ∷ []) (λ s t. update_checks apart most slot s t) ts)
    ≡ None
update_more apart few most slot [] le is = absurd cc
update_more apart few most slot (s ∷ []) le is = absurd cc
update_more apart few most slot (s ∷ t ∷ ts) le is =
    let stores : Check = or_else (no_store_check apart t) None in
    let twin = parts_of (twin_check (other_slot slot) s t)
    (or_else (own_check few slot s)
    (or_else (target_check apart few (other_slot slot) s t) stores))
    is in
    let own = parts_of (own_check few slot s)
    (or_else (target_check apart few (other_slot slot) s t) stores) twin.1 in
    let target = parts_of (target_check apart few (other_slot slot) s t) stores own.1 in
    let own_kept = own_more few most slot s le own.0 in
    let target_kept = target_more apart few most (other_slot slot) s t le target.0 in
    let stores_kept = target.1 in
    (λ i. or_else (twin.0 i) (or_else (own_kept i) (or_else (target_kept i) (stores_kept i))))

idle_more : (m : UpdateMark) (few most : ℕ) (ts : List Table)
    → few ≤ most
    → first_fault ((idle m).part_checks few ts) ≡ None
    → first_fault ((idle m).part_checks most ts) ≡ None
idle_more m few most [] le is = absurd cc
idle_more m few most (t ∷ ts) le is =
    let rest : Check = first_fault (overlay_checks m.overlaid m.slot (layout_of t)) in
    let own = parts_of (own_check few m.slot t) rest is in
    ap (λ x. or_else x rest) (own_more few most m.slot t le own.0) ∙ own.1

single_more : (m : UpdateMark) (few most : ℕ) (ts : List Table)
    → few ≤ most
    → first_fault ((single m).part_checks few ts) ≡ None
    → first_fault ((single m).part_checks most ts) ≡ None
single_more m few most [] le is = absurd cc
single_more m few most (t ∷ ts) le is =
    let own = parts_of (own_check few m.slot t) None is in
    ap (λ x. or_else x None) (own_more few most m.slot t le own.0)

merging_phase_more : (m : UpdateMark) (few most : ℕ) (ts : List Table)
    → few ≤ most
    → first_fault ((merging m).part_checks few ts) ≡ None
    → first_fault ((merging m).part_checks most ts) ≡ None
merging_phase_more m few most [] le is = absurd cc
merging_phase_more m few most (t ∷ ts) le is =
    let own = parts_of (merging_check few m.slot t) None is in
    ap (λ x. or_else x None) (merging_more few most m.slot t le own.0)

-- the rules of a phase
checks_more : (p : MarkPhase) (m : UpdateMark) (few most : ℕ) (ts : List Table)
    → few ≤ most
    → first_fault ((phase_in p m).part_checks few ts) ≡ None
    → first_fault ((phase_in p m).part_checks most ts) ≡ None
checks_more marks.Idle m few most ts le is = idle_more m few most ts le is
checks_more marks.Installing m few most ts le is =
    update_more m.apart few most m.slot ts le is
checks_more marks.Staged m few most ts le is =
    update_more m.apart few most m.slot ts le is
checks_more marks.Merging m few most ts le is = merging_phase_more m few most ts le is
checks_more marks.Completed m few most ts le is = single_more m few most ts le is

pub parts_more : (r : Read) (few most : ℕ)
    → few ≤ most
    → part_fault few r ≡ None
    → part_fault most r ≡ None
parts_more r few most le is = checks_more r.mark.phase r.mark few most r.tables le is

-- under the same version they are the same rules
pub parts_under : (r : Read) (old new : Image)
    → version_at new ≡ version_at old
    → part_fault (most_at old) r ≡ None
    → part_fault (most_at new) r ≡ None
parts_under r old new version is =
    subst (λ v. part_fault (partitions_under v) r ≡ None) (sym version) is

few_under : (v : MarkVersion) → partitions_under v ≤ most_partitions
few_under One = omega arith
few_under Two = omega arith

-- the rules of any mark that is read are kept where a slot may have the most partitions
pub parts_all : (r : Read) (image : Image)
    → part_fault (most_at image) r ≡ None
    → part_fault most_partitions r ≡ None
parts_all r image is =
    parts_more r (most_at image) most_partitions (few_under (version_at image)) is

-- and these are the rules under version 2
pub parts_two : (r : Read) (image : Image)
    → version_at image ≡ Two
    → part_fault most_partitions r ≡ None
    → part_fault (most_at image) r ≡ None
parts_two r image version is =
    subst (λ v. part_fault (partitions_under v) r ≡ None) (sym version) is

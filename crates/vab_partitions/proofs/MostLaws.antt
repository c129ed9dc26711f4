-- What passes where a slot may have few partitions passes where it may have more.
use Rattle.std.proofs.Common.{◌≡◌, ℕ, ◌≤◌, ◌^◌, Bool, true, ◌&&◌, ◌||◌, ltb, leb, List, [], ◌∷◌}
use Rattle.std.proofs.Common.{◌++◌, length, Some, None, inl, inr, sym, ◌∙◌, arith}
use Rattle.std.specs.List.{list_all}
use Rattle.std.specs.Str.{bytes_eq}
use Rattle.std.proofs.lemmas.Bool.{and_parts, and_from, cases_Bool, ltb-true, leb-true, lt-ltb}
use Rattle.std.proofs.lemmas.Bool.{le-leb}
use Rattle.vab_names.specs.Names.{is_base, is_of_slot, base_of, default_name}
use Rattle.vab_layout.specs.declared.layout.Part.{Part}
use Rattle.vab_layout.specs.Layout.{blocks_of_parts}
use Rattle.vab_layout.specs.Slots.{own_parts}
use Rattle.vab_partitions.specs.Rules.{is_distinct, part_passes, bad_part}
use Rattle.vab_partitions.specs.Together.{target_parts, pass_together, bad_behind}
use Rattle.vab_partitions.specs.TargetRules.{passes_alone, bad_beside}
use Rattle.vab_partitions.specs.MergingRules.{passes_merging, bad_merging_of}
use Rattle.vab_partitions.proofs.OwnLaws.{bad_next, bad_here, bad_none}
use Rattle.vab_partitions.proofs.BadTarget.{next_passes, next_bad, none_behind}

-- ---- a slot's own partitions

more_passes : (few most slot : ℕ) (earlier : List Part) (p : Part)
    → few ≤ most
    → part_passes few slot earlier p ≡ true
    → part_passes most slot earlier p ≡ true
more_passes few most slot earlier p le h =
    let front : Bool = is_base (base_of p.name) && leb (length p.blocks) (2 ^ 28)
    && (bytes_eq p.group default_name || is_of_slot slot p.group) in
    let once : Bool = is_distinct (blocks_of_parts earlier ++ p.blocks) in
    let both = and_parts (front && ltb (length earlier) few) once h in
    let counted = and_parts front (ltb (length earlier) few) both.0 in
    let below = ltb-true (length earlier) few counted.1 in
    and_from (front && ltb (length earlier) most) once
    (and_from front (ltb (length earlier) most) counted.0
    (lt-ltb (length earlier) most (omega (arith, below, le)))) both.1

pub more_partitions : (few most slot : ℕ) (earlier parts : List Part)
    → few ≤ most
    → bad_part few slot earlier parts ≡ None
    → bad_part most slot earlier parts ≡ None
more_partitions few most slot earlier [] le none = bad_none most slot earlier
more_partitions few most slot earlier (p ∷ ps) le none =
    elim (cases_Bool (part_passes few slot earlier p)) [
      | inl t ↦
          bad_next most slot earlier p ps (more_passes few most slot earlier p le t)
          ∙ more_partitions few most slot (earlier ++ p ∷ []) ps le
          (sym (bad_next few slot earlier p ps t) ∙ none)
      | inr f ↦
          absurd (let wrong : Some p.name ≡ None =
          sym (bad_here few slot earlier p ps f) ∙ none in cc)
    ]

-- ---- partitions and stores

more_together : (few most slot : ℕ) (passes : Part → Bool) (these : List Part)
    → few ≤ most
    → pass_together few slot passes these ≡ true
    → pass_together most slot passes these ≡ true
unfolding pass_together
more_together few most slot passes these le h =
    let each : Bool = list_all passes these in
    let own : ℕ = length (own_parts slot these) in
    let once : Bool = is_distinct (blocks_of_parts these) in
    let both = and_parts (each && leb own few) once h in
    let counted = and_parts each (leb own few) both.0 in
    let below = leb-true own few counted.1 in
    and_from (each && leb own most) once
    (and_from each (leb own most) counted.0 (le-leb own most (omega (arith, below, le)))) both.1

more_behind : (few most slot : ℕ) (passes : Part → Bool) (earlier parts : List Part)
    → few ≤ most
    → bad_behind few slot passes earlier parts ≡ None
    → bad_behind most slot passes earlier parts ≡ None
more_behind few most slot passes earlier [] le none = none_behind most slot passes earlier
more_behind few most slot passes earlier (p ∷ ps) le none =
    let more : List Part = earlier ++ p ∷ [] in
    elim (cases_Bool (pass_together few slot passes more)) [
      | inl t ↦
          next_passes most slot passes earlier p ps (more_together few most slot passes more le t)
          ∙ more_behind few most slot passes more ps le
          (sym (next_passes few slot passes earlier p ps t) ∙ none)
      | inr f ↦
          absurd (let wrong : Some p.name ≡ None =
          sym (next_bad few slot passes earlier p ps f) ∙ none in cc)
    ]

pub more_target : (few most slot : ℕ) (twins source target : List Part)
    → few ≤ most
    → bad_beside few slot twins source target ≡ None
    → bad_beside most slot twins source target ≡ None
unfolding bad_beside
more_target few most slot twins source target le none =
    more_behind few most slot (passes_alone slot twins source target) [] (target_parts slot target)
    le
    none

pub more_merging : (few most slot : ℕ) (target : List Part)
    → few ≤ most
    → bad_merging_of few slot target ≡ None
    → bad_merging_of most slot target ≡ None
unfolding bad_merging_of
more_merging few most slot target le none =
    more_behind few most slot (passes_merging slot target) [] (target_parts slot target) le none

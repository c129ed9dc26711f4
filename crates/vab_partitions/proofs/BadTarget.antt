-- No partition is bad exactly where all of them keep their rules together, and the bad one is the
-- first; so it is of a target, and of a slot that is merged.
use Rattle.std.proofs.Common.{◌≡◌, ℕ, ◌≤◌, Bool, true, false, List, [], ◌∷◌, ◌++◌, Some}
use Rattle.std.proofs.Common.{None, refl, sym, ◌∙◌, ap, subst, inl, inr, arith, append_assoc}
use Rattle.std.specs.Prelude.{◌↔◌}
use Rattle.std.specs.Bool.{Decides}
use Rattle.std.proofs.lemmas.Bool.{cases_Bool}
use Rattle.std.proofs.lemmas.Bool.Decides.{not_from_Decides}
use Rattle.std.proofs.lemmas.List.{append-nil}
use Rattle.std.proofs.lemmas.List.Elements.{All-nil}
use Rattle.std.proofs.lemmas.Option.{same_Some}
use Rattle.vab_layout.specs.declared.layout.Part.{Part}
use Rattle.vab_names.specs.Names.{most_partitions}
use Rattle.vab_partitions.specs.Together.{target_parts, Together, FirstBad}
use Rattle.vab_partitions.specs.Together.{pass_together, bad_behind}
use Rattle.vab_partitions.specs.Target.{KeepsAlone, FitsBeside, IsFirstBad}
use Rattle.vab_partitions.specs.Merging.{FitsMerging, KeepsMerging}
use Rattle.vab_partitions.specs.TargetRules.{passes_alone, bad_beside}
use Rattle.vab_partitions.specs.MergingRules.{passes_merging, bad_merging_of}
use Rattle.vab_partitions.proofs.TargetLaws.{front_keeps, together_target, target_together}
use Rattle.vab_partitions.proofs.TargetLaws.{together_merging, merging_together}
use Rattle.vab_partitions.proofs.TargetTests.{together_decides, alone, merging_alone}

-- ---- behind those before it

pub next_passes : (most slot : ℕ) (passes : Part → Bool) (earlier : List Part) (p : Part)
    (ps : List Part)
    → pass_together most slot passes (earlier ++ p ∷ []) ≡ true
    → bad_behind most slot passes earlier (p ∷ ps)
    ≡ bad_behind most slot passes (earlier ++ p ∷ []) ps
unfolding bad_behind
next_passes most slot passes earlier p ps t = rw t refl

pub next_bad : (most slot : ℕ) (passes : Part → Bool) (earlier : List Part) (p : Part)
    (ps : List Part)
    → pass_together most slot passes (earlier ++ p ∷ []) ≡ false
    → bad_behind most slot passes earlier (p ∷ ps) ≡ Some p.name
unfolding bad_behind
next_bad most slot passes earlier p ps f = rw f refl

pub none_behind : (most slot : ℕ) (passes : Part → Bool) (earlier : List Part)
    → bad_behind most slot passes earlier [] ≡ None
unfolding bad_behind
none_behind most slot passes earlier = refl

joined : (earlier : List Part) (p : Part) (ps : List Part)
    → earlier ++ p ∷ ps ≡ (earlier ++ p ∷ []) ++ ps
joined earlier p ps = sym (append_assoc earlier (p ∷ []) ps)

-- the first that is bad behind these
record IsBad (most slot : ℕ) (Keeps : Part → Type 0) (earlier rest : List Part) (name : List ℕ)
    : Type 0 where
  before : List Part
  bad : Part
  behind : List Part
  split : rest ≡ before ++ bad ∷ behind
  named : bad.name ≡ name
  kept : Together most slot Keeps (earlier ++ before)
  broken : Together most slot Keeps ((earlier ++ before) ++ bad ∷ []) → ⊥

none_keep : (most slot : ℕ) (Keeps : Part → Type 0) → Together most slot Keeps []
none_keep most slot Keeps = record {
  each = All-nil Keeps;
  few = omega arith;
  once = λ i j d lt below. absurd (omega arith);
}

module _ (most slot : ℕ) (passes : Part → Bool) (Keeps : Part → Type 0)
    (each : (p : Part) → Decides (passes p) (Keeps p)) where
  decides : (these : List Part)
      → Decides (pass_together most slot passes these) (Together most slot Keeps these)
  decides these = together_decides most slot passes Keeps each these

  keep_then_none : (earlier rest : List Part)
      → Together most slot Keeps (earlier ++ rest)
      → bad_behind most slot passes earlier rest ≡ None
  keep_then_none earlier [] k = none_behind most slot passes earlier
  keep_then_none earlier (p ∷ ps) k =
      let more : List Part = earlier ++ p ∷ [] in
      let all = subst (Together most slot Keeps) (joined earlier p ps) k in
      let front = front_keeps most slot Keeps more ps all in
      next_passes most slot passes earlier p ps ((decides more).1 front)
      ∙ keep_then_none more ps all

  none_then_keep : (earlier rest : List Part)
      → Together most slot Keeps earlier
      → bad_behind most slot passes earlier rest ≡ None
      → Together most slot Keeps (earlier ++ rest)
  none_then_keep earlier [] k none =
      subst (Together most slot Keeps) (sym (append-nil earlier)) k
  none_then_keep earlier (p ∷ ps) k none =
      let more : List Part = earlier ++ p ∷ [] in
      elim (cases_Bool (pass_together most slot passes more)) [
        | inl t ↦
            subst (Together most slot Keeps) (sym (joined earlier p ps))
            (none_then_keep more ps ((decides more).0 t)
            (sym (next_passes most slot passes earlier p ps t) ∙ none))
        | inr f ↦
            absurd (let wrong : Some p.name ≡ None =
            sym (next_bad most slot passes earlier p ps f) ∙ none in cc)
      ]

  some_then_bad : (earlier rest : List Part) (name : List ℕ)
      → Together most slot Keeps earlier
      → bad_behind most slot passes earlier rest ≡ Some name
      → IsBad most slot Keeps earlier rest name
  some_then_bad earlier [] name k some =
      absurd (let wrong : None ≡ Some name =
      sym (none_behind most slot passes earlier) ∙ some in cc)
  some_then_bad earlier (p ∷ ps) name k some =
      let more : List Part = earlier ++ p ∷ [] in
      elim (cases_Bool (pass_together most slot passes more)) [
        | inl t ↦
            let b = some_then_bad more ps name ((decides more).0 t)
            (sym (next_passes most slot passes earlier p ps t) ∙ some) in
            let same : more ++ b.before ≡ earlier ++ p ∷ b.before =
            sym (joined earlier p b.before) in
            record {
              before = p ∷ b.before;
              bad = b.bad;
              behind = b.behind;
              split = ap (λ (l : List Part). p ∷ l) b.split;
              named = b.named;
              kept = subst (Together most slot Keeps) same b.kept;
              broken = λ all. b.broken
                  (subst (λ (l : List Part). Together most slot Keeps (l ++ b.bad ∷ []))
                  (sym same) all);
            }
        | inr f ↦ record {
          before = [];
          bad = p;
          behind = ps;
          split = refl;
          named = same_Some p.name name (sym (next_bad most slot passes earlier p ps f) ∙ some);
          kept = subst (Together most slot Keeps) (sym (append-nil earlier)) k;
          broken = λ all.
              not_from_Decides (pass_together most slot passes more) (decides more) f
              (subst (λ (l : List Part). Together most slot Keeps (l ++ p ∷ []))
              (append-nil earlier) all);
        }
      ]

  bad_then_some : (earlier before : List Part) (bad : Part) (behind : List Part)
      → Together most slot Keeps (earlier ++ before)
      → (Together most slot Keeps ((earlier ++ before) ++ bad ∷ []) → ⊥)
      → bad_behind most slot passes earlier (before ++ bad ∷ behind) ≡ Some bad.name
  bad_then_some earlier [] bad behind kept broken =
      let more : List Part = earlier ++ bad ∷ [] in
      elim (cases_Bool (pass_together most slot passes more)) [
        | inl t ↦ absurd (broken
            (subst (λ (l : List Part). Together most slot Keeps (l ++ bad ∷ []))
            (sym (append-nil earlier)) ((decides more).0 t)))
        | inr f ↦ next_bad most slot passes earlier bad behind f
      ]
  bad_then_some earlier (p ∷ ps) bad behind kept broken =
      let more : List Part = earlier ++ p ∷ [] in
      let all = subst (Together most slot Keeps) (joined earlier p ps) kept in
      let front = front_keeps most slot Keeps more ps all in
      next_passes most slot passes earlier p (ps ++ bad ∷ behind) ((decides more).1 front)
      ∙ bad_then_some more ps bad behind all
      (λ k. broken
      (subst (λ (l : List Part). Together most slot Keeps (l ++ bad ∷ []))
      (sym (joined earlier p ps)) k))

  -- ---- all of them

  no_bad : (parts : List Part)
      → bad_behind most slot passes [] (target_parts slot parts) ≡ None
      → Together most slot Keeps (target_parts slot parts)
  no_bad parts none = none_then_keep [] (target_parts slot parts) (none_keep most slot Keeps) none

  then_no_bad : (parts : List Part)
      → Together most slot Keeps (target_parts slot parts)
      → bad_behind most slot passes [] (target_parts slot parts) ≡ None
  then_no_bad parts k = keep_then_none [] (target_parts slot parts) k

  bad_then_first : (parts : List Part) (name : List ℕ)
      → bad_behind most slot passes [] (target_parts slot parts) ≡ Some name
      → FirstBad most slot Keeps parts name
  bad_then_first parts name some =
      let b = some_then_bad [] (target_parts slot parts) name (none_keep most slot Keeps) some in
      record {
        before = b.before;
        bad = b.bad;
        behind = b.behind;
        split = b.split;
        named = b.named;
        kept = b.kept;
        broken = b.broken;
      }

  first_then_bad : (parts : List Part) (name : List ℕ)
      → FirstBad most slot Keeps parts name
      → bad_behind most slot passes [] (target_parts slot parts) ≡ Some name
  first_then_bad parts name f =
      ap (bad_behind most slot passes []) f.split
      ∙ bad_then_some [] f.before f.bad f.behind f.kept f.broken
      ∙ ap (λ (n : List ℕ). Some n) f.named

-- ---- a target

-- where none is bad, the target keeps its rules
pub no_bad_target : (most slot : ℕ) (twins source target : List Part)
    → most ≤ most_partitions
    → bad_beside most slot twins source target ≡ None
    → FitsBeside most slot twins source target
unfolding bad_beside
no_bad_target most slot twins source target small none =
    together_target most slot twins source target small
    (no_bad most slot (passes_alone slot twins source target) (KeepsAlone slot twins source target)
    (alone slot twins source target) target none)

-- and where it does, none is bad
pub target_not_bad : (most slot : ℕ) (twins source target : List Part)
    → FitsBeside most slot twins source target
    → bad_beside most slot twins source target ≡ None
unfolding bad_beside
target_not_bad most slot twins source target is =
    then_no_bad most slot (passes_alone slot twins source target)
    (KeepsAlone slot twins source target)
    (alone slot twins source target) target (target_together most slot twins source target is)

pub target_is : (most slot : ℕ) (twins source target : List Part)
    → most ≤ most_partitions
    → (bad_beside most slot twins source target ≡ None) ↔ FitsBeside most slot twins source target
target_is most slot twins source target small = (
  no_bad_target most slot twins source target small,
  target_not_bad most slot twins source
      target,
)

-- the bad one is the first
pub bad_is_first : (most slot : ℕ) (twins source target : List Part) (name : List ℕ)
    → bad_beside most slot twins source target ≡ Some name
    → IsFirstBad most slot twins source target name
unfolding bad_beside
bad_is_first most slot twins source target name some =
    bad_then_first most slot (passes_alone slot twins source target)
    (KeepsAlone slot twins source target)
    (alone slot twins source target) target name some

-- and the first is the bad one
pub first_is_bad : (most slot : ℕ) (twins source target : List Part) (name : List ℕ)
    → IsFirstBad most slot twins source target name
    → bad_beside most slot twins source target ≡ Some name
unfolding bad_beside
first_is_bad most slot twins source target name f =
    first_then_bad most slot (passes_alone slot twins source target)
    (KeepsAlone slot twins source target)
    (alone slot twins source target) target name f

-- ---- a slot that is merged

-- where none is bad, the slot keeps its rules
pub no_bad_merging : (most slot : ℕ) (target : List Part)
    → most ≤ most_partitions
    → bad_merging_of most slot target ≡ None
    → FitsMerging most slot target
unfolding bad_merging_of
no_bad_merging most slot target small none =
    together_merging most slot target small
    (no_bad most slot (passes_merging slot target) (KeepsMerging slot target)
    (merging_alone slot target) target none)

-- and where it does, none is bad
pub merging_not_bad : (most slot : ℕ) (target : List Part)
    → FitsMerging most slot target
    → bad_merging_of most slot target ≡ None
unfolding bad_merging_of
merging_not_bad most slot target is =
    then_no_bad most slot (passes_merging slot target) (KeepsMerging slot target)
    (merging_alone slot target) target (merging_together most slot target is)

-- the first that is bad is the one that is named
pub first_bad_merging : (most slot : ℕ) (target : List Part) (name : List ℕ)
    → FirstBad most slot (KeepsMerging slot target) target name
    → bad_merging_of most slot target ≡ Some name
unfolding bad_merging_of
first_bad_merging most slot target name f =
    first_then_bad most slot (passes_merging slot target) (KeepsMerging slot target)
    (merging_alone slot target) target name f

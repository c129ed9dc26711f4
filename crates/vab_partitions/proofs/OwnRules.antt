-- No own partition is bad exactly where all of them together keep the rules of a slot's own
-- partitions.
use Rattle.std.proofs.Common.{◌≡◌, ℕ, ◌+◌, ◌≤◌, ◌<◌, ◌^◌, inl, inr, Bool, true, ◌&&◌, ◌||◌, ltb}
use Rattle.std.proofs.Common.{leb, List, [], ◌∷◌, ◌++◌, length, Some, None, refl, sym, ◌∙◌, ap}
use Rattle.std.proofs.Common.{arith, append_assoc}
use Rattle.std.specs.Prelude.{All}
use Rattle.std.specs.Str.{bytes_eq}
use Rattle.std.proofs.lemmas.Bool.{and_parts, and_from, cases_Bool, ltb-true, leb-true, lt-ltb}
use Rattle.std.proofs.lemmas.Bool.{le-leb}
use Rattle.std.proofs.lemmas.List.{append-nil, length-append}
use Rattle.std.proofs.lemmas.List.Elements.{All-nil, All-cons, All-head, All-tail}
use Rattle.vab_names.specs.Names.{is_base, is_of_slot, base_of, default_name, most_partitions}
use Rattle.vab_layout.specs.declared.layout.Part.{Part}
use Rattle.vab_layout.specs.Layout.{blocks_of_parts}
use Rattle.vab_layout.specs.Slots.{own_parts, IsOwnPart, IsOwn}
use Rattle.vab_partitions.specs.Rules.{is_distinct, part_passes, bad_part}
use Rattle.vab_blocks.proofs.Distinct.{distinct_left, distinct_pairs, pairs_distinct}
use Rattle.vab_partitions.proofs.OwnLaws.{blocks_append, bad_next, bad_here, bad_none}

-- ---- one partition

-- what a partition keeps that passes behind these
record Passes (most slot : ℕ) (earlier : List Part) (p : Part) : Type 0 where
  own : IsOwnPart slot p
  few : length earlier < most
  once : is_distinct (blocks_of_parts (earlier ++ p ∷ [])) ≡ true

pub with_one : (earlier : List Part) (p : Part)
    → blocks_of_parts (earlier ++ p ∷ []) ≡ blocks_of_parts earlier ++ p.blocks
with_one earlier p = blocks_append earlier (p ∷ [])
    ∙ ap (λ (l : List ℕ). blocks_of_parts earlier ++ l) (append-nil p.blocks)

passes_then : (most slot : ℕ) (earlier : List Part) (p : Part)
    → part_passes most slot earlier p ≡ true
    → Passes most slot earlier p
passes_then most slot earlier p h =
    let base : Bool = is_base (base_of p.name) in
    let small : Bool = leb (length p.blocks) (2 ^ 28) in
    let group : Bool = bytes_eq p.group default_name || is_of_slot slot p.group in
    let few : Bool = ltb (length earlier) most in
    let four =
    and_parts (base && small && group && few)
    (is_distinct (blocks_of_parts earlier ++ p.blocks)) h in
    let three = and_parts (base && small && group) few four.0 in
    let two = and_parts (base && small) group three.0 in
    let one = and_parts base small two.0 in
    record {
      own = record { base = one.0; size = leb-true _ _ one.1; group = two.1 };
      few = ltb-true _ _ three.1;
      once = ap is_distinct (with_one earlier p) ∙ four.1;
    }

then_passes : (most slot : ℕ) (earlier : List Part) (p : Part) → Passes most slot earlier p
    → part_passes most slot earlier p ≡ true
then_passes most slot earlier p k =
    and_from _ _
    (and_from _ _ (and_from _ _ (and_from _ _ k.own.base (le-leb _ _ k.own.size)) k.own.group)
    (lt-ltb _ _ k.few)) (ap is_distinct (sym (with_one earlier p)) ∙ k.once)

-- ---- all of them, behind these

record Kept (most slot : ℕ) (earlier rest : List Part) : Type 0 where
  each : All (IsOwnPart slot) rest
  few : length earlier + length rest ≤ most
  once : is_distinct (blocks_of_parts (earlier ++ rest)) ≡ true

none_then : (most slot : ℕ) (earlier rest : List Part) → length earlier ≤ most
    → is_distinct (blocks_of_parts earlier) ≡ true → bad_part most slot earlier rest ≡ None
    → Kept most slot earlier rest
none_then most slot earlier [] few once h =
    record {
      each = All-nil (IsOwnPart slot);
      few = omega arith;
      once =
          ap (λ (l : List Part). is_distinct (blocks_of_parts l)) (append-nil earlier) ∙ once;
    }
none_then most slot earlier (p ∷ ps) few once h =
    elim (cases_Bool (part_passes most slot earlier p)) [
      | inl t ↦
          let k = passes_then most slot earlier p t in
          let len = length-append earlier (p ∷ []) in
          let rest =
          none_then most slot (earlier ++ p ∷ []) ps (omega (arith, len, k.few)) k.once
          (sym (bad_next most slot earlier p ps t) ∙ h) in
          record {
            each = All-cons (IsOwnPart slot) p ps k.own rest.each;
            few = omega (arith, len, rest.few);
            once = ap (λ (l : List Part). is_distinct (blocks_of_parts l))
                (sym (append_assoc earlier (p ∷ []) ps)) ∙ rest.once;
          }
      | inr f ↦ let e : Some p.name ≡ None = sym (bad_here most slot earlier p ps f) ∙ h in cc
    ]

then_none : (most slot : ℕ) (earlier rest : List Part) → Kept most slot earlier rest
    → bad_part most slot earlier rest ≡ None
then_none most slot earlier [] k = bad_none most slot earlier
then_none most slot earlier (p ∷ ps) k =
    let joined : earlier ++ p ∷ ps ≡ (earlier ++ p ∷ []) ++ ps =
    sym (append_assoc earlier (p ∷ []) ps) in
    let once : is_distinct (blocks_of_parts ((earlier ++ p ∷ []) ++ ps)) ≡ true =
    ap (λ (l : List Part). is_distinct (blocks_of_parts l)) (sym joined) ∙ k.once in
    let passes : Passes most slot earlier p = record {
      own = All-head (IsOwnPart slot) p ps k.each;
      few = omega (arith, k.few);
      once = distinct_left (blocks_of_parts (earlier ++ p ∷ [])) (blocks_of_parts ps)
          (ap is_distinct (sym (blocks_append (earlier ++ p ∷ []) ps)) ∙ once);
    } in
    bad_next most slot earlier p ps (then_passes most slot earlier p passes)
    ∙ then_none most slot (earlier ++ p ∷ []) ps (record {
      each = All-tail (IsOwnPart slot) p ps k.each;
      few = omega (arith, length-append earlier (p ∷ []), k.few);
      once = once;
    })

-- ---- the slot

-- where none is bad, the own partitions keep the rules
pub own_kept : (most slot : ℕ) (parts : List Part)
    → most ≤ most_partitions
    → bad_part most slot [] (own_parts slot parts) ≡ None
    → IsOwn slot parts
own_kept most slot parts small h =
    let k = none_then most slot [] (own_parts slot parts) (omega arith) refl h in
    record {
      each = k.each;
      few = omega (arith, k.few);
      once =
          distinct_pairs (blocks_of_parts (own_parts slot parts)) k.once;
    }

-- and where they do and are few enough, none is bad
pub none_bad : (most slot : ℕ) (parts : List Part) → IsOwn slot parts
    → length (own_parts slot parts) ≤ most
    → bad_part most slot [] (own_parts slot parts) ≡ None
none_bad most slot parts o few =
    then_none most slot [] (own_parts slot parts)
    (record {
      each = o.each;
      few = omega (arith, few);
      once =
          pairs_distinct (blocks_of_parts (own_parts slot parts)) o.once;
    })

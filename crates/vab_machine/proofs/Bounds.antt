-- What is counted of a small plan is a number of 64 bits.
use Rattle.std.proofs.Common.{◌≡◌, ℕ, ◌+◌, ◌*◌, ◌^◌, ◌≤◌, ◌<◌, List, [], ◌∷◌, length}
use Rattle.std.proofs.Common.{arith}
use Rattle.std.proofs.Common.{cond, eqb, inl, inr, Option, Some, None}
use Rattle.std.specs.Prelude.{All, map, sum, sum_by}
use Rattle.std.specs.List.{filter}
use Rattle.std.proofs.lemmas.Bool.{cases_Bool}
use Rattle.std.proofs.lemmas.List.{length-map}
use Rattle.std.proofs.lemmas.List.Elements.{All-map, All-weaker, All-head, All-tail}
use Rattle.std.proofs.lemmas.List.Elements.{All-nil}
use Rattle.std.proofs.lemmas.List.Sums.{sum_by-le, sum_by-cons}
use Rattle.vab_names.specs.Names.{most_partitions}
use Rattle.vab_space.specs.declared.Want.{Want}
use Rattle.vab_space.specs.Space.{growth_of}
use Rattle.vab_model.specs.declared.state.Image.{Image}
use Rattle.vab_model.specs.declared.state.PlanImage.{PlanImage}
use Rattle.vab_model.specs.declared.state.PlanImage.TheVariants.{Kept, Declared, Written}
use Rattle.vab_model.specs.declared.state.PlanEntry.{PlanEntry}
use Rattle.vab_model.specs.declared.state.Plan.{Plan}
use Rattle.vab_model.specs.declared.state.State.{State}
use Rattle.vab_model.specs.Plans.{blocks_in, want_of, in_use, same_group}
use Rattle.vab_model.specs.Plans.{group_bytes, listed, images_of, twins_of}
use Rattle.vab_model.specs.Overlay.{store_of_size, used_over}
use Rattle.vab_model.specs.Machine.{exceptions_of, exceptions_in}
use Rattle.vab_machine.specs.Small.{AreSmallImages, IsSmallSlot, IsSmallImage, IsSmallEntry}
use Rattle.vab_machine.specs.Small.{IsSmallPlan, IsSmall}

-- a sum of as many numbers as a slot has partitions, of at most so much
sum_most : (most : ℕ) (xs : List ℕ)
    → length xs ≤ most_partitions
    → All (λ x. x ≤ most) xs
    → sum xs ≤ most_partitions * most
sum_most most xs few each =
    let all = sum_by-le (λ x. x) most xs each in
    grind arith

image_most : (images : List Image)
    → AreSmallImages images
    → sum (map (λ (i : Image). blocks_in i.bytes) images) ≤ most_partitions * 2 ^ 28
image_most images small =
    sum_most (2 ^ 28) (map (λ (i : Image). blocks_in i.bytes) images)
    (omega (arith, length-map images (λ (i : Image). blocks_in i.bytes), small.few))
    (All-map (λ x. x ≤ 2 ^ 28) (λ (i : Image). blocks_in i.bytes) images
    (All-weaker (λ (i : Image). length i.bytes ≤ 2 ^ 40) (λ (i : Image). blocks_in i.bytes ≤ 2 ^ 28)
    (λ i le. omega (arith, le)) images small.each))

want_most : (source : List Image) (f : Want → ℕ) (most : ℕ) (plan : List PlanEntry)
    → IsSmallPlan plan
    → ((e : PlanEntry) → IsSmallEntry e → f (want_of source e) ≤ most)
    → sum_by f (map (want_of source) plan) ≤ most_partitions * most
want_most source f most plan small each =
    let all = sum_by-le f most (map (want_of source) plan)
    (All-map (λ w. f w ≤ most) (want_of source) plan
    (All-weaker IsSmallEntry (λ e. f (want_of source e) ≤ most) each plan small.each)) in
    let long = length-map plan (want_of source) in
    let few = small.few in
    grind arith

no_images : AreSmallImages []
no_images = record { few = omega arith; each = All-nil (λ (i : Image). length i.bytes ≤ 2 ^ 40) }

listed_small : (images : Option (List Image)) → IsSmallSlot images → AreSmallImages (listed images)
listed_small None small = no_images
listed_small (Some images) small = small

pub images_small : (s : State) (slot : ℕ) → IsSmall s → AreSmallImages (images_of s slot)
images_small s slot small = elim (cases_Bool (eqb slot 0)) [
  | inl t ↦ rw t (listed_small s.a small.a)
  | inr f ↦ rw f (listed_small s.b small.b)
]

pub in_use_fits : (source : List Image) (plan : Plan)
    → AreSmallImages source
    → IsSmallPlan plan.entries
    → in_use source plan < 2 ^ 63
in_use_fits source plan images small =
    let twins : List Image = twins_of plan.apart source in
    let kept = image_most source images in
    let grown = want_most twins growth_of (2 ^ 28) plan.entries small
    (λ e s. omega (arith, s.blocks)) in
    let stored = want_most twins (λ w. w.store) (2 ^ 55) plan.entries small (λ e s. s.store) in
    omega (arith, kept, grown, stored)

pub state_in_use_fits : (s : State) (source : ℕ) (plan : Plan)
    → IsSmall s
    → IsSmallPlan plan.entries
    → in_use (images_of s source) plan < 2 ^ 63
state_in_use_fits s source plan small =
    in_use_fits (images_of s source) plan (images_small s source small)

-- a store of so many bytes over a partition of so many blocks
pub store_fits : (blocks size : ℕ)
    → blocks < 2 ^ 52
    → size < 2 ^ 64
    → store_of_size blocks size ≤ 2 ^ 55
store_fits blocks size few small = elim (cases_Bool (eqb size 0)) [
  | inl t ↦ rw t (omega (arith, few))
  | inr f ↦ rw f (omega (arith, small))
]

-- beside the images of a slot
pub overlay_fits : (s : State) (slot blocks size : ℕ)
    → IsSmall s
    → blocks < 2 ^ 52
    → size < 2 ^ 64
    → used_over (images_of s slot) (store_of_size blocks size) < 2 ^ 63
overlay_fits s slot blocks size small few low =
    let kept = image_most (images_of s slot) (images_small s slot small) in
    let stored = store_fits blocks size few low in
    omega (arith, kept, stored)

-- an entry more of which a group has bytes
pub group_more : (group : Option (List ℕ)) (e : PlanEntry) (es : List PlanEntry)
    → group_bytes group (e ∷ es)
    ≡ cond (same_group e.group group) (4096 * e.blocks) 0 + group_bytes group es
group_more group e es =
    let blocks : PlanEntry → ℕ = λ x. x.blocks in
    let rest : List PlanEntry = filter (λ (x : PlanEntry). same_group x.group group) es in
    elim (cases_Bool (same_group e.group group)) [
      | inl t ↦
          let more = sum_by-cons (λ x. x) e.blocks (map blocks rest) in
          rw t (omega (arith, more))
      | inr f ↦ rw f (omega arith)
    ]

group_most : (group : Option (List ℕ)) (plan : List PlanEntry)
    → All IsSmallEntry plan
    → group_bytes group plan ≤ 2 ^ 40 * length plan
group_most group [] each = omega arith
group_most group (e ∷ es) each =
    let more = group_more group e es in
    let rest = group_most group es (All-tail IsSmallEntry e es each) in
    let first = (All-head IsSmallEntry e es each).blocks in
    elim (cases_Bool (same_group e.group group)) [
      | inl t ↦ let is = rw t at more in rw t (omega (arith, is, rest, first))
      | inr f ↦ let is = rw f at more in rw f (omega (arith, is, rest, first))
    ]

pub group_fits : (group : Option (List ℕ)) (plan : List PlanEntry)
    → IsSmallPlan plan
    → group_bytes group plan < 2 ^ 63
group_fits group plan small =
    let most = group_most group plan small.each in
    omega (arith, most, small.few)

few_exceptions : (image : PlanImage) → IsSmallImage image → exceptions_of image ≤ 2 ^ 55
few_exceptions Kept small = omega arith
few_exceptions Declared small = omega arith
few_exceptions (Written bytes exceptions) small = small.few

exceptions_most : (plan : List PlanEntry)
    → All IsSmallEntry plan
    → exceptions_in plan ≤ 2 ^ 55 * length plan
exceptions_most [] each = omega arith
exceptions_most (e ∷ es) each =
    omega (
      arith,
      few_exceptions e.image (All-head IsSmallEntry e es each).image,
      exceptions_most es (All-tail IsSmallEntry e es each),
    )

pub exceptions_fit : (plan : List PlanEntry)
    → IsSmallPlan plan
    → exceptions_in plan < 2 ^ 63
exceptions_fit plan small =
    let most = exceptions_most plan small.each in
    omega (arith, most, small.few)

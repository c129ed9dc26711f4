-- A disk over a store of runs has whole sectors, and a crash at this moment leaves what a crash may
-- leave.
use Rattle.std.proofs.Common.{◌≡◌, ◌⊎◌, inl, inr, ⊎_elim, ℕ, ◌+◌, ◌-◌, ◌*◌, ◌≤◌, ◌<◌, List, length}
use Rattle.std.proofs.Common.{drop, refl, sym, ◌∙◌, subst, arith, get_or, length-drop}
use Rattle.std.proofs.Common.{length-take-le, get_or-drop}
use Rattle.std.proofs.lemmas.Bool.{cases_lt}
use Rattle.std.proofs.lemmas.Bool.Decides.{nat_tests}
use Rattle.std.proofs.lemmas.List.{get_or-take, get_or_past, length-take}
use Rattle.vab_disk.specs.Disk.{Image, IsSector, Outcome, Leaves}
use Rattle.vab_gate.specs.Gate.{part, set_sectors}
use Rattle.vab_buffer.specs.declared.store.RunStore.{Ghosts}
use Rattle.vab_buffer.specs.declared.run.Run.{Run}
use Rattle.vab_buffer.specs.Run.{over, IsKept}
use Rattle.vab_buffer.specs.Held.{held_seen, held_leave, held_outcomes}

-- what could be left still can
pub leaves_more : (told told' : List ℕ) (hold hold' : ℕ → List ℕ → Type 0)
    → told' ≡ told
    → ((s : ℕ) (b : List ℕ) → hold s b → hold' s b)
    → (o : Outcome)
    → Leaves told' hold o
    → Leaves told hold' o
leaves_more told told' hold hold' same keeps o left = record {
  told_so_far = left.told_so_far ∙ same;
  each_sector = λ s. keeps s (o.image s) (left.each_sector s);
}

-- a sector of bytes is a sector
pub part_whole : (k : ℕ) (bytes : List ℕ)
    → 512 * k + 512 ≤ length bytes
    → ((i : ℕ) → get_or bytes i 0 < 256)
    → IsSector (part k bytes)
part_whole k bytes fits small = record {
  long =
      let rest : 512 ≤ length (drop (512 * k) bytes) = omega (arith, length-drop (512 * k) bytes) in
      length-take-le 512 (drop (512 * k) bytes) rest;
  small = λ i. part_small k bytes i small;
}
  where
    part_small : (k : ℕ) (bytes : List ℕ) (i : ℕ)
        → ((i : ℕ) → get_or bytes i 0 < 256)
        → get_or (part k bytes) i 0 < 256
    part_small k bytes i small = elim (cases_lt i 512) [
      | inl below ↦
          let here : get_or (part k bytes) i 0 ≡ get_or bytes (512 * k + i) 0 =
          get_or-take 512 (drop (512 * k) bytes) i 0 below ∙ get_or-drop (512 * k) bytes i 0 in
          omega (arith, small (512 * k + i), here)
      | inr above ↦
          let long : length (part k bytes) ≤ i =
          omega (arith, length-take 512 (drop (512 * k) bytes), above) in
          omega (arith, get_or_past (part k bytes) i 0 long)
    ]

pub set_inside : (n : ℕ) (image : Image) (at : ℕ) (bytes : List ℕ) (s : ℕ)
    → at ≤ s
    → s < at + n
    → set_sectors n image at bytes s ≡ part (s - at) bytes
set_inside n image at bytes s from below = grind (arith, nat_tests)

pub set_outside : (n : ℕ) (image : Image) (at : ℕ) (bytes : List ℕ) (s : ℕ)
    → (s < at) ⊎ (at + n ≤ s)
    → set_sectors n image at bytes s ≡ image s
set_outside n image at bytes s out =
    ⊎_elim (λ below. grind (arith, nat_tests)) (λ above. grind (arith, nat_tests)) out

-- a sector is one of n from here on, or not
pub cases_among : (at n s : ℕ) → ((at ≤ s) × (s < at + n)) ⊎ ((s < at) ⊎ (at + n ≤ s))
cases_among at n s = elim (cases_lt s at) [
  | inl below ↦ inr (inl below)
  | inr from ↦ elim (cases_lt s (at + n)) [
    | inl below ↦ inl (from, below)
    | inr above ↦ inr (inr above)
  ]
]

pub over_either : (run : Run) (image : Image) (s : ℕ)
    → (over image run s ≡ image s) ⊎ IsKept run s (over image run s)
over_either run image s = elim (cases_among run.first run.count s) [
  | inl here ↦
      inr (record {
        first = here.0;
        last = here.1;
        here = set_inside run.count image run.first run.bytes.items s here.0 here.1;
      })
  | inr out ↦ inl (set_outside run.count image run.first run.bytes.items s out)
]

-- what is kept is whole sectors
pub kept_whole : (run : Run) (s : ℕ) (b : List ℕ) → IsKept run s b → IsSector b
kept_whole run s b kept =
    subst IsSector (sym kept.here)
    (part_whole (s - run.first) run.bytes.items
    (omega (arith, run.long, run.fits, kept.first, kept.last)) run.small)

module _ {S : Type 0} (g : Ghosts S) where
  pub whole_over : ((d : S) (s : ℕ) (b : List ℕ) → s < g.size d → g.may_leave d s b → IsSector b)
      → (store : S) (held : Run) (s : ℕ) (b : List ℕ)
      → s < g.size store
      → held_leave g store held s b
      → IsSector b
  whole_over whole store held s b below left =
      ⊎_elim (λ was. whole store s b below was) (λ kept. kept_whole held s b kept) left

  pub seen_held_over : ((d : S) (s : ℕ) → g.may_leave d s (g.seen d s))
      → (store : S) (held : Run) (s : ℕ)
      → held_leave g store held s (held_seen g store held s)
  seen_held_over seen_held store held s =
      ⊎_elim
      (λ same. inl (subst (g.may_leave store s) (sym same) (seen_held store s)))
      (λ kept. inr kept)
      (over_either held (g.seen store) s)

  pub only_now_over : ((d : S) (o : Outcome)
      → g.outcomes d (g.moment d) o
      → Leaves (g.told d) (g.may_leave d) o)
      → (store : S) (held : Run) (o : Outcome)
      → held_outcomes g store held (g.moment store) o
      → Leaves (g.told store) (held_leave g store held) o
  only_now_over only_now store held o left =
      ⊎_elim
      (λ below. leaves_more (g.told store) (g.told store) (g.may_leave store)
      (held_leave g store held) refl (λ s x was. inl was) o (only_now store o below))
      (λ now. now)
      left

-- Partitions and stores of a slot that keep rules together, and the first with which one is broken.
use Rattle.std.specs.Prelude.{◌≡◌, ℕ, ◌≤◌, Bool, ◌&&◌, ◌||◌, nat_le, if◌then◌else◌, List, []}
use Rattle.std.specs.Prelude.{◌∷◌, ◌++◌, length, Option, Some, None, All, MatchBool}
use Rattle.std.specs.List.{filter, list_all}
use Rattle.vab_names.specs.Names.{is_of_slot, is_store}
use Rattle.vab_blocks.specs.Blocks.{is_distinct}
use Rattle.vab_layout.specs.declared.layout.Part.{Part}
use Rattle.vab_layout.specs.Layout.{blocks_of_parts}
use Rattle.vab_layout.specs.Slots.{own_parts, IsDistinct}

-- the slot's own partitions and their stores
abbrev pub target_parts : ℕ → List Part → List Part
target_parts slot parts = filter (λ p. is_of_slot slot p.name || is_store slot p.name) parts

-- a partition of the slot keeps the one rules, a store the others
abbrev pub KeepsEither : ℕ → (Own Store : Part → Type 0) → Part → Type 0
KeepsEither slot Own Store p = MatchBool (is_of_slot slot p.name) (Own p) (Store p)

-- each of these keeps the rules, at most so many are partitions, and no block stands twice in them
pub record Together (most slot : ℕ) (Keeps : Part → Type 0) (these : List Part) : Type 0 where
  pub each : All Keeps these
  pub few : length (own_parts slot these) ≤ most
  pub once : IsDistinct (blocks_of_parts these)

-- the first that breaks a rule: those in front of it keep them together, and with it they don't
pub record FirstBad (most slot : ℕ) (Keeps : Part → Type 0) (parts : List Part) (name : List ℕ)
    : Type 0 where
  pub before : List Part
  pub bad : Part
  pub behind : List Part
  pub split : target_parts slot parts ≡ before ++ bad ∷ behind
  pub named : bad.name ≡ name
  pub kept : Together most slot Keeps before
  pub broken : Together most slot Keeps (before ++ bad ∷ []) → ⊥

-- ---- as tests

-- each of these passes, at most so many are partitions, and no block stands twice in them
unfoldable pub pass_together : (most slot : ℕ) → (passes : Part → Bool) → List Part → Bool
pass_together most slot passes these =
    list_all passes these
    && nat_le (length (own_parts slot these)) most && is_distinct (blocks_of_parts these)

-- the first with which those before it don't pass together
unfoldable pub bad_behind : (most slot : ℕ) → (passes : Part → Bool) → (earlier parts : List Part)
    → Option (List ℕ)
bad_behind most slot passes earlier [] = None
bad_behind most slot passes earlier (p ∷ ps) =
    if pass_together most slot passes (earlier ++ p ∷ [])
    then bad_behind most slot passes (earlier ++ p ∷ []) ps
    else Some p.name

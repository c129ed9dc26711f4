-- What the calls of a flash ask for and say.
use Rattle.std.proofs.Common.{◌≡◌, inl, inr, ℕ, ◌+◌, ◌≤◌, true, List, [], ◌∷◌, arith}
use Rattle.std.specs.Prelude.{Option, Some, None, All, nat_le, ◌==◌}
use Rattle.std.specs.Str.{bytes_eq}
use Rattle.std.proofs.lemmas.Bool.{cases_Bool, leb-false}
use Rattle.std.proofs.lemmas.List.Elements.{All-get_or, All-head, All-tail}
use Rattle.vab_store.specs.Layout.{IsOnDisk}
use Rattle.vab_device.specs.declared.device.Part.{Part}
use Rattle.vab_device.specs.declared.device.Device.{Device}
use Rattle.vab_device.specs.Kept.{IsPart, ArePresent, IsDevice}
use Rattle.vab_flash.specs.Chosen.{part_named, part_among, blocks_or, base_of_place}
use Rattle.vab_flash.specs.Place.{planned_at}

-- ---- the source's partition lies on the disk

none_on : (size : ℕ) → All (λ s. s + 8 ≤ size) []
none_on size = λ k d lt. absurd (omega (arith, lt))

named_on : (size : ℕ) (base : List ℕ) (ps : List Part)
    → All (IsPart size) ps
    → All (λ s. s + 8 ≤ size) (blocks_or (part_named base ps))
named_on size base [] all = none_on size
named_on size base (p ∷ ps) all = elim (cases_Bool (bytes_eq p.name base)) [
  | inl here ↦ rw here ((All-head (IsPart size) p ps all).on_disk)
  | inr other ↦ rw other (named_on size base ps (All-tail (IsPart size) p ps all))
]

among_on : (size : ℕ) (base : List ℕ) (o : Option (List Part))
    → ArePresent size o
    → All (λ s. s + 8 ≤ size) (blocks_or (part_among base o))
among_on size base None is = none_on size
among_on size base (Some ps) is = named_on size base ps is.each

-- what ends in front of a sector of the disk is on the disk
all_on : (low high : ℕ) (blocks : List ℕ)
    → low ≤ high
    → All (λ s. s + 8 ≤ low) blocks
    → All (λ s. s + 8 ≤ high) blocks
all_on low high blocks le all i d below = omega (arith, all i d below, le)

pub base_all : (d : Device) (size place : ℕ)
    → IsDevice d size
    → All (λ s. s + 8 ≤ size) (base_of_place d place)
base_all d size place is = elim (cases_Bool (d.mark.slot == 0)) [
  | inl a ↦ rw a (all_on d.tail.super_end size _ is.ends
      (among_on d.tail.super_end (planned_at d place).name d.a is.parts_a))
  | inr b ↦ rw b (all_on d.tail.super_end size _ is.ends
      (among_on d.tail.super_end (planned_at d place).name d.b is.parts_b))
]

pub base_on_disk : (d : Device) (size place : ℕ)
    → IsDevice d size
    → IsOnDisk (base_of_place d place) size
base_on_disk d size place is i below =
    All-get_or (λ s. s + 8 ≤ size) (base_of_place d place) i 0 below (base_all d size place is)

-- ---- a store with room

pub le_true : (a b : ℕ) → a ≤ b → nat_le a b ≡ true
le_true a b le = elim (cases_Bool (nat_le a b)) [
  | inl is ↦ is
  | inr not ↦ absurd (omega (arith, le, leb-false a b not))
]

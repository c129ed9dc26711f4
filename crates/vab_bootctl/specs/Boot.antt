-- Which slot is booted, and what a boot and the commands on slots change.
use Rattle.std.specs.Prelude.{ℕ, ◌-◌, ◌<◌, ◌≤◌, Bool, true, false, ◌&&◌, ◌||◌, not, ◌==◌, nat_lt}
use Rattle.std.specs.Prelude.{nat_le, if◌then◌else◌, List, slice_index_or, Option, Some, None}
use Rattle.std.specs.Prelude.{IsTrue}
use Rattle.vab_bootctl.specs.declared.slots.Info.{Info}
use Rattle.vab_bootctl.specs.declared.slots.Control.{Control}

abbrev pub info_at : Control → ℕ → Info
info_at c slot = if slot == 0 then c.a else c.b

-- a slot with images, a priority above 0, and either successful or with tries left
abbrev pub is_bootable : Bool → Info → Bool
is_bootable has_images i = has_images && nat_lt 0 i.priority && (i.successful || nat_lt 0 i.tries)

-- has says of each slot whether it has images
abbrev pub IsBootable : Control → List Bool → ℕ → Type 0
IsBootable c has slot =
    (slot < 2) × IsTrue (is_bootable (slice_index_or has slot false) (info_at c slot))

-- the bootable slot of the higher priority, a on a tie
unfoldable pub chosen_of : Control → List Bool → Option ℕ
chosen_of c has =
    let a = is_bootable (slice_index_or has 0 false) c.a in
    let b = is_bootable (slice_index_or has 1 false) c.b in
    if a && (not b || nat_le c.b.priority c.a.priority) then Some 0
    else (if b then Some 1 else None)

-- this slot is the one to boot: no bootable slot has a higher priority, and none before it the same
pub record IsChosen (c : Control) (has : List Bool) (slot : ℕ) : Type 0 where
  pub bootable : IsBootable c has slot
  pub highest : (other : ℕ)
      → IsBootable c has other
      → (info_at c other).priority ≤ (info_at c slot).priority
  pub first : (other : ℕ)
      → IsBootable c has other
      → other < slot
      → (info_at c other).priority < (info_at c slot).priority

-- one try is taken from a slot that is not successful
abbrev pub after_try : Info → Info
after_try i = if i.successful then i else record i { tries = i.tries - 1 }

abbrev pub booted_at : Control → Option ℕ → Control
booted_at c None = c
booted_at c (Some slot) =
    if slot == 0 then record c { current = 0; a = after_try c.a }
    else record c { current = 1; b = after_try c.b }

-- after a boot; where no slot is bootable nothing changes
unfoldable pub booted_of : Control → List Bool → Control
booted_of c has = booted_at c (chosen_of c has)

abbrev pub active : Info → Info
active i = record i { priority = 15; tries = 6 }

abbrev pub demoted : Info → Info
demoted i = if i.priority == 15 then record i { priority = 14 } else i

-- this slot is to be booted next, with six tries; another slot's priority 15 becomes 14
unfoldable pub activated_of : Control → ℕ → Control
activated_of c slot =
    if slot == 0 then record c {
      a =
          active c.a;
      b = demoted c.b;
    } else record c { a = demoted c.a; b = active c.b }

abbrev pub proven : Info → Info
proven i = record i { tries = 0; successful = true }

-- the current slot is successful, and needs no tries
unfoldable pub marked_of : Control → Control
marked_of c = if c.current == 0 then record c { a = proven c.a } else record c { b = proven c.b }

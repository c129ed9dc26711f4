-- Both copies of the tables, where a run has come to its end.
use Rattle.std.specs.Prelude.{◌≡◌, ◌⊎◌, ℕ, true, None}
use Rattle.vab_disk.specs.declared.disk.Disk.{Ghosts}
use Rattle.vab_gen.specs.Sets.{fresh_set}
use Rattle.vab_device.specs.Mounted.{Mounted}
use Rattle.vab_device.specs.Reading.{IsIn}
use Rattle.vab_make.specs.Made.{refusal_of}
use Rattle.vab_words.specs.Verbs.{Meaning, Make, Adopt, Serve, Demo}
use Rattle.vab_commands.specs.Copies.{HasBothCopies}
use Rattle.vab_cli.specs.declared.status.Status.{Status}
use Rattle.vab_cli.specs.declared.status.Status.TheVariants.{Done, Usage, Malformed, Refused}
use Rattle.vab_cli.specs.declared.status.Status.TheVariants.{NotADevice, Disk, Port, NoMemory}

-- what was asked for is done or refused, or the input is malformed
abbrev pub IsAnswered : Status → Type 0
IsAnswered Done = Unit {0}
IsAnswered Malformed = Unit {0}
IsAnswered Refused = Unit {0}
IsAnswered Usage = ⊥
IsAnswered NotADevice = ⊥
IsAnswered Disk = ⊥
IsAnswered Port = ⊥
IsAnswered NoMemory = ⊥

module _ {D : Type 0} (g : Ghosts D) (old new : D) (status : Status) where
  -- the disk is a device, and both copies of each table that is read of it agree
  abbrev pub HasCopies : Type 0
  HasCopies = HasBothCopies (g.size old) (g.seen new)

  -- So a verb on the device of the disk leaves it, which is done or refused or whose input is
  -- malformed; so a session over a device that is made first, and the life of a device, where one
  -- is made. What `make` leaves is said where it is done, and `adopt` writes no table.
  abbrev pub LeavesCopies : Meaning → Type 0
  LeavesCopies (Make limit max) = Unit {0}
  LeavesCopies (Adopt slot) = Unit {0}
  LeavesCopies (Serve true turns) = (status ≡ Done) ⊎ (status ≡ Malformed) → HasCopies
  LeavesCopies (Demo seed scale) =
      refusal_of (fresh_set scale seed) 0 65536 (g.size old) ≡ None
      → IsAnswered status
      → HasCopies
  LeavesCopies _ =
      (s : Mounted)
      → IsIn (g.size old) s (g.seen old)
      → IsAnswered status
      → HasCopies

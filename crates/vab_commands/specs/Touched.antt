-- The sectors that commands may write, one behind the other.
use Rattle.std.specs.Prelude.{◌≡◌, ◌⊎◌, ◌≤◌, ◌<◌, ℕ, ◌-◌, ◌*◌, List, length}
use Rattle.vab_disk.specs.declared.disk.Disk.{Ghosts}
use Rattle.vab_disk.specs.Disk.{IsAt}
use Rattle.vab_disk.specs.Calls.{Changes}
use Rattle.vab_marks.specs.declared.mark.UpdateMark.{UpdateMark}
use Rattle.vab_marks.specs.Mark.{mark_spelling}
use Rattle.vab_statuses.specs.Statuses.{IsOfStatuses}
use Rattle.vab_geometry.specs.declared.geometry.Geometry.{Geometry}
use Rattle.vab_lpstore.specs.Storing.{IsOfTable}
use Rattle.vab_layout.specs.Slots.{other_slot}
use Rattle.vab_device.specs.declared.device.Device.{Device}
use Rattle.vab_device.specs.Kept.{copies_end, parts_at}
use Rattle.vab_device.specs.Does.{KeepsSource}
use Rattle.vab_device.specs.Reading.{IsOfImages}
use Rattle.vab_commands.specs.Controls.{IsOfControls}

-- the sector of the update mark, with one of this slot
pub record IsMarkOf (slot s : ℕ) (b : List ℕ) : Type 0 where
  pub mark : UpdateMark
  pub of : mark.slot ≡ slot
  pub is : IsAt 2048 (mark_spelling mark) s b

-- a sector of the copies of a slot's table, with its part of a text that fits there
pub record IsTextOf (g : Geometry) (slot s : ℕ) (b : List ℕ) : Type 0 where
  pub text : List ℕ
  pub fits : length text ≤ g.max
  pub is : IsOfTable g slot text s b

-- a sector of `super` behind the copies of the tables that no partition of the mark's slot has
pub record IsFree (d : Device) (s : ℕ) : Type 0 where
  pub behind : copies_end d.geometry ≤ 512 * (s - 4096)
  pub not_source : IsOfImages (parts_at d d.mark.slot) s → ⊥

-- What an update from a device's slot may write but for boot control: the update mark, the
-- statuses, the target's table, and the blocks that its images are written into.
abbrev pub IsOfUpdate : Device → ℕ → List ℕ → Type 0
IsOfUpdate d s b =
    IsMarkOf d.mark.slot s b
    ⊎ IsOfStatuses s
    ⊎ IsTextOf d.geometry (other_slot d.mark.slot) s b
    ⊎ IsFree d s

-- What commands may write, one behind the other, from this device on, where none is of a merge.
abbrev pub IsOfCommands : Device → List ℕ → ℕ → List ℕ → Type 0
IsOfCommands d old s b =
    IsOfControls (λ slot. slot ≡ d.mark.slot) d.control old s b ⊎ IsOfUpdate d s b

-- What commands do to the sectors of a device, one behind the other, whatever is heard and told:
-- each sector reads and may be left by a crash as before, but for what they may write; the same in
-- each outcome since.
abbrev pub ChangesDevice : {D : Type 0} → Ghosts D → Device → D → D → Type 0
ChangesDevice g d old new = Changes g (IsOfCommands d (g.seen old 4)) old new

-- ---- where updates are merged as well

-- the update mark of a slot
pub record IsSomeMark (s : ℕ) (b : List ℕ) : Type 0 where
  pub slot : ℕ
  pub mark : IsMarkOf slot s b

-- a text that fits in a copy of the table of slot a or b
pub record IsSomeText (g : Geometry) (s : ℕ) (b : List ℕ) : Type 0 where
  pub slot : ℕ
  pub below : slot < 2
  pub text : IsTextOf g slot s b

-- a sector of `super` behind the copies of the tables
abbrev pub IsBehind : Geometry → ℕ → Type 0
IsBehind g s = copies_end g ≤ 512 * (s - 4096)

-- What updates may write but for boot control, one behind the other: the target of the one is the
-- source of the next. That no image of a slot that has some is written over is said by what each
-- outcome means.
abbrev pub IsOfUpdates : Geometry → ℕ → List ℕ → Type 0
IsOfUpdates g s b =
    IsSomeMark s b ⊎ IsOfStatuses s ⊎ IsSomeText g s b ⊎ IsBehind g s

-- What commands may write, one behind the other, from this device on.
abbrev pub IsOfAll : Device → List ℕ → ℕ → List ℕ → Type 0
IsOfAll d old s b =
    IsOfControls (λ slot. slot < 2) d.control old s b ⊎ IsOfUpdates d.geometry s b

-- what they do to the sectors of a device
abbrev pub ChangesAll : {D : Type 0} → Ghosts D → Device → D → D → Type 0
ChangesAll g d old new = Changes g (IsOfAll d (g.seen old 4)) old new

-- What is changed in each case, and what where something more holds of the commands.
pub record ChangesBy {D : Type 0}
    (g : Ghosts D)
    (d : Device)
    (Plain : Type 0)
    (old new : D) : Type 0 where
  pub all : ChangesAll g d old new
  pub plain : Plain → ChangesDevice g d old new

-- what is kept of a device in each case, and what where that holds
pub record FollowsBy (d : Device) (Plain : Type 0) (next : Device) : Type 0 where
  pub geometry : next.geometry ≡ d.geometry
  pub source : Plain → KeepsSource d next

-- What commands write that are carried out one after another.
use Rattle.std.specs.Prelude.{◌≡◌, ◌⊎◌, ℕ, List, [], ◌∷◌, Result, IfOk}
use Rattle.vab_disk.specs.declared.disk.Disk.{Ghosts}
use Rattle.vab_disk.specs.Disk.{Image, Adds}
use Rattle.vab_disk.specs.Calls.{IsAtRest, SameBut}
use Rattle.vab_model.specs.Effects.{after_of}
use Rattle.vab_device.specs.declared.device.Device.{Device}
use Rattle.vab_device.specs.Mounted.{Mounted, mounted_on}
use Rattle.vab_device.specs.Reading.{Represents}
use Rattle.vab_exchanges.specs.Items.{Kept}
use Rattle.vab_session.specs.Written.{IsOfChange}
use Rattle.vab_update.specs.declared.stop.Stop.{Stop}
use Rattle.vab_update.specs.Carries.{CarriesOut}
use Rattle.vab_update.specs.Orders.{Order, effect_one}

-- what a command comes to
abbrev pub comes_to : Device → Image → Order → Kept Mounted
comes_to d old o = record { now = mounted_on d old; staged = o.staged }

-- what it writes there: nothing where it changes nothing
abbrev pub IsOfOrder : (is_modelled : Type 0)
    → Device
    → Image
    → Order
    → ℕ
    → List ℕ
    → Type 0
IsOfOrder is_modelled d old o =
    IsOfChange is_modelled d (comes_to d old o) (old 4) (o.command (mounted_on d old))

-- A disk behind some of these commands, one behind the other, from a device that is kept: each one
-- that is done has written what it writes on the device that it came to, and left the next device;
-- and of the one that follows some is written.
abbrev pub OrdersWritten : (is_modelled : Type 0)
    → ℕ
    → Device
    → Image
    → List Order
    → Image
    → Type 0
OrdersWritten is_modelled size d old [] image = image ≡ old
OrdersWritten is_modelled size d old (o ∷ os) image =
    SameBut (IsOfOrder is_modelled d old o) old image
    ⊎ ((next : Device)
    × (mid : Image)
    × SameBut (IsOfOrder is_modelled d old o) old mid
    × Represents next size mid
    × (mounted_on next mid ≡ after_of (mounted_on d old) (effect_one o (mounted_on d old)))
    × OrdersWritten is_modelled size next mid os image)

-- a disk behind all of them, which is this device
abbrev pub OrdersDone : (is_modelled : Type 0)
    → ℕ
    → Device
    → Image
    → List Order
    → Device
    → Image
    → Type 0
OrdersDone is_modelled size d old [] last image = (last ≡ d) × (image ≡ old)
OrdersDone is_modelled size d old (o ∷ os) last image =
    (next : Device)
    × (mid : Image)
    × SameBut (IsOfOrder is_modelled d old o) old mid
    × Represents next size mid
    × (mounted_on next mid ≡ after_of (mounted_on d old) (effect_one o (mounted_on d old)))
    × OrdersDone is_modelled size next mid os last image

-- The disk is written by them in turn, and so is each outcome since, where nothing was pending.
pub record WritesOrders {D : Type 0}
    (g : Ghosts D)
    (d : Device)
    (orders : List Order)
    (old new : D)
    (result : Result Device Stop) : Type 0 where
  pub seen : OrdersWritten g.is_modelled (g.size old) d (g.seen old) orders (g.seen new)
  pub time : IsAtRest g old
      → Adds g.moment g.outcomes old new
      (λ o. OrdersWritten g.is_modelled (g.size old) d (g.seen old) orders o.image)
  pub done : IfOk result
      (λ last.
      OrdersDone g.is_modelled (g.size old) d (g.seen old) orders last (g.seen new))

-- what comes of these commands, and what they write
pub record CarriesOrders {D : Type 0}
    (g : Ghosts D)
    (d : Device)
    (orders : List Order)
    (old new : D)
    (result : Result Device Stop) : Type 0 where
  pub carries : CarriesOut g d orders old new result
  pub writes : g.is_modelled → WritesOrders g d orders old new result

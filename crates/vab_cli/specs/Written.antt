-- What a session writes, over the device of the disk or over one that is made first, what an
-- installation writes, and what the life of a device.
use Rattle.std.specs.Prelude.{◌≡◌, ◌⊎◌, ◌++◌, ℕ, List, Option, Result, IfOk}
use Rattle.std.specs.List.{flat_map}
use Rattle.vab_disk.specs.declared.disk.Disk.{Ghosts}
use Rattle.vab_disk.specs.Disk.{Image, Adds}
use Rattle.vab_disk.specs.Calls.{IsAtRest, SameBut}
use Rattle.vab_set.specs.declared.set.SetImage.{SetImage}
use Rattle.vab_device.specs.declared.device.Device.{Device}
use Rattle.vab_device.specs.Mounted.{Mounted, mounted_on}
use Rattle.vab_device.specs.Reading.{Represents}
use Rattle.vab_exchanges.specs.Session.{Exchange, spelled}
use Rattle.vab_session.specs.Sparing.{AreExchanges}
use Rattle.vab_session.specs.Served.{nothing_staged}
use Rattle.vab_session.specs.Written.{WrittenInTurn, WritesAs, spelled_one}
use Rattle.vab_update.specs.Install.{install_orders}
use Rattle.vab_update.specs.Orders.{Order}
use Rattle.vab_update.specs.Written.{OrdersDone, OrdersWritten}
use Rattle.vab_cli.specs.declared.status.Status.{Status}

-- The device is opened, or made and opened, with what that may write; and from there the packets of
-- the input write in turn: one that changes the device what its command writes there, and each
-- other nothing; and between them so many turns of a merge. Each outcome is written so, where
-- nothing was pending.
pub record WritesOpened {D : Type 0}
    (g : Ghosts D)
    (W : ℕ → List ℕ → Type 0)
    (turns size : ℕ)
    (bytes : List ℕ)
    (old new : D) : Type 0 where
  pub device : Device
  pub opened : Image
  pub opens : SameBut W (g.seen old) opened
  pub represents : Represents device size opened
  pub done : List Exchange
  pub more : Option (List ℕ)
  pub after : List ℕ
  pub are : AreExchanges done
  pub is : bytes ≡ flat_map spelled done ++ (spelled_one more ++ after)
  pub seen : WrittenInTurn g.is_modelled turns size device
      (nothing_staged (mounted_on device opened)) opened done more (g.seen new)
  pub time : IsAtRest g old
      → Adds g.moment g.outcomes old new
      (λ o. SameBut W (g.seen old) o.image
      ⊎ WrittenInTurn g.is_modelled turns size device
      (nothing_staged (mounted_on device opened)) opened done more o.image)

-- or it isn't, and no more than that is written
abbrev pub WritesServed : {D : Type 0}
    → Ghosts D
    → (W : ℕ → List ℕ → Type 0)
    → (turns size : ℕ)
    → List ℕ
    → (old new : D)
    → Type 0
WritesServed g W turns size bytes old new =
    WritesOpened g W turns size bytes old new ⊎ WritesAs g W old new

-- ---- an installation

-- Commands write in turn, from a device that is kept: each one that changes it what it writes on
-- the device that it comes to, and each other nothing.
pub record WritesInOrder {D : Type 0}
    (g : Ghosts D)
    (d : Device)
    (orders : List Order)
    (old new : D) : Type 0 where
  pub seen : OrdersWritten g.is_modelled (g.size old) d (g.seen old) orders (g.seen new)
  pub time : IsAtRest g old
      → Adds g.moment g.outcomes old new
      (λ o. OrdersWritten g.is_modelled (g.size old) d (g.seen old) orders o.image)

-- The device is opened, with what that may write; and from there the commands that install a set
-- write in turn. Each outcome is written so, where nothing was pending.
pub record WritesInstalled {D : Type 0}
    (g : Ghosts D)
    (W : ℕ → List ℕ → Type 0)
    (size : ℕ)
    (set : List SetImage)
    (old new : D) : Type 0 where
  pub device : Device
  pub opened : Image
  pub opens : SameBut W (g.seen old) opened
  pub represents : Represents device size opened
  pub seen : OrdersWritten g.is_modelled size device opened
      (install_orders device.control.current set) (g.seen new)
  pub time : IsAtRest g old
      → Adds g.moment g.outcomes old new
      (λ o. SameBut W (g.seen old) o.image
      ⊎ OrdersWritten g.is_modelled size device opened
      (install_orders device.control.current set) o.image)

-- or it isn't opened, or the input isn't had, and no more than that is written
abbrev pub WritesInstall : {D : Type 0}
    → Ghosts D
    → (W : ℕ → List ℕ → Type 0)
    → ℕ
    → List SetImage
    → (old new : D)
    → Type 0
WritesInstall g W size set old new =
    WritesInstalled g W size set old new ⊎ WritesAs g W old new

-- ---- the life of a device

-- Commands write in turn, as long as they are done; and where all are done, the disk is the one
-- behind all of them.
pub record WritesActs {D : Type 0}
    (g : Ghosts D)
    (d : Device)
    (orders : List Order)
    (old new : D)
    (result : Result Device Status) : Type 0 where
  pub all : WritesInOrder g d orders old new
  pub done : IfOk result
      (λ last. OrdersDone g.is_modelled (g.size old) d (g.seen old) orders last (g.seen new))

-- This device is made and opened, with what that may write; and from there these commands write in
-- turn. Each outcome is written so, where nothing was pending.
pub record WritesMade {D : Type 0}
    (g : Ghosts D)
    (W : ℕ → List ℕ → Type 0)
    (size : ℕ)
    (made : Mounted)
    (orders : List Order)
    (old new : D) : Type 0 where
  pub device : Device
  pub opened : Image
  pub opens : SameBut W (g.seen old) opened
  pub represents : Represents device size opened
  pub is : mounted_on device opened ≡ made
  pub seen : OrdersWritten g.is_modelled size device opened orders (g.seen new)
  pub time : IsAtRest g old
      → Adds g.moment g.outcomes old new
      (λ o. SameBut W (g.seen old) o.image
      ⊎ OrdersWritten g.is_modelled size device opened orders o.image)

-- or it isn't made or opened, and no more than that is written
abbrev pub WritesLife : {D : Type 0}
    → Ghosts D
    → (W : ℕ → List ℕ → Type 0)
    → ℕ
    → (made : Mounted)
    → List Order
    → (old new : D)
    → Type 0
WritesLife g W size made orders old new =
    WritesMade g W size made orders old new ⊎ WritesAs g W old new

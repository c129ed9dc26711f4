-- Telling bytes, one item, and a line at the end of a run.
use Rattle.std.specs.Prelude.{◌≡◌, ℕ, List, ◌++◌, take, Result, OnOk}
use Rattle.vab_disk.specs.declared.disk.Disk.{Ghosts}
use Rattle.vab_disk.specs.Disk.{SameHoldings, Adds}
use Rattle.vab_disk.specs.Calls.{IsAtRest}
use Rattle.vab_disk.specs.Port.{LeavesSaying}
use Rattle.vab_model.specs.Effects.{IsOneOf}
use Rattle.vab_device.specs.Mounted.{Mounted}
use Rattle.vab_device.specs.Reading.{IsIn}
use Rattle.vab_exchanges.specs.Items.{Item}
use Rattle.vab_exchanges.specs.Runs.{LeavesItem}
use Rattle.vab_cli.specs.declared.status.Status.{Status}

module _ {D : Type 0} (g : Ghosts D) where
  -- A front of these bytes is told, and all of them where it is done. The disk and the input stay.
  pub record Says {A E : Type 0}
      (bytes : List ℕ)
      (old new : D)
      (result : Result A E) : Type 0 where
    pub told : OnOk result (g.told new ≡ g.told old ++ bytes)
    pub front : (n : ℕ) × (g.told new ≡ g.told old ++ take n bytes)
    pub seen : g.seen new ≡ g.seen old
    pub crash : SameHoldings (g.may_leave old) (g.may_leave new)
    pub left : g.input_left new ≡ g.input_left old
    pub heard : g.heard new ≡ g.heard old
    pub time : Adds g.moment g.outcomes old new (LeavesSaying (g.told old) bytes (g.may_leave old))

  -- One item is done and told, unless the disk or the port failed.
  pub record DoesItem {A E : Type 0}
      (size : ℕ)
      (item : Item Mounted)
      (old new : D)
      (result : Result A E) : Type 0 where
    pub told : OnOk result (g.told new ≡ g.told old ++ item.reply)
    pub front : (n : ℕ) × (g.told new ≡ g.told old ++ take n item.reply)
    pub stands : OnOk result (IsIn size item.last.now (g.seen new))
    pub settled : IsAtRest g old → OnOk result (IsAtRest g new)
    pub time : IsAtRest g old
        → Adds g.moment g.outcomes old new (LeavesItem (IsIn size) (g.told old) item)

  -- Nothing is told, and the disk is in one of the item's steps.
  pub record LeavesShort (size : ℕ) (item : Item Mounted) (old new : D) : Type 0 where
    pub told : g.told new ≡ g.told old
    pub step : (s : Mounted) × IsOneOf item.steps s × IsIn size s (g.seen new)
    pub settled : IsAtRest g old → IsAtRest g new

  -- A front of the line is told, and all of it where the run ends so; the disk stays.
  pub record Tells (line : List ℕ) (status : Status) (old new : D) (result : Status) : Type 0 where
    pub front : (n : ℕ) × (g.told new ≡ g.told old ++ take n line)
    pub whole : result ≡ status → g.told new ≡ g.told old ++ line
    pub seen : g.seen new ≡ g.seen old
    pub crash : SameHoldings (g.may_leave old) (g.may_leave new)
    pub left : g.input_left new ≡ g.input_left old
    pub heard : g.heard new ≡ g.heard old
    pub time : Adds g.moment g.outcomes old new (LeavesSaying (g.told old) line (g.may_leave old))

-- The verb `status`: what is told of it.
use Rattle.vab_disk.specs.declared.disk.Disk.{Ghosts}
use Rattle.vab_disk.specs.Calls.{Changes}
use Rattle.vab_device.specs.Mounted.{Mounted}
use Rattle.vab_recover.specs.Opening.{IsOfOpening}
use Rattle.vab_status.specs.Page.{page}
use Rattle.vab_exchanges.specs.Items.{Item}
use Rattle.vab_cli.specs.declared.status.Status.{Status}
use Rattle.vab_cli.specs.declared.status.Status.TheVariants.{Done}
use Rattle.vab_cli.specs.Counts.{HearsNothing}
use Rattle.vab_cli.specs.Installing.{RunsOrFails}
use Rattle.vab_cli.specs.Runs.{RunsOpened}
use Rattle.vab_cli.specs.Verbs.{line_item, none_line}

-- the page of a device is told, and nothing changes
abbrev pub page_item : Mounted → Item Mounted
page_item s = line_item s (page s.state)

module _ {D : Type 0} (g : Ghosts D) (old new : D) (status : Status) where
  -- the page, with status 0
  abbrev pub RunsPage : Mounted → Type 0
  RunsPage s = RunsOrFails g old new status s (page_item s) Done

  pub record TellsPage : Type 0 where
    pub runs : g.is_modelled → RunsOpened g (g.size old) none_line RunsPage old new status
    -- It hears nothing, and writes what opening may.
    pub quiet : g.is_modelled → HearsNothing g old new
    pub touches : g.is_modelled → Changes g (IsOfOpening (g.size old) (g.seen old)) old new

-- The verb `install`: what is told of it, how it ends, and the devices on the way.
use Rattle.std.specs.Prelude.{◌≡◌, ◌⊎◌, ◌≤◌, ◌<◌, ◌^◌, ◌++◌, ℕ, List, [], length, codes, decimal}
use Rattle.std.specs.Prelude.{Ok, Err}
use Rattle.vab_disk.specs.declared.disk.Disk.{Ghosts}
use Rattle.vab_disk.specs.Calls.{Changes}
use Rattle.vab_set.specs.Reading.{set_of}
use Rattle.vab_set.specs.declared.set.SetImage.{SetImage}
use Rattle.vab_set.specs.declared.fault.SetFault.{SetFault}
use Rattle.vab_model.specs.declared.command.Reply.{Reply}
use Rattle.vab_model.specs.declared.command.Reply.TheVariants as replies
use Rattle.vab_model.specs.Effects.{steps_of, after_of}
use Rattle.vab_device.specs.declared.fault.StartFault.{StartFault}
use Rattle.vab_device.specs.Mounted.{Mounted}
use Rattle.vab_device.specs.Reading.{device, IsIn}
use Rattle.vab_recover.specs.Opening.{IsOfOpening}
use Rattle.vab_commands.specs.Touched.{IsOfCommands}
use Rattle.vab_update.specs.Install.{install_effect}
use Rattle.vab_exchanges.specs.Items.{Item}
use Rattle.vab_session.specs.Responses.{left_of}
use Rattle.vab_session.specs.Served.{nothing_staged}
use Rattle.vab_cli.specs.declared.status.Status.{Status}
use Rattle.vab_cli.specs.declared.status.Status.TheVariants.{Done, Malformed, Disk}
use Rattle.vab_input.specs.HearsToEnd.{HearsWithin}
use Rattle.vab_cli.specs.Codes.{reply_status}
use Rattle.vab_cli.specs.Counts.{HearsNothing, HearsUnless}
use Rattle.vab_cli.specs.Runs.{Held, RunsItem, RunsShort, RunsOpened, FailsBefore}
use Rattle.vab_cli.specs.Touched.{IsOfServing}
use Rattle.vab_cli.specs.Verbs.{line, line_item, none_line, refused_line}
use Rattle.vab_cli.specs.Written.{WritesInstall}

-- so many images are installed, and so many blocks left to merge
abbrev pub installed_line : (images left : ℕ) → List ℕ
installed_line images left =
    line (codes "installed " ++ decimal images ++ codes " images, left " ++ decimal left)

-- its line: how many images the set has, or why a command was refused
unfoldable pub install_line : (images left : ℕ) → Reply → List ℕ
install_line images left replies.Done = installed_line images left
install_line images left (replies.Booted slot) = installed_line images left
install_line images left (replies.Bytes name) = installed_line images left
install_line images left (replies.Digest sum) = installed_line images left
install_line images left (replies.Left blocks) = installed_line images left
install_line images left replies.Merged = installed_line images left
install_line images left (replies.Refused refusal) = refused_line refusal

-- how many blocks are left to merge behind it
abbrev pub left_behind : Mounted → List SetImage → ℕ
left_behind m set = left_of (after_of m (install_effect m set)).state.phase

abbrev pub install_told : Mounted → List SetImage → List ℕ
install_told m set =
    install_line (length set) (left_behind m set) (install_effect m set).reply

-- its one item, whose steps are the devices between its commands
abbrev pub install_item : Mounted → List SetImage → Item Mounted
install_item m set = record {
  reply = install_told m set;
  steps = steps_of m (install_effect m set);
  last = nothing_staged (after_of m (install_effect m set));
}

-- and how it ends
abbrev pub install_status : Mounted → List SetImage → Status
install_status m set = reply_status (install_effect m set).reply

module _ {D : Type 0} (g : Ghosts D) (old new : D) (status : Status) where
  -- One item that is done or refused, or short of memory; or the disk failed or memory was refused
  -- while the device was opened.
  abbrev pub RunsOrFails : Mounted → Item Mounted → Status → Type 0
  RunsOrFails s item ends =
      RunsItem g (g.size old) s item ends old new status
      ⊎ RunsShort g (g.size old) s item old new status
      ⊎ FailsBefore g (g.size old) s old new status

  -- Of an input that spells a set: begin, for each image the size of its partition, its store and
  -- its bytes, finish, and the target set active; until one of them is refused. Each cut of power
  -- leaves one of the devices between them. Of another input: status 3, and nothing is told or
  -- changed.
  pub record RunsInstall (s : Mounted) : Type 0 where
    pub item : (set : List SetImage)
        → length (g.input_left old) ≤ 2 ^ 32
        → set_of (g.input_left old) ≡ Ok set
        → RunsOrFails s (install_item s set) (install_status s set)
    pub malformed : (2 ^ 32 < length (g.input_left old))
        ⊎ ((fault : SetFault) × (set_of (g.input_left old) ≡ Err fault))
        → RunsOrFails s (line_item s []) Malformed

  -- It writes what opening may, and what the commands of a session may that merge nothing; and that
  -- is what opening may, and then what its commands write in turn: one that changes the device what
  -- it writes there, and each other nothing, also where the disk fails.
  pub record WritesSet : Type 0 where
    pub touches : Changes g (IsOfServing IsOfCommands (g.size old) (g.seen old)) old new
    pub in_turn : (set : List SetImage)
        → set_of (g.input_left old) ≡ Ok set
        → WritesInstall g (IsOfOpening (g.size old) (g.seen old)) (g.size old) set old new

  -- Over a device the input is heard to its end, where it isn't too long, and where it is done
  -- surely; over none nothing is heard, and never anything beyond the end.
  pub record HearsSet : Type 0 where
    pub unheard : (fault : StartFault)
        → device (g.size old) (g.seen old) ≡ Err fault
        → HearsNothing g old new
    pub heard : (s : Mounted)
        → IsIn (g.size old) s (g.seen old)
        → Held status
        → HearsUnless (g.input_left old) (g.heard old) (g.heard new) status
    pub within : HearsWithin (g.heard old) (g.heard new)
    pub end : status ≡ Done → g.input_left new ≡ []

  pub record Installs : Type 0 where
    pub runs : g.is_modelled → RunsOpened g (g.size old) none_line RunsInstall old new status
    pub writes : g.is_modelled → (s : Mounted) → IsIn (g.size old) s (g.seen old) → WritesSet
    pub hears : g.is_modelled → HearsSet

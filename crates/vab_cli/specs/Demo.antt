-- The verb `demo`: the whole life of a device whose images are drawn from a number.
use Rattle.std.specs.Prelude.{◌≡◌, ◌⊎◌, ◌<◌, ℕ, ◌+◌, ◌/◌, List, [], ◌∷◌, ◌++◌, map, codes}
use Rattle.std.specs.Prelude.{replicate}
use Rattle.std.specs.Prelude.{Some, None}
use Rattle.vab_disk.specs.declared.disk.Disk.{Ghosts}
use Rattle.vab_disk.specs.Calls.{Changes, InSectors}
use Rattle.vab_set.specs.declared.set.SetImage.{SetImage}
use Rattle.vab_gen.specs.Sets.{fresh_set, next_set}
use Rattle.vab_make.specs.declared.fault.MakeFault.{MakeFault}
use Rattle.vab_make.specs.Made.{refusal_of, made_device_of}
use Rattle.vab_make.specs.Making.{LeavesMaking}
use Rattle.vab_make.specs.Touched.{IsOfMaking}
use Rattle.vab_model.specs.Commands.{Boot, Mark, Digest, BeginMerge, Merge}
use Rattle.vab_commands.specs.Touched.{IsOfAll}
use Rattle.vab_update.specs.Install.{install_orders, order, target_name}
use Rattle.vab_update.specs.Orders.{Order}
use Rattle.vab_cli.specs.declared.status.Status.{Status}
use Rattle.vab_cli.specs.declared.status.Status.TheVariants.{NotADevice, Disk, Port, NoMemory}
use Rattle.vab_cli.specs.Acts.{Act, Course, RunsActs, command_act, course, install_act, line_act}
use Rattle.vab_cli.specs.Codes.{make_status}
use Rattle.vab_cli.specs.Counts.{HearsNothing}
use Rattle.vab_cli.specs.Installing.{left_behind}
use Rattle.vab_cli.specs.Runs.{RunsRefused, FailsMaking}
use Rattle.vab_cli.specs.Touched.{IsOfMade}
use Rattle.vab_cli.specs.Verbs.{done_making, make_line}
use Rattle.vab_cli.specs.Written.{WritesLife}

-- how often seven turns are taken until a merge of so many blocks has ended: a turn more ends it
abbrev pub sevens : (left : ℕ) → ℕ
sevens left = left / 7 + 1

-- what is told in front of the digest of an image in slot b
abbrev pub digest_front : SetImage → List ℕ
digest_front image = codes "digest " ++ target_name 0 image ++ codes " "

-- the digest of an image in slot b, behind its name
abbrev pub digest_act : SetImage → Act
digest_act image = command_act (digest_front image) (Digest (target_name 0 image))

-- the slot that isn't running takes over
abbrev pub take_over : List Act
take_over = command_act [] Boot ∷ command_act [] Mark ∷ command_act [] BeginMerge ∷ []

-- An update by a set: it is installed, booted, marked, and merged by seven turns, and its digests
-- are told.
abbrev pub update_acts : List SetImage → (left : ℕ) → List Act
update_acts set left =
    (install_act set ∷ [])
    ++ take_over
    ++ replicate (sevens left) (command_act [] (Merge 7))
    ++ map digest_act set

-- behind the making of a device, which has this line
abbrev pub life : (made : List ℕ) → (next : List SetImage) → (left : ℕ) → List Act
life made next left = line_act made ∷ update_acts next left

-- what comes of a device that is made of a set, on so many sectors, and of the next set
abbrev pub life_of : (set next : List SetImage) → (size : ℕ) → Course
life_of set next size =
    let made = made_device_of set 0 65536 size in
    course (life (done_making set size) next (left_behind made next)) made

-- ---- its commands

-- the slot that isn't running takes over
abbrev pub take_over_orders : List Order
take_over_orders = order Boot ∷ order Mark ∷ order BeginMerge ∷ []

abbrev pub digest_order : SetImage → Order
digest_order image = order (Digest (target_name 0 image))

-- those of an update by a set, from this slot
abbrev pub update_orders : (source : ℕ) → List SetImage → (left : ℕ) → List Order
update_orders source set left =
    install_orders source set
    ++ (take_over_orders ++ replicate (sevens left) (order (Merge 7)) ++ map digest_order set)

-- those of the life of a device that is made of a set, on so many sectors, and of the next set
abbrev pub orders_of : (set next : List SetImage) → (size : ℕ) → List Order
orders_of set next size =
    let made = made_device_of set 0 65536 size in
    update_orders made.state.control.current next (left_behind made next)

-- ---- what is promised

-- where there are too few sectors for a device
abbrev pub EndsSmall : Status → Type 0
EndsSmall status = (status ≡ NotADevice) ⊎ ((status ≡ Port) ⊎ (status ≡ NoMemory))

module _ {D : Type 0} (g : Ghosts D) (set next : List SetImage) (old new : D) (status : Status)
  where
    -- A device is made of a set and lives: each line that is told closes an item. Or the disk
    -- failed or memory was refused while it was made or opened. Or it isn't made, and that is told:
    -- nothing is written.
    pub record RunsLife : Type 0 where
      pub lives : refusal_of set 0 65536 (g.size old) ≡ None
          → RunsActs g (g.size old)
          (LeavesMaking (g.told old) set 0 65536 (g.size old) (g.seen old))
          (made_device_of set 0 65536 (g.size old))
          (life_of set next (g.size old))
          old new status
          ⊎ FailsMaking g (g.size old) set 0 65536 old new status
      pub refused : (fault : MakeFault)
          → refusal_of set 0 65536 (g.size old) ≡ Some fault
          → RunsRefused g (g.size old) (make_line fault) (make_status fault) old new status

    -- It writes what making does, and what commands on that device may; and that is what making
    -- does, and then what the commands of its life write in turn, from the made device: one that
    -- changes the device what it writes there, and each other nothing.
    pub record WritesDemo : Type 0 where
      pub touches : Changes g (IsOfMade set IsOfAll (g.size old)) old new
      pub in_turn : WritesLife g (InSectors (IsOfMaking set 65536)) (g.size old)
          (made_device_of set 0 65536 (g.size old))
          (orders_of set next (g.size old)) old new

    pub record Demonstrates : Type 0 where
      pub runs : g.is_modelled → RunsLife
      pub writes : g.is_modelled → WritesDemo
      -- On too few sectors it ends so, over any port.
      pub small : g.size old < 6152 → EndsSmall status
      -- It hears nothing.
      pub quiet : g.is_modelled → HearsNothing g old new

-- those of a number, with so many times as many blocks
abbrev pub DemonstratesOf : {D : Type 0}
    → Ghosts D
    → (seed scale : ℕ)
    → (old new : D)
    → Status
    → Type 0
DemonstratesOf g seed scale old new status =
    Demonstrates g (fresh_set scale seed) (next_set scale seed (fresh_set scale seed)) old new
    status

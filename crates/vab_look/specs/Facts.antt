-- The facts of the page of `status`, a line for each, by what is kept of a device.
use Rattle.std.specs.Prelude.{ℕ, ◌+◌, ◌*◌, List, [], ◌++◌, length, codes}
use Rattle.std.specs.Prelude.{Option, Some, None}
use Rattle.std.specs.List.{flat_map}
use Rattle.vab_bootctl.specs.declared.slots.Info.{Info}
use Rattle.vab_device.specs.declared.device.Device.{Device}
use Rattle.vab_device.specs.declared.device.Part.{Part}
use Rattle.vab_device.specs.declared.device.PhaseKind.{PhaseKind}
use Rattle.vab_device.specs.declared.device.PhaseKind.TheVariants.{Idle, Installing, Staged}
use Rattle.vab_device.specs.declared.device.PhaseKind.TheVariants.{Merging}
use Rattle.vab_device.specs.Kept.{phase_kind}
use Rattle.vab_device.specs.Mounted.{count_at, count_of, blocks_there}
use Rattle.vab_fbproto.specs.Texts.{slot_letter}
use Rattle.vab_status.specs.Page.{yes_or_no}
use Rattle.vab_status.specs.Kept.{plan_word}
use Rattle.vab_look.specs.declared.form.Form.{Form}
use Rattle.vab_look.specs.Form.{begun, word_in, counted_in, ended}
use Rattle.vab_look.specs.TablesText.{of_slot}

abbrev pub phase_word : PhaseKind → List ℕ
phase_word Idle = codes "idle"
phase_word (Installing source) = codes "installing"
phase_word (Staged source) = codes "staged"
phase_word (Merging target) = codes "merging"

-- the blocks that partitions may have, the slot that was booted last, where an update stands, and
-- how many blocks are left to merge
abbrev pub head_fact : Form → ℕ → ℕ → PhaseKind → ℕ → List ℕ
head_fact form cap current phase left =
    begun form (codes "status")
    ++ counted_in form (codes "cap") cap
    ++ word_in form (codes "current") (slot_letter current)
    ++ word_in form (codes "phase") (phase_word phase)
    ++ counted_in form (codes "left") left
    ++ ended form

-- a slot with so many images, of which boot control says this
abbrev pub slot_fact : Form → ℕ → ℕ → Info → List ℕ
slot_fact form slot images info =
    of_slot form (codes "slot") slot
    ++ counted_in form (codes "images") images
    ++ counted_in form (codes "priority") info.priority
    ++ counted_in form (codes "tries") info.tries
    ++ word_in form (codes "successful") (yes_or_no info.successful)
    ++ ended form

abbrev pub image_fact : Form → ℕ → Part → List ℕ
image_fact form slot p =
    of_slot form (codes "image") slot
    ++ word_in form (codes "name") p.name
    ++ counted_in form (codes "bytes") (4096 * length p.map)
    ++ ended form

abbrev pub slot_facts : Form → ℕ → Info → Option (List Part) → List ℕ
slot_facts form slot info None = []
slot_facts form slot info (Some parts) =
    slot_fact form slot (length parts) info ++ flat_map (image_fact form slot) parts

abbrev pub plan_fact : Form → Part → List ℕ
plan_fact form p =
    begun form (codes "plan")
    ++ word_in form (codes "name") p.name
    ++ counted_in form (codes "bytes") (4096 * length p.map)
    ++ word_in form (codes "state") (plan_word p.image)
    ++ ended form

abbrev pub plan_facts : Form → Option (List Part) → List ℕ
plan_facts form None = []
plan_facts form (Some parts) = flat_map (plan_fact form) parts

-- the partition that is written over, with the blocks of its store, and those of its own that were
-- written
abbrev pub overlay_fact : Form → Part → List ℕ
overlay_fact form p =
    begun form (codes "overlay")
    ++ word_in form (codes "name") p.name
    ++ counted_in form (codes "bytes") (4096 * length p.map)
    ++ counted_in form (codes "store") (length (blocks_there p.store))
    ++ counted_in form (codes "written") (count_of p.image)
    ++ ended form

abbrev pub overlay_facts : Form → Option Part → List ℕ
overlay_facts form None = []
overlay_facts form (Some p) = overlay_fact form p

-- a slot without images has no line
abbrev pub status_facts : Form → Device → List ℕ
status_facts form d =
    head_fact form d.cap d.control.current (phase_kind d) (count_at d.a + count_at d.b)
    ++ slot_facts form 0 d.control.a d.a
    ++ slot_facts form 1 d.control.b d.b
    ++ plan_facts form d.plan
    ++ overlay_facts form d.overlay

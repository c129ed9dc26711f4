-- A phase of an update: what it reads of a disk, and what it asks of that.
use Rattle.std.specs.Prelude.{ℕ, ◌==◌, Bool, true, false, not, ◌&&◌, ◌||◌, List, [], ◌∷◌, map}
use Rattle.std.specs.Prelude.{Option, Some, None, Result, Ok, option_map, is_some, length}
use Rattle.std.specs.Prelude.{if◌then◌else◌}
use Rattle.std.specs.List.{list_all}
use Rattle.vab_bootctl.specs.declared.slots.Info.{Info}
use Rattle.vab_bootctl.specs.declared.slots.Control.{Control}
use Rattle.vab_bootctl.specs.Boot.{info_at}
use Rattle.vab_marks.specs.declared.mark.MarkPhase.{MarkPhase}
use Rattle.vab_marks.specs.declared.mark.MarkPhase.TheVariants as marks
use Rattle.vab_marks.specs.declared.mark.UpdateMark.{UpdateMark}
use Rattle.vab_marks.specs.declared.status.PartStatus.{PartStatus}
use Rattle.vab_names.specs.Names.{base_of, store_of}
use Rattle.vab_tables.specs.declared.table.Table.{Table}
use Rattle.vab_layout.specs.declared.layout.Part.{Part as PartOfLayout}
use Rattle.vab_layout.specs.declared.layout.Layout.{Layout}
use Rattle.vab_layout.specs.Layout.{layout_of}
use Rattle.vab_layout.specs.Slots.{other_slot, own_parts, is_updated, twins_by}
use Rattle.vab_layout.specs.Overlay.{Overlaid, overlaid_in, is_apart}
use Rattle.vab_space.specs.declared.Chunk.TheVariants.{One}
use Rattle.vab_partitions.specs.Rules.{bad_part}
use Rattle.vab_partitions.specs.TargetRules.{bad_beside}
use Rattle.vab_partitions.specs.MergingRules.{bad_merging_of}
use Rattle.vab_partitions.specs.Twins.{are_twins, are_devices}
use Rattle.vab_device.specs.declared.fault.StartFault.{StartFault}
use Rattle.vab_device.specs.declared.fault.StartFault.TheVariants.{BadState, BadTable}
use Rattle.vab_device.specs.declared.device.Part.{Part}
use Rattle.vab_device.specs.declared.device.PartImage.{PartImage}
use Rattle.vab_device.specs.declared.device.PartImage.TheVariants.{Kept, Declared, Written}
use Rattle.vab_device.specs.Checks.{Check, check, names_none}
use Rattle.vab_device.specs.Kept.{sectors_of, is_no_store}
use Rattle.vab_device.specs.Stores.{Wanted, wanted_of, or_fewer, first_named, Scanned}
use Rattle.vab_device.specs.Stores.{scanned_named}

-- No field sees more than it may depend on. The most are the most partitions that a slot may have.
pub record Phase : Type 0 where
  -- the slots whose tables are read, in this order
  pub tables : List ℕ
  -- the slots with images
  pub has_a : Bool
  pub has_b : Bool
  -- whether the images of that slot are read through stores
  pub through : ℕ → Bool
  -- the statuses of partitions are read
  pub reads_statuses : Bool
  -- the rules of the tables and of their partitions, and those of the slots
  pub part_checks : (most : ℕ) → List Table → List Check
  pub state_checks : Control → List Table → List Scanned → List Check
  -- the images that statuses name, in their order
  pub stores : List Table → List PartStatus → List (Result Wanted StartFault)
  -- the partitions that are planned
  pub plan : List Table → List Scanned → Option (List Part)
  -- the one that is overlaid
  pub overlay : List Table → List Scanned → Option Part

-- a slot may be booted as one that works
abbrev pub is_good : Info → Bool
is_good info = not (info.priority == 0) && info.successful

-- a slot's own partitions keep their rules
abbrev pub own_check : (most slot : ℕ) → Table → Check
own_check most slot t = names_none (bad_part most slot [] (own_parts slot (layout_of t).parts))

-- of the first table, where there is one
abbrev pub of_first_table : {A : Type 0} → A → (Table → A) → List Table → A
of_first_table none f [] = none
of_first_table none f (t ∷ ts) = f t

abbrev pub of_first : ℕ → (Table → List Check) → List Table → List Check
of_first slot f = of_first_table (check false (BadTable slot) ∷ []) f

-- the slot of the mark is current, and works
abbrev pub slot_checks : ℕ → Control → List Check
slot_checks slot c =
    check (c.current == slot) (BadState 1)
    ∷ check (is_good (info_at c slot)) (BadState 2)
    ∷ []

-- the slot of the mark alone has images
abbrev pub single : UpdateMark → Phase
single m = record {
  tables = m.slot ∷ [];
  has_a = m.slot == 0;
  has_b = m.slot == 1;
  through = λ slot. false;
  reads_statuses = false;
  part_checks = λ most. of_first m.slot (λ t. own_check most m.slot t ∷ []);
  state_checks = λ c ts scanned. slot_checks m.slot c;
  stores = λ ts statuses. [];
  plan = λ ts scanned. None;
  overlay = λ ts scanned. None;
}

-- ---- no update, and an overlay or none

-- the store over a partition, where a block of it stands twice, or in a partition of the slot
abbrev pub bad_overlay : (slot : ℕ) → List PartOfLayout → Option Overlaid → Option (List ℕ)
bad_overlay slot parts None = None
bad_overlay slot parts (Some o) = if is_apart slot parts o.store then None else Some o.store.name

-- exactly one partition is overlaid, and its store stands apart
abbrev pub overlay_checks : (overlaid : Bool) → (slot : ℕ) → Layout → List Check
overlay_checks false slot l = []
overlay_checks true slot l =
    check (is_some (overlaid_in slot l.parts)) (BadState 4)
    ∷ names_none (bad_overlay slot l.parts (overlaid_in slot l.parts))
    ∷ []

-- the image in that store: a list that no store passes, which ends clean
abbrev pub wanted_over : Layout → Option Overlaid → List (Result Wanted StartFault)
wanted_over l None = []
wanted_over l (Some o) =
    Ok (record {
      name = o.part.name;
      base = sectors_of l.device.first_logical_sector o.part.blocks;
      store = Some (sectors_of l.device.first_logical_sector o.store.blocks);
      chunk = One;
      count = length o.store.blocks;
      fewer = true;
      clean = true;
    })
    ∷ []

abbrev pub overlay_wanted : (overlaid : Bool)
    → (slot : ℕ)
    → Layout
    → List (Result Wanted StartFault)
overlay_wanted false slot l = []
overlay_wanted true slot l = wanted_over l (overlaid_in slot l.parts)

-- what is read of the store
abbrev pub image_over : Option Scanned → PartImage
image_over None = Kept
image_over (Some s) = Written s.chunk s.exceptions

-- the partition that is overlaid, with its store
abbrev pub overlaid_on : Layout → List Scanned → Overlaid → Part
overlaid_on l scanned o = record {
  name = base_of o.part.name;
  group = o.part.group;
  map = sectors_of l.device.first_logical_sector o.part.blocks;
  store = Some (sectors_of l.device.first_logical_sector o.store.blocks);
  image = image_over (scanned_named o.part.name scanned);
}

abbrev pub overlay_of : (overlaid : Bool) → (slot : ℕ) → Layout → List Scanned → Option Part
overlay_of false slot l scanned = None
overlay_of true slot l scanned = option_map (overlaid_on l scanned) (overlaid_in slot l.parts)

-- no update: one of the slot's partitions is overlaid, or none
abbrev pub idle : UpdateMark → Phase
idle m = record (single m) {
  part_checks = λ most.
      of_first m.slot
      (λ t. own_check most m.slot t ∷ overlay_checks m.overlaid m.slot (layout_of t));
  stores = λ ts statuses.
      of_first_table [] (λ t. overlay_wanted m.overlaid m.slot (layout_of t)) ts;
  overlay = λ ts scanned.
      of_first_table None (λ t. overlay_of m.overlaid m.slot (layout_of t) scanned) ts;
}

-- ---- an update is installed

-- of both tables, the source's and the target's
abbrev pub of_both : {A : Type 0} → A → (Table → Table → A) → List Table → A
of_both none f [] = none
of_both none f (s ∷ []) = none
of_both none f (s ∷ t ∷ ts) = f s t

-- the target has the source's block device, and its groups with the same limits
abbrev pub twin_check : ℕ → Table → Table → Check
twin_check target s t =
    check
    (are_devices s.devices t.devices && are_twins target s.groups t.groups)
    (BadTable target)

-- the target's partitions and stores keep their rules beside the source, whose partitions are twins
-- of the target's, where that doesn't stand apart
abbrev pub target_check : (apart : Bool) → (most target : ℕ) → Table → Table → Check
target_check apart most target s t =
    names_none
    (bad_beside most target
    (twins_by apart (layout_of s).parts)
    (layout_of s).parts
    (layout_of t).parts)

-- the first partition in the stores' group
abbrev pub first_store : List PartOfLayout → Option (List ℕ)
first_store [] = None
first_store (p ∷ ps) = if is_no_store p then first_store ps else Some p.name

-- where the target stands apart, none is
abbrev pub no_store_check : (apart : Bool) → Table → Check
no_store_check true t = names_none (first_store (layout_of t).parts)
no_store_check false t = names_none None

abbrev pub update_checks : (apart : Bool) → (most source : ℕ) → Table → Table → List Check
update_checks apart most source s t =
    twin_check (other_slot source) s t
    ∷ own_check most source s
    ∷ target_check apart most (other_slot source) s t
    ∷ no_store_check apart t
    ∷ []

-- what is known of a partition that is updated or not, and the exceptions of its store
abbrev pub planned_image : Bool → Option Scanned → PartImage
planned_image false s = Kept
planned_image true None = Declared
planned_image true (Some s) = Written s.chunk s.exceptions

-- where the store of a partition stands, where it has one
abbrev pub store_on : Layout → List ℕ → Option (List ℕ)
store_on l name =
    option_map (λ store. sectors_of l.device.first_logical_sector store.blocks)
    (first_named (store_of name) l.parts)

abbrev pub planned_on : Layout → List Scanned → PartOfLayout → Part
planned_on l scanned p = record {
  name = base_of p.name;
  group = p.group;
  map = sectors_of l.device.first_logical_sector p.blocks;
  store = store_on l p.name;
  image = planned_image (is_updated p) (scanned_named p.name scanned);
}

-- the partitions of an update's target
abbrev pub plan_of : ℕ → Layout → List Scanned → List Part
plan_of target l scanned = map (planned_on l scanned) (own_parts target l.parts)

-- An update is installed: the slot of the mark, its source, has images as without one, and the
-- partitions of the other slot, its target, are planned. Where it stands apart, images are written
-- in place.
abbrev pub installing : UpdateMark → Phase
installing m = record (single m) {
  tables = m.slot ∷ other_slot m.slot ∷ [];
  reads_statuses = true;
  part_checks = λ most.
      of_both
      (check false (BadTable m.slot) ∷ [])
      (λ s t. update_checks m.apart most m.slot s t);
  stores = λ ts statuses.
      of_both []
      (λ s t. map (wanted_of m.apart (other_slot m.slot) (layout_of t)) statuses) ts;
  plan = λ ts scanned.
      of_both None (λ s t. Some (plan_of (other_slot m.slot) (layout_of t) scanned)) ts;
}

-- ---- an update is ready

-- it needs nothing more to be written
abbrev pub is_ready : PartImage → Bool
is_ready Kept = true
is_ready Declared = false
is_ready (Written k es) = true

abbrev pub are_ready : List Part → Bool
are_ready parts = list_all (λ p. is_ready p.image) parts

-- the source works, and a target that was booted last has a priority
abbrev pub may_run : (source : ℕ) → Control → Bool
may_run source c =
    is_good (info_at c source)
    && (c.current == source || not ((info_at c (other_slot source)).priority == 0))

-- each partition of the target is kept or written
abbrev pub target_ready : (source : ℕ) → List Table → List Scanned → Bool
target_ready source ts scanned =
    of_both true (λ s t. are_ready (plan_of (other_slot source) (layout_of t) scanned)) ts

abbrev pub staged_checks : ℕ → Control → List Table → List Scanned → List Check
staged_checks source c ts scanned =
    check (may_run source c) (BadState 2)
    ∷ check (target_ready source ts scanned) (BadState 3)
    ∷ []

-- An update is ready: both slots have images, those of the target, the slot that isn't the mark's,
-- through their stores.
abbrev pub staged : UpdateMark → Phase
staged m = record (installing m) {
  has_a = true;
  has_b = true;
  through = λ slot. other_slot m.slot == slot;
  state_checks = staged_checks m.slot;
  plan = λ ts scanned. None;
}

-- ---- the stores of an update are merged

-- the slot's partitions and stores keep their rules, with no source beside them
abbrev pub merging_check : (most slot : ℕ) → Table → Check
merging_check most slot t = names_none (bad_merging_of most slot (layout_of t).parts)

-- each partition of the slot is kept or written
abbrev pub slot_ready : ℕ → List Table → List Scanned → Bool
slot_ready slot ts scanned =
    of_first_table true (λ t. are_ready (plan_of slot (layout_of t) scanned)) ts

abbrev pub merging_checks : ℕ → Control → List Table → List Scanned → List Check
merging_checks slot c ts scanned =
    check (c.current == slot) (BadState 1)
    ∷ check (is_good (info_at c slot)) (BadState 2)
    ∷ check (slot_ready slot ts scanned) (BadState 3)
    ∷ []

-- The slot of the mark, the target of the update, alone has images, and they are read through the
-- stores that are merged. A store may have fewer exceptions than its status says, and a partition
-- without one may be written in place.
abbrev pub merging : UpdateMark → Phase
merging m = record (single m) {
  through = λ slot. m.slot == slot;
  reads_statuses = true;
  part_checks = λ most. of_first m.slot (λ t. merging_check most m.slot t ∷ []);
  state_checks = merging_checks m.slot;
  stores = λ ts statuses.
      of_first_table []
      (λ t. map (λ (s : PartStatus). or_fewer (wanted_of true m.slot (layout_of t) s)) statuses)
      ts;
}

-- ---- the phases that there are

-- that of a mark with this phase and the mark's other fields
abbrev pub phase_in : MarkPhase → UpdateMark → Phase
phase_in marks.Idle m = idle m
phase_in marks.Installing m = installing m
phase_in marks.Staged m = staged m
phase_in marks.Merging m = merging m
phase_in marks.Completed m = single m

abbrev pub phase_at : UpdateMark → Phase
phase_at m = phase_in m.phase m

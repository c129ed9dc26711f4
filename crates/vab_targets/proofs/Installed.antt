-- What a disk says where an update is installed: its tables, and that its plan is the target's.
use Rattle.std.proofs.Common.{◌≡◌, ◌∙◌, inl, inr, ℕ, zero, suc, ◌+◌, ◌<◌, Bool, true, false}
use Rattle.std.proofs.Common.{◌&&◌, List, [], ◌∷◌, Ok, refl, sym, ap, subst, arith}
use Rattle.std.specs.Prelude.{Option, Some, None, map, option_map, Contains}
use Rattle.std.specs.Str.{bytes_eq}
use Rattle.std.proofs.lemmas.Bool.{cases_Bool, and_parts, leb-true}
use Rattle.vab_disk.specs.Disk.{Image}
use Rattle.vab_bootctl.specs.declared.slots.Control.{Control}
use Rattle.vab_marks.specs.declared.mark.MarkPhase.{MarkPhase}
use Rattle.vab_marks.specs.declared.mark.MarkPhase.TheVariants as marks
use Rattle.vab_marks.specs.declared.status.PartStatus.{PartStatus}
use Rattle.vab_statuses.specs.Statuses.{written_in}
use Rattle.vab_tables.specs.declared.table.Table.{Table}
use Rattle.vab_tables.specs.Rules.{KeepsRules}
use Rattle.vab_geometry.specs.declared.geometry.Geometry.{Geometry}
use Rattle.vab_physical.specs.declared.tail.Tail.{Tail}
use Rattle.vab_targets.proofs.EndLaws.{EndsOn, tail_ends, whole_front}
use Rattle.vab_names.specs.Names.{is_of_slot, base_of, store_of, most_partitions}
use Rattle.vab_names.proofs.NameCases.{same_name}
use Rattle.vab_layout.specs.declared.layout.Part.{Part as PartOfLayout}
use Rattle.vab_layout.specs.declared.layout.Layout.{Layout}
use Rattle.vab_layout.specs.Layout.{layout_of, first_device}
use Rattle.vab_layout.specs.Plain.{plain}
use Rattle.vab_layout.specs.Slots.{other_slot, own_parts, twins_by, is_updated, IsOwn}
use Rattle.vab_layout.specs.Slots.{groups_of_slot}
use Rattle.vab_layout.proofs.LayoutLaws.{layout_keeps}
use Rattle.vab_partitions.specs.Twins.{are_twins, are_devices}
use Rattle.vab_partitions.proofs.OwnRules.{own_kept}
use Rattle.vab_partitions.proofs.BadTarget.{no_bad_target}
use Rattle.vab_partitions.proofs.TwinLaws.{twins_are, devices_are}
use Rattle.vab_blocks.proofs.Contained.{first, later, of_filter}
use Rattle.vab_builder.specs.Sizes.{has_part}
use Rattle.vab_builder.specs.Update.{IsUpdateBeside}
use Rattle.vab_builder.proofs.SlotLaws.{other_slot_again, other_slot_below}
use Rattle.vab_builder.proofs.TwinLaws.{twins_are as twins_known}
use Rattle.vab_model.specs.declared.state.PlanEntry.{PlanEntry}
use Rattle.vab_model.specs.declared.state.Plan.{Plan}
use Rattle.vab_model.specs.declared.state.Phase.TheVariants.{Idle, Installing, Staged, Merging}
use Rattle.vab_model.specs.Plans.{entry_named}
use Rattle.vab_device.specs.declared.fault.StartFault.TheVariants.{BadTable}
use Rattle.vab_device.specs.Checks.{Check, names_none}
use Rattle.vab_device.specs.Kept.{group_of, limits_of}
use Rattle.vab_device.specs.Mounted.{Mounted, mounted_on, state_on, entry_on, entries_on, phase_by}
use Rattle.vab_device.specs.Mounted.{count_at}
use Rattle.vab_device.specs.Mounted.{planned_on as image_planned}
use Rattle.vab_device.specs.Phases.{phase_in, planned_image, planned_on, plan_of, twin_check}
use Rattle.vab_device.specs.Phases.{own_check, target_check, no_store_check}
use Rattle.vab_device.specs.Reading.{Read, kept, IsIn, Reads}
use Rattle.vab_device.specs.Stores.{Scanned, first_named, wanted_of, scans_in, scanned_named}
use Rattle.vab_device.specs.Updates.{image_or, if_written, written_of, entry_by, plan_by}
use Rattle.vab_device.specs.Updates.{layout_at}
use Rattle.vab_device.proofs.CheckLaws.{first_kept, check_kept}
use Rattle.vab_device.proofs.MostLaws.{parts_all}
use Rattle.vab_device.proofs.NamedParts.{first_is}
use Rattle.vab_device.proofs.OwnParts.{length-sectors_of}
use Rattle.vab_device.proofs.MarkLaws.{as_phase}
use Rattle.vab_device.proofs.ReadingLaws.{device_was, slot_below, flags_known}
use Rattle.vab_edit.proofs.InstallingLaws.{read_at, two_tables}
use Rattle.vab_edit.proofs.NamedLaws.{base_eq, first_own}
use Rattle.vab_edit.proofs.PlanLaws.{map_among, map_map}
use Rattle.vab_marks.specs.declared.mark.UpdateMark.{UpdateMark}
use Rattle.vab_marks.specs.Mark.{rephased}
use Rattle.vab_targets.specs.Sectors.{HasWholeSectors}
use Rattle.vab_targets.proofs.Entries.{store_length}
use Rattle.vab_targets.proofs.Named.{first_entry}
use Rattle.vab_targets.proofs.Scans.{storeless_unread}
use Rattle.vab_targets.proofs.Sectors.{table_rules}

-- ---- the phase

installing_by : (p : MarkPhase) (m : UpdateMark) (left source : ℕ) (plan : Plan)
    (ts : List Table) (ss : List Scanned) (image : Image)
    → phase_by (record m { phase = p }) left
    (entries_on image ((phase_in p m).plan ts ss))
    ≡ Installing source plan
    → p ≡ marks.Installing
installing_by marks.Idle m left source plan ts ss image is =
    absurd (let bad : Idle ≡ Installing source plan = is in cc)
installing_by marks.Installing m left source plan ts ss image is = refl
installing_by marks.Staged m left source plan ts ss image is =
    absurd (let bad : Staged m.slot left ≡ Installing source plan = is in cc)
installing_by marks.Merging m left source plan ts ss image is =
    absurd (let bad : Merging m.slot left ≡ Installing source plan = is in cc)
installing_by marks.Completed m left source plan ts ss image is =
    absurd (let bad : Idle ≡ Installing source plan = is in cc)

pub installing_of : (r : Read) (image : Image) (source : ℕ) (plan : Plan)
    → (mounted_on (kept r) image).state.phase ≡ Installing source plan
    → r.mark.phase ≡ marks.Installing
unfolding state_on
installing_of r image source plan is =
    installing_by r.mark.phase r.mark (count_at (kept r).a + count_at (kept r).b) source plan
    r.tables r.scanned image is

-- ---- what is read

-- a disk that is read so, and what it means
pub record IsReadAs (size : ℕ) (image : Image) (m : Mounted) (r : Read) : Type 0 where
  pub reads : Reads size r image
  pub is : m ≡ mounted_on (kept r) image

-- with its tables
record HasRead (size : ℕ) (image : Image) (m : Mounted) : Type 0 where
  base : UpdateMark
  slot : ℕ
  statuses : List (Option PartStatus)
  seen : Control
  tail : Tail
  g : Geometry
  s : Table
  t : Table
  scanned : List Scanned
  read : IsReadAs size image m (read_at base slot statuses seen tail g s t scanned)

has_read : (size : ℕ) (image : Image) (m : Mounted) (source : ℕ) (plan : Plan)
    → IsIn size m image
    → m.state.phase ≡ Installing source plan
    → HasRead size image m
has_read size image m source plan is phase =
    let was = device_was size image m is in
    let r : Read = was.read in
    let installing : r.mark.phase ≡ marks.Installing =
    installing_of r image source plan
    (sym (ap (λ (x : Mounted). x.state.phase) was.is) ∙ phase) in
    let is_marked = as_phase r.mark marks.Installing (flags_known image r.mark was.reads.mark) refl
    installing in
    let marked : r ≡ record r { mark = rephased marks.Installing r.mark } =
    (λ i. record r { mark = is_marked i }) in
    let now = subst (IsReadAs size image m) marked (record { reads = was.reads; is = was.is }) in
    let two = two_tables r.tail.super_end r.geometry r.mark.slot (other_slot r.mark.slot) image
    r.tables
    now.reads.tables in
    let form : record r { mark = rephased marks.Installing r.mark }
    ≡ read_at r.mark r.mark.slot r.statuses r.control r.tail r.geometry two.source
    two.target r.scanned =
    (λ i. record {
      mark = rephased marks.Installing r.mark;
      statuses = r.statuses;
      control = r.control;
      tail = r.tail;
      geometry = r.geometry;
      tables = two.are i;
      scanned = r.scanned;
    }) in
    record {
      base = r.mark;
      slot = r.mark.slot;
      statuses = r.statuses;
      seen = r.control;
      tail = r.tail;
      g = r.geometry;
      s = two.source;
      t = two.target;
      scanned = r.scanned;
      read = subst (IsReadAs size image m) form now;
    }

-- ---- what it means

-- An update from this source has this plan: the layouts of the source's table and of the target's,
-- which are an update's, and the plan is that of the target's. Where the target doesn't stand
-- apart, nothing is written to a partition that has no store.
pub record IsInstalled (m : Mounted) (source : ℕ) (plan : Plan) : Type 0 where
  pub s : Layout
  pub t : Layout
  pub below : source < 2
  pub from : layout_at m.places source ≡ Some (plain source s)
  pub to : layout_at m.places (other_slot source) ≡ Some t
  pub update : IsUpdateBeside (other_slot source) (twins_by plan.apart s.parts) s t
  pub groups : groups_of_slot source s.groups ≡ groups_of_slot (other_slot source) t.groups
  pub limits : m.state.groups ≡ limits_of source s.groups
  pub bare : m.state.physical ≡ []
  pub again : plan.entries ≡ plan_by (other_slot source) t plan.entries
  pub unwritten : plan.apart ≡ false
      → (name : List ℕ)
      → is_of_slot (other_slot source) name ≡ true
      → has_part (store_of name) t.parts ≡ false
      → written_of (entry_named (base_of name) plan.entries) ≡ None

pub none_named : (o : Option (List ℕ)) → names_none o ≡ None → o ≡ None
none_named None is = refl
none_named (Some name) is = absurd cc

-- no device has physical partitions yet
bare_said : (r : Read) (image : Image) → (mounted_on (kept r) image).state.physical ≡ []
unfolding state_on
bare_said r image = refl

module _
    (size : ℕ) (image : Image) (base : UpdateMark) (slot : ℕ)
    (statuses : List (Option PartStatus)) (seen : Control) (tail : Tail) (g : Geometry)
    (s t : Table) (ss : List Scanned)
    (whole : HasWholeSectors size image)
    (reads : Reads size (read_at base slot statuses seen tail g s t ss) image) where
  abbrev r : Read
  r = read_at base slot statuses seen tail g s t ss

  abbrev o : ℕ
  o = other_slot slot

  abbrev m : Mounted
  m = mounted_on (kept r) image

  abbrev apart : Bool
  apart = base.apart

  abbrev twins : List PartOfLayout
  twins = twins_by apart (layout_of s).parts

  abbrev entries : List PlanEntry
  entries = map (entry_on image) (plan_of o (layout_of t) ss)

  abbrev plan : Plan
  plan = record { apart = apart; entries = entries }

  below : slot < 2
  below = slot_below image r.mark reads.mark

  ends : EndsOn size tail
  ends =
      tail_ends base.physical size image tail (leb-true 4120 size reads.enough) reads.tail

  inside : HasWholeSectors tail.super_end image
  inside = whole_front tail.super_end size image ends.1 whole

  -- ---- the tables' places

  from_at : (k : ℕ)
      → k < 2
      → layout_at (mounted_on (kept (read_at base k statuses seen tail g s t ss)) image).places k
      ≡ Some (plain k (layout_of s))
  from_at zero lt = refl
  from_at (suc zero) lt = refl
  from_at (suc (suc n)) lt = absurd (omega (arith, lt))

  to_at : (k : ℕ)
      → k < 2
      → layout_at (mounted_on (kept (read_at base k statuses seen tail g s t ss)) image).places
      (other_slot k)
      ≡ Some (layout_of t)
  to_at zero lt = refl
  to_at (suc zero) lt = refl
  to_at (suc (suc n)) lt = absurd (omega (arith, lt))

  limits_are : (mounted_on (kept r) image).state.groups ≡ limits_of slot (layout_of s).groups
  unfolding state_on layout_of
  limits_are = refl

  pub phase_read : (mounted_on (kept r) image).state.phase ≡ Installing slot plan
  unfolding state_on
  phase_read = refl

  -- ---- the rules

  rules : (twin_check o s t ≡ None)
      × (own_check most_partitions slot s ≡ None)
      × (target_check apart most_partitions o s t ≡ None)
  rules =
      let own : Check = own_check most_partitions slot s in
      let target : Check = target_check apart most_partitions o s t in
      let stores : List Check = no_store_check apart t ∷ [] in
      let one = first_kept (twin_check o s t) (own ∷ target ∷ stores)
      (parts_all r image reads.parts) in
      let two = first_kept own (target ∷ stores) one.1 in
      let three = first_kept target stores two.1 in
      (one.0, two.0, three.0)

  are : (are_devices s.devices t.devices ≡ true) × (are_twins o s.groups t.groups ≡ true)
  are =
      and_parts (are_devices s.devices t.devices) (are_twins o s.groups t.groups)
      (check_kept (are_devices s.devices t.devices && are_twins o s.groups t.groups) (BadTable o)
      rules.0)

  groups_are : groups_of_slot slot (layout_of s).groups ≡ groups_of_slot o (layout_of t).groups
  unfolding layout_of
  groups_are =
      ap (λ (n : ℕ). groups_of_slot n s.groups) (sym (other_slot_again slot below))
      ∙ (twins_are o s.groups t.groups).0 are.1

  device_is : (layout_of s).device ≡ (layout_of t).device
  unfolding layout_of
  device_is = ap first_device ((devices_are s.devices t.devices).0 are.0)

  own : IsOwn slot (layout_of s).parts
  own = own_kept most_partitions slot (layout_of s).parts (omega arith) (none_named _ rules.1)

  update : IsUpdateBeside (other_slot slot) twins (layout_of s) (layout_of t)
  update =
      let two = two_tables tail.super_end g slot o image (s ∷ t ∷ []) reads.tables in
      let tables : two.source ∷ two.target ∷ [] ≡ s ∷ t ∷ [] = sym two.are in
      let source_is : two.source ≡ s = cc in
      let target_is : two.target ≡ t = cc in
      let source = table_rules tail.super_end image g slot two.source inside ends.0 below
      reads.geometry two.source_read in
      let target = table_rules tail.super_end image g o two.target inside ends.0
      (other_slot_below slot)
      reads.geometry two.target_read in
      record {
        low = other_slot_below slot;
        source_rules = layout_keeps s (subst KeepsRules source_is source.rules);
        target_rules = layout_keeps t (subst KeepsRules target_is target.rules);
        own =
            subst (λ (n : ℕ). IsOwn n (layout_of s).parts)
            (sym (other_slot_again slot below)) own;
        parts =
            (no_bad_target most_partitions o twins (layout_of s).parts (layout_of t).parts
            (omega arith)
            (none_named _ rules.2)).is;
        twins_are = twins_known apart (layout_of s).parts;
        device = device_is;
      }

  -- ---- the plan

  -- what is said of a partition's image is what the plan has of it
  image_again : (p : PartOfLayout) (b : Bool) (x : Option Scanned)
      → image_planned image (planned_on (layout_of t) ss p) (planned_image b x)
      ≡ image_or b
      (if_written (image_planned image (planned_on (layout_of t) ss p) (planned_image b x)))
  image_again p false x = refl
  image_again p true None = refl
  image_again p true (Some r) = refl

  own_each : (q : PartOfLayout)
      → Contains (own_parts o (layout_of t).parts) q
      → is_of_slot o q.name ≡ true
  own_each q c =
      (of_filter (λ (x : PartOfLayout). is_of_slot o x.name) (layout_of t).parts q c).1

  own_of : (q : PartOfLayout)
      → Contains (own_parts o (layout_of t).parts) q
      → Contains (layout_of t).parts q
  own_of q c =
      (of_filter (λ (x : PartOfLayout). is_of_slot o x.name) (layout_of t).parts q c).0

  -- the entry of a partition's name is its own
  entry_found : (p : PartOfLayout)
      → Contains (own_parts o (layout_of t).parts) p
      → entry_named (base_of p.name) entries
      ≡ Some (entry_on image (planned_on (layout_of t) ss p))
  entry_found p c =
      let entry : PartOfLayout → PlanEntry =
      λ q. entry_on image (planned_on (layout_of t) ss q) in
      let own : List PartOfLayout = own_parts o (layout_of t).parts in
      ap (entry_named (base_of p.name)) (map_map (planned_on (layout_of t) ss) (entry_on image) own)
      ∙ first_entry o entry p.name own (λ q. refl) (own_each p c) own_each
      ∙ ap (option_map entry)
      (first_own o p.name (layout_of t).parts (own_each p c)
      ∙ first_is (layout_of t).parts p update.target_rules.part_names (own_of p c))

  entry_again : (p : PartOfLayout)
      → Contains (own_parts o (layout_of t).parts) p
      → entry_on image (planned_on (layout_of t) ss p) ≡ entry_by (layout_of t) entries p
  entry_again p c =
      let at : ℕ = (layout_of t).device.first_logical_sector in
      let found = entry_found p c in
      let seen = image_again p (is_updated p) (scanned_named p.name ss)
      ∙ ap (λ (e : Option PlanEntry). image_or (is_updated p) (written_of e)) (sym found) in
      let blocks = length-sectors_of at p.blocks in
      let store = store_length at (first_named (store_of p.name) (layout_of t).parts) in
      (λ i. record {
        name = base_of p.name;
        group = group_of p.group;
        blocks = blocks i;
        store = store i;
        image = seen i;
      })

  plan_again : entries ≡ plan_by o (layout_of t) entries
  plan_again =
      let own : List PartOfLayout = own_parts o (layout_of t).parts in
      map_map (planned_on (layout_of t) ss) (entry_on image) own
      ∙ map_among (λ p. entry_on image (planned_on (layout_of t) ss p))
      (entry_by (layout_of t) entries) own entry_again

  -- ---- what is written where the target doesn't stand apart

  none_planned : (p : PartOfLayout) (b : Bool)
      → if_written (image_planned image (planned_on (layout_of t) ss p) (planned_image b None))
      ≡ None
  none_planned p false = refl
  none_planned p true = refl

  none_in : (name : List ℕ) (ps : List PartOfLayout)
      → is_of_slot o name ≡ true
      → ((p : PartOfLayout) → Contains ps p → is_of_slot o p.name ≡ true)
      → scanned_named name ss ≡ None
      → written_of
      (entry_named (base_of name) (map (entry_on image) (map (planned_on (layout_of t) ss) ps)))
      ≡ None
  none_in name [] of each none = refl
  none_in name (p ∷ ps) of each none =
      let same = base_eq o p.name name (each p (first p ps)) of in
      elim (cases_Bool (bytes_eq p.name name)) [
        | inl here ↦
            let read : scanned_named p.name ss ≡ None =
            ap (λ (n : List ℕ). scanned_named n ss) (same_name p.name name here) ∙ none in
            let found : if_written (image_planned image (planned_on (layout_of t) ss p)
            (planned_image (is_updated p) (scanned_named p.name ss))) ≡ None =
            ap (λ (x : Option Scanned).
            if_written (image_planned image (planned_on (layout_of t) ss p)
            (planned_image (is_updated p) x))) read
            ∙ none_planned p (is_updated p) in
            rw (same, here) found
        | inr other ↦
            rw (same, other) (none_in name ps of (λ q c. each q (later p ps q c)) none)
      ]

  none_written : apart ≡ false
      → (name : List ℕ)
      → is_of_slot o name ≡ true
      → has_part (store_of name) (layout_of t).parts ≡ false
      → written_of (entry_named (base_of name) entries) ≡ None
  none_written beside name of plain =
      let scans : scans_in (map (wanted_of false o (layout_of t)) (written_in statuses)) image
      ≡ Ok ss =
      subst
      (λ (b : Bool). scans_in (map (wanted_of b o (layout_of t)) (written_in statuses)) image
      ≡ Ok ss)
      beside reads.stores in
      none_in name (own_parts o (layout_of t).parts) of own_each
      (storeless_unread o (layout_of t) name (written_in statuses) image ss scans plain)

  pub installed : IsInstalled (mounted_on (kept r) image) slot plan
  installed = record {
    s = layout_of s;
    t = layout_of t;
    below = below;
    from = from_at slot below;
    to = to_at slot below;
    update = update;
    groups = groups_are;
    limits = limits_are;
    bare = bare_said r image;
    again = plan_again;
    unwritten = none_written;
  }

-- ---- a disk that is a device

same_update : (a b : ℕ) (x y : Plan)
    → Installing a x ≡ Installing b y
    → (a ≡ b) × (x ≡ y)
same_update a b x y is = (cc, cc)

pub is_installed : (size : ℕ) (image : Image) (m : Mounted) (source : ℕ) (plan : Plan)
    → HasWholeSectors size image
    → IsIn size m image
    → m.state.phase ≡ Installing source plan
    → IsInstalled m source plan
is_installed size image m source plan whole is phase =
    let h = has_read size image m source plan is phase in
    let next : Plan = record {
      apart = h.base.apart;
      entries = map (entry_on image) (plan_of (other_slot h.slot) (layout_of h.t) h.scanned);
    } in
    let there = installed size image h.base h.slot h.statuses h.seen h.tail h.g h.s h.t h.scanned
    whole
    h.read.reads in
    let read = phase_read size image h.base h.slot h.statuses h.seen h.tail h.g h.s h.t h.scanned
    whole
    h.read.reads in
    let same = same_update h.slot source next plan
    (sym read ∙ sym (ap (λ (x : Mounted). x.state.phase) h.read.is) ∙ phase) in
    subst (λ (x : Mounted). IsInstalled x source plan) (sym h.read.is)
    (subst (λ (x : Plan). IsInstalled (mounted_on (kept
    (read_at h.base h.slot h.statuses h.seen h.tail h.g h.s h.t h.scanned)) image) source x) same.1
    (subst (λ (n : ℕ). IsInstalled (mounted_on (kept
    (read_at h.base h.slot h.statuses h.seen h.tail h.g h.s h.t h.scanned)) image) n next) same.0
    there))

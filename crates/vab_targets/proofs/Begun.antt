-- A begin that is done: the source's images are kept.
use Rattle.std.proofs.Common.{◌≡◌, ◌∙◌, inl, inr, ℕ, zero, suc, ◌/◌, ◌<◌, Bool}
use Rattle.std.proofs.Common.{true, false, not, eqb, List, [], ◌∷◌, ◌++◌, length, Ok, refl, sym}
use Rattle.std.proofs.Common.{ap, subst, arith}
use Rattle.std.specs.Prelude.{Option, Some, None, Contains, map, bit_and}
use Rattle.std.specs.List.{filter}
use Rattle.std.specs.Str.{bytes_eq}
use Rattle.std.proofs.lemmas.Bool.{cases_Bool, leb-true, eqb-true}
use Rattle.std.proofs.lemmas.List.{append-nil}
use Rattle.std.proofs.lemmas.Nat.{and_assoc, and_le_r}
use Rattle.std.proofs.lemmas.List.Elements.{All-contains, filter-append, filter_passes}
use Rattle.std.proofs.lemmas.List.Elements.{Contains-append_cases}
use Rattle.vab_disk.specs.Disk.{Image}
use Rattle.vab_bootctl.specs.declared.slots.Control.{Control}
use Rattle.vab_bootctl.specs.Boot.{info_at}
use Rattle.vab_marks.specs.declared.mark.MarkPhase.TheVariants as marks
use Rattle.vab_marks.specs.declared.status.PartStatus.{PartStatus}
use Rattle.vab_tables.specs.declared.table.Table.{Table}
use Rattle.vab_geometry.specs.declared.geometry.Geometry.{Geometry}
use Rattle.vab_physical.specs.declared.tail.Tail.{Tail}
use Rattle.vab_targets.proofs.EndLaws.{EndsOn, tail_ends, whole_front}
use Rattle.vab_names.specs.Names.{is_of_slot, in_slot, store_of, default_name, most_partitions}
use Rattle.vab_names.proofs.NameCases.{ne_name, default_not_own}
use Rattle.vab_layout.specs.declared.layout.Part.{Part}
use Rattle.vab_layout.specs.declared.layout.Layout.{Layout}
use Rattle.vab_layout.specs.Layout.{layout_of}
use Rattle.vab_layout.specs.Plain.{plain}
use Rattle.vab_layout.specs.Slots.{other_slot, own_parts, twins_by, IsOwn}
use Rattle.vab_layout.proofs.LayoutLaws.{layout_keeps}
use Rattle.vab_partitions.proofs.OwnRules.{own_kept}
use Rattle.vab_blocks.proofs.Contained.{all_from, in_map, of_map, none_in_nil}
use Rattle.vab_builder.specs.Edits.{fitting}
use Rattle.vab_builder.specs.Import.{parts_by, imported_by, twin_part, twin_group_name}
use Rattle.vab_builder.specs.Sizes.{has_part}
use Rattle.vab_builder.proofs.ListLaws.{filter_all, filter_none}
use Rattle.vab_builder.proofs.PartLaws.{part_there}
use Rattle.vab_builder.proofs.SlotLaws.{of_other_slot, in_slot_of_slot, base_of-in_slot}
use Rattle.vab_builder.proofs.SlotLaws.{of_slot_not}
use Rattle.vab_model.specs.declared.state.Image.{Image as ImageOfSlot}
use Rattle.vab_model.specs.declared.state.PlanEntry.{PlanEntry}
use Rattle.vab_model.specs.declared.state.Plan.{Plan}
use Rattle.vab_model.specs.declared.state.Phase.{Phase}
use Rattle.vab_model.specs.declared.state.Phase.TheVariants.{Idle, Installing, Staged, Merging}
use Rattle.vab_model.specs.declared.state.Overlay.{Overlay}
use Rattle.vab_model.specs.declared.command.Refusal.TheVariants as refusals
use Rattle.vab_model.specs.declared.command.Reply.TheVariants as replies
use Rattle.vab_model.specs.Effects.{Effect, after_of, if_plain}
use Rattle.vab_model.specs.State.{images_at}
use Rattle.vab_model.specs.Plans.{twins_of, kept_entry, begun_plan}
use Rattle.vab_device.specs.declared.fault.StartFault.TheVariants.{BadState}
use Rattle.vab_device.specs.Checks.{Check, check}
use Rattle.vab_device.specs.Kept.{group_of, sectors_of, part_on, parts_of, IsPart, AreParts}
use Rattle.vab_device.specs.Mounted.{Mounted, mounted_on, state_on, image_on, bytes_at, phase_on}
use Rattle.vab_device.specs.Mounted.{overlay_on}
use Rattle.vab_device.specs.Phases.{is_good, own_check}
use Rattle.vab_device.specs.Reading.{Read, kept, IsIn, Reads, table_at}
use Rattle.vab_device.specs.Stores.{Scanned}
use Rattle.vab_device.specs.Updates.{effect_on, begin_effect, begun_effect, table_effect, layout_at}
use Rattle.vab_device.specs.Updates.{image_or, entry_by, plan_by, replanned, no_entries}
use Rattle.vab_device.proofs.CheckLaws.{first_kept, check_kept}
use Rattle.vab_device.proofs.MostLaws.{parts_all}
use Rattle.vab_device.proofs.OwnParts.{parts_kept, length-sectors_of}
use Rattle.vab_device.proofs.ReadingLaws.{device_was, slot_below}
use Rattle.vab_device.proofs.StayLaws.{one_of}
use Rattle.vab_edit.proofs.PlanLaws.{map_among, map_map}
use Rattle.vab_marks.specs.declared.mark.UpdateMark.{UpdateMark}
use Rattle.vab_marks.specs.Mark.{rephased, resloted}
use Rattle.vab_targets.specs.Sectors.{HasWholeSectors}
use Rattle.vab_targets.proofs.Plans.{with_plan, begin_of, BeginKeepsImages}
use Rattle.vab_targets.proofs.PlainIdle.{plain_idle}
use Rattle.vab_targets.proofs.Sectors.{blocks_long, table_rules, IsRead}
use Rattle.vab_targets.proofs.Entries.{size_absent, own_is, no_store}
use Rattle.vab_targets.proofs.Installed.{IsReadAs, none_named}
use Rattle.vab_targets.proofs.Updates.{refused_not, table_done, fitting_is}

-- ---- twins

-- a twin isn't updated
twin_kept : (a : ℕ) → not (eqb (bit_and (bit_and a 9) 4) 0) ≡ false
twin_kept a =
    let none : bit_and (bit_and a 9) 4 ≡ 0 =
    omega (arith, and_assoc 4 a 9, and_le_r a (bit_and 9 4)) in
    rw none refl

twin_group : (slot : ℕ) (name : List ℕ) → group_of (twin_group_name slot name) ≡ group_of name
twin_group slot name = elim (cases_Bool (bytes_eq name default_name)) [
  | inl is ↦ rw is (rw is refl)
  | inr other ↦
      let mine : bytes_eq (in_slot slot name) default_name ≡ false =
      ne_name (in_slot slot name) default_name
      (of_slot_not slot (in_slot slot name) default_name (in_slot_of_slot slot name)
      (default_not_own slot)) in
      rw (other, mine) (ap (λ (n : List ℕ). Some n) (base_of-in_slot slot name))
]

-- ---- what is imported of a source

module _ (apart : Bool) (slot : ℕ) (l : Layout) (below : slot < 2) where
  abbrev o : ℕ
  o = other_slot slot

  abbrev own : List Part
  own = own_parts slot l.parts

  -- the partitions of the source that have twins
  abbrev twinned : List Part
  twinned = twins_by apart own

  parts_by_twins : (b : Bool) (ps : List Part)
      → own_parts slot ps ≡ ps
      → parts_by b slot ps ≡ ps ++ map (twin_part o) (twins_by b ps)
  parts_by_twins true ps same = same ∙ sym (append-nil ps)
  parts_by_twins false ps same = ap (λ (qs : List Part). qs ++ map (twin_part o) qs) same

  parts_are : (imported_by apart slot (plain slot l)).parts ≡ own ++ map (twin_part o) twinned
  unfolding imported_by plain
  parts_are =
      parts_by_twins apart own
      (filter_all (λ (p : Part). is_of_slot slot p.name) own
      (filter_passes (λ (p : Part). is_of_slot slot p.name) l.parts))

  twins_own : (q : Part)
      → Contains (map (twin_part o) twinned) q
      → is_of_slot o q.name ≡ true
  twins_own q c =
      let r = of_map (twin_part o) twinned q c in
      subst (λ (x : Part). is_of_slot o x.name ≡ true) r.2 (in_slot_of_slot o r.0.name)

  -- the target's partitions are the twins
  pub twins_are : own_parts o (imported_by apart slot (plain slot l)).parts
      ≡ map (twin_part o) twinned
  twins_are =
      let test : Part → Bool = λ p. is_of_slot o p.name in
      let none : filter test own ≡ [] =
      filter_none test own
      (all_from (λ (p : Part). is_of_slot o p.name ≡ false) own
      (λ p c. of_other_slot slot p.name below (own_is slot l.parts p c))) in
      let all : filter test (map (twin_part o) twinned) ≡ map (twin_part o) twinned =
      filter_all test (map (twin_part o) twinned)
      (all_from (λ (p : Part). is_of_slot o p.name ≡ true) (map (twin_part o) twinned) twins_own) in
      ap (own_parts o) parts_are
      ∙ filter-append test own (map (twin_part o) twinned)
      ∙ (λ i. none i ++ all i)

  -- and none has a store
  no_stores : (name : List ℕ)
      → has_part (store_of name) (imported_by apart slot (plain slot l)).parts ≡ false
  no_stores name =
      ap (has_part (store_of name)) parts_are
      ∙ elim (cases_Bool (has_part (store_of name) (own ++ map (twin_part o) twinned))) [
        | inl there ↦
            let q = part_there (store_of name) (own ++ map (twin_part o) twinned) there in
            elim (Contains-append_cases own (map (twin_part o) twinned) q.0 q.1) [
              | inl mine ↦
                  absurd (no_store slot q.0.name name (own_is slot l.parts q.0 mine) (sym q.2))
              | inr twin ↦ absurd (no_store o q.0.name name (twins_own q.0 twin) (sym q.2))
            ]
        | inr none ↦ none
      ]

-- ---- the plan that it gives

-- partitions that have twins are the source's
twin_own : (apart : Bool) (ps : List Part) (p : Part)
    → Contains (twins_by apart ps) p
    → Contains ps p
twin_own true ps p c = absurd (none_in_nil p c)
twin_own false ps p c = c

twins_drawn : (apart : Bool) (f : Part → ImageOfSlot) (ps : List Part)
    → map f (twins_by apart ps) ≡ twins_of apart (map f ps)
twins_drawn true f ps = refl
twins_drawn false f ps = refl

module _
    (apart : Bool) (size : ℕ) (image : Image) (slot : ℕ) (l : Layout)
    (below : slot < 2)
    (whole : HasWholeSectors size image)
    (parts : AreParts size (parts_of slot l)) where
  entry_kept : (p : Part)
      → Contains (own_parts slot l.parts) p
      → entry_by (imported_by apart slot (plain slot l)) [] (twin_part (other_slot slot) p)
      ≡ kept_entry (image_on image (part_on l.device.first_logical_sector p))
  entry_kept p c =
      let at : ℕ = l.device.first_logical_sector in
      let o : ℕ = other_slot slot in
      let new : Layout = imported_by apart slot (plain slot l) in
      let on = (All-contains (IsPart size) (parts_of slot l) (part_on at p) parts.each
      (in_map (part_on at) (own_parts slot l.parts) p c)).on_disk in
      let long = blocks_long size image (sectors_of at p.blocks) whole on in
      let blocks : length p.blocks ≡ length (bytes_at image (sectors_of at p.blocks)) / 4096 =
      omega (arith, long, length-sectors_of at p.blocks) in
      let name = base_of-in_slot o p.name in
      let group = twin_group o p.group in
      let store = size_absent (store_of (in_slot o p.name)) new.parts
      (no_stores apart slot l below (in_slot o p.name)) in
      let kept = twin_kept p.attributes in
      (λ i. record {
        name = name i;
        group = group i;
        blocks = blocks i;
        store = store i;
        image = image_or (kept i) None;
      })

  entries_begun : plan_by (other_slot slot) (imported_by apart slot (plain slot l)) []
      ≡ map kept_entry (twins_of apart (map (image_on image) (parts_of slot l)))
  entries_begun =
      let at : ℕ = l.device.first_logical_sector in
      let own : List Part = own_parts slot l.parts in
      let twinned : List Part = twins_by apart own in
      let twin : Part → Part = twin_part (other_slot slot) in
      let entry : Part → PlanEntry = entry_by (imported_by apart slot (plain slot l)) [] in
      let drawn : Part → ImageOfSlot = λ p. image_on image (part_on at p) in
      ap (map entry) (twins_are apart slot l below)
      ∙ map_map twin entry twinned
      ∙ map_among (λ p. entry (twin p)) (λ p. kept_entry (drawn p)) twinned
      (λ p c. entry_kept p (twin_own apart own p c))
      ∙ sym (map_map drawn kept_entry twinned)
      ∙ ap (map kept_entry)
      (twins_drawn apart drawn own
      ∙ ap (twins_of apart) (sym (map_map (part_on at) (image_on image) own)))

  pub plan_begun : replanned slot (no_entries apart) (imported_by apart slot (plain slot l))
      ≡ begun_plan apart (map (image_on image) (parts_of slot l))
  plan_begun = ap (λ (es : List PlanEntry). record { apart = apart; entries = es }) entries_begun

-- ---- what is read without an update

abbrev idle_at : UpdateMark
    → ℕ
    → List (Option PartStatus)
    → Control
    → Tail
    → Geometry
    → Table
    → List Scanned
    → Read
idle_at base slot statuses c tail g t scanned = record {
  mark = rephased marks.Idle (resloted slot base);
  statuses = statuses;
  control = c;
  tail = tail;
  geometry = g;
  tables = t ∷ [];
  scanned = scanned;
}

record HasIdle (size : ℕ) (image : Image) (m : Mounted) : Type 0 where
  base : UpdateMark
  slot : ℕ
  statuses : List (Option PartStatus)
  c : Control
  tail : Tail
  g : Geometry
  t : Table
  scanned : List Scanned
  table : table_at tail.super_end g slot image ≡ Ok t
  read : IsReadAs size image m (idle_at base slot statuses c tail g t scanned)

phase_said : (r : Read) (image : Image)
    → (mounted_on (kept r) image).state.phase ≡ phase_on (kept r) image
unfolding state_on
phase_said r image = refl

overlay_said : (r : Read) (image : Image)
    → (mounted_on (kept r) image).state.overlay ≡ overlay_on image (kept r).overlay
unfolding state_on
overlay_said r image = refl

has_idle : (size : ℕ) (image : Image) (m : Mounted)
    → IsIn size m image
    → m.state.phase ≡ Idle
    → m.state.overlay ≡ None
    → HasIdle size image m
has_idle size image m is phase plain =
    let was = device_was size image m is in
    let r : Read = was.read in
    let is_marked = plain_idle size r image was.reads
    (sym (phase_said r image) ∙ sym (ap (λ (x : Mounted). x.state.phase) was.is) ∙ phase)
    (sym (overlay_said r image) ∙ sym (ap (λ (x : Mounted). x.state.overlay) was.is) ∙ plain) in
    let marked : r ≡ record r { mark = rephased marks.Idle r.mark } =
    (λ i. record r { mark = is_marked i }) in
    let now = subst (IsReadAs size image m) marked (record { reads = was.reads; is = was.is }) in
    let one = one_of r.tail.super_end r.geometry r.mark.slot image r.tables now.reads.tables in
    let form : record r { mark = rephased marks.Idle r.mark }
    ≡ idle_at r.mark r.mark.slot r.statuses r.control r.tail r.geometry one.0 r.scanned =
    (λ i. record {
      mark = rephased marks.Idle r.mark;
      statuses = r.statuses;
      control = r.control;
      tail = r.tail;
      geometry = r.geometry;
      tables = one.1 i;
      scanned = r.scanned;
    }) in
    record {
      base = r.mark;
      slot = r.mark.slot;
      statuses = r.statuses;
      c = r.control;
      tail = r.tail;
      g = r.geometry;
      t = one.0;
      scanned = r.scanned;
      table = one.2;
      read = subst (IsReadAs size image m) form now;
    }

-- ---- a begin from a slot

-- what is said of a begin from this slot
abbrev Begins : (apart : Bool) → Mounted → ℕ → Type 0
Begins apart m n =
    (begun_effect m apart n (layout_at m.places n)).reply ≡ replies.Done
    → (images : List ImageOfSlot)
    × (images_at m.state n ≡ Some images)
    × ((after_of m (begun_effect m apart n (layout_at m.places n))).state
    ≡ with_plan m.state n (begun_plan apart images))

module _
    (size : ℕ) (image : Image) (base : UpdateMark) (slot : ℕ)
    (statuses : List (Option PartStatus)) (c : Control) (tail : Tail) (g : Geometry)
    (t : Table) (ss : List Scanned)
    (whole : HasWholeSectors size image)
    (reads : Reads size (idle_at base slot statuses c tail g t ss) image)
    (table : table_at tail.super_end g slot image ≡ Ok t) where
  abbrev r : Read
  r = idle_at base slot statuses c tail g t ss

  lower : slot < 2
  lower = slot_below image r.mark reads.mark

  ends : EndsOn size tail
  ends =
      tail_ends base.physical size image tail (leb-true 4120 size reads.enough) reads.tail

  inside : HasWholeSectors tail.super_end image
  inside = whole_front tail.super_end size image ends.1 whole

  from_at : (k : ℕ)
      → k < 2
      → layout_at (mounted_on (kept (idle_at base k statuses c tail g t ss)) image).places k
      ≡ Some (plain k (layout_of t))
  from_at zero lt = refl
  from_at (suc zero) lt = refl
  from_at (suc (suc n)) lt = absurd (omega (arith, lt))

  images_are : (k : ℕ)
      → k < 2
      → images_at (mounted_on (kept (idle_at base k statuses c tail g t ss)) image).state k
      ≡ Some (map (image_on image) (parts_of k (layout_of t)))
  unfolding state_on
  images_are zero lt = refl
  images_are (suc zero) lt = refl
  images_are (suc (suc n)) lt = absurd (omega (arith, lt))

  -- the slot of the mark is current
  current : c.current ≡ slot
  current =
      let at : Check = check (eqb c.current slot) (BadState 1) in
      let good : Check = check (is_good (info_at c slot)) (BadState 2) in
      eqb-true c.current slot
      (check_kept (eqb c.current slot) (BadState 1) (first_kept at (good ∷ []) reads.state).0)

  current_on : (mounted_on (kept r) image).state.control.current ≡ slot
  unfolding state_on
  current_on = current

  parts : AreParts tail.super_end (parts_of slot (layout_of t))
  parts =
      let own : IsOwn slot (layout_of t).parts =
      own_kept most_partitions slot (layout_of t).parts (omega arith)
      (none_named _
      (first_kept (own_check most_partitions slot t) [] (parts_all r image reads.parts)).0) in
      let read : IsRead tail.super_end g t =
      table_rules tail.super_end image g slot t inside ends.0 lower reads.geometry table in
      parts_kept tail.super_end slot g (layout_of t) ends.0 (layout_keeps t read.rules) own
      read.lies

  begins_at : (apart : Bool) → Begins apart (mounted_on (kept r) image) slot
  begins_at apart done =
      let m : Mounted = mounted_on (kept r) image in
      let l : Layout = layout_of t in
      let none : Plan = no_entries apart in
      let given : Layout = imported_by apart slot (plain slot l) in
      let is : begun_effect m apart slot (layout_at m.places slot)
      ≡ table_effect m slot none (fitting g.max given) =
      ap (begun_effect m apart slot) (from_at slot lower) in
      let made = table_done m slot none (fitting g.max given)
      (sym (ap (λ (e : Effect Mounted). e.reply) is) ∙ done) in
      let plan : replanned slot none made.0
      ≡ begun_plan apart (map (image_on image) (parts_of slot l)) =
      ap (replanned slot none)
      (sym (fitting_is g.max given made.0 made.1))
      ∙ plan_begun apart tail.super_end image slot l lower inside parts in (
        map (image_on image) (parts_of slot l),
        images_are slot lower,
        ap (λ (e : Effect Mounted). (after_of m e).state)
            (is ∙ ap (table_effect m slot none) made.1)
            ∙ ap (with_plan m.state slot) plan,
      )

  pub begins_current : (apart : Bool)
      → Begins apart (mounted_on (kept r) image)
      (mounted_on (kept r) image).state.control.current
  begins_current apart =
      subst (Begins apart (mounted_on (kept r) image)) (sym current_on) (begins_at apart)

-- ---- a disk that is a device

idle_by : (m : Mounted) (apart : Bool) (phase : Phase)
    → (begin_effect m apart phase).reply ≡ replies.Done
    → phase ≡ Idle
idle_by m apart Idle done = refl
idle_by m apart (Installing source plan) done = refused_not refusals.NotIdle done
idle_by m apart (Staged source left) done = refused_not refusals.NotIdle done
idle_by m apart (Merging target left) done = refused_not refusals.NotIdle done

-- what is said of a begin, by what it gives
abbrev Keeps : (apart : Bool) → Mounted → Effect Mounted → Type 0
Keeps apart m e =
    e.reply ≡ replies.Done
    → (images : List ImageOfSlot)
    × (images_at m.state m.state.control.current ≡ Some images)
    × ((after_of m e).state ≡ with_plan m.state m.state.control.current (begun_plan apart images))

begin_by : (size : ℕ) (image : Image) (m : Mounted) (apart : Bool)
    → HasWholeSectors size image
    → IsIn size m image
    → m.state.overlay ≡ None
    → Keeps apart m (begin_effect m apart m.state.phase)
begin_by size image m apart whole is plain done =
    let idle = idle_by m apart m.state.phase done in
    let h = has_idle size image m is idle plain in
    let begins : Begins apart m m.state.control.current =
    subst (λ (x : Mounted). Begins apart x x.state.control.current) (sym h.read.is)
    (begins_current size image h.base h.slot h.statuses h.c h.tail h.g h.t h.scanned whole
    h.read.reads h.table apart) in
    let from : Keeps apart m (begin_effect m apart Idle) = begins in
    subst (λ (phase : Phase). Keeps apart m (begin_effect m apart phase)) (sym idle) from done

-- none begins over an overlay
plain_by : (o : Option Overlay) (e : Effect Mounted)
    → (if_plain o e).reply ≡ replies.Done
    → o ≡ None
plain_by None e done = refl
plain_by (Some o) e done = refused_not refusals.NotIdle done

begin_plain : (size : ℕ) (image : Image) (m : Mounted) (apart : Bool)
    → HasWholeSectors size image
    → IsIn size m image
    → Keeps apart m (if_plain m.state.overlay (begin_effect m apart m.state.phase))
begin_plain size image m apart whole is done =
    let e : Effect Mounted = begin_effect m apart m.state.phase in
    let plain = plain_by m.state.overlay e done in
    subst (λ (o : Option Overlay). Keeps apart m (if_plain o e)) (sym plain)
    (begin_by size image m apart whole is plain) done

pub begin_is : (m : Mounted) (staged : Option (List ℕ)) (apart : Bool)
    → if_plain m.state.overlay (begin_effect m apart m.state.phase)
    ≡ effect_on m staged (begin_of apart)
begin_is m staged true = refl
begin_is m staged false = refl

pub begin_keeps : BeginKeepsImages
begin_keeps size image m staged apart whole is =
    subst (Keeps apart m) (begin_is m staged apart) (begin_plain size image m apart whole is)

-- With the mark of an overlaid slot the disk is the device with the partition overlaid.
use Rattle.std.proofs.Common.{◌≡◌, ◌≢◌, ◌∙◌, inl, inr, ⊎_elim, ℕ, zero, suc, ◌+◌, ◌≤◌, ◌<◌, true}
use Rattle.std.proofs.Common.{false, List, [], ◌∷◌, ◌++◌, length, Ok, refl, sym, ap, subst, arith}
use Rattle.std.specs.Prelude.{◌==◌, nat_le, Option, Some, None, is_some, slice_index}
use Rattle.std.proofs.lemmas.Bool.{cases_lt, le-leb}
use Rattle.vab_disk.specs.Disk.{Image}
use Rattle.vab_disk.specs.Calls.{InSectors, SameBut}
use Rattle.vab_disk.specs.Written.{set_here, set_there}
use Rattle.vab_names.specs.Names.{most_partitions}
use Rattle.vab_bootctl.specs.declared.slots.Control.{Control}
use Rattle.vab_bootctl.specs.Control.{control_of}
use Rattle.vab_marks.specs.declared.mark.MarkPhase.TheVariants as marks
use Rattle.vab_marks.specs.declared.mark.UpdateMark.{UpdateMark}
use Rattle.vab_marks.specs.declared.version.MarkVersion.TheVariants.{Two}
use Rattle.vab_marks.specs.Mark.{rephased, mark_of, mark_spelling, overlaid_by, resloted}
use Rattle.vab_space.specs.declared.Chunk.TheVariants.{One}
use Rattle.vab_exceptions.specs.declared.area.Exception.{Exception}
use Rattle.vab_store.specs.Clean.{ends_clean}
use Rattle.vab_store.specs.Layout.{InFirst}
use Rattle.vab_store.specs.Reached.{IsOfBlock, IsReached}
use Rattle.vab_store.specs.Scan.{scan_of}
use Rattle.vab_store.proofs.CleanLaws.{clean_kept}
use Rattle.vab_store.proofs.ReachedLaws.{scan_kept}
use Rattle.vab_geometry.specs.declared.geometry.Geometry.{Geometry}
use Rattle.vab_tables.specs.declared.table.Table.{Table}
use Rattle.vab_physical.specs.declared.tail.Tail.{Tail}
use Rattle.vab_blocks.proofs.Distinct.{pairs_distinct}
use Rattle.vab_layout.specs.declared.layout.Layout.{Layout}
use Rattle.vab_layout.specs.Layout.{layout_of, blocks_of_parts}
use Rattle.vab_layout.specs.Slots.{own_parts}
use Rattle.vab_layout.specs.Overlay.{Overlaid, overlaid_in, is_apart}
use Rattle.vab_names.proofs.NameCases.{eq_name}
use Rattle.vab_partitions.proofs.OwnRules.{none_bad}
use Rattle.vab_model.specs.declared.command.Reply.TheVariants as replies
use Rattle.vab_model.specs.Commands.{Command}
use Rattle.vab_model.specs.Effects.{does, wanting}
use Rattle.vab_device.specs.declared.device.Part.{Part}
use Rattle.vab_device.specs.declared.device.PartImage.TheVariants.{Kept}
use Rattle.vab_device.specs.declared.device.Device.{Device}
use Rattle.vab_device.specs.declared.fault.StartFault.TheVariants.{BadState}
use Rattle.vab_device.specs.Checks.{Check, check, first_fault, names_none}
use Rattle.vab_device.specs.Idle.{idle_read}
use Rattle.vab_device.specs.Kept.{IsDevice, IsTableOf, sectors_of, part_on}
use Rattle.vab_device.specs.Mounted.{Mounted, mounted_on, state_on, images_on, image_on, bytes_at}
use Rattle.vab_device.specs.Phases.{overlay_of, bad_overlay, wanted_over, own_check}
use Rattle.vab_device.specs.Reading.{Read, kept, Reads, Represents, statuses_at}
use Rattle.vab_device.specs.Reading.{tables_in, version_at, part_fault, stores_of}
use Rattle.vab_device.specs.Reading.{IsOfTables, IsOfBlocks, IsOfImages}
use Rattle.vab_device.specs.Stores.{Scanned, scan_at, scans_in}
use Rattle.vab_device.specs.Stores.{sectors_seen}
use Rattle.vab_device.specs.Updates.{effect_on, overlaid_over}
use Rattle.vab_device.proofs.Behind.{images_behind}
use Rattle.vab_device.proofs.BlockLaws.{bytes_same}
use Rattle.vab_device.proofs.MostLaws.{parts_two}
use Rattle.vab_device.proofs.OpeningLaws.{control_seen_in}
use Rattle.vab_device.proofs.PartBlocks.{block_behind, sectors_apart, sector_at, sectors_long}
use Rattle.vab_device.proofs.PhaseCases.{unplanned_of}
use Rattle.vab_device.proofs.ReadingLaws.{single_works}
use Rattle.vab_device.proofs.SameLaws.{tail_kept, geometry_same, tables_agree, images_same}
use Rattle.vab_device.proofs.StayLaws.{mark_there, version_there, copy_stays, copies_from}
use Rattle.vab_device.proofs.Steps.{marked, IsStep}
use Rattle.vab_device.proofs.UpdateLaws.{kept_with}
use Rattle.vab_device.proofs.SlotTable.{kept_table}
use Rattle.vab_overlaying.specs.Begun.{over_part, over_device, IsOver}
use Rattle.vab_overlaying.proofs.HeadLaws.{OfStore, in_first, of_front, not_low, not_tables}
use Rattle.vab_overlaying.proofs.HeadLaws.{not_own}
use Rattle.vab_overlaying.proofs.HeadLaws.{of_images}
use Rattle.vab_overlaying.proofs.OverlaidLaws.{apart_one}
use Rattle.vab_device.proofs.StandsLaws.{read_at, StandsIdle, stands_idle}
use Rattle.vab_device.proofs.ReadingLaws.{bare_known}

-- ---- what is read then

-- what is read of a store to which nothing is written
abbrev pub blank_scan : Overlaid → Scanned
blank_scan o = record { name = o.part.name; chunk = One; exceptions = [] }

-- the reading of a device with that partition overlaid
abbrev pub over_read : UpdateMark → Control → Tail → Geometry → Table → Overlaid → Read
over_read m c tail g t o = record (idle_read (overlaid_by true m) c tail g t) {
  scanned = blank_scan o ∷ [];
}

-- the overlaid partition
over_is : (slot : ℕ) (l : Layout) (o : Overlaid)
    → overlaid_in slot l.parts ≡ Some o
    → overlay_of true slot l (blank_scan o ∷ [])
    ≡ Some
    (over_part (part_on l.device.first_logical_sector o.part)
    (sectors_of l.device.first_logical_sector o.store.blocks))
over_is slot l o one = rw (one, eq_name o.part.name o.part.name refl) refl

kept_over : (m : UpdateMark) (slot : ℕ) (c seen : Control) (tail : Tail) (g : Geometry) (t : Table)
    (o : Overlaid) (p : Part) (store : List ℕ)
    → slot < 2
    → overlay_of true slot (layout_of t) (blank_scan o ∷ []) ≡ Some (over_part p store)
    → over_device (kept_with (read_at (resloted slot m) seen tail g t) c) p store
    ≡ kept_with (over_read (resloted slot m) seen tail g t o) c
kept_over m zero c seen tail g t o p store below is =
    (λ i. record (kept_with (over_read (resloted 0 m) seen tail g t o) c) { overlay = sym is i })
kept_over m (suc zero) c seen tail g t o p store below is =
    (λ i. record (kept_with (over_read (resloted 1 m) seen tail g t o) c) { overlay = sym is i })
kept_over m (suc (suc n)) c seen tail g t o p store below is = absurd (omega (arith, below))

-- ---- the rules, and the store

three_kept : (x y z : Check)
    → x ≡ None
    → y ≡ None
    → z ≡ None
    → first_fault (x ∷ y ∷ z ∷ []) ≡ None
three_kept x y z first second third = rw (first, second, third) refl

apart_kept : (slot : ℕ) (l : Layout) (o : Overlaid)
    → is_apart slot l.parts o.store ≡ true
    → names_none (bad_overlay slot l.parts (Some o)) ≡ None
apart_kept slot l o apart = rw apart refl

blank_scanned : (l : Layout) (o : Overlaid) (image : Image)
    → scan_of One (sectors_of l.device.first_logical_sector o.store.blocks)
    (length (sectors_of l.device.first_logical_sector o.part.blocks)) image
    ≡ Ok []
    → ends_clean (sectors_of l.device.first_logical_sector o.store.blocks) 0 image ≡ true
    → scans_in (wanted_over l (Some o)) image ≡ Ok (blank_scan o ∷ [])
unfolding scan_at
blank_scanned l o image scanned clean =
    let few : nat_le 0 (length o.store.blocks) ≡ true =
    le-leb 0 (length o.store.blocks) (omega arith) in
    rw (scanned, few, clean) refl

-- a sector of a store's block is not that of the mark
not_mark : (at : ℕ) (blocks : List ℕ) (b s : ℕ) → IsOfBlock (sectors_of at blocks) b s → s ≢ 2048
not_mark at blocks b s here is = elim (cases_lt b (length blocks)) [
  | inl inside ↦ omega (arith, sector_at at blocks b inside, here.from, is)
  | inr behind ↦
      let none : slice_index (sectors_of at blocks) b ≡ 0 =
      no_block (sectors_of at blocks) b (omega (arith, behind, sectors_long at blocks)) in
      omega (arith, none, here.below, is)
]
  where
    no_block : (xs : List ℕ) (k : ℕ) → length xs ≤ k → slice_index xs k ≡ 0
    no_block [] k le = refl
    no_block (x ∷ xs) zero le = absurd (omega (arith, le))
    no_block (x ∷ xs) (suc k) le = no_block xs k (omega (arith, le))

reached_elsewhere : (at : ℕ) (blocks : List ℕ) (count s : ℕ)
    → IsReached One (sectors_of at blocks) count s
    → s ≢ 2048
reached_elsewhere at blocks count s (inl header) = not_mark at blocks 0 s header
reached_elsewhere at blocks count s (inr page) = not_mark at blocks _ s page.here

-- ---- what it means

seen_none : (store : List ℕ) (n : ℕ) (own : List ℕ)
    → sectors_seen One store [] n own ≡ own
seen_none store n [] = refl
seen_none store n (b ∷ bs) = ap (λ (l : List ℕ). b ∷ l) (seen_none store (n + 1) bs)

over_bytes : (image : Image) (store own : List ℕ)
    → bytes_at image (sectors_seen One store [] 0 own) ≡ bytes_at image own
over_bytes image store own = ap (bytes_at image) (seen_none store 0 own)

mounted_over : (d : Device) (p : Part) (store : List ℕ) (old new : Image)
    → d.plan ≡ None
    → d.mark.phase ≡ marks.Idle
    → p.image ≡ Kept
    → images_on new d.a ≡ images_on old d.a
    → images_on new d.b ≡ images_on old d.b
    → bytes_at new p.map ≡ bytes_at old p.map
    → mounted_on (over_device d p store) new
    ≡ overlaid_over (mounted_on d old) (image_on old p) (length store)
unfolding state_on
mounted_over d p store old new plan phase bare a b bytes =
    rw (plan, phase, bare, a, b, over_bytes new store p.map, bytes) refl

-- ---- the step

module _
    (d : Device) (size : ℕ) (old mid : Image) (p : Part) (store : List ℕ)
    (staged : Option (List ℕ)) (command : Command)
    (dev : IsDevice d size)
    (is : Represents d size old)
    (over : IsOver d p store)
    (same : SameBut (InSectors (InFirst store 2)) old mid)
    (scanned : (bound : ℕ) → scan_of One store bound mid ≡ Ok [])
    (clean : ends_clean store 0 mid ≡ true)
    (read : mark_of (mark_spelling (overlaid_by true d.mark)) ≡ Ok (overlaid_by true d.mark)) where
  abbrev t : Table
  t = over.table

  abbrev o : Overlaid
  o = over.over

  abbrev at : ℕ
  at = (layout_of over.table).device.first_logical_sector

  abbrev g : Geometry
  g = d.geometry

  abbrev new : Image
  new = marked mid (mark_spelling (overlaid_by true d.mark))

  abbrev blocks : List ℕ
  blocks = sectors_of (layout_of over.table).device.first_logical_sector over.over.store.blocks

  st : StandsIdle d size old over.table
  st = stands_idle d size old over.table dev.slot over.idle over.plain over.is is

  of : IsTableOf d.tail.super_end d.geometry d.mark.slot over.table
  of = kept_table d size over.table dev over.is

  long : 2 ≤ length blocks
  long = omega (arith, over.two, sectors_long at over.over.store.blocks)

  elsewhere : (s : ℕ) → s ≢ 2048 → new s ≡ mid s
  elsewhere s other = set_there mid 2048 (mark_spelling (overlaid_by true d.mark)) s other

  -- what is neither the mark's nor of the store stays
  agree : (s : ℕ)
      → s ≢ 2048
      → (OfStore d size old over.table dev over.is st over.over over.by s → ⊥)
      → new s ≡ old s
  agree s other outside =
      elsewhere s other
      ∙ ⊎_elim (λ stays. stays)
      (λ w.
      absurd (outside
      (of_front 2 blocks s
      (in_first 2 blocks s long
      (subst (λ (l : List ℕ). InFirst l 2 s) over.stored w)))))
      (same s)

  low : (s : ℕ) → s ≢ 2048 → s < 4120 → new s ≡ old s
  low s other below =
      agree s other (not_low d size old t dev over.is st o over.by s below)

  control_new : control_of (new 4) ≡ Ok d.control
  control_new = ap control_of (low 4 (λ e. omega (arith, e)) (omega arith)) ∙ st.control

  version_new : version_at new ≡ Two
  version_new =
      version_there (overlaid_by true d.mark) new
      (set_here mid 2048 (mark_spelling (overlaid_by true d.mark)) 2048 refl)

  of_tables : (s : ℕ) → IsOfTables d.geometry (d.mark.slot ∷ []) s → new s ≡ old s
  of_tables s there =
      agree s (λ e. omega (arith, e, copies_from d.geometry (d.mark.slot ∷ []) s there))
      (not_tables d size old t dev over.is st o over.by s there)

  no_statuses : statuses_at false new ≡ Ok []
  unfolding statuses_at
  no_statuses = refl

  own_rules : own_check most_partitions d.mark.slot over.table ≡ None
  own_rules =
      ap names_none
      (none_bad most_partitions d.mark.slot (layout_of t).parts of.own of.own.few)

  all_rules : part_fault most_partitions
      (over_read d.mark d.control d.tail d.geometry over.table over.over)
      ≡ None
  all_rules =
      three_kept (own_check most_partitions d.mark.slot t)
      (check (is_some (overlaid_in d.mark.slot (layout_of t).parts)) (BadState 4))
      (names_none
      (bad_overlay d.mark.slot (layout_of t).parts
      (overlaid_in d.mark.slot (layout_of t).parts)))
      own_rules
      (ap (λ (x : Option Overlaid). check (is_some x) (BadState 4)) over.one)
      (ap (λ (x : Option Overlaid). names_none (bad_overlay d.mark.slot (layout_of t).parts x))
      over.one
      ∙ apart_kept d.mark.slot (layout_of t) o
      (pairs_distinct
      (blocks_of_parts (own_parts d.mark.slot (layout_of t).parts) ++ o.store.blocks)
      over.by.apart))

  scan_new : (bound : ℕ) → scan_of One blocks bound new ≡ Ok []
  scan_new bound =
      let none : List Exception = [] in
      scan_kept One blocks 0 mid new
      (λ s reached. elsewhere s (reached_elsewhere at o.store.blocks 0 s reached)) bound none refl
      (subst (λ (l : List ℕ). scan_of One l bound mid ≡ Ok []) over.stored (scanned bound))

  clean_new : ends_clean blocks 0 new ≡ true
  clean_new =
      clean_kept blocks 0 mid new
      (λ s reached. elsewhere s (reached_elsewhere at o.store.blocks 0 s reached))
      ∙ subst (λ (l : List ℕ). ends_clean l 0 mid ≡ true) over.stored clean

  stores_new : scans_in
      (stores_of (over_read d.mark d.control d.tail d.geometry over.table over.over)) new
      ≡ Ok (blank_scan over.over ∷ [])
  stores_new =
      ap (λ (x : Option Overlaid). scans_in (wanted_over (layout_of t) x) new) over.one
      ∙ blank_scanned (layout_of t) o new
      (scan_new (length (sectors_of at o.part.blocks)))
      clean_new

  tables_new : tables_in d.tail.super_end d.geometry (d.mark.slot ∷ []) new ≡ Ok (over.table ∷ [])
  tables_new =
      tables_agree d.tail.super_end d.geometry (d.mark.slot ∷ []) old new of_tables
      ∙ st.reads.tables

  reads_new : Reads size (over_read d.mark d.control d.tail d.geometry over.table over.over) new
  reads_new = record {
    enough = st.reads.enough;
    mark = mark_there (overlaid_by true d.mark) new refl
        (bare_known old (rephased marks.Idle d.mark) st.reads.mark) read
        (set_here mid 2048 (mark_spelling (overlaid_by true d.mark)) 2048 refl);
    statuses = no_statuses;
    control = control_seen_in (d.mark.slot == 0) (d.mark.slot == 1) new d.control control_new;
    tail =
        tail_kept d.mark.physical size old new
        (λ some. low 2113 (λ e. omega (arith, e)) (omega arith))
        ∙ st.reads.tail;
    geometry =
        geometry_same d.tail.super_end old new
        (low 4104 (λ e. omega (arith, e)) (omega arith))
        (low 4112 (λ e. omega (arith, e)) (omega arith))
        ∙ st.reads.geometry;
    tables = tables_new;
    parts =
        parts_two (over_read d.mark d.control d.tail d.geometry over.table over.over) new
        version_new all_rules;
    stores = stores_new;
    state = single_works (read_at d.mark d.control d.tail d.geometry t) refl st.reads.state;
  }

  overlay_now : overlay_of true d.mark.slot (layout_of over.table) (blank_scan over.over ∷ [])
      ≡ Some (over_part p store)
  overlay_now =
      over_is d.mark.slot (layout_of t) o over.one
      ∙ (λ i. Some (over_part (sym over.part i) (sym over.stored i)))

  pub represents_over : Represents (over_device d p store) size new
  represents_over = record {
    read = over_read d.mark d.control d.tail d.geometry over.table over.over;
    reads = reads_new;
    is =
        ap (λ (x : Device). over_device x p store) st.is
        ∙ kept_over d.mark d.mark.slot d.control d.control d.tail g t o p store dev.slot
        overlay_now;
    control = control_new;
    copies = (
      (
        st.copies.0.0,
        st.copies.0.1,
        copy_stays d.geometry d.mark.slot st.copies.0.0 old new of_tables st.copies.0.2,
      ),
      tt,
    );
    version = version_new;
  }

  -- ---- the images

  images_a : images_on new d.a ≡ images_on old d.a
  images_a =
      images_same old new d.a
      (λ s there.
      let here : IsOfImages (kept (read_at d.mark d.control d.tail d.geometry t)).a s =
      subst (λ (k : Device). IsOfImages k.a s) st.is there in
      let from = images_behind size 4096 0 _ _ (read_at d.mark d.control d.tail d.geometry t) old s
      st.reads (omega arith) here in
      agree s (λ e. omega (arith, e, from))
      (not_own d size old t dev over.is st o over.by s (of_images d.mark.slot 0 t s here)))

  images_b : images_on new d.b ≡ images_on old d.b
  images_b =
      images_same old new d.b
      (λ s there.
      let here : IsOfImages (kept (read_at d.mark d.control d.tail d.geometry t)).b s =
      subst (λ (k : Device). IsOfImages k.b s) st.is there in
      let from = images_behind size 4096 1 _ _ (read_at d.mark d.control d.tail d.geometry t) old s
      st.reads (omega arith) here in
      agree s (λ e. omega (arith, e, from))
      (not_own d size old t dev over.is st o over.by s (of_images d.mark.slot 1 t s here)))

  part_bytes : bytes_at new p.map ≡ bytes_at old p.map
  part_bytes =
      bytes_same old new p.map
      (λ s there.
      let here : IsOfBlocks (sectors_of at o.part.blocks) s =
      subst (λ (q : Part). IsOfBlocks q.map s) over.part there in
      agree s (λ e. omega (arith, e, block_behind at o.part.blocks s here))
      (λ of_store.
      sectors_apart at o.part.blocks o.store.blocks s
      (apart_one d.tail.super_end d.mark.slot d.geometry t dev.enough of o over.by o.part
      over.by.own)
      here of_store))

  means : mounted_on (over_device d p store) new
      ≡ overlaid_over (mounted_on d old) (image_on old p) (length store)
  means =
      mounted_over d p store old new
      (unplanned_of d size marks.Idle dev refl over.idle) over.idle
      (ap (λ (q : Part). q.image) over.part) images_a images_b part_bytes

  pub over_step : effect_on (mounted_on d old) staged command
      ≡ wanting true
      (does replies.Done (overlaid_over (mounted_on d old) (image_on old p) (length store)))
      → IsStep d (over_device d p store) staged command replies.Done true size old
      (marked mid (mark_spelling (overlaid_by true d.mark)))
  over_step gives = record {
    represents = represents_over;
    effect = gives ∙ ap (λ (m : Mounted). wanting true (does replies.Done m)) (sym means);
  }

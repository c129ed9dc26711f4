-- A partition whose store takes its image: what the disk then needs, and what it means.
use Rattle.std.proofs.Common.{◌≡◌, ◌≢◌, ◌∙◌, inl, inr, ⊎_elim, ℕ, zero, suc, ◌+◌, ◌≤◌, ◌<◌, true}
use Rattle.std.proofs.Common.{false, List, [], ◌∷◌, length, get_or, take, refl, sym, ap, subst}
use Rattle.std.proofs.Common.{arith, Ok, eqb, eq-eqb}
use Rattle.std.specs.Prelude.{Bool, Option, Some, None, All, AllPairs, ◌==◌, if◌then◌else◌, nat_le}
use Rattle.std.proofs.lemmas.Bool.{lt-leb}
use Rattle.std.proofs.lemmas.List.Elements.{All-get_or, All-contains}
use Rattle.vab_disk.specs.Disk.{Image, set_sector}
use Rattle.vab_disk.specs.Calls.{IsBetween, InSectors, SameBut}
use Rattle.vab_names.specs.Names.{base_of, in_slot}
use Rattle.vab_space.specs.declared.Chunk.{Chunk}
use Rattle.vab_space.specs.Chunks.{need_at}
use Rattle.vab_exceptions.specs.declared.area.Exception.{Exception}
use Rattle.vab_exceptions.proofs.EntryLaws.{length-firsts}
use Rattle.vab_store.specs.Layout.{IsApart, AreDisjoint, InFirst}
use Rattle.vab_store.specs.Scan.{scan_of}
use Rattle.vab_store.specs.View.{Fits, stored_at}
use Rattle.vab_store.specs.Writing.{planned_of, planned_at as planned_exception}
use Rattle.vab_install.specs.Snapshot.{HoldsBlocks}
use Rattle.vab_marks.specs.declared.status.PartStatus.{PartStatus}
use Rattle.vab_marks.specs.declared.status.StatusImage.TheVariants.{Stored}
use Rattle.vab_marks.specs.Status.{status_of}
use Rattle.vab_statuses.specs.Statuses.{statuses_in, free_in, IsOfStatuses}
use Rattle.vab_tables.specs.declared.table.Table.{Table}
use Rattle.vab_layout.specs.Layout.{layout_of}
use Rattle.vab_layout.specs.Slots.{other_slot, own_parts, blocks_named, twins_by, before_of}
use Rattle.vab_layout.specs.Slots.{IsTargetPartBeside, IsTargetPart}
use Rattle.vab_model.specs.Commands.{Flash}
use Rattle.vab_model.specs.Effects.{refuses, does, wanting, unless_refused}
use Rattle.vab_model.specs.declared.command.Refusal.TheVariants.{StoreFull, NoMemory}
use Rattle.vab_model.specs.declared.command.Reply.TheVariants as replies
use Rattle.vab_device.specs.declared.device.Part.{Part}
use Rattle.vab_device.specs.declared.device.PartImage.{PartImage}
use Rattle.vab_device.specs.declared.device.PartImage.TheVariants.{Kept, Declared, Written}
use Rattle.vab_device.specs.declared.device.Device.{Device}
use Rattle.vab_device.specs.Kept.{sectors_of, parts_of, parts_at, IsDevice, IsPart, IsStored}
use Rattle.vab_device.specs.Kept.{IsStore, ArePresent}
use Rattle.vab_device.specs.Mounted.{Mounted, mounted_on, bytes_at, written_sectors, entry_on}
use Rattle.vab_device.specs.Reading.{device, Represents, IsOfBlocks, parts_for, table_for}
use Rattle.vab_device.specs.Stores.{Wanted, Scanned, wanted_by, wanted_of, scan_read, scan_at}
use Rattle.vab_device.specs.Flashed.{if_room, flashed, differences, filled}
use Rattle.vab_device.specs.Updates.{effect_on}
use Rattle.vab_device.proofs.Behind.{seen_or}
use Rattle.vab_device.proofs.DoesLaws.{step_follows}
use Rattle.vab_device.proofs.PartBlocks.{block_behind, sectors_disjoint}
use Rattle.vab_device.proofs.ReadingLaws.{device_same, device_stands}
use Rattle.vab_device.proofs.InStores.{scan_stays}
use Rattle.vab_flash.specs.declared.chosen.Destination.TheVariants.{Store}
use Rattle.vab_flash.specs.Chosen.{IsChosen, base_of_place}
use Rattle.vab_flash.specs.Chosen.{part_among, part_named, part_at, blocks_or, store_at, store_long}
use Rattle.vab_flash.specs.Chosen.{differing_at, needed_at, with_written}
use Rattle.vab_flash.specs.Place.{plan_or, planned_at, no_planned}
use Rattle.vab_flash.proofs.ApartLaws.{BelongTo, store_belongs}
use Rattle.vab_flash.proofs.ChosenLaws.{plan_on, flash_chosen, AreAllDirect, parts_direct}
use Rattle.vab_flash.proofs.ChosenLaws.{source_is}
use Rattle.vab_flash.proofs.DeadLaws.{Tables, tables_kept, these_dead}
use Rattle.vab_flash.proofs.DifferencesLaws.{differences_are}
use Rattle.vab_flash.proofs.FilledLaws.{bytes_filled}
use Rattle.vab_flash.proofs.FlashLaws.{le_true}
use Rattle.vab_flash.proofs.InstallingLaws.{Installs, installs_of, installing_read}
use Rattle.vab_flash.proofs.NextLaws.{represents_next, mounted_next}
use Rattle.vab_flash.proofs.PlacedLaws.{Placed, placed_of, HasStore, has_store, of_store}
use Rattle.vab_flash.proofs.SourceLaws.{sectors_once, source_blocks, source_apart, begins_same}
use Rattle.vab_flash.proofs.SourceLaws.{behind_end}

-- ---- over every disk

-- the planned partition at a place keeps its rules
pub planned_kept : (d : Device) (size place : ℕ)
    → IsDevice d size
    → place < length (plan_or d.plan)
    → IsPart d.tail.super_end (planned_at d place)
planned_kept d size place is below = of_plan d.plan is.plan below
  where
    of_plan : (o : Option (List Part))
        → ArePresent d.tail.super_end o
        → place < length (plan_or o)
        → IsPart d.tail.super_end (get_or (plan_or o) place no_planned)
    of_plan None all below = absurd (omega (arith, below))
    of_plan (Some plan) all below = All-get_or (IsPart d.tail.super_end) plan place no_planned below
        all.each

pub store_kept : (size : ℕ) (p : Part) (store : List ℕ)
    → IsPart size p
    → p.store ≡ Some store
    → IsStore size p.map store
store_kept size p store is has = by_image p.image (subst (λ o. IsStored size p.map o p.image) has
    is.store)
  where
    by_image : (image : PartImage)
        → IsStored size p.map (Some store) image
        → IsStore size p.map store
    by_image Kept s = s
    by_image Declared s = s
    by_image (Written chunk es) s = s.0

-- ---- a sector of the first blocks

pub first_in : (blocks : List ℕ) (n s : ℕ)
    → n ≤ length blocks
    → InFirst blocks n s
    → IsOfBlocks blocks s
first_in blocks n s fits is = at_block blocks is.block s (omega (arith, is.within, fits)) is.here
  where
    at_block : (bs : List ℕ) (k s : ℕ)
        → k < length bs
        → IsBetween (get_or bs k 0) (get_or bs k 0 + 8) s
        → IsOfBlocks bs s
    at_block [] k s below here = absurd (omega (arith, below))
    at_block (b ∷ bs) zero s below here = inl here
    at_block (b ∷ bs) (suc k) s below here = inr (at_block bs k s (omega (arith, below)) here)

-- ---- where the contents are told

own_table : (slot : ℕ) (base : List ℕ) (s t : Table) (others : List Table) (ss : List Scanned)
    → slot < 2
    → part_among base
    (if slot == 0
    then parts_for 0 (slot == 0) false ss
    (table_for 0 (slot ∷ other_slot slot ∷ []) (s ∷ t ∷ others))
    else parts_for 1 (slot == 1) false ss
    (table_for 1 (slot ∷ other_slot slot ∷ []) (s ∷ t ∷ others)))
    ≡ part_named base (parts_of slot (layout_of s))
own_table zero base s t others ss below = refl
own_table (suc zero) base s t others ss below = refl
own_table (suc (suc n)) base s t others ss below = absurd (omega (arith, below))

own_direct : (slot : ℕ) (s t : Table) (others : List Table) (ss : List Scanned)
    → slot < 2
    → AreAllDirect
    (if slot == 0
    then parts_for 0 (slot == 0) false ss
    (table_for 0 (slot ∷ other_slot slot ∷ []) (s ∷ t ∷ others))
    else parts_for 1 (slot == 1) false ss
    (table_for 1 (slot ∷ other_slot slot ∷ []) (s ∷ t ∷ others)))
own_direct zero s t others ss below =
    parts_direct (layout_of s).device.first_logical_sector (own_parts 0 (layout_of s).parts)
own_direct (suc zero) s t others ss below =
    parts_direct (layout_of s).device.first_logical_sector (own_parts 1 (layout_of s).parts)
own_direct (suc (suc n)) s t others ss below = absurd (omega (arith, below))

module _ (d : Device) (size : ℕ) (old : Image) (device_is : IsDevice d size)
    (is : Represents d size old) (name : List ℕ) (staged : Option (List ℕ)) (place : ℕ)
    (bytes : List ℕ) (chosen : IsChosen d name staged place Store bytes) where
  pub i : Installs d size old
  i = installs_of d size old chosen.has.plan is chosen.has.plan_is

  pub p : Placed d size old i name place
  p = placed_of d size old i device_is name place chosen.has Store chosen.fits.goes
      chosen.fits.unwritten

  pub k : HasStore d size old i name place
  k = has_store d size old i device_is name place chosen.has chosen.fits.goes

  store_is : (planned_at d place).store ≡ Some (store_at d place)
  store_is = of_store d.mark.apart (planned_at d place).store chosen.fits.goes

  t : Tables d size old i
  t = tables_kept d size old i device_is

  abbrev at : ℕ
  at = (layout_of i.target).device.first_logical_sector

  belong : BelongTo i.slot (layout_of i.source).parts (layout_of i.target).parts name k.keeps.blocks
  belong =
      store_belongs i.slot (twins_by i.base.apart (layout_of i.source).parts)
      (layout_of i.source).parts (layout_of i.target).parts name k.keeps t.below t.target p.own
      k.found

  pub apart : IsApart (store_at d place)
  apart =
      let s : IsStore d.tail.super_end (planned_at d place).map (store_at d place) =
      store_kept d.tail.super_end (planned_at d place) (store_at d place)
      (planned_kept d size place device_is chosen.within) store_is in
      subst IsApart k.store_is
      (sectors_once at k.keeps.blocks
      (subst (λ (bs : List ℕ). AllPairs (λ a b. a ≢ b) bs) (sym k.store_is) s.once))

  -- the source's blocks
  pub source : List ℕ
  source = blocks_named (in_slot i.slot name) (layout_of i.source).parts

  pub base_is : base_of_place d place ≡ sectors_of at source
  unfolding source
  base_is =
      let base : (planned_at d place).name ≡ base_of name =
      ap (λ (x : Part). x.name) p.planned ∙ ap base_of p.named in
      let form : part_at d d.mark.slot (base_of name)
      ≡ part_named (base_of name) (parts_of i.slot (layout_of i.source)) =
      ap (λ (k : Device). part_at k k.mark.slot (base_of name)) i.is
      ∙ own_table i.slot (base_of name) i.source i.target i.others i.scanned t.below in
      ap (λ (n : List ℕ). blocks_or (part_at d d.mark.slot n)) base
      ∙ ap blocks_or form
      ∙ source_blocks (layout_of i.source).device.first_logical_sector i.slot name
      (layout_of i.source).parts
      ∙ ap (λ (k : ℕ). sectors_of k (blocks_named (in_slot i.slot name) (layout_of i.source).parts))
      t.begins

  -- while an update is installed the source isn't read through stores
  direct : AreAllDirect (parts_at d d.mark.slot)
  direct =
      subst (λ (k : Device). AreAllDirect (parts_at k k.mark.slot)) (sym i.is)
      (own_direct i.slot i.source i.target i.others i.scanned t.below)

  pub disjoint : AreDisjoint (base_of_place d place) (store_at d place)
  unfolding source
  disjoint =
      subst (λ (bs : List ℕ). AreDisjoint bs (store_at d place)) (sym base_is)
      (subst (λ (ss : List ℕ). AreDisjoint (sectors_of at source) ss) k.store_is
      (sectors_disjoint at source k.keeps.blocks
      (source_apart i.slot name (layout_of i.source).parts k.keeps.blocks belong.from_source)))

  -- writes into the store's first blocks are dead
  pub first_dead : (n : ℕ) (image : Image)
      → n ≤ store_long d place
      → SameBut (InSectors (InFirst (store_at d place) n)) old image
      → device size image ≡ Ok (mounted_on d old)
  first_dead n image fits but =
      let wide : SameBut (InSectors (IsOfBlocks (sectors_of at k.keeps.blocks))) old image =
      λ s.
      ⊎_elim (λ same. inl same)
      (λ w.
      inr (subst (λ (ss : List ℕ). IsOfBlocks ss s) (sym k.store_is)
      (first_in (store_at d place) n s fits w)))
      (but s) in
      device_same size
      (installing_read i.base i.slot i.statuses i.seen i.tail i.geometry i.source i.target
      i.others i.scanned)
      old
      image i.reads
      (these_dead d size old i device_is name k.keeps.blocks belong p.unread image wide)
      ∙ device_stands d size old is

  -- what is left to ask is whether the store has room
  module _ (chunk : Chunk) (whole : (s : ℕ) → s < size → length (old s) ≡ 512)
      (on_disk : All (λ s. s + 8 ≤ size) (base_of_place d place)) where
    abbrev pub n : ℕ
    n = length (differing_at chunk d place old bytes)

    pub effect_is : effect_on (mounted_on d old) staged (Flash name chunk)
        ≡ if_room (mounted_on d old) d.mark.slot (plan_on d old)
        (entry_on old (planned_at d place)) (store_long d place) chunk bytes n
    effect_is =
        flash_chosen d old staged name chunk place Store bytes chosen
        ∙ ap
        (if_room (mounted_on d old) d.mark.slot (plan_on d old)
        (entry_on old (planned_at d place)) (store_long d place) chunk bytes)
        (ap (λ (source : List ℕ).
        differences chunk source bytes (length (planned_at d place).map))
        (source_is d old (planned_at d place).name direct)
        ∙ differences_are old size (base_of_place d place) whole on_disk chunk bytes
        (length (planned_at d place).map))

    pub effect_full : nat_le (need_at n chunk) (store_long d place) ≡ false
        → effect_on (mounted_on d old) staged (Flash name chunk)
        ≡ refuses (StoreFull (need_at n chunk) (store_long d place))
    effect_full none =
        effect_is
        ∙ (λ j.
        if none j
        then wanting true (flashed (mounted_on d old) d.mark.slot (plan_on d old)
        (entry_on old (planned_at d place)) bytes n)
        else refuses (StoreFull (need_at n chunk) (store_long d place)))

    pub effect_room : needed_at chunk d place old bytes ≤ store_long d place
        → effect_on (mounted_on d old) staged (Flash name chunk)
        ≡ wanting true (flashed (mounted_on d old) d.mark.slot (plan_on d old)
        (entry_on old (planned_at d place)) bytes n)
    effect_room room =
        let there = le_true (need_at n chunk) (store_long d place) room in
        effect_is
        ∙ (λ j.
        if there j
        then wanting true (flashed (mounted_on d old) d.mark.slot (plan_on d old)
        (entry_on old (planned_at d place)) bytes n)
        else refuses (StoreFull (need_at n chunk) (store_long d place)))

    -- an image for which there is room has a device behind it
    pub room_follows : needed_at chunk d place old bytes ≤ store_long d place
        → (effect_on (mounted_on d old) staged (Flash name chunk)).later ≢ []
    room_follows room = step_follows (effect_room room)

    -- ---- behind the gate

    module _ (mid : Image) (es : List Exception) (free : ℕ) (spelled : List ℕ)
        (room : needed_at chunk d place old bytes ≤ store_long d place)
        (es_is : es ≡ planned_of chunk (differing_at chunk d place old bytes))
        (fits : Fits chunk (length (planned_at d place).map) (store_at d place) es)
        (but : SameBut (InSectors (InFirst (store_at d place) (need_at n chunk))) old mid)
        (scan : scan_of chunk (store_at d place) (length (planned_at d place).map) mid ≡ Ok es)
        (holds : HoldsBlocks chunk (base_of_place d place) (store_at d place) es mid bytes
        (length (planned_at d place).map))
        (free_is : (statuses : List (Option PartStatus))
        → statuses_in old ≡ Ok statuses
        → free_in statuses ≡ Some free)
        (there : IsOfStatuses free)
        (decoded : status_of spelled
        ≡ Ok (record { name = name; image = Stored (length es) chunk })) where
      abbrev store_sectors : List ℕ
      store_sectors = sectors_of at k.keeps.blocks

      -- sectors that aren't the store's
      mid_same : (s : ℕ) → (IsOfBlocks store_sectors s → ⊥) → mid s ≡ old s
      mid_same s not =
          ⊎_elim (λ same. same)
          (λ w.
          absurd (not (subst (λ (ss : List ℕ). IsOfBlocks ss s) (sym k.store_is)
          (first_in (store_at d place) (need_at n chunk) s room w))))
          (but s)

      part_long : length (planned_at d place).map ≡ length (sectors_of at p.part.blocks)
      part_long = ap (λ (x : Part). length x.map) p.planned

      abbrev wanted : Wanted
      wanted = record {
        name = name;
        base = sectors_of at p.part.blocks;
        store = Some store_sectors;
        chunk = chunk;
        count = length es;
        fewer = false;
        clean = false;
      }

      wanted_one : wanted_of i.base.apart (other_slot i.slot) (layout_of i.target)
          (record { name = name; image = Stored (length es) chunk })
          ≡ Ok wanted
      wanted_one =
          (λ j. wanted_by i.base.apart at
          (record { name = name; image = Stored (length es) chunk })
          (p.part_is j) (k.found j))

      scan_one : (image : Image)
          → ((s : ℕ) → 4096 ≤ s → image s ≡ mid s)
          → scan_at wanted image ≡ Ok (record { name = name; chunk = chunk; exceptions = es })
      unfolding scan_at
      scan_one image high =
          let enough : eqb (length es) (length es) ≡ true = eq-eqb (length es) (length es) refl in
          let kept = scan_stays chunk store_sectors mid image
          (λ s here. high s (omega (arith, block_behind at k.keeps.blocks s here)))
          (length (sectors_of at p.part.blocks)) es
          (ap (λ (ss : List ℕ). scan_of chunk ss (length (sectors_of at p.part.blocks)) mid)
          k.store_is
          ∙ ap (λ (m : ℕ). scan_of chunk (store_at d place) m mid) (sym part_long)
          ∙ scan) in
          ap (scan_read wanted) kept ∙ rw enough refl

      -- ---- what it means

      rule : IsTargetPart (other_slot i.slot) (layout_of i.source).parts (layout_of i.target).parts
          p.part
      rule =
          subst (λ (b : Bool).
          IsTargetPartBeside (other_slot i.slot) (twins_by b (layout_of i.source).parts)
          (layout_of i.source).parts (layout_of i.target).parts p.part) k.beside
          (All-contains
          (IsTargetPartBeside (other_slot i.slot) (twins_by i.base.apart (layout_of i.source).parts)
          (layout_of i.source).parts (layout_of i.target).parts)
          (own_parts (other_slot i.slot) (layout_of i.target).parts) p.part t.target.each p.there)

      begins : take (length source) p.part.blocks ≡ take (length p.part.blocks) source
      unfolding source
      begins =
          let again : other_slot (other_slot i.slot) ≡ i.slot = omega (arith, t.below) in
          let same : before_of (other_slot i.slot) (layout_of i.source).parts p.part.name
          ≡ blocks_named (in_slot i.slot name) (layout_of i.source).parts =
          (λ j. blocks_named (in_slot (again j) (p.named j)) (layout_of i.source).parts) in
          subst (λ (bs : List ℕ).
          take (length bs) p.part.blocks ≡ take (length p.part.blocks) bs) same rule.begins

      map_is : (planned_at d place).map ≡ sectors_of at p.part.blocks
      map_is = ap (λ (x : Part). x.map) p.planned

      begin_there : (j : ℕ)
          → j < length (planned_at d place).map
          → j < length (base_of_place d place)
          → get_or (planned_at d place).map j 0 ≡ get_or (base_of_place d place) j 0
      begin_there =
          subst (λ (own : List ℕ).
          (j : ℕ)
          → j < length own
          → j < length (base_of_place d place)
          → get_or own j 0 ≡ get_or (base_of_place d place) j 0) (sym map_is)
          (subst (λ (base : List ℕ).
          (j : ℕ)
          → j < length (sectors_of at p.part.blocks)
          → j < length base
          → get_or (sectors_of at p.part.blocks) j 0 ≡ get_or base j 0) (sym base_is)
          (begins_same at p.part.blocks source begins))

      bytes_mid : bytes_at mid (written_sectors (planned_at d place) chunk es)
          ≡ filled bytes (length (planned_at d place).map)
      bytes_mid =
          bytes_filled chunk (base_of_place d place) (planned_at d place).map (store_at d place)
          bytes es mid fits begin_there
          (λ j below past none.
          behind_end chunk (base_of_place d place) bytes old (length (planned_at d place).map) j
          below past
          (ap (λ (l : List Exception). stored_at chunk l j) (sym es_is) ∙ none))
          holds

      seen_high : (s : ℕ)
          → IsOfBlocks (written_sectors (planned_at d place) chunk es) s
          → 4096 ≤ s
      seen_high s seen =
          ⊎_elim
          (λ here.
          omega (
            arith,
            block_behind at k.keeps.blocks s
                (subst (λ (ss : List ℕ). IsOfBlocks ss s) (sym k.store_is) here),
          ))
          (λ own.
          omega (
            arith,
            block_behind at p.part.blocks s
                (subst (λ (ss : List ℕ). IsOfBlocks ss s) map_is own),
          ))
          (seen_or chunk (store_at d place) es 0 (planned_at d place).map s seen)

      count_is : length es ≡ n
      count_is =
          ap length es_is
          ∙ length-firsts (planned_exception chunk (differing_at chunk d place old bytes))
          (length (differing_at chunk d place old bytes))

      abbrev pub gated : Image
      gated = set_sector mid free spelled

      pub represents_stored : Represents (with_written d place chunk es) size gated
      represents_stored =
          represents_next d size old device_is i name place p k.keeps.blocks bytes belong mid
          (Stored (length es) chunk) chunk es free spelled mid_same wanted wanted_one scan_one
          free_is there decoded seen_high bytes_mid

      pub effect_stored : effect_on (mounted_on d old) staged (Flash name chunk)
          ≡ wanting true (does replies.Done (mounted_on (with_written d place chunk es) gated))
      effect_stored =
          let count = sym count_is in
          effect_room room
          ∙ (λ j. wanting true (flashed (mounted_on d old) d.mark.slot (plan_on d old)
          (entry_on old (planned_at d place)) bytes (count j)))
          ∙ ap (λ (m : Mounted). wanting true (does replies.Done m))
          (sym (mounted_next d size old device_is i name place p k.keeps.blocks bytes belong mid
          (Stored (length es) chunk) chunk es free spelled mid_same wanted wanted_one scan_one
          free_is there decoded seen_high bytes_mid))

    -- where memory is refused to it
    pub no_memory : needed_at chunk d place old bytes ≤ store_long d place
        → unless_refused true (effect_on (mounted_on d old) staged (Flash name chunk))
        ≡ refuses NoMemory
    no_memory room = ap (unless_refused true) (effect_room room)

    -- where the store has no room
    pub full_refused : (count : ℕ)
        → count ≡ n
        → store_long d place < need_at count chunk
        → effect_on (mounted_on d old) staged (Flash name chunk)
        ≡ refuses (StoreFull (need_at count chunk) (store_long d place))
    full_refused count is more =
        let needed : need_at n chunk ≡ need_at count chunk =
        ap (λ (m : ℕ). need_at m chunk) (sym is) in
        let none : nat_le (need_at n chunk) (store_long d place) ≡ false =
        lt-leb (need_at n chunk) (store_long d place) (omega (arith, needed, more)) in
        effect_full none ∙ (λ j. refuses (StoreFull (needed j) (store_long d place)))

-- A disk on which the last exceptions of a store are merged: what is read of it then, and what that
-- means.
use Rattle.std.proofs.Common.{◌≡◌, ◌≢◌, ◌⊎◌, ◌∙◌, inl, inr, ⊎_elim, ℕ, ◌+◌, ◌-◌, ◌*◌}
use Rattle.std.proofs.Common.{◌≤◌, ◌<◌, true, false, List, [], ◌∷◌, length, set, Ok}
use Rattle.std.proofs.Common.{refl, sym, ap, subst, arith}
use Rattle.std.specs.Prelude.{Bool, Option, Some, None, is_some, map, option_map}
use Rattle.std.specs.Prelude.{Contains, ◌&&◌, ◌==◌}
use Rattle.std.proofs.lemmas.Bool.{and_parts, leb-true}
use Rattle.vab_disk.specs.Disk.{Image}
use Rattle.vab_bootctl.specs.Control.{control_of}
use Rattle.vab_names.specs.Names.{is_of_slot, store_of}
use Rattle.vab_statuses.specs.Statuses.{written_in}
use Rattle.vab_geometry.specs.declared.geometry.Geometry.{Geometry}
use Rattle.vab_geometry.specs.Geometry.{IsGeometry}
use Rattle.vab_lpstore.specs.Layout.{copy_sectors, primary_of, backup_of}
use Rattle.vab_lpstore.proofs.StoreLaws.{copies_apart}
use Rattle.vab_exceptions.specs.declared.area.Exception.{Exception}
use Rattle.vab_store.specs.Layout.{IsApart, AreDisjoint}
use Rattle.vab_store.specs.Scan.{scan_of}
use Rattle.vab_store.specs.View.{Fits}
use Rattle.vab_layout.specs.declared.layout.Part.{Part as PartOfLayout}
use Rattle.vab_layout.specs.declared.layout.Layout.{Layout}
use Rattle.vab_layout.specs.Layout.{layout_of}
use Rattle.vab_layout.specs.Slots.{own_parts, is_updated}
use Rattle.vab_blocks.proofs.Contained.{first, later, of_filter}
use Rattle.vab_merge.specs.Merged.{WithoutLast}
use Rattle.vab_device.specs.declared.device.Part.{Part}
use Rattle.vab_device.specs.declared.device.PartImage.{PartImage}
use Rattle.vab_device.specs.declared.device.PartImage.TheVariants.{Kept, Declared, Written}
use Rattle.vab_device.specs.declared.device.Device.{Device}
use Rattle.vab_device.specs.Checks.{check, first_fault}
use Rattle.vab_device.specs.Kept.{copies_end, sectors_of}
use Rattle.vab_device.specs.Mounted.{blocks_there, bytes_at, image_on, mounted_on, count_in}
use Rattle.vab_device.specs.Mounted.{count_of}
use Rattle.vab_device.specs.Mounted.{sectors_by, sectors_read}
use Rattle.vab_device.specs.Phases.{planned_on, planned_image, plan_of, store_on, is_ready}
use Rattle.vab_device.specs.Phases.{are_ready}
use Rattle.vab_device.specs.Phases.{is_good}
use Rattle.vab_device.specs.declared.fault.StartFault.TheVariants.{BadState}
use Rattle.vab_bootctl.specs.Boot.{info_at}
use Rattle.vab_store.proofs.ViewLaws.{take_fits}
use Rattle.vab_device.specs.Reading.{Read, Represents, IsOfTables, IsOfBlocks}
use Rattle.vab_device.specs.Reading.{state_fault}
use Rattle.vab_device.specs.Stores.{Scanned, first_named, scanned_named, scans_in}
use Rattle.vab_device.specs.Updates.{merged_to}
use Rattle.vab_device.proofs.Behind.{seen_or}
use Rattle.vab_device.proofs.BlockLaws.{bytes_same}
use Rattle.vab_device.proofs.SameLaws.{mark_same, control_same, geometry_same, tables_agree}
use Rattle.vab_device.proofs.StayLaws.{copy_stays}
use Rattle.vab_device.proofs.StoreLaws.{statuses_kept}
use Rattle.vab_merging.specs.Part.{chunk_in, store_in}
use Rattle.vab_device.specs.Mounted.{exceptions_in}
use Rattle.vab_merging.specs.Turns.{own_of, with_own, part_at, cut_image, cut_part, cut_at}
use Rattle.vab_merging.specs.Turns.{left_in}
use Rattle.vab_merging.proofs.OwnLaws.{Single, mounted_with}
use Rattle.vab_merging.proofs.TurnLaws.{count_set}
use Rattle.vab_merging.proofs.MergesLaws.{merging_read, Merges, merges_represents, with_form}
use Rattle.vab_merging.proofs.MergesLaws.{own_is, Rules, written_on, Placed}
use Rattle.vab_device.proofs.NamedParts.{one_of_name}
use Rattle.vab_merging.proofs.ApartLaws.{InEither, either_behind, own_miss, store_miss}
use Rattle.vab_merging.proofs.ApartLaws.{part_once, keeps_once, part_keeps, sectors_once}
use Rattle.vab_device.proofs.PartBlocks.{sectors_disjoint}
use Rattle.vab_merging.proofs.ScansLaws.{cut_list, cut_of, cut_scan, scanned_own, scanned_other}
use Rattle.vab_merging.proofs.ScansLaws.{scanned_some, wants, scan_named, scans_then}
use Rattle.vab_merging.proofs.SeenLaws.{seen_same}
use Rattle.vab_device.proofs.NamedParts.{set_one}
use Rattle.vab_device.proofs.RepairLaws.{ends_within}
use Rattle.vab_device.specs.Reading.{version_at}
use Rattle.vab_device.proofs.MostLaws.{parts_under}
use Rattle.vab_device.proofs.SameLaws.{tail_kept, version_same}

-- ---- the copies of a table

-- a sector of a copy stands in front of where the copies end
copies_below : (g : Geometry) (slot s : ℕ) → IsGeometry g → slot < 2
    → IsOfTables g (slot ∷ []) s
    → 512 * (s + 1 - 4096) ≤ copies_end g
unfolding primary_of backup_of
copies_below g slot s is below (inl primary) =
    let apart : primary_of g slot + copy_sectors g ≤ backup_of g slot =
    copies_apart g slot (omega (arith, is.two, below)) in
    let end = ends_within g slot is below in
    omega (arith, primary.below, apart, end)
copies_below g slot s is below (inr (inl backup)) =
    let end = ends_within g slot is below in omega (arith, backup.below, end)
copies_below g slot s is below (inr (inr none)) = absurd none

-- ---- images with fewer exceptions

pub exceptions_count : (image : PartImage) → length (exceptions_in image) ≡ count_of image
exceptions_count Kept = refl
exceptions_count Declared = refl
exceptions_count (Written k es) = refl

planned_cut : (k : ℕ) (b : Bool) (o : Option Scanned)
    → planned_image b (option_map (cut_of k) o) ≡ cut_image k (planned_image b o)
planned_cut k false o = refl
planned_cut k true None = refl
planned_cut k true (Some s) = refl

ready_same : (b : Bool) (o u : Option Scanned)
    → is_some o ≡ is_some u
    → is_ready (planned_image b o) ≡ is_ready (planned_image b u)
ready_same false o u same = refl
ready_same true None None same = refl
ready_same true None (Some u) same = absurd cc
ready_same true (Some o) None same = absurd cc
ready_same true (Some o) (Some u) same = refl

all_ready : (l : Layout) (name : List ℕ) (k : ℕ) (ss : List Scanned) (ps : List PartOfLayout)
    → are_ready (map (planned_on l (map (cut_scan name k) ss)) ps)
    ≡ are_ready (map (planned_on l ss) ps)
all_ready l name k ss [] = refl
all_ready l name k ss (p ∷ ps) =
    let here = ready_same (is_updated p) (scanned_named p.name (map (cut_scan name k) ss))
    (scanned_named p.name ss) (scanned_some name p.name k ss) in
    let rest = all_ready l name k ss ps in
    (λ i. here i && rest i)

-- ---- one entry of a list

-- ---- a written partition of the device

module _ (d : Device) (size : ℕ) (old : Image) (i : Merges d size old) (single : Single d)
    (rules : Rules d size old i) (place : ℕ) (p : Placed d size old i place)
    (fits : Fits (chunk_in (part_at d place).image) (length (part_at d place).map)
    (store_in (part_at d place)) (exceptions_in (part_at d place).image)) where
  abbrev l : Layout
  l = layout_of i.table

  abbrev at : ℕ
  at = l.device.first_logical_sector

  abbrev owns : List PartOfLayout
  owns = own_parts i.slot l.parts

  abbrev base : List ℕ
  base = sectors_of at p.part.blocks

  abbrev store : List ℕ
  store = sectors_of at p.keeps.blocks

  -- a sector of the partition or of its store
  abbrev pub Touched : ℕ → Type 0
  Touched s = InEither i.slot l.parts p.part p.keeps rules.merging p.there p.own p.found at s

  -- as it is said of the partition that is kept
  pub touched_of : (s : ℕ)
      → IsOfBlocks (part_at d place).map s ⊎ IsOfBlocks (store_in (part_at d place)) s
      → Touched s
  touched_of s is =
      subst (λ (x : Part). IsOfBlocks x.map s ⊎ IsOfBlocks (store_in x) s) p.written is

  fits_here : Fits p.scan.chunk (length base) store p.scan.exceptions
  fits_here =
      subst
      (λ (x : Part).
      Fits (chunk_in x.image) (length x.map) (store_in x) (exceptions_in x.image))
      p.written fits

  -- ---- it may be merged

  pub base_apart : IsApart (part_at d place).map
  base_apart =
      subst (λ (x : Part). IsApart x.map) (sym p.written)
      (sectors_once at p.part.blocks
      (part_once i.slot l.parts p.part p.keeps rules.merging p.there p.own p.found))

  pub store_apart : IsApart (store_in (part_at d place))
  store_apart =
      subst (λ (x : Part). IsApart (store_in x)) (sym p.written)
      (sectors_once at p.keeps.blocks
      (keeps_once i.slot l.parts p.part p.keeps rules.merging p.there p.own p.found))

  pub disjoint : AreDisjoint (part_at d place).map (store_in (part_at d place))
  disjoint =
      subst (λ (x : Part). AreDisjoint x.map (store_in x)) (sym p.written)
      (sectors_disjoint at p.part.blocks p.keeps.blocks
      (part_keeps i.slot l.parts p.part p.keeps rules.merging p.there p.own p.found))

  scan_here : scan_of p.scan.chunk store (length base) old ≡ Ok p.scan.exceptions
  scan_here =
      scan_named i.slot l p.part p.keeps rules.merging p.there p.own p.part_is p.found old
      p.scan (written_in i.statuses) i.scanned i.reads.stores p.read

  -- a scan gives the exceptions that are kept
  pub scan_kept_is : scan_of (chunk_in (part_at d place).image) (store_in (part_at d place))
      (length (part_at d place).map) old
      ≡ Ok (exceptions_in (part_at d place).image)
  scan_kept_is =
      subst
      (λ (x : Part).
      scan_of (chunk_in x.image) (store_in x) (length x.map) old ≡ Ok (exceptions_in x.image))
      (sym p.written) scan_here

  behind_copies : copies_end i.geometry ≤ 512 * at
  behind_copies =
      let both = and_parts _ _ rules.table.lies in leb-true _ _ both.1

  behind_them : (s : ℕ) → Touched s → 4096 + at ≤ s
  behind_them s is =
      either_behind i.slot l.parts p.part p.keeps rules.merging p.there p.own p.found at s is

  -- ---- where all stays but for the partition and its store, and each block is seen as before

  module _ (k : ℕ) (new : Image)
      (few : k ≤ length (exceptions_in (part_at d place).image))
      (without : WithoutLast (chunk_in (part_at d place).image) (part_at d place).map
      (store_in (part_at d place)) (exceptions_in (part_at d place).image) k old new)
      (stay : (s : ℕ) → (Touched s → ⊥) → new s ≡ old s) where
    without_here : WithoutLast p.scan.chunk base store p.scan.exceptions k old new
    without_here =
        subst
        (λ (x : Part).
        WithoutLast (chunk_in x.image) x.map (store_in x) (exceptions_in x.image) k old new)
        p.written without

    low : (s : ℕ) → s < 4120 → new s ≡ old s
    low s below = stay s (λ is. omega (arith, behind_them s is, behind_copies, below))

    copies : (s : ℕ) → IsOfTables i.geometry (i.slot ∷ []) s → new s ≡ old s
    copies s is =
        stay s
        (λ either.
        omega (
          arith,
          behind_them s either,
          behind_copies,
          copies_below i.geometry i.slot s rules.geometry i.below is,
        ))

    abbrev pub scanned_then : List Scanned
    scanned_then = map (cut_scan p.part.name k) i.scanned

    stores_read : scans_in
        (map (wants i.slot l p.part p.keeps rules.merging p.there p.own p.part_is p.found)
        (written_in i.statuses)) new
        ≡ Ok scanned_then
    stores_read =
        scans_then i.slot l p.part p.keeps rules.merging p.there p.own p.part_is p.found
        p.scan k old new scan_here without_here.scanned stay (written_in i.statuses)
        i.scanned i.reads.stores

    abbrev read_then : Read
    read_then = merging_read i.base i.slot i.statuses i.seen i.tail i.geometry i.table scanned_then

    state_then : state_fault read_then ≡ None
    state_then =
        let ready = all_ready l p.part.name k i.scanned owns in
        (λ j.
        first_fault
        (check (i.seen.current == i.slot) (BadState 1)
        ∷ check (is_good (info_at i.seen i.slot)) (BadState 2)
        ∷ check (ready j) (BadState 3)
        ∷ []))
        ∙ i.reads.state

    -- ---- the partitions then

    own_entry : planned_on l scanned_then p.part ≡ cut_part k (planned_on l i.scanned p.part)
    own_entry =
        let image : planned_image (is_updated p.part) (scanned_named p.part.name scanned_then)
        ≡ cut_image k
        (planned_image (is_updated p.part) (scanned_named p.part.name i.scanned)) =
        ap (planned_image (is_updated p.part)) (scanned_own p.part.name k i.scanned)
        ∙ planned_cut k (is_updated p.part) (scanned_named p.part.name i.scanned) in
        (λ j. record (planned_on l i.scanned p.part) { image = image j })

    other_entry : (q : PartOfLayout)
        → q.name ≢ p.part.name
        → planned_on l scanned_then q ≡ planned_on l i.scanned q
    other_entry q differs =
        let same = scanned_other p.part.name q.name k i.scanned differs in
        (λ j. record (planned_on l i.scanned q) {
          image = planned_image (is_updated q) (same j);
        })

    pub own_then : set (own_of d) place (cut_part k (part_at d place))
        ≡ plan_of i.slot l scanned_then
    own_then =
        (λ j. set (own_is d size old i j) place (cut_part k (p.planned j)))
        ∙ ap (set (plan_of i.slot l i.scanned) place) (sym own_entry)
        ∙ set_one (planned_on l i.scanned) (planned_on l scanned_then) owns place p.part p.part
        p.within (p.at_place p.part) p.differ
        (λ q c differs. other_entry q differs)

    -- ---- what is read then

    version_then : version_at new ≡ version_at old
    version_then = version_same old new (low 2048 (omega arith))

    pub merges_then : Merges (cut_at place k d) size new
    merges_then = record {
      base = i.base;
      slot = i.slot;
      statuses = i.statuses;
      seen = i.seen;
      tail = i.tail;
      geometry = i.geometry;
      table = i.table;
      scanned = scanned_then;
      below = i.below;
      reads = record {
        enough = i.reads.enough;
        mark = mark_same old new (low 2048 (omega arith)) ∙ i.reads.mark;
        statuses =
            statuses_kept true old new version_then
            (λ reads s is. low s (omega (arith, is.below)))
            ∙ i.reads.statuses;
        control = control_same _ _ old new (low 4 (omega arith)) ∙ i.reads.control;
        tail =
            tail_kept i.base.physical size old new (λ some. low 2113 (omega arith))
            ∙ i.reads.tail;
        geometry =
            geometry_same i.tail.super_end old new (low 4104 (omega arith)) (low 4112 (omega arith))
            ∙ i.reads.geometry;
        tables =
            tables_agree i.tail.super_end i.geometry (i.slot ∷ []) old new copies
            ∙ i.reads.tables;
        parts = parts_under read_then old new version_then i.reads.parts;
        stores = stores_read;
        state = state_then;
      };
      is =
          ap (with_own d) own_then
          ∙ ap (λ (x : Device). with_own x (plan_of i.slot l scanned_then)) i.is
          ∙ with_form i.base i.slot i.statuses i.seen d.control i.tail i.geometry i.table i.scanned
          scanned_then
          i.below;
      control = ap control_of (low 4 (omega arith)) ∙ i.control;
      copies = (
        (
          i.copies.0.0,
          i.copies.0.1,
          copy_stays i.geometry i.slot i.copies.0.0 old new copies i.copies.0.2,
        ),
        tt,
      );
      version = version_then ∙ i.version;
    }

    pub represents_then : Represents (cut_at place k d) size new
    represents_then = merges_represents (cut_at place k d) size new merges_then

    -- ---- the images

    written_then : planned_on l scanned_then p.part
        ≡ written_on l p.part p.keeps p.scan.chunk (cut_list k p.scan.exceptions)
    written_then =
        own_entry
        ∙ ap (cut_part k) (sym p.planned ∙ p.written)

    own_image : image_on new (planned_on l scanned_then p.part)
        ≡ image_on old (planned_on l i.scanned p.part)
    own_image =
        let es : List Exception = p.scan.exceptions in
        let seen = seen_same p.scan.chunk base store es (cut_list k es) old new fits_here
        (take_fits (length base) store es (length es - k) (omega arith) fits_here)
        without_here.same in
        ap (image_on new) written_then
        ∙ (λ j. record (image_on old (written_on l p.part p.keeps p.scan.chunk es)) {
          bytes = seen j;
        })
        ∙ ap (image_on old) (sym (sym p.planned ∙ p.written))

    store_stays : (q : PartOfLayout) (o : Option PartOfLayout) (s : ℕ)
        → is_of_slot i.slot q.name ≡ true
        → first_named (store_of q.name) l.parts ≡ o
        → q.name ≢ p.part.name
        → IsOfBlocks (blocks_there (option_map (λ x. sectors_of at x.blocks) o)) s
        → Touched s
        → ⊥
    store_stays q None s of h differs is touched = is
    store_stays q (Some x) s of h differs is touched =
        store_miss i.slot l.parts p.part p.keeps rules.merging p.there p.own p.found at q.name x s
        of h differs is touched

    other_stays : (q : PartOfLayout) (image : PartImage) (s : ℕ)
        → Contains owns q
        → q.name ≢ p.part.name
        → IsOfBlocks (sectors_by (planned_on l i.scanned q) image) s
        → Touched s
        → ⊥
    other_stays q Kept s c differs is touched =
        own_miss i.slot l.parts p.part p.keeps rules.merging p.there p.own p.found at q s c differs
        is touched
    other_stays q Declared s c differs is touched =
        own_miss i.slot l.parts p.part p.keeps rules.merging p.there p.own p.found at q s c differs
        is touched
    other_stays q (Written k es) s c differs is touched =
        ⊎_elim
        (λ here.
        store_stays q (first_named (store_of q.name) l.parts) s
        (of_filter (λ x. is_of_slot i.slot x.name) l.parts q c).1 refl differs here touched)
        (λ there.
        own_miss i.slot l.parts p.part p.keeps rules.merging p.there p.own p.found at q s c differs
        there touched)
        (seen_or k (blocks_there (store_on l q.name)) es 0 (sectors_of at q.blocks) s is)

    other_image : (q : PartOfLayout)
        → Contains owns q
        → q.name ≢ p.part.name
        → image_on new (planned_on l scanned_then q) ≡ image_on old (planned_on l i.scanned q)
    other_image q c differs =
        let x : Part = planned_on l i.scanned q in
        let bytes : bytes_at new (sectors_read x) ≡ bytes_at old (sectors_read x) =
        bytes_same old new (sectors_read x)
        (λ s is. stay s (other_stays q x.image s c differs is)) in
        ap (image_on new) (other_entry q differs)
        ∙ (λ j. record (image_on old x) { bytes = bytes j })

    each_image : (q : PartOfLayout)
        → Contains owns q
        → image_on new (planned_on l scanned_then q) ≡ image_on old (planned_on l i.scanned q)
    each_image q c =
        ⊎_elim
        (λ here.
        subst
        (λ (x : PartOfLayout).
        image_on new (planned_on l scanned_then x) ≡ image_on old (planned_on l i.scanned x))
        (sym here) own_image)
        (λ differs. other_image q c differs)
        (one_of_name owns q p.part p.differ c p.there)

    all_images : (qs : List PartOfLayout)
        → ((q : PartOfLayout) → Contains qs q → Contains owns q)
        → map (image_on new) (map (planned_on l scanned_then) qs)
        ≡ map (image_on old) (map (planned_on l i.scanned) qs)
    all_images [] within = refl
    all_images (q ∷ qs) within =
        let here = each_image q (within q (first q qs)) in
        let rest = all_images qs (λ x c. within x (later q qs x c)) in
        (λ j. here j ∷ rest j)

    -- ---- what that means

    pub mounted_then : mounted_on (cut_at place k d) new
        ≡ merged_to (mounted_on d old) d.mark.slot (left_in d - k)
    mounted_then =
        let parts : List Part = set (own_of d) place (cut_part k (part_at d place)) in
        let images : map (image_on new) parts ≡ map (image_on old) (own_of d) =
        ap (map (image_on new)) own_then
        ∙ all_images owns (λ q c. c)
        ∙ sym (ap (map (image_on old)) (own_is d size old i)) in
        let count : count_in parts ≡ left_in d - k =
        count_set k (own_of d) place
        (omega (arith, few, exceptions_count (part_at d place).image)) in
        mounted_with d old new parts single images
        ∙ ap (merged_to (mounted_on d old) d.mark.slot) count

-- The blocks of partitions and of stores stand behind the copies of the tables.
use Rattle.std.proofs.Common.{◌≡◌, ◌⊎◌, inl, inr, ⊎_elim, ℕ, zero, suc, ◌+◌, ◌-◌, ◌*◌, ◌≤◌, true}
use Rattle.std.proofs.Common.{false, List, [], ◌∷◌, Result, Ok, Err, subst, leb, arith}
use Rattle.std.specs.Prelude.{Bool, Option, Some, None, map, slice_index_or, ◌==◌}
use Rattle.std.specs.Prelude.{option_map}
use Rattle.std.proofs.lemmas.Bool.{cases_Bool, and_parts, leb-true}
use Rattle.vab_disk.specs.Disk.{Image}
use Rattle.vab_names.specs.Names.{store_of}
use Rattle.vab_marks.specs.declared.mark.MarkPhase.{MarkPhase}
use Rattle.vab_marks.specs.declared.mark.MarkPhase.TheVariants as marks
use Rattle.vab_marks.specs.declared.mark.UpdateMark.{UpdateMark}
use Rattle.vab_marks.specs.declared.status.PartStatus.{PartStatus}
use Rattle.vab_marks.specs.declared.status.StatusImage.{StatusImage}
use Rattle.vab_marks.specs.declared.status.StatusImage.TheVariants.{Stored, InPlace}
use Rattle.vab_space.specs.declared.Chunk.{Chunk}
use Rattle.vab_exceptions.specs.declared.area.Exception.{Exception}
use Rattle.vab_store.specs.View.{stored_at}
use Rattle.vab_statuses.specs.Statuses.{written_in}
use Rattle.vab_geometry.specs.declared.geometry.Geometry.{Geometry}
use Rattle.vab_lpstore.specs.Loading.{slot_table}
use Rattle.vab_tables.specs.declared.table.Table.{Table}
use Rattle.vab_tables.specs.declared.fault.TableFault.{TableFault}
use Rattle.vab_layout.specs.declared.layout.Part.{Part as PartOfLayout}
use Rattle.vab_layout.specs.declared.layout.Layout.{Layout}
use Rattle.vab_layout.specs.Overlay.{Overlaid, overlaid_in}
use Rattle.vab_layout.specs.Layout.{layout_of}
use Rattle.vab_layout.specs.Slots.{other_slot, own_parts, is_updated}
use Rattle.vab_device.specs.declared.fault.StartFault.{StartFault}
use Rattle.vab_device.specs.declared.fault.StartFault.TheVariants.{BadTable}
use Rattle.vab_device.specs.declared.device.PartImage.{PartImage}
use Rattle.vab_device.specs.declared.device.PartImage.TheVariants.{Kept, Declared, Written}
use Rattle.vab_device.specs.Checks.{◌>>=◌}
use Rattle.vab_device.specs.Kept.{block_sector, sectors_of, part_on, copies_end, super_bytes}
use Rattle.vab_device.specs.Kept.{lies_in}
use Rattle.vab_device.specs.Mounted.{blocks_there, sectors_by}
use Rattle.vab_device.specs.Phases.{phase_in, phase_at, store_on, planned_on, planned_image}
use Rattle.vab_device.specs.Reading.{Read, table_read, table_at, tables_in, table_for, parts_for}
use Rattle.vab_device.specs.Reading.{parts_by, IsOfOverlay}
use Rattle.vab_device.specs.Reading.{read_table, kept, stores_of, Reads, IsOfBlocks, IsOfParts}
use Rattle.vab_device.specs.Reading.{IsOfImages, IsOfStores, IsOfWritten, IsOfPlanned, IsOfPlan}
use Rattle.vab_device.specs.Stores.{Wanted, Scanned, first_named, image_wanted, wanted_of, or_fewer}
use Rattle.vab_device.specs.Stores.{scanned_named, sector_seen, sectors_seen}
use Rattle.vab_device.proofs.CheckLaws.{bound}
use Rattle.vab_device.proofs.InStores.{IsInStores, in_stores}
use Rattle.vab_device.specs.Phases.{wanted_over, overlay_wanted, overlaid_on, image_over}
use Rattle.vab_device.specs.Phases.{overlay_of}

-- ---- partitions

blocks_from : (first low : ℕ) (blocks : List ℕ) (s : ℕ)
    → low ≤ 4096 + first
    → IsOfBlocks (map (block_sector first) blocks) s
    → low ≤ s
blocks_from first low [] s le is = absurd is
blocks_from first low (b ∷ bs) s le (inl is) = omega (arith, is.from, le)
blocks_from first low (b ∷ bs) s le (inr is) = blocks_from first low bs s le is

sectors_from : (first low : ℕ) (blocks : List ℕ) (s : ℕ)
    → low ≤ 4096 + first
    → IsOfBlocks (sectors_of first blocks) s
    → low ≤ s
unfolding sectors_of
sectors_from first low blocks s le is = blocks_from first low blocks s le is

parts_from : (first low : ℕ) (parts : List PartOfLayout) (s : ℕ)
    → low ≤ 4096 + first
    → IsOfParts (map (part_on first) parts) s
    → low ≤ s
parts_from first low [] s le is = absurd is
parts_from first low (p ∷ ps) s le (inl is) = sectors_from first low p.blocks s le is
parts_from first low (p ∷ ps) s le (inr is) = parts_from first low ps s le is

-- each of these tables' devices begins behind this sector
abbrev BeginBehind : ℕ → List Table → Type 0
BeginBehind low [] = Unit {0}
BeginBehind low (t ∷ ts) = (low ≤ 4096 + (layout_of t).device.first_logical_sector)
    × BeginBehind low ts

-- the table that was read has a device behind the copies
read_behind : (size : ℕ) (g : Geometry) (slot : ℕ) (x : Result Table (TableFault × TableFault))
    (t : Table)
    → table_read size g slot x ≡ Ok t
    → copies_end g ≤ 512 * (layout_of t).device.first_logical_sector
read_behind size g slot (Err faults) t is =
    absurd (let bad : (let r : Result Table StartFault = Err (BadTable slot) in r ≡ Ok t) = is in
    cc)
read_behind size g slot (Ok u) t is = elim (cases_Bool (lies_in size g (layout_of u).device)) [
  | inl lies ↦
      let same : (let r : Result Table StartFault = Ok u in r ≡ Ok t) = rw lies at is in
      let e : u ≡ t = cc in
      let both = and_parts
      (leb (layout_of u).device.size (super_bytes size))
      (leb (copies_end g) (512 * (layout_of u).device.first_logical_sector)) lies in
      subst (λ (x : Table). copies_end g ≤ 512 * (layout_of x).device.first_logical_sector) e
      (leb-true (copies_end g) (512 * (layout_of u).device.first_logical_sector) both.1)
  | inr fails ↦
      let bad : (let r : Result Table StartFault = Err (BadTable slot) in r ≡ Ok t) =
      rw fails at is in
      absurd cc
]

table_behind : (size : ℕ) (g : Geometry) (slot : ℕ) (image : Image) (t : Table)
    → table_at size g slot image ≡ Ok t
    → copies_end g ≤ 512 * (layout_of t).device.first_logical_sector
unfolding table_at
table_behind size g slot image t is = read_behind size g slot (slot_table g slot image) t is

tables_behind : (size low : ℕ) (g : Geometry) (slots : List ℕ) (image : Image) (ts : List Table)
    → 512 * (low - 4096) ≤ copies_end g
    → tables_in size g slots image ≡ Ok ts
    → BeginBehind low ts
tables_behind size low g [] image ts le is =
    let none : Ok [] ≡ Ok ts = is in
    let e : [] ≡ ts = cc in
    subst (BeginBehind low) e tt
tables_behind size low g (slot ∷ slots) image ts le is =
    let t = bound (table_at size g slot image)
    (λ t. tables_in size g slots image >>= λ ts. Ok (t ∷ ts)) ts is in
    let rest = bound (tables_in size g slots image) (λ ts. Ok (t.0 ∷ ts)) ts t.2 in
    let whole : Ok (t.0 ∷ rest.0) ≡ Ok ts = rest.2 in
    let e : t.0 ∷ rest.0 ≡ ts = cc in
    subst (BeginBehind low) e (
      omega (arith, table_behind size g slot image t.0 t.1, le),
      tables_behind size low g slots image rest.0 le rest.1,
    )

-- ---- stores

wanted_from : (may : Bool) (first low : ℕ) (name : List ℕ) (x : StatusImage)
    (p q : Option PartOfLayout) (ws : List (Result Wanted StartFault)) (s : ℕ)
    → low ≤ 4096 + first
    → IsInStores (image_wanted may first name x p q ∷ ws) s
    → (low ≤ s) ⊎ IsInStores ws s
wanted_from may first low name InPlace None q ws s le is = inr is
wanted_from may first low name InPlace (Some p) (Some q) ws s le is = inr is
wanted_from true first low name InPlace (Some p) None ws s le (inl is) = absurd is
wanted_from true first low name InPlace (Some p) None ws s le (inr is) = inr is
wanted_from false first low name InPlace (Some p) None ws s le is = inr is
wanted_from may first low name (Stored count k) None q ws s le is = inr is
wanted_from may first low name (Stored count k) (Some p) None ws s le is = inr is
wanted_from may first low name (Stored count k) (Some p) (Some q) ws s le (inl is) =
    inl (sectors_from first low q.blocks s le is)
wanted_from may first low name (Stored count k) (Some p) (Some q) ws s le (inr is) = inr is

stores_from : (may : Bool) (low slot : ℕ) (l : Layout) (statuses : List PartStatus) (s : ℕ)
    → low ≤ 4096 + l.device.first_logical_sector
    → IsInStores (map (wanted_of may slot l) statuses) s
    → low ≤ s
stores_from may low slot l [] s le is = absurd is
stores_from may low slot l (st ∷ sts) s le is =
    ⊎_elim (λ here. here) (λ there. stores_from may low slot l sts s le there)
    (wanted_from may l.device.first_logical_sector low st.name st.image
    (first_named st.name (own_parts slot l.parts)) (first_named (store_of st.name) l.parts)
    (map (wanted_of may slot l) sts) s le is)

-- whether there may be fewer exceptions or not
one_from : (w : Result Wanted StartFault) (ws : List (Result Wanted StartFault)) (s : ℕ)
    → IsInStores (or_fewer w ∷ ws) s
    → IsInStores (w ∷ []) s ⊎ IsInStores ws s
one_from (Ok w) ws s (inl is) = inl (inl is)
one_from (Ok w) ws s (inr is) = inr is
one_from (Err fault) ws s is = inr is

fewer_from : (low slot : ℕ) (l : Layout) (statuses : List PartStatus) (s : ℕ)
    → low ≤ 4096 + l.device.first_logical_sector
    → IsInStores (map (λ (st : PartStatus). or_fewer (wanted_of true slot l st)) statuses) s
    → low ≤ s
fewer_from low slot l [] s le is = absurd is
fewer_from low slot l (st ∷ sts) s le is =
    ⊎_elim (λ here. stores_from true low slot l (st ∷ []) s le here)
    (λ there. fewer_from low slot l sts s le there)
    (one_from (wanted_of true slot l st)
    (map (λ (st : PartStatus). or_fewer (wanted_of true slot l st)) sts) s is)

-- the store over a partition
over_from : (low : ℕ) (l : Layout) (o : Option Overlaid) (s : ℕ)
    → low ≤ 4096 + l.device.first_logical_sector
    → IsInStores (wanted_over l o) s
    → low ≤ s
over_from low l None s le is = absurd is
over_from low l (Some o) s le (inl is) =
    sectors_from l.device.first_logical_sector low o.store.blocks s le is
over_from low l (Some o) s le (inr is) = absurd is

over_wanted_from : (overlaid : Bool) (low slot : ℕ) (l : Layout) (s : ℕ)
    → low ≤ 4096 + l.device.first_logical_sector
    → IsInStores (overlay_wanted overlaid slot l) s
    → low ≤ s
over_wanted_from false low slot l s le is = absurd is
over_wanted_from true low slot l s le is =
    over_from low l (overlaid_in slot l.parts) s le is

phase_stores_from : (low : ℕ) (p : MarkPhase) (m : UpdateMark) (ts : List Table)
    (statuses : List PartStatus) (s : ℕ)
    → BeginBehind low ts
    → IsInStores ((phase_in p m).stores ts statuses) s
    → low ≤ s
phase_stores_from low marks.Idle m [] statuses s begin is = absurd is
phase_stores_from low marks.Idle m (t ∷ ts) statuses s begin is =
    over_wanted_from m.overlaid low m.slot (layout_of t) s begin.0 is
phase_stores_from low marks.Installing m [] statuses s begin is = absurd is
phase_stores_from low marks.Installing m (t ∷ []) statuses s begin is = absurd is
phase_stores_from low marks.Installing m (t ∷ u ∷ ts) statuses s begin is =
    stores_from m.apart low (other_slot m.slot) (layout_of u) statuses s begin.1.0 is
phase_stores_from low marks.Staged m [] statuses s begin is = absurd is
phase_stores_from low marks.Staged m (t ∷ []) statuses s begin is = absurd is
phase_stores_from low marks.Staged m (t ∷ u ∷ ts) statuses s begin is =
    stores_from m.apart low (other_slot m.slot) (layout_of u) statuses s begin.1.0 is
phase_stores_from low marks.Merging m [] statuses s begin is = absurd is
phase_stores_from low marks.Merging m (t ∷ ts) statuses s begin is =
    fewer_from low m.slot (layout_of t) statuses s begin.0 is
phase_stores_from low marks.Completed m ts statuses s begin is = absurd is

-- ---- the partitions that are planned

-- a block of a list, or what stands in place of it
block_or : (blocks : List ℕ) (n own s : ℕ)
    → IsOfBlocks (slice_index_or blocks n own ∷ []) s
    → IsOfBlocks blocks s ⊎ IsOfBlocks (own ∷ []) s
block_or [] n own s is = inr is
block_or (b ∷ bs) zero own s (inl is) = inl (inl is)
block_or (b ∷ bs) zero own s (inr is) = absurd is
block_or (b ∷ bs) (suc n) own s is =
    ⊎_elim (λ here. inl (inr here)) (λ there. inr there) (block_or bs n own s is)

chosen_or : (store : List ℕ) (own : ℕ) (chunk : Option ℕ) (s : ℕ)
    → IsOfBlocks (sector_seen store own chunk ∷ []) s
    → IsOfBlocks store s ⊎ IsOfBlocks (own ∷ []) s
chosen_or store own None s is = inr is
chosen_or store own (Some stored) s is = block_or store stored own s is

-- a sector that is seen is one of the store's or of the partition's own
pub seen_or : (k : Chunk) (store : List ℕ) (es : List Exception) (n : ℕ) (own : List ℕ) (s : ℕ)
    → IsOfBlocks (sectors_seen k store es n own) s
    → IsOfBlocks store s ⊎ IsOfBlocks own s
seen_or k store es n [] s is = absurd is
seen_or k store es n (b ∷ bs) s (inl is) =
    ⊎_elim (λ here. inl here) (λ there. inr (own_here there))
    (chosen_or store b (stored_at k es n) s (inl is))
  where
    own_here : IsOfBlocks (b ∷ []) s → IsOfBlocks (b ∷ bs) s
    own_here (inl here) = inl here
    own_here (inr none) = absurd none
seen_or k store es n (b ∷ bs) s (inr is) =
    ⊎_elim (λ here. inl here) (λ there. inr (inr there)) (seen_or k store es (n + 1) bs s is)

store_from : (first low : ℕ) (q : Option PartOfLayout) (s : ℕ)
    → low ≤ 4096 + first
    → IsOfBlocks (blocks_there (option_map (λ q. sectors_of first q.blocks) q)) s
    → low ≤ s
store_from first low None s le is = absurd is
store_from first low (Some q) s le is = sectors_from first low q.blocks s le is

-- a sector of a partition of the target, through its store
through_from : (low : ℕ) (l : Layout) (ss : List Scanned) (p : PartOfLayout) (image : PartImage)
    (s : ℕ)
    → low ≤ 4096 + l.device.first_logical_sector
    → IsOfBlocks (sectors_by (planned_on l ss p) image) s
    → low ≤ s
through_from low l ss p Kept s le is =
    sectors_from l.device.first_logical_sector low p.blocks s le is
through_from low l ss p Declared s le is =
    sectors_from l.device.first_logical_sector low p.blocks s le is
through_from low l ss p (Written k es) s le is =
    let first = l.device.first_logical_sector in
    ⊎_elim
    (λ here. store_from first low (first_named (store_of p.name) l.parts) s le here)
    (λ there. sectors_from first low p.blocks s le there)
    (seen_or k (blocks_there (store_on l p.name)) es 0 (sectors_of first p.blocks) s is)

written_from : (low : ℕ) (l : Layout) (ss : List Scanned) (p : PartOfLayout) (image : PartImage)
    (s : ℕ)
    → low ≤ 4096 + l.device.first_logical_sector
    → IsOfWritten (planned_on l ss p) image s
    → low ≤ s
written_from low l ss p Kept s le is = absurd is
written_from low l ss p Declared s le is = absurd is
written_from low l ss p (Written k es) s le is = through_from low l ss p (Written k es) s le is

targets_from : (low : ℕ) (l : Layout) (ss : List Scanned) (parts : List PartOfLayout) (s : ℕ)
    → low ≤ 4096 + l.device.first_logical_sector
    → IsOfParts (map (planned_on l ss) parts) s
    → low ≤ s
targets_from low l ss [] s le is = absurd is
targets_from low l ss (p ∷ ps) s le (inl is) =
    through_from low l ss p (planned_image (is_updated p) (scanned_named p.name ss)) s le is
targets_from low l ss (p ∷ ps) s le (inr is) = targets_from low l ss ps s le is

slot_from : (low slot : ℕ) (through : Bool) (ss : List Scanned) (t : Table) (s : ℕ)
    → low ≤ 4096 + (layout_of t).device.first_logical_sector
    → IsOfParts (parts_by slot through ss t) s
    → low ≤ s
slot_from low slot false ss t s le is =
    parts_from (layout_of t).device.first_logical_sector low (own_parts slot (layout_of t).parts) s
    le is
slot_from low slot true ss t s le is =
    targets_from low (layout_of t) ss (own_parts slot (layout_of t).parts) s le is

for_from : (low slot : ℕ) (b through : Bool) (ss : List Scanned) (slots : List ℕ)
    (ts : List Table) (s : ℕ)
    → BeginBehind low ts
    → IsOfImages (parts_for slot b through ss (table_for slot slots ts)) s
    → low ≤ s
for_from low slot false through ss slots ts s begin is = absurd is
for_from low slot true through ss [] ts s begin is = absurd is
for_from low slot true through ss (k ∷ ks) [] s begin is = absurd is
for_from low slot true through ss (k ∷ ks) (t ∷ ts) s begin is = elim (cases_Bool (k == slot)) [
  | inl here ↦ slot_from low slot through ss t s begin.0 (rw here at is)
  | inr other ↦ for_from low slot true through ss ks ts s begin.1 (rw other at is)
]

planned_from : (low : ℕ) (l : Layout) (ss : List Scanned) (parts : List PartOfLayout) (s : ℕ)
    → low ≤ 4096 + l.device.first_logical_sector
    → IsOfPlanned (map (planned_on l ss) parts) s
    → low ≤ s
planned_from low l ss [] s le is = absurd is
planned_from low l ss (p ∷ ps) s le (inl is) =
    written_from low l ss p (planned_image (is_updated p) (scanned_named p.name ss)) s le is
planned_from low l ss (p ∷ ps) s le (inr is) = planned_from low l ss ps s le is

phase_plan_from : (low : ℕ) (p : MarkPhase) (m : UpdateMark) (ts : List Table)
    (ss : List Scanned) (s : ℕ)
    → BeginBehind low ts
    → IsOfPlan ((phase_in p m).plan ts ss) s
    → low ≤ s
phase_plan_from low marks.Idle m ts ss s begin is = absurd is
phase_plan_from low marks.Installing m [] ss s begin is = absurd is
phase_plan_from low marks.Installing m (t ∷ []) ss s begin is = absurd is
phase_plan_from low marks.Installing m (t ∷ u ∷ ts) ss s begin is =
    planned_from low (layout_of u) ss (own_parts (other_slot m.slot) (layout_of u).parts) s
    begin.1.0 is
phase_plan_from low marks.Staged m ts ss s begin is = absurd is
phase_plan_from low marks.Merging m ts ss s begin is = absurd is
phase_plan_from low marks.Completed m ts ss s begin is = absurd is

-- ---- the one that is overlaid

-- a sector of it, through its store
read_from : (low : ℕ) (l : Layout) (ss : List Scanned) (o : Overlaid) (image : PartImage) (s : ℕ)
    → low ≤ 4096 + l.device.first_logical_sector
    → IsOfBlocks (sectors_by (overlaid_on l ss o) image) s
    → low ≤ s
read_from low l ss o Kept s le is =
    sectors_from l.device.first_logical_sector low o.part.blocks s le is
read_from low l ss o Declared s le is =
    sectors_from l.device.first_logical_sector low o.part.blocks s le is
read_from low l ss o (Written k es) s le is =
    let first = l.device.first_logical_sector in
    ⊎_elim
    (λ here. sectors_from first low o.store.blocks s le here)
    (λ own. sectors_from first low o.part.blocks s le own)
    (seen_or k (sectors_of first o.store.blocks) es 0 (sectors_of first o.part.blocks) s is)

overlaid_from : (low : ℕ) (l : Layout) (ss : List Scanned) (o : Option Overlaid) (s : ℕ)
    → low ≤ 4096 + l.device.first_logical_sector
    → IsOfOverlay (option_map (overlaid_on l ss) o) s
    → low ≤ s
overlaid_from low l ss None s le is = absurd is
overlaid_from low l ss (Some o) s le is =
    read_from low l ss o (image_over (scanned_named o.part.name ss)) s le is

overlay_from : (overlaid : Bool) (low slot : ℕ) (l : Layout) (ss : List Scanned) (s : ℕ)
    → low ≤ 4096 + l.device.first_logical_sector
    → IsOfOverlay (overlay_of overlaid slot l ss) s
    → low ≤ s
overlay_from false low slot l ss s le is = absurd is
overlay_from true low slot l ss s le is =
    overlaid_from low l ss (overlaid_in slot l.parts) s le is

phase_overlay_from : (low : ℕ) (p : MarkPhase) (m : UpdateMark) (ts : List Table)
    (ss : List Scanned) (s : ℕ)
    → BeginBehind low ts
    → IsOfOverlay ((phase_in p m).overlay ts ss) s
    → low ≤ s
phase_overlay_from low marks.Idle m [] ss s begin is = absurd is
phase_overlay_from low marks.Idle m (t ∷ ts) ss s begin is =
    overlay_from m.overlaid low m.slot (layout_of t) ss s begin.0 is
phase_overlay_from low marks.Installing m ts ss s begin is = absurd is
phase_overlay_from low marks.Staged m ts ss s begin is = absurd is
phase_overlay_from low marks.Merging m ts ss s begin is = absurd is
phase_overlay_from low marks.Completed m ts ss s begin is = absurd is

-- ---- all that is read

-- the tables of a reading begin behind the copies
read_begins : (size low : ℕ) (r : Read) (image : Image)
    → Reads size r image
    → 512 * (low - 4096) ≤ copies_end r.geometry
    → BeginBehind low r.tables
read_begins size low r image reads le =
    tables_behind r.tail.super_end low r.geometry (phase_at r.mark).tables image r.tables le
    reads.tables

-- a sector of an image stands behind the copies
pub images_behind : (size low slot : ℕ) (b through : Bool) (r : Read) (image : Image) (s : ℕ)
    → Reads size r image
    → 512 * (low - 4096) ≤ copies_end r.geometry
    → IsOfImages (parts_for slot b through r.scanned (read_table slot r)) s
    → low ≤ s
images_behind size low slot b through r image s reads le is =
    for_from low slot b through r.scanned (phase_at r.mark).tables r.tables s
    (read_begins size low r image reads le)
    is

-- so does one of a store that is read
pub stores_behind : (size low : ℕ) (r : Read) (image : Image) (s : ℕ)
    → Reads size r image
    → 512 * (low - 4096) ≤ copies_end r.geometry
    → IsOfStores (stores_of r) r.scanned s
    → low ≤ s
stores_behind size low r image s reads le is =
    phase_stores_from low r.mark.phase r.mark r.tables (written_in r.statuses) s
    (read_begins size low r image reads le)
    (in_stores (stores_of r) r.scanned image s reads.stores is)

-- and one of a written partition
pub plan_behind : (size low : ℕ) (r : Read) (image : Image) (s : ℕ)
    → Reads size r image
    → 512 * (low - 4096) ≤ copies_end r.geometry
    → IsOfPlan (kept r).plan s
    → low ≤ s
plan_behind size low r image s reads le is =
    phase_plan_from low r.mark.phase r.mark r.tables r.scanned s
    (read_begins size low r image reads le)
    is

-- and one of the overlaid partition
pub overlay_behind : (size low : ℕ) (r : Read) (image : Image) (s : ℕ)
    → Reads size r image
    → 512 * (low - 4096) ≤ copies_end r.geometry
    → IsOfOverlay (kept r).overlay s
    → low ≤ s
overlay_behind size low r image s reads le is =
    phase_overlay_from low r.mark.phase r.mark r.tables r.scanned s
    (read_begins size low r image reads le)
    is

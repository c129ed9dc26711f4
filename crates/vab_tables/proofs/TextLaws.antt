-- What is read is what the text stands for: the two laws between the relation and the reading. And
-- texts with no header.
use Rattle.std.proofs.Common.{◌≡◌, ◌≢◌, ℕ, ◌+◌, ◌*◌, ◌^◌, ◌<◌, ◌≤◌, Bool, true, false, ◌&&◌, cond}
use Rattle.std.proofs.Common.{eqb, ltb, leb, List, [], ◌∷◌, ◌++◌, length, take, replicate, Some, Ok}
use Rattle.std.proofs.Common.{Err, refl, sym, ap, subst, ◌∙◌, arith}
use Rattle.std.specs.List.{flat_map}
use Rattle.std.specs.Int.{w32, from_le_bytes}
use Rattle.std.proofs.lemmas.Bool.{and_parts, and_from, leb-true, ltb-true, eqb-true, le-leb}
use Rattle.std.proofs.lemmas.Bool.{lt-leb, eq-eqb, and_left, and_right}
use Rattle.std.proofs.lemmas.List.{append-nil, take_at, take_all}
use Rattle.std.proofs.lemmas.Slice.Eq.{bytes_eq-Decides}
use Rattle.vab_bytes.specs.Number.{IsBytes, field, le_at}
use Rattle.vab_bytes.proofs.NumberLaws.{length-field, IsBytes-field, le_at_fits_32}
use Rattle.vab_tables.specs.declared.entries.Partition.{Partition}
use Rattle.vab_tables.specs.declared.entries.Extent.{Extent}
use Rattle.vab_tables.specs.declared.entries.Group.{Group}
use Rattle.vab_tables.specs.declared.entries.BlockDevice.{BlockDevice}
use Rattle.vab_tables.specs.declared.table.Table.{Table}
use Rattle.vab_tables.specs.declared.fault.EntryKind.TheVariants as kinds
use Rattle.vab_tables.specs.declared.fault.TableFault.{TableFault}
use Rattle.vab_tables.specs.declared.fault.TableFault.TheVariants as faults
use Rattle.vab_tables.specs.Entries.{partition_bytes, extent_bytes, group_bytes, device_bytes}
use Rattle.vab_tables.specs.Entries.{partition_of, extent_of, group_of, device_of, FitsPartition}
use Rattle.vab_tables.specs.Entries.{FitsExtent, FitsGroup}
use Rattle.vab_tables.specs.Rules.{IsGroup, IsExtent, IsPartition, device_passes}
use Rattle.vab_tables.specs.Text.{sum_of, magic_at, major_at, minor_at, header_size_at}
use Rattle.vab_tables.specs.Text.{header_sum_at, tables_size_at, tables_sum_at, offset_at, count_at}
use Rattle.vab_tables.specs.Text.{entry_size_at, flags_at, header_size_of, blank_header, tables_at}
use Rattle.vab_tables.specs.Text.{area_at, Lists, IsTableText}
use Rattle.vab_tables.specs.Reading.{◌>>=◌, has_header, has_version, has_header_sum, has_size}
use Rattle.vab_tables.specs.Reading.{has_tables_sum, is_bounded, has_bounds, unless, frame_of}
use Rattle.vab_tables.specs.Reading.{entry_or, device_in, group_joins, extent_joins}
use Rattle.vab_tables.specs.Reading.{partition_joins, groups_in, extents_in, partitions_in}
use Rattle.vab_tables.specs.Reading.{table_of}
use Rattle.vab_tables.proofs.EntryLaws.{partitions_spelled, extents_spelled, groups_spelled}
use Rattle.vab_tables.proofs.EntryLaws.{devices_spelled}
use Rattle.vab_tables.proofs.RuleLaws.{device_found, device_only, groups_judged, extents_judged}
use Rattle.vab_tables.proofs.RuleLaws.{partitions_judged}
use Rattle.vab_tables.proofs.ListLaws.{bind_ok, ok_is, entry_is, entry_ok, all_found, all_only}

-- ---- the frame

-- each test of the whole text passes
record Passes (max : ℕ) (text : List ℕ) : Type 0 where
  header : has_header text ≡ true
  version : has_version text ≡ true
  header_sum : has_header_sum text ≡ true
  size : has_size max text ≡ true
  tables_sum : has_tables_sum text ≡ true
  bounds : has_bounds text ≡ true

unless_ok : (b : Bool) (fault : TableFault) (u : Unit {0}) → unless b fault ≡ Ok u → b ≡ true
unless_ok true fault u h = refl
unless_ok false fault u h = absurd cc

frame_found : (max : ℕ) (text : List ℕ) (u : Unit {0}) → frame_of max text ≡ Ok u → Passes max text
unfolding frame_of
frame_found max text u h =
    let t6 = unless (has_bounds text) faults.BadBounds in
    let t5 = unless (has_tables_sum text) faults.BadTablesSum in
    let t4 = unless (has_size max text) faults.BadSize in
    let t3 = unless (has_header_sum text) faults.BadHeaderSum in
    let t2 = unless (has_version text) faults.BadVersion in
    let a =
    bind_ok (unless (has_header text) faults.NoHeader)
    (λ _. t2 >>= λ _. t3 >>= λ _. t4 >>= λ _. t5 >>= λ _. t6) u h in
    let b = bind_ok t2 (λ _. t3 >>= λ _. t4 >>= λ _. t5 >>= λ _. t6) u a.2 in
    let c = bind_ok t3 (λ _. t4 >>= λ _. t5 >>= λ _. t6) u b.2 in
    let d = bind_ok t4 (λ _. t5 >>= λ _. t6) u c.2 in
    let e = bind_ok t5 (λ _. t6) u d.2 in
    record {
      header = unless_ok (has_header text) faults.NoHeader a.0 a.1;
      version = unless_ok (has_version text) faults.BadVersion b.0 b.1;
      header_sum = unless_ok (has_header_sum text) faults.BadHeaderSum c.0 c.1;
      size = unless_ok (has_size max text) faults.BadSize d.0 d.1;
      tables_sum = unless_ok (has_tables_sum text) faults.BadTablesSum e.0 e.1;
      bounds = unless_ok (has_bounds text) faults.BadBounds u e.2;
    }

frame_only : (max : ℕ) (text : List ℕ) → Passes max text → frame_of max text ≡ Ok tt
unfolding frame_of
frame_only max text p = rw (p.header, p.version, p.header_sum, p.size, p.tables_sum, p.bounds) refl

-- ---- what the tests say

header_is : (text : List ℕ) → has_header text ≡ true
    → (128 ≤ length text) × (magic_at text ≡ 0x414C5030)
unfolding has_header
header_is text h = let a = and_parts (leb 128 (length text)) (eqb (magic_at text) 0x414C5030) h in
    (leb-true _ _ a.0, eqb-true _ _ a.1)

header_ok : (text : List ℕ) → 128 ≤ length text → magic_at text ≡ 0x414C5030
    → has_header text ≡ true
unfolding has_header
header_ok text long magic = and_from _ _ (le-leb _ _ long) (eq-eqb _ _ magic)

record Version (text : List ℕ) : Type 0 where
  major : major_at text ≡ 10
  minor : minor_at text ≤ 2
  size : header_size_at text ≡ header_size_of (minor_at text)
  whole : header_size_at text ≤ length text

version_is : (text : List ℕ) → has_version text ≡ true → Version text
unfolding has_version
version_is text h =
    let t0 = eqb (major_at text) 10 in
    let t1 = leb (minor_at text) 2 in
    let t2 = eqb (header_size_at text) (header_size_of (minor_at text)) in
    let a = and_parts (t0 && t1 && t2) (leb (header_size_at text) (length text)) h in
    let b = and_parts (t0 && t1) t2 a.0 in
    let c = and_parts t0 t1 b.0 in
    record {
      major = eqb-true _ _ c.0;
      minor = leb-true _ _ c.1;
      size = eqb-true _ _ b.1;
      whole =
          leb-true _ _ a.1;
    }

version_ok : (text : List ℕ) → Version text → has_version text ≡ true
unfolding has_version
version_ok text v =
    and_from _ _
    (and_from _ _ (and_from _ _ (eq-eqb _ _ v.major) (le-leb _ _ v.minor)) (eq-eqb _ _ v.size))
    (le-leb _ _ v.whole)

header_sum_is : (text : List ℕ) → has_header_sum text ≡ true
    → header_sum_at text ≡ sum_of (blank_header text)
unfolding has_header_sum
header_sum_is text h = (bytes_eq-Decides (header_sum_at text) (sum_of (blank_header text))).0 h

header_sum_ok : (text : List ℕ) → header_sum_at text ≡ sum_of (blank_header text)
    → has_header_sum text ≡ true
unfolding has_header_sum
header_sum_ok text h = (bytes_eq-Decides (header_sum_at text) (sum_of (blank_header text))).1 h

tables_sum_is : (text : List ℕ) → has_tables_sum text ≡ true
    → tables_sum_at text ≡ sum_of (tables_at text)
unfolding has_tables_sum
tables_sum_is text h = (bytes_eq-Decides (tables_sum_at text) (sum_of (tables_at text))).0 h

tables_sum_ok : (text : List ℕ) → tables_sum_at text ≡ sum_of (tables_at text)
    → has_tables_sum text ≡ true
unfolding has_tables_sum
tables_sum_ok text h = (bytes_eq-Decides (tables_sum_at text) (sum_of (tables_at text))).1 h

size_is : (max : ℕ) (text : List ℕ) → has_size max text ≡ true
    → (header_size_at text + tables_size_at text ≤ max)
    × (header_size_at text + tables_size_at text ≤ length text)
unfolding has_size
size_is max text h =
    let end = header_size_at text + tables_size_at text in
    let a = and_parts (leb end max) (leb end (length text)) h in
    (leb-true _ _ a.0, leb-true _ _ a.1)

size_ok : (max : ℕ) (text : List ℕ) → header_size_at text + tables_size_at text ≤ max
    → header_size_at text + tables_size_at text ≤ length text → has_size max text ≡ true
unfolding has_size
size_ok max text a b = and_from _ _ (le-leb _ _ a) (le-leb _ _ b)

bounded_is : (text : List ℕ) (descriptor size : ℕ) → is_bounded text descriptor size ≡ true
    → (entry_size_at text descriptor ≡ size)
    × (offset_at text descriptor + count_at text descriptor * size ≤ tables_size_at text)
unfolding is_bounded
bounded_is text descriptor size h =
    let a =
    and_parts (eqb (entry_size_at text descriptor) size)
    (leb (offset_at text descriptor + count_at text descriptor * size) (tables_size_at text)) h
    in
    (eqb-true _ _ a.0, leb-true _ _ a.1)

bounded_ok : {E : Type 0} (text : List ℕ) (descriptor size : ℕ) (spell : E
    → List ℕ) (entries : List E) → Lists text descriptor size spell entries
    → is_bounded text descriptor size ≡ true
unfolding is_bounded
bounded_ok text descriptor size spell entries l =
    let many : count_at text descriptor * size ≡ length entries * size =
    ap (λ (k : ℕ). k * size) l.count in
    and_from _ _ (eq-eqb _ _ l.entry_size) (le-leb _ _ (omega (arith, l.within, many)))

record Bounds (text : List ℕ) : Type 0 where
  partitions : is_bounded text 80 52 ≡ true
  extents : is_bounded text 92 24 ≡ true
  groups : is_bounded text 104 48 ≡ true
  devices : is_bounded text 116 64 ≡ true

bounds_are : (text : List ℕ) → has_bounds text ≡ true → Bounds text
unfolding has_bounds
bounds_are text h =
    let t0 = is_bounded text 80 52 in
    let t1 = is_bounded text 92 24 in
    let t2 = is_bounded text 104 48 in
    let t3 = is_bounded text 116 64 in
    let a = and_parts (t0 && t1 && t2) t3 h in
    let b = and_parts (t0 && t1) t2 a.0 in
    let c = and_parts t0 t1 b.0 in
    record { partitions = c.0; extents = c.1; groups = b.1; devices = a.1 }

bounds_ok : (text : List ℕ) → Bounds text → has_bounds text ≡ true
unfolding has_bounds
bounds_ok text b =
    and_from _ _ (and_from _ _ (and_from _ _ b.partitions b.extents) b.groups) b.devices

-- ---- areas

length-tables : (text : List ℕ) → header_size_at text + tables_size_at text ≤ length text
    → length (tables_at text) ≡ tables_size_at text
unfolding tables_at
length-tables text h = length-field text (header_size_at text) (tables_size_at text) h

length-area : (text : List ℕ) (descriptor size : ℕ)
    → header_size_at text + tables_size_at text ≤ length text
    → is_bounded text descriptor size ≡ true
    → length (area_at text descriptor size) ≡ count_at text descriptor * size
unfolding area_at
length-area text descriptor size whole h =
    length-field (tables_at text) (offset_at text descriptor) (count_at text descriptor * size)
    (omega (arith, length-tables text whole, (bounded_is text descriptor size h).1))

IsBytes-area : (text : List ℕ) (descriptor size : ℕ) → IsBytes text
    → IsBytes (area_at text descriptor size)
unfolding area_at tables_at
IsBytes-area text descriptor size h =
    IsBytes-field (field text (header_size_at text) (tables_size_at text))
    (offset_at text descriptor) (count_at text descriptor * size)
    (IsBytes-field text (header_size_at text) (tables_size_at text) h)

lists_are : {E : Type 0} (text : List ℕ) (descriptor size : ℕ) (spell : E
    → List ℕ) (entries : List E) → is_bounded text descriptor size ≡ true
    → length entries ≡ count_at text descriptor
    → area_at text descriptor size ≡ flat_map spell entries
    → Lists text descriptor size spell entries
lists_are text descriptor size spell entries h count spelled =
    let b = bounded_is text descriptor size h in
    let many : length entries * size ≡ count_at text descriptor * size =
    ap (λ (k : ℕ). k * size) count in
    record {
      entry_size = b.0;
      count = sym count;
      within = omega (arith, b.1, many);
      spelled =
          spelled;
    }

-- ---- the block device

device_in_is : (count : ℕ) (area : List ℕ) (d : BlockDevice) → device_in count area ≡ Ok d
    → (count ≡ 1) × (device_of (field area 0 64) ≡ Some d) × (device_passes d ≡ true)
unfolding device_in
device_in_is count area d h =
    let missing = faults.BadEntry kinds.Device 0 in
    let second = faults.BadEntry kinds.Device 1 in
    let read = entry_or missing device_passes (device_of (field area 0 64)) in
    let a =
    bind_ok (unless (ltb 0 count) missing)
    (λ _. read >>= λ x. unless (ltb count 2) second >>= λ _. Ok x) d h in
    let b = bind_ok read (λ x. unless (ltb count 2) second >>= λ _. Ok x) d a.2 in
    let c = bind_ok (unless (ltb count 2) second) (λ _. Ok b.0) d b.2 in
    let some : 0 < count = ltb-true 0 count (unless_ok (ltb 0 count) missing a.0 a.1) in
    let few : count < 2 = ltb-true count 2 (unless_ok (ltb count 2) second c.0 c.1) in
    let e = entry_is missing device_passes (device_of (field area 0 64)) b.0 b.1 in
    subst (λ (x : BlockDevice). (count ≡ 1) × (device_of (field area 0 64) ≡ Some x)
    × (device_passes x ≡ true)) (ok_is b.0 d c.2) (omega (arith, some, few), e.0, e.1)

device_in_ok : (count : ℕ) (area : List ℕ) (d : BlockDevice) → count ≡ 1
    → device_of (field area 0 64) ≡ Some d → device_passes d ≡ true → device_in count area ≡ Ok d
unfolding device_in
device_in_ok count area d one read passes =
    rw (
      one,
      entry_ok (faults.BadEntry kinds.Device 0) device_passes (device_of (field area 0 64)) d
          read passes,
    ) refl

-- ---- what is read is a text of that table

-- the table that a text gives where its parts are these
abbrev made : List ℕ → BlockDevice → List Group → List Extent → List Partition → Table
made text device groups extents partitions =
    record {
      partitions = partitions;
      extents = extents;
      groups = groups;
      devices =
          device ∷ [];
      minor = minor_at text;
      flags = flags_at text;
    }

flags_fit : (text : List ℕ) → IsBytes text → flags_at text < 2 ^ 32
unfolding flags_at
flags_fit text h =
    elim (eqb (minor_at text) 2) as (λ b. cond b (le_at w32 text 128) 0 < 2 ^ 32) [
      | true ↦
          le_at_fits_32 text 128 h
      | false ↦ omega arith
    ]

found_parts : (max : ℕ) (text : List ℕ) (device : BlockDevice) (groups : List Group)
    (extents : List Extent) (partitions : List Partition) → IsBytes text → Passes max text
    → device_in (count_at text 116) (area_at text 116 64) ≡ Ok device
    → groups_in (count_at text 104) (area_at text 104 48) ≡ Ok groups
    → extents_in device (count_at text 92) (area_at text 92 24) ≡ Ok extents
    → partitions_in (minor_at text) (length extents) (length groups) (count_at text 80)
    (area_at text 80 52) ≡ Ok partitions
    → IsTableText max text (made text device groups extents partitions)
unfolding groups_in extents_in partitions_in
found_parts max text device groups extents partitions bytes p hd hg he hp =
    let head = header_is text p.header in
    let version = version_is text p.version in
    let size = size_is max text p.size in
    let b = bounds_are text p.bounds in
    let d = device_in_is (count_at text 116) (area_at text 116 64) device hd in
    let many : count_at text 116 * 64 ≡ 64 = ap (λ (k : ℕ). k * 64) d.0 in
    let dlen : length (area_at text 116 64) ≡ 64 = length-area text 116 64 size.1 b.devices
    ∙ many in
    let whole : field (area_at text 116 64) 0 64 ≡ area_at text 116 64 =
    take_all 64 (area_at text 116 64) (omega (arith, dlen)) in
    let spelled =
    devices_spelled.from (field (area_at text 116 64) 0 64) device
    (length-field (area_at text 116 64) 0 64 (omega (arith, dlen)))
    (IsBytes-field (area_at text 116 64) 0 64 (IsBytes-area text 116 64 bytes)) d.1 in
    let g =
    all_found kinds.Group 48 group_bytes group_of group_joins FitsGroup IsGroup
    (λ a b. a.name ≢ b.name) groups_spelled groups_judged (area_at text 104 48)
    (IsBytes-area text 104 48 bytes) (count_at text 104) groups
    (length-area text 104 48 size.1 b.groups) hg in
    let e =
    all_found kinds.Extent 24 extent_bytes extent_of (extent_joins device) FitsExtent
    (IsExtent device) (λ _ _. Unit {0}) extents_spelled (extents_judged device)
    (area_at text 92 24) (IsBytes-area text 92 24 bytes) (count_at text 92) extents
    (length-area text 92 24 size.1 b.extents) he in
    let q =
    all_found kinds.Partition 52 partition_bytes partition_of
    (partition_joins (minor_at text) (length extents) (length groups)) FitsPartition
    (IsPartition (minor_at text) (length extents) (length groups)) (λ a b. a.name ≢ b.name)
    partitions_spelled (partitions_judged (minor_at text) (length extents) (length groups))
    (area_at text 80 52) (IsBytes-area text 80 52 bytes) (count_at text 80) partitions
    (length-area text 80 52 size.1 b.partitions) hp in
    record {
      long = head.0;
      magic = head.1;
      major = version.major;
      minor = refl;
      header_size = version.size;
      header = version.whole;
      header_sum = header_sum_is text p.header_sum;
      within_max = size.0;
      within_text = size.1;
      tables_sum = tables_sum_is text p.tables_sum;
      partitions = lists_are text 80 52 partition_bytes partitions b.partitions q.1 q.0;
      extents = lists_are text 92 24 extent_bytes extents b.extents e.1 e.0;
      groups = lists_are text 104 48 group_bytes groups b.groups g.1 g.0;
      devices =
          lists_are text 116 64 device_bytes (device ∷ []) b.devices (sym d.0) (sym whole
          ∙ spelled.0 ∙ sym (append-nil (device_bytes device)));
      flags = refl;
      rules = record {
        minor = version.minor;
        flags = flags_fit text bytes;
        device = device;
        one_device = refl;
        device_rule = device_found device spelled.1 d.2;
        groups = g.2;
        group_names = g.3;
        extents = e.2;
        partitions = q.2;
        partition_names = q.3;
      };
    }

-- from the parts to the table
found_table : (max : ℕ) (text : List ℕ) (t : Table) (device : BlockDevice) (groups : List Group)
    (extents : List Extent) → IsBytes text → Passes max text
    → device_in (count_at text 116) (area_at text 116 64) ≡ Ok device
    → groups_in (count_at text 104) (area_at text 104 48) ≡ Ok groups
    → extents_in device (count_at text 92) (area_at text 92 24) ≡ Ok extents
    → (partitions_in (minor_at text) (length extents) (length groups) (count_at text 80)
    (area_at text 80 52) >>= λ partitions. Ok (made text device groups extents partitions))
    ≡ Ok t → IsTableText max text t
found_table max text t device groups extents bytes p hd hg he h =
    let e =
    bind_ok
    (partitions_in (minor_at text) (length extents) (length groups) (count_at text 80)
    (area_at text 80 52)) (λ partitions. Ok (made text device groups extents partitions)) t h in
    let same : made text device groups extents e.0 ≡ t =
    ok_is (made text device groups extents e.0) t e.2 in
    subst (λ (x : Table). IsTableText max text x) same
    (found_parts max text device groups extents e.0 bytes p hd hg he e.1)

-- what is read is a text of that table
pub text_found : (max : ℕ) (text : List ℕ) (t : Table) → IsBytes text → table_of max text ≡ Ok t
    → IsTableText max text t
unfolding table_of
text_found max text t bytes h =
    let end =
    λ (device : BlockDevice) (groups : List Group) (extents : List Extent). partitions_in
    (minor_at text) (length extents) (length groups) (count_at text 80) (area_at text 80 52) >>=
    λ partitions. Ok (made text device groups extents partitions) in
    let read_extents =
    λ (device : BlockDevice) (groups : List Group). extents_in device (count_at text 92)
    (area_at text 92 24) >>= λ extents. end device groups extents in
    let read_groups =
    λ (device : BlockDevice). groups_in (count_at text 104) (area_at text 104 48) >>= λ groups.
    read_extents device groups in
    let a =
    bind_ok (frame_of max text)
    (λ _. device_in (count_at text 116) (area_at text 116 64) >>= λ device. read_groups device)
    t h in
    let b =
    bind_ok (device_in (count_at text 116) (area_at text 116 64)) (λ device. read_groups device)
    t a.2 in
    let c =
    bind_ok (groups_in (count_at text 104) (area_at text 104 48))
    (λ groups. read_extents b.0 groups) t b.2 in
    let d =
    bind_ok (extents_in b.0 (count_at text 92) (area_at text 92 24))
    (λ extents. end b.0 c.0 extents) t c.2 in
    found_table max text t b.0 c.0 d.0 bytes (frame_found max text a.0 a.1) b.1 c.1 d.1 d.2

-- ---- the table whose text it is is read

passes_all : (max : ℕ) (text : List ℕ) (t : Table) → IsTableText max text t → Passes max text
passes_all max text t r =
    let minor : minor_at text ≤ 2 = omega (arith, r.minor, r.rules.minor) in
    let size : header_size_at text ≡ header_size_of (minor_at text) = r.header_size
    ∙ ap header_size_of (sym r.minor) in
    let version : Version text =
    record { major = r.major; minor = minor; size = size; whole = r.header } in
    let bounds : Bounds text = record {
      partitions = bounded_ok text 80 52 partition_bytes t.partitions r.partitions;
      extents = bounded_ok text 92 24 extent_bytes t.extents r.extents;
      groups = bounded_ok text 104 48 group_bytes t.groups r.groups;
      devices = bounded_ok text 116 64 device_bytes t.devices r.devices;
    } in
    record {
      header = header_ok text r.long r.magic;
      version = version_ok text version;
      header_sum = header_sum_ok text r.header_sum;
      size = size_ok max text r.within_max r.within_text;
      tables_sum = tables_sum_ok text r.tables_sum;
      bounds = bounds_ok text bounds;
    }

device_read : (max : ℕ) (text : List ℕ) (t : Table) → (r : IsTableText max text t)
    → device_in (count_at text 116) (area_at text 116 64) ≡ Ok r.rules.device
device_read max text t r =
    let d = r.rules.device in
    let fits = r.rules.device_rule.fits in
    let one : count_at text 116 ≡ 1 = r.devices.count ∙ ap length r.rules.one_device in
    let area : area_at text 116 64 ≡ device_bytes d ++ [] = r.devices.spelled
    ∙ ap (flat_map device_bytes) r.rules.one_device in
    let front : field (area_at text 116 64) 0 64 ≡ device_bytes d = ap (take 64) area
    ∙ take_at (device_bytes d) [] 64 (devices_spelled.len d fits) in
    device_in_ok (count_at text 116) (area_at text 116 64) d one (ap device_of front
    ∙ devices_spelled.back d fits) (device_only d r.rules.device_rule)

groups_read : (max : ℕ) (text : List ℕ) (t : Table) → IsTableText max text t
    → groups_in (count_at text 104) (area_at text 104 48) ≡ Ok t.groups
unfolding groups_in
groups_read max text t r =
    all_only kinds.Group 48 group_bytes group_of group_joins FitsGroup IsGroup
    (λ a b. a.name ≢ b.name) groups_spelled groups_judged (area_at text 104 48)
    (count_at text 104) t.groups r.groups.count r.groups.spelled r.rules.groups
    r.rules.group_names

extents_read : (max : ℕ) (text : List ℕ) (t : Table) → (r : IsTableText max text t)
    → extents_in r.rules.device (count_at text 92) (area_at text 92 24) ≡ Ok t.extents
unfolding extents_in
extents_read max text t r =
    let d = r.rules.device in
    all_only kinds.Extent 24 extent_bytes extent_of (extent_joins d) FitsExtent (IsExtent d)
    (λ _ _. Unit {0}) extents_spelled (extents_judged d) (area_at text 92 24) (count_at text 92)
    t.extents r.extents.count r.extents.spelled r.rules.extents (λ _ _ _ _ _. tt)

partitions_read : (max : ℕ) (text : List ℕ) (t : Table) → IsTableText max text t
    → partitions_in (minor_at text) (length t.extents) (length t.groups) (count_at text 80)
    (area_at text 80 52) ≡ Ok t.partitions
unfolding partitions_in
partitions_read max text t r =
    let e = length t.extents in
    let g = length t.groups in
    let all =
    all_only kinds.Partition 52 partition_bytes partition_of (partition_joins t.minor e g)
    FitsPartition (IsPartition t.minor e g) (λ a b. a.name ≢ b.name) partitions_spelled
    (partitions_judged t.minor e g) (area_at text 80 52) (count_at text 80) t.partitions
    r.partitions.count r.partitions.spelled r.rules.partitions r.rules.partition_names in
    rw r.minor all

-- the table whose text it is is what is read
pub text_only : (max : ℕ) (text : List ℕ) (t : Table) → IsTableText max text t
    → table_of max text ≡ Ok t
unfolding table_of
text_only max text t r =
    let d : BlockDevice = r.rules.device in
    let whole : List BlockDevice → ℕ → ℕ
    → Table =
    λ devices minor flags. record {
      partitions = t.partitions;
      extents = t.extents;
      groups =
          t.groups;
      devices = devices;
      minor = minor;
      flags = flags;
    } in
    let same : made text d t.groups t.extents t.partitions ≡ t =
    ap (λ (ds : List BlockDevice). whole ds (minor_at text) (flags_at text))
    (sym r.rules.one_device) ∙ ap (λ (m : ℕ). whole t.devices m (flags_at text)) r.minor
    ∙ ap (λ (f : ℕ). whole t.devices t.minor f) r.flags in
    rw (
      frame_only max text (passes_all max text t r),
      device_read max text t r,
      groups_read max
          text t r,
      extents_read max text t r,
      partitions_read max text t r,
    )
    (ap (λ (x : Table). Ok x) same)

-- ---- texts with no header

no_header : (max : ℕ) (text : List ℕ) → has_header text ≡ false
    → table_of max text ≡ Err faults.NoHeader
unfolding table_of frame_of
no_header max text h = rw h refl

-- fewer than 128 bytes
pub short_text : (max : ℕ) (text : List ℕ) → length text < 128
    → table_of max text ≡ Err faults.NoHeader
unfolding has_header
short_text max text h =
    no_header max text
    (and_left (leb 128 (length text)) (eqb (magic_at text) 0x414C5030) (lt-leb 128 (length text) h))

-- zeros in the place of the magic
pub zeros_text : (max : ℕ) (text : List ℕ) → take 4 text ≡ replicate 4 0
    → table_of max text ≡ Err faults.NoHeader
unfolding has_header magic_at
zeros_text max text h =
    let zero : magic_at text ≡ 0 = ap (from_le_bytes w32) h in
    no_header max text
    (and_right (leb 128 (length text)) (eqb (magic_at text) 0x414C5030)
    (ap (λ (m : ℕ). eqb m 0x414C5030) zero))

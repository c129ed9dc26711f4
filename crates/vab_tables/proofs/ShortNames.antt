-- The names of partitions in a table that is read have at most 36 bytes.
use Rattle.std.proofs.Common.{◌≡◌, ℕ, zero, suc, ◌*◌, ◌≤◌, ◌&&◌, Bool, eqb}
use Rattle.std.proofs.Common.{List, [], ◌∷◌, ◌++◌, length, drop, Option, Some, None, Ok}
use Rattle.std.proofs.Common.{refl, subst}
use Rattle.std.specs.Int.{w32}
use Rattle.std.specs.List.{list_all, before_first}
use Rattle.std.specs.Option.{option_map}
use Rattle.std.proofs.lemmas.Bool.{and_parts}
use Rattle.std.proofs.lemmas.Option.{cond_some, none-some, same_Some}
use Rattle.vab_bytes.specs.Name.{is_name, name_of_field}
use Rattle.vab_bytes.specs.Number.{field, le_at}
use Rattle.vab_bytes.proofs.NameLaws.{name_fits}
use Rattle.vab_tables.specs.declared.entries.Partition.{Partition}
use Rattle.vab_tables.specs.declared.entries.Extent.{Extent}
use Rattle.vab_tables.specs.declared.entries.Group.{Group}
use Rattle.vab_tables.specs.declared.entries.BlockDevice.{BlockDevice}
use Rattle.vab_tables.specs.declared.table.Table.{Table}
use Rattle.vab_tables.specs.declared.fault.EntryKind.TheVariants as kinds
use Rattle.vab_tables.specs.declared.fault.TableFault.{TableFault}
use Rattle.vab_tables.specs.declared.fault.TableFault.TheVariants as faults
use Rattle.vab_tables.specs.Entries.{partition_of}
use Rattle.vab_tables.specs.Reading.{◌>>=◌, entry_or, entries_in, frame_of, device_in, groups_in}
use Rattle.vab_tables.specs.Reading.{extents_in, partitions_in, partition_joins, table_of}
use Rattle.vab_tables.specs.Text.{count_at, area_at, minor_at, flags_at}
use Rattle.vab_tables.proofs.ListLaws.{bind_ok, ok_is, entry_is}

-- ---- a partition

abbrev pub IsShort : Partition → Type 0
IsShort p = length p.name ≤ 36

name_short : (bytes name : List ℕ) → name_of_field bytes ≡ Some name → length name ≤ 36
unfolding name_of_field
name_short bytes name is =
    let cut : List ℕ = before_first (λ b. eqb b 0) bytes in
    let zeros : Bool = list_all (λ b. eqb b 0) (drop (length cut) bytes) in
    let found = cond_some (is_name cut && zeros) cut name is in
    subst (λ (l : List ℕ). length l ≤ 36) found.1
    (name_fits cut (and_parts (is_name cut) zeros found.0).0).1

-- the value in an option that is a map of another
mapped : {A B : Type 0} (f : A → B) (o : Option A) (y : B)
    → option_map f o ≡ Some y
    → (x : A) × (o ≡ Some x) × (f x ≡ y)
mapped f None y is = absurd (none-some _ is)
mapped f (Some x) y is = (x, refl, same_Some _ _ is)

abbrev partition_at : List ℕ → List ℕ → Partition
partition_at bytes name = record {
  name = name;
  attributes = le_at w32 bytes 36;
  first_extent = le_at w32 bytes 40;
  extent_count = le_at w32 bytes 44;
  group = le_at w32 bytes 48;
}

partition_short : (bytes : List ℕ) (p : Partition) → partition_of bytes ≡ Some p → IsShort p
unfolding partition_of
partition_short bytes p is =
    let found = mapped (partition_at bytes) (name_of_field (field bytes 0 36)) p is in
    subst IsShort found.2 (name_short (field bytes 0 36) found.0 found.1)

-- ---- the partitions of a table

abbrev pub AreShort : List Partition → Type 0
AreShort [] = Unit {0}
AreShort (p ∷ ps) = IsShort p × AreShort ps

one_more : (ps : List Partition) (p : Partition)
    → AreShort ps
    → IsShort p
    → AreShort (ps ++ p ∷ [])
one_more [] p are is = (is, tt)
one_more (q ∷ qs) p are is = (are.0, one_more qs p are.1 is)

entries_short : (joins : List Partition → Partition → Bool) (area : List ℕ) (n : ℕ)
    (earlier entries : List Partition)
    → AreShort earlier
    → entries_in kinds.Partition 52 partition_of joins area n earlier ≡ Ok entries
    → AreShort entries
unfolding entries_in
entries_short joins area zero earlier entries are is =
    subst AreShort (ok_is earlier entries is) are
entries_short joins area (suc n) earlier entries are is =
    let piece : List ℕ = field area (length earlier * 52) 52 in
    let fault : TableFault = faults.BadEntry kinds.Partition (length earlier) in
    let next =
    bind_ok (entry_or fault (joins earlier) (partition_of piece))
    (λ e. entries_in kinds.Partition 52 partition_of joins area n (earlier ++ e ∷ []))
    entries is in
    let there = entry_is fault (joins earlier) (partition_of piece) next.0 next.1 in
    entries_short joins area n (earlier ++ next.0 ∷ []) entries
    (one_more earlier next.0 are (partition_short piece next.0 there.0))
    next.2

abbrev made : List ℕ → BlockDevice → List Group → List Extent → List Partition → Table
made text device groups extents partitions = record {
  partitions = partitions;
  extents = extents;
  groups = groups;
  devices = device ∷ [];
  minor = minor_at text;
  flags = flags_at text;
}

made_short : (text : List ℕ) (device : BlockDevice) (groups : List Group) (extents : List Extent)
    (partitions : List Partition) (t : Table)
    → AreShort partitions
    → made text device groups extents partitions ≡ t
    → AreShort t.partitions
made_short text device groups extents partitions t are is =
    subst (λ (x : Table). AreShort x.partitions) is are

pub table_short : (max : ℕ) (text : List ℕ) (t : Table)
    → table_of max text ≡ Ok t
    → AreShort t.partitions
unfolding table_of partitions_in
table_short max text t is =
    let end =
    λ (device : BlockDevice) (groups : List Group) (extents : List Extent).
    partitions_in (minor_at text) (length extents) (length groups) (count_at text 80)
    (area_at text 80 52) >>= λ partitions. Ok (made text device groups extents partitions) in
    let read_extents =
    λ (device : BlockDevice) (groups : List Group).
    extents_in device (count_at text 92) (area_at text 92 24) >>= λ extents.
    end device groups extents in
    let read_groups =
    λ (device : BlockDevice).
    groups_in (count_at text 104) (area_at text 104 48) >>= λ groups. read_extents device groups in
    let a =
    bind_ok (frame_of max text)
    (λ _. device_in (count_at text 116) (area_at text 116 64) >>= λ device. read_groups device)
    t is in
    let b =
    bind_ok (device_in (count_at text 116) (area_at text 116 64)) (λ device. read_groups device)
    t a.2 in
    let c =
    bind_ok (groups_in (count_at text 104) (area_at text 104 48))
    (λ groups. read_extents b.0 groups) t b.2 in
    let d =
    bind_ok (extents_in b.0 (count_at text 92) (area_at text 92 24))
    (λ extents. end b.0 c.0 extents) t c.2 in
    let e =
    bind_ok
    (partitions_in (minor_at text) (length d.0) (length c.0) (count_at text 80)
    (area_at text 80 52))
    (λ partitions. Ok (made text b.0 c.0 d.0 partitions)) t d.2 in
    made_short text b.0 c.0 d.0 e.0 t
    (entries_short (partition_joins (minor_at text) (length d.0) (length c.0))
    (area_at text 80 52) (count_at text 80) [] e.0 tt e.1)
    (ok_is (made text b.0 c.0 d.0 e.0) t e.2)

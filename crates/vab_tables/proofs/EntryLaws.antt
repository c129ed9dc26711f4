-- Each entry's spelling is read as that entry, and what is read is spelled so.
use Rattle.std.proofs.Common.{◌≡◌, ℕ, ◌+◌, ◌-◌, List, [], ◌++◌, length, take, drop, replicate}
use Rattle.std.proofs.Common.{Option, Some, None, refl, sym, ap, subst, ◌∙◌, append_assoc, arith}
use Rattle.std.specs.Option.{option_map}
use Rattle.std.specs.Int.{w32, w64, to_le_bytes}
use Rattle.std.proofs.lemmas.List.{take_at, drop_at, take_all, take-append-drop, drop-drop}
use Rattle.std.proofs.lemmas.List.{drop_all, length-append, length-replicate, append-nil}
use Rattle.std.proofs.lemmas.Option.{none-some, same_Some}
use Rattle.vab_bytes.specs.Number.{IsBytes, field, le_at}
use Rattle.vab_bytes.proofs.NumberLaws.{length-field, le_at_fits_32, le_at_fits_64}
use Rattle.vab_bytes.proofs.NumberLaws.{le_at_spelled_32}
use Rattle.vab_bytes.proofs.NumberLaws.{le_at_spelled_64, le_at_is_32, le_at_is_64}
use Rattle.vab_bytes.specs.Name.{IsName, name_field, name_of_field}
use Rattle.vab_bytes.proofs.NameLaws.{name_fits, found_name, only_name}
use Rattle.vab_tables.specs.declared.entries.Partition.{Partition}
use Rattle.vab_tables.specs.declared.entries.Extent.{Extent}
use Rattle.vab_tables.specs.declared.entries.Group.{Group}
use Rattle.vab_tables.specs.declared.entries.BlockDevice.{BlockDevice}
use Rattle.vab_tables.specs.Entries.{partition_bytes, extent_bytes, group_bytes, device_bytes}
use Rattle.vab_tables.specs.Entries.{FitsPartition, FitsExtent, FitsGroup, FitsDevice, partition_of}
use Rattle.vab_tables.specs.Entries.{extent_of, group_of, device_of}

-- a kind of entry: its size, spelling, reading, and which values have a spelling
pub record IsSpelled {E : Type 0} (size : ℕ) (spell : E → List ℕ) (read : List ℕ
    → Option E) (Fits : E → Type 0) : Type 0 where
  pub len : (e : E) → Fits e → length (spell e) ≡ size
  pub back : (e : E) → Fits e → read (spell e) ≡ Some e
  pub from : (bytes : List ℕ) (e : E) → length bytes ≡ size → IsBytes bytes → read bytes ≡ Some e
      → (bytes ≡ spell e) × Fits e

-- ---- pieces

-- a field behind a piece
pub past : (piece rest : List ℕ) (len at n : ℕ) → length piece ≡ len
    → field (piece ++ rest) (len + at) n ≡ field rest at n
past piece rest len at n h =
    ap (take n) (sym (drop-drop at len (piece ++ rest)) ∙ ap (drop at) (drop_at piece rest len h))

-- the piece in front is a field
pub first : (piece rest : List ℕ) (n : ℕ) → length piece ≡ n → field (piece ++ rest) 0 n ≡ piece
first piece rest n h = take_at piece rest n h

-- what stands from a place on is the field there and what follows
pub cut : (bytes : List ℕ) (at n : ℕ) → drop at bytes ≡ field bytes at n ++ drop (at + n) bytes
cut bytes at n = sym (take-append-drop n (drop at bytes))
    ∙ ap (λ (t : List ℕ). field bytes at n ++ t) (drop-drop n at bytes)

pub length-name_field : (name : List ℕ) → IsName name → length (name_field name) ≡ 36
length-name_field name h =
    let fits = name_fits name h in
    let zeros : List ℕ = replicate (36 - length name) 0 in
    let many : length zeros ≡ 36 - length name = length-replicate {A = ℕ} (36 - length name) 0 in
    omega (arith, fits.1, length-append name zeros, many)

-- the value in an option that is a map of another
mapped : {A B : Type 0} (f : A → B) (o : Option A) (y : B) → option_map f o ≡ Some y
    → (x : A) × (o ≡ Some x) × (f x ≡ y)
mapped f None y h = absurd (none-some _ h)
mapped f (Some x) y h = (x, refl, same_Some _ _ h)

-- ---- partitions

record PartitionPieces (s x0 x1 x2 x3 x4 : List ℕ) : Type 0 where
  p0 : field s 0 36 ≡ x0
  p1 : field s 36 4 ≡ x1
  p2 : field s 40 4 ≡ x2
  p3 : field s 44 4 ≡ x3
  p4 : field s 48 4 ≡ x4
  len : length s ≡ 52

partition_pieces : (x0 x1 x2 x3 x4 : List ℕ) → length x0 ≡ 36 → length x1 ≡ 4 → length x2 ≡ 4
    → length x3 ≡ 4 → length x4 ≡ 4 → PartitionPieces (x0 ++ x1 ++ x2 ++ x3 ++ x4) x0 x1 x2 x3 x4
partition_pieces x0 x1 x2 x3 x4 h0 h1 h2 h3 h4 =
    let e : x0 ++ x1 ++ x2 ++ x3 ++ x4 ≡ x0 ++ (x1 ++ (x2 ++ (x3 ++ x4))) = simp append_assoc in
    let lens : length (x0 ++ (x1 ++ (x2 ++ (x3 ++ x4)))) ≡ 52 =
    omega (
      arith,
      length-append x0 (x1 ++ (x2 ++ (x3 ++ x4))),
      length-append x1
          (x2 ++ (x3 ++ x4)),
      length-append x2 (x3 ++ x4),
      length-append x3 (x4),
    ) in
    let made : PartitionPieces (x0 ++ (x1 ++ (x2 ++ (x3 ++ x4)))) x0 x1 x2 x3 x4 = record {
      p0 = first x0 (x1 ++ (x2 ++ (x3 ++ x4))) 36 h0;
      p1 = past x0 (x1 ++ (x2 ++ (x3 ++ x4))) 36 0 4 h0 ∙ first x1 (x2 ++ (x3 ++ x4)) 4 h1;
      p2 = past x0 (x1 ++ (x2 ++ (x3 ++ x4))) 36 4 4 h0 ∙ past x1 (x2 ++ (x3 ++ x4)) 4 0 4 h1
          ∙ first x2 (x3 ++ x4) 4 h2;
      p3 = past x0 (x1 ++ (x2 ++ (x3 ++ x4))) 36 8 4 h0 ∙ past x1 (x2 ++ (x3 ++ x4)) 4 4 4 h1
          ∙ past x2 (x3 ++ x4) 4 0 4 h2 ∙ first x3 (x4) 4 h3;
      p4 = past x0 (x1 ++ (x2 ++ (x3 ++ x4))) 36 12 4 h0 ∙ past x1 (x2 ++ (x3 ++ x4)) 4 8 4 h1
          ∙ past x2 (x3 ++ x4) 4 4 4 h2 ∙ past x3 (x4) 4 0 4 h3 ∙ take_all 4 x4 (omega (arith, h4));
      len = lens;
    } in
    subst (λ (s : List ℕ). PartitionPieces s x0 x1 x2 x3 x4) (sym e) made

partition_spelled : (e : Partition) → FitsPartition e
    → PartitionPieces (partition_bytes e) (name_field e.name) (to_le_bytes w32 e.attributes)
    (to_le_bytes w32 e.first_extent) (to_le_bytes w32 e.extent_count) (to_le_bytes w32 e.group)
unfolding partition_bytes
partition_spelled e fits =
    partition_pieces (name_field e.name) (to_le_bytes w32 e.attributes)
    (to_le_bytes w32 e.first_extent) (to_le_bytes w32 e.extent_count) (to_le_bytes w32 e.group)
    (length-name_field e.name fits.name) refl refl refl refl

partition_read : (s : List ℕ) (e : Partition) → name_of_field (field s 0 36) ≡ Some e.name
    → le_at w32 s 36 ≡ e.attributes → le_at w32 s 40 ≡ e.first_extent
    → le_at w32 s 44 ≡ e.extent_count → le_at w32 s 48 ≡ e.group → partition_of s ≡ Some e
unfolding partition_of
partition_read s e h0 h1 h2 h3 h4 = rw (h0, h1, h2, h3, h4) refl

partition_back : (e : Partition) → FitsPartition e → partition_of (partition_bytes e) ≡ Some e
partition_back e fits =
    let p = partition_spelled e fits in
    partition_read (partition_bytes e) e
    (only_name _ e.name fits.name p.p0)
    (le_at_is_32 (partition_bytes e) 36 e.attributes fits.attributes p.p1)
    (le_at_is_32 (partition_bytes e) 40 e.first_extent fits.first_extent p.p2)
    (le_at_is_32 (partition_bytes e) 44 e.extent_count fits.extent_count p.p3)
    (le_at_is_32 (partition_bytes e) 48 e.group fits.group p.p4)

abbrev partition_at : (s : List ℕ) (name : List ℕ) → Partition
partition_at s name =
    record {
      name = name;
      attributes = le_at w32 s 36;
      first_extent = le_at w32 s 40;
      extent_count =
          le_at w32 s 44;
      group = le_at w32 s 48;
    }

partition_regroup : (x0 x1 x2 x3 x4 : List ℕ)
    → x0 ++ (x1 ++ (x2 ++ (x3 ++ (x4 ++ [])))) ≡ x0 ++ x1 ++ x2 ++ x3 ++ x4
partition_regroup x0 x1 x2 x3 x4 = sym (simp (append_assoc, append-nil))

partition_cut : (s name : List ℕ) → length s ≡ 52 → IsBytes s
    → name_of_field (field s 0 36) ≡ Some name
    → (s ≡ partition_bytes (partition_at s name)) × FitsPartition (partition_at s name)
unfolding partition_bytes
partition_cut s name len bytes named =
    let n = found_name (field s 0 36) name (length-field s 0 36 (omega (arith, len))) named in
    let x0 : List ℕ = name_field name in
    let e0 : field s 0 36 ≡ x0 = n.1 in
    let x1 : List ℕ = to_le_bytes w32 (le_at w32 s 36) in
    let e1 : field s 36 4 ≡ x1 = sym (le_at_spelled_32 s 36 (omega (arith, len)) bytes) in
    let x2 : List ℕ = to_le_bytes w32 (le_at w32 s 40) in
    let e2 : field s 40 4 ≡ x2 = sym (le_at_spelled_32 s 40 (omega (arith, len)) bytes) in
    let x3 : List ℕ = to_le_bytes w32 (le_at w32 s 44) in
    let e3 : field s 44 4 ≡ x3 = sym (le_at_spelled_32 s 44 (omega (arith, len)) bytes) in
    let x4 : List ℕ = to_le_bytes w32 (le_at w32 s 48) in
    let e4 : field s 48 4 ≡ x4 = sym (le_at_spelled_32 s 48 (omega (arith, len)) bytes) in
    let end : drop 52 s ≡ [] = drop_all 52 s (omega (arith, len)) in
    let t4 : drop 48 s ≡ x4 ++ [] = cut s 48 4 ∙ ap (λ (t : List ℕ). t ++ drop 52 s) e4
    ∙ ap (λ (t : List ℕ). x4 ++ t) end in
    let t3 : drop 44 s ≡ x3 ++ (x4 ++ []) = cut s 44 4 ∙ ap (λ (t : List ℕ). t ++ drop 48 s) e3
    ∙ ap (λ (t : List ℕ). x3 ++ t) t4 in
    let t2 : drop 40 s ≡ x2 ++ (x3 ++ (x4 ++ [])) = cut s 40 4
    ∙ ap (λ (t : List ℕ). t ++ drop 44 s) e2 ∙ ap (λ (t : List ℕ). x2 ++ t) t3 in
    let t1 : drop 36 s ≡ x1 ++ (x2 ++ (x3 ++ (x4 ++ []))) = cut s 36 4
    ∙ ap (λ (t : List ℕ). t ++ drop 40 s) e1 ∙ ap (λ (t : List ℕ). x1 ++ t) t2 in
    let t0 : drop 0 s ≡ x0 ++ (x1 ++ (x2 ++ (x3 ++ (x4 ++ [])))) = cut s 0 36
    ∙ ap (λ (t : List ℕ). t ++ drop 36 s) e0 ∙ ap (λ (t : List ℕ). x0 ++ t) t1 in
    let regroup : x0 ++ (x1 ++ (x2 ++ (x3 ++ (x4 ++ [])))) ≡ x0 ++ x1 ++ x2 ++ x3 ++ x4 =
    partition_regroup x0 x1 x2 x3 x4 in (
      t0 ∙ regroup,
      record {
        name = n.0;
        attributes = le_at_fits_32 s 36 bytes;
        first_extent =
            le_at_fits_32 s 40 bytes;
        extent_count = le_at_fits_32 s 44 bytes;
        group =
            le_at_fits_32 s 48 bytes;
      },
    )

partition_from : (s : List ℕ) (e : Partition) → length s ≡ 52 → IsBytes s → partition_of s ≡ Some e
    → (s ≡ partition_bytes e) × FitsPartition e
unfolding partition_of
partition_from s e len bytes h =
    let m = mapped (λ (name : List ℕ). partition_at s name) (name_of_field (field s 0 36)) e h in
    subst (λ (v : Partition). (s ≡ partition_bytes v) × FitsPartition v) m.2
    (partition_cut s m.0 len bytes m.1)

pub partitions_spelled : IsSpelled 52 partition_bytes partition_of FitsPartition
partitions_spelled =
    record {
      len = λ e fits. (partition_spelled e fits).len;
      back = partition_back;
      from =
          partition_from;
    }

-- ---- extents

record ExtentPieces (s x0 x1 x2 x3 : List ℕ) : Type 0 where
  p0 : field s 0 8 ≡ x0
  p1 : field s 8 4 ≡ x1
  p2 : field s 12 8 ≡ x2
  p3 : field s 20 4 ≡ x3
  len : length s ≡ 24

extent_pieces : (x0 x1 x2 x3 : List ℕ) → length x0 ≡ 8 → length x1 ≡ 4 → length x2 ≡ 8
    → length x3 ≡ 4 → ExtentPieces (x0 ++ x1 ++ x2 ++ x3) x0 x1 x2 x3
extent_pieces x0 x1 x2 x3 h0 h1 h2 h3 =
    let e : x0 ++ x1 ++ x2 ++ x3 ≡ x0 ++ (x1 ++ (x2 ++ x3)) = simp append_assoc in
    let lens : length (x0 ++ (x1 ++ (x2 ++ x3))) ≡ 24 =
    omega (
      arith,
      length-append x0 (x1 ++ (x2 ++ x3)),
      length-append x1 (x2 ++ x3),
      length-append x2 (x3),
    ) in
    let made : ExtentPieces (x0 ++ (x1 ++ (x2 ++ x3))) x0 x1 x2 x3 = record {
      p0 = first x0 (x1 ++ (x2 ++ x3)) 8 h0;
      p1 = past x0 (x1 ++ (x2 ++ x3)) 8 0 4 h0 ∙ first x1 (x2 ++ x3) 4 h1;
      p2 = past x0 (x1 ++ (x2 ++ x3)) 8 4 8 h0 ∙ past x1 (x2 ++ x3) 4 0 8 h1 ∙ first x2 (x3) 8 h2;
      p3 = past x0 (x1 ++ (x2 ++ x3)) 8 12 4 h0 ∙ past x1 (x2 ++ x3) 4 8 4 h1
          ∙ past x2 (x3) 8 0 4 h2 ∙ take_all 4 x3 (omega (arith, h3));
      len = lens;
    } in
    subst (λ (s : List ℕ). ExtentPieces s x0 x1 x2 x3) (sym e) made

extent_spelled : (e : Extent) → FitsExtent e
    → ExtentPieces (extent_bytes e) (to_le_bytes w64 e.sectors) (to_le_bytes w32 e.target_type)
    (to_le_bytes w64 e.first_sector) (to_le_bytes w32 e.target_source)
unfolding extent_bytes
extent_spelled e fits =
    extent_pieces (to_le_bytes w64 e.sectors) (to_le_bytes w32 e.target_type)
    (to_le_bytes w64 e.first_sector) (to_le_bytes w32 e.target_source) refl refl refl refl

extent_read : (s : List ℕ) (e : Extent) → le_at w64 s 0 ≡ e.sectors → le_at w32 s 8 ≡ e.target_type
    → le_at w64 s 12 ≡ e.first_sector → le_at w32 s 20 ≡ e.target_source → extent_of s ≡ Some e
unfolding extent_of
extent_read s e h0 h1 h2 h3 = rw (h0, h1, h2, h3) refl

extent_back : (e : Extent) → FitsExtent e → extent_of (extent_bytes e) ≡ Some e
extent_back e fits =
    let p = extent_spelled e fits in
    extent_read (extent_bytes e) e
    (le_at_is_64 (extent_bytes e) 0 e.sectors fits.sectors p.p0)
    (le_at_is_32 (extent_bytes e) 8 e.target_type fits.target_type p.p1)
    (le_at_is_64 (extent_bytes e) 12 e.first_sector fits.first_sector p.p2)
    (le_at_is_32 (extent_bytes e) 20 e.target_source fits.target_source p.p3)

abbrev extent_at : (s : List ℕ) → Extent
extent_at s =
    record {
      sectors = le_at w64 s 0;
      target_type = le_at w32 s 8;
      first_sector =
          le_at w64 s 12;
      target_source = le_at w32 s 20;
    }

extent_regroup : (x0 x1 x2 x3 : List ℕ) → x0 ++ (x1 ++ (x2 ++ (x3 ++ []))) ≡ x0 ++ x1 ++ x2 ++ x3
extent_regroup x0 x1 x2 x3 = sym (simp (append_assoc, append-nil))

extent_cut : (s : List ℕ) → length s ≡ 24 → IsBytes s
    → (s ≡ extent_bytes (extent_at s)) × FitsExtent (extent_at s)
unfolding extent_bytes
extent_cut s len bytes =
    let x0 : List ℕ = to_le_bytes w64 (le_at w64 s 0) in
    let e0 : field s 0 8 ≡ x0 = sym (le_at_spelled_64 s 0 (omega (arith, len)) bytes) in
    let x1 : List ℕ = to_le_bytes w32 (le_at w32 s 8) in
    let e1 : field s 8 4 ≡ x1 = sym (le_at_spelled_32 s 8 (omega (arith, len)) bytes) in
    let x2 : List ℕ = to_le_bytes w64 (le_at w64 s 12) in
    let e2 : field s 12 8 ≡ x2 = sym (le_at_spelled_64 s 12 (omega (arith, len)) bytes) in
    let x3 : List ℕ = to_le_bytes w32 (le_at w32 s 20) in
    let e3 : field s 20 4 ≡ x3 = sym (le_at_spelled_32 s 20 (omega (arith, len)) bytes) in
    let end : drop 24 s ≡ [] = drop_all 24 s (omega (arith, len)) in
    let t3 : drop 20 s ≡ x3 ++ [] = cut s 20 4 ∙ ap (λ (t : List ℕ). t ++ drop 24 s) e3
    ∙ ap (λ (t : List ℕ). x3 ++ t) end in
    let t2 : drop 12 s ≡ x2 ++ (x3 ++ []) = cut s 12 8 ∙ ap (λ (t : List ℕ). t ++ drop 20 s) e2
    ∙ ap (λ (t : List ℕ). x2 ++ t) t3 in
    let t1 : drop 8 s ≡ x1 ++ (x2 ++ (x3 ++ [])) = cut s 8 4
    ∙ ap (λ (t : List ℕ). t ++ drop 12 s) e1 ∙ ap (λ (t : List ℕ). x1 ++ t) t2 in
    let t0 : drop 0 s ≡ x0 ++ (x1 ++ (x2 ++ (x3 ++ []))) = cut s 0 8
    ∙ ap (λ (t : List ℕ). t ++ drop 8 s) e0 ∙ ap (λ (t : List ℕ). x0 ++ t) t1 in
    let regroup : x0 ++ (x1 ++ (x2 ++ (x3 ++ []))) ≡ x0 ++ x1 ++ x2 ++ x3 =
    extent_regroup x0 x1 x2 x3 in (
      t0 ∙ regroup,
      record {
        sectors = le_at_fits_64 s 0 bytes;
        target_type =
            le_at_fits_32 s 8 bytes;
        first_sector = le_at_fits_64 s 12 bytes;
        target_source =
            le_at_fits_32 s 20 bytes;
      },
    )

extent_from : (s : List ℕ) (e : Extent) → length s ≡ 24 → IsBytes s → extent_of s ≡ Some e
    → (s ≡ extent_bytes e) × FitsExtent e
unfolding extent_of
extent_from s e len bytes h =
    subst (λ (v : Extent). (s ≡ extent_bytes v) × FitsExtent v) (same_Some _ _ h)
    (extent_cut s len bytes)

pub extents_spelled : IsSpelled 24 extent_bytes extent_of FitsExtent
extents_spelled =
    record { len = λ e fits. (extent_spelled e fits).len; back = extent_back; from = extent_from }

-- ---- groups

record GroupPieces (s x0 x1 x2 : List ℕ) : Type 0 where
  p0 : field s 0 36 ≡ x0
  p1 : field s 36 4 ≡ x1
  p2 : field s 40 8 ≡ x2
  len : length s ≡ 48

group_pieces : (x0 x1 x2 : List ℕ) → length x0 ≡ 36 → length x1 ≡ 4 → length x2 ≡ 8
    → GroupPieces (x0 ++ x1 ++ x2) x0 x1 x2
group_pieces x0 x1 x2 h0 h1 h2 =
    let e : x0 ++ x1 ++ x2 ≡ x0 ++ (x1 ++ x2) = simp append_assoc in
    let lens : length (x0 ++ (x1 ++ x2)) ≡ 48 =
    omega (arith, length-append x0 (x1 ++ x2), length-append x1 (x2)) in
    let made : GroupPieces (x0 ++ (x1 ++ x2)) x0 x1 x2 = record {
      p0 = first x0 (x1 ++ x2) 36 h0;
      p1 = past x0 (x1 ++ x2) 36 0 4 h0 ∙ first x1 (x2) 4 h1;
      p2 = past x0 (x1 ++ x2) 36 4 8 h0 ∙ past x1 (x2) 4 0 8 h1 ∙ take_all 8 x2 (omega (arith, h2));
      len = lens;
    } in
    subst (λ (s : List ℕ). GroupPieces s x0 x1 x2) (sym e) made

group_spelled : (e : Group) → FitsGroup e
    → GroupPieces (group_bytes e) (name_field e.name) (to_le_bytes w32 e.flags)
    (to_le_bytes w64 e.maximum_size)
unfolding group_bytes
group_spelled e fits =
    group_pieces (name_field e.name) (to_le_bytes w32 e.flags) (to_le_bytes w64 e.maximum_size)
    (length-name_field e.name fits.name) refl refl

group_read : (s : List ℕ) (e : Group) → name_of_field (field s 0 36) ≡ Some e.name
    → le_at w32 s 36 ≡ e.flags → le_at w64 s 40 ≡ e.maximum_size → group_of s ≡ Some e
unfolding group_of
group_read s e h0 h1 h2 = rw (h0, h1, h2) refl

group_back : (e : Group) → FitsGroup e → group_of (group_bytes e) ≡ Some e
group_back e fits =
    let p = group_spelled e fits in
    group_read (group_bytes e) e
    (only_name _ e.name fits.name p.p0)
    (le_at_is_32 (group_bytes e) 36 e.flags fits.flags p.p1)
    (le_at_is_64 (group_bytes e) 40 e.maximum_size fits.maximum_size p.p2)

abbrev group_at : (s : List ℕ) (name : List ℕ) → Group
group_at s name = record { name = name; flags = le_at w32 s 36; maximum_size = le_at w64 s 40 }

group_regroup : (x0 x1 x2 : List ℕ) → x0 ++ (x1 ++ (x2 ++ [])) ≡ x0 ++ x1 ++ x2
group_regroup x0 x1 x2 = sym (simp (append_assoc, append-nil))

group_cut : (s name : List ℕ) → length s ≡ 48 → IsBytes s → name_of_field (field s 0 36) ≡ Some name
    → (s ≡ group_bytes (group_at s name)) × FitsGroup (group_at s name)
unfolding group_bytes
group_cut s name len bytes named =
    let n = found_name (field s 0 36) name (length-field s 0 36 (omega (arith, len))) named in
    let x0 : List ℕ = name_field name in
    let e0 : field s 0 36 ≡ x0 = n.1 in
    let x1 : List ℕ = to_le_bytes w32 (le_at w32 s 36) in
    let e1 : field s 36 4 ≡ x1 = sym (le_at_spelled_32 s 36 (omega (arith, len)) bytes) in
    let x2 : List ℕ = to_le_bytes w64 (le_at w64 s 40) in
    let e2 : field s 40 8 ≡ x2 = sym (le_at_spelled_64 s 40 (omega (arith, len)) bytes) in
    let end : drop 48 s ≡ [] = drop_all 48 s (omega (arith, len)) in
    let t2 : drop 40 s ≡ x2 ++ [] = cut s 40 8 ∙ ap (λ (t : List ℕ). t ++ drop 48 s) e2
    ∙ ap (λ (t : List ℕ). x2 ++ t) end in
    let t1 : drop 36 s ≡ x1 ++ (x2 ++ []) = cut s 36 4 ∙ ap (λ (t : List ℕ). t ++ drop 40 s) e1
    ∙ ap (λ (t : List ℕ). x1 ++ t) t2 in
    let t0 : drop 0 s ≡ x0 ++ (x1 ++ (x2 ++ [])) = cut s 0 36
    ∙ ap (λ (t : List ℕ). t ++ drop 36 s) e0 ∙ ap (λ (t : List ℕ). x0 ++ t) t1 in
    let regroup : x0 ++ (x1 ++ (x2 ++ [])) ≡ x0 ++ x1 ++ x2 = group_regroup x0 x1 x2 in (
      t0 ∙ regroup,
      record {
        name = n.0;
        flags = le_at_fits_32 s 36 bytes;
        maximum_size =
            le_at_fits_64 s 40 bytes;
      },
    )

group_from : (s : List ℕ) (e : Group) → length s ≡ 48 → IsBytes s → group_of s ≡ Some e
    → (s ≡ group_bytes e) × FitsGroup e
unfolding group_of
group_from s e len bytes h =
    let m = mapped (λ (name : List ℕ). group_at s name) (name_of_field (field s 0 36)) e h in
    subst (λ (v : Group). (s ≡ group_bytes v) × FitsGroup v) m.2 (group_cut s m.0 len bytes m.1)

pub groups_spelled : IsSpelled 48 group_bytes group_of FitsGroup
groups_spelled =
    record { len = λ e fits. (group_spelled e fits).len; back = group_back; from = group_from }

-- ---- devices

record BlockDevicePieces (s x0 x1 x2 x3 x4 x5 : List ℕ) : Type 0 where
  p0 : field s 0 8 ≡ x0
  p1 : field s 8 4 ≡ x1
  p2 : field s 12 4 ≡ x2
  p3 : field s 16 8 ≡ x3
  p4 : field s 24 36 ≡ x4
  p5 : field s 60 4 ≡ x5
  len : length s ≡ 64

device_pieces : (x0 x1 x2 x3 x4 x5 : List ℕ) → length x0 ≡ 8 → length x1 ≡ 4 → length x2 ≡ 4
    → length x3 ≡ 8 → length x4 ≡ 36 → length x5 ≡ 4
    → BlockDevicePieces (x0 ++ x1 ++ x2 ++ x3 ++ x4 ++ x5) x0 x1 x2 x3 x4 x5
device_pieces x0 x1 x2 x3 x4 x5 h0 h1 h2 h3 h4 h5 =
    let e : x0 ++ x1 ++ x2 ++ x3 ++ x4 ++ x5 ≡ x0 ++ (x1 ++ (x2 ++ (x3 ++ (x4 ++ x5)))) =
    simp append_assoc in
    let lens : length (x0 ++ (x1 ++ (x2 ++ (x3 ++ (x4 ++ x5))))) ≡ 64 =
    omega (
      arith,
      length-append x0 (x1 ++ (x2 ++ (x3 ++ (x4 ++ x5)))),
      length-append x1
          (x2 ++ (x3 ++ (x4 ++ x5))),
      length-append x2 (x3 ++ (x4 ++ x5)),
      length-append x3
          (x4 ++ x5),
      length-append x4 (x5),
    ) in
    let made : BlockDevicePieces (x0 ++ (x1 ++ (x2 ++ (x3 ++ (x4 ++ x5))))) x0 x1 x2 x3 x4 x5 =
    record {
      p0 = first x0 (x1 ++ (x2 ++ (x3 ++ (x4 ++ x5)))) 8 h0;
      p1 = past x0 (x1 ++ (x2 ++ (x3 ++ (x4 ++ x5)))) 8 0 4 h0
          ∙ first x1 (x2 ++ (x3 ++ (x4 ++ x5))) 4 h1;
      p2 = past x0 (x1 ++ (x2 ++ (x3 ++ (x4 ++ x5)))) 8 4 4 h0
          ∙ past x1 (x2 ++ (x3 ++ (x4 ++ x5))) 4 0 4 h1 ∙ first x2 (x3 ++ (x4 ++ x5)) 4 h2;
      p3 = past x0 (x1 ++ (x2 ++ (x3 ++ (x4 ++ x5)))) 8 8 8 h0
          ∙ past x1 (x2 ++ (x3 ++ (x4 ++ x5))) 4 4 8 h1 ∙ past x2 (x3 ++ (x4 ++ x5)) 4 0 8 h2
          ∙ first x3 (x4 ++ x5) 8 h3;
      p4 = past x0 (x1 ++ (x2 ++ (x3 ++ (x4 ++ x5)))) 8 16 36 h0
          ∙ past x1 (x2 ++ (x3 ++ (x4 ++ x5))) 4 12 36 h1 ∙ past x2 (x3 ++ (x4 ++ x5)) 4 8 36 h2
          ∙ past x3 (x4 ++ x5) 8 0 36 h3 ∙ first x4 (x5) 36 h4;
      p5 = past x0 (x1 ++ (x2 ++ (x3 ++ (x4 ++ x5)))) 8 52 4 h0
          ∙ past x1 (x2 ++ (x3 ++ (x4 ++ x5))) 4 48 4 h1 ∙ past x2 (x3 ++ (x4 ++ x5)) 4 44 4 h2
          ∙ past x3 (x4 ++ x5) 8 36 4 h3 ∙ past x4 (x5) 36 0 4 h4
          ∙ take_all 4 x5 (omega (arith, h5));
      len = lens;
    } in
    subst (λ (s : List ℕ). BlockDevicePieces s x0 x1 x2 x3 x4 x5) (sym e) made

device_spelled : (e : BlockDevice) → FitsDevice e
    → BlockDevicePieces (device_bytes e) (to_le_bytes w64 e.first_logical_sector)
    (to_le_bytes w32 e.alignment) (to_le_bytes w32 e.alignment_offset) (to_le_bytes w64 e.size)
    (name_field e.partition_name) (to_le_bytes w32 e.flags)
unfolding device_bytes
device_spelled e fits =
    device_pieces (to_le_bytes w64 e.first_logical_sector) (to_le_bytes w32 e.alignment)
    (to_le_bytes w32 e.alignment_offset) (to_le_bytes w64 e.size) (name_field e.partition_name)
    (to_le_bytes w32 e.flags) refl refl refl refl
    (length-name_field e.partition_name fits.partition_name) refl

device_read : (s : List ℕ) (e : BlockDevice) → le_at w64 s 0 ≡ e.first_logical_sector
    → le_at w32 s 8 ≡ e.alignment → le_at w32 s 12 ≡ e.alignment_offset → le_at w64 s 16 ≡ e.size
    → name_of_field (field s 24 36) ≡ Some e.partition_name → le_at w32 s 60 ≡ e.flags
    → device_of s ≡ Some e
unfolding device_of
device_read s e h0 h1 h2 h3 h4 h5 = rw (h4, h0, h1, h2, h3, h5) refl

device_back : (e : BlockDevice) → FitsDevice e → device_of (device_bytes e) ≡ Some e
device_back e fits =
    let p = device_spelled e fits in
    device_read (device_bytes e) e
    (le_at_is_64 (device_bytes e) 0 e.first_logical_sector fits.first_logical_sector p.p0)
    (le_at_is_32 (device_bytes e) 8 e.alignment fits.alignment p.p1)
    (le_at_is_32 (device_bytes e) 12 e.alignment_offset fits.alignment_offset p.p2)
    (le_at_is_64 (device_bytes e) 16 e.size fits.size p.p3)
    (only_name _ e.partition_name fits.partition_name p.p4)
    (le_at_is_32 (device_bytes e) 60 e.flags fits.flags p.p5)

abbrev device_at : (s : List ℕ) (name : List ℕ) → BlockDevice
device_at s name =
    record {
      first_logical_sector = le_at w64 s 0;
      alignment = le_at w32 s 8;
      alignment_offset =
          le_at w32 s 12;
      size = le_at w64 s 16;
      partition_name = name;
      flags = le_at w32 s 60;
    }

device_regroup : (x0 x1 x2 x3 x4 x5 : List ℕ)
    → x0 ++ (x1 ++ (x2 ++ (x3 ++ (x4 ++ (x5 ++ []))))) ≡ x0 ++ x1 ++ x2 ++ x3 ++ x4 ++ x5
device_regroup x0 x1 x2 x3 x4 x5 = sym (simp (append_assoc, append-nil))

device_cut : (s name : List ℕ) → length s ≡ 64 → IsBytes s
    → name_of_field (field s 24 36) ≡ Some name
    → (s ≡ device_bytes (device_at s name)) × FitsDevice (device_at s name)
unfolding device_bytes
device_cut s name len bytes named =
    let n = found_name (field s 24 36) name (length-field s 24 36 (omega (arith, len))) named in
    let x0 : List ℕ = to_le_bytes w64 (le_at w64 s 0) in
    let e0 : field s 0 8 ≡ x0 = sym (le_at_spelled_64 s 0 (omega (arith, len)) bytes) in
    let x1 : List ℕ = to_le_bytes w32 (le_at w32 s 8) in
    let e1 : field s 8 4 ≡ x1 = sym (le_at_spelled_32 s 8 (omega (arith, len)) bytes) in
    let x2 : List ℕ = to_le_bytes w32 (le_at w32 s 12) in
    let e2 : field s 12 4 ≡ x2 = sym (le_at_spelled_32 s 12 (omega (arith, len)) bytes) in
    let x3 : List ℕ = to_le_bytes w64 (le_at w64 s 16) in
    let e3 : field s 16 8 ≡ x3 = sym (le_at_spelled_64 s 16 (omega (arith, len)) bytes) in
    let x4 : List ℕ = name_field name in
    let e4 : field s 24 36 ≡ x4 = n.1 in
    let x5 : List ℕ = to_le_bytes w32 (le_at w32 s 60) in
    let e5 : field s 60 4 ≡ x5 = sym (le_at_spelled_32 s 60 (omega (arith, len)) bytes) in
    let end : drop 64 s ≡ [] = drop_all 64 s (omega (arith, len)) in
    let t5 : drop 60 s ≡ x5 ++ [] = cut s 60 4 ∙ ap (λ (t : List ℕ). t ++ drop 64 s) e5
    ∙ ap (λ (t : List ℕ). x5 ++ t) end in
    let t4 : drop 24 s ≡ x4 ++ (x5 ++ []) = cut s 24 36 ∙ ap (λ (t : List ℕ). t ++ drop 60 s) e4
    ∙ ap (λ (t : List ℕ). x4 ++ t) t5 in
    let t3 : drop 16 s ≡ x3 ++ (x4 ++ (x5 ++ [])) = cut s 16 8
    ∙ ap (λ (t : List ℕ). t ++ drop 24 s) e3 ∙ ap (λ (t : List ℕ). x3 ++ t) t4 in
    let t2 : drop 12 s ≡ x2 ++ (x3 ++ (x4 ++ (x5 ++ []))) = cut s 12 4
    ∙ ap (λ (t : List ℕ). t ++ drop 16 s) e2 ∙ ap (λ (t : List ℕ). x2 ++ t) t3 in
    let t1 : drop 8 s ≡ x1 ++ (x2 ++ (x3 ++ (x4 ++ (x5 ++ [])))) = cut s 8 4
    ∙ ap (λ (t : List ℕ). t ++ drop 12 s) e1 ∙ ap (λ (t : List ℕ). x1 ++ t) t2 in
    let t0 : drop 0 s ≡ x0 ++ (x1 ++ (x2 ++ (x3 ++ (x4 ++ (x5 ++ []))))) = cut s 0 8
    ∙ ap (λ (t : List ℕ). t ++ drop 8 s) e0 ∙ ap (λ (t : List ℕ). x0 ++ t) t1 in
    let regroup : x0 ++ (x1 ++ (x2 ++ (x3 ++ (x4 ++ (x5 ++ []))))) ≡ x0 ++ x1 ++ x2 ++ x3 ++ x4
    ++ x5 = device_regroup x0 x1 x2 x3 x4 x5 in (
      t0 ∙ regroup,
      record {
        first_logical_sector = le_at_fits_64 s 0 bytes;
        alignment =
            le_at_fits_32 s 8 bytes;
        alignment_offset = le_at_fits_32 s 12 bytes;
        size =
            le_at_fits_64 s 16 bytes;
        partition_name = n.0;
        flags = le_at_fits_32 s 60 bytes;
      },
    )

device_from : (s : List ℕ) (e : BlockDevice) → length s ≡ 64 → IsBytes s → device_of s ≡ Some e
    → (s ≡ device_bytes e) × FitsDevice e
unfolding device_of
device_from s e len bytes h =
    let m = mapped (λ (name : List ℕ). device_at s name) (name_of_field (field s 24 36)) e h in
    subst (λ (v : BlockDevice). (s ≡ device_bytes v) × FitsDevice v) m.2
    (device_cut s m.0 len bytes m.1)

pub devices_spelled : IsSpelled 64 device_bytes device_of FitsDevice
devices_spelled =
    record { len = λ e fits. (device_spelled e fits).len; back = device_back; from = device_from }

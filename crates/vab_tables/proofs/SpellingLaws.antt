-- The text that is written for a table stands for it, whatever follows.
use Rattle.std.proofs.Common.{◌≡◌, ℕ, zero, suc, ◌+◌, ◌*◌, ◌^◌, ◌<◌, ◌≤◌, Bool, cond, eqb, List, []}
use Rattle.std.proofs.Common.{◌∷◌, ◌++◌, length, take, drop, replicate, Option, Ok, refl, sym, ap}
use Rattle.std.proofs.Common.{subst, ◌∙◌, append_assoc, arith}
use Rattle.std.specs.Prelude.{bit_and, All}
use Rattle.std.specs.List.{flat_map}
use Rattle.std.specs.Int.{w16, w32, to_le_bytes, from_le_bytes}
use Rattle.std.proofs.lemmas.Bool.{ne_eqb}
use Rattle.std.proofs.lemmas.Nat.{from_le_bytes-to_le_bytes_4}
use Rattle.std.proofs.lemmas.Grind.{and_numeral}
use Rattle.std.proofs.lemmas.List.{append-nil, length-append, take_at, drop_at, drop-drop}
use Rattle.std.proofs.lemmas.List.{drop-take}
use Rattle.std.proofs.lemmas.List.Elements.{All-weaker, All-head, All-tail, All-nil, All-push}
use Rattle.sha2.proofs.Facts256.{length-sha256}
use Rattle.vab_bytes.specs.Number.{field, le_at}
use Rattle.vab_tables.specs.declared.entries.BlockDevice.{BlockDevice}
use Rattle.vab_tables.specs.declared.table.Table.{Table}
use Rattle.vab_tables.specs.Entries.{partition_bytes, extent_bytes, group_bytes, device_bytes}
use Rattle.vab_tables.specs.Entries.{FitsPartition, FitsExtent, FitsGroup, FitsDevice}
use Rattle.vab_tables.specs.Rules.{IsGroup, IsExtent, IsPartition, attributes_of, KeepsRules}
use Rattle.vab_tables.specs.Text.{sum_of, no_sum, magic_at, major_at, minor_at, header_size_at}
use Rattle.vab_tables.specs.Text.{header_sum_at, tables_size_at, tables_sum_at, offset_at, count_at}
use Rattle.vab_tables.specs.Text.{entry_size_at, flags_at, blank_header, tables_at, area_at}
use Rattle.vab_tables.specs.Text.{text_size_of, Lists, IsTableText}
use Rattle.vab_tables.specs.Spelling.{table_size_of, as_minor_2, tables_text, descriptor_text}
use Rattle.vab_tables.specs.Spelling.{header_front, descriptors_text, header_back, header_sum_of}
use Rattle.vab_tables.specs.Spelling.{table_text}
use Rattle.vab_tables.specs.Reading.{table_of}
use Rattle.vab_tables.proofs.TextLaws.{text_only}
use Rattle.vab_tables.proofs.EntryLaws.{IsSpelled, partitions_spelled, extents_spelled}
use Rattle.vab_tables.proofs.EntryLaws.{groups_spelled, devices_spelled}

-- ---- lengths

length-sum : (bytes : List ℕ) → length (sum_of bytes) ≡ 32
unfolding sum_of
length-sum bytes = length-sha256 bytes

length-front : length header_front ≡ 12
unfolding header_front
length-front = refl

length-header_sum : (t : Table) → length (header_sum_of t) ≡ 32
unfolding header_sum_of
length-header_sum t = length-sum (header_front ++ no_sum ++ header_back t)

length-descriptor : (offset count size : ℕ) → length (descriptor_text offset count size) ≡ 12
unfolding descriptor_text
length-descriptor offset count size = refl

length-flat : {E : Type 0} {read : List ℕ → Option E} (size : ℕ) (spell : E → List ℕ) (Fits : E
    → Type 0) → IsSpelled size spell read Fits → (es : List E) → All Fits es
    → length (flat_map spell es) ≡ length es * size
length-flat size spell Fits s [] fits = omega arith
length-flat size spell Fits s (e ∷ es) fits =
    let here : length (spell e) ≡ size = s.len e (All-head Fits e es fits) in
    let rest = length-flat size spell Fits s es (All-tail Fits e es fits) in
    omega (arith, here, rest, length-append (spell e) (flat_map spell es))

-- ---- pieces behind a place

-- behind a piece that stands at a place stands the rest
drop_next : (text piece rest : List ℕ) (at n : ℕ) → drop at text ≡ piece ++ rest → length piece ≡ n
    → drop (at + n) text ≡ rest
drop_next text piece rest at n e len = sym (drop-drop n at text) ∙ ap (drop n) e
    ∙ drop_at piece rest n len

-- the piece that stands at a place is the field there
here : (text piece rest : List ℕ) (at n : ℕ) → drop at text ≡ piece ++ rest → length piece ≡ n
    → field text at n ≡ piece
here text piece rest at n e len = ap (take n) e ∙ take_at piece rest n len

number_here : (text rest : List ℕ) (at v : ℕ) → v < 2 ^ 32
    → drop at text ≡ to_le_bytes w32 v ++ rest → le_at w32 text at ≡ v
number_here text rest at v lt e =
    ap (from_le_bytes w32) (here text (to_le_bytes w32 v) rest at 4 e refl)
    ∙ from_le_bytes-to_le_bytes_4 v lt

-- ---- the header

-- what stands where in the text
record Stands (t : Table) (rest text : List ℕ) : Type 0 where
  front : drop 0 text ≡ header_front
      ++ (header_sum_of t ++ (header_back t ++ (tables_text t ++ rest)))
  sum : drop 12 text ≡ header_sum_of t ++ (header_back t ++ (tables_text t ++ rest))
  back : drop 44 text ≡ header_back t ++ (tables_text t ++ rest)
  size : drop 44 text ≡ to_le_bytes w32 (length (tables_text t)) ++ drop 48 text
  tables_sum : drop 48 text ≡ sum_of (tables_text t) ++ drop 80 text
  partitions : drop 80 text ≡ descriptor_text 0 (length t.partitions) 52 ++ drop 92 text
  extents : drop 92 text ≡ descriptor_text (52 * length t.partitions) (length t.extents) 24
      ++ drop 104 text
  groups : drop 104 text
      ≡ descriptor_text (52 * length t.partitions + 24 * length t.extents) (length t.groups) 48
      ++ drop 116 text
  devices : drop 116 text
      ≡ descriptor_text (52 * length t.partitions + 24 * length t.extents + 48 * length t.groups)
      (length t.devices) 64 ++ drop 128 text
  flags : drop 128 text ≡ to_le_bytes w32 t.flags ++ drop 132 text
  tables : drop 256 text ≡ tables_text t ++ rest

length_five : (a b d g z : List ℕ) → length a ≡ 4 → length b ≡ 32 → length d ≡ 48 → length g ≡ 4
    → length z ≡ 124 → length (a ++ b ++ d ++ g ++ z) ≡ 212
length_five a b d g z ha hb hd hg hz =
    omega (
      arith,
      length-append (a ++ b ++ d ++ g) z,
      length-append (a ++ b ++ d) g,
      length-append
          (a ++ b) d,
      length-append a b,
    )

length_four : (a b c d : List ℕ) → length a ≡ 12 → length b ≡ 12 → length c ≡ 12 → length d ≡ 12
    → length (a ++ b ++ c ++ d) ≡ 48
length_four a b c d ha hb hc hd =
    omega (arith, length-append (a ++ b ++ c) d, length-append (a ++ b) c, length-append a b)

length-descriptors : (t : Table) → length (descriptors_text t) ≡ 48
unfolding descriptors_text
length-descriptors t =
    let p = 52 * length t.partitions in
    let e = 24 * length t.extents in
    let g = 48 * length t.groups in
    length_four (descriptor_text 0 (length t.partitions) 52)
    (descriptor_text p (length t.extents) 24) (descriptor_text (p + e) (length t.groups) 48)
    (descriptor_text (p + e + g) (length t.devices) 64)
    (length-descriptor 0 (length t.partitions) 52) (length-descriptor p (length t.extents) 24)
    (length-descriptor (p + e) (length t.groups) 48)
    (length-descriptor (p + e + g) (length t.devices) 64)

pub length-back : (t : Table) → length (header_back t) ≡ 212
unfolding header_back
length-back t =
    length_five (to_le_bytes w32 (length (tables_text t))) (sum_of (tables_text t))
    (descriptors_text t) (to_le_bytes w32 t.flags) (replicate 124 0) refl
    (length-sum (tables_text t)) (length-descriptors t) refl refl

regroup_back : (a b d g z x : List ℕ)
    → a ++ b ++ d ++ g ++ z ++ x ≡ a ++ (b ++ (d ++ (g ++ (z ++ x))))
regroup_back a b d g z x = simp append_assoc

regroup_four : (a b c d x : List ℕ) → a ++ b ++ c ++ d ++ x ≡ a ++ (b ++ (c ++ (d ++ x)))
regroup_four a b c d x = simp append_assoc

back_parts : (t : Table) (x : List ℕ)
    → header_back t ++ x ≡ to_le_bytes w32 (length (tables_text t))
    ++ (sum_of (tables_text t)
    ++ (descriptors_text t ++ (to_le_bytes w32 t.flags ++ (replicate 124 0 ++ x))))
unfolding header_back
back_parts t x =
    regroup_back (to_le_bytes w32 (length (tables_text t))) (sum_of (tables_text t))
    (descriptors_text t) (to_le_bytes w32 t.flags) (replicate 124 0) x

descriptors_parts : (t : Table) (x : List ℕ)
    → descriptors_text t ++ x ≡ descriptor_text 0 (length t.partitions) 52
    ++ (descriptor_text (52 * length t.partitions) (length t.extents) 24
    ++ (descriptor_text (52 * length t.partitions + 24 * length t.extents) (length t.groups) 48
    ++ (descriptor_text
    (52 * length t.partitions + 24 * length t.extents + 48 * length t.groups) (length t.devices)
    64 ++ x)))
unfolding descriptors_text
descriptors_parts t x =
    let p = 52 * length t.partitions in
    let e = 24 * length t.extents in
    let g = 48 * length t.groups in
    regroup_four (descriptor_text 0 (length t.partitions) 52)
    (descriptor_text p (length t.extents) 24) (descriptor_text (p + e) (length t.groups) 48)
    (descriptor_text (p + e + g) (length t.devices) 64) x

-- a piece at a place, with what follows it by its place
with_rest : (text piece rest : List ℕ) (at n : ℕ) → drop at text ≡ piece ++ rest → length piece ≡ n
    → drop at text ≡ piece ++ drop (at + n) text
with_rest text piece rest at n e len = e
    ∙ ap (λ (t : List ℕ). piece ++ t) (sym (drop_next text piece rest at n e len))

-- the same pieces one after another
stands_for : (t : Table) (rest text : List ℕ)
    → drop 0 text ≡ header_front ++ (header_sum_of t ++ (header_back t ++ (tables_text t ++ rest)))
    → Stands t rest text
stands_for t rest text front =
    let p = 52 * length t.partitions in
    let e = 24 * length t.extents in
    let g = 48 * length t.groups in
    let d0 = descriptor_text 0 (length t.partitions) 52 in
    let d1 = descriptor_text p (length t.extents) 24 in
    let d2 = descriptor_text (p + e) (length t.groups) 48 in
    let d3 = descriptor_text (p + e + g) (length t.devices) 64 in
    let tables = tables_text t ++ rest in
    let zeros : List ℕ = replicate 124 0 in
    let number = to_le_bytes w32 (length (tables_text t)) in
    let flags = to_le_bytes w32 t.flags in
    let behind = flags ++ (zeros ++ tables) in
    let slen : length (header_sum_of t) ≡ 32 = length-header_sum t in
    let sum : drop 12 text ≡ header_sum_of t ++ (header_back t ++ tables) =
    drop_next text header_front (header_sum_of t ++ (header_back t ++ tables)) 0 12 front
    length-front in
    let back : drop 44 text ≡ header_back t ++ tables =
    drop_next text (header_sum_of t) (header_back t ++ tables) 12 32 sum slen in
    let size : drop 44 text ≡ number ++ (sum_of (tables_text t) ++ (descriptors_text t ++ behind)) =
    back ∙ back_parts t tables in
    let tables_sum : drop 48 text ≡ sum_of (tables_text t) ++ (descriptors_text t ++ behind) =
    drop_next text number (sum_of (tables_text t) ++ (descriptors_text t ++ behind)) 44 4 size
    refl in
    let at80 : drop 80 text ≡ d0 ++ (d1 ++ (d2 ++ (d3 ++ behind))) =
    drop_next text (sum_of (tables_text t)) (descriptors_text t ++ behind) 48 32 tables_sum
    (length-sum (tables_text t)) ∙ descriptors_parts t behind in
    let at92 : drop 92 text ≡ d1 ++ (d2 ++ (d3 ++ behind)) =
    drop_next text d0 (d1 ++ (d2 ++ (d3 ++ behind))) 80 12 at80
    (length-descriptor 0 (length t.partitions) 52) in
    let at104 : drop 104 text ≡ d2 ++ (d3 ++ behind) =
    drop_next text d1 (d2 ++ (d3 ++ behind)) 92 12 at92
    (length-descriptor p (length t.extents) 24) in
    let at116 : drop 116 text ≡ d3 ++ behind =
    drop_next text d2 (d3 ++ behind) 104 12 at104
    (length-descriptor (p + e) (length t.groups) 48) in
    let at128 : drop 128 text ≡ behind =
    drop_next text d3 behind 116 12 at116 (length-descriptor (p + e + g) (length t.devices) 64)
    in
    record {
      front = front;
      sum = sum;
      back = back;
      size = with_rest text number (sum_of (tables_text t) ++ (descriptors_text t ++ behind)) 44 4
          size refl;
      tables_sum =
          with_rest text (sum_of (tables_text t)) (descriptors_text t ++ behind) 48 32 tables_sum
          (length-sum (tables_text t));
      partitions =
          with_rest text d0 (d1 ++ (d2 ++ (d3 ++ behind))) 80 12 at80
          (length-descriptor 0 (length t.partitions) 52);
      extents =
          with_rest text d1 (d2 ++ (d3 ++ behind)) 92 12 at92
          (length-descriptor p (length t.extents) 24);
      groups =
          with_rest text d2 (d3 ++ behind) 104 12 at104
          (length-descriptor (p + e) (length t.groups) 48);
      devices =
          with_rest text d3 behind 116 12 at116
          (length-descriptor (p + e + g) (length t.devices) 64);
      flags = with_rest text flags (zeros ++ tables) 128 4 at128 refl;
      tables = drop_next text (header_back t) tables 44 212 back (length-back t);
    }

regroup_text : (f s b t x : List ℕ) → f ++ s ++ b ++ t ++ x ≡ f ++ (s ++ (b ++ (t ++ x)))
regroup_text f s b t x = simp append_assoc

stands_so : (t : Table) (rest : List ℕ) → Stands t rest (table_text t ++ rest)
unfolding table_text
stands_so t rest =
    stands_for t rest (table_text t ++ rest)
    (regroup_text header_front (header_sum_of t) (header_back t) (tables_text t) rest)

-- ---- the fields

front_fields : (text x : List ℕ) → drop 0 text ≡ header_front ++ x
    → (magic_at text ≡ 0x414C5030) × (major_at text ≡ 10) × (minor_at text ≡ 2)
    × (header_size_at text ≡ 256)
unfolding header_front magic_at major_at minor_at header_size_at
front_fields text x e = (
  ap (λ (t : List ℕ). le_at w32 t 0) e,
  ap (λ (t : List ℕ). le_at w16 t 4) e,
  ap
      (λ (t : List ℕ). le_at w16 t 6) e,
  ap (λ (t : List ℕ). le_at w32 t 8) e,
)

header_sum_here : (t : Table) (rest text : List ℕ) → Stands t rest text
    → header_sum_at text ≡ header_sum_of t
unfolding header_sum_at
header_sum_here t rest text s =
    here text (header_sum_of t) (header_back t ++ (tables_text t ++ rest)) 12 32 s.sum
    (length-header_sum t)

tables_size_here : (t : Table) (rest text : List ℕ) → length (tables_text t) < 2 ^ 32
    → Stands t rest text → tables_size_at text ≡ length (tables_text t)
unfolding tables_size_at
tables_size_here t rest text lt s =
    number_here text (drop 48 text) 44 (length (tables_text t)) lt s.size

tables_sum_here : (t : Table) (rest text : List ℕ) → Stands t rest text
    → tables_sum_at text ≡ sum_of (tables_text t)
unfolding tables_sum_at
tables_sum_here t rest text s =
    here text (sum_of (tables_text t)) (drop 80 text) 48 32 s.tables_sum
    (length-sum (tables_text t))

flags_here : (t : Table) (rest text : List ℕ) → t.flags < 2 ^ 32 → minor_at text ≡ 2
    → Stands t rest text → flags_at text ≡ t.flags
unfolding flags_at
flags_here t rest text lt minor s = ap (λ (m : ℕ). cond (eqb m 2) (le_at w32 text 128) 0) minor
    ∙ number_here text (drop 132 text) 128 t.flags lt s.flags

-- the three numbers of a descriptor
descriptor_here : (text rest : List ℕ) (at offset count size : ℕ) → offset < 2 ^ 32 → count < 2 ^ 32
    → size < 2 ^ 32 → drop at text ≡ descriptor_text offset count size ++ rest
    → (offset_at text at ≡ offset) × (count_at text at ≡ count) × (entry_size_at text at ≡ size)
unfolding descriptor_text offset_at count_at entry_size_at
descriptor_here text rest at offset count size lo lc ls e =
    let o = to_le_bytes w32 offset in
    let c = to_le_bytes w32 count in
    let z = to_le_bytes w32 size in
    let at0 : drop at text ≡ o ++ (c ++ (z ++ rest)) = e in
    let at4 : drop (at + 4) text ≡ c ++ (z ++ rest) =
    drop_next text o (c ++ (z ++ rest)) at 4 at0 refl in
    let eight : at + 4 + 4 ≡ at + 8 = omega arith in
    let at8 : drop (at + 8) text ≡ z ++ rest = ap (λ (k : ℕ). drop k text) (sym eight)
    ∙ drop_next text c (z ++ rest) (at + 4) 4 at4 refl in (
      number_here text (c ++ (z ++ rest)) at offset lo at0,
      number_here text (z ++ rest) (at + 4)
          count lc at4,
      number_here text rest (at + 8) size ls at8,
    )

blank_here : (t : Table) (rest text : List ℕ) → header_size_at text ≡ 256 → Stands t rest text
    → sum_of (blank_header text) ≡ header_sum_of t
unfolding blank_header header_sum_of
blank_here t rest text size s =
    let front : take 12 text ≡ header_front =
    here text header_front (header_sum_of t ++ (header_back t ++ (tables_text t ++ rest))) 0 12
    s.front length-front in
    let back : drop 44 (take 256 text) ≡ header_back t = drop-take 44 212 text
    ∙ here text (header_back t) (tables_text t ++ rest) 44 212 s.back (length-back t) in
    rw (size, front, back) refl

tables_here : (t : Table) (rest text : List ℕ) → header_size_at text ≡ 256
    → tables_size_at text ≡ length (tables_text t) → Stands t rest text
    → tables_at text ≡ tables_text t
unfolding tables_at
tables_here t rest text size len s =
    rw (size, len) (here text (tables_text t) rest 256 (length (tables_text t)) s.tables refl)

-- ---- the entries

-- the bytes of each kind of entries
record Lengths (t : Table) : Type 0 where
  partitions : length (flat_map partition_bytes t.partitions) ≡ length t.partitions * 52
  extents : length (flat_map extent_bytes t.extents) ≡ length t.extents * 24
  groups : length (flat_map group_bytes t.groups) ≡ length t.groups * 48
  devices : length (flat_map device_bytes t.devices) ≡ length t.devices * 64

lengths_of : (t : Table) → KeepsRules t → Lengths t
lengths_of t r =
    let device : All FitsDevice t.devices =
    subst (λ (ds : List BlockDevice). All FitsDevice ds) (sym r.one_device)
    (All-push FitsDevice [] r.device (All-nil FitsDevice) r.device_rule.fits) in
    record {
      partitions =
          length-flat 52 partition_bytes FitsPartition partitions_spelled t.partitions
          (All-weaker (IsPartition t.minor (length t.extents) (length t.groups)) FitsPartition
          (λ p keeps. keeps.fits) t.partitions r.partitions);
      extents =
          length-flat 24 extent_bytes FitsExtent extents_spelled t.extents
          (All-weaker (IsExtent r.device) FitsExtent (λ e keeps. keeps.fits) t.extents r.extents);
      groups =
          length-flat 48 group_bytes FitsGroup groups_spelled t.groups
          (All-weaker IsGroup FitsGroup (λ g keeps. keeps.fits) t.groups r.groups);
      devices = length-flat 64 device_bytes FitsDevice devices_spelled t.devices device;
    }

regroup_tables : (p e g d : List ℕ) → p ++ e ++ g ++ d ≡ p ++ (e ++ (g ++ (d ++ [])))
regroup_tables p e g d = simp (append_assoc, append-nil)

-- the tables have so many bytes
pub length-tables_text : (t : Table) → KeepsRules t → 256 + length (tables_text t) ≡ table_size_of t
unfolding tables_text
length-tables_text t r =
    let l = lengths_of t r in
    let p = flat_map partition_bytes t.partitions in
    let e = flat_map extent_bytes t.extents in
    let g = flat_map group_bytes t.groups in
    let d = flat_map device_bytes t.devices in
    omega (
      arith,
      l.partitions,
      l.extents,
      l.groups,
      l.devices,
      length-append (p ++ e ++ g) d,
      length-append (p ++ e) g,
      length-append p e,
    )

-- the text has as many bytes as its size says
pub length-table_text : (t : Table) → KeepsRules t → length (table_text t) ≡ table_size_of t
unfolding table_text
length-table_text t r =
    let f = header_front in
    let s = header_sum_of t in
    let b = header_back t in
    let x = tables_text t in
    omega (
      arith,
      length-front,
      length-header_sum t,
      length-back t,
      length-tables_text t r,
      length-append (f ++ s ++ b) x,
      length-append (f ++ s) b,
      length-append f s,
    )

-- a descriptor lists the entries that stand at its offset
lists_here : {E : Type 0} (text tables rest : List ℕ) (descriptor offset size : ℕ) (spell : E
    → List ℕ) (es : List E) → tables_at text ≡ tables → tables_size_at text ≡ length tables
    → (offset_at text descriptor ≡ offset) × (count_at text descriptor ≡ length es)
    × (entry_size_at text descriptor ≡ size) → drop offset tables ≡ flat_map spell es ++ rest
    → length (flat_map spell es) ≡ length es * size
    → offset + length es * size ≤ length tables → Lists text descriptor size spell es
unfolding area_at
lists_here text tables rest descriptor offset size spell es at len d from many within = record {
  entry_size = d.2;
  count = d.1;
  within = omega (arith, d.0, len, within);
  spelled =
      rw (at, d.0, d.1) (here tables (flat_map spell es) rest offset (length es * size) from many);
}

-- all four
record AllListed (text : List ℕ) (t : Table) : Type 0 where
  partitions : Lists text 80 52 partition_bytes t.partitions
  extents : Lists text 92 24 extent_bytes t.extents
  groups : Lists text 104 48 group_bytes t.groups
  devices : Lists text 116 64 device_bytes t.devices

all_listed : (t : Table) (rest text : List ℕ) → KeepsRules t → table_size_of t < 2 ^ 32
    → tables_at text ≡ tables_text t → tables_size_at text ≡ length (tables_text t)
    → Stands t rest text → AllListed text t
unfolding tables_text
all_listed t rest text r small at len s =
    let l = lengths_of t r in
    let np = length t.partitions in
    let ne = length t.extents in
    let ng = length t.groups in
    let nd = length t.devices in
    let p = flat_map partition_bytes t.partitions in
    let e = flat_map extent_bytes t.extents in
    let g = flat_map group_bytes t.groups in
    let d = flat_map device_bytes t.devices in
    let whole : List ℕ = tables_text t in
    let total : 256 + length whole ≡ table_size_of t = length-tables_text t r in
    let at0 : drop 0 whole ≡ p ++ (e ++ (g ++ (d ++ []))) = regroup_tables p e g d in
    let to1 : 0 + np * 52 ≡ 52 * np = omega arith in
    let at1 : drop (52 * np) whole ≡ e ++ (g ++ (d ++ [])) = ap (λ (k : ℕ). drop k whole) (sym to1)
    ∙ drop_next whole p (e ++ (g ++ (d ++ []))) 0 (np * 52) at0 l.partitions in
    let to2 : 52 * np + ne * 24 ≡ 52 * np + 24 * ne = omega arith in
    let at2 : drop (52 * np + 24 * ne) whole ≡ g ++ (d ++ []) =
    ap (λ (k : ℕ). drop k whole) (sym to2)
    ∙ drop_next whole e (g ++ (d ++ [])) (52 * np) (ne * 24) at1 l.extents in
    let to3 : 52 * np + 24 * ne + ng * 48 ≡ 52 * np + 24 * ne + 48 * ng = omega arith in
    let at3 : drop (52 * np + 24 * ne + 48 * ng) whole ≡ d ++ [] =
    ap (λ (k : ℕ). drop k whole) (sym to3)
    ∙ drop_next whole g (d ++ []) (52 * np + 24 * ne) (ng * 48) at2 l.groups in
    let d0 =
    descriptor_here text (drop 92 text) 80 0 np 52 (omega arith) (omega arith) (omega arith)
    s.partitions in
    let d1 =
    descriptor_here text (drop 104 text) 92 (52 * np) ne 24 (omega arith) (omega arith)
    (omega arith) s.extents in
    let d2 =
    descriptor_here text (drop 116 text) 104 (52 * np + 24 * ne) ng 48 (omega arith)
    (omega arith) (omega arith) s.groups in
    let d3 =
    descriptor_here text (drop 128 text) 116 (52 * np + 24 * ne + 48 * ng) nd 64 (omega arith)
    (omega arith) (omega arith) s.devices in
    record {
      partitions =
          lists_here text whole (e ++ (g ++ (d ++ []))) 80 0 52 partition_bytes t.partitions at len
          d0 at0 l.partitions (omega (arith, total));
      extents =
          lists_here text whole (g ++ (d ++ [])) 92 (52 * np) 24 extent_bytes t.extents at len d1
          at1 l.extents (omega (arith, total));
      groups =
          lists_here text whole (d ++ []) 104 (52 * np + 24 * ne) 48 group_bytes t.groups at len d2
          at2 l.groups (omega (arith, total));
      devices =
          lists_here text whole [] 116 (52 * np + 24 * ne + 48 * ng) 64 device_bytes t.devices at
          len d3 at3 l.devices (omega (arith, total));
    }

-- ---- minor version 2

-- attributes of an earlier minor are attributes of minor 2
attributes_of_2 : (minor a : ℕ) → bit_and a (attributes_of minor) ≡ a → bit_and a 13 ≡ a
attributes_of_2 zero zero h = refl
attributes_of_2 zero (suc zero) h = refl
attributes_of_2 zero (suc (suc a)) h = absurd (omega (arith, h, and_numeral (suc (suc a)) 0 refl))
attributes_of_2 (suc minor) a h =
    let later : attributes_of (suc minor) ≡ 13 =
    ap (λ (b : Bool). cond b 1 13) (ne_eqb (suc minor) 0 (λ e. omega (arith, e))) in
    subst (λ (k : ℕ). bit_and a k ≡ a) later h

pub keeps_as_minor_2 : (t : Table) → KeepsRules t → KeepsRules (as_minor_2 t)
keeps_as_minor_2 t r =
    let e = length t.extents in
    let g = length t.groups in
    record {
      minor = omega arith;
      flags = r.flags;
      device = r.device;
      one_device = r.one_device;
      device_rule = r.device_rule;
      groups = r.groups;
      group_names = r.group_names;
      extents = r.extents;
      partitions =
          All-weaker (IsPartition t.minor e g) (IsPartition 2 e g)
          (λ p k. record {
            fits = k.fits;
            attributes =
                attributes_of_2 t.minor p.attributes k.attributes;
            extents_exist =
                k.extents_exist;
            group_exists = k.group_exists;
          }) t.partitions r.partitions;
      partition_names = r.partition_names;
    }

-- the text that is written is one of the table, whatever follows it
pub text_stands : (max : ℕ) (t : Table) (rest : List ℕ) → KeepsRules t → table_size_of t < 2 ^ 32
    → table_size_of t ≤ max → IsTableText max (table_text t ++ rest) (as_minor_2 t)
text_stands max t rest r small fits =
    let text : List ℕ = table_text t ++ rest in
    let s = stands_so t rest in
    let total = length-tables_text t r in
    let f =
    front_fields text (header_sum_of t ++ (header_back t ++ (tables_text t ++ rest))) s.front in
    let size = tables_size_here t rest text (omega (arith, small, total)) s in
    let tables = tables_here t rest text f.3 size s in
    let listed = all_listed t rest text r small tables size s in
    let long : length text ≡ table_size_of t + length rest =
    omega (arith, length-append (table_text t) rest, length-table_text t r) in
    record {
      long = omega (arith, long, total);
      magic = f.0;
      major = f.1;
      minor = f.2;
      header_size = f.3;
      header = omega (arith, long, total, f.3);
      header_sum = header_sum_here t rest text s ∙ sym (blank_here t rest text f.3 s);
      within_max = omega (arith, f.3, size, total, fits);
      within_text = omega (arith, f.3, size, total, long);
      tables_sum = tables_sum_here t rest text s ∙ ap sum_of (sym tables);
      partitions = listed.partitions;
      extents = listed.extents;
      groups = listed.groups;
      devices = listed.devices;
      flags = flags_here t rest text r.flags f.2 s;
      rules = keeps_as_minor_2 t r;
    }

-- so it is read as the table
pub text_read : (max : ℕ) (t : Table) (rest : List ℕ) → KeepsRules t → table_size_of t < 2 ^ 32
    → table_size_of t ≤ max → table_of max (table_text t ++ rest) ≡ Ok (as_minor_2 t)
text_read max t rest r small fits =
    text_only max (table_text t ++ rest) (as_minor_2 t) (text_stands max t rest r small fits)

-- its own size is the table's
pub text_size_of_text : (t : Table) (rest : List ℕ) → KeepsRules t → table_size_of t < 2 ^ 32
    → text_size_of (table_text t ++ rest) ≡ table_size_of t
unfolding text_size_of
text_size_of_text t rest r small =
    let s = stands_so t rest in
    let f =
    front_fields (table_text t ++ rest)
    (header_sum_of t ++ (header_back t ++ (tables_text t ++ rest))) s.front in
    let total = length-tables_text t r in
    omega (
      arith,
      f.3,
      tables_size_here t rest (table_text t ++ rest) (omega (arith, small, total))
          s,
      total,
    )

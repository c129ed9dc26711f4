-- The bytes that a text needs decide what it means.
use Rattle.std.proofs.Common.{◌≡◌, ℕ, ◌+◌, ◌*◌, ◌≤◌, Bool, true, false, cond, ◌&&◌, eqb, leb, List}
use Rattle.std.proofs.Common.{length, take, Ok, Err, refl, sym, ap, ◌∙◌, arith, inl, inr}
use Rattle.std.proofs.lemmas.Bool.{cases_Bool, cases_lt, and_parts, and_from, and_left, and_right}
use Rattle.std.proofs.lemmas.Bool.{eqb-true, le-leb}
use Rattle.std.proofs.lemmas.List.{take-take, take_all, length-take-le}
use Rattle.vab_tables.specs.declared.table.Table.{Table}
use Rattle.vab_tables.specs.declared.fault.TableFault.{TableFault}
use Rattle.vab_tables.specs.declared.fault.TableFault.TheVariants as faults
use Rattle.vab_tables.specs.Text.{major_at, minor_at, header_size_at}
use Rattle.vab_tables.specs.Text.{header_size_of, tables_at}
use Rattle.vab_tables.specs.Text.{area_at, text_size_of, IsTableText}
use Rattle.vab_tables.specs.Reading.{has_header, has_version, has_header_sum, has_size}
use Rattle.vab_tables.specs.Reading.{has_tables_sum, is_bounded, has_bounds, frame_of, table_of}
use Rattle.vab_tables.specs.Spelling.{table_size_of}
use Rattle.vab_tables.specs.Needs.{has_whole_header, need_of}
use Rattle.vab_tables.proofs.TextLaws.{text_only}
use Rattle.vab_tables.proofs.FrontLaws.{SameParts, same_parts, flags_same, blank_same, tables_same}
use Rattle.vab_tables.proofs.FrontLaws.{header_size_long}

-- ---- texts with the same front, both at least as long

-- they begin with the same n bytes, and the longest header is among these
record SameFront (a b : List ℕ) (n : ℕ) : Type 0 where
  header : 256 ≤ n
  first : n ≤ length a
  second : n ≤ length b
  front : take n a ≡ take n b

parts_of : (a b : List ℕ) (n : ℕ) → SameFront a b n → SameParts a b
parts_of a b n s = same_parts a b n (omega (arith, s.header)) s.front

header_same : (a b : List ℕ) (n : ℕ) → SameFront a b n → has_header a ≡ has_header b
unfolding has_header
header_same a b n s =
    let p = parts_of a b n s in
    let long_a : leb 128 (length a) ≡ true =
    le-leb 128 (length a) (omega (arith, s.header, s.first)) in
    let long_b : leb 128 (length b) ≡ true =
    le-leb 128 (length b) (omega (arith, s.header, s.second)) in
    rw (long_a, long_b, p.magic) refl

header_size_short : (minor : ℕ) → header_size_of minor ≤ 256
header_size_short minor =
    elim (eqb minor 2) as (λ b. cond b 256 128 ≤ 256) [ true ↦ omega arith | false ↦ omega arith ]

version_same : (a b : List ℕ) (n : ℕ) → SameFront a b n → has_version a ≡ has_version b
unfolding has_version
version_same a b n s =
    let p = parts_of a b n s in
    let fields : Bool =
    eqb (major_at b) 10 && leb (minor_at b) 2
    && eqb (header_size_at b) (header_size_of (minor_at b)) in
    let same_fields : (eqb (major_at a) 10 && leb (minor_at a) 2
    && eqb (header_size_at a) (header_size_of (minor_at a)))
    ≡ fields = rw (p.major, p.minor, p.header_size) refl in
    elim (cases_Bool fields) [
      | inl t ↦
          let both =
          and_parts (eqb (major_at b) 10 && leb (minor_at b) 2)
          (eqb (header_size_at b) (header_size_of (minor_at b))) t in
          let size = eqb-true (header_size_at b) (header_size_of (minor_at b)) both.1 in
          let short = header_size_short (minor_at b) in
          let fits_a : leb (header_size_at a) (length a) ≡ true =
          le-leb _ _ (omega (arith, p.header_size, size, short, s.header, s.first)) in
          let fits_b : leb (header_size_at b) (length b) ≡ true =
          le-leb _ _ (omega (arith, size, short, s.header, s.second)) in
          and_from _ _ (same_fields ∙ t) fits_a ∙ sym (and_from _ _ t fits_b)
      | inr f ↦ and_left _ _ (same_fields ∙ f) ∙ sym (and_left _ _ f)
    ]

-- where the version is one that is read, the header is among them
header_short : (text : List ℕ) → has_version text ≡ true → header_size_at text ≤ 256
unfolding has_version
header_short text h =
    let two : Bool = eqb (major_at text) 10 && leb (minor_at text) 2 in
    let three : Bool = eqb (header_size_at text) (header_size_of (minor_at text)) in
    let all = and_parts (two && three) (leb (header_size_at text) (length text)) h in
    let both = and_parts two three all.0 in
    let size = eqb-true (header_size_at text) (header_size_of (minor_at text)) both.1 in
    omega (arith, size, header_size_short (minor_at text))

sum_same : (a b : List ℕ) (n : ℕ)
    → SameFront a b n
    → has_version b ≡ true
    → has_header_sum a ≡ has_header_sum b
unfolding has_header_sum
sum_same a b n s v =
    let p = parts_of a b n s in
    let blank =
    blank_same a b n (omega (arith, s.header)) p.header_size
    (omega (arith, header_short b v, s.header)) s.front in
    rw (p.header_sum, blank) refl

size_same : (a b : List ℕ) (n : ℕ) → SameFront a b n → text_size_of a ≡ text_size_of b
unfolding text_size_of
size_same a b n s =
    let p = parts_of a b n s in
    rw (p.header_size, p.tables_size) refl

whole_same : (a b : List ℕ) (n : ℕ)
    → SameFront a b n
    → has_whole_header a ≡ has_whole_header b
unfolding has_whole_header
whole_same a b n s = elim (cases_Bool (has_version b)) [
  | inl v ↦ rw (header_same a b n s, version_same a b n s, sum_same a b n s v) refl
  | inr v ↦
      and_left _ _ (and_right _ _ (version_same a b n s ∙ v))
      ∙ sym (and_left _ _ (and_right _ _ v))
]

-- so they need as much
needs_same : (max : ℕ) (a b : List ℕ) (n : ℕ) → SameFront a b n → need_of max a ≡ need_of max b
unfolding need_of
needs_same max a b n s = rw (whole_same a b n s, size_same a b n s) refl

-- ---- faults of the header

-- the fault of a header that isn't whole
header_fault : List ℕ → TableFault
header_fault text =
    cond (has_header text) (cond (has_version text) faults.BadHeaderSum faults.BadVersion)
    faults.NoHeader

fault_read : (max : ℕ) (text : List ℕ)
    → has_whole_header text ≡ false
    → table_of max text ≡ Err (header_fault text)
unfolding table_of frame_of has_whole_header header_fault
fault_read max text f = elim (cases_Bool (has_header text)) [
  | inr none ↦ rw none refl
  | inl header ↦ elim (cases_Bool (has_version text)) [
    | inr none ↦ rw (header, none) refl
    | inl version ↦ elim (cases_Bool (has_header_sum text)) [
      | inr none ↦ rw (header, version, none) refl
      | inl sum ↦ absurd (let wrong : true ≡ false =
          sym (and_from _ _ (and_from _ _ header version) sum) ∙ f in cc)
    ]
  ]
]

fault_same : (a b : List ℕ) (n : ℕ) → SameFront a b n → header_fault a ≡ header_fault b
unfolding header_fault
fault_same a b n s = rw (header_same a b n s, version_same a b n s) refl

-- ---- what follows the header

-- the three tests of a whole header
record WholeHeader (text : List ℕ) : Type 0 where
  header : has_header text ≡ true
  version : has_version text ≡ true
  sum : has_header_sum text ≡ true

whole_header : (text : List ℕ) → has_whole_header text ≡ true → WholeHeader text
unfolding has_whole_header
whole_header text t =
    let two = and_parts (has_header text && has_version text) (has_header_sum text) t in
    let one = and_parts (has_header text) (has_version text) two.0 in
    record { header = one.0; version = one.1; sum = two.1 }

too_long : (max : ℕ) (text : List ℕ)
    → leb (text_size_of text) max ≡ false
    → has_size max text ≡ false
unfolding has_size text_size_of
too_long max text f = and_left _ _ f

long_read : (max : ℕ) (text : List ℕ)
    → WholeHeader text
    → has_size max text ≡ false
    → table_of max text ≡ Err faults.BadSize
unfolding table_of frame_of
long_read max text w f = rw (w.header, w.version, w.sum, f) refl

sized : (max n : ℕ) (text : List ℕ)
    → leb (text_size_of text) max ≡ true
    → text_size_of text ≤ n
    → n ≤ length text
    → has_size max text ≡ true
unfolding has_size text_size_of
sized max n text t fits long = and_from _ _ t (le-leb _ _ (omega (arith, fits, long)))

tables_sum_same : (a b : List ℕ) (n : ℕ)
    → SameFront a b n
    → text_size_of b ≤ n
    → has_tables_sum a ≡ has_tables_sum b
unfolding has_tables_sum text_size_of
tables_sum_same a b n s fits =
    let p = parts_of a b n s in
    let tables = tables_same a b n p.header_size p.tables_size fits s.front in
    rw (p.tables_sum, tables) refl

bounded_same : (a b : List ℕ) (d size : ℕ)
    → SameParts a b
    → d ≤ 116
    → is_bounded a d size ≡ is_bounded b d size
unfolding is_bounded
bounded_same a b d size p le =
    rw (p.entry_size d le, p.offset d le, p.count d le, p.tables_size) refl

bounds_same : (a b : List ℕ) → SameParts a b → has_bounds a ≡ has_bounds b
unfolding has_bounds
bounds_same a b p =
    rw (
      bounded_same a b 80 52 p (omega arith),
      bounded_same a b 92 24 p (omega arith),
      bounded_same a b 104 48 p (omega arith),
      bounded_same a b 116 64 p (omega arith),
    ) refl

area_same : (a b : List ℕ) (d size : ℕ)
    → SameParts a b
    → tables_at a ≡ tables_at b
    → d ≤ 116
    → area_at a d size ≡ area_at b d size
unfolding area_at
area_same a b d size p tables le = rw (tables, p.offset d le, p.count d le) refl

frame_same : (max : ℕ) (a b : List ℕ) (n : ℕ)
    → SameFront a b n
    → WholeHeader b
    → has_size max a ≡ has_size max b
    → text_size_of b ≤ n
    → frame_of max a ≡ frame_of max b
unfolding frame_of
frame_same max a b n s w size fits =
    rw (
      header_same a b n s,
      version_same a b n s,
      sum_same a b n s w.version,
      size,
      tables_sum_same a b n s fits,
      bounds_same a b (parts_of a b n s),
    ) refl

parts_read : (max : ℕ) (a b : List ℕ) (n : ℕ)
    → SameFront a b n
    → WholeHeader b
    → has_size max a ≡ has_size max b
    → text_size_of b ≤ n
    → table_of max a ≡ table_of max b
unfolding table_of text_size_of
parts_read max a b n s w size fits =
    let p = parts_of a b n s in
    let tables = tables_same a b n p.header_size p.tables_size fits s.front in
    let flags = flags_same a b n p.minor (λ two. s.header) s.front in
    rw (
      frame_same max a b n s w size fits,
      p.count 116 (omega arith),
      area_same a b 116 64 p tables (omega arith),
      p.count 104 (omega arith),
      area_same a b 104 48 p tables (omega arith),
      p.count 92 (omega arith),
      area_same a b 92 24 p tables (omega arith),
      p.count 80 (omega arith),
      area_same a b 80 52 p tables (omega arith),
      p.minor,
      flags,
    ) refl

-- ---- the front of a text

need_is : (max : ℕ) (text : List ℕ)
    → has_whole_header text ≡ true
    → leb (text_size_of text) max ≡ true
    → need_of max text ≡ text_size_of text
unfolding need_of
need_is max text whole fits = rw (whole, fits) refl

front_of : (text : List ℕ) (n : ℕ) → 256 ≤ n → n ≤ length text → SameFront (take n text) text n
front_of text n header long = record {
  header = header;
  first = omega (arith, length-take-le n text long);
  second = long;
  front = take-take n n text (omega arith);
}

same_read : (max : ℕ) (a b : List ℕ) (n : ℕ)
    → SameFront a b n
    → need_of max b ≤ n
    → table_of max a ≡ table_of max b
same_read max a b n s need = elim (cases_Bool (has_whole_header b)) [
  | inr f ↦
      fault_read max a (whole_same a b n s ∙ f)
      ∙ ap (λ (x : TableFault). Err x) (fault_same a b n s)
      ∙ sym (fault_read max b f)
  | inl t ↦
      let w = whole_header b t in
      let v = whole_header a (whole_same a b n s ∙ t) in
      let size = size_same a b n s in
      elim (cases_Bool (leb (text_size_of b) max)) [
        | inr long ↦
            let long_a : leb (text_size_of a) max ≡ false =
            ap (λ (k : ℕ). leb k max) size ∙ long in
            long_read max a v (too_long max a long_a)
            ∙ sym (long_read max b w (too_long max b long))
        | inl short ↦
            let fits : text_size_of b ≤ n = omega (arith, need_is max b t short, need) in
            let short_a : leb (text_size_of a) max ≡ true =
            ap (λ (k : ℕ). leb k max) size ∙ short in
            let sizes : has_size max a ≡ has_size max b =
            sized max n a short_a (omega (arith, size, fits)) s.first
            ∙ sym (sized max n b short fits s.second) in
            parts_read max a b n s w sizes fits
      ]
]

-- what a text means is decided by the bytes that it needs and those of the longest header
pub need_reads : (max n : ℕ) (text : List ℕ)
    → 256 ≤ n
    → need_of max text ≤ n
    → table_of max (take n text) ≡ table_of max text
need_reads max n text header need = elim (cases_lt (length text) n) [
  | inl short ↦ ap (table_of max) (take_all n text (omega (arith, short)))
  | inr long ↦ same_read max (take n text) text n (front_of text n header long) need
]

-- which those of the longest header tell
pub need_front : (max n : ℕ) (text : List ℕ)
    → 256 ≤ n
    → need_of max (take n text) ≡ need_of max text
need_front max n text header = elim (cases_lt (length text) n) [
  | inl short ↦ ap (need_of max) (take_all n text (omega (arith, short)))
  | inr long ↦ needs_same max (take n text) text n (front_of text n header long)
]

-- the text of a table needs its header and its tables
pub need_text : (max : ℕ) (text : List ℕ) (t : Table)
    → IsTableText max text t
    → need_of max text ≡ text_size_of text
unfolding text_size_of
need_text max text t is = elim (cases_Bool (has_whole_header text)) [
  | inl whole ↦ need_is max text whole (le-leb _ _ is.within_max)
  | inr f ↦
      absurd (let wrong : Ok t ≡ Err (header_fault text) =
      sym (text_only max text t is) ∙ fault_read max text f in cc)
]

-- ---- how long texts are

-- header and tables are as long in another text that begins with the same header
pub text_size_same : (a b : List ℕ) (n : ℕ)
    → 128 ≤ n
    → take n a ≡ take n b
    → text_size_of a ≡ text_size_of b
unfolding text_size_of
text_size_same a b n long front =
    let p = same_parts a b n long front in
    rw (p.header_size, p.tables_size) refl

-- A table that was read is written in less than three times the maximum: the entries of each kind
-- lie within the tables, and those of several kinds may share bytes.
pub table_size_short : (max : ℕ) (text : List ℕ) (t : Table)
    → IsTableText max text t
    → table_size_of t + 64 ≤ 3 * max
table_size_short max text t is =
    let header : 128 ≤ header_size_at text =
    omega (arith, is.header_size, header_size_long t.minor) in
    omega (
      arith,
      header,
      is.within_max,
      is.partitions.within,
      is.extents.within,
      is.groups.within,
      ap length is.rules.one_device,
    )

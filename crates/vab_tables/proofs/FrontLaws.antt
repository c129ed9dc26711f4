-- What stands behind the tables is not read: a text that begins with the same header and tables is
-- one of the same table.
use Rattle.std.proofs.Common.{◌≡◌, ℕ, ◌+◌, ◌-◌, ◌≤◌, true, false, cond, eqb, List, length, take}
use Rattle.std.proofs.Common.{drop, Ok, refl, sym, ap, ◌∙◌, arith, inl, inr}
use Rattle.std.specs.Int.{w16, w32, from_le_bytes}
use Rattle.std.proofs.lemmas.Bool.{cases_Bool, eqb-true}
use Rattle.std.proofs.lemmas.List.{drop-take, take-take, length-take}
use Rattle.vab_bytes.specs.Number.{IsBytes, field, le_at}
use Rattle.vab_tables.specs.declared.table.Table.{Table}
use Rattle.vab_tables.specs.Entries.{partition_bytes, extent_bytes, group_bytes, device_bytes}
use Rattle.vab_tables.specs.Text.{sum_of, magic_at, major_at, minor_at, header_size_at}
use Rattle.vab_tables.specs.Text.{header_sum_at, tables_size_at, tables_sum_at, offset_at, count_at}
use Rattle.vab_tables.specs.Text.{entry_size_at, flags_at, header_size_of, blank_header, tables_at}
use Rattle.vab_tables.specs.Text.{area_at, text_size_of, Lists, IsTableText}
use Rattle.vab_tables.specs.Reading.{table_of}
use Rattle.vab_tables.proofs.TextLaws.{text_found, text_only}

-- a field within the same front
field_same : (a b : List ℕ) (n at m : ℕ) → take n a ≡ take n b → at + m ≤ n
    → field a at m ≡ field b at m
field_same a b n at m h le =
    let k : ℕ = n - at in
    let split : at + k ≡ n = omega (arith, le) in
    let short : m ≤ k = omega (arith, le) in
    let of : (x : List ℕ)
    → field x at m ≡ take m (drop at (take n x)) =
    λ x. sym (ap (λ (i : ℕ). take m (drop at (take i x))) (sym split)
    ∙ ap (take m) (drop-take at k x) ∙ take-take m k (drop at x) short) in
    of a ∙ ap (λ (t : List ℕ). take m (drop at t)) h ∙ sym (of b)

take_same : (a b : List ℕ) (n m : ℕ) → take n a ≡ take n b → m ≤ n → take m a ≡ take m b
take_same a b n m h le = sym (take-take m n a le) ∙ ap (take m) h ∙ take-take m n b le

pub header_size_long : (minor : ℕ) → 128 ≤ header_size_of minor
header_size_long minor =
    elim (eqb minor 2) as (λ b. 128 ≤ cond b 256 128) [ true ↦ omega arith | false ↦ omega arith ]

-- the parts of two texts with the same front
pub record SameParts (a b : List ℕ) : Type 0 where
  pub magic : magic_at a ≡ magic_at b
  pub major : major_at a ≡ major_at b
  pub minor : minor_at a ≡ minor_at b
  pub header_size : header_size_at a ≡ header_size_at b
  pub header_sum : header_sum_at a ≡ header_sum_at b
  pub tables_size : tables_size_at a ≡ tables_size_at b
  pub tables_sum : tables_sum_at a ≡ tables_sum_at b
  pub offset : (d : ℕ) → d ≤ 116 → offset_at a d ≡ offset_at b d
  pub count : (d : ℕ) → d ≤ 116 → count_at a d ≡ count_at b d
  pub entry_size : (d : ℕ) → d ≤ 116 → entry_size_at a d ≡ entry_size_at b d

pub same_parts : (a b : List ℕ) (n : ℕ) → 128 ≤ n → take n a ≡ take n b → SameParts a b
unfolding magic_at major_at minor_at header_size_at header_sum_at tables_size_at tables_sum_at
    offset_at count_at entry_size_at
same_parts a b n long h = record {
  magic = ap (from_le_bytes w32) (field_same a b n 0 4 h (omega (arith, long)));
  major = ap (from_le_bytes w16) (field_same a b n 4 2 h (omega (arith, long)));
  minor = ap (from_le_bytes w16) (field_same a b n 6 2 h (omega (arith, long)));
  header_size = ap (from_le_bytes w32) (field_same a b n 8 4 h (omega (arith, long)));
  header_sum = field_same a b n 12 32 h (omega (arith, long));
  tables_size = ap (from_le_bytes w32) (field_same a b n 44 4 h (omega (arith, long)));
  tables_sum = field_same a b n 48 32 h (omega (arith, long));
  offset = λ d le. ap (from_le_bytes w32) (field_same a b n d 4 h (omega (arith, long, le)));
  count = λ d le. ap (from_le_bytes w32) (field_same a b n (d + 4) 4 h (omega (arith, long, le)));
  entry_size =
      λ d le. ap (from_le_bytes w32) (field_same a b n (d + 8) 4 h (omega (arith, long, le)));
}

pub flags_same : (a b : List ℕ) (n : ℕ) → minor_at a ≡ minor_at b → (minor_at b ≡ 2 → 256 ≤ n)
    → take n a ≡ take n b → flags_at a ≡ flags_at b
unfolding flags_at
flags_same a b n minor long h =
    ap (λ (m : ℕ). cond (eqb m 2) (le_at w32 a 128) 0) minor
    ∙ elim (cases_Bool (eqb (minor_at b) 2)) [
      | inl two ↦
          rw two (ap (from_le_bytes w32)
          (field_same a b n 128 4 h (omega (arith, long (eqb-true (minor_at b) 2 two)))))
      | inr other ↦ rw other refl
    ]

pub blank_same : (a b : List ℕ) (n : ℕ) → 128 ≤ n → header_size_at a ≡ header_size_at b
    → header_size_at b ≤ n → take n a ≡ take n b → blank_header a ≡ blank_header b
unfolding blank_header
blank_same a b n long size le h =
    rw (size, take_same a b n 12 h (omega (arith, long)), take_same a b n (header_size_at b) h le)
    refl

pub tables_same : (a b : List ℕ) (n : ℕ) → header_size_at a ≡ header_size_at b
    → tables_size_at a ≡ tables_size_at b → header_size_at b + tables_size_at b ≤ n
    → take n a ≡ take n b → tables_at a ≡ tables_at b
unfolding tables_at
tables_same a b n size tables le h =
    rw (size, tables) (field_same a b n (header_size_at b) (tables_size_at b) h le)

lists_same : {E : Type 0} (a b : List ℕ) (descriptor size : ℕ) (spell : E → List ℕ) (es : List E)
    → descriptor ≤ 116 → SameParts a b → tables_at a ≡ tables_at b
    → Lists b descriptor size spell es → Lists a descriptor size spell es
unfolding area_at
lists_same a b descriptor size spell es le s tables l = record {
  entry_size = s.entry_size descriptor le ∙ l.entry_size;
  count = s.count descriptor le ∙ l.count;
  within = omega (arith, s.offset descriptor le, s.tables_size, l.within);
  spelled = rw (tables, s.offset descriptor le, s.count descriptor le) l.spelled;
}

-- a text whose header and tables stand in front of another is a text of the same table there
pub text_same_front : (max : ℕ) (a b : List ℕ) (t : Table) → IsTableText max b t
    → take (text_size_of b) a ≡ take (text_size_of b) b → IsTableText max a t
unfolding text_size_of
text_same_front max a b t r h =
    let n : ℕ = header_size_at b + tables_size_at b in
    let minor_long : 128 ≤ header_size_of t.minor = header_size_long t.minor in
    let long : 128 ≤ n = omega (arith, minor_long, r.header_size) in
    let s = same_parts a b n long h in
    let lens : length (take n a) ≡ length (take n b) = ap length h in
    let whole : n ≤ length a =
    omega (arith, lens, length-take n a, length-take n b, r.within_text) in
    let flagged : minor_at b ≡ 2
    → 256 ≤ n = λ two. omega (arith, r.header_size, ap header_size_of (sym r.minor ∙ two)) in
    let tables = tables_same a b n s.header_size s.tables_size (omega arith) h in
    record {
      long = omega (arith, long, whole);
      magic = s.magic ∙ r.magic;
      major = s.major ∙ r.major;
      minor = s.minor ∙ r.minor;
      header_size = s.header_size ∙ r.header_size;
      header = omega (arith, s.header_size, whole);
      header_sum = s.header_sum ∙ r.header_sum
          ∙ ap sum_of (sym (blank_same a b n long s.header_size (omega arith) h));
      within_max = omega (arith, s.header_size, s.tables_size, r.within_max);
      within_text = omega (arith, s.header_size, s.tables_size, whole);
      tables_sum = s.tables_sum ∙ r.tables_sum ∙ ap sum_of (sym tables);
      partitions =
          lists_same a b 80 52 partition_bytes t.partitions (omega arith) s tables r.partitions;
      extents = lists_same a b 92 24 extent_bytes t.extents (omega arith) s tables r.extents;
      groups = lists_same a b 104 48 group_bytes t.groups (omega arith) s tables r.groups;
      devices = lists_same a b 116 64 device_bytes t.devices (omega arith) s tables r.devices;
      flags = flags_same a b n s.minor flagged h ∙ r.flags;
      rules = r.rules;
    }

-- so it is read as that table
pub read_same_front : (max : ℕ) (a b : List ℕ) (t : Table) → IsBytes b → table_of max b ≡ Ok t
    → take (text_size_of b) a ≡ take (text_size_of b) b → table_of max a ≡ Ok t
read_same_front max a b t bytes h front =
    text_only max a t (text_same_front max a b t (text_found max b t bytes h) front)

-- the text of a table is within the maximum, and stands in front
pub text_size_fits : (max : ℕ) (text : List ℕ) (t : Table) → IsTableText max text t
    → (128 ≤ text_size_of text) × (text_size_of text ≤ max) × (text_size_of text ≤ length text)
unfolding text_size_of
text_size_fits max text t r =
    (omega (arith, header_size_long t.minor, r.header_size), r.within_max, r.within_text)

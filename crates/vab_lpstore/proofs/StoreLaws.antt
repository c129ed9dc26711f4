-- What callers need of the copies of a slot's table.
use Rattle.std.proofs.Common.{◌≡◌, ⊎_elim, Bool, true, false, ℕ, ◌+◌, ◌-◌, ◌*◌, ◌/◌, ◌<◌, ◌≤◌, List}
use Rattle.std.proofs.Common.{◌++◌, length, take, replicate, Ok, Err, refl, sym, ◌∙◌, ap, arith}
use Rattle.std.proofs.Common.{append_assoc}
use Rattle.std.proofs.Math.Nat.{mul-le-mul_right}
use Rattle.std.proofs.lemmas.List.{take-take, take_at}
use Rattle.vab_disk.specs.Disk.{Image}
use Rattle.vab_gate.specs.Gate.{sectors_at}
use Rattle.vab_disk.specs.Calls.{SameBut}
use Rattle.vab_copies.specs.Copies.{zeros, HoldsText, BeginsWithZeros, IsOutside, IsOfText}
use Rattle.vab_copies.specs.Copies.{IsOfCopy}
use Rattle.vab_copies.proofs.CopyLaws.{sectors_zeros, sectors_split, sectors_text}
use Rattle.vab_geometry.specs.declared.geometry.Geometry.{Geometry}
use Rattle.vab_geometry.specs.Geometry.{IsGeometry}
use Rattle.vab_tables.specs.declared.table.Table.{Table}
use Rattle.vab_tables.specs.declared.fault.TableFault.TheVariants as faults
use Rattle.vab_tables.specs.Text.{IsTableText, text_size_of}
use Rattle.vab_tables.specs.Reading.{table_of}
use Rattle.vab_tables.proofs.TextLaws.{text_only, zeros_text}
use Rattle.vab_tables.proofs.FrontLaws.{text_same_front, text_size_fits}
use Rattle.vab_lpstore.specs.declared.loaded.Loaded.{Loaded}
use Rattle.vab_lpstore.specs.Layout.{copy_sectors, primary_of, backup_of, primary_bytes}
use Rattle.vab_lpstore.specs.Layout.{backup_bytes, text_sectors, Begins, BothHold}
use Rattle.vab_lpstore.specs.Storing.{SameElsewhere, IsOfRepair, IsOfTable}
use Rattle.vab_lpstore.specs.Loading.{first_of, slot_table, IsLoaded}

-- the bytes of super at which the copies begin
pub primary_byte : (g : Geometry) (slot : ℕ)
    → IsGeometry g
    → 512 * (primary_of g slot - 4096) ≡ 12288 + slot * g.max
unfolding primary_of
primary_byte g slot rules =
    let whole : 512 * (g.max / 512) ≡ g.max = omega (arith, rules.sectors) in
    omega (arith, ap (λ (k : ℕ). slot * k) whole)

pub backup_byte : (g : Geometry) (slot : ℕ)
    → IsGeometry g
    → 512 * (backup_of g slot - 4096) ≡ 12288 + (g.slots + slot) * g.max
unfolding backup_of
backup_byte g slot rules =
    let whole : 512 * (g.max / 512) ≡ g.max = omega (arith, rules.sectors) in
    omega (arith, ap (λ (k : ℕ). (g.slots + slot) * k) whole)

-- the primary ends before the backup begins
pub copies_apart : (g : Geometry) (slot : ℕ)
    → slot < g.slots
    → primary_of g slot + copy_sectors g ≤ backup_of g slot
unfolding primary_of backup_of
copies_apart g slot below =
    let more : (slot + 1) * copy_sectors g ≤ (g.slots + slot) * copy_sectors g =
    mul-le-mul_right (copy_sectors g) (omega (arith, below)) in
    omega (arith, more)

-- a text of at most the maximum has room in a copy
pub text_fits : (g : Geometry) (n : ℕ) → IsGeometry g → n ≤ g.max → text_sectors n ≤ copy_sectors g
unfolding text_sectors
text_fits g n rules le = omega (arith, rules.sectors, rules.least, le)

pub text_room : (n : ℕ) → n ≤ 512 * text_sectors n
unfolding text_sectors
text_room n = omega arith

pub text_some : (n : ℕ) → 0 < text_sectors n
unfolding text_sectors
text_some n = omega arith

-- bytes that begin with a table's text are a text of that table, and are read so
pub begins_text : (max : ℕ) (bytes text : List ℕ) (t : Table)
    → IsTableText max text t
    → Begins bytes text
    → IsTableText max bytes t
begins_text max bytes text t is begins =
    let size : text_size_of text ≤ length text = (text_size_fits max text t is).2 in
    text_same_front max bytes text t is (sym
    (take-take (text_size_of text) (length text) bytes size)
    ∙ ap (λ (l : List ℕ). take (text_size_of text) l) begins)

pub begins_read : (max : ℕ) (bytes text : List ℕ) (t : Table)
    → IsTableText max text t
    → Begins bytes text
    → table_of max bytes ≡ Ok t
begins_read max bytes text t is begins =
    text_only max bytes t (begins_text max bytes text t is begins)

-- a copy that begins with a sector of zeros is no table's text
pub zeros_read : (max n : ℕ) (image : Image) (at : ℕ)
    → 0 < n
    → BeginsWithZeros at image
    → table_of max (sectors_at n image at) ≡ Err faults.NoHeader
zeros_read max n image at some is =
    let four : take 4 zeros ≡ replicate 4 0 = refl in
    zeros_text max (sectors_at n image at)
    (sym (take-take 4 512 (sectors_at n image at) (omega arith))
    ∙ ap (λ (l : List ℕ). take 4 l) (sectors_zeros n image at some is) ∙ four)

-- a copy of m sectors, of which the first n are a text's
pub sectors_begin : (n m at : ℕ) (text : List ℕ) (image : Image)
    → HoldsText n at text image
    → length text ≤ 512 * n
    → n ≤ m
    → Begins (sectors_at m image at) text
sectors_begin n m at text image holds room le =
    let fill : List ℕ = replicate (512 * n - length text) 0 in
    let rest : List ℕ = sectors_at (m - n) image (at + n) in
    let e : m ≡ n + (m - n) = omega arith in
    let whole : sectors_at m image at ≡ text ++ (fill ++ rest) =
    ap (λ (k : ℕ). sectors_at k image at) e ∙ sectors_split n (m - n) image at
    ∙ ap (λ (l : List ℕ). l ++ rest) (sectors_text n at text image holds room)
    ∙ append_assoc text fill rest in
    ap (λ (l : List ℕ). take (length text) l) whole ∙ take_at text (fill ++ rest) (length text) refl

-- what is loaded is the table of the slot
pub loaded_table : (max : ℕ) (primary backup : List ℕ) (l : Loaded)
    → IsLoaded max primary backup l
    → first_of (table_of max primary) (table_of max backup) ≡ Ok l.table
loaded_table max primary backup l is = ⊎_elim
    (λ begins. ap (λ r. first_of r (table_of max backup))
    (begins_read max primary l.text l.table is.text begins))
    (λ behind. (λ i. first_of (behind.1.1 i)
    (begins_read max backup l.text l.table is.text behind.0 i)))
    is.first

-- where both copies hold a table's text, it is the table of the slot
pub both_table : (g : Geometry) (slot : ℕ) (text : List ℕ) (t : Table) (image : Image)
    → BothHold g slot text image
    → IsTableText g.max text t
    → slot_table g slot image ≡ Ok t
unfolding slot_table
both_table g slot text t image holds is =
    ap (λ r. first_of r (table_of g.max (backup_bytes g slot image)))
    (begins_read g.max (primary_bytes g slot image) text t is holds.primary)

-- a loaded text is at most the maximum long
pub loaded_fits : (max : ℕ) (primary backup : List ℕ) (l : Loaded)
    → IsLoaded max primary backup l
    → length l.text ≤ max
loaded_fits max primary backup l is = omega
    (arith, is.whole, (text_size_fits max l.text l.table is.text).1)

-- ---- what a repair leaves alone

not_of_text : (n at : ℕ) (text : List ℕ) (s : ℕ) (b : List ℕ)
    → IsOutside at n s
    → IsOfText 0 n at text s b
    → ⊥
not_of_text n at text s b out is =
    ⊎_elim (λ below. omega (arith, below, is.first)) (λ above. omega (arith, above, is.last)) out

not_of_copy : (n at : ℕ) (text : List ℕ) (s : ℕ) (b : List ℕ)
    → 0 < n
    → IsOutside at n s
    → IsOfCopy n at text s b
    → ⊥
not_of_copy n at text s b some out is =
    ⊎_elim
    (λ of_text. not_of_text n at text s b out of_text)
    (λ first.
    ⊎_elim (λ below. omega (arith, below, first.0)) (λ above. omega (arith, above, first.0, some))
    out)
    is

pub repair_elsewhere : (primary backup : Bool) (g : Geometry) (slot : ℕ) (text : List ℕ)
    (old new : Image)
    → SameBut (IsOfRepair primary backup g slot text) old new
    → SameElsewhere g slot (text_sectors (length text)) old new
repair_elsewhere false backup g slot text old new but s away behind =
    ⊎_elim (λ same. same)
    (λ is.
    absurd (not_of_copy (text_sectors (length text)) (primary_of g slot) text s (new s)
    (text_some (length text)) away is))
    (but s)
repair_elsewhere true false g slot text old new but s away behind =
    ⊎_elim (λ same. same)
    (λ is. absurd (not_of_text (text_sectors (length text)) (backup_of g slot) text s (new s) behind
    is))
    (but s)
repair_elsewhere true true g slot text old new but s away behind =
    ⊎_elim (λ same. same) (λ none. absurd none) (but s)

-- and storing a table
pub store_elsewhere : (g : Geometry) (slot : ℕ) (text : List ℕ) (old new : Image)
    → SameBut (IsOfTable g slot text) old new
    → SameElsewhere g slot (text_sectors (length text)) old new
store_elsewhere g slot text old new but s away behind =
    let n = text_sectors (length text) in
    let some = text_some (length text) in
    ⊎_elim (λ same. same)
    (λ is.
    absurd (⊎_elim
    (λ first. not_of_copy n (primary_of g slot) text s (new s) some away first)
    (λ second. not_of_copy n (backup_of g slot) text s (new s) some behind second)
    is))
    (but s)

-- Of a disk of whole sectors the tables keep their rules, and each block has 4096 bytes.
use Rattle.std.proofs.Common.{◌≡◌, ◌⊎◌, inl, inr, ℕ, zero, suc, ◌+◌, ◌-◌, ◌*◌, ◌≤◌, ◌<◌, List, []}
use Rattle.std.proofs.Common.{◌∷◌, ◌++◌, length, get_or, Result, Ok, Err, true, refl, ap}
use Rattle.std.proofs.Common.{subst, arith, length-append}
use Rattle.std.specs.Prelude.{All, nat_le}
use Rattle.std.specs.List.{flat_map}
use Rattle.std.proofs.lemmas.Bool.{cases_Bool, cases_lt, leb-true}
use Rattle.std.proofs.Math.Seq.{get_or-append_right}
use Rattle.std.proofs.lemmas.List.{get_or_append_left}
use Rattle.std.proofs.lemmas.List.Elements.{All-head, All-tail}
use Rattle.vab_bytes.specs.Number.{IsBytes}
use Rattle.vab_disk.specs.Disk.{Image, IsSector}
use Rattle.vab_gate.specs.Gate.{sectors_at}
use Rattle.vab_copies.proofs.CopyLaws.{length-sectors}
use Rattle.vab_tables.specs.declared.table.Table.{Table}
use Rattle.vab_tables.specs.declared.fault.TableFault.{TableFault}
use Rattle.vab_tables.specs.Rules.{KeepsRules}
use Rattle.vab_tables.specs.Reading.{table_of}
use Rattle.vab_tables.proofs.TextLaws.{text_found}
use Rattle.vab_geometry.specs.declared.geometry.Geometry.{Geometry}
use Rattle.vab_geometry.specs.declared.geometry.GeometryFault.{GeometryFault}
use Rattle.vab_geometry.specs.Geometry.{IsGeometry}
use Rattle.vab_geometry.specs.Loading.{geometry_in}
use Rattle.vab_geometry.proofs.LoadingLaws.{disk_keeps_rules}
use Rattle.vab_lpstore.specs.Layout.{copy_sectors, primary_of, backup_of, primary_bytes}
use Rattle.vab_lpstore.specs.Layout.{backup_bytes}
use Rattle.vab_lpstore.specs.Loading.{first_of, slot_table}
use Rattle.vab_lpstore.proofs.StoreLaws.{copies_apart}
use Rattle.vab_layout.specs.Layout.{layout_of}
use Rattle.vab_device.specs.declared.fault.StartFault.{StartFault}
use Rattle.vab_device.specs.declared.fault.StartFault.TheVariants.{BadGeometry, BadTable}
use Rattle.vab_device.specs.Kept.{copies_end, super_bytes, lies_in}
use Rattle.vab_device.specs.Mounted.{bytes_at}
use Rattle.vab_device.specs.Reading.{geometry_read, geometry_at, table_read, table_at}
use Rattle.vab_device.proofs.RepairLaws.{end_of, ends_within}
use Rattle.vab_targets.specs.Sectors.{HasWholeSectors}

-- ---- bytes

bytes_append : (xs ys : List ℕ) → IsBytes xs → IsBytes ys → IsBytes (xs ++ ys)
bytes_append xs ys left right i = elim (cases_lt i (length xs)) [
  | inl lt ↦ rw (get_or_append_left xs ys 0 i lt) (left i)
  | inr le ↦ rw (get_or-append_right xs ys i 0 le) (right (i - length xs))
]

sectors_bytes : (n : ℕ) (image : Image) (at : ℕ)
    → ((k : ℕ) → k < n → IsSector (image (at + k)))
    → IsBytes (sectors_at n image at)
unfolding sectors_at
sectors_bytes zero image at whole = λ i. omega arith
sectors_bytes (suc n) image at whole =
    bytes_append (sectors_at n image at) (image (at + n))
    (sectors_bytes n image at (λ k lt. whole k (omega (arith, lt))))
    (whole n (omega arith)).small

-- the sectors of a copy that ends on the disk
copy_bytes : (size n : ℕ) (image : Image) (at : ℕ)
    → HasWholeSectors size image
    → at + n ≤ size
    → IsBytes (sectors_at n image at)
copy_bytes size n image at whole on =
    sectors_bytes n image at (λ k lt. whole (at + k) (omega (arith, on, lt)))

-- ---- the geometry

record IsPlaced (size : ℕ) (g : Geometry) : Type 0 where
  rules : IsGeometry g
  within : copies_end g ≤ super_bytes size

placed_by : (size : ℕ) (x : Result Geometry (GeometryFault × GeometryFault)) (g : Geometry)
    → geometry_read size x ≡ Ok g
    → (x ≡ Ok g) × (copies_end g ≤ super_bytes size)
placed_by size (Ok h) g is = elim (cases_Bool (nat_le (copies_end h) (super_bytes size))) [
  | inl fits ↦
      let found : (let r : Result Geometry StartFault = Ok h in r ≡ Ok g) = rw fits at is in
      let same : h ≡ g = cc in (
        ap Ok same,
        subst (λ (x : Geometry). copies_end x ≤ super_bytes size) same
            (leb-true (copies_end h) (super_bytes size) fits),
      )
  | inr out ↦
      let bad : (let r : Result Geometry StartFault = Err BadGeometry in r ≡ Ok g) =
      rw out at is in
      absurd cc
]
placed_by size (Err faults) g is =
    absurd (let bad : (let r : Result Geometry StartFault = Err BadGeometry in r ≡ Ok g) = is in cc)

placed : (size : ℕ) (image : Image) (g : Geometry)
    → geometry_at size image ≡ Ok g
    → IsPlaced size g
unfolding geometry_at
placed size image g is =
    let found = placed_by size (geometry_in image) g is in
    record { rules = disk_keeps_rules image g found.0; within = found.1 }

-- ---- tables

one_of : (x y : Result Table TableFault) (t : Table)
    → first_of x y ≡ Ok t
    → (x ≡ Ok t) ⊎ (y ≡ Ok t)
one_of (Ok u) y t is = inl cc
one_of (Err f) (Ok u) t is = inr cc
one_of (Err f) (Err h) t is = absurd cc

loaded_rules : (g : Geometry) (slot : ℕ) (image : Image) (t : Table)
    → IsBytes (primary_bytes g slot image)
    → IsBytes (backup_bytes g slot image)
    → slot_table g slot image ≡ Ok t
    → KeepsRules t
unfolding slot_table
loaded_rules g slot image t first second is =
    elim (one_of (table_of g.max (primary_bytes g slot image))
    (table_of g.max (backup_bytes g slot image)) t is) [
      | inl a ↦ (text_found g.max (primary_bytes g slot image) t first a).rules
      | inr b ↦ (text_found g.max (backup_bytes g slot image) t second b).rules
    ]

read_is : (size : ℕ) (g : Geometry) (slot : ℕ)
    (x : Result Table (TableFault × TableFault)) (t : Table)
    → table_read size g slot x ≡ Ok t
    → (x ≡ Ok t) × (lies_in size g (layout_of t).device ≡ true)
read_is size g slot (Ok u) t is = elim (cases_Bool (lies_in size g (layout_of u).device)) [
  | inl lies ↦
      let found : (let r : Result Table StartFault = Ok u in r ≡ Ok t) = rw lies at is in
      let same : u ≡ t = cc in (
        ap Ok same,
        subst (λ (x : Table). lies_in size g (layout_of x).device ≡ true) same lies,
      )
  | inr out ↦
      let bad : (let r : Result Table StartFault = Err (BadTable slot) in r ≡ Ok t) =
      rw out at is in
      absurd cc
]
read_is size g slot (Err faults) t is =
    absurd (let bad : (let r : Result Table StartFault = Err (BadTable slot) in r ≡ Ok t) = is in
    cc)

-- what holds of a table that is read
pub record IsRead (size : ℕ) (g : Geometry) (t : Table) : Type 0 where
  pub rules : KeepsRules t
  pub lies : lies_in size g (layout_of t).device ≡ true

pub table_rules : (size : ℕ) (image : Image) (g : Geometry) (slot : ℕ) (t : Table)
    → HasWholeSectors size image
    → 4120 ≤ size
    → slot < 2
    → geometry_at size image ≡ Ok g
    → table_at size g slot image ≡ Ok t
    → IsRead size g t
unfolding table_at backup_of
table_rules size image g slot t whole enough below geometry is =
    let p = placed size image g geometry in
    let found = read_is size g slot (slot_table g slot image) t is in
    let ends : 512 * (end_of g slot - 4096) ≤ copies_end g = ends_within g slot p.rules below in
    let last : backup_of g slot + copy_sectors g ≤ size =
    omega (arith, ends, p.within, enough) in
    let first : primary_of g slot + copy_sectors g ≤ size =
    omega (arith, last, copies_apart g slot (omega (arith, p.rules.two, below))) in
    record {
      rules = loaded_rules g slot image t
          (copy_bytes size (copy_sectors g) image (primary_of g slot) whole first)
          (copy_bytes size (copy_sectors g) image (backup_of g slot) whole last)
          found.0;
      lies = found.1;
    }

-- ---- blocks

pieces_long : (f : ℕ → List ℕ) (xs : List ℕ)
    → All (λ x. length (f x) ≡ 4096) xs
    → length (flat_map f xs) ≡ 4096 * length xs
pieces_long f [] long = refl
pieces_long f (x ∷ xs) long =
    omega (
      arith,
      length-append (f x) (flat_map f xs),
      All-head (λ x. length (f x) ≡ 4096) x xs long,
      pieces_long f xs (All-tail (λ x. length (f x) ≡ 4096) x xs long),
    )

-- blocks, each as its first sector, have 4096 bytes each
pub blocks_long : (size : ℕ) (image : Image) (blocks : List ℕ)
    → HasWholeSectors size image
    → All (λ s. s + 8 ≤ size) blocks
    → length (bytes_at image blocks) ≡ 4096 * length blocks
unfolding bytes_at
blocks_long size image blocks whole on =
    pieces_long (λ s. sectors_at 8 image s) blocks
    (λ k d lt.
    length-sectors 8 image (get_or blocks k d)
    (λ j below. (whole (get_or blocks k d + j) (omega (arith, on k d lt, below))).long))

-- What is written where a device is made, opened and served.
use Rattle.std.proofs.Common.{◌≡◌, ◌⊎◌, ◌∙◌, ◌≤◌, inl, inr, ⊎_elim, ℕ, ◌+◌, ◌==◌, List}
use Rattle.std.proofs.Common.{zero, suc, [], ◌∷◌, length, Some, None, refl, sym, ap, subst, arith}
use Rattle.std.proofs.Common.{true, false}
use Rattle.std.specs.Prelude.{Bool, Option, is_some, if◌then◌else◌}
use Rattle.std.proofs.lemmas.Bool.{ne_eqb}
use Rattle.vab_disk.specs.declared.disk.Disk.{Ghosts}
use Rattle.vab_disk.specs.Disk.{Image}
use Rattle.vab_disk.specs.Calls.{Changes, InSectors, IsBetween}
use Rattle.vab_disk.proofs.CallLaws.{changes_then, changes_wider}
use Rattle.vab_copies.specs.Copies.{IsOfCopy}
use Rattle.vab_geometry.specs.declared.geometry.Geometry.{Geometry}
use Rattle.vab_tables.specs.declared.table.Table.{Table}
use Rattle.vab_tables.specs.Text.{IsTableText, text_size_of}
use Rattle.vab_tables.proofs.FrontLaws.{text_size_fits}
use Rattle.vab_lpstore.specs.Layout.{primary_of, backup_of, text_sectors}
use Rattle.vab_lpstore.specs.Storing.{IsOfRepair}
use Rattle.vab_layout.specs.declared.layout.Layout.{Layout}
use Rattle.vab_layout.specs.Plain.{plain}
use Rattle.vab_device.specs.declared.device.Device.{Device}
use Rattle.vab_device.specs.Mounted.{Mounted, state_on, mounted_on, table_placed}
use Rattle.vab_marks.specs.declared.mark.MarkPhase.TheVariants as marks
use Rattle.vab_device.specs.Phases.{Phase, phase_at}
use Rattle.vab_device.specs.Reading.{Read, Reads, kept, table_for, version_at}
use Rattle.vab_marks.specs.declared.version.MarkVersion.TheVariants.{One, Two}
use Rattle.vab_device.proofs.ReadingLaws.{idle_at, idle_read_of, device_of}
use Rattle.vab_recover.specs.Opening.{IsOfOpening}
use Rattle.vab_recover.specs.Repairs.{IsRepair, IsOneOf}
use Rattle.vab_cli.specs.Touched.{IsOfServing, IsOfMade}
use Rattle.vab_set.specs.declared.set.SetImage.{SetImage}
use Rattle.vab_make.specs.Made.{made_device_of, made_state, made_places, made_geometry, made_layout}
use Rattle.vab_make.specs.Making.{IsMade}
use Rattle.vab_make.specs.Touched.{IsOfMaking, of_places}
use Rattle.vab_make.specs.Touched.{of_primary, of_backup}

none_some : {R : Type 0} (l : Layout) → (let none : Option Layout = None in none ≡ Some l) → R
none_some l is = cc

-- The first slot's table is read where it is the slot's own.
first_slot : (slot : ℕ) (has : Bool) (ts : List Table) (l : Layout)
    → table_placed 0 has (table_for 0 (slot ∷ []) ts) ≡ Some l
    → slot ≡ 0
first_slot zero has ts l is = refl
first_slot (suc n) has [] l is = none_some l is
first_slot (suc n) has (t ∷ ts) l is =
    let other : (suc n == 0) ≡ false = ne_eqb (suc n) 0 (λ is. omega (arith, is)) in
    none_some l
    (subst (λ (b : Bool). table_placed 0 has (if b then Some t else None) ≡ Some l) other is)

-- the text of a table is within the most bytes of a copy
text_short : (g : Geometry) (text : List ℕ) (table : Table)
    → g ≡ made_geometry 65536
    → IsTableText g.max text table
    → length text ≡ text_size_of text
    → length text ≤ 65536
text_short g text table is said whole =
    let per : g.max ≡ 65536 = ap (λ (x : Geometry). x.max) is in
    omega (arith, per, whole, text_size_fits g.max text table said)

of_one : (k slot : ℕ) → slot ≡ 0 → IsOneOf k (slot ∷ []) → k ≡ 0
of_one k slot is (inl same) = same ∙ is
of_one k slot is (inr none) = absurd none

-- a repair is of one of the copies
of_flags : (p b : Bool) (g : Geometry) (slot : ℕ) (text : List ℕ) (s : ℕ) (bytes : List ℕ)
    → IsOfRepair p b g slot text s bytes
    → IsOfCopy (text_sectors (length text)) (primary_of g slot) text s bytes
    ⊎ IsOfCopy (text_sectors (length text)) (backup_of g slot) text s bytes
of_flags false b g slot text s bytes w = inl w
of_flags true false g slot text s bytes w = inr (inl w)
of_flags true true g slot text s bytes w = absurd w

module _ (set : List SetImage) (size : ℕ) (image : Image)
    (made : IsMade set 0 65536 size image)
    (version : version_at image ≡ Two) where
  module _ (r : Read) (reads : Reads size r image) where
    is : mounted_on (kept r) image ≡ made_device_of set 0 65536 size
    is = let both = sym (device_of size r image reads) ∙ made in cc

    geometry : r.geometry ≡ made_geometry 65536
    unfolding made_places
    geometry = ap (λ (m : Mounted). m.places.geometry) is

    -- no update is installed
    phase : r.mark.phase ≡ marks.Idle
    unfolding state_on made_state
    phase = idle_read_of size r image reads (ap (λ (m : Mounted). m.state.phase) is)

    placed : table_placed 0 (is_some (kept r).a) (table_for 0 (r.mark.slot ∷ []) r.tables)
        ≡ Some (plain 0 (made_layout set 0 size))
    unfolding made_places
    placed =
        subst
        (λ (p : Phase).
        table_placed 0 (is_some (kept r).a) (table_for 0 p.tables r.tables)
        ≡ Some (plain 0 (made_layout set 0 size)))
        (idle_at r.mark phase)
        (ap (λ (m : Mounted). m.places.a) is)

    slot : r.mark.slot ≡ 0
    slot =
        first_slot r.mark.slot (is_some (kept r).a) r.tables (plain 0 (made_layout set 0 size))
        placed

    -- the one table that is read is slot a's
    one_slot : (k : ℕ) → IsOneOf k (phase_at r.mark).tables → k ≡ 0
    one_slot k is_read =
        of_one k r.mark.slot slot
        (subst (λ (p : Phase). IsOneOf k p.tables) (idle_at r.mark phase)
        is_read)

  -- a copy's text takes no more than its place
  within : (at : ℕ) (text : List ℕ) (s : ℕ) (bytes : List ℕ) (first : ℕ)
      → length text ≤ 65536
      → at ≡ first
      → IsOfCopy (text_sectors (length text)) at text s bytes
      → IsBetween first (first + 128) s
  unfolding text_sectors
  within at text s bytes first fits is w =
      ⊎_elim
      (λ text. record {
        from = omega (arith, is, text.first);
        below = omega (arith, is, text.last, fits);
      })
      (λ zero. record { from = omega (arith, is, zero.0); below = omega (arith, is, zero.0) })
      w

  -- the copies of the table lie where they were made
  of_copy : (g : Geometry) (slot : ℕ) (text : List ℕ) (s : ℕ) (bytes : List ℕ)
      → g ≡ made_geometry 65536
      → slot ≡ 0
      → length text ≤ 65536
      → IsOfCopy (text_sectors (length text)) (primary_of g slot) text s bytes
      ⊎ IsOfCopy (text_sectors (length text)) (backup_of g slot) text s bytes
      → IsOfMaking set 65536 s
  unfolding primary_of backup_of text_sectors
  of_copy g slot text s bytes is first_one fits w =
      let first : primary_of g slot ≡ 4120 = λ i. primary_of (is i) (first_one i) in
      let second : backup_of g slot ≡ 4376 = λ i. backup_of (is i) (first_one i) in
      ⊎_elim
      (λ primary.
      inr (of_places (inr (of_primary
      (within (primary_of g slot) text s bytes 4120 fits first primary)))))
      (λ backup.
      inr (of_places (inr (of_backup
      (within (backup_of g slot) text s bytes 4376 fits second backup)))))
      w

  repair_made : (s : ℕ) (bytes : List ℕ) → IsRepair size image s bytes → IsOfMaking set 65536 s
  repair_made s bytes w =
      let l = w.table in
      of_copy w.read.geometry w.slot l.text s bytes (geometry w.read w.reads)
      (one_slot w.read w.reads w.slot w.is_read)
      (text_short w.read.geometry l.text l.table (geometry w.read w.reads) w.loaded.text
      w.loaded.whole)
      (of_flags l.primary l.backup w.read.geometry w.slot l.text s bytes w.writes)

  -- what opening may write is of them, or of the mark
  opening_made : (s : ℕ) (bytes : List ℕ) → IsOfOpening size image s bytes → IsOfMaking set 65536 s
  opening_made s bytes (inl (inl w)) = repair_made s bytes w
  opening_made s bytes (inl (inr w)) = absurd (let no : One ≡ Two = sym w.old ∙ version in cc)
  opening_made s bytes (inr w) =
      let of = geometry w.read w.reads in
      ⊎_elim
      (λ table.
      of_copy w.read.geometry w.read.mark.slot _ s bytes of (slot w.read w.reads)
      (omega (arith, ap (λ (x : Geometry). x.max) of, table.short))
      table.writes)
      (λ mark. inl mark.0)
      w.writes

-- ---- made, opened and served

module _ {D : Type 0} (g : Ghosts D) (set : List SetImage) (size : ℕ) where
  abbrev Fresh : ℕ → List ℕ → Type 0
  Fresh = InSectors (IsOfMaking set 65536)

  pub made_opened : (old mid new : D)
      → IsMade set 0 65536 size (g.seen mid)
      → version_at (g.seen mid) ≡ Two
      → Changes g Fresh old mid
      → Changes g (IsOfOpening size (g.seen mid)) mid new
      → Changes g Fresh old new
  made_opened old mid new made version makes opens =
      changes_then g Fresh old mid new makes
      (changes_wider g Fresh (IsOfOpening size (g.seen mid)) mid new opens
      (opening_made set size (g.seen mid) made version))

  module _ (W : Device → List ℕ → ℕ → List ℕ → Type 0) where
    pub making_fresh : (old new : D) → Changes g Fresh old new
        → Changes g (IsOfMade set W size) old new
    making_fresh old new makes =
        changes_wider g (IsOfMade set W size) Fresh old new makes (λ s x w. inl w)

    pub made_served : (old mid new : D)
        → IsMade set 0 65536 size (g.seen mid)
        → version_at (g.seen mid) ≡ Two
        → Changes g Fresh old mid
        → Changes g (IsOfServing W size (g.seen mid)) mid new
        → Changes g (IsOfMade set W size) old new
    made_served old mid new made version makes serves =
        changes_then g (IsOfMade set W size) old mid new (making_fresh old mid makes)
        (changes_wider g (IsOfMade set W size) (IsOfServing W size (g.seen mid)) mid new serves
        (λ s x w.
        ⊎_elim {C = IsOfMade set W size s x}
        (λ opens. inl (opening_made set size (g.seen mid) made version s x opens))
        (λ served. inr (record { made = g.seen mid; is = made; serves = served }))
        w))

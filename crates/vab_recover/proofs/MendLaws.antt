-- What opening writes, and what it leaves behind a merge that has ended.
use Rattle.std.proofs.Common.{◌≡◌, ◌∙◌, ⊎_elim, inl, inr, ℕ, zero, suc, ◌<◌, true, false}
use Rattle.std.proofs.Common.{List, length, ◌≤◌, Ok, refl, sym, ap, subst, arith}
use Rattle.std.specs.Prelude.{◌⊎◌, ◌==◌, if◌then◌else◌, Bool, Option, Some, None, IfSome, IsNone}
use Rattle.vab_disk.specs.declared.disk.Disk.{Ghosts}
use Rattle.vab_disk.specs.Disk.{Image, Outcome, Adds, set_sector}
use Rattle.vab_disk.specs.Calls.{IsAtRest, OnlyReads, SameBut, Touches}
use Rattle.vab_disk.specs.Written.{set_here}
use Rattle.vab_disk.proofs.CallLaws.{set_same_but}
use Rattle.vab_disk.proofs.Moments.{adds_wider}
use Rattle.vab_marks.specs.declared.mark.MarkPhase.TheVariants as marks
use Rattle.vab_marks.specs.declared.mark.UpdateMark.{UpdateMark}
use Rattle.vab_marks.specs.Mark.{mark_of, rephased}
use Rattle.vab_geometry.specs.declared.geometry.Geometry.{Geometry}
use Rattle.vab_physical.specs.declared.tail.Tail.{Tail}
use Rattle.vab_device.specs.Reading.{tail_at, geometry_at}
use Rattle.vab_tables.specs.declared.table.Table.{Table}
use Rattle.vab_tables.specs.Spelling.{table_text}
use Rattle.vab_lpstore.specs.declared.loaded.Loaded.{Loaded}
use Rattle.vab_lpstore.specs.Layout.{primary_of, backup_of}
use Rattle.vab_lpstore.specs.Loading.{slot_table}
use Rattle.vab_lpstore.specs.Storing.{IsOfTable, IsOfRepair}
use Rattle.vab_lpstore.proofs.StoreLaws.{repair_elsewhere, store_elsewhere}
use Rattle.vab_device.specs.declared.device.Device.{Device}
use Rattle.vab_device.specs.Kept.{IsDevice, IsTableOf, table_of_slot}
use Rattle.vab_tidy.specs.declared.prepared.Alone.{Alone}
use Rattle.vab_tidy.specs.declared.prepared.Tidying.{Tidying}
use Rattle.vab_tidy.specs.Kept.{with_alone, device_after}
use Rattle.vab_tidy.specs.Planned.{IsAloneIf, IsDue, IsTidying, IsTidyingFor}
use Rattle.vab_tidy.specs.Stays.{IsInOrder}
use Rattle.vab_tidy.specs.Tidied.{HasCompleted, alone, may_be_alone}
use Rattle.vab_tidy.specs.Tidied.{tidy_table}
use Rattle.vab_tidy.specs.Writes.{IsOfAlone, IsOfTidyings, IsOfTidyTable, IsOfTidying}
use Rattle.vab_device.proofs.SlotTable.{kept_table}
use Rattle.vab_tidy.proofs.KeptLaws.{table_now}
use Rattle.vab_tidy.proofs.StaysLaws.{sector_stays}
use Rattle.vab_recover.specs.declared.table.Tables.{Tables}
use Rattle.vab_recover.specs.Opened.{read_of, tables_of, table_if, with_tables, IsOpened}
use Rattle.vab_recover.specs.Opening.{IsOfOpening, HasNoneCompleted, KeepsTidy, IsTidied, GoesOn}
use Rattle.vab_recover.specs.Repairs.{IsRepair}
use Rattle.vab_recover.proofs.OpenLaws.{loaded_is}

-- ---- the disk is at rest as it was

pub rests : {D : Type 0} (g : Ghosts D) (old mid : D)
    → OnlyReads g old mid
    → g.is_modelled
    → IsAtRest g old
    → IsAtRest g mid
rests g old mid reads t rest = λ s b held.
    rest s b ((reads.crash t).no_more s b held) ∙ ap (λ (i : Image). i s) (sym (reads.seen t))

-- ---- a repair leaves what stands in front of the copies

set_but : (W : ℕ → List ℕ → Type 0) (old : Image) (at : ℕ) (bytes : List ℕ)
    → W at bytes
    → SameBut W old (set_sector old at bytes)
set_but W old at bytes w = λ s.
    ⊎_elim
    (λ same. inl same)
    (λ is.
    inr (subst (λ (n : ℕ). W n (set_sector old at bytes s)) (sym is.0)
    (subst (λ (l : List ℕ). W at l) (sym is.1) w)))
    (set_same_but old (set_sector old at bytes) at bytes (inr refl) s)

-- what a repair would write there is what is there
pub repair_misses : (size at : ℕ) (old : Image) (bytes : List ℕ)
    → at < 4120
    → IsRepair size old at bytes
    → bytes ≡ old at
unfolding primary_of backup_of
repair_misses size at old bytes below w =
    let l = w.table in
    let stays = repair_elsewhere l.primary l.backup w.read.geometry w.slot l.text old _
    (set_but (IsOfRepair l.primary l.backup w.read.geometry w.slot l.text) old at bytes w.writes)
    at (inl (omega (arith, below))) (inl (omega (arith, below))) in
    sym (set_here old at bytes at refl) ∙ stays

-- so is what opening would in front of the mark
pub opening_misses : (size at : ℕ) (old : Image) (bytes : List ℕ)
    → at < 2048
    → IsOfOpening size old at bytes
    → bytes ≡ old at
unfolding primary_of backup_of
opening_misses size at old bytes below (inl (inl w)) =
    repair_misses size at old bytes (omega (arith, below)) w
opening_misses size at old bytes below (inl (inr w)) =
    ⊎_elim
    (λ added. absurd (omega (arith, added.from, below)))
    (λ mark. absurd (omega (arith, mark.writes.0, below)))
    w.writes
opening_misses size at old bytes below (inr w) =
    ⊎_elim
    (λ table.
    let text = table_text (alone w.read.mark.slot table.table) in
    let stays = store_elsewhere w.read.geometry w.read.mark.slot text old _
    (set_but (IsOfTable w.read.geometry w.read.mark.slot text) old at bytes table.writes)
    at (inl (omega (arith, below))) (inl (omega (arith, below))) in
    sym (set_here old at bytes at refl) ∙ stays)
    (λ mark. absurd (omega (arith, mark.0, below)))
    w.writes

pub repair_keeps : (size at : ℕ) (old new : Image)
    → at < 4120
    → SameBut (IsRepair size old) old new
    → new at ≡ old at
repair_keeps size at old new below but =
    ⊎_elim (λ same. same) (λ w. repair_misses size at old (new at) below w) (but at)

-- so the mark stays
pub mark_stays : {D : Type 0} (g : Ghosts D) (old mid : D)
    → Touches g (IsRepair (g.size old) (g.seen old)) old mid
    → g.is_modelled
    → IsAtRest g old
    → Adds g.moment g.outcomes old mid (λ o. o.image 2048 ≡ g.seen old 2048)
mark_stays g old mid touches t rest =
    sector_stays g (IsRepair (g.size old) (g.seen old)) 2048 old mid touches t
    (λ b w. repair_misses (g.size old) 2048 (g.seen old) b (omega arith) w) rest

-- ---- the table of the slot of the mark

at_slot : (n : ℕ) (t : Table) (x : Option Loaded)
    → n < 2
    → (if n == 0 then table_if (n == 0) t x else table_if (n == 1) t x) ≡ Some t
at_slot zero t x below = refl
at_slot (suc zero) t x below = refl
at_slot (suc (suc n)) t x below = absurd (omega (arith, below))

pub own_table : (d : Device) (t : Tables)
    → d.mark.slot < 2
    → table_of_slot (with_tables t d) d.mark.slot ≡ Some t.source.table
own_table d t below = at_slot d.mark.slot t.source.table t.target below

pub source_kept : (d : Device) (t : Tables) (size : ℕ)
    → IsDevice (with_tables t d) size
    → IsTableOf d.tail.super_end d.geometry d.mark.slot t.source.table
source_kept d t size dev =
    kept_table (with_tables t d) size t.source.table dev (own_table d t dev.slot)

-- where no merge has ended there is nothing to do
pub none_due : (m : UpdateMark) (x : Option Tidying) (old : Image)
    → IsDue m old x
    → HasNoneCompleted old
    → IsNone x
none_due m None old due none = refl
none_due m (Some x) old due none = absurd (none m due)

-- ---- the table that is left

tidy_same : (max slot : ℕ) (t : Table)
    → may_be_alone max slot t ≡ false
    → tidy_table max slot t ≡ t
tidy_same max slot t is = rw is refl

tidy_alone : (max slot : ℕ) (t : Table)
    → may_be_alone max slot t ≡ true
    → tidy_table max slot t ≡ alone slot t
tidy_alone max slot t is = rw is refl

-- one merge has ended
one_mark : (j k : UpdateMark) (image : Image)
    → HasCompleted j image
    → HasCompleted k image
    → rephased marks.Completed j ≡ rephased marks.Completed k
one_mark j k image of_j of_k =
    let both : Ok (rephased marks.Completed j) ≡ Ok (rephased marks.Completed k) =
    sym of_j ∙ of_k in
    cc

one_slot : (j k : UpdateMark) (image : Image)
    → HasCompleted j image
    → HasCompleted k image
    → j.slot ≡ k.slot
one_slot j k image of_j of_k =
    ap (λ (m : UpdateMark). m.slot) (one_mark j k image of_j of_k)

-- and where one has, there is no other mark
not_both : (j k : UpdateMark) (image : Image)
    → mark_of (image 2048) ≡ Ok (rephased marks.Idle j)
    → HasCompleted k image
    → ⊥
not_both j k image idle is =
    let both : Ok (rephased marks.Idle j) ≡ Ok (rephased marks.Completed k) = sym idle ∙ is in
    let same : rephased marks.Idle j ≡ rephased marks.Completed k = cc in
    let phase : marks.Idle ≡ marks.Completed = ap (λ (m : UpdateMark). m.phase) same in
    cc

module _
    (d : Device) (t : Tables) (size : ℕ) (old : Image)
    (below : d.mark.slot < 2)
    (opened : IsOpened d t size old) where
  abbrev source : Table
  source = t.source.table

  -- what is to be done is of the device with its tables
  pub tidying_for : (x : Option Tidying)
      → IfSome x (IsTidying d.geometry.max d.mark t.source.table)
      → IfSome x (IsTidyingFor (with_tables t d))
  tidying_for None is = tt
  tidying_for (Some x) is =
      record { table = source; is = own_table d t below; tidying = is }

  read : slot_table d.geometry d.mark.slot old ≡ Ok source
  read = loaded_is d.geometry d.mark.slot t.source old opened.loaded.source

  -- ---- what is written

  of_alone : (x : Option Alone)
      → IsAloneIf d.geometry.max d.mark.slot source x
      → (s : ℕ) (b : List ℕ)
      → IsOfAlone (with_tables t d) x s b
      → IsOfTidyTable d.geometry d.mark.slot old s b
  of_alone None is s b w = absurd w
  of_alone (Some a) is s b w =
      let text : a.text ≡ table_text (alone d.mark.slot source) =
      is.text ∙ ap table_text is.table in
      record {
        table = source;
        read = read;
        may = is.may;
        short = subst (λ (l : List ℕ). length l ≤ d.geometry.max) text is.fits;
        writes = subst (λ (l : List ℕ). IsOfTable d.geometry d.mark.slot l s b) text w;
      }

  pub of_tidyings : (x : Option Tidying)
      → IsDue d.mark old x
      → IfSome x (IsTidying d.geometry.max d.mark t.source.table)
      → (s : ℕ) (b : List ℕ)
      → IsOfTidyings (with_tables t d) x s b
      → IsOfTidying size old s b
  of_tidyings None due is s b w = absurd w
  of_tidyings (Some x) due is s b w = record {
    read = read_of d.mark opened.statuses d.control d.tail d.geometry (tables_of t)
        opened.scanned;
    reads = opened.reads;
    completed = due;
    writes = ⊎_elim (λ h. inl (of_alone x.alone is.alone s b h)) (λ h. inr h) w;
  }

  -- ---- what is kept

  alone_kept : (x : Option Alone)
      → IsAloneIf d.geometry.max d.mark.slot source x
      → table_of_slot (with_alone x (with_tables t d)) d.mark.slot
      ≡ Some (tidy_table d.geometry.max d.mark.slot source)
  alone_kept None is =
      own_table d t below ∙ ap Some (sym (tidy_same d.geometry.max d.mark.slot source is))
  alone_kept (Some a) is =
      table_now (with_tables t d) a.table below
      ∙ ap Some (is.table ∙ sym (tidy_alone d.geometry.max d.mark.slot source is.may))

  keeps_alone : (x : Option Alone) (slot : ℕ) (u : Table)
      → IsAloneIf d.geometry.max d.mark.slot source x
      → d.mark.slot ≡ slot
      → slot_table (with_alone x (with_tables t d)).geometry slot old ≡ Ok u
      → table_of_slot (with_alone x (with_tables t d)) slot
      ≡ Some (tidy_table (with_alone x (with_tables t d)).geometry.max slot u)
  keeps_alone None slot u is same said =
      let tables : source ≡ u = one_table slot u same said in
      subst
      (λ (n : ℕ). table_of_slot (with_tables t d) n ≡ Some (tidy_table d.geometry.max n u)) same
      (alone_kept None is ∙ ap (λ (v : Table). Some (tidy_table d.geometry.max d.mark.slot v))
      tables)
    where
      one_table : (slot : ℕ) (u : Table)
          → d.mark.slot ≡ slot
          → slot_table d.geometry slot old ≡ Ok u
          → source ≡ u
      one_table slot u same said =
          let both : Ok source ≡ Ok u =
          sym (subst (λ (n : ℕ). slot_table d.geometry n old ≡ Ok source) same read) ∙ said in
          cc
  keeps_alone (Some a) slot u is same said =
      let both : Ok source ≡ Ok u =
      sym (subst (λ (n : ℕ). slot_table d.geometry n old ≡ Ok source) same read) ∙ said in
      let tables : source ≡ u = cc in
      subst
      (λ (n : ℕ).
      table_of_slot (with_alone (Some a) (with_tables t d)) n
      ≡ Some (tidy_table d.geometry.max n u))
      same
      (alone_kept (Some a) is
      ∙ ap (λ (v : Table). Some (tidy_table d.geometry.max d.mark.slot v)) tables)

  pub keeps_tidy : (x : Option Tidying)
      → IsDue d.mark old x
      → IfSome x (IsTidying d.geometry.max d.mark t.source.table)
      → KeepsTidy (device_after x (with_tables t d)) old
  keeps_tidy None due is = λ m u has said. absurd (due m has)
  keeps_tidy (Some x) due is = λ m u has said.
      keeps_alone x.alone m.slot u is.alone (one_slot d.mark m old due has) said

  -- the mark of the disk behind it
  pub tidied_of : (x : Option Tidying) (mid new : Image)
      → IsDue d.mark old x
      → IfSome x (IsTidying d.geometry.max d.mark t.source.table)
      → mark_of (mid 2048) ≡ mark_of (old 2048)
      → IfSome x (λ k. mark_of (new 2048) ≡ Ok (rephased marks.Idle d.mark))
      → (IsNone x → new ≡ mid)
      → IsTidied (device_after x (with_tables t d)) old new
  tidied_of None mid new due is same mark still =
      let stays : mark_of (new 2048) ≡ mark_of (old 2048) =
      ap (λ (i : Image). mark_of (i 2048)) (still refl) ∙ same in
      record {
        none = λ m has. due m (sym stays ∙ has);
        mark = λ m has. absurd (due m has);
        table = keeps_tidy None due is;
      }
  tidied_of (Some x) mid new due is same mark still = record {
    none = λ m has. not_both d.mark m new mark has;
    mark = λ m has.
        subst (λ (k : UpdateMark). mark_of (new 2048) ≡ Ok (rephased marks.Idle k))
        (one_mark d.mark m old due has) mark;
    table = keeps_tidy (Some x) due is;
  }

  -- ---- the order

  goes_alone : (x : Option Alone) (m : UpdateMark) (g : Geometry) (u : Table) (image : Image)
      → IsAloneIf d.geometry.max d.mark.slot source x
      → rephased marks.Completed d.mark ≡ rephased marks.Completed m
      → d.geometry ≡ g
      → slot_table g m.slot old ≡ Ok u
      → IsInOrder (with_alone x (with_tables t d)) image
      → HasCompleted m image ⊎ (slot_table g m.slot image ≡ Ok (tidy_table g.max m.slot u))
  goes_alone x m g u image is marked geometries said order =
      subst
      (λ (k : UpdateMark).
      HasCompleted k image ⊎ (slot_table g k.slot image ≡ Ok (tidy_table g.max k.slot u)))
      marked
      (subst
      (λ (h : Geometry).
      HasCompleted d.mark image
      ⊎ (slot_table h d.mark.slot image ≡ Ok (tidy_table h.max d.mark.slot u)))
      geometries (by_alone x is order))
    where
      there : slot_table d.geometry d.mark.slot old ≡ Ok u
      there =
          subst (λ (h : Geometry). slot_table h d.mark.slot old ≡ Ok u) (sym geometries)
          (subst (λ (k : UpdateMark). slot_table g k.slot old ≡ Ok u) (sym marked) said)

      by_alone : (x : Option Alone)
          → IsAloneIf d.geometry.max d.mark.slot source x
          → IsInOrder (with_alone x (with_tables t d)) image
          → HasCompleted d.mark image
          ⊎ (slot_table d.geometry d.mark.slot image
          ≡ Ok (tidy_table d.geometry.max d.mark.slot u))
      by_alone None is order =
          ⊎_elim (λ has. inl has)
          (λ holds. inr (holds _ (keeps_alone None d.mark.slot u is refl there))) order
      by_alone (Some a) is order =
          ⊎_elim (λ has. inl has)
          (λ holds. inr (holds _ (keeps_alone (Some a) d.mark.slot u is refl there))) order

  pub goes_on : (x : Option Tidying) (image : Image)
      → IsDue d.mark old x
      → IfSome x (IsTidying d.geometry.max d.mark t.source.table)
      → (HasCompleted d.mark old → IsInOrder (device_after x (with_tables t d)) image)
      → GoesOn size old image
  goes_on None image due is order = λ m tail g u has ends geometry said. absurd (due m has)
  goes_on (Some x) image due is order = λ m tail g u has ends geometry said.
      let marked = one_mark d.mark m old due has in
      let physical : d.mark.physical ≡ m.physical =
      ap (λ (k : UpdateMark). k.physical) marked in
      let tails : Ok d.tail ≡ Ok tail =
      sym opened.reads.tail ∙ ap (λ (b : Bool). tail_at b size old) physical ∙ ends in
      let one_tail : d.tail ≡ tail = cc in
      let both : Ok d.geometry ≡ Ok g =
      sym opened.reads.geometry
      ∙ ap (λ (k : Tail). geometry_at k.super_end old) one_tail
      ∙ geometry in
      let same : d.geometry ≡ g = cc in
      goes_alone x.alone m g u image is.alone marked same said (order due)

  -- the kept mark
  pub same_mark : (x : Option Tidying) → (device_after x (with_tables t d)).mark ≡ d.mark
  same_mark None = refl
  same_mark (Some x) = by_alone x.alone
    where
      by_alone : (y : Option Alone) → (with_alone y (with_tables t d)).mark ≡ d.mark
      by_alone None = refl
      by_alone (Some a) = refl

  -- each outcome is in order, whether something was to be done or not
  pub order_of : {D : Type 0} (g : Ghosts D) (x : Option Tidying) (mid new : D)
      (P : Outcome → Type 0)
      → IsDue d.mark old x
      → IfSome x (IsTidying d.geometry.max d.mark t.source.table)
      → Adds g.moment g.outcomes mid new P
      → (HasCompleted (device_after x (with_tables t d)).mark old
      → Adds g.moment g.outcomes mid new
      (λ o. IsInOrder (device_after x (with_tables t d)) o.image))
      → Adds g.moment g.outcomes mid new (λ o. GoesOn size old o.image)
  order_of g None mid new P due is time order =
      adds_wider g.moment g.outcomes mid new P _ time
      (λ o p. goes_on None o.image due is (λ has. absurd (due d.mark has)))
  order_of g (Some x) mid new P due is time order =
      let has : HasCompleted (device_after (Some x) (with_tables t d)).mark old =
      subst (λ (m : UpdateMark). HasCompleted m old) (sym (same_mark (Some x))) due in
      adds_wider g.moment g.outcomes mid new _ _ (order has)
      (λ o ordered. goes_on (Some x) o.image due is (λ k. ordered))

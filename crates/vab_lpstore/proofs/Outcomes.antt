-- A slot's table, while its copies are written.
use Rattle.std.proofs.Common.{◌≡◌, ◌⊎◌, inl, inr, ⊎_elim, ℕ, ◌+◌, ◌*◌, ◌<◌, ◌≤◌, List, length, take}
use Rattle.std.proofs.Common.{false, Result, Ok, Err, sym, ◌∙◌, ap, subst, arith}
use Rattle.std.specs.Prelude.{OnOk}
use Rattle.std.proofs.lemmas.Bool.{cases_lt, false≢true}
use Rattle.vab_disk.specs.Disk.{Image, Outcome, LeavesBlend}
use Rattle.vab_gate.specs.Gate.{sectors_at}
use Rattle.vab_copies.specs.Copies.{with_text, IsOutside, IsKept, HoldsText, BeginsWithZeros}
use Rattle.vab_copies.specs.Copies.{StandCopies, LeavesCopy, LeavesCopies, IsOfText, IsOfCopy}
use Rattle.vab_copies.specs.Copies.{IsOfEither}
use Rattle.vab_copies.proofs.CopyLaws.{sectors_same, text_outside, text_held}
use Rattle.vab_geometry.specs.declared.geometry.Geometry.{Geometry}
use Rattle.vab_tables.specs.declared.table.Table.{Table}
use Rattle.vab_tables.specs.declared.fault.TableFault.{TableFault}
use Rattle.vab_tables.specs.declared.fault.TableFault.TheVariants as faults
use Rattle.vab_tables.specs.Text.{IsTableText}
use Rattle.vab_tables.specs.Reading.{table_of}
use Rattle.vab_lpstore.specs.Layout.{copy_sectors, primary_of, backup_of, primary_bytes}
use Rattle.vab_lpstore.specs.Layout.{backup_bytes, Begins, BothHold}
use Rattle.vab_lpstore.specs.declared.loaded.Loaded.{Loaded}
use Rattle.vab_lpstore.specs.Loading.{first_of, slot_table, IsLoaded, IsNoTable}
use Rattle.vab_lpstore.specs.Storing.{SameElsewhere, LeavesTable, LeavesEitherTable}
use Rattle.vab_lpstore.proofs.StoreLaws.{copies_apart, begins_read, zeros_read, sectors_begin}

-- a copy of m sectors, of which the first n are kept and the others too
kept_whole : (m n at : ℕ) (old image : Image)
    → IsKept n at old image
    → ((s : ℕ) → at + n ≤ s → s < at + m → image s ≡ old s)
    → sectors_at m image at ≡ sectors_at m old at
kept_whole m n at old image kept behind =
    sectors_same m image old at at (λ k below. elim (cases_lt k n) [
      | inl within ↦ kept k within
      | inr past ↦ behind (at + k) (omega (arith, past)) (omega (arith, below))
    ])

module _ (g : Geometry) (slot n : ℕ) (text : List ℕ) (old : Image) (below : slot < g.slots)
    (some : 0 < n) (fits : n ≤ copy_sectors g) (room : length text ≤ 512 * n) where
  abbrev p : ℕ
  p = primary_of g slot

  abbrev b : ℕ
  b = backup_of g slot

  apart : p + copy_sectors g ≤ b
  apart = copies_apart g slot below

  -- sectors of a copy behind the n first
  behind_primary : (image : Image)
      → SameElsewhere g slot n old image
      → (s : ℕ)
      → p + n ≤ s
      → s < p + copy_sectors g
      → image s ≡ old s
  behind_primary image others s from to = others s (inr from) (inl (omega (arith, to, apart)))

  behind_backup : (image : Image)
      → SameElsewhere g slot n old image
      → (s : ℕ)
      → b + n ≤ s
      → s < b + copy_sectors g
      → image s ≡ old s
  behind_backup image others s from to =
      others s (inr (omega (arith, from, apart, fits))) (inr from)

  backup_kept : (image : Image)
      → SameElsewhere g slot n old image
      → IsKept n b old image
      → backup_bytes g slot image ≡ backup_bytes g slot old
  backup_kept image others kept = kept_whole (copy_sectors g) n b old image kept
      (behind_backup image others)

  primary_kept : (image : Image)
      → SameElsewhere g slot n old image
      → IsKept n p old image
      → primary_bytes g slot image ≡ primary_bytes g slot old
  primary_kept image others kept = kept_whole (copy_sectors g) n p old image kept
      (behind_primary image others)

  pub primary_begins : (image : Image)
      → HoldsText n p text image
      → Begins (primary_bytes g slot image) text
  primary_begins image holds = sectors_begin n (copy_sectors g) p text image holds room fits

  pub backup_begins : (image : Image)
      → HoldsText n b text image
      → Begins (backup_bytes g slot image) text
  backup_begins image holds = sectors_begin n (copy_sectors g) b text image holds room fits

  -- what two copies say
  first_is : (image : Image) (t : Table)
      → table_of g.max (primary_bytes g slot image) ≡ Ok t
      → slot_table g slot image ≡ Ok t
  unfolding slot_table
  first_is image t is = ap (λ r. first_of r (table_of g.max (backup_bytes g slot image))) is

  second_is : (image : Image) (f : TableFault) (t : Table)
      → table_of g.max (primary_bytes g slot image) ≡ Err f
      → table_of g.max (backup_bytes g slot image) ≡ Ok t
      → slot_table g slot image ≡ Ok t
  unfolding slot_table
  second_is image f t bad is = (λ i. first_of (bad i) (is i))

  torn_primary : (image : Image)
      → BeginsWithZeros p image
      → table_of g.max (primary_bytes g slot image) ≡ Err faults.NoHeader
  torn_primary image zero = zeros_read g.max (copy_sectors g) image p (omega (arith, some, fits))
      zero

  -- while both are written
  stand_table : (t u : Table)
      → table_of g.max (primary_bytes g slot old) ≡ Ok t
      → table_of g.max (backup_bytes g slot old) ≡ Ok t
      → IsTableText g.max text u
      → (image : Image)
      → SameElsewhere g slot n old image
      → StandCopies n p b text old image
      → (slot_table g slot image ≡ Ok t) ⊎ (slot_table g slot image ≡ Ok u)
  stand_table t u is_p is_b is image others (StandCopies.both_old kept_p kept_b) =
      inl (first_is image t (ap (table_of g.max) (primary_kept image others kept_p) ∙ is_p))
  stand_table t u is_p is_b is image others (StandCopies.primary_torn zero kept_b) =
      inl (second_is image faults.NoHeader t (torn_primary image zero)
      (ap (table_of g.max) (backup_kept image others kept_b) ∙ is_b))
  stand_table t u is_p is_b is image others (StandCopies.primary_new holds kept_b) =
      inr (first_is image u (begins_read g.max (primary_bytes g slot image) text u is
      (primary_begins image holds)))
  stand_table t u is_p is_b is image others (StandCopies.backup_torn holds zero) =
      inr (first_is image u (begins_read g.max (primary_bytes g slot image) text u is
      (primary_begins image holds)))
  stand_table t u is_p is_b is image others (StandCopies.both_new holds holds_b) =
      inr (first_is image u (begins_read g.max (primary_bytes g slot image) text u is
      (primary_begins image holds)))

  pub stored_table : (told : List ℕ) (t u : Table)
      → table_of g.max (primary_bytes g slot old) ≡ Ok t
      → table_of g.max (backup_bytes g slot old) ≡ Ok t
      → IsTableText g.max text u
      → (o : Outcome)
      → LeavesCopies told old n p b text o
      → LeavesEitherTable told g slot n old t u o
  stored_table told t u is_p is_b is o leaves = record {
    told_so_far = leaves.told_so_far;
    others = leaves.others;
    table = stand_table t u is_p is_b is o.image leaves.others leaves.copies;
  }

  pub stored_both : (image : Image)
      → image ≡ with_text n text (with_text n text old p) b
      → BothHold g slot text image
  stored_both image is = record {
    primary = primary_begins image (λ k lt. ap (λ (i : Image). i (p + k)) is
        ∙ text_outside n b text (with_text n text old p) (p + k)
        (inl (omega (arith, lt, fits, apart))) ∙ text_held n p text old k lt);
    backup = backup_begins image (λ k lt. ap (λ (i : Image). i (b + k)) is
        ∙ text_held n b text (with_text n text old p) k lt);
  }

  -- while the primary alone is
  backup_same : (image : Image)
      → ((s : ℕ) → IsOutside p n s → image s ≡ old s)
      → backup_bytes g slot image ≡ backup_bytes g slot old
  backup_same image others = sectors_same (copy_sectors g) image old b b
      (λ k lt. others (b + k) (inr (omega (arith, fits, apart))))

  pub primary_table : (told : List ℕ) (f : TableFault) (t : Table)
      → table_of g.max (primary_bytes g slot old) ≡ Err f
      → Begins (backup_bytes g slot old) text
      → IsTableText g.max text t
      → (o : Outcome)
      → LeavesCopy told old (with_text n text old p) p n o
      → LeavesTable told g slot n old t o
  primary_table told f t bad begins is o leaves =
      let kept : table_of g.max (backup_bytes g slot o.image) ≡ Ok t =
      ap (table_of g.max) (backup_same o.image leaves.others)
      ∙ begins_read g.max (backup_bytes g slot old) text t is begins in
      record {
        told_so_far = leaves.told_so_far;
        others = λ s out away. leaves.others s out;
        table = ⊎_elim
            (λ was. second_is o.image f t
            (ap (λ (image : Image). table_of g.max (primary_bytes g slot image)) was ∙ bad)
            kept)
            (λ later. ⊎_elim
            (λ zero. second_is o.image faults.NoHeader t (torn_primary o.image zero) kept)
            (λ now. first_is o.image t (begins_read g.max (primary_bytes g slot o.image) text t is
            (primary_begins o.image (λ k lt. ap (λ (image : Image). image (p + k)) now
            ∙ text_held n p text old k lt))))
            later)
            leaves.copy;
      }

  pub primary_both : (image : Image)
      → Begins (backup_bytes g slot old) text
      → image ≡ with_text n text old p
      → BothHold g slot text image
  primary_both image begins is =
      let same : backup_bytes g slot image ≡ backup_bytes g slot old =
      backup_same image (λ s out. ap (λ (i : Image). i s) is ∙ text_outside n p text old s out)
      in
      record {
        primary = primary_begins image (λ k lt. ap (λ (i : Image). i (p + k)) is
            ∙ text_held n p text old k lt);
        backup = ap (λ (l : List ℕ). take (length text) l) same ∙ begins;
      }

  -- while the backup alone is
  primary_same : (image : Image)
      → ((s : ℕ) → IsOutside b n s → image s ≡ old s)
      → primary_bytes g slot image ≡ primary_bytes g slot old
  primary_same image others = sectors_same (copy_sectors g) image old p p
      (λ k lt. others (p + k) (inl (omega (arith, lt, apart))))

  pub backup_table : (told : List ℕ) (t : Table)
      → Begins (primary_bytes g slot old) text
      → IsTableText g.max text t
      → (o : Outcome)
      → LeavesBlend told old (with_text n text old b) o
      → LeavesTable told g slot n old t o
  backup_table told t begins is o leaves =
      let others : (s : ℕ) → IsOutside b n s → o.image s ≡ old s = λ s out.
      ⊎_elim (λ was. was) (λ now. now ∙ text_outside n b text old s out) (leaves.blend s) in
      record {
        told_so_far = leaves.told_so_far;
        others = λ s away out. others s out;
        table = first_is o.image t (ap (table_of g.max) (primary_same o.image others)
            ∙ begins_read g.max (primary_bytes g slot old) text t is begins);
      }

  pub backup_both : (image : Image)
      → Begins (primary_bytes g slot old) text
      → image ≡ with_text n text old b
      → BothHold g slot text image
  backup_both image begins is =
      let same : primary_bytes g slot image ≡ primary_bytes g slot old =
      primary_same image (λ s out. ap (λ (i : Image). i s) is ∙ text_outside n b text old s out)
      in
      record {
        primary = ap (λ (l : List ℕ). take (length text) l) same ∙ begins;
        backup = backup_begins image (λ k lt. ap (λ (i : Image). i (b + k)) is
            ∙ text_held n b text old k lt);
      }

-- the same of equal places
pub places : (P : ℕ → ℕ → ℕ → List ℕ → Type 0) (n n' p p' b b' : ℕ) (text text' : List ℕ)
    → n' ≡ n
    → p' ≡ p
    → b' ≡ b
    → text' ≡ text
    → P n' p' b' text'
    → P n p b text
places P n n' p p' b b' text text' en ep eb et is =
    subst (λ (k : ℕ). P k p b text) en (subst (λ (k : ℕ). P n' k b text) ep
    (subst (λ (k : ℕ). P n' p' k text) eb (subst (λ (l : List ℕ). P n' p' b' l) et is)))

pub on_ok_map : {A E : Type 0} (r : Result A E) (P Q : Type 0) → (P → Q) → OnOk r P → OnOk r Q
on_ok_map (Ok x) P Q f is = f is
on_ok_map (Err e) P Q f is = tt

-- what the flags of what is loaded say
pub not_primary : (max : ℕ) (primary backup : List ℕ) (l : Loaded)
    → IsLoaded max primary backup l
    → l.primary ≡ false
    → Begins backup l.text × IsNoTable max primary
not_primary max primary backup l is lacks =
    ⊎_elim (λ begins. absurd (false≢true (sym lacks ∙ is.in_primary.1 begins))) (λ behind. behind)
    is.first

-- What is loaded of the fronts of two copies is loaded of the copies.
use Rattle.std.proofs.Common.{◌≡◌, inl, inr, ⊎_elim, ℕ, ◌+◌, ◌-◌, ◌*◌, ◌≤◌, List, ◌++◌}
use Rattle.std.proofs.Common.{length, take, refl, sym, ◌∙◌, ap, arith}
use Rattle.std.specs.Prelude.{◌↔◌, IfOk, Result, Ok, Err}
use Rattle.std.proofs.lemmas.List.{take-take, take_at, take_all, length-take}
use Rattle.vab_disk.specs.Disk.{Image}
use Rattle.vab_gate.specs.Gate.{sectors_at}
use Rattle.vab_copies.proofs.CopyLaws.{sectors_split}
use Rattle.vab_tables.specs.declared.table.Table.{Table}
use Rattle.vab_tables.specs.Text.{IsTableText, text_size_of}
use Rattle.vab_tables.specs.Reading.{table_of}
use Rattle.vab_tables.proofs.FrontLaws.{text_size_fits}
use Rattle.vab_tables.specs.Needs.{need_of}
use Rattle.vab_tables.proofs.NeedLaws.{need_reads, need_front, need_text, text_size_same}
use Rattle.vab_lpstore.specs.declared.loaded.Loaded.{Loaded}
use Rattle.vab_lpstore.specs.Layout.{text_sectors, Begins}
use Rattle.vab_lpstore.specs.Loading.{first_of, IsLoaded}
use Rattle.vab_lpstore.specs.Front.{IsFront}
use Rattle.vab_lpstore.proofs.StoreLaws.{begins_text, text_room}

-- ---- the front of a copy

-- the first sectors of a copy are its first bytes
pub sectors_front : (n m : ℕ) (image : Image) (at : ℕ) (bytes : List ℕ)
    → bytes ≡ sectors_at n image at
    → n ≤ m
    → bytes ≡ take (length bytes) (sectors_at m image at)
sectors_front n m image at bytes is le =
    let e : m ≡ n + (m - n) = omega (arith, le) in
    let whole : sectors_at m image at ≡ bytes ++ sectors_at (m - n) image (at + n) =
    ap (λ (k : ℕ). sectors_at k image at) e ∙ sectors_split n (m - n) image at
    ∙ ap (λ (l : List ℕ). l ++ sectors_at (m - n) image (at + n)) (sym is) in
    sym (ap (take (length bytes)) whole
    ∙ take_at bytes (sectors_at (m - n) image (at + n)) (length bytes) refl)

-- the first sector tells how many bytes the copy needs
pub front_need : (max m : ℕ) (image : Image) (at : ℕ) (bytes : List ℕ)
    → bytes ≡ sectors_at 1 image at
    → length bytes ≡ 512
    → 1 ≤ m
    → need_of max bytes ≡ need_of max (sectors_at m image at)
front_need max m image at bytes is long some =
    ap (need_of max) (sectors_front 1 m image at bytes is some)
    ∙ need_front max (length bytes) (sectors_at m image at) (omega (arith, long))

pub front_is : (max n m : ℕ) (image : Image) (at : ℕ) (bytes : List ℕ)
    → bytes ≡ sectors_at n image at
    → length bytes ≡ 512 * n
    → 1 ≤ n
    → n ≤ m
    → need_of max (sectors_at m image at) ≤ 512 * n
    → IsFront max (sectors_at m image at) bytes
front_is max n m image at bytes is long some le need = record {
  first = sectors_front n m image at bytes is le;
  header = omega (arith, long, some);
  needed = omega (arith, long, need);
}

-- how many sectors the bytes take that a copy needs
pub sectors_within : (n m : ℕ) → 1 ≤ m → n ≤ 512 * m → text_sectors n ≤ m
unfolding text_sectors
sectors_within n m some room = omega (arith, some, room)

-- they have room for what the first sector tells
pub need_room : (max m : ℕ) (image : Image) (at : ℕ) (first : List ℕ) (n s : ℕ)
    → first ≡ sectors_at 1 image at
    → length first ≡ 512
    → 1 ≤ m
    → n ≡ need_of max first
    → s ≡ text_sectors n
    → need_of max (sectors_at m image at) ≤ 512 * s
need_room max m image at first n s is long some need sectors =
    omega (
      arith,
      front_need max m image at first is long some,
      need,
      text_room n,
      ap (λ (k : ℕ). 512 * k) sectors,
    )

-- what is read of so many sectors is the front
pub second_front : {E : Type 0} {V : Type 0} (view : V → List ℕ) (r : Result V E) (max n m : ℕ)
    (old new : Image) (at : ℕ)
    → new ≡ old
    → 1 ≤ n
    → n ≤ m
    → need_of max (sectors_at m old at) ≤ 512 * n
    → IfOk r (λ v. view v ≡ sectors_at n new at)
    → IfOk r (λ v. length (view v) ≡ 512 * n)
    → IfOk r (λ v. IsFront max (sectors_at m old at) (view v))
second_front view (Err e) max n m old new at same some le need is long = tt
second_front view (Ok v) max n m old new at same some le need is long =
    front_is max n m old at (view v)
    (is ∙ ap (λ (image : Image). sectors_at n image at) same) long some le need

-- ---- what it says

pub front_read : (max : ℕ) (copy bytes : List ℕ)
    → IsFront max copy bytes
    → table_of max bytes ≡ table_of max copy
front_read max copy bytes f =
    ap (table_of max) f.first ∙ need_reads max (length bytes) copy f.header f.needed

-- the front of so many bytes, where the front has them
front_take : (max : ℕ) (copy bytes : List ℕ) (n : ℕ)
    → IsFront max copy bytes
    → n ≤ length bytes
    → take n bytes ≡ take n copy
front_take max copy bytes n f le = ap (take n) f.first ∙ take-take n (length bytes) copy le

front_then_copy : (max : ℕ) (copy bytes text : List ℕ)
    → IsFront max copy bytes
    → Begins bytes text
    → Begins copy text
front_then_copy max copy bytes text f begins =
    let long : length text ≤ length bytes =
    omega (arith, ap length begins, length-take (length text) bytes) in
    sym (front_take max copy bytes (length text) f long) ∙ begins

copy_then_front : (max : ℕ) (copy bytes text : List ℕ) (t : Table)
    → IsFront max copy bytes
    → IsTableText max text t
    → length text ≡ text_size_of text
    → Begins copy text
    → Begins bytes text
copy_then_front max copy bytes text t f is whole begins =
    let header = (text_size_fits max text t is).0 in
    let same : text_size_of copy ≡ text_size_of text =
    text_size_same copy text (length text) (omega (arith, whole, header))
    (begins ∙ sym (take_all (length text) text (omega arith))) in
    let need = need_text max copy t (begins_text max copy text t is begins) in
    let long : length text ≤ length bytes = omega (arith, whole, same, need, f.needed) in
    front_take max copy bytes (length text) f long ∙ begins

front_begins : (max : ℕ) (copy bytes text : List ℕ) (t : Table)
    → IsFront max copy bytes
    → IsTableText max text t
    → length text ≡ text_size_of text
    → Begins bytes text ↔ Begins copy text
front_begins max copy bytes text t f is whole =
    (front_then_copy max copy bytes text f, copy_then_front max copy bytes text t f is whole)

pub fronts_say : (max : ℕ) (primary backup first second : List ℕ)
    → IsFront max primary first
    → IsFront max backup second
    → first_of (table_of max first) (table_of max second)
    ≡ first_of (table_of max primary) (table_of max backup)
fronts_say max primary backup first second p b =
    ap (λ r. first_of r (table_of max second)) (front_read max primary first p)
    ∙ ap (first_of (table_of max primary)) (front_read max backup second b)

-- what is loaded of the fronts
pub fronts_loaded : (max : ℕ) (primary backup first second : List ℕ) (l : Loaded)
    → IsFront max primary first
    → IsFront max backup second
    → IsLoaded max first second l
    → IsLoaded max primary backup l
fronts_loaded max primary backup first second l p b is =
    let in_p = front_begins max primary first l.text l.table p is.text is.whole in
    let in_b = front_begins max backup second l.text l.table b is.text is.whole in
    record {
      text = is.text;
      whole = is.whole;
      in_primary = (λ t. in_p.0 (is.in_primary.0 t), λ h. is.in_primary.1 (in_p.1 h));
      in_backup = (λ t. in_b.0 (is.in_backup.0 t), λ h. is.in_backup.1 (in_b.1 h));
      first = ⊎_elim
          (λ held. inl (in_p.0 held))
          (λ both. inr
          (in_b.0 both.0, (both.1.0, sym (front_read max primary first p) ∙ both.1.1)))
          is.first;
    }

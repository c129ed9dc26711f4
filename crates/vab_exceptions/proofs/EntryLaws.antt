-- Lists of entries, read from bytes and written.
use Rattle.std.proofs.Common.{◌≡◌, ◌≢◌, inl, inr, ℕ, zero, suc, ◌+◌, ◌-◌, ◌*◌, ◌≤◌, ◌<◌, List, []}
use Rattle.std.proofs.Common.{◌∷◌, ◌++◌, ◌==◌, length, take, drop, get_or, replicate, refl, sym}
use Rattle.std.proofs.Common.{◌∙◌, ap, subst, arith, true, false, All, add-one, append_assoc}
use Rattle.std.proofs.Common.{append-nil, length-append}
use Rattle.std.specs.Int.{w64, to_le_bytes, from_le_bytes}
use Rattle.std.proofs.lemmas.Bool.{cases_eq, cases_lt, eq-eqb, ne_eqb}
use Rattle.std.proofs.lemmas.List.{ext_get_or, take_at, drop_at, drop-drop, drop-replicate}
use Rattle.std.proofs.lemmas.List.{take-replicate, get_or_append_left, get_or-append_right}
use Rattle.std.proofs.lemmas.List.Elements.{All-head, All-tail}
use Rattle.std.proofs.lemmas.Nat.{from_le_bytes-to_le_bytes_8}
use Rattle.vab_bytes.specs.Number.{field, put_at}
use Rattle.vab_exceptions.specs.declared.area.Exception.{Exception}
use Rattle.vab_exceptions.specs.Entries.{firsts, entry_at, IsListed, AllListed, FitsEntry, listed}
use Rattle.vab_exceptions.specs.Entries.{area_of, entry_bytes, bytes_of, area_bytes, put_entry}

-- ---- the values of a function

pub length-firsts : {X : Type 0} (f : ℕ → X) (n : ℕ) → length (firsts f n) ≡ n
unfolding firsts
length-firsts f zero = refl
length-firsts f (suc n) =
    omega (arith, length-append (firsts f n) (f n ∷ []), length-firsts f n)

pub get_or-firsts : {X : Type 0} (f : ℕ → X) (n i : ℕ) (d : X)
    → i < n
    → get_or (firsts f n) i d ≡ f i
unfolding firsts
get_or-firsts f zero i d below = absurd (omega arith)
get_or-firsts f (suc n) i d below =
    elim (cases_lt i n) [
      | inl before ↦
          get_or_append_left (firsts f n) (f n ∷ []) d i (omega (arith, before, length-firsts f n))
          ∙ get_or-firsts f n i d before
      | inr last ↦
          let here : i ≡ n = omega (arith, below, last) in
          let none : i - n ≡ 0 = omega (arith, here) in
          get_or-append_right (firsts f n) (f n ∷ []) n i d (length-firsts f n) last
          ∙ ap (λ (k : ℕ). get_or (f n ∷ []) k d) none
          ∙ ap f (sym here)
    ]

-- one more value
pub firsts-more : {X : Type 0} (f : ℕ → X) (n : ℕ) → firsts f (n + 1) ≡ firsts f n ++ f n ∷ []
unfolding firsts
firsts-more f n = ap (firsts f) (add-one n)

-- a list is the values at its places
pub firsts_is : {X : Type 0} (f : ℕ → X) (xs : List X) (d : X)
    → ((i : ℕ) → i < length xs → f i ≡ get_or xs i d)
    → firsts f (length xs) ≡ xs
firsts_is f xs d same =
    ext_get_or d (firsts f (length xs)) xs (length-firsts f (length xs))
    (λ i below.
    let lt : i < length xs = omega (arith, below, length-firsts f (length xs)) in
    get_or-firsts f (length xs) i d lt ∙ same i lt)

pub firsts_same : {X : Type 0} (f g : ℕ → X) (n : ℕ)
    → ((i : ℕ) → i < n → f i ≡ g i)
    → firsts f n ≡ firsts g n
unfolding firsts
firsts_same f g zero same = refl
firsts_same f g (suc n) same =
    let front = firsts_same f g n (λ i below. same i (omega arith)) in
    (λ i. front i ++ same n (omega arith) i ∷ [])

pub firsts-cons : {X : Type 0} (f : ℕ → X) (n : ℕ)
    → firsts f (suc n) ≡ f 0 ∷ firsts (λ i. f (suc i)) n
unfolding firsts
firsts-cons f zero = refl
firsts-cons f (suc n) = ap (λ l. l ++ f (suc n) ∷ []) (firsts-cons f n)

pub firsts-add : {X : Type 0} (f : ℕ → X) (n m : ℕ)
    → firsts f (n + m) ≡ firsts f n ++ firsts (λ i. f (n + i)) m
unfolding firsts
firsts-add f n zero =
    let none : n + zero ≡ n = omega arith in
    ap (firsts f) none ∙ sym (append-nil (firsts f n))
firsts-add f n (suc m) =
    let more : n + suc m ≡ suc (n + m) = omega arith in
    ap (firsts f) more
    ∙ ap (λ l. l ++ f (n + m) ∷ []) (firsts-add f n m)
    ∙ append_assoc (firsts f n) (firsts (λ i. f (n + i)) m) (f (n + m) ∷ [])

-- the first of the values
pub take-firsts : {X : Type 0} (f : ℕ → X) (k n : ℕ)
    → k ≤ n
    → take k (firsts f n) ≡ firsts f k
take-firsts f k n le =
    let all : k + (n - k) ≡ n = omega (arith, le) in
    ap (λ (m : ℕ). take k (firsts f m)) (sym all)
    ∙ ap (take k) (firsts-add f k (n - k))
    ∙ take_at (firsts f k) (firsts (λ i. f (k + i)) (n - k)) k (length-firsts f k)

-- ---- where a list ends

pub listed-append : (xs ys : List Exception) → AllListed xs → listed (xs ++ ys) ≡ xs ++ listed ys
unfolding listed
listed-append [] ys all = refl
listed-append (x ∷ xs) ys all =
    let here : x.new_chunk ≢ 0 = All-head IsListed x xs all in
    let test : (x.new_chunk == 0) ≡ false = ne_eqb x.new_chunk 0 here in
    rw test (ap (λ l. x ∷ l) (listed-append xs ys (All-tail IsListed x xs all)))

pub listed_ends : (x : Exception) (xs : List Exception) → x.new_chunk ≡ 0 → listed (x ∷ xs) ≡ []
unfolding listed
listed_ends x xs none =
    let test : (x.new_chunk == 0) ≡ true = eq-eqb x.new_chunk 0 none in
    rw test refl

listed-nil : listed [] ≡ []
unfolding listed
listed-nil = refl

-- a list that ends at a place, or behind all n
pub record EndsAt (f : ℕ → Exception) (k n : ℕ) : Type 0 where
  pub within : k ≤ n
  pub before : (i : ℕ) → i < k → IsListed (f i)
  pub here : k < n → (f k).new_chunk ≡ 0

all_firsts : (f : ℕ → Exception) (k : ℕ)
    → ((i : ℕ) → i < k → IsListed (f i))
    → AllListed (firsts f k)
all_firsts f k before i d below =
    let lt : i < k = omega (arith, below, length-firsts f k) in
    subst IsListed (sym (get_or-firsts f k i d lt)) (before i lt)

pub listed_is : (f : ℕ → Exception) (k n : ℕ) → EndsAt f k n → listed (firsts f n) ≡ firsts f k
listed_is f k n ends =
    let all = all_firsts f k ends.before in
    elim (cases_lt k n) [
      | inr whole ↦
          let same : n ≡ k = omega (arith, whole, ends.within) in
          ap (λ (m : ℕ). listed (firsts f m)) same
          ∙ ap listed (sym (append-nil (firsts f k)))
          ∙ listed-append (firsts f k) [] all
          ∙ ap (λ l. firsts f k ++ l) listed-nil
          ∙ append-nil (firsts f k)
      | inl some ↦
          let more : n ≡ k + suc (n - suc k) = omega (arith, some) in
          let rest : ℕ → Exception = λ i. f (k + i) in
          let none : k + 0 ≡ k = omega arith in
          let stop : (rest 0).new_chunk ≡ 0 =
          ap (λ (j : ℕ). (f j).new_chunk) none ∙ ends.here some in
          ap (λ (m : ℕ). listed (firsts f m)) more
          ∙ ap listed (firsts-add f k (suc (n - suc k)))
          ∙ listed-append (firsts f k) (firsts rest (suc (n - suc k))) all
          ∙ ap (λ l. firsts f k ++ listed l) (firsts-cons rest (n - suc k))
          ∙ ap (λ l. firsts f k ++ l)
          (listed_ends (rest 0) (firsts (λ i. rest (suc i)) (n - suc k)) stop)
          ∙ append-nil (firsts f k)
    ]

-- each list ends somewhere
end_of : (f : ℕ → Exception) (n : ℕ) → (k : ℕ) × EndsAt f k n
end_of f zero = (
  0,
  record {
    within = omega arith;
    before = λ i below. absurd (omega (arith, below));
    here = λ below. absurd (omega (arith, below));
  },
)
end_of f (suc n) =
    let so_far = end_of f n in
    elim (cases_lt so_far.0 n) [
      | inl ended ↦ (
        so_far.0,
        record {
          within = omega (arith, ended);
          before = so_far.1.before;
          here = λ below. so_far.1.here ended;
        },
      )
      | inr open_yet ↦
          let all : so_far.0 ≡ n = omega (arith, open_yet, so_far.1.within) in
          elim (cases_eq (f n).new_chunk 0) [
            | inl stop ↦ (
              n,
              record {
                within = omega arith;
                before = λ i below. so_far.1.before i (omega (arith, below, all));
                here = λ below. stop;
              },
            )
            | inr on ↦ (
              suc n,
              record {
                within = omega arith;
                before = λ i below. elim (cases_lt i n) [
                  | inl lt ↦ so_far.1.before i (omega (arith, lt, all))
                  | inr last ↦
                      let is : n ≡ i = omega (arith, last, below) in
                      subst (λ (j : ℕ). IsListed (f j)) is on
                ];
                here = λ below. absurd (omega (arith, below));
              },
            )
          ]
    ]

-- namely behind as many entries as it has exceptions
pub ends_at : (f : ℕ → Exception) (n : ℕ) → EndsAt f (length (listed (firsts f n))) n
ends_at f n =
    let some = end_of f n in
    let long : some.0 ≡ length (listed (firsts f n)) =
    sym (ap length (listed_is f some.0 n some.1) ∙ length-firsts f some.0) in
    subst (λ (k : ℕ). EndsAt f k n) long some.1

-- ---- entries that are written

pub bytes_of-push : (es : List Exception) (e : Exception)
    → bytes_of (es ++ e ∷ []) ≡ bytes_of es ++ entry_bytes e
unfolding bytes_of
bytes_of-push [] e = append-nil (entry_bytes e)
bytes_of-push (x ∷ es) e =
    ap (λ l. entry_bytes x ++ l) (bytes_of-push es e)
    ∙ sym (append_assoc (entry_bytes x) (bytes_of es) (entry_bytes e))

length-entry_bytes : (e : Exception) → length (entry_bytes e) ≡ 16
length-entry_bytes e = refl

pub length-bytes_of : (es : List Exception) → length (bytes_of es) ≡ 16 * length es
unfolding bytes_of
length-bytes_of [] = refl
length-bytes_of (x ∷ es) =
    omega (
      arith,
      length-append (entry_bytes x) (bytes_of es),
      length-entry_bytes x,
      length-bytes_of es,
    )

-- a piece that is put where the zeros begin
put_tail : (xs : List ℕ) (at m : ℕ) (piece : List ℕ)
    → length xs ≡ at
    → put_at (xs ++ replicate m 0) at piece ≡ (xs ++ piece) ++ replicate (m - length piece) 0
put_tail xs at m piece long =
    let front : take at (xs ++ replicate m 0) ≡ xs = take_at xs (replicate m 0) at long in
    let back : drop (at + length piece) (xs ++ replicate m 0) ≡ replicate (m - length piece) 0 =
    sym (drop-drop (length piece) at (xs ++ replicate m 0))
    ∙ ap (drop (length piece)) (drop_at xs (replicate m 0) at long)
    ∙ drop-replicate (length piece) m 0 in
    (λ i. (front i ++ piece) ++ back i)

-- one entry more is written
pub put_more : (size : ℕ) (es : List Exception) (e : Exception)
    → put_entry (area_bytes size es) (length es) e ≡ area_bytes size (es ++ e ∷ [])
put_more size es e =
    let at = 16 * length es in
    let m = size - 16 * length es in
    let old = to_le_bytes w64 e.old_chunk in
    let new = to_le_bytes w64 e.new_chunk in
    let long : length (bytes_of es) ≡ at = length-bytes_of es in
    let longer : length (bytes_of es ++ old) ≡ at + 8 =
    omega (arith, length-append (bytes_of es) old, long) in
    let left : m - 8 - 8 ≡ size - 16 * length (es ++ e ∷ []) =
    omega (arith, length-append es (e ∷ [])) in
    ap (λ (b : List ℕ). put_at b (at + 8) new) (put_tail (bytes_of es) at m old long)
    ∙ put_tail (bytes_of es ++ old) (at + 8) (m - 8) new longer
    ∙ ap (λ (b : List ℕ). b ++ replicate (m - 8 - 8) 0)
    (append_assoc (bytes_of es) old new ∙ sym (bytes_of-push es e))
    ∙ ap (λ (n : ℕ). bytes_of (es ++ e ∷ []) ++ replicate n 0) left

-- no entry is written yet
pub put_none : (size : ℕ) → replicate size 0 ≡ area_bytes size []
unfolding bytes_of
put_none size =
    let all : size ≡ size - 16 * 0 = omega arith in
    ap (λ (n : ℕ). replicate n 0) all

-- ---- entries that are read back

-- what stands from an entry on
drop-entries : (es : List Exception) (zs : List ℕ) (i : ℕ) (d : Exception)
    → i < length es
    → (rest : List ℕ) × (drop (16 * i) (bytes_of es ++ zs) ≡ entry_bytes (get_or es i d) ++ rest)
unfolding bytes_of
drop-entries [] zs i d below = absurd (omega (arith, below))
drop-entries (e ∷ es) zs zero d below =
    (bytes_of es ++ zs, append_assoc (entry_bytes e) (bytes_of es) zs)
drop-entries (e ∷ es) zs (suc i) d below =
    let later = drop-entries es zs i d (omega (arith, below)) in
    let steps : 16 * suc i ≡ 16 + 16 * i = omega arith in (
      later.0,
      ap (λ (n : ℕ). drop n (entry_bytes e ++ bytes_of es ++ zs)) steps
          ∙ sym (drop-drop (16 * i) 16 (entry_bytes e ++ bytes_of es ++ zs))
          ∙ ap (λ (l : List ℕ). drop (16 * i) (drop 16 l))
          (append_assoc (entry_bytes e) (bytes_of es) zs)
          ∙ ap (drop (16 * i))
          (drop_at (entry_bytes e) (bytes_of es ++ zs) 16 (length-entry_bytes e))
          ∙ later.1,
    )

-- an entry that was written is read
pub entry_at-bytes : (size : ℕ) (es : List Exception) (i : ℕ) (d : Exception)
    → i < length es
    → FitsEntry (get_or es i d)
    → entry_at (area_bytes size es) i ≡ get_or es i d
unfolding entry_at
entry_at-bytes size es i d below fits =
    let zs = replicate (size - 16 * length es) 0 in
    let e = get_or es i d in
    let old = to_le_bytes w64 e.old_chunk in
    let new = to_le_bytes w64 e.new_chunk in
    let from = drop-entries es zs i d below in
    let first : field (area_bytes size es) (16 * i) 8 ≡ old =
    ap (take 8) (from.1 ∙ append_assoc old new from.0) ∙ take_at old (new ++ from.0) 8 refl in
    let second : field (area_bytes size es) (16 * i + 8) 8 ≡ new =
    ap (take 8)
    (sym (drop-drop 8 (16 * i) (area_bytes size es))
    ∙ ap (drop 8) (from.1 ∙ append_assoc old new from.0)
    ∙ drop_at old (new ++ from.0) 8 refl)
    ∙ take_at new from.0 8 refl in
    let is_old = ap (from_le_bytes w64) first
    ∙ from_le_bytes-to_le_bytes_8 e.old_chunk fits.old_chunk in
    let is_new = ap (from_le_bytes w64) second
    ∙ from_le_bytes-to_le_bytes_8 e.new_chunk fits.new_chunk in
    (λ j. record { old_chunk = is_old j; new_chunk = is_new j })

-- behind them the list ends
pub entry_at-end : (size : ℕ) (es : List Exception)
    → 16 * length es + 16 ≤ size
    → (entry_at (area_bytes size es) (length es)).new_chunk ≡ 0
unfolding entry_at
entry_at-end size es room =
    let n = length es in
    let m = size - 16 * n in
    let zeros : field (area_bytes size es) (16 * n + 8) 8 ≡ replicate 8 0 =
    ap (take 8)
    (sym (drop-drop 8 (16 * n) (area_bytes size es))
    ∙ ap (drop 8) (drop_at (bytes_of es) (replicate m 0) (16 * n) (length-bytes_of es))
    ∙ drop-replicate 8 m 0)
    ∙ take-replicate 8 (m - 8) 0 (omega (arith, room)) in
    ap (from_le_bytes w64) zeros

-- where no entry ends the list, what is written is read back
pub area_of-bytes : (size count : ℕ) (es : List Exception)
    → 16 * count ≤ size
    → length es ≤ count
    → AllListed es
    → All FitsEntry es
    → area_of count (area_bytes size es) ≡ es
area_of-bytes size count es room few all fit =
    let none : Exception = record { old_chunk = 0; new_chunk = 0 } in
    let f : ℕ → Exception = entry_at (area_bytes size es) in
    let reads : (i : ℕ) → i < length es → f i ≡ get_or es i none =
    λ i below. entry_at-bytes size es i none below (fit i none below) in
    let ends : EndsAt f (length es) count = record {
      within = few;
      before = λ i below. subst IsListed (sym (reads i below)) (all i none below);
      here = λ below. entry_at-end size es (omega (arith, room, below));
    } in
    listed_is f (length es) count ends ∙ firsts_is f es none reads

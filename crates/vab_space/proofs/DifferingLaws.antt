-- The chunks that differ.
use Rattle.std.proofs.Common.{◌≡◌, ℕ, zero, suc, ◌+◌, ◌*◌, ◌<◌, ◌≤◌, Bool, true, false, cond}
use Rattle.std.proofs.Common.{◌&&◌, ◌||◌, nat_lt, List, [], ◌∷◌, ◌++◌, length, inl, inr, refl, sym}
use Rattle.std.proofs.Common.{ap, ◌∙◌, subst, arith, not, append-nil, length-append, All}
use Rattle.std.proofs.Common.{Contains, filter}
use Rattle.std.specs.List.{range_with_len}
use Rattle.std.specs.List.Sorted.{IsStrictlyIncreasing}
use Rattle.std.proofs.lemmas.Bool.{cases_lt, lt-ltb, le-ltb, and_from, and_left, and_right}
use Rattle.std.proofs.lemmas.Bool.{or_from, or_left, or_right, false_from_ne_true}
use Rattle.std.proofs.lemmas.List.Elements.{filter-append, All-filter}
use Rattle.std.proofs.lemmas.List.Filters.{length-filter_both}
use Rattle.std.proofs.lemmas.List.FromFn.{length-range_with_len, get_or-range_with_len}
use Rattle.std.proofs.lemmas.List.Kept.{IsStrictlyIncreasing-filter}
use Rattle.std.proofs.Math.ListN.{get_or-append}
use Rattle.std.proofs.Math.Seq.{get_or-append_seam}
use Rattle.vab_space.specs.declared.Chunk.{Chunk}
use Rattle.vab_space.specs.declared.Chunk.TheVariants.{One, Two, Four}
use Rattle.vab_space.specs.Space.{need_of}
use Rattle.vab_space.specs.Chunks.{blocks_in, block_in, chunk_at, place_in, chunks_for, need_at}
use Rattle.vab_space.specs.Differing.{any_differs, chunk_differs, differing_chunks}
use Rattle.vab_space.proofs.ChunkLaws.{block_is, place_below, chunk_below}

-- ---- the numbers below n that pass a test

abbrev pub passing : (ℕ → Bool) → ℕ → List ℕ
passing test n = filter test (range_with_len 0 n)

range_more : (a n : ℕ) → range_with_len a (suc n) ≡ range_with_len a n ++ (a + n) ∷ []
range_more a zero = ap (λ (k : ℕ). k ∷ []) (omega arith)
range_more a (suc n) =
    let one : (a + 1) + n ≡ a + suc n = omega arith in
    ap (λ (l : List ℕ). a ∷ l) (range_more (a + 1) n)
    ∙ ap (λ (k : ℕ). a ∷ (range_with_len (a + 1) n ++ k ∷ [])) one

-- one number more
pub passing_more : (test : ℕ → Bool) (n : ℕ)
    → passing test (n + 1) ≡ passing test n ++ cond (test n) (n ∷ []) []
passing_more test n =
    let one : n + 1 ≡ suc n = omega arith in
    let last : 0 + n ≡ n = omega arith in
    ap (λ (k : ℕ). filter test (range_with_len 0 k)) one
    ∙ ap (filter test) (range_more 0 n)
    ∙ ap (λ (k : ℕ). filter test (range_with_len 0 n ++ k ∷ [])) last
    ∙ filter-append test (range_with_len 0 n) (n ∷ [])

pub passing_true : (test : ℕ → Bool) (n : ℕ)
    → test n ≡ true
    → passing test (n + 1) ≡ passing test n ++ n ∷ []
passing_true test n is =
    passing_more test n ∙ ap (λ (t : Bool). passing test n ++ cond t (n ∷ []) []) is

pub passing_false : (test : ℕ → Bool) (n : ℕ)
    → test n ≡ false
    → passing test (n + 1) ≡ passing test n
passing_false test n is =
    passing_more test n
    ∙ ap (λ (t : Bool). passing test n ++ cond t (n ∷ []) []) is
    ∙ append-nil (passing test n)

range_ascends : (n : ℕ) → IsStrictlyIncreasing (range_with_len 0 n)
range_ascends n k below =
    let long : length (range_with_len 0 n) ≡ n = length-range_with_len 0 n in
    omega (
      arith,
      get_or-range_with_len 0 n k 0 (omega (arith, below, long)),
      get_or-range_with_len 0 n (k + 1) 0 (omega (arith, below, long)),
    )

pub passing_ascends : (test : ℕ → Bool) (n : ℕ) → IsStrictlyIncreasing (passing test n)
passing_ascends test n = IsStrictlyIncreasing-filter test (range_with_len 0 n) (range_ascends n)

range_below : (n : ℕ) → All (λ k. k < n) (range_with_len 0 n)
range_below n k d below =
    let long : length (range_with_len 0 n) ≡ n = length-range_with_len 0 n in
    let lt : k < n = omega (arith, below, long) in
    omega (arith, get_or-range_with_len 0 n k d lt, lt)

pub passing_below : (test : ℕ → Bool) (n : ℕ) → All (λ k. k < n) (passing test n)
passing_below test n = All-filter test (λ (k : ℕ). k < n) (range_with_len 0 n) (range_below n)

pub passing_most : (test : ℕ → Bool) (n : ℕ) → length (passing test n) ≤ n
passing_most test n =
    omega (
      arith,
      length-filter_both test (λ k. not (test k)) (λ k. refl) (range_with_len 0 n),
      length-range_with_len 0 n,
    )

same_from : (p q : ℕ → Bool) (a n : ℕ)
    → ((c : ℕ) → c < a + n → p c ≡ q c)
    → filter p (range_with_len a n) ≡ filter q (range_with_len a n)
same_from p q a zero same = refl
same_from p q a (suc n) same =
    let here : p a ≡ q a = same a (omega arith) in
    let rest : filter p (range_with_len (a + 1) n) ≡ filter q (range_with_len (a + 1) n) =
    same_from p q (a + 1) n (λ c below. same c (omega (arith, below))) in
    (λ i. cond (here i) (a ∷ rest i) (rest i))

-- tests that agree below n
pub passing_same : (p q : ℕ → Bool) (n : ℕ)
    → ((c : ℕ) → c < n → p c ≡ q c)
    → passing p n ≡ passing q n
passing_same p q n same = same_from p q 0 n (λ c below. same c (omega (arith, below)))

-- ---- a number that passes stands in the list

contains_left : (xs ys : List ℕ) (x : ℕ) → Contains xs x → Contains (xs ++ ys) x
contains_left xs ys x has = (
  has.0,
  omega (arith, has.1, length-append xs ys),
  get_or-append xs ys x has.0 has.1 ∙ has.2,
)

contains_last : (xs : List ℕ) (x : ℕ) → Contains (xs ++ x ∷ []) x
contains_last xs x = (
  length xs,
  omega (arith, length-append xs (x ∷ [])),
  get_or-append_seam xs x [] x,
)

pub passing_has : (test : ℕ → Bool) (n c : ℕ)
    → c < n
    → test c ≡ true
    → Contains (passing test n) c
passing_has test zero c below passes = absurd (omega (arith, below))
passing_has test (suc n) c below passes =
    let next : ℕ → List ℕ = λ k. cond (test k) (k ∷ []) [] in
    let one : suc n ≡ n + 1 = omega arith in
    let more : passing test (suc n) ≡ passing test n ++ next n =
    ap (passing test) one ∙ passing_more test n in
    elim (cases_lt c n) [
      | inl earlier ↦
          subst (λ (l : List ℕ). Contains l c) (sym more)
          (contains_left (passing test n) (next n) c (passing_has test n c earlier passes))
      | inr last ↦
          let here : n ≡ c = omega (arith, last, below) in
          let shown : next n ≡ c ∷ [] =
          ap next here ∙ ap (λ (t : Bool). cond t (c ∷ []) []) passes in
          subst (λ (l : List ℕ). Contains l c)
          (sym (more ∙ ap (λ (l : List ℕ). passing test n ++ l) shown))
          (contains_last (passing test n) c)
    ]

-- ---- a chunk that differs

seen_differs : (differs : ℕ → Bool) (blocks b : ℕ)
    → b < blocks
    → differs b ≡ true
    → (nat_lt b blocks && differs b) ≡ true
seen_differs differs blocks b below is =
    and_from (nat_lt b blocks) (differs b) (lt-ltb b blocks below) is

seen_same : (differs : ℕ → Bool) (blocks b : ℕ)
    → (b < blocks → differs b ≡ false)
    → (nat_lt b blocks && differs b) ≡ false
seen_same differs blocks b same = elim (cases_lt b blocks) [
  | inl below ↦ and_right (nat_lt b blocks) (differs b) (same below)
  | inr behind ↦ and_left (nat_lt b blocks) (differs b) (le-ltb b blocks behind)
]

-- where a block of it does
pub chunk_some : (k : Chunk) (differs : ℕ → Bool) (blocks c r : ℕ)
    → r < blocks_in k
    → block_in k c r < blocks
    → differs (block_in k c r) ≡ true
    → chunk_differs k differs blocks c ≡ true
chunk_some One differs blocks c r inside below is = is
chunk_some Two differs blocks c zero inside below is =
    or_left _ _ (seen_differs differs blocks (2 * c) (omega (arith, below))
    (subst (λ (b : ℕ). differs b ≡ true) (omega arith) is))
chunk_some Two differs blocks c (suc zero) inside below is =
    or_right (nat_lt (2 * c) blocks && differs (2 * c)) _
    (or_left _ _ (seen_differs differs blocks (2 * c + 1) below is))
chunk_some Two differs blocks c (suc (suc r)) inside below is = absurd (omega (arith, inside))
chunk_some Four differs blocks c zero inside below is =
    or_left _ _ (seen_differs differs blocks (4 * c) (omega (arith, below))
    (subst (λ (b : ℕ). differs b ≡ true) (omega arith) is))
chunk_some Four differs blocks c (suc zero) inside below is =
    or_right (nat_lt (4 * c) blocks && differs (4 * c)) _
    (or_left _ _ (seen_differs differs blocks (4 * c + 1) below is))
chunk_some Four differs blocks c (suc (suc zero)) inside below is =
    or_right (nat_lt (4 * c) blocks && differs (4 * c)) _
    (or_right (nat_lt (4 * c + 1) blocks && differs (4 * c + 1)) _
    (or_left _ _ (seen_differs differs blocks (4 * c + 2) below is)))
chunk_some Four differs blocks c (suc (suc (suc zero))) inside below is =
    or_right (nat_lt (4 * c) blocks && differs (4 * c)) _
    (or_right (nat_lt (4 * c + 1) blocks && differs (4 * c + 1)) _
    (or_right (nat_lt (4 * c + 2) blocks && differs (4 * c + 2)) _
    (or_left _ _ (seen_differs differs blocks (4 * c + 3) below is))))
chunk_some Four differs blocks c (suc (suc (suc (suc r)))) inside below is =
    absurd (omega (arith, inside))

-- where none does
pub chunk_none : (k : Chunk) (differs : ℕ → Bool) (blocks c : ℕ)
    → c < chunks_for k blocks
    → ((r : ℕ) → r < blocks_in k → block_in k c r < blocks → differs (block_in k c r) ≡ false)
    → chunk_differs k differs blocks c ≡ false
chunk_none One differs blocks c within same = same 0 (omega arith) within
chunk_none Two differs blocks c within same =
    let first : 2 * c + 0 ≡ 2 * c = omega arith in
    or_from _ _
    (seen_same differs blocks (2 * c)
    (λ below. ap differs (sym first) ∙ same 0 (omega arith) (omega (arith, below))))
    (or_from _ _ (seen_same differs blocks (2 * c + 1) (same 1 (omega arith))) refl)
chunk_none Four differs blocks c within same =
    let first : 4 * c + 0 ≡ 4 * c = omega arith in
    or_from _ _
    (seen_same differs blocks (4 * c)
    (λ below. ap differs (sym first) ∙ same 0 (omega arith) (omega (arith, below))))
    (or_from _ _ (seen_same differs blocks (4 * c + 1) (same 1 (omega arith)))
    (or_from _ _ (seen_same differs blocks (4 * c + 2) (same 2 (omega arith)))
    (or_from _ _ (seen_same differs blocks (4 * c + 3) (same 3 (omega arith))) refl)))

-- the chunk of a block that differs
pub chunk_of_block : (k : Chunk) (differs : ℕ → Bool) (blocks b : ℕ)
    → b < blocks
    → differs b ≡ true
    → chunk_differs k differs blocks (chunk_at k b) ≡ true
chunk_of_block k differs blocks b below is =
    let same = block_is k b in
    chunk_some k differs blocks (chunk_at k b) (place_in k b) (place_below k b)
    (omega (arith, same, below)) (ap differs same ∙ is)

seen_either : (p q : ℕ → Bool) (blocks b : ℕ)
    → ((b : ℕ) → b < blocks → p b ≡ q b)
    → (nat_lt b blocks && p b) ≡ (nat_lt b blocks && q b)
seen_either p q blocks b same = elim (cases_lt b blocks) [
  | inl below ↦ ap (λ (t : Bool). nat_lt b blocks && t) (same b below)
  | inr behind ↦
      let past = le-ltb b blocks behind in
      and_left (nat_lt b blocks) (p b) past ∙ sym (and_left (nat_lt b blocks) (q b) past)
]

any_same : (p q : ℕ → Bool) (blocks : ℕ) (bs : List ℕ)
    → ((b : ℕ) → b < blocks → p b ≡ q b)
    → any_differs p blocks bs ≡ any_differs q blocks bs
any_same p q blocks [] same = refl
any_same p q blocks (b ∷ bs) same =
    (λ i. seen_either p q blocks b same i || any_same p q blocks bs same i)

chunk_same : (k : Chunk) (p q : ℕ → Bool) (blocks c : ℕ)
    → c < chunks_for k blocks
    → ((b : ℕ) → b < blocks → p b ≡ q b)
    → chunk_differs k p blocks c ≡ chunk_differs k q blocks c
chunk_same One p q blocks c within same = same c within
chunk_same Two p q blocks c within same =
    any_same p q blocks ((2 * c) ∷ (2 * c + 1) ∷ []) same
chunk_same Four p q blocks c within same =
    any_same p q blocks ((4 * c) ∷ (4 * c + 1) ∷ (4 * c + 2) ∷ (4 * c + 3) ∷ []) same

-- ---- the chunks that differ

-- Tests that agree on the image's blocks give the same chunks.
pub differing_same : (k : Chunk) (p q : ℕ → Bool) (blocks : ℕ)
    → ((b : ℕ) → b < blocks → p b ≡ q b)
    → differing_chunks k p blocks ≡ differing_chunks k q blocks
unfolding differing_chunks
differing_same k p q blocks same =
    passing_same (chunk_differs k p blocks) (chunk_differs k q blocks) (chunks_for k blocks)
    (λ c within. chunk_same k p q blocks c within same)

pub differing_is : (k : Chunk) (differs : ℕ → Bool) (blocks : ℕ)
    → differing_chunks k differs blocks
    ≡ passing (chunk_differs k differs blocks) (chunks_for k blocks)
unfolding differing_chunks
differing_is k differs blocks = refl

pub differing_ascends : (k : Chunk) (differs : ℕ → Bool) (blocks : ℕ)
    → IsStrictlyIncreasing (differing_chunks k differs blocks)
unfolding differing_chunks
differing_ascends k differs blocks =
    passing_ascends (chunk_differs k differs blocks) (chunks_for k blocks)

pub differing_below : (k : Chunk) (differs : ℕ → Bool) (blocks : ℕ)
    → All (λ c. c < chunks_for k blocks) (differing_chunks k differs blocks)
unfolding differing_chunks
differing_below k differs blocks =
    passing_below (chunk_differs k differs blocks) (chunks_for k blocks)

pub chunks_fewest : (k : Chunk) (blocks : ℕ) → chunks_for k blocks ≤ blocks
chunks_fewest One blocks = omega arith
chunks_fewest Two blocks = omega arith
chunks_fewest Four blocks = omega arith

pub differing_most : (k : Chunk) (differs : ℕ → Bool) (blocks : ℕ)
    → length (differing_chunks k differs blocks) ≤ blocks
unfolding differing_chunks
differing_most k differs blocks =
    omega (
      arith,
      passing_most (chunk_differs k differs blocks) (chunks_for k blocks),
      chunks_fewest k blocks,
    )

-- The chunk of each block that differs is one of them.
pub differing_has : (k : Chunk) (differs : ℕ → Bool) (blocks b : ℕ)
    → b < blocks
    → differs b ≡ true
    → Contains (differing_chunks k differs blocks) (chunk_at k b)
unfolding differing_chunks
differing_has k differs blocks b below is =
    passing_has (chunk_differs k differs blocks) (chunks_for k blocks) (chunk_at k b)
    (chunk_below k blocks b below) (chunk_of_block k differs blocks b below is)

-- So a block of any other chunk doesn't differ.
pub differing_lacks : (k : Chunk) (differs : ℕ → Bool) (blocks b : ℕ)
    → b < blocks
    → (Contains (differing_chunks k differs blocks) (chunk_at k b) → ⊥)
    → differs b ≡ false
differing_lacks k differs blocks b below lacks =
    false_from_ne_true (differs b) (λ is. lacks (differing_has k differs blocks b below is))

-- ---- with chunks of one block

pub need_one : (n : ℕ) → need_at n One ≡ need_of n
need_one n = refl

pub differing_one : (differs : ℕ → Bool) (blocks : ℕ)
    → differing_chunks One differs blocks ≡ filter differs (range_with_len 0 blocks)
unfolding differing_chunks
differing_one differs blocks = refl

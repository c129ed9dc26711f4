-- Laws of lists of blocks.
use Rattle.std.proofs.Common.{leb, ltb, ◌≡◌, ℕ, suc, ◌+◌, ◌-◌, ◌*◌, ◌<◌, ◌≤◌, Bool, true}
use Rattle.std.proofs.Common.{false, cond, not, eqb, List, [], ◌∷◌, ◌++◌, length, get_or, take}
use Rattle.std.proofs.Common.{drop, refl, sym, ap, subst, ◌∙◌, inl, inr, arith}
use Rattle.std.specs.Prelude.{◌↔◌, All, Any, Contains}
use Rattle.std.specs.List.{flat_map, filter, list_any, range_with_len}
use Rattle.std.specs.List.Sorted.{IsStrictlyIncreasing}
use Rattle.std.specs.Str.{bytes_eq}
use Rattle.std.proofs.lemmas.Bool.{ltb-true, lt-ltb, leb-true, cases_lt, cases_eq, cases_Bool}
use Rattle.std.proofs.lemmas.Bool.{eqb-true, eq-eqb, both_ways, not-true, not_from_false}
use Rattle.std.proofs.lemmas.List.{append-nil, length-take, get_or-take, get_or_default}
use Rattle.std.proofs.lemmas.List.Elements.{All-contains, All-filter, All-contains_itself, All-take}
use Rattle.std.proofs.lemmas.List.Elements.{All-drop, filter_passes, filter-append}
use Rattle.std.proofs.lemmas.List.Elements.{Contains-append_cases}
use Rattle.std.proofs.lemmas.List.Folds.{list_any_at, Any-from_list_any}
use Rattle.std.proofs.lemmas.List.FromFn.{length-range_with_len, get_or-range_with_len}
use Rattle.std.proofs.lemmas.List.Kept.{AllPairs-from_increasing, IsStrictlyIncreasing-filter}
use Rattle.std.proofs.lemmas.Slice.Eq.{bytes_eq-Decides}
use Rattle.vab_tables.specs.declared.entries.Partition.{Partition}
use Rattle.vab_tables.specs.declared.entries.Extent.{Extent}
use Rattle.vab_tables.specs.declared.entries.BlockDevice.{BlockDevice}
use Rattle.vab_tables.specs.declared.table.Table.{Table}
use Rattle.vab_tables.specs.Rules.{cap_of, IsDevice, IsExtent, KeepsRules}
use Rattle.vab_blocks.proofs.Ascending.{range_ascends}
use Rattle.vab_blocks.proofs.RunLaws.{range_push}
use Rattle.vab_blocks.specs.Blocks.{first_sector_of_devices, first_sector_of, Covers, extents_of}
use Rattle.vab_blocks.specs.Blocks.{HasBlock, is_among, blocks_of_extent, blocks_of_named}
use Rattle.vab_blocks.specs.Blocks.{blocks_of, free_below}
use Rattle.vab_blocks.proofs.Contained.{in_filter, in_piece}

-- ---- lists that ascend

pub ascending_le : (xs : List ℕ) → IsStrictlyIncreasing xs → (i j : ℕ) → i ≤ j → j < length xs
    → get_or xs i 0 ≤ get_or xs j 0
ascending_le xs up i j le lt = elim (cases_eq i j) [
  | inl e ↦ rw e (omega arith)
  | inr ne ↦ let lower : i < j = omega (arith, ne, le) in
      omega (arith, AllPairs-from_increasing xs up i j 0 lower lt)
]

-- ---- what is listed

pub listed_once : (xs : List ℕ) (b : ℕ) → list_any (λ x. eqb x b) xs ≡ true → Contains xs b
listed_once xs b h =
    let a = Any-from_list_any (λ x. eqb x b) xs h in
    (a.0, a.2, subst (λ (y : ℕ). get_or xs a.0 y ≡ y) (eqb-true a.1 b a.4) a.3)

pub listed_then : (xs : List ℕ) (b : ℕ) → Contains xs b → list_any (λ x. eqb x b) xs ≡ true
listed_then xs b c = list_any_at (λ x. eqb x b) xs c.0 b c.1 (eq-eqb _ _ c.2)

pub in_range : (a n b : ℕ) → Contains (range_with_len a n) b → (a ≤ b) × (b < a + n)
in_range a n b c =
    let lt : c.0 < n = omega (arith, c.1, length-range_with_len a n) in
    let is : get_or (range_with_len a n) c.0 b ≡ a + c.0 = get_or-range_with_len a n c.0 b lt in
    let e : get_or (range_with_len a n) c.0 b ≡ b = c.2 in
    (omega (arith, is, e), omega (arith, is, e, lt))

pub of_range : (a n b : ℕ) → a ≤ b → b < a + n → Contains (range_with_len a n) b
of_range a n b low high =
    let lt : b - a < n = omega arith in
    let len = length-range_with_len a n in
    let is = get_or-range_with_len a n (b - a) b lt in
    (b - a, omega (arith, len, lt), omega (arith, is, low))

-- ---- the lowest

-- what stands in the front of a list that ascends is below all else in it
pub lowest : (xs : List ℕ) (n x y : ℕ) → IsStrictlyIncreasing xs → Contains (take n xs) x
    → Contains xs y → ¬ Contains (take n xs) y → x < y
lowest xs n x y up front all behind =
    let i = front.0 in
    let j = all.0 in
    let len = length-take n xs in
    let ln : i < n = omega (arith, len, front.1) in
    let li : i < length xs = omega (arith, len, front.1) in
    let lj : j < length xs = all.1 in
    let x-is : get_or xs i 0 ≡ x = get_or_default xs i 0 x li ∙ sym (get_or-take n xs i x ln)
    ∙ front.2 in
    let y-is : get_or xs j 0 ≡ y = get_or_default xs j 0 y lj ∙ all.2 in
    let apart : i < j = elim (cases_lt j n) [
      | inl before ↦
          absurd (behind (j, omega (arith, len, lj, before), get_or-take n xs j y before ∙ all.2))
      | inr after ↦ omega (arith, ln, after)
    ] in
    rw (← x-is, ← y-is) (AllPairs-from_increasing xs up i j 0 apart lj)

-- ---- free blocks

pub free_ascends : (cap : ℕ) (taken : List ℕ) → IsStrictlyIncreasing (free_below cap taken)
unfolding free_below
free_ascends cap taken = IsStrictlyIncreasing-filter _ (range_with_len 0 cap) (range_ascends 0 cap)

-- free are the numbers below the bound that are not taken
pub is_free : (cap : ℕ) (taken : List ℕ) (b : ℕ)
    → Contains (free_below cap taken) b ↔ ((b < cap) × ¬ Contains taken b)
unfolding free_below
is_free cap taken b =
    let p : ℕ → Bool = λ block. not (list_any (λ x. eqb x block) taken) in
    let all : List ℕ = range_with_len 0 cap in (
      λ c.
          let passes : p b ≡ true =
          All-contains (λ x. p x ≡ true) (filter p all) b (filter_passes p all) c in
          let listed : Contains all b =
          All-contains (Contains all) (filter p all) b
          (All-filter p (Contains all) all (All-contains_itself all)) c in
          let r = in_range 0 cap b listed in (
            omega (arith, r.1),
            λ t. both_ways (list_any (λ x. eqb x b) taken) (not-true _ passes)
                (listed_then taken b t),
          ),
      λ h. in_filter p all b (of_range 0 cap b (omega arith) (omega (arith, h.0)))
          (elim (cases_Bool (list_any (λ x. eqb x b) taken)) [
            | inl t ↦ absurd (h.1 (listed_once taken b t))
            | inr f ↦ not_from_false _ f
          ]),
    )

-- one more number of a range
pub range_more : (a b : ℕ) → a ≤ b
    → range_with_len a (b + 1 - a) ≡ range_with_len a (b - a) ++ b ∷ []
range_more a b le =
    let k : b + 1 - a ≡ b - a + 1 = omega arith in
    let e : a + (b - a) ≡ b = omega arith in
    ap (range_with_len a) k ∙ range_push a (b - a)
    ∙ ap (λ (x : ℕ). range_with_len a (b - a) ++ x ∷ []) e

pub free_none : (taken : List ℕ) → free_below 0 taken ≡ []
unfolding free_below
free_none taken = refl

pub free_more : (cap : ℕ) (taken : List ℕ)
    → free_below (cap + 1) taken ≡ free_below cap taken
    ++ cond (not (list_any (λ x. eqb x cap) taken)) (cap ∷ []) []
unfolding free_below
free_more cap taken =
    let p : ℕ → Bool = λ block. not (list_any (λ x. eqb x block) taken) in
    let e : 0 + cap ≡ cap = omega arith in
    ap (filter p) (range_push 0 cap) ∙ filter-append p (range_with_len 0 cap) ((0 + cap) ∷ [])
    ∙ ap (λ (x : ℕ). filter p (range_with_len 0 cap) ++ filter p (x ∷ [])) e

pub free_taken : (cap : ℕ) (taken : List ℕ) → list_any (λ x. eqb x cap) taken ≡ true
    → free_below (cap + 1) taken ≡ free_below cap taken
free_taken cap taken h =
    let none : cond (not (list_any (λ x. eqb x cap) taken)) (cap ∷ []) [] ≡ [] = rw h refl in
    free_more cap taken ∙ ap (λ (l : List ℕ). free_below cap taken ++ l) none
    ∙ append-nil (free_below cap taken)

-- ---- blocks of a table

pub some_piece : {X A : Type 0} (f : X → List A) (xs : List X) (y : A) → Contains (flat_map f xs) y
    → Any (λ x. Contains (f x) y) xs
some_piece f [] y c = absurd (omega (arith, c.1))
some_piece f (x ∷ xs) y c = elim (Contains-append_cases (f x) (flat_map f xs) y c) [
  | inl h ↦ (0, x, omega arith, refl, h)
  | inr t ↦ let a = some_piece f xs y t in (suc a.0, a.1, omega (arith, a.2), a.3, a.4)
]

covered : (d : BlockDevice) (e : Extent) (b : ℕ) → IsDevice d → IsExtent d e
    → Contains (blocks_of_extent d.first_logical_sector e) b → Covers d.first_logical_sector e b
covered d e b device extent c =
    let r = in_range _ _ b c in (
      omega (arith, r.0, device.aligned, extent.aligned, extent.whole, extent.above),
      omega
          (arith, r.1, device.aligned, extent.aligned, extent.whole, extent.above),
    )

covering : (d : BlockDevice) (e : Extent) (b : ℕ) → IsDevice d → IsExtent d e
    → Covers d.first_logical_sector e b → Contains (blocks_of_extent d.first_logical_sector e) b
covering d e b device extent c =
    of_range _ _ b (omega (arith, c.0, device.aligned, extent.aligned, extent.above))
    (omega (arith, c.1, device.aligned, extent.aligned, extent.whole, extent.above))

among : (names : List (List ℕ)) (name : List ℕ) → is_among names name ≡ true → Contains names name
among names name h =
    let a = Any-from_list_any (λ other. bytes_eq other name) names h in (
      a.0,
      a.2,
      subst (λ (y : List ℕ). get_or names a.0 y ≡ y) ((bytes_eq-Decides a.1 name).0 a.4)
          a.3,
    )

is_in : (names : List (List ℕ)) (name : List ℕ) → Contains names name → is_among names name ≡ true
is_in names name c =
    list_any_at (λ other. bytes_eq other name) names c.0 name c.1 ((bytes_eq-Decides _ name).1 c.2)

only_if : {X : Type 0} (b : Bool) (xs : List X) (y : X) → Contains (cond b xs []) y
    → (b ≡ true) × Contains xs y
only_if true xs y c = (refl, c)
only_if false xs y c = absurd (omega (arith, c.1))

if_so : {X : Type 0} (b : Bool) (xs : List X) (y : X) → b ≡ true → Contains xs y
    → Contains (cond b xs []) y
if_so b xs y h c = rw h c

-- the blocks of the named partitions are those that they have
pub has_block : (t : Table) (names : List (List ℕ)) (b : ℕ) → KeepsRules t
    → Contains (blocks_of t names) b ↔ HasBlock t names b
unfolding HasBlock
has_block t names b keeps =
    let d : BlockDevice = keeps.device in
    let at : first_sector_of t ≡ d.first_logical_sector =
    ap first_sector_of_devices keeps.one_device in
    let f : Extent → List ℕ = blocks_of_extent (first_sector_of t) in
    let rules : (p : Partition)
    → All (IsExtent d) (extents_of t p) =
    λ p. All-take (IsExtent d) p.extent_count (drop p.first_extent t.extents)
    (All-drop (IsExtent d) p.first_extent t.extents keeps.extents) in (
      λ c.
          let a = some_piece (blocks_of_named t names) t.partitions b c in
          let p : Partition = a.1 in
          let o = only_if (is_among names p.name) (flat_map f (extents_of t p)) b a.4 in
          let e = some_piece f (extents_of t p) b o.1 in
          let is = All-contains (IsExtent d) (extents_of t p) e.1 (rules p) (e.0, e.2, e.3) in
          let piece = subst (λ (s : ℕ). Contains (blocks_of_extent s e.1) b) at e.4 in
          let covers =
          subst (λ (s : ℕ). Covers s e.1 b) (sym at)
          (covered d e.1 b keeps.device_rule is piece) in
          (a.0, p, a.2, a.3, (among names p.name o.0, (e.0, e.1, e.2, e.3, covers))),
      λ h.
          let p : Partition = h.1 in
          let e = h.4.1 in
          let is = All-contains (IsExtent d) (extents_of t p) e.1 (rules p) (e.0, e.2, e.3) in
          let covers = subst (λ (s : ℕ). Covers s e.1 b) at e.4 in
          let piece =
          subst (λ (s : ℕ). Contains (blocks_of_extent s e.1) b) (sym at)
          (covering d e.1 b keeps.device_rule is covers) in
          let inner = in_piece f (extents_of t p) e.1 b (e.0, e.2, e.3) piece in
          in_piece (blocks_of_named t names) t.partitions p b (h.0, h.2, h.3)
          (if_so _ _ b (is_in names p.name h.4.0) inner),
    )

-- the blocks that partitions have lie on the device
pub has_block_below : (t : Table) (names : List (List ℕ)) (b : ℕ) (keeps : KeepsRules t)
    → HasBlock t names b → b < cap_of keeps.device
unfolding HasBlock
has_block_below t names b keeps h =
    let d : BlockDevice = keeps.device in
    let at : first_sector_of t ≡ d.first_logical_sector =
    ap first_sector_of_devices keeps.one_device in
    let p : Partition = h.1 in
    let e = h.4.1 in
    let all =
    All-take (IsExtent d) p.extent_count (drop p.first_extent t.extents)
    (All-drop (IsExtent d) p.first_extent t.extents keeps.extents) in
    let is = All-contains (IsExtent d) (extents_of t p) e.1 all (e.0, e.2, e.3) in
    let covers = subst (λ (s : ℕ). Covers s e.1 b) at e.4 in
    let end : e.1.first_sector + e.1.sectors ≤ d.first_logical_sector + 8 * cap_of d = is.below in
    omega (arith, covers.1, end)

-- ---- tests

-- a test that passes exactly where the number is among these
pub test_is : (t : Bool) (xs : List ℕ) (b : ℕ)
    → (t ≡ true → Contains xs b)
    → (Contains xs b → t ≡ true)
    → t ≡ list_any (λ x. eqb x b) xs
test_is t xs b there only = elim (cases_Bool t) [
  | inl pass ↦ pass ∙ sym (listed_then xs b (there pass))
  | inr fail ↦ elim (cases_Bool (list_any (λ x. eqb x b) xs)) [
    | inl listed ↦ absurd (both_ways t fail (only (listed_once xs b listed)))
    | inr other ↦ fail ∙ sym other
  ]
]

pub at_run : (f c b : ℕ)
    → f ≤ b
    → ltb (b - f) c ≡ list_any (λ x. eqb x b) (range_with_len f c)
at_run f c b low =
    test_is (ltb (b - f) c) (range_with_len f c) b
    (λ t. of_range f c b low (omega (arith, low, ltb-true _ _ t)))
    (λ there. lt-ltb _ _ (omega (arith, low, (in_range f c b there).1)))

pub before_run : (f c b : ℕ)
    → b < f
    → leb f b ≡ list_any (λ x. eqb x b) (range_with_len f c)
before_run f c b low =
    test_is (leb f b) (range_with_len f c) b
    (λ t. absurd (omega (arith, low, leb-true _ _ t)))
    (λ there. absurd (omega (arith, low, (in_range f c b there).0)))

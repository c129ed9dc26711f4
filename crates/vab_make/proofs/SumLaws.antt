-- The blocks of the first images of a set.
use Rattle.std.proofs.Common.{◌≡◌, ℕ, zero, suc, ◌+◌, ◌*◌, ◌<◌, ◌≤◌, ◌^◌, List, [], ◌∷◌, ◌++◌}
use Rattle.std.proofs.Common.{length, get_or, take, refl, sym, ap, ◌∙◌, arith, add-one}
use Rattle.std.specs.Prelude.{All}
use Rattle.std.proofs.lemmas.List.Sums.{sum_by-cons}
use Rattle.std.proofs.lemmas.List.Elements.{All-head, All-tail}
use Rattle.vab_space.specs.Space.{blocks_of}
use Rattle.vab_set.specs.declared.set.SetImage.{SetImage}
use Rattle.vab_set.specs.Spelling.{IsImage}
use Rattle.vab_layout.specs.declared.layout.Part.{Part}
use Rattle.vab_make.specs.Made.{parts_from, set_blocks}
use Rattle.vab_make.proofs.LayoutLaws.{part_at}

cons : (x : SetImage) (xs : List SetImage) → set_blocks (x ∷ xs) ≡ blocks_of x.size + set_blocks xs
cons x xs = sum_by-cons (λ (y : SetImage). blocks_of y.size) x xs

-- one image more
pub blocks_more : (set : List SetImage) (i : ℕ) (d : SetImage)
    → i < length set
    → set_blocks (take (suc i) set) ≡ set_blocks (take i set) + blocks_of (get_or set i d).size
blocks_more [] i d lt = absurd (omega (arith, lt))
blocks_more (x ∷ xs) zero d lt = omega (arith, cons x (take 0 xs))
blocks_more (x ∷ xs) (suc i) d lt =
    let more = blocks_more xs i d (omega (arith, lt)) in
    omega (arith, cons x (take (suc i) xs), cons x (take i xs), more)

pub blocks_push : (set : List SetImage) (i : ℕ) (d : SetImage)
    → i < length set
    → set_blocks (take (i + 1) set) ≡ set_blocks (take i set) + blocks_of (get_or set i d).size
blocks_push set i d lt = rw add-one (blocks_more set i d lt)

none : (i : ℕ) → set_blocks (take i []) ≡ 0
none zero = refl
none (suc i) = refl

-- fewer images have no more
pub blocks_less : (set : List SetImage) (i j : ℕ)
    → i ≤ j
    → set_blocks (take i set) ≤ set_blocks (take j set)
blocks_less [] i j le = omega (arith, none i, none j)
blocks_less (x ∷ xs) zero j le = omega arith
blocks_less (x ∷ xs) (suc i) zero le = absurd (omega (arith, le))
blocks_less (x ∷ xs) (suc i) (suc j) le =
    let less = blocks_less xs i j (omega (arith, le)) in
    omega (arith, cons x (take i xs), cons x (take j xs), less)

pub blocks_within : (set : List SetImage) (i : ℕ) → set_blocks (take i set) ≤ set_blocks set
blocks_within [] i = omega (arith, none i)
blocks_within (x ∷ xs) zero = omega arith
blocks_within (x ∷ xs) (suc i) = omega (arith, cons x (take i xs), cons x xs, blocks_within xs i)

-- each has at most 2^28
pub blocks_few : (set : List SetImage) → All IsImage set → set_blocks set ≤ 2 ^ 28 * length set
blocks_few [] all = omega arith
blocks_few (x ∷ xs) all =
    let few = blocks_few xs (All-tail IsImage x xs all) in
    omega (arith, cons x xs, (All-head IsImage x xs all).size, few)

-- the partitions of one image more
pub parts_more : (at : ℕ) (set : List SetImage) (i : ℕ) (d : SetImage)
    → i < length set
    → parts_from at (take (suc i) set)
    ≡ parts_from at (take i set) ++ parts_from (at + set_blocks (take i set)) (get_or set i d ∷ [])
parts_more at [] i d lt = absurd (omega (arith, lt))
parts_more at (x ∷ xs) zero d lt =
    let e : at ≡ at + 0 = omega arith in
    ap (λ (k : ℕ). parts_from k (x ∷ [])) e
parts_more at (x ∷ xs) (suc i) d lt =
    let next : ℕ = at + blocks_of x.size in
    let e : next + set_blocks (take i xs) ≡ at + set_blocks (x ∷ take i xs) =
    omega (arith, cons x (take i xs)) in
    ap (λ (l : List Part). part_at at x ∷ l)
    (parts_more next xs i d (omega (arith, lt))
    ∙ ap (λ (k : ℕ). parts_from next (take i xs) ++ parts_from k (get_or xs i d ∷ [])) e)

pub parts_push : (set : List SetImage) (i first : ℕ) (x : SetImage) (ps : List Part) (p : Part)
    → i < length set
    → x ≡ get_or set i x
    → first ≡ set_blocks (take i set)
    → ps ≡ parts_from 0 (take i set)
    → p ∷ [] ≡ parts_from first (x ∷ [])
    → ps ++ p ∷ [] ≡ parts_from 0 (take (i + 1) set)
parts_push set i first x ps p lt at is so_far one =
    let before : List Part = parts_from 0 (take i set) in
    let next : parts_from 0 (take (i + 1) set)
    ≡ before ++ parts_from (0 + set_blocks (take i set)) (get_or set i x ∷ []) =
    rw add-one (parts_more 0 set i x lt) in
    let zeros : first ≡ 0 + set_blocks (take i set) = omega (arith, is) in
    (λ k. so_far k ++ one k)
    ∙ (λ k. before ++ parts_from (zeros k) (at k ∷ []))
    ∙ sym next

-- How many exceptions there may be.
use Rattle.std.proofs.Common.{◌≡◌, ℕ, zero, suc, ◌+◌, ◌*◌, ◌≤◌, ◌<◌, ◌^◌, List, [], ◌∷◌, length}
use Rattle.std.proofs.Common.{take, get_or, ap, subst, arith}
use Rattle.std.specs.Prelude.{Option, Some, None, All}
use Rattle.std.proofs.lemmas.List.Elements.{All-head, All-tail}
use Rattle.vab_exceptions.specs.declared.area.Exception.{Exception}
use Rattle.vab_space.specs.declared.Chunk.{Chunk}
use Rattle.vab_space.specs.Chunks.{chunks_for}
use Rattle.vab_space.proofs.DifferingLaws.{chunks_fewest}
use Rattle.vab_store.specs.View.{Fits, exception_at}
use Rattle.vab_device.specs.declared.device.Part.{Part}
use Rattle.vab_device.specs.declared.device.PartImage.{PartImage}
use Rattle.vab_device.specs.declared.device.PartImage.TheVariants.{Kept, Declared, Written}
use Rattle.vab_device.specs.Kept.{IsPart, IsStored, AreParts}
use Rattle.vab_device.specs.Mounted.{count_of, count_in}
use Rattle.vab_merging.proofs.BelowLaws.{few_below}

-- ---- exceptions

few_exceptions : (k : Chunk) (bound : ℕ) (map : List ℕ) (es : List Exception)
    → Fits k bound map es
    → length es ≤ bound
few_exceptions k bound map es fits =
    let few : length es ≤ chunks_for k bound =
    few_below (chunks_for k bound) (length es) (λ j. (exception_at es j).old_chunk)
    (λ j below. (fits.lie j below).old_chunk)
    (λ i j ij below. (fits.once i j ij below).old_chunk) in
    omega (arith, few, chunks_fewest k bound)

few_stored : (size : ℕ) (base : List ℕ) (store : Option (List ℕ)) (image : PartImage)
    → IsStored size base store image
    → count_of image ≤ length base
few_stored size base None Kept is = omega arith
few_stored size base None Declared is = omega arith
few_stored size base None (Written k es) is =
    omega (arith, ap (λ (xs : List Exception). length xs) is)
few_stored size base (Some store) Kept is = omega arith
few_stored size base (Some store) Declared is = omega arith
few_stored size base (Some store) (Written k es) is =
    few_exceptions k (length base) store es is.1

pub few_of : (size : ℕ) (p : Part) → IsPart size p → count_of p.image ≤ 2 ^ 28
few_of size p is =
    let few = few_stored size p.map p.store p.image is.store in
    omega (arith, few, is.small)

pub few_in : (size : ℕ) (ps : List Part)
    → All (IsPart size) ps
    → count_in ps ≤ 2 ^ 28 * length ps
few_in size [] are = omega arith
few_in size (p ∷ ps) are =
    let here = few_of size p (All-head (IsPart size) p ps are) in
    let rest = few_in size ps (All-tail (IsPart size) p ps are) in
    omega (arith, here, rest)

pub few_all : (size : ℕ) (ps : List Part) → AreParts size ps → count_in ps ≤ 2 ^ 34
few_all size ps are =
    let most = few_in size ps are.each in
    omega (arith, most, are.few)

-- ---- a count that goes on

pub count_more : (ps : List Part) (i : ℕ) (d : Part)
    → i < length ps
    → count_in (take (suc i) ps) ≡ count_in (take i ps) + count_of (get_or ps i d).image
count_more [] i d below = absurd (omega (arith, below))
count_more (p ∷ ps) zero d below = omega arith
count_more (p ∷ ps) (suc i) d below =
    let rest = count_more ps i d (omega (arith, below)) in
    omega (arith, rest)

pub count_within : (ps : List Part) (i : ℕ) → count_in (take i ps) ≤ count_in ps
count_within [] zero = omega arith
count_within [] (suc i) = omega arith
count_within (p ∷ ps) zero = omega arith
count_within (p ∷ ps) (suc i) =
    let rest = count_within ps i in
    omega (arith, rest)

pub count_step : (ps items : List Part) (i : ℕ) (x : Part) (count n : ℕ)
    → items ≡ ps
    → i < length items
    → x ≡ get_or items i x
    → count ≡ count_in (take i ps)
    → n ≡ count_of x.image
    → count + n ≡ count_in (take (i + 1) ps)
count_step ps items i x count n same below is so_far more =
    let within : i < length ps = subst (λ (l : List Part). i < length l) same below in
    let here : x ≡ get_or ps i x = subst (λ (l : List Part). x ≡ get_or l i x) same is in
    let of : count_of x.image ≡ count_of (get_or ps i x).image =
    ap (λ (p : Part). count_of p.image) here in
    let next : count_in (take (i + 1) ps) ≡ count_in (take (suc i) ps) =
    ap (λ (k : ℕ). count_in (take k ps)) (let e : i + 1 ≡ suc i = omega arith in e) in
    let step = count_more ps i x within in
    omega (arith, so_far, more, of, next, step)

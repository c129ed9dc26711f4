-- A partition that is written in place reads as its blocks.
use Rattle.std.proofs.Common.{◌≡◌, ◌∙◌, ℕ, ◌+◌, List, [], ◌∷◌, refl, ap, subst}
use Rattle.std.specs.Prelude.{Option, None}
use Rattle.vab_exceptions.specs.declared.area.Exception.{Exception}
use Rattle.vab_space.specs.declared.Chunk.{Chunk}
use Rattle.vab_space.specs.declared.Chunk.TheVariants.{One, Two, Four}
use Rattle.vab_store.specs.View.{stored_at}
use Rattle.vab_device.specs.declared.device.Part.{Part}
use Rattle.vab_device.specs.declared.device.PartImage.{PartImage}
use Rattle.vab_device.specs.declared.device.PartImage.TheVariants.{Written}
use Rattle.vab_device.specs.Kept.{IsPart, IsStored}
use Rattle.vab_device.specs.Mounted.{blocks_there, sectors_by, sectors_read}
use Rattle.vab_device.specs.Stores.{sector_seen, sectors_seen}

stored_none : (k : Chunk) (n : ℕ) → stored_at k [] n ≡ None
stored_none One n = refl
stored_none Two n = refl
stored_none Four n = refl

-- without exceptions each block is the partition's own
pub seen_plain : (k : Chunk) (store : List ℕ) (n : ℕ) (owns : List ℕ)
    → sectors_seen k store [] n owns ≡ owns
seen_plain k store n [] = refl
seen_plain k store n (own ∷ owns) =
    let here = ap (λ (o : Option ℕ). sector_seen store own o) (stored_none k n) in
    let rest = seen_plain k store (n + 1) owns in
    (λ i. here i ∷ rest i)

-- it has no exceptions
pub none_in_place : (size : ℕ) (p : Part) (k : Chunk) (es : List Exception)
    → IsPart size p
    → p.store ≡ None
    → p.image ≡ Written k es
    → es ≡ []
none_in_place size p k es kept store image =
    subst (λ (x : PartImage). IsStored size p.map None x) image
    (subst (λ (o : Option (List ℕ)). IsStored size p.map o p.image) store kept.store)

-- so the blocks that a read of it takes are its own
pub read_in_place : (size : ℕ) (p : Part) (k : Chunk) (es : List Exception)
    → IsPart size p
    → p.store ≡ None
    → p.image ≡ Written k es
    → sectors_read p ≡ p.map
read_in_place size p k es kept store image =
    ap (λ (x : PartImage). sectors_by p x) image
    ∙ ap (λ (o : Option (List ℕ)). sectors_seen k (blocks_there o) es 0 p.map) store
    ∙ ap (λ (xs : List Exception). sectors_seen k [] xs 0 p.map)
    (none_in_place size p k es kept store image)
    ∙ seen_plain k [] 0 p.map

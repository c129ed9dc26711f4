-- The block of a store that stands for a block of the partition.
use Rattle.std.proofs.Common.{◌≡◌, ℕ, ◌<◌, List, length, Option, Some, None, ap, ◌∙◌, refl, sym}
use Rattle.std.proofs.Common.{subst}
use Rattle.std.specs.Prelude.{option_map}
use Rattle.vab_space.specs.declared.Chunk.{Chunk}
use Rattle.vab_space.specs.declared.Chunk.TheVariants.{One, Two, Four}
use Rattle.vab_space.specs.Chunks.{block_in, chunk_at, place_in}
use Rattle.vab_space.proofs.ChunkLaws.{block_inside, place_below}
use Rattle.vab_exceptions.specs.declared.area.Exception.{Exception}
use Rattle.vab_store.specs.View.{Fits, view_of, stored_at}
use Rattle.vab_store.proofs.ViewLaws.{view_chunk}

-- with chunks of one block it is the new chunk
pub stored_one : (es : List Exception) (block : ℕ) → stored_at One es block ≡ view_of es block
stored_one es block = refl

-- its chunk has a new one
pub stored_some : (k : Chunk) (es : List Exception) (block new : ℕ)
    → view_of es (chunk_at k block) ≡ Some new
    → stored_at k es block ≡ Some (block_in k new (place_in k block))
stored_some One es block new is = is
stored_some Two es block new is = ap (option_map (λ n. block_in Two n (place_in Two block))) is
stored_some Four es block new is = ap (option_map (λ n. block_in Four n (place_in Four block))) is

-- or has none
pub stored_none : (k : Chunk) (es : List Exception) (block : ℕ)
    → view_of es (chunk_at k block) ≡ None
    → stored_at k es block ≡ None
stored_none One es block is = is
stored_none Two es block is = ap (option_map (λ n. block_in Two n (place_in Two block))) is
stored_none Four es block is = ap (option_map (λ n. block_in Four n (place_in Four block))) is

-- it is one of the store's
pub stored_inside : (k : Chunk) (bound : ℕ) (map : List ℕ) (es : List Exception)
    (block stored : ℕ)
    → Fits k bound map es
    → stored_at k es block ≡ Some stored
    → stored < length map
stored_inside k bound map es block stored fits is = go (view_of es (chunk_at k block)) refl
  where
    go : (x : Option ℕ) → view_of es (chunk_at k block) ≡ x → stored < length map
    go None none =
        absurd (let bad : (let o : Option ℕ = None in o ≡ Some stored) =
        sym (stored_none k es block none) ∙ is in cc)
    go (Some new) some =
        let both : Some (block_in k new (place_in k block)) ≡ Some stored =
        sym (stored_some k es block new some) ∙ is in
        let here : block_in k new (place_in k block) ≡ stored = cc in
        let lies = view_chunk bound map es (chunk_at k block) new fits some in
        subst (λ (n : ℕ). n < length map) here
        (block_inside k (length map) new (place_in k block) lies.new_chunk (place_below k block))

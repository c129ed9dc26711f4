use Rattle.std.proofs.Common.{◌≡◌, ◌+◌, ◌<◌, ℕ, List, Some, length, sym, ap, ◌∙◌, subst, arith}
use Rattle.std.specs.Prelude.{Option}
use Rattle.vab_space.specs.declared.Chunk.{Chunk}
use Rattle.vab_space.specs.Chunks.{blocks_in, chunk_at}
use Rattle.vab_space.proofs.ChunkLaws.{block_inside, chunks_fewer, place_below}
use Rattle.vab_store.specs.Layout.{chunk_bytes}
use Rattle.vab_store.specs.Seen.{chosen_bytes}
use Rattle.vab_store.specs.View.{view_of}
use Rattle.vab_store.proofs.StoredLaws.{stored_some, stored_none}
use Rattle.vab_store.proofs.ViewLaws.{view_chunk}
use Rattle.vab_snapread.proofs.reading.read_block.Goals as goal

pub block_in-requires : goal.block_in-requires
block_in-requires g c =
    let k : Chunk = c.args.chunk in
    let view = c.args.view.now in
    let store : List ℕ = c.args.store.now in
    let lies = view_chunk (length c.args.base.now) store view
    (chunk_at k c.args.block) c.in-Some.new c.requires.fits
    (ap (view_of view) (sym c.chunk_at.ensures.is) ∙ sym c.in-Some.ensures) in
    record {
      chunk = omega (
        arith,
        chunks_fewer k (length store) (c.in-Some.new + 1) (omega (arith, lies.new_chunk)),
        c.len-blocks.ensures.count,
        c.len-blocks.ensures.small,
      );
      place = c.place_in.ensures.few;
    }

pub read_at-requires : goal.read_at-requires
read_at-requires g c =
    let k : Chunk = c.args.chunk in
    let view = c.args.view.now in
    let store : List ℕ = c.args.store.now in
    let lies = view_chunk (length c.args.base.now) store view
    (chunk_at k c.args.block) c.in-Some.new c.requires.fits
    (ap (view_of view) (sym c.chunk_at.ensures.is) ∙ sym c.in-Some.ensures) in
    let r : ℕ = c.place_in.result in
    let inside = subst (λ (n : ℕ). n < blocks_in k) (sym c.place_in.ensures.is)
    (place_below k c.args.block) in
    let below : c.block_in.result < length store =
    subst (λ (n : ℕ). n < length store) (sym c.block_in.ensures)
    (block_inside k (length store) c.in-Some.new r lies.new_chunk inside) in
    record {
      block = below;
      on_disk = c.requires.store_on_disk c.block_in.result below;
    }

use Rattle.std.proofs.Common.{◌+◌, ◌/◌, ◌%◌, ◌<◌, ℕ, length, ap, ◌∙◌, subst, sym, arith}
use Rattle.std.specs.Prelude.{slice_index}
use Rattle.vab_space.specs.declared.Chunk.{Chunk}
use Rattle.vab_space.proofs.ChunkLaws.{page_inside, page_small}
use Rattle.vab_merge.proofs.clear.sector_at.Goals as goal

pub page_block-requires : goal.page_block-requires
page_block-requires c =
    let k : Chunk = c.args.chunk in
    let p : ℕ = c.args.i / 8 in
    page_small k p
    (omega (
      arith,
      page_inside k (length c.args.store.now) p c.requires,
      c.len-blocks.ensures.count,
      c.len-blocks.ensures.small,
    ))

pub sector_of-requires : goal.sector_of-requires
sector_of-requires c =
    subst (λ (b : ℕ). b < length c.args.store.now) (sym c.page_block.ensures)
    (page_inside c.args.chunk (length c.args.store.now) (c.args.i / 8) c.requires)

pub returns : goal.returns
returns c =
    ap (λ (at : ℕ). at + c.args.i % 8)
    (c.sector_of.ensures.sector ∙ ap (slice_index c.args.store.now) c.page_block.ensures)

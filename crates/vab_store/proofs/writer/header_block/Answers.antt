use Rattle.std.proofs.Common.{refl, ◌∙◌}
use Rattle.vab_store.proofs.BlockLaws.{header_whole}
use Rattle.vab_store.proofs.writer.header_block.Goals as goal

pub returns : goal.returns
returns c =
    header_whole c.args.chunk 4096 _
    (c.copy_from_slice.ensures.after ∙ c.encode_store_header.ensures.bytes) refl

use Rattle.std.proofs.Common.{◌≡◌, ◌-◌, ◌≤◌, length, []}
use Rattle.vab_sparse.specs.Reading.{chunks_of}
use Rattle.vab_sparse.proofs.image.read_chunks.Given as goal

abbrev pub invariant-loop : goal.invariant-loop
invariant-loop l = (chunks_of (l.head.chunks - l.counter) l.head l.file l.image.items l.left l.at
    ≡ chunks_of l.head.chunks l.head l.file [] l.head.blocks l.head.size) × (l.at ≤ length l.file)

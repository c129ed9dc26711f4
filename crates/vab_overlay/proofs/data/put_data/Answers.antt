use Rattle.std.proofs.Common.{◌≡◌, ◌∙◌, ℕ, List, length, ap, sym, rules}
use Rattle.std.proofs.lemmas.Result.{on_ok_weaker}
use Rattle.vab_disk.specs.Disk.{Image}
use Rattle.vab_disk.specs.Calls.{InSectors, SameBut}
use Rattle.vab_store.specs.Layout.{chunk_bytes}
use Rattle.vab_store.proofs.ChunkLaws.{chunk_here}
use Rattle.vab_overlay.proofs.DataLaws.{InBlock, IsThat, some_in, but_wider, block_kept}
use Rattle.vab_overlay.proofs.data.put_data.Goals as goal

pub returns-clause-bytes : goal.returns-clause-bytes
returns-clause-bytes g c = λ t.
    let store : List ℕ = c.args.store.now in
    let chunk : ℕ = c.args.chunk in
    let next = c.args.next in
    let old : Image = g.D.Disk.seen c.args.d.now in
    let mid : Image = g.D.Disk.seen c.write_at.new.d in
    let zeroed : Image = g.D.Disk.seen c.zero_page.new.d in
    let long : length c.args.from.now ≡ 4096 = search rules in
    let written : chunk_bytes store mid chunk ≡ c.args.from.now =
    chunk_here store old mid chunk c.args.from.now long (c.in_ok-write_at.ensures.written t) in
    let but : SameBut (InSectors (InBlock store (IsThat next))) mid zeroed =
    but_wider store (IsThat next) _ mid zeroed (λ s x. some_in store next s x c.requires.next)
    (c.zero_page.ensures.touches.seen t) in
    let kept : chunk_bytes store zeroed chunk ≡ chunk_bytes store mid chunk =
    block_kept store (IsThat next) mid zeroed chunk (c.requires.apart t) but c.requires.chunk
    (λ b is same. c.requires.other b is (sym same)) in
    on_ok_weaker c.settle.result
    (λ u.
    ap (λ (i : Image). chunk_bytes store i chunk) (c.settle.ensures.syncs.seen t)
    ∙ kept ∙ written)
    (c.settle.ensures.settled t)

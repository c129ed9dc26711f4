use Rattle.std.proofs.Common.{ℕ, List, ◌∙◌, ◌%◌, ap}
use Rattle.vab_disk.specs.Disk.{Image}
use Rattle.vab_store.specs.Clean.{is_clear, ends_clean}
use Rattle.vab_store.specs.Layout.{chunk_bytes}
use Rattle.vab_scan.proofs.clean.ends_clean.Goals as goal

pub returns-clause-exact : goal.returns-clause-exact
unfolding ends_clean
returns-clause-exact g c t =
    let store : List ℕ = c.args.store.now in
    let image : Image = g.D.Disk.seen c.args.d.now in
    c.is_clear.ensures
    ∙ ap (λ (page : List ℕ). is_clear page (c.args.count % 256))
    (c.in_ok-read_at.ensures.bytes t ∙ ap (chunk_bytes store image) c.page_block-number.ensures)

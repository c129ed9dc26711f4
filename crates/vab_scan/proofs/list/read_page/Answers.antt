use Rattle.std.proofs.Common.{◌≡◌, ◌/◌, ◌≤◌, ℕ, List, length, ap, ◌∙◌, subst, arith, true, false}
use Rattle.std.proofs.Common.{Some, None}
use Rattle.vab_disk.specs.Disk.{Image}
use Rattle.vab_space.specs.declared.Chunk.{Chunk}
use Rattle.vab_space.specs.Chunks.{chunks_in}
use Rattle.vab_exceptions.specs.declared.area.Exception.{Exception}
use Rattle.vab_exceptions.specs.Entries.{area_of}
use Rattle.vab_store.specs.Layout.{chunk_bytes}
use Rattle.vab_scan.specs.List.{Takes}
use Rattle.vab_scan.specs.declared.list.End.TheVariants.{Bad}
use Rattle.vab_scan.proofs.ListLaws.{steps_over, area_few}
use Rattle.vab_scan.proofs.list.read_page.Goals as goal

pub returns-else-entries-lt-PAGE_ENTRIES-clause-step :
    goal.returns-else-entries-lt-PAGE_ENTRIES-clause-step
returns-else-entries-lt-PAGE_ENTRIES-clause-step g c =
    let size : Chunk = c.args.chunk in
    let map : List ℕ = c.args.map.now in
    let image : Image = g.D.Disk.seen c.args.d.now in
    let out : List ℕ = c.read_at.new.out in
    let page : List Exception = c.as_slice-entries.result.now in
    let whole : page ≡ area_of 256 out =
    c.as_slice-entries.ensures.value
    ∙ c.decode_area-found.ensures
    ∙ ap (λ (n : ℕ). area_of (n / 16) out) c.read_at.array_long in
    steps_over g.D.Disk.is_modelled size map c.args.bound image c.args.page
    c.args.items.now.items c.take_lying.new.items.items page c.chunks_in.result c.chunks_for.result
    None
    (λ t.
    whole
    ∙ ap (area_of 256)
    (c.in-Ok.ensures.bytes t
    ∙ ap (λ (b : ℕ). chunk_bytes map image b) c.page_block.ensures))
    (omega (arith, ap length whole, area_few 256 out))
    (c.chunks_in.ensures.is ∙ ap (chunks_in size) c.len-blocks.ensures.count)
    c.chunks_for.ensures (
      subst (Takes size c.chunks_in.result c.chunks_for.result page c.args.items.now.items
          c.take_lying.new.items.items) c.in-Ok-true.field-0-test c.in-Ok-true.ensures,
      omega (arith, c.if-entries-lt-PAGE_ENTRIES.false),
    )

pub returns-in-Ok-false-clause-step : goal.returns-in-Ok-false-clause-step
returns-in-Ok-false-clause-step g c =
    let size : Chunk = c.args.chunk in
    let map : List ℕ = c.args.map.now in
    let image : Image = g.D.Disk.seen c.args.d.now in
    let out : List ℕ = c.read_at.new.out in
    let page : List Exception = c.as_slice-entries.result.now in
    let whole : page ≡ area_of 256 out =
    c.as_slice-entries.ensures.value
    ∙ c.decode_area-found.ensures
    ∙ ap (λ (n : ℕ). area_of (n / 16) out) c.read_at.array_long in
    steps_over g.D.Disk.is_modelled size map c.args.bound image c.args.page
    c.args.items.now.items c.take_lying.new.items.items page c.chunks_in.result c.chunks_for.result
    (Some Bad)
    (λ t.
    whole
    ∙ ap (area_of 256)
    (c.in-Ok.ensures.bytes t
    ∙ ap (λ (b : ℕ). chunk_bytes map image b) c.page_block.ensures))
    (omega (arith, ap length whole, area_few 256 out))
    (c.chunks_in.ensures.is ∙ ap (chunks_in size) c.len-blocks.ensures.count)
    c.chunks_for.ensures
    (subst (Takes size c.chunks_in.result c.chunks_for.result page c.args.items.now.items
    c.take_lying.new.items.items) c.in-Ok-false.field-0-test c.in-Ok-false.ensures)

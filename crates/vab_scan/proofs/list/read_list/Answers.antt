use Rattle.std.proofs.Common.{◌≡◌, ◌+◌, ◌*◌, ◌<◌, ℕ, List, ◌++◌, length, take, ap, ◌∙◌, subst, refl}
use Rattle.std.proofs.Common.{arith}
use Rattle.std.specs.Prelude.{Some, None}
use Rattle.vab_disk.specs.Disk.{Image}
use Rattle.vab_disk.proofs.CallLaws.{reads_none, reads_then}
use Rattle.vab_exceptions.specs.declared.area.Exception.{Exception}
use Rattle.vab_space.specs.declared.Chunk.{Chunk}
use Rattle.vab_space.specs.Chunks.{chunks_for, page_block, pages_in}
use Rattle.vab_exceptions.specs.Entries.{area_of, firsts}
use Rattle.vab_store.specs.Layout.{chunks_of, chunk_bytes, pages_of, slot_at, slots_of}
use Rattle.vab_scan.specs.List.{StepsOver}
use Rattle.vab_scan.proofs.ListLaws.{lie_more, length_more, page_slots, found_so, kept_so}
use Rattle.vab_scan.proofs.ListLaws.{found_unended}
use Rattle.vab_scan.proofs.list.read_list.Goals as goal

pub loop-page-init : goal.loop-page-init
unfolding firsts
loop-page-init g c = record {
  read = λ t. c.new-items.ensures.items;
  long = ap length c.new-items.ensures.items;
  lie = λ j below. absurd (omega (arith, below, ap length c.new-items.ensures.items));
  reads = reads_none g.D.Disk _;
  steady = refl;
}

pub returns-in-Ok-Some-clause-found : goal.returns-in-Ok-Some-clause-found
returns-in-Ok-Some-clause-found g c = λ t.
    let i = c.loop-page.invariant in
    let size : Chunk = c.args.chunk in
    let map : List ℕ = c.args.map.now in
    let p : ℕ = c.loop-page.page in
    let old : List Exception = c.loop-page.items.items in
    let new : List Exception = c.read_page.new.items.items in
    let step : StepsOver g.D.Disk.is_modelled size map c.args.bound
    (g.D.Disk.seen c.loop-page.d) p old new (Some c.in-Ok-Some.end) =
    subst (StepsOver g.D.Disk.is_modelled size map c.args.bound (g.D.Disk.seen c.loop-page.d) p old
    new)
    c.in-Ok-Some.field-0-is c.in-Ok-Some.ensures.step in
    let below : p < pages_of size map =
    omega (
      arith,
      c.loop-page-test.true,
      c.pages_in-page-end.ensures ∙ ap (pages_in size) c.len.ensures.count,
    ) in
    found_so size map c.args.bound (g.D.Disk.seen c.args.d.now) p step.page old new c.in-Ok-Some.end
    (i.read t) i.lie below
    (step.page_is t
    ∙ ap (λ (o : Image). area_of 256 (chunk_bytes map o (page_block size p)))
    (i.reads.seen t))
    step.few step.step

pub returns-in-Ok-Some-clause-kept : goal.returns-in-Ok-Some-clause-kept
returns-in-Ok-Some-clause-kept g c =
    let i = c.loop-page.invariant in
    let size : Chunk = c.args.chunk in
    let map : List ℕ = c.args.map.now in
    let p : ℕ = c.loop-page.page in
    let old : List Exception = c.loop-page.items.items in
    let new : List Exception = c.read_page.new.items.items in
    let step : StepsOver g.D.Disk.is_modelled size map c.args.bound
    (g.D.Disk.seen c.loop-page.d) p old new (Some c.in-Ok-Some.end) =
    subst (StepsOver g.D.Disk.is_modelled size map c.args.bound (g.D.Disk.seen c.loop-page.d) p old
    new)
    c.in-Ok-Some.field-0-is c.in-Ok-Some.ensures.step in
    let below : p < pages_of size map =
    omega (
      arith,
      c.loop-page-test.true,
      c.pages_in-page-end.ensures ∙ ap (pages_in size) c.len.ensures.count,
    ) in
    kept_so size map c.args.bound p step.page old new c.in-Ok-Some.end i.long i.lie below step.step

pub loop-page-preserved : goal.loop-page-preserved
loop-page-preserved g c =
    let i = c.loop-page.invariant in
    let size : Chunk = c.args.chunk in
    let map : List ℕ = c.args.map.now in
    let p : ℕ = c.loop-page.page in
    let old : List Exception = c.loop-page.items.items in
    let new : List Exception = c.read_page.new.items.items in
    let step : StepsOver g.D.Disk.is_modelled size map c.args.bound
    (g.D.Disk.seen c.loop-page.d) p old new None =
    subst (StepsOver g.D.Disk.is_modelled size map c.args.bound (g.D.Disk.seen c.loop-page.d) p old
    new)
    c.in-Ok-None.field-0-is c.in-Ok-None.ensures.step in
    let n : ℕ = length step.page in
    let taken = step.step.0 in
    let full : n ≡ 256 = omega (arith, step.few, step.step.1) in
    let next : 256 * p + n ≡ 256 * (p + 1) = omega (arith, full) in
    record {
      read = λ t.
          let image = g.D.Disk.seen c.args.d.now in
          taken.new_is
          ∙ ap (λ l. l ++ take n step.page) (i.read t)
          ∙ page_slots size map image p n step.page
          (step.page_is t
          ∙ ap (λ (o : Image). area_of 256 (chunk_bytes map o (page_block size p)))
          (i.reads.seen t))
          (omega arith) step.few
          ∙ ap (firsts (slot_at size map image)) next;
      long = omega (
        arith,
        length_more size (chunks_of size map) (chunks_for size c.args.bound) step.page old new n
            taken,
        i.long,
        full,
      );
      lie = lie_more size (chunks_of size map) (chunks_for size c.args.bound) step.page old new n
          i.lie taken;
      reads = reads_then g.D.Disk _ _ _ i.reads c.read_page.ensures.reads;
      steady = c.in-Ok-None.ensures.faults ∙ i.steady;
    }

pub returns-clause-found : goal.returns-clause-found
returns-clause-found g c = λ t.
    let i = c.loop-page.invariant in
    let size : Chunk = c.args.chunk in
    let map : List ℕ = c.args.map.now in
    let image = g.D.Disk.seen c.args.d.now in
    let all : 256 * c.loop-page.page ≡ slots_of size map =
    omega (
      arith,
      c.loop-page-test.false,
      c.loop-page.auto.page-end,
      c.pages_in-page-end.ensures ∙ ap (pages_in size) c.len.ensures.count,
    ) in
    found_unended size map c.args.bound image c.loop-page.items.items
    (i.read t ∙ ap (firsts (slot_at size map image)) all) i.lie

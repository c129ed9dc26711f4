use Rattle.std.proofs.Common.{ℕ, List, sym, subst, arith}
use Rattle.vab_disk.specs.Disk.{Image}
use Rattle.vab_exceptions.specs.declared.area.Exception.{Exception}
use Rattle.vab_store.specs.Answers.{Answers}
use Rattle.vab_scan.specs.List.{IsFound}
use Rattle.vab_scan.proofs.ListLaws.{scan_short, scan_header, scan_other, scan_passed}
use Rattle.vab_scan.proofs.ListLaws.{scan_finished, answer_fits}
use Rattle.vab_scan.proofs.reading.scan.Goals as goal

pub returns-then-len-lt2-clause-answers : goal.returns-then-len-lt2-clause-answers
returns-then-len-lt2-clause-answers g c = λ t.
    scan_short c.args.chunk c.args.map.now c.args.blocks (g.D.Disk.seen c.args.d.now)
    (omega (arith, c.if-len-lt2.true, c.len.ensures.count))

pub returns-in-Err-decode_store_header-clause-answers :
    goal.returns-in-Err-decode_store_header-clause-answers
returns-in-Err-decode_store_header-clause-answers g c = λ t.
    scan_header c.args.chunk c.args.map.now c.args.blocks (g.D.Disk.seen c.args.d.now)
    c.in-Ok.header
    c.in-Err-decode_store_header.fault
    (omega (arith, c.if-len-lt2.false, c.len.ensures.count))
    (c.in-Ok.ensures.bytes t) c.in-Err-decode_store_header.ensures

pub returns-then-blocks-clause-answers : goal.returns-then-blocks-clause-answers
returns-then-blocks-clause-answers g c = λ t.
    scan_other c.args.chunk c.in-Ok-decode_store_header.told c.args.map.now c.args.blocks
    (g.D.Disk.seen c.args.d.now) c.in-Ok.header
    (omega (arith, c.if-len-lt2.false, c.len.ensures.count))
    (c.in-Ok.ensures.bytes t) c.in-Ok-decode_store_header.ensures
    (λ same. omega (
      arith,
      same,
      c.if-blocks.true,
      c.blocks-in-Ok-decode_store_header.ensures.is,
      c.blocks-in-Ok-decode_store_header-2.ensures.is,
    ))

pub returns-in-Ok-read_list-clause-answers : goal.returns-in-Ok-read_list-clause-answers
returns-in-Ok-read_list-clause-answers g c = λ t.
    let map : List ℕ = c.args.map.now in
    let es : List Exception = c.in-Ok-read_list.found.items.items in
    let end = c.in-Ok-read_list.found.end in
    let found : IsFound c.args.chunk map c.args.blocks (g.D.Disk.seen c.args.d.now) es end =
    subst (λ (o : Image). IsFound c.args.chunk map c.args.blocks o es end)
    (c.in-Ok.ensures.reads.seen t)
    (c.in-Ok-read_list.ensures.found t) in
    subst (Answers c.finish.result)
    (sym (scan_finished c.args.chunk map c.args.blocks (g.D.Disk.seen c.args.d.now) c.in-Ok.header
    es end
    (omega (arith, c.if-len-lt2.false, c.len.ensures.count))
    (c.in-Ok.ensures.bytes t)
    (scan_passed c.args.chunk c.in-Ok-decode_store_header.told c.in-Ok.header
    c.in-Ok-decode_store_header.ensures
    (omega (
      arith,
      c.if-blocks.false,
      c.blocks-in-Ok-decode_store_header.ensures.is,
      c.blocks-in-Ok-decode_store_header-2.ensures.is,
    )))
    found))
    c.finish.ensures.answers

pub returns-in-Ok-read_list-clause-fits : goal.returns-in-Ok-read_list-clause-fits
returns-in-Ok-read_list-clause-fits g c =
    answer_fits c.args.chunk c.args.map.now c.args.blocks c.in-Ok-read_list.found.items.items
    c.in-Ok-read_list.found.end c.finish.result
    (omega (arith, c.if-len-lt2.false, c.len.ensures.count))
    c.in-Ok-read_list.ensures.kept c.finish.ensures.kept

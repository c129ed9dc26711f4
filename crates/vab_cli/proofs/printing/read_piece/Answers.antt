use Rattle.std.proofs.Common.{◌≡◌, ◌∙◌, ◌+◌, ◌*◌, ◌++◌, ◌≤◌, length, refl, sym, ap, arith, rules}
use Rattle.std.proofs.Common.{length-append}
use Rattle.vab_disk.proofs.CallLaws.{reads_none, reads_then}
use Rattle.vab_device.specs.Mounted.{sectors_read}
use Rattle.vab_manager.proofs.BlockLaws.{part_kept}
use Rattle.vab_manager.proofs.SeenLaws.{read_long}
use Rattle.vab_manager.proofs.DigestLaws.{bytes_none}
use Rattle.vab_cli.proofs.Blocks.{piece_more, within_kept}
use Rattle.vab_cli.proofs.printing.read_piece.Goals as goal

pub loop-block-init : goal.loop-block-init
loop-block-init g c = record {
  bytes = λ t p kept. c.requires.empty ∙ sym (bytes_none (g.P.Disk.seen c.args.port.now));
  long = ap length c.requires.empty;
  reads = reads_none g.P.Disk c.args.port.now;
  steady = refl;
}

pub overflow_add-first : goal.overflow_add-first
overflow_add-first g c =
    let part = c.requires.part in
    let small = (part_kept c.args.device.now (g.P.Disk.size c.args.port.now) c.args.slot
    c.args.name.now part.0 c.requires.kept part.1).small in
    omega (arith, part.2, small, c.loop-block-test.true)

pub loop-block-preserved : goal.loop-block-preserved
loop-block-preserved g c =
    let i = c.loop-block.invariant in
    let fits : 4096 * c.loop-block.block + 4096 ≤ 65536 =
    omega (arith, c.loop-block-test.true, c.requires.few) in
    let more : c.try_extend_from_slice.new.self.items
    ≡ c.loop-block.piece.items ++ c.read_block.new.out = search rules in
    record {
      bytes = λ t p kept.
          let end = within_kept c.args.device.now c.args.slot c.args.name.now p
          (c.args.first + c.args.count) kept c.requires.part in
          piece_more (g.P.Disk.seen c.args.port.now) (g.P.Disk.seen c.loop-block.port)
          (sectors_read p)
          c.loop-block.piece.items c.read_block.new.out c.try_extend_from_slice.new.self.items
          c.args.first c.loop-block.block
          (omega (arith, end, c.loop-block-test.true, read_long p)) (i.reads.seen t)
          (i.bytes t p kept)
          (c.in_ok-read_block.ensures.sectors t p kept) more;
      long = (let both = ap length more in
          omega (
            arith,
            both,
            length-append c.loop-block.piece.items c.read_block.new.out,
            c.read_block.array_long,
            i.long,
          ));
      reads = reads_then g.P.Disk c.args.port.now c.loop-block.port c.read_block.new.d
          i.reads c.read_block.ensures.reads;
      steady = c.in_ok-read_block.ensures.faults.steady ∙ i.steady;
    }

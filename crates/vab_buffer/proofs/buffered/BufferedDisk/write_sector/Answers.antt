use Rattle.std.proofs.Common.{refl, ◌∙◌, ap}
use Rattle.vab_disk.specs.Disk.{Image, set_sector}
use Rattle.vab_buffer.specs.declared.buffered.Buffered.{Buffered}
use Rattle.vab_buffer.proofs.HeldLaws.{held_more}
use Rattle.vab_buffer.proofs.Runs.{writes_after, writes_reads}
use Rattle.vab_buffer.proofs.buffered.BufferedDisk.write_sector.Goals as goal

pub returns-clause-written : goal.returns-clause-written
returns-clause-written g c = λ t.
    c.push.ensures.gains.over (g.S.RunStore.seen c.make_room.new.self.store)
    ∙ ap (λ (image : Image). set_sector image c.args.at c.args.from.now)
    (c.make_room.ensures.reads.seen t)

pub returns-clause-writes : goal.returns-clause-writes
returns-clause-writes g c =
    writes_after _ _ _ _ _ c.make_room.ensures.reads
    (held_more {D = Buffered g.row.S.Denot g.S.RunStore} g.S.RunStore (λ d. d.store) (λ d. d.held)
    (λ d. d.failed) c.args.at c.args.from.now _ _ refl refl c.push.ensures.gains)

pub returns-in_err-make_room-clause-writes : goal.returns-in_err-make_room-clause-writes
returns-in_err-make_room-clause-writes g c = writes_reads _ _ _ _ c.make_room.ensures.reads

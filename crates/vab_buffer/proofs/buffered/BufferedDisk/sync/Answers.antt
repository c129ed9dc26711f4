use Rattle.std.proofs.Common.{refl, sym, ◌∙◌, ap, arith}
use Rattle.vab_disk.specs.Disk.{Image}
use Rattle.vab_disk.specs.Calls.{OnlySyncs}
use Rattle.vab_buffer.specs.declared.buffered.Buffered.{Buffered}
use Rattle.vab_buffer.specs.Held.{as_disk}
use Rattle.vab_buffer.proofs.HeldLaws.{syncs_below}
use Rattle.vab_buffer.proofs.Runs.{syncs_after}
use Rattle.vab_buffer.proofs.buffered.BufferedDisk.sync.Goals as goal

pub invariant_of-self : goal.invariant_of-self
invariant_of-self g c = record {
  within = omega (arith, c.sync.ensures.quiet.size, c.write_out.new.self.within);
  ahead_within = omega (arith, c.sync.ensures.quiet.size, c.write_out.new.self.ahead_within);
  fetched = λ t s b kept.
      c.write_out.new.self.fetched t s b kept
      ∙ sym (ap (λ (image : Image). image s) (c.sync.ensures.seen t));
}

pub invariant_of-self-in-Err : goal.invariant_of-self-in-Err
invariant_of-self-in-Err g c = record {
  within = omega (arith, c.sync.ensures.quiet.size, c.write_out.new.self.within);
  ahead_within = omega (arith, c.sync.ensures.quiet.size, c.write_out.new.self.ahead_within);
  fetched = λ t s b kept.
      c.write_out.new.self.fetched t s b kept
      ∙ sym (ap (λ (image : Image). image s) (c.sync.ensures.seen t));
}

pub returns-in-Ok-clause-syncs : goal.returns-in-Ok-clause-syncs
returns-in-Ok-clause-syncs g c =
    let synced = c.in-Ok.ensures in
    let below : OnlySyncs (as_disk g.S.RunStore) c.write_out.new.self.store c.sync.new.self =
    record {
      quiet = synced.quiet;
      seen = synced.seen;
      crash = synced.crash;
      time = synced.time;
    } in
    syncs_after _ _ _ _ c.write_out.ensures.reads
    (syncs_below {D = Buffered g.row.S.Denot g.S.RunStore} g.S.RunStore (λ d. d.store) (λ d. d.held)
    (λ d. d.failed) g.met.S.RunStore.counts_now _ _ below
    c.in_ok-write_out.ensures.none refl (omega arith))

use Rattle.std.proofs.Common.{◌≡◌, ◌<◌, ◌≤◌, ◌++◌, ℕ, List, length, get_or, take, refl, ap, sym}
use Rattle.std.proofs.Common.{subst, ◌∙◌, arith}
use Rattle.std.proofs.lemmas.List.{take_all}
use Rattle.sha2.specs.Sha256.{sha256}
use Rattle.sha2.specs.Hashers.{Holds256}
use Rattle.vab_disk.specs.Disk.{Image}
use Rattle.vab_disk.proofs.CallLaws.{reads_none, reads_then}
use Rattle.vab_gate.specs.Gate.{sectors_at}
use Rattle.vab_device.specs.Kept.{IsPart}
use Rattle.vab_device.specs.Mounted.{bytes_at, sectors_read}
use Rattle.vab_manager.proofs.DigestLaws.{bytes_more, bytes_none}
use Rattle.vab_manager.proofs.SeenLaws.{read_long}
use Rattle.vab_manager.proofs.images.digest_of.Goals as goal

pub read_part-requires-clause-kept : goal.read_part-requires-clause-kept
read_part-requires-clause-kept g c =
    subst (λ (n : ℕ). IsPart n c.args.part.now) (sym c.loop-block.invariant.reads.quiet.size)
    c.requires

pub loop-block-init : goal.loop-block-init
loop-block-init g c = record {
  holds = λ t.
      subst (λ (m : List ℕ). Holds256 c.new-hasher.result m)
      (sym (bytes_none (g.D.Disk.seen c.args.d.now)))
      c.new-hasher.ensures;
  reads = reads_none g.D.Disk _;
  steady = refl;
}

pub loop-block-preserved : goal.loop-block-preserved
loop-block-preserved g c =
    let i = c.loop-block.invariant in
    let p = c.args.part.now in
    let block = c.loop-block.block in
    let lt : block < length (sectors_read p) =
    omega (arith, c.len-block-end.ensures, read_long p) in
    record {
      holds = λ t.
          let image : Image = g.D.Disk.seen c.args.d.now in
          let read : c.read_part.new.out ≡ sectors_at 8 image (get_or (sectors_read p) block 0) =
          c.in_ok-read_part.ensures.bytes t
          ∙ ap (λ (j : Image). sectors_at 8 j (get_or (sectors_read p) block 0)) (i.reads.seen t) in
          subst (λ (m : List ℕ). Holds256 c.update.new.self m)
          (ap (λ (b : List ℕ). bytes_at image (take block (sectors_read p)) ++ b) read
          ∙ bytes_more image (sectors_read p) block lt)
          (c.update.ensures (bytes_at image (take block (sectors_read p))) (i.holds t));
      reads = reads_then g.D.Disk _ _ _ i.reads c.read_part.ensures.reads;
      steady = c.in_ok-read_part.ensures.faults.steady ∙ i.steady;
    }

pub returns-in_err-read_part-clause-reads : goal.returns-in_err-read_part-clause-reads
returns-in_err-read_part-clause-reads g c =
    reads_then g.D.Disk _ _ _ c.loop-block.invariant.reads c.read_part.ensures.reads

pub returns-clause-digest : goal.returns-clause-digest
returns-clause-digest g c = λ t.
    let p = c.args.part.now in
    let past : length (sectors_read p) ≤ c.loop-block.block =
    omega (arith, c.len-block-end.ensures, c.loop-block-test.false, read_long p) in
    subst
    (λ (l : List ℕ). c.finalize.result ≡ sha256 (bytes_at (g.D.Disk.seen c.args.d.now) l))
    (take_all c.loop-block.block (sectors_read p) past)
    (c.finalize.ensures _ (c.loop-block.invariant.holds t))

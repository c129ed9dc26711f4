use Rattle.std.proofs.Common.{◌≡◌, ◌∙◌, ◌+◌, ◌++◌, ℕ, List, Ok, Err, take, drop, sym, subst, arith}
use Rattle.std.proofs.Common.{refl}
use Rattle.std.proofs.lemmas.List.{take_all}
use Rattle.vab_disk.specs.Disk.{Image}
use Rattle.vab_device.specs.Mounted.{bytes_at, sectors_read}
use Rattle.vab_manager.proofs.DigestLaws.{bytes_none}
use Rattle.vab_manager.proofs.SeenLaws.{read_long}
use Rattle.vab_cli.specs.declared.status.Status.{Status}
use Rattle.vab_cli.specs.Telling.{Says}
use Rattle.vab_cli.proofs.Blocks.{bytes_piece, bytes_rest, count_kept}
use Rattle.vab_cli.proofs.Saying.{says_none, says_on, says_front}
use Rattle.vab_cli.proofs.printing.tell_blocks.Goals as goal

pub loop-done-init : goal.loop-done-init
loop-done-init g c = record {
  within = omega arith;
  size = refl;
  steady = refl;
  says = λ t p kept.
      subst (λ (l : List ℕ). Says g.P.Disk {A = Unit {0}} {E = Status} l c.args.port.now
      c.args.port.now (Ok tt))
      (sym (bytes_none (g.P.Disk.seen c.args.port.now)))
      (says_none g.P.Disk tt c.args.port.now);
}

pub returns-in-Err-clause-says : goal.returns-in-Err-clause-says
returns-in-Err-clause-says g c = λ t p kept.
    let i = c.loop-done.invariant in
    let old = c.args.port.now in
    let mid = c.loop-done.port in
    let new = c.tell_piece.new.port in
    let image = g.P.Disk.seen old in
    let done = c.loop-done.done in
    let count = c.next_count-count.result in
    let before = i.says t p kept in
    let status = c.in-Err.status in
    let piece = subst
    (λ (x : Image).
    Says g.P.Disk {A = Unit {0}} {E = Status} (bytes_at x (take count (drop done (sectors_read p))))
    mid new
    (Err status))
    before.seen (c.in-Err.ensures.says t p kept) in
    let both = says_on g.P.Disk (bytes_at image (take done (sectors_read p)))
    (bytes_at image (take count (drop done (sectors_read p)))) old mid new tt (Err status) before
    piece in
    subst (λ (l : List ℕ). Says g.P.Disk {A = Unit {0}} {E = Status} l old new (Err status))
    (bytes_rest image (sectors_read p) done count)
    (says_front g.P.Disk
    (bytes_at image (take done (sectors_read p))
    ++ bytes_at image (take count (drop done (sectors_read p))))
    (bytes_at image (drop (done + count) (sectors_read p))) old new status both)

pub loop-done-preserved : goal.loop-done-preserved
loop-done-preserved g c =
    let i = c.loop-done.invariant in
    let done = c.loop-done.done in
    let count = c.next_count-count.result in
    record {
      within = omega (arith, c.next_count-count.ensures.fits, c.loop-done-test.true);
      size = c.tell_piece.ensures.size ∙ i.size;
      steady = c.in-Ok.ensures.steady ∙ i.steady;
      says = λ t p kept.
          let old = c.args.port.now in
          let mid = c.loop-done.port in
          let new = c.tell_piece.new.port in
          let image = g.P.Disk.seen old in
          let before = i.says t p kept in
          let piece = subst
          (λ (x : Image).
          Says g.P.Disk {A = Unit {0}} {E = Status}
          (bytes_at x (take count (drop done (sectors_read p))))
          mid new (Ok tt))
          before.seen (c.in-Ok.ensures.says t p kept) in
          subst (λ (l : List ℕ). Says g.P.Disk {A = Unit {0}} {E = Status} l old new (Ok tt))
          (bytes_piece image (sectors_read p) done count)
          (says_on g.P.Disk (bytes_at image (take done (sectors_read p)))
          (bytes_at image (take count (drop done (sectors_read p)))) old mid new tt (Ok tt) before
          piece);
    }

pub returns-clause-says : goal.returns-clause-says
returns-clause-says g c = λ t p kept.
    let i = c.loop-done.invariant in
    let count = count_kept c.args.device.now c.args.slot c.args.name.now p c.args.blocks kept
    c.requires.part in
    let all : take c.loop-done.done (sectors_read p) ≡ (sectors_read p) =
    take_all c.loop-done.done (sectors_read p)
    (omega (arith, c.loop-done-test.false, count, read_long p)) in
    subst
    (λ (l : List ℕ).
    Says g.P.Disk {A = Unit {0}} {E = Status} (bytes_at (g.P.Disk.seen c.args.port.now) l)
    c.args.port.now c.loop-done.port (Ok tt))
    all (i.says t p kept)

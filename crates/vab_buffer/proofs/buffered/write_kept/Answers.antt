use Rattle.std.proofs.Common.{◌≡◌, ◌*◌, ℕ, List, length, take, ap, ◌∙◌, arith, length-take-le}
use Rattle.vab_gate.specs.Gate.{IsAmong}
use Rattle.vab_buffer.specs.Store.{sectors_in}
use Rattle.vab_buffer.proofs.Parts.{set_front, among_front}
use Rattle.vab_buffer.proofs.Runs.{writes_wider, same_but_wider, set_same_among}
use Rattle.vab_buffer.proofs.buffered.write_kept.Goals as goal

pub returns-clause-written : goal.returns-clause-written
returns-clause-written g c = λ t.
    let run = c.args.run.now in
    let front = c.kept.result.now in
    let long : length (take (512 * run.count) run.bytes.items) ≡ 512 * run.count =
    length-take-le (512 * run.count) run.bytes.items (omega (arith, run.long, run.fits)) in
    let count : sectors_in front ≡ run.count =
    omega (arith, ap length c.kept.ensures, long) in
    c.in_ok-write_run.ensures.written t
    ∙ set_front run.count (sectors_in front) run.bytes.items front c.kept.ensures count
    (g.S.RunStore.seen c.args.store.now) run.first

pub returns-clause-writes : goal.returns-clause-writes
returns-clause-writes g c =
    let run = c.args.run.now in
    let front = c.kept.result.now in
    let long : length (take (512 * run.count) run.bytes.items) ≡ 512 * run.count =
    length-take-le (512 * run.count) run.bytes.items (omega (arith, run.long, run.fits)) in
    let count : sectors_in front ≡ run.count =
    omega (arith, ap length c.kept.ensures, long) in
    let among = λ (s : ℕ) (b : List ℕ) (is : IsAmong (sectors_in front) run.first front s b).
    among_front run.count (sectors_in front) run.bytes.items front c.kept.ensures count
    run.first s b is in
    let ok = c.in_ok-write_run.ensures in
    record {
      quiet = ok.quiet;
      seen = λ t. same_but_wider _ _ _ _ (set_same_among _ _ _ _ _ (ok.written t)) among;
      crash = λ t. writes_wider _ _ _ _ (ok.crash t) among;
      time = ok.time;
    }

pub returns-in_err-write_run-clause-writes : goal.returns-in_err-write_run-clause-writes
returns-in_err-write_run-clause-writes g c =
    let run = c.args.run.now in
    let front = c.kept.result.now in
    let long : length (take (512 * run.count) run.bytes.items) ≡ 512 * run.count =
    length-take-le (512 * run.count) run.bytes.items (omega (arith, run.long, run.fits)) in
    let count : sectors_in front ≡ run.count =
    omega (arith, ap length c.kept.ensures, long) in
    let among = λ (s : ℕ) (b : List ℕ) (is : IsAmong (sectors_in front) run.first front s b).
    among_front run.count (sectors_in front) run.bytes.items front c.kept.ensures count
    run.first s b is in
    let err = c.in_err-write_run.ensures in
    record {
      quiet = err.quiet;
      seen = λ t. same_but_wider _ _ _ _ (err.failed t) among;
      crash = λ t. writes_wider _ _ _ _ (err.crash t) among;
      time = err.time;
    }

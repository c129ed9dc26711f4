use Rattle.std.proofs.Common.{◌≡◌, ◌+◌, ◌≤◌, ◌^◌, ℕ, Bool, true, false, cond, List, length, take}
use Rattle.std.proofs.Common.{Some, None, IfSome, sym, ◌∙◌, arith}
use Rattle.std.specs.Str.{bytes_eq}
use Rattle.std.proofs.lemmas.List.{take_all}
use Rattle.vabpack.proofs.tests.OneFileSource.read_file.Goals as goal

-- a file that is no longer than a set may be is read whole
read_whole : (here : Bool) (bytes read : List ℕ)
    → read ≡ bytes
    → length bytes ≤ 2 ^ 32
    → IfSome (cond here (Some bytes) None) (λ b. read ≡ take (2 ^ 32 + 1) b)
read_whole true bytes read is short =
    is ∙ sym (take_all (2 ^ 32 + 1) bytes (omega (arith, short)))
read_whole false bytes read is short = tt

pub returns-in-Ok-clause-read : goal.returns-in-Ok-clause-read
returns-in-Ok-clause-read c =
    read_whole (bytes_eq c.args.path.now c.args.self.now.path.now) c.args.self.now.bytes.now
    c.in-Ok.bytes.items c.in-Ok.ensures.items (omega (arith, c.if-self-gt-MAX_BYTES.false))

use Rattle.std.proofs.Common.{◌<◌, ◌≤◌, ◌^◌, length, sym, arith}
use Rattle.std.proofs.lemmas.Result.{err_from_is_err_and}
use Rattle.vabpack.proofs.Images.{image, long_file, overfull, malformed}
use Rattle.vabpack.proofs.pack.read_image.Goals as goal

pub returns-then-len-gt-MAX_BYTES-clause-refused : goal.returns-then-len-gt-MAX_BYTES-clause-refused
returns-then-len-gt-MAX_BYTES-clause-refused g c =
    let long : 2 ^ 32 < length c.in-Ok.file.items =
    omega (arith, c.len.ensures, c.if-len-gt-MAX_BYTES.true) in
    (sym c.path-path.ensures, long_file _ c.in-Ok.file.items c.in-Ok.ensures.read long)

pub returns-in_err-bytes-clause-refused : goal.returns-in_err-bytes-clause-refused
returns-in_err-bytes-clause-refused g c =
    let short : length c.in-Ok.file.items ≤ 2 ^ 32 =
    omega (arith, c.len.ensures, c.if-len-gt-MAX_BYTES.false) in
    let p = err_from_is_err_and c.from_residual.result c.from_residual.ensures.1 in
    rw (p.1, p.2) (malformed (g.S.Source.bytes_at c.args.source.now)
    (g.S.Source.fails c.args.source.now) c.args.entry.now c.path-path.result.now
    c.in-Ok.file.items c.in_err-bytes.field-0.0 c.path-path.ensures c.in-Ok.ensures.read short
    c.in_err-bytes.ensures.refused)

pub returns-in-Some-clause-image : goal.returns-in-Some-clause-image
returns-in-Some-clause-image g c =
    let short : length c.in-Ok.file.items ≤ 2 ^ 32 =
    omega (arith, c.len.ensures, c.if-len-gt-MAX_BYTES.false) in
    image (g.S.Source.bytes_at c.args.source.now) c.args.entry.now c.path-path.result.now
    c.in-Ok.file.items c.in_ok-bytes.bytes.items c.in-Some.image c.path-path.ensures
    c.in-Some.ensures.exact
    c.in-Ok.ensures.read short c.in_ok-bytes.ensures.image c.in-Some.ensures.fits

pub returns-in-None-clause-refused : goal.returns-in-None-clause-refused
returns-in-None-clause-refused g c =
    let short : length c.in-Ok.file.items ≤ 2 ^ 32 =
    omega (arith, c.len.ensures, c.if-len-gt-MAX_BYTES.false) in (
      sym c.path-path.ensures,
      overfull _ c.args.entry.now c.in-Ok.file.items
          c.in_ok-bytes.bytes.items c.in-Ok.ensures.read short c.in_ok-bytes.ensures.image
          c.in-None.ensures.exact,
    )

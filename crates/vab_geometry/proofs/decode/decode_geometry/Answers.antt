use Rattle.std.proofs.Common.{◌≡◌, length, ◌∙◌, arith, rules}
use Rattle.vab_geometry.proofs.Found.{is_found}
use Rattle.vab_geometry.proofs.GeometryLaws.{only_is}
use Rattle.vab_geometry.proofs.decode.decode_geometry.Goals as goal

pub returns-clause-found : goal.returns-clause-found
returns-clause-found c =
    let long : length c.args.bytes.now ≡ 512 = search rules in
    is_found c.args.bytes.now c.read.result long (λ i. omega (arith, c.fits-bytes i)) c.read.ensures

pub returns-clause-only : goal.returns-clause-only
returns-clause-only c = λ g rules stands. c.read.ensures ∙ only_is c.args.bytes.now g rules stands

use Rattle.std.proofs.Common.{◌≡◌, ◌++◌, replicate, ◌∙◌, ap}
use Rattle.vab_geometry.specs.Geometry.{geometry_sector, sum_around}
use Rattle.vab_geometry.specs.Reading.{geometry_of}
use Rattle.vab_geometry.proofs.GeometryLaws.{sector_read}
use Rattle.vab_geometry.proofs.encode.encode_geometry.Goals as goal

pub returns-clause-read : goal.returns-clause-read
unfolding geometry_sector
returns-clause-read c =
    let front = c.front-front.ensures in
    let back = c.back-back.ensures in
    let spelled : c.joined.result ≡ geometry_sector c.args.geometry.now =
    c.joined.ensures ∙ (λ i. (front i ++
    ((c.sum_of.ensures ∙ (λ j. sum_around (front j) (back j))) i ++ back i))
    ++ replicate 460 0) in
    ap geometry_of spelled ∙ sector_read c.args.geometry.now c.requires

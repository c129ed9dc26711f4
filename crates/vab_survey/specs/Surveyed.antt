-- What is said of a disk part by part.
use Rattle.std.specs.Prelude.{◌≡◌, ℕ, false, nat_le, Err, IsOk, MatchOption}
use Rattle.vab_disk.specs.Disk.{Image}
use Rattle.vab_marks.specs.Mark.{mark_of}
use Rattle.vab_marks.specs.Version.{version_in}
use Rattle.vab_geometry.specs.Reading.{geometry_of}
use Rattle.vab_device.specs.declared.fault.StartFault.{StartFault}
use Rattle.vab_device.specs.Reading.{device, geometry_at}
use Rattle.vab_survey.specs.declared.geometries.Geometries.{Geometries}
use Rattle.vab_survey.specs.declared.survey.Details.{Details}
use Rattle.vab_survey.specs.declared.survey.Survey.{Survey}
use Rattle.vab_survey.specs.Copies.{IsTablesPage}
use Rattle.vab_survey.specs.Findings.{AreFound}

-- each copy of the geometry
pub record AreGeometries (image : Image) (g : Geometries) : Type 0 where
  pub primary : g.primary ≡ geometry_of (image 4104)
  pub backup : g.backup ≡ geometry_of (image 4112)

-- The tables stand where the geometry says, and nowhere without one.
pub record IsDetailed (size : ℕ) (image : Image) (x : Details) : Type 0 where
  pub mark : x.mark ≡ mark_of (image 2048)
  pub version : x.version ≡ version_in (image 2048)
  pub parts : AreFound size image x.parts
  pub geometries : AreGeometries image x.geometries
  pub tables : MatchOption x.tables
      ((fault : StartFault) × (geometry_at size image ≡ Err fault))
      (IsTablesPage size image)

-- The first fault is why the disk is no device, and there is none exactly where it is one. The
-- parts are judged each by itself where the disk is large enough.
pub record IsSurvey (size : ℕ) (image : Image) (s : Survey) : Type 0 where
  pub sectors : s.sectors ≡ size
  pub first : MatchOption s.first
      (IsOk (device size image))
      (λ fault. device size image ≡ Err fault)
  pub details : MatchOption s.details (nat_le 4120 size ≡ false) (IsDetailed size image)

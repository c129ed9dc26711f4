-- The name of a partition with extents in an image of a `super` is short.
use Rattle.std.proofs.Common.{ℕ, ◌≤◌}
use Rattle.std.proofs.Common.{List, length, Option}
use Rattle.vab_session.proofs.WipeLaws.{IsFilled}
use Rattle.vab_super_image.proofs.ShortNames.{image_short, first_short}

pub filled_short : (slot : ℕ) (staged : Option (List ℕ)) (name : List ℕ)
    → IsFilled slot staged name
    → length name ≤ 36
filled_short slot staged name is =
    first_short is.image.table.partitions name (image_short slot is.bytes is.image is.is) is.filled

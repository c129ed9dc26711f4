use Rattle.std.proofs.Common.{◌≡◌, ◌-◌, []}
use Rattle.vab_set.specs.Reading.{images_at}
use Rattle.vab_set.proofs.reading.read_images.Given as goal

abbrev pub invariant-loop : goal.invariant-loop
invariant-loop l = images_at (l.count - l.counter) l.images.items l.rest
    ≡ images_at l.count [] l.bytes

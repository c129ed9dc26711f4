-- What sectors in memory read.
use Rattle.std.specs.Prelude.{unwrap_or, replicate}
use Rattle.std.specs.Option.{option_map}
use Rattle.std.specs.Ordering.{nat_cmp}
use Rattle.std.specs.BTreeMap.{get}
use Rattle.vab_disk.specs.Disk.{Image}
use Rattle.vab_real.specs.declared.pages.Pages.{Pages}

-- the sectors that were written, and zeros
abbrev pub image_of : Pages → Image
image_of p = λ s.
    unwrap_or (option_map (λ b. b.value) (get nat_cmp p.written s)) (replicate 512 0)

use Rattle.std.proofs.Common.{◌∷◌, Ok, take}
use Rattle.std.specs.List.{flat_map}
use Rattle.vab_model.specs.Commands.{Begin}
use Rattle.vab_update.specs.Written.{CarriesOrders}
use Rattle.vab_update.specs.Install.{order, image_orders}
use Rattle.vab_update.proofs.installing.install.Given as goal

abbrev pub invariant-loop-image : goal.invariant-loop-image
invariant-loop-image g l =
    CarriesOrders g.D.Disk l.fn.device
    (order Begin ∷ flat_map (image_orders l.source) (take l.image-index l.set))
    l.fn.d l.d (Ok l.next)

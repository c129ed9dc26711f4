use Rattle.std.proofs.Common.{ap, ◌∙◌, ◌∷◌, List}
use Rattle.vab_layout.specs.Overlay.{Overlaid, only_one}
use Rattle.vab_partitions.specs.Overlay.{pair_of}
use Rattle.vab_partitions.proofs.OverlayLaws.{all_overlays}
use Rattle.vab_partitions.proofs.overlay.overlaid.Goals as goal

pub returns-in_err-overlay-clause-exact : goal.returns-in_err-overlay-clause-exact
returns-in_err-overlay-clause-exact c =
    let none = all_overlays c.args.slot c.args.table.now
    ∙ ap only_one c.in_err-overlay.ensures.none in rw c.from_residual.ensures none

pub returns-in-Some-clause-exact : goal.returns-in-Some-clause-exact
returns-in-Some-clause-exact c =
    let o = c.in_ok-overlay.overlay in
    let one : Overlaid = pair_of c.args.table.now o.partition.now o.store.now in
    all_overlays c.args.slot c.args.table.now
    ∙ ap only_one
    (c.in_ok-overlay.ensures.next ∙ ap (λ (os : List Overlaid). one ∷ os) c.in-Some.ensures.next)

pub returns-in-None-clause-exact : goal.returns-in-None-clause-exact
returns-in-None-clause-exact c =
    let o = c.in_ok-overlay.overlay in
    let one : Overlaid = pair_of c.args.table.now o.partition.now o.store.now in
    all_overlays c.args.slot c.args.table.now
    ∙ ap only_one
    (c.in_ok-overlay.ensures.next ∙ ap (λ (os : List Overlaid). one ∷ os) c.in-None.ensures.none)

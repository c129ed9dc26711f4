use Rattle.std.proofs.Common.{List, ℕ, subst}
use Rattle.std.proofs.lemmas.Result.{on_ok_weaker}
use Rattle.vab_disk.proofs.CallLaws.{touches_wider, touches_on, touches_then}
use Rattle.vab_bootctl.specs.Control.{KeepsRest}
use Rattle.vab_make.specs.Steps.{blanked}
use Rattle.vab_make.specs.Touched.{IsOfContents}
use Rattle.vab_make.proofs.Gates.{all_of}
use Rattle.vab_make.proofs.TouchLaws.{below_images, control_before}
use Rattle.vab_make.proofs.making.put_contents.Goals as goal

pub returns-in_err-put_places-clause-touches : goal.returns-in_err-put_places-clause-touches
returns-in_err-put_places-clause-touches g c =
    touches_wider g.D.Disk _ _ _ _ c.put_places.ensures.touches
    (λ s b is. IsOfContents.of_places is)

pub returns-in_err-put_images-clause-touches : goal.returns-in_err-put_images-clause-touches
returns-in_err-put_images-clause-touches g c =
    touches_on g.D.Disk _ _ _ _ _ _ c.put_places.ensures.touches c.put_images.ensures.touches
    (λ s b is. IsOfContents.of_places is) (λ s b is. IsOfContents.of_images is)

pub returns-clause-touches : goal.returns-clause-touches
returns-clause-touches g c =
    touches_then g.D.Disk _ _ _ _
    (touches_on g.D.Disk _ _ _ _ _ _ c.put_places.ensures.touches c.put_images.ensures.touches
    (λ s b is. IsOfContents.of_places is) (λ s b is. IsOfContents.of_images is))
    (touches_wider g.D.Disk _ _ _ _ c.put_control.ensures.touches
    (λ s b is. IsOfContents.of_control is))

pub returns-clause-all : goal.returns-clause-all
returns-clause-all g c = λ t.
    on_ok_weaker c.put_control.result
    (λ is.
    all_of c.args.set.now c.args.max c.args.text.now (g.D.Disk.seen c.put_places.new.d)
    (g.D.Disk.seen c.put_images.new.d) (g.D.Disk.seen c.put_control.new.d) c.requires.most
    (c.in_ok-put_places.ensures.places t)
    (below_images _ _ _ (c.put_images.ensures.touches.seen t))
    (c.in_ok-put_images.ensures.holds t) is)
    (c.put_control.ensures.control t)

pub returns-clause-rest : goal.returns-clause-rest
returns-clause-rest g c = λ t.
    on_ok_weaker c.put_control.result
    (λ is.
    subst (λ (b : List ℕ). KeepsRest (blanked b) (g.D.Disk.seen c.put_control.new.d 4))
    (control_before _ _ _ _ _ (c.put_places.ensures.touches.seen t)
    (c.put_images.ensures.touches.seen t))
    is.rest)
    (c.put_control.ensures.control t)

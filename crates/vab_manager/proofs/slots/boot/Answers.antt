use Rattle.std.proofs.Common.{◌≡◌, ◌∙◌, ◌∷◌, [], Bool, sym, ap, subst}
use Rattle.std.specs.Prelude.{is_some}
use Rattle.vab_bootctl.specs.declared.slots.Control.{Control}
use Rattle.vab_bootctl.specs.Boot.{booted_of}
use Rattle.vab_model.specs.declared.command.Reply.TheVariants as replies
use Rattle.vab_model.specs.Commands.{Boot}
use Rattle.vab_device.specs.declared.device.Device.{Device}
use Rattle.vab_device.specs.Kept.{has_slot}
use Rattle.vab_device.specs.Phases.{may_run}
use Rattle.vab_manager.specs.Controls.{GivesControl, WritesControl, slots_with_images}
use Rattle.vab_manager.proofs.BootLaws.{booted_has, booted_runs}
use Rattle.vab_manager.proofs.CommandLaws.{runs_own}
use Rattle.vab_manager.proofs.EffectLaws.{booted_effect}
use Rattle.vab_manager.proofs.slots.boot.Goals as goal

-- the boot control of these answers is that of the slots with images
has_is : (d : Device) (control : Control) (a b : Bool)
    → control ≡ booted_of d.control (a ∷ b ∷ [])
    → a ≡ is_some d.a
    → b ≡ is_some d.b
    → control ≡ booted_of d.control (slots_with_images d)
has_is d control a b is is-a is-b =
    is
    ∙ ap (λ (x : Bool). booted_of d.control (x ∷ b ∷ [])) is-a
    ∙ ap (λ (x : Bool). booted_of d.control (is_some d.a ∷ x ∷ [])) is-b

pub change-requires-clause-current : goal.change-requires-clause-current
change-requires-clause-current g c =
    let d = c.args.device in
    let is = has_is d c.booted-control.result _ _ c.booted-control.ensures.exact
    c.has_images.ensures c.has_images-2.ensures in
    ap (λ (k : Control). has_slot d.mark.phase d.mark.slot k.current) is
    ∙ booted_has d (g.D.Disk.size c.args.d.now) c.requires.kept

pub change-requires-clause-runs : goal.change-requires-clause-runs
change-requires-clause-runs g c = λ t.
    let d = c.args.device in
    let is = has_is d c.booted-control.result _ _ c.booted-control.ensures.exact
    c.has_images.ensures c.has_images-2.ensures in
    ap (λ (k : Control). may_run d.mark.slot k) is
    ∙ booted_runs d.control (slots_with_images d) d.mark.slot c.requires.kept.slot
    (runs_own d _ _ (c.requires.represents t) c.requires.kept.slot)

pub returns : goal.returns
returns g c = λ staged.
    let d = c.args.device in
    let seen = g.D.Disk.seen c.args.d.now in
    let is = sym (has_is d c.booted-control.result _ _ c.booted-control.ensures.exact
    c.has_images.ensures c.has_images-2.ensures) in
    c.change.ensures staged Boot
    (λ t. subst (λ (k : Control). GivesControl d seen staged Boot (replies.Booted k.current) k) is
    (booted_effect d seen staged))
    (subst (λ (k : Control). WritesControl d (seen 4) Boot k) is (λ s b w. w))

use Rattle.std.proofs.Common.{◌∙◌, ℕ, sym, ap, subst}
use Rattle.vab_bootctl.specs.declared.slots.Control.{Control}
use Rattle.vab_model.specs.declared.command.Reply.TheVariants as replies
use Rattle.vab_model.specs.Commands.{Mark}
use Rattle.vab_device.specs.Kept.{has_slot}
use Rattle.vab_device.specs.Phases.{may_run}
use Rattle.vab_manager.specs.Controls.{GivesControl, WritesControl}
use Rattle.vab_manager.proofs.BootLaws.{marked_runs, current_has}
use Rattle.vab_bootctl.proofs.BootLaws.{marked_current}
use Rattle.vab_manager.proofs.CommandLaws.{runs_own}
use Rattle.vab_manager.proofs.EffectLaws.{marked_effect}
use Rattle.vab_manager.proofs.slots.mark.Goals as goal

pub change-requires-clause-current : goal.change-requires-clause-current
change-requires-clause-current g c =
    let d = c.args.device in
    ap (λ (n : ℕ). has_slot d.mark.phase d.mark.slot n)
    (ap (λ (k : Control). k.current) c.marked-control.ensures.exact ∙ marked_current d.control)
    ∙ c.requires.kept.current

pub change-requires-clause-runs : goal.change-requires-clause-runs
change-requires-clause-runs g c = λ t.
    let d = c.args.device in
    ap (λ (k : Control). may_run d.mark.slot k) c.marked-control.ensures.exact
    ∙ marked_runs d.control d.mark.slot
    (runs_own d _ _ (c.requires.represents t) c.requires.kept.slot)

pub returns : goal.returns
returns g c = λ staged.
    let seen = g.D.Disk.seen c.args.d.now in
    let is = sym c.marked-control.ensures.exact in
    c.change.ensures staged Mark
    (λ t. subst (λ (k : Control). GivesControl c.args.device seen staged Mark replies.Done
    k) is
    (marked_effect c.args.device seen staged (current_has c.args.device _ c.requires.kept)))
    (subst (λ (k : Control). WritesControl c.args.device (seen 4) Mark k) is (λ s b w. w))

use Rattle.std.proofs.Common.{ap, sym, ◌∙◌}
use Rattle.std.specs.Prelude.{Ok, Err}
use Rattle.vab_model.specs.Effects.{Effect, answers}
use Rattle.vab_model.specs.declared.command.Reply.{Reply}
use Rattle.vab_model.specs.declared.command.Reply.TheVariants as replies
use Rattle.vab_device.specs.Mounted.{Mounted}
use Rattle.vab_manager.proofs.FoundLaws.{digest_is, found_kept}
use Rattle.vab_manager.proofs.images.digest.Goals as goal

pub digest_of-requires : goal.digest_of-requires
digest_of-requires g c =
    found_kept c.args.device.now (g.D.Disk.size c.args.d.now) c.args.name.now c.in-Ok.part.now
    c.requires.kept c.in-Ok.ensures

pub returns-in-Err-clause-reply : goal.returns-in-Err-clause-reply
returns-in-Err-clause-reply g c = λ t.
    digest_is c.args.device.now (g.D.Disk.size c.args.d.now) (g.D.Disk.seen c.args.d.now)
    c.args.name.now (Err c.in-Err.refusal) c.requires.kept c.in-Err.ensures

pub returns-in-Ok-digest_of-clause-reply : goal.returns-in-Ok-digest_of-clause-reply
returns-in-Ok-digest_of-clause-reply g c = λ t.
    digest_is c.args.device.now (g.D.Disk.size c.args.d.now) (g.D.Disk.seen c.args.d.now)
    c.args.name.now (Ok c.in-Ok.part.now) c.requires.kept c.in-Ok.ensures
    ∙ sym (ap (λ (r : Reply). (let e : Effect Mounted = answers r in e))
    (ap replies.Digest (c.in-Ok-digest_of.ensures.digest t)))

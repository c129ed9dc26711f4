use Rattle.std.proofs.Common.{◌∙◌, Ok, Err, sym, refl}
use Rattle.vab_merging.proofs.NextLaws.{next_behind}
use Rattle.vab_merging.proofs.RunLaws.{makes, makes_none}
use Rattle.vab_merging.proofs.run.merge_run.Goals as goal

pub returns-in-None-clause-makes : goal.returns-in-None-clause-makes
returns-in-None-clause-makes g c =
    makes_none g.D.Disk c.args.device c.args.most c.args.d.now c.requires.kept c.requires.merging
    c.requires.represents (sym c.requires.here ∙ c.in-None.is)

pub next_behind-requires-clause-same : goal.next_behind-requires-clause-same
next_behind-requires-clause-same g c =
    next_behind c.args.device c.in-Ok.behind (g.D.Disk.size c.args.d.now)
    c.in-Some.at c.in-Ok.made c.requires.kept c.requires.merging
    (sym c.requires.here ∙ c.in-Some.is) c.in-Ok.ensures.is

pub returns-in-Ok-clause-makes : goal.returns-in-Ok-clause-makes
returns-in-Ok-clause-makes g c =
    makes c.args.device _ c.in-Some.at c.requires.kept c.requires.merging
    (sym c.requires.here ∙ c.in-Some.is) g.D.Disk c.args.most c.args.d.now _ refl
    c.requires.represents (Ok (c.in-Ok.behind, c.in-Ok.made)) c.in-Ok.ensures.is
    c.in-Ok.ensures.runs

pub returns-in-Err-clause-makes : goal.returns-in-Err-clause-makes
returns-in-Err-clause-makes g c =
    makes c.args.device _ c.in-Some.at c.requires.kept c.requires.merging
    (sym c.requires.here ∙ c.in-Some.is) g.D.Disk c.args.most c.args.d.now _ refl
    c.requires.represents (Err c.in-Err.fault) c.in-Err.ensures.is c.in-Err.ensures.runs

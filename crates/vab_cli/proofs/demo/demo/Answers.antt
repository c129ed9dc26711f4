use Rattle.std.proofs.Common.{◌∙◌, List, ap, subst}
use Rattle.vab_make.specs.Made.{refusal_of}
use Rattle.vab_gen.specs.Sets.{fresh_set, next_set}
use Rattle.vab_set.specs.declared.set.SetImage.{SetImage}
use Rattle.vab_cli.specs.Demo.{Demonstrates}
use Rattle.vab_cli.proofs.Demos.{demo_short}
use Rattle.vab_cli.specs.Causes.{IsUnmade}
use Rattle.vab_cli.proofs.demo.demo.Goals as goal

pub returns-in-Err-clause-does : goal.returns-in-Err-clause-does
returns-in-Err-clause-does g c =
    demo_short g.P.Disk g.met.P.Disk.only_now _ _ c.args.port.now

pub returns-in-Err-next_scaled-clause-does : goal.returns-in-Err-next_scaled-clause-does
returns-in-Err-next_scaled-clause-does g c =
    demo_short g.P.Disk g.met.P.Disk.only_now _ _ c.args.port.now

pub returns-clause-does : goal.returns-clause-does
returns-clause-does g c =
    let old = c.args.port.now in
    let new = c.demonstrate.new.port in
    let first = fresh_set c.args.scale c.args.seed in
    subst
    (λ (x : List SetImage). Demonstrates g.P.Disk first x old new c.demonstrate.result)
    (c.in-Ok-next_scaled.ensures.exact
    ∙ ap (next_set c.args.scale c.args.seed) c.in-Ok.ensures.exact)
    (subst
    (λ (x : List SetImage).
    Demonstrates g.P.Disk x c.in-Ok-next_scaled.next old new c.demonstrate.result)
    c.in-Ok.ensures.exact c.demonstrate.ensures.does)

pub returns-clause-unmade : goal.returns-clause-unmade
returns-clause-unmade g c = λ t none.
    subst
    (λ (x : List SetImage).
    IsUnmade g.P.Disk c.args.port.now x 0 65536 c.demonstrate.new.cause)
    c.in-Ok.ensures.exact (c.demonstrate.ensures.unmade t none)

pub returns-in-Err-clause-copies : goal.returns-in-Err-clause-copies
returns-in-Err-clause-copies g c = λ t none answers.
    absurd answers

pub returns-in-Err-next_scaled-clause-copies : goal.returns-in-Err-next_scaled-clause-copies
returns-in-Err-next_scaled-clause-copies g c = λ t none answers.
    absurd answers

pub returns-clause-copies : goal.returns-clause-copies
returns-clause-copies g c = λ t none answers.
    c.demonstrate.ensures.copies t
    (ap (λ (x : List SetImage). refusal_of x 0 65536 (g.P.Disk.size c.args.port.now))
    c.in-Ok.ensures.exact
    ∙ none)
    answers

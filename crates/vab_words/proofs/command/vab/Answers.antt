use Rattle.std.proofs.Common.{codes}
use Rattle.std.proofs.lemmas.Result.{IfOk-weaker}
use Rattle.clap.specs.Words.{new_app}
use Rattle.vab_words.specs.Command.{make_app, serve_app, operand_app, demo_app, no_verbs}
use Rattle.vab_words.specs.Command.{vab_app}
use Rattle.vab_words.proofs.Growing.{grown}
use Rattle.vab_words.proofs.command.vab.Goals as goal

pub returns : goal.returns
unfolding vab_app
returns c =
    let make = grown _ _ _ no_verbs make_app c.in_ok-subcommand.ensures c.without_verbs.ensures
    c.in_ok-make.ensures.local c.in_ok-make.ensures.app in
    let adopt = grown _ _ _ _ (operand_app (codes "adopt") (codes "slot"))
    c.in_ok-subcommand-2.ensures make c.in_ok-with_operand.ensures.local
    c.in_ok-with_operand.ensures.app in
    let serve = grown _ _ _ _ serve_app c.in_ok-subcommand-3.ensures adopt
    c.in_ok-serve.ensures.local c.in_ok-serve.ensures.app in
    let install = grown _ _ _ _ (new_app (codes "install"))
    c.in_ok-subcommand-4.ensures serve c.new.ensures.local c.new.ensures.app in
    let boot = grown _ _ _ _ (new_app (codes "boot"))
    c.in_ok-subcommand-5.ensures install c.new-2.ensures.local c.new-2.ensures.app in
    let mark = grown _ _ _ _ (new_app (codes "mark"))
    c.in_ok-subcommand-6.ensures boot c.new-3.ensures.local c.new-3.ensures.app in
    let begin_merge = grown _ _ _ _ (new_app (codes "begin-merge"))
    c.in_ok-subcommand-7.ensures mark c.new-4.ensures.local c.new-4.ensures.app in
    let merge = grown _ _ _ _ (operand_app (codes "merge") (codes "blocks"))
    c.in_ok-subcommand-8.ensures begin_merge c.in_ok-with_operand-2.ensures.local
    c.in_ok-with_operand-2.ensures.app in
    let cancel = grown _ _ _ _ (new_app (codes "cancel"))
    c.in_ok-subcommand-9.ensures merge c.new-5.ensures.local c.new-5.ensures.app in
    let activate = grown _ _ _ _ (operand_app (codes "activate") (codes "slot"))
    c.in_ok-subcommand-10.ensures cancel c.in_ok-with_operand-3.ensures.local
    c.in_ok-with_operand-3.ensures.app in
    let print = grown _ _ _ _ (operand_app (codes "print") (codes "name"))
    c.in_ok-subcommand-11.ensures activate c.in_ok-with_operand-4.ensures.local
    c.in_ok-with_operand-4.ensures.app in
    let digest = grown _ _ _ _ (operand_app (codes "digest") (codes "name"))
    c.in_ok-subcommand-12.ensures print c.in_ok-with_operand-5.ensures.local
    c.in_ok-with_operand-5.ensures.app in
    let status = grown _ _ _ _ (new_app (codes "status"))
    c.in_ok-subcommand-13.ensures digest c.new-6.ensures.local c.new-6.ensures.app in
    IfOk-weaker c.subcommand-14.result _ _
    (λ m h. grown _ _ m _ demo_app
    h status c.in_ok-demo.ensures.local c.in_ok-demo.ensures.app)
    c.subcommand-14.ensures

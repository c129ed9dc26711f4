use Rattle.std.proofs.Common.{◌∙◌, ◌++◌, ap, sym}
use Rattle.vab_model.specs.declared.command.Refusal.{Refusal}
use Rattle.vab_fbproto.specs.Texts.{refusal_text}
use Rattle.vab_fbproto.proofs.text.put_refusal.Goals as goal

pub returns-in-StoreFull-clause-text : goal.returns-in-StoreFull-clause-text
unfolding refusal_text
returns-in-StoreFull-clause-text c =
    c.put_share-in-StoreFull.ensures.text
    ∙ ap (λ (r : Refusal). c.args.out.now.items ++ refusal_text r) (sym c.in-StoreFull.is)

pub returns-in-TableFull-clause-text : goal.returns-in-TableFull-clause-text
unfolding refusal_text
returns-in-TableFull-clause-text c =
    c.put_share-in-TableFull.ensures.text
    ∙ ap (λ (r : Refusal). c.args.out.now.items ++ refusal_text r) (sym c.in-TableFull.is)

pub returns-in-Incomplete-clause-text : goal.returns-in-Incomplete-clause-text
unfolding refusal_text
returns-in-Incomplete-clause-text c =
    c.put_name.ensures.text
    ∙ ap (λ (r : Refusal). c.args.out.now.items ++ refusal_text r) (sym c.in-Incomplete.is)

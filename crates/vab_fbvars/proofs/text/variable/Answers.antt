use Rattle.std.proofs.Common.{◌∙◌, ◌++◌, ℕ, codes, sym, ap}
use Rattle.std.specs.Prelude.{is_some}
use Rattle.vab_device.specs.Mounted.{state_on}
use Rattle.vab_fbproto.specs.declared.request.Var.{Var}
use Rattle.vab_fbproto.specs.Requests.{variable_of}
use Rattle.vab_fbproto.specs.Texts.{slot_letter}
use Rattle.vab_fbvars.specs.Variables.{variable_text, status_of, size_text, yes_or_no}
use Rattle.vab_fbvars.proofs.OnDevice.{status_on}
use Rattle.vab_fbvars.proofs.text.variable.Goals as goal

pub returns-in-CurrentSlot-clause-text : goal.returns-in-CurrentSlot-clause-text
unfolding state_on variable_text
returns-in-CurrentSlot-clause-text c = λ size image is sectors.
    c.put_letter.ensures.text
    ∙ ap (λ (slot : ℕ). codes "OKAY" ++ slot_letter slot) c.current.ensures
    ∙ ap (λ (v : Var). variable_text (state_on c.args.device.now image) (variable_of v))
    (sym c.in-CurrentSlot.is)

pub returns-in-SnapshotUpdateStatus-clause-text : goal.returns-in-SnapshotUpdateStatus-clause-text
unfolding state_on variable_text
returns-in-SnapshotUpdateStatus-clause-text c = λ size image is sectors.
    let d = c.args.device.now in
    c.put_status.ensures.text
    ∙ ap status_of c.phase.ensures
    ∙ sym (status_on d size image is)
    ∙ ap (λ (v : Var). variable_text (state_on d image) (variable_of v))
    (sym c.in-SnapshotUpdateStatus.is)

pub returns-in-PartitionSize-clause-text : goal.returns-in-PartitionSize-clause-text
unfolding variable_text
returns-in-PartitionSize-clause-text c = λ size image is sectors.
    c.put_size.ensures.text
    ∙ ap size_text (sym (c.size_of.ensures size image is sectors))
    ∙ ap (λ (v : Var). variable_text (state_on c.args.device.now image) (variable_of v))
    (sym c.in-PartitionSize.is)

pub returns-in-IsLogical-clause-text : goal.returns-in-IsLogical-clause-text
unfolding variable_text
returns-in-IsLogical-clause-text c = λ size image is sectors.
    c.put_answer-in-IsLogical.ensures.text
    ∙ ap yes_or_no
    (c.is_some.ensures
    ∙ ap is_some (sym (c.size_of-in-IsLogical.ensures size image is sectors)))
    ∙ ap (λ (v : Var). variable_text (state_on c.args.device.now image) (variable_of v))
    (sym c.in-IsLogical.is)

use Rattle.vab_builder.proofs.ChangeKeeps.{given_keeps}
use Rattle.vab_builder.proofs.change.change.Goals as goal

pub returns : goal.returns
returns c =
    let a = c.args in
    let k =
    given_keeps a.slot a.twins.now a.source.now a.target a.edit.now c.changed.result
    c.requires.update
    c.changed.ensures in
    record {
      exact = c.changed.ensures;
      asked = k.asked;
      others = k.others;
      rules = k.rules;
      parts = k.parts;
      device = k.device;
      groups = k.groups;
      few_parts = k.few_parts;
      few_groups = k.few_groups;
      few_runs = k.few_runs;
    }

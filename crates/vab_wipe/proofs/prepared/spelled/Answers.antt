use Rattle.std.proofs.Common.{subst}
use Rattle.vab_tables.specs.declared.table.Table.{Table}
use Rattle.vab_tables.specs.Text.{IsTableText}
use Rattle.vab_wipe.proofs.JudgedLaws.{same_minor}
use Rattle.vab_wipe.proofs.prepared.spelled.Goals as goal

pub returns-in-Ok-limits-clause-spelled : goal.returns-in-Ok-limits-clause-spelled
returns-in-Ok-limits-clause-spelled c =
    let text = c.in-Ok.ensures in
    record {
      text_is = text.text;
      long = text.size;
      stands = λ max fits.
          subst (λ (x : Table). IsTableText max c.in-Ok.text.items x)
          (same_minor c.args.table c.requires.minor) (text.stands max fits);
      parts_are = c.in-Ok-parts.ensures.parts;
      groups_are = c.in-Ok-limits.ensures.limits;
    }

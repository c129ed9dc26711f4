use Rattle.std.proofs.Common.{◌∙◌, ℕ, List, length, refl, sym, ap, subst}
use Rattle.vab_tables.specs.Spelling.{as_minor_2}
use Rattle.vab_tables.specs.Text.{IsTableText}
use Rattle.vab_layout.specs.Layout.{layout_of}
use Rattle.vab_device.specs.Phases.{plan_of}
use Rattle.vab_plan.specs.declared.planning.Scan.{Scan}
use Rattle.vab_plan.specs.Scans.{scans_of}
use Rattle.vab_begin.proofs.target.with_text.Goals as goal

pub returns-in-Ok-plan-clause-spelled : goal.returns-in-Ok-plan-clause-spelled
returns-in-Ok-plan-clause-spelled c = record {
  table = refl;
  text = c.from_vec-text.ensures ∙ c.in-Ok.ensures.text;
  long = ap length c.from_vec-text.ensures ∙ c.in-Ok.ensures.size;
  stands = λ max most.
      subst (λ (text : List ℕ). IsTableText max text (as_minor_2 c.args.table))
      (sym c.from_vec-text.ensures) (c.in-Ok.ensures.stands max most);
  plan = c.in-Ok-plan.ensures.plan
      ∙ ap (λ (scans : List Scan). plan_of c.args.slot (layout_of c.args.table) (scans_of scans))
      c.new.ensures.items;
}

use Rattle.std.proofs.Common.{◌≡◌, ◌∙◌, ◌-◌, List, Ok, ap, subst, arith}
use Rattle.vab_tables.specs.declared.table.Table.{Table}
use Rattle.vab_tables.specs.Text.{IsTableText}
use Rattle.vab_layout.specs.Layout.{layout_of}
use Rattle.vab_layout.specs.Slots.{twins_by}
use Rattle.vab_builder.specs.Edits.{edited_beside}
use Rattle.vab_device.specs.Phases.{plan_of}
use Rattle.vab_plan.specs.declared.planning.Scan.{Scan}
use Rattle.vab_plan.specs.Scans.{scans_of}
use Rattle.vab_edit.proofs.PreparedLaws.{target_table, same_minor, gives_layout, own_runs}
use Rattle.vab_edit.proofs.prepared.given.Goals as goal

pub plan-requires-clause-target : goal.plan-requires-clause-target
plan-requires-clause-target c =
    target_table (1 - c.args.slot) (twins_by c.args.apart (layout_of c.args.source.now).parts)
    (layout_of c.args.source.now).parts c.in-Ok.table
    c.in-Ok.ensures.rules c.in-Ok.ensures.target

pub returns-in-Ok-plan-clause-given : goal.returns-in-Ok-plan-clause-given
returns-in-Ok-plan-clause-given c =
    let u : Table = c.in-Ok.table in
    let twins = twins_by c.args.apart (layout_of c.args.source.now).parts in
    let said = edited_beside (1 - c.args.slot) twins (layout_of c.args.source.now)
    (layout_of c.args.target.now) c.args.max c.args.edit.now in
    let gives : said ≡ Ok (layout_of u) =
    gives_layout (1 - c.args.slot) c.args.max twins c.args.source.now c.args.target.now u
    c.args.edit.now c.in-Ok.ensures.exact c.in-Ok.ensures.layout in
    record {
      is_edited = record {
        rules = c.in-Ok.ensures.rules;
        size = c.in-Ok.ensures.size;
        layout = c.in-Ok.ensures.layout;
        runs = own_runs u said c.in-Ok.ensures.exact gives;
        others = c.in-Ok.ensures.others;
        target = c.in-Ok.ensures.target;
        device = c.in-Ok.ensures.device;
        groups = c.in-Ok.ensures.groups;
      };
      gives = gives;
      text_is = c.in-Ok-encode_table.ensures.text;
      is_text =
          subst (λ (x : Table). IsTableText c.args.max c.in-Ok-encode_table.text.items x)
          (same_minor u said c.in-Ok.ensures.exact)
          (c.in-Ok-encode_table.ensures.stands c.args.max c.in-Ok.ensures.size);
      fits = omega (arith, c.in-Ok-encode_table.ensures.size, c.in-Ok.ensures.size);
      is_plan =
          c.in-Ok-plan.ensures.plan
          ∙ ap (λ (l : List Scan). plan_of (1 - c.args.slot) (layout_of u) (scans_of l))
          c.new.ensures.items;
    }

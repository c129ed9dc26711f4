use Rattle.std.proofs.Common.{sym, ap, ◌∙◌}
use Rattle.vab_layout.specs.Layout.{layout_of, first_device}
use Rattle.vab_layout.proofs.LayoutLaws.{layout_keeps}
use Rattle.vab_builder.proofs.TableLaws.{layout_device}
use Rattle.vab_builder.proofs.TwinLaws.{twins_are}
use Rattle.vab_builder.proofs.judge.verdict.Goals as goal

pub fault-requires : goal.fault-requires
fault-requires c =
    let source = c.args.source.now in
    let target = c.args.target.now in
    record {
      source_keeps = c.requires.source_keeps;
      target_keeps = c.requires.target_keeps;
      update =
          record {
            low = c.requires.slot;
            source_rules = layout_keeps source c.requires.source_keeps;
            target_rules = layout_keeps target c.requires.target_keeps;
            own = c.requires.source_own;
            twins_are = twins_are c.args.apart (layout_of source).parts;
            parts = c.requires.target;
            device = layout_device source ∙ ap first_device c.requires.device
                ∙ sym (layout_device target);
          };
    }

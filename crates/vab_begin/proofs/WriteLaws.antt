-- What a begin writes is the begin's, and stands for the target's table.
use Rattle.std.proofs.Common.{◌≡◌, ◌∙◌, inl, inr, ℕ, ◌≤◌, Bool, List, length, sym, ap, subst}
use Rattle.std.proofs.Common.{arith}
use Rattle.vab_disk.specs.Disk.{IsAt}
use Rattle.vab_marks.specs.declared.mark.MarkPhase.TheVariants as marks
use Rattle.vab_marks.specs.Mark.{mark_spelling, begun}
use Rattle.vab_tables.specs.declared.table.Table.{Table}
use Rattle.vab_tables.specs.Spelling.{table_text, as_minor_2}
use Rattle.vab_tables.specs.Text.{IsTableText}
use Rattle.vab_layout.specs.Layout.{table_of}
use Rattle.vab_device.specs.declared.device.Device.{Device}
use Rattle.vab_begin.specs.declared.target.Target.{Target}
use Rattle.vab_begin.specs.Target.{IsTargetFor}
use Rattle.vab_begin.specs.Writes.{IsOfPlaces, IsOfBegun}
use Rattle.vab_begin.proofs.ImportLaws.{minor_2}

module _ (apart : Bool) (d : Device) (x : Target) (for : IsTargetFor apart d x) (text : List ℕ)
    (same : text ≡ x.text) where
  pub target_short : length text ≤ d.geometry.max
  target_short = omega (arith, ap length same, for.target.spelled.long, for.target.size)

  pub target_stands : IsTableText d.geometry.max text x.table
  target_stands =
      let gives = for.target.gives in
      let minor : as_minor_2 x.table ≡ x.table =
      ap as_minor_2 gives.2 ∙ minor_2 gives.0 ∙ sym gives.2 in
      subst (λ (t : Table). IsTableText d.geometry.max text t) minor
      (subst (λ (b : List ℕ). IsTableText d.geometry.max b (as_minor_2 x.table)) (sym same)
      (for.target.spelled.stands d.geometry.max for.target.size))

  spelled : text ≡ table_text (table_of for.target.gives.0)
  spelled = same ∙ for.target.spelled.text ∙ ap table_text for.target.gives.2

  short : length (table_text (table_of for.target.gives.0)) ≤ d.geometry.max
  short = omega (arith, ap length spelled, target_short)

  module _ (told : Type 0) (old : List ℕ) (idle : d.mark.phase ≡ marks.Idle) where
    pub places_in : (s : ℕ) (b : List ℕ)
        → IsOfPlaces told d text old s b
        → IsOfBegun told apart d old s b
    places_in s b w =
        let gives = for.target.gives in
        record {
          idle = idle;
          source = for.source;
          is = for.is;
          layout = gives.0;
          fits = gives.1;
          short = short;
          writes = inl (subst (λ (t : List ℕ). IsOfPlaces told d t old s b) spelled w);
        }

    pub mark_in : (s : ℕ) (b : List ℕ)
        → IsAt 2048 (mark_spelling (begun apart d.mark)) s b
        → IsOfBegun told apart d old s b
    mark_in s b w = record {
      idle = idle;
      source = for.source;
      is = for.is;
      layout = for.target.gives.0;
      fits = for.target.gives.1;
      short = short;
      writes = inr w;
    }

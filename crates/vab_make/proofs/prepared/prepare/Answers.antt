use Rattle.std.proofs.Common.{◌≡◌, ◌≤◌, ℕ, length, ap, subst, sym, ◌∙◌, arith}
use Rattle.std.specs.Prelude.{sum_by}
use Rattle.vab_tables.specs.declared.table.Table.{Table}
use Rattle.vab_tables.specs.Text.{IsTableText}
use Rattle.vab_tables.specs.Spelling.{table_size_of, as_minor_2}
use Rattle.vab_layout.specs.declared.layout.Layout.{Layout}
use Rattle.vab_layout.specs.Rules.{IsLayout}
use Rattle.vab_layout.specs.Layout.{table_of}
use Rattle.vab_blocks.specs.Runs.{runs_of}
use Rattle.vab_make.specs.Made.{made_layout, set_text_size}
use Rattle.vab_make.specs.Prepared.{HasRoom}
use Rattle.vab_make.proofs.LayoutLaws.{layout_keeps, runs_few, minor_2}
use Rattle.vab_make.proofs.RefusalLaws.{refuses_table, refuses_nothing}
use Rattle.vab_make.proofs.prepared.prepare.Goals as goal

pub text_size-size-requires-clause-groups : goal.text_size-size-requires-clause-groups
unfolding made_layout
text_size-size-requires-clause-groups c =
    omega (arith, ap (λ (l : Layout). length l.groups) c.in_ok-layout.ensures.value)

pub text_size-size-requires-clause-runs : goal.text_size-size-requires-clause-runs
unfolding made_layout
text_size-size-requires-clause-runs c =
    let runs : Layout → ℕ = λ l. sum_by (λ p. length (runs_of p.blocks)) l.parts in
    omega (
      arith,
      ap runs c.in_ok-layout.ensures.value,
      runs_few 0 c.args.set.now,
      c.requires.set.count,
    )

pub returns-then-size-from-clause-refused : goal.returns-then-size-from-clause-refused
returns-then-size-from-clause-refused c =
    let size : c.text_size-size.result ≡ set_text_size c.args.set.now c.args.limit c.args.sectors =
    c.text_size-size.ensures
    ∙ ap (λ (l : Layout). table_size_of (table_of l)) c.in_ok-layout.ensures.value in
    refuses_table c.args.set.now c.args.limit c.args.max c.args.sectors c.text_size-size.result
    c.in_ok-check_sizes.ensures.passed size (omega arith)

pub to_table-requires-clause-rules : goal.to_table-requires-clause-rules
to_table-requires-clause-rules c =
    let passed = c.in_ok-check_sizes.ensures.passed in
    let room : HasRoom c.args.set.now c.args.sectors =
    record { images = c.requires.set; enough = passed.enough; room = passed.room } in
    subst IsLayout (sym c.in_ok-layout.ensures.value)
    (layout_keeps c.args.set.now c.args.limit c.args.sectors room c.requires.limit
    c.requires.sectors)

pub returns-clause-none : goal.returns-clause-none
returns-clause-none c =
    let size : c.text_size-size.result ≡ set_text_size c.args.set.now c.args.limit c.args.sectors =
    c.text_size-size.ensures
    ∙ ap (λ (l : Layout). table_size_of (table_of l)) c.in_ok-layout.ensures.value in
    refuses_nothing c.args.set.now c.args.limit c.args.max c.args.sectors
    c.in_ok-check_sizes.ensures.passed (omega (arith, size))

pub returns-clause-text : goal.returns-clause-text
returns-clause-text c =
    let passed = c.in_ok-check_sizes.ensures.passed in
    let l : Layout = made_layout c.args.set.now c.args.limit c.args.sectors in
    let is : c.in_ok-table.table ≡ table_of l =
    c.in_ok-table.ensures.value ∙ ap table_of c.in_ok-layout.ensures.value in
    let size : c.text_size-size.result ≡ table_size_of (table_of l) =
    c.text_size-size.ensures
    ∙ ap (λ (l : Layout). table_size_of (table_of l)) c.in_ok-layout.ensures.value in
    let same : table_size_of c.in_ok-table.table ≡ table_size_of (table_of l) =
    ap table_size_of is in
    let fits : table_size_of c.in_ok-table.table ≤ c.args.max = omega (arith, size, same) in
    record {
      limited = c.requires.limit;
      room = record { images = c.requires.set; enough = passed.enough; room = passed.room };
      most = c.requires.most;
      stands =
          subst (λ (t : Table). IsTableText c.args.max c.in_ok-text.text.items t)
          (ap as_minor_2 is ∙ minor_2 l)
          (c.in_ok-text.ensures.stands c.args.max fits);
      short = omega (arith, c.in_ok-text.ensures.size, fits);
    }

use Rattle.std.proofs.Common.{◌≡◌, ◌∙◌, ◌≤◌, true, ℕ, List, length, sym, ap, subst, arith}
use Rattle.std.proofs.lemmas.Bool.{and_from, le-leb}
use Rattle.std.specs.Prelude.{nat_le}
use Rattle.vab_tables.specs.declared.table.Table.{Table}
use Rattle.vab_tables.specs.Spelling.{table_size_of}
use Rattle.vab_tables.specs.Text.{IsTableText}
use Rattle.vab_tidy.specs.Tidied.{has_others, alone}
use Rattle.vab_tidy.proofs.AloneLaws.{same_minor}
use Rattle.vab_tidy.proofs.prepared.alone_of.Goals as goal

pub returns : goal.returns
returns c =
    let t : Table = c.args.table.now in
    let u : Table = c.in_ok-alone.alone in
    let is = c.in_ok-alone.ensures in
    let text = c.in_ok-text.ensures in
    let has : has_others c.args.slot t ≡ true =
    sym c.has_others.ensures ∙ c.if-not-has_others.false in
    let size : table_size_of u ≤ c.args.max =
    omega (arith, c.if-table_size-from.false, c.table_size.ensures, c.from.ensures) in
    let short : nat_le (table_size_of (alone c.args.slot t)) c.args.max ≡ true =
    ap (λ (x : Table). nat_le (table_size_of x) c.args.max) (sym is.exact)
    ∙ le-leb (table_size_of u) c.args.max size in
    record {
      may = and_from _ _ has short;
      table = is.exact;
      layout = is.layout;
      rules = is.rules;
      own = is.own;
      size = size;
      text = c.from_vec.ensures ∙ text.text;
      fits = omega (arith, ap length c.from_vec.ensures, text.size, size);
      stands =
          subst (λ (l : List ℕ). IsTableText c.args.max l u) (sym c.from_vec.ensures)
          (subst (λ (x : Table). IsTableText c.args.max c.in_ok-text.text.items x)
          (same_minor u _ is.exact)
          (text.stands c.args.max size));
    }

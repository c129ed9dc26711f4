use Rattle.std.proofs.Common.{ℕ, List, not, ap, ◌∙◌, ◌||◌}
use Rattle.std.specs.List.{list_any}
use Rattle.std.specs.Str.{bytes_eq}
use Rattle.vab_bytes.specs.Name.{name_field}
use Rattle.vab_tables.proofs.NameSets.{is_known, known_more}
use Rattle.vab_tables.proofs.names.add_name.Goals as goal

pub returns-clause-added : goal.returns-clause-added
returns-clause-added c =
    let keys = c.args.names.now.keys in
    let field = name_field c.args.name.now in
    c.in_ok-new.ensures.added
    ∙ ap not (is_known c.to_field.result keys
    ∙ ap (λ (f : List ℕ). list_any (λ k. bytes_eq f k) keys) c.to_field.ensures)

pub returns-clause-names : goal.returns-clause-names
returns-clause-names c = λ field.
    let keys = c.args.names.now.keys in
    let p = λ (k : List ℕ). bytes_eq field k in
    ap (list_any p) c.in_ok-new.ensures.keys
    ∙ known_more p keys c.to_field.result
    ∙ ap (λ (f : List ℕ). list_any p keys || bytes_eq field f) c.to_field.ensures

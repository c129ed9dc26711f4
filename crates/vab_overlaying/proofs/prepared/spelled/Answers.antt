use Rattle.std.proofs.Common.{◌∙◌, ℕ, List, length, refl, ap, sym, subst}
use Rattle.vab_tables.specs.Spelling.{as_minor_2}
use Rattle.vab_tables.specs.Text.{IsTableText}
use Rattle.vab_overlaying.proofs.prepared.spelled.Goals as goal

pub returns-clause-spelled : goal.returns-clause-spelled
returns-clause-spelled c =
    let text = c.from_vec-text.ensures in
    let store = c.in_ok-store.ensures.store in
    record {
      table = refl;
      text = text ∙ c.in-Ok.ensures.text;
      long = ap length text ∙ c.in-Ok.ensures.size;
      stands = λ max fits.
          subst (λ (l : List ℕ). IsTableText max l (as_minor_2 c.args.table)) (sym text)
          (c.in-Ok.ensures.stands max fits);
      parts = c.in-Ok-parts.ensures.parts;
      part = c.in_ok-part.ensures.part;
      over = store.0;
      named = store.1;
      store = store.2;
    }

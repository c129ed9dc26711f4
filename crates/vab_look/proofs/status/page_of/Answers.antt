use Rattle.std.proofs.Common.{◌≡◌, sym, subst}
use Rattle.std.specs.Prelude.{IfOk}
use Rattle.vab_look.specs.declared.form.Form.{Form}
use Rattle.vab_look.specs.Facts.{status_facts}
use Rattle.vab_look.specs.Pages.{IsPageOf}
use Rattle.vab_look.proofs.status.page_of.Goals as goal

pub returns-in-Text : goal.returns-in-Text
returns-in-Text c = λ size image is whole.
    subst
    (λ (k : Form).
    IfOk c.status_page.result (λ text. IsPageOf k c.args.device.now image text.items))
    (sym c.in-Text.is)
    (c.status_page.ensures size image is whole)

pub returns-in-Json : goal.returns-in-Json
returns-in-Json c = λ size image is whole.
    subst
    (λ (k : Form).
    IfOk c.status_facts.result (λ text. IsPageOf k c.args.device.now image text.items))
    (sym c.in-Json.is)
    (subst
    (λ (k : Form).
    IfOk c.status_facts.result (λ text. text.items ≡ status_facts k c.args.device.now))
    c.in-Json.is c.status_facts.ensures)

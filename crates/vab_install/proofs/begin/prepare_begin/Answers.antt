use Rattle.std.proofs.Common.{◌≡◌, ◌≤◌, ℕ, List, sym, ◌∙◌, subst, arith}
use Rattle.vab_disk.specs.Disk.{Image}
use Rattle.vab_bootctl.specs.declared.slots.Control.{Control}
use Rattle.vab_lpstore.specs.Storing.{IsOfTable}
use Rattle.vab_statuses.proofs.StatusesLaws.{statuses_same}
use Rattle.vab_install.specs.Control.{IsWritten, cleared_of}
use Rattle.vab_install.proofs.BeginLaws.{table_behind, stays}
use Rattle.vab_install.proofs.CallsLaws.{ok_anyway}
use Rattle.vab_install.proofs.begin.prepare_begin.Goals as goal

pub returns-clause-control : goal.returns-clause-control
returns-clause-control g c = λ t.
    let before : Image = g.D.Disk.seen c.args.d.now in
    let old : Image = g.D.Disk.seen c.clear_update.new.d in
    let new : Image = g.D.Disk.seen c.store_table.new.d in
    let table = IsOfTable c.args.geometry.now c.args.target c.args.text.now in
    let same : new 4 ≡ old 4 =
    stays table old new 4 (c.store_table.ensures.touches.seen t)
    (λ w. (let behind : 4120 ≤ 4 =
    table_behind c.args.geometry.now c.args.target c.args.text.now 4 (new 4) w in omega arith)) in
    ok_anyway c.store_table.result
    (subst (λ (b : List ℕ).
    IsWritten (cleared_of c.args.control.now c.args.target) (before 4) b) (sym same)
    (subst (λ (k : Control). IsWritten k (before 4) (old 4)) c.cleared.ensures.exact
    (c.in_ok-clear_update.ensures.control t)))

pub returns-clause-statuses : goal.returns-clause-statuses
returns-clause-statuses g c = λ t.
    let old : Image = g.D.Disk.seen c.clear_update.new.d in
    let new : Image = g.D.Disk.seen c.store_table.new.d in
    let table = IsOfTable c.args.geometry.now c.args.target c.args.text.now in
    ok_anyway c.store_table.result
    (statuses_same old new
    (λ s is. stays table old new s (c.store_table.ensures.touches.seen t)
    (λ w. (let behind : 4120 ≤ s =
    table_behind c.args.geometry.now c.args.target c.args.text.now s (new s) w in
    omega (arith, behind, is.below))))
    ∙ c.in_ok-clear_update.ensures.statuses t)

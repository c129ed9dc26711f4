use Rattle.std.proofs.Common.{◌≡◌, ◌∙◌, ◌∷◌, [], List, ap}
use Rattle.std.proofs.lemmas.Result.{err_from_is_err_and}
use Rattle.vab_set.specs.declared.set.SetImage.{SetImage}
use Rattle.vab_device.specs.Mounted.{Mounted, mounted_on}
use Rattle.vab_cli.specs.Acts.{Course, course, line_act}
use Rattle.vab_cli.specs.Demo.{update_acts, update_orders}
use Rattle.vab_cli.specs.Installing.{left_behind}
use Rattle.vab_cli.specs.Verbs.{done_making}
use Rattle.vab_cli.proofs.ActsWritten.{does_as, does_more, does_short}
use Rattle.vab_cli.proofs.Courses.{kept_next, last_is, one_act, represents_next}
use Rattle.vab_cli.proofs.demo.live.Goals as goal

pub returns-in_err-made : goal.returns-in_err-made
returns-in_err-made g c =
    let p = err_from_is_err_and c.from_residual.result c.from_residual.ensures.1 in
    let d = c.args.device in
    let m : Mounted = mounted_on d (g.P.Disk.seen c.args.port.now) in
    let next : List SetImage = c.args.next.now in
    rw (p.1, p.2)
    (does_short g.P.Disk d
    (line_act (done_making c.args.set.now (g.P.Disk.size c.args.port.now)) ∷ [])
    (update_acts next (left_behind m next)) []
    (update_orders d.control.current next (left_behind m next)) c.args.port.now
    c.begin_life.new.port c.in_err-made.field-0.0 c.in_err-made.ensures)

pub update-requires-clause-kept : goal.update-requires-clause-kept
update-requires-clause-kept g c =
    kept_next g.P.Disk c.args.device c.in_ok-made.made _ c.args.port.now c.begin_life.new.port
    c.in_ok-made.ensures.performs

pub update-requires-clause-represents : goal.update-requires-clause-represents
update-requires-clause-represents g c =
    represents_next g.P.Disk c.args.device c.in_ok-made.made _ c.args.port.now
    c.begin_life.new.port c.in_ok-made.ensures.performs

pub returns : goal.returns
returns g c =
    let d = c.args.device in
    let made = c.in_ok-made.made in
    let old = c.args.port.now in
    let mid = c.begin_life.new.port in
    let new = c.update.new.port in
    let next : List SetImage = c.args.next.now in
    let m : Mounted = mounted_on d (g.P.Disk.seen old) in
    let n : Mounted = mounted_on made (g.P.Disk.seen mid) in
    let line = line_act (done_making c.args.set.now (g.P.Disk.size old)) in
    let acts = update_acts next (left_behind n next) in
    let orders = update_orders made.control.current next (left_behind n next) in
    let same : g.P.Disk.is_modelled → n ≡ m = λ t.
    last_is g.P.Disk d made (line ∷ []) acts old mid c.requires.represents
    c.in_ok-made.ensures.performs t
    ∙ ap (λ (x : Course). x.last) (one_act line m) in
    let kept : g.P.Disk.is_modelled → made ≡ d = λ t.
    (let wrote = c.in_ok-made.ensures.writes t in wrote.done.0) in
    does_as g.P.Disk d (line ∷ acts) _ orders _ old new c.update.result
    (λ t.
    ap
    (λ (x : Mounted). course (line ∷ update_acts next (left_behind x next)) m)
    (same t))
    (λ t. λ i. update_orders (kept t i).control.current next (left_behind (same t i) next))
    (does_more g.P.Disk d made (line ∷ []) acts [] orders old mid c.requires.represents
    c.in_ok-made.ensures new c.update.result c.update.ensures)

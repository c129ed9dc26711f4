use Rattle.std.proofs.Common.{◌∷◌, [], List, Ok, Err}
use Rattle.std.proofs.lemmas.Result.{err_from_is_err_and}
use Rattle.vab_model.specs.Commands.{Boot, Mark, BeginMerge}
use Rattle.vab_update.specs.Install.{order}
use Rattle.vab_update.specs.Orders.{Order}
use Rattle.vab_cli.specs.Acts.{Act, command_act}
use Rattle.vab_cli.proofs.ActsWritten.{does_more, does_one, does_short}
use Rattle.vab_cli.proofs.Courses.{kept_next, represents_next}
use Rattle.vab_cli.proofs.demo.take_over.Goals as goal

boot : Act
boot = command_act [] Boot

mark : Act
mark = command_act [] Mark

merge : Act
merge = command_act [] BeginMerge

-- the commands behind the first one
abbrev later : List Order
later = order Mark ∷ order BeginMerge ∷ []

pub returns-in_err-next : goal.returns-in_err-next
unfolding boot mark merge
returns-in_err-next g c =
    let p = err_from_is_err_and c.from_residual.result c.from_residual.ensures.1 in
    let e = c.in_err-next.field-0.0 in
    rw (p.1, p.2)
    (does_short g.P.Disk c.args.device (boot ∷ []) (mark ∷ merge ∷ []) (order Boot ∷ []) later
    c.args.port.now c.perform.new.port e
    (does_one g.P.Disk c.args.device boot (order Boot) c.args.port.now c.perform.new.port (Err e)
    c.in_err-next.ensures.performs c.in_err-next.ensures.writes))

pub perform-requires-2-clause-kept : goal.perform-requires-2-clause-kept
perform-requires-2-clause-kept g c =
    kept_next g.P.Disk c.args.device c.in_ok-next.next _ c.args.port.now c.perform.new.port
    c.in_ok-next.ensures.performs

pub perform-requires-2-clause-represents : goal.perform-requires-2-clause-represents
perform-requires-2-clause-represents g c =
    represents_next g.P.Disk c.args.device c.in_ok-next.next _ c.args.port.now
    c.perform.new.port c.in_ok-next.ensures.performs

pub returns-in_err-next-2 : goal.returns-in_err-next-2
unfolding boot mark merge
returns-in_err-next-2 g c =
    let p = err_from_is_err_and c.from_residual-in_err-next-2.result
    c.from_residual-in_err-next-2.ensures.1 in
    let d = c.args.device in
    let next = c.in_ok-next.next in
    let old = c.args.port.now in
    let mid = c.perform.new.port in
    let new = c.perform-2.new.port in
    let e = c.in_err-next-2.field-0.0 in
    rw (p.1, p.2)
    (does_more g.P.Disk d next (boot ∷ []) (mark ∷ merge ∷ []) (order Boot ∷ []) later old mid
    c.requires.represents
    (does_one g.P.Disk d boot (order Boot) old mid (Ok next) c.in_ok-next.ensures.performs
    c.in_ok-next.ensures.writes)
    new (Err e)
    (does_short g.P.Disk next (mark ∷ []) (merge ∷ []) (order Mark ∷ []) (order BeginMerge ∷ [])
    mid new e
    (does_one g.P.Disk next mark (order Mark) mid new (Err e) c.in_err-next-2.ensures.performs
    c.in_err-next-2.ensures.writes)))

pub perform-requires-3-clause-kept : goal.perform-requires-3-clause-kept
perform-requires-3-clause-kept g c =
    kept_next g.P.Disk c.in_ok-next.next c.in_ok-next-2.next _ c.perform.new.port
    c.perform-2.new.port c.in_ok-next-2.ensures.performs

pub perform-requires-3-clause-represents : goal.perform-requires-3-clause-represents
perform-requires-3-clause-represents g c =
    represents_next g.P.Disk c.in_ok-next.next c.in_ok-next-2.next _ c.perform.new.port
    c.perform-2.new.port c.in_ok-next-2.ensures.performs

pub returns : goal.returns
unfolding boot mark merge
returns g c =
    let d = c.args.device in
    let next = c.in_ok-next.next in
    let last = c.in_ok-next-2.next in
    let old = c.args.port.now in
    let mid = c.perform.new.port in
    let then = c.perform-2.new.port in
    let new = c.perform-3.new.port in
    let r = c.perform-3.result in
    does_more g.P.Disk d next (boot ∷ []) (mark ∷ merge ∷ []) (order Boot ∷ []) later old mid
    c.requires.represents
    (does_one g.P.Disk d boot (order Boot) old mid (Ok next) c.in_ok-next.ensures.performs
    c.in_ok-next.ensures.writes)
    new r
    (does_more g.P.Disk next last (mark ∷ []) (merge ∷ []) (order Mark ∷ [])
    (order BeginMerge ∷ []) mid then
    (represents_next g.P.Disk d next _ old mid c.in_ok-next.ensures.performs)
    (does_one g.P.Disk next mark (order Mark) mid then (Ok last) c.in_ok-next-2.ensures.performs
    c.in_ok-next-2.ensures.writes)
    new r
    (does_one g.P.Disk last merge (order BeginMerge) then new r c.perform-3.ensures.performs
    c.perform-3.ensures.writes))

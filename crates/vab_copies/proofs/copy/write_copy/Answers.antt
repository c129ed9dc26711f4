use Rattle.std.proofs.Common.{◌≡◌, ◌∙◌, ap, subst, refl}
use Rattle.std.specs.Prelude.{OnOk}
use Rattle.vab_disk.specs.Disk.{Image, set_sector}
use Rattle.vab_disk.specs.Calls.{Touches}
use Rattle.vab_disk.proofs.Moments.{adds_wider, adds_on}
use Rattle.vab_disk.proofs.CallLaws.{touches_wider, touches_on, touches_then}
use Rattle.vab_copies.specs.Copies.{with_text, with_rest, IsOfCopy}
use Rattle.vab_copies.proofs.Copying.{zeros_of, rest_of, first_of_copy, torn, torn_done, first_gate}
use Rattle.vab_copies.proofs.Copying.{behind, last_gate}
use Rattle.vab_copies.proofs.copy.write_copy.Goals as goal

pub returns-in_err-put_gate-clause-touches : goal.returns-in_err-put_gate-clause-touches
returns-in_err-put_gate-clause-touches g c =
    touches_wider g.D.Disk _ _ _ _ c.put_gate.ensures.touches
    (zeros_of c.args.text.now c.args.at c.args.count c.requires.some)

pub returns-in_err-put_gate-clause-copy : goal.returns-in_err-put_gate-clause-copy
returns-in_err-put_gate-clause-copy g c = λ t rest.
    adds_wider g.D.Disk.moment g.D.Disk.outcomes _ _ _ _ (c.put_gate.ensures.gate t rest)
    (first_gate c.args.text.now c.args.at c.args.count c.requires.some (g.D.Disk.seen c.args.d.now)
    (with_text c.args.count c.args.text.now (g.D.Disk.seen c.args.d.now) c.args.at) _)

pub returns-in_err-write_rest-clause-touches : goal.returns-in_err-write_rest-clause-touches
returns-in_err-write_rest-clause-touches g c =
    touches_on g.D.Disk _ _ _ _ _ _ c.put_gate.ensures.touches c.write_rest.ensures.touches
    (zeros_of c.args.text.now c.args.at c.args.count c.requires.some)
    (rest_of c.args.text.now c.args.at c.args.count c.requires.some)

pub returns-in_err-write_rest-clause-copy : goal.returns-in_err-write_rest-clause-copy
returns-in_err-write_rest-clause-copy g c = λ t rest.
    let old = g.D.Disk.seen c.args.d.now in
    let new = with_text c.args.count c.args.text.now old c.args.at in
    adds_on g.D.Disk.moment g.D.Disk.outcomes _ _ _ _ _
    (adds_wider g.D.Disk.moment g.D.Disk.outcomes _ _ _ _ (c.put_gate.ensures.gate t rest)
    (first_gate c.args.text.now c.args.at c.args.count c.requires.some old new _))
    (c.write_rest.ensures.touches.time t)
    (behind c.args.text.now c.args.at c.args.count c.requires.some old new
    (g.D.Disk.seen c.put_gate.new.d) _ _ _ (c.put_gate.ensures.touches.quiet.told t)
    (c.in_ok-put_gate.ensures.written t) (c.in_ok-put_gate.ensures.settled t))

pub returns-clause-touches : goal.returns-clause-touches
returns-clause-touches g c =
    touches_then g.D.Disk _ _ _ _
    (touches_on g.D.Disk _ _ _ _ _ _ c.put_gate.ensures.touches c.write_rest.ensures.touches
    (zeros_of c.args.text.now c.args.at c.args.count c.requires.some)
    (rest_of c.args.text.now c.args.at c.args.count c.requires.some))
    (touches_wider g.D.Disk _ _ _ _ c.put_gate-2.ensures.touches
    (first_of_copy c.args.text.now c.args.at c.args.count c.requires.some c.sector_of.result
    c.sector_of.ensures))

pub returns-clause-copy : goal.returns-clause-copy
returns-clause-copy g c = λ t rest.
    let old = g.D.Disk.seen c.args.d.now in
    let new = with_text c.args.count c.args.text.now old c.args.at in
    let mid : g.D.Disk.seen c.write_rest.new.d
    ≡ torn c.args.text.now c.args.at c.args.count c.requires.some old =
    c.in_ok-write_rest.ensures.written t
    ∙ ap (λ (image : Image). with_rest 1 c.args.count c.args.text.now image c.args.at)
    (c.in_ok-put_gate.ensures.written t) in
    adds_on g.D.Disk.moment g.D.Disk.outcomes _ _ _ _ _
    (adds_on g.D.Disk.moment g.D.Disk.outcomes _ _ _ _ _
    (adds_wider g.D.Disk.moment g.D.Disk.outcomes _ _ _ _ (c.put_gate.ensures.gate t rest)
    (first_gate c.args.text.now c.args.at c.args.count c.requires.some old new _))
    (c.write_rest.ensures.touches.time t)
    (behind c.args.text.now c.args.at c.args.count c.requires.some old new
    (g.D.Disk.seen c.put_gate.new.d) _ _ _ (c.put_gate.ensures.touches.quiet.told t)
    (c.in_ok-put_gate.ensures.written t) (c.in_ok-put_gate.ensures.settled t)))
    (c.put_gate-2.ensures.gate t
    (c.in_ok-write_rest.ensures.settled t (c.in_ok-put_gate.ensures.settled t)))
    (last_gate c.args.text.now c.args.at c.args.count c.requires.some old
    (g.D.Disk.seen c.write_rest.new.d) _ _ c.sector_of.result
    (c.write_rest.ensures.touches.quiet.told t ∙ c.put_gate.ensures.touches.quiet.told t)
    mid c.sector_of.ensures)

pub returns-clause-written : goal.returns-clause-written
returns-clause-written g c = λ t.
    let old = g.D.Disk.seen c.args.d.now in
    let mid : g.D.Disk.seen c.write_rest.new.d
    ≡ torn c.args.text.now c.args.at c.args.count c.requires.some old =
    c.in_ok-write_rest.ensures.written t
    ∙ ap (λ (image : Image). with_rest 1 c.args.count c.args.text.now image c.args.at)
    (c.in_ok-put_gate.ensures.written t) in
    let done : set_sector (g.D.Disk.seen c.write_rest.new.d) c.args.at c.sector_of.result
    ≡ with_text c.args.count c.args.text.now old c.args.at =
    (λ j. set_sector (mid j) c.args.at (c.sector_of.ensures j))
    ∙ torn_done c.args.text.now c.args.at c.args.count c.requires.some old in
    subst (λ (image : Image). OnOk c.put_gate-2.result (g.D.Disk.seen c.put_gate-2.new.d ≡ image))
    done
    (c.put_gate-2.ensures.written t)

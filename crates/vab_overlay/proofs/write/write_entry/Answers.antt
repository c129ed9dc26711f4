use Rattle.std.proofs.Common.{◌≡◌, ◌∙◌, ℕ, List, length, replicate, ap, subst, arith}
use Rattle.std.specs.Prelude.{Option, IfSome}
use Rattle.std.proofs.lemmas.Result.{on_ok_weaker}
use Rattle.vab_disk.specs.Disk.{Adds}
use Rattle.vab_disk.specs.Calls.{Touches}
use Rattle.vab_exceptions.specs.declared.area.Exception.{Exception}
use Rattle.vab_store.specs.Layout.{chunk_bytes}
use Rattle.vab_store.specs.Setting.{entry_place}
use Rattle.vab_store.proofs.SettingLaws.{exception_of, place_most}
use Rattle.vab_overlay.specs.Data.{next_page, IsDataAt}
use Rattle.vab_overlay.specs.Entry.{WithEntry, LeavesEntry, IsEntryAt}
use Rattle.vab_overlay.proofs.StepLaws.{touches_data, touches_both, time_data, prepared_of}
use Rattle.vab_overlay.proofs.StepLaws.{time_both}
use Rattle.vab_overlay.proofs.WrittenLaws.{Prepared, written}
use Rattle.vab_overlay.proofs.write.write_entry.Goals as goal

pub returns-in_err-put_data-clause-touches : goal.returns-in_err-put_data-clause-touches
returns-in_err-put_data-clause-touches g c =
    let es : List Exception = c.args.view.now in
    let block : ℕ = c.args.block in
    let next_is : c.next_page.result ≡ next_page (length es) (entry_place es block) =
    c.next_page.ensures ∙ ap (λ n. next_page n c.place_of-place.result) c.count.ensures
    ∙ ap (next_page (length es)) c.place_of-place.ensures in
    touches_data g.D.Disk c.args.store.now es block c.args.chunk c.args.from.now c.args.d.now
    c.put_data.new.d c.requires.lowest c.requires.inside c.requires.room
    (subst (λ (o : Option ℕ). Touches g.D.Disk
    (IsDataAt c.args.store.now c.args.chunk c.args.from.now o) c.args.d.now c.put_data.new.d)
    next_is
    c.put_data.ensures.touches)
    c.requires.may.bound c.requires.may.fits

pub returns-in_err-put_data-clause-time : goal.returns-in_err-put_data-clause-time
returns-in_err-put_data-clause-time g c = λ t rest bound above overlaid.
    let es : List Exception = c.args.view.now in
    let block : ℕ = c.args.block in
    let next_is : c.next_page.result ≡ next_page (length es) (entry_place es block) =
    c.next_page.ensures ∙ ap (λ n. next_page n c.place_of-place.result) c.count.ensures
    ∙ ap (next_page (length es)) c.place_of-place.ensures in
    time_data g.D.Disk c.args.store.now es block c.args.chunk c.args.from.now c.args.d.now
    c.put_data.new.d c.requires.lowest c.requires.inside c.requires.room
    (subst (λ (o : Option ℕ). Touches g.D.Disk
    (IsDataAt c.args.store.now c.args.chunk c.args.from.now o) c.args.d.now c.put_data.new.d)
    next_is
    c.put_data.ensures.touches)
    bound t (c.requires.apart t) rest overlaid

pub gate_entry-requires-clause-there : goal.gate_entry-requires-clause-there
gate_entry-requires-clause-there g c =
    let es : List Exception = c.args.view.now in
    omega (
      arith,
      c.place_of-place.ensures,
      place_most es c.args.block,
      c.requires.may.fits.room,
    )

pub returns-clause-touches : goal.returns-clause-touches
returns-clause-touches g c =
    let es : List Exception = c.args.view.now in
    let block : ℕ = c.args.block in
    let next_is : c.next_page.result ≡ next_page (length es) (entry_place es block) =
    c.next_page.ensures ∙ ap (λ n. next_page n c.place_of-place.result) c.count.ensures
    ∙ ap (next_page (length es)) c.place_of-place.ensures in
    touches_both g.D.Disk c.args.store.now es block c.args.chunk c.args.from.now c.args.d.now
    c.put_data.new.d c.requires.lowest c.requires.inside c.requires.room
    (subst (λ (o : Option ℕ). Touches g.D.Disk
    (IsDataAt c.args.store.now c.args.chunk c.args.from.now o) c.args.d.now c.put_data.new.d)
    next_is
    c.put_data.ensures.touches)
    c.requires.may.bound c.gate_entry.new.d c.requires.may.fits c.requires.apart
    (subst (λ (p : ℕ). Touches g.D.Disk
    (IsEntryAt c.args.store.now p (exception_of block c.args.chunk)
    (g.D.Disk.seen c.put_data.new.d))
    c.put_data.new.d c.gate_entry.new.d) c.place_of-place.ensures c.gate_entry.ensures.touches)

pub returns-clause-time : goal.returns-clause-time
returns-clause-time g c = λ t rest bound above overlaid.
    let store : List ℕ = c.args.store.now in
    let es : List Exception = c.args.view.now in
    let block : ℕ = c.args.block in
    let chunk : ℕ = c.args.chunk in
    let mid = c.put_data.new.d in
    let next_is : c.next_page.result ≡ next_page (length es) (entry_place es block) =
    c.next_page.ensures ∙ ap (λ n. next_page n c.place_of-place.result) c.count.ensures
    ∙ ap (next_page (length es)) c.place_of-place.ensures in
    let data_touches : Touches g.D.Disk
    (IsDataAt store chunk c.args.from.now (next_page (length es) (entry_place es block)))
    c.args.d.now mid =
    subst (λ (o : Option ℕ). Touches g.D.Disk (IsDataAt store chunk c.args.from.now o) c.args.d.now
    mid)
    next_is c.put_data.ensures.touches in
    let ready : Prepared store bound es block chunk c.args.from.now (g.D.Disk.seen c.args.d.now)
    (g.D.Disk.seen mid) =
    prepared_of g.D.Disk store es block chunk c.args.from.now c.args.d.now mid c.requires.lowest
    c.requires.inside c.requires.room data_touches bound t (c.requires.apart t)
    c.requires.may.on_disk above overlaid (c.in_ok-put_data.ensures.bytes t)
    (subst (λ (o : Option ℕ). IfSome o
    (λ b. chunk_bytes store (g.D.Disk.seen mid) b ≡ replicate 4096 0)) next_is
    (c.in_ok-put_data.ensures.zeros t))
    (λ s below. (g.met.D.Disk.whole mid s (g.D.Disk.seen mid s) below
    (g.met.D.Disk.seen_held mid s)).long) in
    time_both g.D.Disk store es block chunk c.args.from.now c.args.d.now mid c.requires.lowest
    c.requires.inside c.requires.room data_touches bound c.gate_entry.new.d t rest ready
    (subst (λ (p : ℕ). Adds g.D.Disk.moment g.D.Disk.outcomes mid c.gate_entry.new.d
    (LeavesEntry store p (exception_of block chunk) (g.D.Disk.told mid) (g.D.Disk.seen mid)))
    c.place_of-place.ensures
    (c.gate_entry.ensures.gate t (c.in_ok-put_data.ensures.settled t)))

pub returns-clause-written : goal.returns-clause-written
returns-clause-written g c = λ t.
    let store : List ℕ = c.args.store.now in
    let es : List Exception = c.args.view.now in
    let block : ℕ = c.args.block in
    let chunk : ℕ = c.args.chunk in
    let mid = c.put_data.new.d in
    let next_is : c.next_page.result ≡ next_page (length es) (entry_place es block) =
    c.next_page.ensures ∙ ap (λ n. next_page n c.place_of-place.result) c.count.ensures
    ∙ ap (next_page (length es)) c.place_of-place.ensures in
    let data_touches : Touches g.D.Disk
    (IsDataAt store chunk c.args.from.now (next_page (length es) (entry_place es block)))
    c.args.d.now mid =
    subst (λ (o : Option ℕ). Touches g.D.Disk (IsDataAt store chunk c.args.from.now o) c.args.d.now
    mid)
    next_is c.put_data.ensures.touches in
    on_ok_weaker c.gate_entry.result
    (λ put bound above overlaid.
    let ready : Prepared store bound es block chunk c.args.from.now (g.D.Disk.seen c.args.d.now)
    (g.D.Disk.seen mid) =
    prepared_of g.D.Disk store es block chunk c.args.from.now c.args.d.now mid c.requires.lowest
    c.requires.inside c.requires.room data_touches bound t (c.requires.apart t)
    c.requires.may.on_disk above overlaid (c.in_ok-put_data.ensures.bytes t)
    (subst (λ (o : Option ℕ). IfSome o
    (λ b. chunk_bytes store (g.D.Disk.seen mid) b ≡ replicate 4096 0)) next_is
    (c.in_ok-put_data.ensures.zeros t))
    (λ s below. (g.met.D.Disk.whole mid s (g.D.Disk.seen mid s) below
    (g.met.D.Disk.seen_held mid s)).long) in
    written store bound es block chunk c.args.from.now (g.D.Disk.seen c.args.d.now)
    (g.D.Disk.seen mid) (g.D.Disk.seen c.gate_entry.new.d) ready
    (subst (λ (p : ℕ). WithEntry store p (exception_of block chunk) (g.D.Disk.seen mid)
    (g.D.Disk.seen c.gate_entry.new.d)) c.place_of-place.ensures put))
    (c.gate_entry.ensures.written t)

pub next_page-requires : goal.next_page-requires
next_page-requires g c =
    omega (
      arith,
      c.place_of-place.ensures,
      place_most c.args.view.now c.args.block,
      c.requires.room,
      c.len-blocks.ensures.count,
      c.len-blocks.ensures.small,
    )

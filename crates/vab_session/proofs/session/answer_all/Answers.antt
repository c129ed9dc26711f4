use Rattle.std.proofs.Common.{◌≡◌, ℕ, ◌∙◌, min, true, false, List, Some, None, Ok, Err, refl, sym}
use Rattle.std.proofs.Common.{ap, subst, rules}
use Rattle.vab_disk.specs.Disk.{Image}
use Rattle.vab_disk.proofs.CallLaws.{fewer_then, changes_none}
use Rattle.vab_disk.proofs.Moments.{adds_none}
use Rattle.vab_model.specs.Commands.{Merge}
use Rattle.vab_device.specs.declared.device.Device.{Device}
use Rattle.vab_device.specs.Kept.{IsDevice}
use Rattle.vab_device.specs.Mounted.{Mounted, mounted_on}
use Rattle.vab_device.specs.Reading.{IsIn, Represents}
use Rattle.vab_device.proofs.DoesLaws.{keeps_all}
use Rattle.vab_device.proofs.ReadingLaws.{device_stands}
use Rattle.vab_commands.proofs.ChangeLaws.{follows_then, changes_by_then}
use Rattle.vab_fbproto.specs.Requests.{request_of}
use Rattle.vab_exchanges.specs.Session.{ends_session, Stops, Closed}
use Rattle.vab_exchanges.specs.Reading.{rest_of, beyond_of, total_of, most_of, EndsAs, StopsBy}
use Rattle.vab_exchanges.specs.Items.{Kept, passed}
use Rattle.vab_exchanges.specs.Runs.{Passes, Ran}
use Rattle.vab_exchanges.proofs.Progress.{begun, stopped, answered, rebooted, failed_passing}
use Rattle.vab_session.specs.declared.fault.SessionFault.{SessionFault}
use Rattle.vab_session.specs.Sparing.{asks_source}
use Rattle.vab_session.specs.Responses.{response, turns_between, machine}
use Rattle.vab_session.specs.declared.fault.Ended.{Ended}
use Rattle.vab_session.specs.Served.{kept_on, HasCause, HeldBy, Says}
use Rattle.vab_session.proofs.Data.{read_cause}
use Rattle.vab_session.proofs.ReadLaws.{was_read, ends_read, spares_read, writes_read}
use Rattle.vab_session.specs.Written.{IsOfChange, WritesPacket}
use Rattle.vab_session.proofs.Endings.{moved, some_is, does_moved, read_fails, answer_fails}
use Rattle.vab_session.proofs.Endings.{came_on, kept_now}
use Rattle.vab_session.proofs.Changing.{changes_heard, changes_still, changes_answered}
use Rattle.vab_session.proofs.Changing.{asks_none, follows_kept}
use Rattle.vab_commands.proofs.CopiesLaws.{both_copies, copies_stay}
use Rattle.vab_commands.specs.Copies.{HasBothCopies}
use Rattle.std.proofs.Common.{◌≤◌, length}
use Rattle.vab_disk.specs.Calls.{IsAtRest}
use Rattle.vab_exchanges.specs.Session.{IsExchange}
use Rattle.vab_exchanges.proofs.Progress.{still_settled}
use Rattle.vab_session.specs.declared.fault.SessionFault.TheVariants.{Disk}
use Rattle.vab_session.proofs.WrittenLaws.{exchange_here, packet_by, writes_heard, writes_still}
use Rattle.vab_session.proofs.WrittenLaws.{written_end, written_last, written_more, written_none}
use Rattle.vab_session.proofs.session.answer_all.Goals as goal

pub returns-in-Err-clause-ran : goal.returns-in-Err-clause-ran
returns-in-Err-clause-ran g c = λ t are told greeted.
    let old = c.args.p.now in
    let start = c.loop-next.p in
    let mid = c.go_on.new.d in
    let N = g.P.Disk.size old in
    let turns = c.args.turns in
    let i = c.loop-next.invariant in
    let on = c.in-Err.ensures in
    let r0 = c.args.reader.now in
    let l0 = g.P.Disk.input_left old in
    let bytes = rest_of r0 l0 in
    let beyond = beyond_of r0 l0 in
    let total = total_of r0 l0 in
    let most = most_of r0 in
    let first = kept_on c.args.kept (g.P.Disk.seen old) in
    let kept = c.loop-next.kept in
    let base = kept_on kept (g.P.Disk.seen start) in
    let left = rest_of c.loop-next.reader (g.P.Disk.input_left start) in
    let failed : c.in-Err.fault ≡ Disk = let is = on.fault in cc in
    subst
    (λ (e : SessionFault).
    Ran (machine turns) (IsIn N) g.P.Disk (HeldBy e) (Says (Err e)) None (min most total) total
    most bytes beyond first told old mid)
    (sym failed)
    (failed_passing (machine turns) (IsIn N) g.P.Disk bytes beyond first told old start left base
    (min most total) total most mid (i.progress t told greeted) are
    (subst
    (λ (n : ℕ). Passes (IsIn n) g.P.Disk (turns_between turns base.now) base.now start mid)
    i.size (on.passes t)))

pub returns-in-Ok-false-clause-ran : goal.returns-in-Ok-false-clause-ran
returns-in-Ok-false-clause-ran g c = λ t are told greeted.
    let old = c.args.p.now in
    let start = c.loop-next.p in
    let mid = c.go_on.new.d in
    let now = c.packet.new.p in
    let N = g.P.Disk.size old in
    let turns = c.args.turns in
    let i = c.loop-next.invariant in
    let on = c.in-Ok.ensures in
    let r0 = c.args.reader.now in
    let l0 = g.P.Disk.input_left old in
    let bytes = rest_of r0 l0 in
    let beyond = beyond_of r0 l0 in
    let total = total_of r0 l0 in
    let most = most_of r0 in
    let first = kept_on c.args.kept (g.P.Disk.seen old) in
    let kept = c.loop-next.kept in
    let next = c.in-Ok.next in
    let base = kept_on kept (g.P.Disk.seen start) in
    let r = c.loop-next.reader in
    let lm = g.P.Disk.input_left mid in
    let same = on.quiet.left t in
    let left = rest_of r lm in
    let listens = c.packet.ensures.listens in
    let counted = ap (total_of r) same ∙ i.count t in
    let then = kept_now turns g.P.Disk start mid now kept next t on (listens.seen t) in
    let so_far =
    came_on turns N g.P.Disk bytes beyond first told old start mid now r kept next i.size t
    (i.progress t told greeted) on (i.beyond t) listens in
    let closed = rw c.in-Ok-false.field-0-test at c.in-Ok-false.ensures.closed t in
    let ends =
    moved (λ m n. EndsAs (Stops (min m n) left) n m Closed)
    most (most_of r) total (total_of r lm) i.most counted closed in
    let reached = mounted_on c.device_of.result (g.P.Disk.seen now) in
    stopped (machine turns) (IsIn N) g.P.Disk bytes beyond first told old now left
    (turns_between turns base.now) base so_far refl
    (Unit {0}) (Some reached) (min most total) total most Closed ends
    (λ s is.
    some_is reached s is
    ∙ ap (λ (d : Device). mounted_on d (g.P.Disk.seen now)) c.device_of.ensures
    ∙ ap (λ (k : Kept Mounted). k.now) then)

pub returns-in-Err-packet-clause-ran : goal.returns-in-Err-packet-clause-ran
returns-in-Err-packet-clause-ran g c = λ t are told greeted.
    let old = c.args.p.now in
    let start = c.loop-next.p in
    let mid = c.go_on.new.d in
    let now = c.packet.new.p in
    let N = g.P.Disk.size old in
    let turns = c.args.turns in
    let i = c.loop-next.invariant in
    let on = c.in-Ok.ensures in
    let r0 = c.args.reader.now in
    let l0 = g.P.Disk.input_left old in
    let bytes = rest_of r0 l0 in
    let beyond = beyond_of r0 l0 in
    let total = total_of r0 l0 in
    let most = most_of r0 in
    let first = kept_on c.args.kept (g.P.Disk.seen old) in
    let kept = c.loop-next.kept in
    let next = c.in-Ok.next in
    let base = kept_on kept (g.P.Disk.seen start) in
    let r = c.loop-next.reader in
    let lm = g.P.Disk.input_left mid in
    let same = on.quiet.left t in
    let left = rest_of r lm in
    let listens = c.packet.ensures.listens in
    let counted = ap (total_of r) same ∙ i.count t in
    let then = kept_now turns g.P.Disk start mid now kept next t on (listens.seen t) in
    let so_far =
    came_on turns N g.P.Disk bytes beyond first told old start mid now r kept next i.size t
    (i.progress t told greeted) on (i.beyond t) listens in
    let why =
    moved (λ m n. StopsBy (Stops (min m n) left) n m c.in-Err-packet.fault)
    most (most_of r) total (total_of r lm) i.most counted (c.in-Err-packet.ensures.fault t) in
    subst
    (λ (e : SessionFault).
    Ran (machine turns) (IsIn N) g.P.Disk (HeldBy e) (Says (Err e)) None (min most total) total
    most bytes beyond first told old now)
    (sym c.from.ensures)
    (read_fails turns N g.P.Disk bytes beyond first told old now left base so_far
    (min most total) total most are c.in-Err-packet.fault why)

pub returns-in-Err-answer-clause-ran : goal.returns-in-Err-answer-clause-ran
returns-in-Err-answer-clause-ran g c = λ t are told greeted.
    let old = c.args.p.now in
    let start = c.loop-next.p in
    let mid = c.go_on.new.d in
    let now = c.packet.new.p in
    let N = g.P.Disk.size old in
    let turns = c.args.turns in
    let i = c.loop-next.invariant in
    let on = c.in-Ok.ensures in
    let r0 = c.args.reader.now in
    let l0 = g.P.Disk.input_left old in
    let bytes = rest_of r0 l0 in
    let beyond = beyond_of r0 l0 in
    let total = total_of r0 l0 in
    let most = most_of r0 in
    let first = kept_on c.args.kept (g.P.Disk.seen old) in
    let kept = c.loop-next.kept in
    let next = c.in-Ok.next in
    let base = kept_on kept (g.P.Disk.seen start) in
    let r = c.loop-next.reader in
    let lm = g.P.Disk.input_left mid in
    let same = on.quiet.left t in
    let left = rest_of r lm in
    let listens = c.packet.ensures.listens in
    let counted = ap (total_of r) same ∙ i.count t in
    let then = kept_now turns g.P.Disk start mid now kept next t on (listens.seen t) in
    let so_far =
    came_on turns N g.P.Disk bytes beyond first told old start mid now r kept next i.size t
    (i.progress t told greeted) on (i.beyond t) listens in
    let ok = c.in-Ok-true.ensures in
    let body = c.packet.new.packet.items in
    let q = c.packet.new.self in
    let lq = g.P.Disk.input_left now in
    let before = rest_of q lq in
    let new = c.answer.new.p in
    let after = rest_of c.answer.new.reader (g.P.Disk.input_left new) in
    let fits = rw c.in-Ok-true.field-0-test at ok.fits in
    let is = rw c.in-Ok-true.field-0-test at ok.packet t in
    let sizes = ok.listens.size ∙ on.quiet.size ∙ i.size in
    let done =
    does_moved g.P.Disk (kept_on next (g.P.Disk.seen now)) (passed (machine turns) base) before
    after
    (g.P.Disk.size now) N (total_of q lq) total (most_of q) most
    c.as_slice.result.now body (beyond_of q lq) beyond now new (Err c.in-Err-answer.fault)
    then sizes c.as_slice.ensures.value (ok.beyond t ∙ ap (beyond_of r) same ∙ i.beyond t)
    (ok.count t ∙ counted) (c.packet.ensures.most ∙ i.most)
    (c.in-Err-answer.ensures.does t c.as_slice.result.now
    (was_read c.as_slice.result.now c.read_command-request.result
    c.read_command-request.ensures)) in
    answer_fails turns N g.P.Disk bytes beyond first told old now left base so_far
    (min most total) total most are body before fits is new c.in-Err-answer.fault done

pub returns-then-last-clause-ran : goal.returns-then-last-clause-ran
returns-then-last-clause-ran g c = λ t are told greeted.
    let old = c.args.p.now in
    let start = c.loop-next.p in
    let mid = c.go_on.new.d in
    let now = c.packet.new.p in
    let N = g.P.Disk.size old in
    let turns = c.args.turns in
    let i = c.loop-next.invariant in
    let on = c.in-Ok.ensures in
    let r0 = c.args.reader.now in
    let l0 = g.P.Disk.input_left old in
    let bytes = rest_of r0 l0 in
    let beyond = beyond_of r0 l0 in
    let total = total_of r0 l0 in
    let most = most_of r0 in
    let first = kept_on c.args.kept (g.P.Disk.seen old) in
    let kept = c.loop-next.kept in
    let next = c.in-Ok.next in
    let base = kept_on kept (g.P.Disk.seen start) in
    let r = c.loop-next.reader in
    let lm = g.P.Disk.input_left mid in
    let same = on.quiet.left t in
    let left = rest_of r lm in
    let listens = c.packet.ensures.listens in
    let counted = ap (total_of r) same ∙ i.count t in
    let then = kept_now turns g.P.Disk start mid now kept next t on (listens.seen t) in
    let so_far =
    came_on turns N g.P.Disk bytes beyond first told old start mid now r kept next i.size t
    (i.progress t told greeted) on (i.beyond t) listens in
    let ok = c.in-Ok-true.ensures in
    let body = c.packet.new.packet.items in
    let q = c.packet.new.self in
    let lq = g.P.Disk.input_left now in
    let before = rest_of q lq in
    let new = c.answer.new.p in
    let after = rest_of c.answer.new.reader (g.P.Disk.input_left new) in
    let fits = rw c.in-Ok-true.field-0-test at ok.fits in
    let is = rw c.in-Ok-true.field-0-test at ok.packet t in
    let sizes = ok.listens.size ∙ on.quiet.size ∙ i.size in
    let done =
    does_moved g.P.Disk (kept_on next (g.P.Disk.seen now)) (passed (machine turns) base) before
    after
    (g.P.Disk.size now) N (total_of q lq) total (most_of q) most
    c.as_slice.result.now body (beyond_of q lq) beyond now new (Ok c.in-Ok-answer.next)
    then sizes c.as_slice.ensures.value (ok.beyond t ∙ ap (beyond_of r) same ∙ i.beyond t)
    (ok.count t ∙ counted) (c.packet.ensures.most ∙ i.most)
    (c.in-Ok-answer.ensures.does t c.as_slice.result.now
    (was_read c.as_slice.result.now c.read_command-request.result
    c.read_command-request.ensures)) in
    let last =
    subst (λ (l : List ℕ). ends_session l ≡ true) c.as_slice.ensures.value
    (ends_read c.as_slice.result.now c.read_command-request.result true
    c.read_command-request.ensures
    (sym c.is_last-last.ensures ∙ c.if-last.true)) in
    let reached = mounted_on c.device_of-device.result (g.P.Disk.seen new) in
    rebooted (machine turns) (IsIn N) g.P.Disk bytes beyond first told old now left
    (turns_between turns base.now) base so_far refl
    body before fits is (Unit {0}) (Some reached) (min most total) total most after new
    (kept_on c.in-Ok-answer.next (g.P.Disk.seen new)) last done
    (λ s is.
    some_is reached s is
    ∙ ap (λ (d : Device). mounted_on d (g.P.Disk.seen new)) c.device_of-device.ensures)

pub loop-next-preserved : goal.loop-next-preserved
loop-next-preserved g c =
    let N = g.P.Disk.size c.args.p.now in
    let i = c.loop-next.invariant in
    let on = c.in-Ok.ensures in
    let ok = c.in-Ok-true.ensures in
    let sizes = ok.listens.size ∙ on.quiet.size ∙ i.size in
    let answer = c.in-Ok-answer.ensures in
    let after = c.in-Ok-answer.next in
    record {
      place = answer.place;
      fed = answer.fed;
      most = c.answer.ensures.most ∙ c.packet.ensures.most ∙ i.most;
      count = λ t.
          answer.count t
          ∙ ok.count t
          ∙ ap (total_of c.loop-next.reader) (on.quiet.left t)
          ∙ i.count t;
      beyond = λ t.
          answer.beyond t
          ∙ ok.beyond t
          ∙ ap (beyond_of c.loop-next.reader) (on.quiet.left t)
          ∙ i.beyond t;
      size = c.answer.ensures.size ∙ sizes;
      device = subst (λ (n : ℕ). IsDevice after.device n) sizes answer.device;
      stands = λ t.
          subst (λ (n : ℕ). Represents after.device n (g.P.Disk.seen c.answer.new.p)) sizes
          (answer.stands t);
      follows = λ t.
          follows_then c.args.kept.device c.in-Ok.next.device after.device _ _
          (λ p.
          spares_read c.as_slice.result.now c.read_command-request.result
          c.read_command-request.ensures
          (subst (λ (l : List ℕ). asks_source (request_of l) ≡ false)
          (sym c.as_slice.ensures.value)
          (asks_none c.args.turns (g.P.Disk.size c.args.p.now) g.P.Disk _ _ _ p.0.0 _ _ _ _
          (c.loop-next.invariant.progress t p.0.0 p.0.1) p.1 _ _
          (ap (rest_of c.loop-next.reader) (sym (c.in-Ok.ensures.quiet.left t))
          ∙ rw c.in-Ok-true.field-0-test at c.in-Ok-true.ensures.packet t))))
          (follows_then c.args.kept.device c.loop-next.kept.device c.in-Ok.next.device
          _ _ (λ p. p.2) (c.loop-next.invariant.follows t) c.in-Ok.ensures.follows) answer.follows;
      changes = λ t.
          changes_answered g.P.Disk (g.P.Disk.size c.args.p.now) c.args.kept.device
          c.in-Ok.next.device _ _ _ _ c.args.p.now c.go_on.new.d c.packet.new.p c.answer.new.p t
          (c.requires.stands t)
          (subst (λ (n : ℕ). Represents c.in-Ok.next.device n (g.P.Disk.seen c.go_on.new.d))
          c.loop-next.invariant.size (c.in-Ok.ensures.stands t))
          (λ p.
          spares_read c.as_slice.result.now c.read_command-request.result
          c.read_command-request.ensures
          (subst (λ (l : List ℕ). asks_source (request_of l) ≡ false)
          (sym c.as_slice.ensures.value)
          (asks_none c.args.turns (g.P.Disk.size c.args.p.now) g.P.Disk _ _ _ p.0.0 _ _ _ _
          (c.loop-next.invariant.progress t p.0.0 p.0.1) p.1 _ _
          (ap (rest_of c.loop-next.reader) (sym (c.in-Ok.ensures.quiet.left t))
          ∙ rw c.in-Ok-true.field-0-test at c.in-Ok-true.ensures.packet t))))
          (follows_then c.args.kept.device c.loop-next.kept.device c.in-Ok.next.device
          _ _ (λ p. p.2) (c.loop-next.invariant.follows t) c.in-Ok.ensures.follows)
          (changes_by_then g.P.Disk t (g.P.Disk.size c.args.p.now) c.args.kept.device
          c.loop-next.kept.device _ _ c.args.p.now c.loop-next.p c.go_on.new.d (c.requires.stands t)
          (c.loop-next.invariant.stands t) (λ p. p.2) (c.loop-next.invariant.follows t)
          (c.loop-next.invariant.changes t) (c.in-Ok.ensures.changes t))
          c.packet.ensures.listens (c.answer.ensures.changes t);
      counts =
          fewer_then _ _ _ (fewer_then _ _ _ (fewer_then _ _ _ i.counts on.quiet.counts)
          ok.listens.counts) c.answer.ensures.cause.counts;
      steady = answer.cause.steady tt ∙ ok.steady ∙ on.cause.steady tt ∙ i.steady;
      progress = λ t told greeted.
          let old = c.args.p.now in
          let start = c.loop-next.p in
          let mid = c.go_on.new.d in
          let now = c.packet.new.p in
          let N = g.P.Disk.size old in
          let turns = c.args.turns in
          let i = c.loop-next.invariant in
          let on = c.in-Ok.ensures in
          let r0 = c.args.reader.now in
          let l0 = g.P.Disk.input_left old in
          let bytes = rest_of r0 l0 in
          let beyond = beyond_of r0 l0 in
          let total = total_of r0 l0 in
          let most = most_of r0 in
          let first = kept_on c.args.kept (g.P.Disk.seen old) in
          let kept = c.loop-next.kept in
          let next = c.in-Ok.next in
          let base = kept_on kept (g.P.Disk.seen start) in
          let r = c.loop-next.reader in
          let lm = g.P.Disk.input_left mid in
          let same = on.quiet.left t in
          let left = rest_of r lm in
          let listens = c.packet.ensures.listens in
          let counted = ap (total_of r) same ∙ i.count t in
          let then = kept_now turns g.P.Disk start mid now kept next t on (listens.seen t) in
          let so_far =
          came_on turns N g.P.Disk bytes beyond first told old start mid now r kept next i.size t
          (i.progress t told greeted) on (i.beyond t) listens in
          let ok = c.in-Ok-true.ensures in
          let body = c.packet.new.packet.items in
          let q = c.packet.new.self in
          let lq = g.P.Disk.input_left now in
          let before = rest_of q lq in
          let new = c.answer.new.p in
          let after = rest_of c.answer.new.reader (g.P.Disk.input_left new) in
          let fits = rw c.in-Ok-true.field-0-test at ok.fits in
          let is = rw c.in-Ok-true.field-0-test at ok.packet t in
          let sizes = ok.listens.size ∙ on.quiet.size ∙ i.size in
          let done =
          does_moved g.P.Disk (kept_on next (g.P.Disk.seen now)) (passed (machine turns) base)
          before after
          (g.P.Disk.size now) N (total_of q lq) total (most_of q) most
          c.as_slice.result.now body (beyond_of q lq) beyond now new (Ok c.in-Ok-answer.next)
          then sizes c.as_slice.ensures.value (ok.beyond t ∙ ap (beyond_of r) same ∙ i.beyond t)
          (ok.count t ∙ counted) (c.packet.ensures.most ∙ i.most)
          (c.in-Ok-answer.ensures.does t c.as_slice.result.now
          (was_read c.as_slice.result.now c.read_command-request.result
          c.read_command-request.ensures)) in
          let goes =
          subst (λ (l : List ℕ). ends_session l ≡ false) c.as_slice.ensures.value
          (ends_read c.as_slice.result.now c.read_command-request.result false
          c.read_command-request.ensures
          (sym c.is_last-last.ensures ∙ c.if-last.false)) in
          answered (machine turns) (IsIn N) g.P.Disk bytes beyond first told old now left
          (turns_between turns base.now) base so_far refl
          body before fits is after new (kept_on c.in-Ok-answer.next (g.P.Disk.seen new)) goes done;
      written = λ t told greeted.
          let old = c.args.p.now in
          let start = c.loop-next.p in
          let mid = c.go_on.new.d in
          let now = c.packet.new.p in
          let N = g.P.Disk.size old in
          let turns = c.args.turns in
          let i = c.loop-next.invariant in
          let on = c.in-Ok.ensures in
          let r0 = c.args.reader.now in
          let l0 = g.P.Disk.input_left old in
          let bytes = rest_of r0 l0 in
          let beyond = beyond_of r0 l0 in
          let total = total_of r0 l0 in
          let most = most_of r0 in
          let first = kept_on c.args.kept (g.P.Disk.seen old) in
          let kept = c.loop-next.kept in
          let next = c.in-Ok.next in
          let base = kept_on kept (g.P.Disk.seen start) in
          let r = c.loop-next.reader in
          let lm = g.P.Disk.input_left mid in
          let same = on.quiet.left t in
          let left = rest_of r lm in
          let listens = c.packet.ensures.listens in
          let counted = ap (total_of r) same ∙ i.count t in
          let then = kept_now turns g.P.Disk start mid now kept next t on (listens.seen t) in
          let ok = c.in-Ok-true.ensures in
          let body = c.packet.new.packet.items in
          let q = c.packet.new.self in
          let lq = g.P.Disk.input_left now in
          let before = rest_of q lq in
          let new = c.answer.new.p in
          let after = rest_of c.answer.new.reader (g.P.Disk.input_left new) in
          let fits = rw c.in-Ok-true.field-0-test at ok.fits in
          let is = rw c.in-Ok-true.field-0-test at ok.packet t in
          let sizes = ok.listens.size ∙ on.quiet.size ∙ i.size in
          let done =
          does_moved g.P.Disk (kept_on next (g.P.Disk.seen now)) (passed (machine turns) base)
          before after
          (g.P.Disk.size now) N (total_of q lq) total (most_of q) most
          c.as_slice.result.now body (beyond_of q lq) beyond now new (Ok c.in-Ok-answer.next)
          then sizes c.as_slice.ensures.value (ok.beyond t ∙ ap (beyond_of r) same ∙ i.beyond t)
          (ok.count t ∙ counted) (c.packet.ensures.most ∙ i.most)
          (c.in-Ok-answer.ensures.does t c.as_slice.result.now
          (was_read c.as_slice.result.now c.read_command-request.result
          c.read_command-request.ensures)) in
          let wr = i.written t told greeted in
          let d0 = c.args.kept.device in
          let k0 = kept_on c.args.kept (g.P.Disk.seen old) in
          let lp = g.P.Disk.input_left start in
          let turned =
          writes_heard g.P.Disk
          (IsOfChange g.P.Disk.is_modelled kept.device base (g.P.Disk.seen start 4) (Merge turns))
          start mid now (on.writes t) (listens.seen t) (listens.time t) in
          let stands : Represents next.device N (g.P.Disk.seen now) =
          subst (λ (n : ℕ). Represents next.device n (g.P.Disk.seen now)) i.size
          (subst (λ (x : Image). Represents next.device (g.P.Disk.size start) x)
          (sym (listens.seen t))
          (on.stands t)) in
          let rests : IsAtRest g.P.Disk start → IsAtRest g.P.Disk now = λ rest.
          still_settled response (IsIn N) g.P.Disk mid now (listens.seen t) (listens.crash t)
          (on.rest t rest) in
          let there = ap (rest_of r) (sym same) ∙ is in
          let one : IsExchange done.exchange = record {
            short = subst (λ (l : List ℕ). length l ≤ 4096) (sym done.command_is) fits;
            all = done.all;
          } in
          let further =
          written_more g.P.Disk turns N d0 k0 bytes kept.device next.device base (rest_of r lp) old
          start
          now wr turned stands (ap (λ (k : Kept Mounted). k.now) then) rests
          c.in-Ok-answer.next.device (kept_on c.in-Ok-answer.next (g.P.Disk.seen new)) after
          done.exchange new one
          (exchange_here (rest_of r lp) before after body done.exchange there done.command_is
          done.is)
          (subst
          (λ (k : Kept Mounted). WritesPacket g.P.Disk next.device k done.exchange.command now new)
          then
          (packet_by g.P.Disk next.device (kept_on next (g.P.Disk.seen now))
          c.as_slice.result.now done.exchange.command now new
          (c.as_slice.ensures.value ∙ sym done.command_is)
          (writes_read g.P.Disk next.device (kept_on next (g.P.Disk.seen now))
          c.as_slice.result.now
          c.read_command-request.result now new c.read_command-request.ensures
          (c.in-Ok-answer.ensures.writes t))))
          (subst (λ (n : ℕ). Represents c.in-Ok-answer.next.device n (g.P.Disk.seen new)) sizes
          (c.in-Ok-answer.ensures.stands t))
          refl done.kept done.settled in
          further;
    }

pub loop-next-init : goal.loop-next-init
loop-next-init g c =
    let old = c.args.p.now in
    let N = g.P.Disk.size old in
    let r0 = c.args.reader.now in
    let l0 = g.P.Disk.input_left old in
    record {
      place = c.requires.place;
      fed = c.requires.fed;
      most = refl;
      count = λ t. refl;
      beyond = λ t. refl;
      size = refl;
      device = c.requires.device;
      follows = λ t. follows_kept c.args.kept.device _ c.args.kept.device
          (keeps_all c.args.kept.device);
      stands = c.requires.stands;
      changes = λ t. changes_still g.P.Disk _ _ old old (λ W. changes_none g.P.Disk W old);
      counts = search rules;
      steady = refl;
      progress = λ t told greeted.
          begun (machine c.args.turns) (IsIn N) g.P.Disk (rest_of r0 l0) (beyond_of r0 l0)
          (kept_on c.args.kept (g.P.Disk.seen old)) told old greeted
          (device_stands c.args.kept.device N (g.P.Disk.seen old) (c.requires.stands t));
      written = λ t told greeted.
          written_none g.P.Disk c.args.turns N c.args.kept.device
          (kept_on c.args.kept (g.P.Disk.seen old)) (rest_of r0 l0) old;
    }

pub returns-in-Err-clause-changes : goal.returns-in-Err-clause-changes
returns-in-Err-clause-changes g c = λ t.
    changes_by_then g.P.Disk t (g.P.Disk.size c.args.p.now) c.args.kept.device
    c.loop-next.kept.device _ _ c.args.p.now c.loop-next.p c.go_on.new.d (c.requires.stands t)
    (c.loop-next.invariant.stands t) (λ p. p.2) (c.loop-next.invariant.follows t)
    (c.loop-next.invariant.changes t) (c.in-Err.ensures.changes t)

pub returns-in-Ok-false-clause-changes : goal.returns-in-Ok-false-clause-changes
returns-in-Ok-false-clause-changes g c = λ t.
    changes_heard g.P.Disk c.args.kept.device _ _ _ c.args.p.now c.go_on.new.d c.packet.new.p
    (changes_by_then g.P.Disk t (g.P.Disk.size c.args.p.now) c.args.kept.device
    c.loop-next.kept.device _ _ c.args.p.now c.loop-next.p c.go_on.new.d (c.requires.stands t)
    (c.loop-next.invariant.stands t) (λ p. p.2) (c.loop-next.invariant.follows t)
    (c.loop-next.invariant.changes t) (c.in-Ok.ensures.changes t))
    c.packet.ensures.listens

pub returns-in-Ok-false-clause-copies : goal.returns-in-Ok-false-clause-copies
returns-in-Ok-false-clause-copies g c = λ t held.
    copies_stay (g.P.Disk.size c.args.p.now) (g.P.Disk.seen c.go_on.new.d)
    (g.P.Disk.seen c.packet.new.p) (c.packet.ensures.listens.seen t)
    (both_copies c.in-Ok.next.device _ _
    (subst (λ (n : ℕ). Represents c.in-Ok.next.device n (g.P.Disk.seen c.go_on.new.d))
    c.loop-next.invariant.size (c.in-Ok.ensures.stands t)))

pub returns-in-Ok-false-clause-writes : goal.returns-in-Ok-false-clause-writes
returns-in-Ok-false-clause-writes g c = λ t told greeted.
    let old = c.args.p.now in
    let start = c.loop-next.p in
    let mid = c.go_on.new.d in
    let now = c.packet.new.p in
    let N = g.P.Disk.size old in
    let turns = c.args.turns in
    let i = c.loop-next.invariant in
    let on = c.in-Ok.ensures in
    let r0 = c.args.reader.now in
    let l0 = g.P.Disk.input_left old in
    let bytes = rest_of r0 l0 in
    let beyond = beyond_of r0 l0 in
    let total = total_of r0 l0 in
    let most = most_of r0 in
    let first = kept_on c.args.kept (g.P.Disk.seen old) in
    let kept = c.loop-next.kept in
    let next = c.in-Ok.next in
    let base = kept_on kept (g.P.Disk.seen start) in
    let r = c.loop-next.reader in
    let lm = g.P.Disk.input_left mid in
    let same = on.quiet.left t in
    let left = rest_of r lm in
    let listens = c.packet.ensures.listens in
    let counted = ap (total_of r) same ∙ i.count t in
    let then = kept_now turns g.P.Disk start mid now kept next t on (listens.seen t) in
    let wr = i.written t told greeted in
    let d0 = c.args.kept.device in
    let k0 = kept_on c.args.kept (g.P.Disk.seen old) in
    let lp = g.P.Disk.input_left start in
    let turned =
    writes_heard g.P.Disk
    (IsOfChange g.P.Disk.is_modelled kept.device base (g.P.Disk.seen start 4) (Merge turns))
    start mid now (on.writes t) (listens.seen t) (listens.time t) in
    written_end g.P.Disk turns N d0 k0 bytes kept.device base (rest_of r lp) old start now wr
    turned

pub returns-in-Err-packet-clause-changes : goal.returns-in-Err-packet-clause-changes
returns-in-Err-packet-clause-changes g c = λ t.
    changes_heard g.P.Disk c.args.kept.device _ _ _ c.args.p.now c.go_on.new.d c.packet.new.p
    (changes_by_then g.P.Disk t (g.P.Disk.size c.args.p.now) c.args.kept.device
    c.loop-next.kept.device _ _ c.args.p.now c.loop-next.p c.go_on.new.d (c.requires.stands t)
    (c.loop-next.invariant.stands t) (λ p. p.2) (c.loop-next.invariant.follows t)
    (c.loop-next.invariant.changes t) (c.in-Ok.ensures.changes t))
    c.packet.ensures.listens

pub returns-in-Err-packet-clause-copies : goal.returns-in-Err-packet-clause-copies
returns-in-Err-packet-clause-copies g c = λ t held.
    copies_stay (g.P.Disk.size c.args.p.now) (g.P.Disk.seen c.go_on.new.d)
    (g.P.Disk.seen c.packet.new.p) (c.packet.ensures.listens.seen t)
    (both_copies c.in-Ok.next.device _ _
    (subst (λ (n : ℕ). Represents c.in-Ok.next.device n (g.P.Disk.seen c.go_on.new.d))
    c.loop-next.invariant.size (c.in-Ok.ensures.stands t)))

pub returns-in-Err-packet-clause-writes : goal.returns-in-Err-packet-clause-writes
returns-in-Err-packet-clause-writes g c = λ t told greeted.
    let old = c.args.p.now in
    let start = c.loop-next.p in
    let mid = c.go_on.new.d in
    let now = c.packet.new.p in
    let N = g.P.Disk.size old in
    let turns = c.args.turns in
    let i = c.loop-next.invariant in
    let on = c.in-Ok.ensures in
    let r0 = c.args.reader.now in
    let l0 = g.P.Disk.input_left old in
    let bytes = rest_of r0 l0 in
    let beyond = beyond_of r0 l0 in
    let total = total_of r0 l0 in
    let most = most_of r0 in
    let first = kept_on c.args.kept (g.P.Disk.seen old) in
    let kept = c.loop-next.kept in
    let next = c.in-Ok.next in
    let base = kept_on kept (g.P.Disk.seen start) in
    let r = c.loop-next.reader in
    let lm = g.P.Disk.input_left mid in
    let same = on.quiet.left t in
    let left = rest_of r lm in
    let listens = c.packet.ensures.listens in
    let counted = ap (total_of r) same ∙ i.count t in
    let then = kept_now turns g.P.Disk start mid now kept next t on (listens.seen t) in
    let wr = i.written t told greeted in
    let d0 = c.args.kept.device in
    let k0 = kept_on c.args.kept (g.P.Disk.seen old) in
    let lp = g.P.Disk.input_left start in
    let turned =
    writes_heard g.P.Disk
    (IsOfChange g.P.Disk.is_modelled kept.device base (g.P.Disk.seen start 4) (Merge turns))
    start mid now (on.writes t) (listens.seen t) (listens.time t) in
    written_end g.P.Disk turns N d0 k0 bytes kept.device base (rest_of r lp) old start now wr
    turned

pub returns-in-Err-answer-clause-changes : goal.returns-in-Err-answer-clause-changes
returns-in-Err-answer-clause-changes g c = λ t.
    changes_answered g.P.Disk (g.P.Disk.size c.args.p.now) c.args.kept.device
    c.in-Ok.next.device _ _ _ _ c.args.p.now c.go_on.new.d c.packet.new.p c.answer.new.p t
    (c.requires.stands t)
    (subst (λ (n : ℕ). Represents c.in-Ok.next.device n (g.P.Disk.seen c.go_on.new.d))
    c.loop-next.invariant.size (c.in-Ok.ensures.stands t))
    (λ p.
    spares_read c.as_slice.result.now c.read_command-request.result c.read_command-request.ensures
    (subst (λ (l : List ℕ). asks_source (request_of l) ≡ false)
    (sym c.as_slice.ensures.value)
    (asks_none c.args.turns (g.P.Disk.size c.args.p.now) g.P.Disk _ _ _ p.0.0 _ _ _ _
    (c.loop-next.invariant.progress t p.0.0 p.0.1) p.1 _ _
    (ap (rest_of c.loop-next.reader) (sym (c.in-Ok.ensures.quiet.left t))
    ∙ rw c.in-Ok-true.field-0-test at c.in-Ok-true.ensures.packet t))))
    (follows_then c.args.kept.device c.loop-next.kept.device c.in-Ok.next.device
    _ _ (λ p. p.2) (c.loop-next.invariant.follows t) c.in-Ok.ensures.follows)
    (changes_by_then g.P.Disk t (g.P.Disk.size c.args.p.now) c.args.kept.device
    c.loop-next.kept.device _ _ c.args.p.now c.loop-next.p c.go_on.new.d (c.requires.stands t)
    (c.loop-next.invariant.stands t) (λ p. p.2) (c.loop-next.invariant.follows t)
    (c.loop-next.invariant.changes t) (c.in-Ok.ensures.changes t))
    c.packet.ensures.listens (c.answer.ensures.changes t)

pub returns-then-last-clause-changes : goal.returns-then-last-clause-changes
returns-then-last-clause-changes g c = λ t.
    changes_answered g.P.Disk (g.P.Disk.size c.args.p.now) c.args.kept.device
    c.in-Ok.next.device _ _ _ _ c.args.p.now c.go_on.new.d c.packet.new.p c.answer.new.p t
    (c.requires.stands t)
    (subst (λ (n : ℕ). Represents c.in-Ok.next.device n (g.P.Disk.seen c.go_on.new.d))
    c.loop-next.invariant.size (c.in-Ok.ensures.stands t))
    (λ p.
    spares_read c.as_slice.result.now c.read_command-request.result c.read_command-request.ensures
    (subst (λ (l : List ℕ). asks_source (request_of l) ≡ false)
    (sym c.as_slice.ensures.value)
    (asks_none c.args.turns (g.P.Disk.size c.args.p.now) g.P.Disk _ _ _ p.0.0 _ _ _ _
    (c.loop-next.invariant.progress t p.0.0 p.0.1) p.1 _ _
    (ap (rest_of c.loop-next.reader) (sym (c.in-Ok.ensures.quiet.left t))
    ∙ rw c.in-Ok-true.field-0-test at c.in-Ok-true.ensures.packet t))))
    (follows_then c.args.kept.device c.loop-next.kept.device c.in-Ok.next.device
    _ _ (λ p. p.2) (c.loop-next.invariant.follows t) c.in-Ok.ensures.follows)
    (changes_by_then g.P.Disk t (g.P.Disk.size c.args.p.now) c.args.kept.device
    c.loop-next.kept.device _ _ c.args.p.now c.loop-next.p c.go_on.new.d (c.requires.stands t)
    (c.loop-next.invariant.stands t) (λ p. p.2) (c.loop-next.invariant.follows t)
    (c.loop-next.invariant.changes t) (c.in-Ok.ensures.changes t))
    c.packet.ensures.listens (c.answer.ensures.changes t)

pub returns-in-Err-clause-copies : goal.returns-in-Err-clause-copies
returns-in-Err-clause-copies g c = λ t held.
    let failed : c.in-Err.fault ≡ Disk = let is = c.in-Err.ensures.fault in cc in
    absurd (subst HeldBy failed held)

pub returns-in-Err-answer-clause-copies : goal.returns-in-Err-answer-clause-copies
returns-in-Err-answer-clause-copies g c = λ t held.
    subst (λ (n : ℕ). HasBothCopies n (g.P.Disk.seen c.answer.new.p))
    (c.packet.ensures.listens.size ∙ c.in-Ok.ensures.quiet.size ∙ c.loop-next.invariant.size)
    (c.in-Err-answer.ensures.copies t held)

pub returns-then-last-clause-copies : goal.returns-then-last-clause-copies
returns-then-last-clause-copies g c = λ t held.
    subst (λ (n : ℕ). HasBothCopies n (g.P.Disk.seen c.answer.new.p))
    (c.packet.ensures.listens.size ∙ c.in-Ok.ensures.quiet.size ∙ c.loop-next.invariant.size)
    (c.in-Ok-answer.ensures.copies t tt)

pub returns-in-Err-clause-writes : goal.returns-in-Err-clause-writes
returns-in-Err-clause-writes g c = λ t told greeted.
    let old = c.args.p.now in
    let start = c.loop-next.p in
    let mid = c.go_on.new.d in
    let N = g.P.Disk.size old in
    let turns = c.args.turns in
    let i = c.loop-next.invariant in
    let on = c.in-Err.ensures in
    let kept = c.loop-next.kept in
    let base = kept_on kept (g.P.Disk.seen start) in
    written_end g.P.Disk turns N c.args.kept.device (kept_on c.args.kept (g.P.Disk.seen old))
    (rest_of c.args.reader.now (g.P.Disk.input_left old)) kept.device base
    (rest_of c.loop-next.reader (g.P.Disk.input_left start)) old start mid
    (i.written t told greeted) (on.writes t)

pub returns-in-Err-answer-clause-writes : goal.returns-in-Err-answer-clause-writes
returns-in-Err-answer-clause-writes g c = λ t told greeted.
    let old = c.args.p.now in
    let start = c.loop-next.p in
    let mid = c.go_on.new.d in
    let now = c.packet.new.p in
    let N = g.P.Disk.size old in
    let turns = c.args.turns in
    let i = c.loop-next.invariant in
    let on = c.in-Ok.ensures in
    let r0 = c.args.reader.now in
    let l0 = g.P.Disk.input_left old in
    let bytes = rest_of r0 l0 in
    let beyond = beyond_of r0 l0 in
    let total = total_of r0 l0 in
    let most = most_of r0 in
    let first = kept_on c.args.kept (g.P.Disk.seen old) in
    let kept = c.loop-next.kept in
    let next = c.in-Ok.next in
    let base = kept_on kept (g.P.Disk.seen start) in
    let r = c.loop-next.reader in
    let lm = g.P.Disk.input_left mid in
    let same = on.quiet.left t in
    let left = rest_of r lm in
    let listens = c.packet.ensures.listens in
    let counted = ap (total_of r) same ∙ i.count t in
    let then = kept_now turns g.P.Disk start mid now kept next t on (listens.seen t) in
    let ok = c.in-Ok-true.ensures in
    let body = c.packet.new.packet.items in
    let q = c.packet.new.self in
    let lq = g.P.Disk.input_left now in
    let before = rest_of q lq in
    let new = c.answer.new.p in
    let after = rest_of c.answer.new.reader (g.P.Disk.input_left new) in
    let fits = rw c.in-Ok-true.field-0-test at ok.fits in
    let is = rw c.in-Ok-true.field-0-test at ok.packet t in
    let sizes = ok.listens.size ∙ on.quiet.size ∙ i.size in
    let wr = i.written t told greeted in
    let d0 = c.args.kept.device in
    let k0 = kept_on c.args.kept (g.P.Disk.seen old) in
    let lp = g.P.Disk.input_left start in
    let turned =
    writes_heard g.P.Disk
    (IsOfChange g.P.Disk.is_modelled kept.device base (g.P.Disk.seen start 4) (Merge turns))
    start mid now (on.writes t) (listens.seen t) (listens.time t) in
    let stands : Represents next.device N (g.P.Disk.seen now) =
    subst (λ (n : ℕ). Represents next.device n (g.P.Disk.seen now)) i.size
    (subst (λ (x : Image). Represents next.device (g.P.Disk.size start) x) (sym (listens.seen t))
    (on.stands t)) in
    let rests : IsAtRest g.P.Disk start → IsAtRest g.P.Disk now = λ rest.
    still_settled response (IsIn N) g.P.Disk mid now (listens.seen t) (listens.crash t)
    (on.rest t rest) in
    let there = ap (rest_of r) (sym same) ∙ is in
    written_last g.P.Disk turns N d0 k0 bytes kept.device next.device base (rest_of r lp) old start
    now wr turned stands (ap (λ (k : Kept Mounted). k.now) then) rests before body new there
    (subst (λ (k : Kept Mounted). WritesPacket g.P.Disk next.device k body now new) then
    (packet_by g.P.Disk next.device (kept_on next (g.P.Disk.seen now)) c.as_slice.result.now
    body now new c.as_slice.ensures.value
    (writes_read g.P.Disk next.device (kept_on next (g.P.Disk.seen now))
    c.as_slice.result.now
    c.read_command-request.result now new c.read_command-request.ensures
    (c.in-Err-answer.ensures.writes t))))

pub returns-then-last-clause-writes : goal.returns-then-last-clause-writes
returns-then-last-clause-writes g c = λ t told greeted.
    let old = c.args.p.now in
    let start = c.loop-next.p in
    let mid = c.go_on.new.d in
    let now = c.packet.new.p in
    let N = g.P.Disk.size old in
    let turns = c.args.turns in
    let i = c.loop-next.invariant in
    let on = c.in-Ok.ensures in
    let r0 = c.args.reader.now in
    let l0 = g.P.Disk.input_left old in
    let bytes = rest_of r0 l0 in
    let beyond = beyond_of r0 l0 in
    let total = total_of r0 l0 in
    let most = most_of r0 in
    let first = kept_on c.args.kept (g.P.Disk.seen old) in
    let kept = c.loop-next.kept in
    let next = c.in-Ok.next in
    let base = kept_on kept (g.P.Disk.seen start) in
    let r = c.loop-next.reader in
    let lm = g.P.Disk.input_left mid in
    let same = on.quiet.left t in
    let left = rest_of r lm in
    let listens = c.packet.ensures.listens in
    let counted = ap (total_of r) same ∙ i.count t in
    let then = kept_now turns g.P.Disk start mid now kept next t on (listens.seen t) in
    let ok = c.in-Ok-true.ensures in
    let body = c.packet.new.packet.items in
    let q = c.packet.new.self in
    let lq = g.P.Disk.input_left now in
    let before = rest_of q lq in
    let new = c.answer.new.p in
    let after = rest_of c.answer.new.reader (g.P.Disk.input_left new) in
    let fits = rw c.in-Ok-true.field-0-test at ok.fits in
    let is = rw c.in-Ok-true.field-0-test at ok.packet t in
    let sizes = ok.listens.size ∙ on.quiet.size ∙ i.size in
    let done =
    does_moved g.P.Disk (kept_on next (g.P.Disk.seen now)) (passed (machine turns) base) before
    after
    (g.P.Disk.size now) N (total_of q lq) total (most_of q) most
    c.as_slice.result.now body (beyond_of q lq) beyond now new (Ok c.in-Ok-answer.next)
    then sizes c.as_slice.ensures.value (ok.beyond t ∙ ap (beyond_of r) same ∙ i.beyond t)
    (ok.count t ∙ counted) (c.packet.ensures.most ∙ i.most)
    (c.in-Ok-answer.ensures.does t c.as_slice.result.now
    (was_read c.as_slice.result.now c.read_command-request.result
    c.read_command-request.ensures)) in
    let wr = i.written t told greeted in
    let d0 = c.args.kept.device in
    let k0 = kept_on c.args.kept (g.P.Disk.seen old) in
    let lp = g.P.Disk.input_left start in
    let turned =
    writes_heard g.P.Disk
    (IsOfChange g.P.Disk.is_modelled kept.device base (g.P.Disk.seen start 4) (Merge turns))
    start mid now (on.writes t) (listens.seen t) (listens.time t) in
    let stands : Represents next.device N (g.P.Disk.seen now) =
    subst (λ (n : ℕ). Represents next.device n (g.P.Disk.seen now)) i.size
    (subst (λ (x : Image). Represents next.device (g.P.Disk.size start) x) (sym (listens.seen t))
    (on.stands t)) in
    let rests : IsAtRest g.P.Disk start → IsAtRest g.P.Disk now = λ rest.
    still_settled response (IsIn N) g.P.Disk mid now (listens.seen t) (listens.crash t)
    (on.rest t rest) in
    let there = ap (rest_of r) (sym same) ∙ is in
    let one : IsExchange done.exchange = record {
      short = subst (λ (l : List ℕ). length l ≤ 4096) (sym done.command_is) fits;
      all = done.all;
    } in
    let further =
    written_more g.P.Disk turns N d0 k0 bytes kept.device next.device base (rest_of r lp) old start
    now wr turned stands (ap (λ (k : Kept Mounted). k.now) then) rests
    c.in-Ok-answer.next.device (kept_on c.in-Ok-answer.next (g.P.Disk.seen new)) after
    done.exchange new one
    (exchange_here (rest_of r lp) before after body done.exchange there done.command_is done.is)
    (subst
    (λ (k : Kept Mounted). WritesPacket g.P.Disk next.device k done.exchange.command now new)
    then
    (packet_by g.P.Disk next.device (kept_on next (g.P.Disk.seen now))
    c.as_slice.result.now done.exchange.command now new
    (c.as_slice.ensures.value ∙ sym done.command_is)
    (writes_read g.P.Disk next.device (kept_on next (g.P.Disk.seen now))
    c.as_slice.result.now
    c.read_command-request.result now new c.read_command-request.ensures
    (c.in-Ok-answer.ensures.writes t))))
    (subst (λ (n : ℕ). Represents c.in-Ok-answer.next.device n (g.P.Disk.seen new)) sizes
    (c.in-Ok-answer.ensures.stands t))
    refl done.kept done.settled in
    written_end g.P.Disk turns N d0 k0 bytes c.in-Ok-answer.next.device
    (kept_on c.in-Ok-answer.next (g.P.Disk.seen new)) after old new new further
    (writes_still g.P.Disk _ new new refl (adds_none g.P.Disk.moment g.P.Disk.outcomes new _))

pub returns-in-Err-packet-clause-cause : goal.returns-in-Err-packet-clause-cause
returns-in-Err-packet-clause-cause g c =
    let on = c.in-Ok.ensures in
    subst
    (λ (e : SessionFault).
    HasCause {A = Ended × Device} g.P.Disk c.args.p.now c.packet.new.p (Err e))
    (sym c.from.ensures)
    (read_cause g.P.Disk c.args.p.now c.go_on.new.d c.packet.new.p c.in-Err-packet.fault
    (on.cause.steady tt ∙ c.loop-next.invariant.steady)
    c.packet.ensures.listens.counts
    c.in-Err-packet.ensures.steady
    (λ is. c.in-Err-packet.ensures.cause (ap Err is)))

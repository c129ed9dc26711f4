use Rattle.std.proofs.Common.{◌≡◌, ◌∙◌, ℕ, ◌+◌, List, Ok, Err, refl, sym, ap, subst, false}
use Rattle.std.specs.Prelude.{Option, Some, None, Result}
use Rattle.vab_model.specs.declared.state.Phase.{Phase}
use Rattle.vab_model.specs.declared.state.Phase.TheVariants.{Idle, Installing, Staged, Merging}
use Rattle.vab_model.specs.Commands.{Merge}
use Rattle.vab_model.specs.Commands.{command_of}
use Rattle.vab_disk.specs.Disk.{Image}
use Rattle.vab_marks.specs.declared.mark.MarkPhase.{MarkPhase}
use Rattle.vab_marks.specs.declared.mark.MarkPhase.TheVariants as marks
use Rattle.vab_marks.specs.declared.mark.UpdateMark.{UpdateMark}
use Rattle.vab_model.specs.declared.state.PlanEntry.{PlanEntry}
use Rattle.vab_device.specs.declared.device.Device.{Device}
use Rattle.vab_device.specs.Mounted.{Mounted, state_on, count_at, phase_by, unplanned, entries_on}
use Rattle.vab_fbproto.specs.Requests.{Asked, Getvar, Download, Do, MergeAll, BootAndEnd}
use Rattle.vab_fbproto.specs.Requests.{asked_of, request_of}
use Rattle.vab_fbproto.specs.declared.request.Request.{Request}
use Rattle.vab_session.specs.Read.{asked_in}
use Rattle.vab_fbproto.specs.Requests.{variable_of}
use Rattle.vab_fbproto.specs.declared.request.BadCommand.{BadCommand}
use Rattle.vab_fbvars.specs.Variables.{variable_text}
use Rattle.vab_commands.proofs.ChangeLaws.{changes_by, changes_under, follows_under}
use Rattle.vab_exchanges.specs.declared.reader.Reader.{Reader}
use Rattle.vab_exchanges.specs.Reading.{rest_of, beyond_of, total_of, count_of, most_of}
use Rattle.vab_session.specs.declared.fault.SessionFault.{SessionFault}
use Rattle.vab_session.specs.declared.kept.KeptDevice.{KeptDevice}
use Rattle.vab_session.specs.Sparing.{asks_source}
use Rattle.vab_session.specs.Responses.{still, by_command, left_of}
use Rattle.vab_session.specs.Served.{kept_on, AnswersOrFails}
use Rattle.vab_session.proofs.Changing.{if_ok, follows_kept}
use Rattle.vab_disk.specs.declared.disk.Disk.{Ghosts}
use Rattle.vab_device.specs.Mounted.{Mounted}
use Rattle.vab_exchanges.specs.Items.{Kept}
use Rattle.vab_session.specs.Written.{IsOfAsked, IsOfChange, WritesAs, command_asked}
use Rattle.vab_session.proofs.WrittenLaws.{writes_as}
use Rattle.vab_session.proofs.answer.answer.Goals as goal

-- what is asked for by this
abbrev asked_some : Request → Result Asked BadCommand
asked_some request = Ok (asked_of request)

-- a packet that brings no data is answered behind the same bytes, where nothing is heard
unheard : {D : Type 0} (g : Ghosts D) (size : ℕ) (k : Kept Mounted) (packet : List ℕ) (r : Reader)
    (old new : D) (result : Result KeptDevice SessionFault)
    → g.input_left new ≡ g.input_left old
    → ((before beyond : List ℕ) (count total most : ℕ)
    → AnswersOrFails size g k packet before before beyond count total most old new result)
    → AnswersOrFails size g k packet
    (rest_of r (g.input_left old)) (rest_of r (g.input_left new))
    (beyond_of r (g.input_left old)) (count_of r (g.input_left old))
    (total_of r (g.input_left old)) (most_of r) old new result
unheard g size k packet r old new result left does =
    let l : List ℕ = g.input_left old in
    subst
    (λ (x : List ℕ).
    AnswersOrFails size g k packet (rest_of r l) (rest_of r x) (beyond_of r l) (count_of r l)
    (total_of r l) (most_of r) old new result)
    (sym left) (does (rest_of r l) (beyond_of r l) (count_of r l) (total_of r l) (most_of r))

pub returns-in-Ok-Getvar-clause-does : goal.returns-in-Ok-Getvar-clause-does
returns-in-Ok-Getvar-clause-does g c = λ t packet was.
    let asked = variable_of c.in-Ok-Getvar.asked in
    let device = c.args.kept.device in
    let old = c.args.p.now in
    let image = g.P.Disk.seen old in
    let is : request_of packet ≡ Ok (Getvar asked) =
    was ∙ ap asked_in c.in-Ok-Getvar.is
    ∙ ap asked_some (rw c.in-Ok-Getvar.is at c.in-Ok-Getvar.field-0-is) in
    let text : c.as_slice.result.now ≡ variable_text (state_on device image) asked =
    c.as_slice.ensures.value
    ∙ c.variable.ensures.text (g.P.Disk.size old) image c.requires.device
    (λ s lt. (g.met.P.Disk.whole old s (g.P.Disk.seen old s) lt
    (g.met.P.Disk.seen_held old s)).long)
    in
    unheard g.P.Disk (g.P.Disk.size c.args.p.now)
    (kept_on c.args.kept (g.P.Disk.seen c.args.p.now)) packet c.args.reader.now
    c.args.p.now c.tell_still.new.p c.tell_still.result
    (c.tell_still.ensures.left t)
    (λ before beyond count total most.
    c.tell_still.ensures.does t packet before beyond count total most (Ok (Getvar asked)) is tt
    (ap still (sym text)))

-- a merge of one turn more than are left, where some are merged, and where none is any number
merge_all : (m : Mounted) (staged : Option (List ℕ)) (n : ℕ) (phase : Phase)
    → m.state.phase ≡ phase
    → ((target left : ℕ) → phase ≡ Merging target left → n ≡ left)
    → by_command m staged (Merge (left_of m.state.phase + 1)) ≡ by_command m staged (Merge (n + 1))
merge_all m staged n Idle is same = rw is refl
merge_all m staged n (Installing source plan) is same = rw is refl
merge_all m staged n (Staged source left) is same = rw is refl
merge_all m staged n (Merging target left) is same =
    ap (λ (k : ℕ). by_command m staged (Merge (k + 1)))
    (ap left_of is ∙ sym (same target left refl))

-- where some are merged, those are the exceptions of the slots with images
left_by : (m : UpdateMark) (count target left : ℕ) (entries : Option (List PlanEntry))
    → phase_by m count entries ≡ Merging target left
    → count ≡ left
left_by m count target left (Some entries) is = absurd cc
left_by m count target left None is = by_phase m.phase is
  where
    by_phase : (phase : MarkPhase) → unplanned phase m.slot count ≡ Merging target left
        → count ≡ left
    by_phase marks.Idle is = absurd cc
    by_phase marks.Installing is = absurd cc
    by_phase marks.Staged is = absurd cc
    by_phase marks.Merging is = ap left_of is
    by_phase marks.Completed is = absurd cc

left_here : (d : Device) (image : Image) (target left : ℕ)
    → (state_on d image).phase ≡ Merging target left
    → count_at d.a + count_at d.b ≡ left
unfolding state_on
left_here d image target left is =
    left_by d.mark (count_at d.a + count_at d.b) target left (entries_on image d.plan) is

pub returns-in-Ok-MergeAll-clause-does : goal.returns-in-Ok-MergeAll-clause-does
returns-in-Ok-MergeAll-clause-does g c = λ t packet was.
    let is : request_of packet ≡ Ok MergeAll =
    was ∙ ap asked_in c.in-Ok-MergeAll.is
    ∙ ap asked_some (rw c.in-Ok-MergeAll.is at c.in-Ok-MergeAll.field-0-is) in
    let k = kept_on c.args.kept (g.P.Disk.seen c.args.p.now) in
    unheard g.P.Disk (g.P.Disk.size c.args.p.now)
    (kept_on c.args.kept (g.P.Disk.seen c.args.p.now)) packet c.args.reader.now
    c.args.p.now c.do_command-in-Ok-MergeAll.new.p c.do_command-in-Ok-MergeAll.result
    (c.do_command-in-Ok-MergeAll.ensures.left t)
    (λ before beyond count total most.
    c.do_command-in-Ok-MergeAll.ensures.does t packet before beyond count total most
    (Ok MergeAll) is tt
    (merge_all k.now k.staged c.left.result k.now.state.phase refl
    (λ target left merging.
    c.left.ensures.is
    ∙ left_here c.args.kept.device (g.P.Disk.seen c.args.p.now) target left merging)))

pub returns-in-Ok-Do-clause-does : goal.returns-in-Ok-Do-clause-does
returns-in-Ok-Do-clause-does g c = λ t packet was.
    let command = command_of c.in-Ok-Do.command in
    let is : request_of packet ≡ Ok (Do command) =
    was ∙ ap asked_in c.in-Ok-Do.is
    ∙ ap asked_some (rw c.in-Ok-Do.is at c.in-Ok-Do.field-0-is) in
    unheard g.P.Disk (g.P.Disk.size c.args.p.now)
    (kept_on c.args.kept (g.P.Disk.seen c.args.p.now)) packet c.args.reader.now
    c.args.p.now c.do_command.new.p c.do_command.result
    (c.do_command.ensures.left t)
    (λ before beyond count total most.
    c.do_command.ensures.does t packet before beyond count total most (Ok (Do command)) is tt refl)

pub returns-in-Ok-BootAndEnd-clause-does : goal.returns-in-Ok-BootAndEnd-clause-does
returns-in-Ok-BootAndEnd-clause-does g c = λ t packet was.
    let is : request_of packet ≡ Ok BootAndEnd =
    was ∙ ap asked_in c.in-Ok-BootAndEnd.is
    ∙ ap asked_some (rw c.in-Ok-BootAndEnd.is at c.in-Ok-BootAndEnd.field-0-is) in
    unheard g.P.Disk (g.P.Disk.size c.args.p.now)
    (kept_on c.args.kept (g.P.Disk.seen c.args.p.now)) packet c.args.reader.now
    c.args.p.now c.do_command-in-Ok-BootAndEnd.new.p c.do_command-in-Ok-BootAndEnd.result
    (c.do_command-in-Ok-BootAndEnd.ensures.left t)
    (λ before beyond count total most.
    c.do_command-in-Ok-BootAndEnd.ensures.does t packet before beyond count total most
    (Ok BootAndEnd) is tt refl)

pub returns-in-Err-clause-does : goal.returns-in-Err-clause-does
returns-in-Err-clause-does g c = λ t packet was.
    unheard g.P.Disk (g.P.Disk.size c.args.p.now)
    (kept_on c.args.kept (g.P.Disk.seen c.args.p.now)) packet c.args.reader.now
    c.args.p.now c.tell_still-in-Err.new.p c.tell_still-in-Err.result
    (c.tell_still-in-Err.ensures.left t)
    (λ before beyond count total most.
    c.tell_still-in-Err.ensures.does t packet before beyond count total most
    (Err c.in-Err.bad) (was ∙ ap asked_in c.in-Err.is) tt (ap still (sym c.bad_text.ensures.text)))

-- ---- what is changed, and what is kept

-- what was read asks for no more merges than this, which it is
asks_for : (request : Result Request BadCommand) (asked : Result Asked BadCommand)
    → asked_in request ≡ asked
    → asks_source (asked_in request) ≡ false
    → asks_source asked ≡ false
asks_for request asked is not = sym (ap asks_source is) ∙ not

pub returns-in-Ok-Getvar-clause-changes : goal.returns-in-Ok-Getvar-clause-changes
returns-in-Ok-Getvar-clause-changes g c = λ t.
    changes_by g.P.Disk c.args.kept.device _ c.args.p.now c.tell_still.new.p
    c.requires.device.slot (c.tell_still.ensures.changes t)

pub returns-in-Err-clause-changes : goal.returns-in-Err-clause-changes
returns-in-Err-clause-changes g c = λ t.
    changes_by g.P.Disk c.args.kept.device _ c.args.p.now c.tell_still-in-Err.new.p
    c.requires.device.slot (c.tell_still-in-Err.ensures.changes t)

pub returns-in-Ok-Do-clause-changes : goal.returns-in-Ok-Do-clause-changes
returns-in-Ok-Do-clause-changes g c = λ t.
    let read : asked_in c.args.request ≡ Ok (Do (command_of c.in-Ok-Do.command)) =
    ap asked_in c.in-Ok-Do.is
    ∙ ap asked_some (rw c.in-Ok-Do.is at c.in-Ok-Do.field-0-is) in
    changes_under g.P.Disk c.args.kept.device _ _ c.args.p.now c.do_command.new.p
    (asks_for c.args.request (Ok (Do (command_of c.in-Ok-Do.command))) read)
    (c.do_command.ensures.changes t)

pub returns-in-Ok-MergeAll-clause-changes : goal.returns-in-Ok-MergeAll-clause-changes
returns-in-Ok-MergeAll-clause-changes g c = λ t.
    let read : asked_in c.args.request ≡ Ok MergeAll =
    ap asked_in c.in-Ok-MergeAll.is
    ∙ ap asked_some (rw c.in-Ok-MergeAll.is at c.in-Ok-MergeAll.field-0-is) in
    changes_under g.P.Disk c.args.kept.device _ _ c.args.p.now c.do_command-in-Ok-MergeAll.new.p
    (asks_for c.args.request (Ok MergeAll) read)
    (c.do_command-in-Ok-MergeAll.ensures.changes t)

pub returns-in-Ok-BootAndEnd-clause-changes : goal.returns-in-Ok-BootAndEnd-clause-changes
returns-in-Ok-BootAndEnd-clause-changes g c = λ t.
    changes_under g.P.Disk c.args.kept.device _ _ c.args.p.now c.do_command-in-Ok-BootAndEnd.new.p
    (λ not. refl)
    (c.do_command-in-Ok-BootAndEnd.ensures.changes t)

pub returns-in-Ok-Getvar-clause-follows : goal.returns-in-Ok-Getvar-clause-follows
returns-in-Ok-Getvar-clause-follows g c =
    if_ok _ _ c.tell_still.result
    (λ k keeps. follows_kept c.args.kept.device _ k.device keeps)
    c.tell_still.ensures.source

pub returns-in-Err-clause-follows : goal.returns-in-Err-clause-follows
returns-in-Err-clause-follows g c =
    if_ok _ _ c.tell_still-in-Err.result
    (λ k keeps. follows_kept c.args.kept.device _ k.device keeps)
    c.tell_still-in-Err.ensures.source

pub returns-in-Ok-Do-clause-follows : goal.returns-in-Ok-Do-clause-follows
returns-in-Ok-Do-clause-follows g c =
    let read : asked_in c.args.request ≡ Ok (Do (command_of c.in-Ok-Do.command)) =
    ap asked_in c.in-Ok-Do.is
    ∙ ap asked_some (rw c.in-Ok-Do.is at c.in-Ok-Do.field-0-is) in
    if_ok _ _ c.do_command.result
    (λ k follows.
    follows_under c.args.kept.device _ _ k.device
    (asks_for c.args.request (Ok (Do (command_of c.in-Ok-Do.command))) read) follows)
    c.do_command.ensures.follows

pub returns-in-Ok-MergeAll-clause-follows : goal.returns-in-Ok-MergeAll-clause-follows
returns-in-Ok-MergeAll-clause-follows g c =
    let read : asked_in c.args.request ≡ Ok MergeAll =
    ap asked_in c.in-Ok-MergeAll.is
    ∙ ap asked_some (rw c.in-Ok-MergeAll.is at c.in-Ok-MergeAll.field-0-is) in
    if_ok _ _ c.do_command-in-Ok-MergeAll.result
    (λ k follows.
    follows_under c.args.kept.device _ _ k.device
    (asks_for c.args.request (Ok MergeAll) read) follows)
    c.do_command-in-Ok-MergeAll.ensures.follows

pub returns-in-Ok-BootAndEnd-clause-follows : goal.returns-in-Ok-BootAndEnd-clause-follows
returns-in-Ok-BootAndEnd-clause-follows g c =
    if_ok _ _ c.do_command-in-Ok-BootAndEnd.result
    (λ k follows. follows_under c.args.kept.device _ _ k.device (λ not. refl) follows)
    c.do_command-in-Ok-BootAndEnd.ensures.follows

-- what the packet asks for
asked_writes : {D : Type 0} (g : Ghosts D) (d : Device) (k : Kept Mounted)
    (request : Result Request BadCommand) (asked : Result Asked BadCommand) (old new : D)
    → asked_in request ≡ asked
    → WritesAs g (IsOfAsked g.is_modelled d k (g.seen old 4) (command_asked d asked)) old new
    → WritesAs g
    (IsOfAsked g.is_modelled d k (g.seen old 4) (command_asked d (asked_in request)))
    old new
asked_writes g d k request asked old new is wrote =
    subst
    (λ (a : Result Asked BadCommand).
    WritesAs g (IsOfAsked g.is_modelled d k (g.seen old 4) (command_asked d a)) old new)
    (sym is) wrote

none_writes : {D : Type 0} (g : Ghosts D) (W : ℕ → List ℕ → Type 0) (old new : D)
    → WritesAs g (λ s b. ⊥) old new
    → WritesAs g W old new
none_writes g W old new wrote =
    writes_as g (λ s b. ⊥) W old new (λ s b none. absurd none) wrote

pub returns-in-Ok-Getvar-clause-writes : goal.returns-in-Ok-Getvar-clause-writes
returns-in-Ok-Getvar-clause-writes g c = λ t.
    none_writes g.P.Disk _ c.args.p.now c.tell_still.new.p
    (c.tell_still.ensures.writes t)

pub returns-in-Err-clause-writes : goal.returns-in-Err-clause-writes
returns-in-Err-clause-writes g c = λ t.
    none_writes g.P.Disk _ c.args.p.now c.tell_still-in-Err.new.p
    (c.tell_still-in-Err.ensures.writes t)

pub returns-in-Ok-Do-clause-writes : goal.returns-in-Ok-Do-clause-writes
returns-in-Ok-Do-clause-writes g c = λ t.
    let read : asked_in c.args.request ≡ Ok (Do (command_of c.in-Ok-Do.command)) =
    ap asked_in c.in-Ok-Do.is
    ∙ ap asked_some (rw c.in-Ok-Do.is at c.in-Ok-Do.field-0-is) in
    asked_writes g.P.Disk c.args.kept.device _ c.args.request
    (Ok (Do (command_of c.in-Ok-Do.command)))
    c.args.p.now c.do_command.new.p read (c.do_command.ensures.writes t)

pub returns-in-Ok-BootAndEnd-clause-writes : goal.returns-in-Ok-BootAndEnd-clause-writes
returns-in-Ok-BootAndEnd-clause-writes g c = λ t.
    let read : asked_in c.args.request ≡ Ok BootAndEnd =
    ap asked_in c.in-Ok-BootAndEnd.is
    ∙ ap asked_some (rw c.in-Ok-BootAndEnd.is at c.in-Ok-BootAndEnd.field-0-is) in
    asked_writes g.P.Disk c.args.kept.device _ c.args.request (Ok BootAndEnd)
    c.args.p.now c.do_command-in-Ok-BootAndEnd.new.p read
    (c.do_command-in-Ok-BootAndEnd.ensures.writes t)

pub returns-in-Ok-MergeAll-clause-writes : goal.returns-in-Ok-MergeAll-clause-writes
returns-in-Ok-MergeAll-clause-writes g c = λ t.
    let d = c.args.kept.device in
    let old = c.args.p.now in
    let new = c.do_command-in-Ok-MergeAll.new.p in
    let k = kept_on c.args.kept (g.P.Disk.seen old) in
    let read : asked_in c.args.request ≡ Ok MergeAll =
    ap asked_in c.in-Ok-MergeAll.is
    ∙ ap asked_some (rw c.in-Ok-MergeAll.is at c.in-Ok-MergeAll.field-0-is) in
    asked_writes g.P.Disk d k c.args.request (Ok MergeAll) old new read
    (subst
    (λ (n : ℕ).
    WritesAs g.P.Disk
    (IsOfChange g.P.Disk.is_modelled d k (g.P.Disk.seen old 4) (Merge (n + 1))) old new)
    c.left.ensures.is
    (c.do_command-in-Ok-MergeAll.ensures.writes t))

-- ---- a download asks for no merge

pub returns-in-Ok-Download-clause-does : goal.returns-in-Ok-Download-clause-does
returns-in-Ok-Download-clause-does g c = λ t packet was.
    let is : request_of packet ≡ Ok (Download c.in-Ok-Download.size) =
    was ∙ ap asked_in c.in-Ok-Download.is
    ∙ ap asked_some (rw c.in-Ok-Download.is at c.in-Ok-Download.field-0-is) in
    c.download.ensures.does t packet is

pub returns-in-Ok-Download-clause-changes : goal.returns-in-Ok-Download-clause-changes
returns-in-Ok-Download-clause-changes g c = λ t.
    changes_by g.P.Disk c.args.kept.device _ c.args.p.now c.download.new.p
    c.requires.device.slot (c.download.ensures.changes t)

pub returns-in-Ok-Download-clause-follows : goal.returns-in-Ok-Download-clause-follows
returns-in-Ok-Download-clause-follows g c =
    if_ok _ _ c.download.result
    (λ k keeps. follows_kept c.args.kept.device _ k.device keeps)
    c.download.ensures.source

pub returns-in-Ok-Download-clause-writes : goal.returns-in-Ok-Download-clause-writes
returns-in-Ok-Download-clause-writes g c = λ t.
    none_writes g.P.Disk _ c.args.p.now c.download.new.p
    (c.download.ensures.writes t)

-- Lines of commands.
use Rattle.std.proofs.Common.{◌≡◌, ◌∙◌, inl, inr, ◌<◌, ℕ, List, [], ◌∷◌, ◌++◌, length, codes}
use Rattle.std.proofs.Common.{decimal}
use Rattle.std.proofs.Common.{refl, sym, ap, subst, arith, length-append, Some, None, ◌+◌}
use Rattle.std.specs.Prelude.{Option}
use Rattle.hex.specs.Hex.{encode_lower}
use Rattle.vab_disk.specs.Disk.{Image}
use Rattle.vab_model.specs.declared.command.Reply.{Reply}
use Rattle.vab_model.specs.declared.command.Reply.TheVariants as replies
use Rattle.vab_model.specs.Commands.{Command, SetActive, Mark}
use Rattle.vab_model.specs.Commands.{Cancel, BeginMerge}
use Rattle.vab_marks.specs.declared.mark.MarkPhase.{MarkPhase}
use Rattle.vab_marks.specs.declared.mark.MarkPhase.TheVariants as marks
use Rattle.vab_marks.specs.declared.mark.UpdateMark.{UpdateMark}
use Rattle.vab_model.specs.declared.state.PlanEntry.{PlanEntry}
use Rattle.vab_model.specs.declared.state.Phase.{Phase}
use Rattle.vab_model.specs.declared.state.Phase.TheVariants.{Idle, Installing, Staged, Merging}
use Rattle.vab_device.specs.declared.device.Device.{Device}
use Rattle.vab_device.specs.Mounted.{Mounted, state_on, mounted_on, count_at, phase_by, unplanned}
use Rattle.vab_device.specs.Mounted.{entries_on}
use Rattle.vab_device.specs.Updates.{effect_on}
use Rattle.vab_fbproto.specs.Texts.{slot_letter, refusal_text}
use Rattle.vab_session.specs.Responses.{left_of}
use Rattle.vab_cli.specs.Codes.{reply_status}
use Rattle.vab_cli.specs.Verbs.{line, done_line, reply_line, command_line, verb_status}
use Rattle.vab_cli.specs.declared.status.Status.{Status}
use Rattle.vab_cli.specs.Runs.{Held, IsFailed}

pub line_some : (text : List ℕ) → 0 < length (line text)
line_some text = omega (arith, length-append text (10 ∷ []))

done_some : (c : Command) (current left : ℕ) → 0 < length (done_line c current left)
done_some (SetActive slot) current left = line_some (codes "active " ++ slot_letter slot)
done_some Mark current left = line_some (codes "marked " ++ slot_letter current)
done_some Cancel current left = line_some (codes "cancelled")
done_some BeginMerge current left = line_some (codes "merging, left " ++ decimal left)
done_some _ current left = line_some []

-- each reply has a line
pub reply_some : (c : Command) (current left : ℕ) (r : Reply)
    → 0 < length (reply_line c current left r)
unfolding reply_line
reply_some c current left replies.Done = done_some c current left
reply_some c current left (replies.Booted slot) = line_some (codes "booted " ++ slot_letter slot)
reply_some c current left (replies.Bytes name) = line_some []
reply_some c current left (replies.Digest sum) = line_some (encode_lower sum)
reply_some c current left (replies.Left blocks) = line_some (codes "left " ++ decimal blocks)
reply_some c current left replies.Merged = line_some (codes "merged")
reply_some c current left (replies.Refused refusal) =
    line_some (codes "refused: " ++ refusal_text refusal)

-- where a command was replied to, neither the disk nor the port failed
pub held_reply : (r : Reply) → Held (reply_status r)
held_reply replies.Done = tt
held_reply (replies.Booted slot) = tt
held_reply (replies.Bytes name) = tt
held_reply (replies.Digest sum) = tt
held_reply (replies.Left blocks) = tt
held_reply replies.Merged = tt
held_reply (replies.Refused refusal) = tt

pub not_failed : (status : Status) → Held status → IsFailed status → ⊥
not_failed status held (inl disk) = subst Held disk held
not_failed status held (inr port) = subst Held port held

pub verb_kind : (m : Mounted) (c : Command) → IsFailed (verb_status m c) → ⊥
verb_kind m c = not_failed (verb_status m c) (held_reply (effect_on m None c).reply)

pub current_is : (d : Device) (image : Image)
    → (state_on d image).control.current ≡ d.control.current
unfolding state_on
current_is d image = refl

-- ---- how many are left

-- only the begin of a merge tells it
same_line : (c : Command) (current n left : ℕ) (r : Reply)
    → done_line c current n ≡ done_line c current left
    → reply_line c current n r ≡ reply_line c current left r
unfolding reply_line
same_line c current n left replies.Done same = same
same_line c current n left (replies.Booted slot) same = refl
same_line c current n left (replies.Bytes name) same = refl
same_line c current n left (replies.Digest sum) same = refl
same_line c current n left (replies.Left blocks) same = refl
same_line c current n left replies.Merged same = refl
same_line c current n left (replies.Refused refusal) same = refl

-- where it is done, an update is ready
begun_line : (m : Mounted) (current n : ℕ) (phase : Phase)
    → m.state.phase ≡ phase
    → ((source left : ℕ) → phase ≡ Staged source left → n ≡ left)
    → (let reply = (effect_on m None BeginMerge).reply in
    reply_line BeginMerge current n reply
    ≡ reply_line BeginMerge current (left_of m.state.phase) reply)
unfolding reply_line
begun_line m current n Idle is same = rw is refl
begun_line m current n (Installing source plan) is same = rw is refl
begun_line m current n (Merging target left) is same = rw is refl
begun_line m current n (Staged source left) is same =
    ap (λ (k : ℕ). reply_line BeginMerge current k (effect_on m None BeginMerge).reply)
    (same source left refl ∙ sym (ap left_of is))

left_line : (m : Mounted) (current n : ℕ) (c : Command)
    → ((source left : ℕ) → m.state.phase ≡ Staged source left → n ≡ left)
    → reply_line c current n (effect_on m None c).reply
    ≡ reply_line c current (left_of m.state.phase) (effect_on m None c).reply
left_line m current n BeginMerge same = begun_line m current n m.state.phase refl same
left_line m current n c same = same_line c current n _ _ refl

-- those are the exceptions of the slots with images
left_by : (m : UpdateMark) (count source left : ℕ) (entries : Option (List PlanEntry))
    → phase_by m count entries ≡ Staged source left
    → count ≡ left
left_by m count source left (Some entries) is = absurd cc
left_by m count source left None is = by_phase m.phase is
  where
    by_phase : (phase : MarkPhase) → unplanned phase m.slot count ≡ Staged source left
        → count ≡ left
    by_phase marks.Idle is = absurd cc
    by_phase marks.Installing is = absurd cc
    by_phase marks.Staged is = ap left_of is
    by_phase marks.Merging is = absurd cc
    by_phase marks.Completed is = absurd cc

pub left_here : (d : Device) (image : Image) (source left : ℕ)
    → (state_on d image).phase ≡ Staged source left
    → count_at d.a + count_at d.b ≡ left
unfolding state_on
left_here d image source left is =
    left_by d.mark (count_at d.a + count_at d.b) source left (entries_on image d.plan) is

-- what is told is the line of the reply that the table of effects gives
pub told_line : (d : Device) (image : Image) (s : Mounted) (c : Command) (current left : ℕ)
    (reply : Reply) (out text : List ℕ)
    → mounted_on d image ≡ s
    → current ≡ d.control.current
    → left ≡ count_at d.a + count_at d.b
    → reply ≡ (effect_on (mounted_on d image) None c).reply
    → out ≡ reply_line c current left reply
    → text ≡ out
    → text ≡ command_line s c
told_line d image s c current left reply out text same here blocks replied written is =
    let m : Mounted = mounted_on d image in
    let slot : current ≡ m.state.control.current = here ∙ sym (current_is d image) in
    is ∙ written
    ∙ (λ i. reply_line c (slot i) left (replied i))
    ∙ left_line m m.state.control.current left c
    (λ source n phase. blocks ∙ left_here d image source n phase)
    ∙ ap (λ (m : Mounted). command_line m c) same

pub said_status : (d : Device) (image : Image) (s : Mounted) (c : Command) (reply : Reply)
    (status : Status)
    → mounted_on d image ≡ s
    → reply ≡ (effect_on (mounted_on d image) None c).reply
    → status ≡ reply_status reply
    → status ≡ verb_status s c
said_status d image s c reply status same replied is =
    is ∙ ap reply_status replied ∙ ap (λ (m : Mounted). verb_status m c) same

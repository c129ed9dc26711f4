-- The bytes of an image, one piece of blocks after another.
use Rattle.std.proofs.Common.{◌≡◌, ◌∙◌, ℕ, ◌+◌, ◌<◌, ◌≤◌, List, ◌++◌, length, get_or}
use Rattle.std.proofs.Common.{take, drop, sym, ap, arith, take-append-drop, Option, Some}
use Rattle.std.proofs.lemmas.List.{get_or-drop, length-drop}
use Rattle.std.proofs.Math.Seq.{take-add}
use Rattle.vab_disk.specs.Disk.{Image}
use Rattle.vab_gate.specs.Gate.{sectors_at}
use Rattle.vab_model.specs.declared.command.Refusal.{Refusal}
use Rattle.vab_model.specs.declared.state.Image.{Image as ImageOfSlot}
use Rattle.vab_model.specs.declared.state.State.{State}
use Rattle.vab_model.specs.Commands.{Print}
use Rattle.vab_model.specs.declared.command.Reply.{Reply}
use Rattle.vab_model.specs.Effects.{Effect, Found, Image_is, Refused_by, found_of, print_effect}
use Rattle.vab_model.specs.Machine.{machine_effect}
use Rattle.vab_device.specs.declared.device.Device.{Device}
use Rattle.vab_device.specs.declared.device.Part.{Part}
use Rattle.vab_device.specs.Mounted.{Mounted, bytes_at, mounted_on, state_on}
use Rattle.vab_manager.specs.Blocks.{KeepsPart}
use Rattle.vab_manager.proofs.BlockLaws.{kept_once}
use Rattle.vab_manager.proofs.DigestLaws.{bytes_append, bytes_more}
use Rattle.vab_causes.specs.declared.cause.Cause.{Cause}
use Rattle.vab_causes.specs.declared.cause.Cause.TheVariants as causes
use Rattle.vab_cli.specs.Causes.{IsRefusedOn}
use Rattle.vab_cli.specs.Codes.{reply_status}
use Rattle.vab_cli.specs.Verbs.{refused_line, print_told, verb_status}
use Rattle.vab_cli.specs.declared.status.Status.TheVariants.{Done, Refused}

-- ---- one block more of a piece

pub piece_more : (image seen : Image) (map items bytes new : List ℕ) (first i : ℕ)
    → first + i < length map
    → seen ≡ image
    → items ≡ bytes_at image (take i (drop first map))
    → bytes ≡ sectors_at 8 seen (get_or map (first + i) 0)
    → new ≡ items ++ bytes
    → new ≡ bytes_at image (take (i + 1) (drop first map))
piece_more image seen map items bytes new first i lt same held read is =
    is
    ∙ ap (λ (l : List ℕ). l ++ bytes) held
    ∙ ap (λ (l : List ℕ). bytes_at image (take i (drop first map)) ++ l)
    (read
    ∙ ap (λ (x : Image). sectors_at 8 x (get_or map (first + i) 0)) same
    ∙ ap (sectors_at 8 image) (sym (get_or-drop first map i 0)))
    ∙ bytes_more image (drop first map) i (omega (arith, lt, length-drop first map))

-- ---- one piece more of an image

pub bytes_piece : (image : Image) (map : List ℕ) (done count : ℕ)
    → bytes_at image (take done map) ++ bytes_at image (take count (drop done map))
    ≡ bytes_at image (take (done + count) map)
bytes_piece image map done count =
    sym (bytes_append image (take done map) (take count (drop done map)))
    ∙ ap (bytes_at image) (sym (take-add done count map))

-- and what is behind it
pub bytes_rest : (image : Image) (map : List ℕ) (done count : ℕ)
    → (bytes_at image (take done map) ++ bytes_at image (take count (drop done map)))
    ++ bytes_at image (drop (done + count) map)
    ≡ bytes_at image map
bytes_rest image map done count =
    ap (λ (l : List ℕ). l ++ bytes_at image (drop (done + count) map))
    (bytes_piece image map done count)
    ∙ sym (bytes_append image (take (done + count) map) (drop (done + count) map))
    ∙ ap (bytes_at image) (take-append-drop (done + count) map)

-- the number of blocks is that of the partition that is kept
pub count_kept : (d : Device) (slot : ℕ) (name : List ℕ) (p : Part) (blocks : ℕ)
    → KeepsPart d slot name p
    → (q : Part) × KeepsPart d slot name q × (blocks ≡ length q.map)
    → blocks ≡ length p.map
count_kept d slot name p blocks kept has =
    has.2 ∙ ap (λ (x : Part). length x.map) (kept_once d slot name has.0 p has.1 kept)

pub within_kept : (d : Device) (slot : ℕ) (name : List ℕ) (p : Part) (end : ℕ)
    → KeepsPart d slot name p
    → (q : Part) × KeepsPart d slot name q × (end ≤ length q.map)
    → end ≤ length p.map
within_kept d slot name p end kept has =
    let same = ap (λ (x : Part). length x.map) (kept_once d slot name has.0 p has.1 kept) in
    omega (arith, has.2, same)

-- ---- what was found

-- the reply to a print of what was found
abbrev printed : List ℕ → Found → Reply
printed name f = (let e : Effect State = print_effect name f in e).reply

-- the bytes that are told are those of the image under the name,
pub image_told : (state s : State) (name : List ℕ) (i : ImageOfSlot) (bytes : List ℕ)
    → state ≡ s
    → found_of state name ≡ Image_is i
    → i.bytes ≡ bytes
    → bytes ≡ print_told (found_of s name)
image_told state s name i bytes same found is =
    sym is ∙ sym (ap print_told found) ∙ ap (λ (x : State). print_told (found_of x name)) same

-- and it ends as done
pub image_done : (state : State) (s : Mounted) (name : List ℕ) (i : ImageOfSlot)
    → state ≡ s.state
    → found_of state name ≡ Image_is i
    → Done ≡ verb_status s (Print name)
unfolding machine_effect
image_done state s name i same found =
    sym (ap (λ (f : Found). reply_status (printed name f)) found)
    ∙ ap (λ (x : State). reply_status (printed name (found_of x name))) same

-- or the line says why there are none
pub refusal_told : (state s : State) (name : List ℕ) (f : Refusal)
    → state ≡ s
    → found_of state name ≡ Refused_by f
    → refused_line f ≡ print_told (found_of s name)
refusal_told state s name f same found =
    sym (ap print_told found) ∙ ap (λ (x : State). print_told (found_of x name)) same

pub refusal_done : (state : State) (s : Mounted) (name : List ℕ) (f : Refusal)
    → state ≡ s.state
    → found_of state name ≡ Refused_by f
    → Refused ≡ verb_status s (Print name)
unfolding machine_effect
refusal_done state s name f same found =
    sym (ap (λ (x : Found). reply_status (printed name x)) found)
    ∙ ap (λ (x : State). reply_status (printed name (found_of x name))) same

pub refusal_noted : (d : Device) (image : Image) (name : List ℕ) (f : Refusal)
    (cause : Option Cause)
    → found_of (state_on d image) name ≡ Refused_by f
    → cause ≡ Some (causes.Refused f)
    → IsRefusedOn (mounted_on d image) (Print name) cause
unfolding machine_effect
refusal_noted d image name f cause found is = record {
  refusal = f;
  is = is;
  holds = ap (printed name) found;
}

-- In whose place want of memory may be told: short replies, and none that is told as that.
use Rattle.std.proofs.Common.{◌≡◌, ◌≢◌, ℕ, ◌≤◌, true, List, length, codes, decimal}
use Rattle.std.proofs.Common.{Option, Result, Ok, Err, arith, length-append, ap, get_or, ◌++◌, sym}
use Rattle.std.proofs.Common.{subst, inl, inr, refl}
use Rattle.std.specs.Prelude.{◌+◌}
use Rattle.vab_model.specs.declared.command.Refusal.{Refusal}
use Rattle.vab_model.specs.declared.command.Refusal.TheVariants as refusals
use Rattle.vab_model.specs.declared.command.Reply.{Reply}
use Rattle.vab_model.specs.declared.command.Reply.TheVariants as replies
use Rattle.vab_model.specs.Commands.{Command, Boot, Merge, UpdateSuper}
use Rattle.vab_device.specs.Mounted.{Mounted}
use Rattle.vab_device.specs.Updates.{effect_on, update_super}
use Rattle.vab_session.proofs.OverlayLaws.{if_either}
use Rattle.vab_device.proofs.WantLaws.{is_wanted, wants_told}
use Rattle.vab_fbproto.specs.Requests.{Asked, Getvar, Download, Do, MergeAll, BootAndEnd}
use Rattle.vab_fbproto.specs.Texts.{share, refusal_text, reply_text}
use Rattle.vab_fbproto.specs.declared.request.BadCommand.{BadCommand}
use Rattle.vab_fbvars.proofs.Decimals.{decimal_short}
use Rattle.vab_exchanges.specs.Items.{IsPlain}
use Rattle.vab_session.specs.Responses.{response, left_of, by_command}
use Rattle.vab_session.proofs.ShortNames.{filled_short}
use Rattle.vab_session.proofs.WipeLaws.{IsWipeRefusal, wipe_comes}

-- ---- they are short

-- two numbers, with what stands before, between and behind them
appended : (head between unit one other : List ℕ)
    → length (head ++ one ++ between ++ other ++ unit)
    ≡ length head + length one + length between + length other + length unit
appended head between unit one other =
    omega (
      arith,
      length-append (head ++ one ++ between ++ other) unit,
      length-append (head ++ one ++ between) other,
      length-append (head ++ one) between,
      length-append head one,
    )

short_share : (head between unit : List ℕ) (one other : ℕ)
    → length (share head one between other unit) ≤ length head + length between + length unit + 128
short_share head between unit one other =
    omega (
      arith,
      appended head between unit (decimal one) (decimal other),
      decimal_short one,
      decimal_short other,
    )

abbrev IsShort : Reply → Type 0
IsShort reply = length (reply_text reply) ≤ 256

short_full : (size most : ℕ) → IsShort (replies.Refused (refusals.TableFull size most))
unfolding reply_text refusal_text
short_full size most =
    let text = share (codes "table full: ") size (codes " of ") most (codes " bytes") in
    omega (
      arith,
      length-append (codes "FAIL") text,
      short_share (codes "table full: ") (codes " of ") (codes " bytes") size most,
    )

short_filled : (name : List ℕ)
    → length name ≤ 36
    → IsShort (replies.Refused (refusals.NotEmpty name))
unfolding reply_text refusal_text
short_filled name few =
    let text = codes "partition is not empty: " ++ name in
    omega (
      arith,
      few,
      length-append (codes "FAIL") text,
      length-append (codes "partition is not empty: ") name,
    )

short_reply : (reply : Reply) → is_wanted reply ≡ true → IsShort reply
unfolding reply_text
short_reply replies.Done may = omega arith
short_reply (replies.Refused (refusals.TableFull size most)) may = short_full size most
short_reply (replies.Refused _) may = absurd cc
short_reply _ may = absurd cc

-- each refusal of a wipe
short_refusal : (slot : ℕ) (staged : Option (List ℕ)) (refusal : Refusal)
    → IsWipeRefusal slot staged refusal
    → IsShort (replies.Refused refusal)
unfolding reply_text refusal_text
short_refusal slot staged refusals.NotIdle why = omega arith
short_refusal slot staged refusals.NothingStaged why = omega arith
short_refusal slot staged refusals.Sparse why = omega arith
short_refusal slot staged refusals.BadSuperImage why = omega arith
short_refusal slot staged refusals.OtherGeometry why = omega arith
short_refusal slot staged refusals.OtherDevice why = omega arith
short_refusal slot staged (refusals.NotEmpty name) why =
    short_filled name (filled_short slot staged name why)
short_refusal slot staged (refusals.TableFull size most) why = short_full size most
short_refusal slot staged _ why = absurd why

short_wipe : (m : Mounted) (staged : Option (List ℕ))
    → IsShort (effect_on m staged UpdateSuper).reply
short_wipe m staged =
    let slot : ℕ = m.state.control.current in
    if_either (λ e. IsShort e.reply) m.state.overlay (update_super m slot staged m.state.phase)
    (short_refusal slot staged refusals.NotIdle tt)
    (elim (wipe_comes m slot staged m.state.phase) [
      | inl refused ↦
          subst IsShort (sym refused.told)
          (short_refusal slot staged refused.refusal refused.why)
      | inr done ↦ subst IsShort (sym done.told) (short_reply replies.Done refl)
    ])

-- ---- none is told as want of memory

abbrev IsOther : Reply → Type 0
IsOther reply = reply_text reply ≢ codes "FAILout of memory"

-- a text whose fifth byte isn't an `o`
other_fifth : (text : List ℕ) → get_or text 4 0 ≢ 111 → text ≢ codes "FAILout of memory"
other_fifth text apart same = apart (ap (λ (l : List ℕ). get_or l 4 0) same)

other_reply : (reply : Reply) → is_wanted reply ≡ true → IsOther reply
unfolding reply_text refusal_text
other_reply replies.Done may = λ same. absurd cc
other_reply (replies.Refused (refusals.TableFull size most)) may =
    other_fifth (reply_text (replies.Refused (refusals.TableFull size most))) (omega arith)
other_reply (replies.Refused _) may = absurd cc
other_reply _ may = absurd cc

other_refusal : (slot : ℕ) (staged : Option (List ℕ)) (refusal : Refusal)
    → IsWipeRefusal slot staged refusal
    → IsOther (replies.Refused refusal)
unfolding reply_text refusal_text
other_refusal slot staged refusals.NotIdle why =
    other_fifth (reply_text (replies.Refused refusals.NotIdle)) (omega arith)
other_refusal slot staged refusals.NothingStaged why =
    other_fifth (reply_text (replies.Refused refusals.NothingStaged)) (omega arith)
other_refusal slot staged refusals.Sparse why =
    other_fifth (reply_text (replies.Refused refusals.Sparse)) (omega arith)
other_refusal slot staged refusals.BadSuperImage why =
    other_fifth (reply_text (replies.Refused refusals.BadSuperImage)) (omega arith)
other_refusal slot staged refusals.OtherGeometry why =
    other_fifth (reply_text (replies.Refused refusals.OtherGeometry)) (omega arith)
other_refusal slot staged refusals.OtherDevice why =
    other_fifth (reply_text (replies.Refused refusals.OtherDevice)) (omega arith)
other_refusal slot staged (refusals.NotEmpty name) why =
    other_fifth (reply_text (replies.Refused (refusals.NotEmpty name))) (omega arith)
other_refusal slot staged (refusals.TableFull size most) why =
    other_fifth (reply_text (replies.Refused (refusals.TableFull size most))) (omega arith)
other_refusal slot staged _ why = absurd why

other_wipe : (m : Mounted) (staged : Option (List ℕ))
    → IsOther (effect_on m staged UpdateSuper).reply
other_wipe m staged =
    let slot : ℕ = m.state.control.current in
    if_either (λ e. IsOther e.reply) m.state.overlay (update_super m slot staged m.state.phase)
    (other_refusal slot staged refusals.NotIdle tt)
    (elim (wipe_comes m slot staged m.state.phase) [
      | inl refused ↦
          subst IsOther (sym refused.told)
          (other_refusal slot staged refused.refusal refused.why)
      | inr done ↦ subst IsOther (sym done.told) (other_reply replies.Done refl)
    ])

-- ---- responses

command_short : (m : Mounted) (staged : Option (List ℕ)) (c : Command)
    → (by_command m staged c).may_want ≡ true
    → length (by_command m staged c).text ≤ 256
command_short m staged UpdateSuper may = short_wipe m staged
command_short m staged c may =
    short_reply (effect_on m staged c).reply (wants_told m staged c (λ same. absurd cc) may)

short : (m : Mounted) (staged : Option (List ℕ)) (asked : Result Asked BadCommand)
    → (response m staged asked).may_want ≡ true
    → length (response m staged asked).text ≤ 256
short m staged (Ok (Getvar variable)) may = absurd cc
short m staged (Ok (Download size)) may = absurd cc
short m staged (Ok (Do command)) may = command_short m staged command may
short m staged (Ok MergeAll) may = command_short m staged (Merge (left_of m.state.phase + 1)) may
short m staged (Ok BootAndEnd) may = command_short m staged Boot may
short m staged (Err fault) may = absurd cc

command_wanted : (m : Mounted) (staged : Option (List ℕ)) (c : Command)
    → (by_command m staged c).may_want ≡ true
    → (by_command m staged c).text ≢ codes "FAILout of memory"
command_wanted m staged UpdateSuper may = other_wipe m staged
command_wanted m staged c may =
    other_reply (effect_on m staged c).reply (wants_told m staged c (λ same. absurd cc) may)

no_memory_wanted : (m : Mounted) (staged : Option (List ℕ)) (asked : Result Asked BadCommand)
    → (response m staged asked).may_want ≡ true
    → (response m staged asked).text ≢ codes "FAILout of memory"
no_memory_wanted m staged (Ok (Getvar variable)) may = absurd cc
no_memory_wanted m staged (Ok (Download size)) may = absurd cc
no_memory_wanted m staged (Ok (Do command)) may = command_wanted m staged command may
no_memory_wanted m staged (Ok MergeAll) may =
    command_wanted m staged (Merge (left_of m.state.phase + 1)) may
no_memory_wanted m staged (Ok BootAndEnd) may = command_wanted m staged Boot may
no_memory_wanted m staged (Err fault) may = absurd cc

pub plain : IsPlain response
plain = record { short = short; other = no_memory_wanted }

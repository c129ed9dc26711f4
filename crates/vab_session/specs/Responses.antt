-- What a packet makes of a device.
use Rattle.std.specs.Prelude.{Bool, false, List, ℕ, ◌+◌, [], codes, Option, None, Result, Ok}
use Rattle.std.specs.Prelude.{Err}
use Rattle.vab_model.specs.declared.state.Phase.{Phase}
use Rattle.vab_model.specs.declared.state.Phase.TheVariants.{Staged, Merging}
use Rattle.vab_model.specs.declared.command.Reply.{Reply}
use Rattle.vab_model.specs.declared.command.Reply.TheVariants as replies
use Rattle.vab_model.specs.Commands.{Command, Boot, Merge}
use Rattle.vab_model.specs.Effects.{Effect}
use Rattle.vab_model.specs.Kinds.{uses_staged}
use Rattle.vab_device.specs.Mounted.{Mounted}
use Rattle.vab_device.specs.Updates.{effect_on}
use Rattle.vab_fbproto.specs.Requests.{Asked, Getvar, Download, Do, MergeAll, BootAndEnd}
use Rattle.vab_fbproto.specs.Texts.{reply_text, bad_text}
use Rattle.vab_fbvars.specs.Variables.{variable_text}
use Rattle.vab_fbproto.specs.declared.request.BadCommand.{BadCommand}
use Rattle.vab_exchanges.specs.Items.{Response, Machine}

-- this is told, and nothing changes
abbrev pub still : List ℕ → Response Mounted
still text = record { text = text; later = []; takes = false; may_want = false }

-- the staged bytes are used up: a flash or a wipe was done
abbrev pub takes_staged : Command → Reply → Bool
takes_staged c replies.Done = uses_staged c
takes_staged c _ = false

-- what a command does to a device
abbrev pub by_effect : Command → Effect Mounted → Response Mounted
by_effect c e = record {
  text = reply_text e.reply;
  later = e.later;
  takes = takes_staged c e.reply;
  may_want = e.wants;
}

abbrev pub by_command : Mounted → Option (List ℕ) → Command → Response Mounted
by_command m staged c = by_effect c (effect_on m staged c)

-- how many blocks are left to merge
abbrev pub left_of : Phase → ℕ
left_of (Staged source left) = left
left_of (Merging target left) = left
left_of _ = 0

-- The response to a packet. To merge all is a merge of one turn more than blocks are left, which
-- ends it. A download is none of these: what is told of it doesn't depend on the device.
abbrev pub response : Mounted → Option (List ℕ) → Result Asked BadCommand → Response Mounted
response m staged (Ok (Getvar variable)) = still (variable_text m.state variable)
response m staged (Ok (Download size)) = still (codes "OKAY")
response m staged (Ok (Do command)) = by_command m staged command
response m staged (Ok MergeAll) = by_command m staged (Merge (left_of m.state.phase + 1))
response m staged (Ok BootAndEnd) = by_command m staged Boot
response m staged (Err bad) = still (bad_text bad)

-- The devices that a session goes through by itself before it hears the next packet: those of the
-- command to merge so many blocks, whose reply nobody hears. Where nothing is being merged there
-- are none.
abbrev pub turns_between : ℕ → Mounted → List Mounted
turns_between turns m = (effect_on m None (Merge turns)).later

-- a device in a session that makes so many turns behind each reply
abbrev pub machine : ℕ → Machine Mounted
machine turns = record { effect = response; between = turns_between turns }

-- A packet asks for what was read of it.
use Rattle.std.proofs.Common.{◌≡◌, ◌∙◌, List, ℕ, Bool, false, ap, sym, subst}
use Rattle.std.specs.Prelude.{Result, Ok, Err, MatchResult}
use Rattle.vab_disk.specs.declared.disk.Disk.{Ghosts}
use Rattle.vab_device.specs.declared.device.Device.{Device}
use Rattle.vab_device.specs.Mounted.{Mounted}
use Rattle.vab_fbproto.specs.declared.request.BadCommand.{BadCommand}
use Rattle.vab_fbproto.specs.declared.request.Request.{Request}
use Rattle.vab_fbproto.specs.Requests.{Asked, asked_of, request_of}
use Rattle.vab_exchanges.specs.Items.{Kept}
use Rattle.vab_exchanges.specs.Session.{ends_session, is_last}
use Rattle.vab_session.specs.Read.{asked_in}
use Rattle.vab_session.specs.Sparing.{asks_source}
use Rattle.vab_session.specs.Written.{IsOfAsked, WritesAs, WritesPacket, command_asked}

-- what the reader of a packet promises
abbrev pub IsRead : List ℕ → Result Request BadCommand → Type 0
IsRead packet read =
    MatchResult read
    (λ r. request_of packet ≡ Ok (asked_of r))
    (λ e. request_of packet ≡ Err e)

pub was_read : (packet : List ℕ) (read : Result Request BadCommand)
    → IsRead packet read
    → request_of packet ≡ asked_in read
was_read packet (Ok request) is = is
was_read packet (Err bad) is = is

-- the session ends behind it, or not
pub ends_read : (packet : List ℕ) (read : Result Request BadCommand) (last : Bool)
    → IsRead packet read
    → is_last (asked_in read) ≡ last
    → ends_session packet ≡ last
unfolding ends_session
ends_read packet read last is ends = ap is_last (was_read packet read is) ∙ ends

-- one that asks for no merge and no wipe
pub spares_read : (packet : List ℕ) (read : Result Request BadCommand)
    → IsRead packet read
    → asks_source (request_of packet) ≡ false
    → asks_source (asked_in read) ≡ false
spares_read packet read is not = sym (ap asks_source (was_read packet read is)) ∙ not

-- it writes what its command writes
pub writes_read : {D : Type 0} (g : Ghosts D) (d : Device) (k : Kept Mounted)
    (packet : List ℕ) (read : Result Request BadCommand) (old new : D)
    → IsRead packet read
    → WritesAs g
    (IsOfAsked g.is_modelled d k (g.seen old 4) (command_asked d (asked_in read)))
    old new
    → WritesPacket g d k packet old new
writes_read g d k packet read old new is wrote =
    subst
    (λ (a : Result Asked BadCommand).
    WritesAs g (IsOfAsked g.is_modelled d k (g.seen old 4) (command_asked d a)) old new)
    (sym (was_read packet read is)) wrote

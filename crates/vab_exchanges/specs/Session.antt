-- A whole session, as a relation between its input, its exchanges and how it ends. No place in the
-- input is kept.
use Rattle.std.specs.Prelude.{◌≡◌, ◌⊎◌, ℕ, suc, ◌+◌, ◌-◌, ◌<◌, ◌≤◌, Bool, true, false, not, ◌&&◌}
use Rattle.std.specs.Prelude.{◌||◌, List}
use Rattle.std.specs.Prelude.{[], ◌∷◌, ◌++◌, length, take, slice_index, IsTrue, nat_le, nat_lt}
use Rattle.std.specs.Prelude.{if◌then◌else◌, Option, Some, None, Result, Ok, Err}
use Rattle.std.specs.List.{flat_map}
use Rattle.std.specs.Int.{w64, to_be_bytes, from_be_bytes}
use Rattle.vab_fbtcp.specs.Hello.{is_hello}
use Rattle.vab_fbproto.specs.Requests.{Asked, Getvar, Download, Do, MergeAll, BootAndEnd}
use Rattle.vab_fbproto.specs.Requests.{request_of}
use Rattle.vab_fbproto.specs.declared.request.BadCommand.{BadCommand}

-- a packet: the eight bytes of its length, the high byte first, and its bytes
unfoldable pub packet : List ℕ → List ℕ
packet bytes = to_be_bytes w64 (length bytes) ++ bytes

abbrev pub is_last : Result Asked BadCommand → Bool
is_last (Ok BootAndEnd) = true
is_last (Ok MergeAll) = false
is_last (Ok (Getvar variable)) = false
is_last (Ok (Download size)) = false
is_last (Ok (Do command)) = false
is_last (Err bad) = false

-- the session ends behind this packet
unfoldable pub ends_session : List ℕ → Bool
ends_session p = is_last (request_of p)

-- the most bytes of a download
abbrev pub most_data : ℕ
most_data = 268435456

abbrev pub wanted : Bool → Result Asked BadCommand → ℕ
wanted refused (Ok (Download size)) = if refused || nat_lt most_data size then 0 else size
wanted refused (Ok BootAndEnd) = 0
wanted refused (Ok MergeAll) = 0
wanted refused (Ok (Getvar variable)) = 0
wanted refused (Ok (Do command)) = 0
wanted refused (Err bad) = 0

-- How many bytes of data a command packet is to be followed by: those of a download that isn't too
-- large, unless memory for them is refused.
unfoldable pub due_of : Bool → List ℕ → ℕ
due_of refused p = wanted refused (request_of p)

-- ---- exchanges

-- a command packet, whether memory is refused to it, and the data packets behind it
pub record Exchange : Type 0 where
  pub command : List ℕ
  pub refused : Bool
  pub parts : List (List ℕ)

abbrev pub spelled : Exchange → List ℕ
spelled s = packet s.command ++ flat_map packet s.parts

-- data packets, where so many bytes were due before them and so many are due after them
abbrev pub Leaves : ℕ → List (List ℕ) → ℕ → Type 0
Leaves due [] still = still ≡ due
Leaves due (p ∷ ps) still = (0 < due) × (length p ≤ due) × Leaves (due - length p) ps still

pub record IsExchange (s : Exchange) : Type 0 where
  pub short : length s.command ≤ 4096
  pub all : Leaves (due_of s.refused s.command) s.parts 0

-- ---- ends

-- how a session ends
pub data End : Type 0 where
  Closed : End
  Rebooted : End
  BadHello : End
  TooLong : (length : ℕ) → End
  Overrun : (due came : ℕ) → End
  Cut : (at : ℕ) → End
  Spent : End

-- the length that stands at the front
abbrev pub length_at : List ℕ → ℕ
length_at bytes = from_be_bytes w64 (take 8 bytes)

-- the bytes end inside a length, or inside a packet that isn't longer than this
abbrev pub IsCutShort : ℕ → List ℕ → Type 0
IsCutShort most rest =
    (length rest < 8) ⊎ ((length_at rest ≤ most) × (length rest < 8 + length_at rest))

-- a packet of this length begins, and it is longer
abbrev pub IsAbove : ℕ → List ℕ → ℕ → Type 0
IsAbove most rest n = (8 ≤ length rest) × (n ≡ length_at rest) × (most < n)

-- what is left where a command is to come, in an input of so many bytes, is none, and how it ends
abbrev pub Stops : ℕ → List ℕ → End → Type 0
Stops count rest Closed = rest ≡ []
Stops count rest (Cut at) = (at ≡ count) × (0 < length rest) × IsCutShort 4096 rest
Stops count rest (TooLong n) = IsAbove 4096 rest n
Stops count rest Rebooted = ⊥
Stops count rest BadHello = ⊥
Stops count rest (Overrun due came) = ⊥
Stops count rest Spent = ⊥

-- what is left where data are to come is none
abbrev pub Breaks : ℕ → ℕ → List ℕ → End → Type 0
Breaks count due rest (Cut at) = (at ≡ count) × IsCutShort due rest
Breaks count due rest (Overrun wanted came) = (wanted ≡ due) × IsAbove due rest came
Breaks count due rest Closed = ⊥
Breaks count due rest Rebooted = ⊥
Breaks count due rest BadHello = ⊥
Breaks count due rest (TooLong n) = ⊥
Breaks count due rest Spent = ⊥

-- a download that is accepted, and whose data end before all came
pub record IsUnfinished (count : ℕ) (command bytes : List ℕ) (end : End) : Type 0 where
  pub parts : List (List ℕ)
  pub rest : List ℕ
  pub still : ℕ
  pub is : bytes ≡ packet command ++ (flat_map packet parts ++ rest)
  pub short : length command ≤ 4096
  pub some : 0 < still
  pub leaves : Leaves (due_of false command) parts still
  pub breaks : Breaks count still rest end

-- no whole exchange is left
abbrev pub StopsWith : ℕ → List ℕ → Option (List ℕ) → End → Type 0
StopsWith count rest None end = Stops count rest end
StopsWith count rest (Some command) end = IsUnfinished count command rest end

-- the session ends behind an exchange, or it goes on
abbrev pub GoesOn : (last : Bool) → (Ends Goes : Type 0) → Type 0
GoesOn last Ends Goes = ((last ≡ true) × Ends) ⊎ ((last ≡ false) × Goes)

-- none is left, and the session was ended by a boot
abbrev pub IsBooted : List Exchange → Option (List ℕ) → End → Type 0
IsBooted exchanges unfinished end = (exchanges ≡ []) × (unfinished ≡ None) × (end ≡ Rebooted)

-- Bytes of an input of so many are these exchanges one behind the other, the unfinished download
-- behind them, and end so.
abbrev pub IsRead : ℕ → List ℕ → List Exchange → Option (List ℕ) → End → Type 0
IsRead count bytes [] unfinished end = StopsWith count bytes unfinished end
IsRead count bytes (s ∷ ss) unfinished end =
    (later : List ℕ)
    × (bytes ≡ spelled s ++ later)
    × IsExchange s
    × GoesOn (ends_session s.command)
    (IsBooted ss unfinished end)
    (IsRead count later ss unfinished end)

-- memory is refused to them as the choice says, from number k on
abbrev pub Follows : (ℕ → Bool) → ℕ → List Exchange → Option (List ℕ) → Type 0
Follows refused k [] None = Unit {0}
Follows refused k [] (Some command) = refused k ≡ false
Follows refused k (s ∷ ss) unfinished =
    (s.refused ≡ refused k) × Follows refused (suc k) ss unfinished

-- ---- sessions

-- there is no whole hello, or another one
abbrev pub HasNoHello : ℕ → List ℕ → End → Type 0
HasNoHello count input (Cut at) = (at ≡ count) × (length input < 4)
HasNoHello count input BadHello = (4 ≤ length input) × (is_hello (take 4 input) ≡ false)
HasNoHello count input Closed = ⊥
HasNoHello count input Rebooted = ⊥
HasNoHello count input (TooLong n) = ⊥
HasNoHello count input (Overrun due came) = ⊥
HasNoHello count input Spent = ⊥

-- the hello, these exchanges, and an end
pub record HasExchanges
    (input : List ℕ)
    (exchanges : List Exchange)
    (unfinished : Option (List ℕ))
    (end : End) : Type 0 where
  pub hello : IsTrue (is_hello (take 4 input))
  pub later : List ℕ
  pub whole : input ≡ take 4 input ++ later
  pub read : IsRead (length input) later exchanges unfinished end

abbrev pub Reads : List ℕ → List Exchange → Option (List ℕ) → End → Type 0
Reads input exchanges unfinished end =
    HasExchanges input exchanges unfinished end
    ⊎ ((exchanges ≡ []) × (unfinished ≡ None) × HasNoHello (length input) input end)

-- how a session ends that has had all the bytes that it may have: where it would hear more, it is
-- spent
abbrev pub spent : End → End
spent Closed = Spent
spent (Cut at) = Spent
spent Rebooted = Rebooted
spent BadHello = BadHello
spent (TooLong n) = TooLong n
spent (Overrun due came) = Overrun due came
spent Spent = Spent

-- a boot and the end were asked for
abbrev pub is_boot : End → Bool
is_boot Rebooted = true
is_boot Closed = false
is_boot BadHello = false
is_boot (TooLong n) = false
is_boot (Overrun due came) = false
is_boot (Cut at) = false
is_boot Spent = false

-- where a session ends otherwise, another packet was waited for
abbrev pub waits_behind : End → Bool
waits_behind end = not (is_boot end)

-- the same of a session that takes at most so many bytes of this input, if its hello is whole
abbrev pub waits_in : ℕ → List ℕ → End → Bool
waits_in most input end = is_hello (take 4 (take most input)) && waits_behind end

-- The session that takes at most so many bytes of this input, where memory is refused so.
pub record IsSession
    (most : ℕ)
    (refused : ℕ → Bool)
    (input : List ℕ)
    (exchanges : List Exchange)
    (unfinished : Option (List ℕ))
    (end : End) : Type 0 where
  pub first : End
  pub reads : Reads (take most input) exchanges unfinished first
  pub follows : Follows refused 0 exchanges unfinished
  pub ends : end ≡ (if nat_le most (length input) then spent first else first)

-- For each input of bytes and each choice there is a session.
abbrev pub EachInputIsOne : Type 0
EachInputIsOne =
    (most : ℕ) (refused : ℕ → Bool) (input : List ℕ)
    → ((k : ℕ) → slice_index input k < 256)
    → (exchanges : List Exchange)
    × (unfinished : Option (List ℕ))
    × (end : End)
    × IsSession most refused input exchanges unfinished end

-- And there is no other.
abbrev pub NoOtherSession : Type 0
NoOtherSession =
    (most : ℕ) (refused : ℕ → Bool) (input : List ℕ)
    (exchanges others : List Exchange)
    (unfinished other_download : Option (List ℕ))
    (end other : End)
    → IsSession most refused input exchanges unfinished end
    → IsSession most refused input others other_download other
    → (exchanges ≡ others) × (unfinished ≡ other_download) × (end ≡ other)

-- ---- waiting

-- the session may go on from there, and what came is no whole exchange more
abbrev pub IsWaiting : ℕ → End → Type 0
IsWaiting count end = (end ≡ Closed) ⊎ (end ≡ Cut count)

-- data packets, of which not all have come
pub record IsAwaited (due : ℕ) (bytes : List ℕ) : Type 0 where
  pub parts : List (List ℕ)
  pub rest : List ℕ
  pub still : ℕ
  pub is : bytes ≡ flat_map packet parts ++ rest
  pub some : 0 < still
  pub leaves : Leaves due parts still
  pub cut : IsCutShort still rest

-- The events of a stream, as a function of where it stands and of the bytes that have come.
use Rattle.std.specs.Prelude.{◌≡◌, ℕ, ◌+◌, ◌-◌, ◌<◌, ◌≤◌, min, List, [], ◌++◌, length, take, drop}
use Rattle.std.specs.Prelude.{slice_range, ◌==◌, ◌&&◌, nat_lt, if◌then◌else◌, Result, Ok, Err}
use Rattle.std.specs.Int.{w64, from_be_bytes, to_be_bytes}
use Rattle.vab_fbtcp.specs.Hello.{is_hello, version_of}
use Rattle.vab_fbtcp.specs.declared.event.Event.{Event}
use Rattle.vab_fbtcp.specs.declared.event.Event.TheVariants as events
use Rattle.vab_fbtcp.specs.declared.event.FrameFault.{FrameFault}
use Rattle.vab_fbtcp.specs.declared.event.FrameFault.TheVariants.{BadHello, TooLong}
use Rattle.vab_fbtcp.specs.declared.event.Place.{Place}
use Rattle.vab_fbtcp.specs.declared.event.Place.TheVariants.{Hello, Length, Body}

-- what is found: an event, with the bytes of a piece by their number
pub data Found : Type 0 where
  Version : (version : ℕ) → Found
  Header : (length : ℕ) → Found
  Part : (count : ℕ) → Found
  More : Found

-- what comes next: `due` bytes are wanted of a data phase, and these bytes have come and aren't
-- taken yet
abbrev pub next_of : ℕ → Place → List ℕ → Result Found FrameFault
next_of due Hello bytes =
    if nat_lt (length bytes) 4 then Ok More
    else
    (if is_hello (take 4 bytes) then Ok (Version (version_of (take 4 bytes))) else Err BadHello)
next_of due Length bytes =
    if nat_lt (length bytes) 8 then Ok More
    else (if due == 0
    && nat_lt 4096 (from_be_bytes w64 (take 8 bytes)) then Err
    (TooLong (from_be_bytes w64 (take 8 bytes)))
    else Ok (Header (from_be_bytes w64 (take 8 bytes))))
next_of due (Body left) bytes =
    if length bytes == 0 then Ok More else Ok (Part (min left (length bytes)))

-- an event as what was found
abbrev pub found_of : Event → Found
found_of (events.Hello version) = Version version
found_of (events.Head length) = Header length
found_of (events.Piece range) = Part (range.end - range.start)
found_of events.NeedMore = More

-- the same fault, or what is seen of the value
abbrev pub MapsTo : {A B E : Type 0} → (A → B) → Result A E → Result B E → Type 0
MapsTo f (Ok x) other = Ok (f x) ≡ other
MapsTo f (Err e) other = Err e ≡ other

-- how many bytes it takes
abbrev pub bytes_of : Found → ℕ
bytes_of (Version version) = 4
bytes_of (Header length) = 8
bytes_of (Part count) = count
bytes_of More = 0

-- where the stream stands when so many bytes of a packet are to come
abbrev pub body_place : ℕ → Place
body_place left = if left == 0 then Length else Body left

-- where the stream stands behind it
abbrev pub place_after : Place → Found → Place
place_after place (Version version) = Length
place_after place (Header length) = body_place length
place_after (Body left) (Part count) = body_place (left - count)
place_after Hello (Part count) = Hello
place_after Length (Part count) = Length
place_after place More = place

-- the bytes that have come hold no event
abbrev pub IsIdle : Place → List ℕ → Type 0
IsIdle Hello bytes = length bytes < 4
IsIdle Length bytes = length bytes < 8
IsIdle (Body left) bytes = bytes ≡ []

-- a length is spelled by the next eight bytes of the stream, and the bytes of a piece are the next
-- ones
abbrev pub IsPart : Event → List ℕ → List ℕ → Type 0
IsPart (events.Piece range) piece bytes =
    (slice_range piece range.start range.end ≡ take (range.end - range.start) bytes)
    × (range.start < range.end)
    × (range.end ≤ length piece)
IsPart (events.Hello version) piece bytes = Unit {0}
IsPart (events.Head length) piece bytes = take 8 bytes ≡ to_be_bytes w64 length
IsPart events.NeedMore piece bytes = Unit {0}

-- Whatever comes later, the hello and a length that are there stay what they are.
abbrev pub LaterBytesKeepIt : Type 0
LaterBytesKeepIt =
    (due : ℕ) (bytes later : List ℕ)
    → (4 ≤ length bytes → next_of due Hello (bytes ++ later) ≡ next_of due Hello bytes)
    × (8 ≤ length bytes → next_of due Length (bytes ++ later) ≡ next_of due Length bytes)

-- Bytes of a packet that come at once are one part, and where they come in two pieces they are two:
-- they end at the same place.
abbrev pub PartsJoin : Type 0
PartsJoin =
    (due left : ℕ) (bytes later : List ℕ)
    → 0 < length bytes
    → length bytes < left
    → 0 < length later
    → (count : ℕ)
    → next_of due (Body (left - length bytes)) later ≡ Ok (Part count)
    → (next_of due (Body left) (bytes ++ later) ≡ Ok (Part (length bytes + count)))
    × (place_after (Body left) (Part (length bytes + count))
    ≡ place_after (Body (left - length bytes)) (Part count))
    × (drop (length bytes + count) (bytes ++ later) ≡ drop count later)

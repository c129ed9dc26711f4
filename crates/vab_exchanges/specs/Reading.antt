-- What a reader of a session has before it.
use Rattle.std.specs.Prelude.{◌≡◌, ◌⊎◌, ℕ, ◌+◌, ◌-◌, ◌<◌, ◌≤◌, List, [], ◌++◌, length, take, drop}
use Rattle.std.specs.Prelude.{min, slice_range, IsTrue, false, nat_le, if◌then◌else◌, ◌==◌, Result}
use Rattle.std.specs.Prelude.{Ok, Err}
use Rattle.std.specs.Int.{w64, to_be_bytes}
use Rattle.std.specs.List.{flat_map}
use Rattle.vab_fbtcp.specs.Hello.{is_hello}
use Rattle.vab_fbtcp.specs.declared.event.Event.{Event}
use Rattle.vab_fbtcp.specs.declared.event.Event.TheVariants as events
use Rattle.vab_fbtcp.specs.declared.event.FrameFault.{FrameFault}
use Rattle.vab_fbtcp.specs.declared.event.FrameFault.TheVariants as frame
use Rattle.vab_fbtcp.specs.declared.event.Place.{Place}
use Rattle.vab_fbtcp.specs.declared.event.Place.TheVariants.{Hello, Length, Body}
use Rattle.vab_fbtcp.specs.Unread.{place_of, unread_of, piece_of}
use Rattle.vab_exchanges.specs.Session.{packet, length_at, Leaves, IsAbove, Breaks, End, spent}
use Rattle.vab_exchanges.specs.Session as session
use Rattle.vab_exchanges.specs.declared.fault.ReadFault.{ReadFault}
use Rattle.vab_exchanges.specs.declared.fault.ReadFault.TheVariants.{BadHello, TooLong, Overrun}
use Rattle.vab_exchanges.specs.declared.fault.ReadFault.TheVariants.{Cut, Spent, Source}
use Rattle.vab_exchanges.specs.declared.reader.Reader.{Reader}

-- where the stream stands
abbrev pub stands_at : Reader → Place
stands_at r = place_of r.framer

-- the bytes of the session that aren't taken yet, where this much of the input is left
abbrev pub rest_of : Reader → List ℕ → List ℕ
rest_of r left = unread_of r.framer ++ take (r.budget.most - r.budget.taken) left

-- the bytes that are left and that the session may not have
abbrev pub beyond_of : Reader → List ℕ → List ℕ
beyond_of r left = drop (r.budget.most - r.budget.taken) left

-- all the bytes that aren't taken yet
abbrev pub all_of : Reader → List ℕ → List ℕ
all_of r left = rest_of r left ++ beyond_of r left

-- how many bytes may still come
abbrev pub room_of : Reader → ℕ
room_of r = (r.budget.most - r.budget.taken) + length (unread_of r.framer)

-- how long the whole input is, where this much of it is left
abbrev pub total_of : Reader → List ℕ → ℕ
total_of r left = r.budget.taken + length left

-- how many bytes of it the session may have
abbrev pub count_of : Reader → List ℕ → ℕ
count_of r left = min r.budget.most (total_of r left)

-- the most that it may have
abbrev pub most_of : Reader → ℕ
most_of r = r.budget.most

-- the session has had all that it may have, or nothing is left
abbrev pub IsSpent : Reader → List ℕ → Type 0
IsSpent r left = (r.budget.taken ≡ r.budget.most) ⊎ (left ≡ [])

-- fewer bytes
abbrev pub IsFewerThan : ℕ → List ℕ → Type 0
IsFewerThan count bytes = length bytes < count

-- the piece that was fed last stands at the front of the buffer
abbrev pub IsFed : Reader → Type 0
IsFed r =
    (length r.piece ≡ 4096)
    × (piece_of r.framer ≡ take (length (piece_of r.framer)) r.piece)

-- the event suits the place, where so many bytes of data are due
abbrev pub Suits : ℕ → Place → Event → Type 0
Suits due Hello (events.Hello version) = Unit {0}
Suits due Length (events.Head n) = due ≡ 0 → n ≤ 4096
Suits due (Body left) (events.Piece range) =
    (range.start < range.end) × (range.end ≤ 4096) × (range.end - range.start ≤ left)
Suits due Hello (events.Head n) = ⊥
Suits due Hello (events.Piece range) = ⊥
Suits due Hello events.NeedMore = ⊥
Suits due Length (events.Hello version) = ⊥
Suits due Length (events.Piece range) = ⊥
Suits due Length events.NeedMore = ⊥
Suits due (Body left) (events.Hello version) = ⊥
Suits due (Body left) (events.Head n) = ⊥
Suits due (Body left) events.NeedMore = ⊥

-- the event is what these bytes begin with, and a part of a packet stands in the piece
abbrev pub IsNext : List ℕ → List ℕ → Event → Type 0
IsNext rest piece (events.Hello version) = (4 ≤ length rest) × IsTrue (is_hello (take 4 rest))
IsNext rest piece (events.Head n) =
    (8 ≤ length rest) × (n ≡ length_at rest) × (take 8 rest ≡ to_be_bytes w64 n)
IsNext rest piece (events.Piece range) =
    let n = range.end - range.start in
    (n ≤ length rest) × (slice_range piece range.start range.end ≡ take n rest)
IsNext rest piece events.NeedMore = ⊥

abbrev pub fault_of_frame : FrameFault → ReadFault
fault_of_frame frame.BadHello = BadHello
fault_of_frame (frame.TooLong n) = TooLong n

-- at these bytes the next event is this fault, unless the port fails
abbrev pub FaultAt : ℕ → Place → List ℕ → ReadFault → Type 0
FaultAt due place rest BadHello =
    (place ≡ Hello) × (4 ≤ length rest) × (is_hello (take 4 rest) ≡ false)
FaultAt due place rest (TooLong n) = (place ≡ Length) × (due ≡ 0) × IsAbove 4096 rest n
FaultAt due place rest Source = Unit {0}
FaultAt due place rest (Overrun d n) = ⊥
FaultAt due place rest (Cut at) = ⊥
FaultAt due place rest Spent = ⊥

-- a fact, unless hearing failed
abbrev pub IfNotSource : Type 0 → ReadFault → Type 0
IfNotSource P Source = Unit {0}
IfNotSource P BadHello = P
IfNotSource P (TooLong n) = P
IfNotSource P (Overrun due came) = P
IfNotSource P (Cut at) = P
IfNotSource P Spent = P

abbrev pub UnlessSource : {A : Type 0} → Type 0 → Result A ReadFault → Type 0
UnlessSource P (Ok x) = P
UnlessSource P (Err fault) = IfNotSource P fault

-- the fault where the input ends inside something
abbrev pub cut_of : ℕ → ℕ → ReadFault
cut_of taken most = if taken == most then Spent else Cut taken

-- how the session ends by a fault, unless the port failed
abbrev pub end_of : ReadFault → End
end_of BadHello = session.BadHello
end_of (TooLong n) = session.TooLong n
end_of (Overrun due came) = session.Overrun due came
end_of (Cut at) = session.Cut at
end_of Spent = session.Spent
end_of Source = session.Spent

-- it ends as the bytes say, or, where they are all that it may have and it would hear more, it is
-- spent
pub record EndsAs (Stop : End → Type 0) (total most : ℕ) (end : End) : Type 0 where
  pub first : End
  pub stops : Stop first
  pub is : end ≡ (if nat_le most total then spent first else first)

abbrev pub StopsBy : (End → Type 0) → ℕ → ℕ → ReadFault → Type 0
StopsBy Stop total most Source = Unit {0}
StopsBy Stop total most BadHello = EndsAs Stop total most session.BadHello
StopsBy Stop total most (TooLong n) = EndsAs Stop total most (session.TooLong n)
StopsBy Stop total most (Overrun due came) = EndsAs Stop total most (session.Overrun due came)
StopsBy Stop total most (Cut at) = EndsAs Stop total most (session.Cut at)
StopsBy Stop total most Spent = EndsAs Stop total most session.Spent

-- the bytes of a packet end before so many came
abbrev pub IsShort : ℕ → ℕ → List ℕ → End → Type 0
IsShort count wanted rest end = (length rest < wanted) × (end ≡ session.Cut count)

-- all the data came, and these are their bytes
pub record HasData (due : ℕ) (before after bytes : List ℕ) : Type 0 where
  pub parts : List (List ℕ)
  pub all : Leaves due parts 0
  pub is : before ≡ flat_map packet parts ++ after
  pub bytes_are : bytes ≡ flat_map (λ part. part) parts

-- they didn't all come
pub record IsBroken (count due : ℕ) (bytes : List ℕ) (end : End) : Type 0 where
  pub parts : List (List ℕ)
  pub rest : List ℕ
  pub still : ℕ
  pub is : bytes ≡ flat_map packet parts ++ rest
  pub some : 0 < still
  pub leaves : Leaves due parts still
  pub breaks : Breaks count still rest end

-- What the exchanges of a session make of a device, and what is told of each. What a command makes
-- of it, and how it goes on by itself between two packets, is given by the device.
use Rattle.std.specs.Prelude.{◌≡◌, ◌≢◌, ℕ, ◌≤◌, Bool, true, false, ◌&&◌, List, [], ◌∷◌, ◌++◌}
use Rattle.std.specs.Prelude.{length, take, codes, nat_lt, if◌then◌else◌, Option, Some, None}
use Rattle.std.specs.Prelude.{Result, Ok, Err}
use Rattle.std.specs.List.{flat_map}
use Rattle.std.specs.Int.{w32, to_be_bytes}
use Rattle.hex.specs.Hex.{encode_lower}
use Rattle.vab_model.specs.Effects.{last_of}
use Rattle.vab_fbproto.specs.Requests.{Asked, Getvar, Download, Do, MergeAll, BootAndEnd}
use Rattle.vab_fbproto.specs.Requests.{request_of}
use Rattle.vab_fbproto.specs.declared.request.BadCommand.{BadCommand}
use Rattle.vab_exchanges.specs.Session.{packet, most_data, Exchange, End, IsSession}

-- What a command makes of a device, if it has its memory: the text of the reply, the situations
-- after
-- the one that it is in, whether it uses the staged bytes up, and whether it may be told that
-- there is
-- no memory in place of all this.
pub record Response (S : Type 0) : Type 0 where
  pub text : List ℕ
  pub later : List S
  pub takes : Bool
  pub may_want : Bool

abbrev pub no_memory : {S : Type 0} → Response S
no_memory = record {
  text = codes "FAILout of memory";
  later = [];
  takes = false;
  may_want = true;
}

-- where memory is refused to it, or not
abbrev pub unless_refused : {S : Type 0} → Bool → Response S → Response S
unless_refused refused e = if refused && e.may_want then no_memory else e

-- a device's situation, and the bytes that are staged
pub record Kept (S : Type 0) : Type 0 where
  pub now : S
  pub staged : Option (List ℕ)

-- what is told, the situations from the one before it to the last, and what is kept then
pub record Item (S : Type 0) : Type 0 where
  pub reply : List ℕ
  pub steps : List S
  pub last : Kept S

-- the staged bytes after a command
abbrev pub staged_after : Bool → Option (List ℕ) → Option (List ℕ)
staged_after true staged = None
staged_after false staged = staged

abbrev pub item_by : {S : Type 0} → Kept S → Response S → Item S
item_by k e = record {
  reply = packet e.text;
  steps = k.now ∷ e.later;
  last = record { now = last_of k.now e.later; staged = staged_after e.takes k.staged };
}

-- this is told, and nothing changes
abbrev pub item_still : {S : Type 0} → Kept S → List ℕ → Item S
item_still k told = record { reply = told; steps = k.now ∷ []; last = k }

-- `DATA`, and the number of bytes in eight digits
abbrev pub data_text : ℕ → List ℕ
data_text size = codes "DATA" ++ encode_lower (to_be_bytes w32 size)

-- these data are staged
abbrev pub item_staged : {S : Type 0} → Kept S → ℕ → List (List ℕ) → Item S
item_staged k size parts = record {
  reply = packet (data_text size) ++ packet (codes "OKAY");
  steps = k.now ∷ [];
  last = record { now = k.now; staged = Some (flat_map (λ part. part) parts) };
}

-- A download of so many bytes, whether memory is refused to it, and its data. One that is empty
-- wants
-- no memory.
abbrev pub item_download : {S : Type 0} → Kept S → ℕ → Bool → List (List ℕ) → Item S
item_download k size refused parts =
    if nat_lt most_data size then item_still k (packet (codes "FAILtoo large"))
    else if refused && nat_lt 0 size then item_still k (packet (codes "FAILout of memory"))
    else item_staged k size parts

-- how many bytes a download announces
abbrev pub asked_size : Result Asked BadCommand → ℕ
asked_size (Ok (Download size)) = size
asked_size (Ok BootAndEnd) = 0
asked_size (Ok MergeAll) = 0
asked_size (Ok (Getvar variable)) = 0
asked_size (Ok (Do command)) = 0
asked_size (Err bad) = 0

-- the download that isn't finished: `DATA` is told of it
abbrev pub item_begun : {S : Type 0} → Kept S → Result Asked BadCommand → Item S
item_begun k asked = item_still k (packet (data_text (asked_size asked)))

-- no data are asked for
abbrev pub AsksNoData : Result Asked BadCommand → Type 0
AsksNoData (Ok (Download size)) = ⊥
AsksNoData (Ok BootAndEnd) = Unit {0}
AsksNoData (Ok MergeAll) = Unit {0}
AsksNoData (Ok (Getvar variable)) = Unit {0}
AsksNoData (Ok (Do command)) = Unit {0}
AsksNoData (Err bad) = Unit {0}

-- what follows the first of some situations
abbrev pub later_of : {S : Type 0} → List S → List S
later_of [] = []
later_of (s ∷ ss) = ss

-- An item with the situations in front of it: from this one, through these, to its first.
abbrev pub behind : {S : Type 0} → S → List S → Item S → Item S
behind s front i = record i { steps = s ∷ (front ++ later_of i.steps) }

-- all that is told of items
abbrev pub joined : {S : Type 0} → List (Item S) → List ℕ
joined [] = []
joined (i ∷ is) = i.reply ++ joined is

module _ {S : Type 0} (effect : S → Option (List ℕ) → Result Asked BadCommand → Response S) where
  abbrev pub item_done : Kept S → Bool → Result Asked BadCommand → Item S
  item_done k refused asked = item_by k (unless_refused refused (effect k.now k.staged asked))

  abbrev pub item_asked : Kept S → Bool → List (List ℕ) → Result Asked BadCommand → Item S
  item_asked k refused parts (Ok (Download size)) = item_download k size refused parts
  item_asked k refused parts (Ok BootAndEnd) = item_done k refused (Ok BootAndEnd)
  item_asked k refused parts (Ok MergeAll) = item_done k refused (Ok MergeAll)
  item_asked k refused parts (Ok (Getvar variable)) = item_done k refused (Ok (Getvar variable))
  item_asked k refused parts (Ok (Do command)) = item_done k refused (Ok (Do command))
  item_asked k refused parts (Err bad) = item_done k refused (Err bad)

  -- the item of an exchange, from where its packet is heard
  unfoldable pub item_of : Kept S → Exchange → Item S
  item_of k s = item_asked k s.refused s.parts (request_of s.command)

  unfoldable pub item_open : Kept S → List ℕ → Item S
  item_open k command = item_begun k (request_of command)

  -- A reply in whose place want of memory may be told is short, and isn't what is told then.
  pub record IsPlain : Type 0 where
    pub short : (s : S) (staged : Option (List ℕ)) (asked : Result Asked BadCommand)
        → (effect s staged asked).may_want ≡ true
        → length (effect s staged asked).text ≤ 256
    pub other : (s : S) (staged : Option (List ℕ)) (asked : Result Asked BadCommand)
        → (effect s staged asked).may_want ≡ true
        → (effect s staged asked).text ≢ codes "FAILout of memory"

-- A device in a session: what a command makes of it, and the situations that it goes through by
-- itself, one after another, before the next packet is heard. Nothing is told of these.
pub record Machine (S : Type 0) : Type 0 where
  pub effect : S → Option (List ℕ) → Result Asked BadCommand → Response S
  pub between : S → List S

module _ {S : Type 0} (machine : Machine S) where
  -- what is kept when the next packet is heard
  abbrev pub passed : Kept S → Kept S
  passed k = record { now = last_of k.now (machine.between k.now); staged = k.staged }

  -- The item of an exchange, and that of the unfinished download: what the device goes through by
  -- itself before the packet is heard belongs to it.
  abbrev pub item_behind : Kept S → Exchange → Item S
  item_behind k s =
      behind k.now (machine.between k.now) (item_of machine.effect (passed k) s)

  abbrev pub open_behind : Kept S → List ℕ → Item S
  open_behind k command =
      behind k.now (machine.between k.now) (item_open machine.effect (passed k) command)

  -- the items of exchanges, one behind the other, and that of the unfinished download
  abbrev pub items_of : Kept S → List Exchange → Option (List ℕ) → List (Item S)
  items_of k [] None = []
  items_of k [] (Some command) = open_behind k command ∷ []
  items_of k (s ∷ ss) unfinished = item_behind k s ∷ items_of (item_behind k s).last ss unfinished

  -- what is kept after exchanges
  abbrev pub kept_after : Kept S → List Exchange → Kept S
  kept_after k [] = k
  kept_after k (s ∷ ss) = kept_after (item_behind k s).last ss

  -- what the device goes through behind the last exchange, where another packet is waited for; none
  -- inside an unfinished download, whose item has what came before it
  abbrev pub closing_of : Option (List ℕ) → (waits : Bool) → Kept S → List S
  closing_of None waits k = if waits then machine.between k.now else []
  closing_of (Some command) waits k = []

  -- the situation that is left behind the last exchange, or inside the unfinished download
  abbrev pub final_of : Option (List ℕ) → (waits : Bool) → Kept S → S
  final_of None waits k = last_of k.now (closing_of None waits k)
  final_of (Some command) waits k = (passed k).now

  -- all that a session tells
  abbrev pub output_of : Kept S → List Exchange → Option (List ℕ) → List ℕ
  output_of k exchanges unfinished = codes "FB01" ++ joined (items_of k exchanges unfinished)

  -- What is told fixes the choices, as far as they tell: where two sessions of an input tell the
  -- same
  -- through the last reply of an item, they have the same items so far.
  abbrev pub TellsItsChoices : Type 0
  TellsItsChoices =
      (most : ℕ) (refused other : ℕ → Bool) (input : List ℕ)
      (exchanges others : List Exchange)
      (u v : Option (List ℕ))
      (end end' : End)
      (first : Kept S)
      (n : ℕ)
      (more : List ℕ)
      → IsSession most refused input exchanges u end
      → IsSession most other input others v end'
      → joined (items_of first others v)
      ≡ joined (take n (items_of first exchanges u)) ++ more
      → take n (items_of first exchanges u) ≡ take n (items_of first others v)

-- Command packets of a fastboot session, and what they ask for.
use Rattle.std.specs.Prelude.{ℕ, ◌+◌, ◌-◌, ◌*◌, ◌^◌, List, [], ◌∷◌, length, codes, take, drop}
use Rattle.std.specs.Prelude.{Bool, not, ◌==◌, ◌||◌, ◌&&◌, nat_lt, nat_le, if◌then◌else◌, Option}
use Rattle.std.specs.Prelude.{Some, None, Result, Ok, Err, position}
use Rattle.std.specs.List.{list_any}
use Rattle.std.specs.Str.{bytes_eq}
use Rattle.vab_space.specs.declared.Chunk.{Chunk}
use Rattle.vab_space.specs.declared.Chunk.TheVariants.{One, Two, Four}
use Rattle.vab_model.specs.Commands.{Keep}
use Rattle.vab_model.specs.Commands.{Command, SetActive, Boot, Mark, Digest, Begin, Create, Resize}
use Rattle.vab_model.specs.Commands.{Delete, Snapshot, Flash, Finish, Cancel, BeginMerge}
use Rattle.vab_model.specs.Commands.{Merge, Factory, UpdateSuper, Overlay, OverlayWrite}
use Rattle.vab_model.specs.Commands.{OverlayDiscard, command_of}
use Rattle.vab_fbproto.specs.declared.request.Var.{Var}
use Rattle.vab_fbproto.specs.declared.request.Var.TheVariants as vars
use Rattle.vab_fbproto.specs.declared.request.BadCommand.{BadCommand}
use Rattle.vab_fbproto.specs.declared.request.BadCommand.TheVariants.{Unknown, BadArgument}
use Rattle.vab_fbproto.specs.declared.request.Request.{Request}
use Rattle.vab_fbproto.specs.declared.request.Request.TheVariants as request

-- a variable, with its name as bytes; a slot is 0 for a and 1 for b
pub data Variable : Type 0 where
  Version : Variable
  CurrentSlot : Variable
  SlotCount : Variable
  MaxDownloadSize : Variable
  HasSlot : (base : List ℕ) → Variable
  SlotSuccessful : (slot : ℕ) → Variable
  SlotUnbootable : (slot : ℕ) → Variable
  SlotRetryCount : (slot : ℕ) → Variable
  PartitionSize : (name : List ℕ) → Variable
  IsLogical : (name : List ℕ) → Variable
  SnapshotUpdateStatus : Variable
  UnknownVariable : Variable

abbrev pub variable_of : Var → Variable
variable_of vars.Version = Version
variable_of vars.CurrentSlot = CurrentSlot
variable_of vars.SlotCount = SlotCount
variable_of vars.MaxDownloadSize = MaxDownloadSize
variable_of (vars.HasSlot base) = HasSlot base.now
variable_of (vars.SlotSuccessful slot) = SlotSuccessful slot
variable_of (vars.SlotUnbootable slot) = SlotUnbootable slot
variable_of (vars.SlotRetryCount slot) = SlotRetryCount slot
variable_of (vars.PartitionSize name) = PartitionSize name.now
variable_of (vars.IsLogical name) = IsLogical name.now
variable_of vars.SnapshotUpdateStatus = SnapshotUpdateStatus
variable_of vars.Unknown = UnknownVariable

-- what a packet asks for
pub data Asked : Type 0 where
  Getvar : (variable : Variable) → Asked
  Download : (size : ℕ) → Asked
  Do : (command : Command) → Asked
  MergeAll : Asked
  BootAndEnd : Asked

abbrev pub asked_of : Request → Asked
asked_of (request.Getvar variable) = Getvar (variable_of variable)
asked_of (request.Download size) = Download size
asked_of (request.Do command) = Do (command_of command)
asked_of request.MergeAll = MergeAll
asked_of request.BootAndEnd = BootAndEnd

-- ---- words

abbrev pub is_colon : ℕ → Bool
is_colon b = b == 58

-- a space or a tab
abbrev pub is_blank : ℕ → Bool
is_blank b = b == 32 || b == 9

-- the bytes before place n, or all
abbrev pub word_at : Option ℕ → List ℕ → List ℕ
word_at (Some n) bytes = take n bytes
word_at None bytes = bytes

-- what stands behind place n, where there is one
abbrev pub rest_at : Option ℕ → List ℕ → Option (List ℕ)
rest_at (Some n) bytes = Some (drop (n + 1) bytes)
rest_at None bytes = None

-- the packet begins with `oem` and a blank
unfoldable pub is_oem : List ℕ → Bool
is_oem p = bytes_eq (take 3 p) (codes "oem") && list_any is_blank (take 1 (drop 3 p))

abbrev pub behind_oem : Option ℕ → Option ℕ
behind_oem (Some n) = Some (4 + n)
behind_oem None = None

-- where the word of a packet ends: at the second blank behind `oem`, and else at the first colon
unfoldable pub word_end : List ℕ → Option ℕ
word_end p = if is_oem p then behind_oem (position is_blank (drop 4 p)) else position is_colon p

-- ---- numbers

-- the value of a hexadecimal digit, of either case
abbrev pub digit_of : ℕ → Option ℕ
digit_of c =
    if nat_le 48 c && nat_le c 57 then Some (c - 48)
    else if nat_le 97 c && nat_le c 102 then Some (c - 87)
    else if nat_le 65 c && nat_le c 70 then Some (c - 55)
    else None

-- a number, and one digit more that is below the base
abbrev pub with_digit : ℕ → ℕ → Option ℕ → Option ℕ
with_digit base value (Some digit) =
    if nat_lt digit base then Some (base * value + digit) else None
with_digit base value None = None

-- what digits behind a number make of it
abbrev pub digits_behind : ℕ → Option ℕ → List ℕ → Option ℕ
digits_behind base value [] = value
digits_behind base None (c ∷ cs) = None
digits_behind base (Some value) (c ∷ cs) =
    digits_behind base (with_digit base value (digit_of c)) cs

-- the number that 1 to so many digits spell
unfoldable pub number_in : ℕ → ℕ → List ℕ → Option ℕ
number_in base most digits =
    if nat_lt 0 (length digits) && nat_le (length digits) most
    then digits_behind base (Some 0) digits
    else None

-- a number of 64 bits
abbrev pub wide : Option ℕ → Option ℕ
wide (Some n) = if nat_lt n (2 ^ 64) then Some n else None
wide None = None

unfoldable pub is_hexadecimal : List ℕ → Bool
is_hexadecimal text = bytes_eq (take 2 text) (codes "0x")

-- 1 to 20 decimal digits
abbrev pub decimal_number : List ℕ → Option ℕ
decimal_number text = wide (number_in 10 20 text)

-- NUMBER: `0x` and 1 to 16 hexadecimal digits, or 1 to 20 decimal digits
unfoldable pub number_of : List ℕ → Option ℕ
number_of text =
    if is_hexadecimal text then wide (number_in 16 16 (drop 2 text)) else decimal_number text

-- ---- arguments

abbrev pub is_delimiter : ℕ → Bool
is_delimiter b = is_colon b || is_blank b

-- one or more bytes that are neither a colon nor a blank
unfoldable pub is_name : List ℕ → Bool
is_name name = nat_lt 0 (length name) && not (list_any is_delimiter name)

-- a number where there is one
abbrev pub some_number : Option ℕ → Result ℕ BadCommand
some_number (Some n) = Ok n
some_number None = Err BadArgument

-- no argument
abbrev pub no_argument : Option (List ℕ) → Result (Unit {0}) BadCommand
no_argument None = Ok tt
no_argument (Some rest) = Err BadArgument

-- NAME
unfoldable pub name_argument : Option (List ℕ) → Result (List ℕ) BadCommand
name_argument None = Err BadArgument
name_argument (Some name) = if is_name name then Ok name else Err BadArgument

-- SLOT: `a` or `b`, or with the underscore of a suffix
unfoldable pub slot_argument : Option (List ℕ) → Result ℕ BadCommand
slot_argument None = Err BadArgument
slot_argument (Some slot) =
    if bytes_eq slot (codes "a") || bytes_eq slot (codes "_a") then Ok 0
    else if bytes_eq slot (codes "b") || bytes_eq slot (codes "_b") then Ok 1
    else Err BadArgument

-- HEX: 1 to 8 hexadecimal digits
unfoldable pub length_argument : Option (List ℕ) → Result ℕ BadCommand
length_argument None = Err BadArgument
length_argument (Some digits) = some_number (number_in 16 8 digits)

abbrev pub a_count : Option ℕ → Result ℕ BadCommand
a_count (Some n) = if nat_lt 0 n && nat_lt n (2 ^ 32) then Ok n else Err BadArgument
a_count None = Err BadArgument

-- a decimal number from 1 to 2^32 - 1
unfoldable pub count_argument : Option (List ℕ) → Result ℕ BadCommand
count_argument None = Err BadArgument
count_argument (Some digits) = a_count (decimal_number digits)

-- NUMBER
unfoldable pub number_argument : Option (List ℕ) → Result ℕ BadCommand
number_argument None = Err BadArgument
number_argument (Some number) = some_number (number_of number)

abbrev pub with_size : List ℕ → Option ℕ → Result (List ℕ × ℕ) BadCommand
with_size name (Some size) = Ok (name, size)
with_size name None = Err BadArgument

-- NAME, and the NUMBER that stands behind it
unfoldable pub sized_name : List ℕ → Option (List ℕ) → Result (List ℕ × ℕ) BadCommand
sized_name name None = Err BadArgument
sized_name name (Some number) =
    if is_name name then with_size name (number_of number) else Err BadArgument

-- `NAME:NUMBER`
unfoldable pub colon_argument : Option (List ℕ) → Result (List ℕ × ℕ) BadCommand
colon_argument None = Err BadArgument
colon_argument (Some text) =
    let end = position is_colon text in sized_name (word_at end text) (rest_at end text)

-- `NAME NUMBER`
unfoldable pub blank_argument : Option (List ℕ) → Result (List ℕ × ℕ) BadCommand
blank_argument None = Err BadArgument
blank_argument (Some text) =
    let end = position is_blank text in sized_name (word_at end text) (rest_at end text)

-- CHUNK: the sectors of a chunk, `8`, `16` or `32`
unfoldable pub chunk_of : List ℕ → Option Chunk
chunk_of sectors =
    if bytes_eq sectors (codes "8") then Some One
    else if bytes_eq sectors (codes "16") then Some Two
    else if bytes_eq sectors (codes "32") then Some Four
    else None

abbrev pub with_chunk : List ℕ → Option Chunk → Result (List ℕ × Chunk) BadCommand
with_chunk name (Some chunk) = Ok (name, chunk)
with_chunk name None = Err BadArgument

-- NAME, and the CHUNK that stands behind it
unfoldable pub chunked_name : List ℕ → Option (List ℕ) → Result (List ℕ × Chunk) BadCommand
chunked_name name None = Err BadArgument
chunked_name name (Some sectors) =
    if is_name name then with_chunk name (chunk_of sectors) else Err BadArgument

-- `NAME CHUNK`
unfoldable pub chunk_argument : Option (List ℕ) → Result (List ℕ × Chunk) BadCommand
chunk_argument None = Err BadArgument
chunk_argument (Some text) =
    let end = position is_blank text in chunked_name (word_at end text) (rest_at end text)

-- ---- packets

-- what an argument makes of a word
abbrev pub asks : {A : Type 0} → (A → Asked) → Result A BadCommand → Result Asked BadCommand
asks f (Ok argument) = Ok (f argument)
asks f (Err bad) = Err bad

-- a known word that has no argument
abbrev pub plain : Option (List ℕ) → Asked → Result Asked BadCommand
plain rest asked = asks (λ none. asked) (no_argument rest)

-- the variables of a slot or a name
unfoldable pub argued_variable : List ℕ → Option (List ℕ) → Result Asked BadCommand
argued_variable word rest =
    if bytes_eq word (codes "has-slot")
    then asks (λ base. Getvar (HasSlot base)) (name_argument rest)
    else if bytes_eq word (codes "slot-successful")
    then asks (λ slot. Getvar (SlotSuccessful slot)) (slot_argument rest)
    else if bytes_eq word (codes "slot-unbootable")
    then asks (λ slot. Getvar (SlotUnbootable slot)) (slot_argument rest)
    else if bytes_eq word (codes "slot-retry-count")
    then asks (λ slot. Getvar (SlotRetryCount slot)) (slot_argument rest)
    else if bytes_eq word (codes "partition-size")
    then asks (λ name. Getvar (PartitionSize name)) (name_argument rest)
    else if bytes_eq word (codes "is-logical")
    then asks (λ name. Getvar (IsLogical name)) (name_argument rest)
    else Ok (Getvar UnknownVariable)

-- a variable by its word, with what stands behind its first colon
abbrev pub variable_by : List ℕ → Option (List ℕ) → Result Asked BadCommand
variable_by word rest =
    if bytes_eq word (codes "version") then plain rest (Getvar Version)
    else if bytes_eq word (codes "current-slot") then plain rest (Getvar CurrentSlot)
    else if bytes_eq word (codes "slot-count") then plain rest (Getvar SlotCount)
    else if bytes_eq word (codes "max-download-size") then plain rest (Getvar MaxDownloadSize)
    else if bytes_eq word (codes "snapshot-update-status")
    then plain rest (Getvar SnapshotUpdateStatus)
    else argued_variable word rest

-- `getvar:VAR`
unfoldable pub asked_variable : Option (List ℕ) → Result Asked BadCommand
asked_variable None = Err BadArgument
asked_variable (Some variable) =
    let end = position is_colon variable in
    variable_by (word_at end variable) (rest_at end variable)

-- `snapshot-update:cancel` and `snapshot-update:merge`
unfoldable pub update_action : Option (List ℕ) → Result Asked BadCommand
update_action None = Err BadArgument
update_action (Some action) =
    if bytes_eq action (codes "cancel") then Ok (Do Cancel)
    else if bytes_eq action (codes "merge") then Ok MergeAll
    else Err BadArgument

-- `update-super:super:wipe`
unfoldable pub super_action : Option (List ℕ) → Result Asked BadCommand
super_action None = Err BadArgument
super_action (Some action) =
    if bytes_eq action (codes "super:wipe") then Ok (Do UpdateSuper) else Err BadArgument

-- the words of an overlay, behind `oem`
unfoldable pub asked_overlay : List ℕ → Option (List ℕ) → Result Asked BadCommand
asked_overlay word rest =
    if bytes_eq word (codes "oem overlay")
    then asks (λ p. Do (Overlay p.0 p.1)) (blank_argument rest)
    else if bytes_eq word (codes "oem overlay-write")
    then asks (λ block. Do (OverlayWrite block)) (number_argument rest)
    else if bytes_eq word (codes "oem overlay-discard") then plain rest (Do OverlayDiscard)
    else Err Unknown

-- the words behind `oem`
unfoldable pub asked_oem : List ℕ → Option (List ℕ) → Result Asked BadCommand
asked_oem word rest =
    if bytes_eq word (codes "oem boot") then plain rest (Do Boot)
    else if bytes_eq word (codes "oem mark-successful") then plain rest (Do Mark)
    else if bytes_eq word (codes "oem finish") then plain rest (Do Finish)
    else if bytes_eq word (codes "oem begin") then plain rest (Do Begin)
    else if bytes_eq word (codes "oem factory") then plain rest (Do Factory)
    else if bytes_eq word (codes "oem begin-merge") then plain rest (Do BeginMerge)
    else if bytes_eq word (codes "oem merge")
    then asks (λ blocks. Do (Merge blocks)) (count_argument rest)
    else if bytes_eq word (codes "oem snapshot")
    then asks (λ p. Do (Snapshot p.0 p.1)) (blank_argument rest)
    else if bytes_eq word (codes "oem flash")
    then asks (λ p. Do (Flash p.0 p.1)) (chunk_argument rest)
    else if bytes_eq word (codes "oem keep")
    then asks (λ name. Do (Keep name)) (name_argument rest)
    else if bytes_eq word (codes "oem digest")
    then asks (λ name. Do (Digest name)) (name_argument rest)
    else asked_overlay word rest

-- the words of an update
unfoldable pub asked_update : List ℕ → Option (List ℕ) → Result Asked BadCommand
asked_update word rest =
    if bytes_eq word (codes "create-logical-partition")
    then asks (λ p. Do (Create p.0 p.1)) (colon_argument rest)
    else if bytes_eq word (codes "resize-logical-partition")
    then asks (λ p. Do (Resize p.0 p.1)) (colon_argument rest)
    else if bytes_eq word (codes "delete-logical-partition")
    then asks (λ name. Do (Delete name)) (name_argument rest)
    else if bytes_eq word (codes "flash")
    then asks (λ name. Do (Flash name One)) (name_argument rest)
    else if bytes_eq word (codes "snapshot-update") then update_action rest
    else if bytes_eq word (codes "update-super") then super_action rest
    else asked_oem word rest

abbrev pub asked_by : List ℕ → Option (List ℕ) → Result Asked BadCommand
asked_by word rest =
    if bytes_eq word (codes "getvar") then asked_variable rest
    else if bytes_eq word (codes "download") then asks Download (length_argument rest)
    else if bytes_eq word (codes "set_active")
    then asks (λ slot. Do (SetActive slot)) (slot_argument rest)
    else if bytes_eq word (codes "reboot") || bytes_eq word (codes "continue")
    then plain rest BootAndEnd
    else asked_update word rest

-- what a packet asks for: its word, and then the argument of that word
unfoldable pub request_of : List ℕ → Result Asked BadCommand
request_of p = asked_by (word_at (word_end p) p) (rest_at (word_end p) p)

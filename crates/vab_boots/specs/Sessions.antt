-- What is read over a partition behind the packets of sessions that write over it.
use Rattle.std.specs.Prelude.{◌≡◌, ◌⊎◌, ℕ, Bool, true, false, ◌&&◌, if◌then◌else◌, List, [], ◌∷◌}
use Rattle.std.specs.Prelude.{◌++◌, Option, Some, Result, Ok, Err, All}
use Rattle.vab_names.specs.Names.{base_of}
use Rattle.vab_model.specs.declared.state.Image.{Image as ImageOfSlot}
use Rattle.vab_model.specs.declared.state.Overlay.{Overlay as OverlayOf}
use Rattle.vab_model.specs.declared.state.Phase.TheVariants.{Idle}
use Rattle.vab_model.specs.declared.command.Reply.TheVariants as replies
use Rattle.vab_model.specs.Commands.{Command, Overlay}
use Rattle.vab_model.specs.Effects.{Effect, after_of}
use Rattle.vab_model.specs.Over.{blank_overlay}
use Rattle.vab_model.specs.Plans.{blocks_in, images_of}
use Rattle.vab_model.specs.State.{image_named}
use Rattle.vab_model.specs.Writes.{BlockWrite, IsWholeWrite, ReadsAsWritten, written_all}
use Rattle.vab_device.specs.Mounted.{Mounted}
use Rattle.vab_device.specs.Updates.{effect_on}
use Rattle.vab_fbproto.specs.Requests.{Asked, Getvar, Download, Do, MergeAll, BootAndEnd}
use Rattle.vab_fbproto.specs.Requests.{request_of}
use Rattle.vab_fbproto.specs.declared.request.BadCommand.{BadCommand}
use Rattle.vab_exchanges.specs.Session.{Exchange}
use Rattle.vab_exchanges.specs.Items.{Kept, passed, item_behind, kept_after}
use Rattle.vab_session.specs.Responses.{machine}
use Rattle.vab_boots.specs.Overlaid.{IsOverlaidFrom}
use Rattle.vab_boots.specs.Read.{is_write, write_of, if_done}

-- ---- what the packets of a session write

-- a packet asks for a variable, brings data, asks for nothing, or writes a block over a partition
abbrev pub asks_writes : Result Asked BadCommand → Bool
asks_writes (Ok (Getvar variable)) = true
asks_writes (Ok (Download size)) = true
asks_writes (Ok (Do command)) = is_write command
asks_writes (Ok MergeAll) = false
asks_writes (Ok BootAndEnd) = false
asks_writes (Err bad) = true

abbrev pub AreWriting : List Exchange → Type 0
AreWriting exchanges = All (λ s. asks_writes (request_of s.command) ≡ true) exchanges

-- what a command writes, where it is done: neither refused by its rules nor for want of memory
abbrev pub told_writes : (refused : Bool)
    → Option (List ℕ)
    → Command
    → Effect Mounted
    → List BlockWrite
told_writes refused staged c e =
    if refused && e.wants then [] else if_done e.reply (write_of staged c)

abbrev pub asked_writes : Kept Mounted
    → (refused : Bool)
    → Result Asked BadCommand
    → List BlockWrite
asked_writes k refused (Ok (Do c)) = told_writes refused k.staged c (effect_on k.now k.staged c)
asked_writes k refused (Ok (Getvar variable)) = []
asked_writes k refused (Ok (Download size)) = []
asked_writes k refused (Ok MergeAll) = []
asked_writes k refused (Ok BootAndEnd) = []
asked_writes k refused (Err bad) = []

-- the writes of these exchanges that are done, in their order
abbrev pub writes_in : (turns : ℕ) → Kept Mounted → List Exchange → List BlockWrite
writes_in turns k [] = []
writes_in turns k (s ∷ ss) =
    asked_writes (passed (machine turns) k) s.refused (request_of s.command)
    ++ writes_in turns (item_behind (machine turns) k s).last ss

-- ---- what is read

-- There is no update, an overlay over this image was begun, and these writes to it were done since.
pub record IsWrittenOver (image : ImageOfSlot) (writes : List BlockWrite) (m : Mounted) : Type 0
  where
    pub idle : m.state.phase ≡ Idle
    pub store : ℕ
    pub whole : All (IsWholeWrite (blocks_in image.bytes)) writes
    pub is : m.state.overlay ≡ Some (written_all writes (blank_overlay image store))

-- where it is begun, no write was done yet
pub record IsBegunOver (m : Mounted) (name : List ℕ) (next : Mounted) : Type 0 where
  pub image : ImageOfSlot
  pub named : image_named (base_of name) (images_of m.state m.state.control.current) ≡ Some image
  pub written : IsWrittenOver image [] next

abbrev pub OverlaysBegin : Type 0
OverlaysBegin = (m : Mounted) (staged : Option (List ℕ)) (name : List ℕ) (size : ℕ)
    → (effect_on m staged (Overlay name size)).reply ≡ replies.Done
    → IsBegunOver m name (after_of m (effect_on m staged (Overlay name size)))

-- then each block reads as the last write to it, and else as the image's
abbrev pub WrittenIsRead : Type 0
WrittenIsRead = (image : ImageOfSlot) (writes : List BlockWrite) (m : Mounted)
    → IsWrittenOver image writes m
    → (o : OverlayOf) × (m.state.overlay ≡ Some o) × ReadsAsWritten image writes o

-- Behind any exchanges of a session that write over it, ask for a variable or bring data, done or
-- refused, those that were done are written behind the earlier ones, and all else of the device is
-- as it was.
abbrev pub SessionsWrite : Type 0
SessionsWrite = (turns : ℕ) (k : Kept Mounted) (image : ImageOfSlot) (before : List BlockWrite)
    (exchanges : List Exchange)
    → IsWrittenOver image before k.now
    → AreWriting exchanges
    → IsWrittenOver image (before ++ writes_in turns k exchanges)
    (kept_after (machine turns) k exchanges).now
    × IsOverlaidFrom k.now (kept_after (machine turns) k exchanges).now

-- And one that is cut has written nothing or all of it.
abbrev pub SessionsWriteWhole : Type 0
SessionsWriteWhole = (turns : ℕ) (k : Kept Mounted) (image : ImageOfSlot)
    (before : List BlockWrite) (s : Exchange)
    → IsWrittenOver image before k.now
    → asks_writes (request_of s.command) ≡ true
    → All (λ m. (m ≡ k.now) ⊎ (m ≡ (item_behind (machine turns) k s).last.now))
    (item_behind (machine turns) k s).steps

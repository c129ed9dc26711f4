-- What a session writes: an exchange that changes the device what its command writes there, and
-- each other nothing; and between them what the turns of a merge write.
use Rattle.std.specs.Prelude.{◌≡◌, ◌≢◌, ◌⊎◌, ℕ, ◌+◌, List, [], ◌∷◌, Option, Some, None, Result, Ok}
use Rattle.std.specs.Prelude.{Err, ◌++◌}
use Rattle.std.specs.List.{flat_map}
use Rattle.vab_disk.specs.declared.disk.Disk.{Ghosts}
use Rattle.vab_disk.specs.Disk.{Image, Adds}
use Rattle.vab_disk.specs.Calls.{IsAtRest, SameBut}
use Rattle.vab_model.specs.Commands.{Command, Boot, Merge}
use Rattle.vab_device.specs.declared.device.Device.{Device}
use Rattle.vab_device.specs.Mounted.{Mounted, count_at, mounted_on}
use Rattle.vab_device.specs.Reading.{Represents}
use Rattle.vab_device.specs.Updates.{effect_on}
use Rattle.vab_commands.specs.Writes.{IsOfCommand}
use Rattle.vab_fbproto.specs.Requests.{Asked, Getvar, Download, Do, MergeAll, BootAndEnd}
use Rattle.vab_fbproto.specs.Requests.{request_of}
use Rattle.vab_fbproto.specs.declared.request.BadCommand.{BadCommand}
use Rattle.vab_exchanges.specs.Session.{Exchange, packet, spelled}
use Rattle.vab_exchanges.specs.Items.{Kept, passed, item_behind}
use Rattle.vab_session.specs.Sparing.{AreExchanges}
use Rattle.vab_session.specs.Responses.{machine}

-- The command that a packet asks for, where it asks for one. To merge all is a merge of one turn
-- more than exceptions are left.
abbrev pub command_asked : Device → Result Asked BadCommand → Option Command
command_asked d (Ok (Do command)) = Some command
command_asked d (Ok MergeAll) = Some (Merge (count_at d.a + count_at d.b + 1))
command_asked d (Ok BootAndEnd) = Some Boot
command_asked d (Ok (Getvar variable)) = None
command_asked d (Ok (Download size)) = None
command_asked d (Err bad) = None

module _ (is_modelled : Type 0) where
  -- What a command writes on the device that it comes to, where boot control's sector has these
  -- bytes. One that doesn't change the device, as a question or one that is refused, writes
  -- nothing.
  pub record IsOfChange
      (d : Device)
      (k : Kept Mounted)
      (old : List ℕ)
      (c : Command)
      (s : ℕ)
      (bytes : List ℕ) : Type 0 where
    pub changes : (effect_on k.now k.staged c).later ≢ []
    pub writes : IsOfCommand is_modelled d old c s bytes

  -- the same, where there is a command
  abbrev pub IsOfAsked : Device
      → Kept Mounted
      → List ℕ
      → Option Command
      → ℕ
      → List ℕ
      → Type 0
  IsOfAsked d k old None s bytes = ⊥
  IsOfAsked d k old (Some c) s bytes = IsOfChange d k old c s bytes

  -- what a packet writes
  abbrev pub IsOfPacket : Device → Kept Mounted → List ℕ → List ℕ → ℕ → List ℕ → Type 0
  IsOfPacket d k old command = IsOfAsked d k old (command_asked d (request_of command))

-- Some of what is written first is written, and nothing else; or all of it, which leaves the next
-- device, and then what is written from there on.
abbrev pub WrittenThen : (W : ℕ → List ℕ → Type 0)
    → ℕ
    → (next : Mounted)
    → (Then : Device → Image → Type 0)
    → (old image : Image)
    → Type 0
WrittenThen W size next Then old image =
    SameBut W old image
    ⊎ ((d : Device)
    × (mid : Image)
    × SameBut W old mid
    × Represents d size mid
    × (mounted_on d mid ≡ next)
    × Then d mid)

module _ (is_modelled : Type 0) (turns size : ℕ) where
  -- the turns of a merge that are made before a packet is heard, and then what is written of it
  abbrev pub PassedThen : Device
      → Kept Mounted
      → (Then : Device → Image → Type 0)
      → (old image : Image)
      → Type 0
  PassedThen d k Then old image =
      WrittenThen (IsOfChange is_modelled d k (old 4) (Merge turns)) size
      (passed (machine turns) k).now Then old image

  -- A disk behind some exchanges, one behind the other, from a device that is kept, and behind one
  -- packet more: each exchange that is done has written what the turns of a merge in front of it
  -- write, and what its packet writes on the device that it came to, and left the next device; and
  -- of the one that follows, or of the turns behind the last one, some is written.
  abbrev pub WrittenInTurn : Device
      → Kept Mounted
      → Image
      → List Exchange
      → Option (List ℕ)
      → Image
      → Type 0
  WrittenInTurn d k old [] None image =
      SameBut (IsOfChange is_modelled d k (old 4) (Merge turns)) old image
  WrittenInTurn d k old [] (Some command) image =
      PassedThen d k
      (λ d' mid.
      SameBut (IsOfPacket is_modelled d' (passed (machine turns) k) (mid 4) command) mid image)
      old image
  WrittenInTurn d k old (s ∷ ss) more image =
      PassedThen d k
      (λ d' mid.
      WrittenThen (IsOfPacket is_modelled d' (passed (machine turns) k) (mid 4) s.command) size
      (item_behind (machine turns) k s).last.now
      (λ d'' mid'.
      WrittenInTurn d'' (item_behind (machine turns) k s).last mid' ss more image)
      mid image)
      old image

-- the packet that follows, where there is one
abbrev pub spelled_one : Option (List ℕ) → List ℕ
spelled_one None = []
spelled_one (Some command) = packet command

-- Some exchanges stand at the front of these bytes, and a packet behind them: the disk is written
-- by them in turn, and by so many turns of a merge in front of each, and so is each outcome since,
-- where nothing was pending.
pub record WritesInTurn {D : Type 0}
    (g : Ghosts D)
    (turns size : ℕ)
    (d : Device)
    (k : Kept Mounted)
    (bytes : List ℕ)
    (old new : D) : Type 0 where
  pub done : List Exchange
  pub more : Option (List ℕ)
  pub after : List ℕ
  pub are : AreExchanges done
  pub is : bytes ≡ flat_map spelled done ++ (spelled_one more ++ after)
  pub seen : WrittenInTurn g.is_modelled turns size d k (g.seen old) done more (g.seen new)
  pub time : IsAtRest g old
      → Adds g.moment g.outcomes old new
      (λ o. WrittenInTurn g.is_modelled turns size d k (g.seen old) done more o.image)

-- Such sectors are written, and no others; the same in each outcome since.
pub record WritesAs {D : Type 0}
    (g : Ghosts D)
    (W : ℕ → List ℕ → Type 0)
    (old new : D) : Type 0 where
  pub seen : SameBut W (g.seen old) (g.seen new)
  pub time : IsAtRest g old
      → Adds g.moment g.outcomes old new (λ o. SameBut W (g.seen old) o.image)

-- what answering a packet writes
abbrev pub WritesPacket : {D : Type 0}
    → Ghosts D
    → Device
    → Kept Mounted
    → List ℕ
    → (old new : D)
    → Type 0
WritesPacket g d k command old new =
    WritesAs g (IsOfPacket g.is_modelled d k (g.seen old 4) command) old new

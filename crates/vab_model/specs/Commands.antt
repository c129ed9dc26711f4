-- Commands, with their names as bytes.
use Rattle.std.specs.Prelude.{ℕ, List}
use Rattle.vab_space.specs.declared.Chunk.{Chunk}
use Rattle.vab_model.specs.declared.command.Command.{Command as CommandOfCode}
use Rattle.vab_model.specs.declared.command.Command.TheVariants as code

pub data Command : Type 0 where
  SetActive : (slot : ℕ) → Command
  Boot : Command
  Mark : Command
  Print : (name : List ℕ) → Command
  Digest : (name : List ℕ) → Command
  Begin : Command
  Factory : Command
  Create : (name : List ℕ) (size : ℕ) → Command
  Resize : (name : List ℕ) (size : ℕ) → Command
  Delete : (name : List ℕ) → Command
  Snapshot : (name : List ℕ) (size : ℕ) → Command
  Flash : (name : List ℕ) (chunk : Chunk) → Command
  Keep : (name : List ℕ) → Command
  Finish : Command
  Cancel : Command
  BeginMerge : Command
  Merge : (blocks : ℕ) → Command
  UpdateSuper : Command
  Overlay : (name : List ℕ) (size : ℕ) → Command
  OverlayWrite : (block : ℕ) → Command
  OverlayDiscard : Command

abbrev pub command_of : CommandOfCode → Command
command_of (code.SetActive slot) = SetActive slot
command_of code.Boot = Boot
command_of code.Mark = Mark
command_of (code.Print name) = Print name.now
command_of (code.Digest name) = Digest name.now
command_of code.Begin = Begin
command_of code.Factory = Factory
command_of (code.Create name size) = Create name.now size
command_of (code.Resize name size) = Resize name.now size
command_of (code.Delete name) = Delete name.now
command_of (code.Snapshot name size) = Snapshot name.now size
command_of (code.Flash name chunk) = Flash name.now chunk
command_of (code.Keep name) = Keep name.now
command_of code.Finish = Finish
command_of code.Cancel = Cancel
command_of code.BeginMerge = BeginMerge
command_of (code.Merge blocks) = Merge blocks
command_of code.UpdateSuper = UpdateSuper
command_of (code.Overlay name size) = Overlay name.now size
command_of (code.OverlayWrite block) = OverlayWrite block
command_of code.OverlayDiscard = OverlayDiscard

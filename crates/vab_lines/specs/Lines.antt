-- The lines that are told of making a device, and of adopting a disk.
use Rattle.std.specs.Prelude.{ℕ, List, [], ◌++◌, codes, decimal}
use Rattle.vab_model.specs.declared.command.Refusal.TheVariants as refusals
use Rattle.vab_fbproto.specs.Texts.{refusal_text}
use Rattle.vab_make.specs.declared.fault.MakeFault.{MakeFault}
use Rattle.vab_make.specs.declared.fault.MakeFault.TheVariants.{TooSmall, GroupLimit, NoRoom}
use Rattle.vab_make.specs.declared.fault.MakeFault.TheVariants.{TableFull, NoMemory, Disk}

-- so many images, behind a word, and the blocks that they fill of how many
abbrev pub images_line : List ℕ → ℕ → ℕ → ℕ → List ℕ
images_line word images used cap =
    word
    ++ decimal images
    ++ codes " images, "
    ++ decimal used
    ++ codes " of "
    ++ decimal cap
    ++ codes " blocks\n"

-- a device is made
unfoldable pub made_line : ℕ → ℕ → ℕ → List ℕ
made_line images used cap = images_line (codes "made ") images used cap

-- a disk is adopted
unfoldable pub adopted_line : ℕ → ℕ → ℕ → List ℕ
adopted_line images used cap = images_line (codes "adopted ") images used cap

-- why a set of images is refused, as a command is; the other faults refuse none
unfoldable pub make_refusal : MakeFault → List ℕ
make_refusal (GroupLimit used limit) = refusal_text (refusals.GroupLimit used limit)
make_refusal (NoRoom used cap) = refusal_text (refusals.NoRoom used cap)
make_refusal (TableFull size most) = refusal_text (refusals.TableFull size most)
make_refusal (TooSmall needed had) = []
make_refusal NoMemory = []
make_refusal (Disk fault) = []

-- something is refused, for this reason
abbrev pub refused_line : List ℕ → List ℕ
refused_line reason = codes "refused: " ++ reason ++ codes "\n"

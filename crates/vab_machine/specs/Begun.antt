-- An overlay as it begins, as the code says it.
use Rattle.std.specs.Prelude.{ℕ, true, Some}
use Rattle.vab_model.specs.declared.state.Image.{Image}
use Rattle.vab_model.specs.declared.state.State.{State}
use Rattle.vab_model.specs.declared.command.Reply.TheVariants as replies
use Rattle.vab_model.specs.Effects.{Effect, does, wanting}
use Rattle.vab_model.specs.Over.{blank_overlay}
use Rattle.vab_model.specs.Overlay.{with_overlay}

-- over this image, with a store of so many blocks
abbrev pub begun_over : State → Image → (store : ℕ) → Effect State
begun_over s image store =
    wanting true (does replies.Done (with_overlay s (Some (blank_overlay image store))))

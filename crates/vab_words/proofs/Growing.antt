-- A command with one more verb.
use Rattle.std.proofs.Common.{◌≡◌, ◌∙◌, ap, ap₂, false}
use Rattle.clap.specs.Words.{AddsSubcommand, App, app_of, with_subcommand}
use Rattle.clap.specs.declared.builder.command.Command.{Command}
use Rattle.clap.specs.declared.builder.command.Command.TheViews.{out-Command}
use Rattle.vab_words.specs.Command.{with_verb}

pub grown : (old sub new : Command) (a s : App)
    → AddsSubcommand old sub new
    → app_of old ≡ a
    → (out-Command sub).has_globals ≡ false
    → app_of sub ≡ s
    → app_of new ≡ with_verb a s
grown old sub new a s added old_is local sub_is = added.shape local
    ∙ ap₂ with_subcommand old_is (ap (λ (x : App). x.top) sub_is)

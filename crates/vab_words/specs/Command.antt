-- The command that the words are read by, as what `clap` reads of it.
use Rattle.std.specs.Prelude.{Bool, true, List, [], Option, Some, codes}
use Rattle.clap.specs.Words.{App, Row, Rule, Text, new_app, new_rule, subcommand_of, takes}
use Rattle.clap.specs.Words.{with_rule, with_subcommand}
use Rattle.clap.specs.Simple.{new_shape}
use Rattle.clap.specs.declared.builder.action.ArgAction.TheVariants.{Set, SetTrue}

-- `--name VALUE`
abbrev pub option_rule : Text → Rule
option_rule name = record (new_rule name) { long = Some name; action = Some Set }

-- `--name`
abbrev pub flag_rule : Text → Rule
flag_rule name = record (new_rule name) { long = Some name; action = Some SetTrue }

-- a word that has to stand behind the verb
abbrev pub operand_rule : Text → Rule
operand_rule name = record (new_rule name) { action = Some Set; required = true }

-- `make [--limit BYTES] [--metadata-max BYTES]`
abbrev pub make_app : App
make_app =
    with_rule (with_rule (new_app (codes "make")) (option_rule (codes "limit")))
    (option_rule (codes "metadata-max"))

-- `serve [--fresh] [--turns N]`
abbrev pub serve_app : App
serve_app =
    with_rule (with_rule (new_app (codes "serve")) (flag_rule (codes "fresh")))
    (option_rule (codes "turns"))

-- a verb with one operand
abbrev pub operand_app : Text → Text → App
operand_app verb operand = with_rule (new_app verb) (operand_rule operand)

-- `demo SEED [--scale K]`
abbrev pub demo_app : App
demo_app =
    with_rule (operand_app (codes "demo") (codes "seed")) (option_rule (codes "scale"))

-- the command before its verbs: one has to be named, no program's name stands before it, and there
-- is no help
abbrev pub no_verbs : App
no_verbs = record {
  top = record (new_shape (codes "vab")) {
    no_binary_name = true;
    disable_help_flag = true;
    disable_help_subcommand = true;
    subcommand_required = true;
  };
  subs = [];
}

abbrev pub with_verb : App → App → App
with_verb command verb = with_subcommand command verb.top

-- the command of `vab`
unfoldable pub vab_app : App
vab_app =
    with_verb (with_verb (with_verb (with_verb (with_verb (with_verb (with_verb (with_verb
    (with_verb (with_verb (with_verb (with_verb (with_verb (with_verb no_verbs make_app)
    (operand_app (codes "adopt") (codes "slot"))) serve_app)
    (new_app (codes "install"))) (new_app (codes "boot")))
    (new_app (codes "mark"))) (new_app (codes "begin-merge")))
    (operand_app (codes "merge") (codes "blocks"))) (new_app (codes "cancel")))
    (operand_app (codes "activate") (codes "slot"))) (operand_app (codes "print")
    (codes "name"))) (operand_app (codes "digest") (codes "name"))) (new_app (codes "status")))
    demo_app

-- the words are such as `clap` takes for this command
unfoldable pub is_taken : List Text → Bool
is_taken words = takes vab_app words

-- the verb in the words, with what `clap` finds for its arguments
unfoldable pub found_in : List Text → Option (Text × List Row)
found_in words = subcommand_of vab_app words

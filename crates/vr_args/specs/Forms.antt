-- The forms of the command line, as clap takes them. Each word is closed to the tactics: what makes a form opens it.
use Rattle.std.specs.Prelude.{◌≡◌, List, [], ◌∷◌, Some, true, false, codes}
use Rattle.clap.specs.Lexer.{usize_max}
use Rattle.clap.specs.Words.{App, Rule, Text, app_of, new_app, new_rule, rule_of, with_rule, with_subcommand}
use Rattle.clap.specs.Simple.{on_top}
use Rattle.clap.specs.declared.builder.action.ArgAction.TheVariants.{Append, SetTrue}
use Rattle.clap.specs.declared.builder.arg.Arg.{Arg}
use Rattle.clap.specs.declared.builder.command.Command.{Command}
use Rattle.clap.specs.declared.builder.command.Command.TheViews.{out-Command as fields_of}

-- the form of a command, and the rule of an argument
unfoldable pub form_of : Command → App
form_of c = app_of c

unfoldable pub rule_in : Arg → Rule
rule_in a = rule_of a

-- no argument of the command is one of the commands below it too, nor is this one
unfoldable pub IsLocal : Command → Type 0
IsLocal c = (fields_of c).has_globals ≡ false

unfoldable pub IsLocalArg : Arg → Type 0
IsLocalArg a = a.global ≡ false

-- the form with one argument more
unfoldable pub taking : App → Rule → App
taking a rule = with_rule a rule

-- the form with one command below it more
unfoldable pub above : App → App → App
above a sub = with_subcommand a sub.top

-- a required argument
unfoldable pub wanted : Text → Rule
wanted id = record (new_rule id) { required = true }

-- the addresses
unfoldable pub addresses : Rule
addresses = record (new_rule (codes "addr")) {
  required = true;
  range = Some (record { start_inclusive = 1; end_inclusive = usize_max });
  action = Some Append;
}

-- a flag
unfoldable pub flag : Text → Rule
flag id = record (new_rule id) { long = Some id; action = Some SetTrue }

-- the form with these required arguments more
unfoldable pub wanting : App → List Text → App
wanting a [] = a
wanting a (id ∷ ids) = wanting (taking a (wanted id)) ids

-- a command without help and version
unfoldable pub plain : Text → App
plain name = on_top (λ s. record s { disable_help_flag = true; disable_version_flag = true }) (new_app name)

-- a command with these required arguments, and with addresses after them
unfoldable pub peered : Text → List Text → App
peered name ids = taking (wanting (plain name) ids) addresses

-- `replay`
unfoldable pub replay : App
replay = plain (codes "replay")

-- `soak SEED COUNT`
unfoldable pub soak : App
soak = wanting (plain (codes "soak")) (codes "seed" ∷ codes "count" ∷ [])

-- the form with `--careful` or not, with `--v2` or not: what a file is made as
unfoldable pub making : App → App
making a = taking (taking a (flag (codes "careful"))) (flag (codes "v2"))

-- `node CLUSTER REPLICA FILE TURNS ADDR..` with `--fresh` or not, with `--careful` or not, with `--v2` or not
unfoldable pub node : App
node = making (taking
    (peered (codes "node") (codes "cluster" ∷ codes "replica" ∷ codes "file" ∷ codes "turns" ∷ []))
    (flag (codes "fresh")))

-- `client CLUSTER ID TURNS ADDR..` with `--v2` or not
unfoldable pub client : App
client = taking (peered (codes "client") (codes "cluster" ∷ codes "id" ∷ codes "turns" ∷ [])) (flag (codes "v2"))

-- `trial CLUSTER TURNS FILES ADDR..`
unfoldable pub trial : App
trial = peered (codes "trial") (codes "cluster" ∷ codes "turns" ∷ codes "files" ∷ [])

-- `migrate CLUSTER REPLICA N FILE`
unfoldable pub migrate : App
migrate = wanting (plain (codes "migrate")) (codes "cluster" ∷ codes "replica" ∷ codes "n" ∷ codes "file" ∷ [])

-- the command line without its commands
unfoldable pub top : App
top = on_top (λ s. record s { no_binary_name = true; disable_help_subcommand = true; subcommand_required = true })
    (plain (codes "nozhgiva"))

-- the command line with the commands that run a group in one process
unfoldable pub running : App
running = above (above top replay) soak

-- the command line with all of its commands
unfoldable pub the_command : App
the_command = above (above (above (above running node) client) trial) migrate

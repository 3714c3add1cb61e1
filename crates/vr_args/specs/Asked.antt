-- What the words of a command line ask for.
use Rattle.std.specs.Prelude.{ℕ, List, length, map, Bool, true, false, ◌==◌, if◌then◌else◌, Option, Some, None, option_and_then, codes, string_bytes}
use Rattle.std.specs.Borrow.{Bor}
use Rattle.std.specs.Option.{option_map, option_map_or}
use Rattle.std.specs.Str.{bytes_eq}
use Rattle.clap.specs.Words.{Kinds, Row, Text, all_of, fault_of, first_of, subcommand_of}
use Rattle.vr_base.specs.Groups.{is_size}
use Rattle.vr_base.specs.declared.kind.Kind.{Kind}
use Rattle.vr_base.specs.declared.mode.Mode.TheVariants.{Careful, Strict}
use Rattle.vr_base.specs.declared.table.Config.{Config}
use Rattle.vr_lines.specs.Numbers.{number_below, number_of}
use Rattle.vr_args.specs.Forms.{the_command}
use Rattle.vr_args.specs.declared.asked.ClientTexts.{ClientTexts}
use Rattle.vr_args.specs.declared.asked.MigrateTexts.{MigrateTexts}
use Rattle.vr_args.specs.declared.asked.NodeTexts.{NodeTexts}
use Rattle.vr_args.specs.declared.asked.TrialTexts.{TrialTexts}
use Rattle.vr_args.specs.declared.command.ClientWords.{ClientWords}
use Rattle.vr_args.specs.declared.command.Command.{Command}
use Rattle.vr_args.specs.declared.command.Command.TheVariants as command
use Rattle.vr_args.specs.declared.command.MigrateWords.{MigrateWords}
use Rattle.vr_args.specs.declared.command.NodeWords.{NodeWords}
use Rattle.vr_args.specs.declared.command.SoakWords.{SoakWords}
use Rattle.vr_args.specs.declared.command.TrialWords.{TrialWords}

pub record NodeAsked : Type 0 where
  pub cluster : ℕ
  pub replica : ℕ
  pub file : Text
  pub turns : ℕ
  pub peers : List Text
  pub fresh : Option Kind

pub record ClientAsked : Type 0 where
  pub version : ℕ
  pub cluster : ℕ
  pub id : ℕ
  pub turns : ℕ
  pub peers : List Text

pub record TrialAsked : Type 0 where
  pub cluster : ℕ
  pub turns : ℕ
  pub files : Text
  pub peers : List Text

pub record MigrateAsked : Type 0 where
  pub config : Config
  pub file : Text

pub data Asked : Type 0 where
  Replay : Asked
  Soak : SoakWords → Asked
  Node : NodeAsked → Asked
  Client : ClientAsked → Asked
  Trial : TrialAsked → Asked
  Migrate : MigrateAsked → Asked

-- what a command of the program asks for
abbrev pub node_says : NodeWords → NodeAsked
node_says w = record {
  cluster = w.cluster;
  replica = w.replica;
  file = string_bytes w.file;
  turns = w.turns;
  peers = map string_bytes w.peers.items;
  fresh = w.fresh;
}

abbrev pub client_says : ClientWords → ClientAsked
client_says w = record { version = w.version; cluster = w.cluster; id = w.id; turns = w.turns; peers = map string_bytes w.peers.items }

abbrev pub trial_says : TrialWords → TrialAsked
trial_says w = record { cluster = w.cluster; turns = w.turns; files = string_bytes w.files; peers = map string_bytes w.peers.items }

abbrev pub migrate_says : MigrateWords → MigrateAsked
migrate_says w = record { config = w.config; file = string_bytes w.file }

abbrev pub says : Command → Asked
says command.Replay = Replay
says (command.Soak w) = Soak w
says (command.Node w) = Node (node_says w)
says (command.Client w) = Client (client_says w)
says (command.Trial w) = Trial (trial_says w)
says (command.Migrate w) = Migrate (migrate_says w)

-- the texts after references
abbrev pub texts_now : List (Bor Text) → List Text
texts_now texts = map (λ text. text.now) texts

-- what the values of a command say, as they stand on the command line
abbrev pub node_texts_say : NodeTexts → NodeAsked
node_texts_say t = record {
  cluster = t.cluster;
  replica = t.replica;
  file = t.file.now;
  turns = t.turns;
  peers = texts_now t.peers.now;
  fresh = t.fresh;
}

abbrev pub client_texts_say : ClientTexts → ClientAsked
client_texts_say t = record { version = t.version; cluster = t.cluster; id = t.id; turns = t.turns; peers = texts_now t.peers.now }

abbrev pub trial_texts_say : TrialTexts → TrialAsked
trial_texts_say t = record { cluster = t.cluster; turns = t.turns; files = t.files.now; peers = texts_now t.peers.now }

abbrev pub migrate_texts_say : MigrateTexts → MigrateAsked
migrate_texts_say t = record { config = t.config; file = t.file.now }

-- the number of an argument: decimal digits without sign or leading zeros, below 2 ^ 64
abbrev pub number_at : Text → List Row → Option ℕ
number_at id rows = option_and_then number_of (first_of id rows)

-- the same below a bound
abbrev pub below_at : ℕ → Text → List Row → Option ℕ
below_at bound id rows = option_and_then (number_below bound) (first_of id rows)

-- as many addresses as a group has members whose files are of this version: from 2 to 6, and from 1 of version 2
unfoldable pub peers_at : ℕ → List Row → Option (List Text)
peers_at version rows = option_and_then (λ peers. if is_size version (length peers) then Some peers else None) (all_of (codes "addr") rows)

-- whether a flag stands there
unfoldable pub flag_at : Text → List Row → Bool
flag_at id rows = option_map_or (λ text. bytes_eq text (codes "true")) (first_of id rows) false

-- 2 where `--v2` stands there, else 1
abbrev pub version_of : Bool → ℕ
version_of v2 = if v2 then 2 else 1

unfoldable pub version_at : List Row → ℕ
version_at rows = version_of (flag_at (codes "v2") rows)

-- what a file is made as, by whether `--careful` and `--v2` stand there: each says its own, the mode or the version
abbrev pub kind_of : Bool → Bool → Kind
kind_of careful v2 = record { mode = if careful then Careful else Strict; version = version_of v2 }

-- what the file is made as, none where it is found again, by whether `--fresh`, `--careful` and `--v2` stand there. The mode and the version of a
-- file are chosen where it is made: neither `--careful` nor `--v2` is a form without `--fresh`
abbrev pub fresh_of : Bool → Bool → Bool → Option (Option Kind)
fresh_of true careful v2 = Some (Some (kind_of careful v2))
fresh_of false true v2 = None
fresh_of false false true = None
fresh_of false false false = Some None

unfoldable pub fresh_at : List Row → Option (Option Kind)
fresh_at rows = fresh_of (flag_at (codes "fresh") rows) (flag_at (codes "careful") rows) (flag_at (codes "v2") rows)

-- The version that says how few members there may be: of a file that is made, its own. One that is found again has its version and its group in
-- itself, so there may be as few as of any version.
abbrev pub least_by : Option Kind → ℕ
least_by (Some kind) = kind.version
least_by None = 2

unfoldable pub soak_at : List Row → Option SoakWords
soak_at rows =
    option_and_then
    (λ seed. option_map (λ count. record { seed = seed; count = count }) (below_at 1000000 (codes "count") rows))
    (number_at (codes "seed") rows)

-- a member of so many peers, whose file is made as this, or found again
unfoldable pub member_at : Option Kind → List Text → List Row → Option NodeAsked
member_at fresh peers rows =
    option_and_then
    (λ cluster. option_and_then
    (λ replica. option_and_then
    (λ file. option_map
    (λ turns. record { cluster = cluster; replica = replica; file = file; turns = turns; peers = peers; fresh = fresh })
    (number_at (codes "turns") rows))
    (first_of (codes "file") rows))
    (below_at (length peers) (codes "replica") rows))
    (number_at (codes "cluster") rows)

unfoldable pub node_at : List Row → Option NodeAsked
node_at rows =
    option_and_then
    (λ fresh. option_and_then (λ peers. member_at fresh peers rows) (peers_at (least_by fresh) rows))
    (fresh_at rows)

-- a number that isn't 0
unfoldable pub id_at : List Row → Option ℕ
id_at rows = option_and_then (λ id. if id == 0 then None else Some id) (number_at (codes "id") rows)

-- a client of so many peers, that asks in frames of this version
unfoldable pub asker_at : ℕ → List Text → List Row → Option ClientAsked
asker_at version peers rows =
    option_and_then
    (λ cluster. option_and_then
    (λ id. option_map
    (λ turns. record { version = version; cluster = cluster; id = id; turns = turns; peers = peers })
    (number_at (codes "turns") rows))
    (id_at rows))
    (number_at (codes "cluster") rows)

unfoldable pub client_at : List Row → Option ClientAsked
client_at rows = option_and_then (λ peers. asker_at (version_at rows) peers rows) (peers_at (version_at rows) rows)

-- a trial of so many peers, whose files are of version 1
unfoldable pub trier_at : List Text → List Row → Option TrialAsked
trier_at peers rows =
    option_and_then
    (λ cluster. option_and_then
    (λ turns. option_map (λ files. record { cluster = cluster; turns = turns; files = files; peers = peers }) (first_of (codes "files") rows))
    (number_at (codes "turns") rows))
    (number_at (codes "cluster") rows)

unfoldable pub trial_at : List Row → Option TrialAsked
trial_at rows = option_and_then (λ peers. trier_at peers rows) (peers_at 1 rows)

-- of how many members a group is, whose files are to be of version 2: from 1 to 6
unfoldable pub n_at : List Row → Option ℕ
n_at rows = option_and_then (λ n. if is_size 2 n then Some n else None) (number_at (codes "n") rows)

-- the member whose file is to be migrated, of a group of so many
unfoldable pub mover_at : ℕ → List Row → Option MigrateAsked
mover_at n rows =
    option_and_then
    (λ cluster. option_and_then
    (λ replica. option_map
    (λ file. record { config = record { cluster = cluster; replica = replica; n = n }; file = file })
    (first_of (codes "file") rows))
    (below_at n (codes "replica") rows))
    (number_at (codes "cluster") rows)

unfoldable pub migrate_at : List Row → Option MigrateAsked
migrate_at rows = option_and_then (λ n. mover_at n rows) (n_at rows)

-- what a command with these values asks for
unfoldable pub asked_at : Text → List Row → Option Asked
asked_at name rows =
    if bytes_eq name (codes "replay") then Some Replay
    else (if bytes_eq name (codes "soak") then option_map Soak (soak_at rows)
    else (if bytes_eq name (codes "node") then option_map Node (node_at rows)
    else (if bytes_eq name (codes "client") then option_map Client (client_at rows)
    else (if bytes_eq name (codes "trial") then option_map Trial (trial_at rows)
    else (if bytes_eq name (codes "migrate") then option_map Migrate (migrate_at rows)
    else None)))))

-- the same of the commands over files and the network alone
unfoldable pub outside_at : Text → List Row → Option Asked
outside_at name rows =
    if bytes_eq name (codes "node") then option_map Node (node_at rows)
    else (if bytes_eq name (codes "client") then option_map Client (client_at rows)
    else (if bytes_eq name (codes "trial") then option_map Trial (trial_at rows)
    else (if bytes_eq name (codes "migrate") then option_map Migrate (migrate_at rows)
    else None)))

-- the faults that clap finds in the words
unfoldable pub faults_in : List Text → Kinds
faults_in words = fault_of the_command words

-- the command that clap enters by them, by its name, with what it finds of its arguments
unfoldable pub entered_by : List Text → Option (Text × List Row)
entered_by words = subcommand_of the_command words

-- clap finds no fault in the words
abbrev pub is_taken : List Text → Bool
is_taken words = length (faults_in words) == 0

-- what the words ask for; None where they aren't one of the forms
unfoldable pub asked : List Text → Option Asked
asked words = if is_taken words then option_and_then (λ p. asked_at p.0 p.1) (entered_by words) else None

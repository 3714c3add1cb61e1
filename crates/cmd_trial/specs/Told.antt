-- What a trial says: to the spawner, to the group and to the sink.
use Rattle.std.specs.Prelude.{ℕ, Bool, if◌then◌else◌, List, [], ◌∷◌, ◌++◌, codes, string_bytes, vec_len}
use Rattle.std.specs.Fmt.{decimal}
use Rattle.cmd_client.specs.Asking.{Client}
use Rattle.cmd_client.specs.Run.{client_with}
use Rattle.vr_header.specs.declared.operation.Operation.{Operation}
use Rattle.vr_header.specs.declared.operation.Operation.TheVariants as operation
use Rattle.vr_edge.specs.Attaching.{texts_of}
use Rattle.cmd_trial.specs.declared.plan.Plan.{Plan}
use Rattle.cmd_trial.specs.declared.step.Question.{Question}
use Rattle.cmd_trial.specs.declared.step.Question.TheVariants.{Register, Put, Get}

-- a trial: its client, what the names of the disks begin with, and the addresses
pub record Trial : Type 0 where
  pub client : Client
  pub files : List ℕ
  pub peers : List (List ℕ)

-- client 1 asks, in frames of version 1: the members' files are made of it
abbrev pub trial_of : Plan → Trial
trial_of plan = record {
  client = client_with 1 plan.cluster 1 (vec_len plan.peers) plan.turns;
  files = string_bytes plan.files;
  peers = texts_of plan.peers.items;
}

-- `node CLUSTER REPLICA FILE TURNS` of a member, which serves a million turns
unfoldable pub member_words : Trial → ℕ → List (List ℕ)
member_words t member =
    codes "node" ∷ decimal t.client.cluster ∷ decimal member ∷ (t.files ++ decimal member) ∷ codes "1000000" ∷ []

-- `--fresh`, where it is made anew
abbrev pub fresh_words : Bool → List (List ℕ)
fresh_words is_fresh = if is_fresh then codes "--fresh" ∷ [] else []

-- the words with which a member is started
abbrev pub start_words : Trial → ℕ → Bool → List (List ℕ)
start_words t member is_fresh = member_words t member ++ t.peers ++ fresh_words is_fresh

-- the line that says what became of a member
unfoldable pub member_line : List ℕ → ℕ → List ℕ
member_line what member = what ++ codes " " ++ decimal member ++ codes "\n"

abbrev pub key : ℕ → List ℕ
key number = codes "k" ++ decimal number

abbrev pub value : ℕ → List ℕ
value number = codes "v" ++ decimal number

-- the operation of a question
abbrev pub operation_of : Question → Operation
operation_of Register = operation.Register
operation_of (Put number) = operation.Put (key number) (value number)
operation_of (Get number) = operation.Get (key number)

-- What the words of a command ask for, as a member's, a client's and a trial's run take it.
use Rattle.std.specs.Prelude.{◌≡◌, ◌≢◌, ◌<◌, ⊤, true, length}
use Rattle.cmd_client.specs.Asking.{Client as Asker}
use Rattle.cmd_client.specs.Run.{client_with}
use Rattle.vr_base.specs.Groups.{is_size}
use Rattle.vr_base.specs.declared.table.Config.{Config}
use Rattle.vr_node.specs.declared.role.Role.{Role}
use Rattle.cmd_trial.specs.Told.{Trial as Tried, trial_of as plan_says}
use Rattle.cmd_trial.specs.declared.plan.Plan.{Plan}
use Rattle.vr_args.specs.Asked.{Asked, Client, ClientAsked, Migrate, Node, NodeAsked, Replay, Soak, Trial, TrialAsked, least_by, node_says, trial_says}
use Rattle.vr_args.specs.declared.command.NodeWords.{NodeWords}
use Rattle.vr_args.specs.declared.command.TrialWords.{TrialWords}

abbrev pub config_of : NodeAsked → Config
config_of a = record { cluster = a.cluster; replica = a.replica; n = length a.peers }

abbrev pub client_of : ClientAsked → Asker
client_of a = client_with a.version a.cluster a.id (length a.peers) a.turns

-- its client is 1, and asks in frames of version 1
abbrev pub trial_of : TrialAsked → Tried
trial_of a = record { client = client_with 1 a.cluster 1 (length a.peers) a.turns; files = a.files; peers = a.peers }

-- A number of lines is below a million. A member is one of its group, which has from 2 to 6; one alone may have a file of version 2, one that is found
-- again, whose file decides, and a client of version 2 may ask it. A client isn't 0. A group that is tried has files of version 1. A
-- member whose file is migrated is one of its group, which has from 1 to 6.
abbrev pub IsGood : Asked → Type 0
IsGood Replay = ⊤
IsGood (Soak words) = words.count < 1000000
IsGood (Node a) = (is_size (least_by a.fresh) (length a.peers) ≡ true) × (a.replica < length a.peers)
IsGood (Client a) = (is_size a.version (length a.peers) ≡ true) × (a.id ≢ 0)
IsGood (Trial a) = is_size 1 (length a.peers) ≡ true
IsGood (Migrate a) = (is_size 2 a.config.n ≡ true) × (a.config.replica < a.config.n)

-- this is the role of a member with these words
pub record IsRoleOf (words : NodeWords) (role : Role) : Type 0 where
  pub config : role.config ≡ config_of (node_says words)
  pub fresh : role.fresh ≡ words.fresh
  pub turns : role.turns ≡ words.turns
  pub file : role.file ≡ words.file
  pub peers : role.peers ≡ words.peers

-- this is the plan of a trial with these words
pub record IsPlanOf (words : TrialWords) (plan : Plan) : Type 0 where
  pub said : plan_says plan ≡ trial_of (trial_says words)
  pub peers : plan.peers ≡ words.peers

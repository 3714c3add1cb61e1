-- The members that a trial starts are those of `runs_keep_one_log`: the words by which it starts one ask for that very member, made anew or found again.
use Rattle.std.specs.Prelude.{ℕ, ◌≡◌, Bool, true, false, [], ◌∷◌, Option, Some, None, codes, length, take}
use Rattle.cmd_client.specs.Run.{client_with}
use Rattle.vr_base.specs.Kinds.{strict}
use Rattle.vr_base.specs.declared.kind.Kind.{Kind}
use Rattle.vr_base.specs.declared.table.Config.{Config}
use Rattle.cmd_trial.specs.Told.{Trial, start_words}
use Rattle.vr_args.specs.Asked.{Node, NodeAsked, asked}
use Rattle.law_7_members.specs.Deeds.{config_at}

abbrev pub config_of : NodeAsked → Config
config_of a = record { cluster = a.cluster; replica = a.replica; n = length a.peers }

-- a member that is made anew is of version 1 and strict, as all of a trial are
abbrev pub made_as : Bool → Option Kind
made_as true = Some strict
made_as false = None

pub record StartsMember (t : Trial) (member : ℕ) (is_fresh : Bool) : Type 0 where
  pub node : NodeAsked
  pub asked : asked (start_words t member is_fresh) ≡ Some (Node node)
  pub config : config_of node ≡ config_at t.client.cluster t.client.n member
  pub fresh : node.fresh ≡ made_as is_fresh

-- trials of groups of so many
abbrev pub trial_of_size : ℕ → Trial
trial_of_size n = record {
  client = client_with 1 5 1 n 20;
  files = codes "/tmp/f";
  peers = take n (codes "127.0.0.1:4000" ∷ codes "127.0.0.1:4001" ∷ codes "127.0.0.1:4002" ∷ codes "127.0.0.1:4003" ∷ codes "127.0.0.1:4004" ∷ codes "127.0.0.1:4005" ∷ []);
}

-- of a group of three each member, and of the smallest and the largest group the first and the last
abbrev pub StartsThese : Bool → Type 0
StartsThese is_fresh =
    StartsMember (trial_of_size 3) 0 is_fresh
    × StartsMember (trial_of_size 3) 1 is_fresh
    × StartsMember (trial_of_size 3) 2 is_fresh
    × StartsMember (trial_of_size 2) 0 is_fresh
    × StartsMember (trial_of_size 2) 1 is_fresh
    × StartsMember (trial_of_size 6) 0 is_fresh
    × StartsMember (trial_of_size 6) 5 is_fresh

abbrev pub TrialsStartMembers : Type 0
TrialsStartMembers = StartsThese true × StartsThese false

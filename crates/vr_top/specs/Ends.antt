-- What a run of the program comes to, by its words.
use Rattle.std.specs.Prelude.{ℕ, ◌≡◌, ◌⊎◌, ⊤, true, List, Option, Some, None, IfSome}
use Rattle.cmd_client.specs.Asking as ask
use Rattle.cmd_client.specs.Run as client
use Rattle.vr_base.specs.Causes.{Rose}
use Rattle.vr_node.specs.Moving.{MigrationEnds}
use Rattle.vr_node.specs.Running as node
use Rattle.cmd_replay.specs.Headline.{ScheduleHasOneLog}
use Rattle.cmd_replay.specs.Run as replay
use Rattle.cmd_replay.specs.Schedule.{schedule_of}
use Rattle.vr_serve.specs.Causes as serve
use Rattle.cmd_soak.specs.Ends.{SoakEnds}
use Rattle.cmd_soak.specs.Headline.{SoakHasOneLog}
use Rattle.cmd_soak.specs.Summing.{soak_text}
use Rattle.vr_base.specs.declared.status.Status.{Status}
use Rattle.vr_base.specs.declared.status.Status.TheVariants.{NoMemory, SpawnFault, Usage}
use Rattle.vr_top.specs.Answers.{gives}
use Rattle.vr_top.specs.Causes.{HasCauses}
use Rattle.vr_top.specs.Outside.{Outside, TrialOutside}
use Rattle.vr_top.specs.Roles.{client_of, config_of, trial_of}
use Rattle.cmd_trial.specs.Run as trial
use Rattle.vr_args.specs.Asked.{Asked, Client, ClientAsked, Migrate, MigrateAsked, Node, NodeAsked, Replay, Soak, Trial}
use Rattle.vr_args.specs.declared.command.SoakWords.{SoakWords}

-- ---- what of the outside a member, a client and a trial have

abbrev pub of_member : {S K D L C : Type 0} → Outside S K D L C → node.Outside
of_member o = node.outside o.disk.told o.clock.left o.link.received o.sink.taken o.link.sent o.link.attached

abbrev pub member_counts : {S K D L C : Type 0} → Outside S K D L C → serve.Counts
member_counts o = serve.counts o.disk.faults o.sink.faults o.link.faults

abbrev pub of_client : {S K D L C : Type 0} → Outside S K D L C → client.Outside
of_client o = client.outside o.link.sent o.link.received o.sink.taken o.source.left o.link.attached

abbrev pub client_counts : {S K D L C : Type 0} → Outside S K D L C → ask.Faults
client_counts o = ask.faults o.link.faults o.sink.faults

abbrev pub of_trial : {K L P : Type 0} → TrialOutside K L P → trial.Outside
of_trial o = trial.outside o.link.sent o.link.received o.sink.taken o.spawner.calls o.link.attached

abbrev pub trial_counts : {K L P : Type 0} → TrialOutside K L P → trial.Faults
trial_counts o = trial.faults o.link.faults o.sink.faults o.spawner.faults

-- ---- a command each

-- `replay`: the lines of the source are played, and their outputs written. Where neither a read nor a write fails, the answer is the one that the source's bytes have,
-- or want of memory.
pub record Replays {S K D L C : Type 0} (o o' : Outside S K D L C) (status : Status) : Type 0 where
  pub ends : replay.Ends o.source.faults o'.source.faults o.sink.faults o'.sink.faults o.source.left o'.source.left o.sink.taken o'.sink.taken status
  pub complete : ¬ Rose o.source.faults o'.source.faults → ¬ Rose o.sink.faults o'.sink.faults
      → IfSome o.source.left (λ bytes. (status ≡ replay.status_for (replay.refused_in bytes)) ⊎ (status ≡ NoMemory))
  pub others : o' ≡ record o { source = o'.source; sink = o'.sink }

-- `soak ..`: the summary of the schedule that a number makes
pub record Soaks {S K D L C : Type 0} (words : SoakWords) (o o' : Outside S K D L C) (status : Status) : Type 0 where
  pub ends : SoakEnds o.sink.faults o'.sink.faults o.sink.taken o'.sink.taken (soak_text words.seed words.count) status
  pub others : o' ≡ record o { sink = o'.sink }

-- `node ..`: the run of a member on the file of that name; the source is unchanged
pub record Serves {S K D L C : Type 0} (a : NodeAsked) (o o' : Outside S K D L C) (status : Status) : Type 0 where
  pub ends : node.NodeEnds a.fresh (config_of a) a.file a.peers a.turns (of_member o) (of_member o') (member_counts o) (member_counts o') status
  pub others : o' ≡ record o { sink = o'.sink; disk = o'.disk; link = o'.link; clock = o'.clock }

-- `client ..`: the run of a client; disk and clock are unchanged
pub record Asks {S K D L C : Type 0} (a : ClientAsked) (o o' : Outside S K D L C) (status : Status) : Type 0 where
  pub ends : client.ClientEnds (client_of a) a.peers (of_client o) (of_client o') (client_counts o) (client_counts o') status
  pub others : o' ≡ record o { source = o'.source; sink = o'.sink; link = o'.link }

-- `migrate ..`: the file of that name becomes one of version 2, and no object is changed but its disk
pub record Moves {S K D L C : Type 0} (a : MigrateAsked) (o o' : Outside S K D L C) (status : Status) : Type 0 where
  pub ends : MigrationEnds a.config a.file o.disk.told o'.disk.told status
  pub others : o' ≡ record o { disk = o'.disk }

-- ---- all of them

-- Words that are none of the forms: all is unchanged. `trial ..`: source, disk and clock are, and `Tries` says the rest.
abbrev pub Does : {S K D L C : Type 0} → Option Asked → Outside S K D L C → Outside S K D L C → Status → Type 0
Does None o o' status = (status ≡ Usage) × (o' ≡ o)
Does (Some Replay) o o' status = Replays o o' status
Does (Some (Soak words)) o o' status = Soaks words o o' status
Does (Some (Node a)) o o' status = Serves a o o' status
Does (Some (Client a)) o o' status = Asks a o o' status
Does (Some (Trial a)) o o' status = o' ≡ record o { sink = o'.sink; link = o'.link }
Does (Some (Migrate a)) o o' status = Moves a o o' status

-- memory was short for the words, and all is unchanged
pub record IsShort {O : Type 0} (o o' : O) (status : Status) : Type 0 where
  pub is : status ≡ NoMemory
  pub same : o' ≡ o

-- A run ends, as to all but its spawner: what its words ask for was done, the answer is one that they may have, and it has its cause.
pub record Ends {S K D L C : Type 0} (asked : Option Asked) (o o' : Outside S K D L C) (status : Status) : Type 0 where
  pub does : Does asked o o' status ⊎ IsShort o o' status
  pub answer : gives asked status ≡ true
  pub causes : HasCauses o o' status

-- `trial ..`: the run of a trial. With other words the spawner is unchanged.
abbrev pub Spawns : {K L P : Type 0} → Option Asked → TrialOutside K L P → TrialOutside K L P → Status → Type 0
Spawns (Some (Trial a)) o o' status = trial.TrialEnds (trial_of a) (of_trial o) (of_trial o') (trial_counts o) (trial_counts o') status ⊎ IsShort o o' status
Spawns _ o o' status = o'.spawner ≡ o.spawner

-- A run ends, as to its spawner: that has a use in a trial alone, and a fault of it has its cause there.
pub record Tries {K L P : Type 0} (asked : Option Asked) (o o' : TrialOutside K L P) (status : Status) : Type 0 where
  pub does : Spawns asked o o' status
  pub spawn : status ≡ SpawnFault → Rose o.spawner.faults o'.spawner.faults

-- The outputs of the schedule that words ask for have one log: of `replay` those of each schedule that its source may give, of `soak` those of the schedule of its
-- number.
abbrev pub HasOneLog : Option Asked → Type 0
HasOneLog (Some Replay) = (bytes : List ℕ) → ScheduleHasOneLog (schedule_of bytes)
HasOneLog (Some (Soak words)) = SoakHasOneLog words.seed words.count
HasOneLog _ = ⊤

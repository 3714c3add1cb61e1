-- Which answers a command may give.
use Rattle.std.specs.Prelude.{Bool, true, false, Option, Some, None}
use Rattle.vr_base.specs.declared.status.Status.{Status}
use Rattle.vr_base.specs.declared.status.Status.TheVariants.{Done, Usage, Refused, SessionLost, ReadFault, WriteFault, DiskFault, LinkFault, SuperLost, OtherMember, NoMemory, Occupied, NoAnswer, SpawnFault}
use Rattle.vr_args.specs.Asked.{Asked, Client, Migrate, Node, Replay, Soak, Trial}

abbrev pub replay_gives : Status → Bool
replay_gives Done = true
replay_gives (Refused line) = true
replay_gives ReadFault = true
replay_gives WriteFault = true
replay_gives NoMemory = true
replay_gives _ = false

abbrev pub soak_gives : Status → Bool
soak_gives Done = true
soak_gives WriteFault = true
soak_gives NoMemory = true
soak_gives _ = false

abbrev pub node_gives : Status → Bool
node_gives Done = true
node_gives WriteFault = true
node_gives DiskFault = true
node_gives LinkFault = true
node_gives SuperLost = true
node_gives (OtherMember found asked) = true
node_gives Occupied = true
node_gives NoMemory = true
node_gives _ = false

abbrev pub client_gives : Status → Bool
client_gives Done = true
client_gives (Refused line) = true
client_gives ReadFault = true
client_gives WriteFault = true
client_gives LinkFault = true
client_gives NoAnswer = true
client_gives SessionLost = true
client_gives NoMemory = true
client_gives _ = false

abbrev pub trial_gives : Status → Bool
trial_gives Done = true
trial_gives WriteFault = true
trial_gives LinkFault = true
trial_gives SpawnFault = true
trial_gives NoAnswer = true
trial_gives SessionLost = true
trial_gives NoMemory = true
trial_gives _ = false

abbrev pub migrate_gives : Status → Bool
migrate_gives Done = true
migrate_gives DiskFault = true
migrate_gives SuperLost = true
migrate_gives (OtherMember found asked) = true
migrate_gives NoMemory = true
migrate_gives _ = false

-- words that are no command
abbrev pub none_gives : Status → Bool
none_gives Usage = true
none_gives NoMemory = true
none_gives _ = false

abbrev pub gives : Option Asked → Status → Bool
gives None = none_gives
gives (Some Replay) = replay_gives
gives (Some (Soak words)) = soak_gives
gives (Some (Node a)) = node_gives
gives (Some (Client a)) = client_gives
gives (Some (Trial a)) = trial_gives
gives (Some (Migrate a)) = migrate_gives

-- Faults of the source and of the sink, by how a replay ends.
use Rattle.std.proofs.Common.{◌≡◌, ℕ, List, Option}
use Rattle.cmd_replay.specs.Run.{Ends}
use Rattle.vr_base.specs.Counts.{reads_after, writes_after}
use Rattle.vr_base.specs.declared.status.Status.{Status}
use Rattle.vr_base.specs.declared.status.Status.TheVariants as status

pub counts_told : (s s' k k' : ℕ) (lo ln to tn : Option (List ℕ)) (how : Status) → Ends s s' k k' lo ln to tn how → s' ≡ reads_after how s
counts_told s s' k k' lo ln to tn status.Done h = h.0
counts_told s s' k k' lo ln to tn (status.Refused line) h = h.0
counts_told s s' k k' lo ln to tn status.ReadFault h = h.0
counts_told s s' k k' lo ln to tn status.WriteFault h = h.0
counts_told s s' k k' lo ln to tn status.NoMemory h = h.0
counts_told s s' k k' lo ln to tn status.Usage h = absurd h
counts_told s s' k k' lo ln to tn status.SessionLost h = absurd h
counts_told s s' k k' lo ln to tn status.DiskFault h = absurd h
counts_told s s' k k' lo ln to tn status.LinkFault h = absurd h
counts_told s s' k k' lo ln to tn status.SuperLost h = absurd h
counts_told s s' k k' lo ln to tn (status.OtherMember found asked) h = absurd h
counts_told s s' k k' lo ln to tn status.Occupied h = absurd h
counts_told s s' k k' lo ln to tn status.NoAnswer h = absurd h
counts_told s s' k k' lo ln to tn status.SpawnFault h = absurd h

pub writes_told : (s s' k k' : ℕ) (lo ln to tn : Option (List ℕ)) (how : Status) → Ends s s' k k' lo ln to tn how → k' ≡ writes_after how k
writes_told s s' k k' lo ln to tn status.Done h = h.1
writes_told s s' k k' lo ln to tn (status.Refused line) h = h.1
writes_told s s' k k' lo ln to tn status.ReadFault h = h.1
writes_told s s' k k' lo ln to tn status.WriteFault h = h.1
writes_told s s' k k' lo ln to tn status.NoMemory h = h.1
writes_told s s' k k' lo ln to tn status.Usage h = absurd h
writes_told s s' k k' lo ln to tn status.SessionLost h = absurd h
writes_told s s' k k' lo ln to tn status.DiskFault h = absurd h
writes_told s s' k k' lo ln to tn status.LinkFault h = absurd h
writes_told s s' k k' lo ln to tn status.SuperLost h = absurd h
writes_told s s' k k' lo ln to tn (status.OtherMember found asked) h = absurd h
writes_told s s' k k' lo ln to tn status.Occupied h = absurd h
writes_told s s' k k' lo ln to tn status.NoAnswer h = absurd h
writes_told s s' k k' lo ln to tn status.SpawnFault h = absurd h

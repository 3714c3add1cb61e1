-- What is outside of a run: the objects that are handed in, each with what it tells and with the count of its faults.
use Rattle.std.specs.Prelude.{ℕ, List, Option}
use Rattle.vr_disk.specs.DiskState.{Disk as DiskState}
use Rattle.vr_disk.specs.declared.disk.SectorDisk as of_disk
use Rattle.vr_edge.specs.Datagrams.{Arrival}
use Rattle.vr_edge.specs.declared.attach.Attach.{Attach}
use Rattle.vr_edge.specs.declared.clock.Clock as of_clock
use Rattle.vr_edge.specs.declared.datagram.Datagram.{Datagram}
use Rattle.vr_edge.specs.declared.link.Link as of_link
use Rattle.vr_edge.specs.declared.sink.Sink as of_sink
use Rattle.vr_edge.specs.declared.source.Source as of_source
use Rattle.vr_spawn.specs.declared.spawner.SpawnCall.{SpawnCall}
use Rattle.vr_spawn.specs.declared.spawner.Spawner as of_spawner

pub record Source (S : Type 0) : Type 0 where
  pub object : S
  pub left : Option (List ℕ)
  pub faults : ℕ

pub record Sink (K : Type 0) : Type 0 where
  pub object : K
  pub taken : Option (List ℕ)
  pub faults : ℕ

pub record Disk (D : Type 0) : Type 0 where
  pub object : D
  pub told : Option DiskState
  pub faults : ℕ

pub record Link (L : Type 0) : Type 0 where
  pub object : L
  pub attached : Option (List Attach)
  pub sent : Option (List (Option Datagram))
  pub received : Option (List Arrival)
  pub faults : ℕ

pub record Clock (C : Type 0) : Type 0 where
  pub object : C
  pub left : Option (List ℕ)

pub record Spawner (P : Type 0) : Type 0 where
  pub object : P
  pub calls : Option (List SpawnCall)
  pub faults : ℕ

-- All but the spawner. Two that are equal are so object by object: none was changed.
pub record Outside (S K D L C : Type 0) : Type 0 where
  pub source : Source S
  pub sink : Sink K
  pub disk : Disk D
  pub link : Link L
  pub clock : Clock C

-- What a trial has a use for, the spawner being its alone.
pub record TrialOutside (K L P : Type 0) : Type 0 where
  pub sink : Sink K
  pub link : Link L
  pub spawner : Spawner P

-- ---- what these objects tell, by their traits

abbrev pub sink_by : {K : Type 0} → of_sink.Ghosts K → K → Sink K
sink_by k sink = record { object = sink; taken = k.taken sink; faults = k.faults sink }

abbrev pub link_by : {L : Type 0} → of_link.Ghosts L → L → Link L
link_by l link = record { object = link; attached = l.attached link; sent = l.sent link; received = l.received link; faults = l.faults link }

abbrev pub outside : {S K D L C : Type 0} → of_source.Ghosts S → of_sink.Ghosts K → of_disk.Ghosts D → of_link.Ghosts L → of_clock.Ghosts C → S → K → D → L → C → Outside S K D L C
outside s k d l c source sink disk link clock = record {
  source = record { object = source; left = s.left source; faults = s.faults source };
  sink = sink_by k sink;
  disk = record { object = disk; told = d.told disk; faults = d.faults disk };
  link = link_by l link;
  clock = record { object = clock; left = c.left clock };
}

abbrev pub trial_outside : {K L P : Type 0} → of_sink.Ghosts K → of_link.Ghosts L → of_spawner.Ghosts P → K → L → P → TrialOutside K L P
trial_outside k l p sink link spawner = record {
  sink = sink_by k sink;
  link = link_by l link;
  spawner = record { object = spawner; calls = p.calls spawner; faults = p.faults spawner };
}

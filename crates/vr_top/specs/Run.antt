-- What a run comes to, by the objects that it is handed.
use Rattle.std.specs.Global.{Global}
use Rattle.std.specs.Prelude.{◌≡◌, Some, String, Vec}
use Rattle.vr_disk.specs.declared.disk.SectorDisk as of_disk
use Rattle.vr_edge.specs.Attaching.{texts_of}
use Rattle.vr_edge.specs.declared.clock.Clock as of_clock
use Rattle.vr_edge.specs.declared.link.Link as of_link
use Rattle.vr_edge.specs.declared.sink.Sink as of_sink
use Rattle.vr_edge.specs.declared.source.Source as of_source
use Rattle.vr_spawn.specs.declared.spawner.Spawner as of_spawner
use Rattle.vr_base.specs.declared.status.Status.{Status}
use Rattle.vr_top.specs.Ends.{Ends, Tries}
use Rattle.vr_top.specs.Outside.{outside, trial_outside}
use Rattle.vr_top.specs.declared.outside.Outside.{Outside as Handed}
use Rattle.vr_args.specs.Asked.{Asked, asked}

-- a run with these words ends, as to all but its spawner
abbrev pub RunEnds : {S K D L C : Type 0} → of_source.Ghosts S → of_sink.Ghosts K → of_disk.Ghosts D → of_link.Ghosts L → of_clock.Ghosts C → Vec (String Global) Global
    → S → S → K → K → D → D → L → L → C → C → Status → Type 0
RunEnds s k d l c words source source' sink sink' disk disk' link link' clock clock' status =
    Ends (asked (texts_of words.items)) (outside s k d l c source sink disk link clock) (outside s k d l c source' sink' disk' link' clock') status

-- and as to its spawner
abbrev pub RunTries : {K L P : Type 0} → of_sink.Ghosts K → of_link.Ghosts L → of_spawner.Ghosts P → Vec (String Global) Global → K → K → L → L → P → P → Status → Type 0
RunTries k l p words sink sink' link link' spawner spawner' status =
    Tries (asked (texts_of words.items)) (trial_outside k l p sink link spawner) (trial_outside k l p sink' link' spawner') status

-- the objects are those that were handed in
pub record SameObjects {S K D L C P : Type 0} (o o' : Handed S K D L C P) : Type 0 where
  pub source : o'.source.ghost_name ≡ o.source.ghost_name
  pub sink : o'.sink.ghost_name ≡ o.sink.ghost_name
  pub disk : o'.disk.ghost_name ≡ o.disk.ghost_name
  pub link : o'.link.ghost_name ≡ o.link.ghost_name
  pub clock : o'.clock.ghost_name ≡ o.clock.ghost_name
  pub spawner : o'.spawner.ghost_name ≡ o.spawner.ghost_name

-- a command is obeyed over them
pub record Obeys {S K D L C P : Type 0} (s : of_source.Ghosts S) (k : of_sink.Ghosts K) (d : of_disk.Ghosts D) (l : of_link.Ghosts L) (c : of_clock.Ghosts C) (p : of_spawner.Ghosts P)
    (a : Asked) (o o' : Handed S K D L C P) (status : Status) : Type 0 where
  pub ends : Ends (Some a) (outside s k d l c o.source.now o.sink.now o.disk.now o.link.now o.clock.now) (outside s k d l c o'.source.now o'.sink.now o'.disk.now o'.link.now o'.clock.now) status
  pub trial : Tries (Some a) (trial_outside k l p o.sink.now o.link.now o.spawner.now) (trial_outside k l p o'.sink.now o'.link.now o'.spawner.now) status
  pub same : SameObjects o o'

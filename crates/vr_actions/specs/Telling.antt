-- What is told in the course of a word that leaves replica and disk as they are.
use Rattle.std.specs.Prelude.{ℕ, List, Option, Ok}
use Rattle.vr_disk.specs.DiskState.{Disk, Face}
use Rattle.vr_msg.specs.declared.output.Output.{Output}
use Rattle.vr_rules.specs.Replica.{Replica}
use Rattle.vr_rules.specs.Steps.{Word, by, each}
use Rattle.vr_msg.specs.Choice.{ops}
use Rattle.vr_rules.specs.Does.{Does}

-- these outputs are the word's, on any disk
pub record Tells (w : Word Face) (r : Replica) (o o' : List Output) : Type 0 where
  pub every : (d : Option Disk) → Does w r r d d o o' (Ok tt)

-- a word for each op above the commit number, up to this one
unfoldable pub each_to : {F : Type 0} → (ℕ → Word F) → ℕ → Word F
each_to w top = by (λ r. each w (ops r.commit top))

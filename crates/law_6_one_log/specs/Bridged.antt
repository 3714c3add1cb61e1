-- What a run of the group has of the machine: each entry that was made there was begun to be written. And the run that led to a group.
use Rattle.std.specs.Prelude.{ℕ, ◌+◌, ◌*◌, ◌<◌, ◌≡◌, List}
use Rattle.std.specs.List.{AllByRecursion}
use Rattle.vr_header.specs.declared.header.Header.{Header}
use Rattle.vr_base.specs.Bytes.{IsBytes, piece}
use Rattle.vr_super.specs.Copies.{SuperValue}
use Rattle.law_5_seals.specs.Seals.{IsSealed}
use Rattle.vr_world.specs.Lying.{lying}
use Rattle.vr_world.specs.Group as group
use Rattle.vr_world.specs.Group.{Played, fresh_group}
use Rattle.law_1_machine.specs.Basics.{In}
use Rattle.law_1_machine.specs.Group.{Group, Made}
use Rattle.law_2_chains.specs.Chains.{Setup}
use Rattle.law_2_chains.specs.Tables.{Fits}
use Rattle.law_2_chains.specs.Bridge.{Bridges}
use Rattle.law_3_outputs.specs.Followed.{IsFitRun}
use Rattle.law_4_disks.specs.Worlds.{left}

-- the machine's group of this number stands for it, and made nothing else
pub record IsBridged (cluster : ℕ) (g : group.Group) : Type 0 where
  pub setup : Setup
  pub fits : Fits setup
  pub hash_is : setup.hash ≡ lying.hash
  pub cluster_is : setup.cluster ≡ cluster
  pub machine : Group Header
  pub bridges : Bridges setup g machine
  pub made : (x : Made Header) → In x machine.made → In x.entry g.made

-- a run of a group of n replicas that was just made led there
pub record IsLed (cluster : ℕ) (g : group.Group) : Type 0 where
  pub n : ℕ
  pub run : List Played
  pub fit : IsFitRun cluster n run
  pub is : left (fresh_group fit.kinds cluster n) run ≡ g

-- each header that a value names is one of these
abbrev pub AreNamed : List Header → SuperValue → Type 0
AreNamed made v = AllByRecursion (λ h. In h made) v.headers

-- the eight sectors of a block are sealed, for this group
pub record IsSealedBlock (cluster : ℕ) (made : List Header) (block : List ℕ) : Type 0 where
  pub bytes : IsBytes block
  pub sectors : (j : ℕ) → j < 8 → IsSealed cluster made (piece (0 + 512 * j) 512 block)

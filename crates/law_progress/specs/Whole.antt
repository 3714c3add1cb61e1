-- When a quorum is whole: what its members have on their disks is enough to go on from.
use Rattle.std.specs.Prelude.{ℕ, ◌+◌, ◌<◌, ◌≡◌, ◌⊎◌, Bool, true, false, List, [], ◌∷◌, map, max, All, Contains, Some}
use Rattle.vr_ckpt.specs.declared.name.Name.{Name}
use Rattle.vr_header.specs.declared.header.Header.{Header}
use Rattle.vr_header.specs.declared.part.Part.{Part}
use Rattle.vr_header.specs.declared.part.Part.TheVariants.{Here, Lost, Wanted, Unknown, Nothing}
use Rattle.vr_header.specs.Made.{Whole}
use Rattle.vr_rules.specs.Replica.{Replica, knows, part_at, version}
use Rattle.vr_rules.specs.Sound.{IsSound}
use Rattle.vr_rules.specs.Steps.{Setting}
use Rattle.vr_rules.specs.Words.{blocks_of, entry_of}

-- ---- of the replicas alone

-- a sound replica of the group of this number and size, on a file of this version
pub record IsMemberOf (file cluster n : ℕ) (r : Replica) : Type 0 where
  pub sound : IsSound r
  pub of_version : version r ≡ file
  pub of_group : r.cluster ≡ cluster
  pub of_size : r.n ≡ n

-- the greatest checkpoint among replicas, 0 where none has one
abbrev pub top_checkpoint : List Replica → ℕ
top_checkpoint [] = 0
top_checkpoint (r ∷ rs) = max r.checkpoint (top_checkpoint rs)

-- the replica may have stored an entry there, and can't give it
abbrev pub is_in_doubt : Part → Bool
is_in_doubt (Here h) = false
is_in_doubt (Lost h) = true
is_in_doubt (Wanted h) = false
is_in_doubt Unknown = true
is_in_doubt Nothing = false

-- of no op above this one it is in doubt
pub record IsSure (k : ℕ) (r : Replica) : Type 0 where
  pub each : (op : ℕ) → k < op → is_in_doubt (part_at r op) ≡ false

-- it knows the header of its checkpoint's op, where it has one
pub record KnowsItsCheckpoint (r : Replica) : Type 0 where
  pub known : 0 < r.checkpoint → knows r r.checkpoint ≡ true

-- ---- with their disks

-- a running replica with its disk
pub record Holder (F : Type 0) : Type 0 where
  pub replica : Replica
  pub disk : F

abbrev pub replicas_of : {F : Type 0} → List (Holder F) → List Replica
replicas_of members = map (λ m. m.replica) members

-- each entry above this op that it has stored reads
pub record ReadsAbove {F : Type 0} (s : Setting F) (k : ℕ) (m : Holder F) : Type 0 where
  pub each : (op : ℕ) (h : Header) → k < op → part_at m.replica op ≡ Here h → (e : Whole) × (entry_of h s m.disk ≡ Some e)

-- no block of its checkpoint is missing, and each reads
pub record HasItsCheckpoint {F : Type 0} (s : Setting F) (m : Holder F) : Type 0 where
  pub loaded : m.replica.missing ≡ []
  pub blocks : (name : Name) → Contains (blocks_of m.replica) name → (block : List ℕ) × (s.block m.disk name ≡ Some block)

-- The members of a quorum are whole together where, with k for the greatest checkpoint among them:
pub record IsWhole {F : Type 0} (s : Setting F) (members : List (Holder F)) : Type 0 where
  -- none is in doubt of an op above k
  pub sure : All (IsSure (top_checkpoint (replicas_of members))) (replicas_of members)
  -- what they have stored above k reads
  pub read : All (ReadsAbove s (top_checkpoint (replicas_of members))) members
  -- one with checkpoint k has all of it, and knows the header of its op
  pub furthest : Holder F
  pub there : Contains members furthest
  pub top : furthest.replica.checkpoint ≡ top_checkpoint (replicas_of members)
  pub held : HasItsCheckpoint s furthest
  pub known : KnowsItsCheckpoint furthest.replica
  -- none knows an op k + 64, the last of the window above k, or all have checkpoint k
  pub room : All (λ r. knows r (top_checkpoint (replicas_of members) + 64) ≡ false) (replicas_of members)
      ⊎ All (λ r. r.checkpoint ≡ top_checkpoint (replicas_of members)) (replicas_of members)

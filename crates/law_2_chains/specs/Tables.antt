-- What a replica's tables say of the messages sent so far: asked of a primary whose view has begun, and of statements.
use Rattle.std.specs.Prelude.{ℕ, ◌<◌, ◌≤◌, ◌≡◌, true, false, slice_index_or, Some, None}
use Rattle.std.specs.Option.{option_map_or}
use Rattle.vr_base.specs.Groups.{quorums_of}
use Rattle.vr_base.specs.Replicas.{has_replica}
use Rattle.vr_header.specs.declared.header.Header.{Header}
use Rattle.vr_header.specs.declared.part.Part.TheVariants.{Here}
use Rattle.vr_msg.specs.declared.statement.Statement.{Statement}
use Rattle.vr_rules.specs.Replica.{Replica, ackers_at, head, is_frozen, leads, part_at, replication}
use Rattle.law_1_machine.specs.Basics.{In}
use Rattle.law_1_machine.specs.Group.{Group, made_at, Vouches}
use Rattle.law_1_machine.specs.Members.{Do_view_change}
use Rattle.law_2_chains.specs.Chains.{Setup, statement_told}

-- the machine's quorums are those of the group's size
pub record Fits (u : Setup) : Type 0 where
  pub replication_is : replication u.quorums.n ≡ u.quorums.replication
  pub nack_is : option_map_or (λ q. q.nack) (quorums_of u.quorums.n) 0 ≡ u.quorums.nack

-- j has vouched for something at k
abbrev pub HasVouchedAt : Setup → Group Header → ℕ → ℕ → ℕ → Type 0
HasVouchedAt u s view k j = (h : Header) × Vouches u.quorums s.sent j view k h

pub record Tables (u : Setup) (s : Group Header) (i : ℕ) (r : Replica) : Type 0 where
  -- those who are counted have said so
  pub acks : leads r ≡ true → (k j : ℕ) → r.commit < k → has_replica (ackers_at r k) j ≡ true → (k ≤ head r) × (j < u.quorums.n) × HasVouchedAt u s r.view k j
  -- and so has it itself, of what it has stored above the commit number
  pub own : leads r ≡ true → (k : ℕ) (h : Header) → r.commit < k → part_at r k ≡ Here h → HasVouchedAt u s r.view k i
  -- it has made nothing above its head
  pub top : leads r ≡ true → (k : ℕ) (h : Header) → head r < k → In (made_at r.view k h) s.made → ⊥
  -- the statements that it has were made for its view
  pub stated : (j : ℕ) (t : Statement) → slice_index_or r.statements j None ≡ Some t → In (Do_view_change j r.view (statement_told t)) s.sent

-- of a replica that isn't frozen
abbrev pub HasTables : Setup → Group Header → ℕ → Replica → Type 0
HasTables u s i r = is_frozen r ≡ false → Tables u s i r

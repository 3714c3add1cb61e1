-- A replica's tables, where that it has vouched itself for what it has stored is asked in a group of several alone: a replica that is a
-- group by itself does so at the end of each step.
use Rattle.std.proofs.Common.{ℕ, ◌≤◌, ◌<◌, ◌≡◌, inl, arith, true, Some, None}
use Rattle.std.specs.Prelude.{slice_index_or}
use Rattle.vr_base.specs.Replicas.{has_replica}
use Rattle.vr_header.specs.declared.header.Header.{Header}
use Rattle.vr_header.specs.declared.part.Part.TheVariants.{Here}
use Rattle.vr_msg.specs.declared.statement.Statement.{Statement}
use Rattle.vr_rules.specs.Replica.{Replica, ackers_at, head, leads, part_at}
use Rattle.law_1_machine.specs.Basics.{In}
use Rattle.law_1_machine.specs.Group.{Group, made_at}
use Rattle.law_1_machine.specs.Members.{Do_view_change}
use Rattle.law_2_chains.specs.Chains.{Setup, statement_told}
use Rattle.law_2_chains.specs.Lone.{Vouched}
use Rattle.law_2_chains.specs.Tables.{HasVouchedAt, Tables}
use Rattle.law_2_chains.proofs.Repairs.{leads_is}

pub record Tallies (u : Setup) (s : Group Header) (i : ℕ) (r : Replica) : Type 0 where
  pub acks : leads r ≡ true → (k j : ℕ) → r.commit < k → has_replica (ackers_at r k) j ≡ true → (k ≤ head r) × (j < u.quorums.n) × HasVouchedAt u s r.view k j
  pub own : 2 ≤ u.quorums.n → leads r ≡ true → (k : ℕ) (h : Header) → r.commit < k → part_at r k ≡ Here h → HasVouchedAt u s r.view k i
  pub top : leads r ≡ true → (k : ℕ) (h : Header) → head r < k → In (made_at r.view k h) s.made → ⊥
  pub stated : (j : ℕ) (t : Statement) → slice_index_or r.statements j None ≡ Some t → In (Do_view_change j r.view (statement_told t)) s.sent

module _ (u : Setup) (s : Group Header) (i : ℕ) (r : Replica) where
  pub tallies_of : Tables u s i r → Tallies u s i r
  tallies_of x = record { acks = x.acks; own = λ several. x.own; top = x.top; stated = x.stated }

  pub tables_of : 2 ≤ u.quorums.n → Tallies u s i r → Tables u s i r
  tables_of several x = record { acks = x.acks; own = x.own several; top = x.top; stated = x.stated }

  -- where it has vouched for all that it has stored
  pub tables_vouched : (before : Group Header) → r.checkpoint ≤ r.commit → Vouched i r before s → Tallies u s i r → Tables u s i r
  tables_vouched before order v x = record { acks = x.acks; own = λ l k h above is. (h, inl (v.all (leads_is r l).0 k h (omega arith) is)); top = x.top; stated = x.stated }

-- 7. Whom a primary counts has vouched, for the entry that its view's log has there; and so has the primary itself for what it has stored
-- above its commit number.
use Rattle.std.specs.Prelude.{ℕ, ◌<◌, ◌≡◌, true, false, Some, slice_get}
use Rattle.vr_base.specs.Replicas.{has_replica}
use Rattle.vr_header.specs.declared.header.Header.{Header}
use Rattle.vr_header.specs.declared.part.Part.TheVariants.{Here}
use Rattle.vr_rules.specs.Replica.{Replica, ackers_at, is_frozen, leads, part_at}
use Rattle.vr_world.specs.Group as group
use Rattle.law_1_machine.specs.Group.{Group, Vouches}
use Rattle.law_1_machine.specs.History.{History, InLog}
use Rattle.law_1_machine.specs.Invariant.{Invariant}
use Rattle.law_2_chains.specs.Chains.{Setup}
use Rattle.law_2_chains.specs.Reflecting.{entries_by}
use Rattle.law_2_chains.specs.Bridge.{Bridges}

-- j has vouched in a view for what the view's log has at k
abbrev pub HasVouched : Setup → History Header → Group Header → ℕ → ℕ → ℕ → Type 0
HasVouched u g s view k j = (h : Header) × Vouches u.quorums s.sent j view k h × InLog g view k h

-- of a primary whose view has begun, in the machine's group s with the history g
pub record CountsTruly (u : Setup) (g : History Header) (s : Group Header) (i : ℕ) (r : Replica) : Type 0 where
  pub others : (k j : ℕ) → r.commit < k → has_replica (ackers_at r k) j ≡ true → HasVouched u g s r.view k j
  pub own : (k : ℕ) (h : Header) → r.commit < k → part_at r k ≡ Here h → HasVouched u g s r.view k i

-- in each group of the rules for which a group of the machine stands
abbrev pub PrimariesCountTruly : Type 0
PrimariesCountTruly =
    (u : Setup) (x : group.Group) (s : Group Header) (g : History Header) → Bridges u x s → Invariant u.quorums (entries_by u.hash u.cluster) g s
    → (i : ℕ) (m : group.Member) (r : Replica) → slice_get x.members i ≡ Some m → m.replica ≡ Some r → is_frozen r ≡ false → leads r ≡ true → CountsTruly u g s i r

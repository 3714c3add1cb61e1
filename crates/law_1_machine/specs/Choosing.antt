-- The choice of the log with which a view begins, from what members state.
-- The log is that of the greatest log view among the statements. It is cut after `head` only where a nack quorum denies the next
-- number, so that no replication quorum can have the entry there.
use Rattle.std.specs.Prelude.{ℕ, suc, ◌≤◌, ◌<◌, ◌≡◌, Bool, true, Option, None, Some}
use Rattle.law_1_machine.specs.Quorums.{Quorums, count}
use Rattle.law_1_machine.specs.Parts.{header, denied}
use Rattle.law_1_machine.specs.Members.{Statement}

module _ {H : Type 0} where
  -- t denies number k of the log of log_view, whose known headers are given
  pub data Denies (log_view k : ℕ) (log : ℕ → Option H) (t : Statement H) : Type 0 where
    -- it never had an entry there
    plainly : denied (t.tags k) ≡ true → Denies log_view k log t
    -- it comes from an earlier view, and has another entry there than the log
    other : (a b : H) → t.log_view < log_view → log k ≡ Some a → header (t.tags k) ≡ Some b → (b ≡ a → ⊥) → Denies log_view k log t
    -- it comes from an earlier view, and the log has no entry there: silence denies only below the greatest log view
    silent : t.log_view < log_view → log k ≡ None → Denies log_view k log t

  -- a choice from the statements heard, by member: the greatest log view and the greatest commit number among them, the headers that
  -- the statements of that log view name, and where the log ends
  pub record Chosen (q : Quorums) (heard : ℕ → Option (Statement H)) (log_view commit head : ℕ) (log : ℕ → Option H) : Type 0 where
    pub some_log_view : (i : ℕ) × (t : Statement H) × (i < q.n) × (heard i ≡ Some t) × (t.log_view ≡ log_view)
    pub no_later_log_view : (i : ℕ) (t : Statement H) → heard i ≡ Some t → t.log_view ≤ log_view
    pub some_commit : (i : ℕ) × (t : Statement H) × (heard i ≡ Some t) × (t.commit ≡ commit)
    pub no_later_commit : (i : ℕ) (t : Statement H) → heard i ≡ Some t → t.commit ≤ commit
    pub named : (k : ℕ) (h : H) → log k ≡ Some h → (i : ℕ) × (t : Statement H) × (heard i ≡ Some t) × (t.log_view ≡ log_view) × (header (t.tags k) ≡ Some h)
    pub unnamed : (k i : ℕ) (t : Statement H) → log k ≡ None → heard i ≡ Some t → t.log_view ≡ log_view → header (t.tags k) ≡ None
    -- the log reaches the commit number, and has no gap above it
    pub ahead : commit ≤ head
    pub whole : (k : ℕ) → commit < k → k ≤ head → (h : H) × (log k ≡ Some h)
    -- a nack quorum denies the number after its end
    pub deniers : ℕ → Bool
    pub many : q.nack ≤ count deniers q.n
    pub deny : (i : ℕ) → i < q.n → deniers i ≡ true → (t : Statement H) × (heard i ≡ Some t) × Denies log_view (suc head) log t

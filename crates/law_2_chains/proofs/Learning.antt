-- Learn and Advance: a commit number rises, as it was told or as a quorum has vouched, and then what is stored is applied.
use Rattle.std.proofs.Common.{ℕ, zero, suc, ◌+◌, ◌≤◌, ◌<◌, ◌≡◌, inl, inr, arith, refl, sym, subst, Bool, true, min, max, Some}
use Rattle.std.specs.List.{prefix_len}
use Rattle.std.proofs.lemmas.Bool.{cases_lt}
use Rattle.vr_header.specs.declared.header.Header.{Header}
use Rattle.vr_msg.specs.Choice.{ops}
use Rattle.vr_rules.specs.Replica.{Replica, part_at, head}
use Rattle.vr_rules.specs.Steps.{Setting, change}
use Rattle.vr_rules.specs.Words.{learned, learn, has_quorum, advanced, advance, apply}
use Rattle.vr_rules.proofs.Keeping.{sound_commit}
use Rattle.law_1_machine.specs.Basics.{In}
use Rattle.law_1_machine.specs.Group.{Group, Member, becomes, Vouches}
use Rattle.law_1_machine.specs.Members.{Memory, Prepare, Commit}
use Rattle.law_1_machine.specs.Quorums.{count}
use Rattle.law_1_machine.specs.Machine as move
use Rattle.law_2_chains.specs.Local.{Local}
use Rattle.law_2_chains.specs.Reflecting.{entries_by}
use Rattle.law_2_chains.specs.Chains.{Setup, Mid, Goes}
use Rattle.law_2_chains.proofs.Scripts.{goes_then, goes_change}
use Rattle.law_2_chains.proofs.Readying.{ready_later}
use Rattle.law_2_chains.proofs.Moving.{under_moves, mid_runs}
use Rattle.law_2_chains.proofs.Applying.{later_as, goes_apply}

-- ---- one commit number

abbrev with_commit : ℕ → Replica → Replica
with_commit c r = record r { commit = c }

module _ (u : Setup) (start : Group Header) (i : ℕ) where
  mid_commit : (r : Replica) (l : Local) (s : Group Header) (x : Mid u start i r l s) (c : ℕ) → r.commit ≤ c → c ≤ head r
      → move.Remember u.quorums (entries_by u.hash u.cluster) s x.memory (record x.memory { commit = c }) → (a : Group Header) × Mid u start i (with_commit c r) l a
  unfolding head part_at
  mid_commit r l s x c up top may =
      let f = x.reflects in
      let d = x.under.disk in
      let same = f.commit in
      let m : Memory Header = record x.memory { commit = c } in
      let z : Member Header = record (s.members i) { memory = Some m } in (
        becomes s i z,
        mid_runs u start i (with_commit c r) l s z m
            (under_moves u start i l l s z x.under (move.remembers i x.memory m x.running may) (record { last = d.last; under = d.under; slots = d.slots; size = d.size }) x.under.made)
            refl
            (record { view = f.view; log_view = f.log_view; checkpoint = f.checkpoint; commit = refl; applied = f.applied; reach = f.reach; parts = f.parts; loaded = f.loaded; waits = f.waits })
            (sound_commit r c up top x.sound) x.place x.size x.stored
            (ready_later u start.sent i x.memory m (s.members i).slots z.slots (later_as x.memory m (s.members i).slots refl refl (omega arith) (omega arith) refl (λ k. refl)) l.said x.ready),
      )

  -- ---- a commit number is told

  -- of a view, with a commit message or a prepare
  pub data IsTold (view : ℕ) (d : ℕ) : Type 0 where
    by_commit : (from : ℕ) → In (Commit from view d) start.sent → IsTold view d
    by_prepare : (from k : ℕ) (h : Header) → In (Prepare from view k h d) start.sent → IsTold view d

  told_move : (r : Replica) (l : Local) (s : Group Header) (x : Mid u start i r l s) (d c : ℕ) → IsTold r.log_view d → c ≤ d → r.commit ≤ c → c ≤ head r
      → move.Remember u.quorums (entries_by u.hash u.cluster) s x.memory (record x.memory { commit = c })
  told_move r l s x d c (by_commit from told) less up top =
      let a = x.reflects.commit in
      let b = x.reflects.reach in
      move.learns from x.memory.view c d (rw (x.reflects.log_view, x.under.sent) told) less (omega arith) (omega arith)
  told_move r l s x d c (by_prepare from k h told) less up top =
      let a = x.reflects.commit in
      let b = x.reflects.reach in
      move.hears from k d c h (rw (x.reflects.log_view, x.under.sent) told) less (omega arith) (omega arith)

  pub goes_learn : {F : Type 0} (d : ℕ) (t : Setting F) (r : Replica) (f : F) (l : Local) (s : Group Header) → Mid u start i r l s → IsTold r.log_view d → Goes u start i l (learn d t r f)
  unfolding learn
  goes_learn d t r f l s x told =
      let top = x.sound.order.known in
      let y = elim (cases_lt r.commit (min d (head r))) as (λ o. (a : Group Header) × Mid u start i (with_commit (max r.commit (min d (head r))) r) l a) [
        | inl more ↦
            let is : max r.commit (min d (head r)) ≡ min d (head r) = omega arith in
            rw is (mid_commit r l s x (min d (head r)) (omega arith) (omega arith) (told_move r l s x d (min d (head r)) told (omega arith) (omega arith) (omega arith)))
        | inr less ↦
            let is : max r.commit (min d (head r)) ≡ r.commit = omega arith in
            rw is (s, x)
      ] in
      goes_then u start i (change (learned d)) apply t r f l (goes_change u start i (learned d) t r f l y.0 y.1) (λ a z. goes_apply u start i t _ _ _ a z)

  -- ---- a quorum has vouched

  -- those who have vouched for op k in this view, by messages that were sent
  pub record HasVouched (view k : ℕ) : Type 0 where
    pub set : ℕ → Bool
    pub enough : u.quorums.replication ≤ count set u.quorums.n
    pub each : (j : ℕ) → j < u.quorums.n → set j ≡ true → (h : Header) × Vouches u.quorums start.sent j view k h

  tally : (r : Replica) (l : Local) (s : Group Header) (x : Mid u start i r l s) → HasVouched r.log_view (suc r.commit) → suc r.commit ≤ head r
      → move.Remember u.quorums (entries_by u.hash u.cluster) s x.memory (record x.memory { commit = suc r.commit })
  tally r l s x v top =
      let b = x.reflects.reach in
      let q = u.quorums in
      let hs = entries_by u.hash u.cluster in
      let c : r.commit ≡ x.memory.commit = sym x.reflects.commit in
      let each : (j : ℕ) → j < q.n → v.set j ≡ true → (h : Header) × Vouches q s.sent j x.memory.log_view (suc r.commit) h = λ j less is. rw (x.reflects.log_view, x.under.sent) (v.each j less is) in
      subst (λ (k : ℕ). move.Remember q hs s x.memory (record x.memory { commit = suc k })) (sym c)
      (move.tallies v.set v.enough (subst (λ (k : ℕ). (j : ℕ) → j < q.n → v.set j ≡ true → (h : Header) × Vouches q s.sent j x.memory.log_view (suc k) h) c each) (omega arith))

  -- one after the other
  raised : (n : ℕ) (r : Replica) (l : Local) (s : Group Header) → Mid u start i r l s → r.commit + n ≤ head r → ((k : ℕ) → r.commit < k → k ≤ r.commit + n → HasVouched r.log_view k)
      → (a : Group Header) × Mid u start i (with_commit (r.commit + n) r) l a
  unfolding head part_at
  raised zero r l s x top each = let e : r.commit + zero ≡ r.commit = omega arith in rw e (s, x)
  raised (suc n) r l s x top each =
      let y = mid_commit r l s x (suc r.commit) (omega arith) (omega arith) (tally r l s x (each (suc r.commit) (omega arith) (omega arith)) (omega arith)) in
      let e : suc r.commit + n ≡ r.commit + suc n = omega arith in
      let w = raised n (with_commit (suc r.commit) r) l y.0 y.1 (omega arith) (λ k a b. each k (omega arith) (omega arith)) in
      subst (λ (c : ℕ). (a : Group Header) × Mid u start i (with_commit c r) l a) e w

  abbrev pub counted : Replica → ℕ
  counted r = prefix_len (has_quorum r) (ops r.commit (head r))

  pub goes_advance : {F : Type 0} (t : Setting F) (r : Replica) (f : F) (l : Local) (s : Group Header) → Mid u start i r l s → r.commit + counted r ≤ head r
      → ((k : ℕ) → r.commit < k → k ≤ r.commit + counted r → HasVouched r.log_view k) → Goes u start i l (advance t r f)
  unfolding advance advanced
  goes_advance t r f l s x top each =
      let y = raised (counted r) r l s x top each in
      goes_then u start i (change advanced) apply t r f l (goes_change u start i advanced t r f l y.0 y.1) (λ a z. goes_apply u start i t _ _ _ a z)

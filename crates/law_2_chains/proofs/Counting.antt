-- A prepare_ok that arrives (rule 15): who is counted has vouched.
use Rattle.std.proofs.Common.{ℕ, zero, suc, ◌+◌, ◌-◌, ◌≤◌, ◌<◌, ◌≡◌, ◌∙◌, ◌⊎◌, inl, inr, arith, refl, sym, ap, subst, Bool, true, false, cond, List, [], ◌∷◌, length, get_or}
use Rattle.std.specs.Prelude.{nat_lt, nat_le, ◌==◌, count_by}
use Rattle.std.specs.List.{prefix_len}
use Rattle.std.proofs.lemmas.Bool.{and_parts, cases_eq, cases_lt, not-false, ltb-true, leb-true, eqb-true}
use Rattle.std.proofs.lemmas.List.{length-set, get_or-set_same, get_or-set_other}
use Rattle.std.proofs.lemmas.List.FromFn.{get_or-range_with_len, length-range_with_len}
use Rattle.std.proofs.lemmas.List.Sums.{sum_by-cons, prefix_len-le-length, prefix_len_passes}
use Rattle.vr_base.specs.declared.replicas.Replicas.{Replicas}
use Rattle.vr_base.specs.Replicas.{no_replicas, with_replica, has_replica, size}
use Rattle.vr_header.specs.declared.header.Header.{Header}
use Rattle.vr_header.specs.declared.part.Part.{Part}
use Rattle.vr_header.specs.declared.part.Part.TheVariants.{Here, Lost, Wanted, Unknown, Nothing}
use Rattle.vr_base.proofs.Sets.{has_with}
use Rattle.vr_msg.specs.declared.frame.Frame.TheVariants as frame
use Rattle.vr_msg.specs.declared.frame.PrepareOk.{PrepareOk}
use Rattle.vr_msg.specs.Choice.{ops}
use Rattle.vr_rules.specs.Replica.{Replica, replication, ackers_at, head, is_here, leads, part_at}
use Rattle.vr_rules.specs.Steps.{Setting}
use Rattle.vr_rules.specs.Words.{votes, has_quorum, advance}
use Rattle.vr_rules.specs.Deciding.{prepare_ok_table, is_from, is_for}
use Rattle.vr_rules.specs.Rules.{acknowledged, obey_prepare_ok, on_prepare_ok}
use Rattle.vr_rules.specs.Sound.{IsSound}
use Rattle.vr_rules.proofs.Keeping.{sound_ackers}
use Rattle.vr_rules.proofs.Ruling.{by_rows}
use Rattle.law_1_machine.specs.Group.{Group}
use Rattle.law_1_machine.specs.Basics.{In}
use Rattle.law_1_machine.specs.Members as machine
use Rattle.law_1_machine.specs.Quorums.{count}
use Rattle.law_2_chains.specs.Local.{Local}
use Rattle.law_2_chains.specs.Chains.{Setup, WasSent, Mid, Goes}
use Rattle.law_2_chains.specs.Tables.{Fits, HasVouchedAt}
use Rattle.law_2_chains.proofs.Tallies.{Tallies}
use Rattle.law_2_chains.proofs.Scripts.{goes_quiet, goes_by, goes_naming}
use Rattle.law_2_chains.proofs.Moving.{mid_stays}
use Rattle.law_2_chains.proofs.Learning.{HasVouched, goes_advance}
use Rattle.law_2_chains.proofs.Vouching.{goes_change_then}
use Rattle.law_2_chains.proofs.Repairs.{leads_is}

-- ---- sets of replicas, counted

pub count_shift : (f : ℕ → Bool) (n : ℕ) → count f (suc n) ≡ cond (f 0) 1 0 + count (λ j. f (suc j)) n
count_shift f zero = omega arith
count_shift f (suc n) = let e = count_shift f n in omega arith

flags_none : (xs : List Bool) → ((j : ℕ) → get_or xs j false ≡ true → ⊥) → count_by (λ b. b) xs ≤ 0
flags_none [] h = omega arith
flags_none (true ∷ xs) h = absurd (h 0 refl)
flags_none (false ∷ xs) h =
    let l = flags_none xs (λ j t. h (suc j) t) in
    let c : count_by (λ (b : Bool). b) (false ∷ xs) ≡ 0 + count_by (λ (b : Bool). b) xs = sum_by-cons (λ (b : Bool). cond b 1 0) false xs in
    omega arith

count_flags : (xs : List Bool) (n : ℕ) → ((j : ℕ) → get_or xs j false ≡ true → j < n) → count_by (λ b. b) xs ≤ count (λ j. get_or xs j false) n
count_flags [] n h = omega arith
count_flags (x ∷ xs) zero h = flags_none (x ∷ xs) (λ j t. let l = h j t in absurd (omega arith))
count_flags (x ∷ xs) (suc n) h =
    let rest = count_flags xs n (λ j t. let l = h (suc j) t in omega arith) in
    let e = count_shift (λ j. get_or (x ∷ xs) j false) n in
    let c : count_by (λ (b : Bool). b) (x ∷ xs) ≡ cond x 1 0 + count_by (λ (b : Bool). b) xs = sum_by-cons (λ (b : Bool). cond b 1 0) x xs in
    omega arith

pub size_count : (s : Replicas) (n : ℕ) → ((j : ℕ) → has_replica s j ≡ true → j < n) → size s ≤ count (λ j. has_replica s j) n
size_count s n h = count_flags s.0 n h

count_upto : (f : ℕ → Bool) (i : ℕ) → ((j : ℕ) → f j ≡ true → j ≡ i) → (m : ℕ) → (count f m ≤ 1) × (0 < count f m → i < m)
count_upto f i h zero = (omega arith, λ l. absurd (omega arith))
count_upto f i h (suc m) =
    let p = count_upto f i h m in
    elim (f m) as (λ b. f m ≡ b → (count f m + cond b 1 0 ≤ 1) × (0 < count f m + cond b 1 0 → i < suc m)) [
      | true ↦ λ t.
          let same = h m t in
          let none : count f m ≤ 0 = elim (cases_lt 0 (count f m)) [ inl some ↦ let l = p.1 some in absurd (omega arith) | inr z ↦ z ] in
          (omega arith, λ l. omega arith)
      | false ↦ λ t. (let a = p.0 in omega arith, λ l. let b = p.1 (omega arith) in omega arith)
    ] refl

-- one member alone is one
pub count_only : (f : ℕ → Bool) (i n : ℕ) → ((j : ℕ) → f j ≡ true → j ≡ i) → count f n ≤ 1
count_only f i n h =
    let go : (m : ℕ) → (count f m ≤ 1) × (0 < count f m → i < m) = count_upto f i h in
    (go n).0

-- ---- who is counted

abbrev pub counts : Replica → ℕ
counts r = prefix_len (has_quorum r) (ops r.commit (head r))

-- each op that is counted has a quorum
pub counted_has : (r : Replica) (k : ℕ) → r.commit < k → k ≤ r.commit + counts r → has_quorum r k ≡ true
counted_has r k a b =
    let n : ℕ = k - (r.commit + 1) in
    let few = prefix_len-le-length (has_quorum r) (ops r.commit (head r)) in
    let long = length-range_with_len (r.commit + 1) (head r - r.commit) in
    let passes = prefix_len_passes (has_quorum r) (ops r.commit (head r)) n 0 (omega arith) in
    let at : get_or (ops r.commit (head r)) n 0 ≡ r.commit + 1 + n = get_or-range_with_len (r.commit + 1) (head r - r.commit) n 0 (omega arith) in
    let place : r.commit + 1 + n ≡ k = omega arith in
    sym (ap (has_quorum r) (at ∙ place)) ∙ passes

pub counted_within : (r : Replica) → r.commit ≤ head r → r.commit + counts r ≤ head r
counted_within r l =
    let few = prefix_len-le-length (has_quorum r) (ops r.commit (head r)) in
    let long = length-range_with_len (r.commit + 1) (head r - r.commit) in
    omega arith

is_stored : (p : Part) → is_here p ≡ true → (h : Header) × (p ≡ Here h)
is_stored (Here h) t = (h, refl)
is_stored (Lost h) t = absurd cc
is_stored (Wanted h) t = absurd cc
is_stored Unknown t = absurd cc
is_stored Nothing t = absurd cc

pub voter : (r : Replica) (k j : ℕ) → has_replica (votes r k) j ≡ true → ((j ≡ r.index) × ((h : Header) × (part_at r k ≡ Here h))) ⊎ (has_replica (ackers_at r k) j ≡ true)
voter r k j t =
    elim (is_here (part_at r k)) as (λ b. is_here (part_at r k) ≡ b → has_replica (cond b (with_replica (ackers_at r k) r.index) (ackers_at r k)) j ≡ true
    → ((j ≡ r.index) × ((h : Header) × (part_at r k ≡ Here h))) ⊎ (has_replica (ackers_at r k) j ≡ true)) [
      | true ↦ λ e x. elim (has_with (ackers_at r k) r.index j x) [ inl same ↦ inl (same, is_stored (part_at r k) e) | inr old ↦ inr old ]
      | false ↦ λ e x. inr x
    ] refl t

module _ (u : Setup) (quorum : replication u.quorums.n ≡ u.quorums.replication) (start : Group Header) (i : ℕ) where
  -- where each voter has vouched, a quorum has
  pub quorum_vouched : (r : Replica) (k : ℕ) → r.n ≡ u.quorums.n → has_quorum r k ≡ true → ((j : ℕ) → has_replica (votes r k) j ≡ true → (j < u.quorums.n) × HasVouchedAt u start r.log_view k j) → HasVouched u start i r.log_view k
  quorum_vouched r k size_is has each =
      let enough = leb-true (replication r.n) (size (votes r k)) has in
      let same : replication r.n ≡ u.quorums.replication = ap replication size_is ∙ quorum in
      let more = size_count (votes r k) u.quorums.n (λ j t. (each j t).0) in
      record { set = λ j. has_replica (votes r k) j; enough = omega arith; each = λ j l t. (each j t).1 }

-- ---- a replica is counted

module _ (u : Setup) (start : Group Header) (i : ℕ) where
  mid_acknowledged : (a : PrepareOk) (r : Replica) (l : Local) (s : Group Header) → Mid u start i r l s → Mid u start i (acknowledged a r) l s
  unfolding head part_at
  mid_acknowledged a r l s x =
      let f = x.reflects in
      mid_stays u start i r (acknowledged a r) l s x
      (record { view = f.view; log_view = f.log_view; checkpoint = f.checkpoint; commit = f.commit; applied = f.applied; reach = f.reach; parts = f.parts; loaded = f.loaded; waits = f.waits })
      (sound_ackers r _ (length-set r.ackers (a.op - r.first) _) x.sound) refl refl x.stored

  acks_more : (a : PrepareOk) (r : Replica) → IsSound r → Tallies u start i r → leads r ≡ true → r.commit < a.op → a.op ≤ head r → (a.replica < u.quorums.n) × HasVouchedAt u start r.view a.op a.replica
      → (k j : ℕ) → r.commit < k → has_replica (ackers_at (acknowledged a r) k) j ≡ true → (k ≤ head r) × (j < u.quorums.n) × HasVouchedAt u start r.view k j
  acks_more a r sound tables lead low top new k j above t =
      let first = sound.lists.reach in
      let order = sound.order.applied in
      let below = sound.order.commit in
      let p : ℕ = a.op - r.first in
      elim (cases_eq k a.op) [
        | inl same ↦
            elim (cases_lt p (length r.ackers)) [
              | inl within ↦
                  let at : has_replica (with_replica (ackers_at r a.op) a.replica) j ≡ true =
                  sym (ap (λ (x : Replicas). has_replica x j) (get_or-set_same r.ackers p (with_replica (ackers_at r a.op) a.replica) no_replicas within)) ∙ subst (λ m. has_replica (ackers_at (acknowledged a r) m) j ≡ true) same t in
                  elim (has_with (ackers_at r a.op) a.replica j at) [
                    | inl it ↦ rw (same, it) (top, new.0, new.1)
                    | inr old ↦ rw same (tables.acks lead a.op j low old)
                  ]
              | inr past ↦
                  let window = sound.order.window in
                  let parts = sound.lists.parts in
                  let acks = sound.lists.ackers in
                  absurd (omega arith)
            ]
        | inr other ↦
            tables.acks lead k j above (sym (ap (λ (x : Replicas). has_replica x j) (get_or-set_other r.ackers p (k - r.first) (with_replica (ackers_at r a.op) a.replica) no_replicas (λ e. other (omega (arith, e))))) ∙ t)
      ]

  pub tables_acknowledged : (a : PrepareOk) (r : Replica) → IsSound r → Tallies u start i r → leads r ≡ true → r.commit < a.op → a.op ≤ head r → (a.replica < u.quorums.n) × HasVouchedAt u start r.view a.op a.replica
      → Tallies u start i (acknowledged a r)
  unfolding head part_at
  tables_acknowledged a r sound tables lead low top new = record {
    acks = λ y k j above t. acks_more a r sound tables lead low top new k j above t;
    own = tables.own;
    top = tables.top;
    stated = tables.stated;
  }

  leads_acknowledged : (a : PrepareOk) (r : Replica) → leads (acknowledged a r) ≡ leads r
  leads_acknowledged a r = refl

-- ---- who is counted has vouched

module _ (u : Setup) (fits : Fits u) (several : 2 ≤ u.quorums.n) (start : Group Header) (i : ℕ) where
  pub voters_vouched : (r : Replica) (l : Local) (s : Group Header) (x : Mid u start i r l s) → Tallies u start i r → leads r ≡ true → (k j : ℕ) → r.commit < k → has_replica (votes r k) j ≡ true
      → (j < u.quorums.n) × HasVouchedAt u start r.log_view k j
  voters_vouched r l s x tables lead k j above t =
      let begun = (leads_is r lead).0 in
      let member = x.sound.member in
      let size_is = x.size in
      let place = x.place in
      elim (voter r k j t) [
        | inl mine ↦ rw (mine.0) (omega arith, subst (λ m. HasVouchedAt u start r.log_view k m) (sym place) (subst (λ v. HasVouchedAt u start v k i) begun (tables.own several lead k mine.1.0 above mine.1.1)))
        | inr acker ↦ let a = tables.acks lead k j above acker in (a.1, subst (λ v. HasVouchedAt u start v k j) begun a.2)
      ]

  -- the primary counts who has vouched
  pub goes_count : {F : Type 0} (t : Setting F) (r : Replica) (f : F) (l : Local) (s : Group Header) → Mid u start i r l s → Tallies u start i r → leads r ≡ true → Goes u start i l (advance t r f)
  goes_count t r f l s x tables lead =
      goes_advance u start i t r f l s x (counted_within r x.sound.order.known) (λ k a b. quorum_vouched u fits.replication_is start i r k x.size (counted_has r k a b) (λ j y. voters_vouched r l s x tables lead k j a y))

  pub goes_prepare_ok : {F : Type 0} (a : PrepareOk) (t : Setting F) (r : Replica) (f : F) (l : Local) (s : Group Header) → Mid u start i r l s → Tallies u start i r → WasSent u start.sent (frame.PrepareOk a)
      → Goes u start i l (on_prepare_ok a t r f)
  unfolding on_prepare_ok
  goes_prepare_ok a t r f l s x tables sent =
      let idle = goes_quiet u start i t r f l s x in
      goes_naming u start i _ t r f l (goes_by u start i _ t r f l (by_rows (λ z. Goes u start i l (obey_prepare_ok a z t r f)) (prepare_ok_table t.hash a r) (
        λ c. idle,
        λ n0. (
          λ c.
              let from = and_parts (is_for a.version a.cluster r) _ (not-false (is_from a.version a.cluster a.replica r) n0) in
              let sender = ltb-true a.replica r.n (and_parts (nat_lt a.replica r.n) _ from.1).0 in
              let size_is = x.size in
              let p = and_parts (leads r) _ c in
              let q = and_parts (a.view == r.view) _ p.1 in
              let b = and_parts (nat_lt r.commit a.op) _ q.1 in
              let d = and_parts (nat_le a.op (head r)) _ b.1 in
              let view = eqb-true a.view r.view q.0 in
              let vouched : HasVouchedAt u start r.view a.op a.replica = (sent.0, inl (subst (λ v. In (machine.Prepare_ok a.replica v a.op sent.0) start.sent) view sent.2)) in
              let y = mid_acknowledged u start i a r l s x in
              goes_change_then u start i (acknowledged a) advance t r f l s y (λ e. goes_count t (acknowledged a r) e l s y
              (tables_acknowledged u start i a r x.sound tables p.0 (ltb-true r.commit a.op b.0) (leb-true a.op (head r) d.0) (omega arith, vouched)) (leads_acknowledged u start i a r ∙ p.0)),
          λ n1. idle,
        ),
      )))

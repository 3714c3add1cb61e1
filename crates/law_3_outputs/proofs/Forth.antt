-- What is committed by what was put out and stored is committed in the machine, for headers whose names don't collide.
use Rattle.std.specs.Prelude.{Contains, slice_get}
use Rattle.std.proofs.lemmas.Option.{slice_get_within}
use Rattle.std.proofs.Common.{ℕ, suc, ◌%◌, ◌≤◌, ◌<◌, ◌≡◌, ◌∙◌, inl, inr, arith, refl, sym, ap, subst, Bool, true, List, length, Some}
use Rattle.vr_base.specs.Replicas.{has_replica}
use Rattle.vr_header.specs.declared.header.Header.{Header}
use Rattle.vr_header.specs.Names.{header_name, name_by, root_by}
use Rattle.vr_header.specs.NoCollision.{NoCollision}
use Rattle.vr_header.specs.Spelling.{IsHeader, named_bytes}
use Rattle.vr_header.proofs.NameLaws.{one_header}
use Rattle.vr_rules.specs.Replica.{replication}
use Rattle.vr_world.specs.Group.{Played}
use Rattle.law_2_chains.specs.Lone.{vouch_for}
use Rattle.vr_rules.specs.Steps.{Write}
use Rattle.vr_world.specs.Storing.{run_stored, stored_of}
use Rattle.law_1_machine.specs.Basics.{In}
use Rattle.law_1_machine.specs.Group.{Group, Vouches}
use Rattle.law_1_machine.specs.History.{History}
use Rattle.law_1_machine.specs.Invariant.{Invariant}
use Rattle.law_1_machine.specs.Laws.{Committed, at_root}
use Rattle.law_1_machine.specs.Members as machine
use Rattle.law_1_machine.specs.Members.{Message}
use Rattle.law_1_machine.specs.Quorums.{count}
use Rattle.law_1_machine.proofs.Counting.{member_of}
use Rattle.law_1_machine.proofs.Moves.{reached_good, vouched_of}
use Rattle.law_2_chains.specs.Chains.{Setup}
use Rattle.law_2_chains.specs.Reflecting.{entries_by}
use Rattle.law_2_chains.proofs.Counting.{size_count}
use Rattle.law_2_chains.proofs.Making.{logged_made}
use Rattle.vr_world.specs.Commitment as said
use Rattle.vr_world.specs.Commitment.{IsCommitted, Stored}
use Rattle.vr_world.specs.Safe.{IsHashed, wrote, IsWritten, evidence, run_outputs}
use Rattle.vr_world.specs.Safe as safe
use Rattle.law_3_outputs.specs.Followed.{IsFollowed, by_then, own_vouches, stored_until}
use Rattle.law_2_chains.proofs.StoredLists.{contains_in, in_contains}
use Rattle.law_3_outputs.proofs.Sets.{get_in}
use Rattle.law_3_outputs.proofs.Stored.{own_in, own_more, stored_of_move, until_all}
use Rattle.law_3_outputs.proofs.Traces.{WasWritten, in_either, last, sent_later, sent_of, from_of, written_of}
use Rattle.law_3_outputs.proofs.Machine.{joins}

ok_is : (h : Header) (r s v w k l : ℕ) → r ≡ s → v ≡ w → k ≡ l → machine.Prepare_ok r v k h ≡ machine.Prepare_ok s w l h
ok_is h r s v w k l a b c = λ i. machine.Prepare_ok (a i) (b i) (c i) h

prepare_is : (h d : Header) (r s v w c : ℕ) → r ≡ s → v ≡ w → h ≡ d → machine.Prepare r v h.op h c ≡ machine.Prepare s w d.op d c
prepare_is h d r s v w c a b e = λ i. machine.Prepare (a i) (b i) ((e i).op) (e i) c

module _ (cluster n : ℕ) (u : Setup) (run : List Played) (x : IsFollowed cluster n u run) where
  abbrev pub end : Group Header
  end = last cluster n u run x

  abbrev pub VouchedFor : ℕ → ℕ → ℕ → Header → Type 0
  VouchedFor r view op h = Vouches u.quorums end.sent r view op h

  abbrev pub CommittedAt : ℕ → ℕ → Header → Type 0
  CommittedAt view op h = Committed u.quorums (entries_by u.hash u.cluster) end.sent view op h

  pub good : (g : History Header) × Invariant u.quorums (entries_by u.hash u.cluster) g end
  good = reached_good u.quorums (entries_by u.hash u.cluster) end (x.reached (length run) (omega arith))

  name_same : (h : Header) → name_by u.hash h ≡ header_name h
  name_same h = ap (λ (f : List ℕ → List ℕ). name_by f h) x.hash_is

  -- what counts before an output is sent at the end
  pub then_later : (t : ℕ) (p : Played) → slice_get run t ≡ Some p → (number : ℕ) (m : Message Header) → In m (by_then u (x.group t) p number) → In m end.sent
  then_later t p is number m h =
      let within = slice_get_within run t p is in
      elim (in_either (x.group t).sent (own_vouches u (stored_until p number)) m h) [
        | inl old ↦ sent_later cluster n u run x (length run) t (omega arith) (omega arith) m old
        | inr own ↦ sent_later cluster n u run x (length run) (suc t) (omega arith) (omega arith) m ((x.carried t p is).vouched m (own_more u (stored_until p number) (stored_of p) (until_all p number) m own))
      ]

  -- what was stored in the run
  stored_told : n ≡ 1 → (z : Stored) → Contains (run_stored run) z → In (vouch_for 0 z) end.sent
  stored_told one z h =
      let y = stored_of_move run z (contains_in z (run_stored run) h) in
      let within = slice_get_within run y.0 y.1 y.2 in
      sent_later cluster n u run x (length run) (suc y.0) (omega arith) (omega arith) (vouch_for 0 z) ((x.carried y.0 y.1 y.2).vouched (vouch_for 0 z) (own_in u (stored_of y.1) z (x.size_is ∙ one) y.3))

  -- who vouches by what was put out and stored vouches in the machine, for a header of that name
  pub vouch_told : (view r : ℕ) (c : Header) → said.Vouches n (evidence run) view r c → (h : Header) × VouchedFor r view c.op h × (header_name h ≡ header_name c)
  vouch_told view r c (said.acknowledged a s of_view of_op name) =
      let i = get_in (run_outputs run) s.at _ s.is in
      let told = sent_of cluster n u run x _ i in
      let from : r ≡ a.replica = from_of cluster n u run x _ i in
      let is = ok_is told.0 a.replica r a.view view a.op c.op (sym from) of_view of_op in
      (told.0, inl (subst (λ (m : Message Header). In m end.sent) is told.2), sym (name_same told.0) ∙ (told.1 ∙ name))
  vouch_told view r c (said.prepared p s leads of_view same) =
      let i = get_in (run_outputs run) s.at _ s.is in
      let told = sent_of cluster n u run x _ i in
      let from : r ≡ p.replica = from_of cluster n u run x _ i in
      let is = prepare_is p.entry.header c p.replica r p.view view p.commit (sym from) of_view same in
      let leads' : r ≡ view % u.quorums.n = leads ∙ ap (λ (m : ℕ). view % m) (sym x.size_is) in
      (c, inr (leads', (p.commit, subst (λ (m : Message Header). In m end.sent) is told)), refl)
  vouch_told view r c (said.alone one first stored) =
      let told = stored_told one (record { view = view; header = c }) stored in
      (c, inl (subst (λ (k : ℕ). In (machine.Prepare_ok k view c.op c) end.sent) (sym first) told), refl)

  -- and that header was written
  pub vouch_written : (r view op : ℕ) (h : Header) → VouchedFor r view op h → WasWritten run h
  vouch_written r view op h v =
      let g = good.0 in
      let y = good.1 in
      let known = vouched_of u.quorums (entries_by u.hash u.cluster) g end y r view op h v in
      let f = (y.history.vouch r view op known.0).0 in
      let made = logged_made u.quorums (entries_by u.hash u.cluster) g end y (suc view) view op (omega arith) f known.1.0 known.1.1 in
      subst (WasWritten run) (sym known.1.2) (written_of cluster n u run x (length run) (omega arith) _ made)

  -- its bytes were hashed
  pub written_hashed : (c h : Header) → WasWritten run h → IsHashed run c (named_bytes h) × IsHeader h
  written_hashed c h w = (
    subst (λ (k : Header). IsHashed run c (named_bytes k)) w.is (wrote w.move (Write w.again w.entry) _ (in_contains w.move run w.of_run) (in_contains _ w.move.moved.script w.of_move) (safe.IsWritten.header w.again w.entry)),
    subst IsHeader w.is w.good.header,
  )

  module _ (c0 : Header) (never : NoCollision (IsHashed run c0)) where
    same_name : (h k : Header) → WasWritten run h → WasWritten run k → header_name h ≡ header_name k → h ≡ k
    same_name h k wh wk e =
        let a = written_hashed c0 h wh in
        let b = written_hashed c0 k wk in
        one_header (IsHashed run c0) never h k a.1 b.1 a.0 b.0 e

    -- what is committed by what was put out and stored
    pub record Told (view : ℕ) (c : Header) : Type 0 where
      pub header : Header
      pub committed : CommittedAt view c.op header
      pub written : 0 < c.op → WasWritten run header × (header_name header ≡ header_name c)

    pub told : (view : ℕ) (c : Header) → IsCommitted cluster n (evidence run) view c → Told view c
    told _ _ said.root = record { header = root_by u.hash u.cluster; committed = at_root; written = λ l. absurd (omega (arith, l)) }
    told _ _ (said.stands_on earlier view d c prior le stands quorum) =
        let before = told earlier d prior in
        let set : ℕ → Bool = λ j. has_replica quorum.voters j in
        let many = quorum.enough in
        let counted = size_count quorum.voters u.quorums.n (λ j t. subst (λ m. j < m) (sym x.size_is) (quorum.each j t).0) in
        let same : replication n ≡ u.quorums.replication = ap replication (sym x.size_is) ∙ x.fits.replication_is in
        let enough : u.quorums.replication ≤ count set u.quorums.n = omega arith in
        let some = u.quorums.not_empty in
        let m = member_of set u.quorums.n (omega arith) in
        let v = vouch_told view m.0 c (quorum.each m.0 m.2).1 in
        let h = v.0 in
        let wh = vouch_written m.0 view c.op h v.1 in
        let op : c.op ≡ suc d.op = stands.op ∙ omega arith in
        let each : (i : ℕ) → i < u.quorums.n → set i ≡ true → VouchedFor i view (suc d.op) h =
        λ i l t.
        let w = vouch_told view i c (quorum.each i t).1 in
        let is : w.0 ≡ h = same_name w.0 h (vouch_written i view c.op w.0 w.1) wh (w.2 ∙ sym v.2) in
        subst (λ (k : ℕ). VouchedFor i view k h) op (subst (VouchedFor i view c.op) is w.1) in
        let done = joins u.quorums (entries_by u.hash u.cluster) good.0 end good.1 view earlier d.op h before.header le before.committed set enough each in
        record { header = h; committed = subst (λ (k : ℕ). CommittedAt view k h) (sym op) done; written = λ l. (wh, v.2) }

    -- the header itself, where its bytes count among those hashed
    pub is_committed : (view : ℕ) (c : Header) → IsHeader c → IsHashed run c0 (named_bytes c) → 0 < c.op → IsCommitted cluster n (evidence run) view c → CommittedAt view c.op c × WasWritten run c
    is_committed view c fits hashed above h =
        let t = told view c h in
        let w = t.written above in
        let a = written_hashed c0 t.header w.0 in
        let same = one_header (IsHashed run c0) never t.header c a.1 fits a.0 hashed w.1 in
        (subst (CommittedAt view c.op) same t.committed, subst (WasWritten run) same w.0)

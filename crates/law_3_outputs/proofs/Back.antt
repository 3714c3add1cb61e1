-- What is committed in the machine before an output is committed by what was put out and stored before it.
use Rattle.std.proofs.Common.{ℕ, zero, suc, ◌%◌, ◌<◌, ◌≡◌, ◌∙◌, ◌⊎◌, inl, inr, arith, refl, sym, ap, subst, true, List, [], ◌++◌, take, Some}
use Rattle.std.specs.Prelude.{Contains, slice_get}
use Rattle.std.proofs.lemmas.Option.{slice_get_within}
use Rattle.std.proofs.lemmas.Slice.Eq.{bytes_eq-Decides}
use Rattle.vr_base.specs.declared.sum.Sum.{Sum}
use Rattle.vr_header.specs.declared.header.Header.{Header}
use Rattle.vr_header.specs.Names.{header_name, name_by, root_by, root_header}
use Rattle.vr_msg.specs.declared.frame.Frame.{Frame}
use Rattle.vr_msg.specs.declared.frame.Frame.TheVariants as frame
use Rattle.vr_msg.specs.declared.output.Output.{Output}
use Rattle.vr_msg.specs.declared.output.Output.TheVariants as output
use Rattle.vr_msg.specs.declared.output.Sent.{Sent}
use Rattle.vr_msg.specs.Normal.{same_sum}
use Rattle.vr_rules.specs.Replica.{replication}
use Rattle.vr_world.specs.Group as group
use Rattle.vr_world.specs.Group.{Played, fresh_group}
use Rattle.law_2_chains.specs.Lone.{vouch_for}
use Rattle.vr_rules.specs.Steps.{Effect}
use Rattle.vr_world.specs.Storing.{done_in, run_stored, stored_from, stored_of, until_said}
use Rattle.law_2_chains.proofs.Finishing.{committed_more, said_more}
use Rattle.vr_rules.proofs.Taking.{log_reaches}
use Rattle.law_1_machine.specs.Basics.{In}
use Rattle.law_1_machine.specs.Group.{Vouches}
use Rattle.law_1_machine.specs.Laws.{Committed, at_root, stands_on}
use Rattle.law_1_machine.specs.Members as machine
use Rattle.law_1_machine.specs.Members.{Message}
use Rattle.law_2_chains.specs.Chains.{Setup}
use Rattle.law_2_chains.specs.Finished.{IsSaid}
use Rattle.law_2_chains.specs.Reflecting.{entries_by}
use Rattle.vr_world.specs.Commitment as said
use Rattle.vr_world.specs.Commitment.{Evidence, HasSent, IsCommitted, Stored}
use Rattle.vr_world.specs.Safe.{before, run_outputs}
use Rattle.law_3_outputs.specs.Followed.{IsFollowed, IsFrom, by_then, own_vouches, stored_until}
use Rattle.law_2_chains.proofs.StoredLists.{in_contains}
use Rattle.law_3_outputs.proofs.Sets.{in_get, in_left, in_right, set_of}
use Rattle.law_3_outputs.proofs.Stored.{OwnVouch, next_before, own_more, own_of, stored_front, stored_next}
use Rattle.law_3_outputs.proofs.Traces.{from_of, in_either, last, outputs_front, outputs_next, vouch_said}
use Rattle.law_3_outputs.proofs.Forth.{good, then_later}
use Rattle.law_3_outputs.proofs.Machine.{number_is}

same_sum_is : (a b : Sum) → same_sum a b ≡ true → a ≡ b
same_sum_is a b h = let bytes = (bytes_eq-Decides a.0 b.0).0 h in λ i. record { 0 = bytes i }

sent_is : (s : Sent) (r : ℕ) (m : Frame) → s.from ≡ r → s.message ≡ m → s ≡ record { from = r; to = s.to; message = m }
sent_is s r m e f = λ i. record { from = e i; to = s.to; message = f i }

stored_is : (z : Stored) (view : ℕ) (c : Header) → z.view ≡ view → z.header ≡ c → z ≡ record { view = view; header = c }
stored_is z view c e f = λ i. record { view = e i; header = f i }

module _ (cluster n : ℕ) (u : Setup) (run : List Played) (x : IsFollowed cluster n u run) where
  -- what was sent before a move was put out, or is a vouch for what had been stored when it began
  came : (t : ℕ) (p : Played) → slice_get run t ≡ Some p → (m : Message Header) → In m (x.group t).sent → IsSaid u (run_outputs (take t run)) m ⊎ In m (own_vouches u (run_stored (take t run) ++ stored_from p.before []))
  came zero p is m h = absurd (subst (In m) x.none_sent h)
  came (suc t) p is m h =
      let within = slice_get_within run (suc t) p is in
      let y = log_reaches run t (omega arith) in
      let q = y.0 in
      let outs = outputs_next run t q y.1 in
      let stored = stored_next run t q y.1 in
      let old : List Output = run_outputs (take t run) in
      let had : List Stored = run_stored (take t run) in
      let starts : p.before ≡ q.moved.group = sym (next_before (fresh_group x.fit.kinds cluster n) run x.fit.of_run t q p y.1 is) in
      rw (outs, stored) (elim ((x.carried t q y.1).only m h) [
        | inl before ↦ elim (came t q y.1 m before) [
          | inl said ↦ inl (said_more u old (old ++ q.moved.outputs) (λ o i. in_left old q.moved.outputs o i) m said)
          | inr own ↦ inr (own_more u (had ++ stored_from q.before []) ((had ++ stored_of q) ++ stored_from p.before []) (λ z i. in_left (had ++ stored_of q) (stored_from p.before []) z
              (elim (in_either had (stored_from q.before []) z i) [
                | inl a ↦ in_left had (stored_of q) z a
                | inr b ↦ in_right had (stored_of q) z (stored_front q.before [] (done_in q.move q.moved.script) z b)
              ])) m own)
        ]
        | inr new ↦ elim new [
          | inl said ↦ inl (said_more u q.moved.outputs (old ++ q.moved.outputs) (λ o i. in_right old q.moved.outputs o i) m said)
          | inr own ↦ inr (own_more u (stored_of q ++ stored_from q.moved.group []) ((had ++ stored_of q) ++ stored_from p.before []) (λ z i. elim (in_either (stored_of q) (stored_from q.moved.group []) z i) [
            | inl a ↦ in_left (had ++ stored_of q) (stored_from p.before []) z (in_right had (stored_of q) z a)
            | inr b ↦ in_right (had ++ stored_of q) (stored_from p.before []) z (subst (λ (g : group.Group). In z (stored_from g [])) (sym starts) b)
          ]) m own)
        ]
      ])

  -- ---- before an output

  module _ (t : ℕ) (p : Played) (at : slice_get run t ≡ Some p) (number : ℕ) where
    abbrev by : Evidence
    by = before run t number p

    abbrev outs : List Output
    outs = run_outputs (take t run)

    -- what counts before it was put out, or is a vouch for what had been stored by then
    came_then : (m : Message Header) → In m (by_then u (x.group t) p number) → IsSaid u outs m ⊎ In m (own_vouches u by.stored)
    came_then m h =
        let had : List Stored = run_stored (take t run) in
        let es : List Effect = until_said number (done_in p.move p.moved.script) in
        elim (in_either (x.group t).sent (own_vouches u (stored_until p number)) m h) [
          | inl old ↦ elim (came t p at m old) [
            | inl said ↦ inl said
            | inr own ↦ inr (own_more u (had ++ stored_from p.before []) by.stored (λ z i. elim (in_either had (stored_from p.before []) z i) [
              | inl a ↦ in_left had (stored_until p number) z a
              | inr b ↦ in_right had (stored_until p number) z (stored_front p.before [] es z b)
            ]) m own)
          ]
          | inr own ↦ inr (own_more u (stored_until p number) by.stored (λ z i. in_right had (stored_until p number) z i) m own)
        ]

    has_sent : (s : Sent) (r : ℕ) (m : Frame) → In (output.Send s) outs → s.from ≡ r → s.message ≡ m → HasSent by.outputs r m
    has_sent s r m i e f =
        let y = in_get by.outputs (output.Send s) (in_left outs (take number p.moved.outputs) (output.Send s) i) in
        record { at = y.0; to = s.to; is = subst (λ (w : Sent). slice_get by.outputs y.0 ≡ Some (output.Send w)) (sent_is s r m e f) y.1 }

    -- a vouch for what had been stored
    alone_back : (view k r : ℕ) (c : Header) → OwnVouch u by.stored (machine.Prepare_ok r view k c) → said.Vouches n by view r c
    alone_back view k r c y =
        let from : r ≡ 0 = (let e : machine.Prepare_ok r view k c ≡ vouch_for 0 y.of = y.is in cc) in
        let of_view : y.of.view ≡ view = (let e : machine.Prepare_ok r view k c ≡ vouch_for 0 y.of = y.is in cc) in
        let of_header : y.of.header ≡ c = (let e : machine.Prepare_ok r view k c ≡ vouch_for 0 y.of = y.is in cc) in
        said.alone (sym x.size_is ∙ y.alone) from (subst (Contains by.stored) (stored_is y.of view c of_view of_header) (in_contains y.of by.stored y.among))

    not_prepared : (view k r commit : ℕ) (c : Header) → OwnVouch u by.stored (machine.Prepare r view k c commit) → ⊥
    not_prepared view k r commit c y = let e : machine.Prepare r view k c commit ≡ vouch_for 0 y.of = y.is in absurd cc

    vouch_back : (view k r : ℕ) (c : Header) → c.op ≡ k → Vouches u.quorums (by_then u (x.group t) p number) r view k c → said.Vouches n by view r c
    vouch_back view k r c op (inl i) =
        let m = machine.Prepare_ok r view k c in
        elim (came_then m i) [
          | inl put_out ↦
              let y = vouch_said u outs m put_out in
              let s = y.0 in
              let a = y.1 in
              let from : s.from ≡ a.replica = subst (IsFrom s.from) y.3 (from_of cluster n u run x s (outputs_front run t (output.Send s) y.2)) in
              said.acknowledged a (has_sent s r (frame.PrepareOk a) y.2 (from ∙ sym y.5) y.3) y.6 (y.7 ∙ sym op) (sym y.4 ∙ ap (λ (f : List ℕ → List ℕ). name_by f c) x.hash_is)
          | inr own ↦ alone_back view k r c (own_of u by.stored m own)
        ]
    vouch_back view k r c op (inr p) =
        let m = machine.Prepare r view k c p.1.0 in
        elim (came_then m p.1.1) [
          | inl put_out ↦
              let y = vouch_said u outs m put_out in
              let s = y.0 in
              let a = y.1 in
              let from : s.from ≡ a.replica = subst (IsFrom s.from) y.3 (from_of cluster n u run x s (outputs_front run t (output.Send s) y.2)) in
              said.prepared a (has_sent s r (frame.Prepare a) y.2 (from ∙ sym y.4) y.3) (p.0 ∙ ap (λ (m : ℕ). view % m) x.size_is) y.5 y.6
          | inr own ↦ absurd (not_prepared view k r p.1.0 c (own_of u by.stored m own))
        ]

    abbrev CommittedThen : ℕ → ℕ → Header → Type 0
    CommittedThen view k c = Committed u.quorums (entries_by u.hash u.cluster) (by_then u (x.group t) p number) view k c

    numbered : (view k : ℕ) (c : Header) → CommittedThen view k c → c.op ≡ k
    numbered view k c h =
        let q = u.quorums in
        let hs = entries_by u.hash u.cluster in
        let y = good cluster n u run x in
        number_is q hs y.0 (last cluster n u run x) y.1 view k c (committed_more q hs (by_then u (x.group t) p number) (last cluster n u run x).sent (then_later cluster n u run x t p at number) view k c h)

    pub back : (view k : ℕ) (c : Header) → CommittedThen view k c → IsCommitted cluster n by view c
    back _ _ _ at_root =
        let e : root_header cluster ≡ root_by u.hash u.cluster = rw (x.hash_is, x.cluster_is) refl in
        subst (IsCommitted cluster n by 0) e said.root
    back _ _ _ (stands_on w v k c d le prior f set enough each) =
        let op = numbered w (suc k) c (stands_on w v k c d le prior f set enough each) in
        let op' = numbered v k d prior in
        let parent : c.parent ≡ header_name d = same_sum_is c.parent (name_by u.hash d) f ∙ ap (λ (f : List ℕ → List ℕ). name_by f d) x.hash_is in
        let y = set_of set u.quorums.n in
        let many = y.many in
        let same : replication n ≡ u.quorums.replication = ap replication (sym x.size_is) ∙ x.fits.replication_is in
        said.stands_on v w d c (back v k d prior) le (record { op = omega arith; parent = parent })
        (record {
          voters = y.replicas;
          enough = omega arith;
          each = λ r h. let z = y.each r h in (subst (λ m. r < m) x.size_is z.0, vouch_back w (suc k) r c op (each r z.0 z.1));
        })

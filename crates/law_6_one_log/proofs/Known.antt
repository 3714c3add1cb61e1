-- What a running member knows up to its commit number is the one log's.
use Rattle.std.proofs.Common.{ℕ, suc, ◌≤◌, ◌<◌, ◌≡◌, ◌∙◌, inl, inr, arith, refl, sym, ap, subst, List, length, Some}
use Rattle.std.proofs.lemmas.Option.{slice_get_within}
use Rattle.vr_header.specs.declared.header.Header.{Header}
use Rattle.vr_header.specs.Bodies.{operation_bytes}
use Rattle.vr_world.specs.Group as group
use Rattle.vr_world.specs.Group.{Member, Played, Runs}
use Rattle.vr_rules.specs.Replica.{Replica, header_at, part_at}
use Rattle.law_1_machine.specs.Group.{Group}
use Rattle.law_1_machine.specs.Laws.{Backed}
use Rattle.law_1_machine.specs.Parts.{header}
use Rattle.law_1_machine.proofs.Laws.{agreement}
use Rattle.law_1_machine.proofs.Moves.{reached_good}
use Rattle.law_2_chains.specs.Chains.{Setup}
use Rattle.law_2_chains.specs.Reflecting.{entries_by}
use Rattle.law_2_chains.proofs.Writing.{told_header}
use Rattle.law_2_chains.specs.Bridge.{Bridges}
use Rattle.law_3_outputs.specs.Followed.{IsFitRun, IsFollowed}
use Rattle.law_3_outputs.specs.Replied.{HasEntry}
use Rattle.law_3_outputs.proofs.Backed.{at_end, one_whole}
use Rattle.law_3_outputs.proofs.Fitting.{good_whole}
use Rattle.law_3_outputs.proofs.Log.{is_log, the_log}
use Rattle.law_3_outputs.proofs.Replies.{have_after, have_at}
use Rattle.law_3_outputs.proofs.Truth.{safe_of_log}
use Rattle.law_6_one_log.proofs.Following.{follows_it}
use Rattle.law_6_one_log.proofs.Replying.{runs_reply}
use Rattle.law_6_one_log.specs.Laws.{HasOneLog, HaveFolds, IsHashedOr, IsOfLog}

-- the machine has committed it
known_backed : (u : Setup) (g : group.Group) (s : Group Header) → Bridges u g s → (at : ℕ) (m : Member) (r : Replica) → Runs g at m r → (k : ℕ) (h : Header) → k ≤ r.commit → header_at r k ≡ Some h
    → (v : ℕ) × Backed u.quorums (entries_by u.hash u.cluster) s.sent v k h
known_backed u g s bridge at m r runs k h within is =
    let x = (bridge.members at m runs.member).running r runs.running in
    let q = u.quorums in
    let hs = entries_by u.hash u.cluster in
    let good = reached_good q hs s bridge.reached in
    let a = agreement q hs good.0 s good.1 in
    let commit = x.reflects.commit in
    (x.memory.log_view, a.known at x.memory k h x.running (omega arith) (ap header (x.reflects.parts k) ∙ (told_header (part_at r k) ∙ is)))

module _ (cluster n : ℕ) (u : Setup) (run : List Played) (x : IsFollowed cluster n u run) (t : ℕ) (within : t ≤ length run) (g : group.Group) (bridge : Bridges u g (x.group t)) (at : ℕ) (m : Member) (r : Replica) (runs : Runs g at m r) where
  entry_of : (k : ℕ) (h : Header) → 0 < k → k ≤ r.commit → header_at r k ≡ Some h → HasEntry cluster run (the_log cluster n u run x) k h
  entry_of k h above low is =
      let b = (known_backed u g (x.group t) bridge at m r runs k h low is).1 in
      is_log cluster n u run x b.0 k h above (at_end cluster n u run x t within b.0 k h b.2)

  of_log : IsOfLog cluster run (the_log cluster n u run x) r
  of_log = record {
    known = λ k h above low is. let e = entry_of k h above low is in (e.entry, e.at, e.is);
    read = λ w whole above low is never.
        let e = entry_of w.header.op w.header above low is in
        let same : e.entry ≡ w = one_whole (IsHashedOr cluster run (operation_bytes w.operation)) never e.entry w e.is e.good (good_whole w whole) (inl e.hashed) (inr refl) in
        e.at ∙ ap Some same;
  }

-- with the log that is told of it
pub one_log_is : (cluster n : ℕ) (run : List Played) (fit : IsFitRun cluster n run) → (o : HasOneLog cluster n run) × (o.safe.log ≡ the_log cluster n (follows_it cluster n run fit).setup run (follows_it cluster n run fit).followed)
one_log_is cluster n run fit =
    let x = follows_it cluster n run fit in
    let y = x.followed in
    let z = runs_reply cluster n x.setup run y x.bridges in
    let s = safe_of_log cluster n x.setup run y z in (
      record {
        safe = s.0;
        before = λ t p is at m r runs.
            let l = slice_get_within run t p is in
            subst (λ log. IsOfLog cluster run log r) (sym s.1) (of_log cluster n x.setup run y t (omega arith) p.before (x.bridges t p is) at m r runs);
        after = λ t p is at m r runs.
            let l = slice_get_within run t p is in
            subst (λ log. IsOfLog cluster run log r) (sym s.1) (of_log cluster n x.setup run y (suc t) (omega arith) p.moved.group (x.after t p is) at m r runs);
        folds = λ never t p is.
            (subst (λ log. HaveFolds log p.before) (sym s.1) (have_at cluster n x.setup run y z never t p is), subst (λ log. HaveFolds log p.moved.group) (sym s.1) (have_after cluster n x.setup run y z never t p is));
      },
      s.1,
    )

pub one_log : (cluster n : ℕ) (run : List Played) → IsFitRun cluster n run → HasOneLog cluster n run
one_log cluster n run fit = (one_log_is cluster n run fit).0

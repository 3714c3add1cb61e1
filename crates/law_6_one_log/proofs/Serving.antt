-- What a running member has applied is committed by what was sent, before a step and after it; and a reply names its replica and its view.
use Rattle.std.proofs.Common.{ℕ, ◌≡◌, ◌∙◌, sym, subst, arith, List, Some}
use Rattle.std.specs.Prelude.{⊤, slice_get}
use Rattle.std.proofs.lemmas.List.Elements.{All-contains}
use Rattle.vr_header.specs.declared.header.Header.{Header}
use Rattle.vr_msg.specs.declared.event.Event.{Event}
use Rattle.vr_msg.specs.declared.output.Output.TheVariants as output
use Rattle.vr_rules.specs.Replica.{Replica}
use Rattle.vr_world.specs.Lying.{Lying, lying}
use Rattle.vr_rules.specs.Laws.{Answers, IsPlaced, IsPresentOutput}
use Rattle.vr_rules.specs.Steps.{outputs}
use Rattle.vr_world.specs.Group as group
use Rattle.vr_world.specs.Group.{Arrival, IsArrival, Member, Move, Moved, Moves, Played, Runs, Steps, fresh_group, stepped}
use Rattle.vr_world.specs.GroupFit.{IsFitArrival, IsFitGroup, IsFitMove}
use Rattle.law_1_machine.specs.Group.{Group}
use Rattle.law_1_machine.specs.Laws.{Backed}
use Rattle.law_2_chains.specs.Chains.{Setup}
use Rattle.law_2_chains.specs.Reflecting.{entries_by}
use Rattle.law_2_chains.specs.Tables.{Fits}
use Rattle.law_2_chains.proofs.Finishing.{counted}
use Rattle.law_2_chains.specs.Bridge.{Bridges}
use Rattle.law_2_chains.proofs.Bridging.{local, mid_of}
use Rattle.law_3_outputs.specs.Followed.{IsFollowed}
use Rattle.law_3_outputs.specs.Replied.{IsServed, IsStepped}
use Rattle.law_3_outputs.proofs.Fitting.{arrives, fit_at, move_of}
use Rattle.vr_world.proofs.FitLies.{lies_fit}
use Rattle.law_3_outputs.proofs.Placing.{placed_at, step_present}
use Rattle.vr_rules.proofs.Reacting.{steps_stay_sound}
use Rattle.vr_rules.proofs.Rising.{steps_rise}
use Rattle.law_2_chains.proofs.StoredLists.{in_contains}

module _ (u : Setup) (fits : Fits u) (hash : u.hash ≡ lying.hash) (g : group.Group) (s : Group Header) (fit : IsFitGroup u.cluster g) (bridge : Bridges u g s) where
  served_now : (at : ℕ) (m : Member) (r : Replica) → Runs g at m r → IsServed u s.sent r
  served_now at m r runs =
      let x = mid_of u fits hash g s fit bridge at m r runs.member runs.running in
      let f = x.reflects in
      let order = x.sound.order in
      record {
        applied = order.commit;
        views = order.views;
        backed = λ k z a. subst (λ v. (h : Header) × Backed u.quorums (entries_by u.hash u.cluster) s.sent v k h) f.log_view (counted u s at r (local m) s x k z (let c = f.commit in omega arith));
      }

  stepped_now : (at : ℕ) (a : Arrival) (e : Event) (d : Lying) (m : Member) (r : Replica) → Runs g at m r → IsFitArrival a → IsArrival g at a e → IsPlaced r
      → IsStepped r (stepped e r d).replica (outputs (stepped e r d).script)
  stepped_now at a e d m r runs h i placed =
      let own = ((fit.members at m runs.member).running r runs.running).0.sound in
      let event = arrives u.cluster g at a e fit h i in
      let order = (steps_stay_sound lying d r e lies_fit.names own event).order in
      let p = step_present r e d placed in
      record {
        applied = order.commit;
        views = order.views;
        rises = (steps_rise lying d r e own event).log_view;
        present = λ reply j.
            let q = All-contains (IsPresentOutput (Answers e) r (stepped e r d).replica) (outputs (stepped e r d).script) (output.Reply reply) p.each (in_contains (output.Reply reply) (outputs (stepped e r d).script) j) in
            (q.0.replica ∙ p.index, q.1);
      }

-- ---- in a run

-- what reaches the member of a step
abbrev Arrives : group.Group → Move → Type 0
Arrives g (Steps at a e d) = IsArrival g at a e
Arrives g _ = ⊤

moves_arrive : (g : group.Group) (move : Move) (moved : Moved) → Moves g move moved → Arrives g move
moves_arrive g _ _ (group.steps at a e d m r runs i) = i
moves_arrive g _ _ (group.cuts at a e d k m r runs i) = tt
moves_arrive g _ _ (group.crashes at m there) = tt
moves_arrive g _ _ (group.recovers at v d m o) = tt
moves_arrive g _ _ (group.recovers_cut at v d k m o) = tt
moves_arrive g _ _ (group.migrates at v m o) = tt
moves_arrive g _ _ (group.migrates_cut at v k m o) = tt

module _ (cluster n : ℕ) (u : Setup) (run : List Played) (x : IsFollowed cluster n u run) (bridges : (t : ℕ) (p : Played) → slice_get run t ≡ Some p → Bridges u p.before (x.group t)) where
  mine : (t : ℕ) (p : Played) → slice_get run t ≡ Some p → IsFitGroup u.cluster p.before
  mine t p is = subst (λ c. IsFitGroup c p.before) (sym x.cluster_is) (fit_at cluster n run x.fit t p is).0.0

  pub run_serves : (t at : ℕ) (p : Played) (m : Member) (r : Replica) → slice_get run t ≡ Some p → Runs p.before at m r → IsServed u (x.group t).sent r
  run_serves t at p m r is runs = served_now u x.fits x.hash_is p.before (x.group t) (mine t p is) (bridges t p is) at m r runs

  pub run_steps : (t at : ℕ) (arrival : Arrival) (p : Played) (e : Event) (d : Lying) (m : Member) (r : Replica) → slice_get run t ≡ Some p → p.move ≡ Steps at arrival e d → Runs p.before at m r
      → IsStepped r (stepped e r d).replica (outputs (stepped e r d).script)
  run_steps t at arrival p e d m r is step runs =
      let moves = move_of (fresh_group x.fit.kinds cluster n) run x.fit.of_run t p is in
      let i : IsArrival p.before at arrival e = subst (Arrives p.before) step (moves_arrive p.before p.move p.moved moves) in
      let h = subst IsFitMove step (fit_at cluster n run x.fit t p is).1 in
      stepped_now u x.fits x.hash_is p.before (x.group t) (mine t p is) (bridges t p is) at arrival e d m r runs h.0 i (placed_at cluster n run x.fit t p is at m r runs)

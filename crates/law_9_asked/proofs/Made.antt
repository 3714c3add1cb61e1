-- What a run has made: what its machine made, what is written in it, and that nobody in it sends a request.
use Rattle.std.proofs.Common.{ℕ, suc, ◌≤◌, ◌<◌, ◌≡◌, inl, inr, arith, refl, sym, ap, subst, Bool, true, List, ◌++◌}
use Rattle.vr_header.specs.Made.{Whole}
use Rattle.vr_header.specs.declared.header.Header.{Header}
use Rattle.vr_super.specs.Copies.{SuperValue}
use Rattle.vr_msg.specs.declared.frame.Frame.{Frame}
use Rattle.vr_msg.specs.declared.frame.Frame.TheVariants as frame
use Rattle.vr_msg.specs.declared.output.Output.TheVariants as output
use Rattle.vr_msg.specs.declared.output.Sent.{Sent}
use Rattle.vr_msg.specs.declared.request.RequestFields.{RequestFields}
use Rattle.vr_rules.specs.declared.asker.Asker.{Asker}
use Rattle.vr_world.specs.Group as group
use Rattle.vr_world.specs.Group.{Member, Move, Moved, Moves, Played, Run, Runs, made_by_effect, made_in, opening_script, stepped}
use Rattle.vr_world.specs.Lying.{Lying, lying}
use Rattle.vr_rules.specs.Opening.{blank}
use Rattle.vr_rules.specs.Outputs.{messages}
use Rattle.vr_rules.specs.Steps.{Effect, Step, Write}
use Rattle.vr_world.proofs.InTwo.{opening_in_two}
use Rattle.law_1_machine.specs.Basics.{In}
use Rattle.law_1_machine.specs.Group.{Group, made_at}
use Rattle.law_1_machine.specs.History.{History}
use Rattle.law_1_machine.specs.Invariant.{Invariant}
use Rattle.law_1_machine.specs.Members as machine
use Rattle.law_2_chains.proofs.Making.{logged_made}
use Rattle.law_2_chains.specs.Chains.{Setup, WasMade}
use Rattle.law_2_chains.specs.Reflecting.{entries_by}
use Rattle.law_3_outputs.proofs.Sets.{in_left, in_right}
use Rattle.law_3_outputs.proofs.Traces.{in_either}
use Rattle.law_4_disks.specs.Worlds.{left}
use Rattle.law_9_asked.proofs.Scripts.{made_of_write, said_in, sent_in}
use Rattle.law_9_asked.proofs.Tracing.{IsNoRequest, Traced}
use Rattle.law_9_asked.proofs.Reacting.{steps_traced, tr_opening}

-- ---- what the machine has made

module _ (u : Setup) (s : Group Header) (g : History Header) (y : Invariant u.quorums (entries_by u.hash u.cluster) g s) where
  pub log_made : (v k : ℕ) (h : Header) → g.finished v ≡ true → 0 < k → k ≤ g.length v → h ≡ g.log v k → WasMade s.made h
  log_made v k h begun above within is =
      let made = logged_made u.quorums (entries_by u.hash u.cluster) g s y (suc v) v k (omega arith) begun above within in
      let number : (g.log v k).op ≡ k = y.history.number v k begun within in
      let at : WasMade s.made (g.log v k) = subst (λ (j : ℕ). In (made_at (g.log v k).view j (g.log v k)) s.made) (sym number) made in
      subst (WasMade s.made) (sym is) at

  -- an entry of which a prepare was sent
  pub prepare_made : (from v k : ℕ) (h : Header) (c : ℕ) → In (machine.Prepare from v k h c) s.sent → WasMade s.made h
  prepare_made from v k h c i =
      let f = (y.facts (machine.Prepare from v k h c) i).1 in
      log_made v k h f.2 f.0.0 f.0.1 f.0.2

-- ---- nobody sends a request

abbrev pub IsFree : List Sent → Type 0
IsFree sent = (s : Sent) → In s sent → IsNoRequest s.message

pub no_frame : (q : RequestFields) (m : Frame) → frame.Request q ≡ m → IsNoRequest m → ⊥
no_frame q m e h = subst IsNoRequest (sym e) h

-- nor does an opening, which writes no entry either, and replies to nobody
pub opening_traced : (v : SuperValue) (d : Lying) → Traced (λ (w : Whole). ⊥) (λ (b : Asker). ⊥) (opening_script v d)
opening_traced v d = subst (λ (x : Step). Traced (λ (w : Whole). ⊥) (λ (b : Asker). ⊥) x.script) (opening_in_two v d) ((tr_opening {W = λ (w : Whole). ⊥} {Q = λ (b : Asker). ⊥} v).every lying (blank v) d)

move_free : (g : group.Group) (move : Move) (moved : Moved) → Moves g move moved → (s : Sent) → In (output.Send s) moved.outputs → IsNoRequest s.message
move_free g _ _ (group.steps at arrival e d m r runs i) s within = (steps_traced lying r d e).sends s (said_in (stepped e r d).script (output.Send s) within)
move_free g _ _ (group.cuts at arrival e d effects m r runs i) s within = absurd within
move_free g _ _ (group.crashes at m there) s within = absurd within
move_free g _ _ (group.recovers at v d m o) s within = (opening_traced v d).sends s (said_in (opening_script v d) (output.Send s) within)
move_free g _ _ (group.recovers_cut at v d effects m o) s within = absurd within
move_free g _ _ (group.migrates at v m may) s within = absurd within
move_free g _ _ (group.migrates_cut at v effects m may) s within = absurd within

move_sends : (g : group.Group) (move : Move) (moved : Moved) → Moves g move moved → moved.group.sent ≡ g.sent ++ messages moved.outputs
move_sends g _ _ (group.steps at arrival e d m r runs i) = refl
move_sends g _ _ (group.cuts at arrival e d effects m r runs i) = refl
move_sends g _ _ (group.crashes at m there) = refl
move_sends g _ _ (group.recovers at v d m o) = refl
move_sends g _ _ (group.recovers_cut at v d effects m o) = refl
move_sends g _ _ (group.migrates at v m may) = refl
move_sends g _ _ (group.migrates_cut at v effects m may) = refl

pub free_run : (g : group.Group) (ps : List Played) → Run g ps → IsFree g.sent → IsFree (left g ps).sent
free_run g _ (group.ended h) free = free
free_run g _ (group.goes h move moved later m rest) free =
    free_run moved.group later rest (λ s i.
    elim (in_either g.sent (messages moved.outputs) s (subst (λ (x : List Sent). In s x) (move_sends g move moved m) i)) [
      | inl old ↦ free s old
      | inr now ↦ move_free g move moved m s (sent_in moved.outputs s now)
    ])

-- what is written in a run was made
move_makes : (g : group.Group) (move : Move) (moved : Moved) → Moves g move moved → moved.group.made ≡ g.made ++ made_in moved.script
move_makes g _ _ (group.steps at arrival e d m r runs i) = refl
move_makes g _ _ (group.cuts at arrival e d effects m r runs i) = refl
move_makes g _ _ (group.crashes at m there) = refl
move_makes g _ _ (group.recovers at v d m o) = refl
move_makes g _ _ (group.recovers_cut at v d effects m o) = refl
move_makes g _ _ (group.migrates at v m may) = refl
move_makes g _ _ (group.migrates_cut at v effects m may) = refl

made_later : (g : group.Group) (ps : List Played) → Run g ps → (h : Header) → In h g.made → In h (left g ps).made
made_later g _ (group.ended x) h i = i
made_later g _ (group.goes x move moved later m rest) h i = made_later moved.group later rest h (subst (λ (x : List Header). In h x) (sym (move_makes g move moved m)) (in_left g.made (made_in moved.script) h i))

pub run_makes : (g : group.Group) (ps : List Played) → Run g ps → (p : Played) → In p ps → (again : Bool) (v : Whole) → In (Write again v) p.moved.script → In v.header (left g ps).made
run_makes g _ (group.ended x) p i again v within = absurd i
run_makes g _ (group.goes x move moved later m rest) p (inl same) again v within =
    let script : p.moved.script ≡ moved.script = ap (λ (q : Played). q.moved.script) same in
    let now : In v.header (made_in moved.script) = made_of_write moved.script again v (subst (λ (es : List Effect). In (Write again v) es) script within) in
    made_later moved.group later rest v.header (subst (λ (x : List Header). In v.header x) (sym (move_makes g move moved m)) (in_right g.made (made_in moved.script) v.header now))
run_makes g _ (group.goes x move moved later m rest) p (inr i) again v within = run_makes moved.group later rest p i again v within

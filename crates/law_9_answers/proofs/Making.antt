-- Every entry of which a commit line is put out in a run was made of a request: it has that request's name.
use Rattle.std.proofs.Common.{ℕ, zero, suc, ◌+◌, ◌≤◌, ◌≡◌, ◌∙◌, inl, inr, arith, refl, ap, subst, List, length, Some}
use Rattle.std.specs.Prelude.{Bool, slice_get}
use Rattle.vr_base.specs.Bytes.{name_of}
use Rattle.vr_header.specs.Made.{Whole}
use Rattle.vr_header.specs.Names.{header_name}
use Rattle.vr_header.specs.Spelling.{IsHeader}
use Rattle.vr_header.specs.declared.header.Header.{Header}
use Rattle.vr_super.specs.Copies.{SuperValue}
use Rattle.vr_msg.specs.declared.event.Event.{Event}
use Rattle.vr_msg.specs.declared.event.Event.TheVariants as event
use Rattle.vr_msg.specs.declared.frame.Frame.TheVariants as frame
use Rattle.vr_msg.specs.declared.frame.Prepare.{Prepare}
use Rattle.vr_msg.specs.declared.output.Committed.{Committed}
use Rattle.vr_msg.specs.declared.output.Output.TheVariants as output
use Rattle.vr_msg.specs.declared.output.Sent.{Sent}
use Rattle.vr_msg.specs.declared.request.RequestFields.{RequestFields}
use Rattle.vr_world.specs.Group as group
use Rattle.vr_world.specs.Group.{Arrival, Asked, IsArrival, Member, Message, Move, Moved, Moves, Played, Runs, Time, fresh_group, made_by_effect, made_in, migration, opening_script, stepped}
use Rattle.vr_world.specs.Lying.{Lying, lying}
use Rattle.vr_rules.specs.Replica.{Replica, header_at, part_at}
use Rattle.vr_rules.specs.Rules.{next_entry}
use Rattle.vr_world.specs.Safe.{run_outputs}
use Rattle.vr_rules.specs.Steps.{Write}
use Rattle.law_1_machine.specs.Basics.{In}
use Rattle.law_1_machine.specs.Group.{Group, Made, made_at}
use Rattle.law_1_machine.specs.History.{History}
use Rattle.law_1_machine.specs.Invariant.{Invariant}
use Rattle.law_1_machine.specs.Machine.{is_known}
use Rattle.law_1_machine.specs.Parts.{header}
use Rattle.law_1_machine.proofs.Moves.{reached_good}
use Rattle.law_2_chains.proofs.Making.{written_made}
use Rattle.vr_rules.proofs.Taking.{log_reaches}
use Rattle.law_2_chains.proofs.Writing.{told_header}
use Rattle.law_2_chains.specs.Bridge.{Bridges, IsSent}
use Rattle.law_2_chains.specs.Chains.{Setup, WasMade, WasSent}
use Rattle.law_3_outputs.specs.Followed.{IsFitRun, IsFollowed}
use Rattle.law_2_chains.specs.Reflecting.{entries_by}
use Rattle.law_3_outputs.specs.Written.{IsWellRead}
use Rattle.law_3_outputs.proofs.Backed.{then_end}
use Rattle.law_3_outputs.proofs.Fitting.{at_place, move_of}
use Rattle.law_3_outputs.proofs.Machine.{committed_begun, logged}
use Rattle.law_3_outputs.proofs.Reading.{runs_read}
use Rattle.law_3_outputs.proofs.Traces.{output_of_move, said_of}
use Rattle.law_6_one_log.proofs.Following.{follows_it}
use Rattle.law_9_asked.specs.Asked.{asked_by}
use Rattle.law_9_asked.proofs.Made.{log_made, opening_traced, prepare_made}
use Rattle.law_9_asked.proofs.Reacting.{IsBrought, steps_traced}
use Rattle.law_9_asked.proofs.Reacting as brought
use Rattle.law_9_asked.proofs.Scripts.{in_take, written_in}

-- it has the name of the request that it was made of
abbrev pub IsOfRequest : Header → Type 0
IsOfRequest h = h.request_name ≡ header_name (asked_by h)

next_asked : (q : RequestFields) (r : Replica) → IsOfRequest (next_entry name_of q r).header
unfolding next_entry
next_asked q r = refl

abbrev AllAsked : Group Header → Type 0
AllAsked s = (x : Made Header) → In x s.made → IsOfRequest x.entry

made_asked : (s : Group Header) → AllAsked s → (h : Header) → WasMade s.made h → IsOfRequest h
made_asked s all h i = all (made_at h.view h.op h) i

-- ---- what a step writes

module _ (u : Setup) (g : group.Group) (s : Group Header) (b : Bridges u g s) (all : AllAsked s) where
  good : (h : History Header) × Invariant u.quorums (entries_by u.hash u.cluster) h s
  good = reached_good u.quorums (entries_by u.hash u.cluster) s b.reached

  -- a prepare that reaches a member was sent
  sent_asked : (p : Prepare) (w : Sent) → IsSent u s w → w.message ≡ frame.Prepare p → IsOfRequest p.entry.header
  sent_asked p w sent is =
      let so : WasSent u s.sent (frame.Prepare p) = subst (WasSent u s.sent) is sent in
      made_asked s all p.entry.header (prepare_made u s good.0 good.1 p.replica p.view p.entry.header.op p.entry.header p.commit so)

  prepared_asked : (at : ℕ) (arrival : Arrival) (p : Prepare) → IsArrival g at arrival (event.Deliver (frame.Prepare p)) → IsOfRequest p.entry.header
  prepared_asked at (Asked q) p i = absurd (let e : event.Deliver (frame.Prepare p) ≡ event.Request q = i.1 in cc)
  prepared_asked at (Message number) p i =
      let e : event.Deliver (frame.Prepare p) ≡ event.Deliver i.0.message = i.3 in
      let is : i.0.message ≡ frame.Prepare p = cc in
      sent_asked p i.0 (at_place (IsSent u s) g.sent number i.0 b.sent i.1) is
  prepared_asked at Time p i = absurd (let e : event.Deliver (frame.Prepare p) ≡ event.Tick = i in cc)

  known_asked : (at : ℕ) (m : Member) (r : Replica) → Runs g at m r → (h : Header) → header_at r h.op ≡ Some h → IsOfRequest h
  known_asked at m r runs h known =
      let x = (b.members at m runs.member).running r runs.running in
      let is : header (x.memory.parts h.op) ≡ Some h = ap header (x.reflects.parts h.op) ∙ (told_header (part_at r h.op) ∙ known) in
      made_asked s all h (written_made u s at h.op x.memory h b.reached x.running (is_known is))

  brought_asked : (at : ℕ) (m : Member) (r : Replica) → Runs g at m r → (arrival : Arrival) (e : Event) → IsArrival g at arrival e → (w : Whole) → IsBrought name_of r e w → IsOfRequest w.header
  brought_asked at m r runs arrival _ i _ (brought.IsBrought.asked q) = next_asked q r
  brought_asked at m r runs arrival _ i _ (brought.IsBrought.asked_in q) = next_asked q r
  brought_asked at m r runs arrival _ i _ (brought.IsBrought.prepared p) = prepared_asked at arrival p i
  brought_asked at m r runs arrival _ i _ (brought.IsBrought.given p known) = known_asked at m r runs p.entry.header known

  step_asked : (at : ℕ) (m : Member) (r : Replica) → Runs g at m r → (arrival : Arrival) (e : Event) (d : Lying) → IsArrival g at arrival e → (again : Bool) (w : Whole) → In (Write again w) (stepped e r d).script → IsOfRequest w.header
  step_asked at m r runs arrival e d i again w within = brought_asked at m r runs arrival e i w ((steps_traced lying r d e).writes again w within)

  -- an opening writes no entry
  opening_writes : (v : SuperValue) (d : Lying) (again : Bool) (w : Whole) → In (Write again w) (opening_script v d) → ⊥
  opening_writes v d again w i = (opening_traced v d).writes again w i

  migration_writes : (v : SuperValue) (again : Bool) (w : Whole) → In (Write again w) (migration v) → ⊥
  migration_writes v again w i = elim i [ inl a ↦ cc | inr r ↦ elim r [ inl b ↦ cc | inr n ↦ n ] ]

  move_asked : (move : Move) (moved : Moved) → Moves g move moved → (again : Bool) (w : Whole) → In (Write again w) moved.script → IsOfRequest w.header
  move_asked _ _ (group.steps at arrival e d m r runs i) again w within = step_asked at m r runs arrival e d i again w within
  move_asked _ _ (group.cuts at arrival e d effects m r runs i) again w within = step_asked at m r runs arrival e d i again w (in_take (effects + 1) (stepped e r d).script (Write again w) within)
  move_asked _ _ (group.crashes at m there) again w within = absurd within
  move_asked _ _ (group.recovers at v d m o) again w within = absurd (opening_writes v d again w within)
  move_asked _ _ (group.recovers_cut at v d effects m o) again w within = absurd (opening_writes v d again w (in_take (effects + 1) (opening_script v d) (Write again w) within))
  move_asked _ _ (group.migrates at v m may) again w within = absurd (migration_writes v again w within)
  move_asked _ _ (group.migrates_cut at v effects m may) again w within = absurd (migration_writes v again w (in_take (effects + 1) (migration v) (Write again w) within))

-- ---- a run

module _ (cluster n : ℕ) (u : Setup) (run : List Played) (x : IsFollowed cluster n u run) (bridges : (t : ℕ) (p : Played) → slice_get run t ≡ Some p → Bridges u p.before (x.group t)) where
  all_asked : (t : ℕ) → t ≤ length run → AllAsked (x.group t)
  all_asked zero l z h = absurd (subst (In z) x.none_made h)
  all_asked (suc t) l z h =
      let p = log_reaches run t (omega arith) in
      elim ((x.carried t p.0 p.1).made z h) [
        | inl old ↦ all_asked t (omega arith) z old
        | inr made ↦
            let w = written_in p.0.moved.script z.entry made in
            let so = move_asked u p.0.before (x.group t) (bridges t p.0 p.1) (all_asked t (omega arith)) p.0.move p.0.moved (move_of (fresh_group x.fit.kinds cluster n) run x.fit.of_run t p.0 p.1) w.again w.entry w.among in
            subst IsOfRequest w.is so
      ]

  line_made : (c : Committed) → In (output.Commit c) (run_outputs run) → IsOfRequest c.entry.header × IsHeader c.entry.header
  line_made c i =
      let o = output_of_move run (output.Commit c) i in
      let read : IsWellRead c.entry = runs_read cluster n run x.fit o.0 o.1 o.2 c o.3 in
      let a = said_of cluster n u run x (output.Commit c) i in
      let line = a.3.1 in
      let s : Group Header = x.group (length run) in
      let q = u.quorums in
      let hs = entries_by u.hash u.cluster in
      let good = reached_good q hs s (x.reached (length run) (omega arith)) in
      let above = read.form.op.0 in
      let op : ℕ = c.entry.header.op in
      let committed = then_end cluster n u run x a.0 a.1 a.2 a.3.0 line.view op c.entry.header line.committed in
      let f = committed_begun q hs good.0 s good.1 line.view op c.entry.header (omega arith) committed in
      let l = logged q hs good.0 s good.1 line.view line.view op c.entry.header f (omega arith) (omega arith) committed in
      (made_asked s (all_asked (length run) (omega arith)) c.entry.header (log_made u s good.0 good.1 line.view op c.entry.header f (omega arith) l.0 l.1), read.good.header)

-- the entry of each commit line of a run
pub lines_asked : (cluster n : ℕ) (run : List Played) → IsFitRun cluster n run → (c : Committed) → In (output.Commit c) (run_outputs run) → IsOfRequest c.entry.header × IsHeader c.entry.header
lines_asked cluster n run fit c i = let x = follows_it cluster n run fit in line_made cluster n x.setup run x.followed x.bridges c i

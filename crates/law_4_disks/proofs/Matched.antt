-- Each line of a schedule is a move of the group, or none.
use Rattle.std.proofs.Common.{◌∷◌, inl, inr, ℕ, ◌+◌, ◌-◌, ◌%◌, ◌<◌, ◌≡◌, refl, sym, ap, ◌∙◌, subst, Bool, true, false, cond, List, [], ◌++◌, length, take, Option, Some, None}
use Rattle.std.specs.Prelude.{◌==◌, nat_le, slice_get}
use Rattle.std.specs.Option.{option_map, option_map_or, option_and_then}
use Rattle.std.proofs.lemmas.Bool.{eq-eqb, eqb-true, leb-false, leb-true}
use Rattle.vr_disk.specs.DiskState.{Fuse}
use Rattle.vr_msg.specs.declared.event.Event.TheVariants as event
use Rattle.vr_msg.specs.declared.output.Output.TheVariants as output
use Rattle.vr_msg.specs.declared.output.Sent.{Sent}
use Rattle.vr_super.specs.Copies.{SuperValue, IsGood}
use Rattle.vr_super.specs.Opens.{opens}
use Rattle.vr_lie.specs.declared.fault.Fault.{Fault}
use Rattle.vr_lie.specs.Faults.{faulted, IsFault}
use Rattle.vr_rules.specs.Replica.{Replica}
use Rattle.vr_rules.specs.Steps.{Step, after_all, Effect, Mend, Setting, Word, ◌⨾◌, change, does, each, quiet, reading}
use Rattle.vr_rules.specs.Steps as steps
use Rattle.vr_rules.specs.Opening.{blank, opened, opening, Slot, entry_header, mend_slot, recover_old, recover_op, recover_parts, resuming, rewrite}
use Rattle.vr_rules.specs.Sectors.{of_version, script_calls}
use Rattle.vr_world.specs.Lying.{Lying, cut_calls, hazards, keeps_premise, lied_to, lying, unless_kept_out}
use Rattle.vr_world.specs.World as world
use Rattle.vr_world.specs.World.{Acted, Happening, World, Begins, Asks, AsksInVersion, Arrives, Ticks, Stops, Starts, Migrates, Fuses, Lies, at_member, acts, delivered, halted, handles, if_first, lied, migrated_or_halted, migrated_with, migration_halted, movable_by, nothing, stays, went, went_or_halted, with_member}
use Rattle.vr_rules.specs.Outputs.{messages}
use Rattle.vr_world.specs.Group as group
use Rattle.vr_rules.specs.Migrating.{migrated, migration_calls}
use Rattle.vr_world.specs.Group.{Asked, Group, IsArrival, Message, Movable, Move, Moves, Opens, Time, carried_out, cut_after, cut_in_two, migration, move_cut, moved_over, found, keeps_all, mended, once_mended, opening_script, recovered, resumed, start_cut, started, Arrival, made_in}
use Rattle.vr_rules.proofs.Halves.{after_both}
use Rattle.std.specs.List.{AllByRecursion}
use Rattle.vr_base.specs.Bytes.{IsBytes}
use Rattle.vr_header.specs.NoCollision.{NoCollision}
use Rattle.vr_msg.specs.declared.event.Event.{Event}
use Rattle.vr_world.specs.GroupFit.{IsFitArrival, IsFitGroup}
use Rattle.vr_rules.specs.Own.{IsOwnValue}
use Rattle.vr_world.proofs.FitLies.{lies_fit, same_version}
use Rattle.vr_world.proofs.FitGroups.{Known, good_value, groups_fit, known_right, start_is}
use Rattle.law_4_disks.specs.Beside.{AreMade, Finds, IsOff, IsOn, MayGo, TellsIn}
use Rattle.law_4_disks.specs.Naming.{IsHashedAfter, IsHashedMigrating}
use Rattle.law_4_disks.specs.Laws.{LinesAreMoves}
use Rattle.law_4_disks.specs.Worlds.{AreBeside, IsHashedCut, IsHashedMoving, IsMatchedBy, Migration, Stands, Work, aside, asking, begun_by, begun_of, handling, migrating, moved_by, moved_of, none, opening_as, read_of, starting, starting_by, work_of}
use Rattle.law_4_disks.proofs.Faults.{fault_face, lie_off, lie_on}
use Rattle.law_4_disks.proofs.Migrating.{begun_whole, migrates, migration_cut, tells_migrating}
use Rattle.law_4_disks.proofs.Lines.{StepsWell, WorksWell, ask, fuse, handle, no_move, none_runs, none_sent, outputs_given, runs_one, stock_moves, off_stopped, on_running, one_move, own_place, placed, said_same, some_replica, stayed, stop, well_of}
use Rattle.law_4_disks.proofs.Chaining.{c_resuming}
use Rattle.law_4_disks.proofs.Going.{known_goes, mended_value, once_last, recovered_saved, recovered_state, recovered_table}
use Rattle.law_4_disks.proofs.Opening.{is_mended_of, openings_find}
use Rattle.law_4_disks.proofs.Recovering.{go_both, values}
use Rattle.law_4_disks.proofs.Scripts.{scripts_stay}
use Rattle.vr_state.specs.Kv.{IsKv}
use Rattle.vr_state.specs.Sessions.{IsSessions}
use Rattle.vr_state.specs.declared.state.State.{State}
use Rattle.vr_ckpt.specs.declared.table.PayloadTable.{PayloadTable}
use Rattle.vr_header.specs.declared.header.Header.{Header}
use Rattle.vr_recover.specs.declared.readings.Verdict.{Verdict}
use Rattle.vr_recover.specs.declared.readings.Verdict.TheVariants as verdict
use Rattle.law_4_disks.specs.Stocks.{IsGivenEvent, IsNamed, IsStocked, IsStockedGroup, WritesBlocks}
use Rattle.law_4_disks.proofs.States.{state_empty}
use Rattle.law_4_disks.proofs.Stocking.{At, Leaves}
use Rattle.law_4_disks.proofs.StockingRules.{b_resuming}
use Rattle.law_4_disks.proofs.Starts.{begun_all, opening_is, start_cuts}
use Rattle.law_4_disks.proofs.Telling.{fault_tells, tells_in}

abbrev pub moving : world.Host Lying → SuperValue → Migration
moving m v = record { host = m; value = v }

abbrev pub whole : SuperValue → Lying → Step
whole v d = record { replica = (resumed v d).replica; script = opening_script v d }

pub blocks_both : (P Q : List ℕ → Type 0) (xs ys : List Effect) → AllByRecursion (WritesBlocks P Q) xs → AllByRecursion (WritesBlocks P Q) ys → AllByRecursion (WritesBlocks P Q) (xs ++ ys)
blocks_both P Q [] ys a b = b
blocks_both P Q (x ∷ xs) ys a b = (a.0, blocks_both P Q xs ys a.1 b)

-- what is mended writes no block, and says nothing
record Silent (P Q : List ℕ → Type 0) (w : Word Lying) : Type 0 where
  each : (r : Replica) (d : Lying) → AllByRecursion (WritesBlocks P Q) (w lying r d).script

module _ {P Q : List ℕ → Type 0} where
  s_then : (a b : Word Lying) → Silent P Q a → Silent P Q b → Silent P Q (a ⨾ b)
  unfolding ◌⨾◌
  s_then a b x y = record { each = λ r d. let one = a lying r d in blocks_both P Q one.script (b lying one.replica (after_all lying d one.script)).script (x.each r d) (y.each one.replica (after_all lying d one.script)) }

  s_change : (g : Replica → Replica) → Silent P Q (change g)
  unfolding change
  s_change g = record { each = λ r d. tt }

  s_quiet : Silent P Q quiet
  unfolding quiet
  s_quiet = record { each = λ r d. tt }

  s_reading : {X : Type 0} (g : Setting Lying → Lying → X) (w : X → Word Lying) → ((x : X) → Silent P Q (w x)) → Silent P Q (reading g w)
  unfolding reading
  s_reading g w h = record { each = λ r d. (h (g lying d)).each r d }

  s_each : {X : Type 0} (w : X → Word Lying) (xs : List X) → ((x : X) → Silent P Q (w x)) → Silent P Q (each w xs)
  unfolding each
  s_each w [] h = s_quiet
  s_each w (x ∷ xs) h = s_then (w x) (each w xs) (h x) (s_each w xs h)

  s_rewrite : (o : Option Header) → Silent P Q (rewrite o)
  unfolding does
  s_rewrite None = s_quiet
  s_rewrite (Some h) = record { each = λ r d. (tt, tt) }

  s_mend : (x : Slot) (t : Verdict) → Silent P Q (mend_slot x t)
  s_mend x verdict.Rewrite = s_rewrite (entry_header x)
  s_mend x verdict.Here = s_quiet
  s_mend x verdict.Lost = s_quiet
  s_mend x verdict.Wanted = s_quiet
  s_mend x verdict.Nothing = s_quiet
  s_mend x verdict.Unknown = s_quiet

  s_parts : (v : SuperValue) → Silent P Q (recover_parts v)
  unfolding recover_parts recover_op recover_old
  s_parts v = s_then _ _ (s_each _ _ (λ h. s_reading _ _ (λ o. s_change _))) (s_then _ _ (s_each _ _ (λ k. s_reading _ _ (λ x. s_then _ _ (s_mend x _) (s_change _)))) (s_then _ _ (s_change _) (s_change _)))

pub mending_blocks : (P Q : List ℕ → Type 0) (v : SuperValue) (d : Lying) → AllByRecursion (WritesBlocks P Q) (mended v d).script
unfolding ◌⨾◌ does
mending_blocks P Q v d = (tt, (s_parts {P = P} {Q = Q} v).each (blank v) (after_all lying d (Mend v ∷ [])))

recovered_stocked : (v : SuperValue) (d : Lying) → IsStocked (recovered v d)
recovered_stocked v d = record {
  sessions = subst (λ (s : State). IsSessions s.sessions) (sym (recovered_state v d)) state_empty.sessions;
  machine = subst (λ (s : State). IsKv s.machine) (sym (recovered_state v d)) state_empty.machine;
  old_sessions = subst (λ (t : PayloadTable). AllByRecursion IsNamed t.sessions) (sym (recovered_table v d)) tt;
  old_keys = subst (λ (t : PayloadTable). AllByRecursion IsNamed t.keys) (sym (recovered_table v d)) tt;
}

module _ {home : ℕ} (w : World Lying) (g : Group) (i : ℕ) (m : world.Host Lying) (q : group.Member) (b : AreBeside w g) (fits : IsFitGroup home g) (stock : IsStockedGroup g) (at : slice_get w.members i ≡ Some m) (there : slice_get g.members i ≡ Some q) (s : Stands m q) where
  -- ---- a start

  pub opens_group : (v : SuperValue) → m.replica ≡ None → IsOff m.disk q v → Finds m.disk q v g.made → Opens g i q v m.disk
  opens_group v run o f = record { member = there; stopped = s.replica ∙ run; value = o.may; sound = f.sound }

  start_goes : (v : SuperValue) (fuse : Option Fuse) → m.replica ≡ None → IsOff m.disk q v → Finds m.disk q v g.made → StepsWell (resumed v m.disk) (after_all lying m.disk (mended v m.disk).script) (once_mended v m.disk q)
      → Leaves IsBytes IsBytes home resuming (recovered v m.disk) (after_all lying m.disk (mended v m.disk).script) → AllByRecursion (WritesBlocks IsBytes IsBytes) (mended v m.disk).script → IsMatchedBy home (opening_script v m.disk) (m.disk ∷ []) g (with_member w i (went hazards m (whole v m.disk) fuse))
  start_goes v fuse run o f may leaves still =
      let d = m.disk in
      let x = whole v d in
      let xs = (mended v d).script in
      let ys = (resumed v d).script in
      let mid : Lying = after_all lying d xs in
      let p : group.Member = record (carried_out ys (once_mended v d q)) { replica = Some (resumed v d).replica } in
      let a = went hazards m x fuse in
      let on : IsOn (after_all lying d (xs ++ ys)) (carried_out ys (once_mended v d q)) = subst (λ (y : Lying). IsOn y (carried_out ys (once_mended v d q))) (sym (after_both lying d xs ys)) (scripts_stay ys mid (once_mended v d q) f.on may.go) in
      let stands : Stands a.member p = record {
        replica = refl;
        running = λ r e. (on_running (after_all lying d (xs ++ ys)) (carried_out ys (once_mended v d q)) (Some x.replica) on, ap (λ (r : Replica). r.saved) (sym (some_replica x.replica r e)) ∙ may.saved);
        stopped = λ e. absurd (let bad : Some x.replica ≡ None = e in cc);
      } in
      one_move x.script (d ∷ []) g (with_member w i a) (Move.Recovers i v d) (started g i q v d) fits (lies_fit.reads d o.calm.face) o.calm.face o.file (stock_moves g i q p x.script (steps.outputs x.script) stock there (λ y h. runs_one (resumed v d).replica y leaves.stock h) (outputs_given IsBytes IsBytes x.script (blocks_both IsBytes IsBytes xs ys still leaves.blocks))) (Moves.recovers i v d q (opens_group v run o f))
      (placed w g i m q p a x.script (steps.outputs x.script) b at there stands refl) (said_same (steps.outputs x.script)) refl refl (inr refl)

  start_halts : (v : SuperValue) (u : Fuse) → m.replica ≡ None → IsOff m.disk q v → Finds m.disk q v g.made → StepsWell (resumed v m.disk) (after_all lying m.disk (mended v m.disk).script) (once_mended v m.disk q) → u.calls < length (script_calls m.disk.version (opening_script v m.disk) m.disk.face)
      → TellsIn (opening_script v m.disk) m.disk u.calls u.code → IsMatchedBy home (begun_by (Some u) (opening_script v m.disk) m.disk) (m.disk ∷ []) g (with_member w i (halted hazards i m (whole v m.disk) u))
  unfolding messages
  start_halts v u run o f may l tells =
      let d = m.disk in
      let x = whole v d in
      let c = start_cuts v d q u.calls u.code o f.go f.on may.go l tells in
      let k = cut_in_two (mended v d).script (resumed v d).script (keeps_all (found v d)) c.effects q in
      let p : group.Member = record k { replica = None } in
      let a = halted hazards i m x u in
      let stands : Stands a.member p = record {
        replica = refl;
        running = λ r e. absurd (let bad : None ≡ Some r = e in cc);
        stopped = λ e. (c.value, off_stopped (cut_calls u.calls u.code d (script_calls d.version (opening_script v d) d.face)) k None c.value c.off);
      } in
      one_move (begun_by (Some u) x.script d) (d ∷ []) g (with_member w i a) (Move.RecoversCut i v d c.effects) (start_cut g i q v d c.effects) fits (lies_fit.reads d o.calm.face) o.calm.face o.file (stock_moves g i q p (take (c.effects + 1) x.script) [] stock there none_runs (none_sent IsBytes)) (Moves.recovers_cut i v d c.effects q (opens_group v run o f))
      (placed w g i m q p a (take (c.effects + 1) x.script) [] b at there stands refl) (aside (output.Halted i) [] [] tt none) (ap (λ (es : List Effect). g.made ++ made_in es) (sym c.begun)) (sym c.begun) (inr refl)

  start_acts : (v : SuperValue) (fuse : Option Fuse) → m.replica ≡ None → IsOff m.disk q v → Finds m.disk q v g.made → StepsWell (resumed v m.disk) (after_all lying m.disk (mended v m.disk).script) (once_mended v m.disk q)
      → Leaves IsBytes IsBytes home resuming (recovered v m.disk) (after_all lying m.disk (mended v m.disk).script) → AllByRecursion (WritesBlocks IsBytes IsBytes) (mended v m.disk).script
      → ((u : Fuse) → fuse ≡ Some u → TellsIn (opening_script v m.disk) m.disk u.calls u.code) → IsMatchedBy home (begun_by fuse (opening_script v m.disk) m.disk) (m.disk ∷ []) g (with_member w i (went_or_halted hazards i m (whole v m.disk) fuse))
  start_acts v None run o f may leaves still tells = start_goes v None run o f may leaves still
  start_acts v (Some u) run o f may leaves still tells =
      let x = whole v m.disk in
      let made = length (script_calls m.disk.version x.script m.disk.face) in
      let rest : Fuse = record { calls = u.calls - made; code = u.code } in
      elim (nat_le made u.calls) as (λ t. nat_le made u.calls ≡ t → IsMatchedBy home (begun_by (Some u) x.script m.disk) (m.disk ∷ []) g (with_member w i (cond t (went hazards m x (Some rest)) (halted hazards i m x u)))) [
        | true ↦ λ t. subst (λ (es : List Effect). IsMatchedBy home es (m.disk ∷ []) g (with_member w i (went hazards m x (Some rest)))) (sym (begun_all m.disk.version x.script m.disk.face u.calls (leb-true made u.calls t))) (start_goes v (Some rest) run o f may leaves still)
        | false ↦ λ t. start_halts v u run o f may (leb-false made u.calls t) (tells u refl)
      ] refl

  -- what the script of an opening is
  pub record StartsWell (v : SuperValue) : Type 0 where
    pub value : IsGood v
    pub finds : Finds m.disk q v g.made
    pub known : Known home g.n i m.disk.version (opening_script v m.disk)
    pub here : At m.disk.version (recovered v m.disk) (after_all lying m.disk (mended v m.disk).script)
    pub well : StepsWell (resumed v m.disk) (after_all lying m.disk (mended v m.disk).script) (once_mended v m.disk q)
    pub go : MayGo (opening_script v m.disk) m.disk v

  pub start_well : (v : SuperValue) → IsOff m.disk q v → AreMade g.made v (lying.after m.disk (Mend v)) → StartsWell v
  start_well v o made =
      let d = m.disk in
      let xs = (mended v d).script in
      let ys = (resumed v d).script in
      let mid : Lying = after_all lying d xs in
      let r = recovered v d in
      let is = fits.members i q there in
      let own = good_value home g.n i q v is o.may in
      let value : IsGood v × IsOwnValue home g.n i d.version v = subst (λ (k : ℕ). IsGood v × IsOwnValue home g.n i k v) (sym o.file) own in
      let step = start_is home g.n i d.version v d value (lies_fit.reads d o.calm.face) in
      let f = openings_find d q v g.made o made in
      let h = is_mended_of v d q o in
      let of = recovered_saved v d in
      let chain = c_resuming.each lying r mid in
      let known = known_right home g.n i d.version xs ys step.known in
      let here : At d.version r mid = record { face = f.on.calm.face; file = same_version xs d; good = subst IsGood (sym of) value.0; stock = recovered_stocked v d } in
      let leaves = (b_resuming {P = IsBytes} {Q = IsBytes}).each g.n i d.version r mid here known in
      let goes = known_goes IsBytes IsBytes home g.n i d.version ys mid r.saved (resumed v d).replica.saved (same_version xs d) (subst IsGood (sym of) value.0) chain known leaves.blocks leaves.rewrites in
      let last = once_last v d q h in
      let well = well_of home (resumed v d) mid (once_mended v d q) r.saved (of ∙ sym last) (ap (λ (x : SuperValue). x.fields.cluster) last ∙ value.1.cluster) chain goes in
      let rest : MayGo ys mid (values xs v) = subst (MayGo ys mid) (last ∙ sym (mended_value v d q h)) well.go in
      record { value = value.0; finds = f; known = step.known; here = here; well = well; go = go_both xs ys d v f.go rest }

  start_by : (v : SuperValue) → m.replica ≡ None → IsOff m.disk q v → AreMade g.made v (lying.after m.disk (Mend v)) → WorksWell (opening_as m (whole v m.disk))
      → IsMatchedBy home (begun_by m.fuse (opening_script v m.disk) m.disk) (m.disk ∷ []) g (with_member w i (acts hazards i m (whole v m.disk)))
  start_by v run o made works =
      let d = m.disk in
      let h = start_well v o made in
      let known = known_right home g.n i d.version (mended v d).script (resumed v d).script h.known in
      let leaves = (b_resuming {P = IsBytes} {Q = IsBytes}).each g.n i d.version (recovered v d) (after_all lying d (mended v d).script) h.here known in
      start_acts v m.fuse run o h.finds h.well leaves (mending_blocks IsBytes IsBytes v d) (λ u e. tells_in (opening_script v d) d v u.calls u.code o.calm.face h.go (works.names u e))

  pub opens_as : (v : SuperValue) → IsOff m.disk q v → lying.opens m.disk ≡ Some v
  opens_as v o = ap (option_and_then (of_version m.disk.version)) o.value ∙ rw (eq-eqb v.fields.version m.disk.version (sym o.file)) refl

  pub opened_as : (v : SuperValue) → IsOff m.disk q v → opened lying m.disk ≡ Some (whole v m.disk)
  unfolding opened
  opened_as v o = ap (option_map (λ (v : SuperValue). opening v lying (blank v) m.disk)) (opens_as v o) ∙ ap Some (opening_is v m.disk)

  start_line : (r : Option Replica) → m.replica ≡ r → ((v : SuperValue) → r ≡ None → opens m.disk.face ≡ Some v → AreMade g.made v (lying.after m.disk (Mend v))) → ((k : Work) → starting_by m r ≡ Some k → WorksWell k)
      → IsMatchedBy home (begun_of (starting_by m r)) (read_of (starting_by m r)) g (with_member w i (world.started_by hazards i m r))
  unfolding messages
  start_line (Some r) run made works = no_move [] g (with_member w i (stays m)) fits stock (stayed w g i m q (stays m) b at there s refl) none
  start_line None run made works =
      let y = s.stopped run in
      let v = y.0 in
      let o = y.1 in
      let found = opened_as v o in
      subst (λ (x : Option Step). IsMatchedBy home (begun_of (option_map (opening_as m) x)) (read_of (option_map (opening_as m) x)) g (with_member w i (option_map_or (acts hazards i m) x (stays m)))) (sym found)
      (start_by v run o (made v refl o.value) (works (opening_as m (whole v m.disk)) (ap (option_map (opening_as m)) found)))

  movable_so : (v : SuperValue) → m.replica ≡ None → IsOff m.disk q v → v.fields.version ≡ 1 → Movable g i q v
  movable_so v run o first = record { member = there; stopped = s.replica ∙ run; value = o.may; first = first }

  -- the group stays fit, so the new value makes a good copy
  pub new_good : (v : SuperValue) → m.replica ≡ None → IsOff m.disk q v → v.fields.version ≡ 1 → IsGood (migrated v)
  unfolding carried_out
  new_good v run o first =
      let p : group.Member = record (carried_out (migration v) q) { replica = None } in
      let fit = groups_fit.each home g (Move.Migrates i v) (moved_over g i q v) fits tt (Moves.migrates i v q (movable_so v run o first)) in
      (fit.members i p (own_place g.members i q p there)).last.0

  -- ---- a fault

  lie_by : (x : Fault) (t : Bool) → keeps_premise m.disk (faulted m.disk.face x) ≡ t → IsFault x → NoCollision (IsHashedAfter m.disk x) → IsMatchedBy home [] [] g (with_member w i (lied m (cond t (Some (lied_to m.disk (faulted m.disk.face x))) None)))
  unfolding messages
  lie_by x false t within never = no_move [] g (with_member w i (lied m None)) fits stock (stayed w g i m q (lied m None) b at there s refl) (aside output.KeptOut [] [] tt none)
  lie_by x true t within never =
      let d : Lying = lied_to m.disk (faulted m.disk.face x) in
      let a = lied m (Some d) in
      let stands : Stands a.member q = record {
        replica = s.replica;
        running = λ r e.
            let y = s.running r e in
            let face = fault_face m.disk.face x within y.0.calm.face in
            (lie_on m.disk x t face (fault_tells m.disk x face never) q y.0, y.1);
        stopped = λ e.
            let y = s.stopped e in
            let face = fault_face m.disk.face x within y.1.calm.face in
            (y.0, lie_off m.disk x t face (fault_tells m.disk x face never) q y.0 y.1);
      } in
      no_move [] g (with_member w i a) fits stock (stayed w g i m q a b at there stands refl) (aside output.Done [] [] tt none)

  lie_line : (x : Fault) → IsFault x → NoCollision (IsHashedAfter m.disk x) → IsMatchedBy home [] [] g (with_member w i (lied m (unless_kept_out m.disk x)))
  unfolding unless_kept_out
  lie_line x within never = lie_by x (keeps_premise m.disk (faulted m.disk.face x)) refl within never

  -- ---- a migration

  migrate_goes : (v : SuperValue) (fuse : Option Fuse) → m.replica ≡ None → IsOff m.disk q v → v.fields.version ≡ 1 → IsMatchedBy home (migration v) [] g (with_member w i (migrated_with hazards i m v fuse))
  unfolding messages
  migrate_goes v fuse run o first =
      let a = migrated_with hazards i m v fuse in
      let p : group.Member = record (carried_out (migration v) q) { replica = None } in
      let off = migrates v m.disk q o first (new_good v run o first) in
      let stands : Stands a.member p = record {
        replica = refl;
        running = λ r e. absurd (let bad : None ≡ Some r = e in cc);
        stopped = λ e. (migrated v, off_stopped a.member.disk (carried_out (migration v) q) None (migrated v) off);
      } in
      one_move (migration v) [] g (with_member w i a) (Move.Migrates i v) (moved_over g i q v) fits tt tt tt (stock_moves g i q p (migration v) [] stock there none_runs (none_sent IsBytes)) (Moves.migrates i v q (movable_so v run o first))
      (placed w g i m q p a (migration v) [] b at there stands refl) (aside (output.Migrated i) [] [] tt none) refl refl (inl refl)

  migrate_halts : (v : SuperValue) (u : Fuse) → m.replica ≡ None → IsOff m.disk q v → v.fields.version ≡ 1 → u.calls < length (migration_calls v m.disk.face) → NoCollision (IsHashedMigrating v m.disk u.calls u.code)
      → IsMatchedBy home (moved_by (Some u) (record { host = m; value = v })) [] g (with_member w i (migration_halted hazards i m v u))
  unfolding messages
  migrate_halts v u run o first l never =
      let a = migration_halted hazards i m v u in
      let good = new_good v run o first in
      let c = migration_cut v m.disk q o first good u.calls u.code l (tells_migrating v m.disk q o first good u.calls u.code never) in
      let k = cut_after c.effects (migration v) q in
      let p : group.Member = record k { replica = None } in
      let begun = take (c.effects + 1) (migration v) in
      let stands : Stands a.member p = record {
        replica = refl;
        running = λ r e. absurd (let bad : None ≡ Some r = e in cc);
        stopped = λ e. (c.value, off_stopped a.member.disk k None c.value c.off);
      } in
      one_move (moved_by (Some u) (record { host = m; value = v })) [] g (with_member w i a) (Move.MigratesCut i v c.effects) (move_cut g i q v c.effects) fits tt tt tt (stock_moves g i q p begun [] stock there none_runs (none_sent IsBytes)) (Moves.migrates_cut i v c.effects q (movable_so v run o first))
      (placed w g i m q p a begun [] b at there stands refl) (aside (output.Halted i) [] [] tt none) (ap (λ (es : List Effect). g.made ++ made_in es) (sym c.begun)) (sym c.begun) (inl refl)

  migrate_by : (v : SuperValue) (fuse : Option Fuse) → m.replica ≡ None → IsOff m.disk q v → v.fields.version ≡ 1 → ((u : Fuse) → fuse ≡ Some u → NoCollision (IsHashedMigrating v m.disk u.calls u.code))
      → IsMatchedBy home (moved_by fuse (record { host = m; value = v })) [] g (with_member w i (migrated_or_halted hazards i m v fuse))
  migrate_by v None run o first never = migrate_goes v None run o first
  migrate_by v (Some u) run o first never =
      let made = length (migration_calls v m.disk.face) in
      let rest : Fuse = record { calls = u.calls - made; code = u.code } in
      let es = moved_by (Some u) (record { host = m; value = v }) in
      elim (nat_le made u.calls) as (λ t. nat_le made u.calls ≡ t → IsMatchedBy home es [] g (with_member w i (cond t (migrated_with hazards i m v (Some rest)) (migration_halted hazards i m v u)))) [
        | true ↦ λ t. subst (λ (es : List Effect). IsMatchedBy home es [] g (with_member w i (migrated_with hazards i m v (Some rest)))) (sym (begun_whole v m.disk q o first (new_good v run o first) u.calls (leb-true made u.calls t))) (migrate_goes v (Some rest) run o first)
        | false ↦ λ t. migrate_halts v u run o first (leb-false made u.calls t) (never u refl)
      ] refl

  migrate_line : (r : Option Replica) → m.replica ≡ r → ((k : Migration) → option_map (moving m) (movable_by hazards m r) ≡ Some k → NoCollision (IsHashedMoving k))
      → IsMatchedBy home (moved_of (option_map (moving m) (movable_by hazards m r))) [] g (with_member w i (option_map_or (λ v. migrated_or_halted hazards i m v m.fuse) (movable_by hazards m r) (stays m)))
  unfolding messages
  migrate_line (Some r) run never = no_move [] g (with_member w i (stays m)) fits stock (stayed w g i m q (stays m) b at there s refl) none
  migrate_line None run never =
      let y = s.stopped run in
      let v = y.0 in
      let o = y.1 in
      let is : movable_by hazards m None ≡ if_first v = ap (option_and_then if_first) (opens_as v o) in
      let whole : Option SuperValue → Type 0 = λ (x : Option SuperValue).
      ((k : Migration) → option_map (moving m) x ≡ Some k → NoCollision (IsHashedMoving k))
      → IsMatchedBy home (moved_of (option_map (moving m) x)) [] g (with_member w i (option_map_or (λ v. migrated_or_halted hazards i m v m.fuse) x (stays m))) in
      let by : (t : Bool) → (v.fields.version == 1) ≡ t → whole (cond t (Some v) None) = elim [
        | true ↦ λ t never. migrate_by v m.fuse run o (eqb-true v.fields.version 1 t) (λ u e a c p r same. never (moving m v) refl a c (u, e, p) (u, e, r) same)
        | false ↦ λ t never. no_move [] g (with_member w i (stays m)) fits stock (stayed w g i m q (stays m) b at there s refl) none
      ] in
      subst whole (sym is) (by (v.fields.version == 1) refl) never

-- ---- at a member, where there is one

at_place : {home : ℕ} (w : World Lying) (g : Group) (i : ℕ) (act : ℕ → world.Host Lying → Acted Lying) (es : Option (world.Host Lying) → List Effect) (fs : Option (world.Host Lying) → List Lying) (o : Option (world.Host Lying)) → AreBeside w g → IsFitGroup home g → IsStockedGroup g → es None ≡ [] → slice_get w.members i ≡ o
    → ((m : world.Host Lying) (q : group.Member) → slice_get w.members i ≡ Some m → slice_get g.members i ≡ Some q → Stands m q → IsMatchedBy home (es (Some m)) (fs (Some m)) g (with_member w i (act i m))) → IsMatchedBy home (es o) (fs o) g (option_map_or (λ m. with_member w i (act i m)) o (nothing w))
at_place {home} w g i act es fs None b f k z e h = subst (λ (es : List Effect). IsMatchedBy home es (fs None) g (nothing w)) (sym z) (no_move (fs None) g (nothing w) f k b none)
at_place {home} w g i act es fs (Some m) b f k z e h = let y = b.each i m e in h m y.0 e y.1 y.2

at_line : {home : ℕ} (w : World Lying) (g : Group) (i : ℕ) (act : ℕ → world.Host Lying → Acted Lying) (es : Option (world.Host Lying) → List Effect) (fs : Option (world.Host Lying) → List Lying) → AreBeside w g → IsFitGroup home g → IsStockedGroup g → es None ≡ []
    → ((m : world.Host Lying) (q : group.Member) → slice_get w.members i ≡ Some m → slice_get g.members i ≡ Some q → Stands m q → IsMatchedBy home (es (Some m)) (fs (Some m)) g (with_member w i (act i m))) → IsMatchedBy home (es (slice_get w.members i)) (fs (slice_get w.members i)) g (at_member w i act)
unfolding at_member
at_line w g i act es fs b f k z h = at_place w g i act es fs (slice_get w.members i) b f k z refl h

-- an event that reaches a member
event_line : {home : ℕ} (w : World Lying) (g : Group) (i : ℕ) (arrival : Arrival) (e : Event) → AreBeside w g → IsFitGroup home g → IsStockedGroup g → IsArrival g i arrival e → IsFitArrival arrival → IsGivenEvent IsBytes e → ((k : Work) → option_and_then (handling e) (slice_get w.members i) ≡ Some k → WorksWell k)
    → IsMatchedBy home (begun_of (option_and_then (handling e) (slice_get w.members i))) (read_of (option_and_then (handling e) (slice_get w.members i))) g (at_member w i (handles hazards e))
event_line w g i arrival e b f k arrives fit given works =
    at_line w g i (handles hazards e) (λ (o : Option (world.Host Lying)). begun_of (option_and_then (handling e) o)) (λ (o : Option (world.Host Lying)). read_of (option_and_then (handling e) o)) b f k refl
    (λ m q at there y. handle w g i m q b f k at there y arrival e m.replica refl arrives fit given (λ k h. works k (ap (option_and_then (handling e)) at ∙ h)))

arrive : {home : ℕ} (w : World Lying) (g : Group) (number : ℕ) (o : Option Sent) → AreBeside w g → IsFitGroup home g → IsStockedGroup g → slice_get w.sent number ≡ o
    → ((k : Work) → option_and_then (λ (s : Sent). option_and_then (handling (event.Deliver s.message)) (slice_get w.members s.to)) o ≡ Some k → WorksWell k)
    → IsMatchedBy home (begun_of (option_and_then (λ (s : Sent). option_and_then (handling (event.Deliver s.message)) (slice_get w.members s.to)) o)) (read_of (option_and_then (λ (s : Sent). option_and_then (handling (event.Deliver s.message)) (slice_get w.members s.to)) o)) g (delivered hazards w o)
arrive w g number None b f k e works = no_move [] g (nothing w) f k b none
arrive w g number (Some s) b f k e works =
    let arrives : IsArrival g s.to (Message number) (event.Deliver s.message) = (s, ap (λ (x : List Sent). slice_get x number) b.sent ∙ e, refl, refl) in
    event_line w g s.to (Message number) (event.Deliver s.message) b f k arrives tt (k.sent number s (ap (λ (x : List Sent). slice_get x number) b.sent ∙ e)) works

-- of the work of a line
works_of : (w : World Lying) (x : Happening) → NoCollision (λ bytes. (k : Work) × (work_of w x ≡ Some k) × IsHashedCut k bytes) → (k : Work) → work_of w x ≡ Some k → WorksWell k
works_of w x never k e = record { names = λ u f a c p r same. never a c (k, e, (u, f, p)) (k, e, (u, f, r)) same }

pub lines_are_moves : LinesAreMoves
lines_are_moves home w g (Begins kind n) b f k may = absurd may.line
lines_are_moves home w g (Asks i r) b f k may = event_line w g i (Asked r) (event.Request r) b f k (may.line.0, refl) may.line.1 tt (works_of w (Asks i r) may.names)
lines_are_moves home w g (AsksInVersion i x) b f k may =
    at_line w g i (world.asks hazards x) (λ (o : Option (world.Host Lying)). begun_of (option_and_then (asking x) o)) (λ (o : Option (world.Host Lying)). read_of (option_and_then (asking x) o)) b f k refl
    (λ m q at there y. ask w g i m q b f k at there y x m.replica refl may.line.0 may.line.1 (λ k h. works_of w (AsksInVersion i x) may.names k (ap (option_and_then (asking x)) at ∙ h)))
lines_are_moves home w g (Arrives x) b f k may = arrive w g (x % length w.sent) (slice_get w.sent (x % length w.sent)) b f k refl (works_of w (Arrives x) may.names)
lines_are_moves home w g (Ticks i) b f k may = event_line w g i Time event.Tick b f k refl tt tt (works_of w (Ticks i) may.names)
lines_are_moves home w g (Stops i) b f k may = at_line w g i world.stops (λ (o : Option (world.Host Lying)). []) (λ (o : Option (world.Host Lying)). []) b f k refl (λ m q at there y. stop w g i m q b f k at there y)
lines_are_moves home w g (Starts i) b f k may =
    at_line w g i (world.starts hazards) (λ (o : Option (world.Host Lying)). begun_of (option_and_then starting o)) (λ (o : Option (world.Host Lying)). read_of (option_and_then starting o)) b f k refl
    (λ m q at there y. start_line w g i m q b f k at there y m.replica refl (λ v n e. may.unforged m v at n e) (λ k h. works_of w (Starts i) may.names k (ap (option_and_then starting) at ∙ h)))
lines_are_moves home w g (Migrates i) b f k may =
    at_line w g i (world.migrates hazards) (λ (o : Option (world.Host Lying)). moved_of (option_and_then (λ (m : world.Host Lying). option_map (moving m) (world.movable hazards m)) o)) (λ (o : Option (world.Host Lying)). []) b f k refl
    (λ m q at there y.
    migrate_line w g i m q b f k at there y m.replica refl
    (λ k h a c p r same.
    let e : migrating w i ≡ Some k = ap (option_and_then (λ (m : world.Host Lying). option_map (moving m) (world.movable hazards m))) at ∙ h in
    may.names a c (k, e, p) (k, e, r) same))
lines_are_moves home w g (Fuses i c code) b f k may = at_line w g i (world.fused c code) (λ (o : Option (world.Host Lying)). []) (λ (o : Option (world.Host Lying)). []) b f k refl (λ m q at there y. fuse w g i m q b f k at there y c code)
lines_are_moves home w g (Lies i x) b f k may =
    at_line w g i (world.lies hazards x) (λ (o : Option (world.Host Lying)). []) (λ (o : Option (world.Host Lying)). []) b f k refl
    (λ m q at there y. lie_line w g i m q b f k at there y x may.line (λ a c p r same. may.names a c (m, at, p) (m, at, r) same))

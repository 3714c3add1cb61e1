-- A line of a schedule leaves sealed what was sealed.
use Rattle.std.proofs.Common.{ℕ, zero, suc, ◌+◌, ◌-◌, ◌<◌, ◌≤◌, ◌≡◌, inl, inr, arith, refl, sym, ap, ◌∙◌, subst, Bool, true, false, cond, List, [], ◌∷◌, ◌++◌, length, set, Option, Some, None}
use Rattle.std.specs.Prelude.{◌%◌, ◌^◌, ◌==◌, nat_le, nat_lt, slice_get}
use Rattle.std.specs.List.{AllByRecursion}
use Rattle.std.specs.Option.{option_and_then, option_map, option_map_or}
use Rattle.std.proofs.lemmas.Bool.{cases_eq, eqb-true, leb-true}
use Rattle.std.proofs.lemmas.List.{append-nil}
use Rattle.vr_base.specs.Bytes.{IsBytes}
use Rattle.vr_disk.specs.DiskState.{Face, Fuse, IsFace, after_all}
use Rattle.vr_disk.proofs.Faces.{face_after_all}
use Rattle.vr_header.specs.declared.header.Header.{Header}
use Rattle.vr_msg.specs.declared.event.Event.{Event}
use Rattle.vr_msg.specs.declared.event.Event.TheVariants as event
use Rattle.vr_msg.specs.declared.frame.Frame.{Frame}
use Rattle.vr_msg.specs.declared.frame.Frame.TheVariants as frame
use Rattle.vr_msg.specs.declared.output.Sent.{Sent}
use Rattle.vr_msg.specs.declared.request.RequestFields.{RequestFields}
use Rattle.vr_super.specs.Copies.{IsGood, SuperValue}
use Rattle.vr_super.specs.Calls.{mend_calls, write_calls}
use Rattle.vr_lie.specs.declared.fault.Fault.{Fault}
use Rattle.vr_lie.specs.Faults.{IsFault, faulted}
use Rattle.vr_rules.specs.Replica.{Replica, version}
use Rattle.vr_rules.specs.Fit.{IsAsked}
use Rattle.vr_rules.specs.Rules.{react}
use Rattle.vr_rules.specs.Opening.{opened}
use Rattle.vr_rules.specs.Steps.{Effect, Mend, Step, outputs}
use Rattle.vr_rules.specs.Sectors.{script_calls}
use Rattle.vr_world.specs.Lying.{Lying, hazards, keeps_premise, lied_to, lying, unless_kept_out}
use Rattle.vr_rules.specs.Migrating.{migrated, migration_calls, slot_calls}
use Rattle.vr_world.specs.World as world
use Rattle.vr_world.specs.World.{Acted, Happening, World, Begins, Asks, AsksInVersion, Arrives, Ticks, Stops, Starts, Migrates, Fuses, Lies, acts, at_member, delivered, halted, handles, happens, if_first, in_version, migrated_or_halted, migrated_with, migration_halted, movable_by, nothing, stays, went, went_or_halted, with_member}
use Rattle.vr_rules.specs.Outputs.{messages}
use Rattle.vr_world.specs.Group as group
use Rattle.vr_world.specs.Group.{Arrival, Asked, Group, IsArrival, Message, Time, made_in, mended, migration, opening_script, resumed}
use Rattle.vr_world.specs.GroupFit.{IsFitArrival, IsFitGroup}
use Rattle.vr_rules.specs.Own.{IsAt}
use Rattle.vr_world.proofs.FitLies.{lies_fit}
use Rattle.vr_world.proofs.FitGroups.{good_value, known_right}
use Rattle.vr_rules.proofs.Slots.{value_is}
use Rattle.law_1_machine.specs.Basics.{In}
use Rattle.law_4_disks.specs.Beside.{AreMade, IsOff, MayGo}
use Rattle.law_4_disks.specs.Stocks.{IsGiven, IsGivenEvent, IsStockedGroup, WritesBlocks}
use Rattle.law_4_disks.specs.Naming.{mended_on}
use Rattle.law_4_disks.specs.Worlds.{AreBeside, IsLine, IsUnforged, Migration, Stands, asking, begun_by, begun_in, begun_of, handling, moved_by, moved_of, opening_as, starting, starting_by, stepping}
use Rattle.law_4_disks.proofs.Calls.{copy_are, mend_are}
use Rattle.law_4_disks.proofs.Lines.{asked_in, asking_as, get_both, other_place, outputs_given, own_place, some_member, step_well}
use Rattle.law_4_disks.proofs.Matched.{blocks_both, mending_blocks, moving, new_good, opened_as, opens_as, opens_group, start_well, whole}
use Rattle.law_4_disks.proofs.Starts.{begun_all}
use Rattle.law_4_disks.proofs.StockingRules.{ReadsOn, b_resuming, gives_read}
use Rattle.law_5_seals.specs.Seals.{HasSectors, IsSealed, spelled_from}
use Rattle.law_5_seals.proofs.Contents.{has_after_all, has_cut, has_fault, has_weaker}
use Rattle.law_5_seals.proofs.Moving.{moves_are_sealed}
use Rattle.law_5_seals.proofs.Sectors.{mend_sealed, seals_append}
use Rattle.law_5_seals.proofs.Turning.{sealed_more, turned_sealed}
use Rattle.law_6_one_log.specs.Bridged.{IsBridged, IsSealedBlock}
use Rattle.law_6_one_log.specs.Schedules.{IsSealedWorld, room}
use Rattle.law_6_one_log.proofs.Begun.{begun_sealed, begun_some, block_more, named_more}
use Rattle.law_6_one_log.proofs.Readings.{block_sealed, found_made}
use Rattle.law_6_one_log.proofs.Scripts.{AreSealed, IsRight, Seals, cut_sealed, effect_sealed, save_sealed, script_sealed}
use Rattle.law_6_one_log.proofs.Sessions.{ComesOfEntries}
use Rattle.law_6_one_log.proofs.UnforgedValues.{in_left, last_named, may_open_named, may_open_short, start_saves, step_saves}

-- ---- more is made

given_more : (home : ℕ) (some more : List Header) (f : Frame) → ((h : Header) → In h some → In h more) → IsGiven (IsSealedBlock home some) f → IsGiven (IsSealedBlock home more) f
given_more home some more (frame.GiveBlock g) m s = block_more some more g.block m s
given_more home some more (frame.Request q) m s = tt
given_more home some more (frame.Reply a) m s = tt
given_more home some more (frame.Prepare p) m s = tt
given_more home some more (frame.PrepareOk a) m s = tt
given_more home some more (frame.Commit c) m s = tt
given_more home some more (frame.StartViewChange c) m s = tt
given_more home some more (frame.DoViewChange d) m s = tt
given_more home some more (frame.StartView v) m s = tt
given_more home some more (frame.GetView g) m s = tt
given_more home some more (frame.GetPrepare g) m s = tt
given_more home some more (frame.GivePrepare g) m s = tt
given_more home some more (frame.GetBlock g) m s = tt
given_more home some more (frame.GetSync g) m s = tt
given_more home some more (frame.SyncView v) m s = tt

given_read : {home : ℕ} (made : List Header) (d : Lying) (f : Frame) → IsFace d.face → HasSectors (IsSealed home made) d.face → IsGiven (ReadsOn d) f → IsGiven (IsSealedBlock home made) f
given_read made d (frame.GiveBlock g) face s r = block_sealed made d.face s r.0 g.block face r.1
given_read made d (frame.Request q) face s r = tt
given_read made d (frame.Reply a) face s r = tt
given_read made d (frame.Prepare p) face s r = tt
given_read made d (frame.PrepareOk a) face s r = tt
given_read made d (frame.Commit c) face s r = tt
given_read made d (frame.StartViewChange c) face s r = tt
given_read made d (frame.DoViewChange x) face s r = tt
given_read made d (frame.StartView v) face s r = tt
given_read made d (frame.GetView g) face s r = tt
given_read made d (frame.GetPrepare g) face s r = tt
given_read made d (frame.GivePrepare g) face s r = tt
given_read made d (frame.GetBlock g) face s r = tt
given_read made d (frame.GetSync g) face s r = tt
given_read made d (frame.SyncView v) face s r = tt

given_none : (home : ℕ) (made : List Header) (f : Frame) → IsGiven (λ b. ⊥) f → IsGiven (IsSealedBlock home made) f
given_none home made (frame.GiveBlock g) n = absurd n
given_none home made (frame.Request q) n = tt
given_none home made (frame.Reply a) n = tt
given_none home made (frame.Prepare p) n = tt
given_none home made (frame.PrepareOk a) n = tt
given_none home made (frame.Commit c) n = tt
given_none home made (frame.StartViewChange c) n = tt
given_none home made (frame.DoViewChange x) n = tt
given_none home made (frame.StartView v) n = tt
given_none home made (frame.GetView g) n = tt
given_none home made (frame.GetPrepare g) n = tt
given_none home made (frame.GivePrepare g) n = tt
given_none home made (frame.GetBlock g) n = tt
given_none home made (frame.GetSync g) n = tt
given_none home made (frame.SyncView v) n = tt

given_bytes : (home : ℕ) (made : List Header) (f : Frame) → IsGiven (IsSealedBlock home made) f → IsGiven IsBytes f
given_bytes home made (frame.GiveBlock g) s = s.bytes
given_bytes home made (frame.Request q) s = tt
given_bytes home made (frame.Reply a) s = tt
given_bytes home made (frame.Prepare p) s = tt
given_bytes home made (frame.PrepareOk a) s = tt
given_bytes home made (frame.Commit c) s = tt
given_bytes home made (frame.StartViewChange c) s = tt
given_bytes home made (frame.DoViewChange x) s = tt
given_bytes home made (frame.StartView v) s = tt
given_bytes home made (frame.GetView g) s = tt
given_bytes home made (frame.GetPrepare g) s = tt
given_bytes home made (frame.GivePrepare g) s = tt
given_bytes home made (frame.GetBlock g) s = tt
given_bytes home made (frame.GetSync g) s = tt
given_bytes home made (frame.SyncView v) s = tt

event_bytes : (home : ℕ) (made : List Header) (e : Event) → IsGivenEvent (IsSealedBlock home made) e → IsGivenEvent IsBytes e
event_bytes home made (event.Deliver m) s = given_bytes home made m s
event_bytes home made (event.Request q) s = tt
event_bytes home made event.Tick s = tt

-- ---- what a member leaves

abbrev AreGiven : ℕ → List Header → List Sent → Type 0
AreGiven home made sent = (number : ℕ) (s : Sent) → slice_get sent number ≡ Some s → IsGiven (IsSealedBlock home made) s.message

no_message : (home : ℕ) (made : List Header) → AreGiven home made []
no_message home made number s e = absurd cc

module _ {home : ℕ} (w : World Lying) (some more : List Header) (m : (h : Header) → In h some → In h more) (s : IsSealedWorld home w some) where
  disk_more : (f : Face) → HasSectors (IsSealed home some) f → HasSectors (IsSealed home more) f
  disk_more f h = has_weaker (IsSealed home some) (IsSealed home more) f (λ b x. sealed_more home some more b m x) h

  pub world_more : IsSealedWorld home w more
  world_more = record { disks = λ i x e. disk_more x.disk.face (s.disks i x e); sent = λ n x e. given_more home some more x.message m (s.sent n x e) }

  pub world_set : (i : ℕ) (x : world.Host Lying) (a : Acted Lying) → slice_get w.members i ≡ Some x → HasSectors (IsSealed home more) a.member.disk.face → AreGiven home more (messages a.outputs) → IsSealedWorld home (with_member w i a).world more
  world_set i x a at face given = record {
    disks = λ j y e. elim (cases_eq i j) [
      | inl same ↦
          let own : slice_get (set w.members i a.member) i ≡ Some y = subst (λ (j : ℕ). slice_get (set w.members i a.member) j ≡ Some y) (sym same) e in
          let one : a.member ≡ y = some_member a.member y (sym (own_place w.members i x a.member at) ∙ own) in
          subst (λ (y : world.Host Lying). HasSectors (IsSealed home more) y.disk.face) one face
      | inr other ↦ disk_more y.disk.face (s.disks j y (sym (other_place w.members i j a.member other) ∙ e))
    ];
    sent = get_both (λ (s : Sent). IsGiven (IsSealedBlock home more) s.message) w.sent (messages a.outputs) (λ n x e. given_more home some more x.message m (s.sent n x e)) given;
  }

-- ---- a script at a member

module _ {home : ℕ} (w : World Lying) (made : List Header) (s : IsSealedWorld home w made) (i : ℕ) (m : world.Host Lying) (at : slice_get w.members i ≡ Some m) where
  -- what was begun was made
  abbrev now : List Effect → List Header
  now bs = made ++ made_in bs

  more : (bs : List Effect) (h : Header) → In h made → In h (now bs)
  more bs h x = in_left made (made_in bs) h x

  stay_sealed : (a : Acted Lying) → a.member.disk ≡ m.disk → messages a.outputs ≡ [] → IsSealedWorld home (with_member w i a).world made
  stay_sealed a same none =
      world_set w made made (λ h x. x) s i m a at (subst (λ (d : Lying). HasSectors (IsSealed home made) d.face) (sym same) (s.disks i m at)) (subst (AreGiven home made) (sym none) (no_message home made))

  begun_none : (w : World Lying) → IsSealedWorld home w made → IsSealedWorld home w (made ++ made_in [])
  unfolding made_in
  begun_none w s = subst (IsSealedWorld home w) (sym (append-nil made)) s

  module _ (x : Step) (v : SuperValue) (go : MayGo x.script m.disk v) (right : IsRight made v) (face : IsFace m.disk.face) (said : AreGiven home made (messages (outputs x.script))) where
    right_more : (bs : List Effect) → IsRight (now bs) v
    right_more bs = (right.0, named_more made (now bs) v (more bs) right.1)

    face_more : (bs : List Effect) → HasSectors (IsSealed home (now bs)) m.disk.face
    face_more bs = disk_more w made (now bs) (more bs) s m.disk.face (s.disks i m at)

    went_sealed : (fuse : Option Fuse) → AllByRecursion (Seals home (now x.script)) x.script → IsSealedWorld home (with_member w i (went hazards m x fuse)).world (now x.script)
    went_sealed fuse seals =
        let all = now x.script in
        world_set w made all (more x.script) s i m (went hazards m x fuse) at (script_sealed home all x.script m.disk v go seals (right_more x.script) face (face_more x.script)) (λ n y e. given_more home made all y.message (more x.script) (said n y e))

    halted_sealed : (u : Fuse) (bs : List Effect) → bs ≡ begun_by (Some u) x.script m.disk → AllByRecursion (Seals home (now bs)) bs → IsSealedWorld home (with_member w i (halted hazards i m x u)).world (now bs)
    unfolding messages
    halted_sealed u bs e seals =
        world_set w made (now bs) (more bs) s i m (halted hazards i m x u) at (cut_sealed home (now bs) x.script m.disk v u.calls u.code go (subst (AllByRecursion (Seals home (now bs))) e seals) (right_more bs) face (face_more bs)) (no_message home (now bs))

    acts_by : (fuse : Option Fuse) → (let bs = begun_by fuse x.script m.disk in AllByRecursion (Seals home (now bs)) bs) → IsSealedWorld home (with_member w i (went_or_halted hazards i m x fuse)).world (now (begun_by fuse x.script m.disk))
    acts_by None seals = went_sealed None seals
    acts_by (Some u) seals =
        let made_calls = length (script_calls m.disk.version x.script m.disk.face) in
        let rest : Fuse = record { calls = u.calls - made_calls; code = u.code } in
        let bs = begun_by (Some u) x.script m.disk in
        elim (nat_le made_calls u.calls) as (λ t. nat_le made_calls u.calls ≡ t → IsSealedWorld home (with_member w i (cond t (went hazards m x (Some rest)) (halted hazards i m x u))).world (now bs)) [
          | true ↦ λ t. (let all = begun_all m.disk.version x.script m.disk.face u.calls (leb-true made_calls u.calls t) in
              subst (λ (es : List Effect). IsSealedWorld home (with_member w i (went hazards m x (Some rest))).world (now es)) (sym all) (went_sealed (Some rest) (subst (λ (es : List Effect). AllByRecursion (Seals home (now es)) es) all seals)))
          | false ↦ λ t. halted_sealed u bs refl seals
        ] refl

-- the checkpoint of a good value is no greater than its head
checkpoint_low : (v : SuperValue) → IsGood v → v.fields.checkpoint ≤ v.fields.head
checkpoint_low v g = let x = value_is v g in let a = x.commit in let b = x.head in omega (arith, a, b)

-- so long a log has no op that sessions could spell
within_room : (home op made : ℕ) → op ≤ made → made < room home → op + 64 < spelled_from home
within_room zero op made l few = omega (arith, l, few)
within_room (suc home) op made l few = omega (arith, l, few)

-- ---- a member of a world beside a group

module _ {home : ℕ} (w : World Lying) (g : Group) (b : AreBeside w g) (fits : IsFitGroup home g) (stock : IsStockedGroup g) (bridged : IsBridged home g) (low : length bridged.machine.made < room home) (s : IsSealedWorld home w g.made) (i : ℕ) (m : world.Host Lying) (q : group.Member) (at : slice_get w.members i ≡ Some m)
    (there : slice_get g.members i ≡ Some q) (stands : Stands m q) where
  disk_sealed : HasSectors (IsSealed home g.made) m.disk.face
  disk_sealed = s.disks i m at

  -- ---- a step

  step_sealed : (arrival : Arrival) (e : Event) (r : Replica) → m.replica ≡ Some r → IsArrival g i arrival e → IsFitArrival arrival → IsGivenEvent (IsSealedBlock home g.made) e
      → (let es = (react e lying r m.disk).script in let bs = begun_by m.fuse es m.disk in AllByRecursion ComesOfEntries bs → IsSealedWorld home (with_member w i (acts hazards i m (react e lying r m.disk))).world (g.made ++ made_in bs))
  step_sealed arrival e r run arrives fit given plain =
      let d = m.disk in
      let x = react e lying r d in
      let are = event_bytes home g.made e given in
      let h = step_well w g i m q b fits stock at there stands arrival e r run arrives fit are in
      let on = (stands.running r run).0 in
      let face = on.calm.face in
      let is = fits.members i q there in
      let running = is.running r (stands.replica ∙ run) in
      let place : IsAt home g.n i d.version r = subst (λ (k : ℕ). IsAt home g.n i k r) (sym on.file) running.1 in
      let gives = gives_read {Q = IsSealedBlock home g.made} g.n i d.version r d h.at running.0.sound place e are given h.known in
      let saves = step_saves g bridged fits i q there d (lies_fit.reads d face) arrival e r (stands.replica ∙ run) arrives fit in
      let split = begun_some m.fuse x.script d in
      let seals = begun_sealed home g.made (ReadsOn d) x.script (begun_by m.fuse x.script d) split.0 split.1 saves gives.blocks plain in
      let right : IsRight g.made q.last = (is.last.0, last_named g bridged i q there) in
      let said : AreGiven home g.made (messages (outputs x.script)) = λ n y k. given_read g.made d y.message face disk_sealed (outputs_given (ReadsOn d) (IsSealedBlock home g.made) x.script gives.blocks n y k) in
      acts_by w g.made s i m at x q.last h.well.go right face said m.fuse seals

  handle_sealed : (arrival : Arrival) (e : Event) (o : Option Replica) → m.replica ≡ o → IsArrival g i arrival e → IsFitArrival arrival → IsGivenEvent (IsSealedBlock home g.made) e
      → (let bs = begun_of (option_map (stepping e m) o) in AllByRecursion ComesOfEntries bs → IsSealedWorld home (with_member w i (world.handled_by hazards i e m o)).world (g.made ++ made_in bs))
  unfolding messages
  handle_sealed arrival e None run arrives fit given plain = begun_none w g.made s i m at (with_member w i (stays m)).world (stay_sealed w g.made s i m at (stays m) refl refl)
  handle_sealed arrival e (Some r) run arrives fit given plain = step_sealed arrival e r run arrives fit given plain

  -- a request that is made in the version of the replica
  ask_sealed : (x : RequestFields) → IsAsked x → x.cluster < 2 ^ 64 → (o : Option Replica) → m.replica ≡ o
      → (let bs = begun_of (option_map (asking_as x m) o) in AllByRecursion ComesOfEntries bs → IsSealedWorld home (with_member w i (world.asked_by hazards x i m o)).world (g.made ++ made_in bs))
  unfolding messages
  ask_sealed x asked room None run plain = begun_none w g.made s i m at (with_member w i (stays m)).world (stay_sealed w g.made s i m at (stays m) refl refl)
  ask_sealed x asked room (Some r) run plain =
      let known = (fits.members i q there).last.0.numbers.version.1 in
      let few : version r ≤ 2 = subst (λ (v : SuperValue). v.fields.version ≤ 2) (sym (stands.running r run).1) known in
      let y = in_version (version r) x in
      step_sealed (Asked y) (event.Request y) r run (asked_in (version r) x few asked, refl) room tt plain

  -- ---- an opening

  off_right : (v : SuperValue) → IsOff m.disk q v → IsRight g.made v × (v.fields.cluster ≡ home)
  off_right v o =
      let value = good_value home g.n i q v (fits.members i q there) o.may in
      ((value.0, may_open_named g bridged i q there v o.may), value.1.cluster)

  -- so what it looks for isn't forged
  off_unforged : (v : SuperValue) → IsOff m.disk q v → AreMade g.made v (lying.after m.disk (Mend v))
  off_unforged v o =
      let x = off_right v o in
      let cs = mend_calls v m.disk.face in
      let face = o.calm.face in
      let calls = mend_are v m.disk.face x.0.0 in
      let one = effect_sealed home g.made (Mend v) m.disk v (record { fit = refl; calls = calls }) tt x.0 face disk_sealed in
      let top = may_open_short g bridged i q there v o.may in
      let window = checkpoint_low v x.0.0 in
      found_made g.made _ (has_after_all (IsSealed home g.made) cs m.disk.face disk_sealed one) v (lying.after m.disk (Mend v)).held m.disk.version (face_after_all cs m.disk.face face calls) x.1
      (subst (λ (n : ℕ). v.fields.checkpoint + 64 < spelled_from n) (sym x.1) (within_room home v.fields.checkpoint (length bridged.machine.made) (omega (arith, top, window)) low))

  start_sealed : (v : SuperValue) → m.replica ≡ None → IsOff m.disk q v
      → (let bs = begun_by m.fuse (opening_script v m.disk) m.disk in AllByRecursion ComesOfEntries bs → IsSealedWorld home (with_member w i (acts hazards i m (whole v m.disk))).world (g.made ++ made_in bs))
  start_sealed v run o plain =
      let d = m.disk in
      let xs = (mended v d).script in
      let ys = (resumed v d).script in
      let es = opening_script v d in
      let face = o.calm.face in
      let h = start_well w g i m q b fits stock at there stands v o (off_unforged v o) in
      let none : List ℕ → Type 0 = λ b. ⊥ in
      let later = (b_resuming {P = none} {Q = IsSealedBlock home g.made}).each g.n i d.version _ _ h.here (known_right home g.n i d.version xs ys h.known) in
      let blocks : AllByRecursion (WritesBlocks none (IsSealedBlock home g.made)) es = blocks_both none (IsSealedBlock home g.made) xs ys (mending_blocks none (IsSealedBlock home g.made) v d) later.blocks in
      let saves = start_saves g bridged fits i q there d (lies_fit.reads d face) v (opens_group w g i m q b fits stock at there stands v run o h.finds) in
      let split = begun_some m.fuse es d in
      let seals = begun_sealed home g.made none es (begun_by m.fuse es d) split.0 split.1 saves blocks plain in
      let said : AreGiven home g.made (messages (outputs es)) = λ n y k. given_none home g.made y.message (outputs_given none (IsSealedBlock home g.made) es blocks n y k) in
      acts_by w g.made s i m at (whole v d) v h.go (off_right v o).0 face said m.fuse seals

  begin_sealed : (o : Option Replica) → m.replica ≡ o → (let bs = begun_of (starting_by m o) in AllByRecursion ComesOfEntries bs → IsSealedWorld home (with_member w i (world.started_by hazards i m o)).world (g.made ++ made_in bs))
  unfolding messages
  begin_sealed (Some r) run plain = begun_none w g.made s i m at (with_member w i (stays m)).world (stay_sealed w g.made s i m at (stays m) refl refl)
  begin_sealed None run plain =
      let y = stands.stopped run in
      let v = y.0 in
      let opens_as = opened_as w g i m q b fits stock at there stands v y.1 in
      let all : (o : Option Step) → Some (whole v m.disk) ≡ o → AllByRecursion ComesOfEntries (begun_of (option_map (opening_as m) o))
      → IsSealedWorld home (with_member w i (option_map_or (acts hazards i m) o (stays m))).world (g.made ++ made_in (begun_of (option_map (opening_as m) o))) =
      λ o e. subst (λ (o : Option Step). AllByRecursion ComesOfEntries (begun_of (option_map (opening_as m) o)) → IsSealedWorld home (with_member w i (option_map_or (acts hazards i m) o (stays m))).world (g.made ++ made_in (begun_of (option_map (opening_as m) o)))) e (start_sealed v run y.1) in
      all (opened lying m.disk) (sym opens_as) plain

  -- ---- a migration

  module _ (v : SuperValue) (run : m.replica ≡ None) (o : IsOff m.disk q v) (first : v.fields.version ≡ 1) where
    abbrev new : SuperValue
    new = migrated v

    right : IsRight g.made v
    right = (off_right v o).0

    right_new : IsRight g.made new
    right_new = (new_good w g i m q b fits stock at there stands v run o first, right.1)

    -- once it is mended, and once its prepares are written at their new places
    mend_seals : AreSealed home g.made (mend_calls v m.disk.face)
    mend_seals = mend_sealed home g.made v right.0 (copy_are v right.0) right.1 m.disk.face

    abbrev mid : Face
    mid = (mended_on v m.disk).face

    mid_sealed : HasSectors (IsSealed home g.made) mid
    mid_sealed = has_after_all (IsSealed home g.made) (mend_calls v m.disk.face) m.disk.face disk_sealed mend_seals

    later_seals : AreSealed home g.made (slot_calls mid ++ write_calls v new (after_all mid (slot_calls mid)))
    later_seals =
        let ds = slot_calls mid in
        let f = after_all mid ds in
        seals_append home g.made ds (write_calls v new f) (moves_are_sealed home g.made mid mid_sealed) (save_sealed home g.made v new f right right_new)

    -- all that it writes is sealed
    migration_seals : AreSealed home g.made (migration_calls v m.disk.face)
    migration_seals =
        let later = slot_calls mid ++ write_calls v new (after_all mid (slot_calls mid)) in
        let rest : (t : Bool) → AreSealed home g.made (cond t [] later) = elim [ true ↦ tt | false ↦ later_seals ] in
        seals_append home g.made (mend_calls v m.disk.face) (cond (v.fields.version == 2) [] later) mend_seals (rest (v.fields.version == 2))

    moved_sealed : (fuse : Option Fuse) → IsSealedWorld home (with_member w i (migrated_with hazards i m v fuse)).world g.made
    unfolding messages
    moved_sealed fuse =
        world_set w g.made g.made (λ h x. x) s i m (migrated_with hazards i m v fuse) at (has_after_all (IsSealed home g.made) (migration_calls v m.disk.face) m.disk.face disk_sealed migration_seals) (no_message home g.made)

    moved_halted : (u : Fuse) → IsSealedWorld home (with_member w i (migration_halted hazards i m v u)).world g.made
    unfolding messages
    moved_halted u =
        world_set w g.made g.made (λ h x. x) s i m (migration_halted hazards i m v u) at (has_cut (IsSealed home g.made) (turned_sealed home g.made) (migration_calls v m.disk.face) m.disk.face u.calls u.code disk_sealed migration_seals) (no_message home g.made)

    moves_by : (fuse : Option Fuse) → IsSealedWorld home (with_member w i (migrated_or_halted hazards i m v fuse)).world g.made
    moves_by None = moved_sealed None
    moves_by (Some u) =
        let made = length (migration_calls v m.disk.face) in
        let rest : Fuse = record { calls = u.calls - made; code = u.code } in
        elim (nat_le made u.calls) as (λ t. IsSealedWorld home (with_member w i (cond t (migrated_with hazards i m v (Some rest)) (migration_halted hazards i m v u))).world g.made) [
          | true ↦ moved_sealed (Some rest)
          | false ↦ moved_halted u
        ]

  -- a migration makes no entry
  made_none : (fuse : Option Fuse) (k : Migration) → made_in (moved_by fuse k) ≡ []
  unfolding made_in
  made_none None k = refl
  made_none (Some u) k = elim (nat_lt u.calls (length (mend_calls k.value k.host.disk.face))) as (λ t. made_in (cond t (Mend k.value ∷ []) (migration k.value)) ≡ []) [ true ↦ refl | false ↦ refl ]

  abbrev MovesSealed : Option SuperValue → Type 0
  MovesSealed o = IsSealedWorld home (with_member w i (option_map_or (λ v. migrated_or_halted hazards i m v m.fuse) o (stays m))).world (g.made ++ made_in (moved_of (option_map (moving m) o)))

  migrate_sealed : (o : Option Replica) → m.replica ≡ o → MovesSealed (movable_by hazards m o)
  unfolding messages
  migrate_sealed (Some r) run = begun_none w g.made s i m at (with_member w i (stays m)).world (stay_sealed w g.made s i m at (stays m) refl refl)
  migrate_sealed None run =
      let y = stands.stopped run in
      let v = y.0 in
      let opens : movable_by hazards m None ≡ if_first v = ap (option_and_then if_first) (opens_as w g i m q b fits stock at there stands v y.1) in
      let by : (t : Bool) → (v.fields.version == 1) ≡ t → MovesSealed (cond t (Some v) None) = elim [
        | true ↦ λ t. (let all = with_member w i (migrated_or_halted hazards i m v m.fuse) in
            subst (IsSealedWorld home all.world) (sym (ap (λ (hs : List Header). g.made ++ hs) (made_none m.fuse (moving m v)) ∙ append-nil g.made)) (moves_by v run y.1 (eqb-true v.fields.version 1 t) m.fuse))
        | false ↦ λ t. begun_none w g.made s i m at (with_member w i (stays m)).world (stay_sealed w g.made s i m at (stays m) refl refl)
      ] in
      subst MovesSealed (sym opens) (by (v.fields.version == 1) refl)

  -- ---- a fault

  fault_sealed : (x : Fault) → IsFault x → IsSealedWorld home (with_member w i (world.lied m (unless_kept_out m.disk x))).world g.made
  unfolding unless_kept_out messages
  fault_sealed x within =
      elim (keeps_premise m.disk (faulted m.disk.face x)) as (λ t. IsSealedWorld home (with_member w i (world.lied m (cond t (Some (lied_to m.disk (faulted m.disk.face x))) None))).world g.made) [
        | false ↦ stay_sealed w g.made s i m at (world.lied m None) refl refl
        | true ↦ world_set w g.made g.made (λ h x. x) s i m (world.lied m (Some (lied_to m.disk (faulted m.disk.face x)))) at (has_fault (IsSealed home g.made) (turned_sealed home g.made) m.disk.face x within disk_sealed) (no_message home g.made)
      ]

-- ---- a line

module _ {home : ℕ} (w : World Lying) (g : Group) (b : AreBeside w g) (fits : IsFitGroup home g) (stock : IsStockedGroup g) (bridged : IsBridged home g) (low : length bridged.machine.made < room home) (s : IsSealedWorld home w g.made) where
  abbrev pub Leaves : List Effect → World Lying → Type 0
  Leaves es v = AllByRecursion ComesOfEntries es → IsSealedWorld home v (g.made ++ made_in es)

  nothing_leaves : Leaves [] w
  unfolding made_in
  nothing_leaves plain = subst (IsSealedWorld home w) (sym (append-nil g.made)) s

  at_place : (i : ℕ) (act : ℕ → world.Host Lying → Acted Lying) (es : Option (world.Host Lying) → List Effect) (o : Option (world.Host Lying)) → es None ≡ [] → slice_get w.members i ≡ o
      → ((m : world.Host Lying) (q : group.Member) → slice_get w.members i ≡ Some m → slice_get g.members i ≡ Some q → Stands m q → Leaves (es (Some m)) (with_member w i (act i m)).world) → Leaves (es o) (option_map_or (λ m. with_member w i (act i m)) o (nothing w)).world
  at_place i act es None z e h = subst (λ (es : List Effect). Leaves es w) (sym z) nothing_leaves
  at_place i act es (Some m) z e h = let y = b.each i m e in h m y.0 e y.1 y.2

  at_line : (i : ℕ) (act : ℕ → world.Host Lying → Acted Lying) (es : Option (world.Host Lying) → List Effect) → es None ≡ []
      → ((m : world.Host Lying) (q : group.Member) → slice_get w.members i ≡ Some m → slice_get g.members i ≡ Some q → Stands m q → Leaves (es (Some m)) (with_member w i (act i m)).world) → Leaves (es (slice_get w.members i)) (at_member w i act).world
  unfolding at_member
  at_line i act es z h = at_place i act es (slice_get w.members i) z refl h

  event_leaves : (i : ℕ) (arrival : Arrival) (e : Event) → IsArrival g i arrival e → IsFitArrival arrival → IsGivenEvent (IsSealedBlock home g.made) e → Leaves (begun_of (option_and_then (handling e) (slice_get w.members i))) (at_member w i (handles hazards e)).world
  event_leaves i arrival e arrives fit given =
      at_line i (handles hazards e) (λ (o : Option (world.Host Lying)). begun_of (option_and_then (handling e) o)) refl
      (λ m q at there y. handle_sealed w g b fits stock bridged low s i m q at there y arrival e m.replica refl arrives fit given)

  arrive_leaves : (number : ℕ) (o : Option Sent) → slice_get w.sent number ≡ o
      → Leaves (begun_of (option_and_then (λ (x : Sent). option_and_then (handling (event.Deliver x.message)) (slice_get w.members x.to)) o)) (delivered hazards w o).world
  arrive_leaves number None e = nothing_leaves
  arrive_leaves number (Some x) e =
      let in_group = ap (λ (ys : List Sent). slice_get ys number) b.sent ∙ e in
      let arrives : IsArrival g x.to (Message number) (event.Deliver x.message) = (x, in_group, refl, refl) in
      event_leaves x.to (Message number) (event.Deliver x.message) arrives tt (s.sent number x e)

  same_leaves : (i : ℕ) (act : ℕ → world.Host Lying → Acted Lying) → ((m : world.Host Lying) → ((act i m).member.disk ≡ m.disk) × (messages (act i m).outputs ≡ [])) → Leaves [] (at_member w i act).world
  same_leaves i act same = at_line i act (λ o. []) refl (λ m q at there y plain. begun_none w g.made s i m at (with_member w i (act i m)).world (stay_sealed w g.made s i m at (act i m) (same m).0 (same m).1))

  pub line_leaves : (x : Happening) → IsLine x → Leaves (begun_in w x) (happens hazards w x).world
  unfolding messages
  line_leaves (Begins kind n) line = absurd line
  line_leaves (Asks i r) line = event_leaves i (Asked r) (event.Request r) (line.0, refl) line.1 tt
  line_leaves (AsksInVersion i r) line =
      at_line i (world.asks hazards r) (λ (o : Option (world.Host Lying)). begun_of (option_and_then (asking r) o)) refl (λ m q at there y. ask_sealed w g b fits stock bridged low s i m q at there y r line.0 line.1 m.replica refl)
  line_leaves (Arrives x) line = arrive_leaves (x % length w.sent) (slice_get w.sent (x % length w.sent)) refl
  line_leaves (Ticks i) line = event_leaves i Time event.Tick refl tt tt
  line_leaves (Stops i) line = same_leaves i world.stops (λ m. (refl, refl))
  line_leaves (Starts i) line = at_line i (world.starts hazards) (λ (o : Option (world.Host Lying)). begun_of (option_and_then starting o)) refl (λ m q at there y. begin_sealed w g b fits stock bridged low s i m q at there y m.replica refl)
  line_leaves (Migrates i) line =
      at_line i (world.migrates hazards) (λ (o : Option (world.Host Lying)). moved_of (option_and_then (λ (m : world.Host Lying). option_map (moving m) (world.movable hazards m)) o)) refl
      (λ m q at there y plain. migrate_sealed w g b fits stock bridged low s i m q at there y m.replica refl)
  line_leaves (Fuses i c code) line = same_leaves i (world.fused c code) (λ m. (refl, refl))
  line_leaves (Lies i x) line =
      at_line i (world.lies hazards x) (λ o. []) refl (λ m q at there y plain. begun_none w g.made s i m at (with_member w i (world.lies hazards x i m)).world (fault_sealed w g b fits stock bridged low s i m q at there y x line))

  -- ---- nothing is forged

  same_some : (a c : SuperValue) → Some a ≡ Some c → a ≡ c
  same_some a c e = cc

  pub line_unforged : (x : Happening) → IsUnforged w g.made x
  line_unforged (Starts i) = λ m v at stopped is.
      let y = b.each i m at in
      let o = y.2.stopped stopped in
      let same = same_some o.0 v (sym o.1.value ∙ is) in
      subst (λ (v : SuperValue). AreMade g.made v (lying.after m.disk (Mend v))) same (off_unforged w g b fits stock bridged low s i m y.0 at y.1 y.2 o.0 o.1)
  line_unforged (Begins kind n) = tt
  line_unforged (Asks i r) = tt
  line_unforged (AsksInVersion i r) = tt
  line_unforged (Arrives x) = tt
  line_unforged (Ticks i) = tt
  line_unforged (Stops i) = tt
  line_unforged (Migrates i) = tt
  line_unforged (Fuses i c code) = tt
  line_unforged (Lies i x) = tt

-- In a run of a group every member's checkpoints, and the states of those that run, are the log's.
use Rattle.std.proofs.Common.{ℕ, zero, suc, ◌+◌, ◌-◌, ◌<◌, ◌≤◌, ◌≡◌, ◌∙◌, ◌⊎◌, inl, inr, arith, refl, sym, ap, subst, Bool, true, false, ◌||◌, List, [], ◌∷◌, ◌++◌, length, take, drop, Some, None}
use Rattle.std.specs.Prelude.{All, Contains, nat_lt, slice_get, slice_set}
use Rattle.std.proofs.lemmas.Bool.{cases_lt, le-ltb, lt-ltb, true≢false}
use Rattle.std.proofs.lemmas.List.{append-nil, take-append-drop}
use Rattle.std.proofs.Math.Seq.{take-append-add}
use Rattle.std.proofs.lemmas.List.Elements.{All-nil, All-cons, All-head, All-tail}
use Rattle.std.proofs.lemmas.Option.{slice_get_within}
use Rattle.vr_header.specs.Bodies.{operation_bytes}
use Rattle.vr_header.specs.Made.{Whole}
use Rattle.vr_header.specs.Names.{root_header}
use Rattle.vr_header.specs.NoCollision.{NoCollision}
use Rattle.vr_msg.specs.declared.event.Event.{Event}
use Rattle.vr_msg.specs.declared.output.Committed.{Committed}
use Rattle.vr_msg.specs.declared.output.Output.{Output}
use Rattle.vr_msg.specs.declared.output.Output.TheVariants as output
use Rattle.vr_msg.specs.declared.output.Sent.{Sent}
use Rattle.vr_super.specs.Copies.{IsGood, SuperValue}
use Rattle.vr_world.specs.Commitment.{is_line_of}
use Rattle.vr_rules.specs.Fit.{ReadsWell}
use Rattle.vr_world.specs.Group as group
use Rattle.vr_world.specs.Group.{Arrival, Group, IsArrival, MayOpen, Member, Move, Moved, Moves, Opens, Played, Run, Runs, carried_out, cut_after, cut_in_two, ended, found, fresh_group, fresh_member, goes, keeps_all, mended, migration, once_mended, opening_script, recovered, resumed, stepped}
use Rattle.vr_world.specs.Files.{IsFileAt}
use Rattle.vr_world.specs.GroupFit.{IsFitArrival, IsFitGroup, IsFitMember, IsFitReplica, IsFitValue}
use Rattle.vr_rules.specs.Laws.{IsEvent}
use Rattle.vr_world.specs.Lying.{Lying, lying}
use Rattle.vr_rules.specs.Opening.{blank, fresh, mending}
use Rattle.vr_rules.specs.Own.{IsAt}
use Rattle.vr_rules.specs.Replica.{Replica, is_frozen, is_spent, last_view}
use Rattle.vr_rules.specs.Rules.{react}
use Rattle.vr_world.specs.Safe as safe
use Rattle.vr_world.specs.Safe.{IsHashed, disks_of, read, wrote}
use Rattle.vr_rules.specs.Steps.{Effect, Write, Rewrite, Save, Mend, Checkpoint, PutBlock, Say, Step, by, outputs, quiet, says}
use Rattle.vr_rules.specs.Outputs.{messages}
use Rattle.vr_world.proofs.FitLies.{lies_fit, same_version}
use Rattle.vr_world.proofs.FitGroups.{fresh_at, good_value, start_is, step_is}
use Rattle.vr_rules.proofs.SendsScripts.{outputs_append}
use Rattle.law_1_machine.specs.Basics.{In}
use Rattle.law_2_chains.specs.Chains.{Every, IsBackedLine, Setup}
use Rattle.law_2_chains.specs.Bridge.{Bridges}
use Rattle.law_3_outputs.specs.Answering.{one_if}
use Rattle.law_3_outputs.specs.Followed.{IsFollowed}
use Rattle.law_3_outputs.specs.Ordered.{AreInOrder}
use Rattle.law_3_outputs.specs.Replied.{IsLogOf, root_told}
use Rattle.law_3_outputs.proofs.Fitting.{arrives, file_at, fit_at, move_of, opening_of}
use Rattle.law_3_outputs.proofs.Ordering.{come_in_order}
use Rattle.law_3_outputs.proofs.Reading.{opening_reads, reads_good}
use Rattle.law_3_outputs.proofs.Resuming.{on_disk, resumed_order, said_right}
use Rattle.law_2_chains.proofs.StoredLists.{in_contains}
use Rattle.law_3_outputs.proofs.Sets.{every_at, get_in, in_left, in_right}
use Rattle.law_3_outputs.proofs.SlotCalls.{IsTaken, member_taken, read_or_written}
use Rattle.law_6_one_log.specs.Hashed.{ReadsHashed}
use Rattle.law_6_one_log.proofs.Disks.{Begun}
use Rattle.law_6_one_log.proofs.Lines.{lines_may}
use Rattle.law_6_one_log.proofs.Members.{Values, bears_front, borne_all, carried_values, cut_values, every_front, kept_values}
use Rattle.law_6_one_log.proofs.Opening.{L, all_calm, live_at, mending_at, mending_calm, spent_at}
use Rattle.law_6_one_log.proofs.Reacting.{IsTrueEvent, react_at}
use Rattle.vr_world.specs.Checkpoints.{IsCheckpointOf}
use Rattle.vr_msg.specs.declared.frame.Frame.TheVariants as frame
use Rattle.vr_msg.specs.declared.frame.SyncView.{SyncView}
use Rattle.law_6_one_log.proofs.Values.{IsRooted, Rests, Stands, core, first_table, offered_is}
use Rattle.law_6_one_log.proofs.Walk.{AllMay, Bears, IsBorne, IsTrueFrame, IsTrueOutput, Settles, WellAt}
use Rattle.law_6_one_log.proofs.Words.{S}

-- ---- lists

ordered_front : (i m : ℕ) (a b : List Output) → AreInOrder i m (a ++ b) → AreInOrder i m a
unfolding AreInOrder
ordered_front i m [] b h = tt
ordered_front i m (o ∷ a) b h = (h.0, ordered_front i (m + one_if (is_line_of i o)) a b h.1)

all_front : {X : Type 0} (P : X → Type 0) (xs ys : List X) → All P (xs ++ ys) → All P xs
all_front P [] ys h = All-nil P
all_front P (x ∷ xs) ys h = All-cons P x xs (All-head P x (xs ++ ys) h) (all_front P xs ys (All-tail P x (xs ++ ys) h))

all_back : {X : Type 0} (P : X → Type 0) (xs ys : List X) → All P (xs ++ ys) → All P ys
all_back P [] ys h = h
all_back P (x ∷ xs) ys h = all_back P xs ys (All-tail P x (xs ++ ys) h)

set_got : {X : Type 0} (xs : List X) (i j : ℕ) (y z : X) → slice_get (slice_set xs i y) j ≡ Some z → (y ≡ z) ⊎ (slice_get xs j ≡ Some z)
set_got [] i j y z e = absurd cc
set_got (x ∷ xs) zero zero y z e = inl cc
set_got (x ∷ xs) zero (suc j) y z e = inr e
set_got (x ∷ xs) (suc i) zero y z e = inr e
set_got (x ∷ xs) (suc i) (suc j) y z e = set_got xs i j y z e

or_right : (a b : Bool) → b ≡ true → (a || b) ≡ true
or_right true b e = refl
or_right false b e = e

frozen_is : (e : Event) (r : Replica) (d : Lying) → is_frozen r ≡ true → stepped e r d ≡ record { replica = r; script = [] }
unfolding react by quiet
frozen_is e r d z = rw z refl

spent_is : (v : SuperValue) (d : Lying) → is_spent (recovered v d) ≡ true → (resumed v d).replica ≡ recovered v d
unfolding by says
spent_is v d z = rw z refl

every_none : {X : Type 0} (P : X → Type 0) (xs ys : List X) → xs ++ ys ≡ [] → Every P xs
every_none P [] ys e = tt
every_none P (x ∷ xs) ys e = absurd cc

every_both : {X : Type 0} (P : X → Type 0) (xs ys : List X) → Every P xs → Every P ys → Every P (xs ++ ys)
every_both P [] ys h k = k
every_both P (x ∷ xs) ys h k = (h.0, every_both P xs ys h.1 k)

every_first : {X : Type 0} (P : X → Type 0) (k : ℕ) (xs ys : List X) → k ≤ length xs → Every P xs → Every P (take k (xs ++ ys))
every_first P zero xs ys l h = tt
every_first P (suc k) [] ys l h = absurd (omega arith)
every_first P (suc k) (x ∷ xs) ys l h = (h.0, every_first P k xs ys (omega arith) h.1)

-- ---- what effects put out

said_by : (es : List Effect) (o : Output) → In o (outputs es) → In (Say o) es
unfolding outputs
said_by [] o h = absurd h
said_by (Write again e ∷ es) o h = inr (said_by es o h)
said_by (Rewrite x ∷ es) o h = inr (said_by es o h)
said_by (Save old new ∷ es) o h = inr (said_by es o h)
said_by (Mend v ∷ es) o h = inr (said_by es o h)
said_by (Checkpoint by texts op old ∷ es) o h = inr (said_by es o h)
said_by (PutBlock name block ∷ es) o h = inr (said_by es o h)
said_by (Say p ∷ es) o (inl e) = inl (ap Say e)
said_by (Say p ∷ es) o (inr h) = inr (said_by es o h)

said_out : (es : List Effect) (o : Output) → In (Say o) es → In o (outputs es)
unfolding outputs
said_out [] o h = absurd h
said_out (Write again e ∷ es) o (inl same) = absurd cc
said_out (Write again e ∷ es) o (inr h) = said_out es o h
said_out (Rewrite x ∷ es) o (inl same) = absurd cc
said_out (Rewrite x ∷ es) o (inr h) = said_out es o h
said_out (Save old new ∷ es) o (inl same) = absurd cc
said_out (Save old new ∷ es) o (inr h) = said_out es o h
said_out (Mend v ∷ es) o (inl same) = absurd cc
said_out (Mend v ∷ es) o (inr h) = said_out es o h
said_out (Checkpoint by texts op old ∷ es) o (inl same) = absurd cc
said_out (Checkpoint by texts op old ∷ es) o (inr h) = said_out es o h
said_out (PutBlock name block ∷ es) o (inl same) = absurd cc
said_out (PutBlock name block ∷ es) o (inr h) = said_out es o h
said_out (Say p ∷ es) o (inl same) = inl (let e : Say o ≡ Say p = same in cc)
said_out (Say p ∷ es) o (inr h) = inr (said_out es o h)

-- ---- messages

module _ (H : List ℕ → Type 0) (cluster : ℕ) (log : List Whole) where
  abbrev IsTold : Sent → Type 0
  IsTold s = IsTrueFrame H cluster log s.message

  output_told : (o : Output) → IsTrueOutput H cluster log o → Every IsTold (messages (o ∷ []))
  unfolding messages
  output_told (output.Send s) h = (h, tt)
  output_told (output.Commit c) h = tt
  output_told (output.Reply a) h = tt
  output_told (output.Choose c) h = tt
  output_told (output.Wait w) h = tt
  output_told (output.Start s) h = tt
  output_told (output.Halted r) h = tt
  output_told (output.Migrated r) h = tt
  output_told output.Done h = tt
  output_told output.KeptOut h = tt

  messages_told : (os : List Output) → Every (IsTrueOutput H cluster log) os → Every IsTold (messages os)
  unfolding messages
  messages_told [] h = tt
  messages_told (o ∷ os) h = every_both IsTold _ (messages os) (subst (Every IsTold) (append-nil _) (output_told o h.0)) (messages_told os h.1)

  -- of what is borne
  outputs_told : (es : List Effect) → Every (IsBorne H cluster log) es → Every (IsTrueOutput H cluster log) (outputs es)
  unfolding outputs
  outputs_told [] h = tt
  outputs_told (Write again e ∷ es) h = outputs_told es h.1
  outputs_told (Rewrite x ∷ es) h = outputs_told es h.1
  outputs_told (Save old new ∷ es) h = outputs_told es h.1
  outputs_told (Mend v ∷ es) h = outputs_told es h.1
  outputs_told (Checkpoint by texts op old ∷ es) h = outputs_told es h.1
  outputs_told (PutBlock name block ∷ es) h = outputs_told es h.1
  outputs_told (Say o ∷ es) h = (h.0, outputs_told es h.1)

-- ---- a run

module _ (cluster n : ℕ) (u : Setup) (run : List Played) (x : IsFollowed cluster n u run) (bridges : (t : ℕ) (p : Played) → slice_get run t ≡ Some p → Bridges u p.before (x.group t))
    (never : NoCollision (IsHashed run (root_header cluster))) (log : List Whole) (is_log : IsLogOf cluster u run (x.group (length run)).sent log) where
  abbrev pub H : List ℕ → Type 0
  H bytes = IsHashed run (root_header cluster) bytes

  -- the checkpoints of both its values, and where it runs its own, are the log's; and so is its state, where it isn't frozen
  pub record MemberStands (m : Member) : Type 0 where
    pub values : Values H cluster log m
    pub rests : (r : Replica) → m.replica ≡ Some r → Rests H cluster log (core r)
    pub stands : (r : Replica) → m.replica ≡ Some r → is_frozen r ≡ false → Stands H cluster log (core r)

  -- and so are the checkpoints that were given with the logs of views
  abbrev pub AllTold : Group → Type 0
  AllTold g = Every (IsTold H cluster log) g.sent

  abbrev pub AllStand : Group → Type 0
  AllStand g = (at : ℕ) (m : Member) → slice_get g.members at ≡ Some m → MemberStands m

  stopped_stands : (m : Member) → Values H cluster log m → MemberStands (record m { replica = None })
  stopped_stands m h = record { values = record { last = h.last; under = h.under }; rests = λ r e. absurd cc; stands = λ r e f. absurd cc }

  running_stands : (m : Member) (q : Replica) → Values H cluster log m → Rests H cluster log (core q) → (is_frozen q ≡ false → Stands H cluster log (core q)) → MemberStands (record m { replica = Some q })
  running_stands m q h rests stands = record {
    values = record { last = h.last; under = h.under };
    rests = λ r e. let same : q ≡ r = cc in subst (λ r. Rests H cluster log (core r)) same rests;
    stands = λ r e. let same : q ≡ r = cc in subst (λ r. is_frozen r ≡ false → Stands H cluster log (core r)) same stands;
  }

  set_stands : (g : Group) (at : ℕ) (m : Member) (members : List Member) → members ≡ slice_set g.members at m → AllStand g → MemberStands m → (j : ℕ) (y : Member) → slice_get members j ≡ Some y → MemberStands y
  set_stands g at m members is all h j y e =
      elim (set_got g.members at j m y (subst (λ (ms : List Member). slice_get ms j ≡ Some y) is e)) [ inl same ↦ subst MemberStands same h | inr old ↦ all j y old ]

  -- a value as which a member may open
  may_rooted : (m : Member) (v : SuperValue) → MayOpen m v → Values H cluster log m → IsRooted H cluster log v
  may_rooted m v may h = elim may [ inl e ↦ subst (IsRooted H cluster log) e h.last | inr e ↦ h.under v e ]

  -- the checkpoint of the value that is saved by a migration is that of the one before
  migration_borne : (m : Member) (v : SuperValue) → MayOpen m v → Values H cluster log m → Every (IsBorne H cluster log) (migration v)
  migration_borne m v may h = let rooted = may_rooted m v may h in (rooted, (rooted, tt))

  migration_cut_borne : (m : Member) (v : SuperValue) (k : ℕ) → MayOpen m v → Values H cluster log m → Every (IsBorne H cluster log) (take (suc k) (migration v))
  migration_cut_borne m v k may h = every_front (IsBorne H cluster log) (suc k) (migration v) (migration_borne m v may h)

  -- a message that was sent
  arrives_told : (g : Group) (at : ℕ) (arrival : Arrival) (e : Event) → AllTold g → IsArrival g at arrival e → IsTrueEvent H cluster log e
  arrives_told g at (group.Asked q) e told i = subst (IsTrueEvent H cluster log) (sym i.1) tt
  arrives_told g at (group.Message number) e told i = subst (IsTrueEvent H cluster log) (sym i.3) (every_at (IsTold H cluster log) g.sent number i.0 i.1 told)
  arrives_told g at group.Time e told i = subst (IsTrueEvent H cluster log) (sym i) tt

  -- ---- what a move hashes

  module _ (t : ℕ) (p : Played) (is : slice_get run t ≡ Some p) where
    here : Contains run p
    here = in_contains p run (get_in run t p is)

    pub begun_in : (e : Effect) → In e p.moved.script → Begun H e
    begun_in e i bytes w = wrote p e bytes here (in_contains e p.moved.script i) w

    pub reads_in : (d : Lying) → Contains (disks_of p.move) d → ReadsHashed H d.face
    reads_in d face name c e = record { payload = read p d c.payload here face (safe.IsRead.payload name c e); header = read p d _ here face (safe.IsRead.block name c e) }

    entries_in : (d : Lying) → Contains (disks_of p.move) d → (slot : ℕ) (e : Whole) → slot < 64 → lying.entry d slot ≡ Some e → H (operation_bytes e.operation)
    entries_in d face slot e l q = read p d _ here face (safe.IsRead.operation slot e q)

    pub fit_group : IsFitGroup cluster p.before
    fit_group = (fit_at cluster n run x.fit t p is).0.0

    mine : IsFitGroup u.cluster p.before
    mine = subst (λ c. IsFitGroup c p.before) (sym x.cluster_is) fit_group

    later : suc t ≤ length run
    later = let w = slice_get_within run t p is in omega arith

    -- a commit line that the move begins to put out
    begun_told : (xs : List Effect) → ((z : Effect) → In z xs → In z p.moved.script) → (c : Committed) → In (output.Commit c) (outputs xs) → IsBackedLine u (x.group (suc t)).sent c.entry.header
    begun_told xs has c j = (x.carried t p is).lines c (said_out p.moved.script (output.Commit c) (has (Say (output.Commit c)) (said_by xs (output.Commit c) j)))

    -- ---- a step

    module _ (at : ℕ) (arrival : Arrival) (e : Event) (d : Lying) (m : Member) (r : Replica) (runs : Runs p.before at m r) (came : IsArrival p.before at arrival e) (face : Contains (disks_of p.move) d)
        (fit : IsFitArrival arrival × ReadsWell lying d) (file : IsFileAt p.before at d) (told : AllTold p.before) where
      abbrev es : List Effect
      es = (stepped e r d).script

      acting : IsFitMember cluster p.before.n at m
      acting = fit_group.members at m runs.member

      own : IsFitReplica r × IsAt cluster p.before.n at m.last.fields.version r
      own = acting.running r runs.running

      event : IsEvent e
      event = arrives cluster p.before at arrival e fit_group fit.0 came

      step_taken : All (IsTaken d.version) es
      step_taken = member_taken cluster p.before.n at m.last d es acting.last.0 (file m runs.member) (step_is cluster p.before.n at m.last.fields.version r e d own.0 own.1 event fit.1).known

      step_may : (xs ys : List Effect) → xs ++ ys ≡ es → ((z : Effect) → In z xs → In z p.moved.script) → AllMay H cluster log r.index r.applied d xs
      step_may xs ys are has =
          let said : outputs es ≡ outputs xs ++ outputs ys = ap outputs (sym are) ∙ outputs_append xs ys in
          let order = (come_in_order lying r d e lies_fit.names own.0.sound event).ordered in
          lines_may cluster n u run x never log is_log (suc t) later r.index r.applied d xs (all_front (IsTaken d.version) xs ys (subst (All (IsTaken d.version)) (sym are) step_taken)) (ordered_front r.index r.applied (outputs xs) (outputs ys) (subst (AreInOrder r.index r.applied) said order))
          (λ c j. let i = subst (λ (os : List Output). In (output.Commit c) os) (sym said) (in_left (outputs xs) (outputs ys) (output.Commit c) j) in
          (begun_told xs has c j, reads_good lying d r e lies_fit.program lies_fit.roots fit.1 own.0.sound own.0.savable own.0.blocks event c i))
          (λ z i. begun_in z (has z i)) (entries_in d face)

      event_told : IsTrueEvent H cluster log e
      event_told = arrives_told p.before at arrival e told came

      step_well : is_frozen r ≡ false → Stands H cluster log (core r) → Settles H cluster log (S H never cluster log) r d (stepped e r d)
      step_well free h = react_at H never cluster log r d own.0.sound.waits (reads_in d face) h e event_told free

      -- what it writes, or what a cut leaves of it
      step_borne : MemberStands m → (xs ys : List Effect) → xs ++ ys ≡ es → ((z : Effect) → In z xs → In z p.moved.script) → Every (IsBorne H cluster log) xs
      step_borne h xs ys are has =
          let go : (b : Bool) → is_frozen r ≡ b → Every (IsBorne H cluster log) xs = elim [
            | false ↦ λ z.
                let w = step_well z (h.stands r runs.running z) in
                let bears = bears_front H cluster log r.index r.applied d xs ys (subst (Bears H cluster log r.index r.applied d) (sym are) w.bears) in
                borne_all H cluster log r.index r.applied d xs bears (step_may xs ys are has)
            | true ↦ λ z. every_none (IsBorne H cluster log) xs ys (are ∙ ap (λ (s : Step). s.script) (frozen_is e r d z))
          ] in
          go (is_frozen r) refl

      pub front_borne : MemberStands m → (k : ℕ) → ((z : Effect) → In z (take k es) → In z p.moved.script) → Every (IsBorne H cluster log) (take k es)
      front_borne h k has = step_borne h (take k es) (drop k es) (take-append-drop k es) has

      pub all_borne : MemberStands m → ((z : Effect) → In z es → In z p.moved.script) → Every (IsBorne H cluster log) es
      all_borne h has = step_borne h es [] (append-nil es) has

      pub step_stands : MemberStands m → ((z : Effect) → In z es → In z p.moved.script) → MemberStands (record (carried_out es m) { replica = Some (stepped e r d).replica })
      unfolding carried_out
      step_stands h has =
          let go : (b : Bool) → is_frozen r ≡ b → MemberStands (record (carried_out es m) { replica = Some (stepped e r d).replica }) = elim [
            | false ↦ λ z.
                let w = step_well z (h.stands r runs.running z) in
                let all = step_may es [] (append-nil es) has in
                let l = w.holds all in
                running_stands (carried_out es m) (stepped e r d).replica (carried_values H cluster log es m (all_borne h has) h.values) l.rests (λ f. l)
            | true ↦ λ z.
                let same = frozen_is e r d z in
                subst (λ (s : Step). MemberStands (record (carried_out s.script m) { replica = Some s.replica })) (sym same)
                (running_stands m r h.values (h.rests r runs.running) (λ f. h.stands r runs.running f))
          ] in
          go (is_frozen r) refl

      pub step_cut : MemberStands m → (k : ℕ) → ((z : Effect) → In z (take (suc k) es) → In z p.moved.script) → Values H cluster log (cut_after k es m)
      step_cut h k has = cut_values H cluster log k es m (front_borne h (suc k) has) h.values

    -- ---- an opening

    module _ (at : ℕ) (m : Member) (v : SuperValue) (d : Lying) (wakes : Opens p.before at m v d) (face : Contains (disks_of p.move) d) (fit : ReadsWell lying d) (file : d.version ≡ v.fields.version) (h : MemberStands m) where
      abbrev xs : List Effect
      xs = (mended v d).script

      abbrev ys : List Effect
      ys = (resumed v d).script

      waking : IsFitMember cluster p.before.n at m
      waking = fit_group.members at m wakes.member

      value : IsFitValue cluster p.before.n at v
      value = good_value cluster p.before.n at m v waking wakes.value

      good : IsGood v
      good = opening_of cluster p.before at m v fit_group wakes.member wakes.value

      pub value_rooted : IsRooted H cluster log v
      value_rooted = may_rooted m v wakes.value h.values

      mends : WellAt H cluster log (L H never cluster log) (mending v) (blank v) d
      mends = mending_at H never cluster log v d value.1.cluster value_rooted (reads_in d face)

      mends_may : AllMay H cluster log (blank v).index (blank v).applied d xs
      mends_may = all_calm H never cluster log (blank v).index (blank v).applied d xs (mending_calm v d)

      pub found_waits : L H never cluster log (core (recovered v d)) (on_disk v d)
      found_waits = (mends.left mends_may).holds

      mends_borne : Every (IsBorne H cluster log) xs
      mends_borne = borne_all H cluster log (blank v).index (blank v).applied d xs mends.bears mends_may

      script_taken : All (IsTaken d.version) (xs ++ ys)
      script_taken = member_taken cluster p.before.n at v d (xs ++ ys) good file (start_is cluster p.before.n at v.fields.version v d value fit).known

      rest_may : ((z : Effect) → In z xs → In z p.moved.script) → (fs gs : List Effect) → fs ++ gs ≡ ys → ((z : Effect) → In z fs → In z p.moved.script) → AllMay H cluster log (recovered v d).index (recovered v d).applied (on_disk v d) fs
      rest_may first fs gs are has =
          let q : Replica = recovered v d in
          let said : outputs ys ≡ outputs fs ++ outputs gs = ap outputs (sym are) ∙ outputs_append fs gs in
          let order = (resumed_order v d good fit).ordered in
          let ver = (on_disk v d).version in
          let taken : All (IsTaken ver) ys = subst (λ (k : ℕ). All (IsTaken k) ys) (sym (same_version xs d)) (all_back (IsTaken d.version) xs ys script_taken) in
          lines_may cluster n u run x never log is_log (suc t) later q.index q.applied (on_disk v d) fs (all_front (IsTaken ver) fs gs (subst (All (IsTaken ver)) (sym are) taken)) (ordered_front q.index q.applied (outputs fs) (outputs gs) (subst (AreInOrder q.index q.applied) said order))
          (λ c j. let i = subst (λ (os : List Output). In (output.Commit c) os) (sym said) (in_left (outputs fs) (outputs gs) (output.Commit c) j) in
          (begun_told fs has c j, opening_reads v d good fit c (said_right xs ys (output.Commit c) i)))
          (λ z i. begun_in z (has z i))
          (λ slot e l q. elim (read_or_written xs d (all_front (IsTaken d.version) xs ys script_taken) slot e l q) [
            | inl old ↦ entries_in d face slot e l old
            | inr w ↦ begun_in (Write w.0 e) (first (Write w.0 e) w.1) _ (safe.IsWritten.operation w.0 e)
          ])

      rest_bears : Bears H cluster log (recovered v d).index (recovered v d).applied (on_disk v d) ys
      rest_bears =
          let q : Replica = recovered v d in
          let go : (b : Bool) → is_spent q ≡ b → Bears H cluster log q.index q.applied (on_disk v d) ys = elim [
            | true ↦ λ z. (spent_at H never cluster log q (on_disk v d) z found_waits).bears
            | false ↦ λ z. (live_at H never cluster log q (on_disk v d) z found_waits).bears
          ] in
          go (is_spent q) refl

      pub opened_stands : ((z : Effect) → In z (xs ++ ys) → In z p.moved.script) → MemberStands (record (carried_out ys (once_mended v d m)) { replica = Some (resumed v d).replica })
      opened_stands has =
          let q : Replica = recovered v d in
          let all = rest_may (λ z i. has z (in_left xs ys z i)) ys [] (append-nil ys) (λ z i. has z (in_right xs ys z i)) in
          let borne = borne_all H cluster log q.index q.applied (on_disk v d) ys rest_bears all in
          let values = carried_values H cluster log ys (once_mended v d m) borne (kept_values H cluster log (found v d) (carried_out xs m) (carried_values H cluster log xs m mends_borne h.values)) in
          let go : (b : Bool) → is_spent q ≡ b → MemberStands (record (carried_out ys (once_mended v d m)) { replica = Some (resumed v d).replica }) = elim [
            | true ↦ λ z.
                let l = (spent_at H never cluster log q (on_disk v d) z found_waits).left all in
                let frozen : is_frozen (resumed v d).replica ≡ true = ap is_frozen (spent_is v d z) ∙ or_right (nat_lt last_view q.view) (is_spent q) z in
                running_stands (carried_out ys (once_mended v d m)) (resumed v d).replica values l.holds.rests (λ f. absurd (true≢false (sym frozen ∙ f)))
            | false ↦ λ z.
                let l = (live_at H never cluster log q (on_disk v d) z found_waits).left all in
                running_stands (carried_out ys (once_mended v d m)) (resumed v d).replica values l.holds.rests (λ f. l.holds)
          ] in
          go (is_spent q) refl

      rest_borne : (k : ℕ) → ((z : Effect) → In z (xs ++ take k ys) → In z p.moved.script) → Every (IsBorne H cluster log) (take k ys)
      rest_borne k has =
          let q : Replica = recovered v d in
          let fs : List Effect = take k ys in
          let gs : List Effect = drop k ys in
          let are : fs ++ gs ≡ ys = take-append-drop k ys in
          let all = rest_may (λ z i. has z (in_left xs fs z i)) fs gs are (λ z i. has z (in_right xs fs z i)) in
          borne_all H cluster log q.index q.applied (on_disk v d) fs (bears_front H cluster log q.index q.applied (on_disk v d) fs gs (subst (Bears H cluster log q.index q.applied (on_disk v d)) (sym are) rest_bears)) all

      parts : (k : ℕ) → length xs ≤ k → take (k + 1) (xs ++ ys) ≡ xs ++ take (suc (k - length xs)) ys
      parts k past = let place : k + 1 ≡ length xs + suc (k - length xs) = omega arith in ap (λ (n : ℕ). take n (xs ++ ys)) place ∙ take-append-add xs ys (suc (k - length xs))

      past_borne : (k : ℕ) → length xs ≤ k → ((z : Effect) → In z (take (k + 1) (xs ++ ys)) → In z p.moved.script) → Every (IsBorne H cluster log) (take (suc (k - length xs)) ys)
      past_borne k past has = rest_borne (suc (k - length xs)) (λ z i. has z (subst (λ (zs : List Effect). In z zs) (sym (parts k past)) i))

      pub opened_cut : (k : ℕ) → ((z : Effect) → In z (take (k + 1) (xs ++ ys)) → In z p.moved.script) → Values H cluster log (cut_in_two xs ys (keeps_all (found v d)) k m)
      opened_cut k has =
          elim (cases_lt k (length xs)) [
            | inl first ↦ rw (lt-ltb k (length xs) first) (cut_values H cluster log k xs m (every_front (IsBorne H cluster log) (suc k) xs mends_borne) h.values)
            | inr past ↦ rw (le-ltb k (length xs) past)
                (cut_values H cluster log (k - length xs) ys (once_mended v d m) (past_borne k past has) (kept_values H cluster log (found v d) (carried_out xs m) (carried_values H cluster log xs m mends_borne h.values)))
          ]

      pub opened_borne : ((z : Effect) → In z (xs ++ ys) → In z p.moved.script) → Every (IsBorne H cluster log) (xs ++ ys)
      opened_borne has =
          let q : Replica = recovered v d in
          let all = rest_may (λ z i. has z (in_left xs ys z i)) ys [] (append-nil ys) (λ z i. has z (in_right xs ys z i)) in
          every_both (IsBorne H cluster log) xs ys mends_borne (borne_all H cluster log q.index q.applied (on_disk v d) ys rest_bears all)

      pub cut_borne : (k : ℕ) → ((z : Effect) → In z (take (k + 1) (xs ++ ys)) → In z p.moved.script) → Every (IsBorne H cluster log) (take (k + 1) (xs ++ ys))
      cut_borne k has =
          elim (cases_lt k (length xs)) [
            | inl first ↦ every_first (IsBorne H cluster log) (k + 1) xs ys (omega arith) mends_borne
            | inr past ↦ subst (Every (IsBorne H cluster log)) (sym (parts k past)) (every_both (IsBorne H cluster log) xs (take (suc (k - length xs)) ys) mends_borne (past_borne k past has))
          ]

  -- ---- moves

  moved_stand : (t : ℕ) (g : Group) (move : Move) (moved : Moved) → slice_get run t ≡ Some (record { before = g; move = move; moved = moved }) → Moves g move moved → AllTold g → AllStand g → AllStand moved.group
  moved_stand t g _ _ is (group.steps at arrival e d m r runs came) told all =
      let p : Played = record { before = g; move = group.Steps at arrival e d; moved = group.finished g at m (stepped e r d) } in
      let fit = (fit_at cluster n run x.fit t p is).1 in
      set_stands g at (record (carried_out (stepped e r d).script m) { replica = Some (stepped e r d).replica }) _ refl all (step_stands t p is at arrival e d m r runs came (0, omega arith, refl) fit (file_at cluster n run x.fit t p is) told (all at m runs.member) (λ z i. i))
  moved_stand t g _ _ is (group.cuts at arrival e d k m r runs came) told all =
      let p : Played = record { before = g; move = group.Cuts at arrival e d k; moved = group.cut_short g at m (stepped e r d) k } in
      let fit = (fit_at cluster n run x.fit t p is).1 in
      let same : suc k ≡ k + 1 = omega arith in
      let has : (z : Effect) → In z (take (suc k) (stepped e r d).script) → In z p.moved.script = λ z i. subst (λ j. In z (take j (stepped e r d).script)) same i in
      set_stands g at (record (cut_after k (stepped e r d).script m) { replica = None }) _ refl all (stopped_stands (cut_after k (stepped e r d).script m) (step_cut t p is at arrival e d m r runs came (0, omega arith, refl) fit (file_at cluster n run x.fit t p is) told (all at m runs.member) k has))
  moved_stand t g _ _ is (group.crashes at m there) told all = set_stands g at (record m { replica = None }) _ refl all (stopped_stands m (all at m there).values)
  moved_stand t g _ _ is (group.recovers at v d m wakes) told all =
      let p : Played = record { before = g; move = group.Recovers at v d; moved = group.started g at m v d } in
      let fit = (fit_at cluster n run x.fit t p is).1 in
      set_stands g at (record (carried_out (resumed v d).script (once_mended v d m)) { replica = Some (resumed v d).replica }) _ refl all (opened_stands t p is at m v d wakes (0, omega arith, refl) fit (file_at cluster n run x.fit t p is) (all at m wakes.member) (λ z i. i))
  moved_stand t g _ _ is (group.recovers_cut at v d k m wakes) told all =
      let p : Played = record { before = g; move = group.RecoversCut at v d k; moved = group.start_cut g at m v d k } in
      let fit = (fit_at cluster n run x.fit t p is).1 in
      set_stands g at (record (cut_in_two (mended v d).script (resumed v d).script (keeps_all (found v d)) k m) { replica = None }) _ refl all
      (stopped_stands (cut_in_two (mended v d).script (resumed v d).script (keeps_all (found v d)) k m) (opened_cut t p is at m v d wakes (0, omega arith, refl) fit (file_at cluster n run x.fit t p is) (all at m wakes.member) k (λ z i. i)))
  moved_stand t g _ _ is (group.migrates at v m o) told all =
      let values = (all at m o.member).values in
      set_stands g at (record (carried_out (migration v) m) { replica = None }) _ refl all (stopped_stands (carried_out (migration v) m) (carried_values H cluster log (migration v) m (migration_borne m v o.value values) values))
  moved_stand t g _ _ is (group.migrates_cut at v k m o) told all =
      let values = (all at m o.member).values in
      set_stands g at (record (cut_after k (migration v) m) { replica = None }) _ refl all (stopped_stands (cut_after k (migration v) m) (cut_values H cluster log k (migration v) m (migration_cut_borne m v k o.value values) values))

  -- what a move writes, as far as it got
  moved_borne : (t : ℕ) (g : Group) (move : Move) (moved : Moved) → slice_get run t ≡ Some (record { before = g; move = move; moved = moved }) → Moves g move moved → AllTold g → AllStand g → Every (IsBorne H cluster log) moved.script
  moved_borne t g _ _ is (group.steps at arrival e d m r runs came) told all =
      let p : Played = record { before = g; move = group.Steps at arrival e d; moved = group.finished g at m (stepped e r d) } in
      all_borne t p is at arrival e d m r runs came (0, omega arith, refl) (fit_at cluster n run x.fit t p is).1 (file_at cluster n run x.fit t p is) told (all at m runs.member) (λ z i. i)
  moved_borne t g _ _ is (group.cuts at arrival e d k m r runs came) told all =
      let p : Played = record { before = g; move = group.Cuts at arrival e d k; moved = group.cut_short g at m (stepped e r d) k } in
      front_borne t p is at arrival e d m r runs came (0, omega arith, refl) (fit_at cluster n run x.fit t p is).1 (file_at cluster n run x.fit t p is) told (all at m runs.member) (k + 1) (λ z i. i)
  moved_borne t g _ _ is (group.crashes at m there) told all = tt
  moved_borne t g _ _ is (group.recovers at v d m wakes) told all =
      let p : Played = record { before = g; move = group.Recovers at v d; moved = group.started g at m v d } in
      opened_borne t p is at m v d wakes (0, omega arith, refl) (fit_at cluster n run x.fit t p is).1 (file_at cluster n run x.fit t p is) (all at m wakes.member) (λ z i. i)
  moved_borne t g _ _ is (group.recovers_cut at v d k m wakes) told all =
      let p : Played = record { before = g; move = group.RecoversCut at v d k; moved = group.start_cut g at m v d k } in
      cut_borne t p is at m v d wakes (0, omega arith, refl) (fit_at cluster n run x.fit t p is).1 (file_at cluster n run x.fit t p is) (all at m wakes.member) k (λ z i. i)
  moved_borne t g _ _ is (group.migrates at v m o) told all = migration_borne m v o.value (all at m o.member).values
  moved_borne t g _ _ is (group.migrates_cut at v k m o) told all =
      let place : suc k ≡ k + 1 = omega arith in
      subst (λ (j : ℕ). Every (IsBorne H cluster log) (take j (migration v))) place (migration_cut_borne m v k o.value (all at m o.member).values)

  -- what it puts out is of what it writes
  moved_outputs : (g : Group) (move : Move) (moved : Moved) → Moves g move moved → Every (IsBorne H cluster log) moved.script → Every (IsTrueOutput H cluster log) moved.outputs
  moved_outputs g _ _ (group.steps at arrival e d m r runs came) h = outputs_told H cluster log (stepped e r d).script h
  moved_outputs g _ _ (group.cuts at arrival e d k m r runs came) h = tt
  moved_outputs g _ _ (group.crashes at m there) h = tt
  moved_outputs g _ _ (group.recovers at v d m wakes) h = outputs_told H cluster log (opening_script v d) h
  moved_outputs g _ _ (group.recovers_cut at v d k m wakes) h = tt
  moved_outputs g _ _ (group.migrates at v m o) h = tt
  moved_outputs g _ _ (group.migrates_cut at v k m o) h = tt

  sent_by : (g : Group) (move : Move) (moved : Moved) → Moves g move moved → moved.group.sent ≡ g.sent ++ messages moved.outputs
  sent_by g _ _ (group.steps at arrival e d m r runs came) = refl
  sent_by g _ _ (group.cuts at arrival e d k m r runs came) = refl
  sent_by g _ _ (group.crashes at m there) = refl
  sent_by g _ _ (group.recovers at v d m wakes) = refl
  sent_by g _ _ (group.recovers_cut at v d k m wakes) = refl
  sent_by g _ _ (group.migrates at v m o) = refl
  sent_by g _ _ (group.migrates_cut at v k m o) = refl

  moved_told : (t : ℕ) (g : Group) (move : Move) (moved : Moved) → slice_get run t ≡ Some (record { before = g; move = move; moved = moved }) → Moves g move moved → AllTold g → AllStand g → AllTold moved.group
  moved_told t g move moved is moves told all =
      let said = moved_outputs g move moved moves (moved_borne t g move moved is moves told all) in
      subst (Every (IsTold H cluster log)) (sym (sent_by g move moved moves)) (every_both (IsTold H cluster log) g.sent (messages moved.outputs) told (messages_told H cluster log moved.outputs said))

  -- ---- the run

  fresh_rests : (i : ℕ) → Rests H cluster log (core (fresh (x.fit.kinds i) cluster n i))
  unfolding blank
  fresh_rests i = record { own = refl; settled = λ k l. absurd (omega (arith, l)); root = λ above. absurd (omega (arith, above)); table = record { sessions = tt; keys = tt }; waits = λ some. absurd (some refl); saved = λ above. absurd (omega (arith, above)) }

  first_stands : (i : ℕ) → MemberStands (fresh_member (x.fit.kinds i) cluster n i)
  unfolding blank
  first_stands i = record {
    values = record { last = λ above. absurd (omega (arith, above)); under = λ v e. absurd cc };
    rests = λ r e. let same : fresh (x.fit.kinds i) cluster n i ≡ r = cc in subst (λ r. Rests H cluster log (core r)) same (fresh_rests i);
    stands = λ r e. let same : fresh (x.fit.kinds i) cluster n i ≡ r = cc in subst (λ r. is_frozen r ≡ false → Stands H cluster log (core r)) same (λ f. record { rests = fresh_rests i; state = λ none. refl; table = λ none. sym (first_table cluster log) });
  }

  fresh_stand : AllStand (fresh_group x.fit.kinds cluster n)
  unfolding fresh_group
  fresh_stand at m e = let k = fresh_at x.fit.kinds cluster n 0 n at m e in subst MemberStands k.0 (first_stands (0 + at))

  fresh_told : AllTold (fresh_group x.fit.kinds cluster n)
  unfolding fresh_group
  fresh_told = tt

  all_stand : (d : ℕ) (g : Group) (ps : List Played) → Run g ps → ((k : ℕ) (p : Played) → slice_get ps k ≡ Some p → slice_get run (d + k) ≡ Some p) → AllTold g → AllStand g → (k : ℕ) (p : Played) → slice_get ps k ≡ Some p
      → AllTold p.before × AllStand p.before
  all_stand d _ _ (ended g) sub told all k p e = absurd cc
  all_stand d _ _ (goes g move moved later moves rest) sub told all zero p e =
      let s : record { before = g; move = move; moved = moved } ≡ p = (let o : Some (record { before = g; move = move; moved = moved }) ≡ Some p = e in cc) in
      subst (λ (p : Played). AllTold p.before × AllStand p.before) s (told, all)
  all_stand d _ _ (goes g move moved later moves rest) sub told all (suc k) p e =
      let first : slice_get run (d + 0) ≡ Some (record { before = g; move = move; moved = moved }) = sub zero _ refl in
      all_stand (suc d) moved.group later rest (λ j q i. subst (λ z. slice_get run z ≡ Some q) (let z : d + suc j ≡ suc d + j = omega arith in z) (sub (suc j) q i))
      (moved_told (d + 0) g move moved first moves told all) (moved_stand (d + 0) g move moved first moves told all) k p e

  -- before each move
  both_at : (t : ℕ) (p : Played) → slice_get run t ≡ Some p → AllTold p.before × AllStand p.before
  both_at t p e = all_stand 0 (fresh_group x.fit.kinds cluster n) run x.fit.of_run (λ k q i. subst (λ z. slice_get run z ≡ Some q) (let z : k ≡ 0 + k = omega arith in z) i) fresh_told fresh_stand t p e

  pub stand_at : (t : ℕ) (p : Played) → slice_get run t ≡ Some p → AllStand p.before
  stand_at t p e = (both_at t p e).1

  pub borne_at : (t : ℕ) (p : Played) → slice_get run t ≡ Some p → Every (IsBorne H cluster log) p.moved.script
  borne_at t p e = let b = both_at t p e in moved_borne t p.before p.move p.moved e (move_of (fresh_group x.fit.kinds cluster n) run x.fit.of_run t p e) b.0 b.1

  -- the checkpoint that is given with the log of a view
  pub offers_at : (t number : ℕ) (p : Played) (s : Sent) (v : SyncView) → slice_get run t ≡ Some p → slice_get p.moved.outputs number ≡ Some (output.Send s) → s.message ≡ frame.SyncView v → IsCheckpointOf cluster log v.checkpoint (root_told v)
  offers_at t number p s v e i is =
      let said = moved_outputs p.before p.move p.moved (move_of (fresh_group x.fit.kinds cluster n) run x.fit.of_run t p e) (borne_at t p e) in
      offered_is H cluster log v (subst (IsTrueFrame H cluster log) is (every_at (IsTrueOutput H cluster log) p.moved.outputs number (output.Send s) i said))

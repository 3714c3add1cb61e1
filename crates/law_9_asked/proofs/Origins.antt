-- Where the headers that a line's work begins to write come from: of a request that is asked there, or they were made before.
use Rattle.std.proofs.Common.{ℕ, ◌%◌, ◌≡◌, ◌∙◌, ◌⊎◌, inl, inr, refl, sym, ap, subst, Bool, true, false, List, [], ◌∷◌, ◌++◌, length, Option, Some, None}
use Rattle.std.specs.Prelude.{Contains, if◌then◌else◌, nat_lt, slice_get}
use Rattle.std.specs.Option.{option_and_then, option_map}
use Rattle.vr_base.specs.Bytes.{name_of}
use Rattle.vr_disk.specs.DiskState.{Fuse}
use Rattle.vr_header.specs.Made.{Whole}
use Rattle.vr_header.specs.declared.header.Header.{Header}
use Rattle.vr_super.specs.Calls.{mend_calls}
use Rattle.vr_super.specs.Copies.{SuperValue}
use Rattle.vr_msg.specs.declared.event.Event.{Event}
use Rattle.vr_msg.specs.declared.event.Event.TheVariants as event
use Rattle.vr_msg.specs.declared.frame.Frame.{Frame}
use Rattle.vr_msg.specs.declared.frame.Frame.TheVariants as frame
use Rattle.vr_msg.specs.declared.frame.Prepare.{Prepare}
use Rattle.vr_msg.specs.declared.output.Sent.{Sent}
use Rattle.vr_msg.specs.declared.request.RequestFields.{RequestFields}
use Rattle.vr_rules.specs.declared.asker.Asker.{Asker}
use Rattle.vr_world.specs.Group as group
use Rattle.vr_world.specs.Group.{Member, Move, Moved, Moves, Played, Run, Runs, made_by_effect, made_in, opening_script, stepped}
use Rattle.vr_world.specs.Lying.{Lying, hazards, lying}
use Rattle.vr_rules.specs.Opening.{blank, opened, opening}
use Rattle.vr_rules.specs.Replica.{Replica, header_at, part_at, version}
use Rattle.vr_rules.specs.Rules.{next_entry, react}
use Rattle.vr_rules.specs.Steps.{Effect, Write, Mend}
use Rattle.vr_world.specs.World as world
use Rattle.vr_world.specs.World.{Happening, Host, World, happens, in_version}
use Rattle.law_1_machine.specs.Basics.{In}
use Rattle.law_1_machine.specs.Group.{Group, made_at}
use Rattle.law_1_machine.specs.History.{History}
use Rattle.law_1_machine.specs.Invariant.{Invariant}
use Rattle.law_1_machine.specs.Machine.{is_known}
use Rattle.law_1_machine.specs.Parts.{header}
use Rattle.law_1_machine.proofs.Moves.{reached_good}
use Rattle.law_2_chains.proofs.Making.{written_made}
use Rattle.law_2_chains.proofs.Writing.{told_header}
use Rattle.law_2_chains.specs.Bridge.{Bridges, IsSent}
use Rattle.law_2_chains.specs.Chains.{Setup, WasMade, WasSent}
use Rattle.law_2_chains.specs.Reflecting.{entries_by}
use Rattle.law_3_outputs.proofs.Fitting.{at_place}
use Rattle.law_3_outputs.proofs.Sets.{get_in, in_get, in_right}
use Rattle.law_2_chains.proofs.StoredLists.{contains_in, in_contains}
use Rattle.law_3_outputs.proofs.Traces.{in_either}
use Rattle.law_4_disks.specs.Worlds.{IsOneMove, Migration, begun_in, begun_of, handling, asking, left, migrating, moved_by, moved_of, moved_once, opening_as, read_in, starting, starting_by, stepping, unmoved}
use Rattle.law_6_one_log.specs.ScheduleLaws.{IsUnforgedBeside}
use Rattle.law_6_one_log.proofs.ScheduleRuns.{Along, goes_on, left_both, rests}
use Rattle.law_9_asked.specs.Asked.{IsMadeOf, WasAsked, asked, asked_in_version}
use Rattle.law_9_asked.proofs.Made.{IsFree, free_run, no_frame, prepare_made}
use Rattle.law_9_asked.proofs.Scripts.{in_begun, written_in}
use Rattle.law_9_asked.proofs.Reacting.{IsBrought, steps_traced, tr_opening}
use Rattle.law_9_asked.proofs.Reacting as brought

-- ---- whose work a line begins

-- a member that handles an event, and what it writes
record IsWorkOf (e : Event) (o : Option (Host Lying)) (v : Whole) : Type 0 where
  host : Host Lying
  replica : Replica
  there : o ≡ Some host
  running : host.replica ≡ Some replica
  again : Bool
  writes : In (Write again v) (react e lying replica host.disk).script

work_by : (e : Event) (m : Host Lying) (o : Option Replica) → m.replica ≡ o → (again : Bool) (v : Whole) → In (Write again v) (begun_of (option_map (stepping e m) o)) → IsWorkOf e (Some m) v
work_by e m None z again v i = absurd i
work_by e m (Some r) z again v i = record { host = m; replica = r; there = refl; running = z; again = again; writes = in_begun m.fuse (react e lying r m.disk).script m.disk (Write again v) i }

work_at : (e : Event) (o : Option (Host Lying)) (again : Bool) (v : Whole) → In (Write again v) (begun_of (option_and_then (handling e) o)) → IsWorkOf e o v
work_at e None again v i = absurd i
work_at e (Some m) again v i = work_by e m m.replica refl again v i

-- the same, of a request that is made in the version of the replica
record IsAskingOf (q : RequestFields) (o : Option (Host Lying)) (v : Whole) : Type 0 where
  host : Host Lying
  replica : Replica
  there : o ≡ Some host
  running : host.replica ≡ Some replica
  again : Bool
  writes : In (Write again v) (react (event.Request (in_version (version replica) q)) lying replica host.disk).script

asking_by : (q : RequestFields) (m : Host Lying) (o : Option Replica) → m.replica ≡ o → (again : Bool) (v : Whole)
    → In (Write again v) (begun_of (option_map (λ r. stepping (event.Request (in_version (version r) q)) m r) o)) → IsAskingOf q (Some m) v
asking_by q m None z again v i = absurd i
asking_by q m (Some r) z again v i =
    record { host = m; replica = r; there = refl; running = z; again = again; writes = in_begun m.fuse (react (event.Request (in_version (version r) q)) lying r m.disk).script m.disk (Write again v) i }

asking_at : (q : RequestFields) (o : Option (Host Lying)) (again : Bool) (v : Whole) → In (Write again v) (begun_of (option_and_then (asking q) o)) → IsAskingOf q o v
asking_at q None again v i = absurd i
asking_at q (Some m) again v i = asking_by q m m.replica refl again v i

-- of a message that arrives
record IsArriving (w : World Lying) (o : Option Sent) (v : Whole) : Type 0 where
  sent : Sent
  came : o ≡ Some sent
  work : IsWorkOf (event.Deliver sent.message) (slice_get w.members sent.to) v

arriving : (w : World Lying) (o : Option Sent) (again : Bool) (v : Whole)
    → In (Write again v) (begun_of (option_and_then (λ (s : Sent). option_and_then (handling (event.Deliver s.message)) (slice_get w.members s.to)) o)) → IsArriving w o v
arriving w None again v i = absurd i
arriving w (Some s) again v i = record { sent = s; came = refl; work = work_at (event.Deliver s.message) (slice_get w.members s.to) again v i }

-- an opening writes no entry
opening_writes : (v : SuperValue) (d : Lying) (again : Bool) (x : Whole) → In (Write again x) (opening v lying (blank v) d).script → ⊥
opening_writes v d again x i = ((tr_opening {W = λ (w : Whole). ⊥} {Q = λ (b : Asker). ⊥} v).every lying (blank v) d).writes again x i

opened_writes : (m : Host Lying) (o : Option SuperValue) (again : Bool) (x : Whole) → In (Write again x) (begun_of (option_map (opening_as m) (option_map (λ v. opening v lying (blank v) m.disk) o))) → ⊥
opened_writes m None again x i = i
opened_writes m (Some v) again x i = opening_writes v m.disk again x (in_begun m.fuse (opening v lying (blank v) m.disk).script m.disk (Write again x) i)

starting_writes : (m : Host Lying) (o : Option Replica) (again : Bool) (x : Whole) → In (Write again x) (begun_of (starting_by m o)) → ⊥
unfolding opened
starting_writes m None again x i = opened_writes m (lying.opens m.disk) again x i
starting_writes m (Some r) again x i = i

start_writes : (o : Option (Host Lying)) (again : Bool) (x : Whole) → In (Write again x) (begun_of (option_and_then starting o)) → ⊥
start_writes None again x i = i
start_writes (Some m) again x i = starting_writes m m.replica again x i

-- nor does a migration
moving_writes : (fuse : Option Fuse) (k : Migration) (again : Bool) (x : Whole) → In (Write again x) (moved_by fuse k) → ⊥
moving_writes None k again x i = elim i [ inl a ↦ cc | inr r ↦ elim r [ inl b ↦ cc | inr n ↦ n ] ]
moving_writes (Some u) k again x i =
    let short : Bool = nat_lt u.calls (length (mend_calls k.value k.host.disk.face)) in
    let go : (b : Bool) → In (Write again x) (if b then Mend k.value ∷ [] else group.migration k.value) → ⊥ = elim [
      | true ↦ λ i. elim i [ inl a ↦ cc | inr n ↦ n ]
      | false ↦ λ i. elim i [ inl a ↦ cc | inr r ↦ elim r [ inl b ↦ cc | inr n ↦ n ] ]
    ] in
    go short i

moved_writes : (o : Option Migration) (again : Bool) (x : Whole) → In (Write again x) (moved_of o) → ⊥
moved_writes None again x i = i
moved_writes (Some k) again x i = moving_writes k.host.fuse k again x i

-- ---- the entry that is made of a request

next_made : (q : RequestFields) (r : Replica) → IsMadeOf (next_entry name_of q r) q
unfolding next_entry
next_made q r = record { header = refl; operation = refl }

-- ---- a line, in a world that isn't forged

module _ {cluster : ℕ} (w : World Lying) (g : group.Group) (u : IsUnforgedBeside cluster w g) (free : IsFree g.sent) where
  abbrev setup : Setup
  setup = u.bridged.setup

  abbrev whole : Group Header
  whole = u.bridged.machine

  abbrev bridges : Bridges setup g whole
  bridges = u.bridged.bridges

  good : (h : History Header) × Invariant setup.quorums (entries_by setup.hash setup.cluster) h whole
  good = reached_good setup.quorums (entries_by setup.hash setup.cluster) whole bridges.reached

  in_made : (h : Header) → WasMade whole.made h → In h g.made
  in_made h i = u.bridged.made (made_at h.view h.op h) i

  -- one of which a prepare was sent was made
  sent_made : (s : Sent) → In s g.sent → (p : Prepare) → s.message ≡ frame.Prepare p → In p.entry.header g.made
  sent_made s i p is =
      let k = in_get g.sent s i in
      let so : WasSent setup whole.sent (frame.Prepare p) = subst (WasSent setup whole.sent) is (at_place (IsSent setup whole) g.sent k.0 s bridges.sent k.1) in
      in_made p.entry.header (prepare_made setup whole good.0 good.1 p.replica p.view p.entry.header.op p.entry.header p.commit so)

  -- so was one that a running member knows
  known_made : (at : ℕ) (m : Member) (r : Replica) → Runs g at m r → (h : Header) → header_at r h.op ≡ Some h → In h g.made
  known_made at m r runs h known =
      let x = (bridges.members at m runs.member).running r runs.running in
      let is : header (x.memory.parts h.op) ≡ Some h = ap header (x.reflects.parts h.op) ∙ (told_header (part_at r h.op) ∙ known) in
      in_made h (written_made setup whole at h.op x.memory h bridges.reached x.running (is_known is))

  host_known : (i : ℕ) (m : Host Lying) (r : Replica) → slice_get w.members i ≡ Some m → m.replica ≡ Some r → (h : Header) → header_at r h.op ≡ Some h → In h g.made
  host_known i m r there running h known =
      let y = u.beside.each i m there in
      known_made i y.0 r (record { member = y.1; running = y.2.replica ∙ running }) h known

  -- what a step writes was asked now, or made before
  brought_made : (A : Whole → Type 0) (r : Replica) (e : Event) (v : Whole) → IsBrought name_of r e v → ((q : RequestFields) → e ≡ event.Request q → A (next_entry name_of q r)) → ((f : Frame) → e ≡ event.Deliver f → (s : Sent) × In s g.sent × (s.message ≡ f))
      → ((h : Header) → header_at r h.op ≡ Some h → In h g.made) → A v ⊎ In v.header g.made
  brought_made A r _ _ (brought.IsBrought.asked q) ask came known = inl (ask q refl)
  brought_made A r _ _ (brought.IsBrought.asked_in q) ask came known = let s = came (frame.Request q) refl in absurd (no_frame q s.0.message (sym s.2) (free s.0 s.1))
  brought_made A r _ _ (brought.IsBrought.prepared p) ask came known = let s = came (frame.Prepare p) refl in inr (sent_made s.0 s.1 p s.2)
  brought_made A r _ _ (brought.IsBrought.given p is) ask came known = inr (known p.entry.header is)

  abbrev Comes : Happening → Whole → Type 0
  Comes x v = WasAsked (x ∷ []) v ⊎ In v.header g.made

  asks_comes : (i : ℕ) (q : RequestFields) (again : Bool) (v : Whole) → In (Write again v) (begun_in w (world.Asks i q)) → Comes (world.Asks i q) v
  asks_comes i q again v within =
      let k = work_at (event.Request q) (slice_get w.members i) again v within in
      let r = k.replica in
      brought_made (WasAsked (world.Asks i q ∷ [])) r (event.Request q) v ((steps_traced lying r k.host.disk (event.Request q)).writes k.again v k.writes)
      (λ p e. let same : p ≡ q = cc in asked i q (in_contains (world.Asks i q) (world.Asks i q ∷ []) (inl refl)) (subst (IsMadeOf (next_entry name_of p r)) same (next_made p r)))
      (λ f e. absurd cc)
      (λ h known. host_known i k.host r k.there k.running h known)

  version_comes : (i : ℕ) (q : RequestFields) (again : Bool) (v : Whole) → In (Write again v) (begun_in w (world.AsksInVersion i q)) → Comes (world.AsksInVersion i q) v
  version_comes i q again v within =
      let k = asking_at q (slice_get w.members i) again v within in
      let r = k.replica in
      let x : RequestFields = in_version (version r) q in
      brought_made (WasAsked (world.AsksInVersion i q ∷ [])) r (event.Request x) v ((steps_traced lying r k.host.disk (event.Request x)).writes k.again v k.writes)
      (λ p e. let same : p ≡ x = cc in asked_in_version i (version r) q (in_contains (world.AsksInVersion i q) (world.AsksInVersion i q ∷ []) (inl refl)) (subst (IsMadeOf (next_entry name_of p r)) same (next_made p r)))
      (λ f e. absurd cc)
      (λ h known. host_known i k.host r k.there k.running h known)

  arrives_comes : (n : ℕ) (again : Bool) (v : Whole) → In (Write again v) (begun_in w (world.Arrives n)) → Comes (world.Arrives n) v
  arrives_comes n again v within =
      let a = arriving w (slice_get w.sent (n % length w.sent)) again v within in
      let k = a.work in
      let r = k.replica in
      let there : In a.sent g.sent = subst (λ (x : List Sent). In a.sent x) (sym u.beside.sent) (get_in w.sent (n % length w.sent) a.sent a.came) in
      brought_made (WasAsked (world.Arrives n ∷ [])) r (event.Deliver a.sent.message) v ((steps_traced lying r k.host.disk (event.Deliver a.sent.message)).writes k.again v k.writes)
      (λ p e. absurd cc)
      (λ f e. let same : a.sent.message ≡ f = cc in (a.sent, there, same))
      (λ h known. host_known a.sent.to k.host r k.there k.running h known)

  ticks_comes : (i : ℕ) (again : Bool) (v : Whole) → In (Write again v) (begun_in w (world.Ticks i)) → Comes (world.Ticks i) v
  ticks_comes i again v within =
      let k = work_at event.Tick (slice_get w.members i) again v within in
      let r = k.replica in
      brought_made (WasAsked (world.Ticks i ∷ [])) r event.Tick v ((steps_traced lying r k.host.disk event.Tick).writes k.again v k.writes)
      (λ p e. absurd cc)
      (λ f e. absurd cc)
      (λ h known. host_known i k.host r k.there k.running h known)

  line_comes : (x : Happening) (again : Bool) (v : Whole) → In (Write again v) (begun_in w x) → Comes x v
  line_comes (world.Begins kind n) again v i = absurd i
  line_comes (world.Asks at q) again v i = asks_comes at q again v i
  line_comes (world.AsksInVersion at q) again v i = version_comes at q again v i
  line_comes (world.Arrives n) again v i = arrives_comes n again v i
  line_comes (world.Ticks at) again v i = ticks_comes at again v i
  line_comes (world.Stops at) again v i = absurd i
  line_comes (world.Starts at) again v i = absurd (start_writes (slice_get w.members at) again v i)
  line_comes (world.Migrates at) again v i = absurd (moved_writes (migrating w at) again v i)
  line_comes (world.Fuses at calls code) again v i = absurd i
  line_comes (world.Lies at fault) again v i = absurd i

  -- a header that is made by a line was made before, or is of an entry that the line asked for and begins to write
  pub record IsBegun (x : Happening) (h : Header) : Type 0 where
    pub again : Bool
    pub entry : Whole
    pub is : entry.header ≡ h
    pub writes : In (Write again entry) (begun_in w x)
    pub asked : WasAsked (x ∷ []) entry

  pub line_makes : (x : Happening) (h : Header) → In h (made_in (begun_in w x)) → IsBegun x h ⊎ In h g.made
  line_makes x h i =
      let y = written_in (begun_in w x) h i in
      elim (line_comes x y.again y.entry y.among) [
        | inl now ↦ inl (record { again = y.again; entry = y.entry; is = y.is; writes = y.among; asked = now })
        | inr old ↦ inr (subst (λ (k : Header). In k g.made) y.is old)
      ]

-- ---- lines one after the other

-- the entry of this header was asked for by one of these lines, and written in these moves
pub record IsOrigin (xs : List Happening) (run : List Played) (h : Header) : Type 0 where
  pub again : Bool
  pub entry : Whole
  pub is : entry.header ≡ h
  pub move : Played
  pub of_run : In move run
  pub writes : In (Write again entry) move.moved.script
  pub asked : WasAsked xs entry

contains_first : (x : Happening) (xs : List Happening) (y : Happening) → Contains (x ∷ []) y → Contains (x ∷ xs) y
contains_first x xs y c = elim (contains_in y (x ∷ []) c) [ inl same ↦ in_contains y (x ∷ xs) (inl same) | inr n ↦ absurd n ]

contains_later : (x : Happening) (xs : List Happening) (y : Happening) → Contains xs y → Contains (x ∷ xs) y
contains_later x xs y c = in_contains y (x ∷ xs) (inr (contains_in y xs c))

asked_first : (x : Happening) (xs : List Happening) (e : Whole) → WasAsked (x ∷ []) e → WasAsked (x ∷ xs) e
asked_first x xs e (asked at q c is) = asked at q (contains_first x xs (world.Asks at q) c) is
asked_first x xs e (asked_in_version at v q c is) = asked_in_version at v q (contains_first x xs (world.AsksInVersion at q) c) is

asked_later : (x : Happening) (xs : List Happening) (e : Whole) → WasAsked xs e → WasAsked (x ∷ xs) e
asked_later x xs e (asked at q c is) = asked at q (contains_later x xs (world.Asks at q) c) is
asked_later x xs e (asked_in_version at v q c is) = asked_in_version at v q (contains_later x xs (world.AsksInVersion at q) c) is

-- the move of a line writes what the line begins
begun_origin : (x : Happening) (xs : List Happening) (es : List Effect) (ds : List Lying) (one rest : List Played) → IsOneMove es ds one → (h : Header) (again : Bool) (v : Whole) → v.header ≡ h → In (Write again v) es → WasAsked (x ∷ []) v
    → IsOrigin (x ∷ xs) (one ++ rest) h
begun_origin x xs es ds _ rest (unmoved still) h again v is writes was = absurd (subst (λ (fs : List Effect). In (Write again v) fs) still writes)
begun_origin x xs es ds _ rest (moved_once p script disks) h again v is writes was =
    record { again = again; entry = v; is = is; move = p; of_run = inl refl; writes = subst (λ (fs : List Effect). In (Write again v) fs) (sym script) writes; asked = asked_first x xs v was }

origin_later : (x : Happening) (xs : List Happening) (one rest : List Played) (h : Header) → IsOrigin xs rest h → IsOrigin (x ∷ xs) (one ++ rest) h
origin_later x xs one rest h o = record { again = o.again; entry = o.entry; is = o.is; move = o.move; of_run = in_right one rest o.move o.of_run; writes = o.writes; asked = asked_later x xs o.entry o.asked }

-- what was made by the end was asked for, or was made before
pub along_made : (cluster : ℕ) (w : World Lying) (g : group.Group) (xs : List Happening) (run : List Played) → Along cluster w g xs run → IsFree g.sent → (h : Header) → In h (left g run).made → IsOrigin xs run h ⊎ In h g.made
along_made cluster _ _ _ _ (rests w g u) free h i = inr i
along_made cluster _ _ _ _ (goes_on w g x xs rest u m more) free h i =
    let one = m.matched.run in
    let next = left g one in
    let there : In h (left next rest).made = subst (λ (k : group.Group). In h k.made) (left_both g one rest) i in
    elim (along_made cluster (happens hazards w x).world next xs rest more (free_run g one m.matched.is free) h there) [
      | inl later ↦ inl (origin_later x xs one rest h later)
      | inr now ↦ elim (in_either g.made (made_in (begun_in w x)) h (subst (λ (hs : List Header). In h hs) m.made now)) [
        | inl old ↦ inr old
        | inr new ↦ elim (line_makes w g u free x h new) [ inl here ↦ inl (begun_origin x xs (begun_in w x) (read_in w x) one rest m.one h here.again here.entry here.is here.writes here.asked) | inr old ↦ inr old ]
      ]
    ]

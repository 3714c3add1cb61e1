-- Line by line.
use Rattle.std.proofs.Common.{ℕ, zero, suc, ◌+◌, ◌-◌, ◌^◌, ◌≤◌, ◌<◌, ◌≡◌, ◌≢◌, ◌⊎◌, inl, inr, arith, refl, sym, ap, ◌∙◌, subst, true, false, cond, List, [], ◌∷◌, ◌++◌, length, take, set, Option, Some, None, length-set, get_or-set_same}
use Rattle.std.specs.Prelude.{max, slice_get, nat_le}
use Rattle.std.proofs.lemmas.Bool.{cases_eq, leb-false, leb-true}
use Rattle.std.proofs.lemmas.List.{append-nil}
use Rattle.std.proofs.lemmas.List.Elements.{All-cons, All-nil}
use Rattle.std.proofs.lemmas.Option.{slice_get_within, slice_get-get_or}
use Rattle.vr_disk.specs.DiskState.{Fuse}
use Rattle.vr_base.specs.Versions.{value_limit}
use Rattle.vr_base.proofs.Versions.{more}
use Rattle.vr_header.specs.declared.operation.Operation.{Operation}
use Rattle.vr_header.specs.declared.operation.Operation.TheVariants.{Register, Put, Get, Delete}
use Rattle.vr_header.specs.Bodies.{IsOperation}
use Rattle.vr_header.proofs.BodyLaws.{text_more}
use Rattle.vr_msg.specs.declared.request.RequestFields.{RequestFields}
use Rattle.vr_msg.specs.declared.event.Event.{Event}
use Rattle.vr_msg.specs.declared.output.Output.{Output}
use Rattle.vr_msg.specs.declared.output.Output.TheVariants as output
use Rattle.vr_msg.specs.declared.output.Sent.{Sent}
use Rattle.vr_super.specs.Copies.{SuperValue, IsGood}
use Rattle.vr_rules.specs.Replica.{Replica, version}
use Rattle.vr_rules.specs.Fit.{IsAsked}
use Rattle.vr_rules.specs.Steps.{Effect, Mend, Step, after_all}
use Rattle.vr_rules.specs.Steps as steps
use Rattle.vr_rules.specs.Rules.{asked_block, react}
use Rattle.vr_msg.specs.declared.event.Event.TheVariants as event
use Rattle.vr_msg.specs.declared.frame.Frame.TheVariants as frame
use Rattle.vr_rules.specs.Sectors.{script_calls}
use Rattle.vr_world.specs.Lying.{Lying, cut_calls, hazards, lying}
use Rattle.vr_world.specs.World as world
use Rattle.vr_world.specs.World.{Acted, Happened, World, acts, halted, in_version, stays, went, went_or_halted, with_member}
use Rattle.vr_rules.specs.Outputs.{message_of, messages}
use Rattle.vr_world.specs.Group as group
use Rattle.vr_world.specs.Group.{Arrival, Asked, Group, IsArrival, Move, Moved, Moves, Played, Run, Runs, carried_out, cut_after, cut_short, finished, stepped, with_script, made_in}
use Rattle.vr_world.specs.Safe.{disks_of, run_outputs}
use Rattle.law_4_disks.specs.Beside.{IsOff, IsOn, MayGo, TellsIn, begun_before}
use Rattle.std.specs.List.{AllByRecursion}
use Rattle.std.specs.Option.{option_map}
use Rattle.vr_base.specs.Bytes.{IsBytes}
use Rattle.vr_header.specs.NoCollision.{NoCollision}
use Rattle.vr_world.specs.Files.{IsFileAt, IsOfFile}
use Rattle.vr_rules.specs.Own.{IsAt}
use Rattle.vr_world.specs.GroupFit.{IsFitArrival, IsFitGroup, IsFitMove}
use Rattle.vr_world.proofs.FitLies.{lies_fit}
use Rattle.vr_world.proofs.FitGroups.{Known, arrives, groups_fit, step_is}
use Rattle.law_4_disks.specs.Naming.{IsHashedIn}
use Rattle.law_4_disks.specs.Worlds.{IsOfBytes, AreBeside, IsMatchedBy, Said, Stands, Work, begun_by, begun_of, both, moved_once, none, aside, read_of, stepping, unmoved}
use Rattle.law_4_disks.specs.Stocks.{IsGiven, IsGivenEvent, IsGivenOutput, IsStocked, IsStockedGroup, WritesBlocks}
use Rattle.law_4_disks.proofs.Stocking.{At, Leaves}
use Rattle.law_4_disks.proofs.StockingRules.{ReadsGivenIn, v_react}
use Rattle.law_4_disks.proofs.Loading.{block_are}
use Rattle.law_4_disks.proofs.Starts.{begun_all}
use Rattle.law_4_disks.proofs.Telling.{tells_in}
use Rattle.law_4_disks.specs.Chains.{Chain, GoesWell}
use Rattle.law_4_disks.proofs.ChainingRules.{c_react}
use Rattle.law_4_disks.proofs.Going.{chain_goes, chain_last, known_goes}
use Rattle.law_4_disks.proofs.Scripts.{scripts_cut, scripts_stay}

-- ---- members of a list

pub other_place : {X : Type 0} (xs : List X) (i j : ℕ) (y : X) → i ≢ j → slice_get (set xs i y) j ≡ slice_get xs j
other_place [] i j y d = refl
other_place (x ∷ xs) zero zero y d = absurd (d refl)
other_place (x ∷ xs) zero (suc j) y d = refl
other_place (x ∷ xs) (suc i) zero y d = refl
other_place (x ∷ xs) (suc i) (suc j) y d = other_place xs i j y (λ e. d (ap suc e))

pub own_place : {X : Type 0} (xs : List X) (i : ℕ) (x y : X) → slice_get xs i ≡ Some x → slice_get (set xs i y) i ≡ Some y
own_place xs i x y e =
    let l = slice_get_within xs i x e in
    let n = length-set xs i y in
    slice_get-get_or (set xs i y) i y (omega (arith, l, n)) ∙ ap Some (get_or-set_same xs i y y l)

pub some_group : (a b : group.Member) → Some a ≡ Some b → a ≡ b
some_group a b e = cc

pub some_member : (a b : world.Host Lying) → Some a ≡ Some b → a ≡ b
some_member a b e = cc

-- a member acted, and a member of the group moved
pub placed : (w : World Lying) (g : Group) (i : ℕ) (m : world.Host Lying) (q p : group.Member) (a : Acted Lying) (es : List Effect) (os : List Output) → AreBeside w g → slice_get w.members i ≡ Some m → slice_get g.members i ≡ Some q
    → Stands a.member p → messages os ≡ messages a.outputs → AreBeside (with_member w i a).world (with_script g i p es os).group
placed w g i m q p a es os b at there s e = record {
  n = b.n;
  sent = ap (λ (x : List Sent). x ++ messages os) b.sent ∙ ap (λ (x : List Sent). w.sent ++ x) e;
  count = length-set g.members i p ∙ (b.count ∙ sym (length-set w.members i a.member));
  each = λ j x k. elim (cases_eq i j) [
    | inl same ↦
        let own : slice_get (set w.members i a.member) i ≡ Some x = subst (λ (j : ℕ). slice_get (set w.members i a.member) j ≡ Some x) (sym same) k in
        let one : a.member ≡ x = some_member a.member x (sym (own_place w.members i m a.member at) ∙ own) in
        (p, subst (λ (j : ℕ). slice_get (set g.members i p) j ≡ Some p) same (own_place g.members i q p there), subst (λ (x : world.Host Lying). Stands x p) one s)
    | inr other ↦
        let old = b.each j x (sym (other_place w.members i j a.member other) ∙ k) in
        (old.0, other_place g.members i j p other ∙ old.1, old.2)
  ];
}

-- a member of the world changed, and the group stayed
pub stayed : (w : World Lying) (g : Group) (i : ℕ) (m : world.Host Lying) (q : group.Member) (a : Acted Lying) → AreBeside w g → slice_get w.members i ≡ Some m → slice_get g.members i ≡ Some q → Stands a.member q → messages a.outputs ≡ [] → AreBeside (with_member w i a).world g
stayed w g i m q a b at there s e = record {
  n = b.n;
  sent = b.sent ∙ (sym (append-nil w.sent) ∙ ap (λ (x : List Sent). w.sent ++ x) (sym e));
  count = b.count ∙ sym (length-set w.members i a.member);
  each = λ j x k. elim (cases_eq i j) [
    | inl same ↦
        let own : slice_get (set w.members i a.member) i ≡ Some x = subst (λ (j : ℕ). slice_get (set w.members i a.member) j ≡ Some x) (sym same) k in
        let one : a.member ≡ x = some_member a.member x (sym (own_place w.members i m a.member at) ∙ own) in
        (q, subst (λ (j : ℕ). slice_get g.members j ≡ Some q) same there, subst (λ (x : world.Host Lying). Stands x q) one s)
    | inr other ↦ b.each j x (sym (other_place w.members i j a.member other) ∙ k)
  ];
}

-- ---- matched by nothing, and by one move

pub no_move : {home : ℕ} (fs : List Lying) (g : Group) (h : Happened Lying) → IsFitGroup home g → IsStockedGroup g → AreBeside h.world g → Said h.outputs [] → IsMatchedBy home [] fs g h
unfolding run_outputs made_in
no_move {home} fs g h f k b s = record { matched = record { run = []; is = Run.ended g; reads = All-nil (λ (p : Played). IsFitMove p.move); bytes = All-nil (λ (p : Played). IsOfBytes p.move); files = All-nil (λ (p : Played). IsOfFile p.before p.move); beside = b; said = s }; one = unmoved refl; fit = f; stock = k; made = sym (append-nil g.made) }

pub one_move : {home : ℕ} (es : List Effect) (fs : List Lying) (g : Group) (h : Happened Lying) (x : Move) (y : Moved) → IsFitGroup home g → IsFitMove x → IsOfBytes x → IsOfFile g x → IsStockedGroup y.group → Moves g x y → AreBeside h.world y.group → Said h.outputs y.outputs → y.group.made ≡ g.made ++ made_in es
    → y.script ≡ es → (disks_of x ≡ []) ⊎ (disks_of x ≡ fs) → IsMatchedBy home es fs g h
unfolding run_outputs
one_move {home} es fs g h x y f well bytes file stock move b s made script faces = record {
  matched = record {
    run = record { before = g; move = x; moved = y } ∷ [];
    is = Run.goes g x y [] move (Run.ended y.group);
    reads = All-cons (λ (p : Played). IsFitMove p.move) (record { before = g; move = x; moved = y }) [] well (All-nil (λ (p : Played). IsFitMove p.move));
    bytes = All-cons (λ (p : Played). IsOfBytes p.move) (record { before = g; move = x; moved = y }) [] bytes (All-nil (λ (p : Played). IsOfBytes p.move));
    files = All-cons (λ (p : Played). IsOfFile p.before p.move) (record { before = g; move = x; moved = y }) [] file (All-nil (λ (p : Played). IsOfFile p.before p.move));
    beside = b;
    said = subst (Said h.outputs) (sym (append-nil y.outputs)) s;
  };
  one = moved_once (record { before = g; move = x; moved = y }) script faces;
  fit = groups_fit.each home g x y f well move;
  stock = stock;
  made = made;
}

-- the file of the member at a place
file_at : (g : Group) (i : ℕ) (q : group.Member) (d : Lying) → slice_get g.members i ≡ Some q → d.version ≡ q.last.fields.version → IsFileAt g i d
file_at g i q d there f m e = f ∙ ap (λ (m : group.Member). m.last.fields.version) (some_group q m (sym there ∙ e))

pub said_same : (os : List Output) → Said os os
said_same os = subst (λ (x : List Output). Said x x) (append-nil os) (both os [] [] none)

-- ---- a step

-- its script may go, and the replica knows what it saved
pub record StepsWell (s : Step) (d : Lying) (q : group.Member) : Type 0 where
  pub go : MayGo s.script d q.last
  pub saved : s.replica.saved ≡ (carried_out s.script q).last

pub well_of : (home : ℕ) (s : Step) (d : Lying) (q : group.Member) (v : SuperValue) → v ≡ q.last → q.last.fields.cluster ≡ home → Chain v s.script s.replica.saved → GoesWell home s.script d → StepsWell s d q
well_of home s d q v e own c g =
    let chain = subst (λ (v : SuperValue). Chain v s.script s.replica.saved) e c in
    record { go = chain_goes home s.script d q.last s.replica.saved own chain g; saved = sym (chain_last s.script q s.replica.saved chain) }

-- what is known of the script by which a replica handles an event
pub record HandlesWell (home : ℕ) (e : Event) (r : Replica) (d : Lying) (q : group.Member) (n i : ℕ) : Type 0 where
  pub known : Known home n i d.version (react e lying r d).script
  pub at : At d.version r d
  pub leaves : Leaves IsBytes IsBytes home (react e) r d
  pub well : StepsWell (react e lying r d) d q

reads_bytes : (e : Event) → ReadsGivenIn IsBytes e
reads_bytes (event.Deliver (frame.GetBlock g)) = λ d f b e. block_are d.face (asked_block g) b f e
reads_bytes (event.Deliver _) = tt
reads_bytes (event.Request q) = tt
reads_bytes event.Tick = tt

pub on_running : (d : Lying) (q : group.Member) (r : Option Replica) → IsOn d q → IsOn d (record q { replica = r })
on_running d q r o = record { calm = o.calm; held = record { count = o.held.count; each = o.held.each }; value = o.value; file = o.file; under = o.under }

pub off_stopped : (d : Lying) (q : group.Member) (r : Option Replica) (v : SuperValue) → IsOff d q v → IsOff d (record q { replica = r }) v
off_stopped d q r v o = record { calm = o.calm; held = record { count = o.held.count; each = o.held.each }; value = o.value; file = o.file; may = o.may; group = o.group }

pub some_replica : (a b : Replica) → Some a ≡ Some b → a ≡ b
some_replica a b e = cc

went_stands : (m : world.Host Lying) (q : group.Member) (s : Step) (fuse : Option Fuse) → IsOn m.disk q → StepsWell s m.disk q → Stands (went hazards m s fuse).member (record (carried_out s.script q) { replica = Some s.replica })
went_stands m q s fuse o well =
    let d = after_all lying m.disk s.script in
    let p = carried_out s.script q in
    record {
      replica = refl;
      running = λ r e. (on_running d p (Some s.replica) (scripts_stay s.script m.disk q o well.go), ap (λ (r : Replica). r.saved) (sym (some_replica s.replica r e)) ∙ well.saved);
      stopped = λ e. absurd (let bad : Some s.replica ≡ None = e in cc);
    }

halted_stands : (i : ℕ) (m : world.Host Lying) (q : group.Member) (s : Step) (u : Fuse) (n : ℕ) (v : SuperValue) → IsOff (cut_calls u.calls u.code m.disk (script_calls m.disk.version s.script m.disk.face)) (cut_after n s.script q) v
    → Stands (halted hazards i m s u).member (record (cut_after n s.script q) { replica = None })
halted_stands i m q s u n v o = record {
  replica = refl;
  running = λ r e. absurd (let bad : None ≡ Some r = e in cc);
  stopped = λ e. (v, off_stopped (cut_calls u.calls u.code m.disk (script_calls m.disk.version s.script m.disk.face)) (cut_after n s.script q) None v o);
}

pub running_off : (d : Lying) (q : group.Member) → IsOn d q → IsOff d q q.last
running_off d q o = record { calm = o.calm; held = o.held; value = o.value; file = o.file; may = inl refl; group = refl }

-- ---- a request that is made in a later version can be asked, if it can in its own

operation_more : (v w : ℕ) (o : Operation) → v ≤ w → w ≤ 2 → IsOperation v o → IsOperation w o
operation_more v w Register l few g = tt
operation_more v w (Put key value) l few g = (g.0, text_more (value_limit v) (value_limit w) value (more v w 1024 3000 l few (omega arith)) g.1)
operation_more v w (Get key) l few g = g
operation_more v w (Delete key) l few g = g

pub asked_in : (v : ℕ) (x : RequestFields) → v ≤ 2 → IsAsked x → IsAsked (in_version v x)
asked_in v x few a =
    let of = a.version in
    record {
      form = record { first = a.form.first; fits = operation_more x.version (max x.version v) x.operation (omega arith) (omega (arith, few, of)) a.form.fits };
      client = a.client;
      request = a.request;
      version = (omega (arith, of), omega (arith, few, of));
    }

abbrev pub asking_as : RequestFields → world.Host Lying → Replica → Work
asking_as x m r = stepping (event.Request (in_version (version r) x)) m r

-- ---- what is known of the work of a line

pub record WorksWell (k : Work) : Type 0 where
  pub names : (u : Fuse) → k.host.fuse ≡ Some u → NoCollision (IsHashedIn k.script k.host.disk u.calls u.code)

-- ---- what is stocked stays so

pub message_given : (P : List ℕ → Type 0) (o : Output) → IsGivenOutput P o → (number : ℕ) (s : Sent) → slice_get (message_of o) number ≡ Some s → IsGiven P s.message
message_given P (output.Send x) g zero s e = let same : x ≡ s = cc in subst (λ (s : Sent). IsGiven P s.message) same g
message_given P (output.Send x) g (suc number) s e = absurd cc
message_given P _ g number s e = absurd cc

pub get_both : {X : Type 0} (P : X → Type 0) (xs ys : List X) → ((i : ℕ) (x : X) → slice_get xs i ≡ Some x → P x) → ((i : ℕ) (x : X) → slice_get ys i ≡ Some x → P x) → (i : ℕ) (x : X) → slice_get (xs ++ ys) i ≡ Some x → P x
get_both P [] ys a b i x e = b i x e
get_both P (y ∷ xs) ys a b zero x e = a 0 x e
get_both P (y ∷ xs) ys a b (suc i) x e = get_both P xs ys (λ i x e. a (suc i) x e) b i x e

pub none_sent : (P : List ℕ → Type 0) (number : ℕ) (s : Sent) → slice_get (messages []) number ≡ Some s → IsGiven P s.message
unfolding messages
none_sent P number s e = absurd cc

pub outputs_given : (P Q : List ℕ → Type 0) (es : List Effect) → AllByRecursion (WritesBlocks P Q) es → (number : ℕ) (s : Sent) → slice_get (messages (steps.outputs es)) number ≡ Some s → IsGiven P s.message
unfolding messages steps.outputs
outputs_given P Q [] a number s e = absurd cc
outputs_given P Q (steps.Say o ∷ es) a number s e = get_both (λ (s : Sent). IsGiven P s.message) (message_of o) (messages (steps.outputs es)) (message_given P o a.0) (outputs_given P Q es a.1) number s e
outputs_given P Q (steps.Write again x ∷ es) a number s e = outputs_given P Q es a.1 number s e
outputs_given P Q (steps.Rewrite h ∷ es) a number s e = outputs_given P Q es a.1 number s e
outputs_given P Q (steps.Save old new ∷ es) a number s e = outputs_given P Q es a.1 number s e
outputs_given P Q (steps.Mend v ∷ es) a number s e = outputs_given P Q es a.1 number s e
outputs_given P Q (steps.Checkpoint c t o b ∷ es) a number s e = outputs_given P Q es a.1 number s e
outputs_given P Q (steps.PutBlock n b ∷ es) a number s e = outputs_given P Q es a.1 number s e

pub stock_moves : (g : Group) (i : ℕ) (q m : group.Member) (es : List Effect) (os : List Output) → IsStockedGroup g → slice_get g.members i ≡ Some q → ((r : Replica) → m.replica ≡ Some r → IsStocked r)
    → ((number : ℕ) (s : Sent) → slice_get (messages os) number ≡ Some s → IsGiven IsBytes s.message) → IsStockedGroup (with_script g i m es os).group
stock_moves g i q m es os k there r sent = record {
  running = λ j x y e run. elim (cases_eq i j) [
    | inl same ↦
        let own : slice_get (set g.members i m) i ≡ Some x = subst (λ (j : ℕ). slice_get (set g.members i m) j ≡ Some x) (sym same) e in
        let one : m ≡ x = some_group m x (sym (own_place g.members i q m there) ∙ own) in
        r y (ap (λ (m : group.Member). m.replica) one ∙ run)
    | inr other ↦ k.running j x y (sym (other_place g.members i j m other) ∙ e) run
  ];
  sent = get_both (λ (s : Sent). IsGiven IsBytes s.message) g.sent (messages os) k.sent sent;
}

pub none_runs : (r : Replica) → None ≡ Some r → IsStocked r
none_runs r e = absurd cc

pub runs_one : (x r : Replica) → IsStocked x → Some x ≡ Some r → IsStocked r
runs_one x r k e = subst IsStocked (some_replica x r e) k

-- an effect that is begun, and the rest
begun_cut : (es : List Effect) (d : Lying) (u : Fuse) (n : ℕ) → begun_before d.version es d.face u.calls ≡ take (n + 1) es → take (n + 1) es ≡ begun_by (Some u) es d
begun_cut es d u n e = sym e

module _ {home : ℕ} (w : World Lying) (g : Group) (i : ℕ) (m : world.Host Lying) (q : group.Member) (b : AreBeside w g) (fits : IsFitGroup home g) (stock : IsStockedGroup g) (at : slice_get w.members i ≡ Some m) (there : slice_get g.members i ≡ Some q) (s : Stands m q) where
  step_goes : (arrival : Arrival) (e : Event) (r : Replica) (fuse : Option Fuse) → m.replica ≡ Some r → IsArrival g i arrival e → IsFitArrival arrival → StepsWell (react e lying r m.disk) m.disk q
      → Leaves IsBytes IsBytes home (react e) r m.disk → IsMatchedBy home (react e lying r m.disk).script (m.disk ∷ []) g (with_member w i (went hazards m (react e lying r m.disk) fuse))
  step_goes arrival e r fuse run arrives fit well leaves =
      let x = react e lying r m.disk in
      let p : group.Member = record (carried_out x.script q) { replica = Some x.replica } in
      let a = went hazards m x fuse in
      let h = with_member w i a in
      let runs : Runs g i q r = record { member = there; running = s.replica ∙ run } in
      let on = (s.running r run).0 in
      one_move x.script (m.disk ∷ []) g h (Move.Steps i arrival e m.disk) (finished g i q (stepped e r m.disk)) fits (fit, lies_fit.reads m.disk on.calm.face) on.calm.face (file_at g i q m.disk there on.file) (stock_moves g i q p x.script (steps.outputs x.script) stock there (λ y h. runs_one x.replica y leaves.stock h) (outputs_given IsBytes IsBytes x.script leaves.blocks)) (Moves.steps i arrival e m.disk q r runs arrives)
      (placed w g i m q p a x.script (steps.outputs x.script) b at there (went_stands m q x fuse on well) refl) (said_same (steps.outputs x.script)) refl refl (inr refl)

  step_halts : (arrival : Arrival) (e : Event) (r : Replica) (u : Fuse) → m.replica ≡ Some r → IsArrival g i arrival e → IsFitArrival arrival → StepsWell (react e lying r m.disk) m.disk q → u.calls < length (script_calls m.disk.version (react e lying r m.disk).script m.disk.face)
      → TellsIn (react e lying r m.disk).script m.disk u.calls u.code → IsMatchedBy home (begun_by (Some u) (react e lying r m.disk).script m.disk) (m.disk ∷ []) g (with_member w i (halted hazards i m (react e lying r m.disk) u))
  unfolding messages
  step_halts arrival e r u run arrives fit well l tells =
      let x = react e lying r m.disk in
      let on = (s.running r run).0 in
      let c = scripts_cut x.script m.disk q u.calls u.code on well.go l tells in
      let p : group.Member = record (cut_after c.effects x.script q) { replica = None } in
      let a = halted hazards i m x u in
      let h = with_member w i a in
      let runs : Runs g i q r = record { member = there; running = s.replica ∙ run } in
      one_move (begun_by (Some u) x.script m.disk) (m.disk ∷ []) g h (Move.Cuts i arrival e m.disk c.effects) (cut_short g i q (stepped e r m.disk) c.effects) fits (fit, lies_fit.reads m.disk on.calm.face) on.calm.face (file_at g i q m.disk there on.file) (stock_moves g i q p (take (c.effects + 1) x.script) [] stock there none_runs (none_sent IsBytes)) (Moves.cuts i arrival e m.disk c.effects q r runs arrives)
      (placed w g i m q p a (take (c.effects + 1) x.script) [] b at there (halted_stands i m q x u c.effects c.value c.off) refl) (aside (output.Halted i) [] [] tt none)
      (ap (λ (es : List Effect). g.made ++ made_in es) (begun_cut x.script m.disk u c.effects c.begun)) (begun_cut x.script m.disk u c.effects c.begun) (inr refl)

  step_acts : (arrival : Arrival) (e : Event) (r : Replica) (fuse : Option Fuse) → m.fuse ≡ fuse → m.replica ≡ Some r → IsArrival g i arrival e → IsFitArrival arrival → StepsWell (react e lying r m.disk) m.disk q → Leaves IsBytes IsBytes home (react e) r m.disk
      → ((u : Fuse) → fuse ≡ Some u → TellsIn (react e lying r m.disk).script m.disk u.calls u.code) → IsMatchedBy home (begun_by fuse (react e lying r m.disk).script m.disk) (m.disk ∷ []) g (with_member w i (went_or_halted hazards i m (react e lying r m.disk) fuse))
  step_acts arrival e r None f run arrives fit well leaves tells = step_goes arrival e r None run arrives fit well leaves
  step_acts arrival e r (Some u) f run arrives fit well leaves tells =
      let x = react e lying r m.disk in
      let made = length (script_calls m.disk.version x.script m.disk.face) in
      let rest : Fuse = record { calls = u.calls - made; code = u.code } in
      elim (nat_le made u.calls) as (λ t. nat_le made u.calls ≡ t → IsMatchedBy home (begun_by (Some u) x.script m.disk) (m.disk ∷ []) g (with_member w i (cond t (went hazards m x (Some rest)) (halted hazards i m x u)))) [
        | true ↦ λ t. subst (λ (es : List Effect). IsMatchedBy home es (m.disk ∷ []) g (with_member w i (went hazards m x (Some rest)))) (sym (begun_all m.disk.version x.script m.disk.face u.calls (leb-true made u.calls t))) (step_goes arrival e r (Some rest) run arrives fit well leaves)
        | false ↦ λ t. step_halts arrival e r u run arrives fit well (leb-false made u.calls t) (tells u refl)
      ] refl

  -- what its script is
  pub step_well : (arrival : Arrival) (e : Event) (r : Replica) → m.replica ≡ Some r → IsArrival g i arrival e → IsFitArrival arrival → IsGivenEvent IsBytes e → HandlesWell home e r m.disk q g.n i
  step_well arrival e r run arrive fit given =
      let d = m.disk in
      let x = react e lying r d in
      let on = (s.running r run).0 in
      let saved = (s.running r run).1 in
      let is = fits.members i q there in
      let runs = is.running r (s.replica ∙ run) in
      let place : IsAt home g.n i d.version r = subst (λ (k : ℕ). IsAt home g.n i k r) (sym on.file) runs.1 in
      let event = arrives home g i arrival e fits fit arrive in
      let step = step_is home g.n i d.version r e d runs.0 place event (lies_fit.reads d on.calm.face) in
      let good : IsGood r.saved = subst IsGood (sym saved) is.last.0 in
      let chain = (c_react e).each lying r d in
      let here : At d.version r d = record { face = on.calm.face; file = refl; good = good; stock = stock.running i q r there (s.replica ∙ run) } in
      let leaves = (v_react {P = IsBytes} {Q = IsBytes} e given given (reads_bytes e)).each g.n i d.version r d here runs.0.sound place step.known in
      let goes = known_goes IsBytes IsBytes home g.n i d.version x.script d r.saved x.replica.saved refl good chain step.known leaves.blocks leaves.rewrites in
      record { known = step.known; at = here; leaves = leaves; well = well_of home x d q r.saved saved is.last.1.cluster chain goes }

  handle_by : (arrival : Arrival) (e : Event) (r : Replica) → m.replica ≡ Some r → IsArrival g i arrival e → IsFitArrival arrival → IsGivenEvent IsBytes e → WorksWell (stepping e m r)
      → IsMatchedBy home (begun_by m.fuse (react e lying r m.disk).script m.disk) (m.disk ∷ []) g (with_member w i (acts hazards i m (react e lying r m.disk)))
  handle_by arrival e r run arrive fit given works =
      let d = m.disk in
      let x = react e lying r d in
      let on = (s.running r run).0 in
      let h = step_well arrival e r run arrive fit given in
      step_acts arrival e r m.fuse refl run arrive fit h.well h.leaves (λ u f. tells_in x.script d q.last u.calls u.code on.calm.face h.well.go (works.names u f))

  pub handle : (arrival : Arrival) (e : Event) (o : Option Replica) → m.replica ≡ o → IsArrival g i arrival e → IsFitArrival arrival → IsGivenEvent IsBytes e → ((k : Work) → option_map (stepping e m) o ≡ Some k → WorksWell k)
      → IsMatchedBy home (begun_of (option_map (stepping e m) o)) (read_of (option_map (stepping e m) o)) g (with_member w i (world.handled_by hazards i e m o))
  unfolding messages
  handle arrival e None run arrive fit given works = no_move [] g (with_member w i (stays m)) fits stock (stayed w g i m q (stays m) b at there s refl) none
  handle arrival e (Some r) run arrive fit given works = handle_by arrival e r run arrive fit given (works (stepping e m r) refl)

  -- a request that is made in the version of the replica
  pub ask : (x : RequestFields) (o : Option Replica) → m.replica ≡ o → IsAsked x → x.cluster < 2 ^ 64 → ((k : Work) → option_map (asking_as x m) o ≡ Some k → WorksWell k)
      → IsMatchedBy home (begun_of (option_map (asking_as x m) o)) (read_of (option_map (asking_as x m) o)) g (with_member w i (world.asked_by hazards x i m o))
  unfolding messages
  ask x None run asked room works = no_move [] g (with_member w i (stays m)) fits stock (stayed w g i m q (stays m) b at there s refl) none
  ask x (Some r) run asked room works =
      let known = (fits.members i q there).last.0.numbers.version.1 in
      let few : version r ≤ 2 = subst (λ (v : SuperValue). v.fields.version ≤ 2) (sym (s.running r run).1) known in
      let y = in_version (version r) x in
      handle_by (Asked y) (event.Request y) r run (asked_in (version r) x few asked, refl) room tt (works (asking_as x m r) refl)

  pub stop : IsMatchedBy home [] [] g (with_member w i (world.stops i m))
  unfolding made_in messages
  stop =
      let p : group.Member = record q { replica = None } in
      let a = world.stops i m in
      let off : (o : Option Replica) → m.replica ≡ o → (v : SuperValue) × IsOff m.disk q v = elim [
        | None ↦ λ e. s.stopped e
        | Some r ↦ λ e. (q.last, running_off m.disk q (s.running r e).0)
      ] in
      let y = off m.replica refl in
      let stands : Stands a.member p = record { replica = refl; running = λ r e. absurd (let bad : None ≡ Some r = e in cc); stopped = λ e. (y.0, off_stopped m.disk q None y.0 y.1) } in
      one_move [] [] g (with_member w i a) (Move.Crashes i) (with_script g i p [] []) fits tt tt tt (stock_moves g i q p [] [] stock there none_runs (none_sent IsBytes)) (Moves.crashes i q there) (placed w g i m q p a [] [] b at there stands refl) none refl refl (inl refl)

  pub fuse : (c code : ℕ) → IsMatchedBy home [] [] g (with_member w i (world.fused c code i m))
  unfolding messages
  fuse c code =
      let a = world.fused c code i m in
      let stands : Stands a.member q = record { replica = s.replica; running = λ r e. s.running r e; stopped = λ e. s.stopped e } in
      no_move [] g (with_member w i a) fits stock (stayed w g i m q a b at there stands refl) none

-- What is committed by what the first moves of a run put out and stored was written in these moves.
use Rattle.std.proofs.Common.{ℕ, zero, suc, ◌-◌, ◌≤◌, ◌<◌, ◌≡◌, ◌∙◌, inl, inr, arith, refl, sym, ap, subst, List, [], ◌∷◌, ◌++◌, length, take, Some}
use Rattle.std.specs.Prelude.{Bool, Contains, slice_get}
use Rattle.std.proofs.lemmas.Option.{slice_get_within}
use Rattle.vr_header.specs.Bodies.{operation_bytes}
use Rattle.vr_header.specs.Made.{Whole}
use Rattle.vr_header.specs.Names.{root_header}
use Rattle.vr_header.specs.NoCollision.{NoCollision}
use Rattle.vr_header.specs.declared.header.Header.{Header}
use Rattle.vr_header.proofs.NameLaws.{one_header}
use Rattle.vr_msg.specs.declared.frame.Frame.{Frame}
use Rattle.vr_msg.specs.declared.output.Output.{Output}
use Rattle.vr_msg.specs.declared.output.Output.TheVariants as output
use Rattle.vr_msg.specs.declared.output.Sent.{Sent}
use Rattle.vr_rules.specs.Steps.{Write}
use Rattle.vr_world.specs.Commitment as said
use Rattle.vr_world.specs.Commitment.{Evidence, HasSent, IsCommitted, Stored, Vouches}
use Rattle.vr_world.specs.Group.{Played}
use Rattle.vr_world.specs.Safe as safe
use Rattle.vr_world.specs.Safe.{IsHashed, before, evidence, given, read, run_outputs, wrote}
use Rattle.vr_world.specs.Storing.{done_in, run_stored, stored_from, stored_of, until_said}
use Rattle.law_1_machine.specs.Basics.{In}
use Rattle.law_2_chains.specs.Chains.{Setup}
use Rattle.law_2_chains.proofs.StoredLists.{contains_in, in_contains}
use Rattle.law_3_outputs.specs.Followed.{IsFitRun, IsFollowed, IsGoodEntry, stored_until}
use Rattle.law_3_outputs.proofs.Fitting.{writes_good}
use Rattle.law_3_outputs.proofs.Forth.{Told, told, written_hashed}
use Rattle.law_3_outputs.proofs.Log.{in_log, the_log}
use Rattle.law_3_outputs.proofs.Sets.{get_in, in_get, in_left, in_right}
use Rattle.law_3_outputs.proofs.Stored.{until_all}
use Rattle.law_3_outputs.proofs.Traces.{WasWritten, in_either, output_in, outputs_front}
use Rattle.law_6_one_log.proofs.Following.{follows_it}
use Rattle.law_9_asked.proofs.Scripts.{in_take}

-- ---- less that counts

pub record Less (a b : Evidence) : Type 0 where
  pub outputs : (s : Sent) → In (output.Send s) a.outputs → In (output.Send s) b.outputs
  pub stored : (z : Stored) → In z a.stored → In z b.stored

module _ (a b : Evidence) (less : Less a b) where
  more_sent : (r : ℕ) (m : Frame) → HasSent a.outputs r m → HasSent b.outputs r m
  more_sent r m h =
      let s : Sent = record { from = r; to = h.to; message = m } in
      let g = in_get b.outputs (output.Send s) (less.outputs s (get_in a.outputs h.at (output.Send s) h.is)) in
      record { at = g.0; to = h.to; is = g.1 }

  more_vouch : (n view r : ℕ) (c : Header) → Vouches n a view r c → Vouches n b view r c
  more_vouch n view r c (said.acknowledged x s v k e) = said.acknowledged x (more_sent r _ s) v k e
  more_vouch n view r c (said.prepared p s l v e) = said.prepared p (more_sent r _ s) l v e
  more_vouch n view r c (said.alone one first there) =
      let z : Stored = record { view = view; header = c } in
      said.alone one first (in_contains z b.stored (less.stored z (contains_in z a.stored there)))

  pub more_committed : (cluster n view : ℕ) (c : Header) → IsCommitted cluster n a view c → IsCommitted cluster n b view c
  more_committed cluster n _ _ said.root = said.root
  more_committed cluster n _ _ (said.stands_on earlier view d c prior le stands quorum) =
      said.stands_on earlier view d c (more_committed cluster n earlier d prior) le stands
      (record { voters = quorum.voters; enough = quorum.enough; each = λ r h. let y = quorum.each r h in (y.0, more_vouch n view r c y.1) })

-- ---- fronts of a run

take_front : {X : Type 0} (xs ys : List X) (k : ℕ) → k ≤ length xs → take k (xs ++ ys) ≡ take k xs
take_front xs ys zero l = refl
take_front [] ys (suc k) l = absurd (omega arith)
take_front (x ∷ xs) ys (suc k) l = ap (λ (zs : List _). x ∷ zs) (take_front xs ys k (omega arith))

pub get_front : {X : Type 0} (xs ys : List X) (k : ℕ) (x : X) → slice_get xs k ≡ Some x → slice_get (xs ++ ys) k ≡ Some x
get_front [] ys k x e = absurd cc
get_front (y ∷ xs) ys zero x e = e
get_front (y ∷ xs) ys (suc k) x e = get_front xs ys k x e

stored_in : (run : List Played) (t : ℕ) (p : Played) (z : Stored) → slice_get run t ≡ Some p → In z (stored_of p) → In z (run_stored run)
unfolding run_stored
stored_in [] t p z e i = absurd cc
stored_in (q ∷ run) zero p z e i = let s : p ≡ q = (let o : Some q ≡ Some p = e in cc) in in_left (stored_of q) (run_stored run) z (subst (λ (x : Played). In z (stored_of x)) s i)
stored_in (q ∷ run) (suc t) p z e i = in_right (stored_of q) (run_stored run) z (stored_in run t p z e i)

stored_first : (run : List Played) (t : ℕ) (z : Stored) → In z (run_stored (take t run)) → In z (run_stored run)
unfolding run_stored
stored_first [] zero z h = h
stored_first [] (suc t) z h = h
stored_first (q ∷ run) zero z h = absurd h
stored_first (q ∷ run) (suc t) z h =
    elim (in_either (stored_of q) (run_stored (take t run)) z h) [
      | inl here ↦ in_left (stored_of q) (run_stored run) z here
      | inr later ↦ in_right (stored_of q) (run_stored run) z (stored_first run t z later)
    ]

-- what counts before an output of a run counts in all of that run
pub before_less : (run : List Played) (t number : ℕ) (p : Played) → slice_get run t ≡ Some p → Less (before run t number p) (evidence run)
before_less run t number p is = record {
  outputs = λ s i. elim (in_either (run_outputs (take t run)) (take number p.moved.outputs) (output.Send s) i) [
    | inl old ↦ outputs_front run t (output.Send s) old
    | inr now ↦ output_in run t p (output.Send s) is (in_take number p.moved.outputs (output.Send s) now)
  ];
  stored = λ z i. elim (in_either (run_stored (take t run)) (stored_until p number) z i) [
    | inl old ↦ stored_first run t z old
    | inr now ↦ stored_in run t p z is (until_all p number z now)
  ];
}

outputs_left : (ps qs : List Played) (o : Output) → In o (run_outputs ps) → In o (run_outputs (ps ++ qs))
unfolding run_outputs
outputs_left [] qs o h = absurd h
outputs_left (p ∷ ps) qs o h =
    elim (in_either p.moved.outputs (run_outputs ps) o h) [
      | inl here ↦ in_left p.moved.outputs (run_outputs (ps ++ qs)) o here
      | inr later ↦ in_right p.moved.outputs (run_outputs (ps ++ qs)) o (outputs_left ps qs o later)
    ]

stored_left : (ps qs : List Played) (z : Stored) → In z (run_stored ps) → In z (run_stored (ps ++ qs))
unfolding run_stored
stored_left [] qs z h = absurd h
stored_left (p ∷ ps) qs z h =
    elim (in_either (stored_of p) (run_stored ps) z h) [
      | inl here ↦ in_left (stored_of p) (run_stored (ps ++ qs)) z here
      | inr later ↦ in_right (stored_of p) (run_stored (ps ++ qs)) z (stored_left ps qs z later)
    ]

first_less : (ps qs : List Played) → Less (evidence ps) (evidence (ps ++ qs))
first_less ps qs = record { outputs = λ s i. outputs_left ps qs (output.Send s) i; stored = λ z i. stored_left ps qs z i }

contains_left : {X : Type 0} (xs ys : List X) (x : X) → Contains xs x → Contains (xs ++ ys) x
contains_left xs ys x c = in_contains x (xs ++ ys) (in_left xs ys x (contains_in x xs c))

hashed_left : (ps qs : List Played) (c : Header) (bytes : List ℕ) → IsHashed ps c bytes → IsHashed (ps ++ qs) c bytes
hashed_left ps qs c _ (read q d bytes i j r) = read q d bytes (contains_left ps qs q i) j r
hashed_left ps qs c _ (wrote q e bytes i j r) = wrote q e bytes (contains_left ps qs q i) j r
hashed_left ps qs c _ given = given

-- what counts before an output of the first moves is the same in the whole run
pub before_same : (ps qs : List Played) (t number : ℕ) (p : Played) → slice_get ps t ≡ Some p → before (ps ++ qs) t number p ≡ before ps t number p
before_same ps qs t number p is =
    let within = slice_get_within ps t p is in
    ap (λ (run : List Played). let e : Evidence = record { outputs = run_outputs run ++ take number p.moved.outputs; stored = run_stored run ++ stored_from p.before (until_said number (done_in p.move p.moved.script)) } in e)
    (take_front ps qs t (omega (arith, within)))

-- ---- what is committed in the first moves

written_left : (ps qs : List Played) (h : Header) → WasWritten ps h → WasWritten (ps ++ qs) h
written_left ps qs h w = record { entry = w.entry; is = w.is; good = w.good; move = w.move; of_run = in_left ps qs w.move w.of_run; again = w.again; of_move = w.of_move }

module _ (cluster n : ℕ) (first rest : List Played) (fit : IsFitRun cluster n (first ++ rest)) (front : IsFitRun cluster n first) (never : NoCollision (IsHashed (first ++ rest) (root_header cluster))) where
  abbrev run : List Played
  run = first ++ rest

  abbrev root : Header
  root = root_header cluster

  write_hashed : (ps : List Played) (p : Played) (again : Bool) (v : Whole) → In p ps → In (Write again v) p.moved.script → IsHashed ps root (operation_bytes v.operation)
  write_hashed ps p again v i within = wrote p (Write again v) _ (in_contains p ps i) (in_contains _ p.moved.script within) (safe.IsWritten.operation again v)

  never_first : NoCollision (IsHashed first root)
  never_first a b p q same = never a b (hashed_left first rest root a p) (hashed_left first rest root b q) same

  abbrev u : Setup
  u = (follows_it cluster n run fit).setup

  abbrev x : IsFollowed cluster n u run
  x = (follows_it cluster n run fit).followed

  -- an entry of the log that the first moves committed: it was written in them, and its operation is the one that its header names
  pub record IsEarly (e : Whole) : Type 0 where
    pub written : WasWritten first e.header
    pub good : IsGoodEntry e
    pub hashed : IsHashed run root (operation_bytes e.operation)

  pub log_early : (view : ℕ) (e : Whole) → 0 < e.header.op → IsCommitted cluster n (evidence first) view e.header → slice_get (the_log cluster n u run x) (e.header.op - 1) ≡ Some e → IsEarly e
  log_early view e above h at =
      let c = e.header in
      let f = follows_it cluster n first front in
      let t : Told cluster n u run x root never view c = told cluster n u run x root never view c (more_committed (evidence first) (evidence run) (first_less first rest) cluster n view c h) in
      let s : Told cluster n f.setup first f.followed root never_first view c = told cluster n f.setup first f.followed root never_first view c h in
      let whole = t.written above in
      let early = s.written above in
      let w = in_log cluster n u run x view c.op t.header above t.committed in
      let both : Some w.0.entry ≡ Some e = sym w.1 ∙ at in
      let one : w.0.entry ≡ e = cc in
      let logged : t.header ≡ c = sym w.0.is ∙ ap (λ (y : Whole). y.header) one in
      let a = written_hashed cluster n u run x root s.header (written_left first rest s.header early.0) in
      let b = written_hashed cluster n u run x root t.header whole.0 in
      let same : s.header ≡ t.header = one_header (IsHashed run root) never s.header t.header a.1 b.1 a.0 b.0 (early.1 ∙ sym whole.1) in
      record { written = subst (WasWritten first) (same ∙ logged) early.0; good = subst IsGoodEntry one w.0.good; hashed = subst (λ (y : Whole). IsHashed run root (operation_bytes y.operation)) one (write_hashed run w.0.move w.0.again w.0.entry w.0.of_run w.0.of_move) }

  -- what the first moves write is hashed in the run, and its operation is the one that its header names
  pub written_early : (p : Played) (again : Bool) (v : Whole) → In p first → In (Write again v) p.moved.script → IsGoodEntry v × IsHashed run root (operation_bytes v.operation)
  written_early p again v i within =
      let k = in_get first p i in
      (writes_good cluster n first front k.0 p k.1 again v within, write_hashed run p again v (in_left first rest p i) within)

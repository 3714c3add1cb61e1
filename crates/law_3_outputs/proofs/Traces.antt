-- Along a run: what was sent and made stays so, and comes from what was put out and written.
use Rattle.std.proofs.Common.{ℕ, zero, suc, ◌≤◌, ◌≡◌, ◌∙◌, ◌⊎◌, inl, inr, arith, refl, sym, ap, subst, Bool, List, [], ◌∷◌, ◌++◌, length, take, Some}
use Rattle.std.specs.Prelude.{slice_get}
use Rattle.std.proofs.lemmas.Bool.{cases_eq}
use Rattle.std.proofs.lemmas.Option.{slice_get_within}
use Rattle.std.proofs.lemmas.List.{append_assoc, append-nil}
use Rattle.vr_header.specs.declared.header.Header.{Header}
use Rattle.vr_header.specs.Made.{Whole}
use Rattle.vr_header.specs.Names.{name_by}
use Rattle.vr_msg.specs.declared.frame.Frame.TheVariants as frame
use Rattle.vr_msg.specs.declared.frame.Prepare.{Prepare}
use Rattle.vr_msg.specs.declared.frame.PrepareOk.{PrepareOk}
use Rattle.vr_msg.specs.declared.output.Output.{Output}
use Rattle.vr_msg.specs.declared.output.Output.TheVariants as output
use Rattle.vr_msg.specs.declared.output.Sent.{Sent}
use Rattle.vr_world.specs.Group.{Played, made_in, made_by_effect}
use Rattle.vr_rules.specs.Steps.{Effect, Write, Rewrite, Save, Mend, Checkpoint, PutBlock, Say}
use Rattle.vr_rules.proofs.Taking.{log_reaches}
use Rattle.law_1_machine.specs.Basics.{In}
use Rattle.law_1_machine.specs.Group.{Group, Made}
use Rattle.law_1_machine.specs.Members.{Choice, Message}
use Rattle.law_1_machine.specs.Members as machine
use Rattle.law_2_chains.specs.Chains.{Setup, Every, WasSent}
use Rattle.law_2_chains.specs.Finished.{IsSaid, acknowledged, prepared, a_commit, a_start, a_checkpoint, a_statement}
use Rattle.law_2_chains.proofs.Finishing.{sent_more}
use Rattle.vr_world.specs.Safe.{run_outputs}
use Rattle.law_3_outputs.specs.Followed.{IsFrom, IsGoodEntry, IsSo, IsFollowed, by_then}
use Rattle.law_3_outputs.proofs.Fitting.{writes_good}
use Rattle.law_3_outputs.proofs.Sets.{get_in, in_left, in_right, every_at, in_get}

-- ---- lists

pub in_either : {X : Type 0} (xs ys : List X) (x : X) → In x (xs ++ ys) → In x xs ⊎ In x ys
in_either [] ys x h = inr h
in_either (y ∷ xs) ys x (inl e) = inl (inl e)
in_either (y ∷ xs) ys x (inr h) = elim (in_either xs ys x h) [ inl a ↦ inl (inr a) | inr b ↦ inr b ]

pub every_in : {X : Type 0} (P : X → Type 0) (xs : List X) (x : X) → In x xs → Every P xs → P x
every_in P xs x i h = let p = in_get xs x i in every_at P xs p.0 x p.1 h

-- ---- outputs of a run

pub outputs_next : (run : List Played) (t : ℕ) (p : Played) → slice_get run t ≡ Some p → run_outputs (take (suc t) run) ≡ run_outputs (take t run) ++ p.moved.outputs
unfolding run_outputs
outputs_next [] t p e = absurd cc
outputs_next (q ∷ run) zero p e = let s : q ≡ p = (let o : Some q ≡ Some p = e in cc) in append-nil q.moved.outputs ∙ ap (λ (x : Played). x.moved.outputs) s
outputs_next (q ∷ run) (suc t) p e = ap (λ (os : List Output). q.moved.outputs ++ os) (outputs_next run t p e) ∙ sym (append_assoc q.moved.outputs (run_outputs (take t run)) p.moved.outputs)

-- an output of the run is one of a move
pub output_of_move : (run : List Played) (o : Output) → In o (run_outputs run) → (t : ℕ) × (p : Played) × (slice_get run t ≡ Some p) × In o p.moved.outputs
unfolding run_outputs
output_of_move [] o h = absurd h
output_of_move (q ∷ run) o h =
    elim (in_either q.moved.outputs (run_outputs run) o h) [
      | inl here ↦ (0, q, refl, here)
      | inr later ↦ let r = output_of_move run o later in (suc r.0, r.1, r.2, r.3)
    ]

pub outputs_front : (run : List Played) (t : ℕ) (o : Output) → In o (run_outputs (take t run)) → In o (run_outputs run)
unfolding run_outputs
outputs_front [] zero o h = h
outputs_front [] (suc t) o h = h
outputs_front (q ∷ run) zero o h = absurd h
outputs_front (q ∷ run) (suc t) o h =
    elim (in_either q.moved.outputs (run_outputs (take t run)) o h) [
      | inl here ↦ in_left q.moved.outputs (run_outputs run) o here
      | inr later ↦ in_right q.moved.outputs (run_outputs run) o (outputs_front run t o later)
    ]

-- ---- what a vouch was said by

-- a message that vouches is one that was put out
abbrev pub IsVouch : Setup → List Output → Message Header → Type 0
IsVouch u os (machine.Prepare_ok from v k h) = (s : Sent) × (a : PrepareOk) × In (output.Send s) os × (s.message ≡ frame.PrepareOk a) × (name_by u.hash h ≡ a.name) × (from ≡ a.replica) × (a.view ≡ v) × (a.op ≡ k)
IsVouch u os (machine.Prepare from v k e c) = (s : Sent) × (p : Prepare) × In (output.Send s) os × (s.message ≡ frame.Prepare p) × (from ≡ p.replica) × (p.view ≡ v) × (p.entry.header ≡ e)
IsVouch u os _ = Unit {0}

pub vouch_said : (u : Setup) (os : List Output) (m : Message Header) → IsSaid u os m → IsVouch u os m
vouch_said u os _ (acknowledged s a h i e n) = (s, a, i, e, n, refl, refl, refl)
vouch_said u os _ (prepared s p i e) = (s, p, i, e, refl, refl, refl)
vouch_said u os _ (a_commit from v c) = tt
vouch_said u os _ (a_start from v lo top c hs) = tt
vouch_said u os _ (a_checkpoint from v c root) = tt
vouch_said u os _ (a_statement from v t) = tt

-- ---- what was made was written

made_by : (e : Effect) (h : Header) → In h (made_by_effect e) → (again : Bool) × (w : Whole) × (e ≡ Write again w) × (w.header ≡ h)
made_by (Write again w) h (inl e) = (again, w, refl, sym e)
made_by (Write again w) h (inr none) = absurd none
made_by (Rewrite x) h i = absurd i
made_by (Save old new) h i = absurd i
made_by (Mend v) h i = absurd i
made_by (Checkpoint cluster texts op old) h i = absurd i
made_by (PutBlock name block) h i = absurd i
made_by (Say o) h i = absurd i

made_written : (es : List Effect) (h : Header) → In h (made_in es) → (again : Bool) × (w : Whole) × In (Write again w) es × (w.header ≡ h)
unfolding made_in
made_written [] h i = absurd i
made_written (e ∷ es) h i =
    elim (in_either (made_by_effect e) (made_in es) h i) [
      | inl here ↦ let y = made_by e h here in (y.0, y.1, inl (sym y.2), y.3)
      | inr later ↦ let y = made_written es h later in (y.0, y.1, inr y.2, y.3)
    ]

-- an entry of this header was written in the run
pub record WasWritten (run : List Played) (h : Header) : Type 0 where
  pub entry : Whole
  pub is : entry.header ≡ h
  pub good : IsGoodEntry entry
  pub move : Played
  pub of_run : In move run
  pub again : Bool
  pub of_move : In (Write again entry) move.moved.script

module _ (cluster n : ℕ) (u : Setup) (run : List Played) (x : IsFollowed cluster n u run) where
  abbrev pub last : Group Header
  last = x.group (length run)

  pub sent_later : (k t : ℕ) → t ≤ k → k ≤ length run → (m : Message Header) → In m (x.group t).sent → In m (x.group k).sent
  sent_later zero t l w m h = subst (λ j. In m (x.group j).sent) (let e : t ≡ 0 = omega arith in e) h
  sent_later (suc k) t l w m h =
      elim (cases_eq t (suc k)) [
        | inl e ↦ subst (λ j. In m (x.group j).sent) e h
        | inr d ↦ let p = log_reaches run k (omega arith) in (x.carried k p.0 p.1).sent m (sent_later k t (omega arith) (omega arith) m h)
      ]

  pub chosen_later : (k t : ℕ) → t ≤ k → k ≤ length run → (c : Choice Header) → In c (x.group t).chosen → In c (x.group k).chosen
  chosen_later zero t l w m h = subst (λ j. In m (x.group j).chosen) (let e : t ≡ 0 = omega arith in e) h
  chosen_later (suc k) t l w m h =
      elim (cases_eq t (suc k)) [
        | inl e ↦ subst (λ j. In m (x.group j).chosen) e h
        | inr d ↦ let p = log_reaches run k (omega arith) in (x.carried k p.0 p.1).chosen m (chosen_later k t (omega arith) (omega arith) m h)
      ]

  -- what was put out is so
  pub said_of : (o : Output) → In o (run_outputs run) → (t : ℕ) × (p : Played) × (slice_get run t ≡ Some p) × ((number : ℕ) × IsSo cluster u run (by_then u (x.group t) p number) (x.group (suc t)) p o)
  said_of o h =
      let y = output_of_move run o h in
      let k = in_get y.1.moved.outputs o y.3 in
      (y.0, y.1, y.2, (k.0, (x.carried y.0 y.1 y.2).said k.0 o k.1))

  pub sent_of : (s : Sent) → In (output.Send s) (run_outputs run) → WasSent u last.sent s.message
  sent_of s h =
      let y = said_of (output.Send s) h in
      let within = slice_get_within run y.0 y.1 y.2 in
      sent_more u (x.group (suc y.0)).sent last.sent (λ m i. sent_later (length run) (suc y.0) (omega arith) (omega arith) m i) s.message y.3.1.sent

  pub from_of : (s : Sent) → In (output.Send s) (run_outputs run) → IsFrom s.from s.message
  from_of s h = (said_of (output.Send s) h).3.1.from

  pub written_of : (t : ℕ) → t ≤ length run → (z : Made Header) → In z (x.group t).made → WasWritten run z.entry
  written_of zero l z h = absurd (subst (In z) x.none_made h)
  written_of (suc t) l z h =
      let p = log_reaches run t (omega arith) in
      elim ((x.carried t p.0 p.1).made z h) [
        | inl old ↦ written_of t (omega arith) z old
        | inr made ↦
            let y = made_written p.0.moved.script z.entry made in
            record { entry = y.1; is = y.3; good = writes_good cluster n run x.fit t p.0 p.1 y.0 y.1 y.2; move = p.0; of_run = get_in run t p.0 p.1; again = y.0; of_move = y.2 }
      ]

-- an output of a move is one of the run
pub output_in : (run : List Played) (t : ℕ) (p : Played) (o : Output) → slice_get run t ≡ Some p → In o p.moved.outputs → In o (run_outputs run)
unfolding run_outputs
output_in [] t p o e i = absurd cc
output_in (q ∷ run) zero p o e i = let s : p ≡ q = (let o : Some q ≡ Some p = e in cc) in in_left q.moved.outputs (run_outputs run) o (subst (λ (x : Played). In o x.moved.outputs) s i)
output_in (q ∷ run) (suc t) p o e i = in_right q.moved.outputs (run_outputs run) o (output_in run t p o e i)

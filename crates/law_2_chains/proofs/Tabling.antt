-- What a replica's tables rest on at the end of a step: what was sent before, and what the step said.
use Rattle.std.proofs.Common.{ℕ, zero, suc, ◌+◌, ◌%◌, ◌≤◌, ◌≡◌, ◌∙◌, inl, inr, arith, refl, sym, ap, subst, Bool, true, false, not, cond, List, [], ◌∷◌, ◌++◌, map, filter, Option, Some, None}
use Rattle.std.specs.Prelude.{nat_eq}
use Rattle.std.specs.List.{range_with_len}
use Rattle.std.proofs.lemmas.Bool.{cond_both, not-false, eqb-true}
use Rattle.vr_header.specs.declared.header.Header.{Header}
use Rattle.vr_header.specs.declared.part.Part.{Part}
use Rattle.vr_header.specs.declared.part.Part.TheVariants.{Here, Lost, Wanted, Unknown, Nothing}
use Rattle.vr_header.specs.Made.{Whole}
use Rattle.vr_msg.specs.declared.frame.Frame.TheVariants as frame
use Rattle.vr_msg.specs.declared.frame.Prepare.{Prepare}
use Rattle.vr_msg.specs.declared.output.Output.{Output}
use Rattle.vr_msg.specs.declared.output.Output.TheVariants as output
use Rattle.vr_msg.specs.declared.output.Sent.{Sent}
use Rattle.vr_rules.specs.Replica.{Replica, leads, part_at, with_part, version}
use Rattle.vr_rules.specs.Outputs.{others, send, send_to_all, prepare}
use Rattle.vr_rules.specs.Steps.{Effect, Say, Setting, Step, Word, ◌⨾◌, quiet, change, says, by, reading, each, after_all, outputs}
use Rattle.vr_rules.specs.Words.{entry_of, or_lost, lost, with_entry, with_entry_at, prepare_again}
use Rattle.vr_rules.specs.Sound.{IsSound}
use Rattle.vr_rules.proofs.SendsScripts.{outputs_append, outputs_said}
use Rattle.vr_rules.proofs.Wording.{read_is}
use Rattle.law_1_machine.specs.Basics.{In}
use Rattle.law_1_machine.specs.Group.{Group}
use Rattle.law_1_machine.specs.Members as machine
use Rattle.law_1_machine.specs.Members.{Message}
use Rattle.law_2_chains.specs.Local.{Local, carried}
use Rattle.law_2_chains.specs.Chains.{Setup, Every, WasSent}
use Rattle.law_2_chains.specs.Finished.{Finished, Finishes, IsTrue}
use Rattle.law_2_chains.specs.Begins.{IsChain, as_it_was}
use Rattle.law_2_chains.specs.Tables.{HasVouchedAt, Tables}
use Rattle.law_2_chains.proofs.Tallies.{Tallies, tables_of, tallies_of}
use Rattle.law_2_chains.proofs.Playing.{leaves}
use Rattle.law_2_chains.proofs.Applying.{op_is, at_lost}
use Rattle.law_2_chains.proofs.Beginning.{AreStated}
use Rattle.law_2_chains.proofs.Holding.{Holds, tables_hold}
use Rattle.law_2_chains.proofs.Staying.{Stays, stays_again, stays_each}

-- what was sent before is sent, and what was said; and nothing was made
pub record Since (u : Setup) (start : Group Header) (os : List Output) (s : Group Header) : Type 0 where
  pub made : s.made ≡ start.made
  pub kept : (m : Message Header) → In m start.sent → In m s.sent
  pub said : (w : Sent) → In (output.Send w) os → WasSent u s.sent w.message

-- then the tables of the replica that a step leaves are true
abbrev pub Tabled : Setup → Group Header → ℕ → Step → Type 0
Tabled u start i x = (s : Group Header) → Since u start (outputs x.script) s → Tallies u s i x.replica

-- ---- lists

pub in_left : {X : Type 0} (x : X) (xs ys : List X) → In x xs → In x (xs ++ ys)
in_left x [] ys h = absurd h
in_left x (y ∷ ys) zs h = elim h [ inl e ↦ inl e | inr j ↦ inr (in_left x ys zs j) ]

pub in_right : {X : Type 0} (x : X) (xs ys : List X) → In x ys → In x (xs ++ ys)
in_right x [] ys h = h
in_right x (y ∷ ys) zs h = inr (in_right x ys zs h)

in_mapped : {X Y : Type 0} (f : X → Y) (x : X) (xs : List X) → In x xs → In (f x) (map f xs)
in_mapped f x [] h = absurd h
in_mapped f x (y ∷ ys) h = elim h [ inl e ↦ inl (ap f e) | inr j ↦ inr (in_mapped f x ys j) ]

every_right : {X : Type 0} (P : X → Type 0) (xs ys : List X) → Every P (xs ++ ys) → Every P ys
every_right P [] ys h = h
every_right P (x ∷ xs) ys h = every_right P xs ys h.1

every_at : {X : Type 0} (P : X → Type 0) (xs : List X) (x : X) → In x xs → Every P xs → P x
every_at P [] x j h = absurd j
every_at P (y ∷ ys) x j h = elim j [ inl e ↦ subst P (sym e) h.0 | inr k ↦ every_at P ys x k h.1 ]

pub in_said : (os : List Output) (o : Output) → In o os → In o (outputs (map Say os))
in_said os o h = subst (In o) (sym (outputs_said os)) h

abbrev Another : ℕ → List ℕ → Type 0
Another index xs = (to : ℕ) × In to xs

-- of two replicas one is another one
another_from : (index a k : ℕ) → Another index (filter (λ to. not (nat_eq to index)) (range_with_len a (suc (suc k))))
another_from index a k =
    let later : List ℕ = filter (λ to. not (nat_eq to index)) (range_with_len (a + 1) (suc k)) in
    let last : List ℕ = filter (λ to. not (nat_eq to index)) (range_with_len (a + 1 + 1) k) in
    cond_both (not (nat_eq a index)) (a ∷ later) later (Another index) (λ e. (a, inl refl)) (λ e.
    cond_both (not (nat_eq (a + 1) index)) ((a + 1) ∷ last) last (Another index) (λ d. (a + 1, inl refl)) (λ d.
    let one = eqb-true a index (not-false _ e) in
    let two = eqb-true (a + 1) index (not-false _ d) in
    absurd (omega arith)))

another : (index n : ℕ) → 2 ≤ n → Another index (others index n)
another index zero l = absurd (omega arith)
another index (suc zero) l = absurd (omega arith)
another index (suc (suc k)) l = another_from index 0 k

-- ---- what was said

module _ (u : Setup) (start : Group Header) (i : ℕ) where
  since_left : (a b : List Effect) (s : Group Header) → Since u start (outputs (a ++ b)) s → Since u start (outputs a) s
  since_left a b s h = record { made = h.made; kept = h.kept; said = λ w j. h.said w (subst (In (output.Send w)) (sym (outputs_append a b)) (in_left _ (outputs a) (outputs b) j)) }

  since_right : (a b : List Effect) (s : Group Header) → Since u start (outputs (a ++ b)) s → Since u start (outputs b) s
  since_right a b s h = record { made = h.made; kept = h.kept; said = λ w j. h.said w (subst (In (output.Send w)) (sym (outputs_append a b)) (in_right _ (outputs a) (outputs b) j)) }

  -- the end of a step is such a group
  pub since_finished : (r : Replica) (l : Local) (es : List Effect) (s : Group Header) → Finished u start i r (carried es l) s → Since u start (outputs es) s
  since_finished r l es s x =
      let told : Every (IsTrue u start.sent s.sent) (l.said ++ outputs es) = subst (Every (IsTrue u start.sent s.sent)) (leaves es l).said x.told in
      let each = every_right (IsTrue u start.sent s.sent) l.said (outputs es) told in
      record { made = x.none_made; kept = x.kept; said = λ w j. (every_at (IsTrue u start.sent s.sent) (outputs es) (output.Send w) j each).0 }

  -- ---- words

  pub tabled_after : {F : Type 0} (v w : Word F) (t : Setting F) (r : Replica) (f : F) → ((d : F) → Tabled u start i (w t (v t r f).replica d)) → Tabled u start i ((v ⨾ w) t r f)
  unfolding ◌⨾◌
  tabled_after v w t r f go s a =
      let x = v t r f in
      let d = after_all t f x.script in
      go d s (since_right x.script (w t x.replica d).script s a)

  pub tabled_change_then : {F : Type 0} (g : Replica → Replica) (w : Word F) (t : Setting F) (r : Replica) (f : F) → ((d : F) → Tabled u start i (w t (g r) d)) → Tabled u start i ((change g ⨾ w) t r f)
  unfolding change
  tabled_change_then g w t r f go = tabled_after (change g) w t r f go

  pub tabled_says_then : {F : Type 0} (os : Replica → List Output) (w : Word F) (t : Setting F) (r : Replica) (f : F) → ((d : F) → Tabled u start i (w t r d)) → Tabled u start i ((says os ⨾ w) t r f)
  unfolding says
  tabled_says_then os w t r f go = tabled_after (says os) w t r f go

  pub tabled_quiet_then : {F : Type 0} (w : Word F) (t : Setting F) (r : Replica) (f : F) → ((d : F) → Tabled u start i (w t r d)) → Tabled u start i ((quiet ⨾ w) t r f)
  unfolding quiet
  tabled_quiet_then w t r f go = tabled_after quiet w t r f go

  pub tabled_if : {F : Type 0} (b : Bool) (v w : Word F) (t : Setting F) (r : Replica) (f : F) → (b ≡ true → Tabled u start i (v t r f)) → (b ≡ false → Tabled u start i (w t r f)) → Tabled u start i (cond b v w t r f)
  tabled_if true v w t r f h k = h refl
  tabled_if false v w t r f h k = k refl

  -- tables that are true stay so
  pub tables_stay : {F : Type 0} (w : Word F) (t : Setting F) (r : Replica) (f : F) (s : Group Header) → Stays w → IsSound r → Tallies u s i r → Tallies u s i (w t r f).replica
  tables_stay w t r f s h sound tables = tables_hold u s s i r (w t r f).replica (h.every t r f sound).0 refl (λ m j. j) tables

  pub tabled_held : (r : Replica) (x : Step) → Tallies u start i r → Holds r x.replica → Tabled u start i x
  tabled_held r x tables h s a = tables_hold u start s i r x.replica h a.made a.kept tables

  pub tabled_stays : {F : Type 0} (w : Word F) (t : Setting F) (r : Replica) (f : F) → Stays w → IsSound r → Tallies u start i r → Tabled u start i (w t r f)
  tabled_stays w t r f h sound tables = tabled_held r (w t r f) tables (h.every t r f sound).0

  pub tabled_then_stays : {F : Type 0} (v w : Word F) (t : Setting F) (r : Replica) (f : F) → Tabled u start i (v t r f) → IsSound (v t r f).replica → Stays w → Tabled u start i ((v ⨾ w) t r f)
  unfolding ◌⨾◌
  tabled_then_stays v w t r f go sound h s a =
      let x = v t r f in
      let d = after_all t f x.script in
      tables_stay w t x.replica d s h sound (go s (since_left x.script (w t x.replica d).script s a))

  -- ---- a replica that doesn't lead

  pub tables_unled : (s : Group Header) (q : Replica) → (leads q ≡ true → ⊥) → AreStated u s q → Tables u s i q
  tables_unled s q unled all = record { acks = λ l k j above has. absurd (unled l); own = λ l k h above is. absurd (unled l); top = λ l k h above is. absurd (unled l); stated = all }

  pub tallies_unled : (s : Group Header) (q : Replica) → (leads q ≡ true → ⊥) → AreStated u s q → Tallies u s i q
  tallies_unled s q unled all = tallies_of u s i q (tables_unled s q unled all)

  pub tabled_unled : (x : Step) → (leads x.replica ≡ true → ⊥) → AreStated u start x.replica → Tabled u start i x
  tabled_unled x unled all s a = tallies_unled s x.replica unled (λ j t e. a.kept _ (all j t e))

-- a step in which nothing is made
unfoldable pub chain_of : (u : Setup) → 2 ≤ u.quorums.n → (start : Group Header) (i : ℕ) (l : Local) (x : Step) → Finishes u start i l x → Tabled u start i x → IsChain u start i l x
chain_of u several start i l x h g = record { begun = start; begins = as_it_was; finishes = h; tables = λ b. tables_of u h.after i x.replica several (g h.after (since_finished u start i x.replica l x.script h.after h.ends)) }

-- ---- what is stored is prepared

-- an entry of this op was prepared by the replica, in its view
pub record IsPrepared (r : Replica) (k : ℕ) (os : List Output) : Type 0 where
  pub send : Sent
  pub prepare : Prepare
  pub said : In (output.Send send) os
  pub is : send.message ≡ frame.Prepare prepare
  pub by : prepare.replica ≡ r.index
  pub of_view : prepare.view ≡ r.view
  pub at : prepare.entry.header.op ≡ k

pub prepared_left : (r : Replica) (k : ℕ) (a b : List Effect) → IsPrepared r k (outputs a) → IsPrepared r k (outputs (a ++ b))
prepared_left r k a b p = record { send = p.send; prepare = p.prepare; said = subst (In (output.Send p.send)) (sym (outputs_append a b)) (in_left _ (outputs a) (outputs b) p.said); is = p.is; by = p.by; of_view = p.of_view; at = p.at }

prepared_right : (r q : Replica) (k : ℕ) (a b : List Effect) → q.index ≡ r.index → q.view ≡ r.view → IsPrepared q k (outputs b) → IsPrepared r k (outputs (a ++ b))
prepared_right r q k a b e v p = record { send = p.send; prepare = p.prepare; said = subst (In (output.Send p.send)) (sym (outputs_append a b)) (in_right _ (outputs a) (outputs b) p.said); is = p.is; by = p.by ∙ e; of_view = p.of_view ∙ v; at = p.at }

pub prepared_all : (e : Whole) (r : Replica) → 2 ≤ r.n → IsPrepared r e.header.op (outputs (map Say (send_to_all (prepare e) r)))
unfolding send_to_all
prepared_all e r l =
    let to = another r.index r.n l in
    record {
      send = record { from = r.index; to = to.0; message = prepare e r };
      prepare = record { version = version r; replica = r.index; view = r.view; commit = r.commit; entry = e };
      said = in_said (map (λ to. send to (prepare e r) r) (others r.index r.n)) (send to.0 (prepare e r) r) (in_mapped (λ to. send to (prepare e r) r) to.0 (others r.index r.n) to.1);
      is = refl;
      by = refl;
      of_view = refl;
      at = refl;
    }

-- and so the replica has vouched there, once that was sent
pub vouched_by : (u : Setup) (start s : Group Header) (i : ℕ) (r : Replica) (k : ℕ) (os : List Output) → Since u start os s → IsPrepared r k os → r.index ≡ i → i ≡ r.view % u.quorums.n → HasVouchedAt u s r.view k i
vouched_by u start s i r k os a p place first =
    let e = p.prepare in
    let sent : WasSent u s.sent (frame.Prepare e) = subst (WasSent u s.sent) p.is (a.said p.send p.said) in
    let by : e.replica ≡ i = p.by ∙ place in
    let same : machine.Prepare e.replica e.view e.entry.header.op e.entry.header e.commit ≡ machine.Prepare i r.view k e.entry.header e.commit =
    ap (λ (x : ℕ). machine.Prepare x e.view e.entry.header.op e.entry.header e.commit) by ∙ (ap (λ (x : ℕ). machine.Prepare i x e.entry.header.op e.entry.header e.commit) p.of_view ∙ ap (λ (x : ℕ). machine.Prepare i r.view x e.entry.header e.commit) p.at) in
    (e.entry.header, inr (first, (e.commit, subst (λ (m : Message Header). In m s.sent) same sent)))

module _ {F : Type 0} (t : Setting F) where
  again_or_lost : (k : ℕ) (g h : Header) (o : Option Whole) (r : Replica) (f : F) → IsSound r → 2 ≤ r.n → entry_of g t f ≡ o → part_at r k ≡ Here g
      → part_at (or_lost g (λ e. says (send_to_all (prepare e))) o t r f).replica k ≡ Here h → IsPrepared r k (outputs (or_lost g (λ e. says (send_to_all (prepare e))) o t r f).script)
  unfolding change says
  again_or_lost k g h None r f sound l read is end =
      let at : part_at (lost g r) k ≡ Lost g = subst (λ j. part_at (with_part j (Lost g) r) k ≡ Lost g) (sym (op_is k g r sound is)) (at_lost k g r sound is) in
      let no_here : Lost g ≡ Here h = sym at ∙ end in
      absurd cc
  again_or_lost k g h (Some e) r f sound l read is end =
      let same : e.header ≡ g = read_is g (t.entry f (g.op % 64)) e read in
      let number : e.header.op ≡ k = ap (λ (y : Header). y.op) same ∙ op_is k g r sound is in
      subst (λ j. IsPrepared r j (outputs (map Say (send_to_all (prepare e) r)))) number (prepared_all e r l)

  again_part : (k : ℕ) (h : Header) (p : Part) (r : Replica) (f : F) → IsSound r → 2 ≤ r.n → part_at r k ≡ p
      → part_at (with_entry (λ e. says (send_to_all (prepare e))) p t r f).replica k ≡ Here h → IsPrepared r k (outputs (with_entry (λ e. says (send_to_all (prepare e))) p t r f).script)
  unfolding reading quiet
  again_part k h (Here g) r f sound l is end = again_or_lost k g h (entry_of g t f) r f sound l refl is end
  again_part k h (Lost g) r f sound l is end = let no_here : Lost g ≡ Here h = sym is ∙ end in absurd cc
  again_part k h (Wanted g) r f sound l is end = let no_here : Wanted g ≡ Here h = sym is ∙ end in absurd cc
  again_part k h Unknown r f sound l is end = let no_here : Unknown ≡ Here h = sym is ∙ end in absurd cc
  again_part k h Nothing r f sound l is end = let no_here : Nothing ≡ Here h = sym is ∙ end in absurd cc

  prepared_again : (k : ℕ) (h : Header) (r : Replica) (f : F) → IsSound r → 2 ≤ r.n → part_at (prepare_again k t r f).replica k ≡ Here h → IsPrepared r k (outputs (prepare_again k t r f).script)
  unfolding prepare_again with_entry_at by
  prepared_again k h r f sound l end = again_part k h (part_at r k) r f sound l refl end

  pub holds_each : (xs : List ℕ) (r : Replica) (f : F) → IsSound r → Holds r (each prepare_again xs t r f).replica
  holds_each xs r f sound = ((stays_each prepare_again xs stays_again).every t r f sound).0

  -- what is still stored once all of these were prepared was prepared
  pub prepared_each : (xs : List ℕ) (k : ℕ) (h : Header) (r : Replica) (f : F) → IsSound r → 2 ≤ r.n → In k xs → part_at (each prepare_again xs t r f).replica k ≡ Here h
      → IsPrepared r k (outputs (each prepare_again xs t r f).script)
  unfolding each ◌⨾◌
  prepared_each [] k h r f sound l j end = absurd j
  prepared_each (x ∷ xs) k h r f sound l j end =
      let a = prepare_again x t r f in
      let d = after_all t f a.script in
      let b = each prepare_again xs t a.replica d in
      let one = (stays_again x).every t r f sound in
      let size = one.0.n in
      let rest = holds_each xs a.replica d one.1 in
      elim j [
        | inl same ↦
            let here : part_at a.replica k ≡ Here h = rest.here k h end in
            let it : IsPrepared r x (outputs a.script) = prepared_again x h r f sound l (subst (λ y. part_at a.replica y ≡ Here h) same here) in
            subst (λ y. IsPrepared r y (outputs (a.script ++ b.script))) (sym same) (prepared_left r x a.script b.script it)
        | inr later ↦ prepared_right r a.replica k a.script b.script one.0.index one.0.view (prepared_each xs k h a.replica d one.1 (omega arith) later end)
      ]

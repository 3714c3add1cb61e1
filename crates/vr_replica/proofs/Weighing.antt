-- How much words have a replica send: the words that all others are made of.
use Rattle.std.proofs.Common.{arith, ◌≡◌, ◌≤◌, ◌<◌, ◌+◌, ◌-◌, ◌*◌, refl, sym, ap, ◌∙◌, ℕ, zero, suc, Bool, true, false, cond, not, List, [], ◌∷◌, ◌++◌, length, map, filter, append_assoc, inl, inr}
use Rattle.std.specs.Prelude.{nat_eq}
use Rattle.std.specs.List.{range_with_len}
use Rattle.std.proofs.lemmas.Bool.{cond_both, cases_lt, eqb-false, not-true}
use Rattle.vr_header.specs.declared.command.Command.{Command}
use Rattle.vr_msg.specs.declared.frame.Frame.{Frame}
use Rattle.vr_msg.specs.declared.output.Output.{Output}
use Rattle.vr_msg.specs.declared.output.Sent.{Sent}
use Rattle.vr_msg.specs.Spelling.{command_for, version_of}
use Rattle.vr_rules.specs.Outputs as told
use Rattle.vr_rules.specs.Outputs.{message_of, messages, others, send}
use Rattle.vr_rules.specs.Replica.{Replica, version}
use Rattle.vr_rules.specs.Steps.{Effect, Setting, Step, Word, ◌⨾◌, quiet, change, does, says, by, naming, reading, times, each, outputs, after_all}
use Rattle.vr_rules.proofs.SendsScripts.{outputs_append, outputs_said}
use Rattle.vr_replica.specs.Bounds.{weight}

-- ---- sums

messages_append : (os ps : List Output) → messages (os ++ ps) ≡ messages os ++ messages ps
unfolding messages
messages_append [] ps = refl
messages_append (o ∷ os) ps = ap (λ (xs : List Sent). message_of o ++ xs) (messages_append os ps) ∙ sym (append_assoc (message_of o) (messages os) (messages ps))

weight_append : (w : ℕ → Command → ℕ) (a b : List Sent) → weight w (a ++ b) ≡ weight w a + weight w b
unfolding weight
weight_append w [] b = omega arith
weight_append w (s ∷ ss) b = let rest = weight_append w ss b in omega (arith, rest)

weight_both : (w : ℕ → Command → ℕ) (a b : List Effect) → weight w (messages (outputs (a ++ b))) ≡ weight w (messages (outputs a)) + weight w (messages (outputs b))
weight_both w a b = rw (outputs_append a b, messages_append (outputs a) (outputs b)) (weight_append w (messages (outputs a)) (messages (outputs b)))

-- ---- the others of a group

others_few : (index a k : ℕ) → length (filter (λ to. not (nat_eq to index)) (range_with_len a k)) ≤ k
others_few index a zero = omega arith
others_few index a (suc k) =
    let rest = others_few index (a + 1) k in
    cond_both (not (nat_eq a index)) (a ∷ filter (λ to. not (nat_eq to index)) (range_with_len (a + 1) k)) (filter (λ to. not (nat_eq to index)) (range_with_len (a + 1) k))
    (λ (xs : List ℕ). length xs ≤ suc k)
    (λ _. omega (arith, rest))
    (λ _. omega (arith, rest))

others_less : (index a k : ℕ) → a ≤ index → index < a + k → length (filter (λ to. not (nat_eq to index)) (range_with_len a k)) + 1 ≤ k
others_less index a zero l m = absurd (omega (arith, l, m))
others_less index a (suc k) l m =
    cond_both (not (nat_eq a index)) (a ∷ filter (λ to. not (nat_eq to index)) (range_with_len (a + 1) k)) (filter (λ to. not (nat_eq to index)) (range_with_len (a + 1) k))
    (λ (xs : List ℕ). length xs + 1 ≤ suc k)
    (λ e. elim (cases_lt a index) [
      | inl below ↦ (let rest = others_less index (a + 1) k (omega (arith, below)) (omega (arith, m)) in omega (arith, rest))
      | inr above ↦ absurd (eqb-false a index (not-true _ e) (omega (arith, l, above)))
    ])
    (λ _. let rest = others_few index (a + 1) k in omega (arith, rest))

few_others : (index n : ℕ) → index < n → length (others index n) ≤ n - 1
few_others index n l = let k = others_less index 0 n (omega arith) (omega (arith, l)) in omega (arith, k)

pub times_more : (j k c : ℕ) → j ≤ k → j * c ≤ k * c
times_more zero k c l = omega arith
times_more (suc j) zero c l = absurd (omega (arith, l))
times_more (suc j) (suc k) c l = let rest = times_more j k c (omega (arith, l)) in omega (arith, rest)

to_each : (w : ℕ → Command → ℕ) (m : Frame) (r : Replica) (xs : List ℕ) → weight w (messages (map (λ to. send to m r) xs)) ≡ length xs * w (version_of m) (command_for m)
unfolding weight messages
to_each w m r [] = omega arith
to_each w m r (x ∷ xs) = let rest = to_each w m r xs in omega (arith, rest)

-- ---- words

-- what a step leaves is so, and its messages weigh at most k
pub record Light (w : ℕ → Command → ℕ) (Q : Replica → Type 0) (k : ℕ) (x : Step) : Type 0 where
  pub left : Q x.replica
  pub light : weight w (messages (outputs x.script)) ≤ k

-- from each replica that is so
pub record Weighs {F : Type 0} (w : ℕ → Command → ℕ) (P Q : Replica → Type 0) (k : ℕ) (v : Word F) : Type 0 where
  pub each : (s : Setting F) (r : Replica) (f : F) → P r → Light w Q k (v s r f)

-- a replica that is just this one
abbrev pub Just : Replica → Replica → Type 0
Just r x = x ≡ r

module _ {F : Type 0} {w : ℕ → Command → ℕ} where
  pub weighs_then : {P Q R : Replica → Type 0} {j k : ℕ} (u v : Word F) → Weighs w P Q j u → Weighs w Q R k v → Weighs w P R (j + k) (u ⨾ v)
  unfolding ◌⨾◌
  weighs_then u v h k = record {
    each = λ s r f p.
        let a = u s r f in
        let g = after_all s f a.script in
        let b = v s a.replica g in
        let x = h.each s r f p in
        let y = k.each s a.replica g x.left in
        let sum = weight_both w a.script b.script in
        let first = x.light in
        let second = y.light in
        record { left = y.left; light = omega (arith, sum, first, second) };
  }

  pub weighs_as : {P Q : Replica → Type 0} {j k : ℕ} (v : Word F) → j ≤ k → Weighs w P Q j v → Weighs w P Q k v
  weighs_as v l h = record {
    each = λ s r f p.
        let x = h.each s r f p in
        let few = x.light in
        record { left = x.left; light = omega (arith, few, l) };
  }

  pub weighs_from : {P P' Q : Replica → Type 0} {k : ℕ} (v : Word F) → ((r : Replica) → P' r → P r) → Weighs w P Q k v → Weighs w P' Q k v
  weighs_from v g h = record { each = λ s r f p. h.each s r f (g r p) }

  pub weighs_onto : {P Q Q' : Replica → Type 0} {k : ℕ} (v : Word F) → ((r : Replica) → Q r → Q' r) → Weighs w P Q k v → Weighs w P Q' k v
  weighs_onto v g h = record {
    each = λ s r f p.
        let x = h.each s r f p in
        record { left = g (v s r f).replica x.left; light = x.light };
  }

  pub weighs_quiet : {P : Replica → Type 0} → Weighs {F = F} w P P 0 quiet
  unfolding quiet outputs messages weight
  weighs_quiet = record { each = λ s r f p. record { left = p; light = omega arith } }

  pub weighs_change : {P Q : Replica → Type 0} (g : Replica → Replica) → ((r : Replica) → P r → Q (g r)) → Weighs {F = F} w P Q 0 (change g)
  unfolding change outputs messages weight
  weighs_change g h = record { each = λ s r f p. record { left = h r p; light = omega arith } }

  pub weighs_does : {P : Replica → Type 0} (e : Replica → Effect) → ((r : Replica) → outputs (e r ∷ []) ≡ []) → Weighs {F = F} w P P 0 (does e)
  unfolding does messages weight
  weighs_does e n = record { each = λ s r f p. record { left = p; light = rw (n r) (omega arith) } }

  pub weighs_says : {P : Replica → Type 0} {k : ℕ} (os : Replica → List Output) → ((r : Replica) → P r → weight w (messages (os r)) ≤ k) → Weighs {F = F} w P P k (says os)
  unfolding says
  weighs_says os h = record { each = λ s r f p. record { left = p; light = rw (outputs_said (os r)) (h r p) } }

  pub weighs_by : {P Q : Replica → Type 0} {k : ℕ} (v : Replica → Word F) → ((r : Replica) → P r → Weighs w (Just r) Q k (v r)) → Weighs w P Q k (by v)
  unfolding by
  weighs_by v h = record { each = λ s r f p. (h r p).each s r f refl }

  pub weighs_naming : {P Q : Replica → Type 0} {k : ℕ} (v : (List ℕ → List ℕ) → Word F) → ((hash : List ℕ → List ℕ) → Weighs w P Q k (v hash)) → Weighs w P Q k (naming v)
  unfolding naming
  weighs_naming v h = record { each = λ s r f p. (h s.hash).each s r f p }

  pub weighs_reading : {P Q : Replica → Type 0} {k : ℕ} {X : Type 0} (g : Setting F → F → X) (v : X → Word F) → ((x : X) → Weighs w P Q k (v x)) → Weighs w P Q k (reading g v)
  unfolding reading
  weighs_reading g v h = record { each = λ s r f p. (h (g s f)).each s r f p }

  pub weighs_if : {P Q : Replica → Type 0} {k : ℕ} (b : Bool) (u v : Word F) → (b ≡ true → Weighs w P Q k u) → (b ≡ false → Weighs w P Q k v) → Weighs w P Q k (cond b u v)
  weighs_if true u v h k = h refl
  weighs_if false u v h k = k refl

  pub weighs_when : {P : Replica → Type 0} {k : ℕ} (b : Bool) (v : Word F) → Weighs w P P k v → Weighs w P P k (cond b v quiet)
  weighs_when true v h = h
  weighs_when false v h = weighs_as quiet (omega arith) weighs_quiet

  pub weighs_times : {P : Replica → Type 0} (n : ℕ) (v : Word F) → Weighs w P P 0 v → Weighs w P P 0 (times n v)
  unfolding times
  weighs_times zero v h = weighs_quiet
  weighs_times (suc n) v h = weighs_then v (times n v) h (weighs_times n v h)

  pub weighs_each : {P : Replica → Type 0} {k : ℕ} {X : Type 0} (v : X → Word F) (xs : List X) → ((x : X) → Weighs w P P k (v x)) → Weighs w P P (length xs * k) (each v xs)
  unfolding each
  weighs_each v [] h = weighs_as quiet (omega arith) weighs_quiet
  weighs_each v (x ∷ xs) h = weighs_as (v x ⨾ each v xs) (omega arith) (weighs_then (v x) (each v xs) (h x) (weighs_each v xs h))

  -- ---- outputs

  -- what isn't a message
  pub weighs_line : {P : Replica → Type 0} (x : Replica → Output) → ((r : Replica) → message_of (x r) ≡ []) → Weighs {F = F} w P P 0 (says (λ r. x r ∷ []))
  unfolding messages weight
  weighs_line x h = weighs_says _ (λ r p. rw (h r) (omega arith))

-- the place in its group and the version of its file
pub record Seat : Type 0 where
  pub n : ℕ
  pub index : ℕ
  pub version : ℕ

abbrev pub seat : Replica → Seat
seat r = record { n = r.n; index = r.index; version = version r }

abbrev pub At : Seat → Replica → Type 0
At o r = seat r ≡ o

module _ {F : Type 0} {w : ℕ → Command → ℕ} {o : Seat} where
  pub weighs_keeps : (g : Replica → Replica) → ((r : Replica) → seat (g r) ≡ seat r) → Weighs {F = F} w (At o) (At o) 0 (change g)
  weighs_keeps g h = weighs_change g (λ r p. h r ∙ p)

-- a message of this kind to one, and to all others, of a replica in this seat
module _ {F : Type 0} {w : ℕ → Command → ℕ} (o : Seat) {P : Replica → Type 0} (at : (r : Replica) → P r → At o r) where
  pub weighs_send : (c : Command) (to : Replica → ℕ) (message : Replica → Frame) → ((r : Replica) → command_for (message r) ≡ c) → ((r : Replica) → version_of (message r) ≡ version r)
      → Weighs {F = F} w P P (w o.version c) (says (λ r. told.send_to (to r) (message r) r))
  unfolding messages weight
  weighs_send c to message h k =
      weighs_says _ (λ r p.
      let v : version r ≡ o.version = ap (λ (x : Seat). x.version) (at r p) in
      rw (h r, k r, v) (omega arith))

  pub weighs_all : (c : Command) (message : Replica → Frame) → o.index < o.n → ((r : Replica) → command_for (message r) ≡ c) → ((r : Replica) → version_of (message r) ≡ version r)
      → Weighs {F = F} w P P ((o.n - 1) * w o.version c) (says (told.send_to_all message))
  unfolding told.send_to_all
  weighs_all c message member h k =
      weighs_says _ (λ r p.
      let v : version r ≡ o.version = ap (λ (x : Seat). x.version) (at r p) in
      let n : r.n ≡ o.n = ap (λ (x : Seat). x.n) (at r p) in
      let i : r.index ≡ o.index = ap (λ (x : Seat). x.index) (at r p) in
      let sum = to_each w (message r) r (others r.index r.n) in
      let few = few_others r.index r.n (omega (arith, n, i, member)) in
      let more = times_more (length (others r.index r.n)) (r.n - 1) (w (version_of (message r)) (command_for (message r))) few in
      let kind : w (version_of (message r)) (command_for (message r)) ≡ w o.version c = ap (λ x. w x (command_for (message r))) (k r ∙ v) ∙ ap (λ x. w o.version x) (h r) in
      let size : (r.n - 1) * w (version_of (message r)) (command_for (message r)) ≡ (o.n - 1) * w o.version c = ap (λ x. (x - 1) * w (version_of (message r)) (command_for (message r))) n ∙ ap (λ x. (o.n - 1) * x) kind in
      omega (arith, sum, more, size))

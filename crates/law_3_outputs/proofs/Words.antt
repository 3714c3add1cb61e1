-- Words and what they leave of the state, and what they reply.
use Rattle.std.proofs.Common.{ℕ, zero, suc, ◌+◌, ◌≡◌, ◌∙◌, arith, refl, sym, ap, subst, Bool, true, false, cond, List, [], ◌∷◌, ◌++◌, map, take}
use Rattle.vr_header.specs.Made.{Whole}
use Rattle.vr_state.specs.Folds.{state_after}
use Rattle.vr_msg.specs.declared.output.Output.{Output}
use Rattle.vr_msg.specs.declared.output.Output.TheVariants as output
use Rattle.vr_rules.specs.Replica.{Replica}
use Rattle.vr_rules.specs.Steps.{Effect, Say, Step, Setting, Word, ◌⨾◌, quiet, change, does, says, by, naming, reading, times, each, outputs, after_all}
use Rattle.vr_rules.proofs.SendsScripts.{outputs_append, outputs_said}
use Rattle.law_2_chains.specs.Chains.{Every}
use Rattle.vr_world.specs.Commitment.{is_line_of}
use Rattle.law_3_outputs.specs.Answering.{one_if, HasState, IsMute, lines, Lined, IsTold, Told, Leaves}

-- ---- lists of outputs

pub lines_append : (i : ℕ) (a b : List Output) → lines i (a ++ b) ≡ lines i a + lines i b
unfolding lines
lines_append i [] b = omega arith
lines_append i (o ∷ a) b = let e = lines_append i a b in omega arith

pub lined_left : (log : List Whole) (i m : ℕ) (a b : List Output) → Lined log i m (a ++ b) → Lined log i m a
unfolding Lined
lined_left log i m [] b h = tt
lined_left log i m (o ∷ a) b h = (h.0, lined_left log i (m + one_if (is_line_of i o)) a b h.1)

lined_right : (log : List Whole) (i m : ℕ) (a b : List Output) → Lined log i m (a ++ b) → Lined log i (m + lines i a) b
unfolding Lined lines
lined_right log i m [] b h = subst (λ k. Lined log i k b) (let e : m ≡ m + 0 = omega arith in e) h
lined_right log i m (o ∷ a) b h =
    subst (λ k. Lined log i k b) (let e : m + one_if (is_line_of i o) + lines i a ≡ m + (one_if (is_line_of i o) + lines i a) = omega arith in e) (lined_right log i (m + one_if (is_line_of i o)) a b h.1)

told_append : (log : List Whole) (i m : ℕ) (b : Bool) (x y : List Output) → Told log i m b x → ((c : Bool) → Told log i (m + lines i x) c y) → Told log i m b (x ++ y)
unfolding Told lines
told_append log i m b [] y h k = subst (λ z. Told log i z b y) (let e : m + 0 ≡ m = omega arith in e) (k b)
told_append log i m b (o ∷ x) y h k = (
  h.0,
  told_append log i (m + one_if (is_line_of i o)) (is_line_of i o) x y h.1
      (λ c. subst (λ z. Told log i z c y) (let e : m + (one_if (is_line_of i o) + lines i x) ≡ m + one_if (is_line_of i o) + lines i x = omega arith in e) (k c)),
)

mute_line : (i : ℕ) (o : Output) → IsMute o → is_line_of i o ≡ false
mute_line i (output.Send s) h = refl
mute_line i (output.Commit c) h = absurd h
mute_line i (output.Reply a) h = absurd h
mute_line i (output.Choose c) h = refl
mute_line i (output.Wait w) h = refl
mute_line i (output.Start s) h = refl
mute_line i (output.Halted r) h = refl
mute_line i (output.Migrated r) h = refl
mute_line i output.Done h = refl
mute_line i output.KeptOut h = refl

mute_told : (log : List Whole) (m : ℕ) (b : Bool) (o : Output) → IsMute o → IsTold log m b o
mute_told log m b (output.Send s) h = tt
mute_told log m b (output.Commit c) h = absurd h
mute_told log m b (output.Reply a) h = absurd h
mute_told log m b (output.Choose c) h = tt
mute_told log m b (output.Wait w) h = tt
mute_told log m b (output.Start s) h = tt
mute_told log m b (output.Halted r) h = tt
mute_told log m b (output.Migrated r) h = tt
mute_told log m b output.Done h = tt
mute_told log m b output.KeptOut h = tt

mute_lines : (i : ℕ) (os : List Output) → Every IsMute os → lines i os ≡ 0
unfolding lines
mute_lines i [] h = refl
mute_lines i (o ∷ os) h = rw (mute_line i o h.0, mute_lines i os h.1) refl

mute_all : (log : List Whole) (i m : ℕ) (b : Bool) (os : List Output) → Every IsMute os → Told log i m b os
unfolding Told
mute_all log i m b [] h = tt
mute_all log i m b (o ∷ os) h = (mute_told log m b o h.0, mute_all log i (m + one_if (is_line_of i o)) (is_line_of i o) os h.1)

-- ---- a replica whose state isn't touched

pub record Keeps (r q : Replica) : Type 0 where
  pub index : q.index ≡ r.index
  pub applied : q.applied ≡ r.applied
  pub state : q.state ≡ r.state
  pub missing : q.missing ≡ r.missing

pub keeps_itself : (r : Replica) → Keeps r r
keeps_itself r = record { index = refl; applied = refl; state = refl; missing = refl }

pub keeps_state : (log : List Whole) (r q : Replica) → Keeps r q → HasState log r → HasState log q
keeps_state log r q k h = λ none. k.state ∙ (h (sym k.missing ∙ none) ∙ ap (λ n. state_after (take n log)) (sym k.applied))

-- ---- words

abbrev pub Fair : List Whole → Replica → Step → Type 0
Fair log r x = (b : Bool) → Leaves log r b x

-- of one word at one replica
abbrev pub FairAt : {F : Type 0} → List Whole → Setting F → Replica → F → Word F → Type 0
FairAt log s r f w = HasState log r → Lined log r.index r.applied (outputs (w s r f).script) → Fair log r (w s r f)

pub record IsFair {F : Type 0} (log : List Whole) (w : Word F) : Type 0 where
  pub each : (s : Setting F) (r : Replica) (f : F) → FairAt log s r f w

leaves_both : (log : List Whole) (r : Replica) (b : Bool) (x y : Step) → Leaves log r b x → Fair log x.replica y → Leaves log r b (record { replica = y.replica; script = x.script ++ y.script })
leaves_both log r b x y p q =
    let e = q b in
    let one = p.applied in
    let two = e.applied in
    let same = p.index in
    let said : List Output = outputs x.script in
    let more : List Output = outputs y.script in
    let all = lines_append r.index said more in
    let place : lines x.replica.index more ≡ lines r.index more = ap (λ i. lines i more) same in
    record {
      told = rw (outputs_append x.script y.script) (told_append log r.index r.applied b said more p.told
          (λ c. subst (λ m. Told log r.index m c more) one (subst (λ i. Told log i x.replica.applied c more) same (q c).told)));
      index = e.index ∙ same;
      applied = rw (outputs_append x.script y.script) (omega (arith, all, one, two, place));
      state = e.state;
    }

module _ {F : Type 0} (log : List Whole) where
  -- one word, then another
  pub fair_at_then : (v w : Word F) (s : Setting F) (r : Replica) (f : F) → FairAt log s r f v → FairAt log s (v s r f).replica (after_all s f (v s r f).script) w → FairAt log s r f (v ⨾ w)
  unfolding ◌⨾◌
  fair_at_then v w s r f h k state lined =
      let x = v s r f in
      let y = w s x.replica (after_all s f x.script) in
      let lined' : Lined log r.index r.applied (outputs x.script ++ outputs y.script) = rw (outputs_append x.script y.script) at lined in
      let p = h state (lined_left log r.index r.applied (outputs x.script) (outputs y.script) lined') in
      let first = p true in
      let rest = subst (λ m. Lined log r.index m (outputs y.script)) (sym first.applied) (lined_right log r.index r.applied (outputs x.script) (outputs y.script) lined') in
      let q = k first.state (subst (λ i. Lined log i x.replica.applied (outputs y.script)) (sym first.index) rest) in
      λ b. leaves_both log r b x y (p b) q

  pub fair_then : (v w : Word F) → IsFair log v → IsFair log w → IsFair log (v ⨾ w)
  fair_then v w h k = record { each = λ s r f. fair_at_then v w s r f (h.each s r f) (k.each s (v s r f).replica (after_all s f (v s r f).script)) }

  -- nothing is said, and the state isn't touched
  pub fair_still : (s : Setting F) (r q : Replica) (es : List Effect) → Every IsMute (outputs es) → Keeps r q → HasState log r → Fair log r (record { replica = q; script = es })
  fair_still s r q es mute k state b =
      let none = mute_lines r.index (outputs es) mute in
      let same = k.applied in
      record { told = mute_all log r.index r.applied b (outputs es) mute; index = k.index; applied = omega arith; state = keeps_state log r q k state }

  pub fair_quiet : IsFair {F = F} log quiet
  unfolding quiet outputs
  fair_quiet = record { each = λ s r f state lined. fair_still s r r [] tt (keeps_itself r) state }

  pub fair_change : (g : Replica → Replica) → ((r : Replica) → Keeps r (g r)) → IsFair {F = F} log (change g)
  unfolding change outputs
  fair_change g k = record { each = λ s r f state lined. fair_still s r (g r) [] tt (k r) state }

  pub fair_does : (e : Replica → Effect) → ((r : Replica) → Every IsMute (outputs (e r ∷ []))) → IsFair {F = F} log (does e)
  unfolding does
  fair_does e mute = record { each = λ s r f state lined. fair_still s r r (e r ∷ []) (mute r) (keeps_itself r) state }

  pub fair_says : (os : Replica → List Output) → ((r : Replica) → Every IsMute (os r)) → IsFair {F = F} log (says os)
  unfolding says
  fair_says os mute = record { each = λ s r f state lined. fair_still s r r (map Say (os r)) (rw (outputs_said (os r)) (mute r)) (keeps_itself r) state }

  pub fair_by : (w : Replica → Word F) → ((r : Replica) → IsFair log (w r)) → IsFair log (by w)
  unfolding by
  fair_by w h = record { each = λ s r f. (h r).each s r f }

  pub fair_naming : (w : (List ℕ → List ℕ) → Word F) → ((hash : List ℕ → List ℕ) → IsFair log (w hash)) → IsFair log (naming w)
  unfolding naming
  fair_naming w h = record { each = λ s r f. (h s.hash).each s r f }

  pub fair_reading : {X : Type 0} (g : Setting F → F → X) (w : X → Word F) → ((x : X) → IsFair log (w x)) → IsFair log (reading g w)
  unfolding reading
  fair_reading g w h = record { each = λ s r f. (h (g s f)).each s r f }

  pub fair_if : (b : Bool) (v w : Word F) → IsFair log v → IsFair log w → IsFair log (cond b v w)
  fair_if true v w h k = h
  fair_if false v w h k = k

  pub fair_when : (b : Bool) (w : Word F) → IsFair log w → IsFair log (cond b w quiet)
  fair_when true w h = h
  fair_when false w h = fair_quiet

  pub fair_times : (n : ℕ) (w : Word F) → IsFair log w → IsFair log (times n w)
  unfolding times
  fair_times zero w h = fair_quiet
  fair_times (suc n) w h = fair_then w (times n w) h (fair_times n w h)

  pub fair_each : {X : Type 0} (w : X → Word F) (xs : List X) → ((x : X) → IsFair log (w x)) → IsFair log (each w xs)
  unfolding each
  fair_each w [] h = fair_quiet
  fair_each w (x ∷ xs) h = fair_then (w x) (each w xs) (h x) (fair_each w xs h)

-- Words that keep a replica in its place: its group, its index, its view, and no lower commit number. What they put out carries these.
use Rattle.std.proofs.Common.{arith, ◌≡◌, ◌≤◌, ◌<◌, refl, sym, ◌∙◌, ℕ, zero, suc, Bool, true, false, cond, List, [], ◌∷◌, ◌++◌}
use Rattle.std.specs.Prelude.{All}
use Rattle.std.proofs.lemmas.List.Elements.{All-nil, All-cons, All-append, All-map, All-weaker}
use Rattle.vr_msg.specs.declared.frame.Frame.{Frame}
use Rattle.vr_msg.specs.declared.frame.Frame.TheVariants as frame
use Rattle.vr_msg.specs.declared.output.Output.{Output}
use Rattle.vr_msg.specs.declared.output.Output.TheVariants as output
use Rattle.vr_msg.specs.declared.output.Sent.{Sent}
use Rattle.vr_rules.specs.Replica.{Replica}
use Rattle.vr_rules.specs.Steps.{Effect, Setting, Step, Word, ◌⨾◌, quiet, change, does, says, by, naming, reading, times, each, outputs, after_all}
use Rattle.vr_rules.specs.Outputs as told
use Rattle.vr_rules.specs.Laws.{IsPlaced, IsBy, IsCommitOf, IsPresentFrame, IsPresentSend, IsPresentOutput, IsPresent}
use Rattle.vr_rules.proofs.SendsScripts.{outputs_append, outputs_said}
use Rattle.vr_rules.proofs.SendsPlaces.{IsOther, others_are}

-- the same place in the group, and the same view
pub record Same (a b : Replica) : Type 0 where
  pub cluster : b.cluster ≡ a.cluster
  pub index : b.index ≡ a.index
  pub n : b.n ≡ a.n
  pub view : b.view ≡ a.view
  pub commit : a.commit ≤ b.commit

pub same_itself : (a : Replica) → Same a a
same_itself a = record { cluster = refl; index = refl; n = refl; view = refl; commit = omega arith }

pub same_then : (a b c : Replica) → Same a b → Same b c → Same a c
same_then a b c p q =
    let up : a.commit ≤ b.commit = p.commit in
    let more : b.commit ≤ c.commit = q.commit in
    record { cluster = q.cluster ∙ p.cluster; index = q.index ∙ p.index; n = q.n ∙ p.n; view = q.view ∙ p.view; commit = omega (arith, up, more) }

-- ---- what carries the values of a replica carries those of a later one in its place

by_later : (a b : Replica) (cluster index : ℕ) → Same a b → IsBy a cluster index → IsBy b cluster index
by_later a b cluster index s h = record { cluster = h.cluster ∙ sym s.cluster; replica = h.replica ∙ sym s.index }

commit_later : (old' old a b : Replica) (c : ℕ) → old'.commit ≤ old.commit → Same a b → IsCommitOf old a c → IsCommitOf old' b c
commit_later old' old a b c l s h =
    let below : old.commit ≤ c = h.from in
    let above : c ≤ a.commit = h.upto in
    let more : a.commit ≤ b.commit = s.commit in
    record { from = omega (arith, l, below); upto = omega (arith, above, more) }

frame_later : (old' old a b : Replica) (MayAsk : ℕ → Type 0) (m : Frame) → old'.commit ≤ old.commit → Same a b → IsPresentFrame MayAsk old a m → IsPresentFrame MayAsk old' b m
frame_later old' old a b MayAsk (frame.Request q) l s h = h
frame_later old' old a b MayAsk (frame.Reply x) l s h = h
frame_later old' old a b MayAsk (frame.Prepare p) l s h = (h.0 ∙ sym s.index, h.1 ∙ sym s.view, commit_later old' old a b _ l s h.2)
frame_later old' old a b MayAsk (frame.PrepareOk x) l s h = (by_later a b _ _ s h.0, h.1 ∙ sym s.view)
frame_later old' old a b MayAsk (frame.Commit c) l s h = (by_later a b _ _ s h.0, h.1 ∙ sym s.view, commit_later old' old a b _ l s h.2)
frame_later old' old a b MayAsk (frame.StartViewChange c) l s h = (by_later a b _ _ s h.0, h.1 ∙ sym s.view)
frame_later old' old a b MayAsk (frame.DoViewChange d) l s h = (by_later a b _ _ s h.0, h.1 ∙ sym s.view, commit_later old' old a b _ l s h.2)
frame_later old' old a b MayAsk (frame.StartView v) l s h = (by_later a b _ _ s h.0, h.1 ∙ sym s.view, commit_later old' old a b _ l s h.2)
frame_later old' old a b MayAsk (frame.GetView g) l s h = (by_later a b _ _ s h.0, h.1)
frame_later old' old a b MayAsk (frame.GetPrepare g) l s h = by_later a b _ _ s h
frame_later old' old a b MayAsk (frame.GivePrepare g) l s h = h ∙ sym s.index
frame_later old' old a b MayAsk (frame.GetBlock g) l s h = by_later a b _ _ s h
frame_later old' old a b MayAsk (frame.GiveBlock g) l s h = by_later a b _ _ s h
frame_later old' old a b MayAsk (frame.GetSync g) l s h = (by_later a b _ _ s h.0, h.1)
frame_later old' old a b MayAsk (frame.SyncView v) l s h = (by_later a b _ _ s h.0, h.1 ∙ sym s.view, commit_later old' old a b _ l s h.2)

send_later : (old' old a b : Replica) (MayAsk : ℕ → ℕ → Type 0) (x : Sent) → old'.commit ≤ old.commit → Same a b → IsPresentSend MayAsk old a x → IsPresentSend MayAsk old' b x
send_later old' old a b MayAsk x l s h =
    record {
      from = h.from ∙ sym s.index;
      to = let e : b.n ≡ a.n = s.n in let t : x.to < a.n = h.to in omega (arith, e, t);
      other = λ q. h.other (q ∙ s.index);
      message = frame_later old' old a b (MayAsk x.to) x.message l s h.message;
    }

pub output_later : (old' old a b : Replica) (MayAsk : ℕ → ℕ → Type 0) (o : Output) → old'.commit ≤ old.commit → Same a b → IsPresentOutput MayAsk old a o → IsPresentOutput MayAsk old' b o
output_later old' old a b MayAsk (output.Send x) l s h = send_later old' old a b MayAsk x l s h
output_later old' old a b MayAsk (output.Commit c) l s h = h ∙ sym s.index
output_later old' old a b MayAsk (output.Reply x) l s h = (by_later a b _ _ s h.0, h.1 ∙ sym s.view)
output_later old' old a b MayAsk (output.Choose c) l s h = (h.0 ∙ sym s.index, h.1 ∙ sym s.view)
output_later old' old a b MayAsk (output.Wait w) l s h = (h.0 ∙ sym s.index, h.1 ∙ sym s.view)
output_later old' old a b MayAsk (output.Start x) l s h = (h.0 ∙ sym s.index, h.1 ∙ sym s.view, commit_later old' old a b _ l s h.2)
output_later old' old a b MayAsk (output.Halted r) l s h = h
output_later old' old a b MayAsk (output.Migrated r) l s h = h
output_later old' old a b MayAsk output.Done l s h = h
output_later old' old a b MayAsk output.KeptOut l s h = h

-- ---- calm words, where o is in the same place

-- a replica in the place of o
pub record Near (o r : Replica) : Type 0 where
  pub same : Same o r
  pub placed : IsPlaced r

-- what a word leaves of it
pub record IsCalm (MayAsk : ℕ → ℕ → Type 0) (r : Replica) (x : Step) : Type 0 where
  pub near : Near r x.replica
  pub said : All (IsPresentOutput MayAsk r x.replica) (outputs x.script)

pub record Calm {F : Type 0} (MayAsk : ℕ → ℕ → Type 0) (o : Replica) (w : Word F) : Type 0 where
  pub each : (s : Setting F) (r : Replica) (f : F) → Near o r → IsCalm MayAsk r (w s r f)

pub near_then : (o r x : Replica) → Near o r → Near r x → Near o x
near_then o r x p q = record { same = same_then o r x p.same q.same; placed = q.placed }

pub near_itself : (r : Replica) → IsPlaced r → Near r r
near_itself r p = record { same = same_itself r; placed = p }

-- what is put out by the one and then by the other
said_both : (MayAsk : ℕ → ℕ → Type 0) (r a b : Replica) (xs ys : List Effect) → Same r a → Same a b → All (IsPresentOutput MayAsk r a) (outputs xs) → All (IsPresentOutput MayAsk a b) (outputs ys)
    → All (IsPresentOutput MayAsk r b) (outputs (xs ++ ys))
said_both MayAsk r a b xs ys p q h k =
    rw (outputs_append xs ys) (All-append (IsPresentOutput MayAsk r b) (outputs xs) (outputs ys)
    (All-weaker (IsPresentOutput MayAsk r a) (IsPresentOutput MayAsk r b) (λ o. output_later r r a b MayAsk o (omega arith) q) (outputs xs) h)
    (All-weaker (IsPresentOutput MayAsk a b) (IsPresentOutput MayAsk r b) (λ o. output_later r a b b MayAsk o p.commit (same_itself b)) (outputs ys) k))

module _ {F : Type 0} {MayAsk : ℕ → ℕ → Type 0} {o : Replica} where
  pub calm_then : (v w : Word F) → Calm MayAsk o v → Calm MayAsk o w → Calm MayAsk o (v ⨾ w)
  unfolding ◌⨾◌
  calm_then v w h k = record {
    each = λ s r f near.
        let a = v s r f in
        let g = after_all s f a.script in
        let b = w s a.replica g in
        let p = h.each s r f near in
        let q = k.each s a.replica g (near_then o r a.replica near p.near) in
        record {
          near = near_then r a.replica b.replica p.near q.near;
          said = said_both MayAsk r a.replica b.replica a.script b.script p.near.same q.near.same p.said q.said;
        };
  }

  pub calm_quiet : Calm {F = F} MayAsk o quiet
  unfolding quiet outputs
  calm_quiet = record { each = λ s r f near. record { near = near_itself r near.placed; said = All-nil _ } }

  pub calm_change : (g : Replica → Replica) → ((r : Replica) → Near o r → Near r (g r)) → Calm {F = F} MayAsk o (change g)
  unfolding change outputs
  calm_change g h = record { each = λ s r f near. record { near = h r near; said = All-nil _ } }

  pub calm_does : (e : Replica → Effect) → ((r : Replica) → outputs (e r ∷ []) ≡ []) → Calm {F = F} MayAsk o (does e)
  unfolding does
  calm_does e n = record { each = λ s r f near. record { near = near_itself r near.placed; said = rw (n r) (All-nil _) } }

  pub calm_says : (os : Replica → List Output) → ((r : Replica) → Near o r → All (IsPresentOutput MayAsk r r) (os r)) → Calm {F = F} MayAsk o (says os)
  unfolding says
  calm_says os h = record { each = λ s r f near. record { near = near_itself r near.placed; said = rw (outputs_said (os r)) (h r near) } }

  pub calm_by : (w : Replica → Word F) → ((r : Replica) → Near o r → Calm MayAsk o (w r)) → Calm MayAsk o (by w)
  unfolding by
  calm_by w h = record { each = λ s r f near. (h r near).each s r f near }

  pub calm_naming : (w : (List ℕ → List ℕ) → Word F) → ((hash : List ℕ → List ℕ) → Calm MayAsk o (w hash)) → Calm MayAsk o (naming w)
  unfolding naming
  calm_naming w h = record { each = λ s r f near. (h s.hash).each s r f near }

  pub calm_reading : {X : Type 0} (g : Setting F → F → X) (w : X → Word F) → ((x : X) → Calm MayAsk o (w x)) → Calm MayAsk o (reading g w)
  unfolding reading
  calm_reading g w h = record { each = λ s r f near. (h (g s f)).each s r f near }

  pub calm_if : (b : Bool) (v w : Word F) → (b ≡ true → Calm MayAsk o v) → (b ≡ false → Calm MayAsk o w) → Calm MayAsk o (cond b v w)
  calm_if true v w h k = h refl
  calm_if false v w h k = k refl

  pub calm_when : (b : Bool) (w : Word F) → Calm MayAsk o w → Calm MayAsk o (cond b w quiet)
  calm_when true w h = h
  calm_when false w h = calm_quiet

  pub calm_times : (n : ℕ) (w : Word F) → Calm MayAsk o w → Calm MayAsk o (times n w)
  unfolding times
  calm_times zero w h = calm_quiet
  calm_times (suc n) w h = calm_then w (times n w) h (calm_times n w h)

  pub calm_each : {X : Type 0} (w : X → Word F) (xs : List X) → ((x : X) → Calm MayAsk o (w x)) → Calm MayAsk o (each w xs)
  unfolding each
  calm_each w [] h = calm_quiet
  calm_each w (x ∷ xs) h = calm_then (w x) (each w xs) (h x) (calm_each w xs h)

  pub calm_one : (x : Replica → Output) → ((r : Replica) → Near o r → IsPresentOutput MayAsk r r (x r)) → Calm {F = F} MayAsk o (says (λ r. x r ∷ []))
  calm_one x h = calm_says _ (λ r near. All-cons (IsPresentOutput MayAsk r r) (x r) [] (h r near) (All-nil (IsPresentOutput MayAsk r r)))

  -- a message to one, and to all others
  pub calm_send : (to : Replica → ℕ) (message : Replica → Frame) → ((r : Replica) → Near o r → IsOther r.index r.n (to r)) → ((r : Replica) → Near o r → IsPresentFrame (MayAsk (to r)) r r (message r))
      → Calm {F = F} MayAsk o (says (λ r. told.send_to (to r) (message r) r))
  calm_send to message h k = calm_one _ (λ r near. let t = h r near in record { from = refl; to = t.0; other = t.1; message = k r near })

  pub calm_all : (message : Replica → Frame) → ((r : Replica) → Near o r → (to : ℕ) → IsPresentFrame (MayAsk to) r r (message r)) → Calm {F = F} MayAsk o (says (told.send_to_all message))
  unfolding told.send_to_all
  calm_all message h =
      calm_says _ (λ r near. All-map (IsPresentOutput MayAsk r r) (λ to. told.send to (message r) r) (told.others r.index r.n)
      (All-weaker (IsOther r.index r.n) (λ to. IsPresentOutput MayAsk r r (told.send to (message r) r)) (λ to t. record { from = refl; to = t.0; other = t.1; message = h r near to })
      (told.others r.index r.n) (others_are r.index r.n)))

-- ---- a step that begins elsewhere, and goes on calmly

pub present_then : {F : Type 0} (MayAsk : ℕ → ℕ → Type 0) (s : Setting F) (r : Replica) (f : F) (v w : Word F) → IsPresent MayAsk r (v s r f) → Calm MayAsk (v s r f).replica w → IsPresent MayAsk r ((v ⨾ w) s r f)
unfolding ◌⨾◌
present_then MayAsk s r f v w h k =
    let a = v s r f in
    let g = after_all s f a.script in
    let b = w s a.replica g in
    let q = k.each s a.replica g (near_itself a.replica h.placed) in
    let up : r.commit ≤ a.replica.commit = h.commit in
    let more : a.replica.commit ≤ b.replica.commit = q.near.same.commit in
    record {
      cluster = q.near.same.cluster ∙ h.cluster;
      index = q.near.same.index ∙ h.index;
      n = q.near.same.n ∙ h.n;
      commit = omega (arith, up, more);
      placed = q.near.placed;
      each = rw (outputs_append a.script b.script) (All-append (IsPresentOutput MayAsk r b.replica) (outputs a.script) (outputs b.script)
          (All-weaker (IsPresentOutput MayAsk r a.replica) (IsPresentOutput MayAsk r b.replica) (λ x. output_later r r a.replica b.replica MayAsk x (omega arith) q.near.same) (outputs a.script) h.each)
          (All-weaker (IsPresentOutput MayAsk a.replica b.replica) (IsPresentOutput MayAsk r b.replica) (λ x. output_later r a.replica b.replica b.replica MayAsk x h.commit (same_itself b.replica)) (outputs b.script) q.said));
    }

pub present_calm : {F : Type 0} (MayAsk : ℕ → ℕ → Type 0) (s : Setting F) (r : Replica) (f : F) (w : Word F) → IsPlaced r → Calm MayAsk r w → IsPresent MayAsk r (w s r f)
present_calm MayAsk s r f w p k =
    let q = k.each s r f (near_itself r p) in
    record { cluster = q.near.same.cluster; index = q.near.same.index; n = q.near.same.n; commit = q.near.same.commit; placed = q.near.placed; each = q.said }

-- a step that begins with what puts out nothing, and goes on elsewhere
pub present_after : {F : Type 0} (MayAsk : ℕ → ℕ → Type 0) (s : Setting F) (r : Replica) (f : F) (v w : Word F) → Same r (v s r f).replica → outputs (v s r f).script ≡ []
    → IsPresent MayAsk (v s r f).replica (w s (v s r f).replica (after_all s f (v s r f).script)) → IsPresent MayAsk r ((v ⨾ w) s r f)
unfolding ◌⨾◌
present_after MayAsk s r f v w p mute h =
    let a = v s r f in
    let b = w s a.replica (after_all s f a.script) in
    let up : r.commit ≤ a.replica.commit = p.commit in
    let more : a.replica.commit ≤ b.replica.commit = h.commit in
    record {
      cluster = h.cluster ∙ p.cluster;
      index = h.index ∙ p.index;
      n = h.n ∙ p.n;
      commit = omega (arith, up, more);
      placed = h.placed;
      each = rw (outputs_append a.script b.script, mute)
          (All-weaker (IsPresentOutput MayAsk a.replica b.replica) (IsPresentOutput MayAsk r b.replica) (λ x. output_later r a.replica b.replica b.replica MayAsk x up (same_itself b.replica)) (outputs b.script) h.each);
    }

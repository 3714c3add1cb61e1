-- Words that send no message: what a replica applies it tells nobody of.
use Rattle.std.proofs.Common.{ℕ, zero, suc, ◌+◌, ◌-◌, ◌≡◌, ◌∙◌, refl, sym, ap, Bool, true, false, cond, List, [], ◌∷◌, ◌++◌, map, Option, Some, None, append_assoc}
use Rattle.std.specs.Prelude.{◌&&◌, nat_lt}
use Rattle.vr_header.specs.declared.header.Header.{Header}
use Rattle.vr_header.specs.declared.part.Part.{Part}
use Rattle.vr_header.specs.declared.part.Part.TheVariants.{Here, Lost, Wanted, Unknown, Nothing}
use Rattle.vr_header.specs.Made.{Whole}
use Rattle.vr_msg.specs.declared.output.Output.{Output}
use Rattle.vr_msg.specs.declared.output.Sent.{Sent}
use Rattle.vr_rules.proofs.SendsScripts.{outputs_append, outputs_said}
use Rattle.vr_rules.specs.Outputs.{applied_reply, commit_line, message_of, messages}
use Rattle.vr_rules.specs.Replica.{Replica, leads, part_at}
use Rattle.vr_rules.specs.Steps.{Effect, Say, Setting, Word, ◌⨾◌, after_all, by, change, does, outputs, quiet, reading, says, times, when}
use Rattle.vr_rules.specs.Words.{applied, apply, apply_entry, apply_next, checkpoint_of, checkpoints, entry_of, is_checkpoint, is_loaded, learn, learned, lost, make_checkpoint, or_lost, save, saves, with_checkpoint, with_entry, with_entry_at, with_saved}

pub messages_append : (os ps : List Output) → messages (os ++ ps) ≡ messages os ++ messages ps
unfolding messages
messages_append [] ps = refl
messages_append (o ∷ os) ps = ap (λ (xs : List Sent). message_of o ++ xs) (messages_append os ps) ∙ sym (append_assoc (message_of o) (messages os) (messages ps))

-- what a script sends
abbrev pub sends : List Effect → List Sent
sends es = messages (outputs es)

pub sends_append : (es ds : List Effect) → sends (es ++ ds) ≡ sends es ++ sends ds
sends_append es ds = ap messages (outputs_append es ds) ∙ messages_append (outputs es) (outputs ds)

pub sends_said : (os : List Output) → sends (map Say os) ≡ messages os
sends_said os = ap messages (outputs_said os)

pub record Mute {F : Type 0} (w : Word F) : Type 0 where
  pub every : (s : Setting F) (r : Replica) (f : F) → sends (w s r f).script ≡ []

none_both : (xs ys : List Sent) → xs ≡ [] → ys ≡ [] → xs ++ ys ≡ []
none_both xs ys a b = rw (a, b) refl

mute_then : {F : Type 0} (v w : Word F) → Mute v → Mute w → Mute (v ⨾ w)
unfolding ◌⨾◌
mute_then v w h k = record {
  every = λ s r f.
      let a = v s r f in
      let b = w s a.replica (after_all s f a.script) in
      sends_append a.script b.script ∙ none_both (sends a.script) (sends b.script) (h.every s r f) (k.every s a.replica (after_all s f a.script));
}

mute_quiet : {F : Type 0} → Mute {F = F} quiet
unfolding quiet messages outputs
mute_quiet = record { every = λ s r f. refl }

mute_change : {F : Type 0} (g : Replica → Replica) → Mute {F = F} (change g)
unfolding change messages outputs
mute_change g = record { every = λ s r f. refl }

mute_says : {F : Type 0} (os : Replica → List Output) → ((r : Replica) → messages (os r) ≡ []) → Mute {F = F} (says os)
unfolding says
mute_says os h = record { every = λ s r f. sends_said (os r) ∙ h r }

mute_by : {F : Type 0} (w : Replica → Word F) → ((r : Replica) → Mute (w r)) → Mute (by w)
unfolding by
mute_by w h = record { every = λ s r f. (h r).every s r f }

mute_reading : {F X : Type 0} (g : Setting F → F → X) (w : X → Word F) → ((x : X) → Mute (w x)) → Mute (reading g w)
unfolding reading
mute_reading g w h = record { every = λ s r f. (h (g s f)).every s r f }

mute_when : {F : Type 0} (b : Bool) (w : Word F) → Mute w → Mute (when b w)
mute_when true w h = h
mute_when false w h = mute_quiet

mute_times : {F : Type 0} (n : ℕ) (w : Word F) → Mute w → Mute (times n w)
unfolding times
mute_times zero w h = mute_quiet
mute_times (suc n) w h = mute_then w (times n w) h (mute_times n w h)

mute_saves : {F : Type 0} → Mute {F = F} (does saves)
unfolding does messages outputs
mute_saves = record { every = λ s r f. refl }

mute_checkpoints : {F : Type 0} → Mute {F = F} (does checkpoints)
unfolding does messages outputs
mute_checkpoints = record { every = λ s r f. refl }

mute_save : {F : Type 0} → Mute {F = F} save
unfolding save
mute_save = mute_then (does saves) (change with_saved) mute_saves (mute_change with_saved)

mute_checkpoint : {F : Type 0} → Mute {F = F} make_checkpoint
unfolding make_checkpoint
mute_checkpoint = mute_by _ (λ r. mute_reading (checkpoint_of r) _ (λ c. mute_then _ _ mute_checkpoints (mute_then _ _ (mute_change (with_checkpoint c)) mute_save)))

line_mute : (e : Whole) (r : Replica) → messages (commit_line e r) ≡ []
unfolding messages
line_mute e r = refl

reply_mute : (e : Whole) (r : Replica) → messages (applied_reply e r) ≡ []
unfolding messages
reply_mute e r = maybe (leads r) _ refl
  where
    maybe : (b : Bool) (os : List Output) → messages os ≡ [] → messages (cond b os []) ≡ []
    maybe true os h = h
    maybe false os h = refl

mute_entry : {F : Type 0} (e : Whole) → Mute {F = F} (apply_entry e)
unfolding apply_entry
mute_entry e =
    mute_then _ _ (mute_says (commit_line e) (line_mute e))
    (mute_then _ _ (mute_says (applied_reply e) (reply_mute e))
    (mute_then _ _ (mute_change (applied e)) (mute_by _ (λ r. mute_when (is_checkpoint r.applied) make_checkpoint mute_checkpoint))))

mute_or_lost : {F : Type 0} (h : Header) (o : Option Whole) → Mute {F = F} (or_lost h apply_entry o)
mute_or_lost h None = mute_change (lost h)
mute_or_lost h (Some e) = mute_entry e

mute_with_entry : {F : Type 0} (p : Part) → Mute {F = F} (with_entry apply_entry p)
mute_with_entry (Here h) = mute_reading (entry_of h) (or_lost h apply_entry) (mute_or_lost h)
mute_with_entry (Lost h) = mute_quiet
mute_with_entry (Wanted h) = mute_quiet
mute_with_entry Unknown = mute_quiet
mute_with_entry Nothing = mute_quiet

mute_next : {F : Type 0} → Mute {F = F} apply_next
unfolding apply_next with_entry_at
mute_next = mute_by _ (λ r. mute_when (is_loaded r && nat_lt r.applied r.commit) _ (mute_by _ (λ q. mute_with_entry (part_at q (r.applied + 1)))))

mute_apply : {F : Type 0} → Mute {F = F} apply
unfolding apply
mute_apply = mute_by _ (λ r. mute_times (r.commit - r.applied) apply_next mute_next)

pub mute_learn : {F : Type 0} (c : ℕ) → Mute {F = F} (learn c)
unfolding learn
mute_learn c = mute_then _ _ (mute_change (learned c)) mute_apply

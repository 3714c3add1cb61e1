-- Words that keep every replica sound, and what is made of them.
use Rattle.std.proofs.Common.{ℕ, zero, suc, ◌≡◌, refl, Bool, true, false, cond, List, [], ◌∷◌, map}
use Rattle.vr_msg.specs.declared.output.Output.{Output}
use Rattle.vr_rules.specs.Replica.{Replica}
use Rattle.vr_rules.specs.Steps.{Effect, Say, Setting, Word, ◌⨾◌, quiet, change, does, says, by, naming, reading, when, times, each, after_all}
use Rattle.vr_rules.specs.Sound.{IsSound}
use Rattle.vr_rules.proofs.Keeping.{Kept, kept_same, kept_more}

-- of one replica and disk
pub record KeptBy {F : Type 0} (w : Word F) (s : Setting F) (r : Replica) (f : F) : Type 0 where
  pub kept : Kept r (w s r f).replica

-- of every one
pub record Keeps {F : Type 0} (w : Word F) : Type 0 where
  pub every : (s : Setting F) (r : Replica) (f : F) → IsSound r → KeptBy w s r f

-- ---- at one replica

pub kept_then : {F : Type 0} (v w : Word F) (s : Setting F) (r : Replica) (f : F) → KeptBy v s r f → Keeps w → KeptBy (v ⨾ w) s r f
unfolding ◌⨾◌
kept_then v w s r f h k =
    let a = v s r f in
    record { kept = kept_more r a.replica (w s a.replica (after_all s f a.script)).replica h.kept (k.every s a.replica (after_all s f a.script) h.kept.sound).kept }

pub kept_change_then : {F : Type 0} (g : Replica → Replica) (w : Word F) (s : Setting F) (r : Replica) (f : F) → Kept r (g r)
    → ((d : F) → KeptBy w s (g r) d) → KeptBy (change g ⨾ w) s r f
unfolding ◌⨾◌ change
kept_change_then g w s r f h k = record { kept = kept_more r (g r) (w s (g r) (after_all s f [])).replica h (k (after_all s f [])).kept }

pub kept_says_then : {F : Type 0} (os : Replica → List Output) (w : Word F) (s : Setting F) (r : Replica) (f : F) → ((d : F) → KeptBy w s r d)
    → KeptBy (says os ⨾ w) s r f
unfolding ◌⨾◌ says
kept_says_then os w s r f k = record { kept = (k (after_all s f (map Say (os r)))).kept }

pub kept_does_then : {F : Type 0} (e : Replica → Effect) (w : Word F) (s : Setting F) (r : Replica) (f : F) → ((d : F) → KeptBy w s r d)
    → KeptBy (does e ⨾ w) s r f
unfolding ◌⨾◌ does
kept_does_then e w s r f k = record { kept = (k (after_all s f (e r ∷ []))).kept }

pub kept_change : {F : Type 0} (g : Replica → Replica) (s : Setting F) (r : Replica) (f : F) → Kept r (g r) → KeptBy {F = F} (change g) s r f
unfolding change
kept_change g s r f h = record { kept = h }

pub kept_by : {F : Type 0} (w : Replica → Word F) (s : Setting F) (r : Replica) (f : F) → KeptBy (w r) s r f → KeptBy (by w) s r f
unfolding by
kept_by w s r f h = record { kept = h.kept }

pub kept_naming : {F : Type 0} (w : (List ℕ → List ℕ) → Word F) (s : Setting F) (r : Replica) (f : F) → KeptBy (w s.hash) s r f → KeptBy (naming w) s r f
unfolding naming
kept_naming w s r f h = record { kept = h.kept }

pub kept_reading : {F X : Type 0} (g : Setting F → F → X) (w : X → Word F) (s : Setting F) (r : Replica) (f : F) → KeptBy (w (g s f)) s r f → KeptBy (reading g w) s r f
unfolding reading
kept_reading g w s r f h = record { kept = h.kept }

pub kept_quiet : {F : Type 0} (s : Setting F) (r : Replica) (f : F) → IsSound r → KeptBy {F = F} quiet s r f
unfolding quiet
kept_quiet s r f h = record { kept = kept_same r h }

pub kept_if : {F : Type 0} (b : Bool) (v w : Word F) (s : Setting F) (r : Replica) (f : F) → (b ≡ true → KeptBy v s r f) → (b ≡ false → KeptBy w s r f) → KeptBy (cond b v w) s r f
kept_if true v w s r f h k = h refl
kept_if false v w s r f h k = k refl

pub kept_when : {F : Type 0} (b : Bool) (w : Word F) (s : Setting F) (r : Replica) (f : F) → IsSound r → (b ≡ true → KeptBy w s r f) → KeptBy (when b w) s r f
kept_when b w s r f h k = kept_if b w quiet s r f k (λ e. kept_quiet s r f h)

-- ---- at every one

pub keeps_then : {F : Type 0} (v w : Word F) → Keeps v → Keeps w → Keeps (v ⨾ w)
keeps_then v w h k = record { every = λ s r f sound. kept_then v w s r f (h.every s r f sound) k }

pub keeps_quiet : {F : Type 0} → Keeps {F = F} quiet
keeps_quiet = record { every = λ s r f sound. kept_quiet s r f sound }

pub keeps_says : {F : Type 0} (os : Replica → List Output) → Keeps {F = F} (says os)
unfolding says
keeps_says os = record { every = λ s r f sound. record { kept = kept_same r sound } }

pub keeps_does : {F : Type 0} (e : Replica → Effect) → Keeps {F = F} (does e)
unfolding does
keeps_does e = record { every = λ s r f sound. record { kept = kept_same r sound } }

pub keeps_change : {F : Type 0} (g : Replica → Replica) → ((r : Replica) → IsSound r → Kept r (g r)) → Keeps {F = F} (change g)
keeps_change g h = record { every = λ s r f sound. kept_change g s r f (h r sound) }

pub keeps_by : {F : Type 0} (w : Replica → Word F) → ((r : Replica) → Keeps (w r)) → Keeps (by w)
keeps_by w h = record { every = λ s r f sound. kept_by w s r f ((h r).every s r f sound) }

pub keeps_naming : {F : Type 0} (w : (List ℕ → List ℕ) → Word F) → ((hash : List ℕ → List ℕ) → Keeps (w hash)) → Keeps (naming w)
keeps_naming w h = record { every = λ s r f sound. kept_naming w s r f ((h s.hash).every s r f sound) }

pub keeps_reading : {F X : Type 0} (g : Setting F → F → X) (w : X → Word F) → ((x : X) → Keeps (w x)) → Keeps (reading g w)
keeps_reading g w h = record { every = λ s r f sound. kept_reading g w s r f ((h (g s f)).every s r f sound) }

pub keeps_if : {F : Type 0} (b : Bool) (v w : Word F) → Keeps v → Keeps w → Keeps (cond b v w)
keeps_if true v w h k = h
keeps_if false v w h k = k

pub keeps_when : {F : Type 0} (b : Bool) (w : Word F) → Keeps w → Keeps (when b w)
keeps_when b w h = keeps_if b w quiet h keeps_quiet

pub keeps_times : {F : Type 0} (n : ℕ) (w : Word F) → Keeps w → Keeps (times n w)
unfolding times
keeps_times zero w h = keeps_quiet
keeps_times (suc n) w h = keeps_then w (times n w) h (keeps_times n w h)

pub keeps_each : {F X : Type 0} (w : X → Word F) (xs : List X) → ((x : X) → Keeps (w x)) → Keeps (each w xs)
unfolding each
keeps_each w [] h = keeps_quiet
keeps_each w (x ∷ xs) h = keeps_then (w x) (each w xs) (h x) (keeps_each w xs h)

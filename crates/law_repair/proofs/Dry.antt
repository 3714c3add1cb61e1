-- Words that write no slot keep what the slots read as.
use Rattle.std.proofs.Common.{◌≡◌, ◌<◌, refl, ◌∙◌, ℕ, zero, suc, Bool, true, false, cond, List, [], ◌∷◌, Option, Some, None}
use Rattle.std.specs.Prelude.{All}
use Rattle.std.proofs.lemmas.List.Elements.{All-nil, All-cons, All-append, All-map, All-head, All-tail}
use Rattle.vr_header.specs.declared.header.Header.{Header}
use Rattle.vr_header.specs.declared.part.Part.{Part}
use Rattle.vr_header.specs.declared.part.Part.TheVariants.{Here}
use Rattle.vr_header.specs.Made.{Whole}
use Rattle.vr_msg.specs.declared.output.Output.{Output}
use Rattle.vr_rules.specs.Replica.{Replica, part_at}
use Rattle.vr_rules.specs.Steps.{Effect, Say, Setting, Word, ◌⨾◌, after_all, by, change, does, naming, quiet, reading, says, times, when}
use Rattle.vr_rules.specs.Words.{apply, apply_entry, apply_next, entry_of, lost, make_checkpoint, or_lost, resend, save, with_entry, with_entry_at}
use Rattle.law_repair.proofs.Disks.{IsDry, Stores}

pub record Dry {F : Type 0} (w : Word F) : Type 0 where
  pub every : (s : Setting F) (r : Replica) (f : F) → All IsDry (w s r f).script

module _ {F : Type 0} where
  dry_then : (v w : Word F) → Dry v → Dry w → Dry (v ⨾ w)
  unfolding ◌⨾◌
  dry_then v w h k = record {
    every = λ s r f. let a = v s r f in let g = after_all s f a.script in All-append IsDry a.script (w s a.replica g).script (h.every s r f) (k.every s a.replica g);
  }

  dry_quiet : Dry {F = F} quiet
  unfolding quiet
  dry_quiet = record { every = λ s r f. All-nil IsDry }

  dry_change : (g : Replica → Replica) → Dry {F = F} (change g)
  unfolding change
  dry_change g = record { every = λ s r f. All-nil IsDry }

  dry_does : (e : Replica → Effect) → ((r : Replica) → IsDry (e r)) → Dry {F = F} (does e)
  unfolding does
  dry_does e h = record { every = λ s r f. All-cons IsDry (e r) [] (h r) (All-nil IsDry) }

  dry_says : (os : Replica → List Output) → Dry {F = F} (says os)
  unfolding says
  dry_says os = record { every = λ s r f. All-map IsDry Say (os r) (λ k d l. tt) }

  dry_by : (w : Replica → Word F) → ((r : Replica) → Dry (w r)) → Dry (by w)
  unfolding by
  dry_by w h = record { every = λ s r f. (h r).every s r f }

  dry_naming : (w : (List ℕ → List ℕ) → Word F) → ((hash : List ℕ → List ℕ) → Dry (w hash)) → Dry (naming w)
  unfolding naming
  dry_naming w h = record { every = λ s r f. (h s.hash).every s r f }

  dry_reading : {X : Type 0} (g : Setting F → F → X) (w : X → Word F) → ((x : X) → Dry (w x)) → Dry (reading g w)
  unfolding reading
  dry_reading g w h = record { every = λ s r f. (h (g s f)).every s r f }

  dry_if : (b : Bool) (v w : Word F) → Dry v → Dry w → Dry (cond b v w)
  dry_if true v w h k = h
  dry_if false v w h k = k

  dry_when : (b : Bool) (w : Word F) → Dry w → Dry (when b w)
  dry_when true w h = h
  dry_when false w h = dry_quiet

  dry_times : (n : ℕ) (w : Word F) → Dry w → Dry (times n w)
  unfolding times
  dry_times zero w h = dry_quiet
  dry_times (suc n) w h = dry_then w (times n w) h (dry_times n w h)

  dry_or_lost : (h : Header) (w : Whole → Word F) (o : Option Whole) → ((e : Whole) → Dry (w e)) → Dry (or_lost h w o)
  dry_or_lost h w None all = dry_change (lost h)
  dry_or_lost h w (Some e) all = all e

  dry_part : (w : Whole → Word F) (p : Part) → ((e : Whole) → Dry (w e)) → Dry (with_entry w p)
  dry_part w (Here h) all = dry_reading (entry_of h) (or_lost h w) (λ o. dry_or_lost h w o all)
  dry_part w _ all = dry_quiet

  dry_entry : (k : ℕ) (w : Whole → Word F) → ((e : Whole) → Dry (w e)) → Dry (with_entry_at k w)
  unfolding with_entry_at
  dry_entry k w all = dry_by _ (λ r. dry_part w (part_at r k) all)

  dry_save : Dry {F = F} save
  unfolding save
  dry_save = dry_then _ _ (dry_does _ (λ r. tt)) (dry_change _)

  dry_checkpoint : Dry {F = F} make_checkpoint
  unfolding make_checkpoint
  dry_checkpoint = dry_by _ (λ r. dry_reading _ _ (λ c. dry_then _ _ (dry_does _ (λ r. tt)) (dry_then _ _ (dry_change _) dry_save)))

  dry_apply_entry : (e : Whole) → Dry {F = F} (apply_entry e)
  unfolding apply_entry
  dry_apply_entry e = dry_then _ _ (dry_says _) (dry_then _ _ (dry_says _) (dry_then _ _ (dry_change _) (dry_by _ (λ r. dry_when _ make_checkpoint dry_checkpoint))))

  pub dry_next : Dry {F = F} apply_next
  unfolding apply_next
  dry_next = dry_by _ (λ r. dry_when _ _ (dry_entry _ apply_entry dry_apply_entry))

  pub dry_apply : Dry {F = F} apply
  unfolding apply
  dry_apply = dry_by _ (λ r. dry_times _ apply_next dry_next)

  pub dry_resend : (e : Whole) → Dry {F = F} (resend e)
  unfolding resend
  dry_resend e = dry_naming _ (λ hash. dry_by _ (λ r. dry_when _ _ (dry_if _ _ _ (dry_says _) (dry_says _))))

module _ {F : Type 0} (s : Setting F) (Fine : F → Type 0) (store : Stores s Fine) where
  pub same_entries : (es : List Effect) (f : F) (slot : ℕ) → All IsDry es → slot < 64 → s.entry (after_all s f es) slot ≡ s.entry f slot
  unfolding after_all
  same_entries [] f slot h l = refl
  same_entries (e ∷ es) f slot h l = same_entries es (s.after f e) slot (All-tail IsDry e es h) l ∙ store.dry f e slot (All-head IsDry e es h) l

  pub fine_after : (es : List Effect) (f : F) → Fine f → Fine (after_all s f es)
  unfolding after_all
  fine_after [] f h = h
  fine_after (e ∷ es) f h = fine_after es (s.after f e) (store.keeps f e h)

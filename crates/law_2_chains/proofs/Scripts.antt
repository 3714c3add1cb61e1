-- Scripts one after the other, and words that go on from each other.
use Rattle.std.proofs.Common.{ℕ, zero, suc, ◌≡◌, refl, sym, ap, subst, Bool, true, false, cond, List, [], ◌∷◌, ◌++◌}
use Rattle.std.proofs.lemmas.List.{append_assoc}
use Rattle.vr_header.specs.declared.header.Header.{Header}
use Rattle.vr_rules.specs.Replica.{Replica}
use Rattle.vr_rules.specs.Steps.{Effect, Setting, Word, ◌⨾◌, quiet, change, by, naming, reading, when, times, after_all}
use Rattle.law_1_machine.specs.Group.{Group}
use Rattle.law_2_chains.specs.Local.{Local, through, carried, WhereverCut}
use Rattle.law_2_chains.specs.Chains.{Setup, Every, Mid, Stopped, Goes}

pub every_append : {X : Type 0} (P : X → Type 0) (xs ys : List X) → Every P xs → Every P ys → Every P (xs ++ ys)
every_append P [] ys h k = k
every_append P (x ∷ xs) ys h k = (h.0, every_append P xs ys h.1 k)

pub every_left : {X : Type 0} (P : X → Type 0) (xs ys : List X) → Every P (xs ++ ys) → Every P xs
every_left P [] ys h = tt
every_left P (x ∷ xs) ys h = (h.0, every_left P xs ys h.1)

pub every_map : {X : Type 0} (P Q : X → Type 0) (xs : List X) → ((x : X) → P x → Q x) → Every P xs → Every Q xs
every_map P Q [] f h = tt
every_map P Q (x ∷ xs) f h = (f x h.0, every_map P Q xs f h.1)

pub carried_append : (a b : List Effect) (l : Local) → carried (a ++ b) l ≡ carried b (carried a l)
carried_append [] b l = refl
carried_append (e ∷ es) b l = carried_append es b (through e l)

pub cut_append : (P : Local → Type 0) (a b : List Effect) (l : Local) → WhereverCut P a l → WhereverCut P b (carried a l) → WhereverCut P (a ++ b) l
cut_append P [] b l h k = k
cut_append P (e ∷ es) b l h k = (h.0, cut_append P es b (through e l) h.1 k)

pub after_append : {F : Type 0} (s : Setting F) (f : F) (a b : List Effect) → after_all s f (a ++ b) ≡ after_all s (after_all s f a) b
unfolding after_all
after_append s f [] b = refl
after_append s f (e ∷ es) b = after_append s (s.after f e) es b

-- three words one after the other
regrouped : {F : Type 0} (v x w : Word F) (s : Setting F) (r : Replica) (f : F) → ((v ⨾ x) ⨾ w) s r f ≡ (v ⨾ (x ⨾ w)) s r f
unfolding ◌⨾◌
regrouped v x w s r f =
    let a = v s r f in
    let b = x s a.replica (after_all s f a.script) in
    rw (after_append s f a.script b.script) (ap (λ (y : List Effect). record { replica = (w s b.replica (after_all s (after_all s f a.script) b.script)).replica; script = y }) (append_assoc a.script b.script (w s b.replica (after_all s (after_all s f a.script) b.script)).script))

module _ (u : Setup) (start : Group Header) (i : ℕ) where
  -- one word, then another from wherever the first leads
  pub goes_then : {F : Type 0} (v w : Word F) (s : Setting F) (r : Replica) (f : F) (l : Local) → Goes u start i l (v s r f)
      → ((a : Group Header) → Mid u start i (v s r f).replica (carried (v s r f).script l) a
      → Goes u start i (carried (v s r f).script l) (w s (v s r f).replica (after_all s f (v s r f).script)))
      → Goes u start i l ((v ⨾ w) s r f)
  unfolding ◌⨾◌
  goes_then v w s r f l h k =
      let a = v s r f in
      let g = k h.after h.ends in
      let b = w s a.replica (after_all s f a.script) in
      record {
        after = g.after;
        ends = rw (carried_append a.script b.script l) g.ends;
        cuts = cut_append (Stopped u start i) a.script b.script l h.cuts g.cuts;
      }

  pub goes_quiet : {F : Type 0} (s : Setting F) (r : Replica) (f : F) (l : Local) (a : Group Header) → Mid u start i r l a → Goes u start i l (quiet s r f)
  unfolding quiet
  goes_quiet s r f l a m = record { after = a; ends = m; cuts = tt }

  pub goes_change : {F : Type 0} (g : Replica → Replica) (s : Setting F) (r : Replica) (f : F) (l : Local) (a : Group Header) → Mid u start i (g r) l a → Goes u start i l (change g s r f)
  unfolding change
  goes_change g s r f l a m = record { after = a; ends = m; cuts = tt }

  pub goes_by : {F : Type 0} (w : Replica → Word F) (s : Setting F) (r : Replica) (f : F) (l : Local) → Goes u start i l (w r s r f) → Goes u start i l (by w s r f)
  unfolding by
  goes_by w s r f l h = record { after = h.after; ends = h.ends; cuts = h.cuts }

  pub goes_naming : {F : Type 0} (w : (List ℕ → List ℕ) → Word F) (s : Setting F) (r : Replica) (f : F) (l : Local) → Goes u start i l (w s.hash s r f) → Goes u start i l (naming w s r f)
  unfolding naming
  goes_naming w s r f l h = record { after = h.after; ends = h.ends; cuts = h.cuts }

  pub goes_reading : {F X : Type 0} (g : Setting F → F → X) (w : X → Word F) (s : Setting F) (r : Replica) (f : F) (l : Local) → Goes u start i l (w (g s f) s r f)
      → Goes u start i l (reading g w s r f)
  unfolding reading
  goes_reading g w s r f l h = record { after = h.after; ends = h.ends; cuts = h.cuts }

  pub goes_if : {F : Type 0} (b : Bool) (v w : Word F) (s : Setting F) (r : Replica) (f : F) (l : Local) → (b ≡ true → Goes u start i l (v s r f)) → (b ≡ false → Goes u start i l (w s r f))
      → Goes u start i l (cond b v w s r f)
  goes_if true v w s r f l h k = h refl
  goes_if false v w s r f l h k = k refl

  pub goes_when : {F : Type 0} (b : Bool) (w : Word F) (s : Setting F) (r : Replica) (f : F) (l : Local) (a : Group Header) → Mid u start i r l a → (b ≡ true → Goes u start i l (w s r f))
      → Goes u start i l (when b w s r f)
  goes_when b w s r f l a m h = goes_if b w quiet s r f l h (λ e. goes_quiet s r f l a m)

  -- over and over, while it keeps what it needs
  pub goes_times : {F : Type 0} (n : ℕ) (w : Word F) (s : Setting F)
      → ((r : Replica) (f : F) (l : Local) (a : Group Header) → Mid u start i r l a → Goes u start i l (w s r f))
      → (r : Replica) (f : F) (l : Local) (a : Group Header) → Mid u start i r l a → Goes u start i l (times n w s r f)
  unfolding times
  goes_times zero w s h r f l a m = goes_quiet s r f l a m
  goes_times (suc n) w s h r f l a m = goes_then w (times n w) s r f l (h r f l a m) (λ b k. goes_times n w s h _ _ _ b k)

  pub goes_regrouped : {F : Type 0} (v x w : Word F) (s : Setting F) (r : Replica) (f : F) (l : Local) → Goes u start i l ((v ⨾ (x ⨾ w)) s r f) → Goes u start i l (((v ⨾ x) ⨾ w) s r f)
  goes_regrouped v x w s r f l h = subst (Goes u start i l) (sym (regrouped v x w s r f)) h

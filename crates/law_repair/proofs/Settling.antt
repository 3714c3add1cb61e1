-- What applying settles: it goes on until the next op isn't here, whatever reads.
use Rattle.std.proofs.Common.{arith, ℕ, zero, suc, ◌+◌, ◌-◌, ◌≡◌, ◌<◌, ◌∙◌, refl, sym, ap, subst, Bool, true, false, cond, List, [], ◌∷◌, length, get_or, set, Option, Some, None}
use Rattle.std.specs.Prelude.{nat_lt, ◌&&◌}
use Rattle.std.proofs.lemmas.Bool.{and_parts, eq-eqb, eqb-true, lt-ltb, ltb-true}
use Rattle.std.proofs.lemmas.List.{nil_from_length}
use Rattle.std.specs.Cmp.Derive.{both_true}
use Rattle.vr_header.specs.declared.header.Header.{Header}
use Rattle.vr_header.specs.declared.part.Part.{Part}
use Rattle.vr_header.specs.declared.part.Part.TheVariants.{Here, Lost, Wanted, Unknown, Nothing}
use Rattle.vr_header.specs.Made.{Whole}
use Rattle.vr_header.specs.Parts.{header_of}
use Rattle.vr_ckpt.specs.declared.name.Name.{Name}
use Rattle.vr_rules.specs.Replica.{Replica, is_here, part_at, with_part}
use Rattle.vr_rules.specs.Sound.{IsCaughtUp, IsSound}
use Rattle.vr_rules.specs.Steps.{Setting, Step, Word, ◌⨾◌, after_all, by, change, quiet, reading, times, when}
use Rattle.vr_rules.specs.Words.{apply_entry, apply_next, entry_of, is_loaded, lost, or_lost, with_entry, with_entry_at}
use Rattle.law_repair.proofs.Applying.{Next, entry_next, entry_still, next_entry, when_true}

-- ---- entries that are here

-- each stands at its op
pub record Placed (r : Replica) : Type 0 where
  pub each : (k : ℕ) (h : Header) → part_at r k ≡ Here h → h.op ≡ k

pub placed_of : (r : Replica) → IsSound r → Placed r
placed_of r h = record { each = λ k x e. (h.entries.each k x (ap header_of e)).1.at_op }

-- an entry that is lost is here no more, and none gets here
lost_stays : (ps : List Part) (i j : ℕ) (h x : Header) → get_or (set ps i (Lost h)) j Nothing ≡ Here x → get_or ps j Nothing ≡ Here x
lost_stays [] i j h x e = e
lost_stays (p ∷ ps) zero zero h x e = absurd cc
lost_stays (p ∷ ps) zero (suc j) h x e = e
lost_stays (p ∷ ps) (suc i) zero h x e = e
lost_stays (p ∷ ps) (suc i) (suc j) h x e = lost_stays ps i j h x e

lost_there : (ps : List Part) (i : ℕ) (h : Header) → is_here (get_or (set ps i (Lost h)) i Nothing) ≡ false
lost_there [] i h = refl
lost_there (p ∷ ps) zero h = refl
lost_there (p ∷ ps) (suc i) h = lost_there ps i h

or_nothing : (b : Bool) (p : Part) (x : Header) → cond b Nothing p ≡ Here x → (b ≡ false) × (p ≡ Here x)
or_nothing true p x e = absurd cc
or_nothing false p x e = (refl, e)

pub lost_before : (h : Header) (r : Replica) (k : ℕ) (x : Header) → part_at (lost h r) k ≡ Here x → part_at r k ≡ Here x
unfolding with_part part_at
lost_before h r k x e =
    let a = or_nothing (nat_lt k r.first) _ x e in
    ap (λ b. cond b Nothing (get_or r.parts (k - r.first) Nothing)) a.0 ∙ lost_stays r.parts (h.op - r.first) (k - r.first) h x a.1

pub placed_lost : (h : Header) (r : Replica) → Placed r → Placed (lost h r)
placed_lost h r p = record { each = λ k x e. p.each k x (lost_before h r k x e) }

nothing_here : (b : Bool) (p : Part) → is_here p ≡ false → is_here (cond b Nothing p) ≡ false
nothing_here true p e = refl
nothing_here false p e = e

pub gone_here : (h : Header) (r : Replica) → is_here (part_at (lost h r) h.op) ≡ false
unfolding with_part part_at
gone_here h r = nothing_here (nat_lt h.op r.first) _ (lost_there r.parts (h.op - r.first) h)

here_none : (p : Part) → ((x : Header) → p ≡ Here x → ⊥) → is_here p ≡ false
here_none (Here x) n = absurd (n x refl)
here_none (Lost x) n = refl
here_none (Wanted x) n = refl
here_none Unknown n = refl
here_none Nothing n = refl

here_some : (p : Part) (x : Header) → p ≡ Here x → is_here p ≡ false → ⊥
here_some p x e n = let t : is_here (Here x) ≡ false = subst (λ q. is_here q ≡ false) e n in absurd cc

pub lost_fields : (h : Header) (r : Replica) → ((lost h r).missing ≡ r.missing) × (((lost h r).applied ≡ r.applied) × ((lost h r).commit ≡ r.commit))
unfolding with_part
lost_fields h r = (refl, (refl, refl))

-- a replica that has applied all that it can has done so still when an entry is lost
pub up_lost : (h : Header) (r : Replica) → IsCaughtUp r → IsCaughtUp (lost h r)
unfolding with_part
up_lost h r u = record { next = λ none more. here_none _ (λ x e. here_some _ x (lost_before h r (r.applied + 1) x e) (u.next none more)) }

-- ---- applying

module _ {F : Type 0} (s : Setting F) where
  -- what changes nothing changes nothing over and over
  times_rest : (n : ℕ) (r : Replica) (f : F) → ((d : F) → (apply_next s r d).replica ≡ r) → (times n apply_next s r f).replica ≡ r
  unfolding times quiet ◌⨾◌
  times_rest zero r f h = refl
  times_rest (suc n) r f h =
      let a = apply_next s r f in
      subst (λ (q : Replica). (times n apply_next s q (after_all s f a.script)).replica ≡ r) (sym (h f)) (times_rest n r (after_all s f a.script) h)

  when_rests : (b : Bool) (w : Word F) (r : Replica) (d : F) → (b ≡ true → (w s r d).replica ≡ r) → (when b w s r d).replica ≡ r
  unfolding quiet
  when_rests true w r d h = h refl
  when_rests false w r d h = refl

  next_rests : (r : Replica) → (is_loaded r && nat_lt r.applied r.commit ≡ true → is_here (part_at r (r.applied + 1)) ≡ false) → (d : F) → (apply_next s r d).replica ≡ r
  unfolding apply_next with_entry_at by
  next_rests r h d = when_rests (is_loaded r && nat_lt r.applied r.commit) _ r d (λ e. entry_still s apply_entry (part_at r (r.applied + 1)) r d (h e))

  -- where all that can be is applied, nothing more is
  pub rest_up : (n : ℕ) (r : Replica) (f : F) → IsCaughtUp r → IsCaughtUp (times n apply_next s r f).replica
  rest_up n r f u =
      let stuck : is_loaded r && nat_lt r.applied r.commit ≡ true → is_here (part_at r (r.applied + 1)) ≡ false =
      λ e.
      let p = and_parts (is_loaded r) (nat_lt r.applied r.commit) e in
      u.next (nil_from_length r.missing (eqb-true (length r.missing) 0 p.0)) (ltb-true r.applied r.commit p.1) in
      subst IsCaughtUp (sym (times_rest n r f (next_rests r stuck))) u

  part_unread : (w : Whole → Word F) (p : Part) (h : Header) (r : Replica) (f : F) → p ≡ Here h → entry_of h s f ≡ None → (with_entry w p s r f).replica ≡ lost h r
  unfolding reading change
  part_unread w p h r f is reads =
      ap (λ (x : Part). (with_entry w x s r f).replica) is ∙ ap (λ (o : Option Whole). (or_lost h w o s r f).replica) reads

  next_unread : (r : Replica) (f : F) (h : Header) → r.missing ≡ [] → r.applied < r.commit → part_at r (r.applied + 1) ≡ Here h → entry_of h s f ≡ None → (apply_next s r f).replica ≡ lost h r
  unfolding apply_next with_entry_at by
  next_unread r f h none l is reads =
      ap (λ (x : Step). x.replica) (when_true s (is_loaded r && nat_lt r.applied r.commit) _ r f (both_true (eq-eqb (length r.missing) 0 (ap length none)) (lt-ltb r.applied r.commit l)))
      ∙ part_unread apply_entry (part_at r (r.applied + 1)) h r f is reads

  unread_up : (r : Replica) (h : Header) → h.op ≡ r.applied + 1 → IsCaughtUp (lost h r)
  unread_up r h at =
      let same = lost_fields h r in
      record { next = λ none more. subst (λ k. is_here (part_at (lost h r) k) ≡ false) (at ∙ ap (λ k. k + 1) (sym same.1.0)) (gone_here h r) }

  pub times_settle : (n : ℕ) (r : Replica) (f : F) → n ≡ r.commit - r.applied → Placed r → IsCaughtUp (times n apply_next s r f).replica
  unfolding times quiet ◌⨾◌
  times_settle zero r f m p = record { next = λ none more. absurd (omega (arith, m, more)) }
  times_settle (suc n) r f m p =
      let l : r.applied < r.commit = omega (arith, m) in
      let x = apply_next s r f in
      let g = after_all s f x.script in
      let rests : IsCaughtUp r → IsCaughtUp (times n apply_next s x.replica g).replica = rest_up (suc n) r f in
      let by_read : (h : Header) (o : Option Whole) → r.missing ≡ [] → part_at r (r.applied + 1) ≡ Here h → entry_of h s f ≡ o → IsCaughtUp (times n apply_next s x.replica g).replica =
      λ h.
      elim [
        | None ↦ λ none is reads.
            subst (λ (q : Replica). IsCaughtUp (times n apply_next s q g).replica) (sym (next_unread r f h none l is reads))
            (rest_up n (lost h r) g (unread_up r h (p.each (r.applied + 1) h is)))
        | Some e ↦ λ none is reads.
            let next : Next r x.replica = subst (λ (y : Step). Next r y.replica) (sym (next_entry s r f h e none l is reads)) (entry_next s e r f l) in
            let up = next.up in
            let same = next.goes.commit in
            times_settle n x.replica g (omega (arith, m, up, same)) (record { each = λ k y e. p.each k y (sym (next.goes.parts k) ∙ e) })
      ] in
      let by_part : (q : Part) → r.missing ≡ [] → part_at r (r.applied + 1) ≡ q → IsCaughtUp (times n apply_next s x.replica g).replica = elim [
        | Here h ↦ λ none is. by_read h (entry_of h s f) none is refl
        | Lost h ↦ λ none is. rests (record { next = λ a b. ap is_here is })
        | Wanted h ↦ λ none is. rests (record { next = λ a b. ap is_here is })
        | Unknown ↦ λ none is. rests (record { next = λ a b. ap is_here is })
        | Nothing ↦ λ none is. rests (record { next = λ a b. ap is_here is })
      ] in
      elim (r.missing) as (λ (ms : List Name). r.missing ≡ ms → IsCaughtUp (times n apply_next s x.replica g).replica) [
        | [] ↦ λ none. by_part (part_at r (r.applied + 1)) none refl
        | name ∷ names ↦ λ some. rests (record { next = λ none more. let never : name ∷ names ≡ [] = sym some ∙ none in absurd cc })
      ] refl

-- What has no mark in common isn't the same.
use Rattle.std.proofs.Common.{◌≡◌, ◌<◌, ℕ, zero, suc, Bool, true, false, ◌||◌, List, [], ◌∷◌, length, map, get_or, Option, Some, None, refl, sym, ap, ◌∙◌, eqb, set, arith}
use Rattle.std.specs.Prelude.{nat_eq, replicate}
use Rattle.std.specs.Cmp.Lexicographic.{pointwise}
use Rattle.std.specs.Int.{w64}
use Rattle.std.specs.List.{list_any}
use Rattle.std.proofs.lemmas.Bool.{eq-eqb}
use Rattle.std.proofs.lemmas.Grind.{common_steps}
use Rattle.std.proofs.lemmas.List.{length-set, map-set}
use Rattle.std.proofs.lemmas.Slice.Eq.{bytes_eq-Decides}
use Rattle.vr_base.specs.Bytes.{number}
use Rattle.vr_io_policy.specs.Answers.{IsRemembered, Remembered, is_recent, is_repeated, mark_at, noted, place_after}
use Rattle.vr_io_policy.specs.Topics.{mark_of, same_topic}
use Rattle.vr_io_policy.specs.declared.answers.Answer.{Answer}
use Rattle.vr_io_policy.specs.declared.answers.Passed.{Passed}
use Rattle.vr_io_policy.specs.declared.topic.Topic.{Topic}
use Rattle.vr_io_policy.specs.declared.topic.Topic.TheVariants.{Log, State, Named}

other_name : (m n : List ℕ) → eqb (number w64 0 m) (number w64 0 n) ≡ false → pointwise nat_eq m n ≡ false
other_name m n e =
    elim (pointwise nat_eq m n) as (λ b. pointwise nat_eq m n ≡ b → b ≡ false) [
      | true ↦ λ h. absurd (let one : eqb (number w64 0 m) (number w64 0 n) ≡ true = eq-eqb (number w64 0 m) (number w64 0 n) (ap (number w64 0) ((bytes_eq-Decides m n).0 h)) in cc)
      | false ↦ λ h. refl
    ] refl

other_topic : (t u : Topic) → eqb (mark_of t) (mark_of u) ≡ false → same_topic t u ≡ false
other_topic Log Log e = absurd cc
other_topic Log State e = refl
other_topic Log (Named n) e = refl
other_topic State Log e = refl
other_topic State State e = absurd cc
other_topic State (Named n) e = refl
other_topic (Named m) Log e = refl
other_topic (Named m) State e = refl
other_topic (Named m) (Named n) e = other_name m.0 n.0 e

other_place : {A : Type 0} (same : A → A → Bool) (answer : Answer A) (now : ℕ) (place : Option (Passed A))
    → eqb (mark_at place) (mark_of answer.topic) ≡ false → is_recent same answer now place ≡ false
other_place same answer now None e = refl
other_place same answer now (Some p) e = rw (other_topic p.answer.topic answer.topic e) refl

neither : (a b : Bool) → (a || b) ≡ false → (a ≡ false) × (b ≡ false)
neither true b e = absurd cc
neither false b e = (refl, e)

pub none_by_mark : {A : Type 0} (same : A → A → Bool) (answer : Answer A) (now : ℕ) (places : List (Option (Passed A)))
    → list_any (λ own. eqb own (mark_of answer.topic)) (map mark_at places) ≡ false → is_repeated same answer now places ≡ false
unfolding is_repeated
none_by_mark same answer now [] e = refl
none_by_mark same answer now (place ∷ places) e =
    let parts = neither (eqb (mark_at place) (mark_of answer.topic)) (list_any (λ own. eqb own (mark_of answer.topic)) (map mark_at places)) e in
    λ i. other_place same answer now place parts.0 i || none_by_mark same answer now places parts.1 i

-- none has taken a place yet
pub no_marks : (A : Type 0) (count : ℕ) → replicate count 0 ≡ map (mark_at {A = A}) (replicate count None)
no_marks A zero = refl
no_marks A (suc count) = ap (λ xs. 0 ∷ xs) (no_marks A count)

-- the one that passed has its mark
pub marks_kept : {A : Type 0} (p : Passed A) (next : ℕ) (places : List (Option (Passed A)))
    → set (map mark_at places) next (mark_of p.answer.topic) ≡ map mark_at (set places next (Some p))
marks_kept p next places = sym (map-set mark_at places next (Some p))

within : (next : ℕ) → next < 512 → place_after next < 512
within next h = grind (arith, common_steps, h)

pub kept : {A : Type 0} (p : Passed A) (r : Remembered A) → IsRemembered r → IsRemembered (noted p r)
kept p r h = record { size = length-set r.places r.next (Some p) ∙ h.size; within = within r.next h.within }

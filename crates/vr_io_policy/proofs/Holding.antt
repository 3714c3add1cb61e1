-- What passed is held back while few others pass.
use Rattle.std.proofs.Common.{arith, refl, ◌∙◌, ◌≡◌, ◌≢◌, ◌<◌, ◌≤◌, ◌+◌, ◌-◌, ℕ, Bool, true, false, nat_lt, All, List, [], ◌∷◌, length, get_or, Option, Some, None, if◌then◌else◌}
use Rattle.std.proofs.lemmas.Grind.{common_steps}
use Rattle.std.proofs.lemmas.List.{get_or-set_other, get_or-set_same}
use Rattle.std.proofs.lemmas.List.Folds.{list_any_at, list_any_none}
use Rattle.vr_io_policy.proofs.Marks.{kept}
use Rattle.vr_io_policy.specs.Answers.{IsRemembered, Remembered, RepeatsAreHeld, is_recent, is_repeated, noted, passing, place_after, same_answer}
use Rattle.vr_io_policy.specs.declared.answers.Answer.{Answer}
use Rattle.vr_io_policy.specs.declared.answers.Passed.{Passed}

-- how many may pass until one takes this place
left : ℕ → ℕ → ℕ
left at next = if nat_lt next at then next + 512 - at else next - at

-- as many as there are other places, where this one was taken last
left_first : (at : ℕ) → at < 512 → 512 ≤ left at (place_after at) + 1
unfolding left
left_first at h = grind (arith, common_steps, h)

-- one less once another place was taken
left_later : (at next : ℕ) → at < 512 → next < 512 → 0 < left at next → left at next ≤ left at (place_after next) + 1
unfolding left
left_later at next h g l = grind (arith, common_steps, h, g, l)

other_place : (at next : ℕ) → 0 < left at next → at ≢ next
unfolding left
other_place at next l = λ e. grind (arith, common_steps, l, e)

all_kept : {A : Type 0} (ps : List (Passed A)) (r : Remembered A) → IsRemembered r → IsRemembered (passing ps r)
unfolding passing
all_kept [] r h = h
all_kept (p ∷ ps) r h = all_kept ps (noted p r) (kept p r h)

-- what stands at a place stays while fewer pass than until it is taken
stays : {A : Type 0} (ps : List (Passed A)) (at : ℕ) (r : Remembered A) → IsRemembered r → at < 512 → length ps ≤ left at r.next
    → get_or (passing ps r).places at None ≡ get_or r.places at None
unfolding passing
stays [] at r h a l = refl
stays (p ∷ ps) at r h a l =
    let some : 0 < left at r.next = omega (arith, l) in
    let less : length ps ≤ left at (place_after r.next) = let one = left_later at r.next a h.within some in omega (arith, l, one) in
    stays ps at (noted p r) (kept p r h) a less ∙ get_or-set_other r.places r.next at (Some p) None (other_place at r.next some)

others : {A : Type 0} (same : A → A → Bool) (answer : Answer A) (now : ℕ) (places : List (Option (Passed A)))
    → All (λ place. is_recent same answer now place ≡ false) places → is_repeated same answer now places ≡ false
unfolding is_repeated
others same answer now places none = list_any_none (is_recent same answer now) places none

-- it stands where it was put, so it is found there
again : {A : Type 0} (same : A → A → Bool) (p : Passed A) (now : ℕ) (ps : List (Passed A)) (r : Remembered A)
    → IsRemembered r → same_answer same p.answer p.answer ≡ true → now - p.at < 90 → length ps < 512 → is_repeated same p.answer now (passing (p ∷ ps) r).places ≡ true
unfolding is_repeated passing
again same p now ps r h own soon few =
    let first = noted p r in
    let free : length ps ≤ left r.next (place_after r.next) = let all = left_first r.next h.within in omega (arith, all, few) in
    let there : get_or (passing ps first).places r.next None ≡ Some p =
    stays ps r.next first (kept p r h) h.within free ∙ get_or-set_same r.places r.next (Some p) None (rw h.size h.within) in
    let recent : nat_lt (now - p.at) 90 ≡ true = grind (arith, common_steps, soon) in
    list_any_at (is_recent same p.answer now) (passing ps first).places r.next None (rw (all_kept ps first (kept p r h)).size h.within) (rw (there, own, recent) refl)

pub are_held : {A : Type 0} (same : A → A → Bool) → RepeatsAreHeld same
are_held same = record { others = others same; again = again same }

-- Which answer is held back.
use Rattle.std.specs.Prelude.{◌≡◌, ◌<◌, ◌-◌, ℕ, Bool, true, false, nat_lt, ◌&&◌, not, All, List, [], ◌∷◌, length, slice_set, Option, Some, option_map, if◌then◌else◌}
use Rattle.std.specs.List.{list_any}
use Rattle.std.specs.Option.{option_map_or}
use Rattle.vr_io_policy.specs.Receivers.{same_receiver}
use Rattle.vr_io_policy.specs.Topics.{mark_of, same_topic, topic_of}
use Rattle.vr_io_policy.specs.declared.answers.Answer.{Answer}
use Rattle.vr_io_policy.specs.declared.answers.Passed.{Passed}
use Rattle.vr_io_policy.specs.declared.receiver.Receiver.{Receiver}

-- it is about the same, and goes to the same receiver
abbrev pub same_answer : {A : Type 0} → (A → A → Bool) → Answer A → Answer A → Bool
same_answer same a b = same_topic a.topic b.topic && same_receiver same a.to b.to

-- the same passed less than 90 milliseconds ago
abbrev pub is_recent : {A : Type 0} → (A → A → Bool) → Answer A → ℕ → Option (Passed A) → Bool
is_recent same answer now place = option_map_or (λ p. same_answer same p.answer answer && nat_lt (now - p.at) 90) place false

-- one of those that are remembered is the same, and passed less than 90 milliseconds ago
unfoldable pub is_repeated : {A : Type 0} → (A → A → Bool) → Answer A → ℕ → List (Option (Passed A)) → Bool
is_repeated same answer now places = list_any (is_recent same answer now) places

-- what is remembered: those that passed, None at a place that none has taken yet, and the place that the next one takes
pub record Remembered (A : Type 0) : Type 0 where
  pub places : List (Option (Passed A))
  pub next : ℕ

-- there are 512 places
pub record IsRemembered {A : Type 0} (r : Remembered A) : Type 0 where
  pub size : length r.places ≡ 512
  pub within : r.next < 512

-- they are taken from the last one down to the first, and so on again
abbrev pub place_after : ℕ → ℕ
place_after next = if nat_lt 0 next then next - 1 else 511

-- this one is remembered, in the place of the one that passed longest ago
abbrev pub noted : {A : Type 0} → Passed A → Remembered A → Remembered A
noted p r = record { places = slice_set r.places r.next (Some p); next = place_after r.next }

-- what is remembered once these have passed, one after the other
unfoldable pub passing : {A : Type 0} → List (Passed A) → Remembered A → Remembered A
passing [] r = r
passing (p ∷ ps) r = passing ps (noted p r)

-- what is remembered after an answer: it passes, where it doesn't repeat one
abbrev pub answered : {A : Type 0} → (A → A → Bool) → Answer A → ℕ → Remembered A → Remembered A
answered same answer now r = if is_repeated same answer now r.places then r else noted (record { answer = answer; at = now }) r

-- the answer that a message is
abbrev pub answer_of : {A : Type 0} → List ℕ → Receiver A → Option (Answer A)
answer_of bytes to = option_map (λ topic. record { topic = topic; to = to }) (topic_of bytes)

-- a message to this receiver passes: it is no answer, or none that repeats one
abbrev pub passes : {A : Type 0} → (A → A → Bool) → List ℕ → Receiver A → ℕ → Remembered A → Bool
passes same bytes to now r = option_map_or (λ answer. not (is_repeated same answer now r.places)) (answer_of bytes to) true

-- what is remembered then
abbrev pub after : {A : Type 0} → (A → A → Bool) → List ℕ → Receiver A → ℕ → Remembered A → Remembered A
after same bytes to now r = option_map_or (λ answer. answered same answer now r) (answer_of bytes to) r

-- the mark of what has a place
abbrev pub mark_at : {A : Type 0} → Option (Passed A) → ℕ
mark_at place = option_map_or (λ p. mark_of p.answer.topic) place 0

pub record RepeatsAreHeld {A : Type 0} (same : A → A → Bool) : Type 0 where
  -- what was never let through passes, and so does what passed 90 milliseconds ago or earlier
  pub others : (answer : Answer A) (now : ℕ) (places : List (Option (Passed A)))
      → All (λ place. is_recent same answer now place ≡ false) places → is_repeated same answer now places ≡ false
  -- what passed is held back for 90 milliseconds, whatever passes meanwhile, as long as that is less than 512
  pub again : (p : Passed A) (now : ℕ) (ps : List (Passed A)) (r : Remembered A)
      → IsRemembered r → same_answer same p.answer p.answer ≡ true → now - p.at < 90 → length ps < 512 → is_repeated same p.answer now (passing (p ∷ ps) r).places ≡ true

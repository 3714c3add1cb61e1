-- What the sessions store is what the entries of the log gave.
use Rattle.std.proofs.Common.{zero, suc, ◌≡◌, ◌≢◌, ◌≤◌, ◌<◌, ◌⊎◌, inl, inr, ℕ, ◌+◌, ◌-◌, List, length, take, Bool, true, false, cond, eqb, refl, arith, Option, Some, None, ap, sym, ◌∙◌, subst}
use Rattle.std.specs.List.{slice_get}
use Rattle.std.specs.Option.{option_map_or}
use Rattle.std.specs.Ordering.{nat_cmp}
use Rattle.std.specs.Prelude.{is_some, nat_lt}
use Rattle.std.proofs.lemmas.Bool.{eqb-true}
use Rattle.std.proofs.lemmas.Bool.Decides.{nat_tests}
use Rattle.vr_header.specs.declared.outcome.Outcome.{Outcome}
use Rattle.vr_base.specs.Versions.{session_limit}
use Rattle.vr_header.specs.Made.{Whole}
use Rattle.std.specs.FinMap.Entries.{find, put}
use Rattle.vr_state.specs.Finite.{without}
use Rattle.vr_state.specs.declared.session.Session.{Session}
use Rattle.vr_state.specs.declared.session.SessionAnswer.{SessionAnswer}
use Rattle.vr_state.specs.declared.session.SessionAnswer.TheVariants as answer
use Rattle.vr_state.specs.Sessions.{Map, Asked, judged, checked, oldest, without_oldest}
use Rattle.vr_state.specs.Sessions as sess
use Rattle.vr_state.specs.Effects.{stored}
use Rattle.vr_state.proofs.SessionSteps.{find_put_own, find_put_other, find_without_own, find_without_other}
use Rattle.vr_state.specs.Folds.{check, asked, applied, answered, executed, outcome_of, fresh_outcome, state_after, answer_at}
use Rattle.vr_state.proofs.Once.{state_after_more}
use Rattle.vr_state.proofs.TextFronts.{get_some, take_next, some_same}

-- ---- one request stored

abbrev Kept : Map → Asked → ℕ → Session → Type 0
Kept m a c s = ((c ≡ a.client) × (s ≡ stored a)) ⊎ (find nat_cmp c m ≡ Some s)

pub is_one : (c k : ℕ) → (c ≡ k) ⊎ (c ≢ k)
is_one c k =
    let cases : (b : Bool) → eqb c k ≡ b → (c ≡ k) ⊎ (c ≢ k) = elim [ true ↦ λ e. inl (eqb-true c k e) | false ↦ λ e. inr (grind (arith, nat_tests)) ] in
    cases (eqb c k) refl

put_kept : (m : Map) (a : Asked) (c : ℕ) (s : Session) → find nat_cmp c (put nat_cmp a.client (stored a) m) ≡ Some s → Kept m a c s
put_kept m a c s h =
    elim (is_one c a.client) [
      | inl e ↦ inl (e, some_same s (stored a) (find nat_cmp c (put nat_cmp a.client (stored a) m)) h (rw e (find_put_own m a.client (stored a))))
      | inr e ↦ inr (sym (find_put_other m a.client (stored a) c e) ∙ h)
    ]

without_kept : (m : Map) (k c : ℕ) (s : Session) → find nat_cmp c (without nat_cmp k m) ≡ Some s → find nat_cmp c m ≡ Some s
without_kept m k c s h =
    elim (is_one c k) [
      | inl e ↦ let none : find nat_cmp c (without nat_cmp k m) ≡ None = rw e (find_without_own m k) in absurd (cc)
      | inr e ↦ sym (find_without_other m k c e) ∙ h
    ]

oldest_kept : (m : Map) (o : Option (ℕ × ℕ)) (c : ℕ) (s : Session) → find nat_cmp c (option_map_or (λ d. without nat_cmp d.0 m) o m) ≡ Some s → find nat_cmp c m ≡ Some s
oldest_kept m None c s h = h
oldest_kept m (Some d) c s h = without_kept m d.0 c s h

evicted_kept : (m : Map) (a : Asked) (c : ℕ) (s : Session) → find nat_cmp c (put nat_cmp a.client (stored a) (without_oldest m)) ≡ Some s → Kept m a c s
unfolding without_oldest
evicted_kept m a c s h =
    elim (put_kept (without_oldest m) a c s h) [ inl e ↦ inl e | inr e ↦ inr (oldest_kept m (oldest m) c s e) ]

either_kept : (m : Map) (a : Asked) (c : ℕ) (s : Session) (b d : Bool)
    → find nat_cmp c (cond b (put nat_cmp a.client (stored a) m) (cond d (put nat_cmp a.client (stored a) m) (put nat_cmp a.client (stored a) (without_oldest m)))) ≡ Some s → Kept m a c s
either_kept m a c s true d h = put_kept m a c s h
either_kept m a c s false true h = put_kept m a c s h
either_kept m a c s false false h = evicted_kept m a c s h

pub applied_kept : (m : Map) (a : Asked) (c : ℕ) (s : Session) → find nat_cmp c (sess.applied m a) ≡ Some s → Kept m a c s
unfolding sess.applied
applied_kept m a c s h = either_kept m a c s (nat_lt (length m) (session_limit a.version)) (is_some (find nat_cmp a.client m)) h

-- ---- all entries

abbrev pub IsNumbered : List Whole → Type 0
IsNumbered log = (k : ℕ) (e : Whole) → slice_get log k ≡ Some e → e.header.op ≡ k + 1

-- a session's last request is an entry of the log up to this op, executed for its client, with its outcome
pub record IsStored (log : List Whole) (m c : ℕ) (s : Session) : Type 0 where
  pub op : (0 < s.op) × (s.op ≤ m)
  pub answer : answer_at log s.op ≡ Some (record { client = c; request = s.number; answer = answer.Fresh; outcome = Some s.outcome })

stored_more : (log : List Whole) (m c : ℕ) (s : Session) → IsStored log m c s → IsStored log (suc m) c s
stored_more log m c s h = let p = h.op in record { op = (p.0, omega (arith, p.1)); answer = h.answer }

-- what the entry after m others gives
pub answer_next : (log : List Whole) (m : ℕ) (e : Whole) → slice_get log m ≡ Some e
    → answer_at log (m + 1) ≡ Some (record { client = e.header.client; request = e.header.request; answer = check (state_after (take m log)) e; outcome = fresh_outcome (state_after (take m log)) e (check (state_after (take m log)) e) })
unfolding answer_at
answer_next log m e at = let place : m + 1 - 1 ≡ m = omega arith in rw (place, at) refl

stored_own : (log : List Whole) (m : ℕ) (e : Whole) → IsNumbered log → slice_get log m ≡ Some e → check (state_after (take m log)) e ≡ answer.Fresh
    → IsStored log (suc m) e.header.client (stored (asked (state_after (take m log)) e))
stored_own log m e numbers at fresh =
    let op = numbers m e at in
    let state = state_after (take m log) in
    let next : answer_at log (m + 1) ≡ Some (record { client = e.header.client; request = e.header.request; answer = answer.Fresh; outcome = Some (outcome_of state e) }) =
    subst (λ a. answer_at log (m + 1) ≡ Some (record { client = e.header.client; request = e.header.request; answer = a; outcome = fresh_outcome state e a })) fresh (answer_next log m e at) in
    record { op = (omega (arith, op), omega (arith, op)); answer = rw op next }

stored_by : (log : List Whole) (m : ℕ) (e : Whole) (a : SessionAnswer) (c : ℕ) (s : Session) → IsNumbered log → slice_get log m ≡ Some e → check (state_after (take m log)) e ≡ a
    → ((d : ℕ) (t : Session) → find nat_cmp d (state_after (take m log)).sessions ≡ Some t → IsStored log m d t)
    → find nat_cmp c (answered (state_after (take m log)) e a).state.sessions ≡ Some s → IsStored log (suc m) c s
unfolding answered executed
stored_by log m e answer.Fresh c s numbers at is ih h =
    elim (applied_kept (state_after (take m log)).sessions (asked (state_after (take m log)) e) c s h) [
      | inl k ↦ rw (k.0, k.1) (stored_own log m e numbers at is)
      | inr k ↦ stored_more log m c s (ih c s k)
    ]
stored_by log m e (answer.Repeat outcome op) c s numbers at is ih h = stored_more log m c s (ih c s h)
stored_by log m e answer.Old c s numbers at is ih h = stored_more log m c s (ih c s h)
stored_by log m e answer.Gap c s numbers at is ih h = stored_more log m c s (ih c s h)
stored_by log m e answer.Evicted c s numbers at is ih h = stored_more log m c s (ih c s h)

-- the state after one entry more
pub state_next : (log : List Whole) (m : ℕ) (e : Whole) → slice_get log m ≡ Some e → state_after (take (suc m) log) ≡ (applied (state_after (take m log)) e).state
state_next log m e at = ap state_after (take_next log m e at) ∙ state_after_more (take m log) e

pub all_stored : (log : List Whole) → IsNumbered log → (m : ℕ) → m ≤ length log → (c : ℕ) (s : Session) → find nat_cmp c (state_after (take m log)).sessions ≡ Some s → IsStored log m c s
unfolding applied
all_stored log numbers zero le c s h = absurd (cc)
all_stored log numbers (suc m) le c s h =
    let e = get_some log m (omega (arith, le)) in
    let at : find nat_cmp c (answered (state_after (take m log)) e.0 (check (state_after (take m log)) e.0)).state.sessions ≡ Some s = rw (← state_next log m e.0 e.1) h in
    stored_by log m e.0 (check (state_after (take m log)) e.0) c s numbers e.1 refl (λ d t k. all_stored log numbers m (omega (arith, le)) d t k) at

-- ---- a repeat

judged_repeat : (request : ℕ) (s : Session) (outcome : Outcome) (op : ℕ) → judged request s ≡ answer.Repeat outcome op → (request ≡ s.number) × (outcome ≡ s.outcome) × (op ≡ s.op)
judged_repeat request s outcome op h =
    let cases : (b d g : Bool) → eqb request s.number ≡ b
    → cond b (answer.Repeat s.outcome s.op) (cond d answer.Old (cond g answer.Fresh answer.Gap)) ≡ answer.Repeat outcome op → (request ≡ s.number) × (outcome ≡ s.outcome) × (op ≡ s.op) =
    λ b d g. elim b as (λ x. eqb request s.number ≡ x → cond x (answer.Repeat s.outcome s.op) (cond d answer.Old (cond g answer.Fresh answer.Gap)) ≡ answer.Repeat outcome op → (request ≡ s.number) × (outcome ≡ s.outcome) × (op ≡ s.op)) [
      | true ↦ λ e k. (eqb-true request s.number e, cc, cc)
      | false ↦ λ e k. elim d as (λ x. cond x answer.Old (cond g answer.Fresh answer.Gap) ≡ answer.Repeat outcome op → (request ≡ s.number) × (outcome ≡ s.outcome) × (op ≡ s.op)) [
        | true ↦ λ l. absurd (cc)
        | false ↦ λ l. elim g as (λ x. cond x answer.Fresh answer.Gap ≡ answer.Repeat outcome op → (request ≡ s.number) × (outcome ≡ s.outcome) × (op ≡ s.op)) [ true ↦ λ j. absurd (cc) | false ↦ λ j. absurd (cc) ] l
      ] k
    ] in
    cases (eqb request s.number) (nat_lt request s.number) (eqb request (s.number + 1)) refl h

repeat_by : (o : Option Session) (request : ℕ) (outcome : Outcome) (op : ℕ) → option_map_or (judged request) o (cond (eqb request 0) answer.Fresh answer.Evicted) ≡ answer.Repeat outcome op
    → (s : Session) × (o ≡ Some s) × (request ≡ s.number) × (outcome ≡ s.outcome) × (op ≡ s.op)
repeat_by None request outcome op h = absurd (elim (eqb request 0) as (λ b. cond b answer.Fresh answer.Evicted ≡ answer.Repeat outcome op → ⊥) [ true ↦ λ k. absurd (cc) | false ↦ λ k. absurd (cc) ] h)
repeat_by (Some s) request outcome op h = let j = judged_repeat request s outcome op h in (s, refl, j.0, j.1, j.2)

stored_as : (log : List Whole) (m c : ℕ) (s : Session) (number op : ℕ) (outcome : Outcome) → number ≡ s.number → outcome ≡ s.outcome → op ≡ s.op → IsStored log m c s → IsStored log m c (record { number = number; op = op; outcome = outcome })
stored_as log m c s number op outcome n o k h = rw (n, o, k) (record { op = h.op; answer = h.answer })

-- of a request that is a repeat, the stored op and outcome are those of its entry
pub repeat_stored : (log : List Whole) (m client request : ℕ) (outcome : Outcome) (op : ℕ) → IsNumbered log → m ≤ length log
    → checked (state_after (take m log)).sessions client request ≡ answer.Repeat outcome op
    → IsStored log m client (record { number = request; op = op; outcome = outcome })
unfolding checked
repeat_stored log m client request outcome op numbers le h =
    let s = repeat_by (find nat_cmp client (state_after (take m log)).sessions) request outcome op h in
    stored_as log m client s.0 request op outcome s.2 s.3 s.4 (all_stored log numbers m le client s.0 s.1)

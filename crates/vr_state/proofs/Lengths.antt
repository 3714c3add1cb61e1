-- How long the texts of a state are that fits a version.
use Rattle.std.proofs.Common.{◌≡◌, ℕ, suc, ◌+◌, ◌*◌, ◌≤◌, ◌&&◌, [], ◌∷◌, List, length, true, false, eqb, leb, cond, arith}
use Rattle.std.specs.List.{AllByRecursion, flat_map, list_all}
use Rattle.std.specs.Ordering.{nat_cmp}
use Rattle.std.proofs.lemmas.Bool.{and_parts, leb-true}
use Rattle.std.proofs.lemmas.List.{length-append}
use Rattle.std.specs.FinMap.Entries.{is_sorted}
use Rattle.vr_base.proofs.FieldLaws.{length-bytes16, length-bytes32, length-bytes64}
use Rattle.vr_base.specs.Versions.{session_limit, value_limit}
use Rattle.vr_header.specs.Bodies.{IsOutcome, outcome_bytes}
use Rattle.vr_header.specs.Text.{is_text}
use Rattle.vr_header.specs.declared.outcome.Outcome.{Outcome}
use Rattle.vr_header.specs.declared.outcome.Outcome.TheVariants as outcome
use Rattle.vr_state.specs.Fitting.{AreWithin, keys_fit, outcome_fits, sessions_fit}
use Rattle.vr_state.specs.Kv as kv
use Rattle.vr_state.specs.Kv.{IsKv}
use Rattle.vr_state.specs.Pairs as pairs
use Rattle.vr_state.specs.Pairs.{kv_bytes, kv_text, pair_bytes, pair_text}
use Rattle.vr_state.specs.Sessions as sess
use Rattle.vr_state.specs.SessionTexts.{session_bytes, session_text, sessions_bytes, sessions_text}
use Rattle.vr_state.specs.StateTexts.{payloads}
use Rattle.vr_state.specs.Table.{table_text}
use Rattle.vr_state.specs.declared.session.Session.{Session}
use Rattle.vr_state.specs.declared.texts.Texts.{Texts}
use Rattle.vr_state.proofs.Fitting.{outcome_is}
use Rattle.vr_state.proofs.KvTexts.{is_text_length, key_length}

-- ---- sessions

length_of_outcome : (v : ℕ) (o : Outcome) → IsOutcome v o → length (outcome_bytes o) ≤ 3 + value_limit v
unfolding outcome_bytes
length_of_outcome v outcome.Session h = omega arith
length_of_outcome v outcome.Ok h = omega arith
length_of_outcome v outcome.Full h = omega arith
length_of_outcome v outcome.Absent h = omega arith
length_of_outcome v (outcome.Value value) h = simp (length-append, length-bytes16) (omega (arith, is_text_length (value_limit v) value h))

length_of_session : (v : ℕ) (e : ℕ × Session) → IsOutcome v e.1.outcome → length (session_text e) ≤ session_bytes v
unfolding session_text
length_of_session v e h = simp (length-append, length-bytes64, length-bytes32) (omega (arith, length_of_outcome v e.1.outcome h))

length_of_sessions : (v : ℕ) (m : sess.Map) → list_all (λ e. outcome_fits v e.1.outcome) m ≡ true → length (flat_map session_text m) ≤ session_bytes v * length m
length_of_sessions v [] h = omega arith
length_of_sessions v (e ∷ es) h =
    let both = and_parts (outcome_fits v e.1.outcome) (list_all (λ e. outcome_fits v e.1.outcome) es) h in
    simp length-append
    (elim (eqb v 2) as (λ t. length (session_text e) ≤ 23 + cond t 3000 1024 → length (flat_map session_text es) ≤ (23 + cond t 3000 1024) * length es → length (session_text e) + length (flat_map session_text es) ≤ (23 + cond t 3000 1024) * suc (length es)) [
      | true ↦ λ a b. omega (arith, a, b)
      | false ↦ λ a b. omega (arith, a, b)
    ] (length_of_session v e (outcome_is v e.1.outcome both.0)) (length_of_sessions v es both.1))

-- a text of so many sessions, of which a version leaves no more
all_sessions : (v n l : ℕ) → n ≤ session_limit v → l ≤ session_bytes v * n → 2 + l ≤ sessions_bytes v
all_sessions v n l few h =
    elim (eqb v 2) as (λ t. n ≤ cond t 64 32 → l ≤ (23 + cond t 3000 1024) * n → 2 + l ≤ 2 + cond t 64 32 * (23 + cond t 3000 1024)) [
      | true ↦ λ a b. omega (arith, a, b)
      | false ↦ λ a b. omega (arith, a, b)
    ] few h

pub sessions_within : (v : ℕ) (m : sess.Map) → sessions_fit v m ≡ true → length (sessions_text m) ≤ sessions_bytes v
unfolding table_text sessions_fit
sessions_within v m h =
    let all = and_parts (is_sorted nat_cmp m) (leb (length m) (session_limit v) && list_all (λ e. outcome_fits v e.1.outcome) m) h in
    let held = and_parts (leb (length m) (session_limit v)) (list_all (λ e. outcome_fits v e.1.outcome) m) all.1 in
    simp (length-append, length-bytes16) (all_sessions v (length m) (length (flat_map session_text m)) (leb-true (length m) (session_limit v) held.0) (length_of_sessions v m held.1))

-- ---- keys

length_of_pair_within : (v : ℕ) (e : List ℕ × List ℕ) → pairs.Fits e → is_text (value_limit v) e.1 ≡ true → length (pair_text e) ≤ pair_bytes v
unfolding pair_text
length_of_pair_within v e held h = simp (length-append, length-bytes16) (omega (arith, key_length e.0 held.key, is_text_length (value_limit v) e.1 h))

length_of_pairs : (v : ℕ) (m : kv.Map) → AllByRecursion pairs.Fits m → list_all (λ p. is_text (value_limit v) p.1) m ≡ true → length (flat_map pair_text m) ≤ pair_bytes v * length m
length_of_pairs v [] held h = omega arith
length_of_pairs v (e ∷ es) held h =
    let both = and_parts (is_text (value_limit v) e.1) (list_all (λ p. is_text (value_limit v) p.1) es) h in
    simp length-append
    (elim (eqb v 2) as (λ t. length (pair_text e) ≤ 67 + cond t 3000 1024 → length (flat_map pair_text es) ≤ (67 + cond t 3000 1024) * length es → length (pair_text e) + length (flat_map pair_text es) ≤ (67 + cond t 3000 1024) * suc (length es)) [
      | true ↦ λ a b. omega (arith, a, b)
      | false ↦ λ a b. omega (arith, a, b)
    ] (length_of_pair_within v e held.0 both.0) (length_of_pairs v es held.1 both.1))

all_pairs : (v n l : ℕ) → n ≤ 128 → l ≤ pair_bytes v * n → 2 + l ≤ kv_bytes v
all_pairs v n l few h =
    elim (eqb v 2) as (λ t. l ≤ (67 + cond t 3000 1024) * n → 2 + l ≤ 2 + 128 * (67 + cond t 3000 1024)) [
      | true ↦ λ b. omega (arith, few, b)
      | false ↦ λ b. omega (arith, few, b)
    ] h

pub keys_within : (v : ℕ) (m : kv.Map) → IsKv m → keys_fit v m ≡ true → length (kv_text m) ≤ kv_bytes v
unfolding table_text keys_fit
keys_within v m held h = simp (length-append, length-bytes16) (all_pairs v (length m) (length (flat_map pair_text m)) held.few (length_of_pairs v m held.fit h))

-- ---- both

pub texts_within : (v : ℕ) (t : Texts) → length t.sessions ≤ sessions_bytes v → length t.keys ≤ kv_bytes v → AreWithin v t
texts_within v t s k = record {
  sessions = s;
  keys = k;
  few_sessions = elim (eqb v 2) as (λ b. length t.sessions ≤ 2 + cond b 64 32 * (23 + cond b 3000 1024) → payloads (length t.sessions) ≤ cond b 49 9) [ true ↦ λ h. omega (arith, h) | false ↦ λ h. omega (arith, h) ] s;
  few_keys = elim (eqb v 2) as (λ b. length t.keys ≤ 2 + 128 * (67 + cond b 3000 1024) → payloads (length t.keys) ≤ cond b 99 36) [ true ↦ λ h. omega (arith, h) | false ↦ λ h. omega (arith, h) ] k;
}

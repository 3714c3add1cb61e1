-- The text of a session by its form, and that of one that comes of an entry.
use Rattle.std.proofs.Common.{ℕ, zero, suc, ◌+◌, ◌-◌, ◌<◌, ◌≤◌, ◌≡◌, ◌^◌, arith, refl, sym, ap, ◌∙◌, subst, List, [], ◌∷◌, ◌++◌, length, drop, get_or}
use Rattle.std.specs.List.{AllByRecursion}
use Rattle.std.proofs.lemmas.List.{get_or-drop, length-append}
use Rattle.vr_base.specs.Bytes.{bytes16, bytes32, bytes64}
use Rattle.vr_base.specs.Versions.{value_limit}
use Rattle.vr_base.proofs.FieldLaws.{length-bytes32, length-bytes64}
use Rattle.vr_header.specs.Bodies.{outcome_bytes}
use Rattle.vr_header.specs.declared.outcome.Outcome.{Outcome}
use Rattle.vr_header.specs.declared.outcome.Outcome.TheVariants as outcome
use Rattle.vr_header.proofs.BodyLaws.{text_limit}
use Rattle.vr_state.specs.Sessions.{Fits, Map, OutcomeFits}
use Rattle.vr_state.specs.SessionTexts.{session_text}
use Rattle.vr_state.specs.declared.session.Session.{Session}
use Rattle.law_5_seals.specs.Laws.{IsOfEntry}
use Rattle.law_5_seals.proofs.Fronts.{IsComeForm, IsForm}
use Rattle.law_5_seals.proofs.Keys.{IsPrinted, text_printed, text_some}

-- ---- an outcome

record IsOutcome (b : List ℕ) : Type 0 where
  some : 1 ≤ length b
  kind : 1 ≤ get_or b 0 0
  small : get_or b 0 0 ≤ 5
  size : get_or b 1 0 < 255
  value : 2 ≤ length b → 4 ≤ length b
  printed : (k : ℕ) → 3 ≤ k → k < length b → IsPrinted (get_or b k 0)

one_byte : (k : ℕ) → 1 ≤ k → k ≤ 5 → IsOutcome (k ∷ [])
one_byte k a b = record { some = omega arith; kind = a; small = b; size = omega arith; value = λ l. absurd (omega (arith, l)); printed = λ i l r. absurd (omega (arith, l, r)) }

value_bytes : (high low : ℕ) (v : List ℕ) → high < 255 → 1 ≤ length v → ((i : ℕ) → i < length v → IsPrinted (get_or v i 0)) → IsOutcome (5 ∷ high ∷ low ∷ v)
value_bytes high low v few some p = record { some = omega arith; kind = omega arith; small = omega arith; size = few; value = λ l. omega (arith, some); printed = behind } where
  behind : (k : ℕ) → 3 ≤ k → k < length (5 ∷ high ∷ low ∷ v) → IsPrinted (get_or (5 ∷ high ∷ low ∷ v) k 0)
  behind zero l r = absurd (omega (arith, l))
  behind (suc zero) l r = absurd (omega (arith, l))
  behind (suc (suc zero)) l r = absurd (omega (arith, l))
  behind (suc (suc (suc k))) l r = p k (omega (arith, r))

outcome_form : (o : Outcome) → OutcomeFits o → IsOutcome (outcome_bytes o)
unfolding outcome_bytes bytes16
outcome_form outcome.Session f = one_byte 1 (omega arith) (omega arith)
outcome_form outcome.Ok f = one_byte 2 (omega arith) (omega arith)
outcome_form outcome.Full f = one_byte 3 (omega arith) (omega arith)
outcome_form outcome.Absent f = one_byte 4 (omega arith) (omega arith)
outcome_form (outcome.Value v) f =
    let n = text_limit (value_limit 2) v f in
    value_bytes (get_or (bytes16 (length v)) 0 0) (get_or (bytes16 (length v)) 1 0) v (omega (arith, n)) (text_some (value_limit 2) v f) (text_printed (value_limit 2) v f)

-- ---- a session

module _ (e : ℕ × Session) where
  behind_numbers : drop 20 (session_text e) ≡ outcome_bytes e.1.outcome
  unfolding session_text bytes64 bytes32
  behind_numbers = refl

  behind_request : drop 12 (session_text e) ≡ bytes64 e.1.op ++ outcome_bytes e.1.outcome
  unfolding session_text bytes64 bytes32
  behind_request = refl

  session_at : (k : ℕ) → get_or (session_text e) (20 + k) 0 ≡ get_or (outcome_bytes e.1.outcome) k 0
  session_at k = sym (get_or-drop 20 (session_text e) k 0) ∙ ap (λ b. get_or b k 0) behind_numbers

  session_long : length (session_text e) ≡ 20 + length (outcome_bytes e.1.outcome)
  unfolding session_text
  session_long =
      let a = length-append (bytes64 e.0) (bytes32 e.1.number ++ (bytes64 e.1.op ++ outcome_bytes e.1.outcome)) in
      let b = length-append (bytes32 e.1.number) (bytes64 e.1.op ++ outcome_bytes e.1.outcome) in
      let c = length-append (bytes64 e.1.op) (outcome_bytes e.1.outcome) in
      let x = length-bytes64 e.0 in
      let y = length-bytes32 e.1.number in
      let z = length-bytes64 e.1.op in
      omega (arith, a, b, c, x, y, z)

  op_high : e.1.op ≤ 2 ^ 62 → get_or (session_text e) 12 0 ≤ 64
  unfolding session_text bytes64 bytes32
  op_high l = omega (arith, l)

  op_zero : e.1.op ≤ 2 ^ 62 → ((i : ℕ) → i < 8 → get_or (session_text e) (12 + i) 0 ≡ 0) → e.1.op ≡ 0
  unfolding session_text bytes64 bytes32
  op_zero l z =
      let a = z 0 (omega arith) in
      let b = z 1 (omega arith) in
      let c = z 2 (omega arith) in
      let d = z 3 (omega arith) in
      let f = z 4 (omega arith) in
      let g = z 5 (omega arith) in
      let h = z 6 (omega arith) in
      let i = z 7 (omega arith) in
      omega (arith, l, a, b, c, d, f, g, h, i)

  number_zero : e.1.number < 2 ^ 32 → ((i : ℕ) → i < 4 → get_or (session_text e) (8 + i) 0 ≡ 0) → e.1.number ≡ 0
  unfolding session_text bytes64 bytes32
  number_zero l z =
      let a = z 0 (omega arith) in
      let b = z 1 (omega arith) in
      let c = z 2 (omega arith) in
      let d = z 3 (omega arith) in
      omega (arith, l, a, b, c, d)

  session_form : Fits e → IsForm (session_text e)
  session_form f =
      let o = outcome_form e.1.outcome f.outcome in
      let long = session_long in
      let some = o.some in
      let zero_at = session_at 0 in
      let one_at = session_at 1 in
      let kind = o.kind in
      let small = o.small in
      let size = o.size in
      record {
        long = omega (arith, long, some);
        high = op_high f.op;
        kind = omega (arith, zero_at, kind);
        small = omega (arith, zero_at, small);
        size = omega (arith, one_at, size);
        some = λ l. (let n = o.value (omega (arith, long, l)) in omega (arith, long, n));
        printed = λ k l r. (let z : 20 + (k - 20) ≡ k = omega (arith, l) in subst IsPrinted (sym (session_at (k - 20)) ∙ ap (λ n. get_or (session_text e) n 0) z) (o.printed (k - 20) (omega (arith, l)) (omega (arith, long, l, r))));
      }

  session_first : e.1.outcome ≡ outcome.Session → get_or (session_text e) 20 0 ≡ 1
  unfolding outcome_bytes
  session_first same = session_at 0 ∙ ap (λ o. get_or (outcome_bytes o) 0 0) same

  come_form : Fits e → IsOfEntry e → IsComeForm (session_text e)
  come_form f c = record {
    form = session_form f;
    op = λ z. (let none = op_zero f.op z in let some = c.op in omega (arith, none, some));
    number = λ z. session_first (c.first (number_zero f.number z));
  }

pub forms : (m : Map) → AllByRecursion Fits m → AllByRecursion (λ e. IsForm (session_text e)) m
forms [] h = tt
forms (e ∷ es) h = (session_form e h.0, forms es h.1)

pub come_forms : (m : Map) → AllByRecursion Fits m → AllByRecursion IsOfEntry m → AllByRecursion (λ e. IsComeForm (session_text e)) m
come_forms [] h c = tt
come_forms (e ∷ es) h c = (come_form e h.0 c.0, come_forms es h.1 c.1)

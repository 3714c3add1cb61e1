-- No header of an entry begins anywhere in the text of keys and values: no text has a byte 1 or 2 before two zeros, nor 253 or more before 255.
use Rattle.std.proofs.Common.{ℕ, zero, suc, ◌+◌, ◌-◌, ◌<◌, ◌≤◌, ◌≡◌, inl, inr, arith, refl, sym, ap, ◌∙◌, subst, List, [], ◌∷◌, ◌++◌, length, get_or}
use Rattle.std.specs.Prelude.{IsTrue, nat_le, ◌&&◌}
use Rattle.std.specs.List.{AllByRecursion, flat_map, list_all}
use Rattle.std.proofs.lemmas.Bool.{cases_lt, leb-true}
use Rattle.std.proofs.lemmas.List.{get_or-append_right, get_or_append_left, length-append}
use Rattle.vr_base.specs.Bytes.{bytes16}
use Rattle.vr_base.specs.Versions.{value_limit}
use Rattle.vr_header.specs.Text.{is_printable, is_text}
use Rattle.vr_header.proofs.BodyLaws.{text_limit}
use Rattle.vr_header.proofs.Truths.{both}
use Rattle.vr_state.specs.Table.{table_text}
use Rattle.vr_state.specs.Pairs.{Fits, kv_text, pair_text}
use Rattle.vr_state.specs.Kv as kv

-- ---- a text's bytes

abbrev pub IsPrinted : ℕ → Type 0
IsPrinted x = (33 ≤ x) × (x ≤ 126)

printed : (text : List ℕ) → IsTrue (list_all is_printable text) → (i : ℕ) → i < length text → IsPrinted (get_or text i 0)
printed [] t i l = absurd (omega (arith, l))
printed (x ∷ xs) t zero l =
    let b = both (is_printable x) (list_all is_printable xs) t in
    let r = both (nat_le 33 x) (nat_le x 126) b.0 in
    (leb-true 33 x r.0, leb-true x 126 r.1)
printed (x ∷ xs) t (suc i) l = printed xs ((both (is_printable x) (list_all is_printable xs) t).1) i (omega (arith, l))

pub text_printed : (limit : ℕ) (text : List ℕ) → IsTrue (is_text limit text) → (i : ℕ) → i < length text → IsPrinted (get_or text i 0)
unfolding is_text
text_printed limit text t i l = printed text ((both (nat_le 1 (length text) && nat_le (length text) limit) (list_all is_printable text) t).1) i l

pub text_some : (limit : ℕ) (text : List ℕ) → IsTrue (is_text limit text) → 1 ≤ length text
unfolding is_text
text_some limit text t = leb-true 1 (length text) (both (nat_le 1 (length text)) (nat_le (length text) limit) (both (nat_le 1 (length text) && nat_le (length text) limit) (list_all is_printable text) t).0).0

both_printed : (a b : List ℕ) → ((i : ℕ) → i < length a → IsPrinted (get_or a i 0)) → ((i : ℕ) → i < length b → IsPrinted (get_or b i 0)) → (i : ℕ) → i < length (a ++ b) → IsPrinted (get_or (a ++ b) i 0)
both_printed a b p q i l =
    elim (cases_lt i (length a)) [
      | inl h ↦ subst IsPrinted (sym (get_or_append_left a b 0 i h)) (p i h)
      | inr g ↦ (let n = length-append a b in subst IsPrinted (sym (get_or-append_right a b (length a) i 0 refl g)) (q (i - length a) (omega (arith, n, l, g))))
    ]

-- ---- clear texts

pub record IsClear (t : List ℕ) : Type 0 where
  pub one : (q : ℕ) → 1 ≤ get_or t q 0 → get_or t q 0 ≤ 2 → get_or t (q + 1) 0 ≡ 0 → get_or t (q + 2) 0 ≡ 0 → ⊥
  pub other : (q : ℕ) → 253 ≤ get_or t q 0 → get_or t (q + 1) 0 ≡ 255 → ⊥

none_clear : IsClear []
none_clear = record { one = λ q e m a b. omega (arith, e); other = λ q e a. omega (arith, e) }

-- a length and two bytes of another one, and texts after them
module _ (n high low : ℕ) (text rest : List ℕ) (small : n ≤ 64) (some : 1 ≤ high + low) (few : high < 253) (long : 1 ≤ length text) (p : (i : ℕ) → i < length text → IsPrinted (get_or text i 0)) (c : IsClear rest) where
  abbrev whole : List ℕ
  whole = n ∷ high ∷ low ∷ (text ++ rest)

  in_text : (i : ℕ) → i < length text → IsPrinted (get_or (text ++ rest) i 0)
  in_text i l = subst IsPrinted (sym (get_or_append_left text rest 0 i l)) (p i l)

  past_text : (i j : ℕ) → i ≡ length text + j → get_or (text ++ rest) i 0 ≡ get_or rest j 0
  past_text i j e = let back : i - length text ≡ j = omega (arith, e) in get_or-append_right text rest (length text) i 0 refl (omega (arith, e)) ∙ ap (λ k. get_or rest k 0) back

  shifted : (i k : ℕ) → get_or whole (suc (suc (suc i)) + k) 0 ≡ get_or (text ++ rest) (i + k) 0
  shifted i k = let e : suc (suc (suc i)) + k ≡ suc (suc (suc (i + k))) = omega arith in ap (λ q. get_or whole q 0) e

  entry_one : (q : ℕ) → 1 ≤ get_or whole q 0 → get_or whole q 0 ≤ 2 → get_or whole (q + 1) 0 ≡ 0 → get_or whole (q + 2) 0 ≡ 0 → ⊥
  entry_one zero e m a b = omega (arith, a, b, some)
  entry_one (suc zero) e m a b = let t = in_text 0 (omega (arith, long)) in omega (arith, b, t)
  entry_one (suc (suc zero)) e m a b = let t = in_text 0 (omega (arith, long)) in omega (arith, a, t)
  entry_one (suc (suc (suc i))) e m a b =
      elim (cases_lt i (length text)) [
        | inl l ↦ (let t = in_text i l in omega (arith, m, t))
        | inr g ↦
            let j = i - length text in
            let first = past_text i j (omega (arith, g)) in
            let next : get_or rest (j + 1) 0 ≡ 0 = sym (past_text (i + 1) (j + 1) (omega (arith, g))) ∙ (sym (shifted i 1) ∙ a) in
            let last : get_or rest (j + 2) 0 ≡ 0 = sym (past_text (i + 2) (j + 2) (omega (arith, g))) ∙ (sym (shifted i 2) ∙ b) in
            c.one j (omega (arith, first, e)) (omega (arith, first, m)) next last
      ]

  entry_other : (q : ℕ) → 253 ≤ get_or whole q 0 → get_or whole (q + 1) 0 ≡ 255 → ⊥
  entry_other zero e a = omega (arith, e, small)
  entry_other (suc zero) e a = omega (arith, e, few)
  entry_other (suc (suc zero)) e a = let t = in_text 0 (omega (arith, long)) in omega (arith, a, t)
  entry_other (suc (suc (suc i))) e a =
      elim (cases_lt i (length text)) [
        | inl l ↦ (let t = in_text i l in omega (arith, e, t))
        | inr g ↦
            let j = i - length text in
            let first = past_text i j (omega (arith, g)) in
            let next : get_or rest (j + 1) 0 ≡ 255 = sym (past_text (i + 1) (j + 1) (omega (arith, g))) ∙ (sym (shifted i 1) ∙ a) in
            c.other j (omega (arith, first, e)) next
      ]

  entry_clear : IsClear whole
  entry_clear = record { one = entry_one; other = entry_other }

pair_clear : (e : List ℕ × List ℕ) (rest : List ℕ) → Fits e → IsClear rest → IsClear (pair_text e ++ rest)
unfolding pair_text bytes16
pair_clear e rest f c =
    let k = text_limit 64 e.0 f.key in
    let v = text_limit (value_limit 2) e.1 f.value in
    let some_key = text_some 64 e.0 f.key in
    let some_value = text_some (value_limit 2) e.1 f.value in
    let n = length-append e.0 e.1 in
    entry_clear (length e.0) (get_or (bytes16 (length e.1)) 0 0) (get_or (bytes16 (length e.1)) 1 0) (e.0 ++ e.1) rest k (omega (arith, v, some_value)) (omega (arith, v)) (omega (arith, n, some_key))
    (both_printed e.0 e.1 (text_printed 64 e.0 f.key) (text_printed (value_limit 2) e.1 f.value)) c

pub pairs_clear : (m : kv.Map) → AllByRecursion Fits m → IsClear (flat_map pair_text m)
pairs_clear [] h = none_clear
pairs_clear (e ∷ es) h = pair_clear e (flat_map pair_text es) h.0 (pairs_clear es h.1)

-- after the two bytes of its count
pub keys_at : (m : kv.Map) (q : ℕ) → 2 ≤ q → get_or (kv_text m) q 0 ≡ get_or (flat_map pair_text m) (q - 2) 0
unfolding table_text bytes16
keys_at m zero l = absurd (omega (arith, l))
keys_at m (suc zero) l = absurd (omega (arith, l))
keys_at m (suc (suc q)) l = let e : q ≡ suc (suc q) - 2 = omega arith in ap (λ k. get_or (flat_map pair_text m) k 0) e

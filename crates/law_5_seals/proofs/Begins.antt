-- Sessions one after another in a text: which of them a byte is of, and which one ends where another begins.
use Rattle.std.proofs.Common.{ℕ, ◌+◌, ◌-◌, ◌<◌, ◌≤◌, ◌≡◌, inl, inr, arith, refl, ap, ◌∙◌, List, [], ◌∷◌, ◌++◌, length, get_or}
use Rattle.std.specs.List.{AllByRecursion, flat_map}
use Rattle.std.proofs.lemmas.Bool.{cases_lt}
use Rattle.std.proofs.lemmas.List.{get_or-append_right, get_or_append_left, length-append}
use Rattle.vr_state.specs.Sessions.{Map}
use Rattle.vr_state.specs.SessionTexts.{session_text}

behind_first : (xs ys : List ℕ) (k : ℕ) → get_or (xs ++ ys) (length xs + k) 0 ≡ get_or ys k 0
behind_first xs ys k = let back : length xs + k - length xs ≡ k = omega arith in get_or-append_right xs ys (length xs) (length xs + k) 0 refl (omega arith) ∙ ap (λ n. get_or ys n 0) back

-- of texts of which Q holds, in a text t
module _ (Q : List ℕ → Type 0) (t : List ℕ) where
  pub record Holds (s : ℕ) (x : List ℕ) : Type 0 where
    pub is : Q x
    pub byte : (k : ℕ) → k < length x → get_or t (s + k) 0 ≡ get_or x k 0

  -- one after another stands up to a place
  pub data Begins : ℕ → Type 0 where
    first : Begins 0
    next : (s : ℕ) (x : List ℕ) → Begins s → Holds s x → Begins (s + length x)

  -- one that stands over a place
  pub record Covers (p : ℕ) : Type 0 where
    pub start : ℕ
    pub text : List ℕ
    pub begins : Begins start
    pub holds : Holds start text
    pub from : start ≤ p
    pub to : p < start + length text

  -- one that ends at a place
  pub record Prior (p : ℕ) : Type 0 where
    pub start : ℕ
    pub text : List ℕ
    pub begins : Begins start
    pub holds : Holds start text
    pub ends : start + length text ≡ p

  pub prior : (p : ℕ) → Begins p → 0 < p → Prior p
  prior _ first l = absurd (omega (arith, l))
  prior _ (next s x b h) l = record { start = s; text = x; begins = b; holds = h; ends = refl }

  pub covers : (m : Map) → AllByRecursion (λ e. Q (session_text e)) m → (s p : ℕ) → Begins s → ((k : ℕ) → get_or t (s + k) 0 ≡ get_or (flat_map session_text m) k 0) → s ≤ p → p < s + length (flat_map session_text m) → Covers p
  covers [] h s p b same l r = absurd (omega (arith, l, r))
  covers (e ∷ es) h s p b same l r =
      let x = session_text e in
      let rest = flat_map session_text es in
      let long = length-append x rest in
      let here : Holds s x = record { is = h.0; byte = λ k q. same k ∙ get_or_append_left x rest 0 k q } in
      elim (cases_lt p (s + length x)) [
        | inl within ↦ record { start = s; text = x; begins = b; holds = here; from = l; to = within }
        | inr past ↦ covers es h.1 (s + length x) p (next s x b here) (λ k. (let z : s + length x + k ≡ s + (length x + k) = omega arith in ap (λ n. get_or t n 0) z ∙ (same (length x + k) ∙ behind_first x rest k))) past (omega (arith, r, long))
      ]

-- No header of an entry with an op that a log may come to stands in a text of sessions that come of entries, and none stands there with its bits turned.
use Rattle.std.proofs.Common.{ℕ, ◌+◌, ◌-◌, ◌<◌, ◌≤◌, ◌≡◌, inl, inr, arith, sym, ap, ◌∙◌, subst, List, length, get_or}
use Rattle.std.specs.List.{AllByRecursion, flat_map}
use Rattle.std.proofs.lemmas.Bool.{cases_lt}
use Rattle.std.proofs.lemmas.List.{get_or_past}
use Rattle.vr_state.specs.Sessions.{Map}
use Rattle.vr_state.specs.SessionTexts.{session_text}
use Rattle.law_5_seals.proofs.Begins.{Begins, Covers, covers, first, prior}
use Rattle.law_5_seals.proofs.Keys.{IsPrinted}
use Rattle.law_5_seals.proofs.Marks.{IsLow}

-- a session's text by its form: client, request and op in twenty bytes, and the outcome after them
pub record IsForm (x : List ℕ) : Type 0 where
  pub long : 21 ≤ length x
  pub high : get_or x 12 0 ≤ 64
  pub kind : 1 ≤ get_or x 20 0
  pub small : get_or x 20 0 ≤ 5
  pub size : get_or x 21 0 < 255
  pub some : 22 ≤ length x → 24 ≤ length x
  pub printed : (k : ℕ) → 23 ≤ k → k < length x → IsPrinted (get_or x k 0)

-- that of a session that comes of an entry
pub record IsComeForm (x : List ℕ) : Type 0 where
  pub form : IsForm x
  pub op : ((i : ℕ) → i < 8 → get_or x (12 + i) 0 ≡ 0) → ⊥
  pub number : ((i : ℕ) → i < 4 → get_or x (8 + i) 0 ≡ 0) → get_or x 20 0 ≡ 1

-- its last byte is not zero, and is that of a value or of the outcome's kind
last_some : (x : List ℕ) → IsForm x → 1 ≤ get_or x (length x - 1) 0
last_some x f =
    elim (cases_lt 21 (length x)) [
      | inl more ↦ (let n = f.some (omega (arith, more)) in let p = f.printed (length x - 1) (omega (arith, n)) (omega (arith, n)) in omega (arith, p))
      | inr less ↦ (let n = f.long in let e : length x - 1 ≡ 20 = omega (arith, n, less) in let z = ap (λ k. get_or x k 0) e in let k = f.kind in omega (arith, z, k))
    ]

-- ---- turned

pub no_turned : (m : Map) → AllByRecursion (λ e. IsForm (session_text e)) m → (p : ℕ) → ((i : ℕ) → i < 17 → get_or (flat_map session_text m) (p + (111 + i)) 0 ≡ 255) → ⊥
no_turned m all p ones =
    let t = flat_map session_text m in
    let there : p + 111 < length t = elim (cases_lt (p + 111) (length t)) [ inl l ↦ l | inr past ↦ (let e = ones 0 (omega arith) in let z = get_or_past t (p + (111 + 0)) 0 (omega (arith, past)) in absurd (omega (arith, e, z))) ] in
    let c = covers IsForm t m all 0 (p + 111) first (λ k. (let z : 0 + k ≡ k = omega arith in ap (λ n. get_or t n 0) z)) (omega arith) (omega (arith, there)) in
    let f = c.holds.is in
    let from = c.from in
    let to = c.to in
    let k = p + 111 - c.start in
    let at : (j i : ℕ) → j < length c.text → i < 17 → j ≡ k + i → get_or c.text j 0 ≡ 255 =
    λ j i l q e. (let z : c.start + j ≡ p + (111 + i) = omega (arith, e, from) in sym (c.holds.byte j l) ∙ (ap (λ n. get_or t n 0) z ∙ ones i q)) in
    elim (cases_lt k 13) [
      | inl low ↦ (let n = f.long in let e = at 12 (12 - k) (omega (arith, n)) (omega arith) (omega (arith, low)) in let h = f.high in omega (arith, e, h))
      | inr high ↦ elim (cases_lt k 21) [
        | inl low ↦ (let n = f.long in let e = at 20 (20 - k) (omega (arith, n)) (omega (arith, high)) (omega (arith, low)) in let h = f.small in omega (arith, e, h))
        | inr more ↦
            let n = f.some (omega (arith, more, to, from)) in
            elim (cases_lt k 22) [
              | inl low ↦ (let e = at 21 0 (omega (arith, n)) (omega arith) (omega (arith, low, more)) in let h = f.size in omega (arith, e, h))
              | inr most ↦ elim (cases_lt k 23) [
                | inl low ↦ (let e = at 23 1 (omega (arith, n)) (omega arith) (omega (arith, low, most)) in let h = f.printed 23 (omega arith) (omega (arith, n)) in omega (arith, e, h))
                | inr text ↦ (let e = at k 0 (omega (arith, to, from)) (omega arith) (omega arith) in let h = f.printed k text (omega (arith, to, from)) in omega (arith, e, h))
              ]
            ]
      ]
    ]

-- ---- as it is

-- what stands where, from a place on, under the header of an entry
pub record IsFront (t : List ℕ) (p : ℕ) : Type 0 where
  pub low : IsLow (λ k. get_or t (p + k) 0)
  pub commit : (i : ℕ) → i < 8 → get_or t (p + (96 + i)) 0 ≡ 0
  pub command : get_or t (p + 108) 0 ≡ 3
  pub replica : get_or t (p + 109) 0 ≡ 0
  pub version : (1 ≤ get_or t (p + 110) 0) × (get_or t (p + 110) 0 ≤ 2)
  pub zeros : (i : ℕ) → i < 17 → get_or t (p + (111 + i)) 0 ≡ 0

module _ (t : List ℕ) (p : ℕ) (f : IsFront t p) where
  -- the byte before a session
  before : (n : ℕ) → Begins IsComeForm t n → 0 < n → 1 ≤ get_or t (n - 1) 0
  before n b l =
      let y = prior IsComeForm t n b l in
      let form = y.holds.is.form in
      let long = form.long in
      let ends = y.ends in
      let z : y.start + (length y.text - 1) ≡ n - 1 = omega (arith, ends, long) in
      let e = y.holds.byte (length y.text - 1) (omega (arith, long)) in
      let same = ap (λ k. get_or t k 0) z in
      let some = last_some y.text form in
      omega (arith, e, same, some)

  -- a session whose outcome's kind is the version: the one before it ends where the op does
  kind_of_zero : ((i : ℕ) → i < 8 → get_or t (p + (64 + i)) 0 ≡ 0) → get_or t (p + 88) 0 < 32 → Begins IsComeForm t (p + 90) → ⊥
  kind_of_zero cluster op b =
      let y = prior IsComeForm t (p + 90) b (omega arith) in
      let form = y.holds.is.form in
      let long = form.long in
      let ends = y.ends in
      elim (cases_lt 24 (length y.text)) [
        | inl more ↦
            let z : y.start + (length y.text - 2) ≡ p + 88 = omega (arith, ends, more) in
            let e = y.holds.byte (length y.text - 2) (omega (arith, more)) in
            let same = ap (λ k. get_or t k 0) z in
            let h = form.printed (length y.text - 2) (omega (arith, more)) (omega (arith, more)) in
            omega (arith, e, same, h, op)
        | inr less ↦
            elim (cases_lt 21 (length y.text)) [
              | inl more ↦
                  let n = form.some (omega (arith, more)) in
                  let z : y.start - 1 ≡ p + (64 + 1) = omega (arith, ends, less, n) in
                  let e = ap (λ k. get_or t k 0) z ∙ cluster 1 (omega arith) in
                  let some = before y.start y.begins (omega (arith, ends, less, n)) in
                  omega (arith, e, some)
              | inr few ↦
                  let z : y.start - 1 ≡ p + (64 + 4) = omega (arith, ends, few, long) in
                  let e = ap (λ k. get_or t k 0) z ∙ cluster 4 (omega arith) in
                  let some = before y.start y.begins (omega (arith, ends, few, long)) in
                  omega (arith, e, some)
            ]
      ]

  kind_there : Begins IsComeForm t (p + 90) → ⊥
  kind_there b =
      elim f.low [
        | inl z ↦ kind_of_zero z.0 z.1 b
        | inr z ↦ (let s : p + 90 - 1 ≡ p + 89 = omega arith in let some = before (p + 90) b (omega arith) in let e = ap (λ k. get_or t k 0) s ∙ z in omega (arith, e, some))
      ]

  -- one that begins at the replica: the one before it has the command as the kind of its outcome, and zeros as its request's number
  replica_there : Begins IsComeForm t (p + 109) → ⊥
  replica_there b =
      let y = prior IsComeForm t (p + 109) b (omega arith) in
      let form = y.holds.is.form in
      let long = form.long in
      let ends = y.ends in
      let command = f.command in
      elim (cases_lt 21 (length y.text)) [
        | inl more ↦
            let n = form.some (omega (arith, more)) in
            let z : y.start + (length y.text - 1) ≡ p + 108 = omega (arith, ends, n) in
            let e = y.holds.byte (length y.text - 1) (omega (arith, n)) in
            let same = ap (λ k. get_or t k 0) z in
            let h = form.printed (length y.text - 1) (omega (arith, n)) (omega (arith, n)) in
            omega (arith, e, same, h, command)
        | inr few ↦
            let z : y.start + 20 ≡ p + 108 = omega (arith, ends, few, long) in
            let e = y.holds.byte 20 (omega (arith, long)) in
            let same = ap (λ k. get_or t k 0) z in
            let one = y.holds.is.number (λ i l. (let w : y.start + (8 + i) ≡ p + (96 + i) = omega (arith, ends, few, long) in sym (y.holds.byte (8 + i) (omega (arith, l, long))) ∙ (ap (λ k. get_or t k 0) w ∙ f.commit i (omega (arith, l))))) in
            omega (arith, e, same, one, command)
      ]

  version_there : Covers IsComeForm t (p + 110) → ⊥
  version_there c =
      let form = c.holds.is.form in
      let long = form.long in
      let from = c.from in
      let to = c.to in
      let k = p + 110 - c.start in
      let version = f.version in
      let at : (j i : ℕ) → j < length c.text → i < 17 → j ≡ k + (i + 1) → get_or c.text j 0 ≡ 0 =
      λ j i l q e. (let z : c.start + j ≡ p + (111 + i) = omega (arith, e, from) in sym (c.holds.byte j l) ∙ (ap (λ n. get_or t n 0) z ∙ f.zeros i q)) in
      elim (cases_lt k 2) [
        | inl low ↦ elim (cases_lt k 1) [
          | inl none ↦
              let s : c.start ≡ p + 110 = omega (arith, none, from) in
              let some = before c.start c.begins (omega (arith, s)) in
              let z : c.start - 1 ≡ p + 109 = omega (arith, s) in
              let e = ap (λ n. get_or t n 0) z in
              let zero = f.replica in
              omega (arith, e, zero, some)
          | inr one ↦ (let s : c.start ≡ p + 109 = omega (arith, one, low, from) in replica_there (subst (Begins IsComeForm t) s c.begins))
        ]
        | inr two ↦ elim (cases_lt k 12) [
          | inl low ↦ c.holds.is.op (λ i l. at (12 + i) (11 + i - k) (omega (arith, l, long)) (omega (arith, l, two)) (omega (arith, low)))
          | inr op ↦ elim (cases_lt k 20) [
            | inl low ↦ (let e = at 20 (19 - k) (omega (arith, long)) (omega (arith, op)) (omega (arith, low)) in let h = form.kind in omega (arith, e, h))
            | inr kind ↦ elim (cases_lt k 21) [
              | inl low ↦ (let s : c.start ≡ p + 90 = omega (arith, kind, low, from) in kind_there (subst (Begins IsComeForm t) s c.begins))
              | inr size ↦
                  let n = form.some (omega (arith, size, to, from)) in
                  elim (cases_lt k 23) [
                    | inl low ↦ (let e = at 23 (22 - k) (omega (arith, n)) (omega (arith, size)) (omega (arith, low)) in let h = form.printed 23 (omega arith) (omega (arith, n)) in omega (arith, e, h))
                    | inr text ↦
                        let z : c.start + k ≡ p + 110 = omega (arith, from) in
                        let e = c.holds.byte k (omega (arith, to, from)) in
                        let same = ap (λ n. get_or t n 0) z in
                        let h = form.printed k text (omega (arith, to, from)) in
                        omega (arith, e, same, version, h)
                  ]
            ]
          ]
        ]
      ]

pub no_front : (m : Map) → AllByRecursion (λ e. IsComeForm (session_text e)) m → (p : ℕ) → IsFront (flat_map session_text m) p → ⊥
no_front m all p f =
    let t = flat_map session_text m in
    let version = f.version in
    let there : p + 110 < length t = elim (cases_lt (p + 110) (length t)) [ inl l ↦ l | inr past ↦ (let z = get_or_past t (p + 110) 0 past in absurd (omega (arith, version, z))) ] in
    version_there t p f (covers IsComeForm t m all 0 (p + 110) first (λ k. (let z : 0 + k ≡ k = omega arith in ap (λ n. get_or t n 0) z)) (omega arith) (omega (arith, there)))

-- What is true of each session stays so; that their ops are numbers of entries.
use Rattle.std.proofs.Common.{ℕ, zero, suc, ◌≤◌, ◌≡◌, List, [], ◌∷◌, ◌++◌, Option, Some, None, Result, Ok, Err, is_some, Bool, true, false, leb, ltb, cond, length, not, refl, subst}
use Rattle.std.specs.List.{AllByRecursion}
use Rattle.std.specs.Option.{option_map_or}
use Rattle.std.specs.Ordering.{nat_cmp, eq_by_cmp}
use Rattle.std.specs.Int.{w32, w64}
use Rattle.std.specs.declared.cmp.Ordering.TheVariants.{Less, Equal, Greater}
use Rattle.std.specs.FinMap.Entries.{by_order, where_key, find, is_sorted, put}
use Rattle.std.proofs.lemmas.Bool.{cond_both, leb-true}
use Rattle.vr_base.specs.Versions.{session_limit}
use Rattle.vr_state.specs.declared.fault.StateFault.{StateFault}
use Rattle.vr_state.specs.declared.fault.StateFault.TheVariants.{NotSorted, Torn}
use Rattle.vr_state.specs.Effects.{stored}
use Rattle.vr_state.specs.Finite.{without}
use Rattle.vr_state.specs.Front.{number_from}
use Rattle.vr_state.specs.Table.{count_from, counted, decoded, read_on}
use Rattle.vr_state.proofs.Fronts.{same_some}
use Rattle.vr_state.specs.declared.session.Session.{Session}
use Rattle.vr_state.specs.Sessions.{Map, Asked, Fits, HaveNumbers, IsSessions, applied, last_op, oldest, without_oldest}
use Rattle.vr_state.specs.SessionTexts.{numbers_from, outcome_from, session_from, sessions_decoded}
use Rattle.vr_state.proofs.Spelled.{and_then_some, chosen}

abbrev IsOfNumber : ℕ × Session → Type 0
IsOfNumber s = s.1.op ≤ last_op

-- what is true of each session, and of the one that is stored
module _ (P : Session → Type 0) where
  kept_put : (key : ℕ) (s : Session) (m : Map) → AllByRecursion (λ e. P e.1) m → P s → AllByRecursion (λ e. P e.1) (put nat_cmp key s m)
  kept_put key s [] h f = (f, tt)
  kept_put key s (e ∷ es) h f =
      elim (nat_cmp key e.0) as (λ o. AllByRecursion (λ e. P e.1) (by_order o ((key, s) ∷ e ∷ es) ((e.0, s) ∷ es) (e ∷ put nat_cmp key s es))) [
        | Less ↦ (f, h)
        | Equal ↦ (f, h.1)
        | Greater ↦ (h.0, kept_put key s es h.1 f)
      ]

  kept_where : (p : ℕ → Bool) (m : Map) → AllByRecursion (λ e. P e.1) m → AllByRecursion (λ e. P e.1) (where_key nat_cmp p m)
  kept_where p [] h = tt
  kept_where p (e ∷ es) h = cond_both (p e.0) (e ∷ where_key nat_cmp p es) (where_key nat_cmp p es) (AllByRecursion (λ e. P e.1)) (λ t. (h.0, kept_where p es h.1)) (λ f. kept_where p es h.1)

  kept_oldest : (m : Map) (o : Option (ℕ × ℕ)) → AllByRecursion (λ e. P e.1) m → AllByRecursion (λ e. P e.1) (option_map_or (λ d. without nat_cmp d.0 m) o m)
  kept_oldest m None h = h
  kept_oldest m (Some d) h = kept_where (λ x. not (eq_by_cmp nat_cmp d.0 x)) m h

  pub kept_applied : (m : Map) (a : Asked) → AllByRecursion (λ e. P e.1) m → P (stored a) → AllByRecursion (λ e. P e.1) (applied m a)
  unfolding applied without_oldest
  kept_applied m a h f =
      let there = put nat_cmp a.client (stored a) m in
      let instead = put nat_cmp a.client (stored a) (without_oldest m) in
      cond_both (ltb (length m) (session_limit a.version)) there (cond (is_some (find nat_cmp a.client m)) there instead) (AllByRecursion (λ e. P e.1))
      (λ t. kept_put a.client (stored a) m h f)
      (λ t. cond_both (is_some (find nat_cmp a.client m)) there instead (AllByRecursion (λ e. P e.1))
      (λ t. kept_put a.client (stored a) m h f)
      (λ t. kept_put a.client (stored a) (without_oldest m) (kept_oldest m (oldest m) h) f))

-- a stored request keeps them
pub numbers_applied : (m : Map) (a : Asked) → HaveNumbers m → a.op ≤ last_op → HaveNumbers (applied m a)
unfolding HaveNumbers
numbers_applied m a h f = kept_applied (λ s. s.op ≤ last_op) m a h f

numbers_fit : (m : Map) → AllByRecursion Fits m → HaveNumbers m
unfolding HaveNumbers
numbers_fit [] h = tt
numbers_fit (e ∷ es) h = (h.0.op, numbers_fit es h.1)

-- sessions have them
pub sessions_numbers : (m : Map) → IsSessions m → HaveNumbers m
sessions_numbers m held = numbers_fit m held.fit

-- ---- of any text

numbers_low : (bytes : List ℕ) (n : (ℕ × (ℕ × ℕ)) × List ℕ) → numbers_from bytes ≡ Some n → n.0.1.1 ≤ last_op
unfolding numbers_from
numbers_low bytes n is =
    let client = and_then_some _ (number_from w64 bytes) n is in
    let number = and_then_some _ (number_from w32 client.0.1) n client.2 in
    let op = and_then_some _ (number_from w64 number.0.1) n number.2 in
    let low = chosen (leb op.0.0 last_op) ((client.0.0, (number.0.0, op.0.0)), op.0.1) n op.2 in
    subst (λ (p : (ℕ × (ℕ × ℕ)) × List ℕ). p.0.1.1 ≤ last_op) low.1 (leb-true op.0.0 last_op low.0)

session_low : (bytes : List ℕ) (r : (ℕ × Session) × List ℕ) → session_from bytes ≡ Some r → r.0.1.op ≤ last_op
unfolding session_from
session_low bytes r is =
    let n = and_then_some _ (numbers_from bytes) r is in
    let o = and_then_some _ (outcome_from n.0.1) r n.2 in
    let made : (ℕ × Session) × List ℕ = ((n.0.0.0, record { number = n.0.0.1.0; op = n.0.0.1.1; outcome = o.0.0 }), o.0.1) in
    subst (λ (p : (ℕ × Session) × List ℕ). p.0.1.op ≤ last_op) (same_some made r o.2) (numbers_low bytes n.0 n.1)

one_more : (m : Map) (e : ℕ × Session) → AllByRecursion IsOfNumber m → e.1.op ≤ last_op → AllByRecursion IsOfNumber (m ++ e ∷ [])
one_more [] e h f = (f, tt)
one_more (x ∷ xs) e h f = (h.0, one_more xs e h.1 f)

read_numbers : (n : ℕ) (done : Map) (bytes : List ℕ) (m : Map) → AllByRecursion IsOfNumber done → read_on nat_cmp session_from n done bytes ≡ Ok m → AllByRecursion IsOfNumber m
unfolding read_on
read_numbers zero done [] m h e = let same : done ≡ m = cc in subst (AllByRecursion IsOfNumber) same h
read_numbers zero done (b ∷ rest) m h e = absurd cc
read_numbers (suc n) done bytes m h e =
    let next : (ℕ × Session) × List ℕ → Result Map StateFault = λ r. cond (is_sorted nat_cmp (done ++ r.0 ∷ [])) (read_on nat_cmp session_from n (done ++ r.0 ∷ []) r.1) (Err NotSorted) in
    elim (session_from bytes) as (λ o. session_from bytes ≡ o → option_map_or next o (Err Torn) ≡ Ok m → AllByRecursion IsOfNumber m) [
      | None ↦ λ i k. absurd cc
      | Some r ↦ λ i k. elim (is_sorted nat_cmp (done ++ r.0 ∷ [])) as (λ b. cond b (read_on nat_cmp session_from n (done ++ r.0 ∷ []) r.1) (Err NotSorted) ≡ Ok m → AllByRecursion IsOfNumber m) [
        | true ↦ λ l. read_numbers n (done ++ r.0 ∷ []) r.1 m (one_more done r.0 h (session_low bytes r i)) l
        | false ↦ λ l. absurd cc
      ] k
    ] refl e

-- sessions that were read from any text have them
pub decoded_numbers : (bytes : List ℕ) (m : Map) → sessions_decoded bytes ≡ Ok m → HaveNumbers m
unfolding decoded HaveNumbers
decoded_numbers bytes m e =
    elim (count_from (session_limit 2) bytes) as (λ o. counted nat_cmp session_from o ≡ Ok m → AllByRecursion IsOfNumber m) [
      | Ok r ↦ λ k. read_numbers r.0 [] r.1 m tt k
      | Err fault ↦ λ k. absurd cc
    ] e

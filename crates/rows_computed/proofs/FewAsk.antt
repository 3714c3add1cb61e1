-- How many client numbers are few.
use Rattle.std.proofs.Common.{ℕ, zero, suc, ◌<◌, ◌≤◌, ◌≡◌, inl, inr, arith, refl, sym, ap, subst, List, [], ◌∷◌, length}
use Rattle.vr_base.specs.Versions.{session_limit}
use Rattle.vr_msg.specs.declared.request.RequestFields.{RequestFields}
use Rattle.law_1_machine.specs.Basics.{In}
use Rattle.law_2_chains.proofs.StoredLists.{contains_in, in_contains}
use Rattle.law_9_answers.specs.History.{AskFew, Asks, HasAsked, Moment}
use Rattle.law_9_answers.proofs.Few.{AreApart, no_more}
use Rattle.rows_computed.specs.Few.{FewAsk, register, register_in}

abbrev numbers : ℕ → List ℕ
numbers zero = []
numbers (suc n) = n ∷ numbers n

are_many : (n : ℕ) → length (numbers n) ≡ n
are_many zero = refl
are_many (suc n) = ap suc (are_many n)

are_below : (n c : ℕ) → In c (numbers n) → c < n
are_below zero c i = absurd i
are_below (suc n) c (inl e) = omega (arith, e)
are_below (suc n) c (inr i) = let l = are_below n c i in omega (arith, l)

are_apart : (n : ℕ) → AreApart (numbers n)
are_apart zero = tt
are_apart (suc n) = ((λ i. let l = are_below n n i in absurd (omega (arith, l))), are_apart n)

-- ---- who asks

record IsOne (version n : ℕ) (q : RequestFields) : Type 0 where
  number : In q.client (numbers n)
  version_is : q.version ≡ version

asks_this : (by n : ℕ) (q p : RequestFields) → Asks by q ≡ Asks n p → q ≡ p
asks_this by n q p e = cc

is_one : (version n by : ℕ) (q : RequestFields) → In (Asks by q) (register version n) → IsOne version n q
unfolding register
is_one version zero by q i = absurd i
is_one version (suc n) by q (inl e) =
    let same = asks_this by n q (register_in version n) e in
    record { number = inl (ap (λ (p : RequestFields). p.client) same); version_is = ap (λ (p : RequestFields). p.version) same }
is_one version (suc n) by q (inr i) = let one = is_one version n by q i in record { number = inr one.number; version_is = one.version_is }

each_asks : (version n c : ℕ) → In c (numbers n) → In (Asks c (register_in version c)) (register version n)
unfolding register
each_asks version zero c i = absurd i
each_asks version (suc n) c (inl e) = inl (ap (λ (k : ℕ). Asks k (register_in version k)) e)
each_asks version (suc n) c (inr i) = inr (each_asks version n c i)

asked : (h : List Moment) (by : ℕ) (q : RequestFields) → In (Asks by q) h → HasAsked h q
asked h by q i = record { by = by; moment = in_contains (Asks by q) h i }

-- ---- few

are_few : (version n : ℕ) (h : List Moment) → n ≤ session_limit version → ((by : ℕ) (q : RequestFields) → In (Asks by q) h → IsOne version n q) → AskFew h
are_few version n h most all =
    let one : (q : RequestFields) → HasAsked h q → IsOne version n q = λ q a. all a.by q (contains_in (Asks a.by q) h a.moment) in
    record {
      clients = numbers n;
      theirs = λ q a. in_contains q.client (numbers n) (one q a).number;
      few = λ q a. subst (λ (v : ℕ). length (numbers n) ≤ session_limit v) (sym (one q a).version_is) (subst (λ (k : ℕ). k ≤ session_limit version) (sym (are_many n)) most);
    }

zero_among : (n : ℕ) → In 0 (numbers (suc n))
zero_among zero = inl refl
zero_among (suc n) = inr (zero_among n)

-- where one of them asks again
again : (n by : ℕ) (q : RequestFields) → In (Asks by q) (Asks n (register_in 1 0) ∷ register 1 32) → IsOne 1 32 q
again n by q (inl e) =
    let same = asks_this by n q (register_in 1 0) e in
    record { number = subst (λ (c : ℕ). In c (numbers 32)) (sym (ap (λ (p : RequestFields). p.client) same)) (zero_among 31); version_is = ap (λ (p : RequestFields). p.version) same }
again n by q (inr i) = is_one 1 32 by q i

-- ---- not so few

are_many_more : (h : List Moment) (n : ℕ) (q : RequestFields) → HasAsked h q → session_limit q.version < n
    → ((c : ℕ) → In c (numbers n) → (p : RequestFields) × HasAsked h p × (p.client ≡ c)) → AskFew h → ⊥
are_many_more h n q one below each few =
    let less = no_more (numbers n) few.clients (are_apart n) (λ c i. let x = each c i in subst (λ (k : ℕ). In k few.clients) x.2 (contains_in x.0.client few.clients (few.theirs x.0 x.1))) in
    let most = few.few q one in
    let many = are_many n in
    absurd (omega (arith, below, less, most, many))

registers : (version n c : ℕ) → In c (numbers n) → HasAsked (register version n) (register_in version c)
registers version n c i = asked (register version n) c (register_in version c) (each_asks version n c i)

each_of : (version n c : ℕ) → In c (numbers n) → (p : RequestFields) × HasAsked (register version n) p × (p.client ≡ c)
each_of version n c i = (register_in version c, registers version n c i, refl)

abbrev both : List Moment
both = Asks 32 (register_in 1 32) ∷ register 2 32

each_of_both : (c : ℕ) → In c (numbers 33) → (p : RequestFields) × HasAsked both p × (p.client ≡ c)
each_of_both c (inl e) = (register_in 1 32, asked both 32 (register_in 1 32) (inl refl), sym e)
each_of_both c (inr i) = (register_in 2 c, asked both c (register_in 2 c) (inr (each_asks 2 32 c i)), refl)

pub few_ask : FewAsk
few_ask = record {
  in_1 = are_few 1 32 (register 1 32) (omega arith) (is_one 1 32);
  again = are_few 1 32 (Asks 32 (register_in 1 0) ∷ register 1 32) (omega arith) (again 32);
  more_in_1 = are_many_more (register 1 33) 33 (register_in 1 0) (registers 1 33 0 (zero_among 32)) (omega arith) (each_of 1 33);
  in_2 = are_few 2 64 (register 2 64) (omega arith) (is_one 2 64);
  more_in_2 = are_many_more (register 2 65) 65 (register_in 2 0) (registers 2 65 0 (zero_among 64)) (omega arith) (each_of 2 65);
  more_in_both = are_many_more both 33 (register_in 1 32) (asked both 32 (register_in 1 32) (inl refl)) (omega arith) each_of_both;
}

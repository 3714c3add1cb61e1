-- In one session each number is fresh at most once.
use Rattle.std.proofs.Common.{◌≡◌, ◌≢◌, ℕ, ◌+◌, ◌<◌, ◌≤◌, ◌⊎◌, inl, inr, List, [], ◌∷◌, ◌++◌, Option, Some, None, MatchOption, Bool, true, false, ◌&&◌, ◌||◌, eqb, ltb, length, cond, nat_lt, is_some, fold, refl, sym, ◌∙◌, ap, subst, arith}
use Rattle.std.specs.Option.{option_map_or}
use Rattle.std.specs.Ordering.{nat_cmp}
use Rattle.std.proofs.lemmas.Bool.{eqb-true, eq-eqb, and_from, or_left, true≢false, cases_eq}
use Rattle.std.proofs.lemmas.List.Sums.{fold-append}
use Rattle.std.specs.FinMap.Entries.{find, put}
use Rattle.vr_base.specs.Versions.{session_limit}
use Rattle.vr_state.specs.Finite.{without}
use Rattle.vr_state.specs.declared.session.Session.{Session}
use Rattle.vr_state.specs.declared.session.SessionAnswer.TheVariants.{Fresh, Repeat, Old, Gap, Evicted}
use Rattle.vr_state.specs.Asks.{is_fresh, fresh_at, asked, sessions_after, begins_session, AtMostOnce}
use Rattle.vr_state.specs.Effects.{stored}
use Rattle.vr_state.specs.Sessions.{Map, Asked, judged, checked, oldest, without_oldest, applied}
use Rattle.vr_state.proofs.SessionSteps.{find_put_own, find_put_other, find_without_own, find_without_other}

-- one request more is one step more
pub sessions_after_more : (before : List Asked) (a : Asked) → sessions_after (before ++ a ∷ []) ≡ asked (sessions_after before) a
sessions_after_more before a = fold-append asked [] before (a ∷ [])

-- a fresh request is applied
pub asked_fresh : (m : Map) (a : Asked) → checked m a.client a.request ≡ Fresh → asked m a ≡ applied m a
unfolding asked
asked_fresh m a fresh = ap (λ c. cond (is_fresh c) (applied m a) m) fresh

-- a fresh request in a session is the next
fresh_is_next : (s : Session) (request : ℕ) → is_fresh (judged request s) ≡ true → request ≡ s.number + 1
fresh_is_next s request fresh =
    let by : (same lower next : Bool) → eqb request (s.number + 1) ≡ next → is_fresh (cond same (Repeat s.outcome s.op) (cond lower Old (cond next Fresh Gap))) ≡ true → request ≡ s.number + 1 = elim [
      | true ↦ λ lower next e h. absurd (true≢false (sym h))
      | false ↦ elim [
        | true ↦ λ next e h. absurd (true≢false (sym h))
        | false ↦ elim [
          | true ↦ λ e h. eqb-true request (s.number + 1) e
          | false ↦ λ e h. absurd (true≢false (sym h))
        ]
      ]
    ] in
    by (eqb request s.number) (ltb request s.number) (eqb request (s.number + 1)) refl fresh

-- without a session a fresh request is a register
fresh_is_first : (request : ℕ) → is_fresh (cond (eqb request 0) Fresh Evicted) ≡ true → eqb request 0 ≡ true
fresh_is_first request =
    let by : (b : Bool) → is_fresh (cond b Fresh Evicted) ≡ true → b ≡ true = elim [ true ↦ λ h. refl | false ↦ λ h. h ] in
    by (eqb request 0)

-- the client's session, if there is one, has come at least as far as this number
HasCome : ℕ → ℕ → Map → Type 0
HasCome client number m = MatchOption (find nat_cmp client m) (Unit {0}) (λ s. number ≤ s.number)

come_same : (client number : ℕ) (m n : Map) → find nat_cmp client n ≡ find nat_cmp client m → HasCome client number m → HasCome client number n
unfolding HasCome
come_same client number m n same h = subst (λ o. MatchOption o (Unit {0}) (λ s. number ≤ s.number)) (sym same) h

come_none : (client number : ℕ) (m : Map) → find nat_cmp client m ≡ None → HasCome client number m
unfolding HasCome
come_none client number m none = subst (λ o. MatchOption o (Unit {0}) (λ s. number ≤ s.number)) (sym none) tt

come_some : (client number : ℕ) (m : Map) (s : Session) → find nat_cmp client m ≡ Some s → number ≤ s.number → HasCome client number m
unfolding HasCome
come_some client number m s is h = subst (λ o. MatchOption o (Unit {0}) (λ s. number ≤ s.number)) (sym is) h

-- what is applied is put over sessions of which one may have given way
record Over (m : Map) (a : Asked) : Type 0 where
  rest : Map
  is : applied m a ≡ put nat_cmp a.client (stored a) rest
  others : (q : ℕ) → (find nat_cmp q rest ≡ find nat_cmp q m) ⊎ (find nat_cmp q rest ≡ None)

given_way : (m : Map) (q : ℕ) → (find nat_cmp q (without_oldest m) ≡ find nat_cmp q m) ⊎ (find nat_cmp q (without_oldest m) ≡ None)
unfolding without_oldest
given_way m q =
    let by : (o : Option (ℕ × ℕ)) → (find nat_cmp q (option_map_or (λ d. without nat_cmp d.0 m) o m) ≡ find nat_cmp q m) ⊎ (find nat_cmp q (option_map_or (λ d. without nat_cmp d.0 m) o m) ≡ None) = elim [
      | None ↦ inl refl
      | Some d ↦ elim (cases_eq q d.0) [
        | inl same ↦ inr (ap (λ k. find nat_cmp k (without nat_cmp d.0 m)) same ∙ find_without_own m d.0)
        | inr apart ↦ inl (find_without_other m d.0 q apart)
      ]
    ] in
    by (oldest m)

over : (m : Map) (a : Asked) → Over m a
unfolding applied
over m a =
    let with = put nat_cmp a.client (stored a) in
    let by : (room there : Bool) → nat_lt (length m) (session_limit a.version) ≡ room → is_some (find nat_cmp a.client m) ≡ there → Over m a = elim [
      | true ↦ λ there r t. record { rest = m; is = ap (λ b. cond b (with m) (cond (is_some (find nat_cmp a.client m)) (with m) (with (without_oldest m)))) r; others = λ q. inl refl }
      | false ↦ elim [
        | true ↦ λ r t. record { rest = m; is = rw (r, t) refl; others = λ q. inl refl }
        | false ↦ λ r t. record { rest = without_oldest m; is = rw (r, t) refl; others = given_way m }
      ]
    ] in
    by (nat_lt (length m) (session_limit a.version)) (is_some (find nat_cmp a.client m)) refl refl

own_after : (m : Map) (a : Asked) → find nat_cmp a.client (applied m a) ≡ Some (stored a)
own_after m a = let o = over m a in ap (find nat_cmp a.client) o.is ∙ find_put_own o.rest a.client (stored a)

come_over : (client number : ℕ) (m : Map) (a : Asked) → client ≢ a.client → HasCome client number m → HasCome client number (applied m a)
come_over client number m a apart h =
    let o = over m a in
    let same : find nat_cmp client (applied m a) ≡ find nat_cmp client o.rest = ap (find nat_cmp client) o.is ∙ find_put_other o.rest a.client (stored a) client apart in
    elim (o.others client) [
      | inl stays ↦ come_same client number m (applied m a) (same ∙ stays) h
      | inr gone ↦ come_none client number (applied m a) (same ∙ gone)
    ]

-- the request of a session that has come so far has a number above
fresh_above : (client number request : ℕ) (m : Map) → HasCome client number m → is_fresh (checked m client request) ≡ true → (number < request) ⊎ ((find nat_cmp client m ≡ None) × (eqb request 0 ≡ true))
unfolding HasCome checked
fresh_above client number request m h fresh =
    let by : (o : Option Session) → find nat_cmp client m ≡ o → MatchOption o (Unit {0}) (λ s. number ≤ s.number) → is_fresh (option_map_or (judged request) o (cond (eqb request 0) Fresh Evicted)) ≡ true → (number < request) ⊎ ((find nat_cmp client m ≡ None) × (eqb request 0 ≡ true)) = elim [
      | None ↦ λ is come f. inr (is, fresh_is_first request f)
      | Some s ↦ λ is come f. inl (let next = fresh_is_next s request f in omega arith)
    ] in
    by (find nat_cmp client m) refl h fresh

begins : Map → Asked → ℕ → Bool
begins m a client = fresh_at m a && (eqb a.client client && eqb a.request 0)

-- a request that begins no session of the client leaves it at least where it was
come_on : (client number : ℕ) (m : Map) (a : Asked) → HasCome client number m → begins m a client ≡ false → HasCome client number (asked m a)
unfolding asked begins
come_on client number m a h none =
    let fresh_case : fresh_at m a ≡ true → HasCome client number (applied m a) = λ fresh. elim (cases_eq a.client client) [
      | inl same ↦
          let is_fresh_here : is_fresh (checked m client a.request) ≡ true = ap (λ c. is_fresh (checked m c a.request)) (sym same) ∙ fresh in
          elim (fresh_above client number a.request m h is_fresh_here) [
            | inl above ↦ come_some client number (applied m a) (stored a) (ap (λ c. find nat_cmp c (applied m a)) (sym same) ∙ own_after m a) (omega arith)
            | inr first ↦ absurd (true≢false (sym (and_from (fresh_at m a) (eqb a.client client && eqb a.request 0) fresh (and_from (eqb a.client client) (eqb a.request 0) (eq-eqb a.client client same) first.1)) ∙ none))
          ]
      | inr apart ↦ come_over client number m a (λ e. apart (sym e)) h
    ] in
    let by : (b : Bool) → fresh_at m a ≡ b → HasCome client number (cond b (applied m a) m) = elim [ true ↦ fresh_case | false ↦ λ e. h ] in
    by (fresh_at m a) refl

-- a second fresh request with this number comes in another session
later : (client number : ℕ) (m : Map) (between : List Asked) (b : Asked) → HasCome client number m → b.client ≡ client → b.request ≡ number
    → fresh_at (fold asked m between) b ≡ true → begins_session client m (between ++ b ∷ []) ≡ true
unfolding begins_session begins
later client number m [] b h own same fresh =
    let here : is_fresh (checked m client b.request) ≡ true = ap (λ c. is_fresh (checked m c b.request)) (sym own) ∙ fresh in
    elim (fresh_above client number b.request m h here) [
      | inl above ↦ absurd (omega arith)
      | inr first ↦ or_left (begins m b client) (begins_session client (asked m b) []) (and_from (fresh_at m b) (eqb b.client client && eqb b.request 0) fresh (and_from (eqb b.client client) (eqb b.request 0) (eq-eqb b.client client own) first.1))
    ]
later client number m (a ∷ between) b h own same fresh =
    let rest : begins m a client ≡ false → begins_session client (asked m a) (between ++ b ∷ []) ≡ true = λ none. later client number (asked m a) between b (come_on client number m a h none) own same fresh in
    let by : (t : Bool) → begins m a client ≡ t → (t || begins_session client (asked m a) (between ++ b ∷ [])) ≡ true = elim [ true ↦ λ e. refl | false ↦ rest ] in
    by (begins m a client) refl

applied_first : (m : Map) (a : Asked) → fresh_at m a ≡ true → asked m a ≡ applied m a
unfolding asked
applied_first m a fresh = ap (λ t. cond t (applied m a) m) fresh

pub at_most_once : AtMostOnce
at_most_once before between a b client request first second =
    let m = sessions_after before in
    let is_applied : asked m a ≡ applied m a = applied_first m a first in
    let start : HasCome a.client a.request (asked m a) = subst (HasCome a.client a.request) (sym is_applied) (come_some a.client a.request (applied m a) (stored a) (own_after m a) (omega arith)) in
    let all : sessions_after (before ++ (a ∷ between)) ≡ fold asked (asked m a) between = fold-append asked [] before (a ∷ between) in
    subst (λ n. begins_session a.client n (between ++ b ∷ []) ≡ true) (sym (sessions_after_more before a))
    (later a.client a.request (asked m a) between b start (sym client) (sym request) (ap (λ n. fresh_at n b) (sym all) ∙ second))

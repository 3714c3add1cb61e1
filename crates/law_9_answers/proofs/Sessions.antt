-- A client's request that isn't its first is fresh in a session that began before: so where no client begins a second session, no number is
-- executed twice.
use Rattle.std.proofs.Common.{ℕ, zero, suc, ◌-◌, ◌<◌, arith, take, ◌≡◌, ◌≢◌, ◌∙◌, ◌⊎◌, inl, inr, refl, sym, ap, subst, Bool, true, false, ◌&&◌, ◌||◌, cond, eqb, nat_lt, is_some, fold, List, [], ◌∷◌, ◌++◌, length, Option, Some, None}
use Rattle.std.specs.Prelude.{IsTrue, slice_get}
use Rattle.std.specs.Option.{option_map_or}
use Rattle.std.specs.Ordering.{nat_cmp}
use Rattle.std.proofs.lemmas.Bool.{and_from, cases_eq, cases_lt, eq-eqb, or_left, or_right, true≢false}
use Rattle.std.proofs.lemmas.List.{append_assoc}
use Rattle.vr_base.specs.Versions.{session_limit}
use Rattle.vr_state.specs.Folds as folds
use Rattle.vr_state.specs.Folds.{answered, applied, begins_session, check, empty, executed, fresh_at, outcome_of, state_after}
use Rattle.vr_state.specs.declared.session.SessionAnswer.{SessionAnswer}
use Rattle.vr_state.specs.declared.session.SessionAnswer.TheVariants as answer
use Rattle.vr_state.specs.Sessions as sess
use Rattle.vr_state.specs.Sessions.{Map, checked, judged, oldest, without_oldest}
use Rattle.vr_state.specs.declared.session.Session.{Session}
use Rattle.vr_state.specs.declared.state.State.{State}
use Rattle.vr_state.proofs.SessionSteps.{find_put_other, find_without_other, find_without_own}
use Rattle.vr_header.specs.Made.{Whole}
use Rattle.vr_state.specs.Asks.{is_fresh}
use Rattle.std.specs.FinMap.Entries.{find, put}
use Rattle.vr_state.specs.Finite.{without}
use Rattle.vr_msg.specs.declared.reply.Answered.{Answered}
use Rattle.vr_msg.specs.declared.request.RequestFields.{RequestFields}
use Rattle.law_6_one_log.specs.Outputs.{IsOnceInSession}
use Rattle.law_9_asked.specs.Asked.{IsExecuted}
use Rattle.law_9_answers.specs.History.{HasOneSessionEach}

has : ℕ → Map → Bool
has client m = is_some (find nat_cmp client m)

-- ---- one entry

-- the oldest session gives way to no other client's
kept_older : (m : Map) (client : ℕ) → has client (without_oldest m) ≡ true → has client m ≡ true
unfolding has without_oldest
kept_older m client =
    let by : (o : Option (ℕ × ℕ)) → is_some (find nat_cmp client (option_map_or (λ d. without nat_cmp d.0 m) o m)) ≡ true → is_some (find nat_cmp client m) ≡ true = elim [
      | None ↦ λ h. h
      | Some d ↦ λ h. elim (cases_eq client d.0) [
        | inl same ↦ absurd (true≢false (sym h ∙ ap is_some (ap (λ k. find nat_cmp k (without nat_cmp d.0 m)) same ∙ find_without_own m d.0)))
        | inr apart ↦ sym (ap is_some (find_without_other m d.0 client apart)) ∙ h
      ]
    ] in
    by (oldest m)

kept_put : (m : Map) (key client : ℕ) (s : Session) → client ≢ key → has client (put nat_cmp key s m) ≡ true → has client m ≡ true
unfolding has
kept_put m key client s apart h = sym (ap is_some (find_put_other m key s client apart)) ∙ h

kept_applied : (m : Map) (a : sess.Asked) (client : ℕ) → client ≢ a.client → has client (sess.applied m a) ≡ true → has client m ≡ true
unfolding sess.applied
kept_applied m a client apart =
    let s : Session = record { number = a.request; op = a.op; outcome = a.outcome } in
    let with = put nat_cmp a.client s in
    let full : (b : Bool) → has client (cond b (with m) (with (without_oldest m))) ≡ true → has client m ≡ true = elim [
      | true ↦ λ h. kept_put m a.client client s apart h
      | false ↦ λ h. kept_older m client (kept_put (without_oldest m) a.client client s apart h)
    ] in
    let by : (b : Bool) → has client (cond b (with m) (cond (is_some (find nat_cmp a.client m)) (with m) (with (without_oldest m)))) ≡ true → has client m ≡ true = elim [
      | true ↦ λ h. kept_put m a.client client s apart h
      | false ↦ full (is_some (find nat_cmp a.client m))
    ] in
    by (nat_lt (length m) (session_limit a.version))

-- whether an entry begins a session of the client
begins : ℕ → State → Whole → Bool
begins client s e = fresh_at s e && (eqb e.header.client client && eqb e.header.request 0)

-- a fresh entry's client has a session, or begins one
fresh_has : (m : Map) (client request : ℕ) → is_fresh (checked m client request) ≡ true → (has client m ≡ true) ⊎ (eqb request 0 ≡ true)
unfolding checked has
fresh_has m client request =
    let none : (b : Bool) → is_fresh (cond b answer.Fresh answer.Evicted) ≡ true → b ≡ true = elim [ true ↦ λ h. refl | false ↦ λ h. h ] in
    let by : (o : Option Session) → is_fresh (option_map_or (judged request) o (cond (eqb request 0) answer.Fresh answer.Evicted)) ≡ true → (is_some o ≡ true) ⊎ (eqb request 0 ≡ true) = elim [
      | None ↦ λ h. inr (none (eqb request 0) h)
      | Some s ↦ λ h. inl refl
    ] in
    by (find nat_cmp client m)

begun_by : (s : State) (e : Whole) (client : ℕ) → fresh_at s e ≡ true → e.header.client ≡ client → (has client s.sessions ≡ true) ⊎ (begins client s e ≡ true)
unfolding begins
begun_by s e client fresh same =
    elim (fresh_has s.sessions e.header.client e.header.request fresh) [
      | inl there ↦ inl (subst (λ (c : ℕ). has c s.sessions ≡ true) same there)
      | inr first ↦ inr (and_from (fresh_at s e) (eqb e.header.client client && eqb e.header.request 0) fresh (and_from (eqb e.header.client client) (eqb e.header.request 0) (eq-eqb e.header.client client same) first))
    ]

-- a session that is there after an entry was there before it, or the entry begins it
begun_step : (s : State) (e : Whole) (client : ℕ) → has client (applied s e).state.sessions ≡ true → (has client s.sessions ≡ true) ⊎ (begins client s e ≡ true)
unfolding applied answered executed
begun_step s e client =
    let by : (x : SessionAnswer) → check s e ≡ x → has client (answered s e x).state.sessions ≡ true → (has client s.sessions ≡ true) ⊎ (begins client s e ≡ true) = elim [
      | answer.Fresh ↦ λ is h. elim (cases_eq e.header.client client) [
        | inl same ↦ begun_by s e client (ap is_fresh is) same
        | inr apart ↦ inl (kept_applied s.sessions (folds.asked s e) client (λ same. apart (sym same)) h)
      ]
      | answer.Repeat outcome op ↦ λ is h. inl h
      | answer.Old ↦ λ is h. inl h
      | answer.Gap ↦ λ is h. inl h
      | answer.Evicted ↦ λ is h. inl h
    ] in
    by (check s e) refl

-- ---- entries one after the other

begun_since : (client : ℕ) (entries : List Whole) (s : State) → has client (fold (λ s e. (applied s e).state) s entries).sessions ≡ true → (has client s.sessions ≡ true) ⊎ (begins_session client s entries ≡ true)
unfolding begins_session begins
begun_since client [] s h = inl h
begun_since client (e ∷ entries) s h =
    let rest = begins_session client (applied s e).state entries in
    elim (begun_since client entries (applied s e).state h) [
      | inr later ↦ inr (or_right (begins client s e) rest later)
      | inl there ↦ elim (begun_step s e client there) [ inl old ↦ inl old | inr now ↦ inr (or_left (begins client s e) rest now) ]
    ]

-- more entries begin no fewer
pub more_begin : (client : ℕ) (s : State) (xs ys : List Whole) → begins_session client s xs ≡ true → begins_session client s (xs ++ ys) ≡ true
unfolding begins_session begins
more_begin client s [] ys h = absurd (true≢false (sym h))
more_begin client s (x ∷ xs) ys h =
    let by : (b : Bool) → (b || begins_session client (applied s x).state xs) ≡ true → (b || begins_session client (applied s x).state (xs ++ ys)) ≡ true = elim [
      | true ↦ λ h. refl
      | false ↦ λ h. more_begin client (applied s x).state xs ys h
    ] in
    by (begins client s x) h

-- nor do entries before them
later_begin : (client : ℕ) (s : State) (xs ys : List Whole) → begins_session client (fold (λ s e. (applied s e).state) s xs) ys ≡ true → begins_session client s (xs ++ ys) ≡ true
unfolding begins_session begins
later_begin client s [] ys h = h
later_begin client s (x ∷ xs) ys h = or_right (begins client s x) (begins_session client (applied s x).state (xs ++ ys)) (later_begin client (applied s x).state xs ys h)

-- a fresh entry's client has begun a session by then
begun_then : (before : List Whole) (d : Whole) → fresh_at (state_after before) d ≡ true → begins_session d.header.client empty (before ++ d ∷ []) ≡ true
unfolding begins_session begins has
begun_then before d fresh =
    let c : ℕ = d.header.client in
    elim (begun_by (state_after before) d c fresh refl) [
      | inl there ↦ elim (begun_since c before empty there) [ inl none ↦ absurd (true≢false (sym none)) | inr earlier ↦ more_begin c empty before (d ∷ []) earlier ]
      | inr now ↦ later_begin c empty before (d ∷ []) (or_left (begins c (state_after before) d) false now)
    ]

-- ---- a log in which no client begins a second session

module _ (log : List Whole) (once : IsOnceInSession log) (each : HasOneSessionEach log) where
  never_twice : (before between later : List Whole) (d e : Whole) → log ≡ (before ++ (d ∷ between)) ++ (e ∷ later) → d.header.client ≡ e.header.client → d.header.request ≡ e.header.request
      → IsTrue (fresh_at (state_after before) d) → IsTrue (fresh_at (state_after (before ++ (d ∷ between))) e) → ⊥
  never_twice before between later d e is client number first second =
      let c : ℕ = d.header.client in
      let s : State = state_after (before ++ d ∷ []) in
      let again : begins_session c s (between ++ e ∷ []) ≡ true = once before between later d e is client number first second in
      let more : begins_session c s ((between ++ e ∷ []) ++ later) ≡ true = more_begin c s (between ++ e ∷ []) later again in
      let tail : (between ++ e ∷ []) ++ later ≡ between ++ (e ∷ later) = append_assoc between (e ∷ []) later in
      let whole : log ≡ (before ++ d ∷ []) ++ (between ++ (e ∷ later)) = is ∙ (append_assoc before (d ∷ between) (e ∷ later) ∙ sym (append_assoc before (d ∷ []) (between ++ (e ∷ later)))) in
      each c (before ++ d ∷ []) (between ++ (e ∷ later)) whole (begun_then before d first) (subst (λ (xs : List Whole). begins_session c s xs ≡ true) tail more)

  -- an entry after another one
  record Parts (i j : ℕ) (xs : List Whole) (d e : Whole) : Type 0 where
    between : List Whole
    later : List Whole
    is : xs ≡ (take i xs ++ (d ∷ between)) ++ (e ∷ later)
    front : take j xs ≡ take i xs ++ (d ∷ between)

  parts_later : (x : Whole) (i j : ℕ) (xs : List Whole) (d e : Whole) → Parts i j xs d e → Parts (suc i) (suc j) (x ∷ xs) d e
  parts_later x i j xs d e p = record { between = p.between; later = p.later; is = ap (λ (ys : List Whole). x ∷ ys) p.is; front = ap (λ (ys : List Whole). x ∷ ys) p.front }

  part : (j : ℕ) (xs : List Whole) (e : Whole) → slice_get xs j ≡ Some e → (later : List Whole) × (xs ≡ take j xs ++ (e ∷ later))
  part j [] e at = absurd cc
  part zero (x ∷ xs) e at = let same : x ≡ e = cc in (xs, ap (λ (y : Whole). y ∷ xs) same)
  part (suc j) (x ∷ xs) e at = let p = part j xs e at in (p.0, ap (λ (ys : List Whole). x ∷ ys) p.1)

  parts : (i j : ℕ) (xs : List Whole) (d e : Whole) → i < j → slice_get xs i ≡ Some d → slice_get xs j ≡ Some e → Parts i j xs d e
  parts i j [] d e less at to = absurd cc
  parts i zero (x ∷ xs) d e less at to = absurd (omega (arith, less))
  parts zero (suc j) (x ∷ xs) d e less at to =
      let same : x ≡ d = cc in
      let p = part j xs e to in
      record { between = take j xs; later = p.0; is = ap (λ (ys : List Whole). x ∷ ys) p.1 ∙ ap (λ (y : Whole). (y ∷ take j xs) ++ (e ∷ p.0)) same; front = ap (λ (y : Whole). y ∷ take j xs) same }
  parts (suc i) (suc j) (x ∷ xs) d e less at to = parts_later x i j xs d e (parts i j xs d e (omega (arith, less)) at to)

  apart : (q p : RequestFields) (a b : Answered) → q.client ≡ p.client → q.request ≡ p.request → IsExecuted log q a → IsExecuted log p b → a.op < b.op → ⊥
  apart q p a b client number x y less =
      let above = x.number in
      let above_too = y.number in
      let z = parts (a.op - 1) (b.op - 1) log x.entry y.entry (omega (arith, above, above_too, less)) x.at y.at in
      never_twice (take (a.op - 1) log) z.between z.later x.entry y.entry z.is (x.client ∙ (client ∙ sym y.client)) (x.request ∙ (number ∙ sym y.request)) (ap is_fresh x.fresh)
      (subst (λ (front : List Whole). is_fresh (check (state_after front) y.entry) ≡ true) z.front (ap is_fresh y.fresh))

  pub executed_once : (q p : RequestFields) (a b : Answered) → q.client ≡ p.client → q.request ≡ p.request → IsExecuted log q a → IsExecuted log p b → a ≡ b
  executed_once q p a b client number x y =
      elim (cases_lt a.op b.op) [
        | inl less ↦ absurd (apart q p a b client number x y less)
        | inr most ↦ elim (cases_lt b.op a.op) [
          | inl more ↦ absurd (apart p q b a (sym client) (sym number) y x more)
          | inr least ↦
              let same : a.op ≡ b.op = omega (arith, most, least) in
              let both : Some x.entry ≡ Some y.entry = sym x.at ∙ (ap (λ (op : ℕ). slice_get log (op - 1)) same ∙ y.at) in
              let one : x.entry ≡ y.entry = cc in
              let outcome : a.outcome ≡ b.outcome = x.outcome ∙ (ap (λ (op : ℕ). outcome_of (state_after (take (op - 1) log)) x.entry) same ∙ (ap (outcome_of (state_after (take (b.op - 1) log))) one ∙ sym y.outcome)) in
              λ i. record { outcome = outcome i; op = same i }
        ]
      ]

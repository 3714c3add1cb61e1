-- In one session each number is fresh at most once, over lists of entries: their requests are a list of requests as the
-- sessions see them.
use Rattle.std.proofs.Common.{◌≡◌, ℕ, List, [], ◌∷◌, ◌++◌, ◌&&◌, ◌||◌, eqb, cond, fold, refl, sym, ◌∙◌, ap}
use Rattle.std.proofs.lemmas.List.Sums.{fold-append}
use Rattle.vr_header.specs.Made.{Whole}
use Rattle.vr_state.specs.Sessions as sess
use Rattle.vr_state.specs.Asks as asks
use Rattle.vr_state.specs.declared.session.SessionAnswer.{SessionAnswer}
use Rattle.vr_state.specs.declared.session.SessionAnswer.TheVariants as answer
use Rattle.vr_state.proofs.Asking.{at_most_once}
use Rattle.vr_state.specs.declared.state.State.{State}
use Rattle.vr_state.specs.Folds.{empty, check, asked, applied, answered, executed, state_after, fresh_at, begins_session, EachOnce}

-- the requests of these entries, from this state on
asks_from : State → List Whole → List sess.Asked
asks_from s [] = []
asks_from s (e ∷ entries) = asked s e ∷ asks_from (applied s e).state entries

sessions_of_step : (s : State) (e : Whole) → (applied s e).state.sessions ≡ asks.asked s.sessions (asked s e)
unfolding applied answered executed asks.asked
sessions_of_step s e =
    let by : (x : SessionAnswer) → (answered s e x).state.sessions ≡ cond (asks.is_fresh x) (sess.applied s.sessions (asked s e)) s.sessions = elim [
      | answer.Fresh ↦ refl
      | answer.Repeat outcome op ↦ refl
      | answer.Old ↦ refl
      | answer.Gap ↦ refl
      | answer.Evicted ↦ refl
    ] in
    by (check s e)

sessions_of_fold : (s : State) (entries : List Whole) → (fold (λ s e. (applied s e).state) s entries).sessions ≡ fold asks.asked s.sessions (asks_from s entries)
unfolding asks_from
sessions_of_fold s [] = refl
sessions_of_fold s (e ∷ entries) = sessions_of_fold (applied s e).state entries ∙ ap (λ m. fold asks.asked m (asks_from (applied s e).state entries)) (sessions_of_step s e)

asks_from-append : (s : State) (xs ys : List Whole) → asks_from s (xs ++ ys) ≡ asks_from s xs ++ asks_from (fold (λ s e. (applied s e).state) s xs) ys
unfolding asks_from
asks_from-append s [] ys = refl
asks_from-append s (x ∷ xs) ys = ap (λ t. asked s x ∷ t) (asks_from-append (applied s x).state xs ys)

begins_same : (client : ℕ) (s : State) (entries : List Whole) → begins_session client s entries ≡ asks.begins_session client s.sessions (asks_from s entries)
unfolding begins_session asks.begins_session asks_from
begins_same client s [] = refl
begins_same client s (e ∷ entries) =
    ap (λ b. (fresh_at s e && (eqb e.header.client client && eqb e.header.request 0)) || b)
    (begins_same client (applied s e).state entries ∙ ap (λ m. asks.begins_session client m (asks_from (applied s e).state entries)) (sessions_of_step s e))

pub each_once : EachOnce
unfolding asks_from
each_once before between d e client request first second =
    let s = state_after before in
    let t = (applied s d).state in
    let u = state_after (before ++ (d ∷ between)) in
    let earlier = asks_from empty before in
    let middle = asks_from t between in
    let at_s : s.sessions ≡ asks.sessions_after earlier = sessions_of_fold empty before in
    let all : asks_from empty (before ++ (d ∷ between)) ≡ earlier ++ (asked s d ∷ middle) = asks_from-append empty before (d ∷ between) in
    let at_u : u.sessions ≡ asks.sessions_after (earlier ++ (asked s d ∷ middle)) = sessions_of_fold empty (before ++ (d ∷ between)) ∙ ap asks.sessions_after all in
    let up_to : asks_from empty (before ++ d ∷ []) ≡ earlier ++ asked s d ∷ [] = asks_from-append empty before (d ∷ []) in
    let after_d : state_after (before ++ d ∷ []) ≡ t = fold-append (λ s e. (applied s e).state) empty before (d ∷ []) in
    let at_t : t.sessions ≡ asks.sessions_after (earlier ++ asked s d ∷ []) = ap (λ (x : State). x.sessions) (sym after_d) ∙ (sessions_of_fold empty (before ++ d ∷ []) ∙ ap asks.sessions_after up_to) in
    let at_end : fold (λ s e. (applied s e).state) t between ≡ u = sym (fold-append (λ s e. (applied s e).state) empty before (d ∷ between)) in
    let rest : asks_from t (between ++ e ∷ []) ≡ middle ++ asked u e ∷ [] = asks_from-append t between (e ∷ []) ∙ ap (λ x. middle ++ asked x e ∷ []) at_end in
    let once = at_most_once earlier middle (asked s d) (asked u e) client request
    (ap (λ m. asks.is_fresh (sess.checked m d.header.client d.header.request)) (sym at_s) ∙ first)
    (ap (λ m. asks.is_fresh (sess.checked m e.header.client e.header.request)) (sym at_u) ∙ second) in
    ap (λ x. begins_session d.header.client x (between ++ e ∷ [])) after_d
    ∙ (begins_same d.header.client t (between ++ e ∷ [])
    ∙ (ap (asks.begins_session d.header.client t.sessions) rest
    ∙ (ap (λ m. asks.begins_session d.header.client m (middle ++ asked u e ∷ [])) at_t ∙ once)))

-- one entry more is one step more
pub state_after_more : (before : List Whole) (e : Whole) → state_after (before ++ e ∷ []) ≡ (applied (state_after before) e).state
state_after_more before e = fold-append (λ s e. (applied s e).state) empty before (e ∷ [])

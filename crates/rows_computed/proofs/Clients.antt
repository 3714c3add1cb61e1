-- What the two clients do has the order of each log that begins with the two entries.
use Rattle.std.proofs.Common.{ℕ, ◌-◌, ◌≤◌, ◌<◌, ◌≡◌, ◌∙◌, inl, inr, arith, refl, sym, ap, subst, Bool, true, false, ◌&&◌, ◌||◌, eqb, List, [], ◌∷◌, ◌++◌, take, Some}
use Rattle.std.specs.Prelude.{IsTrue, slice_get}
use Rattle.std.proofs.lemmas.Bool.{cases_eq, cases_lt, eqb-true, true≢false}
use Rattle.sha2.specs.Sha256.{sha256, first_words, schedule, rounds, compress, hash_after, digest_bytes}
use Rattle.vr_base.specs.Bytes.{bytes16, bytes32, bytes64, name_of}
use Rattle.vr_state.specs.declared.session.SessionAnswer.TheVariants as session
use Rattle.vr_client.specs.declared.answer.Answer.TheVariants as answer
use Rattle.vr_header.specs.Bodies.{operation_bytes}
use Rattle.vr_header.specs.Made.{Whole}
use Rattle.vr_header.specs.declared.outcome.Outcome.TheVariants.{Session}
use Rattle.vr_msg.specs.declared.reply.Answered.{Answered}
use Rattle.vr_msg.specs.declared.request.RequestFields.{RequestFields}
use Rattle.vr_state.specs.Folds as state
use Rattle.vr_state.specs.Folds.{begins_session, check, empty, fresh_at, outcome_of, state_after}
use Rattle.vr_state.specs.Kv as kv
use Rattle.vr_state.specs.Sessions as sess
use Rattle.vr_state.specs.declared.state.State.{State}
use Rattle.vr_state.proofs.Once.{each_once}
use Rattle.law_1_machine.specs.Basics.{In}
use Rattle.law_2_chains.proofs.StoredLists.{contains_in, in_contains}
use Rattle.law_6_one_log.specs.Outputs.{IsOnceInSession}
use Rattle.law_9_answers.specs.Heard.{Heard}
use Rattle.law_9_asked.specs.Asked.{IsExecuted, IsMadeOf}
use Rattle.law_9_answers.specs.History.{Asks, HasAsked, HasHeard, HasOneSessionEach, Hears, IsExecutedAs, IsLinearizable, IsNew, IsOfAsked, IsOrdered, Moment}
use Rattle.law_9_answers.proofs.Sessions.{executed_once}
use Rattle.rows_computed.proofs.Entries.{first, third}
use Rattle.rows_computed.specs.Pending.{IsExecutedIn, clients, hears, register_of, session_at}

-- ---- the first entries of a log

take_none : (log : List Whole) → take 0 log ≡ []
take_none [] = refl
take_none (x ∷ log) = refl

take_one : (log : List Whole) (d : Whole) → slice_get log 0 ≡ Some d → take 1 log ≡ d ∷ []
take_one [] d at = absurd cc
take_one (x ∷ log) d at = let same : x ≡ d = (let s : Some x ≡ Some d = at in cc) in ap (λ (y : Whole). y ∷ []) same

pub take_two : (log : List Whole) (d e : Whole) → slice_get log 0 ≡ Some d → slice_get log 1 ≡ Some e → take 2 log ≡ d ∷ e ∷ []
take_two [] d e at next = absurd cc
take_two (x ∷ log) d e at next = let same : x ≡ d = (let s : Some x ≡ Some d = at in cc) in ap (λ (y : Whole). y ∷ take 1 log) same ∙ ap (λ (ys : List Whole). d ∷ ys) (take_one log e next)

-- ---- the sessions and the machine, computed

fresh_first : check empty first ≡ session.Fresh
unfolding sess.checked
fresh_first = refl

fresh_third : check (state_after (first ∷ [])) third ≡ session.Fresh
unfolding state.applied state.answered state.executed sess.checked sess.applied kv.applied
fresh_third = refl

outcome_first : Session ≡ outcome_of empty first
unfolding kv.applied
outcome_first = refl

outcome_third : Session ≡ outcome_of (state_after (first ∷ [])) third
unfolding state.applied state.answered state.executed sess.checked sess.applied kv.applied
outcome_third = refl

made_first : IsMadeOf first (register_of 7)
unfolding operation_bytes bytes16 bytes32 bytes64 name_of sha256 first_words schedule rounds compress hash_after digest_bytes
made_first = record { header = refl; operation = refl }

made_third : IsMadeOf third (register_of 8)
unfolding operation_bytes bytes16 bytes32 bytes64 name_of sha256 first_words schedule rounds compress hash_after digest_bytes
made_third = record { header = refl; operation = refl }

-- ---- a log that begins with them

module _ (log : List Whole) (at_first : slice_get log 0 ≡ Some first) (at_third : slice_get log 1 ≡ Some third) where
  pub executed_first : IsExecutedIn log 0 (register_of 7) (session_at 1)
  executed_first = record {
    executed = record {
      entry = first;
      number = omega arith;
      at = at_first;
      client = refl;
      request = refl;
      fresh = ap (λ (front : List Whole). check (state_after front) first) (take_none log) ∙ fresh_first;
      outcome = outcome_first ∙ ap (λ (front : List Whole). outcome_of (state_after front) first) (sym (take_none log));
    };
    in_view = refl;
  }

  abbrev is_executed : IsExecuted log (register_of 8) (session_at 2)
  is_executed = record {
    entry = third;
    number = omega arith;
    at = at_third;
    client = refl;
    request = refl;
    fresh = ap (λ (front : List Whole). check (state_after front) third) (take_one log first at_first) ∙ fresh_third;
    outcome = outcome_third ∙ ap (λ (front : List Whole). outcome_of (state_after front) third) (sym (take_one log first at_first));
  }

  pub executed_third : IsExecutedIn log 1 (register_of 8) (session_at 2)
  executed_third = record { executed = is_executed; in_view = refl }

  executed_own : IsExecutedAs log (register_of 8) (session_at 2)
  executed_own = record { executed = is_executed; operation = refl }

  -- ---- what clients asked

  asked_first : HasAsked clients (register_of 7)
  asked_first = record { by = 0; moment = in_contains (Asks 0 (register_of 7)) clients (inl refl) }

  asked_third : HasAsked clients (register_of 8)
  asked_third = record { by = 1; moment = in_contains (Asks 1 (register_of 8)) clients (inr (inl refl)) }

  of_asked : (op : ℕ) → 0 < op → op ≤ 2 → IsOfAsked log clients op
  of_asked op above upto =
      elim (cases_eq op 1) [
        | inl one ↦ subst (IsOfAsked log clients) (sym one) (record { entry = first; at = at_first; request = register_of 7; asked = asked_first; made_of = made_first })
        | inr other ↦
            let two : op ≡ 2 = omega (arith, above, upto, other) in
            subst (IsOfAsked log clients) (sym two) (record { entry = third; at = at_third; request = register_of 8; asked = asked_third; made_of = made_third })
      ]

  -- what is executed at an op has the client and the number of the entry there
  theirs : (d : Whole) (p : RequestFields) (b : Answered) → slice_get log (b.op - 1) ≡ Some d → IsExecuted log p b → (d.header.client ≡ p.client) × (d.header.request ≡ p.request)
  theirs d p b at x =
      let both : Some d ≡ Some x.entry = sym at ∙ x.at in
      let same : d ≡ x.entry = cc in
      (ap (λ (e : Whole). e.header.client) same ∙ x.client, ap (λ (e : Whole). e.header.request) same ∙ x.request)

  old_ones : (p : RequestFields) (b : Answered) → IsNew clients p → IsExecuted log p b → b.op ≤ 2 → ⊥
  old_ones p b new x most =
      let above = x.number in
      elim (cases_eq b.op 1) [
        | inl one ↦ let y = theirs first p b (ap (λ (op : ℕ). slice_get log (op - 1)) one ∙ at_first) x in new (register_of 7) asked_first y.0 y.1
        | inr other ↦
            let two : b.op ≡ 2 = omega (arith, above, most, other) in
            let y = theirs third p b (ap (λ (op : ℕ). slice_get log (op - 1)) two ∙ at_third) x in
            new (register_of 8) asked_third y.0 y.1
      ]

  -- ---- what they heard

  heard_is : (by : ℕ) (t : Heard) → In (Hears by t) clients → t ≡ hears
  heard_is by t (inl e) = absurd cc
  heard_is by t (inr (inl e)) = absurd cc
  heard_is by t (inr (inr (inl e))) = cc
  heard_is by t (inr (inr (inr none))) = absurd none

  heard_all : (q : RequestFields) (a : Answered) → HasHeard clients q a → (register_of 8 ≡ q) × (a ≡ session_at 2)
  heard_all q a x =
      let same = heard_is x.by x.heard (contains_in (Hears x.by x.heard) clients x.moment) in
      let outcome : answer.Outcome a ≡ answer.Outcome (session_at 2) = sym x.outcome ∙ ap (λ (t : Heard). t.answer) same in
      (ap (λ (t : Heard). t.request) (sym same) ∙ x.request, cc)

  -- a first part of it in which something is heard is all of it
  all_of : (before after : List Moment) (by : ℕ) (t : Heard) → clients ≡ before ++ after → In (Hears by t) before → before ≡ clients
  all_of [] after by t is i = absurd i
  all_of (x ∷ []) after by t is (inl e) = absurd cc
  all_of (x ∷ []) after by t is (inr none) = absurd none
  all_of (x ∷ y ∷ []) after by t is (inl e) = absurd cc
  all_of (x ∷ y ∷ []) after by t is (inr (inl e)) = absurd cc
  all_of (x ∷ y ∷ []) after by t is (inr (inr none)) = absurd none
  all_of (x ∷ y ∷ z ∷ []) after by t is i = cc
  all_of (x ∷ y ∷ z ∷ u ∷ before) after by t is i = absurd cc

  heard_whole : (before after : List Moment) (q : RequestFields) (a : Answered) → clients ≡ before ++ after → HasHeard before q a → before ≡ clients
  heard_whole before after q a is x = all_of before after x.by x.heard is (contains_in (Hears x.by x.heard) before x.moment)

  heard_two : (before : List Moment) (q : RequestFields) (a : Answered) → before ≡ clients → HasHeard before q a → a.op ≡ 2
  heard_two before q a whole x = ap (λ (b : Answered). b.op) (heard_all q a (subst (λ (h : List Moment). HasHeard h q a) whole x)).1

  -- ---- so it has the order of the log

  pub own : (q : RequestFields) (a : Answered) → HasHeard clients q a → IsExecutedAs log q a
  own q a x =
      let y = heard_all q a x in
      subst (λ (p : RequestFields). IsExecutedAs log p a) y.0 (subst (λ (b : Answered). IsExecutedAs log (register_of 8) b) (sym y.1) executed_own)

  asked_by_then : (before after : List Moment) → clients ≡ before ++ after → (q : RequestFields) (a : Answered) → HasHeard before q a → (op : ℕ) → 0 < op → op ≤ a.op → IsOfAsked log before op
  asked_by_then before after is q a x op above upto =
      let whole = heard_whole before after q a is x in
      let two = heard_two before q a whole x in
      subst (λ (h : List Moment). IsOfAsked log h op) (sym whole) (of_asked op above (omega (arith, upto, two)))

  in_time : (before after : List Moment) → clients ≡ before ++ after → (q p : RequestFields) (a b : Answered) → HasHeard before q a → IsNew before p → IsExecuted log p b → a.op < b.op
  in_time before after is q p a b x new y =
      let whole = heard_whole before after q a is x in
      let two = heard_two before q a whole x in
      elim (cases_lt 2 b.op) [
        | inl less ↦ omega (arith, less, two)
        | inr most ↦ absurd (old_ones p b (subst (λ (h : List Moment). IsNew h p) whole new) y most)
      ]

  pub clients_ordered : IsOrdered log clients
  clients_ordered = record { executed = λ q a x. (own q a x).executed; own = λ q a x alone. own q a x; asked = asked_by_then; real_time = in_time }

  pub first_unheard : (a : Answered) → HasHeard clients (register_of 7) a → ⊥
  first_unheard a x = let same : 8 ≡ 7 = ap (λ (q : RequestFields). q.client) (heard_all (register_of 7) a x).0 in absurd (omega (arith, same))

-- ---- one session of each client

abbrev two : List Whole
two = first ∷ third ∷ []

in_the_middle : (a b c : Bool) → ((a && (b && c)) || false) ≡ true → b ≡ true
in_the_middle true true c h = refl
in_the_middle true false c h = h
in_the_middle false b c h = absurd (true≢false (sym h))

begun_by : (client : ℕ) (s : State) (e : Whole) → IsTrue (begins_session client s (e ∷ [])) → e.header.client ≡ client
unfolding begins_session
begun_by client s e h = eqb-true e.header.client client (in_the_middle (fresh_at s e) (eqb e.header.client client) (eqb e.header.request 0) h)

none_begun : (client : ℕ) (s : State) → IsTrue (begins_session client s []) → ⊥
unfolding begins_session
none_begun client s h = true≢false (sym h)

pub sessions_two : HasOneSessionEach two
sessions_two client [] later is one next = none_begun client empty one
sessions_two client (x ∷ []) later is one next =
    let rest : later ≡ third ∷ [] = cc in
    let seven : 7 ≡ client = (let same : first ≡ x = cc in ap (λ (e : Whole). e.header.client) same ∙ begun_by client empty x one) in
    let eight : 8 ≡ client = begun_by client (state_after (x ∷ [])) third (subst (λ (es : List Whole). IsTrue (begins_session client (state_after (x ∷ [])) es)) rest next) in
    absurd (omega (arith, seven, eight))
sessions_two client (x ∷ y ∷ []) later is one next =
    let rest : later ≡ [] = cc in
    none_begun client (state_after (x ∷ y ∷ [])) (subst (λ (es : List Whole). IsTrue (begins_session client (state_after (x ∷ y ∷ [])) es)) rest next)
sessions_two client (x ∷ y ∷ z ∷ before) later is one next = absurd cc

once_two : IsOnceInSession two
once_two before between later d e is client request before_it then = each_once before between d e client request before_it then

pub linearizable_two : IsLinearizable two clients
linearizable_two = record { ordered = clients_ordered two refl refl; executed = own two refl refl; once = executed_once two once_two sessions_two }

-- Requests: which rule applies, and what it is.
use Rattle.vr_state.proofs.Fitting.{check_fits}
use Rattle.vr_state.specs.Fitting.{AnswerFits}
use Rattle.std.proofs.Common.{arith, ℕ, zero, suc, ◌≡◌, ◌≤◌, ◌<◌, ◌+◌, ◌-◌, ◌^◌, ◌∙◌, refl, sym, ap, subst, Bool, true, false, not, List, [], ◌∷◌, ◌++◌, take, drop, get_or, add-one, append-nil, Option, Result, Ok}
use Rattle.std.specs.Prelude.{◌||◌, nat_lt, nat_le}
use Rattle.std.specs.List.{list_any}
use Rattle.std.proofs.lemmas.Bool.{and_parts, or_parts, not-false, eqb-true, leb-false, ltb-false}
use Rattle.vr_base.specs.Bytes.{name_of}
use Rattle.vr_disk.specs.DiskState.{Disk}
use Rattle.vr_header.specs.declared.part.Part.{Part}
use Rattle.vr_header.specs.declared.part.Part.TheVariants.{Nothing}
use Rattle.vr_header.specs.Made.{Whole, IsEntryHeader}
use Rattle.vr_header.specs.Spelling.{IsHeader}
use Rattle.vr_msg.specs.declared.output.Output.{Output}
use Rattle.vr_msg.specs.declared.reply.ReplyKind.TheVariants as reply
use Rattle.vr_msg.specs.declared.request.RequestFields.{RequestFields}
use Rattle.vr_rules.proofs.Replying as sessions
use Rattle.vr_rules.specs.Deciding.{first_of, is_in_flight, request_table, session_answer}
use Rattle.vr_rules.specs.declared.rule.Rule.{Rule}
use Rattle.vr_rules.specs.declared.rule.Rule.TheVariants.{Ignored, Redirected, Behind, InFlight, Answered, Full, Made}
use Rattle.vr_rules.specs.Outputs.{replies}
use Rattle.vr_rules.specs.declared.asker.Asker.{Asker}
use Rattle.vr_rules.specs.Replica.{Replica, head, is_primary, is_started, leads, version}
use Rattle.vr_rules.specs.Rules.{asker_by, make, next_entry, obey_request, on_request, stored_reply}
use Rattle.vr_rules.specs.Steps.{by}
use Rattle.vr_rules.specs.Words.{is_loaded}
use Rattle.vr_rules.proofs.Ruling.{by_rows, IsFor, for_of}
use Rattle.vr_state.specs.declared.session.SessionAnswer.{SessionAnswer}
use Rattle.vr_state.specs.declared.session.SessionAnswer.TheVariants as answer
use Rattle.vr_disk.specs.declared.fault.Halt.{Halt}
use Rattle.vr_rules.specs.Does.{Does}
use Rattle.vr_rules.proofs.Stepping.{does_by, does_naming, does_quiet, says_by}
use Rattle.vr_volatile.specs.Ready.{IsReady, MayStore}
use Rattle.vr_normal.specs.declared.requesting.RequestRule.{RequestRule}
use Rattle.vr_normal.specs.declared.requesting.RequestRule.TheVariants as rule
use Rattle.vr_normal.specs.Named.{request_rule}
use Rattle.vr_normal.specs.Requests.{Answers, HasNumber, stored_replies}
use Rattle.vr_normal.specs.Words.{any_of, is_of}

-- ---- requests in flight

any_step : (client : ℕ) (xs : List Part) (i n : ℕ) → list_any (is_of client) (take (suc n) (drop i xs)) ≡ (is_of client (get_or xs i Nothing) || list_any (is_of client) (take n (drop (i + 1) xs)))
any_step client [] zero zero = refl
any_step client [] zero (suc n) = refl
any_step client [] (suc i) zero = refl
any_step client [] (suc i) (suc n) = rw add-one refl
any_step client (x ∷ xs) zero n = refl
any_step client (x ∷ xs) (suc i) n = rw add-one (rw add-one at (any_step client xs i n))

pub any_more : (client : ℕ) (xs : List Part) (i end : ℕ) → i < end → is_of client (get_or xs i Nothing) ≡ false → any_of client xs i end ≡ any_of client xs (i + 1) end
unfolding any_of
any_more client xs i end l e = let n : end - i ≡ suc (end - (i + 1)) = omega arith in rw (n, any_step client xs i (end - (i + 1)), e) refl

pub any_found : (client : ℕ) (xs : List Part) (i end : ℕ) → i < end → is_of client (get_or xs i Nothing) ≡ true → any_of client xs i end ≡ true
unfolding any_of
any_found client xs i end l e = let n : end - i ≡ suc (end - (i + 1)) = omega arith in rw (n, any_step client xs i (end - (i + 1)), e) refl

pub any_past : (client : ℕ) (xs : List Part) (i end : ℕ) → end ≤ i → any_of client xs i end ≡ false
unfolding any_of
any_past client xs i end l = let n : end - i ≡ 0 = omega arith in rw n refl

-- the places of the ops above the commit number, up to the head
flight_count : (r : Replica) → IsReady r → head r + 1 - r.first - (r.commit + 1 - r.first) ≡ head r - r.commit
unfolding IsReady
flight_count r h =
    let reach = h.sound.lists.reach in
    let low = h.sound.order.applied in
    let commit = h.sound.order.commit in
    let known = h.sound.order.known in
    omega arith

pub flight_is : (client from end : ℕ) (r : Replica) (b : Bool) → IsReady r → from ≡ r.commit + 1 - r.first → end ≡ head r + 1 - r.first → b ≡ any_of client r.parts from end → b ≡ is_in_flight client r
unfolding any_of is_in_flight
flight_is client from end r b h i j e = e ∙ rw (i, j, flight_count r h) refl

-- ---- the next entry

record MayMake (q : RequestFields) (r : Replica) : Type 0 where
  group : IsFor q.version q.cluster r
  started : r.view ≡ r.log_view
  applied : r.commit ≤ r.applied
  few : head r < r.commit + 8
  low : head r < 2 ^ 62

may_make_is : (q : RequestFields) (r : Replica) → IsFor q.version q.cluster r → not (leads r) ≡ false → (not (is_loaded r) || nat_lt r.applied r.commit) ≡ false
    → (nat_le 8 (head r - r.commit) || nat_le (2 ^ 62) (head r)) ≡ false → MayMake q r
may_make_is q r a b c d =
    let few = leb-false 8 (head r - r.commit) (or_parts (nat_le 8 (head r - r.commit)) (nat_le (2 ^ 62) (head r)) d).0 in
    record {
      group = a;
      started = eqb-true r.view r.log_view (and_parts (is_started r) (is_primary r) (not-false _ b)).0;
      applied = ltb-false r.applied r.commit (or_parts (not (is_loaded r)) (nat_lt r.applied r.commit) c).1;
      few = omega arith;
      low = leb-false (2 ^ 62) (head r) (or_parts (nat_le 8 (head r - r.commit)) (nat_le (2 ^ 62) (head r)) d).1;
    }

made_by_rule : (q : RequestFields) (r : Replica) → first_of (request_table q r) ≡ Made → MayMake q r
made_by_rule q r =
    by_rows (λ x. x ≡ Made → MayMake q r) (request_table q r)
    (λ t e. absurd cc, λ n0. (λ t e. absurd cc, λ n1. (λ t e. absurd cc, λ n2. (λ t e. absurd cc, λ n3. (λ t e. absurd cc, λ n4. (λ t e. absurd cc, λ n5. (λ t e. may_make_is q r (for_of q.version q.cluster r (not-false _ n0)) n1 n2 n5, λ n6 e. absurd cc)))))))

pub head_room : (q : RequestFields) (r : Replica) → first_of (request_table q r) ≡ Made → head r < 2 ^ 62
head_room q r e = (made_by_rule q r e).low

pub made_taken : (q : RequestFields) (r : Replica) (e : Whole) → first_of (request_table q r) ≡ Made → e ≡ next_entry name_of q r → e.header.version ≤ version r
unfolding next_entry
made_taken q r e k i = let group = (made_by_rule q r k).group.0 in rw i (omega (arith, group))

pub made_view : (q : RequestFields) (r : Replica) (e : Whole) → e ≡ next_entry name_of q r → e.header.view ≤ r.view
unfolding next_entry
made_view q r e i = rw i (omega arith)

pub may_make : (q : RequestFields) (r : Replica) (e : Whole) → IsReady r → first_of (request_table q r) ≡ Made → e ≡ next_entry name_of q r → IsHeader e.header → IsEntryHeader e.header → MayStore e r
unfolding IsReady MayStore next_entry
may_make q r e h k i v n =
    let m = made_by_rule q r k in
    let op : e.header.op ≡ head r + 1 = ap (λ (x : Whole). x.header.op) i in
    let cluster : e.header.cluster ≡ q.cluster = ap (λ (x : Whole). x.header.cluster) i in
    let made : e.header.version ≡ q.version = ap (λ (x : Whole). x.header.version) i in
    let own = m.group.0 in
    let view : e.header.view ≡ r.view = ap (λ (x : Whole). x.header.view) i in
    let low = h.sound.order.applied in
    let commit = h.sound.order.commit in
    let known = h.sound.order.known in
    let near = h.sound.near in
    let few = m.few in
    let applied = m.applied in
    let started = m.started in
    record {
      above = omega arith;
      window = omega arith;
      header = v;
      is_entry = record { entry = n; of_version = omega (arith, made, own); of_group = cluster ∙ m.group.1; at_op = refl; made = omega arith };
    }

-- ---- what the sessions answer

pub answer_is : (q : RequestFields) (r : Replica) (x : RequestRule) (a : SessionAnswer) → Answers x q r → x ≡ rule.Answered a → a ≡ session_answer q r
unfolding Answers
answer_is q r x a h k = rw k at h

same_number : (a : SessionAnswer) → sessions.HasNumber a → HasNumber a
same_number answer.Fresh h = h
same_number (answer.Repeat outcome op) h = h
same_number answer.Old h = h
same_number answer.Gap h = h
same_number answer.Evicted h = h

pub answer_fits : (q : RequestFields) (r : Replica) (x : RequestRule) (a : SessionAnswer) → IsReady r → Answers x q r → x ≡ rule.Answered a → HasNumber a
unfolding IsReady
answer_fits q r x a h i k = rw (answer_is q r x a i k) (same_number (session_answer q r) (sessions.answer_numbered r.state.sessions q.client q.request h.sound.numbers))

-- and has an outcome of the replica's version
pub answer_suits : (q : RequestFields) (r : Replica) (x : RequestRule) (a : SessionAnswer) → IsReady r → Answers x q r → x ≡ rule.Answered a → AnswerFits (version r) a
unfolding IsReady
answer_suits q r x a h i k = rw (answer_is q r x a i k) (check_fits (version r) r.state h.fits q.client q.request)

stored_said : (a : Asker) (x : SessionAnswer) (r : Replica) (d : Option Disk) (o o' : List Output) → o' ≡ o ++ stored_replies a x r → Does (stored_reply a x) r r d d o o' (Ok tt)
stored_said a answer.Fresh r d o o' e = rw (e, append-nil o) (does_quiet r d o)
stored_said a (answer.Repeat outcome op) r d o o' e = says_by _ r d o o' e
stored_said a answer.Old r d o o' e = says_by _ r d o o' e
stored_said a answer.Gap r d o o' e = says_by _ r d o o' e
stored_said a answer.Evicted r d o o' e = says_by _ r d o o' e

-- ---- the rules

module _ (q : RequestFields) (r r' : Replica) (d d' : Option Disk) (o o' : List Output) where
  obeyed : (x : Rule) (result : Result (Unit {0}) Halt) → first_of (request_table q r) ≡ x → Does (obey_request name_of q x) r r' d d' o o' result → Does (on_request q) r r' d d' o o' result
  unfolding on_request
  obeyed x result e h = does_naming _ r r' d d' o o' result (does_by _ r r' d d' o o' result (subst (λ y. Does (obey_request name_of q y) r r' d d' o o' result) (sym e) h))

  module _ (x : RequestRule) (result : Result (Unit {0}) Halt) (e : first_of (request_table q r) ≡ request_rule x) where
    pub request_made : x ≡ rule.Made → Does (by (λ r. make (next_entry name_of q r))) r r' d d' o o' result → Does (on_request q) r r' d d' o o' result
    request_made k h = obeyed Made result (e ∙ ap request_rule k) h

module _ (q : RequestFields) (r : Replica) (d : Option Disk) (o : List Output) (x : RequestRule) (e : first_of (request_table q r) ≡ request_rule x) where
  pub request_ignored : x ≡ rule.Ignored → Does (on_request q) r r d d o o (Ok tt)
  request_ignored k = obeyed q r r d d o o Ignored (Ok tt) (e ∙ ap request_rule k) (does_quiet r d o)

  pub request_in_flight : x ≡ rule.InFlight → Does (on_request q) r r d d o o (Ok tt)
  request_in_flight k = obeyed q r r d d o o InFlight (Ok tt) (e ∙ ap request_rule k) (does_quiet r d o)

  pub request_redirected : (o' : List Output) → x ≡ rule.Redirected → o' ≡ o ++ replies (asker_by name_of q) reply.Redirect r → Does (on_request q) r r d d o o' (Ok tt)
  request_redirected o' k i = obeyed q r r d d o o' Redirected (Ok tt) (e ∙ ap request_rule k) (says_by _ r d o o' i)

  pub request_behind : (o' : List Output) → x ≡ rule.Behind → o' ≡ o ++ replies (asker_by name_of q) reply.Busy r → Does (on_request q) r r d d o o' (Ok tt)
  request_behind o' k i = obeyed q r r d d o o' Behind (Ok tt) (e ∙ ap request_rule k) (says_by _ r d o o' i)

  pub request_full : (o' : List Output) → x ≡ rule.Full → o' ≡ o ++ replies (asker_by name_of q) reply.Busy r → Does (on_request q) r r d d o o' (Ok tt)
  request_full o' k i = obeyed q r r d d o o' Full (Ok tt) (e ∙ ap request_rule k) (says_by _ r d o o' i)

  pub request_answered : (a : SessionAnswer) (o' : List Output) → x ≡ rule.Answered a → Answers x q r → o' ≡ o ++ stored_replies (asker_by name_of q) a r → Does (on_request q) r r d d o o' (Ok tt)
  request_answered a o' k h i =
      let is : a ≡ session_answer q r = answer_is q r x a h k in
      let said = stored_said (asker_by name_of q) a r d o o' i in
      obeyed q r r d d o o' Answered (Ok tt) (e ∙ ap request_rule k) (does_by _ r r d d o o' (Ok tt) (rw is at said))

pub made_means : (q : RequestFields) (r : Replica) (x : RequestRule) → first_of (request_table q r) ≡ request_rule x → x ≡ rule.Made → first_of (request_table q r) ≡ Made
made_means q r x e k = e ∙ ap request_rule k

pub ruleset rules = (request_made, request_answered, request_ignored, request_in_flight, request_redirected, request_behind, request_full, made_means, answer_fits, answer_suits)

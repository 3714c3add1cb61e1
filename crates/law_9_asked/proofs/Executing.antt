-- An outcome in a reply is of a request that was executed; so the log has the order of time.
use Rattle.std.proofs.Common.{ℕ, ◌-◌, ◌≡◌, ◌∙◌, inl, inr, arith, refl, sym, ap, subst, List, Option, None, Some}
use Rattle.std.specs.Prelude.{slice_get, take}
use Rattle.std.specs.Option.{option_map}
use Rattle.std.proofs.lemmas.Bool.{cases_lt}
use Rattle.vr_state.specs.Folds.{answer_at, check, fresh_outcome, outcome_of, state_after, Answer as Said}
use Rattle.vr_state.specs.declared.session.SessionAnswer.{SessionAnswer}
use Rattle.vr_state.specs.declared.session.SessionAnswer.TheVariants as session
use Rattle.vr_state.specs.declared.state.State.{State}
use Rattle.vr_header.specs.Made.{Whole}
use Rattle.vr_header.specs.declared.header.Header.{Header}
use Rattle.vr_header.specs.declared.outcome.Outcome.{Outcome}
use Rattle.vr_msg.specs.declared.reply.Answered.{Answered}
use Rattle.vr_msg.specs.declared.reply.ReplyFields.{ReplyFields}
use Rattle.vr_msg.specs.declared.reply.ReplyKind.{ReplyKind}
use Rattle.vr_msg.specs.declared.request.RequestFields.{RequestFields}
use Rattle.vr_world.specs.Commitment.{IsOutcomeOf, IsReplyOf}
use Rattle.vr_world.specs.Lying.{Lying}
use Rattle.vr_world.specs.World.{Happening, World, in_version}
use Rattle.law_9_asked.specs.Asked.{AsksComeFirst, IsExecuted, IsMadeOf, IsNew, KeepsOrder, WasAsked, asked, asked_in_version}

-- what an entry answers
abbrev said_to : State → Whole → Said
said_to s e = record { client = e.header.client; request = e.header.request; answer = check s e; outcome = fresh_outcome s e (check s e) }

executed_by : (s : State) (x : Option Whole) (client request : ℕ) (o : Outcome) → option_map (said_to s) x ≡ Some (record { client = client; request = request; answer = session.Fresh; outcome = Some o })
    → (e : Whole) × (x ≡ Some e) × (e.header.client ≡ client) × (e.header.request ≡ request) × (check s e ≡ session.Fresh) × (o ≡ outcome_of s e)
executed_by s None client request o h = absurd cc
executed_by s (Some e) client request o h =
    let there : Said = said_to s e in
    let said : Said = record { client = client; request = request; answer = session.Fresh; outcome = Some o } in
    let same : there ≡ said = (let both : Some there ≡ Some said = h in cc) in
    let fresh : check s e ≡ session.Fresh = ap (λ (y : Said). y.answer) same in
    let outcome : Some (outcome_of s e) ≡ Some o = subst (λ (z : SessionAnswer). fresh_outcome s e z ≡ Some o) fresh (ap (λ (y : Said). y.outcome) same) in
    (e, refl, ap (λ (y : Said). y.client) same, ap (λ (y : Said). y.request) same, fresh, sym (let one : outcome_of s e ≡ o = cc in one))

pub executed : (log : List Whole) (lines : ℕ) (r : ReplyFields) (q : RequestFields) (a : Answered) → r.client ≡ q.client → r.request ≡ q.request → IsOutcomeOf log lines r a → IsExecuted log q a
unfolding answer_at
executed log lines r q a client number h =
    let y = executed_by (state_after (take (a.op - 1) log)) (slice_get log (a.op - 1)) r.client r.request a.outcome h.answer in
    record { entry = y.0; number = h.op.0; at = y.1; client = y.2 ∙ client; request = y.3 ∙ number; fresh = y.4; outcome = y.5 }

-- ---- the order

-- an entry that was asked for is of no client and number with which nobody asked
made_new : (q p : RequestFields) (e : Whole) → IsMadeOf e q → e.header.client ≡ p.client → e.header.request ≡ p.request → (q.client ≡ p.client) × (q.request ≡ p.request)
made_new q p e made client number = (ap (λ (h : Header). h.client) (sym made.header) ∙ client, ap (λ (h : Header). h.request) (sym made.header) ∙ number)

none_new : (xs : List Happening) (p : RequestFields) (e : Whole) → IsNew xs p → WasAsked xs e → e.header.client ≡ p.client → e.header.request ≡ p.request → ⊥
none_new xs p e new (asked at q c made) client number = let same = made_new q p e made client number in new at q (inl c) same.0 same.1
none_new xs p e new (asked_in_version at version q c made) client number =
    let same = made_new (in_version version q) p e made client number in
    new at q (inr c) same.0 same.1

pub keeps_order : (w : World Lying) (log : List Whole) (xs : List Happening) → AsksComeFirst w log xs → KeepsOrder w log xs
keeps_order w log xs asks = record {
  asks = asks;
  real_time = λ front rest is r a b p put kind new x.
      let s = asks front rest is r put in
      let out : IsOutcomeOf log s.entries r a = subst (λ (k : ReplyKind). IsReplyOf log s.entries s.after r k) kind s.says in
      let most = out.op.1 in
      elim (cases_lt a.op b.op) [
        | inl less ↦ less
        | inr more ↦
            let y = s.each b.op x.number (omega (arith, more, most)) in
            let both : Some y.entry ≡ Some x.entry = sym y.at ∙ x.at in
            let one : y.entry ≡ x.entry = cc in
            absurd (none_new front p y.entry new y.asked (ap (λ (e : Whole). e.header.client) one ∙ x.client) (ap (λ (e : Whole). e.header.request) one ∙ x.request))
      ];
}

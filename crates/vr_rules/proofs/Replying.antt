-- What is replied from sessions whose ops are numbers of entries: its op is one, too.
use Rattle.std.proofs.Common.{ℕ, ◌+◌, [], ◌∷◌, Option, Some, None, eqb, ltb, cond}
use Rattle.std.specs.Prelude.{IfSome, ⊤}
use Rattle.std.specs.List.{AllByRecursion}
use Rattle.std.specs.Option.{option_map_or}
use Rattle.std.specs.Ordering.{nat_cmp, eq_by_cmp}
use Rattle.std.proofs.lemmas.Bool.{cond_both}
use Rattle.std.specs.FinMap.Entries.{find}
use Rattle.vr_header.specs.Made.{Whole}
use Rattle.vr_state.specs.declared.session.Session.{Session}
use Rattle.vr_state.specs.declared.session.SessionAnswer.{SessionAnswer}
use Rattle.vr_state.specs.declared.session.SessionAnswer.TheVariants as answer
use Rattle.vr_state.specs.Sessions as sess
use Rattle.vr_state.specs.Sessions.{HaveNumbers}
use Rattle.vr_msg.specs.Asking.{IsReplyKind}
use Rattle.vr_msg.specs.Numbers.{IsNumber}
use Rattle.vr_state.specs.declared.state.State.{State}
use Rattle.vr_state.specs.Folds as state
use Rattle.vr_rules.specs.Outputs.{kind_of}

-- an answer of the sessions has such an op, where it has one
abbrev pub HasNumber : SessionAnswer → Type 0
HasNumber answer.Fresh = ⊤
HasNumber (answer.Repeat outcome op) = IsNumber op
HasNumber answer.Old = ⊤
HasNumber answer.Gap = ⊤
HasNumber answer.Evicted = ⊤

abbrev IsOfNumber : ℕ × Session → Type 0
IsOfNumber s = IsNumber s.1.op

find_kept : (key : ℕ) (m : sess.Map) → AllByRecursion IsOfNumber m → IfSome (find nat_cmp key m) (λ s. IsNumber s.op)
find_kept key [] h = tt
find_kept key (e ∷ es) h =
    cond_both (eq_by_cmp nat_cmp key e.0) (Some e.1) (find nat_cmp key es) (λ (o : Option Session). IfSome o (λ s. IsNumber s.op)) (λ t. h.0) (λ t. find_kept key es h.1)

judged_kept : (request : ℕ) (s : Session) → IsNumber s.op → HasNumber (sess.judged request s)
judged_kept request s h =
    cond_both (eqb request s.number) (answer.Repeat s.outcome s.op) (cond (ltb request s.number) answer.Old (cond (eqb request (s.number + 1)) answer.Fresh answer.Gap)) HasNumber
    (λ t. h)
    (λ t. cond_both (ltb request s.number) answer.Old (cond (eqb request (s.number + 1)) answer.Fresh answer.Gap) HasNumber
    (λ t. tt)
    (λ t. cond_both (eqb request (s.number + 1)) answer.Fresh answer.Gap HasNumber (λ t. tt) (λ t. tt)))

checked_kept : (o : Option Session) (request : ℕ) → IfSome o (λ s. IsNumber s.op) → HasNumber (option_map_or (sess.judged request) o (cond (eqb request 0) answer.Fresh answer.Evicted))
checked_kept (Some s) request h = judged_kept request s h
checked_kept None request h = cond_both (eqb request 0) answer.Fresh answer.Evicted HasNumber (λ t. tt) (λ t. tt)

-- what the sessions answer has a number
pub answer_numbered : (m : sess.Map) (client request : ℕ) → HaveNumbers m → HasNumber (sess.checked m client request)
unfolding HaveNumbers sess.checked
answer_numbered m client request h = checked_kept (find nat_cmp client m) request (find_kept client m h)

-- and so has what an applied entry answers
pub reply_numbered : (s : State) (e : Whole) → HaveNumbers s.sessions → IsNumber e.header.op → IsReplyKind (kind_of (state.applied s e).reply)
unfolding state.applied state.answered state.executed
reply_numbered s e h f =
    elim (state.check s e) as (λ a. HasNumber a → IsReplyKind (kind_of (state.answered s e a).reply)) [
      | answer.Fresh ↦ λ n. f
      | answer.Repeat outcome op ↦ λ n. n
      | answer.Old ↦ λ n. tt
      | answer.Gap ↦ λ n. tt
      | answer.Evicted ↦ λ n. tt
    ] (answer_numbered s.sessions e.header.client e.header.request h)

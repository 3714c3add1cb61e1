-- Numbers of entries in the sessions of a state.
use Rattle.std.proofs.Common.{◌≡◌, ◌≤◌, Ok, Err, refl, subst}
use Rattle.vr_header.specs.Made.{Whole}
use Rattle.vr_state.specs.Pairs.{kv_decoded}
use Rattle.vr_state.specs.declared.session.SessionAnswer.TheVariants as answer
use Rattle.vr_state.specs.Sessions.{HaveNumbers, last_op}
use Rattle.vr_state.specs.SessionTexts.{sessions_decoded}
use Rattle.vr_state.proofs.SessionNumbers.{decoded_numbers, numbers_applied}
use Rattle.vr_state.specs.declared.state.State.{State}
use Rattle.vr_state.specs.Folds.{check, asked, applied, answered, executed}
use Rattle.vr_state.specs.StateTexts.{TextsHaveNumbers, both_read}

-- an applied entry keeps them
pub numbers_kept : (s : State) (e : Whole) → HaveNumbers s.sessions → e.header.op ≤ last_op → HaveNumbers (applied s e).state.sessions
unfolding applied answered executed
numbers_kept s e h f =
    elim (check s e) as (λ a. HaveNumbers (answered s e a).state.sessions) [
      | answer.Fresh ↦ numbers_applied s.sessions (asked s e) h f
      | answer.Repeat outcome op ↦ h
      | answer.Old ↦ h
      | answer.Gap ↦ h
      | answer.Evicted ↦ h
    ]

pub texts_have_numbers : TextsHaveNumbers
texts_have_numbers t s e =
    elim (sessions_decoded t.sessions) as (λ o. sessions_decoded t.sessions ≡ o → both_read o (kv_decoded t.keys) ≡ Ok s → HaveNumbers s.sessions) [
      | Err fault ↦ λ i k. absurd cc
      | Ok m ↦ λ i. elim (kv_decoded t.keys) as (λ p. both_read (Ok m) p ≡ Ok s → HaveNumbers s.sessions) [
        | Err fault ↦ λ k. absurd cc
        | Ok machine ↦ λ k. let same : m ≡ s.sessions = cc in subst HaveNumbers same (decoded_numbers t.sessions m i)
      ]
    ] refl e

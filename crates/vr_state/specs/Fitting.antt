-- What a file of a version may hold.
use Rattle.std.specs.Prelude.{ℕ, ◌≤◌, Bool, true, ◌&&◌, IsTrue, ⊤, nat_le, length}
use Rattle.std.specs.List.{AllByRecursion, list_all}
use Rattle.std.specs.Ordering.{nat_cmp}
use Rattle.std.specs.FinMap.Entries.{is_sorted}
use Rattle.vr_base.specs.Versions.{by_version, session_limit, value_limit}
use Rattle.vr_header.specs.Bodies.{IsOutcome}
use Rattle.vr_header.specs.Text.{is_text}
use Rattle.vr_header.specs.declared.outcome.Outcome.{Outcome}
use Rattle.vr_header.specs.declared.outcome.Outcome.TheVariants as outcome
use Rattle.vr_state.specs.Finite.{IsMap}
use Rattle.vr_state.specs.Kv as kv
use Rattle.vr_state.specs.Pairs.{kv_bytes}
use Rattle.vr_state.specs.SessionTexts.{sessions_bytes}
use Rattle.vr_state.specs.StateTexts.{key_payloads, payloads, session_payloads}
use Rattle.vr_state.specs.Sessions as sess
use Rattle.vr_state.specs.declared.reply.ReplyBody.{ReplyBody}
use Rattle.vr_state.specs.declared.reply.ReplyBody.TheVariants as reply
use Rattle.vr_state.specs.declared.session.SessionAnswer.{SessionAnswer}
use Rattle.vr_state.specs.declared.session.SessionAnswer.TheVariants as answer
use Rattle.vr_state.specs.declared.state.State.{State}
use Rattle.vr_state.specs.declared.texts.Texts.{Texts}

abbrev pub outcome_fits : ℕ → Outcome → Bool
outcome_fits v outcome.Session = true
outcome_fits v outcome.Ok = true
outcome_fits v outcome.Full = true
outcome_fits v outcome.Absent = true
outcome_fits v (outcome.Value value) = is_text (value_limit v) value

-- ascending clients, of which a register of this version leaves so many, with outcomes of this version
unfoldable pub sessions_fit : ℕ → sess.Map → Bool
sessions_fit v m = is_sorted nat_cmp m && (nat_le (length m) (session_limit v) && list_all (λ e. outcome_fits v e.1.outcome) m)

-- values of this version
unfoldable pub keys_fit : ℕ → kv.Map → Bool
keys_fit v m = list_all (λ p. is_text (value_limit v) p.1) m

abbrev pub fits : ℕ → State → Bool
fits v s = sessions_fit v s.sessions && keys_fit v s.machine

-- the same, as facts
pub record Fits (v : ℕ) (s : State) : Type 0 where
  pub is_map : IsMap nat_cmp s.sessions
  pub few : length s.sessions ≤ session_limit v
  pub outcomes : AllByRecursion (λ e. IsOutcome v e.1.outcome) s.sessions
  pub values : AllByRecursion (λ p. IsTrue (is_text (value_limit v) p.1)) s.machine

-- the texts of a state that fits a version: no longer, and with no more payloads, than the version allows
pub record AreWithin (v : ℕ) (t : Texts) : Type 0 where
  pub sessions : length t.sessions ≤ sessions_bytes v
  pub keys : length t.keys ≤ kv_bytes v
  pub few_sessions : payloads (length t.sessions) ≤ by_version v 9 session_payloads
  pub few_keys : payloads (length t.keys) ≤ by_version v 36 key_payloads

-- what the sessions answer has an outcome of this version, if it has one
abbrev pub AnswerFits : ℕ → SessionAnswer → Type 0
AnswerFits v answer.Fresh = ⊤
AnswerFits v (answer.Repeat o op) = IsOutcome v o
AnswerFits v answer.Old = ⊤
AnswerFits v answer.Gap = ⊤
AnswerFits v answer.Evicted = ⊤

-- and so what an applied entry answers
abbrev pub ReplyFits : ℕ → ReplyBody → Type 0
ReplyFits v (reply.Outcome o op) = IsOutcome v o
ReplyFits v reply.Old = ⊤
ReplyFits v reply.Gap = ⊤
ReplyFits v reply.Evicted = ⊤

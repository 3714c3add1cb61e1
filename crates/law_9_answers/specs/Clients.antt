-- What the run of a client heard, ask by ask: of the clause of `run_client`.
use Rattle.std.proofs.Common.{inl, inr}
use Rattle.std.specs.Prelude.{ℕ, ◌+◌, ◌⊎◌, ◌≡◌, List, [], ◌∷◌, ◌++◌, length}
use Rattle.cmd_client.specs.Asking.{Client, EndsWith, Faults, Stand}
use Rattle.cmd_client.specs.Text.{answer_text}
use Rattle.cmd_client.specs.Run.{AreExchanged, ClientEnds, EndsAt, EndsLines, EndsRun, Exchange, Outside, Reading, StopsAt, reading_of, standing}
use Rattle.vr_client.specs.declared.answer.Answer.TheVariants as answer
use Rattle.vr_header.specs.declared.operation.Operation.{Operation}
use Rattle.vr_header.specs.declared.operation.Operation.TheVariants.{Register}
use Rattle.vr_base.specs.declared.status.Status.{Status}
use Rattle.vr_base.specs.declared.status.Status.TheVariants.{NoMemory, SessionLost, WriteFault}
use Rattle.law_9_answers.specs.Heard.{Heard, heard}

-- by the ask with which it ended: an answer that was written whole or in part
abbrev pub heard_last : (c : Client) (number : ℕ) (operation : Operation) (s s' : Stand) (before now : Faults) (status : Status)
    → EndsWith c number operation s s' before now status → List Heard
heard_last c k o s s' b n WriteFault h = heard c k o s s' h.1.answer h.1.asked ∷ []
heard_last c k o s s' b n SessionLost h = heard c k o s s' h.0 h.2.asked ∷ []
heard_last c k o s s' b n NoMemory (inl h) = []
heard_last c k o s s' b n NoMemory (inr h) = heard c k o s s' h.answer h.asked ∷ []
heard_last c k o s s' b n _ h = []

-- by exchanges, with numbers from this one on
abbrev pub heard_each : (c : Client) (number : ℕ) (r : Reading) (s : Stand) (xs : List Exchange) (r' : Reading) (s' : Stand)
    → AreExchanged c number r s xs r' s' → List Heard
heard_each c k r s [] r' s' h = []
heard_each c k r s (x ∷ xs) r' s' h = heard c k x.operation s h.1 (answer.Outcome x.answered) h.2.answered.asked ∷ heard_each c (k + 1) h.0 h.1 xs r' s' h.3

abbrev pub heard_at : (c : Client) (number : ℕ) (r : Reading) (s : Stand) (r' : Reading) (s' : Stand) (before now : Faults) (status : Status)
    → ((s' ≡ s) × StopsAt c.version number r r' status) ⊎ EndsAt c number r s r' s' before now status → List Heard
heard_at c k r s r' s' b n status (inl h) = []
heard_at c k r s r' s' b n status (inr h) = heard_last c k h.operation s s' b n status h.ends

abbrev pub heard_lines : (c : Client) (r : Reading) (s : Stand) (r' : Reading) (s' : Stand) (before now : Faults) (status : Status)
    → EndsLines c r s r' s' before now status → List Heard
heard_lines c r s r' s' b n status h =
    heard_each c 1 r s h.exchanges h.reads h.stands h.done
    ++ heard_at c (length h.exchanges + 1) h.reads h.stands r' s' b n status h.ends

abbrev pub heard_run : (c : Client) (r : Reading) (s : Stand) (r' : Reading) (s' : Stand) (before now : Faults) (status : Status)
    → EndsRun c r s r' s' before now status → List Heard
heard_run c r s r' s' b n status (inl h) = heard_last c 0 Register s s' b n status h.1
heard_run c r s r' s' b n status (inr h) = heard c 0 Register s h.1 (answer.Outcome h.0) h.2.asked ∷ heard_lines c r h.1 r' s' b n status h.3

-- by its whole run: none where its link couldn't be attached, or memory was short for the client itself
abbrev pub heard_client : (c : Client) (peers : List (List ℕ)) (o o' : Outside) (before now : Faults) (status : Status)
    → ClientEnds c peers o o' before now status → List Heard
heard_client c peers o o' b n status (inl h) = []
heard_client c peers o o' b n status (inr (t, inl h)) = []
heard_client c peers o o' b n status (inr (t, inr h)) = heard_run c (reading_of [] o) (standing 0 o) (reading_of h.rest o') (standing h.port o') b n status h.ends

-- the lines of these answers
abbrev pub lines_of : List Heard → List ℕ
lines_of [] = []
lines_of (t ∷ ts) = answer_text t.answer ++ lines_of ts

-- What the client of a trial heard, ask by ask: of the clause of `run_trial`.
use Rattle.std.proofs.Common.{inl, inr}
use Rattle.std.specs.Prelude.{ℕ, List, [], ◌∷◌, ◌++◌}
use Rattle.vr_client.specs.declared.answer.Answer.TheVariants as answer
use Rattle.vr_base.specs.declared.status.Status.{Status}
use Rattle.cmd_trial.specs.Run.{Does, DoesAll, Ends, Fails, FailsIn, Faults, Outside, Place, TrialEnds, begins, of_client, started, stopped}
use Rattle.cmd_trial.specs.Script.{number_of, script}
use Rattle.cmd_trial.specs.Told.{Trial, operation_of}
use Rattle.cmd_trial.specs.declared.step.Step.{Step}
use Rattle.cmd_trial.specs.declared.step.Step.TheVariants.{Start, Restart, Attach, Ask, Stop}
use Rattle.law_9_answers.specs.Heard.{Heard, heard}
use Rattle.law_9_answers.specs.Clients.{heard_last, lines_of}

-- by a step that went well
abbrev pub heard_step : (t : Trial) (step : Step) (p p' : Place) → Does t step p p' → List Heard
heard_step t (Ask question) p p' h = heard t.client (number_of question) (operation_of question) p.client p'.client (answer.Outcome h.0.0) h.0.1.asked ∷ []
heard_step t _ p p' h = []

-- by one that ended the trial
abbrev pub heard_end : (t : Trial) (step : Step) (p p' : Place) (before now : Faults) (status : Status) → Fails t step p p' before now status → List Heard
heard_end t (Ask question) p p' b n status h = heard_last t.client (number_of question) (operation_of question) p.client p'.client (of_client b) (of_client n) status h.0
heard_end t _ p p' b n status h = []

-- by steps one after the other, that all went well, or one of which ended the trial
abbrev pub heard_steps : (t : Trial) (steps : List Step) (p p' : Place) → DoesAll t steps p p' → List Heard
heard_steps t [] p p' h = []
heard_steps t (step ∷ steps) p p' h = heard_step t step p h.0 h.1 ++ heard_steps t steps h.0 p' h.2

abbrev pub heard_till : (t : Trial) (steps : List Step) (p p' : Place) (before now : Faults) (status : Status) → FailsIn t steps p p' before now status → List Heard
heard_till t [] p p' b n status h = []
heard_till t (step ∷ steps) p p' b n status (inl h) = heard_end t step p p' b n status h
heard_till t (step ∷ steps) p p' b n status (inr h) = heard_step t step p h.0 h.1 ++ heard_till t steps h.0 p' b n status h.2

abbrev pub heard_by : (t : Trial) (steps : List Step) (p : Place) (o : Outside) (before now : Faults) (status : Status) → Ends t steps p o before now status → List Heard
heard_by t steps p o b n status (inl h) = heard_steps t steps p h.last h.does
heard_by t steps p o b n status (inr h) = heard_till t steps p h.last b n status h.fails

-- by the whole trial
abbrev pub heard_trial : (t : Trial) (o o' : Outside) (before now : Faults) (status : Status) → TrialEnds t o o' before now status → List Heard
heard_trial t o o' b n status (inl h) = []
heard_trial t o o' b n status (inr h) = heard_by t (script t.client.n) (begins t o) o' b n status h

-- ---- what it writes

-- the lines of a step: of a member that starts or stops, and of what was heard
abbrev pub lines_with : Step → List Heard → List ℕ
lines_with (Start member) hs = started member
lines_with (Restart member) hs = started member
lines_with Attach hs = []
lines_with (Ask question) hs = lines_of hs
lines_with (Stop member) hs = stopped member

abbrev pub lines_through : (t : Trial) (steps : List Step) (p p' : Place) → DoesAll t steps p p' → List ℕ
lines_through t [] p p' h = []
lines_through t (step ∷ steps) p p' h = lines_with step (heard_step t step p h.0 h.1) ++ lines_through t steps h.0 p' h.2

-- up to the end of the step that ended the trial
abbrev pub lines_till : (t : Trial) (steps : List Step) (p p' : Place) (before now : Faults) (status : Status) → FailsIn t steps p p' before now status → List ℕ
lines_till t [] p p' b n status h = []
lines_till t (step ∷ steps) p p' b n status (inl h) = lines_with step (heard_end t step p p' b n status h)
lines_till t (step ∷ steps) p p' b n status (inr h) = lines_with step (heard_step t step p h.0 h.1) ++ lines_till t steps h.0 p' b n status h.2

abbrev pub lines_by : (t : Trial) (steps : List Step) (p : Place) (o : Outside) (before now : Faults) (status : Status) → Ends t steps p o before now status → List ℕ
lines_by t steps p o b n status (inl h) = lines_through t steps p h.last h.does
lines_by t steps p o b n status (inr h) = lines_till t steps p h.last b n status h.fails

abbrev pub lines_trial : (t : Trial) (o o' : Outside) (before now : Faults) (status : Status) → TrialEnds t o o' before now status → List ℕ
lines_trial t o o' b n status (inl h) = []
lines_trial t o o' b n status (inr h) = lines_by t (script t.client.n) (begins t o) o' b n status h

-- Each ask of a client and of a trial is of a request that can be asked; so what it hears is the log's.
use Rattle.std.proofs.Common.{ℕ, zero, suc, ◌+◌, ◌^◌, ◌<◌, ◌≡◌, ◌∙◌, ◌⊎◌, inl, inr, arith, refl, sym, subst, List, [], ◌∷◌, ◌++◌, length, map, take}
use Rattle.std.specs.Prelude.{⊤}
use Rattle.std.specs.List.{AllByRecursion}
use Rattle.cmd_client.specs.Asking as ask
use Rattle.cmd_client.specs.Asking.{Answers, Client, EndsWith, Stand, request_of}
use Rattle.cmd_client.specs.Run as client
use Rattle.cmd_client.specs.Run.{AreExchanged, ClientEnds, EndsAt, EndsLines, EndsRun, Exchange, Reading, StopsAt, reading_of, standing}
use Rattle.cmd_client.proofs.Exchanges.{later_first, later_fits}
use Rattle.vr_client.specs.declared.answer.Answer.{Answer}
use Rattle.vr_client.specs.declared.answer.Answer.TheVariants as answer
use Rattle.vr_header.specs.Bodies.{IsOperation}
use Rattle.vr_header.specs.Names.{header_name}
use Rattle.vr_header.specs.declared.operation.Operation.{Operation}
use Rattle.vr_header.specs.declared.operation.Operation.TheVariants.{Register}
use Rattle.vr_msg.specs.declared.request.RequestFields.{RequestFields}
use Rattle.vr_rules.specs.Fit.{IsAsked}
use Rattle.vr_base.specs.declared.status.Status.{Status}
use Rattle.vr_base.specs.declared.status.Status.TheVariants as status
use Rattle.cmd_trial.specs.Run as trial
use Rattle.cmd_trial.specs.Run.{Does, DoesAll, Ends, Fails, FailsIn, Place, TrialEnds, begins, of_client}
use Rattle.cmd_trial.specs.Script.{AreNext, IsNext, members, middle, number_after, number_of, script}
use Rattle.cmd_trial.specs.Told.{Trial, operation_of}
use Rattle.cmd_trial.specs.declared.step.Question.{Question}
use Rattle.cmd_trial.specs.declared.step.Question.TheVariants as question
use Rattle.cmd_trial.specs.declared.step.Step.{Step}
use Rattle.cmd_trial.specs.declared.step.Step.TheVariants.{Start, Restart, Attach, Ask, Stop}
use Rattle.cmd_trial.proofs.Numbering.{script_next}
use Rattle.cmd_trial.proofs.Texts.{key_text, value_fits}
use Rattle.law_1_machine.specs.Basics.{In}
use Rattle.law_7_members.specs.Files.{ActBy}
use Rattle.law_7_members.proofs.Whole.{runs_keep_one_log}
use Rattle.law_9_answers.specs.Clients.{heard_at, heard_client, heard_each, heard_last, heard_lines, heard_run}
use Rattle.law_9_answers.specs.Laws.{AreOfLog, IsNumbered, MayBeHeard, OneLogAnswers, RunsAnswerByOneLog}
use Rattle.law_9_answers.specs.Heard.{IsOfLog, IsPutOut, Heard, heard}
use Rattle.law_9_answers.specs.Trials.{heard_by, heard_end, heard_step, heard_steps, heard_till, heard_trial}
use Rattle.law_9_answers.proofs.Answering.{is_of_log}
use Rattle.law_9_answers.proofs.Hearing.{IsGiven, ask_given}
use Rattle.law_9_asked.specs.Asked.{header_of}

all_both : {X : Type 0} (P : X → Type 0) (xs ys : List X) → AllByRecursion P xs → AllByRecursion P ys → AllByRecursion P (xs ++ ys)
all_both P [] ys h k = k
all_both P (x ∷ xs) ys h k = (h.0, all_both P xs ys h.1 k)

all_take : {X : Type 0} (P : X → Type 0) (k : ℕ) (xs : List X) → AllByRecursion P xs → AllByRecursion P (take k xs)
all_take P zero [] h = tt
all_take P (suc k) [] h = tt
all_take P zero (x ∷ xs) h = tt
all_take P (suc k) (x ∷ xs) h = (h.0, all_take P k xs h.1)

-- the operation of a line is none that begins a session, and one of the client's version
abbrev Begins : Operation → ℕ → Type 0
Begins operation number = (operation ≡ Register → number ≡ 0) × (number ≡ 0 → operation ≡ Register)

begins_first : Begins Register 0
begins_first = (λ e. refl, λ e. refl)

-- ---- the steps of a trial

abbrev IsFine : Step → Type 0
IsFine (Ask (question.Put key)) = key < 1000
IsFine (Ask (question.Get key)) = key < 1000
IsFine _ = ⊤

fine_middle : AllByRecursion IsFine middle
fine_middle =
    (tt, (tt, (omega arith, (omega arith, (omega arith, (omega arith, (omega arith, (omega arith, (omega arith, (omega arith, (tt, (tt, (omega arith, (omega arith, (omega arith, (omega arith, (omega arith, (omega arith, (omega arith, (omega arith, tt))))))))))))))))))))

fine_script : (n : ℕ) → AllByRecursion IsFine (script n)
fine_script n =
    all_both IsFine (take n (map Start members)) (middle ++ take n (map Stop members)) (all_take IsFine n (map Start members) (tt, (tt, (tt, (tt, (tt, (tt, tt)))))))
    (all_both IsFine middle (take n (map Stop members)) fine_middle (all_take IsFine n (map Stop members) (tt, (tt, (tt, (tt, (tt, (tt, tt))))))))

fine_fits : (version : ℕ) (q : Question) → IsFine (Ask q) → IsOperation version (operation_of q)
fine_fits version question.Register h = tt
fine_fits version (question.Put key) h = (key_text key h, value_fits version key h)
fine_fits version (question.Get key) h = key_text key h

-- ---- what was heard

-- an ask of this client, of a request that can be asked: its answer was in a reply, where the network brought what was received
pub record IsAsk (c : Client) (t : Heard) : Type 0 where
  pub version : t.request.version ≡ c.version
  pub cluster : t.request.cluster ≡ c.cluster
  pub id : t.request.client ≡ c.id
  pub asked : IsAsked t.request
  pub range : t.request.cluster < 2 ^ 64
  pub given : (xs : List ActBy) → AllByRecursion (IsPutOut xs c.version c.cluster) t.received → IsGiven xs (header_name (header_of t.request)) t.answer

module _ (c : Client) (is : IsNumbered c) where
  abbrev AreAsks : List Heard → Type 0
  AreAsks ts = AllByRecursion (IsAsk c) ts

  ask_heard : (i : ℕ) (o : Operation) (s s' : Stand) (a : Answer) (h : Answers c i o s s' a) → i < 2 ^ 32 → Begins o i → IsOperation c.version o → IsAsk c (heard c i o s s' a h)
  ask_heard i o s s' a h small first fits = record {
    version = refl;
    cluster = refl;
    id = refl;
    asked = record { form = record { first = first; fits = fits }; client = is.id; request = small; version = is.version };
    range = is.cluster;
    given = λ xs put. ask_given xs c i o s s' a h put;
  }

  ask_last : (i : ℕ) (o : Operation) (s s' : Stand) (b m : ask.Faults) (z : Status) (h : EndsWith c i o s s' b m z) → i < 2 ^ 32 → Begins o i → IsOperation c.version o → AreAsks (heard_last c i o s s' b m z h)
  ask_last i o s s' b m status.WriteFault h small first fits = (ask_heard i o s s' h.1.answer h.1.asked small first fits, tt)
  ask_last i o s s' b m status.SessionLost h small first fits = (ask_heard i o s s' h.0 h.2.asked small first fits, tt)
  ask_last i o s s' b m status.NoMemory (inl h) small first fits = tt
  ask_last i o s s' b m status.NoMemory (inr h) small first fits = (ask_heard i o s s' h.answer h.asked small first fits, tt)
  ask_last i o s s' b m status.NoAnswer h small first fits = tt
  ask_last i o s s' b m status.LinkFault h small first fits = tt
  ask_last i o s s' b m status.Done h small first fits = tt
  ask_last i o s s' b m status.Usage h small first fits = tt
  ask_last i o s s' b m (status.Refused line) h small first fits = tt
  ask_last i o s s' b m status.ReadFault h small first fits = tt
  ask_last i o s s' b m status.DiskFault h small first fits = tt
  ask_last i o s s' b m status.SuperLost h small first fits = tt
  ask_last i o s s' b m (status.OtherMember found asked) h small first fits = tt
  ask_last i o s s' b m status.Occupied h small first fits = tt
  ask_last i o s s' b m status.SpawnFault h small first fits = tt

  ask_each : (i : ℕ) (r : Reading) (s : Stand) (ys : List Exchange) (r' : Reading) (s' : Stand) (h : AreExchanged c i r s ys r' s') → 0 < i → i + length ys < 2 ^ 32 → AreAsks (heard_each c i r s ys r' s' h)
  ask_each i r s [] r' s' h some small = tt
  ask_each i r s (y ∷ ys) r' s' h some small = (
    ask_heard i y.operation s h.1 (answer.Outcome y.answered) h.2.answered.asked (omega (arith, small)) (later_first c.version y.line y.operation i h.2.meant some) (later_fits c.version y.line y.operation h.2.meant),
    ask_each (i + 1) h.0 h.1 ys r' s' h.3 (omega arith) (omega (arith, small)),
  )

  ask_at : (i : ℕ) (r : Reading) (s : Stand) (r' : Reading) (s' : Stand) (b m : ask.Faults) (z : Status) (h : ((s' ≡ s) × StopsAt c.version i r r' z) ⊎ EndsAt c i r s r' s' b m z) → 0 < i → i < 2 ^ 32
      → AreAsks (heard_at c i r s r' s' b m z h)
  ask_at i r s r' s' b m z (inl h) some small = tt
  ask_at i r s r' s' b m z (inr h) some small = ask_last i h.operation s s' b m z h.ends small (later_first c.version h.line h.operation i h.meant some) (later_fits c.version h.line h.operation h.meant)

  ask_lines : (r : Reading) (s : Stand) (r' : Reading) (s' : Stand) (b m : ask.Faults) (z : Status) (h : EndsLines c r s r' s' b m z) → AreAsks (heard_lines c r s r' s' b m z h)
  ask_lines r s r' s' b m z h =
      let short = h.few in
      all_both (IsAsk c) (heard_each c 1 r s h.exchanges h.reads h.stands h.done) (heard_at c (length h.exchanges + 1) h.reads h.stands r' s' b m z h.ends)
      (ask_each 1 r s h.exchanges h.reads h.stands h.done (omega arith) (omega (arith, short)))
      (ask_at (length h.exchanges + 1) h.reads h.stands r' s' b m z h.ends (omega arith) (omega (arith, short)))

  ask_run : (r : Reading) (s : Stand) (r' : Reading) (s' : Stand) (b m : ask.Faults) (z : Status) (h : EndsRun c r s r' s' b m z) → AreAsks (heard_run c r s r' s' b m z h)
  ask_run r s r' s' b m z (inl h) = ask_last 0 Register s s' b m z h.1 (omega arith) begins_first tt
  ask_run r s r' s' b m z (inr h) = (ask_heard 0 Register s h.1 (answer.Outcome h.0) h.2.asked (omega arith) begins_first tt, ask_lines r h.1 r' s' b m z h.3)

  pub ask_client : (peers : List (List ℕ)) (o o' : client.Outside) (b m : ask.Faults) (z : Status) (h : ClientEnds c peers o o' b m z) → AreAsks (heard_client c peers o o' b m z h)
  ask_client peers o o' b m z (inl h) = tt
  ask_client peers o o' b m z (inr (t, inl h)) = tt
  ask_client peers o o' b m z (inr (t, inr h)) = ask_run (reading_of [] o) (standing 0 o) (reading_of h.rest o') (standing h.port o') b m z h.ends

module _ (t : Trial) (is : IsNumbered t.client) where
  abbrev AreTheirs : List Heard → Type 0
  AreTheirs ts = AllByRecursion (IsAsk t.client) ts

  first_of : (i : ℕ) (q : Question) → IsNext i (Ask q) → Begins (operation_of q) (number_of q)
  first_of i q h = (λ e. h.0 ∙ h.2.0 e, λ e. h.2.1 (sym h.0 ∙ e))

  small_of : (i : ℕ) (q : Question) → IsNext i (Ask q) → number_of q < 2 ^ 32
  small_of i q h = subst (λ (j : ℕ). j < 2 ^ 32) (sym h.0) h.1

  asks_step : (i : ℕ) (x : Step) (p p' : Place) (h : Does t x p p') → IsNext i x → IsFine x → AreTheirs (heard_step t x p p' h)
  asks_step i (Ask q) p p' h next fine =
      (ask_heard t.client is (number_of q) (operation_of q) p.client p'.client (answer.Outcome h.0.0) h.0.1.asked (small_of i q next) (first_of i q next) (fine_fits t.client.version q fine), tt)
  asks_step i (Start member) p p' h next fine = tt
  asks_step i (Restart member) p p' h next fine = tt
  asks_step i Attach p p' h next fine = tt
  asks_step i (Stop member) p p' h next fine = tt

  asks_end : (i : ℕ) (x : Step) (p p' : Place) (b m : trial.Faults) (z : Status) (h : Fails t x p p' b m z) → IsNext i x → IsFine x → AreTheirs (heard_end t x p p' b m z h)
  asks_end i (Ask q) p p' b m z h next fine =
      ask_last t.client is (number_of q) (operation_of q) p.client p'.client (of_client b) (of_client m) z h.0 (small_of i q next) (first_of i q next) (fine_fits t.client.version q fine)
  asks_end i (Start member) p p' b m z h next fine = tt
  asks_end i (Restart member) p p' b m z h next fine = tt
  asks_end i Attach p p' b m z h next fine = tt
  asks_end i (Stop member) p p' b m z h next fine = tt

  asks_steps : (i : ℕ) (ys : List Step) (p p' : Place) (h : DoesAll t ys p p') → AreNext i ys → AllByRecursion IsFine ys → AreTheirs (heard_steps t ys p p' h)
  asks_steps i [] p p' h next fine = tt
  asks_steps i (y ∷ ys) p p' h next fine =
      all_both (IsAsk t.client) (heard_step t y p h.0 h.1) (heard_steps t ys h.0 p' h.2) (asks_step i y p h.0 h.1 next.0 fine.0) (asks_steps (number_after i y) ys h.0 p' h.2 next.1 fine.1)

  asks_till : (i : ℕ) (ys : List Step) (p p' : Place) (b m : trial.Faults) (z : Status) (h : FailsIn t ys p p' b m z) → AreNext i ys → AllByRecursion IsFine ys → AreTheirs (heard_till t ys p p' b m z h)
  asks_till i [] p p' b m z h next fine = tt
  asks_till i (y ∷ ys) p p' b m z (inl h) next fine = asks_end i y p p' b m z h next.0 fine.0
  asks_till i (y ∷ ys) p p' b m z (inr h) next fine =
      all_both (IsAsk t.client) (heard_step t y p h.0 h.1) (heard_till t ys h.0 p' b m z h.2) (asks_step i y p h.0 h.1 next.0 fine.0) (asks_till (number_after i y) ys h.0 p' b m z h.2 next.1 fine.1)

  asks_by : (i : ℕ) (ys : List Step) (p : Place) (o : trial.Outside) (b m : trial.Faults) (z : Status) (h : Ends t ys p o b m z) → AreNext i ys → AllByRecursion IsFine ys → AreTheirs (heard_by t ys p o b m z h)
  asks_by i ys p o b m z (inl h) next fine = asks_steps i ys p h.last h.does next fine
  asks_by i ys p o b m z (inr h) next fine = asks_till i ys p h.last b m z h.fails next fine

  pub asks_trial : (o o' : trial.Outside) (b m : trial.Faults) (z : Status) (h : TrialEnds t o o' b m z) → AreTheirs (heard_trial t o o' b m z h)
  asks_trial o o' b m z (inl h) = tt
  asks_trial o o' b m z (inr h) = asks_by 0 (script t.client.n) (begins t o) o' b m z h (script_next t.client.n) (fine_script t.client.n)

-- ---- of all

-- the requests of these are among those
abbrev AreAmong : List Heard → List RequestFields → Type 0
AreAmong ts own = AllByRecursion (λ (t : Heard). In t.request own) ts

later : (ts : List Heard) (q : RequestFields) (own : List RequestFields) → AreAmong ts own → AreAmong ts (q ∷ own)
later [] q own h = tt
later (t ∷ ts) q own h = (inr h.0, later ts q own h.1)

their_own : (ts : List Heard) → AreAmong ts (map (λ (t : Heard). t.request) ts)
their_own [] = tt
their_own (t ∷ ts) = (inl refl, later ts t.request (map (λ (t : Heard). t.request) ts) (their_own ts))

each_its : (P Q R S : Heard → Type 0) → ((t : Heard) → P t → Q t → R t → S t) → (ts : List Heard) → AllByRecursion P ts → AllByRecursion Q ts → AllByRecursion R ts → AllByRecursion S ts
each_its P Q R S f [] h k l = tt
each_its P Q R S f (t ∷ ts) h k l = (f t h.0 k.0 l.0, each_its P Q R S f ts h.1 k.1 l.1)

pub one_log_answers : OneLogAnswers
one_log_answers kinds cluster n hosts xs are number few many one =
    let all : (c : Client) (ts : List Heard) → AllByRecursion (IsAsk c) ts → MayBeHeard c xs ts → AreOfLog kinds cluster n hosts xs one ts = λ c ts asks may.
    let own = map (λ (t : Heard). t.request) ts in
    each_its (IsAsk c) (λ (t : Heard). AllByRecursion (IsPutOut xs c.version c.cluster) t.received) (λ (t : Heard). In t.request own) (IsOfLog cluster n xs one.log.safe.log one.log.matched.run)
    (λ t ask put mine. is_of_log kinds cluster n hosts xs are number few many one own may.names t ask.asked ask.range mine (ask.given xs put)) ts asks may.carried (their_own ts) in
    record {
      clients = λ c peers o o' b m z h is may. all c (heard_client c peers o o' b m z h) (ask_client c is peers o o' b m z h) may;
      trials = λ t o o' b m z h is may. all t.client (heard_trial t o o' b m z h) (asks_trial t is o o' b m z h) may;
    }

pub runs_answer : RunsAnswerByOneLog
runs_answer kinds cluster n hosts xs are number few many short r never =
    let one = runs_keep_one_log kinds cluster n hosts xs are number few many short r never in
    (one, one_log_answers kinds cluster n hosts xs are number few many one)

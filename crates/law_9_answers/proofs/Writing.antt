-- What a client and a trial write is the lines of what they heard.
use Rattle.std.proofs.Common.{ℕ, ◌+◌, ◌≡◌, ◌∙◌, ◌⊎◌, inl, inr, refl, sym, ap, subst, true, false, List, [], ◌∷◌, ◌++◌, length, Option}
use Rattle.std.specs.Io.KnownBytes.{Appends}
use Rattle.std.proofs.KnownBytes.{Appends-nil, Appends-trans}
use Rattle.std.proofs.lemmas.List.{append-nil, append_assoc}
use Rattle.cmd_client.specs.Asking as ask
use Rattle.cmd_client.specs.Asking.{Client, EndsWith, Stand}
use Rattle.cmd_client.specs.Run as client
use Rattle.cmd_client.specs.Run.{AreExchanged, EndsAt, EndsLines, EndsRun, Exchange, Reading, StopsAt, reading_of, standing}
use Rattle.cmd_client.specs.Text.{answer_text}
use Rattle.vr_client.specs.declared.answer.Answer.TheVariants as answer
use Rattle.vr_edge.specs.Told.{AppendsFront}
use Rattle.vr_header.specs.declared.operation.Operation.{Operation}
use Rattle.vr_header.specs.declared.operation.Operation.TheVariants.{Register}
use Rattle.vr_base.specs.declared.status.Status.{Status}
use Rattle.vr_base.specs.declared.status.Status.TheVariants as status
use Rattle.vr_spawn.specs.declared.spawner.SpawnCall.{SpawnCall}
use Rattle.cmd_trial.specs.Run as trial
use Rattle.cmd_trial.specs.Run.{BreaksOff, Does, DoesAll, Ends, Fails, FailsIn, Members, Place, begins, of_client, started, stopped}
use Rattle.cmd_trial.specs.Script.{number_of, script}
use Rattle.cmd_trial.specs.Told.{Trial, operation_of, start_words}
use Rattle.cmd_trial.specs.declared.step.Step.{Step}
use Rattle.cmd_trial.specs.declared.step.Step.TheVariants.{Start, Restart, Attach, Ask, Stop}
use Rattle.law_9_answers.specs.Clients.{lines_of, heard_at, heard_each, heard_last, heard_lines, heard_run}
use Rattle.law_9_answers.specs.Laws.{ClientsWriteWhatTheyHear, TrialsWriteWhatTheyHear}
use Rattle.law_9_answers.specs.Heard.{Heard}
use Rattle.law_9_answers.specs.Trials.{heard_end, heard_step, lines_by, lines_through, lines_till, lines_with}

-- ---- fronts

front_more : (t u : Option (List ℕ)) (a b : List ℕ) → AppendsFront t u a → AppendsFront t u (a ++ b)
front_more t u a b f = (f.0, f.1 ++ b, f.2, sym (append_assoc f.0 f.1 b) ∙ ap (λ (x : List ℕ). x ++ b) f.3)

front_then : (t u v : Option (List ℕ)) (a b : List ℕ) → Appends t u a → AppendsFront u v b → AppendsFront t v (a ++ b)
front_then t u v a b x f = (a ++ f.0, f.1, Appends-trans t u v a f.0 x f.2, append_assoc a f.0 f.1 ∙ ap (λ (y : List ℕ). a ++ y) f.3)

front_all : (t u : Option (List ℕ)) (a : List ℕ) → Appends t u a → AppendsFront t u a
front_all t u a x = (a, [], x, append-nil a)

front_same : (t u : Option (List ℕ)) (a : List ℕ) → u ≡ t → AppendsFront t u a
front_same t u a e = ([], a, subst (λ (z : Option (List ℕ)). Appends t z []) (sym e) (Appends-nil t), refl)

lines_both : (xs ys : List Heard) → lines_of (xs ++ ys) ≡ lines_of xs ++ lines_of ys
lines_both [] ys = refl
lines_both (x ∷ xs) ys = ap (λ (l : List ℕ). answer_text x.answer ++ l) (lines_both xs ys) ∙ sym (append_assoc (answer_text x.answer) (lines_of xs) (lines_of ys))

-- ---- a client

module _ (c : Client) where
  writes_last : (i : ℕ) (o : Operation) (s s' : Stand) (b m : ask.Faults) (z : Status) (h : EndsWith c i o s s' b m z) → AppendsFront s.taken s'.taken (lines_of (heard_last c i o s s' b m z h))
  writes_last i o s s' b m status.WriteFault h = front_more s.taken s'.taken (answer_text h.1.answer) [] h.1.front
  writes_last i o s s' b m status.SessionLost h = front_more s.taken s'.taken (answer_text h.0) [] (front_all s.taken s'.taken (answer_text h.0) h.2.written)
  writes_last i o s s' b m status.NoMemory (inl (inl h)) = front_same s.taken s'.taken [] h.unwritten
  writes_last i o s s' b m status.NoMemory (inl (inr h)) = front_same s.taken s'.taken [] h.taken
  writes_last i o s s' b m status.NoMemory (inr h) = front_more s.taken s'.taken (answer_text h.answer) [] h.front
  writes_last i o s s' b m status.NoAnswer h = front_same s.taken s'.taken [] h.unwritten
  writes_last i o s s' b m status.LinkFault h = front_same s.taken s'.taken [] h.1.unwritten
  writes_last i o s s' b m status.Done h = absurd h
  writes_last i o s s' b m status.Usage h = absurd h
  writes_last i o s s' b m (status.Refused line) h = absurd h
  writes_last i o s s' b m status.ReadFault h = absurd h
  writes_last i o s s' b m status.DiskFault h = absurd h
  writes_last i o s s' b m status.SuperLost h = absurd h
  writes_last i o s s' b m (status.OtherMember found asked) h = absurd h
  writes_last i o s s' b m status.Occupied h = absurd h
  writes_last i o s s' b m status.SpawnFault h = absurd h

  writes_each : (i : ℕ) (r : Reading) (s : Stand) (ys : List Exchange) (r' : Reading) (s' : Stand) (h : AreExchanged c i r s ys r' s') → Appends s.taken s'.taken (lines_of (heard_each c i r s ys r' s' h))
  writes_each i r s [] r' s' h = subst (λ (z : Stand). Appends s.taken z.taken []) (sym h.1) (Appends-nil s.taken)
  writes_each i r s (y ∷ ys) r' s' h =
      let mid : Stand = h.1 in
      Appends-trans s.taken mid.taken s'.taken (answer_text (answer.Outcome y.answered)) (lines_of (heard_each c (i + 1) h.0 h.1 ys r' s' h.3)) h.2.answered.written (writes_each (i + 1) h.0 h.1 ys r' s' h.3)

  writes_at : (i : ℕ) (r : Reading) (s : Stand) (r' : Reading) (s' : Stand) (b m : ask.Faults) (z : Status) (h : ((s' ≡ s) × StopsAt c.version i r r' z) ⊎ EndsAt c i r s r' s' b m z) → AppendsFront s.taken s'.taken (lines_of (heard_at c i r s r' s' b m z h))
  writes_at i r s r' s' b m z (inl h) = front_same s.taken s'.taken [] (ap (λ (y : Stand). y.taken) h.0)
  writes_at i r s r' s' b m z (inr h) = writes_last i h.operation s s' b m z h.ends

  writes_lines : (r : Reading) (s : Stand) (r' : Reading) (s' : Stand) (b m : ask.Faults) (z : Status) (h : EndsLines c r s r' s' b m z) → AppendsFront s.taken s'.taken (lines_of (heard_lines c r s r' s' b m z h))
  writes_lines r s r' s' b m z h =
      let each = heard_each c 1 r s h.exchanges h.reads h.stands h.done in
      let last = heard_at c (length h.exchanges + 1) h.reads h.stands r' s' b m z h.ends in
      subst (AppendsFront s.taken s'.taken) (sym (lines_both each last))
      (front_then s.taken h.stands.taken s'.taken (lines_of each) (lines_of last) (writes_each 1 r s h.exchanges h.reads h.stands h.done) (writes_at (length h.exchanges + 1) h.reads h.stands r' s' b m z h.ends))

  writes_run : (r : Reading) (s : Stand) (r' : Reading) (s' : Stand) (b m : ask.Faults) (z : Status) (h : EndsRun c r s r' s' b m z) → AppendsFront s.taken s'.taken (lines_of (heard_run c r s r' s' b m z h))
  writes_run r s r' s' b m z (inl h) = writes_last 0 Register s s' b m z h.1
  writes_run r s r' s' b m z (inr h) =
      let mid : Stand = h.1 in
      front_then s.taken mid.taken s'.taken (answer_text (answer.Outcome h.0)) (lines_of (heard_lines c r h.1 r' s' b m z h.3)) h.2.written (writes_lines r h.1 r' s' b m z h.3)

pub clients_write : ClientsWriteWhatTheyHear
clients_write c peers o o' b m z (inl h) = front_same o.taken o'.taken [] (ap (λ (x : client.Outside). x.taken) h.same)
clients_write c peers o o' b m z (inr (t, inl h)) = front_same o.taken o'.taken [] (ap (λ (x : client.Outside). x.taken) h.same)
clients_write c peers o o' b m z (inr (t, inr h)) = writes_run c (reading_of [] o) (standing 0 o) (reading_of h.rest o') (standing h.port o') b m z h.ends

-- ---- a trial

breaks_off : (Changes : Members → Members → Type 0) (calls : List SpawnCall) (line : List ℕ) (m m' : Members) (t u : Option (List ℕ)) (b n : trial.Counts) (z : Status) → BreaksOff Changes calls line m m' t u b n z → AppendsFront t u line
breaks_off Changes calls line m m' t u b n z (inl h) = front_same t u line h.1
breaks_off Changes calls line m m' t u b n z (inr h) = h.1.front

module _ (t : Trial) where
  step_writes : (x : Step) (p p' : Place) (h : Does t x p p') → Appends p.client.taken p'.client.taken (lines_with x (heard_step t x p p' h))
  step_writes (Start member) p p' h = h.0.written
  step_writes (Restart member) p p' h = h.0.written
  step_writes Attach p p' h = subst (λ (q : Place). Appends p.client.taken q.client.taken []) (sym h.same) (Appends-nil p.client.taken)
  step_writes (Ask q) p p' h = subst (Appends p.client.taken p'.client.taken) (sym (append-nil (answer_text (answer.Outcome h.0.0)))) h.0.1.written
  step_writes (Stop member) p p' h = h.0.written

  end_writes : (x : Step) (p p' : Place) (b n : trial.Faults) (z : Status) (h : Fails t x p p' b n z) → AppendsFront p.client.taken p'.client.taken (lines_with x (heard_end t x p p' b n z h))
  end_writes (Start member) p p' b n z h = breaks_off (trial.Starts (start_words t member true) member) _ (started member) p.members p'.members p.client.taken p'.client.taken b.counts n.counts z h.0
  end_writes (Restart member) p p' b n z h = breaks_off (trial.Starts (start_words t member false) member) _ (started member) p.members p'.members p.client.taken p'.client.taken b.counts n.counts z h.0
  end_writes Attach p p' b n z h = front_same p.client.taken p'.client.taken [] (ap (λ (q : Place). q.client.taken) h.2.same)
  end_writes (Ask q) p p' b n z h = writes_last t.client (number_of q) (operation_of q) p.client p'.client (of_client b) (of_client n) z h.0
  end_writes (Stop member) p p' b n z h = breaks_off (trial.Stops member) _ (stopped member) p.members p'.members p.client.taken p'.client.taken b.counts n.counts z h.0

  steps_write : (ys : List Step) (p p' : Place) (h : DoesAll t ys p p') → Appends p.client.taken p'.client.taken (lines_through t ys p p' h)
  steps_write [] p p' h = subst (λ (q : Place). Appends p.client.taken q.client.taken []) (sym h) (Appends-nil p.client.taken)
  steps_write (y ∷ ys) p p' h =
      let mid : Place = h.0 in
      Appends-trans p.client.taken mid.client.taken p'.client.taken (lines_with y (heard_step t y p h.0 h.1)) (lines_through t ys h.0 p' h.2) (step_writes y p h.0 h.1) (steps_write ys h.0 p' h.2)

  till_writes : (ys : List Step) (p p' : Place) (b n : trial.Faults) (z : Status) (h : FailsIn t ys p p' b n z) → AppendsFront p.client.taken p'.client.taken (lines_till t ys p p' b n z h)
  till_writes [] p p' b n z h = absurd h
  till_writes (y ∷ ys) p p' b n z (inl h) = end_writes y p p' b n z h
  till_writes (y ∷ ys) p p' b n z (inr h) =
      let mid : Place = h.0 in
      front_then p.client.taken mid.client.taken p'.client.taken (lines_with y (heard_step t y p h.0 h.1)) (lines_till t ys h.0 p' b n z h.2) (step_writes y p h.0 h.1) (till_writes ys h.0 p' b n z h.2)

  by_writes : (ys : List Step) (p : Place) (o : trial.Outside) (b n : trial.Faults) (z : Status) (h : Ends t ys p o b n z) → AppendsFront p.client.taken o.taken (lines_by t ys p o b n z h)
  by_writes ys p o b n z (inl h) =
      let last : Place = h.last in
      let is : o.taken ≡ last.client.taken = ap (λ (x : trial.Outside). x.taken) h.ends in
      subst (λ (u : Option (List ℕ)). AppendsFront p.client.taken u (lines_through t ys p h.last h.does)) (sym is) (front_all p.client.taken last.client.taken (lines_through t ys p h.last h.does) (steps_write ys p h.last h.does))
  by_writes ys p o b n z (inr h) =
      let last : Place = h.last in
      let is : o.taken ≡ last.client.taken = ap (λ (x : trial.Outside). x.taken) h.ends in
      subst (λ (u : Option (List ℕ)). AppendsFront p.client.taken u (lines_till t ys p h.last b n z h.fails)) (sym is) (till_writes ys p h.last b n z h.fails)

pub trials_write : TrialsWriteWhatTheyHear
trials_write t o o' b n z (inl h) = front_same o.taken o'.taken [] (ap (λ (x : trial.Outside). x.taken) h.1)
trials_write t o o' b n z (inr h) = by_writes t (script t.client.n) (begins t o) o' b n z h

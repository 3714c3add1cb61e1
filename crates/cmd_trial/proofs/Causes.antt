-- A fault has its cause in the object that was handed in.
use Rattle.std.proofs.Common.{◌≡◌, ◌≤◌, ◌⊎◌, ℕ, List, [], ◌∷◌, ◌++◌, true, false, Bool, Option, None, Result, Ok, Err, refl, sym, ap, inl, inr, subst, arith}
use Rattle.std.specs.Prelude.{IfErr}
use Rattle.cmd_client.proofs.Exchanges.{ends_later}
use Rattle.cmd_client.proofs.Runs.{asked_last}
use Rattle.cmd_client.specs.Asking as ask
use Rattle.cmd_client.specs.Asking.{CountsLinks}
use Rattle.vr_base.specs.Causes.{Rose}
use Rattle.vr_edge.specs.Attaching.{attach_of}
use Rattle.vr_edge.specs.Datagrams.{Arrival}
use Rattle.vr_edge.specs.Failing.{LinkFailure}
use Rattle.vr_edge.specs.Told.{Grows}
use Rattle.vr_edge.specs.declared.attach.Attach.{Attach as Attached}
use Rattle.vr_mail.proofs.Growing.{failure_after, grows_nil}
use Rattle.vr_spawn.specs.declared.spawner.SpawnCall.{SpawnCall}
use Rattle.vr_base.proofs.Counting.{links_kept}
use Rattle.vr_base.specs.Counts.{links_after}
use Rattle.vr_base.specs.declared.status.Status.{Status}
use Rattle.vr_base.specs.declared.status.Status.TheVariants as status
use Rattle.cmd_trial.specs.Run.{AsksNothing, BreaksOff, CantCall, Counts, Does, Ends, Fails, FailsIn, Faults, IsCut, Members, Outside, Place, Starts, Stops, faults, of_client, running_at, start_call, started, stopped, stops_of}
use Rattle.cmd_trial.specs.Script.{number_of}
use Rattle.cmd_trial.specs.Told.{Trial, operation_of, start_words}
use Rattle.cmd_trial.specs.declared.step.Step.{Step}
use Rattle.cmd_trial.specs.declared.step.Step.TheVariants.{Start, Restart, Attach, Ask, Stop}

-- ---- counts from the beginning on

cant_earlier : (calls : List SpawnCall) (m m' : Members) (b mid n : ℕ) (s : Status) → b ≤ mid → CantCall calls m m' mid n s → CantCall calls m m' b n s
cant_earlier calls m m' b mid n s h (inl x) = inl x
cant_earlier calls m m' b mid n s h (inr x) =
    inr (record { fault = x.fault; cause = omega (arith, h, x.cause); called = x.called; running = x.running })

cut_cause : (b mid n : ℕ) (s : Status) → b ≤ mid → (s ≡ status.NoMemory) ⊎ ((s ≡ status.WriteFault) × Rose mid n)
    → (s ≡ status.NoMemory) ⊎ ((s ≡ status.WriteFault) × Rose b n)
cut_cause b mid n s h (inl x) = inl x
cut_cause b mid n s h (inr x) = inr (x.0, omega (arith, h, x.1))

cut_earlier : (line : List ℕ) (t t' : Option (List ℕ)) (b mid n : ℕ) (s : Status) → b ≤ mid → IsCut line t t' mid n s → IsCut line t t' b n s
cut_earlier line t t' b mid n s h x = record { front = x.front; cause = cut_cause b mid n s h x.cause }

breaks_earlier : (Changes : Members → Members → Type 0) (calls : List SpawnCall) (line : List ℕ) (m m' : Members) (t t' : Option (List ℕ)) (b mid n : Counts) (s : Status)
    → b.write ≤ mid.write → b.spawn ≤ mid.spawn → BreaksOff Changes calls line m m' t t' mid n s → BreaksOff Changes calls line m m' t t' b n s
breaks_earlier Changes calls line m m' t t' b mid n s w p (inl x) = inl (cant_earlier calls m m' b.spawn mid.spawn n.spawn s p x.0, x.1)
breaks_earlier Changes calls line m m' t t' b mid n s w p (inr x) = inr (x.0, cut_earlier line t t' b.write mid.write n.write s w x.1)

pub fails_earlier : (t : Trial) (step : Step) (p p' : Place) (b mid n : Faults) (s : Status)
    → b.link ≤ mid.link → b.counts.write ≤ mid.counts.write → b.counts.spawn ≤ mid.counts.spawn → Fails t step p p' mid n s → Fails t step p p' b n s
fails_earlier t (Start r) p p' b mid n s l w c x = (breaks_earlier (Starts (start_words t r true) r) _ _ p.members p'.members p.client.taken p'.client.taken b.counts mid.counts n.counts s w c x.0, x.1)
fails_earlier t (Restart r) p p' b mid n s l w c x = (breaks_earlier (Starts (start_words t r false) r) _ _ p.members p'.members p.client.taken p'.client.taken b.counts mid.counts n.counts s w c x.0, x.1)
fails_earlier t Attach p p' b mid n s l w c x = (x.0, omega (arith, l, x.1), x.2)
fails_earlier t (Ask q) p p' b mid n s l w c x =
    (ends_later t.client (number_of q) (operation_of q) p.client p'.client (of_client b) (of_client mid) (of_client n) s l w x.0, x.1)
fails_earlier t (Stop r) p p' b mid n s l w c x = (breaks_earlier (Stops r) _ _ p.members p'.members p.client.taken p'.client.taken b.counts mid.counts n.counts s w c x.0, x.1)

-- ---- and to the end: after a step that failed the spawner may fail again

cant_later : (calls : List SpawnCall) (m m' : Members) (b n k : ℕ) (s : Status) → n ≤ k → CantCall calls m m' b n s → CantCall calls m m' b k s
cant_later calls m m' b n k s h (inl x) = inl x
cant_later calls m m' b n k s h (inr x) =
    inr (record { fault = x.fault; cause = omega (arith, h, x.cause); called = x.called; running = x.running })

breaks_later : (Changes : Members → Members → Type 0) (calls : List SpawnCall) (line : List ℕ) (m m' : Members) (t t' : Option (List ℕ)) (b n k : Counts) (s : Status)
    → k.write ≡ n.write → n.spawn ≤ k.spawn → BreaksOff Changes calls line m m' t t' b n s → BreaksOff Changes calls line m m' t t' b k s
breaks_later Changes calls line m m' t t' b n k s w p (inl x) = inl (cant_later calls m m' b.spawn n.spawn k.spawn s p x.0, x.1)
breaks_later Changes calls line m m' t t' b n k s w p (inr x) = inr (x.0, rw w x.1)

fails_later : (t : Trial) (step : Step) (p p' : Place) (b : Faults) (l w n k : ℕ) (s : Status)
    → n ≤ k → Fails t step p p' b (faults l w n) s → Fails t step p p' b (faults l w k) s
fails_later t (Start r) p p' b l w n k s h x = (breaks_later (Starts (start_words t r true) r) _ _ p.members p'.members p.client.taken p'.client.taken b.counts (faults l w n).counts (faults l w k).counts s refl h x.0, x.1)
fails_later t (Restart r) p p' b l w n k s h x = (breaks_later (Starts (start_words t r false) r) _ _ p.members p'.members p.client.taken p'.client.taken b.counts (faults l w n).counts (faults l w k).counts s refl h x.0, x.1)
fails_later t Attach p p' b l w n k s h x = x
fails_later t (Ask q) p p' b l w n k s h x = x
fails_later t (Stop r) p p' b l w n k s h x = (breaks_later (Stops r) _ _ p.members p'.members p.client.taken p'.client.taken b.counts (faults l w n).counts (faults l w k).counts s refl h x.0, x.1)

pub fails_in_later : (t : Trial) (steps : List Step) (p p' : Place) (b : Faults) (l w n k : ℕ) (s : Status)
    → n ≤ k → FailsIn t steps p p' b (faults l w n) s → FailsIn t steps p p' b (faults l w k) s
fails_in_later t [] p p' b l w n k s h x = x
fails_in_later t (step ∷ steps) p p' b l w n k s h (inl x) = inl (fails_later t step p p' b l w n k s h x)
fails_in_later t (step ∷ steps) p p' b l w n k s h (inr x) = inr (x.0, x.1, fails_in_later t steps x.0 p' b l w n k s h x.2)

-- ---- what link tells

-- the link failed between these
abbrev PlaceFailure : Place → Place → Faults → Faults → Type 0
PlaceFailure p p' b n = LinkFailure b.link n.link p.attached p'.attached p.client.got p'.client.got

-- what a step adds to the lists of a link
record Grown (p q : Place) : Type 0 where
  attaches : List Attached
  arrivals : List Arrival
  attached : Grows p.attached q.attached attaches
  received : Grows p.client.got q.client.got arrivals

kept : (p q : Place) → q.attached ≡ p.attached → q.client.got ≡ p.client.got → Grown p q
kept p q a g = record {
  attaches = [];
  arrivals = [];
  attached = subst (λ x. Grows p.attached x []) (sym a) (grows_nil p.attached);
  received = subst (λ x. Grows p.client.got x []) (sym g) (grows_nil p.client.got);
}

still : (p q : Place) → AsksNothing p q → Grown p q
still p q s = kept p q s.attached (ap (λ (x : ask.Stand). x.got) s.client)

grown_by : (t : Trial) (step : Step) (p q : Place) → Does t step p q → Grown p q
grown_by t (Start r) p q d = still p q d.1
grown_by t (Restart r) p q d = still p q d.1
grown_by t Attach p q d = record {
  attaches = attach_of [] t.peers true ∷ [];
  arrivals = [];
  attached = d.attached;
  received = subst (λ (x : Place). Grows p.client.got x.client.got []) (sym d.same) (grows_nil p.client.got);
}
grown_by t (Ask question) p q d =
    let asked = d.0.1.asked in
    record {
      attaches = [];
      arrivals = asked.arrivals ++ asked.last;
      attached = subst (λ x. Grows p.attached x []) (sym d.1.attached) (grows_nil p.attached);
      received = asked.received;
    }
grown_by t (Stop r) p q d = still p q d.1

-- ---- the cause of each fault

cut_link : (b n : ℕ) → (status.LinkFault ≡ status.NoMemory) ⊎ ((status.LinkFault ≡ status.WriteFault) × Rose b n) → ⊥
cut_link b n (inl x) = absurd (cc x)
cut_link b n (inr x) = absurd (cc x.0)

cant_link : (calls : List SpawnCall) (m m' : Members) (b n : ℕ) → CantCall calls m m' b n status.LinkFault → ⊥
cant_link calls m m' b n (inl x) = absurd (cc x.0)
cant_link calls m m' b n (inr x) = absurd (cc x.fault)

breaks_link : (Changes : Members → Members → Type 0) (calls : List SpawnCall) (line : List ℕ) (m m' : Members) (t t' : Option (List ℕ)) (b n : Counts)
    → BreaksOff Changes calls line m m' t t' b n status.LinkFault → ⊥
breaks_link Changes calls line m m' t t' b n (inl x) = cant_link calls m m' b.spawn n.spawn x.0
breaks_link Changes calls line m m' t t' b n (inr x) = cut_link b.write n.write x.1.cause

-- a step of the spawner leaves the link's count
told_links : (Changes : Members → Members → Type 0) (calls : List SpawnCall) (line : List ℕ) (m m' : Members) (t t' : Option (List ℕ)) (b n : Counts) (before now : ℕ) (s : Status)
    → now ≡ before → BreaksOff Changes calls line m m' t t' b n s → now ≡ links_after s before
told_links Changes calls line m m' t t' b n before now s e broke =
    links_kept s before now e (λ is. breaks_link Changes calls line m m' t t' b n (subst (λ k. BreaksOff Changes calls line m m' t t' b n k) is broke))

pub start_links : (t : Trial) (member : ℕ) (is_fresh : Bool) (m m' : Members) (w w' : Option (List ℕ)) (b n : Counts) (before now : ℕ) (r : Result (Unit {0}) Status)
    → now ≡ before → IfErr r (BreaksOff (Starts (start_words t member is_fresh) member) (start_call (start_words t member is_fresh) None ∷ []) (started member) m m' w w' b n) → CountsLinks before now r
start_links t member is_fresh m m' w w' b n before now (Ok x) e broke = e
start_links t member is_fresh m m' w w' b n before now (Err s) e broke = told_links (Starts (start_words t member is_fresh) member) _ _ m m' w w' b n before now s e broke

pub stop_links : (member : ℕ) (m m' : Members) (w w' : Option (List ℕ)) (b n : Counts) (before now : ℕ) (r : Result (Unit {0}) Status)
    → now ≡ before → IfErr r (BreaksOff (Stops member) (stops_of (running_at m.running member) false) (stopped member) m m' w w' b n) → CountsLinks before now r
stop_links member m m' w w' b n before now (Ok x) e broke = e
stop_links member m m' w w' b n before now (Err s) e broke = told_links (Stops member) _ _ m m' w w' b n before now s e broke

step_link : (t : Trial) (step : Step) (p p' : Place) (b n : Faults) → Fails t step p p' b n status.LinkFault → PlaceFailure p p' b n
step_link t (Start r) p p' b n x = absurd (breaks_link (Starts (start_words t r true) r) _ _ p.members p'.members p.client.taken p'.client.taken b.counts n.counts x.0)
step_link t (Restart r) p p' b n x = absurd (breaks_link (Starts (start_words t r false) r) _ _ p.members p'.members p.client.taken p'.client.taken b.counts n.counts x.0)
step_link t Attach p p' b n x = record { rose = x.1; last = inl ([], [], t.peers, x.2.attached) }
step_link t (Ask q) p p' b n x = record { rose = x.0.0; last = inr (asked_last t.client (number_of q) (operation_of q) p.client p'.client x.0.1) }
step_link t (Stop r) p p' b n x = absurd (breaks_link (Stops r) _ _ p.members p'.members p.client.taken p'.client.taken b.counts n.counts x.0)

in_link : (t : Trial) (steps : List Step) (p p' : Place) (b n : Faults) → FailsIn t steps p p' b n status.LinkFault → PlaceFailure p p' b n
in_link t [] p p' b n x = absurd x
in_link t (step ∷ steps) p p' b n (inl x) = step_link t step p p' b n x
in_link t (step ∷ steps) p p' b n (inr x) =
    let q = x.0 in
    let grown = grown_by t step p q x.1 in
    failure_after b.link n.link p.attached q.attached p'.attached grown.attaches p.client.got q.client.got p'.client.got grown.arrivals grown.attached grown.received
    (in_link t steps q p' b n x.2)

cut_spawn : (b n : ℕ) → (status.SpawnFault ≡ status.NoMemory) ⊎ ((status.SpawnFault ≡ status.WriteFault) × Rose b n) → ⊥
cut_spawn b n (inl x) = absurd (cc x)
cut_spawn b n (inr x) = absurd (cc x.0)

cant_spawn : (calls : List SpawnCall) (m m' : Members) (b n : ℕ) → CantCall calls m m' b n status.SpawnFault → Rose b n
cant_spawn calls m m' b n (inl x) = absurd (cc x.0)
cant_spawn calls m m' b n (inr x) = x.cause

breaks_spawn : (Changes : Members → Members → Type 0) (calls : List SpawnCall) (line : List ℕ) (m m' : Members) (t t' : Option (List ℕ)) (b n : Counts)
    → BreaksOff Changes calls line m m' t t' b n status.SpawnFault → Rose b.spawn n.spawn
breaks_spawn Changes calls line m m' t t' b n (inl x) = cant_spawn calls m m' b.spawn n.spawn x.0
breaks_spawn Changes calls line m m' t t' b n (inr x) = absurd (cut_spawn b.write n.write x.1.cause)

step_spawn : (t : Trial) (step : Step) (p p' : Place) (b n : Faults) → Fails t step p p' b n status.SpawnFault → Rose b.counts.spawn n.counts.spawn
step_spawn t (Start r) p p' b n x = breaks_spawn (Starts (start_words t r true) r) _ _ p.members p'.members p.client.taken p'.client.taken b.counts n.counts x.0
step_spawn t (Restart r) p p' b n x = breaks_spawn (Starts (start_words t r false) r) _ _ p.members p'.members p.client.taken p'.client.taken b.counts n.counts x.0
step_spawn t Attach p p' b n x = absurd (cc x.0)
step_spawn t (Ask q) p p' b n x = absurd x.0
step_spawn t (Stop r) p p' b n x = breaks_spawn (Stops r) _ _ p.members p'.members p.client.taken p'.client.taken b.counts n.counts x.0

in_spawn : (t : Trial) (steps : List Step) (p p' : Place) (b n : Faults) → FailsIn t steps p p' b n status.SpawnFault → Rose b.counts.spawn n.counts.spawn
in_spawn t [] p p' b n x = absurd x
in_spawn t (step ∷ steps) p p' b n (inl x) = step_spawn t step p p' b n x
in_spawn t (step ∷ steps) p p' b n (inr x) = in_spawn t steps x.0 p' b n x.2

-- ---- of the whole trial

ends_link : (t : Trial) (steps : List Step) (p : Place) (o : Outside) (b n : Faults) → Ends t steps p o b n status.LinkFault
    → LinkFailure b.link n.link p.attached o.attached p.client.got o.got
ends_link t steps p o b n (inl x) = absurd (cc x.done)
ends_link t steps p o b n (inr x) =
    subst (λ (z : Outside). LinkFailure b.link n.link p.attached z.attached p.client.got z.got) (sym x.ends) (in_link t steps p x.last b n x.fails)

ends_spawn : (t : Trial) (steps : List Step) (p : Place) (o : Outside) (b n : Faults) → Ends t steps p o b n status.SpawnFault → Rose b.counts.spawn n.counts.spawn
ends_spawn t steps p o b n (inl x) = absurd (cc x.done)
ends_spawn t steps p o b n (inr x) = in_spawn t steps p x.last b n x.fails

pub ended_link : (t : Trial) (steps : List Step) (p : Place) (o : Outside) (b n : Faults) (s : Status)
    → Ends t steps p o b n s → s ≡ status.LinkFault → LinkFailure b.link n.link p.attached o.attached p.client.got o.got
ended_link t steps p o b n s e is = ends_link t steps p o b n (subst (λ x. Ends t steps p o b n x) is e)

pub ended_spawn : (t : Trial) (steps : List Step) (p : Place) (o : Outside) (b n : Faults) (s : Status)
    → Ends t steps p o b n s → s ≡ status.SpawnFault → Rose b.counts.spawn n.counts.spawn
ended_spawn t steps p o b n s e is = ends_spawn t steps p o b n (subst (λ x. Ends t steps p o b n x) is e)

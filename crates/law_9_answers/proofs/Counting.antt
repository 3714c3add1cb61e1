-- The requests of a program are of its client, and numbered from 0 on.
use Rattle.std.proofs.Common.{ℕ, ◌+◌, ◌≤◌, ◌≡◌, ◌∙◌, ◌⊎◌, inl, inr, arith, refl, sym, ap, subst, List, [], ◌∷◌, ◌++◌, length, map}
use Rattle.std.specs.Prelude.{⊤}
use Rattle.std.proofs.lemmas.List.{append-nil, append_assoc}
use Rattle.cmd_client.specs.Asking as ask
use Rattle.cmd_client.specs.Asking.{Client, EndsWith, Stand, request_of}
use Rattle.cmd_client.specs.Run as client
use Rattle.cmd_client.specs.Run.{AreExchanged, ClientEnds, EndsAt, EndsLines, EndsRun, Exchange, Reading, StopsAt, reading_of, standing}
use Rattle.vr_header.specs.declared.operation.Operation.{Operation}
use Rattle.vr_header.specs.declared.operation.Operation.TheVariants.{Register}
use Rattle.vr_msg.specs.declared.request.RequestFields.{RequestFields}
use Rattle.vr_base.specs.declared.status.Status.{Status}
use Rattle.vr_base.specs.declared.status.Status.TheVariants as status
use Rattle.cmd_trial.specs.Run as trial
use Rattle.cmd_trial.specs.Run.{Does, DoesAll, Ends, Fails, FailsIn, Place, TrialEnds, begins, of_client}
use Rattle.cmd_trial.specs.Script.{AreNext, number_of, script}
use Rattle.cmd_trial.specs.Told.{Trial, operation_of}
use Rattle.cmd_trial.specs.declared.step.Step.{Step}
use Rattle.cmd_trial.specs.declared.step.Step.TheVariants.{Start, Restart, Attach, Ask, Stop}
use Rattle.cmd_trial.proofs.Numbering.{script_next}
use Rattle.law_1_machine.specs.Basics.{In}
use Rattle.law_9_answers.specs.Clients.{heard_at, heard_client, heard_each, heard_last, heard_lines, heard_run}
use Rattle.law_9_answers.specs.Heard.{Heard}
use Rattle.law_9_answers.specs.Trials.{heard_by, heard_end, heard_steps, heard_till, heard_trial}
use Rattle.law_9_answers.specs.Programs.{Program, ClientRuns, TrialRuns, client_of, hears_of, leaves_of, left_at, left_by, left_client, left_end, left_last, left_lines, left_run, left_till, left_trial}

-- these requests are of one client, in its version, one number after the other from this one on
abbrev pub AreCounted : Client → ℕ → List RequestFields → Type 0
AreCounted c i [] = ⊤
AreCounted c i (q ∷ qs) = ((q.client ≡ c.id) × (q.version ≡ c.version)) × (q.request ≡ i) × AreCounted c (i + 1) qs

abbrev pub requests : List Heard → List RequestFields
requests ts = map (λ (t : Heard). t.request) ts

requests_both : (xs ys : List Heard) → requests (xs ++ ys) ≡ requests xs ++ requests ys
requests_both [] ys = refl
requests_both (x ∷ xs) ys = ap (λ (qs : List RequestFields). x.request ∷ qs) (requests_both xs ys)

behind : (xs ys : List Heard) (left : List RequestFields) → requests xs ++ (requests ys ++ left) ≡ requests (xs ++ ys) ++ left
behind xs ys left = sym (ap (λ (qs : List RequestFields). qs ++ left) (requests_both xs ys) ∙ append_assoc (requests xs) (requests ys) left)

-- ---- two with one number are one

above : (c : Client) (i : ℕ) (qs : List RequestFields) → AreCounted c i qs → (q : RequestFields) → In q qs → ((q.client ≡ c.id) × (q.version ≡ c.version)) × (i ≤ q.request)
above c i [] h q n = absurd n
above c i (x ∷ qs) h q (inl same) =
    let number : q.request ≡ i = ap (λ (p : RequestFields). p.request) same ∙ h.1 in
    ((ap (λ (p : RequestFields). p.client) same ∙ h.0.0, ap (λ (p : RequestFields). p.version) same ∙ h.0.1), omega (arith, number))
above c i (x ∷ qs) h q (inr n) = let y = above c (i + 1) qs h.2 q n in let more = y.1 in (y.0, omega (arith, more))

pub counted_client : (c : Client) (i : ℕ) (qs : List RequestFields) → AreCounted c i qs → (q : RequestFields) → In q qs → q.client ≡ c.id
counted_client c i qs h q n = (above c i qs h q n).0.0

pub counted_version : (c : Client) (i : ℕ) (qs : List RequestFields) → AreCounted c i qs → (q : RequestFields) → In q qs → q.version ≡ c.version
counted_version c i qs h q n = (above c i qs h q n).0.1

pub counted_one : (c : Client) (i : ℕ) (qs : List RequestFields) → AreCounted c i qs → (p q : RequestFields) → In p qs → In q qs → p.request ≡ q.request → p ≡ q
counted_one c i [] h p q m n same = absurd m
counted_one c i (x ∷ qs) h p q (inl a) (inl b) same = a ∙ sym b
counted_one c i (x ∷ qs) h p q (inl a) (inr n) same =
    let more = (above c (i + 1) qs h.2 q n).1 in
    let number : p.request ≡ i = ap (λ (r : RequestFields). r.request) a ∙ h.1 in
    absurd (omega (arith, more, number, same))
counted_one c i (x ∷ qs) h p q (inr m) (inl b) same =
    let more = (above c (i + 1) qs h.2 p m).1 in
    let number : q.request ≡ i = ap (λ (r : RequestFields). r.request) b ∙ h.1 in
    absurd (omega (arith, more, number, same))
counted_one c i (x ∷ qs) h p q (inr m) (inr n) same = counted_one c (i + 1) qs h.2 p q m n same

-- ---- a client

module _ (c : Client) where
  abbrev AreIts : ℕ → List RequestFields → Type 0
  AreIts i qs = AreCounted c i qs

  one_is : (i : ℕ) (o : Operation) → AreIts i (request_of c i o ∷ [])
  one_is i o = ((refl, refl), refl, tt)

  counted_last : (i : ℕ) (o : Operation) (s s' : Stand) (b m : ask.Faults) (z : Status) (h : EndsWith c i o s s' b m z) → AreIts i (requests (heard_last c i o s s' b m z h) ++ left_last c i o s s' b m z h)
  counted_last i o s s' b m status.WriteFault h = one_is i o
  counted_last i o s s' b m status.SessionLost h = one_is i o
  counted_last i o s s' b m status.NoMemory (inl (inl h)) = one_is i o
  counted_last i o s s' b m status.NoMemory (inl (inr h)) = tt
  counted_last i o s s' b m status.NoMemory (inr h) = one_is i o
  counted_last i o s s' b m status.NoAnswer h = one_is i o
  counted_last i o s s' b m status.LinkFault h = one_is i o
  counted_last i o s s' b m status.Done h = tt
  counted_last i o s s' b m status.Usage h = tt
  counted_last i o s s' b m (status.Refused line) h = tt
  counted_last i o s s' b m status.ReadFault h = tt
  counted_last i o s s' b m status.DiskFault h = tt
  counted_last i o s s' b m status.SuperLost h = tt
  counted_last i o s s' b m (status.OtherMember found asked) h = tt
  counted_last i o s s' b m status.Occupied h = tt
  counted_last i o s s' b m status.SpawnFault h = tt

  counted_each : (i : ℕ) (r : Reading) (s : Stand) (ys : List Exchange) (r' : Reading) (s' : Stand) (h : AreExchanged c i r s ys r' s') (rest : List RequestFields) → AreIts (length ys + i) rest → AreIts i (requests (heard_each c i r s ys r' s' h) ++ rest)
  counted_each i r s [] r' s' h rest k = subst (λ (j : ℕ). AreIts j rest) (let none : List Exchange = [] in let same : length none + i ≡ i = omega arith in same) k
  counted_each i r s (y ∷ ys) r' s' h rest k = (
    (refl, refl),
    refl,
    counted_each (i + 1) h.0 h.1 ys r' s' h.3 rest (subst (λ (j : ℕ). AreIts j rest) (let same : length (y ∷ ys) + i ≡ length ys + (i + 1) = omega arith in same) k),
  )

  counted_at : (i : ℕ) (r : Reading) (s : Stand) (r' : Reading) (s' : Stand) (b m : ask.Faults) (z : Status) (h : ((s' ≡ s) × StopsAt c.version i r r' z) ⊎ EndsAt c i r s r' s' b m z)
      → AreIts i (requests (heard_at c i r s r' s' b m z h) ++ left_at c i r s r' s' b m z h)
  counted_at i r s r' s' b m z (inl h) = tt
  counted_at i r s r' s' b m z (inr h) = counted_last i h.operation s s' b m z h.ends

  counted_lines : (r : Reading) (s : Stand) (r' : Reading) (s' : Stand) (b m : ask.Faults) (z : Status) (h : EndsLines c r s r' s' b m z) → AreIts 1 (requests (heard_lines c r s r' s' b m z h) ++ left_lines c r s r' s' b m z h)
  counted_lines r s r' s' b m z h =
      let each = heard_each c 1 r s h.exchanges h.reads h.stands h.done in
      let last = heard_at c (length h.exchanges + 1) h.reads h.stands r' s' b m z h.ends in
      let left = left_at c (length h.exchanges + 1) h.reads h.stands r' s' b m z h.ends in
      subst (AreIts 1) (behind each last left)
      (counted_each 1 r s h.exchanges h.reads h.stands h.done (requests last ++ left) (counted_at (length h.exchanges + 1) h.reads h.stands r' s' b m z h.ends))

  counted_run : (r : Reading) (s : Stand) (r' : Reading) (s' : Stand) (b m : ask.Faults) (z : Status) (h : EndsRun c r s r' s' b m z) → AreIts 0 (requests (heard_run c r s r' s' b m z h) ++ left_run c r s r' s' b m z h)
  counted_run r s r' s' b m z (inl h) = counted_last 0 Register s s' b m z h.1
  counted_run r s r' s' b m z (inr h) = ((refl, refl), refl, counted_lines r h.1 r' s' b m z h.3)

  counted_client_run : (peers : List (List ℕ)) (o o' : client.Outside) (b m : ask.Faults) (z : Status) (h : ClientEnds c peers o o' b m z) → AreIts 0 (requests (heard_client c peers o o' b m z h) ++ left_client c peers o o' b m z h)
  counted_client_run peers o o' b m z (inl h) = tt
  counted_client_run peers o o' b m z (inr (t, inl h)) = tt
  counted_client_run peers o o' b m z (inr (t, inr h)) = counted_run (reading_of [] o) (standing 0 o) (reading_of h.rest o') (standing h.port o') b m z h.ends

-- ---- a trial

module _ (t : Trial) where
  abbrev AreTheirs : ℕ → List RequestFields → Type 0
  AreTheirs i qs = AreCounted t.client i qs

  counted_steps : (i : ℕ) (ys : List Step) (p p' : Place) (h : DoesAll t ys p p') → AreNext i ys → AreTheirs i (requests (heard_steps t ys p p' h))
  counted_steps i [] p p' h next = tt
  counted_steps i (Ask q ∷ ys) p p' h next = ((refl, refl), next.0.0, counted_steps (i + 1) ys h.0 p' h.2 next.1)
  counted_steps i (Start member ∷ ys) p p' h next = counted_steps i ys h.0 p' h.2 next.1
  counted_steps i (Restart member ∷ ys) p p' h next = counted_steps i ys h.0 p' h.2 next.1
  counted_steps i (Attach ∷ ys) p p' h next = counted_steps i ys h.0 p' h.2 next.1
  counted_steps i (Stop member ∷ ys) p p' h next = counted_steps i ys h.0 p' h.2 next.1

  counted_till : (i : ℕ) (ys : List Step) (p p' : Place) (b m : trial.Faults) (z : Status) (h : FailsIn t ys p p' b m z) → AreNext i ys → AreTheirs i (requests (heard_till t ys p p' b m z h) ++ left_till t ys p p' b m z h)
  counted_till i [] p p' b m z h next = absurd h
  counted_till i (Ask q ∷ ys) p p' b m z (inl h) next =
      subst (λ (j : ℕ). AreTheirs j (requests (heard_end t (Ask q) p p' b m z h) ++ left_end t (Ask q) p p' b m z h)) next.0.0 (counted_last t.client (number_of q) (operation_of q) p.client p'.client (of_client b) (of_client m) z h.0)
  counted_till i (Start member ∷ ys) p p' b m z (inl h) next = tt
  counted_till i (Restart member ∷ ys) p p' b m z (inl h) next = tt
  counted_till i (Attach ∷ ys) p p' b m z (inl h) next = tt
  counted_till i (Stop member ∷ ys) p p' b m z (inl h) next = tt
  counted_till i (Ask q ∷ ys) p p' b m z (inr h) next = ((refl, refl), next.0.0, counted_till (i + 1) ys h.0 p' b m z h.2 next.1)
  counted_till i (Start member ∷ ys) p p' b m z (inr h) next = counted_till i ys h.0 p' b m z h.2 next.1
  counted_till i (Restart member ∷ ys) p p' b m z (inr h) next = counted_till i ys h.0 p' b m z h.2 next.1
  counted_till i (Attach ∷ ys) p p' b m z (inr h) next = counted_till i ys h.0 p' b m z h.2 next.1
  counted_till i (Stop member ∷ ys) p p' b m z (inr h) next = counted_till i ys h.0 p' b m z h.2 next.1

  counted_by : (i : ℕ) (ys : List Step) (p : Place) (o : trial.Outside) (b m : trial.Faults) (z : Status) (h : Ends t ys p o b m z) → AreNext i ys → AreTheirs i (requests (heard_by t ys p o b m z h) ++ left_by t ys p o b m z h)
  counted_by i ys p o b m z (inl h) next = subst (AreTheirs i) (sym (append-nil (requests (heard_steps t ys p h.last h.does)))) (counted_steps i ys p h.last h.does next)
  counted_by i ys p o b m z (inr h) next = counted_till i ys p h.last b m z h.fails next

  counted_trial : (o o' : trial.Outside) (b m : trial.Faults) (z : Status) (h : TrialEnds t o o' b m z) → AreTheirs 0 (requests (heard_trial t o o' b m z h) ++ left_trial t o o' b m z h)
  counted_trial o o' b m z (inl h) = tt
  counted_trial o o' b m z (inr h) = counted_by 0 (script t.client.n) (begins t o) o' b m z h (script_next t.client.n)

-- of a program
pub program_counted : (p : Program) → AreCounted (client_of p) 0 (requests (hears_of p) ++ leaves_of p)
program_counted (ClientRuns c peers o o' b m z h) = counted_client_run c peers o o' b m z h
program_counted (TrialRuns t o o' b m z h) = counted_trial t o o' b m z h

-- What each command may answer.
use Rattle.std.proofs.Common.{◌≡◌, ◌⊎◌, ◌∙◌, ◌+◌, ℕ, List, [], ◌∷◌, length, Bool, true, false, Option, Some, None, inl, inr, refl, sym, ap, subst}
use Rattle.cmd_client.specs.Asking as ask
use Rattle.cmd_client.specs.Run as client
use Rattle.vr_base.specs.Causes.{Rose}
use Rattle.vr_base.specs.declared.kind.Kind.{Kind}
use Rattle.vr_base.specs.declared.table.Config.{Config}
use Rattle.vr_disk.specs.DiskState.{Disk}
use Rattle.vr_header.specs.declared.operation.Operation.{Operation}
use Rattle.vr_header.specs.declared.operation.Operation.TheVariants.{Register}
use Rattle.vr_msg.specs.declared.output.Output.{Output}
use Rattle.vr_node.specs.Moving.{MigrationEnds, MovesFile}
use Rattle.vr_node.specs.Opening.{FindsNone, MakesNone}
use Rattle.vr_node.specs.Running as node
use Rattle.vr_node.specs.declared.node.Node.{Node as Member}
use Rattle.cmd_replay.specs.Run.{Ends}
use Rattle.vr_serve.specs.Causes as serve
use Rattle.cmd_soak.specs.Ends.{SoakEnds}
use Rattle.vr_spawn.specs.declared.spawner.SpawnCall.{SpawnCall}
use Rattle.vr_base.specs.declared.status.Status.{Status}
use Rattle.vr_base.specs.declared.status.Status.TheVariants as status
use Rattle.vr_top.specs.Answers.{client_gives, migrate_gives, node_gives, replay_gives, soak_gives, trial_gives}
use Rattle.cmd_trial.specs.Run as trial
use Rattle.cmd_trial.specs.Script.{number_of, script}
use Rattle.cmd_trial.specs.Told as told
use Rattle.cmd_trial.specs.declared.step.Step.{Step}
use Rattle.cmd_trial.specs.declared.step.Step.TheVariants.{Start, Restart, Attach, Ask, Stop}

-- it is this one, which may be given
it_may : (may : Status → Bool) (s s' : Status) → s ≡ s' → may s' ≡ true → may s ≡ true
it_may may s s' e h = subst (λ x. may x ≡ true) (sym e) h

-- another one isn't
pub not_given : (may : Status → Bool) (s s' : Status) → may s ≡ true → may s' ≡ false → s ≡ s' → ⊥
not_given may s s' h other e = let both : true ≡ false = sym h ∙ (ap may e ∙ other) in cc

-- ---- a replay

pub of_replay : (s : Status) (r r' w w' : ℕ) (lo ln to tn : Option (List ℕ)) → Ends r r' w w' lo ln to tn s → replay_gives s ≡ true
of_replay status.Done r r' w w' lo ln to tn e = refl
of_replay (status.Refused line) r r' w w' lo ln to tn e = refl
of_replay status.ReadFault r r' w w' lo ln to tn e = refl
of_replay status.WriteFault r r' w w' lo ln to tn e = refl
of_replay status.NoMemory r r' w w' lo ln to tn e = refl
of_replay status.Usage r r' w w' lo ln to tn e = absurd e
of_replay status.SessionLost r r' w w' lo ln to tn e = absurd e
of_replay status.DiskFault r r' w w' lo ln to tn e = absurd e
of_replay status.LinkFault r r' w w' lo ln to tn e = absurd e
of_replay status.SuperLost r r' w w' lo ln to tn e = absurd e
of_replay (status.OtherMember found asked) r r' w w' lo ln to tn e = absurd e
of_replay status.Occupied r r' w w' lo ln to tn e = absurd e
of_replay status.NoAnswer r r' w w' lo ln to tn e = absurd e
of_replay status.SpawnFault r r' w w' lo ln to tn e = absurd e

-- ---- a summary

pub of_soak : (s : Status) (w w' : ℕ) (t t' : Option (List ℕ)) (text : List ℕ) → SoakEnds w w' t t' text s → soak_gives s ≡ true
of_soak status.Done w w' t t' text e = refl
of_soak status.WriteFault w w' t t' text e = refl
of_soak status.NoMemory w w' t t' text e = refl
of_soak status.Usage w w' t t' text e = absurd e
of_soak (status.Refused line) w w' t t' text e = absurd e
of_soak status.SessionLost w w' t t' text e = absurd e
of_soak status.ReadFault w w' t t' text e = absurd e
of_soak status.DiskFault w w' t t' text e = absurd e
of_soak status.LinkFault w w' t t' text e = absurd e
of_soak status.SuperLost w w' t t' text e = absurd e
of_soak (status.OtherMember found asked) w w' t t' text e = absurd e
of_soak status.Occupied w w' t t' text e = absurd e
of_soak status.NoAnswer w w' t t' text e = absurd e
of_soak status.SpawnFault w w' t t' text e = absurd e

-- ---- a member

made_none : (s : Status) (kind : Kind) (c : Config) (d d' : Option Disk) → MakesNone kind c d d' s → node_gives s ≡ true
made_none status.Occupied kind c d d' e = refl
made_none status.DiskFault kind c d d' e = refl
made_none status.NoMemory kind c d d' e = refl
made_none status.Done kind c d d' e = refl
made_none status.WriteFault kind c d d' e = refl
made_none status.LinkFault kind c d d' e = refl
made_none status.SuperLost kind c d d' e = refl
made_none (status.OtherMember found asked) kind c d d' e = refl
made_none status.Usage kind c d d' e = absurd e
made_none (status.Refused line) kind c d d' e = absurd e
made_none status.SessionLost kind c d d' e = absurd e
made_none status.ReadFault kind c d d' e = absurd e
made_none status.NoAnswer kind c d d' e = absurd e
made_none status.SpawnFault kind c d d' e = absurd e

found_none : (s : Status) (c : Config) (d d' : Option Disk) → FindsNone c d d' s → node_gives s ≡ true
found_none status.SuperLost c d d' e = refl
found_none (status.OtherMember found asked) c d d' e = refl
found_none status.DiskFault c d d' e = refl
found_none status.NoMemory c d d' e = refl
found_none status.Done c d d' e = refl
found_none status.WriteFault c d d' e = refl
found_none status.LinkFault c d d' e = refl
found_none status.Occupied c d d' e = refl
found_none status.Usage c d d' e = absurd e
found_none (status.Refused line) c d d' e = absurd e
found_none status.SessionLost c d d' e = absurd e
found_none status.ReadFault c d d' e = absurd e
found_none status.NoAnswer c d d' e = absurd e
found_none status.SpawnFault c d d' e = absurd e

served : (s : Status) (turns : ℕ) (first : List Output) (m : Member) (o o' : node.Outside) (b n : serve.Counts) → node.ServeEnds turns first m o o' b n s → node_gives s ≡ true
served status.Done turns first m o o' b n e = refl
served status.DiskFault turns first m o o' b n e = refl
served status.LinkFault turns first m o o' b n e = refl
served status.WriteFault turns first m o o' b n e = refl
served status.NoMemory turns first m o o' b n e = refl
served status.SuperLost turns first m o o' b n e = refl
served (status.OtherMember found asked) turns first m o o' b n e = refl
served status.Occupied turns first m o o' b n e = refl
served status.Usage turns first m o o' b n e = absurd e
served (status.Refused line) turns first m o o' b n e = absurd e
served status.SessionLost turns first m o o' b n e = absurd e
served status.ReadFault turns first m o o' b n e = absurd e
served status.NoAnswer turns first m o o' b n e = absurd e
served status.SpawnFault turns first m o o' b n e = absurd e

grouped : (s : Status) (peers : List (List ℕ)) (member turns : ℕ) (first : List Output) (m : Member) (o o' : node.Outside) (b n : serve.Counts)
    → node.GroupEnds peers member turns first m o o' b n s → node_gives s ≡ true
grouped s peers member turns first m o o' b n (inl x) = it_may node_gives s status.LinkFault x.is refl
grouped s peers member turns first m o o' b n (inr x) = served s turns first m o o' b n x.1

attached : (s : Status) (fresh : Option Kind) (c : Config) (peers : List (List ℕ)) (turns : ℕ) (o o' : node.Outside) (b n : serve.Counts)
    → node.EndsAttached fresh c peers turns o o' b n s → node_gives s ≡ true
attached s (Some kind) c peers turns o o' b n (inl x) = made_none s kind c o.disk o'.disk x.why
attached s None c peers turns o o' b n (inl x) = found_none s c o.disk o'.disk x.why
attached s fresh c peers turns o o' b n (inr x) = grouped s peers c.replica turns x.first x.node (node.on_disk x.disk o) o' b n x.ends

pub of_node : (s : Status) (fresh : Option Kind) (c : Config) (file : List ℕ) (peers : List (List ℕ)) (turns : ℕ) (o o' : node.Outside) (b n : serve.Counts)
    → node.NodeEnds fresh c file peers turns o o' b n s → node_gives s ≡ true
of_node s fresh c file peers turns o o' b n (inl x) = it_may node_gives s status.DiskFault x.is refl
of_node s fresh c file peers turns o o' b n (inr x) = attached s fresh c peers turns (node.on_disk x.0 o) o' b n x.2

-- ---- a migration

moved : (s : Status) (c : Config) (d d' : Option Disk) → MovesFile c d d' s → migrate_gives s ≡ true
moved status.Done c d d' e = refl
moved status.SuperLost c d d' e = refl
moved (status.OtherMember found asked) c d d' e = refl
moved status.DiskFault c d d' e = refl
moved status.NoMemory c d d' e = refl
moved status.Usage c d d' e = absurd e
moved (status.Refused line) c d d' e = absurd e
moved status.SessionLost c d d' e = absurd e
moved status.ReadFault c d d' e = absurd e
moved status.WriteFault c d d' e = absurd e
moved status.LinkFault c d d' e = absurd e
moved status.Occupied c d d' e = absurd e
moved status.NoAnswer c d d' e = absurd e
moved status.SpawnFault c d d' e = absurd e

pub of_migrate : (s : Status) (c : Config) (file : List ℕ) (d d' : Option Disk) → MigrationEnds c file d d' s → migrate_gives s ≡ true
of_migrate s c file d d' (inl x) = it_may migrate_gives s status.DiskFault x.0 refl
of_migrate s c file d d' (inr x) = moved s c x.0 d' x.2

-- ---- an ask, of a client or of a trial

record MayAsk (s : Status) : Type 0 where
  client : client_gives s ≡ true
  trial : trial_gives s ≡ true

asked : (s : Status) (c : ask.Client) (k : ℕ) (x : Operation) (t t' : ask.Stand) (b n : ask.Faults) → ask.EndsWith c k x t t' b n s → MayAsk s
asked status.NoAnswer c k x t t' b n e = record { client = refl; trial = refl }
asked status.LinkFault c k x t t' b n e = record { client = refl; trial = refl }
asked status.WriteFault c k x t t' b n e = record { client = refl; trial = refl }
asked status.SessionLost c k x t t' b n e = record { client = refl; trial = refl }
asked status.NoMemory c k x t t' b n e = record { client = refl; trial = refl }
asked status.Done c k x t t' b n e = record { client = refl; trial = refl }
asked status.Usage c k x t t' b n e = absurd e
asked (status.Refused line) c k x t t' b n e = absurd e
asked status.ReadFault c k x t t' b n e = absurd e
asked status.DiskFault c k x t t' b n e = absurd e
asked status.SuperLost c k x t t' b n e = absurd e
asked (status.OtherMember found other) c k x t t' b n e = absurd e
asked status.Occupied c k x t t' b n e = absurd e
asked status.SpawnFault c k x t t' b n e = absurd e

-- ---- a client

stopped : (s : Status) (version k : ℕ) (r r' : client.Reading) → client.StopsAt version k r r' s → client_gives s ≡ true
stopped status.Done version k r r' e = refl
stopped (status.Refused line) version k r r' e = refl
stopped status.ReadFault version k r r' e = refl
stopped status.NoMemory version k r r' e = refl
stopped status.WriteFault version k r r' e = refl
stopped status.LinkFault version k r r' e = refl
stopped status.NoAnswer version k r r' e = refl
stopped status.SessionLost version k r r' e = refl
stopped status.Usage version k r r' e = absurd e
stopped status.DiskFault version k r r' e = absurd e
stopped status.SuperLost version k r r' e = absurd e
stopped (status.OtherMember found asked) version k r r' e = absurd e
stopped status.Occupied version k r r' e = absurd e
stopped status.SpawnFault version k r r' e = absurd e

at_line : (s : Status) (c : ask.Client) (k : ℕ) (r : client.Reading) (t : ask.Stand) (r' : client.Reading) (t' : ask.Stand) (b n : ask.Faults)
    → ((t' ≡ t) × client.StopsAt c.version k r r' s) ⊎ client.EndsAt c k r t r' t' b n s → client_gives s ≡ true
at_line s c k r t r' t' b n (inl x) = stopped s c.version k r r' x.1
at_line s c k r t r' t' b n (inr x) = (asked s c k x.operation t t' b n x.ends).client

ran : (s : Status) (c : ask.Client) (r : client.Reading) (t : ask.Stand) (r' : client.Reading) (t' : ask.Stand) (b n : ask.Faults) → client.EndsRun c r t r' t' b n s → client_gives s ≡ true
ran s c r t r' t' b n (inl x) = (asked s c 0 Register t t' b n x.1).client
ran s c r t r' t' b n (inr x) = at_line s c (length x.3.exchanges + 1) x.3.reads x.3.stands r' t' b n x.3.ends

pub of_client : (s : Status) (c : ask.Client) (peers : List (List ℕ)) (o o' : client.Outside) (b n : ask.Faults) → client.ClientEnds c peers o o' b n s → client_gives s ≡ true
of_client s c peers o o' b n (inl x) = it_may client_gives s status.LinkFault x.is refl
of_client s c peers o o' b n (inr (_, inl x)) = it_may client_gives s status.NoMemory x.is refl
of_client s c peers o o' b n (inr (_, inr x)) =
    ran s c (client.reading_of [] o) (client.standing 0 o) (client.reading_of x.rest o') (client.standing x.port o') b n x.ends

-- ---- a trial

cut : (s : Status) (b n : ℕ) → (s ≡ status.NoMemory) ⊎ ((s ≡ status.WriteFault) × Rose b n) → trial_gives s ≡ true
cut s b n (inl x) = it_may trial_gives s status.NoMemory x refl
cut s b n (inr x) = it_may trial_gives s status.WriteFault x.0 refl

cant : (s : Status) (calls : List SpawnCall) (m m' : trial.Members) (b n : ℕ) → trial.CantCall calls m m' b n s → trial_gives s ≡ true
cant s calls m m' b n (inl x) = it_may trial_gives s status.NoMemory x.0 refl
cant s calls m m' b n (inr x) = it_may trial_gives s status.SpawnFault x.fault refl

breaks : (s : Status) (Changes : trial.Members → trial.Members → Type 0) (calls : List SpawnCall) (line : List ℕ) (m m' : trial.Members) (t t' : Option (List ℕ)) (b n : trial.Counts)
    → trial.BreaksOff Changes calls line m m' t t' b n s → trial_gives s ≡ true
breaks s Changes calls line m m' t t' b n (inl x) = cant s calls m m' b.spawn n.spawn x.0
breaks s Changes calls line m m' t t' b n (inr x) = cut s b.write n.write x.1.cause

step : (s : Status) (t : told.Trial) (k : Step) (p p' : trial.Place) (b n : trial.Faults) → trial.Fails t k p p' b n s → trial_gives s ≡ true
step s t (Start r) p p' b n x = breaks s (trial.Starts (told.start_words t r true) r) _ _ p.members p'.members p.client.taken p'.client.taken b.counts n.counts x.0
step s t (Restart r) p p' b n x = breaks s (trial.Starts (told.start_words t r false) r) _ _ p.members p'.members p.client.taken p'.client.taken b.counts n.counts x.0
step s t Attach p p' b n x = it_may trial_gives s status.LinkFault x.0 refl
step s t (Ask q) p p' b n x = (asked s t.client (number_of q) (told.operation_of q) p.client p'.client (trial.of_client b) (trial.of_client n) x.0).trial
step s t (Stop r) p p' b n x = breaks s (trial.Stops r) _ _ p.members p'.members p.client.taken p'.client.taken b.counts n.counts x.0

steps : (s : Status) (t : told.Trial) (ks : List Step) (p p' : trial.Place) (b n : trial.Faults) → trial.FailsIn t ks p p' b n s → trial_gives s ≡ true
steps s t [] p p' b n x = absurd x
steps s t (k ∷ ks) p p' b n (inl x) = step s t k p p' b n x
steps s t (k ∷ ks) p p' b n (inr x) = steps s t ks x.0 p' b n x.2

pub of_trial : (s : Status) (t : told.Trial) (o o' : trial.Outside) (b n : trial.Faults) → trial.TrialEnds t o o' b n s → trial_gives s ≡ true
of_trial s t o o' b n (inl x) = it_may trial_gives s status.NoMemory x.0 refl
of_trial s t o o' b n (inr (inl x)) = it_may trial_gives s status.Done x.done refl
of_trial s t o o' b n (inr (inr x)) = steps s t (script t.client.n) (trial.begins t o) x.last b n x.fails

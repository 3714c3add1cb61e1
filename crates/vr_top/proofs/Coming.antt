-- Commands, each against its run.
use Rattle.std.proofs.Common.{◌≡◌, ◌≤◌, ◌<◌, ◌⊎◌, ◌∙◌, suc, ℕ, List, [], ◌∷◌, Bool, true, false, Option, Some, None, length, map, refl, ap, subst, sym, inl, inr, arith}
use Rattle.std.specs.Prelude.{◌≢◌, IfSome, string_bytes, vec_len}
use Rattle.cmd_client.specs.Asking as ask
use Rattle.cmd_client.specs.Run as run
use Rattle.vr_base.specs.Causes.{Rose}
use Rattle.vr_base.specs.Groups.{is_size}
use Rattle.vr_base.proofs.Members.{sized}
use Rattle.vr_base.specs.declared.kind.Kind.{Kind}
use Rattle.vr_base.specs.declared.table.Config.{Config}
use Rattle.vr_disk.specs.declared.disk.SectorDisk as disks
use Rattle.vr_edge.specs.Failing.{LinkFailure}
use Rattle.vr_edge.specs.declared.clock.Clock as clocks
use Rattle.vr_edge.specs.declared.link.Link as links
use Rattle.vr_edge.specs.declared.sink.Sink as sinks
use Rattle.vr_edge.specs.declared.source.Source as sources
use Rattle.vr_node.specs.Moving.{MigrationEnds}
use Rattle.vr_node.specs.Running as node
use Rattle.vr_node.specs.Stops.{disk_after}
use Rattle.cmd_replay.specs.Run as replay
use Rattle.vr_serve.specs.Causes as serve
use Rattle.cmd_soak.specs.Ends.{SoakEnds}
use Rattle.cmd_soak.specs.Summing.{soak_text}
use Rattle.vr_spawn.specs.declared.spawner.Spawner as spawners
use Rattle.vr_base.proofs.Counting.{links_kept}
use Rattle.vr_base.specs.Counts.{links_after, reads_after, writes_after}
use Rattle.vr_base.specs.declared.status.Status.{Status}
use Rattle.vr_base.specs.declared.status.Status.TheVariants as status
use Rattle.vr_top.proofs.Answers.{not_given, of_client, of_migrate, of_node, of_replay, of_soak, of_trial}
use Rattle.vr_top.proofs.Counts.{no_disk, no_read, no_write}
use Rattle.vr_top.specs.Answers.{client_gives, gives, migrate_gives, node_gives, replay_gives, soak_gives, trial_gives}
use Rattle.vr_top.specs.Ends.{Ends, Spawns, Tries, client_counts, member_counts, of_client as client_outside, of_member, of_trial as trial_told, trial_counts}
use Rattle.vr_top.specs.Outside.{Outside, TrialOutside, outside, trial_outside}
use Rattle.vr_top.specs.Roles.{IsGood, client_of, config_of, trial_of}
use Rattle.vr_top.specs.Run.{Obeys, SameObjects}
use Rattle.vr_top.specs.declared.outside.Outside.{Outside as Handed}
use Rattle.cmd_trial.specs.Run as trial
use Rattle.cmd_trial.specs.Told as plan
use Rattle.vr_args.specs.Asked.{Asked, Client, ClientAsked, Migrate, MigrateAsked, Node, NodeAsked, Replay, Soak, Trial, TrialAsked, client_says, least_by, node_says, trial_says}
use Rattle.vr_args.specs.declared.command.ClientWords.{ClientWords}
use Rattle.vr_args.specs.declared.command.NodeWords.{NodeWords}
use Rattle.vr_args.specs.declared.command.SoakWords.{SoakWords}
use Rattle.vr_args.specs.declared.command.TrialWords.{TrialWords}

map_length : {X Y : Type 0} (f : X → Y) (xs : List X) → length (map f xs) ≡ length xs
map_length f [] = refl
map_length f (x ∷ xs) = ap suc (map_length f xs)

-- ---- a member's words

node_peers : (w : NodeWords) → length (map string_bytes w.peers.items) ≡ vec_len w.peers
node_peers w = map_length string_bytes w.peers.items ∙ sym w.peers.ok.0

abbrev config_with : ℕ → ℕ → ℕ → Config
config_with cluster replica n = record { cluster = cluster; replica = replica; n = n }

pub node_config : (w : NodeWords) → config_of (node_says w) ≡ record { cluster = w.cluster; replica = w.replica; n = vec_len w.peers }
node_config w = ap (config_with w.cluster w.replica) (node_peers w)

pub node_most : (w : NodeWords) → IsGood (Node (node_says w)) → vec_len w.peers ≤ 6
node_most w h = subst (λ n. n ≤ 6) (node_peers w) (sized (least_by w.fresh) (length (map string_bytes w.peers.items)) h.0).1

-- a file that is made is of a group of so many
made_size : (fresh : Option Kind) (n : ℕ) → is_size (least_by fresh) n ≡ true → IfSome fresh (λ kind. is_size kind.version n ≡ true)
made_size None n e = tt
made_size (Some kind) n e = e

pub node_size : (w : NodeWords) → IsGood (Node (node_says w)) → IfSome w.fresh (λ kind. is_size kind.version (config_of (node_says w)).n ≡ true)
node_size w h = made_size w.fresh (length (map string_bytes w.peers.items)) h.0

pub node_member : (w : NodeWords) → IsGood (Node (node_says w)) → (config_of (node_says w)).replica < (config_of (node_says w)).n
node_member w h = h.1

pub node_fits : (w : NodeWords) → (config_of (node_says w)).n ≤ vec_len w.peers
node_fits w = let same : length (map string_bytes w.peers.items) ≡ vec_len w.peers = node_peers w in omega (arith, same)

-- the run of a member in its role is that of its words
pub by_role : (fresh fresh' : Option Kind) (c c' : Config) (file file' : List ℕ) (peers peers' : List (List ℕ)) (turns turns' : ℕ) (o o' : node.Outside) (b n : serve.Counts) (s : Status)
    → fresh ≡ fresh' → c ≡ c' → file ≡ file' → peers ≡ peers' → turns ≡ turns' → node.NodeEnds fresh c file peers turns o o' b n s → node.NodeEnds fresh' c' file' peers' turns' o o' b n s
by_role fresh fresh' c c' file file' peers peers' turns turns' o o' b n s f k q p t e =
    subst (λ x. node.NodeEnds x c' file' peers' turns' o o' b n s) f
    (subst (λ x. node.NodeEnds fresh x file' peers' turns' o o' b n s) k
    (subst (λ x. node.NodeEnds fresh c x peers' turns' o o' b n s) q
    (subst (λ x. node.NodeEnds fresh c file x turns' o o' b n s) p (subst (λ x. node.NodeEnds fresh c file peers x o o' b n s) t e))))

-- ---- a client's words

client_peers : (w : ClientWords) → length (map string_bytes w.peers.items) ≡ vec_len w.peers
client_peers w = map_length string_bytes w.peers.items ∙ sym w.peers.ok.0

pub client_size : (w : ClientWords) → IsGood (Client (client_says w)) → is_size w.version (vec_len w.peers) ≡ true
client_size w h = subst (λ n. is_size w.version n ≡ true) (client_peers w) h.0

pub client_named : (w : ClientWords) → IsGood (Client (client_says w)) → w.id ≢ 0
client_named w h = h.1

pub by_client : (w : ClientWords) (o o' : run.Outside) (b n : ask.Faults) (s : Status)
    → run.ClientEnds (run.client_with w.version w.cluster w.id (vec_len w.peers) w.turns) (map string_bytes w.peers.items) o o' b n s → run.ClientEnds (client_of (client_says w)) (client_says w).peers o o' b n s
by_client w o o' b n s e = subst (λ k. run.ClientEnds (run.client_with w.version w.cluster w.id k w.turns) (map string_bytes w.peers.items) o o' b n s) (sym (client_peers w)) e

-- ---- a trial's words

trial_peers : (w : TrialWords) → length (map string_bytes w.peers.items) ≡ vec_len w.peers
trial_peers w = map_length string_bytes w.peers.items ∙ sym w.peers.ok.0

pub trial_least : (w : TrialWords) → IsGood (Trial (trial_says w)) → 2 ≤ vec_len w.peers
trial_least w h = subst (λ n. 2 ≤ n) (trial_peers w) (sized 1 (length (map string_bytes w.peers.items)) h).0

pub trial_most : (w : TrialWords) → IsGood (Trial (trial_says w)) → vec_len w.peers ≤ 6
trial_most w h = subst (λ n. n ≤ 6) (trial_peers w) (sized 1 (length (map string_bytes w.peers.items)) h).1

abbrev trial_with : ℕ → ℕ → List ℕ → List (List ℕ) → ℕ → plan.Trial
trial_with cluster turns files peers n = record { client = run.client_with 1 cluster 1 n turns; files = files; peers = peers }

-- the plan with a trial's words is what they say
pub planned : (w : TrialWords) → trial_with w.cluster w.turns (string_bytes w.files) (map string_bytes w.peers.items) (vec_len w.peers) ≡ trial_of (trial_says w)
planned w = ap (trial_with w.cluster w.turns (string_bytes w.files) (map string_bytes w.peers.items)) (sym (trial_peers w))

pub by_plan : (p : plan.Trial) (q : plan.Trial) (o o' : trial.Outside) (b n : trial.Faults) (s : Status)
    → p ≡ q → trial.TrialEnds p o o' b n s → trial.TrialEnds q o o' b n s
by_plan p q o o' b n s same e = subst (λ t. trial.TrialEnds t o o' b n s) same e

-- ---- what a command comes to

abbrev of_source : {S K D L C : Type 0} → Outside S K D L C → ℕ
of_source o = o.source.faults

abbrev of_sink : {S K D L C : Type 0} → Outside S K D L C → ℕ
of_sink o = o.sink.faults

abbrev of_disk : {S K D L C : Type 0} → Outside S K D L C → ℕ
of_disk o = o.disk.faults

abbrev of_link : {S K D L C : Type 0} → Outside S K D L C → ℕ
of_link o = o.link.faults

-- the link's fault has its cause
abbrev LinkOf : {S K D L C : Type 0} → Outside S K D L C → Outside S K D L C → Type 0
LinkOf o o' = LinkFailure o.link.faults o'.link.faults o.link.attached o'.link.attached o.link.received o'.link.received

abbrev is_trial : Asked → Bool
is_trial (Trial a) = true
is_trial _ = false

-- a command that starts nothing leaves the spawner as it is
spares : {K L P : Type 0} (a : Asked) (t t' : TrialOutside K L P) (s : Status) → is_trial a ≡ false → gives (Some a) s ≡ true → t'.spawner ≡ t.spawner → Tries (Some a) t t' s
spares Replay t t' s other may same = record { does = same; spawn = λ is. absurd (not_given replay_gives s status.SpawnFault may refl is) }
spares (Soak w) t t' s other may same = record { does = same; spawn = λ is. absurd (not_given soak_gives s status.SpawnFault may refl is) }
spares (Node a) t t' s other may same = record { does = same; spawn = λ is. absurd (not_given node_gives s status.SpawnFault may refl is) }
spares (Client a) t t' s other may same = record { does = same; spawn = λ is. absurd (not_given client_gives s status.SpawnFault may refl is) }
spares (Trial a) t t' s other may same = absurd (let clash : true ≡ false = other in cc)
spares (Migrate a) t t' s other may same = record { does = same; spawn = λ is. absurd (not_given migrate_gives s status.SpawnFault may refl is) }

pub replays : {S K D L C P : Type 0} (o o' : Outside S K D L C) (t t' : TrialOutside K L P) (s : Status)
    → replay.Ends o.source.faults o'.source.faults o.sink.faults o'.sink.faults o.source.left o'.source.left o.sink.taken o'.sink.taken s
    → (¬ Rose o.source.faults o'.source.faults → ¬ Rose o.sink.faults o'.sink.faults → IfSome o.source.left (λ bytes. (s ≡ replay.status_for (replay.refused_in bytes)) ⊎ (s ≡ status.NoMemory)))
    → o'.source.faults ≡ reads_after s o.source.faults → o'.sink.faults ≡ writes_after s o.sink.faults
    → o' ≡ record o { source = o'.source; sink = o'.sink } → t'.spawner ≡ t.spawner → Ends (Some Replay) o o' s × Tries (Some Replay) t t' s
replays o o' t t' s e c r w same none =
    let may = of_replay s o.source.faults o'.source.faults o.sink.faults o'.sink.faults o.source.left o'.source.left o.sink.taken o'.sink.taken e in (
      record {
        does = inl (record { ends = e; complete = c; others = same });
        answer = may;
        causes = record {
          read = r;
          write = w;
          disk = ap of_disk same ∙ no_disk s o.disk.faults (not_given replay_gives s status.DiskFault may refl);
          links = links_kept s o.link.faults o'.link.faults (ap of_link same) (not_given replay_gives s status.LinkFault may refl);
          link = λ is. absurd (not_given replay_gives s status.LinkFault may refl is);
        };
      },
      spares Replay t t' s refl may none,
    )

soak_writes : (s : Status) (w w' : ℕ) (t t' : Option (List ℕ)) (text : List ℕ) → SoakEnds w w' t t' text s → w' ≡ writes_after s w
soak_writes status.Done w w' t t' text e = e.0
soak_writes status.WriteFault w w' t t' text e = e.0
soak_writes status.NoMemory w w' t t' text e = e.0
soak_writes status.Usage w w' t t' text e = absurd e
soak_writes (status.Refused line) w w' t t' text e = absurd e
soak_writes status.SessionLost w w' t t' text e = absurd e
soak_writes status.ReadFault w w' t t' text e = absurd e
soak_writes status.DiskFault w w' t t' text e = absurd e
soak_writes status.LinkFault w w' t t' text e = absurd e
soak_writes status.SuperLost w w' t t' text e = absurd e
soak_writes (status.OtherMember found asked) w w' t t' text e = absurd e
soak_writes status.Occupied w w' t t' text e = absurd e
soak_writes status.NoAnswer w w' t t' text e = absurd e
soak_writes status.SpawnFault w w' t t' text e = absurd e

pub soaks : {S K D L C P : Type 0} (words : SoakWords) (o o' : Outside S K D L C) (t t' : TrialOutside K L P) (s : Status)
    → SoakEnds o.sink.faults o'.sink.faults o.sink.taken o'.sink.taken (soak_text words.seed words.count) s
    → o' ≡ record o { sink = o'.sink } → t'.spawner ≡ t.spawner → Ends (Some (Soak words)) o o' s × Tries (Some (Soak words)) t t' s
soaks words o o' t t' s e same none =
    let may = of_soak s o.sink.faults o'.sink.faults o.sink.taken o'.sink.taken (soak_text words.seed words.count) e in (
      record {
        does = inl (record { ends = e; others = same });
        answer = may;
        causes = record {
          read = ap of_source same ∙ no_read s o.source.faults (not_given soak_gives s status.ReadFault may refl);
          write = soak_writes s o.sink.faults o'.sink.faults o.sink.taken o'.sink.taken (soak_text words.seed words.count) e;
          disk = ap of_disk same ∙ no_disk s o.disk.faults (not_given soak_gives s status.DiskFault may refl);
          links = links_kept s o.link.faults o'.link.faults (ap of_link same) (not_given soak_gives s status.LinkFault may refl);
          link = λ is. absurd (not_given soak_gives s status.LinkFault may refl is);
        };
      },
      spares (Soak words) t t' s refl may none,
    )

pub serves : {S K D L C P : Type 0} (a : NodeAsked) (o o' : Outside S K D L C) (t t' : TrialOutside K L P) (s : Status)
    → node.NodeEnds a.fresh (config_of a) a.file a.peers a.turns (of_member o) (of_member o') (member_counts o) (member_counts o') s
    → o'.disk.faults ≡ disk_after s o.disk.faults → o'.sink.faults ≡ writes_after s o.sink.faults
    → o'.link.faults ≡ links_after s o.link.faults → (s ≡ status.LinkFault → LinkOf o o')
    → o' ≡ record o { sink = o'.sink; disk = o'.disk; link = o'.link; clock = o'.clock } → t'.spawner ≡ t.spawner → Ends (Some (Node a)) o o' s × Tries (Some (Node a)) t t' s
serves a o o' t t' s e d w k l same none =
    let may = of_node s a.fresh (config_of a) a.file a.peers a.turns (of_member o) (of_member o') (member_counts o) (member_counts o') e in (
      record {
        does = inl (record { ends = e; others = same });
        answer = may;
        causes = record {
          read = ap of_source same ∙ no_read s o.source.faults (not_given node_gives s status.ReadFault may refl);
          write = w;
          disk = d;
          links = k;
          link = l;
        };
      },
      spares (Node a) t t' s refl may none,
    )

pub asks : {S K D L C P : Type 0} (a : ClientAsked) (o o' : Outside S K D L C) (t t' : TrialOutside K L P) (s : Status)
    → run.ClientEnds (client_of a) a.peers (client_outside o) (client_outside o') (client_counts o) (client_counts o') s
    → o'.source.faults ≡ reads_after s o.source.faults → o'.sink.faults ≡ writes_after s o.sink.faults
    → o'.link.faults ≡ links_after s o.link.faults → (s ≡ status.LinkFault → LinkOf o o')
    → o' ≡ record o { source = o'.source; sink = o'.sink; link = o'.link } → t'.spawner ≡ t.spawner → Ends (Some (Client a)) o o' s × Tries (Some (Client a)) t t' s
asks a o o' t t' s e r w k l same none =
    let may = of_client s (client_of a) a.peers (client_outside o) (client_outside o') (client_counts o) (client_counts o') e in (
      record {
        does = inl (record { ends = e; others = same });
        answer = may;
        causes = record {
          read = r;
          write = w;
          disk = ap of_disk same ∙ no_disk s o.disk.faults (not_given client_gives s status.DiskFault may refl);
          links = k;
          link = l;
        };
      },
      spares (Client a) t t' s refl may none,
    )

pub tries : {S K D L C P : Type 0} (a : TrialAsked) (o o' : Outside S K D L C) (t t' : TrialOutside K L P) (s : Status)
    → trial.TrialEnds (trial_of a) (trial_told t) (trial_told t') (trial_counts t) (trial_counts t') s
    → o'.sink.faults ≡ writes_after s o.sink.faults → o'.link.faults ≡ links_after s o.link.faults
    → (s ≡ status.LinkFault → LinkOf o o') → (s ≡ status.SpawnFault → Rose t.spawner.faults t'.spawner.faults)
    → o' ≡ record o { sink = o'.sink; link = o'.link } → Ends (Some (Trial a)) o o' s × Tries (Some (Trial a)) t t' s
tries a o o' t t' s e w k l p same =
    let may = of_trial s (trial_of a) (trial_told t) (trial_told t') (trial_counts t) (trial_counts t') e in (
      record {
        does = inl same;
        answer = may;
        causes = record {
          read = ap of_source same ∙ no_read s o.source.faults (not_given trial_gives s status.ReadFault may refl);
          write = w;
          disk = ap of_disk same ∙ no_disk s o.disk.faults (not_given trial_gives s status.DiskFault may refl);
          links = k;
          link = l;
        };
      },
      record { does = inl e; spawn = p },
    )

pub moves : {S K D L C P : Type 0} (a : MigrateAsked) (o o' : Outside S K D L C) (t t' : TrialOutside K L P) (s : Status)
    → MigrationEnds a.config a.file o.disk.told o'.disk.told s → o'.disk.faults ≡ disk_after s o.disk.faults
    → o' ≡ record o { disk = o'.disk } → t'.spawner ≡ t.spawner → Ends (Some (Migrate a)) o o' s × Tries (Some (Migrate a)) t t' s
moves a o o' t t' s e d same none =
    let may = of_migrate s a.config a.file o.disk.told o'.disk.told e in (
      record {
        does = inl (record { ends = e; others = same });
        answer = may;
        causes = record {
          read = ap of_source same ∙ no_read s o.source.faults (not_given migrate_gives s status.ReadFault may refl);
          write = ap of_sink same ∙ no_write s o.sink.faults (not_given migrate_gives s status.WriteFault may refl);
          disk = d;
          links = links_kept s o.link.faults o'.link.faults (ap of_link same) (not_given migrate_gives s status.LinkFault may refl);
          link = λ is. absurd (not_given migrate_gives s status.LinkFault may refl is);
        };
      },
      spares (Migrate a) t t' s refl may none,
    )

abbrev told : {S K D L C P : Type 0} → sources.Ghosts S → sinks.Ghosts K → disks.Ghosts D → links.Ghosts L → clocks.Ghosts C → Handed S K D L C P → Outside S K D L C
told s k d l c o = outside s k d l c o.source.now o.sink.now o.disk.now o.link.now o.clock.now

abbrev trial_of_handed : {S K D L C P : Type 0} → sinks.Ghosts K → links.Ghosts L → spawners.Ghosts P → Handed S K D L C P → TrialOutside K L P
trial_of_handed k l p o = trial_outside k l p o.sink.now o.link.now o.spawner.now

-- a command over the objects that were handed in
pub obeys : {S K D L C P : Type 0} (s : sources.Ghosts S) (k : sinks.Ghosts K) (d : disks.Ghosts D) (l : links.Ghosts L) (c : clocks.Ghosts C) (p : spawners.Ghosts P)
    (a : Asked) (o o' : Handed S K D L C P) (status : Status)
    → Ends (Some a) (told s k d l c o) (told s k d l c o') status × Tries (Some a) (trial_of_handed k l p o) (trial_of_handed k l p o') status
    → SameObjects o o' → Obeys s k d l c p a o o' status
obeys s k d l c p a o o' status both same = record { ends = both.0; trial = both.1; same = same }

-- ---- the words

pub ends_by : {S K D L C : Type 0} (a : Asked) (asked : Option Asked) (o o' : Outside S K D L C) (s : Status) → asked ≡ Some a → Ends (Some a) o o' s → Ends asked o o' s
ends_by a asked o o' s e x = subst (λ z. Ends z o o' s) (sym e) x

none_ends : {S K D L C : Type 0} (o : Outside S K D L C) → Ends None o o status.Usage
none_ends o = record {
  does = inl (refl, refl);
  answer = refl;
  causes = record { read = refl; write = refl; disk = refl; links = refl; link = λ is. absurd (cc is) };
}

pub ends_none : {S K D L C : Type 0} (asked : Option Asked) (o : Outside S K D L C) → asked ≡ None → Ends asked o o status.Usage
ends_none asked o e = subst (λ z. Ends z o o status.Usage) (sym e) (none_ends o)

may_be_short : (asked : Option Asked) → gives asked status.NoMemory ≡ true
may_be_short None = refl
may_be_short (Some Replay) = refl
may_be_short (Some (Soak w)) = refl
may_be_short (Some (Node a)) = refl
may_be_short (Some (Client a)) = refl
may_be_short (Some (Trial a)) = refl
may_be_short (Some (Migrate a)) = refl

pub ends_short : {S K D L C : Type 0} (asked : Option Asked) (o : Outside S K D L C) → Ends asked o o status.NoMemory
ends_short asked o = record {
  does = inr (record { is = refl; same = refl });
  answer = may_be_short asked;
  causes = record { read = refl; write = refl; disk = refl; links = refl; link = λ is. absurd (cc is) };
}

-- and their spawner

pub tries_by : {K L P : Type 0} (a : Asked) (asked : Option Asked) (t t' : TrialOutside K L P) (s : Status) → asked ≡ Some a → Tries (Some a) t t' s → Tries asked t t' s
tries_by a asked t t' s e x = subst (λ z. Tries z t t' s) (sym e) x

none_tries : {K L P : Type 0} (t : TrialOutside K L P) → Tries None t t status.Usage
none_tries t = record { does = refl; spawn = λ is. absurd (cc is) }

pub tries_none : {K L P : Type 0} (asked : Option Asked) (t : TrialOutside K L P) → asked ≡ None → Tries asked t t status.Usage
tries_none asked t e = subst (λ z. Tries z t t status.Usage) (sym e) (none_tries t)

short_spawns : {K L P : Type 0} (asked : Option Asked) (t : TrialOutside K L P) → Spawns asked t t status.NoMemory
short_spawns None t = refl
short_spawns (Some Replay) t = refl
short_spawns (Some (Soak w)) t = refl
short_spawns (Some (Node a)) t = refl
short_spawns (Some (Client a)) t = refl
short_spawns (Some (Trial a)) t = inr (record { is = refl; same = refl })
short_spawns (Some (Migrate a)) t = refl

pub tries_short : {K L P : Type 0} (asked : Option Asked) (t : TrialOutside K L P) → Tries asked t t status.NoMemory
tries_short asked t = record { does = short_spawns asked t; spawn = λ is. absurd (cc is) }

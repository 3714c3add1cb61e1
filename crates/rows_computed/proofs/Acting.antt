-- For each rule an event at which exactly that rule applies, by the rules' numbers; 0 where none does.
use Rattle.vr_base.specs.Kinds.{strict}
use Rattle.std.proofs.Common.{ℕ, ◌+◌, ◌-◌, ◌^◌, ◌≡◌, List, [], ◌∷◌, ◌++◌, length, map, drop, replicate, codes, refl}
use Rattle.vr_base.specs.Replicas.{no_replicas, with_replica}
use Rattle.vr_base.specs.declared.sum.Sum.{Sum}
use Rattle.vr_header.specs.declared.command.Command.TheVariants as command
use Rattle.vr_header.specs.declared.header.Header.{Header}
use Rattle.vr_header.specs.declared.operation.Operation.{Operation}
use Rattle.vr_header.specs.declared.operation.Operation.TheVariants.{Register, Get}
use Rattle.vr_header.specs.declared.outcome.Outcome.TheVariants as outcome
use Rattle.vr_header.specs.declared.part.Part.{Part}
use Rattle.vr_header.specs.declared.part.Part.TheVariants.{Here, Lost, Wanted, Unknown, Nothing}
use Rattle.vr_header.specs.Names.{name_by, no_name, root_by}
use Rattle.vr_msg.specs.declared.event.Event.{Event}
use Rattle.vr_msg.specs.declared.event.Event.TheVariants.{Request, Deliver}
use Rattle.vr_msg.specs.declared.frame.Frame.TheVariants as frame
use Rattle.vr_rules.specs.Replica.{Replica, last_view}
use Rattle.vr_rules.specs.Deciding.{number_of}
use Rattle.vr_rules.specs.Rules.{rule_for}
use Rattle.vr_rules.specs.Opening.{fresh}
use Rattle.rows_computed.proofs.Plain.{Plain, after_fresh, cheap, formatted, plain, bare_at, root_name}

-- ---- entries of client 7: op 1 is a register, and each stands on the one before it

abbrev pub header : ℕ → ℕ → ℕ → Sum → Header
header cluster made op parent = record {
  body = no_name;
  parent = parent;
  request_name = no_name;
  cluster = cluster;
  client = 7;
  request = op - 1;
  view = made;
  op = op;
  commit = 0;
  size = 129;
  command = command.Entry;
  replica = 0;
  version = 1;
  kind = 0;
  aux = 0;
}

abbrev pub name : Header → Sum
name h = name_by cheap h

abbrev pub h1 : Header
h1 = header 0 0 1 (name (root_by cheap 0))

abbrev pub h2 : Header
h2 = header 0 0 2 (name h1)

abbrev pub h3 : Header
h3 = header 0 0 3 (name h2)

-- another one for op 2, made in view 2
abbrev pub g2 : Header
g2 = header 0 2 2 (name h1)

-- ---- replicas of a group of three

-- these Parts, of the first ops that it remembers
abbrev pub with_parts : List Part → Replica → Replica
with_parts ps r = record r { parts = ps ++ drop (length ps) r.parts }

abbrev pub in_view : ℕ → ℕ → Replica → Replica
in_view view log_view r = record r { view = view; log_view = log_view }

-- ops 1 and 2 are stored, and op 1 is applied
abbrev pub two : ℕ → Replica
two index =
    record (with_parts (Here h1 ∷ Here h2 ∷ []) (fresh strict 0 3 index)) {
      commit = 1;
      applied = 1;
      state = record { sessions = (7, record { number = 0; op = 1; outcome = outcome.Session }) ∷ []; machine = [] };
    }

abbrev pub primary : Replica
primary = two 0

abbrev pub backup : Replica
backup = two 1

-- replica 1 has entered view 2, whose primary is replica 2, and has heard of replica 2
abbrev pub changing : Replica
changing = record (in_view 2 0 backup) { heard = with_replica (with_replica no_replicas 1) 2 }

-- replica 2 has entered view 2, and doesn't lead it yet
abbrev pub candidate : Replica
candidate = in_view 2 0 (two 2)

-- both ops are applied
abbrev pub settled : Replica
settled =
    record primary {
      commit = 2;
      applied = 2;
      state = record { sessions = (7, record { number = 1; op = 2; outcome = outcome.Ok }) ∷ []; machine = [] };
    }

-- the ops of a checkpoint are applied, and known up to it or not
abbrev pub at_checkpoint : ℕ → List Part → ℕ → Replica
at_checkpoint op known index =
    record (fresh strict 0 3 index) {
      commit = op;
      applied = op;
      checkpoint = op;
      first = op + 1 - length known;
      parts = known ++ replicate 64 Nothing;
      ackers = replicate (64 + length known) no_replicas;
    }

abbrev pub frozen : Replica → Replica
frozen r = record r { view = last_view + 1; log_view = last_view + 1 }

abbrev pub spent : ℕ → Replica → Replica
spent sequence r = record r { saved = record r.saved { fields = record r.saved.fields { sequence = sequence } } }

-- ---- which rules apply

abbrev pub disk : Plain
disk = formatted strict 0 3 0

abbrev pub rules : Replica → List Event → List ℕ
rules r es = map (λ e. number_of (rule_for plain disk r e)) es

-- ---- requests

abbrev pub ask : ℕ → ℕ → Operation → Event
ask client request operation = Request (record { version = 1; cluster = 0; client = client; request = request; operation = operation })

abbrev pub get : Operation
get = Get (codes "a")

other_group : rules primary (Request (record { version = 1; cluster = 5; client = 8; request = 0; operation = Register }) ∷ []) ≡ 0 ∷ []
unfolding after_fresh
other_group = refl

not_leading : map (λ r. rules r (ask 8 0 Register ∷ [])) (backup ∷ changing ∷ candidate ∷ in_view 1 1 primary ∷ []) ≡ replicate 4 (1 ∷ [])
unfolding after_fresh
not_leading = refl

behind : map (λ r. rules r (ask 8 0 Register ∷ [])) (record primary { missing = root_name (bare_at 32) ∷ [] } ∷ record primary { applied = 0 } ∷ []) ≡ replicate 2 (2 ∷ [])
unfolding after_fresh
behind = refl

-- client 7 has op 2 in flight; client 8 has none
in_flight : rules primary (ask 7 1 get ∷ ask 7 2 get ∷ ask 8 0 Register ∷ ask 8 1 get ∷ []) ≡ 3 ∷ 3 ∷ 6 ∷ 4 ∷ []
unfolding after_fresh
in_flight = refl

-- what is known past the head isn't in flight
not_in_flight : rules (with_parts (Here h1 ∷ Nothing ∷ Here h3 ∷ []) primary) (ask 7 1 get ∷ []) ≡ 6 ∷ []
unfolding after_fresh
not_in_flight = refl

-- a repeat, an old one, the next one, a gap; without a session
answered : rules settled (ask 7 1 get ∷ ask 7 0 Register ∷ ask 7 2 get ∷ ask 7 3 get ∷ ask 8 1 get ∷ ask 8 0 Register ∷ []) ≡ 4 ∷ 4 ∷ 6 ∷ 4 ∷ 4 ∷ 6 ∷ []
unfolding after_fresh
answered = refl

-- with seven and with eight ops open, and with the last op known
full : map (λ r. rules r (ask 8 0 Register ∷ [])) (
    with_parts (replicate 8 (Here h1)) primary
    ∷ with_parts (replicate 9 (Here h1)) primary
    ∷ at_checkpoint (2 ^ 62 - 32) [] 0
    ∷ at_checkpoint (2 ^ 62) [] 0
    ∷ []) ≡ (6 ∷ []) ∷ (5 ∷ []) ∷ (6 ∷ []) ∷ (5 ∷ []) ∷ []
unfolding after_fresh
full = refl

-- ---- prepares

abbrev pub prepare : ℕ → ℕ → Header → Event
prepare sender view h = Deliver (frame.Prepare (record { version = 1; replica = sender; view = view; commit = 0; entry = record { header = h; operation = get } }))

-- of another group; from itself; from no member; from one that isn't the primary of the view
prepares_ignored : rules backup (prepare 0 0 (header 5 0 3 (name h2)) ∷ prepare 1 1 h3 ∷ prepare 3 3 h3 ∷ prepare 2 0 h3 ∷ []) ≡ 0 ∷ 0 ∷ 0 ∷ 0 ∷ []
unfolding after_fresh
prepares_ignored = refl

prepares_of_views : map (λ r. rules r (prepare 0 0 h3 ∷ prepare 2 2 h3 ∷ prepare 0 3 h3 ∷ [])) (backup ∷ changing ∷ in_view 3 2 backup ∷ in_view 2 2 backup ∷ [])
    ≡ (12 ∷ 8 ∷ 8 ∷ []) ∷ (7 ∷ 8 ∷ 8 ∷ []) ∷ (7 ∷ 7 ∷ 8 ∷ []) ∷ (7 ∷ 12 ∷ 8 ∷ []) ∷ []
unfolding after_fresh
prepares_of_views = refl

-- up to the checkpoint, at both ends of the window, and past it
prepares_of_window : rules (at_checkpoint 32 [] 1) (map (λ op. prepare 0 0 (header 0 0 op no_name)) (1 ∷ 32 ∷ 33 ∷ 34 ∷ 96 ∷ 97 ∷ [])) ≡ 9 ∷ 9 ∷ 14 ∷ 13 ∷ 13 ∷ 10 ∷ []
unfolding after_fresh
prepares_of_window = refl

-- a known header, whatever is stored of it; another one; what is known of the next one is that it may have been something
prepares_known : map (λ p. rules (with_parts (Here h1 ∷ p ∷ []) backup) (prepare 0 0 h2 ∷ prepare 0 0 g2 ∷ [])) (Here h2 ∷ Lost h2 ∷ Wanted h2 ∷ Unknown ∷ Nothing ∷ [])
    ≡ (11 ∷ 14 ∷ []) ∷ (11 ∷ 14 ∷ []) ∷ (11 ∷ 14 ∷ []) ∷ (12 ∷ 12 ∷ []) ∷ (12 ∷ 12 ∷ []) ∷ []
unfolding after_fresh
prepares_known = refl

-- the next one, also where it stands on op 1's root; on another parent; ahead
prepares_new : rules backup (prepare 0 0 h3 ∷ prepare 0 0 (header 0 0 3 (name g2)) ∷ prepare 0 0 (header 0 0 4 (name h3)) ∷ []) ++ rules (fresh strict 0 3 1) (prepare 0 0 h1 ∷ prepare 0 0 (header 0 0 1 no_name) ∷ prepare 0 0 h2 ∷ [])
    ≡ 12 ∷ 14 ∷ 13 ∷ 12 ∷ 14 ∷ 13 ∷ []
unfolding after_fresh
prepares_new = refl

-- ---- prepare_oks

abbrev pub prepare_ok : ℕ → ℕ → ℕ → ℕ → Sum → Event
prepare_ok cluster sender view op name = Deliver (frame.PrepareOk (record { version = 1; cluster = cluster; replica = sender; view = view; op = op; name = name; made = 0 }))

-- the one that counts; of another group, from itself, from no member; of another view; of a committed op, past the head, by another name
counted : rules primary (
    prepare_ok 0 1 0 2 (name h2)
    ∷ prepare_ok 5 1 0 2 (name h2) ∷ prepare_ok 0 0 0 2 (name h2) ∷ prepare_ok 0 3 0 2 (name h2)
    ∷ prepare_ok 0 1 1 2 (name h2)
    ∷ prepare_ok 0 1 0 1 (name h1) ∷ prepare_ok 0 1 0 3 (name h3) ∷ prepare_ok 0 1 0 2 (name g2)
    ∷ []) ≡ 15 ∷ 0 ∷ 0 ∷ 0 ∷ 0 ∷ 0 ∷ 0 ∷ 0 ∷ []
unfolding after_fresh
counted = refl

-- not at a backup, nor at a primary that isn't started
not_counted : rules backup (prepare_ok 0 0 0 2 (name h2) ∷ []) ++ rules candidate (prepare_ok 0 0 2 2 (name h2) ∷ []) ≡ 0 ∷ 0 ∷ []
unfolding after_fresh
not_counted = refl

-- ---- commits

abbrev pub commit : ℕ → ℕ → ℕ → Event
commit cluster sender view = Deliver (frame.Commit (record { version = 1; cluster = cluster; replica = sender; view = view; head = 2; commit = 2 }))

commits : map (λ r. rules r (commit 0 0 0 ∷ commit 0 2 2 ∷ commit 0 0 3 ∷ [])) (backup ∷ changing ∷ in_view 3 2 backup ∷ in_view 2 2 backup ∷ [])
    ≡ (18 ∷ 17 ∷ 17 ∷ []) ∷ (16 ∷ 17 ∷ 17 ∷ []) ∷ (16 ∷ 16 ∷ 17 ∷ []) ∷ (16 ∷ 18 ∷ 17 ∷ []) ∷ []
unfolding after_fresh
commits = refl

commits_ignored : rules backup (commit 5 0 0 ∷ commit 0 1 1 ∷ commit 0 3 3 ∷ commit 0 2 0 ∷ []) ≡ 0 ∷ 0 ∷ 0 ∷ 0 ∷ []
unfolding after_fresh
commits_ignored = refl

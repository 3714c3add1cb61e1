-- For each rule of messages, an event at which exactly that rule applies: those of view changes and repair, and for ticks.
use Rattle.vr_base.specs.Kinds.{strict}
use Rattle.std.proofs.Common.{ℕ, ◌-◌, ◌^◌, ◌≡◌, List, [], ◌∷◌, ◌++◌, map, replicate, refl, true, Some}
use Rattle.vr_base.specs.declared.sum.Sum.{Sum}
use Rattle.vr_header.specs.declared.header.Header.{Header}
use Rattle.vr_header.specs.declared.part.Part.TheVariants.{Here, Lost, Wanted, Unknown, Nothing}
use Rattle.vr_header.specs.Names.{no_name}
use Rattle.vr_msg.specs.declared.event.Event.{Event}
use Rattle.vr_msg.specs.declared.event.Event.TheVariants.{Deliver, Tick}
use Rattle.vr_msg.specs.declared.frame.Frame.TheVariants as frame
use Rattle.vr_msg.specs.declared.reply.ReplyKind.TheVariants as reply
use Rattle.vr_ckpt.specs.declared.name.Name.{Name}
use Rattle.vr_rules.specs.Deciding.{number_of}
use Rattle.vr_rules.specs.Replica.{Replica}
use Rattle.vr_rules.specs.Rules.{rule_for}
use Rattle.vr_rules.specs.Opening.{fresh}
use Rattle.rows_computed.proofs.Acting.{header, name, h1, h2, h3, g2, with_parts, in_view, two, primary, backup, changing, candidate, at_checkpoint, frozen, spent, disk, rules, ask, get, prepare, commit}
use Rattle.rows_computed.proofs.Plain.{Plain, after_fresh, plain, bare_at, root_block, root_name}

-- ---- start_view_changes

abbrev pub start_view_change : ℕ → ℕ → ℕ → Event
start_view_change cluster sender view = Deliver (frame.StartViewChange (record { version = 1; cluster = cluster; replica = sender; view = view }))

-- `changing` has heard of replica 2, and not of replica 0
changes : map (λ r. rules r (start_view_change 0 0 1 ∷ start_view_change 0 0 2 ∷ start_view_change 0 2 2 ∷ start_view_change 0 2 3 ∷ [])) (
    backup ∷ changing ∷ in_view 2 2 backup ∷ in_view 1 1 backup ∷ [])
    ≡ (20 ∷ 20 ∷ 20 ∷ 20 ∷ []) ∷ (19 ∷ 21 ∷ 0 ∷ 20 ∷ []) ∷ (19 ∷ 0 ∷ 0 ∷ 20 ∷ []) ∷ (22 ∷ 20 ∷ 20 ∷ 20 ∷ []) ∷ []
unfolding after_fresh
changes = refl

changes_ignored : rules backup (start_view_change 5 0 1 ∷ start_view_change 0 1 1 ∷ start_view_change 0 3 1 ∷ []) ≡ 0 ∷ 0 ∷ 0 ∷ []
unfolding after_fresh
changes_ignored = refl

-- ---- do_view_changes

abbrev pub do_view_change : ℕ → ℕ → ℕ → Event
do_view_change cluster sender view =
    Deliver (frame.DoViewChange (record {
      version = 1;
      cluster = cluster;
      replica = sender;
      view = view;
      statement = record { log_view = 0; commit = 0; head = 0; body = record { first = 1; parts = [] } };
    }))

-- replica 2, in view 0, in view 2 not started and started, and in view 5
statements : map (λ r. rules r (do_view_change 0 0 1 ∷ do_view_change 0 0 2 ∷ do_view_change 0 0 5 ∷ [])) (two 2 ∷ candidate ∷ in_view 2 2 (two 2) ∷ in_view 5 2 (two 2) ∷ [])
    ≡ (23 ∷ 25 ∷ 25 ∷ []) ∷ (23 ∷ 25 ∷ 25 ∷ []) ∷ (23 ∷ 24 ∷ 25 ∷ []) ∷ (23 ∷ 23 ∷ 25 ∷ []) ∷ []
unfolding after_fresh
statements = refl

statements_ignored : rules (two 2) (do_view_change 5 0 2 ∷ do_view_change 0 2 2 ∷ do_view_change 0 3 2 ∷ []) ≡ 0 ∷ 0 ∷ 0 ∷ []
unfolding after_fresh
statements_ignored = refl

-- ---- start_views

abbrev pub start_view : ℕ → ℕ → ℕ → ℕ → List Header → Event
start_view sender view head lo headers =
    Deliver (frame.StartView (record { version = 1; cluster = 0; replica = sender; view = view; head = head; commit = 0; body = record { lo = lo; headers = headers } }))

-- of a later view; of the view that isn't started; of the view that is, with a longer log or not; of an earlier view
logs_of_views : map (λ r. rules r (start_view 2 2 2 0 (h1 ∷ h2 ∷ []) ∷ start_view 2 2 3 0 (h1 ∷ h2 ∷ h3 ∷ []) ∷ [])) (backup ∷ changing ∷ in_view 2 2 backup ∷ in_view 3 2 backup ∷ [])
    ≡ (26 ∷ 26 ∷ []) ∷ (26 ∷ 26 ∷ []) ∷ (0 ∷ 26 ∷ []) ∷ (0 ∷ 0 ∷ []) ∷ []
unfolding after_fresh
logs_of_views = refl

-- from one that isn't the primary of the view, from itself
logs_ignored : rules backup (start_view 0 2 2 0 (h1 ∷ h2 ∷ []) ∷ start_view 1 1 2 0 (h1 ∷ h2 ∷ []) ∷ []) ≡ 0 ∷ 0 ∷ []
unfolding after_fresh
logs_ignored = refl

-- It has to reach down to the commit number, which is 1, and up to it: where it begins above it, the view's checkpoint is asked for; a
-- header that doesn't stand on the one before it; the first one may stand on any.
logs_fit : rules backup (
    start_view 2 2 2 1 (h2 ∷ [])
    ∷ start_view 2 2 2 2 []
    ∷ start_view 2 2 0 0 []
    ∷ start_view 2 2 2 0 (h1 ∷ header 0 0 2 no_name ∷ [])
    ∷ start_view 2 2 2 1 (header 0 0 2 no_name ∷ [])
    ∷ []) ≡ 26 ∷ 35 ∷ 0 ∷ 0 ∷ 26 ∷ []
unfolding after_fresh
logs_fit = refl

-- up to the end of the window and past it; with checkpoint 32 and its header known or not, a log up to it
logs_of_window : rules (at_checkpoint 32 [] 1) (start_view 2 2 96 32 [] ∷ start_view 2 2 97 32 [] ∷ start_view 2 2 32 32 [] ∷ [])
    ++ rules (at_checkpoint 32 (Here (header 0 0 32 no_name) ∷ []) 1) (start_view 2 2 32 32 [] ∷ []) ++ rules (fresh strict 0 3 1) (start_view 2 2 0 0 [] ∷ [])
    ≡ 26 ∷ 35 ∷ 0 ∷ 26 ∷ 26 ∷ []
unfolding after_fresh
logs_of_window = refl

-- past the window and above what is committed, by views: of a started one only a longer log counts
logs_out_of_reach : map (λ r. rules r (start_view 2 2 65 1 [] ∷ start_view 2 2 2 2 [] ∷ [])) (backup ∷ changing ∷ in_view 2 2 backup ∷ in_view 3 2 backup ∷ [])
    ≡ (35 ∷ 35 ∷ []) ∷ (35 ∷ 35 ∷ []) ∷ (35 ∷ 0 ∷ []) ∷ (0 ∷ 0 ∷ []) ∷ []
unfolding after_fresh
logs_out_of_reach = refl

-- ---- get_views

abbrev pub get_view : ℕ → ℕ → ℕ → Event
get_view cluster sender view = Deliver (frame.GetView (record { version = 1; cluster = cluster; replica = sender; view = view }))

views : map (λ r. rules r (get_view 0 1 2 ∷ get_view 0 1 3 ∷ get_view 0 1 4 ∷ [])) (in_view 3 3 primary ∷ in_view 3 2 primary ∷ in_view 4 4 primary ∷ [])
    ≡ (27 ∷ 27 ∷ 0 ∷ []) ∷ replicate 2 (0 ∷ 0 ∷ 0 ∷ [])
unfolding after_fresh
views = refl

views_ignored : rules primary (get_view 5 1 0 ∷ get_view 0 0 0 ∷ get_view 0 3 0 ∷ []) ≡ 0 ∷ 0 ∷ 0 ∷ []
unfolding after_fresh
views_ignored = refl

-- ---- checkpoints of others

abbrev pub get_sync : ℕ → ℕ → ℕ → Event
get_sync cluster sender view = Deliver (frame.GetSync (record { version = 1; cluster = cluster; replica = sender; view = view }))

-- op 32 is in the checkpoint, and its header is known
abbrev pub holder : ℕ → Replica
holder index = at_checkpoint 32 (Here (header 0 0 32 no_name) ∷ []) index

-- of this view or an earlier one; of a later one; of another group, from itself, from no member
syncs_asked : rules (in_view 3 3 (holder 0)) (get_sync 0 1 3 ∷ get_sync 0 1 2 ∷ get_sync 0 1 4 ∷ get_sync 5 1 3 ∷ get_sync 0 0 3 ∷ get_sync 0 3 3 ∷ []) ≡ 36 ∷ 36 ∷ replicate 4 0
unfolding after_fresh
syncs_asked = refl

-- without a checkpoint; where the known headers don't reach down to it; at a replica that doesn't lead, or whose view isn't started
syncs_not_given : map (λ r. rules r (get_sync 0 2 0 ∷ [])) (primary ∷ at_checkpoint 32 [] 0 ∷ holder 1 ∷ in_view 3 2 (holder 0) ∷ []) ≡ replicate 4 (0 ∷ [])
unfolding after_fresh
syncs_not_given = refl

-- op 32 is committed and in the checkpoint, op 33 stands on it
abbrev pub sync_view : ℕ → ℕ → List Header → Event
sync_view sender view headers =
    Deliver (frame.SyncView (record {
      version = 1;
      cluster = 0;
      replica = sender;
      view = view;
      head = 33;
      commit = 32;
      checkpoint = 32;
      root_address = 64;
      root_name = (root_name (bare_at 32)).sum;
      body = record { lo = 31; headers = headers };
    }))

abbrev h32 : Header
h32 = header 0 0 32 no_name

abbrev pub h33 : Header
h33 = header 0 0 33 (name h32)

abbrev pub logs_end : List Header
logs_end = h32 ∷ h33 ∷ []

-- of a later view; of the view that isn't started; of the view that is, since it is longer; of an earlier view
syncs_of_views : map (λ r. rules r (sync_view 2 2 logs_end ∷ [])) (backup ∷ changing ∷ in_view 2 2 backup ∷ in_view 3 2 backup ∷ []) ≡ replicate 3 (37 ∷ []) ++ (0 ∷ []) ∷ []
unfolding after_fresh
syncs_of_views = refl

-- from one that isn't the primary of the view, from itself; a header that doesn't stand on the one before it
syncs_ignored : rules backup (sync_view 0 2 logs_end ∷ sync_view 1 1 logs_end ∷ sync_view 2 2 (h32 ∷ header 0 0 33 no_name ∷ []) ∷ []) ≡ 0 ∷ 0 ∷ 0 ∷ []
unfolding after_fresh
syncs_ignored = refl

-- where more is committed than the log has; where the checkpoint isn't a later one
syncs_behind : map (λ r. rules r (sync_view 2 2 logs_end ∷ [])) (record backup { commit = 33 } ∷ record backup { commit = 34 } ∷ holder 1 ∷ []) ≡ (37 ∷ []) ∷ (0 ∷ []) ∷ (0 ∷ []) ∷ []
unfolding after_fresh
syncs_behind = refl

-- ---- repair of entries

abbrev pub get_prepare : ℕ → ℕ → ℕ → Sum → Event
get_prepare cluster sender op name = Deliver (frame.GetPrepare (record { version = 1; cluster = cluster; replica = sender; op = op; name = name; made = 0 }))

abbrev pub give_prepare : ℕ → Header → Event
give_prepare sender h = Deliver (frame.GivePrepare (record { version = 1; replica = sender; entry = record { header = h; operation = get } }))

-- who has the entry gives it, in any view
entries_asked : map (λ p. rules (with_parts (Here h1 ∷ p ∷ []) changing) (get_prepare 0 2 2 (name h2) ∷ get_prepare 0 2 2 (name g2) ∷ [])) (Here h2 ∷ Lost h2 ∷ Wanted h2 ∷ Unknown ∷ Nothing ∷ [])
    ≡ (28 ∷ 0 ∷ []) ∷ replicate 4 (0 ∷ 0 ∷ [])
unfolding after_fresh
entries_asked = refl

-- who lacks it takes it
entries_given : map (λ p. rules (with_parts (Here h1 ∷ p ∷ []) changing) (give_prepare 2 h2 ∷ give_prepare 2 g2 ∷ [])) (Here h2 ∷ Lost h2 ∷ Wanted h2 ∷ Unknown ∷ Nothing ∷ [])
    ≡ (0 ∷ 0 ∷ []) ∷ (29 ∷ 0 ∷ []) ∷ (29 ∷ 0 ∷ []) ∷ replicate 2 (0 ∷ 0 ∷ [])
unfolding after_fresh
entries_given = refl

-- of another group, from itself, from no member; of an op up to the checkpoint
entries_ignored : rules backup (get_prepare 5 2 2 (name h2) ∷ get_prepare 0 1 2 (name h2) ∷ get_prepare 0 3 2 (name h2) ∷ [])
    ++ rules (with_parts (Here h1 ∷ Lost (header 5 0 2 no_name) ∷ []) backup) (give_prepare 2 (header 5 0 2 no_name) ∷ [])
    ++ rules (with_parts (Here h1 ∷ Lost h2 ∷ []) backup) (give_prepare 1 h2 ∷ give_prepare 3 h2 ∷ [])
    ++ rules (at_checkpoint 32 (Lost (header 0 0 32 no_name) ∷ []) 1) (give_prepare 2 (header 0 0 32 no_name) ∷ [])
    ≡ replicate 7 0
unfolding after_fresh
entries_ignored = refl

-- ---- repair of blocks: the disk has the checkpoint of op 32

abbrev pub root : Name
root = root_name (bare_at 32)

abbrev pub keeping : Plain
keeping = record disk { kept = Some (bare_at 32) }

abbrev pub get_block : ℕ → ℕ → ℕ → Sum → Event
get_block cluster sender address name = Deliver (frame.GetBlock (record { version = 1; cluster = cluster; replica = sender; address = address; name = name }))

abbrev pub give_block : ℕ → ℕ → ℕ → List ℕ → Event
give_block cluster sender address block = Deliver (frame.GiveBlock (record { version = 1; cluster = cluster; replica = sender; address = address; block = block }))

-- of its name; of another address or name; of another group, from itself; where the block doesn't read
blocks_asked : map (λ e. number_of (rule_for plain keeping changing e)) (
    get_block 0 2 64 root.sum ∷ get_block 0 2 65 root.sum ∷ get_block 0 2 64 no_name ∷ get_block 5 2 64 root.sum ∷ get_block 0 1 64 root.sum ∷ [])
    ++ map (λ f. number_of (rule_for plain f changing (get_block 0 2 64 root.sum))) (record keeping { is_bad = true } ∷ disk ∷ [])
    ≡ 30 ∷ replicate 6 0
unfolding after_fresh
blocks_asked = refl

-- of its name; at another address; another block; of another group, from itself; where it isn't missing
blocks_given : rules (record changing { missing = root ∷ [] }) (
    give_block 0 2 64 (root_block (bare_at 32)) ∷ give_block 0 2 65 (root_block (bare_at 32)) ∷ give_block 0 2 64 (root_block (bare_at 64)) ∷ give_block 5 2 64 (root_block (bare_at 32)) ∷ give_block 0 1 64 (root_block (bare_at 32)) ∷ [])
    ++ rules changing (give_block 0 2 64 (root_block (bare_at 32)) ∷ [])
    ≡ 31 ∷ replicate 5 0
unfolding after_fresh
blocks_given = refl

-- the same for one that has gone bad
bad_blocks_given : rules (record changing { worn = root ∷ [] }) (
    give_block 0 2 64 (root_block (bare_at 32)) ∷ give_block 0 2 65 (root_block (bare_at 32)) ∷ give_block 0 2 64 (root_block (bare_at 64)) ∷ give_block 5 2 64 (root_block (bare_at 32)) ∷ give_block 0 1 64 (root_block (bare_at 32)) ∷ [])
    ≡ 31 ∷ replicate 4 0
unfolding after_fresh
bad_blocks_given = refl

-- ---- ticks

ticks : map (λ r. rules r (Tick ∷ [])) (primary ∷ backup ∷ changing ∷ candidate ∷ in_view 1 1 backup ∷ in_view 3 2 primary ∷ [])
    ≡ (32 ∷ []) ∷ (33 ∷ []) ∷ (34 ∷ []) ∷ (34 ∷ []) ∷ (32 ∷ []) ∷ (34 ∷ []) ∷ []
unfolding after_fresh
ticks = refl

-- ---- at their ends: after the last view, and above the last sequence number but 255, every event is ignored

abbrev some_events : List Event
some_events = ask 8 0 get ∷ prepare 0 0 h3 ∷ commit 0 0 0 ∷ start_view_change 0 0 2 ∷ start_view 2 2 2 0 (h1 ∷ h2 ∷ []) ∷ get_prepare 0 0 2 (name h2) ∷ Tick ∷ []

at_ends : map (λ r. rules r some_events) (spent (2 ^ 64 - 256) backup ∷ spent (2 ^ 64 - 255) backup ∷ frozen backup ∷ [])
    ≡ (1 ∷ 12 ∷ 18 ∷ 20 ∷ 26 ∷ 28 ∷ 33 ∷ []) ∷ replicate 7 0 ∷ replicate 7 0 ∷ []
unfolding after_fresh
at_ends = refl

-- a reply is for no replica
reply_ignored : rules backup (
    Deliver (frame.Reply (record { version = 1; cluster = 0; replica = 0; view = 0; client = 7; request = 0; request_name = no_name; kind = reply.Old })) ∷ []) ≡ 0 ∷ []
unfolding after_fresh
reply_ignored = refl

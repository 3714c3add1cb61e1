-- Which rule applies to an event: tables of conditions in their order. The first whose condition holds is the rule.
-- Each rule has a number, by which it stands in the tables of docs/RULES.md.
use Rattle.std.specs.Prelude.{ℕ, ◌+◌, ◌-◌, Bool, true, false, not, ◌&&◌, ◌||◌, ◌==◌, nat_lt, nat_le, List, [], ◌∷◌, take, is_some, if◌then◌else◌}
use Rattle.std.specs.List.{list_any}
use Rattle.std.specs.Option.{option_map_or}
use Rattle.vr_base.specs.declared.sum.Sum.{Sum}
use Rattle.vr_base.specs.Replicas.{has_replica}
use Rattle.vr_header.specs.declared.header.Header.{Header}
use Rattle.vr_header.specs.Names.{name_by}
use Rattle.vr_header.specs.Same.{same_header}
use Rattle.vr_msg.specs.declared.frame.Commit.{Commit}
use Rattle.vr_msg.specs.declared.frame.DoViewChange.{DoViewChange}
use Rattle.vr_msg.specs.declared.frame.GetBlock.{GetBlock}
use Rattle.vr_msg.specs.declared.frame.GetPrepare.{GetPrepare}
use Rattle.vr_msg.specs.declared.frame.GetSync.{GetSync}
use Rattle.vr_msg.specs.declared.frame.GetView.{GetView}
use Rattle.vr_msg.specs.declared.frame.GiveBlock.{GiveBlock}
use Rattle.vr_msg.specs.declared.frame.GivePrepare.{GivePrepare}
use Rattle.vr_msg.specs.declared.frame.Prepare.{Prepare}
use Rattle.vr_msg.specs.declared.frame.PrepareOk.{PrepareOk}
use Rattle.vr_msg.specs.declared.frame.StartView.{StartView}
use Rattle.vr_msg.specs.declared.frame.StartViewChange.{StartViewChange}
use Rattle.vr_msg.specs.declared.frame.SyncView.{SyncView}
use Rattle.vr_msg.specs.declared.request.RequestFields.{RequestFields}
use Rattle.vr_rules.specs.declared.rule.Rule.{Rule}
use Rattle.vr_rules.specs.declared.rule.Rule.TheVariants.{Ignored, Redirected, Behind, InFlight, Answered, Full, Made, PreparedBefore, PreparedLater, Past, Beyond, Known, Next, Ahead, Other, Counted, CommitBefore, CommitLater, CommitHeard, ChangeBefore, ChangeLater, ChangeHeard, ChangeDone, StatedBefore, StatedLate, Stated, Taken, ViewGiven, EntryGiven, EntryTaken, BlockGiven, BlockTaken, BlockMended, TickedPrimary, TickedBackup, TickedChanging, SyncAsked, SyncGiven, Jumped}
use Rattle.vr_header.specs.Parts.{header_of}
use Rattle.vr_msg.specs.Normal.{primary, same_sum, pipeline, last_op}
use Rattle.vr_state.specs.Asks.{is_fresh}
use Rattle.vr_state.specs.Sessions.{checked}
use Rattle.vr_state.specs.declared.session.SessionAnswer.{SessionAnswer}
use Rattle.vr_ckpt.specs.declared.name.Name.{Name}
use Rattle.vr_rules.specs.Replica.{Replica, version, is_started, is_primary, leads, window_end, part_at, header_at, parts_from, head, head_header, is_here, is_absent, run_start}
use Rattle.vr_rules.specs.Words.{Log, is_chain, is_loaded, is_newer, may_take, sync_log}

-- the number of a rule, 0 for none
abbrev pub number_of : Rule → ℕ
number_of Ignored = 0
number_of Redirected = 1
number_of Behind = 2
number_of InFlight = 3
number_of Answered = 4
number_of Full = 5
number_of Made = 6
number_of PreparedBefore = 7
number_of PreparedLater = 8
number_of Past = 9
number_of Beyond = 10
number_of Known = 11
number_of Next = 12
number_of Ahead = 13
number_of Other = 14
number_of Counted = 15
number_of CommitBefore = 16
number_of CommitLater = 17
number_of CommitHeard = 18
number_of ChangeBefore = 19
number_of ChangeLater = 20
number_of ChangeHeard = 21
number_of ChangeDone = 22
number_of StatedBefore = 23
number_of StatedLate = 24
number_of Stated = 25
number_of Taken = 26
number_of ViewGiven = 27
number_of EntryGiven = 28
number_of EntryTaken = 29
number_of BlockGiven = 30
number_of BlockTaken = 31
number_of BlockMended = 31
number_of TickedPrimary = 32
number_of TickedBackup = 33
number_of TickedChanging = 34
number_of SyncAsked = 35
number_of SyncGiven = 36
number_of Jumped = 37

-- conditions with what they decide, in order; where none holds the event is ignored
abbrev pub Table : Type 0
Table = List (Bool × Rule)

unfoldable pub first_of : Table → Rule
first_of [] = Ignored
first_of (row ∷ rows) = if row.0 then row.1 else first_of rows

abbrev pub Hash : Type 0
Hash = List ℕ → List ℕ

-- ---- of messages

-- of the replica's version and group
abbrev pub is_for : ℕ → ℕ → Replica → Bool
is_for v cluster r = (v == version r) && (cluster == r.cluster)

-- and from another replica of the group
abbrev pub is_from : ℕ → ℕ → ℕ → Replica → Bool
is_from v cluster sender r = is_for v cluster r && (nat_lt sender r.n && not (sender == r.index))

-- it is from the primary of its view, too
abbrev pub is_from_primary : ℕ → ℕ → ℕ → ℕ → Replica → Bool
is_from_primary v cluster sender view r = is_from v cluster sender r && (sender == primary r.n view)

-- op k has a known header, and it is this one
abbrev pub is_known : Header → ℕ → Replica → Bool
is_known h k r = option_map_or (λ d. same_header d h) (header_at r k) false

-- the known header of op k has this name
abbrev pub is_named : Hash → Sum → ℕ → Replica → Bool
is_named hash name k r = option_map_or (λ d. same_sum (name_by hash d) name) (header_at r k) false

abbrev pub is_unknown : ℕ → Replica → Bool
is_unknown k r = not (is_some (header_at r k))

-- ---- a request

-- an entry of the client stands above the commit number
unfoldable pub is_in_flight : ℕ → Replica → Bool
is_in_flight client r =
    list_any (λ p. option_map_or (λ h. h.client == client) (header_of p) false) (take (head r - r.commit) (parts_from r (r.commit + 1)))

abbrev pub session_answer : RequestFields → Replica → SessionAnswer
session_answer q r = checked r.state.sessions q.client q.request

abbrev pub request_table : RequestFields → Replica → Table
request_table q r =
    (not (is_for q.version q.cluster r), Ignored)
    ∷ (not (leads r), Redirected)
    ∷ (not (is_loaded r) || nat_lt r.applied r.commit, Behind)
    ∷ (is_in_flight q.client r, InFlight)
    ∷ (not (is_fresh (session_answer q r)), Answered)
    ∷ (nat_le pipeline (head r - r.commit) || nat_le last_op (head r), Full)
    ∷ (true, Made)
    ∷ []

-- ---- a prepare

abbrev pub prepare_table : Hash → Prepare → Replica → Table
prepare_table hash p r =
    let h = p.entry.header in
    (not (is_from_primary p.version h.cluster p.replica p.view r), Ignored)
    ∷ (nat_lt p.view r.view, PreparedBefore)
    ∷ (nat_lt r.log_view p.view, PreparedLater)
    ∷ (nat_le h.op r.checkpoint, Past)
    ∷ (nat_lt (window_end r) h.op, Beyond)
    ∷ (is_known h h.op r, Known)
    ∷ (is_unknown h.op r && ((h.op == head r + 1) && same_sum h.parent (name_by hash (head_header hash r))), Next)
    ∷ (is_unknown h.op r && nat_lt (head r + 1) h.op, Ahead)
    ∷ (true, Other)
    ∷ []

-- ---- a prepare_ok

abbrev pub prepare_ok_table : Hash → PrepareOk → Replica → Table
prepare_ok_table hash a r =
    (not (is_from a.version a.cluster a.replica r), Ignored)
    ∷ (leads r && ((a.view == r.view) && (nat_lt r.commit a.op && (nat_le a.op (head r) && is_named hash a.name a.op r))), Counted)
    ∷ []

-- ---- a commit

abbrev pub commit_table : Commit → Replica → Table
commit_table c r =
    (not (is_from_primary c.version c.cluster c.replica c.view r), Ignored)
    ∷ (nat_lt c.view r.view, CommitBefore)
    ∷ (nat_lt r.log_view c.view, CommitLater)
    ∷ (true, CommitHeard)
    ∷ []

-- ---- view changes

abbrev pub start_view_change_table : StartViewChange → Replica → Table
start_view_change_table c r =
    (not (is_from c.version c.cluster c.replica r), Ignored)
    ∷ (nat_lt c.view r.view, ChangeBefore)
    ∷ (nat_lt r.view c.view, ChangeLater)
    ∷ (not (is_started r) && not (has_replica r.heard c.replica), ChangeHeard)
    ∷ (is_started r && is_primary r, ChangeDone)
    ∷ []

abbrev pub do_view_change_table : DoViewChange → Replica → Table
do_view_change_table d r =
    (not (is_from d.version d.cluster d.replica r), Ignored)
    ∷ (nat_lt d.view r.view || not (r.index == primary r.n d.view), StatedBefore)
    ∷ ((d.view == r.view) && is_started r, StatedLate)
    ∷ (true, Stated)
    ∷ []

abbrev pub log_of : StartView → Log
log_of v = record { view = v.view; lo = v.body.lo; headers = v.body.headers; head = v.head; commit = v.commit }

-- its log ends past the window, or begins above what is committed here
abbrev pub is_out_of_reach : StartView → Replica → Bool
is_out_of_reach v r = nat_lt (window_end r) v.head || nat_lt r.commit v.body.lo

abbrev pub start_view_table : Hash → StartView → Replica → Table
start_view_table hash v r =
    (not (is_from_primary v.version v.cluster v.replica v.view r), Ignored)
    ∷ (may_take hash (log_of v) r && not (r.index == primary r.n v.view), Taken)
    ∷ (is_newer (log_of v) r && (is_out_of_reach v r && not (r.index == primary r.n v.view)), SyncAsked)
    ∷ []

abbrev pub get_view_table : GetView → Replica → Table
get_view_table g r = (not (is_from g.version g.cluster g.replica r), Ignored) ∷ (leads r && nat_le g.view r.view, ViewGiven) ∷ []

-- ---- checkpoints of others

-- the known headers that reach the head without a hole reach down to the checkpoint's
abbrev pub reaches_down : Replica → Bool
reaches_down r = nat_lt 0 r.checkpoint && nat_lt (run_start r) r.checkpoint

abbrev pub get_sync_table : GetSync → Replica → Table
get_sync_table g r =
    (not (is_from g.version g.cluster g.replica r), Ignored) ∷ (leads r && (nat_le g.view r.view && reaches_down r), SyncGiven) ∷ []

-- as for a log that is taken over; that it begins no later than what is committed here isn't asked, and the checkpoint is a later one
abbrev pub may_jump : Hash → SyncView → Replica → Bool
may_jump hash v r =
    is_newer (sync_log v) r && (is_chain hash v.body.headers && (nat_le r.commit v.head && nat_lt r.checkpoint v.checkpoint))

abbrev pub sync_view_table : Hash → SyncView → Replica → Table
sync_view_table hash v r =
    (not (is_from_primary v.version v.cluster v.replica v.view r), Ignored)
    ∷ (may_jump hash v r && not (r.index == primary r.n v.view), Jumped)
    ∷ []

-- ---- repair

abbrev pub get_prepare_table : Hash → GetPrepare → Replica → Table
get_prepare_table hash g r =
    (not (is_from g.version g.cluster g.replica r), Ignored)
    ∷ (is_named hash g.name g.op r && is_here (part_at r g.op), EntryGiven)
    ∷ []

abbrev pub give_prepare_table : GivePrepare → Replica → Table
give_prepare_table g r =
    let h = g.entry.header in
    (not (is_from g.version h.cluster g.replica r), Ignored)
    ∷ (nat_lt r.checkpoint h.op && (is_known h h.op r && is_absent (part_at r h.op)), EntryTaken)
    ∷ []

-- whether the block that is asked for reads under its name
abbrev pub get_block_table : Bool → GetBlock → Replica → Table
get_block_table reads g r = (not (is_from g.version g.cluster g.replica r), Ignored) ∷ (reads, BlockGiven) ∷ []

-- the missing block of this address
abbrev pub has_missing : (Name → Bool) → Replica → Bool
has_missing test r = list_any test r.missing

-- these bytes are a missing block that belongs at this address
abbrev pub is_wanted : (Name → List ℕ → Bool) → GiveBlock → Name → Bool
is_wanted is_block g name = (name.address == g.address) && is_block name g.block

abbrev pub give_block_table : (Name → List ℕ → Bool) → GiveBlock → Replica → Table
give_block_table is_block g r =
    (not (is_from g.version g.cluster g.replica r), Ignored)
    ∷ (has_missing (is_wanted is_block g) r, BlockTaken)
    ∷ (list_any (is_wanted is_block g) r.worn, BlockMended)
    ∷ []

-- ---- a tick

abbrev pub tick_table : Replica → Table
tick_table r = (leads r, TickedPrimary) ∷ (is_started r, TickedBackup) ∷ (true, TickedChanging) ∷ []

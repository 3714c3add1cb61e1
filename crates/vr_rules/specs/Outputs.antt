-- What a replica puts out: messages, replies and lines, with present values.
use Rattle.std.specs.Prelude.{ℕ, ◌==◌, not, List, [], ◌∷◌, map, filter, if◌then◌else◌, ◌++◌}
use Rattle.std.specs.List.{range_with_len}
use Rattle.vr_header.specs.declared.header.Header.{Header}
use Rattle.vr_header.specs.Made.{Whole}
use Rattle.vr_header.specs.Names.{name_by}
use Rattle.vr_msg.specs.declared.frame.Frame.{Frame}
use Rattle.vr_msg.specs.declared.frame.Frame.TheVariants as frame
use Rattle.vr_msg.specs.declared.output.Output.{Output}
use Rattle.vr_msg.specs.declared.output.Output.TheVariants as output
use Rattle.vr_msg.specs.declared.output.Sent.{Sent}
use Rattle.vr_msg.specs.declared.reply.ReplyKind.{ReplyKind}
use Rattle.vr_msg.specs.declared.reply.ReplyKind.TheVariants as reply
use Rattle.vr_msg.specs.Normal.{primary}
use Rattle.vr_state.specs.Folds as state
use Rattle.vr_state.specs.declared.reply.ReplyBody.{ReplyBody}
use Rattle.vr_state.specs.declared.reply.ReplyBody.TheVariants as body
use Rattle.vr_ckpt.specs.declared.name.Name.{Name}
use Rattle.vr_rules.specs.declared.asker.Asker.{Asker}
use Rattle.vr_rules.specs.Replica.{Replica, version, leads, head, run, run_start, statement_of}

-- ---- outputs

-- the other replicas, ascending
abbrev pub others : ℕ → ℕ → List ℕ
others index n = filter (λ to. not (to == index)) (range_with_len 0 n)

abbrev pub send : ℕ → Frame → Replica → Output
send to message r = output.Send (record { from = r.index; to = to; message = message })

abbrev pub send_to : ℕ → Frame → Replica → List Output
send_to to message r = send to message r ∷ []

unfoldable pub send_to_all : (Replica → Frame) → Replica → List Output
send_to_all message r = map (λ to. send to (message r) r) (others r.index r.n)

abbrev pub to_primary : (Replica → Frame) → Replica → List Output
to_primary message r = send_to (primary r.n r.view) (message r) r

-- ---- messages, with present values

abbrev pub prepare : Whole → Replica → Frame
prepare e r = frame.Prepare (record { version = version r; replica = r.index; view = r.view; commit = r.commit; entry = e })

-- the entry of this header is stored
abbrev pub prepare_ok : (List ℕ → List ℕ) → Header → Replica → Frame
prepare_ok hash h r =
    frame.PrepareOk (record { version = version r; cluster = r.cluster; replica = r.index; view = r.view; op = h.op; name = name_by hash h; made = h.view })

abbrev pub commit_message : Replica → Frame
commit_message r = frame.Commit (record { version = version r; cluster = r.cluster; replica = r.index; view = r.view; head = head r; commit = r.commit })

abbrev pub start_view_change : Replica → Frame
start_view_change r = frame.StartViewChange (record { version = version r; cluster = r.cluster; replica = r.index; view = r.view })

abbrev pub do_view_change : Replica → Frame
do_view_change r =
    frame.DoViewChange (record { version = version r; cluster = r.cluster; replica = r.index; view = r.view; statement = statement_of r })

abbrev pub start_view : Replica → Frame
start_view r =
    frame.StartView (record { version = version r; cluster = r.cluster; replica = r.index; view = r.view; head = head r; commit = r.commit; body = record { lo = run_start r; headers = run r } })

-- the checkpoint, and the log from below it
abbrev pub sync_view : Replica → Frame
sync_view r =
    frame.SyncView (record {
      version = version r;
      cluster = r.cluster;
      replica = r.index;
      view = r.view;
      head = head r;
      commit = r.commit;
      checkpoint = r.checkpoint;
      root_address = r.root.address;
      root_name = r.root.sum;
      body = record { lo = run_start r; headers = run r };
    })

abbrev pub get_sync : ℕ → Replica → Frame
get_sync view r = frame.GetSync (record { version = version r; cluster = r.cluster; replica = r.index; view = view })

abbrev pub get_view : ℕ → Replica → Frame
get_view view r = frame.GetView (record { version = version r; cluster = r.cluster; replica = r.index; view = view })

abbrev pub get_prepare : (List ℕ → List ℕ) → Header → Replica → Frame
get_prepare hash h r =
    frame.GetPrepare (record { version = version r; cluster = r.cluster; replica = r.index; op = h.op; name = name_by hash h; made = h.view })

abbrev pub give_prepare : Whole → Replica → Frame
give_prepare e r = frame.GivePrepare (record { version = version r; replica = r.index; entry = e })

abbrev pub get_block : Name → Replica → Frame
get_block name r = frame.GetBlock (record { version = version r; cluster = r.cluster; replica = r.index; address = name.address; name = name.sum })

abbrev pub give_block : ℕ → List ℕ → Replica → Frame
give_block address block r = frame.GiveBlock (record { version = version r; cluster = r.cluster; replica = r.index; address = address; block = block })

-- ---- lines and replies

abbrev pub replies : Asker → ReplyKind → Replica → List Output
replies a kind r =
    output.Reply (record { version = version r; cluster = r.cluster; replica = r.index; view = r.view; client = a.client; request = a.request; request_name = a.name; kind = kind })
    ∷ []

-- an entry's request
abbrev pub asker_of : Whole → Asker
asker_of e = record { client = e.header.client; request = e.header.request; name = e.header.request_name }

abbrev pub kind_of : ReplyBody → ReplyKind
kind_of (body.Outcome outcome op) = reply.Outcome (record { op = op; outcome = outcome })
kind_of body.Old = reply.Old
kind_of body.Gap = reply.Gap
kind_of body.Evicted = reply.Evicted

abbrev pub commit_line : Whole → Replica → List Output
commit_line e r = output.Commit (record { replica = r.index; entry = e }) ∷ []

-- at the primary of a view that is started
abbrev pub applied_reply : Whole → Replica → List Output
applied_reply e r = if leads r then replies (asker_of e) (kind_of (state.applied r.state e).reply) r else []

abbrev pub start_line : Replica → List Output
start_line r = output.Start (record { replica = r.index; view = r.view; log_view = r.log_view; commit = r.commit }) ∷ []

abbrev pub wait_line : ℕ → Replica → List Output
wait_line op r = output.Wait (record { replica = r.index; view = r.view; op = op }) ∷ []

-- ---- the messages among outputs

abbrev pub message_of : Output → List Sent
message_of (output.Send s) = s ∷ []
message_of _ = []

unfoldable pub messages : List Output → List Sent
messages [] = []
messages (o ∷ os) = message_of o ++ messages os

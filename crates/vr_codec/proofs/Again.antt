-- A message that is spelled is of its form, and is read again.
use Rattle.std.proofs.Common.{◌≡◌, ℕ, ◌+◌, ◌-◌, ◌^◌, ◌≤◌, ◌<◌, Bool, true, false, cond, eqb, leb, List, [], length, refl, sym, ap, ◌∙◌, arith, subst, Some}
use Rattle.std.specs.Prelude.{◌&&◌, ◌↔◌, ◌≢◌, map, not, slice_get}
use Rattle.std.specs.List.{prefix_len}
use Rattle.std.proofs.lemmas.Bool.{eq-eqb, eqb-true, leb-true, le-leb, le-ltb, lt-ltb}
use Rattle.std.proofs.lemmas.Slice.Eq.{bytes_eq-Decides}
use Rattle.vr_base.specs.Bytes.{name_of}
use Rattle.vr_header.specs.declared.header.Header.{Header}
use Rattle.vr_header.specs.declared.operation.Operation.{Operation}
use Rattle.vr_header.specs.declared.operation.Operation.TheVariants.{Register}
use Rattle.vr_header.specs.declared.part.Part.{Part}
use Rattle.vr_header.specs.declared.part.Part.TheVariants.{Nothing}
use Rattle.vr_header.specs.Bodies.{IsOperation, operation_bytes}
use Rattle.vr_header.specs.Made.{IsEntry, Whole, entry_bytes}
use Rattle.vr_header.specs.Spelling.{IsHeader}
use Rattle.vr_header.proofs.BodyLaws.{operation_again, outcome_again}
use Rattle.vr_header.proofs.EntryLaws.{entry_again}
use Rattle.vr_msg.specs.declared.frame.Frame.{Frame}
use Rattle.vr_msg.specs.declared.frame.Frame.TheVariants as frame
use Rattle.vr_msg.specs.declared.reply.ReplyKind.{ReplyKind}
use Rattle.vr_msg.specs.declared.reply.ReplyKind.TheVariants as reply
use Rattle.vr_msg.specs.declared.statement.Statement.{Statement}
use Rattle.vr_msg.specs.Asking.{IsKindValue, IsReplyKind}
use Rattle.vr_msg.specs.declared.frame.SyncView.{SyncView}
use Rattle.vr_msg.specs.Forms.{IsFrame, IsSyncView}
use Rattle.vr_msg.specs.Logs.{FromOp, IsEntryAt, IsPartAt, IsStatement}
use Rattle.vr_header.specs.Parts.{has_header}
use Rattle.vr_codec.specs.Reading.{frame_for, kind_at}
use Rattle.vr_codec.specs.Shapes.{body_fits, entry_fits, has_shape, is_asked, is_body, is_view, kind_fits, log_fits, numbers_fit, parts_fit, statement_fits, sync_fits, tags_run, unused_names_are_zero, unused_numbers_are_zero}
use Rattle.vr_msg.specs.Spelling.{AreHeaders, IsBodyValue, IsName, body_bytes, command_for, frame_header, headers_bytes, kind_bytes, kind_number, kind_op, known, parts_bytes, sync_bytes, tag}
use Rattle.vr_codec.proofs.Fitting.{one_byte}
use Rattle.vr_codec.proofs.Lists.{at_true, headers_again, headers_true}
use Rattle.vr_codec.proofs.Syncs.{checkpoint_true, sync_parts}
use Rattle.vr_codec.proofs.Parts.{body_again, body_parts, last_true, run_tags, tags_true}

pub command_of_frame : (m : Frame) → (frame_header m).command ≡ command_for m
command_of_frame (frame.Request q) = refl
command_of_frame (frame.Reply r) = refl
command_of_frame (frame.Prepare p) = refl
command_of_frame (frame.PrepareOk p) = refl
command_of_frame (frame.Commit c) = refl
command_of_frame (frame.StartViewChange s) = refl
command_of_frame (frame.DoViewChange d) = refl
command_of_frame (frame.StartView v) = refl
command_of_frame (frame.GetView g) = refl
command_of_frame (frame.GetPrepare g) = refl
command_of_frame (frame.GivePrepare g) = refl
command_of_frame (frame.GetBlock g) = refl
command_of_frame (frame.GiveBlock g) = refl
command_of_frame (frame.GetSync g) = refl
command_of_frame (frame.SyncView v) = refl

pub size_of_frame : (m : Frame) → (frame_header m).size ≡ 128 + length (body_bytes m)
size_of_frame (frame.Request q) = refl
size_of_frame (frame.Reply r) = refl
size_of_frame (frame.Prepare p) = refl
size_of_frame (frame.PrepareOk p) = refl
size_of_frame (frame.Commit c) = refl
size_of_frame (frame.StartViewChange s) = refl
size_of_frame (frame.DoViewChange d) = refl
size_of_frame (frame.StartView v) = refl
size_of_frame (frame.GetView g) = refl
size_of_frame (frame.GetPrepare g) = refl
size_of_frame (frame.GivePrepare g) = refl
size_of_frame (frame.GetBlock g) = refl
size_of_frame (frame.GiveBlock g) = refl
size_of_frame (frame.GetSync g) = refl
size_of_frame (frame.SyncView v) = refl

pub name_of_frame : (m : Frame) → (frame_header m).body.0 ≡ name_of (body_bytes m)
name_of_frame (frame.Request q) = refl
name_of_frame (frame.Reply r) = refl
name_of_frame (frame.Prepare p) = refl
name_of_frame (frame.PrepareOk p) = refl
name_of_frame (frame.Commit c) = refl
name_of_frame (frame.StartViewChange s) = refl
name_of_frame (frame.DoViewChange d) = refl
name_of_frame (frame.StartView v) = refl
name_of_frame (frame.GetView g) = refl
name_of_frame (frame.GetPrepare g) = refl
name_of_frame (frame.GivePrepare g) = refl
name_of_frame (frame.GetBlock g) = refl
name_of_frame (frame.GiveBlock g) = refl
name_of_frame (frame.GetSync g) = refl
name_of_frame (frame.SyncView v) = refl

pub is_body_true : (h : Header) (body : List ℕ) → h.size ≡ 128 + length body → h.body.0 ≡ name_of body → is_body h body ≡ true
unfolding is_body
is_body_true h body s n = rw (eq-eqb h.size (128 + length body) s, (bytes_eq-Decides h.body.0 (name_of body)).1 n) refl

-- ---- no field is set that the command has no use for

names_true : (m : Frame) → unused_names_are_zero (frame_header m) ≡ true
unfolding unused_names_are_zero
names_true (frame.Request q) = refl
names_true (frame.Reply r) = refl
names_true (frame.Prepare p) = refl
names_true (frame.PrepareOk p) = refl
names_true (frame.Commit c) = refl
names_true (frame.StartViewChange s) = refl
names_true (frame.DoViewChange d) = refl
names_true (frame.StartView v) = refl
names_true (frame.GetView g) = refl
names_true (frame.GetPrepare g) = refl
names_true (frame.GivePrepare g) = refl
names_true (frame.GetBlock g) = refl
names_true (frame.GiveBlock g) = refl
names_true (frame.GetSync g) = refl
names_true (frame.SyncView v) = refl

unused_true : (m : Frame) → unused_numbers_are_zero (frame_header m) ≡ true
unfolding unused_numbers_are_zero
unused_true (frame.Request q) = refl
unused_true (frame.Reply r) = refl
unused_true (frame.Prepare p) = refl
unused_true (frame.PrepareOk p) = refl
unused_true (frame.Commit c) = refl
unused_true (frame.StartViewChange s) = refl
unused_true (frame.DoViewChange d) = refl
unused_true (frame.StartView v) = refl
unused_true (frame.GetView g) = refl
unused_true (frame.GetPrepare g) = refl
unused_true (frame.GivePrepare g) = refl
unused_true (frame.GetBlock g) = refl
unused_true (frame.GiveBlock g) = refl
unused_true (frame.GetSync g) = refl
unused_true (frame.SyncView v) = refl

positive : (n : ℕ) → 1 ≤ n → eqb n 0 ≡ false
positive n l =
    let cases : (b : Bool) → eqb n 0 ≡ b → b ≡ false =
    elim [
      | true ↦ λ e. absurd (let z = eqb-true n 0 e in omega arith)
      | false ↦ λ e. refl
    ] in
    cases (eqb n 0) refl

lt-not_le : (a b : ℕ) → b < a → leb a b ≡ false
lt-not_le a b l =
    let cases : (t : Bool) → leb a b ≡ t → t ≡ false =
    elim [
      | true ↦ λ e. absurd (let z = leb-true a b e in omega arith)
      | false ↦ λ e. refl
    ] in
    cases (leb a b) refl

-- ---- the numbers

three : (h : Header) → h.view < 2 ^ 32 - 1 → h.op ≤ 2 ^ 62 → h.commit ≤ 2 ^ 62 → numbers_fit h ≡ true
unfolding numbers_fit
three h v o c = rw (lt-ltb h.view (2 ^ 32 - 1) v, le-leb h.op (2 ^ 62) o, le-leb h.commit (2 ^ 62) c) refl

kind_op_fits : (k : ReplyKind) → IsReplyKind k → kind_op k ≤ 2 ^ 62
kind_op_fits (reply.Outcome a) i = i
kind_op_fits reply.Old i = omega arith
kind_op_fits reply.Gap i = omega arith
kind_op_fits reply.Evicted i = omega arith
kind_op_fits reply.Busy i = omega arith
kind_op_fits reply.Redirect i = omega arith

numbers_true : (m : Frame) → IsFrame m → numbers_fit (frame_header m) ≡ true
numbers_true (frame.Request q) i = three (frame_header (frame.Request q)) (omega arith) (omega arith) (omega arith)
numbers_true (frame.Reply r) i = three (frame_header (frame.Reply r)) i.view (kind_op_fits r.kind i.kind) (omega arith)
numbers_true (frame.Prepare p) i = three (frame_header (frame.Prepare p)) i.view i.entry.header.op.1 i.commit
numbers_true (frame.PrepareOk p) i = three (frame_header (frame.PrepareOk p)) i.view i.op (omega arith)
numbers_true (frame.Commit c) i = three (frame_header (frame.Commit c)) i.view i.head i.commit
numbers_true (frame.StartViewChange s) i = three (frame_header (frame.StartViewChange s)) i (omega arith) (omega arith)
numbers_true (frame.DoViewChange d) i =
    three (frame_header (frame.DoViewChange d)) i.view i.statement.head (let a = i.statement.commit in let b = i.statement.head in omega arith)
numbers_true (frame.StartView v) i = three (frame_header (frame.StartView v)) i.view i.head (let a = i.commit in let b = i.head in omega arith)
numbers_true (frame.GetView g) i = three (frame_header (frame.GetView g)) i (omega arith) (omega arith)
numbers_true (frame.GetPrepare g) i = three (frame_header (frame.GetPrepare g)) (omega arith) i.op (omega arith)
numbers_true (frame.GivePrepare g) i = three (frame_header (frame.GivePrepare g)) (omega arith) i.entry.header.op.1 (omega arith)
numbers_true (frame.GetBlock g) i = three (frame_header (frame.GetBlock g)) (omega arith) (omega arith) (omega arith)
numbers_true (frame.GiveBlock g) i = three (frame_header (frame.GiveBlock g)) (omega arith) (omega arith) (omega arith)
numbers_true (frame.GetSync g) i = three (frame_header (frame.GetSync g)) i (omega arith) (omega arith)
numbers_true (frame.SyncView v) i = three (frame_header (frame.SyncView v)) i.view i.head (let a = i.order.2 in let b = i.head in omega arith)

-- ---- the bodies

one_way : (b c : Bool) → (b ≡ true → c ≡ true) → (c ≡ true → b ≡ true) → cond b c (not c) ≡ true
one_way true c f g = f refl
one_way false true f g = absurd (let e = g refl in cc)
one_way false false f g = refl

asked_true : (version request : ℕ) (o : Operation) → IsOperation version o → ((o ≡ Register) ↔ (request ≡ 0)) → is_asked version request (operation_bytes o) ≡ true
unfolding is_asked
asked_true version request o i r =
    let one = one_byte version o i in
    rw (operation_again version o i)
    (one_way (eqb (length (operation_bytes o)) 1) (eqb request 0)
    (λ e. eq-eqb request 0 (r.0 (one.1 (eqb-true (length (operation_bytes o)) 1 e))))
    (λ e. eq-eqb (length (operation_bytes o)) 1 (one.0 (r.1 (eqb-true request 0 e)))))

reply_true : (version : ℕ) (k : ReplyKind) → IsKindValue version k → kind_fits version (kind_number k) (kind_op k) (kind_bytes k) ≡ true
unfolding kind_fits
reply_true version (reply.Outcome a) v = rw (outcome_again version a.outcome v) refl
reply_true version reply.Old v = refl
reply_true version reply.Gap v = refl
reply_true version reply.Evicted v = refl
reply_true version reply.Busy v = refl
reply_true version reply.Redirect v = refl

entry_true : (version cluster last op : ℕ) (e : Whole) → IsEntry e → IsHeader e.header → e.header.version ≤ version → e.header.cluster ≡ cluster → e.header.op ≡ op → e.header.view ≤ last
    → entry_fits version cluster last op (entry_bytes e) ≡ true
unfolding entry_fits
entry_true version cluster last op e i f n c o v = rw (entry_again e i f) (at_true version cluster last op e.header n c o v)

view_true : (n : ℕ) → n < 2 ^ 32 - 1 → (is_view n && eqb (length (let x : List ℕ = [] in x)) 0) ≡ true
view_true n l = rw (lt-ltb n (2 ^ 32 - 1) l) refl

log_true : (h : Header) (hs : List Header) → h.commit ≤ h.op → h.aux + length hs ≡ h.op → length hs ≤ 64 → AreHeaders hs
    → FromOp (IsEntryAt h.version h.cluster h.view) (h.aux + 1) hs → log_fits h (headers_bytes hs) ≡ true
unfolding log_fits
log_true h hs c n s a f =
    let count : h.op - h.aux ≡ length hs = omega arith in
    rw (le-ltb h.op h.commit c, le-ltb h.op h.aux (omega arith), count, le-ltb 64 (length hs) s) (headers_true h.version h.cluster h.view (h.aux + 1) hs a f)

run_true : (head first : ℕ) (ps : List Part) → first + prefix_len has_header ps ≡ head + 1 → prefix_len has_header ps ≤ 64 → slice_get ps (length ps - 1) ≢ Some Nothing
    → tags_run head first (map tag ps) ≡ true
unfolding tags_run
run_true head first ps r s l = rw (run_tags ps, le-ltb 64 (prefix_len has_header ps) s, eq-eqb (first + prefix_len has_header ps) (head + 1) r) (last_true ps l)

statement_true : (h : Header) (first : ℕ) (ps : List Part) → 1 ≤ first → first ≤ h.commit + 1 → h.commit ≤ h.op → h.aux < h.view
    → tags_run h.op first (map tag ps) ≡ true → AreHeaders (known ps) → FromOp (IsPartAt h.version h.cluster h.aux) first ps
    → statement_fits h first (map tag ps) (headers_bytes (known ps)) ≡ true
unfolding statement_fits
statement_true h first ps one reach commit view run a f =
    rw (positive first one, le-ltb (h.commit + 1) first reach, le-ltb h.op h.commit commit, lt-not_le h.view h.aux view, run) (tags_true h.version h.cluster h.aux first ps a f)

parts_true : (h : Header) (s : Statement) → h.op ≡ s.head → h.commit ≡ s.commit → h.aux ≡ s.log_view → s.log_view < h.view → IsStatement h.version h.cluster s → AreHeaders (known s.body.parts)
    → parts_fit h (parts_bytes s.body) ≡ true
unfolding parts_fit
parts_true h s head commit log_view view i a =
    let first : s.body.first < 2 ^ 64 = (let r = i.first.1 in let c = i.commit in let n = i.head in omega arith) in
    let count : length s.body.parts < 2 ^ 16 = (let c = i.count in omega arith) in
    let p = body_parts s.body first count in
    let long : 10 ≤ length (parts_bytes s.body) = (let l = p.long in omega arith) in
    let whole : 10 + length s.body.parts ≤ length (parts_bytes s.body) = (let l = p.long in omega arith) in
    let reach : s.body.first ≤ h.commit + 1 = (let r = i.first.1 in omega arith) in
    let order : h.commit ≤ h.op = (let r = i.commit in omega arith) in
    let later : h.aux < h.view = omega arith in
    let run : tags_run h.op s.body.first (map tag s.body.parts) ≡ true =
    run_true h.op s.body.first s.body.parts (i.run ∙ ap (λ n. n + 1) (sym head)) i.short i.last in
    let parts : FromOp (IsPartAt h.version h.cluster h.aux) s.body.first s.body.parts =
    subst (λ n. FromOp (IsPartAt h.version h.cluster n) s.body.first s.body.parts) (sym log_view) i.parts in
    rw (le-ltb (length (parts_bytes s.body)) 10 long, p.tags, p.rest, p.count, le-ltb 128 (length s.body.parts) i.count, le-ltb (length (parts_bytes s.body)) (10 + length s.body.parts) whole, p.first_there)
    (statement_true h s.body.first s.body.parts i.first.0 reach order later run a parts)

checkpoint_small : (w : SyncView) → IsSyncView w → w.checkpoint < 2 ^ 64
checkpoint_small w i = let a = i.order.1 in let b = i.order.2 in let c = i.head in omega arith

sync_true : (w : SyncView) → IsSyncView w → IsName w.root_name → AreHeaders w.body.headers → sync_fits (frame_header (frame.SyncView w)) (sync_bytes w) ≡ true
unfolding sync_fits
sync_true w i n a =
    let h = frame_header (frame.SyncView w) in
    let p = sync_parts w (checkpoint_small w i) (let a = i.address in omega arith) n.0 in
    rw (le-ltb (length (sync_bytes w)) 32 p.long, p.checkpoint, p.address, checkpoint_true h w.checkpoint w.root_address i.every i.order.0 i.order.1 i.address, p.rest)
    (log_true h w.body.headers i.order.2 i.count i.short a i.headers)

body_true : (m : Frame) → IsFrame m → IsBodyValue m → body_fits (command_for m) (frame_header m) (body_bytes m) ≡ true
body_true (frame.Request q) i v = asked_true q.version q.request q.operation i.fits i.first
body_true (frame.Reply r) i v = reply_true r.version r.kind i.fits
body_true (frame.Prepare p) i v = entry_true p.version p.entry.header.cluster p.view p.entry.header.op p.entry i.entry v i.of_version refl refl i.made
body_true (frame.PrepareOk p) i v = view_true p.made i.made
body_true (frame.Commit c) i v = refl
body_true (frame.StartViewChange s) i v = refl
body_true (frame.DoViewChange d) i v = parts_true (frame_header (frame.DoViewChange d)) d.statement refl refl refl i.log_view i.statement v
body_true (frame.StartView w) i v = log_true (frame_header (frame.StartView w)) w.body.headers i.commit i.count i.short v i.headers
body_true (frame.GetView g) i v = refl
body_true (frame.GetPrepare g) i v = view_true g.made i.made
body_true (frame.GivePrepare g) i v =
    entry_true g.version g.entry.header.cluster (2 ^ 32 - 2) g.entry.header.op g.entry i.entry v i.of_version refl refl (let w = i.entry.header.view in omega arith)
body_true (frame.GetBlock g) i v = refl
body_true (frame.GiveBlock g) i v = eq-eqb (length g.block) 4096 i
body_true (frame.GetSync g) i v = refl
body_true (frame.SyncView w) i v = sync_true w i v.0 v.1

pub shape_true : (m : Frame) → IsFrame m → IsBodyValue m → has_shape (frame_header m) (body_bytes m) ≡ true
unfolding has_shape
shape_true m i v = rw (names_true m, unused_true m, numbers_true m i, command_of_frame m) (body_true m i v)

-- ---- and it is read again

kind_again : (version : ℕ) (k : ReplyKind) → IsKindValue version k → kind_at version (kind_number k) (kind_op k) (kind_bytes k) ≡ Some k
unfolding kind_at
kind_again version (reply.Outcome a) v = rw (outcome_again version a.outcome v) refl
kind_again version reply.Old v = refl
kind_again version reply.Gap v = refl
kind_again version reply.Evicted v = refl
kind_again version reply.Busy v = refl
kind_again version reply.Redirect v = refl

pub frame_again : (m : Frame) → IsFrame m → IsBodyValue m → frame_for (command_for m) (frame_header m) (body_bytes m) ≡ Some m
frame_again (frame.Request q) i v = rw (operation_again q.version q.operation i.fits) refl
frame_again (frame.Reply r) i v = rw (kind_again r.version r.kind i.fits) refl
frame_again (frame.Prepare p) i v = rw (entry_again p.entry i.entry v) refl
frame_again (frame.PrepareOk p) i v = refl
frame_again (frame.Commit c) i v = refl
frame_again (frame.StartViewChange s) i v = refl
frame_again (frame.DoViewChange d) i v =
    let s = i.statement in
    let first : d.statement.body.first < 2 ^ 64 = (let r = s.first.1 in let c = s.commit in let n = s.head in omega arith) in
    rw (body_again d.statement.body first (let c = s.count in omega arith) v) refl
frame_again (frame.StartView w) i v =
    let count : w.head - w.body.lo ≡ length w.body.headers = (let c = i.count in omega arith) in
    rw (count, headers_again w.body.headers v) refl
frame_again (frame.GetView g) i v = refl
frame_again (frame.GetPrepare g) i v = refl
frame_again (frame.GivePrepare g) i v = rw (entry_again g.entry i.entry v) refl
frame_again (frame.GetBlock g) i v = refl
frame_again (frame.GiveBlock g) i v = refl
frame_again (frame.GetSync g) i v = refl
frame_again (frame.SyncView w) i v =
    let count : w.head - w.body.lo ≡ length w.body.headers = (let c = i.count in omega arith) in
    let p = sync_parts w (checkpoint_small w i) (let a = i.address in omega arith) v.0.0 in
    rw (p.checkpoint, p.address, p.name, p.rest, count, headers_again w.body.headers v.1) refl

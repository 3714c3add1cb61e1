-- How long the messages of each kind are.
use Rattle.std.proofs.Common.{arith, ◌≡◌, ◌≤◌, ◌+◌, ◌*◌, refl, ◌∙◌, ℕ, List, [], ◌∷◌, ◌++◌, length, length-append}
use Rattle.std.specs.Prelude.{map}
use Rattle.vr_base.specs.Bytes.{bytes16, bytes64, name_of}
use Rattle.vr_base.specs.Versions.{value_limit}
use Rattle.vr_base.proofs.FieldLaws.{length-bytes16, length-bytes32, length-bytes64, length-name_of}
use Rattle.vr_base.proofs.Places.{length-joined}
use Rattle.vr_base.proofs.Versions.{more}
use Rattle.vr_header.specs.declared.header.Header.{Header}
use Rattle.vr_header.specs.declared.operation.Operation.{Operation}
use Rattle.vr_header.specs.declared.operation.Operation.TheVariants.{Register, Put, Get, Delete}
use Rattle.vr_header.specs.declared.outcome.Outcome.{Outcome}
use Rattle.vr_header.specs.declared.outcome.Outcome.TheVariants as outcome
use Rattle.vr_header.specs.declared.part.Part.{Part}
use Rattle.vr_header.specs.declared.part.Part.TheVariants.{Here, Lost, Wanted, Unknown, Nothing}
use Rattle.vr_header.specs.Bodies.{IsOperation, IsOutcome, operation_bytes, outcome_bytes}
use Rattle.vr_header.specs.Made.{IsEntry, Whole, entry_bytes}
use Rattle.vr_header.specs.Spelling.{IsHeader, field_bytes, header_bytes, named_bytes}
use Rattle.vr_header.proofs.BodyLaws.{text_limit}
use Rattle.vr_header.proofs.HeaderLaws.{length-header_bytes}
use Rattle.vr_msg.specs.declared.frame.Frame.{Frame}
use Rattle.vr_msg.specs.declared.frame.Frame.TheVariants as frame
use Rattle.vr_msg.specs.declared.frame.SyncView.{SyncView}
use Rattle.vr_msg.specs.declared.reply.ReplyKind.{ReplyKind}
use Rattle.vr_msg.specs.declared.reply.ReplyKind.TheVariants as reply
use Rattle.vr_msg.specs.declared.statement.DvcBody.{DvcBody}
use Rattle.vr_msg.specs.Asking.{IsKindValue}
use Rattle.vr_msg.specs.Spelling.{AreHeaders, body_bytes, command_for, frame_header, headers_bytes, kind_bytes, known, parts_bytes, spelling, sync_bytes, tag, version_of}
use Rattle.vr_msg.proofs.Short.{length-tags}
use Rattle.vr_rules.specs.Laws.{IsHeaderOf, IsMessage}
use Rattle.vr_replica.specs.Bounds.{longest}

-- ---- headers

pieces : Header → List (List ℕ)
pieces h = name_of (named_bytes h) ∷ field_bytes h

header_pieces : (h : Header) → length (header_bytes h) ≡ length (name_of (named_bytes h)) + length (named_bytes h)
unfolding header_bytes
header_pieces h = length-append (name_of (named_bytes h)) (named_bytes h)

fields_long : (h : Header) → length h.body.0 ≡ 16 → length h.parent.0 ≡ 16 → length h.request_name.0 ≡ 16 → length (named_bytes h) ≡ 112
unfolding named_bytes
fields_long h a b c =
    length-joined (field_bytes h)
    ∙ rw (a, b, c, length-bytes64 h.cluster, length-bytes64 h.client, length-bytes32 h.request, length-bytes32 h.view, length-bytes64 h.op, length-bytes64 h.commit, length-bytes32 h.size, length-bytes64 h.aux) refl

header_long : (h : Header) → length h.body.0 ≡ 16 → length h.parent.0 ≡ 16 → length h.request_name.0 ≡ 16 → length (header_bytes h) ≡ 128
header_long h a b c = let whole = header_pieces h in let fields = fields_long h a b c in omega (arith, whole, fields, length-name_of (named_bytes h))

-- of a block that is asked for only the length of the name is known
head_long : (m : Frame) → IsHeaderOf m → length (header_bytes (frame_header m)) ≡ 128
head_long (frame.GetBlock g) h = header_long (frame_header (frame.GetBlock g)) h.0.body h.1 h.0.request_name
head_long (frame.Request q) h = length-header_bytes _ h
head_long (frame.Reply a) h = length-header_bytes _ h
head_long (frame.Prepare p) h = length-header_bytes _ h
head_long (frame.PrepareOk a) h = length-header_bytes _ h
head_long (frame.Commit c) h = length-header_bytes _ h
head_long (frame.StartViewChange c) h = length-header_bytes _ h
head_long (frame.DoViewChange d) h = length-header_bytes _ h
head_long (frame.StartView v) h = length-header_bytes _ h
head_long (frame.GetView g) h = length-header_bytes _ h
head_long (frame.GetPrepare g) h = length-header_bytes _ h
head_long (frame.GivePrepare g) h = length-header_bytes _ h
head_long (frame.GiveBlock g) h = length-header_bytes _ h
head_long (frame.GetSync g) h = length-header_bytes _ h
head_long (frame.SyncView v) h = length-header_bytes _ h

-- ---- bodies

operation_short : (version : ℕ) (o : Operation) → IsOperation version o → length (operation_bytes o) ≤ 68 + value_limit version
unfolding operation_bytes
operation_short version Register i = omega arith
operation_short version (Put key value) i =
    let k = text_limit 64 key i.0 in
    let v = text_limit (value_limit version) value i.1 in
    omega (arith, length-append (2 ∷ length key ∷ bytes16 (length value)) (key ++ value), length-append key value, length-bytes16 (length value))
operation_short version (Get key) i = let k = text_limit 64 key i in omega arith
operation_short version (Delete key) i = let k = text_limit 64 key i in omega arith

outcome_short : (version : ℕ) (o : Outcome) → IsOutcome version o → length (outcome_bytes o) ≤ 3 + value_limit version
unfolding outcome_bytes
outcome_short version outcome.Session i = omega arith
outcome_short version outcome.Ok i = omega arith
outcome_short version outcome.Full i = omega arith
outcome_short version outcome.Absent i = omega arith
outcome_short version (outcome.Value value) i =
    let v = text_limit (value_limit version) value i in
    omega (arith, length-append (5 ∷ bytes16 (length value)) value, length-bytes16 (length value))

kind_short : (version : ℕ) (k : ReplyKind) → IsKindValue version k → length (kind_bytes k) ≤ 3 + value_limit version
kind_short version (reply.Outcome a) i = outcome_short version a.outcome i
kind_short version reply.Old i = omega arith
kind_short version reply.Gap i = omega arith
kind_short version reply.Evicted i = omega arith
kind_short version reply.Busy i = omega arith
kind_short version reply.Redirect i = omega arith

-- an entry of this version or of one before it
entry_short : (v : ℕ) (e : Whole) → e.header.version ≤ v → v ≤ 2 → IsHeader e.header → IsEntry e → length (entry_bytes e) ≤ 196 + value_limit v
unfolding entry_bytes
entry_short v e l m h i =
    let limit : value_limit e.header.version ≤ value_limit v = more e.header.version v 1024 3000 l m (omega arith) in
    omega (
      arith,
      limit,
      length-append (header_bytes e.header) (operation_bytes e.operation),
      length-header_bytes e.header h,
      operation_short e.header.version e.operation i.body.fits,
    )

headers_long : (hs : List Header) → AreHeaders hs → length (headers_bytes hs) ≡ 128 * length hs
headers_long [] a = refl
headers_long (h ∷ hs) a = omega (arith, length-append (header_bytes h) (headers_bytes hs), length-header_bytes h a.0, headers_long hs a.1)

known_few : (ps : List Part) → length (known ps) ≤ length ps
known_few [] = omega arith
known_few (Here h ∷ ps) = let r = known_few ps in omega arith
known_few (Lost h ∷ ps) = let r = known_few ps in omega arith
known_few (Wanted h ∷ ps) = let r = known_few ps in omega arith
known_few (Unknown ∷ ps) = let r = known_few ps in omega arith
known_few (Nothing ∷ ps) = let r = known_few ps in omega arith

parts_short : (d : DvcBody) → length d.parts ≤ 128 → AreHeaders (known d.parts) → length (parts_bytes d) ≤ 16522
parts_short d l a =
    let hs = headers_bytes (known d.parts) in
    let h = headers_long (known d.parts) a in
    let f = known_few d.parts in
    omega (
      arith,
      length-append (bytes64 d.first) (bytes16 (length d.parts) ++ (map tag d.parts ++ hs)),
      length-append (bytes16 (length d.parts)) (map tag d.parts ++ hs),
      length-append (map tag d.parts) hs,
      length-bytes64 d.first,
      length-bytes16 (length d.parts),
      length-tags d.parts,
    )

sync_short : (v : SyncView) → length v.root_name.0 ≡ 16 → length v.body.headers ≤ 64 → AreHeaders v.body.headers → length (sync_bytes v) ≤ 8224
sync_short v n l a =
    let hs = headers_bytes v.body.headers in
    let h = headers_long v.body.headers a in
    omega (
      arith,
      length-append (bytes64 v.checkpoint) (bytes64 v.root_address ++ (v.root_name.0 ++ hs)),
      length-append (bytes64 v.root_address) (v.root_name.0 ++ hs),
      length-append v.root_name.0 hs,
      length-bytes64 v.checkpoint,
      length-bytes64 v.root_address,
    )

body_long : (m : Frame) → IsMessage m → 128 + length (body_bytes m) ≤ longest (version_of m) (command_for m)
body_long (frame.Request q) i = let l = operation_short q.version q.operation i.form.fits in omega (arith, l)
body_long (frame.Reply r) i = let l = kind_short r.version r.kind i.form.fits in omega (arith, l)
body_long (frame.Prepare p) i = let v = i.header.version in let l = entry_short p.version p.entry i.form.of_version v.1 i.body i.form.entry in omega (arith, l)
body_long (frame.PrepareOk p) i = omega arith
body_long (frame.Commit c) i = omega arith
body_long (frame.StartViewChange s) i = omega arith
body_long (frame.DoViewChange d) i = let l = parts_short d.statement.body i.form.statement.count i.body in omega (arith, l)
body_long (frame.StartView w) i = let l = headers_long w.body.headers i.body in let s = i.form.short in omega (arith, l, s)
body_long (frame.GetView g) i = omega arith
body_long (frame.GetPrepare g) i = omega arith
body_long (frame.GivePrepare g) i = let v = i.header.version in let l = entry_short g.version g.entry i.form.of_version v.1 i.body i.form.entry in omega (arith, l)
body_long (frame.GetBlock g) i = omega arith
body_long (frame.GiveBlock g) i = let l = i.form in omega (arith, l)
body_long (frame.GetSync g) i = omega arith
body_long (frame.SyncView w) i = let l = sync_short w i.body.0.0 i.form.short i.body.1 in omega (arith, l)

pub message_long : (m : Frame) → IsMessage m → length (spelling m) ≤ longest (version_of m) (command_for m)
unfolding spelling
message_long m i =
    let whole = length-append (header_bytes (frame_header m)) (body_bytes m) in
    let head = head_long m i.header in
    let rest = body_long m i in
    omega (arith, whole, head, rest)

-- How long the bodies of messages are.
use Rattle.std.proofs.Common.{ℕ, ◌≡◌, suc, ◌*◌, ◌≤◌, List, [], ◌∷◌, ◌++◌, length, length-append, refl, ap, arith, ◌+◌}
use Rattle.std.specs.Prelude.{map}
use Rattle.vr_base.specs.Bytes.{bytes16, bytes64}
use Rattle.vr_base.specs.Versions.{value_limit}
use Rattle.vr_base.proofs.Versions.{between}
use Rattle.vr_base.proofs.FieldLaws.{length-bytes16, length-bytes64}
use Rattle.vr_header.specs.declared.header.Header.{Header}
use Rattle.vr_header.specs.declared.part.Part.{Part}
use Rattle.vr_header.specs.declared.part.Part.TheVariants.{Here, Lost, Wanted, Unknown, Nothing}
use Rattle.vr_header.specs.declared.operation.Operation.{Operation}
use Rattle.vr_header.specs.declared.operation.Operation.TheVariants.{Register, Put, Get, Delete}
use Rattle.vr_header.specs.declared.outcome.Outcome.{Outcome}
use Rattle.vr_header.specs.declared.outcome.Outcome.TheVariants as outcome
use Rattle.vr_header.specs.Bodies.{IsOperation, IsOutcome, operation_bytes, outcome_bytes}
use Rattle.vr_header.specs.Made.{IsEntry, Whole, entry_bytes}
use Rattle.vr_header.specs.Spelling.{IsHeader, header_bytes}
use Rattle.vr_header.proofs.BodyLaws.{text_limit}
use Rattle.vr_header.proofs.HeaderLaws.{length-header_bytes}
use Rattle.vr_msg.specs.declared.frame.Frame.{Frame}
use Rattle.vr_msg.specs.declared.frame.Frame.TheVariants as frame
use Rattle.vr_msg.specs.declared.reply.ReplyKind.{ReplyKind}
use Rattle.vr_msg.specs.declared.reply.ReplyKind.TheVariants as reply
use Rattle.vr_msg.specs.declared.statement.DvcBody.{DvcBody}
use Rattle.vr_msg.specs.declared.frame.SyncView.{SyncView}
use Rattle.vr_msg.specs.Asking.{IsKindValue}
use Rattle.vr_msg.specs.Forms.{IsFrame}
use Rattle.vr_msg.specs.Spelling.{AreHeaders, IsBodyValue, body_bytes, headers_bytes, kind_bytes, known, parts_bytes, sync_bytes, tag}

pub length-tags : (ps : List Part) → length (map tag ps) ≡ length ps
length-tags [] = refl
length-tags (p ∷ ps) = ap suc (length-tags ps)

operation_short : (version : ℕ) (o : Operation) → IsOperation version o → length (operation_bytes o) ≤ 68 + value_limit version
unfolding operation_bytes
operation_short version Register i = omega arith
operation_short version (Put key value) i =
    let k = text_limit 64 key i.0 in
    let v = text_limit (value_limit version) value i.1 in
    omega (arith, length-append (2 ∷ length key ∷ bytes16 (length value)) (key ++ value), length-append key value, length-bytes16 (length value))
operation_short version (Get key) i = let k = text_limit 64 key i in omega arith
operation_short version (Delete key) i = let k = text_limit 64 key i in omega arith

outcome_short : (version : ℕ) (o : Outcome) → IsOutcome version o → length (outcome_bytes o) ≤ 3 + value_limit version
unfolding outcome_bytes
outcome_short version outcome.Session i = omega arith
outcome_short version outcome.Ok i = omega arith
outcome_short version outcome.Full i = omega arith
outcome_short version outcome.Absent i = omega arith
outcome_short version (outcome.Value value) i =
    let v = text_limit (value_limit version) value i in
    omega (arith, length-append (5 ∷ bytes16 (length value)) value, length-bytes16 (length value))

kind_short : (version : ℕ) (k : ReplyKind) → IsKindValue version k → length (kind_bytes k) ≤ 3 + value_limit version
kind_short version (reply.Outcome a) i = outcome_short version a.outcome i
kind_short version reply.Old i = omega arith
kind_short version reply.Gap i = omega arith
kind_short version reply.Evicted i = omega arith
kind_short version reply.Busy i = omega arith
kind_short version reply.Redirect i = omega arith

entry_short : (e : Whole) → IsHeader e.header → IsEntry e → length (entry_bytes e) ≤ 196 + value_limit e.header.version
unfolding entry_bytes
entry_short e h i =
    omega (
      arith,
      length-append (header_bytes e.header) (operation_bytes e.operation),
      length-header_bytes e.header h,
      operation_short e.header.version e.operation i.body.fits,
    )

-- no value has more than 3,000 bytes
value_most : (version : ℕ) → value_limit version ≤ 3000
value_most version = (between version 1024 3000 (omega arith)).1

headers_long : (hs : List Header) → AreHeaders hs → length (headers_bytes hs) ≡ 128 * length hs
headers_long [] a = refl
headers_long (h ∷ hs) a = omega (arith, length-append (header_bytes h) (headers_bytes hs), length-header_bytes h a.0, headers_long hs a.1)

known_few : (ps : List Part) → length (known ps) ≤ length ps
known_few [] = omega arith
known_few (Here h ∷ ps) = let r = known_few ps in omega arith
known_few (Lost h ∷ ps) = let r = known_few ps in omega arith
known_few (Wanted h ∷ ps) = let r = known_few ps in omega arith
known_few (Unknown ∷ ps) = let r = known_few ps in omega arith
known_few (Nothing ∷ ps) = let r = known_few ps in omega arith

parts_short : (d : DvcBody) → length d.parts ≤ 128 → AreHeaders (known d.parts) → length (parts_bytes d) ≤ 16522
parts_short d l a =
    let hs = headers_bytes (known d.parts) in
    let h = headers_long (known d.parts) a in
    let f = known_few d.parts in
    omega (
      arith,
      length-append (bytes64 d.first) (bytes16 (length d.parts) ++ (map tag d.parts ++ hs)),
      length-append (bytes16 (length d.parts)) (map tag d.parts ++ hs),
      length-append (map tag d.parts) hs,
      length-bytes64 d.first,
      length-bytes16 (length d.parts),
      length-tags d.parts,
    )

sync_short : (v : SyncView) → length v.root_name.0 ≡ 16 → length v.body.headers ≤ 64 → AreHeaders v.body.headers → length (sync_bytes v) ≤ 8224
sync_short v n l a =
    let hs = headers_bytes v.body.headers in
    let h = headers_long v.body.headers a in
    omega (
      arith,
      length-append (bytes64 v.checkpoint) (bytes64 v.root_address ++ (v.root_name.0 ++ hs)),
      length-append (bytes64 v.root_address) (v.root_name.0 ++ hs),
      length-append v.root_name.0 hs,
      length-bytes64 v.checkpoint,
      length-bytes64 v.root_address,
    )

-- a message has at most 20,480 bytes
pub body_short : (m : Frame) → IsFrame m → IsBodyValue m → length (body_bytes m) ≤ 20352
body_short (frame.Request q) i v = let l = operation_short q.version q.operation i.fits in let m = value_most q.version in omega arith
body_short (frame.Reply r) i v = let l = kind_short r.version r.kind i.fits in let m = value_most r.version in omega arith
body_short (frame.Prepare p) i v = let l = entry_short p.entry v i.entry in let m = value_most p.entry.header.version in omega arith
body_short (frame.PrepareOk p) i v = omega arith
body_short (frame.Commit c) i v = omega arith
body_short (frame.StartViewChange s) i v = omega arith
body_short (frame.DoViewChange d) i v = let l = parts_short d.statement.body i.statement.count v in omega arith
body_short (frame.StartView w) i v = let l = headers_long w.body.headers v in let s = i.short in omega arith
body_short (frame.GetView g) i v = omega arith
body_short (frame.GetPrepare g) i v = omega arith
body_short (frame.GivePrepare g) i v = let l = entry_short g.entry v i.entry in let m = value_most g.entry.header.version in omega arith
body_short (frame.GetBlock g) i v = omega arith
body_short (frame.GiveBlock g) i v = omega arith
body_short (frame.GetSync g) i v = omega arith
body_short (frame.SyncView w) i v = let l = sync_short w v.0.0 i.short v.1 in omega arith

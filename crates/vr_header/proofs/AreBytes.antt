-- Headers, operations and entries are spelled by bytes.
use Rattle.std.proofs.Common.{ℕ, zero, suc, ◌<◌, List, [], ◌∷◌, ◌++◌, length, arith}
use Rattle.std.specs.Prelude.{◌&&◌, IsTrue, nat_le}
use Rattle.std.specs.List.{list_all}
use Rattle.std.proofs.lemmas.Bool.{leb-true}
use Rattle.vr_base.specs.Bytes.{IsBytes, bytes16, name_of}
use Rattle.vr_base.proofs.AreBytes.{AllBytes, IsBytes-append, IsBytes-bytes16, IsBytes-bytes32, IsBytes-bytes64, IsBytes-joined, IsBytes-name_of, IsBytes-none, IsBytes-one, IsBytes-zeros}
use Rattle.vr_header.specs.declared.command.Command.{Command}
use Rattle.vr_header.specs.declared.command.Command.TheVariants.{Reserved, Root, Entry, Request, Reply, Prepare, PrepareOk, Commit, StartViewChange, DoViewChange, StartView, GetView, GetPrepare, GivePrepare, GetBlock, GiveBlock, Block, GetSync, SyncView}
use Rattle.vr_header.specs.declared.header.Header.{Header}
use Rattle.vr_header.specs.declared.operation.Operation.{Operation}
use Rattle.vr_header.specs.declared.operation.Operation.TheVariants.{Register, Put, Get, Delete}
use Rattle.vr_header.specs.Bodies.{IsOperation, operation_bytes}
use Rattle.vr_header.specs.Made.{Whole, entry_bytes}
use Rattle.vr_header.specs.Spelling.{IsHeader, code_of, field_bytes, header_bytes, named_bytes}
use Rattle.vr_header.specs.Text.{is_printable, is_text}
use Rattle.vr_header.proofs.BodyLaws.{text_limit}
use Rattle.vr_header.proofs.HeaderLaws.{length-header_bytes}
use Rattle.vr_base.specs.Versions.{value_limit}
use Rattle.vr_header.proofs.Truths.{both}

code_small : (c : Command) → code_of c < 256
code_small Reserved = omega arith
code_small Root = omega arith
code_small Entry = omega arith
code_small Request = omega arith
code_small Reply = omega arith
code_small Prepare = omega arith
code_small PrepareOk = omega arith
code_small Commit = omega arith
code_small StartViewChange = omega arith
code_small DoViewChange = omega arith
code_small StartView = omega arith
code_small GetView = omega arith
code_small GetPrepare = omega arith
code_small GivePrepare = omega arith
code_small GetBlock = omega arith
code_small GiveBlock = omega arith
code_small Block = omega arith
code_small GetSync = omega arith
code_small SyncView = omega arith

one : (x : ℕ) → x < 256 → IsBytes (x ∷ [])
one x small = IsBytes-one x [] small IsBytes-none

fields_are : (h : Header) → IsHeader h → AllBytes (field_bytes h)
fields_are h f = (
  f.body_bytes,
  (
    f.parent_bytes,
    (
      f.request_name_bytes,
      (
        IsBytes-bytes64 h.cluster,
        (
          IsBytes-bytes64 h.client,
          (
            IsBytes-bytes32 h.request,
            (
              IsBytes-bytes32 h.view,
              (
                IsBytes-bytes64 h.op,
                (
                  IsBytes-bytes64 h.commit,
                  (
                    IsBytes-bytes32 h.size,
                    (
                      one (code_of h.command) (code_small h.command),
                      (
                        one h.replica f.replica,
                        (
                          one h.version (omega (arith, f.version)),
                          (
                            one h.kind f.kind,
                            (
                              IsBytes-bytes64 h.aux,
                              (
                                IsBytes-zeros 8,
                                tt,
                              ),
                            ),
                          ),
                        ),
                      ),
                    ),
                  ),
                ),
              ),
            ),
          ),
        ),
      ),
    ),
  ),
)

pub named_bytes-are : (h : Header) → IsHeader h → IsBytes (named_bytes h)
unfolding named_bytes
named_bytes-are h f = IsBytes-joined (field_bytes h) (fields_are h f)

-- the spelling of a header consists of bytes
pub header_bytes-are : (h : Header) → IsHeader h → IsBytes (header_bytes h)
unfolding header_bytes
header_bytes-are h f = IsBytes-append (name_of (named_bytes h)) (named_bytes h) (IsBytes-name_of (named_bytes h)) (named_bytes-are h f)

each_printable : (text : List ℕ) → IsTrue (list_all is_printable text) → IsBytes text
each_printable [] t i = omega arith
each_printable (x ∷ xs) t zero =
    let b = both (is_printable x) (list_all is_printable xs) t in
    let r = both (nat_le 33 x) (nat_le x 126) b.0 in
    let l = leb-true x 126 r.1 in omega arith
each_printable (x ∷ xs) t (suc i) = each_printable xs ((both (is_printable x) (list_all is_printable xs) t).1) i

pub text-are : (limit : ℕ) (text : List ℕ) → IsTrue (is_text limit text) → IsBytes text
unfolding is_text
text-are limit text t = each_printable text ((both (nat_le 1 (length text) && nat_le (length text) limit) (list_all is_printable text) t).1)

-- the spelling of an operation consists of bytes
pub operation_bytes-are : (v : ℕ) (o : Operation) → IsOperation v o → IsBytes (operation_bytes o)
unfolding operation_bytes
operation_bytes-are v Register g = one 1 (omega arith)
operation_bytes-are v (Put key value) g =
    let k = text_limit 64 key g.0 in
    IsBytes-append (2 ∷ length key ∷ bytes16 (length value)) (key ++ value)
    (IsBytes-one 2 (length key ∷ bytes16 (length value)) (omega arith) (IsBytes-one (length key) (bytes16 (length value)) (omega arith) (IsBytes-bytes16 (length value))))
    (IsBytes-append key value (text-are 64 key g.0) (text-are (value_limit v) value g.1))
operation_bytes-are v (Get key) g =
    let k = text_limit 64 key g in
    IsBytes-one 3 (length key ∷ key) (omega arith) (IsBytes-one (length key) key (omega arith) (text-are 64 key g))
operation_bytes-are v (Delete key) g =
    let k = text_limit 64 key g in
    IsBytes-one 4 (length key ∷ key) (omega arith) (IsBytes-one (length key) key (omega arith) (text-are 64 key g))

-- the spelling of an entry consists of bytes
pub entry_bytes-are : (e : Whole) → IsHeader e.header → IsOperation e.header.version e.operation → IsBytes (entry_bytes e)
unfolding entry_bytes
entry_bytes-are e f g = IsBytes-append (header_bytes e.header) (operation_bytes e.operation) (header_bytes-are e.header f) (operation_bytes-are e.header.version e.operation g)

-- A header that is read is spelled so, and what is spelled so is read.
use Rattle.std.proofs.Common.{◌≡◌, ℕ, zero, suc, ◌+◌, ◌≤◌, ◌<◌, false, List, [], ◌∷◌, ◌++◌, length, take, drop, get_or, refl, sym, ap, ◌∙◌, append_assoc, arith, Ok, Err, Some, None, length-append, length-take}
use Rattle.std.specs.Prelude.{replicate, is_none, unwrap_or, IfOk}
use Rattle.std.specs.Option.{option_map_or}
use Rattle.std.specs.Int.{w32, w64}
use Rattle.std.proofs.lemmas.Bool.{le-ltb}
use Rattle.std.proofs.lemmas.List.{take_at, drop_at, take-append-drop}
use Rattle.std.proofs.lemmas.Slice.Eq.{bytes_eq-Decides}
use Rattle.vr_base.specs.Bytes.{IsBytes, bytes32, bytes64, joined, name_of, number, piece}
use Rattle.vr_base.proofs.FieldLaws.{IsBytes-piece, length-name_of, length-bytes32, length-bytes64, number32_of, number64_of, number32_back, number64_back, length-piece, byte_of, byte_back}
use Rattle.vr_base.proofs.Places.{BeginsWith, cut, joined-cut, length-joined, piece_there, place, take_both, total, widths}
use Rattle.vr_header.specs.declared.command.Command.{Command}
use Rattle.vr_header.specs.declared.command.Command.TheVariants.{Reserved, Root, Entry, Request, Reply, Prepare, PrepareOk, Commit, StartViewChange, DoViewChange, StartView, GetView, GetPrepare, GivePrepare, GetBlock, GiveBlock, Block, GetSync, SyncView}
use Rattle.vr_header.specs.declared.header.Header.{Header}
use Rattle.vr_header.specs.Spelling.{IsHeader, Spells, code_of, command_of, decoded, fault_of, field_bytes, decoded_header, header_bytes, is_named, named_bytes}
use Rattle.vr_header.proofs.Faults.{IsSound, sound}
use Rattle.vr_header.proofs.Truths.{is_size_of}
use Rattle.vr_base.proofs.Versions.{is_version_of}

abbrev layout : List ℕ
layout = 16 ∷ 16 ∷ 16 ∷ 16 ∷ 8 ∷ 8 ∷ 4 ∷ 4 ∷ 8 ∷ 8 ∷ 4 ∷ 1 ∷ 1 ∷ 1 ∷ 1 ∷ 8 ∷ 8 ∷ []

abbrev pieces : Header → List (List ℕ)
pieces h = name_of (named_bytes h) ∷ field_bytes h

widths-pieces : (h : Header) → IsHeader h → widths (pieces h) ≡ layout
widths-pieces h f =
    rw (length-name_of, f.body, f.parent, f.request_name, length-bytes64, length-bytes64, length-bytes32, length-bytes32, length-bytes64, length-bytes64, length-bytes32, length-bytes64) refl

header_bytes-joined : (h : Header) → header_bytes h ≡ joined (pieces h)
unfolding header_bytes named_bytes
header_bytes-joined h = refl

pub length-header_bytes : (h : Header) → IsHeader h → length (header_bytes h) ≡ 128
length-header_bytes h f = ap length (header_bytes-joined h) ∙ (length-joined (pieces h) ∙ ap total (widths-pieces h f))

begins : (h : Header) (b : List ℕ) → IsHeader h → Spells h b → BeginsWith layout (pieces h) b
begins h b f s = record { widths = widths-pieces h f; front = s ∙ header_bytes-joined h }

command_again : (c : Command) → command_of (code_of c) ≡ Some c
unfolding command_of
command_again Reserved = refl
command_again Root = refl
command_again Entry = refl
command_again Request = refl
command_again Reply = refl
command_again Prepare = refl
command_again PrepareOk = refl
command_again Commit = refl
command_again StartViewChange = refl
command_again DoViewChange = refl
command_again StartView = refl
command_again GetView = refl
command_again GetPrepare = refl
command_again GivePrepare = refl
command_again GetBlock = refl
command_again GiveBlock = refl
command_again Block = refl
command_again GetSync = refl
command_again SyncView = refl

-- what stands at each place of a spelled header
record Standing (h : Header) (b : List ℕ) : Type 0 where
  name : piece 0 16 b ≡ name_of (named_bytes h)
  body : piece 16 16 b ≡ h.body.0
  parent : piece 32 16 b ≡ h.parent.0
  request_name : piece 48 16 b ≡ h.request_name.0
  cluster : number w64 64 b ≡ h.cluster
  client : number w64 72 b ≡ h.client
  request : number w32 80 b ≡ h.request
  view : number w32 84 b ≡ h.view
  op : number w64 88 b ≡ h.op
  commit : number w64 96 b ≡ h.commit
  size : number w32 104 b ≡ h.size
  command : get_or b 108 0 ≡ code_of h.command
  replica : get_or b 109 0 ≡ h.replica
  version : get_or b 110 0 ≡ h.version
  kind : get_or b 111 0 ≡ h.kind
  aux : number w64 112 b ≡ h.aux
  zeros : number w64 120 b ≡ 0

bytes64-zero : bytes64 0 ≡ replicate 8 0
unfolding bytes64
bytes64-zero = refl

standing : (h : Header) (b : List ℕ) → IsHeader h → Spells h b → Standing h b
standing h b f s =
    let g = begins h b f s in
    let at : (i : ℕ) → i < 17 → piece (place layout i) (get_or layout i 0) b ≡ get_or (pieces h) i [] = λ i l. piece_there layout (pieces h) b g i l in
    record {
      name = at 0 (omega arith);
      body = at 1 (omega arith);
      parent = at 2 (omega arith);
      request_name = at 3 (omega arith);
      cluster = number64_of 64 h.cluster b (at 4 (omega arith)) f.cluster;
      client = number64_of 72 h.client b (at 5 (omega arith)) f.client;
      request = number32_of 80 h.request b (at 6 (omega arith)) f.request;
      view = number32_of 84 h.view b (at 7 (omega arith)) f.view;
      op = number64_of 88 h.op b (at 8 (omega arith)) f.op;
      commit = number64_of 96 h.commit b (at 9 (omega arith)) f.commit;
      size = number32_of 104 h.size b (at 10 (omega arith)) (omega (arith, f.size));
      command = byte_of 108 (code_of h.command) b (at 11 (omega arith));
      replica = byte_of 109 h.replica b (at 12 (omega arith));
      version = byte_of 110 h.version b (at 13 (omega arith));
      kind = byte_of 111 h.kind b (at 14 (omega arith));
      aux = number64_of 112 h.aux b (at 15 (omega arith)) f.aux;
      zeros = number64_of 120 0 b (at 16 (omega arith) ∙ sym bytes64-zero) (omega arith);
    }

long : (h : Header) (b : List ℕ) → IsHeader h → Spells h b → 128 ≤ length b
long h b f s = let l = ap length s ∙ length-header_bytes h f in omega (arith, length-take 128 b, l)

-- bytes 16 to 127 are what gives the name
named : (h : Header) (b : List ℕ) → IsHeader h → Spells h b → piece 16 112 b ≡ named_bytes h
unfolding piece header_bytes
named h b f s =
    let whole : header_bytes h ++ drop 128 b ≡ b = ap (λ x. x ++ drop 128 b) (sym s) ∙ take-append-drop 128 b in
    let all : b ≡ name_of (named_bytes h) ++ (named_bytes h ++ drop 128 b) = sym whole ∙ append_assoc (name_of (named_bytes h)) (named_bytes h) (drop 128 b) in
    let l : length (named_bytes h) ≡ 112 = omega (arith, length-header_bytes h f, length-append (name_of (named_bytes h)) (named_bytes h), length-name_of (named_bytes h)) in
    ap (λ x. take 112 (drop 16 x)) all ∙ (ap (take 112) (drop_at (name_of (named_bytes h)) (named_bytes h ++ drop 128 b) 16 (length-name_of (named_bytes h))) ∙ take_at (named_bytes h) (drop 128 b) 112 l)

fault_of-spelled : (h : Header) (b : List ℕ) → IsHeader h → Spells h b → fault_of b ≡ None
unfolding fault_of is_named
fault_of-spelled h b f s =
    let t = standing h b f s in
    let command : command_of (get_or b 108 0) ≡ Some h.command = ap command_of t.command ∙ command_again h.command in
    rw (le-ltb (length b) 128 (long h b f s), t.name, named h b f s, (bytes_eq-Decides (name_of (named_bytes h)) (name_of (named_bytes h))).1 refl, command, t.version, is_version_of h.version f.version, t.size, is_size_of h.size f.size, t.zeros) refl

decoded_header-spelled : (h : Header) (b : List ℕ) → IsHeader h → Spells h b → decoded_header b ≡ h
unfolding decoded_header
decoded_header-spelled h b f s =
    let t = standing h b f s in
    let command : command_of (get_or b 108 0) ≡ Some h.command = ap command_of t.command ∙ command_again h.command in
    rw (t.body, t.parent, t.request_name, t.cluster, t.client, t.request, t.view, t.op, t.commit, t.size, command, t.replica, t.version, t.kind, t.aux) refl

-- what is spelled so is read
pub decoded_again : (h : Header) (b : List ℕ) → IsHeader h → Spells h b → decoded b ≡ Ok h
decoded_again h b f s = rw (fault_of-spelled h b f s, decoded_header-spelled h b f s) refl

code_back : (code : ℕ) (c : Command) → is_none (command_of code) ≡ false → unwrap_or (command_of code) Reserved ≡ c → code ≡ code_of c
unfolding command_of
code_back zero c n e = absurd cc
code_back (suc zero) c n e = ap code_of e
code_back (suc (suc zero)) c n e = ap code_of e
code_back (suc (suc (suc zero))) c n e = ap code_of e
code_back (suc (suc (suc (suc zero)))) c n e = ap code_of e
code_back (suc (suc (suc (suc (suc zero))))) c n e = ap code_of e
code_back (suc (suc (suc (suc (suc (suc zero)))))) c n e = ap code_of e
code_back (suc (suc (suc (suc (suc (suc (suc zero))))))) c n e = ap code_of e
code_back (suc (suc (suc (suc (suc (suc (suc (suc zero)))))))) c n e = ap code_of e
code_back (suc (suc (suc (suc (suc (suc (suc (suc (suc zero))))))))) c n e = ap code_of e
code_back (suc (suc (suc (suc (suc (suc (suc (suc (suc (suc zero)))))))))) c n e = ap code_of e
code_back (suc (suc (suc (suc (suc (suc (suc (suc (suc (suc (suc zero))))))))))) c n e = ap code_of e
code_back (suc (suc (suc (suc (suc (suc (suc (suc (suc (suc (suc (suc zero)))))))))))) c n e = ap code_of e
code_back (suc (suc (suc (suc (suc (suc (suc (suc (suc (suc (suc (suc (suc zero))))))))))))) c n e = ap code_of e
code_back (suc (suc (suc (suc (suc (suc (suc (suc (suc (suc (suc (suc (suc (suc zero)))))))))))))) c n e = ap code_of e
code_back (suc (suc (suc (suc (suc (suc (suc (suc (suc (suc (suc (suc (suc (suc (suc zero))))))))))))))) c n e = ap code_of e
code_back (suc (suc (suc (suc (suc (suc (suc (suc (suc (suc (suc (suc (suc (suc (suc (suc zero)))))))))))))))) c n e = ap code_of e
code_back (suc (suc (suc (suc (suc (suc (suc (suc (suc (suc (suc (suc (suc (suc (suc (suc (suc zero))))))))))))))))) c n e = ap code_of e
code_back (suc (suc (suc (suc (suc (suc (suc (suc (suc (suc (suc (suc (suc (suc (suc (suc (suc (suc zero)))))))))))))))))) c n e = ap code_of e
code_back (suc (suc (suc (suc (suc (suc (suc (suc (suc (suc (suc (suc (suc (suc (suc (suc (suc (suc (suc zero))))))))))))))))))) c n e = ap code_of e
code_back (suc (suc (suc (suc (suc (suc (suc (suc (suc (suc (suc (suc (suc (suc (suc (suc (suc (suc (suc (suc k)))))))))))))))))))) c n e = absurd cc

-- the fields at their places, written again, are the bytes
field_bytes-decoded_header : (b : List ℕ) → IsBytes b → IsSound b → field_bytes (decoded_header b) ≡ cut 16 (16 ∷ 16 ∷ 16 ∷ 8 ∷ 8 ∷ 4 ∷ 4 ∷ 8 ∷ 8 ∷ 4 ∷ 1 ∷ 1 ∷ 1 ∷ 1 ∷ 8 ∷ 8 ∷ []) b
unfolding decoded_header
field_bytes-decoded_header b f s =
    let n64 : (k : ℕ) → k + 8 ≤ 128 → bytes64 (number w64 k b) ≡ piece k 8 b = λ k d. (number64_back k b f (omega (arith, s.long))).0 in
    let n32 : (k : ℕ) → k + 4 ≤ 128 → bytes32 (number w32 k b) ≡ piece k 4 b = λ k d. (number32_back k b f (omega (arith, s.long))).0 in
    let one : (k : ℕ) → k < 128 → get_or b k 0 ∷ [] ≡ piece k 1 b = λ k d. byte_back k b (omega (arith, s.long)) in
    let code : get_or b 108 0 ≡ code_of (unwrap_or (command_of (get_or b 108 0)) Reserved) = code_back (get_or b 108 0) _ s.command refl in
    let command : code_of (unwrap_or (command_of (get_or b 108 0)) Reserved) ∷ [] ≡ piece 108 1 b = ap (λ x. x ∷ []) (sym code) ∙ one 108 (omega arith) in
    let zeros : replicate 8 0 ≡ piece 120 8 b = sym bytes64-zero ∙ (ap bytes64 (sym s.zeros) ∙ n64 120 (omega arith)) in
    rw (n64 64 (omega arith), n64 72 (omega arith), n32 80 (omega arith), n32 84 (omega arith), n64 88 (omega arith), n64 96 (omega arith), n32 104 (omega arith), n64 112 (omega arith), command, one 109 (omega arith), one 110 (omega arith), one 111 (omega arith), zeros) refl

header_bytes-decoded_header : (b : List ℕ) → IsBytes b → IsSound b → Spells (decoded_header b) b
unfolding header_bytes named_bytes is_named piece
header_bytes-decoded_header b f s =
    let t = take 112 (drop 16 b) in
    let named : named_bytes (decoded_header b) ≡ t = ap joined (field_bytes-decoded_header b f s) ∙ joined-cut (16 ∷ 16 ∷ 16 ∷ 8 ∷ 8 ∷ 4 ∷ 4 ∷ 8 ∷ 8 ∷ 4 ∷ 1 ∷ 1 ∷ 1 ∷ 1 ∷ 8 ∷ 8 ∷ []) 16 b in
    let name : take 16 (drop 0 b) ≡ name_of t = (bytes_eq-Decides (take 16 (drop 0 b)) (name_of t)).0 s.named in
    sym (take_both 16 112 b) ∙ (ap (λ x. x ++ t) name ∙ ap (λ x. name_of x ++ x) (sym named))

fits : (b : List ℕ) → IsBytes b → IsSound b → IsHeader (decoded_header b)
unfolding decoded_header
fits b f s = record {
  body = length-piece 16 16 b (omega (arith, s.long));
  body_bytes = IsBytes-piece 16 16 b f;
  parent = length-piece 32 16 b (omega (arith, s.long));
  parent_bytes = IsBytes-piece 32 16 b f;
  request_name = length-piece 48 16 b (omega (arith, s.long));
  request_name_bytes = IsBytes-piece 48 16 b f;
  cluster = (number64_back 64 b f (omega (arith, s.long))).1;
  client = (number64_back 72 b f (omega (arith, s.long))).1;
  request = (number32_back 80 b f (omega (arith, s.long))).1;
  view = (number32_back 84 b f (omega (arith, s.long))).1;
  op = (number64_back 88 b f (omega (arith, s.long))).1;
  commit = (number64_back 96 b f (omega (arith, s.long))).1;
  size = s.size;
  replica = f 109;
  version = s.version;
  kind = f 111;
  aux = (number64_back 112 b f (omega (arith, s.long))).1;
}

-- what is read is spelled so
pub decoded_found : (b : List ℕ) → IsBytes b → IfOk (decoded b) (λ h. Spells h b × IsHeader h)
decoded_found b f =
    elim (fault_of b) as (λ o. fault_of b ≡ o → IfOk (option_map_or Err o (Ok (decoded_header b))) (λ h. Spells h b × IsHeader h)) [
      | None ↦ λ e. let s = sound b e in (header_bytes-decoded_header b f s, fits b f s)
      | Some x ↦ λ e. tt
    ] refl

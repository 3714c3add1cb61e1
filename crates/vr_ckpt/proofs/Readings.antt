-- What a block reads as under a name.
use Rattle.std.proofs.Common.{ℕ, ◌-◌, ◌≤◌, ◌<◌, ◌≡◌, refl, sym, ap, ◌∙◌, List, length, Option, Some, None, cond, Bool, true, false, arith, Ok, Err}
use Rattle.std.specs.Prelude.{IfSome, slice_index}
use Rattle.std.specs.Option.{option_and_then, option_map, option_map_or}
use Rattle.std.specs.Int.{w64}
use Rattle.vr_base.specs.Bytes.{IsBytes, number, piece}
use Rattle.vr_header.specs.Spelling.{decoded, fault_of, decoded_header}
use Rattle.vr_header.specs.declared.header.Header.{Header}
use Rattle.vr_header.specs.declared.header.HeaderFault.{HeaderFault}
use Rattle.vr_ckpt.proofs.Contents.{Read, named_found, payload_size, read_of, sizes_of}
use Rattle.std.proofs.lemmas.Bool.{lt-ltb, le-ltb}
use Rattle.vr_disk.specs.DiskState.{Disk, Face}
use Rattle.vr_disk.proofs.Telling.{if_some, some_if}
use Rattle.vr_ckpt.specs.Blocks.{Content, content_at, named}
use Rattle.vr_ckpt.specs.Grid.{IsWhole, block_reading, named_at}
use Rattle.vr_ckpt.specs.Places.{grid_size}
use Rattle.vr_ckpt.specs.declared.name.Name.{Name}

pub named_by_reading : (f : Face) (name : Name) → name.address < grid_size → named_at f name ≡ option_and_then (named name) (block_reading f name.address)
unfolding named_at
named_by_reading f name l = rw (lt-ltb name.address grid_size l) refl

outside : (f : Face) (name : Name) → grid_size ≤ name.address → named_at f name ≡ None
unfolding named_at
outside f name l = rw (le-ltb name.address grid_size l) refl

pub reads_outside : (t : Option Disk) (name : Name) → grid_size ≤ name.address → IfSome t (λ (d : Disk). named_at d.face name ≡ None)
reads_outside t name l = if_some (λ (d : Disk). named_at d.face name ≡ None) t (λ d e. outside d.face name l)

pub reads_not : (t : Option Disk) (name : Name) (b : List ℕ) (r : Bool) → name.address < grid_size → r ≡ false → IfSome t (λ (d : Disk). block_reading d.face name.address ≡ cond r (Some b) None)
    → IfSome t (λ (d : Disk). named_at d.face name ≡ None)
reads_not t name b r l f h =
    if_some (λ (d : Disk). named_at d.face name ≡ None) t
    (λ d e. named_by_reading d.face name l ∙ ap (option_and_then (named name)) (some_if (λ (d : Disk). block_reading d.face name.address ≡ cond r (Some b) None) t d h e ∙ ap (λ x. cond x (Some b) None) f))

pub reads_it : (t : Option Disk) (name : Name) (b : List ℕ) (r : Bool) → name.address < grid_size → r ≡ true → IfSome t (λ (d : Disk). block_reading d.face name.address ≡ cond r (Some b) None)
    → IfSome t (λ (d : Disk). named_at d.face name ≡ named name b)
reads_it t name b r l f h =
    if_some (λ (d : Disk). named_at d.face name ≡ named name b) t
    (λ d e. named_by_reading d.face name l ∙ ap (option_and_then (named name)) (some_if (λ (d : Disk). block_reading d.face name.address ≡ cond r (Some b) None) t d h e ∙ ap (λ x. cond x (Some b) None) f))

none_of : (o : Option Content) → None ≡ option_map (λ (c : Content). length c.payload) o → o ≡ None
none_of None e = refl
none_of (Some c) e = absurd cc

pub reads_none : (t : Option Disk) (name : Name) (b : List ℕ) → IfSome t (λ (d : Disk). named_at d.face name ≡ named name b) → None ≡ option_map (λ (c : Content). length c.payload) (named name b)
    → IfSome t (λ (d : Disk). named_at d.face name ≡ None)
reads_none t name b h e =
    if_some (λ (d : Disk). named_at d.face name ≡ None) t (λ d s. some_if (λ (d : Disk). named_at d.face name ≡ named name b) t d h s ∙ none_of (named name b) e)

pub whole_of : (name : Name) (b : List ℕ) (n : ℕ) (o : Option Content) → named name b ≡ o → Some n ≡ option_map (λ (c : Content). length c.payload) o → IsWhole name b n
whole_of name b n None s e = absurd cc
whole_of name b n (Some c) s e = let same : n ≡ length c.payload = cc in record { content = c; named = s; size = sym same }

-- ---- what a whole block says of itself

pub read_header : (b : List ℕ) (h : Header) → decoded b ≡ Ok h → decoded_header b ≡ h
read_header b h e =
    elim (fault_of b) as (λ (o : Option HeaderFault). option_map_or Err o (Ok (decoded_header b)) ≡ Ok h → decoded_header b ≡ h) [ None ↦ λ e. cc | Some x ↦ λ e. absurd cc ] e

kind_there : (b : List ℕ) → (decoded_header b).kind ≡ slice_index b 111
unfolding decoded_header
kind_there b = refl

op_there : (b : List ℕ) → (decoded_header b).op ≡ number w64 88 b
unfolding decoded_header
op_there b = refl

-- its parts stand at their places
pub record Standing (b : List ℕ) (n : ℕ) (c : Content) : Type 0 where
  pub op : number w64 88 b ≡ c.op
  pub kind : slice_index b 111 ≡ c.kind
  pub payload : piece 128 n b ≡ c.payload
  pub size : n ≤ 3968
  pub whole : length b ≡ 4096

standing_by : (b : List ℕ) (n : ℕ) (c : Content) (r : Read b c) → 128 ≤ r.header.size → r.header.size ≤ 4096 → length c.payload ≡ n → Standing b n c
standing_by b n c r l m e =
    let h = r.header in
    let same = read_header b h r.read in
    let size : length (content_at h b).payload ≡ h.size - 128 = payload_size h b r.size l m in
    let is : length (content_at h b).payload ≡ length c.payload = ap (λ (c : Content). length c.payload) r.content in
    let k : h.size - 128 ≡ n = sym size ∙ (is ∙ e) in
    record {
      op = sym (op_there b) ∙ (ap (λ (h : Header). h.op) same ∙ ap (λ (c : Content). c.op) r.content);
      kind = sym (kind_there b) ∙ (ap (λ (h : Header). h.kind) same ∙ ap (λ (c : Content). c.kind) r.content);
      payload = ap (λ m. piece 128 m b) (sym k) ∙ ap (λ (c : Content). c.payload) r.content;
      size = omega arith;
      whole = r.size;
    }

pub standing : (name : Name) (b : List ℕ) (n : ℕ) (c : Content) → IsBytes b → IsWhole name b n → named name b ≡ Some c → Standing b n c
standing name b n c i w e =
    let r = read_of b c (named_found name b c e).0 in
    let s = sizes_of b c i r in
    let same : w.content ≡ c = let p = w.named in cc in
    standing_by b n c r s.0 s.1 (ap (λ (c : Content). length c.payload) (sym same) ∙ w.size)

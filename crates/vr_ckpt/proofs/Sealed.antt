-- The names that stand in a whole block: those of its header and of its payload.
use Rattle.std.proofs.Common.{ℕ, ◌-◌, ◌≤◌, ◌≡◌, arith, refl, sym, ap, ◌∙◌, true, List, drop, length, take, None}
use Rattle.std.specs.Prelude.{is_ok, is_some}
use Rattle.std.specs.Int.{w32}
use Rattle.std.proofs.lemmas.Slice.Eq.{bytes_eq-Decides}
use Rattle.vr_base.specs.Bytes.{name_of, number, piece}
use Rattle.vr_header.specs.Spelling.{decoded_header, fault_of, is_named}
use Rattle.vr_header.specs.declared.header.Header.{Header}
use Rattle.vr_header.proofs.Faults.{no_fault, none_of_ok, sound}
use Rattle.vr_ckpt.specs.Blocks.{block_header, content_at, content_of, named}
use Rattle.vr_ckpt.specs.declared.name.Name.{Name}
use Rattle.vr_ckpt.proofs.Contents.{named_found, read_of, sound_of}
use Rattle.vr_ckpt.proofs.Puts.{some_there}
use Rattle.vr_ckpt.proofs.Readings.{read_header}

pub record Sealed (b : List ℕ) : Type 0 where
  pub size : length b ≡ 4096
  pub least : 128 ≤ number w32 104 b
  pub most : number w32 104 b ≤ 4096
  pub header : piece 0 16 b ≡ name_of (piece 16 112 b)
  pub payload : piece 16 16 b ≡ name_of (piece 128 (number w32 104 b - 128) b)

header_named : (b : List ℕ) → is_named b ≡ true → piece 0 16 b ≡ name_of (piece 16 112 b)
unfolding is_named
header_named b e = (bytes_eq-Decides (piece 0 16 b) (name_of (piece 16 112 b))).0 e

size_there : (b : List ℕ) → (decoded_header b).size ≡ number w32 104 b
unfolding decoded_header
size_there b = refl

body_there : (b : List ℕ) → (decoded_header b).body.0 ≡ piece 16 16 b
unfolding decoded_header
body_there b = refl

body_named : (h : Header) (b : List ℕ) → h ≡ block_header (content_at h b) → h.body.0 ≡ name_of (piece 128 (h.size - 128) b)
unfolding block_header
body_named h b e = ap (λ (h : Header). h.body.0) e

pub sealed : (b : List ℕ) → is_some (content_of b) ≡ true → Sealed b
sealed b e =
    let p = some_there (content_of b) e in
    let r = read_of b p.0 p.1 in
    let h = r.header in
    let s = sound_of h b r.is in
    let none : fault_of b ≡ None = none_of_ok b (ap is_ok r.read) in
    let same : decoded_header b ≡ h = read_header b h r.read in
    let size : h.size ≡ number w32 104 b = sym (ap (λ (h : Header). h.size) same) ∙ size_there b in
    record {
      size = r.size;
      least = (no_fault b none).1;
      most = (let m = s.size in omega arith);
      header = header_named b (sound b none).named;
      payload = sym (body_there b) ∙ (ap (λ (h : Header). h.body.0) same ∙ (body_named h b s.same ∙ ap (λ n. name_of (piece 128 (n - 128) b)) size));
    }

-- the two texts that a disk keeps
pub header_kept : (b sum : List ℕ) → Sealed b → sum ≡ piece 0 16 b → sum ≡ name_of (take 112 (drop 16 b))
unfolding piece
header_kept b sum s e = e ∙ s.header

pub payload_kept : (b sum : List ℕ) (n : ℕ) → Sealed b → n ≡ number w32 104 b → sum ≡ piece 16 16 b → sum ≡ name_of (take (n - 128) (drop 128 b))
unfolding piece
payload_kept b sum n s e f = f ∙ (s.payload ∙ ap (λ (k : ℕ). name_of (take (k - 128) (drop 128 b))) (sym e))

-- a block that has a name is a whole one
pub whole_named : (name : Name) (b : List ℕ) → is_some (named name b) ≡ true → is_some (content_of b) ≡ true
whole_named name b e = let p = some_there (named name b) e in ap is_some (named_found name b p.0 p.1).0

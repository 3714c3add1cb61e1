-- What stands at some places of a sector that begins with the header of an entry, and of one that does so with its bits turned.
use Rattle.std.proofs.Common.{ℕ, zero, suc, ◌+◌, ◌-◌, ◌<◌, ◌≤◌, ◌≡◌, ◌⊎◌, ◌^◌, inl, inr, arith, refl, sym, ap, ◌∙◌, List, [], ◌∷◌, length, get_or}
use Rattle.std.specs.Prelude.{replicate}
use Rattle.std.proofs.lemmas.Bool.{cases_lt}
use Rattle.std.proofs.lemmas.List.{get_or-replicate}
use Rattle.vr_base.specs.Bytes.{IsBytes, bytes32, bytes64, joined, name_of, piece}
use Rattle.vr_base.proofs.FieldLaws.{byte_of, get_or-piece, length-bytes32, length-bytes64, length-name_of}
use Rattle.vr_base.proofs.Places.{BeginsWith, length-joined, piece_there, place, total, widths}
use Rattle.vr_base.proofs.Versions.{between}
use Rattle.vr_disk.specs.DiskState.{IsContent, damaged}
use Rattle.vr_disk.proofs.Faces.{damaged_content}
use Rattle.vr_header.specs.declared.command.Command.TheVariants.{Entry}
use Rattle.vr_header.specs.declared.header.Header.{Header}
use Rattle.vr_header.specs.Spelling.{Spells, code_of, field_bytes, header_bytes, named_bytes}
use Rattle.vr_header.proofs.EntryLaws.{entry_header_of}
use Rattle.vr_header.proofs.HeaderLaws.{decoded_found}
use Rattle.law_5_seals.specs.Seals.{Fronts, spelled_from}
use Rattle.law_5_seals.proofs.Turning.{turned_at}

-- ---- the places of a header's fields

abbrev layout : List ℕ
layout = 16 ∷ 16 ∷ 16 ∷ 16 ∷ 8 ∷ 8 ∷ 4 ∷ 4 ∷ 8 ∷ 8 ∷ 4 ∷ 1 ∷ 1 ∷ 1 ∷ 1 ∷ 8 ∷ 8 ∷ []

abbrev pieces : Header → List (List ℕ)
pieces h = name_of (named_bytes h) ∷ field_bytes h

pub record HasNames (h : Header) : Type 0 where
  pub body : length h.body.0 ≡ 16
  pub parent : length h.parent.0 ≡ 16
  pub request_name : length h.request_name.0 ≡ 16

widths-pieces : (h : Header) → HasNames h → widths (pieces h) ≡ layout
widths-pieces h f =
    rw (length-name_of, f.body, f.parent, f.request_name, length-bytes64, length-bytes64, length-bytes32, length-bytes32, length-bytes64, length-bytes64, length-bytes32, length-bytes64) refl

header_bytes-joined : (h : Header) → header_bytes h ≡ joined (pieces h)
unfolding header_bytes named_bytes
header_bytes-joined h = refl

pub header_long : (h : Header) → HasNames h → length (header_bytes h) ≡ 128
header_long h f = ap length (header_bytes-joined h) ∙ (length-joined (pieces h) ∙ ap total (widths-pieces h f))

begins : (h : Header) (b : List ℕ) → HasNames h → Spells h b → BeginsWith layout (pieces h) b
begins h b f s = record { widths = widths-pieces h f; front = s ∙ header_bytes-joined h }

zeros64 : (b : List ℕ) (k n : ℕ) → piece k 8 b ≡ bytes64 n → n ≡ 0 → (i : ℕ) → i < 8 → get_or b (k + i) 0 ≡ 0
unfolding bytes64
zeros64 b k n e z i l =
    let all : piece k 8 b ≡ replicate 8 0 = e ∙ ap bytes64 z in
    sym (get_or-piece k 8 i b l) ∙ (ap (λ x. get_or x i 0) all ∙ get_or-replicate {A = ℕ} 8 i 0 0 l)

-- what stands where, each byte as f leaves it; a size below 2^16 has two zeros in front
pub record Marked (f : ℕ → ℕ) (b : List ℕ) : Type 0 where
  pub number : ℕ
  pub is_version : (1 ≤ number) × (number ≤ 2)
  pub size : (i : ℕ) → i < 2 → get_or b (104 + i) 0 ≡ f 0
  pub command : get_or b 108 0 ≡ f 3
  pub version : get_or b 110 0 ≡ f number
  pub kind : get_or b 111 0 ≡ f 0
  pub commit : (i : ℕ) → i < 8 → get_or b (96 + i) 0 ≡ f 0
  pub aux : (i : ℕ) → i < 8 → get_or b (112 + i) 0 ≡ f 0

-- the command of any header that is spelled there
pub command_at : (h : Header) (b : List ℕ) → HasNames h → Spells h b → get_or b 108 0 ≡ code_of h.command
command_at h b f s = byte_of 108 (code_of h.command) b (piece_there layout (pieces h) b (begins h b f s) 11 (omega arith))

short_size : (n : ℕ) → n < 2 ^ 16 → (i : ℕ) → i < 2 → get_or (bytes32 n) i 0 ≡ 0
unfolding bytes32
short_size n l zero k = omega (arith, l)
short_size n l (suc zero) k = omega (arith, l)
short_size n l (suc (suc i)) k = absurd (omega (arith, k))

size_front : (b : List ℕ) (n : ℕ) → piece 104 4 b ≡ bytes32 n → n < 2 ^ 16 → (i : ℕ) → i < 2 → get_or b (104 + i) 0 ≡ 0
size_front b n e l i k = sym (get_or-piece 104 4 i b (omega (arith, k))) ∙ (ap (λ x. get_or x i 0) e ∙ short_size n l i k)

spelled_marks : (h : Header) (b : List ℕ) → HasNames h → Spells h b → (1 ≤ h.version) × (h.version ≤ 2) → h.size < 2 ^ 16 → h.command ≡ Entry → h.commit ≡ 0 → h.kind ≡ 0 → h.aux ≡ 0 → Marked (λ x. x) b
spelled_marks h b f s version size entry commit kind aux =
    let at : (i : ℕ) → i < 17 → piece (place layout i) (get_or layout i 0) b ≡ get_or (pieces h) i [] = λ i l. piece_there layout (pieces h) b (begins h b f s) i l in
    record {
      number = h.version;
      is_version = version;
      size = size_front b h.size (at 10 (omega arith)) size;
      command = command_at h b f s ∙ ap code_of entry;
      version = byte_of 110 h.version b (at 13 (omega arith));
      kind = byte_of 111 h.kind b (at 14 (omega arith)) ∙ kind;
      commit = zeros64 b 96 h.commit (at 9 (omega arith)) commit;
      aux = zeros64 b 112 h.aux (at 15 (omega arith)) aux;
    }

pub front_marks : (b : List ℕ) (h : Header) → IsBytes b → Fronts b h → Marked (λ x. x) b
front_marks b h are f =
    let all = decoded_found b are in
    let s = rw f.reads at all in
    let is = entry_header_of h f.entry in
    let most = between h.version 1920 3968 (omega arith) in
    let size = is.size in
    spelled_marks h b (record { body = s.1.body; parent = s.1.parent; request_name = s.1.request_name }) s.0 s.1.version (omega (arith, most, size)) is.command is.commit is.kind is.aux

turned_mark : (b : List ℕ) (i x : ℕ) → IsContent b → i < 512 → get_or (damaged b) i 0 ≡ x → get_or b i 0 ≡ 255 - x
turned_mark b i x c l e = let t = turned_at b i c l in let small = c.each i in omega (arith, t, e, small)

pub turned_marks : (b : List ℕ) (h : Header) → IsContent b → Fronts (damaged b) h → Marked (λ x. 255 - x) b
turned_marks b h c f =
    let m = front_marks (damaged b) h (damaged_content b c).each f in
    record {
      number = m.number;
      is_version = m.is_version;
      size = λ i l. turned_mark b (104 + i) 0 c (omega (arith, l)) (m.size i l);
      command = turned_mark b 108 3 c (omega arith) m.command;
      version = turned_mark b 110 m.number c (omega arith) m.version;
      kind = turned_mark b 111 0 c (omega arith) m.kind;
      commit = λ i l. turned_mark b (96 + i) 0 c (omega (arith, l)) (m.commit i l);
      aux = λ i l. turned_mark b (112 + i) 0 c (omega (arith, l)) (m.aux i l);
    }

-- ---- more of them, for texts that aren't excluded by those alone

-- of group 0 with a low op, or with a lower one
abbrev pub IsLow : (ℕ → ℕ) → Type 0
IsLow byte = (((i : ℕ) → i < 8 → byte (64 + i) ≡ 0) × (byte 88 < 32)) ⊎ (byte 89 ≡ 0)

pub record FrontMarks (b : List ℕ) (h : Header) : Type 0 where
  pub marked : Marked (λ x. x) b
  pub low : IsLow (λ k. get_or b k 0)
  pub replica : get_or b 109 0 ≡ 0
  pub zeros : (i : ℕ) → i < 17 → get_or b (111 + i) 0 ≡ 0

first_byte : (n : ℕ) → n < 2 ^ 61 → get_or (bytes64 n) 0 0 < 32
unfolding bytes64
first_byte n l = omega (arith, l)

high_at : (b : List ℕ) (n : ℕ) → piece 88 8 b ≡ bytes64 n → n < 2 ^ 61 → get_or b 88 0 < 32
high_at b n e l = let at = get_or-piece 88 8 0 b (omega arith) in let same = ap (λ x. get_or x 0 0) e in let low = first_byte n l in omega (arith, at, same, low)

last_zeros : (b : List ℕ) → piece 120 8 b ≡ replicate 8 0 → (i : ℕ) → i < 8 → get_or b (120 + i) 0 ≡ 0
last_zeros b e i l = sym (get_or-piece 120 8 i b l) ∙ (ap (λ x. get_or x i 0) e ∙ get_or-replicate {A = ℕ} 8 i 0 0 l)

second_byte : (n : ℕ) → n < 2 ^ 48 → get_or (bytes64 n) 1 0 ≡ 0
unfolding bytes64
second_byte n l = omega (arith, l)

low_at : (b : List ℕ) (cluster op : ℕ) → piece 64 8 b ≡ bytes64 cluster → piece 88 8 b ≡ bytes64 op → op < spelled_from cluster → IsLow (λ k. get_or b k 0)
low_at b zero op c o l = inl (λ i q. zeros64 b 64 0 c refl i q, high_at b op o l)
low_at b (suc cluster) op c o l = inr (sym (get_or-piece 88 8 1 b (omega arith)) ∙ (ap (λ x. get_or x 1 0) o ∙ second_byte op l))

pub long_marks : (b : List ℕ) (h : Header) → IsBytes b → Fronts b h → FrontMarks b h
long_marks b h are f =
    let all = decoded_found b are in
    let s = rw f.reads at all in
    let is = entry_header_of h f.entry in
    let n : HasNames h = record { body = s.1.body; parent = s.1.parent; request_name = s.1.request_name } in
    let at : (i : ℕ) → i < 17 → piece (place layout i) (get_or layout i 0) b ≡ get_or (pieces h) i [] = λ i l. piece_there layout (pieces h) b (begins h b n s.0) i l in
    let m = front_marks b h are f in
    record {
      marked = m;
      low = low_at b h.cluster h.op (at 4 (omega arith)) (at 8 (omega arith)) f.low;
      replica = byte_of 109 h.replica b (at 12 (omega arith)) ∙ is.replica;
      zeros = λ i l. elim (cases_lt i 1) [
        | inl none ↦ (let e : 111 + i ≡ 111 = omega (arith, none) in ap (λ k. get_or b k 0) e ∙ m.kind)
        | inr some ↦ elim (cases_lt i 9) [
          | inl aux ↦ (let e : 111 + i ≡ 112 + (i - 1) = omega (arith, some) in ap (λ k. get_or b k 0) e ∙ m.aux (i - 1) (omega (arith, some, aux)))
          | inr last ↦ (let e : 111 + i ≡ 120 + (i - 9) = omega (arith, last) in ap (λ k. get_or b k 0) e ∙ last_zeros b (at 16 (omega arith)) (i - 9) (omega (arith, last, l)))
        ]
      ];
    }

pub turned_ones : (b : List ℕ) (h : Header) → IsContent b → Fronts (damaged b) h → (i : ℕ) → i < 17 → get_or b (111 + i) 0 ≡ 255
turned_ones b h c f i l = let m = long_marks (damaged b) h (damaged_content b c).each f in turned_mark b (111 + i) 0 c (omega (arith, l)) (m.zeros i l)

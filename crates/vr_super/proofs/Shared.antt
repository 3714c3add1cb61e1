-- The headers of a value, where they stand in its text.
use Rattle.std.proofs.Common.{◌≡◌, ℕ, zero, suc, ◌+◌, ◌*◌, ◌<◌, List, [], ◌∷◌, ◌++◌, length, take, drop, sym, ap, ◌∙◌, append_assoc, arith, Some, inl, inr}
use Rattle.std.specs.Prelude.{slice_get}
use Rattle.std.specs.List.{AllByRecursion}
use Rattle.std.proofs.lemmas.List.{drop-drop, drop-take, drop_at, take-take, take_at}
use Rattle.std.proofs.lemmas.Option.{slice_get_cases, slice_get_within}
use Rattle.vr_base.specs.Bytes.{name_of, piece}
use Rattle.vr_base.proofs.FieldLaws.{length-name_of}
use Rattle.vr_header.specs.declared.header.Header.{Header}
use Rattle.vr_header.specs.Spelling.{IsHeader, header_bytes, named_bytes}
use Rattle.vr_header.proofs.HeaderLaws.{length-header_bytes}
use Rattle.vr_super.specs.Copies.{IsGood, SuperValue, list_bytes, named_bytes as text_of}
use Rattle.vr_super.proofs.Format.{behind_text, count_fits}

pub stands_within : (v : SuperValue) (i : ℕ) (h : Header) → IsGood v → slice_get v.headers i ≡ Some h → i < 64
stands_within v i h g e = let a = slice_get_within v.headers i h e in let b = count_fits v.fields (length v.headers) g.fields in omega arith

list_header : (hs : List Header) (z : List ℕ) (i : ℕ) (h : Header) → AllByRecursion IsHeader hs → slice_get hs i ≡ Some h → take 128 (drop (128 * i) (list_bytes hs ++ z)) ≡ header_bytes h
unfolding list_bytes
list_header [] z i h a e = absurd cc
list_header (x ∷ hs) z zero h a e =
    let same : x ≡ h = cc in
    ap (take 128) (append_assoc (header_bytes x) (list_bytes hs) z) ∙ (take_at (header_bytes x) (list_bytes hs ++ z) 128 (length-header_bytes x a.0) ∙ ap header_bytes same)
list_header (x ∷ hs) z (suc i) h a e =
    let t = (header_bytes x ++ list_bytes hs) ++ z in
    let size : 128 * suc i ≡ 128 + 128 * i = omega arith in
    let rest : drop 128 t ≡ list_bytes hs ++ z = ap (drop 128) (append_assoc (header_bytes x) (list_bytes hs) z) ∙ drop_at (header_bytes x) (list_bytes hs ++ z) 128 (length-header_bytes x a.0) in
    ap (λ n. take 128 (drop n t)) size ∙ (ap (take 128) (sym (drop-drop (128 * i) 128 t) ∙ ap (drop (128 * i)) rest) ∙ list_header hs z i h a.1 e)

pub header_stands : (v : SuperValue) (i : ℕ) (h : Header) → IsGood v → slice_get v.headers i ≡ Some h → piece (112 + 128 * i) 128 (text_of v) ≡ header_bytes h
unfolding piece
header_stands v i h g e =
    ap (take 128) (sym (drop-drop (128 * i) 112 (text_of v)) ∙ ap (drop (128 * i)) (behind_text v g.numbers)) ∙ list_header v.headers _ i h g.each e

-- ---- names that stand in front of what they name

-- a header's name, and after it what it names
name_first : (h : Header) → take 16 (header_bytes h) ≡ name_of (named_bytes h)
unfolding header_bytes
name_first h = take_at (name_of (named_bytes h)) (named_bytes h) 16 (length-name_of (named_bytes h))

named_behind : (h : Header) → drop 16 (header_bytes h) ≡ named_bytes h
unfolding header_bytes
named_behind h = drop_at (name_of (named_bytes h)) (named_bytes h) 16 (length-name_of (named_bytes h))

-- of 128 bytes at a place the first 16, and the others
front_of : (t : List ℕ) (at : ℕ) → piece at 16 t ≡ take 16 (piece at 128 t)
unfolding piece
front_of t at = sym (take-take 16 128 (drop at t) (omega arith))

back_of : (t : List ℕ) (at : ℕ) → piece (at + 16) 112 t ≡ drop 16 (piece at 128 t)
unfolding piece
back_of t at = ap (take 112) (sym (drop-drop 16 at t)) ∙ sym (drop-take 16 112 (drop at t))

pub name_stands : (v : SuperValue) (i : ℕ) (h : Header) → IsGood v → slice_get v.headers i ≡ Some h → piece (112 + 128 * i) 16 (text_of v) ≡ name_of (named_bytes h)
name_stands v i h g e = front_of (text_of v) (112 + 128 * i) ∙ (ap (take 16) (header_stands v i h g e) ∙ name_first h)

pub header_named : (v : SuperValue) (i : ℕ) → IsGood v → i < length v.headers → piece (112 + 128 * i) 16 (text_of v) ≡ name_of (piece (112 + 128 * i + 16) 112 (text_of v))
header_named v i g l = elim (slice_get_cases v.headers i).1 [
  | inl p ↦
      let rest = back_of (text_of v) (112 + 128 * i) ∙ (ap (drop 16) (header_stands v i p.0 g p.2) ∙ named_behind p.0) in
      name_stands v i p.0 g p.2 ∙ ap name_of (sym rest)
  | inr q ↦ absurd (let past = q.0 in omega arith)
]

pub listed_within : (v : SuperValue) (i : ℕ) → IsGood v → i < length v.headers → i < 64
listed_within v i g l = let k = count_fits v.fields (length v.headers) g.fields in omega arith

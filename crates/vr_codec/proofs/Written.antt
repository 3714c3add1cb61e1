-- Steps of loops that write lists.
use Rattle.std.proofs.Common.{◌≡◌, ℕ, suc, ◌+◌, ◌*◌, ◌≤◌, ◌<◌, List, [], ◌∷◌, ◌++◌, length, take, drop, get_or, length-append, refl, sym, ap, ◌∙◌, arith, append_assoc, drop-cons, subst}
use Rattle.std.specs.Prelude.{map}
use Rattle.std.proofs.lemmas.List.{append-nil, drop_all, drop_at, take-append-drop, take_at}
use Rattle.vr_base.specs.Bytes.{KeepsFront}
use Rattle.vr_header.specs.declared.header.Header.{Header}
use Rattle.vr_header.specs.declared.part.Part.{Part}
use Rattle.vr_header.specs.declared.part.Part.TheVariants.{Here, Lost, Wanted, Unknown, Nothing}
use Rattle.vr_header.specs.Spelling.{IsHeader, header_bytes}
use Rattle.vr_header.proofs.HeaderLaws.{length-header_bytes}
use Rattle.vr_base.proofs.Writing.{kept_before}
use Rattle.vr_msg.specs.declared.frame.Frame.{Frame}
use Rattle.vr_msg.specs.Spelling.{AreHeaders, body_bytes, frame_header, headers_bytes, known, spelling, tag}

pub headers_next : (hs : List Header) (i : ℕ) (d : Header) → i < length hs → headers_bytes (drop i hs) ≡ header_bytes (get_or hs i d) ++ headers_bytes (drop (i + 1) hs)
headers_next hs i d l = let e : i + 1 ≡ suc i = omega arith in rw (e, drop-cons hs i d) refl

pub headers_end : (hs : List Header) (i : ℕ) → length hs ≤ i → headers_bytes (drop i hs) ≡ []
headers_end hs i l = rw (drop_all i hs l) refl

pub values_next : (hs : List Header) (i : ℕ) (d : Header) → i < length hs → IsHeader (get_or hs i d) → AreHeaders (drop (i + 1) hs) → AreHeaders (drop i hs)
values_next hs i d l h a = let e : i + 1 ≡ suc i = omega arith in rw (drop-cons hs i d) (h, rw e at a)

pub values_end : (hs : List Header) (i : ℕ) → length hs ≤ i → AreHeaders (drop i hs)
values_end hs i l = rw (drop_all i hs l) tt

pub ruleset writing_headers = (headers_next, headers_end, values_end)

pub tags_next : (ps : List Part) (i : ℕ) (d : Part) → i < length ps → map tag (drop i ps) ≡ tag (get_or ps i d) ∷ map tag (drop (i + 1) ps)
tags_next ps i d l = let e : i + 1 ≡ suc i = omega arith in rw (e, drop-cons ps i d) refl

pub tags_end : (ps : List Part) (i : ℕ) → length ps ≤ i → map tag (drop i ps) ≡ []
tags_end ps i l = rw (drop_all i ps l) refl

pub ruleset writing_tags = (tags_next, tags_end)

-- the headers of one Part, and those of the others
one_known : (p : Part) (ps : List Part) → headers_bytes (known (p ∷ ps)) ≡ headers_bytes (known (p ∷ [])) ++ headers_bytes (known ps)
one_known (Here h) ps = ap (λ x. x ++ headers_bytes (known ps)) (sym (append-nil (header_bytes h)))
one_known (Lost h) ps = ap (λ x. x ++ headers_bytes (known ps)) (sym (append-nil (header_bytes h)))
one_known (Wanted h) ps = ap (λ x. x ++ headers_bytes (known ps)) (sym (append-nil (header_bytes h)))
one_known Unknown ps = refl
one_known Nothing ps = refl

one_value : (p : Part) (ps : List Part) → AreHeaders (known (p ∷ [])) → AreHeaders (known ps) → AreHeaders (known (p ∷ ps))
one_value (Here h) ps a b = (a.0, b)
one_value (Lost h) ps a b = (a.0, b)
one_value (Wanted h) ps a b = (a.0, b)
one_value Unknown ps a b = b
one_value Nothing ps a b = b

pub known_next : (ps : List Part) (i : ℕ) (d : Part) → i < length ps
    → headers_bytes (known (drop i ps)) ≡ headers_bytes (known (get_or ps i d ∷ [])) ++ headers_bytes (known (drop (i + 1) ps))
known_next ps i d l = let e : i + 1 ≡ suc i = omega arith in rw (e, drop-cons ps i d) (one_known (get_or ps i d) (drop (suc i) ps))

pub known_end : (ps : List Part) (i : ℕ) → length ps ≤ i → headers_bytes (known (drop i ps)) ≡ []
known_end ps i l = rw (drop_all i ps l) refl

pub known_values_next : (ps : List Part) (i : ℕ) (d : Part) → i < length ps → AreHeaders (known (get_or ps i d ∷ [])) → AreHeaders (known (drop (i + 1) ps)) → AreHeaders (known (drop i ps))
known_values_next ps i d l h a = let e : i + 1 ≡ suc i = omega arith in rw (drop-cons ps i d) (one_value (get_or ps i d) (drop (suc i) ps) h (rw e at a))

pub known_values_end : (ps : List Part) (i : ℕ) → length ps ≤ i → AreHeaders (known (drop i ps))
known_values_end ps i l = rw (drop_all i ps l) tt

pub ruleset writing_known = (known_next, known_end, known_values_end)

-- what is written in three steps
pub four_parts : (old a b c d : List ℕ) → ((old ++ (a ++ b)) ++ c) ++ d ≡ old ++ (a ++ (b ++ (c ++ d)))
four_parts old a b c d = simp append_assoc

pub behind_zeros : (old zeros body : List ℕ) (start : ℕ) → start ≡ length old → length zeros ≡ 128
    → (take start ((old ++ zeros) ++ body) ≡ old) × (drop (start + 128) ((old ++ zeros) ++ body) ≡ body)
behind_zeros old zeros body start s l =
    let n : length (old ++ zeros) ≡ start + 128 = length-append old zeros ∙ (let e = s in omega arith) in
    (rw (append_assoc old zeros body) (take_at old (zeros ++ body) start (sym s)), drop_at (old ++ zeros) body (start + 128) n)

-- a header that is put before a body
pub put_front : (start : ℕ) (m : Frame) (h : Header) (head old new : List ℕ) → h ≡ frame_header m → head ≡ header_bytes h → IsHeader h
    → take (start + length head) new ≡ take start old ++ head → drop (start + length head) new ≡ drop (start + length head) old → drop (start + 128) old ≡ body_bytes m
    → new ≡ take start old ++ spelling m
unfolding spelling
put_front start m h head old new e b i front back body =
    let l : length head ≡ 128 = ap length b ∙ length-header_bytes h i in
    let first : take (start + 128) new ≡ take start old ++ head = rw l at front in
    let rest : drop (start + 128) new ≡ body_bytes m = (rw l at back) ∙ body in
    let bytes : head ≡ header_bytes (frame_header m) = b ∙ ap header_bytes e in
    sym (take-append-drop (start + 128) new)
    ∙ (ap (λ x. x ++ drop (start + 128) new) first
    ∙ (ap (λ x. (take start old ++ head) ++ x) rest
    ∙ (ap (λ x. (take start old ++ x) ++ body_bytes m) bytes ∙ append_assoc (take start old) (header_bytes (frame_header m)) (body_bytes m))))

-- what is added after keeps a front
pub kept_more : (before now more : List ℕ) → KeepsFront before now → KeepsFront before (now ++ more)
kept_more before now more e =
    let rest = drop (length before) now in
    let whole : before ++ rest ≡ now = ap (λ t. t ++ rest) (sym e) ∙ take-append-drop (length before) now in
    subst (λ t. take (length before) (t ++ more) ≡ before) whole (ap (take (length before)) (append_assoc before rest more) ∙ take_at before (rest ++ more) (length before) refl)

pub kept_through : (before mid now : List ℕ) → KeepsFront before mid → KeepsFront mid now → KeepsFront before now
kept_through before mid now e f =
    let rest = drop (length before) mid in
    let whole : before ++ rest ≡ mid = ap (λ t. t ++ rest) (sym e) ∙ take-append-drop (length before) mid in
    kept_before before rest now (subst (λ t. KeepsFront t now) (sym whole) f)

-- What no message begins.
use Rattle.std.proofs.Common.{subst, ◌≡◌, ◌∙◌, ◌≤◌, ◌+◌, ◌-◌, ℕ, List, [], ◌∷◌, ◌++◌, length, take, Ok, Err, refl, ap, sym, inl, inr, arith}
use Rattle.std.proofs.lemmas.List.{length-append, length-drop, take_at}
use Rattle.vr_base.specs.Bytes.{name_of}
use Rattle.vr_header.specs.Spelling.{decoded}
use Rattle.vr_header.specs.declared.header.Header.{Header}
use Rattle.vr_codec.specs.Deciding.{IsFault}
use Rattle.vr_codec.specs.declared.fault.MsgFault.{MsgFault}
use Rattle.vr_codec.specs.declared.fault.MsgFault.TheVariants as fault
use Rattle.vr_codec.proofs.Again.{name_of_frame, size_of_frame}
use Rattle.vr_codec.proofs.Decided.{front_of, whole_of}
use Rattle.vr_codec.proofs.Fitting.{long_of}
use Rattle.vr_msg.specs.Spelling.{Spells, body_bytes, frame_header}
use Rattle.vr_msg.specs.declared.frame.Frame.{Frame}
use Rattle.vr_stream.specs.Cutting.{BeginsNone, IsBroken, IsShort}

-- what a message at the front says of the bytes
pub record Fronted (m : Frame) (front bytes : List ℕ) : Type 0 where
  pub decodes : decoded bytes ≡ Ok (frame_header m)
  pub size : (frame_header m).size ≡ length front
  pub long : 128 ≤ length front
  pub there : length front ≤ length bytes

pub fronted : (m : Frame) (front rest bytes : List ℕ) → Spells m front → front ++ rest ≡ bytes → Fronted m front bytes
fronted m front rest bytes s j =
    let w = whole_of m front s in
    let long : 128 ≤ length front = long_of front (frame_header m) w.0 in
    let body : length front - 128 ≡ length (body_bytes m) = sym (length-drop 128 front) ∙ ap length w.1 in
    let all : length front + length rest ≡ length bytes = sym (length-append front rest) ∙ ap length j in
    record {
      decodes = ap decoded (sym j) ∙ (front_of m front rest s).0;
      size = size_of_frame m ∙ omega (arith, long, body);
      long = long;
      there = omega (arith, all);
    }

append_nil : (xs : List ℕ) → xs ++ [] ≡ xs
append_nil [] = refl
append_nil (x ∷ xs) = ap (λ ys. x ∷ ys) (append_nil xs)

same_header : (bytes : List ℕ) (h k : Header) → decoded bytes ≡ Ok h → decoded bytes ≡ Ok k → h ≡ k
same_header bytes h k a b = let o : Ok h ≡ Ok k = sym a ∙ b in cc

pub short_none : (bytes : List ℕ) → IsShort bytes → BeginsNone bytes
short_none bytes (inl less) = λ front rest j x.
    let f = fronted x.0 front rest bytes x.1 j in
    absurd (let clash : 1 ≤ 0 = omega (arith, less, f.long, f.there) in omega (arith, clash))
short_none bytes (inr (h, d, less)) = λ front rest j x.
    let f = fronted x.0 front rest bytes x.1 j in
    let size : h.size ≡ length front = ap (λ (y : Header). y.size) (same_header bytes h (frame_header x.0) d f.decodes) ∙ f.size in
    absurd (let clash : 1 ≤ 0 = omega (arith, less, size, f.there) in omega (arith, clash))

pub no_fault_of : (m : Frame) (b : List ℕ) (f : MsgFault) → Spells m b → IsFault b f → ⊥
no_fault_of m b (fault.Header g) s x = let clash : Ok (frame_header m) ≡ Err g = sym (whole_of m b s).0 ∙ x in absurd cc
no_fault_of m b fault.BodySum s (h, d, n) =
    let w = whole_of m b s in
    let same : frame_header m ≡ h = same_header b (frame_header m) h w.0 d in
    let f = fronted m b [] b s (append_nil b) in
    n (record { size = sym f.size ∙ ap (λ (y : Header). y.size) same; name = ap name_of w.1 ∙ sym (name_of_frame m) ∙ ap (λ (y : Header). y.body.0) same })
no_fault_of m b fault.BodyShape s x = x.1 m s
no_fault_of m b fault.NoMemory s x = x

pub broken_none : (bytes : List ℕ) (f : MsgFault) → IsBroken bytes f → BeginsNone bytes
broken_none bytes f b = λ front rest j x.
    let t = fronted x.0 front rest bytes x.1 j in
    let size : length front ≡ b.size = sym t.size ∙ b.sized (frame_header x.0) t.decodes in
    let cut : take b.size bytes ≡ front = ap (take b.size) (sym j) ∙ take_at front rest b.size size in
    no_fault_of x.0 front f x.1 (subst (λ ys. IsFault ys f) cut b.fault)

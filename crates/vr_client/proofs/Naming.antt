-- The name of a message's header stands in front of its bytes.
use Rattle.std.proofs.Common.{◌≡◌, ◌≤◌, ◌∙◌, ℕ, arith, ap, List, ◌++◌, append_assoc, length, length-append, take}
use Rattle.std.proofs.lemmas.List.{take_at}
use Rattle.vr_base.specs.declared.sum.Sum.{Sum}
use Rattle.vr_base.specs.Bytes.{name_of, piece}
use Rattle.vr_base.proofs.FieldLaws.{length-name_of}
use Rattle.vr_header.specs.Names.{header_name}
use Rattle.vr_header.specs.Spelling.{header_bytes, named_bytes}
use Rattle.vr_msg.specs.Spelling.{body_bytes, frame_header, spelling}
use Rattle.vr_msg.specs.declared.frame.Frame.{Frame}

in_front : (m : Frame) → spelling m ≡ name_of (named_bytes (frame_header m)) ++ (named_bytes (frame_header m) ++ body_bytes m)
unfolding spelling header_bytes
in_front m = append_assoc (name_of (named_bytes (frame_header m))) (named_bytes (frame_header m)) (body_bytes m)

pub long_enough : (m : Frame) (b : List ℕ) → b ≡ spelling m → 16 ≤ length b
long_enough m b e =
    let n = named_bytes (frame_header m) in
    let l = ap length (e ∙ in_front m) in
    omega (arith, length-append (name_of n) (n ++ body_bytes m), length-name_of n)

pub name_in_front : (m : Frame) (b : List ℕ) (s : Sum) → b ≡ spelling m → s.0 ≡ piece 0 16 b → s ≡ header_name (frame_header m)
unfolding piece
name_in_front m b s e p =
    let n = named_bytes (frame_header m) in
    let front : take 16 b ≡ name_of n = ap (take 16) (e ∙ in_front m) ∙ take_at (name_of n) (n ++ body_bytes m) 16 (length-name_of n) in
    ap (λ (x : List ℕ). let y : Sum = record { 0 = x } in y) (p ∙ front)

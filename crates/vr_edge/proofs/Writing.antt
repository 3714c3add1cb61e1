-- Bytes that are taken one piece after another.
use Rattle.std.proofs.Common.{◌≡◌, ◌∙◌, ℕ, ◌+◌, ◌-◌, List, [], take, drop, length, append-nil, Option, None, Some, arith}
use Rattle.std.specs.Io.KnownBytes.{Appends, Keeps}
use Rattle.std.proofs.KnownBytes.{Appends-trans, Appends-kept}
use Rattle.std.proofs.lemmas.List.{take-append-drop}
use Rattle.std.proofs.Math.Seq.{take-add}
use Rattle.std.proofs.lemmas.Grind.{common_steps}
use Rattle.vr_edge.specs.Told.{AppendsFront}

-- nothing more is taken
pub front_kept : (a b c : Option (List ℕ)) (at : ℕ) (bytes : List ℕ) → Appends a b (take at bytes) → Keeps b c
    → AppendsFront a c bytes
front_kept a b c at bytes so_far kept =
    (take at bytes, drop at bytes, Appends-kept a b c (take at bytes) so_far kept, take-append-drop at bytes)

slice_from : (at : ℕ) (bytes : List ℕ) → take (length bytes - at) (drop at bytes) ≡ drop at bytes
slice_from at bytes = grind (arith, common_steps)

-- a piece more, of the slice from there on
pub appends_slice : (a b c : Option (List ℕ)) (at n : ℕ) (bytes : List ℕ) → Appends a b (take at bytes)
    → Appends b c (take n (take (length bytes - at) (drop at bytes))) → Appends a c (take (at + n) bytes)
appends_slice a b c at n bytes so_far piece =
    rw (take-add at n bytes) (Appends-trans a b c (take at bytes) (take n (drop at bytes)) so_far (rw slice_from at piece))

-- a write that took nothing
pub none_taken : (a b : Option (List ℕ)) → Appends a b [] → Keeps a b
none_taken None b h = tt
none_taken (Some x) None h = absurd h
none_taken (Some x) (Some y) h = h ∙ append-nil x

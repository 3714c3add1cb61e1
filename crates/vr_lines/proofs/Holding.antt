-- What stands in the buffer of lines.
use Rattle.std.proofs.Common.{◌≡◌, ◌<◌, ◌≤◌, ℕ, ◌+◌, ◌-◌, List, [], ◌∷◌, ◌++◌, length, take, drop, refl, ap, sym, ◌∙◌, arith, take-take}
use Rattle.std.specs.List.{copy_within}
use Rattle.std.proofs.Math.Seq.{take-append-add}
use Rattle.std.proofs.lemmas.List.{drop-drop, drop-take, length-drop, length-take, length-take-le, take-append-le}
use Rattle.std.proofs.lemmas.List.Edits.{take-paste}
use Rattle.std.proofs.lemmas.Slice.{take-put_mid}
use borrow.Rule.Slice.PartMut.{put_mid}
use lib.Seq.{paste}
use Rattle.vr_lines.specs.Cuts.{whole_lines, IsEnd}
use Rattle.vr_lines.specs.Held.{between}

-- the front of what stands
front_of : (buffer : List ℕ) (start end at : ℕ) → at ≤ end - start → between start (start + at) buffer ≡ take at (between start end buffer)
front_of buffer start end at h =
    let n : start + at - start ≡ at = omega arith in
    ap (λ n. take n (drop start buffer)) n ∙ sym (take-take at (end - start) (drop start buffer) h)

-- what stands after it
rest_of : (buffer : List ℕ) (start end at : ℕ) → at < end - start → between (start + (at + 1)) end buffer ≡ drop (at + 1) (between start end buffer)
rest_of buffer start end at h =
    let m = end - (start + (at + 1)) in
    let all : end - start ≡ (at + 1) + m = omega arith in
    ap (λ xs. take m xs) (sym (drop-drop (at + 1) start buffer))
    ∙ sym (drop-take (at + 1) m (drop start buffer))
    ∙ ap (λ n. drop (at + 1) (take n (drop start buffer))) (sym all)

-- a line that has ended
pub record GivesLine (old line rest : List ℕ) : Type 0 where
  pub part : whole_lines line ≡ []
  pub whole : old ≡ line ++ 10 ∷ rest

pub line_given : (buffer : List ℕ) (start end at : ℕ) → at < end - start → IsEnd (between start end buffer) at → GivesLine (between start end buffer) (between start (start + at) buffer) (between (start + (at + 1)) end buffer)
line_given buffer start end at h e =
    rw (front_of buffer start end at (omega arith), rest_of buffer start end at h) (record { part = e.before; whole = e.whole })

moved : (buffer : List ℕ) (start held : ℕ) (copied : List ℕ) → copied ≡ paste buffer 0 (drop start buffer) held → held ≤ length (drop start buffer) → take held copied ≡ take held (drop start buffer)
moved buffer start held copied e room =
    let none : 0 + held ≡ held = omega arith in
    ap (take held) e
    ∙ ap (λ n. take n (paste buffer 0 (drop start buffer) held)) (sym none)
    ∙ take-paste buffer 0 (drop start buffer) held (omega arith) room

-- a piece after what stands, which was moved to the front
pub pushed : (buffer copied piece part : List ℕ) (start end count k : ℕ) → start ≤ end → end ≤ length buffer → length copied ≡ length buffer → copied ≡ copy_within buffer start end 0 → part ≡ take count piece → length part ≡ count
    → between 0 (end - start + count) (put_mid (end - start) k copied part) ≡ between start end buffer ++ take count piece
pushed buffer copied piece part start end count k h l same e p c =
    let held = end - start in
    let room : held ≤ length (drop start buffer) = omega (arith, length-drop start buffer) in
    let none : held + count - 0 ≡ held + count = omega arith in
    ap (λ n. take n (put_mid held k copied part)) none
    ∙ take-put_mid held k copied part (held + count) (omega (arith, c)) (omega (arith, same, h, l))
    ∙ ap (λ xs. take held xs ++ part) e
    ∙ ap (λ xs. xs ++ part) (moved buffer start held (copy_within buffer start end 0) refl room)
    ∙ ap (λ xs. take held (drop start buffer) ++ xs) p

-- how much stands
pub length_held : (buffer : List ℕ) (start end : ℕ) → start ≤ end → end ≤ length buffer → length (between start end buffer) ≡ end - start
length_held buffer start end h l = length-take-le (end - start) (drop start buffer) (omega (arith, length-drop start buffer))

-- so many bytes of a piece after what stands, which was moved to the front
pub filled : (buffer copied piece : List ℕ) (start end count k : ℕ) → start ≤ end → end ≤ length buffer → length copied ≡ length buffer → copied ≡ copy_within buffer start end 0 → count ≤ length piece
    → between 0 (end - start + count) (put_mid (end - start) k copied piece) ≡ between start end buffer ++ take count piece
filled buffer copied piece start end count k h l same e few =
    let held = end - start in
    let room : held ≤ length (drop start buffer) = omega (arith, length-drop start buffer) in
    let front : held ≡ length (take held copied) = sym (length-take-le held copied (omega (arith, same, h, l))) in
    let whole : held + count - 0 ≡ length (take held copied) + count = omega (arith, front) in
    ap (λ n. take n (put_mid held k copied piece)) whole
    ∙ take-append-add (take held copied) _ count
    ∙ ap (λ xs. take held copied ++ xs) (take-append-le count piece _ few)
    ∙ ap (λ xs. take held xs ++ take count piece) e
    ∙ ap (λ xs. xs ++ take count piece) (moved buffer start held (copy_within buffer start end 0) refl room)

-- a place of what stands
pub within : (buffer : List ℕ) (start end at : ℕ) → at < length (between start end buffer) → at < end - start
within buffer start end at h = omega (arith, h, length-take (end - start) (drop start buffer))

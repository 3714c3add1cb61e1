-- Sectors that are zeros.
use Rattle.std.proofs.Common.{ℕ, ◌≡◌, refl, sym, ap, ◌∙◌, true, false, List, length, Option, Some}
use Rattle.std.specs.Prelude.{bytes_eq, nat_eq, replicate}
use Rattle.std.specs.Cmp.Lexicographic.{pointwise}
use Rattle.std.proofs.lemmas.Slice.Eq.{bytes_eq-Decides}
use Rattle.vr_base.specs.Bytes.{is_zeros}
use Rattle.vr_base.proofs.ZeroLaws.{are_zeros, zeros_are}
use Rattle.vr_disk.specs.Sectors.{has}
use Rattle.vr_mem.specs.declared.bytes.MemBytes.{MemBytes}
use Rattle.vr_mem.specs.declared.room.MemRoom.{MemRoom}
use Rattle.vr_mem.specs.Seen.{IsShown, IsWritten, blank_room, bytes_of, copies, room_of, zero_cell}
use Rattle.vr_mem.proofs.Made.{zeros_copies}
use Rattle.vr_mem.proofs.Places.{blank_cell}

-- zeros that are written over zeros
pub stays_zeros : (room : MemRoom) (bytes : List ℕ) → room ≡ blank_room → length bytes ≡ 512 → is_zeros bytes ≡ true → IsWritten room room bytes
unfolding zero_cell
stays_zeros room bytes e n z =
    let b : bytes ≡ copies 512 0 = are_zeros bytes z ∙ (ap (λ n. replicate n 0) n ∙ zeros_copies) in
    let c : room_of room ≡ zero_cell = ap room_of e ∙ blank_cell in
    record { cell = rw (c, b) refl; stays = record { truth = refl; before = refl; lie = refl } }

-- zeros as which a sector of zeros is to read
pub shown_zeros : (room : MemRoom) (bytes : List ℕ) → room ≡ blank_room → length bytes ≡ 512 → is_zeros bytes ≡ true → IsShown room room bytes
unfolding zero_cell
shown_zeros room bytes e n z =
    let b : bytes ≡ copies 512 0 = are_zeros bytes z ∙ (ap (λ n. replicate n 0) n ∙ zeros_copies) in
    let c : room_of room ≡ zero_cell = ap room_of e ∙ blank_cell in
    rw (c, b) refl

-- ---- whether a sector reads as zeros

pub zeros_has : (b : List ℕ) → length b ≡ 512 → is_zeros b ≡ pointwise nat_eq b (replicate 512 0)
zeros_has b n =
    elim (is_zeros b) as (λ t. is_zeros b ≡ t → t ≡ pointwise nat_eq b (replicate 512 0)) [
      | true ↦ λ e. sym ((bytes_eq-Decides b (replicate 512 0)).1 (are_zeros b e ∙ ap (λ n. replicate n 0) n))
      | false ↦ λ e.
          elim (pointwise nat_eq b (replicate 512 0)) as (λ t. pointwise nat_eq b (replicate 512 0) ≡ t → false ≡ t) [
            | true ↦ λ t. sym e ∙ (ap is_zeros ((bytes_eq-Decides b (replicate 512 0)).0 t) ∙ zeros_are 512)
            | false ↦ λ t. refl
          ] refl
    ] refl

pub zeros_equal : (m : MemBytes) (b : List ℕ) → m.zeros ≡ true → length b ≡ 512 → is_zeros b ≡ bytes_eq b (bytes_of m)
unfolding bytes_of
zeros_equal m b z n = rw z (zeros_has b n ∙ ap (bytes_eq b) zeros_copies)

pub some_has : (r : Option (List ℕ)) (b : List ℕ) → Some b ≡ r → length b ≡ 512 → is_zeros b ≡ has (replicate 512 0) r
some_has r b e n = zeros_has b n ∙ ap (has (replicate 512 0)) e

pub blank_has : (r : Option (List ℕ)) → r ≡ Some (copies 512 0) → true ≡ has (replicate 512 0) r
blank_has r e = sym (ap (has (replicate 512 0)) (e ∙ ap Some (sym zeros_copies)) ∙ (bytes_eq-Decides (replicate 512 0) (replicate 512 0)).1 refl)

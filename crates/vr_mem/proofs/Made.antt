-- A disk as it is made.
use Rattle.std.proofs.Common.{ℕ, ◌≡◌, refl, arith, []}
use Rattle.std.specs.Prelude.{replicate}
use Rattle.vr_disk.specs.Regions.{sectors}
use Rattle.vr_mem.specs.declared.face.MemFace.{MemFace}
use Rattle.vr_mem.specs.Seen.{AreRooms, AreWaits, IsMemFace, copies, face_of, seen, zero_cell}
use Rattle.vr_mem.proofs.Places.{length_seen}

none_wait : (f : MemFace) → f.waits.notes.items ≡ [] → (face_of f).waiting ≡ []
none_wait f e = rw e refl

pub whole_made : (f : MemFace) → AreRooms f.rooms → seen f.rooms ≡ copies sectors zero_cell → f.waits.notes.items ≡ [] → AreWaits f.waits → IsMemFace f
whole_made f h e n w = record {
  count = length_seen f.rooms h;
  waiting = rw (none_wait f n) (λ k d l. absurd (omega arith));
  rooms = h;
  once = rw (none_wait f n) refl;
  waits = w;
}

pub zeros_copies : replicate {A = ℕ} 512 0 ≡ copies 512 0
unfolding copies
zeros_copies = refl

-- What sectors one after the other read as, before and after calls.
use Rattle.std.proofs.Common.{ℕ, ◌+◌, ◌*◌, ◌≤◌, ◌<◌, ◌≡◌, ◌≢◌, ◌⊎◌, inl, inr, arith, refl, ap, Option, List, [], ◌∷◌, drop, Some}
use Rattle.std.specs.List.{AllByRecursion}
use Rattle.std.proofs.lemmas.Bool.{cases_lt}
use Rattle.vr_base.specs.Bytes.{IsBytes}
use Rattle.vr_disk.specs.DiskState.{Call, Sync, Face, IsFace, Cell, after_all, reads}
use Rattle.vr_disk.proofs.Frames.{frame_all}
use Rattle.vr_disk.specs.Sectors.{writes}
use Rattle.vr_disk.proofs.Together.{Within, together_bytes, together_same, within_append, within_spares, writes_within}
use Rattle.vr_disk.proofs.Halting.{frame_halted}
use Rattle.vr_disk.specs.Stops.{halted}
use Rattle.vr_super.specs.Opens.{copy_reading}
use Rattle.vr_super.specs.Calls.{copy_calls, mend_copy}

pub copy_within : (c : ℕ) (bytes : List ℕ) → AllByRecursion (Within (20 * c) (20 * c + 20)) (copy_calls c bytes)
unfolding copy_calls Within
copy_within c bytes = within_append (20 * c) (20 * c + 20) (writes (20 * c) 20 bytes) (Sync ∷ []) (writes_within (20 * c) (20 * c + 20) 20 (20 * c) bytes (omega arith) (omega arith)) (tt, tt)

pub mend_within : (c : ℕ) (bytes : List ℕ) → AllByRecursion (Within (20 * c) (20 * c + 20)) (mend_copy c bytes)
unfolding mend_copy Within
mend_within c bytes = (
  (omega arith, omega arith),
  (
    tt,
    within_append (20 * c) (20 * c + 20) (writes (20 * c + 1) 19 (drop 512 bytes)) (Sync ∷ []) (writes_within (20 * c) (20 * c + 20) 19 (20 * c + 1) (drop 512 bytes) (omega arith) (omega arith)) (tt, tt),
  ),
)

-- a sector of another copy
outside : (c d k : ℕ) → c ≢ d → 20 * d ≤ k → k < 20 * d + 20 → (k < 20 * c) ⊎ (20 * c + 20 ≤ k)
outside c d k n a b = elim (cases_lt c d) [ inl l ↦ inr (omega arith) | inr g ↦ inl (let m : d < c = omega arith in omega arith) ]

-- another copy stays as it is
pub other_after : (cs : List Call) (f : Face) (c d : ℕ) → AllByRecursion (Within (20 * c) (20 * c + 20)) cs → c ≢ d → copy_reading (after_all f cs) d ≡ copy_reading f d
unfolding copy_reading
other_after cs f c d w n =
    together_same 20 (20 * d) f (after_all f cs) (λ k a b. ap (λ (c : Cell). c.reads) (frame_all cs f k (within_spares (20 * c) (20 * c + 20) cs k w (outside c d k n a b))))

pub other_halted : (cs : List Call) (f : Face) (c d : ℕ) (how : Option ℕ) (j : ℕ) → AllByRecursion (Within (20 * c) (20 * c + 20)) cs → f.waiting ≡ [] → c ≢ d → copy_reading (halted how j f cs) d ≡ copy_reading f d
unfolding copy_reading
other_halted cs f c d how j w r n =
    together_same 20 (20 * d) f (halted how j f cs) (λ k a b. ap (λ (c : Cell). c.reads) (frame_halted cs f k how j (within_spares (20 * c) (20 * c + 20) cs k w (outside c d k n a b)) (rw r refl)))

-- the first sector of another copy stays too
pub other_head : (cs : List Call) (f : Face) (c d : ℕ) → AllByRecursion (Within (20 * c) (20 * c + 20)) cs → c ≢ d → reads (after_all f cs) (20 * d) ≡ reads f (20 * d)
other_head cs f c d w n = ap (λ (c : Cell). c.reads) (frame_all cs f (20 * d) (within_spares (20 * c) (20 * c + 20) cs (20 * d) w (outside c d (20 * d) n (omega arith) (omega arith))))

-- a copy reads as bytes
pub copy_is_bytes : (f : Face) (c : ℕ) (b : List ℕ) → IsFace f → c < 4 → copy_reading f c ≡ Some b → IsBytes b
unfolding copy_reading
copy_is_bytes f c b h l e = together_bytes 20 (20 * c) f h (omega arith) b e

-- The greatest view of so many members.
use Rattle.std.proofs.Common.{ℕ, zero, suc, ◌+◌, ◌<◌, ◌≡◌, arith, refl, map, max, List, [], ◌∷◌, length, take, get_or, take_all, ◌≤◌}
use Rattle.std.specs.List.{fold}
use Rattle.std.proofs.lemmas.List.{map-append, take_more}
use Rattle.std.proofs.lemmas.List.Sums.{fold-append}
use Rattle.vr_world.specs.Lying.{Lying}
use Rattle.vr_world.specs.World.{Host}
use Rattle.vr_group.specs.Views.{view_of}

-- the greatest of the first members
abbrev pub top_of : ℕ → List (Host Lying) → ℕ
top_of i ms = fold max 0 (map view_of (take i ms))

pub top_none : (ms : List (Host Lying)) → top_of 0 ms ≡ 0
top_none ms = refl

-- a member at each place
pub member_at : (ms : List (Host Lying)) (i : ℕ) → i < length ms → (m : Host Lying) × (m ≡ get_or ms i m)
member_at [] i h = absurd (omega (arith, h))
member_at (m ∷ ms) zero h = (m, refl)
member_at (m ∷ ms) (suc i) h = member_at ms i (omega (arith, h))

pub top_more : (ms : List (Host Lying)) (i : ℕ) (m : Host Lying) → i < length ms → m ≡ get_or ms i m → top_of (i + 1) ms ≡ max (top_of i ms) (view_of m)
top_more ms i m h is =
    rw (take_more ms i m h, map-append view_of (take i ms) (get_or ms i m ∷ []), ← is) (fold-append max 0 (map view_of (take i ms)) (view_of m ∷ []))

pub top_all : (ms : List (Host Lying)) (i : ℕ) → length ms ≤ i → top_of i ms ≡ fold max 0 (map view_of ms)
top_all ms i h = rw (take_all i ms h) refl

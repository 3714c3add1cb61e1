-- What tests tell.
use Rattle.std.proofs.Common.{◌≡◌, ℕ, ◌≤◌, Bool, true, false, refl, not}
use Rattle.std.specs.Prelude.{◌&&◌, nat_le}
use Rattle.std.proofs.lemmas.Bool.{leb-true, le-leb}
use Rattle.vr_header.specs.Spelling.{is_size}

pub both : (a b : Bool) → (a && b) ≡ true → (a ≡ true) × (b ≡ true)
both true b e = (refl, e)
both false b e = absurd cc

pub not_false : (t : Bool) → not t ≡ false → t ≡ true
not_false true e = refl
not_false false e = absurd cc

pub size_of : (n : ℕ) → is_size n ≡ true → (128 ≤ n) × (n ≤ 20480)
size_of n e = let b = both (nat_le 128 n) (nat_le n 20480) e in (leb-true 128 n b.0, leb-true n 20480 b.1)

pub is_size_of : (n : ℕ) → (128 ≤ n) × (n ≤ 20480) → is_size n ≡ true
is_size_of n l = rw (le-leb 128 n l.0, le-leb n 20480 l.1) refl

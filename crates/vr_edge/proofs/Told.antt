-- Laws of what is told, for one call after another: std's, under names that an attribute can cite.
use Rattle.std.specs.Prelude.{◌≡◌, ℕ, List, [], ◌++◌, Option, Some, None, IfSome, Bool, true, false, if◌then◌else◌, refl}
use Rattle.std.specs.Io.KnownBytes.{Appends, Consumes, Keeps, IsAtEnd}
use Rattle.std.proofs.KnownBytes.{Appends-nil, Appends-trans, Appends-kept, Consumes-nil, Consumes-trans, Consumes-kept, Consumes-whole}
use Rattle.vr_edge.specs.Told.{Grows}

pub appends_nil : (a : Option (List ℕ)) → Appends a a []
appends_nil = Appends-nil

pub appends_trans : (a b c : Option (List ℕ)) (xs ys : List ℕ) → Appends a b xs → Appends b c ys → Appends a c (xs ++ ys)
appends_trans = Appends-trans

pub appends_kept : (a b c : Option (List ℕ)) (xs : List ℕ) → Appends a b xs → Keeps b c → Appends a c xs
appends_kept = Appends-kept

pub consumes_nil : (a : Option (List ℕ)) → Consumes a a []
consumes_nil = Consumes-nil

pub consumes_trans : (a b c : Option (List ℕ)) (xs ys : List ℕ) → Consumes a b xs → Consumes b c ys → Consumes a c (xs ++ ys)
consumes_trans = Consumes-trans

pub consumes_kept : (a b c : Option (List ℕ)) (xs : List ℕ) → Consumes a b xs → Keeps b c → Consumes a c xs
consumes_kept = Consumes-kept

pub consumes_whole : (a b : Option (List ℕ)) (xs : List ℕ) (P : List ℕ → Type 0) → Consumes a b xs → IsAtEnd b → P xs → IfSome a P
consumes_whole = Consumes-whole

-- a list that is told up to an end
pub grows_if : {X : Type 0} (ended ends : Bool) (xs ys more : List X) → (ended ≡ true → ends ≡ true)
    → (ended ≡ false → ys ≡ xs ++ more) → Grows (if ended then None else Some xs) (if ends then None else Some ys) more
grows_if true true xs ys more stays grown = refl
grows_if true false xs ys more stays grown = absurd (let clash : false ≡ true = stays refl in cc)
grows_if false true xs ys more stays grown = tt
grows_if false false xs ys more stays grown = grown refl

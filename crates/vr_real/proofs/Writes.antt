-- What a writer holds once writes failed that wrote nothing.
use Rattle.std.proofs.Common.{ℕ, List, Option, Some, None, Result, Ok, Err, take, IsErr}
use Rattle.std.proofs.KnownBytes.{Keeps-trans}
use Rattle.std.specs.Io.KnownBytes.{Appends, Keeps, WriteAppends}

-- a failed write more changes nothing
pub kept_more : {E : Type 0} (a b c : Option (List ℕ)) (r : Result ℕ E) (bytes : List ℕ) → Keeps a b → WriteAppends b c r bytes → IsErr r → Keeps a c
kept_more a b c (Ok n) bytes k w e = absurd cc
kept_more a b c (Err f) bytes k w e = Keeps-trans a b c k w

appended_after : (a b c : Option (List ℕ)) (bytes : List ℕ) → Keeps a b → Appends b c bytes → Appends a c bytes
appended_after None b c bytes k w = tt
appended_after (Some x) None c bytes k w = absurd k
appended_after (Some x) (Some y) None bytes k w = absurd w
appended_after (Some x) (Some y) (Some z) bytes k w = rw (← k) w

-- and what a write appends after it is all that is appended
pub written_after : {E : Type 0} (a b c : Option (List ℕ)) (r : Result ℕ E) (bytes : List ℕ) → Keeps a b → WriteAppends b c r bytes → WriteAppends a c r bytes
written_after a b c (Ok n) bytes k w = appended_after a b c (take n bytes) k w
written_after a b c (Err f) bytes k w = Keeps-trans a b c k w

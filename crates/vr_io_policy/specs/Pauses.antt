-- When a call that failed is made again.
use Rattle.std.specs.Prelude.{ℕ, Bool, true, false, List, [], ◌∷◌, ◌++◌, replicate, if◌then◌else◌}
use Rattle.std.specs.declared.io.ErrorKind.{ErrorKind}
use Rattle.std.specs.declared.io.ErrorKind.TheVariants.{Interrupted, WouldBlock}
use Rattle.vr_io_policy.specs.declared.again.Again.{Again}

-- the milliseconds before each further call, the next one first
abbrev pub pauses : Again → List ℕ
pauses a = (if a.at_once then 0 ∷ [] else []) ++ replicate a.times a.millis

-- it may go well when it is made again
abbrev pub passes : ErrorKind → Bool
passes Interrupted = true
passes WouldBlock = true
passes _ = false

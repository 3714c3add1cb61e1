-- What a link in memory tells of its receives, one after another.
use Rattle.std.specs.Prelude.{◌≡◌, ◌+◌, ◌-◌, ◌^◌, ℕ, List, [], ◌∷◌, ◌++◌, false, min, nat_le, refl, take, length}
use Rattle.std.proofs.Common.{arith, suc}
use Rattle.std.proofs.lemmas.Grind.{common_steps}
use Rattle.vr_edge.proofs.Told.{grows_if}
use Rattle.vr_edge.specs.Receiving.{arrival_at, arrivals_before, received_told}
use Rattle.vr_edge.specs.Told.{Grows}
use Rattle.vr_edge.specs.declared.script.LinkScript.{LinkScript}

-- as many as there are and as the room takes
pub take_most : (bytes : List ℕ) (room : ℕ) → take (min (length bytes) room) bytes ≡ take room bytes
take_most bytes room = grind (arith, common_steps)

one_more_arrival : (script : LinkScript) (calls : ℕ) → nat_le (2 ^ 64 - 1) calls ≡ false
    → arrivals_before script (min (calls + 1) (2 ^ 64 - 1)) ≡ arrivals_before script calls ++ arrival_at script calls ∷ []
unfolding arrivals_before
one_more_arrival script calls below =
    let e : min (calls + 1) (2 ^ 64 - 1) ≡ suc calls = grind (arith, below) in rw e refl

pub received_more : (script : LinkScript) (calls : ℕ)
    → Grows (received_told script calls) (received_told script (min (calls + 1) (2 ^ 64 - 1))) (arrival_at script calls ∷ [])
unfolding received_told
received_more script calls =
    grows_if (nat_le (2 ^ 64 - 1) calls) (nat_le (2 ^ 64 - 1) (min (calls + 1) (2 ^ 64 - 1))) _ _ _ (λ end. grind (arith, end)) (λ below. one_more_arrival script calls below)

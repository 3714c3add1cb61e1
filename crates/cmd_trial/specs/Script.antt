-- The steps of a trial.
use Rattle.std.specs.Prelude.{ℕ, ◌+◌, ◌<◌, ◌^◌, ◌≡◌, ◌↔◌, ⊤, List, [], ◌∷◌, ◌++◌, map, take}
use Rattle.vr_header.specs.declared.operation.Operation.TheVariants as operation
use Rattle.cmd_trial.specs.Told.{operation_of}
use Rattle.cmd_trial.specs.declared.step.Question.{Question}
use Rattle.cmd_trial.specs.declared.step.Question.TheVariants.{Register, Put, Get}
use Rattle.cmd_trial.specs.declared.step.Step.{Step}
use Rattle.cmd_trial.specs.declared.step.Step.TheVariants.{Start, Restart, Attach, Ask, Stop}

-- the numbers of the most members that a group has
abbrev pub members : List ℕ
members = 0 ∷ 1 ∷ 2 ∷ 3 ∷ 4 ∷ 5 ∷ []

-- the numbers of the keys
abbrev pub keys : List ℕ
keys = 1 ∷ 2 ∷ 3 ∷ 4 ∷ 5 ∷ 6 ∷ 7 ∷ 8 ∷ []

-- what is done while the members run
abbrev pub middle : List Step
middle =
    Attach ∷ Ask Register ∷ map (λ key. Ask (Put key)) keys
    ++ (Stop 0 ∷ Restart 0 ∷ map (λ key. Ask (Get key)) keys)

-- the steps of a trial of a group of so many
abbrev pub script : ℕ → List Step
script n = take n (map Start members) ++ (middle ++ take n (map Stop members))

-- the number of the request that asks a question
abbrev pub number_of : Question → ℕ
number_of Register = 0
number_of (Put key) = key
number_of (Get key) = 8 + key

-- Where a step asks, its request has this number; the first one, and it alone, begins a session.
abbrev pub IsNext : ℕ → Step → Type 0
IsNext number (Ask question) =
    (number_of question ≡ number) × (number < 2 ^ 32) × ((operation_of question ≡ operation.Register) ↔ (number ≡ 0))
IsNext number _ = ⊤

-- the number of the request after it
abbrev pub number_after : ℕ → Step → ℕ
number_after number (Ask question) = number + 1
number_after number _ = number

-- the same of steps one after another
abbrev pub AreNext : ℕ → List Step → Type 0
AreNext number [] = ⊤
AreNext number (step ∷ steps) = IsNext number step × AreNext (number_after number step) steps

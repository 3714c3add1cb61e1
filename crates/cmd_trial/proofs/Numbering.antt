-- The numbers of the requests that a trial asks.
use Rattle.std.proofs.Common.{◌≡◌, ◌+◌, ◌<◌, ◌^◌, ℕ, zero, suc, List, [], ◌∷◌, ◌++◌, map, take, refl, subst, arith}
use Rattle.cmd_trial.specs.Script.{AreNext, IsNext, members, middle, script}
use Rattle.cmd_trial.specs.declared.step.Question.TheVariants.{Register, Put, Get}
use Rattle.cmd_trial.specs.declared.step.Step.{Step}
use Rattle.cmd_trial.specs.declared.step.Step.TheVariants.{Start, Restart, Ask, Stop}

register_next : IsNext 0 (Ask Register)
register_next = (refl, omega arith, (λ e. refl, λ e. refl))

put_next : (number : ℕ) → 0 < number → number < 2 ^ 32 → IsNext number (Ask (Put number))
put_next number some small = (refl, small, (λ e. absurd (cc e), λ e. absurd (omega (arith, some, e))))

get_next : (key number : ℕ) → 8 + key ≡ number → number < 2 ^ 32 → IsNext number (Ask (Get key))
get_next key number is small = (is, small, (λ e. absurd (cc e), λ e. absurd (omega (arith, is, e))))

-- so many numbers from one on
abbrev from : ℕ → ℕ → List ℕ
from k zero = []
from k (suc count) = k ∷ from (k + 1) count

puts_next : (count k : ℕ) (rest : List Step) → 0 < k → k + count < 2 ^ 32 → AreNext (k + count) rest
    → AreNext k (map (λ key. Ask (Put key)) (from k count) ++ rest)
puts_next zero k rest some small h = subst (λ n. AreNext n rest) (omega arith) h
puts_next (suc count) k rest some small h =
    let same : k + suc count ≡ k + 1 + count = omega arith in
    (put_next k some (omega (arith, small)), puts_next count (k + 1) rest (omega arith) (omega (arith, small, same)) (subst (λ n. AreNext n rest) same h))

gets_next : (count k number : ℕ) (rest : List Step) → 8 + k ≡ number → number + count < 2 ^ 32 → AreNext (number + count) rest
    → AreNext number (map (λ key. Ask (Get key)) (from k count) ++ rest)
gets_next zero k number rest is small h = subst (λ n. AreNext n rest) (omega arith) h
gets_next (suc count) k number rest is small h =
    let same : number + suc count ≡ number + 1 + count = omega arith in
    (get_next k number is (omega (arith, small)), gets_next count (k + 1) (number + 1) rest (omega (arith, is)) (omega (arith, small, same)) (subst (λ n. AreNext n rest) same h))

-- the client registers, puts eight values and gets them
middle_next : (rest : List Step) → AreNext 17 rest → AreNext 0 (middle ++ rest)
middle_next rest h =
    let gets : AreNext 9 (map (λ key. Ask (Get key)) (from 1 8) ++ rest) = gets_next 8 1 9 rest refl (omega arith) h in
    let puts : AreNext 1 (map (λ key. Ask (Put key)) (from 1 8) ++ (Stop 0 ∷ Restart 0 ∷ map (λ key. Ask (Get key)) (from 1 8) ++ rest)) =
    puts_next 8 1 (Stop 0 ∷ Restart 0 ∷ map (λ key. Ask (Get key)) (from 1 8) ++ rest) (omega arith) (omega arith) (tt, (tt, gets)) in
    (tt, (register_next, puts))

-- starts and stops ask nothing
starts_next : (ms : List ℕ) (k number : ℕ) (rest : List Step) → AreNext number rest → AreNext number (take k (map Start ms) ++ rest)
starts_next [] zero number rest h = h
starts_next [] (suc k) number rest h = h
starts_next (m ∷ ms) zero number rest h = h
starts_next (m ∷ ms) (suc k) number rest h = (tt, starts_next ms k number rest h)

stops_next : (ms : List ℕ) (k number : ℕ) → AreNext number (take k (map Stop ms))
stops_next [] zero number = tt
stops_next [] (suc k) number = tt
stops_next (m ∷ ms) zero number = tt
stops_next (m ∷ ms) (suc k) number = (tt, stops_next ms k number)

-- the requests of a trial are numbered from 0 on, and the first one begins a session
pub script_next : (n : ℕ) → AreNext 0 (script n)
script_next n = starts_next members n 0 (middle ++ take n (map Stop members)) (middle_next (take n (map Stop members)) (stops_next members n 17))

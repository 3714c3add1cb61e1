-- A front's sectors, and zeros after them, written one after the other.
use Rattle.std.proofs.Common.{ℕ, zero, suc, ◌*◌, ◌+◌, ◌-◌, ◌<◌, ◌≤◌, ◌≡◌, arith, refl, sym, ap, ◌∙◌, List, [], ◌∷◌, ◌++◌, length, take, drop, length-drop}
use Rattle.std.specs.Prelude.{min, replicate}
use Rattle.std.proofs.lemmas.List.{drop-append-le, length-replicate, replicate-append-replicate, take-append-le}
use Rattle.vr_base.specs.Bytes.{piece}
use Rattle.vr_disk.specs.DiskState.{Write}
use Rattle.vr_disk.specs.Sectors.{writes}
use Rattle.vr_disk.proofs.SectorSteps.{writes_split}
use Rattle.vr_rings.specs.Slots.{in_front}
use Rattle.vr_rings.proofs.Fronts.{past_front}

writes_more : (i n : ℕ) (b : List ℕ) → writes i (suc n) b ≡ Write i (take 512 b) ∷ writes (i + 1) n (drop 512 b)
unfolding writes piece
writes_more i n b = refl

writes_none : (i : ℕ) (b : List ℕ) → writes i 0 b ≡ []
unfolding writes
writes_none i b = refl

-- what stands after so many sectors doesn't matter to them
writes_front : (n i : ℕ) (a c : List ℕ) → 512 * n ≤ length a → writes i n (a ++ c) ≡ writes i n a
writes_front zero i a c l = writes_none i (a ++ c) ∙ sym (writes_none i a)
writes_front (suc n) i a c l =
    let here : take 512 (a ++ c) ≡ take 512 a = take-append-le 512 a c (omega (arith, l)) in
    let rest : drop 512 (a ++ c) ≡ drop 512 a ++ c = drop-append-le 512 a c (omega (arith, l)) in
    let d = length-drop 512 a in
    let more : writes (i + 1) n (drop 512 (a ++ c)) ≡ writes (i + 1) n (drop 512 a) = ap (writes (i + 1) n) rest ∙ writes_front n (i + 1) (drop 512 a) c (omega (arith, l, d)) in
    writes_more i n (a ++ c) ∙ (ap (λ x. Write i x ∷ writes (i + 1) n (drop 512 (a ++ c))) here ∙ (ap (λ cs. Write i (take 512 a) ∷ cs) more ∙ sym (writes_more i n a)))

zeros_written : (i m n : ℕ) → 512 * m ≤ n → writes i m (replicate n 0) ≡ writes i m (replicate (512 * m) 0)
zeros_written i m n l =
    let all : replicate {A = ℕ} (512 * m) 0 ++ replicate {A = ℕ} (n - 512 * m) 0 ≡ replicate {A = ℕ} n 0 = replicate-append-replicate (512 * m) (n - 512 * m) 0 ∙ ap (λ k. replicate {A = ℕ} k 0) (omega (arith, l)) in
    let z = length-replicate {A = ℕ} (512 * m) 0 in
    ap (writes i m) (sym all) ∙ writes_front m i (replicate (512 * m) 0) (replicate (n - 512 * m) 0) (omega (arith, z))

behind : (i m given filled : ℕ) (b : List ℕ) → length b ≡ 512 * filled → given + m ≤ 8 → (0 < m → given ≡ filled) → writes i m (drop (512 * given) (in_front b)) ≡ writes i m (replicate (512 * m) 0)
behind i zero given filled b n l s = writes_none i (drop (512 * given) (in_front b)) ∙ sym (writes_none i (replicate (512 * 0) 0))
behind i (suc m) given filled b n l s =
    let same = s (omega arith) in
    ap (writes i (suc m)) (past_front (512 * given) b (omega (arith, n, same))) ∙ zeros_written i (suc m) (4096 - 512 * given) (omega (arith, l))

pub front_written : (at count given filled : ℕ) (b : List ℕ) → length b ≡ 512 * filled → count ≤ 8 → given ≡ min filled count
    → writes at count (in_front b) ≡ writes at given b ++ writes (at + given) (count - given) (replicate (512 * (count - given)) 0)
unfolding in_front
front_written at count given filled b n l e =
    let zs : List ℕ = replicate (4096 - length b) 0 in
    let m = count - given in
    let all : count ≡ given + m = omega (arith, e) in
    let front : writes at given (b ++ zs) ≡ writes at given b = writes_front given at b zs (omega (arith, n, e)) in
    let rest : writes (at + given) m (drop (512 * given) (b ++ zs)) ≡ writes (at + given) m (replicate (512 * m) 0) = behind (at + given) m given filled b n (omega (arith, e, l)) (λ some. omega (arith, e, some)) in
    ap (λ k. writes at k (b ++ zs)) all
    ∙ (writes_split given m at (b ++ zs)
    ∙ (ap (λ cs. cs ++ writes (at + given) m (drop (512 * given) (b ++ zs))) front ∙ ap (λ cs. writes at given b ++ cs) rest))

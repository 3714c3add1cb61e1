-- Bytes that are zeros from a place on.
use Rattle.std.proofs.Common.{ℕ, ◌≡◌, ◌≤◌, ◌+◌, ◌-◌, arith, refl, sym, ap, ◌∙◌, List, [], ◌++◌, length, take, drop, length-append, length-drop}
use Rattle.std.specs.Prelude.{replicate}
use Rattle.std.proofs.lemmas.List.{drop-drop, drop-replicate, drop_all, drop_at, length-replicate, replicate-append-replicate}
use Rattle.vr_disk.specs.Buffers.{IsUsed}

-- from a later place on too
later : (size u m : ℕ) (b : List ℕ) → u ≤ m → drop u b ≡ replicate (size - u) 0 → drop m b ≡ replicate (size - m) 0
later size u m b l z =
    let there : drop (m - u) (drop u b) ≡ drop m b = drop-drop (m - u) u b ∙ ap (λ n. drop n b) (omega (arith, l)) in
    sym there ∙ (ap (drop (m - u)) z ∙ (drop-replicate (m - u) (size - u) 0 ∙ ap (λ n. replicate n 0) (omega (arith, l))))

-- after the first bytes, of which the others are cut off
pub cut_rest : (u n : ℕ) (b : List ℕ) → n ≤ length b → drop u b ≡ replicate (length b - u) 0 → drop (u - n) (drop n b) ≡ replicate (length (drop n b) - (u - n)) 0
cut_rest u n b l z =
    let d = length-drop n b in
    drop-drop (u - n) n b ∙ (later (length b) u (n + (u - n)) b (omega arith) z ∙ ap (λ k. replicate k 0) (omega (arith, d, l)))

pub cleared : (u : ℕ) (b : List ℕ) → u ≤ length b → drop u b ≡ replicate (length b - u) 0 → replicate u 0 ++ drop u b ≡ replicate (length b) 0
cleared u b l z = ap (λ x. replicate u 0 ++ x) z ∙ (replicate-append-replicate u (length b - u) 0 ∙ ap (λ n. replicate n 0) (omega (arith, l)))

-- ---- what a buffer keeps

pub used_new : (old new : List ℕ) (n : ℕ) → old ≡ [] → n ≡ 0 → new ≡ take 4096 old ++ replicate (4096 - n) 0 → IsUsed 0 new
used_new old new n e z r =
    let zeros : new ≡ replicate 4096 0 = r ∙ (ap (λ x. take 4096 x ++ replicate (4096 - n) 0) e ∙ ap (λ k. replicate {A = ℕ} (4096 - k) 0) z) in
    record { size = ap length zeros ∙ length-replicate {A = ℕ} 4096 0; most = omega arith; rest = zeros }

pub used_all : (b : List ℕ) → length b ≡ 4096 → IsUsed 4096 b
used_all b n = record { size = n; most = omega arith; rest = drop_all 4096 b (omega (arith, n)) }

pub used_front : (b new : List ℕ) → length b ≤ 4096 → new ≡ b ++ replicate (4096 - length b) 0 → IsUsed (length b) new
used_front b new l e =
    let zs : List ℕ = replicate (4096 - length b) 0 in
    let a = length-append b zs in
    let z : length zs ≡ 4096 - length b = length-replicate {A = ℕ} (4096 - length b) 0 in
    let size : length (b ++ zs) ≡ 4096 = omega (arith, a, z, l) in
    record { size = ap length e ∙ size; most = l; rest = ap (drop (length b)) e ∙ drop_at b zs (length b) refl }

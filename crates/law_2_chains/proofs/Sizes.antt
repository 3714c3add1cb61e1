-- The quorums of each size fit.
use Rattle.std.proofs.Common.{ℕ, zero, suc, ◌+◌, ◌≤◌, ◌<◌, ◌≡◌, ◌∙◌, ◌⊎◌, inl, inr, arith, refl, sym, ap, List}
use Rattle.std.specs.Option.{option_map_or}
use Rattle.std.proofs.lemmas.Bool.{cases_eq, cases_lt, ne_eqb}
use Rattle.vr_base.specs.Groups.{quorums_of}
use Rattle.vr_rules.specs.Replica.{replication}
use Rattle.law_2_chains.specs.Chains.{Setup}
use Rattle.law_2_chains.specs.Tables.{Fits}

abbrev setup : (n r k : ℕ) → (List ℕ → List ℕ) → ℕ → r + k ≡ n + 1 → 0 < r → Setup
setup n r k hash cluster overlap some = record { quorums = record { n = n; replication = r; nack = k; overlap = overlap; not_empty = some }; hash = hash; cluster = cluster }

abbrev Sized : (List ℕ → List ℕ) → ℕ → ℕ → Type 0
Sized hash cluster n = (u : Setup) × Fits u × (u.quorums.n ≡ n) × (u.hash ≡ hash) × (u.cluster ≡ cluster)

sized : (n r k : ℕ) (hash : List ℕ → List ℕ) (cluster : ℕ) → r + k ≡ n + 1 → 0 < r → replication n ≡ r → option_map_or (λ q. q.nack) (quorums_of n) 0 ≡ k → Sized hash cluster n
sized n r k hash cluster overlap some a b = (setup n r k hash cluster overlap some, record { replication_is = a; nack_is = b }, refl, refl, refl)

pub sizes_fit : (hash : List ℕ → List ℕ) (cluster n : ℕ) → 1 ≤ n → n ≤ 6 → Sized hash cluster n
sizes_fit hash cluster zero a b = absurd (omega arith)
sizes_fit hash cluster (suc zero) a b = sized 1 1 1 hash cluster refl (omega arith) refl refl
sizes_fit hash cluster (suc (suc zero)) a b = sized 2 2 1 hash cluster refl (omega arith) refl refl
sizes_fit hash cluster (suc (suc (suc zero))) a b = sized 3 2 2 hash cluster refl (omega arith) refl refl
sizes_fit hash cluster (suc (suc (suc (suc zero)))) a b = sized 4 2 3 hash cluster refl (omega arith) refl refl
sizes_fit hash cluster (suc (suc (suc (suc (suc zero))))) a b = sized 5 3 3 hash cluster refl (omega arith) refl refl
sizes_fit hash cluster (suc (suc (suc (suc (suc (suc zero)))))) a b = sized 6 3 4 hash cluster refl (omega arith) refl refl
sizes_fit hash cluster (suc (suc (suc (suc (suc (suc (suc n))))))) a b = absurd (omega arith)

-- beyond the table there is none
no_quorum : (n : ℕ) → 6 < n → replication n ≡ 0
no_quorum n l = rw (ne_eqb n 1 (λ e. omega (arith, e, l)), ne_eqb n 2 (λ e. omega (arith, e, l)), ne_eqb n 3 (λ e. omega (arith, e, l)), ne_eqb n 4 (λ e. omega (arith, e, l)), ne_eqb n 5 (λ e. omega (arith, e, l)), ne_eqb n 6 (λ e. omega (arith, e, l))) refl

-- where no quorum is empty, one of several replicas isn't one
two_of : (n : ℕ) → 2 ≤ n → 0 < replication n → 2 ≤ replication n
two_of zero a some = absurd (omega arith)
two_of (suc zero) a some = absurd (omega arith)
two_of (suc (suc zero)) a some = omega arith
two_of (suc (suc (suc zero))) a some = omega arith
two_of (suc (suc (suc (suc zero)))) a some = omega arith
two_of (suc (suc (suc (suc (suc zero))))) a some = omega arith
two_of (suc (suc (suc (suc (suc (suc zero)))))) a some = omega arith
two_of (suc (suc (suc (suc (suc (suc (suc n))))))) a some =
    let none = no_quorum (suc (suc (suc (suc (suc (suc (suc n))))))) (omega arith) in
    absurd (omega arith)

pub several_by : (u : Setup) → Fits u → 2 ≤ u.quorums.n → 2 ≤ u.quorums.replication
several_by u fits several =
    let is = fits.replication_is in
    let some = u.quorums.not_empty in
    let two = two_of u.quorums.n several (omega arith) in
    omega arith

-- a group is of one or of several
pub alone_or_several : (u : Setup) → Fits u → (u.quorums.n ≡ 1) ⊎ (2 ≤ u.quorums.n)
alone_or_several u fits =
    let some = u.quorums.not_empty in
    elim (cases_lt u.quorums.n 2) [
      | inr several ↦ inr several
      | inl few ↦ elim (cases_eq u.quorums.n 0) [
        | inl none ↦ let is : u.quorums.replication ≡ 0 = sym fits.replication_is ∙ ap replication none in absurd (omega arith)
        | inr more ↦ inl (omega (arith, more))
      ]
    ]

-- What is known after a call.
use Rattle.std.proofs.Common.{arith, refl, ◌≡◌, ◌∙◌, ◌+◌, ◌<◌, ℕ, zero, suc, true, false, get_or, set, max, inl, inr, replicate}
use Rattle.std.proofs.lemmas.Bool.{cond_both}
use Rattle.std.proofs.lemmas.Bool.Decides.{eqb_tells}
use Rattle.std.proofs.lemmas.List.{get_or-set_same, get_or-set_other}
use Rattle.vr_disk.specs.declared.sector.Sector.{Sector}
use Rattle.vr_io_policy.specs.declared.cached.Cached.{Cached}
use Rattle.vr_io_policy.specs.declared.cached.Cached.TheVariants.{Unknown, Held}
use Rattle.vr_io_policy.specs.Caches.{Cache, IsBlank, IsCache, cached, is_clean, is_held, learnt, new_cache, put}

abbrev with_sector : Cache → ℕ → Cached → Cache
with_sector c i found = record { sectors = set c.sectors i found; first = c.first; end = c.end; tried = c.tried; forgotten = c.forgotten }

set_same : (c : Cache) (i : ℕ) (found : Cached) → IsCache c → i < 3984 → get_or (set c.sectors i found) i Unknown ≡ found
set_same c i found is l = get_or-set_same c.sectors i found Unknown (let n = is.size in omega arith)

pub put_held : (c : Cache) (i : ℕ) (s : Sector) → IsCache c → i < 3984 → cached (put c i s) i ≡ Held s
put_held c i s is l =
    cond_both (is_clean c) (record { sectors = set c.sectors i (Held s); first = i; end = i + 1; tried = false; forgotten = c.forgotten }) (record { sectors = set c.sectors i (Held s); first = c.first; end = max c.end (i + 1); tried = c.tried; forgotten = c.forgotten })
    (λ p. cached p i ≡ Held s) (λ t. set_same c i (Held s) is l) (λ n. set_same c i (Held s) is l)

pub learnt_held : (c : Cache) (i : ℕ) (s : Sector) → IsCache c → i < 3984 → (is_held (cached c i) ≡ true → cached c i ≡ Held s) → cached (learnt c i (Held s)) i ≡ Held s
learnt_held c i s is l h = cond_both (is_held (cached c i)) c (with_sector c i (Held s)) (λ p. cached p i ≡ Held s) (λ t. h t) (λ n. set_same c i (Held s) is l)

pub learnt_keeps : (c : Cache) (i : ℕ) (found : Cached) (k : ℕ) → is_held (cached c k) ≡ true → cached (learnt c i found) k ≡ cached c k
learnt_keeps c i found k h = cond_both (is_held (cached c i)) c (with_sector c i found) (λ p. cached p k ≡ cached c k) (λ t. refl)
    (λ n. elim (eqb_tells k i) [
      | inl p ↦ absurd (let e : is_held (cached c i) ≡ true = rw (← p.1) h in cc)
      | inr p ↦ get_or-set_other c.sectors i k found Unknown p.1
    ])

-- what is known stays so after one call, and the next
pub kept_then : (a b c : Cache) → ((k : ℕ) → is_held (cached a k) ≡ true → cached b k ≡ cached a k) → ((k : ℕ) → is_held (cached b k) ≡ true → cached c k ≡ cached b k)
    → (k : ℕ) → is_held (cached a k) ≡ true → cached c k ≡ cached a k
kept_then a b c h g k t = g k (rw (h k t) t) ∙ h k t

-- ---- nothing is known

all_unknown : (n j : ℕ) → get_or (replicate n Unknown) j Unknown ≡ Unknown
all_unknown zero j = refl
all_unknown (suc n) zero = refl
all_unknown (suc n) (suc j) = all_unknown n j

pub new_blank : IsBlank new_cache
new_blank = record { clean = refl; each = λ i. all_unknown 3984 i }

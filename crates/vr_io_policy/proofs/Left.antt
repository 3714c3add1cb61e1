-- Each call that a cache asks for leaves fewer of them.
use Rattle.std.specs.List.{count_by}
use Rattle.std.proofs.Common.{arith, refl, sym, ◌≡◌, ◌∙◌, ◌+◌, ◌<◌, ℕ, Bool, true, false, cond, List, get_or, set, length}
use Rattle.std.proofs.lemmas.Bool.{eq-eqb}
use Rattle.std.proofs.lemmas.List.Sums.{sum_by-set}
use Rattle.vr_io_policy.specs.declared.cached.Cached.{Cached}
use Rattle.vr_io_policy.specs.declared.cached.Cached.TheVariants.{Unknown, Unread, Held}
use Rattle.vr_io_policy.specs.Caches.{Cache, IsCache, cached, calls_left, flushed, is_clean, is_held, is_unknown, learnt, not_alone}

one_fewer : (xs : List Cached) (i : ℕ) (found : Cached) → i < length xs → is_unknown (get_or xs i Unknown) ≡ true → is_unknown found ≡ false
    → count_by is_unknown (set xs i found) + 1 ≡ count_by is_unknown xs
one_fewer xs i found l u n =
    let e : count_by is_unknown (set xs i found) + cond (is_unknown (get_or xs i Unknown)) 1 0 ≡ count_by is_unknown xs + cond (is_unknown found) 1 0 =
    sum_by-set (λ y. cond (is_unknown y) 1 0) xs i found Unknown l in
    let f : count_by is_unknown (set xs i found) + 1 ≡ count_by is_unknown xs + 0 = rw (u, n) at e in
    omega (arith, f)

not_held : (k : Cached) → is_unknown k ≡ true → is_held k ≡ false
not_held Unknown u = refl
not_held Unread u = refl
not_held (Held s) u = absurd cc

-- a sector was read, or it was tried
pub fewer_read : (c : Cache) (i : ℕ) (found : Cached) → IsCache c → i < 3984 → is_unknown (cached c i) ≡ true → is_unknown found ≡ false → calls_left (learnt c i found) < calls_left c
fewer_read c i found is l u n =
    let size = is.size in
    let one = one_fewer c.sectors i found (omega (arith, size, l)) u n in
    rw (not_held (cached c i) u) (omega (arith, one))

-- what waited was written
pub fewer_written : (c : Cache) → is_clean c ≡ false → calls_left (flushed c) < calls_left c
fewer_written c n = rw (eq-eqb c.end c.end refl, n) (elim c.tried as (λ b. count_by is_unknown c.sectors + 0 < count_by is_unknown c.sectors + cond b 1 2) [
  | true ↦ omega arith
  | false ↦ omega arith
])

-- those that wait couldn't be written alone
pub fewer_alone : (c : Cache) → is_clean c ≡ false → c.tried ≡ false → calls_left (not_alone c) < calls_left c
fewer_alone c n u = rw (n, u) (omega arith)

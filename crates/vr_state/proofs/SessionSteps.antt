-- What a stored request makes of the sessions, step by step of the code, and what it changes by look-ups.
use Rattle.std.proofs.Common.{◌≡◌, ◌≢◌, ℕ, ◌+◌, ◌<◌, ◌≤◌, inl, inr, [], ◌∷◌, length, Option, Some, None, Bool, true, false, not, is_some, eqb, ltb, cond, refl, sym, ◌∙◌, ap, subst, arith}
use Rattle.std.specs.List.{AllByRecursion}
use Rattle.std.specs.Option.{option_map_or}
use Rattle.std.specs.Ordering.{is_eq, nat_cmp, eq_by_cmp}
use Rattle.std.specs.declared.cmp.Ordering.TheVariants.{Less, Equal, Greater}
use Rattle.std.specs.Cmp.{nat_cmp_total, unsigned_ties, alike_right}
use Rattle.std.specs.FinMap.{nat_cmp-IsAntisymmetric}
use Rattle.std.specs.FinMap.Entries.{by_order, where_key, is_sorted-put, is_sorted-where_key, find-put, find-where_key, length-put, length_without, same_entries, find, put}
use Rattle.std.proofs.lemmas.Bool.{lt-ltb, le-ltb, eq-eqb, ne_eqb, cond_both, true≢false, eqb-true, ltb-true, ltb-false}
use Rattle.vr_base.specs.Versions.{session_limit}
use Rattle.vr_base.proofs.Versions.{between}
use Rattle.vr_state.specs.Finite.{without, IsMap}
use Rattle.vr_state.proofs.Maps.{T_true, true_T}
use Rattle.vr_state.specs.declared.session.Session.{Session}
use Rattle.vr_state.specs.Effects.{stored, Keeps, Effect}
use Rattle.vr_state.specs.Sessions.{Map, Asked, oldest, without_oldest, applied, Fits, IsSessions, IsOldest}
use Rattle.vr_state.proofs.Eldest.{oldest_found, find_among}

-- a version leaves at least one session, and none leaves more than version 2
pub limit_of : (v : ℕ) → (1 ≤ session_limit v) × (session_limit v ≤ session_limit 2)
limit_of v = let l = between v 32 64 (omega arith) in (omega (arith, l), l.1)

own : (key : ℕ) → eq_by_cmp nat_cmp key key ≡ true
own key = sym (unsigned_ties key key) ∙ eq-eqb key key refl

other : (q key : ℕ) → q ≢ key → eq_by_cmp nat_cmp q key ≡ false
other q key n = sym (unsigned_ties q key) ∙ ne_eqb q key n

pub find_put_own : (m : Map) (key : ℕ) (s : Session) → find nat_cmp key (put nat_cmp key s m) ≡ Some s
find_put_own m key s = find-put nat_cmp nat_cmp_total key key s m ∙ ap (λ b. cond b (Some s) (find nat_cmp key m)) (own key)

pub find_put_other : (m : Map) (key : ℕ) (s : Session) (q : ℕ) → q ≢ key → find nat_cmp q (put nat_cmp key s m) ≡ find nat_cmp q m
find_put_other m key s q n = find-put nat_cmp nat_cmp_total q key s m ∙ ap (λ b. cond b (Some s) (find nat_cmp q m)) (other q key n)

find-without : (m : Map) (key q : ℕ) → find nat_cmp q (without nat_cmp key m) ≡ cond (not (eq_by_cmp nat_cmp key q)) (find nat_cmp q m) None
find-without m key q = find-where_key nat_cmp (λ x. not (eq_by_cmp nat_cmp key x)) q (λ x same. ap (λ o. not (is_eq o)) (sym (alike_right nat_cmp_total q x key same))) m

pub find_without_own : (m : Map) (key : ℕ) → find nat_cmp key (without nat_cmp key m) ≡ None
find_without_own m key = find-without m key key ∙ ap (λ b. cond (not b) (find nat_cmp key m) None) (own key)

pub find_without_other : (m : Map) (key q : ℕ) → q ≢ key → find nat_cmp q (without nat_cmp key m) ≡ find nat_cmp q m
find_without_other m key q n = find-without m key q ∙ ap (λ b. cond (not b) (find nat_cmp q m) None) (other key q (λ e. n (sym e)))

pub IsMap-put : (m : Map) (key : ℕ) (s : Session) → IsMap nat_cmp m → IsMap nat_cmp (put nat_cmp key s m)
IsMap-put m key s h = true_T _ (is_sorted-put nat_cmp nat_cmp_total key s m (T_true _ h))

pub IsMap-without : (m : Map) (key : ℕ) → IsMap nat_cmp m → IsMap nat_cmp (without nat_cmp key m)
IsMap-without m key h = true_T _ (is_sorted-where_key nat_cmp _ m (T_true _ h))

-- to put one client's and take another's out is one in either order
pub put_without : (m : Map) (key : ℕ) (s : Session) (gone : ℕ) → IsMap nat_cmp m → gone ≢ key → without nat_cmp gone (put nat_cmp key s m) ≡ put nat_cmp key s (without nat_cmp gone m)
put_without m key s gone h apart =
    same_entries nat_cmp nat_cmp_total nat_cmp-IsAntisymmetric (without nat_cmp gone (put nat_cmp key s m)) (put nat_cmp key s (without nat_cmp gone m))
    (T_true _ (IsMap-without (put nat_cmp key s m) gone (IsMap-put m key s h))) (T_true _ (IsMap-put (without nat_cmp gone m) key s (IsMap-without m gone h)))
    (λ q. find-without (put nat_cmp key s m) gone q
    ∙ (ap (λ o. cond (not (eq_by_cmp nat_cmp gone q)) o None) (find-put nat_cmp nat_cmp_total q key s m)
    ∙ (swapped q ∙ sym (find-put nat_cmp nat_cmp_total q key s (without nat_cmp gone m) ∙ ap (λ o. cond (eq_by_cmp nat_cmp q key) (Some s) o) (find-without m gone q)))))
  where
    swapped : (q : ℕ) → cond (not (eq_by_cmp nat_cmp gone q)) (cond (eq_by_cmp nat_cmp q key) (Some s) (find nat_cmp q m)) None
        ≡ cond (eq_by_cmp nat_cmp q key) (Some s) (cond (not (eq_by_cmp nat_cmp gone q)) (find nat_cmp q m) None)
    swapped q =
        let by : (b : Bool) → eqb q key ≡ b → cond (not (eq_by_cmp nat_cmp gone q)) (cond b (Some s) (find nat_cmp q m)) None ≡ cond b (Some s) (cond (not (eq_by_cmp nat_cmp gone q)) (find nat_cmp q m) None) = elim [
          | true ↦ λ e. ap (λ b. cond (not b) (Some s) None) (other gone q (λ f. apart (f ∙ eqb-true q key e)))
          | false ↦ λ e. refl
        ] in
        subst (λ b. cond (not (eq_by_cmp nat_cmp gone q)) (cond b (Some s) (find nat_cmp q m)) None ≡ cond b (Some s) (cond (not (eq_by_cmp nat_cmp gone q)) (find nat_cmp q m) None)) (unsigned_ties q key) (by (eqb q key) refl)

fit_put : (key : ℕ) (s : Session) (m : Map) → AllByRecursion Fits m → Fits (key, s) → AllByRecursion Fits (put nat_cmp key s m)
fit_put key s [] h f = (f, tt)
fit_put key s (e ∷ es) h f =
    elim (nat_cmp key e.0) as (λ o. AllByRecursion Fits (by_order o ((key, s) ∷ e ∷ es) ((e.0, s) ∷ es) (e ∷ put nat_cmp key s es))) [
      | Less ↦ (f, h)
      | Equal ↦ let same : Fits (e.0, s) = record { client = h.0.client; number = f.number; op = f.op; outcome = f.outcome } in (same, h.1)
      | Greater ↦ (h.0, fit_put key s es h.1 f)
    ]

fit_where : (p : ℕ → Bool) (m : Map) → AllByRecursion Fits m → AllByRecursion Fits (where_key nat_cmp p m)
fit_where p [] h = tt
fit_where p (e ∷ es) h = cond_both (p e.0) (e ∷ where_key nat_cmp p es) (where_key nat_cmp p es) (AllByRecursion Fits) (λ t. (h.0, fit_where p es h.1)) (λ f. fit_where p es h.1)

pub length_put : (m : Map) (key : ℕ) (s : Session) → IsMap nat_cmp m → length (put nat_cmp key s m) ≡ cond (is_some (find nat_cmp key m)) (length m) (length m + 1)
length_put m key s h = length-put nat_cmp nat_cmp_total key s m (T_true _ h)

-- a client more where there is room, or one that is there
IsSessions-put : (m : Map) (key : ℕ) (s : Session) → IsSessions m → Fits (key, s) → cond (is_some (find nat_cmp key m)) (length m) (length m + 1) ≤ session_limit 2 → IsSessions (put nat_cmp key s m)
IsSessions-put m key s held f room = record { is_map = IsMap-put m key s held.is_map; fit = fit_put key s m held.fit f; few = rw (length_put m key s held.is_map) room }

module _ (m : Map) (a : Asked) (held : IsSessions m) (f : Fits (a.client, stored a)) where
  module _ (room : length m < session_limit a.version) where
    pub room_applied : put nat_cmp a.client (stored a) m ≡ applied m a
    unfolding applied
    room_applied = sym (ap (λ b. cond b (put nat_cmp a.client (stored a) m) (cond (is_some (find nat_cmp a.client m)) (put nat_cmp a.client (stored a) m) (put nat_cmp a.client (stored a) (without_oldest m)))) (lt-ltb (length m) (session_limit a.version) room))

    pub room_held : IsSessions (put nat_cmp a.client (stored a) m)
    room_held = IsSessions-put m a.client (stored a) held f (cond_both (is_some (find nat_cmp a.client m)) (length m) (length m + 1) (λ n. n ≤ session_limit 2) (λ t. omega (arith, held.few)) (λ t. omega (arith, limit_of a.version)))

  module _ (full : session_limit a.version ≤ length m) where
    module _ (there : is_some (find nat_cmp a.client m) ≡ true) where
      pub there_applied : put nat_cmp a.client (stored a) m ≡ applied m a
      unfolding applied
      there_applied = rw (le-ltb (length m) (session_limit a.version) full, there) refl

      pub there_held : IsSessions (put nat_cmp a.client (stored a) m)
      there_held = IsSessions-put m a.client (stored a) held f (rw there held.few)

    module _ (absent : is_some (find nat_cmp a.client m) ≡ false) (gone op : ℕ) (found : oldest m ≡ Some (gone, op)) where
      is_oldest : IsOldest m gone
      is_oldest =
          let o = oldest_found m (omega (arith, full, limit_of a.version)) in
          let same : o.client ≡ gone = ap (λ (x : Option (ℕ × ℕ)). option_map_or (λ (p : ℕ × ℕ). p.0) x gone) (sym o.found ∙ found) in
          subst (IsOldest m) same o.is

      gone_there : find nat_cmp gone m ≡ Some is_oldest.session
      gone_there = ap (find nat_cmp gone) is_oldest.among ∙ (find_among is_oldest.before (gone, is_oldest.session) is_oldest.after (subst (IsMap nat_cmp) is_oldest.among held.is_map))

      pub apart : gone ≢ a.client
      apart same = true≢false (sym (ap is_some (ap (λ c. find nat_cmp c m) (sym same) ∙ gone_there)) ∙ absent)

      pub evicted_applied : without nat_cmp gone (put nat_cmp a.client (stored a) m) ≡ applied m a
      unfolding applied without_oldest
      evicted_applied = put_without m a.client (stored a) gone held.is_map apart ∙ sym (rw (le-ltb (length m) (session_limit a.version) full, absent, found) refl)

      pub evicted_held : IsSessions (without nat_cmp gone (put nat_cmp a.client (stored a) m))
      evicted_held =
          let one_less = length_without nat_cmp nat_cmp_total gone m (T_true _ held.is_map) in
          let there : is_some (find nat_cmp gone m) ≡ true = ap is_some gone_there in
          let shorter : 1 + length (without nat_cmp gone m) ≡ length m = sym (ap (λ b. cond b 1 0 + length (without nat_cmp gone m)) there) ∙ one_less in
          let left : IsSessions (without nat_cmp gone m) = record { is_map = IsMap-without m gone held.is_map; fit = fit_where _ m held.fit; few = omega (arith, held.few) } in
          rw (put_without m a.client (stored a) gone held.is_map apart)
          (IsSessions-put (without nat_cmp gone m) a.client (stored a) left f (cond_both (is_some (find nat_cmp a.client (without nat_cmp gone m))) (length (without nat_cmp gone m)) (length (without nat_cmp gone m) + 1) (λ n. n ≤ session_limit 2) (λ t. omega (arith, held.few)) (λ t. omega (arith, held.few))))

      pub evicted_effect : Effect m (without nat_cmp gone (put nat_cmp a.client (stored a) m)) a
      evicted_effect = inr (record {
        full = full;
        absent = none (find nat_cmp a.client m) absent;
        evicted = gone;
        oldest = is_oldest;
        gone = find_without_own (put nat_cmp a.client (stored a) m) gone;
        own = find_without_other (put nat_cmp a.client (stored a) m) gone a.client (λ e. apart (sym e)) ∙ find_put_own m a.client (stored a);
        others = λ q n k. find_without_other (put nat_cmp a.client (stored a) m) gone q k ∙ find_put_other m a.client (stored a) q n;
      })
        where
          none : (o : Option Session) → is_some o ≡ false → o ≡ None
          none None e = refl
          none (Some s) e = absurd (true≢false e)

-- there is an oldest where as many are there as a version leaves
pub full_has_oldest : (v : ℕ) (m : Map) → session_limit v ≤ length m → oldest m ≡ None → ⊥
full_has_oldest v m full none =
    let o = oldest_found m (omega (arith, full, limit_of v)) in
    true≢false (sym (ap is_some (sym none ∙ o.found)))

keeps : (m : Map) (a : Asked) → Keeps m (put nat_cmp a.client (stored a) m) a
keeps m a = record { own = find_put_own m a.client (stored a); others = λ q n. find_put_other m a.client (stored a) q n }

-- what is applied has its effect
pub applied_effect : (m : Map) (a : Asked) → IsSessions m → Fits (a.client, stored a) → Effect m (applied m a) a
applied_effect m a held f =
    let by : (room there : Bool) → ltb (length m) (session_limit a.version) ≡ room → is_some (find nat_cmp a.client m) ≡ there → Effect m (applied m a) a = elim [
      | true ↦ λ there r t. subst (λ n. Effect m n a) (room_applied m a held f (ltb-true (length m) (session_limit a.version) r)) (inl (keeps m a))
      | false ↦ elim [
        | true ↦ λ r t. subst (λ n. Effect m n a) (there_applied m a held f (ltb-false (length m) (session_limit a.version) r) t) (inl (keeps m a))
        | false ↦ λ r t.
            let o = oldest_found m (omega (arith, ltb-false (length m) (session_limit a.version) r, limit_of a.version)) in
            subst (λ n. Effect m n a) (evicted_applied m a held f (ltb-false (length m) (session_limit a.version) r) t o.client o.op o.found) (evicted_effect m a held f (ltb-false (length m) (session_limit a.version) r) t o.client o.op o.found)
      ]
    ] in
    by (ltb (length m) (session_limit a.version)) (is_some (find nat_cmp a.client m)) refl refl

-- A fuse, from call to call.
use Rattle.std.proofs.Common.{ℕ, zero, suc, ◌≤◌, ◌<◌, ◌≡◌, ◌⊎◌, inl, inr, arith, refl, sym, ap, ◌∙◌, true, false, cond, List, [], ◌∷◌, length, Option, Some, None, subst}
use Rattle.vr_disk.specs.DiskState.{Call, Disk, Fate, Fuse, Goes, Fails, Ran, cut, cut_at, by_list, is_to_fail, ran, runs}
use Rattle.vr_disk.specs.Stops.{GoesOff, FuseLeavesCut, ArmedFuseGoesOff}
use Rattle.vr_disk.proofs.Running.{ran_ok}

by_list_cases : (t : Fate) → (by_list t ≡ Goes) ⊎ (by_list t ≡ Fails)
by_list_cases t = elim (is_to_fail t) as (λ b. (cond b Fails Goes ≡ Goes) ⊎ (cond b Fails Goes ≡ Fails)) [ true ↦ inr refl | false ↦ inl refl ]

-- the fuse that is left after a call that isn't cut
abbrev Ticks : Option Fuse → Option Fuse → Type 0
Ticks None left = left ≡ None
Ticks (Some u) left = (k : ℕ) × (u.calls ≡ suc k) × (left ≡ Some (record { calls = k; code = u.code }))

record Went (d : Disk) (r : Ran) : Type 0 where
  ok : r.ok ≡ true
  alive : r.disk.fate.dead ≡ false
  failing : r.disk.fate.failing ≡ d.fate.failing
  ticks : Ticks d.fate.fuse r.disk.fate.fuse

record Failed (r : Ran) : Type 0 where
  ok : r.ok ≡ false
  alive : r.disk.fate.dead ≡ false

record Cut (d : Disk) (c : Call) (r : Ran) : Type 0 where
  code : ℕ
  fuse : d.fate.fuse ≡ Some (record { calls = 0; code = code })
  ok : r.ok ≡ false
  dead : r.disk.fate.dead ≡ true
  face : r.disk.face ≡ cut_at code d.face c

one_unarmed : (d : Disk) (c : Call) → d.fate.dead ≡ false → d.fate.fuse ≡ None → Went d (ran d c) ⊎ Failed (ran d c)
unfolding ran
one_unarmed d c a n =
    elim (by_list_cases d.fate) [
      | inl g ↦ inl (rw (a, n, g) (record { ok = refl; alive = refl; failing = refl; ticks = refl }))
      | inr g ↦ inr (rw (a, n, g) (record { ok = refl; alive = refl }))
    ]

one_armed : (d : Disk) (c : Call) (u : Fuse) (k : ℕ) → d.fate.dead ≡ false → d.fate.fuse ≡ Some u → u.calls ≡ suc k → Went d (ran d c) ⊎ Failed (ran d c)
unfolding ran
one_armed d c u k a e n =
    elim (by_list_cases d.fate) [
      | inl g ↦ inl (rw (a, e, n, g) (record { ok = refl; alive = refl; failing = refl; ticks = (k, refl, refl) }))
      | inr g ↦ inr (rw (a, e, n, g) (record { ok = refl; alive = refl }))
    ]

one_cut : (d : Disk) (c : Call) (u : Fuse) → d.fate.dead ≡ false → d.fate.fuse ≡ Some u → u.calls ≡ 0 → Cut d c (ran d c)
unfolding ran
one_cut d c u a e n =
    record { code = u.code; fuse = e ∙ ap (λ (n : ℕ). let v : Fuse = record { calls = n; code = u.code } in Some v) n; ok = rw (a, e, n) refl; dead = rw (a, e, n) refl; face = rw (a, e, n) refl }

data One (d : Disk) (c : Call) : Type 0 where
  went : Went d (ran d c) → One d c
  failed : Failed (ran d c) → One d c
  was_cut : Cut d c (ran d c) → One d c

goes_or_fails : (d : Disk) (c : Call) → Went d (ran d c) ⊎ Failed (ran d c) → One d c
goes_or_fails d c (inl w) = went w
goes_or_fails d c (inr f) = failed f

one : (d : Disk) (c : Call) → d.fate.dead ≡ false → One d c
one d c a =
    elim d.fate.fuse as (λ o. d.fate.fuse ≡ o → One d c) [
      | None ↦ λ e. goes_or_fails d c (one_unarmed d c a e)
      | Some u ↦ λ e. elim u.calls as (λ n. u.calls ≡ n → One d c) [
        | zero ↦ λ n. was_cut (one_cut d c u a e n)
        | suc k ↦ λ n. goes_or_fails d c (one_armed d c u k a e n)
      ] refl
    ] refl

-- the fuse before a call, by the one after it
ticked : (o left : Option Fuse) (v : Fuse) → Ticks o left → left ≡ Some v → o ≡ Some (record { calls = suc v.calls; code = v.code })
ticked None left v t e = cc
ticked (Some u) left v t e =
    let w : Fuse = record { calls = t.0; code = u.code } in
    let s : Some w ≡ Some v = sym t.2 ∙ e in
    let p : w ≡ v = cc in
    subst (λ (v : Fuse). Some u ≡ Some (record { calls = suc v.calls; code = v.code })) p (ap (λ (n : ℕ). let x : Fuse = record { calls = n; code = u.code } in Some x) t.1)

abbrev Left : List Call → Disk → Type 0
Left cs d = (fuse : Fuse) × (d.fate.fuse ≡ Some fuse) × GoesOff cs d fuse

left_later : (c : Call) (cs : List Call) (d : Disk) → Went d (ran d c) → Left cs (ran d c).disk → Left (c ∷ cs) d
unfolding cut
left_later c cs d w l =
    let u = l.0 in
    let g = l.2 in (
      record { calls = suc u.calls; code = u.code },
      ticked d.fate.fuse (ran d c).disk.fate.fuse u w.ticks l.1,
      record {
        within = let n = g.within in omega arith;
        stopped = rw w.ok g.stopped;
        left = rw w.ok (g.left ∙ ap (λ f. cut u.calls u.code f cs) (ran_ok d c w.ok));
      },
    )

left_now : (c : Call) (cs : List Call) (d : Disk) → Cut d c (ran d c) → Left (c ∷ cs) d
unfolding cut
left_now c cs d x =
    (record { calls = 0; code = x.code }, x.fuse, record { within = omega arith; stopped = rw x.ok refl; left = rw x.ok x.face })

pub fuse_leaves : FuseLeavesCut
fuse_leaves [] d a h = cc
fuse_leaves (c ∷ cs) d a h =
    elim (one d c a) [
      | went w ↦ left_later c cs d w (fuse_leaves cs (ran d c).disk w.alive (rw w.ok at h))
      | failed f ↦ let dead : (ran d c).disk.fate.dead ≡ true = rw f.ok at h in let alive = f.alive in cc
      | was_cut x ↦ left_now c cs d x
    ]

-- a fuse that is armed, where no call is to fail
record Armed (t : Fate) (j code : ℕ) : Type 0 where
  alive : t.dead ≡ false
  failing : t.failing ≡ []
  fuse : t.fuse ≡ Some (record { calls = j; code = code })

record CutNow (d : Disk) (c : Call) (code : ℕ) : Type 0 where
  ok : (ran d c).ok ≡ false
  dead : (ran d c).disk.fate.dead ≡ true
  face : (ran d c).disk.face ≡ cut_at code d.face c

armed_now : (d : Disk) (c : Call) (code : ℕ) → Armed d.fate 0 code → CutNow d c code
unfolding ran
armed_now d c code a = rw (a.alive, a.failing, a.fuse) (record { ok = refl; dead = refl; face = refl })

armed_later : (d : Disk) (c : Call) (j code : ℕ) → Armed d.fate (suc j) code → ((ran d c).ok ≡ true) × Armed (ran d c).disk.fate j code
unfolding ran
armed_later d c j code a = rw (a.alive, a.failing, a.fuse) (refl, record { alive = refl; failing = refl; fuse = refl })

abbrev Off : List Call → Disk → ℕ → ℕ → Type 0
Off cs d j code = (j < length cs → ((runs cs d).disk.fate.dead ≡ true) × GoesOff cs d (record { calls = j; code = code })) × (length cs ≤ j → (runs cs d).ok ≡ true)

armed_all : (cs : List Call) (d : Disk) (j code : ℕ) → Armed d.fate j code → Off cs d j code
unfolding cut
armed_all [] d j code a = (λ l. absurd (omega arith), λ l. refl)
armed_all (c ∷ cs) d zero code a =
    let x = armed_now d c code a in
    (λ l. (rw x.ok x.dead, record { within = l; stopped = rw x.ok refl; left = rw x.ok x.face }), λ l. absurd (omega arith))
armed_all (c ∷ cs) d (suc j) code a =
    let r = armed_later d c j code a in
    let rest = armed_all cs (ran d c).disk j code r.1 in (
      λ l. let h = rest.0 (omega arith) in
          (rw r.0 h.0, record { within = l; stopped = rw r.0 h.1.stopped; left = rw r.0 (h.1.left ∙ ap (λ f. cut j code f cs) (ran_ok d c r.0)) }),
      λ l. rw r.0 (rest.1 (omega arith)),
    )

pub armed_goes_off : ArmedFuseGoesOff
armed_goes_off cs d u a f e = armed_all cs d u.calls u.code (record { alive = a; failing = f; fuse = e })

-- What calls leave of a disk that tells what its slots hold.
use Rattle.std.proofs.Common.{ℕ, zero, suc, ◌-◌, ◌<◌, ◌≤◌, ◌≡◌, refl, sym, ap, ◌∙◌, arith, true, false, List, [], ◌∷◌, length, Option, Some, None}
use Rattle.std.specs.Prelude.{IfSome}
use Rattle.std.proofs.lemmas.List.{ext_get_or}
use Rattle.std.proofs.lemmas.List.FromFn.{get_or-map-range_with_len, length-map-range_with_len}
use Rattle.vr_disk.specs.DiskState.{Call, Disk, Face, Fuse, after, after_all, cut, cut_at, ran, runs}
use Rattle.vr_rings.specs.Held.{held_after, held_after_all, held_cut, held_cut_at}
use Rattle.vr_lie.specs.Faults.{held_at}
use Rattle.vr_world.specs.Lying.{Lying, after_calls, cut_calls, each_slot}
use Rattle.vr_host_disk.specs.Told.{IsTold, burnt, lying_in, next_held}
use Rattle.vr_host_disk.specs.Laws.{CutsTell, RunsTell, WasCut, Went}

-- ---- lists of slots

pub at_slot : (f : ℕ → Option (List ℕ)) (slot : ℕ) → slot < 64 → held_at (each_slot f) slot ≡ f slot
at_slot f slot l = get_or-map-range_with_len f 0 64 slot slot None l (omega arith)

pub slots_count : (f : ℕ → Option (List ℕ)) → length (each_slot f) ≡ 64
slots_count f = length-map-range_with_len f 0 64

pub rows_are : (rows : List (Option (List ℕ))) (f : ℕ → Option (List ℕ)) → length rows ≡ 64 → ((slot : ℕ) → slot < 64 → held_at rows slot ≡ f slot) → rows ≡ each_slot f
rows_are rows f n h = ext_get_or None rows (each_slot f) (n ∙ sym (slots_count f)) (λ i l. let m : i < 64 = rw n at l in h i m ∙ sym (at_slot f i m))

pub same_rows : (f g : ℕ → Option (List ℕ)) → ((slot : ℕ) → slot < 64 → f slot ≡ g slot) → each_slot f ≡ each_slot g
same_rows f g h = rows_are (each_slot f) g (slots_count f) (λ slot l. at_slot f slot l ∙ h slot l)

-- ---- calls after a call

-- what a call leaves
abbrev pub after_one : Lying → Call → Lying
after_one d c = record { face = after d.face c; held = each_slot (λ slot. held_after d.version d.face c slot (held_at d.held slot)); version = d.version }

abbrev pub with_held : ℕ → Face → List (Option (List ℕ)) → Lying
with_held v f rows = record { face = f; held = rows; version = v }

pub no_calls : (d : Lying) → length d.held ≡ 64 → d ≡ after_calls d []
unfolding held_after_all
no_calls d n = ap (with_held d.version d.face) (rows_are d.held (held_at d.held) n (λ slot l. refl))

pub calls_more : (d : Lying) (c : Call) (cs : List Call) → after_calls (after_one d c) cs ≡ after_calls d (c ∷ cs)
unfolding held_after_all
calls_more d c cs =
    let f = after d.face c in
    ap (with_held d.version (after_all f cs)) (same_rows (λ slot. held_after_all d.version f cs slot (held_at (after_one d c).held slot)) (λ slot. held_after_all d.version f cs slot (held_after d.version d.face c slot (held_at d.held slot)))
    (λ slot l. ap (held_after_all d.version f cs slot) (at_slot (λ slot. held_after d.version d.face c slot (held_at d.held slot)) slot l)))

pub cut_more : (d : Lying) (c : Call) (cs : List Call) (j code : ℕ) → cut_calls j code (after_one d c) cs ≡ cut_calls (suc j) code d (c ∷ cs)
unfolding held_cut cut
cut_more d c cs j code =
    let f = after d.face c in
    ap (with_held d.version (cut j code f cs)) (same_rows (λ slot. held_cut d.version j code f cs slot (held_at (after_one d c).held slot)) (λ slot. held_cut d.version j code f cs slot (held_after d.version d.face c slot (held_at d.held slot)))
    (λ slot l. ap (held_cut d.version j code f cs slot) (at_slot (λ slot. held_after d.version d.face c slot (held_at d.held slot)) slot l)))

-- ---- one call

record Passed (v : ℕ) (d : Disk) (c : Call) : Type 0 where
  ok : (ran d c).ok ≡ true
  lying : lying_in v (ran d c).disk ≡ after_one (lying_in v d) c
  told : IsTold v (ran d c).disk
  fuse : (ran d c).disk.fate.fuse ≡ burnt 1 d.fate.fuse
  reach : IfSome d.fate.fuse (λ u. 1 ≤ u.calls)

record Cut (v : ℕ) (d : Disk) (c : Call) : Type 0 where
  ok : (ran d c).ok ≡ false
  fuse : Fuse
  armed : d.fate.fuse ≡ Some fuse
  first : fuse.calls ≡ 0
  lying : lying_in v (ran d c).disk ≡ record { face = cut_at fuse.code d.face c; held = each_slot (λ slot. held_cut_at v fuse.code d.face c slot (held_at d.beside.rows slot)); version = v }
  spent : (ran d c).disk.fate.fuse ≡ None
  dead : (ran d c).disk.fate.dead ≡ true
  sure : (ran d c).disk.fate.failing ≡ []
  count : length (ran d c).disk.beside.rows ≡ 64
  next : (ran d c).disk.beside.next ≡ next_held v

data One (v : ℕ) (d : Disk) (c : Call) : Type 0 where
  passed : Passed v d c → One v d c
  was_cut : Cut v d c → One v d c

one_unarmed : (v : ℕ) (d : Disk) (c : Call) → IsTold v d → d.fate.fuse ≡ None → Passed v d c
unfolding ran
one_unarmed v d c t n = rw (t.alive, t.sure, n, t.next) (record { ok = refl; lying = refl; told = record { alive = refl; sure = refl; count = slots_count (λ slot. held_after v d.face c slot (held_at d.beside.rows slot)); next = refl }; fuse = refl; reach = tt })

one_armed : (v : ℕ) (d : Disk) (c : Call) (u : Fuse) (k : ℕ) → IsTold v d → d.fate.fuse ≡ Some u → u.calls ≡ suc k → Passed v d c
unfolding ran
one_armed v d c u k t e n =
    let w : Fuse = record { calls = suc k; code = u.code } in
    let same : u ≡ w = ap (λ (n : ℕ). let x : Fuse = record { calls = n; code = u.code } in x) n in
    let armed : d.fate.fuse ≡ Some w = e ∙ ap Some same in
    let less : k ≡ suc k - 1 = omega arith in
    rw (t.alive, t.sure, armed, t.next) (record {
      ok = refl;
      lying = refl;
      told = record { alive = refl; sure = refl; count = slots_count (λ slot. held_after v d.face c slot (held_at d.beside.rows slot)); next = refl };
      fuse = ap (λ (n : ℕ). let x : Fuse = record { calls = n; code = u.code } in Some x) less;
      reach = omega arith;
    })

one_cut : (v : ℕ) (d : Disk) (c : Call) (u : Fuse) → IsTold v d → d.fate.fuse ≡ Some u → u.calls ≡ 0 → Cut v d c
unfolding ran
one_cut v d c u t e n =
    let w : Fuse = record { calls = 0; code = u.code } in
    let same : u ≡ w = ap (λ (n : ℕ). let x : Fuse = record { calls = n; code = u.code } in x) n in
    let armed : d.fate.fuse ≡ Some w = e ∙ ap Some same in
    rw (t.alive, t.sure, armed, t.next) (record { ok = refl; fuse = w; armed = refl; first = refl; lying = refl; spent = refl; dead = refl; sure = refl; count = slots_count (λ slot. held_cut_at v u.code d.face c slot (held_at d.beside.rows slot)); next = refl })

one : (v : ℕ) (d : Disk) (c : Call) → IsTold v d → One v d c
one v d c t =
    elim d.fate.fuse as (λ o. d.fate.fuse ≡ o → One v d c) [
      | None ↦ λ e. passed (one_unarmed v d c t e)
      | Some u ↦ λ e. elim u.calls as (λ n. u.calls ≡ n → One v d c) [
        | zero ↦ λ n. was_cut (one_cut v d c u t e n)
        | suc k ↦ λ n. passed (one_armed v d c u k t e n)
      ] refl
    ] refl

-- ---- fuses

burnt_none : (o : Option Fuse) → o ≡ burnt 0 o
burnt_none None = refl
burnt_none (Some u) = let e : u.calls ≡ u.calls - 0 = omega arith in ap (λ (n : ℕ). let x : Fuse = record { calls = n; code = u.code } in Some x) e

reach_none : (o : Option Fuse) → IfSome o (λ u. 0 ≤ u.calls)
reach_none None = tt
reach_none (Some u) = omega arith

burnt_more : (n : ℕ) (o : Option Fuse) → burnt n (burnt 1 o) ≡ burnt (suc n) o
burnt_more n None = refl
burnt_more n (Some u) = let e : u.calls - 1 - n ≡ u.calls - suc n = omega arith in ap (λ (n : ℕ). let x : Fuse = record { calls = n; code = u.code } in Some x) e

reach_more : (n : ℕ) (o p : Option Fuse) → p ≡ burnt 1 o → IfSome o (λ u. 1 ≤ u.calls) → IfSome p (λ u. n ≤ u.calls) → IfSome o (λ u. suc n ≤ u.calls)
reach_more n None p e l m = tt
reach_more n (Some u) p e l m = let k : n ≤ u.calls - 1 = rw e at m in omega arith

-- the fuse before a call, by the one after it
unburnt : (o : Option Fuse) (v : Fuse) → burnt 1 o ≡ Some v → IfSome o (λ u. 1 ≤ u.calls) → o ≡ Some (record { calls = suc v.calls; code = v.code })
unburnt None v e l = cc
unburnt (Some u) v e l =
    let w : Fuse = record { calls = u.calls - 1; code = u.code } in
    let p : w ≡ v = cc in
    let n : u.calls ≡ suc (u.calls - 1) = omega arith in
    ap (λ (n : ℕ). let x : Fuse = record { calls = n; code = u.code } in Some x) n ∙ ap (λ (x : Fuse). let y : Fuse = record { calls = suc x.calls; code = x.code } in Some y) p

-- ---- all calls

went_none : (v : ℕ) (d : Disk) → IsTold v d → Went v [] d d
went_none v d t = record { lying = no_calls (lying_in v d) t.count; told = t; fuse = burnt_none d.fate.fuse; reach = reach_none d.fate.fuse }

went_more : (v : ℕ) (c : Call) (cs : List Call) (d e : Disk) → Passed v d c → Went v cs (ran d c).disk e → Went v (c ∷ cs) d e
went_more v c cs d e p w = record {
  lying = w.lying ∙ ap (λ x. after_calls x cs) p.lying ∙ calls_more (lying_in v d) c cs;
  told = w.told;
  fuse = w.fuse ∙ ap (burnt (length cs)) p.fuse ∙ burnt_more (length cs) d.fate.fuse;
  reach = reach_more (length cs) d.fate.fuse (ran d c).disk.fate.fuse p.fuse p.reach w.reach;
}

cut_first : (v : ℕ) (c : Call) (cs : List Call) (d : Disk) → Cut v d c → WasCut v (c ∷ cs) d (ran d c).disk
unfolding held_cut cut
cut_first v c cs d x = record {
  fuse = record { calls = 0; code = x.fuse.code };
  armed = x.armed ∙ ap (λ (n : ℕ). let u : Fuse = record { calls = n; code = x.fuse.code } in Some u) x.first;
  within = omega arith;
  lying = x.lying;
  spent = x.spent;
  dead = x.dead;
  sure = x.sure;
  count = x.count;
  next = x.next;
}

cut_later : (v : ℕ) (c : Call) (cs : List Call) (d e : Disk) → Passed v d c → WasCut v cs (ran d c).disk e → WasCut v (c ∷ cs) d e
cut_later v c cs d e p x =
    let u = x.fuse in
    let within = x.within in record {
      fuse = record { calls = suc u.calls; code = u.code };
      armed = unburnt d.fate.fuse u (sym p.fuse ∙ x.armed) p.reach;
      within = omega arith;
      lying = x.lying ∙ ap (λ y. cut_calls u.calls u.code y cs) p.lying ∙ cut_more (lying_in v d) c cs u.calls u.code;
      spent = x.spent;
      dead = x.dead;
      sure = x.sure;
      count = x.count;
      next = x.next;
    }

pub runs_went : RunsTell
runs_went v [] d t h = went_none v d t
runs_went v (c ∷ cs) d t h =
    elim (one v d c t) [
      | passed p ↦
          let ok : (runs cs (ran d c).disk).ok ≡ true = rw p.ok at h in
          rw p.ok (went_more v c cs d (runs cs (ran d c).disk).disk p (runs_went v cs (ran d c).disk p.told ok))
      | was_cut x ↦ let no : false ≡ true = rw x.ok at h in absurd cc
    ]

pub runs_cut : CutsTell
runs_cut v [] d t h = cc
runs_cut v (c ∷ cs) d t h =
    elim (one v d c t) [
      | passed p ↦
          let ok : (runs cs (ran d c).disk).ok ≡ false = rw p.ok at h in
          rw p.ok (cut_later v c cs d (runs cs (ran d c).disk).disk p (runs_cut v cs (ran d c).disk p.told ok))
      | was_cut x ↦ rw x.ok (cut_first v c cs d x)
    ]

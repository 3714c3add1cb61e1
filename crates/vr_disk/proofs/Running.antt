-- Calls after calls.
use Rattle.std.proofs.Common.{ℕ, ◌≡◌, refl, sym, ap, ◌∙◌, Bool, true, false, cond, List, [], ◌∷◌, ◌++◌, Option, Some, None, append_assoc}
use Rattle.vr_disk.specs.DiskState.{Beside, Call, Write, Sync, Disk, Face, Fate, Goes, Fails, Cuts, Ran, after, after_all, beside_after, cut_at, judged, name_beside, ran, ran_as, runs, goes_on, settle, Runs, RunsFrom, Front}

-- what comes after calls that may have stopped
pub goes_on_goes : (r : Ran) (f g : Disk → Ran) → goes_on (goes_on r f) g ≡ goes_on r (λ d. goes_on (f d) g)
goes_on_goes r f g =
    elim r.ok as (λ b. r.ok ≡ b → goes_on (cond b (f r.disk) r) g ≡ cond b (goes_on (f r.disk) g) r) [ true ↦ λ e. refl | false ↦ λ e. rw e refl ] refl

pub runs_append : (cs ds : List Call) (d : Disk) → runs (cs ++ ds) d ≡ goes_on (runs cs d) (runs ds)
runs_append [] ds d = refl
runs_append (c ∷ cs) ds d =
    let r = ran d c in
    ap (λ x. cond r.ok x r) (runs_append cs ds r.disk) ∙ sym (goes_on_goes r (runs cs) (runs ds))

pub Runs_then : (cs ds : List Call) (a b c : Option Disk) (ok : Bool) → Runs cs a b true → Runs ds b c ok → Runs (cs ++ ds) a c ok
Runs_then cs ds None b c ok h k = let k' : Runs ds None c ok = rw h at k in k'
Runs_then cs ds (Some d) b c ok h k =
    let k' : Runs ds (Some (runs cs d).disk) c ok = rw h.0 at k in
    rw (runs_append cs ds d, ← h.1) k'

pub Runs_stopped : (cs ds : List Call) (a b : Option Disk) → Runs cs a b false → Runs (cs ++ ds) a b false
Runs_stopped cs ds None b h = h
Runs_stopped cs ds (Some d) b h = rw (runs_append cs ds d, ← h.1) h

pub runs_nothing : (a : Option Disk) → Runs [] a a true
runs_nothing None = refl
runs_nothing (Some d) = (refl, refl)

-- one call
pub ran_ok : (d : Disk) (c : Call) → (ran d c).ok ≡ true → (ran d c).disk.face ≡ after d.face c
unfolding ran
ran_ok d c h =
    elim (judged d.fate).verdict as (λ v. (ran_as d.face (judged d.fate).next d.beside c v).ok ≡ true → (ran_as d.face (judged d.fate).next d.beside c v).disk.face ≡ after d.face c) [
      | Goes ↦ λ h. refl
      | Fails ↦ λ h. cc
      | Cuts code ↦ λ h. cc
    ] h

pub after_is : (cs : List Call) (d : Disk) → (runs cs d).ok ≡ true → (runs cs d).disk.face ≡ after_all d.face cs
after_is [] d h = refl
after_is (c ∷ cs) d h =
    elim (ran d c).ok as (λ b. (ran d c).ok ≡ b → (cond b (runs cs (ran d c).disk) (ran d c)).ok ≡ true → (cond b (runs cs (ran d c).disk) (ran d c)).disk.face ≡ after_all (after d.face c) cs) [
      | true ↦ λ e h. after_is cs (ran d c).disk h ∙ ap (λ f. after_all f cs) (ran_ok d c e)
      | false ↦ λ e h. cc
    ] refl h

-- calls that depend on what the disk holds, and then calls that depend on what it holds after them
pub RunsFrom_then : (cs ds : Face → List Call) (a b c : Option Disk) (ok : Bool) → RunsFrom cs a b true → RunsFrom ds b c ok → RunsFrom (λ f. cs f ++ ds (after_all f (cs f))) a c ok
RunsFrom_then cs ds None b c ok h k = let k' : RunsFrom ds None c ok = rw h at k in k'
RunsFrom_then cs ds (Some d) b c ok h k =
    let k' : RunsFrom ds (Some (runs (cs d.face) d).disk) c ok = rw h.0 at k in
    let face = after_is (cs d.face) d (sym h.1) in
    let k2 : (c ≡ Some (runs (ds (after_all d.face (cs d.face))) (runs (cs d.face) d).disk).disk) × (ok ≡ (runs (ds (after_all d.face (cs d.face))) (runs (cs d.face) d).disk).ok) = rw face at k' in
    rw (runs_append (cs d.face) (ds (after_all d.face (cs d.face))) d, ← h.1) k2

pub RunsFrom_stopped : (cs ds : Face → List Call) (a b : Option Disk) → RunsFrom cs a b false → RunsFrom (λ f. cs f ++ ds (after_all f (cs f))) a b false
RunsFrom_stopped cs ds None b h = h
RunsFrom_stopped cs ds (Some d) b h = rw (runs_append (cs d.face) (ds (after_all d.face (cs d.face))) d, ← h.1) h

-- some of the calls
pub front : (cs ds : List Call) (a b : Option Disk) → Runs cs a b true → Front (cs ++ ds) a b
front cs ds a b h = record { made = cs; left = ds; whole = refl; ran = h }

pub front_more : (cs ds : List Call) (a b : Option Disk) → Front cs a b → Front (cs ++ ds) a b
front_more cs ds a b h = record { made = h.made; left = h.left ++ ds; whole = rw h.whole (append_assoc h.made h.left ds); ran = h.ran }

pub front_then : (cs ds : List Call) (a b c : Option Disk) → Runs cs a b true → Front ds b c → Front (cs ++ ds) a c
front_then cs ds a b c h k =
    record { made = cs ++ k.made; left = k.left; whole = rw k.whole (sym (append_assoc cs k.made k.left)); ran = Runs_then cs k.made a b c true h k.ran }

pub ruleset steps = (Runs_then, Runs_stopped, front, front_more, front_then)

-- one call, by its verdict: what an implementation shows
pub call_goes : (f f' : Face) (t t' : Fate) (b : Beside) (c : Call) → Goes ≡ (judged t).verdict → t' ≡ (judged t).next → f' ≡ after f c
    → Runs (c ∷ []) (Some (record { face = f; fate = t; beside = b })) (Some (record { face = f'; fate = t'; beside = beside_after b f c Goes })) true
unfolding ran
call_goes f f' t t' b c v n a = rw (← v, n, a) (refl, refl)

pub call_fails : (f : Face) (t t' : Fate) (b : Beside) (c : Call) → Fails ≡ (judged t).verdict → t' ≡ (judged t).next
    → Runs (c ∷ []) (Some (record { face = f; fate = t; beside = b })) (Some (record { face = f; fate = t'; beside = b })) false
unfolding ran
call_fails f t t' b c v n = rw (← v, n) (refl, refl)

pub call_cuts : (f f' : Face) (t t' : Fate) (b : Beside) (c : Call) (code : ℕ) → Cuts code ≡ (judged t).verdict → t' ≡ (judged t).next → f' ≡ cut_at code f c
    → Runs (c ∷ []) (Some (record { face = f; fate = t; beside = b })) (Some (record { face = f'; fate = t'; beside = beside_after b f c (Cuts code) })) false
unfolding ran
call_cuts f f' t t' b c code v n a = rw (← v, n, a) (refl, refl)

-- the same of a disk that keeps its name alone beside its sectors
pub one_goes : (f f' : Face) (t t' : Fate) (name : Option (List ℕ)) (c : Call) → Goes ≡ (judged t).verdict → t' ≡ (judged t).next → f' ≡ after f c
    → Runs (c ∷ []) (Some (record { face = f; fate = t; beside = name_beside name })) (Some (record { face = f'; fate = t'; beside = name_beside name })) true
one_goes f f' t t' name c v n a = call_goes f f' t t' (name_beside name) c v n a

pub one_fails : (f : Face) (t t' : Fate) (name : Option (List ℕ)) (c : Call) → Fails ≡ (judged t).verdict → t' ≡ (judged t).next
    → Runs (c ∷ []) (Some (record { face = f; fate = t; beside = name_beside name })) (Some (record { face = f; fate = t'; beside = name_beside name })) false
one_fails f t t' name c v n = call_fails f t t' (name_beside name) c v n

pub one_cuts : (f f' : Face) (t t' : Fate) (name : Option (List ℕ)) (c : Call) (code : ℕ) → Cuts code ≡ (judged t).verdict → t' ≡ (judged t).next → f' ≡ cut_at code f c
    → Runs (c ∷ []) (Some (record { face = f; fate = t; beside = name_beside name })) (Some (record { face = f'; fate = t'; beside = name_beside name })) false
one_cuts f f' t t' name c code v n a = call_cuts f f' t t' (name_beside name) c code v n a

pub write_cuts : (f g f' : Face) (t t' : Fate) (name : Option (List ℕ)) (i : ℕ) (bytes : List ℕ) (code : ℕ) → Cuts code ≡ (judged t).verdict → t' ≡ (judged t).next → g ≡ after f (Write i bytes) → f' ≡ settle code g
    → Runs (Write i bytes ∷ []) (Some (record { face = f; fate = t; beside = name_beside name })) (Some (record { face = f'; fate = t'; beside = name_beside name })) false
write_cuts f g f' t t' name i bytes code v n a b = one_cuts f f' t t' name (Write i bytes) code v n (b ∙ ap (settle code) a)

pub sync_cuts : (f f' : Face) (t t' : Fate) (name : Option (List ℕ)) (code : ℕ) → Cuts code ≡ (judged t).verdict → t' ≡ (judged t).next → f' ≡ settle code f
    → Runs (Sync ∷ []) (Some (record { face = f; fate = t; beside = name_beside name })) (Some (record { face = f'; fate = t'; beside = name_beside name })) false
sync_cuts f f' t t' name code v n b = one_cuts f f' t t' name Sync code v n b

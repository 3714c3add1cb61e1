-- What calls that stop leave, and cuts of lists of calls.
use Rattle.std.proofs.Common.{ℕ, zero, suc, ◌-◌, ◌≡◌, ◌⊎◌, inl, inr, arith, refl, sym, ◌∙◌, true, false, cond, List, [], ◌∷◌, length, Some, subst}
use Rattle.vr_disk.specs.DiskState.{Call, Face, Disk, Goes, Fails, Cuts, after, cut, cut_at, judged, ran, ran_as, runs, attach_fails, attached, attached_as}
use Rattle.vr_disk.specs.Stops.{Stops, StopsLeaveFront, CutsOfBoth, NothingWaits, AttachingIsBarrier, NameStays}
use Rattle.vr_disk.proofs.Running.{ran_ok}

ran_not : (d : Disk) (c : Call) → (ran d c).ok ≡ false → ((ran d c).disk.face ≡ d.face) ⊎ ((code : ℕ) × ((ran d c).disk.face ≡ cut_at code d.face c))
unfolding ran
ran_not d c h =
    elim (judged d.fate).verdict as (λ v. (ran_as d.face (judged d.fate).next d.beside c v).ok ≡ false → ((ran_as d.face (judged d.fate).next d.beside c v).disk.face ≡ d.face) ⊎ ((code : ℕ) × ((ran_as d.face (judged d.fate).next d.beside c v).disk.face ≡ cut_at code d.face c))) [
      | Goes ↦ λ h. cc
      | Fails ↦ λ h. inl refl
      | Cuts code ↦ λ h. inr (code, refl)
    ] h

stops_now : (c : Call) (cs : List Call) (f g : Face) → (g ≡ f) ⊎ ((code : ℕ) × (g ≡ cut_at code f c)) → Stops (c ∷ cs) f g
unfolding cut
stops_now c cs f g (inl e) = record { calls = 0; within = omega arith; left = inl e }
stops_now c cs f g (inr p) = record { calls = 0; within = omega arith; left = inr p }

stops_later : (c : Call) (cs : List Call) (f g : Face) → Stops cs (after f c) g → Stops (c ∷ cs) f g
unfolding cut
stops_later c cs f g s = record { calls = suc s.calls; within = let w = s.within in omega arith; left = s.left }

pub stops_are : StopsLeaveFront
stops_are [] d h = cc
stops_are (c ∷ cs) d h =
    elim (ran d c).ok as (λ b. (ran d c).ok ≡ b → (cond b (runs cs (ran d c).disk) (ran d c)).ok ≡ false → Stops (c ∷ cs) d.face (cond b (runs cs (ran d c).disk) (ran d c)).disk.face) [
      | true ↦ λ e h.
          let end = (runs cs (ran d c).disk).disk.face in
          stops_later c cs d.face end (subst (λ f. Stops cs f end) (ran_ok d c e) (stops_are cs (ran d c).disk h))
      | false ↦ λ e h. stops_now c cs d.face (ran d c).disk.face (ran_not d c e)
    ] refl h

pub cuts_both : CutsOfBoth
unfolding cut
cuts_both [] ds f j code = record { first = λ l. absurd (omega arith); later = λ l. let e : j - 0 ≡ j = omega arith in rw e refl }
cuts_both (c ∷ cs) ds f zero code = record { first = λ l. refl; later = λ l. absurd (omega arith) }
cuts_both (c ∷ cs) ds f (suc j) code =
    let rest = cuts_both cs ds (after f c) j code in
    let e : suc j - length (c ∷ cs) ≡ j - length cs = omega arith in
    record { first = λ l. rest.first (omega arith); later = λ l. rw e (rest.later (omega arith)) }

pub nothing_left : NothingWaits
unfolding cut
nothing_left [] f j code l = absurd (omega arith)
nothing_left (c ∷ cs) f zero code l = refl
nothing_left (c ∷ cs) f (suc j) code l = nothing_left cs (after f c) j code (omega arith)

attached_rests : (name : List ℕ) (d : Disk) → (attached name d).ok ≡ true → (attached name d).disk.face.waiting ≡ []
unfolding attached
attached_rests name d h =
    elim (attach_fails name d) as (λ b. (attached_as name d b).ok ≡ true → (attached_as name d b).disk.face.waiting ≡ []) [ true ↦ λ h. cc | false ↦ λ h. refl ] h

pub barrier : AttachingIsBarrier
barrier name d new h = rw h.0 (attached_rests name d (sym h.1))

-- ---- the name

ran_named : (d : Disk) (c : Call) → (ran d c).disk.beside.name ≡ d.beside.name
unfolding ran
ran_named d c =
    elim (judged d.fate).verdict as (λ v. (ran_as d.face (judged d.fate).next d.beside c v).disk.beside.name ≡ d.beside.name) [ Goes ↦ refl | Fails ↦ refl | Cuts code ↦ refl ]

runs_named : (cs : List Call) (d : Disk) → (runs cs d).disk.beside.name ≡ d.beside.name
runs_named [] d = refl
runs_named (c ∷ cs) d =
    elim (ran d c).ok as (λ b. (cond b (runs cs (ran d c).disk) (ran d c)).disk.beside.name ≡ d.beside.name) [
      | true ↦ runs_named cs (ran d c).disk ∙ ran_named d c
      | false ↦ ran_named d c
    ]

attached_named : (name : List ℕ) (d : Disk) → (attached name d).ok ≡ true → (attached name d).disk.beside.name ≡ Some name
unfolding attached
attached_named name d h =
    elim (attach_fails name d) as (λ b. (attached_as name d b).ok ≡ true → (attached_as name d b).disk.beside.name ≡ Some name) [ true ↦ λ h. cc | false ↦ λ h. refl ] h

pub name_stays : NameStays
name_stays name d new cs h =
    let e = (attached name d).disk in
    let named = attached_named name d (sym h.1) in
    rw h.0 (named, runs_named cs e ∙ named)

-- What calls do to a disk doesn't depend on what is kept beside its sectors.
use Rattle.std.proofs.Common.{◌≡◌, refl, sym, ◌∙◌, Bool, true, false, cond, List, [], ◌∷◌, Some, subst}
use Rattle.vr_disk.specs.DiskState.{Beside, Call, CallVerdict, Cuts, Disk, Face, Fails, Fate, Goes, Ran, Runs, judged, ran, ran_as, runs}

-- alike but for what is beside the sectors
pub record AreAlike (x y : Disk) : Type 0 where
  pub face : x.face ≡ y.face
  pub fate : x.fate ≡ y.fate

record RanAlike (x y : Ran) : Type 0 where
  disks : AreAlike x.disk y.disk
  ok : x.ok ≡ y.ok

alike_as : (f : Face) (t : Fate) (b b' : Beside) (c : Call) (v : CallVerdict) → RanAlike (ran_as f t b c v) (ran_as f t b' c v)
alike_as f t b b' c Goes = record { disks = record { face = refl; fate = refl }; ok = refl }
alike_as f t b b' c Fails = record { disks = record { face = refl; fate = refl }; ok = refl }
alike_as f t b b' c (Cuts code) = record { disks = record { face = refl; fate = refl }; ok = refl }

alike_one : (d e : Disk) (c : Call) → AreAlike d e → RanAlike (ran d c) (ran e c)
unfolding ran
alike_one d e c h =
    let t = subst (λ (t : Fate). RanAlike (ran_as d.face (judged d.fate).next d.beside c (judged d.fate).verdict) (ran_as d.face (judged t).next e.beside c (judged t).verdict)) h.fate
    (alike_as d.face (judged d.fate).next d.beside e.beside c (judged d.fate).verdict) in
    subst (λ (f : Face). RanAlike (ran_as d.face (judged d.fate).next d.beside c (judged d.fate).verdict) (ran_as f (judged e.fate).next e.beside c (judged e.fate).verdict)) h.face t

either : (a b : Bool) (p q r s : Ran) → a ≡ b → RanAlike p q → RanAlike r s → RanAlike (cond a p r) (cond b q s)
either true true p q r s e h k = h
either false false p q r s e h k = k
either true false p q r s e h k = absurd cc
either false true p q r s e h k = absurd cc

all_alike : (cs : List Call) (d e : Disk) → AreAlike d e → RanAlike (runs cs d) (runs cs e)
all_alike [] d e h = record { disks = h; ok = refl }
all_alike (c ∷ cs) d e h =
    let one = alike_one d e c h in
    either (ran d c).ok (ran e c).ok _ _ _ _ one.ok (all_alike cs (ran d c).disk (ran e c).disk one.disks) one

-- the same calls, on a disk that is alike
pub record RunsAlike (cs : List Call) (d e x : Disk) (ok : Bool) : Type 0 where
  pub left : Disk
  pub ran : Runs cs (Some x) (Some left) ok
  pub alike : AreAlike e left

pub runs_alike : (cs : List Call) (d e x : Disk) (ok : Bool) → AreAlike d x → Runs cs (Some d) (Some e) ok → RunsAlike cs d e x ok
runs_alike cs d e x ok h r =
    let a = all_alike cs d x h in
    let same : e ≡ (runs cs d).disk = let y = r.0 in cc in record {
      left = (runs cs x).disk;
      ran = (refl, r.1 ∙ a.ok);
      alike = subst (λ (e : Disk). AreAlike e (runs cs x).disk) (sym same) a.disks;
    }

-- Calls that are cut.
use Rattle.std.proofs.Common.{ℕ, ◌≡◌, refl, Bool, false, List, [], ◌∷◌, Option, Some}
use Rattle.vr_disk.specs.DiskState.{Cuts, Disk, Face, Fate, Runs, Sync, Write, after, judged, name_beside, settle}
use Rattle.vr_disk.proofs.Running.{sync_cuts, write_cuts}

pub write_cut : (f : Face) (t : Fate) (name : Option (List ℕ)) (a b d e : Disk) (i : ℕ) (bytes : List ℕ) (code : ℕ) (ok : Bool) → Cuts code ≡ (judged t).verdict
    → a ≡ record { face = f; fate = (judged t).next; beside = name_beside name }
    → b ≡ record { face = after a.face (Write i bytes); fate = a.fate; beside = a.beside }
    → d ≡ record { face = settle code b.face; fate = b.fate; beside = b.beside }
    → e ≡ d → ok ≡ false → Runs (Write i bytes ∷ []) (Some (record { face = f; fate = t; beside = name_beside name })) (Some e) ok
write_cut f t name a b d e i bytes code ok v x y z s o =
    rw (o, s, z, y, x) (write_cuts f (after f (Write i bytes)) (settle code (after f (Write i bytes))) t (judged t).next name i bytes code v refl refl refl)

pub sync_cut : (f : Face) (t : Fate) (name : Option (List ℕ)) (a d e : Disk) (code : ℕ) (ok : Bool) → Cuts code ≡ (judged t).verdict
    → a ≡ record { face = f; fate = (judged t).next; beside = name_beside name }
    → d ≡ record { face = settle code a.face; fate = a.fate; beside = a.beside }
    → e ≡ d → ok ≡ false → Runs (Sync ∷ []) (Some (record { face = f; fate = t; beside = name_beside name })) (Some e) ok
sync_cut f t name a d e code ok v x z s o = rw (o, s, z, x) (sync_cuts f (settle code f) t (judged t).next name code v refl refl)

-- A copy by its text: the first sector, and the others.
use Rattle.std.proofs.Common.{◌≡◌, ℕ, suc, ◌+◌, ◌-◌, ◌*◌, ◌≤◌, ◌<◌, ◌&&◌, Bool, true, false, List, [], ◌∷◌, ◌++◌, length, take, drop, Option, Some, None, refl, sym, ap, ◌∙◌, arith}
use Rattle.std.specs.Prelude.{IfSome, replicate}
use Rattle.std.proofs.Math.Seq.{take-append-add}
use Rattle.std.proofs.lemmas.List.{drop-drop, drop_at}
use Rattle.vr_base.specs.Bytes.{name_of, piece}
use Rattle.vr_base.proofs.FieldLaws.{length-name_of}
use Rattle.vr_disk.specs.DiskState.{Call, Disk, Face, IsFace, Runs, Sync, Write, reads}
use Rattle.vr_disk.specs.Fronts.{front}
use Rattle.vr_disk.specs.Sectors.{has, together, writes}
use Rattle.vr_disk.proofs.Running.{Runs_then, Runs_stopped}
use Rattle.vr_disk.proofs.SectorSteps.{has_start, has_step}
use Rattle.vr_super.specs.Calls.{copy_calls, mend_copy}
use Rattle.vr_super.specs.Copies.{SuperValue, copy_bytes, copy_of, named_bytes}
use Rattle.vr_super.specs.Opens.{copy_reading}
use Rattle.vr_super.proofs.Behind.{zeros_rest}

pub copy_is : (v : SuperValue) → copy_of (named_bytes v) ≡ copy_bytes v
unfolding copy_of copy_bytes
copy_is v = refl

first_of : (t : List ℕ) → piece 0 512 (copy_of t) ≡ front t
unfolding copy_of front piece
first_of t =
    let n : length (name_of t) + 496 ≡ 512 = let l = length-name_of t in omega arith in
    ap (λ k. take k (name_of t ++ t)) (sym n) ∙ take-append-add (name_of t) t 496

others_of : (t : List ℕ) → drop 512 (copy_of t) ≡ drop 496 t
unfolding copy_of
others_of t = sym (drop-drop 496 16 (name_of t ++ t)) ∙ ap (drop 496) (drop_at (name_of t) t 16 (length-name_of t))

-- the zeros of the others
pub zeros_others : (filled : ℕ) (t rest : List ℕ) → 1 ≤ filled → filled ≤ 20 → rest ≡ drop 496 t → drop (512 * filled) (copy_of t) ≡ replicate (512 * (20 - filled)) 0 → drop (512 * (filled - 1)) rest ≡ replicate (512 * (19 - (filled - 1))) 0
zeros_others filled t rest l m e z = zeros_rest filled (copy_of t) rest l m (e ∙ sym (others_of t)) z

-- ---- written

writes_cons : (i n : ℕ) (b : List ℕ) → writes i (suc n) b ≡ Write i (piece 0 512 b) ∷ writes (i + 1) n (drop 512 b)
unfolding writes
writes_cons i n b = refl

-- the calls of the other sectors
abbrev others : ℕ → List ℕ → List Call
others k t = writes (20 * k + 1) 19 (drop 496 t) ++ Sync ∷ []

copy_parts : (k : ℕ) (t : List ℕ) → copy_calls k (copy_of t) ≡ Write (20 * k) (front t) ∷ others k t
unfolding copy_calls
copy_parts k t =
    let i : ℕ = 20 * k in
    ap (λ (cs : List Call). cs ++ Sync ∷ []) (writes_cons i 19 (copy_of t))
    ∙ (ap (λ (p : List ℕ). Write i p ∷ (writes (i + 1) 19 (drop 512 (copy_of t)) ++ Sync ∷ [])) (first_of t) ∙ ap (λ (b : List ℕ). Write i (front t) ∷ (writes (i + 1) 19 b ++ Sync ∷ [])) (others_of t))

pub copy_then : (k : ℕ) (t : List ℕ) (a b c : Option Disk) (ok : Bool) → Runs (Write (20 * k) (front t) ∷ []) a b true → Runs (writes (20 * k + 1) 19 (drop 496 t) ++ Sync ∷ []) b c ok → Runs (copy_calls k (copy_of t)) a c ok
copy_then k t a b c ok h r = rw (copy_parts k t) (Runs_then (Write (20 * k) (front t) ∷ []) (others k t) a b c ok h r)

pub copy_stopped : (k : ℕ) (t : List ℕ) (a b : Option Disk) → Runs (Write (20 * k) (front t) ∷ []) a b false → Runs (copy_calls k (copy_of t)) a b false
copy_stopped k t a b h = rw (copy_parts k t) (Runs_stopped (Write (20 * k) (front t) ∷ []) (others k t) a b h)

mend_parts : (k : ℕ) (t : List ℕ) → mend_copy k (copy_of t) ≡ Write (20 * k) (front t) ∷ Sync ∷ others k t
unfolding mend_copy
mend_parts k t =
    let i : ℕ = 20 * k in
    ap (λ (p : List ℕ). Write i p ∷ Sync ∷ (writes (i + 1) 19 (drop 512 (copy_of t)) ++ Sync ∷ [])) (first_of t) ∙ ap (λ (b : List ℕ). Write i (front t) ∷ Sync ∷ (writes (i + 1) 19 b ++ Sync ∷ [])) (others_of t)

pub mend_then : (k : ℕ) (t : List ℕ) (a b c : Option Disk) (ok : Bool) → Runs (Write (20 * k) (front t) ∷ Sync ∷ []) a b true → Runs (writes (20 * k + 1) 19 (drop 496 t) ++ Sync ∷ []) b c ok → Runs (mend_copy k (copy_of t)) a c ok
mend_then k t a b c ok h r = rw (mend_parts k t) (Runs_then (Write (20 * k) (front t) ∷ Sync ∷ []) (others k t) a b c ok h r)

pub mend_stopped : (k : ℕ) (t : List ℕ) (a b : Option Disk) → Runs (Write (20 * k) (front t) ∷ Sync ∷ []) a b false → Runs (mend_copy k (copy_of t)) a b false
mend_stopped k t a b h = rw (mend_parts k t) (Runs_stopped (Write (20 * k) (front t) ∷ Sync ∷ []) (others k t) a b h)

-- ---- compared

has_parts : (k : ℕ) (t : List ℕ) (f : Face) → IsFace f → k < 4 → has (copy_of t) (copy_reading f k) ≡ (has (front t) (reads f (20 * k)) && has (drop 496 t) (together (20 * k + 1) 19 f))
unfolding copy_reading
has_parts k t f h l =
    let i : ℕ = 20 * k in
    let b : List ℕ = copy_of t in
    let z : i + 0 ≡ i = omega arith in
    has_start i 20 b f
    ∙ (has_step i 20 0 b f h (omega arith) (omega arith)
    ∙ (ap (λ (j : ℕ). has (piece 0 512 b) (reads f j) && has (drop 512 b) (together (i + 1) 19 f)) z
    ∙ (ap (λ (p : List ℕ). has p (reads f i) && has (drop 512 b) (together (i + 1) 19 f)) (first_of t) ∙ ap (λ (r : List ℕ). has (front t) (reads f i) && has r (together (i + 1) 19 f)) (others_of t))))

-- the first sector has the name and the text after it, and so the others decide
pub front_same : (k : ℕ) (t rest : List ℕ) (d : Option Disk) (p q : Bool) → IfSome d (λ d. IsFace d.face) → k < 4 → rest ≡ drop 496 t
    → IfSome d (λ d. p ≡ has (front t) (reads d.face (20 * k))) → IfSome d (λ d. q ≡ has rest (together (20 * k + 1) 19 d.face)) → IfSome d (λ d. (p && q) ≡ has (copy_of t) (copy_reading d.face k))
front_same k t rest None p q h l e v w = tt
front_same k t rest (Some d) p q h l e v w =
    let others : q ≡ has (drop 496 t) (together (20 * k + 1) 19 d.face) = w ∙ ap (λ (r : List ℕ). has r (together (20 * k + 1) 19 d.face)) e in
    ap (λ (x : Bool). x && q) v ∙ (ap (λ (x : Bool). has (front t) (reads d.face (20 * k)) && x) others ∙ sym (has_parts k t d.face h l))

-- the first sector is another
pub front_other : (k : ℕ) (t : List ℕ) (d : Option Disk) → IfSome d (λ d. IsFace d.face) → k < 4 → IfSome d (λ d. false ≡ has (front t) (reads d.face (20 * k))) → IfSome d (λ d. false ≡ has (copy_of t) (copy_reading d.face k))
front_other k t None h l v = tt
front_other k t (Some d) h l v =
    let others = has (drop 496 t) (together (20 * k + 1) 19 d.face) in
    ap (λ (x : Bool). x && others) v ∙ sym (has_parts k t d.face h l)

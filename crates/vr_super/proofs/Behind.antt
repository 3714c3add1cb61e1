-- The zeros of a copy, sector by sector.
use Rattle.std.proofs.Common.{◌≡◌, ℕ, ◌+◌, ◌-◌, ◌*◌, ◌≤◌, ◌++◌, ◌&&◌, List, Option, Bool, true, false, length, take, drop, sym, ap, refl, ◌∙◌, arith, Some, None}
use Rattle.std.specs.Prelude.{IfSome, replicate}
use Rattle.std.proofs.lemmas.List.{drop-drop, drop_at, drop-replicate}
use Rattle.vr_disk.specs.DiskState.{Disk, Face, IsFace, Runs}
use Rattle.vr_disk.specs.Regions.{sectors}
use Rattle.vr_disk.specs.Sectors.{has, together, writes}
use Rattle.vr_disk.proofs.Running.{Runs_then, Runs_stopped}
use Rattle.vr_disk.proofs.SectorSteps.{has_split, writes_split}
use Rattle.vr_super.specs.Copies.{IsGood, SuperValue, copy_bytes, list_bytes, zeros}
use Rattle.vr_super.proofs.Format.{behind_copy, count_fits, length-list_bytes}

pub few : (v : SuperValue) → IsGood v → length v.headers ≤ 64
few v g = count_fits v.fields (length v.headers) g.fields

drop_more : (m n k : ℕ) (b : List ℕ) → m + n ≡ k → drop n (drop m b) ≡ drop k b
drop_more m n k b e = drop-drop n m b ∙ ap (λ t. drop t b) e

-- after the numbers and the headers a copy has zeros alone
pub zeros_behind : (v : SuperValue) (r : ℕ) → IsGood v → 128 + 128 * length v.headers ≤ 512 * r → r ≤ 20 → drop (512 * r) (copy_bytes v) ≡ replicate (512 * (20 - r)) 0
unfolding zeros
zeros_behind v r g l m =
    let n : ℕ = length v.headers in
    let b : List ℕ = copy_bytes v in
    let over : ℕ = 512 * r - (128 + 128 * n) in
    let list : List ℕ = list_bytes v.headers in
    let tail : drop 128 b ≡ list ++ zeros (10112 - 128 * n) = behind_copy v g.numbers in
    let blank : drop (128 * n) (drop 128 b) ≡ zeros (10112 - 128 * n) = ap (drop (128 * n)) tail ∙ drop_at list (zeros (10112 - 128 * n)) (128 * n) (length-list_bytes v.headers g.each) in
    let parts : drop over (drop (128 * n) (drop 128 b)) ≡ drop (512 * r) b = ap (drop over) (drop_more 128 (128 * n) (128 + 128 * n) b refl) ∙ drop_more (128 + 128 * n) over (512 * r) b (omega arith) in
    let left : 10112 - 128 * n - over ≡ 512 * (20 - r) = omega arith in
    sym parts ∙ (ap (drop over) blank ∙ (drop-replicate over (10112 - 128 * n) 0 ∙ ap (λ k. replicate k 0) left))

-- ---- written

writes_parts : (at count filled : ℕ) (b : List ℕ) → filled ≤ count → drop (512 * filled) b ≡ replicate (512 * (count - filled)) 0
    → writes at count b ≡ writes at filled b ++ writes (at + filled) (count - filled) (replicate (512 * (count - filled)) 0)
writes_parts at count filled b l z =
    let all : count ≡ filled + (count - filled) = omega arith in
    ap (λ n. writes at n b) all ∙ (writes_split filled (count - filled) at b ∙ ap (λ t. writes at filled b ++ writes (at + filled) (count - filled) t) z)

pub filled_then : (at count filled : ℕ) (b : List ℕ) (one two three : Option Disk) (ok : Bool) → filled ≤ count → drop (512 * filled) b ≡ replicate (512 * (count - filled)) 0
    → Runs (writes at filled b) one two true → Runs (writes (at + filled) (count - filled) (replicate (512 * (count - filled)) 0)) two three ok → Runs (writes at count b) one three ok
filled_then at count filled b one two three ok l z h k =
    rw (writes_parts at count filled b l z) (Runs_then (writes at filled b) (writes (at + filled) (count - filled) (replicate (512 * (count - filled)) 0)) one two three ok h k)

pub filled_stopped : (at count filled : ℕ) (b : List ℕ) (one two : Option Disk) → filled ≤ count → drop (512 * filled) b ≡ replicate (512 * (count - filled)) 0 → Runs (writes at filled b) one two false → Runs (writes at count b) one two false
filled_stopped at count filled b one two l z h =
    rw (writes_parts at count filled b l z) (Runs_stopped (writes at filled b) (writes (at + filled) (count - filled) (replicate (512 * (count - filled)) 0)) one two h)

-- after the first sector
pub zeros_rest : (filled : ℕ) (b rest : List ℕ) → 1 ≤ filled → filled ≤ 20 → rest ≡ drop 512 b → drop (512 * filled) b ≡ replicate (512 * (20 - filled)) 0 → drop (512 * (filled - 1)) rest ≡ replicate (512 * (19 - (filled - 1))) 0
zeros_rest filled b rest l m e z =
    let n : 20 - filled ≡ 19 - (filled - 1) = omega arith in
    ap (drop (512 * (filled - 1))) e ∙ (drop_more 512 (512 * (filled - 1)) (512 * filled) b (omega arith) ∙ (z ∙ ap (λ k. replicate (512 * k) 0) n))

-- ---- compared

has_filled : (at count filled : ℕ) (b : List ℕ) (f : Face) → IsFace f → at + count ≤ sectors → filled ≤ count → drop (512 * filled) b ≡ replicate (512 * (count - filled)) 0
    → has b (together at count f) ≡ (has (take (512 * filled) b) (together at filled f) && has (replicate (512 * (count - filled)) 0) (together (at + filled) (count - filled) f))
has_filled at count filled b f h l m z =
    let all : count ≡ filled + (count - filled) = omega arith in
    ap (λ n. has b (together at n f)) all
    ∙ (has_split filled (count - filled) at b f h (omega arith) ∙ ap (λ t. has (take (512 * filled) b) (together at filled f) && has t (together (at + filled) (count - filled) f)) z)

compared : (at count filled : ℕ) (b front : List ℕ) (f : Face) (p q : Bool) → IsFace f → at + count ≤ sectors → filled ≤ count → drop (512 * filled) b ≡ replicate (512 * (count - filled)) 0 → front ≡ take (512 * filled) b
    → p ≡ has front (together at filled f) → q ≡ has (replicate (512 * (count - filled)) 0) (together (at + filled) (count - filled) f) → (p && q) ≡ has b (together at count f)
compared at count filled b front f p q h l m z e v w =
    ap (λ t. t && q) (v ∙ ap (λ x. has x (together at filled f)) e) ∙ (ap (λ t. has (take (512 * filled) b) (together at filled f) && t) w ∙ sym (has_filled at count filled b f h l m z))

pub filled_same : (at count filled : ℕ) (b front : List ℕ) (t : Option Disk) (p q : Bool) → IfSome t (λ d. IsFace d.face) → at + count ≤ sectors → filled ≤ count → drop (512 * filled) b ≡ replicate (512 * (count - filled)) 0 → front ≡ take (512 * filled) b
    → IfSome t (λ d. p ≡ has front (together at filled d.face)) → IfSome t (λ d. q ≡ has (replicate (512 * (count - filled)) 0) (together (at + filled) (count - filled) d.face)) → IfSome t (λ d. (p && q) ≡ has b (together at count d.face))
filled_same at count filled b front None p q h l m z e v w = tt
filled_same at count filled b front (Some d) p q h l m z e v w = compared at count filled b front d.face p q h l m z e v w

-- the front is another
pub filled_other : (at count filled : ℕ) (b front : List ℕ) (t : Option Disk) → IfSome t (λ d. IsFace d.face) → at + count ≤ sectors → filled ≤ count → drop (512 * filled) b ≡ replicate (512 * (count - filled)) 0 → front ≡ take (512 * filled) b
    → IfSome t (λ d. false ≡ has front (together at filled d.face)) → IfSome t (λ d. false ≡ has b (together at count d.face))
filled_other at count filled b front None h l m z e v = tt
filled_other at count filled b front (Some d) h l m z e v = compared at count filled b front d.face false (has (replicate (512 * (count - filled)) 0) (together (at + filled) (count - filled) d.face)) h l m z e v refl

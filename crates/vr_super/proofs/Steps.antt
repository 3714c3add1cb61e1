-- Sector after sector, and copy after copy.
use Rattle.std.proofs.Common.{ℕ, suc, ◌+◌, ◌-◌, ◌≤◌, ◌<◌, ◌≡◌, arith, refl, sym, ap, ◌∙◌, Bool, true, false, cond, List, [], ◌++◌, Option, Some, None, ◌≢◌}
use Rattle.std.specs.Prelude.{IfSome}
use Rattle.vr_disk.specs.DiskState.{Disk, Face, IsFace, Runs, RunsFrom, after_all, runs}
use Rattle.vr_disk.proofs.Running.{Runs_then, Runs_stopped, RunsFrom_then, RunsFrom_stopped, after_is}
use Rattle.vr_disk.specs.Sectors.{has}
use Rattle.vr_disk.proofs.Telling.{runs_const}
use Rattle.vr_super.specs.Calls.{copy_calls, mend_copy, mend_from, mend_calls, mend_unless, save_from, write_calls}
use Rattle.vr_super.specs.Opens.{copy_reading, opens}
use Rattle.vr_super.specs.Copies.{IsGood, SuperValue, copy_bytes}
use Rattle.vr_super.specs.Laws.{WriteLeads, Written}
use Rattle.vr_super.proofs.Keeping.{write_law, write_leaves}
use Rattle.vr_super.proofs.Readings.{mend_within, other_after}

-- ---- copies

save_cons : (k n : ℕ) (bytes : List ℕ) → save_from k (suc n) bytes ≡ copy_calls k bytes ++ save_from (k + 1) n bytes
unfolding save_from
save_cons k n bytes = refl

pub save_step : (k : ℕ) (bytes : List ℕ) → k < 4 → save_from k (4 - k) bytes ≡ copy_calls k bytes ++ save_from (k + 1) (4 - (k + 1)) bytes
save_step k bytes l = let n : 4 - k ≡ suc (4 - (k + 1)) = omega arith in ap (λ m. save_from k m bytes) n ∙ save_cons k (4 - (k + 1)) bytes

pub save_past : (k : ℕ) (bytes : List ℕ) → 4 ≤ k → save_from k (4 - k) bytes ≡ []
unfolding save_from
save_past k bytes l = let n : 4 - k ≡ 0 = omega arith in rw n refl

mend_cons : (k n : ℕ) (bytes : List ℕ) (f : Face) → mend_from k (suc n) bytes f ≡ mend_unless k bytes f ++ mend_from (k + 1) n bytes f
unfolding mend_from
mend_cons k n bytes f = refl

mend_step : (k : ℕ) (bytes : List ℕ) (f : Face) → k < 4 → mend_from k (4 - k) bytes f ≡ mend_unless k bytes f ++ mend_from (k + 1) (4 - (k + 1)) bytes f
mend_step k bytes f l = let n : 4 - k ≡ suc (4 - (k + 1)) = omega arith in ap (λ m. mend_from k m bytes f) n ∙ mend_cons k (4 - (k + 1)) bytes f

mend_past : (k : ℕ) (bytes : List ℕ) (f : Face) → 4 ≤ k → mend_from k (4 - k) bytes f ≡ []
unfolding mend_from
mend_past k bytes f l = let n : 4 - k ≡ 0 = omega arith in rw n refl

-- copies below k have been mended: what is left, from the disk as it was at first
pub record MendingOn (bytes : List ℕ) (k : ℕ) (d now : Disk) : Type 0 where
  pub rest : (new : Option Disk) (ok : Bool) → Runs (mend_from k (4 - k) bytes d.face) (Some now) new ok → Runs (mend_from 0 4 bytes d.face) (Some d) new ok
  pub same : (c : ℕ) → k ≤ c → c < 4 → copy_reading now.face c ≡ copy_reading d.face c

abbrev pub MendingFrom : List ℕ → ℕ → Option Disk → Option Disk → Type 0
MendingFrom bytes k None t = t ≡ None
MendingFrom bytes k (Some d) t = (now : Disk) × (t ≡ Some now) × MendingOn bytes k d now

pub record Mending (bytes : List ℕ) (k : ℕ) (first t : Option Disk) : Type 0 where
  pub is : MendingFrom bytes k first t

starts : (bytes : List ℕ) (t : Option Disk) → MendingFrom bytes 0 t t
starts bytes None = refl
starts bytes (Some d) = (d, refl, record { rest = λ new ok h. h; same = λ c a b. refl })

pub mending_starts : (bytes : List ℕ) (t : Option Disk) → Mending bytes 0 t t
mending_starts bytes t = record { is = starts bytes t }

unless_reading : (k : ℕ) (bytes : List ℕ) (f g : Face) → copy_reading g k ≡ copy_reading f k → mend_unless k bytes g ≡ mend_unless k bytes f
unless_reading k bytes f g e = ap (λ o. cond (has bytes o) [] (mend_copy k bytes)) e

unless_others : (k c : ℕ) (bytes : List ℕ) (f g : Face) → k ≢ c → copy_reading (after_all g (mend_unless k bytes f)) c ≡ copy_reading g c
unless_others k c bytes f g d =
    elim (has bytes (copy_reading f k)) as (λ b. copy_reading (after_all g (cond b [] (mend_copy k bytes))) c ≡ copy_reading g c) [ true ↦ refl | false ↦ other_after (mend_copy k bytes) g k c (mend_within k bytes) d ]

-- one copy more
next_from : (bytes : List ℕ) (k : ℕ) (d now : Disk) (t : Option Disk) → k < 4 → MendingOn bytes k d now → RunsFrom (mend_unless k bytes) (Some now) t true → MendingFrom bytes (k + 1) (Some d) t
next_from bytes k d now t l m r =
    let calls = mend_unless k bytes d.face in
    let same : mend_unless k bytes now.face ≡ calls = unless_reading k bytes d.face now.face (m.same k (omega arith) l) in
    let r' : Runs calls (Some now) t true = rw same at r in
    let after = (runs calls now).disk in
    let face : after.face ≡ after_all now.face calls = after_is calls now (sym r'.1) in (
      after,
      r'.0,
      record {
        rest = λ new ok h. m.rest new ok (rw (mend_step k bytes d.face l) (Runs_then calls (mend_from (k + 1) (4 - (k + 1)) bytes d.face) (Some now) (Some after) new ok (refl, r'.1) h));
        same = λ c a b. ap (λ f. copy_reading f c) face ∙ (unless_others k c bytes d.face now.face (λ e. absurd (omega arith)) ∙ m.same c (omega arith) b);
      },
    )

next_of : (bytes : List ℕ) (k : ℕ) (first t u : Option Disk) → k < 4 → MendingFrom bytes k first t → RunsFrom (mend_unless k bytes) t u true → MendingFrom bytes (k + 1) first u
next_of bytes k None t u l m r = let r' : RunsFrom (mend_unless k bytes) None u true = rw m at r in r'
next_of bytes k (Some d) t u l m r = let r' : RunsFrom (mend_unless k bytes) (Some m.0) u true = rw m.1 at r in next_from bytes k d m.0 u l m.2 r'

pub mending_goes : (bytes : List ℕ) (k : ℕ) (first t u : Option Disk) → k < 4 → Mending bytes k first t → RunsFrom (mend_unless k bytes) t u true → Mending bytes (k + 1) first u
mending_goes bytes k first t u l m r = record { is = next_of bytes k first t u l m.is r }

stops_of : (bytes : List ℕ) (k : ℕ) (first t u : Option Disk) → k < 4 → MendingFrom bytes k first t → RunsFrom (mend_unless k bytes) t u false → RunsFrom (mend_from 0 4 bytes) first u false
stops_of bytes k None t u l m r = let r' : RunsFrom (mend_unless k bytes) None u false = rw m at r in r'
stops_of bytes k (Some d) t u l m r =
    let now = m.0 in
    let calls = mend_unless k bytes d.face in
    let same : mend_unless k bytes now.face ≡ calls = unless_reading k bytes d.face now.face (m.2.same k (omega arith) l) in
    let r' : RunsFrom (mend_unless k bytes) (Some now) u false = rw m.1 at r in
    let r2 : Runs calls (Some now) u false = rw same at r' in
    m.2.rest u false (rw (mend_step k bytes d.face l) (Runs_stopped calls (mend_from (k + 1) (4 - (k + 1)) bytes d.face) (Some now) u r2))

pub mending_stops : (bytes : List ℕ) (k : ℕ) (first t u : Option Disk) → k < 4 → Mending bytes k first t → RunsFrom (mend_unless k bytes) t u false → RunsFrom (mend_from 0 4 bytes) first u false
mending_stops bytes k first t u l m r = stops_of bytes k first t u l m.is r

ends_of : (bytes : List ℕ) (k : ℕ) (first t : Option Disk) → 4 ≤ k → MendingFrom bytes k first t → RunsFrom (mend_from 0 4 bytes) first t true
ends_of bytes k None t l m = m
ends_of bytes k (Some d) t l m = m.2.rest t true (rw (mend_past k bytes d.face l) (m.1, refl))

pub mending_ends : (bytes : List ℕ) (k : ℕ) (first t : Option Disk) → 4 ≤ k → Mending bytes k first t → RunsFrom (mend_from 0 4 bytes) first t true
mending_ends bytes k first t l m = ends_of bytes k first t l m.is

-- ---- mending and then writing

pub write_then : (old new : SuperValue) (x y : List ℕ) (a b c : Option Disk) (ok : Bool) → x ≡ copy_bytes old → y ≡ copy_bytes new → RunsFrom (mend_from 0 4 x) a b true → Runs (save_from 0 4 y) b c ok → RunsFrom (write_calls old new) a c ok
write_then old new x y a b c ok p q h k =
    let h' : RunsFrom (mend_calls old) a b true = rw p at h in
    let k' : Runs (save_from 0 4 (copy_bytes new)) b c ok = rw q at k in
    RunsFrom_then (mend_calls old) (λ f. save_from 0 4 (copy_bytes new)) a b c ok h' (runs_const (save_from 0 4 (copy_bytes new)) b c ok k')

pub write_stopped : (old new : SuperValue) (x : List ℕ) (a b : Option Disk) → x ≡ copy_bytes old → RunsFrom (mend_from 0 4 x) a b false → RunsFrom (write_calls old new) a b false
write_stopped old new x a b p h =
    let h' : RunsFrom (mend_calls old) a b false = rw p at h in
    RunsFrom_stopped (mend_calls old) (λ f. save_from 0 4 (copy_bytes new)) a b h'

pub leads : (old new : SuperValue) (t : Option Disk) → IfSome t (λ d. IsFace d.face) → IsGood new → IfSome t (λ d. d.face.waiting ≡ [] → opens d.face ≡ Some old → WriteLeads old new d.face)
leads old new None w g = tt
leads old new (Some d) w g = λ r o. write_law old new d.face w r o g

pub left_by : (old new : SuperValue) (t u : Option Disk) (ok : Bool) → IfSome t (λ d. IsFace d.face) → IsGood new → RunsFrom (write_calls old new) t u ok
    → IfSome t (λ d. d.face.waiting ≡ [] → opens d.face ≡ Some old → IfSome u (λ e. Written old new ok e.face))
left_by old new None u ok w g r = tt
left_by old new (Some d) u ok w g r = λ n o. rw r.0 (write_leaves old new d ok w n o g r.1)

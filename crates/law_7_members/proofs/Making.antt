-- A file on which makings of a member stopped forges no entry of its group; and what a whole making leaves of it is the member's.
use Rattle.std.proofs.Common.{ℕ, zero, suc, ◌+◌, ◌*◌, ◌^◌, ◌≤◌, ◌<◌, ◌≡◌, inl, inr, arith, refl, sym, ap, ◌∙◌, subst, List, [], ◌∷◌, ◌++◌, length, take, get_or, Option, Some, None}
use Rattle.std.specs.Prelude.{replicate}
use Rattle.std.specs.List.{AllByRecursion}
use Rattle.std.proofs.lemmas.Bool.{cases_eq}
use Rattle.std.proofs.lemmas.List.{append-nil, get_or-replicate, length-replicate, take_all}
use Rattle.vr_base.specs.declared.kind.Kind.{Kind}
use Rattle.vr_base.specs.declared.mode.Mode.{Mode}
use Rattle.vr_base.specs.declared.table.Config.{Config}
use Rattle.vr_disk.specs.DiskState.{Call, Cell, Disk, Face, IsCell, IsContent, IsFace, Sync, after, after_all, runs}
use Rattle.vr_disk.specs.Regions.{sectors}
use Rattle.vr_disk.specs.Sectors.{together, writes}
use Rattle.vr_disk.specs.Stops.{IsCall, Stops}
use Rattle.vr_disk.proofs.Faces.{face_after, face_after_all, face_cut}
use Rattle.vr_disk.proofs.Stopping.{stops_are}
use Rattle.vr_disk.proofs.Together.{after_all_append, length_after_all, together_synced, together_written}
use Rattle.vr_header.specs.declared.header.Header.{Header}
use Rattle.vr_super.specs.Calls.{copy_calls, save_from}
use Rattle.vr_super.specs.Copies.{IsGood, SuperValue, copy_bytes}
use Rattle.vr_super.specs.Opens.{copy_reading, good_copies, good_copy, opened, opens}
use Rattle.vr_mem.specs.Lies.{lied}
use Rattle.vr_lie.specs.declared.fault.Fault.{Fault}
use Rattle.vr_lie.specs.declared.fault.Fault.TheVariants as fault
use Rattle.vr_lie.specs.Faults.{faulted}
use Rattle.vr_super.proofs.Best.{opened_among, opened_some}
use Rattle.vr_super.proofs.Format.{length-copy_bytes, value_again}
use Rattle.vr_super.proofs.Keeping.{two_first}
use Rattle.vr_super.proofs.Readings.{copy_within, other_after}
use Rattle.vr_rings.specs.Held.{Stands, looked}
use Rattle.vr_rules.specs.Formatting.{reserved_headers, zero_prepares, zero_sector}
use Rattle.vr_world.specs.Group.{fresh_member}
use Rattle.vr_world.specs.Lying.{Lying, zero_cell, zero_face}
use Rattle.vr_base.specs.Groups.{least_members}
use Rattle.vr_rules.specs.Opening.{IsKind, first_value}
use Rattle.vr_rules.proofs.FitFresh.{fresh_fits}
use Rattle.law_4_disks.specs.Beside.{IsCalm, IsOn}
use Rattle.law_4_disks.proofs.Calls.{format_are, format_is, zero_content}
use Rattle.law_4_disks.proofs.Effects.{at_slot, calm_after}
use Rattle.law_4_disks.proofs.Faults.{fault_face}
use Rattle.law_5_seals.specs.Seals.{HasSectors, IsSealed, Puts}
use Rattle.law_5_seals.proofs.Contents.{has_after_all, has_cut, has_fault}
use Rattle.law_5_seals.proofs.Turning.{turned_sealed}
use Rattle.law_7_members.proofs.Cuts.{rested}
use Rattle.law_7_members.specs.Whole as whole
use Rattle.vr_base.specs.declared.status.Status.TheVariants as status
use Rattle.law_7_members.specs.Whole.{IsUnfinished, IsUnused, LeavesUnfinished, MakingsLeaveUnfinished, as_read, made_on, making}
use Rattle.vr_mem.specs.Seen as mem
use Rattle.vr_mem.specs.Seen.{copies}
use Rattle.vr_base.specs.declared.mode.Mode.TheVariants.{Strict}
use Rattle.vr_lie.proofs.Calls.{empty_at, new_table}
use Rattle.vr_lie.proofs.Premise.{none_stands}
use Rattle.vr_lie.specs.Laws.{AllStand}
use Rattle.vr_rings.proofs.Standing.{look_mid, mid_stands, stands_look}
use Rattle.law_6_one_log.proofs.Fresh.{format_sealed, zero_face_sealed}
use Rattle.law_6_one_log.proofs.Scripts.{AreSealed}

-- ---- a file of zeros

some_zero : (b : List ℕ) → Some zero_sector ≡ Some b → zero_sector ≡ b
some_zero b e = cc

zero_at : (k : ℕ) (d : Cell) → k < length zero_face.cells → zero_cell ≡ get_or zero_face.cells k d
zero_at k d l = let n = length-replicate sectors zero_cell in sym (get_or-replicate sectors k zero_cell d (omega (arith, n, l)))

zero_is_cell : IsCell zero_cell
zero_is_cell = record { truth = zero_content; reads = λ b e. subst IsContent (some_zero b e) zero_content; before = zero_content }

zero_is : zero_face ≡ record { cells = copies sectors mem.zero_cell; waiting = [] }
unfolding copies mem.zero_cell
zero_is = refl

zero_is_face : IsFace zero_face
zero_is_face = record {
  count = length-replicate sectors zero_cell;
  cells = λ k d l. subst IsCell (zero_at k d l) zero_is_cell;
  waiting = λ k d l. absurd (omega arith);
}

-- none of its slots reads as an entry
pub zeros_hold_none : (v slot : ℕ) → slot < 64 → looked v zero_face slot None ≡ None
zeros_hold_none v slot l =
    let held : List (Option (List ℕ)) = replicate 64 None in
    let all : AllStand v Strict zero_face held = none_stands v zero_face held (new_table v zero_face held zero_is refl) (λ s b. empty_at 64 s) in
    stands_look v zero_face slot None (subst (Stands v Strict zero_face slot) (empty_at 64 slot) (all.each slot l))

-- ---- a file on which no making came to its end

zeros_plain : (cluster : ℕ) → IsUnused cluster zero_face
zeros_plain cluster = record { face = zero_is_face; rests = refl; bare = zero_face_sealed }

all_take : (P : Call → Type 0) (cs : List Call) (n : ℕ) → AllByRecursion P cs → AllByRecursion P (take n cs)
all_take P cs zero a = tt
all_take P [] (suc n) a = tt
all_take P (c ∷ cs) (suc n) a = (a.0, all_take P cs n a.1)

stop_face : (cs : List Call) (f g : Face) → Stops cs f g → AllByRecursion IsCall cs → IsFace f → IsFace g
stop_face cs f g s k is = elim s.left [
  | inl e ↦ subst IsFace (sym e) (face_after_all (take s.calls cs) f is (all_take IsCall cs s.calls k))
  | inr e ↦ subst IsFace (sym e.1) (face_cut cs f s.calls e.0 is k)
]

stop_sealed : (cluster : ℕ) (cs : List Call) (f g : Face) → Stops cs f g → AreSealed cluster [] cs → HasSectors (IsSealed cluster []) f → HasSectors (IsSealed cluster []) g
stop_sealed cluster cs f g s k is =
    let P : List ℕ → Type 0 = IsSealed cluster [] in
    elim s.left [
      | inl e ↦ subst (HasSectors P) (sym e) (has_after_all P (take s.calls cs) f is (all_take (Puts P) cs s.calls k))
      | inr e ↦ subst (HasSectors P) (sym e.1) (has_cut P (turned_sealed cluster []) cs f s.calls e.0 is k)
    ]

-- a fault changes readings alone
fault_rests : (f : Face) (x : Fault) → (faulted f x).waiting ≡ f.waiting
unfolding lied
fault_rests f (fault.Damage i) = refl
fault_rests f (fault.Stale i) = refl
fault_rests f (fault.Unread i) = refl
fault_rests f (fault.Misdirect i k) = refl

fault_again : (f : Face) (x : Fault) → faulted (after f Sync) x ≡ after (faulted f x) Sync
unfolding lied
fault_again f (fault.Damage i) = refl
fault_again f (fault.Stale i) = refl
fault_again f (fault.Unread i) = refl
fault_again f (fault.Misdirect i k) = refl

-- attached again, it is the same
again : (c : Config) (f : Face) → IsUnfinished c f → IsUnfinished c (after f Sync)
again c _ whole.zeros = whole.zeros
again c _ (whole.unused file u) = subst (IsUnfinished c) (rested file u.rests) (whole.unused file u)
again c _ (whole.stopped kind file left k least u s) = whole.stopped kind file left k least u s
again c _ (whole.decays file x u within) = subst (IsUnfinished c) (fault_again file x) (whole.decays (after file Sync) x (again c file u) within)

same_disk : (c : Config) (d : Disk) (d' : Option Disk) → IsUnfinished c d.face → d' ≡ Some d → LeavesUnfinished c d'
same_disk c d d' u same = record { disk = d; told = same; unfinished = again c d.face u }

pub makings_leave : MakingsLeaveUnfinished
makings_leave kind c d d' status.Occupied u h = same_disk c d d' u h.1.is.1
makings_leave kind c d d' status.NoMemory u h = same_disk c d d' u h.1.is.1
makings_leave kind c d d' status.DiskFault u h =
    let cs = making kind c in
    let ran = h.1.is.1 in
    record { disk = (runs cs d).disk; told = ran.0; unfinished = whole.stopped kind d.face (runs cs d).disk.face (h.0.0, h.0.1) h.0.2 u (stops_are cs d (sym ran.1)) }
makings_leave kind c d d' status.Done u h = absurd h
makings_leave kind c d d' status.LinkFault u h = absurd h
makings_leave kind c d d' status.WriteFault u h = absurd h
makings_leave kind c d d' status.Usage u h = absurd h
makings_leave kind c d d' (status.Refused line) u h = absurd h
makings_leave kind c d d' status.SessionLost u h = absurd h
makings_leave kind c d d' status.ReadFault u h = absurd h
makings_leave kind c d d' status.SuperLost u h = absurd h
makings_leave kind c d d' (status.OtherMember found asked) u h = absurd h
makings_leave kind c d d' status.NoAnswer u h = absurd h
makings_leave kind c d d' status.SpawnFault u h = absurd h

module _ (c : Config) (room : c.cluster < 2 ^ 64) (b : c.n ≤ 6) (l : c.replica < c.n) where
  good : (kind : Kind) → IsKind kind → least_members kind.version ≤ c.n → IsGood (first_value kind c.cluster c.n c.replica)
  good kind is least = (fresh_fits kind c.cluster c.n c.replica is room least b l).value

  pub unfinished_unused : (f : Face) → IsUnfinished c f → IsUnused c.cluster f
  unfinished_unused _ whole.zeros = zeros_plain c.cluster
  unfinished_unused _ (whole.unused file u) = u
  unfinished_unused _ (whole.stopped kind file left is least u s) =
      let p = unfinished_unused file u in
      let cs = making kind c in
      let seals = format_sealed kind c.cluster c.n c.replica is room least b l in
      record {
        face = face_after left Sync (stop_face cs file left s (format_are kind c.cluster c.n c.replica room (good kind is least)) p.face) tt;
        rests = refl;
        bare = has_after_all (IsSealed c.cluster []) (Sync ∷ []) left (stop_sealed c.cluster cs file left s seals p.bare) (tt, tt);
      }
  unfinished_unused _ (whole.decays file x u within) =
      let p = unfinished_unused file u in
      record { face = fault_face file x within p.face; rests = fault_rests file x ∙ p.rests; bare = has_fault (IsSealed c.cluster []) (turned_sealed c.cluster []) file x within p.bare }

-- ---- it is calm, whatever its kind: a slot holds what it reads as

read_stands : (v : ℕ) (mode : Mode) (f : Face) (slot : ℕ) → Stands v mode f slot (looked v f slot None)
read_stands v mode f slot = mid_stands v f slot (looked v f slot None) (look_mid v f slot None (λ p e. absurd cc) (λ p e. absurd cc))

read_calm : (kind : Kind) (f : Face) → IsFace f → f.waiting ≡ [] → IsCalm kind.mode (as_read kind f)
read_calm kind f face rests = record {
  face = face;
  rests = rests;
  stand = record { each = λ slot l. subst (Stands kind.version kind.mode f slot) (sym (at_slot (λ slot. looked kind.version f slot None) slot l)) (read_stands kind.version kind.mode f slot) };
}

-- ---- four copies

copy_read : (b : List ℕ) (f : Face) (c : ℕ) → length b ≡ 10240 → length f.cells ≡ sectors → c < 4 → copy_reading (after_all f (copy_calls c b)) c ≡ Some b
unfolding copy_reading copy_calls
copy_read b f c n l k =
    let g = after_all f (writes (20 * c) 20 b) in
    let joined : after_all f (writes (20 * c) 20 b ++ Sync ∷ []) ≡ after g Sync = after_all_append (writes (20 * c) 20 b) (Sync ∷ []) f in
    ap (λ h. together (20 * c) 20 h) joined ∙ (together_synced 20 (20 * c) g ∙ (together_written 20 (20 * c) b f (omega arith) ∙ ap Some (take_all (512 * 20) b (omega arith))))

copies_read : (n k : ℕ) (b : List ℕ) (f : Face) → length b ≡ 10240 → length f.cells ≡ sectors → k + n ≡ 4 → ((c : ℕ) → c < k → copy_reading f c ≡ Some b) → (c : ℕ) → c < 4 → copy_reading (after_all f (save_from k n b)) c ≡ Some b
unfolding save_from
copies_read zero k b f size l e h c m = h c (omega arith)
copies_read (suc n) k b f size l e h c m =
    let one = copy_calls k b in
    let g = after_all f one in
    let less : k < 4 = omega arith in
    let next : (c : ℕ) → c < k + 1 → copy_reading g c ≡ Some b = λ c a. elim (cases_eq c k) [
      | inl same ↦ subst (λ (c : ℕ). copy_reading g c ≡ Some b) (sym same) (copy_read b f k size l less)
      | inr other ↦ other_after one f k c (copy_within k b) (λ s. other (sym s)) ∙ h c (omega arith)
    ] in
    ap (λ (g : Face). copy_reading g c) (after_all_append one (save_from (k + 1) n b) f) ∙ copies_read n (k + 1) b g size (length_after_all one f ∙ l) (omega arith) next c m

pub saves_rest : (n k : ℕ) (b : List ℕ) (f : Face) → (after_all f (save_from k (suc n) b)).waiting ≡ []
unfolding save_from copy_calls
saves_rest zero k b f = ap (λ (cs : List Call). (after_all f cs).waiting) (append-nil (writes (20 * k) 20 b ++ Sync ∷ [])) ∙ ap (λ (g : Face). g.waiting) (after_all_append (writes (20 * k) 20 b) (Sync ∷ []) f)
saves_rest (suc n) k b f =
    let one = writes (20 * k) 20 b ++ Sync ∷ [] in
    ap (λ (g : Face). g.waiting) (after_all_append one (save_from (k + 1) (suc n) b) f) ∙ saves_rest n (k + 1) b (after_all f one)

good_at : (v : SuperValue) (f : Face) (c : ℕ) → IsGood v → copy_reading f c ≡ Some (copy_bytes v) → good_copy f c ≡ Some (copy_bytes v)
unfolding good_copy
good_at v f c g e = rw (e, value_again v g) refl

opens_as : (f : Face) (v : SuperValue) → IsGood v → opened (good_copies f) ≡ Some (copy_bytes v) → opens f ≡ Some v
unfolding opens
opens_as f v g e = rw e (value_again v g)

all_open : (v : SuperValue) (g : Face) → IsGood v → ((c : ℕ) → c < 4 → copy_reading g c ≡ Some (copy_bytes v)) → opens g ≡ Some v
all_open v g gv a =
    let b = copy_bytes v in
    let at : (c : ℕ) → c < 4 → good_copy g c ≡ Some b = λ c l. good_at v g c gv (a c l) in
    let best = opened_some b (good_copies g) (inl (at 0 (omega arith))) (two_first b (good_copy g 0) (good_copy g 1) (good_copy g 2) (good_copy g 3) (at 0 (omega arith)) (at 1 (omega arith))) in
    let is : (c : ℕ) → c < 4 → good_copy g c ≡ Some best.0 → opens g ≡ Some v = λ c l e. opens_as g v gv (best.1 ∙ (sym e ∙ at c l)) in
    elim (opened_among best.0 (good_copies g) best.1) [
      | inl e ↦ is 0 (omega arith) e
      | inr a ↦ elim a [ inl e ↦ is 1 (omega arith) e | inr a ↦ elim a [ inl e ↦ is 2 (omega arith) e | inr a ↦ elim a [ inl e ↦ is 3 (omega arith) e | inr a ↦ elim a [ ] ] ] ]
    ]

-- ---- the file of a new member

-- it is the member's, and nothing on it is forged
pub record IsNew (kind : Kind) (c : Config) (file : Lying) : Type 0 where
  pub on : IsOn file (fresh_member kind c.cluster c.n c.replica)
  pub sealed : HasSectors (IsSealed c.cluster []) file.face

abbrev nothing_kept : Option Header
nothing_kept = None

on_new : (kind : Kind) (c : Config) (file : Lying) → file.version ≡ kind.version → IsCalm kind.mode file → opens file.face ≡ Some (first_value kind c.cluster c.n c.replica) → IsOn file (fresh_member kind c.cluster c.n c.replica)
on_new kind c file of calm opened_so = record {
  calm = calm;
  held = record { count = length-replicate 64 (nothing_kept); each = λ slot h b e. absurd (let bad : None ≡ Some h = sym (get_or-replicate 64 slot nothing_kept None b) ∙ e in cc) };
  value = opened_so;
  file = of;
  under = refl;
}

-- one that opens as its first value
pub late_new : (kind : Kind) (c : Config) (f : Face) → IsUnused c.cluster f → opens f ≡ Some (first_value kind c.cluster c.n c.replica) → IsNew kind c (as_read kind f)
late_new kind c f u o = record { on = on_new kind c (as_read kind f) refl (read_calm kind f u.face u.rests) o; sealed = u.bare }

-- one that was made to the end
pub made_new : (kind : Kind) (c : Config) (f : Face) → IsKind kind → c.cluster < 2 ^ 64 → least_members kind.version ≤ c.n → c.n ≤ 6 → c.replica < c.n → IsUnused c.cluster f → IsNew kind c (made_on kind c f)
made_new kind c f is room least many l u =
    let v = first_value kind c.cluster c.n c.replica in
    let good = (fresh_fits kind c.cluster c.n c.replica is room least many l).value in
    let bytes = copy_bytes v in
    let saves = save_from 0 4 bytes in
    let one = zero_prepares kind.version in
    let two = reserved_headers kind.version c.cluster in
    let f1 = after_all f one in
    let f2 = after_all f1 two in
    let f3 = after f2 Sync in
    let cs = making kind c in
    let all : after_all f cs ≡ after_all f3 saves =
    ap (after_all f) (format_is kind c.cluster c.n c.replica) ∙ (after_all_append one (two ++ Sync ∷ saves) f ∙ after_all_append two (Sync ∷ saves) f1) in
    let count : length f3.cells ≡ sectors = length_after_all two f1 ∙ (length_after_all one f ∙ u.face.count) in
    let reads_as = copies_read 4 0 bytes f3 (length-copy_bytes v good) count (omega arith) (λ c m. absurd (omega arith)) in
    let calm = calm_after cs (as_read kind f) (read_calm kind f u.face u.rests) (format_are kind c.cluster c.n c.replica room good) (ap (λ (g : Face). g.waiting) all ∙ saves_rest 3 0 bytes f3) in
    record {
      on = on_new kind c (made_on kind c f) refl calm (ap opens all ∙ all_open v (after_all f3 saves) good reads_as);
      sealed = has_after_all (IsSealed c.cluster []) cs f u.bare (format_sealed kind c.cluster c.n c.replica is room least many l);
    }

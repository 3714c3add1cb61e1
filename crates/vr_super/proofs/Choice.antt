-- The value that copies open as, read and mended.
use Rattle.std.proofs.Common.{ℕ, ◌≡◌, refl, sym, ap, ◌∙◌, true, false, cond, List, [], ◌∷◌, Option, Some, None, Result, Ok, Err, subst, inl, inr, rules}
use Rattle.std.specs.Prelude.{is_ok, is_some, map, IsSome, IfErr, IfOk, IfSome}
use Rattle.std.specs.List.{AllByRecursion}
use Rattle.std.specs.Option.{option_and_then}
use Rattle.vr_disk.specs.DiskState.{Disk, Face, IsFace, Runs, RunsFrom}
use Rattle.vr_super.specs.declared.reading.Reading.{Reading}
use Rattle.vr_super.specs.declared.recovering.CopyVerdict.{CopyVerdict}
use Rattle.vr_super.specs.declared.recovering.FindFault.{FindFault}
use Rattle.vr_super.specs.declared.recovering.FindFault.TheVariants as find
use Rattle.vr_super.specs.declared.recovering.FoundValue.{FoundValue}
use Rattle.vr_super.specs.declared.recovering.SuperFault.{SuperFault}
use Rattle.vr_super.specs.declared.recovering.SuperFault.TheVariants as fault
use Rattle.vr_super.specs.Copies.{SuperValue, value_of, version_at}
use Rattle.vr_super.specs.Calls.{mend_calls}
use Rattle.vr_super.specs.Opens.{good_copies, opened, opens}
use Rattle.vr_super.specs.Laws.{MendKeeps, Mended}
use Rattle.vr_super.specs.Recovers.{Chosen, Finds, IsFound, IsUnread, Recovers, RecoversFrom}
use Rattle.vr_super.specs.Seen.{IsHonest, seen}
use Rattle.vr_super.proofs.Best.{Among, opened_among}
use Rattle.vr_super.proofs.Format.{versioned}
use Rattle.vr_super.proofs.Keeping.{mend_law, mend_leaves}

seen_good : (b : List ℕ) (r : Reading) → IsHonest r → seen r ≡ Some b → is_some (value_of b) ≡ true
seen_good b r h e =
    elim r.good as (λ x. r.good ≡ x → cond x (Some r.bytes) None ≡ Some b → is_some (value_of b) ≡ true) [
      | true ↦ λ x e. let same : r.bytes ≡ b = cc in ap (λ y. is_some (value_of y)) (sym same) ∙ h.good x
      | false ↦ λ x e. absurd cc
    ] refl e

among_good : (b : List ℕ) (rs : List Reading) → AllByRecursion IsHonest rs → Among b (map seen rs) → is_some (value_of b) ≡ true
among_good b [] h a = elim a [ ]
among_good b (r ∷ rs) h (inl e) = seen_good b r h.0 e
among_good b (r ∷ rs) h (inr a) = among_good b rs h.1 a

-- what is opened of honest copies is good
pub opened_good : (b : List ℕ) (rs : List Reading) → AllByRecursion IsHonest rs → opened (map seen rs) ≡ Some b → is_some (value_of b) ≡ true
opened_good b rs h e = among_good b rs h (opened_among b (map seen rs) e)

pub chosen_some : (copies : List (Option (List ℕ))) (b : List ℕ) (v : SuperValue) → opened copies ≡ Some b → value_of b ≡ Some v → option_and_then value_of (opened copies) ≡ Some v
chosen_some copies b v e h = rw e h

unread : (b : List ℕ) (o : Option SuperValue) → value_of b ≡ o → is_some o ≡ true → IsUnread o (version_at b)
unread b None e h = absurd cc
unread b (Some v) e h = record { value = v; opens = refl; named = versioned b v e }

pub chosen_unread : (copies : List (Option (List ℕ))) (b : List ℕ) → opened copies ≡ Some b → is_some (value_of b) ≡ true → IsUnread (option_and_then value_of (opened copies)) (version_at b)
chosen_unread copies b e h = rw e (unread b (value_of b) refl h)

-- ---- over a disk

-- what copies open as that are those of the disk, it opens as
pub chosen_from : (t : Option Disk) (copies : List (Option (List ℕ))) (r : Result SuperValue FindFault) → IfSome t (λ d. copies ≡ good_copies d.face) → Chosen copies r → IfSome t (λ d. Chosen (good_copies d.face) r)
chosen_from None copies r s c = tt
chosen_from (Some d) copies r s c = subst (λ (cs : List (Option (List ℕ))). Chosen cs r) s c

pub opens_chosen : (f : Face) (v : SuperValue) → Chosen (good_copies f) (Ok v) → opens f ≡ Some v
unfolding opens
opens_chosen f v c = c

fails_on : (f : Face) (e : FindFault) → Chosen (good_copies f) (Err e) → Finds f (Err e)
unfolding opens
fails_on f (find.Lost vs) c = c
fails_on f (find.NoMemory version) c = c

pub fails : (t : Option Disk) (e : FindFault) → IfSome t (λ d. Chosen (good_copies d.face) (Err e)) → IfSome t (λ d. Finds d.face (Err e))
fails None e c = tt
fails (Some d) e c = fails_on d.face e c

-- copies that may differ are read again
pub found_apart : (t : Option Disk) (v : SuperValue) → IfSome t (λ d. Chosen (good_copies d.face) (Ok v)) → IfSome t (λ d. IsFound d.face (record { value = v; alike = false }))
found_apart None v c = tt
found_apart (Some d) v c = record { opens = opens_chosen d.face v c; alike = λ e. absurd cc }

-- ---- the value that was found, mended

mended_on : (d : Disk) (new : Option Disk) (v : SuperValue) (r : Result SuperValue SuperFault) → opens d.face ≡ Some v → RunsFrom (mend_calls v) (Some d) new (is_ok r) → IfOk r (λ x. x ≡ v) → IfErr r (λ e. e ≡ fault.DiskFault) → Recovers d new r
mended_on d new v (Ok x) o h k f = subst (λ (y : SuperValue). Recovers d new (Ok y)) (sym k) (o, h)
mended_on d new v (Err e) o h k f = subst (λ (y : SuperFault). Recovers d new (Err y)) (sym f) (record { value = v; opens = o; ran = h })

pub mended_from : (t mid new : Option Disk) (found : FoundValue) (r : Result SuperValue SuperFault) → mid ≡ t → IfSome t (λ d. IsFound d.face found) → RunsFrom (mend_calls found.value) mid new (is_ok r) → IfOk r (λ x. x ≡ found.value) → IfErr r (λ e. e ≡ fault.DiskFault)
    → RecoversFrom t new r
mended_from None mid new found r m s h k f = let h' : RunsFrom (mend_calls found.value) None new (is_ok r) = rw m at h in h'
mended_from (Some d) mid new found r m s h k f = let h' : RunsFrom (mend_calls found.value) (Some d) new (is_ok r) = rw m at h in mended_on d new found.value r s.opens h' k f

pub lost_from : (t new : Option Disk) (vs : List CopyVerdict) → new ≡ t → IfSome t (λ d. Finds d.face (Err (find.Lost vs))) → RecoversFrom t new (Err (fault.Lost vs))
lost_from None new vs n c = n
lost_from (Some d) new vs n c = (c.0, n, c.1)

pub wanted_from : (t new : Option Disk) (version : ℕ) → new ≡ t → IfSome t (λ d. Finds d.face (Err (find.NoMemory version))) → RecoversFrom t new (Err fault.NoMemory)
wanted_from None new version n c = n
wanted_from (Some d) new version n c = (subst (λ (o : Option SuperValue). IsSome o) (sym c.opens) (search rules), n)

-- ---- what a stop leaves, and what the call leaves

pub mends : (t : Option Disk) → IfSome t (λ d. IsFace d.face) → IfSome t (λ d. d.face.waiting ≡ [] → (v : SuperValue) → opens d.face ≡ Some v → MendKeeps v d.face)
mends None w = tt
mends (Some d) w = λ n v o. mend_law v d.face w n o

same_value : (o : Option SuperValue) (v x : SuperValue) → o ≡ Some v → o ≡ Some x → x ≡ v
same_value o v x a b = let same : Some x ≡ Some v = sym b ∙ a in cc

-- nothing was written
unwritten : (v : SuperValue) (d : Disk) (new : Option Disk) → opens d.face ≡ Some v → new ≡ Some d → IfSome new (λ e. Mended v false e.face)
unwritten v d new o e = rw e (record { done = λ x. absurd cc; kept = λ t. o })

left_on : (d : Disk) (new : Option Disk) (r : Result SuperValue SuperFault) → IsFace d.face → Recovers d new r → d.face.waiting ≡ [] → (v : SuperValue) → opens d.face ≡ Some v → IfSome new (λ e. Mended v (is_ok r) e.face)
left_on d new (Ok x) w h n v o =
    let same = same_value (opens d.face) v x o h.0 in
    let ran : Runs (mend_calls v d.face) (Some d) new true = subst (λ (y : SuperValue). Runs (mend_calls y d.face) (Some d) new true) same h.1 in
    rw ran.0 (mend_leaves v d true w n o ran.1)
left_on d new (Err (fault.Lost vs)) w h n v o = let none : None ≡ Some v = sym h.0 ∙ o in absurd cc
left_on d new (Err fault.DiskFault) w h n v o =
    let same = same_value (opens d.face) v h.value o h.opens in
    let ran : Runs (mend_calls v d.face) (Some d) new false = subst (λ (y : SuperValue). Runs (mend_calls y d.face) (Some d) new false) same h.ran in
    rw ran.0 (mend_leaves v d false w n o ran.1)
left_on d new (Err fault.NoMemory) w h n v o = unwritten v d new o h.1

pub left_by : (t new : Option Disk) (r : Result SuperValue SuperFault) → IfSome t (λ d. IsFace d.face) → RecoversFrom t new r
    → IfSome t (λ d. d.face.waiting ≡ [] → (v : SuperValue) → opens d.face ≡ Some v → IfSome new (λ e. Mended v (is_ok r) e.face))
left_by None new r w h = tt
left_by (Some d) new r w h = left_on d new r w h

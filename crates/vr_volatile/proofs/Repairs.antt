-- What repair looks for and changes.
use Rattle.std.proofs.Common.{arith, ℕ, zero, suc, ◌+◌, ◌-◌, ◌≤◌, ◌<◌, ◌≡◌, ◌^◌, refl, sym, ap, ◌∙◌, true, false, Bool, List, [], ◌∷◌, length, drop, get_or, Option, Some, None, add-one}
use Rattle.std.specs.Prelude.{find}
use Rattle.std.specs.List.{prefix_len}
use Rattle.std.specs.Option.{option_and_then, option_map_or}
use Rattle.std.proofs.lemmas.Bool.{cond_both, eqb-false}
use Rattle.std.proofs.lemmas.List.{drop_all, get_or-drop}
use Rattle.std.proofs.lemmas.List.FromFn.{length-range_with_len}
use Rattle.std.proofs.lemmas.List.Sums.{prefix_len-le-length}
use Rattle.vr_ckpt.specs.declared.name.Name.{Name}
use Rattle.vr_header.specs.declared.header.Header.{Header}
use Rattle.vr_header.specs.declared.part.Part.{Part}
use Rattle.vr_header.specs.declared.part.Part.TheVariants.{Here, Lost, Wanted, Unknown, Nothing}
use Rattle.vr_header.specs.Made.{IsEntryHeader}
use Rattle.vr_msg.specs.Choice.{ops}
use Rattle.vr_header.specs.Parts.{header_of}
use Rattle.vr_rules.specs.Replica.{Replica, head, is_absent, is_alone, part_at, parts_from}
use Rattle.vr_rules.specs.Rules.{not_worn, without}
use Rattle.vr_rules.specs.Words.{advanced, has_quorum, least_absent, turned}
use Rattle.vr_rules.proofs.Heads.{part_within}
use Rattle.vr_rules.proofs.Keeping.{sound_alike, sound_commit}
use Rattle.vr_rules.proofs.Reacting.{kept_without}
use Rattle.vr_rules.proofs.SavesCore.{sound_size}
use Rattle.vr_rules.proofs.SavesWell.{savable_alike}
use Rattle.vr_rules.proofs.Storing.{head_number}
use Rattle.vr_volatile.specs.Absent.{absent_header, first_absent}
use Rattle.vr_volatile.specs.Ready.{IsReady}

-- ---- absent entries

pub absent_more : (xs : List Part) (i : ℕ) → absent_header (get_or xs i Nothing) ≡ None → first_absent (drop i xs) ≡ first_absent (drop (i + 1) xs)
absent_more [] zero e = refl
absent_more [] (suc i) e = rw add-one refl
absent_more (Here h ∷ xs) zero e = refl
absent_more (Lost h ∷ xs) zero e = absurd cc
absent_more (Wanted h ∷ xs) zero e = absurd cc
absent_more (Unknown ∷ xs) zero e = refl
absent_more (Nothing ∷ xs) zero e = refl
absent_more (x ∷ xs) (suc i) e = rw add-one (rw add-one at (absent_more xs i e))

pub absent_found : (xs : List Part) (i : ℕ) (h : Header) → absent_header (get_or xs i Nothing) ≡ Some h → first_absent (drop i xs) ≡ Some h
absent_found [] zero h e = absurd cc
absent_found [] (suc i) h e = absurd cc
absent_found (Here g ∷ xs) zero h e = absurd cc
absent_found (Lost g ∷ xs) zero h e = e
absent_found (Wanted g ∷ xs) zero h e = e
absent_found (Unknown ∷ xs) zero h e = absurd cc
absent_found (Nothing ∷ xs) zero h e = absurd cc
absent_found (x ∷ xs) (suc i) h e = absent_found xs i h e

pub absent_past : (xs : List Part) (i : ℕ) → length xs ≤ i → first_absent (drop i xs) ≡ None
absent_past xs i l = rw (drop_all i xs l) refl

-- ---- how far a quorum reaches

ops_more : (i h : ℕ) → i < h → ops i h ≡ (i + 1) ∷ ops (i + 1) h
ops_more i h l = let e : h - i ≡ suc (h - (i + 1)) = omega arith in rw e refl

pub agreed_more : (p : ℕ → Bool) (i h : ℕ) → i < h → p (i + 1) ≡ true → i + prefix_len p (ops i h) ≡ (i + 1) + prefix_len p (ops (i + 1) h)
agreed_more p i h l e = rw (ops_more i h l, e) (omega arith)

pub agreed_stops : (p : ℕ → Bool) (i h : ℕ) → i < h → p (i + 1) ≡ false → i + prefix_len p (ops i h) ≡ i
agreed_stops p i h l e = rw (ops_more i h l, e) (omega arith)

pub agreed_ends : (p : ℕ → Bool) (i h : ℕ) → h ≤ i → i + prefix_len p (ops i h) ≡ i
agreed_ends p i h l = let e : h - i ≡ zero = omega arith in rw e (omega arith)

-- ---- readiness

pub ready_advanced : (r q : Replica) → q ≡ advanced r → IsReady r → IsReady q
unfolding IsReady advanced
ready_advanced r q e h =
    let n : ℕ = prefix_len (has_quorum r) (ops r.commit (head r)) in
    let few = prefix_len-le-length (has_quorum r) (ops r.commit (head r)) in
    let size = length-range_with_len (r.commit + 1) (head r - r.commit) in
    let known = h.sound.order.known in
    rw e (record {
      sound = sound_commit r (r.commit + n) (omega arith) (omega (arith, few, size, known)) h.sound;
      savable = savable_alike r (record r { commit = r.commit + n }) refl h.savable;
      idle = h.idle;
      fits = h.fits;
    })

pub ready_turned : (r q : Replica) → q ≡ turned r → IsReady r → IsReady q
unfolding IsReady
ready_turned r q e h = rw e (record { sound = sound_alike r (turned r) refl h.sound; savable = savable_alike r (turned r) refl h.savable; idle = h.idle; fits = h.fits })

pub ready_dropped : (name : Name) (r q : Replica) → q ≡ without name r → IsReady r → IsReady q
unfolding IsReady
ready_dropped name r q e h = rw e (record { sound = (kept_without name r h.sound).sound; savable = savable_alike r (without name r) refl h.savable; idle = h.idle; fits = h.fits })

pub ready_unworn : (name : Name) (r q : Replica) → q ≡ not_worn name r → IsReady r → IsReady q
unfolding IsReady
ready_unworn name r q e h = rw e (record { sound = sound_alike r (not_worn name r) refl h.sound; savable = savable_alike r (not_worn name r) refl h.savable; idle = h.idle; fits = h.fits })

-- the numbers of a ready replica fit into messages
pub ready_commit : (r : Replica) → IsReady r → r.commit ≤ 2 ^ 62
unfolding IsReady
ready_commit r h = let known = h.sound.order.known in let top = head_number r h.sound in omega arith

-- where its group has another replica, there are two
pub ready_size : (r : Replica) → IsReady r → is_alone r ≡ false → 2 ≤ r.n
unfolding IsReady
ready_size r h e = let size = sound_size r h.sound in let other = eqb-false r.n 1 e in omega (arith, size, other)

-- ---- what is asked for is an entry's header

found_place : (p : Part → Bool) (xs : List Part) (x : Part) → find p xs ≡ Some x → (i : ℕ) × (get_or xs i Nothing ≡ x)
found_place p [] x e = absurd cc
found_place p (y ∷ xs) x e =
    cond_both (p y) (Some y) (find p xs) (λ o. o ≡ Some x → (i : ℕ) × (get_or (y ∷ xs) i Nothing ≡ x)) (λ t k. (0, cc)) (λ f k. let there = found_place p xs x k in (suc there.0, there.1)) e

absent_part : (o : Option Part) (h : Header) → option_and_then header_of o ≡ Some h → (p : Part) × (o ≡ Some p) × (header_of p ≡ Some h)
absent_part None h e = absurd cc
absent_part (Some p) h e = (p, refl, e)

-- from a place on
absent_in : (r : Replica) (h : Header) (n : ℕ) → IsReady r → option_and_then header_of (find is_absent (drop n r.parts)) ≡ Some h → IsEntryHeader h
unfolding IsReady
absent_in r h n ready e =
    let p = absent_part (find is_absent (drop n r.parts)) h e in
    let i = found_place is_absent (drop n r.parts) p.0 p.1 in
    let k : ℕ = r.first + (n + i.0) in
    let place : k - r.first ≡ n + i.0 = omega arith in
    let there : part_at r k ≡ p.0 = part_within r k (omega arith) ∙ ap (λ j. get_or r.parts j Nothing) place ∙ sym (get_or-drop n r.parts i.0 Nothing) ∙ i.1 in
    (ready.sound.entries.each k h (ap header_of there ∙ p.2)).1.entry

absent_either : (r : Replica) (h : Header) (a b : ℕ) (o : Option Part) → find is_absent (drop a r.parts) ≡ o → IsReady r → option_and_then header_of (option_map_or Some o (find is_absent (drop b r.parts))) ≡ Some h → IsEntryHeader h
absent_either r h a b (Some p) i ready e = absent_in r h a ready (ap (option_and_then header_of) i ∙ e)
absent_either r h a b None i ready e = absent_in r h b ready e

pub ready_absent : (r : Replica) (h : Header) → IsReady r → least_absent r ≡ Some h → IsEntryHeader h
ready_absent r h ready e = absent_either r h (r.applied + 1 - r.first) (r.checkpoint + 1 - r.first) (find is_absent (drop (r.applied + 1 - r.first) r.parts)) refl ready e

-- the first of these, or else of those
none_absent : (ps : List Part) → option_and_then header_of (find is_absent ps) ≡ None → find is_absent ps ≡ None
none_absent [] e = refl
none_absent (Here h ∷ ps) e = none_absent ps e
none_absent (Lost h ∷ ps) e = absurd cc
none_absent (Wanted h ∷ ps) e = absurd cc
none_absent (Unknown ∷ ps) e = none_absent ps e
none_absent (Nothing ∷ ps) e = none_absent ps e

first_least : (a b : Option Part) (h : Header) → option_and_then header_of a ≡ Some h → Some h ≡ option_and_then header_of (option_map_or Some a b)
first_least None b h e = absurd cc
first_least (Some p) b h e = sym e

pub least_first : (r : Replica) (h : Header) → first_absent (parts_from r (r.applied + 1)) ≡ Some h → Some h ≡ least_absent r
least_first r h e = first_least (find is_absent (parts_from r (r.applied + 1))) (find is_absent (parts_from r (r.checkpoint + 1))) h e

pub least_second : (r : Replica) (o : Option Header) → first_absent (parts_from r (r.applied + 1)) ≡ None → o ≡ first_absent (parts_from r (r.checkpoint + 1)) → o ≡ least_absent r
least_second r o none e = rw (none_absent (parts_from r (r.applied + 1)) none) e

-- The entry of a header, as it is found.
use Rattle.std.proofs.Common.{arith, inl, inr, ◌≤◌, cond, drop, length-take, Result, Ok, Err, ◌≡◌, ◌∙◌, refl, sym, ap, subst, ℕ, List, Option, Some, None, true, false, is_some, take, length, min}
use Rattle.std.specs.Prelude.{IfSome, IfOk, is_ok, ◌↔◌, IsTrue}
use Rattle.std.specs.Option.{option_map, option_and_then}
use Rattle.std.specs.Int.{w32}
use Rattle.std.proofs.lemmas.Bool.{cases_lt, cond_both, true≢false}
use Rattle.std.proofs.lemmas.List.{take_all}
use Rattle.vr_base.specs.Bytes.{number}
use Rattle.vr_disk.specs.declared.fault.Faulty.{Faulty}
use Rattle.vr_disk.specs.DiskState.{Disk, Face}
use Rattle.vr_header.specs.declared.header.Header.{Header}
use Rattle.vr_header.specs.Made.{Whole, entry_of}
use Rattle.vr_header.specs.Same.{same_header}
use Rattle.vr_header.proofs.SameHeaders.{same_header_of, same_header_is}
use Rattle.vr_rings.specs.Readings.{BeginsWith, Found}
use Rattle.vr_base.specs.Bytes.{is_zeros}
use Rattle.vr_rings.specs.Slots.{IsWhole, entry_for, size_at, slot_of, whole_in, whole_of}
use Rattle.vr_rings.proofs.Spelling.{whole_again}

-- the bytes of the entry with which a buffer begins
abbrev FrontOf : List ℕ → List ℕ
FrontOf b = take (min (number w32 104 (take 4096 b)) 4096) (take 4096 b)

begun : (h : Header) (b : List ℕ) (w : BeginsWith h b) → whole_of (take 4096 b) ≡ Some w.entry
begun h b w = rw w.bytes (whole_again w.entry w.whole)

whole_entry : (b : List ℕ) (e : Whole) → whole_of b ≡ Some e → entry_of (take (size_at b) b) ≡ Some e
unfolding whole_of
whole_entry b e h = elim (is_zeros (drop (size_at b) b)) as (λ z. cond z (entry_of (take (size_at b) b)) None ≡ Some e → entry_of (take (size_at b) b) ≡ Some e) [
  | true ↦ λ k. k
  | false ↦ λ k. absurd cc
] h

take_min : (n m : ℕ) (xs : List ℕ) → length xs ≤ m → take (min n m) xs ≡ take n xs
take_min n m xs l = elim (cases_lt n m) [
  | inl low ↦ let e : min n m ≡ n = omega arith in rw e refl
  | inr high ↦ let e : min n m ≡ m = omega arith in rw (e, take_all m xs l, take_all n xs (omega arith)) refl
]

front_is : (h : Header) (b part : List ℕ) (w : BeginsWith h b) → length b ≡ 4096 → part ≡ FrontOf b → entry_of part ≡ Some w.entry
unfolding size_at
front_is h b part w n e =
    let p : List ℕ = take 4096 b in
    let short : length p ≤ 4096 = let k = length-take 4096 b in omega arith in
    rw (e, take_min (number w32 104 p) 4096 p short) (whole_entry p w.entry (begun h b w))

pub entry_there : (h : Header) (b part : List ℕ) → BeginsWith h b → length b ≡ 4096 → part ≡ FrontOf b → is_some (entry_of part) ≡ true
entry_there h b part w n e = rw (front_is h b part w n e) refl

pub entry_is : (h : Header) (b part : List ℕ) (x : Whole) → BeginsWith h b → length b ≡ 4096 → part ≡ FrontOf b → entry_of part ≡ Some x
    → (whole_of (take 4096 b) ≡ Some x) × (x.header ≡ h) × IsWhole x
entry_is h b part x w n e f =
    let same : w.entry ≡ x = let k : Some w.entry ≡ Some x = sym (front_is h b part w n e) ∙ f in cc in
    (begun h b w ∙ ap (λ (y : Whole). Some y) same, ap (λ (y : Whole). y.header) (sym same) ∙ w.header, subst IsWhole same w.whole)

read_same : (ver : ℕ) (h : Header) (f : Face) (b : List ℕ) (e : Whole) → Found ver f (slot_of h) b → whole_of (take 4096 b) ≡ Some e → e.header ≡ h → entry_for ver f h ≡ Some e
unfolding whole_in
read_same ver h f b e found is same = rw (found, is, same_header_of e.header h same) refl

read_none : (ver : ℕ) (h : Header) (f : Face) → (option_map (λ e. e.header) (whole_in ver f (slot_of h)) ≡ Some h → ⊥) → entry_for ver f h ≡ None
read_none ver h f never =
    elim (whole_in ver f (slot_of h)) as (λ o. (option_map (λ e. e.header) o ≡ Some h → ⊥) → option_and_then (λ (e : Whole). cond (same_header e.header h) (Some e) None) o ≡ None) [
      | None ↦ λ n. refl
      | Some e ↦ λ n. cond_both (same_header e.header h) (Some e) None (λ (x : Option Whole). x ≡ None) (λ t. absurd (n (ap Some (same_header_is e.header h t)))) (λ t. refl)
    ] never

-- on a disk that may tell
pub found_entry : (ver : ℕ) (h : Header) (t : Option Disk) (b : List ℕ) (e : Whole) (slot : ℕ) (r : Result (Unit {0}) Faulty) → slot ≡ slot_of h → IfSome t (λ d. IfOk r (λ u. Found ver d.face slot b)) → r ≡ Ok tt
    → whole_of (take 4096 b) ≡ Some e → e.header ≡ h → IfSome t (λ d. Some e ≡ entry_for ver d.face h)
found_entry ver h None b e slot r at f ok is same = tt
found_entry ver h (Some d) b e slot r at f ok is same =
    let k : Found ver d.face (slot_of h) b = rw (ok, at) at f in
    sym (read_same ver h d.face b e k is same)

pub found_none : (ver : ℕ) (h : Header) (t : Option Disk) (slot : ℕ) (fault : Faulty) (r : Result (Unit {0}) Faulty) → slot ≡ slot_of h
    → IfSome t (λ d. IsTrue (is_ok r) ↔ (option_map (λ e. e.header) (whole_in ver d.face slot) ≡ Some h)) → r ≡ Err fault → IfSome t (λ d. None ≡ entry_for ver d.face h)
found_none ver h None slot fault r at f err = tt
found_none ver h (Some d) slot fault r at f err =
    let k : IsTrue false ↔ (option_map (λ e. e.header) (whole_in ver d.face (slot_of h)) ≡ Some h) = rw (err, at) at f in
    sym (read_none ver h d.face (λ e. true≢false (sym (k.1 e))))

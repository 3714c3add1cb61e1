-- Calls that stop, by a cut or by a call that fails.
use Rattle.std.proofs.Common.{ℕ, zero, suc, ◌-◌, ◌≤◌, ◌<◌, ◌≡◌, inl, inr, arith, refl, sym, ap, ◌∙◌, false, List, [], ◌∷◌, ◌++◌, length, take, Option, None, Some, subst}
use Rattle.std.specs.List.{AllByRecursion}
use Rattle.vr_disk.specs.DiskState.{Call, Face, after, after_all, cell, cut, reads, waits}
use Rattle.vr_disk.specs.Stops.{IsLeft, Spares, Stops, WritesOnly, halted}
use Rattle.vr_disk.proofs.Frames.{frame_all, frame_cut}
use Rattle.vr_disk.proofs.Outcomes.{all_leaves, cut_leaves}

-- by a cut, and before a call
pub cut_is : (cs : List Call) (f : Face) (j code : ℕ) → cut j code f cs ≡ halted (Some code) j f cs
unfolding cut halted
cut_is [] f j code = refl
cut_is (c ∷ cs) f zero code = refl
cut_is (c ∷ cs) f (suc j) code = cut_is cs (after f c) j code

pub front_is : (cs : List Call) (f : Face) (j : ℕ) → after_all f (take j cs) ≡ halted None j f cs
unfolding halted
front_is [] f zero = refl
front_is [] f (suc j) = refl
front_is (c ∷ cs) f zero = refl
front_is (c ∷ cs) f (suc j) = front_is cs (after f c) j

pub stop_is : (cs : List Call) (f g : Face) → Stops cs f g → (h : Option ℕ) × (j : ℕ) × (g ≡ halted h j f cs)
stop_is cs f g s =
    elim s.left [
      | inl e ↦ (None, s.calls, e ∙ front_is cs f s.calls)
      | inr p ↦ (Some p.0, s.calls, p.1 ∙ cut_is cs f s.calls p.0)
    ]

take_all_of : (P : Call → Type 0) (cs : List Call) (j : ℕ) → AllByRecursion P cs → AllByRecursion P (take j cs)
take_all_of P [] zero a = tt
take_all_of P [] (suc j) a = tt
take_all_of P (c ∷ cs) zero a = tt
take_all_of P (c ∷ cs) (suc j) a = (a.0, take_all_of P cs j a.1)

pub frame_halted : (cs : List Call) (f : Face) (i : ℕ) (h : Option ℕ) (j : ℕ) → AllByRecursion (Spares i) cs → waits i f.waiting ≡ false → cell (halted h j f cs) i ≡ cell f i
frame_halted cs f i None j s n = ap (λ g. cell g i) (sym (front_is cs f j)) ∙ frame_all (take j cs) f i (take_all_of (Spares i) cs j s)
frame_halted cs f i (Some code) j s n = ap (λ g. cell g i) (sym (cut_is cs f j code)) ∙ frame_cut cs f i j code s n

pub halt_leaves : (cs : List Call) (f : Face) (i : ℕ) (b : List ℕ) (h : Option ℕ) (j : ℕ) → i < length f.cells → AllByRecursion (WritesOnly i b) cs → waits i f.waiting ≡ false → IsLeft (reads f i) b (reads (halted h j f cs) i)
halt_leaves cs f i b None j l w n = subst (λ g. IsLeft (reads f i) b (reads g i)) (front_is cs f j) (all_leaves (take j cs) f i b l (take_all_of (WritesOnly i b) cs j w) n)
halt_leaves cs f i b (Some code) j l w n = subst (λ g. IsLeft (reads f i) b (reads g i)) (cut_is cs f j code) (cut_leaves cs f i b j code l w n)

-- a stop in calls and then others
pub record Halts (cs ds : List Call) (f : Face) (h : Option ℕ) (j : ℕ) : Type 0 where
  pub first : j < length cs → halted h j f (cs ++ ds) ≡ halted h j f cs
  pub later : length cs ≤ j → halted h j f (cs ++ ds) ≡ halted h (j - length cs) (after_all f cs) ds

pub halts_both : (cs ds : List Call) (f : Face) (h : Option ℕ) (j : ℕ) → Halts cs ds f h j
unfolding halted
halts_both [] ds f h j = record { first = λ l. absurd (omega arith); later = λ l. let e : j - 0 ≡ j = omega arith in rw e refl }
halts_both (c ∷ cs) ds f h zero = record { first = λ l. refl; later = λ l. absurd (omega arith) }
halts_both (c ∷ cs) ds f h (suc j) =
    let rest = halts_both cs ds (after f c) h j in
    let e : suc j - length (c ∷ cs) ≡ j - length cs = omega arith in
    record { first = λ l. rest.first (omega arith); later = λ l. rw e (rest.later (omega arith)) }

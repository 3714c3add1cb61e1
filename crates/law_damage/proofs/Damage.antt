-- Which disks read alike, and that the premise stands on both or on neither.
use Rattle.std.proofs.Common.{ℕ, ◌+◌, ◌<◌, ◌≡◌, ◌≢◌, ◌∙◌, inl, inr, arith, refl, sym, ap, true, false, List, [], Option, Some, None, get_or-set_other}
use Rattle.std.specs.Prelude.{is_some}
use Rattle.std.specs.Option.{option_map, option_map_or}
use Rattle.std.proofs.lemmas.Bool.{cases_lt, or_parts}
use Rattle.std.proofs.lemmas.List.{append-nil}
use Rattle.vr_base.specs.Bytes.{is_zeros}
use Rattle.vr_base.specs.declared.mode.Mode.{Mode}
use Rattle.vr_base.specs.declared.mode.Mode.TheVariants.{Strict, Careful}
use Rattle.vr_disk.specs.DiskState.{Cell, Face, blank, cell, reads}
use Rattle.vr_disk.specs.Regions.{header_place, prepare_place, prepare_sectors}
use Rattle.vr_disk.specs.Sectors.{behind, together}
use Rattle.vr_disk.proofs.Together.{together_same}
use Rattle.vr_mem.specs.Lies.{lied}
use Rattle.vr_rings.specs.Held.{MayRead, is_header_sector, is_prepare}
use Rattle.vr_rings.specs.Moving.{is_movable}
use Rattle.vr_rings.specs.Slots.{header_of, header_reading, padded, prepare_reading}
use Rattle.law_damage.specs.Alike.{Region, Header, Prepare, IsIn, ReadAlike, count, place, verifies}
use Rattle.law_damage.specs.Laws as law
use Rattle.law_damage.proofs.Twins.{AlikeAt, verifies_still}

-- ---- one sector that reads otherwise

lied_other : (f : Face) (i k : ℕ) (a : Option (List ℕ)) → i ≢ k → reads (lied f i a) k ≡ reads f k
unfolding lied
lied_other f i k a d = ap (λ (c : Cell). c.reads) (get_or-set_other f.cells i k (record (cell f i) { reads = a }) blank (λ e. d (sym e)))

others_same : (v : ℕ) (f : Face) (i : ℕ) (a b : Option (List ℕ)) (r : Region) → ((k : ℕ) → IsIn v r k → i ≢ k) → AlikeAt v (lied f i a) (lied f i b) r
others_same v f i a b r h = inl (λ k x. lied_other f i k b (h k x) ∙ sym (lied_other f i k a (h k x)))

pub damage : law.DamageAlike
damage v f i a b h =
    record {
      each = λ r x.
          elim (cases_lt i (place v r)) [
            | inl low ↦ others_same v f i a b r (λ k y e. let l = y.0 in omega (arith, low, l, e))
            | inr up ↦
                elim (cases_lt i (place v r + count v r)) [
                  | inl within ↦ inr (h r x (up, within))
                  | inr high ↦ others_same v f i a b r (λ k y e. let l = y.1 in omega (arith, high, l, e))
                ]
          ];
    }

-- ---- one after another

both_joined : (v : ℕ) (f g h : Face) (r : Region) → AlikeAt v f g r → AlikeAt v g h r → AlikeAt v f h r
both_joined v f g h r (inl s) (inl t) = inl (λ k i. t k i ∙ s k i)
both_joined v f g h r (inl s) (inr n) = inr (record { first = sym (verifies_still v f g r s) ∙ n.first; second = n.second })
both_joined v f g h r (inr n) (inl t) = inr (record { first = n.first; second = verifies_still v g h r t ∙ n.second })
both_joined v f g h r (inr n) (inr m) = inr (record { first = n.first; second = m.second })

both_turned : (v : ℕ) (f g : Face) (r : Region) → AlikeAt v f g r → AlikeAt v g f r
both_turned v f g r (inl s) = inl (λ k i. sym (s k i))
both_turned v f g r (inr n) = inr (record { first = n.second; second = n.first })

pub chains : law.AlikeChains
chains = record {
  same = λ v f. record { each = λ r i. inl (λ k x. refl) };
  turned = λ v f g a. record { each = λ r i. both_turned v f g r (a.each r i) };
  joined = λ v f g h a b. record { each = λ r i. both_joined v f g h r (a.each r i) (b.each r i) };
}

-- ---- the premise

alone : (x : Face) (i : ℕ) → together i 1 x ≡ reads x i
unfolding together
alone x i = elim (reads x i) as (λ o. behind o (Some []) ≡ o) [ None ↦ refl | Some b ↦ ap Some (append-nil b) ]

-- a header sector that is valid on the one reads so on the other
header_there : (v : ℕ) (f g : Face) (slot : ℕ) (header : List ℕ) → slot < 64 → ReadAlike v f g → header_reading g slot ≡ Some header → is_header_sector header ≡ true → header_reading f slot ≡ Some header
header_there v f g slot header l a e good =
    elim (a.each (Header slot) l) [
      | inl s ↦ sym (s (header_place slot) (omega arith, omega arith)) ∙ e
      | inr n ↦
          let is : verifies v g (Header slot) ≡ true = ap (λ (o : Option (List ℕ)). option_map_or (λ b. is_some (header_of b)) o false) (alone g (header_place slot) ∙ e) ∙ good in
          let no : true ≡ false = sym is ∙ n.second in absurd cc
    ]

-- what doesn't verify is neither a whole entry nor zeros
judged : (v : ℕ) (o : Option (List ℕ)) (p : List ℕ) → option_map_or (λ b. is_movable (padded v b)) o false ≡ false → option_map (padded v) o ≡ Some p → is_movable p ≡ false
judged v None p e x = absurd cc
judged v (Some b) p e x = let same : padded v b ≡ p = cc in sym (ap (λ (z : List ℕ). is_movable z) same) ∙ e

reads_there : (v : ℕ) (mode : Mode) (f g : Face) (slot : ℕ) (p : List ℕ) → slot < 64 → ReadAlike v f g → is_prepare p ≡ true → MayRead mode p (prepare_reading v f slot) → MayRead mode p (prepare_reading v g slot)
reads_there v Strict f g slot p l a whole m =
    elim (a.each (Prepare slot) l) [
      | inl s ↦ ap (option_map (padded v)) (together_same (prepare_sectors v) (prepare_place v slot) f g (λ k x y. s k (x, y))) ∙ m
      | inr n ↦
          let bad = judged v (together (prepare_place v slot) (prepare_sectors v) f) p n.first m in
          let no : true ≡ false = sym whole ∙ (or_parts (is_prepare p) (is_zeros p) bad).0 in absurd cc
    ]
reads_there v Careful f g slot p l a whole m = λ other e good.
    elim (a.each (Prepare slot) l) [
      | inl s ↦ m other (sym (ap (option_map (padded v)) (together_same (prepare_sectors v) (prepare_place v slot) f g (λ k x y. s k (x, y)))) ∙ e) good
      | inr n ↦
          let bad = judged v (together (prepare_place v slot) (prepare_sectors v) g) other n.second e in
          let no : true ≡ false = sym good ∙ bad in absurd cc
    ]

pub premise : law.PremiseAlike
premise v mode f g slot held l a whole h =
    record { prepare = λ p header is e good other. reads_there v mode f g slot p l a (whole p is) (h.prepare p header is (header_there v f g slot header l a e good) good other) }

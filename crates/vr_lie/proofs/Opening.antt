-- What a disk opens as, by the copy that has it.
use Rattle.std.proofs.Common.{ℕ, zero, suc, ◌+◌, ◌*◌, ◌<◌, ◌≡◌, refl, sym, ap, ◌∙◌, arith, true, false, cond, List, [], ◌∷◌, length, get_or, Option, Some, None, inl, inr}
use Rattle.std.specs.Prelude.{is_some}
use Rattle.std.specs.Option.{option_map, option_and_then}
use Rattle.vr_base.specs.Bytes.{IsBytes}
use Rattle.vr_disk.specs.DiskState.{Face, IsFace, reads}
use Rattle.vr_disk.specs.Sectors.{has, together}
use Rattle.vr_disk.proofs.Together.{has_is, is_has, together_bytes, together_same}
use Rattle.vr_super.specs.declared.opening.Found.{Found}
use Rattle.vr_super.specs.Copies.{SuperValue, copy_bytes, value_of}
use Rattle.vr_super.specs.Opens.{copy_reading, found_as, found_of, good_copies, good_copy, if_good, opened, opens, place_of}
use Rattle.vr_super.proofs.Best.{Among, opened_among}
use Rattle.vr_super.proofs.Format.{value_found}

-- a good copy is read whole
good_is : (o : Option (List ℕ)) (b : List ℕ) → if_good o ≡ Some b → (o ≡ Some b) × (is_some (value_of b) ≡ true)
good_is None b e = absurd cc
good_is (Some c) b e =
    elim (is_some (value_of c)) as (λ x. is_some (value_of c) ≡ x → cond x (Some c) None ≡ Some b → (Some c ≡ Some b) × (is_some (value_of b) ≡ true)) [
      | true ↦ λ x e. (e, let same : c ≡ b = cc in ap (λ c. is_some (value_of c)) (sym same) ∙ x)
      | false ↦ λ x e. absurd cc
    ] refl e

good_copy_is : (f : Face) (copy : ℕ) (b : List ℕ) → good_copy f copy ≡ Some b → (together (20 * copy) 20 f ≡ Some b) × (is_some (value_of b) ≡ true)
unfolding good_copy copy_reading
good_copy_is f copy b e = good_is (copy_reading f copy) b e

place_cons : (b : List ℕ) (c : Option (List ℕ)) (cs : List (Option (List ℕ))) → place_of b (c ∷ cs) ≡ cond (has b c) 0 (1 + place_of b cs)
unfolding place_of
place_cons b c cs = refl

-- the place of bytes is one of a copy that has them
place_is : (b : List ℕ) (cs : List (Option (List ℕ))) → Among b cs → (place_of b cs < length cs) × (get_or cs (place_of b cs) None ≡ Some b)
place_is b [] a = elim a [ ]
place_is b (c ∷ cs) a =
    elim (has b c) as (λ x. has b c ≡ x → (place_of b (c ∷ cs) < length (c ∷ cs)) × (get_or (c ∷ cs) (place_of b (c ∷ cs)) None ≡ Some b)) [
      | true ↦ λ x.
          let p : place_of b (c ∷ cs) ≡ 0 = place_cons b c cs ∙ ap (λ y. cond y 0 (1 + place_of b cs)) x in
          (omega arith, ap (λ n. get_or (c ∷ cs) n None) p ∙ has_is b c x)
      | false ↦ λ x.
          let p : place_of b (c ∷ cs) ≡ suc (place_of b cs) = place_cons b c cs ∙ (ap (λ y. cond y 0 (1 + place_of b cs)) x ∙ omega arith) in
          let a' : Among b cs = elim a [ inl e ↦ (let y = is_has b c e in absurd cc) | inr a ↦ a ] in
          let r = place_is b cs a' in
          (let l = r.0 in omega arith, ap (λ n. get_or (c ∷ cs) n None) p ∙ r.1)
    ] refl

pub record Opened (f : Face) (copy : ℕ) : Type 0 where
  pub within : copy < 4
  pub bytes : List ℕ
  pub opened : opened (good_copies f) ≡ Some bytes
  pub reads : together (20 * copy) 20 f ≡ Some bytes

at_place : (f : Face) (n : ℕ) (b : List ℕ) → n < 4 → get_or (good_copies f) n None ≡ Some b → good_copy f n ≡ Some b
at_place f zero b l e = e
at_place f (suc zero) b l e = e
at_place f (suc (suc zero)) b l e = e
at_place f (suc (suc (suc zero))) b l e = e
at_place f (suc (suc (suc (suc n)))) b l e = absurd (omega arith)

found_is : (f : Face) (o : Option (List ℕ)) (x : Found) → opened (good_copies f) ≡ o → Some x ≡ option_map (found_as (good_copies f)) o → Opened f x.copy
found_is f None x o e = absurd cc
found_is f (Some b) x o e =
    let same : x ≡ found_as (good_copies f) b = cc in
    let place : x.copy ≡ place_of b (good_copies f) = ap (λ (x : Found). x.copy) same in
    let p = place_is b (good_copies f) (opened_among b (good_copies f) o) in
    let l : x.copy < 4 = let y = p.0 in omega arith in
    let there : get_or (good_copies f) x.copy None ≡ Some b = ap (λ n. get_or (good_copies f) n None) place ∙ p.1 in
    record { within = l; bytes = b; opened = o; reads = (good_copy_is f x.copy b (at_place f x.copy b l there)).0 }

pub found_opened : (f : Face) (x : Found) → Some x ≡ found_of (good_copies f) → Opened f x.copy
unfolding found_of
found_opened f x e = found_is f (opened (good_copies f)) x refl e

none_is : (f : Face) (o : Option (List ℕ)) → opened (good_copies f) ≡ o → None ≡ option_map (found_as (good_copies f)) o → opened (good_copies f) ≡ None
none_is f None o e = o
none_is f (Some b) o e = absurd cc

pub found_none : (f : Face) → None ≡ found_of (good_copies f) → opened (good_copies f) ≡ None
unfolding found_of
found_none f e = none_is f (opened (good_copies f)) refl e

-- ---- the value and its bytes

among_good : (f : Face) (b : List ℕ) → Among b (good_copies f) → (copy : ℕ) × (copy < 4) × (good_copy f copy ≡ Some b)
among_good f b (inl e) = (0, omega arith, e)
among_good f b (inr (inl e)) = (1, omega arith, e)
among_good f b (inr (inr (inl e))) = (2, omega arith, e)
among_good f b (inr (inr (inr (inl e)))) = (3, omega arith, e)
among_good f b (inr (inr (inr (inr a)))) = elim a [ ]

opens_by : (f : Face) (o : Option (List ℕ)) → opened (good_copies f) ≡ o → opens f ≡ option_and_then value_of o
unfolding opens
opens_by f o e = ap (option_and_then value_of) e

some_value : (o : Option SuperValue) → is_some o ≡ true → (v : SuperValue) × (o ≡ Some v)
some_value None e = absurd cc
some_value (Some v) e = (v, refl)

-- what is opened has a value, of which it is the one spelling
pub record Valued (f : Face) (b : List ℕ) : Type 0 where
  pub value : SuperValue
  pub opens : opens f ≡ Some value
  pub bytes : b ≡ copy_bytes value

valued : (f : Face) (b : List ℕ) → IsFace f → opened (good_copies f) ≡ Some b → Valued f b
valued f b w o =
    let a = among_good f b (opened_among b (good_copies f) o) in
    let g = good_copy_is f a.0 b a.2 in
    let v = some_value (value_of b) g.1 in
    let is : IsBytes b = together_bytes 20 (20 * a.0) f w (let l = a.1 in omega arith) b g.0 in
    record { value = v.0; opens = opens_by f (Some b) o ∙ v.1; bytes = (value_found b v.0 is v.1).0 }

-- disks open as one value exactly where they open as the same bytes
opens_apart : (f g : Face) (o p : Option (List ℕ)) → IsFace f → IsFace g → opened (good_copies f) ≡ o → opened (good_copies g) ≡ p → opens g ≡ opens f → p ≡ o
opens_apart f g None None w x a b e = refl
opens_apart f g None (Some c) w x a b e = let v = valued g c x b in let n = opens_by f None a in let no : Some v.value ≡ None = sym v.opens ∙ (e ∙ n) in absurd cc
opens_apart f g (Some c) None w x a b e = let v = valued f c w a in let n = opens_by g None b in let no : Some v.value ≡ None = sym v.opens ∙ (sym e ∙ n) in absurd cc
opens_apart f g (Some c) (Some d) w x a b e =
    let v = valued f c w a in
    let u = valued g d x b in
    let same : Some u.value ≡ Some v.value = sym u.opens ∙ (e ∙ v.opens) in
    let one : u.value ≡ v.value = cc in
    ap Some (u.bytes ∙ (ap copy_bytes one ∙ sym v.bytes))

pub same_opened : (f g : Face) → IsFace f → IsFace g → opens g ≡ opens f → opened (good_copies g) ≡ opened (good_copies f)
same_opened f g w x e = opens_apart f g (opened (good_copies f)) (opened (good_copies g)) w x refl refl e

pub same_opens : (f g : Face) → opened (good_copies g) ≡ opened (good_copies f) → opens g ≡ opens f
unfolding opens
same_opens f g e = ap (option_and_then value_of) e

-- a disk whose first 80 sectors read the same opens the same
copy_same : (f g : Face) (copy : ℕ) → copy < 4 → ((k : ℕ) → k < 80 → reads g k ≡ reads f k) → good_copy g copy ≡ good_copy f copy
unfolding good_copy copy_reading
copy_same f g copy l h = ap if_good (together_same 20 (20 * copy) f g (λ k a b. h k (omega arith)))

pub opened_same : (f g : Face) → ((k : ℕ) → k < 80 → reads g k ≡ reads f k) → opened (good_copies g) ≡ opened (good_copies f)
opened_same f g h = rw (copy_same f g 0 (omega arith) h, copy_same f g 1 (omega arith) h, copy_same f g 2 (omega arith) h, copy_same f g 3 (omega arith) h) refl

-- what is read of the copy that has the value
pub opening_is : (f g : Face) (copy : ℕ) (r : Option (List ℕ)) → Opened f copy → g ≡ f → together (20 * copy) 20 g ≡ r → opened (good_copies f) ≡ r
opening_is f g copy r o e h = o.opened ∙ (sym o.reads ∙ (ap (together (20 * copy) 20) (sym e) ∙ h))

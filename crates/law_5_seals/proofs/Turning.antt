-- Bytes whose bits are turned, twice are what they were; and what stands in front of bytes.
use Rattle.std.proofs.Common.{ℕ, suc, ◌-◌, ◌<◌, ◌≤◌, ◌≡◌, ◌⊎◌, inl, inr, arith, refl, sym, ap, ◌∙◌, subst, true, List, [], ◌∷◌, get_or, Some, None, Result, Ok, Err}
use Rattle.std.specs.Prelude.{bit_xor, bit_and, ◌%◌}
use Rattle.std.specs.Option.{option_map_or}
use Rattle.std.specs.Int.Bits.{xor_add_and}
use Rattle.std.proofs.lemmas.Nat.{and_mask}
use Rattle.std.proofs.lemmas.List.{get_or-map}
use Rattle.vr_base.specs.Bytes.{IsBytes}
use Rattle.vr_disk.specs.DiskState.{IsContent, damaged}
use Rattle.vr_disk.proofs.Faces.{damaged_content}
use Rattle.vr_header.specs.declared.header.Header.{Header}
use Rattle.vr_header.specs.declared.header.HeaderFault.{HeaderFault}
use Rattle.vr_header.specs.Made.{is_entry_header}
use Rattle.vr_header.specs.Spelling.{IsHeader, Spells, decoded, decoded_header, fault_of}
use Rattle.vr_header.proofs.Faults.{IsSound, sound}
use Rattle.vr_header.proofs.HeaderLaws.{decoded_again}
use Rattle.law_1_machine.specs.Basics.{In}
use Rattle.law_5_seals.specs.Seals.{Fronts, IsSealed, spelled_from}

-- ---- turned twice

pub byte_turned : (x : ℕ) → x < 256 → bit_xor x 255 ≡ 255 - x
byte_turned x l =
    let a = xor_add_and x 255 in
    let b : bit_and x 255 ≡ x % 256 = and_mask x 8 in
    let c : x % 256 ≡ x = omega (arith, l) in
    omega (arith, a, b, c, l)

byte_twice : (x : ℕ) → x < 256 → bit_xor (bit_xor x 255) 255 ≡ x
byte_twice x l =
    let a = byte_turned x l in
    let b : bit_xor x 255 < 256 = omega (arith, a, l) in
    let c = byte_turned (bit_xor x 255) b in
    omega (arith, a, c, l)

pub twice : (b : List ℕ) → IsBytes b → damaged (damaged b) ≡ b
twice [] h = refl
twice (x ∷ b) h = let one = byte_twice x (h 0) in let rest = twice b (λ i. h (suc i)) in ap (λ y. y ∷ damaged (damaged b)) one ∙ ap (λ ys. x ∷ ys) rest

-- ---- a front

pub no_fault : (b : List ℕ) (h : Header) → decoded b ≡ Ok h → fault_of b ≡ None
no_fault b h e =
    elim (fault_of b) as (λ o. option_map_or Err o (Ok (decoded_header b)) ≡ Ok h → o ≡ None) [
      | None ↦ λ e. refl
      | Some x ↦ λ e. absurd cc
    ] e

pub front_sound : (b : List ℕ) (h : Header) → Fronts b h → IsSound b
front_sound b h f = sound b (no_fault b h f.reads)

pub front_version : (b : List ℕ) (h : Header) → Fronts b h → (1 ≤ get_or b 110 0) × (get_or b 110 0 ≤ 2)
front_version b h f = (front_sound b h f).version

pub turned_at : (b : List ℕ) (i : ℕ) → IsContent b → i < 512 → get_or (damaged b) i 0 ≡ 255 - get_or b i 0
turned_at b i c l = let n = c.size in let each = c.each i in get_or-map (λ b. bit_xor b 255) b i 0 0 (omega (arith, n, l)) ∙ byte_turned (get_or b i 0) each

pub turned_version : (b : List ℕ) (h : Header) → IsContent b → Fronts (damaged b) h → (253 ≤ get_or b 110 0) × (get_or b 110 0 ≤ 254)
turned_version b h c f = let v = front_version (damaged b) h f in let t = turned_at b 110 c (omega arith) in let small = c.each 110 in (omega (arith, v, t, small), omega (arith, v, t, small))

-- ---- seals

-- no version of a header, as it is or with its bits turned
abbrev pub IsFree : ℕ → Type 0
IsFree x = (x ≡ 0) ⊎ ((3 ≤ x) × (x ≤ 252))

module _ (cluster : ℕ) (made : List Header) where
  pub plain_sealed : (b : List ℕ) → IsContent b → IsFree (get_or b 110 0) → IsSealed cluster made b
  plain_sealed b c (inl none) = record { content = c; front = λ h f _. (let v = front_version b h f in absurd (omega (arith, none, v))); turned = λ h f _. (let v = turned_version b h c f in absurd (omega (arith, none, v))) }
  plain_sealed b c (inr other) = record { content = c; front = λ h f _. (let v = front_version b h f in absurd (omega (arith, other, v))); turned = λ h f _. (let v = turned_version b h c f in absurd (omega (arith, other, v))) }

  -- 255 is none either, and turned it is 0
  pub ones_sealed : (b : List ℕ) → IsContent b → get_or b 110 0 ≡ 255 → IsSealed cluster made b
  ones_sealed b c e = record { content = c; front = λ h f _. (let v = front_version b h f in absurd (omega (arith, e, v))); turned = λ h f _. (let v = turned_version b h c f in absurd (omega (arith, e, v))) }

  same_read : (a b : Header) (r : Result Header HeaderFault) → r ≡ Ok a → r ≡ Ok b → a ≡ b
  same_read a b r e f = cc

  -- one that was made stands there, if it is that of an entry
  pub headed_sealed : (b : List ℕ) (h : Header) → IsContent b → IsHeader h → Spells h b → (is_entry_header h ≡ true → h.op < spelled_from h.cluster → h.cluster ≡ cluster → In h made) → IsSealed cluster made b
  headed_sealed b h c i s m =
      let read = decoded_again h b i s in
      let version = (sound b (no_fault b h read)).version in
      record {
        content = c;
        front = λ x f own.
            let same = same_read h x (decoded b) read f.reads in
            let entry = subst (λ (x : Header). is_entry_header x ≡ true) (sym same) f.entry in
            let low = subst (λ (x : Header). x.op < spelled_from x.cluster) (sym same) f.low in
            subst (λ (x : Header). In x made) same (m entry low (subst (λ (x : Header). x.cluster ≡ cluster) (sym same) own));
        turned = λ x f _. (let v = turned_version b x c f in absurd (omega (arith, v, version)));
      }

  pub turned_sealed : (b : List ℕ) → IsSealed cluster made b → IsSealed cluster made (damaged b)
  turned_sealed b s = record { content = damaged_content b s.content; front = s.turned; turned = λ h f own. s.front h (subst (λ (x : List ℕ). Fronts x h) (twice b s.content.each) f) own }

-- what is sealed stays so where more is made
pub sealed_more : (cluster : ℕ) (some more : List Header) (b : List ℕ) → ((h : Header) → In h some → In h more) → IsSealed cluster some b → IsSealed cluster more b
sealed_more cluster some more b m s = record { content = s.content; front = λ h f own. m h (s.front h f own); turned = λ h f own. m h (s.turned h f own) }

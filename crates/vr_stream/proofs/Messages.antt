-- The messages at the front of bytes, one after the other.
use Rattle.std.proofs.Common.{◌≡◌, ◌∙◌, ◌≤◌, ◌+◌, ◌-◌, ℕ, zero, suc, nat_le, Bool, true, false, List, [], ◌∷◌, ◌++◌, length, take, drop, Option, Some, None, Result, Ok, Err, refl, ap, sym, inl, inr, arith}
use Rattle.std.specs.Prelude.{is_ok}
use Rattle.std.specs.Option.{option_map_or}
use Rattle.std.proofs.lemmas.Grind.{common_steps}
use Rattle.std.proofs.lemmas.List.{length-append, length-drop, take_at}
use Rattle.vr_header.specs.Spelling.{decoded}
use Rattle.vr_header.specs.declared.header.Header.{Header}
use Rattle.vr_header.specs.declared.header.HeaderFault.{HeaderFault}
use Rattle.vr_codec.proofs.Decided.{inspected_again}
use Rattle.vr_codec.proofs.Fitting.{long_of}
use Rattle.vr_codec.specs.Shapes.{inspected}
use Rattle.vr_msg.specs.Spelling.{frame_header}
use Rattle.vr_stream.proofs.Fronts.{fronted}
use Rattle.vr_stream.specs.Cutting.{IsMessage, IsShort, first_message, first_sized, first_with, messages, messages_in, rest_in, rest_of}

-- a message at the front is found
pub first_there : (front rest bytes : List ℕ) → IsMessage front → front ++ rest ≡ bytes → first_message bytes ≡ Some front
unfolding first_message
first_there front rest bytes (m, s) j =
    let f = fronted m front rest bytes s j in
    let cut : take (length front) bytes ≡ front = ap (take (length front)) (sym j) ∙ take_at front rest (length front) refl in
    let good : inspected front ≡ Ok (frame_header m) = inspected_again m front s in
    let long : nat_le 128 (length front) ≡ true = grind (arith, f.long) in
    let fits : nat_le (length front) (length bytes) ≡ true = grind (arith, f.there) in
    let passes : is_ok (inspected (take (length front) bytes)) ≡ true = ap (λ b. is_ok (inspected b)) cut ∙ ap is_ok good in
    ap (first_with bytes) f.decodes ∙ ap (λ n. first_sized n bytes) f.size ∙ rw (long, fits, passes) (ap Some cut)

-- none is found where the bytes are short of one
pub none_short : (bytes : List ℕ) → IsShort bytes → first_message bytes ≡ None
unfolding first_message
none_short bytes (inl less) =
    let cases : (r : Result Header HeaderFault) → decoded bytes ≡ r → first_with bytes r ≡ None =
    elim [
      | Ok h ↦ λ d. let long = long_of bytes h d in absurd (let clash : 1 ≤ 0 = omega (arith, less, long) in omega (arith, clash))
      | Err f ↦ λ d. refl
    ] in
    cases (decoded bytes) refl
none_short bytes (inr (h, d, less)) =
    let past : nat_le h.size (length bytes) ≡ false = grind (arith, less) in
    let size : first_sized h.size bytes ≡ None = grind (arith, common_steps, past) in
    ap (first_with bytes) d ∙ size

-- one that is found has some bytes, and is the front of them
pub record Found (bytes m : List ℕ) : Type 0 where
  pub long : 1 ≤ length m
  pub there : length m ≤ length bytes
  pub front : take (length m) bytes ≡ m

sized_found : (size : ℕ) (bytes m : List ℕ) → first_sized size bytes ≡ Some m → Found bytes m
sized_found size bytes m e =
    let cases : (a b c : Bool) → nat_le 128 size ≡ a → nat_le size (length bytes) ≡ b → is_ok (inspected (take size bytes)) ≡ c → Found bytes m =
    elim [
      | true ↦ elim [
        | true ↦ elim [
          | true ↦ λ p q r.
              let same : take size bytes ≡ m = (let o : first_sized size bytes ≡ Some (take size bytes) = rw (p, q, r) refl in let t : Some (take size bytes) ≡ Some m = sym o ∙ e in cc) in
              let count : length (take size bytes) ≡ size = grind (arith, common_steps, q) in
              let all : length m ≡ size = ap length (sym same) ∙ count in
              record { long = grind (arith, p, all); there = grind (arith, q, all); front = ap (λ n. take n bytes) all ∙ same }
          | false ↦ λ p q r. absurd (let o : first_sized size bytes ≡ None = rw (p, q, r) refl in let t : None ≡ Some m = sym o ∙ e in cc)
        ]
        | false ↦ λ c p q r. absurd (let o : first_sized size bytes ≡ None = rw (p, q) refl in let t : None ≡ Some m = sym o ∙ e in cc)
      ]
      | false ↦ λ b c p q r. absurd (let o : first_sized size bytes ≡ None = rw p refl in let t : None ≡ Some m = sym o ∙ e in cc)
    ] in
    cases (nat_le 128 size) (nat_le size (length bytes)) (is_ok (inspected (take size bytes))) refl refl refl

pub first_found : (bytes m : List ℕ) → first_message bytes ≡ Some m → Found bytes m
unfolding first_message
first_found bytes m e =
    let cases : (r : Result Header HeaderFault) → decoded bytes ≡ r → first_with bytes r ≡ Some m → Found bytes m =
    elim [
      | Ok h ↦ λ d x. sized_found h.size bytes m x
      | Err f ↦ λ d x. absurd (let t : None ≡ Some m = x in cc)
    ] in
    cases (decoded bytes) refl e

pub none_behind : (n : ℕ) (bytes : List ℕ) → first_message bytes ≡ None → (messages_in n bytes ≡ []) × (rest_in n bytes ≡ bytes)
unfolding messages_in rest_in
none_behind zero bytes e = (refl, refl)
none_behind (suc n) bytes e = (
  ap (λ o. option_map_or (λ (m : List ℕ). m ∷ messages_in n (drop (length m) bytes)) o []) e,
  ap (λ o. option_map_or (λ (m : List ℕ). rest_in n (drop (length m) bytes)) o bytes) e,
)

pub one_behind : (n : ℕ) (bytes m : List ℕ) → first_message bytes ≡ Some m
    → (messages_in (suc n) bytes ≡ m ∷ messages_in n (drop (length m) bytes)) × (rest_in (suc n) bytes ≡ rest_in n (drop (length m) bytes))
unfolding messages_in rest_in
one_behind n bytes m e = (
  ap (λ o. option_map_or (λ (m : List ℕ). m ∷ messages_in n (drop (length m) bytes)) o []) e,
  ap (λ o. option_map_or (λ (m : List ℕ). rest_in n (drop (length m) bytes)) o bytes) e,
)

pub none_found : first_message [] ≡ None
none_found = none_short [] (inl (omega arith))

-- no more messages are found where more are looked for than there are bytes
same_found : (n k : ℕ) (bytes : List ℕ) → length bytes ≤ n → length bytes ≤ k → (messages_in n bytes ≡ messages_in k bytes) × (rest_in n bytes ≡ rest_in k bytes)
same_found zero k bytes a b =
    let empty : bytes ≡ [] = grind (arith, common_steps, a) in
    let e : first_message bytes ≡ None = ap first_message empty ∙ none_found in
    let p = none_behind zero bytes e in
    let q = none_behind k bytes e in
    (p.0 ∙ sym q.0, p.1 ∙ sym q.1)
same_found (suc n) zero bytes a b =
    let empty : bytes ≡ [] = grind (arith, common_steps, b) in
    let e : first_message bytes ≡ None = ap first_message empty ∙ none_found in
    let p = none_behind (suc n) bytes e in
    let q = none_behind zero bytes e in
    (p.0 ∙ sym q.0, p.1 ∙ sym q.1)
same_found (suc n) (suc k) bytes a b =
    let cases : (o : Option (List ℕ)) → first_message bytes ≡ o → (messages_in (suc n) bytes ≡ messages_in (suc k) bytes) × (rest_in (suc n) bytes ≡ rest_in (suc k) bytes) =
    elim [
      | None ↦ λ e.
          let p = none_behind (suc n) bytes e in
          let q = none_behind (suc k) bytes e in
          (p.0 ∙ sym q.0, p.1 ∙ sym q.1)
      | Some m ↦ λ e.
          let f = first_found bytes m e in
          let left : length (drop (length m) bytes) ≡ length bytes - length m = length-drop (length m) bytes in
          let long = f.long in
          let i = same_found n k (drop (length m) bytes) (omega (arith, left, long, a)) (omega (arith, left, long, b)) in
          let p = one_behind n bytes m e in
          let q = one_behind k bytes m e in
          (p.0 ∙ (ap (λ ms. m ∷ ms) i.0 ∙ sym q.0), p.1 ∙ (i.1 ∙ sym q.1))
    ] in
    cases (first_message bytes) refl

-- where no message stands at the front there is none
pub no_messages : (bytes : List ℕ) → first_message bytes ≡ None → (messages bytes ≡ []) × (rest_of bytes ≡ bytes)
unfolding messages rest_of
no_messages bytes e = none_behind (length bytes) bytes e

-- a message at the front, and those after it
pub next_messages : (front rest bytes : List ℕ) → IsMessage front → front ++ rest ≡ bytes → (messages bytes ≡ front ∷ messages rest) × (rest_of bytes ≡ rest_of rest)
unfolding messages rest_of
next_messages front rest bytes x j =
    let e = first_there front rest bytes x j in
    let f = first_found bytes front e in
    let long = f.long in
    let total : length front + length rest ≡ length bytes = sym (length-append front rest) ∙ ap length j in
    let more : length bytes ≡ suc (length bytes - 1) = omega (arith, long, total) in
    let behind : drop (length front) bytes ≡ rest = ap (drop (length front)) (sym j) ∙ grind (arith, common_steps) in
    let p = one_behind (length bytes - 1) bytes front e in
    let i = same_found (length bytes - 1) (length rest) rest (omega (arith, long, total)) (omega arith) in (
      ap (λ n. messages_in n bytes) more ∙ (p.0 ∙ ap (λ ms. front ∷ ms) (ap (messages_in (length bytes - 1)) behind ∙ i.0)),
      ap (λ n. rest_in n bytes) more ∙ (p.1 ∙ (ap (rest_in (length bytes - 1)) behind ∙ i.1)),
    )

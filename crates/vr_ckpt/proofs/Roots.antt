-- A root, number by number and name by name.
use Rattle.std.proofs.Common.{ℕ, suc, ◌+◌, ◌-◌, ◌*◌, ◌≤◌, ◌<◌, ◌≡◌, arith, refl, sym, ap, ◌∙◌, true, false, cond, eqb, leb, ltb, ◌&&◌, List, [], ◌∷◌, ◌++◌, length, drop, get_or, Option, Some, None, append_assoc}
use Rattle.std.specs.Option.{option_map}
use Rattle.std.specs.Int.{w16, w64}
use Rattle.std.proofs.lemmas.Bool.{and_parts, eqb-true, leb-true, ltb-false}
use Rattle.std.proofs.lemmas.List.{append-nil, at_drop_more, at_drop_all}
use Rattle.vr_state.specs.StateTexts.{key_payloads, payloads, session_payloads}
use Rattle.vr_base.specs.Bytes.{bytes64, number}
use Rattle.vr_ckpt.specs.declared.name.Name.{Name}
use Rattle.vr_ckpt.specs.Loads.{has_numbers, keys_size, name_at, names_at, sessions_size, with_name}
use Rattle.vr_ckpt.specs.Places.{is_place, place_of}
use Rattle.vr_ckpt.specs.Saves.{names_bytes}
use Rattle.vr_ckpt.specs.declared.places.Places.{Places}
use Rattle.vr_ckpt.specs.declared.table.Payload.{Payload}

names_cons : (l : Places) (m : ℕ) (b : List ℕ) (i n : ℕ) → names_at l m b i (suc n) ≡ with_name (place_of l m) (name_at b i) (names_at l (m + 1) b (i + 1) n)
unfolding names_at
names_cons l m b i n = refl

names_step : (l : Places) (b : List ℕ) (first count k : ℕ) → k < count
    → names_at l k b (first + k) (count - k) ≡ with_name (place_of l k) (name_at b (first + k)) (names_at l (k + 1) b (first + (k + 1)) (count - (k + 1)))
names_step l b first count k less =
    let n : count - k ≡ suc (count - (k + 1)) = omega arith in
    let i : first + k + 1 ≡ first + (k + 1) = omega arith in
    ap (λ m. names_at l k b (first + k) m) n
    ∙ (names_cons l k b (first + k) (count - (k + 1)) ∙ ap (λ m. with_name (place_of l k) (name_at b (first + k)) (names_at l (k + 1) b m (count - (k + 1)))) i)

pub names_stop : (l : Places) (b : List ℕ) (first count k : ℕ) (n : Name) (ns : List Name) (all : Option (List Name)) → k < count → n ≡ name_at b (first + k) → is_place (place_of l k) n.address ≡ false
    → all ≡ option_map (λ rest. ns ++ rest) (names_at l k b (first + k) (count - k)) → None ≡ all
names_stop l b first count k n ns all less e p h =
    let rest = names_at l (k + 1) b (first + (k + 1)) (count - (k + 1)) in
    sym (h ∙ ap (option_map (λ (r : List Name). ns ++ r)) (names_step l b first count k less ∙ (ap (λ (m : Name). with_name (place_of l k) m rest) (sym e) ∙ ap (λ t. cond t (option_map (λ (r : List Name). n ∷ r) rest) None) p)))

both_maps : (n : Name) (ns : List Name) (o : Option (List Name)) → option_map (λ (r : List Name). ns ++ r) (option_map (λ (r : List Name). n ∷ r) o) ≡ option_map (λ (r : List Name). (ns ++ n ∷ []) ++ r) o
both_maps n ns None = refl
both_maps n ns (Some r) = ap Some (sym (append_assoc ns (n ∷ []) r))

pub names_go : (l : Places) (b : List ℕ) (first count k : ℕ) (n : Name) (ns ns' : List Name) (all : Option (List Name)) → k < count → n ≡ name_at b (first + k) → is_place (place_of l k) n.address ≡ true → ns' ≡ ns ++ n ∷ []
    → all ≡ option_map (λ rest. ns ++ rest) (names_at l k b (first + k) (count - k))
    → all ≡ option_map (λ rest. ns' ++ rest) (names_at l (k + 1) b (first + (k + 1)) (count - (k + 1)))
names_go l b first count k n ns ns' all less e p s h =
    let rest = names_at l (k + 1) b (first + (k + 1)) (count - (k + 1)) in
    h ∙ (ap (option_map (λ (r : List Name). ns ++ r)) (names_step l b first count k less ∙ (ap (λ (m : Name). with_name (place_of l k) m rest) (sym e) ∙ ap (λ t. cond t (option_map (λ (r : List Name). n ∷ r) rest) None) p))
    ∙ (both_maps n ns rest ∙ ap (λ (x : List Name). option_map (λ (r : List Name). x ++ r) rest) (sym s)))

some_same : (o : Option (List Name)) → o ≡ option_map (λ (r : List Name). [] ++ r) o
some_same None = refl
some_same (Some r) = refl

pub names_start : (l : Places) (b : List ℕ) (first count : ℕ) → names_at l 0 b first count ≡ option_map (λ rest. [] ++ rest) (names_at l 0 b (first + 0) (count - 0))
names_start l b first count =
    let i : first + 0 ≡ first = omega arith in
    let n : count - 0 ≡ count = omega arith in
    rw (i, n) (some_same (names_at l 0 b first count))

pub names_end : (l : Places) (b : List ℕ) (first count k : ℕ) (ns : List Name) (all : Option (List Name)) → count ≤ k → all ≡ option_map (λ rest. ns ++ rest) (names_at l k b (first + k) (count - k)) → Some ns ≡ all
unfolding names_at
names_end l b first count k ns all end h =
    let z : count - k ≡ 0 = omega arith in
    let h' : all ≡ Some (ns ++ []) = rw z at h in
    sym (h' ∙ ap Some (append-nil ns))

-- names written
pub bytes_more : (ps : List Payload) (i : ℕ) (p : Payload) → i < length ps → p ≡ get_or ps i p → names_bytes (drop i ps) ≡ (bytes64 p.name.address ++ p.name.sum.0) ++ names_bytes (drop (i + 1) ps)
unfolding names_bytes
bytes_more ps i p l e =
    at_drop_more names_bytes ps i p l ∙ (ap (λ (q : Payload). bytes64 q.name.address ++ (q.name.sum.0 ++ names_bytes (drop (i + 1) ps))) (sym e) ∙ sym (append_assoc (bytes64 p.name.address) p.name.sum.0 (names_bytes (drop (i + 1) ps))))

pub bytes_end : (ps : List Payload) (i : ℕ) → length ps ≤ i → names_bytes (drop i ps) ≡ []
unfolding names_bytes
bytes_end ps i l = at_drop_all names_bytes ps i l

-- what the numbers say
pub record Numbers (op : ℕ) (b : List ℕ) : Type 0 where
  pub long : 18 ≤ length b
  pub same_op : number w64 0 b ≡ op
  pub sessions : payloads (sessions_size b) ≤ session_payloads
  pub keys : payloads (keys_size b) ≤ key_payloads
  pub size : length b ≡ 18 + 24 * (payloads (sessions_size b) + payloads (keys_size b))

pub numbers_of : (op : ℕ) (b : List ℕ) → has_numbers op b ≡ true → Numbers op b
unfolding has_numbers
numbers_of op b e =
    elim (ltb (length b) 18) as (λ t. ltb (length b) 18 ≡ t → cond t false ((eqb (number w64 0 b) op) && (leb (payloads (sessions_size b)) session_payloads && (leb (payloads (keys_size b)) key_payloads && ((eqb (number w16 16 b) (payloads (sessions_size b) + payloads (keys_size b))) && (eqb (length b) (18 + 24 * (payloads (sessions_size b) + payloads (keys_size b)))))))) ≡ true → Numbers op b) [
      | true ↦ λ t e. absurd cc
      | false ↦ λ t e.
          let p = and_parts (eqb (number w64 0 b) op) _ e in
          let q = and_parts (leb (payloads (sessions_size b)) session_payloads) _ p.1 in
          let r = and_parts (leb (payloads (keys_size b)) key_payloads) _ q.1 in
          let s = and_parts (eqb (number w16 16 b) (payloads (sessions_size b) + payloads (keys_size b))) (eqb (length b) (18 + 24 * (payloads (sessions_size b) + payloads (keys_size b)))) r.1 in
          record {
            long = ltb-false (length b) 18 t;
            same_op = eqb-true (number w64 0 b) op p.0;
            sessions = leb-true (payloads (sessions_size b)) session_payloads q.0;
            keys = leb-true (payloads (keys_size b)) key_payloads r.0;
            size = eqb-true (length b) (18 + 24 * (payloads (sessions_size b) + payloads (keys_size b))) s.1;
          }
    ] refl e

-- What is written at a slot's new place is sealed where what reads is: sectors as they read, zeros, or bytes 255.
use Rattle.std.proofs.Common.{ℕ, zero, suc, ◌+◌, ◌-◌, ◌*◌, ◌<◌, ◌≤◌, ◌≡◌, inl, inr, arith, refl, sym, ap, ◌∙◌, subst, true, false, cond, List, [], ◌∷◌, ◌++◌, length, take, drop, get_or, Option, Some, None, length-append}
use Rattle.std.specs.Prelude.{replicate}
use Rattle.std.specs.List.{AllByRecursion}
use Rattle.std.specs.Option.{option_map}
use Rattle.std.proofs.lemmas.Bool.{cases_lt}
use Rattle.std.proofs.lemmas.List.{drop-append-le, drop_at, get_or-append_right, get_or-replicate, length-drop, length-replicate, take-append-le, take_at}
use Rattle.vr_base.specs.Bytes.{IsBytes, piece}
use Rattle.vr_base.proofs.AreBytes.{IsBytes-append, IsBytes-zeros}
use Rattle.vr_base.proofs.FieldLaws.{get_or-piece}
use Rattle.vr_base.proofs.Places.{drop_both}
use Rattle.vr_disk.specs.DiskState.{Sync, Face, reads}
use Rattle.vr_disk.specs.Regions.{prepare_place, prepare_sectors, sectors}
use Rattle.vr_disk.specs.Sectors.{behind, together, writes}
use Rattle.vr_disk.proofs.Places.{inside}
use Rattle.vr_disk.proofs.Together.{together_cons}
use Rattle.vr_header.specs.declared.header.Header.{Header}
use Rattle.vr_rings.specs.Slots.{padded}
use Rattle.vr_rings.specs.Moving.{is_movable, moved_of, moves, relocated}
use Rattle.law_5_seals.specs.Laws.{MovesAreSealed}
use Rattle.law_5_seals.specs.Seals.{HasSectors, IsSealed, Puts}
use Rattle.law_5_seals.proofs.Contents.{has_at}
use Rattle.law_5_seals.proofs.Sectors.{at_piece, piece_content, seals_append, seals_writes}
use Rattle.law_5_seals.proofs.Turning.{ones_sealed}

-- ---- several sectors together

pub behind_parts : (a r : Option (List ℕ)) (b : List ℕ) → behind a r ≡ Some b → (x : List ℕ) × (y : List ℕ) × (a ≡ Some x) × (r ≡ Some y) × (b ≡ x ++ y)
behind_parts None r b e = absurd cc
behind_parts (Some x) None b e = absurd cc
behind_parts (Some x) (Some y) b e = let same : x ++ y ≡ b = cc in (x, y, refl, refl, sym same)

-- a prepare is its sectors, in front of zeros
pub padded_parts : (ver : ℕ) (o : Option (List ℕ)) (b : List ℕ) → option_map (padded ver) o ≡ Some b → (x : List ℕ) × (o ≡ Some x) × (b ≡ padded ver x)
padded_parts ver None b e = absurd cc
padded_parts ver (Some x) b e = let same : padded ver x ≡ b = cc in (x, refl, sym same)

record IsFull (n : ℕ) (b : List ℕ) : Type 0 where
  size : length b ≡ 512 * n
  each : IsBytes b

all_255 : (n : ℕ) → IsBytes (replicate n 255)
all_255 zero i = omega arith
all_255 (suc n) zero = omega arith
all_255 (suc n) (suc i) = all_255 n i

module _ (cluster : ℕ) (made : List Header) where
  module _ (f : Face) (s : HasSectors (IsSealed cluster made) f) where
    -- each of them is sealed
    pub together_sealed : (n i : ℕ) (b : List ℕ) → i + n ≤ sectors → together i n f ≡ Some b → (j : ℕ) → j < n → IsSealed cluster made (piece (0 + 512 * j) 512 b)
    unfolding piece
    together_sealed zero i b l e j p = absurd (omega (arith, p))
    together_sealed (suc n) i b l e zero p =
        let x = behind_parts (reads f i) (together (i + 1) n f) b (sym (together_cons n i f) ∙ e) in
        let one = (has_at (IsSealed cluster made) f i s (omega (arith, l))).reads x.0 x.2 in
        let same : x.0 ≡ take 512 b = sym (take_at x.0 x.1 512 one.content.size) ∙ ap (take 512) (sym x.4) in
        subst (IsSealed cluster made) same one
    together_sealed (suc n) i b l e (suc j) p =
        let x = behind_parts (reads f i) (together (i + 1) n f) b (sym (together_cons n i f) ∙ e) in
        let one = (has_at (IsSealed cluster made) f i s (omega (arith, l))).reads x.0 x.2 in
        let rest = together_sealed n (i + 1) x.1 (omega (arith, l)) x.3 j (omega (arith, p)) in
        let place : 512 + (0 + 512 * j) ≡ 0 + 512 * suc j = omega arith in
        let same : drop (0 + 512 * j) x.1 ≡ drop (0 + 512 * suc j) b =
        ap (drop (0 + 512 * j)) (sym (drop_at x.0 x.1 512 one.content.size) ∙ ap (drop 512) (sym x.4)) ∙ (drop_both 512 (0 + 512 * j) b ∙ ap (λ (k : ℕ). drop k b) place) in
        subst (λ (y : List ℕ). IsSealed cluster made (take 512 y)) same rest

    together_full : (n i : ℕ) (b : List ℕ) → i + n ≤ sectors → together i n f ≡ Some b → IsFull n b
    unfolding together
    together_full zero i b l e = let same : [] ≡ b = cc in subst (IsFull 0) same (record { size = refl; each = λ k. omega arith })
    together_full (suc n) i b l e =
        let x = behind_parts (reads f i) (together (i + 1) n f) b e in
        let one = ((has_at (IsSealed cluster made) f i s (omega (arith, l))).reads x.0 x.2).content in
        let rest = together_full n (i + 1) x.1 (omega (arith, l)) x.3 in
        let both : IsFull (suc n) (x.0 ++ x.1) = record { size = (let a = length-append x.0 x.1 in let b = one.size in let c = rest.size in omega (arith, a, b, c)); each = IsBytes-append x.0 x.1 one.each rest.each } in
        subst (IsFull (suc n)) (sym x.4) both

  -- ---- a new prepare

  -- each of its sectors is
  abbrev AreSealedPieces : List ℕ → Type 0
  AreSealedPieces b = (j : ℕ) → j < 8 → IsSealed cluster made (piece (0 + 512 * j) 512 b)

  ones_pieces : AreSealedPieces (replicate 4096 255)
  ones_pieces j l =
      let k = 0 + 512 * j in
      let b : List ℕ = replicate 4096 255 in
      let n = length-replicate {A = ℕ} 4096 255 in
      ones_sealed cluster made (piece k 512 b) (piece_content k b (all_255 4096) (omega (arith, l, n))) (get_or-piece k 512 110 b (omega arith) ∙ get_or-replicate {A = ℕ} 4096 (k + 110) 255 0 (omega (arith, l)))

  piece_front : (k : ℕ) (b z : List ℕ) → k + 512 ≤ length b → piece k 512 (b ++ z) ≡ piece k 512 b
  unfolding piece
  piece_front k b z l = let n = length-drop k b in ap (take 512) (drop-append-le k b z (omega (arith, l))) ∙ take-append-le 512 (drop k b) z (omega (arith, l, n))

  padded_pieces : (n : ℕ) (b : List ℕ) → n ≤ 8 → IsFull n b → ((j : ℕ) → j < n → IsSealed cluster made (piece (0 + 512 * j) 512 b)) → AreSealedPieces (b ++ replicate (4096 - 512 * n) 0)
  padded_pieces n b most w each j l =
      let k = 0 + 512 * j in
      let z : List ℕ = replicate (4096 - 512 * n) 0 in
      let size = w.size in
      let long = length-append b z in
      let zeros = length-replicate {A = ℕ} (4096 - 512 * n) 0 in
      elim (cases_lt j n) [
        | inl there ↦ subst (IsSealed cluster made) (sym (piece_front k b z (omega (arith, there, size)))) (each j there)
        | inr behind ↦
            let zero_there : get_or (b ++ z) (k + 110) 0 ≡ 0 =
            get_or-append_right b z (length b) (k + 110) 0 refl (omega (arith, behind, size)) ∙ get_or-replicate {A = ℕ} (4096 - 512 * n) (k + 110 - length b) 0 0 (omega (arith, behind, size, l)) in
            at_piece cluster made k (b ++ z) (piece_content k (b ++ z) (IsBytes-append b z w.each (IsBytes-zeros (4096 - 512 * n))) (omega (arith, long, zeros, size, l, most))) (inl zero_there)
      ]

  moved_pieces : (o : Option (List ℕ)) → ((p : List ℕ) → o ≡ Some p → AreSealedPieces p) → AreSealedPieces (moved_of o)
  moved_pieces None h = ones_pieces
  moved_pieces (Some p) h = elim (is_movable p) as (λ t. AreSealedPieces (cond t p (replicate 4096 255))) [ true ↦ h p refl | false ↦ ones_pieces ]

  relocated_pieces : (f : Face) → HasSectors (IsSealed cluster made) f → (slot : ℕ) → slot < 64 → AreSealedPieces (relocated f slot)
  relocated_pieces f s slot l =
      let place = prepare_place 1 slot in
      let within = inside 1 slot l in
      moved_pieces (option_map (padded 1) (together place 4 f))
      (λ p e. (let x = padded_parts 1 (together place 4 f) p e in
      subst AreSealedPieces (sym x.2) (padded_pieces 4 x.0 (omega arith) (together_full f s 4 place x.0 within x.1) (together_sealed f s 4 place x.0 within x.1))))

  -- ---- all of them

  moves_sealed : (new : ℕ → List ℕ) → ((slot : ℕ) → slot < 64 → AreSealedPieces (new slot)) → (n slot : ℕ) → slot + n ≤ 64 → AllByRecursion (Puts (IsSealed cluster made)) (moves slot n new)
  unfolding moves
  moves_sealed new h zero slot l = tt
  moves_sealed new h (suc n) slot l =
      seals_append cluster made (writes (prepare_place 2 slot) (prepare_sectors 2) (new slot)) (moves (slot + 1) n new)
      (seals_writes cluster made 8 (prepare_place 2 slot) 0 (new slot) (inside 2 slot (omega (arith, l))) (h slot (omega (arith, l)))) (moves_sealed new h n (slot + 1) (omega (arith, l)))

pub moves_are_sealed : MovesAreSealed
moves_are_sealed cluster made f s = seals_append cluster made (moves 0 64 (relocated f)) (Sync ∷ []) (moves_sealed cluster made (relocated f) (relocated_pieces cluster made f s) 64 0 (omega arith)) (tt, tt)

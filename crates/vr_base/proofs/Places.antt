-- Pieces of given widths, by their places: what stands at each place of joined pieces, and that bytes are the pieces that they
-- are cut into. Serves each layout of fixed places.
use Rattle.std.proofs.Common.{◌≡◌, ℕ, zero, suc, ◌+◌, ◌<◌, List, [], ◌∷◌, ◌++◌, length, take, drop, get_or, refl, sym, ap, ◌∙◌, append_assoc, arith, subst, length-append}
use Rattle.std.proofs.lemmas.Grind.{common_steps}
use Rattle.std.proofs.lemmas.List.{take_all, drop_all, take-append-drop}
use Rattle.vr_base.specs.Bytes.{joined, piece}

-- how long all pieces are together
abbrev pub total : List ℕ → ℕ
total [] = 0
total (w ∷ ws) = w + total ws

-- where the i-th piece begins
abbrev pub place : List ℕ → ℕ → ℕ
place [] i = 0
place (w ∷ ws) zero = 0
place (w ∷ ws) (suc i) = w + place ws i

abbrev pub widths : List (List ℕ) → List ℕ
widths [] = []
widths (p ∷ ps) = length p ∷ widths ps

-- the pieces of bytes from a place on
abbrev pub cut : ℕ → List ℕ → List ℕ → List (List ℕ)
cut at [] bytes = []
cut at (w ∷ ws) bytes = piece at w bytes ∷ cut (at + w) ws bytes

-- the bytes begin with these pieces, which have these widths
pub record BeginsWith (layout : List ℕ) (pieces : List (List ℕ)) (bytes : List ℕ) : Type 0 where
  pub widths : widths pieces ≡ layout
  pub front : take (total layout) bytes ≡ joined pieces

front : (p r : List ℕ) → take (length p) (p ++ r) ≡ p
front [] r = refl
front (x ∷ p) r = ap (λ l. x ∷ l) (front p r)

skip : (p r : List ℕ) (k : ℕ) → drop (length p + k) (p ++ r) ≡ drop k r
skip [] r k = grind (arith, common_steps)
skip (x ∷ p) r k = let e : suc (length p) + k ≡ suc (length p + k) = omega arith in rw e (skip p r k)

at_place : (ps : List (List ℕ)) (rest : List ℕ) (i : ℕ) → i < length ps → take (get_or (widths ps) i 0) (drop (place (widths ps) i) (joined ps ++ rest)) ≡ get_or ps i []
at_place [] rest i l = absurd (omega arith)
at_place (p ∷ ps) rest zero l = rw (append_assoc p (joined ps) rest) (front p (joined ps ++ rest))
at_place (p ∷ ps) rest (suc i) l = rw (append_assoc p (joined ps) rest, skip) (at_place ps rest i (omega arith))

length-widths : (ps : List (List ℕ)) → length (widths ps) ≡ length ps
length-widths [] = refl
length-widths (p ∷ ps) = ap suc (length-widths ps)

-- the piece at a place is the one that was put there
pub piece_there : (layout : List ℕ) (ps : List (List ℕ)) (b : List ℕ) → BeginsWith layout ps b → (i : ℕ) → i < length layout → piece (place layout i) (get_or layout i 0) b ≡ get_or ps i []
unfolding piece
piece_there layout ps b f i l =
    let whole : joined ps ++ drop (total layout) b ≡ b = ap (λ x. x ++ drop (total layout) b) (sym f.front) ∙ take-append-drop (total layout) b in
    let l' : i < length ps = omega (arith, length-widths ps, ap length f.widths) in
    let there = at_place ps (drop (total layout) b) i l' in
    let P : List ℕ → Type 0 = λ bytes. take (get_or (widths ps) i 0) (drop (place (widths ps) i) bytes) ≡ get_or ps i [] in
    let Q : List ℕ → Type 0 = λ ws. take (get_or ws i 0) (drop (place ws i) b) ≡ get_or ps i [] in
    subst Q f.widths (subst P whole there)

pub length-joined : (ps : List (List ℕ)) → length (joined ps) ≡ total (widths ps)
length-joined [] = refl
length-joined (p ∷ ps) = length-append p (joined ps) ∙ ap (λ n. length p + n) (length-joined ps)

pub take_both : (n m : ℕ) (t : List ℕ) → take n t ++ take m (drop n t) ≡ take (n + m) t
take_both zero m t = grind (arith, common_steps)
take_both (suc n) m [] = let e : suc n + m ≡ suc (n + m) = omega arith in rw e (take_all m [] (omega arith))
take_both (suc n) m (x ∷ t) = let e : suc n + m ≡ suc (n + m) = omega arith in rw e (ap (λ l. x ∷ l) (take_both n m t))

pub drop_both : (n m : ℕ) (t : List ℕ) → drop m (drop n t) ≡ drop (n + m) t
drop_both zero m t = grind (arith, common_steps)
drop_both (suc n) m [] = let e : suc n + m ≡ suc (n + m) = omega arith in rw e (drop_all m [] (omega arith))
drop_both (suc n) m (x ∷ t) = let e : suc n + m ≡ suc (n + m) = omega arith in rw e (drop_both n m t)

-- what bytes are cut into makes them again
pub joined-cut : (ws : List ℕ) (at : ℕ) (t : List ℕ) → joined (cut at ws t) ≡ take (total ws) (drop at t)
unfolding piece
joined-cut [] at t = refl
joined-cut (w ∷ ws) at t = ap (λ l. take w (drop at t) ++ l) (joined-cut ws (at + w) t ∙ ap (take (total ws)) (sym (drop_both at w t))) ∙ take_both w (total ws) (drop at t)

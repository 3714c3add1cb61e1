-- Calls that were made one after the other, and a read that is made again.
use Rattle.std.proofs.Common.{arith, refl, sym, ◌≡◌, ◌≢◌, ◌∙◌, ◌<◌, ◌≤◌, length, ap, append_assoc, ℕ, Bool, true, false, inl, inr, List, [], ◌∷◌, ◌++◌, Option, Some, None}
use Rattle.std.proofs.lemmas.List.{append-nil}
use Rattle.vr_file.specs.Calls.{Asked, AsksAgain, Made, Makes, Paused, ReadsAgain}

pub makes_none : (a : Option (List Made)) → Makes [] a a
makes_none None = refl
makes_none (Some x) = ap (λ z. Some z) (sym (append-nil x))

pub makes_then : (cs ds : List Made) (a b c : Option (List Made)) → Makes cs a b → Makes ds b c → Makes (cs ++ ds) a c
makes_then cs ds None b c h g = rw h at g
makes_then cs ds (Some x) b c h g =
    let k : c ≡ Some (x ++ cs ++ ds) = rw h at g in
    k ∙ ap (λ z. Some z) (append_assoc x cs ds)

pub asks_once : (i : ℕ) (pauses : List ℕ) → AsksAgain i pauses true (Asked i true ∷ [])
asks_once i [] = refl
asks_once i (p ∷ ps) = inl (refl, refl)

pub asks_last : (i : ℕ) (pauses : List ℕ) (ok : Bool) → pauses ≡ [] → AsksAgain i pauses ok (Asked i ok ∷ [])
asks_last i pauses ok e = rw e refl

-- what is left of a read that is made again makes it whole
abbrev pub MakesWhole : ℕ → List ℕ → List ℕ → Option (List Made) → Option (List Made) → Type 0
MakesWhole i all left start now = (calls : List Made) (ok : Bool) (new : Option (List Made)) → AsksAgain i left ok calls → Makes calls now new → ReadsAgain i all ok start new

pub whole_first : (i : ℕ) (all : List ℕ) (a : Option (List Made)) → MakesWhole i all all a a
whole_first i all a calls ok new h m = record { calls = calls; again = h; made = m }

pub whole_later : (i p : ℕ) (all left rest : List ℕ) (a b c d : Option (List Made)) → left ≡ p ∷ rest → Makes (Asked i false ∷ []) b c → Makes (Paused p ∷ []) c d
    → MakesWhole i all left a b → MakesWhole i all rest a d
whole_later i p all left rest a b c d e m n h calls ok new x y =
    h (Asked i false ∷ (Paused p ∷ calls)) ok new (rw e (inr (calls, refl, x))) (makes_then (Asked i false ∷ []) (Paused p ∷ calls) b c new m (makes_then (Paused p ∷ []) calls c d new n y))

pub some_left : (pauses : List ℕ) (n : ℕ) → 0 < n → n ≡ length pauses → pauses ≢ []
some_left [] n h e z = omega (arith, h, e)
some_left (p ∷ ps) n h e z = absurd cc

pub none_left : (pauses : List ℕ) (n : ℕ) → n ≤ 0 → n ≡ length pauses → pauses ≡ []
none_left [] n h e = refl
none_left (p ∷ ps) n h e = absurd (omega (arith, h, e))

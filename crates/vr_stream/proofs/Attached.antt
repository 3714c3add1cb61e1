-- What a link over streams tells of its attaches, one after another.
use Rattle.std.proofs.Common.{ℕ, ◌<◌, ◌≤◌, Bool, true, false, List, [], ◌∷◌, Option, Some, None, Result, refl, inl, inr, sym, subst}
use Rattle.vr_edge.specs.Attaching.{attached_by}
use Rattle.vr_edge.specs.Told.{Grows}
use Rattle.vr_edge.specs.declared.attach.Attach.{Attach}
use Rattle.vr_stream.specs.Attaching.{IsAttach, attached_told}

told_on : (over : Bool) (old new : Option (List Attach)) (a : Attach) → Grows old new (a ∷ []) → Grows (attached_told over old) (attached_told over new) (a ∷ [])
told_on false old new a g = g
told_on true old new a g = refl

silent : (old : Option (List Attach)) (a : Attach) → Grows old None (a ∷ [])
silent None a = refl
silent (Some xs) a = tt

told_no_more : (over : Bool) (old new : Option (List Attach)) (a : Attach) → Grows (attached_told over old) (attached_told true new) (a ∷ [])
told_no_more over old new a = silent (attached_told over old) a

-- each attach is one entry more, or none is told from then on
pub attached_more : {E : Type 0} (most count : ℕ) (own : List ℕ) (peers : List (List ℕ)) (over over' : Bool) (old new : Option (List Attach)) (result : Result (Unit {0}) E)
    → IsAttach most count own peers over over' old new result
    → Grows (attached_told over old) (attached_told over' new) (attached_by own peers result ∷ [])
attached_more most count own peers over over' old new result (inl p) =
    subst (λ x. Grows (attached_told over old) (attached_told x new) (attached_by own peers result ∷ [])) (sym p.kept) (told_on over old new (attached_by own peers result) p.attached)
attached_more most count own peers over over' old new result (inr r) =
    subst (λ x. Grows (attached_told over old) (attached_told x new) (attached_by own peers result ∷ [])) (sym r.over) (told_no_more over old new (attached_by own peers result))

pub passed_on : {E : Type 0} (most count : ℕ) (own : List ℕ) (peers : List (List ℕ)) (over : Bool) (old new : Option (List Attach)) (result : Result (Unit {0}) E)
    → count ≤ most → Grows old new (attached_by own peers result ∷ []) → IsAttach most count own peers over over old new result
passed_on most count own peers over old new result few grown = inl (record { few = few; kept = refl; attached = grown })

pub refused : {E : Type 0} (most count : ℕ) (own : List ℕ) (peers : List (List ℕ)) (over : Bool) (old : Option (List Attach)) (result : Result (Unit {0}) E)
    → most < count → IsAttach most count own peers over true old old result
refused most count own peers over old result many = inr (record { many = many; over = refl; same = refl })

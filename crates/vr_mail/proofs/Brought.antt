-- Receives one after another.
use Rattle.std.proofs.Common.{ℕ, List, [], ◌∷◌, ◌++◌, Option, Some, None, refl}
use Rattle.vr_edge.specs.Datagrams.{Arrival, Failed, Nothing, Came}
use Rattle.vr_mail.specs.Letters.{AreBrought, Brings, RefusedAreNothing, Stills}
use Rattle.vr_mail.specs.declared.receiving.Letter.{Letter}

pub brought_more : (version cluster : ℕ) (arrivals : List Arrival) (letters : List (Option Letter)) (a : Arrival) (l : Option Letter)
    → AreBrought version cluster arrivals letters → Brings version cluster a l → AreBrought version cluster (arrivals ++ a ∷ []) (letters ++ l ∷ [])
brought_more version cluster [] [] a l b new = (new, tt)
brought_more version cluster [] (m ∷ ls) a l b new = absurd b
brought_more version cluster (x ∷ xs) [] a l b new = absurd b
brought_more version cluster (x ∷ xs) (m ∷ ls) a l b new = (b.0, brought_more version cluster xs ls a l b.1 new)

pub stilled_one : (version cluster : ℕ) (a s : Arrival) (l : Option Letter) → Brings version cluster a l → Stills version cluster a s → Brings version cluster s l
stilled_one version cluster Failed s l b still = absurd b
stilled_one version cluster Nothing s l b still = rw still b
stilled_one version cluster (Came d) Failed l b still = absurd still
stilled_one version cluster (Came d) Nothing None b still = refl
stilled_one version cluster (Came d) Nothing (Some l) b still = absurd (still l.message b.1)
stilled_one version cluster (Came d) (Came e) None b still = rw still b
stilled_one version cluster (Came d) (Came e) (Some l) b still = rw still b

pub refused_are_nothing : RefusedAreNothing
refused_are_nothing version cluster [] [] ls b s = b
refused_are_nothing version cluster [] (x ∷ ss) ls b s = absurd s
refused_are_nothing version cluster (a ∷ rest) [] ls b s = absurd s
refused_are_nothing version cluster (a ∷ rest) (x ∷ ss) [] b s = absurd b
refused_are_nothing version cluster (a ∷ rest) (x ∷ ss) (l ∷ ls) b s = (stilled_one version cluster a x l b.0 s.0, refused_are_nothing version cluster rest ss ls b.1 s.1)

-- What scripts make of the values that a member has on its disk.
use Rattle.std.proofs.Common.{ℕ, zero, suc, ◌+◌, ◌≡◌, subst, List, [], ◌∷◌, ◌++◌, take, Some}
use Rattle.vr_header.specs.Made.{Whole}
use Rattle.vr_header.specs.declared.part.Part.{Part}
use Rattle.vr_header.specs.declared.part.Part.TheVariants.{Here, Lost, Wanted, Unknown, Nothing}
use Rattle.vr_super.specs.Copies.{SuperValue}
use Rattle.vr_rules.specs.Steps.{Effect, Write, Rewrite, Save, Mend, Checkpoint, PutBlock, Say, output_of}
use Rattle.vr_world.specs.Group.{Member, begins, carried_out, cut_after, ends, keeps_all, keeps_found}
use Rattle.vr_world.specs.Lying.{Lying, lying}
use Rattle.law_2_chains.specs.Chains.{Every}
use Rattle.law_3_outputs.specs.Answering.{lines}
use Rattle.law_6_one_log.proofs.Values.{IsRooted}
use Rattle.law_6_one_log.proofs.Walk.{AllMay, Bears, IsBorne}

module _ (H : List ℕ → Type 0) (cluster : ℕ) (log : List Whole) where
  -- the roots of both are those of checkpoints of the log
  pub record Values (m : Member) : Type 0 where
    pub last : IsRooted H cluster log m.last
    pub under : (v : SuperValue) → m.under ≡ Some v → IsRooted H cluster log v

  begins_values : (e : Effect) (m : Member) → IsBorne H cluster log e → Values m → Values (begins e m)
  begins_values (Write again e) m b h = record { last = h.last; under = h.under }
  begins_values (Rewrite x) m b h = record { last = h.last; under = h.under }
  begins_values (Save old new) m b h = record { last = h.last; under = λ v e. let same : new ≡ v = cc in subst (IsRooted H cluster log) same b }
  begins_values (Mend v) m b h = h
  begins_values (Checkpoint cluster texts op old) m b h = h
  begins_values (PutBlock name block) m b h = h
  begins_values (Say o) m b h = h

  ends_values : (e : Effect) (m : Member) → IsBorne H cluster log e → Values m → Values (ends e m)
  ends_values (Write again e) m b h = record { last = h.last; under = h.under }
  ends_values (Rewrite x) m b h = record { last = h.last; under = h.under }
  ends_values (Save old new) m b h = record { last = b; under = λ v e. absurd cc }
  ends_values (Mend v) m b h = record { last = b; under = λ v e. absurd cc }
  ends_values (Checkpoint cluster texts op old) m b h = h
  ends_values (PutBlock name block) m b h = h
  ends_values (Say o) m b h = h

  pub carried_values : (es : List Effect) (m : Member) → Every (IsBorne H cluster log) es → Values m → Values (carried_out es m)
  unfolding carried_out
  carried_values [] m b h = h
  carried_values (e ∷ es) m b h = carried_values es (ends e (begins e m)) b.1 (ends_values e (begins e m) b.0 (begins_values e m b.0 h))

  pub cut_values : (k : ℕ) (es : List Effect) (m : Member) → Every (IsBorne H cluster log) (take (suc k) es) → Values m → Values (cut_after k es m)
  unfolding carried_out
  cut_values zero [] m b h = h
  cut_values (suc k) [] m b h = h
  cut_values zero (e ∷ es) m b h = begins_values e m b.0 h
  cut_values (suc k) (e ∷ es) m b h = cut_values k es (ends e (begins e m)) b.1 (ends_values e (begins e m) b.0 (begins_values e m b.0 h))

  found_values : (p : Part) (m : Member) → Values m → Values (keeps_found p m)
  found_values (Here x) m h = record { last = h.last; under = h.under }
  found_values (Lost x) m h = h
  found_values (Wanted x) m h = h
  found_values Unknown m h = h
  found_values Nothing m h = h

  pub kept_values : (ps : List Part) (m : Member) → Values m → Values (keeps_all ps m)
  unfolding keeps_all
  kept_values [] m h = h
  kept_values (p ∷ ps) m h = kept_values ps (keeps_found p m) (found_values p m h)

  -- where all effects may be, each is borne
  pub borne_all : (i m : ℕ) (d : Lying) (es : List Effect) → Bears H cluster log i m d es → AllMay H cluster log i m d es → Every (IsBorne H cluster log) es
  unfolding Bears AllMay
  borne_all i m d [] b a = tt
  borne_all i m d (e ∷ es) b a = let x = b a.0 in (x.0, borne_all i (m + lines i (output_of e)) (lying.after d e) es x.1 a.1)

  pub bears_front : (i m : ℕ) (d : Lying) (xs ys : List Effect) → Bears H cluster log i m d (xs ++ ys) → Bears H cluster log i m d xs
  unfolding Bears
  bears_front i m d [] ys b = tt
  bears_front i m d (e ∷ xs) ys b = λ may. let x = b may in (x.0, bears_front i (m + lines i (output_of e)) (lying.after d e) xs ys x.1)

pub every_front : {X : Type 0} (P : X → Type 0) (k : ℕ) (xs : List X) → Every P xs → Every P (take k xs)
every_front P zero xs h = tt
every_front P (suc k) [] h = tt
every_front P (suc k) (x ∷ xs) h = (h.0, every_front P k xs h.1)

-- Words for ops above the commit number, one after the other.
use Rattle.std.proofs.Common.{ℕ, ◌≡◌, ◌≤◌, ◌<◌, ◌+◌, ◌-◌, subst, List, length, get_or, Option, Ok, Err, Result}
use Rattle.std.proofs.lemmas.List.FromFn.{get_or-range_with_len, length-range_with_len}
use Rattle.vr_disk.specs.DiskState.{Disk, Face}
use Rattle.vr_msg.specs.declared.output.Output.{Output}
use Rattle.vr_msg.specs.Choice.{ops}
use Rattle.vr_rules.specs.Replica.{Replica}
use Rattle.vr_rules.specs.Steps.{Word, each}
use Rattle.vr_disk.specs.declared.fault.Halt.{Halt}
use Rattle.vr_rules.specs.Does.{Does, Going}
use Rattle.vr_actions.specs.Telling.{each_to}
use Rattle.vr_rules.proofs.Stepping.{does_by, going_begins, going_ends, going_goes, going_stops}

-- in the middle of a loop over the ops above c up to h
unfoldable pub GoesOver : (ℕ → Word Face) → ℕ → ℕ → ℕ → Replica → Replica → Option Disk → Option Disk → List Output → List Output → Type 0
GoesOver w c h i r r' d d' o o' = Going w (ops c h) i r r' d d' o o'

module _ (w : ℕ → Word Face) (c h : ℕ) where
  nth : (i : ℕ) → i < h - c → get_or (ops c h) i 0 ≡ c + 1 + i
  nth i l = get_or-range_with_len (c + 1) (h - c) i 0 l

  size : length (ops c h) ≡ h - c
  size = length-range_with_len (c + 1) (h - c)

  pub over_begins : (r : Replica) (d : Option Disk) (o : List Output) → GoesOver w c h 0 r r d d o o
  unfolding GoesOver
  over_begins r d o = going_begins w (ops c h) r d o

  pub over_goes : (i op : ℕ) (r r' r'' : Replica) (d d' d'' : Option Disk) (o o' o'' : List Output)
      → GoesOver w c h i r r' d d' o o' → i < h - c → op ≡ c + 1 + i → Does (w op) r' r'' d' d'' o' o'' (Ok tt) → GoesOver w c h (i + 1) r r'' d d'' o o''
  unfolding GoesOver
  over_goes i op r r' r'' d d' d'' o o' o'' g l e k =
      going_goes w (ops c h) i 0 r r' r'' d d' d'' o o' o'' (rw size l) g (subst (λ x. Does (w x) r' r'' d' d'' o' o'' (Ok tt)) (rw (nth i l) e) k)

  over_is : (top : ℕ) (r s : Replica) (d d' : Option Disk) (o o' : List Output) (result : Result (Unit {0}) Halt) → c ≡ r.commit → h ≡ top → Does (each w (ops c h)) r s d d' o o' result → Does (each_to w top) r s d d' o o' result
  unfolding each_to
  over_is top r s d d' o o' result b t k =
      does_by _ r s d d' o o' result
      (subst (λ y. Does (each w (ops r.commit y)) r s d d' o o' result) t (subst (λ x. Does (each w (ops x h)) r s d d' o o' result) b k))

  pub over_stops : (i op top : ℕ) (r r' r'' s : Replica) (d d' d'' : Option Disk) (o o' o'' p : List Output) (e : Halt)
      → GoesOver w c h i r r' d d' o o' → i < h - c → op ≡ c + 1 + i → c ≡ r.commit → h ≡ top → Does (w op) r' r'' d' d'' o' o'' (Err e) → Does (each_to w top) r s d d'' o p (Err e)
  unfolding GoesOver
  over_stops i op top r r' r'' s d d' d'' o o' o'' p e g l q b t k =
      over_is top r s d d'' o p (Err e) b t
      (going_stops w (ops c h) i 0 r r' r'' s d d' d'' o o' o'' p e (rw size l) g (subst (λ x. Does (w x) r' r'' d' d'' o' o'' (Err e)) (rw (nth i l) q) k))

  pub over_ends : (i top : ℕ) (r r' : Replica) (d d' : Option Disk) (o o' : List Output) → GoesOver w c h i r r' d d' o o' → h - c ≤ i → c ≡ r.commit → h ≡ top → Does (each_to w top) r r' d d' o o' (Ok tt)
  unfolding GoesOver
  over_ends i top r r' d d' o o' g l b t = over_is top r r' d d' o o' (Ok tt) b t (going_ends w (ops c h) i r r' d d' o o' (rw size l) g)

pub ruleset goes = (over_begins, over_goes, over_stops, over_ends)

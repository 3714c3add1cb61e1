-- The commit number rises, or waits.
use Rattle.std.proofs.Common.{ℕ, zero, suc, ◌+◌, ◌-◌, ◌≡◌, ◌∙◌, arith, refl, sym, ap, subst, true, false, Bool, List, length, Option, Ok}
use Rattle.std.specs.Prelude.{◌&&◌, nat_lt}
use Rattle.std.specs.List.{prefix_len, range_with_len}
use Rattle.std.proofs.lemmas.Bool.{and_parts, eqb-true, ltb-true}
use Rattle.std.proofs.lemmas.List.{nil_from_length}
use Rattle.vr_disk.specs.DiskState.{Disk, Face}
use Rattle.vr_header.specs.declared.part.Part.{Part}
use Rattle.vr_header.specs.declared.part.Part.TheVariants.{Here, Lost, Wanted, Unknown, Nothing}
use Rattle.vr_header.specs.Made.{Whole}
use Rattle.vr_msg.specs.declared.output.Output.{Output}
use Rattle.vr_actions.specs.Waits.{Waits, applies_next}
use Rattle.vr_rules.specs.Replica.{Replica, head, is_here, part_at}
use Rattle.vr_rules.specs.Words.{advanced, apply, apply_entry, apply_next, has_quorum, is_loaded, with_entry, with_entry_at}
use Rattle.vr_rules.specs.Does.{Does}
use Rattle.vr_rules.proofs.Stepping.{does_by, does_quiet, does_then}
use Rattle.vr_rules.specs.Steps.{Word, times, when}
use Rattle.vr_rules.specs.Sound.{IsCaughtUp}

-- where the next entry isn't here it isn't applied
part_quiet : (w : Whole → Word Face) (p : Part) (r : Replica) (d : Option Disk) (o : List Output) → is_here p ≡ false → Does (with_entry w p) r r d d o o (Ok tt)
part_quiet w (Here h) r d o e = absurd cc
part_quiet w (Lost h) r d o e = does_quiet r d o
part_quiet w (Wanted h) r d o e = does_quiet r d o
part_quiet w Unknown r d o e = does_quiet r d o
part_quiet w Nothing r d o e = does_quiet r d o

when_quiet : (b c : Bool) (w : Word Face) (r : Replica) (d : Option Disk) (o : List Output) → b && c ≡ false → (c ≡ false → Does w r r d d o o (Ok tt)) → Does (when b w) r r d d o o (Ok tt)
when_quiet true true w r d o e h = absurd cc
when_quiet true false w r d o e h = h refl
when_quiet false c w r d o e h = does_quiet r d o

next_quiet : (r : Replica) (d : Option Disk) (o : List Output) → applies_next r ≡ false → Does apply_next r r d d o o (Ok tt)
unfolding apply_next with_entry_at
next_quiet r d o e =
    does_by _ r r d d o o (Ok tt) (when_quiet (is_loaded r && nat_lt r.applied r.commit) (is_here (part_at r (r.applied + 1))) _ r d o e (λ n.
    does_by _ r r d d o o (Ok tt) (part_quiet apply_entry (part_at r (r.applied + 1)) r d o n)))

times_quiet : (n : ℕ) (r : Replica) (d : Option Disk) (o : List Output) → applies_next r ≡ false → Does (times n apply_next) r r d d o o (Ok tt)
unfolding times
times_quiet zero r d o e = does_quiet r d o
times_quiet (suc n) r d o e = does_then apply_next (times n apply_next) r r r d d d o o o (Ok tt) (next_quiet r d o e) (times_quiet n r d o e)

-- where there is no op to apply, or its entry isn't here, applying does nothing
pub none_applied : (r : Replica) (d : Option Disk) (o : List Output) → applies_next r ≡ false → Does apply r r d d o o (Ok tt)
unfolding apply
none_applied r d o e = does_by _ r r d d o o (Ok tt) (times_quiet (r.commit - r.applied) r d o e)

none_first : (p : ℕ → Bool) (k n : ℕ) → p k ≡ false → prefix_len p (range_with_len k n) ≡ 0
none_first p k zero e = refl
none_first p k (suc n) e = rw e refl

-- a replica that waits has the commit number that it had
none_risen : (r : Replica) → Waits r → advanced r ≡ r
unfolding advanced
none_risen r w =
    let n = none_first (has_quorum r) (r.commit + 1) (head r - r.commit) w.next in
    let same : r.commit + prefix_len (has_quorum r) (range_with_len (r.commit + 1) (head r - r.commit)) ≡ r.commit = omega (arith, n) in
    ap (λ (c : ℕ). record r { commit = c }) same

caught_next : (r : Replica) → IsCaughtUp r → applies_next r ≡ true → ⊥
caught_next r u e =
    let a = and_parts (is_loaded r && nat_lt r.applied r.commit) _ e in
    let b = and_parts (is_loaded r) _ a.0 in
    let n = u.next (nil_from_length r.missing (eqb-true (length r.missing) 0 b.0)) (ltb-true r.applied r.commit b.1) in
    let never : true ≡ false = sym a.1 ∙ n in
    absurd cc

-- and so it has nothing to apply
pub none_next : (r q : Replica) → q ≡ advanced r → Waits r → applies_next q ≡ true → ⊥
none_next r q e w t = caught_next r w.applied (subst (λ (x : Replica). applies_next x ≡ true) (e ∙ none_risen r w) t)

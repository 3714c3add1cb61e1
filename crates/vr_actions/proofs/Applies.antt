-- What applying an entry does.
use Rattle.std.proofs.Common.{ℕ, ◌≡◌, ◌≤◌, ◌<◌, ◌∙◌, ◌+◌, ◌-◌, refl, sym, subst, Bool, true, false, List, ◌++◌, append_assoc, Option, Result, Ok, Err}
use Rattle.std.specs.Prelude.{◌&&◌, nat_lt}
use Rattle.vr_disk.specs.DiskState.{Disk}
use Rattle.vr_header.specs.Made.{Whole}
use Rattle.vr_msg.specs.declared.output.Output.{Output}
use Rattle.vr_rules.specs.Replica.{Replica, part_at}
use Rattle.vr_rules.specs.Outputs.{commit_line, applied_reply}
use Rattle.vr_rules.specs.Words.{applied, apply, apply_entry, apply_next, with_entry, with_entry_at, is_loaded, is_checkpoint, make_checkpoint}
use Rattle.vr_disk.specs.declared.fault.Halt.{Halt}
use Rattle.vr_rules.specs.Does.{Does, Looping}
use Rattle.vr_rules.specs.Steps.{times}
use Rattle.vr_volatile.specs.Ready.{due}
use Rattle.vr_rules.proofs.Stepping.{says_by_then, change_by_then, does_by, does_quiet, looping_ends, looping_stops}

pub entry_then : (e : Whole) (r q r2 : Replica) (d d2 : Option Disk) (o o1 o2 : List Output) (res : Result (Unit {0}) Halt) → o1 ≡ o ++ (commit_line e r ++ applied_reply e r) → q ≡ applied e r
    → Does due q r2 d d2 o1 o2 res → Does (apply_entry e) r r2 d d2 o o2 res
unfolding apply_entry
entry_then e r q r2 d d2 o o1 o2 res p i h =
    says_by_then (commit_line e) _ r r2 d d2 o (o ++ commit_line e r) o2 res refl
    (says_by_then (applied_reply e) _ r r2 d d2 (o ++ commit_line e r) o1 o2 res (p ∙ sym (append_assoc o (commit_line e r) (applied_reply e r)))
    (change_by_then (applied e) due r q r2 d d2 o1 o2 res i refl h))

pub next_then : (b : Bool) (r r2 : Replica) (d d2 : Option Disk) (o o2 : List Output) (res : Result (Unit {0}) Halt) → b ≡ (is_loaded r && nat_lt r.applied r.commit) → b ≡ true
    → Does (with_entry apply_entry (part_at r (r.applied + 1))) r r2 d d2 o o2 res → Does apply_next r r2 d d2 o o2 res
unfolding apply_next with_entry_at
next_then b r r2 d d2 o o2 res e t h =
    let i : (is_loaded r && nat_lt r.applied r.commit) ≡ true = sym e ∙ t in
    does_by _ r r2 d d2 o o2 res (rw i (does_by _ r r2 d d2 o o2 res h))

pub next_none : (b : Bool) (r : Replica) (d : Option Disk) (o : List Output) → b ≡ (is_loaded r && nat_lt r.applied r.commit) → b ≡ false → Does apply_next r r d d o o (Ok tt)
unfolding apply_next
next_none b r d o e t =
    let i : (is_loaded r && nat_lt r.applied r.commit) ≡ false = sym e ∙ t in
    does_by _ r r d d o o (Ok tt) (rw i (does_quiet r d o))

pub due_then : (r r2 : Replica) (d d2 : Option Disk) (o o2 : List Output) (res : Result (Unit {0}) Halt) → is_checkpoint r.applied ≡ true → Does make_checkpoint r r2 d d2 o o2 res → Does due r r2 d d2 o o2 res
due_then r r2 d d2 o o2 res t h = does_by _ r r2 d d2 o o2 res (rw t h)

pub due_none : (r : Replica) (d : Option Disk) (o : List Output) → is_checkpoint r.applied ≡ false → Does due r r d d o o (Ok tt)
due_none r d o t = does_by _ r r d d o o (Ok tt) (rw t (does_quiet r d o))

-- in the midst of applying the ops up to the commit number
pub apply_stops : (n i : ℕ) (r r' r'' s : Replica) (d d' d'' : Option Disk) (o o' o'' p : List Output) (e : Halt) → n ≡ r.commit - r.applied → i < n → Looping apply_next n i r r' d d' o o'
    → Does apply_next r' r'' d' d'' o' o'' (Err e) → Does apply r s d d'' o p (Err e)
unfolding apply
apply_stops n i r r' r'' s d d' d'' o o' o'' p e k l h stop =
    does_by _ r s d d'' o p (Err e) (subst (λ x. Does (times x apply_next) r s d d'' o p (Err e)) k (looping_stops apply_next n i r r' r'' s d d' d'' o o' o'' p e l h stop))

pub apply_ends : (n i : ℕ) (r r' : Replica) (d d' : Option Disk) (o o' : List Output) → n ≡ r.commit - r.applied → n ≤ i → Looping apply_next n i r r' d d' o o' → Does apply r r' d d' o o' (Ok tt)
unfolding apply
apply_ends n i r r' d d' o o' k l h = does_by _ r r' d d' o o' (Ok tt) (subst (λ x. Does (times x apply_next) r r' d d' o o' (Ok tt)) k (looping_ends apply_next n i r r' d d' o o' l h))

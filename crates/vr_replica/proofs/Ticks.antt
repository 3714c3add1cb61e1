-- What a tick does, by what the replica is.
use Rattle.std.proofs.Common.{arith, ℕ, cond, ◌≡◌, ◌≤◌, ◌<◌, ◌+◌, ◌^◌, refl, sym, subst, Bool, true, false, List, Option, Result, Ok}
use Rattle.std.specs.Prelude.{nat_le, nat_lt, nat_eq, if◌then◌else◌}
use Rattle.std.proofs.lemmas.Bool.{le-leb, lt-leb, leb-true, leb-false, eqb-false}
use Rattle.vr_disk.specs.DiskState.{Disk, Face}
use Rattle.vr_disk.specs.declared.fault.Halt.{Halt}
use Rattle.vr_msg.specs.declared.output.Output.{Output}
use Rattle.vr_rules.specs.Deciding.{first_of, tick_table}
use Rattle.vr_rules.specs.declared.rule.Rule.{Rule}
use Rattle.vr_rules.specs.declared.rule.Rule.TheVariants.{TickedPrimary, TickedBackup, TickedChanging}
use Rattle.vr_rules.specs.Replica.{Replica, head, last_view, version}
use Rattle.vr_rules.specs.Rules.{idler, next_view, backup_ticks, changing_ticks, primary_ticks, obey_tick, on_tick}
use Rattle.vr_rules.specs.Sectors.{sectors_by}
use Rattle.vr_rules.specs.Steps.{Setting, Step, Word, ◌⨾◌, by, change}
use Rattle.vr_rules.specs.Words.{enter, entered, rested, prepare_again, ask, visit}
use Rattle.vr_rules.proofs.Keeping.{sound_alike}
use Rattle.vr_rules.proofs.SavesWell.{savable_alike}
use Rattle.vr_rules.proofs.Storing.{head_number}
use Rattle.vr_rules.specs.Does.{Does, LeftBy}
use Rattle.vr_rules.proofs.Stepping.{does_by, does_quiet, does_change_then}
use Rattle.vr_volatile.specs.Ready.{IsReady}
use Rattle.vr_replica.specs.Ticks.{tells_first, tells_all}

-- ---- bounds

-- no view is entered yet
pub ready_waits : (n : ℕ) (r q : Replica) → nat_le n r.idle ≡ false → n ≤ 9 → q ≡ idler r → IsReady r → IsReady q
unfolding IsReady
ready_waits n r q w l e h =
    let few = leb-false n r.idle w in
    rw e (record { sound = sound_alike r (idler r) refl h.sound; savable = savable_alike r (idler r) refl h.savable; idle = omega arith; fits = h.fits })

pub idle_fits : (r : Replica) → IsReady r → r.idle + 1 < 2 ^ 64
unfolding IsReady
idle_fits r h = let few = h.idle in omega arith

pub next_fits : (r : Replica) → IsReady r → r.commit + 1 < 2 ^ 64
unfolding IsReady
next_fits r h = let a = h.sound.order.known in let b = head_number r h.sound in omega arith

pub unstarted : (r : Replica) → IsReady r → nat_eq r.view r.log_view ≡ false → r.log_view < r.view
unfolding IsReady
unstarted r h e = let other = eqb-false r.view r.log_view e in let views = h.sound.order.views in omega arith

-- a view is entered by one that is idle for one more tick as by the replica before
enters_alike : (b : Bool) (view : ℕ) (w : Word Face) (s : Setting Face) (r : Replica) (f : Face) → (cond b (change rested) (change (entered view) ⨾ w)) s (idler r) f ≡ (cond b (change rested) (change (entered view) ⨾ w)) s r f
unfolding ◌⨾◌ change entered
enters_alike true view w s r f = refl
enters_alike false view w s r f = refl

enter_alike : (view : ℕ) (s : Setting Face) (r : Replica) (f : Face) → enter view s (idler r) f ≡ enter view s r f
unfolding enter
enter_alike view s r f = enters_alike (nat_lt last_view view) view _ s r f

-- ---- each kind of tick

module _ (r r' : Replica) (d d' : Option Disk) (o o' : List Output) (result : Result (Unit {0}) Halt) where
  pub first_told : nat_lt r.commit (head r) ≡ true → Does (prepare_again (r.commit + 1)) r r' d d' o o' result → Does tells_first r r' d d' o o' result
  unfolding tells_first
  first_told e h = does_by _ r r' d d' o o' result (rw e h)

  pub next_entered : (view : ℕ) → view ≡ r.view + 1 → Does (enter view) r r' d d' o o' result → Does (enter (r.view + 1)) r r' d d' o o' result
  next_entered view e h = rw e at h

  idle_enters : (view : ℕ) → Does (enter view) r r' d d' o o' result → Does (enter view) (idler r) r' d d' o o' result
  idle_enters view h = record {
    untold = h.untold;
    told = λ x e. subst (λ (s : Step). LeftBy (version r) s r' x d' o o' result) (sym (enter_alike view (sectors_by (version r)) r x.face)) (h.told x e);
    same = h.same;
  }

  -- where so many ticks, and this one, are enough
  ticks_due : (n : ℕ) (w : Word Face) → nat_le n (r.idle + 1) ≡ true → Does (enter (r.view + 1)) r r' d d' o o' result
      → Does (change idler ⨾ by (λ q. if nat_le n q.idle then next_view else w)) r r' d d' o o' result
  ticks_due n w e h =
      does_change_then idler _ r r' d d' o o' result refl
      (does_by _ (idler r) r' d d' o o' result (rw e (does_by _ (idler r) r' d d' o o' result (idle_enters (r.view + 1) h))))

  -- where they aren't
  ticks_wait : (n : ℕ) (w : Word Face) (q : Replica) → nat_le n (r.idle + 1) ≡ false → q ≡ idler r → Does w q r' d d' o o' result
      → Does (change idler ⨾ by (λ q. if nat_le n q.idle then next_view else w)) r r' d d' o o' result
  ticks_wait n w q e i h = does_change_then idler _ r r' d d' o o' result refl (does_by _ (idler r) r' d d' o o' result (rw e (rw i at h)))

  more_true : (n k : ℕ) → nat_le n k ≡ true → nat_le (n + 1) (k + 1) ≡ true
  more_true n k e = let l = leb-true n k e in le-leb (n + 1) (k + 1) (omega arith)

  more_false : (n k : ℕ) → nat_le n k ≡ false → nat_le (n + 1) (k + 1) ≡ false
  more_false n k e = let l = leb-false n k e in lt-leb (n + 1) (k + 1) (omega arith)

  pub backup_due : nat_le 4 r.idle ≡ true → Does (enter (r.view + 1)) r r' d d' o o' result → Does backup_ticks r r' d d' o o' result
  backup_due e h = ticks_due 5 (visit ⨾ ask) (more_true 4 r.idle e) h

  pub backup_waits : (q : Replica) → nat_le 4 r.idle ≡ false → q ≡ idler r → Does (visit ⨾ ask) q r' d d' o o' result → Does backup_ticks r r' d d' o o' result
  backup_waits q e i h = ticks_wait 5 (visit ⨾ ask) q (more_false 4 r.idle e) i h

  pub changing_due : nat_le 9 r.idle ≡ true → Does (enter (r.view + 1)) r r' d d' o o' result → Does changing_ticks r r' d d' o o' result
  changing_due e h = ticks_due 10 tells_all (more_true 9 r.idle e) h

  pub changing_waits : (q : Replica) → nat_le 9 r.idle ≡ false → q ≡ idler r → Does tells_all q r' d d' o o' result → Does changing_ticks r r' d d' o o' result
  changing_waits q e i h = ticks_wait 10 tells_all q (more_false 9 r.idle e) i h

  ticked : (rule : Rule) → first_of (tick_table r) ≡ rule → Does (obey_tick rule) r r' d d' o o' result → Does on_tick r r' d d' o o' result
  unfolding on_tick
  ticked rule e h = does_by _ r r' d d' o o' result (subst (λ x. Does (obey_tick x) r r' d d' o o' result) (sym e) h)

  pub primary_ticked : first_of (tick_table r) ≡ TickedPrimary → Does primary_ticks r r' d d' o o' result → Does on_tick r r' d d' o o' result
  primary_ticked e h = ticked TickedPrimary e h

  pub backup_ticked : first_of (tick_table r) ≡ TickedBackup → Does backup_ticks r r' d d' o o' result → Does on_tick r r' d d' o o' result
  backup_ticked e h = ticked TickedBackup e h

  pub changing_ticked : first_of (tick_table r) ≡ TickedChanging → Does changing_ticks r r' d d' o o' result → Does on_tick r r' d d' o o' result
  changing_ticked e h = ticked TickedChanging e h

pub none_told : (r : Replica) (d : Option Disk) (o : List Output) → nat_lt r.commit (head r) ≡ false → Does tells_first r r d d o o (Ok tt)
unfolding tells_first
none_told r d o e = does_by _ r r d d o o (Ok tt) (rw e (does_quiet r d o))

-- A replica as it begins, and what it does once its Parts are found.
use Rattle.std.proofs.Common.{arith, ◌≡◌, ◌<◌, ◌+◌, ◌-◌, ◌^◌, ◌∙◌, inr, refl, sym, subst, Bool, List, [], ◌++◌, Option, true, false, Result, Ok, Err, cond, append-nil}
use Rattle.std.specs.Prelude.{OnOk, nat_le}
use Rattle.std.proofs.lemmas.Bool.{and_parts, eqb-true, ltb-false}
use Rattle.vr_disk.specs.DiskState.{Disk}
use Rattle.vr_msg.specs.declared.output.Output.{Output}
use Rattle.vr_super.specs.Copies.{SuperValue, IsGood}
use Rattle.vr_rules.specs.Replica.{Replica, leads, is_started, is_primary, is_spent, last_view}
use Rattle.vr_rules.specs.Outputs.{send_to_all, start_line, start_view_change}
use Rattle.vr_rules.specs.Steps.{when, says}
use Rattle.vr_rules.specs.Words.{with_saved, save}
use Rattle.vr_rules.specs.Opening.{blank, in_next_view, leave_view, heard_itself, announce, going_on, resuming}
use Rattle.vr_rules.proofs.Slots.{value_is}
use Rattle.vr_rules.proofs.Openings.{partly_blank, kept_next}
use Rattle.vr_rules.specs.Found.{Lists}
use Rattle.vr_rules.proofs.SavesFound.{lists_head, list_size}
use Rattle.vr_rules.proofs.SavesOpening.{savable_next}
use Rattle.vr_rules.proofs.SavesWell.{savable_alike}
use Rattle.vr_rules.proofs.Keeping.{sound_alike}
use Rattle.vr_disk.specs.declared.fault.Halt.{Halt}
use Rattle.vr_rules.specs.Does.{Does}
use Rattle.vr_volatile.specs.Ready.{IsReady, MayLoad}
use Rattle.vr_opening.specs.Finding.{IsOpeningOld}
use Rattle.vr_rules.proofs.Stepping.{does_by, does_quiet, change_by_then, says_by}

pub opening_blank : (v : SuperValue) (r : Replica) → r ≡ blank v → IsGood v → IsOpeningOld 0 r
unfolding IsOpeningOld blank
opening_blank v r e g =
    let w = value_is v g in
    rw e (record {
      good = g;
      partly = partly_blank v;
      top = λ same some. inr (subst (λ j. Lists j v.headers) same (lists_head v w (list_size v g some)));
    })

-- ---- a view is left

pub opened_member : (r : Replica) → MayLoad r → 0 < r.n
unfolding MayLoad IsReady
opened_member r h = let a = h.ready.sound.member in omega arith

same_views : (r : Replica) → leads r ≡ true → r.view ≡ r.log_view
same_views r l = eqb-true r.view r.log_view (and_parts (is_started r) (is_primary r) l).0

pub next_fits : (r : Replica) → MayLoad r → leads r ≡ true → r.view + 1 < 2 ^ 32
unfolding MayLoad IsReady
next_fits r h l = let same = same_views r l in let low = h.ready.savable.log_view in omega arith

pub opened_next : (r q : Replica) → MayLoad r → leads r ≡ true → q ≡ in_next_view r → MayLoad q
unfolding MayLoad IsReady
opened_next r q h l e =
    let same = same_views r l in
    let low = h.ready.savable.log_view in
    rw e (record {
      ready = record { sound = (kept_next r h.ready.sound).sound; savable = savable_next r (omega arith) h.ready.savable; idle = h.ready.idle; fits = h.ready.fits };
      applied = h.applied;
    })

pub opened_saved : (r q : Replica) → MayLoad r → IsReady q → q ≡ with_saved r → MayLoad q
unfolding MayLoad
opened_saved r q h ready e = record { ready = ready; applied = subst (λ (x : Replica). x.applied ≡ x.checkpoint) (sym e) h.applied }

pub saved_opened : (r q : Replica) (res : Result (Unit {0}) Halt) → MayLoad r → OnOk res (IsReady q) → OnOk res (q ≡ with_saved r) → OnOk res (MayLoad q)
saved_opened r q (Ok u) h ready e = opened_saved r q h ready e
saved_opened r q (Err halt) h ready e = tt

pub leave_then : (r q r2 : Replica) (d d2 : Option Disk) (o o2 : List Output) (res : Result (Unit {0}) Halt) → leads r ≡ true → q ≡ in_next_view r → Does save q r2 d d2 o o2 res → Does leave_view r r2 d d2 o o2 res
leave_then r q r2 d d2 o o2 res l e h = does_by _ r r2 d d2 o o2 res (rw l (change_by_then in_next_view save r q r2 d d2 o o2 res e refl h))

pub leave_none : (r : Replica) (d : Option Disk) (o : List Output) → leads r ≡ false → Does leave_view r r d d o o (Ok tt)
leave_none r d o l = does_by _ r r d d o o (Ok tt) (rw l (does_quiet r d o))

-- ---- the others hear of it

pub ready_heard : (r q : Replica) → IsReady r → q ≡ heard_itself r → IsReady q
unfolding IsReady
ready_heard r q h e =
    rw e (record { sound = sound_alike r (heard_itself r) refl h.sound; savable = savable_alike r (heard_itself r) refl h.savable; idle = h.idle; fits = h.fits })

told_view : (b : Bool) (r : Replica) (d : Option Disk) (o o2 : List Output) → o2 ≡ o ++ cond b (send_to_all start_view_change r) [] → Does (when b (says (send_to_all start_view_change))) r r d d o o2 (Ok tt)
told_view true r d o o2 e = says_by (send_to_all start_view_change) r d o o2 e
told_view false r d o o2 e = let same : o2 ≡ o = e ∙ append-nil o in rw same (does_quiet r d o)

pub announce_then : (r q : Replica) (d : Option Disk) (o o2 : List Output) → is_started r ≡ false → q ≡ heard_itself r → o2 ≡ o ++ cond (nat_le q.view last_view) (send_to_all start_view_change q) [] → Does announce r q d d o o2 (Ok tt)
announce_then r q d o o2 l e k =
    does_by _ r q d d o o2 (Ok tt) (rw l (change_by_then heard_itself _ r q q d d o o2 (Ok tt) e refl (does_by _ q q d d o o2 (Ok tt) (told_view (nat_le q.view last_view) q d o o2 k))))

pub announce_none : (r : Replica) (d : Option Disk) (o : List Output) → is_started r ≡ true → Does announce r r d d o o (Ok tt)
announce_none r d o l = does_by _ r r d d o o (Ok tt) (rw l (does_quiet r d o))

-- ---- at the end of the sequence numbers

pub resumed : (r r2 : Replica) (d d2 : Option Disk) (o o2 : List Output) (res : Result (Unit {0}) Halt) → is_spent r ≡ false → Does going_on r r2 d d2 o o2 res → Does resuming r r2 d d2 o o2 res
resumed r r2 d d2 o o2 res e h = does_by _ r r2 d d2 o o2 res (rw e h)

pub spent : (r : Replica) (d : Option Disk) (o o2 : List Output) → is_spent r ≡ true → o2 ≡ o ++ start_line r → Does resuming r r d d o o2 (Ok tt)
spent r d o o2 e h = does_by _ r r d d o o2 (Ok tt) (rw e (says_by start_line r d o o2 h))

pub unspent_room : (r : Replica) → is_spent r ≡ false → r.saved.fields.sequence + 65 < 2 ^ 64
unspent_room r e = let l = ltb-false (2 ^ 64 - 256) r.saved.fields.sequence e in omega arith

-- Readiness where a log is taken over.
use Rattle.std.proofs.Common.{arith, ◌≡◌, ◌≤◌, refl, sym, Bool, true, ◌∙◌}
use Rattle.vr_base.specs.Bytes.{name_of}
use Rattle.vr_msg.specs.Spelling.{AreHeaders}
use Rattle.vr_rules.specs.Replica.{Replica, forgetting, last_view, version}
use Rattle.vr_rules.specs.Words.{Log, may_take, taken}
use Rattle.vr_rules.proofs.SavesParts.{savable_taken}
use Rattle.vr_rules.proofs.Taking.{may_take_is, kept_taken}
use Rattle.vr_volatile.specs.Ready.{IsReady}
use Rattle.vr_view.specs.Logs.{IsTaught, MayTake}

idle_taken : (l : Log) (r : Replica) → (taken l r).idle ≤ 9
unfolding taken forgetting
idle_taken l r = omega arith

state_taken : (l : Log) (r : Replica) → (taken l r).state ≡ r.state
unfolding taken forgetting
state_taken l r = refl

version_taken : (l : Log) (r : Replica) → version (taken l r) ≡ version r
unfolding taken forgetting
version_taken l r = refl

pub ready_taken : (l : Log) (r q : Replica) → q ≡ taken l r → MayTake l r → IsReady r → IsReady q
unfolding IsReady MayTake
ready_taken l r q e m h =
    let may = may_take_is name_of l r m.may in
    let view = m.view in
    rw e (record {
      sound = (kept_taken l r h.sound m.log may).sound;
      savable = savable_taken name_of l r h.sound m.log may m.may (omega arith) h.savable;
      idle = idle_taken l r;
      fits = rw (version_taken l r, state_taken l r) h.fits;
    })

pub view_taken : (l : Log) (r q : Replica) → q ≡ taken l r → q.view ≡ l.view
unfolding taken forgetting
view_taken l r q e = rw e refl

pub may_take_now : (l : Log) (r : Replica) (b : Bool) → IsTaught l r → b ≡ may_take name_of l r → (b ≡ true → AreHeaders l.headers) → b ≡ true → MayTake l r
unfolding IsTaught MayTake
may_take_now l r b h e v t = record { log = h.log (v t); view = h.view; may = sym e ∙ t }

-- the view of a log that may be taken
pub taken_low : (l : Log) (r : Replica) → MayTake l r → l.view ≤ last_view
unfolding MayTake
taken_low l r m = m.view

pub ruleset takes = (ready_taken, view_taken)

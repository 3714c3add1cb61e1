-- A log that is taken over with a later checkpoint leaves what can be saved.
use Rattle.std.proofs.Common.{arith, ◌≡◌, ◌<◌, ◌+◌, ◌-◌, ◌^◌, inl, inr, refl, ap, ◌∙◌, subst, true}
use Rattle.std.proofs.lemmas.Bool.{cases_lt, le-leb, lt-leb}
use Rattle.vr_header.specs.Parts.{has_header}
use Rattle.vr_msg.specs.declared.frame.SyncView.{SyncView}
use Rattle.vr_rules.specs.Replica.{Replica, head, forgetting, knows}
use Rattle.vr_rules.specs.Words.{jumped, jumped_part}
use Rattle.vr_rules.specs.Sound.{IsNameBytes, IsSound, IsSavable}
use Rattle.vr_rules.proofs.Heads.{Spans, head_from, head_knows}
use Rattle.vr_rules.proofs.Taking.{log_reaches}
use Rattle.vr_rules.specs.Given.{IsSyncFor}
use Rattle.vr_rules.proofs.Jumping.{MayJump, landed, landed_at, landed_spans}
use Rattle.vr_rules.proofs.SavesParts.{Topped, topped_forgetting}

-- the checkpoint's own header is among those of the log
jumped_base : (v : SyncView) (r : Replica) → IsSyncFor r v → has_header (jumped_part v r v.checkpoint) ≡ true
unfolding jumped_part
jumped_base v r is =
    let count = is.log.count in
    let within = is.within in
    let commit = is.log.commit in
    let there = log_reaches v.body.headers (v.checkpoint - (v.body.lo + 1)) (omega arith) in
    rw (lt-leb v.checkpoint v.body.lo within.0, le-leb v.checkpoint v.checkpoint (omega arith), there.1) refl

landed_top : (v : SyncView) (r : Replica) → IsSound r → IsSyncFor r v → MayJump v r → Topped (landed v r)
landed_top v r h is m some =
    let q : Replica = landed v r in
    let t : Spans q = landed_spans v r h m in
    let from = head_from q in
    elim (cases_lt v.checkpoint (head q)) [
      | inl above ↦ head_knows q (head q) t above (omega arith)
      | inr at ↦
          let first = h.lists.reach in
          let above = m.above in
          let same : v.checkpoint ≡ head q = omega arith in
          subst (λ k. knows q k ≡ true) same (ap has_header (landed_at v r v.checkpoint (omega arith) (omega arith)) ∙ jumped_base v r is)
    ]

savable_landed : (v : SyncView) (r : Replica) → v.root_address < 128 → IsNameBytes v.root_name.0 → v.view < 2 ^ 32 - 1 → 0 < v.checkpoint → IsSavable r → Topped (forgetting (landed v r)) → IsSavable (forgetting (landed v r))
unfolding forgetting
savable_landed v r a name b some h top =
    record { cluster = h.cluster; view = omega arith; log_view = b; address = a; name = name; none = λ e. absurd (omega (arith, e, some)); saved = h.saved; top = top }

pub savable_jumped : (v : SyncView) (r : Replica) → IsSound r → IsSyncFor r v → MayJump v r → v.root_address < 128 → IsNameBytes v.root_name.0 → v.view < 2 ^ 32 - 1 → IsSavable r → IsSavable (jumped v r)
unfolding jumped
savable_jumped v r h is m a name b w =
    let above = m.above in
    savable_landed v r a name b (omega arith) w (topped_forgetting (landed v r) (landed_spans v r h m) (landed_top v r h is m))

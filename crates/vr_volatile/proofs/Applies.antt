-- What applying an entry does.
use Rattle.std.proofs.Common.{◌≡◌, ◌∙◌, refl, ℕ, cond, List, [], ◌∷◌, ◌++◌, append_assoc}
use Rattle.vr_state.specs.declared.reply.ReplyBody.{ReplyBody}
use Rattle.vr_state.specs.declared.reply.ReplyBody.TheVariants as body
use Rattle.vr_state.specs.Fitting.{ReplyFits}
use Rattle.vr_state.proofs.Fitting.{reply_fits as state_reply_fits}
use Rattle.vr_state.specs.declared.state.State.{State}
use Rattle.vr_state.specs.Folds as state
use Rattle.vr_header.specs.declared.header.Header.{Header}
use Rattle.vr_header.specs.Made.{Whole, IsEntry}
use Rattle.vr_rules.proofs.Replying.{reply_numbered}
use Rattle.vr_msg.specs.Asking.{IsKindValue, IsReplyKind}
use Rattle.vr_msg.specs.declared.output.Output.{Output}
use Rattle.vr_msg.specs.declared.output.Output.TheVariants as output
use Rattle.vr_rules.specs.Replica.{Replica, leads, version}
use Rattle.vr_rules.specs.Outputs.{asker_of, kind_of, replies, commit_line, applied_reply}
use Rattle.vr_volatile.specs.Ready.{MayApply}

-- what is replied has a number that a reply may carry
pub reply_fits : (r : Replica) (t : State) (e : Whole) (b : ReplyBody) → t ≡ r.state → MayApply r → IsEntry e → b ≡ (state.applied t e).reply → IsReplyKind (kind_of b)
unfolding MayApply
reply_fits r t e b s m n i = rw (i, s) (reply_numbered r.state e m.ready.sound.numbers n.header.op.1)

kind_value : (v : ℕ) (b : ReplyBody) → ReplyFits v b → IsKindValue v (kind_of b)
kind_value v (body.Outcome o op) h = h
kind_value v body.Old h = tt
kind_value v body.Gap h = tt
kind_value v body.Evicted h = tt

-- and has an outcome of the replica's version
pub reply_value : (r : Replica) (t : State) (e : Whole) (b : ReplyBody) → t ≡ r.state → MayApply r → b ≡ (state.applied t e).reply → IsKindValue (version r) (kind_of b)
unfolding MayApply
reply_value r t e b s m i = rw (i, s) (kind_value (version r) (state.applied r.state e).reply (state_reply_fits (version r) r.state m.ready.fits e))

-- its line, and what is replied to it
pub told_applied : (r : Replica) (e : Whole) (h : Header) (b : ReplyBody) (o o1 o2 : List Output) → h ≡ e.header
    → o1 ≡ o ++ output.Commit (record { replica = r.index; entry = e }) ∷ []
    → o2 ≡ o1 ++ cond (leads r) (replies (record { client = h.client; request = h.request; name = h.request_name }) (kind_of b) r) []
    → o2 ≡ o ++ (commit_line e r ++ cond (leads r) (replies (asker_of e) (kind_of b) r) [])
told_applied r e h b o o1 o2 i p q = q ∙ rw (p, i) (append_assoc o (commit_line e r) (cond (leads r) (replies (asker_of e) (kind_of b) r) []))

-- both as they are put out of the replica with the new state
pub said_applied : (r : Replica) (t : State) (e : Whole) (b : ReplyBody) (o o' : List Output) → b ≡ (state.applied r.state e).reply
    → o' ≡ o ++ (commit_line e (record r { state = t }) ++ cond (leads (record r { state = t })) (replies (asker_of e) (kind_of b) (record r { state = t })) [])
    → o' ≡ o ++ (commit_line e r ++ applied_reply e r)
said_applied r t e b o o' j q = q ∙ rw j refl

-- What each rule puts out carries present values.
use Rattle.std.proofs.Common.{arith, ◌≡◌, ◌<◌, refl, sym, ◌∙◌, ℕ, Bool, true, false, List, ◌∷◌, Option, Some, None}
use Rattle.std.specs.Prelude.{nat_eq}
use Rattle.std.specs.Option.{option_map_or}
use Rattle.std.proofs.lemmas.Bool.{cond_both, and_parts, not-true, eqb-true, eqb-false, ltb-true, ne_eqb}
use Rattle.vr_header.specs.declared.header.Header.{Header}
use Rattle.vr_ckpt.specs.declared.name.Name.{Name}
use Rattle.vr_msg.specs.declared.frame.Commit.{Commit}
use Rattle.vr_msg.specs.declared.frame.GetBlock.{GetBlock}
use Rattle.vr_msg.specs.declared.frame.GetPrepare.{GetPrepare}
use Rattle.vr_msg.specs.declared.frame.GetSync.{GetSync}
use Rattle.vr_msg.specs.declared.frame.GetView.{GetView}
use Rattle.vr_msg.specs.declared.frame.GiveBlock.{GiveBlock}
use Rattle.vr_msg.specs.declared.frame.GivePrepare.{GivePrepare}
use Rattle.vr_msg.specs.declared.frame.Prepare.{Prepare}
use Rattle.vr_msg.specs.declared.frame.PrepareOk.{PrepareOk}
use Rattle.vr_msg.specs.declared.request.RequestFields.{RequestFields}
use Rattle.vr_msg.specs.Normal.{primary}
use Rattle.vr_state.specs.declared.session.SessionAnswer.{SessionAnswer}
use Rattle.vr_state.specs.declared.session.SessionAnswer.TheVariants as answer
use Rattle.vr_rules.specs.Replica.{Replica, is_primary}
use Rattle.vr_rules.specs.Steps.{quiet, says, outputs}
use Rattle.vr_rules.specs.declared.asker.Asker.{Asker}
use Rattle.vr_rules.specs.Outputs as told
use Rattle.vr_rules.specs.Deciding.{Table, Hash, is_from, is_from_primary, first_of as first_row}
use Rattle.vr_rules.specs.declared.rule.Rule.{Rule}
use Rattle.vr_rules.specs.declared.rule.Rule.TheVariants.{Redirected, Behind, Answered, Full, Made, PreparedLater, Past, Beyond, Known, Next, Ahead, Other, Counted, CommitLater, CommitHeard, ViewGiven, EntryGiven, EntryTaken, BlockGiven, BlockTaken, BlockMended, SyncGiven}
use Rattle.vr_rules.specs.Rules as rules
use Rattle.vr_rules.proofs.SendsPlaces.{IsOther}
use Rattle.vr_rules.proofs.SendsCalm.{Near, Calm, calm_then, calm_quiet, calm_does, calm_by, calm_when, calm_send, calm_all}
use Rattle.vr_rules.proofs.SendsWords.{own, own_commit, calm_keeps, calm_primary, calm_write, calm_accept, calm_entry, calm_replies, calm_apply, calm_advance, calm_learn, calm_prepare_again, calm_resend, calm_visit, calm_ask, calm_load}

-- ---- senders

pub from_is : (v cluster sender : ℕ) (r : Replica) → is_from v cluster sender r ≡ true → IsOther r.index r.n sender
from_is v cluster sender r e =
    let a = and_parts _ _ e in
    let b = and_parts _ _ a.1 in
    (ltb-true sender r.n b.0, eqb-false sender r.index (not-true _ b.1))

other_stays : (o r : Replica) (to : ℕ) → Near o r → IsOther o.index o.n to → IsOther r.index r.n to
other_stays o r to near h =
    let n : r.n ≡ o.n = near.same.n in
    let l : to < o.n = h.0 in
    (omega arith, λ (q : to ≡ r.index). h.1 (q ∙ near.same.index))

-- what comes from the primary of a view doesn't come to it
pub not_primary : (v cluster sender view : ℕ) (r : Replica) → is_from_primary v cluster sender view r ≡ true → nat_eq r.index (primary r.n view) ≡ false
not_primary v cluster sender view r e =
    let a = and_parts _ _ e in
    let o = from_is v cluster sender r a.0 in
    let p : sender ≡ primary r.n view = eqb-true sender (primary r.n view) a.1 in
    ne_eqb r.index (primary r.n view) (λ q. o.1 (p ∙ sym q))

-- ---- tables

pub row : (b : Bool) (rule : Rule) (rows : Table) (P : Rule → Type 0) → (b ≡ true → P rule) → (b ≡ false → P (first_row rows)) → P (first_row ((b, rule) ∷ rows))
unfolding first_row
row b rule rows P h k = cond_both b rule (first_row rows) P h k

-- ---- calm rules

module _ {F : Type 0} {MayAsk : ℕ → ℕ → Type 0} {o : Replica} where
  pub calm_ask_view : (view sender : ℕ) → IsOther o.index o.n sender → MayAsk sender view → Calm {F = F} MayAsk o (rules.ask_view view sender)
  calm_ask_view view sender h may = calm_send (λ r. sender) (told.get_view view) (λ r near. other_stays o r sender near h) (λ r near. (own r, may))

  pub calm_ask_sync : (view sender : ℕ) → IsOther o.index o.n sender → MayAsk sender view → Calm {F = F} MayAsk o (says (λ r. told.send_to sender (told.get_sync view r) r))
  calm_ask_sync view sender h may = calm_send (λ r. sender) (told.get_sync view) (λ r near. other_stays o r sender near h) (λ r near. (own r, may))

  pub calm_tell : (to : ℕ) → IsOther o.index o.n to → Calm {F = F} MayAsk o (rules.tell_view to)
  calm_tell to h = calm_send (λ r. to) told.start_view (λ r near. other_stays o r to near h) (λ r near. (own r, refl, own_commit r))

  pub calm_acknowledge : (hash : Hash) (h : Header) → is_primary o ≡ false → Calm {F = F} MayAsk o (rules.acknowledge hash h)
  calm_acknowledge hash h e = calm_primary _ e (λ r near. (own r, refl))

  pub calm_stored_reply : (a : Asker) (x : SessionAnswer) → Calm {F = F} MayAsk o (rules.stored_reply a x)
  calm_stored_reply a answer.Fresh = calm_quiet
  calm_stored_reply a (answer.Repeat outcome op) = calm_replies a _
  calm_stored_reply a answer.Old = calm_replies a _
  calm_stored_reply a answer.Gap = calm_replies a _
  calm_stored_reply a answer.Evicted = calm_replies a _

  pub calm_request : (hash : Hash) (q : RequestFields) (rule : Rule) → Calm {F = F} MayAsk o (rules.obey_request hash q rule)
  unfolding rules.make
  calm_request hash q Redirected = calm_replies _ _
  calm_request hash q Behind = calm_replies _ _
  calm_request hash q Answered = calm_by _ (λ r near. calm_stored_reply _ _)
  calm_request hash q Full = calm_replies _ _
  calm_request hash q Made = calm_by _ (λ r near. calm_then _ _ (calm_write _) (calm_then _ _ (calm_all _ (λ r near to. (refl, refl, own_commit r))) calm_advance))
  calm_request hash q _ = calm_quiet

  -- a prepare of the present view
  pub calm_prepare : (hash : Hash) (p : Prepare) (rule : Rule) → IsOther o.index o.n p.replica → MayAsk p.replica p.view → is_primary o ≡ false → Calm {F = F} MayAsk o (rules.obey_prepare hash p rule)
  calm_prepare hash p PreparedLater h may e = calm_ask_view _ _ h may
  calm_prepare hash p Past h may e = calm_then _ _ (calm_keeps _ (λ r. refl)) (calm_learn _)
  calm_prepare hash p Beyond h may e = calm_keeps _ (λ r. refl)
  calm_prepare hash p Known h may e = calm_then _ _ (calm_keeps _ (λ r. refl)) (calm_then _ _ (calm_accept _) (calm_then _ _ (calm_acknowledge hash _ e) (calm_learn _)))
  calm_prepare hash p Next h may e = calm_then _ _ (calm_keeps _ (λ r. refl)) (calm_then _ _ (calm_write _) (calm_then _ _ (calm_acknowledge hash _ e) (calm_learn _)))
  calm_prepare hash p Ahead h may e = calm_then _ _ (calm_keeps _ (λ r. refl)) (calm_then _ _ (calm_ask_view _ _ h may) (calm_learn _))
  calm_prepare hash p Other h may e = calm_keeps _ (λ r. refl)
  calm_prepare hash p _ h may e = calm_quiet

  pub calm_prepare_ok : (a : PrepareOk) (rule : Rule) → Calm {F = F} MayAsk o (rules.obey_prepare_ok a rule)
  calm_prepare_ok a Counted = calm_then _ _ (calm_keeps _ (λ r. refl)) calm_advance
  calm_prepare_ok a _ = calm_quiet

  pub calm_commit : (c : Commit) (rule : Rule) → IsOther o.index o.n c.replica → MayAsk c.replica c.view → Calm {F = F} MayAsk o (rules.obey_commit c rule)
  calm_commit c CommitLater h may = calm_ask_view _ _ h may
  calm_commit c CommitHeard h may = calm_then _ _ (calm_keeps _ (λ r. refl)) (calm_then _ _ (calm_by _ (λ r near. calm_when _ _ (calm_ask_view _ _ h may))) (calm_learn _))
  calm_commit c _ h may = calm_quiet

  pub calm_acknowledged : (hash : Hash) (h : Option Header) → is_primary o ≡ false → Calm {F = F} MayAsk o (option_map_or (rules.acknowledge hash) h quiet)
  calm_acknowledged hash None e = calm_quiet
  calm_acknowledged hash (Some h) e = calm_acknowledge hash h e

  pub calm_acknowledge_stored : (hash : Hash) (op : ℕ) → is_primary o ≡ false → Calm {F = F} MayAsk o (rules.acknowledge_stored hash op)
  unfolding rules.acknowledge_stored
  calm_acknowledge_stored hash op e = calm_by _ (λ r near. calm_when _ _ (calm_acknowledged hash _ e))

  pub calm_get_view : (g : GetView) (rule : Rule) → IsOther o.index o.n g.replica → Calm {F = F} MayAsk o (rules.obey_get_view g rule)
  calm_get_view g ViewGiven h = calm_tell _ h
  calm_get_view g _ h = calm_quiet

  pub calm_get_sync : (g : GetSync) (rule : Rule) → IsOther o.index o.n g.replica → Calm {F = F} MayAsk o (rules.obey_get_sync g rule)
  calm_get_sync g SyncGiven h = calm_send (λ r. g.replica) told.sync_view (λ r near. other_stays o r _ near h) (λ r near. (own r, refl, own_commit r))
  calm_get_sync g _ h = calm_quiet

  pub calm_get_prepare : (g : GetPrepare) (rule : Rule) → IsOther o.index o.n g.replica → Calm {F = F} MayAsk o (rules.obey_get_prepare g rule)
  calm_get_prepare g EntryGiven h = calm_entry _ _ (λ e. calm_send (λ r. g.replica) (told.give_prepare e) (λ r near. other_stays o r _ near h) (λ r near. refl))
  calm_get_prepare g _ h = calm_quiet

  pub calm_give_prepare : (g : GivePrepare) (rule : Rule) → Calm {F = F} MayAsk o (rules.obey_give_prepare g rule)
  calm_give_prepare g EntryTaken = calm_then _ _ (calm_write _) (calm_then _ _ (calm_resend _) calm_apply)
  calm_give_prepare g _ = calm_quiet

  pub calm_read : (g : GetBlock) (block : Option (List ℕ)) → IsOther o.index o.n g.replica → Calm {F = F} MayAsk o (rules.give_read g block)
  calm_read g None h = calm_quiet
  calm_read g (Some block) h = calm_send (λ r. g.replica) (told.give_block g.address block) (λ r near. other_stays o r _ near h) (λ r near. own r)

  pub calm_get_block : (g : GetBlock) (block : Option (List ℕ)) (rule : Rule) → IsOther o.index o.n g.replica → Calm {F = F} MayAsk o (rules.obey_get_block g block rule)
  calm_get_block g block BlockGiven h = calm_read g block h
  calm_get_block g block _ h = calm_quiet

  pub calm_put : (block : List ℕ) (name : Option Name) → Calm {F = F} MayAsk o (rules.put_found block name)
  unfolding rules.put_block outputs
  calm_put block None = calm_quiet
  calm_put block (Some name) =
      calm_then _ _ (calm_then _ _ (calm_does _ (λ r. refl)) (calm_then _ _ (calm_keeps _ (λ r. refl)) (calm_by _ (λ r near. calm_when _ _ calm_load)))) calm_apply

  pub calm_mend : (block : List ℕ) (name : Option Name) → Calm {F = F} MayAsk o (rules.mend_found block name)
  unfolding outputs
  calm_mend block None = calm_quiet
  calm_mend block (Some name) = calm_then _ _ (calm_does _ (λ r. refl)) (calm_keeps _ (λ r. refl))

  pub calm_give_block : (is_block : Name → List ℕ → Bool) (g : GiveBlock) (rule : Rule) → Calm {F = F} MayAsk o (rules.obey_give_block is_block g rule)
  calm_give_block is_block g BlockTaken = calm_by _ (λ r near. calm_put _ _)
  calm_give_block is_block g BlockMended = calm_by _ (λ r near. calm_mend _ _)
  calm_give_block is_block g _ = calm_quiet

  pub calm_primary_ticks : Calm {F = F} MayAsk o rules.primary_ticks
  calm_primary_ticks = calm_then _ _ (calm_all _ (λ r near to. (own r, refl, own_commit r))) (calm_then _ _ (calm_by _ (λ r near. calm_when _ _ (calm_prepare_again _))) (calm_then _ _ calm_visit calm_ask))

-- What writes of blocks steps and openings make.
use Rattle.std.proofs.Common.{◌+◌, ◌≡◌, refl, ℕ, Bool, true, List, [], ◌∷◌, Option, Some, None, ap, false, subst, cond, ◌<◌}
use Rattle.std.specs.Prelude.{find, ◌==◌, is_some, ⊤}
use Rattle.std.specs.Option.{option_map_or}
use Rattle.std.proofs.lemmas.Bool.{and_parts}
use Rattle.vr_header.specs.declared.header.Header.{Header}
use Rattle.vr_header.specs.Made.{Whole}
use Rattle.vr_ckpt.specs.declared.name.Name.{Name}
use Rattle.vr_msg.specs.declared.event.Event.{Event}
use Rattle.vr_msg.specs.declared.event.Event.TheVariants as event
use Rattle.vr_msg.specs.declared.frame.Commit.{Commit}
use Rattle.vr_msg.specs.declared.frame.DoViewChange.{DoViewChange}
use Rattle.vr_msg.specs.declared.frame.Frame.{Frame}
use Rattle.vr_msg.specs.declared.frame.Frame.TheVariants as frame
use Rattle.vr_msg.specs.declared.frame.GetBlock.{GetBlock}
use Rattle.vr_msg.specs.declared.frame.GetPrepare.{GetPrepare}
use Rattle.vr_msg.specs.declared.frame.GetSync.{GetSync}
use Rattle.vr_msg.specs.declared.frame.GetView.{GetView}
use Rattle.vr_msg.specs.declared.frame.GiveBlock.{GiveBlock}
use Rattle.vr_msg.specs.declared.frame.GivePrepare.{GivePrepare}
use Rattle.vr_msg.specs.declared.frame.Prepare.{Prepare}
use Rattle.vr_msg.specs.declared.frame.PrepareOk.{PrepareOk}
use Rattle.vr_msg.specs.declared.frame.StartView.{StartView}
use Rattle.vr_msg.specs.declared.frame.StartViewChange.{StartViewChange}
use Rattle.vr_msg.specs.declared.frame.SyncView.{SyncView}
use Rattle.vr_msg.specs.declared.request.RequestFields.{RequestFields}
use Rattle.vr_state.specs.declared.session.SessionAnswer.{SessionAnswer}
use Rattle.vr_state.specs.declared.session.SessionAnswer.TheVariants as answer
use Rattle.vr_rules.specs.Replica.{Replica, header_at}
use Rattle.vr_rules.specs.Steps.{PutBlock, Word, ◌⨾◌, by, quiet, change, does, reading, says, when}
use Rattle.vr_world.proofs.FitGroups.{Known as IsKnown}
use Rattle.vr_rules.specs.Outputs.{commit_message, prepare, send_to_all, start_line, start_view_change}
use Rattle.vr_rules.specs.Own.{IsAt}
use Rattle.vr_rules.specs.Sound.{IsSound}
use Rattle.vr_rules.proofs.Combining.{keeps_by, keeps_says, keeps_when}
use Rattle.vr_rules.proofs.Wording.{keeps_prepare_again}
use Rattle.vr_rules.proofs.Trying.{keeps_speak}
use Rattle.vr_rules.proofs.Reacting.{keeps_idler}
use Rattle.vr_rules.proofs.OwnWords.{owned_again, owned_by, owned_change, owned_says, owned_speak, owned_when}
use Rattle.vr_rules.specs.declared.asker.Asker.{Asker}
use Rattle.vr_rules.specs.Words.{load, rested, speak}
use Rattle.vr_world.specs.Lying.{Lying, lying}
use Rattle.vr_rules.specs.Deciding.{Hash, first_of, commit_table, do_view_change_table, get_block_table, get_prepare_table, get_sync_table, get_view_table, give_block_table, give_prepare_table, is_wanted, prepare_ok_table, prepare_table, session_answer, start_view_change_table, start_view_table, sync_view_table}
use Rattle.vr_rules.specs.declared.rule.Rule.{Rule}
use Rattle.vr_rules.specs.declared.rule.Rule.TheVariants.{Redirected, Behind, Answered, Full, Made, PreparedLater, Past, Beyond, Known, Next, Ahead, Other, Counted, CommitLater, CommitHeard, ChangeLater, ChangeHeard, ChangeDone, StatedLate, Stated, Taken, ViewGiven, EntryGiven, EntryTaken, BlockGiven, BlockTaken, BlockMended, TickedPrimary, TickedBackup, TickedChanging, SyncAsked, SyncGiven, Jumped}
use Rattle.vr_rules.specs.Rules as rules
use Rattle.vr_rules.specs.Opening.{announce, heard_itself, in_next_view, leave_view, resuming}
use Rattle.vr_disk.specs.DiskState.{IsFace}
use Rattle.vr_base.specs.Bytes.{IsBytes}
use Rattle.vr_ckpt.specs.Blocks.{named}
use Rattle.vr_ckpt.specs.Places.{grid_size}
use Rattle.vr_ckpt.specs.Grid.{put_calls}
use Rattle.vr_ckpt.proofs.Contents.{fits_address, named_found, read_of}
use Rattle.law_4_disks.specs.Stocks.{IsGiven, IsGivenEvent}
use Rattle.law_4_disks.proofs.Calls.{AreCalls}
use Rattle.law_4_disks.proofs.Blocks.{put_are}
use Rattle.law_4_disks.proofs.Chaining.{c_by, c_says}
use Rattle.law_4_disks.proofs.ChainingRules.{c_obey_get_block, c_obey_give_block, c_put}
use Rattle.law_4_disks.proofs.Stocking.{At, Leaves, Stocking, all_given, b_accept, b_advance, b_again, b_apply, b_by, b_change, b_each, b_enter, b_entry, b_if, b_jump, b_learn, b_load, b_naming, b_quiet, b_reading, b_resend, b_save, b_says, b_speak, b_take, b_then, b_try, b_when, b_write}
use Rattle.law_4_disks.proofs.StockingVisits.{Sounded, v_by, v_if, v_looks, v_of, v_then, v_when}

-- this is so of each block that is read where one is asked for
abbrev pub ReadsGiven : (List ℕ → Type 0) → Frame → Type 0
ReadsGiven P (frame.GetBlock g) = (d : Lying) → IsFace d.face → (b : List ℕ) → lying.block d (rules.asked_block g) ≡ Some b → P b
ReadsGiven P _ = ⊤

abbrev pub ReadsGivenIn : (List ℕ → Type 0) → Event → Type 0
ReadsGivenIn P (event.Deliver m) = ReadsGiven P m
ReadsGivenIn P _ = ⊤

block_calls_are : (name : Name) (block : List ℕ) → IsBytes block → is_some (named name block) ≡ true → AreCalls (put_calls name.address block)
block_calls_are name block are t =
    elim (named name block) as (λ o. named name block ≡ o → is_some o ≡ true → AreCalls (put_calls name.address block)) [
      | None ↦ λ e t. absurd cc
      | Some c ↦ λ e t.
          let found = named_found name block c e in
          let l : name.address < grid_size = subst (λ (a : ℕ). a < grid_size) (ap (λ (n : Name). n.address) found.1) (fits_address block c found.0) in
          put_are name.address block l are (read_of block c found.0).size
    ] refl t

find_passes : {X : Type 0} (p : X → Bool) (xs : List X) (x : X) → find p xs ≡ Some x → p x ≡ true
find_passes p [] x e = absurd cc
find_passes p (y ∷ ys) x e =
    elim (p y) as (λ t. p y ≡ t → cond t (Some y) (find p ys) ≡ Some x → p x ≡ true) [
      | true ↦ λ t e. (let same : y ≡ x = cc in subst (λ x. p x ≡ true) same t)
      | false ↦ λ t e. find_passes p ys x e
    ] refl e

wanted_are : (g : GiveBlock) (name : Name) → IsBytes g.block → is_wanted lying.is_block g name ≡ true → AreCalls (put_calls name.address g.block)
wanted_are g name are t = block_calls_are name g.block are (and_parts (name.address == g.address) (is_some (named name g.block)) t).1

module _ {P Q : List ℕ → Type 0} {home : ℕ} where
  b_rested : Stocking P Q home (change rested)
  b_rested = b_change rested (λ r. record { saved = refl; state = refl; table = refl })

  b_stored_reply : (a : Asker) (x : SessionAnswer) → Stocking P Q home (rules.stored_reply a x)
  b_stored_reply a answer.Fresh = b_quiet
  b_stored_reply a (answer.Repeat outcome op) = b_says _ (λ r. (tt, tt))
  b_stored_reply a answer.Old = b_says _ (λ r. (tt, tt))
  b_stored_reply a answer.Gap = b_says _ (λ r. (tt, tt))
  b_stored_reply a answer.Evicted = b_says _ (λ r. (tt, tt))

  b_make : (e : Whole) → Stocking P Q home (rules.make e)
  unfolding rules.make
  b_make e = b_then _ _ (b_write e) (b_then _ _ (b_says _ (λ r. all_given P (prepare e) r tt)) b_advance)

  r_request : (hash : Hash) (q : RequestFields) (rule : Rule) → Stocking P Q home (rules.obey_request hash q rule)
  r_request hash q Redirected = b_says _ (λ r. (tt, tt))
  r_request hash q Behind = b_says _ (λ r. (tt, tt))
  r_request hash q Answered = b_by _ (λ r. b_stored_reply (rules.asker_by hash q) (session_answer q r))
  r_request hash q Full = b_says _ (λ r. (tt, tt))
  r_request hash q Made = b_by _ (λ r. b_make (rules.next_entry hash q r))
  r_request hash q _ = b_quiet

  r_prepare : (hash : Hash) (p : Prepare) (rule : Rule) → Stocking P Q home (rules.obey_prepare hash p rule)
  r_prepare hash p PreparedLater = b_says _ (λ r. (tt, tt))
  r_prepare hash p Past = b_then _ _ b_rested (b_learn p.commit)
  r_prepare hash p Beyond = b_rested
  r_prepare hash p Known = b_then _ _ b_rested (b_then _ _ (b_accept p.entry) (b_then _ _ (b_says _ (λ r. (tt, tt))) (b_learn p.commit)))
  r_prepare hash p Next = b_then _ _ b_rested (b_then _ _ (b_write p.entry) (b_then _ _ (b_says _ (λ r. (tt, tt))) (b_learn p.commit)))
  r_prepare hash p Ahead = b_then _ _ b_rested (b_then _ _ (b_says _ (λ r. (tt, tt))) (b_learn p.commit))
  r_prepare hash p Other = b_rested
  r_prepare hash p _ = b_quiet

  r_prepare_ok : (a : PrepareOk) (rule : Rule) → Stocking P Q home (rules.obey_prepare_ok a rule)
  r_prepare_ok a Counted = b_then _ _ (b_change (rules.acknowledged a) (λ r. record { saved = refl; state = refl; table = refl })) b_advance
  r_prepare_ok a _ = b_quiet

  r_commit : (m : Commit) (rule : Rule) → Stocking P Q home (rules.obey_commit m rule)
  r_commit m CommitLater = b_says _ (λ r. (tt, tt))
  r_commit m CommitHeard = b_then _ _ b_rested (b_then _ _ (b_by _ (λ r. b_when _ _ (b_says _ (λ r. (tt, tt))))) (b_learn m.commit))
  r_commit m _ = b_quiet

  r_heard : (sender : ℕ) → Stocking P Q home (change (rules.heard_of sender) ⨾ speak)
  r_heard sender = b_then _ _ (b_change (rules.heard_of sender) (λ r. record { saved = refl; state = refl; table = refl })) b_speak

  r_change : (m : StartViewChange) (rule : Rule) → Stocking P Q home (rules.obey_start_view_change m rule)
  r_change m ChangeLater = b_then _ _ (b_enter m.view) (r_heard m.replica)
  r_change m ChangeHeard = r_heard m.replica
  r_change m ChangeDone = b_says _ (λ r. (tt, tt))
  r_change m _ = b_quiet

  r_statement : (d : DoViewChange) (rule : Rule) → Stocking P Q home (rules.obey_do_view_change d rule)
  r_statement d StatedLate = b_says _ (λ r. (tt, tt))
  r_statement d Stated = b_then _ _ (b_by _ (λ r. b_when _ _ (b_enter d.view))) (b_then _ _ (b_change (rules.with_statement d.replica d.statement) (λ r. record { saved = refl; state = refl; table = refl })) b_try)
  r_statement d _ = b_quiet

  r_stored_of : (hash : Hash) (o : Option Header) → Stocking P Q home (option_map_or (rules.acknowledge hash) o quiet)
  r_stored_of hash None = b_quiet
  r_stored_of hash (Some h) = b_says _ (λ r. (tt, tt))

  r_stored : (hash : Hash) (op : ℕ) → Stocking P Q home (rules.acknowledge_stored hash op)
  unfolding rules.acknowledge_stored
  r_stored hash op = b_by _ (λ r. b_when _ _ (r_stored_of hash (header_at r op)))

  r_view : (hash : Hash) (v : StartView) (rule : Rule) → Stocking P Q home (rules.obey_start_view hash v rule)
  r_view hash v Taken = b_then _ _ (b_take _) (b_then _ _ (b_by _ (λ r. b_each _ _ (r_stored hash))) b_apply)
  r_view hash v SyncAsked = b_says _ (λ r. (tt, tt))
  r_view hash v _ = b_quiet

  r_get_sync : (g : GetSync) (rule : Rule) → Stocking P Q home (rules.obey_get_sync g rule)
  r_get_sync g SyncGiven = b_says _ (λ r. (tt, tt))
  r_get_sync g _ = b_quiet

  r_sync : (hash : Hash) (v : SyncView) (rule : Rule) → Stocking P Q home (rules.obey_sync_view hash v rule)
  r_sync hash v Jumped = b_then _ _ (b_jump v) (b_then _ _ (b_by _ (λ r. b_each _ _ (r_stored hash))) b_apply)
  r_sync hash v _ = b_quiet

  r_get_view : (g : GetView) (rule : Rule) → Stocking P Q home (rules.obey_get_view g rule)
  r_get_view g ViewGiven = b_says _ (λ r. (tt, tt))
  r_get_view g _ = b_quiet

  r_get_prepare : (g : GetPrepare) (rule : Rule) → Stocking P Q home (rules.obey_get_prepare g rule)
  r_get_prepare g EntryGiven = b_entry g.op _ (λ e. c_says _) (λ e w. b_says _ (λ r. (tt, tt)))
  r_get_prepare g _ = b_quiet

  r_give_prepare : (g : GivePrepare) (rule : Rule) → Stocking P Q home (rules.obey_give_prepare g rule)
  r_give_prepare g EntryTaken = b_then _ _ (b_write g.entry) (b_then _ _ (b_resend g.entry) b_apply)
  r_give_prepare g _ = b_quiet

  r_give_read : (g : GetBlock) (o : Option (List ℕ)) → ((b : List ℕ) → o ≡ Some b → P b) → Stocking P Q home (rules.give_read g o)
  r_give_read g None h = b_quiet
  r_give_read g (Some block) h = b_says _ (λ r. (h block refl, tt))

  r_get_block : (g : GetBlock) (o : Option (List ℕ)) (rule : Rule) → ((b : List ℕ) → o ≡ Some b → P b) → Stocking P Q home (rules.obey_get_block g o rule)
  r_get_block g o BlockGiven h = r_give_read g o h
  r_get_block g o _ h = b_quiet

  b_put : (name : Name) (block : List ℕ) → AreCalls (put_calls name.address block) → Q block → Stocking P Q home (does (λ r. PutBlock name block))
  unfolding does
  b_put name block are q = record { chained = c_put name block; each = λ n i ed r d a k. record { blocks = ((are, q), tt); rewrites = (tt, tt); stock = a.stock } }

  r_put_block : (name : Name) (block : List ℕ) → AreCalls (put_calls name.address block) → Q block → Stocking P Q home (rules.put_block name block)
  unfolding rules.put_block
  r_put_block name block are q = b_then _ _ (b_put name block are q) (b_then _ _ (b_change (rules.without name) (λ r. record { saved = refl; state = refl; table = refl })) (b_by _ (λ r. b_when _ load b_load)))

  r_put_found : (block : List ℕ) (o : Option Name) → Q block → ((name : Name) → o ≡ Some name → AreCalls (put_calls name.address block)) → Stocking P Q home (rules.put_found block o)
  r_put_found block None q h = b_quiet
  r_put_found block (Some name) q h = b_then _ _ (r_put_block name block (h name refl) q) b_apply

  r_mend_found : (block : List ℕ) (o : Option Name) → Q block → ((name : Name) → o ≡ Some name → AreCalls (put_calls name.address block)) → Stocking P Q home (rules.mend_found block o)
  r_mend_found block None q h = b_quiet
  r_mend_found block (Some name) q h = b_then _ _ (b_put name block (h name refl) q) (b_change (rules.not_worn name) (λ r. record { saved = refl; state = refl; table = refl }))

  r_give_block : (g : GiveBlock) (rule : Rule) → IsBytes g.block → Q g.block → Stocking P Q home (rules.obey_give_block lying.is_block g rule)
  r_give_block g BlockTaken are q = b_by _ (λ r. r_put_found g.block (find (is_wanted lying.is_block g) r.missing) q (λ name e. wanted_are g name are (find_passes (is_wanted lying.is_block g) r.missing name e)))
  r_give_block g BlockMended are q = b_by _ (λ r. r_mend_found g.block (find (is_wanted lying.is_block g) r.worn) q (λ name e. wanted_are g name are (find_passes (is_wanted lying.is_block g) r.worn name e)))
  r_give_block g _ are q = b_quiet

  r_next_view : Stocking P Q home rules.next_view
  r_next_view = b_by _ (λ r. b_enter _)

  -- a tick comes to a sound replica of the group
  r_idles : (w : Word Lying) → Sounded P Q home w → Sounded P Q home (change rules.idler ⨾ w)
  r_idles w h = v_then (change rules.idler) w (b_change rules.idler (λ r. record { saved = refl; state = refl; table = refl })) keeps_idler (λ ed. owned_change rules.idler (λ r. record { cluster = refl; n = refl; index = refl; saved = refl })) h

  r_tells : (message : Replica → Frame) (w : Word Lying) → ((r : Replica) → IsGiven P (message r)) → Sounded P Q home w → Sounded P Q home (says (send_to_all message) ⨾ w)
  r_tells message w g h = v_then (says (send_to_all message)) w (b_says _ (λ r. all_given P message r (g r))) (keeps_says _) (λ ed. owned_says _) h

  r_tick : (rule : Rule) → Sounded P Q home (rules.obey_tick rule)
  r_tick TickedPrimary =
      r_tells commit_message _ (λ r. tt) (v_then _ _ (b_by _ (λ r. b_when _ _ (b_again (r.commit + 1)))) (keeps_by _ (λ r. keeps_when _ _ (keeps_prepare_again (r.commit + 1)))) (λ ed. owned_by _ (λ r. owned_when _ _ (owned_again (r.commit + 1)))) v_looks)
  r_tick TickedBackup = r_idles _ (v_by _ (λ r. v_if _ _ _ (v_of _ r_next_view) v_looks))
  r_tick TickedChanging = r_idles _ (v_by _ (λ r. v_if _ _ _ (v_of _ r_next_view) (r_tells start_view_change _ (λ r. tt) (v_then _ _ b_speak keeps_speak (λ ed. owned_speak) v_looks))))
  r_tick _ = v_of quiet b_quiet

  r_on_request : (q : RequestFields) → Stocking P Q home (rules.on_request q)
  unfolding rules.on_request
  r_on_request q = b_naming _ (λ hash. b_by _ (λ r. r_request hash q _))

  r_message : (m : Frame) → IsGiven IsBytes m → IsGiven Q m → ReadsGiven P m → Stocking P Q home (rules.on_message m)
  unfolding rules.on_request rules.on_prepare rules.on_prepare_ok rules.on_commit rules.on_start_view_change rules.on_do_view_change rules.on_start_view rules.on_get_view rules.on_get_prepare rules.on_give_prepare rules.on_get_block rules.on_give_block rules.on_get_sync rules.on_sync_view
  r_message (frame.Request q) are given reads = r_on_request q
  r_message (frame.Reply a) are given reads = b_quiet
  r_message (frame.Prepare p) are given reads = b_naming _ (λ hash. b_by _ (λ r. r_prepare hash p (first_of (prepare_table hash p r))))
  r_message (frame.PrepareOk a) are given reads = b_naming _ (λ hash. b_by _ (λ r. r_prepare_ok a (first_of (prepare_ok_table hash a r))))
  r_message (frame.Commit m) are given reads = b_by _ (λ r. r_commit m (first_of (commit_table m r)))
  r_message (frame.StartViewChange m) are given reads = b_by _ (λ r. r_change m (first_of (start_view_change_table m r)))
  r_message (frame.DoViewChange d) are given reads = b_by _ (λ r. r_statement d (first_of (do_view_change_table d r)))
  r_message (frame.StartView v) are given reads = b_naming _ (λ hash. b_by _ (λ r. r_view hash v (first_of (start_view_table hash v r))))
  r_message (frame.GetSync g) are given reads = b_by _ (λ r. r_get_sync g (first_of (get_sync_table g r)))
  r_message (frame.SyncView v) are given reads = b_naming _ (λ hash. b_by _ (λ r. r_sync hash v (first_of (sync_view_table hash v r))))
  r_message (frame.GetView g) are given reads = b_by _ (λ r. r_get_view g (first_of (get_view_table g r)))
  r_message (frame.GetPrepare g) are given reads = b_naming _ (λ hash. b_by _ (λ r. r_get_prepare g (first_of (get_prepare_table hash g r))))
  r_message (frame.GivePrepare g) are given reads = b_by _ (λ r. r_give_prepare g (first_of (give_prepare_table g r)))
  r_message (frame.GetBlock g) are given reads =
      b_reading (rules.block_at (rules.asked_block g)) (λ o. by (λ r. rules.obey_get_block g o (first_of (get_block_table (is_some o) g r)))) (λ o. c_by _ (λ r. c_obey_get_block g o (first_of (get_block_table (is_some o) g r))))
      (λ d f. b_by _ (λ r. r_get_block g (lying.block d (rules.asked_block g)) (first_of (get_block_table (is_some (lying.block d (rules.asked_block g))) g r)) (λ b e. reads d f b e)))
  r_message (frame.GiveBlock g) are given reads =
      b_reading rules.test_of (λ t. by (λ r. rules.obey_give_block t g (first_of (give_block_table t g r)))) (λ t. c_by _ (λ r. c_obey_give_block t g (first_of (give_block_table t g r))))
      (λ d f. b_by _ (λ r. r_give_block g (first_of (give_block_table lying.is_block g r)) are given))

  r_event : (e : Event) → IsGivenEvent IsBytes e → IsGivenEvent Q e → ReadsGivenIn P e → Sounded P Q home (rules.on_event e)
  unfolding rules.on_tick
  r_event (event.Request q) are given reads = v_of _ (r_on_request q)
  r_event (event.Deliver m) are given reads = v_of _ (r_message m are given reads)
  r_event event.Tick are given reads = v_by _ (λ r. r_tick _)

  pub v_react : (e : Event) → IsGivenEvent IsBytes e → IsGivenEvent Q e → ReadsGivenIn P e → Sounded P Q home (rules.react e)
  unfolding rules.react
  v_react e are given reads = v_by _ (λ r. v_when _ _ (r_event e are given reads))

  -- ---- an opening, after what it mends and finds

  b_leave : Stocking P Q home leave_view
  b_leave = b_by _ (λ r. b_when _ _ (b_then _ _ (b_change in_next_view (λ r. record { saved = refl; state = refl; table = refl })) b_save))

  b_announce : Stocking P Q home announce
  b_announce = b_by _ (λ r. b_when _ _ (b_then _ _ (b_change heard_itself (λ r. record { saved = refl; state = refl; table = refl })) (b_by _ (λ r. b_when _ _ (b_says _ (λ r. all_given P start_view_change r tt))))))

  pub b_resuming : Stocking P Q home resuming
  b_resuming = b_by _ (λ r. b_if _ _ _ (b_says start_line (λ r. (tt, tt))) (b_then _ _ b_leave (b_then _ _ (b_says start_line (λ r. (tt, tt))) (b_then _ _ b_load (b_then _ _ b_apply b_announce)))))

-- ---- what is given is read on the disk at first

-- of a block that reads on this disk
abbrev pub ReadsOn : Lying → List ℕ → Type 0
ReadsOn d b = (name : Name) × (lying.block d name ≡ Some b)

module _ {Q : List ℕ → Type 0} {home : ℕ} (n i ed : ℕ) (r : Replica) (d : Lying) (at : At ed r d) (sound : IsSound r) (is : IsAt home n i ed r) where
  get_leaves : (g : GetBlock) → IsKnown home n i ed (rules.on_message (frame.GetBlock g) lying r d).script → Leaves (ReadsOn d) Q home (rules.on_message (frame.GetBlock g)) r d
  unfolding rules.on_get_block reading by
  get_leaves g known =
      let name = rules.asked_block g in
      let o = lying.block d name in
      let x = (r_get_block {P = ReadsOn d} {Q = Q} g o (first_of (get_block_table (is_some o) g r)) (λ b e. (name, e))).each n i ed r d at known in
      record { blocks = x.blocks; rewrites = x.rewrites; stock = x.stock }

  when_leaves : (t : Bool) (w : Word Lying) → IsKnown home n i ed (when t w lying r d).script → (IsKnown home n i ed (w lying r d).script → Leaves (ReadsOn d) Q home w r d) → Leaves (ReadsOn d) Q home (when t w) r d
  when_leaves true w known h = let x = h known in record { blocks = x.blocks; rewrites = x.rewrites; stock = x.stock }
  when_leaves false w known h = let x = (b_quiet {P = ReadsOn d} {Q = Q}).each n i ed r d at known in record { blocks = x.blocks; rewrites = x.rewrites; stock = x.stock }

  pub gives_read : (e : Event) → IsGivenEvent IsBytes e → IsGivenEvent Q e → IsKnown home n i ed (rules.react e lying r d).script → Leaves (ReadsOn d) Q home (rules.react e) r d
  unfolding rules.react by
  gives_read (event.Deliver (frame.GetBlock g)) are given known = let x = when_leaves _ (rules.on_message (frame.GetBlock g)) known (get_leaves g) in record { blocks = x.blocks; rewrites = x.rewrites; stock = x.stock }
  gives_read (event.Deliver (frame.Request q)) are given known = (v_react {P = ReadsOn d} {Q = Q} (event.Deliver (frame.Request q)) are given tt).each n i ed r d at sound is known
  gives_read (event.Deliver (frame.Reply a)) are given known = (v_react {P = ReadsOn d} {Q = Q} (event.Deliver (frame.Reply a)) are given tt).each n i ed r d at sound is known
  gives_read (event.Deliver (frame.Prepare p)) are given known = (v_react {P = ReadsOn d} {Q = Q} (event.Deliver (frame.Prepare p)) are given tt).each n i ed r d at sound is known
  gives_read (event.Deliver (frame.PrepareOk a)) are given known = (v_react {P = ReadsOn d} {Q = Q} (event.Deliver (frame.PrepareOk a)) are given tt).each n i ed r d at sound is known
  gives_read (event.Deliver (frame.Commit m)) are given known = (v_react {P = ReadsOn d} {Q = Q} (event.Deliver (frame.Commit m)) are given tt).each n i ed r d at sound is known
  gives_read (event.Deliver (frame.StartViewChange m)) are given known = (v_react {P = ReadsOn d} {Q = Q} (event.Deliver (frame.StartViewChange m)) are given tt).each n i ed r d at sound is known
  gives_read (event.Deliver (frame.DoViewChange m)) are given known = (v_react {P = ReadsOn d} {Q = Q} (event.Deliver (frame.DoViewChange m)) are given tt).each n i ed r d at sound is known
  gives_read (event.Deliver (frame.StartView v)) are given known = (v_react {P = ReadsOn d} {Q = Q} (event.Deliver (frame.StartView v)) are given tt).each n i ed r d at sound is known
  gives_read (event.Deliver (frame.GetSync g)) are given known = (v_react {P = ReadsOn d} {Q = Q} (event.Deliver (frame.GetSync g)) are given tt).each n i ed r d at sound is known
  gives_read (event.Deliver (frame.SyncView v)) are given known = (v_react {P = ReadsOn d} {Q = Q} (event.Deliver (frame.SyncView v)) are given tt).each n i ed r d at sound is known
  gives_read (event.Deliver (frame.GetView g)) are given known = (v_react {P = ReadsOn d} {Q = Q} (event.Deliver (frame.GetView g)) are given tt).each n i ed r d at sound is known
  gives_read (event.Deliver (frame.GetPrepare g)) are given known = (v_react {P = ReadsOn d} {Q = Q} (event.Deliver (frame.GetPrepare g)) are given tt).each n i ed r d at sound is known
  gives_read (event.Deliver (frame.GivePrepare g)) are given known = (v_react {P = ReadsOn d} {Q = Q} (event.Deliver (frame.GivePrepare g)) are given tt).each n i ed r d at sound is known
  gives_read (event.Deliver (frame.GiveBlock g)) are given known = (v_react {P = ReadsOn d} {Q = Q} (event.Deliver (frame.GiveBlock g)) are given tt).each n i ed r d at sound is known
  gives_read (event.Request q) are given known = (v_react {P = ReadsOn d} {Q = Q} (event.Request q) are given tt).each n i ed r d at sound is known
  gives_read event.Tick are given known = (v_react {P = ReadsOn d} {Q = Q} event.Tick are given tt).each n i ed r d at sound is known

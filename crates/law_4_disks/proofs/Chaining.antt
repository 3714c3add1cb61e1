-- What a step saves follows what was saved before it, and the replica knows it.
use Rattle.std.proofs.Common.{ℕ, zero, suc, ◌≡◌, refl, sym, ap, ◌∙◌, subst, Bool, true, false, cond, List, [], ◌∷◌, ◌++◌, map, Option, Some, None}
use Rattle.std.specs.Prelude.{nat_lt, not}
use Rattle.vr_header.specs.declared.header.Header.{Header}
use Rattle.vr_header.specs.declared.part.Part.{Part}
use Rattle.vr_header.specs.declared.part.Part.TheVariants.{Here, Lost, Wanted, Unknown, Nothing}
use Rattle.vr_header.specs.Made.{Whole}
use Rattle.vr_msg.specs.declared.choice.Choice.{Choice}
use Rattle.vr_msg.specs.declared.choice.Choice.TheVariants.{Ends, WaitsAt, TooFew}
use Rattle.vr_msg.specs.declared.frame.Frame.{Frame}
use Rattle.vr_msg.specs.declared.frame.SyncView.{SyncView}
use Rattle.vr_msg.specs.declared.output.Output.{Output}
use Rattle.vr_msg.specs.declared.statement.Statement.{Statement}
use Rattle.vr_state.specs.StateTexts.{state_decoded}
use Rattle.vr_state.specs.declared.state.State.{State}
use Rattle.vr_super.specs.Copies.{SuperValue}
use Rattle.vr_super.specs.Opens.{file_kind}
use Rattle.vr_ckpt.specs.declared.name.Name.{Name}
use Rattle.vr_ckpt.specs.declared.found.Load.{Load}
use Rattle.vr_ckpt.specs.declared.found.Load.TheVariants.{Loaded, Missing}
use Rattle.vr_ckpt.specs.declared.saving.SavedCheckpoint as checkpoint
use Rattle.vr_ckpt.specs.declared.table.PayloadTable.{PayloadTable}
use Rattle.vr_rules.specs.Replica.{Replica, version, forgetting, is_here, leads, part_at, with_part, is_primary, last_view}
use Rattle.vr_rules.specs.Steps.{Effect, Write, Rewrite, Save, Mend, Checkpoint, PutBlock, Say, Setting, Word, ◌⨾◌, quiet, change, does, says, by, naming, reading, when, times, each, after_all}
use Rattle.vr_rules.specs.Outputs.{applied_reply, commit_line, send_to_all, start_line, start_view_change, wait_line, to_primary, do_view_change}
use Rattle.vr_rules.specs.Words.{Log, accept, advance, advanced, apply, apply_entry, apply_next, applied, ask, ask_for, ask_peer, begin_view, checkpoint_of, checkpoints, chosen_log, choose_line, decided, enter, entered, entry_of, is_checkpoint, learn, learned, load, loaded_state, loads, lost, make_checkpoint, obey_choice, or_lost, prepare_again, resend, rested, save, speak, stated, stored, take, taken, try, try_log, turned, value_of, with_checkpoint, with_entry, with_entry_at, with_state, write, jump, jumped, mend_header, visit, visit_block, visit_place, visit_read, visit_slot, with_worn, usable}
use Rattle.vr_rules.specs.Opening.{announce, heard_itself, in_next_view, leave_view, resuming}
use Rattle.law_4_disks.specs.Chains.{Chain}

pub record Chained {F : Type 0} (w : Word F) : Type 0 where
  pub each : (s : Setting F) (r : Replica) (f : F) → Chain r.saved (w s r f).script (w s r f).replica.saved

chain_both : (a b : List Effect) (u v w : SuperValue) → Chain u a v → Chain v b w → Chain u (a ++ b) w
chain_both [] b u v w x y = subst (λ (u : SuperValue). Chain u b w) (sym x) y
chain_both (Write again e ∷ es) b u v w x y = chain_both es b u v w x y
chain_both (Rewrite h ∷ es) b u v w x y = chain_both es b u v w x y
chain_both (Save old new ∷ es) b u v w x y = (x.0, x.1, chain_both es b new v w x.2 y)
chain_both (Mend m ∷ es) b u v w x y = (x.0, chain_both es b u v w x.1 y)
chain_both (Checkpoint c t o k ∷ es) b u v w x y = chain_both es b u v w x y
chain_both (PutBlock n k ∷ es) b u v w x y = chain_both es b u v w x y
chain_both (Say o ∷ es) b u v w x y = chain_both es b u v w x y

-- the kind of its file stays
pub chain_kind : (es : List Effect) (v u : SuperValue) → Chain v es u → file_kind u.fields ≡ file_kind v.fields
chain_kind [] v u c = ap (λ (x : SuperValue). file_kind x.fields) (sym c)
chain_kind (Write again e ∷ es) v u c = chain_kind es v u c
chain_kind (Rewrite h ∷ es) v u c = chain_kind es v u c
chain_kind (Save old new ∷ es) v u c = chain_kind es new u c.2 ∙ (c.1 ∙ ap (λ (x : SuperValue). file_kind x.fields) c.0)
chain_kind (Mend x ∷ es) v u c = chain_kind es v u c.1
chain_kind (Checkpoint k t o b ∷ es) v u c = chain_kind es v u c
chain_kind (PutBlock n b ∷ es) v u c = chain_kind es v u c
chain_kind (Say o ∷ es) v u c = chain_kind es v u c

said_chain : (os : List Output) (v : SuperValue) → Chain v (map Say os) v
said_chain [] v = refl
said_chain (o ∷ os) v = said_chain os v

stored_saved : (e : Whole) (r : Replica) → (stored e r).saved ≡ r.saved
unfolding forgetting with_part
stored_saved e r = refl

lost_saved : (h : Header) (r : Replica) → (lost h r).saved ≡ r.saved
unfolding with_part
lost_saved h r = refl

pub with_checkpoint_saved : (c : checkpoint.SavedCheckpoint) (r : Replica) → (with_checkpoint c r).saved ≡ r.saved
unfolding with_checkpoint
with_checkpoint_saved c r = refl

advanced_saved : (r : Replica) → (advanced r).saved ≡ r.saved
unfolding advanced
advanced_saved r = refl

taken_saved : (l : Log) (r : Replica) → (taken l r).saved ≡ r.saved
unfolding taken forgetting
taken_saved l r = refl

pub jumped_saved : (v : SyncView) (r : Replica) → (jumped v r).saved ≡ r.saved
unfolding jumped forgetting
jumped_saved v r = refl

state_saved : (root : Name) (t : PayloadTable) (x : Option State) (r : Replica) → (loaded_state root t x r).saved ≡ r.saved
unfolding with_state
state_saved root t (Some s) r = refl
state_saved root t None r = refl

pub loads_saved : (root : Name) (l : Load) (r : Replica) → (loads root l r).saved ≡ r.saved
loads_saved root (Loaded texts table) r = state_saved root table (usable (version r) (state_decoded texts)) r
loads_saved root (Missing names) r = refl

module _ {F : Type 0} where
  pub c_then : (a b : Word F) → Chained a → Chained b → Chained (a ⨾ b)
  unfolding ◌⨾◌
  c_then a b x y = record { each = λ s r f. let one = a s r f in let two = b s one.replica (after_all s f one.script) in chain_both one.script two.script r.saved one.replica.saved two.replica.saved (x.each s r f) (y.each s one.replica (after_all s f one.script)) }

  pub c_quiet : Chained {F = F} quiet
  unfolding quiet
  c_quiet = record { each = λ s r f. refl }

  pub c_change : (g : Replica → Replica) → ((r : Replica) → (g r).saved ≡ r.saved) → Chained {F = F} (change g)
  unfolding change
  c_change g h = record { each = λ s r f. sym (h r) }

  pub c_says : (os : Replica → List Output) → Chained {F = F} (says os)
  unfolding says
  c_says os = record { each = λ s r f. said_chain (os r) r.saved }

  pub c_by : (w : Replica → Word F) → ((r : Replica) → Chained (w r)) → Chained (by w)
  unfolding by
  c_by w h = record { each = λ s r f. (h r).each s r f }

  pub c_naming : (w : (List ℕ → List ℕ) → Word F) → ((x : List ℕ → List ℕ) → Chained (w x)) → Chained (naming w)
  unfolding naming
  c_naming w h = record { each = λ s r f. (h s.hash).each s r f }

  pub c_reading : {X : Type 0} (g : Setting F → F → X) (w : X → Word F) → ((x : X) → Chained (w x)) → Chained (reading g w)
  unfolding reading
  c_reading g w h = record { each = λ s r f. (h (g s f)).each s r f }

  pub c_if : (b : Bool) (v w : Word F) → Chained v → Chained w → Chained (cond b v w)
  c_if true v w x y = x
  c_if false v w x y = y

  pub c_when : (b : Bool) (w : Word F) → Chained w → Chained (when b w)
  c_when b w x = c_if b w quiet x c_quiet

  pub c_times : (n : ℕ) (w : Word F) → Chained w → Chained (times n w)
  unfolding times
  c_times zero w x = c_quiet
  c_times (suc n) w x = c_then w (times n w) x (c_times n w x)

  pub c_each : {X : Type 0} (w : X → Word F) (xs : List X) → ((x : X) → Chained (w x)) → Chained (each w xs)
  unfolding each
  c_each w [] h = c_quiet
  c_each w (x ∷ xs) h = c_then (w x) (each w xs) (h x) (c_each w xs h)

  -- ---- words

  pub c_save : Chained {F = F} save
  unfolding save does change ◌⨾◌ value_of
  c_save = record { each = λ s r f. (refl, refl, refl) }

  pub c_entered : (view : ℕ) → Chained {F = F} (change (entered view))
  unfolding entered
  c_entered view = c_change (entered view) (λ r. refl)

  pub c_enter : (view : ℕ) → Chained {F = F} (enter view)
  unfolding enter
  c_enter view = c_if (nat_lt last_view view) (change rested) (change (entered view) ⨾ save ⨾ says (send_to_all start_view_change)) (c_change rested (λ r. refl))
      (c_then (change (entered view)) (save ⨾ says (send_to_all start_view_change)) (c_entered view) (c_then save (says (send_to_all start_view_change)) c_save (c_says (send_to_all start_view_change))))

  pub c_write : (e : Whole) → Chained {F = F} (write e)
  unfolding write does change ◌⨾◌
  c_write e = record { each = λ s r f. sym (stored_saved e r) }

  pub c_accept : (e : Whole) → Chained {F = F} (accept e)
  unfolding accept
  c_accept e = c_by (λ r. when (not (is_here (part_at r e.header.op))) (write e)) (λ r. c_when (not (is_here (part_at r e.header.op))) (write e) (c_write e))

  pub c_or_lost : (h : Header) (w : Whole → Word F) (o : Option Whole) → ((e : Whole) → Chained (w e)) → Chained (or_lost h w o)
  c_or_lost h w None x = c_change (lost h) (lost_saved h)
  c_or_lost h w (Some e) x = x e

  pub c_with : (w : Whole → Word F) (p : Part) → ((e : Whole) → Chained (w e)) → Chained (with_entry w p)
  c_with w (Here h) x = c_reading (entry_of h) (or_lost h w) (λ o. c_or_lost h w o x)
  c_with w (Lost h) x = c_quiet
  c_with w (Wanted h) x = c_quiet
  c_with w Unknown x = c_quiet
  c_with w Nothing x = c_quiet

  pub c_with_at : (op : ℕ) (w : Whole → Word F) → ((e : Whole) → Chained (w e)) → Chained (with_entry_at op w)
  unfolding with_entry_at
  c_with_at op w x = c_by (λ r. with_entry w (part_at r op)) (λ r. c_with w (part_at r op) x)

  pub c_checkpoint : Chained {F = F} (does checkpoints)
  unfolding does
  c_checkpoint = record { each = λ s r f. refl }

  pub c_make_checkpoint : Chained {F = F} make_checkpoint
  unfolding make_checkpoint
  c_make_checkpoint = c_by _ (λ r. c_reading (checkpoint_of r) (λ c. does checkpoints ⨾ change (with_checkpoint c) ⨾ save) (λ c.
      c_then (does checkpoints) (change (with_checkpoint c) ⨾ save) c_checkpoint (c_then (change (with_checkpoint c)) save (c_change (with_checkpoint c) (with_checkpoint_saved c)) c_save)))

  pub c_apply_entry : (e : Whole) → Chained {F = F} (apply_entry e)
  unfolding apply_entry
  c_apply_entry e = c_then _ _ (c_says (commit_line e)) (c_then _ _ (c_says (applied_reply e)) (c_then _ _ (c_change (applied e) (λ r. refl)) (c_by _ (λ r. c_when (is_checkpoint r.applied) make_checkpoint c_make_checkpoint))))

  pub c_apply_next : Chained {F = F} apply_next
  unfolding apply_next
  c_apply_next = c_by _ (λ r. c_when _ _ (c_with_at _ apply_entry c_apply_entry))

  pub c_apply : Chained {F = F} apply
  unfolding apply
  c_apply = c_by _ (λ r. c_times _ apply_next c_apply_next)

  pub c_advance : Chained {F = F} advance
  unfolding advance
  c_advance = c_then _ _ (c_change advanced advanced_saved) c_apply

  pub c_learn : (c : ℕ) → Chained {F = F} (learn c)
  unfolding learn
  c_learn c = c_then _ _ (c_change (learned c) (λ r. refl)) c_apply

  pub c_take : (l : Log) → Chained {F = F} (take l)
  unfolding take
  c_take l = c_then _ _ (c_change (taken l) (taken_saved l)) c_save

  pub c_prepare_again : (op : ℕ) → Chained {F = F} (prepare_again op)
  unfolding prepare_again
  c_prepare_again op = c_with_at op _ (λ e. c_says _)

  pub c_begin_view : (ss : List Statement) (l : Log) → Chained {F = F} (begin_view ss l)
  unfolding begin_view
  c_begin_view ss l = c_then _ _ (c_says (choose_line ss l)) (c_then _ _ (c_take l) (c_then _ _ (c_says _) (c_then _ _ (c_by _ (λ r. c_each prepare_again _ c_prepare_again)) (c_by _ (λ r. c_if _ _ _ c_advance c_apply)))))

  pub c_try_log : (ss : List Statement) (l : Log) → Chained {F = F} (try_log ss l)
  unfolding try_log
  c_try_log ss l = c_naming _ (λ hash. c_by _ (λ r. c_if _ _ _ (c_begin_view ss l) (c_says _)))

  pub c_choice : (ss : List Statement) (c : Choice) → Chained {F = F} (obey_choice ss c)
  c_choice ss TooFew = c_quiet
  c_choice ss (WaitsAt op) = c_says (wait_line op)
  c_choice ss (Ends headers) = c_by _ (λ r. c_try_log ss (chosen_log r ss headers))

  pub c_try : Chained {F = F} try
  unfolding try
  c_try = c_by _ (λ r. c_when _ _ (c_choice (stated r) (decided r)))

  pub c_speak : Chained {F = F} speak
  unfolding speak
  c_speak = c_by _ (λ r. c_when _ _ (c_if (is_primary r) try (says (to_primary do_view_change)) c_try (c_says _)))

  pub c_resend : (e : Whole) → Chained {F = F} (resend e)
  unfolding resend
  c_resend e = c_naming _ (λ hash. c_by _ (λ r. c_when _ _ (c_if _ _ _ (c_says _) (c_says _))))

  pub c_ask_peer : (m : Replica → Frame) → Chained {F = F} (ask_peer m)
  unfolding ask_peer
  c_ask_peer m = c_then _ _ (c_says _) (c_change turned (λ r. refl))

  pub c_ask_for : (ns : List Name) (o : Option Header) (ws : List Name) → Chained {F = F} (ask_for ns o ws)
  c_ask_for (n ∷ ns) o ws = c_ask_peer _
  c_ask_for [] (Some h) ws = c_naming _ (λ hash. c_ask_peer _)
  c_ask_for [] None (w ∷ ws) = c_ask_peer _
  c_ask_for [] None [] = c_quiet

  pub c_ask : Chained {F = F} ask
  unfolding ask
  c_ask = c_by _ (λ r. c_when _ _ (c_ask_for _ _ _))

  -- ---- a visit: the value that is mended is the one that was saved

  c_rewrites : (h : Header) → Chained {F = F} (does (λ r. Rewrite h))
  unfolding does
  c_rewrites h = record { each = λ s r f. refl }

  c_mends : Chained {F = F} (does (λ r. Mend r.saved))
  unfolding does
  c_mends = record { each = λ s r f. (refl, refl) }

  pub c_mend_header : (h : Header) (o : Option Header) → Chained {F = F} (mend_header h o)
  c_mend_header h None = c_rewrites h
  c_mend_header h (Some d) = c_when _ _ (c_rewrites h)

  pub c_visit_slot : (op : ℕ) → Chained {F = F} (visit_slot op)
  unfolding visit_slot
  c_visit_slot op = c_with_at op _ (λ e. c_reading _ _ (c_mend_header e.header))

  pub c_visit_read : (name : Name) (o : Option (List ℕ)) → Chained {F = F} (visit_read name o)
  c_visit_read name None = c_change (with_worn name) (λ r. refl)
  c_visit_read name (Some block) = c_quiet

  pub c_visit_block : (o : Option Name) → Chained {F = F} (visit_block o)
  unfolding visit_block
  c_visit_block None = c_quiet
  c_visit_block (Some name) = c_reading _ _ (c_visit_read name)

  pub c_visit_place : (at : ℕ) → Chained {F = F} (visit_place at)
  unfolding visit_place
  c_visit_place at = c_by _ (λ r. c_if _ _ _ (c_visit_slot _) (c_if _ _ _ c_mends (c_visit_block _)))

  pub c_visit : Chained {F = F} visit
  unfolding visit
  c_visit = c_by _ (λ r. c_when _ _ (c_then _ _ (c_visit_place _) (c_change _ (λ r. refl))))

  pub c_jump : (v : SyncView) → Chained {F = F} (jump v)
  unfolding jump
  c_jump v = c_then _ _ (c_change (jumped v) (jumped_saved v)) c_save

  pub c_load : Chained {F = F} load
  unfolding load
  c_load = c_by _ (λ r. c_when _ _ (c_reading _ (λ l. change (loads r.root l)) (λ l. c_change (loads r.root l) (loads_saved r.root l))))

  -- ---- an opening, after the mending

  pub c_leave : Chained {F = F} leave_view
  c_leave = c_by _ (λ r. c_when (leads r) _ (c_then _ _ (c_change in_next_view (λ r. refl)) c_save))

  pub c_announce : Chained {F = F} announce
  c_announce = c_by _ (λ r. c_when _ _ (c_then _ _ (c_change heard_itself (λ r. refl)) (c_by _ (λ r. c_when _ _ (c_says _)))))

  pub c_resuming : Chained {F = F} resuming
  c_resuming = c_by _ (λ r. c_if _ _ _ (c_says start_line) (c_then _ _ c_leave (c_then _ _ (c_says start_line) (c_then _ _ c_load (c_then _ _ c_apply c_announce)))))

-- How much the words of the rules have a replica send.
use Rattle.std.proofs.Common.{arith, ◌≡◌, ◌≤◌, ◌<◌, ◌+◌, ◌-◌, ◌*◌, refl, sym, ap, ◌∙◌, subst, ℕ, Bool, true, cond, not, List, [], ◌∷◌, length, max, Option, Some, None}
use Rattle.std.specs.Prelude.{nat_le, nat_lt, slice_get, is_some, ◌==◌, ◌&&◌, ◌||◌}
use Rattle.std.proofs.lemmas.Bool.{cond_both, and_parts, leb-true}
use Rattle.std.proofs.lemmas.List.FromFn.{length-range_with_len}
use Rattle.vr_base.specs.Replicas.{size}
use Rattle.vr_header.specs.declared.command.Command.{Command}
use Rattle.vr_header.specs.declared.command.Command.TheVariants as command
use Rattle.vr_header.specs.declared.header.Header.{Header}
use Rattle.vr_header.specs.declared.part.Part.{Part}
use Rattle.vr_header.specs.declared.part.Part.TheVariants.{Here, Lost, Wanted, Unknown, Nothing}
use Rattle.vr_header.specs.Made.{Whole}
use Rattle.vr_ckpt.specs.declared.name.Name.{Name}
use Rattle.vr_ckpt.specs.declared.found.Load.{Load}
use Rattle.vr_ckpt.specs.declared.found.Load.TheVariants.{Loaded, Missing}
use Rattle.vr_ckpt.specs.declared.table.PayloadTable.{PayloadTable}
use Rattle.vr_state.specs.declared.state.State.{State}
use Rattle.vr_state.specs.StateTexts.{state_decoded}
use Rattle.vr_msg.specs.Choice.{ops}
use Rattle.vr_msg.specs.Normal.{primary}
use Rattle.vr_msg.specs.declared.frame.Frame.{Frame}
use Rattle.vr_msg.specs.declared.frame.SyncView.{SyncView}
use Rattle.vr_msg.specs.Spelling.{command_for, version_of}
use Rattle.vr_msg.specs.declared.statement.Statement.{Statement}
use Rattle.vr_msg.specs.declared.choice.Choice.{Choice}
use Rattle.vr_msg.specs.declared.choice.Choice.TheVariants.{Ends, WaitsAt, TooFew}
use Rattle.vr_rules.specs.Outputs as told
use Rattle.vr_rules.specs.Outputs.{messages}
use Rattle.vr_rules.specs.Replica.{Replica, forgetting, header_at, is_primary, is_started, last_view, leads, statement_of, version, view_change, with_part}
use Rattle.vr_rules.specs.Steps.{Mend, Word, quiet, change, does, says, by, each, outputs}
use Rattle.vr_rules.specs.Words as words
use Rattle.vr_rules.specs.Words.{usable}
use Rattle.vr_replica.specs.Bounds.{asked, begun, spoken, weight}
use Rattle.vr_replica.proofs.Weighing.{At, Seat, Weighs, seat, times_more, weighs_all, weighs_as, weighs_by, weighs_change, weighs_does, weighs_each, weighs_from, weighs_if, weighs_keeps, weighs_line, weighs_naming, weighs_quiet, weighs_reading, weighs_says, weighs_send, weighs_then, weighs_times, weighs_when}

-- ---- a replica in its seat

-- with nothing committed above what is known to be
pub record From (o : Seat) (c : ℕ) (r : Replica) : Type 0 where
  pub seat : At o r
  pub above : c ≤ r.commit

-- with its checkpoint committed
pub record Low (o : Seat) (r : Replica) : Type 0 where
  pub seat : At o r
  pub low : r.checkpoint ≤ r.commit

-- what a change of other fields keeps
pub record Core : Type 0 where
  pub seat : Seat
  pub checkpoint : ℕ
  pub commit : ℕ

abbrev pub core : Replica → Core
core r = record { seat = seat r; checkpoint = r.checkpoint; commit = r.commit }

low_kept : (o : Seat) (r x : Replica) → core x ≡ core r → Low o r → Low o x
low_kept o r x e h =
    let checkpoint : x.checkpoint ≡ r.checkpoint = ap (λ (c : Core). c.checkpoint) e in
    let commit : x.commit ≡ r.commit = ap (λ (c : Core). c.commit) e in
    let low = h.low in
    record { seat = ap (λ (c : Core). c.seat) e ∙ h.seat; low = omega (arith, checkpoint, commit, low) }

state_seat : (root : Name) (table : PayloadTable) (x : Option State) (r : Replica) → seat (words.loaded_state root table x r) ≡ seat r
unfolding words.with_state
state_seat root table (Some s) r = refl
state_seat root table None r = refl

load_seat : (root : Name) (l : Load) (r : Replica) → seat (words.loads root l r) ≡ seat r
unfolding words.with_state
load_seat root (Loaded texts table) r = state_seat root table (usable (version r) (state_decoded texts)) r
load_seat root (Missing names) r = refl

module _ {F : Type 0} {w : ℕ → Command → ℕ} {o : Seat} where
  pub at_by : {Q : Replica → Type 0} {k : ℕ} (v : Replica → Word F) → ((r : Replica) → At o r → Weighs w (At o) Q k (v r)) → Weighs w (At o) Q k (by v)
  at_by v h = weighs_by v (λ r p. weighs_from (v r) (λ x j. ap (λ (y : Replica). seat y) j ∙ p) (h r p))

  pub low_by : {Q : Replica → Type 0} {k : ℕ} (v : Replica → Word F) → ((r : Replica) → Low o r → Weighs w (Low o) Q k (v r)) → Weighs w (Low o) Q k (by v)
  low_by v h = weighs_by v (λ r p. weighs_from (v r) (λ x j. subst (Low o) (sym j) p) (h r p))

  pub at_quiet : {k : ℕ} → Weighs {F = F} w (At o) (At o) k quiet
  at_quiet = weighs_as quiet (omega arith) weighs_quiet

  pub low_quiet : {k : ℕ} → Weighs {F = F} w (Low o) (At o) k quiet
  low_quiet = weighs_from quiet (λ r p. p.seat) at_quiet

  pub low_keeps : (g : Replica → Replica) → ((r : Replica) → core (g r) ≡ core r) → Weighs {F = F} w (Low o) (Low o) 0 (change g)
  low_keeps g h = weighs_change g (λ r p. low_kept o r (g r) (h r) p)

  low_save : Weighs {F = F} w (Low o) (Low o) 0 words.save
  unfolding words.save words.value_of outputs
  low_save = weighs_then _ _ (weighs_does _ (λ r. refl)) (low_keeps _ (λ r. refl))

  at_save : Weighs {F = F} w (At o) (At o) 0 words.save
  unfolding words.save words.value_of outputs
  at_save = weighs_then _ _ (weighs_does _ (λ r. refl)) (weighs_keeps _ (λ r. refl))

  from_save : (c : ℕ) → Weighs {F = F} w (From o c) (From o c) 0 words.save
  unfolding words.save words.value_of outputs
  from_save c = weighs_then _ _ (weighs_does _ (λ r. refl)) (weighs_change _ (λ r p. record { seat = p.seat; above = p.above }))

  pub at_write : (e : Whole) → Weighs {F = F} w (At o) (At o) 0 (words.write e)
  unfolding words.write forgetting with_part outputs
  at_write e = weighs_then _ _ (weighs_does _ (λ r. refl)) (weighs_keeps _ (λ r. refl))

  pub at_accept : (e : Whole) → Weighs {F = F} w (At o) (At o) 0 (words.accept e)
  unfolding words.accept
  at_accept e = at_by _ (λ r p. weighs_when _ _ (at_write e))

  at_or_lost : {k : ℕ} (h : Header) (v : Whole → Word F) (e : Option Whole) → ((e : Whole) → Weighs w (At o) (At o) k (v e)) → Weighs w (At o) (At o) k (words.or_lost h v e)
  unfolding with_part
  at_or_lost h v None k = weighs_as _ (omega arith) (weighs_keeps _ (λ r. refl))
  at_or_lost h v (Some e) k = k e

  at_part : {k : ℕ} (v : Whole → Word F) (p : Part) → ((e : Whole) → Weighs w (At o) (At o) k (v e)) → Weighs w (At o) (At o) k (words.with_entry v p)
  at_part v (Here h) k = weighs_reading _ _ (λ e. at_or_lost h v e k)
  at_part v (Lost h) k = at_quiet
  at_part v (Wanted h) k = at_quiet
  at_part v Unknown k = at_quiet
  at_part v Nothing k = at_quiet

  pub at_entry : {k : ℕ} (op : ℕ) (v : Whole → Word F) → ((e : Whole) → Weighs w (At o) (At o) k (v e)) → Weighs w (At o) (At o) k (words.with_entry_at op v)
  unfolding words.with_entry_at
  at_entry op v k = at_by _ (λ r p. at_part v _ k)

  -- ---- applying

  at_reply : (e : Whole) → Weighs {F = F} w (At o) (At o) 0 (says (told.applied_reply e))
  unfolding messages weight
  at_reply e =
      weighs_says _ (λ r p. cond_both (leads r) (told.replies (told.asker_of e) (told.kind_of _) r) [] (λ os. weight w (messages os) ≤ 0) (λ _. omega arith) (λ _. omega arith))

  at_checkpoint : Weighs {F = F} w (At o) (At o) 0 words.make_checkpoint
  unfolding words.make_checkpoint words.with_checkpoint outputs
  at_checkpoint = at_by _ (λ r p. weighs_reading _ _ (λ c. weighs_then _ _ (weighs_does _ (λ r. refl)) (weighs_then _ _ (weighs_keeps _ (λ r. refl)) at_save)))

  at_apply_entry : (e : Whole) → Weighs {F = F} w (At o) (At o) 0 (words.apply_entry e)
  unfolding words.apply_entry
  at_apply_entry e =
      weighs_then _ _ (weighs_line _ (λ r. refl)) (weighs_then _ _ (at_reply e) (weighs_then _ _ (weighs_keeps _ (λ r. refl)) (at_by _ (λ r p. weighs_when _ _ at_checkpoint))))

  pub at_apply : Weighs {F = F} w (At o) (At o) 0 words.apply
  unfolding words.apply words.apply_next
  at_apply = at_by _ (λ r p. weighs_times _ _ (at_by _ (λ r p. weighs_when _ _ (at_entry _ _ at_apply_entry))))

  pub at_advance : Weighs {F = F} w (At o) (At o) 0 words.advance
  unfolding words.advance words.advanced
  at_advance = weighs_then _ _ (weighs_keeps _ (λ r. refl)) at_apply

  pub at_learn : (c : ℕ) → Weighs {F = F} w (At o) (At o) 0 (words.learn c)
  unfolding words.learn
  at_learn c = weighs_then _ _ (weighs_keeps _ (λ r. refl)) at_apply

  pub at_load : Weighs {F = F} w (At o) (At o) 0 words.load
  unfolding words.load
  at_load = at_by _ (λ r p. weighs_when _ _ (weighs_reading _ _ (λ l. weighs_keeps _ (load_seat r.root l))))

  -- ---- logs that are taken over

  pub from_take : (c : ℕ) (l : words.Log) → Weighs {F = F} w (From o c) (From o c) 0 (words.take l)
  unfolding words.take words.taken forgetting
  from_take c l = weighs_then _ _ (weighs_change _ (λ r p. let above = p.above in record { seat = p.seat; above = omega (arith, above) })) (from_save c)

  pub at_jump : (v : SyncView) → Weighs {F = F} w (At o) (From o v.commit) 0 (words.jump v)
  unfolding words.jump words.jumped forgetting
  at_jump v = weighs_then _ _ (weighs_change _ (λ r p. record { seat = p; above = omega arith })) (from_save v.commit)

  -- a word for each op above the commit number, up to one that is near
  pub from_each : {k : ℕ} (c head : ℕ) (v : ℕ → Word F) → head ≤ c + 64 → ((op : ℕ) → Weighs w (At o) (At o) k (v op)) → Weighs w (From o c) (At o) (64 * k) (by (λ r. each v (ops r.commit head)))
  from_each c head v near h =
      weighs_by _ (λ r p.
      let above = p.above in
      let count = length-range_with_len (r.commit + 1) (head - r.commit) in
      let few : length (ops r.commit head) ≤ 64 = omega (arith, near, above, count) in
      weighs_as _ (times_more (length (ops r.commit head)) 64 _ few)
      (weighs_from _ (λ x j. ap (λ (y : Replica). seat y) j ∙ p.seat) (weighs_each v (ops r.commit head) h)))

  -- ---- asking a peer

  at_ask_peer : (c : Command) (message : Replica → Frame) → ((r : Replica) → command_for (message r) ≡ c) → ((r : Replica) → version_of (message r) ≡ version r)
      → Weighs {F = F} w (At o) (At o) (w o.version c) (words.ask_peer message)
  unfolding words.ask_peer
  at_ask_peer c message h k = weighs_as _ (omega arith) (weighs_then _ _ (weighs_send o (λ r p. p) c words.peer message h k) (weighs_keeps _ (λ r. refl)))

  at_ask_for : (names : List Name) (absent : Option Header) (worn : List Name) → Weighs {F = F} w (At o) (At o) (asked (w o.version)) (words.ask_for names absent worn)
  at_ask_for (name ∷ names) absent worn = weighs_as _ (omega arith) (at_ask_peer command.GetBlock (told.get_block name) (λ r. refl) (λ r. refl))
  at_ask_for [] (Some h) worn = weighs_naming _ (λ hash. weighs_as _ (omega arith) (at_ask_peer command.GetPrepare (told.get_prepare hash h) (λ r. refl) (λ r. refl)))
  at_ask_for [] None (name ∷ names) = weighs_as _ (omega arith) (at_ask_peer command.GetBlock (told.get_block name) (λ r. refl) (λ r. refl))
  at_ask_for [] None [] = at_quiet

  pub at_ask : Weighs {F = F} w (At o) (At o) (asked (w o.version)) words.ask
  unfolding words.ask
  at_ask = at_by _ (λ r p. weighs_when _ _ (at_ask_for _ _ _))

  -- ---- a visit of the disk

  at_mend_header : (h : Header) (d : Option Header) → Weighs {F = F} w (At o) (At o) 0 (words.mend_header h d)
  unfolding outputs
  at_mend_header h None = weighs_does _ (λ r. refl)
  at_mend_header h (Some d) = weighs_when _ _ (weighs_does _ (λ r. refl))

  at_visit_slot : (op : ℕ) → Weighs {F = F} w (At o) (At o) 0 (words.visit_slot op)
  unfolding words.visit_slot
  at_visit_slot op = at_entry op _ (λ e. weighs_reading _ _ (at_mend_header e.header))

  at_visit_read : (name : Name) (block : Option (List ℕ)) → Weighs {F = F} w (At o) (At o) 0 (words.visit_read name block)
  at_visit_read name None = weighs_keeps _ (λ r. refl)
  at_visit_read name (Some block) = at_quiet

  at_visit_block : (name : Option Name) → Weighs {F = F} w (At o) (At o) 0 (words.visit_block name)
  unfolding words.visit_block
  at_visit_block None = at_quiet
  at_visit_block (Some name) = weighs_reading _ _ (at_visit_read name)

  at_visit_place : (at : ℕ) → Weighs {F = F} w (At o) (At o) 0 (words.visit_place at)
  unfolding words.visit_place outputs
  at_visit_place at =
      at_by _ (λ r p.
      let name : Option Name = slice_get (words.blocks_of r) (at - 65) in
      weighs_if (nat_lt at 64) (words.visit_slot (words.op_of_slot r at)) (cond (at == 64) (does (λ r. Mend r.saved)) (words.visit_block name)) (λ _. at_visit_slot _)
      (λ _. weighs_if (at == 64) (does (λ r. Mend r.saved)) (words.visit_block name) (λ _. weighs_does (λ r. Mend r.saved) (λ r. refl)) (λ _. at_visit_block name)))

  pub at_visit : Weighs {F = F} w (At o) (At o) 0 words.visit
  unfolding words.visit
  at_visit = at_by _ (λ r p. weighs_when _ _ (weighs_then _ _ (at_visit_place _) (weighs_keeps _ (λ r. refl))))

-- the log that may be taken over ends within the window
pub taken_near : (hash : List ℕ → List ℕ) (l : words.Log) (r : Replica) → words.may_take hash l r ≡ true → l.head ≤ r.checkpoint + 64
unfolding words.may_take
taken_near hash l r e =
    let reaches : Bool = nat_le l.lo r.commit && (nat_le r.commit l.head && (nat_lt r.checkpoint l.head || ((l.head == 0) || is_some (header_at r l.head)))) in
    let a = and_parts (words.is_newer l r) (words.fits l r && words.is_chain hash l.headers) e in
    let b = and_parts (words.fits l r) (words.is_chain hash l.headers) a.1 in
    let c = and_parts (nat_le l.head (r.checkpoint + 64)) reaches b.0 in
    leb-true l.head (r.checkpoint + 64) c.0

-- ---- words that speak to all others

module _ {F : Type 0} {w : ℕ → Command → ℕ} {o : Seat} (member : o.index < o.n) where
  pub low_enter : (view : ℕ) → Weighs {F = F} w (Low o) (Low o) ((o.n - 1) * w o.version command.StartViewChange) (words.enter view)
  unfolding words.enter words.entered
  low_enter view =
      weighs_if (nat_lt last_view view) (change words.rested) _ (λ _. weighs_as _ (omega arith) (low_keeps _ (λ r. refl)))
      (λ _. weighs_as _ (omega arith) (weighs_then _ _ (low_keeps _ (λ r. refl)) (weighs_then _ _ low_save
      (weighs_all o (λ r p. p.seat) command.StartViewChange told.start_view_change member (λ r. refl) (λ r. refl)))))

  pub at_prepare_again : (op : ℕ) → Weighs {F = F} w (At o) (At o) ((o.n - 1) * w o.version command.Prepare) (words.prepare_again op)
  unfolding words.prepare_again
  at_prepare_again op = at_entry op _ (λ e. weighs_all o (λ r p. p) command.Prepare (told.prepare e) member (λ r. refl) (λ r. refl))

  pub at_resend : (e : Whole) → Weighs {F = F} w (At o) (At o) (max ((o.n - 1) * w o.version command.Prepare) (w o.version command.PrepareOk)) (words.resend e)
  unfolding words.resend
  at_resend e =
      weighs_naming _ (λ hash. at_by _ (λ r p. weighs_when _ _ (weighs_if _ _ _
      (λ _. weighs_as _ (omega arith) (weighs_all o (λ r p. p) command.Prepare (told.prepare e) member (λ r. refl) (λ r. refl)))
      (λ _. weighs_as _ (omega arith) (weighs_send o (λ r p. p) command.PrepareOk (λ r. primary r.n r.view) (told.prepare_ok hash e.header) (λ r. refl) (λ r. refl))))))

  from_begin : (ss : List Statement) (l : words.Log) (c : ℕ) → l.head ≤ c + 64 → Weighs {F = F} w (From o c) (At o) (begun (w o.version) (o.n - 1)) (words.begin_view ss l)
  unfolding words.begin_view
  from_begin ss l c near =
      weighs_as _ (omega arith)
      (weighs_then _ _ (weighs_line _ (λ r. refl))
      (weighs_then _ _ (from_take c l)
      (weighs_then _ _ (weighs_all o (λ r p. p.seat) command.StartView told.start_view member (λ r. refl) (λ r. refl))
      (weighs_then _ _ (from_each c l.head words.prepare_again near at_prepare_again)
      (at_by _ (λ r p. weighs_if _ _ _ (λ _. at_advance) (λ _. at_apply)))))))

  at_waits : {k : ℕ} (op : ℕ) → Weighs {F = F} w (At o) (At o) k (says (told.wait_line op))
  at_waits op = weighs_as _ (omega arith) (weighs_line _ (λ r. refl))

  low_try_log : (ss : List Statement) (l : words.Log) → Weighs {F = F} w (Low o) (At o) (begun (w o.version) (o.n - 1)) (words.try_log ss l)
  unfolding words.try_log
  low_try_log ss l =
      weighs_naming _ (λ hash. weighs_by _ (λ r p. weighs_if (words.may_take hash l r) (words.begin_view ss l) (says (told.wait_line l.head))
      (λ e. weighs_from _ (λ x j. subst (From o r.checkpoint) (sym j) (record { seat = p.seat; above = p.low })) (from_begin ss l r.checkpoint (taken_near hash l r e)))
      (λ _. weighs_from _ (λ x j. subst (At o) (sym j) p.seat) (at_waits l.head))))

  low_choice : (ss : List Statement) (c : Choice) → Weighs {F = F} w (Low o) (At o) (begun (w o.version) (o.n - 1)) (words.obey_choice ss c)
  low_choice ss TooFew = low_quiet
  low_choice ss (WaitsAt op) = weighs_from _ (λ r p. p.seat) (at_waits op)
  low_choice ss (Ends headers) = low_by _ (λ r p. low_try_log ss (words.chosen_log r ss headers))

  pub low_try : Weighs {F = F} w (Low o) (At o) (begun (w o.version) (o.n - 1)) words.try
  unfolding words.try
  low_try =
      low_by _ (λ r p. weighs_if (is_primary r && not (is_started r)) (words.obey_choice (words.stated r) (words.decided r)) quiet
      (λ _. low_choice (words.stated r) (words.decided r)) (λ _. low_quiet))

  pub low_speak : Weighs {F = F} w (Low o) (At o) (spoken (w o.version) (o.n - 1)) words.speak
  unfolding words.speak statement_of
  low_speak =
      low_by _ (λ r p.
      weighs_if (nat_le (view_change r.n) (size r.heard)) (cond (is_primary r) words.try (says (told.to_primary told.do_view_change))) quiet
      (λ _. weighs_if (is_primary r) words.try (says (told.to_primary told.do_view_change)) (λ _. weighs_as _ (omega arith) low_try)
      (λ _. weighs_as _ (omega arith) (weighs_from _ (λ r p. p.seat) (weighs_send o (λ r p. p) command.DoViewChange (λ r. primary r.n r.view) told.do_view_change (λ r. refl) (λ r. refl)))))
      (λ _. low_quiet))

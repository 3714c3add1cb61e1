-- The words that are calm: all but those that enter a view.
use Rattle.vr_rules.specs.Words.{usable}
use Rattle.std.proofs.Common.{arith, ◌≡◌, ◌≤◌, ◌<◌, ◌+◌, ◌-◌, ◌%◌, refl, sym, ap, ◌∙◌, ℕ, false, cond, List, [], ◌∷◌, Option, Some, None, inl, inr, true, not, ◌⊎◌, subst}
use Rattle.std.specs.Prelude.{All, nat_lt, slice_get, ◌==◌}
use Rattle.std.proofs.lemmas.Bool.{cond_both, eqb-false, eq-eqb}
use Rattle.std.proofs.lemmas.Nat.{mod_below}
use Rattle.std.proofs.lemmas.List.Elements.{All-nil, All-cons}
use Rattle.vr_header.specs.declared.header.Header.{Header}
use Rattle.vr_header.specs.declared.part.Part.{Part}
use Rattle.vr_header.specs.declared.part.Part.TheVariants.{Here, Lost, Wanted, Unknown, Nothing}
use Rattle.vr_header.specs.Made.{Whole}
use Rattle.vr_ckpt.specs.declared.name.Name.{Name}
use Rattle.vr_ckpt.specs.declared.found.Load.{Load}
use Rattle.vr_ckpt.specs.declared.found.Load.TheVariants.{Loaded, Missing}
use Rattle.vr_ckpt.specs.declared.table.PayloadTable.{PayloadTable}
use Rattle.vr_state.specs.declared.state.State.{State}
use Rattle.vr_state.specs.StateTexts.{state_decoded}
use Rattle.vr_msg.specs.declared.frame.Frame.{Frame}
use Rattle.vr_msg.specs.declared.reply.ReplyKind.{ReplyKind}
use Rattle.vr_msg.specs.declared.statement.Statement.{Statement}
use Rattle.vr_msg.specs.declared.choice.Choice.{Choice}
use Rattle.vr_msg.specs.declared.choice.Choice.TheVariants.{Ends, WaitsAt, TooFew}
use Rattle.vr_msg.specs.Normal.{primary}
use Rattle.vr_rules.specs.Replica.{Replica, leads, is_primary, statement_of, forgetting, with_part, version, is_alone}
use Rattle.vr_rules.specs.Steps.{Mend, Word, change, does, says, outputs, quiet}
use Rattle.vr_rules.specs.declared.asker.Asker.{Asker}
use Rattle.vr_rules.specs.Outputs as told
use Rattle.vr_rules.specs.Words as words
use Rattle.vr_rules.specs.Laws.{IsPlaced, IsBy, IsCommitOf, IsPresentFrame, IsPresentOutput}
use Rattle.vr_rules.proofs.SendsPlaces.{IsOther, peer_is, turn_is}
use Rattle.vr_rules.proofs.SendsCalm.{Near, Calm, calm_then, calm_quiet, calm_change, calm_does, calm_says, calm_by, calm_naming, calm_reading, calm_if, calm_when, calm_times, calm_each, calm_one, calm_send, calm_all}

-- what a change of other fields keeps
pub record Place : Type 0 where
  pub cluster : ℕ
  pub index : ℕ
  pub n : ℕ
  pub view : ℕ
  pub log_view : ℕ
  pub turn : ℕ
  pub commit : ℕ

abbrev pub place : Replica → Place
place r = record { cluster = r.cluster; index = r.index; n = r.n; view = r.view; log_view = r.log_view; turn = r.turn; commit = r.commit }

pub near_place : (r x : Replica) → IsPlaced r → place x ≡ place r → Near r x
near_place r x h e =
    let index : x.index ≡ r.index = ap (λ (p : Place). p.index) e in
    let n : x.n ≡ r.n = ap (λ (p : Place). p.n) e in
    let view : x.view ≡ r.view = ap (λ (p : Place). p.view) e in
    let log_view : x.log_view ≡ r.log_view = ap (λ (p : Place). p.log_view) e in
    let turn : x.turn ≡ r.turn = ap (λ (p : Place). p.turn) e in
    let commit : x.commit ≡ r.commit = ap (λ (p : Place). p.commit) e in
    record {
      same = record { cluster = ap (λ (p : Place). p.cluster) e; index = index; n = n; view = view; commit = omega arith };
      placed = record { member = omega arith; views = omega arith; peer = subst (λ (k : ℕ). (k ≡ 1) ⊎ (x.turn + 1 < k)) (sym n) (subst (λ (k : ℕ). (r.n ≡ 1) ⊎ (k + 1 < r.n)) (sym turn) h.peer) };
    }

-- or raises the commit number beside
near_higher : (r : Replica) (c : ℕ) → IsPlaced r → r.commit ≤ c → Near r (record r { commit = c })
near_higher r c h l =
    record { same = record { cluster = refl; index = refl; n = refl; view = refl; commit = l }; placed = record { member = h.member; views = h.views; peer = h.peer } }

pub own : (r : Replica) → IsBy r r.cluster r.index
own r = record { cluster = refl; replica = refl }

pub own_commit : (r : Replica) → IsCommitOf r r r.commit
own_commit r = record { from = omega arith; upto = omega arith }

-- the peer that it asks is another replica, where there is one
peer_of : (o r : Replica) → Near o r → (o.n ≡ 1 → ⊥) → r.turn + 1 < r.n
peer_of o r near several = elim near.placed.peer [ inl one ↦ absurd (several (sym near.same.n ∙ one)) | inr more ↦ more ]

not_alone : (o r : Replica) → Near o r → not (is_alone r) ≡ true → o.n ≡ 1 → ⊥
not_alone o r near t one =
    let same : r.n ≡ 1 = near.same.n ∙ one in
    let bad : false ≡ true = rw (eq-eqb r.n 1 same) at t in
    cc

pub primary_stays : (o r : Replica) → Near o r → is_primary r ≡ is_primary o
primary_stays o r near =
    let a : r.index ≡ o.index = near.same.index in
    let b : r.n ≡ o.n = near.same.n in
    let c : r.view ≡ o.view = near.same.view in
    cc

-- the primary of its view, where it isn't the replica itself
primary_is : (r : Replica) → IsPlaced r → is_primary r ≡ false → IsOther r.index r.n (primary r.n r.view)
primary_is r h e =
    let l : r.index < r.n = h.member in
    let below : r.view % r.n < r.n = mod_below r.view r.n (omega arith) in
    (below, λ (q : r.view % r.n ≡ r.index). eqb-false r.index (r.view % r.n) e (sym q))

state_place : (root : Name) (table : PayloadTable) (x : Option State) (r : Replica) → place (words.loaded_state root table x r) ≡ place r
unfolding words.with_state
state_place root table (Some s) r = refl
state_place root table None r = refl

load_place : (root : Name) (l : Load) (r : Replica) → place (words.loads root l r) ≡ place r
load_place root (Loaded texts table) r = state_place root table (usable (version r) (state_decoded texts)) r
load_place root (Missing names) r = refl

module _ {F : Type 0} {MayAsk : ℕ → ℕ → Type 0} {o : Replica} where
  pub calm_keeps : (g : Replica → Replica) → ((r : Replica) → place (g r) ≡ place r) → Calm {F = F} MayAsk o (change g)
  calm_keeps g h = calm_change g (λ r near. near_place r (g r) near.placed (h r))

  -- a message to the primary, from another replica
  pub calm_primary : (message : Replica → Frame) → is_primary o ≡ false → ((r : Replica) → Near o r → IsPresentFrame (MayAsk (primary r.n r.view)) r r (message r))
      → Calm {F = F} MayAsk o (says (told.to_primary message))
  calm_primary message e h = calm_send (λ r. primary r.n r.view) message (λ r near. primary_is r near.placed (primary_stays o r near ∙ e)) h

  pub calm_save : Calm {F = F} MayAsk o words.save
  unfolding words.save outputs
  calm_save = calm_then _ _ (calm_does _ (λ r. refl)) (calm_keeps _ (λ r. refl))

  pub calm_write : (e : Whole) → Calm {F = F} MayAsk o (words.write e)
  unfolding words.write forgetting with_part outputs
  calm_write e = calm_then _ _ (calm_does _ (λ r. refl)) (calm_keeps _ (λ r. refl))

  pub calm_accept : (e : Whole) → Calm {F = F} MayAsk o (words.accept e)
  unfolding words.accept
  calm_accept e = calm_by _ (λ r near. calm_when _ _ (calm_write e))

  calm_or_lost : (h : Header) (w : Whole → Word F) (e : Option Whole) → ((e : Whole) → Calm MayAsk o (w e)) → Calm MayAsk o (words.or_lost h w e)
  unfolding with_part
  calm_or_lost h w None k = calm_keeps _ (λ r. refl)
  calm_or_lost h w (Some e) k = k e

  calm_part : (w : Whole → Word F) (p : Part) → ((e : Whole) → Calm MayAsk o (w e)) → Calm MayAsk o (words.with_entry w p)
  calm_part w (Here h) k = calm_reading _ _ (λ e. calm_or_lost h w e k)
  calm_part w (Lost h) k = calm_quiet
  calm_part w (Wanted h) k = calm_quiet
  calm_part w Unknown k = calm_quiet
  calm_part w Nothing k = calm_quiet

  pub calm_entry : (op : ℕ) (w : Whole → Word F) → ((e : Whole) → Calm MayAsk o (w e)) → Calm MayAsk o (words.with_entry_at op w)
  unfolding words.with_entry_at
  calm_entry op w k = calm_by _ (λ r near. calm_part w _ k)

  pub calm_replies : (x : Asker) (kind : Replica → ReplyKind) → Calm {F = F} MayAsk o (says (λ r. told.replies x (kind r) r))
  calm_replies x kind = calm_one _ (λ r near. (own r, refl))

  calm_reply : (e : Whole) → Calm {F = F} MayAsk o (says (told.applied_reply e))
  calm_reply e =
      calm_says _ (λ r near. cond_both (leads r) (told.replies (told.asker_of e) (told.kind_of _) r) [] (λ os. All (IsPresentOutput MayAsk r r) os)
      (λ _. All-cons (IsPresentOutput MayAsk r r) _ [] (own r, refl) (All-nil (IsPresentOutput MayAsk r r))) (λ _. All-nil (IsPresentOutput MayAsk r r)))

  calm_checkpoint : Calm {F = F} MayAsk o words.make_checkpoint
  unfolding words.make_checkpoint words.with_checkpoint outputs
  calm_checkpoint = calm_by _ (λ r near. calm_reading _ _ (λ c. calm_then _ _ (calm_does _ (λ r. refl)) (calm_then _ _ (calm_keeps _ (λ r. refl)) calm_save)))

  calm_apply_entry : (e : Whole) → Calm {F = F} MayAsk o (words.apply_entry e)
  unfolding words.apply_entry
  calm_apply_entry e =
      calm_then _ _ (calm_one _ (λ r near. refl)) (calm_then _ _ (calm_reply e) (calm_then _ _ (calm_keeps _ (λ r. refl)) (calm_by _ (λ r near. calm_when _ _ calm_checkpoint))))

  pub calm_apply : Calm {F = F} MayAsk o words.apply
  unfolding words.apply words.apply_next
  calm_apply = calm_by _ (λ r near. calm_times _ _ (calm_by _ (λ r near. calm_when _ _ (calm_entry _ _ calm_apply_entry))))

  pub calm_advance : Calm {F = F} MayAsk o words.advance
  unfolding words.advance words.advanced
  calm_advance = calm_then _ _ (calm_change _ (λ r near. near_higher r _ near.placed (omega arith))) calm_apply

  pub calm_learn : (c : ℕ) → Calm {F = F} MayAsk o (words.learn c)
  unfolding words.learn
  calm_learn c = calm_then _ _ (calm_change _ (λ r near. near_higher r _ near.placed (omega arith))) calm_apply

  -- a log of the present view
  pub calm_take : (l : words.Log) → l.view ≡ o.view → Calm {F = F} MayAsk o (words.take l)
  unfolding words.take words.taken forgetting
  calm_take l e =
      calm_then _ _
      (calm_change _ (λ r near.
      let member : r.index < r.n = near.placed.member in
      let peer = near.placed.peer in
      record {
        same = record { cluster = refl; index = refl; n = refl; view = e ∙ sym near.same.view; commit = omega arith };
        placed = record { member = member; views = omega arith; peer = peer };
      }))
      calm_save

  pub calm_prepare_again : (op : ℕ) → Calm {F = F} MayAsk o (words.prepare_again op)
  unfolding words.prepare_again
  calm_prepare_again op = calm_entry op _ (λ e. calm_all _ (λ r near to. (refl, refl, own_commit r)))

  calm_begin : (ss : List Statement) (l : words.Log) → l.view ≡ o.view → Calm {F = F} MayAsk o (words.begin_view ss l)
  unfolding words.begin_view
  calm_begin ss l e =
      calm_then _ _ (calm_one _ (λ r near. (refl, refl)))
      (calm_then _ _ (calm_take l e)
      (calm_then _ _ (calm_all _ (λ r near to. (own r, refl, own_commit r)))
      (calm_then _ _ (calm_by _ (λ r near. calm_each _ _ calm_prepare_again)) (calm_by _ (λ r near. calm_if _ _ _ (λ _. calm_advance) (λ _. calm_apply))))))

  calm_waits : (op : ℕ) → Calm {F = F} MayAsk o (says (told.wait_line op))
  calm_waits op = calm_one _ (λ r near. (refl, refl))

  calm_try_log : (ss : List Statement) (l : words.Log) → l.view ≡ o.view → Calm {F = F} MayAsk o (words.try_log ss l)
  unfolding words.try_log
  calm_try_log ss l e =
      calm_naming _ (λ hash. calm_by _ (λ r near. calm_if (words.may_take hash l r) (words.begin_view ss l) (says (told.wait_line l.head)) (λ _. calm_begin ss l e) (λ _. calm_waits l.head)))

  calm_choice : (ss : List Statement) (c : Choice) → Calm {F = F} MayAsk o (words.obey_choice ss c)
  calm_choice ss TooFew = calm_quiet
  calm_choice ss (WaitsAt op) = calm_waits op
  calm_choice ss (Ends headers) = calm_by _ (λ r near. calm_try_log ss (words.chosen_log r ss headers) near.same.view)

  pub calm_try : Calm {F = F} MayAsk o words.try
  unfolding words.try
  calm_try = calm_by _ (λ r near. calm_when _ _ (calm_choice _ _))

  pub calm_speak : Calm {F = F} MayAsk o words.speak
  unfolding words.speak statement_of
  calm_speak =
      calm_by _ (λ r near. calm_when _ _ (calm_if _ _ _ (λ _. calm_try) (λ e. calm_primary _ (sym (primary_stays o r near) ∙ e) (λ r near. (own r, refl, own_commit r)))))

  pub calm_resend : (e : Whole) → Calm {F = F} MayAsk o (words.resend e)
  unfolding words.resend
  calm_resend e =
      calm_naming _ (λ hash. calm_by _ (λ r near. calm_when _ _ (calm_if _ _ _
      (λ _. calm_all _ (λ r near to. (refl, refl, own_commit r)))
      (λ q. calm_primary _ (sym (primary_stays o r near) ∙ q) (λ r near. (own r, refl))))))

  calm_ask_peer : (message : Replica → Frame) → (o.n ≡ 1 → ⊥) → ((r : Replica) (to : ℕ) → IsPresentFrame (MayAsk to) r r (message r)) → Calm {F = F} MayAsk o (words.ask_peer message)
  unfolding words.ask_peer
  calm_ask_peer message several h =
      calm_then _ _ (calm_send words.peer message (λ r near. peer_is r.index r.n r.turn near.placed.member (peer_of o r near several)) (λ r near. h r _))
      (calm_change _ (λ r near. record {
        same = record { cluster = refl; index = refl; n = refl; view = refl; commit = omega arith };
        placed = record { member = near.placed.member; views = near.placed.views; peer = inr (turn_is r.n r.turn (peer_of o r near several)) };
      }))

  calm_ask_for : (names : List Name) (absent : Option Header) (worn : List Name) → (o.n ≡ 1 → ⊥) → Calm {F = F} MayAsk o (words.ask_for names absent worn)
  calm_ask_for (name ∷ names) absent worn several = calm_ask_peer _ several (λ r to. own r)
  calm_ask_for [] (Some h) worn several = calm_naming _ (λ hash. calm_ask_peer _ several (λ r to. own r))
  calm_ask_for [] None (name ∷ names) several = calm_ask_peer _ several (λ r to. own r)
  calm_ask_for [] None [] several = calm_quiet

  pub calm_ask : Calm {F = F} MayAsk o words.ask
  unfolding words.ask
  calm_ask = calm_by _ (λ r near. calm_if (not (is_alone r)) _ quiet (λ t. calm_ask_for _ _ _ (not_alone o r near t)) (λ _. calm_quiet))

  -- ---- a visit of the disk

  calm_mend_header : (h : Header) (d : Option Header) → Calm {F = F} MayAsk o (words.mend_header h d)
  unfolding outputs
  calm_mend_header h None = calm_does _ (λ r. refl)
  calm_mend_header h (Some d) = calm_when _ _ (calm_does _ (λ r. refl))

  calm_visit_slot : (op : ℕ) → Calm {F = F} MayAsk o (words.visit_slot op)
  unfolding words.visit_slot
  calm_visit_slot op = calm_entry op _ (λ e. calm_reading _ _ (calm_mend_header e.header))

  calm_visit_read : (name : Name) (block : Option (List ℕ)) → Calm {F = F} MayAsk o (words.visit_read name block)
  calm_visit_read name None = calm_keeps _ (λ r. refl)
  calm_visit_read name (Some block) = calm_quiet

  calm_visit_block : (name : Option Name) → Calm {F = F} MayAsk o (words.visit_block name)
  unfolding words.visit_block
  calm_visit_block None = calm_quiet
  calm_visit_block (Some name) = calm_reading _ _ (calm_visit_read name)

  calm_visit_place : (at : ℕ) → Calm {F = F} MayAsk o (words.visit_place at)
  unfolding words.visit_place outputs
  calm_visit_place at =
      calm_by _ (λ r near.
      let name : Option Name = slice_get (words.blocks_of r) (at - 65) in
      calm_if (nat_lt at 64) (words.visit_slot (words.op_of_slot r at)) (cond (at == 64) (does (λ r. Mend r.saved)) (words.visit_block name)) (λ _. calm_visit_slot _)
      (λ _. calm_if (at == 64) (does (λ r. Mend r.saved)) (words.visit_block name) (λ _. calm_does (λ r. Mend r.saved) (λ r. refl)) (λ _. calm_visit_block name)))

  pub calm_visit : Calm {F = F} MayAsk o words.visit
  unfolding words.visit
  calm_visit = calm_by _ (λ r near. calm_when _ _ (calm_then _ _ (calm_visit_place _) (calm_keeps _ (λ r. refl))))

  -- ---- loading a checkpoint

  pub calm_load : Calm {F = F} MayAsk o words.load
  unfolding words.load
  calm_load = calm_by _ (λ r near. calm_when _ _ (calm_reading _ _ (λ l. calm_keeps _ (load_place r.root l))))

-- The words of which rules are made keep a replica's checkpoint and state the log's.
use Rattle.std.proofs.Common.{ℕ, suc, ◌+◌, ◌<◌, ◌≡◌, ◌≢◌, ◌∙◌, inl, inr, arith, refl, sym, ap, subst, Bool, true, false, cond, eqb, ◌&&◌, List, [], ◌∷◌, ◌++◌, ◌%◌, ◌-◌, length, map, Option, Some, None}
use Rattle.std.specs.Prelude.{is_some, nat_lt, slice_get}
use Rattle.std.specs.Option.{option_and_then}
use Rattle.std.proofs.lemmas.Bool.{and_parts, cases_lt, eq-eqb, eqb-true, le-ltb, lt-ltb, true≢false}
use Rattle.std.proofs.lemmas.List.{nil_from_length}
use Rattle.std.proofs.lemmas.Nat.{mod_below}
use Rattle.vr_header.specs.declared.header.Header.{Header}
use Rattle.vr_header.specs.declared.part.Part.{Part}
use Rattle.vr_header.specs.declared.part.Part.TheVariants.{Here, Lost, Wanted, Unknown, Nothing}
use Rattle.vr_header.specs.Made.{Whole}
use Rattle.vr_header.specs.NoCollision.{NoCollision}
use Rattle.vr_header.specs.Same.{same_header}
use Rattle.vr_state.specs.Folds as state
use Rattle.vr_state.specs.StateTexts.{FitsPayloads, texts_of}
use Rattle.vr_state.specs.declared.state.State.{State}
use Rattle.vr_state.proofs.Stored.{state_next}
use Rattle.vr_msg.specs.declared.choice.Choice.{Choice}
use Rattle.vr_msg.specs.declared.choice.Choice.TheVariants.{Ends, WaitsAt, TooFew}
use Rattle.vr_msg.specs.declared.frame.Frame.{Frame}
use Rattle.vr_msg.specs.declared.output.Output.{Output}
use Rattle.vr_msg.specs.declared.statement.Statement.{Statement}
use Rattle.vr_rings.specs.Slots.{IsWhole}
use Rattle.vr_super.specs.Copies.{SuperValue}
use Rattle.vr_ckpt.specs.Blocks.{block_name, named}
use Rattle.vr_ckpt.specs.declared.name.Name.{Name}
use Rattle.vr_ckpt.specs.Saves.{root_of, table_of}
use Rattle.vr_ckpt.specs.declared.saving.SavedCheckpoint as checkpoint
use Rattle.vr_world.specs.Checkpoints.{state_at, table_at, table_before}
use Rattle.vr_world.specs.Lying.{Lying, lying}
use Rattle.vr_rules.specs.Outputs.{applied_reply, asker_of, commit_line, kind_of, others, replies, send, send_to, send_to_all, sync_view}
use Rattle.vr_rules.specs.Replica.{Replica, forgetting, leads, part_at, with_part}
use Rattle.vr_rules.specs.Rules.{mend_found, not_worn, put_block, without}
use Rattle.vr_world.specs.Safe as safe
use Rattle.vr_rules.specs.Steps.{Effect, Mend, PutBlock, Rewrite, Say, Setting, Word, ◌⨾◌, quiet, change, does, says, by, naming, reading, when, each, outputs, after_all}
use Rattle.vr_rules.specs.Words.{Log, advance, advanced, accept, applied, apply, apply_entry, apply_next, ask, ask_for, ask_peer, begin_view, checkpoint_at, checkpoints, decided, enter, entered, entry_of, is_checkpoint, is_loaded, learn, load, loads, lost, make_checkpoint, mend_header, obey_choice, or_lost, prepare_again, resend, save, speak, stated, stored, take, taken, try, try_log, visit, visit_block, visit_place, visit_read, visit_slot, with_checkpoint, with_entry, with_entry_at, with_worn, write}
use Rattle.law_2_chains.specs.Chains.{Every}
use Rattle.law_2_chains.proofs.Repairs.{every_mapped}
use Rattle.law_3_outputs.specs.Answering.{lines}
use Rattle.law_3_outputs.proofs.Answers.{loads_place}
use Rattle.law_6_one_log.specs.Hashed.{IsTable, IsWrittenOut, ReadsHashed}
use Rattle.law_6_one_log.proofs.Blocks.{table_kept}
use Rattle.law_6_one_log.proofs.Disks.{Begun, put_hashed}
use Rattle.law_6_one_log.proofs.Values.{Core, IsRooted, IsSettled, Rests, Stands, core, loads_stand, made_table, same_table, table_made, texts_fit}
use Rattle.law_6_one_log.proofs.Walk.{AllMay, Bears, IsBorne, IsCalm, IsOther, IsPlain, May, Steady, Walks, Well, WellAt, all_lines, calm_bears, said_borne, said_calm, then_at, walks_by, walks_change, walks_does, walks_each, walks_if, walks_naming, walks_quiet, walks_reading, walks_save, walks_says, walks_then, walks_times, walks_when}

pub all_others : (message : Replica → Frame) → ((r : Replica) → IsPlain (message r)) → (r : Replica) → Every IsOther (send_to_all message r)
unfolding send_to_all
all_others message plain r = every_mapped IsOther (λ to. send to (message r) r) (others r.index r.n) (λ to. plain r)

-- what reads as the entry of a header
read_entry : (h : Header) (o : Option Whole) (e : Whole) → option_and_then (λ (x : Whole). cond (same_header x.header h) (Some x) None) o ≡ Some e → o ≡ Some e
read_entry h None e q = absurd cc
read_entry h (Some x) e q = elim (same_header x.header h) as (λ t. cond t (Some x) None ≡ Some e → Some x ≡ Some e) [ true ↦ λ q. q | false ↦ λ q. absurd cc ] q

loaded_of : (r : Replica) → r.missing ≡ [] → is_loaded r ≡ true
loaded_of r none = rw none refl

-- an entry's line and reply, and the entry applied
abbrev lined_entry : Whole → Word Lying
lined_entry e s r f = record { replica = applied e r; script = map Say (commit_line e r ++ applied_reply e r) }

replies_other : (e : Whole) (r : Replica) → Every IsOther (applied_reply e r)
replies_other e r =
    elim (leads r) as (λ b. Every IsOther (cond b (replies (asker_of e) (kind_of (state.applied r.state e).reply) r) [])) [ true ↦ (tt, tt) | false ↦ tt ]

-- a value of the log's is saved
pub resting_saved : (H : List ℕ → Type 0) (cluster : ℕ) (log : List Whole) (k : Core) (v : SuperValue) → IsRooted H cluster log v → Rests H cluster log k → Rests H cluster log (record k { saved = v })
resting_saved H cluster log k v rooted h = record { own = h.own; settled = h.settled; root = h.root; table = h.table; waits = h.waits; saved = rooted }

module _ (H : List ℕ → Type 0) (never : NoCollision H) (cluster : ℕ) (log : List Whole) where
  abbrev pub S : Core → Lying → Type 0
  S k d = Stands H cluster log k

  keeps_saved : (k : Core) (v : SuperValue) → IsRooted H cluster log v → Stands H cluster log k → Stands H cluster log (record k { saved = v })
  keeps_saved k v rooted h = record { rests = resting_saved H cluster log k v rooted h.rests; state = h.state; table = h.table }

  pub steady : Steady H cluster log S
  steady = record { rooted = λ k d p. p.rests.root; calm = λ k d e c p. p; saved = λ k d v rooted p. keeps_saved k v rooted p }

  abbrev pub Keeps : Word Lying → Type 0
  Keeps w = Walks H cluster log S w

  pub go_then : (v w : Word Lying) → Keeps v → Keeps w → Keeps (v ⨾ w)
  go_then v w h k = walks_then H cluster log v w h k

  pub go_quiet : Keeps quiet
  go_quiet = walks_quiet H cluster log steady

  pub go_change : (g : Replica → Replica) → ((r : Replica) → core (g r) ≡ core r) → Keeps (change g)
  go_change g h = walks_change H cluster log steady g h

  pub go_does : (e : Replica → Effect) → ((r : Replica) → IsCalm (e r)) → ((r : Replica) → IsBorne H cluster log (e r)) → Keeps (does e)
  go_does e c b = walks_does H cluster log steady e c (λ r d p. b r)

  pub go_says : (os : Replica → List Output) → ((r : Replica) → Every IsOther (os r)) → Keeps (says os)
  go_says os h = walks_says H cluster log steady os h

  pub go_all : (message : Replica → Frame) → ((r : Replica) → IsPlain (message r)) → Keeps (says (send_to_all message))
  go_all message plain = go_says (send_to_all message) (all_others message plain)

  pub go_by : (w : Replica → Word Lying) → ((r : Replica) → Keeps (w r)) → Keeps (by w)
  go_by w h = walks_by H cluster log w h

  pub go_naming : (w : (List ℕ → List ℕ) → Word Lying) → ((hash : List ℕ → List ℕ) → Keeps (w hash)) → Keeps (naming w)
  go_naming w h = walks_naming H cluster log w h

  pub go_reading : {X : Type 0} (g : Setting Lying → Lying → X) (w : X → Word Lying) → ((x : X) → Keeps (w x)) → Keeps (reading g w)
  go_reading g w h = walks_reading H cluster log g w h

  pub go_if : (b : Bool) (v w : Word Lying) → Keeps v → Keeps w → Keeps (cond b v w)
  go_if b v w h k = walks_if H cluster log b v w h k

  pub go_when : (b : Bool) (w : Word Lying) → Keeps w → Keeps (when b w)
  go_when b w h = walks_when H cluster log steady b w h

  pub go_each : {X : Type 0} (w : X → Word Lying) (xs : List X) → ((x : X) → Keeps (w x)) → Keeps (each w xs)
  go_each w xs h = walks_each H cluster log steady w xs h

  pub go_save : Keeps save
  go_save = walks_save H cluster log steady

  -- ---- a checkpoint

  -- an entry was applied, and the checkpoint that may be due at it isn't made yet
  record IsApplied (k : Core) : Type 0 where
    rests : Rests H cluster log k
    state : k.missing ≡ [] → k.state ≡ state_at log k.applied
    table : k.missing ≡ [] → k.table ≡ table_before cluster log k.applied
    some : 0 < k.applied

  abbrev A : Core → Lying → Type 0
  A k d = IsApplied k

  checkpoint_stands : (r : Replica) → r.missing ≡ [] → is_checkpoint r.applied ≡ true → IsApplied (core r) → Begun H (checkpoints r) → Stands H cluster log (core (with_checkpoint (lying.save_state r.cluster (texts_of r.state) r.applied r.table) r))
  unfolding with_checkpoint
  checkpoint_stands r none due h begun =
      let op = r.applied in
      let own : r.cluster ≡ cluster = h.rests.own in
      let same : r.state ≡ state_at log op = h.state none in
      let old : r.table ≡ table_before cluster log op = h.table none in
      let texts = texts_of (state_at log op) in
      let written : IsWrittenOut H r.cluster (texts_of r.state) op r.table =
      λ c i. record { payload = begun c.payload (safe.IsWritten.payload r.cluster (texts_of r.state) op r.table c i); header = begun _ (safe.IsWritten.block r.cluster (texts_of r.state) op r.table c i) } in
      let fits : FitsPayloads (texts_of r.state) = subst (λ s. FitsPayloads (texts_of s)) (sym same) (texts_fit log op h.rests.settled) in
      let made : table_of r.cluster (texts_of r.state) op r.table ≡ table_made cluster log op =
      ap (λ t. table_of r.cluster (texts_of r.state) op t) old ∙ (ap (λ s. table_of r.cluster (texts_of s) op (table_before cluster log op)) same ∙ ap (λ c. table_of c texts op (table_before cluster log op)) own) in
      record {
        rests = record {
          own = own;
          settled = h.rests.settled;
          root = λ above. record {
            settled = h.rests.settled;
            kept = subst (IsTable H) old h.rests.table;
            written = subst (λ c. IsWrittenOut H c texts op (table_before cluster log op)) own (subst (λ s. IsWrittenOut H r.cluster (texts_of s) op (table_before cluster log op)) same (subst (IsWrittenOut H r.cluster (texts_of r.state) op) old written));
            is = ap (λ t. block_name (root_of r.cluster (texts_of r.state) op t)) made
                ∙ (ap (λ s. block_name (root_of r.cluster (texts_of s) op (table_made cluster log op))) same ∙ ap (λ c. block_name (root_of c texts op (table_made cluster log op))) own);
            table = made_table cluster log op h.some due;
            every = due;
          };
          table = table_kept H r.cluster (texts_of r.state) op r.table fits h.rests.table written;
          waits = λ some. absurd (some none);
          saved = h.rests.saved;
        };
        state = h.state;
        table = λ n. made ∙ made_table cluster log op h.some due;
      }

  -- nothing is said or done
  still : (Q : Core → Lying → Type 0) (r q : Replica) (d : Lying) → q.index ≡ r.index → q.applied ≡ r.applied → Q (core q) d → Well H cluster log Q r d (record { replica = q; script = [] })
  unfolding Bears outputs lines after_all
  still Q r q d i a h = record { bears = tt; left = λ all. record { index = i; applied = a ∙ (let z : r.applied ≡ r.applied + 0 = omega arith in z); holds = h } }

  -- an effect that says nothing
  effect_at : (Q : Core → Lying → Type 0) (e : Replica → Effect) (r : Replica) (d : Lying) → outputs (e r ∷ []) ≡ [] → IsBorne H cluster log (e r) → (May H log r.applied d (e r) → Q (core r) (lying.after d (e r))) → WellAt H cluster log Q (does e) r d
  unfolding does Bears AllMay lines after_all
  effect_at Q e r d none borne k = record {
    bears = λ may. (borne, tt);
    left = λ all. record { index = refl; applied = rw none (let z : r.applied ≡ r.applied + 0 = omega arith in z); holds = k all.0 };
  }

  changed_at : (Q : Core → Lying → Type 0) (g : Replica → Replica) (r : Replica) (d : Lying) → (g r).index ≡ r.index → (g r).applied ≡ r.applied → Q (core (g r)) d → WellAt H cluster log Q (change g) r d
  unfolding change
  changed_at Q g r d i a p = still Q r (g r) d i a p

  checkpoint_place : (c : checkpoint.SavedCheckpoint) (r : Replica) → ((with_checkpoint c r).index ≡ r.index) × ((with_checkpoint c r).applied ≡ r.applied)
  unfolding with_checkpoint
  checkpoint_place c r = (refl, refl)

  checkpoint_at_well : (r : Replica) (d : Lying) → r.missing ≡ [] → is_checkpoint r.applied ≡ true → IsApplied (core r) → WellAt H cluster log S make_checkpoint r d
  unfolding make_checkpoint by reading outputs with_checkpoint change does after_all
  checkpoint_at_well r d none due h =
      let c : checkpoint.SavedCheckpoint = lying.save_state r.cluster (texts_of r.state) r.applied r.table in
      let Q : Core → Lying → Type 0 = λ k e. Begun H (checkpoints r) in
      then_at H cluster log Q S (does checkpoints) (change (with_checkpoint c) ⨾ save) r d (effect_at Q checkpoints r d refl (record { own = h.rests.own; settled = h.rests.settled; state = ap texts_of (h.state none); before = h.table none }) (λ may. may)) (λ begun.
      then_at H cluster log S S (change (with_checkpoint c)) save r (lying.after d (checkpoints r)) (changed_at S (with_checkpoint c) r (lying.after d (checkpoints r)) (checkpoint_place c r).0 (checkpoint_place c r).1 (checkpoint_stands r none due h begun)) (λ p. go_save.every (with_checkpoint c r) _ p))

  -- ---- an entry is applied

  next_settled : (m : ℕ) (e : Whole) → ((k : ℕ) → k < m → IsSettled log k) → slice_get log m ≡ Some e → IsWhole e → e.header.op ≡ m + 1 → (k : ℕ) → k < m + 1 → IsSettled log k
  next_settled m e h at whole number k l =
      elim (cases_lt k m) [
        | inl before ↦ h k before
        | inr last ↦ let same : m ≡ k = omega arith in subst (IsSettled log) same (record { entry = e; at = at; whole = whole; number = number })
      ]

  line_well : (e : Whole) (r : Replica) (d : Lying) (slot : ℕ) → r.missing ≡ [] → slot < 64 → lying.entry d slot ≡ Some e → Stands H cluster log (core r) → WellAt H cluster log A (lined_entry e) r d
  unfolding AllMay outputs lines
  line_well e r d slot none l reads h =
      let m = r.applied in
      let own : eqb r.index r.index ≡ true = eq-eqb r.index r.index refl in
      let rest : List Effect = map Say (applied_reply e r) in
      let more = all_lines H cluster log r.index (m + 1) rest (said_calm (applied_reply e r) (replies_other e r)) in
      record {
        bears = calm_bears H cluster log r.index m d (map Say (commit_line e r ++ applied_reply e r)) (tt, said_borne H cluster log (applied_reply e r) (replies_other e r));
        left = λ all.
            let x = all.0 slot l reads in
            let next : suc m ≡ m + 1 = omega arith in
            record {
              index = refl;
              applied = rw own (omega (arith, more));
              holds = record {
                rests = record { own = h.rests.own; settled = next_settled m e h.rests.settled x.0 x.1 x.2; root = h.rests.root; table = h.rests.table; waits = h.rests.waits; saved = h.rests.saved };
                state = λ z. ap (λ (s : State). (state.applied s e).state) (h.state none) ∙ (sym (state_next log m e x.0) ∙ ap (state_at log) next);
                table = λ z. h.table none ∙ ap (table_at cluster log) (let back : m ≡ m + 1 - 1 = omega arith in back);
                some = omega arith;
              };
            };
      }

  none_due : (r : Replica) (d : Lying) → is_checkpoint r.applied ≡ false → IsApplied (core r) → WellAt H cluster log S quiet r d
  unfolding quiet
  none_due r d t h = still S r r d refl refl (record { rests = h.rests; state = h.state; table = λ none. h.table none ∙ same_table cluster log r.applied h.some t })

  entry_well : (e : Whole) (r : Replica) (d : Lying) (slot : ℕ) → r.missing ≡ [] → slot < 64 → lying.entry d slot ≡ Some e → Stands H cluster log (core r) → WellAt H cluster log S (apply_entry e) r d
  unfolding apply_entry says change ◌⨾◌ after_all by
  entry_well e r d slot none l reads h =
      let w : Word Lying = by (λ r. when (is_checkpoint r.applied) make_checkpoint) in
      let d' : Lying = after_all lying d (map Say (commit_line e r ++ applied_reply e r)) in
      then_at H cluster log A S (lined_entry e) w r d (line_well e r d slot none l reads h) (λ p.
      let go : (b : Bool) → is_checkpoint (r.applied + 1) ≡ b → WellAt H cluster log S (cond b make_checkpoint quiet) (applied e r) d' = elim [
        | true ↦ λ t. checkpoint_at_well (applied e r) d' none t p
        | false ↦ λ t. none_due (applied e r) d' t p
      ] in
      go (is_checkpoint (r.applied + 1)) refl)

  -- ---- stored entries

  go_lost : (h : Header) → Keeps (change (lost h))
  unfolding with_part
  go_lost h = go_change (lost h) (λ r. refl)

  go_or_lost : (h : Header) (w : Whole → Word Lying) (o : Option Whole) → ((e : Whole) → Keeps (w e)) → Keeps (or_lost h w o)
  go_or_lost h w None k = go_lost h
  go_or_lost h w (Some e) k = k e

  go_part : (w : Whole → Word Lying) (p : Part) → ((e : Whole) → Keeps (w e)) → Keeps (with_entry w p)
  go_part w (Here h) k = go_reading (entry_of h) (or_lost h w) (λ o. go_or_lost h w o k)
  go_part w (Lost h) k = go_quiet
  go_part w (Wanted h) k = go_quiet
  go_part w Unknown k = go_quiet
  go_part w Nothing k = go_quiet

  pub go_entry : (op : ℕ) (w : Whole → Word Lying) → ((e : Whole) → Keeps (w e)) → Keeps (with_entry_at op w)
  unfolding with_entry_at
  go_entry op w k = go_by _ (λ r. go_part w (part_at r op) k)

  applies_read : (h : Header) (o : Option Whole) (r : Replica) (d : Lying) → r.missing ≡ [] → entry_of h lying d ≡ o → Stands H cluster log (core r) → WellAt H cluster log S (or_lost h apply_entry o) r d
  applies_read h None r d none is p = (go_lost h).every r d p
  applies_read h (Some e) r d none is p = entry_well e r d (h.op % 64) none (mod_below h.op 64 (omega arith)) (read_entry h (lying.entry d (h.op % 64)) e is) p

  applies_part : (x : Part) (r : Replica) (d : Lying) → r.missing ≡ [] → Stands H cluster log (core r) → WellAt H cluster log S (with_entry apply_entry x) r d
  unfolding reading
  applies_part (Here h) r d none p = applies_read h (entry_of h lying d) r d none refl p
  applies_part (Lost h) r d none p = go_quiet.every r d p
  applies_part (Wanted h) r d none p = go_quiet.every r d p
  applies_part Unknown r d none p = go_quiet.every r d p
  applies_part Nothing r d none p = go_quiet.every r d p

  go_next : Keeps apply_next
  unfolding apply_next with_entry_at by
  go_next = record {
    every = λ r d p.
        let go : (b : Bool) → (is_loaded r && nat_lt r.applied r.commit) ≡ b → WellAt H cluster log S (cond b (with_entry_at (r.applied + 1) apply_entry) quiet) r d = elim [
          | true ↦ λ t.
              let loaded = eqb-true (length r.missing) 0 (and_parts (is_loaded r) (nat_lt r.applied r.commit) t).0 in
              applies_part (part_at r (r.applied + 1)) r d (nil_from_length r.missing loaded) p
          | false ↦ λ t. go_quiet.every r d p
        ] in
        go (is_loaded r && nat_lt r.applied r.commit) refl;
  }

  pub go_apply : Keeps apply
  unfolding apply
  go_apply = go_by _ (λ r. walks_times H cluster log steady (r.commit - r.applied) apply_next go_next)

  -- ---- the other words

  pub go_write : (e : Whole) → Keeps (write e)
  unfolding write forgetting with_part
  go_write e = go_then _ _ (go_does _ (λ r. tt) (λ r. tt)) (go_change (stored e) (λ r. refl))

  pub go_accept : (e : Whole) → Keeps (accept e)
  unfolding accept
  go_accept e = go_by _ (λ r. go_when _ (write e) (go_write e))

  pub go_enter : (v : ℕ) → Keeps (enter v)
  unfolding enter entered
  go_enter v = go_if _ _ _ (go_change _ (λ r. refl)) (go_then _ _ (go_change (entered v) (λ r. refl)) (go_then _ _ go_save (go_all _ (λ r. tt))))

  pub go_advance : Keeps advance
  unfolding advance advanced
  go_advance = go_then _ _ (go_change advanced (λ r. refl)) go_apply

  pub go_learn : (commit : ℕ) → Keeps (learn commit)
  unfolding learn
  go_learn commit = go_then _ _ (go_change _ (λ r. refl)) go_apply

  pub go_take : (l : Log) → Keeps (take l)
  unfolding take taken forgetting
  go_take l = go_then _ _ (go_change (taken l) (λ r. refl)) go_save

  pub go_again : (op : ℕ) → Keeps (prepare_again op)
  unfolding prepare_again
  go_again op = go_entry op _ (λ e. go_all _ (λ r. tt))

  pub go_resend : (e : Whole) → Keeps (resend e)
  unfolding resend
  go_resend e = go_naming _ (λ hash. go_by _ (λ r. go_when _ _ (go_if _ _ _ (go_all _ (λ r. tt)) (go_says _ (λ r. (tt, tt))))))

  go_begin : (ss : List Statement) (l : Log) → Keeps (begin_view ss l)
  unfolding begin_view
  go_begin ss l = go_then _ _ (go_says _ (λ r. (tt, tt))) (go_then _ _ (go_take l) (go_then _ _ (go_all _ (λ r. tt)) (go_then _ _ (go_by _ (λ r. go_each prepare_again _ go_again)) (go_by _ (λ r. go_if _ _ _ go_advance go_apply)))))

  go_try_log : (ss : List Statement) (l : Log) → Keeps (try_log ss l)
  unfolding try_log
  go_try_log ss l = go_naming _ (λ hash. go_by _ (λ r. go_if _ _ _ (go_begin ss l) (go_says _ (λ r. (tt, tt)))))

  go_choice : (ss : List Statement) (x : Choice) → Keeps (obey_choice ss x)
  go_choice ss TooFew = go_quiet
  go_choice ss (WaitsAt op) = go_says _ (λ r. (tt, tt))
  go_choice ss (Ends hs) = go_by _ (λ r. go_try_log ss _)

  pub go_try : Keeps try
  unfolding try
  go_try = go_by _ (λ r. go_when _ _ (go_choice (stated r) (decided r)))

  pub go_speak : Keeps speak
  unfolding speak
  go_speak = go_by _ (λ r. go_when _ _ (go_if _ _ _ go_try (go_says _ (λ r. (tt, tt)))))

  go_peer : (message : Replica → Frame) → ((r : Replica) → IsPlain (message r)) → Keeps (ask_peer message)
  unfolding ask_peer
  go_peer message plain = go_then _ _ (go_says _ (λ r. (plain r, tt))) (go_change _ (λ r. refl))

  go_asks : (names : List Name) (absent : Option Header) (worn : List Name) → Keeps (ask_for names absent worn)
  go_asks (name ∷ names) absent worn = go_peer _ (λ r. tt)
  go_asks [] (Some h) worn = go_naming _ (λ hash. go_peer _ (λ r. tt))
  go_asks [] None (name ∷ names) = go_peer _ (λ r. tt)
  go_asks [] None [] = go_quiet

  go_ask : Keeps ask
  unfolding ask
  go_ask = go_by _ (λ r. go_when _ _ (go_asks r.missing _ r.worn))

  -- ---- a visit

  go_mend_header : (h : Header) (o : Option Header) → Keeps (mend_header h o)
  go_mend_header h None = go_does (λ r. Rewrite h) (λ r. tt) (λ r. tt)
  go_mend_header h (Some d) = go_when _ _ (go_does (λ r. Rewrite h) (λ r. tt) (λ r. tt))

  go_visit_slot : (op : ℕ) → Keeps (visit_slot op)
  unfolding visit_slot
  go_visit_slot op = go_entry op _ (λ e. go_reading _ (mend_header e.header) (λ o. go_mend_header e.header o))

  go_mend_saved : Keeps (does (λ r. Mend r.saved))
  go_mend_saved = walks_does H cluster log steady (λ r. Mend r.saved) (λ r. tt) (λ r d p. p.rests.saved)

  go_visit_read : (name : Name) (o : Option (List ℕ)) → Keeps (visit_read name o)
  go_visit_read name None = go_change (with_worn name) (λ r. refl)
  go_visit_read name (Some block) = go_quiet

  go_visit_block : (o : Option Name) → Keeps (visit_block o)
  unfolding visit_block
  go_visit_block None = go_quiet
  go_visit_block (Some name) = go_reading _ (visit_read name) (go_visit_read name)

  go_visit_place : (at : ℕ) → Keeps (visit_place at)
  unfolding visit_place
  go_visit_place at = go_by _ (λ r. go_if _ _ _ (go_visit_slot _) (go_if _ _ _ go_mend_saved (go_visit_block _)))

  go_visit : Keeps visit
  unfolding visit
  go_visit = go_by _ (λ r. go_when _ _ (go_then _ _ (go_visit_place _) (go_change _ (λ r. refl))))

  pub go_looks : Keeps (visit ⨾ ask)
  go_looks = go_then visit ask go_visit go_ask

  -- ---- the log is given with the checkpoint

  pub offers_at : (to : ℕ) (r : Replica) (d : Lying) → 0 < r.checkpoint → Stands H cluster log (core r) → WellAt H cluster log S (says (λ r. send_to to (sync_view r) r)) r d
  unfolding says outputs lines after_all
  offers_at to r d some h = record {
    bears = calm_bears H cluster log r.index r.applied d (map Say (send_to to (sync_view r) r)) (record { some = some; root = h.rests.root some }, tt);
    left = λ all. record { index = refl; applied = (let z : r.applied ≡ r.applied + 0 = omega arith in z); holds = h };
  }

  -- ---- a block that went bad is put

  pub mends_at : (block : List ℕ) (o : Option Name) (r : Replica) (d : Lying) → Stands H cluster log (core r) → WellAt H cluster log S (mend_found block o) r d
  unfolding outputs
  mends_at block None r d h = go_quiet.every r d h
  mends_at block (Some name) r d h =
      then_at H cluster log S S (does (λ r. PutBlock name block)) (change (not_worn name)) r d (effect_at S (λ r. PutBlock name block) r d refl tt (λ may. h)) (λ p. (go_change (not_worn name) (λ r. refl)).every _ _ p)

  -- ---- a load

  -- a checkpoint is loaded, where there is one
  pub load_at : (r : Replica) (d : Lying) → r.applied ≡ r.checkpoint → (r.checkpoint ≡ 0 → Stands H cluster log (core r)) → Rests H cluster log (core r) → ReadsHashed H d.face → WellAt H cluster log S load r d
  unfolding load by reading change quiet
  load_at r d same first h reads =
      elim (cases_lt 0 r.checkpoint) [
        | inl above ↦
            let place = loads_place r.root (lying.loaded d r.root) r in
            let w : Well H cluster log S r d (record { replica = loads r.root (lying.loaded d r.root) r; script = [] }) = still S r (loads r.root (lying.loaded d r.root) r) d place.0 place.1 (loads_stand H never cluster log r d above same h reads) in
            subst (λ b. Well H cluster log S r d ((when b (reading (checkpoint_at r.root) (λ l. change (loads r.root l)))) lying r d)) (sym (lt-ltb 0 r.checkpoint above)) w
        | inr none ↦
            let w : Well H cluster log S r d (record { replica = r; script = [] }) = still S r r d refl refl (first (omega arith)) in
            subst (λ b. Well H cluster log S r d ((when b (reading (checkpoint_at r.root) (λ l. change (loads r.root l)))) lying r d)) (sym (le-ltb 0 r.checkpoint none)) w
      ]

  -- a missing block is put; where none is missing then, the checkpoint is loaded
  loads_if : (b : Bool) (r : Replica) (d : Lying) → is_loaded r ≡ b → 0 < r.checkpoint → r.applied ≡ r.checkpoint → Rests H cluster log (core r) → ReadsHashed H d.face → WellAt H cluster log S (when b load) r d
  unfolding quiet
  loads_if true r d is above same h reads = load_at r d same (λ z. absurd (omega (arith, z, above))) h reads
  loads_if false r d is above same h reads = still S r r d refl refl (record { rests = h; state = λ none. absurd (true≢false (sym (loaded_of r none) ∙ is)); table = λ none. absurd (true≢false (sym (loaded_of r none) ∙ is)) })

  pub put_at : (name : Name) (block : List ℕ) (r : Replica) (d : Lying) → is_some (named name block) ≡ true → r.missing ≢ [] → r.applied ≡ r.checkpoint → ReadsHashed H d.face → Stands H cluster log (core r) → WellAt H cluster log S (put_block name block) r d
  unfolding put_block by outputs does change after_all
  put_at name block r d whole some same reads h =
      let above = h.rests.waits some in
      let Q : Core → Lying → Type 0 = λ k e. ReadsHashed H e.face in
      let q : Replica = without name r in
      let rests : Rests H cluster log (core q) = record { own = h.rests.own; settled = h.rests.settled; root = h.rests.root; table = h.rests.table; waits = λ n. above; saved = h.rests.saved } in
      let d' : Lying = lying.after d (PutBlock name block) in
      then_at H cluster log Q S (does (λ r. PutBlock name block)) (change (without name) ⨾ by (λ r. when (is_loaded r) load)) r d (effect_at Q (λ r. PutBlock name block) r d refl tt (λ begun. put_hashed H d name block whole begun reads)) (λ later.
      let R : Core → Lying → Type 0 = λ k e. ReadsHashed H e.face in
      then_at H cluster log R S (change (without name)) (by (λ r. when (is_loaded r) load)) r d' (changed_at R (without name) r d' refl refl later) (λ again. loads_if (is_loaded q) q d' refl above same rests again))

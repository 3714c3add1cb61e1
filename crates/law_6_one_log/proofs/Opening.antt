-- An opening keeps a value's checkpoint the log's, and loads it.
use Rattle.std.proofs.Common.{ℕ, ◌+◌, ◌≡◌, ◌≢◌, ◌∙◌, arith, refl, sym, ap, subst, Bool, true, false, cond, List, [], ◌∷◌, ◌++◌, Option, Some, None}
use Rattle.std.specs.Prelude.{is_some, nat_lt}
use Rattle.vr_header.specs.declared.header.Header.{Header}
use Rattle.vr_header.specs.Made.{Whole}
use Rattle.vr_header.specs.NoCollision.{NoCollision}
use Rattle.vr_state.specs.Folds.{empty}
use Rattle.vr_msg.specs.declared.output.Output.{Output}
use Rattle.vr_msg.specs.declared.output.Output.TheVariants as output
use Rattle.vr_super.specs.Copies.{SuperValue}
use Rattle.vr_ckpt.specs.Blocks.{named}
use Rattle.vr_ckpt.specs.Places as places
use Rattle.vr_ckpt.specs.declared.name.Name.{Name}
use Rattle.vr_recover.specs.declared.readings.Verdict.{Verdict}
use Rattle.vr_recover.specs.declared.readings.Verdict.TheVariants as verdict
use Rattle.vr_world.specs.Group.{mended}
use Rattle.vr_world.specs.Checkpoints.{state_at, table_at}
use Rattle.vr_world.specs.Lying.{Lying, lying}
use Rattle.vr_rules.specs.Opening.{Slot, announce, blank, clouded, entry_header, going_on, heard_itself, in_next_view, leave_view, mend_slot, mending, old_headers, old_part, part_by, recover_old, recover_op, recover_parts, resuming, rewrite, slot_at, slot_verdict}
use Rattle.vr_rules.specs.Outputs.{start_line, start_view_change}
use Rattle.vr_rules.specs.Replica.{Replica, forgetting, is_spent, leads, with_part}
use Rattle.vr_rules.specs.Steps.{Effect, Write, Rewrite, Save, Mend, Checkpoint, PutBlock, Say, Setting, Word, ◌⨾◌, quiet, change, does, says, by, reading, when, each, after_all, output_of}
use Rattle.vr_rules.specs.Rules.{put_block, without}
use Rattle.vr_rules.specs.Words.{apply, checkpoint_at, entry_of, is_loaded, load, loads, save}
use Rattle.law_2_chains.specs.Chains.{Every}
use Rattle.law_3_outputs.specs.Answering.{lines}
use Rattle.law_6_one_log.specs.Hashed.{ReadsHashed}
use Rattle.law_6_one_log.proofs.Disks.{Begun, IsBeside, beside_hashed}
use Rattle.law_6_one_log.proofs.Values.{Core, IsRooted, Rests, Stands, core, first_table}
use Rattle.law_6_one_log.proofs.Walk.{AllMay, IsCalm, IsOther, May, MaySay, Steady, Walks, WellAt, then_at, walks_by, walks_change, walks_does, walks_each, walks_quiet, walks_reading, walks_save, walks_says, walks_then, walks_when}
use Rattle.law_6_one_log.proofs.Words.{Keeps, S, go_all, go_apply, go_by, go_change, go_then, go_when, load_at, put_at, resting_saved}

-- before its checkpoint is loaded
pub record Waits (H : List ℕ → Type 0) (cluster : ℕ) (log : List Whole) (k : Core) (d : Lying) : Type 0 where
  pub rests : Rests H cluster log k
  pub same : k.applied ≡ k.checkpoint
  pub blank : k.state ≡ empty
  pub none : k.table ≡ places.empty
  pub reads : ReadsHashed H d.face

calm_beside : (e : Effect) → IsCalm e → IsBeside e
calm_beside (Write again e) c = tt
calm_beside (Rewrite h) c = tt
calm_beside (Save old new) c = tt
calm_beside (Mend v) c = tt
calm_beside (Checkpoint cluster texts op old) c = absurd c
calm_beside (PutBlock name block) c = absurd c
calm_beside (Say o) c = tt

-- a replica of a value that knows nothing yet
pub blank_waits : (H : List ℕ → Type 0) (cluster : ℕ) (log : List Whole) (v : SuperValue) (d : Lying) → v.fields.cluster ≡ cluster → IsRooted H cluster log v → ReadsHashed H d.face → Waits H cluster log (core (blank v)) d
unfolding blank
blank_waits H cluster log v d own rooted reads = record {
  rests = record {
    own = own;
    settled = λ k l. (rooted (omega (arith, l))).settled k l;
    root = rooted;
    table = record { sessions = tt; keys = tt };
    waits = λ some. absurd (some refl);
    saved = rooted;
  };
  same = refl;
  blank = refl;
  none = refl;
  reads = reads;
}

-- ---- what is mended writes no block, and says nothing

calm_both : (xs ys : List Effect) → Every IsCalm xs → Every IsCalm ys → Every IsCalm (xs ++ ys)
calm_both [] ys a b = b
calm_both (x ∷ xs) ys a b = (a.0, calm_both xs ys a.1 b)

record Calmly (w : Word Lying) : Type 0 where
  every : (r : Replica) (d : Lying) → Every IsCalm (w lying r d).script

c_then : (v w : Word Lying) → Calmly v → Calmly w → Calmly (v ⨾ w)
unfolding ◌⨾◌
c_then v w h k = record { every = λ r d. calm_both (v lying r d).script _ (h.every r d) (k.every (v lying r d).replica (after_all lying d (v lying r d).script)) }

c_quiet : Calmly quiet
unfolding quiet
c_quiet = record { every = λ r d. tt }

c_change : (g : Replica → Replica) → Calmly (change g)
unfolding change
c_change g = record { every = λ r d. tt }

c_does : (e : Replica → Effect) → ((r : Replica) → IsCalm (e r)) → Calmly (does e)
unfolding does
c_does e h = record { every = λ r d. (h r, tt) }

c_reading : {X : Type 0} (g : Setting Lying → Lying → X) (w : X → Word Lying) → ((x : X) → Calmly (w x)) → Calmly (reading g w)
unfolding reading
c_reading g w h = record { every = λ r d. (h (g lying d)).every r d }

c_each : {X : Type 0} (w : X → Word Lying) (xs : List X) → ((x : X) → Calmly (w x)) → Calmly (each w xs)
unfolding each
c_each w [] h = c_quiet
c_each w (x ∷ xs) h = c_then (w x) (each w xs) (h x) (c_each w xs h)

c_rewrite : (o : Option Header) → Calmly (rewrite o)
c_rewrite None = c_quiet
c_rewrite (Some h) = c_does (λ r. Rewrite h) (λ r. tt)

c_mend : (x : Slot) (t : Verdict) → Calmly (mend_slot x t)
c_mend x verdict.Rewrite = c_rewrite (entry_header x)
c_mend x _ = c_quiet

c_old : (h : Header) → Calmly (recover_old h)
unfolding recover_old
c_old h = c_reading (entry_of h) _ (λ e. c_change (with_part h.op (old_part h e)))

c_op : (v : SuperValue) (k : ℕ) → Calmly (recover_op v k)
unfolding recover_op
c_op v k = c_reading (slot_at k) _ (λ x. c_then (mend_slot x (slot_verdict v k x)) _ (c_mend x (slot_verdict v k x)) (c_change (with_part k (part_by v k x (slot_verdict v k x)))))

mends_calmly : (v : SuperValue) → Calmly (mending v)
unfolding recover_parts
mends_calmly v =
    c_then (does (λ r. Mend v)) _ (c_does (λ r. Mend v) (λ r. tt))
    (c_then (each recover_old (old_headers v)) _ (c_each recover_old (old_headers v) c_old)
    (c_then (each (recover_op v) _) _ (c_each (recover_op v) _ (c_op v)) (c_then (change (clouded v)) (change forgetting) (c_change (clouded v)) (c_change forgetting))))

pub mending_calm : (v : SuperValue) (d : Lying) → Every IsCalm (mended v d).script
mending_calm v d = (mends_calmly v).every (blank v) d

module _ (H : List ℕ → Type 0) (never : NoCollision H) (cluster : ℕ) (log : List Whole) where
  abbrev pub L : Core → Lying → Type 0
  L k d = Waits H cluster log k d

  waiting : Steady H cluster log L
  waiting = record {
    rooted = λ k d p. p.rests.root;
    calm = λ k d e c p. record { rests = p.rests; same = p.same; blank = p.blank; none = p.none; reads = beside_hashed H d e (calm_beside e c) p.reads };
    saved = λ k d v rooted p. record { rests = resting_saved H cluster log k v rooted p.rests; same = p.same; blank = p.blank; none = p.none; reads = p.reads };
  }

  -- ---- what is found

  l_then : (v w : Word Lying) → Walks H cluster log L v → Walks H cluster log L w → Walks H cluster log L (v ⨾ w)
  l_then v w h k = walks_then H cluster log v w h k

  l_change : (g : Replica → Replica) → ((r : Replica) → core (g r) ≡ core r) → Walks H cluster log L (change g)
  l_change g h = walks_change H cluster log waiting g h

  l_rewrite : (o : Option Header) → Walks H cluster log L (rewrite o)
  l_rewrite None = walks_quiet H cluster log waiting
  l_rewrite (Some h) = walks_does H cluster log waiting (λ r. Rewrite h) (λ r. tt) (λ r d p. tt)

  l_mend : (x : Slot) (t : Verdict) → Walks H cluster log L (mend_slot x t)
  l_mend x verdict.Rewrite = l_rewrite (entry_header x)
  l_mend x _ = walks_quiet H cluster log waiting

  l_old : (h : Header) → Walks H cluster log L (recover_old h)
  unfolding recover_old with_part
  l_old h = walks_reading H cluster log (entry_of h) _ (λ e. l_change (with_part h.op (old_part h e)) (λ r. refl))

  l_op : (v : SuperValue) (k : ℕ) → Walks H cluster log L (recover_op v k)
  unfolding recover_op with_part
  l_op v k = walks_reading H cluster log (slot_at k) _ (λ x. l_then (mend_slot x (slot_verdict v k x)) _ (l_mend x (slot_verdict v k x)) (l_change (with_part k (part_by v k x (slot_verdict v k x))) (λ r. refl)))

  -- the value is mended, and the Parts are recovered
  mending_walks : (v : SuperValue) → IsRooted H cluster log v → Walks H cluster log L (mending v)
  unfolding recover_parts clouded forgetting
  mending_walks v rooted =
      l_then (does (λ r. Mend v)) _ (walks_does H cluster log waiting (λ r. Mend v) (λ r. tt) (λ r d p. rooted))
      (l_then (each recover_old (old_headers v)) _ (walks_each H cluster log waiting recover_old (old_headers v) l_old)
      (l_then (each (recover_op v) _) _ (walks_each H cluster log waiting (recover_op v) _ (l_op v)) (l_then (change (clouded v)) (change forgetting) (l_change (clouded v) (λ r. refl)) (l_change forgetting (λ r. refl)))))

  -- ---- what comes of it

  leave_walks : Walks H cluster log L leave_view
  leave_walks = walks_by H cluster log _ (λ r. walks_when H cluster log waiting (leads r) _ (l_then (change in_next_view) save (l_change in_next_view (λ r. refl)) (walks_save H cluster log waiting)))

  start_walks : Walks H cluster log L (says start_line)
  start_walks = walks_says H cluster log waiting start_line (λ r. (tt, tt))

  waits_load : (r : Replica) (d : Lying) → L (core r) d → WellAt H cluster log (S H never cluster log) load r d
  waits_load r d p =
      load_at H never cluster log r d p.same (λ zero. record { rests = p.rests; state = λ none. p.blank ∙ ap (state_at log) (sym (p.same ∙ zero)); table = λ none. p.none ∙ (sym (first_table cluster log) ∙ ap (table_at cluster log) (sym (p.same ∙ zero))) }) p.rests p.reads

  -- the view is left, the start told, and the checkpoint loaded
  pub loaded_at : (r : Replica) (d : Lying) → L (core r) d → WellAt H cluster log (S H never cluster log) (leave_view ⨾ says start_line ⨾ load) r d
  loaded_at r d p =
      then_at H cluster log L (S H never cluster log) leave_view (says start_line ⨾ load) r d (leave_walks.every r d p) (λ q.
      then_at H cluster log L (S H never cluster log) (says start_line) load _ _ (start_walks.every _ _ q) (λ q. waits_load _ _ q))

  announce_walks : Keeps H never cluster log announce
  announce_walks = go_by H never cluster log _ (λ r. go_when H never cluster log _ _ (go_then H never cluster log (change heard_itself) _ (go_change H never cluster log heard_itself (λ r. refl)) (go_by H never cluster log _ (λ r. go_when H never cluster log _ _ (go_all H never cluster log start_view_change (λ r. tt))))))

  going_at : (r : Replica) (d : Lying) → L (core r) d → WellAt H cluster log (S H never cluster log) going_on r d
  going_at r d p =
      then_at H cluster log L (S H never cluster log) leave_view (says start_line ⨾ load ⨾ apply ⨾ announce) r d (leave_walks.every r d p) (λ q.
      then_at H cluster log L (S H never cluster log) (says start_line) (load ⨾ apply ⨾ announce) _ _ (start_walks.every _ _ q) (λ q.
      then_at H cluster log (S H never cluster log) (S H never cluster log) load (apply ⨾ announce) _ _ (waits_load _ _ q) (λ s.
      (go_then H never cluster log apply announce (go_apply H never cluster log) announce_walks).every _ _ s)))

  -- where sequence numbers are at their end nothing is loaded
  pub live_at : (r : Replica) (d : Lying) → is_spent r ≡ false → L (core r) d → WellAt H cluster log (S H never cluster log) resuming r d
  unfolding by
  live_at r d z p = subst (λ b. WellAt H cluster log (S H never cluster log) (cond b (says start_line) going_on) r d) (sym z) (going_at r d p)

  pub spent_at : (r : Replica) (d : Lying) → is_spent r ≡ true → L (core r) d → WellAt H cluster log L resuming r d
  unfolding by
  spent_at r d z p = subst (λ b. WellAt H cluster log L (cond b (says start_line) going_on) r d) (sym z) (start_walks.every r d p)

  pub mending_at : (v : SuperValue) (d : Lying) → v.fields.cluster ≡ cluster → IsRooted H cluster log v → ReadsHashed H d.face → WellAt H cluster log L (mending v) (blank v) d
  mending_at v d own rooted reads = (mending_walks v rooted).every (blank v) d (blank_waits H cluster log v d own rooted reads)

  -- ---- effects that nothing is asked of

  calm_said : (m : ℕ) (d : Lying) (o : Output) → IsOther o → MaySay log m d o
  calm_said m d (output.Send s) h = tt
  calm_said m d (output.Commit c) h = absurd h
  calm_said m d (output.Reply a) h = tt
  calm_said m d (output.Choose c) h = tt
  calm_said m d (output.Wait w) h = tt
  calm_said m d (output.Start s) h = tt
  calm_said m d (output.Halted r) h = tt
  calm_said m d (output.Migrated r) h = tt
  calm_said m d output.Done h = tt
  calm_said m d output.KeptOut h = tt

  calm_may : (m : ℕ) (d : Lying) (e : Effect) → IsCalm e → May H log m d e
  calm_may m d (Write again e) c = tt
  calm_may m d (Rewrite h) c = tt
  calm_may m d (Save old new) c = tt
  calm_may m d (Mend v) c = tt
  calm_may m d (Checkpoint cluster texts op old) c = absurd c
  calm_may m d (PutBlock name block) c = absurd c
  calm_may m d (Say o) c = calm_said m d o c

  pub all_calm : (i m : ℕ) (d : Lying) (es : List Effect) → Every IsCalm es → AllMay H cluster log i m d es
  unfolding AllMay
  all_calm i m d [] c = tt
  all_calm i m d (e ∷ es) c = (calm_may m d e c.0, all_calm i (m + lines i (output_of e)) (lying.after d e) es c.1)

  leave_calm : (r : Replica) (d : Lying) → Every IsCalm (leave_view lying r d).script
  unfolding by quiet change save does ◌⨾◌
  leave_calm r d = elim (leads r) as (λ b. Every IsCalm ((when b (change in_next_view ⨾ save)) lying r d).script) [ true ↦ (tt, tt) | false ↦ tt ]

  pub load_calm : (r : Replica) (d : Lying) → Every IsCalm (load lying r d).script
  unfolding load by reading change quiet
  load_calm r d = elim (nat_lt 0 r.checkpoint) as (λ b. Every IsCalm ((when b (reading (checkpoint_at r.root) (λ l. change (loads r.root l)))) lying r d).script) [ true ↦ tt | false ↦ tt ]

  loads_calmly : (r : Replica) (d : Lying) → Every IsCalm ((leave_view ⨾ says start_line ⨾ load) lying r d).script
  unfolding ◌⨾◌ says
  loads_calmly r d = calm_both (leave_view lying r d).script _ (leave_calm r d) (tt, load_calm _ _)

  -- the checkpoint of a value that is opened, once it is loaded
  pub loads_value : (r : Replica) (d : Lying) → L (core r) d → Stands H cluster log (core ((leave_view ⨾ says start_line ⨾ load) lying r d).replica)
  loads_value r d p = ((loaded_at r d p).left (all_calm r.index r.applied d _ (loads_calmly r d))).holds

  when_calm : (b : Bool) (r : Replica) (d : Lying) → Every IsCalm (when b load lying r d).script
  unfolding quiet
  when_calm true r d = load_calm r d
  when_calm false r d = tt

  puts_may : (name : Name) (block : List ℕ) (r : Replica) (d : Lying) → Begun H (PutBlock name block) → AllMay H cluster log r.index r.applied d (put_block name block lying r d).script
  unfolding put_block does change by ◌⨾◌ after_all AllMay
  puts_may name block r d begun =
      let e : Lying = lying.after d (PutBlock name block) in
      (begun, all_calm r.index _ e (when (is_loaded (without name r)) load lying (without name r) e).script (when_calm (is_loaded (without name r)) (without name r) e))

  -- a missing block is put, and a checkpoint is loaded where it was the last one
  pub puts_state : (name : Name) (block : List ℕ) (r : Replica) (d : Lying) → is_some (named name block) ≡ true → r.missing ≢ [] → r.applied ≡ r.checkpoint → ReadsHashed H d.face → Stands H cluster log (core r) → Begun H (PutBlock name block)
      → Stands H cluster log (core (put_block name block lying r d).replica)
  puts_state name block r d whole some same reads h begun = ((put_at H never cluster log name block r d whole some same reads h).left (puts_may name block r d begun)).holds

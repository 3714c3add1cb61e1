-- What writes of blocks words make, and what a replica keeps of which its checkpoints are written.
use Rattle.std.proofs.Common.{◌≡◌, refl, sym, ◌∙◌, subst, ℕ, zero, suc, Bool, true, false, cond, List, [], ◌∷◌, ◌++◌, map, Option, Some, None, Ok, arith}
use Rattle.std.specs.Prelude.{◌%◌}
use Rattle.std.specs.Option.{option_and_then}
use Rattle.vr_state.specs.Kv.{IsKv}
use Rattle.vr_state.specs.Sessions.{IsSessions}
use Rattle.std.specs.List.{AllByRecursion}
use Rattle.vr_disk.specs.DiskState.{IsFace}
use Rattle.vr_disk.proofs.Faces.{face_after_all}
use Rattle.vr_header.specs.declared.header.Header.{Header}
use Rattle.vr_header.specs.declared.part.Part.{Part}
use Rattle.vr_header.specs.declared.part.Part.TheVariants.{Here}
use Rattle.vr_header.specs.Made.{Whole}
use Rattle.vr_header.specs.Same.{same_header}
use Rattle.vr_rings.specs.Slots.{IsWhole, whole_in}
use Rattle.vr_super.specs.Copies.{IsGood, SuperValue}
use Rattle.vr_ckpt.specs.declared.name.Name.{Name}
use Rattle.vr_ckpt.specs.declared.found.Load.{Load}
use Rattle.vr_ckpt.specs.declared.found.Load.TheVariants.{Loaded, Missing}
use Rattle.vr_ckpt.specs.Loads.{loaded}
use Rattle.vr_ckpt.specs.declared.table.PayloadTable.{PayloadTable}
use Rattle.vr_state.specs.declared.texts.Texts.{Texts}
use Rattle.vr_state.specs.declared.state.State.{State}
use Rattle.vr_state.specs.Folds as applying
use Rattle.vr_state.specs.StateTexts.{state_decoded, texts_of}
use Rattle.vr_msg.specs.declared.choice.Choice.{Choice}
use Rattle.vr_msg.specs.declared.choice.Choice.TheVariants.{Ends, WaitsAt, TooFew}
use Rattle.vr_msg.specs.declared.frame.Frame.{Frame}
use Rattle.vr_msg.specs.declared.frame.SyncView.{SyncView}
use Rattle.vr_msg.specs.declared.output.Output.{Output}
use Rattle.vr_msg.specs.declared.statement.Statement.{Statement}
use Rattle.vr_rules.specs.Replica.{Replica, version, leads, part_at, forgetting, with_part}
use Rattle.vr_rules.specs.Outputs.{applied_reply, asker_of, kind_of, others, prepare, replies, send, send_to_all, start_view, start_view_change}
use Rattle.vr_rules.specs.Steps.{Effect, Write, Rewrite, Save, Mend, Checkpoint, PutBlock, Say, Setting, Word, ◌⨾◌, quiet, change, does, says, by, naming, reading, when, times, each, after_all}
use Rattle.vr_rules.specs.Words.{Log, save, enter, entered, write, stored, accept, entry_of, lost, or_lost, with_entry, with_entry_at, with_checkpoint, make_checkpoint, checkpoints, checkpoint_at, checkpoint_of, apply_entry, apply_next, apply, applied, advanced, advance, learn, taken, take, prepare_again, begin_view, try_log, stated, decided, obey_choice, try, speak, resend, ask_peer, ask_for, ask, with_state, loaded_state, loads, load, jump, jumped, usable}
use Rattle.vr_world.specs.Lying.{Lying, lying}
use Rattle.vr_rules.proofs.Wording.{usable_is}
use Rattle.vr_world.proofs.FitLies.{same_version}
use Rattle.vr_world.proofs.FitGroups.{Known, known_first, known_left, known_rest, known_right}
use Rattle.law_4_disks.specs.Chains.{Chain, GoesWell, Rewrites}
use Rattle.law_4_disks.specs.Stocks.{IsGiven, IsGivenOutput, IsNamed, IsStocked, WritesBlocks}
use Rattle.law_4_disks.proofs.Blocks.{Texted, save_state_are, table_named}
use Rattle.law_4_disks.proofs.States.{state_kept, state_read, text_of_state}
use Rattle.law_4_disks.proofs.Loading.{LoadsWell, loads_well}
use Rattle.law_4_disks.proofs.Found.{read_whole}
use Rattle.law_4_disks.proofs.Chaining.{Chained, c_apply_entry, c_by, c_change, c_checkpoint, c_naming, c_or_lost, c_quiet, c_reading, c_save, c_says, c_then, c_write, loads_saved, with_checkpoint_saved}
use Rattle.law_4_disks.proofs.Going.{known_goes}

-- a running replica on its disk, whose file is of this version
pub record At (ed : ℕ) (r : Replica) (d : Lying) : Type 0 where
  pub face : IsFace d.face
  pub file : d.version ≡ ed
  pub good : IsGood r.saved
  pub stock : IsStocked r

pub record Leaves (P Q : List ℕ → Type 0) (home : ℕ) (w : Word Lying) (r : Replica) (d : Lying) : Type 0 where
  pub blocks : AllByRecursion (WritesBlocks P Q) (w lying r d).script
  pub rewrites : Rewrites home (w lying r d).script d
  pub stock : IsStocked (w lying r d).replica

pub record Stocking (P Q : List ℕ → Type 0) (home : ℕ) (w : Word Lying) : Type 0 where
  pub chained : Chained w
  pub each : (n i ed : ℕ) (r : Replica) (d : Lying) → At ed r d → Known home n i ed (w lying r d).script → Leaves P Q home w r d

-- what a change leaves of it
pub record Kept (q r : Replica) : Type 0 where
  pub saved : q.saved ≡ r.saved
  pub state : q.state ≡ r.state
  pub table : q.table ≡ r.table

pub moved : (q r : Replica) → Kept q r → IsStocked r → IsStocked q
moved q r k s = record {
  sessions = subst (λ (x : State). IsSessions x.sessions) (sym k.state) s.sessions;
  machine = subst (λ (x : State). IsKv x.machine) (sym k.state) s.machine;
  old_sessions = subst (λ (t : PayloadTable). AllByRecursion IsNamed t.sessions) (sym k.table) s.old_sessions;
  old_keys = subst (λ (t : PayloadTable). AllByRecursion IsNamed t.keys) (sym k.table) s.old_keys;
}

texted : (r : Replica) → IsStocked r → Texted (texts_of r.state) r.table
texted r s =
    let t = text_of_state r.state (record { sessions = s.sessions; machine = s.machine }) in
    record { sessions = t.sessions; keys = t.keys; few_sessions = t.few_sessions; few_keys = t.few_keys; old_sessions = s.old_sessions; old_keys = s.old_keys }

-- ---- scripts

goes_face : (home : ℕ) (es : List Effect) (d : Lying) → GoesWell home es d → IsFace d.face → IsFace (after_all lying d es).face
unfolding after_all
goes_face home [] d g f = f
goes_face home (e ∷ es) d g f = goes_face home es (lying.after d e) g.2 (face_after_all _ d.face f g.1)

chain_good : {home : ℕ} (n i ed : ℕ) (es : List Effect) (v u : SuperValue) → IsGood v → Chain v es u → Known home n i ed es → IsGood u
chain_good {home} n i ed [] v u g c k = subst IsGood c g
chain_good {home} n i ed (Write again e ∷ es) v u g c k = chain_good {home = home} n i ed es v u g c (known_rest home n i ed (Write again e) es k)
chain_good {home} n i ed (Rewrite h ∷ es) v u g c k = chain_good {home = home} n i ed es v u g c (known_rest home n i ed (Rewrite h) es k)
chain_good {home} n i ed (Save old new ∷ es) v u g c k = chain_good {home = home} n i ed es new u (known_first home n i ed (Save old new) es k).1 c.2 (known_rest home n i ed (Save old new) es k)
chain_good {home} n i ed (Mend x ∷ es) v u g c k = chain_good {home = home} n i ed es v u g c.1 (known_rest home n i ed (Mend x) es k)
chain_good {home} n i ed (Checkpoint t x o p ∷ es) v u g c k = chain_good {home = home} n i ed es v u g c (known_rest home n i ed (Checkpoint t x o p) es k)
chain_good {home} n i ed (PutBlock m x ∷ es) v u g c k = chain_good {home = home} n i ed es v u g c (known_rest home n i ed (PutBlock m x) es k)
chain_good {home} n i ed (Say o ∷ es) v u g c k = chain_good {home = home} n i ed es v u g c (known_rest home n i ed (Say o) es k)

blocks_both : (P Q : List ℕ → Type 0) (xs ys : List Effect) → AllByRecursion (WritesBlocks P Q) xs → AllByRecursion (WritesBlocks P Q) ys → AllByRecursion (WritesBlocks P Q) (xs ++ ys)
blocks_both P Q [] ys a b = b
blocks_both P Q (x ∷ xs) ys a b = (a.0, blocks_both P Q xs ys a.1 b)

rewrites_both : (home : ℕ) (xs ys : List Effect) (d : Lying) → Rewrites home xs d → Rewrites home ys (after_all lying d xs) → Rewrites home (xs ++ ys) d
unfolding after_all
rewrites_both home [] ys d a b = b
rewrites_both home (x ∷ xs) ys d a b = (a.0, rewrites_both home xs ys (lying.after d x) a.1 b)

said_rewrites : (home : ℕ) (os : List Output) (d : Lying) → Rewrites home (map Say os) d
said_rewrites home [] d = tt
said_rewrites home (o ∷ os) d = (tt, said_rewrites home os (lying.after d (Say o)))

said_blocks : (P Q : List ℕ → Type 0) (os : List Output) → AllByRecursion (IsGivenOutput P) os → AllByRecursion (WritesBlocks P Q) (map Say os)
said_blocks P Q [] a = tt
said_blocks P Q (o ∷ os) a = (a.0, said_blocks P Q os a.1)

sends_given : (P : List ℕ → Type 0) (m : Frame) (r : Replica) (ns : List ℕ) → IsGiven P m → AllByRecursion (IsGivenOutput P) (map (λ to. send to m r) ns)
sends_given P m r [] g = tt
sends_given P m r (x ∷ xs) g = (g, sends_given P m r xs g)

pub all_given : (P : List ℕ → Type 0) (m : Replica → Frame) (r : Replica) → IsGiven P (m r) → AllByRecursion (IsGivenOutput P) (send_to_all m r)
unfolding send_to_all
all_given P m r g = sends_given P (m r) r (others r.index r.n) g

-- ---- readings

some_entry : (h : Header) (o : Option Whole) (e : Whole) → option_and_then (λ e. cond (same_header e.header h) (Some e) None) o ≡ Some e → o ≡ Some e
some_entry h None e q = absurd cc
some_entry h (Some x) e q =
    elim (same_header x.header h) as (λ t. cond t (Some x) None ≡ Some e → Some x ≡ Some e) [ true ↦ λ q. q | false ↦ λ q. absurd cc ] q

entry_whole : (h : Header) (d : Lying) (e : Whole) → IsFace d.face → entry_of h lying d ≡ Some e → IsWhole e
entry_whole h d e f q = (read_whole d.version d.face (h.op % 64) e f (omega arith) (some_entry h (whole_in d.version d.face (h.op % 64)) e q)).whole

state_stocked : (root : Name) (table : PayloadTable) (texts : Texts) (o : Option State) (q : Replica) → LoadsWell texts table → ((s : State) → o ≡ Some s → state_decoded texts ≡ Ok s) → IsStocked q → IsStocked (loaded_state root table o q)
unfolding with_state
state_stocked root table texts (Some s) q w e k = let x = state_read texts s w.sessions w.keys (e s refl) in record { sessions = x.sessions; machine = x.machine; old_sessions = w.table.sessions; old_keys = w.table.keys }
state_stocked root table texts None q w e k = record { sessions = k.sessions; machine = k.machine; old_sessions = k.old_sessions; old_keys = k.old_keys }

loads_stocked : (root : Name) (d : Lying) → IsFace d.face → (l : Load) → loaded d.face root ≡ l → (q : Replica) → IsStocked q → IsStocked (loads root l q)
loads_stocked root d f (Loaded texts table) e q k = state_stocked root table texts (usable (version q) (state_decoded texts)) q (loads_well d.face root texts table f e) (λ s i. (usable_is (version q) (state_decoded texts) s i).0) k
loads_stocked root d f (Missing names) e q k = record { sessions = k.sessions; machine = k.machine; old_sessions = k.old_sessions; old_keys = k.old_keys }

reply_given : (P : List ℕ → Type 0) (e : Whole) (r : Replica) → AllByRecursion (IsGivenOutput P) (applied_reply e r)
reply_given P e r = elim (leads r) as (λ t. AllByRecursion (IsGivenOutput P) (cond t (replies (asker_of e) (kind_of (applying.applied r.state e).reply) r) [])) [ true ↦ (tt, tt) | false ↦ tt ]

-- what a word leaves is a running replica on its disk
pub at_next : {home : ℕ} (P Q : List ℕ → Type 0) (v : Word Lying) (n i ed : ℕ) (r : Replica) (d : Lying) → Chained v → At ed r d → Known home n i ed (v lying r d).script → Leaves P Q home v r d → At ed (v lying r d).replica (after_all lying d (v lying r d).script)
at_next {home} P Q v n i ed r d chained at known one =
    let a = v lying r d in
    let chain = chained.each lying r d in
    let goes = known_goes P Q home n i ed a.script d r.saved a.replica.saved at.file at.good chain known one.blocks one.rewrites in
    record { face = goes_face home a.script d goes at.face; file = same_version a.script d ∙ at.file; good = chain_good {home = home} n i ed a.script r.saved a.replica.saved at.good chain known; stock = one.stock }

-- and what two leave
pub leaves_both : {home : ℕ} (P Q : List ℕ → Type 0) (v w : Word Lying) (r : Replica) (d : Lying) → Leaves P Q home v r d → Leaves P Q home w (v lying r d).replica (after_all lying d (v lying r d).script) → Leaves P Q home (v ⨾ w) r d
unfolding ◌⨾◌
leaves_both {home} P Q v w r d one two =
    let a = v lying r d in
    let b = w lying a.replica (after_all lying d a.script) in
    record { blocks = blocks_both P Q a.script b.script one.blocks two.blocks; rewrites = rewrites_both home a.script b.script d one.rewrites two.rewrites; stock = two.stock }

module _ {P Q : List ℕ → Type 0} {home : ℕ} where
  -- ---- combining

  pub b_then : (v w : Word Lying) → Stocking P Q home v → Stocking P Q home w → Stocking P Q home (v ⨾ w)
  unfolding ◌⨾◌
  b_then v w h k = record {
    chained = c_then v w h.chained k.chained;
    each = λ n i ed r d at known.
        let a = v lying r d in
        let mid : Lying = after_all lying d a.script in
        let b = w lying a.replica mid in
        let left = known_left home n i ed a.script b.script known in
        let one = h.each n i ed r d at left in
        leaves_both P Q v w r d one (k.each n i ed a.replica mid (at_next P Q v n i ed r d h.chained at left one) (known_right home n i ed a.script b.script known));
  }

  pub b_quiet : Stocking P Q home quiet
  unfolding quiet
  b_quiet = record { chained = c_quiet; each = λ n i ed r d a k. record { blocks = tt; rewrites = tt; stock = a.stock } }

  pub b_change : (g : Replica → Replica) → ((r : Replica) → Kept (g r) r) → Stocking P Q home (change g)
  unfolding change
  b_change g h = record { chained = c_change g (λ r. (h r).saved); each = λ n i ed r d a k. record { blocks = tt; rewrites = tt; stock = moved (g r) r (h r) a.stock } }

  pub b_says : (os : Replica → List Output) → ((r : Replica) → AllByRecursion (IsGivenOutput P) (os r)) → Stocking P Q home (says os)
  unfolding says
  b_says os h = record { chained = c_says os; each = λ n i ed r d a k. record { blocks = said_blocks P Q (os r) (h r); rewrites = said_rewrites home (os r) d; stock = a.stock } }

  pub b_by : (w : Replica → Word Lying) → ((r : Replica) → Stocking P Q home (w r)) → Stocking P Q home (by w)
  unfolding by
  b_by w h = record { chained = c_by w (λ r. (h r).chained); each = λ n i ed r d a k. let x = (h r).each n i ed r d a k in record { blocks = x.blocks; rewrites = x.rewrites; stock = x.stock } }

  -- of a replica that is stocked
  pub b_at : (w : Replica → Word Lying) → ((r : Replica) → Chained (w r)) → ((r : Replica) → IsStocked r → Stocking P Q home (w r)) → Stocking P Q home (by w)
  unfolding by
  b_at w c h = record { chained = c_by w c; each = λ n i ed r d a k. let x = (h r a.stock).each n i ed r d a k in record { blocks = x.blocks; rewrites = x.rewrites; stock = x.stock } }

  pub b_naming : (w : (List ℕ → List ℕ) → Word Lying) → ((hash : List ℕ → List ℕ) → Stocking P Q home (w hash)) → Stocking P Q home (naming w)
  unfolding naming
  b_naming w h = record { chained = c_naming w (λ x. (h x).chained); each = λ n i ed r d a k. let x = (h lying.hash).each n i ed r d a k in record { blocks = x.blocks; rewrites = x.rewrites; stock = x.stock } }

  pub b_reading : {X : Type 0} (g : Setting Lying → Lying → X) (w : X → Word Lying) → ((x : X) → Chained (w x)) → ((d : Lying) → IsFace d.face → Stocking P Q home (w (g lying d))) → Stocking P Q home (reading g w)
  unfolding reading
  b_reading g w c h = record { chained = c_reading g w c; each = λ n i ed r d a k. let x = (h d a.face).each n i ed r d a k in record { blocks = x.blocks; rewrites = x.rewrites; stock = x.stock } }

  pub b_if : (b : Bool) (v w : Word Lying) → Stocking P Q home v → Stocking P Q home w → Stocking P Q home (cond b v w)
  b_if true v w h k = h
  b_if false v w h k = k

  pub b_when : (b : Bool) (w : Word Lying) → Stocking P Q home w → Stocking P Q home (when b w)
  b_when true w h = h
  b_when false w h = b_quiet

  b_times : (n : ℕ) (w : Word Lying) → Stocking P Q home w → Stocking P Q home (times n w)
  unfolding times
  b_times zero w h = b_quiet
  b_times (suc n) w h = b_then w (times n w) h (b_times n w h)

  pub b_each : {X : Type 0} (w : X → Word Lying) (xs : List X) → ((x : X) → Stocking P Q home (w x)) → Stocking P Q home (each w xs)
  unfolding each
  b_each w [] h = b_quiet
  b_each w (x ∷ xs) h = b_then (w x) (each w xs) (h x) (b_each w xs h)

  -- ---- the words

  pub b_save : Stocking P Q home save
  unfolding save does change ◌⨾◌
  b_save = record { chained = c_save; each = λ n i ed r d a k. record { blocks = (tt, tt); rewrites = (tt, tt); stock = record { sessions = a.stock.sessions; machine = a.stock.machine; old_sessions = a.stock.old_sessions; old_keys = a.stock.old_keys } } }

  pub b_write : (e : Whole) → Stocking P Q home (write e)
  unfolding write does change ◌⨾◌ forgetting with_part
  b_write e = record { chained = c_write e; each = λ n i ed r d a k. record { blocks = (tt, tt); rewrites = (tt, tt); stock = moved (stored e r) r (record { saved = refl; state = refl; table = refl }) a.stock } }

  pub b_accept : (e : Whole) → Stocking P Q home (accept e)
  unfolding accept
  b_accept e = b_by _ (λ r. b_when _ (write e) (b_write e))

  b_lost : (h : Header) → Stocking P Q home (change (lost h))
  unfolding with_part
  b_lost h = b_change (lost h) (λ r. record { saved = refl; state = refl; table = refl })

  b_or_lost : (h : Header) (w : Whole → Word Lying) (o : Option Whole) → ((e : Whole) → o ≡ Some e → Stocking P Q home (w e)) → Stocking P Q home (or_lost h w o)
  b_or_lost h w None all = b_lost h
  b_or_lost h w (Some e) all = all e refl

  b_part : (w : Whole → Word Lying) (p : Part) → ((e : Whole) → Chained (w e)) → ((e : Whole) → IsWhole e → Stocking P Q home (w e)) → Stocking P Q home (with_entry w p)
  b_part w (Here h) c all = b_reading (entry_of h) (or_lost h w) (λ o. c_or_lost h w o c) (λ d f. b_or_lost h w (entry_of h lying d) (λ e q. all e (entry_whole h d e f q)))
  b_part w _ c all = b_quiet

  pub b_entry : (k : ℕ) (w : Whole → Word Lying) → ((e : Whole) → Chained (w e)) → ((e : Whole) → IsWhole e → Stocking P Q home (w e)) → Stocking P Q home (with_entry_at k w)
  unfolding with_entry_at
  b_entry k w c all = b_by _ (λ r. b_part w (part_at r k) c all)

  b_checkpoints : Stocking P Q home (does checkpoints)
  unfolding does
  b_checkpoints = record { chained = c_checkpoint; each = λ n i ed r d a k. record { blocks = ((save_state_are r.cluster (texts_of r.state) r.applied r.table (texted r a.stock), record { state = r.state; are = refl; sessions = a.stock.sessions; machine = a.stock.machine; old_sessions = a.stock.old_sessions; old_keys = a.stock.old_keys }), tt); rewrites = (tt, tt); stock = a.stock } }

  b_moved : (r : Replica) (d : Lying) → IsStocked r → Stocking P Q home (change (with_checkpoint (checkpoint_of r lying d)))
  unfolding change with_checkpoint
  b_moved r d s =
      let t = table_named r.cluster (texts_of r.state) r.applied r.table (texted r s) in
      record { chained = c_change _ (λ r. refl); each = λ n i ed q d a k. record { blocks = tt; rewrites = tt; stock = record { sessions = a.stock.sessions; machine = a.stock.machine; old_sessions = t.sessions; old_keys = t.keys } } }

  b_checkpoint : Stocking P Q home make_checkpoint
  unfolding make_checkpoint
  b_checkpoint = b_at _ (λ r. c_reading (checkpoint_of r) _ (λ c. c_then _ _ c_checkpoint (c_then _ _ (c_change (with_checkpoint c) (with_checkpoint_saved c)) c_save)))
      (λ r s. b_reading (checkpoint_of r) _ (λ c. c_then _ _ c_checkpoint (c_then _ _ (c_change (with_checkpoint c) (with_checkpoint_saved c)) c_save)) (λ d f. b_then _ _ b_checkpoints (b_then _ _ (b_moved r d s) b_save)))

  b_applied : (e : Whole) → IsWhole e → Stocking P Q home (change (applied e))
  unfolding change
  b_applied e w = record {
    chained = c_change _ (λ r. refl);
    each = λ n i ed r d a k.
        let s = state_kept r.state e (record { sessions = a.stock.sessions; machine = a.stock.machine }) w in
        record { blocks = tt; rewrites = tt; stock = record { sessions = s.sessions; machine = s.machine; old_sessions = a.stock.old_sessions; old_keys = a.stock.old_keys } };
  }

  b_apply_entry : (e : Whole) → IsWhole e → Stocking P Q home (apply_entry e)
  unfolding apply_entry
  b_apply_entry e w =
      b_then _ _ (b_says _ (λ r. (tt, tt))) (b_then _ _ (b_says (applied_reply e) (reply_given P e)) (b_then _ _ (b_applied e w) (b_by _ (λ r. b_when _ make_checkpoint b_checkpoint))))

  pub b_apply : Stocking P Q home apply
  unfolding apply apply_next
  b_apply = b_by _ (λ r. b_times _ apply_next (b_by _ (λ r. b_when _ _ (b_entry _ apply_entry c_apply_entry b_apply_entry))))

  pub b_enter : (v : ℕ) → Stocking P Q home (enter v)
  unfolding enter entered
  b_enter v = b_if _ _ _ (b_change _ (λ r. record { saved = refl; state = refl; table = refl })) (b_then _ _ (b_change (entered v) (λ r. record { saved = refl; state = refl; table = refl })) (b_then _ _ b_save (b_says _ (λ r. all_given P start_view_change r tt))))

  b_loads : (r : Replica) (d : Lying) → IsFace d.face → Stocking P Q home (change (loads r.root (lying.loaded d r.root)))
  unfolding change
  b_loads r d f = record { chained = c_change _ (loads_saved r.root (lying.loaded d r.root)); each = λ n i ed q x a k. record { blocks = tt; rewrites = tt; stock = loads_stocked r.root d f (lying.loaded d r.root) refl q a.stock } }

  pub b_load : Stocking P Q home load
  unfolding load
  b_load = b_by _ (λ r. b_when _ _ (b_reading (checkpoint_at r.root) _ (λ l. c_change (loads r.root l) (loads_saved r.root l)) (λ d f. b_loads r d f)))

  b_peer : (message : Replica → Frame) → ((r : Replica) → IsGiven P (message r)) → Stocking P Q home (ask_peer message)
  unfolding ask_peer
  b_peer message g = b_then _ _ (b_says _ (λ r. (g r, tt))) (b_change _ (λ r. record { saved = refl; state = refl; table = refl }))

  b_asks : (names : List Name) (absent : Option Header) (worn : List Name) → Stocking P Q home (ask_for names absent worn)
  b_asks (name ∷ names) absent worn = b_peer _ (λ r. tt)
  b_asks [] (Some h) worn = b_naming _ (λ hash. b_peer _ (λ r. tt))
  b_asks [] None (name ∷ names) = b_peer _ (λ r. tt)
  b_asks [] None [] = b_quiet

  pub b_ask : Stocking P Q home ask
  unfolding ask
  b_ask = b_by _ (λ r. b_when _ _ (b_asks r.missing _ r.worn))

  pub b_advance : Stocking P Q home advance
  unfolding advance advanced
  b_advance = b_then _ _ (b_change advanced (λ r. record { saved = refl; state = refl; table = refl })) b_apply

  pub b_learn : (commit : ℕ) → Stocking P Q home (learn commit)
  unfolding learn
  b_learn commit = b_then _ _ (b_change _ (λ r. record { saved = refl; state = refl; table = refl })) b_apply

  pub b_take : (l : Log) → Stocking P Q home (take l)
  unfolding take taken forgetting
  b_take l = b_then _ _ (b_change (taken l) (λ r. record { saved = refl; state = refl; table = refl })) b_save

  pub b_jump : (v : SyncView) → Stocking P Q home (jump v)
  unfolding jump jumped forgetting
  b_jump v = b_then _ _ (b_change (jumped v) (λ r. record { saved = refl; state = refl; table = refl })) b_save

  pub b_again : (op : ℕ) → Stocking P Q home (prepare_again op)
  unfolding prepare_again
  b_again op = b_entry op _ (λ e. c_says _) (λ e w. b_says _ (λ r. all_given P (prepare e) r tt))

  pub b_resend : (e : Whole) → Stocking P Q home (resend e)
  unfolding resend
  b_resend e = b_naming _ (λ hash. b_by _ (λ r. b_when _ _ (b_if _ _ _ (b_says _ (λ r. all_given P (prepare e) r tt)) (b_says _ (λ r. (tt, tt))))))

  b_begin : (ss : List Statement) (l : Log) → Stocking P Q home (begin_view ss l)
  unfolding begin_view
  b_begin ss l =
      b_then _ _ (b_says _ (λ r. (tt, tt))) (b_then _ _ (b_take l) (b_then _ _ (b_says _ (λ r. all_given P start_view r tt)) (b_then _ _ (b_by _ (λ r. b_each prepare_again _ b_again)) (b_by _ (λ r. b_if _ _ _ b_advance b_apply)))))

  b_try_log : (ss : List Statement) (l : Log) → Stocking P Q home (try_log ss l)
  unfolding try_log
  b_try_log ss l = b_naming _ (λ hash. b_by _ (λ r. b_if _ _ _ (b_begin ss l) (b_says _ (λ r. (tt, tt)))))

  b_choice : (ss : List Statement) (x : Choice) → Stocking P Q home (obey_choice ss x)
  b_choice ss TooFew = b_quiet
  b_choice ss (WaitsAt op) = b_says _ (λ r. (tt, tt))
  b_choice ss (Ends hs) = b_by _ (λ r. b_try_log ss _)

  pub b_try : Stocking P Q home try
  unfolding try
  b_try = b_by _ (λ r. b_when _ _ (b_choice (stated r) (decided r)))

  pub b_speak : Stocking P Q home speak
  unfolding speak
  b_speak = b_by _ (λ r. b_when _ _ (b_if _ _ _ b_try (b_says _ (λ r. (tt, tt)))))

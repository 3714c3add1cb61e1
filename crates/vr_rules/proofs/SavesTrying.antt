-- Words that move the commit number, take a log over or load a checkpoint save values that make good copies.
use Rattle.std.proofs.Common.{arith, ◌≡◌, ◌≤◌, ◌<◌, ◌+◌, ◌-◌, ◌^◌, refl, ℕ, true, not, List, [], min, max, Option, Some, None}
use Rattle.std.specs.Prelude.{nat_lt, nat_le, ◌&&◌}
use Rattle.std.specs.List.{prefix_len}
use Rattle.std.proofs.lemmas.Bool.{cond_both}
use Rattle.std.proofs.lemmas.List.Elements.{All-nil}
use Rattle.std.proofs.lemmas.List.FromFn.{length-range_with_len}
use Rattle.std.proofs.lemmas.List.Sums.{prefix_len-le-length}
use Rattle.vr_ckpt.specs.declared.found.Load.{Load}
use Rattle.vr_ckpt.specs.declared.found.Load.TheVariants.{Loaded, Missing}
use Rattle.vr_ckpt.specs.declared.table.PayloadTable.{PayloadTable}
use Rattle.vr_state.specs.declared.state.State.{State}
use Rattle.vr_state.specs.StateTexts.{state_decoded}
use Rattle.vr_ckpt.specs.declared.name.Name.{Name}
use Rattle.vr_base.specs.Groups.{quorums_of}
use Rattle.vr_msg.specs.declared.choice.Choice.{Choice}
use Rattle.vr_msg.specs.declared.choice.Choice.TheVariants.{Ends, WaitsAt, TooFew}
use Rattle.vr_msg.specs.declared.frame.SyncView.{SyncView}
use Rattle.vr_msg.specs.declared.statement.Statement.{Statement}
use Rattle.vr_msg.specs.Choice.{ops}
use Rattle.vr_rules.specs.Replica.{Replica, head, is_primary, is_started, view_change, version}
use Rattle.vr_rules.specs.Steps.{Setting, Word, quiet, change, says, by, reading}
use Rattle.vr_rules.specs.Outputs.{wait_line, to_primary, do_view_change}
use Rattle.vr_rules.specs.Words.{Log, save, has_quorum, advanced, advance, learned, learn, taken, take, prepare_again, may_take, chosen_log, choose_line, begin_view, try_log, stated, decided, obey_choice, try, speak, with_state, loaded_state, loads, checkpoint_at, load, apply, jump, jumped, usable}
use Rattle.vr_rules.specs.Sound.{IsNameBytes, IsSound}
use Rattle.vr_rules.specs.Laws.{IsGoodSave, SavesRoots}
use Rattle.vr_rules.proofs.Keeping.{Kept, sound_commit}
use Rattle.vr_rules.proofs.Combining.{Keeps, keeps_change}
use Rattle.vr_rules.proofs.Wording.{kept_load}
use Rattle.vr_rules.specs.Given.{IsLogFor, IsSyncFor}
use Rattle.vr_rules.proofs.Jumping.{MayJump}
use Rattle.vr_rules.proofs.Trying.{chosen_log_is, all_stated, decided_ends}
use Rattle.vr_rules.proofs.SavesWell.{Well, GoodBy, Good, well_less, well_alike, body, good_then, good_change_then, good_says_then, good_by, good_naming, good_if, good_when, goods_then, goods_says, goods_change, goods_by, goods_if, goods_when, goods_each, goods_save}
use Rattle.vr_rules.proofs.SavesWords.{well_taken, well_jumped, goods_tell, goods_rest, goods_prepare_again, goods_apply}

-- ---- commit numbers

kept_commit : (r : Replica) (c : ℕ) → r.commit ≤ c → c ≤ head r → IsSound r → Kept r (record r { commit = c })
kept_commit r c a b h = record { sound = sound_commit r c a b h; rises = record { view = omega arith; log_view = omega arith; commit = a; applied = omega arith; checkpoint = omega arith } }

keeps_advanced : {F : Type 0} → Keeps {F = F} (change advanced)
unfolding advanced
keeps_advanced = keeps_change _ (λ r h.
    let n : ℕ = prefix_len (has_quorum r) (ops r.commit (head r)) in
    let few = prefix_len-le-length (has_quorum r) (ops r.commit (head r)) in
    let size = length-range_with_len (r.commit + 1) (head r - r.commit) in
    let known = h.order.known in
    kept_commit r (r.commit + n) (omega arith) (omega (arith, few, size, known)) h)

keeps_learned : {F : Type 0} (c : ℕ) → Keeps {F = F} (change (learned c))
keeps_learned c = keeps_change (learned c) (λ r h. let known = h.order.known in kept_commit r (max r.commit (min c (head r))) (omega arith) (omega arith) h)

-- ---- loading

-- what loading leaves as it is
record Unloaded (r q : Replica) : Type 0 where
  body_same : body q ≡ body r
  saved_same : q.saved ≡ r.saved

state_leaves : (root : Name) (table : PayloadTable) (o : Option State) (r : Replica) → Unloaded r (loaded_state root table o r)
unfolding with_state
state_leaves root table (Some t) r = record { body_same = refl; saved_same = refl }
state_leaves root table None r = record { body_same = refl; saved_same = refl }

loads_leave : (root : Name) (l : Load) (r : Replica) → Unloaded r (loads root l r)
loads_leave root (Loaded texts table) r = state_leaves root table (usable (version r) (state_decoded texts)) r
loads_leave root (Missing names) r = record { body_same = refl; saved_same = refl }

load_leaves : {F : Type 0} (s : Setting F) (r : Replica) (f : F) → Unloaded r (load s r f).replica × ((load s r f).script ≡ [])
unfolding load by reading change quiet
load_leaves {F} s r f =
    cond_both (nat_lt 0 r.checkpoint) (reading (checkpoint_at r.root) (λ l. change (loads r.root l))) quiet (λ (w : Word F). Unloaded r (w s r f).replica × ((w s r f).script ≡ []))
    (λ _. (loads_leave r.root (checkpoint_at r.root s f) r, refl)) (λ _. (record { body_same = refl; saved_same = refl }, refl))

module _ {F : Type 0} (v : ℕ) (s : Setting F) where
  pub good_load : (n : ℕ) (r : Replica) (f : F) → r.applied ≡ r.checkpoint → Well v n r → GoodBy {F = F} v n load s r f
  good_load n r f e h =
      let l = load_leaves s r f in
      record { saves = rw l.1 (All-nil IsGoodSave); well = well_alike v n r (load s r f).replica l.0.body_same l.0.saved_same (kept_load s r f h.sound e).kept.sound h }

  pub good_take : (n : ℕ) (l : Log) (r : Replica) (f : F) → IsLogFor r l → may_take s.hash l r ≡ true → l.view < v → v ≤ 2 ^ 32 - 1 → Well v (n + 1) r → GoodBy {F = F} v n (take l) s r f
  unfolding take
  good_take n l r f log may a b h = good_change_then v s n (taken l) save r f (λ d. (goods_save v s).every n (taken l r) d (well_taken v (n + 1) s.hash l r log may a b h))

  pub good_jump : (n : ℕ) (x : SyncView) (r : Replica) (f : F) → IsSyncFor r x → MayJump x r → x.root_address < 128 → IsNameBytes x.root_name.0 → x.view < v → v ≤ 2 ^ 32 - 1 → Well v (n + 1) r
      → GoodBy {F = F} v n (jump x) s r f
  unfolding jump
  good_jump n x r f is m a name b c h = good_change_then v s n (jumped x) save r f (λ d. (goods_save v s).every n (jumped x r) d (well_jumped v (n + 1) x r is m a name b c h))

module _ {F : Type 0} (v : ℕ) (s : Setting F) (roots : SavesRoots s) where
  pub goods_advance : Good {F = F} v 64 advance s
  unfolding advance advanced
  goods_advance = goods_then v s 0 64 _ apply (goods_change v s advanced keeps_advanced (λ r. refl) (λ r. refl)) (goods_apply v s roots)

  pub goods_learn : (c : ℕ) → Good {F = F} v 64 (learn c) s
  unfolding learn
  goods_learn c = goods_then v s 0 64 _ apply (goods_change v s (learned c) (keeps_learned c) (λ r. refl) (λ r. refl)) (goods_apply v s roots)

  -- ---- a log is chosen

  good_begin : (n : ℕ) (ss : List Statement) (l : Log) (r : Replica) (f : F) → IsLogFor r l → may_take s.hash l r ≡ true → l.view < v → v ≤ 2 ^ 32 - 1 → Well v (n + 65) r
      → GoodBy {F = F} v n (begin_view ss l) s r f
  unfolding begin_view
  good_begin n ss l r f log may a b h =
      good_says_then v s n (choose_line ss l) _ r f (λ d.
      good_then v s (n + 64) n (take l) _ r d (good_take v s (n + 64) l r d log may a b (well_less v (n + 64 + 1) (n + 65) r (omega arith) h)) (λ q x w.
      (goods_then v s 0 64 _ _ (goods_says v s _) (goods_then v s 0 64 _ _ (goods_by v s 0 _ (λ r. goods_each v s prepare_again (ops r.commit l.head) (goods_prepare_again v s))) (goods_by v s 64 _ (λ r. goods_if v s 64 _ _ _ goods_advance (goods_apply v s roots))))).every n q x w))

  good_try_log : (n : ℕ) (ss : List Statement) (l : Log) (r : Replica) (f : F) → IsLogFor r l → l.view < v → v ≤ 2 ^ 32 - 1 → Well v (n + 65) r → GoodBy {F = F} v n (try_log ss l) s r f
  unfolding try_log
  good_try_log n ss l r f log a b h =
      good_naming v s n _ r f (good_by v s n _ r f (good_if v s n (may_take s.hash l r) (begin_view ss l) (says (wait_line l.head)) r f
      (λ t. good_begin n ss l r f log t a b h)
      (λ t. (goods_tell v s 65 (wait_line l.head)).every n r f h)))

  good_choice : (n : ℕ) (c : Choice) (r : Replica) (f : F) → decided r ≡ c → v ≤ 2 ^ 32 - 1 → Well v (n + 65) r → GoodBy {F = F} v n (obey_choice (stated r) c) s r f
  good_choice n TooFew r f e b h = (goods_rest v s 65).every n r f h
  good_choice n (WaitsAt op) r f e b h = (goods_tell v s 65 (wait_line op)).every n r f h
  good_choice n (Ends hs) r f e b h =
      let q = decided_ends r.n (stated r) hs (quorums_of r.n) e in
      good_by v s n _ r f (good_try_log n (stated r) (chosen_log r (stated r) hs) r f (chosen_log_is r q.0 (stated r) hs (all_stated r h.sound) q.1) h.view b h)

  pub goods_try : v ≤ 2 ^ 32 - 1 → Good {F = F} v 65 try s
  unfolding try
  goods_try b = record {
    every = λ n r f h.
        good_by v s n _ r f (good_when v s n (is_primary r && not (is_started r)) (obey_choice (stated r) (decided r)) r f (well_less v n (n + 65) r (omega arith) h)
        (λ t. good_choice n (decided r) r f refl b h));
  }

  pub goods_speak : v ≤ 2 ^ 32 - 1 → Good {F = F} v 65 speak s
  unfolding speak
  goods_speak b = goods_by v s 65 _ (λ r. goods_when v s 65 (nat_le (view_change r.n) _) _ (goods_if v s 65 (is_primary r) try _ (goods_try b) (goods_tell v s 65 (to_primary do_view_change))))

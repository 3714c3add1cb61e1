-- The sectors of a checkpoint begin with no header of an entry, if those of its sessions don't.
use Rattle.std.proofs.Common.{ℕ, ◌≡◌, refl, sym, ap, ◌∙◌, subst, List, [], ◌∷◌, ◌++◌, length, append_assoc}
use Rattle.std.specs.List.{AllByRecursion}
use Rattle.vr_disk.specs.DiskState.{Sync}
use Rattle.vr_disk.specs.Stops.{IsCall}
use Rattle.vr_state.specs.StateTexts.{payloads}
use Rattle.vr_state.specs.Pairs.{kv_text}
use Rattle.vr_ckpt.specs.Blocks.{block_of}
use Rattle.vr_ckpt.specs.Grid.{block_calls}
use Rattle.vr_ckpt.specs.declared.block.Block.{Block}
use Rattle.vr_ckpt.specs.Saves.{blocks_calls, changed, keys_run, root_of, save_calls, sessions_run, table_of, written}
use Rattle.law_5_seals.specs.Seals.{PutsHeadless}
use Rattle.law_5_seals.proofs.Blocks.{IsLaterMarkless, blocks_headless, calls_left, calls_right, headless_both, keys_markless}
use Rattle.law_5_seals.specs.Laws.{CheckpointsAreHeadless}
use Rattle.law_5_seals.proofs.Roots.{root_markless}

calls_both : (xs ys : List Block) → blocks_calls (xs ++ ys) ≡ blocks_calls xs ++ blocks_calls ys
unfolding blocks_calls
calls_both [] ys = refl
calls_both (x ∷ xs) ys = let cs = block_calls x.name.address x.bytes in ap (λ ds. cs ++ ds) (calls_both xs ys) ∙ sym (append_assoc cs (blocks_calls xs) (blocks_calls ys))

both_headless : (xs ys : List Block) → AllByRecursion PutsHeadless (blocks_calls xs) → AllByRecursion PutsHeadless (blocks_calls ys) → AllByRecursion PutsHeadless (blocks_calls (xs ++ ys))
both_headless xs ys a b = subst (AllByRecursion PutsHeadless) (sym (calls_both xs ys)) (headless_both (blocks_calls xs) (blocks_calls ys) a b)

pub both_calls : (xs ys : List Block) → AllByRecursion IsCall (blocks_calls (xs ++ ys)) → AllByRecursion IsCall (blocks_calls xs) × AllByRecursion IsCall (blocks_calls ys)
both_calls xs ys a =
    let all = subst (AllByRecursion IsCall) (calls_both xs ys) a in
    (calls_left IsCall (blocks_calls xs) (blocks_calls ys) all, calls_right IsCall (blocks_calls xs) (blocks_calls ys) all)

pub checkpoints_are_headless : CheckpointsAreHeadless
unfolding save_calls written root_of
checkpoints_are_headless cluster texts op old h a sessions =
    let t = table_of cluster texts op old in
    let s = changed (sessions_run cluster op) texts.sessions old.sessions in
    let k = changed (keys_run cluster op) texts.keys old.keys in
    let c = root_of cluster texts op t in
    let root = block_of c ∷ [] in
    let calls = calls_left IsCall (blocks_calls (s ++ (k ++ root))) (Sync ∷ []) a in
    let later = (both_calls s (k ++ root) calls).1 in
    let parts = both_calls k root later in
    let marks : AllByRecursion IsLaterMarkless k = subst (λ (text : List ℕ). AllByRecursion IsLaterMarkless (changed (keys_run cluster op) text old.keys)) (sym h.keys) (keys_markless h.machine h.fits (payloads (length (kv_text h.machine))) 0 (keys_run cluster op) old.keys) in
    let keys = blocks_headless k marks parts.0 in
    let roots = blocks_headless root ((c, refl, root_markless op (length texts.sessions) (length texts.keys) t h.names c refl), tt) parts.1 in
    headless_both (blocks_calls (s ++ (k ++ root))) (Sync ∷ []) (both_headless s (k ++ root) sessions (both_headless k root keys roots)) (tt, tt)

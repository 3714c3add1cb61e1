-- The rules save values that make good copies.
use Rattle.std.proofs.Common.{arith, ◌≡◌, ◌≤◌, ◌+◌, ◌-◌, ◌^◌, refl, ℕ, false, not, List}
use Rattle.std.specs.Prelude.{nat_lt, nat_le}
use Rattle.std.proofs.lemmas.Bool.{ltb-true, ltb-false, leb-false}
use Rattle.vr_msg.specs.declared.frame.Commit.{Commit}
use Rattle.vr_msg.specs.declared.frame.Frame.TheVariants as frame
use Rattle.vr_msg.specs.declared.frame.Prepare.{Prepare}
use Rattle.vr_msg.specs.declared.frame.PrepareOk.{PrepareOk}
use Rattle.vr_msg.specs.declared.frame.StartViewChange.{StartViewChange}
use Rattle.vr_msg.specs.declared.output.Output.{Output}
use Rattle.vr_rules.specs.Replica.{Replica, head}
use Rattle.vr_rules.specs.Steps.{Setting, Word, ◌⨾◌, quiet, change, says}
use Rattle.vr_rules.specs.Words.{rested, enter, accept, write, learn, speak}
use Rattle.vr_rules.specs.Deciding.{Hash, is_from_primary, prepare_table, prepare_ok_table, commit_table, start_view_change_table}
use Rattle.vr_rules.specs.Rules as rules
use Rattle.vr_rules.specs.Laws.{IsMessage, SavesRoots}
use Rattle.vr_rules.proofs.Storing.{MayStore}
use Rattle.vr_rules.proofs.Wording.{keeps_rested, kept_rested}
use Rattle.vr_rules.proofs.Ruling.{by_rows, group_of_primary, may_store_prepare, keeps_acknowledged, keeps_heard}
use Rattle.vr_rules.proofs.SavesWell.{Well, GoodBy, Good, well_less, well_alike, good_then, good_change_then, good_by, good_naming, goods_then, goods_says, goods_change, goods_by, goods_when}
use Rattle.vr_rules.proofs.SavesWords.{goods_rest, good_enter, good_write, good_accept}
use Rattle.vr_rules.proofs.SavesTrying.{goods_advance, goods_learn, goods_speak}

-- the views of steps
abbrev pub views : ℕ
views = 2 ^ 32 - 1

-- a step saves no more often
abbrev pub most : ℕ
most = 130

module _ {F : Type 0} (s : Setting F) (roots : SavesRoots s) where
  -- a word that saves no more than so many times, in a step
  pub fit : (c : ℕ) (w : Word F) → c ≤ most → Good views c w s → (r : Replica) (f : F) → Well views most r → GoodBy views 0 w s r f
  fit c w l h r f k = h.every 0 r f (well_less views (0 + c) most r (omega arith) k)

  pub idles : (r : Replica) (f : F) → Well views most r → GoodBy views 0 quiet s r f
  idles r f h = fit 0 quiet (omega arith) (goods_rest views s 0) r f h

  pub tells : (os : Replica → List Output) (r : Replica) (f : F) → Well views most r → GoodBy views 0 (says os) s r f
  tells os r f h = fit 0 (says os) (omega arith) (goods_says views s os) r f h

  pub well_rested : (n : ℕ) (r : Replica) → Well views n r → Well views n (rested r)
  well_rested n r h = well_alike views n r (rested r) refl refl (kept_rested r h.sound).sound h

  pub goods_rested : Good {F = F} views 0 (change rested) s
  goods_rested = goods_change views s rested keeps_rested (λ r. refl) (λ r. refl)

  -- ---- prepares, prepare_oks and commits

  then_learns : (hash : Hash) (p : Prepare) → Good {F = F} views 64 (rules.acknowledge hash p.entry.header ⨾ learn p.commit) s
  then_learns hash p = goods_then views s 0 64 _ _ (goods_says views s _) (goods_learn views s roots p.commit)

  good_known : (p : Prepare) (r : Replica) (f : F) → MayStore p.entry (rested r) → Well views most r
      → GoodBy {F = F} views 0 (change rested ⨾ accept p.entry ⨾ rules.acknowledge s.hash p.entry.header ⨾ learn p.commit) s r f
  good_known p r f m h =
      good_change_then views s 0 rested _ r f (λ d. good_then views s 64 0 (accept p.entry) _ (rested r) d
      (good_accept views s 64 p.entry (rested r) d m (well_less views 64 most (rested r) (omega arith) (well_rested most r h))) (λ q x w. (then_learns s.hash p).every 0 q x w))

  good_next : (p : Prepare) (r : Replica) (f : F) → MayStore p.entry (rested r) → Well views most r
      → GoodBy {F = F} views 0 (change rested ⨾ write p.entry ⨾ rules.acknowledge s.hash p.entry.header ⨾ learn p.commit) s r f
  good_next p r f m h =
      good_change_then views s 0 rested _ r f (λ d. good_then views s 64 0 (write p.entry) _ (rested r) d
      (good_write views s 64 p.entry (rested r) d m (well_less views 64 most (rested r) (omega arith) (well_rested most r h))) (λ q x w. (then_learns s.hash p).every 0 q x w))

  pub good_prepare : (p : Prepare) (r : Replica) (f : F) → IsMessage (frame.Prepare p) → Well views most r → GoodBy {F = F} views 0 (rules.on_prepare p) s r f
  unfolding rules.on_prepare
  good_prepare p r f m h =
      let op : ℕ = p.entry.header.op in
      let idle = idles r f h in
      let rests = fit 0 (change rested) (omega arith) goods_rested r f h in
      let may : not (is_from_primary p.version p.entry.header.cluster p.replica p.view r) ≡ false → nat_lt r.log_view p.view ≡ false → nat_le op r.checkpoint ≡ false
      → nat_lt (r.checkpoint + 64) op ≡ false → MayStore p.entry (rested r) =
      λ a b c d. may_store_prepare p r m (group_of_primary p.version p.entry.header.cluster p.replica p.view r a) (ltb-false r.log_view p.view b) (leb-false op r.checkpoint c) (ltb-false (r.checkpoint + 64) op d) in
      good_naming views s 0 _ r f (good_by views s 0 _ r f (by_rows (λ x. GoodBy views 0 (rules.obey_prepare s.hash p x) s r f) (prepare_table s.hash p r) (
        λ t. idle,
        λ n0. (
          λ t. idle,
          λ n1. (
            λ t. tells _ r f h,
            λ n2. (
              λ t. fit 64 _ (omega arith) (goods_then views s 0 64 _ _ goods_rested (goods_learn views s roots p.commit)) r f h,
              λ n3. (
                λ t. rests,
                λ n4. (
                  λ t. good_known p r f (may n0 n2 n3 n4) h,
                  λ n5. (
                    λ t. good_next p r f (may n0 n2 n3 n4) h,
                    λ n6. (λ t. fit 64 _ (omega arith) (goods_then views s 0 64 _ _ goods_rested (goods_then views s 0 64 _ _ (goods_says views s _) (goods_learn views s roots p.commit))) r f h, λ n7. (λ t. rests, λ n8. idle)),
                  ),
                ),
              ),
            ),
          ),
        ),
      )))

  pub good_prepare_ok : (a : PrepareOk) (r : Replica) (f : F) → Well views most r → GoodBy {F = F} views 0 (rules.on_prepare_ok a) s r f
  unfolding rules.on_prepare_ok
  good_prepare_ok a r f h =
      good_naming views s 0 _ r f (good_by views s 0 _ r f (by_rows (λ x. GoodBy views 0 (rules.obey_prepare_ok a x) s r f) (prepare_ok_table s.hash a r) (
        λ t. idles r f h,
        λ n0. (λ t. fit 64 _ (omega arith) (goods_then views s 0 64 _ _ (goods_change views s (rules.acknowledged a) (keeps_acknowledged a) (λ r. refl) (λ r. refl)) (goods_advance views s roots)) r f h, λ n1. idles r f h),
      )))

  pub good_commit : (c : Commit) (r : Replica) (f : F) → Well views most r → GoodBy {F = F} views 0 (rules.on_commit c) s r f
  unfolding rules.on_commit
  good_commit c r f h =
      good_by views s 0 _ r f (by_rows (λ x. GoodBy views 0 (rules.obey_commit c x) s r f) (commit_table c r) (
        λ t. idles r f h,
        λ n0. (
          λ t. idles r f h,
          λ n1. (
            λ t. tells _ r f h,
            λ n2. (
              λ t. fit 64 _ (omega arith) (goods_then views s 0 64 _ _ goods_rested (goods_then views s 0 64 _ _ (goods_by views s 0 _ (λ r. goods_when views s 0 (nat_lt (head r) c.head) (rules.ask_view c.view c.replica) (goods_says views s _))) (goods_learn views s roots c.commit))) r f h,
              λ n3. idles r f h,
            ),
          ),
        ),
      ))

  -- ---- view changes

  goods_heard : (sender : ℕ) → Good {F = F} views 65 (change (rules.heard_of sender) ⨾ speak) s
  goods_heard sender = goods_then views s 0 65 _ _ (goods_change views s (rules.heard_of sender) (keeps_heard sender) (λ r. refl) (λ r. refl)) (goods_speak views s roots (omega arith))

  pub good_change_of_view : (c : StartViewChange) (r : Replica) (f : F) → Well views most r → GoodBy {F = F} views 0 (rules.on_start_view_change c) s r f
  unfolding rules.on_start_view_change
  good_change_of_view c r f h =
      good_by views s 0 _ r f (by_rows (λ x. GoodBy views 0 (rules.obey_start_view_change c x) s r f) (start_view_change_table c r) (
        λ t. idles r f h,
        λ n0. (
          λ t. idles r f h,
          λ n1. (
            λ t. good_then views s 65 0 (enter c.view) _ r f (good_enter views s 65 c.view r f (let l = ltb-true r.view c.view t in omega arith) (omega arith) (well_less views (65 + 1) most r (omega arith) h)) (λ q x w. (goods_heard c.replica).every 0 q x w),
            λ n2. (λ t. fit 65 _ (omega arith) (goods_heard c.replica) r f h, λ n3. (λ t. tells _ r f h, λ n4. idles r f h)),
          ),
        ),
      ))

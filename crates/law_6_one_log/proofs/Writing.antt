-- Every checkpoint of a followed run is the one that the log's entries make.
use Rattle.std.proofs.Common.{ℕ, zero, suc, ◌<◌, ◌≡◌, ◌∙◌, arith, sym, ap, subst, List, [], ◌∷◌, length, Some}
use Rattle.std.specs.Prelude.{slice_get, slice_index_or}
use Rattle.vr_header.specs.Made.{Whole}
use Rattle.vr_header.specs.Names.{root_header}
use Rattle.vr_header.specs.NoCollision.{NoCollision}
use Rattle.vr_state.specs.StateTexts.{texts_of}
use Rattle.vr_state.specs.declared.texts.Texts.{Texts}
use Rattle.vr_super.specs.Copies.{SuperValue}
use Rattle.vr_ckpt.specs.declared.block.Block.{Block}
use Rattle.vr_ckpt.specs.Saves.{saved_checkpoint, written}
use Rattle.vr_ckpt.specs.declared.saving.SavedCheckpoint.{SavedCheckpoint}
use Rattle.vr_ckpt.specs.declared.table.PayloadTable.{PayloadTable}
use Rattle.vr_world.specs.Checkpoints.{state_at, table_before}
use Rattle.vr_world.specs.Group.{Played}
use Rattle.vr_world.specs.Safe.{IsHashed}
use Rattle.vr_rules.specs.Steps.{Effect}
use Rattle.law_2_chains.specs.Chains.{Every, Setup}
use Rattle.law_2_chains.specs.Bridge.{Bridges}
use Rattle.law_3_outputs.specs.Followed.{IsFitRun, IsFollowed}
use Rattle.law_3_outputs.proofs.Log.{is_log, the_log}
use Rattle.law_3_outputs.proofs.Sets.{every_at}
use Rattle.law_6_one_log.proofs.Following.{follows_it}
use Rattle.law_6_one_log.proofs.Runs.{borne_at}
use Rattle.law_6_one_log.proofs.Values.{IsMade, IsRooted, IsRootOf}
use Rattle.law_6_one_log.proofs.Walk.{IsBorne}
use Rattle.law_6_one_log.specs.CheckpointLaws.{AreOne, HasOneCheckpoint, IsWrittenIn, root_of_value}

-- ---- elements of a list

got : {X : Type 0} (xs : List X) (x : X) (k : ℕ) → k < length xs → slice_index_or xs k x ≡ x → slice_get xs k ≡ Some x
got [] x k l e = absurd (omega arith)
got (y ∷ xs) x zero l e = ap Some e
got (y ∷ xs) x (suc k) l e = got xs x k (omega arith) e

-- ---- checkpoints of a log

module _ (H : List ℕ → Type 0) (own : ℕ) (log : List Whole) where
  -- what is made of the log's
  made_same : {X : Type 0} (make : ℕ → Texts → PayloadTable → X) (cluster op : ℕ) (texts : Texts) (old : PayloadTable) → IsMade own log cluster texts op old
      → make cluster texts old ≡ make own (texts_of (state_at log op)) (table_before own log op)
  made_same make cluster op texts old h =
      ap (λ t. make cluster texts t) h.before ∙ (ap (λ x. make cluster x (table_before own log op)) h.state ∙ ap (λ c. make c (texts_of (state_at log op)) (table_before own log op)) h.own)

  makes_one : (cluster other op : ℕ) (texts others : Texts) (old older : PayloadTable) → IsMade own log cluster texts op old → IsMade own log other others op older → AreOne cluster other op texts others old older
  makes_one cluster other op texts others old older h k =
      let W : ℕ → Texts → PayloadTable → List Block = λ c x t. written c x op t in
      let S : ℕ → Texts → PayloadTable → SavedCheckpoint = λ c x t. saved_checkpoint c x op t in
      record {
        blocks = made_same W cluster op texts old h ∙ sym (made_same W other op others older k);
        saved = made_same S cluster op texts old h ∙ sym (made_same S other op others older k);
      }

  one_root : (v w : SuperValue) → IsRooted H own log v → IsRooted H own log w → 0 < v.fields.checkpoint → v.fields.checkpoint ≡ w.fields.checkpoint → root_of_value v ≡ root_of_value w
  one_root v w h k above same = (h above).is ∙ sym (subst (λ c. IsRootOf H own log c (root_of_value w)) (sym same) (k (subst (λ c. 0 < c) same above))).is

  named_root : (cluster : ℕ) (texts : Texts) (table : PayloadTable) (v : SuperValue) → IsMade own log cluster texts v.fields.checkpoint table → IsRooted H own log v → 0 < v.fields.checkpoint
      → root_of_value v ≡ (saved_checkpoint cluster texts v.fields.checkpoint table).root
  named_root cluster texts table v h k above =
      (k above).is ∙ sym (made_same (λ c x t. (saved_checkpoint c x v.fields.checkpoint t).root) cluster v.fields.checkpoint texts table h)

-- ---- a run

module _ (cluster n : ℕ) (u : Setup) (run : List Played) (x : IsFollowed cluster n u run) (bridges : (t : ℕ) (p : Played) → slice_get run t ≡ Some p → Bridges u p.before (x.group t)) (never : NoCollision (IsHashed run (root_header cluster))) where
  abbrev H : List ℕ → Type 0
  H bytes = IsHashed run (root_header cluster) bytes

  abbrev log : List Whole
  log = the_log cluster n u run x

  borne : (e : Effect) → IsWrittenIn run e → IsBorne H cluster log e
  borne e w =
      let at = w.of_run in
      let of = w.of_move in
      let all : Every (IsBorne H cluster log) w.move.moved.script = borne_at cluster n u run x bridges never log (is_log cluster n u run x) at.0 w.move (got run w.move at.0 at.1 at.2) in
      every_at (IsBorne H cluster log) w.move.moved.script of.0 e (got w.move.moved.script e of.0 of.1 of.2) all

  followed_one : HasOneCheckpoint run
  followed_one = record {
    one = λ a b op texts others old older v w. makes_one H cluster log a b op texts others old older (borne _ v) (borne _ w);
    roots = λ old older value other v w above same. one_root H cluster log value other (borne _ v) (borne _ w) above same;
    named = λ a texts table old value v w above. named_root H cluster log a texts table value (borne _ v) (borne _ w) above;
  }

pub runs_have_one : (cluster n : ℕ) (run : List Played) → IsFitRun cluster n run → NoCollision (IsHashed run (root_header cluster)) → HasOneCheckpoint run
runs_have_one cluster n run fit never = let x = follows_it cluster n run fit in followed_one cluster n x.setup run x.followed x.bridges never

-- Checkpoints of others (rules 36 and 37): one is told at the end of a step, or it is taken over with its log.
use Rattle.std.proofs.Common.{ℕ, ◌≤◌, ◌≡◌, ◌∙◌, inl, inr, arith, refl, sym, ap, subst, List, [], ◌∷◌, ◌++◌, Option}
use Rattle.std.proofs.lemmas.Bool.{and_parts}
use Rattle.vr_header.specs.declared.header.Header.{Header}
use Rattle.vr_msg.specs.declared.frame.Frame.TheVariants as frame
use Rattle.vr_msg.specs.declared.frame.GetSync.{GetSync}
use Rattle.vr_msg.specs.declared.frame.SyncView.{SyncView}
use Rattle.vr_msg.specs.declared.output.Output.{Output}
use Rattle.vr_msg.specs.declared.output.Output.TheVariants as output
use Rattle.vr_rules.specs.Replica.{Replica, head, leads, run, run_start}
use Rattle.vr_rules.specs.Outputs.{send_to, sync_view}
use Rattle.vr_rules.specs.Steps.{Say, Setting, Word, ◌⨾◌, change, says, by, after_all}
use Rattle.vr_rules.specs.Words.{jump, jumped, log_header, sync_log, with_saved}
use Rattle.vr_rules.specs.Deciding.{get_sync_table, may_jump, sync_view_table}
use Rattle.vr_rules.specs.Rules.{obey_get_sync, on_get_sync, obey_sync_view, on_sync_view}
use Rattle.vr_rules.specs.Laws.{IsMessage}
use Rattle.vr_rules.proofs.Ruling.{by_rows, group_of_primary, told_sync}
use Rattle.vr_rules.specs.Given.{IsSyncFor}
use Rattle.vr_rules.proofs.Jumping.{MayJump, may_jump_is, landed, kept_jumped}
use Rattle.law_1_machine.specs.Basics.{In}
use Rattle.law_1_machine.specs.Group.{Group, sends}
use Rattle.law_1_machine.specs.Members.{Memory, Message, Start_view, Checkpoint}
use Rattle.law_1_machine.specs.Laws.{Backed}
use Rattle.law_1_machine.specs.Taking as machine
use Rattle.law_1_machine.specs.Machine as move
use Rattle.law_2_chains.specs.Local.{Local, begun, through}
use Rattle.law_2_chains.specs.Chains.{Setup, Every, AsksNothing, WasMade, WasSent, Mid, Goes}
use Rattle.law_2_chains.specs.Reflecting.{entries_by}
use Rattle.law_2_chains.specs.Finished.{AreBacked, IsSaid, a_start, a_checkpoint, IsTrue, Finished, Finishes}
use Rattle.law_2_chains.proofs.Scripts.{every_append, every_map, goes_quiet, goes_by, goes_naming}
use Rattle.law_2_chains.proofs.Readying.{free_ready}
use Rattle.law_2_chains.proofs.Moving.{stops}
use Rattle.law_2_chains.proofs.Saving.{forgotten, goes_save_then}
use Rattle.law_2_chains.proofs.Repairs.{leads_is, may_start_of}
use Rattle.law_2_chains.proofs.StartViews.{acknowledges_all}
use Rattle.law_2_chains.proofs.Finishing.{true_more, said_more, finished, goes_finishes}
use Rattle.law_2_chains.proofs.Tabling.{in_left}
use Rattle.law_2_chains.proofs.Jumps.{parts_jumped, commit_jumped, jumps_to, covers_jumped, keeps_jumped, jumped_views}

same_start : (a b v w t y lo c : ℕ) (hs : ℕ → Option Header) → a ≡ b → v ≡ w → t ≡ y → Start_view a v lo t c hs ≡ Start_view b w lo y c hs
same_start a b v w t y lo c hs d e f = ap (λ (k : ℕ). Start_view k v lo t c hs) d ∙ (ap (λ (k : ℕ). Start_view b k lo t c hs) e ∙ ap (λ (k : ℕ). Start_view b w lo k c hs) f)

same_root : (a b v w p q : ℕ) (root : List Header) → a ≡ b → v ≡ w → p ≡ q → Checkpoint a v p root ≡ Checkpoint b w q root
same_root a b v w p q root d e f = ap (λ (k : ℕ). Checkpoint k v p root) d ∙ (ap (λ (k : ℕ). Checkpoint b k p root) e ∙ ap (λ (k : ℕ). Checkpoint b w k root) f)

-- fewer numbers are backed too
backed_upto : (u : Setup) (sent : List (Message Header)) (v n w c : ℕ) → v ≡ w → c ≤ n → AreBacked u sent v n → AreBacked u sent w c
backed_upto u sent v n w c same l h k a b = subst (λ x. (y : Header) × Backed u.quorums (entries_by u.hash u.cluster) sent x k y) same (h k a (omega arith))

module _ (u : Setup) (start : Group Header) (i : ℕ) where
  -- ---- a checkpoint is taken over

  pub goes_jump_then : {F : Type 0} (v : SyncView) (w : Word F) (t : Setting F) (r : Replica) (f : F) (k : Local) (s : Group Header) (x : Mid u start i r k s) → IsSyncFor r v → MayJump v r
      → Every AsksNothing k.said → WasSent u start.sent (frame.SyncView v)
      → ((k : Local) (a : Group Header) (d : F) → Mid u start i (with_saved (jumped v r)) k a → Goes u start i k (w t (with_saved (jumped v r)) d)) → Goes u start i k ((jump v ⨾ w) t r f)
  unfolding jump ◌⨾◌ change after_all
  goes_jump_then v w t r f k s x is may free told go =
      let root : List Header = told.1.0 in
      let m' : Memory Header = machine.jumped x.memory v.view v.checkpoint root (parts_jumped v r x.sound is may) (commit_jumped v r x.sound is may) (head (landed v r)) in
      let y = jumped_views v r x.sound is may in
      goes_save_then u start i (jumped v r) k s x.under x.memory m' x.running
      (move.jumps v.replica v.view v.body.lo v.head v.commit v.checkpoint (log_header (sync_log v)) (parts_jumped v r x.sound is may) (commit_jumped v r x.sound is may) (head (landed v r))
      (rw x.under.sent told.0) v.replica root (rw x.under.sent told.1.1) (jumps_to v r x.sound is may x.memory x.reflects))
      (covers_jumped v r x.sound is may x.memory x.reflects root) (kept_jumped v r x.sound is may).sound (y.2 ∙ x.place) (y.3 ∙ x.size) (keeps_jumped v r x.sound is may k.member x.stored)
      (free_ready u start.sent i (forgotten (jumped v r) m') (s.members i).slots k.said free) w t f go

  pub goes_sync_view : {F : Type 0} (v : SyncView) (t : Setting F) (r : Replica) (f : F) (l : Local) (s : Group Header) → Mid u start i r l s → t.hash ≡ u.hash → Every AsksNothing l.said
      → IsMessage (frame.SyncView v) → WasSent u start.sent (frame.SyncView v) → Goes u start i l (on_sync_view v t r f)
  unfolding on_sync_view
  goes_sync_view v t r f l s x same free m sent =
      let idle = goes_quiet u start i t r f l s x in
      goes_naming u start i _ t r f l (goes_by u start i _ t r f l (by_rows (λ z. Goes u start i l (obey_sync_view t.hash v z t r f)) (sync_view_table t.hash v r) (
        λ a. idle,
        λ n0. (
          λ a.
              let is = told_sync v r m (group_of_primary v.version v.cluster v.replica v.view r n0) in
              let may = may_jump_is t.hash v r (and_parts (may_jump t.hash v r) _ a).0 in
              let q : Replica = with_saved (jumped v r) in
              let w = jumped_views v r x.sound is may in
              goes_jump_then v _ t r f l s x is may free sent (λ k b d y. acknowledges_all u start i v.head t q k b d y same (w.0 ∙ sym w.1)),
          λ n1. idle,
        ),
      )))

  -- ---- a checkpoint is told

  -- the log of it, and the checkpoint itself, are sent as two messages of the machine
  finished_tells : (r : Replica) (l : Local) (s : Group Header) (x : Finished u start i r l s) → r.view ≡ r.log_view → (o : Output) (to : ℕ)
      → o ≡ output.Send (record { from = r.index; to = to; message = sync_view r }) → (a : Group Header) × Finished u start i r (through (Say o) l) a
  finished_tells r l s x begun o to is =
      let m = x.memory in
      let f = x.reflects in
      let commit = f.commit in
      let hs = log_header (record { view = r.view; lo = run_start r; headers = run r; head = head r; commit = r.commit }) in
      let z = may_start_of r m f x.sound begun in
      let view : r.view ≡ m.log_view = begun ∙ sym f.log_view in
      let top : (k : ℕ) → k ≤ m.head → k ≤ head r = λ k b. subst (λ n. k ≤ n) z.reach b in
      let first : Message Header = Start_view i m.log_view (run_start r) m.head r.commit hs in
      let second : Message Header = Checkpoint i m.log_view m.checkpoint m.root in
      let first_is = same_start r.index i r.view m.log_view (head r) m.head (run_start r) r.commit hs x.place view (sym z.reach) in
      let second_is = same_root r.index i r.view m.log_view r.checkpoint m.checkpoint m.root x.place view (sym f.checkpoint) in
      let at : m.view ≡ m.log_view = z.in_view ∙ sym z.of_log in
      let s1 : Group Header = sends s first in
      let s2 : Group Header = sends s1 second in
      let says_first = move.says i m first x.running (move.starts_view (run_start r) r.commit hs at z.backed (λ k h e. let y = z.known k h e in (y.0, rw z.reach (y.1), y.2)) (λ k a b. z.whole k a (top k b))) in
      let says_second = move.says i m second x.running (move.tells_root at) in
      let more : (w : Message Header) → In w s.sent → In w s2.sent = λ w h. inr (inr h) in
      let numbered = backed_upto u start.sent m.log_view m.commit r.view r.commit (sym view) (omega arith) x.served in (
        s2,
        record {
          reached = move.and_then s1 s2 (move.and_then s s1 x.reached says_first) says_second;
          others = x.others;
          disk = let d = x.disk in record { last = d.last; under = d.under; slots = d.slots; size = d.size };
          made = every_append (WasMade s.made) l.made [] x.made tt;
          none_made = x.none_made;
          memory = m;
          running = x.running;
          reflects = f;
          sound = x.sound;
          place = x.place;
          size = x.size;
          stored = x.stored;
          served = x.served;
          kept = λ w h. more w (x.kept w h);
          chosen = x.chosen;
          told = every_append (IsTrue u start.sent s2.sent) l.said (o ∷ []) (every_map (IsTrue u start.sent s.sent) (IsTrue u start.sent s2.sent) l.said (true_more u start.sent s.sent s2.sent more) x.told)
              (rw is ((inr (inl first_is), (m.root, inl second_is)), numbered), tt);
          only = λ w h. elim h [
            | inl e ↦ inr (subst (IsSaid u (l.said ++ o ∷ [])) (sym e) (a_checkpoint i m.log_view m.checkpoint m.root))
            | inr h1 ↦ elim h1 [
              | inl e ↦ inr (subst (IsSaid u (l.said ++ o ∷ [])) (sym e) (a_start i m.log_view (run_start r) m.head r.commit hs))
              | inr h2 ↦ elim (x.only w h2) [ inl old ↦ inl old | inr said ↦ inr (said_more u l.said (l.said ++ o ∷ []) (λ p j. in_left p l.said (o ∷ []) j) w said) ]
            ]
          ];
        },
      )

  finishes_tells : {F : Type 0} (to : ℕ) (t : Setting F) (r : Replica) (f : F) (l : Local) (s : Group Header) → Mid u start i r l s → r.view ≡ r.log_view → Finishes u start i l (says (λ r. send_to to (sync_view r) r) t r f)
  unfolding says
  finishes_tells to t r f l s x is =
      let y = finished u start i r l s x in
      let o : Output = output.Send (record { from = r.index; to = to; message = sync_view r }) in
      let z = finished_tells r l y.0 y.1 is o to refl in
      let made1 = every_append (WasMade s.made) l.made [] x.under.made tt in
      record { after = z.0; ends = z.1; cuts = (stops u start i l (begun (Say o) l) s x.under x.under.disk made1, tt); stopped = stops u start i l (through (Say o) l) s x.under x.under.disk made1 }

  pub finishes_get_sync : {F : Type 0} (g : GetSync) (t : Setting F) (r : Replica) (f : F) (l : Local) (s : Group Header) → Mid u start i r l s → Finishes u start i l (on_get_sync g t r f)
  unfolding on_get_sync by
  finishes_get_sync g t r f l s x =
      let idle = goes_finishes u start i l _ (goes_quiet u start i t r f l s x) in
      by_rows (λ z. Finishes u start i l (obey_get_sync g z t r f)) (get_sync_table g r) (λ a. idle, λ n0. (λ a. finishes_tells g.replica t r f l s x (leads_is r (and_parts (leads r) _ a).0).0, λ n1. idle))

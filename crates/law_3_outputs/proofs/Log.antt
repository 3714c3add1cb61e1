-- The log of a run: that of the greatest view that has begun, each of its entries as it was written. Whatever is committed is in it.
use Rattle.std.proofs.Common.{ℕ, zero, suc, ◌+◌, ◌-◌, ◌%◌, ◌≤◌, ◌<◌, ◌≡◌, ◌∙◌, arith, refl, sym, ap, subst, true, List, length, Some}
use Rattle.std.specs.Prelude.{slice_get}
use Rattle.std.proofs.Math.Nat.{mod-lt}
use Rattle.vr_header.specs.declared.header.Header.{Header}
use Rattle.vr_header.specs.Made.{Whole}
use Rattle.std.proofs.lemmas.Option.{slice_get_within}
use Rattle.vr_world.specs.Group.{Played}
use Rattle.vr_rules.specs.Steps.{Write}
use Rattle.vr_world.specs.Safe.{wrote}
use Rattle.vr_world.specs.Safe as safe
use Rattle.law_3_outputs.specs.Replied.{IsLogOf}
use Rattle.law_1_machine.specs.History.{History}
use Rattle.law_1_machine.specs.Invariant.{Invariant}
use Rattle.law_2_chains.specs.Chains.{Setup}
use Rattle.law_2_chains.specs.Reflecting.{entries_by}
use Rattle.law_2_chains.proofs.Making.{logged_made}
use Rattle.law_3_outputs.specs.Followed.{IsFollowed}
use Rattle.law_2_chains.proofs.StoredLists.{in_contains}
use Rattle.law_3_outputs.proofs.Sets.{bound, greatest, Listed, listed}
use Rattle.law_3_outputs.proofs.Traces.{WasWritten, last, written_of}
use Rattle.law_3_outputs.proofs.Machine.{committed_begun, logged}
use Rattle.law_3_outputs.proofs.Forth.{CommittedAt, good}

module _ (cluster n : ℕ) (u : Setup) (run : List Played) (x : IsFollowed cluster n u run) where
  abbrev g : History Header
  g = (good cluster n u run x).0

  y : Invariant u.quorums (entries_by u.hash u.cluster) g (last cluster n u run x)
  y = (good cluster n u run x).1

  -- the greatest view that has begun
  pub newest : (w : ℕ) × (g.finished w ≡ true) × ((v : ℕ) → g.finished v ≡ true → v ≤ w)
  newest =
      let b = bound g.log_view u.quorums.n in
      let size = x.size_is in
      let some = x.fit.some in
      greatest g.finished b.0 y.history.first.0 (λ v f. let l = y.led v f in let m = b.1 (v % u.quorums.n) (mod-lt v (omega arith)) in omega arith)

  abbrev IsLogged : ℕ → Whole → Type 0
  IsLogged k e = (w : WasWritten run (g.log newest.0 (suc k))) × (w.entry ≡ e)

  items : Listed IsLogged (g.length newest.0)
  items = listed IsLogged (g.length newest.0) (λ k l.
      let made = logged_made u.quorums (entries_by u.hash u.cluster) g (last cluster n u run x) y (suc newest.0) newest.0 (suc k) (omega arith) newest.1 (omega arith) (omega arith) in
      let w = written_of cluster n u run x (length run) (omega arith) _ made in
      (w.entry, (w, refl)))

  pub the_log : List Whole
  the_log = items.items

  -- what is committed is in it
  pub in_log : (v k : ℕ) (c : Header) → 0 < k → CommittedAt cluster n u run x v k c → (w : WasWritten run c) × (slice_get the_log (k - 1) ≡ Some w.entry)
  unfolding the_log
  in_log v zero c z h = absurd (omega arith)
  in_log v (suc k) c z h =
      let f = committed_begun u.quorums (entries_by u.hash u.cluster) g (last cluster n u run x) y v (suc k) c z h in
      let l = logged u.quorums (entries_by u.hash u.cluster) g (last cluster n u run x) y newest.0 v (suc k) c newest.1 (newest.2 v f) z h in
      let within = l.0 in
      let e = items.each k (omega arith) in
      let place : k ≡ suc k - 1 = omega arith in
      let at : slice_get the_log (suc k - 1) ≡ Some e.2.0.entry = subst (λ j. slice_get the_log j ≡ Some e.2.0.entry) place (e.1 ∙ ap Some (sym e.2.1)) in
      let go : (d : Header) → d ≡ c → (w : WasWritten run d) → slice_get the_log (suc k - 1) ≡ Some w.entry → (w : WasWritten run c) × (slice_get the_log (suc k - 1) ≡ Some w.entry) =
      λ d s w a. subst (λ (b : Header). (w : WasWritten run b) × (slice_get the_log (suc k - 1) ≡ Some w.entry)) s (w, a) in
      go (g.log newest.0 (suc k)) (sym l.1) e.2.0 at

  -- its entries have their numbers
  pub log_numbered : (k : ℕ) (e : Whole) → slice_get the_log k ≡ Some e → e.header.op ≡ k + 1
  unfolding the_log
  log_numbered k e at =
      let within = slice_get_within the_log k e at in
      let long = items.long in
      let l = items.each k (omega arith) in
      let same : l.0 ≡ e = (let o : Some l.0 ≡ Some e = sym l.1 ∙ at in cc) in
      let number : (g.log newest.0 (suc k)).op ≡ suc k = y.history.number newest.0 (suc k) newest.1 (omega arith) in
      let is : e.header ≡ g.log newest.0 (suc k) = ap (λ (w : Whole). w.header) (sym same ∙ sym l.2.1) ∙ l.2.0.is in
      ap (λ (h : Header). h.op) is ∙ (number ∙ (let z : suc k ≡ k + 1 = omega arith in z))

  pub is_log : IsLogOf cluster u run (last cluster n u run x).sent the_log
  is_log v k c z h =
      let w = in_log v k c z h in
      let e = w.0 in
      record {
        entry = e.entry;
        at = w.1;
        is = e.is;
        good = e.good;
        hashed = wrote e.move (Write e.again e.entry) _ (in_contains e.move run e.of_run) (in_contains _ e.move.moved.script e.of_move) (safe.IsWritten.operation e.again e.entry);
      }

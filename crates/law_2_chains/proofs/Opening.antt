-- Every opening is a chain of the machine's moves.
use Rattle.std.proofs.Common.{ℕ, ◌+◌, ◌≡◌, ◌∙◌, arith, refl, sym, subst, List, ◌∷◌, None}
use Rattle.std.specs.Prelude.{Contains}
use Rattle.vr_header.specs.declared.header.Header.{Header}
use Rattle.vr_super.specs.Copies.{SuperValue}
use Rattle.vr_rules.specs.Replica.{Replica, head, part_at, parts_from}
use Rattle.vr_rules.specs.Steps.{Effect, Mend, Setting, Step, ◌⨾◌, does, after_all}
use Rattle.vr_rules.specs.Opening.{blank, mending, recover_parts, resuming}
use Rattle.vr_rules.proofs.Keeping.{sound_missing}
use Rattle.vr_rules.proofs.Openings.{recovered as found_sound, reads_after}
use Rattle.vr_rules.proofs.Slots.{value_is}
use Rattle.vr_world.specs.Group as group
use Rattle.vr_world.specs.Group.{keeps_all}
use Rattle.law_1_machine.specs.Group.{Group}
use Rattle.law_1_machine.specs.Members.{Memory}
use Rattle.law_2_chains.specs.Local.{Local, carried}
use Rattle.law_2_chains.specs.Reflecting.{told_of, IsValue, KeepsStored, Reflects}
use Rattle.law_2_chains.specs.Chains.{Setup, Every, AsksNothing, WasMade, Under, Mid}
use Rattle.law_2_chains.specs.Tables.{HasTables}
use Rattle.law_2_chains.specs.Finished.{Finishes}
use Rattle.law_2_chains.specs.Openings.{MayBegin, Opens, resumed}
use Rattle.law_2_chains.proofs.Readying.{free_ready}
use Rattle.law_2_chains.proofs.Finishing.{goes_finishes}
use Rattle.law_2_chains.proofs.Starting.{keeps_all_found, recovered}
use Rattle.law_2_chains.proofs.Mending.{finds, mends_value, silent_still}
use Rattle.law_2_chains.proofs.Resuming.{waiting, goes_resuming, resuming_tables}

reflects_waiting : (q : Replica) (m : Memory Header) → m.view ≡ q.view → m.log_view ≡ q.log_view → m.checkpoint ≡ q.checkpoint → m.commit ≡ q.commit → m.applied ≡ q.applied → m.head ≡ head q
    → ((k : ℕ) → m.parts k ≡ told_of (part_at q k)) → m.state ≡ None → Reflects (waiting q) m
unfolding head part_at
reflects_waiting q m view log_view checkpoint commit applied reach parts none = record { view = view; log_view = log_view; checkpoint = checkpoint; commit = commit; applied = applied; reach = reach; parts = parts; loaded = λ e. absurd cc; waits = λ e. none }

stored_waiting : (q : Replica) (m : group.Member) → KeepsStored q m → KeepsStored (waiting q) m
unfolding part_at
stored_waiting q m k = k

-- it is carried out to its end, and the tables are true
Ends : Setup → Group Header → ℕ → Local → Step → Type 0
Ends u start i l y = (h : Finishes u start i l y) × HasTables u h.after i y.replica

pub opens : {F : Type 0} (u : Setup) (start : Group Header) (i : ℕ) (l : Local) (made : List Header) (v : SuperValue) (t : Setting F) (f : F) → MayBegin u start i l made v t f
    → Opens u start i v l (mending v t (blank v) f) (resumed t f (mending v t (blank v) f))
unfolding does ◌⨾◌ after_all Ends
opens u start i l made v t f b =
    let d = t.after f (Mend v) in
    let x = recover_parts v t (blank v) d in
    let q : Replica = x.replica in
    let es : List Effect = Mend v ∷ x.script in
    let w = value_is v b.good in
    let reads = reads_after t f (Mend v) b.good b.reads in
    let found = finds v w t d reads in
    let is = found_sound v t d w reads in
    let under : Under u start i l start = record { reached = b.reached; sent = refl; chosen = λ c h. h; others = λ j n. refl; disk = b.disk; made = b.written; none_made = refl } in
    let m = mends_value u start i v q made l start under b.still b.sound b.value b.were_made found.in_place x.script found.writes in
    let l1 : Local = carried es l in
    let rests = m.rests in
    let s : Group Header = m.after in
    let low = w.commit in
    let top = w.head in
    let were : (h : Header) → Contains made h → WasMade s.made h = λ h c. subst (λ z. WasMade z h) (sym rests.under.none_made) (b.were_made h c) in
    let got = recovered u start i v q l1 s rests.under made rests.still rests.last rests.cleared found.spans found.one found.checkpoint found.up (omega arith) found.in_place rests.sound found.low were in
    let kept = keeps_all_found u start i v q l1 s rests.under made rests.still rests.last rests.cleared found.spans found.one found.checkpoint found.up (omega arith) found.in_place rests.sound found.low were found.saved in
    let y : IsValue v (s.members i).last = subst (λ z. IsValue z (s.members i).last) rests.last rests.under.disk.last in
    let l2 : Local = record { member = keeps_all (parts_from q (q.checkpoint + 1)) l1.member; made = l1.made; said = l1.said } in
    let silent : Every AsksNothing l2.said = silent_still v q l x.script found.writes b.silent in
    let mid : Mid u start i (waiting q) l2 got.after =
    record {
      under = got.under;
      memory = _;
      running = got.running;
      reflects = reflects_waiting q _ (y.view ∙ sym found.view) (y.log_view ∙ sym found.log_view) (y.checkpoint ∙ sym found.checkpoint) (y.commit ∙ sym found.commit) (y.checkpoint ∙ sym found.applied) refl (λ k. refl) refl;
      sound = sound_missing q _ (λ n. is.applied) is.sound;
      place = found.index ∙ b.place;
      size = found.n ∙ b.size;
      stored = stored_waiting q l2.member kept;
      ready = free_ready u start.sent i _ (got.after.members i).slots l2.said silent;
    } in
    let g = after_all t d x.script in
    let fin : Finishes u start i l2 (resuming t q g) = goes_finishes u start i l2 (resuming t q g) (goes_resuming u start i t q g l2 got.after mid silent is.sound is.applied) in
    let tables : HasTables u fin.after i (resuming t q g).replica = resuming_tables u start i t q g fin.after v.fields.n is.sound is.applied found.statements in
    let ends : Ends u start i l2 (resuming t q g) = (fin, tables) in
    let both : Ends u start i (record { member = keeps_all (parts_from q (v.fields.checkpoint + 1)) l1.member; made = l1.made; said = l1.said }) (resuming t q g) =
    subst (λ c. Ends u start i (record { member = keeps_all (parts_from q (c + 1)) l1.member; made = l1.made; said = l1.said }) (resuming t q g)) found.checkpoint ends in
    record { mends = m.cuts; finishes = both.0; tables = both.1 }

-- What an output says is so, by what was put out and stored before it; and what is committed stands in what is said in later views.
use Rattle.std.proofs.Common.{ℕ, suc, ◌-◌, ◌≤◌, ◌<◌, ◌≡◌, ◌∙◌, arith, refl, sym, ap, subst, List, length, Some}
use Rattle.std.specs.Prelude.{slice_get}
use Rattle.std.proofs.lemmas.Bool.{lt-leb}
use Rattle.std.proofs.lemmas.Option.{slice_get_within}
use Rattle.vr_header.specs.declared.header.Header.{Header}
use Rattle.vr_header.specs.Bodies.{operation_bytes, operation_of, IsOperation}
use Rattle.vr_header.specs.Made.{Whole}
use Rattle.vr_header.specs.Names.{root_header}
use Rattle.vr_header.specs.NoCollision.{NoCollision}
use Rattle.vr_header.specs.Spelling.{IsHeader}
use Rattle.vr_header.proofs.BodyLaws.{operation_again}
use Rattle.vr_msg.specs.declared.frame.Frame.{Frame}
use Rattle.vr_msg.specs.declared.frame.Frame.TheVariants as frame
use Rattle.vr_msg.specs.declared.output.Committed.{Committed}
use Rattle.vr_msg.specs.declared.output.Output.{Output}
use Rattle.vr_msg.specs.declared.output.Output.TheVariants as output
use Rattle.vr_msg.specs.declared.output.Sent.{Sent}
use Rattle.vr_rules.specs.Deciding.{log_of}
use Rattle.vr_world.specs.Group.{Played}
use Rattle.vr_rules.specs.Steps.{Write}
use Rattle.vr_rules.specs.Words.{log_header, sync_log}
use Rattle.vr_world.specs.Checkpoints.{IsCheckpointOf}
use Rattle.vr_msg.specs.declared.frame.SyncView.{SyncView}
use Rattle.law_2_chains.proofs.Finishing.{committed_more}
use Rattle.law_3_outputs.specs.Replied.{root_told}
use Rattle.law_1_machine.specs.Basics.{In}
use Rattle.law_1_machine.specs.Group.{Group}
use Rattle.law_1_machine.specs.Laws.{Durability}
use Rattle.law_1_machine.specs.Laws as law
use Rattle.law_1_machine.specs.Members as machine
use Rattle.law_1_machine.specs.Members.{Message}
use Rattle.law_1_machine.proofs.Laws.{durability}
use Rattle.law_2_chains.specs.Chains.{Setup, WasSent}
use Rattle.law_2_chains.specs.Reflecting.{entries_by}
use Rattle.vr_world.specs.Commitment.{Evidence, IsCommitted, AreCommitted, IsBackedMessage, IsLine}
use Rattle.vr_world.specs.Safe.{IsHashed, IsOutput, KeepsEntry, CarriesEntry, wrote, given, before, evidence, run_outputs}
use Rattle.vr_world.specs.Safe as safe
use Rattle.law_2_chains.specs.Finished.{AreBacked, IsNumbered}
use Rattle.law_3_outputs.specs.Followed.{IsFollowed, IsGoodEntry, IsLineOf, by_then}
use Rattle.law_3_outputs.proofs.Reading.{runs_read}
use Rattle.law_2_chains.proofs.StoredLists.{in_contains}
use Rattle.law_3_outputs.proofs.Sets.{get_in}
use Rattle.law_3_outputs.proofs.Traces.{WasWritten, last, sent_later, chosen_later, said_of, sent_of, output_in}
use Rattle.law_3_outputs.proofs.Machine.{number_is}
use Rattle.law_3_outputs.proofs.Forth.{CommittedAt, good, is_committed, then_later}
use Rattle.law_3_outputs.proofs.Back.{back}
use Rattle.law_3_outputs.proofs.Log.{in_log, the_log}

-- entries of one header are one, where bodies of one name are
pub one_whole : (IsBody : List ℕ → Type 0) → NoCollision IsBody → (d e : Whole) → d.header ≡ e.header → IsGoodEntry d → IsGoodEntry e → IsBody (operation_bytes d.operation) → IsBody (operation_bytes e.operation) → d ≡ e
one_whole IsBody never d e same gd ge hd he =
    let name = sym gd.body.name ∙ (ap (λ (h : Header). h.body.0) same ∙ ge.body.name) in
    let bytes = never (operation_bytes d.operation) (operation_bytes e.operation) hd he name in
    let v : ℕ = d.header.version in
    let fits : IsOperation v e.operation = rw (ap (λ (h : Header). h.version) same) ge.body.fits in
    let read : Some d.operation ≡ Some e.operation = sym (operation_again v d.operation gd.body.fits) ∙ (ap (operation_of v) bytes ∙ operation_again v e.operation fits) in
    let operation : d.operation ≡ e.operation = cc in
    λ i. record { header = same i; operation = operation i }

module _ (cluster n : ℕ) (u : Setup) (run : List Played) (x : IsFollowed cluster n u run) where
  -- what is committed by what was sent, or counts before an output, is so at the end
  pub at_end : (t : ℕ) → t ≤ length run → (v k : ℕ) (c : Header) → law.Committed u.quorums (entries_by u.hash u.cluster) (x.group t).sent v k c → CommittedAt cluster n u run x v k c
  at_end t l v k c h = committed_more u.quorums (entries_by u.hash u.cluster) (x.group t).sent (last cluster n u run x).sent (λ m i. sent_later cluster n u run x (length run) t l (omega arith) m i) v k c h

  pub then_end : (t : ℕ) (p : Played) → slice_get run t ≡ Some p → (number v k : ℕ) (c : Header) → law.Committed u.quorums (entries_by u.hash u.cluster) (by_then u (x.group t) p number) v k c → CommittedAt cluster n u run x v k c
  then_end t p is number v k c h = committed_more u.quorums (entries_by u.hash u.cluster) (by_then u (x.group t) p number) (last cluster n u run x).sent (then_later cluster n u run x t p is number) v k c h

  -- ---- of one output

  module _ (move number : ℕ) (p : Played) (at : slice_get run move ≡ Some p) where
    abbrev earlier : Evidence
    earlier = before run move number p

    abbrev counts : List (Message Header)
    counts = by_then u (x.group move) p number

    back_then : (v k : ℕ) (c : Header) → law.Committed u.quorums (entries_by u.hash u.cluster) counts v k c → IsCommitted cluster n earlier v c
    back_then v k c h = back cluster n u run x move p at number v k c h

    pub backed_numbers : (view commit : ℕ) → AreBacked u counts view commit → AreCommitted cluster n earlier (the_log cluster n u run x) view commit
    backed_numbers view commit f op z l =
        let b = f op z l in
        let h = b.0 in
        let c = b.1.2 in
        let sure = then_end move p at number b.1.0 op h c in
        let w = in_log cluster n u run x b.1.0 op h z sure in
        let g = good cluster n u run x in
        record {
          entry = w.0.entry;
          at = w.1;
          number = ap (λ (k : Header). k.op) w.0.is ∙ number_is u.quorums (entries_by u.hash u.cluster) g.0 (last cluster n u run x) g.1 b.1.0 op h sure;
          view = b.1.0;
          early = b.1.1;
          committed = subst (IsCommitted cluster n earlier b.1.0) (sym w.0.is) (back_then b.1.0 op h c);
        }

    pub backed_frame : (m : Frame) → IsNumbered u counts m → ((v : SyncView) → m ≡ frame.SyncView v → IsCheckpointOf cluster (the_log cluster n u run x) v.checkpoint (root_told v)) → IsBackedMessage cluster n earlier (the_log cluster n u run x) m
    backed_frame (frame.Prepare m) f of = backed_numbers m.view m.commit f
    backed_frame (frame.Commit m) f of = backed_numbers m.view m.commit f
    backed_frame (frame.StartView m) f of = backed_numbers m.view m.commit f
    backed_frame (frame.Request m) f of = tt
    backed_frame (frame.Reply m) f of = tt
    backed_frame (frame.PrepareOk m) f of = tt
    backed_frame (frame.StartViewChange m) f of = tt
    backed_frame (frame.DoViewChange m) f of = tt
    backed_frame (frame.GetView m) f of = tt
    backed_frame (frame.GetPrepare m) f of = tt
    backed_frame (frame.GivePrepare m) f of = tt
    backed_frame (frame.GetBlock m) f of = tt
    backed_frame (frame.GiveBlock m) f of = tt
    backed_frame (frame.GetSync m) f of = tt
    backed_frame (frame.SyncView m) f of = (backed_numbers m.view m.commit f, of m refl)

    -- a commit line
    pub backed_line : NoCollision (IsHashed run (root_header cluster)) → (c : Committed) → In (output.Commit c) p.moved.outputs → IsLineOf cluster u run counts c.entry → IsLine cluster n earlier (the_log cluster n u run x) c
    backed_line never c i f =
        let h = c.entry.header in
        let read = runs_read cluster n run x.fit move p at c i in
        let op = read.form.op.0 in
        let above : 0 < h.op = omega arith in
        let w = in_log cluster n u run x f.view h.op h above (then_end move p at number f.view h.op h f.committed) in
        let e = w.0 in
        let hashed : IsHashed run (root_header cluster) (operation_bytes e.entry.operation) =
        wrote e.move (Write e.again e.entry) _ (in_contains e.move run e.of_run) (in_contains _ e.move.moved.script e.of_move) (safe.IsWritten.operation e.again e.entry) in
        let same = one_whole (IsHashed run (root_header cluster)) never e.entry c.entry e.is e.good read.good hashed f.hashed in
        record { at = w.1 ∙ ap Some same; number = above; view = f.view; committed = back_then f.view h.op h f.committed }

  -- ---- an entry that is committed

  module _ (view : ℕ) (c : Header) (fits : IsHeader c) (never : NoCollision (IsHashed run c)) (above : 0 < c.op) (committed : IsCommitted cluster n (evidence run) view c) where
    is : CommittedAt cluster n u run x view c.op c × WasWritten run c
    is = is_committed cluster n u run x c never view c fits given above committed

    pub one_is : (e : Whole) × (slice_get (the_log cluster n u run x) (c.op - 1) ≡ Some e) × (e.header ≡ c)
    one_is = let w = in_log cluster n u run x view c.op c above is.0 in (w.0.entry, w.1, w.0.is)

    abbrev end : Group Header
    end = last cluster n u run x

    lasts : Durability u.quorums (entries_by u.hash u.cluster) end view c.op c
    lasts = let g = good cluster n u run x in durability u.quorums (entries_by u.hash u.cluster) g.0 end g.1 view c.op c above is.0

    abbrev Was : Frame → Type 0
    Was f = WasSent u end.sent f

    carries : (s : Sent) (m : Frame) → s.message ≡ m → In (output.Send s) (run_outputs run) → CarriesEntry view c m
    carries s (frame.Prepare m) e i = λ less op.
        let told = subst (λ (f : Frame). Was f) e (sent_of cluster n u run x s i) in
        lasts.prepared m.replica m.view m.entry.header m.commit (subst (λ k. In (machine.Prepare m.replica m.view k m.entry.header m.commit) end.sent) op told) (omega arith)
    carries s (frame.StartView m) e i = λ less low top.
        let told = subst (λ (f : Frame). Was f) e (sent_of cluster n u run x s i) in
        let y = lasts.started m.replica m.view m.body.lo m.head m.commit (log_header (log_of m)) told less in
        let is : log_header (log_of m) c.op ≡ Some c = y.1 low in
        rw (lt-leb c.op m.body.lo low) at is
    carries s (frame.SyncView m) e i = λ less low top.
        let told = subst (λ (f : Frame). Was f) e (sent_of cluster n u run x s i) in
        let y = lasts.started m.replica m.view m.body.lo m.head m.commit (log_header (sync_log m)) told.0 less in
        let is : log_header (sync_log m) c.op ≡ Some c = y.1 low in
        rw (lt-leb c.op m.body.lo low) at is
    carries s (frame.GetSync m) e i = tt
    carries s (frame.Commit m) e i = tt
    carries s (frame.Request m) e i = tt
    carries s (frame.Reply m) e i = tt
    carries s (frame.PrepareOk m) e i = tt
    carries s (frame.StartViewChange m) e i = tt
    carries s (frame.DoViewChange m) e i = tt
    carries s (frame.GetView m) e i = tt
    carries s (frame.GetPrepare m) e i = tt
    carries s (frame.GivePrepare m) e i = tt
    carries s (frame.GetBlock m) e i = tt
    carries s (frame.GiveBlock m) e i = tt

    keeps : (o : Output) → In o (run_outputs run) → KeepsEntry view c o
    keeps (output.Send s) i = carries s s.message refl i
    keeps (output.Choose l) i =
        λ less.
        let y = said_of cluster n u run x (output.Choose l) i in
        let w = slice_get_within run y.0 y.1 y.2 in
        let line = y.3.1 in
        let of_view = line.of_view in
        let of_head = line.of_head in
        let d = lasts.chosen line.made (chosen_later cluster n u run x (length run) (suc y.0) (omega arith) (omega arith) line.made line.is_made) (omega arith) in
        let top = d.0 in omega arith
    keeps (output.Commit m) i = tt
    keeps (output.Reply m) i = tt
    keeps (output.Wait m) i = tt
    keeps (output.Start m) i = tt
    keeps (output.Halted m) i = tt
    keeps (output.Migrated m) i = tt
    keeps output.Done i = tt
    keeps output.KeptOut i = tt

    pub kept_is : (move number : ℕ) (p : Played) (o : Output) → IsOutput run move number p o → KeepsEntry view c o
    kept_is move number p o y = keeps o (output_in run move p o y.at (get_in p.moved.outputs number o y.is))

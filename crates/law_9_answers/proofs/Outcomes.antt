-- An outcome that was put out lasts, in whichever log is kept: the log's entry of its op keeps its number in every later view.
use Rattle.std.proofs.Common.{ℕ, ◌+◌, ◌-◌, ◌^◌, ◌≤◌, ◌<◌, ◌≡◌, ◌∙◌, inl, inr, arith, refl, sym, ap, subst, List, [], ◌∷◌, ◌++◌, take, Some}
use Rattle.std.specs.Prelude.{Contains, slice_get}
use Rattle.vr_base.specs.declared.kind.Kind.{Kind}
use Rattle.vr_header.specs.Made.{Whole}
use Rattle.vr_header.specs.Names.{root_header}
use Rattle.vr_header.specs.NoCollision.{NoCollision}
use Rattle.vr_header.specs.Spelling.{IsHeader, named_bytes}
use Rattle.vr_header.specs.declared.header.Header.{Header}
use Rattle.vr_msg.specs.declared.frame.Frame.{Frame}
use Rattle.vr_msg.specs.declared.frame.Frame.TheVariants as frame
use Rattle.vr_msg.specs.declared.output.Output.{Output}
use Rattle.vr_msg.specs.declared.output.Output.TheVariants as output
use Rattle.vr_msg.specs.declared.output.Sent.{Sent}
use Rattle.vr_msg.specs.declared.reply.Answered.{Answered}
use Rattle.vr_msg.specs.declared.reply.ReplyFields.{ReplyFields}
use Rattle.vr_msg.specs.declared.reply.ReplyKind.{ReplyKind}
use Rattle.vr_msg.specs.declared.reply.ReplyKind.TheVariants as reply
use Rattle.vr_rules.specs.Opening.{AreKinds}
use Rattle.vr_rules.specs.Steps.{Write}
use Rattle.vr_world.specs.Commitment.{IsCommitted, IsOutcomeOf, IsReplyOf, lines_by}
use Rattle.vr_world.specs.World.{Happened}
use Rattle.vr_world.specs.Group.{Played}
use Rattle.vr_world.specs.Lying.{Lying}
use Rattle.vr_world.specs.Safe as safe
use Rattle.vr_world.specs.Safe.{CarriesEntry, IsHashed, IsTrueReply, KeepsEntry, applied_then, before, evidence, given, read, run_outputs, wrote}
use Rattle.law_1_machine.specs.Basics.{In}
use Rattle.law_2_chains.proofs.StoredLists.{contains_in, in_contains}
use Rattle.law_3_outputs.specs.Followed.{IsFitRun}
use Rattle.law_3_outputs.proofs.Fitting.{writes_good}
use Rattle.law_3_outputs.proofs.Forth.{Told, told}
use Rattle.law_3_outputs.proofs.Log.{in_log, the_log}
use Rattle.law_3_outputs.proofs.Sets.{in_get, in_left, in_right}
use Rattle.law_3_outputs.proofs.Traces.{WasWritten, in_either, output_of_move}
use Rattle.law_4_disks.specs.Worlds as worlds
use Rattle.law_4_disks.specs.Worlds.{Said}
use Rattle.law_6_one_log.specs.Laws.{HasOneLog, KeepsLog}
use Rattle.law_6_one_log.specs.Outputs.{counts_in}
use Rattle.law_6_one_log.proofs.Following.{follows_it}
use Rattle.law_6_one_log.proofs.Known.{one_log_is}
use Rattle.law_6_one_log.proofs.Traces.{said_in}
use Rattle.law_9_asked.proofs.Fronts.{Less, before_less, more_committed}
use Rattle.law_9_answers.specs.Order.{IsLasting, OutcomesLast}

-- ---- what is kept from one view on is kept from a later one on

carries_later : (v w : ℕ) → v ≤ w → (c : Header) (m : Frame) → CarriesEntry v c m → CarriesEntry w c m
carries_later v w l c (frame.Prepare p) k = λ less. k (omega (arith, l, less))
carries_later v w l c (frame.StartView s) k = λ less. k (omega (arith, l, less))
carries_later v w l c (frame.SyncView s) k = λ less. k (omega (arith, l, less))
carries_later v w l c (frame.Request q) k = tt
carries_later v w l c (frame.Reply r) k = tt
carries_later v w l c (frame.PrepareOk p) k = tt
carries_later v w l c (frame.Commit x) k = tt
carries_later v w l c (frame.StartViewChange s) k = tt
carries_later v w l c (frame.DoViewChange d) k = tt
carries_later v w l c (frame.GetView g) k = tt
carries_later v w l c (frame.GetPrepare g) k = tt
carries_later v w l c (frame.GivePrepare g) k = tt
carries_later v w l c (frame.GetBlock g) k = tt
carries_later v w l c (frame.GiveBlock g) k = tt
carries_later v w l c (frame.GetSync g) k = tt

-- ---- of a run

-- what a run put out is among what the world put out
said_back : (ws gs : List Output) → Said ws gs → (o : Output) → In o gs → In o ws
said_back _ _ worlds.none o i = i
said_back _ _ (worlds.both os ws gs rest) o i = elim (in_either os gs o i) [ inl here ↦ in_left os ws o here | inr later ↦ in_right os ws o (said_back ws gs rest o later) ]
said_back _ _ (worlds.aside a ws gs is rest) o i = inr (said_back ws gs rest o i)

module _ (cluster n : ℕ) (run : List Played) (fit : IsFitRun cluster n run) (never : NoCollision (IsHashed run (root_header cluster))) (o : HasOneLog cluster n run)
    (is_log : o.safe.log ≡ the_log cluster n (follows_it cluster n run fit).setup run (follows_it cluster n run fit).followed) where
  -- the header of what was written is one of the texts that the run hashed
  hashed_there : (c : Header) → WasWritten run c → (bytes : List ℕ) → IsHashed run c bytes → IsHashed run (root_header cluster) bytes
  hashed_there c w _ (read p d bytes i j r) = read p d bytes i j r
  hashed_there c w _ (wrote p e bytes i j r) = wrote p e bytes i j r
  hashed_there c w _ given =
      subst (λ (h : Header). IsHashed run (root_header cluster) (named_bytes h)) w.is
      (wrote w.move (Write w.again w.entry) _ (in_contains w.move run w.of_run) (in_contains _ w.move.moved.script w.of_move) (safe.IsWritten.header w.again w.entry))

  -- an entry of the log that is committed in the run
  module _ (e : Whole) (at : slice_get o.safe.log (e.header.op - 1) ≡ Some e) (view : ℕ) (above : 0 < e.header.op) (committed : IsCommitted cluster n (evidence run) view e.header) where
    there : (w : WasWritten run e.header) × (w.entry ≡ e)
    there =
        let f = follows_it cluster n run fit in
        let t : Told cluster n f.setup run f.followed (root_header cluster) never view e.header = told cluster n f.setup run f.followed (root_header cluster) never view e.header committed in
        let w = in_log cluster n f.setup run f.followed view e.header.op t.header above t.committed in
        let logged : slice_get (the_log cluster n f.setup run f.followed) (e.header.op - 1) ≡ Some e = subst (λ (log : List Whole). slice_get log (e.header.op - 1) ≡ Some e) is_log at in
        let both : Some w.0.entry ≡ Some e = sym w.1 ∙ logged in
        let one : w.0.entry ≡ e = cc in
        let same : t.header ≡ e.header = sym w.0.is ∙ ap (λ (z : Whole). z.header) one in
        subst (λ (c : Header). (x : WasWritten run c) × (x.entry ≡ e)) same (w.0, one)

    pub form : IsHeader e.header
    form = let w = there.0 in let p = in_get run w.move w.of_run in subst (λ (z : Whole). IsHeader z.header) there.1 (writes_good cluster n run fit p.0 w.move p.1 w.again w.entry w.of_move).header

    pub names : NoCollision (IsHashed run e.header)
    names a b p q same = never a b (hashed_there e.header there.0 a p) (hashed_there e.header there.0 b q) same

    keeps_in : (x : Output) → In x (run_outputs run) → KeepsEntry view e.header x
    keeps_in x i =
        let m = output_of_move run x i in
        let p = in_get m.1.moved.outputs x m.3 in
        o.safe.kept view e.header form names above committed m.0 p.0 m.1 x (record { at = m.2; is = p.1 })

    pub keeps_from : (outputs : List Output) → Said outputs (run_outputs run) → (w : ℕ) → view ≤ w → (x : Output) → Contains outputs x → KeepsEntry w e.header x
    keeps_from outputs said w l (output.Send s) c = carries_later view w l e.header s.message (keeps_in (output.Send s) (said_in outputs (run_outputs run) said (output.Send s) (λ z. z) (contains_in (output.Send s) outputs c)))
    keeps_from outputs said w l (output.Choose x) c = let h = keeps_in (output.Choose x) (said_in outputs (run_outputs run) said (output.Choose x) (λ z. z) (contains_in (output.Choose x) outputs c)) in λ less. h (omega (arith, l, less))
    keeps_from outputs said w l (output.Commit x) c = tt
    keeps_from outputs said w l (output.Reply a) c = tt
    keeps_from outputs said w l (output.Wait x) c = tt
    keeps_from outputs said w l (output.Start s) c = tt
    keeps_from outputs said w l (output.Halted replica) c = tt
    keeps_from outputs said w l (output.Migrated replica) c = tt
    keeps_from outputs said w l output.Done c = tt
    keeps_from outputs said w l output.KeptOut c = tt

-- ---- of whichever log is kept

pub outcomes_last : (kinds : ℕ → Kind) (cluster n : ℕ) → AreKinds kinds n → cluster < 2 ^ 64 → 1 ≤ n → n ≤ 6 → (h : Happened Lying) (k : KeepsLog kinds cluster n h) → OutcomesLast k.safe.log h.outputs
outcomes_last kinds cluster n are number some many h k r a c kind =
    let run : List Played = k.matched.run in
    let said : Said h.outputs (run_outputs run) = k.matched.said in
    let fit : IsFitRun cluster n run = record { number = number; some = some; many = many; moves = k.matched.reads; files = k.matched.files; kinds = kinds; are_kinds = are; of_run = k.matched.is } in
    let z = one_log_is cluster n run fit in
    let o : HasOneLog cluster n run = z.0 in
    let m = output_of_move run (output.Reply r) (said_in h.outputs (run_outputs run) said (output.Reply r) (λ x. x) (contains_in (output.Reply r) h.outputs c)) in
    let t = m.0 in
    let p = m.1 in
    let j = in_get p.moved.outputs (output.Reply r) m.3 in
    let so : IsTrueReply cluster n o.safe.log run t j.0 p r = o.safe.backed t j.0 p (output.Reply r) k.names (record { at = m.2; is = j.1 }) in
    let entries = so.replica.applied + lines_by r.replica (take j.0 p.moved.outputs) in
    let of_outcome : IsOutcomeOf o.safe.log entries r a = subst (λ (y : ReplyKind). IsReplyOf o.safe.log entries (applied_then r.replica so.replica (take j.0 p.moved.outputs)) r y) kind so.said in
    let x = so.applied a.op of_outcome.op.0 of_outcome.op.1 in
    let e : Whole = x.entry in
    let above : 0 < e.header.op = subst (λ (i : ℕ). 0 < i) (sym x.number) of_outcome.op.0 in
    let at : slice_get o.safe.log (e.header.op - 1) ≡ Some e = subst (λ (i : ℕ). slice_get o.safe.log (i - 1) ≡ Some e) (sym x.number) x.at in
    let committed : IsCommitted cluster n (evidence run) x.view e.header = more_committed (before run t j.0 p) (evidence run) (before_less run t j.0 p m.2) cluster n x.view e.header x.committed in
    let less : Less (evidence run) (counts_in h.outputs run) = record { outputs = λ s i. said_back h.outputs (run_outputs run) said (output.Send s) i; stored = λ y i. i } in
    let there = k.logged x.view e.header (form cluster n run fit k.names o z.1 e at x.view above committed) (names cluster n run fit k.names o z.1 e at x.view above committed) above (more_committed (evidence run) (counts_in h.outputs run) less cluster n x.view e.header committed) in
    record {
      entry = there.0;
      at = subst (λ (i : ℕ). slice_get k.safe.log (i - 1) ≡ Some there.0) x.number there.1;
      kept = λ y i. subst (λ (d : Header). KeepsEntry r.view d y) (sym there.2) (keeps_from cluster n run fit k.names o z.1 e at x.view above committed h.outputs said r.view x.early y i);
    }

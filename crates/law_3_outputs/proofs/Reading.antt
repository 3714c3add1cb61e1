-- What the commit lines of a step were read as.
use Rattle.std.proofs.Common.{ℕ, ◌≡◌, inl, inr, sym, subst, List, [], ◌∷◌, ◌++◌, Some}
use Rattle.std.specs.Prelude.{All, slice_get}
use Rattle.std.proofs.lemmas.List.Elements.{All-nil, All-cons, All-head, All-tail}
use Rattle.vr_msg.specs.declared.output.Committed.{Committed}
use Rattle.vr_msg.specs.declared.output.Output.{Output}
use Rattle.vr_msg.specs.declared.output.Output.TheVariants as output
use Rattle.vr_super.specs.Copies.{IsGood, SuperValue}
use Rattle.vr_rules.specs.Fit.{IsFit, ReadsWell}
use Rattle.vr_world.specs.Group.{Group, Move, Moved, Moves, Played, fresh_group, mended, opening_script, resumed}
use Rattle.vr_world.specs.Group as group
use Rattle.vr_world.specs.GroupFit.{IsFitGroup, IsFitMove}
use Rattle.vr_world.specs.Lying.{Lying, lying}
use Rattle.vr_rules.specs.Opening.{blank}
use Rattle.vr_rules.specs.Steps.{Effect, outputs}
use Rattle.vr_rules.proofs.FitRules.{names_of}
use Rattle.vr_world.proofs.FitLies.{lies_fit}
use Rattle.vr_rules.proofs.FitSteps.{steps_fit}
use Rattle.vr_rules.proofs.FitWords.{reads_later}
use Rattle.vr_rules.proofs.SendsScripts.{outputs_append}
use Rattle.law_1_machine.specs.Basics.{In}
use Rattle.law_3_outputs.specs.Written.{IsWellRead, StepsReadGood}
use Rattle.law_3_outputs.specs.Followed.{IsFitRun}
use Rattle.law_3_outputs.proofs.Fitting.{arrives, fit_at, good_whole, move_of, opening_fit, opening_of}
use Rattle.law_3_outputs.proofs.Ordering.{come_in_order}
use Rattle.law_3_outputs.proofs.Orders.{IsOther}
use Rattle.law_3_outputs.proofs.Resuming.{quiet_mending, resumed_order}
use Rattle.law_3_outputs.proofs.Traces.{every_in, in_either}

fit_front : (xs ys : List Effect) → All IsFit (xs ++ ys) → All IsFit xs
fit_front [] ys h = All-nil IsFit
fit_front (x ∷ xs) ys h = All-cons IsFit x xs (All-head IsFit x (xs ++ ys) h) (fit_front xs ys (All-tail IsFit x (xs ++ ys) h))

pub reads_good : {F : Type 0} → StepsReadGood F
reads_good s f r e program roots reads sound savable knows came c j =
    let fit = (steps_fit s f r e program roots reads sound savable knows came).each in
    let h = (come_in_order s r f e (names_of s program) sound came).read c j in
    let whole = reads.entry h.first (fit_front h.first h.rest (subst (All IsFit) (sym h.are) fit)) h.slot c.entry h.within h.reads in
    record { form = whole.entry.header; good = good_whole c.entry whole }

-- ---- in a run

fit_back : (xs ys : List Effect) → All IsFit (xs ++ ys) → All IsFit ys
fit_back [] ys h = h
fit_back (x ∷ xs) ys h = fit_back xs ys (All-tail IsFit x (xs ++ ys) h)

-- an opening mends without a line, and reads then what it applies
pub opening_reads : (v : SuperValue) (d : Lying) → IsGood v → ReadsWell lying d → (l : Committed) → In (output.Commit l) (outputs (opening_script v d)) → IsWellRead l.entry
opening_reads v d g k l j =
    let xs = (mended v d).script in
    let ys = (resumed v d).script in
    let fit = opening_fit v d g k in
    elim (in_either (outputs xs) (outputs ys) (output.Commit l) (subst (λ (os : List Output). In (output.Commit l) os) (outputs_append xs ys) j)) [
      | inl a ↦ absurd (every_in IsOther (outputs xs) (output.Commit l) a ((quiet_mending v).every lying (blank v) d).said)
      | inr b ↦
          let o = (resumed_order v d g k).read l b in
          let late = reads_later lying d xs k (fit_front xs ys fit) in
          let whole = late.entry o.first (fit_front o.first o.rest (subst (All IsFit) (sym o.are) (fit_back xs ys fit))) o.slot l.entry o.within o.reads in
          record { form = whole.entry.header; good = good_whole l.entry whole }
    ]

move_reads : (c : ℕ) (g : Group) (move : Move) (moved : Moved) → IsFitGroup c g → IsFitMove move → Moves g move moved → (l : Committed) → In (output.Commit l) moved.outputs → IsWellRead l.entry
move_reads c g _ _ h k (group.steps at arrival e d m r runs i) l j =
    let run = (h.members at m runs.member).running r runs.running in
    reads_good lying d r e lies_fit.program lies_fit.roots k.1 run.0.sound run.0.savable run.0.blocks (arrives c g at arrival e h k.0 i) l j
move_reads c g _ _ h k (group.cuts at arrival e d n m r runs i) l j = absurd j
move_reads c g _ _ h k (group.crashes at m there) l j = absurd j
move_reads c g _ _ h k (group.recovers at v d m o) l j = opening_reads v d (opening_of c g at m v h o.member o.value) k l j
move_reads c g _ _ h k (group.recovers_cut at v d n m o) l j = absurd j
move_reads c g _ _ h k (group.migrates at v m o) l j = absurd j
move_reads c g _ _ h k (group.migrates_cut at v n m o) l j = absurd j

pub runs_read : (cluster n : ℕ) (run : List Played) → IsFitRun cluster n run → (t : ℕ) (p : Played) → slice_get run t ≡ Some p → (l : Committed) → In (output.Commit l) p.moved.outputs → IsWellRead l.entry
runs_read cluster n run x t p is l j =
    let f = fit_at cluster n run x t p is in
    move_reads cluster p.before p.move p.moved f.0.0 f.1 (move_of (fresh_group x.kinds cluster n) run x.of_run t p is) l j

-- What a move puts out: its messages name their sender, its commit lines are of entries that were hashed, and its choose lines are of the
-- machine's choices.
use Rattle.std.proofs.Common.{ℕ, ◌≡◌, ◌∙◌, inl, inr, refl, sym, ap, subst, List, [], ◌∷◌, ◌++◌, Some, None}
use Rattle.std.specs.Prelude.{All, Contains, ◌<◌, slice_get}
use Rattle.std.specs.Option.{option_map_or}
use Rattle.std.proofs.lemmas.List.{append_assoc}
use Rattle.std.proofs.lemmas.List.Elements.{All-contains}
use Rattle.vr_header.specs.declared.header.Header.{Header}
use Rattle.vr_header.specs.Bodies.{operation_bytes}
use Rattle.vr_header.specs.Made.{Whole}
use Rattle.vr_header.specs.Names.{root_header}
use Rattle.vr_msg.specs.declared.output.Chosen.{Chosen}
use Rattle.vr_msg.specs.declared.output.Committed.{Committed}
use Rattle.vr_msg.specs.declared.output.Output.{Output}
use Rattle.vr_msg.specs.declared.output.Output.TheVariants as output
use Rattle.vr_msg.specs.declared.output.Sent.{Sent}
use Rattle.vr_world.specs.Group.{Member, Group, Move, Moved, Moves, Played, mended, opening_script, resumed, stepped}
use Rattle.vr_world.specs.Group as group
use Rattle.vr_world.specs.Files.{IsOfFile}
use Rattle.vr_world.specs.GroupFit.{IsFitGroup, IsFitMove}
use Rattle.vr_rules.specs.Laws.{Answers, IsPresent, IsPresentOutput}
use Rattle.vr_world.specs.Lying.{Lying, lying}
use Rattle.vr_rules.specs.Opening.{blank}
use Rattle.vr_rules.specs.Replica.{Replica}
use Rattle.vr_world.specs.Safe.{IsHashed, actor, disks_of}
use Rattle.vr_world.specs.Safe as safe
use Rattle.vr_rules.specs.Steps.{Effect, Step, Write, after_all, outputs}
use Rattle.vr_world.proofs.FitLies.{lies_fit}
use Rattle.vr_world.proofs.FitGroups.{good_value, start_is, step_is}
use Rattle.vr_rules.proofs.SendsScripts.{outputs_append}
use Rattle.law_1_machine.specs.Basics.{In}
use Rattle.law_1_machine.specs.Members.{Choice}
use Rattle.law_2_chains.specs.Chains.{Setup}
use Rattle.law_2_chains.proofs.Scripts.{after_append}
use Rattle.law_2_chains.specs.Bridge.{ChoosesWell}
use Rattle.law_3_outputs.specs.Followed.{IsChoiceLine, IsFrom}
use Rattle.law_3_outputs.proofs.Carrying.{choice_line, from_is}
use Rattle.law_3_outputs.proofs.Fitting.{arrives, opening_of}
use Rattle.law_3_outputs.proofs.Ordering.{come_in_order}
use Rattle.law_3_outputs.proofs.Orders.{IsOther}
use Rattle.law_3_outputs.proofs.Picking.{chosen_by}
use Rattle.law_3_outputs.proofs.Placing.{ArePlaced, opening_present, step_present}
use Rattle.law_3_outputs.proofs.Resuming.{quiet_mending, resumed_order}
use Rattle.law_2_chains.proofs.StoredLists.{in_contains}
use Rattle.law_3_outputs.proofs.Sets.{in_left}
use Rattle.law_3_outputs.proofs.SlotCalls.{IsTaken, member_taken, read_or_written}
use Rattle.law_3_outputs.proofs.Traces.{every_in, in_either}
use Rattle.law_6_one_log.proofs.Lines.{taken_front}
use Rattle.law_6_one_log.proofs.Silence.{chooses_nothing}

-- ---- messages

sent_from : (MayAsk : ℕ → ℕ → Type 0) (old : Replica) (x : Step) (s : Sent) → IsPresent MayAsk old x → In (output.Send s) (outputs x.script) → IsFrom s.from s.message
sent_from MayAsk old x s present i =
    let h = All-contains (IsPresentOutput MayAsk old x.replica) (outputs x.script) (output.Send s) present.each (in_contains (output.Send s) (outputs x.script) i) in
    from_is (MayAsk s.to) old x.replica s.from s.message h.from h.message

pub from_so : (c : ℕ) (g : Group) (move : Move) (moved : Moved) → IsFitGroup c g → ArePlaced g → Moves g move moved → (s : Sent) → In (output.Send s) moved.outputs → IsFrom s.from s.message
from_so c g _ _ fit placed (group.steps at a e d m r runs i) s j = sent_from (Answers e) r (stepped e r d) s (step_present r e d (placed at m r runs)) j
from_so c g _ _ fit placed (group.cuts at a e d k m r runs i) s j = absurd j
from_so c g _ _ fit placed (group.crashes at m there) s j = absurd j
from_so c g _ _ fit placed (group.recovers at v d m o) s j =
    sent_from (λ to view. ⊥) (blank v) (record { replica = (resumed v d).replica; script = opening_script v d }) s (opening_present v d (opening_of c g at m v fit o.member o.value)) j
from_so c g _ _ fit placed (group.recovers_cut at v d k m o) s j = absurd j
from_so c g _ _ fit placed (group.migrates at v m o) s j = absurd j
from_so c g _ _ fit placed (group.migrates_cut at v k m o) s j = absurd j

-- ---- commit lines

one_disk : (d : Lying) → Contains (d ∷ []) d
one_disk d = in_contains d (d ∷ []) (inl refl)

module _ (run : List Played) (c : ℕ) (p : Played) (there : Contains run p) where
  -- an entry that reads after the first effects of a move was read by it, or written in it
  read_hashed : (d : Lying) (first rest : List Effect) (slot : ℕ) (e : Whole) → Contains (disks_of p.move) d → first ++ rest ≡ p.moved.script → All (IsTaken d.version) first → slot < 64 → lying.entry (after_all lying d first) slot ≡ Some e
      → IsHashed run (root_header c) (operation_bytes e.operation)
  read_hashed d first rest slot e face are taken within reads =
      elim (read_or_written first d taken slot e within reads) [
        | inl old ↦ safe.read p d (operation_bytes e.operation) there face (safe.IsRead.operation slot e old)
        | inr new ↦
            let among : In (Write new.0 e) p.moved.script = subst (In (Write new.0 e)) are (in_left first rest (Write new.0 e) new.1) in
            safe.wrote p (Write new.0 e) (operation_bytes e.operation) there (in_contains (Write new.0 e) p.moved.script among) (safe.IsWritten.operation new.0 e)
      ]

pub line_hashed : (run : List Played) (c : ℕ) (g : Group) (move : Move) (moved : Moved) → Contains run (record { before = g; move = move; moved = moved }) → IsFitGroup c g → IsFitMove move → IsOfFile g move → Moves g move moved
    → (l : Committed) → In (output.Commit l) moved.outputs → IsHashed run (root_header c) (operation_bytes l.entry.operation)
line_hashed run c g _ _ there fit h file (group.steps at a e d m r runs i) l j =
    let is = fit.members at m runs.member in
    let f = is.running r runs.running in
    let x = stepped e r d in
    let came = arrives c g at a e fit h.0 i in
    let taken = member_taken c g.n at m.last d x.script is.last.0 (file m runs.member) (step_is c g.n at m.last.fields.version r e d f.0 f.1 came h.1).known in
    let o = (come_in_order lying r d e lies_fit.names f.0.sound came).read l j in
    read_hashed run c (record { before = g; move = group.Steps at a e d; moved = group.finished g at m x }) there d o.first o.rest o.slot l.entry (one_disk d) o.are (taken_front d.version o.first o.rest (subst (All (IsTaken d.version)) (sym o.are) taken)) o.within o.reads
line_hashed run c g _ _ there fit h file (group.cuts at a e d k m r runs i) l j = absurd j
line_hashed run c g _ _ there fit h file (group.crashes at m o) l j = absurd j
line_hashed run c g _ _ there fit h file (group.recovers at v d m o) l j =
    let xs = (mended v d).script in
    let ys = (resumed v d).script in
    let is = fit.members at m o.member in
    let value = good_value c g.n at m v is o.value in
    let opens = opening_of c g at m v fit o.member o.value in
    let taken = member_taken c g.n at v d (opening_script v d) opens file (start_is c g.n at v.fields.version v d value h).known in
    elim (in_either (outputs xs) (outputs ys) (output.Commit l) (subst (λ (os : List Output). In (output.Commit l) os) (outputs_append xs ys) j)) [
      | inl a ↦ absurd (every_in IsOther (outputs xs) (output.Commit l) a ((quiet_mending v).every lying (blank v) d).said)
      | inr b ↦
          let q = (resumed_order v d opens h).read l b in
          let parts : (xs ++ q.first) ++ q.rest ≡ opening_script v d = append_assoc xs q.first q.rest ∙ ap (λ (zs : List Effect). xs ++ zs) q.are in
          read_hashed run c (record { before = g; move = group.Recovers at v d; moved = group.started g at m v d }) there d (xs ++ q.first) q.rest q.slot l.entry (one_disk d) parts
          (taken_front d.version (xs ++ q.first) q.rest (subst (All (IsTaken d.version)) (sym parts) taken)) q.within (ap (λ (z : Lying). lying.entry z q.slot) (after_append lying d xs q.first) ∙ q.reads)
    ]
line_hashed run c g _ _ there fit h file (group.recovers_cut at v d k m o) l j = absurd j
line_hashed run c g _ _ there fit h file (group.migrates at v m o) l j = absurd j
line_hashed run c g _ _ there fit h file (group.migrates_cut at v k m o) l j = absurd j

-- ---- choose lines

-- who runs at a place acts there
acts : (g : Group) (move : Move) (moved : Moved) (at k : ℕ) (m : Member) (r : Replica) → group.Runs g at m r → k ≡ at → actor (record { before = g; move = move; moved = moved }) k ≡ Some r
acts g move moved at k m r runs same =
    ap (λ (j : ℕ). option_map_or (λ (z : Member). z.replica) (slice_get g.members j) None) same ∙ (ap (λ o. option_map_or (λ (z : Member). z.replica) o None) runs.member ∙ runs.running)

pub choice_so : (u : Setup) (chosen : List (Choice Header)) (g : Group) (move : Move) (moved : Moved) → u.quorums.n ≡ g.n → IsFitGroup u.cluster g → IsFitMove move → Moves g move moved → ChoosesWell g move chosen moved.outputs
    → (l : Chosen) → In (output.Choose l) moved.outputs → IsChoiceLine u chosen (record { before = g; move = move; moved = moved }) l
choice_so u chosen g _ _ size fit h (group.steps at a e d m r runs i) well l j =
    let f = (fit.members at m runs.member).running r runs.running in
    let x = stepped e r d in
    let among = in_contains (output.Choose l) (outputs x.script) j in
    let by = chosen_by lying r d f.0.sound e l among in
    choice_line u chosen (record { before = g; move = group.Steps at a e d; moved = group.finished g at m x }) e r l (acts g (group.Steps at a e d) (group.finished g at m x) at l.replica m r runs (by.place ∙ f.1.index)) refl (f.1.n ∙ sym size) f.1.cluster
    (arrives u.cluster g at a e fit h.0 i) by (well m r runs l among)
choice_so u chosen g _ _ size fit h (group.cuts at a e d k m r runs i) well l j = absurd j
choice_so u chosen g _ _ size fit h (group.crashes at m there) well l j = absurd j
choice_so u chosen g _ _ size fit h (group.recovers at v d m o) well l j = absurd (chooses_nothing v d l (in_contains (output.Choose l) (outputs (opening_script v d)) j))
choice_so u chosen g _ _ size fit h (group.recovers_cut at v d k m o) well l j = absurd j
choice_so u chosen g _ _ size fit h (group.migrates at v m o) well l j = absurd j
choice_so u chosen g _ _ size fit h (group.migrates_cut at v k m o) well l j = absurd j

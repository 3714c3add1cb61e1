-- The commit lines of a step come in the order of the ops that it applies, and each is of an entry that reads at a slot.
use Rattle.std.specs.Prelude.{ℕ, ◌+◌, ◌<◌, ◌≡◌, ◌⊎◌, ⊤, List, [], ◌∷◌, ◌++◌, Some}
use Rattle.vr_header.specs.Made.{Whole}
use Rattle.vr_msg.specs.declared.event.Event.{Event}
use Rattle.vr_msg.specs.declared.output.Committed.{Committed}
use Rattle.vr_msg.specs.declared.output.Output.{Output}
use Rattle.vr_msg.specs.declared.output.Output.TheVariants as output
use Rattle.vr_rules.specs.Laws.{HasNames, IsEvent}
use Rattle.vr_rules.specs.Replica.{Replica}
use Rattle.vr_rules.specs.Rules.{react}
use Rattle.vr_rules.specs.Sound.{IsSound}
use Rattle.vr_rules.specs.Steps.{Effect, Setting, Step, after_all, outputs}
use Rattle.law_1_machine.specs.Basics.{In}
use Rattle.law_3_outputs.specs.Answering.{Jumps, one_if, lines}
use Rattle.vr_world.specs.Commitment.{is_line_of}

-- after m applied entries a commit line of replica i is of the next op
abbrev pub IsInOrder : ℕ → ℕ → Output → Type 0
IsInOrder i m (output.Commit c) = c.entry.header.op ≡ m + 1
IsInOrder i m _ = ⊤

unfoldable pub AreInOrder : ℕ → ℕ → List Output → Type 0
AreInOrder i m [] = ⊤
AreInOrder i m (o ∷ os) = IsInOrder i m o × AreInOrder i (m + one_if (is_line_of i o)) os

-- the entry reads at a slot, after the first of these effects
pub record IsReadAmong {F : Type 0} (s : Setting F) (f : F) (es : List Effect) (e : Whole) : Type 0 where
  pub first : List Effect
  pub rest : List Effect
  pub are : first ++ rest ≡ es
  pub slot : ℕ
  pub within : slot < 64
  pub reads : s.entry (after_all s f first) slot ≡ Some e

-- from a replica and its disk
pub record ComesInOrder {F : Type 0} (s : Setting F) (r : Replica) (f : F) (x : Step) : Type 0 where
  pub index : x.replica.index ≡ r.index
  pub applied : x.replica.applied ≡ r.applied + lines r.index (outputs x.script)
  pub ordered : AreInOrder r.index r.applied (outputs x.script)
  pub read : (c : Committed) → In (output.Commit c) (outputs x.script) → IsReadAmong s f x.script c.entry

-- a step: so it is, or it takes over a checkpoint of another replica
pub record IsOrderly {F : Type 0} (s : Setting F) (r : Replica) (f : F) (x : Step) : Type 0 where
  pub index : x.replica.index ≡ r.index
  pub applied : (x.replica.applied ≡ r.applied + lines r.index (outputs x.script)) ⊎ Jumps r x
  pub ordered : AreInOrder r.index r.applied (outputs x.script)
  pub read : (c : Committed) → In (output.Commit c) (outputs x.script) → IsReadAmong s f x.script c.entry

abbrev pub StepsComeInOrder : Type 0 → Type 0
StepsComeInOrder F = (s : Setting F) (r : Replica) (f : F) (e : Event) → HasNames s → IsSound r → IsEvent e → IsOrderly s r f (react e s r f)

-- A choose line of a step is of a choice of the machine.
use Rattle.std.specs.Prelude.{ℕ, ◌≡◌, List, Contains, Option, None, Some}
use Rattle.vr_header.specs.declared.header.Header.{Header}
use Rattle.vr_msg.specs.declared.event.Event.{Event}
use Rattle.vr_msg.specs.declared.output.Chosen.{Chosen}
use Rattle.vr_msg.specs.declared.output.Output.TheVariants as output
use Rattle.vr_msg.specs.declared.statement.Statement.{Statement}
use Rattle.vr_msg.specs.Choice.{named}
use Rattle.vr_rules.specs.Replica.{Replica}
use Rattle.vr_rules.specs.Steps.{Step, outputs}
use Rattle.vr_world.specs.Safe.{all_heard, heard_from}
use Rattle.law_1_machine.specs.Basics.{In}
use Rattle.law_1_machine.specs.Group.{Group}
use Rattle.law_1_machine.specs.Members.{Choice}
use Rattle.law_1_machine.specs.Members as machine
use Rattle.law_2_chains.specs.Local.{Local}
use Rattle.law_2_chains.specs.Chains.{Setup, statement_told}
use Rattle.law_2_chains.specs.Begins.{IsChain}

-- the machine's statement of one that was heard
abbrev pub told_if : Option Statement → Option (machine.Statement Header)
told_if None = None
told_if (Some t) = Some (statement_told t)

-- one of these choices is the line's, from what the replica had heard before the step and by its event
pub record IsMadeFrom (chosen : List (Choice Header)) (e : Event) (r : Replica) (l : Chosen) : Type 0 where
  pub made : Choice Header
  pub is_made : In made chosen
  pub of_view : made.view ≡ l.view
  pub of_log_view : made.log_view ≡ l.log_view
  pub of_head : made.head ≡ l.head
  pub of_heard : (j : ℕ) → made.heard j ≡ told_if (heard_from l.view e r j)
  pub of_log : (k : ℕ) → made.log k ≡ named (all_heard l.view e r) k

-- a step of r is a chain, and each of its choose lines is of a choice that was made by its end
pub record ChainChooses (u : Setup) (start : Group Header) (i : ℕ) (l : Local) (e : Event) (r : Replica) (x : Step) : Type 0 where
  pub chain : IsChain u start i l x
  pub choices : (c : Chosen) → Contains (outputs x.script) (output.Choose c) → IsMadeFrom chain.finishes.after.chosen e r c

-- What is written and read in a run of a group has the values of the program.
use Rattle.std.specs.Prelude.{ℕ, ◌≡◌, Bool, List, slice_get, Some}
use Rattle.vr_header.specs.Made.{IsEntryHeader, Whole}
use Rattle.vr_msg.specs.declared.event.Event.{Event}
use Rattle.vr_msg.specs.declared.output.Committed.{Committed}
use Rattle.vr_msg.specs.declared.output.Output.TheVariants as output
use Rattle.vr_rules.specs.Fit.{IsProgram, KnowsBlocks, ReadsWell}
use Rattle.vr_world.specs.Group.{Played}
use Rattle.vr_rules.specs.Laws.{IsEvent, SavesRoots}
use Rattle.vr_rules.specs.Replica.{Replica}
use Rattle.vr_rules.specs.Rules.{react}
use Rattle.vr_rules.specs.Sound.{IsSound, IsSavable}
use Rattle.vr_rules.specs.Steps.{Effect, Write, Setting, outputs}
use Rattle.law_1_machine.specs.Basics.{In}
use Rattle.law_3_outputs.specs.Followed.{IsFitRun, IsGoodEntry}

-- each entry that is written by a script is a good one
abbrev pub WritesGood : List Effect → Type 0
WritesGood es = (again : Bool) (e : Whole) → In (Write again e) es → IsGoodEntry e

-- each of its moves writes good entries, also one that is cut
abbrev pub RunsWriteGood : Type 0
RunsWriteGood = (cluster n : ℕ) (run : List Played) → IsFitRun cluster n run → (t : ℕ) (p : Played) → slice_get run t ≡ Some p → WritesGood p.moved.script

-- the entry of a commit line, as it was read
pub record IsWellRead (e : Whole) : Type 0 where
  pub form : IsEntryHeader e.header
  pub good : IsGoodEntry e

-- on a disk that reads well, each commit line of a step is of a good entry
abbrev pub StepsReadGood : Type 0 → Type 0
StepsReadGood F =
    (s : Setting F) (f : F) (r : Replica) (e : Event) → IsProgram s → SavesRoots s → ReadsWell s f → IsSound r → IsSavable r → KnowsBlocks r → IsEvent e
    → (c : Committed) → In (output.Commit c) (outputs (react e s r f).script) → IsWellRead c.entry

-- so is each in a run, those of openings too
abbrev pub RunsReadGood : Type 0
RunsReadGood = (cluster n : ℕ) (run : List Played) → IsFitRun cluster n run → (t : ℕ) (p : Played) → slice_get run t ≡ Some p → (c : Committed) → In (output.Commit c) p.moved.outputs → IsWellRead c.entry

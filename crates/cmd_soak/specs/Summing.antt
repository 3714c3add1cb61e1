-- What a schedule comes to, in few numbers.
use Rattle.std.specs.Prelude.{ℕ, Bool, true, false, List, ◌++◌, codes, count_by, length}
use Rattle.std.specs.Fmt.{decimal}
use Rattle.hex.specs.Hex.{encode_lower}
use Rattle.vr_base.specs.Bytes.{name_of}
use Rattle.vr_group.specs.Outputs.{numbered, text_of}
use Rattle.vr_group.specs.Views.{top_view}
use Rattle.vr_msg.specs.declared.output.Output.{Output}
use Rattle.vr_msg.specs.declared.output.Output.TheVariants as output
use Rattle.vr_world.specs.Lying.{Lying}
use Rattle.vr_world.specs.World.{Happened}
use Rattle.cmd_soak.specs.declared.summary.Faults.{Faults}
use Rattle.cmd_soak.specs.declared.summary.Summary.{Summary}
use Rattle.cmd_soak.specs.Made.{come_to, lines_from, size_of}

abbrev pub is_commit : Output → Bool
is_commit (output.Commit c) = true
is_commit _ = false

abbrev pub is_done : Output → Bool
is_done output.Done = true
is_done _ = false

abbrev pub is_kept_out : Output → Bool
is_kept_out output.KeptOut = true
is_kept_out _ = false

-- of so many lines: its messages, its lines of operations that are applied, the greatest view of its replicas, its faults, and the name of
-- the whole text of its outputs
unfoldable pub summary_of : ℕ → Happened Lying → Summary
summary_of count h = record {
  events = count;
  messages = length h.world.sent;
  commits = count_by is_commit h.outputs;
  view = top_view h.world;
  faults = record { done = count_by is_done h.outputs; kept_out = count_by is_kept_out h.outputs };
  sum = record { 0 = name_of (text_of (numbered 0 h.outputs)) };
}

-- ---- its text

abbrev pub faults_text : Faults → List ℕ
faults_text f = codes "done " ++ decimal f.done ++ codes "\nkept out " ++ decimal f.kept_out ++ codes "\n"

abbrev pub counts_text : Summary → List ℕ
counts_text s =
    codes "events " ++ decimal s.events ++ codes "\nmessages " ++ decimal s.messages ++ codes "\ncommits " ++ decimal s.commits
    ++ codes "\nview " ++ decimal s.view ++ codes "\n"

unfoldable pub summary_text : Summary → List ℕ
summary_text s = counts_text s ++ faults_text s.faults ++ codes "sum " ++ encode_lower s.sum.0 ++ codes "\n"

-- what a seed and a count come to
abbrev pub soaked : ℕ → ℕ → Happened Lying
soaked seed count = come_to (size_of seed) (lines_from seed count)

abbrev pub soak_text : ℕ → ℕ → List ℕ
soak_text seed count = summary_text (summary_of count (soaked seed count))

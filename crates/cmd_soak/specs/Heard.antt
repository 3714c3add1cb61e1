-- What was heard of outputs.
use Rattle.std.specs.Prelude.{ℕ, ◌+◌, ◌++◌, ◌≡◌, Bool, if◌then◌else◌, List, count_by}
use Rattle.sha2.specs.Hashers.{Holds256}
use Rattle.vr_draws.specs.Asking.{next_requests}
use Rattle.vr_group.specs.Outputs.{Numbered, numbered, plain, text_of}
use Rattle.vr_msg.specs.declared.output.Output.{Output}
use Rattle.cmd_soak.specs.declared.heard.Heard.{Heard}
use Rattle.cmd_soak.specs.Summing.{is_commit, is_done, is_kept_out}

-- what is counted of outputs, without their text
pub record Counts (h : Heard) (outputs : List Output) : Type 0 where
  pub requests : h.requests ≡ next_requests outputs
  pub commits : h.commits ≡ count_by is_commit outputs
  pub done : h.faults.done ≡ count_by is_done outputs
  pub kept_out : h.faults.kept_out ≡ count_by is_kept_out outputs

pub record HasHeard (h : Heard) (outputs : List Numbered) : Type 0 where
  pub counts : Counts h (plain outputs)
  pub text : Holds256 h.hasher (text_of outputs)

abbrev pub one_if : Bool → ℕ
one_if test = if test then 1 else 0

-- one output was counted
pub record HasCounted (old new : Heard) (o : Output) : Type 0 where
  pub commits : new.commits ≡ old.commits + one_if (is_commit o)
  pub done : new.faults.done ≡ old.faults.done + one_if (is_done o)
  pub kept_out : new.faults.kept_out ≡ old.faults.kept_out + one_if (is_kept_out o)

-- these were counted, whatever was counted before
abbrev pub CountsOn : Heard → Heard → List Output → Type 0
CountsOn old new outputs = (before : List Output) → Counts old before → Counts new (before ++ outputs)

-- These were heard, whatever was heard before: outputs, and a text that is theirs by whichever numbers.
abbrev pub Hears : Heard → Heard → List Output → List ℕ → Type 0
Hears old new outputs text = (m : ℕ) → text ≡ text_of (numbered m outputs) → (before : List Numbered) → HasHeard old before → HasHeard new (before ++ numbered m outputs)

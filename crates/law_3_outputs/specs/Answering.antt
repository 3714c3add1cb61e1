-- What the outputs of a step say of a log: the entries that it applies are the log's, in order, and each reply is the plain sessions'
-- and machine's over those applied by then.
use Rattle.std.specs.Prelude.{ℕ, ◌+◌, ◌-◌, ◌≡◌, ◌≢◌, ⊤, Bool, true, false, List, [], ◌∷◌, take, slice_get, Some, if◌then◌else◌}
use Rattle.vr_header.specs.Made.{Whole}
use Rattle.vr_state.specs.Folds.{state_after}
use Rattle.vr_msg.specs.declared.output.Output.{Output}
use Rattle.vr_msg.specs.declared.output.Output.TheVariants as output
use Rattle.vr_rules.specs.Replica.{Replica, is_frozen}
use Rattle.vr_ckpt.specs.declared.name.Name.{Name}
use Rattle.vr_msg.specs.declared.event.Event.{Event}
use Rattle.vr_msg.specs.declared.event.Event.TheVariants as event
use Rattle.vr_msg.specs.declared.frame.Frame.TheVariants as frame
use Rattle.vr_msg.specs.declared.frame.GiveBlock.{GiveBlock}
use Rattle.vr_rules.specs.Deciding.{is_from, is_wanted}
use Rattle.vr_rules.specs.Rules.{put_block}
use Rattle.std.specs.List.{find}
use Rattle.vr_rules.specs.Steps.{Step, Setting, outputs}
use Rattle.vr_world.specs.Commitment.{IsReplyOf, is_line_of}
use Rattle.law_2_chains.specs.Chains.{Every}

abbrev pub one_if : Bool → ℕ
one_if b = if b then 1 else 0

-- the numbers of the log's entries
abbrev pub IsNumbered : List Whole → Type 0
IsNumbered log = (k : ℕ) (e : Whole) → slice_get log k ≡ Some e → e.header.op ≡ k + 1

-- where no block is missing the state is that of the entries that are applied
abbrev pub HasState : List Whole → Replica → Type 0
HasState log r = r.missing ≡ [] → r.state ≡ state_after (take r.applied log)

-- so many entries are applied by these outputs of a replica
unfoldable pub lines : ℕ → List Output → ℕ
lines i [] = 0
lines i (o ∷ os) = one_if (is_line_of i o) + lines i os

-- a commit line after m applied entries is of the log's next one
abbrev pub IsLined : List Whole → ℕ → Output → Type 0
IsLined log m (output.Commit c) = slice_get log m ≡ Some c.entry
IsLined log m _ = ⊤

unfoldable pub Lined : List Whole → ℕ → ℕ → List Output → Type 0
Lined log i m [] = ⊤
Lined log i m (o ∷ os) = IsLined log m o × Lined log i (m + one_if (is_line_of i o)) os

-- a reply after m applied entries; where the last output was the line of the m-th, it answers after those before it
abbrev pub IsTold : List Whole → ℕ → Bool → Output → Type 0
IsTold log m b (output.Reply a) = IsReplyOf log m (m - one_if b) a a.kind
IsTold log m b _ = ⊤

unfoldable pub Told : List Whole → ℕ → ℕ → Bool → List Output → Type 0
Told log i m b [] = ⊤
Told log i m b (o ∷ os) = IsTold log m b o × Told log i (m + one_if (is_line_of i o)) (is_line_of i o) os

-- what a step leaves; said of outputs that come after one that is a line, or not
pub record Leaves (log : List Whole) (r : Replica) (b : Bool) (x : Step) : Type 0 where
  pub told : Told log r.index r.applied b (outputs x.script)
  pub index : x.replica.index ≡ r.index
  pub applied : x.replica.applied ≡ r.applied + lines r.index (outputs x.script)
  pub state : HasState log x.replica

-- outputs that aren't commit lines or replies
abbrev pub IsMute : Output → Type 0
IsMute (output.Commit c) = ⊥
IsMute (output.Reply a) = ⊥
IsMute _ = ⊤

-- a step that takes over a checkpoint of another replica: it says no commit line and no reply, and has no state yet
pub record Jumps (r : Replica) (x : Step) : Type 0 where
  pub index : x.replica.index ≡ r.index
  pub mute : Every IsMute (outputs x.script)
  pub missing : x.replica.missing ≢ []

-- What is left where an event brings a missing block of another replica of the group, and it is put in its place: its last one has the
-- checkpoint loaded anew.
abbrev pub PutsWell : {F : Type 0} → List Whole → Setting F → Replica → F → Event → Type 0
PutsWell log s r f e =
    (g : GiveBlock) (name : Name) → e ≡ event.Deliver (frame.GiveBlock g) → is_frozen r ≡ false → is_from g.version g.cluster g.replica r ≡ true → find (is_wanted s.is_block g) r.missing ≡ Some name
    → HasState log (put_block name g.block s r f).replica

-- While something is known to be missing, each ask sends for it, where there is another replica.
use Rattle.std.specs.Prelude.{ℕ, ◌<◌, ◌≡◌, ◌≢◌, ◌⊎◌, ◌||◌, Bool, Contains, true, false, List, [], ◌++◌, Some, nat_lt, if◌then◌else◌}
use Rattle.vr_ckpt.specs.declared.name.Name.{Name}
use Rattle.vr_header.specs.declared.header.Header.{Header}
use Rattle.vr_msg.specs.declared.event.Event.TheVariants.{Tick}
use Rattle.vr_msg.specs.declared.frame.Frame.{Frame}
use Rattle.vr_msg.specs.declared.output.Output.{Output}
use Rattle.vr_rules.specs.Outputs.{get_block, get_prepare, send_to}
use Rattle.vr_rules.specs.Replica.{Replica, is_absent, is_alone, is_frozen, is_started, leads, part_at}
use Rattle.vr_rules.specs.Rules.{react}
use Rattle.vr_rules.specs.Sound.{IsSound}
use Rattle.vr_rules.specs.Steps.{Setting, Step, outputs}
use Rattle.vr_rules.specs.Words.{ask, least_absent, peer}

-- an entry above the checkpoint is known, and lost or wanted
pub record LacksEntry (r : Replica) : Type 0 where
  pub op : ℕ
  pub above : r.checkpoint < op
  pub absent : is_absent (part_at r op) ≡ true

-- a block is missing, or such an entry is, or a block has gone bad
abbrev pub IsShort : Replica → Type 0
IsShort r = (r.missing ≢ []) ⊎ (LacksEntry r ⊎ (r.worn ≢ []))

-- a message that asks for one of these blocks
pub record AsksBlock (r : Replica) (names : List Name) (message : Frame) : Type 0 where
  pub name : Name
  pub among : Contains names name
  pub is : message ≡ get_block name r

-- or for the least of the absent entries
pub record AsksEntry {F : Type 0} (s : Setting F) (r : Replica) (message : Frame) : Type 0 where
  pub header : Header
  pub least : least_absent r ≡ Some header
  pub is : message ≡ get_prepare s.hash header r

-- it is put out, and nothing else
pub record Asks {F : Type 0} (s : Setting F) (r : Replica) (f : F) : Type 0 where
  pub message : Frame
  pub sent : outputs (ask s r f).script ≡ send_to (peer r) message r
  pub what : AsksBlock r r.missing message ⊎ (AsksEntry s r message ⊎ AsksBlock r r.worn message)

-- a replica that is alone in its group has nobody to ask
abbrev pub ShortReplicasAsk : Type 0 → Type 0
ShortReplicasAsk F = (s : Setting F) (r : Replica) (f : F) → IsSound r → is_alone r ≡ false → IsShort r → Asks s r f

-- ---- ticks

-- its next tick gives up no view: it leads, or the primary, or a change of view, was heard of not long ago
abbrev pub stays_on : Replica → Bool
stays_on r = leads r || nat_lt r.idle (if is_started r then 4 else 9)

-- a message that asks for one of these is the last that a step puts out
pub record AsksLast {F : Type 0} (s : Setting F) (x : Step) : Type 0 where
  pub before : List Output
  pub message : Frame
  pub to : ℕ
  pub sent : outputs x.script ≡ before ++ send_to to message x.replica
  pub what : AsksBlock x.replica x.replica.missing message ⊎ (AsksEntry s x.replica message ⊎ AsksBlock x.replica x.replica.worn message)

-- such a tick of one that isn't alone, after which something is known to be missing, has asked for it
abbrev pub TicksAsk : Type 0 → Type 0
TicksAsk F =
    (s : Setting F) (r : Replica) (f : F) → IsSound r → is_frozen r ≡ false → stays_on r ≡ true
    → let x = react Tick s r f in
    is_alone x.replica ≡ false → IsShort x.replica → AsksLast s x

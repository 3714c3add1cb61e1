-- How much one event has a replica send to the others of its group, at most. Nothing is amplified: what a member sends for one message
-- depends on the message's kind and on how many others there are.
use Rattle.std.specs.Prelude.{ℕ, ◌+◌, ◌-◌, ◌*◌, ◌≤◌, ◌≡◌, ⊤, IfSome, OnErr, max, Bool, true, false, List, [], ◌∷◌, length, Option, Result, if◌then◌else◌}
use Rattle.vr_base.specs.Versions.{value_limit}
use Rattle.vr_disk.specs.DiskState.{Disk}
use Rattle.vr_disk.specs.declared.fault.Halt.{Halt}
use Rattle.vr_header.specs.declared.command.Command.{Command}
use Rattle.vr_header.specs.declared.command.Command.TheVariants as command
use Rattle.vr_msg.specs.declared.event.Event.{Event}
use Rattle.vr_msg.specs.declared.event.Event.TheVariants as event
use Rattle.vr_msg.specs.declared.frame.Commit.{Commit}
use Rattle.vr_msg.specs.declared.frame.DoViewChange.{DoViewChange}
use Rattle.vr_msg.specs.declared.frame.Frame.{Frame}
use Rattle.vr_msg.specs.declared.frame.Frame.TheVariants as frame
use Rattle.vr_msg.specs.declared.frame.GetBlock.{GetBlock}
use Rattle.vr_msg.specs.declared.frame.GetPrepare.{GetPrepare}
use Rattle.vr_msg.specs.declared.frame.GetSync.{GetSync}
use Rattle.vr_msg.specs.declared.frame.GetView.{GetView}
use Rattle.vr_msg.specs.declared.frame.GiveBlock.{GiveBlock}
use Rattle.vr_msg.specs.declared.frame.GivePrepare.{GivePrepare}
use Rattle.vr_msg.specs.declared.frame.Prepare.{Prepare}
use Rattle.vr_msg.specs.declared.frame.PrepareOk.{PrepareOk}
use Rattle.vr_msg.specs.declared.frame.StartView.{StartView}
use Rattle.vr_msg.specs.declared.frame.StartViewChange.{StartViewChange}
use Rattle.vr_msg.specs.declared.frame.SyncView.{SyncView}
use Rattle.vr_msg.specs.declared.output.Output.{Output}
use Rattle.vr_msg.specs.declared.output.Sent.{Sent}
use Rattle.vr_msg.specs.declared.request.RequestFields.{RequestFields}
use Rattle.vr_msg.specs.Forms.{IsFrame}
use Rattle.vr_msg.specs.Spelling.{command_for, spelling, version_of}
use Rattle.vr_rules.specs.Does.{Does}
use Rattle.vr_rules.specs.Fit.{IsProgram, KnowsBlocks, ReadsWell}
use Rattle.vr_rules.specs.Laws.{IsEvent, SavesRoots}
use Rattle.vr_rules.specs.Outputs.{messages}
use Rattle.vr_rules.specs.Replica.{Replica, is_started, version}
use Rattle.vr_rules.specs.Rules.{react}
use Rattle.vr_rules.specs.Sound.{IsSavable, IsSound}
use Rattle.vr_rules.specs.Steps.{Setting, outputs}

-- what messages weigh together, where each weighs what its version and its kind say
unfoldable pub weight : (ℕ → Command → ℕ) → List Sent → ℕ
weight w [] = 0
weight w (s ∷ ss) = w (version_of s.message) (command_for s.message) + weight w ss

-- ---- the table: w says what a message of each kind weighs, and others how many other replicas the group has

-- a log that a new primary begins: to each other its headers, and again each entry that isn't committed, of which the window has at most 64
abbrev pub begun : (Command → ℕ) → ℕ → ℕ
begun w others = others * w command.StartView + 64 * (others * w command.Prepare)

-- enough have entered the view: its primary may begin, and another one states its log to it
abbrev pub spoken : (Command → ℕ) → ℕ → ℕ
spoken w others = max (begun w others) (w command.DoViewChange)

-- one peer is asked for one thing
abbrev pub asked : (Command → ℕ) → ℕ
asked w = max (w command.GetBlock) (w command.GetPrepare)

-- for a message: a request that is made an entry goes to all others, and each ask has one answer
abbrev pub for_message : (Command → ℕ) → ℕ → Frame → ℕ
for_message w others (frame.Request q) = others * w command.Prepare
for_message w others (frame.Reply a) = 0
for_message w others (frame.Prepare p) = max (w command.PrepareOk) (w command.GetView)
for_message w others (frame.PrepareOk a) = 0
for_message w others (frame.Commit c) = w command.GetView
for_message w others (frame.StartViewChange c) = others * w command.StartViewChange + spoken w others
for_message w others (frame.DoViewChange d) = others * w command.StartViewChange + begun w others
for_message w others (frame.StartView v) = max (64 * w command.PrepareOk) (w command.GetSync)
for_message w others (frame.GetView g) = w command.StartView
for_message w others (frame.GetPrepare g) = w command.GivePrepare
for_message w others (frame.GivePrepare g) = max (others * w command.Prepare) (w command.PrepareOk)
for_message w others (frame.GetBlock g) = w command.GiveBlock
for_message w others (frame.GiveBlock g) = 0
for_message w others (frame.GetSync g) = w command.SyncView
for_message w others (frame.SyncView v) = 64 * w command.PrepareOk

-- for a tick: in a view that has begun its primary tells all others, and any replica asks or leaves the view; in one that hasn't begun it is
-- told of to all
abbrev pub for_tick : (Command → ℕ) → ℕ → Bool → ℕ
for_tick w others started =
    if started then max (others * w command.Commit + (others * w command.Prepare + asked w)) (others * w command.StartViewChange)
    else others * w command.StartViewChange + (spoken w others + asked w)

abbrev pub most : (Command → ℕ) → ℕ → Bool → Event → ℕ
most w others started (event.Request q) = others * w command.Prepare
most w others started (event.Deliver message) = for_message w others message
most w others started event.Tick = for_tick w others started

-- ---- how many messages, and how many bytes

abbrev pub one : Command → ℕ
one c = 1

-- so many messages at most
abbrev pub most_messages : ℕ → Bool → Event → ℕ
most_messages others started e = most one others started e

-- how long the longest message of a kind is, with its header of 128 bytes
abbrev pub longest : ℕ → Command → ℕ
longest v command.Request = 196 + value_limit v
longest v command.Reply = 131 + value_limit v
longest v command.Prepare = 324 + value_limit v
longest v command.GivePrepare = 324 + value_limit v
longest v command.DoViewChange = 16650
longest v command.StartView = 8320
longest v command.SyncView = 8352
longest v command.GiveBlock = 4224
longest v _ = 128

-- so many bytes at most
abbrev pub most_bytes : ℕ → ℕ → Bool → Event → ℕ
most_bytes v others started e = most (longest v) others started e

-- the bytes that messages are spelled with
unfoldable pub size : List Sent → ℕ
size [] = 0
size (s ∷ ss) = length (spelling s.message) + size ss

-- ---- the laws

-- what is delivered has the form of its kind, as every message of the program
abbrev pub IsFormed : Event → Type 0
IsFormed (event.Request q) = ⊤
IsFormed (event.Deliver message) = IsFrame message
IsFormed event.Tick = ⊤

-- what a step sends
abbrev pub sent : {F : Type 0} → Event → Setting F → Replica → F → List Sent
sent e s r f = messages (outputs (react e s r f).script)

-- whatever each kind of message weighs
abbrev pub StepsWeighLittle : Type 0 → Type 0
StepsWeighLittle F =
    (w : ℕ → Command → ℕ) (s : Setting F) (f : F) (r : Replica) (e : Event) → IsSound r → IsFormed e
    → weight w (sent e s r f) ≤ most (w (version r)) (r.n - 1) (is_started r) e

-- so many messages
abbrev pub StepsSendFew : Type 0 → Type 0
StepsSendFew F =
    (s : Setting F) (f : F) (r : Replica) (e : Event) → IsSound r → IsFormed e → length (sent e s r f) ≤ most_messages (r.n - 1) (is_started r) e

-- so many bytes, on every disk that reads well
abbrev pub StepsAreShort : Type 0 → Type 0
StepsAreShort F =
    (s : Setting F) (f : F) (r : Replica) (e : Event) → IsProgram s → SavesRoots s → ReadsWell s f → IsSound r → IsSavable r → KnowsBlocks r → IsEvent e
    → size (sent e s r f) ≤ most_bytes (version r) (r.n - 1) (is_started r) e

-- code that does such a step sends no more, and where it stops nothing
abbrev pub SendsFew : Replica → Event → Option Disk → List Output → Type 0
SendsFew r e d out = IfSome d (λ x. length (messages out) ≤ most_messages (r.n - 1) (is_started r) e)

abbrev pub DoneIsFew : Type 0
DoneIsFew =
    (r r' : Replica) (e : Event) (d d' : Option Disk) (out : List Output) (result : Result (Unit {0}) Halt) → IsSound r → IsFormed e
    → OnErr result (out ≡ []) → Does (react e) r r' d d' [] out result → SendsFew r e d out

-- ---- the table's rows, as numbers

-- each ask has one answer, however large the group; what brings an entry or a block asks for nothing
pub record AnswersAreSingle : Type 0 where
  pub view : (others : ℕ) (g : GetView) → for_message one others (frame.GetView g) ≡ 1
  pub sync : (others : ℕ) (g : GetSync) → for_message one others (frame.GetSync g) ≡ 1
  pub entry : (others : ℕ) (g : GetPrepare) → for_message one others (frame.GetPrepare g) ≡ 1
  pub block : (others : ℕ) (g : GetBlock) → for_message one others (frame.GetBlock g) ≡ 1
  pub prepare : (others : ℕ) (p : Prepare) → for_message one others (frame.Prepare p) ≡ 1
  pub commit : (others : ℕ) (c : Commit) → for_message one others (frame.Commit c) ≡ 1
  pub prepare_ok : (others : ℕ) (a : PrepareOk) → for_message one others (frame.PrepareOk a) ≡ 0
  pub given : (others : ℕ) (g : GiveBlock) → for_message one others (frame.GiveBlock g) ≡ 0

-- how many messages, how many bytes in version 1, and how many in version 2
abbrev pub figures : Frame → ℕ → List ℕ
figures m others = for_message one others m ∷ for_message (longest 1) others m ∷ for_message (longest 2) others m ∷ []

abbrev pub tick_figures : Bool → ℕ → List ℕ
tick_figures started others = for_tick one others started ∷ for_tick (longest 1) others started ∷ for_tick (longest 2) others started ∷ []

-- in a group of three, and in one of six
abbrev pub IsRow : (ℕ → List ℕ) → List ℕ → List ℕ → Type 0
IsRow figures_by three six = (figures_by 2 ≡ three) × (figures_by 5 ≡ six)

pub record TableRows : Type 0 where
  pub request : (q : RequestFields) → IsRow (figures (frame.Request q)) (2 ∷ 2696 ∷ 6648 ∷ []) (5 ∷ 6740 ∷ 16620 ∷ [])
  pub prepare : (p : Prepare) → IsRow (figures (frame.Prepare p)) (1 ∷ 128 ∷ 128 ∷ []) (1 ∷ 128 ∷ 128 ∷ [])
  pub commit : (c : Commit) → IsRow (figures (frame.Commit c)) (1 ∷ 128 ∷ 128 ∷ []) (1 ∷ 128 ∷ 128 ∷ [])
  pub change : (c : StartViewChange) → IsRow (figures (frame.StartViewChange c)) (132 ∷ 189440 ∷ 442368 ∷ []) (330 ∷ 473600 ∷ 1105920 ∷ [])
  pub statement : (d : DoViewChange) → IsRow (figures (frame.DoViewChange d)) (132 ∷ 189440 ∷ 442368 ∷ []) (330 ∷ 473600 ∷ 1105920 ∷ [])
  pub begun : (v : StartView) → IsRow (figures (frame.StartView v)) (64 ∷ 8192 ∷ 8192 ∷ []) (64 ∷ 8192 ∷ 8192 ∷ [])
  pub jumped : (v : SyncView) → IsRow (figures (frame.SyncView v)) (64 ∷ 8192 ∷ 8192 ∷ []) (64 ∷ 8192 ∷ 8192 ∷ [])
  pub view : (g : GetView) → IsRow (figures (frame.GetView g)) (1 ∷ 8320 ∷ 8320 ∷ []) (1 ∷ 8320 ∷ 8320 ∷ [])
  pub sync : (g : GetSync) → IsRow (figures (frame.GetSync g)) (1 ∷ 8352 ∷ 8352 ∷ []) (1 ∷ 8352 ∷ 8352 ∷ [])
  pub entry : (g : GetPrepare) → IsRow (figures (frame.GetPrepare g)) (1 ∷ 1348 ∷ 3324 ∷ []) (1 ∷ 1348 ∷ 3324 ∷ [])
  pub block : (g : GetBlock) → IsRow (figures (frame.GetBlock g)) (1 ∷ 4224 ∷ 4224 ∷ []) (1 ∷ 4224 ∷ 4224 ∷ [])
  pub given : (g : GivePrepare) → IsRow (figures (frame.GivePrepare g)) (2 ∷ 2696 ∷ 6648 ∷ []) (5 ∷ 6740 ∷ 16620 ∷ [])
  pub tick : IsRow (tick_figures true) (5 ∷ 3080 ∷ 7032 ∷ []) (11 ∷ 7508 ∷ 17388 ∷ [])
  pub changing_tick : IsRow (tick_figures false) (133 ∷ 189568 ∷ 442496 ∷ []) (331 ∷ 473728 ∷ 1106048 ∷ [])

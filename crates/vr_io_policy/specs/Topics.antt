-- What a message answers, by its header.
use Rattle.std.specs.Prelude.{◌==◌, ℕ, Bool, true, false, nat_eq, nat_lt, ◌||◌, List, length, Option, Some, None, if◌then◌else◌}
use Rattle.std.specs.Int.{w64}
use Rattle.std.specs.Cmp.Lexicographic.{pointwise}
use Rattle.vr_base.specs.Bytes.{number, piece}
use Rattle.vr_base.specs.declared.sum.Sum.{Sum}
use Rattle.vr_header.specs.Spelling.{code_of, decoded_header}
use Rattle.vr_header.specs.declared.command.Command.{Command}
use Rattle.vr_header.specs.declared.command.Command.TheVariants.{Reserved, Root, Entry, Request, Reply, Prepare, PrepareOk, Commit, StartViewChange, DoViewChange, StartView, GetView, GetPrepare, GivePrepare, GetBlock, GiveBlock, Block, GetSync, SyncView}
use Rattle.vr_io_policy.specs.declared.topic.Topic.{Topic}
use Rattle.vr_io_policy.specs.declared.topic.Topic.TheVariants.{Log, State, Named}

-- start_view answers a get_view, sync_view a get_sync, whatever they say; of the other answers only the same one is a repetition
abbrev pub topic_for : Command → Sum → Option Topic
topic_for StartView name = Some Log
topic_for SyncView name = Some State
topic_for Reply name = Some (Named name)
topic_for GivePrepare name = Some (Named name)
topic_for GiveBlock name = Some (Named name)
topic_for Reserved name = None
topic_for Root name = None
topic_for Entry name = None
topic_for Request name = None
topic_for Prepare name = None
topic_for PrepareOk name = None
topic_for Commit name = None
topic_for StartViewChange name = None
topic_for DoViewChange name = None
topic_for GetView name = None
topic_for GetPrepare name = None
topic_for GetBlock name = None
topic_for Block name = None
topic_for GetSync name = None

-- the name that a message begins with
abbrev pub name_in : List ℕ → Sum
name_in bytes = record { 0 = piece 0 16 bytes }

-- what is shorter than a header answers nothing
unfoldable pub topic_of : List ℕ → Option Topic
topic_of bytes = if nat_lt (length bytes) 128 then None else topic_for (decoded_header bytes).command (name_in bytes)

-- ---- the same by the number that stands for the command

abbrev pub is_named_answer : ℕ → Bool
is_named_answer code = (code == code_of Reply) || ((code == code_of GivePrepare) || (code == code_of GiveBlock))

unfoldable pub topic_by : ℕ → List ℕ → Option Topic
topic_by code bytes = if code == code_of StartView then Some Log
    else (if code == code_of SyncView then Some State
    else (if is_named_answer code then Some (Named (name_in bytes))
    else None))

-- ---- which topics are the same

abbrev pub is_log : Topic → Bool
is_log Log = true
is_log State = false
is_log (Named name) = false

abbrev pub is_state : Topic → Bool
is_state Log = false
is_state State = true
is_state (Named name) = false

abbrev pub is_named : Sum → Topic → Bool
is_named name Log = false
is_named name State = false
is_named name (Named own) = pointwise nat_eq name.0 own.0

abbrev pub same_topic : Topic → Topic → Bool
same_topic Log t = is_log t
same_topic State t = is_state t
same_topic (Named name) t = is_named name t

-- a number that is the same for the same topic, and hardly for two others
abbrev pub mark_of : Topic → ℕ
mark_of Log = 0
mark_of State = 1
mark_of (Named name) = number w64 0 name.0

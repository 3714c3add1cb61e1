-- The code and the text of each status.
use Rattle.std.specs.Prelude.{ℕ, List, [], ◌++◌, codes}
use Rattle.std.specs.Fmt.{decimal}
use Rattle.vr_base.specs.declared.table.Config.{Config}
use Rattle.vr_base.specs.declared.status.Status.{Status}
use Rattle.vr_base.specs.declared.status.Status.TheVariants.{Done, Usage, Refused, SessionLost, ReadFault, WriteFault, DiskFault, LinkFault, SuperLost, OtherMember, NoMemory, Occupied, NoAnswer, SpawnFault}

abbrev pub code_of : Status → ℕ
code_of Done = 0
code_of Usage = 2
code_of (Refused line) = 3
code_of SessionLost = 4
code_of ReadFault = 5
code_of WriteFault = 6
code_of DiskFault = 7
code_of LinkFault = 8
code_of SuperLost = 9
code_of (OtherMember found asked) = 10
code_of NoMemory = 11
code_of Occupied = 12
code_of NoAnswer = 13
code_of SpawnFault = 14

-- the group, the number in it, and its size
abbrev pub config_text : Config → List ℕ
config_text c = decimal c.cluster ++ codes " " ++ decimal c.replica ++ codes " " ++ decimal c.n

abbrev pub status_text : Status → List ℕ
status_text Done = []
status_text Usage = codes "usage"
status_text (Refused line) = codes "refused: line " ++ decimal line
status_text SessionLost = codes "session lost"
status_text ReadFault = codes "read fault"
status_text WriteFault = codes "write fault"
status_text DiskFault = codes "disk fault"
status_text LinkFault = codes "link fault"
status_text SuperLost = codes "superblock lost"
status_text (OtherMember found asked) = codes "other member: found " ++ config_text found ++ codes " asked " ++ config_text asked
status_text NoMemory = codes "no memory"
status_text Occupied = codes "occupied"
status_text NoAnswer = codes "no answer"
status_text SpawnFault = codes "spawn fault"

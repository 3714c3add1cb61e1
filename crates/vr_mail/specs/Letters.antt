-- Messages of one version and group among all that comes over a link.
use Rattle.std.specs.Prelude.{ℕ, ◌≡◌, ◌≤◌, ⊤, List, [], ◌∷◌, Option, Some, None, Result, Ok, Err, OnOk}
use Rattle.vr_base.specs.Causes.{one_more}
use Rattle.vr_edge.specs.Datagrams.{Arrival, Failed, Nothing, Came}
use Rattle.vr_msg.specs.Spelling.{Spells, version_of}
use Rattle.vr_msg.specs.declared.frame.Frame.{Frame}
use Rattle.vr_msg.specs.declared.frame.Frame.TheVariants as frame
use Rattle.vr_mail.specs.declared.receiving.Letter.{Letter}
use Rattle.vr_mail.specs.declared.receiving.ReceiveFault.{ReceiveFault}
use Rattle.vr_mail.specs.declared.receiving.ReceiveFault.TheVariants as fault

-- the number of the group that a message is of
abbrev pub cluster_of : Frame → ℕ
cluster_of (frame.Request q) = q.cluster
cluster_of (frame.Reply r) = r.cluster
cluster_of (frame.Prepare p) = p.entry.header.cluster
cluster_of (frame.PrepareOk p) = p.cluster
cluster_of (frame.Commit c) = c.cluster
cluster_of (frame.StartViewChange s) = s.cluster
cluster_of (frame.DoViewChange d) = d.cluster
cluster_of (frame.StartView v) = v.cluster
cluster_of (frame.GetView g) = g.cluster
cluster_of (frame.GetPrepare g) = g.cluster
cluster_of (frame.GivePrepare g) = g.entry.header.cluster
cluster_of (frame.GetBlock g) = g.cluster
cluster_of (frame.GiveBlock g) = g.cluster
cluster_of (frame.GetSync g) = g.cluster
cluster_of (frame.SyncView v) = v.cluster

-- the bytes are this message, and it is of this version and group
pub record IsOfGroup (version cluster : ℕ) (bytes : List ℕ) (m : Frame) : Type 0 where
  pub spelled : Spells m bytes
  pub of_version : version_of m ≡ version
  pub group : cluster_of m ≡ cluster

-- the bytes are no message of this version and group
abbrev pub IsRefused : ℕ → ℕ → List ℕ → Type 0
IsRefused version cluster bytes = (m : Frame) → ¬ IsOfGroup version cluster bytes m

-- what a member of this version and group reads of bytes
abbrev pub Reads : ℕ → ℕ → List ℕ → Option Frame → Type 0
Reads version cluster bytes None = IsRefused version cluster bytes
Reads version cluster bytes (Some m) = IsOfGroup version cluster bytes m

-- what a receive that went well brings: refused bytes are as if nothing came
abbrev pub Brings : ℕ → ℕ → Arrival → Option Letter → Type 0
Brings version cluster Failed letter = ⊥
Brings version cluster Nothing letter = letter ≡ None
Brings version cluster (Came d) None = IsRefused version cluster d.bytes
Brings version cluster (Came d) (Some letter) = (letter.port ≡ d.port) × IsOfGroup version cluster d.bytes letter.message

-- a datagram came that is a message of this version and group
abbrev pub IsMessage : ℕ → ℕ → Arrival → Type 0
IsMessage version cluster Failed = ⊥
IsMessage version cluster Nothing = ⊥
IsMessage version cluster (Came d) = (m : Frame) × IsOfGroup version cluster d.bytes m

-- what a receive answers
abbrev pub Gives : ℕ → ℕ → Arrival → Result (Option Letter) ReceiveFault → Type 0
Gives version cluster arrival (Ok letter) = Brings version cluster arrival letter
Gives version cluster arrival (Err fault.Link) = arrival ≡ Failed
Gives version cluster arrival (Err fault.NoMemory) = IsMessage version cluster arrival

-- the link's faults don't fall; where it failed they are one more, and no other answer adds to them
pub record ReceiveCause {T : Type 0} (before now : ℕ) (result : Result T ReceiveFault) : Type 0 where
  pub later : before ≤ now
  pub kept : OnOk result (now ≡ before)
  pub failed : result ≡ Err fault.Link → now ≡ one_more before
  pub wanted : result ≡ Err fault.NoMemory → now ≡ before

-- the same receive; or nothing, in place of a datagram that is refused
abbrev pub Stills : ℕ → ℕ → Arrival → Arrival → Type 0
Stills version cluster Failed still = still ≡ Failed
Stills version cluster Nothing still = still ≡ Nothing
Stills version cluster (Came d) Failed = ⊥
Stills version cluster (Came d) Nothing = IsRefused version cluster d.bytes
Stills version cluster (Came d) (Came e) = e ≡ d

-- the same of receives one after another
abbrev pub AreBrought : ℕ → ℕ → List Arrival → List (Option Letter) → Type 0
AreBrought version cluster [] [] = ⊤
AreBrought version cluster [] (l ∷ ls) = ⊥
AreBrought version cluster (a ∷ arrivals) [] = ⊥
AreBrought version cluster (a ∷ arrivals) (l ∷ ls) = Brings version cluster a l × AreBrought version cluster arrivals ls

abbrev pub AreStilled : ℕ → ℕ → List Arrival → List Arrival → Type 0
AreStilled version cluster [] [] = ⊤
AreStilled version cluster [] (s ∷ ss) = ⊥
AreStilled version cluster (a ∷ arrivals) [] = ⊥
AreStilled version cluster (a ∷ arrivals) (s ∷ ss) = Stills version cluster a s × AreStilled version cluster arrivals ss

-- a list of receives in which each refused datagram may be replaced by nothing brings the same
abbrev pub RefusedAreNothing : Type 0
RefusedAreNothing =
    (version cluster : ℕ) (arrivals stilled : List Arrival) (letters : List (Option Letter))
    → AreBrought version cluster arrivals letters → AreStilled version cluster arrivals stilled → AreBrought version cluster stilled letters

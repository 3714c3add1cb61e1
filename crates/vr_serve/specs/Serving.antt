-- What each piece of a run leaves.
use Rattle.std.specs.Prelude.{ℕ, List, [], ◌∷◌, Option, Result, Err, IfErr, IfOk, OnOk, true, ◌≡◌, ◌≢◌, ◌⊎◌}
use Rattle.vr_disk.specs.declared.disk.SectorDisk as of_disk
use Rattle.vr_edge.specs.Datagrams.{Arrival, Failed}
use Rattle.vr_edge.specs.Failing.{EndsFailed}
use Rattle.vr_edge.specs.Told.{GivesNext, Grows}
use Rattle.vr_edge.specs.declared.clock.Clock as of_clock
use Rattle.vr_edge.specs.declared.link.Link as of_link
use Rattle.vr_edge.specs.declared.sink.Sink as of_sink
use Rattle.vr_mail.specs.Letters.{Brings}
use Rattle.vr_mail.specs.declared.receiving.Letter.{Letter}
use Rattle.vr_msg.specs.declared.output.Output.{Output}
use Rattle.vr_serve.specs.Causes.{Counts, HasCauses, counts}
use Rattle.vr_serve.specs.Events.{AtReceive, Begins, Come, Turn, comes_of, events_of, last_after}
use Rattle.vr_serve.specs.Runs.{AreTurnsCut, At, Cut, End, HaveTurns, IsCutBefore, IsCutInTurn, IsServed, IsTurnCut, Passed, at, end_at}
use Rattle.vr_serve.specs.declared.member.Member as of_member
use Rattle.vr_serve.specs.declared.objects.Objects.{Objects}
use Rattle.vr_serve.specs.declared.post.Post.{Post}
use Rattle.vr_serve.specs.declared.stop.Stop.{Stop}
use Rattle.vr_serve.specs.declared.stop.Stop.TheVariants as stop

-- where a run stands, by what its objects tell
abbrev pub standing : {M D K L : Type 0} → of_member.Ghosts M → of_disk.Ghosts D → of_sink.Ghosts K → of_link.Ghosts L → Objects M D K L → Post → At M
standing m d k l o post = at o.member.now (d.told o.disk.now) post.number post.clients.items (k.taken o.sink.now) (l.sent o.link.now)

-- an early end there
abbrev pub ending : {M D K L : Type 0} → of_disk.Ghosts D → of_sink.Ghosts K → of_link.Ghosts L → Objects M D K L → Stop → End
ending d k l o why = end_at why (d.told o.disk.now) (k.taken o.sink.now) (l.sent o.link.now)

-- the faults that its objects count
abbrev pub faults_of : {M D K L : Type 0} → of_disk.Ghosts D → of_sink.Ghosts K → of_link.Ghosts L → Objects M D K L → Counts
faults_of d k l o = counts (d.faults o.disk.now) (k.faults o.sink.now) (l.faults o.link.now)

-- the objects of a run stay the same ones
pub record HasSame {M D K L : Type 0} (o o' : Objects M D K L) : Type 0 where
  pub member : o'.member.ghost_name ≡ o.member.ghost_name
  pub disk : o'.disk.ghost_name ≡ o.disk.ghost_name
  pub sink : o'.sink.ghost_name ≡ o.sink.ghost_name
  pub link : o'.link.ghost_name ≡ o.link.ghost_name

-- what each piece of a run keeps: after an Ok its member runs, and a fault is told exactly where its object counts one
pub record Keeps {M D K L T : Type 0} (m : of_member.Ghosts M) (d : of_disk.Ghosts D) (k : of_sink.Ghosts K) (l : of_link.Ghosts L) (o o' : Objects M D K L)
    (result : Result T Stop) : Type 0 where
  pub objects : HasSame o o'
  pub running : OnOk result (m.runs o'.member.now ≡ true)
  pub causes : HasCauses (faults_of d k l o) (faults_of d k l o') result
  pub attached : l.attached o'.link.now ≡ l.attached o.link.now

-- these events happened wholly, or the run was cut off at one of them; nothing was received
pub record Handles {M D K L T : Type 0} (m : of_member.Ghosts M) (d : of_disk.Ghosts D) (k : of_sink.Ghosts K) (l : of_link.Ghosts L) (o o' : Objects M D K L) (post post' : Post)
    (comes : List Come) (result : Result T Stop) : Type 0 where
  pub kept : Keeps m d k l o o' result
  pub received : l.received o'.link.now ≡ l.received o.link.now
  pub unlinked : result ≢ Err stop.Link
  pub passed : OnOk result (Passed m.does (standing m d k l o post) (standing m d k l o' post') comes)
  pub cut : IfErr result (λ why. Cut m.does m.halts (standing m d k l o post) [] comes (ending d k l o' why))

-- one receive, and what comes of it happened wholly, or the run was cut off there
pub record Arrives {M D K L : Type 0} (m : of_member.Ghosts M) (d : of_disk.Ghosts D) (k : of_sink.Ghosts K) (l : of_link.Ghosts L) (version cluster : ℕ)
    (o o' : Objects M D K L) (post post' : Post) (result : Result (Unit {0}) Stop) : Type 0 where
  pub kept : Keeps m d k l o o' result
  pub linked : result ≡ Err stop.Link → Grows (l.received o.link.now) (l.received o'.link.now) (Failed ∷ [])
  pub passed : OnOk result ((arrival : Arrival) × (letter : Option Letter) × Grows (l.received o.link.now) (l.received o'.link.now) (arrival ∷ [])
      × Brings version cluster arrival letter × Passed m.does (standing m d k l o post) (standing m d k l o' post') (comes_of letter))
  pub cut : IfErr result (λ why. (arrival : Arrival) × (letter : Option Letter) × Grows (l.received o.link.now) (l.received o'.link.now) (arrival ∷ [])
      × Begins version cluster (AtReceive arrival letter) × Cut m.does m.halts (standing m d k l o post) [] (comes_of letter) (ending d k l o' why))

-- one turn happened wholly, or the run was cut off in it
pub record TakesTurn {M D K L C : Type 0} (m : of_member.Ghosts M) (d : of_disk.Ghosts D) (k : of_sink.Ghosts K) (l : of_link.Ghosts L) (c : of_clock.Ghosts C)
    (version cluster last : ℕ) (o o' : Objects M D K L) (post post' : Post) (clock clock' : C) (result : Result ℕ Stop) : Type 0 where
  pub kept : Keeps m d k l o o' result
  pub linked : result ≡ Err stop.Link → Grows (l.received o.link.now) (l.received o'.link.now) (Failed ∷ [])
  pub turned : IfOk result (λ after. (turn : Turn) × (after ≡ last_after last turn.now)
      × Grows (l.received o.link.now) (l.received o'.link.now) (turn.arrival ∷ []) × Brings version cluster turn.arrival turn.letter
      × GivesNext (c.left clock) (c.left clock') turn.now × Passed m.does (standing m d k l o post) (standing m d k l o' post') (events_of last turn))
  pub cut : IfErr result (λ why. IsTurnCut m.does m.halts version cluster last (standing m d k l o post) (c.left clock) (c.left clock')
      (l.received o.link.now) (l.received o'.link.now) (ending d k l o' why))

-- so many turns happened wholly, or the run was cut off in one of them
pub record TakesTurns {M D K L C : Type 0} (m : of_member.Ghosts M) (d : of_disk.Ghosts D) (k : of_sink.Ghosts K) (l : of_link.Ghosts L) (c : of_clock.Ghosts C)
    (version cluster count last : ℕ) (o o' : Objects M D K L) (post post' : Post) (clock clock' : C) (result : Result ℕ Stop) : Type 0 where
  pub kept : Keeps m d k l o o' result
  pub linked : result ≡ Err stop.Link → EndsFailed (l.received o.link.now) (l.received o'.link.now)
  pub turned : IfOk result (λ after. HaveTurns m.does version cluster count last after (standing m d k l o post) (standing m d k l o' post') (c.left clock) (c.left clock')
      (l.received o.link.now) (l.received o'.link.now))
  pub cut : IfErr result (λ why. AreTurnsCut m.does m.halts version cluster count last (standing m d k l o post) (c.left clock) (c.left clock')
      (l.received o.link.now) (l.received o'.link.now) (ending d k l o' why))

-- the first outputs were put out, and so many turns happened wholly, or the run was cut off before or in one of them
pub record Serves {M D K L C : Type 0} (m : of_member.Ghosts M) (d : of_disk.Ghosts D) (k : of_sink.Ghosts K) (l : of_link.Ghosts L) (c : of_clock.Ghosts C)
    (version cluster turns : ℕ) (first : List Output) (member member' : M) (disk disk' : D) (link link' : L) (clock clock' : C) (sink sink' : K)
    (result : Result (Unit {0}) Stop) : Type 0 where
  pub running : OnOk result (m.runs member' ≡ true)
  pub causes : HasCauses (counts (d.faults disk) (k.faults sink) (l.faults link)) (counts (d.faults disk') (k.faults sink') (l.faults link')) result
  pub linked : result ≡ Err stop.Link → EndsFailed (l.received link) (l.received link')
  pub done : OnOk result (IsServed m.does version cluster turns first member member' (d.told disk) (d.told disk') (c.left clock) (c.left clock')
      (l.received link) (l.received link') (k.taken sink) (k.taken sink') (l.sent link) (l.sent link'))
  pub cut : IfErr result (λ why. IsCutBefore first (d.told disk) (c.left clock) (c.left clock') (l.received link) (l.received link') (k.taken sink) (l.sent link)
      (end_at why (d.told disk') (k.taken sink') (l.sent link'))
      ⊎ IsCutInTurn m.does m.halts version cluster turns first member (d.told disk) (c.left clock) (c.left clock') (l.received link) (l.received link')
      (k.taken sink) (l.sent link) (end_at why (d.told disk') (k.taken sink') (l.sent link')))
  pub attached : l.attached link' ≡ l.attached link

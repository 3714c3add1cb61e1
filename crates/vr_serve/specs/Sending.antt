-- What the putting out of outputs leaves.
use Rattle.std.specs.Prelude.{List, ◌≡◌, ◌≢◌, Result, Err, OnErr, OnOk}
use Rattle.std.specs.Io.KnownBytes.{Appends}
use Rattle.vr_edge.specs.declared.datagram.Datagram.{Datagram}
use Rattle.vr_edge.specs.declared.link.Link as of_link
use Rattle.vr_edge.specs.declared.sink.Sink as of_sink
use Rattle.vr_mail.specs.Sends.{Sends}
use Rattle.vr_msg.specs.declared.output.Output.{Output}
use Rattle.vr_serve.specs.Causes.{HasCauses, counts}
use Rattle.vr_serve.specs.Outputs.{datagrams_for, numbers_after, text_from}
use Rattle.vr_serve.specs.Runs.{PutsFront, SendsFront}
use Rattle.vr_serve.specs.declared.post.Post.{Post}
use Rattle.vr_serve.specs.declared.stop.Stop.{Stop}
use Rattle.vr_serve.specs.declared.stop.Stop.TheVariants as stop

-- at most the sent datagrams of a link changed
pub record OnlySends {L : Type 0} (l : of_link.Ghosts L) (link link' : L) : Type 0 where
  pub received : l.received link' ≡ l.received link
  pub faults : l.faults link' ≡ l.faults link
  pub attached : l.attached link' ≡ l.attached link

-- these datagrams were sent, or at an error none
pub record SendsOrNone {L T E : Type 0} (l : of_link.Ghosts L) (ds : List Datagram) (link link' : L) (result : Result T E) : Type 0 where
  pub sent : OnOk result (Sends ds (l.sent link) (l.sent link'))
  pub unsent : OnErr result (l.sent link' ≡ l.sent link)
  pub kept : OnlySends l link link'

-- these datagrams were sent, or at an error a front of them
pub record SendsInOrder {L T E : Type 0} (l : of_link.Ghosts L) (ds : List Datagram) (link link' : L) (result : Result T E) : Type 0 where
  pub sent : OnOk result (Sends ds (l.sent link) (l.sent link'))
  pub front : OnErr result (SendsFront ds (l.sent link) (l.sent link'))
  pub kept : OnlySends l link link'

-- the text of these outputs was taken whole, and their datagrams were sent after it, or at an error a front of that
pub record PutsOut {K L : Type 0} (k : of_sink.Ghosts K) (l : of_link.Ghosts L) (post post' : Post) (sink sink' : K) (link link' : L) (outputs : List Output)
    (result : Result (Unit {0}) Stop) : Type 0 where
  pub taken : OnOk result (Appends (k.taken sink) (k.taken sink') (text_from post.number outputs))
  pub sent : OnOk result (Sends (datagrams_for post.clients.items outputs) (l.sent link) (l.sent link'))
  pub number : OnOk result (post'.number ≡ numbers_after post.number outputs)
  pub clients : post'.clients ≡ post.clients
  pub front : OnErr result (PutsFront (text_from post.number outputs) (datagrams_for post.clients.items outputs) (k.taken sink) (k.taken sink') (l.sent link) (l.sent link'))
  pub unlinked : result ≢ Err stop.Link
  pub causes : HasCauses (counts 0 (k.faults sink) (l.faults link)) (counts 0 (k.faults sink') (l.faults link')) result
  pub kept : OnlySends l link link'

-- What the methods of a client require, and what they leave of the client and of the link under it.
use Rattle.std.specs.Prelude.{ℕ, ◌+◌, ◌^◌, ◌<◌, ◌≡◌, ◌↔◌, ◌⊎◌, List, Option, Result, OnOk, IfOk, IfErr}
use Rattle.vr_base.specs.declared.sum.Sum.{Sum}
use Rattle.vr_edge.specs.declared.link.Link as of_link
use Rattle.vr_header.specs.Bodies.{IsOperation}
use Rattle.vr_header.specs.Names.{header_name, request_header}
use Rattle.vr_header.specs.declared.operation.Operation.{Operation}
use Rattle.vr_header.specs.declared.operation.Operation.TheVariants.{Register}
use Rattle.vr_mail.specs.Sends.{Sends}
use Rattle.vr_msg.specs.Spelling.{spelling}
use Rattle.vr_msg.specs.declared.frame.Frame.TheVariants as frame
use Rattle.vr_client.specs.Asking.{AskCause, Fails, Hears, IsAsked, IsUnasked, Keeps, Turned, ask_in, ask_of, request_in, requests}
use Rattle.vr_client.specs.Heeding.{MovesWithin}
use Rattle.vr_client.specs.declared.answer.Answer.{Answer}
use Rattle.vr_client.specs.declared.answer.AskFault.{AskFault}
use Rattle.vr_client.specs.declared.answer.Heed.{Heed}
use Rattle.vr_client.specs.declared.client.ClientCore.{ClientCore}

-- It is the client of this number and group, before its first ask.
pub record IsNew (v cluster own n : ℕ) (c : ClientCore) : Type 0 where
  pub group : (c.cluster ≡ cluster) × (c.n ≡ n)
  pub version : c.version ≡ v
  pub id : c.id ≡ own
  pub port : c.port ≡ 0
  pub number : c.number ≡ 0

-- It has a number left, and the operation is one of its version: a register with number 0, and any other with a later one.
pub record MayAsk (c : ClientCore) (operation : Operation) : Type 0 where
  pub number : c.number < 2 ^ 32
  pub first : (operation ≡ Register) ↔ (c.number ≡ 0)
  pub fits : IsOperation c.version operation

-- Its next request is made, and its number used up.
pub record Writes {E : Type 0} (operation : Operation) (c c' : ClientCore) (result : Result Sum E) : Type 0 where
  pub version : c'.version ≡ c.version
  pub group : (c'.cluster ≡ c.cluster) × (c'.n ≡ c.n)
  pub client : (c'.id ≡ c.id) × (c'.port ≡ c.port)
  pub number : c'.number ≡ c.number + 1
  pub bytes : OnOk result (c'.bytes.items ≡ spelling (frame.Request (request_in c operation)))
  pub name : IfOk result (λ name. name ≡ header_name (request_header c.version c.cluster c.id c.number operation))

-- Its request went to these ports, and it is at this one; nothing was received.
pub record Reaches {L : Type 0} (l : of_link.Ghosts L) (ports : List ℕ) (to : ℕ) (c c' : ClientCore) (link link' : L) : Type 0 where
  pub core : Keeps c c'
  pub port : c'.port ≡ to
  pub sent : Sends (requests c.bytes.items ports) (l.sent link) (l.sent link')
  pub received : l.received link' ≡ l.received link
  pub faults : l.faults link' ≡ l.faults link
  pub attached : l.attached link' ≡ l.attached link

-- One receive was made and heeded, or it failed; nothing was sent.
pub record HearsOnce {L : Type 0} (l : of_link.Ghosts L) (name : Sum) (c c' : ClientCore) (link link' : L) (result : Result Heed AskFault) : Type 0 where
  pub core : Keeps c c'
  pub stays : c'.port ≡ c.port
  pub heard : IfOk result (Hears c.version c.cluster c.n name (l.received link) (l.received link'))
  pub port : IfOk result (MovesWithin c.n)
  pub failed : IfErr result (Fails c.version c.cluster (l.received link) (l.received link'))
  pub cause : AskCause (l.faults link) (l.faults link') result
  pub sent : l.sent link' ≡ l.sent link
  pub attached : l.attached link' ≡ l.attached link

-- A turn was taken after so many others, or its receive failed.
pub record TakesTurn {L : Type 0} (l : of_link.Ghosts L) (name : Sum) (turns done : ℕ) (c c' : ClientCore) (link link' : L)
    (result : Result (Option Answer) AskFault) : Type 0 where
  pub core : Keeps c c'
  pub turned : IfOk result (Turned (ask_in c name turns) done c.port c'.port (l.sent link) (l.sent link') (l.received link) (l.received link'))
  pub failed : IfErr result (Fails c.version c.cluster (l.received link) (l.received link'))
  pub stays : IfErr result (λ _. (c'.port ≡ c.port) × (l.sent link' ≡ l.sent link))
  pub cause : AskCause (l.faults link) (l.faults link') result
  pub attached : l.attached link' ≡ l.attached link

-- Its request of this name was asked for so many turns, to an end.
pub record Waits {L : Type 0} (l : of_link.Ghosts L) (name : Sum) (turns : ℕ) (c c' : ClientCore) (link link' : L) (result : Result Answer AskFault) : Type 0 where
  pub core : Keeps c c'
  pub run : IsAsked (ask_in c name turns) c.port c'.port (l.sent link) (l.sent link') (l.received link) (l.received link') result
  pub cause : AskCause (l.faults link) (l.faults link') result
  pub attached : l.attached link' ≡ l.attached link

-- The operation was asked for with its next number, or there was no memory for the request.
pub record Asks {L : Type 0} (l : of_link.Ghosts L) (operation : Operation) (turns : ℕ) (c c' : ClientCore) (link link' : L)
    (result : Result Answer AskFault) : Type 0 where
  pub run : IsAsked (ask_of c.n (request_in c operation) turns) c.port c'.port (l.sent link) (l.sent link') (l.received link) (l.received link') result
      ⊎ IsUnasked c.port c'.port (l.sent link) (l.sent link') (l.received link) (l.received link') result
  pub number : c'.number ≡ c.number + 1
  pub version : c'.version ≡ c.version
  pub group : (c'.cluster ≡ c.cluster) × (c'.n ≡ c.n)
  pub id : c'.id ≡ c.id
  pub cause : AskCause (l.faults link) (l.faults link') result
  pub attached : l.attached link' ≡ l.attached link

-- What clients hear of members of a group, and when that is what the group's one log says.
use Rattle.std.specs.Prelude.{ℕ, ◌≡◌, ⊤, List, ◌++◌, Contains, slice_get, take, Some}
use Rattle.cmd_client.specs.Asking.{Answers, Client, Stand, request_of}
use Rattle.vr_state.specs.Folds.{state_after}
use Rattle.vr_state.specs.declared.session.SessionAnswer.TheVariants as session
use Rattle.vr_state.specs.Sessions.{checked}
use Rattle.vr_client.specs.declared.answer.Answer.{Answer}
use Rattle.vr_client.specs.declared.answer.Answer.TheVariants as answer
use Rattle.vr_edge.specs.Datagrams.{Arrival, Came}
use Rattle.vr_header.specs.Made.{Whole}
use Rattle.vr_header.specs.Names.{header_name}
use Rattle.vr_header.specs.Spelling.{named_bytes}
use Rattle.vr_header.specs.declared.operation.Operation.{Operation}
use Rattle.vr_mail.specs.Letters.{IsOfGroup}
use Rattle.vr_msg.specs.declared.frame.Frame.TheVariants as frame
use Rattle.vr_msg.specs.declared.output.Committed.{Committed}
use Rattle.vr_msg.specs.declared.output.Output.TheVariants as output
use Rattle.vr_msg.specs.declared.reply.ReplyFields.{ReplyFields}
use Rattle.vr_msg.specs.declared.reply.ReplyKind.{ReplyKind}
use Rattle.vr_msg.specs.declared.reply.ReplyKind.TheVariants as reply
use Rattle.vr_msg.specs.declared.request.RequestFields.{RequestFields}
use Rattle.vr_node.specs.declared.node.Node.{Node}
use Rattle.vr_serve.specs.Runs.{Did}
use Rattle.vr_world.specs.Group.{Asked, Played}
use Rattle.law_6_one_log.specs.Outputs.{IsTrueAnswer}
use Rattle.law_7_members.specs.Files.{ActBy, Handles, act_by}
use Rattle.law_7_members.specs.Whole.{all_said}
use Rattle.law_9_asked.specs.Asked.{IsExecuted, asked_by, header_of}

-- ---- the names of requests

-- The texts whose names tell requests from one another: of those that reached members, of those of whose entries members put out a commit
-- line, and of these requests of clients.
pub data IsNamed (xs : List ActBy) (own : List RequestFields) : List ℕ → Type 0 where
  reached : (at : ℕ) (did : Did Node) (q : RequestFields) → Contains xs (act_by at (Handles (Asked q) did)) → IsNamed xs own (named_bytes (header_of q))
  entered : (c : Committed) → Contains (all_said xs) (output.Commit c) → IsNamed xs own (named_bytes (asked_by c.entry.header))
  asked : (q : RequestFields) → Contains own q → IsNamed xs own (named_bytes (header_of q))

-- ---- what a client hears

-- an ask that was answered: the request, its answer, and all that was received from the ask on, the answer last
pub record Heard : Type 0 where
  pub request : RequestFields
  pub answer : Answer
  pub received : List Arrival

-- the ask of an operation with this number
abbrev pub heard : (c : Client) (number : ℕ) (operation : Operation) (s s' : Stand) (a : Answer) → Answers c number operation s s' a → Heard
heard c number operation s s' a h = record { request = request_of c number operation; answer = a; received = h.arrivals ++ h.last }

-- Of the network: what is received and is a reply of this version and group was put out by a member. So it may be lost, come again and
-- again, and in any order; whatever isn't a reply may be forged.
abbrev pub IsPutOut : List ActBy → ℕ → ℕ → Arrival → Type 0
IsPutOut xs version cluster (Came d) = (a : ReplyFields) → IsOfGroup version cluster d.bytes (frame.Reply a) → Contains (all_said xs) (output.Reply a)
IsPutOut xs version cluster _ = ⊤

-- ---- when it is the log's

-- What the plain sessions and machine say to a request over a log: it was executed; or what the sessions say of its client and number after some of
-- the log's first entries.
abbrev pub Says : List Whole → RequestFields → Answer → Type 0
Says log q (answer.Outcome a) = IsExecuted log q a
Says log q answer.Old = (m : ℕ) × (checked (state_after (take m log)).sessions q.client q.request ≡ session.Old)
Says log q answer.Gap = (m : ℕ) × (checked (state_after (take m log)).sessions q.client q.request ≡ session.Gap)
Says log q answer.Evicted = (m : ℕ) × (checked (state_after (take m log)).sessions q.client q.request ≡ session.Evicted)

-- the answer that a reply brings
abbrev pub kind_of : Answer → ReplyKind
kind_of (answer.Outcome a) = reply.Outcome a
kind_of answer.Old = reply.Old
kind_of answer.Gap = reply.Gap
kind_of answer.Evicted = reply.Evicted

-- the request reached a member, or an entry of the log was made of it
pub data HasReached (xs : List ActBy) (log : List Whole) (q : RequestFields) : Type 0 where
  itself : (at : ℕ) (did : Did Node) (p : RequestFields) → Contains xs (act_by at (Handles (Asked p) did)) → header_of p ≡ header_of q → HasReached xs log q
  as_entry : (op : ℕ) (e : Whole) → slice_get log op ≡ Some e → asked_by e.header ≡ header_of q → HasReached xs log q

-- What a client heard is the log's: a member put it out in a reply to this very request, by its name, its client and its number; it rests on
-- the log where it was put out; and it is what the plain sessions and machine say over it.
pub record IsOfLog (cluster n : ℕ) (xs : List ActBy) (log : List Whole) (run : List Played) (t : Heard) : Type 0 where
  pub reply : ReplyFields
  pub place : ℕ
  pub put_out : slice_get (all_said xs) place ≡ Some (output.Reply reply)
  pub name : reply.request_name ≡ header_name (header_of t.request)
  pub client : reply.client ≡ t.request.client
  pub number : reply.request ≡ t.request.request
  pub answer : reply.kind ≡ kind_of t.answer
  pub rests : IsTrueAnswer cluster n log run (take place (all_said xs)) reply
  pub says : Says log t.request t.answer
  pub reached : HasReached xs log t.request

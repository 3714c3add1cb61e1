-- What requests and replies may carry.
use Rattle.std.specs.Prelude.{ℕ, ◌≡◌, ◌↔◌, ⊤}
use Rattle.vr_base.specs.Bytes.{name_of}
use Rattle.vr_header.specs.Bodies.{IsOperation, IsOutcome, operation_bytes}
use Rattle.vr_header.specs.Names.{header_name, request_header}
use Rattle.vr_header.specs.declared.operation.Operation.TheVariants.{Register}
use Rattle.vr_msg.specs.declared.request.Names.{Names}
use Rattle.vr_msg.specs.declared.request.RequestFields.{RequestFields}
use Rattle.vr_msg.specs.declared.reply.ReplyKind.{ReplyKind}
use Rattle.vr_msg.specs.declared.reply.ReplyKind.TheVariants as reply
use Rattle.vr_msg.specs.declared.reply.ReplyFields.{ReplyFields}
use Rattle.vr_msg.specs.Numbers.{IsNumber, IsView}

pub record IsRequest (q : RequestFields) : Type 0 where
  -- a session begins exactly with request number 0
  pub first : (q.operation ≡ Register) ↔ (q.request ≡ 0)
  pub fits : IsOperation q.version q.operation

abbrev pub IsReplyKind : ReplyKind → Type 0
IsReplyKind (reply.Outcome a) = IsNumber a.op
IsReplyKind reply.Old = ⊤
IsReplyKind reply.Gap = ⊤
IsReplyKind reply.Evicted = ⊤
IsReplyKind reply.Busy = ⊤
IsReplyKind reply.Redirect = ⊤

-- an outcome of this version
abbrev pub IsKindValue : ℕ → ReplyKind → Type 0
IsKindValue version (reply.Outcome a) = IsOutcome version a.outcome
IsKindValue version reply.Old = ⊤
IsKindValue version reply.Gap = ⊤
IsKindValue version reply.Evicted = ⊤
IsKindValue version reply.Busy = ⊤
IsKindValue version reply.Redirect = ⊤

-- the names of a request's operation and of its header
pub record AreNames (q : RequestFields) (n : Names) : Type 0 where
  pub body : n.body.0 ≡ name_of (operation_bytes q.operation)
  pub header : n.header ≡ header_name (request_header q.version q.cluster q.client q.request q.operation)

pub record IsReply (r : ReplyFields) : Type 0 where
  pub view : IsView r.view
  pub kind : IsReplyKind r.kind
  pub fits : IsKindValue r.version r.kind

use Rattle.std.proofs.Common.{◌≡◌, ◌∙◌, ◌++◌, sym}
use Rattle.vr_edge.proofs.Sending.{none_past, went_out, failed, came_past, within_more}
use Rattle.vr_edge.proofs.outbox.Outbox.put.Goals as goal

pub returns-then-not-has_room-clause-told : goal.returns-then-not-has_room-clause-told
returns-then-not-has_room-clause-told c = rw c.saturating_add-self.ensures (came_past _ _ _)

pub returns-then-fails-clause-told : goal.returns-then-fails-clause-told
returns-then-fails-clause-told c =
    rw c.push_reserved.ensures.items
    (failed _ _ _ (none_past c.args.self.now _ (sym c.has_room.ensures ∙ c.if-not-has_room.false)))

pub invariant_of-self-2-clause-marked : goal.invariant_of-self-2-clause-marked
invariant_of-self-2-clause-marked c =
    let grown : c.extend_from_slice.new.self.items ≡ c.args.self.now.bytes.items ++ c.args.bytes.now = rw c.unwrap.ensures at c.extend_from_slice.ensures.items in
    within_more c.args.self.now.bytes.items _ _ c.args.self.now.marks.items _ c.args.port c.len-start.result c.len-end.result c.args.self.now.marked grown
    (c.len-start.ensures ∙ c.args.self.now.bytes.ok.0) (c.len-end.ensures ∙ c.extend_from_slice.new.self.ok.0) c.push_reserved-2.ensures.items

pub returns-clause-told : goal.returns-clause-told
returns-clause-told c =
    let grown : c.extend_from_slice.new.self.items ≡ c.args.self.now.bytes.items ++ c.args.bytes.now = rw c.unwrap.ensures at c.extend_from_slice.ensures.items in
    went_out c.args.self.now.bytes.items _ _ c.args.self.now.marks.items _ c.args.port c.len-start.result c.len-end.result _
    (none_past c.args.self.now _ (sym c.has_room.ensures ∙ c.if-not-has_room.false)) c.args.self.now.marked grown
    (c.len-start.ensures ∙ c.args.self.now.bytes.ok.0) (c.len-end.ensures ∙ c.extend_from_slice.new.self.ok.0) c.push_reserved-2.ensures.items

use Rattle.std.proofs.Common.{arith}
use Rattle.vr_header.specs.Views.{entry_seen}
use Rattle.vr_header.proofs.EntryLaws.{entry_known, spelled_long, spelled_name}
use Rattle.vr_header.proofs.BodyLaws.{any_operation}
use Rattle.vr_header.proofs.EntryLaws.{entry_known}
use Rattle.vr_header.proofs.entry.Entry.from_bytes.Goals as goal

pub owned_operation-requires : goal.owned_operation-requires
owned_operation-requires c =
    any_operation (entry_seen c.entry_at-view.result).header.version _ (entry_known c.args.bytes.now (entry_seen c.entry_at-view.result) (λ i. omega (arith, c.type_inv.bytes i)) c.entry_at-view.ensures).3

pub sum_at-requires : goal.sum_at-requires
sum_at-requires c =
    spelled_long c.args.bytes.now (entry_seen c.entry_at-view.result)
    (entry_known c.args.bytes.now (entry_seen c.entry_at-view.result) (λ i. omega (arith, c.type_inv.bytes i)) c.entry_at-view.ensures)

pub named-requires-clause-entry : goal.named-requires-clause-entry
named-requires-clause-entry c =
    rw c.in_ok-operation.ensures (entry_known c.args.bytes.now (entry_seen c.entry_at-view.result) (λ i. omega (arith, c.type_inv.bytes i)) c.entry_at-view.ensures).1

pub named-requires-clause-name : goal.named-requires-clause-name
named-requires-clause-name c =
    spelled_name c.args.bytes.now (entry_seen c.entry_at-view.result) _
    (entry_known c.args.bytes.now (entry_seen c.entry_at-view.result) (λ i. omega (arith, c.type_inv.bytes i)) c.entry_at-view.ensures)
    c.sum_at.ensures

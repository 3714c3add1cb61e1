-- Operations, outcomes and entries whose texts are still in the bytes.
use Rattle.vr_header.specs.declared.operation.Operation.{Operation}
use Rattle.vr_header.specs.declared.operation.Operation.TheVariants.{Register, Put, Get, Delete}
use Rattle.vr_header.specs.declared.outcome.Outcome.{Outcome}
use Rattle.vr_header.specs.declared.outcome.Outcome.TheVariants as outcome
use Rattle.vr_header.specs.declared.view.OutcomeView.{OutcomeView}
use Rattle.vr_header.specs.declared.view.OutcomeView.TheVariants as read
use Rattle.vr_header.specs.declared.view.EntryView.{EntryView}
use Rattle.vr_header.specs.declared.view.OperationView.{OperationView}
use Rattle.vr_header.specs.declared.view.OperationView.TheVariants as view
use Rattle.vr_header.specs.Made.{Whole}

abbrev pub operation_seen : OperationView → Operation
operation_seen view.Register = Register
operation_seen (view.Put key value) = Put key.now value.now
operation_seen (view.Get key) = Get key.now
operation_seen (view.Delete key) = Delete key.now

abbrev pub outcome_seen : OutcomeView → Outcome
outcome_seen read.Session = outcome.Session
outcome_seen read.Ok = outcome.Ok
outcome_seen read.Full = outcome.Full
outcome_seen read.Absent = outcome.Absent
outcome_seen (read.Value value) = outcome.Value value.now

abbrev pub entry_seen : EntryView → Whole
entry_seen e = record { header = e.header; operation = operation_seen e.operation }

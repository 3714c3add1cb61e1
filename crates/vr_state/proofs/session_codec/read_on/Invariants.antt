use Rattle.std.proofs.Common.{◌≡◌, ◌-◌}
use Rattle.std.specs.Ordering.{nat_cmp}
use Rattle.vr_state.specs.Finite.{IsMap}
use Rattle.vr_state.specs.Table.{read_on}
use Rattle.vr_state.specs.SessionTexts.{session_from}
use Rattle.vr_state.proofs.session_codec.read_on.Given as goal

abbrev pub invariant-loop-i : goal.invariant-loop-i
invariant-loop-i l = record {
  is_map : IsMap nat_cmp l.table.entries;
  left : read_on nat_cmp session_from (l.count - l.i) l.table.entries l.rest ≡ read_on nat_cmp session_from l.count l.fn.table.entries l.bytes;
}

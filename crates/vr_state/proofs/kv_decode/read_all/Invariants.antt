use Rattle.std.proofs.Common.{◌≡◌, ◌-◌, []}
use Rattle.vr_state.specs.Finite.{byte_order, IsMap}
use Rattle.vr_state.specs.Table.{read_on}
use Rattle.vr_state.specs.Pairs.{pair_from}
use Rattle.vr_state.proofs.kv_decode.read_all.Given as goal

abbrev pub invariant-loop-i : goal.invariant-loop-i
invariant-loop-i l = record {
  is_map : IsMap byte_order l.pairs;
  left : read_on byte_order pair_from (l.count - l.i) l.pairs l.rest ≡ read_on byte_order pair_from l.count [] l.bytes;
}

-- Behind a map a pair stands in order exactly where it stands above the last.
use Rattle.std.proofs.Common.{rules}
use Rattle.vr_state.specs.Finite.{byte_order}
use Rattle.vr_state.proofs.Maps.{IsMap-push}
use Rattle.vr_state.proofs.KvSteps.{bytes_total}
use Rattle.vr_state.proofs.kv_decode.follows.Goals as goal

pub returns-in-Some : goal.returns-in-Some
returns-in-Some c = rw (IsMap-push byte_order bytes_total c.args.pairs.now c.args.pair.now c.requires, ← c.in-Some.ensures.value) (search rules)

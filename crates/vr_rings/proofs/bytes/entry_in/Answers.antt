use Rattle.vr_rings.proofs.Spelling.{sized_none}
use Rattle.vr_rings.proofs.bytes.entry_in.Goals as goal

pub returns-then-get-bytes-clause-value : goal.returns-then-get-bytes-clause-value
returns-then-get-bytes-clause-value g c = sized_none c.args.bytes.now c.in_ok-header.header c.get.result c.in_ok-header.ensures.value c.get.ensures.value c.if-get-bytes.true

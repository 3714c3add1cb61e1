use Rattle.std.proofs.Common.{◌≡◌, drop}
use Rattle.vr_base.specs.Bytes.{name_of}
use Rattle.vr_msg.specs.Spelling.{AreHeaders}
use Rattle.vr_rules.specs.Words.{is_chain}
use Rattle.vr_volatile.proofs.taking.is_chain.Given as goal

abbrev pub invariant-loop-i : goal.invariant-loop-i
invariant-loop-i l = record {
  chain : is_chain name_of l.headers ≡ is_chain name_of (drop l.i l.headers);
  values : AreHeaders (drop l.i l.headers) → AreHeaders l.headers;
}

use Rattle.std.proofs.Common.{◌≡◌, vec_len}
use Rattle.vr_real.proofs.addresses.addresses_of.Given as goal

abbrev pub invariant-loop-text : goal.invariant-loop-text
invariant-loop-text g l = vec_len l.addresses ≡ l.text-index

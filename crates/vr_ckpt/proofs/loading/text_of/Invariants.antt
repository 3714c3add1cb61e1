use Rattle.std.proofs.Common.{◌≡◌, ◌++◌, drop}
use Rattle.vr_ckpt.specs.Loads.{text_of}
use Rattle.vr_ckpt.proofs.loading.text_of.Given as goal

abbrev pub invariant-loop-payload : goal.invariant-loop-payload
invariant-loop-payload l = l.text ++ text_of (drop l.payload-index l.payloads) ≡ text_of l.payloads

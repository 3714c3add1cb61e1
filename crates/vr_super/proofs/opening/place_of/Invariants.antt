use Rattle.std.proofs.Common.{◌≡◌, ◌+◌, drop}
use Rattle.std.specs.Prelude.{map}
use Rattle.vr_super.specs.Opens.{place_of}
use Rattle.vr_super.specs.Seen.{seen}
use Rattle.vr_super.proofs.opening.place_of.Given as goal

abbrev pub invariant-loop-r : goal.invariant-loop-r
invariant-loop-r l = record {
  at : l.at ≡ l.r-index;
  place : place_of l.bytes (map seen l.readings) ≡ l.at + place_of l.bytes (map seen (drop l.r-index l.readings));
}

-- The program's sectors are a disk of which steps save well.
use Rattle.std.proofs.Common.{arith, ◌<◌, ◌/◌, ◌%◌}
use Rattle.std.proofs.lemmas.Nat.{mod_below}
use Rattle.vr_base.proofs.AreBytes.{IsBytes-name_of}
use Rattle.vr_base.proofs.FieldLaws.{length-name_of}
use Rattle.vr_ckpt.specs.Saves.{root_of}
use Rattle.vr_rules.specs.Laws.{SectorsFit}

pub sectors_fit : SectorsFit
unfolding root_of
sectors_fit v = (
  λ bytes. (length-name_of bytes, IsBytes-name_of bytes),
  record {
    address = λ cluster texts op old. let l : (op / 32) % 2 < 2 = mod_below (op / 32) 2 (omega arith) in omega arith;
    name = λ cluster texts op old. (length-name_of _, IsBytes-name_of _);
  },
)

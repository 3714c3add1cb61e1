use Rattle.vr_super.proofs.Best.{opens_law}
use Rattle.vr_super.proofs.Format.{value_again, value_found}
use Rattle.vr_super.proofs.Keeping.{count_law, mend_law, opens_on, write_law}
use Rattle.vr_super.proofs.laws.superblock_laws.Goals as goal

pub returns : goal.returns
returns c = record {
  spelling = record { found = value_found; again = value_again };
  opens = record { copies = opens_law; disks = opens_on };
  mend = mend_law;
  write = write_law;
  count = count_law;
}

use Rattle.vr_ckpt.proofs.Contents.{one_block, one_spelling, own_names}
use Rattle.vr_ckpt.proofs.Puts.{put_law}
use Rattle.vr_ckpt.proofs.grid.grid_laws.Goals as goal

pub returns : goal.returns
returns c = record { spelling = one_spelling; names = own_names; one = one_block; put = put_law }

use Rattle.std.proofs.Common.{arith}
use Rattle.std.proofs.lemmas.List.{length-take-le}
use Rattle.vr_disk.proofs.sector.put_front.Goals as goal

pub copy_from_slice-requires-2 : goal.copy_from_slice-requires-2
copy_from_slice-requires-2 c =
    let b = c.split_at_mut-to_name.ensures.back_len in
    let n = c.requires.size in
    let t = length-take-le 496 c.args.text.now c.requires.text in
    omega (arith, b, n, t)

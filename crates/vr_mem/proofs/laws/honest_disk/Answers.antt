use Rattle.vr_mem.proofs.laws.honest_disk.Goals as goal

pub returns : goal.returns
returns c m = m.honest.cells

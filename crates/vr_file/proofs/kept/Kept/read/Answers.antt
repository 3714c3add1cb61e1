use Rattle.vr_file.proofs.kept.Kept.read.Goals as goal

pub returns-clause-fresh : goal.returns-clause-fresh
returns-clause-fresh g c = record {
  fresh = c.refresh.new.self.cache;
  between = g.F.PageFile.made c.refresh.new.file;
  first = c.refresh.ensures.fresh;
  known = c.look_up.ensures.quiet;
  unknown = c.look_up.ensures.again;
}

pub returns-clause-given : goal.returns-clause-given
returns-clause-given g c = λ d h. c.look_up.ensures.given d (c.refresh.ensures.above d h)

pub returns-clause-above : goal.returns-clause-above
returns-clause-above g c = λ d h. c.look_up.ensures.above d (c.refresh.ensures.above d h)

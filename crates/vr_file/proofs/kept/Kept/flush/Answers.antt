use Rattle.vr_file.proofs.Above.{above_then}
use Rattle.vr_file.proofs.Known.{kept_then}
use Rattle.vr_file.proofs.kept.Kept.flush.Goals as goal

pub loop-preserved : goal.loop-preserved
loop-preserved g c = record {
  kept = kept_then c.args.self.now.cache c.loop.self.cache c.go_on.new.self.cache c.loop.invariant.kept c.go_on.ensures.kept;
  above = above_then c.args.self.now.cache c.loop.self.cache c.go_on.new.self.cache (g.F.PageFile.told c.args.file.now) (g.F.PageFile.told c.loop.file) (g.F.PageFile.told c.go_on.new.file) (λ e. e) c.loop.invariant.above c.go_on.ensures.above;
}

pub returns-clause-above : goal.returns-clause-above
returns-clause-above g c =
    above_then c.args.self.now.cache c.loop.self.cache c.go_on.new.self.cache (g.F.PageFile.told c.args.file.now) (g.F.PageFile.told c.loop.file) (g.F.PageFile.told c.go_on.new.file) (λ e. e) c.loop.invariant.above c.go_on.ensures.above

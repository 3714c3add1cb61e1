use Rattle.std.proofs.Common.{◌≡◌}
use Rattle.vr_group.proofs.Tops.{top_of}
use Rattle.vr_group.proofs.views.top_view.Given as goal

abbrev pub invariant-loop-at : goal.invariant-loop-at
invariant-loop-at l = record {
  same : l.hosts.items ≡ l.initial.hosts.items;
  top : l.top ≡ top_of l.at l.initial.hosts.items;
}

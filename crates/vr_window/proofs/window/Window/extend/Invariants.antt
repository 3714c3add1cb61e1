use Rattle.std.proofs.Common.{◌≡◌, ◌++◌, replicate}
use Rattle.vr_window.proofs.window.Window.extend.Given as goal

abbrev pub invariant-loop-i : goal.invariant-loop-i
invariant-loop-i g l = l.self ≡ l.initial.self ++ replicate l.i l.item

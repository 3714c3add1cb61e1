-- Behind ascending clients one stands in order exactly where it is above the last.
use Rattle.std.proofs.Common.{sym}
use Rattle.std.specs.Ordering.{nat_cmp}
use Rattle.std.specs.Cmp.{nat_cmp_total}
use Rattle.vr_state.proofs.Maps.{IsMap-push}
use Rattle.vr_state.proofs.Ascending.{is_lt_nat_cmp}
use Rattle.vr_state.proofs.session_table.follows.Goals as goal

pub returns-in-Some : goal.returns-in-Some
returns-in-Some c session =
    rw (IsMap-push nat_cmp nat_cmp_total c.args.table.now.entries (c.args.client, session) c.requires, ← c.in-Some.ensures.entry) (sym (is_lt_nat_cmp c.in-Some.last.now c.args.client))

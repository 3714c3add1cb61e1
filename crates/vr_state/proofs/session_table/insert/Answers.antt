-- Keys that were in order stay so, and the map answers each key as `put` makes it answer.
use Rattle.std.proofs.Common.{◌≡◌, ◌∙◌, rules, refl, sym, ap, subst}
use Rattle.std.specs.List.Sorted.{IsSorted}
use Rattle.std.specs.Ordering.{nat_cmp}
use Rattle.std.specs.FinMap.Entries.{put}
use Rattle.vr_state.specs.Finite.{IsMap}
use Rattle.vr_state.proofs.Lookups.{inserted_is_put}
use Rattle.vr_state.proofs.session_table.insert.Goals as goal

-- in place no key changes
pub returns-in-Some-clause-ok : goal.returns-in-Some-clause-ok
returns-in-Some-clause-ok c =
    let written = c.get_mut.follows.holds c.args.session in
    inserted_is_put c.args.client c.args.session c.args.table.now.entries (c.get_mut.follows.lender c.args.session).entries c.requires
    (λ sorted. subst (λ keys. IsSorted nat_cmp keys) (sym written.1) sorted) written.4 (written.3 (search rules)).0

-- a look-up that finds nothing leaves the map
pub returns-clause-ok : goal.returns-clause-ok
returns-clause-ok c =
    let after = c.in_ok-insert_sorted.ensures in
    let same : c.get_mut.follows.lender-at-none.entries ≡ c.args.table.now.entries = rw c.get_mut.follows.holds-at-none refl in
    inserted_is_put c.args.client c.args.session c.get_mut.follows.lender-at-none.entries c.insert_sorted.new.self.entries (subst (λ es. IsMap nat_cmp es) (sym same) c.requires) after.sorted
    after.unique after.updates.0
    ∙ ap (λ es. put nat_cmp c.args.client c.args.session es) same

-- There is room, or the client has a session, or the oldest gives way.
use Rattle.std.proofs.Common.{◌≡◌, true, false, is_some, sym, ◌∙◌, ap, arith}
use Rattle.std.specs.Ordering.{nat_cmp}
use Rattle.std.specs.FinMap.Entries.{find}
use Rattle.vr_state.specs.Effects.{stored}
use Rattle.vr_state.specs.Sessions.{Asked, Fits}
use Rattle.vr_state.proofs.Lookups.{lookup_is_find}
use Rattle.vr_state.proofs.SessionSteps.{room_applied, room_held, there_applied, there_held, IsMap-put, evicted_applied, evicted_held, full_has_oldest}
use Rattle.vr_state.proofs.sessions.Sessions.store.Goals as goal

pub invariant_of-self-then-len-session_limit : goal.invariant_of-self-then-len-session_limit
invariant_of-self-then-len-session_limit c =
    let a : Asked = record { op = c.args.op; client = c.args.client; request = c.args.request; outcome = c.args.outcome.now; version = c.args.version } in
    let fits : Fits (a.client, stored a) = record { client = omega arith; number = omega arith; op = omega arith; outcome = c.in_ok-session.ensures.fits } in
    rw (c.in_ok-insert.ensures.ok, c.in_ok-session.ensures.session) (room_held c.self.inside.table.entries a c.self.invariant fits (omega arith))

pub returns-then-len-session_limit-clause-ok : goal.returns-then-len-session_limit-clause-ok
returns-then-len-session_limit-clause-ok c =
    let a : Asked = record { op = c.args.op; client = c.args.client; request = c.args.request; outcome = c.args.outcome.now; version = c.args.version } in
    let fits : Fits (a.client, stored a) = record { client = omega arith; number = omega arith; op = omega arith; outcome = c.in_ok-session.ensures.fits } in
    rw (c.in_ok-insert.ensures.ok, c.in_ok-session.ensures.session, ← c.self.view_is) (room_applied c.self.inside.table.entries a c.self.invariant fits (omega arith))

pub invariant_of-self-then-contains_key : goal.invariant_of-self-then-contains_key
invariant_of-self-then-contains_key c =
    let a : Asked = record { op = c.args.op; client = c.args.client; request = c.args.request; outcome = c.args.outcome.now; version = c.args.version } in
    let fits : Fits (a.client, stored a) = record { client = omega arith; number = omega arith; op = omega arith; outcome = c.in_ok-session.ensures.fits } in
    let there : is_some (find nat_cmp c.args.client c.self.inside.table.entries) ≡ true = ap is_some (sym (lookup_is_find c.args.client c.self.inside.table.entries)) ∙ (sym c.contains_key.ensures ∙ c.if-contains_key.true) in
    rw (c.in_ok-insert-2.ensures.ok, c.in_ok-session.ensures.session) (there_held c.self.inside.table.entries a c.self.invariant fits (omega arith) there)

pub returns-then-contains_key-clause-ok : goal.returns-then-contains_key-clause-ok
returns-then-contains_key-clause-ok c =
    let a : Asked = record { op = c.args.op; client = c.args.client; request = c.args.request; outcome = c.args.outcome.now; version = c.args.version } in
    let fits : Fits (a.client, stored a) = record { client = omega arith; number = omega arith; op = omega arith; outcome = c.in_ok-session.ensures.fits } in
    let there : is_some (find nat_cmp c.args.client c.self.inside.table.entries) ≡ true = ap is_some (sym (lookup_is_find c.args.client c.self.inside.table.entries)) ∙ (sym c.contains_key.ensures ∙ c.if-contains_key.true) in
    rw (c.in_ok-insert-2.ensures.ok, c.in_ok-session.ensures.session, ← c.self.view_is) (there_applied c.self.inside.table.entries a c.self.invariant fits (omega arith) there)

-- as many sessions as a version leaves have an oldest
pub invariant_of-self-in-Continue-branch-4 : goal.invariant_of-self-in-Continue-branch-4
invariant_of-self-in-Continue-branch-4 c = absurd (full_has_oldest c.args.version c.self.inside.table.entries (omega arith) (sym c.in-None.ensures))

pub returns-in_ok-insert-in-None-clause-ok : goal.returns-in_ok-insert-in-None-clause-ok
returns-in_ok-insert-in-None-clause-ok c = absurd (full_has_oldest c.args.version c.self.inside.table.entries (omega arith) (sym c.in-None.ensures))

pub remove-requires : goal.remove-requires
remove-requires c = rw c.in_ok-insert-in-Some.ensures.ok (IsMap-put c.self.inside.table.entries c.args.client c.in_ok-session.session c.self.invariant.is_map)

pub invariant_of-self-in-Some : goal.invariant_of-self-in-Some
invariant_of-self-in-Some c =
    let a : Asked = record { op = c.args.op; client = c.args.client; request = c.args.request; outcome = c.args.outcome.now; version = c.args.version } in
    let fits : Fits (a.client, stored a) = record { client = omega arith; number = omega arith; op = omega arith; outcome = c.in_ok-session.ensures.fits } in
    let absent : is_some (find nat_cmp c.args.client c.self.inside.table.entries) ≡ false = ap is_some (sym (lookup_is_find c.args.client c.self.inside.table.entries)) ∙ (sym c.contains_key.ensures ∙ c.if-contains_key.false) in
    rw (c.remove.ensures, c.in_ok-insert-in-Some.ensures.ok, c.in_ok-session.ensures.session)
    (evicted_held c.self.inside.table.entries a c.self.invariant fits (omega arith) absent c.in-Some.least c.in-Some.field-0-1 (sym c.in-Some.ensures))

pub returns-in_ok-insert-in-Some-clause-ok : goal.returns-in_ok-insert-in-Some-clause-ok
returns-in_ok-insert-in-Some-clause-ok c =
    let a : Asked = record { op = c.args.op; client = c.args.client; request = c.args.request; outcome = c.args.outcome.now; version = c.args.version } in
    let fits : Fits (a.client, stored a) = record { client = omega arith; number = omega arith; op = omega arith; outcome = c.in_ok-session.ensures.fits } in
    let absent : is_some (find nat_cmp c.args.client c.self.inside.table.entries) ≡ false = ap is_some (sym (lookup_is_find c.args.client c.self.inside.table.entries)) ∙ (sym c.contains_key.ensures ∙ c.if-contains_key.false) in
    rw (c.remove.ensures, c.in_ok-insert-in-Some.ensures.ok, c.in_ok-session.ensures.session, ← c.self.view_is)
    (evicted_applied c.self.inside.table.entries a c.self.invariant fits (omega arith) absent c.in-Some.least c.in-Some.field-0-1 (sym c.in-Some.ensures))

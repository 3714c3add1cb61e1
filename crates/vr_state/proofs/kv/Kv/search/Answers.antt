-- The closure gives the order of a pair's key and this key, and the slice has the machine's pairs.
use Rattle.std.proofs.Common.{rules}
use Rattle.std.proofs.lemmas.Fn.{always_returns_same}
use Rattle.vr_state.specs.Finite.{byte_order}
use Rattle.vr_state.proofs.Places.{searched}
use Rattle.vr_state.proofs.KvSteps.{bytes_total}
use Rattle.vr_state.proofs.kv.Kv.search.Goals as goal

pub returns-clause-found : goal.returns-clause-found
returns-clause-found c =
    let facts = c.binary_search_by.ensures in
    let by_key = facts.position (λ pair. byte_order pair.0 c.args.key.now) (always_returns_same _ _ _ (λ a r g called. search rules)) in
    rw (← c.self.view_is, ← c.deref.ensures.value) (searched byte_order bytes_total _ (rw c.deref.ensures.value c.self.invariant.is_map) c.args.key.now _ facts.bound by_key).0

pub returns-clause-absent : goal.returns-clause-absent
returns-clause-absent c =
    let facts = c.binary_search_by.ensures in
    let by_key = facts.position (λ pair. byte_order pair.0 c.args.key.now) (always_returns_same _ _ _ (λ a r g called. search rules)) in
    rw (← c.self.view_is, ← c.deref.ensures.value) (searched byte_order bytes_total _ (rw c.deref.ensures.value c.self.invariant.is_map) c.args.key.now _ facts.bound by_key).1

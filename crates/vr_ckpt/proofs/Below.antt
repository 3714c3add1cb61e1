-- A checkpoint of few payloads is written below address 128.
use Rattle.std.proofs.Common.{ℕ, ◌+◌, ◌≤◌, ◌<◌, ◌≢◌, inl, inr, arith, refl, List, [], ◌∷◌, length}
use Rattle.std.specs.List.{AllByRecursion}
use Rattle.std.proofs.lemmas.Bool.{cases_lt}
use Rattle.vr_state.specs.StateTexts.{payloads}
use Rattle.vr_state.specs.declared.texts.Texts.{Texts}
use Rattle.vr_ckpt.specs.Laws.{FewStandBelow}
use Rattle.vr_ckpt.specs.Places.{keys_places, place_of, root_place, sessions_places}
use Rattle.vr_ckpt.specs.Saves.{changed, keys_run, sessions_run, table_of, written}
use Rattle.vr_ckpt.specs.declared.block.Block.{Block}
use Rattle.vr_ckpt.specs.declared.plan.Run.{Run}
use Rattle.vr_ckpt.specs.declared.table.Payload.{Payload}
use Rattle.vr_ckpt.specs.declared.table.PayloadTable.{PayloadTable}
use Rattle.vr_ckpt.proofs.Apart.{Avoids, Elsewhere, avoid, avoids_append, root_avoids}
use Rattle.vr_ckpt.proofs.Placing.{AtPlace, place_few, twin_below}

-- both places of a payload that has its lower one below 64
near : (low x : ℕ) → low < 64 → AtPlace low x → x < 128
near low x l (inl e) = omega arith
near low x l (inr e) = let t = twin_below low (omega arith) in omega arith

elsewhere : (r : Run) (old : List Payload) (k a : ℕ) → r.places.low + r.places.few ≤ 64 → k < r.places.few → 128 ≤ a → Elsewhere r old k a
elsewhere r old k a room l m x at away e =
    let place = place_few r.places k l in
    let below = near (place_of r.places k) x (omega arith) at in
    omega arith

below_avoided : (cluster : ℕ) (texts : Texts) (op : ℕ) (old : PayloadTable) → payloads (length texts.sessions) ≤ sessions_places.few → payloads (length texts.keys) ≤ keys_places.few
    → (a : ℕ) → 128 ≤ a → Avoids a (written cluster texts op old)
unfolding written
below_avoided cluster texts op old few many a m =
    avoids_append a (changed (sessions_run cluster op) texts.sessions old.sessions) _
    (avoid (sessions_run cluster op) texts.sessions old.sessions 0 (payloads (length texts.sessions)) a (λ k x y. elsewhere (sessions_run cluster op) old.sessions k a (omega arith) (omega arith) m))
    (avoids_append a (changed (keys_run cluster op) texts.keys old.keys) _
    (avoid (keys_run cluster op) texts.keys old.keys 0 (payloads (length texts.keys)) a (λ k x y. elsewhere (keys_run cluster op) old.keys k a (omega arith) (omega arith) m))
    (root_avoids cluster op a texts (table_of cluster texts op old) (λ e. absurd (omega arith))))

each_below : (bs : List Block) → ((a : ℕ) → 128 ≤ a → Avoids a bs) → AllByRecursion (λ (b : Block). b.name.address < 128) bs
each_below [] h = tt
each_below (b ∷ bs) h = (elim (cases_lt b.name.address 128) [ inl l ↦ l | inr m ↦ absurd ((h b.name.address m).0 refl) ], each_below bs (λ a m. (h a m).1))

pub few_below : FewStandBelow
few_below cluster texts op old few many = each_below (written cluster texts op old) (below_avoided cluster texts op old few many)

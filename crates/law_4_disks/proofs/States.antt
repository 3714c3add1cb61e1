-- States of the program: what their texts are, and what applying keeps.
use Rattle.std.proofs.Common.{ℕ, ◌≤◌, ◌≡◌, arith, refl, subst, Bool, true, false, cond, ltb, List, [], ◌∷◌, ◌++◌, length, Some, None, Ok, Err}
use Rattle.std.specs.Prelude.{is_some}
use Rattle.std.specs.List.{AllByRecursion, flat_map}
use Rattle.std.specs.Option.{option_map_or}
use Rattle.std.specs.Ordering.{eq_by_cmp, nat_cmp}
use Rattle.std.proofs.lemmas.Bool.{cond_both, ltb-true, ltb-false}
use Rattle.std.specs.FinMap.Entries.{find, put}
use Rattle.vr_base.specs.Versions.{session_limit, value_limit}
use Rattle.vr_base.proofs.Versions.{more}
use Rattle.vr_base.specs.Bytes.{IsBytes, bytes16, bytes32, bytes64}
use Rattle.vr_base.proofs.AreBytes.{IsBytes-append, IsBytes-bytes16, IsBytes-bytes32, IsBytes-bytes64, IsBytes-none, IsBytes-one}
use Rattle.vr_header.specs.Bodies.{IsOperation, outcome_bytes}
use Rattle.vr_header.specs.Made.{Whole}
use Rattle.vr_header.specs.Text.{is_text}
use Rattle.vr_header.specs.declared.operation.Operation.{Operation}
use Rattle.vr_header.specs.declared.operation.Operation.TheVariants.{Register, Put, Get, Delete}
use Rattle.vr_header.specs.declared.outcome.Outcome.{Outcome}
use Rattle.vr_header.specs.declared.outcome.Outcome.TheVariants as outcome
use Rattle.vr_header.proofs.AreBytes.{text-are}
use Rattle.vr_header.proofs.BodyLaws.{text_limit, text_more}
use Rattle.vr_state.specs.Finite.{byte_order}
use Rattle.vr_state.specs.Table.{table_text}
use Rattle.vr_state.specs.Kv as kv
use Rattle.vr_state.specs.Kv.{IsKv}
use Rattle.vr_state.specs.Pairs as pairs
use Rattle.vr_state.specs.Pairs.{kv_decoded, kv_text, pair_text}
use Rattle.vr_state.proofs.KvSteps.{IsKv-deleting, IsKv-empty, IsKv-putting}
use Rattle.vr_state.proofs.KvTexts.{kv_found, length-kv_text}
use Rattle.vr_state.specs.Sessions as sess
use Rattle.vr_state.specs.Sessions.{IsSessions, OutcomeFits, oldest}
use Rattle.vr_state.specs.Effects.{stored}
use Rattle.vr_state.specs.SessionTexts.{session_text, sessions_decoded, sessions_text}
use Rattle.vr_state.specs.declared.session.Session.{Session}
use Rattle.vr_state.specs.declared.session.SessionAnswer.TheVariants as answer
use Rattle.vr_state.proofs.SessionSteps.{evicted_applied, evicted_held, full_has_oldest, room_applied, room_held, there_applied, there_held}
use Rattle.vr_state.proofs.Spelled.{length-sessions_text, sessions_found}
use Rattle.vr_state.specs.Folds.{applied, answered, empty, asked, check, executed}
use Rattle.vr_state.specs.StateTexts.{both_read, key_payloads, payloads, session_payloads, state_decoded, texts_of}
use Rattle.vr_state.specs.declared.texts.Texts.{Texts}
use Rattle.vr_state.specs.declared.state.State.{State}
use Rattle.vr_rings.specs.Slots.{IsWhole}

pub record IsState (s : State) : Type 0 where
  pub sessions : IsSessions s.sessions
  pub machine : IsKv s.machine

-- ---- texts are bytes

outcome_are : (o : Outcome) → OutcomeFits o → IsBytes (outcome_bytes o)
unfolding outcome_bytes
outcome_are outcome.Session f = IsBytes-one 1 [] (omega arith) IsBytes-none
outcome_are outcome.Ok f = IsBytes-one 2 [] (omega arith) IsBytes-none
outcome_are outcome.Full f = IsBytes-one 3 [] (omega arith) IsBytes-none
outcome_are outcome.Absent f = IsBytes-one 4 [] (omega arith) IsBytes-none
outcome_are (outcome.Value value) f = IsBytes-append (5 ∷ bytes16 (length value)) value (IsBytes-one 5 (bytes16 (length value)) (omega arith) (IsBytes-bytes16 (length value))) (text-are (value_limit 2) value f)

session_are : (e : ℕ × Session) → sess.Fits e → IsBytes (session_text e)
unfolding session_text
session_are e f =
    IsBytes-append (bytes64 e.0) (bytes32 e.1.number ++ (bytes64 e.1.op ++ outcome_bytes e.1.outcome)) (IsBytes-bytes64 e.0)
    (IsBytes-append (bytes32 e.1.number) (bytes64 e.1.op ++ outcome_bytes e.1.outcome) (IsBytes-bytes32 e.1.number) (IsBytes-append (bytes64 e.1.op) (outcome_bytes e.1.outcome) (IsBytes-bytes64 e.1.op) (outcome_are e.1.outcome f.outcome)))

all_sessions : (m : sess.Map) → AllByRecursion sess.Fits m → IsBytes (flat_map session_text m)
all_sessions [] h = IsBytes-none
all_sessions (e ∷ es) h = IsBytes-append (session_text e) (flat_map session_text es) (session_are e h.0) (all_sessions es h.1)

sessions_are : (m : sess.Map) → IsSessions m → IsBytes (sessions_text m)
unfolding table_text
sessions_are m h = IsBytes-append (bytes16 (length m)) (flat_map session_text m) (IsBytes-bytes16 (length m)) (all_sessions m h.fit)

pair_are : (e : List ℕ × List ℕ) → pairs.Fits e → IsBytes (pair_text e)
unfolding pair_text
pair_are e f =
    let k = text_limit 64 e.0 f.key in
    IsBytes-one (length e.0) (bytes16 (length e.1) ++ (e.0 ++ e.1)) (omega (arith, k)) (IsBytes-append (bytes16 (length e.1)) (e.0 ++ e.1) (IsBytes-bytes16 (length e.1)) (IsBytes-append e.0 e.1 (text-are 64 e.0 f.key) (text-are (value_limit 2) e.1 f.value)))

all_pairs : (m : kv.Map) → AllByRecursion pairs.Fits m → IsBytes (flat_map pair_text m)
all_pairs [] h = IsBytes-none
all_pairs (e ∷ es) h = IsBytes-append (pair_text e) (flat_map pair_text es) (pair_are e h.0) (all_pairs es h.1)

keys_are : (m : kv.Map) → IsKv m → IsBytes (kv_text m)
unfolding table_text
keys_are m h = IsBytes-append (bytes16 (length m)) (flat_map pair_text m) (IsBytes-bytes16 (length m)) (all_pairs m h.fit)

-- and fill so many payloads
pub record IsText (t : Texts) : Type 0 where
  pub sessions : IsBytes t.sessions
  pub keys : IsBytes t.keys
  pub few_sessions : payloads (length t.sessions) ≤ session_payloads
  pub few_keys : payloads (length t.keys) ≤ key_payloads

pub text_of_state : (s : State) → IsState s → IsText (texts_of s)
text_of_state s h =
    let a = length-sessions_text s.sessions h.sessions in
    let b = length-kv_text s.machine h.machine in
    record { sessions = sessions_are s.sessions h.sessions; keys = keys_are s.machine h.machine; few_sessions = omega (arith, a); few_keys = omega (arith, b) }

-- ---- applying

find_fits : (m : kv.Map) (key value : List ℕ) → AllByRecursion pairs.Fits m → find byte_order key m ≡ Some value → is_text (value_limit 2) value ≡ true
find_fits [] key value h e = absurd cc
find_fits (x ∷ xs) key value h e =
    elim (eq_by_cmp byte_order key x.0) as (λ b. cond b (Some x.1) (find byte_order key xs) ≡ Some value → is_text (value_limit 2) value ≡ true) [
      | true ↦ λ e. (let same : x.1 ≡ value = cc in subst (λ (v : List ℕ). is_text (value_limit 2) v ≡ true) same h.0.value)
      | false ↦ λ e. find_fits xs key value h.1 e
    ] e

getting_fits : (m : kv.Map) (key : List ℕ) → IsKv m → OutcomeFits (kv.getting m key).outcome
unfolding kv.getting
getting_fits m key h = elim (find byte_order key m) as (λ o. find byte_order key m ≡ o → OutcomeFits (option_map_or outcome.Value o outcome.Absent)) [ Some v ↦ λ e. find_fits m key v h.fit e | None ↦ λ e. tt ] refl

putting_fits : (m : kv.Map) (key value : List ℕ) → OutcomeFits (kv.putting m key value).outcome
unfolding kv.putting
putting_fits m key value =
    let new = kv.answers (put byte_order key value m) outcome.Ok in
    cond_both (is_some (find byte_order key m)) new (cond (ltb (length m) 128) new (kv.answers m outcome.Full)) (λ a. OutcomeFits a.outcome) (λ t. tt)
    (λ t. cond_both (ltb (length m) 128) new (kv.answers m outcome.Full) (λ a. OutcomeFits a.outcome) (λ t. tt) (λ t. tt))

deleting_fits : (m : kv.Map) (key : List ℕ) → OutcomeFits (kv.deleting m key).outcome
unfolding kv.deleting
deleting_fits m key = cond_both (is_some (find byte_order key m)) _ (kv.answers m outcome.Absent) (λ a. OutcomeFits a.outcome) (λ t. tt) (λ t. tt)

record Machined (m : kv.Map) (o : Operation) : Type 0 where
  machine : IsKv (kv.applied m o).machine
  outcome : OutcomeFits (kv.applied m o).outcome

machined : (v : ℕ) (m : kv.Map) (o : Operation) → v ≤ 2 → IsKv m → IsOperation v o → Machined m o
unfolding kv.applied kv.getting
machined v m Register l h g = record { machine = h; outcome = tt }
machined v m (Put key value) l h g = record { machine = IsKv-putting m key value h (record { key = g.0; value = text_more (value_limit v) (value_limit 2) value (more v 2 1024 3000 l (omega arith) (omega arith)) g.1 }); outcome = putting_fits m key value }
machined v m (Get key) l h g = record { machine = h; outcome = getting_fits m key h }
machined v m (Delete key) l h g = record { machine = IsKv-deleting m key h; outcome = deleting_fits m key }

stored_sessions : (m : sess.Map) (a : sess.Asked) → IsSessions m → sess.Fits (a.client, stored a) → IsSessions (sess.applied m a)
stored_sessions m a held f =
    let by : (room there : Bool) → ltb (length m) (session_limit a.version) ≡ room → is_some (find nat_cmp a.client m) ≡ there → IsSessions (sess.applied m a) = elim [
      | true ↦ λ there r t. subst IsSessions (room_applied m a held f (ltb-true (length m) (session_limit a.version) r)) (room_held m a held f (ltb-true (length m) (session_limit a.version) r))
      | false ↦ elim [
        | true ↦ λ r t. subst IsSessions (there_applied m a held f (ltb-false (length m) (session_limit a.version) r) t) (there_held m a held f (ltb-false (length m) (session_limit a.version) r) t)
        | false ↦ λ r t.
            let full = ltb-false (length m) (session_limit a.version) r in
            elim (oldest m) as (λ o. oldest m ≡ o → IsSessions (sess.applied m a)) [
              | None ↦ λ e. absurd (full_has_oldest a.version m full e)
              | Some d ↦ λ e. subst IsSessions (evicted_applied m a held f full t d.0 d.1 e) (evicted_held m a held f full t d.0 d.1 e)
            ] refl
      ]
    ] in
    by (ltb (length m) (session_limit a.version)) (is_some (find nat_cmp a.client m)) refl refl

-- an entry that is applied
pub state_kept : (s : State) (e : Whole) → IsState s → IsWhole e → IsState (applied s e).state
unfolding applied answered executed
state_kept s e h w =
    let m = machined e.header.version s.machine e.operation w.header.version.1 h.machine w.entry.body.fits in
    let f : sess.Fits ((asked s e).client, stored (asked s e)) = record { client = w.header.client; number = w.header.request; op = w.entry.header.op.1; outcome = m.outcome } in
    elim (check s e) as (λ a. IsState (answered s e a).state) [
      | answer.Fresh ↦ record { sessions = stored_sessions s.sessions (asked s e) h.sessions f; machine = m.machine }
      | answer.Repeat outcome op ↦ h
      | answer.Old ↦ h
      | answer.Gap ↦ h
      | answer.Evicted ↦ h
    ]

-- and a state that is read
pub state_read : (t : Texts) (s : State) → IsBytes t.sessions → IsBytes t.keys → state_decoded t ≡ Ok s → IsState s
state_read t s a b e =
    elim (sessions_decoded t.sessions) as (λ o. sessions_decoded t.sessions ≡ o → both_read o (kv_decoded t.keys) ≡ Ok s → IsState s) [
      | Err fault ↦ λ i k. absurd cc
      | Ok m ↦ λ i. elim (kv_decoded t.keys) as (λ p. kv_decoded t.keys ≡ p → both_read (Ok m) p ≡ Ok s → IsState s) [
        | Err fault ↦ λ j k. absurd cc
        | Ok machine ↦ λ j k.
            let same : m ≡ s.sessions = cc in
            let other : machine ≡ s.machine = cc in
            record { sessions = subst IsSessions same (sessions_found t.sessions a m i).0; machine = subst IsKv other (kv_found t.keys b machine j).0 }
      ] refl
    ] refl e

pub state_empty : IsState empty
state_empty = record { sessions = record { is_map = refl; fit = tt; few = omega arith }; machine = IsKv-empty }

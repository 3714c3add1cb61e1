-- The sessions of a log's state come of its entries; so each checkpoint that a run of a group writes is of sessions that come of entries.
use Rattle.std.proofs.Common.{ℕ, zero, suc, ◌≡◌, arith, sym, ap, subst, Bool, List, [], ◌∷◌, length, Option, Some, None, ltb}
use Rattle.std.specs.Prelude.{⊤, is_some, slice_get}
use Rattle.std.specs.List.{AllByRecursion}
use Rattle.std.specs.Option.{option_map_or}
use Rattle.std.specs.Ordering.{nat_cmp}
use Rattle.std.specs.declared.cmp.Ordering.TheVariants.{Less, Equal, Greater}
use Rattle.std.specs.FinMap.Entries.{by_order, where_key, find, put}
use Rattle.std.proofs.lemmas.Bool.{cond_both}
use Rattle.vr_base.specs.Versions.{session_limit}
use Rattle.vr_header.specs.Made.{Whole}
use Rattle.vr_header.specs.Names.{root_header}
use Rattle.vr_header.specs.NoCollision.{NoCollision}
use Rattle.vr_header.specs.declared.operation.Operation.{Operation}
use Rattle.vr_header.specs.declared.operation.Operation.TheVariants.{Register}
use Rattle.vr_header.specs.declared.outcome.Outcome.TheVariants as outcome
use Rattle.vr_state.specs.Finite.{without}
use Rattle.vr_state.specs.Kv as kv
use Rattle.vr_state.specs.Sessions as sess
use Rattle.vr_state.specs.Sessions.{Map, oldest, without_oldest}
use Rattle.vr_state.specs.Effects.{stored}
use Rattle.vr_state.specs.SessionTexts.{sessions_text}
use Rattle.vr_state.specs.declared.session.Session.{Session}
use Rattle.vr_state.specs.declared.session.SessionAnswer.TheVariants as answer
use Rattle.vr_state.specs.Folds.{answered, applied, asked, check, executed}
use Rattle.vr_state.specs.declared.texts.Texts.{Texts}
use Rattle.vr_state.specs.declared.state.State.{State}
use Rattle.vr_state.proofs.Stored.{state_next}
use Rattle.vr_rings.specs.Slots.{IsWhole}
use Rattle.vr_world.specs.Checkpoints.{state_at}
use Rattle.vr_world.specs.Group.{Played}
use Rattle.vr_world.specs.Safe.{IsHashed}
use Rattle.vr_rules.specs.Steps.{Effect, Rewrite, Save, Mend, Checkpoint, PutBlock, Say}
use Rattle.vr_rules.specs.Steps as effect
use Rattle.law_2_chains.specs.Chains.{Every}
use Rattle.law_3_outputs.specs.Followed.{IsFitRun}
use Rattle.law_3_outputs.proofs.Log.{is_log, the_log}
use Rattle.law_6_one_log.proofs.Following.{follows_it}
use Rattle.law_6_one_log.proofs.Runs.{borne_at}
use Rattle.law_6_one_log.proofs.Values.{AreSettled, state_is}
use Rattle.law_6_one_log.proofs.Walk.{IsBorne}
use Rattle.law_5_seals.specs.Laws.{IsOfEntry}

-- ---- a session that is stored, and one that gives way

put_come : (key : ℕ) (s : Session) (m : Map) → AllByRecursion IsOfEntry m → IsOfEntry (key, s) → AllByRecursion IsOfEntry (put nat_cmp key s m)
put_come key s [] h f = (f, tt)
put_come key s (e ∷ es) h f =
    elim (nat_cmp key e.0) as (λ o. AllByRecursion IsOfEntry (by_order o ((key, s) ∷ e ∷ es) ((e.0, s) ∷ es) (e ∷ put nat_cmp key s es))) [
      | Less ↦ (f, h)
      | Equal ↦ let same : IsOfEntry (e.0, s) = record { op = f.op; first = f.first } in (same, h.1)
      | Greater ↦ (h.0, put_come key s es h.1 f)
    ]

where_come : (p : ℕ → Bool) (m : Map) → AllByRecursion IsOfEntry m → AllByRecursion IsOfEntry (where_key nat_cmp p m)
where_come p [] h = tt
where_come p (e ∷ es) h = cond_both (p e.0) (e ∷ where_key nat_cmp p es) (where_key nat_cmp p es) (AllByRecursion IsOfEntry) (λ t. (h.0, where_come p es h.1)) (λ f. where_come p es h.1)

gone_come : (m : Map) (o : Option (ℕ × ℕ)) → AllByRecursion IsOfEntry m → AllByRecursion IsOfEntry (option_map_or (λ d. without nat_cmp d.0 m) o m)
gone_come m None h = h
gone_come m (Some d) h = where_come _ m h

applied_come : (m : Map) (a : sess.Asked) → AllByRecursion IsOfEntry m → IsOfEntry (a.client, stored a) → AllByRecursion IsOfEntry (sess.applied m a)
unfolding sess.applied without_oldest
applied_come m a h f =
    let here = put nat_cmp a.client (stored a) m in
    let there = put nat_cmp a.client (stored a) (without_oldest m) in
    let inner = put_come a.client (stored a) m h f in
    cond_both (ltb (length m) (session_limit a.version)) here _ (AllByRecursion IsOfEntry) (λ t. inner)
    (λ t. cond_both (is_some (find nat_cmp a.client m)) here there (AllByRecursion IsOfEntry) (λ t. inner) (λ t. put_come a.client (stored a) (without_oldest m) (gone_come m (oldest m) h) f))

-- ---- an entry that is applied

begins_session : (m : kv.Map) (o : Operation) → o ≡ Register → (kv.applied m o).outcome ≡ outcome.Session
unfolding kv.applied
begins_session m o e = ap (λ (o : Operation). (kv.applied m o).outcome) e

entry_come : (s : State) (e : Whole) → IsWhole e → IsOfEntry ((asked s e).client, stored (asked s e))
entry_come s e w = record { op = w.entry.header.op.0; first = λ none. begins_session s.machine e.operation (w.entry.body.first.1 none) }

state_come : (s : State) (e : Whole) → AllByRecursion IsOfEntry s.sessions → IsWhole e → AllByRecursion IsOfEntry (applied s e).state.sessions
unfolding applied answered executed
state_come s e h w =
    elim (check s e) as (λ a. AllByRecursion IsOfEntry (answered s e a).state.sessions) [
      | answer.Fresh ↦ applied_come s.sessions (asked s e) h (entry_come s e w)
      | answer.Repeat outcome op ↦ h
      | answer.Old ↦ h
      | answer.Gap ↦ h
      | answer.Evicted ↦ h
    ]

log_come : (log : List Whole) (m : ℕ) → AreSettled log m → AllByRecursion IsOfEntry (state_at log m).sessions
log_come log zero h = tt
log_come log (suc m) h =
    let e = h m (omega arith) in
    subst (λ (s : State). AllByRecursion IsOfEntry s.sessions) (sym (state_next log m e.entry e.at)) (state_come (state_at log m) e.entry (log_come log m (λ k l. h k (omega arith))) e.whole)

-- ---- a checkpoint

-- its sessions come of entries
pub record AreOfEntries (texts : Texts) : Type 0 where
  pub sessions : Map
  pub are : texts.sessions ≡ sessions_text sessions
  pub fit : AllByRecursion sess.Fits sessions
  pub come : AllByRecursion IsOfEntry sessions

abbrev pub ComesOfEntries : Effect → Type 0
ComesOfEntries (Checkpoint cluster texts op old) = AreOfEntries texts
ComesOfEntries _ = ⊤

effect_comes : (H : List ℕ → Type 0) (home : ℕ) (log : List Whole) (e : Effect) → IsBorne H home log e → ComesOfEntries e
effect_comes H home log (effect.Write again e) b = tt
effect_comes H home log (Rewrite h) b = tt
effect_comes H home log (Save old new) b = tt
effect_comes H home log (Mend v) b = tt
effect_comes H home log (Checkpoint by texts op old) b =
    record { sessions = (state_at log op).sessions; are = ap (λ (t : Texts). t.sessions) b.state; fit = (state_is log op b.settled).sessions.fit; come = log_come log op b.settled }
effect_comes H home log (PutBlock name block) b = tt
effect_comes H home log (Say o) b = tt

script_comes : (H : List ℕ → Type 0) (home : ℕ) (log : List Whole) (es : List Effect) → Every (IsBorne H home log) es → AllByRecursion ComesOfEntries es
script_comes H home log [] b = tt
script_comes H home log (e ∷ es) b = (effect_comes H home log e b.0, script_comes H home log es b.1)

-- of each move of a run in which names don't collide
pub run_comes : (home n : ℕ) (run : List Played) → IsFitRun home n run → NoCollision (IsHashed run (root_header home)) → (t : ℕ) (p : Played) → slice_get run t ≡ Some p → AllByRecursion ComesOfEntries p.moved.script
run_comes home n run fit never t p at =
    let x = follows_it home n run fit in
    let log = the_log home n x.setup run x.followed in
    script_comes (λ bytes. IsHashed run (root_header home) bytes) home log p.moved.script (borne_at home n x.setup run x.followed x.bridges never log (is_log home n x.setup run x.followed) t p at)

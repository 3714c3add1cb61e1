-- A replica that takes over a checkpoint of another one: what it saves is of the log's, as long as a block is missing.
use Rattle.std.proofs.Common.{ℕ, zero, suc, ◌+◌, ◌-◌, ◌≡◌, ◌≢◌, refl, sym, subst, Bool, true, false, List, [], ◌∷◌, length, Option, Some, None}
use Rattle.std.specs.Prelude.{nat_lt, ◌&&◌}
use Rattle.std.specs.Option.{option_map_or}
use Rattle.std.proofs.lemmas.Bool.{eqb-true}
use Rattle.std.proofs.lemmas.List.{nil_from_length}
use Rattle.vr_header.specs.declared.header.Header.{Header}
use Rattle.vr_header.specs.Made.{Whole}
use Rattle.vr_header.specs.NoCollision.{NoCollision}
use Rattle.vr_msg.specs.declared.frame.SyncView.{SyncView}
use Rattle.vr_msg.specs.declared.output.Output.{Output}
use Rattle.vr_msg.specs.Choice.{ops}
use Rattle.vr_rules.specs.Deciding.{Hash}
use Rattle.vr_rules.specs.Replica.{Replica, forgetting, header_at, is_here, part_at}
use Rattle.vr_rules.specs.Rules.{acknowledge, acknowledge_stored}
use Rattle.vr_rules.specs.Steps.{Step, Word, ◌⨾◌, after_all, by, change, does, each, quiet, says, times, when}
use Rattle.vr_rules.specs.Words.{apply, apply_entry, apply_next, is_loaded, jump, jumped, save, value_of, with_entry_at}
use Rattle.vr_world.specs.Lying.{Lying, lying}
use Rattle.law_2_chains.specs.Chains.{Every}
use Rattle.law_2_chains.proofs.Scripts.{every_append}
use Rattle.law_6_one_log.proofs.Values.{Core, IsOffered, Rests, Stands, core}
use Rattle.law_6_one_log.proofs.Walk.{IsBorne, IsOther, Settles, calm_bears, said_borne}
use Rattle.law_6_one_log.proofs.Words.{S}

module _ (H : List ℕ → Type 0) (never : NoCollision H) (cluster : ℕ) (log : List Whole) where
  -- a checkpoint of the log whose blocks are missing
  record Misses (k : Core) : Type 0 where
    rests : Rests H cluster log k
    some : k.missing ≢ []

  -- a step that leaves it so, and what it saves
  record Stays (r : Replica) (x : Step) : Type 0 where
    misses : Misses (core x.replica)
    borne : Every (IsBorne H cluster log) x.script

  record Holds (w : Word Lying) : Type 0 where
    every : (r : Replica) (d : Lying) → Misses (core r) → Stays r (w lying r d)

  h_then : (v w : Word Lying) → Holds v → Holds w → Holds (v ⨾ w)
  unfolding ◌⨾◌
  h_then v w h k = record {
    every = λ r d m.
        let x = v lying r d in
        let a = h.every r d m in
        let y = w lying x.replica (after_all lying d x.script) in
        let b = k.every x.replica (after_all lying d x.script) a.misses in
        record { misses = b.misses; borne = every_append (IsBorne H cluster log) x.script y.script a.borne b.borne };
  }

  h_quiet : Holds quiet
  unfolding quiet
  h_quiet = record { every = λ r d m. record { misses = m; borne = tt } }

  h_says : (os : Replica → List Output) → ((r : Replica) → Every IsOther (os r)) → Holds (says os)
  unfolding says
  h_says os h = record { every = λ r d m. record { misses = m; borne = said_borne H cluster log (os r) (h r) } }

  h_by : (w : Replica → Word Lying) → ((r : Replica) → Holds (w r)) → Holds (by w)
  unfolding by
  h_by w h = record { every = λ r d m. let x = (h r).every r d m in record { misses = x.misses; borne = x.borne } }

  h_when : (b : Bool) (w : Word Lying) → Holds w → Holds (when b w)
  h_when true w h = h
  h_when false w h = h_quiet

  h_each : {X : Type 0} (w : X → Word Lying) (xs : List X) → ((x : X) → Holds (w x)) → Holds (each w xs)
  unfolding each
  h_each w [] h = h_quiet
  h_each w (x ∷ xs) h = h_then (w x) (each w xs) (h x) (h_each w xs h)

  h_times : (n : ℕ) (w : Word Lying) → Holds w → Holds (times n w)
  unfolding times
  h_times zero w h = h_quiet
  h_times (suc n) w h = h_then w (times n w) h (h_times n w h)

  -- ---- nothing is applied

  h_next : Holds apply_next
  unfolding apply_next by quiet
  h_next = record {
    every = λ r d m.
        let go : (b : Bool) → is_loaded r ≡ b → Stays r ((when (b && nat_lt r.applied r.commit) (with_entry_at (r.applied + 1) apply_entry)) lying r d) = elim [
          | true ↦ λ e. absurd (m.some (nil_from_length r.missing (eqb-true (length r.missing) 0 e)))
          | false ↦ λ e. record { misses = m; borne = tt }
        ] in
        go (is_loaded r) refl;
  }

  h_apply : Holds apply
  unfolding apply
  h_apply = h_by _ (λ r. h_times (r.commit - r.applied) apply_next h_next)

  -- ---- it is saved, and told of

  h_save : Holds save
  unfolding save does change ◌⨾◌ value_of
  h_save = record {
    every = λ r d m. record {
      misses = record {
        rests = record { own = m.rests.own; settled = m.rests.settled; root = m.rests.root; table = m.rests.table; waits = m.rests.waits; saved = m.rests.root };
        some = m.some;
      };
      borne = (m.rests.root, tt);
    };
  }

  h_stored_of : (hash : Hash) (o : Option Header) → Holds (option_map_or (acknowledge hash) o quiet)
  h_stored_of hash None = h_quiet
  h_stored_of hash (Some h) = h_says _ (λ r. (tt, tt))

  h_stored : (hash : Hash) (op : ℕ) → Holds (acknowledge_stored hash op)
  unfolding acknowledge_stored
  h_stored hash op = h_by _ (λ r. h_when (is_here (part_at r op)) _ (h_stored_of hash (header_at r op)))

  abbrev rest : Hash → SyncView → Word Lying
  rest hash v = by (λ r. each (acknowledge_stored hash) (ops r.commit v.head)) ⨾ apply

  h_rest : (hash : Hash) (v : SyncView) → Holds (save ⨾ rest hash v)
  h_rest hash v = h_then save (rest hash v) h_save (h_then _ apply (h_by _ (λ r. h_each (acknowledge_stored hash) _ (h_stored hash))) h_apply)

  -- ---- the jump

  jumped_misses : (v : SyncView) (r : Replica) → IsOffered H cluster log v → Rests H cluster log (core r) → Misses (core (jumped v r))
  unfolding jumped forgetting
  jumped_misses v r o h = record {
    rests = record { own = h.own; settled = o.root.settled; root = λ some. o.root; table = h.table; waits = λ n. o.some; saved = h.saved };
    some = λ none. absurd cc;
  }

  stands_so : (k : Core) → Misses k → Stands H cluster log k
  stands_so k m = record { rests = m.rests; state = λ none. absurd (m.some none); table = λ none. absurd (m.some none) }

  jumps_so : (hash : Hash) (v : SyncView) (r : Replica) (d : Lying) → (jump v ⨾ rest hash v) lying r d ≡ (save ⨾ rest hash v) lying (jumped v r) d
  unfolding jump ◌⨾◌ change after_all
  jumps_so hash v r d = refl

  pub jump_at : (hash : Hash) (v : SyncView) (r : Replica) (d : Lying) → IsOffered H cluster log v → Stands H cluster log (core r)
      → Settles H cluster log (S H never cluster log) r d ((jump v ⨾ by (λ r. each (acknowledge_stored hash) (ops r.commit v.head)) ⨾ apply) lying r d)
  jump_at hash v r d o h =
      let x = (h_rest hash v).every (jumped v r) d (jumped_misses v r o h.rests) in
      subst (λ (z : Step). Settles H cluster log (S H never cluster log) r d z) (sym (jumps_so hash v r d))
      (record { bears = calm_bears H cluster log r.index r.applied d _ x.borne; holds = λ all. stands_so _ x.misses })

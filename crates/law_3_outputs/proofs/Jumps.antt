-- A replica that takes over a checkpoint of another one applies and answers nothing, as long as a block of it is missing.
use Rattle.std.proofs.Common.{ℕ, zero, suc, ◌+◌, ◌-◌, ◌≡◌, ◌≢◌, ◌∙◌, refl, Bool, true, false, List, [], ◌∷◌, ◌++◌, length, Option, Some, None}
use Rattle.std.specs.Prelude.{nat_lt, ◌&&◌}
use Rattle.std.specs.Option.{option_map_or}
use Rattle.std.proofs.lemmas.Bool.{eqb-true}
use Rattle.std.proofs.lemmas.List.{nil_from_length}
use Rattle.vr_header.specs.declared.header.Header.{Header}
use Rattle.vr_msg.specs.declared.frame.SyncView.{SyncView}
use Rattle.vr_msg.specs.declared.output.Output.{Output}
use Rattle.vr_msg.specs.Choice.{ops}
use Rattle.vr_rules.specs.Deciding.{Hash}
use Rattle.vr_rules.specs.Replica.{Replica, forgetting, header_at, is_here, part_at}
use Rattle.vr_rules.specs.Rules.{acknowledge, acknowledge_stored}
use Rattle.vr_rules.specs.Steps.{Setting, Step, Word, ◌⨾◌, after_all, by, change, does, each, outputs, quiet, says, times, when}
use Rattle.vr_rules.specs.Words.{apply, apply_entry, apply_next, is_loaded, jump, jumped, save, with_entry_at}
use Rattle.vr_rules.proofs.SendsScripts.{outputs_append, outputs_said}
use Rattle.law_2_chains.specs.Chains.{Every}
use Rattle.law_2_chains.proofs.Scripts.{every_append}
use Rattle.law_3_outputs.specs.Answering.{IsMute, Jumps}

-- of a replica that misses blocks
record Waits {F : Type 0} (w : Word F) : Type 0 where
  each : (s : Setting F) (r : Replica) (f : F) → r.missing ≢ [] → Jumps r (w s r f)

both_jump : (r : Replica) (x y : Step) → Jumps r x → Jumps x.replica y → Jumps r (record { replica = y.replica; script = x.script ++ y.script })
both_jump r x y a b =
    record { index = b.index ∙ a.index; mute = rw (outputs_append x.script y.script) (every_append IsMute (outputs x.script) (outputs y.script) a.mute b.mute); missing = b.missing }

module _ {F : Type 0} where
  waits_then : (v w : Word F) → Waits v → Waits w → Waits (v ⨾ w)
  unfolding ◌⨾◌
  waits_then v w h k = record {
    each = λ s r f n.
        let x = v s r f in
        let a = h.each s r f n in
        both_jump r x (w s x.replica (after_all s f x.script)) a (k.each s x.replica (after_all s f x.script) a.missing);
  }

  waits_quiet : Waits {F = F} quiet
  unfolding quiet outputs
  waits_quiet = record { each = λ s r f n. record { index = refl; mute = tt; missing = n } }

  waits_says : (os : Replica → List Output) → ((r : Replica) → Every IsMute (os r)) → Waits {F = F} (says os)
  unfolding says
  waits_says os h = record { each = λ s r f n. record { index = refl; mute = rw (outputs_said (os r)) (h r); missing = n } }

  waits_by : (w : Replica → Word F) → ((r : Replica) → Waits (w r)) → Waits (by w)
  unfolding by
  waits_by w h = record { each = λ s r f n. let x = (h r).each s r f n in record { index = x.index; mute = x.mute; missing = x.missing } }

  waits_when : (b : Bool) (w : Word F) → Waits w → Waits (when b w)
  waits_when true w h = h
  waits_when false w h = waits_quiet

  waits_each : {X : Type 0} (w : X → Word F) (xs : List X) → ((x : X) → Waits (w x)) → Waits (each w xs)
  unfolding each
  waits_each w [] h = waits_quiet
  waits_each w (x ∷ xs) h = waits_then (w x) (each w xs) (h x) (waits_each w xs h)

  waits_times : (n : ℕ) (w : Word F) → Waits w → Waits (times n w)
  unfolding times
  waits_times zero w h = waits_quiet
  waits_times (suc n) w h = waits_then w (times n w) h (waits_times n w h)

  -- ---- nothing is applied

  waits_next : Waits {F = F} apply_next
  unfolding apply_next by quiet outputs
  waits_next = record {
    each = λ s r f n.
        let go : (b : Bool) → is_loaded r ≡ b → Jumps r ((when (b && nat_lt r.applied r.commit) (with_entry_at (r.applied + 1) apply_entry)) s r f) = elim [
          | true ↦ λ e. absurd (n (nil_from_length r.missing (eqb-true (length r.missing) 0 e)))
          | false ↦ λ e. record { index = refl; mute = tt; missing = n }
        ] in
        go (is_loaded r) refl;
  }

  waits_apply : Waits {F = F} apply
  unfolding apply
  waits_apply = waits_by _ (λ r. waits_times (r.commit - r.applied) apply_next waits_next)

  waits_some : (hash : Hash) (o : Option Header) → Waits {F = F} (option_map_or (acknowledge hash) o quiet)
  waits_some hash None = waits_quiet
  waits_some hash (Some h) = waits_says _ (λ r. (tt, tt))

  waits_stored : (hash : Hash) (op : ℕ) → Waits {F = F} (acknowledge_stored hash op)
  unfolding acknowledge_stored
  waits_stored hash op = waits_by _ (λ r. waits_when (is_here (part_at r op)) _ (waits_some hash (header_at r op)))

  -- ---- the jump

  jump_jumps : (v : SyncView) (s : Setting F) (r : Replica) (f : F) → Jumps r (jump v s r f)
  unfolding jump jumped forgetting save ◌⨾◌ change does outputs
  jump_jumps v s r f = record { index = refl; mute = tt; missing = λ e. absurd cc }

  pub sync_jumps : (hash : Hash) (v : SyncView) (s : Setting F) (r : Replica) (f : F) → Jumps r ((jump v ⨾ by (λ r. each (acknowledge_stored hash) (ops r.commit v.head)) ⨾ apply) s r f)
  unfolding ◌⨾◌
  sync_jumps hash v s r f =
      let rest : Word F = by (λ r. each (acknowledge_stored hash) (ops r.commit v.head)) ⨾ apply in
      let x = jump v s r f in
      let a = jump_jumps v s r f in
      let told = waits_by (λ r. each (acknowledge_stored hash) (ops r.commit v.head)) (λ r. waits_each (acknowledge_stored hash) (ops r.commit v.head) (waits_stored hash)) in
      both_jump r x (rest s x.replica (after_all s f x.script)) a ((waits_then _ apply told waits_apply).each s x.replica (after_all s f x.script) a.missing)

-- Words that leave a replica caught up, and what is made of them.
use Rattle.std.proofs.Common.{ℕ, ◌+◌, ◌-◌, ◌≡◌, ◌∙◌, arith, refl, sym, ap, subst, Bool, true, false, cond, List, [], ◌∷◌, map, Option, Some, None}
use Rattle.std.specs.Prelude.{nat_lt, not, slice_get, ◌==◌}
use Rattle.vr_header.specs.declared.header.Header.{Header}
use Rattle.vr_header.specs.declared.part.Part.{Part}
use Rattle.vr_header.specs.declared.part.Part.TheVariants.{Here, Lost, Wanted, Unknown, Nothing}
use Rattle.vr_header.specs.Made.{Whole}
use Rattle.vr_header.specs.Same.{same_header}
use Rattle.vr_ckpt.specs.declared.name.Name.{Name}
use Rattle.vr_ckpt.specs.declared.found.Load.{Load}
use Rattle.vr_ckpt.specs.declared.found.Load.TheVariants.{Loaded, Missing}
use Rattle.vr_ckpt.specs.declared.table.PayloadTable.{PayloadTable}
use Rattle.vr_state.specs.declared.state.State.{State}
use Rattle.vr_state.specs.StateTexts.{state_decoded}
use Rattle.vr_msg.specs.declared.frame.Frame.{Frame}
use Rattle.vr_msg.specs.declared.output.Output.{Output}
use Rattle.vr_rules.specs.Replica.{Replica, is_alone, is_here, part_at, version}
use Rattle.vr_rules.specs.Sound.{IsCaughtUp, IsSound}
use Rattle.vr_rules.specs.Steps.{Effect, Mend, Say, Setting, Word, ◌⨾◌, after_all, by, change, does, each, naming, quiet, reading, says, when}
use Rattle.vr_rules.specs.Words.{advance, advanced, apply, ask, ask_for, ask_peer, enter, entered, entry_of, learn, learned, load, loaded_state, loads, or_lost, prepare_again, resend, rested, save, value_of, with_entry, with_entry_at, with_state, blocks_of, is_loaded, mend_header, op_of_slot, place_now, visit, visit_block, visit_place, visit_read, visit_slot, with_cursor, with_worn, usable}
use Rattle.vr_rules.proofs.Combining.{KeptBy}
use Rattle.law_repair.proofs.Settling.{Placed, placed_lost, placed_of, times_settle, up_lost}

-- what is known of each op, and which ops are committed and applied, stay, and no block is found missing or put
pub record Alike (r q : Replica) : Type 0 where
  pub parts : (k : ℕ) → part_at q k ≡ part_at r k
  pub commit : q.commit ≡ r.commit
  pub applied : q.applied ≡ r.applied
  pub missing : q.missing ≡ r.missing

pub up_alike : (r q : Replica) → Alike r q → IsCaughtUp r → IsCaughtUp q
up_alike r q a u =
    let c = a.commit in
    let p = a.applied in
    record { next = λ none more. ap is_here (a.parts (q.applied + 1)) ∙ subst (λ k. is_here (part_at r (k + 1)) ≡ false) (sym p) (u.next (sym a.missing ∙ none) (omega (arith, more, c, p))) }

alike_more : (a b c : Replica) → Alike a b → Alike b c → Alike a c
alike_more a b c h k = record { parts = λ i. k.parts i ∙ h.parts i; commit = k.commit ∙ h.commit; applied = k.applied ∙ h.applied; missing = k.missing ∙ h.missing }

-- a word that keeps this
pub record Calm {F : Type 0} (w : Word F) : Type 0 where
  pub every : (s : Setting F) (r : Replica) (f : F) → Alike r (w s r f).replica

-- a word after which each entry that is here stands at its op, where it stood there before
pub record Sorts {F : Type 0} (w : Word F) : Type 0 where
  pub every : (s : Setting F) (r : Replica) (f : F) → Placed r → Placed (w s r f).replica

-- a word after which all that can be applied is
pub record Settles {F : Type 0} (w : Word F) : Type 0 where
  pub every : (s : Setting F) (r : Replica) (f : F) → Placed r → IsCaughtUp (w s r f).replica

-- loading changes no part
loaded_parts : (root : Name) (table : PayloadTable) (o : Option State) (r : Replica) (k : ℕ) → part_at (loaded_state root table o r) k ≡ part_at r k
unfolding with_state part_at
loaded_parts root table (Some t) r k = refl
loaded_parts root table None r k = refl

pub loads_parts : (root : Name) (l : Load) (r : Replica) (k : ℕ) → part_at (loads root l r) k ≡ part_at r k
unfolding part_at
loads_parts root (Loaded texts table) r k = loaded_parts root table (usable (version r) (state_decoded texts)) r k
loads_parts root (Missing names) r k = refl

module _ {F : Type 0} where
  -- ---- words that keep it

  pub calm_then : (v w : Word F) → Calm v → Calm w → Calm (v ⨾ w)
  unfolding ◌⨾◌
  calm_then v w h k = record { every = λ s r f. let a = v s r f in alike_more r a.replica _ (h.every s r f) (k.every s a.replica (after_all s f a.script)) }

  pub calm_quiet : Calm {F = F} quiet
  unfolding quiet
  calm_quiet = record { every = λ s r f. record { parts = λ k. refl; commit = refl; applied = refl; missing = refl } }

  pub calm_change : (g : Replica → Replica) → ((r : Replica) → Alike r (g r)) → Calm {F = F} (change g)
  unfolding change
  calm_change g h = record { every = λ s r f. h r }

  pub calm_does : (e : Replica → Effect) → Calm {F = F} (does e)
  unfolding does
  calm_does e = record { every = λ s r f. record { parts = λ k. refl; commit = refl; applied = refl; missing = refl } }

  pub calm_says : (os : Replica → List Output) → Calm {F = F} (says os)
  unfolding says
  calm_says os = record { every = λ s r f. record { parts = λ k. refl; commit = refl; applied = refl; missing = refl } }

  pub calm_by : (w : Replica → Word F) → ((r : Replica) → Calm (w r)) → Calm (by w)
  unfolding by
  calm_by w h = record { every = λ s r f. (h r).every s r f }

  pub calm_naming : (w : (List ℕ → List ℕ) → Word F) → ((hash : List ℕ → List ℕ) → Calm (w hash)) → Calm (naming w)
  unfolding naming
  calm_naming w h = record { every = λ s r f. (h s.hash).every s r f }

  pub calm_reading : {X : Type 0} (g : Setting F → F → X) (w : X → Word F) → ((x : X) → Calm (w x)) → Calm (reading g w)
  unfolding reading
  calm_reading g w h = record { every = λ s r f. (h (g s f)).every s r f }

  pub calm_if : (b : Bool) (v w : Word F) → Calm v → Calm w → Calm (cond b v w)
  calm_if true v w h k = h
  calm_if false v w h k = k

  pub calm_when : (b : Bool) (w : Word F) → Calm w → Calm (when b w)
  calm_when b w h = calm_if b w quiet h calm_quiet

  pub calm_rested : Calm {F = F} (change rested)
  unfolding part_at
  calm_rested = calm_change rested (λ r. record { parts = λ k. refl; commit = refl; applied = refl; missing = refl })

  pub calm_save : Calm {F = F} save
  unfolding save value_of part_at
  calm_save = calm_then _ _ (calm_does _) (calm_change _ (λ r. record { parts = λ k. refl; commit = refl; applied = refl; missing = refl }))

  pub calm_enter : (view : ℕ) → Calm {F = F} (enter view)
  unfolding enter entered part_at
  calm_enter view =
      calm_if _ _ _ calm_rested (calm_then _ _ (calm_change (entered view) (λ r. record { parts = λ k. refl; commit = refl; applied = refl; missing = refl })) (calm_then _ _ calm_save (calm_says _)))

  calm_peer : (message : Replica → Frame) → Calm {F = F} (ask_peer message)
  unfolding ask_peer part_at
  calm_peer message = calm_then _ _ (calm_says _) (calm_change _ (λ r. record { parts = λ k. refl; commit = refl; applied = refl; missing = refl }))

  calm_asks : (names : List Name) (absent : Option Header) (worn : List Name) → Calm {F = F} (ask_for names absent worn)
  calm_asks (name ∷ names) absent worn = calm_peer _
  calm_asks [] (Some h) worn = calm_naming _ (λ hash. calm_peer _)
  calm_asks [] None (name ∷ names) = calm_peer _
  calm_asks [] None [] = calm_quiet

  pub calm_ask : Calm {F = F} ask
  unfolding ask
  calm_ask = calm_by _ (λ r. calm_when (not (is_alone r)) _ (calm_asks r.missing _ r.worn))

  -- of a visit all but a slot whose entry doesn't read
  calm_mend_header : (h : Header) (o : Option Header) → Calm {F = F} (mend_header h o)
  calm_mend_header h None = calm_does _
  calm_mend_header h (Some d) = calm_when (not (same_header d h)) _ (calm_does _)

  calm_visit_read : (name : Name) (o : Option (List ℕ)) → Calm {F = F} (visit_read name o)
  unfolding part_at
  calm_visit_read name None = calm_change (with_worn name) (λ r. record { parts = λ k. refl; commit = refl; applied = refl; missing = refl })
  calm_visit_read name (Some block) = calm_quiet

  calm_visit_block : (o : Option Name) → Calm {F = F} (visit_block o)
  unfolding visit_block
  calm_visit_block None = calm_quiet
  calm_visit_block (Some name) = calm_reading _ _ (calm_visit_read name)

  calm_cursor : (at : ℕ) → Calm {F = F} (change (with_cursor at))
  unfolding part_at
  calm_cursor at = calm_change (with_cursor at) (λ r. record { parts = λ k. refl; commit = refl; applied = refl; missing = refl })

  pub calm_resend : (e : Whole) → Calm {F = F} (resend e)
  unfolding resend
  calm_resend e = calm_naming _ (λ hash. calm_by _ (λ r. calm_when _ _ (calm_if _ _ _ (calm_says _) (calm_says _))))

  -- ---- words that keep entries at their ops

  pub sorts_calm : (w : Word F) → Calm w → Sorts w
  sorts_calm w h = record { every = λ s r f p. record { each = λ k x e. p.each k x (sym ((h.every s r f).parts k) ∙ e) } }

  pub sorts_then : (v w : Word F) → Sorts v → Sorts w → Sorts (v ⨾ w)
  unfolding ◌⨾◌
  sorts_then v w h k = record { every = λ s r f p. let a = v s r f in k.every s a.replica (after_all s f a.script) (h.every s r f p) }

  pub sorts_change : (g : Replica → Replica) → ((r : Replica) (k : ℕ) → part_at (g r) k ≡ part_at r k) → Sorts {F = F} (change g)
  unfolding change
  sorts_change g h = record { every = λ s r f p. record { each = λ k x e. p.each k x (sym (h r k) ∙ e) } }

  pub sorts_by : (w : Replica → Word F) → ((r : Replica) → Sorts (w r)) → Sorts (by w)
  unfolding by
  sorts_by w h = record { every = λ s r f p. (h r).every s r f p }

  pub sorts_when : (b : Bool) (w : Word F) → Sorts w → Sorts (when b w)
  sorts_when true w h = h
  sorts_when false w h = sorts_calm quiet calm_quiet

  pub sorts_reading : {X : Type 0} (g : Setting F → F → X) (w : X → Word F) → ((x : X) → Sorts (w x)) → Sorts (reading g w)
  unfolding reading
  sorts_reading g w h = record { every = λ s r f p. (h (g s f)).every s r f p }

  pub sorts_each : {X : Type 0} (w : X → Word F) (xs : List X) → ((x : X) → Sorts (w x)) → Sorts (each w xs)
  unfolding each
  sorts_each w [] h = sorts_calm quiet calm_quiet
  sorts_each w (x ∷ xs) h = sorts_then (w x) (each w xs) (h x) (sorts_each w xs h)

  sorts_read : (h : Header) (w : Whole → Word F) (o : Option Whole) → ((e : Whole) → Calm (w e)) → Sorts (or_lost h w o)
  unfolding change
  sorts_read h w None all = record { every = λ s r f p. placed_lost h r p }
  sorts_read h w (Some e) all = sorts_calm (w e) (all e)

  sorts_part : (w : Whole → Word F) (p : Part) → ((e : Whole) → Calm (w e)) → Sorts (with_entry w p)
  sorts_part w (Here h) all = sorts_reading (entry_of h) (or_lost h w) (λ o. sorts_read h w o all)
  sorts_part w _ all = sorts_calm quiet calm_quiet

  pub sorts_again : (op : ℕ) → Sorts {F = F} (prepare_again op)
  unfolding prepare_again with_entry_at
  sorts_again op = sorts_by _ (λ r. sorts_part _ (part_at r op) (λ e. calm_says _))

  pub sorts_load : Sorts {F = F} load
  unfolding load
  sorts_load = sorts_by _ (λ r. sorts_when _ _ (sorts_reading _ _ (λ l. sorts_change _ (λ q k. loads_parts r.root l q k))))

  -- ---- words that apply

  pub settles_apply : Settles {F = F} apply
  unfolding apply by
  settles_apply = record { every = λ s r f p. times_settle s (r.commit - r.applied) r f refl p }

  pub settles_then : (v w : Word F) → Sorts v → Settles w → Settles (v ⨾ w)
  unfolding ◌⨾◌
  settles_then v w h k = record { every = λ s r f p. let a = v s r f in k.every s a.replica (after_all s f a.script) (h.every s r f p) }

  pub settles_calm_then : (v w : Word F) → Calm v → Settles w → Settles (v ⨾ w)
  settles_calm_then v w h k = settles_then v w (sorts_calm v h) k

  -- and what comes then may keep it
  pub settles_then_calm : (v w : Word F) → Settles v → Calm w → Settles (v ⨾ w)
  unfolding ◌⨾◌
  settles_then_calm v w h k = record { every = λ s r f p. let a = v s r f in up_alike a.replica _ (k.every s a.replica (after_all s f a.script)) (h.every s r f p) }

  pub settles_advance : Settles {F = F} advance
  unfolding advance advanced part_at
  settles_advance = settles_then _ _ (sorts_change _ (λ r k. refl)) settles_apply

  pub settles_by : (w : Replica → Word F) → ((r : Replica) → Settles (w r)) → Settles (by w)
  unfolding by
  settles_by w h = record { every = λ s r f p. (h r).every s r f p }

  pub settles_if : (b : Bool) (v w : Word F) → Settles v → Settles w → Settles (cond b v w)
  settles_if true v w h k = h
  settles_if false v w h k = k

  pub settles_learn : (commit : ℕ) → Settles {F = F} (learn commit)
  unfolding learn part_at
  settles_learn commit = settles_then _ _ (sorts_change (learned commit) (λ r k. refl)) settles_apply

-- ---- at one replica

pub record UpBy {F : Type 0} (w : Word F) (s : Setting F) (r : Replica) (f : F) : Type 0 where
  pub up : IsCaughtUp (w s r f).replica

module _ {F : Type 0} (s : Setting F) where
  pub up_settles : (w : Word F) (r : Replica) (f : F) → IsSound r → Settles w → UpBy w s r f
  up_settles w r f sound h = record { up = h.every s r f (placed_of r sound) }

  pub up_calm : (w : Word F) (r : Replica) (f : F) → IsCaughtUp r → Calm w → UpBy w s r f
  up_calm w r f u h = record { up = up_alike r _ (h.every s r f) u }

  -- a word that leaves a sound replica, then one that applies
  pub up_then : (v w : Word F) (r : Replica) (f : F) → KeptBy v s r f → Settles w → UpBy (v ⨾ w) s r f
  unfolding ◌⨾◌
  up_then v w r f h k = let a = v s r f in record { up = (up_settles w a.replica (after_all s f a.script) h.kept.sound k).up }

  pub up_calm_then : (v w : Word F) (r : Replica) (f : F) → IsCaughtUp r → Calm v → KeptBy v s r f → ((q : Replica) (d : F) → IsSound q → IsCaughtUp q → UpBy w s q d) → UpBy (v ⨾ w) s r f
  unfolding ◌⨾◌
  up_calm_then v w r f u h k rest =
      let a = v s r f in
      record { up = (rest a.replica (after_all s f a.script) k.kept.sound (up_alike r a.replica (h.every s r f) u)).up }

  pub up_says_then : (os : Replica → List Output) (w : Word F) (r : Replica) (f : F) → ((d : F) → UpBy w s r d) → UpBy (says os ⨾ w) s r f
  unfolding ◌⨾◌ says
  up_says_then os w r f h = record { up = (h (after_all s f (map Say (os r)))).up }

  pub up_change_then : (g : Replica → Replica) (w : Word F) (r : Replica) (f : F) → ((d : F) → UpBy w s (g r) d) → UpBy (change g ⨾ w) s r f
  unfolding ◌⨾◌ change
  up_change_then g w r f h = record { up = (h (after_all s f [])).up }

  pub up_then_calm : (v w : Word F) (r : Replica) (f : F) → UpBy v s r f → Calm w → UpBy (v ⨾ w) s r f
  unfolding ◌⨾◌
  up_then_calm v w r f h k = let a = v s r f in record { up = up_alike a.replica _ (k.every s a.replica (after_all s f a.script)) h.up }

  pub up_then_up : (v w : Word F) (r : Replica) (f : F) → UpBy v s r f → ((q : Replica) (d : F) → IsCaughtUp q → UpBy w s q d) → UpBy (v ⨾ w) s r f
  unfolding ◌⨾◌
  up_then_up v w r f h rest = let a = v s r f in record { up = (rest a.replica (after_all s f a.script) h.up).up }

  pub up_by : (w : Replica → Word F) (r : Replica) (f : F) → UpBy (w r) s r f → UpBy (by w) s r f
  unfolding by
  up_by w r f h = record { up = h.up }

  pub up_naming : (w : (List ℕ → List ℕ) → Word F) (r : Replica) (f : F) → UpBy (w s.hash) s r f → UpBy (naming w) s r f
  unfolding naming
  up_naming w r f h = record { up = h.up }

  pub up_reading : {X : Type 0} (g : Setting F → F → X) (w : X → Word F) (r : Replica) (f : F) → UpBy (w (g s f)) s r f → UpBy (reading g w) s r f
  unfolding reading
  up_reading g w r f h = record { up = h.up }

  pub up_if : (b : Bool) (v w : Word F) (r : Replica) (f : F) → (b ≡ true → UpBy v s r f) → (b ≡ false → UpBy w s r f) → UpBy (cond b v w) s r f
  up_if true v w r f h k = h refl
  up_if false v w r f h k = k refl

  pub up_when : (b : Bool) (w : Word F) (r : Replica) (f : F) → IsCaughtUp r → (b ≡ true → UpBy w s r f) → UpBy (when b w) s r f
  up_when b w r f u h = up_if b w quiet r f h (λ e. up_calm quiet r f u calm_quiet)

  -- an entry that is stored is read, and lost where it doesn't read
  up_read : (h : Header) (w : Whole → Word F) (o : Option Whole) (r : Replica) (f : F) → IsCaughtUp r → ((e : Whole) → Calm (w e)) → UpBy (or_lost h w o) s r f
  unfolding change
  up_read h w None r f u all = record { up = up_lost h r u }
  up_read h w (Some e) r f u all = up_calm (w e) r f u (all e)

  up_part : (w : Whole → Word F) (p : Part) (r : Replica) (f : F) → IsCaughtUp r → ((e : Whole) → Calm (w e)) → UpBy (with_entry w p) s r f
  up_part w (Here h) r f u all = up_reading (entry_of h) (or_lost h w) r f (up_read h w (entry_of h s f) r f u all)
  up_part w (Lost h) r f u all = up_calm quiet r f u calm_quiet
  up_part w (Wanted h) r f u all = up_calm quiet r f u calm_quiet
  up_part w Unknown r f u all = up_calm quiet r f u calm_quiet
  up_part w Nothing r f u all = up_calm quiet r f u calm_quiet

  pub up_entry : (op : ℕ) (w : Whole → Word F) (r : Replica) (f : F) → IsCaughtUp r → ((e : Whole) → Calm (w e)) → UpBy (with_entry_at op w) s r f
  unfolding with_entry_at
  up_entry op w r f u all = up_by _ r f (up_part w (part_at r op) r f u all)

  -- a visit

  up_place : (at : ℕ) (r : Replica) (f : F) → IsCaughtUp r → UpBy (visit_place at) s r f
  unfolding visit_place visit_slot
  up_place at r f u =
      let op : ℕ = op_of_slot r at in
      let name : Option Name = slice_get (blocks_of r) (at - 65) in
      up_by _ r f (up_if (nat_lt at 64) (visit_slot op) (cond (at == 64) (does (λ r. Mend r.saved)) (visit_block name)) r f
      (λ e. up_entry op _ r f u (λ e. calm_reading _ _ (calm_mend_header e.header)))
      (λ e. up_calm (cond (at == 64) (does (λ r. Mend r.saved)) (visit_block name)) r f u (calm_if (at == 64) (does (λ r. Mend r.saved)) (visit_block name) (calm_does _) (calm_visit_block name))))

  pub up_visit_ask : (r : Replica) (f : F) → IsCaughtUp r → UpBy (visit ⨾ ask) s r f
  unfolding visit
  up_visit_ask r f u =
      let at : ℕ = place_now r in
      up_then_calm visit ask r f (up_by _ r f (up_when (is_loaded r) (visit_place at ⨾ change (with_cursor at)) r f u
      (λ t. up_then_calm (visit_place at) (change (with_cursor at)) r f (up_place at r f u) (calm_cursor at)))) calm_ask

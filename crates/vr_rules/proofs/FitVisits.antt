-- A visit of the disk, and a jump, have effects as the program has them.
use Rattle.vr_ckpt.specs.Places.{grid_size}
use Rattle.std.proofs.Common.{◌≡◌, refl, subst, ℕ, zero, suc, not, List, [], ◌∷◌, ◌++◌, length, map, Option, Some, None, arith}
use Rattle.std.specs.Prelude.{All, nat_eq, nat_lt, slice_get, ◌-◌, ◌==◌, ◌&&◌}
use Rattle.std.specs.List.{list_any}
use Rattle.std.proofs.lemmas.Bool.{and_parts, cond_both, ltb-true}
use Rattle.std.proofs.lemmas.List.Elements.{All-nil, All-cons, All-append, All-filter, All-head, All-tail}
use Rattle.vr_header.specs.declared.header.Header.{Header}
use Rattle.vr_header.specs.Same.{same_header}
use Rattle.vr_header.specs.Spelling.{IsHeader}
use Rattle.vr_ckpt.specs.declared.table.Payload.{Payload}
use Rattle.vr_ckpt.specs.declared.name.Name.{Name}
use Rattle.vr_msg.specs.declared.frame.SyncView.{SyncView}
use Rattle.vr_msg.specs.declared.frame.Frame.TheVariants as frame
use Rattle.vr_rules.specs.Replica.{Replica, forgetting}
use Rattle.vr_rules.specs.Steps.{Mend, PutBlock, Setting, change, does}
use Rattle.vr_rules.specs.Words.{blocks_of, header_read, is_loaded, jump, jumped, mend_header, op_of_slot, place_now, save, visit, visit_block, visit_place, visit_read, visit_slot, with_cursor, with_worn}
use Rattle.vr_rules.specs.Rules.{mend_found, not_worn}
use Rattle.vr_rules.specs.Sound.{IsSavable}
use Rattle.vr_rules.specs.Laws.{IsMessage}
use Rattle.vr_rules.specs.Fit.{HasSum, IsBlockName, KnowsBlocks}
use Rattle.vr_rules.proofs.FitWords.{FitBy, Ready, fit_then_at, mild_quiet, mild_change, fit_change, fit_does, fit_by, fit_reading, fit_if, fit_when, fit_entry, mild_save}

-- ---- names of blocks

abbrev Has16 : Name → Type 0
Has16 name = length name.sum.0 ≡ 16

named_by : (ps : List Payload) → All HasSum ps → All Has16 (map (λ (p : Payload). p.name) ps)
named_by [] h = All-nil Has16
named_by (p ∷ ps) h = All-cons Has16 p.name (map (λ (p : Payload). p.name) ps) (All-head HasSum p ps h) (named_by ps (All-tail HasSum p ps h))

named_at : (ns : List Name) (i : ℕ) (x : Name) → All Has16 ns → slice_get ns i ≡ Some x → Has16 x
named_at [] i x h e = absurd cc
named_at (n ∷ ns) zero x h e = let same : n ≡ x = cc in subst Has16 same (All-head Has16 n ns h)
named_at (n ∷ ns) (suc i) x h e = named_at ns i x (All-tail Has16 n ns h) e

-- the checkpoint's blocks have names
blocks_named : (r : Replica) → IsSavable r → KnowsBlocks r → All Has16 (blocks_of r)
blocks_named r v k =
    let sessions = map (λ (p : Payload). p.name) r.table.sessions in
    let keys = map (λ (p : Payload). p.name) r.table.keys in
    cond_both (r.checkpoint == 0) [] (r.root ∷ (sessions ++ keys)) (All Has16) (λ t. All-nil Has16)
    (λ t. All-cons Has16 r.root (sessions ++ keys) v.name.0 (All-append Has16 sessions keys (named_by r.table.sessions k.table.sessions) (named_by r.table.keys k.table.keys)))

-- a name of the grid that has gone bad
worn_named : (name : Name) (r : Replica) → Has16 name → KnowsBlocks r → KnowsBlocks (with_worn name r)
worn_named name r is k =
    let old = not (list_any (λ m. m.address == name.address) r.worn) in
    record {
      missing = k.missing;
      worn =
          cond_both (nat_lt name.address grid_size && old) (r.worn ++ name ∷ []) r.worn (All IsBlockName)
          (λ t.
          let low = and_parts (nat_lt name.address grid_size) old t in
          All-append IsBlockName r.worn (name ∷ []) k.worn (All-cons IsBlockName name [] (record { address = ltb-true name.address grid_size low.0; sum = is }) (All-nil IsBlockName)))
          (λ t. k.worn);
      table = k.table;
    }

module _ {F : Type 0} (v : ℕ) (s : Setting F) where
  -- ---- a visit

  fit_mend_header : (h : Header) (o : Option Header) (r : Replica) (f : F) → IsHeader h → FitBy (mend_header h o) s r f
  fit_mend_header h None r f is = fit_does _ s r f is
  fit_mend_header h (Some d) r f is = fit_when (not (same_header d h)) _ s r f (λ t. fit_does _ s r f is)

  fit_visit_slot : (n op : ℕ) (r : Replica) (f : F) → Ready v n s r f → FitBy (visit_slot op) s r f
  unfolding visit_slot
  fit_visit_slot n op r f h =
      fit_entry v s n op _ r f h (λ e whole is. fit_reading (header_read op) (mend_header e.header) s r f (fit_mend_header e.header (header_read op s f) r f whole.header))

  fit_visit_read : (name : Name) (o : Option (List ℕ)) (r : Replica) (f : F) → Has16 name → FitBy (visit_read name o) s r f
  fit_visit_read name None r f is = fit_change (with_worn name) s r f (λ p k. worn_named name r is k)
  fit_visit_read name (Some block) r f is = mild_quiet.every s r f

  fit_visit_block : (o : Option Name) (r : Replica) (f : F) → ((name : Name) → o ≡ Some name → Has16 name) → FitBy (visit_block o) s r f
  unfolding visit_block
  fit_visit_block None r f is = mild_quiet.every s r f
  fit_visit_block (Some name) r f is = fit_reading _ (visit_read name) s r f (fit_visit_read name (s.block f name) r f (is name refl))

  fit_visit_place : (n at : ℕ) (r : Replica) (f : F) → Ready v n s r f → FitBy (visit_place at) s r f
  unfolding visit_place
  fit_visit_place n at r f h =
      let name = slice_get (blocks_of r) (at - 65) in
      fit_by _ s r f (fit_if (nat_lt at 64) (visit_slot (op_of_slot r at)) _ s r f
      (λ t. fit_visit_slot n (op_of_slot r at) r f h)
      (λ t. fit_if (at == 64) (does (λ r. Mend r.saved)) (visit_block name) s r f
      (λ t. fit_does (λ r. Mend r.saved) s r f h.well.savable.saved)
      (λ t. fit_visit_block name r f (λ x e. named_at (blocks_of r) (at - 65) x (blocks_named r h.well.savable h.blocks) e))))

  pub fit_visit : (n : ℕ) (r : Replica) (f : F) → Ready v n s r f → FitBy visit s r f
  unfolding visit
  fit_visit n r f h =
      fit_by _ s r f (fit_when (is_loaded r) _ s r f (λ t. fit_then_at (visit_place (place_now r)) _ s r f (fit_visit_place n (place_now r) r f h) ((mild_change (with_cursor (place_now r)) (λ q. refl)).every s _ _)))

  -- a block that had gone bad is written anew
  pub fit_mend_found : (block : List ℕ) (o : Option Name) (r : Replica) (f : F) → FitBy (mend_found block o) s r f
  fit_mend_found block None r f = mild_quiet.every s r f
  fit_mend_found block (Some name) r f =
      fit_then_at (does (λ r. PutBlock name block)) (change (not_worn name)) s r f (fit_does _ s r f tt)
      (fit_change (not_worn name) s _ _ (λ p k. record { missing = k.missing; worn = All-filter (λ (m : Name). not (nat_eq m.address name.address)) IsBlockName _ k.worn; table = k.table }))

  -- ---- a jump: the root of the new checkpoint is missing, and none of its blocks has gone bad

  pub fit_jump : (w : SyncView) (r : Replica) (f : F) → IsMessage (frame.SyncView w) → FitBy (jump w) s r f
  unfolding jump jumped forgetting
  fit_jump w r f m =
      fit_then_at (change (jumped w)) save s r f
      (fit_change (jumped w) s r f (λ p k. record {
        missing = All-cons IsBlockName _ [] (record { address = (let low = m.form.address in omega arith); sum = m.body.0.0 }) (All-nil IsBlockName);
        worn = All-nil IsBlockName;
        table = k.table;
      }))
      (mild_save.every s _ _)

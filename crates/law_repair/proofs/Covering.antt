-- After as many visits as there are places, what doesn't read is known.
use Rattle.std.proofs.Common.{arith, ℕ, ◌+◌, ◌-◌, ◌%◌, ◌≡◌, ◌<◌, ◌≤◌, ◌∙◌, ◌⊎◌, inl, inr, refl, sym, ap, subst, Bool, true, false, not, List, Some}
use Rattle.std.specs.Prelude.{All, Contains, slice_get, ◌==◌, ◌||◌}
use Rattle.std.specs.Cmp.Derive.{both_true}
use Rattle.std.proofs.lemmas.Bool.{eq-eqb, eqb-true, ne_eqb, true≢false}
use Rattle.std.proofs.lemmas.Nat.{mod_below}
use Rattle.std.proofs.Math.Nat.{mod-eq_of_lt}
use Rattle.vr_disk.specs.DiskState.{Face}
use Rattle.vr_ckpt.specs.Places.{grid_size}
use Rattle.vr_ckpt.specs.declared.name.Name.{Name}
use Rattle.vr_header.specs.declared.header.Header.{Header}
use Rattle.vr_header.specs.declared.part.Part.{Part}
use Rattle.vr_header.specs.declared.part.Part.TheVariants.{Here, Lost, Wanted, Unknown, Nothing}
use Rattle.vr_header.specs.Made.{Whole}
use Rattle.vr_header.specs.Parts.{header_of}
use Rattle.vr_msg.specs.declared.event.Event.{Event}
use Rattle.vr_super.specs.Laws.{AllRead}
use Rattle.vr_rules.specs.Fit.{IsProgram}
use Rattle.vr_rules.specs.Laws.{HasNames, IsEvent, SavesRoots, SavesWell}
use Rattle.vr_world.specs.Lying.{lying}
use Rattle.vr_rules.specs.Replica.{Replica, is_absent, part_at, version}
use Rattle.vr_rules.specs.Rules as rules
use Rattle.vr_rules.specs.Sectors.{sectors_by}
use Rattle.vr_rules.specs.Sound.{IsSavable, IsSound}
use Rattle.vr_rules.specs.Steps.{Setting, after_all}
use Rattle.vr_rules.specs.Words as words
use Rattle.vr_rules.proofs.FitDisks.{disks_fit}
use Rattle.vr_world.proofs.FitLies.{lies_fit}
use Rattle.vr_rules.proofs.Reacting.{steps_stay_sound}
use Rattle.vr_rules.proofs.SavesSectors.{sectors_fit}
use Rattle.vr_rules.proofs.SavesSteps.{steps_save_well}
use Rattle.law_repair.specs.Cover.{IsLaidOut, KnowsFaults, LaysOut, VisitsCover, visits_made}
use Rattle.law_repair.specs.Visits.{AreRead, after_events, visited}
use Rattle.law_repair.proofs.Counting.{Sees, all_known, goes_walks}
use Rattle.law_repair.proofs.Disks.{HasRoom, IsLong, lying_stores, sectors_store}
use Rattle.law_repair.proofs.Dry.{fine_after}
use Rattle.law_repair.proofs.Finding.{both, lying_sturdy, sectors_sturdy, step_reads, step_version}
use Rattle.law_repair.proofs.Holding.{Holds, lying_holds, sectors_hold}
use Rattle.law_repair.proofs.Lasting.{All-one, goes_copies, goes_found, goes_known, goes_laid, goes_mended, got_is, has_moved, is_got, laid_loaded, missing_none}
use Rattle.law_repair.proofs.Laying.{LoadsApart, lying_apart, sectors_apart}
use Rattle.law_repair.proofs.Looking.{Sturdy}
use Rattle.law_repair.proofs.StandingRules.{Any, Goes, some, step_goes_any}
use Rattle.law_repair.proofs.Wearing.{Known, reads, worn}

slot_visited : (r q : Replica) → words.place_now r < 64 → q.cursor ≡ (words.place_now r + 1) % words.places r → visited r q (words.place_now r) ≡ true
slot_visited r q l e =
    let low : words.place_now r + 1 < words.places r = omega (arith, l) in
    let next : q.cursor ≡ words.place_now r + 1 = e ∙ mod-eq_of_lt low in
    both_true (ap not (ne_eqb q.cursor r.cursor (has_moved r q e))) (eq-eqb q.cursor (words.place_now r + 1) next)

module _ {F : Type 0} (s : Setting F) (Fine : F → Type 0) (sturdy : Sturdy s Fine) (program : IsProgram s) (names : HasNames s) where
  -- ---- slots

  abbrev Ok : Replica → F → Type 0
  Ok r f = (version r ≤ sturdy.stores.last) × IsSound r × Fine f

  abbrev SlotKnown : ℕ → Replica → F → Type 0
  SlotKnown p r f = p < 64 → AreRead s (λ slot. slot == p) r f

  only : (seen : ℕ → Bool) (p : ℕ) (q : Replica) (g : F) → seen p ≡ true → AreRead s seen q g → AreRead s (λ slot. slot == p) q g
  only seen p q g e read = λ k h a b t. read k h a (subst (λ x. seen x ≡ true) (sym (eqb-true (k % 64) p b)) e) t

  nothing_seen : (r : Replica) (f : F) → AreRead s (λ slot. false) r f
  nothing_seen r f = λ k h a b t. absurd (true≢false (sym b))

  slots_seen : Sees s Ok SlotKnown
  slots_seen = record {
    sound = λ r f ok. ok.1;
    stays = λ e r f m ok same. (subst (λ v. v ≤ sturdy.stores.last) (sym (step_version s e r f)) ok.0, steps_stay_sound s f r e names ok.1 m, fine_after s Fine sturdy.stores (rules.react e s r f).script f ok.2);
    keeps = λ p e r f m ok loaded same within known l.
        let x = rules.react e s r f in
        let read = step_reads s Fine sturdy program names (λ slot. slot == p) e r f ok.0 ok.1 ok.2 m (known l) in
        only (both (λ slot. slot == p) r x.replica) p x.replica (after_all s f x.script) (ap (λ b. b || visited r x.replica p) (eq-eqb p p refl)) read;
    finds = λ e r f m ok loaded same turned l.
        let x = rules.react e s r f in
        let read = step_reads s Fine sturdy program names (λ slot. false) e r f ok.0 ok.1 ok.2 m (nothing_seen r f) in
        only (both (λ slot. false) r x.replica) (words.place_now r) x.replica (after_all s f x.script) (slot_visited r x.replica l turned) read;
  }

  entry_known : (r : Replica) (f : F) (k : ℕ) (h : Header) (p : Part) → AreRead s (λ slot. slot == k % 64) r f → r.checkpoint < k → part_at r k ≡ p → header_of p ≡ Some h
      → ((e : Whole) × (words.entry_of h s f ≡ Some e)) ⊎ (is_absent p ≡ true)
  entry_known r f k h (Here x) read above is named =
      let one : x ≡ h = cc in
      let rd = read k x above (eq-eqb (k % 64) (k % 64) refl) is in
      inl (rd.0, subst (λ y. words.entry_of y s f ≡ Some rd.0) one rd.1)
  entry_known r f k h (Lost x) read above is named = inr refl
  entry_known r f k h (Wanted x) read above is named = inr refl
  entry_known r f k h Unknown read above is named = absurd cc
  entry_known r f k h Nothing read above is named = absurd cc

-- ---- the superblock, and blocks

module _ {F : Type 0} (s : Setting F) (Fine : F → Type 0) (face : F → Face) (sturdy : Sturdy s Fine) (holds : Holds s Fine (λ f v. AllRead (face f) v)) (names : HasNames s) where
  goes_by : (e : Event) (r : Replica) (f : F) → IsSound r → Goes Any s r f (rules.react e s r f)
  goes_by e r f sound = step_goes_any s e r f sound.order.applied

  module _ (roots : SavesRoots s) where
    record Saves (r : Replica) (f : F) : Type 0 where
      sound : IsSound r
      fine : Fine f
      savable : IsSavable r

    abbrev CopiesKnown : ℕ → Replica → F → Type 0
    CopiesKnown p r f = p ≡ 64 → AllRead (face f) r.saved

    well : (e : Event) (r : Replica) (f : F) → IsEvent e → Saves r f → SavesWell (rules.react e s r f)
    well e r f m ok = steps_save_well s f r e names roots ok.sound ok.savable m

    copies_seen : Sees s Saves CopiesKnown
    copies_seen = record {
      sound = λ r f ok. ok.sound;
      stays = λ e r f m ok same. record {
        sound = steps_stay_sound s f r e names ok.sound m;
        fine = fine_after s Fine sturdy.stores (rules.react e s r f).script f ok.fine;
        savable = (well e r f m ok).savable;
      };
      keeps = λ p e r f m ok loaded same within known at.
          goes_copies s Fine (λ f v. AllRead (face f) v) sturdy.stores holds r f (rules.react e s r f) (goes_by e r f ok.sound) ok.sound.order.applied (well e r f m ok).each ok.savable.saved ok.fine (known at);
      finds = λ e r f m ok loaded same turned at.
          let x = rules.react e s r f in
          goes_mended s Fine (λ f v. AllRead (face f) v) sturdy.stores holds r f x (goes_by e r f ok.sound) ok.sound.order.applied loaded at same (has_moved r x.replica turned) (well e r f m ok).each ok.savable.saved ok.fine;
    }

  module _ (apart : LoadsApart s) where
    record Lays (r : Replica) (f : F) : Type 0 where
      sound : IsSound r
      fine : Fine f
      laid : IsLaidOut r

    abbrev BlockKnown : ℕ → Replica → F → Type 0
    BlockKnown p r f = (name : Name) → 65 ≤ p → slice_get (words.blocks_of r) (p - 65) ≡ Some name → Known s f r name

    blocks_seen : Sees s Lays BlockKnown
    blocks_seen = record {
      sound = λ r f ok. ok.sound;
      stays = λ e r f m ok same.
          let x = rules.react e s r f in
          record {
            sound = steps_stay_sound s f r e names ok.sound m;
            fine = fine_after s Fine sturdy.stores x.script f ok.fine;
            laid = goes_laid s apart r f x (goes_by e r f ok.sound) ok.sound.order.applied same ok.laid;
          };
      keeps = λ p e r f m ok loaded same within known.
          let x = rules.react e s r f in
          let goes = goes_by e r f ok.sound in
          let order = ok.sound.order.applied in
          let blocks = (goes_walks s r f x goes order loaded same).blocks in
          λ name high at.
          let there : slice_get (words.blocks_of r) (p - 65) ≡ Some name = ap (λ xs. slice_get xs (p - 65)) (sym blocks) ∙ at in
          goes_known s Fine (λ f v. AllRead (face f) v) sturdy.stores holds r f x name goes order loaded same ok.fine (ok.laid.apart (missing_none r loaded)) ok.laid (got_is (words.blocks_of r) (p - 65) name there) (known name high there);
      finds = λ e r f m ok loaded same turned.
          let x = rules.react e s r f in
          let goes = goes_by e r f ok.sound in
          let order = ok.sound.order.applied in
          let blocks = (goes_walks s r f x goes order loaded same).blocks in
          let k : ℕ = words.place_now r - 65 in
          λ name high at.
          let there : slice_get (words.blocks_of r) k ≡ Some name = ap (λ xs. slice_get xs k) (sym blocks) ∙ at in
          let low : name.address < grid_size = All-one (λ (m : Name). m.address < grid_size) (words.blocks_of r) name (ok.laid.apart (missing_none r loaded)).grid (got_is (words.blocks_of r) k name there) in
          goes_found s Fine (λ f v. AllRead (face f) v) sturdy.stores holds r f x name goes order loaded same (has_moved r x.replica turned) high there low;
    }

    -- a block of the checkpoint reads, or it is itself among those that have gone bad
    block_known : (r : Replica) (f : F) (name : Name) → IsLaidOut r → words.is_loaded r ≡ true → ((p : ℕ) → p < words.places r → BlockKnown p r f) → Contains (words.blocks_of r) name
        → ((block : List ℕ) × (s.block f name ≡ Some block)) ⊎ Contains r.worn name
    block_known r f name laid loaded known c =
        let bs : List Name = words.blocks_of r in
        let lt = c.1 in
        let back : 65 + c.0 - 65 ≡ c.0 = omega arith in
        let at : slice_get bs (65 + c.0 - 65) ≡ Some name = ap (slice_get bs) back ∙ is_got bs c.0 name c.1 c.2 in
        elim (known (65 + c.0) (omega (arith, lt)) name (omega arith) at) [
          | reads block e ↦ inl (block, e)
          | worn bad b same ↦ inr (subst (Contains r.worn) ((laid.apart (missing_none r loaded)).own bad name (All-one (Contains bs) r.worn bad laid.worn b) c same) b)
        ]

-- ---- all places

module _ {F : Type 0} (s : Setting F) (Fine : F → Type 0) (face : F → Face) (sturdy : Sturdy s Fine) (holds : Holds s Fine (λ f v. AllRead (face f) v)) (program : IsProgram s) (names : HasNames s) (roots : SavesRoots s) (apart : LoadsApart s) where
  covered : (es : List Event) (r : Replica) (f : F) → version r ≤ sturdy.stores.last → IsSound r → IsSavable r → IsLaidOut r → Fine f → All IsEvent es
      → let end = after_events s es r f in end.replica.checkpoint ≡ r.checkpoint → words.places end.replica ≤ visits_made s es r f → KnowsFaults s face end.replica end.disk
  covered es r f taken sound savable laid fine m same enough =
      let end = after_events s es r f in
      let slots = all_known s (Ok s Fine sturdy program names) (SlotKnown s Fine sturdy program names) (slots_seen s Fine sturdy program names) names es r f m (taken, sound, fine) same enough in
      let copies = all_known s _ _ (copies_seen s Fine face sturdy holds names roots) names es r f m (record { sound = sound; fine = fine; savable = savable }) same enough in
      let blocks = all_known s _ _ (blocks_seen s Fine face sturdy holds names apart) names es r f m (record { sound = sound; fine = fine; laid = laid }) same enough in
      record {
        entries = λ k h above named.
            let low = mod_below k 64 (omega arith) in
            entry_known s Fine sturdy program names end.replica end.disk k h (part_at end.replica k) (slots.each (k % 64) (omega (arith, low)) low) above refl named;
        superblock = copies.each 64 (omega arith) refl;
        blocks = λ name c. block_known s Fine face sturdy holds names apart end.replica end.disk name blocks.ok.laid blocks.loaded blocks.each c;
      }

module _ {F : Type 0} (s : Setting F) (apart : LoadsApart s) where
  lays_out : LaysOut s
  lays_out = record {
    steps = λ e r f sound m laid same.
        goes_laid s apart r f (rules.react e s r f) (step_goes_any s e r f sound.order.applied) sound.order.applied same laid;
    loads = λ r f texts e. laid_loaded s apart r (some f texts e);
  }

-- ---- the disks of the program

pub sectors_cover : (v : ℕ) → VisitsCover (sectors_by v) (λ f. f) (λ f. v)
unfolding sectors_sturdy sectors_store
sectors_cover v es r f face taken sound savable laid m same enough =
    covered (sectors_by v) IsLong (λ f. f) (sectors_sturdy v) (sectors_hold v) (disks_fit.program v) (sectors_fit v).0 (sectors_fit v).1 (sectors_apart v) es r f taken sound savable laid face.count m same enough

pub sectors_lay_out : (v : ℕ) → LaysOut (sectors_by v)
sectors_lay_out v = lays_out (sectors_by v) (sectors_apart v)

pub lying_lay_out : LaysOut lying
lying_lay_out = lays_out lying lying_apart

pub lying_covers : VisitsCover lying (λ d. d.face) (λ d. d.version)
unfolding lying_sturdy lying_stores
lying_covers es r d face taken sound savable laid m same enough =
    let v = version r in
    covered lying (HasRoom v) (λ x. x.face) (lying_sturdy v) (lying_holds v) lies_fit.program lies_fit.names lies_fit.roots lying_apart es r d (omega arith) sound savable laid (face.count, taken) m same enough

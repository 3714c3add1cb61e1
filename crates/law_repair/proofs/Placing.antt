-- The blocks of a replica's checkpoint stay at their places, whatever comes.
use Rattle.std.proofs.Common.{arith, ℕ, ◌-◌, ◌≡◌, ◌<◌, ◌∙◌, inl, inr, refl, sym, ap, subst, true, false, cond, not, List, [], ◌∷◌, ◌++◌, min, Option, Some, None}
use Rattle.std.specs.Prelude.{◌==◌, ◌||◌, nat_lt}
use Rattle.std.specs.Option.{option_and_then}
use Rattle.std.proofs.lemmas.Bool.{cases_lt, eqb-false, true≢false}
use Rattle.vr_state.specs.declared.state.State.{State}
use Rattle.vr_base.specs.Bytes.{IsBytes}
use Rattle.vr_ckpt.specs.Loads.{data_at, data_of, gathered, gathered_both, load_by, loaded, read_root, root_at, with_data}
use Rattle.vr_ckpt.specs.declared.loading.Gathered.{Gathered}
use Rattle.vr_ckpt.specs.declared.root.Root.{Root}
use Rattle.vr_ckpt.specs.declared.table.PayloadTable.{PayloadTable}
use Rattle.vr_disk.specs.DiskState.{Face, IsFace}
use Rattle.vr_disk.proofs.Faces.{face_after_all}
use Rattle.vr_ckpt.specs.Blocks.{named}
use Rattle.vr_ckpt.specs.Grid.{block_reading, named_at, put_calls}
use Rattle.vr_ckpt.specs.Places.{grid_size}
use Rattle.vr_ckpt.specs.declared.name.Name.{Name}
use Rattle.vr_ckpt.proofs.Puts.{name_fits}
use Rattle.vr_msg.specs.declared.event.Event.{Event}
use Rattle.vr_rules.specs.Fit.{IsFit, IsProgram, ReadsWell}
use Rattle.vr_world.specs.GroupFit.{IsFitReplica}
use Rattle.vr_rules.specs.Laws.{IsEvent, SavesRoots}
use Rattle.vr_rules.specs.Replica.{Replica, is_frozen, is_spent, last_view}
use Rattle.vr_rules.specs.Rules as rules
use Rattle.vr_rules.specs.Sectors.{sectors_by}
use Rattle.vr_rules.specs.Steps.{Effect, PutBlock, Setting, Step, Word, ◌⨾◌, after_all, by, quiet, when}
use Rattle.vr_rules.specs.Words as words
use Rattle.vr_rules.proofs.FitSteps.{steps_fit}
use Rattle.vr_rules.proofs.FitWords.{reads_later}
use Rattle.law_4_disks.specs.Stocks.{IsGivenEvent}
use Rattle.law_4_disks.proofs.Blocks.{put_are}
use Rattle.law_4_disks.proofs.Loading.{loads_well}
use Rattle.law_repair.specs.Cover.{IsLaidOut, StandApart}
use Rattle.law_repair.specs.Places.{IsInPlace, StaysInPlace}
use Rattle.law_repair.proofs.Counting.{visit_stays}
use Rattle.law_repair.proofs.Holding.{grid_reads}
use Rattle.law_repair.proofs.Lasting.{goes_worn}
use Rattle.law_repair.proofs.Laying.{LoadsApart, SavesInPlace, all_names, nothing_apart, places_stand}
use Rattle.law_repair.proofs.Standing.{All-left, All-right, Fitting, IsRooted, IsStocked, IsWornWell, Rooted, SparesGrid, Standing, Stock}
use Rattle.law_repair.proofs.StandingRules.{Goes, LoadsBytes, fills, mends, moves, rests, step_goes, visits}
use Rattle.law_repair.proofs.Turning as turning

-- ---- what is known of the disks of the program

pub record Loads {F : Type 0} (s : Setting F) (face : F → Face) : Type 0 where
  pub bytes : (f : F) → IsFace (face f) → LoadsBytes s f
  pub put : (f : F) (name : Name) (block : List ℕ) → IsFace (face f) → s.is_block name block ≡ true → IsBytes block → IsFace (face (s.after f (PutBlock name block)))
  pub same : (f : F) (e : Effect) (root : Name) → SparesGrid e → s.loaded (s.after f e) root ≡ s.loaded f root
  pub reads : (f : F) → IsFace (face f) → ReadsWell s f
  pub apart : LoadsApart s
  pub saves : SavesInPlace s

-- what doesn't change a block of the grid doesn't change what loads
module _ (f g : Face) (same : (address : ℕ) → block_reading g address ≡ block_reading f address) where
  named_same : (name : Name) → named_at g name ≡ named_at f name
  unfolding named_at
  named_same name = ap (λ o. cond (nat_lt name.address grid_size) (option_and_then (named name) o) None) (same name.address)

  data_same : (name : Name) (size : ℕ) → data_at g name size ≡ data_at f name size
  unfolding data_at
  data_same name size = ap (option_and_then (data_of size)) (named_same name)

  gathered_same : (size : ℕ) (names : List Name) → gathered g size names ≡ gathered f size names
  unfolding gathered
  gathered_same size [] = refl
  gathered_same size (name ∷ names) =
      ap (λ o. with_data name o (gathered g (size - 3968) names)) (data_same name (min size 3968)) ∙ ap (with_data name (data_at f name (min size 3968))) (gathered_same (size - 3968) names)

  by_root : (root : Name) (o : Option Root) → load_by g root o ≡ load_by f root o
  by_root root None = refl
  by_root root (Some r) =
      ap (λ (x : Gathered). gathered_both x (gathered g r.keys_size r.keys)) (gathered_same r.sessions_size r.sessions)
      ∙ ap (gathered_both (gathered f r.sessions_size r.sessions)) (gathered_same r.keys_size r.keys)

  loaded_same : (root : Name) → loaded g root ≡ loaded f root
  unfolding loaded root_at
  loaded_same root = ap (λ o. load_by g root (option_and_then read_root o)) (named_same root) ∙ by_root root (root_at f root)

-- ---- steps

-- a visit leaves all but what has gone bad
stays_stocked : (r q : Replica) → turning.Stays r q → IsStocked r → IsStocked q
stays_stocked r q st k = subst (λ (x : State). Stock x q.table) (sym st.state) (subst (λ (t : PayloadTable). Stock r.state t) (sym st.table) k)

stays_rooted : (r q : Replica) → turning.Stays r q → IsRooted r → IsRooted q
stays_rooted r q st k =
    subst (λ (ms : List Name). Rooted ms q.checkpoint q.root) (sym st.missing) (subst (λ c. Rooted r.missing c q.root) (sym st.checkpoint) (subst (λ (n : Name). Rooted r.missing r.checkpoint n) (sym st.root) k))

module _ {F : Type 0} (s : Setting F) where
  visits_stocked : (v w : Word F) (r : Replica) (f : F) → Standing v → Standing w → let x = (v ⨾ words.visit ⨾ w) s r f in Fitting s f x → IsStocked r → IsStocked x.replica
  unfolding ◌⨾◌
  visits_stocked v w r f hv hw fit k =
      let a = v s r f in
      let d : F = after_all s f a.script in
      let c = words.visit s a.replica d in
      let e : F = after_all s d c.script in
      let b = w s c.replica e in
      let left = All-left IsFit a.script (c.script ++ b.script) fit.fits in
      let right = All-right IsFit a.script (c.script ++ b.script) fit.fits in
      let mid = All-left IsFit c.script b.script right in
      let reads = reads_later s f a.script fit.reads left in
      let first : Fitting s f a = record { saves = fit.saves; reads = fit.reads; fits = left } in
      let last : Fitting s e b = record { saves = fit.saves; reads = reads_later s d c.script reads mid; fits = All-right IsFit c.script b.script right } in
      hw.stocks tt s c.replica e last (stays_stocked a.replica c.replica (visit_stays s a.replica d) (hv.stocks tt s r f first k))

  visits_rooted : (v w : Word F) (r : Replica) (f : F) → Standing v → Standing w → SavesInPlace s → IsRooted r → IsRooted ((v ⨾ words.visit ⨾ w) s r f).replica
  unfolding ◌⨾◌
  visits_rooted v w r f hv hw p k =
      let a = v s r f in
      let d : F = after_all s f a.script in
      let c = words.visit s a.replica d in
      hw.roots s c.replica (after_all s d c.script) p (stays_rooted a.replica c.replica (visit_stays s a.replica d) (hv.roots s r f p k))

  module _ {G : List ℕ → Type 0} (r : Replica) (f : F) (x : Step) (goes : Goes G s r f x) where
    goes_stocked : LoadsApart s → ((name : Name) (block : List ℕ) → G block → s.is_block name block ≡ true → LoadsBytes s (s.after f (PutBlock name block))) → Fitting s f x → IsStocked r → IsStocked x.replica
    goes_stocked apart bytes fit k = elim goes [
      | rests h keeps ↦ keeps.stocks fit k
      | moves p up keeps ↦ keeps.stocks fit k
      | fills p lacking still from filled ↦ filled.stocks apart (bytes filled.name filled.block filled.given filled.whole) fit k
      | mends name block bad is e ↦ subst (λ (y : Step). IsStocked y.replica) (sym e) k
      | visits v w hv hw e ↦ subst (λ (y : Step). Fitting s f y → IsStocked y.replica) (sym e) (λ i. visits_stocked v w r f hv hw i k) fit
    ]

    goes_rooted : LoadsApart s → SavesInPlace s → IsRooted r → IsRooted x.replica
    goes_rooted apart p k = elim goes [
      | rests h keeps ↦ keeps.roots p k
      | moves q up keeps ↦ keeps.roots p k
      | fills q lacking still from filled ↦ filled.roots apart p
      | mends name block bad is e ↦ subst (λ (y : Step). IsRooted y.replica) (sym e) k
      | visits v w hv hw e ↦ subst (λ (y : Step). IsRooted y.replica) (sym e) (visits_rooted v w r f hv hw p k)
    ]

-- ---- a replica

pub in_place : (r : Replica) → IsStocked r → IsRooted r → IsWornWell r → IsInPlace r
in_place r a b c = record { sessions = a.sessions; machine = a.machine; table = a.table; root = b; worn = c.worn; none = c.none }

-- one that is at the end of its sequence numbers ignores every event
pub frozen_still : {F : Type 0} (s : Setting F) (e : Event) (r : Replica) (f : F) → is_spent r ≡ true → rules.react e s r f ≡ record { replica = r; script = [] }
unfolding rules.react by quiet
frozen_still s e r f t =
    let frozen : is_frozen r ≡ true = elim (nat_lt last_view r.view) as (λ b. (b || is_spent r) ≡ true) [ true ↦ refl | false ↦ t ] in
    ap (λ b. when (not b) (rules.on_event e) s r f) frozen

module _ {F : Type 0} (s : Setting F) (face : F → Face) (loads : Loads s face) (program : IsProgram s) (roots : SavesRoots s) where
  pub step_in_place : (e : Event) (r : Replica) (f : F) → IsFace (face f) → IsFitReplica r → IsEvent e → IsGivenEvent IsBytes e → StaysInPlace r → StaysInPlace (rules.react e s r f).replica
  step_in_place e r f whole fit m given k =
      let x = rules.react e s r f in
      let order = fit.sound.order.applied in
      let reads = loads.reads f whole in
      let step = steps_fit s f r e program roots reads fit.sound fit.savable fit.blocks m in
      let goes : Goes IsBytes s r f x = step_goes IsBytes s e r f order given in
      let fitting : Fitting s f x = record { saves = loads.saves; reads = reads; fits = step.each } in
      elim (is_spent r) as (λ b. is_spent r ≡ b → StaysInPlace x.replica) [
        | true ↦ λ t live. absurd (true≢false (sym (ap is_spent (ap (λ (y : Step). y.replica) (frozen_still s e r f t)) ∙ t) ∙ live))
        | false ↦ λ t live.
            let h = k t in
            in_place x.replica
            (goes_stocked s r f x goes loads.apart (λ name block bytes is. loads.bytes (s.after f (PutBlock name block)) (loads.put f name block whole is bytes)) fitting (record { sessions = h.sessions; machine = h.machine; table = h.table }))
            (goes_rooted s r f x goes loads.apart loads.saves h.root)
            (goes_worn s r f x goes order (record { worn = h.worn; none = h.none }))
      ] refl

pub laid_out : (r : Replica) → IsInPlace r → IsLaidOut r
laid_out r h = record {
  apart = λ none.
      elim (r.checkpoint == 0) as (λ b. (r.checkpoint == 0) ≡ b → StandApart (cond b [] (all_names r.root r.table))) [
        | true ↦ λ t. nothing_apart
        | false ↦ λ t. places_stand r.root r.table (h.root none (let some = eqb-false r.checkpoint 0 t in let low : 0 < r.checkpoint = elim (cases_lt 0 r.checkpoint) [ inl a ↦ a | inr b ↦ absurd (some (omega (arith, b))) ] in low)) h.table
      ] refl;
  worn = h.worn;
  none = h.none;
}

-- ---- the disks of the program

pub put_face : (v : ℕ) (f : Face) (name : Name) (block : List ℕ) → IsFace f → (sectors_by v).is_block name block ≡ true → IsBytes block → IsFace ((sectors_by v).after f (PutBlock name block))
put_face v f name block whole is bytes = let fits = name_fits name block is in face_after_all (put_calls name.address block) f whole (put_are name.address block fits.0 bytes fits.1)

pub loaded_bytes : (v : ℕ) (f : Face) → IsFace f → LoadsBytes (sectors_by v) f
loaded_bytes v f whole = λ root texts t e. let w = loads_well f root texts t whole e in (w.sessions, w.keys)

pub loaded_still : (v : ℕ) (f : Face) (e : Effect) (root : Name) → SparesGrid e → loaded ((sectors_by v).after f e) root ≡ loaded f root
loaded_still v f e root h = loaded_same f ((sectors_by v).after f e) (λ address. grid_reads v f e address h) root

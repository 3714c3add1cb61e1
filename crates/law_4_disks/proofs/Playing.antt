-- The effects, one by one.
use Rattle.std.proofs.Common.{ℕ, suc, ◌≤◌, ◌≡◌, inl, arith, refl, sym, ap, ◌∙◌, subst, true, false, List, [], Option, Some}
use Rattle.std.specs.Prelude.{is_some}
use Rattle.std.specs.List.{AllByRecursion}
use Rattle.std.specs.Option.{option_map}
use Rattle.vr_base.specs.declared.mode.Mode.{Mode}
use Rattle.vr_disk.specs.DiskState.{Call, Face, Sync, Write, after, after_all, cut}
use Rattle.vr_disk.specs.Regions.{header_place, prepare_place, prepare_sectors}
use Rattle.vr_disk.specs.Sectors.{has, writes}
use Rattle.vr_disk.specs.Stops.{IsCall}
use Rattle.vr_disk.proofs.Places.{behind_header}
use Rattle.vr_disk.proofs.Together.{after_all_append, is_has, together_synced}
use Rattle.vr_header.specs.declared.header.Header.{Header}
use Rattle.vr_header.specs.Made.{Whole}
use Rattle.vr_header.specs.Spelling.{IsHeader}
use Rattle.vr_rings.specs.Calls.{again_calls, header_calls, new_calls, prepare_calls}
use Rattle.vr_rings.specs.Held.{Stands, entry_of_both, entry_read, header_sector, held_cut, is_prepare}
use Rattle.vr_rings.specs.Laws.{AgainLeaves, HeaderLeaves, LastsIn, NewLeaves, TellsPrepare, TellsUpTo}
use Rattle.vr_rings.specs.Slots.{IsWhole, Takes, header_reading, padded, prepare_bytes, prepare_reading, sector_of, slot_of, whole_in}
use Rattle.vr_super.proofs.Keeping.{opens_on}
use Rattle.vr_rings.proofs.Leaving.{again_leaves, header_leaves, new_leaves}
use Rattle.vr_rings.proofs.Standing.{calls_stand, prepare_other}
use Rattle.vr_rings.proofs.Spelling.{header_sector_is, whole_again}
use Rattle.vr_ckpt.specs.Grid.{block_calls, put_calls}
use Rattle.vr_state.specs.declared.texts.Texts.{Texts}
use Rattle.vr_ckpt.specs.declared.table.PayloadTable.{PayloadTable}
use Rattle.vr_ckpt.specs.Saves.{blocks_calls, save_calls, written}
use Rattle.vr_lie.specs.Faults.{held_at}
use Rattle.vr_rules.specs.Steps as effect
use Rattle.vr_rules.specs.Steps.{Rewrite, Save, Mend, Checkpoint, PutBlock, Say}
use Rattle.vr_world.specs.Lying.{Lying, after_calls}
use Rattle.vr_world.specs.Group.{Member, begins, ends, kept_at, kept_under}
use Rattle.law_4_disks.specs.Beside.{IsOff, IsOn, MayCome}
use Rattle.law_4_disks.specs.Laws.{EffectsCut, EffectsStay}
use Rattle.law_4_disks.proofs.Found.{read_whole}
use Rattle.law_4_disks.proofs.Regions.{again_apart, again_from, checkpoint_apart, checkpoint_from, header_apart, header_from, new_apart, new_from, put_apart, put_from}
use Rattle.law_4_disks.proofs.Effects.{begun_off, grid_cut, grid_done, mend_cut, mend_opens, off, quiet_disk, save_cut, save_done, slot_less, stored_on, synced}

new_rests : (ver : ℕ) (e : Whole) (f : Face) → (after_all f (new_calls ver e)).waiting ≡ []
unfolding header_calls
new_rests ver e f = ap (λ (g : Face). g.waiting) (after_all_append (prepare_calls ver e) (header_calls e.header) f)

again_rests : (ver : ℕ) (e : Whole) (f : Face) → (after_all f (again_calls ver e)).waiting ≡ []
unfolding prepare_calls
again_rests ver e f =
    ap (λ (g : Face). g.waiting) (after_all_append (header_calls e.header) (prepare_calls ver e) f)
    ∙ synced (writes (prepare_place ver (slot_of e.header)) (prepare_sectors ver) (prepare_bytes e)) (after_all f (header_calls e.header))

header_rests : (h : Header) (f : Face) → (after_all f (header_calls h)).waiting ≡ []
unfolding header_calls
header_rests h f = refl

checkpoint_rests : (cluster : ℕ) (texts : Texts) (op : ℕ) (old : PayloadTable) (f : Face) → (after_all f (save_calls cluster texts op old)).waiting ≡ []
unfolding save_calls
checkpoint_rests cluster texts op old f = synced (blocks_calls (written cluster texts op old)) f

put_rests : (address : ℕ) (block : List ℕ) (f : Face) → (after_all f (put_calls address block)).waiting ≡ []
unfolding put_calls
put_rests address block f = synced (block_calls address block) f

-- ---- the header sector of an entry that reads

header_prepare : (ver : ℕ) (h : Header) (f : Face) → prepare_reading ver (after_all f (header_calls h)) (slot_of h) ≡ prepare_reading ver f (slot_of h)
unfolding header_calls
header_prepare ver h f =
    let i = header_place (slot_of h) in
    let g = after f (Write i (sector_of h)) in
    let rests : prepare_reading ver (after g Sync) (slot_of h) ≡ prepare_reading ver g (slot_of h) = ap (option_map (padded ver)) (together_synced (prepare_sectors ver) (prepare_place ver (slot_of h)) g) in
    rests ∙ prepare_other ver f (slot_of h) i (sector_of h) (inl (behind_header ver (slot_of h)))

pub reads_entry : (ver : ℕ) (g : Face) (e : Whole) → IsWhole e → header_reading g (slot_of e.header) ≡ Some (sector_of e.header) → prepare_reading ver g (slot_of e.header) ≡ Some (prepare_bytes e) → entry_read ver g (slot_of e.header) ≡ Some (prepare_bytes e)
unfolding entry_of_both
reads_entry ver g e w h p =
    let b = prepare_bytes e in
    let header : has (header_sector b) (Some (sector_of e.header)) ≡ true = is_has (header_sector b) (Some (sector_of e.header)) (ap Some (sym (header_sector_is e w.header))) in
    let whole : is_prepare b ≡ true = ap is_some (whole_again e w) in
    ap (λ h. entry_of_both h (prepare_reading ver g (slot_of e.header))) h ∙ (ap (entry_of_both (Some (sector_of e.header))) p ∙ (rw (header, whole) refl))

rewritten : (e : Whole) (d : Lying) (m : Member) → IsOn d m → AllByRecursion IsCall (header_calls e.header) → whole_in d.version d.face (slot_of e.header) ≡ Some e → e.header.cluster ≡ m.last.fields.cluster → e.header.version ≤ d.version → IsOn (after_calls d (header_calls e.header)) (ends (Rewrite e.header) (begins (Rewrite e.header) m))
rewritten e d m o k r own few =
    let h = e.header in
    let slot = slot_of h in
    let x = read_whole d.version d.face slot e o.calm.face (slot_less h) r in
    let leaves : HeaderLeaves d.version h d.face = header_leaves h (Some (quiet_disk d.face)) o.calm.face x.whole.header o.calm.rests d.version in
    let g = after_all d.face (header_calls h) in
    let stands = calls_stand d.version (header_calls h) d.face slot (held_at d.held slot) (slot_less h) o.calm.face.count (o.calm.stand.each slot (slot_less h)) in
    let held = stands.seen (prepare_bytes e) (reads_entry d.version g e x.whole leaves.done (header_prepare d.version h d.face ∙ x.reads)) in
    stored_on (header_calls h) d m (ends (Rewrite h) (begins (Rewrite h) m)) e (kept_under true h (kept_at m h.op)) o k (header_from h) (header_rests h d.face) (λ slot l c. header_apart d.version h slot l c) x.whole own few held refl

-- ---- carried out

-- the superblock's value is good, so its version is one of the two
taken : (d : Lying) (m : Member) (e : Whole) → IsOn d m → e.header.version ≤ d.version → Takes d.version e
taken d m e o few =
    let good = ((opens_on d.face o.calm.face).value m.last o.value).1 in
    let most = good.numbers.version.1 in
    let file = o.file in
    record { most = omega (arith, most, file); taken = few }

pub stay : EffectsStay
stay (effect.Write true e) d m o c =
    let slot = slot_of e.header in
    let leaves : AgainLeaves d.version e d.face = again_leaves d.version e (Some (quiet_disk d.face)) o.calm.face c.fit.0 (taken d m e o c.fit.2) o.calm.rests in
    stored_on (again_calls d.version e) d m (ends (effect.Write true e) (begins (effect.Write true e) m)) e (kept_under true e.header (kept_at m e.header.op)) o c.calls (again_from d.version e) (again_rests d.version e d.face) (again_apart d.version e) c.fit.0 c.fit.1 c.fit.2
    (leaves.held m.last.fields.mode (held_at d.held slot) (o.calm.stand.each slot (slot_less e.header))) refl
stay (effect.Write false e) d m o c =
    let slot = slot_of e.header in
    let leaves : NewLeaves d.version e d.face = new_leaves d.version e (Some (quiet_disk d.face)) o.calm.face c.fit.0 (taken d m e o c.fit.2) o.calm.rests in
    stored_on (new_calls d.version e) d m (ends (effect.Write false e) (begins (effect.Write false e) m)) e (kept_under false e.header (kept_at m e.header.op)) o c.calls (new_from d.version e) (new_rests d.version e d.face) (new_apart d.version e) c.fit.0 c.fit.1 c.fit.2
    (leaves.held m.last.fields.mode (held_at d.held slot) (o.calm.stand.each slot (slot_less e.header))) refl
stay (Rewrite h) d m o c =
    let f = c.fit in
    let back : h ≡ f.0.header = sym f.2 in
    let k = subst (λ (h : Header). AllByRecursion IsCall (header_calls h)) back c.calls in
    let r = subst (λ (h : Header). whole_in d.version d.face (slot_of h) ≡ Some f.0) back f.1 in
    subst (λ (h : Header). IsOn (after_calls d (header_calls h)) (ends (Rewrite h) (begins (Rewrite h) m))) f.2 (rewritten f.0 d m o k r f.3 f.4)
stay (Save old new) d m o c = save_done old new d m o c
stay (Mend v) d m o c =
    let e : m.last ≡ v = sym c.fit in
    mend_opens v d m (subst (IsOff d m) e (off d m o)) c.calls
stay (Checkpoint cluster texts op old) d m o c = grid_done (save_calls cluster texts op old) d m o c.calls (checkpoint_from cluster texts op old) (λ slot l. checkpoint_apart d.version slot cluster texts op old l) (checkpoint_rests cluster texts op old d.face)
stay (PutBlock name block) d m o c = grid_done (put_calls name.address block) d m o c.calls (put_from name.address block) (λ slot l. put_apart d.version slot name.address block l) (put_rests name.address block d.face)
stay (Say output) d m o c = grid_done [] d m o tt tt (λ slot l. tt) o.calm.rests

-- ---- cut

held_lasts : {mode : Mode} (ver : ℕ) (cs : List Call) (f : Face) (slot j code : ℕ) (p : List ℕ) (held : Option (List ℕ)) → held ≡ Some p → LastsIn ver cs f slot p → Stands ver mode f slot held
    → TellsUpTo ver (suc j) cs f slot p → TellsPrepare ver (cut j code f cs) slot p → held_cut ver j code f cs slot held ≡ held
held_lasts {mode} ver cs f slot j code p held e lasts s t u =
    let all = lasts mode (subst (Stands ver mode f slot) e s) in
    ap (held_cut ver j code f cs slot) e ∙ (all.stopped j code t u ∙ sym e)

pub stopped : EffectsCut
stopped (effect.Write false e) d m j code o c l t =
    let leaves : NewLeaves d.version e d.face = new_leaves d.version e (Some (quiet_disk d.face)) o.calm.face c.fit.0 (taken d m e o c.fit.2) o.calm.rests in (
      m.last,
      begun_off (new_calls d.version e) d m (begins (effect.Write false e) m) e.header false j code o c.calls (new_from d.version e) l (new_apart d.version e)
          (λ slot b. (leaves.kept m.last.fields.mode slot (held_at d.held slot) b (o.calm.stand.each slot b)).stopped j code) (λ x. absurd cc) refl,
    )
stopped (effect.Write true e) d m j code o c l t =
    let slot = slot_of e.header in
    let less = slot_less e.header in
    let leaves : AgainLeaves d.version e d.face = again_leaves d.version e (Some (quiet_disk d.face)) o.calm.face c.fit.0 (taken d m e o c.fit.2) o.calm.rests in (
      m.last,
      begun_off (again_calls d.version e) d m (begins (effect.Write true e) m) e.header true j code o c.calls (again_from d.version e) l (again_apart d.version e)
          (λ slot b. (leaves.kept m.last.fields.mode slot (held_at d.held slot) b (o.calm.stand.each slot b)).stopped j code)
          (λ x h.
          let same = t.entry h.entry h.whole h.there h.header in
          let there : held_at d.held slot ≡ Some (prepare_bytes e) = h.there ∙ ap (λ (w : Whole). Some (prepare_bytes w)) same in
          held_lasts d.version (again_calls d.version e) d.face slot j code (prepare_bytes e) (held_at d.held slot) there leaves.lasts (o.calm.stand.each slot less) (t.front slot e less c.fit.0 there) (t.cut slot e less c.fit.0 there))
          refl,
    )
stopped (Rewrite h) d m j code o c l t =
    let slot = slot_of h in
    let less = slot_less h in
    let f = c.fit in
    let w = (read_whole d.version d.face slot f.0 o.calm.face less f.1).whole in
    let is = subst IsHeader f.2 w.header in
    let leaves : HeaderLeaves d.version h d.face = header_leaves h (Some (quiet_disk d.face)) o.calm.face is o.calm.rests d.version in (
      m.last,
      begun_off (header_calls h) d m (begins (Rewrite h) m) h true j code o c.calls (header_from h) l (header_apart d.version h)
          (λ slot b. (leaves.kept m.last.fields.mode slot (held_at d.held slot) b (o.calm.stand.each slot b)).stopped j code)
          (λ x y.
          let p = prepare_bytes y.entry in
          let own : header_sector p ≡ sector_of h = header_sector_is y.entry y.whole.header ∙ ap sector_of y.header in
          held_lasts d.version (header_calls h) d.face slot j code p (held_at d.held slot) y.there (leaves.lasts p own) (o.calm.stand.each slot less) (t.front slot y.entry less y.whole y.there) (t.cut slot y.entry less y.whole y.there))
          refl,
    )
stopped (Save old new) d m j code o c l t = save_cut old new d m j code o c l t
stopped (Mend v) d m j code o c l t =
    let e : m.last ≡ v = sym c.fit in
    (v, mend_cut v d m j code (subst (IsOff d m) e (off d m o)) (subst (MayCome (Mend v) d) e c) l t)
stopped (Checkpoint cluster texts op old) d m j code o c l t = (m.last, grid_cut (save_calls cluster texts op old) d m j code o c.calls (checkpoint_from cluster texts op old) (λ slot l. checkpoint_apart d.version slot cluster texts op old l) l)
stopped (PutBlock name block) d m j code o c l t = (m.last, grid_cut (put_calls name.address block) d m j code o c.calls (put_from name.address block) (λ slot l. put_apart d.version slot name.address block l) l)
stopped (Say output) d m j code o c l t = absurd (omega arith)

-- What the effects of a script write is sealed, so the disk stays so: to its end, and wherever it is cut.
use Rattle.std.proofs.Common.{ℕ, zero, suc, ◌+◌, ◌*◌, ◌-◌, ◌<◌, ◌≡◌, inl, inr, arith, sym, subst, true, false, cond, List, [], ◌∷◌, ◌++◌, length, drop, take}
use Rattle.std.specs.Prelude.{⊤}
use Rattle.std.specs.List.{AllByRecursion}
use Rattle.std.proofs.lemmas.Bool.{cases_lt, le-ltb}
use Rattle.vr_base.specs.Bytes.{piece}
use Rattle.vr_base.proofs.Places.{drop_both}
use Rattle.vr_disk.specs.DiskState as disk
use Rattle.vr_disk.specs.DiskState.{Call, Face, IsFace, Write, Sync}
use Rattle.vr_disk.specs.Regions.{block_place}
use Rattle.vr_disk.specs.Sectors.{writes}
use Rattle.vr_disk.specs.Stops.{IsCall}
use Rattle.vr_disk.proofs.Faces.{face_after_all}
use Rattle.vr_disk.proofs.Stopping.{cuts_both}
use Rattle.vr_header.specs.declared.header.Header.{Header}
use Rattle.vr_super.specs.Copies.{IsGood, SuperValue, copy_bytes}
use Rattle.vr_super.specs.Calls.{mend_calls, save_from}
use Rattle.vr_rings.specs.Slots.{slot_of}
use Rattle.vr_rings.proofs.Spelling.{length-prepare}
use Rattle.vr_ckpt.specs.Grid.{block_calls, put_calls}
use Rattle.vr_ckpt.specs.Saves.{save_calls}
use Rattle.vr_rules.specs.Steps.{Effect, Rewrite, Save, Mend, Checkpoint, PutBlock, Say, after_all}
use Rattle.vr_rules.specs.Steps as effect
use Rattle.vr_rules.specs.Sectors.{calls_by, script_calls}
use Rattle.vr_world.specs.Lying.{Lying, lying}
use Rattle.law_1_machine.specs.Basics.{In}
use Rattle.law_4_disks.specs.Beside.{MayCome, MayGo, begun_before, value_after}
use Rattle.law_4_disks.proofs.Found.{read_whole}
use Rattle.law_4_disks.proofs.Calls.{copy_are, prepare_are, sector_content}
use Rattle.law_5_seals.specs.Seals.{HasSectors, IsSealed, Puts, spelled_from}
use Rattle.law_5_seals.proofs.Contents.{has_after_all, has_cut}
use Rattle.law_5_seals.proofs.Sectors.{again_sealed, header_calls_sealed, mend_sealed, new_sealed, saves_sealed, seals_append}
use Rattle.law_5_seals.proofs.Turning.{turned_sealed}
use Rattle.law_6_one_log.specs.Bridged.{AreNamed, IsSealedBlock}
use Rattle.law_6_one_log.proofs.Readings.{entry_made}

abbrev pub AreSealed : ℕ → List Header → List Call → Type 0
AreSealed home made cs = AllByRecursion (Puts (IsSealed home made)) cs

-- what is asked of an effect: what it writes was made, and is sealed
abbrev pub Seals : ℕ → List Header → Effect → Type 0
Seals home made (effect.Write again e) = In e.header made
Seals home made (Save old new) = AreNamed made new
Seals home made (Checkpoint cluster texts op old) = AreSealed home made (save_calls cluster texts op old)
Seals home made (PutBlock name block) = IsSealedBlock home made block
Seals home made _ = ⊤

-- a value of the superblock
abbrev pub IsRight : List Header → SuperValue → Type 0
IsRight made v = IsGood v × AreNamed made v

-- ---- blocks

calls_left : (cs ds : List Call) → AllByRecursion IsCall (cs ++ ds) → AllByRecursion IsCall cs
calls_left [] ds a = tt
calls_left (c ∷ cs) ds a = (a.0, calls_left cs ds a.1)

seals_called : {home : ℕ} (made : List Header) (n i k : ℕ) (b : List ℕ) → AllByRecursion IsCall (writes i n (drop k b)) → ((j : ℕ) → j < n → IsSealed home made (piece (k + 512 * j) 512 b)) → AreSealed home made (writes i n (drop k b))
unfolding writes piece
seals_called {home} made zero i k b a h = tt
seals_called {home} made (suc n) i k b a h =
    let z : k + 512 * 0 ≡ k = omega arith in
    let first : IsSealed home made (take 512 (drop k b)) = subst (λ (m : ℕ). IsSealed home made (take 512 (drop m b))) z (h 0 (omega arith)) in
    let later = subst (λ (x : List ℕ). AllByRecursion IsCall (writes (i + 1) n x)) (drop_both k 512 b) a.1 in
    let rest = seals_called made n (i + 1) (k + 512) b later (λ j p. (let e : k + 512 * suc j ≡ k + 512 + 512 * j = omega arith in subst (λ (m : ℕ). IsSealed home made (take 512 (drop m b))) e (h (suc j) (omega (arith, p))))) in
    ((a.0.0, first), subst (λ (x : List ℕ). AreSealed home made (writes (i + 1) n x)) (sym (drop_both k 512 b)) rest)

put_sealed : {home : ℕ} (made : List Header) (address : ℕ) (block : List ℕ) → AllByRecursion IsCall (put_calls address block) → IsSealedBlock home made block → AreSealed home made (put_calls address block)
unfolding put_calls block_calls
put_sealed {home} made address block a s = seals_append home made (writes (block_place address) 8 block) (Sync ∷ []) (seals_called made 8 (block_place address) 0 block (calls_left (writes (block_place address) 8 block) (Sync ∷ []) a) s.sectors) (tt, tt)

module _ (home : ℕ) (made : List Header) where
  -- ---- an effect

  pub save_sealed : (old new : SuperValue) (f : Face) → IsRight made old → IsRight made new → AreSealed home made (mend_calls old f ++ save_from 0 4 (copy_bytes new))
  save_sealed old new f a b =
      seals_append home made (mend_calls old f) (save_from 0 4 (copy_bytes new)) (mend_sealed home made old a.0 (copy_are old a.0) a.1 f) (saves_sealed home made new b.0 (copy_are new b.0) b.1 4 0 (omega arith))

  pub effect_sealed : (e : Effect) (d : Lying) (v : SuperValue) → MayCome e d v → Seals home made e → IsRight made v → IsFace d.face → HasSectors (IsSealed home made) d.face → AreSealed home made (calls_by d.version e d.face)
  effect_sealed (effect.Write true e) d v may h r f s = let w = may.fit.0 in again_sealed home made d.version e w (sector_content e.header w.header) (prepare_are e w) (length-prepare e w) h
  effect_sealed (effect.Write false e) d v may h r f s = let w = may.fit.0 in new_sealed home made d.version e w (sector_content e.header w.header) (prepare_are e w) (length-prepare e w) h
  effect_sealed (Rewrite h) d v may x r f s =
      let fit = may.fit in
      let e = fit.0 in
      let m : e.header.op < spelled_from e.header.cluster → e.header.cluster ≡ home → In e.header made = λ low own. entry_made made d.face s d.version (slot_of h) e f (omega arith) fit.1 low own in
      let is = (read_whole d.version d.face (slot_of h) e f (omega arith) fit.1).whole.header in
      let same = fit.2 in
      subst (λ (h : Header). AreSealed home made (calls_by d.version (Rewrite h) d.face)) same (header_calls_sealed home made e.header is (sector_content e.header is) m)
  effect_sealed (Save old new) d v may h r f s = save_sealed old new d.face (subst (IsRight made) (sym may.fit.0) r) (may.fit.2, h)
  effect_sealed (Mend x) d v may h r f s = let good = subst (IsRight made) (sym may.fit) r in mend_sealed home made x good.0 (copy_are x good.0) good.1 d.face
  effect_sealed (Checkpoint c t o p) d v may h r f s = h
  effect_sealed (PutBlock name block) d v may h r f s = put_sealed made name.address block may.calls h
  effect_sealed (Say o) d v may h r f s = tt

  right_after : (e : Effect) (d : Lying) (v : SuperValue) → MayCome e d v → Seals home made e → IsRight made v → IsRight made (value_after e v)
  right_after (effect.Write again e) d v may h r = r
  right_after (Rewrite x) d v may h r = r
  right_after (Save old new) d v may h r = (may.fit.2, h)
  right_after (Mend x) d v may h r = subst (IsRight made) (sym may.fit) r
  right_after (Checkpoint c t o p) d v may h r = r
  right_after (PutBlock name block) d v may h r = r
  right_after (Say o) d v may h r = r

  -- ---- scripts

  pub script_sealed : (es : List Effect) (d : Lying) (v : SuperValue) → MayGo es d v → AllByRecursion (Seals home made) es → IsRight made v → IsFace d.face → HasSectors (IsSealed home made) d.face → HasSectors (IsSealed home made) (after_all lying d es).face
  unfolding after_all
  script_sealed [] d v go h r f s = s
  script_sealed (e ∷ es) d v go h r f s =
      let cs = calls_by d.version e d.face in
      let one = effect_sealed e d v go.0 h.0 r f s in
      script_sealed es (lying.after d e) (value_after e v) go.1 h.1 (right_after e d v go.0 h.0 r) (face_after_all cs d.face f go.0.calls) (has_after_all (IsSealed home made) cs d.face s one)

  pub cut_sealed : (es : List Effect) (d : Lying) (v : SuperValue) (j code : ℕ) → MayGo es d v → AllByRecursion (Seals home made) (begun_before d.version es d.face j) → IsRight made v → IsFace d.face → HasSectors (IsSealed home made) d.face
      → HasSectors (IsSealed home made) (disk.cut j code d.face (script_calls d.version es d.face))
  unfolding script_calls disk.cut
  cut_sealed [] d v j code go h r f s = s
  cut_sealed (e ∷ es) d v j code go h r f s =
      let cs = calls_by d.version e d.face in
      let ds = script_calls d.version es (disk.after_all d.face cs) in
      let one = effect_sealed e d v go.0 h.0 r f s in
      let both = cuts_both cs ds d.face j code in
      elim (cases_lt j (length cs)) [
        | inl first ↦ subst (HasSectors (IsSealed home made)) (sym (both.first first)) (has_cut (IsSealed home made) (turned_sealed home made) cs d.face j code s one)
        | inr later ↦
            let k = j - length cs in
            let begun = subst (λ t. AllByRecursion (Seals home made) (cond t [] (begun_before d.version es (disk.after_all d.face cs) k))) (le-ltb j (length cs) later) h.1 in
            let rest = cut_sealed es (lying.after d e) (value_after e v) k code go.1 begun (right_after e d v go.0 h.0 r) (face_after_all cs d.face f go.0.calls) (has_after_all (IsSealed home made) cs d.face s one) in
            subst (HasSectors (IsSealed home made)) (sym (both.later later)) rest
      ]

-- A stop in the midst of the calls on one slot.
use Rattle.std.proofs.Common.{ℕ, zero, suc, subst, ◌+◌, ◌-◌, ◌%◌, ◌≤◌, ◌<◌, ◌≡◌, ◌≢◌, ◌⊎◌, inl, inr, arith, refl, sym, ap, ◌∙◌, true, false, cond, eqb, List, [], ◌∷◌, ◌++◌, length, get_or, set, Option, Some, length-set, get_or-set_other, get_or-set_same}
use Rattle.std.specs.List.{AllByRecursion}
use Rattle.std.proofs.lemmas.Bool.{cases_eq, cases_lt, eq-eqb, eqb-true}
use Rattle.vr_base.specs.declared.mode.Mode.{Mode}
use Rattle.vr_disk.specs.DiskState.{Call, Write, Sync, Cell, Face, after, after_all, blank, cell, cut, cut_at, damaged, digit_at, noted, settled, settled_cell, waits, written}
use Rattle.vr_disk.specs.Regions.{header_place, prepare_place, prepare_sectors, sectors}
use Rattle.vr_disk.specs.Stops.{IsLeft, Spares}
use Rattle.vr_disk.proofs.Frames.{frame_cut, reads_back, waits_after}
use Rattle.vr_disk.proofs.Outcomes.{cut_leaves}
use Rattle.vr_disk.proofs.Places.{behind_header, inside}
use Rattle.vr_disk.proofs.Stopping.{cuts_both}
use Rattle.vr_disk.proofs.Together.{Within, length_after_all}
use Rattle.vr_rings.specs.Held.{MayRead, Stands, header_sector, held_after, held_after_all, held_begun, held_cut, held_cut_at, is_header_sector, kept, looked}
use Rattle.vr_rings.specs.Slots.{header_reading, prepare_reading}
use Rattle.vr_rings.proofs.Standing.{Apart, prepare_alike, Heads, HoldsWhole, Mid, apart_held, both_is, call_stands, calls_stand, header_other, kept_is, keeps_header, look_cases, look_mid, look_seen, look_stands, look_whole, may_read, mid_stands, part_mid, prepare_other, same_stands, write_whole}

-- ---- sectors that stay

-- the sectors of a slot
abbrev pub InSlot : ℕ → ℕ → ℕ → Type 0
InSlot ver slot k = (k ≡ header_place slot) ⊎ ((prepare_place ver slot ≤ k) × (k < prepare_place ver slot + prepare_sectors ver))

abbrev Still : ℕ → Face → Face → ℕ → Type 0
Still ver f g slot = (k : ℕ) → InSlot ver slot k → cell g k ≡ cell f k

pub still_stands : {mode : Mode} (ver : ℕ) (f g : Face) (slot : ℕ) (held : Option (List ℕ)) → Still ver f g slot → Stands ver mode f slot held → Stands ver mode g slot held
still_stands ver f g slot held h s =
    same_stands ver f g slot held (ap (λ (c : Cell). c.reads) (h (header_place slot) (inl refl))) (prepare_alike ver slot f g (λ k a b. ap (λ (c : Cell). c.reads) (h k (inr (a, b))))) s

-- ---- the first write since a sync, cut and settled as it was

one_waits : (f : Face) (i : ℕ) → f.waiting ≡ [] → noted f.waiting i (cell f i) ≡ record { index = i; was = cell f i } ∷ []
one_waits f i e = rw e refl

first_digit : (f : Face) (i code : ℕ) (b : List ℕ) → f.waiting ≡ [] → digit_at code i (after f (Write i b)).waiting ≡ code % 3
unfolding digit_at
first_digit f i code b e = ap (digit_at code i) (one_waits f i e) ∙ (rw (eq-eqb i i refl) refl)

undone : (f : Face) (i code : ℕ) (b : List ℕ) (k : ℕ) → f.waiting ≡ [] → i < length f.cells → code % 3 ≡ 0 → cell (cut_at code f (Write i b)) k ≡ cell f k
undone f i code b k e l z =
    let cells = set f.cells i (written (cell f i) b) in
    let back : (cut_at code f (Write i b)).cells ≡ set cells i (cell f i) = ap (λ ws. settled code ws cells) (one_waits f i e) ∙ ap (λ d. set cells i (settled_cell d (cell f i) (get_or cells i blank))) z in
    let size = length-set f.cells i (written (cell f i) b) in
    ap (λ (cs : List Cell). get_or cs k blank) back
    ∙ elim (cases_eq k i) [
      | inl s ↦ ap (λ k. get_or (set cells i (cell f i)) k blank) s ∙ (get_or-set_same cells i (cell f i) blank (omega arith) ∙ ap (λ k. cell f k) (sym s))
      | inr d ↦ get_or-set_other cells i k (cell f i) blank d ∙ get_or-set_other f.cells i k (written (cell f i) b) blank d
    ]

-- nothing waits: a stop at a sync settles nothing
settled_still : (f : Face) (code k : ℕ) → f.waiting ≡ [] → cell (cut_at code f Sync) k ≡ cell f k
settled_still f code k e = ap (λ ws. get_or (settled code ws f.cells) k blank) e

-- a call that is cut leaves a sector that it spares and that doesn't wait
pub cut_spares : (f : Face) (c : Call) (code k : ℕ) → Spares k c → waits k f.waiting ≡ false → cell (cut_at code f c) k ≡ cell f k
unfolding cut
cut_spares f c code k s w = frame_cut (c ∷ []) f k 0 code (s, tt) w

-- ---- the prepare's sectors are written

pub data Ready (ver : ℕ) (mode : Mode) (f : Face) (slot : ℕ) (held : Option (List ℕ)) : Type 0 where
  rest : f.waiting ≡ [] → Stands ver mode f slot held → Ready ver mode f slot held
  mid : Mid ver f slot held → waits (header_place slot) f.waiting ≡ false → Ready ver mode f slot held

header_rests : {mode : Mode} (ver : ℕ) (f : Face) (slot : ℕ) (held : Option (List ℕ)) → Ready ver mode f slot held → waits (header_place slot) f.waiting ≡ false
header_rests ver f slot held (rest e s) = rw e refl
header_rests ver f slot held (mid m w) = w

ready_stands : {mode : Mode} (ver : ℕ) (f : Face) (slot : ℕ) (held : Option (List ℕ)) → Ready ver mode f slot held → Stands ver mode f slot held
ready_stands ver f slot held (rest e s) = s
ready_stands ver f slot held (mid m w) = mid_stands ver f slot held m

-- the header sector stays as it is, and is that of what the slot holds
heads_stay : {mode : Mode} (ver : ℕ) (f g : Face) (slot : ℕ) (held : Option (List ℕ)) → header_reading g slot ≡ header_reading f slot → Heads f slot held → HoldsWhole held → Stands ver mode g slot (looked ver g slot held)
heads_stay ver f g slot held e h w = mid_stands ver g slot (looked ver g slot held) (look_mid ver g slot held (λ p x. e ∙ h p x) w)

part_cut_now : {mode : Mode} (ver : ℕ) (f : Face) (slot i code : ℕ) (b : List ℕ) (held : Option (List ℕ)) → length f.cells ≡ sectors → slot < 64 → prepare_place ver slot ≤ i → i < prepare_place ver slot + prepare_sectors ver → Ready ver mode f slot held
    → Stands ver mode (cut_at code f (Write i b)) slot (held_cut_at ver code f (Write i b) slot held)
unfolding held_cut_at
part_cut_now {mode} ver f slot i code b held n l low high r =
    let g = cut_at code f (Write i b) in
    let waiting = (after f (Write i b)).waiting in
    let behind = behind_header ver slot in
    let within = inside ver slot l in
    let d : i ≢ header_place slot = λ e. omega arith in
    let same : header_reading g slot ≡ header_reading f slot = ap (λ (c : Cell). c.reads) (cut_spares f (Write i b) code (header_place slot) d (header_rests ver f slot held r)) in
    let by_ready : Ready ver mode f slot held → digit_at code i waiting ≡ 0 → Stands ver mode g slot (looked ver g slot held) = elim [
      | rest e s ↦ λ z. look_stands ver g slot held (still_stands ver f g slot held (λ k x. undone f i code b k e (omega arith) (sym (first_digit f i code b e) ∙ z)) s)
      | mid m w ↦ λ z. heads_stay ver f g slot held same m.heads m.whole
    ] in
    let now = part_mid ver f slot i b held low high (ready_stands ver f slot held r).whole in
    elim (eqb (digit_at code i waiting) 0) as (λ t. eqb (digit_at code i waiting) 0 ≡ t → Stands ver mode g slot (looked ver g slot (cond t held (held_after ver f (Write i b) slot held)))) [
      | true ↦ λ t. by_ready r (eqb-true (digit_at code i waiting) 0 t)
      | false ↦ λ t. heads_stay ver f g slot (held_after ver f (Write i b) slot held) same (λ p x. sym (header_other f slot i b d) ∙ now.heads p x) now.whole
    ] refl

sync_cut_now : {mode : Mode} (ver : ℕ) (f : Face) (slot code : ℕ) (held : Option (List ℕ)) → Ready ver mode f slot held → Stands ver mode (cut_at code f Sync) slot (held_cut_at ver code f Sync slot held)
unfolding held_cut_at
sync_cut_now ver f slot code held (rest e s) = look_stands ver (cut_at code f Sync) slot held (still_stands ver f (cut_at code f Sync) slot held (λ k x. settled_still f code k e) s)
sync_cut_now ver f slot code held (mid m w) = heads_stay ver f (cut_at code f Sync) slot held (ap (λ (c : Cell). c.reads) (cut_spares f Sync code (header_place slot) tt w)) m.heads m.whole

abbrev pub Parts : ℕ → ℕ → List Call → Type 0
Parts ver slot cs = AllByRecursion (Within (prepare_place ver slot) (prepare_place ver slot + prepare_sectors ver)) cs

pub part_cut : {mode : Mode} (ver : ℕ) (cs : List Call) (f : Face) (slot : ℕ) (held : Option (List ℕ)) (j code : ℕ) → slot < 64 → length f.cells ≡ sectors → Parts ver slot cs → Ready ver mode f slot held → Stands ver mode (cut j code f cs) slot (held_cut ver j code f cs slot held)
unfolding cut held_cut Within
part_cut ver [] f slot held j code l n a r = ready_stands ver f slot held r
part_cut ver (Write i b ∷ cs) f slot held zero code l n a r = part_cut_now ver f slot i code b held n l a.0.0 a.0.1 r
part_cut ver (Sync ∷ cs) f slot held zero code l n a r = sync_cut_now ver f slot code held r
part_cut ver (Write i b ∷ cs) f slot held (suc j) code l n a r =
    let p = a.0 in
    let behind = behind_header ver slot in
    let d : i ≢ header_place slot = λ e. omega arith in
    part_cut ver cs (after f (Write i b)) slot (held_after ver f (Write i b) slot held) j code l (length_after_all (Write i b ∷ []) f ∙ n) a.1
    (mid (part_mid ver f slot i b held p.0 p.1 (ready_stands ver f slot held r).whole) (waits_after f (Write i b) (header_place slot) d (header_rests ver f slot held r)))
part_cut ver (Sync ∷ cs) f slot held (suc j) code l n a r =
    part_cut ver cs (after f Sync) slot (held_after ver f Sync slot held) j code l n a.1 (rest refl (call_stands ver f Sync slot held l n (ready_stands ver f slot held r)))

-- ---- the header sector is written

-- of what the slot holds then: its header sector was written, and it was held or its prepare reads so
header_held : (ver : ℕ) (f : Face) (slot : ℕ) (b : List ℕ) (held : Option (List ℕ)) (p : List ℕ) → header_place slot < length f.cells → held_after ver f (Write (header_place slot) b) slot held ≡ Some p
    → (b ≡ header_sector p) × ((held ≡ Some p) ⊎ (prepare_reading ver f slot ≡ Some p))
unfolding held_after
header_held ver f slot b held p l e =
    let i = header_place slot in
    let behind = behind_header ver slot in
    let g = after f (Write i b) in
    elim (look_cases ver g slot (kept ver f slot i b held) p e) [
      | inl x ↦
          let y = both_is (header_reading g slot) (prepare_reading ver g slot) p x in
          let same : Some b ≡ Some (header_sector p) = sym (reads_back f i b l) ∙ y.0 in
          (cc, inr (sym (prepare_other ver f slot i b (inl (omega arith))) ∙ y.1))
      | inr x ↦ let y = kept_is ver f slot i b held p x in (keeps_header ver f slot b p y.1, inl y.0)
    ]

header_left : {mode : Mode} (ver : ℕ) (f g : Face) (slot : ℕ) (b : List ℕ) (held : Option (List ℕ)) → header_place slot < length f.cells → is_header_sector (damaged b) ≡ false
    → prepare_reading ver g slot ≡ prepare_reading ver f slot → IsLeft (header_reading f slot) b (header_reading g slot) → Stands ver mode f slot held
    → Stands ver mode g slot (looked ver g slot (held_after ver f (Write (header_place slot) b) slot held))
header_left {mode} ver f g slot b held l bad pr left s =
    let now = held_after ver f (Write (header_place slot) b) slot held in
    record {
      seen = λ p e. look_seen ver g slot now p e;
      holds = record {
        prepare = λ p header e r v d. elim (look_cases ver g slot now p e) [
          | inl x ↦
              let same : Some header ≡ Some (header_sector p) = sym r ∙ (both_is (header_reading g slot) (prepare_reading ver g slot) p x).0 in
              absurd (d cc)
          | inr x ↦
              let y = header_held ver f slot b held p l x in
              elim left [
                | inl old ↦ subst (MayRead mode p) (sym pr) (elim y.1 [ inl h ↦ s.holds.prepare p header h (sym old ∙ r) v d | inr h ↦ may_read mode p (prepare_reading ver f slot) h ])
                | inr (inl new) ↦ let same : Some header ≡ Some b = sym r ∙ new in let is : header ≡ b = cc in absurd (d (is ∙ y.0))
                | inr (inr turned) ↦ let same : Some header ≡ Some (damaged b) = sym r ∙ turned in let is : header ≡ damaged b = cc in let no : true ≡ false = sym v ∙ (ap is_header_sector is ∙ bad) in cc
              ]
        ];
      };
      whole = look_whole ver g slot now (write_whole ver f slot (header_place slot) b held s.whole);
    }

pub header_cut : {mode : Mode} (ver : ℕ) (f : Face) (slot : ℕ) (b : List ℕ) (held : Option (List ℕ)) (j code : ℕ) → slot < 64 → length f.cells ≡ sectors → f.waiting ≡ [] → is_header_sector (damaged b) ≡ false → Stands ver mode f slot held
    → Stands ver mode (cut j code f (Write (header_place slot) b ∷ Sync ∷ [])) slot (held_cut ver j code f (Write (header_place slot) b ∷ Sync ∷ []) slot held)
unfolding cut held_cut held_cut_at held_after held_after_all
header_cut {mode} ver f slot b held j code l n e bad s =
    let i = header_place slot in
    let cs : List Call = Write i b ∷ Sync ∷ [] in
    let behind = behind_header ver slot in
    let there : header_place slot < length f.cells = omega arith in
    let left : (j : ℕ) → IsLeft (header_reading f slot) b (header_reading (cut j code f cs) slot) = λ j. cut_leaves cs f i b j code there ((λ x. refl), (tt, tt)) (rw e refl) in
    let pr : (j : ℕ) → prepare_reading ver (cut j code f cs) slot ≡ prepare_reading ver f slot =
    λ j. prepare_alike ver slot f (cut j code f cs) (λ k a c. ap (λ (c : Cell). c.reads) (frame_cut cs f k j code ((λ x. omega arith), (tt, tt)) (rw e refl))) in
    let g = cut_at code f (Write i b) in
    let waiting = (after f (Write i b)).waiting in
    let first : Stands ver mode g slot (looked ver g slot (held_begun ver code f (Write i b) slot held)) =
    elim (eqb (digit_at code i waiting) 0) as (λ t. eqb (digit_at code i waiting) 0 ≡ t → Stands ver mode g slot (looked ver g slot (cond t held (held_after ver f (Write i b) slot held)))) [
      | true ↦ λ t. look_stands ver g slot held (still_stands ver f g slot held (λ k x. undone f i code b k e there (sym (first_digit f i code b e) ∙ eqb-true (digit_at code i waiting) 0 t)) s)
      | false ↦ λ t. header_left ver f g slot b held there bad (pr 0) (left 0) s
    ] refl in
    elim j as (λ j. Stands ver mode (cut j code f cs) slot (held_cut ver j code f cs slot held)) [
      | zero ↦ first
      | suc zero ↦ header_left ver f (cut 1 code f cs) slot b held there bad (pr 1) (left 1) s
      | suc (suc k) ↦ calls_stand ver cs f slot held l n s
    ]

-- ---- another slot's sectors are written

abbrev pub AllApart : ℕ → ℕ → Call → Type 0
AllApart ver slot (Write i b) = Apart ver slot i
AllApart ver slot Sync = Unit {0}

abbrev pub Rests : ℕ → ℕ → Face → Type 0
Rests ver slot f = (k : ℕ) → InSlot ver slot k → waits k f.waiting ≡ false

pub apart_spares : (ver : ℕ) (slot k : ℕ) (c : Call) → AllApart ver slot c → InSlot ver slot k → Spares k c
apart_spares ver slot k Sync a x = tt
apart_spares ver slot k (Write i b) a (inl e) = λ s. a.0 (s ∙ e)
apart_spares ver slot k (Write i b) a (inr m) = λ s. elim a.1 [ inl l ↦ omega arith | inr l ↦ omega arith ]

apart_cut_now : {mode : Mode} (ver : ℕ) (f : Face) (c : Call) (slot code : ℕ) (held : Option (List ℕ)) → AllApart ver slot c → Rests ver slot f → Stands ver mode f slot held → Stands ver mode (cut_at code f c) slot (held_cut_at ver code f c slot held)
unfolding held_cut_at
apart_cut_now ver f Sync slot code held a w s = look_stands ver (cut_at code f Sync) slot held (still_stands ver f (cut_at code f Sync) slot held (λ k x. cut_spares f Sync code k tt (w k x)) s)
apart_cut_now {mode} ver f (Write i b) slot code held a w s =
    let g = cut_at code f (Write i b) in
    let waiting = (after f (Write i b)).waiting in
    let same : Stands ver mode g slot (looked ver g slot held) = look_stands ver g slot held (still_stands ver f g slot held (λ k x. cut_spares f (Write i b) code k (apart_spares ver slot k (Write i b) a x) (w k x)) s) in
    elim (eqb (digit_at code i waiting) 0) as (λ t. Stands ver mode g slot (looked ver g slot (cond t held (held_after ver f (Write i b) slot held)))) [ true ↦ same | false ↦ rw (apart_held ver f slot i b held a s) same ]

pub apart_cut : {mode : Mode} (ver : ℕ) (cs : List Call) (f : Face) (slot : ℕ) (held : Option (List ℕ)) (j code : ℕ) → slot < 64 → length f.cells ≡ sectors → AllByRecursion (AllApart ver slot) cs → Rests ver slot f → Stands ver mode f slot held → Stands ver mode (cut j code f cs) slot (held_cut ver j code f cs slot held)
unfolding cut held_cut
apart_cut ver [] f slot held j code l n a w s = s
apart_cut ver (c ∷ cs) f slot held zero code l n a w s = apart_cut_now ver f c slot code held a.0 w s
apart_cut ver (c ∷ cs) f slot held (suc j) code l n a w s =
    apart_cut ver cs (after f c) slot (held_after ver f c slot held) j code l (length_after_all (c ∷ []) f ∙ n) a.1 (λ k x. waits_after f c k (apart_spares ver slot k c a.0 x) (w k x)) (call_stands ver f c slot held l n s)

-- ---- calls and then others

abbrev pub CutKeeps : ℕ → ℕ → List Call → Type 0
CutKeeps ver slot cs =
    (mode : Mode) (f : Face) (held : Option (List ℕ)) (j code : ℕ) → length f.cells ≡ sectors → f.waiting ≡ [] → Stands ver mode f slot held → Stands ver mode (cut j code f cs) slot (held_cut ver j code f cs slot held)

pub held_both : (ver : ℕ) (cs ds : List Call) (f : Face) (slot : ℕ) (held : Option (List ℕ)) (j code : ℕ)
    → (j < length cs → held_cut ver j code f (cs ++ ds) slot held ≡ held_cut ver j code f cs slot held) × (length cs ≤ j → held_cut ver j code f (cs ++ ds) slot held ≡ held_cut ver (j - length cs) code (after_all f cs) ds slot (held_after_all ver f cs slot held))
unfolding held_cut held_after_all
held_both ver [] ds f slot held j code = (λ l. absurd (omega arith), λ l. let e : j - 0 ≡ j = omega arith in rw e refl)
held_both ver (c ∷ cs) ds f slot held zero code = (λ l. refl, λ l. absurd (omega arith))
held_both ver (c ∷ cs) ds f slot held (suc j) code =
    let rest = held_both ver cs ds (after f c) slot (held_after ver f c slot held) j code in
    let e : suc j - length (c ∷ cs) ≡ j - length cs = omega arith in
    (λ l. rest.0 (omega arith), λ l. rw e (rest.1 (omega arith)))

pub keeps_both : (ver : ℕ) (slot : ℕ) (cs ds : List Call) → slot < 64 → ((f : Face) → (after_all f cs).waiting ≡ []) → CutKeeps ver slot cs → CutKeeps ver slot ds → CutKeeps ver slot (cs ++ ds)
keeps_both ver slot cs ds b rests x y mode f held j code n e s =
    let faces = cuts_both cs ds f j code in
    let helds = held_both ver cs ds f slot held j code in
    elim (cases_lt j (length cs)) [
      | inl l ↦ rw (faces.first l, helds.0 l) (x mode f held j code n e s)
      | inr l ↦ rw (faces.later l, helds.1 l) (y mode (after_all f cs) (held_after_all ver f cs slot held) (j - length cs) code (length_after_all cs f ∙ n) (rests f) (calls_stand ver cs f slot held b n s))
    ]

-- Each effect leaves two disks that read alike.
use Rattle.std.proofs.Common.{ℕ, zero, suc, ◌+◌, ◌*◌, ◌≤◌, ◌<◌, ◌≡◌, ◌⊎◌, ◌∙◌, inl, inr, arith, refl, sym, ap, subst, Bool, true, false, cond, List, [], ◌∷◌, ◌++◌, length, drop, Option, Some, None}
use Rattle.std.specs.List.{AllByRecursion}
use Rattle.std.specs.Prelude.{is_some}
use Rattle.std.specs.Option.{option_map_or}
use Rattle.std.proofs.lemmas.Bool.{cases_eq, cases_lt}
use Rattle.std.proofs.lemmas.List.{length-append, take_all}
use Rattle.vr_base.specs.Bytes.{piece}
use Rattle.vr_disk.specs.Regions.{block_place, header_place, prepare_place, prepare_sectors, sectors}
use Rattle.vr_disk.specs.DiskState.{Call, Write, Sync, Cell, Face, after, after_all, reads}
use Rattle.vr_disk.specs.Sectors.{behind as put_behind, has, together, writes}
use Rattle.vr_disk.proofs.Frames.{frame_all}
use Rattle.vr_disk.proofs.Places.{behind_headers}
use Rattle.vr_disk.proofs.Together.{Within, after_all_append, has_is, is_has, length_after_all, together_same, together_written, within_append, within_spares, writes_within}
use Rattle.vr_header.specs.declared.header.Header.{Header}
use Rattle.vr_header.specs.Made.{Whole}
use Rattle.vr_super.specs.Copies.{SuperValue, copy_bytes, value_of}
use Rattle.vr_super.specs.Opens.{copy_reading}
use Rattle.vr_super.specs.Calls.{copy_calls, mend_calls, mend_copy, mend_from, mend_unless, save_from, write_calls}
use Rattle.vr_super.proofs.Readings.{mend_within}
use Rattle.vr_rings.specs.Calls.{again_calls, header_calls, new_calls, prepare_calls}
use Rattle.vr_rings.specs.Slots.{prepare_bytes, sector_of, slot_of}
use Rattle.vr_ckpt.specs.Grid.{block_calls, put_calls}
use Rattle.vr_ckpt.specs.declared.block.Block.{Block as Written}
use Rattle.vr_ckpt.specs.Saves.{blocks_calls, save_calls, written as blocks_written}
use Rattle.vr_rules.proofs.FitDisks.{grid_behind}
use Rattle.vr_rules.specs.Sectors.{calls_by}
use Rattle.vr_rules.specs.Steps.{Effect, Write as Stores, Rewrite, Save, Mend, Checkpoint, PutBlock, Say}
use Rattle.law_damage.specs.Alike.{Region, Copy, Header as HeaderSector, Prepare, Block, IsRegion, place, verifies}
use Rattle.law_damage.proofs.Fits.{blocks_fit, copies_fit, headers_fit, prepares_fit}
use Rattle.law_damage.proofs.Twins.{AlikeAt, Fills, Hits, Short, Slim, Twins, alike_still, fill, hit, short_after, slim_append, still, take_short, verifies_still, writes_hit, writes_slim}

-- ---- calls that are the same on both

writes_fill : (low n : ℕ) (b : List ℕ) → Fills low n (writes low n b)
writes_fill low n b = record { within = writes_within low (low + n) n low b (omega arith) (omega arith); all = λ k x y. writes_hit n low k b x y; slim = writes_slim n low b }

module _ (v : ℕ) where
  pub record Kept (cs : List Call) : Type 0 where
    pub each : (f g : Face) → Twins v f g → Twins v (after_all f cs) (after_all g cs)

  kept_both : (cs ds : List Call) → Kept cs → Kept ds → Kept (cs ++ ds)
  kept_both cs ds x y = record {
    each = λ f g t.
        subst (λ (z : Face). Twins v z (after_all g (cs ++ ds))) (sym (after_all_append cs ds f))
        (subst (λ (z : Face). Twins v (after_all (after_all f cs) ds) z) (sym (after_all_append cs ds g)) (y.each (after_all f cs) (after_all g cs) (x.each f g t)));
  }

  synced : (f g : Face) → Twins v f g → Twins v (after f Sync) (after g Sync)
  synced f g t = record {
    alike = record { each = λ r i. alike_still v f g (after f Sync) (after g Sync) r (t.alike.each r i) (λ k x. refl) (λ k x. refl) };
    one = t.one;
    two = t.two;
    short = t.short;
    brief = t.brief;
  }

  kept_sync : Kept (Sync ∷ [])
  kept_sync = record { each = synced }

  kept_none : Kept []
  kept_none = record { each = λ f g t. t }

  kept_header : (h : Header) → Kept (header_calls h)
  unfolding header_calls Within Hits
  kept_header h =
      let at = header_place (slot_of h) in
      let fills : Fills at 1 (Write at (sector_of h) ∷ Sync ∷ []) = record {
        within = ((omega arith, omega arith), (tt, tt));
        all = λ k x y. inl (omega arith);
        slim = ((λ l. absurd (omega arith)), (tt, tt));
      } in
      record { each = λ f g t. fill v at 1 (Write at (sector_of h) ∷ Sync ∷ []) f g fills (λ r i. headers_fit v (slot_of h) r (omega arith) i) t }

  kept_prepare : (e : Whole) → Kept (prepare_calls v e)
  unfolding prepare_calls
  kept_prepare e =
      let at = prepare_place v (slot_of e.header) in
      let n = prepare_sectors v in
      kept_both (writes at n (prepare_bytes e)) (Sync ∷ []) (record { each = λ f g t. fill v at n (writes at n (prepare_bytes e)) f g (writes_fill at n (prepare_bytes e)) (λ r i. prepares_fit v (slot_of e.header) r (omega arith) i) t }) kept_sync

  kept_copy : (c : ℕ) (b : List ℕ) → c < 4 → Kept (copy_calls c b)
  unfolding copy_calls
  kept_copy c b l = kept_both (writes (20 * c) 20 b) (Sync ∷ []) (record { each = λ f g t. fill v (20 * c) 20 (writes (20 * c) 20 b) f g (writes_fill (20 * c) 20 b) (λ r i. copies_fit v c r l i) t }) kept_sync

  kept_saves : (n c : ℕ) (b : List ℕ) → c + n ≤ 4 → Kept (save_from c n b)
  unfolding save_from
  kept_saves zero c b l = kept_none
  kept_saves (suc n) c b l = kept_both (copy_calls c b) (save_from (c + 1) n b) (kept_copy c b (omega arith)) (kept_saves n (c + 1) b (omega arith))

  kept_block : (address : ℕ) (b : List ℕ) → Kept (block_calls address b)
  unfolding block_calls
  kept_block address b =
      let at = block_place address in
      record { each = λ f g t. fill v at 8 (writes at 8 b) f g (writes_fill at 8 b) (λ r i. blocks_fit v address r i) t }

  kept_put : (address : ℕ) (b : List ℕ) → Kept (put_calls address b)
  unfolding put_calls
  kept_put address b = kept_both (block_calls address b) (Sync ∷ []) (kept_block address b) kept_sync

  kept_blocks : (bs : List Written) → Kept (blocks_calls bs)
  unfolding blocks_calls
  kept_blocks [] = kept_none
  kept_blocks (b ∷ bs) = kept_both (block_calls b.name.address b.bytes) (blocks_calls bs) (kept_block b.name.address b.bytes) (kept_blocks bs)

-- ---- a mending, which depends on what the copies read as

within_more : (low high l h : ℕ) (cs : List Call) → l ≤ low → high ≤ h → AllByRecursion (Within low high) cs → AllByRecursion (Within l h) cs
unfolding Within
within_more low high l h [] x y w = tt
within_more low high l h (Sync ∷ cs) x y w = (tt, within_more low high l h cs x y w.1)
within_more low high l h (Write k b ∷ cs) x y w = let p = w.0 in ((omega (arith, p), omega (arith, p)), within_more low high l h cs x y w.1)

unless_within : (m : ℕ) (b : List ℕ) (f : Face) → AllByRecursion (Within (20 * m) (20 * m + 20)) (mend_unless m b f)
unless_within m b f = elim (has b (copy_reading f m)) as (λ t. AllByRecursion (Within (20 * m) (20 * m + 20)) (cond t [] (mend_copy m b))) [ true ↦ tt | false ↦ mend_within m b ]

from_within : (n m : ℕ) (b : List ℕ) (f : Face) → AllByRecursion (Within (20 * m) (20 * (m + n))) (mend_from m n b f)
unfolding mend_from
from_within zero m b f = tt
from_within (suc n) m b f =
    within_append (20 * m) (20 * (m + suc n)) (mend_unless m b f) (mend_from (m + 1) n b f) (within_more (20 * m) (20 * m + 20) (20 * m) (20 * (m + suc n)) (mend_unless m b f) (omega arith) (omega arith) (unless_within m b f))
    (within_more (20 * (m + 1)) (20 * (m + 1 + n)) (20 * m) (20 * (m + suc n)) (mend_from (m + 1) n b f) (omega arith) (omega arith) (from_within n (m + 1) b f))

spare_all : (cs : List Call) (x : Face) (low high k : ℕ) → AllByRecursion (Within low high) cs → (k < low) ⊎ (high ≤ k) → reads (after_all x cs) k ≡ reads x k
spare_all cs x low high k w o = ap (λ (c : Cell). c.reads) (frame_all cs x k (within_spares low high cs k w o))

-- a copy that reads as the value isn't written
copy_spared : (n m c k : ℕ) (b : List ℕ) (f x : Face) → has b (copy_reading f c) ≡ true → 20 * c ≤ k → k < 20 * c + 20 → reads (after_all x (mend_from m n b f)) k ≡ reads x k
unfolding mend_from
copy_spared zero m c k b f x h l u = refl
copy_spared (suc n) m c k b f x h l u =
    let first : reads (after_all x (mend_unless m b f)) k ≡ reads x k =
    elim (cases_eq m c) [
      | inl e ↦ subst (λ j. reads (after_all x (cond (has b (copy_reading f j)) [] (mend_copy j b))) k ≡ reads x k) (sym e) (rw h refl)
      | inr d ↦ spare_all (mend_unless m b f) x (20 * m) (20 * m + 20) k (unless_within m b f) (elim (cases_lt c m) [ inl y ↦ inl (omega arith) | inr y ↦ inr (omega arith) ])
    ] in
    ap (λ (z : Face). reads z k) (after_all_append (mend_unless m b f) (mend_from (m + 1) n b f) x) ∙ (copy_spared n (m + 1) c k b f (after_all x (mend_unless m b f)) h l u ∙ first)

-- a mended copy reads as one that is written
mended_reads : (c k : ℕ) (b : List ℕ) (x : Face) → length x.cells ≡ sectors → k < sectors → reads (after_all x (mend_copy c b)) k ≡ reads (after_all x (writes (20 * c) 20 b)) k
unfolding mend_copy writes
mended_reads c k b x n l =
    let y = after x (Write (20 * c) (piece 0 512 b)) in
    let ws = writes (20 * c + 1) 19 (drop 512 b) in
    let size : length y.cells ≡ sectors = length_after_all (Write (20 * c) (piece 0 512 b) ∷ []) x ∙ n in
    ap (λ (z : Face). reads z k) (after_all_append ws (Sync ∷ []) (after y Sync)) ∙ still ws y (after y Sync) k size size l refl

-- one that doesn't reads as it afterwards, whatever it read as
copy_mended : (n m c k : ℕ) (b : List ℕ) (f x : Face) → length x.cells ≡ sectors → has b (copy_reading f c) ≡ false → m ≤ c → c < m + n → c < 4 → 20 * c ≤ k → k < 20 * c + 20
    → (z : Face) → length z.cells ≡ sectors → reads (after_all x (mend_from m n b f)) k ≡ reads (after_all z (writes (20 * c) 20 b)) k
unfolding mend_from
copy_mended zero m c k b f x s h l u w p q z e = absurd (omega arith)
copy_mended (suc n) m c k b f x s h l u w p q z e =
    let y = after_all x (mend_unless m b f) in
    let size : length y.cells ≡ sectors = length_after_all (mend_unless m b f) x ∙ s in
    ap (λ (t : Face). reads t k) (after_all_append (mend_unless m b f) (mend_from (m + 1) n b f) x)
    ∙ elim (cases_eq m c) [
      | inl same ↦
          let rest = spare_all (mend_from (m + 1) n b f) y (20 * (m + 1)) (20 * (m + 1 + n)) k (from_within n (m + 1) b f) (inl (omega arith)) in
          let now : reads (after_all x (mend_unless c b f)) k ≡ reads (after_all z (writes (20 * c) 20 b)) k =
          rw h (mended_reads c k b x s (omega arith) ∙ hit (writes (20 * c) 20 b) z x k e s (omega arith) (writes_hit 20 (20 * c) k b p q)) in
          rest ∙ subst (λ j. reads (after_all x (mend_unless j b f)) k ≡ reads (after_all z (writes (20 * c) 20 b)) k) (sym same) now
      | inr d ↦ copy_mended n (m + 1) c k b f y size h (omega arith) (omega arith) w p q z e
    ]

-- a reading of sectors that are no longer than they should be
short_both : (a r : Option (List ℕ)) (b : List ℕ) (n : ℕ) → ((x : List ℕ) → a ≡ Some x → length x ≤ 512) → ((x : List ℕ) → r ≡ Some x → length x ≤ n) → put_behind a r ≡ Some b → length b ≤ 512 + n
short_both None r b n f g e = absurd cc
short_both (Some x) None b n f g e = absurd cc
short_both (Some x) (Some y) b n f g e =
    let same : x ++ y ≡ b = cc in
    let one = f x refl in
    let two = g y refl in
    let all = length-append x y in
    subst (λ (z : List ℕ). length z ≤ 512 + n) same (omega (arith, one, two, all))

together_short : (n i : ℕ) (f : Face) → Short f → i + n ≤ 80 → (b : List ℕ) → together i n f ≡ Some b → length b ≤ 512 * n
unfolding together
together_short zero i f s l b e = let same : [] ≡ b = cc in subst (λ (z : List ℕ). length z ≤ 512 * zero) same (omega arith)
together_short (suc n) i f s l b e =
    let x = short_both (reads f i) (together (i + 1) n f) b (512 * n) (λ y r. s i (omega arith) y r) (together_short n (i + 1) f s (omega arith)) e in
    omega (arith, x)

value_bad : (f : Face) (c : ℕ) (b : List ℕ) (v : ℕ) → together (20 * c) 20 f ≡ Some b → verifies v f (Copy c) ≡ false → is_some (value_of b) ≡ false
value_bad f c b v e n = sym (ap (λ (o : Option (List ℕ)). option_map_or (λ x. is_some (value_of x)) o false) e) ∙ n

-- the copy of the one reads as the value, the other's doesn't: neither verifies, and then both read as the value, which doesn't verify either
mended_verifies : (v c : ℕ) (b : List ℕ) (f x : Face) → length x.cells ≡ sectors → has b (copy_reading f c) ≡ false → c < 4 → length b ≤ 10240 → is_some (value_of b) ≡ false → verifies v (after_all x (mend_from 0 4 b f)) (Copy c) ≡ false
mended_verifies v c b f x n h l s bad =
    let same = together_same 20 (20 * c) (after_all x (writes (20 * c) 20 b)) (after_all x (mend_from 0 4 b f)) (λ k p q. copy_mended 4 0 c k b f x n h (omega arith) (omega arith) l p q x n) in
    let is : together (20 * c) 20 (after_all x (mend_from 0 4 b f)) ≡ Some b = same ∙ (together_written 20 (20 * c) b x (omega arith) ∙ ap Some (take_all (512 * 20) b (omega (arith, s)))) in
    ap (λ (o : Option (List ℕ)). option_map_or (λ y. is_some (value_of y)) o false) is ∙ bad

copy_alike : (v c : ℕ) (b : List ℕ) (f g : Face) → Twins v f g → c < 4 → (p q : Bool) → has b (copy_reading f c) ≡ p → has b (copy_reading g c) ≡ q
    → AlikeAt v (after_all f (mend_from 0 4 b f)) (after_all g (mend_from 0 4 b g)) (Copy c)
unfolding copy_reading
copy_alike v c b f g t l true true x y =
    alike_still v f g (after_all f (mend_from 0 4 b f)) (after_all g (mend_from 0 4 b g)) (Copy c) (t.alike.each (Copy c) l) (λ k i. copy_spared 4 0 c k b f f x i.0 i.1) (λ k i. copy_spared 4 0 c k b g g y i.0 i.1)
copy_alike v c b f g t l false false x y =
    inl (λ k i.
    copy_mended 4 0 c k b g g t.two y (omega arith) (omega arith) l i.0 i.1 g t.two
    ∙ sym (copy_mended 4 0 c k b f f t.one x (omega arith) (omega arith) l i.0 i.1 g t.two))
copy_alike v c b f g t l true false x y =
    let is = has_is b (together (20 * c) 20 f) x in
    elim (t.alike.each (Copy c) l) [
      | inl s ↦
          let e = together_same 20 (20 * c) f g (λ k p q. s k (p, q)) in
          let no : true ≡ false = sym (is_has b (together (20 * c) 20 g) (e ∙ is)) ∙ y in absurd cc
      | inr n ↦
          let bad = value_bad f c b v is n.first in
          let size = together_short 20 (20 * c) f t.short (omega arith) b is in
          inr (record {
            first = verifies_still v f (after_all f (mend_from 0 4 b f)) (Copy c) (λ k i. copy_spared 4 0 c k b f f x i.0 i.1) ∙ n.first;
            second = mended_verifies v c b g g t.two y l (omega (arith, size)) bad;
          })
    ]
copy_alike v c b f g t l false true x y =
    let is = has_is b (together (20 * c) 20 g) y in
    elim (t.alike.each (Copy c) l) [
      | inl s ↦
          let e = together_same 20 (20 * c) f g (λ k p q. s k (p, q)) in
          let no : true ≡ false = sym (is_has b (together (20 * c) 20 f) (sym e ∙ is)) ∙ x in absurd cc
      | inr n ↦
          let bad = value_bad g c b v is n.second in
          let size = together_short 20 (20 * c) g t.brief (omega arith) b is in
          inr (record {
            first = mended_verifies v c b f f t.one x l (omega (arith, size)) bad;
            second = verifies_still v g (after_all g (mend_from 0 4 b g)) (Copy c) (λ k i. copy_spared 4 0 c k b g g y i.0 i.1) ∙ n.second;
          })
    ]

mend_slim : (m : ℕ) (b : List ℕ) → AllByRecursion Slim (mend_copy m b)
unfolding mend_copy piece
mend_slim m b = ((λ l. take_short 512 b), (tt, slim_append (writes (20 * m + 1) 19 (drop 512 b)) (Sync ∷ []) (writes_slim 19 (20 * m + 1) (drop 512 b)) (tt, tt)))

mends_slim : (n m : ℕ) (b : List ℕ) (f : Face) → AllByRecursion Slim (mend_from m n b f)
unfolding mend_from
mends_slim zero m b f = tt
mends_slim (suc n) m b f =
    slim_append (mend_unless m b f) (mend_from (m + 1) n b f) (elim (has b (copy_reading f m)) as (λ t. AllByRecursion Slim (cond t [] (mend_copy m b))) [ true ↦ tt | false ↦ mend_slim m b ]) (mends_slim n (m + 1) b f)

high_alike : (v : ℕ) (b : List ℕ) (f g : Face) (r : Region) → AlikeAt v f g r → 80 ≤ place v r → AlikeAt v (after_all f (mend_from 0 4 b f)) (after_all g (mend_from 0 4 b g)) r
high_alike v b f g r a l =
    alike_still v f g (after_all f (mend_from 0 4 b f)) (after_all g (mend_from 0 4 b g)) r a
    (λ k i. let p = i.0 in spare_all (mend_from 0 4 b f) f 0 80 k (from_within 4 0 b f) (inr (omega (arith, p, l))))
    (λ k i. let p = i.0 in spare_all (mend_from 0 4 b g) g 0 80 k (from_within 4 0 b g) (inr (omega (arith, p, l))))

region_mended : (v : ℕ) (b : List ℕ) (f g : Face) → Twins v f g → (r : Region) → IsRegion r → AlikeAt v (after_all f (mend_from 0 4 b f)) (after_all g (mend_from 0 4 b g)) r
region_mended v b f g t (Copy c) i = copy_alike v c b f g t i (has b (copy_reading f c)) (has b (copy_reading g c)) refl refl
region_mended v b f g t (HeaderSector s) i = high_alike v b f g (HeaderSector s) (t.alike.each (HeaderSector s) i) (omega arith)
region_mended v b f g t (Prepare s) i = let l = behind_headers v s in high_alike v b f g (Prepare s) (t.alike.each (Prepare s) i) (omega (arith, l))
region_mended v b f g t (Block a) i = let l = grid_behind a in high_alike v b f g (Block a) (t.alike.each (Block a) i) (omega (arith, l))

mended : (v : ℕ) (x : SuperValue) (f g : Face) → Twins v f g → Twins v (after_all f (mend_calls x f)) (after_all g (mend_calls x g))
mended v x f g t =
    let b = copy_bytes x in
    record {
      alike = record { each = region_mended v b f g t };
      one = length_after_all (mend_from 0 4 b f) f ∙ t.one;
      two = length_after_all (mend_from 0 4 b g) g ∙ t.two;
      short = short_after (mend_from 0 4 b f) f t.one t.short (mends_slim 4 0 b f);
      brief = short_after (mend_from 0 4 b g) g t.two t.brief (mends_slim 4 0 b g);
    }

saved : (v : ℕ) (old new : SuperValue) (f g : Face) → Twins v f g → Twins v (after_all f (write_calls old new f)) (after_all g (write_calls old new g))
saved v old new f g t =
    let ws = save_from 0 4 (copy_bytes new) in
    subst (λ (z : Face). Twins v z (after_all g (write_calls old new g))) (sym (after_all_append (mend_calls old f) ws f))
    (subst (λ (z : Face). Twins v (after_all (after_all f (mend_calls old f)) ws) z) (sym (after_all_append (mend_calls old g) ws g))
    ((kept_saves v 4 0 (copy_bytes new) (omega arith)).each (after_all f (mend_calls old f)) (after_all g (mend_calls old g)) (mended v old f g t)))

-- ---- all effects

stored : (v : ℕ) (again : Bool) (e : Whole) → Kept v (cond again (again_calls v e) (new_calls v e))
stored v true e = kept_both v (header_calls e.header) (prepare_calls v e) (kept_header v e.header) (kept_prepare v e)
stored v false e = kept_both v (prepare_calls v e) (header_calls e.header) (kept_prepare v e) (kept_header v e.header)

pub effect_alike : (v : ℕ) (f g : Face) → Twins v f g → (e : Effect) → Twins v (after_all f (calls_by v e f)) (after_all g (calls_by v e g))
unfolding save_calls
effect_alike v f g t (Stores again e) = (stored v again e).each f g t
effect_alike v f g t (Rewrite h) = (kept_header v h).each f g t
effect_alike v f g t (Save old new) = saved v old new f g t
effect_alike v f g t (Mend x) = mended v x f g t
effect_alike v f g t (Checkpoint cluster texts op old) =
    let bs = blocks_written cluster texts op old in
    (kept_both v (blocks_calls bs) (Sync ∷ []) (kept_blocks v bs) (kept_sync v)).each f g t
effect_alike v f g t (PutBlock name block) = (kept_put v name.address block).each f g t
effect_alike v f g t (Say output) = t

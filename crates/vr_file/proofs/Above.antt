-- What each call leaves of the disk above a cache and its file.
use Rattle.std.specs.List.{between}
use Rattle.std.proofs.Common.{arith, refl, sym, ap, ◌≡◌, ◌∙◌, ◌+◌, ◌-◌, ◌*◌, ◌<◌, ◌≤◌, ℕ, Bool, true, false, cond, List, length, Option, Some, None, ◌⊎◌, inl, inr, replicate}
use Rattle.std.proofs.lemmas.Bool.{cases_Bool}
use Rattle.std.proofs.lemmas.Bool.Decides.{nat_tests}
use Rattle.std.proofs.lemmas.List.Edits.{length-between}
use Rattle.vr_disk.specs.declared.sector.Sector.{Sector}
use Rattle.vr_io_policy.specs.declared.cached.Cached.{Cached}
use Rattle.vr_io_policy.specs.declared.cached.Cached.TheVariants.{Unknown, Unread, Held}
use Rattle.vr_io_policy.specs.Caches.{AreWhole, Cache, IsCache, IsReady, bytes_of, cached, flushed, forgot, is_clean, is_held, is_unknown, joins, learnt, not_alone, pages, pages_end, pages_first, put, stands_for, waiting, waits}
use Rattle.vr_io_policy.specs.Files.{Spot, Stands, StandsAt, in_pages, lost, neighbors_lost, over, pages_written, sector_written, synced, waiting_written}
use Rattle.vr_io_policy.proofs.Between.{is_a_disk}
use Rattle.vr_io_policy.proofs.Over.{over_now, over_same, page_stops}
use Rattle.vr_file.specs.Calls.{IsWithin, ReadsSpot, Spots, SyncsSpots, WritesSpots, is_within, spots_written}
use Rattle.vr_file.specs.Above.{Goes, IsAbove}
use Rattle.vr_file.proofs.Pieces.{length_bytes, piece_between, within_between}

abbrev lost_bytes : List ℕ
lost_bytes = replicate 512 255

-- ---- nothing but what couldn't be read changes

abbrev IsSpared : Spot → Spot → Type 0
IsSpared d e = (e ≡ d) ⊎ ((d.now ≡ None) × (e ≡ over d lost_bytes))

spared_once : (d e m : Spot) → d.now ≡ None → e ≡ over d lost_bytes → e.now ≡ None → (bytes : List ℕ) × (None ≡ Some bytes)
spared_once d e m n o p = (lost_bytes, sym p ∙ rw o (over_now d lost_bytes))

spared_both : (d e m : Spot) → IsSpared d e → IsSpared e m → IsSpared d m
spared_both d e m (inl a) (inl b) = inl (b ∙ a)
spared_both d e m (inl a) (inr p) = inr (rw a at p)
spared_both d e m (inr q) (inl b) = inr (q.0, b ∙ q.1)
spared_both d e m (inr q) (inr p) = absurd (let x = spared_once d e m q.0 q.1 p.0 in let y = x.1 in cc)

pub goes_same : (c : Cache) (t : Option Spots) (d : Spots) → IsAbove c t d → Goes c t (λ e. e) d
goes_same c t d h = record { disk = d; spared = record { at = λ j. inl refl }; above = h }

pub goes_then : (a b : Cache) (s t : Option Spots) (step : Spots → Spots) (d : Spots) → Goes a s (λ e. e) d → ((e : Spots) → IsAbove a s e → Goes b t step e) → Goes b t step d
goes_then a b s t step d g next =
    let r : Goes b t step g.disk = next g.disk g.above in
    record { disk = r.disk; spared = record { at = λ j. spared_both (d j) (g.disk j) (r.disk j) (g.spared.at j) (r.spared.at j) }; above = r.above }

pub goes_step : (a b : Cache) (s t : Option Spots) (step : Spots → Spots) (d : Spots) → Goes a s (λ e. e) d → ((e : Spots) → IsAbove a s e → IsAbove b t (step e)) → Goes b t step d
goes_step a b s t step d g next = record { disk = g.disk; spared = g.spared; above = next g.disk g.above }

-- ---- reads

pub given_known : (c : Cache) (t : Option Spots) (i : ℕ) (s : Sector) (d : Spots) → cached c i ≡ Held s → IsAbove c t d → (d i).now ≡ Some s.bytes
given_known c None i s d e h = absurd h
given_known c (Some f) i s d e h = is_a_disk.recalls c f d i s h e

pub given_read : (c : Cache) (t : Option Spots) (i : ℕ) (given : Option (List ℕ)) (d : Spots) → is_held (cached c i) ≡ false → ReadsSpot i t given → IsAbove c t d → (d i).now ≡ given
given_read c None i given d n r h = absurd h
given_read c (Some f) i given d n r h = is_a_disk.reads c f d i h n ∙ r

pub learned : (c : Cache) (t : Option Spots) (i : ℕ) (s : Sector) (d : Spots) → IsCache c → i < 3984 → ReadsSpot i t (Some s.bytes) → IsAbove c t d → IsAbove (learnt c i (Held s)) t d
learned c None i s d is l r h = absurd h
learned c (Some f) i s d is l r h = is_a_disk.notes c f d i s is l h r

pub learned_unread : (c : Cache) (t : Option Spots) (i : ℕ) (d : Spots) → IsCache c → i < 3984 → ReadsSpot i t None → IsAbove c t d → IsAbove (learnt c i Unread) t d
learned_unread c None i d is l r h = absurd h
learned_unread c (Some f) i d is l r h = is_a_disk.fails c f d i is l h r

-- ---- writes

pub clean_joins : (c : Cache) (i : ℕ) → is_clean c ≡ true → joins c i ≡ true
clean_joins c i e = rw e refl

pub put_above : (c : Cache) (t : Option Spots) (i : ℕ) (s : Sector) (d : Spots) → IsCache c → i < 3984 → joins c i ≡ true → IsAbove c t d → IsAbove (put c i s) t (sector_written d i s.bytes)
put_above c None i s d is l j h = absurd h
put_above c (Some f) i s d is l j h = is_a_disk.writes c f d i s is l j h

-- ---- pages go to the file

same_file : (c : Cache) (f h d : Spots) → ((j : ℕ) → h j ≡ f j) → Stands c f d → Stands c h d
same_file c f h d e s = record { at = λ j. rw (e j) (s.at j) }

written_is : (c : Cache) (f : Spots) (j : ℕ) → IsCache c → AreWhole (pages c) → spots_written (pages_first c) (bytes_of (pages c)) f j ≡ pages_written f c j
written_is c f j is w =
    let bound : pages_end c ≤ length c.sectors = let n = is.size in let e = is.within in grind arith in
    let same : is_within (pages_first c) (bytes_of (pages c)) j ≡ in_pages c j = within_between c.sectors (pages_first c) (pages_end c) j bound w in
    elim (cases_Bool (in_pages c j)) [
      | inl t ↦ rw (same, t) (ap (over (f j)) (piece_between c.sectors (pages_first c) (pages_end c) j bound w (grind (arith, nat_tests)) (grind (arith, nat_tests))))
      | inr n ↦ rw (same, n) refl
    ]

-- none in the pages is yet to be read
nothing : (c : Cache) (j : ℕ) → IsReady c → in_pages c j ≡ true → is_unknown (cached c j) ≡ false
nothing c j r t = r.each j (grind (arith, nat_tests)) (grind (arith, nat_tests))

half : (w : Bool) (k : Cached) (f d : Spot) → is_unknown k ≡ false → StandsAt w k f d → StandsAt w k (over f (stands_for k)) (lost d k)
half w Unknown f d n h = absurd cc
half w Unread f d n h = record {
  now = over_now d lost_bytes ∙ sym (over_now f lost_bytes);
  file = λ m. refl;
  held = h.held;
  unread = λ u. inr (over_now f lost_bytes);
  pending = λ t. absurd (let x = h.held t in cc);
  stops = λ left l. page_stops w Unread f d left n h l;
}
half w (Held s) f d n h = record {
  now = h.now;
  file = λ m. sym (over_now f s.bytes);
  held = h.held;
  unread = λ u. absurd cc;
  pending = λ t. inl (over_now f s.bytes ∙ sym h.now);
  stops = λ left l. page_stops w (Held s) f d left n h l;
}

lost_spared : (w : Bool) (k : Cached) (f d : Spot) → StandsAt w k f d → IsSpared d (lost d k)
lost_spared w Unknown f d h = inl refl
lost_spared w (Held s) f d h = inl refl
lost_spared w Unread f d h = elim (h.unread refl) [
  | inl none ↦ inr (h.now ∙ none, refl)
  | inr full ↦ inl (over_same d lost_bytes (h.now ∙ full))
]

half_at : (c : Cache) (f d : Spots) (j : ℕ) → IsReady c → Stands c f d → StandsAt (waits c j) (cached c j) (pages_written f c j) (neighbors_lost d c j)
half_at c f d j r h = elim (cases_Bool (in_pages c j)) [
  | inl t ↦ rw (t) (half (waits c j) (cached c j) (f j) (d j) (nothing c j r t) (h.at j))
  | inr n ↦ rw (n) (h.at j)
]

spared_at : (c : Cache) (f d : Spots) (j : ℕ) → Stands c f d → IsSpared (d j) (neighbors_lost d c j)
spared_at c f d j h = elim (cases_Bool (in_pages c j)) [
  | inl t ↦ rw (t) (lost_spared (waits c j) (cached c j) (f j) (d j) (h.at j))
  | inr n ↦ rw (n) (inl refl)
]

-- as it was, or as the other
abbrev chosen : {A B : Type 0} → A ⊎ B → Spot → Spot → Spot
chosen (inl a) s t = s
chosen (inr b) s t = t

chosen_stands : (w : Bool) (k : Cached) (f g h d l : Spot) (x : (h ≡ f) ⊎ (h ≡ g)) → StandsAt w k f d → StandsAt w k g l → StandsAt w k h (chosen x d l)
chosen_stands w k f g h d l (inl e) a b = rw e a
chosen_stands w k f g h d l (inr e) a b = rw e b

chosen_spared : {A B : Type 0} (x : A ⊎ B) (d l : Spot) → IsSpared d l → IsSpared d (chosen x d l)
chosen_spared (inl a) d l s = inl refl
chosen_spared (inr b) d l s = s

some_is : (c : Cache) (f h : Spots) (j : ℕ) → IsCache c → AreWhole (pages c) → (h j ≡ f j) ⊎ (h j ≡ spots_written (pages_first c) (bytes_of (pages c)) f j) → (h j ≡ f j) ⊎ (h j ≡ pages_written f c j)
some_is c f h j is w (inl e) = inl e
some_is c f h j is w (inr e) = inr (e ∙ written_is c f j is w)

pub written_whole : (c : Cache) (t u : Option Spots) (d : Spots) → IsCache c → IsReady c → AreWhole (pages c) → WritesSpots (pages_first c) (bytes_of (pages c)) true t u → IsAbove c t d → Goes (flushed c) u (λ e. e) d
written_whole c None u d is r w s h = absurd h
written_whole c (Some f) u d is r w s h =
    let all : (j : ℕ) → s.0 j ≡ pages_written f c j = λ j. s.2.whole refl j ∙ written_is c f j is w in
    rw s.1 (record {
      disk = neighbors_lost d c;
      spared = record { at = λ j. spared_at c f d j h };
      above = same_file (flushed c) (pages_written f c) s.0 (neighbors_lost d c) all (is_a_disk.pages c f d is r h);
    })

pub written_some : (c : Cache) (ok : Bool) (t u : Option Spots) (d : Spots) → IsCache c → IsReady c → AreWhole (pages c) → WritesSpots (pages_first c) (bytes_of (pages c)) ok t u → IsAbove c t d → Goes c u (λ e. e) d
written_some c ok None u d is r w s h = absurd h
written_some c ok (Some f) u d is r w s h =
    let each : (j : ℕ) → (s.0 j ≡ f j) ⊎ (s.0 j ≡ pages_written f c j) = λ j. some_is c f s.0 j is w (s.2.some j) in
    rw s.1 (record {
      disk = λ j. chosen (each j) (d j) (neighbors_lost d c j);
      spared = record { at = λ j. chosen_spared (each j) (d j) (neighbors_lost d c j) (spared_at c f d j h) };
      above = record { at = λ j. chosen_stands (waits c j) (cached c j) (f j) (pages_written f c j) (s.0 j) (d j) (neighbors_lost d c j) (each j) (h.at j) (half_at c f d j r h) };
    })

-- ---- those that wait go to the file alone

alone_is : (c : Cache) (f : Spots) (j : ℕ) → IsCache c → AreWhole (waiting c) → spots_written c.first (bytes_of (waiting c)) f j ≡ waiting_written f c j
alone_is c f j is w =
    let bound : c.end ≤ length c.sectors = let n = is.size in let e = is.within in omega arith in
    let same : is_within c.first (bytes_of (waiting c)) j ≡ waits c j = within_between c.sectors c.first c.end j bound w in
    elim (cases_Bool (waits c j)) [
      | inl t ↦ rw (same, t) (ap (over (f j)) (piece_between c.sectors c.first c.end j bound w (grind (arith, nat_tests)) (grind (arith, nat_tests))))
      | inr n ↦ rw (same, n) refl
    ]

alone_half : (w : Bool) (k : Cached) (f d : Spot) → StandsAt w k f d → StandsAt w k (cond w (over f (stands_for k)) f) d
alone_half false k f d h = h
alone_half true Unknown f d h = absurd (let t = h.held refl in cc)
alone_half true Unread f d h = absurd (let t = h.held refl in cc)
alone_half true (Held s) f d h = half true (Held s) f d refl h

alone_chosen : (w : Bool) (k : Cached) (f g h d : Spot) → (h ≡ f) ⊎ (h ≡ g) → StandsAt w k f d → StandsAt w k g d → StandsAt w k h d
alone_chosen w k f g h d (inl e) a b = rw e a
alone_chosen w k f g h d (inr e) a b = rw e b

alone_each : (c : Cache) (f h : Spots) (j : ℕ) → IsCache c → AreWhole (waiting c) → (h j ≡ f j) ⊎ (h j ≡ spots_written c.first (bytes_of (waiting c)) f j) → (h j ≡ f j) ⊎ (h j ≡ waiting_written f c j)
alone_each c f h j is w (inl e) = inl e
alone_each c f h j is w (inr e) = inr (e ∙ alone_is c f j is w)

pub alone_whole : (c : Cache) (t u : Option Spots) (d : Spots) → IsCache c → AreWhole (waiting c) → WritesSpots c.first (bytes_of (waiting c)) true t u → IsAbove c t d → IsAbove (flushed c) u d
alone_whole c None u d is w s h = absurd h
alone_whole c (Some f) u d is w s h =
    let all : (j : ℕ) → s.0 j ≡ waiting_written f c j = λ j. s.2.whole refl j ∙ alone_is c f j is w in
    rw s.1 (same_file (flushed c) (waiting_written f c) s.0 d all (is_a_disk.alone c f d h))

pub alone_some : (c : Cache) (ok : Bool) (t u : Option Spots) (d : Spots) → IsCache c → AreWhole (waiting c) → WritesSpots c.first (bytes_of (waiting c)) ok t u → IsAbove c t d → IsAbove (not_alone c) u d
alone_some c ok None u d is w s h = absurd h
alone_some c ok (Some f) u d is w s h =
    let each : (j : ℕ) → (s.0 j ≡ f j) ⊎ (s.0 j ≡ waiting_written f c j) = λ j. alone_each c f s.0 j is w (s.2.some j) in
    rw s.1 (record { at = λ j. alone_chosen (waits c j) (cached c j) (f j) (waiting_written f c j) (s.0 j) (d j) (each j) (h.at j) (alone_half (waits c j) (cached c j) (f j) (d j) (h.at j)) })

-- ---- writes stand within the file

between_within : (c : Cache) (a b : ℕ) (bytes : List ℕ) → IsCache c → a ≤ b → b ≤ 3984 → AreWhole (between a b c.sectors) → bytes ≡ bytes_of (between a b c.sectors) → IsWithin a bytes
between_within c a b bytes is h l w e =
    let size = is.size in
    let bound : b ≤ length c.sectors = omega (arith, size, l) in
    let long : length (between a b c.sectors) ≡ b - a = length-between c.sectors a b bound in
    record { count = b - a; whole = rw e (length_bytes (between a b c.sectors) w.each ∙ ap (λ n. 512 * n) long); below = omega (arith, h, l) }

pub pages_within : (c : Cache) (bytes : List ℕ) → IsCache c → AreWhole (pages c) → bytes ≡ bytes_of (pages c) → IsWithin (pages_first c) bytes
pages_within c bytes is w e =
    let order = is.order in let within = is.within in
    between_within c (pages_first c) (pages_end c) bytes is (omega (arith, order)) (omega (arith, within)) w e

pub waiting_within : (c : Cache) (bytes : List ℕ) → IsCache c → AreWhole (waiting c) → bytes ≡ bytes_of (waiting c) → IsWithin c.first bytes
waiting_within c bytes is w e = between_within c c.first c.end bytes is is.order is.within w e

-- ---- syncs and forgetting

pub synced_above : (c : Cache) (ok : Bool) (t u : Option Spots) (d : Spots) → is_clean c ≡ true → SyncsSpots ok t u → IsAbove c t d → IsAbove c u (cond ok (synced d) d)
synced_above c ok None u d e s h = absurd h
synced_above c true (Some f) u d e s h = rw s.1 (same_file c (synced f) s.0 (synced d) s.2 (is_a_disk.syncs c f d e h))
synced_above c false (Some f) u d e s h = rw s.1 (same_file c f s.0 d s.2 h)

pub forgot_above : (c : Cache) (t : Option Spots) (now : ℕ) (d : Spots) → IsCache c → IsAbove c t d → IsAbove (forgot c now) t d
forgot_above c None now d is h = absurd h
forgot_above c (Some f) now d is h = is_a_disk.forgets c f d now is h

-- ---- one call after another

pub above_then : (a b c : Cache) (s t u : Option Spots) (step : Spots → Spots) → ((d : Spots) → IsAbove a s d → Goes b t (λ e. e) d) → ((d : Spots) → IsAbove b t d → Goes c u step d)
    → (d : Spots) → IsAbove a s d → Goes c u step d
above_then a b c s t u step h g d x = goes_then b c t u step d (h d x) g

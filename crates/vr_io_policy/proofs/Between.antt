-- How the cache stands between a file and the disk above it, at each call.
use Rattle.std.specs.Prelude.{nat_le, nat_lt}
use Rattle.std.specs.List.{between}
use Rattle.std.proofs.Common.{arith, refl, sym, ◌≡◌, ◌≢◌, ◌∙◌, ◌+◌, ◌-◌, ◌<◌, ◌≤◌, ℕ, Bool, true, false, ◌&&◌, cond, eqb, List, ◌++◌, length, get_or, set, max, Option, Some, None, ◌⊎◌, inl, inr, replicate}
use Rattle.std.proofs.lemmas.Bool.{cases_Bool, cases_lt, cond_both, cond-true, cond-false}
use Rattle.std.proofs.lemmas.Bool.Decides.{eqb_tells, nat_tests}
use Rattle.std.proofs.lemmas.List.{get_or-set_same, get_or-set_other, get_or_append_left, get_or-append_right, get_or-replicate, get_or_past, length-replicate}
use Rattle.std.proofs.lemmas.List.Edits.{get_or-between, length-between}
use Rattle.vr_disk.specs.declared.sector.Sector.{Sector}
use Rattle.vr_io_policy.specs.declared.cached.Cached.{Cached}
use Rattle.vr_io_policy.specs.declared.cached.Cached.TheVariants.{Unknown, Unread, Held}
use Rattle.vr_io_policy.specs.Caches.{Cache, IsBlank, IsCache, IsReady, cached, flushed, forgot, is_clean, is_held, is_unknown, joins, learnt, new_cache, pages_end, pages_first, put, stands_for, waiting_alone, waits}
use Rattle.vr_io_policy.specs.Files.{IsADisk, Leaves, Spot, Stands, StandsAt, in_pages, lost, neighbors_lost, over, pages_written, sector_written, settled_as, synced, waiting_written}
use Rattle.vr_io_policy.proofs.Over.{begun, failed, forgotten, lost_more, lost_spares, noted, over_more, page_stops, page_written, seen_below, settled, waits_now}

moved : (w v : Bool) (k l : Cached) (f d e : Spot) → v ≡ w → l ≡ k → e ≡ d → StandsAt w k f d → StandsAt v l f e
moved w v k l f d e a b g h = rw (a, b, g) h

-- one sector is known otherwise, and may wait now
sector_set : (c : Cache) (sectors : List Cached) (first end : ℕ) (f d : ℕ → Spot) (i : ℕ) (s : Sector)
    → sectors ≡ set c.sectors i (Held s) → i < length c.sectors
    → ((j : ℕ) → j ≡ i → (nat_le first j && nat_lt j end) ≡ true) → ((j : ℕ) → j ≢ i → (nat_le first j && nat_lt j end) ≡ waits c j)
    → Stands c f d → (j : ℕ) → StandsAt (nat_le first j && nat_lt j end) (get_or sectors j Unknown) (f j) (sector_written d i s.bytes j)
sector_set c sectors first end f d i s e below here there h j = elim (eqb_tells j i) [
  | inl p ↦ moved true _ (Held s) _ (f j) (over (d j) s.bytes) _ (here j p.1) (rw (e, p.1) (get_or-set_same c.sectors i (Held s) Unknown below)) (cond-true (eqb j i) (over (d j) s.bytes) (d j) p.0) (waits_now (waits c j) (cached c j) (f j) (d j) s (h.at j))
  | inr p ↦ moved (waits c j) _ (cached c j) _ (f j) (d j) _ (there j p.1) (rw e (get_or-set_other c.sectors i j (Held s) Unknown p.1)) (cond-false (eqb j i) (over (d j) s.bytes) (d j) p.0) (h.at j)
]

alone_here : (i j : ℕ) → j ≡ i → (nat_le i j && nat_lt j (i + 1)) ≡ true
alone_here i j e = grind (arith, nat_tests)

alone_there : (c : Cache) (i j : ℕ) → is_clean c ≡ true → j ≢ i → (nat_le i j && nat_lt j (i + 1)) ≡ waits c j
alone_there c i j e n = grind (arith, nat_tests)

next_to : (c : Cache) (i : ℕ) → IsCache c → is_clean c ≡ false → joins c i ≡ true → (c.first ≤ i) × (i ≤ c.end)
next_to c i is n j = (grind (arith, nat_tests), grind (arith, nat_tests))

joined_here : (c : Cache) (i j : ℕ) → c.first ≤ i → j ≡ i → (nat_le c.first j && nat_lt j (max c.end (i + 1))) ≡ true
joined_here c i j l e = grind (arith, nat_tests)

joined_there : (c : Cache) (i j : ℕ) → c.first ≤ i → i ≤ c.end → j ≢ i → (nat_le c.first j && nat_lt j (max c.end (i + 1))) ≡ waits c j
joined_there c i j l m n = grind (arith, nat_tests)

pub writes : (c : Cache) (f d : ℕ → Spot) (i : ℕ) (s : Sector) → IsCache c → i < 3984 → joins c i ≡ true → Stands c f d → Stands (put c i s) f (sector_written d i s.bytes)
writes c f d i s is below j h =
    let size : i < length c.sectors = let n = is.size in omega arith in
    cond_both (is_clean c) (record { sectors = set c.sectors i (Held s); first = i; end = i + 1; tried = false; forgotten = c.forgotten }) (record { sectors = set c.sectors i (Held s); first = c.first; end = max c.end (i + 1); tried = c.tried; forgotten = c.forgotten })
    (λ p. Stands p f (sector_written d i s.bytes))
    (λ t. record { at = sector_set c _ i (i + 1) f d i s refl size (alone_here i) (λ k n. alone_there c i k t n) h })
    (λ n. let p = next_to c i is n j in
    record { at = sector_set c _ c.first (max c.end (i + 1)) f d i s refl size (λ k e. joined_here c i k p.0 e) (λ k m. joined_there c i k p.0 p.1 m) h })

-- ---- what the file gave

learns : (c : Cache) (f d : ℕ → Spot) (i : ℕ) (found : Cached) → IsCache c → i < 3984 → Stands c f d
    → (is_held (cached c i) ≡ false → StandsAt (waits c i) found (f i) (d i)) → Stands (learnt c i found) f d
learns c f d i found is below h g =
    let size : i < length c.sectors = let n = is.size in omega arith in
    cond_both (is_held (cached c i)) c (record { sectors = set c.sectors i found; first = c.first; end = c.end; tried = c.tried; forgotten = c.forgotten }) (λ p. Stands p f d) (λ t. h)
    (λ n. record {
      at = λ j. elim (eqb_tells j i) [
        | inl p ↦ rw p.1 (moved (waits c i) _ found _ (f i) (d i) _ refl (get_or-set_same c.sectors i found Unknown size) refl (g n))
        | inr p ↦ moved (waits c j) _ (cached c j) _ (f j) (d j) _ refl (get_or-set_other c.sectors i j found Unknown p.1) refl (h.at j)
      ];
    })

-- ---- pages go to the file

nothing : (c : Cache) (j : ℕ) → IsReady c → in_pages c j ≡ true → is_unknown (cached c j) ≡ false
nothing c j r t = r.each j (grind (arith, nat_tests)) (grind (arith, nat_tests))

outside : (c : Cache) (j : ℕ) → IsCache c → in_pages c j ≡ false → waits c j ≡ false
outside c j is n = grind (arith, nat_tests)

clean_now : (c : Cache) (j : ℕ) → (nat_le c.end j && nat_lt j c.end) ≡ false
clean_now c j = grind (arith, nat_tests)

pub pages : (c : Cache) (f d : ℕ → Spot) → IsCache c → IsReady c → Stands c f d → Stands (flushed c) (pages_written f c) (neighbors_lost d c)
pages c f d is r h = record {
  at = λ j. elim (cases_Bool (in_pages c j)) [
    | inl t ↦ rw (clean_now c j, cond-true (in_pages c j) (over (f j) (stands_for (cached c j))) (f j) t, cond-true (in_pages c j) (lost (d j) (cached c j)) (d j) t) (page_written (waits c j) (cached c j) (f j) (d j) (nothing c j r t) (h.at j))
    | inr n ↦ rw (clean_now c j, cond-false (in_pages c j) (over (f j) (stands_for (cached c j))) (f j) n, cond-false (in_pages c j) (lost (d j) (cached c j)) (d j) n) (let g : StandsAt (waits c j) (cached c j) (f j) (d j) = h.at j in rw (outside c j is n) at g)
  ];
}

pub tears : (c : Cache) (f d : ℕ → Spot) (left : ℕ → Option (List ℕ)) → IsCache c → IsReady c → Stands c f d → ((j : ℕ) → Leaves (f j) (left j) ⊎ Leaves (pages_written f c j) (left j))
    → (j : ℕ) → Leaves (neighbors_lost d c j) (left j)
tears c f d left is r h l j = elim (cases_Bool (in_pages c j)) [
  | inl t ↦ rw (cond-true (in_pages c j) (lost (d j) (cached c j)) (d j) t) (elim (l j) [
    | inl old ↦ lost_more (cached c j) (d j) (left j) ((h.at j).stops (left j) old)
    | inr new ↦ page_stops (waits c j) (cached c j) (f j) (d j) (left j) (nothing c j r t) (h.at j) (rw (cond-true (in_pages c j) (over (f j) (stands_for (cached c j))) (f j) t) at new)
  ])
  | inr n ↦ rw (cond-false (in_pages c j) (lost (d j) (cached c j)) (d j) n) (elim (l j) [
    | inl old ↦ (h.at j).stops (left j) old
    | inr new ↦ (h.at j).stops (left j) (rw (cond-false (in_pages c j) (over (f j) (stands_for (cached c j))) (f j) n) at new)
  ])
]

-- ---- those that wait go to the file alone

alone_at : (w : Bool) (k : Cached) (f d : Spot) → StandsAt w k f d → StandsAt false k (cond w (over f (stands_for k)) f) d
alone_at false k f d h = h
alone_at true Unknown f d h = absurd (let t = h.held refl in cc)
alone_at true Unread f d h = absurd (let t = h.held refl in cc)
alone_at true (Held s) f d h = page_written true (Held s) f d refl h

pub alone : (c : Cache) (f d : ℕ → Spot) → Stands c f d → Stands (flushed c) (waiting_written f c) d
alone c f d h = record { at = λ j. rw (clean_now c j) (alone_at (waits c j) (cached c j) (f j) (d j) (h.at j)) }

pub tears_alone : (c : Cache) (f d : ℕ → Spot) (left : ℕ → Option (List ℕ)) → Stands c f d → ((j : ℕ) → Leaves (f j) (left j) ⊎ Leaves (waiting_written f c j) (left j))
    → (j : ℕ) → Leaves (d j) (left j)
tears_alone c f d left h l j = elim (l j) [
  | inl old ↦ (h.at j).stops (left j) old
  | inr new ↦ (let a : Stands (flushed c) (waiting_written f c) d = alone c f d h in (a.at j).stops (left j) new)
]

pub spares : (c : Cache) (f d : ℕ → Spot) (j : ℕ) → Stands c f d → ((d j).now ≡ (neighbors_lost d c j).now) ⊎ ((d j).now ≡ None)
spares c f d j h = elim (cases_Bool (in_pages c j)) [
  | inl t ↦ rw (cond-true (in_pages c j) (lost (d j) (cached c j)) (d j) t) (lost_spares (waits c j) (cached c j) (f j) (d j) (h.at j))
  | inr n ↦ rw (cond-false (in_pages c j) (lost (d j) (cached c j)) (d j) n) (inl refl)
]

-- ---- syncs and forgetting

none_waits : (c : Cache) (j : ℕ) → is_clean c ≡ true → waits c j ≡ false
none_waits c j t = grind (arith, nat_tests)

pub syncs : (c : Cache) (f d : ℕ → Spot) → is_clean c ≡ true → Stands c f d → Stands c (synced f) (synced d)
syncs c f d t h = record {
  at = λ j.
      let g : StandsAt (waits c j) (cached c j) (f j) (d j) = h.at j in
      let none : waits c j ≡ false = none_waits c j t in
      rw none (settled (cached c j) (f j) (d j) (rw none at g));
}

-- nothing but what isn't known stands in a list of that
past : (n i : ℕ) → get_or (replicate n Unknown) i Unknown ≡ Unknown
past n i = elim (cases_lt i n) [
  | inl l ↦ get_or-replicate n i Unknown Unknown l
  | inr g ↦ get_or_past (replicate n Unknown) i Unknown (let e = length-replicate {A = Cached} n Unknown in omega arith)
]

-- how a sector is known once those are known that wait
known_then : (c : Cache) (j : ℕ) → IsCache c → get_or (waiting_alone c) j Unknown ≡ cond (waits c j) (cached c j) Unknown
known_then c j is =
    let front : List Cached = replicate c.first Unknown in
    let back : List Cached = replicate (length c.sectors - c.end) Unknown in
    let mid : List Cached = between c.first c.end c.sectors in
    let order = is.order in
    let within = is.within in
    let size = is.size in
    let fl : length front ≡ c.first = length-replicate {A = Cached} c.first Unknown in
    let ml : length mid ≡ c.end - c.first = length-between c.sectors c.first c.end (omega arith) in
    elim (cases_lt j c.first) [
      | inl l ↦ get_or_append_left front (mid ++ back) Unknown j (omega arith) ∙ (get_or-replicate c.first j Unknown Unknown l ∙ sym (cond-false (waits c j) (cached c j) Unknown (grind (arith, nat_tests))))
      | inr g ↦ get_or-append_right front (mid ++ back) c.first j Unknown fl g ∙ elim (cases_lt j c.end) [
        | inl l ↦ get_or_append_left mid back Unknown (j - c.first) (omega arith) ∙ (get_or-between c.sectors c.first c.end (j - c.first) Unknown (omega arith) ∙ ((let e : c.first + (j - c.first) ≡ j = omega arith in rw e refl) ∙ sym (cond-true (waits c j) (cached c j) Unknown (grind (arith, nat_tests)))))
        | inr m ↦ get_or-append_right mid back (c.end - c.first) (j - c.first) Unknown ml (omega arith) ∙ (past (length c.sectors - c.end) (j - c.first - (c.end - c.first)) ∙ sym (cond-false (waits c j) (cached c j) Unknown (grind (arith, nat_tests))))
      ]
    ]

pub forgets : (c : Cache) (f d : ℕ → Spot) (now : ℕ) → IsCache c → Stands c f d → Stands (forgot c now) f d
forgets c f d now is h = record {
  at = λ j.
      let g : StandsAt (waits c j) (cached c j) (f j) (d j) = h.at j in
      let known = known_then c j is in
      elim (cases_Bool (waits c j)) [
        | inl t ↦ moved (waits c j) _ (cached c j) _ (f j) (d j) _ refl (known ∙ cond-true (waits c j) (cached c j) Unknown t) refl g
        | inr n ↦ moved false _ Unknown _ (f j) (d j) _ n (known ∙ cond-false (waits c j) (cached c j) Unknown n) refl (forgotten (cached c j) (f j) (d j) (rw n at g))
      ];
}

starts : (now : ℕ → Option (List ℕ)) → Stands new_cache (λ j. settled_as (now j)) (λ j. settled_as (now j))
starts now = record { at = λ j. moved false _ Unknown _ (settled_as (now j)) (settled_as (now j)) _ (grind (arith, nat_tests)) (past 3984 j) refl (begun (now j)) }

-- once nothing waits, and all is forgotten
pub forgot_blank : (c : Cache) (now : ℕ) → IsCache c → is_clean c ≡ true → IsBlank (forgot c now)
forgot_blank c now is t = record { clean = t; each = λ j. known_then c j is ∙ cond-false (waits c j) (cached c j) Unknown (none_waits c j t) }

starts_anew : (c : Cache) (now : ℕ → Option (List ℕ)) → IsBlank c → Stands c (λ j. settled_as (now j)) (λ j. settled_as (now j))
starts_anew c now b = record { at = λ j. moved false _ Unknown _ (settled_as (now j)) (settled_as (now j)) _ (none_waits c j b.clean) (b.each j) refl (begun (now j)) }

pub is_a_disk : IsADisk
is_a_disk = record {
  begins = starts;
  anew = starts_anew;
  recalls = λ c f d i s h e. let g = (h.at i).now in rw e at g;
  reads = λ c f d i h n. (h.at i).now ∙ seen_below (cached c i) (f i).now n;
  notes = λ c f d i s is l h e. learns c f d i (Held s) is l h (λ n. noted (waits c i) (cached c i) (f i) (d i) s (h.at i) n e);
  fails = λ c f d i is l h e. learns c f d i Unread is l h (λ n. failed (waits c i) (cached c i) (f i) (d i) (h.at i) n e);
  writes = writes;
  pages = pages;
  spares = spares;
  syncs = syncs;
  forgets = forgets;
  stops = λ c f d left h l j. (h.at j).stops (left j) (l j);
  tears = tears;
  alone = alone;
  tears_alone = tears_alone;
}

-- One sector of a file below a cache, and of the disk above it.
use Rattle.std.proofs.Common.{arith, refl, sym, ap, ◌≡◌, ◌∙◌, ℕ, Bool, true, false, List, [], ◌∷◌, Option, Some, None, ◌⊎◌, inl, inr, replicate}
use Rattle.std.proofs.lemmas.Bool.{cases_Bool, cond-true, cond-false}
use Rattle.std.proofs.lemmas.Slice.Eq.{bytes_eq-Decides}
use Rattle.vr_disk.specs.Sectors.{has}
use Rattle.vr_disk.specs.declared.sector.Sector.{Sector}
use Rattle.vr_io_policy.specs.declared.cached.Cached.{Cached}
use Rattle.vr_io_policy.specs.declared.cached.Cached.TheVariants.{Unknown, Unread, Held}
use Rattle.vr_io_policy.specs.Caches.{is_held, is_unknown, stands_for}
use Rattle.vr_io_policy.specs.Files.{IsAmong, IsPending, Leaves, Spot, StandsAt, Wrote, lost, over, seen, settled_as}

-- what has bytes reads as them
has_them : (bytes : List ℕ) (now : Option (List ℕ)) → has bytes now ≡ true → now ≡ Some bytes
has_them bytes None h = absurd cc
has_them bytes (Some other) h = ap Some ((bytes_eq-Decides other bytes).0 h)

has_itself : (bytes : List ℕ) (now : Option (List ℕ)) → now ≡ Some bytes → has bytes now ≡ true
has_itself bytes now h = rw h ((bytes_eq-Decides bytes bytes).1 refl)

-- a write: it had the bytes, and nothing changes, or they are written in the place of others
pub over_same : (s : Spot) (bytes : List ℕ) → s.now ≡ Some bytes → over s bytes ≡ s
over_same s bytes h = cond-true (has bytes s.now) s (record { now = Some bytes; synced = s.synced; since = bytes ∷ s.since }) (has_itself bytes s.now h)

abbrev newly : Spot → List ℕ → Spot
newly s bytes = record { now = Some bytes; synced = s.synced; since = bytes ∷ s.since }

pub over_cases : (s : Spot) (bytes : List ℕ) → ((s.now ≡ Some bytes) × (over s bytes ≡ s)) ⊎ (over s bytes ≡ newly s bytes)
over_cases s bytes = elim (cases_Bool (has bytes s.now)) [
  | inl t ↦ inl (has_them bytes s.now t, cond-true (has bytes s.now) s (newly s bytes) t)
  | inr n ↦ inr (cond-false (has bytes s.now) s (newly s bytes) n)
]

pub over_now : (s : Spot) (bytes : List ℕ) → (over s bytes).now ≡ Some bytes
over_now s bytes = elim (over_cases s bytes) [
  | inl p ↦ rw p.1 p.0
  | inr e ↦ rw e refl
]

more : (left : Option (List ℕ)) (s : Spot) (bytes : List ℕ) → Leaves s left → Leaves (newly s bytes) left
more left s bytes (inl e) = inl e
more left s bytes (inr w) = inr (record { bytes = w.bytes; among = inr w.among; whole = w.whole })

-- what a stop might leave before a write it may leave after it
pub over_more : (left : Option (List ℕ)) (s : Spot) (bytes : List ℕ) → Leaves s left → Leaves (over s bytes) left
over_more left s bytes h = elim (over_cases s bytes) [
  | inl p ↦ rw p.1 h
  | inr e ↦ rw e (more left s bytes h)
]

-- bytes that were written to the disk come to the file
newly_leaves : (left : Option (List ℕ)) (f d : Spot) (bytes : List ℕ) → IsAmong bytes d.since → (Leaves f left → Leaves d left) → Leaves (newly f bytes) left → Leaves d left
newly_leaves left f d bytes a h (inl e) = h (inl e)
newly_leaves left f d bytes a h (inr w) = elim w.among [
  | inl same ↦ inr (record { bytes = bytes; among = a; whole = rw (← same) w.whole })
  | inr there ↦ h (inr (record { bytes = w.bytes; among = there; whole = w.whole }))
]

-- the disk above and the file below get the same bytes
newly_both : (left : Option (List ℕ)) (f d : Spot) (bytes : List ℕ) → (Leaves f left → Leaves d left) → Leaves (newly f bytes) left → Leaves (newly d bytes) left
newly_both left f d bytes h (inl e) = more left d bytes (h (inl e))
newly_both left f d bytes h (inr w) = elim w.among [
  | inl same ↦ inr (record { bytes = w.bytes; among = inl same; whole = w.whole })
  | inr there ↦ more left d bytes (h (inr (record { bytes = w.bytes; among = there; whole = w.whole })))
]

-- ---- a write to the disk that waits

pending_over : (w : Bool) (k : Cached) (f d : Spot) (bytes : List ℕ) → StandsAt w k f d → IsPending f (over d bytes)
pending_over w k f d bytes h = elim (over_cases d bytes) [
  | inl p ↦ rw p.1 (elim (cases_Bool w) [
    | inl t ↦ h.pending t
    | inr n ↦ inl (sym (h.now ∙ h.file n))
  ])
  | inr e ↦ rw e (inr (bytes, refl, inl refl))
]

pub waits_now : (w : Bool) (k : Cached) (f d : Spot) (s : Sector) → StandsAt w k f d → StandsAt true (Held s) f (over d s.bytes)
waits_now w k f d s h = record {
  now = over_now d s.bytes;
  file = λ n. absurd cc;
  held = λ t. refl;
  unread = λ u. absurd cc;
  pending = λ t. pending_over w k f d s.bytes h;
  stops = λ left l. over_more left d s.bytes (h.stops left l);
}

-- ---- what the file gave

not_waiting : (w : Bool) (k : Cached) (f d : Spot) → StandsAt w k f d → is_held k ≡ false → w ≡ false
not_waiting true k f d h n = absurd (let t = h.held refl in cc)
not_waiting false k f d h n = refl

pub seen_below : (k : Cached) (now : Option (List ℕ)) → is_held k ≡ false → seen k now ≡ now
seen_below Unknown now n = refl
seen_below Unread now n = refl
seen_below (Held s) now n = absurd cc

pub noted : (w : Bool) (k : Cached) (f d : Spot) (s : Sector) → StandsAt w k f d → is_held k ≡ false → f.now ≡ Some s.bytes → StandsAt w (Held s) f d
noted w k f d s h n e =
    let not : w ≡ false = not_waiting w k f d h n in
    record {
      now = h.now ∙ (seen_below k f.now n ∙ e);
      file = λ m. sym e;
      held = λ t. refl;
      unread = λ u. absurd cc;
      pending = λ t. absurd cc;
      stops = h.stops;
    }

pub failed : (w : Bool) (k : Cached) (f d : Spot) → StandsAt w k f d → is_held k ≡ false → f.now ≡ None → StandsAt w Unread f d
failed w k f d h n e =
    let not : w ≡ false = not_waiting w k f d h n in
    record {
      now = h.now ∙ seen_below k f.now n;
      file = λ m. refl;
      held = λ t. absurd cc;
      unread = λ u. inl e;
      pending = λ t. absurd cc;
      stops = h.stops;
    }

-- ---- pages go to the file

held_stops : (w : Bool) (f d : Spot) (s : Sector) (left : Option (List ℕ)) → StandsAt w (Held s) f d → Leaves (over f s.bytes) left → Leaves d left
held_stops w f d s left h l = elim (over_cases f s.bytes) [
  | inl p ↦ h.stops left (rw p.1 at l)
  | inr e ↦ elim (cases_Bool w) [
    | inl t ↦ elim (h.pending t) [
      | inl same ↦ h.stops left (rw (over_same f s.bytes (same ∙ h.now)) at l)
      | inr p ↦ newly_leaves left f d s.bytes (let same : p.0 ≡ s.bytes = let q : Some p.0 ≡ Some s.bytes = sym p.1 ∙ h.now in cc in rw (← same) p.2) (h.stops left) (rw e at l)
    ]
    | inr n ↦ h.stops left (rw (over_same f s.bytes (sym (h.file n))) at l)
  ]
]

lost_stops : (f d : Spot) (bytes : List ℕ) (left : Option (List ℕ)) → d.now ≡ f.now → (Leaves f left → Leaves d left) → Leaves (over f bytes) left → Leaves (over d bytes) left
lost_stops f d bytes left same h l = elim (over_cases d bytes) [
  | inl p ↦ rw p.1 (h (rw (over_same f bytes (sym same ∙ p.0)) at l))
  | inr e ↦ rw e (elim (over_cases f bytes) [
    | inl q ↦ more left d bytes (h (rw q.1 at l))
    | inr g ↦ newly_both left f d bytes h (rw g at l)
  ])
]

pub page_stops : (w : Bool) (k : Cached) (f d : Spot) (left : Option (List ℕ)) → is_unknown k ≡ false → StandsAt w k f d → Leaves (over f (stands_for k)) left → Leaves (lost d k) left
page_stops w Unknown f d left known h l = absurd cc
page_stops w Unread f d left known h l = lost_stops f d (replicate 512 255) left h.now (h.stops left) l
page_stops w (Held s) f d left known h l = held_stops w f d s left h l

pub page_written : (w : Bool) (k : Cached) (f d : Spot) → is_unknown k ≡ false → StandsAt w k f d → StandsAt false k (over f (stands_for k)) (lost d k)
page_written w Unknown f d known h = absurd cc
page_written w Unread f d known h = record {
  now = over_now d (replicate 512 255) ∙ sym (over_now f (replicate 512 255));
  file = λ n. refl;
  held = λ t. absurd cc;
  unread = λ u. inr (over_now f (replicate 512 255));
  pending = λ t. absurd cc;
  stops = λ left l. page_stops w Unread f d left known h l;
}
page_written w (Held s) f d known h = record {
  now = h.now;
  file = λ n. sym (over_now f s.bytes);
  held = λ t. absurd cc;
  unread = λ u. absurd cc;
  pending = λ t. absurd cc;
  stops = λ left l. page_stops w (Held s) f d left known h l;
}

-- what stops may leave before pages are written, they may leave after it
pub lost_more : (k : Cached) (d : Spot) (left : Option (List ℕ)) → Leaves d left → Leaves (lost d k) left
lost_more Unknown d left h = h
lost_more Unread d left h = over_more left d (replicate 512 255) h
lost_more (Held s) d left h = h

pub lost_spares : (w : Bool) (k : Cached) (f d : Spot) → StandsAt w k f d → (d.now ≡ (lost d k).now) ⊎ (d.now ≡ None)
lost_spares w Unknown f d h = inl refl
lost_spares w (Held s) f d h = inl refl
lost_spares w Unread f d h = elim (h.unread refl) [
  | inl none ↦ inr (h.now ∙ none)
  | inr full ↦ inl ((h.now ∙ full) ∙ sym (over_now d (replicate 512 255)))
]

-- ---- syncs, stops, forgetting

none_left : (left : Option (List ℕ)) (reading : Option (List ℕ)) → Leaves (settled_as reading) left → left ≡ reading
none_left left reading (inl e) = e
none_left left reading (inr w) = absurd w.among

pub settled : (k : Cached) (f d : Spot) → StandsAt false k f d → StandsAt false k (settled_as f.now) (settled_as d.now)
settled k f d h = record {
  now = h.now;
  file = h.file;
  held = h.held;
  unread = h.unread;
  pending = λ t. absurd cc;
  stops = λ left l. inl (none_left left f.now l ∙ sym (h.now ∙ h.file refl));
}

pub forgotten : (k : Cached) (f d : Spot) → StandsAt false k f d → StandsAt false Unknown f d
forgotten k f d h = record {
  now = h.now ∙ h.file refl;
  file = λ n. refl;
  held = λ t. absurd cc;
  unread = λ u. absurd cc;
  pending = λ t. absurd cc;
  stops = h.stops;
}

pub begun : (reading : Option (List ℕ)) → StandsAt false Unknown (settled_as reading) (settled_as reading)
begun reading = record { now = refl; file = λ n. refl; held = λ t. absurd cc; unread = λ u. absurd cc; pending = λ t. absurd cc; stops = λ left l. l }

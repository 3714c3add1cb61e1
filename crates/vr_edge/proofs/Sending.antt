-- What the outbox of a link in memory tells, one send after another.
use Rattle.std.specs.Prelude.{◌≡◌, ◌+◌, ◌-◌, ◌^◌, ◌≤◌, ℕ, List, [], ◌∷◌, ◌++◌, Option, Some, None, true, false, map, take, drop, length, replicate, min, nat_le, refl, slice_get, option_and_then, IfSome, if◌then◌else◌}
use Rattle.std.proofs.Common.{arith, zero, suc, sym, ap, append_assoc, append-nil, length-append}
use Rattle.std.proofs.lemmas.Bool.{and_parts}
use Rattle.std.proofs.lemmas.Grind.{common_steps}
use Rattle.std.proofs.lemmas.List.{map-append, take-append-le, drop-append-le, replicate-append-replicate}
use Rattle.std.proofs.Math.Seq.{drop-append_seam}
use Rattle.vr_edge.proofs.Told.{grows_if}
use Rattle.vr_edge.specs.Marks.{is_within, are_within}
use Rattle.vr_edge.specs.Sending.{datagram_at, marked, entries, has_room, entry_at}
use Rattle.vr_edge.specs.Told.{Grows}
use Rattle.vr_edge.specs.declared.outbox.Mark.{Mark}
use Rattle.vr_edge.specs.declared.outbox.Outbox.{Outbox}

abbrev mark_at : ℕ → ℕ → ℕ → Mark
mark_at port start end = record { port = port; start = start; end = end }

-- bytes at the end change no datagram before them
piece_kept : (bytes more : List ℕ) (start end : ℕ) → end ≤ length bytes
    → take (end - start) (drop start (bytes ++ more)) ≡ take (end - start) (drop start bytes)
piece_kept bytes more start end h = grind (arith, common_steps, drop-append-le start bytes more, take-append-le (end - start) (drop start bytes) more)

last_piece : (bytes more : List ℕ)
    → take (length bytes + length more - length bytes) (drop (length bytes) (bytes ++ more)) ≡ more
last_piece bytes more =
    let e : length bytes + length more - length bytes ≡ length more = omega arith in
    rw (e, drop-append_seam bytes more) (grind (arith, common_steps))

marked_kept : (bytes more : List ℕ) (mark : Option Mark) → is_within (length bytes) mark ≡ true
    → marked (bytes ++ more) mark ≡ marked bytes mark
unfolding marked
marked_kept bytes more None h = refl
marked_kept bytes more (Some m) h =
    ap (λ piece. Some (datagram_at m.port piece)) (piece_kept bytes more m.start m.end (grind (arith, h)))

all_kept : (bytes more : List ℕ) (marks : List (Option Mark)) → are_within (length bytes) marks ≡ true
    → map (marked (bytes ++ more)) marks ≡ map (marked bytes) marks
all_kept bytes more [] h = refl
all_kept bytes more (mark ∷ marks) h =
    let parts = and_parts (is_within (length bytes) mark) (are_within (length bytes) marks) h in
    rw (marked_kept bytes more mark parts.0, all_kept bytes more marks parts.1) refl

-- with room for one more, none came past the room
pub none_past : (outbox : Outbox) (len : ℕ) → has_room outbox len ≡ true → outbox.past ≡ 0
none_past outbox len room = grind (arith, room)

-- a datagram went out
pub went_out : (bytes bytes' more : List ℕ) (marks marks' : List (Option Mark)) (port start end past : ℕ) → past ≡ 0
    → are_within (length bytes) marks ≡ true → bytes' ≡ bytes ++ more → start ≡ length bytes → end ≡ length bytes'
    → marks' ≡ marks ++ Some (mark_at port start end) ∷ []
    → Grows (entries bytes marks past) (entries bytes' marks' past) (Some (datagram_at port more) ∷ [])
unfolding entries marked
went_out bytes bytes' more marks marks' port start end past none within grown starts ends marked_so =
    rw (none, marked_so, ends, starts, grown, length-append bytes more, map-append (marked (bytes ++ more)) marks (Some (mark_at port (length bytes) (length bytes + length more)) ∷ []), all_kept bytes more marks within, last_piece bytes more, append-nil (map (marked bytes) marks))
    (append-nil _)

-- a send failed while there was room
pub failed : (bytes : List ℕ) (marks : List (Option Mark)) (past : ℕ) → past ≡ 0
    → Grows (entries bytes marks past) (entries bytes (marks ++ None ∷ []) past) (None ∷ [])
unfolding entries marked
failed bytes marks past none =
    rw (none, map-append (marked bytes) marks (None ∷ []), append-nil (map (marked bytes) marks)) (append-nil _)

past_more : {X : Type 0} (xs : List X) (past : ℕ) (x : X) → nat_le (2 ^ 64 - 1) past ≡ false
    → xs ++ replicate (min (past + 1) (2 ^ 64 - 1)) x ≡ xs ++ replicate past x ++ x ∷ []
past_more xs past x below =
    let e : min (past + 1) (2 ^ 64 - 1) ≡ past + 1 = grind (arith, below) in
    rw (e, ← replicate-append-replicate past 1 x) (sym (append_assoc xs (replicate past x) (x ∷ [])))

-- a send came when no room was left
pub came_past : (bytes : List ℕ) (marks : List (Option Mark)) (past : ℕ)
    → Grows (entries bytes marks past) (entries bytes marks (min (past + 1) (2 ^ 64 - 1))) (None ∷ [])
unfolding entries
came_past bytes marks past =
    grows_if (nat_le (2 ^ 64 - 1) past) (nat_le (2 ^ 64 - 1) (min (past + 1) (2 ^ 64 - 1))) _ _ _ (λ end. grind (arith, end)) (λ below. past_more _ past None below)

still_within : (count more : ℕ) (mark : Option Mark)
    → is_within count mark ≡ true → is_within (count + more) mark ≡ true
still_within count more None h = refl
still_within count more (Some m) h = grind (arith, h)

within_last : (count more : ℕ) (marks : List (Option Mark)) (port start : ℕ) → start ≤ count → are_within count marks ≡ true
    → are_within (count + more) (marks ++ Some (mark_at port start (count + more)) ∷ []) ≡ true
within_last count more [] port start below h = grind (arith, below)
within_last count more (mark ∷ marks) port start below h =
    let parts = and_parts (is_within count mark) (are_within count marks) h in
    rw (still_within count more mark parts.0, within_last count more marks port start below parts.1) refl

-- marks after one more
pub within_more : (bytes bytes' more : List ℕ) (marks marks' : List (Option Mark)) (port start end : ℕ)
    → are_within (length bytes) marks ≡ true → bytes' ≡ bytes ++ more → start ≡ length bytes → end ≡ length bytes'
    → marks' ≡ marks ++ Some (mark_at port start end) ∷ [] → are_within (length bytes') marks' ≡ true
within_more bytes bytes' more marks marks' port start end within grown starts ends marked_so =
    rw (marked_so, ends, grown, length-append bytes more) (within_last (length bytes) (length more) marks port start (rw starts (omega arith)) within)

pub within_failed : (count : ℕ) (marks : List (Option Mark)) → are_within count marks ≡ true
    → are_within count (marks ++ None ∷ []) ≡ true
within_failed count [] h = refl
within_failed count (mark ∷ marks) h =
    let parts = and_parts (is_within count mark) (are_within count marks) h in
    rw (parts.0, within_failed count marks parts.1) refl

-- the marks that stand
pub within_at : (count : ℕ) (marks : List (Option Mark)) (at : ℕ) → are_within count marks ≡ true
    → IfSome (slice_get marks at) (λ mark. is_within count mark ≡ true)
within_at count [] zero h = tt
within_at count [] (suc at) h = tt
within_at count (mark ∷ marks) zero h = (and_parts (is_within count mark) (are_within count marks) h).0
within_at count (mark ∷ marks) (suc at) h =
    within_at count marks at (and_parts (is_within count mark) (are_within count marks) h).1

none_sent : (past at : ℕ) → entry_at (replicate past None) at ≡ None
none_sent zero zero = refl
none_sent zero (suc at) = refl
none_sent (suc past) zero = refl
none_sent (suc past) (suc at) = none_sent past at

-- an entry of what is told is the datagram of its mark
entry_marked : (bytes : List ℕ) (marks : List (Option Mark)) (past at : ℕ)
    → option_and_then (marked bytes) (slice_get marks at) ≡ entry_at (map (marked bytes) marks ++ replicate past None) at
entry_marked bytes [] past at = sym (none_sent past at)
entry_marked bytes (mark ∷ marks) past zero = refl
entry_marked bytes (mark ∷ marks) past (suc at) = entry_marked bytes marks past at

pub entry_told : (bytes : List ℕ) (marks : List (Option Mark)) (past at : ℕ)
    → IfSome (entries bytes marks past) (λ sent. option_and_then (marked bytes) (slice_get marks at) ≡ entry_at sent at)
unfolding entries
entry_told bytes marks past at =
    elim (nat_le (2 ^ 64 - 1) past) as (λ ended. IfSome (if ended then None else Some (map (marked bytes) marks ++ replicate past None)) (λ sent. option_and_then (marked bytes) (slice_get marks at) ≡ entry_at sent at))
    [ true ↦ tt | false ↦ entry_marked bytes marks past at ]

-- A disk of 3,984 sectors of 512 bytes: what it holds, what each call leaves, and what a stop leaves.
use Rattle.std.specs.Prelude.{ℕ, zero, suc, ◌+◌, ◌-◌, ◌/◌, ◌%◌, ◌^◌, ◌<◌, ◌≡◌, Bool, true, false, ◌||◌, ◌==◌, nat_lt, if◌then◌else◌, List, [], ◌∷◌, ◌++◌, length, map, Option, None, Some, slice_index_or, slice_set, bit_xor, min}
use Rattle.std.specs.List.{list_any, All}
use Rattle.vr_base.specs.Bytes.{IsBytes}
use Rattle.vr_disk.specs.Regions.{sectors}

-- ---- what a disk holds

-- what a sector should hold, what a read of it gives (none: the read fails), and what it held before its last write
pub record Cell : Type 0 where
  pub truth : List ℕ
  pub reads : Option (List ℕ)
  pub before : List ℕ

-- a sector written since the last sync, and what it was before the first such write
pub record Waiting : Type 0 where
  pub index : ℕ
  pub was : Cell

-- the sectors, and those that wait for a sync, in the order of their first write since the last one
pub record Face : Type 0 where
  pub cells : List Cell
  pub waiting : List Waiting

abbrev pub blank : Cell
blank = record { truth = []; reads = None; before = [] }

abbrev pub cell : Face → ℕ → Cell
cell f i = slice_index_or f.cells i blank

-- what a read gives
abbrev pub reads : Face → ℕ → Option (List ℕ)
reads f i = (cell f i).reads

abbrev pub waits : ℕ → List Waiting → Bool
waits i ws = list_any (λ w. w.index == i) ws

-- the bytes of a sector
pub record IsContent (bytes : List ℕ) : Type 0 where
  pub size : length bytes ≡ 512
  pub each : IsBytes bytes

pub record IsCell (c : Cell) : Type 0 where
  pub truth : IsContent c.truth
  pub reads : (bytes : List ℕ) → c.reads ≡ Some bytes → IsContent bytes
  pub before : IsContent c.before

pub record IsWaiting (w : Waiting) : Type 0 where
  pub index : w.index < sectors
  pub was : IsCell w.was

pub record IsFace (f : Face) : Type 0 where
  pub count : length f.cells ≡ sectors
  pub cells : All IsCell f.cells
  pub waiting : All IsWaiting f.waiting

-- ---- what a call leaves

pub data Call : Type 0 where
  Write : (index : ℕ) (bytes : List ℕ) → Call
  Sync : Call

-- those that wait, with one more unless it waits already
abbrev pub noted : List Waiting → ℕ → Cell → List Waiting
noted ws i was = if waits i ws then ws else ws ++ record { index = i; was = was } ∷ []

abbrev pub written : Cell → List ℕ → Cell
written c bytes = record { truth = bytes; reads = Some bytes; before = c.truth }

abbrev pub after : Face → Call → Face
after f (Write i bytes) = record { cells = slice_set f.cells i (written (cell f i) bytes); waiting = noted f.waiting i (cell f i) }
after f Sync = record { cells = f.cells; waiting = [] }

abbrev pub after_all : Face → List Call → Face
after_all f [] = f
after_all f (c ∷ cs) = after_all (after f c) cs

-- ---- what a stop leaves

abbrev pub damaged : List ℕ → List ℕ
damaged bytes = map (λ b. bit_xor b 255) bytes

-- a sector that waited is old, new or damaged, by a digit
abbrev pub settled_cell : ℕ → Cell → Cell → Cell
settled_cell digit was now =
    if digit == 0 then was
    else (if digit == 1 then record { truth = now.truth; reads = Some now.truth; before = now.before }
    else record { truth = damaged now.truth; reads = Some (damaged now.truth); before = now.before })

-- those that wait are settled by the digits of the code in base 3, the lowest first
abbrev pub settled : ℕ → List Waiting → List Cell → List Cell
settled code [] cells = cells
settled code (w ∷ ws) cells =
    settled (code / 3) ws (slice_set cells w.index (settled_cell (code % 3) w.was (slice_index_or cells w.index blank)))

abbrev pub settle : ℕ → Face → Face
settle code f = record { cells = settled code f.waiting f.cells; waiting = [] }

-- the digit of the code by which a sector that waits is settled, 0 where it doesn't wait
unfoldable pub digit_at : ℕ → ℕ → List Waiting → ℕ
digit_at code i [] = 0
digit_at code i (w ∷ ws) = if w.index == i then code % 3 else digit_at (code / 3) i ws

-- a stop at a call: where that is a write, its sector counts among those that wait
abbrev pub begun : Face → Call → Face
begun f (Write i bytes) = after f (Write i bytes)
begun f Sync = f

abbrev pub cut_at : ℕ → Face → Call → Face
cut_at code f c = settle code (begun f c)

-- a stop at the call that comes after j others; past the last call nothing is cut
unfoldable pub cut : ℕ → ℕ → Face → List Call → Face
cut j code f [] = f
cut zero code f (c ∷ cs) = cut_at code f c
cut (suc j) code f (c ∷ cs) = cut j code (after f c) cs

-- ---- which calls go through

-- it lets so many writes and syncs through, and cuts the next one
pub record Fuse : Type 0 where
  pub calls : ℕ
  pub code : ℕ

pub record Fate : Type 0 where
  pub fuse : Option Fuse
  pub made : ℕ  -- the calls of attach, write and sync made since the next list was given
  pub failing : List ℕ  -- the numbers of those that fail, counted from 1
  pub dead : Bool  -- the fuse has cut a call: each later one fails

-- the number of the next call
abbrev pub next_number : Fate → ℕ
next_number t = min (t.made + 1) (2 ^ 64 - 1)

abbrev pub counted : Fate → Fate
counted t = record { fuse = t.fuse; made = next_number t; failing = t.failing; dead = t.dead }

abbrev pub is_to_fail : Fate → Bool
is_to_fail t = list_any (λ n. n == next_number t) t.failing

-- what becomes of a call
pub data CallVerdict : Type 0 where
  Goes : CallVerdict
  Fails : CallVerdict
  Cuts : (code : ℕ) → CallVerdict

pub record Judged : Type 0 where
  pub verdict : CallVerdict
  pub next : Fate

abbrev pub by_list : Fate → CallVerdict
by_list t = if is_to_fail t then Fails else Goes

abbrev pub judged_armed : Fate → ℕ → ℕ → Judged
judged_armed t code zero = record { verdict = Cuts code; next = record { fuse = None; made = next_number t; failing = t.failing; dead = true } }
judged_armed t code (suc calls) =
    record { verdict = by_list t; next = record { fuse = Some (record { calls = calls; code = code }); made = next_number t; failing = t.failing; dead = t.dead } }

abbrev pub judged_fuse : Fate → Option Fuse → Judged
judged_fuse t None = record { verdict = by_list t; next = counted t }
judged_fuse t (Some u) = judged_armed t u.code u.calls

-- a write or a sync
abbrev pub judged : Fate → Judged
judged t = if t.dead then record { verdict = Fails; next = counted t } else judged_fuse t t.fuse

-- ---- a disk that tells what it holds

-- what a disk keeps beside its sectors, row by row, and what a call leaves of that; and the name by which it was attached last
pub record Beside : Type 0 where
  pub rows : List (Option (List ℕ))
  pub next : Face → Call → CallVerdict → List (Option (List ℕ)) → List (Option (List ℕ))
  pub name : Option (List ℕ)

-- no row, and this name
abbrev pub name_beside : Option (List ℕ) → Beside
name_beside name = record { rows = []; next = λ f c v rows. rows; name = name }

abbrev pub nothing_beside : Beside
nothing_beside = name_beside None

-- a write or a sync leaves the name
abbrev pub beside_after : Beside → Face → Call → CallVerdict → Beside
beside_after b f c v = record { rows = b.next f c v b.rows; next = b.next; name = b.name }

pub record Disk : Type 0 where
  pub face : Face
  pub fate : Fate
  pub beside : Beside

-- what calls left, and whether all went well
pub record Ran : Type 0 where
  pub disk : Disk
  pub ok : Bool

abbrev pub ran_as : Face → Fate → Beside → Call → CallVerdict → Ran
ran_as f t b c Goes = record { disk = record { face = after f c; fate = t; beside = beside_after b f c Goes }; ok = true }
ran_as f t b c Fails = record { disk = record { face = f; fate = t; beside = b }; ok = false }
ran_as f t b c (Cuts code) = record { disk = record { face = cut_at code f c; fate = t; beside = beside_after b f c (Cuts code) }; ok = false }

-- one call
unfoldable pub ran : Disk → Call → Ran
ran d c = ran_as d.face (judged d.fate).next d.beside c (judged d.fate).verdict

-- calls one after another, up to the first that doesn't go well
abbrev pub goes_on : Ran → (Disk → Ran) → Ran
goes_on r f = if r.ok then f r.disk else r

abbrev pub runs : List Call → Disk → Ran
runs [] d = record { disk = d; ok = true }
runs (c ∷ cs) d = goes_on (ran d c) (runs cs)

-- the most bytes of a name
abbrev pub name_most : ℕ
name_most = 4095

-- an attach by this name fails: the fuse has cut a call, or it is among those that fail, or the name is too long
abbrev pub attach_fails : List ℕ → Disk → Bool
attach_fails name d = (d.fate.dead || is_to_fail d.fate) || nat_lt name_most (length name)

-- attaching is a barrier: after it no sector waits
abbrev pub attached_as : List ℕ → Disk → Bool → Ran
attached_as name d true = record { disk = record { face = d.face; fate = counted d.fate; beside = d.beside }; ok = false }
attached_as name d false = record { disk = record { face = after d.face Sync; fate = counted d.fate; beside = record d.beside { name = Some name } }; ok = true }

unfoldable pub attached : List ℕ → Disk → Ran
attached name d = attached_as name d (attach_fails name d)

-- ---- clauses of calls, on a disk that may tell

-- these calls were made, up to the first that didn't go well
abbrev pub Runs : List Call → Option Disk → Option Disk → Bool → Type 0
Runs cs None new ok = new ≡ None
Runs cs (Some d) new ok = (new ≡ Some (runs cs d).disk) × (ok ≡ (runs cs d).ok)

-- of calls that depend on what the disk holds
abbrev pub RunsFrom : (Face → List Call) → Option Disk → Option Disk → Bool → Type 0
RunsFrom cs None new ok = new ≡ None
RunsFrom cs (Some d) new ok = (new ≡ Some (runs (cs d.face) d).disk) × (ok ≡ (runs (cs d.face) d).ok)

-- some of the calls were made, from the first on, and all went well
pub record Front (cs : List Call) (old new : Option Disk) : Type 0 where
  pub made : List Call
  pub left : List Call
  pub whole : cs ≡ made ++ left
  pub ran : Runs made old new true

-- it was attached by this name
abbrev pub Attaches : List ℕ → Option Disk → Option Disk → Bool → Type 0
Attaches name None new ok = new ≡ None
Attaches name (Some d) new ok = (new ≡ Some (attached name d).disk) × (ok ≡ (attached name d).ok)

-- a read changes nothing, and gives what the sector reads as
abbrev pub ReadsTo : ℕ → Option Disk → Option (List ℕ) → Type 0
ReadsTo i None given = Unit {0}
ReadsTo i (Some d) given = reads d.face i ≡ given

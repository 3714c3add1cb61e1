-- The text of a table: how many entries, in two bytes, then each entry's text, by ascending keys.
use Rattle.std.specs.Prelude.{◌≡◌, ◌≢◌, ℕ, zero, suc, ◌<◌, ◌≤◌, List, [], ◌∷◌, ◌++◌, length, Option, Result, Ok, Err, nat_lt, if◌then◌else◌}
use Rattle.std.specs.List.{flat_map, AllByRecursion}
use Rattle.std.specs.Option.{option_map_or}
use Rattle.std.specs.Int.{w16}
use Rattle.std.specs.declared.cmp.Ordering.{Ordering}
use Rattle.vr_state.specs.declared.fault.StateFault.{StateFault}
use Rattle.vr_state.specs.declared.fault.StateFault.TheVariants.{Torn, NotSorted, TooMany, NoMemory}
use Rattle.std.specs.FinMap.Entries.{is_sorted}
use Rattle.vr_state.specs.Finite.{IsMap}
use Rattle.vr_base.specs.Bytes.{bytes16}
use Rattle.vr_state.specs.Front.{number_from}

-- the count that the bytes begin with, and the bytes after it
unfoldable pub count_from : ℕ → List ℕ → Result (ℕ × List ℕ) StateFault
count_from limit bytes =
    option_map_or (λ r. if nat_lt limit r.0 then Err TooMany else Ok (r.0, r.1)) (number_from w16 bytes) (Err Torn)

-- of entries whose text is `text`
unfoldable pub table_text : {E : Type 0} → (E → List ℕ) → List E → List ℕ
table_text text es = bytes16 (length es) ++ flat_map text es

-- of entries whose keys have this order; `read` gives the entry that bytes begin with
module _ {K V : Type 0} (order : K → K → Ordering) (read : List ℕ → Option ((K × V) × List ℕ)) where
  -- so many more entries are read after those that are done
  unfoldable pub read_on : ℕ → List (K × V) → List ℕ → Result (List (K × V)) StateFault
  read_on zero done [] = Ok done
  read_on zero done (b ∷ rest) = Err Torn
  read_on (suc n) done bytes =
      option_map_or (λ r. if is_sorted order (done ++ r.0 ∷ []) then read_on n (done ++ r.0 ∷ []) r.1 else Err NotSorted) (read bytes) (Err Torn)

  -- a count that was read is followed by so many entries and nothing else
  abbrev pub counted : Result (ℕ × List ℕ) StateFault → Result (List (K × V)) StateFault
  counted (Ok r) = read_on r.0 [] r.1
  counted (Err fault) = Err fault

  -- the entries of a table's text, or the first fault
  unfoldable pub decoded : ℕ → List ℕ → Result (List (K × V)) StateFault
  decoded limit bytes = counted (count_from limit bytes)

-- what the words above come to. `Fits` says that an entry is of its form
module _ {K V : Type 0} (order : K → K → Ordering) (text : K × V → List ℕ) (Fits : K × V → Type 0) (limit : ℕ) (bytes : List ℕ) where
  -- the bytes begin with a count that is not above the limit and with the text of the map es, and go on with rest
  pub record BeginsWith (count : ℕ) (es : List (K × V)) (rest : List ℕ) : Type 0 where
    pub whole : bytes ≡ bytes16 count ++ (flat_map text es ++ rest)
    pub few : count ≤ limit
    pub is_map : IsMap order es
    pub fit : AllByRecursion Fits es

  -- the first thing from the front for which the bytes are no table's text
  pub data FirstFault : StateFault → Type 0 where
    no_count : length bytes < 2 → FirstFault Torn
    too_many : (count : ℕ) (rest : List ℕ) → bytes ≡ bytes16 count ++ rest → limit < count → FirstFault TooMany
    torn_entry : (count : ℕ) (es : List (K × V)) (rest : List ℕ) → BeginsWith count es rest → length es < count
        → ((e : K × V) (after : List ℕ) → Fits e → rest ≢ text e ++ after) → FirstFault Torn
    lower_key : (count : ℕ) (es : List (K × V)) (e : K × V) (after : List ℕ) → BeginsWith count es (text e ++ after) → length es < count
        → Fits e → ¬ (IsMap order (es ++ e ∷ [])) → FirstFault NotSorted
    left_over : (es : List (K × V)) (rest : List ℕ) → BeginsWith (length es) es rest → rest ≢ [] → FirstFault Torn

  -- the bytes are the text of the map es, which is not above the limit
  pub record IsTextOf (es : List (K × V)) : Type 0 where
    pub spelled : bytes ≡ table_text text es
    pub no_more : length es ≤ limit
    pub ascending : IsMap order es
    pub fitting : AllByRecursion Fits es

  -- the map whose text the bytes are, or why they are none
  abbrev pub IsJudged : Result (List (K × V)) StateFault → Type 0
  IsJudged (Ok es) = IsTextOf es
  IsJudged (Err fault) = FirstFault fault

  -- the fault is the first, or it is want of memory
  abbrev pub IsFirstFault : StateFault → Type 0
  IsFirstFault Torn = FirstFault Torn
  IsFirstFault NotSorted = FirstFault NotSorted
  IsFirstFault TooMany = FirstFault TooMany
  IsFirstFault NoMemory = Unit {0}

-- the fault is this answer's, or it is want of memory
abbrev pub IsOrNoMemory : {A : Type 0} → Result A StateFault → StateFault → Type 0
IsOrNoMemory r Torn = r ≡ Err Torn
IsOrNoMemory r NotSorted = r ≡ Err NotSorted
IsOrNoMemory r TooMany = r ≡ Err TooMany
IsOrNoMemory r NoMemory = Unit {0}

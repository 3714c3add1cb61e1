-- A finite map, as the list of its entries with ascending keys. Two such lists that give each key the same value are
-- one list, so the list is the map. The words `find` and `put` are the library's.
use Rattle.std.specs.Prelude.{ℕ, List, not, IsTrue}
use Rattle.std.specs.Ordering.{nat_cmp, eq_by_cmp}
use Rattle.std.specs.declared.cmp.Ordering.{Ordering}
use Rattle.std.specs.Cmp.Lexicographic.{slice_cmp}
use Rattle.std.specs.FinMap.Entries.{is_sorted, where_key}

-- bytes, as they stand in a dictionary
abbrev pub byte_order : List ℕ → List ℕ → Ordering
byte_order = slice_cmp nat_cmp

module _ {K V : Type 0} (order : K → K → Ordering) where
  -- the entries but for that of the key
  abbrev pub without : K → List (K × V) → List (K × V)
  without k es = where_key order (λ x. not (eq_by_cmp order k x)) es

  -- each key stands above the one before it
  abbrev pub IsMap : List (K × V) → Type 0
  IsMap es = IsTrue (is_sorted order es)

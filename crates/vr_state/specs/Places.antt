-- Places in a list of entries with ascending keys.
use Rattle.std.specs.Prelude.{◌≡◌, ℕ, ◌<◌, ◌≤◌, List, length, slice_index_or}
use Rattle.std.specs.declared.cmp.Ordering.{Ordering}
use Rattle.std.specs.declared.cmp.Ordering.TheVariants.{Less, Equal, Greater}

module _ {K V : Type 0} (order : K → K → Ordering) (key : K) (es : List (K × V)) (i : ℕ) where
  -- the entry at place i has the key
  pub record IsAt : Type 0 where
    pub in_range : i < length es
    pub has_key : (d : K × V) → order (slice_index_or es i d).0 key ≡ Equal

  -- the key would stand at place i
  pub record IsGap : Type 0 where
    pub in_range : i ≤ length es
    pub below : (j : ℕ) (d : K × V) → j < i → order (slice_index_or es j d).0 key ≡ Less
    pub above : (j : ℕ) (d : K × V) → i ≤ j → j < length es → order (slice_index_or es j d).0 key ≡ Greater

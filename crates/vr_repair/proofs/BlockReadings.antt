-- A block that a replica reads.
use Rattle.vr_ckpt.specs.Places.{grid_size}
use Rattle.std.proofs.Common.{ℕ, ◌≡◌, ◌≤◌, ◌<◌, refl, Bool, cond, List, Option, Some, None, is_some}
use Rattle.std.specs.Prelude.{IfSome}
use Rattle.std.proofs.lemmas.Bool.{le-ltb, lt-ltb}
use Rattle.vr_disk.specs.DiskState.{Disk, Face}
use Rattle.vr_disk.specs.Regions as region
use Rattle.vr_disk.specs.Sectors.{together}
use Rattle.vr_ckpt.specs.Blocks.{named}
use Rattle.vr_ckpt.specs.Grid.{block_reading, named_at}
use Rattle.vr_ckpt.specs.declared.name.Name.{Name}
use Rattle.vr_rules.specs.Rules.{block_at}
use Rattle.vr_rules.specs.Sectors.{block_in}
use Rattle.vr_rules.specs.Does.{Finds}

past_grid : (f : Face) (name : Name) → grid_size ≤ name.address → None ≡ block_in f name
unfolding named_at
past_grid f name l = rw (le-ltb name.address grid_size l) refl

unread : (f : Face) (name : Name) → name.address < grid_size → together (region.block_place name.address) 8 f ≡ None → None ≡ block_in f name
unfolding named_at block_reading
unread f name l e = rw (lt-ltb name.address grid_size l, e) refl

as_named : (f : Face) (name : Name) (b : List ℕ) (whole : Bool) → name.address < grid_size → together (region.block_place name.address) 8 f ≡ Some b → whole ≡ is_some (named name b) → cond whole (Some b) None ≡ block_in f name
unfolding named_at block_reading
as_named f name b whole l e w = rw (lt-ltb name.address grid_size l, e, w) refl

module _ (name : Name) (d d' : Option Disk) (same : d' ≡ d) where
  pub block_past : grid_size ≤ name.address → (v : ℕ) → Finds v (block_at name) d d' None
  block_past l v = elim d as (λ x. d' ≡ x → Finds v (block_at name) x d' None) [ None ↦ λ s. record { same = s; value = tt } | Some y ↦ λ s. record { same = s; value = past_grid y.face name l } ] same

  pub block_unread : name.address < grid_size → IfSome d (λ y. together (region.block_place name.address) 8 y.face ≡ None) → (v : ℕ) → Finds v (block_at name) d d' None
  block_unread l read v = elim d as (λ x. d' ≡ x → IfSome x (λ (y : Disk). together (region.block_place name.address) 8 y.face ≡ None) → Finds v (block_at name) x d' None) [
    | None ↦ λ s r. record { same = s; value = tt }
    | Some y ↦ λ s r. record { same = s; value = unread y.face name l r }
  ] same read

  pub block_as : (b : List ℕ) (whole : Bool) → name.address < grid_size → IfSome d (λ y. together (region.block_place name.address) 8 y.face ≡ Some b) → whole ≡ is_some (named name b) → (v : ℕ) → Finds v (block_at name) d d' (cond whole (Some b) None)
  block_as b whole l read w v = elim d as (λ x. d' ≡ x → IfSome x (λ (y : Disk). together (region.block_place name.address) 8 y.face ≡ Some b) → Finds v (block_at name) x d' (cond whole (Some b) None)) [
    | None ↦ λ s r. record { same = s; value = tt }
    | Some y ↦ λ s r. record { same = s; value = as_named y.face name b whole l r w }
  ] same read

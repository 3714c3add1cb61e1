-- What a disk opens as, beside what the sectors of a file of one version open as.
use Rattle.std.proofs.Common.{ℕ, ◌≡◌, ◌∙◌, refl, sym, ap, cond, true, false, Option, Some, None}
use Rattle.std.specs.Prelude.{not, ◌==◌}
use Rattle.std.specs.Option.{option_and_then}
use Rattle.std.proofs.lemmas.Bool.{eq-eqb, eqb-true}
use Rattle.vr_disk.specs.DiskState.{Face}
use Rattle.vr_super.specs.Copies.{SuperValue}
use Rattle.vr_super.specs.Opens as superblock
use Rattle.vr_rules.specs.Sectors.{of_version, sectors_by}
use Rattle.vr_opening.specs.Recovering.{opens, opens_as, runs_as}

-- where any version serves, every value opens
any_opens : (o : Option SuperValue) → option_and_then (runs_as None) o ≡ o
any_opens None = refl
any_opens (Some w) = refl

some_by : (o : Option SuperValue) (v : SuperValue) → option_and_then (runs_as None) o ≡ Some v → option_and_then (of_version v.fields.version) o ≡ Some v
some_by None v e = absurd cc
some_by (Some w) v e =
    let same : w ≡ v = cc in
    rw (eq-eqb w.fields.version v.fields.version (ap (λ (x : SuperValue). x.fields.version) same)) e

by_some : (edition : ℕ) (o : Option SuperValue) (v : SuperValue) → option_and_then (of_version edition) o ≡ Some v → (option_and_then (runs_as None) o ≡ Some v) × (v.fields.version ≡ edition)
by_some edition None v e = absurd cc
by_some edition (Some w) v e =
    elim (w.fields.version == edition) as (λ t. (w.fields.version == edition) ≡ t → cond t (Some w) None ≡ Some v → (Some w ≡ Some v) × (v.fields.version ≡ edition)) [
      | true ↦ λ t e. let same : w ≡ v = cc in (e, sym (ap (λ (x : SuperValue). x.fields.version) same) ∙ eqb-true w.fields.version edition t)
      | false ↦ λ t e. absurd cc
    ] refl e

-- the value that a disk opens as is the one that the sectors of a file of its version open as
pub opens_by : (f : Face) (v : SuperValue) → opens f ≡ Some v → (sectors_by v.fields.version).opens f ≡ Some v
opens_by f v e = some_by (superblock.opens f) v e

-- and the other way
pub opens_from : (edition : ℕ) (f : Face) (v : SuperValue) → (sectors_by edition).opens f ≡ Some v → (opens f ≡ Some v) × (v.fields.version ≡ edition)
opens_from edition f v e = by_some edition (superblock.opens f) v e

-- where it opens as none, so do they
pub opens_none : (edition : ℕ) (f : Face) → opens f ≡ None → (sectors_by edition).opens f ≡ None
opens_none edition f e = ap (option_and_then (of_version edition)) (sym (any_opens (superblock.opens f)) ∙ e)

-- those of a version are those of its sectors
run_as : (edition : ℕ) (v : SuperValue) → runs_as (Some edition) v ≡ of_version edition v
run_as edition v =
    elim (v.fields.version == edition) as (λ t. cond (not t) None (Some v) ≡ cond t (Some v) None) [ true ↦ refl | false ↦ refl ]

pub opens_in : (edition : ℕ) (f : Face) → opens_as (Some edition) f ≡ (sectors_by edition).opens f
opens_in edition f = run_each (superblock.opens f)
  where
    run_each : (o : Option SuperValue) → option_and_then (runs_as (Some edition)) o ≡ option_and_then (of_version edition) o
    run_each None = refl
    run_each (Some v) = run_as edition v

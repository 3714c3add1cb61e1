-- The first value makes a good copy.
use Rattle.vr_base.specs.declared.kind.Kind.{Kind}
use Rattle.std.proofs.Common.{arith, ℕ, ◌≡◌, ◌<◌, ◌^◌, refl, true}
use Rattle.std.proofs.lemmas.Bool.{and_from, lt-ltb}
use Rattle.vr_base.proofs.AreBytes.{IsBytes-zeros}
use Rattle.vr_base.specs.Groups.{is_size}
use Rattle.vr_super.specs.Copies.{IsGood, good_fields, are_listed}
use Rattle.vr_rules.specs.Opening.{IsKind, first_value}

pub first_good : (kind : Kind) (cluster n index : ℕ) → IsKind kind → cluster < 2 ^ 64 → index < 256 → n < 256 → is_size kind.version n ≡ true → index < n → IsGood (first_value kind cluster n index)
unfolding good_fields are_listed
first_good kind cluster n index v c i k s m = record {
  numbers = record {
    sequence = omega arith;
    cluster = c;
    view = omega arith;
    log_view = omega arith;
    checkpoint = omega arith;
    root_address = omega arith;
    root_name = refl;
    root_name_bytes = IsBytes-zeros 16;
    commit = omega arith;
    head = omega arith;
    replica = i;
    n = k;
    version = v;
  };
  fields = and_from _ _ (and_from _ _ s (and_from _ _ (lt-ltb index n m) refl)) refl;
  each = tt;
  listed = refl;
}

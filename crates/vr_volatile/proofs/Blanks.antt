-- How much a replica's lists begin with.
use Rattle.std.proofs.Common.{arith, ℕ, ◌%◌, ◌≤◌, ◌<◌, ◌+◌, ◌-◌, ◌^◌, length, min}
use Rattle.std.specs.Prelude.{nat_le, ◌&&◌, ◌==◌}
use Rattle.std.proofs.lemmas.Bool.{and_parts, leb-true}
use Rattle.vr_super.specs.Copies.{SuperValue, IsGood, good_fields, good_member, good_window, good_root, good_count}
use Rattle.vr_rules.specs.Opening.{first_listed}

-- the numbers of a value that makes a good copy, whatever its group's size
pub record Sizes (v : SuperValue) : Type 0 where
  pub few : length v.headers ≤ v.fields.head
  pub top : v.fields.head ≤ 2 ^ 62
  pub list : length v.headers ≤ 64
  pub low : v.fields.checkpoint ≤ v.fields.head
  pub near : v.fields.head ≤ v.fields.checkpoint + 64
  pub all : v.fields.head - v.fields.checkpoint ≤ length v.headers

pub value_bounds : (v : SuperValue) → IsGood v → Sizes v
unfolding good_fields
value_bounds v g =
    let f = v.fields in
    let n : ℕ = length v.headers in
    let a = and_parts (good_member f) _ g.fields in
    let b = and_parts (good_window f) _ a.1 in
    let c = and_parts (good_root f) (good_count f n) b.1 in
    let w = and_parts (f.checkpoint % 32 == 0) _ b.0 in
    let w1 = and_parts (nat_le f.checkpoint f.commit && nat_le f.commit f.head) _ w.1 in
    let w2 = and_parts (nat_le f.checkpoint f.commit) (nat_le f.commit f.head) w1.0 in
    let w3 = and_parts (nat_le (f.head - f.checkpoint) 64) (nat_le f.head (2 ^ 62)) w1.1 in
    let k = and_parts (nat_le (f.head - f.checkpoint) n && nat_le (min f.head 1) n) _ c.1 in
    let k1 = and_parts (nat_le (f.head - f.checkpoint) n) (nat_le (min f.head 1) n) k.0 in
    let k2 = and_parts (nat_le n f.head) (nat_le n 64) k.1 in
    let low = leb-true f.checkpoint f.commit w2.0 in
    let high = leb-true f.commit f.head w2.1 in
    let near = leb-true (f.head - f.checkpoint) 64 w3.0 in
    record {
      few = leb-true n f.head k2.0;
      top = leb-true f.head (2 ^ 62) w3.1;
      list = leb-true n 64 k2.1;
      low = omega arith;
      near = omega arith;
      all = leb-true (f.head - f.checkpoint) n k1.0;
    }

pub record Room (v : SuperValue) : Type 0 where
  pub window : v.fields.checkpoint + 65 - first_listed v ≤ 128
  pub reach : first_listed v ≤ v.fields.checkpoint + 65
  pub number : v.fields.checkpoint + 65 < 2 ^ 63

pub blank_room : (v : SuperValue) → IsGood v → Room v
blank_room v g =
    let w = value_bounds v g in
    let few = w.few in
    let list = w.list in
    let low = w.low in
    let near = w.near in
    let all = w.all in
    let top = w.top in
    record { window = omega arith; reach = omega arith; number = omega arith }

-- Scripts whose saves make good copies, and what is made of them.
use Rattle.std.proofs.Common.{arith, ◌≡◌, ◌≤◌, ◌<◌, ◌+◌, ◌^◌, refl, ap, ℕ, zero, suc, Bool, true, false, cond, List, [], ◌∷◌, map}
use Rattle.std.specs.Prelude.{All}
use Rattle.std.proofs.lemmas.List.Elements.{All-nil, All-cons, All-append, All-map}
use Rattle.vr_base.specs.Replicas.{no_replicas}
use Rattle.vr_state.specs.Folds.{empty}
use Rattle.vr_ckpt.specs.Places as places
use Rattle.vr_msg.specs.declared.output.Output.{Output}
use Rattle.vr_super.specs.Copies.{IsGood}
use Rattle.vr_rules.specs.Replica.{Replica, head, part_at}
use Rattle.vr_rules.specs.Steps.{Effect, Say, Setting, Word, ◌⨾◌, quiet, change, does, says, by, naming, reading, when, times, each, after_all}
use Rattle.vr_rules.specs.Words.{save, saves, with_saved, value_of}
use Rattle.vr_rules.specs.Sound.{IsSound, IsSavable}
use Rattle.vr_rules.specs.Laws.{IsGoodSave}
use Rattle.vr_rules.proofs.Combining.{Keeps}
use Rattle.vr_rules.proofs.Wording.{keeps_save}
use Rattle.vr_rules.proofs.SavesCore.{value_is_good}

-- it may be saved so often, in views below v
pub record Well (v n : ℕ) (r : Replica) : Type 0 where
  pub sound : IsSound r
  pub savable : IsSavable r
  pub view : r.view < v
  pub room : r.saved.fields.sequence + n < 2 ^ 64

pub record GoodBy {F : Type 0} (v n : ℕ) (w : Word F) (s : Setting F) (r : Replica) (f : F) : Type 0 where
  pub saves : All IsGoodSave (w s r f).script
  pub well : Well v n (w s r f).replica

-- of every replica that may be saved c times more
pub record Good {F : Type 0} (v c : ℕ) (w : Word F) (s : Setting F) : Type 0 where
  pub every : (n : ℕ) (r : Replica) (f : F) → Well v (n + c) r → GoodBy v n w s r f

pub well_less : (v n m : ℕ) (r : Replica) → n ≤ m → Well v m r → Well v n r
well_less v n m r l h = let room : r.saved.fields.sequence + m < 2 ^ 64 = h.room in record { sound = h.sound; savable = h.savable; view = h.view; room = omega arith }

-- ---- changes of other fields

abbrev pub body : Replica → Replica
body r = record r {
  commit = 0;
  applied = 0;
  table = places.empty;
  state = empty;
  missing = [];
  ackers = [];
  heard = no_replicas;
  statements = [];
  idle = 0;
  turn = 0;
  cursor = 0;
  worn = [];
}

into_body : (r : Replica) → IsSavable r → IsSavable (body r)
unfolding head part_at
into_body r h = record { cluster = h.cluster; view = h.view; log_view = h.log_view; address = h.address; name = h.name; none = h.none; saved = h.saved; top = h.top }

from_body : (r : Replica) → IsSavable (body r) → IsSavable r
unfolding head part_at
from_body r h = record { cluster = h.cluster; view = h.view; log_view = h.log_view; address = h.address; name = h.name; none = h.none; saved = h.saved; top = h.top }

pub savable_alike : (r q : Replica) → body q ≡ body r → IsSavable r → IsSavable q
savable_alike r q e h = from_body q (rw e (into_body r h))

pub well_alike : (v n : ℕ) (r q : Replica) → body q ≡ body r → q.saved ≡ r.saved → IsSound q → Well v n r → Well v n q
well_alike v n r q e same sound h =
    let view : q.view ≡ r.view = ap (λ (x : Replica). x.view) e in
    let below : r.view < v = h.view in
    let number : q.saved.fields.sequence ≡ r.saved.fields.sequence = ap (λ x. x.fields.sequence) same in
    let room : r.saved.fields.sequence + n < 2 ^ 64 = h.room in
    record { sound = sound; savable = savable_alike r q e h.savable; view = omega arith; room = omega arith }

pub savable_saved : (r : Replica) → IsSavable r → IsGood (value_of r) → IsSavable (with_saved r)
unfolding head part_at
savable_saved r h g = record { cluster = h.cluster; view = h.view; log_view = h.log_view; address = h.address; name = h.name; none = h.none; saved = g; top = h.top }

module _ {F : Type 0} (v : ℕ) (s : Setting F) where
  -- ---- at one replica

  pub good_then : (m n : ℕ) (a b : Word F) (r : Replica) (f : F) → GoodBy v m a s r f → ((q : Replica) (d : F) → Well v m q → GoodBy v n b s q d) → GoodBy v n (a ⨾ b) s r f
  unfolding ◌⨾◌
  good_then m n a b r f h k =
      let x = a s r f in
      let p = k x.replica (after_all s f x.script) h.well in
      record { saves = All-append IsGoodSave x.script (b s x.replica (after_all s f x.script)).script h.saves p.saves; well = p.well }

  pub good_then_at : (n : ℕ) (a b : Word F) (r : Replica) (f : F) → All IsGoodSave (a s r f).script → GoodBy v n b s (a s r f).replica (after_all s f (a s r f).script) → GoodBy v n (a ⨾ b) s r f
  unfolding ◌⨾◌
  good_then_at n a b r f h p =
      let x = a s r f in
      record { saves = All-append IsGoodSave x.script (b s x.replica (after_all s f x.script)).script h p.saves; well = p.well }

  pub good_change_then : (n : ℕ) (g : Replica → Replica) (w : Word F) (r : Replica) (f : F) → ((d : F) → GoodBy v n w s (g r) d) → GoodBy v n (change g ⨾ w) s r f
  unfolding ◌⨾◌ change
  good_change_then n g w r f k = let p = k (after_all s f []) in record { saves = p.saves; well = p.well }

  pub good_says_then : (n : ℕ) (os : Replica → List Output) (w : Word F) (r : Replica) (f : F) → ((d : F) → GoodBy v n w s r d) → GoodBy v n (says os ⨾ w) s r f
  unfolding ◌⨾◌ says
  good_says_then n os w r f k =
      let p = k (after_all s f (map Say (os r))) in
      record { saves = All-append IsGoodSave (map Say (os r)) _ (All-map IsGoodSave Say (os r) (λ k d l. tt)) p.saves; well = p.well }

  pub good_does_then : (n : ℕ) (e : Replica → Effect) (w : Word F) (r : Replica) (f : F) → IsGoodSave (e r) → ((d : F) → GoodBy v n w s r d) → GoodBy v n (does e ⨾ w) s r f
  unfolding ◌⨾◌ does
  good_does_then n e w r f g k =
      let p = k (after_all s f (e r ∷ [])) in
      record { saves = All-cons IsGoodSave (e r) _ g p.saves; well = p.well }

  pub good_change : (n : ℕ) (g : Replica → Replica) (r : Replica) (f : F) → Well v n (g r) → GoodBy {F = F} v n (change g) s r f
  unfolding change
  good_change n g r f h = record { saves = All-nil IsGoodSave; well = h }

  pub good_quiet : (n : ℕ) (r : Replica) (f : F) → Well v n r → GoodBy {F = F} v n quiet s r f
  unfolding quiet
  good_quiet n r f h = record { saves = All-nil IsGoodSave; well = h }

  pub good_by : (n : ℕ) (w : Replica → Word F) (r : Replica) (f : F) → GoodBy v n (w r) s r f → GoodBy v n (by w) s r f
  unfolding by
  good_by n w r f h = record { saves = h.saves; well = h.well }

  pub good_naming : (n : ℕ) (w : (List ℕ → List ℕ) → Word F) (r : Replica) (f : F) → GoodBy v n (w s.hash) s r f → GoodBy v n (naming w) s r f
  unfolding naming
  good_naming n w r f h = record { saves = h.saves; well = h.well }

  pub good_reading : {X : Type 0} (n : ℕ) (g : Setting F → F → X) (w : X → Word F) (r : Replica) (f : F) → GoodBy v n (w (g s f)) s r f → GoodBy v n (reading g w) s r f
  unfolding reading
  good_reading n g w r f h = record { saves = h.saves; well = h.well }

  pub good_if : (n : ℕ) (b : Bool) (x y : Word F) (r : Replica) (f : F) → (b ≡ true → GoodBy v n x s r f) → (b ≡ false → GoodBy v n y s r f) → GoodBy v n (cond b x y) s r f
  good_if n true x y r f h k = h refl
  good_if n false x y r f h k = k refl

  pub good_when : (n : ℕ) (b : Bool) (w : Word F) (r : Replica) (f : F) → Well v n r → (b ≡ true → GoodBy v n w s r f) → GoodBy v n (when b w) s r f
  good_when n b w r f h k = good_if n b w quiet r f k (λ e. good_quiet n r f h)

  -- ---- at every one

  pub goods_more : (a c : ℕ) (w : Word F) → a ≤ c → Good v a w s → Good v c w s
  goods_more a c w l h = record { every = λ n r f k. h.every n r f (well_less v (n + a) (n + c) r (omega arith) k) }

  pub goods_then : (a c : ℕ) (x y : Word F) → Good v a x s → Good v c y s → Good v (a + c) (x ⨾ y) s
  goods_then a c x y h k = record {
    every = λ n r f w. good_then (n + c) n x y r f (h.every (n + c) r f (well_less v (n + c + a) (n + (a + c)) r (omega arith) w)) (λ q d z. k.every n q d z);
  }

  at_none : (n : ℕ) (r : Replica) → Well v (n + 0) r → Well v n r
  at_none n r h = well_less v n (n + 0) r (omega arith) h

  pub goods_quiet : Good {F = F} v 0 quiet s
  goods_quiet = record { every = λ n r f h. good_quiet n r f (at_none n r h) }

  pub goods_says : (os : Replica → List Output) → Good {F = F} v 0 (says os) s
  unfolding says
  goods_says os = record { every = λ n r f h. record { saves = All-map IsGoodSave Say (os r) (λ k d l. tt); well = at_none n r h } }

  pub goods_does : (e : Replica → Effect) → ((r : Replica) → IsGoodSave (e r)) → Good {F = F} v 0 (does e) s
  unfolding does
  goods_does e g = record { every = λ n r f h. record { saves = All-cons IsGoodSave (e r) [] (g r) (All-nil IsGoodSave); well = at_none n r h } }

  pub goods_reading : {X : Type 0} (c : ℕ) (g : Setting F → F → X) (w : X → Word F) → ((x : X) → Good v c (w x) s) → Good v c (reading g w) s
  goods_reading c g w h = record { every = λ n r f k. good_reading n g w r f ((h (g s f)).every n r f k) }

  -- a change of other fields, by a word that keeps a replica sound
  pub goods_change : (g : Replica → Replica) → Keeps {F = F} (change g) → ((r : Replica) → body (g r) ≡ body r) → ((r : Replica) → (g r).saved ≡ r.saved) → Good {F = F} v 0 (change g) s
  unfolding change
  goods_change g k e same = record {
    every = λ n r f h. record { saves = All-nil IsGoodSave; well = well_alike v n r (g r) (e r) (same r) (k.every s r f h.sound).kept.sound (at_none n r h) };
  }

  pub goods_by : (c : ℕ) (w : Replica → Word F) → ((r : Replica) → Good v c (w r) s) → Good v c (by w) s
  goods_by c w h = record { every = λ n r f k. good_by n w r f ((h r).every n r f k) }

  pub goods_naming : (c : ℕ) (w : (List ℕ → List ℕ) → Word F) → ((hash : List ℕ → List ℕ) → Good v c (w hash) s) → Good v c (naming w) s
  goods_naming c w h = record { every = λ n r f k. good_naming n w r f ((h s.hash).every n r f k) }

  pub goods_if : (c : ℕ) (b : Bool) (x y : Word F) → Good v c x s → Good v c y s → Good v c (cond b x y) s
  goods_if c true x y h k = h
  goods_if c false x y h k = k

  pub goods_when : (c : ℕ) (b : Bool) (w : Word F) → Good v c w s → Good v c (when b w) s
  goods_when c b w h = goods_if c b w quiet h (goods_more 0 c quiet (omega arith) goods_quiet)

  pub goods_times : (c : ℕ) (w : Word F) → Good v 1 w s → Good v c (times c w) s
  unfolding times
  goods_times zero w h = goods_quiet
  goods_times (suc c) w h = goods_more (1 + c) (suc c) (w ⨾ times c w) (omega arith) (goods_then 1 c w (times c w) h (goods_times c w h))

  pub goods_each : {X : Type 0} (w : X → Word F) (xs : List X) → ((x : X) → Good v 0 (w x) s) → Good v 0 (each w xs) s
  unfolding each
  goods_each w [] h = goods_quiet
  goods_each w (x ∷ xs) h = goods_more (0 + 0) 0 (w x ⨾ each w xs) (omega arith) (goods_then 0 0 (w x) (each w xs) (h x) (goods_each w xs h))

  -- ---- saving

  saved_well : (n : ℕ) (r : Replica) (f : F) → Well v (n + 1) r → Well v n (with_saved r)
  unfolding save does change ◌⨾◌ value_of
  saved_well n r f h =
      let room : r.saved.fields.sequence + (n + 1) < 2 ^ 64 = h.room in
      record { sound = (keeps_save.every s r f h.sound).kept.sound; savable = savable_saved r h.savable (value_is_good r h.sound h.savable (omega arith)); view = h.view; room = omega arith }

  pub goods_save : Good {F = F} v 1 save s
  unfolding save does change ◌⨾◌
  goods_save = record {
    every = λ n r f h.
        let room : r.saved.fields.sequence + (n + 1) < 2 ^ 64 = h.room in
        record {
          saves = All-cons IsGoodSave (saves r) [] (value_is_good r h.sound h.savable (omega arith)) (All-nil IsGoodSave);
          well = saved_well n r f h;
        };
  }

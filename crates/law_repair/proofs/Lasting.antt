-- The copies of the superblock, and the blocks of a checkpoint, along a step.
use Rattle.std.proofs.Common.{arith, ℕ, zero, suc, ◌+◌, ◌-◌, ◌*◌, ◌%◌, ◌≡◌, ◌≢◌, ◌<◌, ◌≤◌, ◌∙◌, inl, inr, refl, sym, ap, subst, Bool, true, false, cond, not, List, [], ◌∷◌, ◌++◌, length, Some}
use Rattle.std.specs.Prelude.{All, Contains, filter, nat_lt, slice_get, slice_index_or, ◌==◌}
use Rattle.std.proofs.lemmas.Bool.{cases_eq, cases_lt, eq-eqb, eqb-true, ltb-false, ltb-true, ne_eqb, true≢false}
use Rattle.std.proofs.lemmas.Nat.{mod-mul-add}
use Rattle.std.proofs.Math.Nat.{mod-eq_of_lt}
use Rattle.std.proofs.lemmas.List.{nil_from_length}
use Rattle.std.proofs.lemmas.List.Elements.{All-filter, All-head, All-tail, Contains-get_or}
use Rattle.vr_ckpt.specs.Places.{grid_size}
use Rattle.vr_ckpt.specs.declared.name.Name.{Name}
use Rattle.vr_super.specs.Copies.{IsGood, SuperValue}
use Rattle.vr_rules.specs.Laws.{IsGoodSave}
use Rattle.vr_rules.specs.Replica.{Replica}
use Rattle.vr_rules.specs.Rules as rules
use Rattle.vr_rules.specs.Steps.{Effect, Write, Rewrite, Save, Mend, Checkpoint, PutBlock, Say, Setting, Step, Word, ◌⨾◌, after_all}
use Rattle.vr_rules.specs.Words as words
use Rattle.vr_rules.proofs.Halves.{after_both}
use Rattle.law_repair.specs.Cover.{IsLaidOut, StandApart}
use Rattle.law_repair.proofs.Counting.{Around, around, idle_visit, loaded_on, now_same, visit_stays, walks_visit}
use Rattle.law_repair.proofs.Disks.{Stores}
use Rattle.law_repair.proofs.Dry.{fine_after}
use Rattle.law_repair.proofs.Holding.{Holds}
use Rattle.law_repair.proofs.Laying.{LoadsApart, all_names, nothing_apart, places_stand}
use Rattle.law_repair.proofs.Standing.{All-left, All-right, Chain, IsWornWell, SparesGrid, Standing, alike_blocks, chain_both, same_blocks, worn_stands}
use Rattle.law_repair.proofs.StandingRules.{FromLoad, Goes, fills, mends, moves, none, rests, some, unnamed, visits}
use Rattle.law_repair.proofs.Turning as turning
use Rattle.law_repair.proofs.Wearing.{Known, reads, visit_looked, worn}

-- ---- lists

pub All-one : {X : Type 0} (P : X → Type 0) (xs : List X) (x : X) → All P xs → Contains xs x → P x
All-one P xs x h c = subst P c.2 (h c.0 x c.1)

pub All-each : {X : Type 0} (P : X → Type 0) (xs : List X) → ((x : X) → Contains xs x → P x) → All P xs
All-each P xs h = λ k d l. h (slice_index_or xs k d) (Contains-get_or xs k d l)

pub got_is : {X : Type 0} (xs : List X) (k : ℕ) (x : X) → slice_get xs k ≡ Some x → Contains xs x
got_is [] k x e = absurd cc
got_is (y ∷ ys) zero x e = let same : y ≡ x = cc in (zero, omega arith, same)
got_is (y ∷ ys) (suc k) x e =
    let rest = got_is ys k x e in
    let lt = rest.1 in
    (suc rest.0, omega (arith, lt), rest.2)

pub is_got : {X : Type 0} (xs : List X) (k : ℕ) (x : X) → k < length xs → slice_index_or xs k x ≡ x → slice_get xs k ≡ Some x
is_got [] k x l e = absurd (omega (arith, l))
is_got (y ∷ ys) zero x l e = ap Some e
is_got (y ∷ ys) (suc k) x l e = is_got ys k x (omega (arith, l)) e

kept_in : {X : Type 0} (p : X → Bool) (xs : List X) (k : ℕ) (x : X) → k < length xs → slice_index_or xs k x ≡ x → p x ≡ true → Contains (filter p xs) x
kept_in p [] k x l e t = absurd (omega (arith, l))
kept_in p (y ∷ ys) zero x l e t = subst (λ b. Contains (cond b (y ∷ filter p ys) (filter p ys)) x) (sym (ap p e ∙ t)) (zero, omega arith, e)
kept_in p (y ∷ ys) (suc k) x l e t =
    let rest = kept_in p ys k x (omega (arith, l)) e t in
    let lt = rest.1 in
    elim (p y) as (λ b. Contains (cond b (y ∷ filter p ys) (filter p ys)) x) [ true ↦ (suc rest.0, omega (arith, lt), rest.2) | false ↦ rest ]

-- ---- blocks that are missing

pub missing_none : (r : Replica) → words.is_loaded r ≡ true → r.missing ≡ []
missing_none r t = nil_from_length r.missing (eqb-true (length r.missing) 0 t)

missing_some : (r : Replica) → words.is_loaded r ≡ false → r.missing ≢ []
missing_some r t e = true≢false (sym (ap (λ (ms : List Name). length ms == 0) e) ∙ t)

-- ---- a visit moves the cursor

pub has_moved : (r q : Replica) → q.cursor ≡ (words.place_now r + 1) % words.places r → q.cursor ≢ r.cursor
has_moved r q e same =
    let least : 65 ≤ words.places r = omega arith in
    elim (nat_lt r.cursor (words.places r)) as (λ b. nat_lt r.cursor (words.places r) ≡ b → q.cursor ≡ (cond b r.cursor 0 + 1) % words.places r → ⊥) [
      | true ↦ λ t x.
          let low = ltb-true r.cursor (words.places r) t in
          elim (cases_lt (r.cursor + 1) (words.places r)) [
            | inl under ↦ let p : (r.cursor + 1) % words.places r ≡ r.cursor + 1 = mod-eq_of_lt under in omega (arith, p, x, same)
            | inr last ↦
                let whole : r.cursor + 1 ≡ 1 * words.places r + 0 = omega (arith, low, last) in
                let p : (r.cursor + 1) % words.places r ≡ 0 = ap (λ k. k % words.places r) whole ∙ mod-mul-add 1 (words.places r) 0 (omega (arith, least)) in
                omega (arith, p, x, same, last, least)
          ]
      | false ↦ λ t x.
          let high = ltb-false r.cursor (words.places r) t in
          let p : (0 + 1) % words.places r ≡ 0 + 1 = mod-eq_of_lt (omega (arith, least)) in
          omega (arith, p, x, same, high, least)
    ] refl e

-- ---- the superblock

good_along : (es : List Effect) (v u : SuperValue) → Chain v es u → All IsGoodSave es → IsGood v → IsGood u
good_along [] v u c good g = subst IsGood c g
good_along (Write again e ∷ es) v u c good g = good_along es v u c (All-tail IsGoodSave (Write again e) es good) g
good_along (Rewrite h ∷ es) v u c good g = good_along es v u c (All-tail IsGoodSave (Rewrite h) es good) g
good_along (Save old new ∷ es) v u c good g = good_along es new u c (All-tail IsGoodSave (Save old new) es good) (All-head IsGoodSave (Save old new) es good)
good_along (Mend x ∷ es) v u c good g = good_along es v u c.1 (All-tail IsGoodSave (Mend x) es good) g
good_along (Checkpoint cluster texts op old ∷ es) v u c good g = good_along es v u c (All-tail IsGoodSave (Checkpoint cluster texts op old) es good) g
good_along (PutBlock name block ∷ es) v u c good g = good_along es v u c (All-tail IsGoodSave (PutBlock name block) es good) g
good_along (Say o ∷ es) v u c good g = good_along es v u c (All-tail IsGoodSave (Say o) es good) g

module _ {F : Type 0} (s : Setting F) (Fine : F → Type 0) (Copies : F → SuperValue → Type 0) (stores : Stores s Fine) (holds : Holds s Fine Copies) where
  copies_along : (es : List Effect) (v u : SuperValue) (f : F) → Chain v es u → All IsGoodSave es → IsGood v → Fine f → Copies f v → Copies (after_all s f es) u
  unfolding after_all
  copies_along [] v u f c good g fine h = subst (Copies f) c h
  copies_along (Write again e ∷ es) v u f c good g fine h =
      copies_along es v u (s.after f (Write again e)) c (All-tail IsGoodSave (Write again e) es good) g (stores.keeps f (Write again e) fine) (holds.copies f (Write again e) v tt h)
  copies_along (Rewrite x ∷ es) v u f c good g fine h = copies_along es v u (s.after f (Rewrite x)) c (All-tail IsGoodSave (Rewrite x) es good) g (stores.keeps f (Rewrite x) fine) (holds.copies f (Rewrite x) v tt h)
  copies_along (Save old new ∷ es) v u f c good g fine h =
      let one = All-head IsGoodSave (Save old new) es good in
      copies_along es new u (s.after f (Save old new)) c (All-tail IsGoodSave (Save old new) es good) one (stores.keeps f (Save old new) fine) (holds.saved f old new fine one)
  copies_along (Mend x ∷ es) v u f c good g fine h =
      let mended : Copies (s.after f (Mend x)) v = subst (Copies (s.after f (Mend x))) c.0 (holds.mended f x fine (subst IsGood (sym c.0) g)) in
      copies_along es v u (s.after f (Mend x)) c.1 (All-tail IsGoodSave (Mend x) es good) g (stores.keeps f (Mend x) fine) mended
  copies_along (Checkpoint cluster texts op old ∷ es) v u f c good g fine h =
      let e : Effect = Checkpoint cluster texts op old in
      copies_along es v u (s.after f e) c (All-tail IsGoodSave e es good) g (stores.keeps f e fine) (holds.copies f e v tt h)
  copies_along (PutBlock name block ∷ es) v u f c good g fine h =
      let e : Effect = PutBlock name block in
      copies_along es v u (s.after f e) c (All-tail IsGoodSave e es good) g (stores.keeps f e fine) (holds.copies f e v tt h)
  copies_along (Say o ∷ es) v u f c good g fine h = copies_along es v u (s.after f (Say o)) c (All-tail IsGoodSave (Say o) es good) g (stores.keeps f (Say o) fine) (holds.copies f (Say o) v tt h)

  -- a look at a place goes from the value that was saved to the same
  visit_chain : (r : Replica) (f : F) → let c = words.visit s r f in Chain r.saved c.script c.replica.saved
  visit_chain r f =
      elim (words.is_loaded r) as (λ b. words.is_loaded r ≡ b → Chain r.saved (words.visit s r f).script (words.visit s r f).replica.saved) [
        | true ↦ λ t. let looked = visit_looked s r f t in subst (Chain r.saved (words.visit s r f).script) (sym looked.saved) looked.chain
        | false ↦ λ t. subst (λ (x : Step). Chain r.saved x.script x.replica.saved) (sym (turning.unvisited s r f t)) refl
      ] refl

  chain_visits : (v w : Word F) (r : Replica) (f : F) → Standing v → Standing w → r.checkpoint ≤ r.applied → let x = (v ⨾ words.visit ⨾ w) s r f in Chain r.saved x.script x.replica.saved
  unfolding ◌⨾◌
  chain_visits v w r f hv hw o =
      let a = v s r f in
      let d = after_all s f a.script in
      let c = words.visit s a.replica d in
      let b = w s c.replica (after_all s d c.script) in
      let all : Around s v w r f = around s v w r f hv hw o in
      chain_both r.saved a.replica.saved b.replica.saved a.script (c.script ++ b.script) all.before.chain
      (chain_both a.replica.saved c.replica.saved b.replica.saved c.script b.script (visit_chain a.replica d) all.behind.chain)

  goes_chain : {G : List ℕ → Type 0} (r : Replica) (f : F) (x : Step) → Goes G s r f x → r.checkpoint ≤ r.applied → Chain r.saved x.script x.replica.saved
  goes_chain r f x goes o = elim goes [
    | rests h keeps ↦ h.chain
    | moves p up keeps ↦ p.chain
    | fills p lacking same from keeps ↦ p.chain
    | mends name block bad is e ↦ subst (λ (y : Step). Chain r.saved y.script y.replica.saved) (sym e) refl
    | visits v w hv hw e ↦ subst (λ (y : Step). Chain r.saved y.script y.replica.saved) (sym e) (chain_visits v w r f hv hw o)
  ]

  pub goes_copies : {G : List ℕ → Type 0} (r : Replica) (f : F) (x : Step) → Goes G s r f x → r.checkpoint ≤ r.applied → All IsGoodSave x.script → IsGood r.saved → Fine f → Copies f r.saved → Copies (after_all s f x.script) x.replica.saved
  goes_copies r f x goes o good g fine h = copies_along x.script r.saved x.replica.saved f (goes_chain r f x goes o) good g fine h

  -- a visit of the superblock
  visit_copies : (v w : Word F) (r : Replica) (f : F) → Standing v → Standing w → r.checkpoint ≤ r.applied → words.is_loaded r ≡ true → words.place_now r ≡ 64
      → let x = (v ⨾ words.visit ⨾ w) s r f in x.replica.checkpoint ≡ r.checkpoint → All IsGoodSave x.script → IsGood r.saved → Fine f → Copies (after_all s f x.script) x.replica.saved
  unfolding ◌⨾◌ after_all
  visit_copies v w r f hv hw o loaded at same good g fine =
      let a = v s r f in
      let d = after_all s f a.script in
      let c = words.visit s a.replica d in
      let e = after_all s d c.script in
      let b = w s c.replica e in
      let all : Around s v w r f = around s v w r f hv hw o in
      let stays = visit_stays s a.replica d in
      let up = all.before.rises in
      let on = all.behind.rises in
      let still = stays.checkpoint in
      let first : a.replica.checkpoint ≡ r.checkpoint = omega (arith, up, on, still, same) in
      let looked = visit_looked s a.replica d (loaded_on r a.replica all.before.missing ∙ loaded) in
      let now : words.place_now a.replica ≡ 64 = now_same r a.replica (alike_blocks r a.replica first (all.before.alike first)) all.before.cursor ∙ at in
      let good_a : IsGood a.replica.saved = good_along a.script r.saved a.replica.saved all.before.chain (All-left IsGoodSave a.script (c.script ++ b.script) good) g in
      let fine_d : Fine d = fine_after s Fine stores a.script f fine in
      let mended : Copies e a.replica.saved = subst (λ (es : List Effect). Copies (after_all s d es) a.replica.saved) (sym (looked.mended now)) (holds.mended d a.replica.saved fine_d good_a) in
      let last = All-right IsGoodSave c.script b.script (All-right IsGoodSave a.script (c.script ++ b.script) good) in
      let good_c : IsGood c.replica.saved = subst IsGood (sym looked.saved) good_a in
      let there : Copies (after_all s e b.script) b.replica.saved =
      copies_along b.script c.replica.saved b.replica.saved e all.behind.chain last good_c (fine_after s Fine stores c.script d fine_d) (subst (Copies e) (sym looked.saved) mended) in
      let disk : after_all s f (a.script ++ (c.script ++ b.script)) ≡ after_all s e b.script = after_both s f a.script (c.script ++ b.script) ∙ after_both s d c.script b.script in
      subst (λ (k : F). Copies k b.replica.saved) (sym disk) there

  pub goes_mended : {G : List ℕ → Type 0} (r : Replica) (f : F) (x : Step) → Goes G s r f x → r.checkpoint ≤ r.applied → words.is_loaded r ≡ true → words.place_now r ≡ 64 → x.replica.checkpoint ≡ r.checkpoint
      → x.replica.cursor ≢ r.cursor → All IsGoodSave x.script → IsGood r.saved → Fine f → Copies (after_all s f x.script) x.replica.saved
  goes_mended r f x goes o loaded at same moved good g fine = elim goes [
    | rests h keeps ↦ absurd (moved h.cursor)
    | moves p up keeps ↦ absurd (moved p.cursor)
    | fills p lacking still from keeps ↦ absurd (moved p.cursor)
    | mends name block bad is e ↦ absurd (moved (ap (λ (y : Step). y.replica.cursor) e))
    | visits v w hv hw e ↦
        subst (λ (y : Step). y.replica.checkpoint ≡ r.checkpoint → All IsGoodSave y.script → Copies (after_all s f y.script) y.replica.saved) (sym e)
        (λ i saves. visit_copies v w r f hv hw o loaded at i saves g fine) same good
  ]

  -- ---- blocks

  block_along : (es : List Effect) (f : F) (name : Name) → All SparesGrid es → s.block (after_all s f es) name ≡ s.block f name
  unfolding after_all
  block_along [] f name h = refl
  block_along (e ∷ es) f name h = block_along es (s.after f e) name (All-tail SparesGrid e es h) ∙ holds.block f e name (All-head SparesGrid e es h)

  -- what is known of a block stays
  known_along : (es : List Effect) (f : F) (r q : Replica) (name : Name) → All SparesGrid es → ((bad : Name) → Contains r.worn bad → Contains q.worn bad) → Known s f r name → Known s (after_all s f es) q name
  known_along es f r q name h kept known = elim known [
    | reads block e ↦ reads block (block_along es f name h ∙ e)
    | worn bad c same ↦ worn bad (kept bad c) same
  ]

  worn_same : (r q : Replica) → q.worn ≡ r.worn → (bad : Name) → Contains r.worn bad → Contains q.worn bad
  worn_same r q e bad c = subst (λ ws. Contains ws bad) (sym e) c

  -- a block that has gone bad is put
  known_put : (r : Replica) (f : F) (name other : Name) (block : List ℕ) → Fine f → Contains r.worn name → s.is_block name block ≡ true → StandApart (words.blocks_of r) → IsLaidOut r
      → Contains (words.blocks_of r) other → Known s f r other → Known s (s.after f (PutBlock name block)) (rules.not_worn name r) other
  known_put r f name other block fine bad is apart laid among known =
      elim (cases_eq other.address name.address) [
        | inl same ↦
            let one : other ≡ name = apart.own other name among (All-one (Contains (words.blocks_of r)) r.worn name laid.worn bad) same in
            reads block (subst (λ (m : Name). s.block (s.after f (PutBlock name block)) m ≡ Some block) (sym one) (holds.put f name block fine is))
        | inr differ ↦ elim known [
          | reads b e ↦ reads b (holds.beside f name other block is differ ∙ e)
          | worn m c same ↦
              let passes : not (m.address == name.address) ≡ true = ap not (ne_eqb m.address name.address (λ i. differ (sym same ∙ i))) in
              worn m (kept_in (λ (k : Name). not (k.address == name.address)) r.worn c.0 m c.1 c.2 passes) same
        ]
      ]

  -- what words around a visit leave
  record VisitLeaves (r : Replica) (f : F) (x : Step) : Type 0 where
    kept : (name : Name) → Known s f r name → Known s (after_all s f x.script) x.replica name
    found : (name : Name) → 65 ≤ words.place_now r → slice_get (words.blocks_of r) (words.place_now r - 65) ≡ Some name → name.address < grid_size → Known s (after_all s f x.script) x.replica name

  visit_leaves : (v w : Word F) (r : Replica) (f : F) → Standing v → Standing w → r.checkpoint ≤ r.applied → words.is_loaded r ≡ true
      → let x = (v ⨾ words.visit ⨾ w) s r f in x.replica.checkpoint ≡ r.checkpoint → VisitLeaves r f x
  unfolding ◌⨾◌
  visit_leaves v w r f hv hw o loaded same =
      let a = v s r f in
      let d = after_all s f a.script in
      let c = words.visit s a.replica d in
      let e = after_all s d c.script in
      let b = w s c.replica e in
      let all : Around s v w r f = around s v w r f hv hw o in
      let stays = visit_stays s a.replica d in
      let up = all.before.rises in
      let on = all.behind.rises in
      let still = stays.checkpoint in
      let first : a.replica.checkpoint ≡ r.checkpoint = omega (arith, up, on, still, same) in
      let last : b.replica.checkpoint ≡ c.replica.checkpoint = omega (arith, up, on, still, same) in
      let before = all.before.alike first in
      let behind = all.behind.alike last in
      let looked = visit_looked s a.replica d (loaded_on r a.replica all.before.missing ∙ loaded) in
      let blocks = alike_blocks r a.replica first before in
      let now = now_same r a.replica blocks all.before.cursor in
      let disk : after_all s f (a.script ++ (c.script ++ b.script)) ≡ after_all s e b.script = after_both s f a.script (c.script ++ b.script) ∙ after_both s d c.script b.script in
      let whole : (name : Name) → Known s (after_all s e b.script) b.replica name → Known s (after_all s f (a.script ++ (c.script ++ b.script))) b.replica name =
      λ name known. subst (λ (k : F). Known s k b.replica name) (sym disk) known in
      record {
        kept = λ name known.
            let one = known_along a.script f r a.replica name (all.before.spares first) (worn_same r a.replica before.worn) known in
            let two = known_along c.script d a.replica c.replica name looked.spares looked.kept one in
            whole name (known_along b.script e c.replica b.replica name (all.behind.spares last) (worn_same c.replica b.replica behind.worn) two);
        found = λ name high i low.
            let there : slice_get (words.blocks_of a.replica) (words.place_now a.replica - 65) ≡ Some name = ap (λ xs. slice_get xs (words.place_now a.replica - 65)) blocks ∙ (ap (λ k. slice_get (words.blocks_of r) (k - 65)) now ∙ i) in
            let at_visit : Known s d c.replica name = looked.found name (subst (λ k. 65 ≤ k) (sym now) high) there low in
            let two = known_along c.script d c.replica c.replica name looked.spares (λ bad k. k) at_visit in
            whole name (known_along b.script e c.replica b.replica name (all.behind.spares last) (worn_same c.replica b.replica behind.worn) two);
      }

  pub goes_known : {G : List ℕ → Type 0} (r : Replica) (f : F) (x : Step) (name : Name) → Goes G s r f x → r.checkpoint ≤ r.applied → words.is_loaded r ≡ true → x.replica.checkpoint ≡ r.checkpoint → Fine f
      → StandApart (words.blocks_of r) → IsLaidOut r → Contains (words.blocks_of r) name → Known s f r name → Known s (after_all s f x.script) x.replica name
  unfolding after_all
  goes_known r f x name goes o loaded same fine apart laid among known = elim goes [
    | rests h keeps ↦ known_along x.script f r x.replica name (h.spares same) (worn_same r x.replica (h.alike same).worn) known
    | moves p up keeps ↦ absurd (omega (arith, up, same))
    | fills p lacking still from keeps ↦ absurd (true≢false (sym loaded ∙ lacking))
    | mends m block bad is e ↦ subst (λ (y : Step). Known s (after_all s f y.script) y.replica name) (sym e) (known_put r f m name block fine bad is apart laid among known)
    | visits v w hv hw e ↦
        subst (λ (y : Step). y.replica.checkpoint ≡ r.checkpoint → Known s (after_all s f y.script) y.replica name) (sym e)
        (λ i. (visit_leaves v w r f hv hw o loaded i).kept name known) same
  ]

  pub goes_found : {G : List ℕ → Type 0} (r : Replica) (f : F) (x : Step) (name : Name) → Goes G s r f x → r.checkpoint ≤ r.applied → words.is_loaded r ≡ true → x.replica.checkpoint ≡ r.checkpoint → x.replica.cursor ≢ r.cursor
      → 65 ≤ words.place_now r → slice_get (words.blocks_of r) (words.place_now r - 65) ≡ Some name → name.address < grid_size → Known s (after_all s f x.script) x.replica name
  goes_found r f x name goes o loaded same moved high at low = elim goes [
    | rests h keeps ↦ absurd (moved h.cursor)
    | moves p up keeps ↦ absurd (moved p.cursor)
    | fills p lacking still from keeps ↦ absurd (moved p.cursor)
    | mends m block bad is e ↦ absurd (moved (ap (λ (y : Step). y.replica.cursor) e))
    | visits v w hv hw e ↦
        subst (λ (y : Step). y.replica.checkpoint ≡ r.checkpoint → Known s (after_all s f y.script) y.replica name) (sym e)
        (λ i. (visit_leaves v w r f hv hw o loaded i).found name high at low) same
  ]

-- ---- the blocks that have gone bad are the checkpoint's

module _ {F : Type 0} (s : Setting F) where
  visit_worn : (r : Replica) (f : F) → IsWornWell r → IsWornWell (words.visit s r f).replica
  visit_worn r f k =
      let q : Replica = (words.visit s r f).replica in
      let st = visit_stays s r f in
      elim (words.is_loaded r) as (λ b. words.is_loaded r ≡ b → IsWornWell q) [
        | true ↦ λ t.
            let looked = visit_looked s r f t in
            record {
              worn = subst (λ bs. All (Contains bs) q.worn) (sym (same_blocks r q st.checkpoint st.root st.table)) (All-each (Contains (words.blocks_of r)) q.worn (λ name c. elim (looked.among name c) [
                | inl old ↦ All-one (Contains (words.blocks_of r)) r.worn name k.worn old
                | inr new ↦ got_is (words.blocks_of r) (words.place_now r - 65) name new
              ]));
              none = λ lacks. absurd (lacks (st.missing ∙ missing_none r t));
            }
        | false ↦ λ t. subst (λ (x : Step). IsWornWell x.replica) (sym (turning.unvisited s r f t)) k
      ] refl

  visits_worn : (v w : Word F) (r : Replica) (f : F) → Standing v → Standing w → r.checkpoint ≤ r.applied → IsWornWell r → IsWornWell ((v ⨾ words.visit ⨾ w) s r f).replica
  unfolding ◌⨾◌
  visits_worn v w r f hv hw o k =
      let a = v s r f in
      let d : F = after_all s f a.script in
      let c = words.visit s a.replica d in
      let e : F = after_all s d c.script in
      let b = w s c.replica e in
      let one = hv.every s r f o in
      let st = visit_stays s a.replica d in
      let low = one.order in
      let at = st.checkpoint in
      let done = st.applied in
      let two = hw.every s c.replica e (omega (arith, low, at, done)) in
      worn_stands c.replica b two (visit_worn a.replica d (worn_stands r a one k))

  worn_mended : (name : Name) (r : Replica) → IsWornWell r → IsWornWell (rules.not_worn name r)
  worn_mended name r h = record {
    worn = All-filter (λ (m : Name). not (m.address == name.address)) (Contains (words.blocks_of r)) r.worn h.worn;
    none = λ lacks. ap (filter (λ (m : Name). not (m.address == name.address))) (h.none lacks);
  }

  pub goes_worn : {G : List ℕ → Type 0} (r : Replica) (f : F) (x : Step) → Goes G s r f x → r.checkpoint ≤ r.applied → IsWornWell r → IsWornWell x.replica
  goes_worn r f x goes o k = elim goes [
    | rests h keeps ↦ keeps.worn k
    | moves q up keeps ↦ keeps.worn k
    | fills q lacking still from filled ↦ filled.worn k
    | mends name block bad is e ↦ subst (λ (y : Step). IsWornWell y.replica) (sym e) (worn_mended name r k)
    | visits v w hv hw e ↦ subst (λ (y : Step). IsWornWell y.replica) (sym e) (visits_worn v w r f hv hw o k)
  ]

  -- ---- while its checkpoint stays its blocks stand apart

  pub laid_loaded : (apart : LoadsApart s) (q : Replica) → FromLoad s q → StandApart (words.blocks_of q)
  laid_loaded apart q from = elim from [
    | none e ↦ subst StandApart (sym (ap (λ b. cond b [] (all_names q.root q.table)) (eq-eqb q.checkpoint 0 e))) nothing_apart
    | some f texts e ↦
        let at = apart.places f q.root texts q.table e in
        elim (q.checkpoint == 0) as (λ b. StandApart (cond b [] (all_names q.root q.table))) [ true ↦ nothing_apart | false ↦ places_stand q.root q.table at.0 at.1 ]
    | unnamed f e ↦ absurd (apart.some f q.root e)
  ]

  visits_apart : (v w : Word F) (r : Replica) (f : F) → Standing v → Standing w → r.checkpoint ≤ r.applied → let x = (v ⨾ words.visit ⨾ w) s r f in x.replica.checkpoint ≡ r.checkpoint
      → (r.missing ≡ [] → StandApart (words.blocks_of r)) → x.replica.missing ≡ [] → StandApart (words.blocks_of x.replica)
  visits_apart v w r f hv hw o same h e =
      let x = (v ⨾ words.visit ⨾ w) s r f in
      elim (words.is_loaded r) as (λ b. words.is_loaded r ≡ b → StandApart (words.blocks_of x.replica)) [
        | true ↦ λ t. let walk = walks_visit s v w r f hv hw o t same in subst StandApart (sym walk.blocks) (h (sym walk.missing ∙ e))
        | false ↦ λ t. let idle = idle_visit s v w r f hv hw o t in subst StandApart (sym (idle.blocks same)) (h (sym idle.missing ∙ e))
      ] refl

  goes_apart : {G : List ℕ → Type 0} (apart : LoadsApart s) (r : Replica) (f : F) (x : Step) → Goes G s r f x → r.checkpoint ≤ r.applied → x.replica.checkpoint ≡ r.checkpoint
      → (r.missing ≡ [] → StandApart (words.blocks_of r)) → x.replica.missing ≡ [] → StandApart (words.blocks_of x.replica)
  goes_apart apart r f x goes o same h lacks = elim goes [
    | rests k keeps ↦ subst StandApart (sym (alike_blocks r x.replica same (k.alike same))) (h (sym k.missing ∙ lacks))
    | moves p up keeps ↦ absurd (omega (arith, up, same))
    | fills p lacking still from filled ↦ laid_loaded apart x.replica (from same (ap (λ (ms : List Name). length ms == 0) lacks))
    | mends name block bad is e ↦ subst (λ (y : Step). y.replica.missing ≡ [] → StandApart (words.blocks_of y.replica)) (sym e) h lacks
    | visits v w hv hw e ↦
        subst (λ (y : Step). y.replica.checkpoint ≡ r.checkpoint → y.replica.missing ≡ [] → StandApart (words.blocks_of y.replica)) (sym e) (λ i. visits_apart v w r f hv hw o i h) same lacks
  ]

  pub goes_laid : {G : List ℕ → Type 0} (apart : LoadsApart s) (r : Replica) (f : F) (x : Step) → Goes G s r f x → r.checkpoint ≤ r.applied → x.replica.checkpoint ≡ r.checkpoint → IsLaidOut r → IsLaidOut x.replica
  goes_laid apart r f x goes o same h =
      let w = goes_worn r f x goes o (record { worn = h.worn; none = h.none }) in
      record { apart = goes_apart apart r f x goes o same h.apart; worn = w.worn; none = w.none }

-- As many visits as there are places come to each of them, whatever stands between them.
use Rattle.std.proofs.Common.{arith, ℕ, zero, suc, ◌+◌, ◌-◌, ◌*◌, ◌%◌, ◌≡◌, ◌<◌, ◌≤◌, ◌∙◌, ◌⊎◌, inl, inr, refl, sym, ap, subst, true, false, cond, List, [], ◌∷◌, length}
use Rattle.std.specs.Prelude.{All, nat_lt, ◌==◌}
use Rattle.std.proofs.lemmas.Bool.{cases_lt, eq-eqb, true≢false}
use Rattle.std.proofs.lemmas.Nat.{mod-mul-add, mod_below}
use Rattle.std.proofs.Math.Nat.{mod-add-mod, mod-eq_of_lt}
use Rattle.std.proofs.lemmas.List.Elements.{All-head, All-tail}
use Rattle.vr_ckpt.specs.declared.name.Name.{Name}
use Rattle.vr_msg.specs.declared.event.Event.{Event}
use Rattle.vr_rules.specs.Laws.{HasNames, IsEvent}
use Rattle.vr_rules.specs.Replica.{Replica}
use Rattle.vr_rules.specs.Rules as rules
use Rattle.vr_rules.specs.Sound.{IsSound}
use Rattle.vr_rules.specs.Steps.{Setting, Step, Word, ◌⨾◌, after_all, quiet}
use Rattle.vr_rules.specs.Words as words
use Rattle.vr_rules.proofs.Reacting.{steps_stay_sound}
use Rattle.vr_rules.proofs.Rising.{steps_rise}
use Rattle.law_repair.specs.Cover.{visits_made}
use Rattle.law_repair.specs.Visits.{after_events}
use Rattle.law_repair.proofs.Standing.{Standing, Stands, alike_blocks, same_blocks}
use Rattle.law_repair.proofs.StandingRules.{Goes, fills, mends, moves, rests, step_goes_any, visits}
use Rattle.law_repair.proofs.Turning as turning

-- ---- around

-- numbers below n whose next ones are one
next_same : (y c n : ℕ) → y < n → c < n → (y + 1) % n ≡ (c + 1) % n → y ≡ c
next_same y c n a b e =
    let around : (x : ℕ) → x + 1 ≡ n → (x + 1) % n ≡ 0 = λ x i. ap (λ k. k % n) (let whole : x + 1 ≡ 1 * n + 0 = omega (arith, i) in whole) ∙ mod-mul-add 1 n 0 (omega (arith, a)) in
    elim (cases_lt (y + 1) n) [
      | inl low ↦
          let p : (y + 1) % n ≡ y + 1 = mod-eq_of_lt low in
          elim (cases_lt (c + 1) n) [
            | inl under ↦ let q : (c + 1) % n ≡ c + 1 = mod-eq_of_lt under in omega (arith, p, q, e)
            | inr last ↦ let q = around c (omega (arith, b, last)) in absurd (omega (arith, p, q, e))
          ]
      | inr high ↦
          let p = around y (omega (arith, a, high)) in
          elim (cases_lt (c + 1) n) [
            | inl under ↦ let q : (c + 1) % n ≡ c + 1 = mod-eq_of_lt under in absurd (omega (arith, p, q, e))
            | inr last ↦ omega (arith, a, b, high, last)
          ]
    ]

-- one visit less ago
one_less : (x c n : ℕ) → c < n → (x + 1) % n ≡ (c + 1) % n → x % n ≡ c
one_less x c n l e = next_same (x % n) c n (mod_below x n (omega (arith, l))) l (mod-add-mod x n 1 ∙ e)

-- how long ago a place was visited
record Ago (p c n : ℕ) : Type 0 where
  since : ℕ
  few : since < n
  back : (p + 1 + since) % n ≡ c

ago : (p c n : ℕ) → p < n → c < n → Ago p c n
ago p c n a b =
    elim (cases_lt p c) [
      | inl before ↦
          let whole : p + 1 + (c - (p + 1)) ≡ c = omega (arith, before) in
          record { since = c - (p + 1); few = omega (arith, b, before); back = ap (λ k. k % n) whole ∙ mod-eq_of_lt b }
      | inr behind ↦
          let whole : p + 1 + (c + n - (p + 1)) ≡ 1 * n + c = omega (arith, a, behind) in
          record { since = c + n - (p + 1); few = omega (arith, a, behind); back = ap (λ k. k % n) whole ∙ mod-mul-add 1 n c b }
    ]

-- ---- a step of a replica that has its checkpoint, which stays

pub record Walks (r q : Replica) : Type 0 where
  pub blocks : words.blocks_of q ≡ words.blocks_of r
  pub missing : q.missing ≡ r.missing
  pub cursor : (q.cursor ≡ r.cursor) ⊎ (q.cursor ≡ (words.place_now r + 1) % words.places r)

-- of one that has not
pub record Idle (r q : Replica) : Type 0 where
  pub missing : q.missing ≡ r.missing
  pub cursor : q.cursor ≡ r.cursor
  pub blocks : q.checkpoint ≡ r.checkpoint → words.blocks_of q ≡ words.blocks_of r
  pub worn : q.checkpoint ≡ r.checkpoint → q.worn ≡ r.worn

pub loaded_on : (r q : Replica) → q.missing ≡ r.missing → words.is_loaded q ≡ words.is_loaded r
loaded_on r q e = ap (λ (ms : List Name). length ms == 0) e

pub now_same : (r q : Replica) → words.blocks_of q ≡ words.blocks_of r → q.cursor ≡ r.cursor → words.place_now q ≡ words.place_now r
now_same r q b c = ap (λ (xs : List Name). cond (nat_lt q.cursor (65 + length xs)) q.cursor 0) b ∙ ap (λ k. cond (nat_lt k (words.places r)) k 0) c

module _ {F : Type 0} (s : Setting F) where
  pub visit_stays : (r : Replica) (f : F) → turning.Stays r (words.visit s r f).replica
  unfolding quiet
  visit_stays r f =
      elim (words.is_loaded r) as (λ b. words.is_loaded r ≡ b → turning.Stays r (words.visit s r f).replica) [
        | true ↦ λ t. (turning.turned s r f t).stays
        | false ↦ λ t. subst (λ (x : Step). turning.Stays r x.replica) (sym (turning.unvisited s r f t)) (turning.stays_same r)
      ] refl

  -- words around a visit
  pub record Around (v w : Word F) (r : Replica) (f : F) : Type 0 where
    pub before : Stands r (v s r f)
    pub behind : let a = v s r f in let d = after_all s f a.script in let c = words.visit s a.replica d in Stands c.replica (w s c.replica (after_all s d c.script))

  pub around : (v w : Word F) (r : Replica) (f : F) → Standing v → Standing w → r.checkpoint ≤ r.applied → Around v w r f
  around v w r f hv hw o =
      let a = v s r f in
      let d = after_all s f a.script in
      let c = words.visit s a.replica d in
      let one = hv.every s r f o in
      let stays = visit_stays a.replica d in
      let low = one.order in
      let at = stays.checkpoint in
      let done = stays.applied in
      record { before = one; behind = hw.every s c.replica (after_all s d c.script) (omega (arith, low, at, done)) }

  pub walks_visit : (v w : Word F) (r : Replica) (f : F) → Standing v → Standing w → r.checkpoint ≤ r.applied → words.is_loaded r ≡ true
      → let x = (v ⨾ words.visit ⨾ w) s r f in x.replica.checkpoint ≡ r.checkpoint → Walks r x.replica
  unfolding ◌⨾◌
  walks_visit v w r f hv hw o loaded same =
      let a = v s r f in
      let d = after_all s f a.script in
      let c = words.visit s a.replica d in
      let b = w s c.replica (after_all s d c.script) in
      let all : Around v w r f = around v w r f hv hw o in
      let stays = visit_stays a.replica d in
      let up = all.before.rises in
      let on = all.behind.rises in
      let at = stays.checkpoint in
      let first : a.replica.checkpoint ≡ r.checkpoint = omega (arith, up, on, at, same) in
      let last : b.replica.checkpoint ≡ c.replica.checkpoint = omega (arith, up, on, at, same) in
      let blocks_first = alike_blocks r a.replica first (all.before.alike first) in
      let blocks_then = same_blocks a.replica c.replica at stays.root stays.table in
      let blocks_last = alike_blocks c.replica b.replica last (all.behind.alike last) in
      let turned = turning.turned s a.replica d (loaded_on r a.replica all.before.missing ∙ loaded) in
      let now = now_same r a.replica blocks_first all.before.cursor in
      record {
        blocks = blocks_last ∙ (blocks_then ∙ blocks_first);
        missing = all.behind.missing ∙ (stays.missing ∙ all.before.missing);
        cursor = inr (all.behind.cursor ∙ (turned.cursor ∙ (ap (λ k. (k + 1) % words.places a.replica) now ∙ ap (λ (xs : List Name). (words.place_now r + 1) % (65 + length xs)) blocks_first)));
      }

  -- without its checkpoint a replica visits nothing
  pub idle_visit : (v w : Word F) (r : Replica) (f : F) → Standing v → Standing w → r.checkpoint ≤ r.applied → words.is_loaded r ≡ false → Idle r ((v ⨾ words.visit ⨾ w) s r f).replica
  unfolding ◌⨾◌
  idle_visit v w r f hv hw o lacking =
      let a = v s r f in
      let d = after_all s f a.script in
      let c = words.visit s a.replica d in
      let b = w s c.replica (after_all s d c.script) in
      let all : Around v w r f = around v w r f hv hw o in
      let same : c.replica ≡ a.replica = ap (λ (x : Step). x.replica) (turning.unvisited s a.replica d (loaded_on r a.replica all.before.missing ∙ lacking)) in
      let up = all.before.rises in
      let on = all.behind.rises in
      let at : c.replica.checkpoint ≡ a.replica.checkpoint = ap (λ (q : Replica). q.checkpoint) same in
      record {
        missing = all.behind.missing ∙ (ap (λ (q : Replica). q.missing) same ∙ all.before.missing);
        cursor = all.behind.cursor ∙ (ap (λ (q : Replica). q.cursor) same ∙ all.before.cursor);
        blocks = λ e.
            let first : a.replica.checkpoint ≡ r.checkpoint = omega (arith, up, on, at, e) in
            let last : b.replica.checkpoint ≡ c.replica.checkpoint = omega (arith, up, on, at, e) in
            alike_blocks c.replica b.replica last (all.behind.alike last) ∙ (ap (λ (q : Replica). words.blocks_of q) same ∙ alike_blocks r a.replica first (all.before.alike first));
        worn = λ e.
            let first : a.replica.checkpoint ≡ r.checkpoint = omega (arith, up, on, at, e) in
            let last : b.replica.checkpoint ≡ c.replica.checkpoint = omega (arith, up, on, at, e) in
            (all.behind.alike last).worn ∙ (ap (λ (q : Replica). q.worn) same ∙ (all.before.alike first).worn);
      }

  pub goes_walks : {G : List ℕ → Type 0} (r : Replica) (f : F) (x : Step) → Goes G s r f x → r.checkpoint ≤ r.applied → words.is_loaded r ≡ true → x.replica.checkpoint ≡ r.checkpoint → Walks r x.replica
  goes_walks r f x goes o loaded same = elim goes [
    | rests h keeps ↦ record { blocks = alike_blocks r x.replica same (h.alike same); missing = h.missing; cursor = inl h.cursor }
    | moves p up keeps ↦ absurd (omega (arith, up, same))
    | fills p lacking worn from keeps ↦ absurd (true≢false (sym loaded ∙ lacking))
    | mends name block bad is e ↦ subst (λ (y : Step). Walks r y.replica) (sym e) (record { blocks = refl; missing = refl; cursor = inl refl })
    | visits v w hv hw e ↦
        subst (λ (y : Step). y.replica.checkpoint ≡ r.checkpoint → Walks r y.replica) (sym e) (walks_visit v w r f hv hw o loaded) same
  ]

  goes_still : {G : List ℕ → Type 0} (r : Replica) (f : F) (x : Step) → Goes G s r f x → r.checkpoint ≤ r.applied → words.is_loaded r ≡ false → x.replica.cursor ≡ r.cursor
  goes_still r f x goes o lacking = elim goes [
    | rests h keeps ↦ h.cursor
    | moves p up keeps ↦ p.cursor
    | fills p unloaded worn from keeps ↦ p.cursor
    | mends name block bad is e ↦ ap (λ (y : Step). y.replica.cursor) e
    | visits v w hv hw e ↦ ap (λ (y : Step). y.replica.cursor) e ∙ (idle_visit v w r f hv hw o lacking).cursor
  ]

-- ---- what is known of places that were visited

-- What holds of a place once it was visited, and stays while the checkpoint does. Ok is what steps keep all along.
pub record Sees {F : Type 0} (s : Setting F) (Ok : Replica → F → Type 0) (K : ℕ → Replica → F → Type 0) : Type 0 where
  pub sound : (r : Replica) (f : F) → Ok r f → IsSound r
  pub stays : (e : Event) (r : Replica) (f : F) → IsEvent e → Ok r f → let x = rules.react e s r f in x.replica.checkpoint ≡ r.checkpoint → Ok x.replica (after_all s f x.script)
  pub keeps : (p : ℕ) (e : Event) (r : Replica) (f : F) → IsEvent e → Ok r f → words.is_loaded r ≡ true
      → let x = rules.react e s r f in x.replica.checkpoint ≡ r.checkpoint → p < words.places r → K p r f → K p x.replica (after_all s f x.script)
  pub finds : (e : Event) (r : Replica) (f : F) → IsEvent e → Ok r f → words.is_loaded r ≡ true
      → let x = rules.react e s r f in x.replica.checkpoint ≡ r.checkpoint → x.replica.cursor ≡ (words.place_now r + 1) % words.places r → K (words.place_now r) x.replica (after_all s f x.script)

module _ {F : Type 0} (s : Setting F) (Ok : Replica → F → Type 0) (K : ℕ → Replica → F → Type 0) (sees : Sees s Ok K) (names : HasNames s) where
  -- after n visits
  record Known (n : ℕ) (r : Replica) (f : F) : Type 0 where
    ok : Ok r f
    none : words.is_loaded r ≡ false → n ≡ 0
    each : (p j : ℕ) → p < words.places r → j < n → (p + 1 + j) % words.places r ≡ words.place_now r → K p r f

  fewer : (n m : ℕ) (r : Replica) (f : F) → m ≤ n → Known n r f → Known m r f
  fewer n m r f l known = record {
    ok = known.ok;
    none = λ e. let none = known.none e in omega (arith, l, none);
    each = λ p j a b e. known.each p j a (omega (arith, l, b)) e;
  }

  abbrev counted : Replica → Replica → ℕ
  counted r q = cond (q.cursor == r.cursor) 0 1

  -- a step of a replica that has its checkpoint
  walked : (n : ℕ) (e : Event) (r : Replica) (f : F) → IsEvent e → words.is_loaded r ≡ true → let x = rules.react e s r f in x.replica.checkpoint ≡ r.checkpoint
      → Known n r f → Known (n + counted r x.replica) x.replica (after_all s f x.script)
  walked n e r f m loaded same known =
      let x = rules.react e s r f in
      let q : Replica = x.replica in
      let g = after_all s f x.script in
      let walk : Walks r q = goes_walks s r f x (step_goes_any s e r f (sees.sound r f known.ok).order.applied) (sees.sound r f known.ok).order.applied loaded same in
      let places : words.places q ≡ words.places r = ap (λ (xs : List Name). 65 + length xs) walk.blocks in
      let has : words.is_loaded q ≡ true = loaded_on r q walk.missing ∙ loaded in
      let ok = sees.stays e r f m known.ok same in
      let within : (p : ℕ) → p < words.places q → p < words.places r = λ p l. subst (λ k. p < k) places l in
      let below = turning.now_below r in
      elim walk.cursor [
        | inl still ↦
            let none : counted r q ≡ 0 = ap (λ b. cond b 0 1) (eq-eqb q.cursor r.cursor still) in
            subst (λ k. Known k q g) (let whole : n ≡ n + counted r q = omega (arith, none) in whole) (record {
              ok = ok;
              none = λ lacks. absurd (true≢false (sym has ∙ lacks));
              each = λ p j a b t.
                  sees.keeps p e r f m known.ok loaded same (within p a) (known.each p j (within p a) b (ap (λ k. (p + 1 + j) % k) (sym places) ∙ (t ∙ now_same r q walk.blocks still)));
            })
        | inr turned ↦
            let next : words.place_now q ≡ (words.place_now r + 1) % words.places r = turning.now_of r q turned places in
            let all : Known (n + 1) q g = record {
              ok = ok;
              none = λ lacks. absurd (true≢false (sym has ∙ lacks));
              each = λ p j a b t.
                  let around : (p + 1 + j) % words.places r ≡ (words.place_now r + 1) % words.places r = ap (λ k. (p + 1 + j) % k) (sym places) ∙ (t ∙ next) in
                  elim j as (λ i. i < n + 1 → (p + 1 + i) % words.places r ≡ (words.place_now r + 1) % words.places r → K p q g) [
                    | zero ↦ λ l u.
                        let one : p + 1 ≡ p + 1 + zero = omega arith in
                        let same_place : p ≡ words.place_now r = next_same p (words.place_now r) (words.places r) (within p a) below (ap (λ k. k % words.places r) one ∙ u) in
                        subst (λ k. K k q g) (sym same_place) (sees.finds e r f m known.ok loaded same turned)
                    | suc i ↦ λ l u.
                        let one : p + 1 + i + 1 ≡ p + 1 + suc i = omega arith in
                        let before = one_less (p + 1 + i) (words.place_now r) (words.places r) below (ap (λ k. k % words.places r) one ∙ u) in
                        sees.keeps p e r f m known.ok loaded same (within p a) (known.each p i (within p a) (omega (arith, l)) before)
                  ] b around;
            } in
            elim (q.cursor == r.cursor) as (λ b. Known (n + cond b 0 1) q g) [ true ↦ fewer (n + 1) (n + 0) q g (omega arith) all | false ↦ all ]
      ]

  stepped : (n : ℕ) (e : Event) (r : Replica) (f : F) → IsEvent e → let x = rules.react e s r f in x.replica.checkpoint ≡ r.checkpoint
      → Known n r f → Known (n + counted r x.replica) x.replica (after_all s f x.script)
  stepped n e r f m same known =
      let x = rules.react e s r f in
      let q : Replica = x.replica in
      let g = after_all s f x.script in
      let low = (sees.sound r f known.ok).order.applied in
      elim (words.is_loaded r) as (λ b. words.is_loaded r ≡ b → Known (n + counted r q) q g) [
        | true ↦ λ t. walked n e r f m t same known
        | false ↦ λ t.
            let still = goes_still s r f x (step_goes_any s e r f low) low t in
            let none : counted r q ≡ 0 = ap (λ b. cond b 0 1) (eq-eqb q.cursor r.cursor still) in
            let zeros = known.none t in
            let whole : 0 ≡ n + counted r q = omega (arith, none, zeros) in
            subst (λ k. Known k q g) whole (record { ok = sees.stays e r f m known.ok same; none = λ lacks. refl; each = λ p j a b i. absurd (omega (arith, b)) })
      ] refl

  risen : (es : List Event) (r : Replica) (f : F) → IsSound r → All IsEvent es → r.checkpoint ≤ (after_events s es r f).replica.checkpoint
  unfolding after_events
  risen [] r f sound m = omega arith
  risen (e ∷ es) r f sound m =
      let x = rules.react e s r f in
      let first = All-head IsEvent e es m in
      let up = (steps_rise s f r e sound first).checkpoint in
      let on = risen es x.replica (after_all s f x.script) (steps_stay_sound s f r e names sound first) (All-tail IsEvent e es m) in
      omega (arith, up, on)

  known_after : (es : List Event) (n : ℕ) (r : Replica) (f : F) → All IsEvent es → let end = after_events s es r f in end.replica.checkpoint ≡ r.checkpoint
      → Known n r f → Known (n + visits_made s es r f) end.replica end.disk
  unfolding after_events visits_made
  known_after [] n r f m same known = fewer n (n + 0) r f (omega arith) known
  known_after (e ∷ es) n r f m same known =
      let x = rules.react e s r f in
      let q : Replica = x.replica in
      let g = after_all s f x.script in
      let first = All-head IsEvent e es m in
      let later = All-tail IsEvent e es m in
      let sound = sees.sound r f known.ok in
      let up = (steps_rise s f r e sound first).checkpoint in
      let on = risen es q g (steps_stay_sound s f r e names sound first) later in
      let end = after_events s es q g in
      let here : q.checkpoint ≡ r.checkpoint = omega (arith, up, on, same) in
      let there : end.replica.checkpoint ≡ q.checkpoint = omega (arith, up, on, same) in
      let one = stepped n e r f first here known in
      let whole : n + counted r q + visits_made s es q g ≡ n + (counted r q + visits_made s es q g) = omega arith in
      subst (λ k. Known k end.replica end.disk) whole (known_after es (n + counted r q) q g later there one)

  -- after as many visits as there are places each is known
  pub record Covered (r : Replica) (f : F) : Type 0 where
    pub ok : Ok r f
    pub loaded : words.is_loaded r ≡ true
    pub each : (p : ℕ) → p < words.places r → K p r f

  pub all_known : (es : List Event) (r : Replica) (f : F) → All IsEvent es → Ok r f → let end = after_events s es r f in end.replica.checkpoint ≡ r.checkpoint
      → words.places end.replica ≤ visits_made s es r f → Covered end.replica end.disk
  all_known es r f m ok same enough =
      let end = after_events s es r f in
      let start : Known 0 r f = record { ok = ok; none = λ e. refl; each = λ p j a b t. absurd (omega (arith, b)) } in
      let known = known_after es 0 r f m same start in
      record {
        ok = known.ok;
        loaded = elim (words.is_loaded end.replica) as (λ b. words.is_loaded end.replica ≡ b → b ≡ true) [
          | true ↦ λ t. refl
          | false ↦ λ t. absurd (let zeros = known.none t in omega (arith, zeros, enough))
        ] refl;
        each = λ p l.
            let back = ago p (words.place_now end.replica) (words.places end.replica) l (turning.now_below end.replica) in
            let few = back.few in
            known.each p back.since l (omega (arith, few, enough)) back.back;
      }

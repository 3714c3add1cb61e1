-- A superblock value is finished, or an entry is made: the history grows with it.
use Rattle.law_1_machine.specs.Basics.{Each, In, update}
use Rattle.law_1_machine.specs.Claims.{BegunBy, Candidate, MemoryOk, SuperblockOk, UnderOk, to_begin, as_it_was}
use Rattle.law_1_machine.specs.Group.{Group, Made, becomes, made_at}
use Rattle.law_1_machine.specs.Growth.{Grow}
use Rattle.law_1_machine.specs.Headers.{Headers}
use Rattle.law_1_machine.specs.History.{History, HistoryOk, InLog, finish, make, saved}
use Rattle.law_1_machine.specs.Invariant.{Ahead, Invariant, Tied}
use Rattle.law_1_machine.specs.Members.{Choice, Names, Memory, Superblock, superblock}
use Rattle.law_1_machine.specs.Quorums.{Quorums}
use Rattle.std.proofs.Common.{ℕ, suc, ◌%◌, ◌≤◌, ◌<◌, ◌≡◌, ◌⊎◌, inl, inr, arith, refl, sym, ap, ◌∙◌, true, false, ◌∷◌, Option, Some, None, subst}
use Rattle.std.proofs.lemmas.Bool.{both_ways, cases_eq}
use Rattle.law_1_machine.proofs.Counting.{here, elsewhere, each_at, each_map}
use Rattle.law_1_machine.proofs.Growing.{grow_refl}
use Rattle.law_1_machine.proofs.Lasting.{choice_grow, save_ok, superblock_grow, memory_grow, fact_grow}
use Rattle.law_1_machine.proofs.Histories.{at_finish, at_make, finish_grow, finish_ok, make_grow, make_ok, saved_grow, saved_ok}
use Rattle.law_1_machine.proofs.Frames.{begun_old, member_grow, changed, led_old, made_old, spoken_old}

module _ {H : Type 0} where
  pub grow_trans : (f g h : History H) → Grow f g → Grow g h → Grow f h
  grow_trans f g h a b = record {
    finished = λ w s. b.finished w (a.finished w s);
    base = λ w s. b.base w (a.finished w s) ∙ a.base w s;
    length = λ w. let x = a.length w in let y = b.length w in omega arith;
    log = λ w k l. let x = a.length w in b.log w k (omega arith) ∙ a.log w k l;
    vouched = λ r u k s. b.vouched r u k (a.vouched r u k s);
    new = λ r u k s. elim (b.new r u k s) [ inl x ↦ a.new r u k x | inr x ↦ inr (let y = a.view r in omega arith) ];
    view = λ r. let x = a.view r in let y = b.view r in omega arith;
    log_view = λ r. let x = a.log_view r in let y = b.log_view r in omega arith;
    checkpoint = λ r. let x = a.checkpoint r in let y = b.checkpoint r in omega arith;
  }

  made_same : (v k : ℕ) (a b : H) → a ≡ b → made_at v k a ≡ made_at v k b
  made_same v k a b e = let f : H → Made H = λ x. made_at v k x in ap f e

  module _ (q : Quorums) (hs : Headers H) (g : History H) (s : Group H) (y : Invariant q hs g s) (r : ℕ) where
    -- a member finishes a superblock value, and with it perhaps the view of its log
    settle : (f : History H) → Grow g f → HistoryOk q hs f
        → ((i : ℕ) → (f.view i ≡ g.view i) × (f.log_view i ≡ g.log_view i) × (f.checkpoint i ≡ g.checkpoint i))
        → ((i u k : ℕ) → f.vouched i u k ≡ true → g.vouched i u k ≡ true)
        → (x : Superblock H) → ((w : ℕ) → g.finished w ≡ false → (f.finished w ≡ false) ⊎ ((r ≡ w % q.n) × (w ≡ x.log_view)))
        → ((w k : ℕ) → f.finished w ≡ true → f.base w < k → k ≤ f.length w → (g.finished w ≡ true) × (g.base w < k) × (k ≤ g.length w))
        → ((w : ℕ) → 0 < w → g.finished w ≡ false → f.finished w ≡ true → (c : Choice H) × BegunBy f s.chosen w c)
        → (mm : Option (Memory H)) → SuperblockOk q f r (s.members r).slots x → Ahead (s.members r).last x
        → Each (λ m. Tied x m × MemoryOk q f r (s.members r).slots m) mm
        → Invariant q hs (saved f r x.view x.log_view x.checkpoint) (becomes s r (record (s.members r) { last = x; under = None; memory = mm }))
    settle f t fo marks quiet x fins none begun mm ok a mem =
        let z = s.members r in
        let mo = y.members r in
        let k = mo.marked in
        let m = marks r in
        let kv = k.view in let kl = k.log_view in let kc = k.checkpoint in
        let mv = m.0 in let ml = m.1 in let mc = m.2 in
        let av = a.view in let al = a.log_view in let ac = a.checkpoint in
        let v1 : f.view r ≤ x.view = omega arith in
        let v2 : f.log_view r ≤ x.log_view = omega arith in
        let v3 : f.checkpoint r ≤ x.checkpoint = omega arith in
        let h = saved f r x.view x.log_view x.checkpoint in
        let up = saved_grow q hs f fo r x.view x.log_view x.checkpoint v1 v2 v3 ok.order in
        changed q hs g h s y (grow_trans g f h t up) (saved_ok q hs f fo r x.view x.log_view x.checkpoint v1 v2 v3 ok.order) r
        (record z { last = x; under = None; memory = mm })
        (λ i d. let n = marks i in (elsewhere f.view r x.view i d ∙ n.0, elsewhere f.log_view r x.log_view i d ∙ n.1, elsewhere f.checkpoint r x.checkpoint i d ∙ n.2))
        quiet
        (λ w n. elim (fins w n) [ inl e ↦ inl e | inr p ↦ inr (p.0, (let now = here f.log_view r x.log_view in let e = p.1 in omega arith)) ])
        none
        (λ w z n e. let p = begun w z n e in let b = p.1 in (p.0, record { made = b.made; view = b.view; base = b.base; log = b.log }))
        (record {
          marked = record { view = here f.view r x.view; log_view = here f.log_view r x.log_view; checkpoint = here f.checkpoint r x.checkpoint };
          last = superblock_grow q hs f h fo up r z.slots x (λ u k v. v) ok;
          slots = λ j e b. let w = mo.slots j e b in omega arith;
          under = tt;
          memory = each_map (λ m. Tied x m × MemoryOk q f r z.slots m) (λ m. Tied x m × MemoryOk q h r z.slots m) mm
              (λ m _ p. (p.0, memory_grow q hs f h fo up r z.slots m (λ u k v. v) p.1)) mem;
        })

    fins_finish : (v w head : ℕ) → r ≡ v % q.n → (j : ℕ) → g.finished j ≡ false → ((finish g v w head).finished j ≡ false) ⊎ ((r ≡ j % q.n) × (j ≡ v))
    fins_finish v w head lead j = at_finish (λ a b n l. g.finished j ≡ false → (a ≡ false) ⊎ ((r ≡ j % q.n) × (j ≡ v))) g v w head j (λ e f. inr (rw e lead, e)) (λ _ f. inl f)

    none_finish : (v w head j k : ℕ) → (finish g v w head).finished j ≡ true → (finish g v w head).base j < k → k ≤ (finish g v w head).length j → (g.finished j ≡ true) × (g.base j < k) × (k ≤ g.length j)
    none_finish v w head j k = at_finish (λ a b n l. a ≡ true → b < k → k ≤ n → (g.finished j ≡ true) × (g.base j < k) × (k ≤ g.length j)) g v w head j (λ _ _ x z. absurd (omega arith)) (λ _ a b c. (a, b, c))

    pub save_good : (m : Memory H) (named : ℕ → Option H) → Names m named → MemoryOk q g r (s.members r).slots m → Ahead (s.members r).last (superblock m named)
        → Invariant q hs (saved g r m.view m.log_view m.checkpoint) (becomes s r (record (s.members r) { last = superblock m named; under = None; memory = Some m }))
    save_good m named names ok a =
        settle g (grow_refl g) y.history (λ i. (refl, refl, refl)) (λ i u k v. v) (superblock m named) (λ w f. inl f) (λ w k f b l. (f, b, l)) (λ w z a b. absurd (both_ways (g.finished w) a b)) (Some m)
        (save_ok q g r (s.members r).slots m named names ok) a (record { view = refl; log_view = refl; checkpoint = refl }, ok)

    begun_finish : (v : ℕ) (c : Choice H) → In c s.chosen → c.view ≡ v → (w : ℕ) → 0 < w → g.finished w ≡ false
        → (finish g v c.log_view c.head).finished w ≡ true → (d : Choice H) × BegunBy (finish g v c.log_view c.head) s.chosen w d
    begun_finish v c made at w z old new =
        let f = finish g v c.log_view c.head in
        let here : w ≡ v = at_finish (λ a b n l. a ≡ true → w ≡ v) g v c.log_view c.head w (λ e _. e) (λ _ x. absurd (both_ways (g.finished w) old x)) new in (
          c,
          record {
            made = made;
            view = at ∙ sym here;
            base = at_finish (λ a b n l. c.head ≡ b) g v c.log_view c.head w (λ _. refl) (λ ne. absurd (ne here));
            log = λ k le. at_finish (λ a b n l. l k ≡ f.log c.log_view k) g v c.log_view c.head w
                (λ _. at_finish (λ a b n l. g.log c.log_view k ≡ l k) g v c.log_view c.head c.log_view (λ _. refl) (λ _. refl)) (λ ne. absurd (ne here));
          },
        )

    pub choose_good : (m : Memory H) (named : ℕ → Option H) → Names m named → (c : Choice H) → In c s.chosen → c.view ≡ m.log_view
        → Candidate q g m.log_view c.log_view c.head → r ≡ m.log_view % q.n
        → MemoryOk q (finish g m.log_view c.log_view c.head) r (s.members r).slots m → Ahead (s.members r).last (superblock m named)
        → Invariant q hs (saved (finish g m.log_view c.log_view c.head) r m.view m.log_view m.checkpoint)
        (becomes s r (record (s.members r) { last = superblock m named; under = None; memory = Some m }))
    choose_good m named names c made at d lead ok a =
        let w = c.log_view in let head = c.head in
        let f = finish g m.log_view w head in
        settle f (finish_grow q hs g y.history m.log_view w head d) (finish_ok q hs g y.history m.log_view w head d)
        (λ i. (refl, refl, refl)) (λ i u k v. v) (superblock m named) (fins_finish m.log_view w head lead) (none_finish m.log_view w head)
        (begun_finish m.log_view c made at) (Some m)
        (save_ok q f r (s.members r).slots m named names ok) a (record { view = refl; log_view = refl; checkpoint = refl }, ok)

    -- an opening takes the value whose saving was cut
    pub mend_good : (x : Superblock H) → (s.members r).under ≡ Some x
        → (h : History H) × Invariant q hs h (becomes s r (record (s.members r) { last = x; under = None; memory = None }))
    mend_good x e =
        let z = s.members r in
        let u = each_at (λ x. (z.memory ≡ None) × Ahead z.last x × UnderOk q g s.chosen r z.slots x) z.under x e (y.members r).under in
        take x u.1 u.2
      where
        take : (x : Superblock H) → Ahead (s.members r).last x → UnderOk q g s.chosen r (s.members r).slots x
            → (h : History H) × Invariant q hs h (becomes s r (record (s.members r) { last = x; under = None; memory = None }))
        take x a (as_it_was ok) = (
          saved g r x.view x.log_view x.checkpoint,
          settle g (grow_refl g) y.history (λ i. (refl, refl, refl)) (λ i u k v. v) x (λ w f. inl f) (λ w k f b l. (f, b, l)) (λ w z a b. absurd (both_ways (g.finished w) a b)) None ok a tt,
        )
        take x a (to_begin c made at d lead same ok) =
            let w = c.log_view in let head = c.head in
            let f = finish g x.log_view w head in (
              saved f r x.view x.log_view x.checkpoint,
              settle f (finish_grow q hs g y.history x.log_view w head d) (finish_ok q hs g y.history x.log_view w head d)
                  (λ i. (refl, refl, refl)) (λ i u k v. v) x (fins_finish x.log_view w head lead) (none_finish x.log_view w head)
                  (begun_finish x.log_view c made at) None ok a tt,
            )

    pub make_good : (v : ℕ) (e : H) → g.finished v ≡ true → hs.number e ≡ suc (g.length v) → hs.made e ≡ v → hs.follows (g.log v (g.length v)) e ≡ true
        → Invariant q hs (make g v e) (record s { made = made_at v (suc (g.length v)) e ∷ s.made })
    make_good v e f number made on =
        let t = make_grow q hs g y.history v e f number made on in
        let go = make_ok q hs g y.history v e f number made on in
        let b = y.history.based v f in
        record {
          history = go;
          led = λ w a. led_old q hs g (make g v e) s y t go w a;
          members = λ i. member_grow q hs g (make g v e) y.history t s.chosen i (s.members i) refl refl refl (λ u k s. s) (λ x _ _ f. f) (y.members i);
          spoken = λ i u k x. spoken_old q hs g (make g v e) s y t go i u k x;
          facts = λ m i. fact_grow q hs g (make g v e) y.history t m (y.facts m i);
          begun_by = λ w z f. begun_old q hs g (make g v e) s y t go w z f;
          choices = λ c i. choice_grow q hs g (make g v e) y.history t s.sent c (y.choices c i);
          made_all = λ w k a l. at_make (λ n z. k ≤ n → In (made_at w k (z k)) (made_at v (suc (g.length v)) e ∷ s.made)) g v e w
              (λ at le. elim (cases_eq k (suc (g.length v))) [
                | inl same ↦ inl (subst (λ i. made_at w i (update (g.log v) (suc (g.length v)) e i) ≡ made_at v (suc (g.length v)) e) (sym same)
                    (subst (λ i. made_at i (suc (g.length v)) (update (g.log v) (suc (g.length v)) e (suc (g.length v))) ≡ made_at v (suc (g.length v)) e) (sym at)
                    (made_same v (suc (g.length v)) (update (g.log v) (suc (g.length v)) e (suc (g.length v))) e (here (g.log v) (suc (g.length v)) e))))
                | inr ne ↦ inr (subst (λ (z : H). In (made_at w k z) s.made) (let o = elsewhere (g.log v) (suc (g.length v)) e k ne in let b : g.log w k ≡ g.log v k = rw at refl in b ∙ sym o)
                    (y.made_all w k a l (let b : g.length w ≡ g.length v = rw at refl in omega arith)))
              ])
              (λ _ le. inr (y.made_all w k a l le));
          made = λ x. elim [
            | inl i ↦ subst (λ (x : Made H). (g.finished x.view ≡ true) × (g.base x.view < x.number) × InLog (make g v e) x.view x.number x.entry) (sym i) (
              f,
              omega arith,
              (
                omega arith,
                subst (λ (n : ℕ). suc (g.length v) ≤ n) (sym (here g.length v (suc (g.length v)))) (omega arith),
                sym (subst (λ (l : ℕ → H). l (suc (g.length v)) ≡ e) (sym (here g.log v (update (g.log v) (suc (g.length v)) e))) (here (g.log v) (suc (g.length v)) e)),
              ),
            )
            | inr i ↦ made_old q hs g (make g v e) s y t go x i
          ];
        }

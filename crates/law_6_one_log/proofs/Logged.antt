-- In each state that a run of the machine reaches, each header that a value of a superblock names is of an entry that was made.
use Rattle.std.proofs.Common.{ℕ, zero, suc, ◌≤◌, ◌<◌, ◌≡◌, inl, inr, arith, refl, sym, ap, ◌∙◌, subst, Bool, true, cond, List, Option, Some, None}
use Rattle.std.proofs.lemmas.Bool.{cases_lt, eq-eqb}
use Rattle.law_1_machine.specs.Basics.{In, Each, update}
use Rattle.law_1_machine.specs.Quorums.{Quorums}
use Rattle.law_1_machine.specs.Headers.{Headers}
use Rattle.law_1_machine.specs.History.{History, InLog}
use Rattle.law_1_machine.specs.Members.{Choice, Superblock}
use Rattle.law_1_machine.specs.Group.{Group, made_at}
use Rattle.law_1_machine.specs.Claims.{SuperblockOk, UnderOk}
use Rattle.law_1_machine.specs.Claims as claim
use Rattle.law_1_machine.specs.Machine.{Reached}
use Rattle.law_1_machine.specs.Invariant.{Ahead, Invariant}
use Rattle.law_1_machine.proofs.Moves.{reached_good}

pub updated : {X : Type 0} (f : ℕ → X) (r : ℕ) (x : X) → update f r x r ≡ x
unfolding update
updated f r x = ap (λ (t : Bool). cond t x (f r)) (eq-eqb r r refl)

module _ {H : Type 0} (q : Quorums) (hs : Headers H) (g : History H) (s : Group H) (y : Invariant q hs g s) where
  -- the entry was made, in some view
  abbrev WasMadeAt : ℕ → H → Type 0
  WasMadeAt k h = (v : ℕ) × In (made_at v k h) s.made

  -- above the base of a view it was made there, and below it the log is that of an earlier view
  pub logged : (fuel w k : ℕ) → w ≤ fuel → g.finished w ≡ true → 0 < k → k ≤ g.length w → WasMadeAt k (g.log w k)
  logged zero w k l f p b =
      let z : w ≡ 0 = omega (arith, l) in
      let base = ap g.base z ∙ y.history.first.1 in
      (w, y.made_all w k f (omega (arith, base, p)) b)
  logged (suc fuel) w k l f p b =
      elim (cases_lt (g.base w) k) [
        | inl above ↦ (w, y.made_all w k f above b)
        | inr below ↦ elim (cases_lt 0 w) [
          | inr z ↦ (let none : w ≡ 0 = omega (arith, z) in let base = ap g.base none ∙ y.history.first.1 in absurd (omega (arith, base, p, below)))
          | inl later ↦
              let by = y.begun_by w later f in
              let c = by.0 in
              let ok = y.choices c by.1.made in
              let less = ok.less in
              let fits = ok.fits in
              let view = by.1.view in
              let base = by.1.base in
              let rest = logged fuel c.log_view k (omega (arith, l, less, view)) ok.begun p (omega (arith, fits, base, below)) in
              (rest.0, subst (λ (h : H). In (made_at rest.0 k h) s.made) (sym (by.1.log k (omega (arith, base, below)))) rest.1)
        ]
      ]

  in_log : (w k : ℕ) (h : H) → g.finished w ≡ true → InLog g w k h → WasMadeAt k h
  in_log w k h f i = subst (WasMadeAt k) (sym i.2) (logged w w k (omega arith) f i.0 i.1)

  named_made : (r : ℕ) (slots : ℕ → Option H) (x : Superblock H) → SuperblockOk q g r slots x → (k : ℕ) (h : H) → x.named k ≡ Some h → WasMadeAt k h
  named_made r slots x o k h e = in_log x.log_view k h o.knows.begun (o.knows.of_log k h e)

  under_made : (chosen : List (Choice H)) (r : ℕ) (slots : ℕ → Option H) (x : Superblock H) → UnderOk q g chosen r slots x → (k : ℕ) (h : H) → x.named k ≡ Some h → WasMadeAt k h
  under_made chosen r slots x (claim.as_it_was o) k h e = named_made r slots x o k h e
  under_made chosen r slots x (claim.to_begin c i v d l m o) k h e =
      let at = o.knows.of_log k h e in
      let size : k ≤ c.head = subst (λ (n : ℕ). k ≤ n) (updated g.length x.log_view c.head) at.1 in
      let fits = d.fits in
      let of : h ≡ g.log c.log_view k = at.2 ∙ ap (λ (f : ℕ → H). f k) (updated g.log x.log_view (g.log c.log_view)) in
      in_log c.log_view k h d.begun (at.0, omega (arith, size, fits), of)

  pub last_named : (r k : ℕ) (h : H) → (s.members r).last.named k ≡ Some h → WasMadeAt k h
  last_named r k h e = let o = y.members r in named_made r (s.members r).slots (s.members r).last o.last k h e

  pub cut_named : (r k : ℕ) (x : Superblock H) (h : H) → (s.members r).under ≡ Some x → x.named k ≡ Some h → WasMadeAt k h
  cut_named r k x h u e =
      let o = subst (Each (λ (x : Superblock H). ((s.members r).memory ≡ None) × Ahead (s.members r).last x × UnderOk q g s.chosen r (s.members r).slots x)) u (y.members r).under in
      under_made s.chosen r (s.members r).slots x o.2 k h e

pub record NamedMade {H : Type 0} (s : Group H) : Type 0 where
  pub last : (r k : ℕ) (h : H) → (s.members r).last.named k ≡ Some h → (v : ℕ) × In (made_at v k h) s.made
  pub under : (r k : ℕ) (x : Superblock H) (h : H) → (s.members r).under ≡ Some x → x.named k ≡ Some h → (v : ℕ) × In (made_at v k h) s.made

pub named_made_reached : {H : Type 0} (q : Quorums) (hs : Headers H) (s : Group H) → Reached q hs s → NamedMade s
named_made_reached q hs s r =
    let y = reached_good q hs s r in
    record { last = λ i k h e. last_named q hs y.0 s y.1 i k h e; under = λ i k x h u e. cut_named q hs y.0 s y.1 i k x h u e }

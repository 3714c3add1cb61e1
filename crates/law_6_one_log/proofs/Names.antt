-- What a run of the group hashes was hashed in its lines.
use Rattle.std.proofs.Common.{ℕ, ◌≡◌, ◌⊎◌, inl, inr, refl, sym, subst, List, [], ◌∷◌, ◌++◌, length, Some}
use Rattle.std.specs.Prelude.{Contains, slice_get}
use Rattle.std.specs.List.{AllByRecursion}
use Rattle.std.proofs.lemmas.List.{append-nil}
use Rattle.vr_header.specs.declared.header.Header.{Header}
use Rattle.vr_header.specs.Names.{root_header}
use Rattle.vr_header.specs.Spelling.{named_bytes}
use Rattle.vr_world.specs.Group.{Played}
use Rattle.vr_world.specs.Lying.{Lying, hazards}
use Rattle.vr_world.specs.Safe as safe
use Rattle.vr_world.specs.Safe.{disks_of, given, read, wrote}
use Rattle.vr_rules.specs.Steps.{Effect}
use Rattle.vr_world.specs.World.{Happening, World, happens}
use Rattle.law_4_disks.specs.Worlds.{IsOneMove, begun_in, moved_once, read_in, unmoved}
use Rattle.law_2_chains.proofs.StoredLists.{contains_in, in_contains}
use Rattle.law_3_outputs.proofs.Traces.{in_either}
use Rattle.law_6_one_log.specs.Schedules.{IsHashedOf, IsUsedAt}

pub contains_none : {X : Type 0} (x : X) → Contains [] x → ⊥
contains_none x h = contains_in x [] h

-- ---- of one move

disks_in : (ds : List Lying) (p q : Played) (d : Lying) → (disks_of p.move ≡ []) ⊎ (disks_of p.move ≡ ds) → q ≡ p → Contains (disks_of q.move) d → Contains ds d
disks_in ds p q d (inl none) same c = absurd (contains_none d (subst (λ (xs : List Lying). Contains xs d) none (subst (λ (z : Played). Contains (disks_of z.move) d) same c)))
disks_in ds p q d (inr all) same c = subst (λ (xs : List Lying). Contains xs d) all (subst (λ (z : Played). Contains (disks_of z.move) d) same c)

effects_in : (es : List Effect) (p q : Played) (e : Effect) → p.moved.script ≡ es → q ≡ p → Contains q.moved.script e → Contains es e
effects_in es p q e is same c = subst (λ (xs : List Effect). Contains xs e) is (subst (λ (z : Played). Contains z.moved.script e) same c)

played : (past : List Played) (p q : Played) → Contains (past ++ p ∷ []) q → Contains past q ⊎ (q ≡ p)
played past p q c =
    elim (in_either past (p ∷ []) q (contains_in q (past ++ p ∷ []) c)) [
      | inl old ↦ inl (in_contains q past old)
      | inr new ↦ elim new [ inl same ↦ inr same | inr none ↦ absurd none ]
    ]

module _ (w : World Lying) (x : Happening) where
  pub used : (past run : List Played) → IsOneMove (begun_in w x) (read_in w x) run → (c : Header) (bytes : List ℕ) → safe.IsHashed (past ++ run) c bytes → safe.IsHashed past c bytes ⊎ IsUsedAt w x bytes
  used past _ (unmoved none) c bytes h = inl (subst (λ (ps : List Played). safe.IsHashed ps c bytes) (append-nil past) h)
  used past _ (moved_once p script disks) c bytes (read q d _ i j r) =
      elim (played past p q i) [
        | inl old ↦ inl (read q d bytes old j r)
        | inr same ↦ inr (inl (d, disks_in (read_in w x) p q d disks same j, r))
      ]
  used past _ (moved_once p script disks) c bytes (wrote q e _ i j r) =
      elim (played past p q i) [
        | inl old ↦ inl (wrote q e bytes old j r)
        | inr same ↦ inr (inr (e, effects_in (begun_in w x) p q e script same j, r))
      ]
  used past _ (moved_once p script disks) c _ given = inl given

-- ---- of all that came before, and of none

pub hashed_both : (a b : List Played) (c : Header) (bytes : List ℕ) → safe.IsHashed (a ++ b) c bytes → safe.IsHashed a c bytes ⊎ safe.IsHashed b c bytes
hashed_both a b c bytes (read q d _ i j r) =
    elim (in_either a b q (contains_in q (a ++ b) i)) [
      | inl first ↦ inl (read q d bytes (in_contains q a first) j r)
      | inr later ↦ inr (read q d bytes (in_contains q b later) j r)
    ]
hashed_both a b c bytes (wrote q e _ i j r) =
    elim (in_either a b q (contains_in q (a ++ b) i)) [
      | inl first ↦ inl (wrote q e bytes (in_contains q a first) j r)
      | inr later ↦ inr (wrote q e bytes (in_contains q b later) j r)
    ]
hashed_both a b c _ given = inl given

last_at : (past : List Played) (p : Played) → slice_get (past ++ p ∷ []) (length past) ≡ Some p
last_at [] p = refl
last_at (q ∷ past) p = last_at past p

-- the effects that are begun in a line are those of its move
pub begun_so : (P : Effect → Type 0) (past run : List Played) (es : List Effect) (ds : List Lying) → IsOneMove es ds run → ((t : ℕ) (p : Played) → slice_get (past ++ run) t ≡ Some p → AllByRecursion P p.moved.script) → AllByRecursion P es
begun_so P past _ es ds (unmoved none) all = subst (AllByRecursion P) (sym none) tt
begun_so P past _ es ds (moved_once p script disks) all = subst (AllByRecursion P) script (all (length past) p (last_at past p))

pub root_hashed : (home : ℕ) (xs : List Happening) (w : World Lying) → IsHashedOf home w xs (named_bytes (root_header home))
root_hashed home [] w = refl
root_hashed home (x ∷ xs) w = inr (root_hashed home xs (happens hazards w x).world)

pub none_hashed : (home : ℕ) (xs : List Happening) (w : World Lying) (bytes : List ℕ) → safe.IsHashed [] (root_header home) bytes → IsHashedOf home w xs bytes
none_hashed home xs w bytes (read q d _ i j r) = absurd (contains_none q i)
none_hashed home xs w bytes (wrote q e _ i j r) = absurd (contains_none q i)
none_hashed home xs w _ given = root_hashed home xs w

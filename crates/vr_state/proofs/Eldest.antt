-- The session that gives way is the oldest.
use Rattle.std.proofs.Common.{◌≡◌, ℕ, ◌<◌, ◌≤◌, List, [], ◌∷◌, ◌++◌, length, fold, Option, Some, Bool, true, false, leb, cond, refl, sym, ◌∙◌, ap, subst, arith}
use Rattle.std.specs.List.{AllByRecursion}
use Rattle.std.specs.Ordering.{is_lt, nat_cmp}
use Rattle.std.specs.Cmp.{unsigned_ties}
use Rattle.std.specs.FinMap.Entries.{below_all, find, is_sorted}
use Rattle.std.proofs.lemmas.Bool.{and_parts, ltb-true, leb-true, leb-false, ne_eqb, eq-eqb}
use Rattle.std.proofs.lemmas.List.{append_assoc, append-nil}
use Rattle.vr_state.specs.Finite.{IsMap}
use Rattle.vr_state.specs.declared.session.Session.{Session}
use Rattle.vr_state.specs.Sessions.{Map, older, oldest, IsOldest}
use Rattle.vr_state.proofs.Ascending.{is_lt_nat_cmp}

pub All_append : {X : Type 0} (P : X → Type 0) (xs ys : List X) → AllByRecursion P xs → AllByRecursion P ys → AllByRecursion P (xs ++ ys)
All_append P [] ys h g = g
All_append P (x ∷ xs) ys h g = (h.0, All_append P xs ys h.1 g)

pub All_weaker : {X : Type 0} (P Q : X → Type 0) → ((x : X) → P x → Q x) → (xs : List X) → AllByRecursion P xs → AllByRecursion Q xs
All_weaker P Q f [] h = tt
All_weaker P Q f (x ∷ xs) h = (f x h.0, All_weaker P Q f xs h.1)

-- the oldest, with its op
record IsOldestAt (m : Map) (d : ℕ × ℕ) : Type 0 where
  is : IsOldest m d.0
  op : is.session.op ≡ d.1

stays : (seen : Map) (d : ℕ × ℕ) (e : ℕ × Session) → IsOldestAt seen d → d.1 ≤ e.1.op → IsOldestAt (seen ++ e ∷ []) d
stays seen d e o above =
    let last : o.is.session.op ≤ e.1.op = omega (arith, o.op) in
    record {
      is = record {
        session = o.is.session;
        before = o.is.before;
        after = o.is.after ++ e ∷ [];
        among = ap (λ xs. xs ++ e ∷ []) o.is.among ∙ append_assoc o.is.before ((d.0, o.is.session) ∷ o.is.after) (e ∷ []);
        first = o.is.first;
        least = All_append (λ x. o.is.session.op ≤ x.1.op) o.is.after (e ∷ []) o.is.least (last, tt);
      };
      op = o.op;
    }

gives_way : (seen : Map) (d : ℕ × ℕ) (e : ℕ × Session) → IsOldestAt seen d → e.1.op < d.1 → IsOldestAt (seen ++ e ∷ []) (e.0, e.1.op)
gives_way seen d e o below =
    let lower : e.1.op < o.is.session.op = omega (arith, o.op) in
    let front = All_weaker (λ x. o.is.session.op < x.1.op) (λ x. e.1.op < x.1.op) (λ x h. omega arith) o.is.before o.is.first in
    let behind = All_weaker (λ x. o.is.session.op ≤ x.1.op) (λ x. e.1.op < x.1.op) (λ x h. omega arith) o.is.after o.is.least in
    record {
      is = record {
        session = e.1;
        before = seen;
        after = [];
        among = refl;
        first = subst (AllByRecursion (λ x. e.1.op < x.1.op)) (sym o.is.among) (All_append (λ x. e.1.op < x.1.op) o.is.before ((d.0, o.is.session) ∷ o.is.after) front (lower, behind));
        least = tt;
      };
      op = refl;
    }

record Settles (m : Map) (o : Option (ℕ × ℕ)) : Type 0 where
  client : ℕ × ℕ
  found : o ≡ Some client
  at : IsOldestAt m client

settles : (seen rest : Map) (d : ℕ × ℕ) → IsOldestAt seen d → Settles (seen ++ rest) (fold (λ d e. older d e.0 e.1.op) (Some d) rest)
settles seen [] d o = record { client = d; found = refl; at = subst (λ m. IsOldestAt m d) (sym (append-nil seen)) o }
settles seen (e ∷ es) d o =
    let step = λ (x : Option (ℕ × ℕ)) (y : ℕ × Session). older x y.0 y.1.op in
    let by : (b : Bool) → leb d.1 e.1.op ≡ b → Settles ((seen ++ e ∷ []) ++ es) (fold step (cond b (Some d) (Some (e.0, e.1.op))) es) = elim [
      | true ↦ λ h. settles (seen ++ e ∷ []) es d (stays seen d e o (leb-true d.1 e.1.op h))
      | false ↦ λ h. settles (seen ++ e ∷ []) es (e.0, e.1.op) (gives_way seen d e o (leb-false d.1 e.1.op h))
    ] in
    subst (λ m. Settles m (fold step (older (Some d) e.0 e.1.op) es)) (append_assoc seen (e ∷ []) es) (by (leb d.1 e.1.op) refl)

-- where there is a session the oldest is found
pub record Found (m : Map) : Type 0 where
  pub client : ℕ
  pub op : ℕ
  pub found : oldest m ≡ Some (client, op)
  pub is : IsOldest m client

pub oldest_found : (m : Map) → 0 < length m → Found m
unfolding oldest
oldest_found [] some = absurd (omega arith)
oldest_found (e ∷ es) some =
    let alone : IsOldestAt (e ∷ []) (e.0, e.1.op) = record { is = record { session = e.1; before = []; after = []; among = refl; first = tt; least = tt }; op = refl } in
    let s = settles (e ∷ []) es (e.0, e.1.op) alone in
    record { client = s.client.0; op = s.client.1; found = s.found; is = s.at.is }

-- a key is below each that stands after it
pub below_member : (key : ℕ) (before : Map) (e : ℕ × Session) (after : Map) → below_all nat_cmp key (before ++ (e ∷ after)) ≡ true → key < e.0
below_member key [] e after h = ltb-true key e.0 (sym (is_lt_nat_cmp key e.0) ∙ (and_parts (is_lt (nat_cmp key e.0)) (below_all nat_cmp key after) h).0)
below_member key (x ∷ xs) e after h = below_member key xs e after (and_parts (is_lt (nat_cmp key x.0)) (below_all nat_cmp key (xs ++ (e ∷ after))) h).1

pub find_among : (before : Map) (e : ℕ × Session) (after : Map) → IsMap nat_cmp (before ++ (e ∷ after)) → find nat_cmp e.0 (before ++ (e ∷ after)) ≡ Some e.1
find_among [] e after h = ap (λ b. cond b (Some e.1) (find nat_cmp e.0 after)) (sym (unsigned_ties e.0 e.0) ∙ eq-eqb e.0 e.0 refl)
find_among (x ∷ xs) e after h =
    let parts = and_parts (below_all nat_cmp x.0 (xs ++ (e ∷ after))) (is_sorted nat_cmp (xs ++ (e ∷ after))) h in
    let lower = below_member x.0 xs e after parts.0 in
    ap (λ b. cond b (Some x.1) (find nat_cmp e.0 (xs ++ (e ∷ after)))) (sym (unsigned_ties e.0 x.0) ∙ ne_eqb e.0 x.0 (λ same. omega arith)) ∙ find_among xs e after parts.1

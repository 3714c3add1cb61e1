-- The headers' == is equality.
use Rattle.std.proofs.Common.{◌≡◌, true, refl, subst, ℕ, List, eqb}
use Rattle.std.specs.Bool.{Decides}
use Rattle.std.specs.Str.{bytes_eq}
use Rattle.std.proofs.lemmas.Bool.{and_parts, eqb-true, eq-eqb}
use Rattle.std.proofs.lemmas.Slice.Eq.{bytes_eq-Decides}
use denote.Enum.Bare.{same_true, true_same}
use Rattle.vr_base.specs.declared.sum.Sum.{Sum}
use Rattle.vr_base.specs.contracts.sum.SumPartialEq.TheImpl as sum
use Rattle.vr_header.specs.contracts.command.Command.{the_type}
use Rattle.vr_header.specs.contracts.header.HeaderPartialEq.TheImpl as compared
use Rattle.vr_header.specs.declared.header.Header.{Header}
use Rattle.vr_header.specs.Same.{same_header}

sum_is : (a b : Sum) → sum.ghosts.eq a b ≡ true → a ≡ b
sum_is a b h = let bytes = (bytes_eq-Decides a.0 b.0).0 h in λ i. record { 0 = bytes i }

pub same_header_is : (a b : Header) → same_header a b ≡ true → a ≡ b
unfolding same_header
same_header_is a b h =
    let p0 = and_parts _ _ h in
    let p1 = and_parts _ _ p0.1 in
    let p2 = and_parts _ _ p1.1 in
    let p3 = and_parts _ _ p2.1 in
    let p4 = and_parts _ _ p3.1 in
    let p5 = and_parts _ _ p4.1 in
    let p6 = and_parts _ _ p5.1 in
    let p7 = and_parts _ _ p6.1 in
    let p8 = and_parts _ _ p7.1 in
    let p9 = and_parts _ _ p8.1 in
    let p10 = and_parts _ _ p9.1 in
    let p11 = and_parts _ _ p10.1 in
    let p12 = and_parts _ _ p11.1 in
    let p13 = and_parts _ _ p12.1 in
    let body = sum_is a.body b.body p0.0 in
    let parent = sum_is a.parent b.parent p1.0 in
    let request_name = sum_is a.request_name b.request_name p2.0 in
    let cluster = eqb-true a.cluster b.cluster p3.0 in
    let client = eqb-true a.client b.client p4.0 in
    let request = eqb-true a.request b.request p5.0 in
    let view = eqb-true a.view b.view p6.0 in
    let op = eqb-true a.op b.op p7.0 in
    let commit = eqb-true a.commit b.commit p8.0 in
    let size = eqb-true a.size b.size p9.0 in
    let command = same_true the_type tt a.command b.command p10.0 in
    let replica = eqb-true a.replica b.replica p11.0 in
    let version = eqb-true a.version b.version p12.0 in
    let kind = eqb-true a.kind b.kind p13.0 in
    let aux = eqb-true a.aux b.aux p13.1 in
    λ i. record {
      body = body i;
      parent = parent i;
      request_name = request_name i;
      cluster = cluster i;
      client = client i;
      request = request i;
      view = view i;
      op = op i;
      commit = commit i;
      size = size i;
      command = command i;
      replica = replica i;
      version = version i;
      kind = kind i;
      aux = aux i;
    }

pub same_header_of : (a b : Header) → a ≡ b → same_header a b ≡ true
unfolding same_header
same_header_of a b e =
    let P : Header → Type 0 = λ x. compared.ghosts.eq a x ≡ true in
    let bytes : (xs : List ℕ) → bytes_eq xs xs ≡ true = λ xs. (bytes_eq-Decides xs xs).1 refl in
    let number : (n : ℕ) → eqb n n ≡ true = λ n. eq-eqb n n refl in
    subst P e (rw (
      bytes a.body.0,
      bytes a.parent.0,
      bytes a.request_name.0,
      number a.cluster,
      number a.client,
      number a.request,
      number a.view,
      number a.op,
      number a.commit,
      number a.size,
      true_same the_type a.command a.command refl,
      number a.replica,
      number a.version,
      number a.kind,
      number a.aux,
    ) refl)

pub same_header-Decides : (a b : Header) → Decides (same_header a b) (a ≡ b)
same_header-Decides a b = (same_header_is a b, same_header_of a b)

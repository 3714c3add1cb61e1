-- The bytes of a block, both ways.
use Rattle.std.proofs.Common.{ℕ, ◌+◌, ◌-◌, ◌≤◌, ◌<◌, ◌≡◌, arith, refl, sym, ap, ◌∙◌, true, false, cond, eqb, leb, ltb, ◌&&◌, List, ◌++◌, length, take, drop, Option, Some, None, Result, Ok, Err, length-append, length-drop, subst}
use Rattle.std.specs.Prelude.{replicate, nat_eq, IfOk}
use Rattle.std.specs.Option.{option_map}
use Rattle.std.specs.Cmp.Lexicographic.{pointwise}
use Rattle.std.proofs.lemmas.Bool.{and_parts, and_from, eqb-true, eq-eqb, leb-true, le-leb, ltb-true, lt-ltb}
use Rattle.std.proofs.lemmas.List.{take_at, drop_at, take-append-drop, take-take, drop-drop, length-replicate}
use Rattle.std.proofs.lemmas.Slice.Eq.{bytes_eq-Decides}
use Rattle.vr_base.specs.Bytes.{IsBytes, is_zeros, name_of, piece}
use Rattle.vr_base.proofs.ZeroLaws.{are_zeros, zeros_are}
use Rattle.vr_base.proofs.AreBytes.{IsBytes-name_of, IsBytes-zeros}
use Rattle.vr_base.proofs.FieldLaws.{length-name_of, length-piece}
use Rattle.vr_header.specs.Names.{header_name}
use Rattle.vr_header.specs.Same.{same_header}
use Rattle.vr_header.specs.Spelling.{IsHeader, Spells, decoded, header_bytes, named_bytes}
use Rattle.vr_header.specs.declared.header.Header.{Header}
use Rattle.vr_header.specs.declared.header.HeaderFault.{HeaderFault}
use Rattle.vr_header.proofs.HeaderLaws.{decoded_again, decoded_found, length-header_bytes}
use Rattle.vr_header.proofs.NameLaws.{one_header_of_bytes}
use Rattle.vr_header.proofs.SameHeaders.{same_header_is, same_header_of}
use Rattle.vr_ckpt.specs.Blocks.{Content, IsContent, block_bytes, block_header, block_name, content_at, content_of, has_name, if_named, is_block, is_kind, named, with_header}
use Rattle.vr_ckpt.specs.Places.{grid_size}
use Rattle.vr_ckpt.specs.GridLaws.{OneBlock, OneSpelling, OwnNames}
use Rattle.vr_ckpt.specs.declared.name.Name.{Name}

-- ---- the header

kind_below : (k : ℕ) → is_kind k ≡ true → k < 256
kind_below k e =
    elim (eqb k 2) as (λ b. eqb k 2 ≡ b → k < 256) [
      | true ↦ λ t. let s = eqb-true k 2 t in omega arith
      | false ↦ λ t. let s : eqb k 3 ≡ true = rw t at e in let z = eqb-true k 3 s in omega arith
    ] refl

pub header_is : (c : Content) → IsContent c → IsHeader (block_header c)
unfolding block_header
header_is c h =
    let n = h.payload in
    let a = h.address in
    let k = kind_below c.kind h.kind in
    record {
      body = length-name_of c.payload;
      body_bytes = IsBytes-name_of c.payload;
      parent = refl;
      parent_bytes = IsBytes-zeros 16;
      request_name = refl;
      request_name_bytes = IsBytes-zeros 16;
      cluster = h.cluster;
      client = omega arith;
      request = omega arith;
      view = omega arith;
      op = h.op;
      commit = omega arith;
      size = (omega arith, omega arith);
      replica = omega arith;
      version = (omega arith, omega arith);
      kind = omega arith;
      aux = omega arith;
    }

-- what stands after the header
behind_header : (c : Content) → IsContent c → drop 128 (block_bytes c) ≡ c.payload ++ replicate (3968 - length c.payload) 0
unfolding block_bytes
behind_header c h = drop_at (header_bytes (block_header c)) _ 128 (length-header_bytes (block_header c) (header_is c h))

pub length-block_bytes : (c : Content) → IsContent c → length (block_bytes c) ≡ 4096
unfolding block_bytes
length-block_bytes c h =
    let a = length-append (header_bytes (block_header c)) (c.payload ++ replicate (3968 - length c.payload) 0) in
    let b = length-append c.payload (replicate (3968 - length c.payload) 0) in
    let d : length (replicate {A = ℕ} (3968 - length c.payload) 0) ≡ 3968 - length c.payload = length-replicate (3968 - length c.payload) 0 in
    let e = length-header_bytes (block_header c) (header_is c h) in
    let n = h.payload in
    omega arith

spells : (c : Content) → IsContent c → Spells (block_header c) (block_bytes c)
unfolding block_bytes
spells c h = take_at (header_bytes (block_header c)) _ 128 (length-header_bytes (block_header c) (header_is c h))

payload_there : (c : Content) → IsContent c → piece 128 (128 + length c.payload - 128) (block_bytes c) ≡ c.payload
unfolding piece
payload_there c h =
    let n : 128 + length c.payload - 128 ≡ length c.payload = omega arith in
    rw (n, behind_header c h) (take_at c.payload _ (length c.payload) refl)

content_there : (c : Content) → IsContent c → content_at (block_header c) (block_bytes c) ≡ c
unfolding block_header
content_there c h = ap (λ p. let x : Content = record { cluster = c.cluster; address = c.address; op = c.op; kind = c.kind; payload = p } in x) (payload_there c h)

rest_there : (c : Content) → IsContent c → drop (128 + length c.payload) (block_bytes c) ≡ replicate (3968 - length c.payload) 0
rest_there c h =
    let n : 128 + length c.payload ≡ 128 + length c.payload = refl in
    sym (drop-drop (length c.payload) 128 (block_bytes c)) ∙ (ap (drop (length c.payload)) (behind_header c h) ∙ drop_at c.payload _ (length c.payload) refl)

size_fits : (c : Content) → IsContent c → (block_header c).size ≤ 4096
unfolding block_header
size_fits c h = let n = h.payload in omega arith

kind_stands : (c : Content) → IsContent c → is_kind (block_header c).kind ≡ true
unfolding block_header
kind_stands c h = h.kind

aux_fits : (c : Content) → IsContent c → ltb (block_header c).aux grid_size ≡ true
unfolding block_header
aux_fits c h = lt-ltb c.address grid_size h.address

rest_at : (c : Content) → IsContent c → drop (block_header c).size (block_bytes c) ≡ replicate (3968 - length c.payload) 0
unfolding block_header
rest_at c h = rest_there c h

is_there : (c : Content) → IsContent c → is_block (block_header c) (block_bytes c) ≡ true
unfolding is_block
is_there c h =
    let hd = block_header c in
    let b = block_bytes c in
    and_from (leb hd.size 4096) _ (le-leb hd.size 4096 (size_fits c h))
    (and_from (is_kind hd.kind) _ (kind_stands c h)
    (and_from (ltb hd.aux grid_size) _ (aux_fits c h)
    (and_from (is_zeros (drop hd.size b)) _ (ap is_zeros (rest_at c h) ∙ zeros_are (3968 - length c.payload))
    (same_header_of hd (block_header (content_at hd b)) (ap block_header (sym (content_there c h)))))))

pub content_again : (c : Content) → IsContent c → content_of (block_bytes c) ≡ Some c
unfolding content_of
content_again c h =
    rw (eq-eqb (length (block_bytes c)) 4096 (length-block_bytes c h), decoded_again (block_header c) (block_bytes c) (header_is c h) (spells c h), is_there c h)
    (ap Some (content_there c h))

-- ---- the content of bytes

-- a whole block, part by part
pub record Read (b : List ℕ) (c : Content) : Type 0 where
  pub header : Header
  pub size : length b ≡ 4096
  pub read : decoded b ≡ Ok header
  pub is : is_block header b ≡ true
  pub content : content_at header b ≡ c

read_by : (b : List ℕ) (c : Content) (r : Result Header HeaderFault) → length b ≡ 4096 → decoded b ≡ r → with_header b r ≡ Some c → Read b c
read_by b c (Err x) l d e = absurd cc
read_by b c (Ok h) l d e =
    elim (is_block h b) as (λ t. is_block h b ≡ t → cond t (Some (content_at h b)) None ≡ Some c → Read b c) [
      | true ↦ λ t e. let same : content_at h b ≡ c = cc in record { header = h; size = l; read = d; is = t; content = same }
      | false ↦ λ t e. absurd cc
    ] refl e

pub read_of : (b : List ℕ) (c : Content) → content_of b ≡ Some c → Read b c
unfolding content_of
read_of b c e =
    elim (eqb (length b) 4096) as (λ t. eqb (length b) 4096 ≡ t → cond t (with_header b (decoded b)) None ≡ Some c → Read b c) [
      | true ↦ λ t e. read_by b c (decoded b) (eqb-true (length b) 4096 t) refl e
      | false ↦ λ t e. absurd cc
    ] refl e

-- what the test of a block says
pub record Sound (h : Header) (b : List ℕ) : Type 0 where
  pub size : h.size ≤ 4096
  pub kind : is_kind h.kind ≡ true
  pub address : h.aux < grid_size
  pub zeros : is_zeros (drop h.size b) ≡ true
  pub same : h ≡ block_header (content_at h b)

pub sound_of : (h : Header) (b : List ℕ) → is_block h b ≡ true → Sound h b
unfolding is_block
sound_of h b e =
    let s = same_header h (block_header (content_at h b)) in
    let p = and_parts (leb h.size 4096) _ e in
    let q = and_parts (is_kind h.kind) _ p.1 in
    let r = and_parts (ltb h.aux grid_size) _ q.1 in
    let t = and_parts (is_zeros (drop h.size b)) s r.1 in
    record {
      size = leb-true h.size 4096 p.0;
      kind = q.0;
      address = ltb-true h.aux grid_size r.0;
      zeros = t.0;
      same = same_header_is h (block_header (content_at h b)) t.1;
    }

payload_is : (b : List ℕ) (n : ℕ) → take n (drop 128 b) ≡ piece 128 n b
unfolding piece
payload_is b n = refl

found_header : (b : List ℕ) (h : Header) → IsBytes b → decoded b ≡ Ok h → Spells h b × IsHeader h
found_header b h i e = let p = decoded_found b i in let q : IfOk {E = HeaderFault} (Ok h) (λ h. Spells h b × IsHeader h) = rw e at p in q

found_there : (b : List ℕ) (h : Header) → IsBytes b → length b ≡ 4096 → Spells h b × IsHeader h → Sound h b → (b ≡ block_bytes (content_at h b)) × IsContent (content_at h b)
unfolding block_bytes
found_there b h i l f s =
    let c = content_at h b in
    let n = h.size - 128 in
    let least = f.1.size.0 in
    let most = s.size in
    let size : length c.payload ≡ n = length-piece 128 n b (omega arith) in
    let rest : drop n (drop 128 b) ≡ replicate (3968 - length c.payload) 0 =
    drop-drop n 128 b ∙ (ap (λ m. drop m b) (omega arith) ∙ (are_zeros (drop h.size b) s.zeros ∙ ap (λ m. replicate m 0) (let d = length-drop h.size b in omega arith))) in
    let behind : drop 128 b ≡ c.payload ++ replicate (3968 - length c.payload) 0 = sym (take-append-drop n (drop 128 b)) ∙ (ap (λ x. x ++ drop n (drop 128 b)) (payload_is b n) ∙ ap (λ x. c.payload ++ x) rest) in
    let front : take 128 b ≡ header_bytes (block_header c) = f.0 ∙ ap header_bytes s.same in (
      sym (take-append-drop 128 b) ∙ (ap (λ x. x ++ drop 128 b) front ∙ ap (λ x. header_bytes (block_header c) ++ x) behind),
      record { cluster = f.1.cluster; address = s.address; op = f.1.op; kind = s.kind; payload = omega arith },
    )

pub content_found : (b : List ℕ) (c : Content) → IsBytes b → content_of b ≡ Some c → (b ≡ block_bytes c) × IsContent c
content_found b c i e =
    let r = read_of b c e in
    subst (λ (c : Content). (b ≡ block_bytes c) × IsContent c) r.content (found_there b r.header i r.size (found_header b r.header i r.read) (sound_of r.header b r.is))

pub one_spelling : OneSpelling
one_spelling = record { found = content_found; again = content_again }

-- ---- names

-- where a content has a name
pub name_is : (name : Name) (c : Content) → has_name name c ≡ true → block_name c ≡ name
name_is name c e =
    let p = and_parts (eqb c.address name.address) (pointwise nat_eq (header_name (block_header c)).0 name.sum.0) e in
    let a : c.address ≡ name.address = eqb-true c.address name.address p.0 in
    let s : (header_name (block_header c)).0 ≡ name.sum.0 = (bytes_eq-Decides (header_name (block_header c)).0 name.sum.0).0 p.1 in
    ap (λ (n : ℕ). let x : Name = record { address = n; sum = header_name (block_header c) } in x) a
    ∙ ap (λ (b : List ℕ). let x : Name = record { address = name.address; sum = record { 0 = b } } in x) s

pub name_has : (c : Content) → has_name (block_name c) c ≡ true
name_has c = and_from (eqb c.address c.address) _ (eq-eqb c.address c.address refl) ((bytes_eq-Decides (header_name (block_header c)).0 (header_name (block_header c)).0).1 refl)

named_by : (name : Name) (o : Option Content) (c : Content) → if_named name o ≡ Some c → (o ≡ Some c) × (has_name name c ≡ true)
named_by name None c e = absurd cc
named_by name (Some d) c e =
    elim (has_name name d) as (λ t. has_name name d ≡ t → cond t (Some d) None ≡ Some c → (Some d ≡ Some c) × (has_name name c ≡ true)) [
      | true ↦ λ t e. (e, let same : d ≡ c = cc in subst (λ (d : Content). has_name name d ≡ true) same t)
      | false ↦ λ t e. absurd cc
    ] refl e

pub named_found : (name : Name) (b : List ℕ) (c : Content) → named name b ≡ Some c → (content_of b ≡ Some c) × (block_name c ≡ name)
unfolding named
named_found name b c e = let p = named_by name (content_of b) c e in (p.0, name_is name c p.1)

pub named_again : (c : Content) → IsContent c → named (block_name c) (block_bytes c) ≡ Some c
unfolding named
named_again c h = rw (content_again c h, name_has c) refl

pub own_names : OwnNames
own_names = record { found = named_found; again = named_again }

-- ---- one block of a name

same_content : (c d : Content) → block_header c ≡ block_header d → c.payload ≡ d.payload → c ≡ d
unfolding block_header
same_content c d e p =
    let cluster : c.cluster ≡ d.cluster = ap (λ (h : Header). h.cluster) e in
    let address : c.address ≡ d.address = ap (λ (h : Header). h.aux) e in
    let op : c.op ≡ d.op = ap (λ (h : Header). h.op) e in
    let kind : c.kind ≡ d.kind = ap (λ (h : Header). h.kind) e in
    ap (λ (n : ℕ). let x : Content = record { cluster = n; address = c.address; op = c.op; kind = c.kind; payload = c.payload } in x) cluster
    ∙ (ap (λ (n : ℕ). let x : Content = record { cluster = d.cluster; address = n; op = c.op; kind = c.kind; payload = c.payload } in x) address
    ∙ (ap (λ (n : ℕ). let x : Content = record { cluster = d.cluster; address = d.address; op = n; kind = c.kind; payload = c.payload } in x) op
    ∙ (ap (λ (n : ℕ). let x : Content = record { cluster = d.cluster; address = d.address; op = d.op; kind = n; payload = c.payload } in x) kind
    ∙ ap (λ (b : List ℕ). let x : Content = record { cluster = d.cluster; address = d.address; op = d.op; kind = d.kind; payload = b } in x) p)))

body_of : (c d : Content) → block_header c ≡ block_header d → name_of c.payload ≡ name_of d.payload
unfolding block_header
body_of c d e = ap (λ (h : Header). h.body.0) e

pub one_block : OneBlock
one_block c d h k apart heads e =
    let names : name_of (named_bytes (block_header c)) ≡ name_of (named_bytes (block_header d)) = ap (λ (n : Name). n.sum.0) e in
    let same = one_header_of_bytes (block_header c) (block_header d) (header_is c h) (header_is d k) (heads names) in
    same_content c d same (apart (body_of c d same))

-- ---- judged in the program

-- the name stands in front of the header

pub payload_size : (h : Header) (b : List ℕ) → length b ≡ 4096 → 128 ≤ h.size → h.size ≤ 4096 → length (content_at h b).payload ≡ h.size - 128
payload_size h b l a s = length-piece 128 (h.size - 128) b (omega arith)

pub sum_in : (b : List ℕ) (h : Header) → Spells h b → piece 0 16 b ≡ (header_name h).0
unfolding header_bytes piece
sum_in b h e =
    let n = name_of (named_bytes h) in
    sym (take-take 16 128 b (omega arith)) ∙ (ap (take 16) e ∙ take_at n (named_bytes h) 16 (length-name_of (named_bytes h)))

pub sum_there : (b : List ℕ) (h : Header) → IsBytes b → decoded b ≡ Ok h → piece 0 16 b ≡ (header_name h).0
sum_there b h i e = sum_in b h (found_header b h i e).0

-- the payload's length
pub behind_is : (h : Header) (b : List ℕ) (name : Name) (n : ℕ) → length b ≡ 4096 → 128 ≤ h.size → decoded b ≡ Ok h → is_block h b ≡ true
    → ((eqb h.aux name.address) && pointwise nat_eq (header_name h).0 name.sum.0) ≡ true → n ≡ h.size - 128
    → Some n ≡ option_map (λ (c : Content). length c.payload) (named name b)
unfolding named content_of
behind_is h b name n l a d t e m =
    let s = sound_of h b t in
    let c = content_at h b in
    let has : has_name name c ≡ true = subst (λ (x : Header). ((eqb h.aux name.address) && pointwise nat_eq (header_name x).0 name.sum.0) ≡ true) s.same e in
    rw (eq-eqb (length b) 4096 l, d, t, has) (ap Some (m ∙ sym (payload_size h b l a s.size)))

pub behind_not : (h : Header) (b : List ℕ) (name : Name) → length b ≡ 4096 → decoded b ≡ Ok h → is_block h b ≡ false → None ≡ option_map (λ (c : Content). length c.payload) (named name b)
unfolding named content_of
behind_not h b name l d t = rw (eq-eqb (length b) 4096 l, d, t) refl

pub behind_other : (h : Header) (b : List ℕ) (name : Name) → length b ≡ 4096 → decoded b ≡ Ok h → is_block h b ≡ true
    → ((eqb h.aux name.address) && pointwise nat_eq (header_name h).0 name.sum.0) ≡ false → None ≡ option_map (λ (c : Content). length c.payload) (named name b)
unfolding named content_of
behind_other h b name l d t e =
    let s = sound_of h b t in
    let c = content_at h b in
    let has : has_name name c ≡ false = subst (λ (x : Header). ((eqb h.aux name.address) && pointwise nat_eq (header_name x).0 name.sum.0) ≡ false) s.same e in
    rw (eq-eqb (length b) 4096 l, d, t, has) refl

pub no_header : (b : List ℕ) (name : Name) (x : HeaderFault) → length b ≡ 4096 → decoded b ≡ Err x → None ≡ option_map (λ (c : Content). length c.payload) (named name b)
unfolding named content_of
no_header b name x l d = rw (eq-eqb (length b) 4096 l, d) refl

-- ---- put

pub fits_address : (b : List ℕ) (c : Content) → content_of b ≡ Some c → c.address < grid_size
fits_address b c e = let r = read_of b c e in let s = sound_of r.header b r.is in let a = s.address in subst (λ (c : Content). c.address < grid_size) r.content a

-- a whole block's header tells a size from 128 to 4,096
pub sizes_of : (b : List ℕ) (c : Content) → IsBytes b → (r : Read b c) → (128 ≤ r.header.size) × (r.header.size ≤ 4096)
sizes_of b c i r = ((found_header b r.header i r.read).1.size.0, (sound_of r.header b r.is).size)

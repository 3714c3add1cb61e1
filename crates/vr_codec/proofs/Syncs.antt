-- A checkpoint before a log: what is spelled is read, and what is read is spelled so.
use Rattle.std.proofs.Common.{◌≡◌, ℕ, ◌+◌, ◌^◌, ◌≤◌, ◌<◌, Bool, true, false, cond, eqb, leb, ltb, List, ◌++◌, length, take, drop, refl, sym, ap, ◌∙◌, arith, append_assoc, length-append}
use Rattle.std.specs.Prelude.{◌%◌, not}
use Rattle.std.specs.Int.{w64}
use Rattle.std.proofs.lemmas.Bool.{eq-eqb, eqb-true, leb-false, leb-true, le-ltb, lt-ltb, ltb-false, ltb-true}
use Rattle.std.proofs.lemmas.List.{drop_at, take_at, take-append-drop}
use Rattle.vr_base.specs.Bytes.{IsBytes, bytes64, number, piece}
use Rattle.vr_base.proofs.FieldLaws.{length-bytes64, number64_back, number64_of}
use Rattle.vr_base.proofs.Places.{drop_both, take_both}
use Rattle.vr_header.specs.declared.header.Header.{Header}
use Rattle.vr_msg.specs.declared.frame.SyncView.{SyncView}
use Rattle.vr_msg.specs.Spelling.{headers_bytes, sync_bytes}
use Rattle.vr_codec.specs.Shapes.{checkpoint_fits, log_fits, sync_fits}

-- what stands where in the bytes of one
pub record SyncParts (v : SyncView) (b : List ℕ) : Type 0 where
  pub long : 32 ≤ length b
  pub checkpoint : number w64 0 b ≡ v.checkpoint
  pub address : number w64 8 b ≡ v.root_address
  pub name : piece 16 16 b ≡ v.root_name.0
  pub rest : drop 32 b ≡ headers_bytes v.body.headers

pub sync_parts : (v : SyncView) → v.checkpoint < 2 ^ 64 → v.root_address < 2 ^ 64 → length v.root_name.0 ≡ 16 → SyncParts v (sync_bytes v)
unfolding piece
sync_parts v c a n =
    let x = bytes64 v.checkpoint in
    let y = bytes64 v.root_address in
    let z = v.root_name.0 in
    let hs = headers_bytes v.body.headers in
    let b = x ++ (y ++ (z ++ hs)) in
    let lx = length-bytes64 v.checkpoint in
    let ly = length-bytes64 v.root_address in
    let eight : drop 8 b ≡ y ++ (z ++ hs) = drop_at x (y ++ (z ++ hs)) 8 lx in
    let sixteen : drop 16 b ≡ z ++ hs = sym (drop_both 8 8 b) ∙ (ap (drop 8) eight ∙ drop_at y (z ++ hs) 8 ly) in
    record {
      long = omega (arith, length-append x (y ++ (z ++ hs)), length-append y (z ++ hs), length-append z hs, lx, ly, n);
      checkpoint = number64_of 0 v.checkpoint b (take_at x (y ++ (z ++ hs)) 8 lx) c;
      address = number64_of 8 v.root_address b (ap (take 8) eight ∙ take_at y (z ++ hs) 8 ly) a;
      name = ap (take 16) sixteen ∙ take_at z hs 16 n;
      rest = sym (drop_both 16 16 b) ∙ (ap (drop 16) sixteen ∙ drop_at z hs 16 n);
    }

lt-not_le : (a b : ℕ) → b < a → leb a b ≡ false
lt-not_le a b l =
    let cases : (t : Bool) → leb a b ≡ t → t ≡ false =
    elim [
      | true ↦ λ e. absurd (let z = leb-true a b e in omega arith)
      | false ↦ λ e. refl
    ] in
    cases (leb a b) refl

pub checkpoint_true : (h : Header) (c a : ℕ) → c % 32 ≡ 0 → h.aux < c → c ≤ h.commit → a < 128 → checkpoint_fits h c a ≡ true
unfolding checkpoint_fits
checkpoint_true h c a e l u g = rw (eq-eqb (c % 32) 0 e, lt-not_le c h.aux l, le-ltb h.commit c u) (lt-ltb a 128 g)

-- what the tests of one found
pub record SyncFound (h : Header) (body : List ℕ) : Type 0 where
  pub long : 32 ≤ length body
  pub every : number w64 0 body % 32 ≡ 0
  pub above : h.aux < number w64 0 body
  pub committed : number w64 0 body ≤ h.commit
  pub address : number w64 8 body < 128
  pub log : log_fits h (drop 32 body) ≡ true

before : (t x : Bool) → cond t false x ≡ true → (t ≡ false) × (x ≡ true)
before true x e = absurd cc
before false x e = (refl, e)

next : (t x : Bool) → cond (not t) false x ≡ true → (t ≡ true) × (x ≡ true)
next true x e = (refl, e)
next false x e = absurd cc

checkpoint_there : (h : Header) (c a : ℕ) → checkpoint_fits h c a ≡ true → (c % 32 ≡ 0) × (h.aux < c) × (c ≤ h.commit) × (a < 128)
unfolding checkpoint_fits
checkpoint_there h c a e =
    let every = next (eqb (c % 32) 0) _ e in
    let above = before (leb c h.aux) _ every.1 in
    let committed = before (ltb h.commit c) _ above.1 in
    (eqb-true (c % 32) 0 every.0, leb-false c h.aux above.0, ltb-false h.commit c committed.0, ltb-true a 128 committed.1)

pub sync_found : (h : Header) (body : List ℕ) → sync_fits h body ≡ true → SyncFound h body
unfolding sync_fits
sync_found h body e =
    let long = before (ltb (length body) 32) _ e in
    let checkpoint = next (checkpoint_fits h (number w64 0 body) (number w64 8 body)) _ long.1 in
    let c = checkpoint_there h (number w64 0 body) (number w64 8 body) checkpoint.0 in
    record {
      long = ltb-false (length body) 32 long.0;
      every = c.0;
      above = c.1;
      committed = c.2;
      address = c.3;
      log = checkpoint.1;
    }

pub sync_spelled : (b : List ℕ) → IsBytes b → 32 ≤ length b → bytes64 (number w64 0 b) ++ (bytes64 (number w64 8 b) ++ (piece 16 16 b ++ drop 32 b)) ≡ b
unfolding piece
sync_spelled b i l =
    let checkpoint : bytes64 (number w64 0 b) ≡ take 8 b = (number64_back 0 b i (omega arith)).0 in
    let address : bytes64 (number w64 8 b) ≡ take 8 (drop 8 b) = (number64_back 8 b i (omega arith)).0 in
    ap (λ x. x ++ (bytes64 (number w64 8 b) ++ (take 16 (drop 16 b) ++ drop 32 b))) checkpoint
    ∙ (ap (λ y. take 8 b ++ (y ++ (take 16 (drop 16 b) ++ drop 32 b))) address ∙ joins b)
  where
    joins : (b : List ℕ) → take 8 b ++ (take 8 (drop 8 b) ++ (take 16 (drop 16 b) ++ drop 32 b)) ≡ b
    joins b =
        sym (append_assoc (take 8 b) (take 8 (drop 8 b)) (take 16 (drop 16 b) ++ drop 32 b))
        ∙ (ap (λ x. x ++ (take 16 (drop 16 b) ++ drop 32 b)) (take_both 8 8 b)
        ∙ (sym (append_assoc (take 16 b) (take 16 (drop 16 b)) (drop 32 b))
        ∙ (ap (λ x. x ++ drop 32 b) (take_both 16 16 b) ∙ take-append-drop 32 b)))

-- A body that is read is spelled so, and what is spelled so is read.
use Rattle.std.proofs.Common.{◌≡◌, ℕ, zero, suc, ◌^◌, ◌≤◌, ◌<◌, Bool, true, false, cond, eqb, List, [], ◌∷◌, ◌++◌, length, take, drop, get_or, refl, sym, ap, ◌∙◌, arith, Option, Some, None, length-append, length-take}
use Rattle.std.specs.Prelude.{◌&&◌, IsTrue, IfSome, nat_le, nat_lt}
use Rattle.std.specs.Option.{option_map}
use Rattle.std.specs.Int.{from_be_bytes, w16}
use Rattle.std.specs.List.{list_all}
use Rattle.std.proofs.lemmas.Bool.{le-ltb, le-leb, eq-eqb, eqb-true, leb-true, ltb-false}
use Rattle.std.proofs.lemmas.List.{take_at, drop_at, take-append-drop}
use Rattle.std.proofs.lemmas.Nat.{be_bytes_2, from_be_bytes-to_be_bytes_2}
use Rattle.vr_base.specs.Bytes.{IsBytes, bytes16}
use Rattle.vr_header.specs.declared.operation.Operation.{Operation}
use Rattle.vr_header.specs.declared.operation.Operation.TheVariants.{Register, Put, Get, Delete}
use Rattle.vr_header.specs.declared.outcome.Outcome.{Outcome}
use Rattle.vr_header.specs.declared.outcome.Outcome.TheVariants as outcome
use Rattle.vr_header.specs.Text.{is_printable, is_text, text_of}
use Rattle.vr_header.specs.Bodies.{IsOperation, IsOutcome, key_of, operation_bytes, operation_of, outcome_bytes, outcome_of, pair_of, value_of}
use Rattle.vr_base.specs.Versions.{value_limit}
use Rattle.vr_base.proofs.Versions.{between}
use Rattle.vr_header.proofs.Truths.{both}

-- a text is no longer than its limit
pub text_limit : (limit : ℕ) (text : List ℕ) → IsTrue (is_text limit text) → length text ≤ limit
unfolding is_text
text_limit limit text h =
    let all = both (nat_le 1 (length text) && nat_le (length text) limit) (list_all is_printable text) h in
    let lengths = both (nat_le 1 (length text)) (nat_le (length text) limit) all.0 in
    leb-true (length text) limit lengths.1

-- nor than a greater one
pub text_more : (a b : ℕ) (text : List ℕ) → a ≤ b → IsTrue (is_text a text) → IsTrue (is_text b text)
unfolding is_text
text_more a b text l h =
    let all = both (nat_le 1 (length text) && nat_le (length text) a) (list_all is_printable text) h in
    let lengths = both (nat_le 1 (length text)) (nat_le (length text) a) all.0 in
    let m = leb-true (length text) a lengths.1 in
    rw (lengths.0, le-leb (length text) b (omega arith), all.1) refl

-- what a version has, version 2 has
pub any_operation : (v : ℕ) (o : Operation) → IsOperation v o → IsOperation 2 o
any_operation v Register h = tt
any_operation v (Put key value) h = (h.0, text_more (value_limit v) 3000 value ((between v 1024 3000 (omega arith)).1) h.1)
any_operation v (Get key) h = h
any_operation v (Delete key) h = h

pub any_outcome : (v : ℕ) (o : Outcome) → IsOutcome v o → IsOutcome 2 o
any_outcome v outcome.Session h = tt
any_outcome v outcome.Ok h = tt
any_outcome v outcome.Full h = tt
any_outcome v outcome.Absent h = tt
any_outcome v (outcome.Value value) h = text_more (value_limit v) 3000 value ((between v 1024 3000 (omega arith)).1) h

key_again : (key : List ℕ) → IsTrue (is_text 64 key) → key_of (length key ∷ key) ≡ Some key
unfolding key_of
key_again key h = rw (eq-eqb (length key) (length key) refl, h) refl

value_again : (limit : ℕ) (value : List ℕ) → limit < 2 ^ 16 → IsTrue (is_text limit value) → value_of limit (bytes16 (length value) ++ value) ≡ Some value
unfolding value_of bytes16
value_again limit value few h =
    let n = length value in
    let small : n < 2 ^ 16 = (let l = text_limit limit value h in omega (arith, few)) in
    rw (from_be_bytes-to_be_bytes_2 n small, eq-eqb n n refl, h) refl

pair_again : (limit : ℕ) (key value : List ℕ) → limit < 2 ^ 16 → IsTrue (is_text 64 key) → IsTrue (is_text limit value) → pair_of limit ((length key ∷ bytes16 (length value)) ++ (key ++ value)) ≡ Some (Put key value)
unfolding pair_of bytes16
pair_again limit key value few hk hv =
    let n = length value in
    let small : n < 2 ^ 16 = (let l = text_limit limit value hv in omega (arith, few)) in
    let long : length key ≤ length (key ++ value) = omega (arith, length-append key value) in
    rw (le-ltb (length (key ++ value)) (length key) long, take_at key value (length key) refl, drop_at key value (length key) refl, from_be_bytes-to_be_bytes_2 n small, eq-eqb n n refl, hk, hv) refl

few : (v : ℕ) → value_limit v < 2 ^ 16
few v = let l = between v 1024 3000 (omega arith) in omega (arith, l)

-- what is spelled so is read
pub operation_again : (v : ℕ) (o : Operation) → IsOperation v o → operation_of v (operation_bytes o) ≡ Some o
unfolding operation_of operation_bytes
operation_again v Register h = refl
operation_again v (Put key value) h = pair_again (value_limit v) key value (few v) h.0 h.1
operation_again v (Get key) h = rw (key_again key h) refl
operation_again v (Delete key) h = rw (key_again key h) refl

pub outcome_again : (v : ℕ) (o : Outcome) → IsOutcome v o → outcome_of v (outcome_bytes o) ≡ Some o
unfolding outcome_of outcome_bytes
outcome_again v outcome.Session h = refl
outcome_again v outcome.Ok h = refl
outcome_again v outcome.Full h = refl
outcome_again v outcome.Absent h = refl
outcome_again v (outcome.Value value) h = rw (value_again (value_limit v) value (few v) h) refl

-- ---- what is read is spelled so

-- what holds where a test let something through
pub through : {A : Type 0} (P : A → Type 0) (t : Bool) (o : Option A) → (t ≡ true → IfSome o P) → IfSome (cond t o None) P
through P true o f = f refl
through P false o f = tt

-- one of two ways
pub either : {A : Type 0} (P : A → Type 0) (t : Bool) (o p : Option A) → (t ≡ true → IfSome o P) → IfSome p P → IfSome (cond t o p) P
either P true o p f g = f refl
either P false o p f g = g

pub mapped : {A B : Type 0} (P : B → Type 0) (make : A → B) (o : Option A) → IfSome o (λ x. P (make x)) → IfSome (option_map make o) P
mapped P make (Some x) h = h
mapped P make None h = tt

key_found : (b : List ℕ) → IfSome (key_of b) (λ key. (b ≡ length key ∷ key) × IsTrue (is_text 64 key))
unfolding key_of
key_found [] = tt
key_found (n ∷ key) =
    let P : List ℕ → Type 0 = λ k. (n ∷ key ≡ length k ∷ k) × IsTrue (is_text 64 k) in
    through P (eqb (length key) n) (text_of 64 key) (λ e. through P (is_text 64 key) (Some key) (λ t. (ap (λ m. m ∷ key) (sym (eqb-true (length key) n e)), t)))

two : (high low n : ℕ) → high < 256 → low < 256 → n ≡ from_be_bytes w16 (high ∷ low ∷ []) → bytes16 n ≡ high ∷ low ∷ []
unfolding bytes16
two high low n h l e = be_bytes_2 (high ∷ low ∷ []) n refl (at high low h l) e
  where
    at : (high low : ℕ) → high < 256 → low < 256 → (i : ℕ) → get_or (high ∷ low ∷ []) i 0 < 256
    at high low h l zero = h
    at high low h l (suc zero) = l
    at high low h l (suc (suc i)) = omega arith

value_found : (limit : ℕ) (b : List ℕ) → IsBytes b → IfSome (value_of limit b) (λ value. (b ≡ bytes16 (length value) ++ value) × IsTrue (is_text limit value))
unfolding value_of
value_found limit [] f = tt
value_found limit (high ∷ []) f = tt
value_found limit (high ∷ low ∷ value) f =
    let P : List ℕ → Type 0 = λ v. (high ∷ low ∷ value ≡ bytes16 (length v) ++ v) × IsTrue (is_text limit v) in
    through P (eqb (length value) (from_be_bytes w16 (high ∷ low ∷ []))) (text_of limit value) (λ e. through P (is_text limit value) (Some value) (λ t.
    (ap (λ x. x ++ value) (sym (two high low (length value) (f 0) (f 1) (eqb-true (length value) (from_be_bytes w16 (high ∷ low ∷ [])) e))), t)))

-- the other way of a test
unless : {A : Type 0} (P : A → Type 0) (t : Bool) (o : Option A) → (t ≡ false → IfSome o P) → IfSome (cond t None o) P
unless P true o f = tt
unless P false o f = f refl

pair_found : (v : ℕ) (b : List ℕ) → IsBytes b → IfSome (pair_of (value_limit v) b) (λ o. (2 ∷ b ≡ operation_bytes o) × IsOperation v o)
unfolding pair_of operation_bytes
pair_found v [] f = tt
pair_found v (n ∷ []) f = tt
pair_found v (n ∷ high ∷ []) f = tt
pair_found v (n ∷ high ∷ low ∷ texts) f =
    let P : Operation → Type 0 = λ o. (2 ∷ n ∷ high ∷ low ∷ texts ≡ operation_bytes o) × IsOperation v o in
    let key = take n texts in
    let value = drop n texts in
    let size = eqb (length value) (from_be_bytes w16 (high ∷ low ∷ [])) in
    unless P (nat_lt (length texts) n) _ (λ long.
    through P (size && (is_text 64 key && is_text (value_limit v) value)) (Some (Put key value)) (λ t.
    let a = both size (is_text 64 key && is_text (value_limit v) value) t in
    let c = both (is_text 64 key) (is_text (value_limit v) value) a.1 in
    let len : length key ≡ n = (let l = length-take n texts in let m = ltb-false (length texts) n long in omega arith) in
    let lengths = two high low (length value) (f 1) (f 2) (eqb-true (length value) (from_be_bytes w16 (high ∷ low ∷ [])) a.0) in
    (rw (len, lengths, take-append-drop) refl, (c.0, c.1))))

weaker : {A : Type 0} (P Q : A → Type 0) (o : Option A) → ((x : A) → P x → Q x) → IfSome o P → IfSome o Q
weaker P Q (Some x) f h = f x h
weaker P Q None f h = tt

alone : (kind code : ℕ) (rest : List ℕ) → eqb kind code ≡ true → eqb (length rest) 0 ≡ true → kind ∷ rest ≡ code ∷ []
alone kind code [] e z = ap (λ n. n ∷ []) (eqb-true kind code e)
alone kind code (x ∷ rest) e z = let n = eqb-true (length (x ∷ rest)) 0 z in absurd (omega arith)

keyed : (v kind code : ℕ) (make : List ℕ → Operation) (rest : List ℕ) → kind ≡ code → ((key : List ℕ) → operation_bytes (make key) ≡ code ∷ length key ∷ key)
    → ((key : List ℕ) → IsTrue (is_text 64 key) → IsOperation v (make key)) → IfSome (key_of rest) (λ key. (kind ∷ rest ≡ operation_bytes (make key)) × IsOperation v (make key))
keyed v kind code make rest k spelled sound =
    let P : List ℕ → Type 0 = λ key. (rest ≡ length key ∷ key) × IsTrue (is_text 64 key) in
    let Q : List ℕ → Type 0 = λ key. (kind ∷ rest ≡ operation_bytes (make key)) × IsOperation v (make key) in
    weaker P Q (key_of rest) (λ key h. (ap (λ n. n ∷ rest) k ∙ (ap (λ r. code ∷ r) h.0 ∙ sym (spelled key)), sound key h.1)) (key_found rest)

-- what is read is spelled so
pub operation_found : (v : ℕ) (b : List ℕ) → IsBytes b → IfSome (operation_of v b) (λ o. (b ≡ operation_bytes o) × IsOperation v o)
unfolding operation_of operation_bytes
operation_found v [] f = tt
operation_found v (kind ∷ rest) f =
    let P : Operation → Type 0 = λ o. (kind ∷ rest ≡ operation_bytes o) × IsOperation v o in
    let bytes : IsBytes rest = λ i. f (suc i) in
    either P (eqb kind 1) _ _ (λ e. through P (eqb (length rest) 0) (Some Register) (λ z. (alone kind 1 rest e z, tt)))
    (either P (eqb kind 2) _ _ (λ e. let k = eqb-true kind 2 e in rw k (pair_found v rest bytes))
    (either P (eqb kind 3) _ _ (λ e. mapped P Get (key_of rest) (keyed v kind 3 Get rest (eqb-true kind 3 e) (λ key. refl) (λ key h. h)))
    (through P (eqb kind 4) _ (λ e. mapped P Delete (key_of rest) (keyed v kind 4 Delete rest (eqb-true kind 4 e) (λ key. refl) (λ key h. h))))))

pub outcome_found : (v : ℕ) (b : List ℕ) → IsBytes b → IfSome (outcome_of v b) (λ o. (b ≡ outcome_bytes o) × IsOutcome v o)
unfolding outcome_of outcome_bytes
outcome_found v [] f = tt
outcome_found v (kind ∷ rest) f =
    let P : Outcome → Type 0 = λ o. (kind ∷ rest ≡ outcome_bytes o) × IsOutcome v o in
    let V : List ℕ → Type 0 = λ x. (rest ≡ bytes16 (length x) ++ x) × IsTrue (is_text (value_limit v) x) in
    let bytes : IsBytes rest = λ i. f (suc i) in
    either P (eqb kind 5) _ _ (λ e. mapped P outcome.Value (value_of (value_limit v) rest)
    (weaker V (λ x. P (outcome.Value x)) (value_of (value_limit v) rest) (λ x h. (ap (λ n. n ∷ rest) (eqb-true kind 5 e) ∙ ap (λ r. 5 ∷ r) h.0, h.1)) (value_found (value_limit v) rest bytes)))
    (through P (eqb (length rest) 0) _ (λ z.
    either P (eqb kind 1) (Some outcome.Session) _ (λ e. (alone kind 1 rest e z, tt))
    (either P (eqb kind 2) (Some outcome.Ok) _ (λ e. (alone kind 2 rest e z, tt))
    (either P (eqb kind 3) (Some outcome.Full) _ (λ e. (alone kind 3 rest e z, tt))
    (through P (eqb kind 4) (Some outcome.Absent) (λ e. (alone kind 4 rest e z, tt)))))))

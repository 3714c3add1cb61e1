-- A session is read back from its text, and so are all together.
use Rattle.std.proofs.Common.{◌≡◌, ℕ, ◌+◌, ◌*◌, ◌^◌, ◌<◌, ◌≤◌, List, [], ◌∷◌, ◌++◌, length, Option, Some, None, Ok, Bool, true, false, eqb, leb, cond, refl, sym, ◌∙◌, ap, subst, arith}
use Rattle.std.specs.List.{AllByRecursion, flat_map}
use Rattle.std.specs.Option.{option_and_then}
use Rattle.std.specs.Ordering.{nat_cmp}
use Rattle.std.specs.Int.{w16, w32, w64}
use Rattle.std.proofs.lemmas.Bool.{eqb-true, leb-true, le-leb}
use Rattle.std.proofs.lemmas.List.{append_assoc, length-append}
use Rattle.vr_base.specs.Bytes.{IsBytes, bytes16, bytes32, bytes64}
use Rattle.vr_base.proofs.FieldLaws.{length-bytes16, length-bytes32, length-bytes64}
use Rattle.vr_base.specs.Versions.{session_limit, value_limit}
use Rattle.vr_header.specs.Bodies.{outcome_bytes}
use Rattle.vr_header.specs.Text.{is_text, text_of}
use Rattle.vr_header.specs.declared.outcome.Outcome.{Outcome}
use Rattle.vr_header.specs.declared.outcome.Outcome.TheVariants as outcome
use Rattle.vr_state.specs.declared.fault.StateFault.{StateFault}
use Rattle.vr_state.specs.Front.{byte_from, number_from, piece_from}
use Rattle.vr_state.specs.Table.{table_text, IsOrNoMemory, IsFirstFault}
use Rattle.vr_state.proofs.Fronts.{byte_reads, byte_only, number_reads, number_only, number_small, piece_reads, piece_only, field16, field32, field64, IsBytes-behind, same_some}
use Rattle.vr_state.proofs.Tables.{IsReader, decoded-table_text, table_text-one, decoded_first, decoded_found}
use Rattle.vr_state.specs.declared.session.Session.{Session}
use Rattle.vr_state.specs.Sessions.{Map, OutcomeFits, Fits, IsSessions, last_op}
use Rattle.vr_state.specs.SessionTexts.{session_text, session_bytes, sessions_bytes, value_from, outcome_of, outcome_from, numbers_from, session_from, sessions_text, sessions_decoded}
use Rattle.vr_state.proofs.Values.{value_length}

-- what a look-up that goes on gave
pub and_then_some : {A B : Type 0} (f : A → Option B) (o : Option A) (y : B) → option_and_then f o ≡ Some y → (x : A) × (o ≡ Some x) × (f x ≡ Some y)
and_then_some f None y e = absurd cc
and_then_some f (Some x) y e = (x, refl, e)

-- what a test let through
pub chosen : {A : Type 0} (b : Bool) (x y : A) → cond b (Some x) None ≡ Some y → (b ≡ true) × (x ≡ y)
chosen true x y e = (refl, same_some x y e)
chosen false x y e = absurd cc

value_reads : (value rest : List ℕ) → is_text (value_limit 2) value ≡ true → value_from (bytes16 (length value) ++ (value ++ rest)) ≡ Some (outcome.Value value, rest)
unfolding value_from
value_reads value rest text =
    rw (number_reads bytes16 w16 (2 ^ 16) field16 (length value) (value ++ rest) (omega (arith, value_length value text)), piece_reads (length value) value rest refl, text) refl

outcome_reads : (o : Outcome) (rest : List ℕ) → OutcomeFits o → outcome_from (outcome_bytes o ++ rest) ≡ Some (o, rest)
unfolding outcome_from outcome_of outcome_bytes
outcome_reads outcome.Session rest fits = rw (byte_reads 1 rest) refl
outcome_reads outcome.Ok rest fits = rw (byte_reads 2 rest) refl
outcome_reads outcome.Full rest fits = rw (byte_reads 3 rest) refl
outcome_reads outcome.Absent rest fits = rw (byte_reads 4 rest) refl
outcome_reads (outcome.Value value) rest fits =
    rw (append_assoc (bytes16 (length value)) value rest, byte_reads 5 (bytes16 (length value) ++ (value ++ rest))) (value_reads value rest fits)

regroup : (a b c d rest : List ℕ) → (a ++ (b ++ (c ++ d))) ++ rest ≡ a ++ (b ++ (c ++ (d ++ rest)))
regroup a b c d rest = simp append_assoc

session_reads : (e : ℕ × Session) (rest : List ℕ) → Fits e → session_from (session_text e ++ rest) ≡ Some (e, rest)
unfolding session_text session_from numbers_from
session_reads e rest fits =
    rw (
      regroup (bytes64 e.0) (bytes32 e.1.number) (bytes64 e.1.op) (outcome_bytes e.1.outcome) rest,
      number_reads bytes64 w64 (2 ^ 64) field64 e.0 (bytes32 e.1.number ++ (bytes64 e.1.op ++ (outcome_bytes e.1.outcome ++ rest))) fits.client,
      number_reads bytes32 w32 (2 ^ 32) field32 e.1.number (bytes64 e.1.op ++ (outcome_bytes e.1.outcome ++ rest)) fits.number,
      number_reads bytes64 w64 (2 ^ 64) field64 e.1.op (outcome_bytes e.1.outcome ++ rest) (omega (arith, fits.op)),
      le-leb e.1.op last_op fits.op,
      outcome_reads e.1.outcome rest fits.outcome,
    ) refl

-- a value after its length, as it stands after the kind
value_is : (bytes behind rest : List ℕ) (n : ℕ) (value piece after : List ℕ) (o : Outcome) → bytes ≡ bytes16 n ++ behind → behind ≡ piece ++ after → length piece ≡ n → piece ≡ value → is_text (value_limit 2) piece ≡ true
    → outcome.Value value ≡ o → after ≡ rest → OutcomeFits o × (5 ∷ bytes ≡ outcome_bytes o ++ rest)
unfolding outcome_bytes
value_is bytes behind rest n value piece after o is_number is_piece long same text is_o is_rest =
    subst (λ p. OutcomeFits p × (5 ∷ bytes ≡ outcome_bytes p ++ rest)) is_o (
      ap (is_text (value_limit 2)) (sym same) ∙ text,
      ap (λ t. 5 ∷ t) (is_number ∙ (ap (λ t. bytes16 n ++ t) (is_piece ∙ (ap (λ t. t ++ after) same ∙ ap (λ t. value ++ t) is_rest))
          ∙ (ap (λ k. bytes16 k ++ (value ++ rest)) (sym long ∙ ap length same) ∙ sym (append_assoc (bytes16 (length value)) value rest)))),
    )

plain_only : (kind : ℕ) (bytes : List ℕ) (k : ℕ) (p o : Outcome) (rest : List ℕ) → kind ≡ k → OutcomeFits p → ((after : List ℕ) → outcome_bytes p ++ after ≡ k ∷ after)
    → ◌≡◌ {A = Option (Outcome × List ℕ)} (Some (p, bytes)) (Some (o, rest)) → OutcomeFits o × (kind ∷ bytes ≡ outcome_bytes o ++ rest)
plain_only kind bytes k p o rest is fits spelled e =
    let whole = same_some (p, bytes) (o, rest) e in
    let same : bytes ≡ rest = ap (λ (x : Outcome × List ℕ). x.1) whole in
    subst (λ q. OutcomeFits q × (kind ∷ bytes ≡ outcome_bytes q ++ rest)) (ap (λ (x : Outcome × List ℕ). x.0) whole)
    (fits, ap (λ x. x ∷ bytes) is ∙ (ap (λ t. k ∷ t) same ∙ sym (spelled rest)))

value_only : (bytes : List ℕ) → IsBytes bytes → (o : Outcome) (rest : List ℕ) → value_from bytes ≡ Some (o, rest) → OutcomeFits o × (5 ∷ bytes ≡ outcome_bytes o ++ rest)
unfolding value_from outcome_bytes
value_only bytes are o rest is =
    let n = and_then_some _ (number_from w16 bytes) (o, rest) is in
    let piece = and_then_some _ (piece_from n.0.0 n.0.1) (o, rest) n.2 in
    let value = and_then_some _ (text_of (value_limit 2) piece.0.0) (o, rest) piece.2 in
    let text = chosen (is_text (value_limit 2) piece.0.0) piece.0.0 value.0 value.1 in
    let whole = same_some (outcome.Value value.0, piece.0.1) (o, rest) value.2 in
    let number = number_only bytes16 w16 (2 ^ 16) field16 bytes are n.0.0 n.0.1 n.1 in
    let front = piece_only n.0.0 n.0.1 piece.0.0 piece.0.1 piece.1 in
    value_is bytes n.0.1 rest n.0.0 value.0 piece.0.0 piece.0.1 o number front.0 front.1 text.1 text.0 (ap (λ (p : Outcome × List ℕ). p.0) whole) (ap (λ (p : Outcome × List ℕ). p.1) whole)

outcome_of_only : (kind : ℕ) (bytes : List ℕ) → IsBytes bytes → (o : Outcome) (rest : List ℕ) → outcome_of kind bytes ≡ Some (o, rest) → OutcomeFits o × (kind ∷ bytes ≡ outcome_bytes o ++ rest)
unfolding outcome_of outcome_bytes
outcome_of_only kind bytes are o rest =
    let Goal = λ (r : Option (Outcome × List ℕ)). r ≡ Some (o, rest) → OutcomeFits o × (kind ∷ bytes ≡ outcome_bytes o ++ rest) in
    let plain : (k : ℕ) (p : Outcome) → kind ≡ k → OutcomeFits p → ((after : List ℕ) → outcome_bytes p ++ after ≡ k ∷ after) → Goal (Some (p, bytes)) = λ k p is fits spelled e. plain_only kind bytes k p o rest is fits spelled e in
    let by : (b1 b2 b3 b4 b5 : Bool) → eqb kind 1 ≡ b1 → eqb kind 2 ≡ b2 → eqb kind 3 ≡ b3 → eqb kind 4 ≡ b4 → eqb kind 5 ≡ b5
    → Goal (cond b1 (Some (outcome.Session, bytes)) (cond b2 (Some (outcome.Ok, bytes)) (cond b3 (Some (outcome.Full, bytes)) (cond b4 (Some (outcome.Absent, bytes)) (cond b5 (value_from bytes) None))))) = elim [
      | true ↦ λ b2 b3 b4 b5 e1 e2 e3 e4 e5. plain 1 outcome.Session (eqb-true kind 1 e1) tt (λ after. refl)
      | false ↦ elim [
        | true ↦ λ b3 b4 b5 e1 e2 e3 e4 e5. plain 2 outcome.Ok (eqb-true kind 2 e2) tt (λ after. refl)
        | false ↦ elim [
          | true ↦ λ b4 b5 e1 e2 e3 e4 e5. plain 3 outcome.Full (eqb-true kind 3 e3) tt (λ after. refl)
          | false ↦ elim [
            | true ↦ λ b5 e1 e2 e3 e4 e5. plain 4 outcome.Absent (eqb-true kind 4 e4) tt (λ after. refl)
            | false ↦ elim [
              | true ↦ λ e1 e2 e3 e4 e5 e. let five = eqb-true kind 5 e5 in subst (λ k. OutcomeFits o × (k ∷ bytes ≡ outcome_bytes o ++ rest)) (sym five) (value_only bytes are o rest e)
              | false ↦ λ e1 e2 e3 e4 e5 e. absurd cc
            ]
          ]
        ]
      ]
    ] in
    by (eqb kind 1) (eqb kind 2) (eqb kind 3) (eqb kind 4) (eqb kind 5) refl refl refl refl refl

outcome_only : (bytes : List ℕ) → IsBytes bytes → (o : Outcome) (rest : List ℕ) → outcome_from bytes ≡ Some (o, rest) → OutcomeFits o × (bytes ≡ outcome_bytes o ++ rest)
unfolding outcome_from
outcome_only bytes are o rest is =
    let kind = and_then_some _ (byte_from bytes) (o, rest) is in
    let whole : bytes ≡ kind.0.0 ∷ kind.0.1 = byte_only bytes kind.0.0 kind.0.1 kind.1 in
    let only = outcome_of_only kind.0.0 kind.0.1 (IsBytes-behind (kind.0.0 ∷ []) kind.0.1 (subst IsBytes whole are)) o rest kind.2 in
    (only.0, whole ∙ only.1)

numbers_only : (bytes : List ℕ) → IsBytes bytes → (n : ℕ × (ℕ × ℕ)) (rest : List ℕ) → numbers_from bytes ≡ Some (n, rest)
    → (bytes ≡ bytes64 n.0 ++ (bytes32 n.1.0 ++ (bytes64 n.1.1 ++ rest))) × (n.0 < 2 ^ 64) × (n.1.0 < 2 ^ 32) × (n.1.1 ≤ last_op) × IsBytes rest
unfolding numbers_from
numbers_only bytes are n rest is =
    let client = and_then_some _ (number_from w64 bytes) (n, rest) is in
    let number = and_then_some _ (number_from w32 client.0.1) (n, rest) client.2 in
    let op = and_then_some _ (number_from w64 number.0.1) (n, rest) number.2 in
    let low = chosen (leb op.0.0 last_op) ((client.0.0, (number.0.0, op.0.0)), op.0.1) (n, rest) op.2 in
    let whole = low.1 in
    let is_client = number_only bytes64 w64 (2 ^ 64) field64 bytes are client.0.0 client.0.1 client.1 in
    let are_client = IsBytes-behind (bytes64 client.0.0) client.0.1 (subst IsBytes is_client are) in
    let is_number = number_only bytes32 w32 (2 ^ 32) field32 client.0.1 are_client number.0.0 number.0.1 number.1 in
    let are_number = IsBytes-behind (bytes32 number.0.0) number.0.1 (subst IsBytes is_number are_client) in
    let is_op = number_only bytes64 w64 (2 ^ 64) field64 number.0.1 are_number op.0.0 op.0.1 op.1 in
    let are_op = IsBytes-behind (bytes64 op.0.0) op.0.1 (subst IsBytes is_op are_number) in
    subst (λ (p : (ℕ × (ℕ × ℕ)) × List ℕ). (bytes ≡ bytes64 p.0.0 ++ (bytes32 p.0.1.0 ++ (bytes64 p.0.1.1 ++ p.1))) × (p.0.0 < 2 ^ 64) × (p.0.1.0 < 2 ^ 32) × (p.0.1.1 ≤ last_op) × IsBytes p.1) whole (
      is_client ∙ ap (λ t. bytes64 client.0.0 ++ t) (is_number ∙ ap (λ t. bytes32 number.0.0 ++ t) is_op),
      number_small bytes64 w64 (2 ^ 64) field64 bytes are client.0.0 client.0.1 client.1,
      number_small bytes32 w32 (2 ^ 32) field32 client.0.1 are_client number.0.0 number.0.1 number.1,
      leb-true op.0.0 last_op low.0,
      are_op,
    )

session_only : (bytes : List ℕ) → IsBytes bytes → (e : ℕ × Session) (rest : List ℕ) → session_from bytes ≡ Some (e, rest) → Fits e × (bytes ≡ session_text e ++ rest)
unfolding session_from session_text
session_only bytes are e rest is =
    let n = and_then_some _ (numbers_from bytes) (e, rest) is in
    let o = and_then_some _ (outcome_from n.0.1) (e, rest) n.2 in
    let made : ℕ × Session = (n.0.0.0, record { number = n.0.0.1.0; op = n.0.0.1.1; outcome = o.0.0 }) in
    let whole = same_some (made, o.0.1) (e, rest) o.2 in
    let numbers = numbers_only bytes are n.0.0 n.0.1 n.1 in
    let last = outcome_only n.0.1 numbers.4 o.0.0 o.0.1 o.1 in
    let fits : Fits made = record { client = numbers.1; number = numbers.2; op = numbers.3; outcome = last.0 } in
    let text : bytes ≡ session_text made ++ o.0.1 = numbers.0 ∙ (ap (λ t. bytes64 made.0 ++ (bytes32 made.1.number ++ (bytes64 made.1.op ++ t))) last.1 ∙ sym (regroup (bytes64 made.0) (bytes32 made.1.number) (bytes64 made.1.op) (outcome_bytes made.1.outcome) o.0.1)) in
    subst (λ (p : (ℕ × Session) × List ℕ). Fits p.0 × (bytes ≡ session_text p.0 ++ p.1)) whole (fits, text)

pub session_reader : IsReader session_text Fits session_from
session_reader = record { reads = session_reads; only = session_only }

length-outcome_bytes : (o : Outcome) → OutcomeFits o → length (outcome_bytes o) ≤ 3 + value_limit 2
unfolding outcome_bytes
length-outcome_bytes outcome.Session fits = omega arith
length-outcome_bytes outcome.Ok fits = omega arith
length-outcome_bytes outcome.Full fits = omega arith
length-outcome_bytes outcome.Absent fits = omega arith
length-outcome_bytes (outcome.Value value) fits = simp (length-append, length-bytes16) (omega (arith, value_length value fits))

length-session_text : (e : ℕ × Session) → Fits e → length (session_text e) ≤ session_bytes 2
unfolding session_text
length-session_text e fits = simp (length-append, length-bytes64, length-bytes32) (omega (arith, length-outcome_bytes e.1.outcome fits.outcome))

length-texts : (m : Map) → AllByRecursion Fits m → length (flat_map session_text m) ≤ session_bytes 2 * length m
length-texts [] h = omega arith
length-texts (e ∷ es) h = simp length-append (omega (arith, length-session_text e h.0, length-texts es h.1))

-- so much are all texts, without their count
pub texts_bound : (m : Map) → IsSessions m → 2 + length (flat_map session_text m) ≤ sessions_bytes 2
texts_bound m held = omega (arith, length-texts m held.fit, held.few)

pub length-sessions_text : (m : Map) → IsSessions m → length (sessions_text m) ≤ sessions_bytes 2
unfolding table_text
length-sessions_text m held = simp (length-append, length-bytes16) (omega (arith, texts_bound m held))

-- sessions are read back from their text
pub sessions_decoded-text : (m : Map) → IsSessions m → sessions_decoded (sessions_text m) ≡ Ok m
sessions_decoded-text m held = decoded-table_text nat_cmp session_text Fits session_from session_reader (session_limit 2) (omega arith) m held.few held.is_map held.fit

-- two that have one text are equal
pub sessions_text-one : (m n : Map) → IsSessions m → IsSessions n → sessions_text m ≡ sessions_text n → m ≡ n
sessions_text-one m n held held' same =
    table_text-one nat_cmp session_text Fits session_from session_reader m n (omega (arith, held.few)) (omega (arith, held'.few)) held.is_map held'.is_map held.fit held'.fit same

-- what was read are sessions, and the bytes are their text
pub sessions_found : (bytes : List ℕ) → IsBytes bytes → (m : Map) → sessions_decoded bytes ≡ Ok m → IsSessions m × (sessions_text m ≡ bytes)
sessions_found bytes are m is =
    let found = decoded_found nat_cmp session_text Fits session_from session_reader (session_limit 2) bytes are m is in
    (record { is_map = found.ascending; fit = found.fitting; few = found.no_more }, sym found.spelled)

-- the fault that was met is the first
pub sessions_fault : (bytes : List ℕ) → IsBytes bytes → (fault : StateFault) → IsOrNoMemory (sessions_decoded bytes) fault → IsFirstFault nat_cmp session_text Fits (session_limit 2) bytes fault
sessions_fault bytes are fault is = decoded_first nat_cmp session_text Fits session_from session_reader (session_limit 2) bytes are fault is

-- A table's text is read as that table, and nothing else is.
use Rattle.std.proofs.Common.{◌≡◌, ◌≢◌, ℕ, zero, suc, ◌+◌, ◌^◌, ◌<◌, ◌≤◌, List, [], ◌∷◌, ◌++◌, length, Option, Some, None, Result, Ok, Err, Bool, true, false, cond, if◌then◌else◌, nat_lt, ltb, eqb, lit<, ◌-◌, refl, sym, ◌∙◌, ap, subst, arith}
use Rattle.std.specs.List.{flat_map, AllByRecursion}
use Rattle.std.specs.Option.{option_map_or}
use Rattle.std.specs.Int.{w16}
use Rattle.std.specs.declared.cmp.Ordering.{Ordering}
use Rattle.std.proofs.lemmas.Bool.{ltb-false, ltb-true, le-ltb, eqb-true, true≢false}
use Rattle.std.proofs.lemmas.List.{append_assoc, append-nil, length-append}
use Rattle.std.proofs.lemmas.List.Concat.{flat_map-append}
use Rattle.vr_state.specs.declared.fault.StateFault.{StateFault}
use Rattle.vr_state.specs.declared.fault.StateFault.TheVariants.{Torn, NotSorted, TooMany, NoMemory}
use Rattle.std.specs.FinMap.Entries.{is_sorted}
use Rattle.vr_state.specs.Finite.{IsMap}
use Rattle.vr_base.specs.Bytes.{IsBytes, bytes16}
use Rattle.vr_state.specs.Front.{number_from}
use Rattle.vr_state.specs.Table.{count_from, table_text, read_on, counted, decoded, BeginsWith, FirstFault, IsTextOf, IsJudged, IsOrNoMemory, IsFirstFault}
use Rattle.vr_state.specs.Table.FirstFault.{no_count, too_many, torn_entry, lower_key, left_over}
use Rattle.vr_state.proofs.Maps.{IsMap-front}
use Rattle.vr_state.proofs.Fronts.{IsBytes-behind, number_reads, number_only, field16}

-- `read` gives exactly the entry whose text the bytes begin with, and what is behind it
pub record IsReader {E : Type 0} (text : E → List ℕ) (Fits : E → Type 0) (read : List ℕ → Option (E × List ℕ)) : Type 0 where
  pub reads : (e : E) (rest : List ℕ) → Fits e → read (text e ++ rest) ≡ Some (e, rest)
  pub only : (bytes : List ℕ) → IsBytes bytes → (e : E) (rest : List ℕ) → read bytes ≡ Some (e, rest) → Fits e × (bytes ≡ text e ++ rest)

-- two answers that are good have one value
pub same_ok : {A F : Type 0} (x y : A) → (r : Result A F) → r ≡ Ok x → r ≡ Ok y → x ≡ y
same_ok x y r e d = cc

All_push : {E : Type 0} (P : E → Type 0) (xs : List E) (x : E) → AllByRecursion P xs → P x → AllByRecursion P (xs ++ x ∷ [])
All_push P [] x h p = (p, tt)
All_push P (y ∷ ys) x h p = (h.0, All_push P ys x h.1 p)

not_refused : {A : Type 0} (b : Bool) (x : A) {P : Type 0} → (b ≡ true → P) → cond b None (Some x) ≡ None → P
not_refused true x so e = so refl
not_refused false x so e = absurd cc

module _ {K V : Type 0} (order : K → K → Ordering) (text : K × V → List ℕ) (Fits : K × V → Type 0) (read : List ℕ → Option ((K × V) × List ℕ)) (reader : IsReader text Fits read) where
  -- one more entry that is read
  read_step : (n : ℕ) (done : List (K × V)) (bytes : List ℕ) (e : K × V) (rest : List ℕ) → read bytes ≡ Some (e, rest)
      → read_on order read (suc n) done bytes ≡ (cond (is_sorted order (done ++ e ∷ [])) (read_on order read n (done ++ e ∷ []) rest) (Err NotSorted))
  unfolding read_on
  read_step n done bytes e rest is = rw is refl

  read_text : (es done : List (K × V)) → IsMap order (done ++ es) → AllByRecursion Fits es → read_on order read (length es) done (flat_map text es) ≡ Ok (done ++ es)
  unfolding read_on
  read_text [] done is_map fit = rw append-nil refl
  read_text (e ∷ es) done is_map fit =
      let longer : done ++ e ∷ es ≡ (done ++ e ∷ []) ++ es = sym (append_assoc done (e ∷ []) es) in
      let sorted : IsMap order ((done ++ e ∷ []) ++ es) = subst (IsMap order) longer is_map in
      let front : is_sorted order (done ++ e ∷ []) ≡ true = IsMap-front order (done ++ e ∷ []) es sorted in
      read_step (length es) done (text e ++ flat_map text es) e (flat_map text es) (reader.reads e (flat_map text es) fit.0)
      ∙ (ap (λ b. cond b (read_on order read (length es) (done ++ e ∷ []) (flat_map text es)) (Err NotSorted)) front
      ∙ (read_text es (done ++ e ∷ []) sorted fit.1 ∙ ap Ok (sym longer)))

  -- what is read so far, and what is left
  record Reading (whole : List ℕ) (n : ℕ) (done : List (K × V)) (rest : List ℕ) : Type 0 where
    so_far : whole ≡ flat_map text done ++ rest
    is_map : IsMap order done
    fit : AllByRecursion Fits done
    bytes : IsBytes rest

  further : (whole : List ℕ) (n : ℕ) (done : List (K × V)) (rest : List ℕ) → Reading whole (suc n) done rest → (e : K × V) (after : List ℕ) → read rest ≡ Some (e, after)
      → is_sorted order (done ++ e ∷ []) ≡ true → Reading whole n (done ++ e ∷ []) after
  further whole n done rest r e after is sorted =
      let only = reader.only rest r.bytes e after is in
      record {
        so_far = r.so_far ∙ (ap (λ x. flat_map text done ++ x) only.1
            ∙ (sym (append_assoc (flat_map text done) (text e) after)
            ∙ ap (λ x. x ++ after) (ap (λ x. flat_map text done ++ x) (sym (append-nil (text e))) ∙ sym (flat_map-append text done (e ∷ [])))));
        is_map = sorted;
        fit = All_push Fits done e r.fit only.0;
        bytes = IsBytes-behind (text e) after (subst IsBytes only.1 r.bytes);
      }

  -- what may come of a reading: the whole is the text of a map of so many entries, or has a first fault
  Judged : List ℕ → ℕ → Result (List (K × V)) StateFault → Type 0
  Judged whole count (Ok es) = (whole ≡ flat_map text es) × (length es ≡ count) × (IsMap order es) × (AllByRecursion Fits es)
  Judged whole count (Err fault) = (limit : ℕ) → count ≤ limit → FirstFault order text Fits limit (bytes16 count ++ whole) fault

  begun : (whole : List ℕ) (n : ℕ) (done : List (K × V)) (rest : List ℕ) → Reading whole n done rest → (count limit : ℕ) → count ≤ limit
      → BeginsWith order text Fits limit (bytes16 count ++ whole) count done rest
  begun whole n done rest r count limit few = record { whole = ap (λ x. bytes16 count ++ x) r.so_far; few = few; is_map = r.is_map; fit = r.fit }

  not_text : (rest : List ℕ) → read rest ≡ None → (e : K × V) (after : List ℕ) → Fits e → rest ≢ text e ++ after
  not_text rest none e after fits same = let found = reader.reads e after fits in let here : read rest ≡ Some (e, after) = ap read same ∙ found in absurd cc

  judged : (whole : List ℕ) (count n : ℕ) (done : List (K × V)) (rest : List ℕ) → Reading whole n done rest → length done + n ≡ count → Judged whole count (read_on order read n done rest)
  unfolding read_on Judged
  judged whole count zero done [] r long = (r.so_far ∙ append-nil (flat_map text done), omega arith, r.is_map, r.fit)
  judged whole count zero done (b ∷ bs) r long =
      let all : length done ≡ count = omega arith in
      subst (λ c. (limit : ℕ) → c ≤ limit → FirstFault order text Fits limit (bytes16 c ++ whole) Torn) all
      (λ limit few. left_over done (b ∷ bs) (begun whole zero done (b ∷ bs) r (length done) limit few) (λ e. absurd cc))
  judged whole count (suc n) done rest r long =
      let step = λ (x : (K × V) × List ℕ). cond (is_sorted order (done ++ x.0 ∷ [])) (read_on order read n (done ++ x.0 ∷ []) x.1) (Err NotSorted) in
      let cases : (o : Option ((K × V) × List ℕ)) → read rest ≡ o → Judged whole count (option_map_or step o (Err Torn)) = elim [
        | None ↦ λ is limit few. torn_entry count done rest (begun whole (suc n) done rest r count limit few) (omega arith) (not_text rest is)
        | Some x ↦ λ is.
            let only = reader.only rest r.bytes x.0 x.1 is in
            let by : (b : Bool) → is_sorted order (done ++ x.0 ∷ []) ≡ b → Judged whole count (cond b (read_on order read n (done ++ x.0 ∷ []) x.1) (Err NotSorted)) = elim [
              | true ↦ λ sorted. judged whole count n (done ++ x.0 ∷ []) x.1 (further whole n done rest r x.0 x.1 is sorted) (omega (arith, length-append done (x.0 ∷ [])))
              | false ↦ λ unsorted limit few.
                  lower_key count done x.0 x.1 (subst (λ y. BeginsWith order text Fits limit (bytes16 count ++ whole) count done y) only.1 (begun whole (suc n) done rest r count limit few)) (omega arith) only.0 (λ sorted. absurd (true≢false (sym sorted ∙ unsorted)))
            ] in
            by (is_sorted order (done ++ x.0 ∷ [])) refl
      ] in
      cases (read rest) refl

  settled : (limit : ℕ) (bytes : List ℕ) (count : ℕ) (rest : List ℕ) → bytes ≡ bytes16 count ++ rest → count ≤ limit
      → (r : Result (List (K × V)) StateFault) → Judged rest count r → IsJudged order text Fits limit bytes r
  unfolding Judged table_text
  settled limit bytes count rest whole few (Ok es) j = record {
    spelled = whole ∙ (ap (λ x. bytes16 count ++ x) j.0 ∙ ap (λ n. bytes16 n ++ flat_map text es) (sym j.1));
    no_more = omega (arith, j.1);
    ascending = j.2;
    fitting = j.3;
  }
  settled limit bytes count rest whole few (Err fault) j = subst (λ b. FirstFault order text Fits limit b fault) (sym whole) (j limit few)

  no_number : (bytes : List ℕ) → number_from w16 bytes ≡ None → length bytes < 2
  unfolding number_from
  no_number bytes = not_refused (ltb (length bytes) 2) _ (ltb-true (length bytes) 2)

  -- a map that fits is read back from its text
  pub decoded-table_text : (limit : ℕ) → limit < 2 ^ 16 → (es : List (K × V)) → length es ≤ limit → IsMap order es → AllByRecursion Fits es
      → decoded order read limit (table_text text es) ≡ Ok es
  unfolding decoded table_text count_from
  decoded-table_text limit small es few is_map fit =
      let found = number_reads bytes16 w16 (2 ^ 16) field16 (length es) (flat_map text es) (omega arith) in
      let enough : ltb limit (length es) ≡ false = le-ltb limit (length es) few in
      rw (found, enough) (read_text es [] is_map fit)

  -- so two maps that fit and have one text are one
  pub table_text-one : (es fs : List (K × V)) → length es < 2 ^ 16 → length fs < 2 ^ 16 → IsMap order es → IsMap order fs → AllByRecursion Fits es → AllByRecursion Fits fs
      → table_text text es ≡ table_text text fs → es ≡ fs
  table_text-one es fs small small' map map' fit fit' same =
      same_ok es fs (decoded order read (2 ^ 16 - 1) (table_text text es))
      (decoded-table_text (2 ^ 16 - 1) (lit< tt) es (omega arith) map fit)
      (ap (decoded order read (2 ^ 16 - 1)) same ∙ decoded-table_text (2 ^ 16 - 1) (lit< tt) fs (omega arith) map' fit')

  judged_counted : (limit : ℕ) (bytes : List ℕ) → IsBytes bytes → (r : Option (ℕ × List ℕ)) → number_from w16 bytes ≡ r
      → IsJudged order text Fits limit bytes (counted order read (option_map_or (λ x. if nat_lt limit x.0 then Err TooMany else Ok (x.0, x.1)) r (Err Torn)))
  judged_counted limit bytes are None is = no_count (no_number bytes is)
  judged_counted limit bytes are (Some x) is =
      let whole : bytes ≡ bytes16 x.0 ++ x.1 = number_only bytes16 w16 (2 ^ 16) field16 bytes are x.0 x.1 is in
      let start : Reading x.1 x.0 [] x.1 = record { so_far = refl; is_map = refl; fit = tt; bytes = IsBytes-behind (bytes16 x.0) x.1 (subst IsBytes whole are) } in
      let by : (b : Bool) → ltb limit x.0 ≡ b → IsJudged order text Fits limit bytes (counted order read (cond b (Err TooMany) (Ok (x.0, x.1)))) = elim [
        | true ↦ λ over. too_many x.0 x.1 whole (ltb-true limit x.0 over)
        | false ↦ λ within. settled limit bytes x.0 x.1 whole (ltb-false limit x.0 within) (read_on order read x.0 [] x.1) (judged x.1 x.0 x.0 [] x.1 start (omega arith))
      ] in
      by (ltb limit x.0) refl

  -- what `decoded` answers
  pub decoded_is_judged : (limit : ℕ) (bytes : List ℕ) → IsBytes bytes → IsJudged order text Fits limit bytes (decoded order read limit bytes)
  unfolding decoded count_from
  decoded_is_judged limit bytes are = judged_counted limit bytes are (number_from w16 bytes) refl

  met_first : (limit : ℕ) (bytes : List ℕ) → IsBytes bytes → (fault : StateFault) → decoded order read limit bytes ≡ Err fault → FirstFault order text Fits limit bytes fault
  met_first limit bytes are fault is = subst (IsJudged order text Fits limit bytes) is (decoded_is_judged limit bytes are)

  -- a fault that is `decoded`'s is the first
  pub decoded_first : (limit : ℕ) (bytes : List ℕ) → IsBytes bytes → (fault : StateFault) → IsOrNoMemory (decoded order read limit bytes) fault → IsFirstFault order text Fits limit bytes fault
  decoded_first limit bytes are Torn is = met_first limit bytes are Torn is
  decoded_first limit bytes are NotSorted is = met_first limit bytes are NotSorted is
  decoded_first limit bytes are TooMany is = met_first limit bytes are TooMany is
  decoded_first limit bytes are NoMemory is = tt

  -- what was read is a map that fits, and the bytes are its text
  pub decoded_found : (limit : ℕ) (bytes : List ℕ) → IsBytes bytes → (es : List (K × V)) → decoded order read limit bytes ≡ Ok es → IsTextOf order text Fits limit bytes es
  decoded_found limit bytes are es is = subst (IsJudged order text Fits limit bytes) is (decoded_is_judged limit bytes are)

-- when all entries are read, the table is whole exactly where no bytes are left
module _ {K V : Type 0} (order : K → K → Ordering) (read : List ℕ → Option ((K × V) × List ℕ)) where
  pub read_whole : (done : List (K × V)) (rest : List ℕ) → eqb (length rest) 0 ≡ true → read_on order read 0 done rest ≡ Ok done
  unfolding read_on
  read_whole done [] empty = refl
  read_whole done (b ∷ bs) empty = let e = eqb-true (suc (length bs)) 0 empty in absurd (omega arith)

  pub read_rest : (done : List (K × V)) (rest : List ℕ) → eqb (length rest) 0 ≡ false → read_on order read 0 done rest ≡ Err Torn
  unfolding read_on
  read_rest done [] empty = absurd (true≢false empty)
  read_rest done (b ∷ bs) empty = refl

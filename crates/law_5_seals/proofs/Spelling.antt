-- The blocks of a text of sessions that come of entries begin no sector with the header of an entry.
use Rattle.std.proofs.Common.{ℕ, suc, ◌+◌, ◌*◌, ◌<◌, ◌≡◌, ◌⊎◌, inl, inr, arith, refl, sym, ap, ◌∙◌, List, length, drop, get_or}
use Rattle.std.specs.List.{AllByRecursion, flat_map}
use Rattle.std.proofs.lemmas.List.{get_or-drop}
use Rattle.vr_base.specs.Bytes.{bytes16, piece}
use Rattle.vr_disk.specs.DiskState.{IsContent}
use Rattle.vr_disk.specs.Stops.{IsCall}
use Rattle.vr_header.specs.declared.header.Header.{Header}
use Rattle.vr_state.specs.StateTexts.{payloads}
use Rattle.vr_state.specs.Sessions as sess
use Rattle.vr_state.specs.Sessions.{Map}
use Rattle.vr_state.specs.SessionTexts.{session_text, sessions_text}
use Rattle.vr_state.specs.Table.{table_text}
use Rattle.vr_ckpt.specs.Blocks.{Content, block_bytes}
use Rattle.vr_ckpt.specs.Saves.{blocks_calls, changed, payload_at, sessions_run}
use Rattle.vr_ckpt.specs.declared.table.Payload.{Payload}
use Rattle.law_5_seals.specs.Seals.{IsHeadless, PutsHeadless}
use Rattle.law_5_seals.specs.Laws.{IsOfEntry, SessionsAreHeadless}
use Rattle.law_5_seals.proofs.Blocks.{IsMarkless, all_headless, first_markless, later_at, markless, payload_byte, payloads_so}
use Rattle.law_5_seals.proofs.Fronts.{IsFront, no_front, no_turned}
use Rattle.law_5_seals.proofs.Marks.{FrontMarks, long_marks, turned_ones}
use Rattle.law_5_seals.proofs.SessionTexts.{come_forms, forms}

-- the text of sessions is the count in two bytes, and they
behind_two : (m : Map) → drop 2 (sessions_text m) ≡ flat_map session_text m
unfolding table_text bytes16
behind_two m = refl

behind_count : (m : Map) (q : ℕ) → get_or (sessions_text m) (2 + q) 0 ≡ get_or (flat_map session_text m) q 0
behind_count m q = sym (get_or-drop 2 (sessions_text m) q 0) ∙ ap (λ t. get_or t q 0) (behind_two m)

-- bytes that stand in the text of sessions
abbrev StandsIn : Map → List ℕ → Type 0
StandsIn m b = (p : ℕ) × ((k : ℕ) → k < 128 → get_or b k 0 ≡ get_or (flat_map session_text m) (p + k) 0)

abbrev IsSector : Map → List ℕ → Type 0
IsSector m b = IsMarkless b ⊎ StandsIn m b

module _ (m : Map) (fits : AllByRecursion sess.Fits m) (come : AllByRecursion IsOfEntry m) where
  later_stands : (c : Content) (i : ℕ) → c.payload ≡ payload_at (sessions_text m) i → (j : ℕ) → j < 7 → IsSector m (piece (0 + 512 * suc j) 512 (block_bytes c))
  later_stands c i e j l =
      let p = 3968 * i + (512 * j + 382) in
      inr (
        p,
        λ k s.
            let z : 3968 * i + (512 * j + 384 + k) ≡ 2 + (p + k) = omega arith in
            later_at c j k (omega (arith, s)) ∙ (ap (λ x. get_or x (512 * j + 384 + k) 0) e ∙ (payload_byte (sessions_text m) i (512 * j + 384 + k) (omega (arith, l, s)) ∙ (ap (λ n. get_or (sessions_text m) n 0) z ∙ behind_count m (p + k)))),
      )

  -- what the marks of a header are there
  module _ (b : List ℕ) (s : StandsIn m b) where
    there : (k i : ℕ) → k + i < 128 → get_or (flat_map session_text m) (s.0 + (k + i)) 0 ≡ get_or b (k + i) 0
    there k i l = sym (s.1 (k + i) l)

    front_there : (h : Header) → FrontMarks b h → IsFront (flat_map session_text m) s.0
    front_there h f =
        record {
          low = elim f.low [
            | inl z ↦ inl (λ i l. there 64 i (omega (arith, l)) ∙ z.0 i l, (let high = z.1 in let same = s.1 88 (omega arith) in omega (arith, high, same)))
            | inr z ↦ inr (sym (s.1 89 (omega arith)) ∙ z)
          ];
          commit = λ i l. there 96 i (omega (arith, l)) ∙ f.marked.commit i l;
          command = sym (s.1 108 (omega arith)) ∙ f.marked.command;
          replica = sym (s.1 109 (omega arith)) ∙ f.replica;
          version = (let same = s.1 110 (omega arith) in let number = f.marked.version in let is = f.marked.is_version in (omega (arith, same, number, is), omega (arith, same, number, is)));
          zeros = λ i l. there 111 i (omega (arith, l)) ∙ f.zeros i l;
        }

    turned_there : ((i : ℕ) → i < 17 → get_or b (111 + i) 0 ≡ 255) → ⊥
    turned_there ones = no_turned m (forms m fits) s.0 (λ i l. there 111 i (omega (arith, l)) ∙ ones i l)

  -- a sector that is written
  sector_headless : (b : List ℕ) → IsContent b → IsSector m b → IsHeadless b
  sector_headless b c (inl without) = markless b c without
  sector_headless b c (inr s) = record {
    front = λ h f. no_front m (come_forms m fits come) s.0 (front_there b s h (long_marks b h c.each f));
    turned = λ h f. turned_there b s (turned_ones b h c f);
  }

  pub texts_headless : (cluster op : ℕ) (old : List Payload) → AllByRecursion IsCall (blocks_calls (changed (sessions_run cluster op) (sessions_text m) old))
      → AllByRecursion PutsHeadless (blocks_calls (changed (sessions_run cluster op) (sessions_text m) old))
  texts_headless cluster op old calls =
      let bs = changed (sessions_run cluster op) (sessions_text m) old in
      all_headless IsCall (IsSector m) (λ i b g s. sector_headless b g.1 s) (λ c. inl (first_markless c)) bs
      (payloads_so (IsSector m) (sessions_text m) later_stands (payloads (length (sessions_text m))) 0 (sessions_run cluster op) old) calls

pub sessions_are_headless : SessionsAreHeadless
sessions_are_headless cluster op m old fits come calls = texts_headless m fits come cluster op old calls

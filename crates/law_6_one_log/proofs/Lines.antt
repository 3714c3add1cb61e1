-- A commit line of a step, cut or not, is of the log's entry at its op.
use Rattle.std.proofs.Common.{ℕ, ◌+◌, ◌-◌, ◌<◌, ◌≤◌, ◌≡◌, ◌∙◌, inl, inr, arith, refl, sym, ap, subst, append_assoc, List, [], ◌∷◌, ◌++◌, length, Some}
use Rattle.std.specs.Prelude.{All, slice_get}
use Rattle.std.proofs.lemmas.List.Elements.{All-nil, All-cons, All-head, All-tail}
use Rattle.vr_header.specs.Bodies.{operation_bytes}
use Rattle.vr_header.specs.Made.{Whole}
use Rattle.vr_header.specs.Names.{root_header}
use Rattle.vr_header.specs.NoCollision.{NoCollision}
use Rattle.vr_msg.specs.declared.output.Committed.{Committed}
use Rattle.vr_msg.specs.declared.output.Output.{Output}
use Rattle.vr_msg.specs.declared.output.Output.TheVariants as output
use Rattle.vr_rings.specs.Slots.{IsWhole}
use Rattle.vr_world.specs.Commitment.{is_line_of}
use Rattle.vr_world.specs.Group.{Played}
use Rattle.vr_world.specs.Lying.{Lying, lying}
use Rattle.vr_world.specs.Safe as safe
use Rattle.vr_world.specs.Safe.{IsHashed}
use Rattle.vr_rules.specs.Steps.{Effect, Write, Rewrite, Save, Mend, Checkpoint, PutBlock, Say, output_of, outputs, after_all}
use Rattle.vr_rules.proofs.Halves.{after_both}
use Rattle.law_1_machine.specs.Basics.{In}
use Rattle.law_2_chains.specs.Chains.{IsBackedLine, Setup}
use Rattle.law_2_chains.specs.Reflecting.{entries_by}
use Rattle.law_3_outputs.specs.Answering.{one_if, lines}
use Rattle.law_3_outputs.specs.Followed.{IsFollowed}
use Rattle.law_3_outputs.specs.Ordered.{AreInOrder, IsInOrder}
use Rattle.law_3_outputs.specs.Replied.{IsLogOf}
use Rattle.law_3_outputs.specs.Written.{IsWellRead}
use Rattle.law_1_machine.proofs.Moves.{reached_good}
use Rattle.law_3_outputs.proofs.Backed.{at_end, one_whole}
use Rattle.law_3_outputs.proofs.Machine.{number_is}
use Rattle.law_3_outputs.proofs.Sets.{in_left, in_right}
use Rattle.law_3_outputs.proofs.SlotCalls.{IsTaken, read_or_written}
use Rattle.law_6_one_log.proofs.Disks.{Begun}
use Rattle.law_6_one_log.proofs.Walk.{AllMay, May, MaySay}

pub taken_front : (v : ℕ) (xs ys : List Effect) → All (IsTaken v) (xs ++ ys) → All (IsTaken v) xs
taken_front v [] ys h = All-nil (IsTaken v)
taken_front v (x ∷ xs) ys h = All-cons (IsTaken v) x xs (All-head (IsTaken v) x (xs ++ ys) h) (taken_front v xs ys (All-tail (IsTaken v) x (xs ++ ys) h))

-- the outputs after some
ordered_back : (i m : ℕ) (a b : List Output) → AreInOrder i m (a ++ b) → AreInOrder i (m + lines i a) b
unfolding AreInOrder lines
ordered_back i m [] b h = subst (λ k. AreInOrder i k b) (let z : m ≡ m + 0 = omega arith in z) h
ordered_back i m (o ∷ a) b h =
    subst (λ k. AreInOrder i k b) (let z : m + one_if (is_line_of i o) + lines i a ≡ m + (one_if (is_line_of i o) + lines i a) = omega arith in z) (ordered_back i (m + one_if (is_line_of i o)) a b h.1)

module _ (cluster n : ℕ) (u : Setup) (run : List Played) (x : IsFollowed cluster n u run) (never : NoCollision (IsHashed run (root_header cluster))) (log : List Whole) (is_log : IsLogOf cluster u run (x.group (length run)).sent log) where
  abbrev H : List ℕ → Type 0
  H bytes = IsHashed run (root_header cluster) bytes

  -- an entry that is committed, and whose operation was hashed
  line_is : (t : ℕ) → t ≤ length run → (m : ℕ) (e : Whole) → IsBackedLine u (x.group t).sent e.header → IsWellRead e → H (operation_bytes e.operation) → e.header.op ≡ m + 1 → (slice_get log m ≡ Some e) × IsWhole e × (e.header.op ≡ m + 1)
  line_is t l m e b read hashed op =
      let c = b.is.2 in
      let v = b.is.0 in
      let good = reached_good u.quorums (entries_by u.hash u.cluster) (x.group t) (x.reached t l) in
      let number : e.header.op ≡ b.number = number_is u.quorums (entries_by u.hash u.cluster) good.0 (x.group t) good.1 v b.number e.header c in
      let w = is_log v b.number e.header (omega arith) (at_end cluster n u run x t l v b.number e.header c) in
      let same = one_whole (IsHashed run (root_header cluster)) never w.entry e w.is w.good read.good w.hashed hashed in
      let place : b.number - 1 ≡ m = omega arith in
      (subst (λ k. slice_get log k ≡ Some e) place (w.at ∙ ap Some same), record { entry = record { header = read.form; body = read.good.body }; header = read.good.header }, op)

  module _ (t : ℕ) (l : t ≤ length run) (i : ℕ) (d : Lying) (xs : List Effect) (taken : All (IsTaken d.version) xs) (begun : (e : Effect) → In e xs → Begun H e)
      (entries : (slot : ℕ) (e : Whole) → slot < 64 → lying.entry d slot ≡ Some e → H (operation_bytes e.operation)) where
    abbrev Facts : Committed → Type 0
    Facts c = IsBackedLine u (x.group t).sent c.entry.header × IsWellRead c.entry

    -- an entry that reads after some of the effects
    entry_hashed : (done rest : List Effect) → done ++ rest ≡ xs → (slot : ℕ) (e : Whole) → slot < 64 → lying.entry (after_all lying d done) slot ≡ Some e → H (operation_bytes e.operation)
    entry_hashed done rest are slot e within reads =
        elim (read_or_written done d (taken_front d.version done rest (subst (All (IsTaken d.version)) (sym are) taken)) slot e within reads) [
          | inl old ↦ entries slot e within old
          | inr w ↦ begun (Write w.0 e) (subst (In (Write w.0 e)) are (in_left done rest (Write w.0 e) w.1)) _ (safe.IsWritten.operation w.0 e)
        ]

    output_may : (done rest : List Effect) → done ++ rest ≡ xs → (m : ℕ) (o : Output) → IsInOrder i m o → ((c : Committed) → output.Commit c ≡ o → Facts c) → MaySay log m (after_all lying d done) o
    output_may done rest are m (output.Commit c) order facts = λ slot within reads.
        let f = facts c refl in
        line_is t l m c.entry f.0 f.1 (entry_hashed done rest are slot c.entry within reads) order
    output_may done rest are m (output.Send s) order facts = tt
    output_may done rest are m (output.Reply a) order facts = tt
    output_may done rest are m (output.Choose c) order facts = tt
    output_may done rest are m (output.Wait w) order facts = tt
    output_may done rest are m (output.Start s) order facts = tt
    output_may done rest are m (output.Halted r) order facts = tt
    output_may done rest are m (output.Migrated r) order facts = tt
    output_may done rest are m output.Done order facts = tt
    output_may done rest are m output.KeptOut order facts = tt

    effect_may : (done rest : List Effect) (e : Effect) → done ++ e ∷ rest ≡ xs → (m : ℕ) → AreInOrder i m (output_of e ++ outputs rest) → ((c : Committed) → In (output.Commit c) (output_of e ++ outputs rest) → Facts c) → May H log m (after_all lying d done) e
    unfolding AreInOrder
    effect_may done rest (Say o) are m order facts = output_may done (Say o ∷ rest) are m o order.0 (λ c same. facts c (inl same))
    effect_may done rest (Checkpoint cluster texts op old) are m order facts = begun (Checkpoint cluster texts op old) (subst (In (Checkpoint cluster texts op old)) are (in_right done (Checkpoint cluster texts op old ∷ rest) _ (inl refl)))
    effect_may done rest (PutBlock name block) are m order facts = begun (PutBlock name block) (subst (In (PutBlock name block)) are (in_right done (PutBlock name block ∷ rest) _ (inl refl)))
    effect_may done rest (Write again e) are m order facts = tt
    effect_may done rest (Rewrite h) are m order facts = tt
    effect_may done rest (Save old new) are m order facts = tt
    effect_may done rest (Mend v) are m order facts = tt

    all_may : (rest done : List Effect) → done ++ rest ≡ xs → (m : ℕ) → AreInOrder i m (outputs rest) → ((c : Committed) → In (output.Commit c) (outputs rest) → Facts c) → AllMay H cluster log i m (after_all lying d done) rest
    unfolding AllMay outputs after_all
    all_may [] done are m order facts = tt
    all_may (e ∷ rest) done are m order facts =
        let later = all_may rest (done ++ e ∷ []) (append_assoc done (e ∷ []) rest ∙ are) (m + lines i (output_of e)) (ordered_back i m (output_of e) (outputs rest) order) (λ c j. facts c (in_right (output_of e) (outputs rest) (output.Commit c) j)) in
        (effect_may done rest e are m order facts, subst (λ f. AllMay H cluster log i (m + lines i (output_of e)) f rest) (after_both lying d done (e ∷ [])) later)

  pub lines_may : (t : ℕ) → t ≤ length run → (i m : ℕ) (d : Lying) (xs : List Effect) → All (IsTaken d.version) xs → AreInOrder i m (outputs xs)
      → ((c : Committed) → In (output.Commit c) (outputs xs) → IsBackedLine u (x.group t).sent c.entry.header × IsWellRead c.entry)
      → ((e : Effect) → In e xs → Begun H e) → ((slot : ℕ) (e : Whole) → slot < 64 → lying.entry d slot ≡ Some e → H (operation_bytes e.operation)) → AllMay H cluster log i m d xs
  unfolding after_all
  lines_may t l i m d xs taken order facts begun entries = all_may t l i d xs taken begun entries xs [] refl m order facts

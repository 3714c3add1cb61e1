-- The pairs are the machine's, which is read back from its text.
use Rattle.std.proofs.Common.{◌≡◌, ℕ, ◌≤◌, length, Ok, true, subst}
use Rattle.std.proofs.lemmas.Result.{IfOk-weaker}
use Rattle.vr_state.specs.Fitting.{keys_fit}
use Rattle.vr_state.specs.Kv.{IsKv}
use Rattle.vr_state.specs.Pairs.{kv_text, kv_bytes, kv_decoded}
use Rattle.vr_state.proofs.KvTexts.{length-kv_text, kv_decoded-kv_text, kv_text-one}
use Rattle.vr_state.proofs.Lengths.{keys_within}
use Rattle.vr_state.proofs.kv.Kv.encode_state.Goals as goal

pub returns-clause-length : goal.returns-clause-length
returns-clause-length c =
    let kv : IsKv c.deref.result.now = rw c.deref.ensures.value c.self.invariant in
    IfOk-weaker c.encode_pairs.result (λ text. text ≡ kv_text c.deref.result.now) (λ text. length text ≤ kv_bytes 2) (λ text is. rw is (length-kv_text c.deref.result.now kv)) c.encode_pairs.ensures

pub returns-clause-within : goal.returns-clause-within
returns-clause-within c =
    let kv : IsKv c.deref.result.now = rw c.deref.ensures.value c.self.invariant in
    rw (← c.self.view_is, ← c.deref.ensures.value)
    (IfOk-weaker c.encode_pairs.result (λ text. text ≡ kv_text c.deref.result.now) (λ text. (version : ℕ) → keys_fit version c.deref.result.now ≡ true → length text ≤ kv_bytes version)
    (λ text is version fits. rw is (keys_within version c.deref.result.now kv fits)) c.encode_pairs.ensures)

pub returns-clause-back : goal.returns-clause-back
returns-clause-back c =
    let kv : IsKv c.deref.result.now = rw c.deref.ensures.value c.self.invariant in
    rw (← c.self.view_is, ← c.deref.ensures.value)
    (IfOk-weaker c.encode_pairs.result (λ text. text ≡ kv_text c.deref.result.now) (λ text. kv_decoded text ≡ Ok c.deref.result.now) (λ text is. rw is (kv_decoded-kv_text c.deref.result.now kv)) c.encode_pairs.ensures)

pub returns-clause-one_text : goal.returns-clause-one_text
returns-clause-one_text c other kv same =
    let own : IsKv c.args.self.now = subst IsKv c.self.view_is c.self.invariant in
    kv_text-one other c.args.self.now kv own same

-- The bytes of each text are plain.
use Rattle.std.proofs.Common.{rules, ◌≡◌, ◌≤◌, ◌==◌, ◌+◌, ◌/◌, ◌%◌, ◌&&◌, ◌∙◌, ℕ, zero, suc, true, false, nat_le, nat_lt, List, [], ◌∷◌, ◌++◌, codes, refl, IsTrue, length, le-leb, leb-true, arith}
use Rattle.std.specs.Fmt.{digits, digits_onto, digit_glyph, decimal}
use Rattle.std.specs.List.{list_all}
use Rattle.std.proofs.lemmas.Bool.{and_parts, cond_both}
use Rattle.std.proofs.lemmas.List.Folds.{list_all-append}
use Rattle.vr_base.specs.Versions.{value_limit}
use Rattle.vr_header.specs.declared.operation.Operation.{Operation}
use Rattle.vr_header.specs.declared.operation.Operation.TheVariants.{Register, Put, Get, Delete}
use Rattle.vr_header.specs.declared.outcome.Outcome.{Outcome}
use Rattle.vr_header.specs.declared.outcome.Outcome.TheVariants as outcome
use Rattle.vr_header.specs.declared.part.Part.{Part}
use Rattle.vr_header.specs.declared.part.Part.TheVariants.{Here, Lost, Wanted, Unknown, Nothing}
use Rattle.vr_header.specs.Bodies.{IsOperation, IsOutcome}
use Rattle.vr_header.specs.Text.{is_printable, is_text}
use Rattle.vr_msg.specs.declared.frame.Frame.{Frame}
use Rattle.vr_msg.specs.declared.frame.Frame.TheVariants as frame
use Rattle.vr_msg.specs.declared.output.Output.{Output}
use Rattle.vr_msg.specs.declared.output.Output.TheVariants as output
use Rattle.vr_msg.specs.declared.reply.ReplyKind.{ReplyKind}
use Rattle.vr_msg.specs.declared.reply.ReplyKind.TheVariants as reply
use Rattle.vr_text.specs.Plain.{is_plain, IsPlain, HasText, HasTexts}
use Rattle.vr_text.specs.Text.{before_letters, chosen_text, client_text, commit_text, committed_text, do_view_change_text, entry_text, frame_text, get_prepare_text, give_prepare_text, kind_text, letters_of, numbered, operation_text, or_dash, outcome_text, output_text, parts_text, prepare_ok_text, prepare_text, reply_text, sent_text, start_view_text, started_text, statement_text, sync_view_text, viewed, waiting_text}

pub both : (xs ys : List ℕ) → IsPlain xs → IsPlain ys → IsPlain (xs ++ ys)
both xs ys a b = list_all-append is_plain xs ys ∙ rw (a, b) refl

one_more : (b : ℕ) (bytes : List ℕ) → 32 ≤ b → b ≤ 126 → IsPlain bytes → IsPlain (b ∷ bytes)
one_more b bytes least most rest = rw (le-leb 32 b least, le-leb b 126 most, rest) refl

digit : (n : ℕ) → (32 ≤ digit_glyph false (n % 10)) × (digit_glyph false (n % 10) ≤ 126)
digit n = cond_both (nat_lt (n % 10) 10) (48 + n % 10) (87 + n % 10) (λ g. (32 ≤ g) × (g ≤ 126)) (λ e. (omega arith, omega arith)) (λ e. (omega arith, omega arith))

digits_plain : (k n : ℕ) (bytes : List ℕ) → IsPlain bytes → IsPlain (digits_onto k 10 false n bytes)
digits_plain zero n bytes plain = plain
digits_plain (suc k) n bytes plain =
    let g = digit n in
    let more = one_more (digit_glyph false (n % 10)) bytes g.0 g.1 plain in
    cond_both (n / 10 == 0) (digit_glyph false (n % 10) ∷ bytes) (digits_onto k 10 false (n / 10) (digit_glyph false (n % 10) ∷ bytes)) IsPlain (λ e. more) (λ e. digits_plain k (n / 10) (digit_glyph false (n % 10) ∷ bytes) more)

pub number : (words : List ℕ) (n : ℕ) → IsPlain words → IsPlain (numbered words n)
unfolding numbered digits
number words n plain = both words (decimal n) plain (digits_plain 64 n [] refl)

pub view : (word : List ℕ) (n : ℕ) → IsPlain word → IsPlain (viewed word n)
unfolding viewed
view word n plain = both word (numbered (codes " view ") n) plain (number (codes " view ") n refl)

printable : (bytes : List ℕ) → list_all is_printable bytes ≡ true → IsPlain bytes
printable [] h = refl
printable (b ∷ bytes) h =
    let parts = and_parts (is_printable b) (list_all is_printable bytes) h in
    let bounds = and_parts (nat_le 33 b) (nat_le b 126) parts.0 in
    let least = leb-true 33 b bounds.0 in
    one_more b bytes (omega arith) (leb-true b 126 bounds.1) (printable bytes parts.1)

pub texts : (limit : ℕ) (bytes : List ℕ) → IsTrue (is_text limit bytes) → IsPlain bytes
unfolding is_text
texts limit bytes h = printable bytes (and_parts (nat_le 1 (length bytes) && nat_le (length bytes) limit) (list_all is_printable bytes) h).1

before : (part : Part) (ls : List ℕ) → IsPlain ls → IsPlain (before_letters part ls)
before Nothing [] plain = refl
before Nothing (l ∷ ls) plain = plain
before (Here h) ls plain = plain
before (Lost h) ls plain = plain
before (Wanted h) ls plain = plain
before Unknown ls plain = plain

letters : (parts : List Part) → IsPlain (letters_of parts)
unfolding letters_of
letters [] = refl
letters (part ∷ parts) = before part (letters_of parts) (letters parts)

dash : (ls : List ℕ) → IsPlain ls → IsPlain (or_dash ls)
dash [] plain = refl
dash (l ∷ ls) plain = plain

pub parts_plain : (parts : List Part) → IsPlain (parts_text parts)
parts_plain parts = dash (letters_of parts) (letters parts)

pub entry_plain : (op made : ℕ) → IsPlain (entry_text op made)
entry_plain op made = both (numbered (codes "op ") op) (numbered (codes " made ") made) (number (codes "op ") op refl) (number (codes " made ") made refl)

pub client_plain : (client request : ℕ) → IsPlain (client_text client request)
client_plain client request = search (rules, both, number) depth 12

pub operation_plain : (version : ℕ) (o : Operation) → IsOperation version o → IsPlain (operation_text o)
operation_plain version Register h = refl
operation_plain version (Put key value) h =
    let first : IsPlain (codes "put " ++ key) = both (codes "put ") key refl (texts 64 key h.0) in
    both (codes "put " ++ key ++ codes " ") value (both (codes "put " ++ key) (codes " ") first refl) (texts (value_limit version) value h.1)
operation_plain version (Get key) h = both (codes "get ") key refl (texts 64 key h)
operation_plain version (Delete key) h = both (codes "del ") key refl (texts 64 key h)

pub outcome_plain : (version : ℕ) (o : Outcome) → IsOutcome version o → IsPlain (outcome_text o)
outcome_plain version outcome.Session h = refl
outcome_plain version outcome.Ok h = refl
outcome_plain version outcome.Full h = refl
outcome_plain version outcome.Absent h = refl
outcome_plain version (outcome.Value value) h = both (codes "value ") value refl (texts (value_limit version) value h)

pub frame_plain : (f : Frame) → IsPlain (frame_text f)
unfolding prepare_text prepare_ok_text commit_text do_view_change_text statement_text start_view_text sync_view_text get_prepare_text give_prepare_text
frame_plain (frame.Request q) = refl
frame_plain (frame.Reply r) = refl
frame_plain (frame.Prepare p) = search (rules, both, number, view, entry_plain) depth 12
frame_plain (frame.PrepareOk p) = search (rules, both, view, entry_plain) depth 12
frame_plain (frame.Commit c) = search (rules, both, number, view) depth 12
frame_plain (frame.StartViewChange s) = view (codes "start_view_change") s.view refl
frame_plain (frame.DoViewChange d) = search (rules, both, number, view, parts_plain) depth 14
frame_plain (frame.StartView v) = search (rules, both, number, view) depth 12
frame_plain (frame.GetView g) = view (codes "get_view") g.view refl
frame_plain (frame.GetPrepare g) = search (rules, entry_plain) depth 12
frame_plain (frame.GivePrepare g) = search (rules, entry_plain) depth 12
frame_plain (frame.GetBlock g) = number (codes "get_block ") g.address refl
frame_plain (frame.GiveBlock g) = number (codes "give_block ") g.address refl
frame_plain (frame.GetSync g) = view (codes "get_sync") g.view refl
frame_plain (frame.SyncView v) = search (rules, both, number, view) depth 14

kind_plain : (view : ℕ) (k : ReplyKind) → HasText k → IsPlain (kind_text view k)
kind_plain v (reply.Outcome a) h = search (rules, both, number, outcome_plain) depth 12
kind_plain v reply.Old h = refl
kind_plain v reply.Gap h = refl
kind_plain v reply.Evicted h = refl
kind_plain v reply.Busy h = refl
kind_plain v reply.Redirect h = number (codes "redirect ") v refl

pub output_plain : (m : ℕ) (o : Output) → HasTexts o → IsPlain (output_text m o)
unfolding sent_text committed_text reply_text chosen_text waiting_text started_text
output_plain m (output.Send s) h = search (rules, both, number, frame_plain) depth 14
output_plain m (output.Commit c) h = search (rules, both, number, client_plain, operation_plain) depth 14
output_plain m (output.Reply r) h = search (rules, both, number, client_plain, kind_plain) depth 14
output_plain m (output.Choose c) h = search (rules, both, number, parts_plain) depth 16
output_plain m (output.Wait w) h = search (rules, both, number) depth 12
output_plain m (output.Start s) h = search (rules, both, number) depth 12
output_plain m (output.Halted replica) h = number (codes "halt ") replica refl
output_plain m (output.Migrated replica) h = number (codes "migrated ") replica refl
output_plain m output.Done h = refl
output_plain m output.KeptOut h = refl

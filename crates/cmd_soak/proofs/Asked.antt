-- Each line that is drawn is of the group, and its request can be asked.
use Rattle.std.proofs.Common.{◌≡◌, ◌%◌, ◌<◌, ◌^◌, ◌==◌, ◌∙◌, zero, suc, ℕ, List, [], ◌∷◌, ◌++◌, length, false, refl, ap, arith}
use Rattle.std.specs.Prelude.{nat_lt, slice_index}
use Rattle.std.specs.List.{AllByRecursion, filter_map}
use Rattle.std.proofs.lemmas.Bool.{cond_both}
use Rattle.std.proofs.lemmas.Bool.Decides.{nat_tests}
use Rattle.vr_header.specs.Bodies.{IsOperation}
use Rattle.vr_header.specs.declared.operation.Operation.{Operation}
use Rattle.vr_header.specs.declared.operation.Operation.TheVariants as operation
use Rattle.vr_lines.specs.declared.line.Line.{Line}
use Rattle.vr_lines.specs.Fits.{IsLineOf}
use Rattle.vr_group.specs.Headline.{HasAsked, HaveAsked}
use Rattle.vr_group.specs.Lines.{AreLinesOf}
use Rattle.vr_msg.specs.declared.output.Output.{Output}
use Rattle.vr_draws.proofs.Fitting.{operation_fits}
use Rattle.vr_draws.specs.Asking.{answers, next_behind, next_request, next_requests}
use Rattle.vr_draws.specs.Draws.{Drawn, after_draws, draw}
use Rattle.vr_draws.specs.Drawn.{drawn_version, drawn_asking, drawn_delivery, drawn_kind, drawn_line, drawn_operation, drawn_request}
use Rattle.cmd_soak.specs.Made.{come_to, line_after, made}

-- ---- operations

abbrev IsOther : Drawn Operation → Type 0
IsOther d = d.value ≡ operation.Register → ⊥

no_session : (x : ℕ) → IsOther (drawn_operation x)
unfolding drawn_operation
no_session x = cond_both (draw x 1 % 3 == 0) _ _ IsOther (λ e h. absurd (cc h)) (λ e. cond_both (draw x 1 % 3 == 1) _ _ IsOther (λ e h. absurd (cc h)) (λ e h. absurd (cc h)))

record IsAskable (number : ℕ) (d : Drawn Operation) : Type 0 where
  valid : IsOperation drawn_version d.value
  first : d.value ≡ operation.Register → number ≡ 0
  only : number ≡ 0 → d.value ≡ operation.Register

asking_fits : (number x : ℕ) → IsAskable number (drawn_asking number x)
unfolding drawn_asking
asking_fits number x =
    cond_both (number == 0) _ _ (IsAskable number)
    (λ e. record { valid = tt; first = λ h. grind (arith, nat_tests); only = λ h. refl })
    (λ e.
    let other = no_session x in
    record { valid = operation_fits drawn_version x; first = λ h. absurd (other h); only = λ h. absurd (let t : (number == 0) ≡ false = e in grind (arith, nat_tests)) })

-- ---- lines

-- of a group of n
record Fits (n : ℕ) (d : Drawn Line) : Type 0 where
  of : IsLineOf 1 n d.value
  asked : HasAsked d.value

request_fits : (n : ℕ) (next : List ℕ) (x : ℕ) → 0 < n → ((i : ℕ) → slice_index next i < 2 ^ 32) → Fits n (drawn_request n next x)
unfolding drawn_request
request_fits n next x some small =
    let client = draw x 2 % 4 in
    let number = slice_index next client in
    let a = asking_fits number (after_draws x 2) in
    record {
      of = (omega (arith, some), refl);
      asked = (record { form = record { first = (a.first, a.only); fits = a.valid }; client = omega arith; request = small client; version = (omega arith, omega arith) }, omega arith);
    }

delivery_fits : (n count x : ℕ) → 0 < n → Fits n (drawn_delivery count x)
unfolding drawn_delivery
delivery_fits n count x some = cond_both (count == 0) _ _ (Fits n) (λ e. record { of = some; asked = tt }) (λ e. record { of = some; asked = tt })

kind_fits : (n messages : ℕ) (next : List ℕ) (kind x : ℕ) → 0 < n → ((i : ℕ) → slice_index next i < 2 ^ 32) → Fits n (drawn_kind n messages next kind x)
unfolding drawn_kind
kind_fits n messages next kind x some small =
    cond_both (nat_lt kind 10) _ _ (Fits n) (λ e. request_fits n next x some small)
    (λ e. cond_both (nat_lt kind 42) _ _ (Fits n) (λ e. delivery_fits n messages x some)
    (λ e. cond_both (nat_lt kind 56) _ _ (Fits n) (λ e. record { of = omega (arith, some); asked = tt })
    (λ e. cond_both (nat_lt kind 57) _ _ (Fits n) (λ e. record { of = omega (arith, some); asked = tt })
    (λ e. cond_both (nat_lt kind 61) _ _ (Fits n) (λ e. record { of = omega (arith, some); asked = tt })
    (λ e. cond_both (nat_lt kind 62) _ _ (Fits n) (λ e. record { of = (omega (arith, some), omega arith); asked = tt })
    (λ e. cond_both (nat_lt kind 63) _ _ (Fits n) (λ e. record { of = (omega (arith, some), omega arith); asked = tt }) (λ e. record { of = (omega (arith, some), omega arith); asked = tt })))))))

-- ---- the numbers of requests

behind_small : (qs : List ℕ) → next_behind qs < 2 ^ 32
behind_small [] = omega arith
behind_small (q ∷ qs) = omega arith

request_small : (os : List Output) (client : ℕ) → next_request os client < 2 ^ 32
unfolding next_request
request_small os client = behind_small (filter_map (answers client) os)

next_small : (os : List Output) (i : ℕ) → slice_index (next_requests os) i < 2 ^ 32
next_small os zero = request_small os 1
next_small os (suc zero) = request_small os 2
next_small os (suc (suc zero)) = request_small os 3
next_small os (suc (suc (suc zero))) = request_small os 4
next_small os (suc (suc (suc (suc i)))) = omega arith

line_fits : (n messages : ℕ) (os : List Output) (x : ℕ) → 0 < n → Fits n (drawn_line n messages (next_requests os) x)
unfolding drawn_line
line_fits n messages os x some = kind_fits n messages (next_requests os) (draw x 1 % 64) (after_draws x 1) some (next_small os)

-- ---- all lines

all_more : (P : Line → Type 0) (ls : List Line) (l : Line) → AllByRecursion P ls → P l → AllByRecursion P (ls ++ l ∷ [])
all_more P [] l a h = (h, tt)
all_more P (k ∷ ls) l a h = (a.0, all_more P ls l a.1 h)

count_next : (ls : List Line) (l : Line) → length (ls ++ l ∷ []) ≡ suc (length ls)
count_next [] l = refl
count_next (k ∷ ls) l = ap (λ c. suc c) (count_next ls l)

-- the next line, of what those before it come to
next_fits : (n number k : ℕ) → 0 < n → Fits n (line_after n (made n number k).number (come_to n (made n number k).lines))
next_fits n number k some =
    let m = made n number k in
    let h = come_to n m.lines in
    line_fits n (length h.world.sent) h.outputs m.number some

pub lines_fit : (n number k : ℕ) → 0 < n → AreLinesOf 1 n (made n number k).lines
unfolding made AreLinesOf
lines_fit n number zero some = tt
lines_fit n number (suc k) some = all_more (IsLineOf 1 n) (made n number k).lines _ (lines_fit n number k some) (next_fits n number k some).of

pub lines_asked : (n number k : ℕ) → 0 < n → HaveAsked (made n number k).lines
unfolding made
lines_asked n number zero some = tt
lines_asked n number (suc k) some = all_more HasAsked (made n number k).lines _ (lines_asked n number k some) (next_fits n number k some).asked

-- a line for each
pub lines_count : (n number k : ℕ) → length (made n number k).lines ≡ k
unfolding made
lines_count n number zero = refl
lines_count n number (suc k) = count_next (made n number k).lines _ ∙ ap (λ c. suc c) (lines_count n number k)

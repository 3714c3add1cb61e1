-- What the words ask for, by what clap finds.
use Rattle.std.proofs.Common.{◌≡◌, ◌≢◌, ◌∙◌, List, [], ◌∷◌, Option, Some, None, length, true, refl, ap, ap₂, subst, sym, inl, inr, if◌then◌else◌, ◌==◌, arith, false, Result, Ok, Err}
use Rattle.std.proofs.lemmas.Grind.{common_steps}
use Rattle.std.specs.Prelude.{Box, IfOk, option_and_then, option_map, unwrap_or}
use Rattle.std.specs.Box.{box_value}
use Rattle.clap.specs.Faults.{is_simple_and_free}
use Rattle.clap.specs.Simple.{App, subcommand_rows}
use Rattle.clap.specs.Words.{FailsBy, HasKind, HasMatchesOf, IsAmong, Kinds, Row, Text, app_of, fault_of, is_simple, kind_of, subcommand_rows_of}
use Rattle.clap.specs.declared.builder.command.Command as builder
use Rattle.clap.specs.declared.error.Error.{Error}
use Rattle.clap.specs.declared.error.kind.ErrorKind.{ErrorKind}
use Rattle.clap.specs.declared.error.kind.ErrorKind.TheVariants as kind
use Rattle.clap.specs.declared.parser.matches.ArgMatches.{ArgMatches}
use Rattle.clap.specs.declared.parser.matches.ArgMatches.TheViews.{out-SubCommand}
use Rattle.clap.specs.declared.parser.matches.SubCommand.{SubCommand}
use Rattle.vr_args.specs.declared.command.Command.{Command}
use Rattle.vr_args.specs.declared.command.WordsFault.{WordsFault}
use Rattle.vr_args.specs.declared.command.WordsFault.TheVariants as words
use Rattle.vr_args.specs.Asked.{asked, asked_at, entered_by, faults_in}
use Rattle.vr_args.specs.Forms.{above, addresses, client, flag, form_of, making, migrate, node, peered, plain, replay, running, soak, taking, the_command, top, trial, wanted, wanting}

simple : is_simple the_command ≡ true
unfolding the_command running top migrate trial client node making soak replay peered plain wanting flag addresses wanted above taking
simple = refl

free : is_simple_and_free the_command ≡ true
unfolding the_command running top migrate trial client node making soak replay peered plain wanting flag addresses wanted above taking
free = refl

-- an error of a parse by the command has one of the kinds of its fault
pub fails_by : (c : builder.Command) (words : List Text) (r : Result ArgMatches Error) → form_of c ≡ the_command
    → (is_simple_and_free (app_of c) ≡ true → FailsBy (fault_of (app_of c) words) r) → FailsBy (faults_in words) r
unfolding form_of faults_in
fails_by c words r is fails = subst (λ (x : App). is_simple_and_free x ≡ true → FailsBy (fault_of x words) r) is fails free

-- and one without an error has entered what the words enter
pub enters_by : (c : builder.Command) (words : List Text) (r : Result ArgMatches Error) → form_of c ≡ the_command
    → IfOk r (HasMatchesOf (app_of c) words) → IfOk r (λ m. subcommand_rows_of m ≡ entered_by words)
unfolding form_of entered_by
enters_by c words (Ok m) is has = (subst (λ (x : App). HasMatchesOf x words m) is has simple).1
enters_by c words (Err e) is has = tt

-- a choice by whether there is a kind of fault
chosen : {X : Type 0} (kinds : Kinds) (x : Option X) → kinds ≡ [] → (if length kinds == 0 then x else None) ≡ x
chosen kinds x none = rw none refl

not_chosen : {X : Type 0} (kinds : Kinds) (k : ErrorKind) (x : Option X) → IsAmong k kinds → (if length kinds == 0 then x else None) ≡ None
not_chosen [] k x among = absurd among
not_chosen (y ∷ kinds) k x among = let some : (length (y ∷ kinds) == 0) ≡ false = grind (arith, common_steps) in rw some refl

-- what the words ask for, where clap finds no fault in them
pub asked_by : (words : List Text) (m : ArgMatches) → faults_in words ≡ [] → subcommand_rows_of m ≡ entered_by words
    → asked words ≡ option_and_then (λ p. asked_at p.0 p.1) (subcommand_rows_of m)
unfolding asked
asked_by words m none has =
    chosen (faults_in words) (option_and_then (λ p. asked_at p.0 p.1) (entered_by words)) none
    ∙ ap (λ (o : Option (Text × List Row)). option_and_then (λ p. asked_at p.0 p.1) o) (sym has)

-- and where it finds one
pub refused_by : (words : List Text) (e : Error) → HasKind (faults_in words) e → kind_of e ≢ kind.OutOfMemory → asked words ≡ None
unfolding asked
refused_by words e (inl memory) not = absurd (not memory)
refused_by words e (inr among) not =
    not_chosen (faults_in words) (kind_of e) (option_and_then (λ p. asked_at p.0 p.1) (entered_by words)) among

-- the command that was entered
pub entered_some : {Z : Type 0} (s : Option (Box SubCommand Z)) (name : Text) (rows : List Row)
    → option_map (λ b. (out-SubCommand (box_value b)).name.now) s ≡ Some name
    → option_map (λ p. p.1) (subcommand_rows s) ≡ Some rows → subcommand_rows s ≡ Some (name, rows)
entered_some None name rows a b = absurd (let clash : None ≡ Some name = a in cc)
entered_some (Some x) name rows a b =
    ap₂ (λ (n : Text) (r : List Row). Some (n, r)) (ap (λ (o : Option Text). unwrap_or o []) a) (ap (λ (o : Option (List Row)). unwrap_or o []) b)

pub entered_none : {Z : Type 0} (s : Option (Box SubCommand Z)) → option_map (λ b. (out-SubCommand (box_value b)).name.now) s ≡ None
    → subcommand_rows s ≡ None
entered_none None a = refl
entered_none (Some x) a = absurd (let clash : Some ((out-SubCommand (box_value x)).name.now) ≡ None = a in cc)

abbrev fault_in : Result Command WordsFault → WordsFault
fault_in (Ok c) = words.Usage
fault_in (Err f) = f

pub same_fault : (f g : WordsFault) → ◌≡◌ {A = Result Command WordsFault} (Err f) (Err g) → f ≡ g
same_fault f g e = ap fault_in e

-- Line after line.
use Rattle.std.proofs.Common.{ℕ, ◌+◌, ◌<◌, ◌≤◌, ◌⊎◌, inl, inr, ◌≡◌, arith, refl, sym, ap, ◌∙◌, subst, List, [], ◌∷◌, ◌++◌, length}
use Rattle.std.specs.Prelude.{All}
use Rattle.std.specs.List.{AllByRecursion}
use Rattle.std.proofs.lemmas.List.{append-nil, append_assoc, length-append}
use Rattle.std.proofs.lemmas.List.Elements.{All-append, All-head, All-nil, All-tail}
use Rattle.vr_header.specs.Names.{root_header}
use Rattle.vr_header.specs.NoCollision.{NoCollision}
use Rattle.vr_msg.specs.declared.output.Output.{Output}
use Rattle.vr_rules.specs.Steps.{Effect}
use Rattle.vr_world.specs.Files.{IsOfFile}
use Rattle.vr_world.specs.GroupFit.{IsFitGroup, IsFitMove}
use Rattle.vr_world.proofs.FitGroups.{groups_fit}
use Rattle.vr_world.specs.Lying.{Lying, hazards}
use Rattle.vr_world.specs.World.{Happening, World, happen, happens}
use Rattle.vr_world.specs.Group.{Group, Played, Run, fresh_group}
use Rattle.vr_world.specs.Safe as safe
use Rattle.vr_world.specs.Safe.{run_outputs}
use Rattle.law_4_disks.specs.Worlds.{IsOfBytes, AreBeside, IsHashedAt, IsMatched, IsMatchedBy, IsOneMove, Said, aside, begun_in, both, left, moved_once, none, read_in, unmoved}
use Rattle.law_4_disks.proofs.Matched.{lines_are_moves}
use Rattle.law_6_one_log.specs.Bridged.{IsBridged, IsLed}
use Rattle.law_6_one_log.specs.Schedules.{IsHashedOf, IsSealedWorld, IsUsedAt, MayFollow, MayHappen, room}
use Rattle.law_6_one_log.specs.ScheduleLaws.{HappeningsAreRuns, IsHashedBy, IsUnforgedBeside, LeavesUnforged, LinesStayUnforged}
use Rattle.law_6_one_log.proofs.UnforgedLines.{line_leaves, line_unforged}
use Rattle.law_6_one_log.proofs.Names.{begun_so, hashed_both, none_hashed, used}
use Rattle.law_6_one_log.proofs.Sessions.{ComesOfEntries, run_comes}
use Rattle.law_6_one_log.proofs.UnforgedValues.{bridged_moved}

-- ---- runs one after the other

run_both : (g : Group) (ps qs : List Played) → Run g ps → Run (left g ps) qs → Run g (ps ++ qs)
run_both g [] qs (Run.ended h) s = s
run_both g (p ∷ ps) qs (Run.goes h x y more m r) s = Run.goes g x y (ps ++ qs) m (run_both y.group ps qs r s)

pub left_both : (g : Group) (ps qs : List Played) → left g (ps ++ qs) ≡ left (left g ps) qs
left_both g [] qs = refl
left_both g (p ∷ ps) qs = left_both p.moved.group ps qs

outputs_both : (ps qs : List Played) → run_outputs (ps ++ qs) ≡ run_outputs ps ++ run_outputs qs
unfolding run_outputs
outputs_both [] qs = refl
outputs_both (p ∷ ps) qs = ap (λ (os : List Output). p.moved.outputs ++ os) (outputs_both ps qs) ∙ sym (append_assoc p.moved.outputs (run_outputs ps) (run_outputs qs))

said_both : (a b c d : List Output) → Said a b → Said c d → Said (a ++ c) (b ++ d)
said_both [] [] c d none t = t
said_both _ _ c d (both os ws gs s) t = subst (λ (x : List Output). Said x ((os ++ gs) ++ d)) (sym (append_assoc os ws c)) (subst (λ (x : List Output). Said (os ++ (ws ++ c)) x) (sym (append_assoc os gs d)) (both os (ws ++ c) (gs ++ d) (said_both ws gs c d s t)))
said_both _ b c d (aside o ws gs is s) t = aside o (ws ++ c) (b ++ d) is (said_both ws b c d s t)

-- ---- and the machine's beside them

bridged_run : {home : ℕ} (g : Group) (run : List Played) (b : IsBridged home g) → IsFitGroup home g → All (λ p. IsFitMove p.move) run → Run g run → (c : IsBridged home (left g run)) × (length c.machine.made ≤ length b.machine.made + length run)
bridged_run {home} g [] b fit well (Run.ended h) = (b, omega arith)
bridged_run {home} g (p ∷ ps) b fit well (Run.goes h x y more m r) =
    let one = All-head (λ (p : Played). IsFitMove p.move) p ps well in
    let first = bridged_moved g x y b fit one m in
    let rest = bridged_run y.group ps first.0 (groups_fit.each home g x y fit one m) (All-tail (λ (p : Played). IsFitMove p.move) p ps well) r in
    let l = first.1 in
    let k = rest.1 in
    (rest.0, omega (arith, l, k))

-- ---- the run that led there, and a line's

one_at_most : (es : List Effect) (ds : List Lying) (run : List Played) → IsOneMove es ds run → length run ≤ 1
one_at_most es ds _ (unmoved still) = omega arith
one_at_most es ds _ (moved_once p script disks) = omega arith

led_on : {home : ℕ} (g : Group) (past : IsLed home g) (run : List Played) → Run g run → All (λ (p : Played). IsFitMove p.move) run → All (λ (p : Played). IsOfFile p.before p.move) run → IsLed home (left g run)
led_on {home} g past run is well files =
    let first : Group = fresh_group past.fit.kinds home past.n in
    let f = past.fit in
    record {
      n = past.n;
      run = past.run ++ run;
      fit = record {
        number = f.number;
        some = f.some;
        many = f.many;
        moves = All-append (λ (p : Played). IsFitMove p.move) past.run run f.moves well;
        files = All-append (λ (p : Played). IsOfFile p.before p.move) past.run run f.files files;
        kinds = f.kinds;
        are_kinds = f.are_kinds;
        of_run = run_both first past.run run f.of_run (subst (λ (h : Group). Run h run) (sym past.is) is);
      };
      is = left_both first past.run run ∙ ap (λ (h : Group). left h run) past.is;
    }

module _ {home : ℕ} (w : World Lying) (g : Group) (x : Happening) (u : IsUnforgedBeside home w g) where
  -- what is hashed by the run with a line's move
  hashed_on : (run : List Played) → IsOneMove (begun_in w x) (read_in w x) run → (P : List ℕ → Type 0) → ((bytes : List ℕ) → IsUsedAt w x bytes → P bytes) → (bytes : List ℕ) → safe.IsHashed (u.past.run ++ run) (root_header home) bytes
      → safe.IsHashed u.past.run (root_header home) bytes ⊎ P bytes
  hashed_on run one P into bytes h = elim (used w x u.past.run run one (root_header home) bytes h) [ inl old ↦ inl old | inr new ↦ inr (into bytes new) ]

  module _ (may : MayHappen home u.past.run w x) where
    -- no op is near those that sessions could spell
    low : length u.bridged.machine.made < room home
    low = let a = u.few in let b = may.few in omega (arith, a, b)

    moves : IsMatchedBy home (begun_in w x) (read_in w x) g (happens hazards w x)
    moves = lines_are_moves home w g x u.beside u.fit u.stock
        (record { line = may.line; names = λ a b p q same. may.names a b (inr (inl p)) (inr (inl q)) same; unforged = line_unforged w g u.beside u.fit u.stock u.bridged low u.sealed x })

    led : IsLed home (left g moves.matched.run)
    led = led_on g u.past moves.matched.run moves.matched.is moves.matched.reads moves.matched.files

    -- so a checkpoint that it writes is of sessions that come of entries
    comes : AllByRecursion ComesOfEntries (begun_in w x)
    unfolding led led_on
    comes =
        let run = moves.matched.run in
        let into = hashed_on run moves.one (λ bytes. IsHashedAt w x bytes ⊎ IsUsedAt w x bytes) (λ bytes h. inr h) in
        let never : NoCollision (λ bytes. safe.IsHashed (u.past.run ++ run) (root_header home) bytes) = λ a b p q same. may.names a b (into a p) (into b q) same in
        begun_so ComesOfEntries u.past.run run (begun_in w x) (read_in w x) moves.one (run_comes home u.past.n (u.past.run ++ run) led.fit never)

    leaves : IsUnforgedBeside home (happens hazards w x).world (left g moves.matched.run)
    unfolding led led_on
    leaves =
        let one = moves.matched in
        let h = happens hazards w x in
        let on = bridged_run g one.run u.bridged u.fit one.reads one.is in
        let sealed = line_leaves w g u.beside u.fit u.stock u.bridged low u.sealed x may.line comes in
        let size = length-append u.past.run one.run in
        let made = on.1 in
        let few = u.few in
        record {
          beside = one.beside;
          fit = moves.fit;
          stock = moves.stock;
          bridged = on.0;
          sealed = subst (IsSealedWorld home h.world) (sym moves.made) sealed;
          past = led;
          few = omega (arith, size, made, few);
        }

pub lines_stay_unforged : LinesStayUnforged
unfolding leaves led led_on
lines_stay_unforged home w g x u may = (moves w g x u may, leaves w g x u may, refl)

-- of the first line, and of those after it
first_may : (home : ℕ) (past : List Played) (w : World Lying) (x : Happening) (xs : List Happening) → MayFollow home past w (x ∷ xs) → MayHappen home past w x
first_may home past w x xs may =
    let few = may.few in
    let into : (bytes : List ℕ) → safe.IsHashed past (root_header home) bytes ⊎ (IsHashedAt w x bytes ⊎ IsUsedAt w x bytes) → safe.IsHashed past (root_header home) bytes ⊎ IsHashedOf home w (x ∷ xs) bytes =
    λ bytes h. elim h [ inl old ↦ inl old | inr new ↦ inr (inl new) ] in
    record { line = may.lines.0; names = λ a b p q same. may.names a b (into a p) (into b q) same; few = omega (arith, few) }

rest_may : (home : ℕ) (w : World Lying) (g : Group) (x : Happening) (xs : List Happening) (u : IsUnforgedBeside home w g) (run : List Played) → IsOneMove (begun_in w x) (read_in w x) run → MayFollow home u.past.run w (x ∷ xs)
    → MayFollow home (u.past.run ++ run) (happens hazards w x).world xs
rest_may home w g x xs u run one may =
    let v = (happens hazards w x).world in
    let into : (bytes : List ℕ) → safe.IsHashed (u.past.run ++ run) (root_header home) bytes ⊎ IsHashedOf home v xs bytes → safe.IsHashed u.past.run (root_header home) bytes ⊎ IsHashedOf home w (x ∷ xs) bytes =
    λ bytes h. elim h [ inl old ↦ hashed_on w g x u run one (IsHashedOf home w (x ∷ xs)) (λ bytes h. inl (inr h)) bytes old | inr later ↦ inr (inr later) ] in
    let size = length-append u.past.run run in
    let most = one_at_most (begun_in w x) (read_in w x) run one in
    let few = may.few in
    record { lines = may.lines.1; names = λ a b p q same. may.names a b (into a p) (into b q) same; few = omega (arith, size, most, few) }

-- ---- lines one after the other, each with its move of the group, in a world that isn't forged

pub data Along (home : ℕ) : World Lying → Group → List Happening → List Played → Type 0 where
  rests : (w : World Lying) (g : Group) → IsUnforgedBeside home w g → Along home w g [] []
  goes_on : (w : World Lying) (g : Group) (x : Happening) (xs : List Happening) (rest : List Played) → IsUnforgedBeside home w g → (m : IsMatchedBy home (begun_in w x) (read_in w x) g (happens hazards w x))
      → Along home (happens hazards w x).world (left g m.matched.run) xs rest → Along home w g (x ∷ xs) (m.matched.run ++ rest)

module _ (home : ℕ) where
  pub along_unforged : (w : World Lying) (g : Group) (xs : List Happening) (run : List Played) → Along home w g xs run → IsUnforgedBeside home w g
  along_unforged _ _ _ _ (rests w g u) = u
  along_unforged _ _ _ _ (goes_on w g x xs rest u m more) = u

  pub along_run : (w : World Lying) (g : Group) (xs : List Happening) (run : List Played) → Along home w g xs run → Run g run
  along_run _ _ _ _ (rests w g u) = Run.ended g
  along_run _ _ _ _ (goes_on w g x xs rest u m more) = run_both g m.matched.run rest m.matched.is (along_run (happens hazards w x).world (left g m.matched.run) xs rest more)

  pub along_reads : (w : World Lying) (g : Group) (xs : List Happening) (run : List Played) → Along home w g xs run → All (λ (p : Played). IsFitMove p.move) run
  along_reads _ _ _ _ (rests w g u) = All-nil (λ (p : Played). IsFitMove p.move)
  along_reads _ _ _ _ (goes_on w g x xs rest u m more) =
      All-append (λ (p : Played). IsFitMove p.move) m.matched.run rest m.matched.reads (along_reads (happens hazards w x).world (left g m.matched.run) xs rest more)

  along_bytes : (w : World Lying) (g : Group) (xs : List Happening) (run : List Played) → Along home w g xs run → All (λ (p : Played). IsOfBytes p.move) run
  along_bytes _ _ _ _ (rests w g u) = All-nil (λ (p : Played). IsOfBytes p.move)
  along_bytes _ _ _ _ (goes_on w g x xs rest u m more) =
      All-append (λ (p : Played). IsOfBytes p.move) m.matched.run rest m.matched.bytes (along_bytes (happens hazards w x).world (left g m.matched.run) xs rest more)

  pub along_files : (w : World Lying) (g : Group) (xs : List Happening) (run : List Played) → Along home w g xs run → All (λ (p : Played). IsOfFile p.before p.move) run
  along_files _ _ _ _ (rests w g u) = All-nil (λ (p : Played). IsOfFile p.before p.move)
  along_files _ _ _ _ (goes_on w g x xs rest u m more) =
      All-append (λ (p : Played). IsOfFile p.before p.move) m.matched.run rest m.matched.files (along_files (happens hazards w x).world (left g m.matched.run) xs rest more)

  along_beside : (w : World Lying) (g : Group) (xs : List Happening) (run : List Played) → Along home w g xs run → AreBeside (happen hazards w xs).world (left g run)
  unfolding happen
  along_beside _ _ _ _ (rests w g u) = u.beside
  along_beside _ _ _ _ (goes_on w g x xs rest u m more) =
      let v = (happens hazards w x).world in
      subst (AreBeside (happen hazards v xs).world) (sym (left_both g m.matched.run rest)) (along_beside v (left g m.matched.run) xs rest more)

  pub along_said : (w : World Lying) (g : Group) (xs : List Happening) (run : List Played) → Along home w g xs run → Said (happen hazards w xs).outputs (run_outputs run)
  unfolding happen run_outputs
  along_said _ _ _ _ (rests w g u) = none
  along_said _ _ _ _ (goes_on w g x xs rest u m more) =
      let h = happens hazards w x in
      let later = (happen hazards h.world xs).outputs in
      subst (Said (h.outputs ++ later)) (sym (outputs_both m.matched.run rest)) (said_both h.outputs (run_outputs m.matched.run) later (run_outputs rest) m.matched.said (along_said h.world (left g m.matched.run) xs rest more))

  -- so they are a run
  pub matched_of : (w : World Lying) (g : Group) (xs : List Happening) (run : List Played) → Along home w g xs run → (m : IsMatched g (happen hazards w xs)) × (m.run ≡ run)
  matched_of w g xs run a = (
    record { run = run; is = along_run w g xs run a; reads = along_reads w g xs run a; bytes = along_bytes w g xs run a; files = along_files w g xs run a; beside = along_beside w g xs run a; said = along_said w g xs run a },
    refl,
  )

  -- that of the first lines is a front of it
  pub record Splits (w : World Lying) (g : Group) (xs : List Happening) (run : List Played) : Type 0 where
    pub first : List Played
    pub rest : List Played
    pub is : run ≡ first ++ rest
    pub along : Along home w g xs first

  pub splits : (w : World Lying) (g : Group) (xs ys : List Happening) (run : List Played) → Along home w g (xs ++ ys) run → Splits w g xs run
  splits w g [] ys run a = record { first = []; rest = run; is = refl; along = rests w g (along_unforged w g ys run a) }
  splits _ _ (x ∷ xs) ys _ (goes_on w g _ _ rest u m more) =
      let s = splits (happens hazards w x).world (left g m.matched.run) xs ys rest more in
      record {
        first = m.matched.run ++ s.first;
        rest = s.rest;
        is = ap (λ (ps : List Played). m.matched.run ++ ps) s.is ∙ sym (append_assoc m.matched.run s.first s.rest);
        along = goes_on w g x xs s.first u m s.along;
      }

  -- ---- each list of lines has such a run

  -- after these moves
  pub record Goes (w : World Lying) (g : Group) (past : List Played) (xs : List Happening) : Type 0 where
    pub run : List Played
    pub along : Along home w g xs run
    pub hashed : IsHashedBy home w xs run
    pub leaves : LeavesUnforged home (happen hazards w xs).world g past run
    pub few : length run ≤ length xs

  pub goes : (xs : List Happening) (w : World Lying) (g : Group) (u : IsUnforgedBeside home w g) → MayFollow home u.past.run w xs → Goes w g u.past.run xs
  unfolding happen
  goes [] w g u may = record { run = []; along = rests w g u; hashed = none_hashed home [] w; leaves = record { unforged = u; led = sym (append-nil u.past.run) }; few = omega arith }
  goes (x ∷ xs) w g u may =
      let by = lines_stay_unforged home w g x u (first_may home u.past.run w x xs may) in
      let one = by.0.matched in
      let h = happens hazards w x in
      let next : MayFollow home by.1.past.run h.world xs = subst (λ (past : List Played). MayFollow home past h.world xs) (sym by.2) (rest_may home w g x xs u one.run by.0.one may) in
      let later = goes xs h.world (left g one.run) by.1 next in
      let end : World Lying = (happen hazards h.world xs).world in
      let z = subst (λ (k : Group). (v : IsUnforgedBeside home end k) × (v.past.run ≡ by.1.past.run ++ later.run)) (sym (left_both g one.run later.run)) (later.leaves.unforged, later.leaves.led) in
      let size = length-append one.run later.run in
      let most = one_at_most (begun_in w x) (read_in w x) one.run by.0.one in
      let shorter = later.few in
      record {
        run = one.run ++ later.run;
        along = goes_on w g x xs later.run u by.0 later.along;
        hashed = λ bytes all. elim (hashed_both one.run later.run (root_header home) bytes all) [
          | inl first ↦ elim (used w x [] one.run by.0.one (root_header home) bytes first) [ inl nothing ↦ none_hashed home (x ∷ xs) w bytes nothing | inr new ↦ inl (inr new) ]
          | inr more ↦ inr (later.hashed bytes more)
        ];
        leaves = record { unforged = z.0; led = z.1 ∙ (ap (λ (ps : List Played). ps ++ later.run) by.2 ∙ append_assoc u.past.run one.run later.run) };
        few = omega (arith, size, most, shorter);
      }

pub happenings_are_runs : HappeningsAreRuns
unfolding matched_of
happenings_are_runs home xs w g u may =
    let l = goes home xs w g u may in
    ((matched_of home w g xs l.run l.along).0, l.hashed, l.leaves, l.few)

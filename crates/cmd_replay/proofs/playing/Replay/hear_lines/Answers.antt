use Rattle.std.proofs.Common.{◌++◌, ◌∷◌, refl, sym, ap, ◌∙◌, arith}
use Rattle.std.proofs.lemmas.Result.{err_from_is_err_and}
use Rattle.vr_lines.specs.Held.{Held}
use Rattle.cmd_replay.proofs.Streams.{given_line, taking_start, taking_more, taking_has, taking_done, taking_has_refused}
use Rattle.cmd_replay.proofs.playing.Replay.hear_lines.Goals as goal

pub loop-self-init : goal.loop-self-init
loop-self-init c = record { midst = taking_start _ _; live = c.requires.live; few = c.requires.few }

pub loop-self-preserved : goal.loop-self-preserved
loop-self-preserved c =
    let i = c.loop-self.invariant in
    let e = c.in_ok-take_line-in-Line.ensures in
    let h = given_line c.loop-self.self.lines.bytes c.next.new.self c.in-Line.ensures in
    record {
      midst = taking_more _ c.loop-self.self c.take_line.new.self c.next.new.self.line _ _ _ i.midst h.0 (h.1 ∙ ap (λ (l : Held). c.next.new.self.line ++ 10 ∷ l.bytes) (sym e.lines)) e.scene e.number e.accepted e.text;
      live = e.live;
      few = e.few;
    }

pub returns-in_err-take_line-in-Line-clause-stopped : goal.returns-in_err-take_line-in-Line-clause-stopped
returns-in_err-take_line-in-Line-clause-stopped c =
    let p = err_from_is_err_and c.from_residual.result c.from_residual.ensures.1 in
    let i = c.loop-self.invariant in
    let h = given_line c.loop-self.self.lines.bytes c.next.new.self c.in-Line.ensures in
    rw (p.1, p.2) (taking_has _ _ _ _ c.loop-self.self c.next.new.self.line c.next.new.self.bytes _ i.midst h.0 h.1 c.in_err-take_line-in-Line.ensures.stopped)

pub returns-in-TooLong-clause-stopped : goal.returns-in-TooLong-clause-stopped
returns-in-TooLong-clause-stopped c =
    let t = c.in-TooLong.ensures in
    taking_has_refused _ _ _ c.loop-self.self c.loop-self.invariant.midst t.0 (omega (arith, t.1))

pub returns-in-More-clause-heard : goal.returns-in-More-clause-heard
returns-in-More-clause-heard c =
    let i = c.loop-self.invariant in
    let t = c.in-More.ensures in
    taking_done _ c.loop-self.self _ _ _ i.midst i.live i.few t.1 (omega (arith, t.2)) refl refl t.3

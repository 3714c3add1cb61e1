-- What is drawn to be asked fits each version.
use Rattle.std.proofs.Common.{ℕ, Bool, true, false, cond, arith, ◌==◌, ◌%◌}
use Rattle.vr_base.specs.Versions.{value_limit}
use Rattle.vr_base.proofs.Versions.{between}
use Rattle.vr_header.specs.Bodies.{IsOperation}
use Rattle.vr_header.specs.declared.operation.Operation.{Operation}
use Rattle.vr_draws.specs.Draws.{Drawn, draw}
use Rattle.vr_draws.specs.Drawn.{drawn_asking, drawn_operation}
use Rattle.vr_draws.proofs.Texts.{key_text, short_value}

either : (version : ℕ) (b : Bool) (x y : Drawn Operation) → IsOperation version x.value → IsOperation version y.value → IsOperation version (cond b x y).value
either version true x y h k = h
either version false x y h k = k

pub operation_fits : (version x : ℕ) → IsOperation version (drawn_operation x).value
unfolding drawn_operation
operation_fits version x =
    let room = between version 1024 3000 (omega arith) in
    either version (draw x 1 % 3 == 0) _ _ (key_text (draw x 2), short_value (value_limit version) (draw x 3) (omega arith))
    (either version (draw x 1 % 3 == 1) _ _ (key_text (draw x 2)) (key_text (draw x 2)))

pub drawn_fits : (version number x : ℕ) → IsOperation version (drawn_asking number x).value
unfolding drawn_asking
drawn_fits version number x = either version (number == 0) _ _ tt (operation_fits version x)

-- What a data file is made as.
use Rattle.vr_base.specs.declared.kind.Kind.{Kind}
use Rattle.vr_base.specs.declared.mode.Mode.{Mode}
use Rattle.vr_base.specs.declared.mode.Mode.TheVariants.{Strict}

-- a file of version 1, whose slots are judged in this mode
abbrev pub of_mode : Mode → Kind
of_mode mode = record { mode = mode; version = 1 }

-- a file as it is made where nothing else is asked for
abbrev pub strict : Kind
strict = of_mode Strict

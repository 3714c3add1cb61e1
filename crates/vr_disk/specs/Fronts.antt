-- A text after its name, and the sector that begins it.
use Rattle.std.specs.Prelude.{ℕ, List, ◌++◌, take}
use Rattle.vr_base.specs.Bytes.{name_of}

-- the first sector of a name and the text after it
unfoldable pub front : List ℕ → List ℕ
front text = name_of text ++ take 496 text

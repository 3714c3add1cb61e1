-- Whether two headers are one.
use Rattle.std.specs.Prelude.{Bool}
use Rattle.vr_header.specs.declared.header.Header.{Header}
use Rattle.vr_header.specs.contracts.header.HeaderPartialEq.TheImpl as compared

-- the headers' ==
unfoldable pub same_header : Header → Header → Bool
same_header a b = compared.ghosts.eq a b

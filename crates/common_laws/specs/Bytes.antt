-- A literal text as bytes, so that a definition can show a word or a line as it is printed.
-- Assumes nothing.
use Rattle.std.specs.Prelude.{List, ℕ}
use Prim.Native.Char.{code}
use Prim.Native.String.{String}

-- the bytes of a text of ASCII characters
unfoldable pub bytes_of : String → List ℕ
bytes_of String.[] = List.[]
bytes_of (String.◌∷◌ c s) = List.◌∷◌ (code c) (bytes_of s)

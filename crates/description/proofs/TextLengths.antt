-- What a text is read to, by its length.
-- Assumes nothing.
use mathlib.Core.List.{List}
use mathlib.Core.Path.{◌≡◌}
use Prim.Native.Nat.{ℕ, ◌≤◌, ◌<◌}
use lib.ListN.{length}
use borrow.Author.Tests.{lt-ltb, le-ltb}
use Rattle.description_board.specs.Rules.{refused, described}
use Rattle.description_lines.specs.Reader.{items_of}
use Rattle.description.specs.Reader.{most_bytes, reading}

-- the length goes first
pub reading_short : (s : List ℕ) → length s ≤ most_bytes → reading s ≡ described (items_of s)
unfolding reading
reading_short s h = rw (le-ltb most_bytes (length s) h)

pub reading_long : (s : List ℕ) → most_bytes < length s → reading s ≡ refused 1
unfolding reading
reading_long s h = rw (lt-ltb most_bytes (length s) h)

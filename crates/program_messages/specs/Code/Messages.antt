-- The line that tells of an error, in front of the error's own text.
-- Assumes nothing.
use Rattle.std.specs.Prelude.{List, ◌∷◌, ◌++◌, ◌≡◌, ℕ, ◌-◌, min, length, take}
use Rattle.io.specs.Counts.{IsPrefixLen}

-- `program: what`
unfoldable pub head : List ℕ → List ℕ → List ℕ
head program what = program ++ (58 ∷ 32 ∷ what)

-- the first n bytes of a room are the text, or as much of it as fits
pub record Holds (room : List ℕ) (n : ℕ) (text : List ℕ) : Type 0 where
  pub same : take n room ≡ take (length room) text
  pub fits : IsPrefixLen n room

-- a line and bytes after it, as many as fit into its first `most`
unfoldable pub with : ℕ → List ℕ → List ℕ → List ℕ
with most line bytes = line ++ take (most - length line) bytes

-- a line in a room for `most` bytes, and what was said of it
pub record Said : Type 0 where
  pub most : ℕ
  pub said : List ℕ

-- the first `at` bytes of a room, as a line in it
unfoldable pub begun : List ℕ → ℕ → Said
begun room at = record { most = length room; said = take at room }

-- the line with bytes after it, as many as fit into the room
unfoldable pub told : Said → List ℕ → Said
told line bytes = record { most = line.most; said = with line.most line.said bytes }

-- a line in a room that begins with `program: what`, as many bytes of it as fit into the first 8192
unfoldable pub headed : ℕ → List ℕ → List ℕ → Said
headed most program what = record { most = most; said = take (min 8192 most) (head program what) }

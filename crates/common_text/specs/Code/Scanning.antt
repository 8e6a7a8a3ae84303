-- Gives the code of common_text, and of what writes text by it, its shape: the position where a scan or a write stops.
-- Assumes nothing.
use Rattle.std.specs.Prelude.{◌≡◌, cond, List, [], ◌∷◌, ◌++◌, ℕ, ◌≤◌, ◌+◌, ◌/◌, ◌%◌, ltb, length, take, drop}
use Rattle.std.proofs.lemmas.List.Edits.{sets}
use Rattle.common_text.specs.Fields.{split}
use Rattle.common_text.specs.declared.Writer.{Writer}

-- the pieces of s behind the separator at `position`; none where s ends there. `take` and `drop` of more than there is are
-- all of the list and none of it.
unfoldable pub behind : ℕ → List ℕ → ℕ → List (List ℕ)
behind separator s position = cond (ltb position (length s)) (split separator (drop (position + 1) s)) []

-- `position` is where the first piece of s ends: at its first separator, or at its end
pub record Cut (separator : ℕ) (s : List ℕ) (position : ℕ) : Type 0 where
  pub within : position ≤ length s
  pub pieces : split separator s ≡ take position s ∷ behind separator s position

-- `before` with the text stored from position `at` on is `after`, and `next` is the position behind the text. `sets` stores byte
-- after byte and leaves out those past the end, so that the length stays.
pub record Put (before : List ℕ) (at : ℕ) (text : List ℕ) (after : List ℕ) (next : ℕ) : Type 0 where
  pub end : next ≡ at + length text
  pub bytes : after ≡ sets before at text

-- the two digits of n, which has one or two, with a 0 in front where it has one
unfoldable pub two_digits : ℕ → List ℕ
two_digits n = (48 + n / 10) ∷ (48 + n % 10) ∷ []

-- the four digits of n, which has at most four, with a 0 in front for each that it lacks
unfoldable pub four_digits : ℕ → List ℕ
four_digits n = two_digits (n / 100) ++ two_digits (n % 100)

-- the output of w has room for `text` from its position on
abbrev pub HasRoom : Writer → List ℕ → Type 0
HasRoom w text = w.at + length text ≤ length w.out.now

-- w has written `text` and become `after`, which lends the same output
pub record Wrote (w : Writer) (text : List ℕ) (after : Writer) : Type 0 where
  pub put : Put w.out.now w.at text after.out.now after.at
  pub same : after.out.ghost_name ≡ w.out.ghost_name

-- The writer's line of a pair (rules 1.8, 1.9): one where it is connected, none where it is not, by its shares alone. The line
-- `default` (rule 1.11): one where the board has it, none where it has not.
-- Assumes nothing.
use mathlib.Core.Path.{◌≡◌}
use mathlib.Core.Bool.{Bool, true, false}
use mathlib.Core.List.{List, [], ◌∷◌}
use mathlib.Core.Logic.{◌≢◌}
use Prim.Native.Nat.{ℕ, ◌/◌, ◌%◌}
use lib.ListN.{get_or}
use borrow.Author.Tests.{eq-eqb, ne_eqb}
use Rattle.description_board.specs.declared.Item.TheVariants.{ShareLine, DefaultLine}
use Rattle.description_board.specs.Items.{share_item, default_item}

module _ (shares : List ℕ) (i : ℕ) where
  pub line_none : get_or shares i 0 ≡ 0 → share_item shares i ≡ []
  unfolding share_item
  line_none h = rw (eq-eqb _ _ h)

  pub line_some : get_or shares i 0 ≢ 0 → share_item shares i ≡ ShareLine (i / 16) (i % 16) (get_or shares i 0) ∷ []
  unfolding share_item
  line_some h = rw (ne_eqb _ _ h)

pub line_same : (k l : List ℕ) (i : ℕ) → get_or k i 0 ≡ get_or l i 0 → share_item k i ≡ share_item l i
unfolding share_item
line_same k l i e = rw e

module _ (has : Bool) where
  pub default_none : has ≡ false → default_item has ≡ []
  unfolding default_item
  default_none e = rw e

  pub default_some : has ≡ true → default_item has ≡ DefaultLine ∷ []
  unfolding default_item
  default_some e = rw e

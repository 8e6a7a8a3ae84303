-- Gives the code of description_check its shape: a board's lines by index, its masters, its slaves, the 128 pairs, then `default`.
-- Assumes nothing.
use Rattle.std.specs.Prelude.{Bool, cond, List, Option, Some, None, option_to_list, ℕ, ◌+◌, ◌-◌, ◌/◌, ◌%◌, ltb, eqb, get_or}
use Rattle.common_laws.specs.Lists.{gather}
use Rattle.description_board.specs.declared.Board.{Board}
use Rattle.description_board.specs.declared.Item.{Item}
use Rattle.description_board.specs.declared.Item.TheVariants.{ShareLine, DefaultLine}
use Rattle.description_board.specs.Items.{master_item, slave_item}

-- how many entries a board has: its masters, its slaves, 128 pairs, the line `default`
abbrev pub entry_count : Board → ℕ
entry_count b = b.master_count + b.slave_count + 129

-- the line of the pair at index i of the shares (rule 1.8), if it is connected
unfoldable pub pair_item : List ℕ → ℕ → Option Item
pair_item shares i = cond (eqb (get_or shares i 0) 0) None (Some (ShareLine (i / 16) (i % 16) (get_or shares i 0)))

-- the line of the last entry, of a board that has the line `default` or has it not (rule 1.11)
unfoldable pub last_item : Bool → Option Item
last_item has = cond has (Some DefaultLine) None

-- the line of entry k, if it has one (rules 1.4, 1.9)
unfoldable pub line_at : Board → ℕ → Option Item
line_at b k =
    cond (ltb k b.master_count) (Some (master_item b.masters k))
    (cond (ltb k (b.master_count + b.slave_count)) (Some (slave_item b.slaves (k - b.master_count)))
    (cond (ltb k (b.master_count + b.slave_count + 128)) (pair_item b.shares (k - (b.master_count + b.slave_count)))
    (last_item b.default_line)))

-- the lines of the first n entries
unfoldable pub lines_to : Board → ℕ → List Item
lines_to b n = gather (λ k. option_to_list (line_at b k)) n

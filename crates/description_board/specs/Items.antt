-- A board's lines as the writer puts them (rule 1.9), and what a board that no reader made is refused for (rule 8.5).
-- Assumes nothing.
use Rattle.std.specs.Prelude.{Bool, cond, List, [], ◌∷◌, ◌++◌, ℕ, ◌/◌, ◌%◌, eqb, get_or}
use Rattle.common_laws.specs.Lists.{gather, table}
use Rattle.description_board.specs.declared.Master.{Master}
use Rattle.description_board.specs.Records.{Slave, SlaveNumbers}
use Rattle.description_board.specs.declared.Board.{Board}
use Rattle.description_board.specs.declared.Item.{Item}
use Rattle.description_board.specs.declared.Item.TheVariants.{MasterLine, SlaveLine, ShareLine, DefaultLine}
use Rattle.description_board.specs.Records.{no_master, no_slave}
use Rattle.description_board.specs.Rules.{described}

-- rule 1.3: `master,width,burst`, the line of master i
unfoldable pub master_item : List Master → ℕ → Item
master_item ms i = let m = get_or ms i no_master in MasterLine m.width m.burst

-- rule 1.3: `slave,base,span,width,burst,readwait,writewait,native,latency`, the numbers of a slave's line
abbrev pub slave_numbers : Slave → SlaveNumbers
slave_numbers s = record {
  base = s.base;
  span = s.span;
  width = s.width;
  burst = s.burst;
  read_wait = s.read_wait;
  write_wait = s.write_wait;
  native = s.native;
  latency = s.latency;
}

-- rule 1.3: the line of slave i
unfoldable pub slave_item : List Slave → ℕ → Item
slave_item ss i = SlaveLine (slave_numbers (get_or ss i no_slave))

-- rules 1.3, 1.8: `share,master,slave,shares`, the line of the pair at index i of the shares; none where it is not connected
unfoldable pub share_item : List ℕ → ℕ → List Item
share_item shares i = cond (eqb (get_or shares i 0) 0) [] (ShareLine (i / 16) (i % 16) (get_or shares i 0) ∷ [])

-- rules 1.3, 1.11: `default`, the line of a board that has it
unfoldable pub default_item : Bool → List Item
default_item has = cond has (DefaultLine ∷ []) []

-- rules 1.4, 1.9: a line for each master, then for each slave, then for each pair connected, all by number, then `default`
unfoldable pub items : Board → List Item
items b =
    table (master_item b.masters) b.master_count
    ++ (table (slave_item b.slaves) b.slave_count
    ++ (gather (share_item b.shares) 128 ++ default_item b.default_line))

-- rules 1.10, 8.5: what a board is refused for, or 0, by the lines that the writer would put for it
unfoldable pub board_refusal : Board → ℕ
board_refusal b = (described (items b)).number

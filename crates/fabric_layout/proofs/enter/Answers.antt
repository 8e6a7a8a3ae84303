-- `fabric_layout::enter` meets its contract: where fewer than eight stand the entry is put behind them, and else the lost mark is set.
-- Assumes nothing.
use borrow.Author.Rules.{rules}
use Rattle.fabric_layout.proofs.MarkLaws.{room_leaves, full_leaves}
use Rattle.fabric_layout.proofs.enter.Goals as goal

pub returns-then-n-lt8 : goal.returns-then-n-lt8
returns-then-n-lt8 c = room_leaves _ (search rules) _ _ c.before.before.before.log_count-n.ensures (search rules) c.put_entry.ensures

pub returns : goal.returns
returns c = full_leaves _ (search rules) _ _ c.before.log_count-n.ensures (search rules)

-- `description::read_bounded` meets its contract. A text short enough, and one too long.
-- Assumes nothing.
use Rattle.std.proofs.Common.{arith}
use Rattle.description.proofs.BlameLaws.{comes_short, comes_long}
use Rattle.description.specs.Reader.{most_bytes}
use Rattle.description.proofs.read_bounded.Goals as goal

pub returns-then-text-le-TEXT_BYTES : goal.returns-then-text-le-TEXT_BYTES
unfolding most_bytes
returns-then-text-le-TEXT_BYTES c =
    comes_short c.args.text.now _ _ (omega (arith, c.if-text-le-TEXT_BYTES.true)) c.read_lines.ensures

pub returns : goal.returns
unfolding most_bytes
returns c =
    comes_long c.args.text.now _ (omega arith) c.requires

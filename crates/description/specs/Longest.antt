-- How long the text of a board can be (rules 1.3, 1.6, 1.9).
-- Assumes nothing.
use Rattle.std.specs.Prelude.{ℕ, ◌+◌, ◌*◌}

-- no accepted board's text has more bytes (rules 1.3, 1.6): 8 lines as `master,8,64`, 16 as
-- `slave,4294901760,65536,8,64,255,255,0,63`, 128 as `share,7,15,100`, one `default`, each with its line feed
unfoldable pub longest : ℕ
longest = 8 * 12 + 16 * 41 + 128 * 15 + 8

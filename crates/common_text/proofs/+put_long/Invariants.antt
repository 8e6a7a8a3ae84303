-- `common_text::put_long` calls itself with n / 10000: the measure is n.
-- Assumes nothing.
use Rattle.common_text.proofs.+put_long.Given as goal

abbrev pub decreases-put_long : goal.decreases-put_long
decreases-put_long l = l.n

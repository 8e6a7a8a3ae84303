-- The legal lanes one by one: a second reading of rule 3.4, which `legal_means` proves equal to `legal_lanes` for 8 lanes.
-- Assumes nothing.
use Rattle.std.specs.Prelude.{Bool, ◌&&◌, ℕ, ◌+◌, ◌*◌, ◌^◌, leb, ltb}
use Rattle.common_laws.specs.Bits.{bit}
use Rattle.common_laws.specs.Lists.{agree, every, some}

-- of the 8 lanes exactly the n from lane low on are 1
unfoldable pub exactly : ℕ → ℕ → ℕ → Bool
exactly n low lanes = every (λ k. agree (bit lanes k) (leb low k && ltb k (low + n))) 8

-- rule 3.4: for some n of 1, 2, 4, 8 and some multiple low of n, low + n at most the width, exactly n lanes from low on are 1
unfoldable pub meant : ℕ → ℕ → Bool
meant width lanes =
    some (λ i. some (λ j. leb (j * 2 ^ i + 2 ^ i) width && exactly (2 ^ i) (j * 2 ^ i) lanes) 8) 4

-- The two readings of legal lanes are one: computed at every width and mask.
-- Assumes nothing.
use mathlib.Core.Path.{◌≡◌}
use mathlib.Core.Bool.{Bool}
use Prim.Native.Nat.{ℕ, ◌≤◌, ◌<◌, suc-le-suc}
use lib.Count.{ones, ones_in, count_trailing_zeros}
use Rattle.common_laws.specs.Bits.{bit}
use Rattle.common_laws.specs.Lists.{member, agree, every, some}
use Rattle.common_laws.proofs.Finite.{upto, each, agree_eq}
use Rattle.fabric_lanes.specs.Lanes.{lowest, adjacent, legal_lanes}
use Rattle.fabric_lanes.specs.LaneMeaning.{exactly, meant}

test : ℕ → ℕ → Bool
unfolding legal_lanes adjacent lowest ones ones_in count_trailing_zeros bit member every some exactly meant
test width lanes = agree (legal_lanes width lanes) (meant width lanes)

pub legal_means : (width lanes : ℕ) → width ≤ 8 → lanes < 256 → legal_lanes width lanes ≡ meant width lanes
unfolding test legal_lanes adjacent lowest ones ones_in count_trailing_zeros bit member every some exactly meant
legal_means width lanes w l =
    agree_eq _ _
    (each (test width) 256 (each (λ n. upto 256 (test n)) 9 tt width (suc-le-suc w)) lanes l)

-- Which lanes a post may have (rules 3.4, 3.5).
-- Assumes nothing.
use Rattle.std.specs.Prelude.{Bool, ◌&&◌, ◌||◌, [], ◌∷◌, ℕ, ◌-◌, ◌*◌, ◌+◌, ◌%◌, ◌^◌, eqb, leb}
use Rattle.std.specs.Int.Count.{ones, count_trailing_zeros}
use Rattle.common_laws.specs.Lists.{member}

-- rule 3.4: the number of the lowest lane of a mask of 8 lanes; 8 of the mask 0, which `legal_lanes` refuses for its count
unfoldable pub lowest : ℕ → ℕ
lowest lanes = count_trailing_zeros 8 lanes

-- rule 3.5: all lanes of a width. A difference stops at 0, but a power of two is at least 1.
abbrev pub all_lanes : ℕ → ℕ
all_lanes width = 2 ^ width - 1

-- rule 3.4: the lanes stand side by side: as many as the mask has, from its lowest lane upward
unfoldable pub adjacent : ℕ → Bool
adjacent lanes = eqb lanes (all_lanes (ones lanes) * 2 ^ lowest lanes)

-- rule 3.4: how many lanes, that they stand side by side, which is the lowest, and all below the width
unfoldable pub legal_lanes : ℕ → ℕ → Bool
legal_lanes width lanes =
    member (ones lanes) (1 ∷ 2 ∷ 4 ∷ 8 ∷ [])
    && (adjacent lanes && (eqb (lowest lanes % ones lanes) 0 && leb (lowest lanes + ones lanes) width))

-- rules 3.4, 3.5: the lanes are legal, and of a burst all of the width
unfoldable pub post_lanes : ℕ → ℕ → ℕ → Bool
post_lanes width lanes beats = legal_lanes width lanes && (leb beats 1 || eqb lanes (all_lanes width))

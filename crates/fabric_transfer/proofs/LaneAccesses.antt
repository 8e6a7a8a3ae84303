-- Which accesses of a beat have a lane, of a pair of widths with bus sizing: computed at every pair, every mask of lanes that is
-- legal and every access.
-- Assumes nothing.
use mathlib.Core.Path.{◌≡◌}
use mathlib.Core.Bool.{Bool, true, cond, not, ◌&&◌}
use Prim.Native.Nat.{ℕ, ◌+◌, ◌-◌, ◌*◌, ◌/◌, ◌%◌, ◌^◌, ◌≤◌, ◌<◌, min}
use lib.Count.{ones, ones_in, count_trailing_zeros}
use lib.Dec.{T, eqb, leb, ltb, eqb→eq, leb→le}
use borrow.Author.Tests.{lt-ltb, le-leb}
use Rattle.common_laws.specs.Lists.{member, agree}
use Rattle.common_laws.proofs.Finite.{upto, each, agree_eq}
use Rattle.common_laws.proofs.Tests.{both_hold}
use Rattle.description_board.specs.Rules.{widths}
use Rattle.fabric_lanes.specs.Lanes.{lowest, all_lanes, adjacent, legal_lanes}
use Rattle.fabric_lanes.proofs.LaneLaws.{legal_word}
use Rattle.fabric_transfer.proofs.AlignmentLaws.{pairs, of_pair}

-- the lanes that access a of a beat has, of a pair of widths with bus sizing, and the accesses of a beat
abbrev pub lanes_of : ℕ → ℕ → ℕ → ℕ → ℕ
lanes_of m s lanes a = lanes / 2 ^ (a * min m s % m) % 2 ^ min m s

abbrev pub accesses_of : ℕ → ℕ → ℕ
accesses_of m s = cond (ltb s m) (m / s) 1

-- the first of a beat's accesses that have a lane, and how many have one
abbrev pub first_of : ℕ → ℕ → ℕ → ℕ
first_of m s lanes = lowest lanes / min m s

abbrev pub count_of : ℕ → ℕ → ℕ → ℕ
count_of m s lanes = (ones lanes + (min m s - 1)) / min m s

-- some access of a beat has a lane; those that have one are accesses of the beat; access a has one exactly where it is one of
-- them
abbrev some_test : ℕ → ℕ → ℕ → Bool
some_test m s lanes = leb 1 (count_of m s lanes)

abbrev fits_test : ℕ → ℕ → ℕ → Bool
fits_test m s lanes = leb (first_of m s lanes + count_of m s lanes) (accesses_of m s)

abbrev agrees_test : ℕ → ℕ → ℕ → ℕ → Bool
agrees_test m s lanes a =
    cond (ltb a (accesses_of m s))
    (agree (not (eqb (lanes_of m s lanes a) 0)) (leb (first_of m s lanes) a && ltb a (first_of m s lanes + count_of m s lanes)))
    true

-- of legal lanes: computed at every pair of widths, every mask and every access of a beat
lane_test : ℕ → ℕ → ℕ → Bool
unfolding ones ones_in count_trailing_zeros lowest adjacent member legal_lanes
lane_test m s lanes =
    cond (legal_lanes m lanes) (some_test m s lanes && (fits_test m s lanes && upto 8 (agrees_test m s lanes))) true

-- of all lanes: every access has one, wherever in the word it begins
abbrev whole_test : ℕ → ℕ → Bool
whole_test m s = eqb (first_of m s (all_lanes m)) 0 && eqb (count_of m s (all_lanes m)) (accesses_of m s)

abbrev part_test : ℕ → ℕ → ℕ → Bool
part_test m s from = cond (leb (from + min m s) m) (agree (not (eqb (all_lanes m / 2 ^ from % 2 ^ min m s) 0)) true) true

module _ (m s : ℕ) (p : member m widths ≡ true) (q : member s widths ≡ true) where
  module _ (lanes : ℕ) (legal : legal_lanes m lanes ≡ true) where
    lane_test_lem : T (lane_test m s lanes)
    unfolding lane_test pairs ones ones_in count_trailing_zeros lowest adjacent member legal_lanes
    lane_test_lem =
        each (lane_test m s) (2 ^ m) (of_pair (λ x y. upto (2 ^ x) (lane_test x y)) tt m s p q) lanes (legal_word m lanes legal)

    lane_parts : T (some_test m s lanes) × T (fits_test m s lanes) × T (upto 8 (agrees_test m s lanes))
    unfolding lane_test
    lane_parts =
        let x = both_hold (some_test m s lanes) (fits_test m s lanes && upto 8 (agrees_test m s lanes)) (rw legal at lane_test_lem) in
        let y = both_hold (fits_test m s lanes) (upto 8 (agrees_test m s lanes)) x.1 in
        (x.0, y.0, y.1)

    pub lane_some : 1 ≤ count_of m s lanes
    lane_some = leb→le _ _ lane_parts.0

    pub lane_fits : first_of m s lanes + count_of m s lanes ≤ accesses_of m s
    lane_fits = leb→le _ _ lane_parts.1

    pub lane_agrees : (a : ℕ) → a < accesses_of m s → a < 8
        → not (eqb (lanes_of m s lanes a) 0) ≡ (leb (first_of m s lanes) a && ltb a (first_of m s lanes + count_of m s lanes))
    lane_agrees a h l =
        agree_eq _ _ (rw (lt-ltb a (accesses_of m s) h) at (each (agrees_test m s lanes) 8 lane_parts.2 a l))

  whole_parts : T (eqb (first_of m s (all_lanes m)) 0) × T (eqb (count_of m s (all_lanes m)) (accesses_of m s))
  unfolding pairs ones ones_in count_trailing_zeros lowest
  whole_parts = both_hold (eqb (first_of m s (all_lanes m)) 0) _ (of_pair whole_test tt m s p q)

  pub full_first : first_of m s (all_lanes m) ≡ 0
  full_first = eqb→eq _ _ whole_parts.0

  pub full_count : count_of m s (all_lanes m) ≡ accesses_of m s
  full_count = eqb→eq _ _ whole_parts.1

  pub full_lanes : (from : ℕ) → from + min m s ≤ m → from < 8 → not (eqb (all_lanes m / 2 ^ from % 2 ^ min m s) 0) ≡ true
  unfolding pairs
  full_lanes from h l =
      let passes = each (part_test m s) 8 (of_pair (λ x y. upto 8 (part_test x y)) tt m s p q) from l in
      agree_eq _ true (rw (le-leb (from + min m s) m h) at passes)

-- Numbers of the lists of the rules are powers of two: a mask leaves the remainder, a shift gives the quotient.
-- Assumes nothing.
use mathlib.Core.Path.{◌≡◌, ap}
use mathlib.Core.Bool.{true}
use Prim.Native.Nat.{ℕ, ◌-◌, ◌/◌, ◌%◌, ◌^◌, ◌≤◌}
use lib.Bits.{bit_and, and_mask}
use lib.Count.{count_trailing_zeros}
use lib.Dec.{eqb, leb, eqb→eq, leb→le}
use Rattle.common_laws.specs.Lists.{member}
use Rattle.common_laws.proofs.TableLaws.{member_each}
use Rattle.common_laws.proofs.Members.{of_member}
use Rattle.description_board.specs.declared.Master.{Master}
use Rattle.description_board.specs.Records.{Slave}
use Rattle.description_board.specs.Rules.{widths, bursts}
use Rattle.description_board.specs.Legal.{LegalMaster, LegalSlave}
use Rattle.fabric_transfer.specs.Code.Pairs.{Widths}

-- a mask below a width
pub over_width : (n width : ℕ) → member width widths ≡ true → bit_and n (width - 1) ≡ n % width
over_width n width e =
    member_each (λ w. bit_and n (w - 1) ≡ n % w) width widths
    (and_mask n 0, (and_mask n 1, (and_mask n 2, (and_mask n 3, tt)))) e

-- and below a burst
pub over_burst : (n burst : ℕ) → member burst bursts ≡ true → bit_and n (burst - 1) ≡ n % burst
over_burst n burst e =
    member_each (λ w. bit_and n (w - 1) ≡ n % w) burst bursts
    (and_mask n 0, (and_mask n 1, (and_mask n 2, (and_mask n 3, (and_mask n 4, (and_mask n 5, (and_mask n 6, tt))))))) e

-- the zeros below a width's one bit are its logarithm
pub width_power : (width : ℕ) → member width widths ≡ true → 2 ^ count_trailing_zeros 32 width ≡ width
unfolding count_trailing_zeros
width_power width e = eqb→eq _ _ (of_member (λ w. eqb (2 ^ count_trailing_zeros 32 w) w) widths tt width e)

pub width_zeros : (width : ℕ) → member width widths ≡ true → count_trailing_zeros 32 width ≤ 3
unfolding count_trailing_zeros
width_zeros width e = leb→le _ _ (of_member (λ w. leb (count_trailing_zeros 32 w) 3) widths tt width e)

-- a shift by them
pub by_width : (n width : ℕ) → member width widths ≡ true → n / 2 ^ count_trailing_zeros 32 width ≡ n / width
by_width n width e = ap (λ (x : ℕ). n / x) (width_power width e)

-- the widths of a legal master and a legal slave
pub legal_widths : (ma : Master) (sl : Slave) → LegalMaster ma → LegalSlave sl → Widths ma sl
legal_widths ma sl m s = record { master = m.width; slave = s.width }

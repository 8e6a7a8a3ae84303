-- `fabric_accesses::Posting::write_lanes` meets its contract: the part of the mask stays within 8 lanes, so that no bit is shifted out.
-- Assumes nothing.
use mathlib.Core.Path.{◌≡◌, ap, ◌∙◌}
use Prim.Native.Nat.{ℕ, ◌+◌, ◌-◌, ◌*◌, ◌/◌, ◌%◌, ◌^◌, ◌≤◌, ◌<◌}
use native.Mathlib.Nat.{mod-lt}
use native.Mathlib.Omega.{arith}
use lib.Bits.{bit_and}
use Rattle.common_laws.proofs.Arithmetic.{field_of}
use Rattle.description_board.specs.declared.Master.{Master}
use Rattle.description_board.specs.Records.{Slave}
use Rattle.fabric_transfer.specs.declared.Transfer.{Transfer}
use Rattle.fabric_transfer.specs.Alignment.{lane_bytes}
use Rattle.fabric_transfer.specs.Accesses.{first_byte, access_offset, write_lanes}
use Rattle.fabric_transfer.specs.Code.Pairs.{InWord}
use Rattle.fabric_transfer.proofs.AccessLaws.{width_pos, width_le}
use Rattle.fabric_accesses.proofs.Posting.write_lanes.Goals.{After-over_width-from, After-over_width-to}
use Rattle.fabric_accesses.proofs.Posting.write_lanes.Goals as goal

-- of what the calls give
module _ (ma : Master) (sl : Slave) (t : Transfer) (a bytes at to : ℕ) (w : InWord ma sl t a) (b : bytes ≡ lane_bytes ma sl)
    (o : at ≡ access_offset ma sl t a) (u : to ≡ at % sl.width) where
  fits : bytes + to ≤ 8
  fits =
      let e : to ≡ access_offset ma sl t a % sl.width = u ∙ ap (λ (x : ℕ). x % sl.width) o in
      omega (arith, w.width, w.inside)

  part : (first from mask : ℕ) → first ≡ first_byte ma sl a → from ≡ first % ma.width → mask ≡ 2 ^ bytes - 1
      → bit_and (t.lanes / 2 ^ from) mask * 2 ^ to % 4294967296 ≡ write_lanes ma sl t a
  unfolding write_lanes
  part first from mask f d m =
      ap (λ (x : ℕ). bit_and (t.lanes / 2 ^ from) x * 2 ^ to % 4294967296) m
      ∙ field_of (t.lanes / 2 ^ from) bytes to 32 (omega (arith, fits)) ∙ rw (d, f, b, u, o)

pub access_offset-at-requires : goal.access_offset-at-requires
access_offset-at-requires c = c.before.before.requires.0

pub over_width-from-requires : goal.over_width-from-requires
over_width-from-requires c = c.before.before.before.requires.0.master

pub over_width-to-requires : goal.over_width-to-requires
over_width-to-requires c = c.before.before.before.before.requires.0.slave

room : (c : After-over_width-to)
    → c.before.before.before.before.lane_bytes-bytes.result + c.over_width-to.result ≤ 8
room c =
    let offset = c.before.before in
    fits _ _ _ _ _ _ _ offset.before.before.before.requires.1 offset.before.before.lane_bytes-bytes.ensures
    offset.access_offset-at.ensures c.over_width-to.ensures

pub all_lanes-mask-requires : goal.all_lanes-mask-requires
all_lanes-mask-requires c = omega (arith, room c)

low : (c : After-over_width-from) → c.over_width-from.result < 8
low c =
    let start = c.before.before.before.before in
    let w = start.args.self.pair.master.width in
    let l = start.requires.0.master in
    omega (arith, c.over_width-from.ensures, mod-lt c.before.before.first_byte-first.result (width_pos w l), width_le w l)

pub overflow_cast-result : goal.overflow_cast-result
overflow_cast-result c = omega (arith, low c.before.before)

pub overflow_shr-result : goal.overflow_shr-result
overflow_shr-result c = omega (arith, low c.before.before.before)

pub overflow_cast-result-2 : goal.overflow_cast-result-2
overflow_cast-result-2 c = omega (arith, room c.before.before)

pub overflow_shl-result : goal.overflow_shl-result
overflow_shl-result c = omega (arith, room c.before.before)

pub returns : goal.returns
returns c =
    let second = c.before.before in
    let offset = second.before.before in
    part _ _ _ _ _ _ _ offset.before.before.before.requires.1 offset.before.before.lane_bytes-bytes.ensures
    offset.access_offset-at.ensures second.over_width-to.ensures _ _ _ offset.before.first_byte-first.ensures
    second.before.over_width-from.ensures c.before.all_lanes-mask.ensures

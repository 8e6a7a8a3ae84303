-- What a native card does with each beat, and a card with bus sizing with each byte.
-- Assumes nothing.
use mathlib.Core.Path.{◌≡◌, ap, ◌∙◌}
use mathlib.Core.Bool.{true, false, and-true, and-false}
use mathlib.Core.List.{List}
use Prim.Native.Nat.{ℕ, ◌+◌, ◌*◌, ◌%◌, ◌^◌, ◌≤◌, ◌<◌}
use native.Mathlib.Nat.{pow-zero, mul-one, div-one, mul-div_cancel, mul-mod_left, mul-add-mod_self_right, mod-eq_of_lt}
use native.Mathlib.Omega.{arith}
use lib.ListN.{length, get_or}
use borrow.Author.Tests.{le-ltb}
use Rattle.common_laws.specs.Lists.{member, table}
use Rattle.common_laws.proofs.TableLaws.{length_table, get_or_table}
use Rattle.description_board.specs.declared.Master.{Master}
use Rattle.description_board.specs.Records.{Slave}
use Rattle.description_board.specs.Records.{is_native}
use Rattle.description_board.specs.Rules.{widths, too_narrow}
use Rattle.description_board.proofs.PairLaws.{wide_enough}
use Rattle.fabric_transfer.specs.declared.Transfer.{Transfer}
use Rattle.fabric_transfer.specs.Alignment.{ratio, lane_bytes, has_lane}
use Rattle.fabric_transfer.specs.Accesses.{first_byte, word_offset, write_lanes, access_numbers, accesses, access_number}
use Rattle.fabric_transfer.specs.Runs.{run_limit}
use Rattle.fabric_transfer.proofs.AlignmentLaws.{native_ratio, sized_ratio, native_bytes, sized_lane, sized_byte, lanes_narrow}
use Rattle.fabric_transfer.proofs.AlignmentLaws.{native_offset, lane_offset, lane_below, lane_above}
use Rattle.fabric_transfer.proofs.CarriedOut.{carried_out}
use Rattle.fabric_transfer.proofs.AccessLaws.{width_pos, read_slave_lanes, write_slave_lanes}
use Rattle.fabric_transfer.specs.Bytes.{memory_index, stores, byte_read}
use Rattle.fabric_transfer.specs.Cards.{first_word, NativeCard, SizedCard}

module _ (ma : Master) (sl : Slave) (m : member ma.width widths ≡ true) (s : member sl.width widths ≡ true)
    (wide : too_narrow ma sl ≡ false) (e : is_native sl ≡ true) where
  narrower : sl.width ≤ ma.width
  narrower = wide_enough ma sl wide e

  lanes : lane_bytes ma sl ≡ sl.width
  lanes = lanes_narrow ma sl narrower

  first : (k : ℕ) → first_byte ma sl k ≡ k * ma.width
  unfolding first_byte
  first k = ap (λ (x : ℕ). k * x) (native_bytes ma sl e)

  module _ (t : Transfer) where
    below : (k j : ℕ) → j < sl.width → has_lane ma sl (k * ma.width + j) ≡ true
    below k j h = rw (← first k) (lane_below ma sl m s t k j (omega (arith, lanes)))

    above : (k j : ℕ) → sl.width ≤ j → j < ma.width → has_lane ma sl (k * ma.width + j) ≡ false
    above k j h l = rw (← first k) (lane_above ma sl m s t k j (omega (arith, lanes)) (omega (arith, native_bytes ma sl e)))

    byte_at : (start k j : ℕ) → j < sl.width
        → memory_index ma sl t start (k * ma.width + j) ≡ start + ((first_word ma sl t + k) * sl.width + j)
    unfolding memory_index
    byte_at start k j h =
        rw (← first k, lane_offset ma sl m s t k j (omega (arith, lanes)), native_offset ma sl m s t k e)

    shown : (k : ℕ) → write_lanes ma sl t k ≡ t.lanes % 2 ^ sl.width
    unfolding write_lanes
    shown k =
        rw (first k, mul-mod_left k ma.width, native_offset ma sl m s t k e, mul-mod_left, lanes, pow-zero, div-one, mul-one)

    numbers : access_numbers ma sl t ≡ table (λ a. a) t.beats
    numbers = (carried_out ma sl t).native e ∙ rw (native_ratio ma sl e, mul-one)

  pub native_card : NativeCard ma sl
  unfolding accesses access_number word_offset run_limit byte_read stores
  native_card = record {
    beat = λ t. ap length (numbers t) ∙ length_table (λ a. a) t.beats;
    number = λ t k h. ap (λ (l : List ℕ). get_or l k 0) (numbers t) ∙ get_or_table (λ a. a) t.beats 0 k h;
    offset = λ t k. rw (native_offset ma sl m s t k e, mul-div_cancel _ (width_pos sl.width s));
    read_lanes = λ t k d. read_slave_lanes ma sl t k d;
    write_lanes = λ t k d. write_slave_lanes ma sl t k d ∙ shown t k;
    run = rw (le-ltb ma.width sl.width narrower);
    index = byte_at;
    read = λ t start memory k j h. rw (below t k j h, byte_at t start k j h);
    stored = λ t k j h.
        rw (below t k j h, mul-add-mod_self_right, mod-eq_of_lt {n = j} {m = ma.width} (omega (arith, narrower)), and-true);
    zero = λ t start memory k j h l. rw (above t k j h l);
    nowhere = λ t k j h l. rw (above t k j h l, and-false);
  }

module _ (ma : Master) (sl : Slave) (e : is_native sl ≡ false) where
  pub sized_card : SizedCard ma sl
  unfolding accesses memory_index byte_read stores
  sized_card = record {
    beat = λ t d.
        ap length ((carried_out ma sl t).read d) ∙ length_table (λ a. a) (t.beats * ratio ma sl) ∙ rw (sized_ratio ma sl e);
    index = λ t start i. rw (sized_byte ma sl t i e);
    read = λ t start memory i. rw (sized_lane ma sl i e, sized_byte ma sl t i e);
    stored = λ t i. rw (sized_lane ma sl i e, and-true);
  }

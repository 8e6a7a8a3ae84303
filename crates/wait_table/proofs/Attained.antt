-- The longest table is some accepted board's.
-- Assumes nothing.
use mathlib.Core.Path.{◌≡◌, refl}
use lib.ListN.{length}
use Rattle.common_laws.specs.Bytes.{bytes_of}
use Rattle.common_laws.specs.Lists.{member, gather, table, sum, some, first_from, first}
use Rattle.common_text.specs.Digits.{digits_in, digits, fields_text, line_text}
use Rattle.description_board.specs.Records.{no_board, is_native, connected, total_span, start_of, memory_length}
use Rattle.description_board.specs.Rules.{slave_values, meets, overlaps, too_narrow}
use Rattle.description_board.specs.Rules.{master_refusal, slave_refusal, pair_rank, share_refusal, item_refusal}
use Rattle.description_board.specs.Rules.{with_master, with_slave, with_share, with_item, rank_of}
use Rattle.description_board.specs.Rules.{refused, start, taken, step, step_all, has_share, without_share, end_refusal, finish}
use Rattle.description_board.specs.Rules.{described}
use Rattle.description_board.specs.Items.{master_item, slave_item, share_item, default_item, items, board_refusal}
use Rattle.fabric_transfer.specs.Alignment.{ratio}
use Rattle.wait_turns.specs.Waits.{longest_access, single_access, most_beats, single, serve, turn}
use Rattle.wait_turns.specs.Waits.{other_turn, turns_of, quoted_wait, serve_of}
use Rattle.wait_turns.specs.Largest.{most_serve, most_wait}
use Rattle.wait_table.specs.Tables.{heading, pair_line, pair_lines, table_text}
use Rattle.wait_table.specs.Longest.{longest_table, largest_with, largest}

pub largest_accepted : board_refusal largest ≡ 0
unfolding
    member gather table some first_from first no_board is_native connected total_span start_of memory_length slave_values meets
    overlaps too_narrow master_refusal slave_refusal pair_rank share_refusal item_refusal with_master with_slave with_share with_item rank_of
    refused start taken step step_all has_share without_share end_refusal finish described master_item slave_item share_item default_item
    items board_refusal largest_with
largest_accepted = refl

pub largest_longest : length (table_text largest) ≡ longest_table
unfolding
    bytes_of gather table sum digits_in digits fields_text line_text is_native connected ratio longest_access single_access most_beats single serve
    turn other_turn turns_of quoted_wait serve_of heading pair_line pair_lines table_text longest_table largest_with
largest_longest = refl

-- its figures are the largest of all legal boards, without latency and with the longest
pub largest_figures : (quoted_wait largest 7 15 ≡ most_wait) × (serve_of largest 7 15 ≡ most_serve)
unfolding
    gather table sum is_native connected ratio longest_access single_access most_beats single serve turn other_turn turns_of quoted_wait
    serve_of largest_with most_wait most_serve
largest_figures = (refl, refl)

pub largest_late : (quoted_wait (largest_with 63) 7 15 ≡ most_wait) × (serve_of (largest_with 63) 7 15 ≡ most_serve)
unfolding
    gather table sum is_native connected ratio longest_access single_access most_beats single serve turn other_turn turns_of quoted_wait
    serve_of largest_with most_wait most_serve
largest_late = (refl, refl)

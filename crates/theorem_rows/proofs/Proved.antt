-- Every example of Rows, Examples, NativeRows, ConnectionRows, VariantRows, OrderRows, LaneRows, LatencyRows and UnmappedRows holds:
-- each side computes to the same.
-- Assumes nothing.
use mathlib.Core.Path.{refl}
use Prim.Native.Nat.{ℕ}
use lib.Count.{ones, ones_in, count_trailing_zeros}
use Rattle.common_laws.specs.Bytes.{bytes_of}
use Rattle.common_laws.specs.Bits.{bit}
use Rattle.common_laws.specs.Lists.{member, same, gather, table, filtered, sum, every, some, first_from, first}
use Rattle.common_text.specs.Fields.{push, split, is_digit, scan, shaped, number_of, number_refusal, number_value, no_numbers}
use Rattle.common_text.specs.Fields.{with_number, collect, numbers_of}
use Rattle.common_text.specs.Digits.{digits_in, digits, fields_text, line_text}
use Rattle.description_board.specs.Records.{is_native, no_board, connected, total_span, start_of, memory_length}
use Rattle.description_board.specs.Rules.{slave_values, meets, overlaps, master_refusal, slave_refusal, too_narrow, pair_rank, share_refusal}
use Rattle.description_board.specs.Rules.{default_refusal, item_refusal}
use Rattle.description_board.specs.Rules.{with_master, with_slave, with_share, with_default, with_item, rank_of, refused, start, taken, step}
use Rattle.description_board.specs.Rules.{step_all, has_share, without_share, end_refusal, finish, described}
use Rattle.description_board.specs.Items.{master_item, slave_item, share_item, default_item, items, board_refusal}
use Rattle.description_lines.specs.Writer.{item_text, items_text}
use Rattle.description.specs.Writer.{write_text, write_refusal}
use Rattle.description_lines.specs.Reader.{master_line, slave_line, share_line, item_of_fields, item_of, unended, items_of_pieces}
use Rattle.description_lines.specs.Reader.{items_of}
use Rattle.description.specs.Reader.{most_bytes, reading, read_text}
use Rattle.description.specs.Blame.{first_refused, charged_line, master_named_by, named_master, refused_at}
use Rattle.fabric_lanes.specs.Lanes.{lowest, adjacent, legal_lanes, post_lanes}
use Rattle.fabric_transfer.specs.Decoding.{agrees, selects, target_of}
use Rattle.fabric_transfer.specs.Alignment.{ratio, leaves_out, lane_bytes, access_bytes, has_lane, byte_offset}
use Rattle.fabric_transfer.specs.Accesses.{first_byte, access_offset, word_offset, write_lanes, slave_lanes}
use Rattle.fabric_transfer.specs.Accesses.{accessed, access_numbers, accesses, access_number, wait_of, latency_of, own_length}
use Rattle.fabric_transfer.specs.Runs.{run_limit, place_of, run_of}
use Rattle.fabric_arbiter.specs.Choosing.{next_master, tried, first_requester}
use Rattle.fabric_arbiter.specs.Granting.{kept, grant_to, granted, arbiter_after}
use Rattle.fabric_transfer.specs.Moving.{move}
use Rattle.fabric_transfer.specs.Bytes.{posted_words, cleared_words, memory_index, stores, byte_read, written, fetched, carried_bytes}
use Rattle.fabric_transfer.specs.Bytes.{carried_access}
use Rattle.fabric_state.specs.Records.{no_log, no_state}
use Rattle.fabric_state.specs.Posting.{wrong_beats, unaligned, wrong_lanes, unmapped, is_unmapped, passes_end, transfer_refusal_by}
use Rattle.fabric_state.specs.Posting.{transfer_refusal, with_transfer}
use Rattle.fabric_state.specs.Soundness.{holds_for, requests, unmapped_at, latency_at, sound_held, sound_transfer, sound_owner}
use Rattle.fabric_state.specs.Soundness.{sound_remaining, sound_service, sound_rest, sound_slot_by, sound_slot, sound_log, sound}
use Rattle.fabric_state.specs.Logging.{entered, entered_by, log_after, without_oldest, with_log}
use Rattle.fabric_state.specs.Control.{grant_at, slot_by, slot_granted, slot_after_grant, line_of, waits, slot_waiting, slot_accessed}
use Rattle.fabric_state.specs.Control.{slot_finished, served, step_of, line_after, slot_after, ends_at, ended, late_after, completed}
use Rattle.fabric_state.specs.Control.{finished, mask_of, transfer_after, state_after, response_of, responses_of, lines_of}
use Rattle.fabric_state.specs.Carrying.{carries_out, carried, carried_by, clears, cleared_by, store_after}
use Rattle.fabric_state.specs.Resetting.{reset_state, state_at_reset}
use Rattle.fabric_calls.specs.Calls.{reset, wrong_words, request_refusal, post_refusal_by, post_refusal, post, buffer_after_post, clock_refusal}
use Rattle.fabric_calls.specs.Calls.{clock, store_after_clock, take_refusal, take_answer, state_after_take, after_post, after_clock}
use Rattle.fabric_calls.specs.Running.{clock_more, clock_on, run}
use Rattle.wait_turns.specs.Waits as quoted
use Rattle.wait_turns.specs.Sums.{turn_at, turns_at}
use Rattle.wait.specs.Calls.{quote_refusal, quote_of}
use Rattle.wait.specs.Answers.{bytes64, pair_bytes, pair_refusal, wait_refusal, wait_output}
use Rattle.wait_table.specs.Tables.{heading, pair_line, pair_lines, table_text, table_of, print_refusal, refused_text, printed}
use Rattle.wait_table.specs.Tables.{file_line}
use Rattle.wait_table.specs.Named.{first_field, some_line, names_master}
use Rattle.theorem_rows.specs.RowCalls.{runs, started, line_now, clocked_from, shown_from, phases, grants}
use Rattle.theorem_rows.specs.Examples.{read_answers, slave_answers, Examples}
use Rattle.theorem_rows.specs.NativeRows.{native_text, native_board, native_start, clocked_with, shown_with, native_answers}
use Rattle.theorem_rows.specs.NativeRows.{joined, NativeRows}
use Rattle.theorem_rows.specs.ConnectionRows.{with_shares, three_masters, lent, world, ConnectionRows}
use Rattle.theorem_rows.specs.VariantRows.{variant, variant_text, exchanged_text, board, variant_table, VariantRows}
use Rattle.theorem_rows.specs.OrderRows.{behind_slaves, ordered_text, OrderRows}
use Rattle.theorem_rows.specs.LaneRows.{lane_text, lane_board, lane_posted, served_answers, LaneRows}
use Rattle.theorem_rows.specs.LatencyRows.{ending_in, latency_board, zero_latency, latency_start, alone_with, beside_read}
use Rattle.theorem_rows.specs.LatencyRows.{read_clocked, post_answers, late_answers, serving, figures_text, figures_board, LatencyRows}
use Rattle.theorem_rows.specs.UnmappedRows.{behind_masters, behind_shares, default_text, plain_text, default_board, plain_board}
use Rattle.theorem_rows.specs.UnmappedRows.{default_table, bytes_lent, unmapped_start, answers_in, answers_to, card_alone}
use Rattle.theorem_rows.specs.UnmappedRows.{unmapped_both, clock_of, clocked_once, clocked_twice, clock_last, clock_two, clock_three}
use Rattle.theorem_rows.specs.UnmappedRows.{six_log, eight_log, full_log, taken_log, nine_log, logged, holding, numbers_in, ran_of}
use Rattle.theorem_rows.specs.UnmappedRows.{UnmappedRows}
use Rattle.theorem_rows.specs.Rows.{board_text, shares_text, table_output, Rows}

-- one list of definitions for all tables, crate by crate: whoever unfolds this name unfolds each of them
opened : ℕ
unfolding
    ones ones_in count_trailing_zeros
    bytes_of bit member same gather table filtered sum every some first_from first
    push split is_digit scan shaped number_of number_refusal number_value no_numbers with_number collect numbers_of digits_in digits
    fields_text line_text
    is_native no_board connected total_span start_of memory_length slave_values meets overlaps master_refusal slave_refusal too_narrow
    pair_rank share_refusal default_refusal item_refusal with_master with_slave with_share with_default with_item rank_of refused start
    taken step step_all has_share without_share end_refusal finish described master_item slave_item share_item default_item items
    board_refusal
    item_text items_text
    write_text write_refusal
    master_line slave_line share_line item_of_fields item_of unended items_of_pieces items_of
    most_bytes reading read_text first_refused charged_line master_named_by named_master refused_at
    lowest adjacent legal_lanes post_lanes
    agrees selects target_of ratio leaves_out lane_bytes access_bytes has_lane byte_offset first_byte access_offset word_offset write_lanes
    slave_lanes accessed access_numbers accesses access_number wait_of latency_of own_length
    run_limit place_of run_of
    next_master tried first_requester kept grant_to granted arbiter_after
    move posted_words cleared_words memory_index stores byte_read written fetched carried_bytes carried_access
    no_log no_state wrong_beats unaligned wrong_lanes unmapped is_unmapped passes_end transfer_refusal_by transfer_refusal with_transfer
    holds_for requests unmapped_at latency_at sound_held sound_transfer sound_owner sound_remaining sound_service sound_rest sound_slot_by
    sound_slot sound_log sound entered entered_by log_after without_oldest with_log
    grant_at slot_by slot_granted slot_after_grant line_of waits slot_waiting slot_accessed slot_finished served step_of line_after slot_after
    ends_at ended late_after completed finished mask_of transfer_after state_after response_of responses_of lines_of carries_out carried
    carried_by clears cleared_by store_after
    reset_state state_at_reset
    reset wrong_words request_refusal post_refusal_by post_refusal post buffer_after_post clock_refusal clock store_after_clock take_refusal
    take_answer state_after_take after_post after_clock clock_more clock_on run
    quoted.longest_access quoted.single_access quoted.most_beats quoted.single quoted.serve quoted.turn quoted.other_turn
    quoted.turns_of quoted.quoted_wait quoted.serve_of turn_at turns_at
    quote_refusal quote_of bytes64 pair_bytes pair_refusal wait_refusal wait_output
    heading pair_line pair_lines table_text table_of print_refusal refused_text printed file_line first_field some_line names_master
    runs started line_now clocked_from shown_from phases grants read_answers slave_answers board_text shares_text table_output
    native_text native_board native_start clocked_with shown_with native_answers joined
    with_shares three_masters lent world
    variant variant_text exchanged_text board variant_table
    behind_slaves ordered_text
    lane_text lane_board lane_posted served_answers
    ending_in latency_board zero_latency latency_start alone_with beside_read read_clocked post_answers late_answers serving
    figures_text figures_board
    behind_masters behind_shares default_text plain_text default_board plain_board default_table bytes_lent unmapped_start answers_in
    answers_to card_alone unmapped_both clock_of clocked_once clocked_twice clock_last clock_two clock_three six_log eight_log full_log
    taken_log nine_log logged holding numbers_in ran_of
opened = 0

pub rows : Rows
unfolding opened
rows = record {
  sixteen = refl;
  fourteen = refl;
  ones = refl;
  wider = refl;
  upper_half = refl;
  middle = refl;
  whole = refl;
  none = refl;
  shares = refl;
  lines = refl;
  alone = refl;
}

pub examples : Examples
unfolding opened
examples = record {
  last_word = refl;
  past_end = refl;
  odd = refl;
  nobody = refl;
  too_many = refl;
  no_beat = refl;
  eight = refl;
  four = refl;
  shifted = refl;
  empty_text = refl;
  empty_line = refl;
  written = refl;
  pair = refl;
  short = refl;
  no_master = refl;
  no_slave = refl;
  quoted = refl;
  quoted_master = refl;
  quoted_slave = refl;
}

pub native_rows : NativeRows
unfolding opened
native_rows = record {
  word = refl;
  word_bytes = refl;
  burst = refl;
  burst_bytes = refl;
  no_lane = refl;
  no_byte = refl;
  two_lanes = refl;
  two_bytes = refl;
  last_word = refl;
  past_end = refl;
  narrow = refl;
  as_wide = refl;
  lent_narrow = refl;
  lent_wide = refl;
  lent_sized = refl;
  six_numbers = refl;
  seven_numbers = refl;
  two = refl;
  figures = refl;
}

pub connection_rows : ConnectionRows
unfolding opened
connection_rows = record {
  nobody = refl;
  printed_nobody = refl;
  last = refl;
  first = refl;
  third = refl;
  lower = refl;
  taken = refl;
  names_first = refl;
  names_last = refl;
  names_third = refl;
  line = refl;
  no_slave = refl;
  wait = refl;
  table = refl;
  lent_reset = refl;
  lent_post = refl;
  lent_clock = refl;
  lent_quote = refl;
  lent_write = refl;
  lent_short = refl;
  lent_outside = refl;
  lent_taken = refl;
}

pub variant_rows : VariantRows
unfolding opened
variant_rows = record {
  turn_first = refl;
  turn_second = refl;
  turn_third = refl;
  turns = refl;
  turns_other = refl;
  figures = refl;
  exchanged = refl;
  unconnected = refl;
  alone = refl;
  shorter = refl;
  largest = refl;
  others = refl;
  apart = refl;
  line = refl;
}

pub order_rows : OrderRows
unfolding opened
order_rows = record {
  ordered = refl;
  same = refl;
  master = refl;
  slave = refl;
  by_slave = refl;
  equal = refl;
  again = refl;
  value = refl;
  narrow = refl;
  lacks = refl;
  leading = refl;
  wait = refl;
  table = refl;
  printed_line = refl;
}

pub lane_rows : LaneRows
unfolding opened
lane_rows = record {
  quarter = refl;
  quarter_ends = refl;
  quarter_bytes = refl;
  half = refl;
  half_bytes = refl;
  single = refl;
  all = refl;
  read = refl;
  read_bytes = refl;
  numbers = refl;
  native = refl;
  cut = refl;
  length = refl;
  one_left = refl;
  none_left = refl;
  half_left = refl;
  half_done = refl;
  last_read = refl;
  read_done = refl;
  figures = refl;
}

pub latency_rows : LatencyRows
unfolding opened
latency_rows = record {
  read = refl;
  counted = refl;
  holds = refl;
  one_left = refl;
  none_left = refl;
  released = refl;
  other = refl;
  other_ends = refl;
  both_late = refl;
  turn_lost = refl;
  turn_kept = refl;
  post_first = refl;
  post_second = refl;
  post_taken = refl;
  bytes = refl;
  bytes_stay = refl;
  bytes_written = refl;
  write = refl;
  write_count = refl;
  zero_read = refl;
  longest = refl;
  too_long = refl;
  seven_numbers = refl;
  nine_numbers = refl;
  all = refl;
  some = refl;
  too_many = refl;
  of_write = refl;
  served = refl;
  of_served = refl;
  of_nobody = refl;
  outside = refl;
  burst = refl;
  access_longest = refl;
  access_single = refl;
  turn_first = refl;
  turn_second = refl;
  figures = refl;
  zero_figures = refl;
}

pub unmapped_rows : UnmappedRows
unfolding opened
unmapped_rows = record {
  taken = refl;
  written = refl;
  twice = refl;
  share_behind = refl;
  slave_behind = refl;
  before = refl;
  number = refl;
  malformed = refl;
  lacking = refl;
  figures = refl;
  plain_figures = refl;
  quoted = refl;
  nobody = refl;
  answered = refl;
  no_beat = refl;
  too_many = refl;
  odd = refl;
  middle = refl;
  few_words = refl;
  words_read = refl;
  unconnected = refl;
  reaching = refl;
  past_end = refl;
  held = refl;
  mask = refl;
  responses = refl;
  alone = refl;
  beside = refl;
  memory = refl;
  zeros = refl;
  words = refl;
  log = refl;
  released = refl;
  again = refl;
  writes_again = refl;
  served = refl;
  mask_card = refl;
  responses_card = refl;
  bytes_card = refl;
  six = refl;
  full = refl;
  dropped = refl;
  dropped_third = refl;
  oldest = refl;
  moved = refl;
  next = refl;
  space = refl;
  empty = refl;
  empty_stays = refl;
  cleared = refl;
  holds = refl;
  late = refl;
  plain = refl;
  eight = refl;
  nine = refl;
  nine_taken = refl;
  late_responses = refl;
  ran = refl;
  ran_responses = refl;
  stood = refl;
  stood_responses = refl;
}

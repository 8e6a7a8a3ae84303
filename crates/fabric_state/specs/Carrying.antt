-- One clock's bytes: the accesses that are carried out, by slave number (rule 4.8), and the zeros of unmapped reads, by master number
-- (rule 4.17).
-- Assumes nothing.
use Rattle.std.specs.Prelude.{Bool, cond, not, ◌&&◌, ℕ, zero, suc, ◌*◌, eqb}
use Rattle.description_board.specs.declared.Board.{Board}
use Rattle.description_board.specs.Records.{master_at, slave_at, start_of}
use Rattle.fabric_transfer.specs.Accesses.{access_number}
use Rattle.fabric_transfer.specs.Bytes.{Store, cleared_words, carried_access}
use Rattle.fabric_state.specs.declared.State.{State}
use Rattle.fabric_state.specs.Records.{transfer_at}
use Rattle.fabric_state.specs.Soundness.{unmapped_at}
use Rattle.fabric_state.specs.Control.{slot_after_grant, step_of}

-- rule 4.8: slave s carries out an access in this clock: its line's phase is 2
unfoldable pub carries_out : Board → State → ℕ → Bool
carries_out b st s = eqb (step_of b st s).line.phase 2

-- rules 4.8, 4.10: the lent bytes after the clock of slave s
unfoldable pub carried : Board → State → ℕ → Store → Store
carried b st s d =
    let slot = slot_after_grant b st s in
    let ma = master_at b slot.owner in
    let sl = slave_at b s in
    let t = transfer_at st slot.owner in
    cond (carries_out b st s)
    (carried_access ma sl t slot.owner (start_of b s) (access_number ma sl t slot.done) d)
    d

-- rule 4.1: the lent bytes after the clock of the first n slaves, one after another
unfoldable pub carried_by : Board → State → ℕ → Store → Store
carried_by b st zero d = d
carried_by b st (suc n) d = carried b st n (carried_by b st n d)

-- rule 4.17: master m holds an unmapped read
unfoldable pub clears : Board → State → ℕ → Bool
clears b st m = unmapped_at b st m && not (transfer_at st m).write

-- rule 4.17: the lent bytes with the words of the first n masters' unmapped reads cleared; the memory stays
unfoldable pub cleared_by : Board → State → ℕ → Store → Store
cleared_by b st zero d = d
cleared_by b st (suc n) d =
    let e = cleared_by b st n d in
    cond (clears b st n)
    (record { memory = e.memory; buffer = cleared_words n ((transfer_at st n).beats * (master_at b n).width) e.buffer })
    e

-- rules 4.8, 4.11, 4.17: the lent bytes after the clock
unfoldable pub store_after : Board → State → Store → Store
store_after b st d = cleared_by b st 8 (carried_by b st b.slave_count d)

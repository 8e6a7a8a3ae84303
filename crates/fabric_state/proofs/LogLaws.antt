-- The log: an entry more, the entries of a clock, and the log without its oldest entry (rules 4.18, 4.19).
-- Assumes nothing.
use mathlib.Core.Path.{◌≡◌, refl}
use mathlib.Core.Bool.{Bool, true, false, cond}
use Prim.Native.Nat.{ℕ, zero, suc, ◌+◌, ◌≤◌, ◌<◌}
use native.Mathlib.Omega.{arith}
use lib.Dec.{ltb}
use lib.ListN.{set}
use borrow.Author.Tests.{lt-ltb, le-ltb, ltb-true}
use Rattle.description_board.specs.declared.Board.{Board}
use Rattle.fabric_state.specs.declared.Entry.{Entry}
use Rattle.fabric_state.specs.declared.Log.{Log}
use Rattle.fabric_state.specs.declared.State.{State}
use Rattle.fabric_state.specs.Records.{transfer_at}
use Rattle.fabric_state.specs.Soundness.{unmapped_at}
use Rattle.fabric_state.specs.Logging.{entry_of, entered, entered_by, log_after, without_oldest}

-- one entry more, where fewer than eight stand, and where eight do
pub entered_room : (log : Log) (e : Entry) → log.count < 8
    → entered log e ≡ record { count = log.count + 1; lost = log.lost; entries = set log.entries log.count e }
unfolding entered
entered_room log e h = rw (lt-ltb log.count 8 h)

pub entered_full : (log : Log) (e : Entry) → 8 ≤ log.count
    → entered log e ≡ record { count = log.count; lost = true; entries = log.entries }
unfolding entered
entered_full log e h = rw (le-ltb log.count 8 h)

-- no log gets more than eight
pub entered_count : (log : Log) (e : Entry) → log.count ≤ 8 → (entered log e).count ≤ 8
unfolding entered
entered_count log e h = go (ltb log.count 8) refl
  where
    go : (c : Bool) → ltb log.count 8 ≡ c
        → (cond {A = Log} c
        (record { count = log.count + 1; lost = log.lost; entries = set log.entries log.count e })
        (record { count = log.count; lost = true; entries = log.entries })).count
        ≤ 8
    go true q = omega (arith, ltb-true log.count 8 q)
    go false q = h

pub entries_count : (b : Board) (st : State) (n : ℕ) → st.log.count ≤ 8 → (entered_by b st n).count ≤ 8
unfolding entered_by
entries_count b st zero h = h
entries_count b st (suc n) h = go (unmapped_at b st n) (entries_count b st n h)
  where
    go : (c : Bool) → (entered_by b st n).count ≤ 8
        → (cond c (entered (entered_by b st n) (entry_of n (transfer_at st n))) (entered_by b st n)).count ≤ 8
    go true l = entered_count (entered_by b st n) (entry_of n (transfer_at st n)) l
    go false l = l

pub log_count : (b : Board) (st : State) → st.log.count ≤ 8 → (log_after b st).count ≤ 8
unfolding log_after
log_count b st h = entries_count b st 8 h

-- a clock in which no master holds an unmapped transfer leaves the log
pub entered_none : (b : Board) (st : State) (n : ℕ) → ((m : ℕ) → m < n → unmapped_at b st m ≡ false) → entered_by b st n ≡ st.log
unfolding entered_by
entered_none b st zero h = refl
entered_none b st (suc n) h = rw (h n (omega arith)) (entered_none b st n (λ m l. h m (omega arith)))

pub log_kept : (b : Board) (st : State) → ((m : ℕ) → m < 8 → unmapped_at b st m ≡ false) → log_after b st ≡ st.log
unfolding log_after
log_kept b st h = entered_none b st 8 h

pub oldest_count : (log : Log) → log.count ≤ 8 → (without_oldest log).count ≤ 8
unfolding without_oldest
oldest_count log h = omega arith

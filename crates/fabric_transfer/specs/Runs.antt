-- The runs that a transfer's accesses are cut into (rule 4.12): those that are carried out, k of them before the one in hand.
-- With a burst of 0, which no legal board has, that one has place k in a run of 0: a remainder by 0 is the number itself.
-- Assumes nothing.
use Rattle.std.specs.Prelude.{cond, ℕ, ◌-◌, ◌*◌, ◌/◌, ◌%◌, min, ltb}
use Rattle.description_board.specs.declared.Master.{Master}
use Rattle.description_board.specs.Records.{Slave}
use Rattle.fabric_transfer.specs.declared.Transfer.{Transfer}
use Rattle.fabric_transfer.specs.Accesses.{accesses}

-- rule 4.12: how long a run is at the most
unfoldable pub run_limit : Master → Slave → ℕ
run_limit ma sl = cond (ltb ma.width sl.width) 1 sl.burst

-- rule 4.13: its place in its run
unfoldable pub place_of : Master → Slave → ℕ → ℕ
place_of ma sl k = k % run_limit ma sl

-- rules 4.12, 4.13: the length of the run that it is in; the last run has what is left
unfoldable pub run_of : Master → Slave → Transfer → ℕ → ℕ
run_of ma sl t k = min (run_limit ma sl) (accesses ma sl t - k / run_limit ma sl * run_limit ma sl)

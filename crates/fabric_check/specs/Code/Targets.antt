-- Gives the code of fabric_check and fabric_cycle its shape: the slave of each held transfer, and requests as a mask.
-- Both are worked out once a call, and stand as long as no transfer ends. The code's form of `holds_for` (rule 3.6).
-- Assumes nothing.
use Rattle.std.specs.Prelude.{cond, List, ℕ, ◌^◌, eqb, get_or}
use Rattle.common_laws.specs.Lists.{table, sum}
use Rattle.description_board.specs.declared.Board.{Board}
use Rattle.fabric_transfer.specs.declared.Transfer.{Transfer}
use Rattle.fabric_transfer.specs.Accesses.{no_transfer}
use Rattle.fabric_transfer.specs.Decoding.{target_of}
use Rattle.fabric_state.specs.declared.State.{State}
use Rattle.fabric_state.specs.Soundness.{unmapped_at}

-- the slave of master m's transfer t, or the count of slaves where it is not held or for none
unfoldable pub held_target : Board → ℕ → Transfer → ℕ
held_target b m t = cond t.held (target_of b m t.address) b.slave_count

unfoldable pub target_in : Board → List Transfer → ℕ → ℕ
target_in b transfers m = held_target b m (get_or transfers m no_transfer)

unfoldable pub targets_in : Board → List Transfer → List ℕ
targets_in b transfers = table (target_in b transfers) 8

-- bit m is 1 where the transfer of master m is for slave s
unfoldable pub request_mask : List ℕ → ℕ → ℕ
request_mask targets s = sum (λ m. cond (eqb (get_or targets m 0) s) (2 ^ m) 0) 8

-- bit m is 1 where master m holds an unmapped transfer (rule 4.17)
unfoldable pub unmapped_mask : Board → State → ℕ
unmapped_mask b st = sum (λ m. cond (unmapped_at b st m) (2 ^ m) 0) 8

-- Posting: what is asked for (rules 3.1, 3.3), which transfers are unmapped (rule 3.7), and what a transfer is refused for (rules 7.13
-- to 7.17).
-- Assumes nothing.
use Rattle.std.specs.Prelude.{Bool, true, cond, not, ◌||◌, List, ℕ, ◌+◌, ◌*◌, ◌%◌, ltb, eqb, set}
use Rattle.description_board.specs.declared.Master.{Master}
use Rattle.description_board.specs.Records.{Slave}
use Rattle.description_board.specs.declared.Board.{Board}
use Rattle.description_board.specs.Records.{master_at, slave_at}
use Rattle.fabric_transfer.specs.declared.Transfer.{Transfer}
use Rattle.fabric_lanes.specs.Lanes.{post_lanes}
use Rattle.fabric_transfer.specs.Decoding.{target_of}
use Rattle.fabric_state.specs.declared.State.{State}

-- rule 3.1: a post: the master, its transfer and its words
pub record Request : Type 0 where
  pub master : ℕ
  pub write : Bool
  pub address : ℕ
  pub lanes : ℕ
  pub beats : ℕ
  pub words : List ℕ

-- rule 3.1: the transfer that a request asks for
abbrev pub transfer_of : Request → Transfer
transfer_of q = record { held = true; write = q.write; address = q.address; lanes = q.lanes; beats = q.beats }

-- rule 7.13: the count of beats
unfoldable pub wrong_beats : Master → Transfer → Bool
wrong_beats ma t = eqb t.beats 0 || ltb ma.burst t.beats

-- rule 7.14: the address by the width
unfoldable pub unaligned : Master → Transfer → Bool
unaligned ma t = not (eqb (t.address % ma.width) 0)

-- rule 7.15: the lanes
unfoldable pub wrong_lanes : Master → Transfer → Bool
wrong_lanes ma t = not (post_lanes ma.width t.lanes t.beats)

-- rule 3.7: what stands for the slave is the count of slaves: the address selects none
unfoldable pub unmapped : ℕ → ℕ → Bool
unmapped s count = eqb s count

-- rule 3.7: the transfer t of master m is unmapped
unfoldable pub is_unmapped : Board → ℕ → Transfer → Bool
is_unmapped b m t = unmapped (target_of b m t.address) b.slave_count

-- rule 7.17: the end of the slave
unfoldable pub passes_end : Master → Slave → Transfer → Bool
passes_end ma sl t = ltb (sl.base + sl.span) (t.address + t.beats * ma.width)

-- rules 3.7, 7.13 to 7.17, 8.4: what a transfer is refused for, or 0: of its master, the slave that it is for, that slave's number
-- s, which is the count of slaves where it is for none, and whether the board has the line `default`
unfoldable pub transfer_refusal_by : Master → Slave → Transfer → ℕ → ℕ → Bool → ℕ
transfer_refusal_by ma sl t s count default =
    cond (wrong_beats ma t) 13
    (cond (unaligned ma t) 14
    (cond (wrong_lanes ma t) 15
    (cond (unmapped s count) (cond default 0 16)
    (cond (passes_end ma sl t) 17
    0))))

-- rules 7.13 to 7.17: what the transfer t of master m is refused for, or 0
unfoldable pub transfer_refusal : Board → ℕ → Transfer → ℕ
transfer_refusal b m t =
    let s = target_of b m t.address in
    transfer_refusal_by (master_at b m) (slave_at b s) t s b.slave_count b.default_line

-- rule 3.3: master m holds the transfer t; the latency clocks to pass and the log stay
unfoldable pub with_transfer : State → ℕ → Transfer → State
with_transfer st m t = record { transfers = set st.transfers m t; slots = st.slots; late = st.late; log = st.log }

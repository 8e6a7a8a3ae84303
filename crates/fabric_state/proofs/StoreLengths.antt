-- A clock moves bytes and changes no length.
-- Assumes nothing.
use mathlib.Core.Path.{◌≡◌, refl, ◌∙◌}
use mathlib.Core.Bool.{Bool, true, false, cond}
use Prim.Native.Nat.{ℕ, zero, suc, ◌*◌}
use lib.ListN.{length}
use Rattle.description_board.specs.declared.Board.{Board}
use Rattle.description_board.specs.Records.{master_at, slave_at, start_of}
use Rattle.fabric_transfer.specs.Accesses.{access_number}
use Rattle.fabric_transfer.specs.Bytes.{Store, cleared_words, carried_access}
use Rattle.fabric_transfer.proofs.StoreLaws.{length_memory, length_buffer, length_cleared}
use Rattle.fabric_state.specs.declared.Slot.{Slot}
use Rattle.fabric_state.specs.declared.State.{State}
use Rattle.fabric_state.specs.Records.{transfer_at}
use Rattle.fabric_state.specs.Control.{slot_after_grant}
use Rattle.fabric_state.specs.Carrying.{carries_out, carried, carried_by, clears, cleared_by, store_after}

-- both lengths are those of another store
abbrev pub SameLengths : Store → Store → Type 0
SameLengths e d = (length e.memory ≡ length d.memory) × (length e.buffer ≡ length d.buffer)

carried_one : (b : Board) (st : State) (s : ℕ) (d : Store) → SameLengths (carried b st s d) d
unfolding carried
carried_one b st s d = go (carries_out b st s)
  where
    slot : Slot
    slot = slot_after_grant b st s

    -- the access of this clock, or none
    then : Bool → Store
    then c =
        let m = slot.owner in
        let ma = master_at b m in
        let t = transfer_at st m in
        cond c (carried_access ma (slave_at b s) t m (start_of b s) (access_number ma (slave_at b s) t slot.done) d) d

    go : (c : Bool) → SameLengths (then c) d
    go true = (length_memory _ _ _ _ _ _ d, length_buffer _ _ _ _ _ _ d)
    go false = (refl, refl)

pub carried_length : (b : Board) (st : State) (n : ℕ) (d : Store) → SameLengths (carried_by b st n d) d
unfolding carried_by
carried_length b st zero d = (refl, refl)
carried_length b st (suc n) d =
    let x = carried_one b st n (carried_by b st n d) in
    let y = carried_length b st n d in
    (x.0 ∙ y.0, x.1 ∙ y.1)

pub cleared_length : (b : Board) (st : State) (n : ℕ) (d : Store) → SameLengths (cleared_by b st n d) d
unfolding cleared_by
cleared_length b st zero d = (refl, refl)
cleared_length b st (suc n) d = go (clears b st n) (cleared_length b st n d)
  where
    e : Store
    e = cleared_by b st n d

    words : ℕ
    words = (transfer_at st n).beats * (master_at b n).width

    go : (c : Bool) → SameLengths e d
        → SameLengths (cond c (record { memory = e.memory; buffer = cleared_words n words e.buffer }) e) d
    go true rest = (rest.0, length_cleared n words e.buffer ∙ rest.1)
    go false rest = rest

pub store_length : (b : Board) (st : State) (d : Store) → SameLengths (store_after b st d) d
unfolding store_after
store_length b st d =
    let x = cleared_length b st 8 (carried_by b st b.slave_count d) in
    let y = carried_length b st b.slave_count d in
    (x.0 ∙ y.0, x.1 ∙ y.1)

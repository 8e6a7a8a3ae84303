-- The zeros of unmapped reads (rule 4.17) against the byte memory: they leave the memory, and the part of every master that holds no
-- unmapped transfer, so that what is true of a slave and the masters whose transfers are for it stays true.
-- Assumes nothing.
use mathlib.Core.Path.{◌≡◌, refl, sym, ap}
use mathlib.Core.Bool.{false}
use Prim.Native.Nat.{ℕ}
use lib.ListN.{length}
use Rattle.description_board.specs.declared.Board.{Board}
use Rattle.description_board.specs.Records.{start_of}
use Rattle.description_board.specs.Legal.{Legal}
use Rattle.fabric_transfer.specs.Bytes.{Store}
use Rattle.fabric_transfer.proofs.Ranges.{agree_refl, agree_sym}
use Rattle.fabric_state.specs.declared.Slot.{Slot}
use Rattle.fabric_state.specs.declared.State.{State}
use Rattle.fabric_state.specs.Soundness.{unmapped_at}
use Rattle.fabric_state.specs.Carrying.{cleared_by}
use Rattle.fabric_state.proofs.Sound.{Sound}
use Rattle.fabric_state.proofs.StoreLengths.{cleared_length}
use Rattle.fabric_state.proofs.ClearLaws.{clears_not, cleared_memory, cleared_part}
use Rattle.theorem_history.specs.Claim.{Reference}
use Rattle.theorem_history.proofs.ReadBytes.TransferBytes.{end_of}
use Rattle.theorem_history.proofs.ReadBytes.SlaveBytes.{Right, SameMaster, right_kept}
use Rattle.theorem_history.proofs.ReadBytes.ActiveTransfers.{active_at, lies, wants_mapped}

module _ (b : Board) (legal : Legal b) (st : State) (sound : Sound b st) (d : Store) (r : Reference) where
  -- with the words of every unmapped read cleared
  abbrev then : Store
  then = cleared_by b st 8 d

  pub cleared_length_is : length d.buffer ≡ length then.buffer
  cleared_length_is = sym (cleared_length b st 8 d).1

  pub cleared_master : (m : ℕ) → unmapped_at b st m ≡ false → SameMaster d then r r m
  cleared_master m mapped = record {
    part = agree_sym (cleared_part b st legal sound 8 d m (clears_not b st m mapped));
    request = refl;
    waiting = refl;
    given = refl;
  }

  pub cleared_right : (k : ℕ) (x : Slot) → Right b (active_at st) d r k x → Right b (active_at st) then r k x
  cleared_right k x =
      right_kept b (active_at st) k (λ m. lies b legal st sound m k) d then r r x
      (record {
        memory = ap length (sym (cleared_memory b st 8 d));
        buffer = cleared_length_is;
        bytes = refl;
        range = rw (cleared_memory b st 8 d) (agree_refl (start_of b k) (end_of b k) d.memory);
        step = agree_refl (start_of b k) (end_of b k) r.bytes;
      })
      (λ m w. cleared_master m (wants_mapped b legal st sound m k w))

-- The two readings of which accesses are carried out are one.
-- Assumes nothing.
use mathlib.Core.Path.{◌≡◌, ◌∙◌}
use mathlib.Core.Bool.{false, and-false}
use Prim.Native.Nat.{ℕ, ◌+◌, ◌*◌, ◌<◌}
use native.Mathlib.Nat.{add-zero}
use native.Mathlib.Omega.{arith}
use Rattle.common_laws.specs.Lists.{table}
use Rattle.common_laws.proofs.FilteredLaws.{filtered_member, filtered_rising, filtered_all}
use Rattle.description_board.specs.declared.Master.{Master}
use Rattle.description_board.specs.Records.{Slave}
use Rattle.fabric_transfer.specs.declared.Transfer.{Transfer}
use Rattle.fabric_transfer.specs.Alignment.{ratio, leaves_out}
use Rattle.fabric_transfer.specs.Accesses.{accessed, access_numbers, accesses, access_number}
use Rattle.fabric_transfer.specs.CarriedOut.{CarriedOut}
use Rattle.fabric_transfer.specs.Code.Numbers.{Posted, first_access}
use Rattle.fabric_transfer.proofs.NumberLaws.{leaves_none, number_is}

module _ (ma : Master) (sl : Slave) (t : Transfer) where
  -- where nothing is left out
  every : leaves_out sl t ≡ false → access_numbers ma sl t ≡ table (λ a. a) (t.beats * ratio ma sl)
  unfolding access_numbers
  every e = filtered_all (accessed ma sl t) (t.beats * ratio ma sl) (λ a h. leaves_none ma sl t e a)

  side : Posted ma sl t → (k : ℕ) → k < accesses ma sl t → access_number ma sl t k ≡ access_number ma sl t 0 + k
  side p k h =
      omega (arith, number_is ma sl t p k h, number_is ma sl t p 0 (omega arith), add-zero (first_access ma sl t))

  pub carried_out : CarriedOut ma sl t
  unfolding leaves_out accessed access_numbers accesses access_number
  carried_out = record {
    written = λ w n a. filtered_member (accessed ma sl t) (t.beats * ratio ma sl) a ∙ rw (w, n);
    read = λ w. every (rw w);
    native = λ n. every (rw (n, and-false));
    rising = filtered_rising (accessed ma sl t) (t.beats * ratio ma sl);
    adjacent = λ m s some lanes. side (record { wide = record { master = m; slave = s }; some = some; lanes = lanes });
  }

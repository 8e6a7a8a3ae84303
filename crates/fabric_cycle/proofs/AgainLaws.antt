-- One clock after another: where nobody is finished, the requests are those of before.
-- Assumes nothing.
use mathlib.Core.Path.{◌≡◌, sym, ap, ◌∙◌}
use mathlib.Core.Bool.{false}
use mathlib.Core.List.{List}
use Prim.Native.Nat.{ℕ, ◌<◌}
use native.Mathlib.Omega.{arith}
use lib.ListN.{length}
use Rattle.common_laws.specs.Bits.{bit}
use Rattle.common_laws.specs.Lists.{table}
use Rattle.common_laws.proofs.BitLaws.{bit_above}
use Rattle.common_laws.proofs.FillLaws.{table_is}
use Rattle.description_board.specs.declared.Board.{Board}
use Rattle.fabric_transfer.specs.Accesses.{no_transfer}
use Rattle.fabric_transfer.specs.Bytes.{Store}
use Rattle.fabric_state.specs.declared.State.{State}
use Rattle.fabric_state.specs.declared.Line.{Line}
use Rattle.fabric_state.specs.Soundness.{unmapped_at}
use Rattle.fabric_state.specs.Control.{finished, mask_of, transfer_after, state_after}
use Rattle.fabric_state.proofs.StateLaws.{mask_bit, transfer_kept}
use Rattle.fabric_check.specs.Code.Targets.{targets_in, request_mask, unmapped_mask}
use Rattle.fabric_cycle.specs.Code.Cycles.{Clocks}

-- for a state of 8 transfers
module _ (b : Board) (u : State) (l : length u.transfers ≡ 8) where
  none_finished : mask_of b u ≡ 0 → (m : ℕ) → m < 8 → finished b u m ≡ false
  none_finished e m h =
      sym (mask_bit b u m h) ∙ ap (λ (x : ℕ). bit x m) e ∙ bit_above 0 0 m (omega arith) (omega arith)

  pub transfers_kept : mask_of b u ≡ 0 → (state_after b u).transfers ≡ u.transfers
  unfolding state_after
  transfers_kept e =
      sym (table_is (transfer_after b u) 8 no_transfer u.transfers l (λ m h. sym (transfer_kept b u m (none_finished e m h))))

-- the state v, the mask r and the bytes e that a clock leaves of the state u and the bytes d
module _ (b : Board) (u v : State) (shown : List Line) (r : ℕ) (d e : Store) (l : length u.transfers ≡ 8)
    (c : Clocks b u v shown r d e) where
  pub same_transfers : r ≡ 0 → v.transfers ≡ u.transfers
  same_transfers z = ap (λ (x : State). x.transfers) c.state ∙ transfers_kept b u l (sym c.mask ∙ z)

  pub same_unmapped : {unmapped : ℕ} → r ≡ 0 → unmapped ≡ unmapped_mask b u → unmapped ≡ unmapped_mask b v
  unfolding unmapped_mask unmapped_at
  same_unmapped z q = q ∙ rw (same_transfers z)

  pub same_requests : {masks : List ℕ} → r ≡ 0 → masks ≡ table (request_mask (targets_in b u.transfers)) 16
      → masks ≡ table (request_mask (targets_in b v.transfers)) 16
  same_requests z q = q ∙ rw (same_transfers z)

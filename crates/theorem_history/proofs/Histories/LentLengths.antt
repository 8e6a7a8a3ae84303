-- The lengths of memory and buffer: calls keep them, and a clock that counts was lent the exact ones, so that the history's start
-- was.
-- Assumes nothing.
use mathlib.Core.Path.{sym, ◌∙◌}
use mathlib.Core.List.{List}
use Prim.Native.Nat.{◌≤◌}
use native.Mathlib.Omega.{arith}
use lib.ListN.{length}
use Rattle.description_board.specs.declared.Board.{Board}
use Rattle.fabric_transfer.proofs.StoreLaws.{length_posted}
use Rattle.fabric_state.specs.Posting.{Request}
use Rattle.fabric_calls.specs.Calls.{World}
use Rattle.fabric_calls.proofs.ClockLaws.{exact_lengths}
use Rattle.theorem_history.specs.Claim.{Call, History, Lent, after, answers}
use Rattle.theorem_history.proofs.Histories.CallCases.{TakesClock, with_post, with_take, keeps, tells}

module _ (b : Board) where
  pub clock_lent : (w : World) → TakesClock b w → Lent b w
  clock_lent w e = let l = exact_lengths b w.state w.store e in record { memory = l.0; buffer = l.1 }

  -- what stood before a post had the lengths that it left
  pub post_before : (w : World) (q : Request) → Lent b (with_post w q) → Lent b w
  post_before w q x = record {
    memory = x.memory;
    buffer = sym (length_posted q.master q.words w.store.buffer) ∙ x.buffer;
  }

  -- and before a take
  take_before : (w : World) → Lent b (with_take w) → Lent b w
  take_before w x = record { memory = x.memory; buffer = x.buffer }

  -- and before a history
  pub lent_before : (cs : List Call) (w : World) → History b w cs → Lent b (after w cs) → Lent b w
  lent_before cs w h =
      keeps b (λ u. Lent b u → Lent b w) (λ u q t f x. f (post_before u q x)) (λ u t f x. f (clock_lent u t))
      (λ u t f x. f (take_before u x)) cs w h (λ x. x)

  -- a history in which a clock counts
  pub counted_lent : (cs : List Call) (w : World) → History b w cs → 1 ≤ length (answers cs) → Lent b w
  counted_lent =
      tells b (λ w xs. 1 ≤ length xs → Lent b w)
      (λ w l. absurd (omega arith)) (λ w q t xs f l. post_before w q (f l)) (λ w t xs f l. clock_lent w t)
      (λ w t xs f l. take_before w (f l))

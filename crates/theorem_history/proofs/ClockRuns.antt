-- A run of clocks (rule 4.15) behind any calls of a history counts as its clocks (rule 6.11).
-- Assumes nothing.
use mathlib.Core.Path.{◌≡◌, refl, sym, ap, ◌∙◌}
use mathlib.Core.List.{List}
use mathlib.Core.Bool.{Bool, true, false, cond}
use mathlib.Core.Logic.{inr}
use Prim.Native.Nat.{ℕ, zero, suc, ◌+◌, ◌≤◌}
use native.Mathlib.Omega.{arith}
use lib.Dec.{eqb}
use lib.ListN.{length, length-replicate}
use borrow.Author.Tests.{eqb-true}
use Rattle.description_board.specs.declared.Board.{Board}
use Rattle.fabric_calls.specs.Calls.{World, clock_refusal, after_clock}
use Rattle.fabric_calls.specs.Running.{Run, standing, clock_more, clock_on, run}
use Rattle.fabric_calls.proofs.RunOfClocks.{Sized, sized_after, clock_is, store_is, refusal_again}
use Rattle.fabric_state.specs.Posting.{Request, transfer_of}
use Rattle.fabric_state.specs.Resetting.{reset_state, state_at_reset}
use Rattle.fabric_state.specs.Logging.{with_log}
use Rattle.fabric_state.proofs.StateLaws.{transfers_with, slots_with, lates_with}
use Rattle.fabric_transfer.specs.Accesses.{no_transfer}
use Rattle.common_laws.proofs.TableLaws.{length_table}
use Rattle.theorem_history.specs.Claim.{number_answered, Handed, leaves, next, after, History, answers, Call, Start}
use Rattle.theorem_history.specs.ClockRuns.{clock_calls, Counts}
use Rattle.theorem_history.proofs.Histories.CallCases.{clock_at, TakesClock, with_post, with_take, clock_number}
use Rattle.theorem_history.proofs.Histories.CallCases.{taken_next, keeps}
use Rattle.theorem_history.proofs.Histories.Standing.{start_state}

-- the clocks that pass of a run from r to q, and what is true of them
record Between (b : Board) (most : ℕ) (r q : Run) : Type 0 where
  passed : ℕ
  few : passed ≤ most
  clocks : q.clocks ≡ r.clocks + passed
  history : History b r.world (clock_calls b r.world passed)
  taken : length (answers (clock_calls b r.world passed)) ≡ passed
  leaves : q.world ≡ after r.world (clock_calls b r.world passed)

module _ (b : Board) where
  number_is : (w : World) → TakesClock b w → number_answered (clock_at b w) ≡ 0
  unfolding number_answered
  number_is w e = clock_number b w.state w.store ∙ e

  -- where a clock is not refused, the next call gets what it leaves
  next_is : (w : World) → TakesClock b w → next w (clock_at b w) ≡ after_clock b w
  unfolding leaves after_clock
  next_is w e = taken_next w (clock_at b w) (number_is w e)

  -- no clock passes: the run is over, or refused
  none : (most : ℕ) (r q : Run) → q.clocks ≡ r.clocks → q.world ≡ r.world → Between b most r q
  unfolding clock_calls History answers after
  none most r q e f = record { passed = 0; few = omega arith; clocks = omega arith; history = tt; taken = refl; leaves = f }

  one_more : (most : ℕ) (r q : Run) → TakesClock b r.world → Between b most (clock_more b r) q → Between b (suc most) r q
  unfolding clock_calls clock_more History Handed answers after
  one_more most r q e x =
      let w = r.world in
      let n = next_is w e in
      record {
        passed = suc x.passed;
        few = omega (arith, x.few);
        clocks = omega (arith, x.clocks);
        history = (inr (refl, refl, refl), rw n x.history);
        taken = rw (clock_is b w.state w.store e) (ap suc x.taken);
        leaves = x.leaves ∙ ap (λ (u : World). after u (clock_calls b (after_clock b w) x.passed)) (sym n);
      }

  -- behind a clock that is taken the next one is taken too
  more_sized : (r : Run) → TakesClock b r.world → Sized (clock_more b r).world.state
  unfolding clock_more after_clock
  more_sized r e = rw (clock_is b r.world.state r.world.store e) (sized_after b r.world.state)

  more_free : (r : Run) → Sized r.world.state → TakesClock b r.world → TakesClock b (clock_more b r).world
  unfolding clock_more after_clock
  more_free r z e =
      let w = r.world in
      rw (clock_is b w.state w.store e, store_is b w.state w.store e) (refusal_again b w.state w.store e z)

  between : (most : ℕ) (r : Run) → Sized r.world.state → TakesClock b r.world → Between b most r (clock_on b most r)
  unfolding clock_on
  between zero r z e = none 0 r r refl refl
  between (suc most) r z e =
      go (eqb r.mask 0) (one_more most r _ e (between most (clock_more b r) (more_sized r e) (more_free r z e)))
    where
      go : (c : Bool) → Between b (suc most) r (clock_on b most (clock_more b r))
          → Between b (suc most) r (cond c (clock_on b most (clock_more b r)) r)
      go true x = x
      go false x = none (suc most) r r refl refl

pub run_counts : (b : Board) (w : World) (most : ℕ) → Sized w.state → Counts b w most
unfolding run
run_counts b w most z = go (eqb (clock_refusal b w.state w.store) 0) refl
  where
    n : ℕ
    n = clock_refusal b w.state w.store

    counts : (q : Run) → run b w most ≡ q → Between b most (standing 0 w) q → Counts b w most
    counts q f x =
        let k : (run b w most).clocks ≡ x.passed = ap (λ (y : Run). y.clocks) f ∙ omega (arith, x.clocks) in
        record {
          few = omega (arith, k, x.few);
          history = rw k x.history;
          taken = rw k x.taken;
          leaves = rw k (ap (λ (y : Run). y.world) f ∙ x.leaves);
        }

    go : (c : Bool) → eqb n 0 ≡ c → Counts b w most
    go true e = counts _ (rw e) (between b most (standing 0 w) z (eqb-true n 0 e))
    go false e = counts (standing n w) (rw e) (none b most (standing 0 w) (standing n w) refl refl)

-- ---- in a history

start_sized : (b : Board) (w : World) → Start b w → Sized w.state
unfolding state_at_reset reset_state
start_sized b w x =
    rw (start_state b w x)
    (record { transfers = length-replicate 8 no_transfer; slots = length_table _ 16; lates = length-replicate {A = ℕ} 8 0 })

post_sized : (w : World) (q : Request) → Sized w.state → Sized (with_post w q).state
post_sized w q z = record {
  transfers = transfers_with w.state q.master (transfer_of q) ∙ z.transfers;
  slots = rw (slots_with w.state q.master (transfer_of q)) z.slots;
  lates = rw (lates_with w.state q.master (transfer_of q)) z.lates;
}

take_sized : (w : World) → Sized w.state → Sized (with_take w).state
unfolding with_log
take_sized w z = record { transfers = z.transfers; slots = z.slots; lates = z.lates }

pub run_in_history : (b : Board) (w : World) (calls : List Call) (most : ℕ) → Start b w → History b w calls
    → Counts b (after w calls) most
run_in_history b w calls most x h =
    run_counts b (after w calls) most
    (keeps b (λ u. Sized u.state) (λ u q t z. post_sized u q z) (λ u t z. sized_after b u.state)
    (λ u t z. take_sized u z) calls w h (start_sized b w x))

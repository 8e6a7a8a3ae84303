-- The wait is safe: in every history the first cycle comes at clock w + 1 or before (rule 6.3), and the finish at clock
-- w + own length + latency or before (rule 6.4).
-- Assumes nothing.
use mathlib.Core.Path.{◌≡◌}
use mathlib.Core.Bool.{true}
use mathlib.Core.List.{List}
use Prim.Native.Nat.{◌+◌, ◌≤◌}
use native.Mathlib.Numerals.{add-one}
use native.Mathlib.Omega.{arith}
use lib.ListN.{length, take}
use Rattle.description_board.specs.declared.Board.{Board}
use Rattle.description_board.specs.Legal.{Legal}
use Rattle.fabric_state.specs.Posting.{Request, transfer_of}
use Rattle.fabric_calls.specs.Calls.{World, post, after_post}
use Rattle.theorem_history.specs.Claim.{Call, Start, History, after, answers, shows, names, any, Accepted}
use Rattle.theorem_history.specs.Claim.{slave_for, Mapped, wait_for, length_of, late_for}
use Rattle.theorem_history.proofs.Histories.CallCases.{TakesPost, with_post, post_leaves}
use Rattle.theorem_history.proofs.Histories.LentLengths.{post_before, lent_before, counted_lent}
use Rattle.theorem_history.proofs.Histories.OnePost.{Taken, post_taken_lem}
use Rattle.theorem_history.proofs.Histories.Standing.{Standing, post_stands, history_stands}
use Rattle.theorem_history.proofs.Safe.ClockTests.{by_more}
use Rattle.theorem_history.proofs.Safe.WaitBounds.{Bounds, bounds}
use Rattle.theorem_history.proofs.Safe.PostedWait.{fits, lasts, own_length_lem, own_latency, posted_waits}

module _
    (b : Board) (legal : Legal b) (w : World) (before : List Call) (q : Request) (calls : List Call) (start : Start b w)
    (history : History b w before) (accepted : Accepted b (after w before) q)
    (mapped : Mapped b q) (later : History b (after_post b (after w before) q) calls)
  where
    -- where the request is posted
    abbrev here : World
    here = after w before

    takes : TakesPost b here q
    unfolding Accepted post
    takes = accepted

    taken : Taken b here.state q
    taken = post_taken_lem b here q takes

    behind : History b (with_post here q) calls
    behind = rw (post_leaves b here q takes) at later

    -- a history with a clock that counts was lent the exact lengths from its start
    stands : 1 ≤ length (answers calls) → Standing b here
    stands some =
        history_stands b legal w before start
        (lent_before b before w history (post_before b here q (counted_lent b calls (with_post here q) behind some))) history

    bounded : (some : 1 ≤ length (answers calls))
        → Bounds b q.master (slave_for b q) (transfer_of q) (with_post here q).state (answers calls)
    bounded some =
        bounds b legal q.master taken.master (slave_for b q) (fits b legal here.state q mapped taken).within (transfer_of q)
        (lasts b legal here.state q mapped taken) calls (with_post here q) behind (post_stands b legal here q (stands some) taken)

    pub within : wait_for b q + 1 ≤ length (answers calls)
        → any (shows q.master) (take (wait_for b q + 1) (answers calls)) ≡ true
    within l =
        let some : 1 ≤ length (answers calls) = omega arith in
        let k = wait_for b q in
        rw (add-one k) ((bounded some).first k (posted_waits b legal here (stands some) q mapped taken) (omega arith))

    pub finished : wait_for b q + length_of b q + late_for b q ≤ length (answers calls)
        → any (names q.master) (take (wait_for b q + length_of b q + late_for b q) (answers calls)) ≡ true
    finished l =
        let lasting = lasts b legal here.state q mapped taken in
        let enough = own_length_lem b legal here.state q mapped taken in
        let late = own_latency b legal here.state q mapped taken in
        let some : 1 ≤ length (answers calls) = omega arith in
        let k = wait_for b q in
        by_more (names q.master) _ (k + length_of b q + late_for b q) (answers calls) (omega arith)
        ((bounded some).finish k (posted_waits b legal here (stands some) q mapped taken)) l

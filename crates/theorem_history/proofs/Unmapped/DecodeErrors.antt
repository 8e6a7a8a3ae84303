-- An unmapped post that is taken (rule 6.12): its master holds it until the first clock behind it, and that clock finishes it with
-- response 3 and leaves zeros for a read.
-- Assumes nothing.
use mathlib.Core.Path.{◌≡◌, sym, ap, ◌∙◌}
use mathlib.Core.Bool.{true, false, true≢false}
use mathlib.Core.List.{List, []}
use mathlib.Core.Logic.{◌≢◌}
use Prim.Native.Nat.{ℕ, ◌<◌}
use native.Mathlib.Omega.{arith}
use lib.ListN.{length, take, drop, replicate}
use borrow.Author.Tests.{eq-eqb}
use Rattle.description_board.specs.declared.Board.{Board}
use Rattle.description_board.specs.Legal.{Legal}
use Rattle.fabric_transfer.specs.declared.Transfer.{Transfer}
use Rattle.fabric_transfer.specs.Bytes.{buffer_length, part_of}
use Rattle.fabric_state.specs.declared.State.{State}
use Rattle.fabric_state.specs.Records.{transfer_at}
use Rattle.fabric_state.specs.Posting.{Request, transfer_of, unmapped, is_unmapped}
use Rattle.fabric_state.specs.Soundness.{unmapped_at}
use Rattle.fabric_state.specs.Logging.{with_log}
use Rattle.fabric_state.specs.Carrying.{carried_by, store_after}
use Rattle.fabric_calls.specs.Calls.{World, post, after_post, clock, store_after_clock}
use Rattle.fabric_state.proofs.Sound.{Sound}
use Rattle.fabric_state.proofs.StateLaws.{transfer_with, transfer_with_other, mask_bit, response_after}
use Rattle.fabric_state.proofs.StateLaws.{finished_unmapped, response_unmapped}
use Rattle.fabric_state.proofs.RequestLaws.{unmapped_of}
use Rattle.fabric_state.proofs.SoundLaws.{take_sound}
use Rattle.fabric_state.proofs.StoreLengths.{carried_length}
use Rattle.fabric_state.proofs.ClearLaws.{clears_of, cleared_zeros}
use Rattle.fabric_calls.proofs.RunOfClocks.{clock_is, store_is}
use Rattle.fabric_calls.proofs.ClockLaws.{exact_lengths}
use Rattle.theorem_history.specs.Claim.{Call, after, History, Start, answers, names, response_to, slave_for, Unmapped}
use Rattle.theorem_history.specs.Claim.{Accepted, bytes_in, DecodeError}
use Rattle.theorem_history.proofs.Histories.CallCases.{TakesPost, TakesClock, with_post, with_take, post_leaves}
use Rattle.theorem_history.proofs.Histories.CallCases.{clock_number, leads}
use Rattle.theorem_history.proofs.Histories.OnePost.{post_taken_lem}
use Rattle.theorem_history.proofs.Histories.Standing.{posted_sound, history_sound}

-- the request's master holds its transfer
record Holds (b : Board) (q : Request) (w : World) : Type 0 where
  sound : Sound b w.state
  transfer : transfer_at w.state q.master ≡ transfer_of q

module _ (b : Board) (legal : Legal b) (q : Request) where
  -- ---- calls without a clock that counts

  post_holds : (w : World) (p : Request) → TakesPost b w p → Holds b q w → Holds b q (with_post w p)
  post_holds w p e x =
      let free = (post_taken_lem b w p e).free in
      let held : (transfer_at w.state q.master).held ≡ true = ap (λ (t : Transfer). t.held) x.transfer in
      let other : q.master ≢ p.master =
      λ s. true≢false (sym held ∙ ap (λ (m : ℕ). (transfer_at w.state m).held) s ∙ free) in
      record {
        sound = posted_sound b legal w p e x.sound;
        transfer = transfer_with_other w.state p.master (transfer_of p) q.master other ∙ x.transfer;
      }

  take_holds : (w : World) → Holds b q w → Holds b q (with_take w)
  unfolding with_log
  take_holds w x = record { sound = take_sound b w.state x.sound; transfer = x.transfer }

  holds_on : (cs : List Call) (w : World) → History b w cs → answers cs ≡ [] → Holds b q w → Holds b q (after w cs)
  holds_on cs w h quiet x =
      (leads b (λ u xs. (xs ≡ []) × Holds b q u) (λ u p t xs y. (y.0, post_holds u p t y.1))
      (λ u t xs y. absurd (omega (arith, ap length y.0))) (λ u t xs y. (y.0, take_holds u y.1)) cs w h (quiet, x)).1

  -- ---- the clock

  module _ (none : Unmapped b q) (known : q.master < 8) (w : World) (x : Holds b q w) (e : TakesClock b w) where
    abbrev st : State
    st = w.state

    abbrev m : ℕ
    m = q.master

    unmapped_now : unmapped_at b st m ≡ true
    unfolding is_unmapped unmapped slave_for
    unmapped_now =
        unmapped_of b st m (ap (λ (t : Transfer). t.held) x.transfer)
        (rw x.transfer (eq-eqb (slave_for b q) b.slave_count none))

    finished_now : names m (clock b st w.store) ≡ true
    unfolding names
    finished_now =
        rw (clock_is b st w.store e) (mask_bit b st m known ∙ finished_unmapped b st m unmapped_now)

    response_now : response_to m (clock b st w.store) ≡ 3
    unfolding response_to
    response_now =
        rw (clock_is b st w.store e) (response_after b st m known ∙ response_unmapped b st m unmapped_now)

    zeros_now : q.write ≡ false
        → take (bytes_in b q) (drop (part_of m) (store_after_clock b st w.store).buffer) ≡ replicate (bytes_in b q) 0
    unfolding bytes_in store_after
    zeros_now read =
        let d = carried_by b st b.slave_count w.store in
        let long : length d.buffer ≡ buffer_length =
        (carried_length b st b.slave_count w.store).1 ∙ (exact_lengths b st w.store e).1 in
        let read_held : (transfer_at st m).write ≡ false = ap (λ (t : Transfer). t.write) x.transfer ∙ read in
        rw (store_is b st w.store e)
        (rw x.transfer at
        (cleared_zeros b st legal x.sound 8 d m (omega arith) long (clears_of b st m unmapped_now read_held) known))

    decode_error : DecodeError b w q
    decode_error = record { finished = finished_now; response = response_now; zeros = zeros_now }

-- ---- the claim

pub unmapped_right : (b : Board) → Legal b → (w : World) (before : List Call) (q : Request) (calls : List Call) → Start b w
    → History b w before → Accepted b (after w before) q → Unmapped b q
    → History b (after_post b (after w before) q) calls → answers calls ≡ []
    → let u = after (after_post b (after w before) q) calls in
    (clock b u.state u.store).number ≡ 0 → DecodeError b u q
unfolding Accepted post
unmapped_right b legal w before q calls start h accepted none later quiet free =
    let here = after w before in
    let sound = history_sound b legal w before start h in
    let t = post_taken_lem b here q accepted in
    let known : q.master < 8 = omega (arith, t.master, legal.few_masters) in
    let leaves = post_leaves b here q accepted in
    let u = after (with_post here q) calls in
    let posted : Holds b q (with_post here q) = record {
      sound = posted_sound b legal here q accepted sound;
      transfer = transfer_with here.state q.master (transfer_of q) sound.transfers known;
    } in
    let x = holds_on b legal q calls (with_post here q) (rw leaves at later) quiet posted in
    let number : (clock b u.state u.store).number ≡ 0 = rw leaves at free in
    rw leaves
    (decode_error b legal q none known u x (sym (clock_number b u.state u.store) ∙ number))
